-- A single command over a store for which room was made, or was there; or that was not opened: what the top call says of it.
use Rattle.backup_engine.proofs.Prelude.{◌≡◌, inl, inr, List, [], ℕ, Option, Some, refl, subst, DiskView, IsLater, SinkView, SourceView, Replied, IsNotFull, RoomMade, RoomUnmade, Refusal, Full, Refused, IsNotRead, Holds, Took, CommandLine, FailsAlone, RunsEachByFiles, SpeaksAs, DoesCommand, Keeps}
use Rattle.reply_text.specs.declared.ending.Ending.{Ending}
use Rattle.backup_engine.specs.Seen.{devices}

module _ (D : Type 0) (view : D → DiskView) (command : CommandLine) (given : List ℕ) (v w : DiskView) (source source_now : SourceView) (sink sink_now : SinkView) where
  -- it was opened as it was
  pub does_here : (rs : List Replied) (ending : Option Ending) → Keeps command given ending (devices v w source source_now sink sink_now) →
      SpeaksAs command given ending rs (devices v w source source_now sink sink_now)
      → RunsEachByFiles ending rs v w → (rs ≡ [] → FailsAlone ending rs v) → Holds v w → DoesCommand D view command given rs ending (devices v w source source_now sink sink_now)
  does_here rs ending keeps speaks by_files alone holds = record {
    by_files = by_files;
    fails_alone = alone;
    took = keeps.any.took;
    way = inl (inl ((keeps, speaks), λ free is. holds));
  }

  -- or once room was made
  pub does_made : (rs : List Replied) (ending : Option Ending) (mid : D) → RoomMade v (view mid) → Keeps command given ending (devices (view mid) w source source_now sink sink_now)
      → SpeaksAs command given ending rs (devices (view mid) w source source_now sink sink_now) → RunsEachByFiles ending rs v w → (rs ≡ [] → FailsAlone ending rs v)
      → IsLater (view mid) w →
      DoesCommand D view command given rs ending (devices v w source source_now sink sink_now)
  does_made rs ending mid made keeps speaks by_files alone later = record {
    by_files = by_files;
    fails_alone = alone;
    took = keeps.any.took;
    way = inl (inr (mid, (made, later, (keeps, speaks))));
  }

-- what is refused for another reason is not refused for that
pub full_not : (refusal : Refusal) (free : ℕ) → ◌≡◌ {A = Option Ending} (Some (Refused refusal)) (Some (Refused (Full free))) → IsNotFull refusal → ⊥
full_not refusal free is not =
    let same : refusal ≡ Full free = cc in
    subst IsNotFull same not

module _ (D : Type 0) (view : D → DiskView) (command : CommandLine) (given : List ℕ) (v w : DiskView) (source : SourceView) (sink : SinkView) (refusal : Refusal) where
  -- it wasn't, though not because too few slots are closed
  pub does_unread : IsNotRead refusal v w → IsNotFull refusal → Keeps command given (Some (Refused refusal)) (devices v w source source sink sink)
      → SpeaksAs command given (Some (Refused refusal)) [] (devices v w source source sink sink) → RunsEachByFiles (Some (Refused refusal)) [] v w
      → (◌≡◌ {A = List Replied} [] [] → FailsAlone (Some (Refused refusal)) [] v)
      → DoesCommand D view command given [] (Some (Refused refusal)) (devices v w source source sink sink)
  does_unread is not keeps speaks by_files alone = record {
    by_files = by_files;
    fails_alone = alone;
    took = keeps.any.took;
    way = inl (inl ((keeps, speaks), λ free is. absurd (full_not refusal free is not)));
  }

  -- or no room was made
  pub does_unmade : RoomUnmade refusal v w → Took command given (Some (Refused refusal)) source source → RunsEachByFiles (Some (Refused refusal)) [] v w
      → (◌≡◌ {A = List Replied} [] [] → FailsAlone (Some (Refused refusal)) [] v)
      → DoesCommand D view command given [] (Some (Refused refusal)) (devices v w source source sink sink)
  does_unmade is took by_files alone = record {
    by_files = by_files;
    fails_alone = alone;
    took = took;
    way = inr (record { refusal = refusal; ending_is = refl; unmade = is; none = refl; source_is = refl; sink_is = refl });
  }
