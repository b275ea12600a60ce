-- What a claim or a seal makes of a core, where what it keeps becomes live, too.
use Rattle.store_core.proofs.Prelude.{◌≡◌, ◌↔◌, ℕ, Bool, true, false, List, Option, None, Result, Ok, Err, refl, sym, ◌∙◌, subst, length, take, Runs, KindSegment, segment_key, reads_here, Answer, Refusal, StoreChange, Collection, IsKeptKey, MarksIn, Restores, ClaimRow, KeepsTables, KeepsUnlessBroken, Made, SealRow, SealsSome, next_id, CoreState, Stop}
use Rattle.std.proofs.Common.{IsErr, IsTrue}
use Rattle.std.specs.List.{Contains}
use Rattle.std.specs.Result.{is_ok}
use Rattle.container_meta.specs.Segments.{Contents}
use Rattle.actor_parts.specs.declared.step.Answer.TheVariants as answers
use Rattle.actor_parts.specs.StepValue as asked
use Rattle.refusals.specs.declared.refusal.Refusal.TheVariants as refusals
use Rattle.dd_disk.specs.Ending.{NoCall}
use Rattle.ingest_steps.specs.Offering.{IsRoomFor, offer_in}
use Rattle.ingest_steps.proofs.PlacedOn.{placed_read}
use Rattle.ingest_steps.proofs.StepRefusals.{steps_here}
use Rattle.store_core.specs.Collecting.{IsHeldAnswer, keys_in}
use Rattle.store_core.specs.Core.{Makes, sealed_by}

-- ---- a step that is so whatever collection runs

module _ (old new : CoreState) (was now : Option Collection) where
  abbrev before : CoreState
  before = record old { collection = was }

  abbrev after : CoreState
  after = record new { collection = now }

  keeps_alike : KeepsTables before after → KeepsTables old new
  keeps_alike keeps = record { tables_are = keeps.tables_are; index_is = keeps.index_is }

  claim_row : (seg : KindSegment) (actor : ℕ) (answer : Result Answer Refusal) → ClaimRow seg actor answer before after → ClaimRow seg actor answer old new
  claim_row seg actor (Ok answers.Held) row = record { claimed = row.claimed; kept = row.kept }
  claim_row seg actor (Ok answers.Absent) row = record { claimed = row.claimed; kept = row.kept }
  claim_row seg actor (Err refusal) row = row
  claim_row seg actor answer row = absurd row

  pub claim_alike : (seg : KindSegment) (actor : ℕ) (answer : Result Answer Refusal) (buf : List ℕ) → Made (asked.Claim seg) actor answer buf before after
      → Made (asked.Claim seg) actor answer buf old new
  claim_alike seg actor answer buf made = record {
    row = claim_row seg actor answer made.row;
    effect = record { disk = made.effect.disk; tables = keeps_alike made.effect.tables };
    served = made.served;
  }

  seal_row : (offered : List Contents) (actor : ℕ) (answer : Result Answer Refusal) → SealRow offered actor answer before after → SealRow offered actor answer old new
  seal_row offered actor (Ok (answers.Sealed id count)) row = record {
    offer = row.offer;
    may = row.may;
    room = row.room;
    some = row.some;
    few = row.few;
    compared = row.compared;
    id_is = row.id_is;
    last_is = row.last_is;
    parts_are = row.parts_are;
    kept = row.kept;
  }
  seal_row offered actor (Err refusal) row = row
  seal_row offered actor answer row = absurd row

  makes_alike : (changes : List StoreChange) → Makes changes before after → Makes changes old new
  makes_alike changes makes = record {
    can = makes.can;
    represents = makes.represents;
    valid = makes.valid;
    tells = makes.tells;
    keeps_keys = makes.keeps_keys;
    adds_keys = makes.adds_keys;
    keeps_others = makes.keeps_others;
    whole = makes.whole;
    alone = makes.alone;
    runs = makes.runs;
    runs_indexed = makes.runs_indexed;
  }

  unless_broken : (refusal : Refusal) → KeepsUnlessBroken refusal before after → KeepsUnlessBroken refusal old new
  unless_broken refusals.DiskWrite keeps = keeps
  unless_broken (refusals.Damaged at_byte why) keeps = keeps
  unless_broken refusal keeps = keeps_alike keeps

  seal_effect : (offered : List Contents) (answer : Result Answer Refusal) → SealsSome offered answer before after → SealsSome offered answer old new
  seal_effect offered (Ok x) effect = record {
    disk = effect.disk;
    moves = effect.moves;
    made = makes_alike (sealed_by offered (Ok x) (next_id old)) effect.made;
    kept = tt;
  }
  seal_effect offered (Err refusal) effect = record { disk = effect.disk; moves = effect.moves; made = tt; kept = unless_broken refusal effect.kept }

  pub seal_alike : (offered : List Contents) (actor : ℕ) (answer : Result Answer Refusal) (buf : List ℕ) → Made (asked.Seal offered) actor answer buf before after
      → Made (asked.Seal offered) actor answer buf old new
  seal_alike offered actor answer buf made = record { row = seal_row offered actor answer made.row; effect = seal_effect offered answer made.effect; served = made.served }

-- ---- no memory for the marks

-- Nothing changed but the collection.
pub seal_without_memory : (offered : List Contents) (actor : ℕ) (buf : List ℕ) (old : CoreState) (now : Option Collection) (stop : Option Stop) (count : ℕ)
    → Made (asked.Seal offered) actor (Err refusals.Memory) buf old (record old { collection = now; stop = stop; acknowledged = count })
seal_without_memory offered actor buf old now stop count = record {
  row = (tt, refl);
  effect = record {
    disk = steps_here old.tables.slots _ old.disk refl;
    moves = placed_read old.tables old.known (offer_in old.tables offered) NoCall old.disk old.disk (reads_here old.disk);
    made = tt;
    kept = record { tables_are = refl; index_is = refl };
  };
  served = λ served. served;
}

-- ---- what became live

-- the collection stays, and the keys are read
pub restores_moved : (old marked moved : Option Collection) (fresh keys : List (List ℕ)) → moved ≡ marked → keys ≡ fresh → Restores old marked fresh → Restores old moved keys
restores_moved old marked moved fresh keys same read restores =
    subst (λ (c : Option Collection). Restores old c keys) (sym same) (subst (λ (ks : List (List ℕ)). Restores old marked ks) (sym read) restores)

pub marks_moved : (P : List ℕ → Type 0) (old marked moved : Option Collection) → moved ≡ marked → MarksIn P old marked → MarksIn P old moved
marks_moved P old marked moved same marks = subst (λ (c : Option Collection). MarksIn P old c) (sym same) marks

module _ (old marked new : Option Collection) (fresh : List (List ℕ)) (restores : Restores old marked fresh) where
  -- what a step that kept something marked stays, and what another marked is undone
  abbrev Undone : Bool → Type 0
  Undone kept = kept ≡ false → (before : Option Collection) → Restores before marked fresh → MarksIn (λ k. ⊥) before new

  not_kept : (kept : Bool) → (kept ≡ true → ⊥) → Undone kept → MarksIn (λ k. ⊥) old new
  not_kept true wrong undone = absurd (wrong refl)
  not_kept false wrong undone = undone refl old restores

  pub claim_collects : (seg : KindSegment) (answer : Result Answer Refusal) (key : List ℕ) (kept : Bool) → key ≡ segment_key seg.kind seg.segment
      → MarksIn (λ k. k ≡ key) old marked → IsTrue kept ↔ IsHeldAnswer answer
      → (kept ≡ true → new ≡ marked) → Undone kept → MarksIn (IsKeptKey (asked.Claim seg) answer) old new
  claim_collects seg (Ok answers.Held) key kept is marks tells same undone =
      subst (λ (x : Option Collection). MarksIn (λ k. k ≡ segment_key seg.kind seg.segment) old x) (sym (same (tells.1 tt)))
      (subst (λ (x : List ℕ). MarksIn (λ k. k ≡ x) old marked) is marks)
  claim_collects seg answer key kept is marks tells same undone = not_kept kept tells.0 undone

  -- just those were marked for which there is room
  pub seal_collects : (offered : List Contents) (actor : ℕ) (answer : Result Answer Refusal) (s t : CoreState) (kept : Bool) (room : ℕ) → SealRow offered actor answer s t
      → Runs s.disk.size None s.tables → IsRoomFor s.tables (length offered) room
      → MarksIn (Contains (keys_in (take room offered))) old marked → kept ≡ is_ok answer → (kept ≡ true → new ≡ marked) → Undone kept
      → MarksIn (IsKeptKey (asked.Seal offered) answer) old new
  seal_collects offered actor (Ok (answers.Sealed id count)) s t kept room row runs enough marks is same undone =
      let here = (enough s.disk.size None).store_has runs.store runs.represents runs.valid runs.has_free in
      let there = (row.room s.disk.size None).store_has runs.store runs.represents runs.valid runs.has_free in
      subst (λ (x : Option Collection). MarksIn (Contains (keys_in (take count offered))) old x) (sym (same is))
      (subst (λ (n : ℕ). MarksIn (Contains (keys_in (take n offered))) old marked) (here ∙ sym there) marks)
  seal_collects offered actor (Err refusal) s t kept room row runs enough marks is same undone = undone is old restores
  seal_collects offered actor answer s t kept room row runs enough marks is same undone = absurd row

-- none did, where a step is refused
pub claim_refused : (seg : KindSegment) (answer : Result Answer Refusal) (old new : Option Collection) → IsErr answer → MarksIn (λ k. ⊥) old new
    → MarksIn (IsKeptKey (asked.Claim seg) answer) old new
claim_refused seg (Ok x) old new is marks = absurd cc
claim_refused seg (Err refusal) old new is marks = marks

pub seal_refused : (offered : List Contents) (answer : Result Answer Refusal) (old new : Option Collection) → IsErr answer → MarksIn (λ k. ⊥) old new
    → MarksIn (IsKeptKey (asked.Seal offered) answer) old new
seal_refused offered (Ok x) old new is marks = absurd cc
seal_refused offered (Err refusal) old new is marks = marks
