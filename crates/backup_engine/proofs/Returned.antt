-- A disk that was lent to a core comes back: it is the same one, later.
use Rattle.backup_engine.proofs.Prelude.{◌≡◌, inl, inr, ◌∷◌, [], List, ℕ, Result, refl, IsLater, later_on, SourceView, SinkView, CoreStep, events_of, CoreState, Event, GiveRun, IngestRun}
use Rattle.reply_text.specs.declared.ending.Ending.{Ending}
use Rattle.backup_engine.proofs.PutCauses.{run_later}
use Rattle.backup_engine.specs.Seen.{streaming}

-- the first of two lists is the first of the other
pub first_same : (a b : ℕ) (xs ys : List ℕ) → a ∷ xs ≡ b ∷ ys → a ≡ b
first_same a b xs ys same = cc

pub rest_same : (a b : ℕ) (xs ys : List ℕ) → a ∷ xs ≡ b ∷ ys → xs ≡ ys
rest_same a b xs ys same = cc

module _ (C : Type 0) (state : C → CoreState) where
  pub one_later : (e : Event) (old new : C) → CoreStep (state old) e (state new) → IsLater (state old).disk (state new).disk
  one_later e old new made = run_later C state (e ∷ []) old new (new, (made, refl))

  pub give_later : (name : List ℕ) (result : Result Unit Ending) (old new : C) (sink sink_now : SinkView) → GiveRun C state name result old new sink sink_now →
      IsLater (state old).disk (state new).disk
  give_later name result old new sink sink_now (inl none) = one_later _ old new none.asked
  give_later name result old new sink sink_now (inr out) =
      later_on (state old).disk (state out.mid).disk (state new).disk (one_later _ old out.mid out.opened) (run_later C state out.reads out.mid new out.ran)

  pub ingest_later : (name : List ℕ) (result : Result Unit Ending) (old new : C) (source source_now : SourceView) (sink sink_now : SinkView) →
      IngestRun C state name result (streaming old source sink) (streaming new source_now sink_now)
      → IsLater (state old).disk (state new).disk
  ingest_later name result old new source source_now sink sink_now run = elim run.way [
    | inl none ↦ run_later C state (events_of none.ran.steps) old new none.ran.ran
    | inr taken ↦ run_later C state (events_of taken.ran.steps) old new taken.ran.ran
  ]
