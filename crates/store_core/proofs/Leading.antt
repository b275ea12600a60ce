-- Where a step leads, and what it may not lose.
use Rattle.actor_parts.specs.StepValue as asked
use Rattle.actor_parts.specs.declared.step.Answer.TheVariants as answers
use Rattle.refusals.specs.declared.refusal.Phase.TheVariants as phases
use Rattle.store_core.proofs.Prelude.{[], Ok, Result, Answer, Segment, Kind, Refusal, changes_by, FlushContainer, FreeContainer, ◌∷◌, FileEvent, IsNoGcStep, CoreState, HasKey, HasNewest, IndexesAll, IsNeeded, List, Some, map, ℕ, ◌≡◌, Part, PlaceMap, StepValue, Store, StoreChange, Stored}
use Rattle.store_core.proofs.KeepingFiles.{Next}

-- These are the changes of a step: those that its answer tells, and, where a collection writes copies or gives containers back, those of
-- some container or slots.
abbrev pub AreChangesBy : StepValue → Result Answer Refusal → List StoreChange → Type 0
AreChangesBy asked.GcStep (Ok (answers.Did phases.Flush)) changes =
    (id : ℕ) × (kind : Kind) × (segments : List Segment) × (changes ≡ FlushContainer id kind segments ∷ [])
AreChangesBy asked.GcStep (Ok (answers.Did phases.Release)) changes = (slots : List ℕ) × (changes ≡ map FreeContainer slots)
AreChangesBy step answer changes = changes ≡ changes_by step answer

-- a key that a step may not lose: for a collection each that is needed, and else each
abbrev pub IsSpared : StepValue → Store → List Part → List ℕ → List ℕ → Type 0
IsSpared asked.GcStep s parts image key = IsNeeded s parts image key
IsSpared step s parts image key = Unit {0}

-- Where a step leads, whichever it is: what is spared is in the index still, with its newest copy.
pub record Leads (S : List ℕ → Type 0) (s : Store) (f : FileEvent) (stored : Stored) (old new : CoreState) : Type 0 where
  pub changes : List StoreChange
  pub changes_are : AreChangesBy f.event.step f.event.answer changes
  pub next : Next S s changes stored old new
  pub keys : (key before : List ℕ) → old.disk.content ≡ Some before → IsSpared f.event.step s old.parts before key
      → (first then : PlaceMap) → old.known ≡ Some first → new.known ≡ Some then → HasKey first key → HasKey then key
  pub copies : (key before after : List ℕ) → old.disk.content ≡ Some before → new.disk.content ≡ Some after → IsSpared f.event.step s old.parts before key
      → (first : PlaceMap) → old.known ≡ Some first → HasKey first key → (level : ℕ) (bytes : List ℕ) → HasNewest s.held key level bytes before
      → HasNewest next.store.held key level bytes after
  pub whole : IsNoGcStep f.event.step → IndexesAll s old.known → IndexesAll next.store new.known
