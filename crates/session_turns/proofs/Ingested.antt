-- What an actor holds at the end of a run of steps by any actors, since it began a file, and that its root is right.
use Rattle.session_turns.proofs.Prelude.{◌≡◌, ◌<◌, ℕ, List, [], ◌∷◌, ◌++◌, None, refl, sym, subst, ACTORS, StepValue, IsStep, Kind, Segment, kept, History, HasNoCollisions, ByteSet, Store, Stored, FileEvent, FileStep, CoreState, HoldsKept}
use Rattle.store_model.specs.Collisions.{IsIn}
use Rattle.store_state.specs.Settled.{IsSettled}
use Rattle.store_core.specs.Runs.{FileRun, IsAt, IsGivenRight, events_of, stored_by}
use Rattle.store_core.proofs.AnySteps.{any_step}
use Rattle.store_core.proofs.CoreRuns.{core_run, runs_before}
use Rattle.store_core.proofs.KeepingSegments.{stays_settled}
use Rattle.session_turns.specs.Owning.{Beside, Begun, Given, HoldsIngested, IngestedCommitIsRight, IngestedRootIsRight, Ingests, IsUntold, RunsFrom, StepsAt, Turned}
use Rattle.session_turns.proofs.HeldOn.{holds_begun, holds_beside, holds_turned}
use Rattle.session_turns.proofs.RightRoot.{commit_right, ready_root_is_right}

-- ---- runs

module _ (C : Type 0) (state : C → CoreState) (S : List ℕ → Type 0) where
  abbrev Run : List FileEvent → C → C → Type 0
  Run fs old new = FileRun C state S fs old new

  pub run_parts : (fs gs : List FileEvent) (old new : C) → Run (fs ++ gs) old new → (mid : C) × Run fs old mid × Run gs mid new
  run_parts [] gs old new run = (old, refl, run)
  run_parts (f ∷ fs) gs old new run = let rest = run_parts fs gs run.0 new run.1.1 in (rest.0, (run.0, (run.1.0, rest.1)), rest.2)

  -- a core that isn't stopped at the end wasn't before
  before : (fs : List FileEvent) (old new : C) → Run fs old new → (state new).stop ≡ None → (state old).stop ≡ None
  before fs old new run stays = runs_before C state (events_of fs) old new (core_run C state S fs old new run) stays

-- the core is at some store, on a settled disk
record IsAtSome (S : List ℕ → Type 0) (c : CoreState) : Type 0 where
  store : Store
  stored : Stored
  is_at : IsAt S store stored c
  settled : IsSettled c.tables.slots c.disk

-- the last step, and the run before it
record EndsWith (C : Type 0) (state : C → CoreState) (S : List ℕ → Type 0) (fs : List FileEvent) (f : FileEvent) (old new : C) : Type 0 where
  mid : C
  run : FileRun C state S fs old mid
  stays : (state mid).stop ≡ None
  store : Store
  stored : Stored
  at : StepsAt S f store stored (state mid) (state new)

module _ (C : Type 0) (state : C → CoreState) (among : ByteSet) (distinct : HasNoCollisions (IsIn among)) where
  abbrev S : List ℕ → Type 0
  S = IsIn among

  at_end : (fs : List FileEvent) (old new : C) → IsAtSome S (state old) → FileRun C state S fs old new → (state new).stop ≡ None → IsAtSome S (state new)
  at_end [] old new at run stays = subst (λ (c : C). IsAtSome S (state c)) (sym run) at
  at_end (f ∷ fs) old new at run stays =
      let on = before C state S fs run.0 new run.1.1 stays in
      let led = any_step among distinct f at.store at.stored (state old) (state run.0) run.1.0 at.is_at on in
      at_end fs run.0 new (record {
        store = led.next.store;
        stored = stored_by f at.stored;
        is_at = led.next.is_at;
        settled = stays_settled among f at.store at.stored (state old) (state run.0) distinct at.is_at at.settled run.1.0 on;
      }) run.1.1 stays

  last_of : (fs : List FileEvent) (f : FileEvent) (old new : C) → IsAtSome S (state old) → FileRun C state S (fs ++ f ∷ []) old new → (state new).stop ≡ None
      → EndsWith C state S fs f old new
  last_of fs f old new at run stays =
      let parts = run_parts C state S fs (f ∷ []) old new run in
      let step = subst (λ (c : C). FileStep S f (state parts.0) (state c)) (sym parts.2.1.1) parts.2.1.0 in
      let on = before C state S (f ∷ []) parts.0 new parts.2 stays in
      let here = at_end fs old parts.0 at parts.1 on in
      record {
        mid = parts.0;
        run = parts.1;
        stays = on;
        store = here.store;
        stored = here.stored;
        at = record { is_at = here.is_at; settled = here.settled; step = step; runs_on = stays };
      }

  module _ (actor : ℕ) (below : actor < ACTORS) where
    -- what it holds of a session that was told nothing it holds still
    untold_holds : (h k : History) (c : CoreState) → IsUntold h k → HoldsKept actor (kept h) c → HoldsKept actor (kept k) c
    untold_holds h k c untold own =
        subst (λ (sealed : Kind → List Segment). HoldsKept actor (λ kind. k.held kind ++ sealed kind) c) (sym untold.sealed)
        (subst (λ (held : Kind → List Segment). HoldsKept actor (λ kind. held kind ++ h.sealed kind) c) (sym untold.held) own)

    holds : (fs : List FileEvent) (h : History) → Ingests actor fs h → (old new : C) → IsAtSome S (state old) → FileRun C state S fs old new → (state new).stop ≡ None
        → HoldsKept actor (kept h) (state new)
    holds _ _ (Begun fs f begins) old new at run stays =
        let last = last_of fs f old new at run stays in
        holds_begun C state among f last.store last.stored actor last.mid new last.at below begins
    holds fs _ (Given _ h k so untold) old new at run stays = untold_holds h k (state new) untold (holds fs h so old new at run stays)
    holds _ h (Beside fs f _ so beside) old new at run stays =
        let last = last_of fs f old new at run stays in
        holds_beside C state among f last.store last.stored actor (kept h) last.mid new distinct last.at below beside (holds fs h so old last.mid at last.run last.stays)
    holds _ _ (Turned fs f x h answer so has due) old new at run stays =
        let last = last_of fs f old new at run stays in
        holds_turned C state among f last.store last.stored actor x h answer last.mid new distinct last.at below has due
        (holds fs h so old last.mid at last.run last.stays)

-- ---- the laws

module _ (C : Type 0) (state : C → CoreState) where
  some_at : (S : List ℕ → Type 0) (fs : List FileEvent) (s : Store) (stored : Stored) (old new : C) → RunsFrom C state S fs s stored old new → IsAtSome S (state old)
  some_at S fs s stored old new from = record { store = s; stored = stored; is_at = from.is_at; settled = from.settled }

  pub holds_ingested : HoldsIngested C state
  holds_ingested among fs s stored actor h old new distinct from stays below so =
      holds C state among distinct actor below fs h so old new (some_at (IsIn among) fs s stored old new from) from.run stays

  pub ingested_root_is_right : IngestedRootIsRight C state
  ingested_root_is_right among fs s stored actor x h root old new distinct from stays below so has ready =
      let here = at_end C state among distinct fs old new (some_at (IsIn among) fs s stored old new from) from.run stays in
      ready_root_is_right C state among here.store here.stored actor x h root new here.is_at has ready
      (holds_ingested among fs s stored actor h old new distinct from stays below so)

  pub ingested_commit_is_right : IngestedCommitIsRight C state
  ingested_commit_is_right among fs s stored actor x h name root e old mid new distinct from below so has ready step_is made = record {
    asked = subst IsStep (sym step_is) tt;
    given = subst (λ (step : StepValue). IsGivenRight (IsIn among) step e.answer h.given (state mid)) (sym step_is)
        (commit_right (state mid).stop e root h.given (state mid) (state new) refl
        (λ none. ingested_root_is_right among fs s stored actor x h root old mid distinct from none below so has ready) made);
    made = made;
  }
