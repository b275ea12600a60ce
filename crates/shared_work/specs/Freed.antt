-- Passes by which workers do their jobs can be taken in by others (docs/MODEL.md, 'Workers').
use Rattle.std.specs.Prelude.{◌≡◌, ◌≤◌, ◌<◌, ℕ, List, length, Some, false, replicate}
use Rattle.atomic_table.specs.Seated.{TableId}
use Rattle.actor_parts.specs.declared.actor.TheConstants.{ACTORS}
use Rattle.actor_parts.specs.declared.answered.Answered.{Answered}
use Rattle.actor_parts.specs.declared.part.Part.TheVariants as parts
use Rattle.actor_parts.specs.Asking.{Ask, AsksAll}
use Rattle.refusals.specs.declared.refusal.PartKind.TheVariants.{Idle}
use Rattle.turn_lock.specs.History.{turns_by}
use Rattle.store_core.specs.State.{CoreState, IsRunning}
use Rattle.store_machine.specs.Remembering.{RootMachine}
use Rattle.core_machine.specs.Refines.{IsMachine}
use Rattle.shared_store.specs.Calls.{SplitsPass}
use Rattle.shared_store.specs.Passes.{IsBusy, IsFirst, PassValue, actor_of}
use Rattle.shared_store.specs.Telling.{asks_of}
use Rattle.ingest_workers.specs.declared.job.Job.{Job}
use Rattle.ingest_workers.specs.declared.job.JobEnd.{JobEnd}
use Rattle.ingest_workers.specs.Jobs.{OwnJobs}

module _ {C : Type 0} (state : C → CoreState) where
  -- The core that a store was made over: it runs, is the machine of some roots, as each is that was opened, and its actors are idle.
  pub record IsOpening (o : C) : Type 0 where
    pub running : IsRunning (state o)
    pub machine : RootMachine
    pub fits : IsMachine false machine (state o)
    pub all_idle : (state o).parts ≡ replicate ACTORS parts.Idle

  -- A pass of a store over this core that has made no step and is at nothing.
  pub record IsFresh (o : C) (pass : PassValue C) : Type 0 where
    pub opened : pass.view.opening ≡ Some o
    pub numbered : 1 ≤ length pass.view.numbers
    pub below : actor_of pass < ACTORS
    pub none_made : turns_by (actor_of pass) pass.view.seen ≡ 0
    pub idle : pass.kind ≡ Idle

  abbrev pub FirstIsFresh : Type 0
  FirstIsFresh = (o : C) (store : TableId) (pass : PassValue C) → IsFirst state o store pass → IsFresh o pass

  -- the one that was split off
  abbrev pub SplitIsFresh : Type 0
  SplitIsFresh = (o : C) (old new other : PassValue C) → old.view.opening ≡ Some o → SplitsPass state old new other → IsFresh o other

  -- and the one that it was split off from, if it was so before
  abbrev pub SplitStaysFresh : Type 0
  SplitStaysFresh = (o : C) (old new other : PassValue C) → IsFresh o old → SplitsPass state old new other → IsFresh o new

  -- what a caller asks for, it asks of the same store
  abbrev pub StoresStay : Type 0
  StoresStay = (all : List Ask) (old new : PassValue C × Answered) → AsksAll (asks_of state) old all new → new.0.store ≡ old.0.store

  -- Where all that was asked for by such a pass are a worker's jobs, it is not busy after them.
  abbrev pub WorkersComeFree : Type 0
  WorkersComeFree = (o : C) (count worker : ℕ) (jobs : List Job) (ended : List JobEnd) (all : List Ask) (old new : PassValue C × Answered)
      → IsOpening o → IsFresh o old.0 → AsksAll (asks_of state) old all new → OwnJobs count worker jobs ended all → IsBusy new.0 → ⊥
