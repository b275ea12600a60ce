-- Steps of a core one after the other, by any actors (docs/MODEL.md, 'The core').
use Rattle.std.specs.Prelude.{Bool, true, ◌≡◌, ℕ, ◌+◌, ◌-◌, List, [], ◌∷◌, ◌++◌, ◌==◌, length, take, Option, None, Some, Result, Ok, Err}
use Rattle.std.specs.List.{AllByRecursion}
use Rattle.base_model.specs.Known.{Known}
use Rattle.disk_format.specs.Cells.{Root}
use Rattle.disk_format.specs.Cells.Change.{Delete, Put}
use Rattle.dd_disk.specs.Moves.{StandsFor}
use Rattle.container_meta.specs.Places.{PlaceMap}
use Rattle.container_meta.specs.Segments.{Contents}
use Rattle.actor_parts.specs.declared.step.Answer.{Answer}
use Rattle.actor_parts.specs.declared.step.Answer.TheVariants as answers
use Rattle.actor_parts.specs.StepValue as asked
use Rattle.actor_parts.specs.StepValue.{StepValue, IsStep}
use Rattle.refusals.specs.declared.refusal.Refusal.{Refusal}
use Rattle.refusals.specs.declared.refusal.Refusal.TheVariants as refusals
use Rattle.store_model.specs.Collisions.{IsAmong, Stands}
use Rattle.store_model.specs.Files.{Stored, with_stored, without_stored}
use Rattle.store_model.specs.Image.{Store, IsValidFor}
use Rattle.store_model.specs.Reserve.{AllKeys}
use Rattle.store_model.specs.Slots.{HasKey}
use Rattle.segment_index.specs.Places.{KnownMap}
use Rattle.store_model.specs.Steps.{StoreChange, ChangeName}
use Rattle.store_model.specs.Trees.{root_of, file_tree, HoldsTree}
use Rattle.store_state.specs.Invariant.{CoreInvariant}
use Rattle.store_state.specs.Tables.{Represents}
use Rattle.actor_parts.specs.declared.actor.TheConstants.{ACTORS}
use Rattle.actor_parts.specs.declared.part.Part.{Part}
use Rattle.gc_steps.specs.declared.collection.Collection.{Collection}
use Rattle.gc_steps.specs.Safety.{IsSafe}
use Rattle.store_core.specs.Core.{CoreStep, seals_from}
use Rattle.store_core.specs.State.{CoreState, Event, IsRunning, IsUnderWayIn}

-- The first step makes of the core one of which the others make the last one. A core is anything that has a state.
abbrev pub CoreRun : (C : Type 0) → (C → CoreState) → List Event → C → C → Type 0
CoreRun C state [] old new = new ≡ old
CoreRun C state (e ∷ es) old new = (mid : C) × (CoreStep (state old) e (state mid) × CoreRun C state es mid new)

-- ---- it runs on

abbrev pub RunsOn : (C : Type 0) → (C → CoreState) → Type 0
RunsOn C state = (events : List Event) (old new : C) → CoreRun C state events old new → IsRunning (state old) → IsRunning (state new)

-- ---- files

-- a step, and, of a commit, the bytes whose root was given
pub record FileEvent : Type 0 where
  pub event : Event
  pub bytes : List ℕ

-- these after a step: a commit that was acknowledged puts a file, and a delete takes one away
abbrev pub stored_with : StepValue → Result Answer Refusal → List ℕ → Stored → Stored
stored_with (asked.Commit name root) (Ok answer) bytes stored = with_stored stored name bytes
stored_with (asked.Delete name) (Ok answer) bytes stored = without_stored stored name
stored_with step answer bytes stored = stored

abbrev pub stored_by : FileEvent → Stored → Stored
stored_by f stored = stored_with f.event.step f.event.answer f.bytes stored

-- and after steps, the first of them first
abbrev pub stored_after : List FileEvent → Stored → Stored
stored_after [] stored = stored
stored_after (f ∷ fs) stored = stored_after fs (stored_by f stored)

-- a root is that of a file, whose tree each image holds, and whose keys the index has
pub record IsRootOf (root : Root) (bytes : List ℕ) (old : CoreState) : Type 0 where
  pub root_is : root ≡ root_of bytes
  pub indexed : KnownMap old.known (λ index. AllKeys (HasKey index) (file_tree bytes))
  pub tree : (store : Store) → Represents store old.known old.tables
      → StandsFor (λ c. HoldsTree store.held c (file_tree bytes)) old.disk

-- of a commit that comes to its first write
abbrev pub IsRightCommit : Result Answer Refusal → Root → List ℕ → CoreState → Type 0
IsRightCommit (Ok answer) root bytes old = IsRootOf root bytes old
IsRightCommit (Err refusals.DiskWrite) root bytes old = IsRootOf root bytes old
IsRightCommit answer root bytes old = Unit {0}

-- each segment of containers is among S, where it is of data
abbrev pub AreAmong : (List ℕ → Type 0) → List Contents → Type 0
AreAmong S offered = AllByRecursion (λ c. AllByRecursion (λ s. IsAmong S c.kind s.bytes) c.segments) offered

-- What the steps of a run are given: data is among S, and the roots of commits are right.
abbrev pub IsGivenRight : (List ℕ → Type 0) → StepValue → Result Answer Refusal → List ℕ → CoreState → Type 0
IsGivenRight S (asked.Claim seg) answer bytes old = IsAmong S seg.kind seg.segment.bytes
IsGivenRight S (asked.Seal offered) answer bytes old = AreAmong S offered
IsGivenRight S (asked.Commit name root) answer bytes old = IsRightCommit answer root bytes old
IsGivenRight S step answer bytes old = Unit {0}

pub record FileStep (S : List ℕ → Type 0) (f : FileEvent) (old new : CoreState) : Type 0 where
  pub asked : IsStep f.event.step
  pub given : IsGivenRight S f.event.step f.event.answer f.bytes old
  pub made : CoreStep old f.event new

abbrev pub FileRun : (C : Type 0) → (C → CoreState) → (List ℕ → Type 0) → List FileEvent → C → C → Type 0
FileRun C state S [] old new = new ≡ old
FileRun C state S (f ∷ fs) old new = (mid : C) × (FileStep S f (state old) (state mid) × FileRun C state S fs mid new)

-- what holds of a collection, if one runs: while it marks its marks are closed, and then its sweep is safe
abbrev pub IsSafeIn : PlaceMap → Store → List Part → List ℕ → Option Collection → Type 0
IsSafeIn index store parts image None = Unit {0}
IsSafeIn index store parts image (Some c) = IsSafe index store parts image c

-- Tables and index are those of the store, each image is that store of these files, the number is the last, and the invariants hold; by
-- these each image can be opened.
pub record IsAt (S : List ℕ → Type 0) (store : Store) (stored : Stored) (c : CoreState) : Type 0 where
  pub represents : Represents store c.known c.tables
  pub index : PlaceMap
  pub index_known : c.known ≡ Some index
  pub valid : IsValidFor c.disk.size store
  pub stands : StandsFor (Stands S store stored.files) c.disk
  pub last_is : c.tables.journal.last ≡ stored.last
  pub invariant : Known c.disk.content (CoreInvariant index store stored.files c.parts)
  pub many : length c.parts ≡ ACTORS
  pub under_way : IsUnderWayIn c.tables.held c.collection
  pub safe : Known c.disk.content (λ image. IsSafeIn index store c.parts image c.collection)

-- what a step changes, by its answer: seals, the last of them under the id that it answers, and a commit or a delete that was acknowledged
abbrev pub changes_by : StepValue → Result Answer Refusal → List StoreChange
changes_by (asked.Seal offered) (Ok (answers.Sealed id count)) = seals_from (id + 1 - count) (take count offered)
changes_by (asked.Commit name root) (Ok answer) = ChangeName name (Put root) ∷ []
changes_by (asked.Delete name) (Ok answer) = ChangeName name Delete ∷ []
changes_by step answer = []

-- and what steps change, the first of them first
abbrev pub changes_of : List FileEvent → List StoreChange
changes_of [] = []
changes_of (f ∷ fs) = changes_by f.event.step f.event.answer ++ changes_of fs

-- a step of another kind than those of a collection: the index keeps what it has, and containers stay
abbrev pub IsNoGcStep : StepValue → Type 0
IsNoGcStep asked.GcStep = ⊥
IsNoGcStep step = Unit {0}

abbrev pub AreNoGcSteps : List Event → Type 0
AreNoGcSteps events = AllByRecursion (λ e. IsNoGcStep e.step) events

abbrev pub events_of : List FileEvent → List Event
events_of [] = []
events_of (f ∷ fs) = f.event ∷ events_of fs

-- ---- readers

abbrev pub opens : ℕ → List ℕ → ℕ → List ℕ → Event
opens actor name count buf = record { actor = actor; step = asked.OpenRead name; answer = Ok (answers.Opened count); buf = buf }

-- the segments that an actor was given
abbrev pub given_by : Bool → Result Answer Refusal → List ℕ → List (List ℕ) → List (List ℕ)
given_by true (Ok (answers.Bytes count)) buf others = take count buf ∷ others
given_by own answer buf others = others

abbrev pub given_to : ℕ → List Event → List (List ℕ)
given_to actor [] = []
given_to actor (e ∷ es) = given_by (e.actor == actor) e.answer e.buf (given_to actor es)
