-- A core, on any disk, as the machine of roots: what is so between them, and after each step.
use Rattle.std.specs.Prelude.{◌≡◌, ◌≤◌, ℕ, Bool, true, false, List, [], ◌∷◌, take, Contains, Option, Some, None, option_map, Result, Ok, Err}
use Rattle.std.specs.FinMap as finite
use Rattle.base_model.specs.Known.{KnownWith}
use Rattle.container_meta.specs.Places.{PlaceMap}
use Rattle.container_meta.specs.Spelling.{HeaderValue}
use Rattle.disk_format.specs.Cells.{Root}
use Rattle.disk_format.specs.declared.numbers.TheConstants.{LAST_ID}
use Rattle.merkle_file.specs.declared.top.Top.{Top}
use Rattle.namespace.specs.declared.record.Named.{Named}
use Rattle.actor_parts.specs.declared.part.Part as core_part
use Rattle.actor_parts.specs.declared.part.Part.TheVariants as core
use Rattle.actor_parts.specs.declared.step.Answer.{Answer}
use Rattle.actor_parts.specs.declared.step.Answer.TheVariants as answers
use Rattle.actor_parts.specs.StepValue as steps
use Rattle.actor_parts.specs.StepValue.{StepValue}
use Rattle.refusals.specs.declared.refusal.Phase.{Phase}
use Rattle.refusals.specs.declared.refusal.Phase.TheVariants as phases
use Rattle.refusals.specs.declared.refusal.Refusal.{Refusal}
use Rattle.store_model.specs.Image.{IsValidFor, last_sequence, names_of}
use Rattle.store_model.specs.Slots.{Copy, HasFree, IsIndexOf, newest}
use Rattle.store_state.specs.Tables.{Represents}
use Rattle.store_core.specs.declared.stop.Stop.{Stop}
use Rattle.store_core.specs.Core.{CoreStep}
use Rattle.store_core.specs.State.{CoreState, Event, IsRunning}
use Rattle.store_machine.specs.Asked.{Asked}
use Rattle.store_machine.specs.Asked as asked
use Rattle.store_machine.specs.Done.{Done}
use Rattle.store_machine.specs.Done as done
use Rattle.store_machine.specs.Legal.{Legal}
use Rattle.store_machine.specs.Machine.{Machine, Part, Idle, Writing, Reading, RunState, Running, Stopped}
use Rattle.store_machine.specs.Values.{of_roots}
use Rattle.core_machine.specs.Collections.{SameCollection}
use Rattle.core_machine.specs.Sweeping.{NamesStep}

abbrev pub SamePart : Part Root (List Top) → core_part.Part → Type 0
SamePart Idle core.Idle = Unit {0}
SamePart (Writing pins) (core.Writing others) = others ≡ pins
SamePart (Reading root rest) (core.Reading reader) = (reader.root ≡ root) × (reader.cursor ≡ rest)
SamePart part other = ⊥

abbrev pub SameParts : List (Part Root (List Top)) → List core_part.Part → Type 0
SameParts [] [] = Unit {0}
SameParts (p ∷ ps) (q ∷ qs) = SamePart p q × SameParts ps qs
SameParts ps qs = ⊥

abbrev pub SameStop : ℕ → RunState Root → Option Stop → Type 0
SameStop count Running None = Unit {0}
SameStop count (Stopped other stores) (Some stop) = stop.at ≡ count
SameStop count state stop = ⊥

-- By its map the index lacks just what is forgotten: each key that a container holds and that it lacks is, and none that it has.
pub record TellsForgotten (forgotten : List (List ℕ)) (held : List (Option HeaderValue)) (places : PlaceMap) : Type 0 where
  pub lacked : (key : List ℕ) (copy : Copy) → newest 0 held key ≡ Some copy → finite.get places key ≡ None → Contains forgotten key
  pub gone : (key : List ℕ) → Contains forgotten key → finite.get places key ≡ None

-- The map of the index is known, whatever it says; as long as no collection copied since the opening, nothing is forgotten, and it has the
-- newest copies. Where it was followed since then, it tells what is forgotten.
pub record HasIndex (followed swept : Bool) (forgotten : List (List ℕ)) (held : List (Option HeaderValue)) (known : Option PlaceMap)
    : Type 0 where
  pub places : PlaceMap
  pub known_is : known ≡ Some places
  pub newest : swept ≡ false → (forgotten ≡ []) × IsIndexOf held places
  pub told : followed ≡ true → TellsForgotten forgotten held places

-- The tables are those of the machine's store, whatever the index has; names have the roots that its records name. The map of the index may
-- have been followed since the opening.
pub record IsMachine (followed : Bool) (m : Machine Root (List Top)) (c : CoreState) : Type 0 where
  pub represents : Represents m.store None c.tables
  pub valid : IsValidFor c.disk.size m.store
  pub free : HasFree m.store.held
  pub names : (name : List ℕ) → finite.get m.now.names name ≡ option_map (λ (n : Named). n.root) (finite.get (names_of m.store) name)
  pub last : m.now.last ≡ last_sequence m.store
  pub last_id : m.last_id ≡ c.tables.held.last_id
  pub last_within : m.last_id ≤ LAST_ID
  pub parts : SameParts m.parts c.parts
  pub acknowledged : m.acknowledged ≡ c.acknowledged
  -- A write that failed may have changed the index before.
  pub index : m.state ≡ Running → HasIndex followed m.swept m.forgotten m.store.held c.known
  pub collection : SameCollection c.tables.held m.swept m.collection c.collection
  pub state : SameStop m.acknowledged m.state c.stop

-- ---- steps and answers

-- as the machine asks it: of a root that a commit is given as this value
abbrev pub asked_as : {V : Type 0} → (Root → V) → StepValue → Asked V
asked_as value steps.Begin = asked.Begin
asked_as value steps.Abort = asked.Abort
asked_as value (steps.OpenRead name) = asked.OpenRead name
asked_as value steps.ReadNext = asked.ReadNext
asked_as value steps.EndRead = asked.EndRead
asked_as value (steps.Delete name) = asked.Delete name
asked_as value (steps.Claim seg) = asked.Claim seg
asked_as value (steps.Seal offered) = asked.Seal offered
asked_as value (steps.Commit name root) = asked.Commit name (value root)
asked_as value steps.ListNames = asked.ListNames
asked_as value (steps.GcStart percent) = asked.GcStart percent
asked_as value steps.GcStep = asked.GcStep
asked_as value steps.Stat = asked.Stat
asked_as value steps.Unique = asked.Unique

abbrev pub asked_by : StepValue → Asked Root
asked_by step = asked_as (λ root. root) step

abbrev pub answered_by : Result Answer Refusal → List ℕ → Result Done Refusal
answered_by (Ok answers.Begun) buf = Ok done.Begun
answered_by (Ok answers.Held) buf = Ok done.Held
answered_by (Ok answers.Absent) buf = Ok done.Absent
answered_by (Ok (answers.Sealed id count)) buf = Ok (done.Sealed id count)
answered_by (Ok (answers.Committed sequence)) buf = Ok (done.Committed sequence)
answered_by (Ok answers.Aborted) buf = Ok done.Aborted
answered_by (Ok (answers.Opened count)) buf = Ok (done.Opened count)
answered_by (Ok (answers.Bytes count)) buf = Ok (done.Bytes (take count buf))
answered_by (Ok answers.End) buf = Ok done.End
answered_by (Ok answers.Dropped) buf = Ok done.Dropped
answered_by (Ok (answers.Deleted sequence)) buf = Ok (done.Deleted sequence)
answered_by (Ok (answers.Listed files)) buf = Ok (done.Listed files)
answered_by (Ok (answers.Started snapshot)) buf = Ok (done.Started snapshot)
answered_by (Ok (answers.Did phase)) buf = Ok (done.Did phase)
answered_by (Ok (answers.Done freed copied)) buf = Ok (done.Collected freed copied)
answered_by (Ok (answers.Stat files segments bytes used free)) buf = Ok (done.Counted files segments bytes used free)
answered_by (Ok (answers.Unique segments bytes)) buf = Ok (done.Unique segments bytes)
answered_by (Err refusal) buf = Err refusal

-- It is followed through each step; but where a collection writes what it copied, or gives containers back, only if the disk tells its
-- content.
abbrev pub FollowsPhase : Phase → Option (List ℕ) → Type 0
FollowsPhase phases.Flush content = KnownWith content (λ _. Unit {0})
FollowsPhase phases.Release content = KnownWith content (λ _. Unit {0})
FollowsPhase phase content = Unit {0}

abbrev pub Follows : Result Answer Refusal → CoreState → Type 0
Follows (Ok (answers.Did phase)) c = FollowsPhase phase c.disk.content
Follows answer c = Unit {0}

-- With no premise on the disk, what the core does by a step is what the machine may do; what a collection writes, gives back and forgets is
-- the same; and the map of the index is followed on where it can be.
abbrev pub CoreRefines : (C : Type 0) → (C → CoreState) → Type 0
CoreRefines C state = (followed : Bool) (e : Event) (old new : C) (m : Machine Root (List Top)) → IsRunning (state old)
    → IsMachine followed m (state old) → (followed ≡ true → Follows e.answer (state old))
    → CoreStep (state old) e (state new) → (n : Machine Root (List Top))
    × (Legal of_roots (record { actor = e.actor; asked = asked_by e.step; answer = answered_by e.answer e.buf }) m n
    × IsMachine followed n (state new) × NamesStep e.step e.answer (state old) (state new) m n)
