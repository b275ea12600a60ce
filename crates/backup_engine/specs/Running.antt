-- The steps of a core that a command makes, and what they answered (docs/MODEL.md, 'Commands').
use Rattle.std.specs.Prelude.{◌≡◌, ◌⊎◌, ℕ, ◌≤◌, ◌+◌, ◌-◌, take, List, [], ◌∷◌, ◌++◌, length, replicate, slice_get, Some, None, Result, Ok, Err}
use Rattle.std.specs.List.{AllByRecursion, concat}
use Rattle.base_model.specs.Fault.{Rose}
use Rattle.base_model.specs.Known.{Appended}
use Rattle.disk_format.specs.declared.numbers.TheConstants.{MOST_FILE}
use Rattle.dd_disk.specs.View.{DiskView}
use Rattle.dd_io.specs.Flow.{SinkView, AppendedPart}
use Rattle.container_meta.specs.Places.{PlaceMap}
use Rattle.container_meta.specs.Segments.{KindSegment}
use Rattle.actor_parts.specs.declared.actor.TheConstants.{ACTORS}
use Rattle.actor_parts.specs.declared.part.Part.TheVariants.{Idle}
use Rattle.actor_parts.specs.declared.step.Answer.{Answer}
use Rattle.actor_parts.specs.declared.step.Answer.TheVariants as answers
use Rattle.actor_parts.specs.StepValue as asked
use Rattle.actor_parts.specs.StepValue.{StepValue, IsStep}
use Rattle.refusals.specs.declared.refusal.Refusal.{Refusal}
use Rattle.refusals.specs.declared.refusal.Refusal.TheVariants.{Memory, DiskRead, DiskWrite}
use Rattle.reply_text.specs.declared.ending.Ending.{Ending}
use Rattle.reply_text.specs.declared.ending.Ending.TheVariants as endings
use Rattle.store_model.specs.Pieces.{Piece, HasPieceOf, IsPieceOf, piece_segment}
use Rattle.store_model.specs.Slots.{last_id}
use Rattle.store_model.specs.Steps.{StoreChange}
use Rattle.store_model.specs.Trees.{root_of}
use Rattle.store_state.specs.Tables.{Runs, OfEach}
use Rattle.store_core.specs.Core.{OfEachIndexed, CoreStep, seals_from}
use Rattle.store_core.specs.Keeping.{kept_by}
use Rattle.store_core.specs.Runs.{CoreRun, FileEvent, events_of, opens, given_to}
use Rattle.store_core.specs.State.{CoreState, Event, IsUp}
use Rattle.store_machine.specs.Storing.{AddsOnce}
use Rattle.backup_engine.specs.AnyDisk.{IsUnlikeNode, ReadsSince, room_in}
use Rattle.backup_engine.specs.Line.{Ingest}
use Rattle.backup_engine.specs.Singles.{IsFirstOf}
use Rattle.backup_engine.specs.Causes.{HasPieces, RefusesIngest}

-- A core that was opened just now: it runs, each actor is idle, the map of its index is known, and its last container id is the
-- greatest of its store.
pub record IsFresh (c : CoreState) : Type 0 where
  pub up : IsUp c
  pub runs : c.stop ≡ None
  pub idle : c.parts ≡ replicate ACTORS Idle
  pub told : (places : PlaceMap) × (c.known ≡ Some places)
  pub indexed : Runs c.disk.size c.known c.tables
  pub ids : OfEach c.disk.size c.known c.tables (λ store. c.tables.held.last_id ≡ last_id store.held)

-- ---- a file is stored

-- what is asked
abbrev pub IsAskedFor : List ℕ → List ℕ → StepValue → List ℕ → Type 0
IsAskedFor name bytes asked.Begin put = Unit {0}
IsAskedFor name bytes (asked.Claim seg) put = HasPieceOf bytes seg
IsAskedFor name bytes (asked.Seal offered) put =
    AllByRecursion (λ c. AllByRecursion (λ s. HasPieceOf bytes (record { kind = c.kind; segment = s })) c.segments) offered
IsAskedFor name bytes (asked.Commit n root) put = (n ≡ name) × (root ≡ root_of bytes) × (put ≡ bytes) × (length bytes ≤ MOST_FILE)
IsAskedFor name bytes step put = ⊥

-- a step by which this file is stored under this name
pub record IsPutStep (name bytes : List ℕ) (f : FileEvent) : Type 0 where
  pub by_first : f.event.actor ≡ 0
  pub is_step : IsStep f.event.step
  pub asked_for : IsAskedFor name bytes f.event.step f.bytes

-- one of a list
abbrev pub IsOneOf : {A : Type 0} → A → List A → Type 0
IsOneOf x xs = (index : ℕ) × (slice_get xs index ≡ Some x)

-- a commit comes when each piece of the file is kept
abbrev pub IsWholeAt : List ℕ → List KindSegment → StepValue → Type 0
IsWholeAt bytes kept (asked.Commit name root) = (p : Piece) → IsPieceOf bytes p → IsOneOf (piece_segment p) kept
IsWholeAt bytes kept step = Unit {0}

abbrev pub AreWhole : List ℕ → List KindSegment → List FileEvent → Type 0
AreWhole bytes kept [] = Unit {0}
AreWhole bytes kept (f ∷ fs) = IsWholeAt bytes kept f.event.step × AreWhole bytes (kept ++ kept_by f.event.step f.event.answer) fs

-- a step that changes no name
abbrev pub IsNoCommit : StepValue → Type 0
IsNoCommit (asked.Commit name root) = ⊥
IsNoCommit (asked.Delete name) = ⊥
IsNoCommit step = Unit {0}

abbrev pub IsOk : Result Answer Refusal → Type 0
IsOk (Ok answer) = Unit {0}
IsOk (Err refusal) = ⊥

-- another step than the last: it was done
abbrev pub IsDoneBefore : Event → Type 0
IsDoneBefore e = IsNoCommit e.step × IsOk e.answer

-- the commit was acknowledged
abbrev pub IsLastPut : StepValue → Result Answer Refusal → Type 0
IsLastPut (asked.Commit name root) answer = IsOk answer
IsLastPut step answer = ⊥

-- How the steps ended: with the commit, with a step that was refused, or for want of memory between two.
abbrev pub EndsPut : List FileEvent → Result Unit Refusal → Type 0
EndsPut [] (Ok u) = ⊥
EndsPut [] (Err refusal) = refusal ≡ Memory
EndsPut (f ∷ []) (Ok u) = IsLastPut f.event.step f.event.answer
EndsPut (f ∷ []) (Err refusal) = (f.event.answer ≡ Err refusal) ⊎ (IsDoneBefore f.event × (refusal ≡ Memory))
EndsPut (f ∷ g ∷ fs) result = IsDoneBefore f.event × EndsPut (g ∷ fs) result

-- the containers that were added: the first of those that were offered, of each seal that was done
abbrev pub seal_by : StepValue → Result Answer Refusal → List StoreChange
seal_by (asked.Seal offered) (Ok (answers.Sealed id count)) = seals_from (id + 1 - count) (take count offered)
seal_by step answer = []

abbrev pub seals_of : List FileEvent → List StoreChange
seals_of [] = []
seals_of (f ∷ fs) = seal_by f.event.step f.event.answer ++ seals_of fs

-- These steps were made.
pub record PutRun (C : Type 0) (state : C → CoreState) (name bytes : List ℕ) (result : Result Unit Refusal) (old new : C) : Type 0 where
  pub steps : List FileEvent
  pub ran : CoreRun C state (events_of steps) old new
  pub each : AllByRecursion (IsPutStep name bytes) steps
  pub ends : EndsPut steps result
  pub whole : AreWhole bytes [] steps
  -- what was sealed is of the file, and was not held
  pub adds : OfEachIndexed (state old).disk.size (state old).known (state old).tables (λ store. AddsOnce bytes (seals_of steps) store)

-- why the file wasn't stored, by each store that the tables represent at the end, each of whose keys the index has, and by what reads
-- returned since a moment
abbrev pub IsPutRefusal : List ℕ → List ℕ → DiskView → CoreState → Refusal → Type 0
IsPutRefusal name bytes disk c Memory = Unit {0}
IsPutRefusal name bytes disk c DiskRead = Unit {0}
IsPutRefusal name bytes disk c DiskWrite = Unit {0}
IsPutRefusal name bytes disk c refusal =
    OfEachIndexed c.disk.size c.known c.tables (λ store. RefusesIngest name bytes (room_in (Ingest name) store) refusal
    ⊎ IsUnlikeNode bytes store (ReadsSince disk c.disk) refusal)

-- each piece of a file is held, by each store that the tables represent
abbrev pub HoldsPieces : List ℕ → List ℕ → CoreState → Type 0
HoldsPieces name given c = OfEach c.disk.size c.known c.tables (λ store. HasPieces given (room_in (Ingest name) store))

-- ---- a file is given back

-- the name was not opened
pub record IsNotOpened (C : Type 0) (state : C → CoreState) (name : List ℕ) (result : Result Unit Ending) (old new : C)
    (sink sink_now : SinkView) : Type 0 where
  pub refusal : Refusal
  pub buf : List ℕ
  pub result_is : result ≡ Err (endings.Refused refusal)
  pub asked : CoreStep (state old) (record { actor = 0; step = asked.OpenRead name; answer = Err refusal; buf = buf }) (state new)
  pub sink_is : sink_now ≡ sink

-- a segment of the file was read on
abbrev pub IsRead : Event → Type 0
IsRead e = (e.actor ≡ 0) × (e.step ≡ asked.ReadNext)

-- it was given
abbrev pub IsGiven : Result Answer Refusal → Type 0
IsGiven (Ok (answers.Bytes count)) = Unit {0}
IsGiven answer = ⊥

-- how the reads ended: with the end of the file, with a read that was refused, or as a segment could not be written
abbrev pub EndsGiving : List Event → Result Unit Ending → Type 0
EndsGiving [] result = ⊥
EndsGiving (e ∷ []) (Ok u) = e.answer ≡ Ok answers.End
EndsGiving (e ∷ []) (Err (endings.Refused refusal)) = e.answer ≡ Err refusal
EndsGiving (e ∷ []) (Err endings.Sink) = IsGiven e.answer
EndsGiving (e ∷ []) (Err ending) = ⊥
EndsGiving (e ∷ f ∷ es) result = IsGiven e.answer × EndsGiving (f ∷ es) result

-- what was given was written, one segment after the other; the sink may have taken a first part alone
abbrev pub WroteGiven : Result Unit Ending → List ℕ → SinkView → SinkView → Type 0
WroteGiven (Err endings.Sink) bytes sink sink_now =
    AppendedPart sink.written sink_now.written bytes × Rose sink.faults sink_now.faults
WroteGiven result bytes sink sink_now = Appended sink.written sink_now.written bytes × (sink_now.faults ≡ sink.faults)

-- where the sink failed it took all of the others, and a first part of the last one
abbrev pub WroteLast : Result Unit Ending → List (List ℕ) → SinkView → SinkView → Type 0
WroteLast (Err endings.Sink) given sink sink_now =
    (segments : List (List ℕ)) × ((last : List ℕ) × ((given ≡ segments ++ last ∷ [])
    × ((part : List ℕ) × (IsFirstOf part last × Appended sink.written sink_now.written (concat segments ++ part)))))
WroteLast result given sink sink_now = Unit {0}

-- the name was opened, and the file read on
pub record IsGivenOut (C : Type 0) (state : C → CoreState) (name : List ℕ) (result : Result Unit Ending) (old new : C)
    (sink sink_now : SinkView) : Type 0 where
  pub count : ℕ
  pub buf : List ℕ
  pub mid : C
  pub opened : CoreStep (state old) (opens 0 name count buf) (state mid)
  pub reads : List Event
  pub ran : CoreRun C state reads mid new
  pub each : AllByRecursion IsRead reads
  pub ends : EndsGiving reads result
  pub wrote : WroteGiven result (concat (given_to 0 reads)) sink sink_now
  pub wrote_last : WroteLast result (given_to 0 reads) sink sink_now

-- These steps were made.
abbrev pub GiveRun : (C : Type 0) → (C → CoreState) → List ℕ → Result Unit Ending → C → C → SinkView → SinkView → Type 0
GiveRun C state name result old new sink sink_now =
    IsNotOpened C state name result old new sink sink_now ⊎ IsGivenOut C state name result old new sink sink_now
