-- What an actor holds of the file that its session is given, whatever others do between its turns (docs/MODEL.md, 'Turns').
use Rattle.std.specs.Prelude.{◌≡◌, ◌≢◌, ◌⊎◌, ◌<◌, ℕ, Bool, true, List, [], ◌∷◌, ◌++◌, slice_get, Some, None, Ok, Err}
use Rattle.std.specs.FinMap as finite
use Rattle.std.specs.List.{AllByRecursion}
use Rattle.disk_format.specs.Cells.{Root}
use Rattle.container_meta.specs.declared.kind.Kind.{Kind}
use Rattle.container_meta.specs.Segments.{Segment, segment_key}
use Rattle.actor_parts.specs.declared.actor.TheConstants.{ACTORS}
use Rattle.actor_parts.specs.declared.part.Part.TheVariants.{Writing}
use Rattle.actor_parts.specs.declared.pins.Pin.{Pin}
use Rattle.actor_parts.specs.declared.step.Answer.{Answer}
use Rattle.actor_parts.specs.Parts.{part_of}
use Rattle.actor_parts.specs.PinMap.{PinMap}
use Rattle.actor_parts.specs.StepValue as asked
use Rattle.actor_parts.specs.StepValue.{StepValue}
use Rattle.refusals.specs.declared.refusal.Refusal.{Refusal}
use Rattle.ingest_session.specs.declared.due.Due.{Due}
use Rattle.ingest_session.specs.declared.due.Due.TheVariants as dues
use Rattle.ingest_session.specs.Calls.{ready_in}
use Rattle.ingest_session.specs.Due.{due_in, offered_in}
use Rattle.ingest_session.specs.Facts.{kept}
use Rattle.ingest_session.specs.History.{History, HasHistory, answered, no_history}
use Rattle.ingest_session.specs.Moving.{IsOffered}
use Rattle.ingest_session.specs.State.{SessionState}
use Rattle.store_model.specs.Collisions.{ByteSet, HasNoCollisions, IsIn}
use Rattle.store_model.specs.Files.{Stored}
use Rattle.store_model.specs.Image.{Store}
use Rattle.store_model.specs.Standing.{IsSegmentOf}
use Rattle.store_state.specs.Settled.{IsSettled}
use Rattle.store_core.specs.Core.{CoreStep}
use Rattle.store_core.specs.Keeping.{IsHeldIn}
use Rattle.store_core.specs.Runs.{FileEvent, FileRun, FileStep, IsAt, IsRootOf}
use Rattle.store_core.specs.State.{CoreState, Event}
use Rattle.session_turns.specs.Turns.{TurnRun, TurnsStopped}

-- ---- what an actor holds

-- what answers say to be kept of a file, by kinds
abbrev pub Kept : Type 0
Kept = Kind → List Segment

-- a segment is among these
abbrev pub IsKeptIn : Kept → Kind → Segment → Type 0
IsKeptIn kept kind segment = (index : ℕ) × (slice_get (kept kind) index ≡ Some segment)

-- An actor stores a file, and each segment that is kept of it each image holds, and the actor has pinned.
pub record HoldsKept (actor : ℕ) (kept : Kept) (c : CoreState) : Type 0 where
  pub pins : PinMap
  pub writing : part_of c.parts actor ≡ Writing pins
  pub held : (kind : Kind) (x : Segment) → IsKeptIn kept kind x → IsHeldIn (record { kind = kind; segment = x }) c
  pub pinned : (kind : Kind) (x : Segment) → IsKeptIn kept kind x → (pin : Pin) × (finite.get pins (segment_key kind x) ≡ Some pin)

-- ---- steps beside a file, and those of it

-- what is done by one who gives no file
abbrev pub IsQuiet : StepValue → Type 0
IsQuiet (asked.OpenRead name) = Unit {0}
IsQuiet asked.ReadNext = Unit {0}
IsQuiet asked.EndRead = Unit {0}
IsQuiet (asked.Delete name) = Unit {0}
IsQuiet asked.ListNames = Unit {0}
IsQuiet (asked.GcStart percent) = Unit {0}
IsQuiet asked.GcStep = Unit {0}
IsQuiet asked.Stat = Unit {0}
IsQuiet asked.Unique = Unit {0}
IsQuiet step = ⊥

-- A step beside the file that an actor stores: another's, or one that was refused, or one by which no file is given.
abbrev pub IsBeside : ℕ → Event → Type 0
IsBeside actor e = (actor ≢ e.actor) ⊎ (((refusal : Refusal) × (e.answer ≡ Err refusal)) ⊎ IsQuiet e.step)

-- what is due was asked for
abbrev pub IsAskedFor : Due → SessionState → StepValue → Type 0
IsAskedFor dues.Claim x (asked.Claim seg) = IsOffered x seg
IsAskedFor (dues.Seal kind) x (asked.Seal offered) = offered ≡ offered_in x kind
IsAskedFor due x step = ⊥

-- an actor began a file
pub record Begins (actor : ℕ) (e : Event) : Type 0 where
  pub actor_is : e.actor ≡ actor
  pub step_is : e.step ≡ asked.Begin
  pub answer : Answer
  pub answer_is : e.answer ≡ Ok answer

-- it made the step that is due to its session, and this was answered
pub record MakesDue (actor : ℕ) (x : SessionState) (answer : Answer) (e : Event) : Type 0 where
  pub actor_is : e.actor ≡ actor
  pub is_due : IsAskedFor (due_in x) x e.step
  pub answer_is : e.answer ≡ Ok answer

-- A step of a core that is at a store of files, on a settled disk. What it is given is right, over data among S, and the core isn't
-- stopped after it.
pub record StepsAt (S : List ℕ → Type 0) (f : FileEvent) (s : Store) (stored : Stored) (old new : CoreState) : Type 0 where
  pub is_at : IsAt S s stored old
  pub settled : IsSettled old.tables.slots old.disk
  pub step : FileStep S f old new
  pub runs_on : new.stop ≡ None

-- ---- one step

-- What an actor holds of its file it holds after each step beside it, be that one of a collection.
abbrev pub HoldsBeside : (C : Type 0) → (C → CoreState) → Type 0
HoldsBeside C state = (among : ByteSet) (f : FileEvent) (s : Store) (stored : Stored) (actor : ℕ) (k : Kept) (old new : C)
    → HasNoCollisions (IsIn among) → StepsAt (IsIn among) f s stored (state old) (state new) → actor < ACTORS
    → IsBeside actor f.event → HoldsKept actor k (state old) → HoldsKept actor k (state new)

-- One that begins a file holds what a new session keeps: nothing.
abbrev pub HoldsBegun : (C : Type 0) → (C → CoreState) → Type 0
HoldsBegun C state = (among : ByteSet) (f : FileEvent) (s : Store) (stored : Stored) (actor : ℕ) (old new : C)
    → StepsAt (IsIn among) f s stored (state old) (state new) → actor < ACTORS → Begins actor f.event
    → HoldsKept actor (kept no_history) (state new)

-- After a turn it holds what its session keeps then.
abbrev pub HoldsTurned : (C : Type 0) → (C → CoreState) → Type 0
HoldsTurned C state = (among : ByteSet) (f : FileEvent) (s : Store) (stored : Stored) (actor : ℕ) (x : SessionState) (h : History)
    (answer : Answer) (old new : C)
    → HasNoCollisions (IsIn among) → StepsAt (IsIn among) f s stored (state old) (state new) → actor < ACTORS → HasHistory x h
    → MakesDue actor x answer f.event → HoldsKept actor (kept h) (state old) → HoldsKept actor (kept (answered answer x h)) (state new)

-- Where it holds what a session keeps that is ready, the root is right.
abbrev pub ReadyRootIsRight : (C : Type 0) → (C → CoreState) → Type 0
ReadyRootIsRight C state = (among : ByteSet) (s : Store) (stored : Stored) (actor : ℕ) (x : SessionState) (h : History) (root : Root)
    (c : C)
    → IsAt (IsIn among) s stored (state c) → HasHistory x h → ready_in x ≡ Some root → HoldsKept actor (kept h) (state c)
    → IsRootOf root h.given (state c)

-- ---- all steps since the file began

-- A session was told nothing between. Of the bytes that it was given, and of the pieces in their place, nothing is said.
pub record IsUntold (h k : History) : Type 0 where
  pub held : k.held ≡ h.held
  pub absent : k.absent ≡ h.absent
  pub sealed : k.sealed ≡ h.sealed
  pub answers : k.answers ≡ h.answers

-- These steps were made, by whomever, and this was done with the session of an actor since it began its file: each step of the actor is
-- the one that was due, whose answer the session was told, or one beside the file. Before the file began it may have made any.
pub data Ingests (actor : ℕ) : List FileEvent → History → Type 0 where
  Begun : (before : List FileEvent) (f : FileEvent) → Begins actor f.event → Ingests actor (before ++ f ∷ []) no_history
  Given : (fs : List FileEvent) (h k : History) → Ingests actor fs h → IsUntold h k → Ingests actor fs k
  Beside : (fs : List FileEvent) (f : FileEvent) (h : History) → Ingests actor fs h → IsBeside actor f.event
      → Ingests actor (fs ++ f ∷ []) h
  Turned : (fs : List FileEvent) (f : FileEvent) (x : SessionState) (h : History) (answer : Answer) → Ingests actor fs h → HasHistory x h
      → MakesDue actor x answer f.event → Ingests actor (fs ++ f ∷ []) (answered answer x h)

-- Steps beside it, however many, leave this so.
abbrev pub IngestsBeside : Type 0
IngestsBeside = (actor : ℕ) (fs gs : List FileEvent) (h : History) → Ingests actor fs h → AllByRecursion (λ g. IsBeside actor g.event) gs
    → Ingests actor (fs ++ gs) h

-- Steps of a core that began at a store of files, on a settled disk. What they are given is right, over data among S.
pub record RunsFrom (C : Type 0) (state : C → CoreState) (S : List ℕ → Type 0) (fs : List FileEvent) (s : Store) (stored : Stored)
    (old new : C) : Type 0 where
  pub is_at : IsAt S s stored (state old)
  pub settled : IsSettled (state old).tables.slots (state old).disk
  pub run : FileRun C state S fs old new

-- Unless they stopped it, the actor holds what its session keeps,
abbrev pub HoldsIngested : (C : Type 0) → (C → CoreState) → Type 0
HoldsIngested C state = (among : ByteSet) (fs : List FileEvent) (s : Store) (stored : Stored) (actor : ℕ) (h : History) (old new : C)
    → HasNoCollisions (IsIn among) → RunsFrom C state (IsIn among) fs s stored old new → (state new).stop ≡ None → actor < ACTORS
    → Ingests actor fs h → HoldsKept actor (kept h) (state new)

-- and the root that it is ready with is right;
abbrev pub IngestedRootIsRight : (C : Type 0) → (C → CoreState) → Type 0
IngestedRootIsRight C state = (among : ByteSet) (fs : List FileEvent) (s : Store) (stored : Stored) (actor : ℕ) (x : SessionState)
    (h : History) (root : Root) (old new : C)
    → HasNoCollisions (IsIn among) → RunsFrom C state (IsIn among) fs s stored old new → (state new).stop ≡ None → actor < ACTORS
    → Ingests actor fs h → HasHistory x h → ready_in x ≡ Some root → IsRootOf root h.given (state new)

-- so a commit of it, whatever it is answered, is given right.
abbrev pub IngestedCommitIsRight : (C : Type 0) → (C → CoreState) → Type 0
IngestedCommitIsRight C state = (among : ByteSet) (fs : List FileEvent) (s : Store) (stored : Stored) (actor : ℕ) (x : SessionState)
    (h : History) (name : List ℕ) (root : Root) (e : Event) (old mid new : C)
    → HasNoCollisions (IsIn among) → RunsFrom C state (IsIn among) fs s stored old mid → actor < ACTORS → Ingests actor fs h
    → HasHistory x h → ready_in x ≡ Some root → e.step ≡ asked.Commit name root → CoreStep (state mid) e (state new)
    → FileStep (IsIn among) (record { event = e; bytes = h.given }) (state mid) (state new)

-- ---- turns that a core made

-- bytes that are cut by now of a file that begins so: they are a segment of each that goes on from there, or of it if it has ended
abbrev pub IsCutOf : List ℕ → Bool → List ℕ → Type 0
IsCutOf given ended bytes = (more : List ℕ) → (ended ≡ true → more ≡ []) → IsSegmentOf (given ++ more) bytes

-- Steps of one actor, which were run, and what was done with its session by then.
pub record StepsOfTurns (R : List FileEvent → Type 0) (actor : ℕ) (fs : List FileEvent) (given : List ℕ) (t : SessionState) : Type 0 where
  pub steps : List FileEvent
  pub own : AllByRecursion (λ f. f.event.actor ≡ actor) steps
  pub run : R steps
  pub history : History
  pub has : HasHistory t history
  pub given_is : history.given ≡ given
  pub ingests : Ingests actor (fs ++ steps) history

-- Turns of a session that took these bytes are such steps, and given right, where data among S is all that is cut of them by now.
abbrev pub TurnsAreSteps : (C : Type 0) → (C → CoreState) → Type 0
TurnsAreSteps C state = (among : ByteSet) (fs : List FileEvent) (actor : ℕ) (answers : List Answer) (s t : SessionState) (h : History)
    (old new : C)
    → ((bytes : List ℕ) → IsCutOf h.given s.ended bytes → IsIn among bytes) → HasHistory s h → Ingests actor fs h
    → TurnRun C state actor answers s t old new → StepsOfTurns (λ steps. FileRun C state (IsIn among) steps old new) actor fs h.given t

-- So it is where the last of them was refused.
abbrev pub StoppedTurnsAreSteps : (C : Type 0) → (C → CoreState) → Type 0
StoppedTurnsAreSteps C state = (among : ByteSet) (fs : List FileEvent) (actor : ℕ) (refusal : Refusal) (s t : SessionState) (h : History)
    (old new : C)
    → ((bytes : List ℕ) → IsCutOf h.given s.ended bytes → IsIn among bytes) → HasHistory s h → Ingests actor fs h
    → TurnsStopped C state actor refusal s t old new → StepsOfTurns (λ steps. FileRun C state (IsIn among) steps old new) actor fs h.given t
