-- What the steps of a core keep of the segments that they were given (docs/MODEL.md, 'The core').
use Rattle.std.specs.Prelude.{◌≡◌, List, [], ◌∷◌, ◌++◌, map, take, None, Result, Ok}
use Rattle.std.specs.List.{AllByRecursion}
use Rattle.dd_disk.specs.Moves.{StandsFor}
use Rattle.container_meta.specs.Segments.{Contents, KindSegment, segment_key}
use Rattle.actor_parts.specs.declared.step.Answer.{Answer}
use Rattle.actor_parts.specs.declared.step.Answer.TheVariants as answers
use Rattle.actor_parts.specs.Segments.{pin_of}
use Rattle.actor_parts.specs.StepValue as asked
use Rattle.actor_parts.specs.StepValue.{StepValue}
use Rattle.refusals.specs.declared.refusal.Refusal.{Refusal}
use Rattle.store_model.specs.Collisions.{HasNoCollisions, ByteSet, IsIn}
use Rattle.store_model.specs.Files.{Stored}
use Rattle.store_model.specs.Image.{Store}
use Rattle.segment_index.specs.Places.{KnownMap}
use Rattle.store_model.specs.Slots.{HasKey}
use Rattle.store_model.specs.Trees.{HasNewest}
use Rattle.store_state.specs.Settled.{IsSettled}
use Rattle.store_state.specs.Tables.{Represents}
use Rattle.store_core.specs.Runs.{AreNoGcSteps, FileEvent, FileRun, IsAt, events_of}
use Rattle.store_core.specs.State.{CoreState}

-- the segments of containers, one after the other
abbrev pub segments_in : List Contents → List KindSegment
segments_in [] = []
segments_in (c ∷ cs) = map (λ s. record { kind = c.kind; segment = s }) c.segments ++ segments_in cs

-- what a step keeps: a segment that was claimed and is held, and those of the containers that were sealed
abbrev pub kept_by : StepValue → Result Answer Refusal → List KindSegment
kept_by (asked.Claim seg) (Ok answers.Held) = seg ∷ []
kept_by (asked.Seal offered) (Ok (answers.Sealed id count)) = segments_in (take count offered)
kept_by step answer = []

-- and what steps keep, the first of them first
abbrev pub kept_of : List FileEvent → List KindSegment
kept_of [] = []
kept_of (f ∷ fs) = kept_by f.event.step f.event.answer ++ kept_of fs

-- Each image holds a segment: the index has its key, and the newest copy has its level and its bytes.
pub record IsHeldIn (seg : KindSegment) (c : CoreState) : Type 0 where
  pub indexed : KnownMap c.known (λ index. HasKey index (segment_key seg.kind seg.segment))
  pub newest : (store : Store) → Represents store c.known c.tables
      → StandsFor (λ image. HasNewest store.held (segment_key seg.kind seg.segment) (pin_of seg).level seg.segment.bytes image) c.disk

-- What each image held is held at the end of a run without steps of a collection,
abbrev pub StaysHeld : (C : Type 0) → (C → CoreState) → Type 0
StaysHeld C state = (among : ByteSet) (steps : List FileEvent) (s : Store) (stored : Stored) (seg : KindSegment) (old new : C)
    → HasNoCollisions (IsIn among) → IsAt (IsIn among) s stored (state old)
    → IsSettled (state old).tables.slots (state old).disk
    → FileRun C state (IsIn among) steps old new → AreNoGcSteps (events_of steps) → (state new).stop ≡ None
    → IsHeldIn seg (state old) → IsHeldIn seg (state new)

-- What the steps of such a run kept is held at its end, where no two different data segments have one digest.
abbrev pub KeepsSegments : (C : Type 0) → (C → CoreState) → Type 0
KeepsSegments C state = (among : ByteSet) (steps : List FileEvent) (s : Store) (stored : Stored) (old new : C)
    → HasNoCollisions (IsIn among) → IsAt (IsIn among) s stored (state old)
    → IsSettled (state old).tables.slots (state old).disk
    → FileRun C state (IsIn among) steps old new → AreNoGcSteps (events_of steps) → (state new).stop ≡ None
    → AllByRecursion (λ seg. IsHeldIn seg (state new)) (kept_of steps)
