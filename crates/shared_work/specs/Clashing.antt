-- Where no two different nodes have one digest, nothing that workers ask for clashes with what is held (docs/MODEL.md, 'Workers').
use Rattle.std.specs.Prelude.{◌≡◌, ◌⊎◌, ◌<◌, ℕ, List, ◌++◌, Some, Result, Err}
use Rattle.std.specs.List.{AllByRecursion, Contains}
use Rattle.base_model.specs.Bytes.{key_of}
use Rattle.base_model.specs.Known.{KnownWith}
use Rattle.actor_parts.specs.declared.actor.TheConstants.{ACTORS}
use Rattle.actor_parts.specs.declared.step.Answer.{Answer}
use Rattle.actor_parts.specs.StepValue.{IsStep}
use Rattle.load_stream.specs.Load.{LoadState}
use Rattle.merkle_file.specs.Node.{Contents, spelling}
use Rattle.refusals.specs.declared.refusal.Refusal.{Refusal}
use Rattle.refusals.specs.declared.refusal.Refusal.TheVariants.{Clash}
use Rattle.store_model.specs.Collisions.{ByteSet, HasNoCollisions, IsIn}
use Rattle.store_model.specs.Pieces.{IsPieceOf, Node}
use Rattle.store_model.specs.Slots.{Copy, newest}
use Rattle.store_model.specs.Trees.{bytes_at}
use Rattle.store_core.specs.Runs.{CoreRun}
use Rattle.store_core.specs.State.{CoreState, Event, IsRunning}
use Rattle.store_machine.specs.ByMap.{FileMachine}
use Rattle.store_machine.specs.Machine.{Running}
use Rattle.core_machine.specs.Bytes.{OfStore}
use Rattle.core_machine.specs.Files.{IsFileMachine}
use Rattle.ingest_workers.specs.Owing.{AreAllOwed, stream_of}
use Rattle.shared_work.specs.Streams.{HasAllSegments}

-- ---- nodes

-- the bytes are a node of the tree of one of the actors' files
abbrev pub IsNodeOf : (ℕ → List LoadState) → List ℕ → Type 0
IsNodeOf own bytes = (actor : ℕ) × (file : LoadState) × Contains (own actor) file
    × ((n : Contents) × (IsPieceOf (stream_of file) (Node n) × (bytes ≡ spelling n)))

-- or they are the newest copy of a node's key
abbrev pub IsHeldNode : List ℕ → List ℕ → Type 0
IsHeldNode bytes content = OfStore content (λ store.
    (digest : List ℕ) × ((copy : Copy) × ((newest 0 store.held (key_of 1 digest) ≡ Some copy) × (bytes ≡ bytes_at copy.place content))))

-- so it is between some of these steps, of what the disk tells then
pub record IsHeldBetween {C : Type 0} (state : C → CoreState) (es : List Event) (old new : C) (bytes : List ℕ) : Type 0 where
  pub before : List Event
  pub after : List Event
  pub mid : C
  pub steps_are : es ≡ before ++ after
  pub first : CoreRun C state before old mid
  pub then_run : CoreRun C state after mid new
  pub held : KnownWith (state mid).disk.content (IsHeldNode bytes)

-- ---- what is so

-- the answer is no clash
abbrev pub IsNoClash : Result Answer Refusal → Type 0
IsNoClash (Err (Clash key at)) = ⊥
IsNoClash answer = Unit {0}

-- Steps by any actors that are due by what each asked for before, of a core that runs and is at files, over data without collisions, on a
-- disk that tells its content: where no two different nodes, of the trees of the files or held on the way, have one digest, none clashes.
abbrev pub NoneClashes : (C : Type 0) → (C → CoreState) → Type 0
NoneClashes C state = (among : ByteSet) (own : ℕ → List LoadState) (es : List Event) (m : FileMachine) (content : List ℕ) (old new : C)
    → HasNoCollisions (IsIn among) → HasAllSegments own (IsIn among) → IsRunning (state old) → IsFileMachine (IsIn among) m (state old)
    → m.state ≡ Running → AllByRecursion (λ e. IsStep e.step × (e.actor < ACTORS)) es → CoreRun C state es old new → AreAllOwed own es
    → (state old).disk.content ≡ Some content → HasNoCollisions (λ bytes. IsNodeOf own bytes ⊎ IsHeldBetween state es old new bytes)
    → AllByRecursion (λ e. IsNoClash e.answer) es
