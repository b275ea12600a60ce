-- By what alone a whole load in a store without names ends without a summary, where the disk tells its content (docs/MODEL.md, 'Workers').
use Rattle.std.specs.Prelude.{◌≡◌, ◌⊎◌, ◌≤◌, ◌<◌, ◌-◌, ◌^◌, ℕ, List, length, IfErr}
use Rattle.std.specs.List.{AllByRecursion}
use Rattle.dd_disk.specs.View.{DiskView}
use Rattle.disk_format.specs.Layout.{half_cells}
use Rattle.disk_format.specs.declared.numbers.TheConstants.{LAST_ID, MOST_FILE, RESERVE}
use Rattle.refusals.specs.declared.refusal.Refusal.{Refusal}
use Rattle.refusals.specs.declared.refusal.Refusal.TheVariants.{Memory, Full, Clash, DiskRead, DiskWrite, Stopped, Numbers, Unpinned}
use Rattle.store_model.specs.Collisions.{ByteSet, HasNoCollisions, IsIn}
use Rattle.store_model.specs.Image.{Store, last_sequence}
use Rattle.store_model.specs.Slots.{free_slots, last_id}
use Rattle.store_core.specs.State.{CoreState}
use Rattle.store_machine.specs.ByMap.{FileMachine}
use Rattle.core_machine.specs.Bytes.{OfStore}
use Rattle.shared_work.specs.Clashing.{IsHeldNode, IsNodeOf}
use Rattle.shared_work.specs.Complete.{IsEmptyAt}
use Rattle.shared_work.specs.Streams.{HasAllSegments}
use Rattle.shared_work.specs.Whole.{Outcome, Plan, WorksThrough, streams_of}

-- there is a worker; and there are few jobs, of small numbers, and of files that are no longer than one may be
pub record IsSmall (plan : Plan) : Type 0 where
  pub some : 1 ≤ plan.workers
  pub few : length plan.jobs ≤ 256
  pub small : AllByRecursion (λ j. (j.number < 2 ^ 64) × (j.length ≤ MOST_FILE)) plan.jobs

-- ---- what images show

-- P is so of an image that a crash might have left between these two moments of a disk
abbrev pub ShownSince : DiskView → DiskView → (List ℕ → Type 0) → Type 0
ShownSince first last P = (image : List ℕ) × (last.images_since first.clock image × P image)

-- it is of a store of which just so many slots are free, and these are no more than the reserve
abbrev pub IsFull : ℕ → List ℕ → Type 0
IsFull free image = OfStore image (λ store. (free ≡ free_slots store.held) × (free ≤ RESERVE))

-- or of one of whose numbers one is at its end: the greatest id, the last sequence number or, where no cell is free, the generation
abbrev pub IsAtLast : Store → Type 0
IsAtLast store = (LAST_ID ≤ last_id store.held) ⊎ (last_sequence store ≡ 2 ^ 64 - 1)
    ⊎ ((half_cells ≤ length store.records) × (store.selector.generation ≡ 2 ^ 64 - 1))

-- the bytes are a node of the tree of one of the jobs' files, or the newest copy of a node's key in such an image
abbrev pub IsWorkNode : Plan → DiskView → DiskView → List ℕ → Type 0
IsWorkNode plan first last bytes = IsNodeOf (streams_of plan) bytes ⊎ ShownSince first last (IsHeldNode bytes)

-- ---- what is so

-- Why it may end, and any of its steps be refused: there was no memory; an image shows that no slot but those of the reserve was free, or
-- that a number is at its end; a call of the disk failed, or one did before, of which the store is stopped; or two different nodes have one
-- digest, so that one clashes with what is held or, of the trees of the jobs' files, lacks a pin. There is no other cause.
abbrev pub IsCause : Plan → DiskView → DiskView → Refusal → Type 0
IsCause plan first last Memory = Unit {0}
IsCause plan first last (Full free) = ShownSince first last (IsFull free)
IsCause plan first last Numbers = ShownSince first last (λ image. OfStore image IsAtLast)
IsCause plan first last DiskRead = Unit {0}
IsCause plan first last DiskWrite = Unit {0}
IsCause plan first last (Stopped at) = Unit {0}
IsCause plan first last (Clash key at) = HasNoCollisions (IsWorkNode plan first last) → ⊥
IsCause plan first last (Unpinned key) = HasNoCollisions (IsNodeOf (streams_of plan)) → ⊥
IsCause plan first last refusal = ⊥

-- Of a whole load of small jobs, of a core that runs and is at no files, over data without collisions that has all segments of the jobs'
-- files, where the greatest id is that of a container: each step is done or refused for its cause, and so is the whole.
abbrev pub WorksAreComplete : (C : Type 0) → (C → CoreState) → Type 0
WorksAreComplete C state = (among : ByteSet) (plan : Plan) (came : Outcome) (m : FileMachine) (old new : C) → HasNoCollisions (IsIn among)
    → HasAllSegments (streams_of plan) (IsIn among) → IsSmall plan → IsEmptyAt (IsIn among) m (state old) → m.last_id ≡ last_id m.store.held
    → (works : WorksThrough state plan came old new)
    → AllByRecursion (λ e. IfErr e.answer (IsCause plan (state old).disk (state new).disk)) works.steps
    × IfErr came (IsCause plan (state old).disk (state new).disk)
