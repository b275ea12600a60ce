-- The steps of an actor that stores a file, as far as they need no segments: when they may be, and what becomes of the
-- actor's part (docs/MODEL.md, 'Steps').
use Rattle.std.specs.Prelude.{◌≡◌, ◌≢◌, ◌⊎◌, ℕ, List, [], Bool, true, false}
use Rattle.sha2.specs.Sha256.{sha256}
use Rattle.disk_format.specs.Cells.{Root}
use Rattle.disk_format.specs.Cells.Change.{Put}
use Rattle.actor_parts.specs.declared.part.Part.{Part}
use Rattle.actor_parts.specs.declared.part.Part.TheVariants.{Idle, Writing}
use Rattle.actor_parts.specs.Kinds.{kind_of}
use Rattle.actor_parts.specs.Parts.{part_of, with_part}
use Rattle.actor_parts.specs.PinMap.{PinMap, has_pin}
use Rattle.refusals.specs.declared.refusal.PartKind.{PartKind}
use Rattle.refusals.specs.declared.refusal.PartKind.TheVariants as kinds
use Rattle.refusals.specs.declared.refusal.Refusal.{Refusal}
use Rattle.refusals.specs.declared.refusal.Refusal.TheVariants.{Memory, WrongPart, Unpinned, Numbers, DiskWrite}
use Rattle.store_model.specs.Refusals.{root_key}
use Rattle.store_state.specs.declared.tables.Tables.{Tables}
use Rattle.ingest_steps.specs.Naming.{MayName, IsNameRefusal, HasNumbers, LacksNumbers, IsChanged}

-- the actor is at something else than the step takes
abbrev pub IsWrongPart : PartKind → Part → Refusal → Type 0
IsWrongPart taken part (WrongPart kind) = (kind ≡ kind_of part) × (kind ≢ taken)
IsWrongPart taken part refusal = ⊥

-- ---- the root of a file that was stored

-- the root of the empty file
abbrev pub empty_root : Root
empty_root = record { length = 0; level = 0; digest = sha256 [] }

-- the segment of a root is among the pins, with the root's level and length
abbrev pub is_pinned : PinMap → Root → Bool
is_pinned pins root = has_pin pins (root_key root) (record { level = root.level; length = root.length })

abbrev pub IsStored : PinMap → Root → Type 0
IsStored pins root = (root ≡ empty_root) ⊎ (is_pinned pins root ≡ true)

pub record IsNotStored (pins : PinMap) (root : Root) (key : List ℕ) : Type 0 where
  pub key_is : key ≡ root_key root
  pub some : root ≢ empty_root
  pub unpinned : is_pinned pins root ≡ false

-- ---- a commit

-- The actor stores a file, whose root this may be, and the name may be put.
pub record MayCommit (part : Part) (t : Tables) (name : List ℕ) (root : Root) : Type 0 where
  pub pins : PinMap
  pub writing : part ≡ Writing pins
  pub may_name : MayName t name
  pub stored : IsStored pins root

-- why it isn't so, in this order: the part, the name, the root
abbrev pub IsUncommitted : Part → Tables → List ℕ → Root → Refusal → Type 0
IsUncommitted part t name root (WrongPart kind) = IsWrongPart kinds.Writing part (WrongPart kind)
IsUncommitted part t name root (Unpinned key) =
    (pins : PinMap) × (part ≡ Writing pins) × MayName t name × IsNotStored pins root key
IsUncommitted part t name root refusal = (kind_of part ≡ kinds.Writing) × IsNameRefusal t name refusal

-- Why a commit is refused. Want of memory is free, and a failed write or sync is told by the count of faults.
abbrev pub IsCommitRefusal : Part → Tables → List ℕ → Root → Refusal → Type 0
IsCommitRefusal part t name root Memory = Unit {0}
IsCommitRefusal part t name root Numbers = MayCommit part t name root × LacksNumbers t
IsCommitRefusal part t name root DiskWrite = MayCommit part t name root × HasNumbers t
IsCommitRefusal part t name root refusal = IsUncommitted part t name root refusal

-- The name has the root, and the actor alone is at something else: at nothing.
pub record IsCommitted (parts : List Part) (actor : ℕ) (t : Tables) (name : List ℕ) (root : Root) (new_parts : List Part) (new : Tables)
    (sequence : ℕ) : Type 0 where
  pub may : MayCommit (part_of parts actor) t name root
  pub named : IsChanged t name (Put root) new sequence
  pub parts_are : new_parts ≡ with_part parts actor Idle
