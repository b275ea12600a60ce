-- Byte lists of which no two have one digest, and images whose data is among them (docs/MODEL.md, 'Files by trees').
use Rattle.std.specs.Prelude.{◌≡◌, ℕ, ◌+◌, ◌≤◌, List, [], ◌∷◌, Bool, IsTrue, Option, Some, None}
use Rattle.std.specs.List.{AllByRecursion}
use Rattle.sha2.specs.Sha256.{sha256}
use Rattle.disk_format.specs.declared.numbers.TheConstants.{RESERVE}
use Rattle.container_meta.specs.declared.kind.Kind.{Kind}
use Rattle.container_meta.specs.declared.kind.Kind.TheVariants.{Leaf, Tree}
use Rattle.container_meta.specs.Spelling.{HeaderValue}
use Rattle.store_model.specs.Files.{Files, Stored}
use Rattle.store_model.specs.Image.{Store, last_sequence}
use Rattle.store_model.specs.Slots.{free_slots}
use Rattle.store_model.specs.Standing.{CanBeOpened, IsStoreOf, entry_bytes}

-- No collisions: no two different ones of these byte lists have one digest.
abbrev pub HasNoCollisions : (List ℕ → Type 0) → Type 0
HasNoCollisions S = (a b : List ℕ) → S a → S b → sha256 a ≡ sha256 b → a ≡ b

-- A set of byte lists, by which ones are in it. Contracts speak of any such set; lemmas of any property.
abbrev pub ByteSet : Type 0
ByteSet = List ℕ → Bool

abbrev pub IsIn : ByteSet → List ℕ → Type 0
IsIn set bytes = IsTrue (set bytes)

-- the bytes of an entry of a data container are among these
abbrev pub IsAmong : (List ℕ → Type 0) → Kind → List ℕ → Type 0
IsAmong S Leaf bytes = S bytes
IsAmong S Tree bytes = Unit {0}

-- each data segment that is held, in slots from one on, is among these
abbrev pub AreAmong : (List ℕ → Type 0) → ℕ → List (Option HeaderValue) → List ℕ → Type 0
AreAmong S slot [] image = Unit {0}
AreAmong S slot (None ∷ cs) image = AreAmong S (slot + 1) cs image
AreAmong S slot (Some h ∷ cs) image =
    AllByRecursion (λ e. IsAmong S h.kind (entry_bytes slot e image)) h.entries × AreAmong S (slot + 1) cs image

-- The image is this store of these files, and each data segment that it holds is among S. Where S has no collisions, the
-- newest copy of a segment of S is the segment.
pub record Stands (S : List ℕ → Type 0) (store : Store) (files : Files) (image : List ℕ) : Type 0 where
  pub holds : IsStoreOf store files image
  pub among : AreAmong S 0 store.held image

-- The image can be opened as a store of these files, with this last sequence number; each data segment that it holds is among S.
pub record OpensAs (S : List ℕ → Type 0) (stored : Stored) (image : List ℕ) : Type 0 where
  pub store : Store
  pub stands : Stands S store stored.files image
  pub opens : CanBeOpened store stored.files
  pub last_is : last_sequence store ≡ stored.last

-- It is such a store, and has the slots of the reserve already: it is opened as it is.
pub record IsOf (S : List ℕ → Type 0) (stored : Stored) (image : List ℕ) : Type 0 where
  pub store : Store
  pub stands : Stands S store stored.files image
  pub reserve : RESERVE ≤ free_slots store.held
  pub last_is : last_sequence store ≡ stored.last
