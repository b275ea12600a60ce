-- Which files a disk image stands for (docs/MODEL.md, 'Images').
use Rattle.std.specs.Prelude.{◌≡◌, ℕ, ◌+◌, ◌≤◌, List, [], ◌∷◌, slice_get, Option, Some, None}
use Rattle.std.specs.FinMap as finite
use Rattle.std.specs.List.{AllByRecursion}
use Rattle.base_model.specs.Bytes.{range}
use Rattle.disk_format.specs.Layout.{data_at}
use Rattle.disk_format.specs.declared.numbers.TheConstants.{RESERVE}
use Rattle.container_meta.specs.declared.entry.Entry.{Entry}
use Rattle.container_meta.specs.declared.kind.Kind.{Kind}
use Rattle.container_meta.specs.declared.kind.Kind.TheVariants.{Leaf, Tree}
use Rattle.container_meta.specs.Spelling.{HeaderValue}
use Rattle.namespace.specs.declared.record.Named.{Named}
use Rattle.namespace.specs.Names.{NameMap}
use Rattle.segmenter.specs.Segments.{segments_of}
use Rattle.store_model.specs.Files.{Files, no_files}
use Rattle.store_model.specs.Image.{Store, Encodes, AreCopies, empty_store, names_of, last_sequence}
use Rattle.store_model.specs.Journal.{HoldsJournal, KnowsOther}
use Rattle.store_model.specs.Reserve.{HasReserve, IsReachable}
use Rattle.store_model.specs.Slots.{free_slots}
use Rattle.store_model.specs.Trees.{root_of, file_tree, HoldsTree, IsNodeOf}

-- the bytes of an entry of the container in a slot
abbrev pub entry_bytes : ℕ → Entry → List ℕ → List ℕ
entry_bytes slot e image = range (data_at slot + e.offset) e.length image

-- the bytes of an entry of a kind: a node of its level, or anything
abbrev pub IsOfKind : Kind → ℕ → List ℕ → Type 0
IsOfKind Leaf level bytes = Unit {0}
IsOfKind Tree level bytes = IsNodeOf level bytes

-- each entry of a tree container is a node of its level, in slots from one on
abbrev pub AreNodes : ℕ → List (Option HeaderValue) → List ℕ → Type 0
AreNodes slot [] image = Unit {0}
AreNodes slot (None ∷ cs) image = AreNodes (slot + 1) cs image
AreNodes slot (Some h ∷ cs) image =
    AllByRecursion (λ e. IsOfKind h.kind e.level (entry_bytes slot e image)) h.entries × AreNodes (slot + 1) cs image

-- What a name has, and its file: neither, or the root of the file, whose tree is held.
abbrev pub IsFileOf : List (Option HeaderValue) → List ℕ → Option Named → Option (List ℕ) → Type 0
IsFileOf held image None None = Unit {0}
IsFileOf held image None (Some bytes) = ⊥
IsFileOf held image (Some named) None = ⊥
IsFileOf held image (Some named) (Some bytes) = (named.root ≡ root_of bytes) × HoldsTree held image (file_tree bytes)

-- the files are those of the names
abbrev pub AreFilesOf : List (Option HeaderValue) → NameMap → List ℕ → Files → Type 0
AreFilesOf held names image files = (name : List ℕ) → IsFileOf held image (finite.get names name) (finite.get files name)

-- The image has the journal of the store, whatever else it has.
pub record HasJournal (store : Store) (image : List ℕ) : Type 0 where
  pub holds : HoldsJournal image store.selector store.records
  pub other : KnowsOther store.other_open store.selector.half image

-- The image holds this store, and is a store of these files: each entry's bytes have its digest and are of its kind. How many slots
-- are closed it doesn't say.
pub record IsStoreOf (store : Store) (files : Files) (image : List ℕ) : Type 0 where
  pub right : Encodes image store
  pub copies : AreCopies 0 store.held image
  pub nodes : AreNodes 0 store.held image
  pub files_are : AreFilesOf store.held (names_of store) image files

-- A store of these files can be opened: two different slots are closed, or have containers that no file needs, so that an
-- opening can close them.
abbrev pub CanBeOpened : Store → Files → Type 0
CanBeOpened store files = HasReserve (IsReachable files) store.held

-- The image is a store of these files that can be opened, with this last sequence number.
pub record StandsFor (files : Files) (last : ℕ) (image : List ℕ) : Type 0 where
  pub store : Store
  pub holds : IsStoreOf store files image
  pub opens : CanBeOpened store files
  pub last_is : last ≡ last_sequence store

-- the image is an empty store, as `format` makes it, with the slots of the reserve
abbrev pub IsFormatted : ℕ → List ℕ → Type 0
IsFormatted slots image = IsStoreOf (empty_store slots) no_files image × (RESERVE ≤ free_slots (empty_store slots).held)

-- some bytes are a segment of a file
abbrev pub IsSegmentOf : List ℕ → List ℕ → Type 0
IsSegmentOf file bytes = (index : ℕ) × (slice_get (segments_of file) index ≡ Some bytes)
