-- Which keys a collection found in the index, whatever the disk holds (docs/MODEL.md, 'Collection').
use Rattle.std.specs.Prelude.{◌≡◌, ◌⊎◌, ℕ, zero, suc, List, Option, Some, slice_get}
use Rattle.std.specs.FinMap as finite
use Rattle.std.specs.List.{All}
use Rattle.base_model.specs.Bytes.{byte_at}
use Rattle.container_meta.specs.declared.kind.Kind.TheVariants.{Leaf}
use Rattle.container_meta.specs.declared.place.Place.{Place}
use Rattle.container_meta.specs.Format.{kind_byte}
use Rattle.container_meta.specs.Places.{PlaceMap}
use Rattle.container_meta.specs.Spelling.{HeaderValue, header_digest}
use Rattle.dd_disk.specs.Shows.{Shows}
use Rattle.dd_disk.specs.View.{DiskView}
use Rattle.gc_enumerate.specs.Live.{LiveKeys}
use Rattle.gc_enumerate.specs.Scanning.{child_keys}
use Rattle.gc_sweep.specs.Holding.{IsLive}
use Rattle.merkle_file.specs.Node.{Contents, IsNode}
use Rattle.store_model.specs.Slots.{HoldsSlot}
use Rattle.store_model.specs.Trees.{node_key}
use Rattle.gc_steps.specs.declared.collection.Stage.{Stage}
use Rattle.gc_steps.specs.declared.collection.Stage.TheVariants.{Mark}
use Rattle.gc_steps.specs.declared.roots.RootKey.{RootKey}

-- the index has the key where a segment of this level lies
pub record HasAt (index : PlaceMap) (level : ℕ) (key : List ℕ) : Type 0 where
  pub place : Place
  pub place_is : finite.get index key ≡ Some place
  pub level_is : place.level ≡ level

-- a node of this level has the key, and P holds of its children's keys
pub record HasNode (P : List ℕ → Type 0) (level : ℕ) (key : List ℕ) : Type 0 where
  pub node : Contents
  pub right : IsNode node
  pub level_is : node.level ≡ level
  pub key_is : node_key node ≡ key
  pub children : All P (child_keys node)

-- The index has each key of a tree of this level: that of its root, at this level, and above level 0 there is a node of that key, of whose
-- children, one level below, the same holds.
abbrev pub FindsTree : PlaceMap → ℕ → List ℕ → Type 0
FindsTree index zero key = HasAt index zero key
FindsTree index (suc level) key = HasAt index (suc level) key × HasNode (FindsTree index level) (suc level) key

-- so it is with the trees of all these roots
abbrev pub FindsAll : PlaceMap → List RootKey → Type 0
FindsAll index roots = All (λ r. FindsTree index r.level r.key) roots

-- it marks no more: so what it frees or copies comes after all was marked
abbrev pub HasMarkedAll : Stage → Type 0
HasMarkedAll (Mark level slot) = ⊥
HasMarkedAll stage = Unit {0}

-- no header but the one that is held in a slot was shown there with its digest
abbrev pub HeadersAreApart : List (Option HeaderValue) → DiskView → DiskView → Type 0
HeadersAreApart held old new = (slot : ℕ) (h g : HeaderValue) → slice_get held slot ≡ Some (Some h)
    → Shows old new (λ image. HoldsSlot image slot (Some g)) → header_digest g ≡ header_digest h → g ≡ h

-- ---- whatever others do meanwhile

-- the key is that of data, by its kind
abbrev pub IsDataKey : List ℕ → Type 0
IsDataKey key = byte_at 0 key ≡ kind_byte Leaf

-- a node has the key, and P holds of its children's keys
pub record HasChildren (P : List ℕ → Type 0) (key : List ℕ) : Type 0 where
  pub node : Contents
  pub right : IsNode node
  pub key_is : node_key node ≡ key
  pub children : All P (child_keys node)

-- The index has each key of the trees of these roots: the live keys that it has are a set in which the keys of the roots are, and with each
-- key but one of data those of the children of a node of that key.
pub record FindsTrees (index : PlaceMap) (live : LiveKeys) (roots : List RootKey) : Type 0 where
  pub roots_are : All (λ r. IsLive index live r.key) roots
  pub closed : (key : List ℕ) → IsLive index live key → IsDataKey key ⊎ HasChildren (IsLive index live) key
