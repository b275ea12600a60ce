-- Which keys are live of a collection that runs in a core: just those of which P holds.
use Rattle.std.specs.Prelude.{◌≡◌, ℕ, List, Contains, Option, Some}
use Rattle.container_meta.specs.Places.{PlaceMap}
use Rattle.container_meta.specs.Spelling.{HeaderValue}
use Rattle.gc_enumerate.specs.Live.{LiveKeys}
use Rattle.gc_enumerate.specs.Scanning.{child_keys}
use Rattle.gc_steps.specs.LiveTrees.{HoldsNode, IsWhole}
use Rattle.gc_steps.specs.Sparing.{IsWithin}
use Rattle.gc_steps.specs.declared.collection.Collection.{Collection}
use Rattle.gc_steps.specs.declared.collection.Stage.{Stage}
use Rattle.gc_steps.specs.declared.collection.Stage.TheVariants as stages
use Rattle.gc_sweep.specs.Holding.{IsLive}
use Rattle.merkle_file.specs.Node as node
use Rattle.store_model.specs.Image.{Store}
use Rattle.store_model.specs.Reserve.{tree_keys}
use Rattle.store_model.specs.Slots.{Copy as HeldCopy}
use Rattle.store_model.specs.Trees.{node_key}
use Rattle.store_core.specs.State.{CoreState}

-- While it marks: of the children of each node that is held P holds, where it does of the node.
abbrev pub IsClosedAt : Stage → (List ℕ → Type 0) → List (Option HeaderValue) → List ℕ → Type 0
IsClosedAt (stages.Mark level at) P held image = (n : node.Contents) (copy : HeldCopy) → HoldsNode held image n copy → P (node_key n)
    → (key : List ℕ) → Contains (child_keys n) key → P key
IsClosedAt stage P held image = Unit {0}

-- The key is one of the tree of a live key; that tree is held whole.
pub record IsBelowLive (index : PlaceMap) (held : List (Option HeaderValue)) (image : List ℕ) (live : LiveKeys) (key : List ℕ) : Type 0
  where
    pub root : List ℕ
    pub is_live : IsLive index live root
    pub tree : IsWhole index held image root
    pub there : Contains (tree_keys tree.whole) key

-- While it marks each key of which P holds is one below a live key; then it is live.
abbrev pub IsLiveAtStage : Stage → PlaceMap → List (Option HeaderValue) → List ℕ → LiveKeys → List ℕ → Type 0
IsLiveAtStage (stages.Mark level at) index held image live key = IsBelowLive index held image live key
IsLiveAtStage stage index held image live key = IsLive index live key

-- Just the keys of which P holds are live, once it has marked; while it marks some of them are.
pub record LivesJust (P : List ℕ → Type 0) (store : Store) (c : CoreState) (collection : Collection) : Type 0 where
  pub within : IsWithin P collection.live
  pub closed : (image : List ℕ) → c.disk.content ≡ Some image → IsClosedAt collection.stage P store.held image
  pub all : (index : PlaceMap) (image : List ℕ) → c.known ≡ Some index → c.disk.content ≡ Some image → (key : List ℕ) → P key
      → IsLiveAtStage collection.stage index store.held image collection.live key
