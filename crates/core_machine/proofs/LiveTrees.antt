-- Live keys and the trees below them, where an index keeps its keys, the newest copies stay, and what is live stays so.
use Rattle.core_machine.proofs.Prelude.{ℕ, List, Option, sym, subst, Place, PlaceMap, HeaderValue, LiveKeys, IsLiveAt, root_there, IsLive, live_anywhere, Store, tree_keys, HasKey, KeepsCopies, tree_on, IsBelowLive}
use Rattle.std.specs.List.{Contains}
use Rattle.gc_steps.specs.LiveTrees.{IsWhole}

-- a live key that is held whole is one of its own tree
pub live_below : (index : PlaceMap) (held : List (Option HeaderValue)) (image : List ℕ) (live : LiveKeys) (key : List ℕ) → IsLive index live key → IsWhole index held image key
    → IsBelowLive index held image live key
live_below index held image live key is tree =
    let top = root_there tree.whole key tree.root_is in
    record { root = key; is_live = is; tree = tree; there = subst (λ (k : List ℕ). Contains (tree_keys tree.whole) k) (sym top.1) top.2 }

module _ (index later : PlaceMap) (keys : (key : List ℕ) → HasKey index key → HasKey later key) where
  -- a live key
  pub live_on : (live live_now : LiveKeys) → ((key : List ℕ) (place : Place) → IsLiveAt live key place → IsLiveAt live_now key place) → (key : List ℕ) → IsLive index live key
      → IsLive later live_now key
  live_on live live_now more key is =
      let has = keys key (is.0, is.1.0) in
      (has.0, (has.1, live_anywhere live_now key is.0 has.0 (more key is.0 is.1.1)))

  module _ (s t : Store) (base image : List ℕ) (copies : KeepsCopies (HasKey index) s base t image) where
    -- a tree that is held whole
    pub whole_on : (key : List ℕ) → IsWhole index s.held base key → IsWhole later t.held image key
    whole_on key tree = record {
      whole = tree.whole;
      root_is = tree.root_is;
      right = tree.right;
      is_held = tree_on (HasKey index) (HasKey later) s t base image copies keys tree.whole tree.is_held;
    }

    -- a key of the tree of a live key
    pub below_on : (live live_now : LiveKeys) → ((key : List ℕ) (place : Place) → IsLiveAt live key place → IsLiveAt live_now key place) → (key : List ℕ)
        → IsBelowLive index s.held base live key
        → IsBelowLive later t.held image live_now key
    unfolding whole_on
    below_on live live_now more key below = record {
      root = below.root;
      is_live = live_on live live_now more below.root below.is_live;
      tree = whole_on below.root below.tree;
      there = below.there;
    }
