-- What holds at every moment while a collection marks (docs/MODEL.md, 'Collection').
use Rattle.std.specs.Prelude.{◌≡◌, ◌⊎◌, ◌<◌, ◌≤◌, ℕ, List, Option, Some, slice_get}
use Rattle.std.specs.List.{All}
use Rattle.actor_parts.specs.declared.part.Part.{Part}
use Rattle.container_meta.specs.Places.{PlaceMap}
use Rattle.container_meta.specs.Spelling.{HeaderValue}
use Rattle.gc_enumerate.specs.Live.{LiveKeys}
use Rattle.gc_enumerate.specs.Scanning.{child_keys}
use Rattle.merkle_file.specs.Node.{Contents}
use Rattle.store_model.specs.Image.{Store, names_of}
use Rattle.store_model.specs.Indexing.{entry_key}
use Rattle.store_model.specs.Slots.{Copy}
use Rattle.store_model.specs.Trees.{node_key}
use Rattle.gc_steps.specs.declared.collection.Collection.{Collection}
use Rattle.gc_steps.specs.declared.collection.Stage.{Stage}
use Rattle.gc_steps.specs.declared.collection.Stage.TheVariants.{Mark}
use Rattle.gc_sweep.specs.Holding.{IsLive}
use Rattle.gc_steps.specs.LiveTrees.{IsWhole, HoldsNode}
use Rattle.gc_steps.specs.Roots.{IsRoot}

-- nodes of a level in the container of a slot were scanned: those of a level above the one that is being marked, those of that level in a
-- slot before the next, and all once marking has ended
abbrev pub WasScanned : Stage → ℕ → ℕ → Type 0
WasScanned (Mark at next) level slot = (at < level) ⊎ ((level ≡ at) × (slot < next))
WasScanned stage level slot = Unit {0}

-- a copy of a node of a level was scanned, or came after the collection began
abbrev pub IsPassed : Collection → ℕ → Copy → Type 0
IsPassed c level copy = WasScanned c.stage level copy.place.slot ⊎ (c.snapshot ≤ copy.id)

-- all entries of containers that came after the collection began are live
abbrev pub NewAreLive : PlaceMap → LiveKeys → ℕ → List (Option HeaderValue) → Type 0
NewAreLive index live snapshot held = (slot : ℕ) (h : HeaderValue) → slice_get held slot ≡ Some (Some h) → snapshot ≤ h.id
    → All (λ e. IsLive index live (entry_key h.kind e)) h.entries

-- The roots of names and readers and all pins are live. The tree of each live key is held whole, so that marking meets no child that the
-- index lacks. A key may be marked that the index lacks: a claim or a seal marks before it writes, and takes back what a refusal leaves. A
-- live node that was passed has live children: above the level that is being marked each one, in this level each in a slot before the
-- next, and each in a container that came after the collection began. All that such a container holds is live.
pub record MarksAreClosed (index : PlaceMap) (store : Store) (parts : List Part) (image : List ℕ) (c : Collection) : Type 0 where
  pub roots_are_live : (key : List ℕ) → IsRoot (names_of store) parts key → IsLive index c.live key
  pub live_is_whole : (key : List ℕ) → IsLive index c.live key → IsWhole index store.held image key
  pub passed_is_closed : (n : Contents) (copy : Copy) → HoldsNode store.held image n copy → IsLive index c.live (node_key n)
      → IsPassed c n.level copy → All (IsLive index c.live) (child_keys n)
  pub new_are_live : NewAreLive index c.live c.snapshot store.held
