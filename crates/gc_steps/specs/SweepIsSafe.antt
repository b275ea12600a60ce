-- What holds at every moment once a collection has marked (docs/MODEL.md, 'Collection').
use Rattle.std.specs.Prelude.{ℕ, List, Option}
use Rattle.std.specs.List.{All}
use Rattle.actor_parts.specs.declared.part.Part.{Part}
use Rattle.container_meta.specs.Places.{PlaceMap}
use Rattle.container_meta.specs.Spelling.{HeaderValue}
use Rattle.gc_enumerate.specs.Scanning.{child_keys}
use Rattle.merkle_file.specs.Node.{Contents}
use Rattle.store_model.specs.Image.{Store, names_of}
use Rattle.store_model.specs.Slots.{Copy}
use Rattle.store_model.specs.Trees.{node_key}
use Rattle.gc_sweep.specs.Holding.{HoldsSweep, IsLive, SourcesStand}
use Rattle.gc_steps.specs.declared.collection.Collection.{Collection}
use Rattle.gc_steps.specs.declared.collection.Stage.{Stage}
use Rattle.gc_steps.specs.declared.collection.Stage.TheVariants.{Sweep}
use Rattle.gc_steps.specs.LiveTrees.{HoldsNode}
use Rattle.gc_steps.specs.MarksAreClosed.{NewAreLive}
use Rattle.gc_steps.specs.Roots.{IsRoot}

-- what holds of the sweep, once it has begun
abbrev pub HoldsAt : Stage → PlaceMap → List (Option HeaderValue) → List ℕ → Collection → Type 0
HoldsAt Sweep index held image c = SourcesStand held c.snapshot c.sweep × HoldsSweep index held image c.live c.snapshot c.sweep
HoldsAt stage index held image c = Unit {0}

-- The roots of names and readers and all pins are live, so the index has them; the children of each live node are live. So each key that is
-- needed is live. A key may be marked that the index lacks. What holds of the sweep holds once it has begun: so what was copied is live,
-- and the index has nothing in the sources that are given back next. All that containers hold that came after the collection began is live.
pub record SweepIsSafe (index : PlaceMap) (store : Store) (parts : List Part) (image : List ℕ) (c : Collection) : Type 0 where
  pub roots_are_live : (key : List ℕ) → IsRoot (names_of store) parts key → IsLive index c.live key
  pub live_is_closed : (n : Contents) (copy : Copy) → HoldsNode store.held image n copy → IsLive index c.live (node_key n)
      → All (IsLive index c.live) (child_keys n)
  pub sweep_holds : HoldsAt c.stage index store.held image c
  pub new_are_live : NewAreLive index c.live c.snapshot store.held
