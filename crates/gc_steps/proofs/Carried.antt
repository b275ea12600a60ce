-- What a step of another actor leaves of a collection, where what it makes live is held whole, and its children are live.
use Rattle.gc_steps.proofs.Prelude.{◌≡◌, ◌⊎◌, ◌<◌, ◌≤◌, inl, inr, ℕ, List, Option, Some, refl, sym, ◌∙◌, ap, slice_get, All, Part, Place, PlaceMap, HeaderValue, LiveKeys, child_keys, Store, names_of, entry_key, HasKey, newest, KeepsCopies, HasNewest, bytes_at, node_key, some_same, Collection, IsLive, IsWhole, HoldsNode, IsPassed, MarksAreClosed, NewAreLive, IsRoot, Stage, Mark, Filter, Select, HoldsAt, SweepIsSafe}
use Rattle.std.specs.Prelude.{get_or}
use Rattle.std.specs.FinMap as finite
use Rattle.merkle_file.specs.Node.{Contents}
use Rattle.store_model.specs.Slots.{Copy}
use Rattle.store_model.proofs.Counted.{tree_on}
use Rattle.gc_sweep.specs.Holding.{GoesOnBeside, store_beside}
use Rattle.gc_steps.specs.declared.collection.Stage.TheVariants.{Sweep}
use Rattle.gc_sweep.proofs.HoldsBeside.{holds_beside, stand_beside}

-- The tree of a key is held whole; and where the key is that of a node, the node's children are live.
pub record IsGrown (index : PlaceMap) (live : LiveKeys) (held : List (Option HeaderValue)) (image key : List ℕ) : Type 0 where
  pub whole : IsWhole index held image key
  pub children : (n : Contents) (copy : Copy) → HoldsNode held image n copy → node_key n ≡ key → All (IsLive index live) (child_keys n)

-- A step leaves each key that was live live, and the bytes of its newest copy. All roots are live then. Each key that is live then was live
-- before, with the same newest copy, or is held whole with live children. So is each entry of a container that wasn't there before live.
pub record Carries (index later : PlaceMap) (live marked : LiveKeys) (s t : Store) (old new : List ℕ) (parts : List Part) : Type 0 where
  pub roots : (key : List ℕ) → IsRoot (names_of t) parts key → IsLive later marked key
  pub keeps : KeepsCopies (HasKey index) s old t new
  pub has_still : (key : List ℕ) → HasKey index key → HasKey later key
  pub live_still : (key : List ℕ) → IsLive index live key → IsLive later marked key
  pub each : (key : List ℕ) → IsLive later marked key
      → (IsLive index live key × (newest 0 t.held key ≡ newest 0 s.held key)) ⊎ IsGrown later marked t.held new key
  pub slots : (slot : ℕ) (h : HeaderValue) → slice_get t.held slot ≡ Some (Some h)
      → (slice_get s.held slot ≡ Some (Some h)) ⊎ All (λ e. IsLive later marked (entry_key h.kind e)) h.entries

-- What the index has newly lies in containers that came after the collection began; and just those that came before stand where they stood.
pub record MovesBeside (index later : PlaceMap) (s t : Store) (snapshot : ℕ) : Type 0 where
  pub places : (key : List ℕ) (place : Place) → finite.get later key ≡ Some place
      → (finite.get index key ≡ Some place) ⊎ ((h : HeaderValue) × ((slice_get t.held place.slot ≡ Some (Some h)) × (snapshot ≤ h.id)))
  pub stand : (slot : ℕ) (h : HeaderValue) → slice_get s.held slot ≡ Some (Some h) → slice_get t.held slot ≡ Some (Some h)
  pub stood : (slot : ℕ) (h : HeaderValue) → slice_get t.held slot ≡ Some (Some h) → h.id < snapshot → slice_get s.held slot ≡ Some (Some h)

-- so it is where index and containers stay
pub moves_none : (index : PlaceMap) (s t : Store) (snapshot : ℕ) → t.held ≡ s.held → MovesBeside index index s t snapshot
moves_none index s t snapshot same = record {
  places = λ key place is. inl is;
  stand = λ slot h there. ap (λ (held : List (Option HeaderValue)). slice_get held slot) same ∙ there;
  stood = λ slot h there old. ap (λ (held : List (Option HeaderValue)). slice_get held slot) (sym same) ∙ there;
}

-- A step leaves both invariants of a collection.
abbrev pub KeepsBoth : PlaceMap → PlaceMap → Store → Store → List Part → List Part → List ℕ → List ℕ → Collection → Collection → Type 0
KeepsBoth index later s t before after old new c d =
    (MarksAreClosed index s before old c → MarksAreClosed later t after new d) × (SweepIsSafe index s before old c → SweepIsSafe later t after new d)

module _ (index later : PlaceMap) (c : Collection) (marked : LiveKeys) (s t : Store) (old new : List ℕ) (parts : List Part)
    (carries : Carries index later c.live marked s t old new parts) where
  -- a node that was live, and whose newest copy is the same, was held before
  node_before : (n : Contents) (copy : Copy) → HoldsNode t.held new n copy → IsLive index c.live (node_key n) → newest 0 t.held (node_key n) ≡ newest 0 s.held (node_key n)
      → HoldsNode s.held old n copy
  node_before n copy holds (place, (found, is)) same =
      let here : newest 0 s.held (node_key n) ≡ Some copy = sym same ∙ holds.copy_is in
      let has : HasNewest s.held (node_key n) copy.place.level (bytes_at copy.place old) old = record { copy = copy; copy_is = here; level_is = refl; bytes_are = refl } in
      let on = carries.keeps (node_key n) copy.place.level (bytes_at copy.place old) (place, found) has in
      let one : on.copy ≡ copy = some_same on.copy copy (sym on.copy_is ∙ holds.copy_is) in
      record {
        right = holds.right;
        copy_is = here;
        bytes_are = sym on.bytes_are ∙ ap (λ (x : Copy). bytes_at x.place new) one ∙ holds.bytes_are;
      }

  all_on : (keys : List (List ℕ)) → All (IsLive index c.live) keys → All (IsLive later marked) keys
  all_on keys all k d within = carries.live_still (get_or keys k d) (all k d within)

  new_on : NewAreLive index c.live c.snapshot s.held → NewAreLive later marked c.snapshot t.held
  new_on before slot h there new_id = by_slot (carries.slots slot h there)
    where
      by_slot : (slice_get s.held slot ≡ Some (Some h)) ⊎ All (λ e. IsLive later marked (entry_key h.kind e)) h.entries
          → All (λ e. IsLive later marked (entry_key h.kind e)) h.entries
      by_slot (inl was) = λ k d within. carries.live_still (entry_key h.kind (get_or h.entries k d)) (before slot h was new_id k d within)
      by_slot (inr all) = all

  whole_on : (key : List ℕ) → IsWhole index s.held old key → IsWhole later t.held new key
  whole_on key is = record {
    whole = is.whole;
    root_is = is.root_is;
    right = is.right;
    is_held = tree_on (HasKey index) (HasKey later) s t old new carries.keeps carries.has_still is.whole is.is_held;
  }

  marks_carried : (before : List Part) → MarksAreClosed index s before old c → MarksAreClosed later t parts new (record c { live = marked })
  marks_carried before marks = record {
    roots_are_live = carries.roots;
    live_is_whole = λ key is. by_whole key (carries.each key is);
    passed_is_closed = λ n copy holds is passed. by_node n copy holds passed (carries.each (node_key n) is);
    new_are_live = new_on marks.new_are_live;
  }
    where
      by_whole : (key : List ℕ) → (IsLive index c.live key × (newest 0 t.held key ≡ newest 0 s.held key)) ⊎ IsGrown later marked t.held new key → IsWhole later t.held new key
      by_whole key (inl is) = whole_on key (marks.live_is_whole key is.0)
      by_whole key (inr grown) = grown.whole

      by_node : (n : Contents) (copy : Copy) → HoldsNode t.held new n copy → IsPassed c n.level copy
          → (IsLive index c.live (node_key n) × (newest 0 t.held (node_key n) ≡ newest 0 s.held (node_key n))) ⊎ IsGrown later marked t.held new (node_key n)
          → All (IsLive later marked) (child_keys n)
      by_node n copy holds passed (inl is) = all_on (child_keys n) (marks.passed_is_closed n copy (node_before n copy holds is.0 is.1) is.0 passed)
      by_node n copy holds passed (inr grown) = grown.children n copy holds refl

  beside : MovesBeside index later s t c.snapshot → GoesOnBeside (store_beside index s.held old c.live) (store_beside later t.held new marked) c.snapshot
  beside moves = record { keys = carries.live_still; places = moves.places; copies = carries.keeps; stand = moves.stand; stood = moves.stood }

  holds_on : MovesBeside index later s t c.snapshot → (stage : Stage) → HoldsAt stage index s.held old c → HoldsAt stage later t.held new (record c { live = marked })
  holds_on moves (Mark level slot) holds = tt
  holds_on moves (Filter slot) holds = tt
  holds_on moves Select holds = tt
  holds_on moves Sweep holds = (
    stand_beside s.held t.held c.snapshot c.sweep moves.stand holds.0,
    holds_beside index later s.held t.held old new c.live marked c.snapshot c.sweep holds.0 (beside moves) holds.1,
  )

  sweep_carried : (before : List Part) → MovesBeside index later s t c.snapshot → SweepIsSafe index s before old c → SweepIsSafe later t parts new (record c { live = marked })
  sweep_carried before moves safe = record {
    roots_are_live = carries.roots;
    live_is_closed = λ n copy holds is. by_node n copy holds (carries.each (node_key n) is);
    sweep_holds = holds_on moves c.stage safe.sweep_holds;
    new_are_live = new_on safe.new_are_live;
  }
    where
      by_node : (n : Contents) (copy : Copy) → HoldsNode t.held new n copy
          → (IsLive index c.live (node_key n) × (newest 0 t.held (node_key n) ≡ newest 0 s.held (node_key n))) ⊎ IsGrown later marked t.held new (node_key n)
          → All (IsLive later marked) (child_keys n)
      by_node n copy holds (inl is) = all_on (child_keys n) (safe.live_is_closed n copy (node_before n copy holds is.0 is.1) is.0)
      by_node n copy holds (inr grown) = grown.children n copy holds refl

-- Where the roots were live before it, such a step leaves both.
pub carried : (index later : PlaceMap) (c : Collection) (marked : LiveKeys) (s t : Store) (old new : List ℕ) (before after : List Part)
    → (((key : List ℕ) → IsRoot (names_of s) before key → IsLive index c.live key) → Carries index later c.live marked s t old new after)
    → MovesBeside index later s t c.snapshot → KeepsBoth index later s t before after old new c (record c { live = marked })
carried index later c marked s t old new before after carries moves = (
  λ marks. marks_carried index later c marked s t old new after (carries marks.roots_are_live) before marks,
  λ safe. sweep_carried index later c marked s t old new after (carries safe.roots_are_live) before moves safe,
)
