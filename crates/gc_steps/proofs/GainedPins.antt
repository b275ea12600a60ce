-- An actor's pins grow, and the live keys by the same keys: both invariants of a collection stay.
use Rattle.gc_steps.proofs.Prelude.{◌≡◌, ◌⊎◌, ◌<◌, inl, inr, ℕ, zero, suc, true, List, [], ◌∷◌, length, map, Some, sym, ◌∙◌, ap, subst, arith, slice_get, All, AllByRecursion, sha256, ACTORS, Part, Writing, PinMap, has_pin, IsOfKind, child_pin, children_by, Kind, Leaf, PlaceMap, Segment, segment_key, HeaderValue, LiveKeys, child_key, child_keys, Child, IsNode, node_digest, contents_in, NameMap, Files, Store, names_of, entry_key, HasKey, newest, IsStoreOf, KeepsCopies, bytes_at, node_key, some_same, same_kind, ArePinsOf, CoreInvariant, HoldsPart, Collection, IsLive, IsPartKey, IsRoot, Marks}
use Rattle.std.proofs.Common.{◌↔◌}
use Rattle.std.specs.Prelude.{get_or}
use Rattle.std.specs.FinMap as finite
use Rattle.actor_parts.specs.Parts.{part_of, with_part}
use Rattle.actor_parts.proofs.Apart.{apart}
use Rattle.container_meta.specs.declared.kind.Kind.TheVariants.{Tree}
use Rattle.gc_enumerate.specs.Live.{IsLiveAt}
use Rattle.merkle_file.specs.Node.{Contents, spelling}
use Rattle.merkle_file.proofs.RootLaws.{spellings_tell_nodes}
use Rattle.store_model.specs.Slots.{Copy}
use Rattle.gc_steps.proofs.Carried.{Carries, IsGrown, KeepsBoth, MovesBeside, carried}
use Rattle.gc_steps.proofs.PinnedTrees.{pin_found, pinned_whole}
use Rattle.gc_steps.proofs.RootsAfter.{part_root}
use Rattle.gc_steps.proofs.Started.{part_holds}
use Rattle.gc_sweep.proofs.InSlots.{live_anywhere}

-- ---- what is pinned is held whole, and its children are pinned

module _ (index : PlaceMap) (store : Store) (files : Files) (image : List ℕ) (marked : LiveKeys) (holds : IsStoreOf store files image) (pins : PinMap)
    (all : ArePinsOf (HasKey index) store.held image pins) (live : (key : List ℕ) → IsPartKey (Writing pins) key → IsLive index marked key) where
  pinned_children : (level : ℕ) (cs : List Child) → AllByRecursion (λ c. has_pin pins c.key c.pin ≡ true) (map (child_pin level) cs)
      → All (IsLive index marked) (map (child_key level) cs)
  pinned_children level [] pinned k d within = absurd (omega (arith, within))
  pinned_children level (c ∷ cs) pinned zero d within =
      live (child_pin level c).key ((child_pin level c).pin, pin_found (child_pin level c).pin (finite.get pins (child_pin level c).key) pinned.0)
  pinned_children level (c ∷ cs) pinned (suc k) d within = pinned_children level cs pinned.1 k d (omega (arith, within))

  -- of a segment with the key of a node, and its bytes
  children_of_kind : (kind : Kind) (s : Segment) (n : Contents) → IsNode n → segment_key kind s ≡ node_key n → IsOfKind kind s → s.bytes ≡ spelling n
      → AllByRecursion (λ c. has_pin pins c.key c.pin ≡ true) (children_by kind s) → All (IsLive index marked) (child_keys n)
  children_of_kind Leaf s n node key_is right bytes_are pinned = absurd (let wrong : Leaf ≡ Tree = same_kind Leaf Tree (sha256 s.bytes) (node_digest n) key_is in cc)
  children_of_kind Tree s n node key_is right bytes_are pinned =
      let same : contents_in s.bytes ≡ n = spellings_tell_nodes (contents_in s.bytes) n right.bytes.node node (sym right.bytes.spelled ∙ bytes_are) in
      let found = pinned_children s.level (contents_in s.bytes).children pinned in
      subst (λ (m : Contents). All (IsLive index marked) (child_keys m)) same
      (subst (λ (l : ℕ). All (IsLive index marked) (map (child_key l) (contents_in s.bytes).children)) right.level found)

  pub pinned_grown : (key : List ℕ) → IsPartKey (Writing pins) key → IsGrown index marked store.held image key
  pinned_grown key (pin, found) =
      let is = all key pin found in
      record {
        whole = pinned_whole index store files image holds pins all key pin found;
        children = λ n copy node key_is.
            let here : newest 0 store.held key ≡ Some copy = ap (newest 0 store.held) (sym key_is) ∙ node.copy_is in
            let one : is.newest.copy ≡ copy = some_same is.newest.copy copy (sym is.newest.copy_is ∙ here) in
            let spelled : is.segment.segment.bytes ≡ spelling n = sym is.newest.bytes_are ∙ ap (λ (x : Copy). bytes_at x.place image) one ∙ node.bytes_are in
            children_of_kind is.segment.kind is.segment.segment n node.right (is.key_is ∙ sym key_is) is.right spelled is.children;
      }

-- ---- the step

-- What an actor gains: its pins are those of before, and the keys of which P holds, and just these became live, too.
pub record Gains (P : List ℕ → Type 0) (live marked : LiveKeys) (pins more : PinMap) : Type 0 where
  pub marks : Marks P live marked
  pub pinned : (key : List ℕ) → IsPartKey (Writing more) key ↔ (IsPartKey (Writing pins) key ⊎ P key)
  pub decided : (key : List ℕ) → P key ⊎ (P key → ⊥)

-- What becomes of the store and of the index: the copies of each key that the index had go on, and it has it still; of a key of which P
-- doesn't hold the index has what it had, and the newest copy is that of before; and P holds of all keys of a container that is new.
pub record Grows (P : List ℕ → Type 0) (index later : PlaceMap) (s t : Store) (old new : List ℕ) : Type 0 where
  pub names_stay : names_of t ≡ names_of s
  pub keeps : KeepsCopies (HasKey index) s old t new
  pub has_still : (key : List ℕ) → HasKey index key → HasKey later key
  pub had : (key : List ℕ) → (P key → ⊥) → HasKey later key → HasKey index key
  pub same : (key : List ℕ) → (P key → ⊥) → newest 0 t.held key ≡ newest 0 s.held key
  pub slots : (slot : ℕ) (h : HeaderValue) → slice_get t.held slot ≡ Some (Some h)
      → (slice_get s.held slot ≡ Some (Some h)) ⊎ All (λ e. P (entry_key h.kind e)) h.entries

module _ (P : List ℕ → Type 0) (index later : PlaceMap) (s t : Store) (old new : List ℕ) (files : Files) (parts : List Part) (c : Collection) (marked : LiveKeys) (actor : ℕ)
    (pins more : PinMap)
    (below : actor < ACTORS) (there : actor < length parts) (writing : part_of parts actor ≡ Writing pins) (gains : Gains P c.live marked pins more)
    (grows : Grows P index later s t old new)
    (core : CoreInvariant later t files (with_part parts actor (Writing more)) new) (holds : IsStoreOf t files new) where
  abbrev after : List Part
  after = with_part parts actor (Writing more)

  are_pins : ArePinsOf (HasKey later) t.held new more
  are_pins =
      subst (HoldsPart (HasKey later) t.held new) (apart.same parts actor (Writing more) there)
      (part_holds (HoldsPart (HasKey later) t.held new) after actor tt core.pins_are_closed)

  live_still : (key : List ℕ) → IsLive index c.live key → IsLive later marked key
  live_still key (place, (found, is)) =
      let has = grows.has_still key (place, found) in
      (has.0, (has.1, (gains.marks key has.0).1 (inl (live_anywhere c.live key place has.0 is))))

  -- each key of which P holds is pinned, so the index has it
  gained_live : (key : List ℕ) → P key → IsLive later marked key
  gained_live key p =
      let pinned = (gains.pinned key).1 (inr p) in
      let has = (are_pins key pinned.0 pinned.1).counts in
      (has.0, (has.1, (gains.marks key has.0).1 (inr p)))

  module _ (live : (key : List ℕ) → IsRoot (names_of s) parts key → IsLive index c.live key) where
    pins_live : (key : List ℕ) → IsPartKey (Writing more) key → IsLive later marked key
    pins_live key is = by_case ((gains.pinned key).0 is)
      where
        by_case : IsPartKey (Writing pins) key ⊎ P key → IsLive later marked key
        by_case (inl was) = live_still key (live key (inr (actor, (below, subst (λ (p : Part). IsPartKey p key) (sym writing) was))))
        by_case (inr p) = gained_live key p

    roots_live : (key : List ℕ) → IsRoot (names_of t) after key → IsLive later marked key
    roots_live key is = by_case (part_root (names_of s) parts actor (Writing more) key (subst (λ (names : NameMap). IsRoot names after key) grows.names_stay is))
      where
        by_case : IsRoot (names_of s) parts key ⊎ IsPartKey (Writing more) key → IsLive later marked key
        by_case (inl was) = live_still key (live key was)
        by_case (inr pinned) = pins_live key pinned

    each_live : (key : List ℕ) → IsLive later marked key → (IsLive index c.live key × (newest 0 t.held key ≡ newest 0 s.held key)) ⊎ IsGrown later marked t.held new key
    each_live key (place, (found, is)) = by_case (gains.decided key)
      where
        by_mark : (P key → ⊥) → (had : HasKey index key) → IsLiveAt c.live key had.0 ⊎ P key → IsLive index c.live key
        by_mark others had (inl was) = (had.0, (had.1, was))
        by_mark others had (inr p) = absurd (others p)

        by_case : P key ⊎ (P key → ⊥) → (IsLive index c.live key × (newest 0 t.held key ≡ newest 0 s.held key)) ⊎ IsGrown later marked t.held new key
        by_case (inl p) = inr (pinned_grown later t files new marked holds more are_pins pins_live key ((gains.pinned key).1 (inr p)))
        by_case (inr others) =
            let had = grows.had key others (place, found) in
            inl (by_mark others had ((gains.marks key had.0).0 (live_anywhere marked key place had.0 is)), grows.same key others)

    slots_live : (slot : ℕ) (h : HeaderValue) → slice_get t.held slot ≡ Some (Some h)
        → (slice_get s.held slot ≡ Some (Some h)) ⊎ All (λ e. IsLive later marked (entry_key h.kind e)) h.entries
    slots_live slot h is = by_case (grows.slots slot h is)
      where
        by_case : (slice_get s.held slot ≡ Some (Some h)) ⊎ All (λ e. P (entry_key h.kind e)) h.entries
            → (slice_get s.held slot ≡ Some (Some h)) ⊎ All (λ e. IsLive later marked (entry_key h.kind e)) h.entries
        by_case (inl was) = inl was
        by_case (inr all) = inr (λ k d within. gained_live (entry_key h.kind (get_or h.entries k d)) (all k d within))

    carries : Carries index later c.live marked s t old new after
    carries = record { roots = roots_live; keeps = grows.keeps; has_still = grows.has_still; live_still = live_still; each = each_live; slots = slots_live }

  pub gained : MovesBeside index later s t c.snapshot → KeepsBoth index later s t parts after old new c (record c { live = marked })
  gained moves = carried index later c marked s t old new parts after carries moves
