-- While a collection marks, each live key is in the index, and a live node that was passed has live children, whatever the disk holds. So once it
-- has marked, the index has each key of the trees of all roots.
use Rattle.gc_steps.proofs.Prelude.{◌≡◌, ◌⊎◌, inl, inr, ℕ, zero, suc, ◌+◌, ◌-◌, ◌<◌, ◌≤◌, Bool, true, false, List, [], ◌∷◌, ◌++◌, length, map, Option, Some, None, refl, sym, ◌∙◌, ap, subst, arith, nat_le, slice_get, bytes_eq, All, AllByRecursion, eqb-true, leb-true, eqb_tells, slice_get-get_or, All-weaker, Contains-get_or, recursion_from_All, bytes_eq-Decides, byte_at, key_of, MOST_LEVEL, Entry, Kind, Leaf, Place, is_level, kind_byte, PlaceMap, HeaderValue, IsHeader, header_digest, LiveKeys, HasLiveChildren, IsAmong, IsLiveOf, IsToScan, Scan, child_keys, among_keys, entry_key, AreHeaders, IsPartialIndexOf, last_id, place_of, lies, some_same, found_so, have_levels, finds, Refusal, Memory, RepresentsSlots, count_of, SlotCount, SlotTable, Collection, Stage, Mark, RootKey, HasMarkedAll, HeadersAreApart, IsDataKey, is_tree_slot, mark_from, mark_level, AreFound, DiskView, Store, KeepsMarks, MarksOnly, Scans, ScansEntries, ScansSome, scan_for, WasScanned, ShowsAt}
use Rattle.std.proofs.Common.{◌&&◌, find, get_or}
use Rattle.std.specs.FinMap as finite
use Rattle.std.specs.List.{Contains}
use Rattle.container_meta.specs.declared.kind.Kind.TheVariants.{Tree}
use Rattle.gc_enumerate.specs.Live.{IsLiveAt}
use Rattle.gc_enumerate.specs.Copies.{IsPlaceOf}
use Rattle.gc_enumerate.specs.Scanning.{keys_of}
use Rattle.store_model.specs.Slots.{Copy}
use Rattle.store_model.proofs.Free.{as_many}
use Rattle.gc_steps.specs.Finding.{FindsAll, FindsTree, HasAt, HasNode}
use Rattle.gc_steps.proofs.FirstStage.{first_true, id_below, not_first, tree_of, tree_slot, units}
use Rattle.gc_steps.proofs.NextStage.{scanned_to}

-- ---- what the index has lies in a container

second_true : (a b : Bool) → a && b ≡ true → b ≡ true
second_true true b e = e
second_true false b e = absurd cc

header_right : (held : List (Option HeaderValue)) (slot : ℕ) (h : HeaderValue) → AreHeaders held → slice_get held slot ≡ Some (Some h) → IsHeader h
header_right [] slot h right there = absurd cc
header_right (None ∷ cs) zero h right there = absurd (let wrong : None ≡ Some h = some_same None (Some h) there in cc)
header_right (Some g ∷ cs) zero h right there = subst IsHeader (some_same g h (some_same (Some g) (Some h) there)) right.0
header_right (None ∷ cs) (suc slot) h right there = header_right cs slot h right there
header_right (Some g ∷ cs) (suc slot) h right there = header_right cs slot h right.1 there

pub tree_levels : (kind : Kind) (level : ℕ) → 1 ≤ level → is_level kind level ≡ true → (kind ≡ Tree) × (level ≤ MOST_LEVEL)
tree_levels Leaf level some is = let zero_level : level ≡ 0 = eqb-true level 0 is in absurd (omega (arith, some, zero_level))
tree_levels Tree level some is = (refl, leb-true level MOST_LEVEL (second_true (nat_le 1 level) (nat_le level MOST_LEVEL) is))

-- these keys are in the index, at a level
placed_at : {X : Type 0} (index : PlaceMap) (level : ℕ) (key : List ℕ) (xs : List X) (of : X → List ℕ) (at : X → Place)
    → AllByRecursion (λ x. IsPlaceOf (Some index) (of x) (at x) × ((at x).level ≡ level)) xs → Contains (map of xs) key → HasAt index level key
placed_at index level key [] of at placed (k, below, is) = absurd (omega (arith, below))
placed_at index level key (x ∷ xs) of at placed
    (zero, below, is) = record { place = at x; place_is = ap (finite.get index) (sym is) ∙ placed.0.0 index refl; level_is = placed.0.1 }
placed_at index level key (x ∷ xs) of at placed (suc k, below, is) = placed_at index level key xs of at placed.1 (k, omega (arith, below), is)

pub first_ones : {X : Type 0} (of : X → List ℕ) (xs ys : List X) (key : List ℕ) → Contains (map of xs) key → Contains (map of (xs ++ ys)) key
first_ones of [] ys key (k, below, is) = absurd (omega (arith, below))
first_ones of (x ∷ xs) ys key (zero, below, is) = (zero, omega arith, is)
first_ones of (x ∷ xs) ys key (suc k, below, is) = let rest = first_ones of xs ys key (k, omega (arith, below), is) in (suc rest.0, omega (arith, rest.1), rest.2)

-- once it has marked, all was scanned
pub all_passed : (stage : Stage) → HasMarkedAll stage → (level slot : ℕ) → WasScanned stage level slot
all_passed (Mark at next) marking level slot = absurd marking
all_passed other marked level slot = tt

-- another P of the children
node_weaker : (P Q : List ℕ → Type 0) (level : ℕ) (key : List ℕ) → ((k : List ℕ) → P k → Q k) → HasNode P level key → HasNode Q level key
node_weaker P Q level key on has = record {
  node = has.node;
  right = has.right;
  level_is = has.level_is;
  key_is = has.key_is;
  children = All-weaker P Q on (child_keys has.node) has.children;
}

-- what the table says of a header is said of the one that is held
pub tabled_held : (held : List (Option HeaderValue)) (slot : ℕ) (g : HeaderValue) → IsHeader g → slice_get (map count_of held) slot ≡ Some (count_of (Some g))
    → (h : HeaderValue) × (slice_get held slot ≡ Some (Some h)) × (header_digest h ≡ header_digest g)
tabled_held [] slot g right is = absurd cc
tabled_held (None ∷ cs) zero g right is =
    let none : 0 ≡ length g.entries = ap (λ (c : SlotCount). c.entries) (some_same (count_of None) (count_of (Some g)) is) in
    absurd (omega (arith, none, leb-true 1 (length g.entries) (first_true (nat_le 1 (length g.entries)) _ right.count)))
tabled_held (Some h ∷ cs) zero g right is = (h, refl, ap (λ (c : SlotCount). c.digest) (some_same (count_of (Some h)) (count_of (Some g)) is))
tabled_held (None ∷ cs) (suc slot) g right is = tabled_held cs slot g right is
tabled_held (Some h ∷ cs) (suc slot) g right is = tabled_held cs slot g right is

module _ (index : PlaceMap) (store : Store) (headers : AreHeaders store.held) (partial : IsPartialIndexOf store.held index) where
  -- the entry of a key that the index has
  pub record Entered (key : List ℕ) (place : Place) : Type 0 where
    pub header : HeaderValue
    pub there : slice_get store.held place.slot ≡ Some (Some header)
    pub within : place.slot < length store.held
    pub entry : Entry
    pub found : find (λ e. bytes_eq (key_of (kind_byte header.kind) e.digest) key) header.entries ≡ Some entry
    pub place_is : place ≡ place_of place.slot entry

  pub entered : (key : List ℕ) (place : Place) → finite.get index key ≡ Some place → Entered key place
  entered key place has =
      let copy = finds store index key place partial has in
      let l = lies 0 store.held key copy.0 copy.1 in
      let slot : l.index ≡ place.slot = omega (arith, ap (λ (c : Copy). c.place.slot) l.copy_is, ap (λ (p : Place). p.slot) copy.2) in
      record {
        header = l.header;
        there = ap (slice_get store.held) (sym slot) ∙ slice_get-get_or store.held l.index None l.within ∙ ap Some l.there;
        within = omega (arith, l.within, slot);
        entry = l.entry;
        found = l.found;
        place_is = sym copy.2 ∙ ap (λ (c : Copy). c.place) l.copy_is ∙ ap (λ (s : ℕ). place_of s l.entry) (let same : 0 + l.index ≡ place.slot = omega (arith, slot) in same);
      }

  entry_right : (key : List ℕ) (place : Place) (e : Entered key place) → is_level e.header.kind place.level ≡ true
  entry_right key place e =
      let right = header_right store.held place.slot e.header headers e.there in
      let so = found_so (λ (x : Entry). is_level e.header.kind x.level ≡ true) _ e.header.entries e.entry
      (have_levels e.header.kind e.header.kind [] e.header.entries refl right.entries) e.found in
      ap (λ (p : Place). is_level e.header.kind p.level) e.place_is ∙ so.0

  -- a key of level 0 is that of data
  pub data_or_node : (key : List ℕ) (place : Place) → Entered key place → IsDataKey key ⊎ (1 ≤ place.level)
  data_or_node key place e = by_kind e.header.kind (entry_right key place e)
      ((bytes_eq-Decides (key_of (kind_byte e.header.kind) e.entry.digest) key).0
      (found_so (λ (x : Entry). Unit {0}) _ e.header.entries e.entry (units e.header.entries) e.found).1)
    where
      by_kind : (kind : Kind) → is_level kind place.level ≡ true → key_of (kind_byte kind) e.entry.digest ≡ key → IsDataKey key ⊎ (1 ≤ place.level)
      by_kind Leaf is same = inl (ap (byte_at 0) (sym same))
      by_kind Tree is same = inr (leb-true 1 place.level (first_true (nat_le 1 place.level) (nat_le place.level MOST_LEVEL) is))

  -- a node lies in a tree container, which the collection goes over
  module _ (t : SlotTable) (slots : RepresentsSlots store.held t) (snapshot : ℕ) where
    pub in_table : (key : List ℕ) (place : Place) → Entered key place → place.slot < length t.ids.items
    in_table key place e = omega (arith, e.within, ap length slots.ids_are, as_many store.held)

    pub in_tree : (key : List ℕ) (place : Place) → 1 ≤ place.level → (e : Entered key place) → e.header.id < snapshot → is_tree_slot snapshot t place.slot ≡ true
    in_tree key place some e low =
        let right = header_right store.held place.slot e.header headers e.there in
        let kind = (tree_levels e.header.kind place.level some (entry_right key place e)).0 in
        tree_slot store.held t snapshot slots place.slot e.header.id low (tree_of store.held place.slot e.header e.within e.there right kind)

    -- as it begins no node was passed
    pub none_yet : (key : List ℕ) (place : Place) → 1 ≤ place.level → (e : Entered key place) → e.header.id < snapshot
        → WasScanned (mark_level snapshot t MOST_LEVEL) place.level place.slot → ⊥
    none_yet key place some e low scanned =
        let most = (tree_levels e.header.kind place.level some (entry_right key place e)).1 in
        not_first t snapshot place.slot (in_table key place e) (in_tree key place some e low) place.level most scanned

  -- all that it holds came before a collection that has a greater number
  all_before : (snapshot : ℕ) → last_id store.held < snapshot → (key : List ℕ) (place : Place) (e : Entered key place) → e.header.id < snapshot
  all_before snapshot above key place e = omega (arith, id_below store.held place.slot e.header e.there, above)

  -- a live key, which the index has at a level
  pub record HasLive (live : LiveKeys) (level : ℕ) (key : List ℕ) : Type 0 where
    pub place : Place
    pub place_is : finite.get index key ≡ Some place
    pub is_live : IsLiveAt live key place
    pub level_is : place.level ≡ level

  -- a live node that was passed has live children, one level below
  abbrev pub IsClosed : Collection → Type 0
  IsClosed c = (key : List ℕ) (place : Place) → finite.get index key ≡ Some place → IsLiveAt c.live key place → 1 ≤ place.level → WasScanned c.stage place.level place.slot
      → HasNode (HasLive c.live (place.level - 1)) place.level key

  abbrev pub AreLive : Collection → List RootKey → Type 0
  AreLive c roots = All (λ r. HasLive c.live r.level r.key) roots

  grown : (before after : LiveKeys) → ((key : List ℕ) (place : Place) → IsLiveAt before key place → IsLiveAt after key place) → (level : ℕ) (key : List ℕ)
      → HasLive before level key → HasLive after level key
  grown before after grows level key has = record { place = has.place; place_is = has.place_is; is_live = grows key has.place has.is_live; level_is = has.level_is }

  -- ---- once all was passed

  module _ (c : Collection) (closed : IsClosed c) (scanned : (level slot : ℕ) → WasScanned c.stage level slot) where
    tree_found : (level : ℕ) (key : List ℕ) → HasLive c.live level key → FindsTree index level key
    tree_found zero key has = record { place = has.place; place_is = has.place_is; level_is = has.level_is }
    tree_found (suc level) key has = (
      record { place = has.place; place_is = has.place_is; level_is = has.level_is },
      node_weaker (HasLive c.live level) (FindsTree index level) (suc level) key (tree_found level)
          (subst (λ (below : ℕ). HasNode (HasLive c.live below) (suc level) key) (let less : suc level - 1 ≡ level = omega arith in less)
          (subst (λ (l : ℕ). HasNode (HasLive c.live (l - 1)) l key) has.level_is
          (closed key has.place has.place_is has.is_live (omega (arith, has.level_is)) (scanned has.place.level has.place.slot)))),
    )

    roots_found_all : (roots : List RootKey) → AreLive c roots → FindsAll index roots
    roots_found_all roots live = All-weaker (λ (r : RootKey). HasLive c.live r.level r.key) (λ (r : RootKey). FindsTree index r.level r.key)
        (λ r has. tree_found r.level r.key has) roots live

  -- ---- as it begins

  module _ (t : SlotTable) (slots : RepresentsSlots store.held t) (c : Collection) (above : last_id store.held < c.snapshot) where
    begun_closed : c.stage ≡ mark_level c.snapshot t MOST_LEVEL → IsClosed c
    begun_closed stage key place has is_live some scanned =
        let e = entered key place has in
        absurd (none_yet t slots c.snapshot key place some e (all_before c.snapshot above key place e) (subst (λ (s : Stage). WasScanned s place.level place.slot) stage scanned))

  roots_begun : (live : LiveKeys) (roots : List RootKey) → AreFound (Some index) roots → ((r : RootKey) (place : Place) → Contains roots r → IsLiveAt live r.key place)
      → (c : Collection) → c.live ≡ live → AreLive c roots
  roots_begun live roots found are c same = λ k d within.
      let root = get_or roots k d in
      let has = found k d within in
      record {
        place = has.0;
        place_is = has.1.0 index refl;
        is_live = subst (λ (l : LiveKeys). IsLiveAt l root.key has.0) (sym same) (are root has.0 (Contains-get_or roots k d within));
        level_is = has.1.1;
      }

  -- ---- a container is scanned

  module _ (old new : DiskView) (level slot : ℕ) (some_level : 1 ≤ level) (h : HeaderValue) (before after : Collection) (was : before.stage ≡ Mark level slot) where
    abbrev showed : Place → List ℕ → Type 0
    showed = ShowsAt old new

    -- a key that became live is one level below, so it was not passed
    level_of_place : (key : List ℕ) → HasAt index (level - 1) key → (place : Place) → finite.get index key ≡ Some place → place.level ≡ level - 1
    level_of_place key has place place_is = ap (λ (p : Place). p.level) (some_same place has.place (sym place_is ∙ has.place_is)) ∙ has.level_is

    pub below_it : {X : Type 0} (found : List X) (of : X → List ℕ) (at : X → Place) → All (λ x. IsPlaceOf (Some index) (of x) (at x) × ((at x).level ≡ level - 1)) found
        → (key : List ℕ) (place : Place) → finite.get index key ≡ Some place → Contains (map of found) key → place.level ≡ level - 1
    below_it found of at placed key place has among = level_of_place key (placed_at index (level - 1) key found of at (recursion_from_All _ found placed) among) place has

    pub not_later : (l at : ℕ) → l ≡ level - 1 → WasScanned (Mark level slot) l at ⊎ ((l ≡ level) × (at ≡ slot)) → ⊥
    not_later l at low (inl (inl above)) = omega (arith, low, above)
    not_later l at low (inl (inr here)) = omega (arith, low, here.0, some_level)
    not_later l at low (inr here) = omega (arith, low, here.0, some_level)

    -- what was passed then
    module _ (t : SlotTable) (slots : RepresentsSlots store.held t) (now : after.stage ≡ mark_from before.snapshot t level (slot + 1)) where
      up_to : (l at : ℕ) → (level < l) ⊎ ((l ≡ level) × (at ≤ slot)) → WasScanned (Mark level slot) l at ⊎ ((l ≡ level) × (at ≡ slot))
      up_to l at (inl high) = inl (inl high)
      up_to l at (inr here) = elim (eqb_tells at slot) [
        | inl is ↦ inr (here.0, is.1)
        | inr differ ↦ inl (inr (here.0, omega (arith, here.1, differ.1)))
      ]

      pub passed : (key : List ℕ) (place : Place) → 1 ≤ place.level → (e : Entered key place) → e.header.id < before.snapshot → WasScanned after.stage place.level place.slot
          → WasScanned (Mark level slot) place.level place.slot ⊎ ((place.level ≡ level) × (place.slot ≡ slot))
      passed key place some e low is =
          up_to place.level place.slot
          (scanned_to t before.snapshot level slot place.level place.slot some (in_table t slots before.snapshot key place e) (in_tree t slots before.snapshot key place some e low)
          (subst (λ (s : Stage). WasScanned s place.level place.slot) now is))

    -- all of it
    module _ (there : slice_get store.held slot ≡ Some (Some h)) (scanned : ScansEntries (Some index) old new slot level h before.live after.live) where
      abbrev scan : Scan
      scan = scan_for (Some index) before.live slot level h

      pub grows : (key : List ℕ) (place : Place) → IsLiveAt before.live key place → IsLiveAt after.live key place
      grows key place is = (scanned.marks.marks key place).1 (inl is)

      wider : (l : ℕ) (key : List ℕ) → HasNode (HasLive before.live (l - 1)) l key → HasNode (HasLive after.live (l - 1)) l key
      wider l key = node_weaker (HasLive before.live (l - 1)) (HasLive after.live (l - 1)) l key (grown before.live after.live grows (l - 1))

      -- the node of an entry of it
      pub node_here : (key : List ℕ) (place : Place) → finite.get index key ≡ Some place → IsLiveAt before.live key place → 1 ≤ place.level → Entered key place
          → place.level ≡ level → place.slot ≡ slot
          → HasNode (HasLive after.live (place.level - 1)) place.level key
      node_here key place has is_live some e level_is slot_is =
          let header : e.header ≡ h = some_same e.header h (some_same (Some e.header) (Some h) (sym e.there ∙ ap (slice_get store.held) slot_is ∙ there)) in
          let kind : h.kind ≡ Tree = ap (λ (g : HeaderValue). g.kind) (sym header) ∙ (tree_levels e.header.kind place.level some (entry_right key place e)).0 in
          let at : place ≡ place_of slot e.entry = e.place_is ∙ ap (λ (s : ℕ). place_of s e.entry) slot_is in
          let each : AllByRecursion (HasLiveChildren scan showed after.live) e.header.entries =
          subst (λ (g : HeaderValue). AllByRecursion (HasLiveChildren scan showed after.live) g.entries) (sym header)
          (recursion_from_All (HasLiveChildren scan showed after.live) h.entries (scanned.children index refl)) in
          let one = found_so (HasLiveChildren scan showed after.live) _ e.header.entries e.entry each e.found in
          let key_is : entry_key h.kind e.entry ≡ key = ap (λ (g : HeaderValue). entry_key g.kind e.entry) (sym header)
          ∙ (bytes_eq-Decides (entry_key e.header.kind e.entry) key).0 one.1 in
          let to_scan : IsToScan scan e.entry = record {
            level_is = ap (λ (p : Place). p.level) (sym at) ∙ level_is;
            live = subst (λ (k : List ℕ). IsLiveAt before.live k (place_of slot e.entry)) (sym key_is) (subst (IsLiveAt before.live key) at is_live);
            copy = λ m known. subst (λ (o : PlaceMap). finite.get o (entry_key h.kind e.entry) ≡ Some (place_of slot e.entry)) (some_same index m known)
                (ap (finite.get index) key_is ∙ has ∙ ap Some at);
          } in
          let node = one.0 to_scan in
          record {
            node = node.0;
            right = node.1.0.right;
            level_is = node.1.0.level_is ∙ sym level_is;
            key_is = ap (key_of 1) node.1.0.digest_is ∙ ap (λ (k : Kind). key_of (kind_byte k) e.entry.digest) (sym kind) ∙ key_is;
            children = subst (λ (l : ℕ). All (HasLive after.live (l - 1)) (child_keys node.0)) (node.1.0.level_is ∙ sym level_is)
                (All-weaker (IsLiveOf (Some index) after.live (node.0.level - 1)) (HasLive after.live (node.0.level - 1))
                (λ k is. record { place = is.0; place_is = is.1.0 index refl; is_live = is.1.1; level_is = is.1.2 }) (child_keys node.0) node.1.1);
          }

      scanned_closed : (t : SlotTable) → RepresentsSlots store.held t → last_id store.held < before.snapshot → after.stage ≡ mark_from before.snapshot t level (slot + 1)
          → IsClosed before → IsClosed after
      scanned_closed t slots above now closed key place has is_live some is =
          by_case ((scanned.marks.marks key place).0 is_live) (passed t slots now key place some e (all_before before.snapshot above key place e) is)
        where
          e : Entered key place
          e = entered key place has

          by_case : IsLiveAt before.live key place ⊎ IsAmong key place scanned.marks.found → WasScanned (Mark level slot) place.level place.slot
              ⊎ ((place.level ≡ level) × (place.slot ≡ slot))
              → HasNode (HasLive after.live (place.level - 1)) place.level key
          by_case (inl earlier) (inl before_is) = wider place.level key
              (closed key place has earlier some (subst (λ (s : Stage). WasScanned s place.level place.slot) (sym was) before_is))
          by_case (inl earlier) (inr here) = node_here key place has earlier some e here.0 here.1
          by_case (inr among) where_is =
              absurd (not_later place.level place.slot
              (below_it scanned.marks.found (λ f. f.key) (λ f. f.place) scanned.marks.finds.placed key place has (among_keys key place scanned.marks.found among)) where_is)

    -- some of it, as memory ran out
    module _ (now : after.stage ≡ before.stage) (scanned : ScansSome (Some index) old new slot level h before.live after.live) where
      pub some_grows : (key : List ℕ) (place : Place) → IsLiveAt before.live key place → IsLiveAt after.live key place
      some_grows key place is = (scanned.marks.1.1.1 key place).1 (inl is)

      -- those that became live are some of the children
      pub some_among : (key : List ℕ) (place : Place) → IsAmong key place scanned.marks.0 → Contains (keys_of scanned.found) key
      some_among key place among =
          subst (λ found. Contains (keys_of found) key) (sym scanned.marks.1.1.0) (first_ones _ scanned.marks.0 scanned.marks.1.0 key (among_keys key place scanned.marks.0 among))

      some_closed : IsClosed before → IsClosed after
      some_closed closed key place has is_live some is = by_case ((scanned.marks.1.1.1 key place).0 is_live)
        where
          by_case : IsLiveAt before.live key place ⊎ IsAmong key place scanned.marks.0 → HasNode (HasLive after.live (place.level - 1)) place.level key
          by_case (inl earlier) =
              node_weaker (HasLive before.live (place.level - 1)) (HasLive after.live (place.level - 1)) place.level key (grown before.live after.live some_grows (place.level - 1))
              (closed key place has earlier some (subst (λ (s : Stage). WasScanned s place.level place.slot) now is))
          by_case (inr among) =
              absurd (not_later place.level place.slot (below_it scanned.found (λ f. f.key) (λ f. f.place) scanned.finds.placed key place has (some_among key place among))
              (inl (subst (λ (s : Stage). WasScanned s place.level place.slot) (now ∙ was) is)))

  -- ---- the whole

  -- what holds while it marks
  pub record IsFinding (c : Collection) (roots : List RootKey) : Type 0 where
    pub above : last_id store.held < c.snapshot
    pub closed : IsClosed c
    pub live : AreLive c roots

  pub begins_finding : (t : SlotTable) (c : Collection) (roots : List RootKey) → RepresentsSlots store.held t → last_id store.held < c.snapshot
      → c.stage ≡ mark_level c.snapshot t MOST_LEVEL
      → AreFound (Some index) roots → ((r : RootKey) (place : Place) → Contains roots r → IsLiveAt c.live r.key place) → IsFinding c roots
  begins_finding t c roots slots above stage found live = record { above = above; closed = begun_closed t slots c above stage; live = roots_begun c.live roots found live c refl }

  still_live : (before after : Collection) (roots : List RootKey) → ((key : List ℕ) (place : Place) → IsLiveAt before.live key place → IsLiveAt after.live key place)
      → AreLive before roots → AreLive after roots
  still_live before after roots grows = All-weaker (λ (r : RootKey). HasLive before.live r.level r.key) (λ (r : RootKey). HasLive after.live r.level r.key)
      (λ r has. grown before.live after.live grows r.level r.key has) roots

  module _ (t : SlotTable) (slots : RepresentsSlots store.held t) (old new : DiskView) (level slot : ℕ) (some : 1 ≤ level) (before after : Collection) (roots : List RootKey)
      (was : before.stage ≡ Mark level slot)
      (finding : IsFinding before roots) where
    -- a container is scanned, by what `mark_container` says
    pub scan_finds : HeadersAreApart store.held old new → Scans t (Some index) old new level slot before after → IsFinding after roots
    scan_finds apart scans =
        let held = tabled_held store.held slot scans.header scans.right (ap (λ (counts : List SlotCount). slice_get counts slot) (sym slots.counts_are) ∙ scans.tabled.count_is) in
        let same : scans.header ≡ held.0 = apart slot held.0 scans.header held.1 scans.shown (sym held.2) in
        let there : slice_get store.held slot ≡ Some (Some scans.header) = held.1 ∙ ap (λ (h : HeaderValue). Some (Some h)) (sym same) in
        record {
          above = omega (arith, finding.above, ap (λ (c : Collection). c.snapshot) scans.collection_is);
          closed = scanned_closed old new level slot some scans.header before after was there scans.scanned t slots finding.above
              (ap (λ (c : Collection). c.stage) scans.collection_is) finding.closed;
          live = still_live before after roots (λ key place is. (scans.scanned.marks.marks key place).1 (inl is)) finding.live;
        }

    only_finds : MarksOnly (Some index) old new level slot before after → IsFinding after roots
    only_finds only = record {
      above = omega (arith, finding.above, ap (λ (c : Collection). c.snapshot) only.collection_is);
      closed = some_closed old new level slot some only.header before after was (ap (λ (c : Collection). c.stage) only.collection_is) only.scanned finding.closed;
      live = still_live before after roots (λ key place is. (only.scanned.marks.1.1.1 key place).1 (inl is)) finding.live;
    }

    same_finds : after ≡ before → IsFinding after roots
    same_finds is = subst (λ (c : Collection). IsFinding c roots) (sym is) finding

    -- and where it is refused
    pub refusal_finds : (refusal : Refusal) → KeepsMarks (Some index) old new level slot before after refusal → IsFinding after roots
    refusal_finds Memory (inl is) = same_finds is
    refusal_finds Memory (inr only) = only_finds only
    refusal_finds _ kept = same_finds kept

  -- once it has marked
  pub found_all : (c : Collection) (roots : List RootKey) → IsFinding c roots → HasMarkedAll c.stage → FindsAll index roots
  found_all c roots finding marked = roots_found_all c finding.closed (λ level slot. all_passed c.stage marked level slot) roots finding.live
