-- A collection that begins has passed no node, and no container has come after it.
use Rattle.gc_steps.proofs.Prelude.{◌≡◌, ◌≢◌, inl, inr, ℕ, zero, suc, ◌+◌, ◌-◌, ◌<◌, ◌≤◌, Bool, true, false, List, [], ◌∷◌, length, map, Option, Some, None, refl, sym, ◌∙◌, ap, subst, arith, nat_lt, nat_le, if◌then◌else◌, slice_get, AllByRecursion, eqb-true, leb-true, lt-ltb, slice_get-get_or, bytes_eq-Decides, MOST_LEVEL, Entry, Kind, kind_byte, PlaceMap, HeaderValue, IsHeader, node_digest, HoldSlots, last_id, newest, node_key, lies, some_same, slot_held, found_so, same_kind, RepresentsSlots, count_of, SlotCount, SlotTable, LiveKeys, Collection, Stage, Mark, HoldsNode, IsPassed, NewAreLive, WasScanned, is_old_slot, is_tree, is_tree_slot, mark_at, mark_level}
use Rattle.std.proofs.Common.{◌&&◌, not, get_or}
use Rattle.std.specs.Prelude.{◌==◌}
use Rattle.container_meta.specs.declared.kind.Kind.TheVariants.{Tree}
use Rattle.merkle_file.specs.Node.{Contents}
use Rattle.store_model.specs.Slots.{Copy, ids_of}
use Rattle.store_model.proofs.CopyIds.{newest_id}
use Rattle.store_model.proofs.Free.{as_many}
use Rattle.gc_steps.specs.Stages.{first_from}

-- ---- no container has come after it

pub id_below : (held : List (Option HeaderValue)) (slot : ℕ) (h : HeaderValue) → slice_get held slot ≡ Some (Some h) → h.id ≤ last_id held
id_below [] slot h there = absurd cc
id_below (None ∷ cs) zero h there = absurd (let wrong : None ≡ Some h = some_same None (Some h) there in cc)
id_below (Some g ∷ cs) zero h there =
    let same : g.id ≡ h.id = ap (λ (x : HeaderValue). x.id) (some_same g h (some_same (Some g) (Some h) there)) in
    omega (arith, same)
id_below (None ∷ cs) (suc slot) h there = id_below cs slot h there
id_below (Some g ∷ cs) (suc slot) h there = omega (arith, id_below cs slot h there)

pub none_new : (index : PlaceMap) (live : LiveKeys) (snapshot : ℕ) (held : List (Option HeaderValue)) → last_id held < snapshot → NewAreLive index live snapshot held
none_new index live snapshot held above slot h there new = absurd (omega (arith, id_below held slot h there, above, new))

-- ---- the first slot that passes a test comes no later than any other that does

pub record IsFirst (test : ℕ → Bool) (from count at : ℕ) : Type 0 where
  pub slot : ℕ
  pub first : first_from test from count ≡ Some slot
  pub no_later : slot ≤ at

pub first_there : (test : ℕ → Bool) (from count at : ℕ) → from ≤ at → at < from + count → test at ≡ true → IsFirst test from count at
unfolding first_from
first_there test from zero at least below passes = absurd (omega (arith, least, below))
first_there test from (suc count) at least below passes = by_test (test from) refl (λ next. first_there test (from + 1) count at next (omega (arith, below)) passes)
  where
    here : test from ≡ true → IsFirst test from (suc count) at
    here is = record { slot = from; first = ap (λ (b : Bool). if b then Some from else first_from test (from + 1) count) is; no_later = least }

    later : test from ≡ false → IsFirst test (from + 1) count at → IsFirst test from (suc count) at
    later is rest = record { slot = rest.slot; first = ap (λ (b : Bool). if b then Some from else first_from test (from + 1) count) is ∙ rest.first; no_later = rest.no_later }

    past : test from ≡ false → from ≢ at
    past is same = let wrong : true ≡ false = sym passes ∙ ap test (sym same) ∙ is in absurd cc

    by_test : (b : Bool) → test from ≡ b → (from + 1 ≤ at → IsFirst test (from + 1) count at) → IsFirst test from (suc count) at
    by_test true is rest = here is
    by_test false is rest = later is (rest (omega (arith, least, past is)))

-- ---- the newest copy of a node lies in a tree container

-- what the columns of slots say of one with a tree container of this id
pub record HasTree (held : List (Option HeaderValue)) (slot id : ℕ) : Type 0 where
  pub within : slot < length held
  pub id_is : get_or (ids_of held) slot 0 ≡ id
  pub some : 1 ≤ id
  pub tree_is : is_tree (slice_get (map count_of held) slot) ≡ true

pub units : (entries : List Entry) → AllByRecursion (λ e. Unit {0}) entries
units [] = tt
units (e ∷ es) = (tt, units es)

pub count_there : (held : List (Option HeaderValue)) (slot : ℕ) (h : HeaderValue) → slice_get held slot ≡ Some (Some h)
    → slice_get (map count_of held) slot ≡ Some (count_of (Some h))
count_there [] slot h there = absurd cc
count_there (c ∷ cs) zero h there = ap (λ (x : Option HeaderValue). Some (count_of x)) (some_same c (Some h) there)
count_there (c ∷ cs) (suc slot) h there = count_there cs slot h there

pub id_there : (held : List (Option HeaderValue)) (slot : ℕ) (h : HeaderValue) → slice_get held slot ≡ Some (Some h) → get_or (ids_of held) slot 0 ≡ h.id
id_there [] slot h there = absurd cc
id_there (None ∷ cs) zero h there = absurd (let wrong : None ≡ Some h = some_same None (Some h) there in cc)
id_there (Some g ∷ cs) zero h there = ap (λ (x : HeaderValue). x.id) (some_same g h (some_same (Some g) (Some h) there))
id_there (None ∷ cs) (suc slot) h there = id_there cs slot h there
id_there (Some g ∷ cs) (suc slot) h there = id_there cs slot h there

pub first_true : (a b : Bool) → a && b ≡ true → a ≡ true
first_true true b e = refl
first_true false b e = absurd cc

pub node_there : (held : List (Option HeaderValue)) (image : List ℕ) (n : Contents) (copy : Copy) → HoldSlots 0 held image → newest 0 held (node_key n) ≡ Some copy
    → HasTree held copy.place.slot copy.id
node_there held image n copy holds is =
    let l = lies 0 held (node_key n) copy is in
    let slot : l.index ≡ copy.place.slot = omega (arith, ap (λ (x : Copy). x.place.slot) l.copy_is) in
    let id : copy.id ≡ l.header.id = ap (λ (x : Copy). x.id) l.copy_is in
    let there : slice_get held copy.place.slot ≡ Some (Some l.header) = ap (slice_get held) (sym slot) ∙ slice_get-get_or held l.index None l.within ∙ ap Some l.there in
    let right : IsHeader l.header = (slot_held copy.place.slot held (Some l.header) image holds there).0 in
    let passes = (found_so (λ e. Unit {0}) _ l.header.entries l.entry (units l.header.entries) l.found).1 in
    let kind : l.header.kind ≡ Tree = same_kind l.header.kind Tree l.entry.digest (node_digest n) ((bytes_eq-Decides _ _).0 passes) in
    record {
      within = omega (arith, l.within, slot);
      id_is = id_there held copy.place.slot l.header there ∙ sym id;
      some = omega (arith, id, leb-true 1 l.header.id (first_true (nat_le 1 l.header.id) _ right.id));
      tree_is = ap is_tree (count_there held copy.place.slot l.header there) ∙ ap (λ (k : Kind). kind_byte k == 1) kind;
    }

-- ---- so the first such slot comes no later

both : (a b : Bool) → a ≡ true → b ≡ true → (a && b) ≡ true
both true b first second = second
both false b first second = absurd cc

not_none : (id : ℕ) → 1 ≤ id → not (id == 0) ≡ true
not_none id some = by_test (id == 0) refl
  where
    by_test : (b : Bool) → (id == 0) ≡ b → not b ≡ true
    by_test false is = refl
    by_test true is = absurd (omega (arith, eqb-true id 0 is, some))

-- a container of nodes that is there
pub tree_of : (held : List (Option HeaderValue)) (slot : ℕ) (h : HeaderValue) → slot < length held → slice_get held slot ≡ Some (Some h) → IsHeader h → h.kind ≡ Tree
    → HasTree held slot h.id
tree_of held slot h within there right kind = record {
  within = within;
  id_is = id_there held slot h there;
  some = leb-true 1 h.id (first_true (nat_le 1 h.id) _ right.id);
  tree_is = ap is_tree (count_there held slot h there) ∙ ap (λ (k : Kind). kind_byte k == 1) kind;
}

-- one that came before the collection is gone over
pub tree_slot : (held : List (Option HeaderValue)) (t : SlotTable) (snapshot : ℕ) → RepresentsSlots held t → (slot id : ℕ) → id < snapshot → HasTree held slot id
    → is_tree_slot snapshot t slot ≡ true
tree_slot held t snapshot slots slot id old is =
    both (is_old_slot snapshot t slot) (is_tree (slice_get t.counts.items slot))
    (ap (λ (n : ℕ). not (n == 0) && nat_lt n snapshot) (ap (λ (ids : List ℕ). get_or ids slot 0) slots.ids_are ∙ is.id_is)
    ∙ both (not (id == 0)) (nat_lt id snapshot) (not_none id is.some) (lt-ltb id snapshot old))
    (ap (λ (counts : List SlotCount). is_tree (slice_get counts slot)) slots.counts_are ∙ is.tree_is)

not_scanned : (level slot first : ℕ) → level ≤ MOST_LEVEL → first ≤ slot → WasScanned (Mark MOST_LEVEL first) level slot → ⊥
not_scanned level slot first low later (inl high) = omega (arith, low, high)
not_scanned level slot first low later (inr here) = omega (arith, later, here.1)

-- as a collection begins none was scanned for any level
pub not_first : (t : SlotTable) (snapshot slot : ℕ) → slot < length t.ids.items → is_tree_slot snapshot t slot ≡ true → (level : ℕ) → level ≤ MOST_LEVEL
    → WasScanned (mark_level snapshot t MOST_LEVEL) level slot → ⊥
not_first t snapshot slot within is_tree level low scanned =
    let first = first_there (is_tree_slot snapshot t) 0 (length t.ids.items - 0) slot (omega arith) (omega (arith, within)) is_tree in
    let is : mark_level snapshot t MOST_LEVEL ≡ Mark MOST_LEVEL first.slot = ap (mark_at snapshot t MOST_LEVEL) first.first in
    not_scanned level slot first.slot low first.no_later (subst (λ (s : Stage). WasScanned s level slot) is scanned)

module _ (held : List (Option HeaderValue)) (image : List ℕ) (t : SlotTable) (snapshot : ℕ) (holds : HoldSlots 0 held image) (slots : RepresentsSlots held t) where
  pub tree_there : (slot id : ℕ) → id < snapshot → HasTree held slot id → is_tree_slot snapshot t slot ≡ true
  tree_there slot id old is = tree_slot held t snapshot slots slot id old is

  -- no node that is held was passed
  pub none_passed : last_id held < snapshot → (c : Collection) → c.snapshot ≡ snapshot → c.stage ≡ mark_level snapshot t MOST_LEVEL → (n : Contents) (copy : Copy)
      → HoldsNode held image n copy → IsPassed c n.level copy → ⊥
  none_passed above c snapshot_is stage_is n copy node (inr new) = omega (arith, newest_id 0 held (node_key n) copy node.copy_is, above, snapshot_is, new)
  none_passed above c snapshot_is stage_is n copy node (inl scanned) =
      let old : copy.id < snapshot = omega (arith, newest_id 0 held (node_key n) copy node.copy_is, above) in
      let tree = node_there held image n copy holds node.copy_is in
      let within : copy.place.slot < length t.ids.items = omega (arith, tree.within, ap length slots.ids_are, as_many held) in
      not_first t snapshot copy.place.slot within (tree_there copy.place.slot copy.id old tree) n.level node.right.level
      (subst (λ (s : Stage). WasScanned s n.level copy.place.slot) stage_is scanned)
