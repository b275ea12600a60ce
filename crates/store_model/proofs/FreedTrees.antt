-- The newest copy of each key that is needed, and the trees of such keys, once a slot is closed that has none of these copies.
use Rattle.store_model.proofs.Prelude.{◌≡◌, ◌≢◌, ℕ, zero, suc, ◌+◌, ◌≤◌, Bool, true, false, List, [], ◌∷◌, max, Option, Some, None, find, option_map, refl, sym, ◌∙◌, ap, arith, nat_lt, Contains, bytes_eq, ltb-true, ltb-false, Contains-append_left, Contains-append_right, key_of, Entry, kind_byte, HeaderValue, spelling, Trees, contents_of, Named, Files, HoldsNone, IsReachable, tree_keys, keys_below, Copy, place_of, copy_in, newer, newest, without_slot, IsFileOf, leaf_key, node_key, HasNewest, HoldsTree, HoldsTrees}
use Rattle.std.specs.Prelude.{if◌then◌else◌}
use Rattle.std.specs.FinMap as finite
use Rattle.merkle_file.specs.Tree as tree
use Rattle.merkle_file.specs.Tree.{Tree}
use Rattle.store_model.specs.Trees.{file_tree}
use Rattle.store_model.proofs.Copies.{some_same}

-- ---- the newer of two copies

-- 0 where there is no copy, else one more than its id
abbrev rank : Option Copy → ℕ
rank None = 0
rank (Some a) = suc a.id

rank_newer : (x y : Option Copy) → rank (newer x y) ≡ max (rank x) (rank y)
rank_newer None y = omega arith
rank_newer (Some a) None = omega arith
rank_newer (Some a) (Some b) = by_test (nat_lt a.id b.id) refl
  where
    by_test : (less : Bool) → nat_lt a.id b.id ≡ less → rank (if less then Some b else Some a) ≡ max (suc a.id) (suc b.id)
    by_test true is = omega (arith, ltb-true a.id b.id is)
    by_test false is = omega (arith, ltb-false a.id b.id is)

-- the first is the newer one, where it isn't below the second
first_newer : (a : Copy) (y : Option Copy) → rank y ≤ suc a.id → newer (Some a) y ≡ Some a
first_newer a None less = refl
first_newer a (Some b) less = by_test (nat_lt a.id b.id) refl
  where
    by_test : (below : Bool) → nat_lt a.id b.id ≡ below → (if below then Some b else Some a) ≡ Some a
    by_test false is = refl
    by_test true is = absurd (omega (arith, less, ltb-true a.id b.id is))

-- where the first isn't the newer one, the second is
second_newer : (x y : Option Copy) → ((a : Copy) → x ≡ Some a → newer x y ≢ Some a) → y ≡ newer x y
second_newer None y lost = refl
second_newer (Some a) None lost = absurd (lost a refl refl)
second_newer (Some a) (Some b) lost = by_test (nat_lt a.id b.id) (lost a refl)
  where
    by_test : (less : Bool) → (if less then Some b else Some a) ≢ Some a → Some b ≡ (if less then Some b else Some a)
    by_test true other = refl
    by_test false other = absurd (other refl)

-- a second that is no greater, and the same where it would be the newer one, leaves the newer of two as it is
newer_alike : (x y z : Option Copy) → rank z ≤ rank y → (((b : Copy) → y ≡ Some b → newer x y ≡ Some b) → z ≡ y) → newer x z ≡ newer x y
newer_alike None y z less alike = alike (λ b is. is)
newer_alike (Some a) None z less alike = ap (newer (Some a)) (alike (λ b is. absurd cc))
newer_alike (Some a) (Some b) z less alike = by_test (nat_lt a.id b.id) refl
  where
    by_test : (below : Bool) → nat_lt a.id b.id ≡ below → newer (Some a) z ≡ newer (Some a) (Some b)
    by_test true is = ap (newer (Some a)) (alike (λ c same. ap (λ (below : Bool). if below then Some b else Some a) is ∙ same))
    by_test false is =
        first_newer a z (omega (arith, less, ltb-false a.id b.id is)) ∙ sym (first_newer a (Some b) (omega (arith, ltb-false a.id b.id is)))

-- ---- the newest copy of a key

-- one slot fewer gives no newer one
rank_without : (from slot : ℕ) (held : List (Option HeaderValue)) (key : List ℕ) → rank (newest from (without_slot slot held) key) ≤ rank (newest from held key)
rank_without from slot [] key = omega arith
rank_without from zero (c ∷ cs) key = omega (arith, rank_newer (copy_in from c key) (newest (from + 1) cs key))
rank_without from (suc slot) (c ∷ cs) key =
    omega (
      arith,
      rank_newer (copy_in from c key) (newest (from + 1) (without_slot slot cs) key),
      rank_newer (copy_in from c key) (newest (from + 1) cs key),
      rank_without
          (from + 1) slot cs key,
    )

-- a copy lies in its slot
slot_of_copy : (slot : ℕ) (c : Option HeaderValue) (key : List ℕ) (copy : Copy) → copy_in slot c key ≡ Some copy → copy.place.slot ≡ slot
slot_of_copy slot None key copy e = absurd cc
slot_of_copy slot (Some h) key copy e = by_entry (find (λ x. bytes_eq (key_of (kind_byte h.kind) x.digest) key) h.entries) e
  where
    by_entry : (found : Option Entry) → option_map (λ x. record { id = h.id; place = place_of slot x }) found ≡ Some copy → copy.place.slot ≡ slot
    by_entry None e = absurd cc
    by_entry (Some x) e = sym (ap (λ (c : Copy). c.place.slot) (some_same _ copy e))

-- where it isn't in the slot that is closed, it stays
newest_from : (slot from index : ℕ) (held : List (Option HeaderValue)) (key : List ℕ) → slot ≡ from + index →
    ((copy : Copy) → newest from held key ≡ Some copy → copy.place.slot ≢ slot)
    → newest from (without_slot index held) key ≡ newest from held key
newest_from slot from index [] key place others = refl
newest_from slot from zero (c ∷ cs) key place others =
    second_newer (copy_in from c key) (newest (from + 1) cs key) (λ a is won. others a won (slot_of_copy from c key a is ∙ omega (arith, place)))
newest_from slot from (suc index) (c ∷ cs) key place others =
    newer_alike (copy_in from c key) (newest (from + 1) cs key) (newest (from + 1) (without_slot index cs) key) (rank_without (from + 1) index cs key)
    (λ won. newest_from slot (from + 1) index cs key (omega (arith, place)) (λ copy is. others copy (won copy is)))

-- the newest copy of a key that is needed stays, where the slot that is closed has none of them
pub newest_freed : (P : List ℕ → Type 0) (slot : ℕ) (held : List (Option HeaderValue)) → HoldsNone P held slot → (key : List ℕ) → P key
    → newest 0 (without_slot slot held) key ≡ newest 0 held key
newest_freed P slot held none key needed = newest_from slot 0 slot held key (omega arith) (λ copy is. none key copy needed is)

-- so a slot that has none of them has none after, and the other way round
pub none_after : (P : List ℕ → Type 0) (slot other : ℕ) (held : List (Option HeaderValue)) → HoldsNone P held slot → HoldsNone P held other →
    HoldsNone P (without_slot slot held) other
none_after P slot other held none also key copy needed is = also key copy needed (sym (newest_freed P slot held none key needed) ∙ is)

pub none_before : (P : List ℕ → Type 0) (slot other : ℕ) (held : List (Option HeaderValue)) → HoldsNone P held slot → HoldsNone P (without_slot slot held) other →
    HoldsNone P held other
none_before P slot other held none also key copy needed is = also key copy needed (newest_freed P slot held none key needed ∙ is)

-- what holds none of some keys holds none of fewer
pub none_of_fewer : (P Q : List ℕ → Type 0) (held : List (Option HeaderValue)) (slot : ℕ) → ((key : List ℕ) → Q key → P key) → HoldsNone P held slot → HoldsNone Q held slot
none_of_fewer P Q held slot each none key copy needed is = none key copy (each key needed) is

-- ---- trees

pub in_head : (key : List ℕ) (keys : List (List ℕ)) → Contains (key ∷ keys) key
in_head key keys = (0, omega arith, refl)

pub in_tail : (key other : List ℕ) (keys : List (List ℕ)) → Contains keys other → Contains (key ∷ keys) other
in_tail key other keys has = (suc has.0, omega (arith, has.1), has.2)

-- where the newest copies of the keys that are needed go on, so do trees of such keys
module _ (P : List ℕ → Type 0) (held more : List (Option HeaderValue)) (old new : List ℕ)
    (each : (key : List ℕ) (level : ℕ) (bytes : List ℕ) → P key → HasNewest held key level bytes old → HasNewest more key level bytes new) where
  mutual
    pub needed_tree : (t : Tree (List ℕ)) → ((key : List ℕ) → Contains (tree_keys t) key → P key) → HoldsTree held old t → HoldsTree more new t
    needed_tree tree.Empty needed holds = tt
    needed_tree (tree.Leaf segment) needed holds = each (leaf_key segment) 0 segment (needed (leaf_key segment) (in_head (leaf_key segment) [])) holds
    needed_tree (tree.Node level ts) needed holds =
        let top : List ℕ = node_key (contents_of level ts) in (
          each top level (spelling (contents_of level ts)) (needed top (in_head top (keys_below ts))) holds.0,
          needed_trees ts (λ key has. needed key (in_tail top key (keys_below ts) has)) holds.1,
        )

    pub needed_trees : (ts : Trees (List ℕ)) → ((key : List ℕ) → Contains (keys_below ts) key → P key) → HoldsTrees held old ts → HoldsTrees more new ts
    needed_trees tree.NoTree needed holds = tt
    needed_trees (tree.Then t ts) needed holds = (
      needed_tree t (λ key has. needed key (Contains-append_left (tree_keys t) (keys_below ts) key has)) holds.0,
      needed_trees ts (λ key has. needed key (Contains-append_right (tree_keys t) (keys_below ts) key has)) holds.1,
    )

  -- and files, whose keys are all needed
  pub needed_file : (files : Files) (name : List ℕ) (named : Option Named) (file : Option (List ℕ)) → ((key : List ℕ) → IsReachable files key → P key)
      → finite.get files name ≡ file → IsFileOf held old named file → IsFileOf more new named file
  needed_file files name None None all is holds = tt
  needed_file files name None (Some bytes) all is holds = holds
  needed_file files name (Some named) None all is holds = holds
  needed_file files name (Some named) (Some bytes) all is holds = (holds.0, needed_tree (file_tree bytes) (λ key has. all key (name, (bytes, (is, has)))) holds.1)
