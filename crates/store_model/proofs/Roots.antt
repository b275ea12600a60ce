-- The roots that the names of a store have, and how long its copies are.
use Rattle.store_model.proofs.Prelude.{names_of, ◌≡◌, ℕ, ◌+◌, Bool, true, false, cond, List, [], ◌∷◌, length, Option, Some, None, sym, ◌∙◌, subst, arith, nat_cmp, eq_by_cmp, slice_cmp, nat_list_cmp_total, data_at, Root, Change, RecordValue, IsRoot, IsChange, Named, NameMap, names_with, names_changed, names_after, Copy, newest, Store, Encodes, IsValidFor, bytes_at}
use Rattle.std.specs.FinMap as finite
use Rattle.base_model.proofs.Ranges.{length-range}
use Rattle.disk_format.specs.Cells.Change.{Put, Delete}
use Rattle.store_model.specs.Journal.{Follow}
use Rattle.store_model.proofs.Copies.{some_same, headers_of_right, copy_within}

-- ---- each root is one that a file may have

abbrev pub HaveRoots : NameMap → Type 0
HaveRoots names = (name : List ℕ) (named : Named) → finite.get names name ≡ Some named → IsRoot named.root

put_root : (same : Bool) (new : Named) (old : Option Named) (named : Named) → IsRoot new.root → ((n : Named) → old ≡ Some n → IsRoot n.root) →
    cond same (Some new) old ≡ Some named → IsRoot named.root
put_root true new old named root others is = subst (λ (n : Named). IsRoot n.root) (some_same new named is) root
put_root false new old named root others is = others named is

less_root : (same : Bool) (old : Option Named) (named : Named) → ((n : Named) → old ≡ Some n → IsRoot n.root) → cond same None old ≡ Some named → IsRoot named.root
less_root true old named others is = absurd cc
less_root false old named others is = others named is

-- a change leaves such roots
roots_changed : (sequence : ℕ) (name : List ℕ) (change : Change) (names : NameMap) → IsChange change → HaveRoots names → HaveRoots (names_changed sequence name change names)
roots_changed sequence name (Put root) names right roots q named found =
    let new : Named = record { sequence = sequence; root = root } in
    put_root (eq_by_cmp (slice_cmp nat_cmp) q name) new (finite.get names q) named right (λ n is. roots q n is)
    (sym (finite.get-insert nat_list_cmp_total names name new q) ∙ found)
roots_changed sequence name Delete names right roots q named found =
    less_root (eq_by_cmp (slice_cmp nat_cmp) q name) (finite.get names q) named (λ n is. roots q n is) (sym (finite.get-remove nat_list_cmp_total names name q) ∙ found)

-- so do records that follow each other
pub roots_after : (previous : ℕ) (names : NameMap) (records : List RecordValue) → Follow previous names records → HaveRoots names → HaveRoots (names_after records names)
roots_after previous names [] follow roots = roots
roots_after previous names (r ∷ rs) follow roots = roots_after r.sequence (names_with r names) rs follow.3 (roots_changed r.sequence r.name r.change names follow.0.change roots)

pub no_roots : HaveRoots finite.empty
no_roots q named found =
    let none = sym (finite.get-empty {X = Named} (slice_cmp nat_cmp) q) ∙ found in
    absurd cc

-- the name has this root
abbrev pub HasRoot : List ℕ → Root → Store → Type 0
HasRoot name root store = (sequence : ℕ) × (finite.get (names_of store) name ≡ Some (record { sequence = sequence; root = root }))

-- the root that a name of a store has
pub root_of_name : (size : ℕ) (store : Store) (name : List ℕ) (root : Root) → IsValidFor size store → HasRoot name root store → IsRoot root
root_of_name size store name root sound has = roots_after 0 finite.empty store.records sound.follow no_roots name (record { sequence = has.0; root = root }) has.1

-- ---- how long a copy is

-- a copy is as long as its place says
pub length_of_copy : (store : Store) (image key : List ℕ) (copy : Copy) → Encodes image store → newest 0 store.held key ≡ Some copy →
    length (bytes_at copy.place image) ≡ copy.place.length
length_of_copy store image key copy right is =
    let within = copy_within store key copy (headers_of_right image store right) is in
    length-range (data_at copy.place.slot + copy.place.offset) copy.place.length image (omega (arith, within.0, within.1, right.size, right.many))
