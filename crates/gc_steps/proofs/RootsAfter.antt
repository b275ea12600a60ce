-- The roots after steps of other actors: none comes but those that the step gives.
use Rattle.gc_steps.proofs.Prelude.{◌≡◌, ◌⊎◌, inl, inr, ℕ, zero, suc, ◌<◌, Bool, true, false, cond, List, [], ◌∷◌, map, Some, None, refl, sym, ◌∙◌, ap, subst, if◌then◌else◌, nat_cmp, eq_by_cmp, slice_cmp, nat_list_cmp_total, ACTORS, Part, Idle, Writing, Reading, Reader, Pin, PinMap, has_pin, Root, Put, Delete, Named, named_root, NameMap, HasRootKey, IsListedKey, IsNameKey, IsPartKey, IsRoot, root_key}
use Rattle.std.specs.FinMap as finite
use Rattle.actor_parts.specs.Parts.{part_of, with_part}
use Rattle.namespace.specs.Names.{names_changed}
use Rattle.gc_steps.proofs.ListedKeys.{name_of_key}
use Rattle.gc_steps.proofs.PinnedTrees.{pin_found}

-- ---- an actor's part changes

part_number : (parts : List Part) (actor other : ℕ) (part : Part)
    → (part_of (with_part parts actor part) other ≡ part) ⊎ (part_of (with_part parts actor part) other ≡ part_of parts other)
unfolding part_of with_part
part_number [] actor other part = inr refl
part_number (p ∷ ps) zero zero part = inl refl
part_number (p ∷ ps) zero (suc other) part = inr refl
part_number (p ∷ ps) (suc actor) zero part = inr refl
part_number (p ∷ ps) (suc actor) (suc other) part = part_number ps actor other part

-- A root after it is one of before, or of the part.
pub part_root : (names : NameMap) (parts : List Part) (actor : ℕ) (part : Part) (key : List ℕ) → IsRoot names (with_part parts actor part) key → IsRoot names parts key
    ⊎ IsPartKey part key
part_root names parts actor part key (inl name) = inl (inl name)
part_root names parts actor part key (inr (other, (below, is))) = by_number (part_number parts actor other part)
  where
    by_number : (part_of (with_part parts actor part) other ≡ part) ⊎ (part_of (with_part parts actor part) other ≡ part_of parts other) → IsRoot names parts key
        ⊎ IsPartKey part key
    by_number (inl new) = inr (subst (λ (p : Part). IsPartKey p key) new is)
    by_number (inr same) = inl (inr (other, (below, subst (λ (p : Part). IsPartKey p key) same is)))

-- An actor is at nothing: no root comes.
pub idle_root : (names : NameMap) (parts : List Part) (actor : ℕ) (key : List ℕ) → IsRoot names (with_part parts actor Idle) key → IsRoot names parts key
idle_root names parts actor key is = by_case (part_root names parts actor Idle key is)
  where
    by_case : IsRoot names parts key ⊎ IsPartKey Idle key → IsRoot names parts key
    by_case (inl was) = was
    by_case (inr none) = absurd none

-- It stores a file, and has pinned nothing yet: no root comes.
pub begun_root : (names : NameMap) (parts : List Part) (actor : ℕ) (key : List ℕ) → IsRoot names (with_part parts actor (Writing finite.empty)) key → IsRoot names parts key
begun_root names parts actor key is = by_case (part_root names parts actor (Writing finite.empty) key is)
  where
    by_case : IsRoot names parts key ⊎ IsPartKey (Writing finite.empty) key → IsRoot names parts key
    by_case (inl was) = was
    by_case (inr none) = absurd (let wrong : None ≡ Some none.0 = sym (finite.get-empty {X = Pin} (slice_cmp nat_cmp) key) ∙ none.1 in cc)

-- It reads on in the same file: no root comes.
pub reading_root : (names : NameMap) (parts : List Part) (actor : ℕ) (old new : Reader) → actor < ACTORS → part_of parts actor ≡ Reading old → new.root ≡ old.root
    → (key : List ℕ) → IsRoot names (with_part parts actor (Reading new)) key → IsRoot names parts key
reading_root names parts actor old new below was same key is = by_case (part_root names parts actor (Reading new) key is)
  where
    by_case : IsRoot names parts key ⊎ IsPartKey (Reading new) key → IsRoot names parts key
    by_case (inl is) = is
    by_case (inr is) = inr (actor, (below, subst (λ (p : Part). IsPartKey p key) (sym was) (subst (λ (r : Root). HasRootKey r key) same is)))

-- ---- the root of a name

listed_there : (es : List (List ℕ × Named)) (name key : List ℕ) (named : Named) → finite.find (slice_cmp nat_cmp) name es ≡ Some named → HasRootKey named.root key
    → IsListedKey (map named_root es) key
listed_there [] name key named found has = absurd cc
listed_there (e ∷ es) name key named found has = by_test (eq_by_cmp (slice_cmp nat_cmp) name e.0) found (λ rest. listed_there es name key named rest has)
  where
    one_named : (a b : Named) → Some a ≡ Some b → a ≡ b
    one_named a b same = cc

    by_test : (b : Bool) → cond b (Some e.1) (finite.find (slice_cmp nat_cmp) name es) ≡ Some named
        → (finite.find (slice_cmp nat_cmp) name es ≡ Some named → IsListedKey (map named_root es) key) → IsListedKey (map named_root (e ∷ es)) key
    by_test true here rest = inl (subst (λ (n : Named). HasRootKey n.root key) (sym (one_named e.1 named here)) has)
    by_test false later rest = inr (rest later)

pub key_of_name : (names : NameMap) (name key : List ℕ) (named : Named) → finite.get names name ≡ Some named → HasRootKey named.root key → IsNameKey names key
key_of_name names name key named found has = listed_there (finite.entries names) name key named (sym (finite.get-entries names name) ∙ found) has

-- An actor begins to read the file of a name: no root comes.
pub opened_root : (names : NameMap) (parts : List Part) (actor : ℕ) (reader : Reader) (name : List ℕ) (named : Named) → finite.get names name ≡ Some named
    → named.root ≡ reader.root
    → (key : List ℕ) → IsRoot names (with_part parts actor (Reading reader)) key → IsRoot names parts key
opened_root names parts actor reader name named found same key is = by_case (part_root names parts actor (Reading reader) key is)
  where
    by_case : IsRoot names parts key ⊎ IsPartKey (Reading reader) key → IsRoot names parts key
    by_case (inl was) = was
    by_case (inr is) = inl (key_of_name names name key named found (subst (λ (r : Root). HasRootKey r key) (sym same) is))

-- ---- a name changes

got_after_remove : (names : NameMap) (name other : List ℕ) (named : Named) → finite.get (finite.remove names name) other ≡ Some named → finite.get names other ≡ Some named
got_after_remove names name other named has = by_test (eq_by_cmp (slice_cmp nat_cmp) other name) (sym (finite.get-remove nat_list_cmp_total names name other) ∙ has)
  where
    by_test : (b : Bool) → (if b then None else finite.get names other) ≡ Some named → finite.get names other ≡ Some named
    by_test true is = absurd cc
    by_test false is = is

got_after_insert : (names : NameMap) (name other : List ℕ) (given named : Named) → finite.get (finite.insert names name given) other ≡ Some named
    → (given ≡ named) ⊎ (finite.get names other ≡ Some named)
got_after_insert names name other given named has = by_test (eq_by_cmp (slice_cmp nat_cmp) other name) (sym (finite.get-insert nat_list_cmp_total names name given other) ∙ has)
  where
    one_named : (a b : Named) → Some a ≡ Some b → a ≡ b
    one_named a b same = cc

    by_test : (b : Bool) → cond b (Some given) (finite.get names other) ≡ Some named → (given ≡ named) ⊎ (finite.get names other ≡ Some named)
    by_test true is = inl (one_named given named is)
    by_test false is = inr is

-- A name is deleted: no root comes.
pub deleted_root : (number : ℕ) (name : List ℕ) (names : NameMap) (parts : List Part) (key : List ℕ) → IsRoot (names_changed number name Delete names) parts key
    → IsRoot names parts key
deleted_root number name names parts key (inr actor) = inr actor
deleted_root number name names parts key (inl is) =
    let one = name_of_key (finite.remove names name) key is in
    inl (key_of_name names one.name key one.named (got_after_remove names name one.name one.named one.found) one.has)

-- A name is given a root: no other comes.
pub put_root : (number : ℕ) (name : List ℕ) (root : Root) (names : NameMap) (parts : List Part) (key : List ℕ) → IsRoot (names_changed number name (Put root) names) parts key
    → IsRoot names parts key ⊎ HasRootKey root key
put_root number name root names parts key (inr actor) = inl (inr actor)
put_root number name root names parts key (inl is) =
    let given : Named = record { sequence = number; root = root } in
    let one = name_of_key (finite.insert names name given) key is in
    by_case one.name one.named one.has (got_after_insert names name one.name given one.named one.found)
  where
    by_case : (other : List ℕ) (named : Named) → HasRootKey named.root key → ((let n : Named = record { sequence = number; root = root } in n) ≡ named)
        ⊎ (finite.get names other ≡ Some named)
        → IsRoot names parts key ⊎ HasRootKey root key
    by_case other named has (inl same) = inr (subst (λ (n : Named). HasRootKey n.root key) (sym same) has)
    by_case other named has (inr found) = inl (inl (key_of_name names other key named found has))

-- It is the root of a file that an actor stored, and that actor is at nothing then: no root comes.
pub committed_root : (number : ℕ) (name : List ℕ) (root : Root) (names : NameMap) (parts : List Part) (actor : ℕ) (pins : PinMap) → actor < ACTORS
    → part_of parts actor ≡ Writing pins
    → (root.length ≡ 0) ⊎ (has_pin pins (root_key root) (record { level = root.level; length = root.length }) ≡ true)
    → (key : List ℕ) → IsRoot (names_changed number name (Put root) names) (with_part parts actor Idle) key → IsRoot names parts key
committed_root number name root names parts actor pins below writing stored key is = by_case (put_root number name root names (with_part parts actor Idle) key is)
  where
    pinned : HasRootKey root key → (root.length ≡ 0) ⊎ (has_pin pins (root_key root) (record { level = root.level; length = root.length }) ≡ true) → IsPartKey (Writing pins) key
    pinned has (inl none) = absurd (has.0 none)
    pinned has (inr there) =
        let pin : Pin = record { level = root.level; length = root.length } in
        (pin, ap (finite.get pins) has.1 ∙ pin_found pin (finite.get pins (root_key root)) there)

    by_case : IsRoot names (with_part parts actor Idle) key ⊎ HasRootKey root key → IsRoot names parts key
    by_case (inl was) = idle_root names parts actor key was
    by_case (inr has) = inr (actor, (below, subst (λ (p : Part). IsPartKey p key) (sym writing) (pinned has stored)))
