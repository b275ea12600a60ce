-- Containers of several slots that are given back, as changes: one after the other, each of one slot.
use Rattle.store_machine.proofs.Prelude.{◌≡◌, ◌⊎◌, ◌+◌, inl, inr, ℕ, zero, suc, Bool, true, false, [], ◌∷◌, ◌++◌, length, map, Contains, Option, Some, refl, sym, ◌∙◌, ap, subst, arith, AllByRecursion, Contains-append_left, HeaderValue, there_before, with_freed, Store, free_slots, FreeContainer, HasContainer, IsWrittenBy, Makes, freed_in, keys_written, last_by}
use Rattle.std.proofs.Common.{List, slice_get}
use Rattle.std.proofs.lemmas.Bool.{eq-eqb}
use Rattle.std.proofs.lemmas.List.Elements.{All-contains_itself, All-weaker, Contains-append_right, recursion_from_All}
use Rattle.std.specs.List.{IsDistinct}
use Rattle.std.specs.Prelude.{nat_eq}
use Rattle.store_model.specs.Freeing.{with_all_freed, without_some}
use Rattle.store_model.specs.Slots.{without_slot}
use Rattle.store_model.proofs.Freed.{free_freed, other_there}
use Rattle.store_model.proofs.FreedFiles.{not_freed}
use Rattle.store_machine.specs.Collecting.{StandIn, stores_without_some}
use Rattle.store_machine.specs.Offers.{some_marks}

-- ---- which containers

-- each of these slots has one
abbrev pub AllStand : List (Option HeaderValue) → List ℕ → Type 0
AllStand held slots = AllByRecursion (λ slot. (h : HeaderValue) × (slice_get held slot ≡ Some (Some h))) slots

pub all_stand : (held : List (Option HeaderValue)) (ids slots : List ℕ) → StandIn held ids slots → AllStand held slots
all_stand held [] [] stand = tt
all_stand held [] (slot ∷ slots) stand = absurd stand
all_stand held (id ∷ ids) [] stand = absurd stand
all_stand held (id ∷ ids) (slot ∷ slots) ((h, there, is), stand) = ((h, there), all_stand held ids slots stand)

-- as many slots as ids
pub as_many : (held : List (Option HeaderValue)) (ids slots : List ℕ) → StandIn held ids slots → length slots ≡ length ids
as_many held [] [] stand = refl
as_many held [] (slot ∷ slots) stand = absurd stand
as_many held (id ∷ ids) [] stand = absurd stand
as_many held (id ∷ ids) (slot ∷ slots) stand = ap suc (as_many held ids slots stand.1)

-- P holds of each, since it holds of all that the list has
pub all_in : (P : ℕ → Type 0) (xs : List ℕ) → ((x : ℕ) → Contains xs x → P x) → AllByRecursion P xs
all_in P xs each = recursion_from_All P xs (All-weaker (Contains xs) P each xs (All-contains_itself xs))

-- ---- once one of them is given back

-- what stands still stood before
stood_before : (slot : ℕ) (slots : List ℕ) (held : List (Option HeaderValue)) → AllStand (without_slot slot held) slots → AllStand held slots
stood_before slot [] held still = tt
stood_before slot (other ∷ slots) held ((h, there), still) = ((h, (there_before slot other h held there).1), stood_before slot slots held still)

-- and is the same
pub stand_then : (slot : ℕ) (ids slots : List ℕ) (held : List (Option HeaderValue)) → AllStand (without_slot slot held) slots → StandIn held ids slots
    → StandIn (without_slot slot held) ids slots
stand_then slot [] [] held still stand = tt
stand_then slot [] (other ∷ slots) held still stand = absurd stand
stand_then slot (id ∷ ids) [] held still stand = absurd stand
stand_then slot (id ∷ ids) (other ∷ slots) held ((g, still), rest) ((h, there, is), stand) =
    ((h, other_there slot other held (there_before slot other g held still).0 ∙ there, is), stand_then slot ids slots held rest stand)

-- the others stand still
others_stand : (slot : ℕ) (slots : List ℕ) (held : List (Option HeaderValue)) → AllByRecursion (λ other. nat_eq slot other ≡ false) slots → AllStand held slots
    → AllStand (without_slot slot held) slots
others_stand slot [] held apart stand = tt
others_stand slot (other ∷ slots) held apart ((h, there), stand) = (
  (h, other_there slot other held (λ same. let wrong : true ≡ false = sym (eq-eqb slot other same) ∙ apart.0 in absurd cc) ∙ there),
  others_stand slot slots held apart.1 stand,
)

-- ---- the changes

-- they come to the store without all of these
pub freed_makes : (slots : List ℕ) (s t : Store) → Makes (map FreeContainer slots) s t → t ≡ with_all_freed slots s
freed_makes [] s t makes = makes
freed_makes (slot ∷ slots) s t (can, makes) = freed_makes slots (with_freed slot s) t makes

-- and can be made where all stand, and none comes twice
pub makes_freed : (slots : List ℕ) (s : Store) → AllStand s.held slots → IsDistinct nat_eq slots → Makes (map FreeContainer slots) s (with_all_freed slots s)
unfolding IsDistinct
makes_freed [] s stand apart = refl
makes_freed (slot ∷ slots) s stand apart = (stand.0, makes_freed slots (with_freed slot s) (others_stand slot slots s.held apart.0 stand.1) apart.1)

-- where they are made all stood
pub made_stand : (slots : List ℕ) (s t : Store) → Makes (map FreeContainer slots) s t → AllStand s.held slots
made_stand [] s t makes = tt
made_stand (slot ∷ slots) s t (can, makes) = (can, stood_before slot slots s.held (made_stand slots (with_freed slot s) t makes))

-- what is there then was there before
pub there_all : (slots : List ℕ) (s : Store) (slot : ℕ) (h : HeaderValue) → HasContainer (with_all_freed slots s) slot h → HasContainer s slot h
there_all slots s slot h has = (not_freed slots s slot h has).1

-- so many slots more are closed
pub free_made : (slots : List ℕ) (s t : Store) → Makes (map FreeContainer slots) s t → free_slots t.held ≡ length slots + free_slots s.held
free_made [] s t makes = omega (arith, ap (λ (x : Store). free_slots x.held) makes)
free_made (slot ∷ slots) s t ((h, there), makes) = omega (arith, free_made slots (with_freed slot s) t makes, free_freed slot h s.held there)

-- so many are given back, and nothing is written
pub all_freed_in : (slots : List ℕ) → freed_in (map FreeContainer slots) ≡ length slots
all_freed_in [] = refl
all_freed_in (slot ∷ slots) = ap suc (all_freed_in slots)

pub no_keys_written : (slots : List ℕ) → keys_written (map FreeContainer slots) ≡ []
no_keys_written [] = refl
no_keys_written (slot ∷ slots) = no_keys_written slots

pub none_by_freeing : (slots : List ℕ) (h : HeaderValue) → IsWrittenBy (map FreeContainer slots) h → ⊥
none_by_freeing [] h is = is
none_by_freeing (slot ∷ slots) h is = none_by_freeing slots h is

pub last_by_freeing : (slots : List ℕ) (last : ℕ) → last_by (map FreeContainer slots) last ≡ last
last_by_freeing [] last = refl
last_by_freeing (slot ∷ slots) last = refl

-- ---- some of them

pub contains_map : {X Y : Type 0} (f : X → Y) (xs : List X) (x : X) → Contains xs x → Contains (map f xs) (f x)
contains_map f [] x there = absurd (omega (arith, there.1))
contains_map f (y ∷ ys) x (zero, below, is) = (zero, omega arith, ap f is)
contains_map f (y ∷ ys) x (suc k, below, is) = let rest = contains_map f ys x (k, omega (arith, below), is) in (suc rest.0, omega (arith, rest.1), rest.2)

-- The marks, whichever, leave the store as it was, or are of one of the stores with fewer.
record IsMarked (marks : List Bool) (slots : List ℕ) (s : Store) : Type 0 where
  some : List Bool
  among : Contains (some_marks (length slots)) some
  same : without_some some slots s ≡ without_some marks slots s

-- the marks of one slot more
abbrev marked_first : Bool → ℕ → List (List Bool)
marked_first mark n = map (λ ms. mark ∷ ms) (some_marks n)

one_more : (n : ℕ) (ms : List Bool) → Contains (marked_first true n ++ marked_first false n) ms → Contains (some_marks (suc n)) ms
one_more n ms there = (suc there.0, omega (arith, there.1), there.2)

marked_or_not : (marks : List Bool) (slots : List ℕ) (s : Store) → (without_some marks slots s ≡ s) ⊎ IsMarked marks slots s
marked_or_not [] slots s = inl refl
marked_or_not (mark ∷ marks) [] s = inl refl
marked_or_not (true ∷ marks) (slot ∷ slots) s = elim (marked_or_not marks slots (with_freed slot s)) [
  | inl none ↦ inr (record { some = true ∷ []; among = (0, omega arith, refl); same = sym none })
  | inr is ↦ inr (record {
    some = true ∷ is.some;
    among = one_more (length slots) (true ∷ is.some)
        (Contains-append_left (marked_first true (length slots)) (marked_first false (length slots)) (true ∷ is.some)
        (contains_map (λ ms. true ∷ ms) (some_marks (length slots)) is.some is.among));
    same = is.same;
  })
]
marked_or_not (false ∷ marks) (slot ∷ slots) s = elim (marked_or_not marks slots s) [
  | inl none ↦ inl none
  | inr is ↦ inr (record {
    some = false ∷ is.some;
    among = one_more (length slots) (false ∷ is.some)
        (Contains-append_right (marked_first true (length slots)) (marked_first false (length slots)) (false ∷ is.some)
        (contains_map (λ ms. false ∷ ms) (some_marks (length slots)) is.some is.among));
    same = is.same;
  })
]

-- so a store without some is the store, or one of those that may stand where a write failed
pub fewer_stands : (slots : List ℕ) (s : Store) (marks : List Bool) → Contains (s ∷ stores_without_some slots s) (without_some marks slots s)
fewer_stands slots s marks = elim (marked_or_not marks slots s) [ inl none ↦ (0, omega arith, sym none) | inr is ↦ by is ]
  where
    by : IsMarked marks slots s → Contains (s ∷ stores_without_some slots s) (without_some marks slots s)
    by is =
        let there = contains_map (λ ms. without_some ms slots s) (some_marks (length slots)) is.some is.among in
        subst (Contains (s ∷ stores_without_some slots s)) is.same (suc there.0, omega (arith, there.1), there.2)
