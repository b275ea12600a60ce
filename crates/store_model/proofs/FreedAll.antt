-- A store once several slots are closed, or some of them, that have the newest copy of nothing that is needed.
use Rattle.store_model.proofs.Prelude.{◌≡◌, ◌≢◌, ◌≤◌, ℕ, zero, suc, Bool, true, false, List, [], ◌∷◌, ◌++◌, Option, Some, None, refl, ◌∙◌, ap, arith, AllByRecursion, slice_get, HeaderValue, with_freed, Store, IsValidFor, last_sequence, HoldsNone, free_slots, without_slot}
use Rattle.store_model.specs.Freeing.{with_all_freed, without_some}
use Rattle.store_model.specs.Reserve.{HasReserve}
use Rattle.store_model.proofs.Freed.{other_there, valid_freed}
use Rattle.store_model.proofs.FreedFiles.{reserve_freed, same_but_held}
use Rattle.store_model.proofs.FreedTrees.{none_after}

-- ---- some of them

-- those that are marked
abbrev pub marked : List Bool → List ℕ → List ℕ
marked [] slots = []
marked (mark ∷ marks) [] = []
marked (true ∷ marks) (slot ∷ slots) = slot ∷ marked marks slots
marked (false ∷ marks) (slot ∷ slots) = marked marks slots

pub some_are_all : (marks : List Bool) (slots : List ℕ) (s : Store) → without_some marks slots s ≡ with_all_freed (marked marks slots) s
some_are_all [] slots s = refl
some_are_all (mark ∷ marks) [] s = refl
some_are_all (true ∷ marks) (slot ∷ slots) s = some_are_all marks slots (with_freed slot s)
some_are_all (false ∷ marks) (slot ∷ slots) s = some_are_all marks slots s

pub each_marked : (P : ℕ → Type 0) (marks : List Bool) (slots : List ℕ) → AllByRecursion P slots → AllByRecursion P (marked marks slots)
each_marked P [] slots all = tt
each_marked P (mark ∷ marks) [] all = tt
each_marked P (true ∷ marks) (slot ∷ slots) all = (all.0, each_marked P marks slots all.1)
each_marked P (false ∷ marks) (slot ∷ slots) all = each_marked P marks slots all.1

-- ---- all of them

pub freed_then : (a b : List ℕ) (s : Store) → with_all_freed (a ++ b) s ≡ with_all_freed b (with_all_freed a s)
freed_then [] b s = refl
freed_then (slot ∷ a) b s = freed_then a b (with_freed slot s)

pub valid_all : (size : ℕ) (slots : List ℕ) (s : Store) → IsValidFor size s → IsValidFor size (with_all_freed slots s)
valid_all size [] s valid = valid
valid_all size (slot ∷ slots) s valid = valid_all size slots (with_freed slot s) (valid_freed size slot s valid)

pub last_all : (slots : List ℕ) (s : Store) → last_sequence (with_all_freed slots s) ≡ last_sequence s
last_all slots s = ap last_sequence (same_but_held slots s)

-- each other slot is as it was
pub others_all : (slots : List ℕ) (other : ℕ) (s : Store) → AllByRecursion (λ slot. slot ≢ other) slots
    → slice_get (with_all_freed slots s).held other ≡ slice_get s.held other
others_all [] other s all = refl
others_all (slot ∷ slots) other s all = others_all slots other (with_freed slot s) all.1 ∙ other_there slot other s.held all.0

free_least : (slot : ℕ) (held : List (Option HeaderValue)) → free_slots held ≤ free_slots (without_slot slot held)
free_least slot [] = omega arith
free_least zero (None ∷ cs) = omega arith
free_least zero (Some h ∷ cs) = omega arith
free_least (suc slot) (None ∷ cs) = omega (arith, free_least slot cs)
free_least (suc slot) (Some h ∷ cs) = free_least slot cs

-- as many slots as before are closed, or more
pub free_all : (slots : List ℕ) (s : Store) → free_slots s.held ≤ free_slots (with_all_freed slots s).held
free_all [] s = omega arith
free_all (slot ∷ slots) s = omega (arith, free_least slot s.held, free_all slots (with_freed slot s))

-- ---- of what is needed they have nothing

module _ (P : List ℕ → Type 0) where
  -- nor have they once one of them is closed
  pub none_then : (slot : ℕ) (slots : List ℕ) (held : List (Option HeaderValue)) → HoldsNone P held slot → AllByRecursion (HoldsNone P held) slots
      → AllByRecursion (HoldsNone P (without_slot slot held)) slots
  none_then slot [] held none all = tt
  none_then slot (other ∷ slots) held none all = (none_after P slot other held none all.0, none_then slot slots held none all.1)

  pub reserve_all : (slots : List ℕ) (s : Store) → AllByRecursion (HoldsNone P s.held) slots → HasReserve P s.held → HasReserve P (with_all_freed slots s).held
  reserve_all [] s all reserve = reserve
  reserve_all (slot ∷ slots) s all reserve =
      reserve_all slots (with_freed slot s) (none_then slot slots s.held all.0 all.1) (reserve_freed P slot s.held all.0 reserve)
