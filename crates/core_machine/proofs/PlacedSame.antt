-- Containers in the closed slots of least number, as the machine has them and as the steps of a core have them; and the stores with some.
use Rattle.core_machine.proofs.Prelude.{◌≡◌, ◌⊎◌, inl, inr, ℕ, zero, suc, ◌≤◌, Bool, true, false, List, [], ◌∷◌, ◌++◌, length, Some, refl, sym, ◌∙◌, ap, subst, arith, some_same, Contains-append_left, Contains-append_right}
use Rattle.std.proofs.Common.{map, slice_get}
use Rattle.std.specs.List.{Contains}
use Rattle.container_meta.specs.Segments.{Contents}
use Rattle.store_model.specs.Image.{Store}
use Rattle.store_model.specs.Slots.{free_slots}
use Rattle.store_model.specs.Steps.{with_sealed}
use Rattle.store_model.specs.Together.{Placed, with_placed, with_some}
use Rattle.store_state.specs.Tables.{closed_from}
use Rattle.ingest_steps.specs.Offering.{in_free}
use Rattle.ingest_steps.specs.SealingAll.{slots_of}
use Rattle.ingest_steps.proofs.PlacedFree.{fewer_left, first_in, in_free_step}
use Rattle.store_core.proofs.FilledSlots.{IsOutOf}
use Rattle.store_core.proofs.ManySealed.{none_placed}
use Rattle.store_machine.specs.Offers.{AnyByRecursion, some_marks, placed, stores_with_some}
use Rattle.store_machine.proofs.Released.{contains_map}

-- they are the same, where there are slots for all
pub placed_same : (last : ℕ) (cs : List Contents) (s : Store) → length cs ≤ free_slots s.held → placed last cs s ≡ in_free (suc last) cs s
placed_same last [] s room = sym (none_placed (closed_from 0 s.held) (suc last))
placed_same last (c ∷ cs) s room =
    ap (λ (ps : List Placed). first_in (suc last) c s ∷ ps)
    (placed_same (suc last) cs (with_sealed (suc last) c.kind c.segments s) (fewer_left (suc last) c (length cs) s room))
    ∙ sym (in_free_step (suc last) c cs s (omega (arith, room)))

pub many_placed : (last : ℕ) (cs : List Contents) (s : Store) → length (placed last cs s) ≡ length cs
many_placed last [] s = refl
many_placed last (c ∷ cs) s =
    ap suc (many_placed (suc last) cs (with_placed (record { slot = _; id = suc last; kind = c.kind; segments = c.segments }) s))

-- a slot that none of them is for
pub out_of_placed : (ps : List Placed) (slot : ℕ) → (AnyByRecursion (λ p. slot ≡ p.slot) ps → ⊥) → IsOutOf (slots_of ps) slot
out_of_placed [] slot none i other here same = absurd cc
out_of_placed (p ∷ ps) slot none zero other here same = none (inl (same ∙ sym (some_same p.slot other here)))
out_of_placed (p ∷ ps) slot none (suc i) other here same = out_of_placed ps slot (λ later. none (inr later)) i other here same

-- P holds of one of them
pub any_got : (P : Contents → Type 0) (cs : List Contents) (number : ℕ) (c : Contents) → slice_get cs number ≡ Some c → P c → AnyByRecursion P cs
any_got P [] number c here has = absurd cc
any_got P (x ∷ xs) zero c here has = inl (subst P (sym (some_same x c here)) has)
any_got P (x ∷ xs) (suc number) c here has = inr (any_got P xs number c here has)

-- ---- some of them

-- The marks, whichever, leave the store as it was, or are of one of the stores with some.
record IsMarked (marks : List Bool) (ps : List Placed) (s : Store) : Type 0 where
  some : List Bool
  among : Contains (some_marks (length ps)) some
  same : with_some some ps s ≡ with_some marks ps s

marked_or_not : (marks : List Bool) (ps : List Placed) (s : Store) → (with_some marks ps s ≡ s) ⊎ IsMarked marks ps s
marked_or_not [] ps s = inl refl
marked_or_not (mark ∷ marks) [] s = inl refl
marked_or_not (true ∷ marks) (p ∷ ps) s = elim (marked_or_not marks ps (with_placed p s)) [
  | inl none ↦ inr (record { some = true ∷ []; among = (0, omega arith, refl); same = sym none })
  | inr is ↦ inr (record {
    some = true ∷ is.some;
    among = next (true ∷ is.some)
        (Contains-append_left (map (λ ms. true ∷ ms) (some_marks (length ps))) (map (λ ms. false ∷ ms) (some_marks (length ps))) (true ∷ is.some)
        (contains_map (λ ms. true ∷ ms) (some_marks (length ps)) is.some is.among));
    same = is.same;
  })
]
  where
    next : (ms : List Bool) → Contains (map (λ xs. true ∷ xs) (some_marks (length ps)) ++ map (λ xs. false ∷ xs) (some_marks (length ps))) ms
        → Contains (some_marks (suc (length ps))) ms
    next ms there = (suc there.0, omega (arith, there.1), there.2)
marked_or_not (false ∷ marks) (p ∷ ps) s = elim (marked_or_not marks ps s) [
  | inl none ↦ inl none
  | inr is ↦ inr (record {
    some = false ∷ is.some;
    among = next (false ∷ is.some)
        (Contains-append_right (map (λ ms. true ∷ ms) (some_marks (length ps))) (map (λ ms. false ∷ ms) (some_marks (length ps))) (false ∷ is.some)
        (contains_map (λ ms. false ∷ ms) (some_marks (length ps)) is.some is.among));
    same = is.same;
  })
]
  where
    next : (ms : List Bool) → Contains (map (λ xs. true ∷ xs) (some_marks (length ps)) ++ map (λ xs. false ∷ xs) (some_marks (length ps))) ms
        → Contains (some_marks (suc (length ps))) ms
    next ms there = (suc there.0, omega (arith, there.1), there.2)

-- so a store with some is the store, or one of those that the machine has
pub some_stands : (last : ℕ) (cs : List Contents) (s : Store) (marks : List Bool) → length cs ≤ free_slots s.held
    → Contains (s ∷ stores_with_some last cs s) (with_some marks (in_free (suc last) cs s) s)
some_stands last cs s marks room =
    subst (λ (ps : List Placed). Contains (s ∷ stores_with_some last cs s) (with_some marks ps s)) (placed_same last cs s room)
    (elim (marked_or_not marks (placed last cs s) s) [ inl none ↦ (0, omega arith, sym none) | inr is ↦ by is ])
  where
    by : IsMarked marks (placed last cs s) s → Contains (s ∷ stores_with_some last cs s) (with_some marks (placed last cs s) s)
    by is =
        let there = contains_map (λ ms. with_some ms (placed last cs s) s) (some_marks (length cs)) is.some
        (subst (λ (n : ℕ). Contains (some_marks n) is.some) (many_placed last cs s) is.among) in
        subst (Contains (s ∷ stores_with_some last cs s)) is.same (suc there.0, omega (arith, there.1), there.2)
