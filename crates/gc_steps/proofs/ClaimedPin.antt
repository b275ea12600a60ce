-- A claim of a segment that is held leaves both invariants of a collection, where the segment's key becomes live.
use Rattle.gc_steps.proofs.Prelude.{◌≡◌, ◌⊎◌, ◌<◌, inl, inr, ℕ, Bool, true, false, cond, List, length, Some, refl, sym, ◌∙◌, ap, nat_list_cmp_total, bytes_eq, bytes_eq-Decides, ACTORS, Part, Writing, Pin, PinMap, PlaceMap, LiveKeys, Files, Store, IsStoreOf, tied, CoreInvariant, Collection, IsPartKey, Marks}
use Rattle.std.proofs.Common.{◌↔◌}
use Rattle.std.specs.FinMap as finite
use Rattle.actor_parts.specs.Parts.{part_of, with_part}
use Rattle.gc_steps.proofs.Carried.{KeepsBoth, moves_none}
use Rattle.gc_steps.proofs.GainedPins.{Gains, Grows, gained}

-- one key is another, or not
pub one_or_other : (key other : List ℕ) → (other ≡ key) ⊎ (other ≡ key → ⊥)
one_or_other key other = by_test (bytes_eq other key) refl
  where
    by_test : (b : Bool) → bytes_eq other key ≡ b → (other ≡ key) ⊎ (other ≡ key → ⊥)
    by_test true is = inl ((bytes_eq-Decides other key).0 is)
    by_test false is = inr (λ same. (let wrong : false ≡ true = sym is ∙ (bytes_eq-Decides other key).1 same in absurd cc))

-- one key more is pinned
module _ (pins : PinMap) (key : List ℕ) (pin : Pin) where
  abbrev more : PinMap
  more = finite.insert pins key pin

  pub one_more : (other : List ℕ) → IsPartKey (Writing more) other ↔ (IsPartKey (Writing pins) other ⊎ (other ≡ key))
  one_more other = (λ is. to is.0 (sym (got other) ∙ is.1), λ is. back is)
    where
      got : (k : List ℕ) → finite.get more k ≡ cond (bytes_eq key k) (Some pin) (finite.get pins k)
      got k = finite.get-insert nat_list_cmp_total pins key pin k ∙ ap (λ (b : Bool). cond b (Some pin) (finite.get pins k)) (tied k key)

      to : (p : Pin) → cond (bytes_eq key other) (Some pin) (finite.get pins other) ≡ Some p → IsPartKey (Writing pins) other ⊎ (other ≡ key)
      to p = by_test (bytes_eq key other) refl
        where
          by_test : (b : Bool) → bytes_eq key other ≡ b → cond b (Some pin) (finite.get pins other) ≡ Some p → IsPartKey (Writing pins) other ⊎ (other ≡ key)
          by_test true is has = inr (sym ((bytes_eq-Decides key other).0 is))
          by_test false is has = inl (p, has)

      back : IsPartKey (Writing pins) other ⊎ (other ≡ key) → IsPartKey (Writing more) other
      back (inr same) = (pin, got other ∙ ap (λ (b : Bool). cond b (Some pin) (finite.get pins other)) ((bytes_eq-Decides key other).1 (sym same)))
      back (inl was) = by_test (bytes_eq key other) refl
        where
          by_test : (b : Bool) → bytes_eq key other ≡ b → IsPartKey (Writing more) other
          by_test true is = (pin, got other ∙ ap (λ (b : Bool). cond b (Some pin) (finite.get pins other)) is)
          by_test false is = (was.0, got other ∙ ap (λ (b : Bool). cond b (Some pin) (finite.get pins other)) is ∙ was.1)

-- The key of a segment that is held is pinned, and marked.
pub claimed_key : (index : PlaceMap) (store : Store) (image : List ℕ) (files : Files) (parts : List Part) (c : Collection) (marked : LiveKeys) (actor : ℕ) (pins : PinMap)
    (key : List ℕ) (pin : Pin)
    → actor < ACTORS → actor < length parts → part_of parts actor ≡ Writing pins → Marks (λ other. other ≡ key) c.live marked
    → CoreInvariant index store files (with_part parts actor (Writing (finite.insert pins key pin))) image → IsStoreOf store files image
    → KeepsBoth index index store store parts (with_part parts actor (Writing (finite.insert pins key pin))) image image c (record c { live = marked })
claimed_key index store image files parts c marked actor pins key pin below there writing marks core holds =
    gained (λ other. other ≡ key) index index store store image image files parts c marked actor pins (finite.insert pins key pin) below there writing gains grows core holds
    (moves_none index store store c.snapshot refl)
  where
    gains : Gains (λ other. other ≡ key) c.live marked pins (finite.insert pins key pin)
    gains = record { marks = marks; pinned = one_more pins key pin; decided = one_or_other key }

    grows : Grows (λ other. other ≡ key) index index store store image image
    grows = record {
      names_stay = refl;
      keeps = λ k level bytes counts is. is;
      has_still = λ k has. has;
      had = λ k others has. has;
      same = λ k others. refl;
      slots = λ slot h is. inl is;
    }
