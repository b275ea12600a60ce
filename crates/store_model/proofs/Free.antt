-- Closed slots, by the id in each slot: 0 where it is closed; and on the disk.
use Rattle.store_model.proofs.Prelude.{◌≡◌, ◌≢◌, ℕ, zero, suc, ◌+◌, ◌-◌, ◌^◌, ◌<◌, ◌≤◌, Bool, true, false, cond, List, [], ◌∷◌, length, Option, Some, None, refl, sym, ap, subst, ◌∙◌, arith, ◌==◌, nat_le, nat_lt, slice_get, leb-true, ltb-false, eqb-true, byte_at, CONTAINER_GATE, slot_at, HeaderValue, IsHeader, HoldsSlot, HoldSlots, AreHeaders, ids_of, free_slots, first_free, Store, Encodes}
use Rattle.std.specs.List.{count_by, position, position_or_len}
use Rattle.std.proofs.lemmas.List.Quantifiers.{position-Some}
use Rattle.std.proofs.lemmas.List.Sums.{position_or_len_is}
use Rattle.std.proofs.lemmas.List.Recursion.{is_count_by, is_position_or_len}
use Rattle.base_model.proofs.Checks.{both}

abbrev pub is_zero : ℕ → Bool
is_zero id = id == 0

-- a container's id isn't 0
id_not_zero : (h : HeaderValue) → IsHeader h → is_zero h.id ≡ false
id_not_zero h right = by_test (is_zero h.id) refl (both (nat_le 1 h.id) (nat_le h.id (2 ^ 64 - 2)) right.id).0
  where
    by_test : (b : Bool) → is_zero h.id ≡ b → nat_le 1 h.id ≡ true → b ≡ false
    by_test false is from_one = refl
    by_test true is from_one = absurd (omega (arith, eqb-true h.id 0 is, leb-true 1 h.id from_one))

-- the ids that are 0, and the place of the first of them
zeros_in : List ℕ → ℕ
zeros_in [] = 0
zeros_in (id ∷ ids) = cond (is_zero id) (1 + zeros_in ids) (zeros_in ids)

first_in : List ℕ → ℕ
first_in [] = 0
first_in (id ∷ ids) = cond (is_zero id) 0 (1 + first_in ids)

zeros_are_free : (held : List (Option HeaderValue)) → AreHeaders held → zeros_in (ids_of held) ≡ free_slots held
unfolding zeros_in
zeros_are_free [] right = refl
zeros_are_free (None ∷ held) right = omega (arith, zeros_are_free held right)
zeros_are_free (Some h ∷ held) right =
    ap (λ (b : Bool). cond b (1 + zeros_in (ids_of held)) (zeros_in (ids_of held))) (id_not_zero h right.0) ∙ zeros_are_free held right.1

first_is_free : (held : List (Option HeaderValue)) → AreHeaders held → first_in (ids_of held) ≡ first_free held
unfolding first_in
first_is_free [] right = refl
first_is_free (None ∷ held) right = refl
first_is_free (Some h ∷ held) right =
    ap (λ (b : Bool). cond b 0 (1 + first_in (ids_of held))) (id_not_zero h right.0) ∙ omega (arith, first_is_free held right.1)

-- as many ids are 0 as slots are closed
pub zeros_free : (held : List (Option HeaderValue)) → AreHeaders held → count_by is_zero (ids_of held) ≡ free_slots held
unfolding zeros_in
zeros_free held right = sym (is_count_by zeros_in is_zero refl (λ x xs. refl) (ids_of held)) ∙ zeros_are_free held right

-- slots of the same ids have as many that are closed
pub same_free : (held other : List (Option HeaderValue)) → AreHeaders held → AreHeaders other → ids_of held ≡ ids_of other → free_slots held ≡ free_slots other
same_free held other right also same = sym (zeros_free held right) ∙ ap (count_by is_zero) same ∙ zeros_free other also

-- the first id that is 0 is that of the closed slot of least number
pub first_zero : (held : List (Option HeaderValue)) → AreHeaders held → position_or_len is_zero (ids_of held) ≡ first_free held
unfolding first_in
first_zero held right = sym (is_position_or_len first_in is_zero refl (λ x xs. refl) (ids_of held)) ∙ first_is_free held right

-- that slot is closed
pub first_closed : (held : List (Option HeaderValue)) → first_free held < length held → slice_get held (first_free held) ≡ Some None
first_closed [] within = absurd (omega arith)
first_closed (None ∷ held) within = refl
first_closed (Some h ∷ held) within = first_closed held (omega arith)

-- where no slot is closed, the number of slots stands in its place
pub none_free : (held : List (Option HeaderValue)) → length held ≤ first_free held → free_slots held ≡ 0
none_free [] all = refl
none_free (None ∷ held) all = absurd (omega arith)
none_free (Some h ∷ held) all = none_free held (omega arith)

-- where a slot is closed, there is one of least number
pub some_free : (held : List (Option HeaderValue)) → 1 ≤ free_slots held → first_free held < length held
some_free [] some = absurd (omega arith)
some_free (None ∷ held) some = omega arith
some_free (Some h ∷ held) some = omega (arith, some_free held some)

-- each slot has an id
pub as_many : (held : List (Option HeaderValue)) → length (ids_of held) ≡ length held
as_many [] = refl
as_many (None ∷ held) = omega (arith, as_many held)
as_many (Some h ∷ held) = omega (arith, as_many held)

-- the place of the first id that is 0 is that slot
pub place_free : (held : List (Option HeaderValue)) (slot : ℕ) → AreHeaders held → position is_zero (ids_of held) ≡ Some slot
    → (slot ≡ first_free held) × (slot < length held) × (slice_get held slot ≡ Some None)
place_free held slot right is =
    let found = position-Some is_zero (ids_of held) slot 0 is in
    let few : slot < length held = omega (arith, found.0, as_many held) in
    let first : slot ≡ first_free held =
    sym (position_or_len_is is_zero (ids_of held) slot 0 (omega (arith, found.0)) found.2 (λ within. found.1)) ∙ first_zero held right in
    (first, few, ap (slice_get held) first ∙ first_closed held (omega (arith, first, few)))

-- where there is none, no slot is closed
pub no_place_free : (held : List (Option HeaderValue)) → AreHeaders held → position is_zero (ids_of held) ≡ None → free_slots held ≡ 0
no_place_free held right is = none_free held (omega (arith, first_zero held right, as_many held, past))
  where
    by_test : (b : Bool) (place : ℕ) → nat_lt place (length (ids_of held)) ≡ b → cond b (Some place) None ≡ None → nat_lt place (length (ids_of held)) ≡ false
    by_test false place e none = e
    by_test true place e none = absurd cc

    past : length (ids_of held) ≤ position_or_len is_zero (ids_of held)
    past = ltb-false (position_or_len is_zero (ids_of held)) (length (ids_of held)) (by_test _ (position_or_len is_zero (ids_of held)) refl is)

-- ---- slots that the store has closed are closed

pub closed_in : (from slot index : ℕ) (held : List (Option HeaderValue)) (image : List ℕ) → slot ≡ from + index → slice_get held index ≡ Some None → HoldSlots from held image
    → HoldsSlot image slot None
closed_in from slot index [] image place closed holds = absurd cc
closed_in from slot zero (Some h ∷ cs) image place closed holds = absurd cc
closed_in from slot zero (None ∷ cs) image place closed holds = subst (λ (s : ℕ). byte_at (slot_at s) image ≢ CONTAINER_GATE) (omega (arith, place)) holds.0
closed_in from slot (suc index) (c ∷ cs) image place closed holds = closed_in (from + 1) slot index cs image (omega (arith, place)) closed holds.1

-- where a slot is free, the first free slot is closed
pub first_free_closed : (image : List ℕ) (store : Store) → Encodes image store → 1 ≤ free_slots store.held → HoldsSlot image (first_free store.held) None
first_free_closed image store right some =
    closed_in 0 (first_free store.held) (first_free store.held) store.held image (omega arith) (first_closed store.held (some_free store.held some)) right.slots_are
