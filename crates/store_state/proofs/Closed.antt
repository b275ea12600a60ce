-- The closed slots of a table, by its ids.
use Rattle.std.proofs.Common.{append-nil, drop_of_length-le, take_all, ◌≡◌, ◌≤◌, ◌-◌, ◌^◌, ◌⊎◌, inl, inr, Bool, true, false, ℕ, zero, suc, List, [], ◌∷◌, ◌++◌, length, take, drop, Some, None, Option, refl, sym, ◌∙◌, ap, arith}
use Rattle.std.specs.Prelude.{◌&&◌, nat_le}
use Rattle.std.proofs.lemmas.Bool.{leb-true}
use Rattle.std.proofs.lemmas.List.{take-append-le}
use Rattle.container_meta.specs.Spelling.{HeaderValue, IsHeader}
use Rattle.store_model.specs.Slots.{AreHeaders, ids_of}
use Rattle.store_state.specs.Tables.{closed_from}

-- the places of zeros, from a number on
abbrev pub zeros_from : ℕ → List ℕ → List ℕ
zeros_from at [] = []
zeros_from at (zero ∷ ids) = at ∷ zeros_from (suc at) ids
zeros_from at (suc id ∷ ids) = zeros_from (suc at) ids

-- a container's id isn't 0
id_some : (h : HeaderValue) → IsHeader h → 1 ≤ h.id
id_some h right = leb-true 1 h.id (both_true (nat_le 1 h.id) (nat_le h.id (2 ^ 64 - 2)) right.id)
  where
    both_true : (a b : Bool) → a && b ≡ true → a ≡ true
    both_true true b e = refl
    both_true false b e = e

zeros_past : (at id : ℕ) (ids : List ℕ) → 1 ≤ id → zeros_from at (id ∷ ids) ≡ zeros_from (suc at) ids
zeros_past at zero ids some = absurd (omega (arith, some))
zeros_past at (suc id) ids some = refl

pub zeros_closed : (at : ℕ) (held : List (Option HeaderValue)) → AreHeaders held → zeros_from at (ids_of held) ≡ closed_from at held
zeros_closed at [] right = refl
zeros_closed at (None ∷ cs) right = ap (λ (l : List ℕ). at ∷ l) (zeros_closed (suc at) cs right)
zeros_closed at (Some h ∷ cs) right = zeros_past at h.id (ids_of cs) (id_some h right.0) ∙ zeros_closed (suc at) cs right.1

-- what was found so far, and then what is left
pub all_found : (count at : ℕ) (ids slots : List ℕ) → take count (slots ++ zeros_from at (drop at ids)) ≡ take count (zeros_from 0 ids) → length slots ≤ count
    → (length slots ≡ count) ⊎ (length ids ≤ at) → slots ≡ take count (zeros_from 0 ids)
all_found count at ids slots so_far few (inl full) =
    sym (take-append-le count slots (zeros_from at (drop at ids)) (omega (arith, full)) ∙ take_all count slots few) ∙ so_far
all_found count at ids slots so_far few (inr past) =
    let rest : drop at ids ≡ [] = drop_of_length-le ids past in
    sym (ap (λ (l : List ℕ). take count (slots ++ zeros_from at l)) rest ∙ ap (take count) (append-nil slots) ∙ take_all count slots few) ∙ so_far
