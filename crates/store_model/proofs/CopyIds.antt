-- The ids of copies: none is above the last.
use Rattle.store_model.proofs.Prelude.{◌≡◌, inl, inr, ℕ, ◌+◌, ◌≤◌, List, [], ◌∷◌, Option, Some, None, find, option_map, ap, arith, bytes_eq, key_of, Entry, kind_byte, HeaderValue, Copy, place_of, copy_in, newest, last_id}
use Rattle.store_model.proofs.Copies.{some_same, one_of}

copy_id : (slot : ℕ) (c : Option HeaderValue) (cs : List (Option HeaderValue)) (key : List ℕ) (copy : Copy) → copy_in slot c key ≡ Some copy → copy.id ≤ last_id (c ∷ cs)
copy_id slot None cs key copy e = absurd cc
copy_id slot (Some h) cs key copy e = by_entry (find (λ x. bytes_eq (key_of (kind_byte h.kind) x.digest) key) h.entries) e
  where
    by_entry : (found : Option Entry) → option_map (λ x. record { id = h.id; place = place_of slot x }) found ≡ Some copy → copy.id ≤ last_id (Some h ∷ cs)
    by_entry None e = absurd cc
    by_entry (Some x) e = let is : h.id ≡ copy.id = ap (λ (c : Copy). c.id) (some_same _ copy e) in omega (arith, is)

last_rest : (c : Option HeaderValue) (cs : List (Option HeaderValue)) → last_id cs ≤ last_id (c ∷ cs)
last_rest None cs = omega arith
last_rest (Some h) cs = omega arith

-- no copy has an id above the last
pub newest_id : (from : ℕ) (held : List (Option HeaderValue)) (key : List ℕ) (copy : Copy) → newest from held key ≡ Some copy → copy.id ≤ last_id held
newest_id from [] key copy e = absurd cc
newest_id from (c ∷ cs) key copy e = elim (one_of (copy_in from c key) (newest (from + 1) cs key) copy e) [
  | inl first ↦ copy_id from c cs key copy first
  | inr rest ↦ omega (arith, newest_id (from + 1) cs key copy rest, last_rest c cs)
]
