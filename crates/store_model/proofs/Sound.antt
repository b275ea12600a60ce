-- What is so of a store that an image of some size holds.
use Rattle.store_model.proofs.Prelude.{◌≡◌, ℕ, ◌-◌, ◌^◌, ◌≤◌, List, [], ◌∷◌, Option, Some, None, length, sym, ◌∙◌, arith, nat_le, leb-true, HeaderValue, IsHeader, AreHeaders, last_id, Store, Encodes, IsValidFor}
use Rattle.store_model.proofs.Copies.{headers_of_right}
use Rattle.base_model.proofs.Checks.{both}

-- a store that an image of this size holds is one that such an image may hold
pub sound_of_right : (size : ℕ) (image : List ℕ) (store : Store) → length image ≡ size → Encodes image store → IsValidFor size store
sound_of_right size image store long right = record {
  count = right.count;
  size_is = sym long ∙ right.size;
  selector_right = right.journal.selector_is.0;
  few = right.journal.records_are.few;
  follow = right.journal.records_are.right;
  many = right.many;
  headers = headers_of_right image store right;
  different = right.different;
}

-- a container's id is at most the greatest that there may be
id_within : (h : HeaderValue) → IsHeader h → h.id ≤ 2 ^ 64 - 2
id_within h right = leb-true h.id (2 ^ 64 - 2) (both (nat_le 1 h.id) (nat_le h.id (2 ^ 64 - 2)) right.id).1

-- so is the last one
pub last_within : (held : List (Option HeaderValue)) → AreHeaders held → last_id held ≤ 2 ^ 64 - 2
last_within [] right = omega arith
last_within (None ∷ held) right = last_within held right
last_within (Some h ∷ held) right = omega (arith, id_within h right.0, last_within held right.1)
