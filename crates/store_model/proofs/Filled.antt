-- Slots, once a container is in one that was closed.
use Rattle.store_model.proofs.Prelude.{◌≡◌, ◌≢◌, ℕ, zero, suc, ◌<◌, ◌≤◌, List, [], ◌∷◌, length, get_or, max, Option, Some, None, refl, ◌∙◌, ap, arith, slice_get, HeaderValue, IsHeader, AreHeaders, IsUnusedId, DifferentIds, last_id, free_slots, first_free, with_slot}

-- no container is in the closed slot of least number, also where there is none and that number is past all
pub first_empty : (held : List (Option HeaderValue)) → get_or held (first_free held) None ≡ None
first_empty [] = refl
first_empty (None ∷ cs) = refl
first_empty (Some h ∷ cs) = first_empty cs

pub closed_empty : (index : ℕ) (held : List (Option HeaderValue)) → slice_get held index ≡ Some None → get_or held index None ≡ None
closed_empty index [] closed = absurd cc
closed_empty zero (None ∷ cs) closed = refl
closed_empty zero (Some h ∷ cs) closed = absurd cc
closed_empty (suc index) (c ∷ cs) closed = closed_empty index cs closed

-- there are as many slots as before
pub length-with_slot : (slot : ℕ) (h : HeaderValue) (held : List (Option HeaderValue)) → length (with_slot slot h held) ≡ length held
length-with_slot slot h [] = refl
length-with_slot zero h (c ∷ cs) = refl
length-with_slot (suc slot) h (c ∷ cs) = ap suc (length-with_slot slot h cs)

-- one slot fewer is closed
pub free_less : (h : HeaderValue) (held : List (Option HeaderValue)) → 1 ≤ free_slots held → suc (free_slots (with_slot (first_free held) h held)) ≡ free_slots held
free_less h [] some = absurd (omega (arith, some))
free_less h (None ∷ cs) some = refl
free_less h (Some g ∷ cs) some = free_less h cs some

-- the headers are such
pub headers_with : (slot : ℕ) (h : HeaderValue) (held : List (Option HeaderValue)) → AreHeaders held → IsHeader h → AreHeaders (with_slot slot h held)
headers_with slot h [] headers right = tt
headers_with zero h (None ∷ cs) headers right = (right, headers)
headers_with zero h (Some g ∷ cs) headers right = (right, headers.1)
headers_with (suc slot) h (None ∷ cs) headers right = headers_with slot h cs headers right
headers_with (suc slot) h (Some g ∷ cs) headers right = (headers.0, headers_with slot h cs headers.1 right)

-- ---- ids

-- the greatest id is that of the container, or the one from before
pub last_with : (h : HeaderValue) (held : List (Option HeaderValue)) → 1 ≤ free_slots held → last_id (with_slot (first_free held) h held) ≡ max h.id (last_id held)
last_with h [] some = absurd (omega (arith, some))
last_with h (None ∷ cs) some = refl
last_with h (Some g ∷ cs) some = ap (max g.id) (last_with h cs some) ∙ omega arith

-- an id above all is the last
pub last_new : (h : HeaderValue) (held : List (Option HeaderValue)) → 1 ≤ free_slots held → last_id held < h.id → last_id (with_slot (first_free held) h held) ≡ h.id
last_new h held some above = last_with h held some ∙ omega (arith, above)

-- an id above all is no container's
pub fresh_above : (id : ℕ) (held : List (Option HeaderValue)) → last_id held < id → IsUnusedId id held
fresh_above id [] above = tt
fresh_above id (None ∷ cs) above = fresh_above id cs above
fresh_above id (Some h ∷ cs) above = (let other : h.id ≢ id = omega (arith, above) in other, fresh_above id cs (omega (arith, above)))

fresh_with : (id slot : ℕ) (h : HeaderValue) (held : List (Option HeaderValue)) → IsUnusedId id held → h.id ≢ id → IsUnusedId id (with_slot slot h held)
fresh_with id slot h [] fresh other = tt
fresh_with id zero h (None ∷ cs) fresh other = (other, fresh)
fresh_with id zero h (Some g ∷ cs) fresh other = (other, fresh.1)
fresh_with id (suc slot) h (None ∷ cs) fresh other = fresh_with id slot h cs fresh other
fresh_with id (suc slot) h (Some g ∷ cs) fresh other = (fresh.0, fresh_with id slot h cs fresh.1 other)

-- with an id above all, ids still differ
pub different_with : (slot : ℕ) (h : HeaderValue) (held : List (Option HeaderValue)) → DifferentIds held → last_id held < h.id → DifferentIds (with_slot slot h held)
different_with slot h [] differ above = tt
different_with zero h (None ∷ cs) differ above = (fresh_above h.id cs above, differ)
different_with zero h (Some g ∷ cs) differ above = (fresh_above h.id cs (omega (arith, above)), differ.1)
different_with (suc slot) h (None ∷ cs) differ above = different_with slot h cs differ above
different_with (suc slot) h (Some g ∷ cs) differ above =
    (fresh_with g.id slot h cs differ.0 (let other : h.id ≢ g.id = omega (arith, above) in other), different_with slot h cs differ.1 (omega (arith, above)))
