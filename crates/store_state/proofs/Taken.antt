-- The table of slots, once a container is in one of them.
use Rattle.std.proofs.Common.{◌≡◌, ℕ, zero, suc, ◌≤◌, List, [], ◌∷◌, map, max, set, Option, Some, None, refl, ap, arith}
use Rattle.container_meta.specs.Spelling.{HeaderValue}
use Rattle.store_model.specs.Slots.{ids_of, last_id, with_slot, without_slot}
use Rattle.store_state.specs.declared.slot_table.SlotCount.{SlotCount}
use Rattle.store_state.specs.Tables.{count_of}

pub ids_with : (slot : ℕ) (h : HeaderValue) (held : List (Option HeaderValue)) → ids_of (with_slot slot h held) ≡ set (ids_of held) slot h.id
ids_with slot h [] = refl
ids_with zero h (None ∷ cs) = refl
ids_with zero h (Some g ∷ cs) = refl
ids_with (suc slot) h (None ∷ cs) = ap (λ (l : List ℕ). 0 ∷ l) (ids_with slot h cs)
ids_with (suc slot) h (Some g ∷ cs) = ap (λ (l : List ℕ). g.id ∷ l) (ids_with slot h cs)

pub counts_with : (slot : ℕ) (h : HeaderValue) (held : List (Option HeaderValue)) → map count_of (with_slot slot h held) ≡ set (map count_of held) slot (count_of (Some h))
counts_with slot h [] = refl
counts_with zero h (c ∷ cs) = refl
counts_with (suc slot) h (c ∷ cs) = ap (λ (l : List SlotCount). count_of c ∷ l) (counts_with slot h cs)

pub last_with : (slot : ℕ) (h : HeaderValue) (held : List (Option HeaderValue)) → last_id (with_slot slot h held) ≤ max (last_id held) h.id
last_with slot h [] = omega arith
last_with zero h (None ∷ cs) = omega arith
last_with zero h (Some g ∷ cs) = omega arith
last_with (suc slot) h (None ∷ cs) = last_with slot h cs
last_with (suc slot) h (Some g ∷ cs) = omega (arith, last_with slot h cs)

-- ---- a slot that is closed

pub ids_without : (slot : ℕ) (held : List (Option HeaderValue)) → ids_of (without_slot slot held) ≡ set (ids_of held) slot 0
ids_without slot [] = refl
ids_without zero (None ∷ cs) = refl
ids_without zero (Some g ∷ cs) = refl
ids_without (suc slot) (None ∷ cs) = ap (λ (l : List ℕ). 0 ∷ l) (ids_without slot cs)
ids_without (suc slot) (Some g ∷ cs) = ap (λ (l : List ℕ). g.id ∷ l) (ids_without slot cs)

pub counts_without : (slot : ℕ) (held : List (Option HeaderValue)) → map count_of (without_slot slot held) ≡ set (map count_of held) slot (count_of None)
counts_without slot [] = refl
counts_without zero (c ∷ cs) = refl
counts_without (suc slot) (c ∷ cs) = ap (λ (l : List SlotCount). count_of c ∷ l) (counts_without slot cs)

pub last_without : (slot : ℕ) (held : List (Option HeaderValue)) → last_id (without_slot slot held) ≤ last_id held
last_without slot [] = omega arith
last_without zero (None ∷ cs) = omega arith
last_without zero (Some g ∷ cs) = omega arith
last_without (suc slot) (None ∷ cs) = last_without slot cs
last_without (suc slot) (Some g ∷ cs) = omega (arith, last_without slot cs)
