-- How many containers have an id above one: a collection has written as many, and fewer than there are slots.
use Rattle.backup_engine.proofs.Prelude.{◌≡◌, ◌+◌, ◌<◌, ◌≤◌, ℕ, zero, suc, Bool, true, false, cond, List, [], ◌∷◌, length, Option, Some, None, refl, ap, arith, nat_lt, slice_get, ltb-true, HeaderValue, first_free, free_slots, last_id, with_slot, without_slot}
use Rattle.std.proofs.lemmas.Bool.{lt-ltb}

-- one, if the id is above
abbrev pub one_above : ℕ → ℕ → ℕ
one_above last id = cond (nat_lt last id) 1 0

pub new_in : ℕ → List (Option HeaderValue) → ℕ
new_in last [] = 0
new_in last (None ∷ cs) = new_in last cs
new_in last (Some h ∷ cs) = one_above last h.id + new_in last cs

is_above : (last id : ℕ) → last < id → one_above last id ≡ 1
is_above last id above = ap (λ (b : Bool). cond b 1 0) (lt-ltb last id above)

not_above : (last id : ℕ) → id ≤ last → one_above last id ≡ 0
not_above last id low = by_test (nat_lt last id) refl
  where
    by_test : (b : Bool) → nat_lt last id ≡ b → one_above last id ≡ 0
    by_test true is = absurd (omega (arith, low, ltb-true last id is))
    by_test false is = ap (λ (b : Bool). cond b 1 0) is

most_one : (last id : ℕ) → one_above last id ≤ 1
most_one last id = by_test (nat_lt last id)
  where
    by_test : (b : Bool) → cond b 1 0 ≤ 1
    by_test true = omega arith
    by_test false = omega arith

-- at first there is none
pub none_new : (last : ℕ) (held : List (Option HeaderValue)) → last_id held ≤ last → new_in last held ≡ 0
unfolding new_in
none_new last [] low = refl
none_new last (None ∷ cs) low = none_new last cs low
none_new last (Some h ∷ cs) low = omega (arith, not_above last h.id (omega (arith, low)), none_new last cs (omega (arith, low)))

-- one that is written is one more
pub new_with : (last : ℕ) (h : HeaderValue) (held : List (Option HeaderValue)) → 1 ≤ free_slots held → last < h.id →
    new_in last (with_slot (first_free held) h held) ≡ 1 + new_in last held
unfolding new_in
new_with last h [] some above = absurd (omega (arith, some))
new_with last h (None ∷ cs) some above = ap (λ (n : ℕ). n + new_in last cs) (is_above last h.id above)
new_with last h (Some g ∷ cs) some above = omega (arith, new_with last h cs some above)

-- an older one that is given back is none fewer
pub new_without : (last slot : ℕ) (held : List (Option HeaderValue)) → ((h : HeaderValue) → slice_get held slot ≡ Some (Some h) → h.id ≤ last) →
    new_in last (without_slot slot held) ≡ new_in last held
unfolding new_in
new_without last slot [] low = refl
new_without last zero (None ∷ cs) low = refl
new_without last zero (Some g ∷ cs) low = omega (arith, not_above last g.id (low g refl))
new_without last (suc slot) (None ∷ cs) low = new_without last slot cs low
new_without last (suc slot) (Some g ∷ cs) low = omega (arith, new_without last slot cs low)

-- no slot that is closed has one
pub new_few : (last : ℕ) (held : List (Option HeaderValue)) → new_in last held + free_slots held ≤ length held
unfolding new_in
new_few last [] = omega arith
new_few last (None ∷ cs) = omega (arith, new_few last cs)
new_few last (Some h ∷ cs) = omega (arith, most_one last h.id, new_few last cs)
