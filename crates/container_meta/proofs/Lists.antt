-- Zeros, and lists that are written from the front on.
use Rattle.container_meta.proofs.Prelude.{◌≡◌, ℕ, zero, suc, ◌+◌, ◌-◌, ◌≤◌, true, false, cond, List, [], ◌∷◌, ◌++◌, length, take, drop, refl, sym, ap, ◌∙◌, arith, take_all, length-take, eqb-true, zeros_in_front}
use Rattle.std.proofs.Common.{Bool, eqb, replicate}
use Rattle.std.proofs.lemmas.List.{length-replicate, length-drop}
use Rattle.std.proofs.lemmas.Slice.{take-put_mid}
use borrow.Rule.Slice.PartMut.{put_mid}
use Rattle.base_model.specs.Bytes.{zeros}

zeros_step : (b : Bool) (n m : ℕ) → n ≤ m → cond b (suc n) 0 ≤ suc m
zeros_step true n m h = omega arith
zeros_step false n m h = omega arith

pub zeros_in_front-le : (bs : List ℕ) → zeros_in_front bs ≤ length bs
zeros_in_front-le [] = omega arith
zeros_in_front-le (b ∷ bs) = zeros_step (eqb b 0) (zeros_in_front bs) (length bs) (zeros_in_front-le bs)

all_step : (x : Bool) (n m : ℕ) → cond x (suc n) 0 ≡ suc m → (x ≡ true) × (n ≡ m)
all_step true n m e = (refl, omega arith)
all_step false n m e = absurd (omega arith)

-- a list that is all zeros
pub all_zeros : (bs : List ℕ) → zeros_in_front bs ≡ length bs → bs ≡ zeros (length bs)
unfolding zeros
all_zeros [] e = refl
all_zeros (b ∷ bs) e =
    let s = all_step (eqb b 0) (zeros_in_front bs) (length bs) e in
    let head : b ≡ 0 = eqb-true b 0 s.0 in
    let rest : bs ≡ replicate (length bs) 0 = all_zeros bs s.1 in
    ap (λ (x : ℕ). x ∷ bs) head ∙ ap (λ (l : List ℕ). 0 ∷ l) rest

pub zeros_in_front-zeros : (n : ℕ) → zeros_in_front (zeros n) ≡ n
unfolding zeros
zeros_in_front-zeros zero = refl
zeros_in_front-zeros (suc n) = ap suc (zeros_in_front-zeros n)

-- what was written last stands after what was written before
pub next_written : (at n : ℕ) (front bytes old new : List ℕ) → take at old ≡ front → take (at + n) new ≡ take at old ++ bytes → take (at + n) new ≡ front ++ bytes
next_written at n front bytes old new before e = e ∙ ap (λ (l : List ℕ). l ++ bytes) before

pub whole_written : (n : ℕ) (front new : List ℕ) → length new ≡ n → take n new ≡ front → new ≡ front
whole_written n front new long e = sym (take_all n new (omega (arith, long))) ∙ e

-- the same, at a place that is their sum
pub written_to : (at n place : ℕ) (front bytes old new : List ℕ) → place ≡ at + n → take at old ≡ front → take (at + n) new ≡ take at old ++ bytes → take place new ≡ front ++ bytes
written_to at n place front bytes old new e before h = ap (λ (k : ℕ). take k new) e ∙ next_written at n front bytes old new before h

-- the same of bytes that are known to be others
pub part_written : (at place : ℕ) (front bytes exact old new : List ℕ) → bytes ≡ exact → place ≡ at + length exact → take at old ≡ front →
    take (at + length bytes) new ≡ take at old ++ bytes → take place new ≡ front ++ exact
part_written at place front bytes exact old new same e before h =
    written_to at (length bytes) place front bytes old new (e ∙ ap (λ (l : List ℕ). at + length l) (sym same)) before h ∙ ap (λ (l : List ℕ). front ++ l) same

-- after a part was filled with zeros
pub zeros_written : (at n : ℕ) (xs ys : List ℕ) → at + n ≤ length xs → ys ≡ replicate (length (take (at + n - at) (drop at xs))) 0 →
    take (at + n) (put_mid at (at + n - at) xs ys) ≡ take at xs ++ zeros n
unfolding zeros
zeros_written at n xs ys fits filled =
    let long : length (take (at + n - at) (drop at xs)) ≡ n = omega (arith, length-take (at + n - at) (drop at xs), length-drop at xs) in
    let same : ys ≡ replicate n 0 = filled ∙ ap (λ (k : ℕ). replicate k 0) long in
    take-put_mid at (at + n - at) xs ys (at + n) (omega (arith, ap length same, length-replicate {A = ℕ} n 0)) (omega arith) ∙ ap (λ (l : List ℕ). take at xs ++ l) same
