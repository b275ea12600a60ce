-- The value of a window that moves by one byte.
use Rattle.std.proofs.Common.{◌≡◌, ℕ, suc, ◌+◌, ◌-◌, ◌*◌, ◌/◌, ◌%◌, ◌^◌, ◌<◌, ◌≤◌, List, [], ◌∷◌, ◌++◌, length, get_or, take, drop, refl, sym, ap, ◌∙◌, arith, length-append, length-drop, drop-cons, get_or-take}
use Rattle.std.proofs.lemmas.List.{length-take-le, take_more, drop-append-le}
use Rattle.std.proofs.lemmas.Nat.{mul-mod_first}
use Rattle.std.proofs.Math.Nat.{pow-suc, add-mod, mod-add-mod, add-mul-mod_self_right}
use Rattle.segmenter.specs.Segments.{weighted_sum, window_value, window_at}

-- the sum of a list with one more byte in front of it, and of each byte one power higher
raised : (b p k w byte : ℕ) → b * (p * k) + (w * k + byte) ≡ (b * p + w) * k + byte
raised b p k w byte = omega arith

-- one more byte at the end raises the power of each other byte by one
pub weighted_sum-push : (bytes : List ℕ) (byte : ℕ) → weighted_sum (bytes ++ byte ∷ []) ≡ weighted_sum bytes * 0x9E3779B97F4A7C15 + byte
unfolding weighted_sum
weighted_sum-push [] byte = omega arith
weighted_sum-push (b ∷ rest) byte =
    let more : length (rest ++ byte ∷ []) ≡ suc (length rest) = omega (arith, length-append rest (byte ∷ [])) in
    rw (more, pow-suc 0x9E3779B97F4A7C15 (length rest), weighted_sum-push rest byte)
    (raised b (0x9E3779B97F4A7C15 ^ length rest) 0x9E3779B97F4A7C15 (weighted_sum rest) byte)

-- what a step computes from the value modulo m is the step of the sum modulo m
step_modulo : (w k y m : ℕ) → ((w % m) * k % m + y) % m ≡ (w * k + y) % m
step_modulo w k y m = rw (mul-mod_first w k m, mod-add-mod (w * k) m y)

-- the value of one more byte, as it is computed
pub window_value-push : (bytes : List ℕ) (byte : ℕ) →
    ((window_value bytes * 0x9E3779B97F4A7C15) % 2 ^ 64 + byte) % 2 ^ 64 ≡ window_value (bytes ++ byte ∷ [])
unfolding window_value
window_value-push bytes byte =
    step_modulo (weighted_sum bytes) 0x9E3779B97F4A7C15 byte (2 ^ 64) ∙ ap (λ n. n % 2 ^ 64) (sym (weighted_sum-push bytes byte))

-- A byte x that leaves stood for x * p before the step and for x * (p * k) after it. What is added for it makes up a
-- multiple of the modulus.
rolled_sum : (x p w k y l q m : ℕ) → p * k + l ≡ q * m → (x * p + w) * k + x * l + y ≡ w * k + y + x * q * m
rolled_sum x p w k y l q m h =
    let each : x * (p * k + l) ≡ x * (q * m) = ap (λ n. x * n) h in
    omega (arith, each)

rolled_modulo : (s x k y l m : ℕ) → (((s % m) * k % m + x * l % m) % m + y) % m ≡ (s * k + x * l + y) % m
rolled_modulo s x k y l m =
    rw (mul-mod_first s k m, sym (add-mod (s * k) (x * l) m), mod-add-mod (s * k + x * l) m y)

pub rolled_value : (x y s p w k l q m : ℕ) → p * k + l ≡ q * m → s ≡ x * p + w →
    (((s % m) * k % m + x * l % m) % m + y) % m ≡ (w * k + y) % m
rolled_value x y s p w k l q m h e =
    rolled_modulo s x k y l m
    ∙ ap (λ n. (n * k + x * l + y) % m) e
    ∙ ap (λ n. n % m) (rolled_sum x p w k y l q m h)
    ∙ add-mul-mod_self_right (w * k + y) (x * q) m

-- what is added for a byte that leaves makes up a multiple of 2^64
leaving_cancels :
    0x9E3779B97F4A7C15 ^ 47 * 0x9E3779B97F4A7C15 + 0xEFCFECB6D7E971BF
    ≡ (0x9E3779B97F4A7C15 ^ 47 * 0x9E3779B97F4A7C15 + 0xEFCFECB6D7E971BF) / 2 ^ 64 * 2 ^ 64
leaving_cancels = refl

-- the value of the window one byte later, as it is computed
pub window_value-rolled : (leaving entering : ℕ) (kept : List ℕ) → length kept ≡ 47 →
    (((window_value (leaving ∷ kept) * 0x9E3779B97F4A7C15) % 2 ^ 64 + (leaving * 0xEFCFECB6D7E971BF) % 2 ^ 64) % 2 ^ 64 + entering) % 2 ^ 64
    ≡ window_value (kept ++ entering ∷ [])
unfolding window_value weighted_sum
window_value-rolled leaving entering kept h =
    rolled_value leaving entering (weighted_sum (leaving ∷ kept)) (0x9E3779B97F4A7C15 ^ 47) (weighted_sum kept)
    0x9E3779B97F4A7C15 0xEFCFECB6D7E971BF
    ((0x9E3779B97F4A7C15 ^ 47 * 0x9E3779B97F4A7C15 + 0xEFCFECB6D7E971BF) / 2 ^ 64) (2 ^ 64)
    leaving_cancels
    (ap (λ n. leaving * 0x9E3779B97F4A7C15 ^ n + weighted_sum kept) h)
    ∙ ap (λ n. n % 2 ^ 64) (sym (weighted_sum-push kept entering))

-- what two windows that end one byte apart have in common
pub kept_at : List ℕ → ℕ → List ℕ
kept_at bytes n = drop (n - 47) (take n bytes)

module _ (bytes : List ℕ) (n : ℕ) (long : 48 ≤ n) where
  pub length-kept_at : n ≤ length bytes → length (kept_at bytes n) ≡ 47
  unfolding kept_at
  length-kept_at h = omega (arith, length-drop (n - 47) (take n bytes), length-take-le n bytes h)

  pub window_at-first : n ≤ length bytes → window_at bytes n ≡ get_or bytes (n - 48) 0 ∷ kept_at bytes n
  unfolding window_at kept_at
  window_at-first h =
      let inside : n - 48 < length (take n bytes) = omega (arith, length-take-le n bytes h) in
      let before : n - 48 < n = omega arith in
      let next : suc (n - 48) ≡ n - 47 = omega arith in
      rw (drop-cons (take n bytes) (n - 48) 0 inside, next, get_or-take n bytes (n - 48) 0 before)

  pub window_at-next : n < length bytes → window_at bytes (n + 1) ≡ kept_at bytes n ++ get_or bytes n 0 ∷ []
  unfolding window_at kept_at
  window_at-next h =
      let inside : n - 47 ≤ length (take n bytes) = omega (arith, length-take-le n bytes (omega arith)) in
      let start : n + 1 - 48 ≡ n - 47 = omega arith in
      rw (start, take_more bytes n 0 h, drop-append-le (n - 47) (take n bytes) (get_or bytes n 0 ∷ []) inside)
