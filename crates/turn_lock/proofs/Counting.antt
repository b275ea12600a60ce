-- Numbers below a bound, none twice, as many as there are: each is there.
use Rattle.std.proofs.Common.{◌≡◌, ℕ, zero, suc, ◌+◌, ◌<◌, ◌≤◌, List, [], ◌∷◌, length, refl, sym, ap, ◌∙◌, subst, Bool, true, false, arith, eq-eqb, ne_eqb, nat_lt, le-ltb, lt_of_not-le, if◌then◌else◌}
use mathlib.Core.Logic.{dite}
use native.Mathlib.Decide.{ℕ_discrete, dec_lt, dec_le}
use Rattle.turn_lock.specs.History.{times, once_below}

-- how many of them are below g
abbrev upto : ℕ → List ℕ → ℕ
upto zero ns = 0
upto (suc g) ns = upto g ns + times g ns

below_most : (x g : ℕ) → once_below x g ≤ 1
below_most x g = most (nat_lt x g)
  where
    most : (b : Bool) → (if b then 1 else 0) ≤ 1
    most true = omega arith
    most false = omega arith

upto_most : (g : ℕ) (ns : List ℕ) → ((x : ℕ) → times x ns ≤ 1) → upto g ns ≤ g
upto_most zero ns h = omega arith
upto_most (suc g) ns h = let a = upto_most g ns h in let b = h g in omega arith

upto_less : (g : ℕ) (ns : List ℕ) (x : ℕ) → ((y : ℕ) → times y ns ≤ 1) → x < g → times x ns ≡ 0 → upto g ns < g
upto_less zero ns x h l none_there = absurd (omega arith)
upto_less (suc g) ns x h l none_there = dite (ℕ_discrete g x)
    (λ e. let a = upto_most g ns h in let b : times g ns ≡ 0 = ap (λ k. times k ns) e ∙ none_there in omega arith)
    (λ ne. let a = upto_less g ns x h (omega arith) none_there in let b = h g in omega arith)

upto_none : (g : ℕ) → upto g [] ≡ 0
upto_none zero = refl
upto_none (suc g) = let a = upto_none g in omega arith

upto_past : (g y : ℕ) (ns : List ℕ) → g ≤ y → upto g (y ∷ ns) ≡ upto g ns
upto_past zero y ns l = refl
upto_past (suc g) y ns l = let a = upto_past g y ns (omega arith) in let b : times g (y ∷ ns) ≡ 0 + times g ns = ap (λ b. (if b then 1 else 0) + times g ns) (ne_eqb y g
    (λ e. absurd (omega arith))) in omega arith

upto_here : (g y : ℕ) (ns : List ℕ) → y < g → upto g (y ∷ ns) ≡ upto g ns + 1
upto_here zero y ns l = absurd (omega arith)
upto_here (suc g) y ns l = dite (ℕ_discrete y g)
    (λ e. let a = upto_past g y ns (omega arith) in let b : times g (y ∷ ns) ≡ 1 + times g ns = ap (λ b. (if b then 1 else 0) + times g ns) (eq-eqb y g e) in omega arith)
    (λ ne. let a = upto_here g y ns (omega arith) in let b : times g (y ∷ ns) ≡ 0 + times g ns = ap (λ b. (if b then 1 else 0) + times g ns) (ne_eqb y g ne) in omega arith)

has_head : (y : ℕ) (ns : List ℕ) → 1 ≤ times y (y ∷ ns)
has_head y ns = subst (λ b. 1 ≤ (if b then 1 else 0) + times y ns) (sym (eq-eqb y y refl)) (omega arith)

below : (x g : ℕ) → 1 ≤ once_below x g → x < g
below x g l = dite (dec_lt x g) (λ k. k) (λ no. let z : once_below x g ≡ 0 = ap (λ b. if b then 1 else 0) (le-ltb x g (omega arith)) in absurd (omega arith))

upto_all : (g : ℕ) (ns : List ℕ) → ((x : ℕ) → 1 ≤ times x ns → x < g) → upto g ns ≡ length ns
upto_all g [] h = upto_none g
upto_all g (y ∷ ns) h = let a = upto_all g ns (λ x l. h x (more x y ns l)) in let b = upto_here g y ns (h y (has_head y ns)) in omega arith
  where
    more : (x y : ℕ) (ns : List ℕ) → 1 ≤ times x ns → 1 ≤ times x (y ∷ ns)
    more x y ns l = omega arith

pub each_there : (ns : List ℕ) (g : ℕ) → ((x : ℕ) → times x ns ≤ once_below x g) → g ≤ length ns → (x : ℕ) → times x ns ≡ 0 → g ≤ x
each_there ns g h many x none_there = dite (dec_le g x) (λ l. l) (λ no.
    let l = lt_of_not-le no in
    let a = upto_all g ns (λ y k. below y g (let b = h y in omega arith)) in
    let c = upto_less g ns x (λ y. let b = h y in let m = below_most y g in omega arith) l none_there in
    absurd (omega arith))
