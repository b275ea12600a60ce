-- Callers that get a desk, the last one first; and that get up again.
use Rattle.std.proofs.Common.{◌≡◌, ◌<◌, ℕ, zero, suc, List, [], ◌∷◌, ◌++◌, All, length, map, reverse, take, get_or, refl, sym, ap, ◌∙◌, subst, arith, append_assoc, length-append}
use Rattle.std.proofs.lemmas.List.{get_or_append_left, map-append, reverse-append}

pub seated : {W A : Type 0} (f : W → A) (ws : List W) (w : W) (old new : List A) (caller : A) (all : List A) → old ≡ new ++ caller ∷ [] → f w ≡ caller
    → map f ws ++ reverse old ≡ all → map f (ws ++ w ∷ []) ++ reverse new ≡ all
seated f ws w old new caller all is of so =
    ap (λ (l : List _). l ++ reverse new) (map-append f ws (w ∷ []))
    ∙ append_assoc (map f ws) (f w ∷ []) (reverse new)
    ∙ ap (λ (x : _). map f ws ++ x ∷ reverse new) of
    ∙ ap (λ (l : List _). map f ws ++ l) (sym (ap reverse is ∙ reverse-append new (caller ∷ [])))
    ∙ so

-- all but the last
pub all_fewer : {X : Type 0} (P : X → Type 0) (xs ys : List X) (x : X) → ys ≡ xs ++ x ∷ [] → All P ys → All P xs
all_fewer P xs ys x is all k d below =
    let same : get_or ys k d ≡ get_or xs k d = ap (λ (l : List _). get_or l k d) is ∙ get_or_append_left xs (x ∷ []) d k below in
    let many = ap length is ∙ length-append xs (x ∷ []) in
    subst P same (all k d (omega (arith, many, below)))

-- and the last
pub all_last : {X : Type 0} (P : X → Type 0) (xs ys : List X) (x : X) → ys ≡ xs ++ x ∷ [] → All P ys → P x
all_last {X} P xs ys x is all =
    let many = ap length is ∙ length-append xs (x ∷ []) in
    subst P (ap (λ (l : List X). get_or l (length xs) x) is ∙ last_of xs) (all (length xs) x (omega (arith, many)))
  where
    last_of : (l : List X) → get_or (l ++ x ∷ []) (length l) x ≡ x
    last_of [] = refl
    last_of (y ∷ l) = last_of l

pub all_one : {X : Type 0} (P : X → Type 0) (x : X) → P x → All P (x ∷ [])
all_one P x is zero d below = is
all_one P x is (suc k) d below = absurd (omega (arith, below))

-- ---- lists in reverse

pub map_reversed : {X Y : Type 0} (f : X → Y) (xs : List X) → map f (reverse xs) ≡ reverse (map f xs)
map_reversed f [] = refl
map_reversed f (x ∷ xs) =
    ap (map f) (reverse-append (x ∷ []) xs) ∙ map-append f (reverse xs) (x ∷ []) ∙ ap (λ (l : List _). l ++ f x ∷ []) (map_reversed f xs)
    ∙ sym (reverse-append (f x ∷ []) (map f xs))

-- what stands at a place
pub map_at : {X Y : Type 0} (f : X → Y) (xs : List X) (k : ℕ) (d : Y) → k < length xs → (x : X) × ((e : X) → get_or xs k e ≡ x) × (get_or (map f xs) k d ≡ f x)
map_at f [] k d below = absurd (omega (arith, below))
map_at f (x ∷ xs) zero d below = (x, λ e. refl, refl)
map_at f (x ∷ xs) (suc k) d below = map_at f xs k d (omega (arith, below))

-- a list whose elements were all written anew
pub written : {X : Type 0} (many : ℕ) (xs rest : List X) → many ≡ length xs → take many (xs ++ rest) ≡ xs
written {X} many xs rest is = subst (λ (n : ℕ). take n (xs ++ rest) ≡ xs) (sym is) (all_of xs)
  where
    all_of : (l : List X) → take (length l) (l ++ rest) ≡ l
    all_of [] = refl
    all_of (x ∷ l) = ap (λ (t : List X). x ∷ t) (all_of l)
