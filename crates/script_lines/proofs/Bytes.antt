-- Bytes before and after the first space.
use Rattle.std.proofs.Common.{◌≡◌, ℕ, cond, eqb, List, [], ◌∷◌, ◌++◌, Option, Some, None, refl}
use Rattle.std.specs.List.{list_any}
use Rattle.std.proofs.lemmas.Bool.{or_parts}
use Rattle.std.proofs.lemmas.List.{append_assoc}
use Rattle.script_lines.specs.Grammar.{HasNoSpace}

-- the bytes before the first space, or all where there is none
abbrev pub before_space : List ℕ → List ℕ
before_space [] = []
before_space (byte ∷ bytes) = cond (eqb byte 32) [] (byte ∷ before_space bytes)

-- the bytes after the first space, where there is one
abbrev pub after_space : List ℕ → Option (List ℕ)
after_space [] = None
after_space (byte ∷ bytes) = cond (eqb byte 32) (Some bytes) (after_space bytes)

pub before-word : (word rest : List ℕ) → HasNoSpace word → before_space (word ++ (32 ∷ rest)) ≡ word
before-word [] rest none = refl
before-word (byte ∷ word) rest none =
    let parts = or_parts (eqb byte 32) (list_any (λ b. eqb b 32) word) none in
    rw (parts.0, before-word word rest parts.1) refl

pub after-word : (word rest : List ℕ) → HasNoSpace word → after_space (word ++ (32 ∷ rest)) ≡ Some rest
after-word [] rest none = refl
after-word (byte ∷ word) rest none =
    let parts = or_parts (eqb byte 32) (list_any (λ b. eqb b 32) word) none in
    rw (parts.0, after-word word rest parts.1) refl

pub before-all : (word : List ℕ) → HasNoSpace word → before_space word ≡ word
before-all [] none = refl
before-all (byte ∷ word) none =
    let parts = or_parts (eqb byte 32) (list_any (λ b. eqb b 32) word) none in
    rw (parts.0, before-all word parts.1) refl

pub after-all : (word : List ℕ) → HasNoSpace word → after_space word ≡ None
after-all [] none = refl
after-all (byte ∷ word) none =
    let parts = or_parts (eqb byte 32) (list_any (λ b. eqb b 32) word) none in
    rw (parts.0, after-all word parts.1) refl

-- a word, a number and the rest, put together either way
pub grouped : (word number rest : List ℕ) → ((word ++ number) ++ (32 ∷ [])) ++ rest ≡ word ++ (number ++ (32 ∷ rest))
grouped word number rest = simp append_assoc
