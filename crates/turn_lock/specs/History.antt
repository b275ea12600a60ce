-- Turns that were made, the first of them first (docs/MODEL.md, 'Turns of threads').
use Rattle.std.specs.Prelude.{◌≡◌, ℕ, ◌+◌, ◌==◌, nat_lt, if◌then◌else◌, List, [], ◌∷◌, ◌++◌}
use Rattle.turn_lock.specs.declared.history.Turn.{Turn}

module _ {C : Type 0} where
  -- what they have left of what was there at first
  abbrev pub last_of : C → List (Turn C) → C
  last_of opening [] = opening
  last_of opening (t ∷ ts) = last_of t.value ts

  -- each of them could be made of what those before it have left
  abbrev pub IsHistory : (ℕ → C → C → Type 0) → C → List (Turn C) → Type 0
  IsHistory makes opening [] = Unit {0}
  IsHistory makes opening (t ∷ ts) = makes t.by opening t.value × IsHistory makes t.value ts

  -- how many of them are of this number
  abbrev pub turns_by : ℕ → List (Turn C) → ℕ
  turns_by x [] = 0
  turns_by x (t ∷ ts) = (if t.by == x then 1 else 0) + turns_by x ts

  abbrev pub turn_of : ℕ → C → Turn C
  turn_of by value = record { by = by; value = value }

  -- the second history goes on from the first
  abbrev pub Begins : List (Turn C) → List (Turn C) → Type 0
  Begins xs ys = (rest : List (Turn C)) × (ys ≡ xs ++ rest)

-- how often a number stands among these
abbrev pub times : ℕ → List ℕ → ℕ
times x [] = 0
times x (y ∷ ys) = (if y == x then 1 else 0) + times x ys

-- how often it stands among the numbers below n
abbrev pub once_below : ℕ → ℕ → ℕ
once_below x n = if nat_lt x n then 1 else 0
