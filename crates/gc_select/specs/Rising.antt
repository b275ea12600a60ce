-- Numbers, the lowest first.
use Rattle.std.specs.Prelude.{ℕ, List, [], ◌∷◌, nat_lt, if◌then◌else◌}

-- a number among numbers that rise, before the first that is not lower
abbrev pub among : ℕ → List ℕ → List ℕ
among n [] = n ∷ []
among n (m ∷ ms) = if nat_lt m n then m ∷ among n ms else n ∷ m ∷ ms

-- numbers, the lowest first, each as often as the list has it
abbrev pub rising : List ℕ → List ℕ
rising [] = []
rising (n ∷ ns) = among n (rising ns)
