-- The puts of names, by their sequence numbers (docs/MODEL.md, 'Names').
use Rattle.std.specs.Prelude.{ℕ, List, [], ◌∷◌, map, nat_lt, if◌then◌else◌}
use Rattle.std.specs.FinMap as finite
use Rattle.disk_format.specs.Cells.{RecordValue}
use Rattle.namespace.specs.Names.{NameMap, put_of}

-- a value among others, before the first whose number is not lower
abbrev pub among_by : {X : Type 0} → (X → ℕ) → X → List X → List X
among_by number x [] = x ∷ []
among_by number x (y ∷ ys) = if nat_lt (number y) (number x) then y ∷ among_by number x ys else x ∷ y ∷ ys

-- by their numbers, the lowest first; those of one number keep their order
abbrev pub sorted_by : {X : Type 0} → (X → ℕ) → List X → List X
sorted_by number [] = []
sorted_by number (x ∷ xs) = among_by number x (sorted_by number xs)

-- the puts that give names what they have, by their sequence numbers
unfoldable pub puts_of : NameMap → List RecordValue
puts_of names = sorted_by (λ r. r.sequence) (map put_of (finite.entries names))
