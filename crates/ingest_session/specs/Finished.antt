-- The finished nodes that a builder still has, and those that stand in line.
use Rattle.std.specs.Prelude.{List, [], ◌∷◌, Option, Some, None}
use Rattle.merkle_file.specs.Building.{Progress}

abbrev pub first_of : {X : Type 0} → List X → Option X
first_of [] = None
first_of (x ∷ xs) = Some x

-- a builder whose finished nodes were taken
abbrev pub without_nodes : Progress → Progress
without_nodes built = record built { finished = [] }
