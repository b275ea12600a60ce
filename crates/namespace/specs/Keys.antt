-- The entries of a map whose keys are byte vectors, as contracts see them.
use Rattle.std.specs.Prelude.{ℕ, List, [], ◌∷◌, Vec}

-- each key as its bytes
abbrev pub by_bytes : {X A : Type 0} → List (Vec ℕ A × X) → List (List ℕ × X)
by_bytes [] = []
by_bytes (e ∷ es) = (e.0.items, e.1) ∷ by_bytes es
