-- Steps of the machine, one after the other.
use Rattle.std.specs.Prelude.{◌≡◌, ◌⊎◌, ◌≤◌, ℕ, List, [], ◌∷◌}
use Rattle.store_machine.specs.Legal.{Legal}
use Rattle.store_machine.specs.Machine.{Found, Machine, Stepped}
use Rattle.store_machine.specs.Opening.{MayBeFound}
use Rattle.store_machine.specs.Values.{Values}

module _ {V R : Type 0} (v : Values V R) where
  abbrev pub Run : List (Stepped V) → Machine V R → Machine V R → Type 0
  Run [] m n = n ≡ m
  Run (s ∷ ss) m n = (mid : Machine V R) × (Legal v s m mid × Run ss mid n)

  -- what may be found at a machine of the run, whose last number is this one or a later one
  abbrev pub IsPassedFrom : ℕ → (ss : List (Stepped V)) (m n : Machine V R) → Run ss m n → Found V → Type 0
  IsPassedFrom first [] m n run found = (first ≤ m.now.last) × MayBeFound v m.state m.now found
  IsPassedFrom first (s ∷ ss) m n run found =
      ((first ≤ m.now.last) × MayBeFound v m.state m.now found) ⊎ IsPassedFrom first ss run.0 n run.1.1 found
