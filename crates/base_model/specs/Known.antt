-- Values that are known of some disks, sources and sinks alone.
use Rattle.std.specs.Prelude.{◌≡◌, List, ℕ, Option, Some, ◌++◌}

-- P holds of the value, where it is known
abbrev pub Known : Option (List ℕ) → (List ℕ → Type 0) → Type 0
Known known P = (value : List ℕ) → known ≡ Some value → P value

-- the value is known, and has P
abbrev pub KnownWith : Option (List ℕ) → (List ℕ → Type 0) → Type 0
KnownWith known P = (value : List ℕ) × (known ≡ Some value) × P value

-- bytes were added at the end, where it is known what was written
pub record Appended (before now : Option (List ℕ)) (bytes : List ℕ) : Type 0 where
  pub is : Known before (λ old. now ≡ Some (old ++ bytes))
