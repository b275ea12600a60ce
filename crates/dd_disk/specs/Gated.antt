-- What a write of a cell or a container may leave.
use Rattle.std.specs.Prelude.{◌≡◌, ◌⊎◌, ℕ, ◌+◌, ◌-◌, List, ◌∷◌, length, drop}
use Rattle.base_model.specs.Bytes.{written}
use Rattle.dd_disk.specs.Writes.{Torn}

-- From an image old, of a disk that gives these bytes: the bytes after the gate are torn; or all of them stand, on what
-- the disk returned, with some gate before them.
abbrev pub TornFrom : ℕ → List ℕ → List ℕ → List ℕ → List ℕ → Type 0
TornFrom at cell bytes old new =
    Torn (at + 1) (length cell - 1) old new ⊎ ((gate : ℕ) × (new ≡ written at (gate ∷ drop 1 cell) bytes))

-- from what the disk returned
abbrev pub CellTorn : ℕ → List ℕ → List ℕ → List ℕ → Type 0
CellTorn at cell old new = TornFrom at cell old old new
