-- What a collection that runs alone changes, and how it ends (docs/MODEL.md, 'The core').
use Rattle.std.specs.Prelude.{◌≡◌, ℕ, ◌+◌, List, [], ◌∷◌, length}
use Rattle.store_model.specs.Freeing.{with_freed}
use Rattle.store_model.specs.Image.{Store}
use Rattle.store_model.specs.Reserve.{IsSpare}
use Rattle.store_model.specs.Steps.{CanFlush, FlushContainer, FreeContainer, StoreChange, with_sealed}

-- What a collection changes alone, one after the other: a container is given back that holds the newest copy of no key of which P holds, or
-- one of copies is written beside a slot to spare.
abbrev pub SweepsSpare : (List ℕ → Type 0) → List StoreChange → Store → Store → Type 0
SweepsSpare P [] s t = t ≡ s
SweepsSpare P (FreeContainer slot ∷ more) s t = IsSpare P s.held slot × SweepsSpare P more (with_freed slot s) t
SweepsSpare P (FlushContainer id kind segments ∷ more) s t =
    CanFlush id kind segments s × SweepsSpare P more (with_sealed id kind segments s) t
SweepsSpare P (change ∷ more) s t = ⊥

-- how many containers changes give back, and how many segments those have that they write
abbrev pub freed_in : List StoreChange → ℕ
freed_in [] = 0
freed_in (FreeContainer slot ∷ more) = 1 + freed_in more
freed_in (change ∷ more) = freed_in more

abbrev pub copied_in : List StoreChange → ℕ
copied_in [] = 0
copied_in (FlushContainer id kind segments ∷ more) = length segments + copied_in more
copied_in (change ∷ more) = copied_in more
