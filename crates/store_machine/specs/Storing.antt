-- What an `ingest` adds to a store: pieces of its file, each of them once (docs/MODEL.md, 'The promise'). And what the store has of them.
use Rattle.std.specs.Prelude.{◌≡◌, ◌≤◌, ℕ, suc, List, [], ◌∷◌, ◌++◌, length, None}
use Rattle.std.specs.List.{AllByRecursion}
use Rattle.container_meta.specs.Segments.{segment_key}
use Rattle.disk_format.specs.declared.numbers.TheConstants.{MOST_FILE}
use Rattle.script_lines.specs.Grammar.{LineValue}
use Rattle.script_lines.specs.Grammar as lines
use Rattle.store_model.specs.Image.{Store}
use Rattle.store_model.specs.Pieces.{HasPieceOf, IsPieceOf, Piece, piece_key, piece_segment}
use Rattle.store_model.specs.Slots.{last_id, newest}
use Rattle.store_model.specs.Steps.{StoreChange, SealContainer, ChangeName, FlushContainer, FreeContainer, with_sealed}
use Rattle.store_machine.specs.Asked.{Asked}
use Rattle.store_machine.specs.Asked as asked
use Rattle.store_machine.specs.Needs.{HasLength}
use Rattle.store_machine.specs.Offers.{AllSegments}

-- Containers are added, each under the next id, with pieces of the file that no container before it holds.
abbrev pub AddsOnce : List ℕ → List StoreChange → Store → Type 0
AddsOnce given [] store = Unit {0}
AddsOnce given (SealContainer id kind segments ∷ rest) store =
    (id ≡ suc (last_id store.held))
    × AllByRecursion (λ s. HasPieceOf given (record { kind = kind; segment = s }) × (newest 0 store.held (segment_key kind s) ≡ None))
    segments
    × AddsOnce given rest (with_sealed id kind segments store)
AddsOnce given (ChangeName name change ∷ rest) store = ⊥
AddsOnce given (FlushContainer id kind segments ∷ rest) store = ⊥
AddsOnce given (FreeContainer slot ∷ rest) store = ⊥

-- The file is no longer than one may be, and the store has a copy of each piece of it, as long as that.
abbrev pub HoldsFile : List ℕ → Store → Type 0
HoldsFile file store = (length file ≤ MOST_FILE) × ((p : Piece) → IsPieceOf file p → HasLength store (piece_segment p))

-- it has none of a piece of it
abbrev pub LacksPiece : List ℕ → Store → Type 0
LacksPiece file store = (p : Piece) × (IsPieceOf file p × (newest 0 store.held (piece_key p) ≡ None))

-- what is claimed is a piece of it, and so is each of what is offered
abbrev pub AsksPieces : List ℕ → Asked (List ℕ) → Type 0
AsksPieces file (asked.Claim seg) = HasPieceOf file seg
AsksPieces file (asked.Seal offered) = AllSegments (λ kind s. HasPieceOf file (record { kind = kind; segment = s })) offered
AsksPieces file step = ⊥

-- these bytes may come still, after this line: none once the file is to end
abbrev pub MayCome : List ℕ → LineValue → Type 0
MayCome more (lines.Finish a) = more ≡ []
MayCome more (lines.Commit a name) = more ≡ []
MayCome more line = Unit {0}

-- P holds of the file, however it goes on after this line from what was given
abbrev pub OfWhole : List ℕ → LineValue → (List ℕ → Type 0) → Type 0
OfWhole given line P = (more : List ℕ) → MayCome more line → P (given ++ more)
