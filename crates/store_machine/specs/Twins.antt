-- Where a segment lacks a pin, two pieces of what its actor gives have one SHA-256 (docs/MODEL.md, 'The machine').
use Rattle.std.specs.Prelude.{◌≡◌, ◌≢◌, ◌⊎◌, ◌++◌, ℕ, Bool, true, List, [], ◌∷◌, Some}
use Rattle.refusals.specs.declared.refusal.Refusal.TheVariants.{Unpinned}
use Rattle.script_lines.specs.ReplyValue as replies
use Rattle.store_model.specs.Pieces.{Piece, Data, Node, IsPieceOf, piece_bytes, piece_key}
use Rattle.store_model.specs.Standing.{IsSegmentOf}
use Rattle.store_machine.specs.Commands.{Lines, Replied, desk}
use Rattle.store_machine.specs.Lines.{Desk, Session, session_of}
use Rattle.store_machine.specs.Machine.{Machine, Stepped, all_idle}
use Rattle.store_machine.specs.Values.{Values}

-- A segment that is cut by now of a file that begins so: of each that goes on from there, or of it if it has ended. Or a node of the tree
-- of what was given so far.
abbrev pub IsOfGiven : List ℕ → Bool → Piece → Type 0
IsOfGiven given ended (Data bytes) = (more : List ℕ) → (ended ≡ true → more ≡ []) → IsSegmentOf (given ++ more) bytes
IsOfGiven given ended (Node n) = IsPieceOf given (Node n)

-- two pieces of a file are of different bytes, and have one key
pub record PiecesAreTwins (file key : List ℕ) : Type 0 where
  pub one : Piece
  pub other : Piece
  pub one_of : IsPieceOf file one
  pub other_of : IsPieceOf file other
  pub differ : piece_bytes one ≢ piece_bytes other
  pub one_key : key ≡ piece_key one
  pub other_key : key ≡ piece_key other

-- Two of them are of different bytes, and have one key: they are two segments, or two nodes, of one SHA-256. And however the file goes on
-- two pieces of it are.
pub record HasTwins (given : List ℕ) (ended : Bool) (key : List ℕ) : Type 0 where
  pub one : Piece
  pub other : Piece
  pub one_of : IsOfGiven given ended one
  pub other_of : IsOfGiven given ended other
  pub differ : piece_bytes one ≢ piece_bytes other
  pub one_key : key ≡ piece_key one
  pub other_key : key ≡ piece_key other
  pub whole : (more : List ℕ) → (ended ≡ true → more ≡ []) → PiecesAreTwins (given ++ more) key

module _ {V R : Type 0} (v : Values V R) where
  -- some actor of the desk gives it
  abbrev pub IsGivenAt : Desk V R → Piece → Type 0
  IsGivenAt d p = (actor : ℕ) × (s : Session) × (session_of v d actor ≡ Some s) × IsOfGiven s.given s.ended p

  -- so it is as one of these lines begins
  abbrev pub IsGivenIn : (rs : List Replied) (ss : List (Stepped V)) (d e : Desk V R) → Lines v rs ss d e → Piece → Type 0
  IsGivenIn [] ss d e ran p = ⊥
  IsGivenIn (one ∷ more) ss d e ran p = IsGivenAt d p ⊎ IsGivenIn more ran.1 ran.2 e ran.5 p

  -- some actor of the desk gives twins
  abbrev pub GivesTwins : Desk V R → List ℕ → Type 0
  GivesTwins d key = (actor : ℕ) × (s : Session) × (session_of v d actor ≡ Some s) × HasTwins s.given s.ended key

  -- as each line begins that is refused since a segment lacks a pin
  abbrev pub UnpinnedByTwins : (rs : List Replied) (ss : List (Stepped V)) (d e : Desk V R) → Lines v rs ss d e → Type 0
  UnpinnedByTwins [] ss d e ran = Unit {0}
  UnpinnedByTwins (one ∷ more) ss d e ran =
      ((key : List ℕ) → one.reply ≡ replies.Refused (Unpinned key) → GivesTwins d key) × UnpinnedByTwins more ran.1 ran.2 e ran.5

  -- So it is of lines that begin where no actor is at anything, and none gives a file: each child of a node that is claimed or sealed, and
  -- the root that is named, was answered Held, or sealed, before, and its key has its pin, or that of a twin.
  abbrev pub UnpinnedHasTwins : Type 0
  UnpinnedHasTwins = (rs : List Replied) (ss : List (Stepped V)) (m : Machine V R) (e : Desk V R) → m.parts ≡ all_idle
      → (ran : Lines v rs ss (desk m) e) → UnpinnedByTwins rs ss (desk m) e ran
