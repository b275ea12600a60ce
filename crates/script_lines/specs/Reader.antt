-- A reader that takes a script from a source line by line (docs/FORMAT.md, 'Scripts').
use Rattle.std.specs.Prelude.{◌≡◌, ◌⊎◌, ◌<◌, ◌≤◌, ◌+◌, ℕ, List, [], ◌∷◌, ◌++◌, length, Option, Some, None}
use Rattle.std.specs.List.{flat_map, AllZip}
use Rattle.base_model.specs.Known.{Known}
use Rattle.script_lines.specs.declared.script.TheConstants.{MOST_LINE, MOST_SCRIPT}
use Rattle.script_lines.specs.declared.reader.TheConstants.{PIECE}
use Rattle.script_lines.specs.declared.reader.NextLine.{NextLine}
use Rattle.script_lines.specs.declared.reader.NextLine.TheVariants.{Line, End, Wrong, TooMany}
use Rattle.script_lines.specs.Grammar.{LineValue, IsLine}
use Rattle.script_lines.specs.Script.{HasNoLineEnd, ended, IsRightLine, IsScript, Begins, Breaks, Overruns}

-- what contracts see of a reader
pub record ReaderState : Type 0 where
  -- the bytes that were read from the source and not taken yet
  pub ready : List ℕ
  -- the line in hand
  pub line : List ℕ
  -- how many bytes of the script were taken
  pub taken : ℕ

-- the places of a reader: in the piece that it read, in the line, and in the script
pub record IsWithin (at end length taken : ℕ) : Type 0 where
  pub started : at ≤ end
  pub piece : end ≤ PIECE
  pub line : length ≤ MOST_LINE
  pub script : taken ≤ MOST_SCRIPT

-- no byte was taken
abbrev pub fresh_reader : ReaderState
fresh_reader = record { ready = []; line = []; taken = 0 }

-- what is to come of a script, where its source has these bytes left
abbrev pub to_come : ReaderState → List ℕ → List ℕ
to_come reader left = reader.ready ++ left

-- These bytes were taken of those that were to come, and the others are to come. The source tells what it has left, if it did.
pub record TakesOff (bytes : List ℕ) (old new : ReaderState) (left now : Option (List ℕ)) : Type 0 where
  pub rest : Known left (λ all. (rest : List ℕ) × (now ≡ Some rest) × (to_come old all ≡ bytes ++ to_come new rest))
  pub counted : new.taken ≡ old.taken + length bytes
  pub within : new.taken ≤ MOST_SCRIPT

-- nothing is to come: the source has nothing left, and tells that, if it told what it had before
pub record IsOut (reader : ReaderState) (left now : Option (List ℕ)) : Type 0 where
  pub none_ready : reader.ready ≡ []
  pub none_left : Known left (λ all. now ≡ Some [])

-- ---- a line in hand, or its first part

-- it isn't too long, and no byte of it is LF
pub record IsPart (line : List ℕ) : Type 0 where
  pub short : length line ≤ MOST_LINE
  pub not_ended : HasNoLineEnd line

-- since a first state, these bytes of the line were taken
pub record IsInLine (first reader : ReaderState) (begun left : Option (List ℕ)) : Type 0 where
  pub takes : TakesOff reader.line first reader begun left
  pub part : IsPart reader.line

-- ---- what comes next

-- the script has ended
pub record IsEnd (old new : ReaderState) (left now : Option (List ℕ)) : Type 0 where
  pub takes : TakesOff [] old new left now
  pub out : IsOut new left now

-- the bytes before LF or the end of the source are too many for a line, or some, and then nothing is to come
pub record IsWrong (old new : ReaderState) (left now : Option (List ℕ)) : Type 0 where
  pub front : List ℕ
  pub takes : TakesOff front old new left now
  pub not_ended : HasNoLineEnd front
  pub bad : (MOST_LINE < length front) ⊎ ((1 ≤ length front) × IsOut new left now)

-- the first part of a line was taken, up to the limit of a script, and more is to come
pub record IsTooMany (old new : ReaderState) (left now : Option (List ℕ)) : Type 0 where
  pub takes : TakesOff new.line old new left now
  pub full : new.taken ≡ MOST_SCRIPT
  pub more : 1 ≤ length new.ready

-- what a reader says comes next
abbrev pub IsNext : NextLine → ReaderState → ReaderState → Option (List ℕ) → Option (List ℕ) → Type 0
IsNext Line old new left now = TakesOff (ended new.line) old new left now
IsNext End old new left now = IsEnd old new left now
IsNext Wrong old new left now = IsWrong old new left now
IsNext TooMany old new left now = IsTooMany old new left now

-- what is known once a byte more was looked at: what comes next, or that the line goes on
abbrev pub IsTold : Option NextLine → ReaderState → ReaderState → Option (List ℕ) → Option (List ℕ) → Type 0
IsTold None first new begun now = IsInLine first new begun now
IsTold (Some next) first new begun now = IsNext next first new begun now × IsPart new.line

-- ---- a whole script

-- From a source that had `first` left a reader took the right lines of these values, each ended, and no more.
pub record HasRead (first : Option (List ℕ)) (values : List LineValue) (reader : ReaderState) (left : Option (List ℕ))
    : Type 0 where
  pub lines : List (List ℕ)
  pub right : AllZip IsRightLine values lines
  pub rest : Known first (λ all. (rest : List ℕ) × (left ≡ Some rest) × (all ≡ flat_map ended lines ++ to_come reader rest))
  pub counted : reader.taken ≡ length (flat_map ended lines)
  pub within : reader.taken ≤ MOST_SCRIPT

-- The bytes that a source gave have P. They are all that it had left, where it told these.
pub record Given (first : Option (List ℕ)) (P : List ℕ → Type 0) : Type 0 where
  pub bytes : List ℕ
  pub told : Known first (λ all. bytes ≡ all)
  pub is : P bytes

-- What a reader says tells whether the bytes of a source are a script, and else how they break, or that they go on for too long.
-- Where the source tells nothing, this is so of the bytes that were taken, with what was ready after them.
pub record ReadsTellScripts : Type 0 where
  pub fresh : (left : Option (List ℕ)) → HasRead left [] fresh_reader left
  pub begins : (first left : Option (List ℕ)) (values : List LineValue) (reader : ReaderState) → HasRead first values reader left
      → Known first (λ bytes. (rest : List ℕ) × (left ≡ Some rest) × Begins bytes values (to_come reader rest)
      × (length bytes ≡ reader.taken + length (to_come reader rest)))
  pub so_far : (first left : Option (List ℕ)) (values : List LineValue) (reader : ReaderState) → HasRead first values reader left
      → Given first (λ bytes. (rest : List ℕ) × Begins bytes values rest)
  pub line : (first left now : Option (List ℕ)) (values : List LineValue) (value : LineValue) (old new : ReaderState)
      → HasRead first values old left → IsNext Line old new left now → IsPart new.line → IsLine value new.line
      → HasRead first (values ++ (value ∷ [])) new now
  pub last : (first left now : Option (List ℕ)) (values : List LineValue) (old new : ReaderState)
      → HasRead first values old left → IsNext End old new left now → Given first (λ bytes. IsScript bytes values)
  pub no_line : (first left now : Option (List ℕ)) (values : List LineValue) (old new : ReaderState)
      → HasRead first values old left → IsNext Line old new left now → IsPart new.line
      → ((value : LineValue) → ¬ (IsLine value new.line)) → Given first (λ bytes. Breaks bytes values)
  pub wrong : (first left now : Option (List ℕ)) (values : List LineValue) (old new : ReaderState)
      → HasRead first values old left → IsNext Wrong old new left now → Given first (λ bytes. Breaks bytes values)
  pub too_many : (first left now : Option (List ℕ)) (values : List LineValue) (old new : ReaderState)
      → HasRead first values old left → IsNext TooMany old new left now → IsPart new.line
      → Given first (λ bytes. Overruns bytes values)
  pub stopped : (first left now : Option (List ℕ)) (values : List LineValue) (part : List ℕ) (old new : ReaderState)
      → HasRead first values old left → TakesOff part old new left now
      → Given first (λ bytes. (rest : List ℕ) × Begins bytes values (part ++ rest))
