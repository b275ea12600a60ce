-- Scripts: their lines, and how bytes that are read line by line are one, or break (docs/FORMAT.md, 'Scripts').
use Rattle.std.specs.Prelude.{◌≡◌, ◌⊎◌, ◌<◌, ◌≤◌, ◌+◌, ◌==◌, ℕ, Bool, false, List, [], ◌∷◌, ◌++◌, length, take}
use Rattle.std.specs.List.{list_any, flat_map, count_by, slice_split, after_last, AllByRecursion, AllZip}
use Rattle.script_lines.specs.declared.script.TheConstants.{MOST_LINE, MOST_SCRIPT}
use Rattle.script_lines.specs.Grammar.{LineValue, IsLine}

-- ---- bytes, and the lines in them

-- the byte is LF
abbrev pub is_line_end : ℕ → Bool
is_line_end byte = byte == 10

-- no byte of them is LF
abbrev pub HasNoLineEnd : List ℕ → Type 0
HasNoLineEnd bytes = list_any is_line_end bytes ≡ false

-- a line, and the LF that ends it
abbrev pub ended : List ℕ → List ℕ
ended line = line ++ (10 ∷ [])

-- the lines that are ended, each without its LF: of the parts between LFs as many as there are LFs
abbrev pub lines_in : List ℕ → List (List ℕ)
lines_in bytes = take (count_by is_line_end bytes) (slice_split is_line_end bytes)

-- what stands after the last LF; all, where there is none
abbrev pub rest_in : List ℕ → List ℕ
rest_in bytes = after_last is_line_end bytes

-- Bytes are their lines, each ended, and then the rest; and so they are in one way: lines and a rest with no LF that spell them are
-- these.
pub record ScriptsAreClear : Type 0 where
  pub spelled : (bytes : List ℕ) → bytes ≡ flat_map ended (lines_in bytes) ++ rest_in bytes
  pub each : (bytes : List ℕ) → AllByRecursion HasNoLineEnd (lines_in bytes)
  pub last : (bytes : List ℕ) → HasNoLineEnd (rest_in bytes)
  pub one : (bytes : List ℕ) (lines : List (List ℕ)) (rest : List ℕ) → bytes ≡ flat_map ended lines ++ rest
      → AllByRecursion HasNoLineEnd lines → HasNoLineEnd rest → (lines ≡ lines_in bytes) × (rest ≡ rest_in bytes)

-- ---- right lines, and scripts

-- the line of this value, within the limit
pub record IsRightLine (value : LineValue) (line : List ℕ) : Type 0 where
  pub short : length line ≤ MOST_LINE
  pub is_line : IsLine value line

-- The script of these lines, within the limit: each line is ended and right, one for one.
pub record IsScript (bytes : List ℕ) (values : List LineValue) : Type 0 where
  pub short : length bytes ≤ MOST_SCRIPT
  pub to_end : rest_in bytes ≡ []
  pub right : AllZip IsRightLine values (lines_in bytes)

-- Right lines of these values come first, each ended, within the limit of a script; then comes what is left.
pub record Begins (bytes : List ℕ) (values : List LineValue) (left : List ℕ) : Type 0 where
  pub lines : List (List ℕ)
  pub spelled : bytes ≡ flat_map ended lines ++ left
  pub short : length (flat_map ended lines) ≤ MOST_SCRIPT
  pub right : AllZip IsRightLine values lines

-- ---- what breaks a script

-- of the lines that are ended, and the rest: the first line is no right one; or there is none, and a byte is left
abbrev pub IsBadFirst : List (List ℕ) → List ℕ → Type 0
IsBadFirst [] rest = 1 ≤ length rest
IsBadFirst (line ∷ lines) rest = (value : LineValue) → ¬ (IsRightLine value line)

-- What is left begins with a bad line: none of the grammar, or too long, or not ended.
abbrev pub IsBadLine : List ℕ → Type 0
IsBadLine left = IsBadFirst (lines_in left) (rest_in left)

-- the number of the line after these, from 1 on
abbrev pub number_after : List LineValue → ℕ
number_after values = length values + 1

-- Right lines of these values come first. Where the limit of a script is reached a part of one more has come, which isn't ended
-- and isn't too long; and then more bytes come.
pub record Overruns (bytes : List ℕ) (values : List LineValue) : Type 0 where
  pub part : List ℕ
  pub more : List ℕ
  pub begins : Begins bytes values (part ++ more)
  pub full : length bytes ≡ MOST_SCRIPT + length more
  pub some : 1 ≤ length more
  pub not_ended : HasNoLineEnd part
  pub short : length part ≤ MOST_LINE

-- Right lines of these values come first, and then a bad one, whose number is `number_after values`. The limit of a script does
-- not come before.
pub record Breaks (bytes : List ℕ) (values : List LineValue) : Type 0 where
  pub left : List ℕ
  pub begins : Begins bytes values left
  pub bad : IsBadLine left
  pub within : ¬ (Overruns bytes values)

-- how bytes end after right lines of these values
abbrev pub Ends : List ℕ → List LineValue → Type 0
Ends bytes values = IsScript bytes values ⊎ (Breaks bytes values ⊎ Overruns bytes values)

-- Bytes are a script, or a bad line breaks it, or they are too many: one of these. The right lines before are told in one way.
pub record ScriptsEndOrBreak : Type 0 where
  pub few : (bytes : List ℕ) → length bytes ≤ MOST_SCRIPT
      → ((values : List LineValue) × IsScript bytes values) ⊎ ((values : List LineValue) × Breaks bytes values)
  pub many : (bytes : List ℕ) → MOST_SCRIPT < length bytes
      → ((values : List LineValue) × Breaks bytes values) ⊎ ((values : List LineValue) × Overruns bytes values)
  pub not_both : (bytes : List ℕ) (values others : List LineValue) → IsScript bytes values → ¬ (Breaks bytes others)
  pub not_over : (bytes : List ℕ) (values others : List LineValue) → Breaks bytes values → ¬ (Overruns bytes others)
  pub one : (bytes : List ℕ) (values others : List LineValue) → Ends bytes values → Ends bytes others → values ≡ others

-- ---- reading

-- How bytes are read line by line. It begins with no line, and goes on by a right one; the lines before tell what is left. It
-- ends a script where nothing is left, and breaks at a line that is no right one, or has gone on for too long, or isn't ended.
-- What was read so far is within the limit.
pub record ScriptsAreReadByLine : Type 0 where
  pub first : (bytes : List ℕ) → Begins bytes [] bytes
  pub next : (bytes : List ℕ) (values : List LineValue) (value : LineValue) (line rest : List ℕ)
      → Begins bytes values (ended line ++ rest) → IsRightLine value line → length bytes ≤ MOST_SCRIPT + length rest
      → Begins bytes (values ++ (value ∷ [])) rest
  pub same_left : (bytes : List ℕ) (values : List LineValue) (left rest : List ℕ) → Begins bytes values left
      → Begins bytes values rest → left ≡ rest
  pub last : (bytes : List ℕ) (values : List LineValue) → Begins bytes values [] → IsScript bytes values
  pub wrong : (bytes : List ℕ) (values : List LineValue) (line rest : List ℕ) → Begins bytes values (ended line ++ rest)
      → HasNoLineEnd line → ((value : LineValue) → ¬ (IsRightLine value line)) → length bytes ≤ MOST_SCRIPT + length rest
      → Breaks bytes values
  pub too_long : (bytes : List ℕ) (values : List LineValue) (front rest : List ℕ) → Begins bytes values (front ++ rest)
      → HasNoLineEnd front → MOST_LINE < length front → length bytes ≤ MOST_SCRIPT + length rest → Breaks bytes values
  pub not_ended : (bytes : List ℕ) (values : List LineValue) (left : List ℕ) → Begins bytes values left
      → HasNoLineEnd left → 1 ≤ length left → length bytes ≤ MOST_SCRIPT → Breaks bytes values
