-- The table of commands: which line of it some words are (docs/FORMAT.md, 'Commands'). `List` is a command here, and std's `List` is
-- `ListOf`.
use Rattle.std.specs.Prelude.{ℕ, List as ListOf, [], ◌∷◌, codes, Bool, true, false, not, ◌==◌, ◌&&◌, nat_le, if◌then◌else◌, Option, Some, None, option_map, option_and_then}
use Rattle.std.specs.List.{list_all}
use Rattle.std.specs.Char.{is_ascii_digit}
use Rattle.std.specs.Str.{bytes_eq}
use Rattle.std.specs.Str.Parse.{digits_value}
use Rattle.disk_format.specs.declared.numbers.TheConstants.{LEAST_SLOTS, MOST_SLOTS}

-- one command
pub data CommandLine : Type 0 where
  Format : (slots : ℕ) → CommandLine
  Ingest : (name : ListOf ℕ) → CommandLine
  Restore : (name : ListOf ℕ) → CommandLine
  Delete : (name : ListOf ℕ) → CommandLine
  List : CommandLine
  Collect : (percent : ℕ) → CommandLine

-- What `work` is asked for: so many workers, and so many files of so many bytes each, made from a seed, which they store beside one
-- another; and the percentage of the collections that are made meanwhile.
pub record Load : Type 0 where
  pub workers : ℕ
  pub seed : ℕ
  pub files : ℕ
  pub bytes : ℕ
  pub percent : ℕ

-- a line of the table: one command, the script that the source has, a look at all of the disk, or workers that store generated files
pub data TableLine : Type 0 where
  Single : (command : CommandLine) → TableLine
  Run : TableLine
  Check : TableLine
  Work : (load : Load) → TableLine

-- the name of a command, where it has one
abbrev pub name_of : CommandLine → ListOf ℕ
name_of (Format slots) = []
name_of (Ingest name) = name
name_of (Restore name) = name
name_of (Delete name) = name
name_of List = []
name_of (Collect percent) = []

-- `--` and each longer word that begins with a dash; a dash alone is a word like others
abbrev pub is_dashed : ListOf ℕ → Bool
is_dashed [] = false
is_dashed (first ∷ []) = false
is_dashed (first ∷ second ∷ rest) = first == 45

abbrev pub is_separator : ListOf ℕ → Bool
is_separator word = bytes_eq word (codes "--")

-- The arguments of a command: a first `--` is passed over, and before it no word begins with a dash.
abbrev pub arguments_of : ListOf (ListOf ℕ) → Option (ListOf (ListOf ℕ))
arguments_of [] = Some []
arguments_of (word ∷ words) =
    if is_separator word then Some words
    else if is_dashed word then None
    else option_map (λ (rest : ListOf (ListOf ℕ)). word ∷ rest) (arguments_of words)

-- not empty, and no zero before another digit
abbrev pub begins_as_number : ListOf ℕ → Bool
begins_as_number [] = false
begins_as_number (digit ∷ []) = true
begins_as_number (digit ∷ next ∷ digits) = not (digit == 48)

abbrev pub all_digits : ListOf ℕ → Bool
all_digits word = list_all is_ascii_digit word

-- decimal digits with no sign and no leading zero
abbrev pub is_number : ListOf ℕ → Bool
is_number word = all_digits word && begins_as_number word

-- the number within these limits that a word stands for
abbrev pub number_within : ℕ → ℕ → ListOf ℕ → Option ℕ
number_within least most word =
    if is_number word && nat_le least (digits_value 10 word) && nat_le (digits_value 10 word) most
    then Some (digits_value 10 word) else None

-- how many slots a word stands for, 4 to 65,536
abbrev pub slots_of : ListOf ℕ → Option ℕ
slots_of word = number_within LEAST_SLOTS MOST_SLOTS word

-- the percentage that a word stands for, 0 to 100
abbrev pub percent_of : ListOf ℕ → Option ℕ
percent_of word = if is_number word && nat_le (digits_value 10 word) 100 then Some (digits_value 10 word) else None

abbrev pub command_of : ListOf ℕ → ListOf ℕ → Option CommandLine
command_of command argument =
    if bytes_eq command (codes "format") then option_map Format (slots_of argument)
    else if bytes_eq command (codes "ingest") then Some (Ingest argument)
    else if bytes_eq command (codes "restore") then Some (Restore argument)
    else if bytes_eq command (codes "delete") then Some (Delete argument)
    else if bytes_eq command (codes "collect") then option_map Collect (percent_of argument)
    else None

abbrev pub load_from : (workers seed files bytes percent : Option ℕ) → Option Load
load_from (Some workers) (Some seed) (Some files) (Some bytes) (Some percent) =
    Some (record { workers = workers; seed = seed; files = files; bytes = bytes; percent = percent })
load_from _ _ _ _ _ = None

-- a load, by the word for each number of it
abbrev pub load_by : (workers seed files bytes percent : ListOf ℕ) → Option Load
load_by workers seed files bytes percent =
    load_from (number_within 1 32 workers) (number_within 0 18446744073709551615 seed) (number_within 1 256 files)
    (number_within 0 16777216 bytes) (percent_of percent)

abbrev pub load_of : ListOf (ListOf ℕ) → Option Load
load_of (workers ∷ seed ∷ files ∷ bytes ∷ percent ∷ []) = load_by workers seed files bytes percent
load_of _ = None

-- the line of a command with no argument
abbrev pub alone : TableLine → ListOf (ListOf ℕ) → Option TableLine
alone line [] = Some line
alone line (argument ∷ rest) = None

-- the argument that is the only one
abbrev pub only_one : ListOf (ListOf ℕ) → Option (ListOf ℕ)
only_one [] = None
only_one (argument ∷ []) = Some argument
only_one (first ∷ second ∷ rest) = None

-- the line of a command with these arguments
abbrev pub line_with : ListOf ℕ → ListOf (ListOf ℕ) → Option TableLine
line_with command arguments =
    if bytes_eq command (codes "run") then alone Run arguments
    else if bytes_eq command (codes "check") then alone Check arguments
    else if bytes_eq command (codes "list") then alone (Single List) arguments
    else if bytes_eq command (codes "work") then option_map Work (load_of arguments)
    else option_map Single (option_and_then (command_of command) (only_one arguments))

-- the line that a first word and those after it are
abbrev pub line_by : ListOf ℕ → ListOf (ListOf ℕ) → Option TableLine
line_by command words = option_and_then (line_with command) (arguments_of words)

-- the line of the table that the words are
abbrev pub line_of : ListOf (ListOf ℕ) → Option TableLine
line_of [] = None
line_of (command ∷ words) = line_by command words

-- the line, where it starts no workers
abbrev pub alone_line : Option TableLine → Option TableLine
alone_line (Some (Work load)) = None
alone_line line = line
