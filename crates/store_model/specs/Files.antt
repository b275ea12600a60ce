-- The plain map that the store is measured by (docs/MODEL.md, 'Files').
use Rattle.std.specs.Prelude.{ℕ, suc, List}
use Rattle.std.specs.Ordering.{nat_cmp}
use Rattle.std.specs.Cmp.Lexicographic.{slice_cmp}
use Rattle.std.specs.FinMap as map

-- names to byte lists
abbrev pub Files : Type 0
Files = map.FinMap (slice_cmp nat_cmp) (List ℕ)

abbrev pub no_files : Files
no_files = map.empty

abbrev pub with_file : Files → List ℕ → List ℕ → Files
with_file files name bytes = map.insert files name bytes

abbrev pub without_file : Files → List ℕ → Files
without_file files name = map.remove files name

-- a command: a file is put under a name, or that of a name is deleted
pub data Command : Type 0 where
  Put : (name bytes : List ℕ) → Command
  Delete : (name : List ℕ) → Command

abbrev pub files_after : Command → Files → Files
files_after (Put name bytes) files = with_file files name bytes
files_after (Delete name) files = without_file files name

-- the files of a store, and the last sequence number that it gave out
pub record Stored : Type 0 where
  pub files : Files
  pub last : ℕ

-- after a command, which takes a number
abbrev pub after_command : Command → Stored → Stored
after_command command stored = record { files = files_after command stored.files; last = suc stored.last }

-- one file put under a name
abbrev pub with_stored : Stored → List ℕ → List ℕ → Stored
with_stored stored name bytes = after_command (Put name bytes) stored

-- the file of a name deleted
abbrev pub without_stored : Stored → List ℕ → Stored
without_stored stored name = after_command (Delete name) stored
