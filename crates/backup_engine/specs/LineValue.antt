-- The lines that the program reads, as those of the table.
use Rattle.std.specs.Prelude.{ℕ, ◌≤◌, ◌<◌, ◌^◌, Option, Some, None}
use Rattle.disk_format.specs.Layout.{IsSlotCount, size_of}
use Rattle.backup_engine.specs.declared.words.Command.{Command}
use Rattle.backup_engine.specs.declared.words.Command.TheVariants.{Format, Ingest, Restore, Delete, List, Collect}
use Rattle.backup_engine.specs.declared.words.Line.{Line}
use Rattle.backup_engine.specs.declared.words.Line.TheVariants.{Single, Run, Check, Work}
use Rattle.backup_engine.specs.declared.load_words.Load.{Load}
use Rattle.backup_engine.specs.Line as table

abbrev pub command_value : Command → table.CommandLine
command_value (Format slots) = table.Format slots
command_value (Ingest name) = table.Ingest name.now
command_value (Restore name) = table.Restore name.now
command_value (Delete name) = table.Delete name.now
command_value List = table.List
command_value (Collect percent) = table.Collect percent

abbrev pub load_value : Load → table.Load
load_value load = record {
  workers = load.workers;
  seed = load.seed;
  files = load.files;
  bytes = load.bytes;
  percent = load.percent;
}

abbrev pub line_value : Line → table.TableLine
line_value (Single command) = table.Single (command_value command)
line_value Run = table.Run
line_value Check = table.Check
line_value (Work load) = table.Work (load_value load)

-- a command as it is read: its number of slots is one that a disk may have
abbrev pub IsRightCommand : Command → Type 0
IsRightCommand (Format slots) = IsSlotCount slots
IsRightCommand (Ingest name) = Unit {0}
IsRightCommand (Restore name) = Unit {0}
IsRightCommand (Delete name) = Unit {0}
IsRightCommand List = Unit {0}
IsRightCommand (Collect percent) = Unit {0}

-- a load as it is read: each number is within its limits
pub record IsRightLoad (load : Load) : Type 0 where
  pub workers : (1 ≤ load.workers) × (load.workers ≤ 32)
  pub seed : load.seed < 2 ^ 64
  pub files : (1 ≤ load.files) × (load.files ≤ 256)
  pub bytes : load.bytes ≤ 16777216
  pub percent : load.percent ≤ 100

abbrev pub IsRightLine : Line → Type 0
IsRightLine (Single command) = IsRightCommand command
IsRightLine Run = Unit {0}
IsRightLine Check = Unit {0}
IsRightLine (Work load) = IsRightLoad load

-- the size of the disk that a line makes a store on: it is `format N`, or there is none
abbrev pub size_made : Option table.TableLine → Option ℕ
size_made (Some (table.Single (table.Format slots))) = Some (size_of slots)
size_made line = None
