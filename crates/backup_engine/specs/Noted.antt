-- How a call ended, as its caller sees it: by the exit status, and by the notes.
use Rattle.std.specs.Prelude.{◌≡◌, ℕ, Option, Some, None}
use Rattle.base_model.specs.Fault.{Rose}
use Rattle.base_model.specs.Known.{Appended}
use Rattle.dd_io.specs.Flow.{SinkView, AppendedPart}
use Rattle.reply_text.specs.declared.ending.Ending.{Ending}
use Rattle.reply_text.specs.Table.{status_of}
use Rattle.reply_text.specs.Text.{fault_line}

-- 0 where the command was done, and else by the table of statuses
abbrev pub status_by : Option Ending → ℕ
status_by None = 0
status_by (Some ending) = status_of ending

-- The notes have one line for a command that was not done, or, where they failed, a part of it; and else nothing more.
pub record IsNoted (notes notes_now : SinkView) (ending : Ending) : Type 0 where
  pub whole : ¬ (Rose notes.faults notes_now.faults) → Appended notes.written notes_now.written (fault_line ending)
  pub part : AppendedPart notes.written notes_now.written (fault_line ending)

abbrev pub AreNoted : SinkView → SinkView → Option Ending → Type 0
AreNoted notes notes_now None = notes_now.written ≡ notes.written
AreNoted notes notes_now (Some ending) = IsNoted notes notes_now ending
