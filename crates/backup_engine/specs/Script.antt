-- What `run` promises: the lines of a script, their replies, and how it ends (docs/MODEL.md, 'From the machine to `backup`').
use Rattle.std.specs.Prelude.{◌≡◌, ◌⊎◌, ℕ, ◌≤◌, List, [], ◌∷◌, ◌++◌, length, take, Option, Some, None}
use Rattle.base_model.specs.Fault.{Rose}
use Rattle.base_model.specs.Known.{Known, Appended}
use Rattle.dd_disk.specs.Ending.{CountsFault, ending_of}
use Rattle.dd_disk.specs.Shows.{Shows}
use Rattle.dd_disk.specs.View.{DiskView}
use Rattle.dd_io.specs.Flow.{SourceView, SinkView}
use Rattle.store_machine.specs.Commands.{Replied}
use Rattle.recovery.specs.Opening.{IsOpenRefusal}
use Rattle.refusals.specs.declared.refusal.Refusal.{Refusal}
use Rattle.refusals.specs.declared.refusal.Refusal.TheVariants.{Memory}
use Rattle.reply_text.specs.declared.ending.Ending.{Ending}
use Rattle.reply_text.specs.declared.ending.Ending.TheVariants.{Words, Source, Sink, Line, Script, Refused}
use Rattle.script_lines.specs.Grammar as lines
use Rattle.script_lines.specs.Reader.{Given}
use Rattle.script_lines.specs.ReplyText.{reply_line}
use Rattle.script_lines.specs.ReplyValue as replies
use Rattle.script_lines.specs.Script.{Begins, Breaks, HasNoLineEnd, IsScript, Overruns, number_after}
use Rattle.script_lines.specs.declared.script.TheConstants.{MOST_LINE}
use Rattle.script_runner.specs.AnyDisk.{CountFaults}
use Rattle.script_runner.specs.LinesAreRuns.{RunsByRoots}
use Rattle.script_runner.specs.Runner.{IsAcknowledged}
use Rattle.store_state.specs.Refused.{blames}
use Rattle.backup_engine.specs.AnyDisk.{ReadsSince}
use Rattle.backup_engine.specs.Frame.{LinesKeepOthers}
use Rattle.backup_engine.specs.Lines.{lines_of, printed}
use Rattle.backup_engine.specs.Reopening.{HasNoRoom}

-- ---- what was written

-- the last of some lines, and those before it
pub record HasLast (rs before : List Replied) (last : Replied) : Type 0 where
  pub are : rs ≡ before ++ last ∷ []

-- of the last reply a first part, and all of the others
pub record WrotePart (rs : List Replied) (sink sink_now : SinkView) : Type 0 where
  pub before : List Replied
  pub last : Replied
  pub has_last : HasLast rs before last
  pub count : ℕ
  pub fits : count ≤ length (reply_line last.reply)
  pub wrote : Appended sink.written sink_now.written (printed before ++ take count (reply_line last.reply))

-- all replies but the last, which doesn't acknowledge a commit or a delete
pub record LeftOut (rs : List Replied) (sink sink_now : SinkView) : Type 0 where
  pub before : List Replied
  pub last : Replied
  pub has_last : HasLast rs before last
  pub no_command : ¬ (IsAcknowledged last.reply)
  pub wrote : Appended sink.written sink_now.written (printed before)

-- The replies were written, one after the other. Where the sink failed it took a first part of the last one. Where there was no memory
-- for the last one, it is left out.
abbrev pub WroteReplies : Option Ending → List Replied → SinkView → SinkView → Type 0
WroteReplies (Some Sink) rs sink sink_now = WrotePart rs sink sink_now
WroteReplies (Some (Refused Memory)) rs sink sink_now =
    Appended sink.written sink_now.written (printed rs) ⊎ LeftOut rs sink sink_now
WroteReplies ending rs sink sink_now = Appended sink.written sink_now.written (printed rs)

-- ---- why it ended

-- the store was not opened, for its cause, and no byte of the script was taken
pub record IsNotOpened (refusal : Refusal) (rs : List Replied) (disk disk_now : DiskView) (source source_now : SourceView) : Type 0 where
  pub none : rs ≡ []
  pub cause : IsOpenRefusal (Shows disk disk_now) disk.size refusal
  pub left_is : source_now.left ≡ source.left

-- The last line was a `reopen`, and the store was not opened again, for its cause, as was replied: as it was read, perhaps once room was
-- made, or as room was to be made.
pub record IsNotReopened (refusal : Refusal) (rs : List Replied) (disk disk_now : DiskView) : Type 0 where
  pub before : List Replied
  pub has_last : HasLast rs before (record { line = lines.Reopen; reply = replies.Refused refusal })
  pub cause : IsOpenRefusal (ReadsSince disk disk_now) disk.size refusal ⊎ HasNoRoom (ReadsSince disk disk_now) disk.size refusal

-- why `run` is refused, by a refusal that is no want of memory
abbrev pub IsRunRefusal : List Replied → DiskView → DiskView → SourceView → SourceView → Refusal → Type 0
IsRunRefusal rs disk disk_now source source_now refusal =
    IsNotOpened refusal rs disk disk_now source source_now ⊎ IsNotReopened refusal rs disk disk_now

-- All lines that the source gave were run: of what it gave a first part of one more is left over at most.
abbrev pub TookLines : List Replied → SourceView → SourceView → Type 0
TookLines rs source source_now =
    Known source.left (λ all. (part rest : List ℕ) × ((source_now.left ≡ Some rest) × Begins all (lines_of rs) (part ++ rest)
    × HasNoLineEnd part × (length part ≤ MOST_LINE)))

-- The lines are all of the script; or what comes then breaks it, or is too much; or a call of the source or the sink failed, or there was
-- no memory, or it is refused.
abbrev pub IsScriptEnd : (Refusal → Type 0) → Option Ending → List Replied → SourceView → SourceView → SinkView → SinkView → Type 0
IsScriptEnd Refuses None rs source source_now sink sink_now =
    Given source.left (λ bytes. IsScript bytes (lines_of rs)) × Known source.left (λ all. source_now.left ≡ Some [])
IsScriptEnd Refuses (Some Words) rs source source_now sink sink_now = ⊥
IsScriptEnd Refuses (Some (Line number)) rs source source_now sink sink_now =
    Given source.left (λ bytes. Breaks bytes (lines_of rs)) × (number ≡ number_after (lines_of rs))
IsScriptEnd Refuses (Some Script) rs source source_now sink sink_now = Given source.left (λ bytes. Overruns bytes (lines_of rs))
IsScriptEnd Refuses (Some Source) rs source source_now sink sink_now = Rose source.faults source_now.faults × TookLines rs source source_now
IsScriptEnd Refuses (Some Sink) rs source source_now sink sink_now = Rose sink.faults sink_now.faults
IsScriptEnd Refuses (Some (Refused Memory)) rs source source_now sink sink_now = Unit {0}
IsScriptEnd Refuses (Some (Refused refusal)) rs source source_now sink sink_now = Refuses refusal

-- ---- a `reopen` that was refused

-- it ends the script, by its refusal, or as its reply could not be written
abbrev pub EndsRefused : Option Ending → Refusal → Type 0
EndsRefused ending refusal = (ending ≡ Some (Refused refusal)) ⊎ ((ending ≡ Some Sink) ⊎ (ending ≡ Some (Refused Memory)))

-- so it is the last line
abbrev pub StopsAtReopen : Option Ending → List Replied → Type 0
StopsAtReopen ending [] = Unit {0}
StopsAtReopen ending (one ∷ more) =
    ((refusal : Refusal) → ◌≡◌ {A = Replied} one (record { line = lines.Reopen; reply = replies.Refused refusal })
    → (more ≡ []) × EndsRefused ending refusal) × StopsAtReopen ending more

-- ---- what lines give on any disk

-- the store was not opened
abbrev pub IsUnopened : Option Ending → List Replied → Type 0
IsUnopened ending rs = ((refusal : Refusal) × (ending ≡ Some (Refused refusal))) × (rs ≡ [])

-- ---- the disk's count of faults

-- It rose where a call of the disk is blamed, by a reply or as the store was opened, and else is as it was.
abbrev pub CountsLines : Option Ending → List Replied → ℕ → ℕ → Type 0
CountsLines (Some (Refused refusal)) [] before now = CountsFault (ending_of (blames refusal)) before now
CountsLines ending rs before now = CountFaults rs before now

-- ---- all of it

-- These lines were run, and replied to, one after the other.
pub record KeepsScript (rs : List Replied) (ending : Option Ending) (disk disk_now : DiskView) (source source_now : SourceView)
    (sink sink_now : SinkView) : Type 0 where
  -- They are the first of the script, each ending has its cause, and what was written are the replies.
  pub begins : Given source.left (λ bytes. (rest : List ℕ) × Begins bytes (lines_of rs) rest)
  pub stops : StopsAtReopen ending rs
  pub caused : IsScriptEnd (IsRunRefusal rs disk disk_now source source_now) ending rs source source_now sink sink_now
  pub wrote : WroteReplies ending rs sink sink_now
  -- And whatever the disk holds, what was written stays.
  pub frame : LinesKeepOthers rs disk disk_now
  -- On any disk they are lines of the machine of roots, from a store that reads showed: what was given is what its names name.
  pub by_roots : IsUnopened ending rs ⊎ RunsByRoots rs disk disk_now
  -- no fault is passed over
  pub disk_faults : CountsLines ending rs disk.faults disk_now.faults
  pub source_faults : ¬ (ending ≡ Some Source) → source_now.faults ≡ source.faults
  pub sink_faults : ¬ (ending ≡ Some Sink) → sink_now.faults ≡ sink.faults
