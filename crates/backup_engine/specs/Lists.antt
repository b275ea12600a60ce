-- What holds of calls of `backup`, one after the other over one disk (docs/MODEL.md, 'Lists of commands').
use Rattle.std.specs.Prelude.{◌≡◌, ◌⊎◌, ℕ, List, [], ◌∷◌, ◌++◌, Option, Some}
use Rattle.std.specs.List.{AllByRecursion}
use Rattle.base_model.specs.Known.{KnownWith}
use Rattle.dd_disk.specs.View.{DiskView, IsDurable}
use Rattle.dd_io.specs.Flow.{SourceView, SinkView}
use Rattle.reply_text.specs.declared.ending.Ending.{Ending}
use Rattle.reply_text.specs.declared.ending.Ending.TheVariants.{Sink}
use Rattle.script_lines.specs.Grammar as lines
use Rattle.script_lines.specs.ReplyValue.{ReplyValue}
use Rattle.script_runner.specs.LinesAreFileRuns.{FileDesk}
use Rattle.script_runner.specs.LinesAreRuns.{Passes}
use Rattle.store_model.specs.Collisions.{HasNoCollisions, ByteSet, IsIn, IsOf, OpensAs}
use Rattle.store_model.specs.Files.{Stored, no_files}
use Rattle.store_model.specs.Image.{Store}
use Rattle.store_machine.specs.ByMap.{FileMachine}
use Rattle.store_machine.specs.Commands.{Lines, Replied, desk, run_of}
use Rattle.store_machine.specs.Machine.{Found, Stepped}
use Rattle.store_machine.specs.Opening.{MayBeFound}
use Rattle.store_machine.specs.Values.{of_files}
use Rattle.core_machine.specs.Files.{MayStand, stored_in}
use Rattle.store_model.specs.Standing.{IsSegmentOf}
use Rattle.backup_engine.specs.AnyDisk.{Formats}
use Rattle.backup_engine.specs.Checking.{ChecksDisk}
use Rattle.backup_engine.specs.Line.{CommandLine, Format, TableLine, Single, Run, Check, Work, alone_line}
use Rattle.backup_engine.specs.Promise.{SinceStart, Stands}
use Rattle.backup_engine.specs.Seen.{Seen, disk_and_sink}
use Rattle.backup_engine.specs.TopCall.{Promise, KeepsLine}
use Rattle.backup_engine.specs.ByFiles.{CutsAmong, RefusedByFiles, RunsByFiles}
use Rattle.backup_engine.specs.Singles.{said}
use Rattle.backup_engine.specs.AnswersByMap.{AnswersByMap, IsAfter, rest, rested}

-- One call: the line that its words are, if they are one; its status; source, sink and notes before and after. And, as the
-- promise has it, how it ended, what its source gave, and which lines of a script were run.
pub record Call : Type 0 where
  pub line : Option TableLine
  pub status : ℕ
  pub source : SourceView
  pub source_now : SourceView
  pub sink : SinkView
  pub sink_now : SinkView
  pub notes : SinkView
  pub notes_now : SinkView
  pub ending : Option Ending
  pub given : List ℕ
  pub rs : List Replied

-- what it saw, over this disk
abbrev pub seen_by : Call → DiskView → DiskView → Seen
seen_by c disk disk_now = record {
  disk = disk;
  disk_now = disk_now;
  source = c.source;
  source_now = c.source_now;
  sink = c.sink;
  sink_now = c.sink_now;
  notes = c.notes;
  notes_now = c.notes_now;
}

-- (no call of a list starts workers)
abbrev pub KeepsAs : (D : Type 0) → (D → DiskView) → Option TableLine → Call → DiskView → DiskView → Type 0
KeepsAs D view (Some Check) c disk disk_now = ChecksDisk c.status (seen_by c disk disk_now)
KeepsAs D view (Some (Work load)) c disk disk_now = ⊥
KeepsAs D view line c disk disk_now = KeepsLine D view line c.ending c.given c.rs c.status (seen_by c disk disk_now)

-- what `Promise` says of a call, with its ending, what was given and which lines were run (specs/TopCall.antt)
abbrev pub KeepsCall : (D : Type 0) → (D → DiskView) → Call → DiskView → DiskView → Type 0
KeepsCall D view c disk disk_now = KeepsAs D view c.line c disk disk_now

-- The first call makes of the disk one of which the others make the last one. A disk is anything that has a view.
abbrev pub CallRun : (D : Type 0) → (D → DiskView) → List Call → D → D → Type 0
CallRun D view [] old new = new ≡ old
CallRun D view (c ∷ cs) old new = (mid : D) × (KeepsCall D view c (view old) (view mid) × CallRun D view cs mid new)

-- What `backup` promises of a call that starts no workers is that, for some ending, bytes given and lines: so calls of it make such a run.
abbrev pub IsPromised : (D : Type 0) → (D → DiskView) → Type 0
IsPromised D view = (c : Call) (old new : D) → alone_line c.line ≡ c.line
    → Promise D view c.line c.status (seen_by c (view old) (view new))
    → (ending : Option Ending) × ((given : List ℕ) × ((rs : List Replied)
    × KeepsCall D view (record c { ending = ending; given = given; rs = rs }) (view old) (view new)))

-- The lines of a script, its opening first, as lines of the machine at rest that has these files.
pub record IsScriptOf (rs : List Replied) (m : Stored) : Type 0 where
  pub store : Store
  -- what the opening replied
  pub first : ReplyValue
  pub steps : List (Stepped (List ℕ))
  pub last : FileDesk
  pub lines_are : Lines of_files (said lines.Reopen first ∷ rs) steps (desk (rested m store)) last

-- They lead to the files that may be found at the last machine of their run.
pub record ScriptLeads (rs : List Replied) (m next : Stored) : Type 0 where
  pub script : IsScriptOf rs m
  pub found : Found (List ℕ)
  pub may : MayBeFound of_files script.last.machine.state script.last.machine.now found
  pub next_is : next ≡ stored_in found

-- On the way they come by those that may be found at each machine of it.
pub record ScriptPasses (rs : List Replied) (m next : Stored) : Type 0 where
  pub script : IsScriptOf rs m
  pub found : Found (List ℕ)
  pub passed : Passes of_files (λ n. MayBeFound of_files n.state n.now found) script.steps (rested m script.store) script.last.machine
      (run_of of_files (said lines.Reopen script.first ∷ rs) script.steps (desk (rested m script.store)) script.last script.lines_are)
  pub next_is : next ≡ stored_in found

-- A command leads to the map after it, or to the map as it was, as `IsAfter` has it; a `format` of a disk that has a store, words that are
-- no line, and a `check` lead to the map as it was.
abbrev pub MayLead : Option TableLine → Call → Stored → Stored → Type 0
MayLead (Some (Single (Format slots))) c m next = next ≡ m
MayLead (Some (Single command)) c m next = IsAfter command c.given c.ending (rest m) (rest next)
MayLead (Some Run) c m next = ScriptLeads c.rs m next
MayLead line c m next = next ≡ m

-- to which maps a call may have come when a crash stops it; it may also have done nothing yet
abbrev pub MayPass : Option TableLine → Call → Stored → Stored → Type 0
MayPass (Some Run) c m found = ScriptPasses c.rs m found
MayPass line c m found = MayLead line c m found

abbrev pub LeadsTo : List Call → Stored → Stored → Type 0
LeadsTo [] m next = next ≡ m
LeadsTo (c ∷ cs) m next = (mid : Stored) × (MayLead c.line c m mid × LeadsTo cs mid next)

-- the image is of a map that the calls may lead to
abbrev pub Possible : (List ℕ → Type 0) → List Call → Stored → List ℕ → Type 0
Possible S calls m image = (next : Stored) × (LeadsTo calls m next × OpensAs S next image)

-- or of one to which the last may have come after them
abbrev pub Passed : (List ℕ → Type 0) → List Call → Call → Stored → List ℕ → Type 0
Passed S calls last m image =
    (mid : Stored) × (LeadsTo calls m mid × ((found : Stored) × (MayPass last.line last mid found × OpensAs S found image)))

-- A list can begin: a `format` that was done, of a disk that told its content, leaves one that stands for the empty map.
abbrev pub StandsEmpty : (D : Type 0) → (D → DiskView) → Type 0
StandsEmpty D view = (among : ByteSet) (slots : ℕ) (old new : D) → KnownWith (view old).content (λ _. Unit {0})
    → Formats slots (view old) (view new) → IsDurable (view new)
    → Stands (IsOf (IsIn among) (record { files = no_files; last = 0 })) (view new)

-- So does each call whose line is a `format` and whose status is 0.
abbrev pub FormatBegins : (D : Type 0) → (D → DiskView) → Type 0
FormatBegins D view = (among : ByteSet) (slots : ℕ) (c : Call) (old new : D) → KnownWith (view old).content (λ _. Unit {0})
    → KeepsCall D view c (view old) (view new) → c.line ≡ Some (Single (Format slots)) → c.status ≡ 0
    → Stands (IsOf (IsIn among) (record { files = no_files; last = 0 })) (view new)

-- What a call is given, and what is cut of it on the way, is among these.
pub record IsGivenAmong (among : ByteSet) (c : Call) : Type 0 where
  pub given : (bytes : List ℕ) → IsSegmentOf c.given bytes → IsIn among bytes
  pub cut : (m : FileMachine) → CutsAmong among c.rs m

-- No two different data segments of these have one digest, and those that the calls are given are among them. The disk tells its content,
-- and that and each image are of the map m.
pub record BeginsOfMap (among : ByteSet) (calls : List Call) (m : Stored) (disk : DiskView) : Type 0 where
  pub apart : HasNoCollisions (IsIn among)
  pub given : AllByRecursion (IsGivenAmong among) calls
  pub stands : Stands (OpensAs (IsIn among) m) disk

-- After the calls the disk tells its content, and that and each image are of maps that the calls may lead to.
abbrev pub LeavesPossible : (D : Type 0) → (D → DiskView) → Type 0
LeavesPossible D view = (among : ByteSet) (m : Stored) (calls : List Call) (old new : D) → BeginsOfMap among calls m (view old)
    → CallRun D view calls old new → Stands (Possible (IsIn among) calls m) (view new)

-- A `format` of a disk that has a store is not done, and changes nothing, so that images from before may last; it replies nothing.
pub record FormatsNothing (c : Call) (disk disk_now : DiskView) : Type 0 where
  pub not_done : (e : Ending) × (c.ending ≡ Some e) × ¬ (e ≡ Sink)
  pub content : disk_now.content ≡ disk.content
  pub images : (image : List ℕ) → SinceStart disk disk_now image → disk.images image
  pub wrote : c.sink_now.written ≡ c.sink.written

-- what a command answers to a map that it finds, of the store that the content is
abbrev pub AnswersBy : (List ℕ → Type 0) → CommandLine → Call → Stored → DiskView → DiskView → Type 0
AnswersBy S (Format slots) c m disk disk_now = FormatsNothing c disk disk_now
AnswersBy S command c m disk disk_now = (store : Store) × KnownWith disk.content (MayStand S (rested m store))
    × AnswersByMap S command c.given c.rs c.ending (rested m store) (disk_and_sink disk c.sink) (disk_and_sink disk_now c.sink_now)

-- A command that is called after them answers by one of these maps: that of the content which it finds.
abbrev pub AnswersByTheMap : (D : Type 0) → (D → DiskView) → Type 0
AnswersByTheMap D view = (among : ByteSet) (m : Stored) (calls : List Call) (last : Call) (command : CommandLine) (old mid new : D)
    → BeginsOfMap among (calls ++ last ∷ []) m (view old) → CallRun D view calls old mid
    → KeepsCall D view last (view mid) (view new) → last.line ≡ Some (Single command)
    → (found : Stored) × (LeadsTo calls m found × KnownWith (view mid).content (OpensAs (IsIn among) found)
    × AnswersBy (IsIn among) command last found (view mid) (view new))

-- And a script that is run after them is a run of the machine from one of these maps.
abbrev pub RunsFromMap : (List ℕ → Type 0) → Call → Stored → DiskView → DiskView → Type 0
RunsFromMap S c m disk disk_now = (store : Store) × KnownWith disk.content (MayStand S (rested m store))
    × (RunsByFiles S c.rs (rested m store) disk disk_now ⊎ RefusedByFiles S c.ending c.rs (rested m store) disk disk_now)

abbrev pub RunsByTheMap : (D : Type 0) → (D → DiskView) → Type 0
RunsByTheMap D view = (among : ByteSet) (m : Stored) (calls : List Call) (last : Call) (old mid new : D)
    → BeginsOfMap among (calls ++ last ∷ []) m (view old) → CallRun D view calls old mid
    → KeepsCall D view last (view mid) (view new) → last.line ≡ Some Run
    → (found : Stored) × (LeadsTo calls m found × KnownWith (view mid).content (OpensAs (IsIn among) found)
    × RunsFromMap (IsIn among) last found (view mid) (view new))

-- A crash since the last began leaves what those before it may lead to, or what the last may have come to: so each that was done before
-- is there.
abbrev pub SurvivesACrash : (D : Type 0) → (D → DiskView) → Type 0
SurvivesACrash D view = (among : ByteSet) (m : Stored) (calls : List Call) (last : Call) (old mid new : D)
    → BeginsOfMap among (calls ++ last ∷ []) m (view old) → CallRun D view calls old mid
    → KeepsCall D view last (view mid) (view new) → (c : List ℕ) → SinceStart (view mid) (view new) c
    → Possible (IsIn among) calls m c ⊎ Passed (IsIn among) calls last m c
