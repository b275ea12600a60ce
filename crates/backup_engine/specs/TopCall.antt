-- What the top call promises, whatever disk, source, sink and notes it is given (docs/MODEL.md, 'The promise').
--
-- line: that of the table of commands. status: the exit status. saw: disk, source, sink and notes, each before the call, and now.
use Rattle.std.specs.Prelude.{◌≡◌, ◌⊎◌, ℕ, List, [], Option, Some, None, Result, Ok, Err}
use Rattle.base_model.specs.Known.{Known, KnownWith}
use Rattle.dd_disk.specs.View.{DiskView, IsLater}
use Rattle.dd_io.specs.Flow.{SourceView, SinkView}
use Rattle.store_machine.specs.Commands.{Replied}
use Rattle.refusals.specs.declared.refusal.Refusal.{Refusal}
use Rattle.refusals.specs.declared.refusal.Refusal.TheVariants.{DiskWrite, Full, Memory}
use Rattle.reply_text.specs.declared.ending.Ending.{Ending}
use Rattle.reply_text.specs.declared.ending.Ending.TheVariants.{Words, Refused}
use Rattle.recovery.specs.Formatting.{IsLeftByFormat, IsBlankOrFormatted}
use Rattle.recovery.specs.Room.{RoomMade, RoomUnmade}
use Rattle.shared_work.specs.Whole.{Plan}
use Rattle.backup_engine.specs.AnyDisk.{Holds, OnAnyDisk, FindsBeforeWriting, Took}
use Rattle.backup_engine.specs.ByFiles.{FailsAlone, RunsEachByFiles}
use Rattle.backup_engine.specs.Checking.{ChecksDisk}
use Rattle.backup_engine.specs.Frame.{KeepsOthers}
use Rattle.backup_engine.specs.Line.{CommandLine, Format, TableLine, Single, Run, Check, Work}
use Rattle.backup_engine.specs.Noted.{AreNoted, status_by}
use Rattle.backup_engine.specs.Promise.{SinceStart}
use Rattle.backup_engine.specs.Script.{KeepsScript}
use Rattle.backup_engine.specs.Seen.{Devices, Seen, devices}
use Rattle.backup_engine.specs.Singles.{SpeaksAs}
use Rattle.backup_engine.specs.Working.{KeepsWork, Ran, WorkByFiles, plan_of}

abbrev pub ending_in : Result Unit Ending → Option Ending
ending_in (Ok u) = None
ending_in (Err ending) = Some ending

-- ---- a disk that has no store

-- what is left, at the end and at any moment before: as it was, or blank, or an empty store
abbrev pub IsLeftBlank : CommandLine → DiskView → DiskView → Type 0
IsLeftBlank (Format slots) disk disk_now =
    Known disk.content (λ old. KnownWith disk_now.content (IsLeftByFormat slots old)
    × ((c : List ℕ) → SinceStart disk disk_now c → disk.images c ⊎ IsBlankOrFormatted slots c))
IsLeftBlank command disk disk_now = Unit {0}

-- what was not done, but for a write that failed, changed nothing of it
abbrev pub IsUntouched : CommandLine → Option Ending → DiskView → DiskView → Type 0
IsUntouched (Format slots) (Some (Refused DiskWrite)) disk disk_now = Unit {0}
IsUntouched (Format slots) (Some (Refused refusal)) disk disk_now =
    (disk_now.content ≡ disk.content) × (Known disk.content (λ old. (c : List ℕ) → disk_now.images c → disk.images c))
IsUntouched command ending disk disk_now = Unit {0}

-- ---- all of it, from the disk on as it was once there was room

pub record Keeps (command : CommandLine) (given : List ℕ) (ending : Option Ending) (saw : Devices) : Type 0 where
  -- Over any disk, each ending has its cause.
  pub any : OnAnyDisk command given ending saw
  -- And whatever the disk holds, what was open stays.
  pub frame : KeepsOthers command ending saw.disk saw.disk_now
  -- A `collect` writes only once it has found the keys of the trees of all names, also where it is refused then.
  pub found : FindsBeforeWriting command saw.disk saw.disk_now
  pub blank : IsLeftBlank command saw.disk saw.disk_now
  pub untouched : IsUntouched command ending saw.disk saw.disk_now

-- All that is known of the disk is what was, the moment too, which reads, writes and syncs make rise. (A view is too large for ≡.)
pub record IsSameDisk (disk disk_now : DiskView) : Type 0 where
  pub size_is : disk_now.size ≡ disk.size
  pub content_is : disk_now.content ≡ disk.content
  pub clock_is : disk_now.clock ≡ disk.clock
  pub faults_are : disk_now.faults ≡ disk.faults
  pub loans_are : disk_now.loans ≡ disk.loans
  pub images_are : (c : List ℕ) → (disk_now.images c → disk.images c) × (disk.images c → disk_now.images c)
  pub since_are : (t : ℕ) (c : List ℕ)
      → (disk_now.images_since t c → disk.images_since t c) × (disk.images_since t c → disk_now.images_since t c)
  pub returned_are : (t at : ℕ) (b : List ℕ)
      → (disk_now.read_returned t at b → disk.read_returned t at b) × (disk.read_returned t at b → disk_now.read_returned t at b)

-- Words that are no line of the table: nothing is done. That they are none may stay unknown, for want of memory to read them.
pub record DoesNothing (ending : Option Ending) (disk disk_now : DiskView) (source source_now : SourceView) (sink sink_now : SinkView)
    : Type 0 where
  pub why : (ending ≡ Some Words) ⊎ (ending ≡ Some (Refused Memory))
  pub disk_is : IsSameDisk disk disk_now
  pub source_is : source_now ≡ source
  pub sink_is : sink_now ≡ sink

-- ---- the store is opened

-- It is refused because too few slots are closed only where two were closed as the store was opened (`Full`, of a container more).
abbrev pub NeedsNoRoom : Option Ending → DiskView → DiskView → Type 0
NeedsNoRoom ending disk disk_now = (free : ℕ) → ending ≡ Some (Refused (Full free)) → Holds disk disk_now

-- P holds from the disk as it was once there was room: as it was found, where that needed none; or once room was made.
abbrev pub OnceThereWasRoom : (D : Type 0) → (D → DiskView) → (DiskView → Type 0) → Option Ending → DiskView → DiskView → Type 0
OnceThereWasRoom D view P ending disk disk_now =
    (P disk × NeedsNoRoom ending disk disk_now) ⊎ ((mid : D) × (RoomMade disk (view mid) × IsLater (view mid) disk_now × P (view mid)))

-- No room was made, where too few slots were closed: no line was run. Containers may have been given back before a call failed.
pub record MakesNoRoom (rs : List Replied) (ending : Option Ending) (disk disk_now : DiskView) (source source_now : SourceView)
    (sink sink_now : SinkView) : Type 0 where
  pub refusal : Refusal
  pub ending_is : ending ≡ Some (Refused refusal)
  pub unmade : RoomUnmade refusal disk disk_now
  pub none : rs ≡ []
  pub source_is : source_now ≡ source
  pub sink_is : sink_now ≡ sink

-- A single command but a `format`: what it does as lines of the machine of files, from the beginning of the call on, from which follows how
-- it answers by the map (`a_command_answers_by_the_map`); and, from the disk as it was once there was room, all that it keeps.
pub record DoesCommand (D : Type 0) (view : D → DiskView) (command : CommandLine) (given : List ℕ) (rs : List Replied)
    (ending : Option Ending) (saw : Devices) : Type 0 where
  pub by_files : RunsEachByFiles ending rs saw.disk saw.disk_now
  pub fails_alone : rs ≡ [] → FailsAlone ending rs saw.disk
  pub took : Took command given ending saw.source saw.source_now
  pub way : OnceThereWasRoom D view (λ v. Keeps command given ending (record saw { disk = v })
      × SpeaksAs command given ending rs (record saw { disk = v })) ending saw.disk saw.disk_now
      ⊎ MakesNoRoom rs ending saw.disk saw.disk_now saw.source saw.source_now saw.sink saw.sink_now

-- The lines of the script that the source has.
pub record RunsScript (D : Type 0) (view : D → DiskView) (rs : List Replied) (ending : Option Ending) (saw : Devices) : Type 0 where
  pub by_files : RunsEachByFiles ending rs saw.disk saw.disk_now
  pub fails_alone : FailsAlone ending rs saw.disk
  pub way : OnceThereWasRoom D view (λ v. KeepsScript rs ending v saw.disk_now saw.source saw.source_now saw.sink saw.sink_now)
      ending saw.disk saw.disk_now
      ⊎ MakesNoRoom rs ending saw.disk saw.disk_now saw.source saw.source_now saw.sink saw.sink_now

-- Workers that store generated files: what is done is one throughout.
pub record RunsWork (D : Type 0) (view : D → DiskView) (plan : Plan) (ran : Option Ran) (ending : Option Ending) (saw : Devices)
    : Type 0 where
  pub by_files : WorkByFiles plan ran ending saw.disk saw.disk_now
  pub fails_alone : ran ≡ None → FailsAlone ending [] saw.disk
  pub way : OnceThereWasRoom D view (λ v. KeepsWork plan ran ending (record saw { disk = v })) ending saw.disk saw.disk_now
      ⊎ ((ran ≡ None) × MakesNoRoom [] ending saw.disk saw.disk_now saw.source saw.source_now saw.sink saw.sink_now)
  pub source_is : saw.source_now ≡ saw.source

-- What a line of the table does, but a `check`: see `Promise`. A disk is anything that has a view.
abbrev pub Does : (D : Type 0) → (D → DiskView) → Option TableLine → List ℕ → List Replied → Option Ending → Devices → Type 0
Does D view None given rs ending saw = DoesNothing ending saw.disk saw.disk_now saw.source saw.source_now saw.sink saw.sink_now
Does D view (Some (Single (Format slots))) given rs ending saw = Keeps (Format slots) given ending saw × (rs ≡ [])
Does D view (Some (Single command)) given rs ending saw = DoesCommand D view command given rs ending saw
Does D view (Some Run) given rs ending saw = RunsScript D view rs ending saw
Does D view (Some (Work load)) given rs ending saw = (ran : Option Ran) × (RunsWork D view (plan_of load) ran ending saw × (rs ≡ []))
Does D view (Some Check) given rs ending saw = ⊥

-- How the call ended, what the source gave, and which lines were run, are one throughout.
pub record KeepsLine (D : Type 0) (view : D → DiskView) (line : Option TableLine) (ending : Option Ending) (given : List ℕ)
    (rs : List Replied) (status : ℕ) (saw : Seen) : Type 0 where
  pub status_is : status ≡ status_by ending
  pub noted : AreNoted saw.notes saw.notes_now ending
  pub does : Does D view line given rs ending (devices saw.disk saw.disk_now saw.source saw.source_now saw.sink saw.sink_now)

-- A `check` inspects the disk; each other line does what `Does` says.
abbrev pub Promise : (D : Type 0) → (D → DiskView) → Option TableLine → ℕ → Seen → Type 0
Promise D view (Some Check) status saw = ChecksDisk status saw
Promise D view line status saw =
    (ending : Option Ending) × ((given : List ℕ) × ((rs : List Replied) × KeepsLine D view line ending given rs status saw))
