-- A single command answers by the map: what its lines of the machine of files come to is what the plain map makes of it (docs/MODEL.md,
-- 'The promise'). A machine at rest has the map: its names with their files, and the last sequence number.
use Rattle.std.specs.Prelude.{◌≡◌, ◌⊎◌, ◌<◌, ℕ, IsTrue, List, [], ◌∷◌, Option, None, Some}
use Rattle.base_model.specs.Bytes.{range}
use Rattle.base_model.specs.Known.{Appended, Known, KnownWith}
use Rattle.container_meta.specs.Spelling.{HeaderValue}
use Rattle.dd_disk.specs.View.{CrashLeaves, DiskView}
use Rattle.dd_io.specs.Flow.{AppendedPart, SinkView, SourceView}
use Rattle.disk_format.specs.declared.numbers.TheConstants.{SLOT_BYTES}
use Rattle.disk_format.specs.Layout.{slot_at}
use Rattle.refusals.specs.declared.refusal.Refusal.TheVariants.{DiskWrite}
use Rattle.reply_text.specs.declared.ending.Ending.{Ending}
use Rattle.reply_text.specs.declared.ending.Ending.TheVariants.{Source, Sink, Refused}
use Rattle.script_lines.specs.Grammar as lines
use Rattle.script_lines.specs.ReplyValue.{ReplyValue}
use Rattle.script_lines.specs.ReplyValue as replies
use Rattle.store_model.specs.Collisions.{ByteSet, HasNoCollisions, IsIn}
use Rattle.store_model.specs.Files.{Stored}
use Rattle.store_model.specs.Image.{Store}
use Rattle.store_model.specs.Slots.{last_id}
use Rattle.store_model.specs.Standing.{IsSegmentOf}
use Rattle.store_state.specs.Refused.{fails}
use Rattle.store_machine.specs.ByMap.{DeletedName, FileMachine, ListedNames, MakesRoom, RestoredFile}
use Rattle.store_machine.specs.Collected.{HasContainer}
use Rattle.store_machine.specs.CollectsAlone.{CollectedAlone}
use Rattle.store_machine.specs.Commands as machine
use Rattle.store_machine.specs.Commands.{Command, EndsRefused, EndsWith, IsDone, MayGoOn, Replied, given_by, printed}
use Rattle.store_machine.specs.Ingests.{Ingested}
use Rattle.store_machine.specs.Legal.{with_name, without_name}
use Rattle.store_machine.specs.Machine.{Found, Running}
use Rattle.store_machine.specs.Opening.{MayBeFound}
use Rattle.store_machine.specs.Values.{of_files}
use Rattle.core_machine.specs.FileOpenings.{LeavesFor, LeavesFound}
use Rattle.core_machine.specs.Files.{IsOfFound, MayStand, StandsFor}
use Rattle.core_machine.specs.Unopened.{unopened}
use Rattle.backup_engine.specs.Line.{CommandLine, Format, Ingest, Restore, Delete, Collect}
use Rattle.backup_engine.specs.Line as table
use Rattle.backup_engine.specs.Singles.{IsFirstOf, said}
use Rattle.backup_engine.specs.TopCall.{DoesCommand}
use Rattle.backup_engine.specs.Seen.{DiskAndSink, devices, disk_and_sink}

-- a map, as what may be found of a machine
abbrev pub rest : Stored → Found (List ℕ)
rest m = record { names = m.files; last = m.last }

-- the machine at rest that has these files, in this store
abbrev pub rested : Stored → Store → FileMachine
rested m store = record (unopened m store) { state = Running }

-- whose lines a command runs; a `format` runs none
abbrev pub command_of : CommandLine → Command
command_of (Format slots) = machine.Run
command_of (Ingest name) = machine.Ingest name
command_of (Restore name) = machine.Restore name
command_of (Delete name) = machine.Delete name
command_of table.List = machine.List
command_of (Collect percent) = machine.Collect percent

-- What they come to, from one machine to another: what is found then, what became of the store, what is printed, and why the last one was
-- refused.
abbrev pub ComesTo : CommandLine → List Replied → FileMachine → FileMachine → Type 0
ComesTo (Format slots) rs m n = ⊥
ComesTo (Ingest name) rs m n = Ingested name (given_by 0 [] rs) rs m n
ComesTo (Restore name) rs m n = RestoredFile name rs m n
ComesTo (Delete name) rs m n = DeletedName name rs m n
ComesTo table.List rs m n = ListedNames rs m n
ComesTo (Collect percent) rs m n = CollectedAlone percent rs m n

-- ---- how it ended

abbrev pub WasDone : Command → List Replied → Type 0
WasDone command rs = EndsWith (λ one. IsDone command one.reply) rs

-- a segment of the file was given last
abbrev pub GaveBytes : List Replied → Type 0
GaveBytes rs = EndsWith (λ one. (bytes : List ℕ) × (one.reply ≡ replies.Bytes 0 bytes)) rs

abbrev pub EndsAtSink : Command → List Replied → Type 0
EndsAtSink (machine.Restore name) rs = GaveBytes rs
EndsAtSink command rs = WasDone command rs

abbrev pub EndsAtSource : Command → List Replied → Type 0
EndsAtSource (machine.Ingest name) rs = MayGoOn (machine.Ingest name) rs
EndsAtSource command rs = ⊥

-- As its lines did: it was done, but perhaps for its reply, or of a `restore` for the bytes that were given last; the source of an `ingest`
-- failed where a line was to come; or it was refused as the last line was, or there was no memory for more, or a call of the disk failed.
abbrev pub EndsAs : Command → List Replied → Option Ending → Type 0
EndsAs command rs None = WasDone command rs
EndsAs command rs (Some Sink) = EndsAtSink command rs
EndsAs command rs (Some Source) = EndsAtSource command rs
EndsAs command rs (Some (Refused refusal)) = EndsRefused refusal rs ⊎ IsTrue (fails refusal)
EndsAs command rs (Some ending) = ⊥

-- What they print was written, or a first part of it where the sink failed. Of a command that ended otherwise nothing was, but of a
-- `restore` all that was given.
abbrev pub WritesRefused : Command → List ℕ → SinkView → SinkView → Type 0
WritesRefused (machine.Restore name) text sink sink_now = Appended sink.written sink_now.written text
WritesRefused command text sink sink_now = sink_now.written ≡ sink.written

abbrev pub WritesText : Command → Option Ending → List ℕ → SinkView → SinkView → Type 0
WritesText command None text sink sink_now = Appended sink.written sink_now.written text
WritesText command (Some Sink) text sink sink_now = AppendedPart sink.written sink_now.written text
WritesText command (Some ending) text sink sink_now = WritesRefused command text sink sink_now

-- ---- the map

-- the map after a command that is done
abbrev pub map_after : CommandLine → List ℕ → Found (List ℕ) → Found (List ℕ)
map_after (Ingest name) given now = with_name of_files name given now
map_after (Delete name) given now = without_name of_files name now
map_after command given now = now

-- It is that where the command was done, but perhaps for its reply; the map as it was where it ended otherwise; and one of both where a
-- write or a sync failed.
abbrev pub IsAfter : CommandLine → List ℕ → Option Ending → Found (List ℕ) → Found (List ℕ) → Type 0
IsAfter command given None now x = x ≡ map_after command given now
IsAfter command given (Some Sink) now x = x ≡ map_after command given now
IsAfter command given (Some (Refused DiskWrite)) now x = (x ≡ now) ⊎ (x ≡ map_after command given now)
IsAfter command given (Some ending) now x = x ≡ now

-- what the lines of an `ingest` gave comes first of what the source did, and is all of it where the name was to have it
abbrev pub Gave : CommandLine → List ℕ → List Replied → Type 0
Gave (Ingest name) given rs =
    IsFirstOf (given_by 0 [] rs) given × (EndsWith (λ one. one.line ≡ lines.Commit 0 name) rs → given_by 0 [] rs ≡ given)
Gave command given rs = Unit {0}

-- ---- what is left

-- What reads give at the end, and each image that a crash leaves then, is a store of what may be found at the last machine; and at any
-- moment of the call a crash leaves an image of the map as it was, or of what may be found at the last machine, or one that it might have
-- left before. Where the opening was refused, the map stays, and images of before may last.
abbrev pub LeavesBy : ReplyValue → (List ℕ → Type 0) → FileMachine → FileMachine → DiskView → DiskView → Type 0
LeavesBy (replies.Opened files) S m n disk disk_now =
    StandsFor S n disk_now × CrashLeaves (λ image. IsOfFound S m image ⊎ IsOfFound S n image) disk disk_now
LeavesBy reply S m n disk disk_now = LeavesFor S n disk disk_now × LeavesFound S m disk disk_now

-- which containers stand where they stood, byte for byte; each other one came since, under an id above all of before
abbrev pub KeepsSlots : Store → Store → List ℕ → List ℕ → Type 0
KeepsSlots opened store old new = (slot : ℕ) (h : HeaderValue) → HasContainer store slot h
    → (HasContainer opened slot h × (range (slot_at slot) SLOT_BYTES new ≡ range (slot_at slot) SLOT_BYTES old))
    ⊎ (last_id opened.held < h.id)

-- So a `collect` leaves the containers of the store that was opened, unless a write failed.
abbrev pub KeepsBytes : CommandLine → List Replied → FileMachine → FileMachine → DiskView → DiskView → Type 0
KeepsBytes (Collect percent) rs m n disk disk_now = (EndsRefused DiskWrite rs → ⊥) → Known disk.content (λ old. KnownWith disk_now.content
    (λ new. (opened : Store) × MakesRoom m opened × KeepsSlots opened n.store old new))
KeepsBytes command rs m n disk disk_now = Unit {0}

-- ---- all of it

-- where the store was opened
abbrev pub IfOpened : ReplyValue → Type 0 → Type 0
IfOpened (replies.Opened files) P = P
IfOpened reply P = Unit {0}

-- the opening was done; or it was refused, and so was the call, which ran no line
abbrev pub BeginsBy : ReplyValue → List Replied → Option Ending → Type 0
BeginsBy (replies.Opened files) rs ending = Unit {0}
BeginsBy (replies.Refused refusal) rs ending = (rs ≡ []) × (ending ≡ Some (Refused refusal))
BeginsBy reply rs ending = ⊥

-- The lines that the command ran, its opening first, come to what the plain map makes of it, from the machine m on: so what may be found at
-- its end is the map after the command, or the map as it was. What they print was written.
pub record AnswersByMap (S : List ℕ → Type 0) (command : CommandLine) (given : List ℕ) (rs : List Replied) (ending : Option Ending)
    (m : FileMachine) (old new : DiskAndSink) : Type 0 where
  pub first : ReplyValue
  pub begins : BeginsBy first rs ending
  pub next : FileMachine
  pub comes : ComesTo command (said lines.Reopen first ∷ rs) m next
  pub gave : Gave command given (said lines.Reopen first ∷ rs)
  pub ended : EndsAs (command_of command) (said lines.Reopen first ∷ rs) ending
  pub found : (x : Found (List ℕ)) → MayBeFound of_files next.state next.now x → IsAfter command given ending m.now x
  pub wrote : WritesText (command_of command) ending
      (printed (command_of command) (given_by 0 [] (said lines.Reopen first ∷ rs)) (said lines.Reopen first ∷ rs)) old.sink new.sink
  pub left : LeavesBy first S m next old.disk new.disk
  pub bytes : IfOpened first (KeepsBytes command (said lines.Reopen first ∷ rs) m next old.disk new.disk)

-- So it is of each call of the command, by what the top call says of it: from each machine at rest for which the content may stand, where
-- no two different data segments have one digest, of a set of those that the disk holds and that are given.
abbrev pub AnswersEachCall : (D : Type 0) → (D → DiskView) → CommandLine → Type 0
AnswersEachCall D view command = (given : List ℕ) (rs : List Replied) (ending : Option Ending) (old new : D)
    (source source_now : SourceView) (sink sink_now : SinkView)
    → DoesCommand D view command given rs ending (devices (view old) (view new) source source_now sink sink_now)
    → (among : ByteSet) (m : FileMachine) → HasNoCollisions (IsIn among) → ((bytes : List ℕ) → IsSegmentOf given bytes → IsIn among bytes)
    → m.state ≡ Running → KnownWith (view old).content (MayStand (IsIn among) m)
    → AnswersByMap (IsIn among) command given rs ending m (disk_and_sink (view old) sink) (disk_and_sink (view new) sink_now)
