-- Single commands as lines of a script: `ingest` and `restore` are lines of the first actor, `delete` and `list` are one line each,
-- `collect` is two; they only print in another way (docs/MODEL.md, 'From the machine to `backup`').
use Rattle.std.specs.Prelude.{◌≡◌, ◌⊎◌, ◌≤◌, ℕ, ◌+◌, ◌*◌, List, [], ◌∷◌, ◌++◌, length, Option, Some, None}
use Rattle.std.specs.List.{concat}
use Rattle.base_model.specs.Known.{Appended, Known}
use Rattle.dd_disk.specs.Shows.{Shows}
use Rattle.dd_disk.specs.View.{DiskView}
use Rattle.dd_io.specs.Flow.{SinkView, SourceView}
use Rattle.store_machine.specs.Commands.{Replied}
use Rattle.namespace.specs.Listing.{NamedRoot}
use Rattle.recovery.specs.Opening.{IsOpenRefusal}
use Rattle.refusals.specs.declared.refusal.Refusal.{Refusal}
use Rattle.refusals.specs.declared.refusal.Refusal.TheVariants.{Memory}
use Rattle.reply_text.specs.declared.ending.Ending.{Ending}
use Rattle.reply_text.specs.declared.ending.Ending.TheVariants.{Source, Sink, Refused}
use Rattle.reply_text.specs.Text.{deleted_line, listing_text}
use Rattle.script_lines.specs.Grammar.{IsHex, LineValue, pushed_bytes}
use Rattle.script_lines.specs.Grammar as lines
use Rattle.script_lines.specs.ReplyValue.{ReplyValue}
use Rattle.script_lines.specs.ReplyValue as replies
use Rattle.session_turns.specs.declared.turns.TheConstants.{MOST_PIECE}
use Rattle.backup_engine.specs.Collected.{collected_line}
use Rattle.backup_engine.specs.Line.{CommandLine, Format, Ingest, Restore, Delete, Collect}
use Rattle.backup_engine.specs.Line as table
use Rattle.backup_engine.specs.Promise.{WroteReply}
use Rattle.backup_engine.specs.Seen.{Devices}

-- a line, and what it replied
abbrev pub said : LineValue → ReplyValue → Replied
said line reply = record { line = line; reply = reply }

-- a line that was refused
abbrev pub refused : LineValue → Refusal → Replied
refused line refusal = said line (replies.Refused refusal)

-- ---- a file that is taken in

-- what a push may say: hexadecimal digits, within the limit
pub record Digits : Type 0 where
  pub digits : List ℕ
  pub right : IsHex digits
  pub few : length digits ≤ 2 * MOST_PIECE

-- the bytes that some pushes have, put together
abbrev pub pushed : List Digits → List ℕ
pushed [] = []
pushed (d ∷ more) = pushed_bytes d.digits ++ pushed more

-- A line for each push, after so many bytes: it was done, and its reply counts all of them.
abbrev pub push_lines : ℕ → List Digits → List Replied
push_lines count [] = []
push_lines count (d ∷ more) =
    said (lines.Push 0 d.digits) (replies.Pushed 0 (count + length (pushed_bytes d.digits)))
    ∷ push_lines (count + length (pushed_bytes d.digits)) more

-- and the file has ended
abbrev pub finish_lines : List Digits → List Replied
finish_lines pushes = push_lines 0 pushes ++ said (lines.Finish 0) (replies.Finished 0 (length (pushed pushes))) ∷ []

-- it was begun
abbrev pub begun : Replied
begun = said (lines.Begin 0) (replies.Begun 0)

-- these bytes come first of those
abbrev pub IsFirstOf : List ℕ → List ℕ → Type 0
IsFirstOf first all = (rest : List ℕ) × (all ≡ first ++ rest)

-- the bytes taken so far, and the rest that the source has left
pub record TakenSoFar (first now : Option (List ℕ)) (bytes : List ℕ) : Type 0 where
  pub rest : Known first (λ all. (rest : List ℕ) × (all ≡ bytes ++ rest) × (now ≡ Some rest))

-- These bytes, first of the file, were given, and the source has the rest left.
abbrev pub GaveFirst : List ℕ → List ℕ → SourceView → SourceView → Type 0
GaveFirst bytes given source source_now = IsFirstOf bytes given × TakenSoFar source.left source_now.left bytes

-- A line after `begin 0` was refused: a push of what the source gave last, the file's end, or its name.
abbrev pub StopsAt : List ℕ → List ℕ → SourceView → SourceView → Refusal → List Replied → Type 0
StopsAt name given source source_now refusal rs =
    (pushes : List Digits) × (((d : Digits) × (GaveFirst (pushed pushes ++ pushed_bytes d.digits) given source source_now
    × (rs ≡ push_lines 0 pushes ++ refused (lines.Push 0 d.digits) refusal ∷ [])))
    ⊎ ((pushed pushes ≡ given) × (rs ≡ push_lines 0 pushes ++ refused (lines.Finish 0) refusal ∷ []))
    ⊎ ((pushed pushes ≡ given) × (rs ≡ finish_lines pushes ++ refused (lines.Commit 0 name) refusal ∷ [])))

-- The file was pushed, whole, and committed.
abbrev pub StoresFile : List ℕ → List ℕ → List Replied → Type 0
StoresFile name given rs =
    (pushes : List Digits) × ((sequence : ℕ) × ((pushed pushes ≡ given)
    × (rs ≡ begun ∷ finish_lines pushes ++ said (lines.Commit 0 name) (replies.Committed 0 sequence) ∷ [])))

-- The lines of an `ingest` of these bytes: all of them, though perhaps the program's own reply wasn't written; or pushes of all that the
-- source gave before it failed; or up to a line that was refused. Where no line was run, there was no memory.
abbrev pub IsIngest : List ℕ → List ℕ → Option Ending → SourceView → SourceView → List Replied → Type 0
IsIngest name given None source source_now rs = StoresFile name given rs
IsIngest name given (Some Sink) source source_now rs = StoresFile name given rs
IsIngest name given (Some Source) source source_now rs =
    (pushes : List Digits) × (GaveFirst (pushed pushes) given source source_now × (rs ≡ begun ∷ push_lines 0 pushes))
IsIngest name given (Some (Refused refusal)) source source_now rs =
    ((refusal ≡ Memory) × (rs ≡ []))
    ⊎ ((more : List Replied) × ((rs ≡ begun ∷ more) × StopsAt name given source source_now refusal more))
IsIngest name given (Some ending) source source_now rs = ⊥

-- ---- a file that is given back

-- a line for each segment
abbrev pub next_lines : List (List ℕ) → List Replied
next_lines [] = []
next_lines (bytes ∷ more) = said (lines.Next 0) (replies.Bytes 0 bytes) ∷ next_lines more

-- The name was read, and then these segments, up to this last line.
abbrev pub ReadsFile : List ℕ → List (List ℕ) → Replied → List Replied → Type 0
ReadsFile name segments last rs =
    (count : ℕ) × (rs ≡ said (lines.Read 0 name) (replies.Reading 0 count) ∷ next_lines segments ++ last ∷ [])

-- The lines of a `restore`, and what was written: the bytes that the segments have, up to the end of the file; or of the last segment
-- the sink took a first part alone; or a line was refused. Where no line was run, there was no memory.
abbrev pub IsRestore : List ℕ → Option Ending → SinkView → SinkView → List Replied → Type 0
IsRestore name None sink sink_now rs =
    (segments : List (List ℕ)) × (ReadsFile name segments (said (lines.Next 0) (replies.End 0)) rs
    × Appended sink.written sink_now.written (concat segments))
IsRestore name (Some Sink) sink sink_now rs =
    (segments : List (List ℕ)) × ((last : List ℕ) × (ReadsFile name segments (said (lines.Next 0) (replies.Bytes 0 last)) rs
    × ((part : List ℕ) × (IsFirstOf part last × Appended sink.written sink_now.written (concat segments ++ part)))))
IsRestore name (Some (Refused refusal)) sink sink_now rs =
    ((refusal ≡ Memory) × (rs ≡ []) × (sink_now.written ≡ sink.written))
    ⊎ ((rs ≡ refused (lines.Read 0 name) refusal ∷ []) × (sink_now.written ≡ sink.written))
    ⊎ ((segments : List (List ℕ)) × (ReadsFile name segments (refused (lines.Next 0) refusal) rs
    × Appended sink.written sink_now.written (concat segments)))
IsRestore name (Some ending) sink sink_now rs = ⊥

-- ---- names

-- one line, and what it replied
abbrev pub IsOne : LineValue → ReplyValue → List Replied → Type 0
IsOne line reply rs = rs ≡ said line reply ∷ []

-- The line of a `delete`, and what was written: its own reply, where the line was done. Where no line was run, there was no memory.
abbrev pub IsDelete : List ℕ → Option Ending → SinkView → SinkView → List Replied → Type 0
IsDelete name None sink sink_now rs =
    ((sequence : ℕ) × IsOne (lines.Delete name) (replies.Deleted sequence) rs) × WroteReply (deleted_line name) None sink sink_now
IsDelete name (Some Sink) sink sink_now rs =
    ((sequence : ℕ) × IsOne (lines.Delete name) (replies.Deleted sequence) rs) × WroteReply (deleted_line name) (Some Sink) sink sink_now
IsDelete name (Some (Refused refusal)) sink sink_now rs =
    (((refusal ≡ Memory) × (rs ≡ [])) ⊎ IsOne (lines.Delete name) (replies.Refused refusal) rs) × (sink_now.written ≡ sink.written)
IsDelete name (Some ending) sink sink_now rs = ⊥

-- The line of a `list`, and what was written: the names that it replied with. Where there was no memory for that, or no line was run,
-- nothing was.
abbrev pub IsListing : Option Ending → SinkView → SinkView → List Replied → Type 0
IsListing None sink sink_now rs =
    (files : List NamedRoot) × (IsOne lines.ListNames (replies.Listed files) rs × WroteReply (listing_text files) None sink sink_now)
IsListing (Some Sink) sink sink_now rs =
    (files : List NamedRoot) × (IsOne lines.ListNames (replies.Listed files) rs × WroteReply (listing_text files) (Some Sink) sink sink_now)
IsListing (Some (Refused refusal)) sink sink_now rs =
    (((refusal ≡ Memory) × ((rs ≡ []) ⊎ ((files : List NamedRoot) × IsOne lines.ListNames (replies.Listed files) rs)))
    ⊎ IsOne lines.ListNames (replies.Refused refusal) rs) × (sink_now.written ≡ sink.written)
IsListing (Some ending) sink sink_now rs = ⊥

-- ---- a collection

-- one began
abbrev pub collecting : ℕ → ℕ → Replied
collecting percent snapshot = said (lines.Gc percent) (replies.Collecting snapshot)

-- it began, went on to its end, gave so many containers back, and copied so many segments
abbrev pub Sweeps : ℕ → ℕ → ℕ → List Replied → Type 0
Sweeps percent freed copied rs =
    (snapshot : ℕ) × (rs ≡ collecting percent snapshot ∷ said lines.Sweep (replies.Collected freed copied) ∷ [])

-- The lines of a `collect`, and what was written: how many containers were given back, and how many segments copied. Where there was no
-- memory for that, where a line was refused, or none was run, nothing was.
abbrev pub IsCollect : ℕ → Option Ending → SinkView → SinkView → List Replied → Type 0
IsCollect percent None sink sink_now rs =
    (freed copied : ℕ) × (Sweeps percent freed copied rs × WroteReply (collected_line freed copied) None sink sink_now)
IsCollect percent (Some Sink) sink sink_now rs =
    (freed copied : ℕ) × (Sweeps percent freed copied rs × WroteReply (collected_line freed copied) (Some Sink) sink sink_now)
IsCollect percent (Some (Refused refusal)) sink sink_now rs =
    (((refusal ≡ Memory) × ((rs ≡ []) ⊎ ((freed copied : ℕ) × Sweeps percent freed copied rs)))
    ⊎ IsOne (lines.Gc percent) (replies.Refused refusal) rs
    ⊎ ((snapshot : ℕ) × (rs ≡ collecting percent snapshot ∷ refused lines.Sweep refusal ∷ []))) × (sink_now.written ≡ sink.written)
IsCollect percent (Some ending) sink sink_now rs = ⊥

-- ---- all of them

-- the store was not read, for its cause, so no line was run, and nothing was written to the sink
pub record OpensNone (ending : Option Ending) (rs : List Replied) (disk disk_now : DiskView) (sink sink_now : SinkView) : Type 0 where
  pub refusal : Refusal
  pub ending_is : ending ≡ Some (Refused refusal)
  pub none : rs ≡ []
  pub cause : IsOpenRefusal (Shows disk disk_now) disk.size refusal
  pub wrote : sink_now.written ≡ sink.written

-- A single command as lines of a script, of which AreSo holds; or none was run.
abbrev pub Speaks : (List Replied → Type 0) → Option Ending → List Replied → DiskView → DiskView → SinkView → SinkView → Type 0
Speaks AreSo ending rs disk disk_now sink sink_now = AreSo rs ⊎ OpensNone ending rs disk disk_now sink sink_now

-- A `format` has no lines, and nothing is said of it here.
abbrev pub SpeaksAs : CommandLine → List ℕ → Option Ending → List Replied → Devices → Type 0
SpeaksAs (Format slots) given ending rs saw = rs ≡ []
SpeaksAs (Ingest name) given ending rs saw =
    Speaks (IsIngest name given ending saw.source saw.source_now) ending rs saw.disk saw.disk_now saw.sink saw.sink_now
SpeaksAs (Restore name) given ending rs saw =
    Speaks (IsRestore name ending saw.sink saw.sink_now) ending rs saw.disk saw.disk_now saw.sink saw.sink_now
SpeaksAs (Delete name) given ending rs saw =
    Speaks (IsDelete name ending saw.sink saw.sink_now) ending rs saw.disk saw.disk_now saw.sink saw.sink_now
SpeaksAs table.List given ending rs saw =
    Speaks (IsListing ending saw.sink saw.sink_now) ending rs saw.disk saw.disk_now saw.sink saw.sink_now
SpeaksAs (Collect percent) given ending rs saw =
    Speaks (IsCollect percent ending saw.sink saw.sink_now) ending rs saw.disk saw.disk_now saw.sink saw.sink_now
