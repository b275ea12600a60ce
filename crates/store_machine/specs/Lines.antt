-- Lines of a script: each is a short run of steps, beside the bytes that actors have given (docs/MODEL.md, 'Scripts').
use Rattle.std.specs.Prelude.{◌≡◌, ◌⊎◌, ℕ, ◌<◌, ◌≤◌, Bool, true, false, List, [], ◌∷◌, ◌++◌, length, if◌then◌else◌, slice_index_or, slice_set, Option, Some, None, Result, Ok, Err}
use Rattle.actor_parts.specs.declared.step.Answer.{Answer}
use Rattle.actor_parts.specs.declared.step.Answer.TheVariants as answers
use Rattle.disk_format.specs.declared.numbers.TheConstants.{MOST_FILE}
use Rattle.ingest_session.specs.declared.due.Due.{Due}
use Rattle.ingest_session.specs.declared.due.Due.TheVariants as dues
use Rattle.ingest_session.specs.Due.{offered_in}
use Rattle.ingest_session.specs.declared.queue.TheConstants.{MOST_WAITING}
use Rattle.ingest_session.specs.DueFor.{IsDueFor}
use Rattle.ingest_session.specs.History.{History, HasHistory}
use Rattle.ingest_session.specs.Moving.{IsOffered}
use Rattle.ingest_session.specs.Settling.{seen}
use Rattle.ingest_session.specs.State.{SessionState}
use Rattle.refusals.specs.declared.refusal.PartKind.{PartKind}
use Rattle.refusals.specs.declared.refusal.PartKind.TheVariants as kinds
use Rattle.refusals.specs.declared.refusal.Refusal.{Refusal}
use Rattle.refusals.specs.declared.refusal.Refusal.TheVariants.{Memory, TooLong, WrongPart, Stopped as IsStopped}
use Rattle.script_lines.specs.declared.reply.Turned.TheVariants as turns
use Rattle.script_lines.specs.Grammar.{LineValue, pushed_bytes}
use Rattle.script_lines.specs.Grammar as lines
use Rattle.script_lines.specs.ReplyValue.{ReplyValue}
use Rattle.script_lines.specs.ReplyValue as replies
use Rattle.store_machine.specs.Asked.{Asked}
use Rattle.store_machine.specs.Asked as asked
use Rattle.store_machine.specs.Done.{Done}
use Rattle.store_machine.specs.Done as done
use Rattle.store_machine.specs.Machine.{Machine, Running, Stopped, Stepped, kind_of, part_in}
use Rattle.store_machine.specs.Runs.{Run}
use Rattle.store_machine.specs.Values.{Values}

-- ---- what actors have given

-- a file that is given: these bytes so far, or all of it; and what was answered to its turns
pub record Session : Type 0 where
  pub given : List ℕ
  pub ended : Bool
  pub answers : List Answer

abbrev pub new_session : Session
new_session = record { given = []; ended = false; answers = [] }

pub record Desk (V R : Type 0) : Type 0 where
  pub machine : Machine V R
  pub sessions : List (Option Session)

-- no actor gives a file
abbrev pub all_none : List (Option Session) → List (Option Session)
all_none [] = []
all_none (s ∷ ss) = None ∷ all_none ss

-- ---- what is replied to a step

abbrev pub reply_of : ℕ → Result Done Refusal → ReplyValue
reply_of a (Ok done.Begun) = replies.Begun a
reply_of a (Ok done.Held) = replies.Turn a turns.Held
reply_of a (Ok done.Absent) = replies.Turn a turns.Absent
reply_of a (Ok (done.Sealed id count)) = replies.Turn a (turns.Sealed id)
reply_of a (Ok (done.Committed sequence)) = replies.Committed a sequence
reply_of a (Ok done.Aborted) = replies.Aborted a
reply_of a (Ok (done.Opened count)) = replies.Reading a count
reply_of a (Ok (done.Bytes bytes)) = replies.Bytes a bytes
reply_of a (Ok done.End) = replies.End a
reply_of a (Ok done.Dropped) = replies.Dropped a
reply_of a (Ok (done.Deleted sequence)) = replies.Deleted sequence
reply_of a (Ok (done.Listed files)) = replies.Listed files
reply_of a (Ok (done.Started snapshot)) = replies.Collecting snapshot
reply_of a (Ok (done.Did phase)) = replies.Step phase
reply_of a (Ok (done.Collected freed copied)) = replies.Collected freed copied
reply_of a (Ok (done.Counted files segments bytes used free)) =
    replies.Stat (record { files = files; segments = segments; bytes = bytes; used = used; free = free })
reply_of a (Ok (done.Unique segments bytes)) = replies.Unique segments bytes
reply_of a (Ok (done.Reopened files)) = replies.Opened files
reply_of a (Err refusal) = replies.Refused refusal

-- what a session is told of an answer
abbrev pub answer_of : Result Done Refusal → Option Answer
answer_of (Ok done.Held) = Some answers.Held
answer_of (Ok done.Absent) = Some answers.Absent
answer_of (Ok (done.Sealed id count)) = Some (answers.Sealed id count)
answer_of told = None

-- what it was, where the line was refused
abbrev pub unless_refused : {A : Type 0} → ReplyValue → A → A → A
unless_refused (replies.Refused refusal) now old = old
unless_refused reply now old = now

-- ---- what an actor has to be at

abbrev pub kind_by : Option Session → PartKind → PartKind
kind_by None kind = kind
kind_by (Some s) kind = if s.ended then kinds.Finished else kinds.Writing

abbrev pub actor_of : LineValue → Option ℕ
actor_of (lines.Begin a) = Some a
actor_of (lines.Push a digits) = Some a
actor_of (lines.Finish a) = Some a
actor_of (lines.Turn a) = Some a
actor_of (lines.Commit a name) = Some a
actor_of (lines.Abort a) = Some a
actor_of (lines.Read a name) = Some a
actor_of (lines.Next a) = Some a
actor_of (lines.Drop a) = Some a
actor_of line = None

abbrev pub takes : LineValue → PartKind → Bool
takes (lines.Begin a) kinds.Idle = true
takes (lines.Push a digits) kinds.Writing = true
takes (lines.Finish a) kinds.Writing = true
takes (lines.Turn a) kinds.Writing = true
takes (lines.Turn a) kinds.Finished = true
takes (lines.Commit a name) kinds.Finished = true
takes (lines.Abort a) kinds.Writing = true
takes (lines.Abort a) kinds.Finished = true
takes (lines.Read a name) kinds.Idle = true
takes (lines.Next a) kinds.Reading = true
takes (lines.Drop a) kinds.Reading = true
takes line kind = false

module _ {V R : Type 0} (v : Values V R) where
  abbrev pub session_of : Desk V R → ℕ → Option Session
  session_of d a = slice_index_or d.sessions a None

  abbrev pub with_session : ℕ → Option Session → Desk V R → List (Option Session)
  with_session a session d = slice_set d.sessions a session

  abbrev pub kind_at : Desk V R → ℕ → PartKind
  kind_at d a = kind_by (session_of d a) (kind_of (part_in d.machine a))

  -- ---- turns

  -- a step is due of a session: a claim of the item whose turn it is, or a seal of the containers that it offers
  abbrev pub Asks : Due → SessionState → Asked V → Type 0
  Asks dues.Claim s (asked.Claim seg) = IsOffered s seg
  Asks (dues.Seal kind) s (asked.Seal offered) = offered ≡ offered_in s kind
  Asks due s step = ⊥

  abbrev pub IsDueStep : Session → Asked V → Type 0
  IsDueStep s step = (due : Due) × (is : IsDueFor s.given s.ended s.answers due) × Asks due is.session step

  abbrev pub NothingIsDue : Session → Type 0
  NothingIsDue s = IsDueFor s.given s.ended s.answers dues.Nothing

  -- These turns of an actor were made, each as it was due.
  abbrev pub AreTurns : ℕ → List (Stepped V) → Session → Session → Type 0
  AreTurns a [] s t = t ≡ s
  AreTurns a (x ∷ xs) s t = (x.actor ≡ a) × IsDueStep s x.asked
      × ((answer : Answer) × (answer_of x.answer ≡ Some answer) × AreTurns a xs (record s { answers = s.answers ++ answer ∷ [] }) t)

  abbrev pub step_of : ℕ → Asked V → Result Done Refusal → Stepped V
  step_of a step told = record { actor = a; asked = step; answer = told }

  -- Turns were made, and perhaps one more step, which was answered so; and nothing else of the machine changed.
  abbrev pub Ends : ℕ → List (Stepped V) → Asked V → ReplyValue → List (Stepped V) → Type 0
  Ends a made step reply ss = (told : Result Done Refusal) × (ss ≡ made ++ step_of a step told ∷ []) × (reply ≡ reply_of a told)

  -- after these turns the next one was refused, or there was no memory
  abbrev pub StopsAfter : ℕ → List (Stepped V) → Session → ReplyValue → List (Stepped V) → Type 0
  StopsAfter a made t reply ss = (refusal : Refusal) × (reply ≡ replies.Refused refusal)
      × (((refusal ≡ Memory) × (ss ≡ made)) ⊎ ((step : Asked V) × IsDueStep t step × Ends a made step reply ss))

  abbrev pub TurnsStop : ℕ → Session → ReplyValue → List (Stepped V) → Session → Type 0
  TurnsStop a s reply ss t = (made : List (Stepped V)) × AreTurns a made s t × StopsAfter a made t reply ss

  -- more segments wait, of what was given, than a push leaves
  abbrev pub IsCrowded : Session → Type 0
  IsCrowded s = (x : SessionState) × (h : History) × HasHistory x h × (h.given ≡ s.given) × (h.answers ≡ s.answers) × (x.ended ≡ s.ended)
      × (MOST_WAITING < seen x)

  -- each of these turns was made while that was so
  abbrev pub AreForRoom : Session → List (Stepped V) → Type 0
  AreForRoom s [] = Unit {0}
  AreForRoom s (x ∷ xs) = IsCrowded s
      × ((answer : Answer) → answer_of x.answer ≡ Some answer → AreForRoom (record s { answers = s.answers ++ answer ∷ [] }) xs)

  -- ---- lines, where the actor is at what they take

  -- the session of the actor was one, and is another or none
  abbrev pub Moves : ℕ → Session → Option Session → Desk V R → Desk V R → Type 0
  Moves a s after d e = (session_of d a ≡ Some s) × (e.sessions ≡ with_session a after d)

  abbrev pub Pushes : ℕ → List ℕ → ReplyValue → List (Stepped V) → Desk V R → Desk V R → Type 0
  Pushes a bytes reply ss d e = (s t : Session) × Moves a s (Some (unless_refused reply (record t { given = t.given ++ bytes }) t)) d e
      × AreForRoom s ss
      × ((AreTurns a ss s t × (((reply ≡ replies.Pushed a (length (t.given ++ bytes))) × (length (t.given ++ bytes) ≤ MOST_FILE))
      ⊎ ((reply ≡ replies.Refused TooLong) × (MOST_FILE < length (t.given ++ bytes)))))
      ⊎ TurnsStop a s reply ss t)

  abbrev pub Finishes : ℕ → ReplyValue → List (Stepped V) → Desk V R → Desk V R → Type 0
  Finishes a reply ss d e = (s : Session) × Moves a s (Some (unless_refused reply (record s { ended = true }) s)) d e × (ss ≡ [])
      × ((reply ≡ replies.Finished a (length s.given)) ⊎ (reply ≡ replies.Refused Memory))

  abbrev pub Turns : ℕ → ReplyValue → List (Stepped V) → Desk V R → Desk V R → Type 0
  Turns a reply ss d e = (s t : Session) × Moves a s (Some t) d e
      × (((step : Asked V) × (told : Result Done Refusal) × (ss ≡ step_of a step told ∷ []) × AreTurns a ss s t × (reply ≡ reply_of a told))
      ⊎ ((ss ≡ []) × (t ≡ s) × NothingIsDue s × (reply ≡ replies.Turn a turns.Idle))
      ⊎ ((t ≡ s) × StopsAfter a [] s reply ss))

  -- all turns that are due are made, and then the name is given what was given
  abbrev pub Commits : ℕ → List ℕ → ReplyValue → List (Stepped V) → Desk V R → Desk V R → Type 0
  Commits a name reply ss d e = (s t : Session) × Moves a s (unless_refused reply None (Some t)) d e
      × (((made : List (Stepped V)) × AreTurns a made s t × NothingIsDue t × Ends a made (asked.Commit name (v.of t.given)) reply ss)
      ⊎ TurnsStop a s reply ss t)

  -- a line that is one step, whatever was given
  abbrev pub IsStep : LineValue → ℕ → Asked V → Type 0
  IsStep (lines.Read a name) actor step = (actor ≡ a) × (step ≡ asked.OpenRead name)
  IsStep (lines.Next a) actor step = (actor ≡ a) × (step ≡ asked.ReadNext)
  IsStep (lines.Drop a) actor step = (actor ≡ a) × (step ≡ asked.EndRead)
  IsStep (lines.Delete name) actor step = step ≡ asked.Delete name
  IsStep lines.ListNames actor step = step ≡ asked.ListNames
  IsStep (lines.Gc percent) actor step = step ≡ asked.GcStart percent
  IsStep lines.GcStep actor step = step ≡ asked.GcStep
  IsStep lines.Stat actor step = step ≡ asked.Stat
  IsStep lines.Unique actor step = step ≡ asked.Unique
  IsStep line actor step = ⊥

  -- collection steps went on, up to one that was its end, or was refused
  abbrev pub AreDid : List (Stepped V) → Type 0
  AreDid [] = Unit {0}
  AreDid (x ∷ xs) = (x.asked ≡ asked.GcStep) × ((phase : _) × (x.answer ≡ Ok (done.Did phase))) × AreDid xs

  abbrev pub IsLast : ReplyValue → Type 0
  IsLast (replies.Collected freed copied) = Unit {0}
  IsLast (replies.Refused refusal) = Unit {0}
  IsLast reply = ⊥

  abbrev pub Acts : LineValue → ReplyValue → List (Stepped V) → Desk V R → Desk V R → Type 0
  Acts (lines.Begin a) reply ss d e = (e.sessions ≡ with_session a (unless_refused reply (Some new_session) (session_of d a)) d)
      × (Ends a [] asked.Begin reply ss ⊎ ((reply ≡ replies.Refused Memory) × (ss ≡ [])))
  Acts (lines.Push a digits) reply ss d e = Pushes a (pushed_bytes digits) reply ss d e
  Acts (lines.Finish a) reply ss d e = Finishes a reply ss d e
  Acts (lines.Turn a) reply ss d e = Turns a reply ss d e
  Acts (lines.Commit a name) reply ss d e = Commits a name reply ss d e
  Acts (lines.Abort a) reply ss d e = (s : Session) × Moves a s (unless_refused reply None (Some s)) d e × Ends a [] asked.Abort reply ss
  Acts lines.Sweep reply ss d e =
      (made : List (Stepped V)) × (a : ℕ) × AreDid made × Ends a made asked.GcStep reply ss × IsLast reply × (e.sessions ≡ d.sessions)
  Acts line reply ss d e = (a : ℕ) × (step : Asked V) × IsStep line a step × Ends a [] step reply ss × (e.sessions ≡ d.sessions)

  -- ---- a line

  -- it is barred before a step is made: the store is stopped, or the actor is at something else than the line takes
  abbrev pub Bars : LineValue → Desk V R → Refusal → Type 0
  Bars line d (IsStopped at) = ((other : _) × (stores : _) × (d.machine.state ≡ Stopped other stores)) × (at ≡ d.machine.acknowledged)
  Bars line d (WrongPart kind) =
      (d.machine.state ≡ Running) × ((a : ℕ) × (actor_of line ≡ Some a) × (kind ≡ kind_at d a) × (takes line kind ≡ false))
  Bars line d refusal = ⊥

  abbrev pub Admits : LineValue → Desk V R → Type 0
  Admits line d = (d.machine.state ≡ Running) × ((a : ℕ) → actor_of line ≡ Some a → takes line (kind_at d a) ≡ true)

  -- what a line that made these steps replied
  abbrev pub Says : LineValue → ReplyValue → List (Stepped V) → Desk V R → Desk V R → Type 0
  Says lines.Reopen reply ss d e =
      ((a : ℕ) × Ends a [] asked.Reopen reply ss) × (e.sessions ≡ unless_refused reply (all_none d.sessions) d.sessions)
  Says line reply ss d e = (Admits line d × Acts line reply ss d e)
      ⊎ ((refusal : Refusal) × Bars line d refusal × (reply ≡ replies.Refused refusal) × (ss ≡ []) × (e.sessions ≡ d.sessions))

  -- A line: it made these steps, and replied so.
  abbrev pub Line : LineValue → ReplyValue → List (Stepped V) → Desk V R → Desk V R → Type 0
  Line line reply ss d e = Run v ss d.machine e.machine × Says line reply ss d e
