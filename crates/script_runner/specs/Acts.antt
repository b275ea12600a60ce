-- What each line does to the core and to the sessions of a runner: which steps were made, and what was answered.
use Rattle.std.specs.Prelude.{◌≡◌, ◌⊎◌, ◌<◌, ℕ, ◌+◌, ◌-◌, ◌^◌, true, false, min, List, [], ◌∷◌, replicate, take, Option, Some, None, Result, Ok, Err}
use Rattle.disk_format.specs.Cells.{Root}
use Rattle.actor_parts.specs.declared.actor.TheConstants.{ACTORS}
use Rattle.actor_parts.specs.declared.step.Answer.{Answer}
use Rattle.actor_parts.specs.declared.step.Answer.TheVariants as answers
use Rattle.actor_parts.specs.StepValue as asked
use Rattle.actor_parts.specs.StepValue.{StepValue}
use Rattle.namespace.specs.Listing.{NamedRoot}
use Rattle.refusals.specs.declared.refusal.Phase.{Phase}
use Rattle.refusals.specs.declared.refusal.Refusal.{Refusal}
use Rattle.refusals.specs.declared.refusal.Refusal.TheVariants.{Memory, Stopped, WrongPart}
use Rattle.script_lines.specs.declared.reply.Holdings.{Holdings}
use Rattle.script_lines.specs.declared.reply.Turned.{Turned}
use Rattle.script_lines.specs.declared.reply.Turned.TheVariants as turns
use Rattle.script_lines.specs.Grammar.{LineValue, pushed_bytes}
use Rattle.script_lines.specs.Grammar as lines
use Rattle.script_lines.specs.ReplyText.{reply_line}
use Rattle.script_lines.specs.ReplyValue.{ReplyValue}
use Rattle.script_lines.specs.ReplyValue as replies
use Rattle.ingest_session.specs.declared.due.Due.TheVariants.{Nothing}
use Rattle.ingest_session.specs.Calls.{IsEnding, ready_in}
use Rattle.ingest_session.specs.Due.{due_in}
use Rattle.ingest_session.specs.History.{History, HasHistory, IsBegun, no_history}
use Rattle.ingest_session.specs.State.{SessionState}
use Rattle.store_core.specs.declared.stop.Stop.{Stop}
use Rattle.store_core.specs.Core.{CoreStep}
use Rattle.store_core.specs.Opening.{OpensCore, OpensNone, StaysOrStops}
use Rattle.store_core.specs.State.{CoreState}
use Rattle.store_machine.specs.Lines.{actor_of, takes}
use Rattle.script_runner.specs.Sessions.{Sessions, kind_in, session_of, with_session}
use Rattle.session_turns.specs.Turns.{Feeds, SessionMoment, TakesTurn, TurnRun, TurnsStopped, session_at}

-- ---- which lines are taken

-- the actor of a line is one that there is
abbrev pub IsOfActor : LineValue → Type 0
IsOfActor line = (actor : ℕ) → actor_of line ≡ Some actor → actor < ACTORS

-- the store runs, and the actor of the line, if it has one, is at what the line takes
pub record Admits (line : LineValue) (sessions : Sessions) (old : CoreState) : Type 0 where
  pub runs : old.stop ≡ None
  pub taken : (actor : ℕ) → actor_of line ≡ Some actor → takes line (kind_in sessions old.parts actor) ≡ true

-- or not: the store is stopped; or else the actor is at something that the line doesn't take
abbrev pub BarsBy : Option Stop → LineValue → Sessions → CoreState → Refusal → Type 0
BarsBy (Some stop) line sessions old refusal = refusal ≡ Stopped stop.at
BarsBy None line sessions old refusal =
    (actor : ℕ) × (actor_of line ≡ Some actor) × (takes line (kind_in sessions old.parts actor) ≡ false)
    × (refusal ≡ WrongPart (kind_in sessions old.parts actor))

abbrev pub Bars : LineValue → Sessions → CoreState → Refusal → Type 0
Bars line sessions old refusal = BarsBy old.stop line sessions old refusal

-- ---- steps

-- a step of an actor, and what the buffer then held
abbrev pub StepOf : ℕ → StepValue → Result Answer Refusal → List ℕ → CoreState → CoreState → Type 0
StepOf actor step answer buf old new = CoreStep old (record { actor = actor; step = step; answer = answer; buf = buf }) new

-- A step that was done, with its answer; or refused.
abbrev pub DoesStep : ℕ → StepValue → Answer → CoreState → CoreState → Type 0
DoesStep actor step answer old new = (buf : List ℕ) × StepOf actor step (Ok answer) buf old new

abbrev pub RefusesStep : ℕ → StepValue → Refusal → CoreState → CoreState → Type 0
RefusesStep actor step refusal old new = (buf : List ℕ) × StepOf actor step (Err refusal) buf old new

-- the text of a reply with a number, of which P holds
abbrev pub IsText : (ℕ → ReplyValue) → (ℕ → Type 0) → List ℕ → Type 0
IsText reply P text = (n : ℕ) × ((text ≡ reply_line (reply n)) × P n)

-- the core of a runner, and the sessions of its actors
pub record RunnerState (C : Type 0) : Type 0 where
  pub core : C
  pub sessions : Sessions

-- ---- a file that is given

-- a session was begun
abbrev pub Begins : (C : Type 0) → (C → CoreState) → ℕ → Result Unit Refusal → Sessions → Sessions → C → C → Type 0
Begins C state actor (Ok u) sessions sessions_now old new =
    (answer : Answer) × (s : SessionState) × DoesStep actor asked.Begin answer (state old) (state new) × IsBegun s
    × HasHistory s no_history × (sessions_now ≡ with_session sessions actor (Some s))
Begins C state actor (Err refusal) sessions sessions_now old new =
    (((refusal ≡ Memory) × (new ≡ old)) ⊎ RefusesStep actor asked.Begin refusal (state old) (state new)) × (sessions_now ≡ sessions)

-- the session of the actor was this one, and is that one
abbrev pub Replaces : ℕ → SessionState → SessionState → Sessions → Sessions → Type 0
Replaces actor s t sessions sessions_now = (session_of sessions actor ≡ Some s) × (sessions_now ≡ with_session sessions actor (Some t))

-- bytes were given; the count is that of all that were given
abbrev pub Pushes : (C : Type 0) → (C → CoreState) → ℕ → List ℕ → Result ℕ Refusal → RunnerState C → RunnerState C → Type 0
Pushes C state actor bytes (Ok count) old new =
    (s : SessionState) × (t : SessionState) × Replaces actor s t old.sessions new.sessions
    × Feeds C state actor (Ok tt) bytes (session_at s old.core) (session_at t new.core) × (count ≡ t.count)
Pushes C state actor bytes (Err refusal) old new =
    (s : SessionState) × (t : SessionState) × Replaces actor s t old.sessions new.sessions
    × Feeds C state actor (Err refusal) bytes (session_at s old.core) (session_at t new.core)

-- all was given
abbrev pub Finishes : (C : Type 0) → ℕ → Result ℕ Refusal → Sessions → Sessions → C → C → Type 0
Finishes C actor (Ok count) sessions sessions_now old new =
    (s : SessionState) × (t : SessionState) × Replaces actor s t sessions sessions_now × IsEnding s t
    × ((h : History) → HasHistory s h → HasHistory t h) × (count ≡ t.count) × (new ≡ old)
Finishes C actor (Err refusal) sessions sessions_now old new = (refusal ≡ Memory) × (sessions_now ≡ sessions) × (new ≡ old)

-- what an answer to a turn is in a reply
abbrev pub turned : Option Answer → Option Turned
turned None = Some turns.Idle
turned (Some answers.Held) = Some turns.Held
turned (Some answers.Absent) = Some turns.Absent
turned (Some (answers.Sealed id count)) = Some (turns.Sealed id)
turned (Some answer) = None

abbrev pub Turns : (C : Type 0) → (C → CoreState) → ℕ → Result Turned Refusal → Sessions → Sessions → C → C → Type 0
Turns C state actor (Ok told) sessions sessions_now old new =
    (s : SessionState) × (t : SessionState) × Replaces actor s t sessions sessions_now
    × ((answer : Option Answer) × (turned answer ≡ Some told) × TakesTurn C state actor (Ok answer) s t old new)
Turns C state actor (Err refusal) sessions sessions_now old new =
    (s : SessionState) × (t : SessionState) × Replaces actor s t sessions sessions_now × TakesTurn C state actor (Err refusal) s t old new

-- nothing is due, and this is the root
pub record IsReady (root : Root) (s : SessionState) : Type 0 where
  pub done : due_in s ≡ Nothing
  pub ended : s.ended ≡ true
  pub ready : ready_in s ≡ Some root

-- All turns that are due were made, and this is the root.
abbrev pub Settles : (C : Type 0) → (C → CoreState) → ℕ → Root → SessionState → SessionState → C → C → Type 0
Settles C state actor root s t old new = (answers_are : List Answer) × TurnRun C state actor answers_are s t old new × IsReady root t

-- a name was given a root
abbrev pub GivesRoot : ℕ → List ℕ → Root → CoreState → CoreState → Type 0
GivesRoot actor name root old new = (answer : Answer) × DoesStep actor (asked.Commit name root) answer old new

-- All turns that are due were made, and then the name was given the root.
pub record Puts (C : Type 0) (state : C → CoreState) (actor : ℕ) (name : List ℕ) (sequence : ℕ) (session : SessionState) (old new : C)
    : Type 0 where
  pub answers_are : List Answer
  pub ready : SessionState
  pub mid : C
  pub turns : TurnRun C state actor answers_are session ready old mid
  pub root : Root
  pub is_ready : IsReady root ready
  pub answer : Answer
  pub put : DoesStep actor (asked.Commit name root) answer (state mid) (state new)
  pub sequence_is : sequence ≡ min ((state mid).tables.journal.last + 1) (2 ^ 64 - 1)

-- A turn was refused; or, once all were made, there was no memory, or the name was refused.
abbrev pub RefusesPut : (C : Type 0) → (C → CoreState) → ℕ → List ℕ → Refusal → SessionMoment C → SessionMoment C → Type 0
RefusesPut C state actor name refusal old new =
    TurnsStopped C state actor refusal old.session new.session old.core new.core
    ⊎ ((answers_are : List Answer) × (mid : C) × TurnRun C state actor answers_are old.session new.session old.core mid
    × ((root : Root) × IsReady root new.session
    × (((refusal ≡ Memory) × (new.core ≡ mid)) ⊎ RefusesStep actor (asked.Commit name root) refusal (state mid) (state new.core))))

abbrev pub Commits : (C : Type 0) → (C → CoreState) → ℕ → List ℕ → ℕ → RunnerState C → RunnerState C → Type 0
Commits C state actor name sequence old new =
    (session : SessionState) × (session_of old.sessions actor ≡ Some session)
    × Puts C state actor name sequence session old.core new.core × (new.sessions ≡ with_session old.sessions actor None)

abbrev pub RefusesCommit : (C : Type 0) → (C → CoreState) → ℕ → List ℕ → Refusal → RunnerState C → RunnerState C → Type 0
RefusesCommit C state actor name refusal old new =
    (session : SessionState) × (last : SessionState) × Replaces actor session last old.sessions new.sessions
    × RefusesPut C state actor name refusal (session_at session old.core) (session_at last new.core)

-- it was given up
abbrev pub Aborts : (C : Type 0) → (C → CoreState) → ℕ → Result Unit Refusal → Sessions → Sessions → C → C → Type 0
Aborts C state actor (Ok u) sessions sessions_now old new =
    ((answer : Answer) × DoesStep actor asked.Abort answer (state old) (state new)) × (sessions_now ≡ with_session sessions actor None)
Aborts C state actor (Err refusal) sessions sessions_now old new =
    RefusesStep actor asked.Abort refusal (state old) (state new) × (sessions_now ≡ sessions)

-- ---- a file that is taken, and counts

abbrev pub Opens : (C : Type 0) → (C → CoreState) → ℕ → List ℕ → Result ℕ Refusal → C → C → Type 0
Opens C state actor name (Ok count) old new = DoesStep actor (asked.OpenRead name) (answers.Opened count) (state old) (state new)
Opens C state actor name (Err refusal) old new = RefusesStep actor (asked.OpenRead name) refusal (state old) (state new)

-- the next bytes of the file, if there are any
abbrev pub GivesNext : (C : Type 0) → (C → CoreState) → ℕ → Result (Option ℕ) Refusal → List ℕ → C → C → Type 0
GivesNext C state actor (Ok (Some count)) buf old new = StepOf actor asked.ReadNext (Ok (answers.Bytes count)) buf (state old) (state new)
GivesNext C state actor (Ok None) buf old new = StepOf actor asked.ReadNext (Ok answers.End) buf (state old) (state new)
GivesNext C state actor (Err refusal) buf old new = StepOf actor asked.ReadNext (Err refusal) buf (state old) (state new)

abbrev pub Drops : (C : Type 0) → (C → CoreState) → ℕ → Result Unit Refusal → C → C → Type 0
Drops C state actor (Ok u) old new = (answer : Answer) × DoesStep actor asked.EndRead answer (state old) (state new)
Drops C state actor (Err refusal) old new = RefusesStep actor asked.EndRead refusal (state old) (state new)

abbrev pub counted : Holdings → Answer
counted h = answers.Stat h.files h.segments h.bytes h.used h.free

-- The first actor counts; any would do.
abbrev pub Counts : (C : Type 0) → (C → CoreState) → Holdings → C → C → Type 0
Counts C state holdings old new = DoesStep 0 asked.Stat (counted holdings) (state old) (state new)

-- The keys of all trees are counted, or aren't; any actor would do.
abbrev pub CountsKeys : (C : Type 0) → (C → CoreState) → Result Answer Refusal → C → C → Type 0
CountsKeys C state answer old new = (buf : List ℕ) × StepOf 0 asked.Unique answer buf (state old) (state new)

-- ---- names

-- a name is deleted; any actor would do
abbrev pub DeletesName : List ℕ → CoreState → CoreState → Type 0
DeletesName name old new = (answer : Answer) × DoesStep 0 (asked.Delete name) answer old new

-- That is `DeletesName`, with the number that the reply has.
pub record Deletes (C : Type 0) (state : C → CoreState) (name : List ℕ) (sequence : ℕ) (old new : C) : Type 0 where
  pub answer : Answer
  pub deleted : DoesStep 0 (asked.Delete name) answer (state old) (state new)
  pub sequence_is : sequence ≡ min ((state old).tables.journal.last + 1) (2 ^ 64 - 1)

-- or isn't
abbrev pub RefusesDelete : (C : Type 0) → (C → CoreState) → List ℕ → Refusal → C → C → Type 0
RefusesDelete C state name refusal old new =
    ((refusal ≡ Memory) × (new ≡ old)) ⊎ RefusesStep 0 (asked.Delete name) refusal (state old) (state new)

abbrev pub Lists : (C : Type 0) → (C → CoreState) → Result (List NamedRoot) Refusal → C → C → Type 0
Lists C state (Ok files) old new = DoesStep 0 asked.ListNames (answers.Listed files) (state old) (state new)
Lists C state (Err refusal) old new = RefusesStep 0 asked.ListNames refusal (state old) (state new)

-- ---- collections

-- one begins, or doesn't; the first actor asks for it, as for its steps: any would do
abbrev pub Starts : (C : Type 0) → (C → CoreState) → ℕ → Result ℕ Refusal → C → C → Type 0
Starts C state percent (Ok snapshot) old new = DoesStep 0 (asked.GcStart percent) (answers.Started snapshot) (state old) (state new)
Starts C state percent (Err refusal) old new = RefusesStep 0 (asked.GcStart percent) refusal (state old) (state new)

-- a step of the one that runs was answered so
abbrev pub Collects : (C : Type 0) → (C → CoreState) → Result Answer Refusal → C → C → Type 0
Collects C state answer old new = (buf : List ℕ) × StepOf 0 asked.GcStep answer buf (state old) (state new)

-- steps of it were done, one after the other
abbrev pub CollectionRun : (C : Type 0) → (C → CoreState) → List Phase → C → C → Type 0
CollectionRun C state [] old new = new ≡ old
CollectionRun C state (phase ∷ phases) old new =
    (mid : C) × (Collects C state (Ok (answers.Did phase)) old mid × CollectionRun C state phases mid new)

-- and then one was answered so
abbrev pub Sweeps : (C : Type 0) → (C → CoreState) → Result Answer Refusal → C → C → Type 0
Sweeps C state answer old new =
    (phases : List Phase) × ((mid : C) × (CollectionRun C state phases old mid × Collects C state answer mid new))

-- ---- an opening

-- The core was opened again, perhaps once room was made; no actor gives a file any more.
pub record Reopens (C : Type 0) (state : C → CoreState) (files : ℕ) (sessions_now : Sessions) (old new : C) : Type 0 where
  pub mid : C
  pub opened : OpensCore C (λ c. (state c).disk) (state old).disk (state mid)
  pub holdings : Holdings
  pub counts : Counts C state holdings mid new
  pub files_are : files ≡ holdings.files
  pub sessions_are : sessions_now ≡ replicate ACTORS None

-- Or it was not, for want of memory, or as the opening was refused.
pub record RefusesReopen (C : Type 0) (state : C → CoreState) (refusal : Refusal) (old new : C) : Type 0 where
  pub why : ((refusal ≡ Memory) × (new ≡ old))
      ⊎ (OpensNone C (λ c. (state c).disk) refusal (state old).disk (state new).disk
      × StaysOrStops C (λ c. (state c).disk) refusal (state old) (state new))

-- ---- all lines

-- core and sessions changed so
abbrev pub Both : (C : Type 0) → (Sessions → Sessions → C → C → Type 0) → RunnerState C → RunnerState C → Type 0
Both C P r s = P r.sessions s.sessions r.core s.core

-- only the core changed
abbrev pub Core : (C : Type 0) → (C → C → Type 0) → RunnerState C → RunnerState C → Type 0
Core C P r s = P r.core s.core × (s.sessions ≡ r.sessions)

-- A line that was taken, and what was replied.
abbrev pub Acts : (C : Type 0) → (C → CoreState) → LineValue → ReplyValue → RunnerState C → RunnerState C → Type 0
Acts C state (lines.Begin a) (replies.Begun b) r s = (b ≡ a) × Both C (Begins C state a (Ok tt)) r s
Acts C state (lines.Begin a) (replies.Refused refusal) r s = Both C (Begins C state a (Err refusal)) r s
Acts C state (lines.Push a digits) (replies.Pushed b count) r s = (b ≡ a) × Pushes C state a (pushed_bytes digits) (Ok count) r s
Acts C state (lines.Push a digits) (replies.Refused refusal) r s = Pushes C state a (pushed_bytes digits) (Err refusal) r s
Acts C state (lines.Finish a) (replies.Finished b count) r s = (b ≡ a) × Both C (Finishes C a (Ok count)) r s
Acts C state (lines.Finish a) (replies.Refused refusal) r s = Both C (Finishes C a (Err refusal)) r s
Acts C state (lines.Turn a) (replies.Turn b told) r s = (b ≡ a) × Both C (Turns C state a (Ok told)) r s
Acts C state (lines.Turn a) (replies.Refused refusal) r s = Both C (Turns C state a (Err refusal)) r s
Acts C state (lines.Commit a name) (replies.Committed b sequence) r s =
    (b ≡ a) × Commits C state a name sequence r s
Acts C state (lines.Commit a name) (replies.Refused refusal) r s = RefusesCommit C state a name refusal r s
Acts C state (lines.Abort a) (replies.Aborted b) r s = (b ≡ a) × Both C (Aborts C state a (Ok tt)) r s
Acts C state (lines.Abort a) (replies.Refused refusal) r s = Both C (Aborts C state a (Err refusal)) r s
Acts C state (lines.Read a name) (replies.Reading b count) r s = (b ≡ a) × Core C (Opens C state a name (Ok count)) r s
Acts C state (lines.Read a name) (replies.Refused refusal) r s = Core C (Opens C state a name (Err refusal)) r s
Acts C state (lines.Next a) (replies.Bytes b bytes) r s =
    (b ≡ a) × ((count : ℕ) × ((buf : List ℕ) × ((bytes ≡ take count buf) × Core C (GivesNext C state a (Ok (Some count)) buf) r s)))
Acts C state (lines.Next a) (replies.End b) r s = (b ≡ a) × ((buf : List ℕ) × Core C (GivesNext C state a (Ok None) buf) r s)
Acts C state (lines.Next a) (replies.Refused refusal) r s = (buf : List ℕ) × Core C (GivesNext C state a (Err refusal) buf) r s
Acts C state (lines.Drop a) (replies.Dropped b) r s = (b ≡ a) × Core C (Drops C state a (Ok tt)) r s
Acts C state (lines.Drop a) (replies.Refused refusal) r s = Core C (Drops C state a (Err refusal)) r s
Acts C state (lines.Delete name) (replies.Deleted sequence) r s = Core C (Deletes C state name sequence) r s
Acts C state (lines.Delete name) (replies.Refused refusal) r s = Core C (RefusesDelete C state name refusal) r s
Acts C state lines.ListNames (replies.Listed files) r s = Core C (Lists C state (Ok files)) r s
Acts C state lines.ListNames (replies.Refused refusal) r s = Core C (Lists C state (Err refusal)) r s
Acts C state (lines.Gc percent) (replies.Collecting snapshot) r s = Core C (Starts C state percent (Ok snapshot)) r s
Acts C state (lines.Gc percent) (replies.Refused refusal) r s = Core C (Starts C state percent (Err refusal)) r s
Acts C state lines.GcStep (replies.Step phase) r s = Core C (Collects C state (Ok (answers.Did phase))) r s
Acts C state lines.GcStep (replies.Collected freed copied) r s = Core C (Collects C state (Ok (answers.Done freed copied))) r s
Acts C state lines.GcStep (replies.Refused refusal) r s = Core C (Collects C state (Err refusal)) r s
Acts C state lines.Sweep (replies.Collected freed copied) r s = Core C (Sweeps C state (Ok (answers.Done freed copied))) r s
Acts C state lines.Sweep (replies.Refused refusal) r s = Core C (Sweeps C state (Err refusal)) r s
Acts C state lines.Stat (replies.Stat holdings) r s = Core C (Counts C state holdings) r s
Acts C state lines.Unique (replies.Unique segments bytes) r s = Core C (CountsKeys C state (Ok (answers.Unique segments bytes))) r s
Acts C state lines.Unique (replies.Refused refusal) r s = Core C (CountsKeys C state (Err refusal)) r s
Acts C state line reply r s = ⊥

abbrev pub ActsReopen : (C : Type 0) → (C → CoreState) → ReplyValue → RunnerState C → RunnerState C → Type 0
ActsReopen C state (replies.Opened files) r s = Reopens C state files s.sessions r.core s.core
ActsReopen C state (replies.Refused refusal) r s = Core C (RefusesReopen C state refusal) r s
ActsReopen C state reply r s = ⊥

-- it was taken, or not
abbrev pub ActsOrNot : (C : Type 0) → (C → CoreState) → LineValue → ReplyValue → RunnerState C → RunnerState C → Type 0
ActsOrNot C state line reply r s =
    (Admits line r.sessions (state r.core) × Acts C state line reply r s)
    ⊎ ((refusal : Refusal) × (reply ≡ replies.Refused refusal) × Bars line r.sessions (state r.core) refusal × (s ≡ r))

-- A line was run, and replied to.
abbrev pub RunsLine : (C : Type 0) → (C → CoreState) → LineValue → ReplyValue → RunnerState C → RunnerState C → Type 0
RunsLine C state lines.Reopen reply r s = ActsReopen C state reply r s
RunsLine C state line reply r s = ActsOrNot C state line reply r s
