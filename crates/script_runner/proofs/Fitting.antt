-- What a relation of machines and cores is to give for lines over a core to be lines of the machine.
use Rattle.script_runner.proofs.Prelude.{◌≡◌, ◌≢◌, ◌⊎◌, ◌<◌, ◌≤◌, ℕ, Bool, List, Some, None, Ok, Err, CrashLeaves, DiskView, IsLater, ACTORS, Answer, StepValue, Kind, Refusal, Memory, due_in, offered_in, kept, History, HasHistory, answered, no_history, IsOffered, SessionState, root_of, Stop, CoreStep, OpensCore, OpensNone, StaysOrStops, CoreState, Event, IsRunning, Asked, Legal, LineValue, ReplyValue, Desk, step_of, Machine, Running, Stopped, part_in, Values, answered_by, asked_as, IsReady, RunnerState, Beside, IsAskedFor, IsQuiet, Kept}
use Rattle.std.specs.FinMap as finite
use Rattle.actor_parts.specs.Kinds as core_kinds
use Rattle.actor_parts.specs.Parts.{part_of}
use Rattle.actor_parts.specs.StepValue as steps
use Rattle.actor_parts.specs.StepValue.{IsStep}
use Rattle.ingest_session.specs.Told.{told_by}
use Rattle.store_machine.specs.Asked as asked
use Rattle.store_machine.specs.Done as done
use Rattle.store_machine.specs.Machine.{kind_of}
use Rattle.script_runner.specs.LinesAreRuns.{IsAtDesk, LeadsTo}

-- the session took these bytes, all of the file or not yet, which are allowed, and P holds of what is kept
pub record HasTaken (Allowed : List ℕ → Bool → Type 0) (P : Kept → Type 0) (given : List ℕ) (x : SessionState) : Type 0 where
  pub history : History
  pub has : HasHistory x history
  pub given_is : history.given ≡ given
  pub owns : P (kept history)
  pub allowed : Allowed given x.ended

-- What is so of a step that a line makes for one who gave these bytes: a session that took them offers what is claimed, and what
-- is sealed; a root is theirs, of a session that is ready.
abbrev pub IsOfGiven : (Allowed : List ℕ → Bool → Type 0) (P : Kept → Type 0) → StepValue → List ℕ → Type 0
IsOfGiven Allowed P (steps.Claim seg) given = (x : SessionState) × HasTaken Allowed P given x × IsOffered x seg
IsOfGiven Allowed P (steps.Seal offered) given =
    (x : SessionState) × (kind : Kind) × HasTaken Allowed P given x × IsStep (steps.Seal offered) × (offered ≡ offered_in x kind)
IsOfGiven Allowed P (steps.Commit name root) given = (x : SessionState) × HasTaken Allowed P given x × IsReady root x × (root ≡ root_of given)
IsOfGiven Allowed P step given = Unit {0}

-- A step leaves to all actors what they own, but to one that is done in place of a turn; a file that begins owns nothing, and a turn that
-- was done what its answer adds.
pub record Keeps {V R : Type 0} (Owns : ℕ → Kept → Machine V R → CoreState → Type 0) (e : Event) (m n : Machine V R) (old new : CoreState) : Type 0 where
  pub others : (b : ℕ) (k : Kept) → b ≢ e.actor → Owns b k m old → Owns b k n new
  pub quiet : (k : Kept) → IsQuiet e.step → Owns e.actor k m old → Owns e.actor k n new
  pub refused : (k : Kept) (refusal : Refusal) → e.answer ≡ Err refusal → Owns e.actor k m old → Owns e.actor k n new
  pub begun : (answer : Answer) → e.actor < ACTORS → e.step ≡ steps.Begin → e.answer ≡ Ok answer → Owns e.actor (kept no_history) n new
  pub turned : (x : SessionState) (h : History) (answer : Answer) → HasHistory x h → IsAskedFor (due_in x) x e.step → e.answer ≡ Ok answer
      → HasHistory (told_by answer x) (answered answer x h)
      → Owns e.actor (kept h) m old → Owns e.actor (kept (answered answer x h)) n new

-- within what led from one machine to another a crash leaves an image that either may leave
abbrev pub LeavesEither : {V R : Type 0} → (Machine V R → List ℕ → Type 0) → Machine V R → Machine V R → DiskView → DiskView → Type 0
LeavesEither Left m n old new = CrashLeaves (λ image. Left m image ⊎ Left n image) old new

-- a step that may be answered before anything is done of it
abbrev pub IsUnmade : {V : Type 0} → Asked V → Type 0
IsUnmade (asked.Delete name) = Unit {0}
IsUnmade asked.Reopen = Unit {0}
IsUnmade step = ⊥

pub record Fitting {V R : Type 0} (v : Values V R) (C : Type 0) (state : C → CoreState) (b : Beside V R) (Allowed : List ℕ → Bool → Type 0) : Type 1 where
  -- a step of the core is one of the machine
  pub step : (e : Event) (given : List ℕ) (old new : C) (m : Machine V R) → IsRunning (state old) → b.Fits m (state old)
      → IsOfGiven Allowed (λ k. b.Owns e.actor k m (state old)) e.step given → CoreStep (state old) e (state new)
      → (n : Machine V R) × (Legal v (step_of v e.actor (asked_as (λ root. v.of given) e.step) (answered_by e.answer e.buf)) m n
      × b.Fits n (state new) × Keeps b.Owns e m n (state old) (state new) × LeavesEither b.Left m n (state old).disk (state new).disk
      × b.Changes (step_of v e.actor (asked_as (λ root. v.of given) e.step) (answered_by e.answer e.buf)) m n (state old).disk.content (state new).disk.content)
  -- what a crash leaves of a disk the machine may leave
  pub here : (m : Machine V R) (c : CoreState) → b.Fits m c → (image : List ℕ) → c.disk.images image → b.Left m image
  -- they run and are stopped together, and each actor is at the same kind of thing
  pub runs : (m : Machine V R) (c : CoreState) → b.Fits m c → c.stop ≡ None → m.state ≡ Running
  pub stops : (m : Machine V R) (c : CoreState) (stop : Stop) → b.Fits m c → c.stop ≡ Some stop
      → ((other : _) × (stores : _) × (m.state ≡ Stopped other stores)) × (stop.at ≡ m.acknowledged)
  pub kinds : (m : Machine V R) (c : CoreState) → b.Fits m c → (a : ℕ) → kind_of (part_in m a) ≡ core_kinds.kind_of (part_of c.parts a)
  -- an opening of the one is one of the other
  pub opened : (a : ℕ) (old new : C) (m : Machine V R) → b.Fits m (state old) → OpensCore C (λ c. (state c).disk) (state old).disk (state new) → IsRunning (state new)
      → (n : Machine V R) × (Legal v (step_of v a asked.Reopen (Ok (done.Reopened (finite.len (state new).tables.names)))) m n × b.Fits n (state new)
      × LeavesEither b.Left m n (state old).disk (state new).disk
      × b.Changes (step_of v a asked.Reopen (Ok (done.Reopened (finite.len (state new).tables.names)))) m n (state old).disk.content (state new).disk.content
      × b.Finds n (state old).disk (state new).disk)
  -- what it found it found in any longer time
  pub longer : (m : Machine V R) (first old new last : DiskView) → IsLater first old → old.clock ≤ new.clock → IsLater new last → b.Finds m old new → b.Finds m first last
  pub unopened : (a : ℕ) (refusal : Refusal) (old new : C) (m : Machine V R) → b.Fits m (state old) → OpensNone C (λ c. (state c).disk) refusal (state old).disk (state new).disk
      → StaysOrStops C (λ c. (state c).disk) refusal (state old) (state new)
      → (n : Machine V R) × (Legal v (step_of v a asked.Reopen (Err refusal)) m n × b.Fits n (state new)
      × ((c : ℕ) (k : Kept) → b.Owns c k m (state old) → b.Owns c k n (state new))
      × LeavesEither b.Left m n (state old).disk (state new).disk
      × b.Changes (step_of v a asked.Reopen (Err refusal)) m n (state old).disk.content (state new).disk.content)
  -- want of memory before a step is made changes nothing
  pub unmade : (a : ℕ) (step : Asked V) (m : Machine V R) (c : CoreState) → b.Fits m c → IsUnmade step → b.Changes (step_of v a step (Err Memory)) m m c.disk.content c.disk.content

-- A relation of machines and cores that gives it, of all that it speaks of.
pub record Fitted : Type 1 where
  pub V : Type 0
  pub R : Type 0
  pub v : Values V R
  pub C : Type 0
  pub state : C → CoreState
  pub beside : Beside V R
  pub Allowed : List ℕ → Bool → Type 0
  pub fitting : Fitting v C state beside Allowed

abbrev pub AtDesk : (F : Fitted) → Desk F.V F.R → RunnerState F.C → Type 0
AtDesk F d r = IsAtDesk F.state F.beside d r

abbrev pub Leads : (F : Fitted) → LineValue → ReplyValue → Desk F.V F.R → RunnerState F.C → RunnerState F.C → Type 0
Leads F line reply d r s = LeadsTo F.v F.state F.beside (record { line = line; reply = reply }) d r s
