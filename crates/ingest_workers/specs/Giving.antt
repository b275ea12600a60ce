-- What a caller asks for to store a file, and to read it (docs/MODEL.md, 'Workers').
use Rattle.std.specs.Prelude.{◌≡◌, ◌⊎◌, ◌≤◌, ◌<◌, ℕ, true, List, [], ◌∷◌, ◌++◌, length, get_or, Some, Result, Ok, Err}
use Rattle.disk_format.specs.Cells.{Root}
use Rattle.disk_format.specs.declared.numbers.TheConstants.{MOST_FILE}
use Rattle.refusals.specs.declared.refusal.Refusal.{Refusal}
use Rattle.refusals.specs.declared.refusal.Refusal.TheVariants.{Memory, TooLong}
use Rattle.actor_parts.specs.declared.step.Answer.{Answer}
use Rattle.actor_parts.specs.declared.step.Answer.TheVariants as answers
use Rattle.actor_parts.specs.Asking.{Ask, IsAnswerTo}
use Rattle.actor_parts.specs.StepValue as asked
use Rattle.load_stream.specs.Load.{LoadState, byte_of}
use Rattle.ingest_session.specs.Calls.{ready_in}
use Rattle.ingest_session.specs.Due.{due_in}
use Rattle.ingest_session.specs.History.{History, HasHistory, answered, no_history}
use Rattle.ingest_session.specs.State.{SessionState}
use Rattle.ingest_session.specs.Told.{IsSettled}
use Rattle.session_turns.specs.Owning.{IsAskedFor, IsUntold}

-- ---- what was asked for

-- it was answered, and not refused
abbrev pub IsDone : Ask → Type 0
IsDone a = (answer : Answer) × (a.answer ≡ Ok answer) × IsAnswerTo a.step answer

abbrev pub IsRefused : Refusal → Ask → Type 0
IsRefused refusal a = a.answer ≡ Err refusal

-- ---- the session of a generated file

-- these bytes begin the file
pub record BeginsFile (file : LoadState) (bytes : List ℕ) : Type 0 where
  pub few : length bytes ≤ file.length
  pub each : (i : ℕ) → i < length bytes → get_or bytes i 0 ≡ byte_of file.seed file.file i

-- A session of the file, with what was done with it: it was given bytes that begin the file, and all of them by its end.
pub record SessionOf (file : LoadState) (s : SessionState) (h : History) : Type 0 where
  pub has : HasHistory s h
  pub begins : BeginsFile file h.given
  pub whole : s.ended ≡ true → length h.given ≡ file.length

-- An actor began to store a file, and then each step was the one that was due to a settled session of it, which was told the answer: this
-- was done with the session.
pub data Gives (file : LoadState) : List Ask → History → Type 0 where
  Begun : (a : Ask) → a.step ≡ asked.Begin → IsDone a → Gives file (a ∷ []) no_history
  Given : (all : List Ask) (h k : History) → Gives file all h → IsUntold h k → Gives file all k
  Turned : (all : List Ask) (a : Ask) (x : SessionState) (h : History) (answer : Answer) → Gives file all h → SessionOf file x h
      → (settled : IsSettled x) → IsAskedFor (due_in x) x a.step → a.answer ≡ Ok answer → Gives file (all ++ a ∷ []) (answered answer x h)

-- ---- a file that is stored

-- The whole file was given, and its root, the one that the session was ready with, was given the name.
pub record Stores (file : LoadState) (name : List ℕ) (root : Root) (all : List Ask) : Type 0 where
  pub gave : List Ask
  pub history : History
  pub session : SessionState
  pub commit : Ask
  pub gives : Gives file gave history
  pub of_file : SessionOf file session history
  pub ready : ready_in session ≡ Some root
  pub step_is : commit.step ≡ asked.Commit name root
  pub done : IsDone commit
  pub all_is : all ≡ gave ++ commit ∷ []

-- Why it was not, once it began: the session found no memory, or a file may not be so long; or the step that was due was refused, or the
-- commit.
pub data Stops (file : LoadState) (name : List ℕ) (refusal : Refusal) : List Ask → Type 0 where
  BySession : (all : List Ask) (s : SessionState) (h : History) → Gives file all h → SessionOf file s h
      → (refusal ≡ Memory) ⊎ ((refusal ≡ TooLong) × (MOST_FILE < file.length)) → Stops file name refusal all
  ByTurn : (all : List Ask) (a : Ask) (x : SessionState) (h : History) → Gives file all h → SessionOf file x h
      → (settled : IsSettled x) → IsAskedFor (due_in x) x a.step → IsRefused refusal a → Stops file name refusal (all ++ a ∷ [])
  ByCommit : (all : List Ask) (a : Ask) (s : SessionState) (h : History) (root : Root) → Gives file all h → SessionOf file s h
      → ready_in s ≡ Some root → a.step ≡ asked.Commit name root → IsRefused refusal a → Stops file name refusal (all ++ a ∷ [])

-- It was not stored: nothing was asked for, as there was no memory; it was refused to begin; or it was given up.
pub data Unstored (file : LoadState) (name : List ℕ) (refusal : Refusal) : List Ask → Type 0 where
  Untaken : refusal ≡ Memory → Unstored file name refusal []
  Unbegun : (a : Ask) → a.step ≡ asked.Begin → IsRefused refusal a → Unstored file name refusal (a ∷ [])
  GivenUp : (all : List Ask) (a : Ask) → Stops file name refusal all → a.step ≡ asked.Abort → Unstored file name refusal (all ++ a ∷ [])

abbrev pub IsStored : LoadState → List ℕ → Result Root Refusal → List Ask → Type 0
IsStored file name (Ok root) all = Stores file name root all
IsStored file name (Err refusal) all = Unstored file name refusal all

-- ---- a file that is read

-- pieces of it were taken
pub data Takes : List Ask → Type 0 where
  Nothing : Takes []
  More : (all : List Ask) (a : Ask) (count : ℕ) → Takes all → a.step ≡ asked.ReadNext → a.answer ≡ Ok (answers.Bytes count)
      → Takes (all ++ a ∷ [])

-- it came to its end, or this was refused
abbrev pub IsLast : Result (Unit {0}) Refusal → Ask → Type 0
IsLast (Ok u) a = a.answer ≡ Ok answers.End
IsLast (Err refusal) a = IsRefused refusal a

pub record TakesAll (result : Result (Unit {0}) Refusal) (all : List Ask) : Type 0 where
  pub taken : List Ask
  pub last : Ask
  pub takes : Takes taken
  pub step_is : last.step ≡ asked.ReadNext
  pub is_last : IsLast result last
  pub all_is : all ≡ taken ++ last ∷ []

-- it was opened, read to its end, and let go
pub record Reads (name : List ℕ) (all : List Ask) : Type 0 where
  pub opening : Ask
  pub taken : List Ask
  pub closing : Ask
  pub opening_is : opening.step ≡ asked.OpenRead name
  pub opened : IsDone opening
  pub takes : TakesAll (Ok tt) taken
  pub closing_is : closing.step ≡ asked.EndRead
  pub closed : IsDone closing
  pub all_is : all ≡ opening ∷ (taken ++ closing ∷ [])

-- it was refused to be opened; or was given up; or was refused to be let go
pub data Unread (name : List ℕ) (refusal : Refusal) : List Ask → Type 0 where
  Unopened : (a : Ask) → a.step ≡ asked.OpenRead name → IsRefused refusal a → Unread name refusal (a ∷ [])
  Unended : (opening : Ask) (taken : List Ask) (closing : Ask) → opening.step ≡ asked.OpenRead name → IsDone opening
      → TakesAll (Err refusal) taken → closing.step ≡ asked.EndRead → Unread name refusal (opening ∷ (taken ++ closing ∷ []))
  Unclosed : (opening : Ask) (taken : List Ask) (closing : Ask) → opening.step ≡ asked.OpenRead name → IsDone opening
      → TakesAll (Ok tt) taken → closing.step ≡ asked.EndRead → IsRefused refusal closing
      → Unread name refusal (opening ∷ (taken ++ closing ∷ []))

abbrev pub IsRead : List ℕ → Result (Unit {0}) Refusal → List Ask → Type 0
IsRead name (Ok u) all = Reads name all
IsRead name (Err refusal) all = Unread name refusal all
