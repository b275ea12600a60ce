-- Commands as lines of a script: which line comes after which reply, and what is printed (docs/FORMAT.md, 'Commands').
use Rattle.std.specs.Prelude.{◌≡◌, ◌⊎◌, ◌==◌, if◌then◌else◌, ℕ, Bool, true, false, List as ListOf, [], ◌∷◌, ◌++◌, replicate, Option, Some, None}
use Rattle.actor_parts.specs.declared.actor.TheConstants.{ACTORS}
use Rattle.std.proofs.Common.{ap, subst, sym}
use Rattle.reply_text.specs.Text.{deleted_line, listing_text, stored_line}
use Rattle.refusals.specs.declared.refusal.Refusal.{Refusal}
use Rattle.script_lines.specs.Grammar.{LineValue, pushed_bytes}
use Rattle.script_lines.specs.Grammar as lines
use Rattle.script_lines.specs.ReplyText.{reply_line}
use Rattle.script_lines.specs.ReplyValue.{ReplyValue}
use Rattle.script_lines.specs.ReplyValue as replies
use Rattle.store_model.specs.Trees.{root_of}
use Rattle.store_machine.specs.Lines.{Desk, Line}
use Rattle.store_machine.specs.Machine.{Machine, Stepped}
use Rattle.store_machine.specs.Runs.{Run as Steps}
use Rattle.store_machine.specs.Values.{Values}

-- a line of the table that opens a store
pub data Command : Type 0 where
  Ingest : (name : ListOf ℕ) → Command
  Restore : (name : ListOf ℕ) → Command
  Delete : (name : ListOf ℕ) → Command
  List : Command
  Collect : (percent : ℕ) → Command
  Run : Command

pub record Replied : Type 0 where
  pub line : LineValue
  pub reply : ReplyValue

-- ---- which lines

abbrev pub IsPush : LineValue → Type 0
IsPush (lines.Push a digits) = a ≡ 0
IsPush line = ⊥

-- The next line of a command, after this reply. Of a script any may come.
abbrev pub Follows : Command → ReplyValue → LineValue → Type 0
Follows (Ingest name) (replies.Opened files) line = line ≡ lines.Begin 0
Follows (Ingest name) (replies.Begun a) line = IsPush line ⊎ (line ≡ lines.Finish 0)
Follows (Ingest name) (replies.Pushed a count) line = IsPush line ⊎ (line ≡ lines.Finish 0)
Follows (Ingest name) (replies.Finished a count) line = line ≡ lines.Commit 0 name
Follows (Restore name) (replies.Opened files) line = line ≡ lines.Read 0 name
Follows (Restore name) (replies.Reading a count) line = line ≡ lines.Next 0
Follows (Restore name) (replies.Bytes a bytes) line = line ≡ lines.Next 0
Follows (Delete name) (replies.Opened files) line = line ≡ lines.Delete name
Follows List (replies.Opened files) line = line ≡ lines.ListNames
Follows (Collect percent) (replies.Opened files) line = line ≡ lines.Gc percent
Follows (Collect percent) (replies.Collecting snapshot) line = line ≡ lines.Sweep
Follows Run reply line = Unit {0}
Follows command reply line = ⊥

-- a `reopen` that was refused ends a script
abbrev pub ends : LineValue → ReplyValue → Bool
ends lines.Reopen (replies.Refused refusal) = true
ends line reply = false

abbrev pub AllFollow : Command → Replied → ListOf Replied → Type 0
AllFollow command last [] = Unit {0}
AllFollow command last (one ∷ more) =
    (ends last.line last.reply ≡ false) × Follows command last.reply one.line × AllFollow command one more

-- The lines of a command: it opens the store first.
abbrev pub AreLinesOf : Command → ListOf Replied → Type 0
AreLinesOf command [] = Unit {0}
AreLinesOf command (first ∷ more) = (first.line ≡ lines.Reopen) × AllFollow command first more

-- it was done, after this reply
abbrev pub IsDone : Command → ReplyValue → Type 0
IsDone (Ingest name) (replies.Committed a sequence) = Unit {0}
IsDone (Restore name) (replies.End a) = Unit {0}
IsDone (Delete name) (replies.Deleted sequence) = Unit {0}
IsDone List (replies.Listed files) = Unit {0}
IsDone (Collect percent) (replies.Collected freed copied) = Unit {0}
IsDone Run reply = Unit {0}
IsDone command reply = ⊥

-- ---- how it ended

abbrev pub last_of : ListOf Replied → Option Replied
last_of [] = None
last_of (one ∷ []) = Some one
last_of (one ∷ next ∷ more) = last_of (next ∷ more)

-- its last line was this one, and was replied to so
abbrev pub EndsWith : (Replied → Type 0) → ListOf Replied → Type 0
EndsWith P rs = (one : Replied) × (last_of rs ≡ Some one) × P one

-- it was refused so
abbrev pub EndsRefused : Refusal → ListOf Replied → Type 0
EndsRefused refusal rs = EndsWith (λ one. one.reply ≡ replies.Refused refusal) rs

-- It came to its end: its last line was done or refused. The lines of a command are any first part of all that it makes, so whoever
-- promises that one is carried out asks for this beside them. Of a script each line may be the last.
abbrev pub IsEnded : Command → ListOf Replied → Type 0
IsEnded command rs = EndsWith (λ one. IsDone command one.reply) rs ⊎ ((refusal : Refusal) × EndsRefused refusal rs)

-- a line is to come
abbrev pub MayGoOn : Command → ListOf Replied → Type 0
MayGoOn command [] = Unit {0}
MayGoOn command (one ∷ more) = EndsWith (λ last. (line : LineValue) × Follows command last.reply line) (one ∷ more)

-- no actor gives a file yet
abbrev pub desk : {V R : Type 0} → Machine V R → Desk V R
desk m = record { machine = m; sessions = replicate ACTORS None }

-- ---- what an actor gave

abbrev pub given_after : ℕ → LineValue → ReplyValue → ListOf ℕ → ListOf ℕ
given_after actor (lines.Begin a) (replies.Begun b) given = if a == actor then [] else given
given_after actor (lines.Push a digits) (replies.Pushed b count) given = if a == actor then given ++ pushed_bytes digits else given
given_after actor line reply given = given

-- by these lines, since it last began
abbrev pub given_by : ℕ → ListOf ℕ → ListOf Replied → ListOf ℕ
given_by actor given [] = given
given_by actor given (one ∷ more) = given_by actor (given_after actor one.line one.reply given) more

-- ---- what is printed

-- of a line: of `ingest` the file's root, of `restore` its bytes; of the opening nothing
abbrev pub text_of : Command → ListOf ℕ → LineValue → ReplyValue → ListOf ℕ
text_of (Ingest name) given line (replies.Committed a sequence) = stored_line name (root_of given)
text_of (Restore name) given line (replies.Bytes a bytes) = bytes
text_of (Delete name) given line (replies.Deleted sequence) = deleted_line name
text_of List given line (replies.Listed files) = listing_text files
text_of (Collect percent) given line (replies.Collected freed copied) = reply_line (replies.Collected freed copied)
text_of Run given line reply = reply_line reply
text_of command given line reply = []

abbrev pub printed : Command → ListOf ℕ → ListOf Replied → ListOf ℕ
printed command given [] = []
printed command given (one ∷ more) = text_of command given one.line one.reply ++ printed command given more

-- ---- lines that are run

module _ {V R : Type 0} (v : Values V R) where
  abbrev pub Lines : ListOf Replied → ListOf (Stepped V) → Desk V R → Desk V R → Type 0
  Lines [] ss d e = (ss ≡ []) × (e ≡ d)
  Lines (one ∷ more) ss d e = (first rest : ListOf (Stepped V)) × (mid : Desk V R) × (ss ≡ first ++ rest)
      × Line v one.line one.reply first d mid × Lines more rest mid e

  -- two runs, one after the other
  abbrev pub run_on : (xs ys : ListOf (Stepped V)) (m k n : Machine V R) → Steps v xs m k → Steps v ys k n → Steps v (xs ++ ys) m n
  run_on [] ys m k n first next = subst (λ (x : Machine V R). Steps v ys x n) first next
  run_on (x ∷ xs) ys m k n first next = (first.0, (first.1.0, run_on xs ys first.0 k n first.1.1 next))

  -- the run of the steps that lines made
  abbrev pub run_of : (rs : ListOf Replied) (ss : ListOf (Stepped V)) (d e : Desk V R) → Lines rs ss d e → Steps v ss d.machine e.machine
  run_of [] ss d e ran =
      subst (λ (xs : ListOf (Stepped V)). Steps v xs d.machine e.machine) (sym ran.0) (ap (λ (x : Desk V R). x.machine) ran.1)
  run_of (one ∷ more) ss d e ran =
      subst (λ (xs : ListOf (Stepped V)). Steps v xs d.machine e.machine) (sym ran.3)
      (run_on ran.0 ran.1 d.machine ran.2.machine e.machine ran.4.0 (run_of more ran.1 ran.2 e ran.5))
