-- The book of a shared store: a line for each command that was acknowledged. It is a function of the steps that were made (docs/MODEL.md,
-- 'Shared stores').
use Rattle.std.specs.Prelude.{◌≡◌, ℕ, suc, List, [], ◌∷◌, ◌++◌, Option, Some, None, Result, Ok}
use Rattle.std.specs.List.{AllByRecursion}
use Rattle.refusals.specs.declared.refusal.Refusal.{Refusal}
use Rattle.store_machine.specs.Asked.{Asked}
use Rattle.store_machine.specs.Asked as asked
use Rattle.store_machine.specs.Done.{Done}
use Rattle.store_machine.specs.Done as done
use Rattle.store_machine.specs.Legal.{with_name, without_name}
use Rattle.store_machine.specs.Machine.{Found, Machine, Stepped, one_more}
use Rattle.store_machine.specs.Runs.{Run}
use Rattle.store_machine.specs.Values.{Values}

-- Who gave a name a value, or took it away, and under which number.
pub record Line (V : Type 0) : Type 0 where
  pub actor : ℕ
  pub sequence : ℕ
  pub name : List ℕ
  pub value : Option V

module _ {V : Type 0} where
  -- what a step puts in the book
  abbrev pub line_by : ℕ → Asked V → Result Done Refusal → List (Line V)
  line_by actor (asked.Commit name value) (Ok (done.Committed sequence)) =
      record { actor = actor; sequence = sequence; name = name; value = Some value } ∷ []
  line_by actor (asked.Delete name) (Ok (done.Deleted sequence)) =
      record { actor = actor; sequence = sequence; name = name; value = None } ∷ []
  line_by actor step answer = []

  -- and what steps do, the first of them first
  abbrev pub book_of : List (Stepped V) → List (Line V)
  book_of [] = []
  book_of (s ∷ ss) = line_by s.actor s.asked s.answer ++ book_of ss

  -- no step of a core is an opening
  abbrev pub IsNoOpening : Asked V → Type 0
  IsNoOpening asked.Reopen = ⊥
  IsNoOpening step = Unit {0}

  -- their numbers count on from this one
  abbrev pub CountsFrom : ℕ → List (Line V) → Type 0
  CountsFrom last [] = Unit {0}
  CountsFrom last (l ∷ ls) = (l.sequence ≡ suc last) × CountsFrom l.sequence ls

  -- each line counts one more
  abbrev pub counted : List (Line V) → ℕ → ℕ
  counted [] count = count
  counted (l ∷ ls) count = counted ls (one_more count)

module _ {V R : Type 0} (v : Values V R) where
  abbrev pub written : Option V → List ℕ → Found V → Found V
  written (Some value) name now = with_name v name value now
  written None name now = without_name v name now

  -- names with what they have, once the lines were written, the first of them first
  abbrev pub replay : List (Line V) → Found V → Found V
  replay [] now = now
  replay (l ∷ ls) now = replay ls (written l.value l.name now)

  -- What names have at the end of a run, and the last number, is what its book makes of those at its beginning; its lines are what is
  -- counted as acknowledged.
  abbrev pub BooksReplay : Type 0
  BooksReplay = (ss : List (Stepped V)) (m n : Machine V R) → AllByRecursion (λ s. IsNoOpening s.asked) ss → Run v ss m n
      → (n.now ≡ replay (book_of ss) m.now) × CountsFrom m.now.last (book_of ss) × (n.acknowledged ≡ counted (book_of ss) m.acknowledged)
