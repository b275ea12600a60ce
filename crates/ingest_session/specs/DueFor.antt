-- What is due, and what is kept, of a file whose bytes were given in part, whatever the pieces were in which they came.
use Rattle.std.specs.Prelude.{◌≡◌, ℕ, Bool, List}
use Rattle.container_meta.specs.declared.kind.Kind.{Kind}
use Rattle.actor_parts.specs.declared.step.Answer.{Answer}
use Rattle.ingest_session.specs.declared.due.Due.{Due}
use Rattle.ingest_session.specs.Due.{due_in, offered_in}
use Rattle.ingest_session.specs.Facts.{kept}
use Rattle.ingest_session.specs.History.{History, HasHistory}
use Rattle.ingest_session.specs.State.{SessionState}
use Rattle.ingest_session.specs.Told.{IsSettled}

-- What is due of a file of which these bytes were given so far, and that has ended or not, after these answers.
pub record IsDueFor (given : List ℕ) (ended : Bool) (answers : List Answer) (due : Due) : Type 0 where
  pub session : SessionState
  pub history : History
  pub has : HasHistory session history
  pub given_is : history.given ≡ given
  pub answers_are : history.answers ≡ answers
  pub ended_is : session.ended ≡ ended
  pub settled : IsSettled session
  pub due_is : due_in session ≡ due

-- However the bytes came in pieces between the answers, it is one step.
abbrev pub DueIsOne : Type 0
DueIsOne = (given : List ℕ) (ended : Bool) (answers : List Answer) (one other : Due) → IsDueFor given ended answers one
    → IsDueFor given ended answers other → one ≡ other

-- And a seal offers the same containers.
abbrev pub OfferIsOne : Type 0
OfferIsOne = (given : List ℕ) (ended : Bool) (answers : List Answer) (due also : Due) (one : IsDueFor given ended answers due)
    (other : IsDueFor given ended answers also) (kind : Kind) → offered_in one.session kind ≡ offered_in other.session kind

-- However the bytes came in pieces between the answers, and whether the file has ended or not, the same segments of each kind are
-- kept, in the same order.
abbrev pub KeptIsOne : Type 0
KeptIsOne = (s t : SessionState) (h g : History) → HasHistory s h → HasHistory t g → h.given ≡ g.given → h.answers ≡ g.answers →
    (kind : Kind)
    → kept h kind ≡ kept g kind
