-- Turns of a session: the steps that it asks for, by whatever makes them (docs/MODEL.md, 'Turns').
use Rattle.std.specs.Prelude.{◌≡◌, ◌⊎◌, ◌<◌, ℕ, List, [], ◌∷◌, ◌++◌, length, Option, Some, None, Result, Ok, Err}
use Rattle.std.specs.List.{AllByRecursion}
use Rattle.actor_parts.specs.declared.step.Answer.{Answer}
use Rattle.actor_parts.specs.StepValue as asked
use Rattle.actor_parts.specs.StepValue.{IsStep, StepValue}
use Rattle.container_meta.specs.Segments.{KindSegment}
use Rattle.refusals.specs.declared.refusal.Refusal.{Refusal}
use Rattle.refusals.specs.declared.refusal.Refusal.TheVariants.{Memory}
use Rattle.ingest_session.specs.declared.due.Due.{Due}
use Rattle.ingest_session.specs.declared.due.Due.TheVariants.{Claim, Seal, Nothing}
use Rattle.ingest_session.specs.Calls.{IsPushAnswer, IsTaking}
use Rattle.ingest_session.specs.Due.{due_in, offered_in}
use Rattle.ingest_session.specs.History.{History, HasHistory, KeepsOpen, Places, answered}
use Rattle.ingest_session.specs.Moving.{IsOffered}
use Rattle.ingest_session.specs.Settling.{most_waiting, seen}
use Rattle.ingest_session.specs.State.{SessionState}
use Rattle.ingest_session.specs.Told.{IsAnswerFor, IsSettled, told_by}

-- ---- what makes steps

-- Makes steps of actors, as a core does, or a caller of a store: whether it can make one, and what one does to it.
pub record Maker (M : Type 0) : Type 1 where
  pub runs : M → Type 0
  pub makes : M → ℕ → StepValue → Result Answer Refusal → List ℕ → M → Type 0

abbrev pub maker_of : {M : Type 0} → (M → Type 0) → (M → ℕ → StepValue → Result Answer Refusal → List ℕ → M → Type 0) → Maker M
maker_of runs makes = record { runs = runs; makes = makes }

-- what making a step did, by the step, the answer and what the buffer then holds
abbrev pub Doing : Type 1
Doing = StepValue → Result Answer Refusal → List ℕ → Type 0

-- What is due was asked for: a claim of the item whose turn it is, or a seal of the containers that it is to seal.
abbrev pub AskedFor : Doing → Due → SessionState → Result Answer Refusal → Type 0
AskedFor does Claim s answer = (seg : KindSegment) × (buf : List ℕ) × IsOffered s seg × does (asked.Claim seg) answer buf
AskedFor does (Seal kind) s answer =
    (buf : List ℕ) × IsStep (asked.Seal (offered_in s kind)) × AllByRecursion (λ c. c.kind ≡ kind) (offered_in s kind)
    × does (asked.Seal (offered_in s kind)) answer buf
AskedFor does Nothing s answer = ⊥

-- ---- one turn

-- Items that need no step may have gone to their place, and containers may have been set aside, and nothing else was done.
pub record IsPaused (s t : SessionState) : Type 0 where
  pub places : Places s t
  pub keeps : KeepsOpen s t

-- One turn: the session came to a step that is due, it was made, and the session was told the answer.
pub record Turn (runs : Type 0) (does : Doing) (answer : Answer) (s t : SessionState) : Type 0 where
  pub before : SessionState
  pub paused : IsPaused s before
  pub settled : IsSettled before
  pub asks : AskedFor does (due_in before) before (Ok answer)
  pub running : runs
  pub fits : IsAnswerFor answer before
  pub told : t ≡ told_by answer before
  pub history : (h : History) → HasHistory before h → HasHistory t (answered answer before h)

-- The step that is due was refused.
abbrev pub TurnRefused : Doing → Refusal → SessionState → SessionState → Type 0
TurnRefused does refusal s t = IsPaused s t × IsSettled t × AskedFor does (due_in t) t (Err refusal)

-- ---- turns that make room

-- Items that need no step may have gone to their place, and still more segments wait than a push leaves.
abbrev pub IsCrowded : SessionState → Type 0
IsCrowded s = (x : SessionState) × IsPaused s x × (most_waiting x < seen x)

-- a session, and what makes its steps, at a moment
pub record SessionMoment (M : Type 0) : Type 0 where
  pub session : SessionState
  pub core : M

abbrev pub session_at : {M : Type 0} → SessionState → M → SessionMoment M
session_at s core = record { session = s; core = core }

-- ---- turns, one after the other

module _ {M : Type 0} (maker : Maker M) (actor : ℕ) where
  -- what a step of the actor did, between two moments
  abbrev pub does : M → M → Doing
  does old new step answer buf = maker.makes old actor step answer buf new

  -- one after the other, with what was answered to each
  abbrev pub RunBy : List Answer → SessionState → SessionState → M → M → Type 0
  RunBy [] s t old new = IsPaused s t × (new ≡ old)
  RunBy (answer ∷ answers) s t old new =
      (mid : SessionState) × (core : M) × Turn (maker.runs core) (does old core) answer s mid × RunBy answers mid t core new

  -- the same, the last of which was refused, or there was no memory for another
  abbrev pub StoppedBy : Refusal → SessionState → SessionState → M → M → Type 0
  StoppedBy refusal s t old new =
      (answers : List Answer) × (mid : SessionState) × (core : M) × RunBy answers s mid old core
      × (((refusal ≡ Memory) × IsPaused mid t × (new ≡ core)) ⊎ TurnRefused (does core new) refusal mid t)

  -- any number of turns
  abbrev pub TakesTurnsBy : {T : Type 0} → Result T Refusal → SessionState → SessionState → M → M → Type 0
  TakesTurnsBy (Ok x) s t old new = (answers : List Answer) × RunBy answers s t old new
  TakesTurnsBy (Err refusal) s t old new = StoppedBy refusal s t old new

  -- one turn, or none as nothing is due
  abbrev pub TakesTurnBy : Result (Option Answer) Refusal → SessionState → SessionState → M → M → Type 0
  TakesTurnBy (Ok None) s t old new = IsPaused s t × IsSettled t × (due_in t ≡ Nothing) × (new ≡ old)
  TakesTurnBy (Ok (Some answer)) s t old new = Turn (maker.runs new) (does old new) answer s t
  TakesTurnBy (Err refusal) s t old new =
      ((refusal ≡ Memory) × IsPaused s t × (new ≡ old)) ⊎ TurnRefused (does old new) refusal s t

  -- each of these turns was made while more waited than a push leaves
  abbrev pub AllForRoom : (answers : List Answer) (old new : SessionMoment M)
      → RunBy answers old.session new.session old.core new.core → Type 0
  AllForRoom [] old new run = Unit {0}
  AllForRoom (answer ∷ answers) old new run = IsCrowded old.session × AllForRoom answers (session_at run.0 run.1) new run.3

  -- and the one that was refused after them, or for which there was no memory
  abbrev pub StoppedForRoom : (refusal : Refusal) (old new : SessionMoment M)
      → StoppedBy refusal old.session new.session old.core new.core → Type 0
  StoppedForRoom refusal old new stopped = AllForRoom stopped.0 old (session_at stopped.1 stopped.2) stopped.3 × IsCrowded stopped.1

  -- any number of turns, each made for room
  abbrev pub MakesRoomBy : {T : Type 0} → Result T Refusal → SessionState → SessionState → M → M → Type 0
  MakesRoomBy (Ok x) s t old new =
      (answers : List Answer) × (run : RunBy answers s t old new) × AllForRoom answers (session_at s old) (session_at t new) run
  MakesRoomBy (Err refusal) s t old new =
      (stopped : StoppedBy refusal s t old new) × StoppedForRoom refusal (session_at s old) (session_at t new) stopped

  -- Bytes were given to a session: after turns that made room it took them all, or refused them.
  abbrev pub FeedsBy : Result (Unit {0}) Refusal → List ℕ → SessionMoment M → SessionMoment M → Type 0
  FeedsBy (Ok u) bytes old new =
      (answers : List Answer) × (mid : SessionState) × (run : RunBy answers old.session mid old.core new.core)
      × IsTaking bytes mid new.session
      × ((h : History) → HasHistory mid h → HasHistory new.session (record h { given = h.given ++ bytes }))
      × AllForRoom answers old (session_at mid new.core) run
  FeedsBy (Err refusal) bytes old new =
      ((stopped : StoppedBy refusal old.session new.session old.core new.core) × StoppedForRoom refusal old new stopped)
      ⊎ ((answers : List Answer) × (run : RunBy answers old.session new.session old.core new.core)
      × IsPushAnswer new.session (length bytes) (Err refusal) × AllForRoom answers old new run)
