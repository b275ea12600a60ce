-- Turns of a session as steps of a machine that fits the core, each as it was due.
use Rattle.script_runner.proofs.Prelude.{◌≡◌, ◌≢◌, ◌⊎◌, inl, inr, ◌∙◌, ℕ, Bool, List, [], ◌∷◌, ◌++◌, Some, None, Result, Ok, Err, refl, sym, ap, subst, arith, Answer, StepValue, Refusal, Due, due_in, offered_in, IsDueFor, HasHistory, answered, SessionState, Event, IsRunning, Asked, AreTurns, IsDueStep, Session, step_of, Machine, Stepped, Values, answered_by, asked_as, Asks, IsPaused, IsRefusedTurn, TurnRun, TurnsStopped, IsSessionOf, Kept}
use Rattle.actor_parts.specs.declared.step.Answer.TheVariants as answers
use Rattle.actor_parts.specs.Parts.{part_of}
use Rattle.actor_parts.specs.StepValue as steps
use Rattle.refusals.specs.declared.refusal.Refusal.TheVariants as refusals
use Rattle.ingest_session.specs.declared.due.Due.TheVariants as dues
use Rattle.ingest_session.specs.Told.{IsAnswerFor, IsSettled}
use Rattle.script_lines.specs.ReplyValue as replies
use Rattle.store_machine.specs.Lines as machine
use Rattle.store_machine.specs.Lines.{StopsAfter, answer_of}
use Rattle.session_turns.specs.Turns.{AreForRoom, IsCrowded, IsTurn, StopForRoom, session_at}
use Rattle.ingest_session.proofs.Staying.{told}
use Rattle.ingest_session.proofs.Waiting.{session_of as sound_of}
use Rattle.script_runner.proofs.DeskRuns.{Ran, ran_none, ran_on}
use Rattle.script_runner.proofs.DeskSessions.{session_on}
use Rattle.script_runner.proofs.DeskSteps.{Makes, makes}
use Rattle.session_turns.specs.Owning.{IsAskedFor}
use Rattle.script_runner.proofs.Fitting.{Fitted, HasTaken}

-- ---- sessions

-- the same session, where it paused
pub paused_of : (P : Kept → Type 0) (s : Session) (x y : SessionState) → IsSessionOf P s x → IsPaused x y → IsSessionOf P s y
paused_of P s x y is pause =
    let moved = pause.places is.history is.has in
    record {
      history = record is.history { placed = is.history.placed ++ moved.0 };
      has = moved.1;
      given_is = is.given_is;
      answers_are = is.answers_are;
      ended_is = pause.keeps.ended ∙ is.ended_is;
      owns = is.owns;
    }

pub taken_of : (Allowed : List ℕ → Bool → Type 0) (P : Kept → Type 0) (s : Session) (x : SessionState) → IsSessionOf P s x → Allowed s.given s.ended → HasTaken Allowed P s.given x
taken_of Allowed P s x is allowed = record {
  history = is.history;
  has = is.has;
  given_is = is.given_is;
  owns = is.owns;
  allowed = subst (Allowed s.given) (sym is.ended_is) allowed;
}

-- one more answer
abbrev pub answering : Answer → Session → Session
answering answer s = record s { answers = s.answers ++ answer ∷ [] }

-- what is due of it
abbrev pub due_of : (P : Kept → Type 0) (s : Session) (x : SessionState) → IsSessionOf P s x → IsSettled x → IsDueFor s.given s.ended s.answers (due_in x)
due_of P s x is settled = record {
  session = x;
  history = is.history;
  has = is.has;
  given_is = is.given_is;
  answers_are = is.answers_are;
  ended_is = is.ended_is;
  settled = settled;
  due_is = refl;
}

pub crowded_of : {V R : Type 0} (v : Values V R) (P : Kept → Type 0) (s : Session) (x : SessionState) → IsSessionOf P s x → IsCrowded x → machine.IsCrowded v s
crowded_of v P s x is crowded =
    let of = paused_of P s x crowded.0 is crowded.1 in
    let least = (sound_of crowded.0 of.history of.has).least in
    (crowded.0, of.history, of.has, of.given_is, of.answers_are, of.ended_is, omega (arith, least, crowded.2))

-- an answer that is due is told
pub answer_told : (answer : Answer) (x : SessionState) (buf : List ℕ) → IsAnswerFor answer x → answer_of (answered_by (Ok answer) buf) ≡ Some answer
answer_told answers.Held x buf fits = refl
answer_told answers.Absent x buf fits = refl
answer_told (answers.Sealed id count) x buf fits = refl
answer_told answer x buf fits = absurd fits

module _ {V R : Type 0} (v : Values V R) where
  -- turns made for room, and one more step that was refused
  pub room_last : (a : ℕ) (made : List (Stepped V)) (s t : Session) (x : Stepped V) → AreTurns v a made s t → machine.AreForRoom v s made → machine.IsCrowded v t
      → answer_of x.answer ≡ None
      → machine.AreForRoom v s (made ++ x ∷ [])
  room_last a [] s t x turns room crowded none = (subst (machine.IsCrowded v) turns crowded, λ answer is. absurd (let both = sym none ∙ is in cc))
  room_last a (y ∷ ys) s t x turns room crowded none = (
    room.0,
    λ answer is.
        let same : turns.2.0 ≡ answer = let both = sym turns.2.1 ∙ is in cc in
        room_last a ys (answering answer s) t x (subst (λ (b : Answer). AreTurns v a ys (answering b s) t) same turns.2.2) (room.1 answer is) crowded none,
  )

module _ (F : Fitted) (a : ℕ) where
  open F use {V, R, v, C, state, Allowed, beside, fitting}
  open F.beside use {Fits, Owns}

  abbrev owned : ℕ → Machine V R → C → Kept → Type 0
  owned b m c k = Owns b k m (state c)

  -- what another actor owns stays
  abbrev Stays : Machine V R → Machine V R → C → C → Type 0
  Stays m n old new = (b : ℕ) (k : Kept) → b ≢ a → owned b m old k → owned b n new k

  abbrev pub event : StepValue → Result Answer Refusal → List ℕ → Event
  event step answer buf = record { actor = a; step = step; answer = answer; buf = buf }

  -- as the machine is asked, of who gave these bytes
  abbrev pub asked_of : List ℕ → StepValue → Asked V
  asked_of given step = asked_as (λ root. v.of given) step

  -- ---- what is due was asked for

  pub record AsksFor (due : Due) (s : Session) (x : SessionState) (result : Result Answer Refusal) (m : Machine V R) (old new : C) : Type 0 where
    pub step : StepValue
    pub buf : List ℕ
    pub made : Makes F (event step result buf) s.given m old new
    pub asks : machine.Asks v due x (asked_of s.given step)
    pub is_asked : IsAskedFor due x step

  pub asks_for : (due : Due) (s : Session) (x : SessionState) (result : Result Answer Refusal) (m : Machine V R) (old new : C) → IsSessionOf (owned a m old) s x
      → Allowed s.given s.ended → IsRunning (state old) → Fits m (state old)
      → Asks a due x result (state old) (state new) → AsksFor due s x result m old new
  asks_for dues.Claim s x result m old new is allowed runs fits asks = record {
    step = steps.Claim asks.0;
    buf = asks.1;
    made = makes F (event (steps.Claim asks.0) result asks.1) s.given old new m runs fits (x, taken_of Allowed (owned a m old) s x is allowed, asks.2) asks.3;
    asks = asks.2;
    is_asked = asks.2;
  }
  asks_for (dues.Seal kind) s x result m old new is allowed runs fits asks = record {
    step = steps.Seal (offered_in x kind);
    buf = asks.0;
    made = makes F (event (steps.Seal (offered_in x kind)) result asks.0) s.given old new m runs fits
        (x, kind, taken_of Allowed (owned a m old) s x is allowed, asks.1, refl) asks.3;
    asks = refl;
    is_asked = refl;
  }
  asks_for dues.Nothing s x result m old new is allowed runs fits asks = absurd asks

  -- ---- a turn

  pub record TurnMade (answer : Answer) (s : Session) (y : SessionState) (m : Machine V R) (old new : C) : Type 0 where
    pub step : StepValue
    pub buf : List ℕ
    pub made : Makes F (event step (Ok answer) buf) s.given m old new
    pub due : IsDueStep v s (asked_of s.given step)
    pub told_is : answer_of (answered_by (Ok answer) buf) ≡ Some answer
    pub is : IsSessionOf (owned a made.next new) (answering answer s) y

  pub turn_made : (answer : Answer) (s : Session) (x y : SessionState) (m : Machine V R) (old new : C) → IsSessionOf (owned a m old) s x → Allowed s.given s.ended
      → IsRunning (state old) → Fits m (state old)
      → IsTurn a answer x y (state old) (state new) → TurnMade answer s y m old new
  turn_made answer s x y m old new is allowed runs fits turn =
      let z = turn.before in
      let of = paused_of (owned a m old) s x z is turn.paused in
      let asks = asks_for (due_in z) s z (Ok answer) m old new of allowed runs fits turn.asks in
      let has : HasHistory y (answered answer z of.history) = turn.history of.history of.has in
      record {
        step = asks.step;
        buf = asks.buf;
        made = asks.made;
        due = (due_in z, due_of (owned a m old) s z of turn.settled, asks.asks);
        told_is = answer_told answer z asks.buf turn.fits;
        is = record {
          history = answered answer z of.history;
          has = has;
          given_is = of.given_is;
          answers_are = ap (λ (l : List Answer). l ++ answer ∷ []) of.answers_are;
          ended_is = ap (λ (w : SessionState). w.ended) turn.told ∙ (told answer z).ended ∙ of.ended_is;
          owns = asks.made.keeps.turned z of.history answer of.has asks.is_asked refl
              (subst (λ (w : SessionState). HasHistory w (answered answer z of.history)) turn.told has) of.owns;
        };
      }

  -- ---- turns

  pub record TurnsMade (answers_are : List Answer) (s : Session) (x y : SessionState) (m : Machine V R) (old new : C)
      (ran : TurnRun C state a answers_are x y old new) : Type 0 where
    pub made : List (Stepped V)
    pub t : Session
    pub next : Machine V R
    pub made_ran : Ran F made m next old new
    pub turns : AreTurns v a made s t
    pub is : IsSessionOf (owned a next new) t y
    -- nothing was given
    pub allowed : Allowed t.given t.ended
    pub fits : Fits next (state new)
    pub runs : IsRunning (state new)
    pub others : (b : ℕ) → b ≢ a → part_of (state new).parts b ≡ part_of (state old).parts b
    pub stays : Stays m next old new
    pub room : AreForRoom C state a answers_are (session_at x old) (session_at y new) ran → machine.AreForRoom v s made

  pub turns_made : (answers_are : List Answer) (s : Session) (x y : SessionState) (m : Machine V R) (old new : C) → IsSessionOf (owned a m old) s x → Allowed s.given s.ended
      → IsRunning (state old) → Fits m (state old)
      → (ran : TurnRun C state a answers_are x y old new) → TurnsMade answers_are s x y m old new ran
  turns_made [] s x y m old new is allowed runs fits ran = record {
    made = [];
    t = s;
    next = m;
    made_ran = ran_none F m old new fits ran.1;
    turns = refl;
    is = paused_of (owned a m new) s x y (subst (λ (c : C). IsSessionOf (owned a m c) s x) (sym ran.1) is) ran.0;
    allowed = allowed;
    fits = subst (λ (c : C). Fits m (state c)) (sym ran.1) fits;
    runs = subst (λ (c : C). IsRunning (state c)) (sym ran.1) runs;
    others = λ b differs. ap (λ (c : C). part_of (state c).parts b) ran.1;
    stays = λ b k differs owns. subst (λ (c : C). owned b m c k) (sym ran.1) owns;
    room = λ room. tt;
  }
  turns_made (answer ∷ more) s x y m old new is allowed runs fits ran =
      let one = turn_made answer s x ran.0 m old ran.1 is allowed runs fits ran.2 in
      let rest = turns_made more (answering answer s) ran.0 y one.made.next ran.1 new one.is allowed one.made.runs one.made.fits ran.3 in
      let first : Stepped V = step_of v a (asked_of s.given one.step) (answered_by (Ok answer) one.buf) in
      record {
        made = first ∷ rest.made;
        t = rest.t;
        next = rest.next;
        made_ran = ran_on F (first ∷ []) rest.made m one.made.next rest.next old ran.1 new one.made.ran rest.made_ran;
        turns = (refl, one.due, (answer, one.told_is, rest.turns));
        is = rest.is;
        allowed = rest.allowed;
        fits = rest.fits;
        runs = rest.runs;
        others = λ b differs. rest.others b differs ∙ one.made.others b differs;
        stays = λ b k differs owns. rest.stays b k differs (one.made.keeps.others b k differs owns);
        room = λ room. (
          crowded_of v (owned a m old) s x is room.0,
          λ other told_other.
              let same : answer ≡ other = let both = sym one.told_is ∙ told_other in cc in
              subst (λ (b : Answer). machine.AreForRoom v (answering b s) rest.made) same (rest.room room.1),
        );
      }

  -- ---- a turn that is refused, or for which there was no memory

  pub record TurnRefused (made : List (Stepped V)) (refusal : Refusal) (t : Session) (y : SessionState) (m : Machine V R) (old new : C) : Type 0 where
    pub more : List (Stepped V)
    pub next : Machine V R
    pub ran : Ran F more m next old new
    pub stops : StopsAfter v a made t (replies.Refused refusal) (made ++ more)
    pub is : IsSessionOf (owned a next new) t y
    pub fits : Fits next (state new)
    pub runs : IsRunning (state new)
    pub others : (b : ℕ) → b ≢ a → part_of (state new).parts b ≡ part_of (state old).parts b
    pub stays : Stays m next old new
    -- it is one step that was refused, if any
    pub few : (more ≡ []) ⊎ ((x : Stepped V) × (more ≡ x ∷ []) × (answer_of x.answer ≡ None))

  none_more : (xs : List (Stepped V)) → xs ++ [] ≡ xs
  none_more [] = refl
  none_more (z ∷ zs) = ap (λ (l : List (Stepped V)). z ∷ l) (none_more zs)

  pub turn_refused : (made : List (Stepped V)) (refusal : Refusal) (t : Session) (x y : SessionState) (m : Machine V R) (old new : C) → IsSessionOf (owned a m old) t x
      → Allowed t.given t.ended → IsRunning (state old) → Fits m (state old)
      → ((refusal ≡ refusals.Memory) × IsPaused x y × (new ≡ old)) ⊎ IsRefusedTurn a refusal x y (state old) (state new) → TurnRefused made refusal t y m old new
  turn_refused made refusal t x y m old new is allowed runs fits (inl none) = record {
    more = [];
    next = m;
    ran = ran_none F m old new fits none.2;
    stops = (refusal, refl, inl (none.0, none_more made));
    is = paused_of (owned a m new) t x y (subst (λ (c : C). IsSessionOf (owned a m c) t x) (sym none.2) is) none.1;
    fits = subst (λ (c : C). Fits m (state c)) (sym none.2) fits;
    runs = subst (λ (c : C). IsRunning (state c)) (sym none.2) runs;
    others = λ b differs. ap (λ (c : C). part_of (state c).parts b) none.2;
    stays = λ b k differs owns. subst (λ (c : C). owned b m c k) (sym none.2) owns;
    few = inl refl;
  }
  turn_refused made refusal t x y m old new is allowed runs fits (inr refused) =
      let of = paused_of (owned a m old) t x y is refused.0 in
      let asks = asks_for (due_in y) t y (Err refusal) m old new of allowed runs fits refused.2 in
      let last : Stepped V = step_of v a (asked_of t.given asks.step) (Err refusal) in
      record {
        more = last ∷ [];
        next = asks.made.next;
        ran = asks.made.ran;
        stops = (refusal, refl, inr (asked_of t.given asks.step, (due_in y, due_of (owned a m old) t y of refused.1, asks.asks), (Err refusal, refl, refl)));
        is = session_on (owned a m old) (owned a asks.made.next new) t y (λ k owns. asks.made.keeps.refused k refusal refl owns) of;
        fits = asks.made.fits;
        runs = asks.made.runs;
        others = asks.made.others;
        stays = asks.made.keeps.others;
        few = inr (last, refl, refl);
      }

  -- after turns
  pub record TurnsStop (refusal : Refusal) (s : Session) (x y : SessionState) (m : Machine V R) (old new : C) (stopped : TurnsStopped C state a refusal x y old new) : Type 0 where
    pub ss : List (Stepped V)
    pub t : Session
    pub next : Machine V R
    pub ran : Ran F ss m next old new
    pub stops : machine.TurnsStop v a s (replies.Refused refusal) ss t
    pub is : IsSessionOf (owned a next new) t y
    pub fits : Fits next (state new)
    pub runs : IsRunning (state new)
    pub others : (b : ℕ) → b ≢ a → part_of (state new).parts b ≡ part_of (state old).parts b
    pub stays : Stays m next old new
    pub room : StopForRoom C state a refusal (session_at x old) (session_at y new) stopped → machine.AreForRoom v s ss

  pub turns_stop : (refusal : Refusal) (s : Session) (x y : SessionState) (m : Machine V R) (old new : C) → IsSessionOf (owned a m old) s x → Allowed s.given s.ended
      → IsRunning (state old) → Fits m (state old)
      → (stopped : TurnsStopped C state a refusal x y old new) → TurnsStop refusal s x y m old new stopped
  turns_stop refusal s x y m old new is allowed runs fits stopped =
      let mid = stopped.1 in
      let core = stopped.2 in
      let went = turns_made stopped.0 s x mid m old core is allowed runs fits stopped.3 in
      let last = turn_refused went.made refusal went.t mid y went.next core new went.is went.allowed went.runs went.fits stopped.4 in
      record {
        ss = went.made ++ last.more;
        t = went.t;
        next = last.next;
        ran = ran_on F went.made last.more m went.next last.next old core new went.made_ran last.ran;
        stops = (went.made, went.turns, last.stops);
        is = last.is;
        fits = last.fits;
        runs = last.runs;
        others = λ b differs. last.others b differs ∙ went.others b differs;
        stays = λ b k differs owns. last.stays b k differs (went.stays b k differs owns);
        room = λ room. all_for_room went.made s went.t went.turns (went.room room.0) (crowded_of v (owned a went.next core) went.t mid went.is room.1) last.more last.few;
      }
    where
      all_for_room : (made : List (Stepped V)) (u t : Session) → AreTurns v a made u t → machine.AreForRoom v u made → machine.IsCrowded v t → (more : List (Stepped V))
          → ((more ≡ []) ⊎ ((z : Stepped V) × (more ≡ z ∷ []) × (answer_of z.answer ≡ None))) → machine.AreForRoom v u (made ++ more)
      all_for_room made u t turns room crowded more (inl none) = subst (machine.AreForRoom v u) (sym (ap (λ (l : List (Stepped V)). made ++ l) none ∙ none_more made)) room
      all_for_room made u t turns room crowded more (inr one) =
          subst (λ (l : List (Stepped V)). machine.AreForRoom v u (made ++ l)) (sym one.1) (room_last v a made u t one.0 turns room crowded one.2)
