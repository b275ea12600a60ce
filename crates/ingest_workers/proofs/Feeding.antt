-- What a caller asks for as its session is fed.
use Rattle.std.proofs.Common.{◌≡◌, ◌⊎◌, inl, inr, ◌<◌, ◌≤◌, ◌+◌, ℕ, Bool, true, false, List, [], ◌∷◌, ◌++◌, length, Some, None, Result, Ok, Err, refl, sym, ap, ◌∙◌, subst, arith}
use Rattle.std.specs.Prelude.{if◌then◌else◌, nat_lt}
use Rattle.std.proofs.lemmas.Bool.{ltb-true}
use Rattle.disk_format.specs.declared.numbers.TheConstants.{MOST_FILE}
use Rattle.refusals.specs.declared.refusal.Refusal.{Refusal}
use Rattle.refusals.specs.declared.refusal.Refusal.TheVariants.{Memory, TooLong, WrongPart}
use Rattle.refusals.specs.declared.refusal.PartKind.TheVariants.{Finished}
use Rattle.actor_parts.specs.declared.step.Answer.{Answer}
use Rattle.actor_parts.specs.Asking.{Ask, Asks, AsksAll, IsAnswerTo}
use Rattle.actor_parts.specs.StepValue as asked
use Rattle.actor_parts.specs.StepValue.{StepValue}
use Rattle.ingest_session.specs.declared.due.Due.{Due}
use Rattle.ingest_session.specs.declared.due.Due.TheVariants as dues
use Rattle.ingest_session.specs.Calls.{IsFinishAnswer, push_refusal}
use Rattle.ingest_session.proofs.Staying.{Stays}
use Rattle.ingest_session.specs.Due.{due_in, offered_in}
use Rattle.ingest_session.specs.History.{History, HasHistory, IsBegun, answered, no_history}
use Rattle.ingest_session.specs.State.{SessionState}
use Rattle.session_turns.specs.Owning.{IsAskedFor}
use Rattle.session_turns.specs.Turning.{AskedFor, FeedsBy, IsPaused, Maker, RunBy, StoppedBy, Turn, TurnRefused, does, maker_of, session_at}
use Rattle.load_stream.specs.Load.{LoadState}
use Rattle.session_turns.proofs.TurnRuns.{turn_stays}
use Rattle.ingest_workers.specs.Giving.{BeginsFile, Begun, BySession, ByTurn, Given, Stops, Turned}
use Rattle.ingest_workers.specs.Jobs.{AskedFrom}
use Rattle.ingest_workers.specs.Working.{IsUnderWay}

-- ---- lists of asks

module _ {S : Type 0} (asks : Asks S) where
  pub asks_snoc : (old mid new : S) (all : List Ask) (a : Ask) → AsksAll asks old all mid → asks mid a.step a.answer a.buf new → AsksAll asks old (all ++ a ∷ []) new
  asks_snoc old mid new [] a h one = (new, (subst (λ (m : S). asks m a.step a.answer a.buf new) h one, refl))
  asks_snoc old mid new (b ∷ all) a h one = (h.0, (h.1.0, asks_snoc h.0 mid new all a h.1.1 one))

  pub asks_append : (old mid new : S) (first second : List Ask) → AsksAll asks old first mid → AsksAll asks mid second new → AsksAll asks old (first ++ second) new
  asks_append old mid new [] second h k = subst (λ (m : S). AsksAll asks m second new) h k
  asks_append old mid new (b ∷ all) second h k = (h.0, (h.1.0, asks_append h.0 mid new all second h.1.1 k))

-- ---- why a push is refused

pushed_by : (ended long : Bool) (refusal : Refusal) → ended ≡ false → (if ended then Some (WrongPart Finished) else if long then Some TooLong else None) ≡ Some refusal
    → (refusal ≡ TooLong) × (long ≡ true)
pushed_by true long refusal ongoing is = absurd (cc)
pushed_by false true refusal ongoing is = (let same : Some TooLong ≡ Some refusal = is in cc, refl)
pushed_by false false refusal ongoing is = absurd (cc)

pub too_long : (s : SessionState) (n many : ℕ) (refusal : Refusal) → s.ended ≡ false → s.count + n ≤ many → push_refusal s n ≡ Some refusal
    → (refusal ≡ TooLong) × (MOST_FILE < many)
too_long s n many refusal ongoing few is =
    let by = pushed_by s.ended (nat_lt MOST_FILE (s.count + n)) refusal ongoing is in
    let above : MOST_FILE < s.count + n = ltb-true MOST_FILE (s.count + n) by.1 in
    (by.0, omega arith)

-- ---- a file that begins

pub fresh_under : {S : Type 0} (asks : Asks S) (file : LoadState) (start now : S) (s : SessionState) (a : Ask) (answer : Answer) → a.step ≡ asked.Begin → a.answer ≡ Ok answer
    → IsAnswerTo asked.Begin answer → asks start a.step a.answer a.buf now → HasHistory s no_history → IsBegun s
    → (under : IsUnderWay asks file start s now) × (length under.history.given ≡ 0)
fresh_under asks file start now s a answer step_is answer_is fits made has begun = (
  record {
    asked = a ∷ [];
    all = (now, (made, refl));
    history = no_history;
    gives = Begun a step_is (answer, answer_is, subst (λ (x : StepValue). IsAnswerTo x answer) (sym step_is) fits);
    of_file = record {
      has = has;
      begins = record { few = omega arith; each = λ i below. absurd (omega (arith, below)) };
      whole = λ ended. absurd (let ongoing = begun.ongoing in cc);
    };
  },
  refl,
)

-- ---- turns

module _ {S : Type 0} (asks : Asks S) (actor : ℕ) (file : LoadState) (start : S) where
  abbrev maker : Maker S
  maker = maker_of (λ caller. Unit {0}) (λ old who step answer buf new. asks old step answer buf new)

  abbrev Under : SessionState → S → Type 0
  Under s now = IsUnderWay asks file start s now

  abbrev Stopped : Refusal → S → Type 0
  Stopped refusal new = (name : List ℕ) → AskedFrom asks start (Stops file name refusal) new

  -- the step that was due was asked for
  due_asked : (due : Due) (x : SessionState) (result : Result Answer Refusal) (old new : S) → AskedFor (does maker actor old new) due x result
      → (a : Ask) × IsAskedFor due x a.step × (a.answer ≡ result) × asks old a.step a.answer a.buf new
  due_asked dues.Claim x result old new is = (record { step = asked.Claim is.0; answer = result; buf = is.1 }, is.2, refl, is.3)
  due_asked (dues.Seal kind) x result old new is = (record { step = asked.Seal (offered_in x kind); answer = result; buf = is.0 }, refl, refl, is.3)
  due_asked dues.Nothing x result old new is = absurd is

  -- what was given stays the same
  abbrev Still : (s t : SessionState) (old new : S) → Under s old → Type 0
  Still s t old new under = (after : Under t new) × (after.history.given ≡ under.history.given)

  paused_under : (s t : SessionState) (now : S) → IsPaused s t → (under : Under s now) → Still s t now now under
  paused_under s t now pause under =
      let placed = pause.places under.history under.of_file.has in
      let history : History = record under.history { placed = under.history.placed ++ placed.0 } in (
        record {
          asked = under.asked;
          all = under.all;
          history = history;
          gives = Given under.asked under.history history under.gives (record { held = refl; absent = refl; sealed = refl; answers = refl });
          of_file = record {
            has = placed.1;
            begins = under.of_file.begins;
            whole = λ ended. under.of_file.whole (sym pause.keeps.ended ∙ ended);
          };
        },
        refl,
      )

  turn_under : (answer : Answer) (s t : SessionState) (old new : S) → Turn (Unit {0}) (does maker actor old new) answer s t → (under : Under s old) → Still s t old new under
  unfolding paused_under
  turn_under answer s t old new turn under =
      let x = turn.before in
      let paused = paused_under s x old turn.paused under in
      let here = paused.0 in
      let a = due_asked (due_in x) x (Ok answer) old new turn.asks in
      let stays : Stays s t = turn_stays (Unit {0}) (does maker actor old new) answer s t turn in (
        record {
          asked = here.asked ++ a.0 ∷ [];
          all = asks_snoc asks start old new here.asked a.0 here.all a.3;
          history = answered answer x here.history;
          gives = Turned here.asked a.0 x here.history answer here.gives here.of_file turn.settled a.1 a.2;
          of_file = record {
            has = turn.history here.history here.of_file.has;
            begins = here.of_file.begins;
            whole = λ ended. under.of_file.whole (sym stays.ended ∙ ended);
          };
        },
        refl,
      )

  pub run_under : (answers : List Answer) (s t : SessionState) (old new : S) → RunBy maker actor answers s t old new → (under : Under s old) → Still s t old new under
  run_under [] s t old new run under = subst (λ (c : S). Still s t old c under) (sym run.1) (paused_under s t old run.0 under)
  run_under (answer ∷ answers) s t old new run under =
      let one = turn_under answer s run.0 old run.1 run.2 under in
      let rest = run_under answers run.0 t run.1 new run.3 one.0 in
      (rest.0, rest.1 ∙ one.1)

  -- it came to an end, for want of memory or at a turn that was refused
  stops : (refusal : Refusal) (s t : SessionState) (core new : S) → Under s core
      → ((refusal ≡ Memory) × IsPaused s t × (new ≡ core)) ⊎ TurnRefused (does maker actor core new) refusal s t → Stopped refusal new
  stops refusal s t core new under (inl none) name =
      (under.asked, subst (AsksAll asks start under.asked) (sym none.2) under.all, BySession under.asked s under.history under.gives under.of_file (inl none.0))
  stops refusal s t core new under (inr refused) name =
      let here = (paused_under s t core refused.0 under).0 in
      let a = due_asked (due_in t) t (Err refusal) core new refused.2 in
      (here.asked ++ a.0 ∷ [], asks_snoc asks start core new here.asked a.0 here.all a.3, ByTurn here.asked a.0 t here.history here.gives here.of_file refused.1 a.1 a.2)

  pub stopped_stops : (refusal : Refusal) (s t : SessionState) (old new : S) → Under s old → StoppedBy maker actor refusal s t old new → Stopped refusal new
  stopped_stops refusal s t old new under stopped =
      stops refusal stopped.1 t stopped.2 new (run_under stopped.0 s stopped.1 old stopped.2 stopped.3 under).0 stopped.4

  -- ---- bytes that are given

  pub fed_under : (s t : SessionState) (bytes : List ℕ) (old new : S) (under : Under s old) → BeginsFile file (under.history.given ++ bytes) → t.ended ≡ false
      → FeedsBy maker actor (Ok tt) bytes (session_at s old) (session_at t new) → (after : Under t new) × (after.history.given ≡ under.history.given ++ bytes)
  fed_under s t bytes old new under begins ongoing fed =
      let run = run_under fed.0 s fed.1 old new fed.2 under in
      let mid = run.0 in
      let history : History = record mid.history { given = mid.history.given ++ bytes } in
      let is : mid.history.given ++ bytes ≡ under.history.given ++ bytes = ap (λ (l : List ℕ). l ++ bytes) run.1 in (
        record {
          asked = mid.asked;
          all = mid.all;
          history = history;
          gives = Given mid.asked mid.history history mid.gives (record { held = refl; absent = refl; sealed = refl; answers = refl });
          of_file = record {
            has = fed.4 mid.history mid.of_file.has;
            begins = subst (BeginsFile file) (sym is) begins;
            whole = λ ended. absurd (cc);
          };
        },
        is,
      )

  pub unfed_stops : (refusal : Refusal) (s t : SessionState) (bytes : List ℕ) (old new : S) → Under s old → t.ended ≡ false → t.count + length bytes ≤ file.length
      → FeedsBy maker actor (Err refusal) bytes (session_at s old) (session_at t new) → Stopped refusal new
  unfed_stops refusal s t bytes old new under ongoing few (inl stopped) name = stopped_stops refusal s t old new under stopped.0 name
  unfed_stops refusal s t bytes old new under ongoing few (inr pushed) name =
      let mid = (run_under pushed.0 s t old new pushed.1 under).0 in
      (mid.asked, mid.all, BySession mid.asked t mid.history mid.gives mid.of_file (inr (too_long t (length bytes) file.length refusal ongoing few pushed.2)))

  -- ---- its end

  pub ended_under : (s t : SessionState) (now : S) (under : Under s now) → length under.history.given ≡ file.length
      → ((h : History) → HasHistory s h → HasHistory t h) → Under t now
  ended_under s t now under whole on = record {
    asked = under.asked;
    all = under.all;
    history = under.history;
    gives = under.gives;
    of_file = record { has = on under.history under.of_file.has; begins = under.of_file.begins; whole = λ ended. whole };
  }

  pub memory_stops : (refusal : Refusal) (s : SessionState) (now : S) → Under s now → refusal ≡ Memory → Stopped refusal now
  memory_stops refusal s now under memory name = (under.asked, under.all, BySession under.asked s under.history under.gives under.of_file (inl memory))

-- a file that has not ended is refused to end for want of memory alone
pub unfinished : (s : SessionState) (refusal : Refusal) → s.ended ≡ false → IsFinishAnswer s (Err refusal) → refusal ≡ Memory
unfinished s Memory ongoing is = refl
unfinished s (WrongPart Finished) ongoing is = absurd (cc)
unfinished s refusal ongoing is = absurd is
