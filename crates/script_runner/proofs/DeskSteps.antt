-- A step of the core as one of a machine that fits it; and lines that are one step, or are barred.
use Rattle.script_runner.proofs.Prelude.{◌≡◌, ◌≢◌, ◌⊎◌, ◌==◌, inl, inr, ◌∙◌, ◌+◌, ◌-◌, ◌^◌, ◌<◌, min, ℕ, suc, Bool, true, false, List, [], ◌∷◌, length, Option, Some, None, Result, refl, sym, ap, subst, arith, eqb-true, eqb-false, Answer, StepValue, PartKind, Refusal, LineValue, ReplyValue, Stop, CoreStep, CoreState, Event, IsRunning, step_later, Asked, Answers, ByState, Legal, Desk, Ends, Says, step_of, Machine, RunState, Running, Stepped, part_in, Values, answered_by, asked_as, ActsOrNot, BarsBy, RunnerState, Kept, SameSessions, WritersGive, Sessions, kind_in}
use Rattle.std.proofs.Common.{slice_index_or}
use Rattle.actor_parts.specs.Parts.{part_of}
use Rattle.script_lines.specs.Grammar as lines
use Rattle.script_lines.specs.ReplyValue as replies
use Rattle.store_core.proofs.RunningOn.{step_runs}
use Rattle.store_machine.specs.Done.{Done}
use Rattle.store_machine.specs.Lines as machine
use Rattle.store_machine.specs.Lines.{IsStep, kind_at}
use Rattle.store_machine.specs.Machine.{kind_of}
use Rattle.script_runner.specs.Acts.{Acts, Admits}
use Rattle.script_runner.specs.Sessions.{session_of}
use Rattle.session_turns.specs.Owning.{IsQuiet}
use Rattle.session_turns.proofs.WritingStays.{others_stay}
use Rattle.script_runner.proofs.DeskParts.{quiet_gives}
use Rattle.script_runner.proofs.DeskRuns.{Ran, ran_none, ran_step}
use Rattle.script_runner.proofs.DeskSessions.{same_at, same_kind, same_on}
use Rattle.script_runner.proofs.Fitting.{AtDesk, Fitted, IsOfGiven, Keeps, Leads}

-- a number that is acknowledged
pub number_so : (journal last number : ℕ) → number ≡ suc journal → number ≡ suc last → last < 2 ^ 64 - 1 → min (journal + 1) (2 ^ 64 - 1) ≡ number
number_so journal last number one other some = omega (arith, one, other, some)

module _ {V R : Type 0} (v : Values V R) where
  -- a machine that runs answers by what it is
  pub answers_so : (m n : Machine V R) (a : ℕ) (step : Asked V) (told : Result Done Refusal) → m.state ≡ Running → ByState v m.state a step told m n → Answers v a step told m n
  answers_so m n a step told is legal = subst (λ (state : RunState V). ByState v state a step told m n) is legal

  -- what a line but `reopen` says
  abbrev pub SaysBut : LineValue → ReplyValue → List (Stepped V) → Desk V R → Desk V R → Type 0
  SaysBut line reply ss d e = (machine.Admits v line d × machine.Acts v line reply ss d e)
      ⊎ ((refusal : Refusal) × machine.Bars v line d refusal × (reply ≡ replies.Refused refusal) × (ss ≡ []) × (e.sessions ≡ d.sessions))

  pub says_so : (line : LineValue) (reply : ReplyValue) (ss : List (Stepped V)) (d e : Desk V R) → line ≢ lines.Reopen → SaysBut line reply ss d e → Says v line reply ss d e
  says_so lines.Reopen reply ss d e other says = absurd (other refl)
  says_so line reply ss d e other says = says

module _ (F : Fitted) where
  open F use {V, R, v, C, state, Allowed, beside, fitting}
  open F.beside use {Fits, Owns}

  -- ---- a step

  pub record Makes (e : Event) (given : List ℕ) (m : Machine V R) (old new : C) : Type 0 where
    pub next : Machine V R
    pub legal : Legal v (step_of v e.actor (asked_as (λ root. v.of given) e.step) (answered_by e.answer e.buf)) m next
    pub fits : Fits next (state new)
    pub runs : IsRunning (state new)
    pub others : (b : ℕ) → b ≢ e.actor → part_of (state new).parts b ≡ part_of (state old).parts b
    pub keeps : Keeps Owns e m next (state old) (state new)
    pub ran : Ran F (step_of v e.actor (asked_as (λ root. v.of given) e.step) (answered_by e.answer e.buf) ∷ []) m next old new

  pub makes : (e : Event) (given : List ℕ) (old new : C) (m : Machine V R) → IsRunning (state old) → Fits m (state old)
      → IsOfGiven Allowed (λ k. Owns e.actor k m (state old)) e.step given → CoreStep (state old) e (state new)
      → Makes e given m old new
  makes e given old new m runs fits right step =
      let one = fitting.step e given old new m runs fits right step in
      record {
        next = one.0;
        legal = one.1.0;
        fits = one.1.1;
        runs = step_runs (state old) (state new) e step runs;
        others = others_stay e (state old) (state new) step;
        keeps = one.1.2;
        ran = ran_step F (step_of v e.actor (asked_as (λ root. v.of given) e.step) (answered_by e.answer e.buf)) m one.0 old new one.1.0 one.1.3 one.1.4
            (step_later (state old) (state new) e (state old).stop step).clock_is;
      }

  -- what actors own stays, where the step is one of who gives no file
  pub all_keep : (e : Event) (m n : Machine V R) (old new : CoreState) → Keeps Owns e m n old new → IsQuiet e.step → (b : ℕ) (k : Kept) → Owns b k m old → Owns b k n new
  all_keep e m n old new keeps quiet b k owns = by (b == e.actor) refl
    where
      by : (same : Bool) → (b == e.actor) ≡ same → Owns b k n new
      by true is = let so = eqb-true b e.actor is in subst (λ (c : ℕ). Owns c k n new) (sym so) (keeps.quiet k quiet (subst (λ (c : ℕ). Owns c k m old) so owns))
      by false is = keeps.others b k (eqb-false b e.actor is) owns

  -- ---- a line that is taken

  module _ (r : RunnerState C) (d : Desk V R) (at : AtDesk F d r) where
    pub record Acted (line : LineValue) (reply : ReplyValue) (s : RunnerState C) : Type 0 where
      pub ss : List (Stepped V)
      pub next : Desk V R
      pub ran : Ran F ss d.machine next.machine r.core s.core
      pub acts : machine.Acts v line reply ss d next
      pub stays : AtDesk F next s

    -- what actors own before the line
    abbrev pub owned : ℕ → Kept → Type 0
    owned b k = Owns b k d.machine (state r.core)

    kinds_so : (a : ℕ) → kind_at v d a ≡ kind_in r.sessions (state r.core).parts a
    kinds_so a =
        same_kind (λ k. Owns a k d.machine (state r.core)) (slice_index_or d.sessions a None) (session_of r.sessions a) (kind_of (part_in d.machine a))
        (part_of (state r.core).parts a)
        (same_at owned d.sessions r.sessions at.same a)
        (fitting.kinds d.machine (state r.core) at.fits a) (at.give a)

    pub admits_so : (line : LineValue) → Admits line r.sessions (state r.core) → machine.Admits v line d
    admits_so line admits = (
      fitting.runs d.machine (state r.core) at.fits admits.runs,
      λ a is. ap (λ (k : PartKind). machine.takes line k) (kinds_so a) ∙ admits.taken a is,
    )

    bars_by : (line : LineValue) (refusal : Refusal) (stop : Option Stop) → (state r.core).stop ≡ stop → BarsBy stop line r.sessions (state r.core) refusal
        → machine.Bars v line d refusal
    bars_by line refusal (Some stop) is bars =
        let stops = fitting.stops d.machine (state r.core) stop at.fits is in
        subst (λ (x : Refusal). machine.Bars v line d x) (sym bars) (stops.0, stops.1)
    bars_by line refusal None is bars =
        let a = bars.0 in
        subst (λ (x : Refusal). machine.Bars v line d x) (sym bars.3)
        (fitting.runs d.machine (state r.core) at.fits is, (a, bars.1, sym (kinds_so a), bars.2))

    -- what a line does is what the machine may do where it does so if it is taken
    pub taken_or_not : (line : LineValue) (reply : ReplyValue) (s : RunnerState C) → line ≢ lines.Reopen
        → (Admits line r.sessions (state r.core) → Acts C state line reply r s → Acted line reply s)
        → ActsOrNot C state line reply r s → Leads F line reply d r s
    taken_or_not line reply s other taken (inl admitted) =
        let acted = taken admitted.0 admitted.1 in
        record {
          steps = acted.ss;
          next = acted.next;
          line_is = (acted.ran.run, says_so v line reply acted.ss d acted.next other (inl (admits_so line admitted.0, acted.acts)));
          at = acted.stays;
          did = acted.ran.did;
          found = λ files is told. absurd (other is);
        }
    taken_or_not line reply s other taken (inr barred) =
        let none = ran_none F d.machine r.core s.core at.fits (ap (λ (t : RunnerState C). t.core) barred.3) in record {
          steps = [];
          next = d;
          line_is = (refl, says_so v line reply [] d d other (inr (barred.0, bars_by line barred.0 (state r.core).stop refl barred.2, barred.1, refl, refl)));
          at = subst (λ (t : RunnerState C). AtDesk F d t) (sym barred.3) at;
          did = record { leaves = none.did.leaves; changes = none.did.changes };
          found = λ files is told. absurd (other is);
        }

    -- ---- a line that is one step, whatever was given

    module _ (s : RunnerState C) (sessions : s.sessions ≡ r.sessions) where
      -- the desk after a step that leaves sessions as they were
      pub desk_after : (n : Machine V R) → Fits n (state s.core) → IsRunning (state s.core) → WritersGive r.sessions (state s.core).parts
          → ((b : ℕ) (k : Kept) → owned b k → Owns b k n (state s.core)) → AtDesk F (record { machine = n; sessions = d.sessions }) s
      desk_after n fits runs gives owns = record {
        runs = runs;
        fits = fits;
        same = subst (SameSessions (λ b k. Owns b k n (state s.core)) d.sessions) (sym sessions)
            (same_on owned (λ b k. Owns b k n (state s.core)) d.sessions r.sessions owns at.same);
        many = ap length sessions ∙ at.many;
        give = subst (λ (xs : Sessions). WritersGive xs (state s.core).parts) (sym sessions) gives;
      }

      pub step_line : (line : LineValue) (reply : ReplyValue)
          → ((ss : List (Stepped V)) (e : Desk V R) → ((a : ℕ) × (step : Asked V) × IsStep v line a step × Ends v a [] step reply ss × (e.sessions ≡ d.sessions))
          → machine.Acts v line reply ss d e)
          → (a : ℕ) (step : StepValue) (answer : Result Answer Refusal) (buf : List ℕ) → IsQuiet step → IsOfGiven Allowed (λ k. Owns a k d.machine (state r.core)) step []
          → CoreStep (state r.core) (record { actor = a; step = step; answer = answer; buf = buf }) (state s.core)
          → IsStep v line a (asked_as (λ root. v.of []) step) → reply ≡ machine.reply_of a (answered_by answer buf) → Acted line reply s
      step_line line reply acts a step answer buf quiet right made is reply_is =
          let e : Event = record { actor = a; step = step; answer = answer; buf = buf } in
          let one = makes e [] r.core s.core d.machine at.runs at.fits right made in
          let asked_for : Asked V = asked_as (λ root. v.of []) step in
          let told : Result Done Refusal = answered_by answer buf in
          record {
            ss = step_of v a asked_for told ∷ [];
            next = record { machine = one.next; sessions = d.sessions };
            ran = one.ran;
            acts = acts (step_of v a asked_for told ∷ []) (record { machine = one.next; sessions = d.sessions }) (a, asked_for, is, (told, refl, reply_is), refl);
            stays = desk_after one.next one.fits one.runs (quiet_gives e (state r.core) (state s.core) r.sessions quiet made at.give)
                (all_keep e d.machine one.next (state r.core) (state s.core) one.keeps quiet);
          }
