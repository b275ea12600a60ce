-- Lines that begin, finish or abort a file, as lines of a machine that fits the core.
use Rattle.script_runner.proofs.Prelude.{◌≡◌, ◌≢◌, ◌==◌, inl, inr, ◌∙◌, ◌<◌, ℕ, Bool, true, false, List, [], ◌∷◌, length, Option, Some, None, Result, Ok, Err, refl, sym, ap, subst, arith, eqb-true, eqb-false, get_or-set_other, length-set, set-get_or, ACTORS, Answer, StepValue, PartKind, Refusal, kept, History, HasHistory, no_history, SessionState, bytes_are_counted, LineValue, ReplyValue, BeginRow, CoreState, Event, IsRunning, running_step, takes, Desk, Session, reply_of, step_of, Machine, answered_by, RefusesStep, RunnerState, Kept, SameSession, SameSessions, WritersGive, Sessions, has_ended, kind_by, kind_in, with_session}
use Rattle.actor_parts.specs.declared.part.Part as core_part
use Rattle.actor_parts.specs.declared.part.Part.TheVariants as core_parts
use Rattle.actor_parts.specs.declared.step.Answer.TheVariants as answers
use Rattle.actor_parts.specs.Kinds as core_kinds
use Rattle.actor_parts.specs.Parts.{part_of}
use Rattle.actor_parts.specs.StepValue as steps
use Rattle.refusals.specs.declared.refusal.PartKind.TheVariants as kinds
use Rattle.script_lines.specs.Grammar as lines
use Rattle.script_lines.specs.ReplyValue as replies
use Rattle.store_core.specs.Core.{AbortRow}
use Rattle.store_machine.specs.Asked as asked
use Rattle.store_machine.specs.Done.{Done}
use Rattle.store_machine.specs.Lines as machine
use Rattle.store_machine.specs.Lines.{new_session}
use Rattle.script_runner.specs.Acts.{Acts, Admits}
use Rattle.script_runner.specs.Sessions.{session_of}
use Rattle.session_turns.proofs.WritingStays.{put_quiet, same_wrote}
use Rattle.script_runner.proofs.DeskRuns.{ran_none}
use Rattle.script_runner.proofs.DeskSessions.{DeskSession, desk_session, gives_on, is_put, same_on, same_put}
use Rattle.script_runner.proofs.DeskSteps.{Acted, makes}
use Rattle.script_runner.proofs.Fitting.{AtDesk, Fitted, Keeps}

begin_answer : (a : ℕ) (answer : Answer) (buf : List ℕ) (old new : CoreState) → BeginRow a (Ok answer) old new → replies.Begun a ≡ reply_of a (answered_by (Ok answer) buf)
begin_answer a answers.Begun buf old new row = refl
begin_answer a answer buf old new row = absurd row

abort_answer : (a : ℕ) (answer : Answer) (buf : List ℕ) (old new : CoreState) → AbortRow a (Ok answer) old new → replies.Aborted a ≡ reply_of a (answered_by (Ok answer) buf)
abort_answer a answers.Aborted buf old new row = refl
abort_answer a answer buf old new row = absurd row

-- one who gave a file up writes none
abort_quiet : (a : ℕ) (answer : Answer) (old new : CoreState) → AbortRow a (Ok answer) old new → core_kinds.kind_of (part_of new.parts a) ≢ kinds.Writing
abort_quiet a answers.Aborted old new row =
    subst (λ (parts : List core_part.Part). core_kinds.kind_of (part_of parts a) ≢ kinds.Writing) (sym row.1) (put_quiet old.parts a core_parts.Idle (λ is. cc))
abort_quiet a answer old new row = absurd row

-- a line that takes one who gives a file
abbrev pub TakesGiver : LineValue → Type 0
TakesGiver line = (p : PartKind) → takes line (kind_by None p) ≡ true → ⊥

pub giver : (line : LineValue) (a : ℕ) (sessions : Sessions) (parts : List core_part.Part) → TakesGiver line → takes line (kind_in sessions parts a) ≡ true
    → (x : SessionState) × (session_of sessions a ≡ Some x)
giver line a sessions parts needs taken = by (session_of sessions a) refl taken
  where
    by : (o : Option SessionState) → session_of sessions a ≡ o → takes line (kind_by (has_ended o) (core_kinds.kind_of (part_of parts a))) ≡ true
        → (x : SessionState) × (session_of sessions a ≡ Some x)
    by None is takes_none = absurd (needs (core_kinds.kind_of (part_of parts a)) takes_none)
    by (Some x) is takes_some = (x, is)

module _ (F : Fitted) (r : RunnerState F.C) (d : Desk F.V F.R) (at : AtDesk F d r) (s : RunnerState F.C) (a : ℕ) where
  open F use {V, R, v, C, state, Allowed, beside, fitting}
  open F.beside use {Fits, Owns}

  -- ---- a desk after a line of one actor, whose session is another

  -- the session of the actor is put, or taken
  pub desk_put : (n : Machine V R) (session : Option Session) (x : Option SessionState) → s.sessions ≡ with_session r.sessions a x → Fits n (state s.core)
      → IsRunning (state s.core) → SameSession (λ k. Owns a k n (state s.core)) session x
      → ((b : ℕ) → b ≢ a → part_of (state s.core).parts b ≡ part_of (state r.core).parts b)
      → (session_of (with_session r.sessions a x) a ≡ None → core_kinds.kind_of (part_of (state s.core).parts a) ≢ kinds.Writing)
      → ((b : ℕ) (k : Kept) → b ≢ a → Owns b k d.machine (state r.core) → Owns b k n (state s.core))
      → AtDesk F (record { machine = n; sessions = machine.with_session v a session d }) s
  desk_put n session x sessions fits runs same others own owns = record {
    runs = runs;
    fits = fits;
    same = subst (SameSessions (λ b k. Owns b k n (state s.core)) (machine.with_session v a session d)) (sym sessions)
        (same_put (λ b k. Owns b k d.machine (state r.core)) (λ b k. Owns b k n (state s.core)) d.sessions r.sessions at.same a session x same owns);
    many = ap length sessions ∙ length-set r.sessions a x ∙ at.many;
    give = subst (λ (xs : Sessions). WritersGive xs (state s.core).parts) (sym sessions)
        (gives_on a r.sessions (with_session r.sessions a x) (state r.core).parts (state s.core).parts at.give
        (λ b differs. get_or-set_other r.sessions a b x None differs) others own);
  }

  -- the actor has a session, so nothing is to be shown of it
  pub gives_still : (x : SessionState) → a < ACTORS → session_of (with_session r.sessions a (Some x)) a ≡ None → core_kinds.kind_of (part_of (state s.core).parts a) ≢ kinds.Writing
  gives_still x below none = absurd (is_put r.sessions a x (omega (arith, below, at.many)) none)

  -- sessions are as they were, that of the actor too
  pub desk_same : (n : Machine V R) → s.sessions ≡ r.sessions → Fits n (state s.core) → IsRunning (state s.core)
      → ((b : ℕ) → b ≢ a → part_of (state s.core).parts b ≡ part_of (state r.core).parts b)
      → (session_of r.sessions a ≡ None → core_kinds.kind_of (part_of (state s.core).parts a) ≢ kinds.Writing)
      → ((b : ℕ) (k : Kept) → Owns b k d.machine (state r.core) → Owns b k n (state s.core))
      → AtDesk F (record { machine = n; sessions = machine.with_session v a (machine.session_of v d a) d }) s
  desk_same n sessions fits runs others own owns = record {
    runs = runs;
    fits = fits;
    same = subst (λ (ds : List (Option Session)). SameSessions (λ b k. Owns b k n (state s.core)) ds s.sessions) (sym (set-get_or d.sessions a None))
        (subst (SameSessions (λ b k. Owns b k n (state s.core)) d.sessions) (sym sessions)
        (same_on (λ b k. Owns b k d.machine (state r.core)) (λ b k. Owns b k n (state s.core)) d.sessions r.sessions owns at.same));
    many = ap length sessions ∙ at.many;
    give = subst (λ (xs : Sessions). WritersGive xs (state s.core).parts) (sym sessions)
        (gives_on a r.sessions r.sessions (state r.core).parts (state s.core).parts at.give (λ b differs. refl) others own);
  }

  -- where nothing was done of the core
  same_parts : s.core ≡ r.core → (b : ℕ) → part_of (state s.core).parts b ≡ part_of (state r.core).parts b
  same_parts same b = ap (λ (c : C). part_of (state c).parts b) same

  core_owns : s.core ≡ r.core → (b : ℕ) (k : Kept) → Owns b k d.machine (state r.core) → Owns b k d.machine (state s.core)
  core_owns same b k owns = subst (λ (c : C). Owns b k d.machine (state c)) (sym same) owns

  -- a step of this actor that was refused leaves all they own
  refused_owns : (step : StepValue) (refusal : Refusal) (buf : List ℕ) (n : Machine V R)
      → Keeps Owns (record { actor = a; step = step; answer = Err refusal; buf = buf }) d.machine n (state r.core) (state s.core) → (b : ℕ) (k : Kept)
      → Owns b k d.machine (state r.core) → Owns b k n (state s.core)
  refused_owns step refusal buf n keeps b k owns = by (b == a) refl
    where
      by : (same : Bool) → (b == a) ≡ same → Owns b k n (state s.core)
      by true is = let so = eqb-true b a is in subst (λ (c : ℕ). Owns c k n (state s.core)) (sym so)
          (keeps.refused k refusal refl (subst (λ (c : ℕ). Owns c k d.machine (state r.core)) so owns))
      by false is = keeps.others b k (eqb-false b a is) owns

  pub no_step : s.core ≡ r.core → s.sessions ≡ r.sessions → AtDesk F (record { machine = d.machine; sessions = machine.with_session v a (machine.session_of v d a) d }) s
  no_step same sessions =
      desk_same d.machine sessions (subst (λ (c : C). Fits d.machine (state c)) (sym same) at.fits) (subst (λ (c : C). IsRunning (state c)) (sym same) at.runs)
      (λ b differs. same_parts same b)
      (λ none writes. at.give a none (ap core_kinds.kind_of (sym (same_parts same a)) ∙ writes)) (core_owns same)

  -- ---- a file begins

  module _ (below : a < ACTORS) (admits : Admits (lines.Begin a) r.sessions (state r.core)) where
    abbrev Begins : ReplyValue → Type 0
    Begins reply = Acted F r d at (lines.Begin a) reply s

    begin_refused : (refusal : Refusal) → s.sessions ≡ r.sessions → RefusesStep a steps.Begin refusal (state r.core) (state s.core) → Begins (replies.Refused refusal)
    begin_refused refusal sessions refuses =
        let e : Event = record { actor = a; step = steps.Begin; answer = Err refusal; buf = refuses.0 } in
        let one = makes F e [] r.core s.core d.machine at.runs at.fits tt refuses.1 in
        let row = (running_step (state r.core) (state s.core) e admits.runs refuses.1).made.row in
        record {
          ss = step_of v a asked.Begin (Err refusal) ∷ [];
          next = record { machine = one.next; sessions = machine.with_session v a (machine.session_of v d a) d };
          ran = one.ran;
          acts = (refl, inl (Err refusal, refl, refl));
          stays = desk_same one.next sessions one.fits one.runs one.others (λ none writes. at.give a none (same_wrote a (state r.core).parts (state s.core).parts row.1 writes))
              (refused_owns steps.Begin refusal refuses.0 one.next one.keeps);
        }

    pub begin_acts : (reply : ReplyValue) → Acts C state (lines.Begin a) reply r s → Begins reply
    begin_acts (replies.Begun b) acts =
        let begins = acts.1 in
        let answer = begins.0 in
        let x = begins.1 in
        let does = begins.2 in
        let e : Event = record { actor = a; step = steps.Begin; answer = Ok answer; buf = does.0 } in
        let one = makes F e [] r.core s.core d.machine at.runs at.fits tt does.1 in
        let row = (running_step (state r.core) (state s.core) e admits.runs does.1).made.row in
        let told : Result Done Refusal = answered_by (Ok answer) does.0 in
        record {
          ss = step_of v a asked.Begin told ∷ [];
          next = record { machine = one.next; sessions = machine.with_session v a (Some new_session) d };
          ran = one.ran;
          acts = (refl, inl (told, refl, ap replies.Begun acts.0 ∙ begin_answer a answer does.0 (state r.core) (state s.core) row));
          stays = desk_put one.next (Some new_session) (Some x) begins.5 one.fits one.runs
              (record {
                history = no_history;
                has = begins.4;
                given_is = refl;
                answers_are = refl;
                ended_is = begins.3.ongoing;
                owns = one.keeps.begun answer below refl refl;
              }) one.others (gives_still x below)
              (λ c k differs owns. one.keeps.others c k differs owns);
        }
    begin_acts (replies.Refused refusal) acts =
        let begins = acts in
        elim begins.0 [
          | inl memory ↦ record {
            ss = [];
            next = record { machine = d.machine; sessions = machine.with_session v a (machine.session_of v d a) d };
            ran = ran_none F d.machine r.core s.core at.fits memory.1;
            acts = (refl, inr (ap replies.Refused memory.0, refl));
            stays = no_step memory.1 begins.1;
          }
          | inr refuses ↦ begin_refused refusal begins.1 refuses
        ]
    begin_acts reply acts = absurd acts

  -- ---- all was given

  module _ (below : a < ACTORS) (admits : Admits (lines.Finish a) r.sessions (state r.core)) where
    abbrev Finishes : ReplyValue → Type 0
    Finishes reply = Acted F r d at (lines.Finish a) reply s

    finish_needs : TakesGiver (lines.Finish a)
    finish_needs kinds.Reading is = absurd cc
    finish_needs kind is = absurd cc

    pub finish_acts : (reply : ReplyValue) → Acts C state (lines.Finish a) reply r s → Finishes reply
    finish_acts (replies.Finished b count) acts =
        let ends = acts.1 in
        let x : SessionState = ends.0 in
        let y : SessionState = ends.1 in
        let was : DeskSession (λ k. Owns a k d.machine (state r.core)) d.sessions a x = desk_session
        (λ b k. Owns b k d.machine (state r.core)) d.sessions r.sessions at.same a x ends.2.0 in
        let h : History = was.is.history in
        let has : HasHistory y h = ends.4 h was.is.has in
        let same = ends.6 in
        record {
          ss = [];
          next = record { machine = d.machine; sessions = machine.with_session v a (Some (record was.s { ended = true })) d };
          ran = ran_none F d.machine r.core s.core at.fits same;
          acts = (
            was.s,
            (was.there, refl),
            refl,
            inl (ap (λ (z : ℕ). replies.Finished z count) acts.0 ∙ ap (replies.Finished a) (ends.5 ∙ (bytes_are_counted y h has).0 ∙ ap length was.is.given_is)),
          );
          stays = desk_put d.machine (Some (record was.s { ended = true })) (Some y) ends.2.1 (subst (λ (c : C). Fits d.machine (state c)) (sym same) at.fits)
              (subst (λ (c : C). IsRunning (state c)) (sym same) at.runs)
              (record {
                history = h;
                has = has;
                given_is = was.is.given_is;
                answers_are = was.is.answers_are;
                ended_is = ends.3.ended;
                owns = core_owns same a
                    (kept h) was.is.owns;
              }) (λ c differs. same_parts same c) (gives_still y below)
              (λ c k differs owns. core_owns same c k owns);
        }
    finish_acts (replies.Refused refusal) acts =
        let ends = acts in
        let gives = giver (lines.Finish a) a r.sessions (state r.core).parts finish_needs (admits.taken a refl) in
        let was : DeskSession (λ k. Owns a k d.machine (state r.core)) d.sessions a gives.0 = desk_session
        (λ b k. Owns b k d.machine (state r.core)) d.sessions r.sessions at.same a gives.0 gives.1 in
        record {
          ss = [];
          next = record { machine = d.machine; sessions = machine.with_session v a (machine.session_of v d a) d };
          ran = ran_none F d.machine r.core s.core at.fits ends.2;
          acts = (was.s, (was.there, ap (λ (o : Option Session). machine.with_session v a o d) was.there), refl, inr (ap replies.Refused ends.0));
          stays = no_step ends.2 ends.1;
        }
    finish_acts reply acts = absurd acts

  -- ---- it was given up

  module _ (admits : Admits (lines.Abort a) r.sessions (state r.core)) where
    abbrev Aborts : ReplyValue → Type 0
    Aborts reply = Acted F r d at (lines.Abort a) reply s

    abort_needs : TakesGiver (lines.Abort a)
    abort_needs kinds.Reading is = absurd cc
    abort_needs kind is = absurd cc

    gives : (x : SessionState) × (session_of r.sessions a ≡ Some x)
    gives = giver (lines.Abort a) a r.sessions (state r.core).parts abort_needs (admits.taken a refl)

    was : DeskSession (λ k. Owns a k d.machine (state r.core)) d.sessions a gives.0
    was = desk_session (λ b k. Owns b k d.machine (state r.core)) d.sessions r.sessions at.same a gives.0 gives.1

    pub abort_acts : (reply : ReplyValue) → Acts C state (lines.Abort a) reply r s → Aborts reply
    abort_acts (replies.Aborted b) acts =
        let aborts = acts.1 in
        let answer = aborts.0.0 in
        let does = aborts.0.1 in
        let e : Event = record { actor = a; step = steps.Abort; answer = Ok answer; buf = does.0 } in
        let one = makes F e [] r.core s.core d.machine at.runs at.fits tt does.1 in
        let row = (running_step (state r.core) (state s.core) e admits.runs does.1).made.row in
        let told : Result Done Refusal = answered_by (Ok answer) does.0 in
        record {
          ss = step_of v a asked.Abort told ∷ [];
          next = record { machine = one.next; sessions = machine.with_session v a None d };
          ran = one.ran;
          acts = (was.s, (was.there, refl), (told, refl, ap replies.Aborted acts.0 ∙ abort_answer a answer does.0 (state r.core) (state s.core) row));
          stays = desk_put one.next None None aborts.1 one.fits one.runs tt one.others (λ none. abort_quiet a answer (state r.core) (state s.core) row)
              (λ c k differs owns. one.keeps.others c k differs owns);
        }
    abort_acts (replies.Refused refusal) acts =
        let aborts = acts in
        let e : Event = record { actor = a; step = steps.Abort; answer = Err refusal; buf = aborts.0.0 } in
        let one = makes F e [] r.core s.core d.machine at.runs at.fits tt aborts.0.1 in
        let row = (running_step (state r.core) (state s.core) e admits.runs aborts.0.1).made.row in
        record {
          ss = step_of v a asked.Abort (Err refusal) ∷ [];
          next = record { machine = one.next; sessions = machine.with_session v a (machine.session_of v d a) d };
          ran = one.ran;
          acts = (was.s, (was.there, ap (λ (o : Option Session). machine.with_session v a o d) was.there), (Err refusal, refl, refl));
          stays = desk_same one.next aborts.1 one.fits one.runs one.others (λ none writes. at.give a none (same_wrote a (state r.core).parts (state s.core).parts row.1 writes))
              (refused_owns steps.Abort refusal aborts.0.0 one.next one.keeps);
        }
    abort_acts reply acts = absurd acts
