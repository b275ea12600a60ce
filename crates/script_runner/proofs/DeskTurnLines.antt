-- A turn, a push and a commit as lines of a machine that fits the core.
use Rattle.script_runner.proofs.Prelude.{◌≡◌, ◌≢◌, inl, inr, ◌∙◌, ◌+◌, ◌-◌, ◌^◌, ◌<◌, ◌≤◌, min, ℕ, Bool, true, false, List, [], ◌∷◌, ◌++◌, length, Option, Some, None, Result, Ok, Err, refl, sym, ap, subst, arith, length-append, Root, MOST_FILE, ACTORS, Answer, Refusal, due_in, IsDueFor, History, HasHistory, SessionState, all_is_kept, bytes_are_counted, pushed_bytes, ReplyValue, root_of, Stop, CommitRow, StepsOr, CoreState, Event, IsRunning, running_step, takes, Asked, Answers, Desk, Session, reply_of, step_of, Machine, Values, answered_by, asked_as, Feeds, TakesTurn, TurnRun, turns_stay, DoesStep, IsReady, RefusesPut, RefusesStep, RunnerState, StepOf, IsSessionOf, Kept, has_ended, kind_by, with_session}
use Rattle.actor_parts.specs.declared.part.Part as core_part
use Rattle.actor_parts.specs.declared.part.Part.TheVariants as core_parts
use Rattle.actor_parts.specs.declared.step.Answer.TheVariants as answers
use Rattle.actor_parts.specs.Kinds as core_kinds
use Rattle.actor_parts.specs.Parts.{part_of}
use Rattle.actor_parts.specs.StepValue as steps
use Rattle.refusals.specs.declared.refusal.PartKind.TheVariants as kinds
use Rattle.refusals.specs.declared.refusal.Refusal.TheVariants as refusals
use Rattle.ingest_session.specs.declared.due.Due.TheVariants as dues
use Rattle.ingest_session.proofs.Waiting as waiting
use Rattle.script_lines.specs.declared.reply.Turned.{Turned}
use Rattle.script_lines.specs.declared.reply.Turned.TheVariants as turns
use Rattle.script_lines.specs.Grammar as lines
use Rattle.script_lines.specs.ReplyValue as replies
use Rattle.store_machine.specs.Asked as asked
use Rattle.store_machine.specs.Done.{Done}
use Rattle.store_machine.specs.Lines as machine
use Rattle.store_machine.specs.Lines.{NothingIsDue}
use Rattle.script_runner.specs.Acts.{Acts, Admits, turned}
use Rattle.script_runner.specs.Sessions.{session_of}
use Rattle.script_runner.proofs.DeskGiving.{desk_put, gives_still}
use Rattle.script_runner.proofs.DeskRuns.{Ran, ran_none, ran_on}
use Rattle.session_turns.proofs.WritingStays.{put_quiet}
use Rattle.script_runner.proofs.DeskSessions.{DeskSession, desk_session, session_on}
use Rattle.script_runner.proofs.DeskSteps.{Acted, Makes, answers_so, makes, number_so}
use Rattle.script_runner.proofs.DeskTurns.{TurnsMade, answering, due_of, paused_of, taken_of, turn_made, turn_refused, turns_made, turns_stop}
use Rattle.script_runner.proofs.Fitting.{AtDesk, Fitted}
use Rattle.script_runner.proofs.PushRefused.{why_long}
use Rattle.script_runner.proofs.TurnIdle.{idle, idle_due, idle_has, settled_idle}
use Rattle.session_turns.specs.Turns.{session_at}

-- what is replied to a turn
turn_reply : (a : ℕ) (answer : Answer) (told : Turned) (buf : List ℕ) → turned (Some answer) ≡ Some told → replies.Turn a told ≡ reply_of a (answered_by (Ok answer) buf)
turn_reply a answers.Held told buf is = ap (replies.Turn a) (let same : told ≡ turns.Held = cc in same)
turn_reply a answers.Absent told buf is = ap (replies.Turn a) (let same : told ≡ turns.Absent = cc in same)
turn_reply a (answers.Sealed id count) told buf is = ap (replies.Turn a) (let same : told ≡ turns.Sealed id = cc in same)
turn_reply a answer told buf is = absurd cc

-- nothing is due of a session, whether it found so or not
nothing_of : {V R : Type 0} (v : Values V R) (P : Kept → Type 0) (t : Session) (x : SessionState) → IsSessionOf P t x → due_in x ≡ dues.Nothing → NothingIsDue v t
nothing_of v P t x is nothing =
    let sound = waiting.session_of x is.history is.has in
    record {
      session = idle x;
      history = record is.history { placed = is.history.placed ++ [] };
      has = idle_has x sound nothing is.history is.has;
      given_is = is.given_is;
      answers_are = is.answers_are;
      ended_is = is.ended_is;
      settled = settled_idle x sound nothing;
      due_is = idle_due x sound nothing;
    }

-- the root of one that is ready is that of what was given
root_so : (P : Kept → Type 0) (t : Session) (x : SessionState) (root : Root) → IsSessionOf P t x → IsReady root x → root ≡ root_of t.given
root_so P t x root is ready = same root (root_of t.given)
    (sym ready.ready ∙ (all_is_kept x is.history is.has ready.ended ready.done).root ∙ ap (λ (l : List ℕ). Some (root_of l)) is.given_is)
  where
    same : (b c : Root) → Some b ≡ Some c → b ≡ c
    same b c is = cc

-- a core that did a step was not stopped
done_runs : (stop : Option Stop) (e : Event) (answer : Answer) (old new : CoreState) → old.stop ≡ stop → e.answer ≡ Ok answer → StepsOr stop e old new → old.stop ≡ None
done_runs None e answer old new is does step = is
done_runs (Some stop) e answer old new is does step = absurd (let both = sym does ∙ step.answer_is in cc)

module _ (F : Fitted) (r : RunnerState F.C) (d : Desk F.V F.R) (at : AtDesk F d r) (s : RunnerState F.C)
    (a : ℕ) (below : a < ACTORS) (allowed : (b : ℕ) (t : Session) → machine.session_of F.v d b ≡ Some t → F.Allowed t.given t.ended) where
  open F use {V, R, v, C, state, Allowed, beside, fitting}
  open F.beside use {Fits, Owns}

  abbrev owned : Machine V R → C → Kept → Type 0
  owned m c k = Owns a k m (state c)

  -- the desk, where the actor has this session
  giving : (n : Machine V R) (t : Session) (y : SessionState) → s.sessions ≡ with_session r.sessions a (Some y) → IsSessionOf (owned n s.core) t y → Fits n (state s.core)
      → IsRunning (state s.core)
      → ((b : ℕ) → b ≢ a → part_of (state s.core).parts b ≡ part_of (state r.core).parts b)
      → ((b : ℕ) (k : Kept) → b ≢ a → Owns b k d.machine (state r.core) → Owns b k n (state s.core))
      → AtDesk F (record { machine = n; sessions = machine.with_session v a (Some t) d }) s
  giving n t y sessions is fits runs others owns = desk_put F r d at s a n (Some t) (Some y) sessions fits runs is others (gives_still F r d at s a y below) owns

  -- ---- a turn

  abbrev Turns : ReplyValue → Type 0
  Turns reply = Acted F r d at (lines.Turn a) reply s

  module _ (x y : SessionState) (there : session_of r.sessions a ≡ Some x) (sessions : s.sessions ≡ with_session r.sessions a (Some y)) where
    was : DeskSession (owned d.machine r.core) d.sessions a x
    was = desk_session (λ b k. Owns b k d.machine (state r.core)) d.sessions r.sessions at.same a x there

    turn_done : (b : ℕ) (told : Turned) → b ≡ a → (answer : Option Answer) → turned answer ≡ Some told → TakesTurn C state a (Ok answer) x y r.core s.core
        → Turns (replies.Turn b told)
    turn_done b told same None told_is none =
        let of = paused_of (owned d.machine s.core) was.s x y (subst (λ (c : C). IsSessionOf (owned d.machine c) was.s x) (sym none.3) was.is) none.0 in
        record {
          ss = [];
          next = record { machine = d.machine; sessions = machine.with_session v a (Some was.s) d };
          ran = ran_none F d.machine r.core s.core at.fits none.3;
          acts = (
            was.s,
            was.s,
            (was.there, refl),
            inr (inl (
              refl,
              refl,
              subst (IsDueFor was.s.given was.s.ended was.s.answers) none.2 (due_of (owned d.machine s.core) was.s y of none.1),
              ap (λ (z : ℕ). replies.Turn z told) same ∙ ap (replies.Turn a) (let idle_is : told ≡ turns.Idle = cc in idle_is),
            )),
          );
          stays = giving d.machine was.s y sessions of (subst (λ (c : C). Fits d.machine (state c)) (sym none.3) at.fits)
              (subst (λ (c : C). IsRunning (state c)) (sym none.3) at.runs)
              (λ c differs. ap (λ (core : C). part_of (state core).parts c) none.3) (λ c k differs owns. subst (λ (core : C). Owns c k d.machine (state core)) (sym none.3) owns);
        }
    turn_done b told same (Some answer) told_is turn =
        let one = turn_made F a answer was.s x y d.machine r.core s.core was.is (allowed a was.s was.there) at.runs at.fits turn in
        let replied : Result Done Refusal = answered_by (Ok answer) one.buf in
        record {
          ss = step_of v a (asked_as (λ root. v.of was.s.given) one.step) replied ∷ [];
          next = record { machine = one.made.next; sessions = machine.with_session v a (Some (answering answer was.s)) d };
          ran = one.made.ran;
          acts = (
            was.s,
            answering answer was.s,
            (was.there, refl),
            inl (
              asked_as (λ root. v.of was.s.given) one.step,
              replied,
              refl,
              (refl, one.due, (answer, one.told_is, refl)),
              ap (λ (z : ℕ). replies.Turn z told) same
                  ∙ turn_reply a answer told one.buf told_is,
            ),
          );
          stays = giving one.made.next (answering answer was.s) y sessions one.is one.made.fits one.made.runs one.made.others one.made.keeps.others;
        }

    turn_not_done : (refusal : Refusal) → TakesTurn C state a (Err refusal) x y r.core s.core → Turns (replies.Refused refusal)
    turn_not_done refusal refused =
        let one = turn_refused F a [] refusal was.s x y d.machine r.core s.core was.is (allowed a was.s was.there) at.runs at.fits refused in
        record {
          ss = one.more;
          next = record { machine = one.next; sessions = machine.with_session v a (Some was.s) d };
          ran = one.ran;
          acts = (was.s, was.s, (was.there, refl), inr (inr (refl, one.stops)));
          stays = giving one.next was.s y sessions one.is one.fits one.runs one.others one.stays;
        }

  pub turn_acts : (reply : ReplyValue) → Acts C state (lines.Turn a) reply r s → Turns reply
  turn_acts (replies.Turn b told) acts =
      let made = acts.1 in
      turn_done made.0 made.1 made.2.0 made.2.1 b told acts.0 made.3.0 made.3.1 made.3.2
  turn_acts (replies.Refused refusal) acts =
      let refuses = acts in
      turn_not_done refuses.0 refuses.1 refuses.2.0 refuses.2.1 refusal refuses.3
  turn_acts reply acts = absurd acts

  -- ---- a push

  module _ (digits : List ℕ) where
    abbrev Pushes : ReplyValue → Type 0
    Pushes reply = Acted F r d at (lines.Push a digits) reply s

    abbrev bytes : List ℕ
    bytes = pushed_bytes digits

    module _ (x y : SessionState) (there : session_of r.sessions a ≡ Some x) (sessions : s.sessions ≡ with_session r.sessions a (Some y)) where
      gave : DeskSession (owned d.machine r.core) d.sessions a x
      gave = desk_session (λ b k. Owns b k d.machine (state r.core)) d.sessions r.sessions at.same a x there

      pushed : (b count : ℕ) → b ≡ a → Feeds C state a (Ok tt) bytes (session_at x r.core) (session_at y s.core) → count ≡ y.count → Pushes (replies.Pushed b count)
      pushed b count same feeds counts =
          let mid : SessionState = feeds.1 in
          let went = turns_made F a feeds.0 gave.s x mid d.machine r.core s.core gave.is (allowed a gave.s gave.there) at.runs at.fits feeds.2 in
          let h : History = went.is.history in
          let has : HasHistory y (record h { given = h.given ++ bytes }) = feeds.4 h went.is.has in
          let given_is : h.given ++ bytes ≡ went.t.given ++ bytes = ap (λ (l : List ℕ). l ++ bytes) went.is.given_is in
          let counted = bytes_are_counted y (record h { given = h.given ++ bytes }) has in
          record {
            ss = went.made;
            next = record { machine = went.next; sessions = machine.with_session v a (Some (record went.t { given = went.t.given ++ bytes })) d };
            ran = went.made_ran;
            acts = (
              gave.s,
              went.t,
              (gave.there, refl),
              went.room feeds.5,
              inl (
                went.turns,
                inl (
                  ap (λ (z : ℕ). replies.Pushed z count) same ∙ ap (replies.Pushed a) (counts ∙ counted.0 ∙ ap length given_is),
                  subst (λ (l : List ℕ). length l ≤ MOST_FILE) given_is counted.1,
                ),
              ),
            );
            stays = giving went.next (record went.t { given = went.t.given ++ bytes }) y sessions
                (record {
                  history = record h { given = h.given ++ bytes };
                  has = has;
                  given_is = given_is;
                  answers_are = went.is.answers_are;
                  ended_is = ap (λ (z : SessionState). z.ended) feeds.3.others ∙ went.is.ended_is;
                  owns = went.is.owns;
                }) went.fits went.runs went.others went.stays;
          }

      not_pushed : (refusal : Refusal) → x.ended ≡ false → Feeds C state a (Err refusal) bytes (session_at x r.core) (session_at y s.core) → Pushes (replies.Refused refusal)
      not_pushed refusal on (inl stopped) =
          let stop = turns_stop F a refusal gave.s x y d.machine r.core s.core gave.is (allowed a gave.s gave.there) at.runs at.fits stopped.0 in
          record {
            ss = stop.ss;
            next = record { machine = stop.next; sessions = machine.with_session v a (Some stop.t) d };
            ran = stop.ran;
            acts = (gave.s, stop.t, (gave.there, refl), stop.room stopped.1, inr stop.stops);
            stays = giving stop.next stop.t y sessions stop.is stop.fits stop.runs stop.others stop.stays;
          }
      not_pushed refusal on (inr long) =
          let went = turns_made F a long.0 gave.s x y d.machine r.core s.core gave.is (allowed a gave.s gave.there) at.runs at.fits long.1 in
          let off : y.ended ≡ false = (turns_stay C state a long.0 x y r.core s.core long.1).ended ∙ on in
          let why = why_long y (length bytes) refusal false off off long.2 in
          let count : y.count ≡ length went.t.given = (bytes_are_counted y went.is.history went.is.has).0 ∙ ap length went.is.given_is in
          let more : length (went.t.given ++ bytes) ≡ length went.t.given + length bytes = length-append went.t.given bytes in
          record {
            ss = went.made;
            next = record { machine = went.next; sessions = machine.with_session v a (Some went.t) d };
            ran = went.made_ran;
            acts = (gave.s, went.t, (gave.there, refl), went.room long.3, inl (went.turns, inr (ap replies.Refused why.0, omega (arith, why.1, count, more))));
            stays = giving went.next went.t y sessions went.is went.fits went.runs went.others went.stays;
          }

    -- a file that is pushed goes on
    goes_on : (x : SessionState) → session_of r.sessions a ≡ Some x → Admits (lines.Push a digits) r.sessions (state r.core) → x.ended ≡ false
    goes_on x there admits = by x.ended refl
      where
        by : (e : Bool) → x.ended ≡ e → x.ended ≡ false
        by false is = is
        by true is =
            let taken = subst (λ (o : Option SessionState). takes (lines.Push a digits)
            (kind_by (has_ended o) (core_kinds.kind_of (part_of (state r.core).parts a))) ≡ true) there (admits.taken a refl) in
            absurd (let wrong = subst (λ (b : Bool). takes (lines.Push a digits) (kind_by (Some b) (core_kinds.kind_of (part_of (state r.core).parts a))) ≡ true) is taken in cc)

    pub push_acts : (reply : ReplyValue) → Admits (lines.Push a digits) r.sessions (state r.core) → Acts C state (lines.Push a digits) reply r s → Pushes reply
    push_acts (replies.Pushed b count) admits acts =
        let does = acts.1 in
        pushed does.0 does.1 does.2.0 does.2.1 b count acts.0 does.3 does.4
    push_acts (replies.Refused refusal) admits acts =
        let refuses = acts in
        not_pushed refuses.0 refuses.1 refuses.2.0 refuses.2.1 refusal (goes_on refuses.0 refuses.2.0 admits) refuses.3
    push_acts reply admits acts = absurd acts

  -- ---- a commit

  module _ (name : List ℕ) where
    abbrev Commits : ReplyValue → Type 0
    Commits reply = Acted F r d at (lines.Commit a name) reply s

    module _ (x y : SessionState) (there : session_of r.sessions a ≡ Some x) where
      wrote : DeskSession (owned d.machine r.core) d.sessions a x
      wrote = desk_session (λ b k. Owns b k d.machine (state r.core)) d.sessions r.sessions at.same a x there

      -- after all turns
      module _ (told : List Answer) (mid : C) (run : TurnRun C state a told x y r.core mid) (root : Root) (ready : IsReady root y) where
        went : TurnsMade F a told wrote.s x y d.machine r.core mid run
        went = turns_made F a told wrote.s x y d.machine r.core mid wrote.is (allowed a wrote.s wrote.there) at.runs at.fits run

        abbrev commits : Asked V
        commits = asked.Commit name (v.of went.t.given)

        nothing : NothingIsDue v went.t
        nothing = nothing_of v (owned went.next mid) went.t y went.is ready.done

        make : (answer : Result Answer Refusal) (buf : List ℕ) → StepOf a (steps.Commit name root) answer buf (state mid) (state s.core)
            → Makes F (record { actor = a; step = steps.Commit name root; answer = answer; buf = buf }) went.t.given went.next mid s.core
        make answer buf step =
            makes F (record { actor = a; step = steps.Commit name root; answer = answer; buf = buf }) went.t.given mid s.core went.next went.runs went.fits (
              y,
              taken_of Allowed (owned went.next mid) went.t y went.is went.allowed,
              ready,
              root_so
                  (owned went.next mid) went.t y root went.is ready,
            ) step

        others_so : (n : C) → ((b : ℕ) → b ≢ a → part_of (state n).parts b ≡ part_of (state mid).parts b) → (b : ℕ) → b ≢ a
            → part_of (state n).parts b ≡ part_of (state r.core).parts b
        others_so n others b differs = others b differs ∙ went.others b differs

        module _ (b sequence : ℕ) (same : b ≡ a) (sequence_is : sequence ≡ min ((state mid).tables.journal.last + 1) (2 ^ 64 - 1))
            (sessions : s.sessions ≡ with_session r.sessions a None) where
          by_answer : (answer : Answer) (buf : List ℕ) (n : Machine V R) → CommitRow name root a (Ok answer) (state mid) (state s.core)
              → Answers v a commits (answered_by (Ok answer) buf) went.next n
              → (replies.Committed b sequence ≡ reply_of a (answered_by (Ok answer) buf)) × (core_kinds.kind_of (part_of (state s.core).parts a) ≢ kinds.Writing)
          by_answer (answers.Committed number) buf n row legal = (
            ap (λ (z : ℕ). replies.Committed z sequence) same
                ∙ ap (replies.Committed a) (sequence_is ∙ number_so (state mid).tables.journal.last went.next.now.last number row.1 legal.sequence_is legal.numbers.0),
            subst (λ (parts : List core_part.Part). core_kinds.kind_of (part_of parts a) ≢ kinds.Writing) (sym row.2) (put_quiet (state mid).parts a core_parts.Idle (λ is. cc)),
          )
          by_answer answer buf n row legal = absurd row

          put : (answer : Answer) → DoesStep a (steps.Commit name root) answer (state mid) (state s.core) → Commits (replies.Committed b sequence)
          put answer does =
              let e : Event = record { actor = a; step = steps.Commit name root; answer = Ok answer; buf = does.0 } in
              let stop = done_runs (state mid).stop e answer (state mid) (state s.core) refl refl does.1 in
              let one = make (Ok answer) does.0 does.1 in
              let replied : Result Done Refusal = answered_by (Ok answer) does.0 in
              let legal = answers_so v went.next one.next a commits replied (fitting.runs went.next (state mid) went.fits stop) one.legal in
              let is = by_answer answer does.0 one.next (running_step (state mid) (state s.core) e stop does.1).made.row legal in
              record {
                ss = went.made ++ step_of v a commits replied ∷ [];
                next = record { machine = one.next; sessions = machine.with_session v a None d };
                ran = ran_on F went.made (step_of v a commits replied ∷ []) d.machine went.next one.next r.core mid s.core went.made_ran one.ran;
                acts = (wrote.s, went.t, (wrote.there, refl), inl (went.made, went.turns, nothing, (replied, refl, is.0)));
                stays = desk_put F r d at s a one.next None None sessions one.fits one.runs tt (others_so s.core one.others) (λ none. is.1)
                    (λ c k differs owns. one.keeps.others c k differs (went.stays c k differs owns));
              }

        -- it was refused, and the session is what it was at the end of the turns
        module _ (refusal : Refusal) (sessions : s.sessions ≡ with_session r.sessions a (Some y)) where
          no_memory : refusal ≡ refusals.Memory → s.core ≡ mid → Commits (replies.Refused refusal)
          no_memory memory same = record {
            ss = went.made;
            next = record { machine = went.next; sessions = machine.with_session v a (Some went.t) d };
            ran = subst (λ (c : C). Ran F went.made d.machine went.next r.core c) (sym same) went.made_ran;
            acts = (wrote.s, went.t, (wrote.there, refl), inr (went.made, went.turns, (refusal, refl, inl (memory, refl))));
            stays = giving went.next went.t y sessions (subst (λ (c : C). IsSessionOf (owned went.next c) went.t y) (sym same) went.is)
                (subst (λ (c : C). Fits went.next (state c)) (sym same) went.fits) (subst (λ (c : C). IsRunning (state c)) (sym same) went.runs)
                (others_so s.core (λ c differs. ap (λ (core : C). part_of (state core).parts c) same))
                (λ c k differs owns. subst (λ (core : C). Owns c k went.next (state core)) (sym same) (went.stays c k differs owns));
          }

          not_put : RefusesStep a (steps.Commit name root) refusal (state mid) (state s.core) → Commits (replies.Refused refusal)
          not_put refuses =
              let one = make (Err refusal) refuses.0 refuses.1 in
              record {
                ss = went.made ++ step_of v a commits (Err refusal) ∷ [];
                next = record { machine = one.next; sessions = machine.with_session v a (Some went.t) d };
                ran = ran_on F went.made (step_of v a commits (Err refusal) ∷ []) d.machine went.next one.next r.core mid s.core went.made_ran one.ran;
                acts = (wrote.s, went.t, (wrote.there, refl), inl (went.made, went.turns, nothing, (Err refusal, refl, refl)));
                stays = giving one.next went.t y sessions
                    (session_on (owned went.next mid) (owned one.next s.core) went.t y (λ k owns. one.keeps.refused k refusal refl owns) went.is) one.fits one.runs
                    (others_so s.core one.others)
                    (λ c k differs owns. one.keeps.others c k differs (went.stays c k differs owns));
              }

      put_refused : (refusal : Refusal) → s.sessions ≡ with_session r.sessions a (Some y) → RefusesPut C state a name refusal (session_at x r.core) (session_at y s.core)
          → Commits (replies.Refused refusal)
      put_refused refusal sessions (inl stopped) =
          let stop = turns_stop F a refusal wrote.s x y d.machine r.core s.core wrote.is (allowed a wrote.s wrote.there) at.runs at.fits stopped in
          record {
            ss = stop.ss;
            next = record { machine = stop.next; sessions = machine.with_session v a (Some stop.t) d };
            ran = stop.ran;
            acts = (wrote.s, stop.t, (wrote.there, refl), inr stop.stops);
            stays = giving stop.next stop.t y sessions stop.is stop.fits stop.runs stop.others stop.stays;
          }
      put_refused refusal sessions (inr done) = elim done.3.2 [
        | inl memory ↦ no_memory done.0 done.1 done.2 done.3.0 done.3.1 refusal sessions memory.0 memory.1
        | inr refuses ↦ not_put done.0 done.1 done.2 done.3.0 done.3.1 refusal sessions refuses
      ]

    pub commit_acts : (reply : ReplyValue) → Acts C state (lines.Commit a name) reply r s → Commits reply
    commit_acts (replies.Committed b sequence) acts =
        let does = acts.1 in
        let puts = does.2 in
        put does.0 puts.ready does.1 puts.answers_are puts.mid puts.turns puts.root puts.is_ready b sequence acts.0 puts.sequence_is does.3 puts.answer puts.put
    commit_acts (replies.Refused refusal) acts =
        let refuses = acts in
        put_refused refuses.0 refuses.1 refuses.2.0 refusal refuses.2.1 refuses.3
    commit_acts reply acts = absurd acts
