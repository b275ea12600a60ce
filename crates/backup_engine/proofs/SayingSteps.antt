-- Lines by which the first actor gives a file, each by what was done of it.
use Rattle.backup_engine.proofs.Prelude.{◌≡◌, inl, ◌∙◌, ◌<◌, ℕ, ◌+◌, ◌-◌, ◌^◌, min, false, true, Option, Some, None, List, length, Ok, Err, refl, sym, ap, subst, arith, length-replicate, ACTORS, Answer, Root, Refusal, pushed_bytes, IsEnding, IsFinishAnswer, History, HasHistory, IsBegun, no_history, SessionState, CoreStep, CoreState, Feeds, TurnRun, Admits, DoesStep, IsReady, RefusesPut, RunnerState, RunsLine, runner_of, kind_in, IsFresh, giving, no_sessions}
use Rattle.std.proofs.lemmas.List.{set-set}
use Rattle.actor_parts.specs.declared.part.Part.{Part}
use Rattle.actor_parts.specs.declared.part.Part.TheVariants as parts
use Rattle.actor_parts.specs.Kinds.{kind_of}
use Rattle.actor_parts.specs.Parts.{part_of}
use Rattle.actor_parts.specs.StepValue as asked
use Rattle.refusals.specs.declared.refusal.PartKind.TheVariants as kinds
use Rattle.script_lines.specs.Grammar as lines
use Rattle.script_lines.specs.ReplyValue as replies
use Rattle.script_runner.specs.Acts.{Replaces}
use Rattle.script_runner.specs.Sessions.{has_ended, kind_by, session_of, with_session}
use Rattle.script_runner.proofs.Lists.{set_here}
use Rattle.script_runner.proofs.SessionLists.{only_memory}
use Rattle.backup_engine.specs.Saying.{idle}
use Rattle.backup_engine.proofs.FirstActor.{by_first, idle_of}
use Rattle.backup_engine.proofs.Saying.{admits}
use Rattle.session_turns.specs.Turns.{session_at}

-- ---- sessions

first_within : 0 < length no_sessions
first_within = omega (arith, length-replicate ACTORS (let none : Option SessionState = None in none))

-- the first actor's session
session_is : (x : Option SessionState) → session_of (with_session no_sessions 0 x) 0 ≡ x
session_is x = set_here 0 None x no_sessions first_within

none_is : session_of no_sessions 0 ≡ None
none_is = refl

-- another one in its place
pub replaces : {C : Type 0} (old new : C) (s t : SessionState) → Replaces 0 s t (giving old s).sessions (giving new t).sessions
replaces old new s t = (session_is (Some s), sym (set-set no_sessions 0 (Some s) (Some t)))

pub kind_writing : {C : Type 0} (core : C) (s : SessionState) (ps : List Part) → s.ended ≡ false → kind_in (giving core s).sessions ps 0 ≡ kinds.Writing
kind_writing core s ps off =
    ap (λ (x : Option SessionState). kind_by (has_ended x) (kind_of (part_of ps 0))) (session_is (Some s)) ∙ ap (λ (b : _). kind_by (Some b) (kind_of (part_of ps 0))) off

pub kind_finished : {C : Type 0} (core : C) (s : SessionState) (ps : List Part) → s.ended ≡ true → kind_in (giving core s).sessions ps 0 ≡ kinds.Finished
kind_finished core s ps on =
    ap (λ (x : Option SessionState). kind_by (has_ended x) (kind_of (part_of ps 0))) (session_is (Some s)) ∙ ap (λ (b : _). kind_by (Some b) (kind_of (part_of ps 0))) on

-- of an actor that gives no file
pub kind_without : (ps : List Part) (part : Part) → part_of ps 0 ≡ part → kind_in no_sessions ps 0 ≡ kind_by None (kind_of part)
kind_without ps part is = ap (λ (x : Option SessionState). kind_by (has_ended x) (kind_of (part_of ps 0))) none_is ∙ ap (λ (p : Part). kind_by None (kind_of p)) is

-- ---- lines

module _ (C : Type 0) (state : C → CoreState) where
  pub begin_line : (old new : C) (s : SessionState) (answer : Answer) (buf : List ℕ) → IsFresh (state old) →
      CoreStep (state old) (by_first asked.Begin (Ok answer) buf) (state new) → IsBegun s → HasHistory s no_history
      → RunsLine C state (lines.Begin 0) (replies.Begun 0) (idle old) (giving new s)
  begin_line old new s answer buf fresh step begun has =
      inl (
        admits (lines.Begin 0) no_sessions (state old) kinds.Idle fresh.runs refl (kind_without (state old).parts parts.Idle (idle_of (state old) fresh)) refl,
        (refl, (answer, s, (buf, step), begun, has, refl)),
      )

  -- the next sequence number, and the runner once the name is put
  abbrev pub sequence_after : CoreState → ℕ
  sequence_after c = min (c.tables.journal.last + 1) (2 ^ 64 - 1)

  abbrev pub committed : C → C → SessionState → RunnerState C
  committed old new s = runner_of new (with_session (giving old s).sessions 0 None)

  -- the end was refused: nothing changed
  pub finish_refused : (old : C) (s t : SessionState) (refusal : Refusal) → (state old).stop ≡ None → s.ended ≡ false → IsFinishAnswer s (Err refusal) → t ≡ s
      → RunsLine C state (lines.Finish 0) (replies.Refused refusal) (giving old s) (giving old t)
  finish_refused old s t refusal runs off answer same =
      inl (
        admits (lines.Finish 0) (giving old s).sessions (state old) kinds.Writing runs refl (kind_writing old s (state old).parts off) refl,
        (only_memory s refusal (ap Some off) answer, ap (λ (u : SessionState). (giving old u).sessions) same, refl),
      )

  module _ (old new : C) (s t : SessionState) (runs : (state old).stop ≡ None) where
    module _ (off : s.ended ≡ false) (actor : ℕ) (first : actor ≡ 0) (digits piece : List ℕ) (same : pushed_bytes digits ≡ piece) where
      feeds_so : (result : _) → Feeds C state actor result piece (session_at s old) (session_at t new)
          → Feeds C state 0 result (pushed_bytes digits) (session_at s old) (session_at t new)
      feeds_so result feeds =
          subst (λ (bytes : List ℕ). Feeds C state 0 result bytes (session_at s old) (session_at t new)) (sym same)
          (subst (λ (a : ℕ). Feeds C state a result piece (session_at s old) (session_at t new)) first feeds)

      pub push_line : (count : ℕ) → Feeds C state actor (Ok tt) piece (session_at s old) (session_at t new) → count ≡ t.count →
          RunsLine C state (lines.Push 0 digits) (replies.Pushed 0 count) (giving old s) (giving new t)
      push_line count feeds count_is =
          inl (
            admits (lines.Push 0 digits) (giving old s).sessions (state old) kinds.Writing runs refl (kind_writing old s (state old).parts off) refl,
            (refl, (s, t, replaces old new s t, feeds_so (Ok tt) feeds, count_is)),
          )

      pub push_refused : (refusal : Refusal) → Feeds C state actor (Err refusal) piece (session_at s old) (session_at t new) →
          RunsLine C state (lines.Push 0 digits) (replies.Refused refusal) (giving old s) (giving new t)
      push_refused refusal feeds =
          inl (
            admits (lines.Push 0 digits) (giving old s).sessions (state old) kinds.Writing runs refl (kind_writing old s (state old).parts off) refl,
            (s, t, replaces old new s t, feeds_so (Err refusal) feeds),
          )

    pub finish_line : (count : ℕ) → IsEnding s t → ((h : History) → HasHistory s h → HasHistory t h) → count ≡ t.count →
        RunsLine C state (lines.Finish 0) (replies.Finished 0 count) (giving old s) (giving old t)
    finish_line count ending history count_is =
        inl (
          admits (lines.Finish 0) (giving old s).sessions (state old) kinds.Writing runs refl (kind_writing old s (state old).parts ending.ongoing) refl,
          (refl, (s, t, replaces old old s t, ending, history, count_is, refl)),
        )

    module _ (on : s.ended ≡ true) (name : List ℕ) where
      commit_taken : Admits (lines.Commit 0 name) (giving old s).sessions (state old)
      commit_taken = admits (lines.Commit 0 name) (giving old s).sessions (state old) kinds.Finished runs refl (kind_finished old s (state old).parts on) refl

      pub commit_refused : (refusal : Refusal) → RefusesPut C state 0 name refusal (session_at s old) (session_at t new)
          → RunsLine C state (lines.Commit 0 name) (replies.Refused refusal) (giving old s)
          (giving new t)
      commit_refused refusal refuses = inl (commit_taken, (s, t, replaces old new s t, refuses))

      pub commit_line : (ready : SessionState) (mid : C) (answers_are : List Answer) (root : Root) (answer : Answer) → TurnRun C state 0 answers_are s ready old mid →
          IsReady root ready
          → DoesStep 0 (asked.Commit name root) answer (state mid) (state new)
          → RunsLine C state (lines.Commit 0 name) (replies.Committed 0 (sequence_after (state mid))) (giving old s) (committed old new s)
      commit_line ready mid answers_are root answer turns is_ready put =
          inl (
            commit_taken,
            (
              refl,
              (
                s,
                session_is (Some s),
                record {
                  answers_are = answers_are;
                  ready = ready;
                  mid = mid;
                  turns = turns;
                  root = root;
                  is_ready = is_ready;
                  answer = answer;
                  put = put;
                  sequence_is = refl;
                },
                refl,
              ),
            ),
          )
