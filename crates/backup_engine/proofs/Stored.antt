-- A source that was read to its end, or not, and the file that is stored then.
use Rattle.backup_engine.proofs.Prelude.{◌≡◌, inl, inr, ◌∙◌, ℕ, List, [], ◌∷◌, ◌++◌, Some, Result, Ok, Err, refl, sym, ap, subst, IsErrAnd, SourceView, SinkView, Root, Answer, Refusal, Memory, TooLong, Refused, stored_line, root_of, CoreStep, CoreState, IsRunning, History, HasHistory, IsBegun, no_history, SessionState, Replied, DoesStep, IsReady, RefusesPut, RunnerState, RunsLine, Sent, RunsLines, Fills, IsFed, MayBe, opens_of, IsFresh, AsksPut, RunsSingle, SaysAll, SaysEnd, giving, IsIngest, StoresFile, finish_lines, push_lines, refused, said, IngestRun}
use Rattle.std.proofs.Common.{append-nil}
use Rattle.actor_parts.specs.StepValue as asked
use Rattle.reply_text.specs.declared.ending.Ending.{Ending}
use Rattle.reply_text.specs.declared.ending.Ending.TheVariants.{Source}
use Rattle.script_lines.specs.Grammar as lines
use Rattle.script_lines.specs.ReplyValue as replies
use Rattle.backup_engine.specs.Feeding.{Commits, IsPut}
use Rattle.backup_engine.specs.Saying.{SaysStop, idle}
use Rattle.backup_engine.specs.Singles.{begun}
use Rattle.backup_engine.proofs.Feds.{fed_begun}
use Rattle.backup_engine.proofs.FirstActor.{as_first}
use Rattle.backup_engine.proofs.Kept.{by_error}
use Rattle.backup_engine.proofs.Saying.{finish_goes_on, line_after, line_then}
use Rattle.backup_engine.proofs.SayingSteps.{begin_line, commit_line, commit_refused, committed, sequence_after}
use Rattle.backup_engine.proofs.SourceRuns.{given_of, given_told, not_stored, nothing_put, stopped, stored, too_long}
use Rattle.backup_engine.proofs.Ways.{way_begun, way_stops}
use Rattle.session_turns.specs.Turns.{session_at}
use Rattle.backup_engine.specs.Seen.{streaming}

-- A session was begun over a core that was just opened: it has nothing yet, and that was the first line.
pub record Began (C : Type 0) (state : C → CoreState) (start mid : C) (s : SessionState) : Type 0 where
  pub fed : IsFed C state [] s start mid
  pub line : RunsLine C state (lines.Begin 0) (replies.Begun 0) (idle start) (giving mid s)

pub began : (C : Type 0) (state : C → CoreState) (start mid : C) (s : SessionState) (actor : ℕ) (answer : Answer) (buf : List ℕ) → actor ≡ 0 → IsFresh (state start)
    → CoreStep (state start) (record { actor = actor; step = asked.Begin; answer = Ok answer; buf = buf }) (state mid) → IsRunning (state mid) → IsBegun s →
    HasHistory s no_history → Began C state start mid s
began C state start mid s actor answer buf first fresh made running begins has =
    let step = as_first (state start) (state mid) actor asked.Begin asked.Begin (Ok answer) buf first refl made in
    record {
      fed = fed_begun C state s start mid begins has (way_begun C state (MayBe [] s) start mid answer buf fresh step running).0;
      line = begin_line C state start mid s answer buf fresh step begins has;
    }

module _ (C : Type 0) (state : C → CoreState) (name : List ℕ) (source : SourceView) where
  -- there was no memory to begin
  pub no_memory : (core : C) (sink : SinkView) (result : Result Unit Ending) → IsErrAnd result (λ e. e ≡ Refused Memory) →
      IngestRun C state name result (streaming core source sink) (streaming core source sink)
  no_memory core sink result is =
      let given : List ℕ = given_of source.left in
      by_error (λ r. IngestRun C state name r (streaming core source sink) (streaming core source sink)) result (Refused Memory) is
      (stopped C state name source source given (given_told source.left) core core (Refused Memory) sink tt refl (λ is. absurd cc)
      (nothing_put C state name source source given core)
      ([], (inl (refl, refl), (idle core, (refl, refl)))))

  module _ (source_now : SourceView) (start mid new : C) (s t : SessionState) (begins : Began C state start mid s) where
    abbrev fed : IsFed C state [] s start mid
    fed = begins.fed

    -- this is how it ended
    abbrev Ran : Result Unit Ending → C → SinkView → SinkView → Type 0
    Ran result last sink sink_now = IngestRun C state name result (streaming start source sink) (streaming last source_now sink_now)

    -- a file was begun, and then these lines were run
    begun_then : (P : List Replied → Type 0) (core : C) (more : List Replied) (last : RunnerState C) → P (begun ∷ more) → last.core ≡ core →
        RunsLines C state more (giving mid s) last → RunsSingle C state P start core
    begun_then P core more last right same says = (begun ∷ more, (right, (last, (same, line_then C state begun more (idle start) (giving mid s) last refl begins.line says))))

    stop_lines : (given : List ℕ) (e : Ending) → SaysStop C state e given source source_now (session_at s mid) (session_at t new)
        → RunsSingle C state (IsIngest name given (Some e) source source_now) start
        new
    stop_lines given Source says = begun_then (IsIngest name given (Some Source) source source_now) new (push_lines 0 says.0) (giving new t) (says.0, (says.1.0, refl)) refl
        says.1.1
    stop_lines given (Refused refusal) says =
        let so = says name in
        begun_then (IsIngest name given (Some (Refused refusal)) source source_now) new so.0 (giving new t) (inr (so.0, (refl, so.1.0))) refl so.1.1
    stop_lines given e says = absurd says

    not_filled : (e : Ending) (sink : SinkView) → Fills C state (SaysEnd C state) (Err e) (session_at s mid) (session_at t new) source source_now → Ran (Err e) new sink sink
    not_filled Source sink filled =
        stopped C state name source source_now filled.given filled.took start new Source sink filled.filled.0 tt (λ is. absurd cc) (filled.filled.1 start name fed)
        (stop_lines filled.given Source (filled.spoken start fed))
    not_filled (Refused refusal) sink filled = elim (filled.filled start name fed) [
      | inl refused ↦ not_stored C state name source source_now filled.given filled.took start new refusal sink filled.heard refused.0 refused.1
          (stop_lines filled.given (Refused refusal) (filled.spoken start fed))
      | inr long ↦
          subst (λ (r : Refusal). Ran (Err (Refused r)) new sink sink) (sym long.0)
          (stopped C state name source source_now filled.given filled.took start new (Refused TooLong) sink
          (too_long C state name source source_now filled.given filled.took start new long.1) filled.heard (λ is. long.1) long.2
          (subst (λ (r : Refusal). RunsSingle C state (IsIngest name filled.given (Some (Refused r)) source source_now) start new) long.0
          (stop_lines filled.given (Refused refusal) (filled.spoken start fed))))
    ]
    not_filled e sink filled = absurd filled.filled

    pub not_taken : (e : Ending) (sink : SinkView) (result : Result Unit Ending) → IsErrAnd result (λ y. y ≡ e) →
        Fills C state (SaysEnd C state) (Err e) (session_at s mid) (session_at t new) source source_now → Ran result new sink sink
    not_taken e sink result is filled = by_error (λ r. Ran r new sink sink) result e is (not_filled e sink filled)

    module _ (filled : Fills C state (SaysEnd C state) (Ok tt) (session_at s mid) (session_at t new) source source_now) (root : Root) (ready : IsReady root t) where
      abbrev all_said : SaysAll C state filled.given s t mid new
      all_said = filled.spoken start fed

      -- the commit was the last line
      commit_stops : (refusal : Refusal) (last : C) → RefusesPut C state 0 name refusal (session_at all_said.before all_said.mid) (session_at t last) →
          RunsSingle C state (IsIngest name filled.given (Some (Refused refusal)) source source_now) start last
      commit_stops refusal last refuses =
          let one = refused (lines.Commit 0 name) refusal in
          let more = finish_lines all_said.pushes ++ one ∷ [] in
          begun_then (IsIngest name filled.given (Some (Refused refusal)) source source_now) last more (giving last t)
          (inr (more, (refl, (all_said.pushes, inr (inr (all_said.all, refl)))))) refl
          (line_after C state (finish_lines all_said.pushes) one (giving mid s) (giving all_said.mid all_said.before) (giving last t) (finish_goes_on all_said.pushes) refl
          all_said.says
          (commit_refused C state all_said.mid last all_said.before t all_said.runs all_said.on name refusal refuses))

      commit_done : (last : C) (answer : Answer) → DoesStep 0 (asked.Commit name root) answer (state new) (state last) →
          RunsSingle C state (StoresFile name filled.given) start last
      commit_done last answer put =
          let sequence = sequence_after C state (state new) in
          let one = said (lines.Commit 0 name) (replies.Committed 0 sequence) in
          let more = finish_lines all_said.pushes ++ one ∷ [] in
          let end = committed C state all_said.mid last all_said.before in
          begun_then (StoresFile name filled.given) last more end (all_said.pushes, (sequence, (all_said.all, refl))) refl
          (line_after C state (finish_lines all_said.pushes) one (giving mid s) (giving all_said.mid all_said.before) end (finish_goes_on all_said.pushes) refl all_said.says
          (commit_line C state all_said.mid last all_said.before t all_said.runs all_said.on name t new all_said.answers_are root answer all_said.turns ready put))

      -- there was no memory for the reply
      pub no_reply : (sink : SinkView) (result : Result Unit Ending) → IsErrAnd result (λ e. e ≡ Refused Memory) → Ran result new sink sink
      no_reply sink result is =
          let now = filled.filled.1 start fed in
          by_error (λ r. Ran r new sink sink) result (Refused Memory) is
          (stopped C state name source source_now filled.given filled.took start new (Refused Memory) sink tt filled.heard (λ is. absurd cc)
          (way_stops C state (MayBe filled.given t) (opens_of t) start new now.way name filled.given ([], (λ on. refl), sym (append-nil filled.given)))
          (commit_stops Memory new (inr (all_said.answers_are, new, all_said.turns, (root, ready, inl (refl, refl))))))

      -- the root is that of the file
      module _ (of_each : (h : History) → HasHistory t h → root ≡ root_of h.given) (last : C) where
        root_is : root ≡ root_of filled.given
        root_is =
            let now = filled.filled.1 start fed in of_each now.history now.has ∙ ap root_of now.given_is

        is_put : (put : Result Unit Refusal) → Commits C state name root put new last → IsPut C state name filled.given put start last
        is_put put commits = commits start filled.given t (record { fed = filled.filled.1 start fed; ended = ready.ended; done = ready.done }) root_is

        pub put_refused : (refusal : Refusal) (sink : SinkView) (result : Result Unit Ending) → IsErrAnd result (λ e. e ≡ Refused refusal) →
            Commits C state name root (Err refusal) new last → AsksPut C state name root (Err refusal) new last → Ran result last sink sink
        put_refused refusal sink result is commits asks =
            let put = is_put (Err refusal) commits in
            by_error (λ r. Ran r last sink sink) result (Refused refusal) is
            (not_stored C state name source source_now filled.given filled.took start last refusal sink filled.heard put.ran put.refused
            (commit_stops refusal last (inr (all_said.answers_are, new, all_said.turns, (root, ready, inr asks)))))

        pub put_done : (result : Result Unit Ending) (sink sink_now : SinkView) → Commits C state name root (Ok tt) new last → AsksPut C state name root (Ok tt) new last →
            Sent (stored_line name root) result sink sink_now
            → Ran result last sink sink_now
        put_done result sink sink_now commits asks sent =
            let put = is_put (Ok tt) commits in
            let reply = subst (λ (r : Root). Sent (stored_line name r) result sink sink_now) root_is sent in
            stored C state name source source_now filled.given filled.took start last result sink sink_now filled.filled.0 filled.heard put.ran put.few put.held reply
            (commit_done last asks.0 asks.1)
