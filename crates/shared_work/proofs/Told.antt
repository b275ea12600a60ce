-- What a whole load leaves on any disk: its count of faults, and what stopped the store.
use Rattle.std.proofs.Common.{◌≡◌, ◌≤◌, ℕ, List, [], ◌∷◌, Option, Some, None, Result, Ok, Err, refl, sym, ap, ◌∙◌, subst, arith}
use Rattle.std.specs.List.{AllByRecursion, Contains}
use Rattle.std.proofs.lemmas.List.Elements.{Contains-append_right}
use Rattle.dd_disk.specs.Ending.{CountsFault, ending}
use Rattle.actor_parts.specs.declared.step.Answer.{Answer}
use Rattle.actor_parts.specs.Counts.{Counts}
use Rattle.actor_parts.specs.StepValue as asked
use Rattle.actor_parts.specs.StepValue.{StepValue}
use Rattle.refusals.specs.declared.refusal.Refusal.{Refusal}
use Rattle.refusals.specs.declared.refusal.Refusal.TheVariants.{DiskRead, DiskWrite, Damaged, Stopped}
use Rattle.store_state.specs.Refused.{blames}
use Rattle.store_core.specs.declared.stop.Stop.{Stop}
use Rattle.store_core.specs.Core.{StepsOr, StopsAfter}
use Rattle.store_core.specs.Runs.{CoreRun}
use Rattle.store_core.specs.State.{CoreState, Event}
use Rattle.session_turns.proofs.StepFaults.{step_went}
use Rattle.ingest_workers.specs.Leaving.{AnswersAsItRuns}
use Rattle.shared_work.specs.Whole.{CountSteps, IsStop, is_fault}

-- ---- the count of faults

counted : (answer : Result Answer Refusal) (before now : ℕ) → before ≤ now → CountsFault (ending blames answer) before now → Counts (is_fault answer) before now
counted (Ok answer) before now later is = record { later = later; rose = λ told. absurd (cc); stays = λ told. is }
counted (Err DiskRead) before now later is = record { later = later; rose = λ told. is; stays = λ told. absurd (cc) }
counted (Err DiskWrite) before now later is = record { later = later; rose = λ told. is; stays = λ told. absurd (cc) }
counted (Err refusal) before now later is = record { later = later; rose = λ told. absurd (cc); stays = λ told. is }

-- ---- what stopped the store

stopping : (step : StepValue) (answer : Result Answer Refusal) (count : ℕ) (stop : Option Stop) (s : Stop) → StopsAfter step answer count stop → stop ≡ Some s
    → IsStop step s.refusal × (answer ≡ Err s.refusal)
stopping step (Err DiskWrite) count stop s after is =
    let same : ◌≡◌ {A = Stop} (record { refusal = DiskWrite; at = count }) s = cc in
    (subst (IsStop step) (ap (λ (x : Stop). x.refusal) same) tt, ap (λ (x : Stop). Err x.refusal) same)
stopping (asked.Seal offered) (Err (Damaged at why)) count stop s after is =
    let same : ◌≡◌ {A = Stop} (record { refusal = Damaged at why; at = count }) s = cc in
    (subst (IsStop (asked.Seal offered)) (ap (λ (x : Stop). x.refusal) same) tt, ap (λ (x : Stop). Err x.refusal) same)
stopping step answer count stop s after is = absurd (let both : ◌≡◌ {A = Option Stop} None (Some s) = sym after ∙ is in cc)

module _ {C : Type 0} (state : C → CoreState) where
  pub counts : (es : List Event) (old new : C) → CoreRun C state es old new → CountSteps es (state old).disk.faults (state new).disk.faults
  counts [] old new run = ap (λ (c : C). (state c).disk.faults) run
  counts (e ∷ es) old new (mid, (made, run)) = (
    (state mid).disk.faults,
    (
      let went = step_went (state old) (state mid) e made in counted e.answer (state old).disk.faults (state mid).disk.faults went.later.faults_are went.faults,
      counts es mid new run,
    ),
  )

  stays_stopped : (s : Stop) (es : List Event) (old new : C) → (state old).stop ≡ Some s → CoreRun C state es old new → (state new).stop ≡ Some s
  stays_stopped s [] old new is run = subst (λ (c : C). (state c).stop ≡ Some s) (sym run) is
  stays_stopped s (e ∷ es) old new is (mid, (made, run)) =
      let same = (subst (λ (o : Option Stop). StepsOr o e (state old) (state mid)) is made).same in
      stays_stopped s es mid new (same.stop_is ∙ is) run

  -- A store that is stopped at the end was stopped by a step, which was answered so.
  abbrev pub WasAnswered : List Event → Stop → Type 0
  WasAnswered es s = (e : Event) × (Contains es e × (e.answer ≡ Err s.refusal) × IsStop e.step s.refusal)

  answered_later : (first : Event) (es : List Event) (s : Stop) → WasAnswered es s → WasAnswered (first ∷ es) s
  answered_later first es s (e, (there, is, stops)) = (e, (Contains-append_right (first ∷ []) es e there, is, stops))

  pub stop_answered : (es : List Event) (old new : C) (s : Stop) → CoreRun C state es old new → (state old).stop ≡ None → (state new).stop ≡ Some s → WasAnswered es s
  stop_answered [] old new s run runs is = absurd (let both : ◌≡◌ {A = Option Stop} None (Some s) = sym runs ∙ sym (ap (λ (c : C). (state c).stop) run) ∙ is in cc)
  stop_answered (e ∷ es) old new s (mid, (made, run)) runs is = by (state mid).stop refl (λ still. stop_answered es mid new s run still is)
    where
      steps : StepsOr None e (state old) (state mid)
      steps = subst (λ (o : Option Stop). StepsOr o e (state old) (state mid)) runs made

      by : (stop : Option Stop) → (state mid).stop ≡ stop → ((state mid).stop ≡ None → WasAnswered es s) → WasAnswered (e ∷ es) s
      by None still rest = answered_later e es s (rest still)
      by (Some t) stopped rest =
          let same : t ≡ s = (let both : ◌≡◌ {A = Option Stop} (Some t) (Some s) = sym (stays_stopped t es mid new stopped run) ∙ is in cc) in
          let told = stopping e.step e.answer (state old).acknowledged (state mid).stop t steps.stops stopped in
          subst (WasAnswered (e ∷ es)) same (e, ((0, omega arith, refl), told.1, told.0))

  -- a step of it answered that the store is stopped
  abbrev pub StoppedBy : C → Result Answer Refusal → Type 0
  StoppedBy new answer = (at : ℕ) → answer ≡ Err (Stopped at) → (s : Stop) × ((state new).stop ≡ Some s)

  all_so : (new : C) (s : Stop) (es : List Event) → (state new).stop ≡ Some s → AllByRecursion (λ e. StoppedBy new e.answer) es
  all_so new s [] is = tt
  all_so new s (e ∷ es) is = (λ at told. (s, is), all_so new s es is)

  pub was_stopped : (es : List Event) (old new : C) (run : CoreRun C state es old new) → AnswersAsItRuns C state es old new run → (state old).stop ≡ None
      → AllByRecursion (λ e. StoppedBy new e.answer) es
  was_stopped [] old new run answers runs = tt
  was_stopped (e ∷ es) old new (mid, (made, run)) answers runs =
      (λ at told. absurd (answers.0 at runs told), by (state mid).stop refl (λ still. was_stopped es mid new run answers.1 still))
    where
      by : (stop : Option Stop) → (state mid).stop ≡ stop → ((state mid).stop ≡ None → AllByRecursion (λ f. StoppedBy new f.answer) es)
          → AllByRecursion (λ f. StoppedBy new f.answer) es
      by None still rest = rest still
      by (Some s) stopped rest = all_so new s es (stays_stopped s es mid new stopped run)
