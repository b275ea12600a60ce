-- Steps of a core one after the other, whatever they are given.
use Rattle.store_core.proofs.Prelude.{◌≡◌, ℕ, List, [], ◌∷◌, Option, Some, None, refl, sym, ◌∙◌, subst, IsLater, OnlyReads, later_here, reads_here, reads_on, Stop, CoreStep, Steps, StepsOr, CoreRun, FileEvent, FileRun, events_of, CoreState, Event}
use Rattle.dd_disk.proofs.Later.{later_on}
use Rattle.store_core.proofs.Stepping.{step_later}

-- a core that isn't stopped afterwards wasn't before
pub was_running : (stop : Option Stop) (e : Event) (old new : CoreState) → old.stop ≡ stop → StepsOr stop e old new → new.stop ≡ None → old.stop ≡ None
was_running None e old new is steps stays = is
was_running (Some stop) e old new is steps stays = absurd (let both = sym stays ∙ steps.same.stop_is ∙ is in cc)

-- a core that isn't stopped makes the step
pub running_step : (old new : CoreState) (e : Event) → old.stop ≡ None → CoreStep old e new → Steps e old new
running_step old new e runs made = subst (λ (stop : Option Stop). StepsOr stop e old new) runs made

module _ (C : Type 0) (state : C → CoreState) where
  pub runs_before : (events : List Event) (old new : C) → CoreRun C state events old new → (state new).stop ≡ None → (state old).stop ≡ None
  runs_before [] old new run stays = subst (λ (c : C). (state c).stop ≡ None) run stays
  runs_before (e ∷ es) old new run stays = was_running (state old).stop e (state old) (state run.0) refl run.1.0 (runs_before es run.0 new run.1.1 stays)

  pub run_later : (events : List Event) (old new : C) → CoreRun C state events old new → IsLater (state old).disk (state new).disk
  run_later [] old new run = subst (λ (c : C). IsLater (state old).disk (state c).disk) (sym run) (later_here (state old).disk)
  run_later (e ∷ es) old new run =
      later_on (state old).disk (state run.0).disk (state new).disk (step_later (state old) (state run.0) e (state old).stop run.1.0) (run_later es run.0 new run.1.1)

  -- a core that is stopped only reads
  pub stopped_reads : (stop : Stop) (events : List Event) (old new : C) → (state old).stop ≡ Some stop → CoreRun C state events old new
      → OnlyReads (state old).disk (state new).disk
  stopped_reads stop [] old new is run = subst (λ (c : C). OnlyReads (state old).disk (state c).disk) (sym run) (reads_here (state old).disk)
  stopped_reads stop (e ∷ es) old new is run =
      let same = (subst (λ (o : Option Stop). StepsOr o e (state old) (state run.0)) is run.1.0).same in
      reads_on (state old).disk (state run.0).disk (state new).disk same.disk.only (stopped_reads stop es run.0 new (same.stop_is ∙ is) run.1.1)

  -- steps that are given right are steps
  pub core_run : (S : List ℕ → Type 0) (steps : List FileEvent) (old new : C) → FileRun C state S steps old new → CoreRun C state (events_of steps) old new
  core_run S [] old new run = run
  core_run S (f ∷ fs) old new run = (run.0, (run.1.0.made, core_run S fs run.0 new run.1.1))
