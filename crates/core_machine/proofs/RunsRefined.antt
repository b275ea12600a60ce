-- Steps of a core, one after the other, are a run of the machine of roots.
use Rattle.core_machine.proofs.Prelude.{◌≡◌, true, [], ◌∷◌, Result, Ok, refl, subst, sym, KnownWith, Answer, Phase, Refusal, CoreState, step_runs, step_later, Follows, FollowsPhase, IsMachine}
use Rattle.actor_parts.specs.declared.step.Answer.TheVariants as answers
use Rattle.refusals.specs.declared.refusal.Phase.TheVariants as phases
use Rattle.core_machine.specs.Runs.{RunsRefine}
use Rattle.core_machine.proofs.Refined.{core_refines}

-- a disk that tells its content is enough for each step
abbrev IsTold : CoreState → Type 0
IsTold c = KnownWith c.disk.content (λ _. Unit {0})

by_phase : (phase : Phase) (c : CoreState) → IsTold c → FollowsPhase phase c.disk.content
by_phase phases.Flush c told = told
by_phase phases.Release c told = told
by_phase phase c told = tt

by_answer : (answer : Result Answer Refusal) (c : CoreState) → IsTold c → Follows answer c
by_answer (Ok (answers.Did phase)) c told = by_phase phase c told
by_answer answer c told = tt

pub runs_refine : (C : Type 0) (state : C → CoreState) → RunsRefine C state
runs_refine C state followed [] old new m up at told run = (m, (refl, subst (λ (c : C). IsMachine followed m (state c)) (sym run) at))
runs_refine C state followed (e ∷ es) old new m up at told (mid, (step, run)) =
    let one = core_refines C state followed e old mid m up at (λ is. by_answer e.answer (state old) (told is)) step in
    let later : followed ≡ true → IsTold (state mid) = λ is.
    let image = told is in (step_later (state old) (state mid) e (state old).stop step).tells image.0 image.1 in
    let rest = runs_refine C state followed es mid new one.0 (step_runs (state old) (state mid) e step up) one.1.1 later run in
    (rest.0, ((one.0, (one.1.0, rest.1.0)), rest.1.1))
