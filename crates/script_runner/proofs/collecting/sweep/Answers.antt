use Rattle.script_runner.proofs.Prelude.{◌++◌, ◌∷◌, [], ℕ, Ok, subst, Answer, Collects, StepOf}
use Rattle.actor_parts.specs.StepValue as asked
use Rattle.script_runner.proofs.Sweeping.{most_in, run_then, swept_on}
use Rattle.script_runner.proofs.collecting.sweep.Goals as goal

pub steps-smaller : goal.steps-smaller
steps-smaller g c =
    let state = g.C.HasState.state in
    let first_step : StepOf 0 asked.GcStep (Ok c.in_ok-make_step.field-0) c.make_step.new.buf (state c.steps.core) (state c.make_step.new.self) =
    subst (λ (actor : ℕ). StepOf actor asked.GcStep (Ok c.in_ok-make_step.field-0) c.make_step.new.buf (state c.steps.core) (state c.make_step.new.self)) c.first.ensures
    c.in_ok-make_step.ensures.step in
    let one : Collects _ state (Ok _) c.steps.core c.make_step.new.self =
    (c.make_step.new.buf, subst (λ (a : Answer). StepOf 0 asked.GcStep (Ok a) c.make_step.new.buf (state c.steps.core) (state c.make_step.new.self)) c.in-Did.is first_step) in
    let inv = c.steps.invariant in
    (swept_on _ state (most_in (state c.args.core.now)) c.in-Did.phase c.steps.core c.make_step.new.self inv.running inv.runs inv.few one).fewer

pub steps-preserved : goal.steps-preserved
steps-preserved g c =
    let state = g.C.HasState.state in
    let first_step : StepOf 0 asked.GcStep (Ok c.in_ok-make_step.field-0) c.make_step.new.buf (state c.steps.core) (state c.make_step.new.self) =
    subst (λ (actor : ℕ). StepOf actor asked.GcStep (Ok c.in_ok-make_step.field-0) c.make_step.new.buf (state c.steps.core) (state c.make_step.new.self)) c.first.ensures
    c.in_ok-make_step.ensures.step in
    let one : Collects _ state (Ok _) c.steps.core c.make_step.new.self =
    (c.make_step.new.buf, subst (λ (a : Answer). StepOf 0 asked.GcStep (Ok a) c.make_step.new.buf (state c.steps.core) (state c.make_step.new.self)) c.in-Did.is first_step) in
    let inv = c.steps.invariant in
    let on = swept_on _ state (most_in (state c.args.core.now)) c.in-Did.phase c.steps.core c.make_step.new.self inv.running inv.runs inv.few one in
    record {
      running = c.in_ok-make_step.ensures.running;
      runs = on.runs;
      few = on.few;
      made = (inv.made.0 ++ c.in-Did.phase ∷ [], run_then _ state inv.made.0 c.in-Did.phase c.args.core.now c.steps.core c.make_step.new.self inv.made.1 one);
    }
