use Rattle.std.proofs.Common.{List, [], ◌++◌, map, Option, Err, refl, sym, ◌∙◌, subst, arith}
use Rattle.std.proofs.lemmas.List.{append-nil}
use Rattle.refusals.specs.declared.refusal.Refusal.{Refusal}
use Rattle.store_core.specs.Runs.{CoreRun}
use Rattle.store_core.specs.State.{Event}
use Rattle.shared_store.specs.Events.{event_of}
use Rattle.shared_work.specs.Whole.{EndsBy}
use Rattle.shared_work.proofs.Filling.{conclude_steps, events_append, events_by, run_append, solo_run}
use Rattle.shared_work.proofs.whole.fill.Goals as goal

pub returns-in-Some-clause-fills : goal.returns-in-Some-clause-fills
returns-in-Some-clause-fills g c =
    let w = c.work_together-core.ensures.works in
    record {
      steps = w.steps;
      run = w.run;
      each = w.each;
      on_empty = record {
        ended = _;
        collected = _;
        beside = w.steps;
        last = [];
        steps_are = sym (append-nil w.steps);
        workers = w.workers;
        collector = w.collector;
        others = w.others;
        ends = subst (λ (r : Option Refusal). EndsBy c.args.percent r (Err c.in-Some.refusal) []) (sym c.in-Some.is ∙ c.refused_in.ensures) (refl, refl);
      };
    }

pub returns-clause-fills : goal.returns-clause-fills
returns-clause-fills g c =
    let w = c.work_together-core.ensures.works in
    let asked = c.conclude-came.ensures in
    let last : List Event = map (event_of 0) asked.0 in
    let first = c.new-caller.ensures.of in
    let run = solo_run g.C.HasState.state 0 asked.0 c.new-caller.result c.conclude-came.new.caller (first.1 ∙ c.first_actor.ensures) asked.1 in
    record {
      steps = w.steps ++ last;
      run = run_append g.C.HasState.state w.steps last c.args.core c.work_together-core.result.core c.into_core.result w.run
          (subst (λ (x : _). CoreRun g.row.C.Denot g.C.HasState.state last x c.into_core.result) first.0
          (subst (λ (y : _). CoreRun g.row.C.Denot g.C.HasState.state last c.new-caller.result.0.0 y) (sym c.into_core.ensures.core) run));
      each = events_append w.steps last w.each (events_by 0 asked.0 (omega arith) (conclude_steps c.args.percent c.conclude-came.result asked.0 asked.2));
      on_empty = record {
        ended = _;
        collected = _;
        beside = w.steps;
        last = asked.0;
        steps_are = refl;
        workers = w.workers;
        collector = w.collector;
        others = w.others;
        ends = subst (λ (r : Option Refusal). EndsBy c.args.percent r c.conclude-came.result asked.0) (sym c.in-None.is ∙ c.refused_in.ensures) asked.2;
      };
    }
