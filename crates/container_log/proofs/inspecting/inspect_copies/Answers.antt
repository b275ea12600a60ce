use Rattle.std.proofs.Common.{subst, Option}
use Rattle.std.proofs.lemmas.List.{take_all}
use Rattle.base_model.proofs.Outcome.{passed_on}
use Rattle.inspection.specs.Found.{copy_with}
use Rattle.inspection.specs.Handing.{Reports, Stops}
use Rattle.inspection.specs.declared.damage.Damage.{Damage}
use Rattle.inspection.proofs.Steps.{reports_nothing}
use Rattle.container_log.proofs.Inspected.{reports_no_copy, reports_copy, stops_copy}
use Rattle.container_log.proofs.inspecting.inspect_copies.Goals as goal

pub loop-entry-init : goal.loop-entry-init
loop-entry-init g c = reports_no_copy c.args.slot c.args.bytes.now g.S.SpellsDamage.line _ _ (reports_nothing g.S.SpellsDamage.line _ _)

pub returns-in_err-add_copy-clause-halt : goal.returns-in_err-add_copy-clause-halt
returns-in_err-add_copy-clause-halt g c =
    let line = g.S.SpellsDamage.line in
    let take = g.K.Sink.view in
    passed_on c.from_residual.result _ c.in_err-add_copy.field-0.0 c.from_residual.ensures.1 (
      c.in_err-add_copy.ensures.halt.0,
      stops_copy c.args.slot c.args.bytes.now c.args.entries.now c.loop-entry.entry-index _ c.loop-entry-test.true line _ _ _ _ _ c.loop-entry.invariant c.in_err-add_copy.field-0.0
          (subst (λ (d : Option Damage). Stops line (copy_with d) (take c.loop-entry.sink) (take c.add_copy.new.sink) c.in_err-add_copy.field-0.0) c.copy_damage.ensures
          c.in_err-add_copy.ensures.halt.1),
    )

pub loop-entry-preserved : goal.loop-entry-preserved
loop-entry-preserved g c =
    let line = g.S.SpellsDamage.line in
    let take = g.K.Sink.view in
    reports_copy c.args.slot c.args.bytes.now c.args.entries.now c.loop-entry.entry-index _ c.loop-entry-test.true line _ _ _ _ _ c.loop-entry.invariant _
    (subst (λ (d : Option Damage). Reports line (copy_with d) (take c.loop-entry.sink) (take c.add_copy.new.sink) c.loop-entry.tally c.add_copy.new.tally) c.copy_damage.ensures
    c.in_ok-add_copy.ensures.done)

pub returns-clause-done : goal.returns-clause-done
returns-clause-done g c = rw (take_all _ _ c.loop-entry-test.false) at c.loop-entry.invariant
