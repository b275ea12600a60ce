use Rattle.ingest_session.proofs.Prelude.{◌∙◌, ◌-◌, ap, sym, arith}
use Rattle.std.specs.Prelude.{Option}
use Rattle.ingest_session.specs.declared.counting.Known.{Known}
use Rattle.ingest_session.specs.KeyTimes.{times_known}
use Rattle.ingest_session.proofs.KeyTimes.{counted_less, counted_none}
use Rattle.ingest_session.proofs.counting.discount.Goals as goal
use Rattle.ingest_session.proofs.counting.discount.Goals.{in_default-via-in-Some+else-known-gt1, in_default-via-in_default}

pub returns-in-Ok : goal.returns-in-Ok
returns-in-Ok c =
    counted_less c.args.counts.now c.insert.new.self c.args.key.now _ c.in-Ok.ensures.ok
    (ap (λ (o : Option Known). times_known o - 1) (sym c.in-Some.is ∙ c.get.ensures))

pub returns-in_default : goal.returns-in_default
returns-in_default c =
    counted_none c.args.counts.now c.remove.new.self c.args.key.now c.remove.ensures
    (elim c.in_default.branch [
      | in_default-via-in-Some+else-known-gt1 w ↦
          let counted = ap times_known (sym c.get.ensures ∙ w.in-Some.is) in
          omega (arith, counted, w.if-known-gt1.false)
      | in_default-via-in_default w ↦ let counted = ap times_known (sym c.get.ensures ∙ w.in_default.is) in omega (arith, counted)
    ])
