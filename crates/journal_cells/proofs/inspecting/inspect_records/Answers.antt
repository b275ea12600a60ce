use Rattle.journal_cells.proofs.Prelude.{◌≡◌, ◌-◌, suc, Bool, ap, sym, subst, refl, arith, passed_on, Done, reads_none, reads_on, always, half_cells, finds_as, finds_on, stops_on, Replay, nothing_yet, replay}
use Rattle.std.proofs.Common.{if◌then◌else◌}
use Rattle.inspection.specs.Handing.{Finds}
use Rattle.inspection.proofs.Steps.{finds_none}
use Rattle.journal_cells.specs.Inspecting.{past_found, records_found}
use Rattle.journal_cells.proofs.Inspected.{shows_full}
use Rattle.journal_cells.proofs.inspecting.inspect_records.Goals as goal

pub loop-init : goal.loop-init
loop-init g c =
    let line = g.S.SpellsDamage.line in
    let v = g.D.Disk.view c.args.disk.now in
    let k = g.K.Sink.view c.args.sink.now in
    let t = c.args.tally.now in
    record {
      count = ap (λ (r : Replay). r.count) c.new-before.ensures;
      reads = reads_none v;
      found = λ counts. subst (λ (r : Replay). Finds line (records_found c.args.half counts half_cells nothing_yet) (records_found c.args.half counts (half_cells - r.count) r) v v
          (k, t) (k, t)) (sym c.new-before.ensures)
          (finds_none line (records_found c.args.half counts half_cells nothing_yet) v k t);
    }

pub returns-in_err-inspect_next-clause-stopped : goal.returns-in_err-inspect_next-clause-stopped
returns-in_err-inspect_next-clause-stopped g c =
    passed_on c.from_residual.result _ c.in_err-inspect_next.field-0.0 c.from_residual.ensures.1
    (λ counts. stops_on g.S.SpellsDamage.line _ _ _ _ _ _ _ _ _ _ (c.loop.invariant.found counts) c.loop.invariant.reads.only c.in_err-inspect_next.ensures.reads.only.later
    c.in_err-inspect_next.field-0.0
    (c.in_err-inspect_next.ensures.stopped counts))

pub returns-then-not-branch-clause-found : goal.returns-then-not-branch-clause-found
returns-then-not-branch-clause-found g c = λ counts.
    let line = g.S.SpellsDamage.line in
    let view = g.D.Disk.view in
    let take = g.K.Sink.view in
    let next = subst (λ (b : Bool). Finds line (records_found c.args.half counts (half_cells - c.loop.before.count) (replay c.loop.before))
    (if b then records_found c.args.half counts (half_cells - c.inspect_next.new.before.count) (replay c.inspect_next.new.before) else past_found c.args.half counts
    c.inspect_next.new.before.count)
    (view c.loop.disk) (view c.inspect_next.new.disk) (take c.loop.sink, c.loop.tally) (take c.inspect_next.new.sink, c.inspect_next.new.tally)) c.if-not-branch.true
    (c.in_ok-inspect_next.ensures.found counts) in
    finds_on line _ _ _ _ _ _ _ _ _ _ (c.loop.invariant.found counts) c.loop.invariant.reads.only c.in_ok-inspect_next.ensures.reads.only.later
    (past_found c.args.half counts c.inspect_next.new.before.count) c.inspect_next.new.tally next

pub loop-preserved : goal.loop-preserved
loop-preserved g c =
    let line = g.S.SpellsDamage.line in
    let view = g.D.Disk.view in
    let take = g.K.Sink.view in
    let counted = subst (λ (b : Bool). c.inspect_next.new.before.count ≡ (if b then suc c.loop.before.count else c.loop.before.count)) c.if-not-branch.false
    c.in_ok-inspect_next.ensures.counted in
    record {
      count = omega (arith, counted, c.loop.invariant.count);
      reads = reads_on Done _ _ _ c.loop.invariant.reads c.in_ok-inspect_next.ensures.reads;
      found = λ counts.
          let next = subst (λ (b : Bool). Finds line (records_found c.args.half counts (half_cells - c.loop.before.count) (replay c.loop.before))
          (if b then records_found c.args.half counts (half_cells - c.inspect_next.new.before.count) (replay c.inspect_next.new.before) else past_found c.args.half counts
          c.inspect_next.new.before.count)
          (view c.loop.disk) (view c.inspect_next.new.disk) (take c.loop.sink, c.loop.tally) (take c.inspect_next.new.sink, c.inspect_next.new.tally)) c.if-not-branch.false
          (c.in_ok-inspect_next.ensures.found counts) in
          finds_on line _ _ _ _ _ _ _ _ _ _ (c.loop.invariant.found counts) c.loop.invariant.reads.only c.in_ok-inspect_next.ensures.reads.only.later
          (records_found c.args.half counts (half_cells - c.inspect_next.new.before.count) (replay c.inspect_next.new.before)) c.inspect_next.new.tally next;
    }

pub returns-clause-found : goal.returns-clause-found
returns-clause-found g c = λ counts.
    let line = g.S.SpellsDamage.line in
    finds_as line (records_found c.args.half counts half_cells nothing_yet) (records_found c.args.half counts half_cells nothing_yet)
    (records_found c.args.half counts (half_cells - c.loop.before.count) (replay c.loop.before)) (past_found c.args.half counts c.loop.before.count) _ _ _ _ _ _
    (always _ _ _ (λ image sized. refl))
    (always _ _ _ (λ image sized. shows_full c.args.half counts (replay c.loop.before) image (omega (arith, c.loop.invariant.count, c.loop-test.false, c.loop.auto))))
    (c.loop.invariant.found counts)
