use Rattle.journal_cells.proofs.Prelude.{◌<◌, sym, ap, subst, arith, option_map, passed_on, half_cells, Done, Shows, reads_none, reads_on, record_value, replay, IsNext, IsPart}
use Rattle.journal_cells.proofs.Scanned.{part_none, part_more, part_read, part_all, part_fault}
use Rattle.journal_cells.proofs.scanning.read_records.Goals as goal

pub loop-init : goal.loop-init
loop-init g c =
    let v = g.D.Disk.view c.args.disk.now in
    record {
      count = ap (λ r. r.count) c.new-before.ensures;
      reads = reads_none v;
      part = subst (IsPart (Shows v v) c.args.half) (sym c.new-before.ensures) (part_none c.args.half v);
    }

pub returns-in_err-next-clause-cause : goal.returns-in_err-next-clause-cause
returns-in_err-next-clause-cause g c =
    let room : c.loop.before.count < half_cells = omega (arith, c.loop.invariant.count, c.loop-test.true) in
    passed_on c.from_residual.result _ c.in_err-next.field-0.0 c.from_residual.ensures.1
    (part_fault c.args.half _ _ _ (replay c.loop.before) room c.loop.invariant.part c.loop.invariant.reads.only c.in_err-next.ensures.reads.only c.in_err-next.field-0.0
    c.in_err-next.ensures.cause)

pub returns-in-None-clause-read : goal.returns-in-None-clause-read
returns-in-None-clause-read g c =
    let room : c.loop.before.count < half_cells = omega (arith, c.loop.invariant.count, c.loop-test.true) in
    let next = subst (λ n. IsNext (Shows (g.D.Disk.view c.loop.disk) (g.D.Disk.view c.read_next.new.disk)) c.args.half (replay c.loop.before) (option_map record_value n))
    c.in-None.is c.in_ok-next.ensures.next in
    part_read c.args.half _ _ _ (replay c.loop.before) room c.loop.invariant.part c.loop.invariant.reads.only c.in_ok-next.ensures.reads.only next

pub loop-preserved : goal.loop-preserved
loop-preserved g c =
    let room : c.loop.before.count < half_cells = omega (arith, c.loop.invariant.count, c.loop-test.true) in
    let next = subst (λ n. IsNext (Shows (g.D.Disk.view c.loop.disk) (g.D.Disk.view c.read_next.new.disk)) c.args.half (replay c.loop.before) (option_map record_value n))
    c.in-Some.is c.in_ok-next.ensures.next in
    record {
      count = omega (arith, c.loop.invariant.count, ap (λ r. r.count) c.in_ok-add-in-Some.ensures.ok);
      reads = reads_on Done _ _ _ c.loop.invariant.reads c.in_ok-next.ensures.reads;
      part = subst (IsPart (Shows (g.D.Disk.view c.args.disk.now) (g.D.Disk.view c.read_next.new.disk)) c.args.half) (sym c.in_ok-add-in-Some.ensures.ok)
          (part_more c.args.half _ _ _ (replay c.loop.before) room c.loop.invariant.part c.loop.invariant.reads.only c.in_ok-next.ensures.reads.only (record_value c.in-Some.next)
          next);
    }

pub returns-clause-read : goal.returns-clause-read
returns-clause-read g c =
    part_all c.args.half _ _ (replay c.loop.before) (omega (arith, c.loop.invariant.count, c.loop-test.false, c.loop.auto)) c.loop.invariant.part
