use Rattle.std.proofs.Common.{take, arith, rules, subst, sym}
use Rattle.std.specs.Io.KnownBytes.{Appends}
use Rattle.dd_io.proofs.Known.{appends_kept, more_written}
use Rattle.dd_io.proofs.std_streams.StdSinkSink.write_all.Goals.{in-Ok, in-Err}
use Rattle.dd_io.proofs.std_streams.StdSinkSink.write_all.Goals as goal

pub loop-preserved : goal.loop-preserved
loop-preserved g c = elim c.match-write.branch [
  | in-Ok w ↦ record {
    within = search rules;
    written = more_written _ _ _ _ _ _ _ w.done-is c.loop.invariant.written w.in-Ok.ensures.bytes;
    count = c.loop.invariant.count;
  }
  | in-Err w ↦ record {
    within = omega (arith, c.loop.invariant.within);
    written = subst (λ n. Appends (g.W.Write.contents c.args.self.now.writer) (g.W.Write.contents c.write.new.self) (take n c.args.from.now)) (sym w.done-is)
        (appends_kept _ _ _ _ c.loop.invariant.written w.in-Err.ensures.bytes);
    count = c.loop.invariant.count;
  }
]
