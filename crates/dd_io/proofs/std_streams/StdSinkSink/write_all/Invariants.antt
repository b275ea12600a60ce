use Rattle.std.proofs.Common.{◌≡◌, ◌≤◌, length, take}
use Rattle.std.specs.Io.KnownBytes.{Appends}
use Rattle.dd_io.proofs.std_streams.StdSinkSink.write_all.Given as goal

abbrev pub invariant-loop : goal.invariant-loop
invariant-loop g l = record {
  within : l.done ≤ length l.from;
  written : Appends (g.W.Write.contents l.initial.self.writer) (g.W.Write.contents l.self.writer) (take l.done l.from);
  count : l.self.faults ≡ l.initial.self.faults;
}
