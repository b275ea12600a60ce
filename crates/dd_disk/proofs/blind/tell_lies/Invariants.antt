use Rattle.std.proofs.Common.{take}
use Rattle.dd_disk.specs.Lies.{TellsLies}
use Rattle.dd_disk.proofs.blind.tell_lies.Given as goal

abbrev pub invariant-loop-lie : goal.invariant-loop-lie
invariant-loop-lie l = TellsLies (take l.lie-index l.lies) l.at l.initial.into l.into
