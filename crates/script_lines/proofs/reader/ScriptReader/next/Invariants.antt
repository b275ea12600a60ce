use Rattle.std.proofs.Common.{◌≡◌, ◌-◌}
use Rattle.script_lines.specs.declared.script.TheConstants.{MOST_SCRIPT}
use Rattle.script_lines.specs.Reader.{IsInLine}
use Rattle.script_lines.proofs.reader.ScriptReader.next.Given as goal

abbrev pub invariant-loop-next : goal.invariant-loop-next
invariant-loop-next g l = record {
  in_line : IsInLine l.fn.self l.self (g.S.Source.view l.fn.source).left (g.S.Source.view l.source).left;
  faults : (g.S.Source.view l.source).faults ≡ (g.S.Source.view l.fn.source).faults;
}

abbrev pub decreases-loop-next : goal.decreases-loop-next
decreases-loop-next g l = MOST_SCRIPT - l.self.taken
