use Rattle.ingest_session.proofs.Prelude.{◌≡◌, ◌+◌, ◌≤◌, ◌++◌, length}
use Rattle.ingest_session.specs.declared.line.TheConstants.{MOST_LINE}
use Rattle.ingest_session.proofs.line.line_up.Given as goal

abbrev pub invariant-loop-node : goal.invariant-loop-node
invariant-loop-node l = record {
  room : length l.line + length l.builder.finished ≤ MOST_LINE;
  all : l.line ++ l.builder.finished ≡ l.initial.line ++ l.initial.builder.finished;
  others : l.builder ≡ record l.initial.builder { finished = l.builder.finished };
}

abbrev pub decreases-loop-node : goal.decreases-loop-node
decreases-loop-node l = length l.builder.finished
