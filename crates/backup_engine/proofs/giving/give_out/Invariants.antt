use Rattle.backup_engine.proofs.Prelude.{GivenSoFar, bytes_to_come}
use Rattle.backup_engine.proofs.giving.give_out.Given as goal

abbrev pub invariant-loop-ahead : goal.invariant-loop-ahead
invariant-loop-ahead g l =
    GivenSoFar _ g.C.HasState.state l.fn.name l.fn.core l.core (g.K.Sink.view l.fn.sink) (g.K.Sink.view l.sink)

abbrev pub decreases-loop-ahead : goal.decreases-loop-ahead
decreases-loop-ahead g l = bytes_to_come (g.C.HasState.state l.core)
