use Rattle.backup_engine.proofs.Prelude.{◌≡◌, ◌-◌, List, Replied, MOST_SCRIPT, number_after, lines_of, ScriptSoFar}
use Rattle.backup_engine.proofs.script.run_lines.Given as goal
use Rattle.backup_engine.specs.Seen.{streaming}

abbrev pub invariant-loop-number : goal.invariant-loop-number
invariant-loop-number g l =
    (rs : List Replied) × (ScriptSoFar _ g.C.HasState.state rs l.reader (streaming l.fn.runner (g.S.Source.view l.fn.source) (g.K.Sink.view l.fn.sink))
    (streaming l.runner (g.S.Source.view l.source) (g.K.Sink.view l.sink)) × (l.number ≡ number_after (lines_of rs)))

abbrev pub decreases-loop-number : goal.decreases-loop-number
decreases-loop-number g l = MOST_SCRIPT - l.reader.taken
