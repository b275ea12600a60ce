use Rattle.std.proofs.Common.{Ok, take}
use Rattle.std.specs.List.{flat_map}
use Rattle.dd_io.specs.Flow.{Sends}
use Rattle.dd_io.specs.declared.sink.SinkFault.{SinkFault}
use Rattle.reply_text.proofs.notes.write_pieces.Given as goal

abbrev pub invariant-loop-piece : goal.invariant-loop-piece
invariant-loop-piece g l = Sends {T = Unit {0}} {E = SinkFault} (flat_map (λ piece. piece.now) (take l.piece-index l.pieces)) (Ok tt) (g.Q.Sink.view l.fn.notes)
    (g.Q.Sink.view l.notes)
