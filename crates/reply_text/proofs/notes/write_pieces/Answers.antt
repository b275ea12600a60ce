use Rattle.std.proofs.Common.{Ok, Err, sym, subst, drop, suc, List, ℕ, Bor}
use Rattle.std.proofs.lemmas.List.{take_all}
use Rattle.std.specs.List.{flat_map}
use Rattle.dd_io.specs.Flow.{Sends}
use Rattle.dd_io.specs.declared.sink.SinkFault.{SinkFault}
use Rattle.reply_text.proofs.Pieces.{pieces_more, pieces_split, sends_none, sends_more, sends_stop, sends_passed}
use Rattle.reply_text.proofs.notes.write_pieces.Goals as goal

pub loop-piece-init : goal.loop-piece-init
loop-piece-init g c = sends_none tt (g.Q.Sink.view c.args.notes.now)

pub returns-in_err-write_all : goal.returns-in_err-write_all
returns-in_err-write_all g c =
    let f = λ (piece : Bor (List ℕ)). piece.now in
    sends_passed {U = Unit {0}} _ _ _ _ _ _ c.from_residual.ensures.1
    (subst (λ (t : List ℕ). Sends {T = Unit {0}} {E = SinkFault} t (Err _) (g.Q.Sink.view c.args.notes.now) (g.Q.Sink.view c.write_all.new.self))
    (sym (pieces_split f c.args.pieces.now c.loop-piece.piece-index _ c.loop-piece-test.true))
    (sends_stop tt _ _ _ _ _ c.loop-piece.invariant (flat_map f (drop (suc c.loop-piece.piece-index) c.args.pieces.now)) _ _ c.in_err-write_all.ensures))

pub loop-piece-preserved : goal.loop-piece-preserved
loop-piece-preserved g c =
    subst (λ (t : List ℕ). Sends {T = Unit {0}} {E = SinkFault} t (Ok tt) (g.Q.Sink.view c.args.notes.now) (g.Q.Sink.view c.write_all.new.self))
    (sym (pieces_more (λ (piece : Bor (List ℕ)). piece.now) c.args.pieces.now c.loop-piece.piece-index _ c.loop-piece-test.true))
    (sends_more tt _ _ _ _ _ c.loop-piece.invariant tt c.in_ok-write_all.ensures)

pub returns : goal.returns
returns g c = rw (take_all _ _ c.loop-piece-test.false) at c.loop-piece.invariant
