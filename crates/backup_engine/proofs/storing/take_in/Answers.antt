use Rattle.backup_engine.proofs.Filling.{fill_stopped, not_finished, turns_refused, turns_taken}
use Rattle.backup_engine.proofs.storing.take_in.Goals as goal

pub returns-in_err-fill-clause-fills : goal.returns-in_err-fill-clause-fills
returns-in_err-fill-clause-fills g c = fill_stopped _ g.C.HasState.state _ _ _ _ _ _ _ _ c.from_residual.ensures.1 c.in_err-fill.ensures.fills

pub returns-in_err-finish-clause-fills : goal.returns-in_err-finish-clause-fills
returns-in_err-finish-clause-fills g c =
    let finish = c.in_err-finish.ensures in
    not_finished _ g.C.HasState.state _ _ _ _ _ _ _ c.in_ok-fill.ensures.fills c.sessions_have_laws.ensures _ _ c.from_residual-in_err-finish.ensures.1
    c.in_ok-fill.ensures.ongoing finish.refusal finish.err

pub returns-in_err-make_turns-clause-fills : goal.returns-in_err-make_turns-clause-fills
returns-in_err-make_turns-clause-fills g c =
    let finish = c.in_ok-finish.ensures in
    turns_refused _ g.C.HasState.state _ _ _ _ _ _ _ c.in_ok-fill.ensures.fills c.sessions_have_laws.ensures _ _ finish.ok finish.history _ c.first.ensures _ _
    c.from_residual-in_err-make_turns.ensures.1 c.in_err-make_turns.ensures.turns

pub returns-clause-fills : goal.returns-clause-fills
returns-clause-fills g c =
    let finish = c.in_ok-finish.ensures in
    turns_taken _ g.C.HasState.state _ _ _ _ _ _ _ c.in_ok-fill.ensures.fills c.sessions_have_laws.ensures _ _ finish.ok finish.history _ c.first.ensures
    c.in_ok-make_turns.ensures.turns
