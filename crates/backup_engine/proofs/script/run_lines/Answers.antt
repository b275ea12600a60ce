use Rattle.backup_engine.proofs.Prelude.{rules, ◌≤◌, ◌+◌, [], refl, sym, subst, MOST_SCRIPT, ReaderState, ScriptSoFar}
use Rattle.backup_engine.proofs.ScriptSteps.{begin_script, few_numbers, gave_up, went_on, went_out}
use Rattle.backup_engine.proofs.script.run_lines.Goals as goal
use Rattle.backup_engine.specs.Seen.{streaming}

pub loop-number-init : goal.loop-number-init
loop-number-init g c =
    let source = g.S.Source.view c.args.source.now in
    let sink = g.K.Sink.view c.args.sink.now in
    let state = g.C.HasState.state in
    let r = c.args.runner.now in (
      [],
      (
        subst (λ (reader : ReaderState). ScriptSoFar _ state [] reader (streaming r source sink) (streaming r source sink)) (sym c.new-reader.ensures)
            (begin_script _ state r source sink c.reads_tell_scripts.ensures),
        refl,
      ),
    )

pub returns-in_err-run_next : goal.returns-in_err-run_next
returns-in_err-run_next g c =
    let so_far = c.loop-number.invariant in
    gave_up _ g.C.HasState.state c.reads_tell_scripts.ensures _ _ _ _ _ _ _ _ _ _ _ _ so_far.1.0 _ so_far.1.1 _ _ c.from_residual.ensures.1 c.in_err-run_next.ensures

pub overflow_add-number : goal.overflow_add-number
overflow_add-number g c =
    let loop = c.loop-number in
    let few : loop.number ≤ MOST_SCRIPT + 1 =
    few_numbers _ g.C.HasState.state c.reads_tell_scripts.ensures _ _ loop.reader _ _ loop.runner _ _ (g.S.Source.view loop.source) _ _ (g.K.Sink.view loop.sink)
    loop.invariant.1.0 _ loop.invariant.1.1 in
    search (rules, few)

pub loop-number-preserved : goal.loop-number-preserved
loop-number-preserved g c =
    let so_far = c.loop-number.invariant in
    let gone = went_on _ g.C.HasState.state c.reads_tell_scripts.ensures _ _ _ _ _ _ _ _ _ _ _ _ so_far.1.0 _ so_far.1.1 c.in_ok-run_next.field-0
    (search (rules, c.if-branch.true)) c.in_ok-run_next.ensures in
    (gone.rs_now, (gone.so_far_now, gone.number_now))

pub returns : goal.returns
returns g c =
    let so_far = c.loop-number.invariant in
    went_out _ g.C.HasState.state c.reads_tell_scripts.ensures _ _ _ _ _ _ _ _ _ _ _ _ so_far.1.0 _ so_far.1.1 c.in_ok-run_next.field-0 (search (rules, c.if-branch.false))
    c.in_ok-run_next.ensures
