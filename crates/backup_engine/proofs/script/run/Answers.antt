use Rattle.backup_engine.proofs.Prelude.{rules, ◌∙◌, List, [], Some, Result, sym, MutBor, IsLater, Replied, Memory, Refused, RunsScript, ending_in}
use Rattle.reply_text.specs.declared.ending.Ending.{Ending}
use Rattle.backup_engine.proofs.ByFiles.{refused_by_files}
use Rattle.backup_engine.proofs.FailsAlone.{fails_by, fails_unopened}
use Rattle.backup_engine.proofs.Kept.{by_error, by_same, later_back}
use Rattle.backup_engine.proofs.Lending.{none_back, none_later}
use Rattle.backup_engine.proofs.Opens.{opened_later, runs_back, runs_none, runs_opened, runs_without_memory}
use Rattle.backup_engine.proofs.Returned.{first_same, rest_same}
use Rattle.backup_engine.proofs.ScriptKept.{called_by, ends_alone, later_by, no_memory_kept, run_kept, script_back, unopened_kept}
use Rattle.backup_engine.proofs.script.run.Goals as goal
use Rattle.backup_engine.specs.Seen.{devices}

-- there was no memory
pub returns-in_err-sessions-clause-runs : goal.returns-in_err-sessions-clause-runs
returns-in_err-sessions-clause-runs g c =
    let disk = g.D.Disk.view c.args.disk.now in
    let source = g.S.Source.view c.args.source.now in
    let sink = g.K.Sink.view c.args.sink.now in (
      [],
      by_error (λ (x : Result (Unit {0}) Ending). RunsScript _ g.D.Disk.view [] (ending_in x) (devices disk disk source source sink sink)) c.from_residual.result (Refused Memory)
          c.from_residual.ensures.1
          (runs_without_memory _ g.D.Disk.view disk source sink (no_memory_kept disk source sink c.reads_tell_scripts.ensures)),
    )

pub returns-in_err-buf-clause-runs : goal.returns-in_err-buf-clause-runs
returns-in_err-buf-clause-runs g c =
    let disk = g.D.Disk.view c.args.disk.now in
    let source = g.S.Source.view c.args.source.now in
    let sink = g.K.Sink.view c.args.sink.now in (
      [],
      by_error (λ (x : Result (Unit {0}) Ending). RunsScript _ g.D.Disk.view [] (ending_in x) (devices disk disk source source sink sink)) c.from_residual-in_err-buf.result
          (Refused Memory)
          c.from_residual-in_err-buf.ensures.1
          (runs_without_memory _ g.D.Disk.view disk source sink (no_memory_kept disk source sink c.reads_tell_scripts.ensures)),
    )

-- the store was not opened
pub returns-in-Err : goal.returns-in-Err
returns-in-Err g c =
    let view = g.D.Disk.view in
    let refusal = c.in-Err.refused.1 in
    let source = g.S.Source.view c.args.source.now in
    let sink = g.K.Sink.view c.args.sink.now in
    let w = view c.in-Err.refused.0.now in
    let first : MutBor g.row.D.Denot = record { ref_ptr = c.args.disk.ref_ptr; ghost_name = _; now = c.args.disk.now } in
    let later = none_later _ view first _ w refusal c.in-Err.ensures.refused in
    record {
      runs = by_same (λ d. (rs : List Replied)
          × RunsScript _ view rs (Some (Refused refusal)) (devices (view c.args.disk.now) (view d) source source sink sink)) _ c.in-Err.refused.0.now
          (search rules) (
            [],
            runs_none _ view refusal (view c.args.disk.now) w source sink (λ before is. unopened_kept before w refusal is source sink c.reads_tell_scripts.ensures)
                (refused_by_files _ view refusal c.args.disk.now c.in-Err.refused.0.now c.an_opening_finds_its_files.ensures.unopened
                (none_back _ view first _ w refusal c.in-Err.ensures.refused))
                (fails_unopened _ view refusal c.args.disk.now c.in-Err.refused.0.now c.an_opening_finds_its_files.ensures.unopened
                (none_back _ view first _ w refusal c.in-Err.ensures.refused))
                (none_back _ view first _ w refusal c.in-Err.ensures.refused),
          );
      later = by_same (λ d. IsLater (view c.args.disk.now) (view d)) _ c.in-Err.refused.0.now (search rules)
          (later_back _ _ (view c.args.disk.now) w (sym (rest_same _ _ _ _ later.loans_are)) later);
    }

-- it was
pub returns : goal.returns
returns g c =
    let view = g.D.Disk.view in
    let is = c.in-Ok.ensures in
    let result = c.run_lines-ran.result in
    let source = g.S.Source.view c.args.source.now in
    let source_now = g.S.Source.view c.run_lines-ran.new.source in
    let sink = g.K.Sink.view c.args.sink.now in
    let sink_now = g.K.Sink.view c.run_lines-ran.new.sink in
    let r = c.new-runner.result in
    let s = c.run_lines-ran.new.runner in
    let core = c.in-Ok.core in
    let core_now = c.into_core.result in
    let closed = c.close-disk.ensures in
    let w = view c.close-disk.result.now in
    let opens = c.calls_run_by_files.ensures in
    let run = c.run_lines-ran.ensures in
    let first : MutBor g.row.D.Denot = record { ref_ptr = c.args.disk.ref_ptr; ghost_name = _; now = c.args.disk.now } in
    let between = later_by _ _ _ _ opens core core_now r.core s.core c.new-runner.ensures.core c.into_core.ensures.core (c.lines_go_on.ensures run.rs r s run.runs).later in
    let later = opened_later _ view _ _ first _ w core core_now opens is.running closed.disk closed.moment between is.opened in
    let named = first_same c.close-disk.result.ghost_name _ _ _ later.loans_are in
    let by_files = runs_back _ view _ _ first _ w core core_now opens is.running closed.disk closed.moment between is.opened (ending_in result) run.rs r s c.new-runner.ensures.core
    (c.new-runner.ensures.sessions ∙ c.in_ok-sessions.ensures) c.into_core.ensures.core run.actors run.runs in
    record {
      runs = by_same (λ d. (rs : List Replied)
          × RunsScript _ view rs (ending_in result) (devices (view c.args.disk.now) (view d) source source_now sink sink_now)) _ c.close-disk.result.now
          (search (rules, named)) (
            run.rs,
            runs_opened _ view _ _ first _ w core core_now opens is.running closed.disk closed.moment between run.rs (ending_in result) source source_now sink sink_now is.opened
                by_files (fails_by (ending_in result) run.rs (view c.args.disk.now) w (ends_alone run.rs (ending_in result) source source_now sink sink_now run.caused) by_files)
                (λ before whole.
                let called = called_by _ _ _ _ core core_now r.core s.core whole c.new-runner.ensures.core c.into_core.ensures.core in
                let kept =
                run_kept _ _ _ _ before _ r s called c.lines_go_on.ensures c.lines_are_runs.ensures.opened c.lines_keep_what_is_written.ensures.opened
                c.lines_keep_what_is_written.ensures.lines (c.new-runner.ensures.sessions ∙ c.in_ok-sessions.ensures) result source source_now sink sink_now run in
                script_back _ _ (view before.now) w run.rs (ending_in result) source source_now sink sink_now kept.1),
          );
      later = by_same (λ d. IsLater (view c.args.disk.now) (view d)) _ c.close-disk.result.now (search (rules, named))
          (later_back _ _ (view c.args.disk.now) w (sym (rest_same _ _ _ _ later.loans_are)) later);
    }
