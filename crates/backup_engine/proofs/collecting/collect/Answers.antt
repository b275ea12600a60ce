use Rattle.backup_engine.proofs.Prelude.{rules, inl, refl, sym, List, [], Some, Result, MutBor, IsLater, Replied, Memory, Refused, Collect, IsCollect, DoesCommand, ending_in}
use Rattle.reply_text.specs.declared.ending.Ending.{Ending}
use Rattle.backup_engine.proofs.ByFiles.{refused_by_files}
use Rattle.backup_engine.proofs.FailsAlone.{fails_unopened}
use Rattle.backup_engine.proofs.Kept.{by_error, by_same, later_back}
use Rattle.backup_engine.proofs.Lending.{none_back, none_later}
use Rattle.backup_engine.proofs.CollectsKept.{collect_keeps, collect_later, collect_lines}
use Rattle.backup_engine.proofs.NotDone.{not_begun, unopened_collect}
use Rattle.backup_engine.proofs.Opens.{does_none, does_opened, does_without_memory, opened_fresh, opened_later, single_back}
use Rattle.backup_engine.proofs.Ran.{collect_ran, ran_actors, ran_alone}
use Rattle.backup_engine.proofs.Returned.{first_same, rest_same}
use Rattle.backup_engine.proofs.SinglesRun.{unbegun_speaks, unopened_speaks}
use Rattle.backup_engine.proofs.Unlent.{collect_kept}
use Rattle.backup_engine.proofs.collecting.collect.Goals as goal
use Rattle.backup_engine.specs.Seen.{devices}

-- there was no memory
pub returns-in_err-buf-clause-does : goal.returns-in_err-buf-clause-does
returns-in_err-buf-clause-does g c = λ source.
    let disk = g.D.Disk.view c.args.disk.now in
    let sink = g.K.Sink.view c.args.sink.now in (
      [],
      by_error (λ (x : Result (Unit {0}) Ending). DoesCommand _ g.D.Disk.view (Collect c.args.percent) [] [] (ending_in x) (devices disk disk source source sink sink))
          c.from_residual.result (Refused Memory) c.from_residual.ensures.1
          (does_without_memory _ g.D.Disk.view disk source sink (Collect c.args.percent) [] (not_begun (Collect c.args.percent) [] disk source sink (refl, refl))
          (unbegun_speaks (IsCollect c.args.percent (Some (Refused Memory)) sink sink) disk sink (inl (refl, inl refl), refl))),
    )

-- the store was not opened
pub returns-in-Err : goal.returns-in-Err
returns-in-Err g c =
    let view = g.D.Disk.view in
    let refusal = c.in-Err.refused.1 in
    let sink = g.K.Sink.view c.args.sink.now in
    let are = IsCollect c.args.percent (Some (Refused refusal)) sink sink in
    let w = view c.in-Err.refused.0.now in
    let first : MutBor g.row.D.Denot = record { ref_ptr = c.args.disk.ref_ptr; ghost_name = _; now = c.args.disk.now } in
    let later = none_later _ view first _ w refusal c.in-Err.ensures.refused in
    record {
      does = λ source. by_same (λ d. (rs : List Replied) × DoesCommand _ view (Collect c.args.percent) [] rs (Some (Refused refusal))
          (devices (view c.args.disk.now) (view d) source source sink sink)) _ c.in-Err.refused.0.now (search rules) (
            [],
            does_none _ view refusal (view c.args.disk.now) w source sink (Collect c.args.percent) [] (refl, refl)
                (λ before is. record {
                  keeps = unopened_collect before w refusal is c.args.percent source sink;
                  speaks = unopened_speaks are before w refusal is sink;
                })
                (refused_by_files _ view refusal c.args.disk.now c.in-Err.refused.0.now c.an_opening_finds_its_files.ensures.unopened
                (none_back _ view first _ w refusal c.in-Err.ensures.refused))
                (fails_unopened _ view refusal c.args.disk.now c.in-Err.refused.0.now c.an_opening_finds_its_files.ensures.unopened
                (none_back _ view first _ w refusal c.in-Err.ensures.refused))
                (none_back _ view first _ w refusal c.in-Err.ensures.refused),
          );
      later = by_same (λ d. IsLater (view c.args.disk.now) (view d)) _ c.in-Err.refused.0.now (search rules)
          (later_back _ _ (view c.args.disk.now) w (sym (rest_same _ _ _ _ later.loans_are)) later);
    }

pub collect_all-collected-requires : goal.collect_all-collected-requires
collect_all-collected-requires g c = record { fresh = opened_fresh _ _ _ _ c.in-Ok.ensures.opened c.in-Ok.ensures.running }

-- it was
pub returns : goal.returns
returns g c =
    let view = g.D.Disk.view in
    let is = c.in-Ok.ensures in
    let result = c.collect_all-collected.result in
    let sink = g.K.Sink.view c.args.sink.now in
    let sink_now = g.K.Sink.view c.collect_all-collected.new.sink in
    let closed = c.close-disk.ensures in
    let w = view c.close-disk.result.now in
    let core = c.in-Ok.core in
    let core_now = c.collect_all-collected.new.core in
    let opens = c.calls_run_by_files.ensures in
    let ran = c.collect_all-collected.ensures.ran in
    let are = IsCollect c.args.percent (ending_in result) sink sink_now in
    let first : MutBor g.row.D.Denot = record { ref_ptr = c.args.disk.ref_ptr; ghost_name = _; now = c.args.disk.now } in
    let later = opened_later _ view _ _ first _ w core core_now opens is.running closed.disk closed.moment
    (collect_later _ _ c.args.percent core core_now result sink sink_now ran) is.opened in
    let named = first_same c.close-disk.result.ghost_name _ _ _ later.loans_are in
    let run = collect_lines _ _ c.args.percent core core_now (opened_fresh _ _ _ _ is.opened is.running).runs result sink sink_now ran in
    let between = collect_later _ _ c.args.percent core core_now result sink sink_now ran in
    let by_files = single_back _ view _ _ first _ w core core_now opens is.running closed.disk closed.moment between is.opened are (ending_in result) run
    (λ rs are. ran_actors (ending_in result) rs sink sink_now (collect_ran rs sink sink_now c.args.percent (ending_in result) are)) in
    record {
      does = λ source. by_same (λ d. (rs : List Replied) × DoesCommand _ view (Collect c.args.percent) [] rs (ending_in result)
          (devices (view c.args.disk.now) (view d) source source sink sink_now)) _ c.close-disk.result.now (search (rules, named)) (
            run.0,
            does_opened _ view _ _ first _ w core core_now opens is.running closed.disk closed.moment between (Collect c.args.percent) [] (ending_in result) source source sink
                sink_now run.0 by_files (ran_alone (ending_in result) run.0 sink sink_now (collect_ran run.0 sink sink_now c.args.percent (ending_in result) run.1.0) _ _ by_files)
                is.opened
                (λ before called. (
                  collect_kept _ _ (view before.now) w source source sink sink_now [] [] c.args.percent (ending_in result)
                      (collect_keeps _ _ _ _ core core_now called c.args.percent result source sink sink_now ran),
                  inl run.1.0,
                )),
          );
      later = by_same (λ d. IsLater (view c.args.disk.now) (view d)) _ c.close-disk.result.now (search (rules, named))
          (later_back _ _ (view c.args.disk.now) w (sym (rest_same _ _ _ _ later.loans_are)) later);
    }
