use Rattle.backup_engine.proofs.Prelude.{rules, inl, refl, sym, List, [], Some, Result, MutBor, IsLater, Replied, Memory, Refused, IsListing, DoesCommand, ending_in}
use Rattle.reply_text.specs.declared.ending.Ending.{Ending}
use Rattle.backup_engine.specs.Line as table
use Rattle.backup_engine.proofs.ByFiles.{refused_by_files}
use Rattle.backup_engine.proofs.FailsAlone.{fails_unopened}
use Rattle.backup_engine.proofs.Kept.{by_error, by_same, later_back}
use Rattle.backup_engine.proofs.Lending.{none_back, none_later}
use Rattle.backup_engine.proofs.NameLines.{list_lines}
use Rattle.backup_engine.proofs.NamesKept.{list_keeps, list_later}
use Rattle.backup_engine.proofs.NotDone.{not_begun, unopened_list}
use Rattle.backup_engine.proofs.Opens.{does_none, does_opened, does_without_memory, opened_fresh, opened_later, single_back}
use Rattle.backup_engine.proofs.Ran.{list_ran, ran_actors, ran_alone}
use Rattle.backup_engine.proofs.Returned.{first_same, rest_same}
use Rattle.backup_engine.proofs.SinglesRun.{unbegun_speaks, unopened_speaks}
use Rattle.backup_engine.proofs.Unlent.{list_kept}
use Rattle.backup_engine.proofs.listing.list.Goals as goal
use Rattle.backup_engine.specs.Seen.{devices}

-- there was no memory
pub returns-in_err-buf-clause-does : goal.returns-in_err-buf-clause-does
returns-in_err-buf-clause-does g c = λ source.
    let disk = g.D.Disk.view c.args.disk.now in
    let sink = g.K.Sink.view c.args.sink.now in (
      [],
      by_error (λ (x : Result (Unit {0}) Ending). DoesCommand _ g.D.Disk.view table.List [] [] (ending_in x) (devices disk disk source source sink sink)) c.from_residual.result
          (Refused Memory) c.from_residual.ensures.1
          (does_without_memory _ g.D.Disk.view disk source sink table.List [] (not_begun table.List [] disk source sink (refl, refl))
          (unbegun_speaks (IsListing (Some (Refused Memory)) sink sink) disk sink (inl (refl, inl refl), refl))),
    )

-- the store was not opened
pub returns-in-Err : goal.returns-in-Err
returns-in-Err g c =
    let view = g.D.Disk.view in
    let refusal = c.in-Err.refused.1 in
    let sink = g.K.Sink.view c.args.sink.now in
    let are = IsListing (Some (Refused refusal)) sink sink in
    let w = view c.in-Err.refused.0.now in
    let first : MutBor g.row.D.Denot = record { ref_ptr = c.args.disk.ref_ptr; ghost_name = _; now = c.args.disk.now } in
    let later = none_later _ view first _ w refusal c.in-Err.ensures.refused in
    record {
      does = λ source. by_same (λ d. (rs : List Replied)
          × DoesCommand _ view table.List [] rs (Some (Refused refusal)) (devices (view c.args.disk.now) (view d) source source sink sink)) _
          c.in-Err.refused.0.now (search rules) (
            [],
            does_none _ view refusal (view c.args.disk.now) w source sink table.List [] (refl, refl)
                (λ before is. record {
                  keeps = unopened_list before w refusal is source sink;
                  speaks = unopened_speaks are before w refusal is sink;
                })
                (refused_by_files _ view refusal c.args.disk.now c.in-Err.refused.0.now c.an_opening_finds_its_files.ensures.unopened
                (none_back _ view first _ w refusal c.in-Err.ensures.refused))
                (fails_unopened _ view refusal c.args.disk.now c.in-Err.refused.0.now c.an_opening_finds_its_files.ensures.unopened
                (none_back _ view first _ w refusal c.in-Err.ensures.refused))
                (none_back _ view first _ w refusal c.in-Err.ensures.refused),
          );
      later = by_same (λ d. IsLater (view c.args.disk.now) (view d)) _ c.in-Err.refused.0.now (search rules)
          (later_back _ _ (view c.args.disk.now) w (sym (rest_same _ _ _ _ later.loans_are)) later);
    }

pub list_names-listed-requires : goal.list_names-listed-requires
list_names-listed-requires g c = record { fresh = opened_fresh _ _ _ _ c.in-Ok.ensures.opened c.in-Ok.ensures.running }

-- it was
pub returns : goal.returns
returns g c =
    let view = g.D.Disk.view in
    let is = c.in-Ok.ensures in
    let result = c.list_names-listed.result in
    let sink = g.K.Sink.view c.args.sink.now in
    let sink_now = g.K.Sink.view c.list_names-listed.new.sink in
    let closed = c.close-disk.ensures in
    let w = view c.close-disk.result.now in
    let core = c.in-Ok.core in
    let core_now = c.list_names-listed.new.core in
    let opens = c.calls_run_by_files.ensures in
    let stop_is = (opened_fresh _ _ _ _ is.opened is.running).runs in
    let ran = c.list_names-listed.ensures.ran in
    let are = IsListing (ending_in result) sink sink_now in
    let first : MutBor g.row.D.Denot = record { ref_ptr = c.args.disk.ref_ptr; ghost_name = _; now = c.args.disk.now } in
    let later = opened_later _ view _ _ first _ w core core_now opens is.running closed.disk closed.moment (list_later _ _ core core_now result sink sink_now ran) is.opened in
    let named = first_same c.close-disk.result.ghost_name _ _ _ later.loans_are in
    let run = list_lines _ _ core core_now stop_is result sink sink_now ran in
    let between = list_later _ _ core core_now result sink sink_now ran in
    let by_files = single_back _ view _ _ first _ w core core_now opens is.running closed.disk closed.moment between is.opened are (ending_in result) run
    (λ rs are. ran_actors (ending_in result) rs sink sink_now (list_ran rs sink sink_now (ending_in result) are)) in
    record {
      does = λ source. by_same (λ d. (rs : List Replied)
          × DoesCommand _ view table.List [] rs (ending_in result) (devices (view c.args.disk.now) (view d) source source sink sink_now)) _
          c.close-disk.result.now (search (rules, named)) (
            run.0,
            does_opened _ view _ _ first _ w core core_now opens is.running closed.disk closed.moment between table.List [] (ending_in result) source source sink sink_now run.0
                by_files (ran_alone (ending_in result) run.0 sink sink_now (list_ran run.0 sink sink_now (ending_in result) run.1.0) _ _ by_files) is.opened
                (λ before called. (
                  list_kept _ _ (view before.now) w source source sink sink_now [] [] (ending_in result)
                      (list_keeps _ _ _ _ _ _ called result source sink sink_now ran),
                  inl run.1.0,
                )),
          );
      later = by_same (λ d. IsLater (view c.args.disk.now) (view d)) _ c.close-disk.result.now (search (rules, named))
          (later_back _ _ (view c.args.disk.now) w (sym (rest_same _ _ _ _ later.loans_are)) later);
    }
