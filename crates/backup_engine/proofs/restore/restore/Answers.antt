use Rattle.backup_engine.proofs.Prelude.{rules, inl, refl, sym, List, [], Some, MutBor, IsLater, Replied, Memory, Refused, Restore, IsRestore, DoesCommand, ending_in}
use Rattle.backup_engine.proofs.GivenBack.{gives}
use Rattle.backup_engine.proofs.GivenLines.{given_lines}
use Rattle.backup_engine.proofs.ByFiles.{refused_by_files}
use Rattle.backup_engine.proofs.FailsAlone.{fails_unopened}
use Rattle.backup_engine.proofs.Kept.{by_same, later_back}
use Rattle.backup_engine.proofs.Lending.{none_back, none_later}
use Rattle.backup_engine.proofs.NotDone.{not_begun, unopened_restore}
use Rattle.backup_engine.proofs.Opens.{does_none, does_opened, does_without_memory, opened_fresh, opened_later, single_back}
use Rattle.backup_engine.proofs.Ran.{restore_ran, ran_actors, ran_alone}
use Rattle.backup_engine.proofs.Returned.{first_same, give_later, rest_same}
use Rattle.backup_engine.proofs.SinglesRun.{unbegun_speaks, unopened_speaks}
use Rattle.backup_engine.proofs.Unlent.{restore_kept}
use Rattle.backup_engine.proofs.restore.restore.Goals as goal
use Rattle.backup_engine.specs.Seen.{devices}

-- there was no memory
pub returns-in_default-clause-does : goal.returns-in_default-clause-does
returns-in_default-clause-does g c = λ source.
    let disk = g.D.Disk.view c.args.disk.now in
    let sink = g.K.Sink.view c.args.sink.now in
    let name = c.args.name.now in (
      [],
      does_without_memory _ g.D.Disk.view disk source sink (Restore name) [] (not_begun (Restore name) [] disk source sink (refl, refl))
          (unbegun_speaks (IsRestore name (Some (Refused Memory)) sink sink) disk sink (inl (refl, refl, refl))),
    )

-- the store was not opened
pub returns-in-Err : goal.returns-in-Err
returns-in-Err g c =
    let view = g.D.Disk.view in
    let name = c.args.name.now in
    let refusal = c.in-Err.refused.1 in
    let sink = g.K.Sink.view c.args.sink.now in
    let are = IsRestore name (Some (Refused refusal)) sink sink in
    let w = view c.in-Err.refused.0.now in
    let first : MutBor g.row.D.Denot = record { ref_ptr = c.args.disk.ref_ptr; ghost_name = _; now = c.args.disk.now } in
    let later = none_later _ view first _ w refusal c.in-Err.ensures.refused in
    record {
      does = λ source. by_same (λ d. (rs : List Replied) × DoesCommand _ view (Restore name) [] rs (Some (Refused refusal))
          (devices (view c.args.disk.now) (view d) source source sink sink)) _ c.in-Err.refused.0.now (search rules) (
            [],
            does_none _ view refusal (view c.args.disk.now) w source sink (Restore name) [] (refl, refl)
                (λ before is. record {
                  keeps = unopened_restore before w refusal is name source sink;
                  speaks = unopened_speaks are before w refusal is sink;
                })
                (refused_by_files _ view refusal c.args.disk.now c.in-Err.refused.0.now c.an_opening_finds_its_files.ensures.unopened
                (none_back _ view first _ w refusal c.in-Err.ensures.refused))
                (fails_unopened _ view refusal c.args.disk.now c.in-Err.refused.0.now c.an_opening_finds_its_files.ensures.unopened
                (none_back _ view first _ w refusal c.in-Err.ensures.refused))
                (none_back _ view first _ w refusal c.in-Err.ensures.refused),
          );
      later = by_same (λ d. IsLater (view c.args.disk.now) (view d)) _ c.in-Err.refused.0.now (search rules)
          (later_back _ _ (view c.args.disk.now) w (sym (rest_same _ _ _ _ later.loans_are)) later);
    }

pub give_out-given-requires-clause-fresh : goal.give_out-given-requires-clause-fresh
give_out-given-requires-clause-fresh g c κs outlives = opened_fresh _ _ _ _ c.in-Ok-open.ensures.opened c.in-Ok-open.ensures.running

-- it was
pub returns : goal.returns
returns g c =
    let view = g.D.Disk.view in
    let is = c.in-Ok-open.ensures in
    let name = c.args.name.now in
    let result = c.give_out-given.result in
    let sink = g.K.Sink.view c.args.sink.now in
    let sink_now = g.K.Sink.view c.give_out-given.new.sink in
    let closed = c.close-disk.ensures in
    let ran = c.give_out-given.ensures.ran in
    let w = view c.close-disk.result.now in
    let core = c.in-Ok-open.core in
    let core_now = c.give_out-given.new.core in
    let are = IsRestore name (ending_in result) sink sink_now in
    let first : MutBor g.row.D.Denot = record { ref_ptr = c.args.disk.ref_ptr; ghost_name = _; now = c.args.disk.now } in
    let opens = c.calls_run_by_files.ensures in
    let later = opened_later _ view _ _ first _ w core core_now opens is.running closed.disk closed.moment
    (give_later _ _ name result core core_now sink sink_now ran) is.opened in
    let named = first_same c.close-disk.result.ghost_name _ _ _ later.loans_are in
    let run = given_lines _ _ name core (opened_fresh _ _ _ _ is.opened is.running) core_now sink sink_now result ran in
    let between = give_later _ _ name result core core_now sink sink_now ran in
    let by_files = single_back _ view _ _ first _ w core core_now opens is.running closed.disk closed.moment between is.opened are (ending_in result) run
    (λ rs are. ran_actors (ending_in result) rs sink sink_now (restore_ran rs sink sink_now name (ending_in result) are)) in
    record {
      does = λ source. by_same (λ d. (rs : List Replied)
          × DoesCommand _ view (Restore name) [] rs (ending_in result) (devices (view c.args.disk.now) (view d) source source sink sink_now))
          _ c.close-disk.result.now (search (rules, named)) (
            run.0,
            does_opened _ view _ _ first _ w core core_now opens is.running closed.disk closed.moment between (Restore name) [] (ending_in result) source source sink sink_now run.0
                by_files (ran_alone (ending_in result) run.0 sink sink_now (restore_ran run.0 sink sink_now name (ending_in result) run.1.0) _ _ by_files) is.opened
                (λ before called. (
                  restore_kept _ _ (view before.now) w source source sink sink_now [] name (ending_in result) (gives _ _ _ _ _ _ called name result sink sink_now ran source),
                  inl run.1.0,
                )),
          );
      later = by_same (λ d. IsLater (view c.args.disk.now) (view d)) _ c.close-disk.result.now (search (rules, named))
          (later_back _ _ (view c.args.disk.now) w (sym (rest_same _ _ _ _ later.loans_are)) later);
    }
