use Rattle.backup_engine.proofs.Prelude.{rules, inl, refl, sym, ◌∙◌, ap, subst, List, [], ℕ, Some, Result, MutBor, IsLater, Replied, Memory, Refused, deleted_line, DeleteRun, IsDelete, DoesCommand, ending_in}
use Rattle.reply_text.specs.declared.ending.Ending.{Ending}
use Rattle.backup_engine.specs.Line.{Delete}
use Rattle.backup_engine.proofs.ByFiles.{refused_by_files}
use Rattle.backup_engine.proofs.FailsAlone.{fails_unopened}
use Rattle.backup_engine.proofs.Kept.{by_error, by_same, later_back}
use Rattle.backup_engine.proofs.Lending.{none_back, none_later}
use Rattle.backup_engine.proofs.NameLines.{delete_lines}
use Rattle.backup_engine.proofs.NamesKept.{delete_keeps, delete_later}
use Rattle.backup_engine.proofs.NotDone.{not_begun, unopened_delete}
use Rattle.backup_engine.proofs.Opens.{does_none, does_opened, does_without_memory, opened_fresh, opened_later, single_back}
use Rattle.backup_engine.proofs.Ran.{delete_ran, ran_actors, ran_alone}
use Rattle.backup_engine.proofs.Returned.{first_same, rest_same}
use Rattle.backup_engine.proofs.SinglesRun.{unbegun_speaks, unopened_speaks}
use Rattle.backup_engine.proofs.Unlent.{delete_kept}
use Rattle.backup_engine.proofs.deleting.delete.Goals as goal
use Rattle.backup_engine.specs.Seen.{devices}
use Rattle.backup_engine.specs.Storing.{Replies}

-- there was no memory
pub returns-in_err-reply-clause-does : goal.returns-in_err-reply-clause-does
returns-in_err-reply-clause-does g c = λ source.
    let disk = g.D.Disk.view c.args.disk.now in
    let sink = g.K.Sink.view c.args.sink.now in (
      [],
      by_error (λ (x : Result (Unit {0}) Ending). DoesCommand _ g.D.Disk.view (Delete c.args.name.now) [] [] (ending_in x) (devices disk disk source source sink sink))
          c.from_residual.result (Refused Memory) c.from_residual.ensures.1
          (does_without_memory _ g.D.Disk.view disk source sink (Delete c.args.name.now) [] (not_begun (Delete c.args.name.now) [] disk source sink (refl, refl))
          (unbegun_speaks (IsDelete c.args.name.now (Some (Refused Memory)) sink sink) disk sink (inl (refl, refl), refl))),
    )

pub returns-in_err-buf-clause-does : goal.returns-in_err-buf-clause-does
returns-in_err-buf-clause-does g c = λ source.
    let disk = g.D.Disk.view c.args.disk.now in
    let sink = g.K.Sink.view c.args.sink.now in (
      [],
      by_error (λ (x : Result (Unit {0}) Ending). DoesCommand _ g.D.Disk.view (Delete c.args.name.now) [] [] (ending_in x) (devices disk disk source source sink sink))
          c.from_residual-in_err-buf.result (Refused Memory) c.from_residual-in_err-buf.ensures.1
          (does_without_memory _ g.D.Disk.view disk source sink (Delete c.args.name.now) [] (not_begun (Delete c.args.name.now) [] disk source sink (refl, refl))
          (unbegun_speaks (IsDelete c.args.name.now (Some (Refused Memory)) sink sink) disk sink (inl (refl, refl), refl))),
    )

-- the store was not opened
pub returns-in-Err : goal.returns-in-Err
returns-in-Err g c =
    let view = g.D.Disk.view in
    let refusal = c.in-Err.refused.1 in
    let sink = g.K.Sink.view c.args.sink.now in
    let are = IsDelete c.args.name.now (Some (Refused refusal)) sink sink in
    let w = view c.in-Err.refused.0.now in
    let first : MutBor g.row.D.Denot = record { ref_ptr = c.args.disk.ref_ptr; ghost_name = _; now = c.args.disk.now } in
    let later = none_later _ view first _ w refusal c.in-Err.ensures.refused in
    record {
      does = λ source. by_same (λ d. (rs : List Replied) × DoesCommand _ view (Delete c.args.name.now) [] rs (Some (Refused refusal))
          (devices (view c.args.disk.now) (view d) source source sink sink)) _ c.in-Err.refused.0.now (search rules) (
            [],
            does_none _ view refusal (view c.args.disk.now) w source sink (Delete c.args.name.now) [] (refl, refl)
                (λ before is. record {
                  keeps = unopened_delete before w refusal is c.args.name.now source sink;
                  speaks = unopened_speaks are before w refusal is sink;
                })
                (refused_by_files _ view refusal c.args.disk.now c.in-Err.refused.0.now c.an_opening_finds_its_files.ensures.unopened
                (none_back _ view first _ w refusal c.in-Err.ensures.refused))
                (fails_unopened _ view refusal c.args.disk.now c.in-Err.refused.0.now c.an_opening_finds_its_files.ensures.unopened
                (none_back _ view first _ w refusal c.in-Err.ensures.refused))
                (none_back _ view first _ w refusal c.in-Err.ensures.refused),
          );
      later = by_same (λ d. IsLater (view c.args.disk.now) (view d)) _ c.in-Err.refused.0.now (search rules)
          (later_back _ _ (view c.args.disk.now) w (sym (rest_same _ _ _ _ later.loans_are)) later);
    }

pub delete_name-deleted-requires : goal.delete_name-deleted-requires
delete_name-deleted-requires g c = record { fresh = opened_fresh _ _ _ _ c.in-Ok.ensures.opened c.in-Ok.ensures.running }

-- it was
pub returns : goal.returns
returns g c =
    let view = g.D.Disk.view in
    let is = c.in-Ok.ensures in
    let result = c.delete_name-deleted.result in
    let sink = g.K.Sink.view c.args.sink.now in
    let sink_now = g.K.Sink.view c.delete_name-deleted.new.sink in
    let closed = c.close-disk.ensures in
    let w = view c.close-disk.result.now in
    let core = c.in-Ok.core in
    let core_now = c.delete_name-deleted.new.core in
    let opens = c.calls_run_by_files.ensures in
    let stop_is = (opened_fresh _ _ _ _ is.opened is.running).runs in
    let name = c.args.name.now in
    let ran =
    subst (λ (reply : List ℕ). DeleteRun _ _ name (λ deleted. Replies reply deleted result sink sink_now) core core_now)
    (c.deref.ensures.value ∙ c.in_ok-reply.ensures ∙ ap deleted_line c.as_bytes.ensures.value) c.delete_name-deleted.ensures.ran in
    let are = IsDelete c.args.name.now (ending_in result) sink sink_now in
    let first : MutBor g.row.D.Denot = record { ref_ptr = c.args.disk.ref_ptr; ghost_name = _; now = c.args.disk.now } in
    let later = opened_later _ view _ _ first _ w core core_now opens is.running closed.disk closed.moment (delete_later _ _ core core_now name _ result sink sink_now ran)
    is.opened in
    let named = first_same c.close-disk.result.ghost_name _ _ _ later.loans_are in
    let run = delete_lines _ _ core core_now stop_is name result sink sink_now ran in
    let between = delete_later _ _ core core_now name _ result sink sink_now ran in
    let by_files = single_back _ view _ _ first _ w core core_now opens is.running closed.disk closed.moment between is.opened are (ending_in result) run
    (λ rs are. ran_actors (ending_in result) rs sink sink_now (delete_ran rs sink sink_now name (ending_in result) are)) in
    record {
      does = λ source. by_same (λ d. (rs : List Replied) × DoesCommand _ view (Delete c.args.name.now) [] rs (ending_in result)
          (devices (view c.args.disk.now) (view d) source source sink sink_now)) _ c.close-disk.result.now (search (rules, named)) (
            run.0,
            does_opened _ view _ _ first _ w core core_now opens is.running closed.disk closed.moment between (Delete c.args.name.now) [] (ending_in result) source source sink
                sink_now run.0 by_files (ran_alone (ending_in result) run.0 sink sink_now (delete_ran run.0 sink sink_now name (ending_in result) run.1.0) _ _ by_files) is.opened
                (λ before called. (
                  delete_kept _ _ (view before.now) w source source sink sink_now [] name (ending_in result)
                      (delete_keeps _ _ _ _ _ _ called name source sink result sink_now ran),
                  inl run.1.0,
                )),
          );
      later = by_same (λ d. IsLater (view c.args.disk.now) (view d)) _ c.close-disk.result.now (search (rules, named))
          (later_back _ _ (view c.args.disk.now) w (sym (rest_same _ _ _ _ later.loans_are)) later);
    }
