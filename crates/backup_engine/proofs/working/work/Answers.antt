use Rattle.backup_engine.proofs.Prelude.{rules, ◌≤◌, ◌∙◌, Option, Some, None, Result, sym, subst, MutBor, IsLater, Memory, Refused, ending_in}
use Rattle.std.specs.Prelude.{option_map}
use Rattle.reply_text.specs.declared.ending.Ending.{Ending}
use Rattle.ingest_workers.specs.Named.{HaveNumbers}
use Rattle.shared_work.specs.Completing.{IsSmall}
use Rattle.shared_work.specs.Whole.{Outcome, Plan}
use Rattle.backup_engine.specs.LineValue.{load_value}
use Rattle.backup_engine.specs.Seen.{devices}
use Rattle.backup_engine.specs.TopCall.{RunsWork}
use Rattle.backup_engine.specs.Working.{Prints, Ran, plan_of, told_by}
use Rattle.backup_engine.proofs.ByFiles.{refused_by_files}
use Rattle.backup_engine.proofs.FailsAlone.{fails_unopened}
use Rattle.backup_engine.proofs.Kept.{by_error, by_same, later_back}
use Rattle.backup_engine.proofs.Lending.{none_back, none_later}
use Rattle.backup_engine.proofs.Opens.{opened_later}
use Rattle.backup_engine.proofs.Returned.{first_same, rest_same}
use Rattle.backup_engine.proofs.WorkJobs.{numbered, small}
use Rattle.backup_engine.proofs.WorkKept.{is_opening, ran, work_between, work_none, work_opened, work_without_memory, works_back, works_for, works_opened}
use Rattle.backup_engine.proofs.working.work.Goals as goal

-- there was no memory
pub returns-in_err-buf-clause-does : goal.returns-in_err-buf-clause-does
returns-in_err-buf-clause-does g c = λ source.
    let disk = g.D.Disk.view c.args.disk.now in
    let sink = g.K.Sink.view c.args.sink.now in
    let plan : Plan = plan_of (load_value c.args.load.now) in (
      None,
      by_error (λ (x : Result (Unit {0}) Ending). RunsWork _ g.D.Disk.view plan None (ending_in x) (devices disk disk source source sink sink)) c.from_residual.result
          (Refused Memory) c.from_residual.ensures.1 (work_without_memory _ g.D.Disk.view plan disk source sink),
    )

pub returns-in_err-jobs-clause-does : goal.returns-in_err-jobs-clause-does
returns-in_err-jobs-clause-does g c = λ source.
    let disk = g.D.Disk.view c.args.disk.now in
    let sink = g.K.Sink.view c.args.sink.now in
    let plan : Plan = plan_of (load_value c.args.load.now) in (
      None,
      by_error (λ (x : Result (Unit {0}) Ending). RunsWork _ g.D.Disk.view plan None (ending_in x) (devices disk disk source source sink sink))
          c.from_residual-in_err-jobs.result (Refused Memory) c.from_residual-in_err-jobs.ensures.1 (work_without_memory _ g.D.Disk.view plan disk source sink),
    )

-- the store was not opened
pub returns-in-Err : goal.returns-in-Err
returns-in-Err g c =
    let view = g.D.Disk.view in
    let refusal = c.in-Err.refused.1 in
    let sink = g.K.Sink.view c.args.sink.now in
    let w = view c.in-Err.refused.0.now in
    let plan : Plan = plan_of (load_value c.args.load.now) in
    let first : MutBor g.row.D.Denot = record { ref_ptr = c.args.disk.ref_ptr; ghost_name = _; now = c.args.disk.now } in
    let later = none_later _ view first _ w refusal c.in-Err.ensures.refused in
    record {
      does = λ source. by_same (λ d. (r : Option Ran)
          × RunsWork _ view plan r (Some (Refused refusal)) (devices (view c.args.disk.now) (view d) source source sink sink)) _ c.in-Err.refused.0.now (search rules) (
            None,
            work_none _ view plan refusal (view c.args.disk.now) w source sink
                (refused_by_files _ view refusal c.args.disk.now c.in-Err.refused.0.now c.an_opening_finds_its_files.ensures.unopened
                (none_back _ view first _ w refusal c.in-Err.ensures.refused))
                (fails_unopened _ view refusal c.args.disk.now c.in-Err.refused.0.now c.an_opening_finds_its_files.ensures.unopened
                (none_back _ view first _ w refusal c.in-Err.ensures.refused))
                (none_back _ view first _ w refusal c.in-Err.ensures.refused),
          );
      later = by_same (λ d. IsLater (view c.args.disk.now) (view d)) _ c.in-Err.refused.0.now (search rules)
          (later_back _ _ (view c.args.disk.now) w (sym (rest_same _ _ _ _ later.loans_are)) later);
    }

-- it was, and workers begin
pub work_through-core-requires-clause-opening : goal.work_through-core-requires-clause-opening
work_through-core-requires-clause-opening g c κs outlives =
    let first : MutBor g.row.D.Denot = record { ref_ptr = c.args.disk.ref_ptr; ghost_name = _; now = c.args.disk.now } in
    is_opening _ _ _ _ first c.in-Ok.core c.an_opening_is_the_machines.ensures.opened c.in-Ok.ensures.running c.in-Ok.ensures.opened

pub returns : goal.returns
returns g c =
    let view = g.D.Disk.view in
    let is = c.in-Ok.ensures in
    let result = c.print.result in
    let sink = g.K.Sink.view c.args.sink.now in
    let sink_now = g.K.Sink.view c.print.new.sink in
    let core = c.in-Ok.core in
    let core_now = c.work_through-core.result.core in
    let came : Outcome = c.work_through-core.result.came in
    let closed = c.close-disk.ensures in
    let w = view c.close-disk.result.now in
    let opens = c.calls_run_by_files.ensures in
    let plan : Plan = plan_of (load_value c.args.load.now) in
    let first : MutBor g.row.D.Denot = record { ref_ptr = c.args.disk.ref_ptr; ghost_name = _; now = c.args.disk.now } in
    let works = works_for _ _ c.args.load.now.workers c.args.load.now.percent plan.jobs _ came core core_now
    (c.deref.ensures.value ∙ c.in_ok-jobs.ensures) c.work_through-core.ensures.works in
    let some : 1 ≤ plan.workers = c.requires.right.workers.0 in
    let numbers : HaveNumbers plan.jobs = numbered (load_value c.args.load.now) c.requires.right.files.1 in
    let few : IsSmall plan = small (load_value c.args.load.now) some c.requires.right.files.1 c.requires.right.bytes in
    let between = work_between _ view _ _ first _ w core core_now opens is.running closed.disk closed.moment plan came some numbers works in
    let later = opened_later _ view _ _ first _ w core core_now opens is.running closed.disk closed.moment between is.opened in
    let named = first_same c.close-disk.result.ghost_name _ _ _ later.loans_are in
    let prints : Prints (told_by came (option_map (λ s. s.refusal) _)) (ending_in result) sink sink_now =
    subst (λ (o : Option _). Prints (told_by came o) (ending_in result) sink sink_now) c.stopped_by-stopped.ensures
    (subst (λ (t : Outcome). Prints t (ending_in result) sink sink_now) c.told_by.ensures c.print.ensures) in
    record {
      does = λ source. by_same (λ d. (r : Option Ran)
          × RunsWork _ view plan r (ending_in result) (devices (view c.args.disk.now) (view d) source source sink sink_now)) _ c.close-disk.result.now (search (rules, named)) (
            Some (ran _ view _ _ first _ w core core_now opens is.running closed.disk closed.moment plan came some numbers works),
            work_opened _ view _ _ first _ w core core_now opens is.running closed.disk closed.moment plan came some numbers works is.opened (ending_in result) source sink sink_now
                (works_back _ view _ _ first _ w core core_now opens is.running closed.disk closed.moment plan came some numbers works c.an_opening_finds_its_files-2.ensures.opened
                c.a_work_leaves_its_files.ensures c.a_work_is_complete.ensures few is.opened)
                (works_opened _ view _ _ first _ w core core_now opens is.running closed.disk closed.moment plan came some numbers works c.an_opening_is_the_machines.ensures.opened
                c.a_work_is_a_run.ensures (ending_in result) source sink sink_now prints),
          );
      later = by_same (λ d. IsLater (view c.args.disk.now) (view d)) _ c.close-disk.result.now (search (rules, named))
          (later_back _ _ (view c.args.disk.now) w (sym (rest_same _ _ _ _ later.loans_are)) later);
    }
