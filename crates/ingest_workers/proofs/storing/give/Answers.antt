use Rattle.std.proofs.Common.{Result, [], ◌∷◌, ◌++◌, Ok, Err, refl, sym, subst}
use Rattle.disk_format.specs.Cells.{Root}
use Rattle.load_stream.specs.Load.{LoadState}
use Rattle.refusals.specs.declared.refusal.Refusal.{Refusal}
use Rattle.actor_parts.specs.Asking.{Ask}
use Rattle.actor_parts.specs.StepValue as asked
use Rattle.session_turns.proofs.Results.{by_error}
use Rattle.ingest_workers.specs.Giving.{ByCommit}
use Rattle.ingest_workers.specs.Jobs.{file_of}
use Rattle.ingest_workers.specs.Working.{Commits, Fills}
use Rattle.ingest_workers.proofs.Feeding.{asks_snoc, ended_under, memory_stops, run_under, stopped_stops, unfinished}
use Rattle.ingest_workers.proofs.storing.give.Goals as goal

pub returns-in_err-fill : goal.returns-in_err-fill
returns-in_err-fill g c =
    let asks = g.S.StoreCalls.asks in
    let file = file_of c.args.job.now in
    let e = c.in_err-fill.field-0.0 in
    let fills = subst (λ (x : LoadState). Fills asks x (Err e) c.args.session.now c.fill.new.session c.args.caller.now c.fill.new.caller)
    c.new-stream.ensures c.in_err-fill.ensures.fills in
    by_error (λ (r : Result Root Refusal). Commits asks file c.args.name.now r c.args.session.now c.args.caller.now c.fill.new.caller)
    c.from_residual.result e c.from_residual.ensures.1
    (λ start under none. fills start under none c.args.name.now)

pub returns-in_err-finish : goal.returns-in_err-finish
returns-in_err-finish g c =
    let asks = g.S.StoreCalls.asks in
    let file = file_of c.args.job.now in
    let e = c.in_err-finish.field-0.0 in
    let s = c.fill.new.session in
    let fills = subst (λ (x : LoadState). Fills asks x (Ok tt) c.args.session.now s c.args.caller.now c.fill.new.caller) c.new-stream.ensures c.in_ok-fill.ensures.fills in
    by_error (λ (r : Result Root Refusal). Commits asks file c.args.name.now r c.args.session.now c.args.caller.now c.fill.new.caller)
    c.from_residual-in_err-finish.result e c.from_residual-in_err-finish.ensures.1
    (λ start under none. memory_stops asks 0 file start e s c.fill.new.caller (fills start under none).0
    (unfinished s e c.in_ok-fill.ensures.ongoing c.in_err-finish.ensures.refusal) c.args.name.now)

pub returns-in_err-make_turns : goal.returns-in_err-make_turns
returns-in_err-make_turns g c =
    let asks = g.S.StoreCalls.asks in
    let file = file_of c.args.job.now in
    let e = c.in_err-make_turns.field-0.0 in
    let s = c.fill.new.session in
    let caller = c.fill.new.caller in
    let fills = subst (λ (x : LoadState). Fills asks x (Ok tt) c.args.session.now s c.args.caller.now caller) c.new-stream.ensures c.in_ok-fill.ensures.fills in
    by_error (λ (r : Result Root Refusal). Commits asks file c.args.name.now r c.args.session.now c.args.caller.now c.make_turns.new.core)
    c.from_residual-in_err-make_turns.result e c.from_residual-in_err-make_turns.ensures.1
    (λ start under none.
    let filled = fills start under none in
    stopped_stops asks c.own.result file start e c.finish.new.self c.make_turns.new.session caller c.make_turns.new.core
    (ended_under asks c.own.result file start s c.finish.new.self caller filled.0 filled.1 c.in_ok-finish.ensures.history) c.in_err-make_turns.ensures.turns c.args.name.now)

pub returns-in_err-make : goal.returns-in_err-make
returns-in_err-make g c =
    let asks = g.S.StoreCalls.asks in
    let file = file_of c.args.job.now in
    let e = c.in_err-make.field-0.0 in
    let s = c.fill.new.session in
    let caller = c.fill.new.caller in
    let root = c.in-Some.root in
    let fills = subst (λ (x : LoadState). Fills asks x (Ok tt) c.args.session.now s c.args.caller.now caller) c.new-stream.ensures c.in_ok-fill.ensures.fills in
    let a : Ask = record { step = asked.Commit c.args.name.now root; answer = Err e; buf = c.make.new.buf } in
    by_error (λ (r : Result Root Refusal). Commits asks file c.args.name.now r c.args.session.now c.args.caller.now c.make.new.self)
    c.from_residual-in_err-make.result e c.from_residual-in_err-make.ensures.1
    (λ start under none.
    let filled = fills start under none in
    let turns = c.in_ok-make_turns.ensures.turns in
    let here = (run_under asks c.own.result file start turns.0 c.finish.new.self c.make_turns.new.session caller c.make_turns.new.core turns.1
    (ended_under asks c.own.result file start s c.finish.new.self caller filled.0 filled.1 c.in_ok-finish.ensures.history)).0 in (
      here.asked ++ a ∷ [],
      asks_snoc asks start c.make_turns.new.core c.make.new.self here.asked a here.all c.in_err-make.ensures.made,
      ByCommit here.asked a c.make_turns.new.session here.history root here.gives here.of_file (sym c.in-Some.ensures.ready) refl refl,
    ))

pub returns : goal.returns
returns g c start under none =
    let asks = g.S.StoreCalls.asks in
    let file = file_of c.args.job.now in
    let s = c.fill.new.session in
    let caller = c.fill.new.caller in
    let root = c.in-Some.root in
    let fills = subst (λ (x : LoadState). Fills asks x (Ok tt) c.args.session.now s c.args.caller.now caller) c.new-stream.ensures c.in_ok-fill.ensures.fills in
    let answer = c.in_ok-make.field-0 in
    let a : Ask = record { step = asked.Commit c.args.name.now root; answer = Ok answer; buf = c.make.new.buf } in
    let filled = fills start under none in
    let turns = c.in_ok-make_turns.ensures.turns in
    let here = (run_under asks c.own.result file start turns.0 c.finish.new.self c.make_turns.new.session caller c.make_turns.new.core turns.1
    (ended_under asks c.own.result file start s c.finish.new.self caller filled.0 filled.1 c.in_ok-finish.ensures.history)).0 in (
      here.asked ++ a ∷ [],
      asks_snoc asks start c.make_turns.new.core c.make.new.self here.asked a here.all c.in_ok-make.ensures.made,
      record {
        gave = here.asked;
        history = here.history;
        session = c.make_turns.new.session;
        commit = a;
        gives = here.gives;
        of_file = here.of_file;
        ready = sym c.in-Some.ensures.ready;
        step_is = refl;
        done = (answer, refl, c.in_ok-make.ensures.fits);
        all_is = refl;
      },
    )
