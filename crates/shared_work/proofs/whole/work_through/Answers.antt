use Rattle.std.proofs.Common.{◌≡◌, ◌≤◌, ℕ, map, length, Err, sym, ap, ◌∙◌, subst, arith}
use Rattle.std.proofs.lemmas.List.{length-map}
use Rattle.namespace.specs.Listing.{listed_value}
use Rattle.refusals.specs.declared.refusal.Refusal.TheVariants.{NotEmpty}
use Rattle.store_core.specs.Runs.{CoreRun}
use Rattle.shared_store.specs.Events.{event_of}
use Rattle.shared_work.specs.Whole.{Plan, WorksThrough}
use Rattle.shared_work.proofs.Filling.{filled, listed_idle, not_empty, solo_run, unlisted}
use Rattle.shared_work.proofs.whole.work_through.Goals as goal

-- the step that lists, as one of the core
pub returns-in-Err-clause-works : goal.returns-in-Err-clause-works
returns-in-Err-clause-works g c =
    let state = g.C.HasState.state in
    let asked = c.in-Err.ensures in
    let first = c.new-caller.ensures.of in
    let run = solo_run state 0 asked.0 c.new-caller.result c.list-listed.new.caller (first.1 ∙ c.first_actor.ensures) asked.1 in
    unlisted state _ c.in-Err.refusal asked.0 c.args.core c.into_core-core.result asked.2
    (subst (λ (x : _). CoreRun g.row.C.Denot state (map (event_of 0) asked.0) x c.into_core-core.result) first.0
    (subst (λ (y : _). CoreRun g.row.C.Denot state (map (event_of 0) asked.0) c.new-caller.result.0.0 y) (sym c.into_core-core.ensures.core) run))

pub returns-then-files-gt0-clause-works : goal.returns-then-files-gt0-clause-works
returns-then-files-gt0-clause-works g c =
    let state = g.C.HasState.state in
    let asked = c.in-Ok.ensures in
    let first = c.new-caller.ensures.of in
    let run = solo_run state 0 asked.0 c.new-caller.result c.list-listed.new.caller (first.1 ∙ c.first_actor.ensures) asked.1 in
    let many : length c.in-Ok.names ≡ length c.names-in-Ok.result.now = ap length (sym c.names-in-Ok.ensures) ∙ length-map c.names-in-Ok.result.now listed_value in
    let plan : Plan = record { workers = c.args.workers; percent = c.args.percent; jobs = c.args.jobs.now } in
    subst (λ (n : ℕ). WorksThrough state plan (Err (NotEmpty n)) c.args.core c.into_core-core.result) many
    (not_empty state plan c.in-Ok.names asked.0 c.args.core c.into_core-core.result (subst (λ (n : ℕ). 1 ≤ n) (sym many) c.if-files-gt0.true) asked.2
    (subst (λ (x : _). CoreRun g.row.C.Denot state (map (event_of 0) asked.0) x c.into_core-core.result) first.0
    (subst (λ (y : _). CoreRun g.row.C.Denot state (map (event_of 0) asked.0) c.new-caller.result.0.0 y) (sym c.into_core-core.ensures.core) run)))

pub fill-requires-clause-opening : goal.fill-requires-clause-opening
fill-requires-clause-opening g c =
    let state = g.C.HasState.state in
    let asked = c.in-Ok.ensures in
    let first = c.new-caller.ensures.of in
    let run = solo_run state 0 asked.0 c.new-caller.result c.list-listed.new.caller (first.1 ∙ c.first_actor.ensures) asked.1 in
    let o = c.requires.opening in
    let here =
    subst (λ (x : _). CoreRun g.row.C.Denot state (map (event_of 0) asked.0) x c.into_core-core.result) first.0
    (subst (λ (y : _). CoreRun g.row.C.Denot state (map (event_of 0) asked.0) c.new-caller.result.0.0 y) (sym c.into_core-core.ensures.core) run) in
    let went = c.a_core_is_the_machine.ensures.runs _ (map (event_of 0) asked.0) c.args.core c.into_core-core.result o.machine o.running o.fits (λ told. absurd (cc)) here in
    λ κs outlives. record {
      running = c.into_core-core.ensures.running;
      machine = went.0;
      fits = went.1.1;
      all_idle = listed_idle state c.in-Ok.names asked.0 c.args.core c.into_core-core.result asked.2 here ∙ o.all_idle;
    }

pub returns-clause-works : goal.returns-clause-works
returns-clause-works g c =
    let state = g.C.HasState.state in
    let asked = c.in-Ok.ensures in
    let first = c.new-caller.ensures.of in
    let run = solo_run state 0 asked.0 c.new-caller.result c.list-listed.new.caller (first.1 ∙ c.first_actor.ensures) asked.1 in
    let many : length c.in-Ok.names ≡ length c.names-in-Ok.result.now = ap length (sym c.names-in-Ok.ensures) ∙ length-map c.names-in-Ok.result.now listed_value in
    filled state _ c.in-Ok.names c.fill.result.came asked.0 c.args.core c.into_core-core.result c.fill.result.core (omega (arith, many, c.if-files-gt0.false)) asked.2
    (subst (λ (x : _). CoreRun g.row.C.Denot state (map (event_of 0) asked.0) x c.into_core-core.result) first.0
    (subst (λ (y : _). CoreRun g.row.C.Denot state (map (event_of 0) asked.0) c.new-caller.result.0.0 y) (sym c.into_core-core.ensures.core) run)) c.fill.ensures.fills
