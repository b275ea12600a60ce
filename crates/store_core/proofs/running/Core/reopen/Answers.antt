use Rattle.store_core.proofs.Prelude.{inl, inr, ℕ, refl, sym, subst, HasPlaces, LeavesUnread}
use Rattle.store_core.proofs.Opened.{core_over, none_over, opened_runs, stays_runs, writes_over}
use Rattle.store_core.proofs.running.Core.reopen.Goals as goal

-- what is so of the disk is so of the core that has it

pub returns-then-unopened-clause-refused : goal.returns-then-unopened-clause-refused
returns-then-unopened-clause-refused g c = none_over _ _ g.D.Disk.view _ (λ d. record c.args.self.now { disk = d }) (λ d. refl) _ _ _ c.in-Err.ensures.refused

pub returns-else-unopened-clause-refused : goal.returns-else-unopened-clause-refused
returns-else-unopened-clause-refused g c = none_over _ _ g.D.Disk.view _ (λ d. record c.args.self.now { disk = d }) (λ d. refl) _ _ _ c.in-Err.ensures.refused

-- something was written: it is stopped
pub returns-then-unopened-clause-kept : goal.returns-then-unopened-clause-kept
returns-then-unopened-clause-kept g c =
    let view = g.D.Disk.view in
    let wrote = subst (λ b. LeavesUnread _ view b c.in-Err.unopened.refusal (view c.args.self.now.disk) (view c.open_store.new.disk)) c.if-unopened.true c.in-Err.ensures.wrote in
    inr (record {
      tables_are = refl;
      parts_are = refl;
      collection_is = refl;
      counted = refl;
      stop_is = refl;
      wrote = writes_over _ _ view _ (λ d. record c.args.self.now { disk = d }) (λ d. refl) _ _ _ wrote;
    })

-- nothing was: it is as it was
pub returns-else-unopened-clause-kept : goal.returns-else-unopened-clause-kept
returns-else-unopened-clause-kept g c =
    let view = g.D.Disk.view in
    let reads = subst (λ b. LeavesUnread _ view b c.in-Err.unopened.refusal (view c.args.self.now.disk) (view c.open_store.new.disk)) c.if-unopened.false c.in-Err.ensures.wrote in
    inl (
      record {
        tables_are = refl;
        index_is = refl;
        parts_are = refl;
        collection_is = refl;
        stop_is = refl;
        counted = refl;
        served = λ served. subst (λ (size : ℕ). HasPlaces size c.args.self.now.index) (sym reads.only.later.size_is) served;
      },
      reads,
    )

pub returns-else-unopened-clause-runs_on : goal.returns-else-unopened-clause-runs_on
returns-else-unopened-clause-runs_on g c running = stays_runs _ _ _ _ _ (returns-else-unopened-clause-kept g c) running

pub returns-clause-opened : goal.returns-clause-opened
returns-clause-opened g c = core_over _ _ g.D.Disk.view _ (λ d. record c.args.self.now { disk = d }) (λ d. refl) _ _ c.in-Ok.ensures.opened

pub returns-clause-running : goal.returns-clause-running
returns-clause-running g c = opened_runs _ g.D.Disk.view _ _ c.in-Ok.ensures.opened

pub returns-clause-runs_on : goal.returns-clause-runs_on
returns-clause-runs_on g c running = returns-clause-running g c
