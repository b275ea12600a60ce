use Rattle.gc_steps.proofs.Prelude.{◌∙◌, ℕ, List, arith, subst, columns, few_slots, Collection, Begins, AreFound}
use Rattle.gc_steps.proofs.Nearer.{begun}
use Rattle.gc_steps.proofs.RootKeys.{roots_live}
use Rattle.gc_steps.proofs.UnderWay.{started}
use Rattle.gc_steps.proofs.starting.start.Goals as goal

pub mark_level-requires-clause-ids : goal.mark_level-requires-clause-ids
mark_level-requires-clause-ids g c = few_slots c.requires.runs.0 c.requires.runs.1 c.args.tables.now c.requires.runs.2

pub mark_level-requires-clause-counts : goal.mark_level-requires-clause-counts
mark_level-requires-clause-counts g c = columns c.requires.runs.0 c.requires.runs.1 c.args.tables.now c.requires.runs.2

pub begin-requires-clause-few : goal.begin-requires-clause-few
begin-requires-clause-few g c = few_slots c.requires.runs.0 c.requires.runs.1 c.args.tables.now c.requires.runs.2

pub begin-requires-clause-counts : goal.begin-requires-clause-counts
begin-requires-clause-counts g c = columns c.requires.runs.0 c.requires.runs.1 c.args.tables.now c.requires.runs.2

pub returns-clause-under_way : goal.returns-clause-under_way
returns-clause-under_way g c =
    started c.requires.runs.0 c.requires.runs.1 c.args.tables.now _ c.requires.runs.2
    (omega (arith, c.saturating_add-snapshot.ensures)) c.new-2.ensures c.requires.room c.mark_level.ensures

pub returns-clause-steps : goal.returns-clause-steps
returns-clause-steps g c = λ chosen.
    let new : Collection = record {
      snapshot = c.saturating_add-snapshot.result;
      percent = c.number.result;
      live = c.in_ok-live.live;
      liveness = c.new-2.result;
      stage = c.mark_level.result;
      sweep = c.in_ok-sweep.sweep;
    } in
    begun chosen c.args.tables.now.held new c.mark_level.ensures

pub returns-clause-begun : goal.returns-clause-begun
returns-clause-begun g c = record {
  snapshot_is = c.saturating_add-snapshot.ensures;
  percent_is = c.number.ensures.value;
  live = roots_live c.in_ok-live.live c.args.tables.now.names c.args.parts.now c.deref-2.result.now (c.deref-2.ensures.value ∙ c.in_ok-roots.ensures) c.in_ok-live.ensures.live;
  nothing_yet = (c.new-2.ensures, subst (λ (sources : List ℕ). Begins c.args.tables.now.held sources c.in_ok-sweep.sweep) c.new.ensures.items c.in_ok-sweep.ensures.begun);
  stage_is = c.mark_level.ensures;
}

pub returns-clause-found : goal.returns-clause-found
returns-clause-found g c =
    subst (AreFound (g.X.Index.places c.args.index.now (g.D.Disk.view c.args.disk.now).content)) (c.deref.ensures.value ∙ c.in_ok-roots.ensures) c.in_ok-look_up_all.ensures.found
