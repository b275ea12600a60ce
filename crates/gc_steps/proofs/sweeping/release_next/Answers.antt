use Rattle.gc_steps.proofs.Prelude.{None, arith, refl}
use Rattle.gc_sweep.proofs.Freed.{are_within}
use Rattle.gc_steps.specs.declared.collection.Stage.TheVariants.{Sweep}
use Rattle.gc_steps.proofs.MapKept.{map_kept}
use Rattle.gc_steps.proofs.SweepSteps.{release_made, swept}
use Rattle.gc_steps.proofs.UnderWay.{at_stage, runs_alone, swept_on}
use Rattle.gc_steps.proofs.sweeping.release_next.Goals as goal

pub returns-clause-step : goal.returns-clause-step
returns-clause-step g c =
    let view = g.D.Disk.view in
    let did = c.in_ok-release_ready.ensures in
    let index = c.args.index.now in
    let places = g.X.Index.places index in
    let old = view c.args.disk.now in
    let new = view c.release_ready.new.disk in
    let now = c.args.collection.now in
    let sweeping = at_stage c.args.tables.now.held now Sweep c.requires.under_way c.requires.stage in
    record {
      made = release_made c.args.tables.now c.release_ready.new.tables (places old.content)
          (places new.content) old new now c.release_ready.new.sweep c.args.source c.args.entry c.requires.stage c.requires.under_way c.requires.next
          did.disk.later.size_is did.ok.freed did.ok.released did.ok.durable
          (λ given content. map_kept places (g.X.Index.owned_from index) (g.met.X.Index.places_stay index) (g.X.Index.serves index)
          (g.met.X.Index.owns_no_slot index) c.requires.runs.0 c.args.tables.now now.sweep.ready.items
          old new c.requires.runs.1 (are_within c.args.source c.args.entry now.snapshot c.args.tables.now now.sweep c.requires.next sweeping) c.requires.serves given content
          (did.frame.content refl given content));
      refused = tt;
    }

pub returns-clause-under_way : goal.returns-clause-under_way
returns-clause-under_way g c =
    let view = g.D.Disk.view in
    let did = c.in_ok-release_ready.ensures in
    let now = c.args.collection.now in
    let alone = runs_alone (view c.args.disk.now).size c.requires.runs.0 c.args.tables.now c.requires.runs.1 in
    swept_on (view c.args.disk.now).size None c.args.tables.now.held c.release_ready.new.tables now (swept now c.release_ready.new.sweep)
    (did.ok.freed.runs (view c.args.disk.now).size None (λ index is. absurd cc) alone)
    (omega (arith, did.ok.freed.last_stays)) c.requires.under_way c.requires.stage refl did.ok.released.sources_are
    (did.under_way now.snapshot (at_stage c.args.tables.now.held now Sweep c.requires.under_way c.requires.stage))
