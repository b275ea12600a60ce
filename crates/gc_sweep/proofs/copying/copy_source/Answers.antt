use Rattle.gc_sweep.proofs.Prelude.{sym, ◌∙◌, arith, get_or_default_zero, passed, slot_at, blames, IsCopyStepRefusal}
use Rattle.base_model.proofs.Outcome.{passed_on}
use Rattle.segment_index.specs.Changes.{Changes}
use Rattle.gc_sweep.proofs.CopyKeeps.{copies_on, here}
use Rattle.gc_sweep.proofs.Copied.{copied_fits, is_source, step_refused}
use Rattle.gc_sweep.proofs.OnDisk.{columns, few_slots, slot_fits}
use Rattle.gc_sweep.proofs.copying.copy_source.Goals as goal
use Rattle.gc_sweep.specs.Copying.{copy_step}

pub slot_of-slot-requires-clause-few : goal.slot_of-slot-requires-clause-few
slot_of-slot-requires-clause-few g c = few_slots (g.D.Disk.view c.args.disk.now).size c.requires.runs.0 c.args.tables.now c.requires.runs.1

pub kind_of_slot-kind-requires : goal.kind_of_slot-kind-requires
kind_of_slot-kind-requires g c =
    omega (arith, columns (g.D.Disk.view c.args.disk.now).size c.requires.runs.0 c.args.tables.now c.requires.runs.1, c.slot_of-slot.ensures.within)

pub fill-requires-clause-place : goal.fill-requires-clause-place
fill-requires-clause-place g c = slot_fits
    (g.D.Disk.view c.args.disk.now).size c.requires.runs.0 c.args.tables.now c.slot_of-slot.result c.requires.runs.1 c.slot_of-slot.ensures.within

pub take_found-requires-clause-few : goal.take_found-requires-clause-few
take_found-requires-clause-few g c = few_slots (g.D.Disk.view c.args.disk.now).size c.requires.runs.0 c.args.tables.now c.requires.runs.1

pub take_found-requires-clause-counts : goal.take_found-requires-clause-counts
take_found-requires-clause-counts g c = columns (g.D.Disk.view c.args.disk.now).size c.requires.runs.0 c.args.tables.now c.requires.runs.1

pub take_found-requires-clause-few_copied : goal.take_found-requires-clause-few_copied
take_found-requires-clause-few_copied g c =
    let old = g.D.Disk.view c.args.disk.now in
    let filled = c.in_ok-found.ensures.ok in
    copied_fits c.args.tables.now.held c.requires.under_way.0 c.args.sweep.now
    (g.X.Index.places c.args.index.now old.content) c.args.live.now c.slot_of-slot.result c.args.entry filled.0 old (g.D.Disk.view c.fill.new.disk)
    c.in_ok-found.found c.requires.under_way.1 filled.2

pub returns-in_err-found-clause-refused : goal.returns-in_err-found-clause-refused
returns-in_err-found-clause-refused g c =
    let old = g.D.Disk.view c.args.disk.now in
    let known = g.X.Index.places c.args.index.now old.content in
    let new = g.D.Disk.view c.fill.new.disk in
    let t = c.args.tables.now.held in
    let sweep = c.args.sweep.now in
    let e = c.in_err-found.field-0.0 in
    let id_is =
    c.slot_of-slot.ensures.id ∙ c.index.ensures ∙ get_or_default_zero sweep.sources.items c.args.source c.index.result.now
    (here t c.requires.under_way.0 c.args.source c.args.entry sweep c.requires.under_way.1 c.requires.next).0 in
    passed_on c.from_residual-in_err-found.result
    (IsCopyStepRefusal (copy_step t c.args.live.now known c.args.source c.args.entry sweep) old new) e c.from_residual-in_err-found.ensures.1
    (step_refused t known c.args.live.now c.args.source c.slot_of-slot.result c.args.entry c.kind_of_slot-kind.result sweep old new e
    (is_source t c.args.source sweep c.slot_of-slot.result c.kind_of_slot-kind.result c.slot_of-slot.ensures.within id_is
    (sym c.kind_of_slot-kind.ensures)) c.in_err-found.ensures.refused)

pub returns-in_err-found-clause-changes : goal.returns-in_err-found-clause-changes
returns-in_err-found-clause-changes g c = λ slots size_is.
    let e = c.in_err-found.field-0.0 in
    passed (λ x. Changes (slot_at slots) x (g.D.Disk.view c.args.disk.now)
    (g.D.Disk.view c.fill.new.disk)) blames c.from_residual-in_err-found.result e c.from_residual-in_err-found.ensures.1
    (c.in_err-found.ensures.changes slots size_is)

pub returns-clause-under_way : goal.returns-clause-under_way
returns-clause-under_way g c = λ snapshot under.
    let old = g.D.Disk.view c.args.disk.now in
    let new = g.D.Disk.view c.fill.new.disk in
    let t = c.args.tables.now.held in
    let sweep = c.args.sweep.now in
    let filled = c.in_ok-found.ensures.ok in
    let id_is =
    c.slot_of-slot.ensures.id ∙ c.index.ensures ∙ get_or_default_zero sweep.sources.items c.args.source c.index.result.now
    (here t snapshot c.args.source c.args.entry sweep under c.requires.next).0 in
    copies_on t snapshot c.args.live.now (g.X.Index.places c.args.index.now old.content)
    (g.X.Index.places c.fill.new.index new.content) old new c.args.source c.args.entry sweep c.take_found.new.sweep
    under c.requires.next (record {
      slot = c.slot_of-slot.result;
      kind = c.kind_of_slot-kind.result;
      filling = filled.0;
      is_source = is_source t c.args.source sweep c.slot_of-slot.result c.kind_of_slot-kind.result c.slot_of-slot.ensures.within id_is
          (sym c.kind_of_slot-kind.ensures) filled.0 filled.1;
      found = c.in_ok-found.found;
      plans = filled.2;
      forgets = c.in_ok-found.ensures.map;
      takes = c.take_found.ensures.taken;
      others = c.take_found.ensures.others;
    })

pub fill-requires-clause-counts : goal.fill-requires-clause-counts
fill-requires-clause-counts g c =
    omega (arith, columns (g.D.Disk.view c.args.disk.now).size c.requires.runs.0 c.args.tables.now c.requires.runs.1, c.slot_of-slot.ensures.within)
