use Rattle.std.proofs.Common.{◌+◌}
use Rattle.base_model.proofs.Outcome.{map_err}
use Rattle.dd_disk.specs.Ending.{ending}
use Rattle.ingest_steps.specs.Sealing.{HasPlacesOf}
use Rattle.ingest_steps.proofs.AfterReads.{has_places_before, indexed_after, indexed_refused_by, map_kept, map_on_ok, steps_after}
use Rattle.store_state.specs.Indexing.{IsChangeRefusal}
use Rattle.store_state.specs.Refused.{blames}
use Rattle.copy_forward.specs.Flushing.{IsFlushRefusal}
use Rattle.copy_forward.proofs.Flushed.{flush_refused, written_on}
use Rattle.copy_forward.proofs.flushing.flush.Goals as goal

pub returns-clause-ok : goal.returns-clause-ok
returns-clause-ok g c =
    let view = g.D.Disk.view in
    let places = g.X.Index.places in
    let old = view c.args.disk.now in
    let mid = view c.places_of.new.disk in
    written_on c.seal_indexed.result c.args.tables.now c.seal_indexed.new.tables c.args.slot c.args.filled.now old.size mid.size (places c.args.index.now old.content)
    (places c.places_of.new.index mid.content)
    c.in_ok-before.ensures.reads.only.later.size_is c.in_ok-before.ensures.map c.seal_indexed.ensures.ok

pub returns-clause-map : goal.returns-clause-map
returns-clause-map g c =
    let places = g.X.Index.places in
    let old = (g.D.Disk.view c.args.disk.now).content in
    let mid = (g.D.Disk.view c.places_of.new.disk).content in
    let new = (g.D.Disk.view c.seal_indexed.new.disk).content in
    let filled = c.args.filled.now in
    map_on_ok c.seal_indexed.result (HasPlacesOf filled c.args.slot (places c.places_of.new.index) (places c.seal_indexed.new.index) mid new)
    (HasPlacesOf filled c.args.slot (places c.args.index.now) (places c.seal_indexed.new.index) old new)
    (has_places_before filled c.args.slot (places c.args.index.now) (places c.places_of.new.index)
    (places c.seal_indexed.new.index) old mid new c.in_ok-before.ensures.reads.only.content_is c.in_ok-before.ensures.map)
    c.seal_indexed.ensures.map

pub returns-clause-refused : goal.returns-clause-refused
returns-clause-refused g c =
    let view = g.D.Disk.view in
    let places = g.X.Index.places in
    let before = places c.args.index.now (view c.args.disk.now).content in
    let now = places c.places_of.new.index (view c.places_of.new.disk).content in
    map_err c.seal_indexed.result (IsChangeRefusal now) (IsFlushRefusal before) (flush_refused now before c.in_ok-before.ensures.map) c.seal_indexed.ensures.refused

pub returns-clause-kept : goal.returns-clause-kept
returns-clause-kept g c =
    let view = g.D.Disk.view in
    let places = g.X.Index.places in
    map_kept c.seal_indexed.result (places c.places_of.new.index (view c.places_of.new.disk).content) (places c.args.index.now (view c.args.disk.now).content)
    (places c.seal_indexed.new.index (view c.seal_indexed.new.disk).content) c.in_ok-before.ensures.map c.seal_indexed.ensures.refused c.seal_indexed.ensures.memory

pub returns-clause-disk : goal.returns-clause-disk
returns-clause-disk g c =
    let view = g.D.Disk.view in
    steps_after c.args.tables.now.slots (view c.args.disk.now) (view c.places_of.new.disk) (view c.seal_indexed.new.disk) c.in_ok-before.ensures.reads
    (ending blames c.seal_indexed.result) c.seal_indexed.ensures.disk

pub returns-clause-moves : goal.returns-clause-moves
returns-clause-moves g c =
    let view = g.D.Disk.view in
    indexed_after c.args.tables.now (c.args.tables.now.held.last_id + 1) c.args.filled.now (ending blames c.seal_indexed.result) (view c.args.disk.now) (view c.places_of.new.disk)
    (view c.seal_indexed.new.disk)
    c.in_ok-before.ensures.reads.only c.seal_indexed.ensures.disk.later c.seal_indexed.ensures.moves

pub returns-in_err-before-clause-moves : goal.returns-in_err-before-clause-moves
returns-in_err-before-clause-moves g c =
    let view = g.D.Disk.view in
    let t = c.args.tables.now in
    indexed_refused_by t (t.held.last_id + 1) c.args.filled.now (view c.args.disk.now)
    (view c.places_of.new.disk) c.in_err-before.ensures.reads.only c.from_residual.result _ c.from_residual.ensures.1

pub returns-in_err-image-clause-moves : goal.returns-in_err-image-clause-moves
returns-in_err-image-clause-moves g c =
    let view = g.D.Disk.view in
    let t = c.args.tables.now in
    indexed_refused_by t (t.held.last_id + 1) c.args.filled.now (view c.args.disk.now)
    (view c.places_of.new.disk) c.in_ok-before.ensures.reads.only c.from_residual-in_err-image.result _ c.from_residual-in_err-image.ensures.1
