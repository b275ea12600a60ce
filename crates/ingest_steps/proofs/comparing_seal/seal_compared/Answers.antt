use Rattle.ingest_steps.proofs.Prelude.{◌+◌, ℕ, List, None, map_err, passed_on, ending, Shows, Refusal, IsChangeRefusal, IsCompared, IsSealRefusal, HasPlacesOf, WasCompared}
use Rattle.store_state.specs.Refused.{blames}
use Rattle.ingest_steps.proofs.AfterReads.{compared_and_sealed, was_compared, map_on_ok, has_places_before, change_refused, first_refused, map_kept, steps_after, seals_after, seals_refused_by}
use Rattle.ingest_steps.proofs.Sealed.{slot_in}
use Rattle.ingest_steps.proofs.comparing_seal.seal_compared.Goals as goal

pub returns-clause-map : goal.returns-clause-map
returns-clause-map g c =
    let places = g.X.Index.places in
    let old = (g.D.Disk.view c.args.disk.now).content in
    let mid = (g.D.Disk.view c.compare_all.new.disk).content in
    let new = (g.D.Disk.view c.seal_indexed.new.disk).content in
    let filled = c.args.filled.now in
    map_on_ok c.seal_indexed.result (HasPlacesOf filled c.args.slot (places c.compare_all.new.index) (places c.seal_indexed.new.index) mid new)
    (HasPlacesOf filled c.args.slot (places c.args.index.now) (places c.seal_indexed.new.index) old new)
    (has_places_before filled c.args.slot (places c.args.index.now) (places c.compare_all.new.index)
    (places c.seal_indexed.new.index) old mid new c.in_ok-before.ensures.reads.only.content_is c.in_ok-before.ensures.map)
    c.seal_indexed.ensures.map

pub returns-clause-refused : goal.returns-clause-refused
returns-clause-refused g c =
    let view = g.D.Disk.view in
    let places = g.X.Index.places in
    let old = view c.args.disk.now in
    let before = places c.args.index.now old.content in
    let now = places c.compare_all.new.index (view c.compare_all.new.disk).content in
    let mid = view c.compare_all.new.disk in
    let new = view c.seal_indexed.new.disk in
    let filled = c.args.filled.now in
    let compared : Refusal → Type 0 = IsCompared old.size before (Shows old new) filled in
    map_err c.seal_indexed.result (IsChangeRefusal now) (IsSealRefusal before compared) (change_refused now before compared c.in_ok-before.ensures.map
    (was_compared old.size before old mid new filled c.in_ok-before.before.items c.in_ok-before.ensures.reads.only c.seal_indexed.ensures.disk.later
    c.in_ok-before.ensures.fit)) c.seal_indexed.ensures.refused

pub returns-in_err-before-clause-refused : goal.returns-in_err-before-clause-refused
returns-in_err-before-clause-refused g c =
    let view = g.D.Disk.view in
    let old = view c.args.disk.now in
    let known = g.X.Index.places c.args.index.now old.content in
    let shown : (List ℕ → Type 0) → Type 0 = Shows old (view c.compare_all.new.disk) in
    let filled = c.args.filled.now in
    let e = c.in_err-before.field-0.0 in
    passed_on c.from_residual.result (IsSealRefusal known (IsCompared old.size known shown filled)) e c.from_residual.ensures.1
    (first_refused old.size known shown filled e c.in_err-before.ensures.refused)

pub returns-clause-kept : goal.returns-clause-kept
returns-clause-kept g c =
    let view = g.D.Disk.view in
    let places = g.X.Index.places in
    map_kept c.seal_indexed.result (places c.compare_all.new.index (view c.compare_all.new.disk).content) (places c.args.index.now (view c.args.disk.now).content)
    (places c.seal_indexed.new.index (view c.seal_indexed.new.disk).content) c.in_ok-before.ensures.map c.seal_indexed.ensures.refused c.seal_indexed.ensures.memory

pub returns-clause-disk : goal.returns-clause-disk
returns-clause-disk g c =
    let view = g.D.Disk.view in
    steps_after c.args.tables.now.slots (view c.args.disk.now) (view c.compare_all.new.disk) (view c.seal_indexed.new.disk) c.in_ok-before.ensures.reads
    (ending blames c.seal_indexed.result) c.seal_indexed.ensures.disk

pub returns-clause-moves : goal.returns-clause-moves
returns-clause-moves g c =
    let view = g.D.Disk.view in
    let old = view c.args.disk.now in
    seals_after c.args.tables.now (g.X.Index.places c.args.index.now old.content) (c.args.tables.now.held.last_id + 1) c.args.filled.now (ending blames c.seal_indexed.result)
    old (view c.compare_all.new.disk)
    (view c.seal_indexed.new.disk) c.in_ok-before.ensures.reads c.in_ok-before.ensures.held c.seal_indexed.ensures.disk.later c.seal_indexed.ensures.moves
    (λ among store files given is stands.
    (slot_in old.size None c.args.tables.now c.args.slot c.requires.state c.requires.slot among store
    (g.X.Index.places c.args.index.now old.content) files given is stands).spare)

pub returns-in_err-before-clause-moves : goal.returns-in_err-before-clause-moves
returns-in_err-before-clause-moves g c =
    let view = g.D.Disk.view in
    let old = view c.args.disk.now in
    let new = view c.compare_all.new.disk in
    let t = c.args.tables.now in
    let known = g.X.Index.places c.args.index.now old.content in
    seals_refused_by t (t.held.last_id + 1) c.args.filled.now old new c.in_err-before.ensures.reads.only known c.from_residual.result _ c.from_residual.ensures.1

pub returns-in_err-image-clause-moves : goal.returns-in_err-image-clause-moves
returns-in_err-image-clause-moves g c =
    let view = g.D.Disk.view in
    let old = view c.args.disk.now in
    let new = view c.compare_all.new.disk in
    let t = c.args.tables.now in
    let known = g.X.Index.places c.args.index.now old.content in
    seals_refused_by t
    (t.held.last_id + 1) c.args.filled.now old new c.in_ok-before.ensures.reads.only known c.from_residual-in_err-image.result _ c.from_residual-in_err-image.ensures.1

pub returns-clause-ok : goal.returns-clause-ok
returns-clause-ok g c =
    let view = g.D.Disk.view in
    let places = g.X.Index.places in
    let old = view c.args.disk.now in
    let mid = view c.compare_all.new.disk in
    let new = view c.seal_indexed.new.disk in
    let known = places c.args.index.now old.content in
    let filled = c.args.filled.now in
    let reads = c.in_ok-before.ensures.reads.only in
    compared_and_sealed c.seal_indexed.result c.args.tables.now c.seal_indexed.new.tables c.args.slot filled old.size mid.size known (places c.compare_all.new.index mid.content)
    (WasCompared old.size known (Shows old new) filled) reads.later.size_is c.in_ok-before.ensures.map
    (was_compared old.size known old mid new filled c.in_ok-before.before.items reads c.seal_indexed.ensures.disk.later c.in_ok-before.ensures.fit)
    c.requires.slot c.seal_indexed.ensures.ok
