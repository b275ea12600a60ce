use Rattle.std.proofs.Common.{List, subst}
use Rattle.container_meta.specs.declared.entry.Entry.{Entry}
use Rattle.gc_enumerate.specs.declared.layer.KeyPlace.{KeyPlace}
use Rattle.gc_enumerate.specs.Marking.{AddsMarks, AddsSome}
use Rattle.gc_enumerate.specs.Scanning.{FindsChildren, Scan, scan_of}
use Rattle.gc_enumerate.proofs.LiveChildren.{children_live, leaves_none, leaves_some, marks_children}
use Rattle.gc_enumerate.proofs.scanning.scan_container.Goals as goal

pub returns-in_err-found-clause-kept : goal.returns-in_err-found-clause-kept
returns-in_err-found-clause-kept g c = leaves_none _ _ _ c.from_residual.result

pub returns-in_err-mark_all-clause-kept : goal.returns-in_err-mark_all-clause-kept
returns-in_err-mark_all-clause-kept g c =
    let s : Scan = scan_of (g.C.Copies.places c.args.copies.now) c.args.live.now (record { slot = c.args.slot; kind = c.args.meta.now.kind; level = c.args.level }) in
    let found = c.in_ok-found.found.items in
    leaves_some s (g.C.Copies.shows c.args.copies.now c.scan_entries.new.copies) c.args.meta.now.entries.items found c.mark_all.new.self
    (subst (λ (es : List Entry). FindsChildren s (g.C.Copies.shows c.args.copies.now c.scan_entries.new.copies) es found) c.deref.ensures.value c.in_ok-found.ensures.found)
    (subst (λ (fs : List KeyPlace). AddsSome fs c.args.live.now c.mark_all.new.self) c.deref-2.ensures.value c.in_err-mark_all.ensures.err)
    c.from_residual-in_err-mark_all.result c.from_residual-in_err-mark_all.ensures.1

pub returns-clause-children : goal.returns-clause-children
returns-clause-children g c =
    let s : Scan = scan_of (g.C.Copies.places c.args.copies.now) c.args.live.now (record { slot = c.args.slot; kind = c.args.meta.now.kind; level = c.args.level }) in
    let found = c.in_ok-found.found.items in
    children_live s (g.C.Copies.shows c.args.copies.now c.scan_entries.new.copies) c.args.meta.now.entries.items found c.mark_all.new.self
    (subst (λ (es : List Entry). FindsChildren s (g.C.Copies.shows c.args.copies.now c.scan_entries.new.copies) es found) c.deref.ensures.value c.in_ok-found.ensures.found)
    (subst (λ (fs : List KeyPlace). AddsMarks fs c.args.live.now c.mark_all.new.self) c.deref-2.ensures.value c.in_ok-mark_all.ensures.ok)

pub returns-clause-marks : goal.returns-clause-marks
returns-clause-marks g c =
    let s : Scan = scan_of (g.C.Copies.places c.args.copies.now) c.args.live.now (record { slot = c.args.slot; kind = c.args.meta.now.kind; level = c.args.level }) in
    let found = c.in_ok-found.found.items in
    marks_children s (g.C.Copies.shows c.args.copies.now c.scan_entries.new.copies) c.args.meta.now.entries.items found c.mark_all.new.self
    (subst (λ (es : List Entry). FindsChildren s (g.C.Copies.shows c.args.copies.now c.scan_entries.new.copies) es found) c.deref.ensures.value c.in_ok-found.ensures.found)
    (subst (λ (fs : List KeyPlace). AddsMarks fs c.args.live.now c.mark_all.new.self) c.deref-2.ensures.value c.in_ok-mark_all.ensures.ok)
