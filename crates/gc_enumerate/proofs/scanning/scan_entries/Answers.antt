use Rattle.std.proofs.Common.{◌≡◌, ◌∙◌, [], ◌∷◌, take, get_or, Option, subst}
use Rattle.base_model.proofs.Outcome.{passed_on}
use Rattle.container_meta.specs.declared.entry.Entry.{Entry}
use Rattle.container_meta.specs.Places.{PlaceMap}
use Rattle.gc_enumerate.specs.Scanning.{FindsChildren, IsEntryFault, IsScanFault, scan_of}
use Rattle.gc_enumerate.proofs.Scans.{entry_fault_wider, finds_more, finds_wider, stuck_at}
use Rattle.gc_enumerate.proofs.scanning.scan_entries.Goals as goal

pub returns-in_err-children-clause-refused : goal.returns-in_err-children-clause-refused
returns-in_err-children-clause-refused g c =
    let copies = g.C.Copies in
    let laws = g.met.C.Copies in
    let old = c.args.copies.now in
    let mid = c.loop-entry.copies in
    let new = c.scan_entry.new.copies in
    let so_far = c.loop-entry.invariant in
    let i = c.loop-entry.entry-index in
    let blank : Entry = record { digest = []; offset = 0; length = 0; level = 0 } in
    let entry : Entry = get_or c.args.entries.now i blank in
    let fault = c.in_err-children.field-0.0 in
    let s = scan_of (copies.places old) c.args.live.now c.args.layer.now in
    let same : copies.places mid ≡ copies.places old = laws.places_stay old mid so_far.1 in
    let cause : IsEntryFault s (copies.shows mid new) (copies.damaged mid new) entry fault =
    subst (λ (k : Option PlaceMap). IsEntryFault (scan_of k c.args.live.now c.args.layer.now) (copies.shows mid new) (copies.damaged mid new) entry fault) same
    c.in_err-children.ensures.refused in
    passed_on c.from_residual.result (IsScanFault s (copies.shows old new) (copies.damaged old new) c.args.entries.now) fault c.from_residual.ensures.1
    (stuck_at s (copies.shows old new) (copies.damaged old new) c.args.entries.now i blank c.loop-entry.found.items fault c.loop-entry-test.true
    (finds_wider s (copies.shows old mid) (copies.shows old new)
    (λ place bytes shown. laws.shows_wider old old mid new place bytes (laws.later_at_once old) so_far.1 c.in_err-children.ensures.later shown) (take i c.args.entries.now)
    c.loop-entry.found.items so_far.0)
    (entry_fault_wider s (copies.shows mid new) (copies.shows old new)
    (λ place bytes shown. laws.shows_wider old mid new new place bytes so_far.1 c.in_err-children.ensures.later (laws.later_at_once new) shown)
    (copies.damaged mid new) (copies.damaged old new) (λ at why is. laws.damaged_wider old mid new new at why so_far.1 c.in_err-children.ensures.later (laws.later_at_once new) is)
    entry fault cause))

pub loop-entry-preserved : goal.loop-entry-preserved
loop-entry-preserved g c =
    let copies = g.C.Copies in
    let laws = g.met.C.Copies in
    let old = c.args.copies.now in
    let mid = c.loop-entry.copies in
    let new = c.scan_entry.new.copies in
    let so_far = c.loop-entry.invariant in
    let i = c.loop-entry.entry-index in
    let blank : Entry = record { digest = []; offset = 0; length = 0; level = 0 } in
    let entry : Entry = get_or c.args.entries.now i blank in
    let children = c.in_ok-children.children.items in
    let s = scan_of (copies.places old) c.args.live.now c.args.layer.now in
    let same : copies.places mid ≡ copies.places old = laws.places_stay old mid so_far.1 in
    let here : FindsChildren s (copies.shows mid new) (entry ∷ []) children =
    subst (λ (k : Option PlaceMap). FindsChildren (scan_of k c.args.live.now c.args.layer.now) (copies.shows mid new) (entry ∷ []) children)
    same c.in_ok-children.ensures.found in (
      finds_more s (copies.shows old new) c.args.entries.now i blank c.loop-entry.found.items children c.deref.result.now c.extend_from_slice.new.self.items c.loop-entry-test.true
          (finds_wider s (copies.shows old mid) (copies.shows old new)
          (λ place bytes shown. laws.shows_wider old old mid new place bytes (laws.later_at_once old) so_far.1 c.in_ok-children.ensures.later shown)
          (take i c.args.entries.now) c.loop-entry.found.items so_far.0)
          (finds_wider s (copies.shows mid new) (copies.shows old new)
          (λ place bytes shown. laws.shows_wider old mid new new place bytes so_far.1 c.in_ok-children.ensures.later (laws.later_at_once new) shown) (entry ∷ []) children here)
          c.deref.ensures.value c.in_ok-extend_from_slice.ensures.items,
      laws.later_on old mid new so_far.1 c.in_ok-children.ensures.later,
      c.in_ok-children.ensures.counts ∙ so_far.2,
      c.in_ok-children.ensures.size ∙ so_far.3,
      c.in_ok-children.ensures.served,
    )
