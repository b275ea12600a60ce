use Rattle.std.proofs.Common.{◌≡◌, ◌∙◌, Some, slice_get, refl, ap, subst, sym}
use Rattle.std.specs.List.{AllByRecursion}
use Rattle.std.proofs.lemmas.Option.{slice_get_read}
use Rattle.container_meta.specs.declared.entry.Entry.{Entry}
use Rattle.container_meta.specs.Segments.{Contents, entries_from}
use Rattle.container_meta.specs.Spelling.{header_of}
use Rattle.dd_disk.specs.Ending.{Done, Refused, ending, ending_of}
use Rattle.dd_disk.proofs.Moves.{passed}
use Rattle.disk_format.specs.Layout.{slot_at}
use Rattle.segment_index.specs.Changes.{Changes}
use Rattle.segment_index.specs.Places.{IsPlace, KnownMap}
use Rattle.store_model.specs.Indexing.{with_entries}
use Rattle.store_model.specs.Slots.{place_of}
use Rattle.store_state.specs.Indexing.{IsOfSlots}
use Rattle.store_state.specs.Refused.{blames}
use Rattle.store_state.proofs.Changed.{changes_on, size_on}
use Rattle.store_state.proofs.Indexed.{part_of}
use Rattle.store_state.proofs.PutAll.{covered_then, entries_on, listed_on, ok_on, taken_all_back}
use Rattle.store_state.proofs.indexing_all.put_at.Goals as goal

same_contents : (a b : Contents) → Some a ≡ Some b → a ≡ b
same_contents a b e = cc

pub put_some-ended-requires-clause-places : goal.put_some-ended-requires-clause-places
put_some-ended-requires-clause-places g c =
    let size = (g.D.Disk.view c.args.disk.now).size in
    let filled = c.args.filled.now in
    let y = c.index-filled-at-2.result in
    let also = slice_get_read filled _ c.args.at y refl c.requires.within c.index-filled-at-2.is in
    subst (AllByRecursion (λ (e : Entry). IsPlace size (place_of c.args.slot e))) (sym c.entries.ensures.entries)
    (part_of size c.args.slot (header_of 1 y.kind y.segments) (c.entries.ensures.header 1 refl (c.requires.there c.args.at y also)) c.requires.slot).places

pub restore_each-requires-clause-slots : goal.restore_each-requires-clause-slots
restore_each-requires-clause-slots g c =
    let view = g.D.Disk.view in
    let old = view c.args.disk.now in
    let mid = view c.put_some-ended.new.disk in
    let on_mid : mid.size ≡ old.size = (c.put_some-ended.ensures.changes c.requires.slots.slots c.requires.slots.size_is).later.size_is in
    subst IsOfSlots (sym on_mid) c.requires.slots

pub restore_each-requires-clause-lie : goal.restore_each-requires-clause-lie
restore_each-requires-clause-lie g c =
    let view = g.D.Disk.view in
    let old = view c.args.disk.now in
    let mid = view c.put_some-ended.new.disk in
    let on_mid : mid.size ≡ old.size = (c.put_some-ended.ensures.changes c.requires.slots.slots c.requires.slots.size_is).later.size_is in
    listed_on old.size mid.size c.args.filled.now c.args.befores.now on_mid c.requires.lie

pub restore_each-requires-clause-covered : goal.restore_each-requires-clause-covered
restore_each-requires-clause-covered g c =
    let view = g.D.Disk.view in
    let places = g.X.Index.places in
    let old = view c.args.disk.now in
    let mid = view c.put_some-ended.new.disk in
    let filled = c.args.filled.now in
    let befores = c.args.befores.now in
    let known = places c.args.index.now old.content in
    let mid_known = places c.put_some-ended.new.index mid.content in
    let x = c.index-filled-at.result in
    let y = c.index-filled-at-2.result in
    let here = slice_get_read filled _ c.args.at x refl c.requires.within c.index-filled-at.is in
    let also = slice_get_read filled _ c.args.at y refl c.requires.within c.index-filled-at-2.is in
    let entries : c.entries.result.now ≡ entries_from 0 x.segments =
    c.entries.ensures.entries ∙ ap (λ (z : Contents). entries_from 0 z.segments) (same_contents y x (sym also ∙ here)) in
    let some = c.put_some-ended.ensures.memory (c.if-ran_out.ensures.yes refl) in
    covered_then filled befores known mid_known some.1 c.kind.result c.entries.result.now c.requires.over some.0

pub returns-in_err-restore_each-clause-changes : goal.returns-in_err-restore_each-clause-changes
returns-in_err-restore_each-clause-changes g c = λ slots size_is.
    let view = g.D.Disk.view in
    let old = view c.args.disk.now in
    let mid = view c.put_some-ended.new.disk in
    let new = view c.restore_each.new.disk in
    let e = c.in_err-restore_each.field-0.0 in
    let first = subst (λ r. Changes (slot_at slots) (ending blames r) old mid) (c.if-ran_out.ensures.yes refl) (c.put_some-ended.ensures.changes slots size_is) in
    passed (λ z. Changes (slot_at slots) z old new) blames c.from_residual.result e c.from_residual.ensures.1
    (changes_on (slot_at slots) (ending_of (blames e)) old mid new Refused first.faults_are first
    (c.in_err-restore_each.ensures.changes slots (size_on old mid slots first.later size_is)))

pub returns-in_ok-restore_each-clause-memory : goal.returns-in_ok-restore_each-clause-memory
returns-in_ok-restore_each-clause-memory g c = λ ran_out.
    let view = g.D.Disk.view in
    let places = g.X.Index.places in
    let old = view c.args.disk.now in
    let mid = view c.put_some-ended.new.disk in
    let filled = c.args.filled.now in
    let befores = c.args.befores.now in
    let known = places c.args.index.now old.content in
    let mid_known = places c.put_some-ended.new.index mid.content in
    let x = c.index-filled-at.result in
    let y = c.index-filled-at-2.result in
    let here = slice_get_read filled _ c.args.at x refl c.requires.within c.index-filled-at.is in
    let also = slice_get_read filled _ c.args.at y refl c.requires.within c.index-filled-at-2.is in
    let entries : c.entries.result.now ≡ entries_from 0 x.segments =
    c.entries.ensures.entries ∙ ap (λ (z : Contents). entries_from 0 z.segments) (same_contents y x (sym also ∙ here)) in
    let some = c.put_some-ended.ensures.memory ran_out in
    let now = places c.restore_each.new.index (view c.restore_each.new.disk).content in (
      taken_all_back filled befores c.args.at x here c.kind.result c.entries.result.now c.kind.ensures entries known mid_known now some.0 c.in_ok-restore_each.ensures.ok,
      λ none. c.in_ok-restore_each.ensures.unknown (some.1 none),
    )

pub returns-in_ok-restore_each-clause-changes : goal.returns-in_ok-restore_each-clause-changes
returns-in_ok-restore_each-clause-changes g c = λ slots size_is.
    let view = g.D.Disk.view in
    let old = view c.args.disk.now in
    let mid = view c.put_some-ended.new.disk in
    let new = view c.restore_each.new.disk in
    let ended = c.if-ran_out.ensures.yes refl in
    let first = subst (λ r. Changes (slot_at slots) (ending blames r) old mid) ended (c.put_some-ended.ensures.changes slots size_is) in
    let all = changes_on (slot_at slots) Done old mid new Refused first.faults_are first
    (c.in_ok-restore_each.ensures.changes slots (size_on old mid slots first.later size_is)) in
    subst (λ r. Changes (slot_at slots) (ending blames r) old new) (sym ended)
    (record { later = all.later; content_is = all.content_is; leaves = all.leaves; faults_are = all.faults_are })

pub returns-else-ran_out-clause-ok : goal.returns-else-ran_out-clause-ok
returns-else-ran_out-clause-ok g c =
    let view = g.D.Disk.view in
    let places = g.X.Index.places in
    let old = view c.args.disk.now in
    let mid = view c.put_some-ended.new.disk in
    let filled = c.args.filled.now in
    let befores = c.args.befores.now in
    let known = places c.args.index.now old.content in
    let mid_known = places c.put_some-ended.new.index mid.content in
    let x = c.index-filled-at.result in
    let y = c.index-filled-at-2.result in
    let here = slice_get_read filled _ c.args.at x refl c.requires.within c.index-filled-at.is in
    let also = slice_get_read filled _ c.args.at y refl c.requires.within c.index-filled-at-2.is in
    let entries : c.entries.result.now ≡ entries_from 0 x.segments =
    c.entries.ensures.entries ∙ ap (λ (z : Contents). entries_from 0 z.segments) (same_contents y x (sym also ∙ here)) in
    ok_on c.put_some-ended.result
    (KnownMap known (λ m. mid_known ≡ Some (with_entries c.kind.result c.args.slot c.entries.result.now m)))
    ((z : Contents) → slice_get filled c.args.at ≡ Some z
    → KnownMap known (λ m. mid_known ≡ Some (with_entries z.kind c.args.slot (entries_from 0 z.segments) m)))
    (λ are z at m is. are m is ∙ ap Some (entries_on x z c.kind.result c.args.slot c.entries.result.now m (same_contents x z (sym here ∙ at)) c.kind.ensures entries))
    c.put_some-ended.ensures.ok
