use Rattle.std.proofs.Common.{◌≡◌, ◌+◌, ◌∙◌, ℕ, Some, length, refl, ap, subst, sym, arith, take_all}
use Rattle.std.specs.Prelude.{IfSome}
use Rattle.std.specs.List.{AllByRecursion}
use Rattle.std.proofs.lemmas.Option.{slice_get_read}
use Rattle.container_meta.specs.Segments.{Contents, entries_from}
use Rattle.dd_disk.specs.Ending.{Done, ending_of}
use Rattle.dd_disk.proofs.Moves.{passed}
use Rattle.disk_format.specs.Layout.{slot_at}
use Rattle.segment_index.specs.Changes.{Changes}
use Rattle.segment_index.specs.Places.{IsPlace}
use Rattle.store_state.specs.Refused.{blames}
use Rattle.store_state.proofs.Changed.{changes_none, changes_on, size_on}
use Rattle.store_state.proofs.PutAll.{all_given_in, more_given_in, next_covered, none_given_in, none_restored}
use Rattle.store_state.proofs.indexing_all.restore_each.Goals as goal

same_contents : (a b : Contents) → Some a ≡ Some b → a ≡ b
same_contents a b e = cc

pub loop-i-init : goal.loop-i-init
loop-i-init g c =
    let v = g.D.Disk.view c.args.disk.now in (
      none_given_in c.args.filled.now c.args.befores.now (g.X.Index.places c.args.index.now v.content),
      refl,
      λ slots size_is. changes_none (slot_at slots) Done v refl,
      c.requires.serves,
    )

pub restore-requires-clause-many : goal.restore-requires-clause-many
restore-requires-clause-many g c =
    let view = g.D.Disk.view in
    let filled = c.args.filled.now in
    let i : ℕ = c.loop-i.i in
    let x = c.index-filled-i.result in
    let y = c.index-filled-i-in-loop-i.result in
    let here = slice_get_read filled _ i x refl (omega (arith, c.loop-i-test.true)) c.index-filled-i.is in
    let also = slice_get_read filled _ i y refl (omega (arith, c.loop-i-test.true)) c.index-filled-i-in-loop-i.is in
    let there = slice_get_read c.args.befores.now _ i c.index-befores-i.result refl (omega (arith, c.loop-i-test.true, c.requires.many)) c.index-befores-i.is in
    let entries : c.entries.result.now ≡ entries_from 0 x.segments =
    c.entries.ensures.entries ∙ ap (λ (z : Contents). entries_from 0 z.segments) (same_contents y x (sym also ∙ here)) in
    ap length c.deref.ensures.value ∙ (c.requires.lie i x c.index-befores-i.result here there).0 ∙ ap length (sym entries)

pub restore-requires-clause-lie : goal.restore-requires-clause-lie
restore-requires-clause-lie g c =
    let view = g.D.Disk.view in
    let filled = c.args.filled.now in
    let i : ℕ = c.loop-i.i in
    let x = c.index-filled-i.result in
    let y = c.index-filled-i-in-loop-i.result in
    let here = slice_get_read filled _ i x refl (omega (arith, c.loop-i-test.true)) c.index-filled-i.is in
    let also = slice_get_read filled _ i y refl (omega (arith, c.loop-i-test.true)) c.index-filled-i-in-loop-i.is in
    let there = slice_get_read c.args.befores.now _ i c.index-befores-i.result refl (omega (arith, c.loop-i-test.true, c.requires.many)) c.index-befores-i.is in
    let entries : c.entries.result.now ≡ entries_from 0 x.segments =
    c.entries.ensures.entries ∙ ap (λ (z : Contents). entries_from 0 z.segments) (same_contents y x (sym also ∙ here)) in
    subst (λ (n : ℕ). AllByRecursion (λ had. IfSome had (IsPlace n)) c.deref.result.now) (sym c.loop-i.invariant.1)
    (subst (AllByRecursion (λ had. IfSome had (IsPlace (view c.args.disk.now).size))) (sym c.deref.ensures.value) (c.requires.lie i x c.index-befores-i.result here there).1)

pub restore-requires-clause-covered : goal.restore-requires-clause-covered
restore-requires-clause-covered g c =
    let view = g.D.Disk.view in
    let filled = c.args.filled.now in
    let i : ℕ = c.loop-i.i in
    let x = c.index-filled-i.result in
    let y = c.index-filled-i-in-loop-i.result in
    let here = slice_get_read filled _ i x refl (omega (arith, c.loop-i-test.true)) c.index-filled-i.is in
    let also = slice_get_read filled _ i y refl (omega (arith, c.loop-i-test.true)) c.index-filled-i-in-loop-i.is in
    let there = slice_get_read c.args.befores.now _ i c.index-befores-i.result refl (omega (arith, c.loop-i-test.true, c.requires.many)) c.index-befores-i.is in
    let entries : c.entries.result.now ≡ entries_from 0 x.segments =
    c.entries.ensures.entries ∙ ap (λ (z : Contents). entries_from 0 z.segments) (same_contents y x (sym also ∙ here)) in
    next_covered filled c.args.befores.now i x c.index-befores-i.result here there (g.X.Index.places c.args.index.now (view c.args.disk.now).content)
    (g.X.Index.places c.loop-i.index (view c.loop-i.disk).content) c.loop-i.invariant.0 c.kind.result c.entries.result.now c.deref.result.now c.kind.ensures entries
    c.deref.ensures.value c.requires.covered

pub returns-in_err-restore-clause-changes : goal.returns-in_err-restore-clause-changes
returns-in_err-restore-clause-changes g c = λ slots size_is.
    let view = g.D.Disk.view in
    let old = view c.args.disk.now in
    let mid = view c.loop-i.disk in
    let new = view c.restore.new.disk in
    let e = c.in_err-restore.field-0.0 in
    let first = c.loop-i.invariant.2 slots size_is in
    passed (λ z. Changes (slot_at slots) z old new) blames c.from_residual.result e c.from_residual.ensures.1
    (changes_on (slot_at slots) (ending_of (blames e)) old mid new Done first.faults_are first
    (c.in_err-restore.ensures.changes slots (size_on old mid slots first.later size_is)))

pub loop-i-preserved : goal.loop-i-preserved
loop-i-preserved g c =
    let view = g.D.Disk.view in
    let filled = c.args.filled.now in
    let i : ℕ = c.loop-i.i in
    let x = c.index-filled-i.result in
    let y = c.index-filled-i-in-loop-i.result in
    let here = slice_get_read filled _ i x refl (omega (arith, c.loop-i-test.true)) c.index-filled-i.is in
    let also = slice_get_read filled _ i y refl (omega (arith, c.loop-i-test.true)) c.index-filled-i-in-loop-i.is in
    let there = slice_get_read c.args.befores.now _ i c.index-befores-i.result refl (omega (arith, c.loop-i-test.true, c.requires.many)) c.index-befores-i.is in
    let entries : c.entries.result.now ≡ entries_from 0 x.segments =
    c.entries.ensures.entries ∙ ap (λ (z : Contents). entries_from 0 z.segments) (same_contents y x (sym also ∙ here)) in
    let old = view c.args.disk.now in
    let mid = view c.loop-i.disk in
    let new = view c.restore.new.disk in
    let places = g.X.Index.places in
    let on_mid = c.in_ok-restore.ensures.changes c.requires.slots.slots (c.loop-i.invariant.1 ∙ c.requires.slots.size_is) in (
      more_given_in filled c.args.befores.now i x c.index-befores-i.result here there (places c.args.index.now old.content) (places c.loop-i.index mid.content)
          c.loop-i.invariant.0 c.kind.result c.entries.result.now c.deref.result.now c.kind.ensures entries c.deref.ensures.value (places c.restore.new.index new.content)
          c.in_ok-restore.ensures.ok c.in_ok-restore.ensures.unknown
          (none_restored c.kind.result c.entries.result.now c.deref.result.now (places c.loop-i.index mid.content) (places c.restore.new.index new.content)
          (next_covered filled c.args.befores.now i x c.index-befores-i.result here there (places c.args.index.now old.content) (places c.loop-i.index mid.content)
          c.loop-i.invariant.0 c.kind.result c.entries.result.now c.deref.result.now c.kind.ensures entries c.deref.ensures.value c.requires.covered)
          c.in_ok-restore.ensures.ok) (i + 1) (omega arith),
      on_mid.later.size_is ∙ c.loop-i.invariant.1,
      λ slots size_is.
          let first = c.loop-i.invariant.2 slots size_is in
          changes_on (slot_at slots) Done old mid new Done first.faults_are first (c.in_ok-restore.ensures.changes slots (size_on old mid slots first.later size_is)),
      c.in_ok-restore.ensures.served,
    )

pub returns-clause-ok : goal.returns-clause-ok
returns-clause-ok g c =
    all_given_in c.args.filled.now c.args.befores.now c.loop-i.i (g.X.Index.places c.args.index.now (g.D.Disk.view c.args.disk.now).content)
    (g.X.Index.places c.loop-i.index (g.D.Disk.view c.loop-i.disk).content) (take_all c.loop-i.i c.args.filled.now (omega (arith, c.loop-i-test.false))) c.loop-i.invariant.0
