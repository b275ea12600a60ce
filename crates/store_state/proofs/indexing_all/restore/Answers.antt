use Rattle.std.proofs.Common.{◌∙◌, [], None, refl, arith, take_all}
use Rattle.container_meta.specs.declared.entry.Entry.{Entry}
use Rattle.dd_disk.specs.Ending.{Done, ending_of}
use Rattle.dd_disk.proofs.Moves.{passed}
use Rattle.disk_format.specs.Layout.{slot_at}
use Rattle.segment_index.specs.Changes.{Changes}
use Rattle.store_state.specs.Refused.{blames}
use Rattle.store_state.proofs.Changed.{changes_none, changes_on, lifted, size_on}
use Rattle.store_state.proofs.PutAll.{all_given, more_given, next_there, none_given}
use Rattle.store_state.proofs.indexing_all.restore.Goals as goal

pub loop-at-init : goal.loop-at-init
loop-at-init g c =
    let v = g.D.Disk.view c.args.disk.now in (
      none_given c.args.kind c.args.entries.now c.args.before.now (g.X.Index.places c.args.index.now v.content),
      refl,
      λ slots size_is. changes_none (slot_at slots) Done v refl,
      c.requires.serves,
    )

pub give_back-requires-clause-there : goal.give_back-requires-clause-there
give_back-requires-clause-there g c =
    let d : Entry = record { digest = []; offset = 0; length = 0; level = 0 } in
    next_there c.args.kind c.args.entries.now c.args.before.now c.loop-at.at d None (omega (arith, c.loop-at-test.true)) c.key_in.result c.key_in.ensures.key
    (g.X.Index.places c.args.index.now (g.D.Disk.view c.args.disk.now).content) (g.X.Index.places c.loop-at.index (g.D.Disk.view c.loop-at.disk).content)
    c.loop-at.invariant.0 c.requires.covered

pub returns-in_err-give_back-clause-changes : goal.returns-in_err-give_back-clause-changes
returns-in_err-give_back-clause-changes g c = λ slots size_is.
    let view = g.D.Disk.view in
    let old = view c.args.disk.now in
    let mid = view c.loop-at.disk in
    let new = view c.give_back.new.disk in
    let e = c.in_err-give_back.field-0.0 in
    let first = c.loop-at.invariant.2 slots size_is in
    let second = lifted (g.X.Index.owned_from c.loop-at.index) (g.X.Index.serves c.loop-at.index) (g.met.X.Index.owns_no_slot c.loop-at.index) (ending_of (blames e))
    mid new c.loop-at.invariant.3 c.in_err-give_back.ensures.changes slots (size_on old mid slots first.later size_is) in
    passed (λ x. Changes (slot_at slots) x old new) blames c.from_residual.result e c.from_residual.ensures.1
    (changes_on (slot_at slots) (ending_of (blames e)) old mid new Done first.faults_are first second)

pub loop-at-preserved : goal.loop-at-preserved
loop-at-preserved g c =
    let view = g.D.Disk.view in
    let old = view c.args.disk.now in
    let mid = view c.loop-at.disk in
    let new = view c.give_back.new.disk in
    let places = g.X.Index.places in
    let d : Entry = record { digest = []; offset = 0; length = 0; level = 0 } in (
      more_given c.args.kind c.args.entries.now c.args.before.now c.loop-at.at d None (omega (arith, c.loop-at-test.true)) c.key_in.result c.key_in.ensures.key
          (places c.args.index.now old.content) (places c.loop-at.index mid.content) c.loop-at.invariant.0 (places c.give_back.new.index new.content)
          c.in_ok-give_back.ensures.ok c.in_ok-give_back.ensures.unknown,
      c.in_ok-give_back.ensures.changes.later.size_is ∙ c.loop-at.invariant.1,
      λ slots size_is.
          let first = c.loop-at.invariant.2 slots size_is in
          let second = lifted (g.X.Index.owned_from c.loop-at.index) (g.X.Index.serves c.loop-at.index) (g.met.X.Index.owns_no_slot c.loop-at.index) Done
          mid new c.loop-at.invariant.3 c.in_ok-give_back.ensures.changes slots (size_on old mid slots first.later size_is) in
          changes_on (slot_at slots) Done old mid new Done first.faults_are first second,
      c.in_ok-give_back.ensures.served,
    )

pub returns-clause-ok : goal.returns-clause-ok
returns-clause-ok g c =
    all_given c.args.kind c.args.entries.now c.args.before.now c.loop-at.at (g.X.Index.places c.args.index.now (g.D.Disk.view c.args.disk.now).content)
    (g.X.Index.places c.loop-at.index (g.D.Disk.view c.loop-at.disk).content) (take_all c.loop-at.at c.args.entries.now (omega (arith, c.loop-at-test.false))) c.loop-at.invariant.0
