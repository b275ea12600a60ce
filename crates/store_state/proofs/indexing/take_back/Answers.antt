use Rattle.std.proofs.Common.{◌≡◌, ◌<◌, ◌+◌, ◌-◌, ◌∙◌, ℕ, [], None, get_or, length, refl, arith}
use Rattle.container_meta.specs.declared.entry.Entry.{Entry}
use Rattle.dd_disk.specs.Ending.{Done, ending_of}
use Rattle.dd_disk.proofs.Moves.{passed}
use Rattle.disk_format.specs.Layout.{slot_at}
use Rattle.segment_index.specs.Changes.{Changes}
use Rattle.store_state.specs.Refused.{blames}
use Rattle.store_state.proofs.Changed.{changes_none, changes_on, lifted, size_on}
use Rattle.store_state.proofs.PutBack.{all_back, if_some, none_back, one_more_back, there_back}
use Rattle.store_state.proofs.indexing.take_back.Goals as goal

pub loop-left-init : goal.loop-left-init
loop-left-init g c =
    let v = g.D.Disk.view c.args.disk.now in (
      none_back c.args.kind c.args.entries.now c.args.before.now c.args.count (g.X.Index.places c.args.index.now v.content) c.requires.put,
      omega arith,
      refl,
      λ slots size_is. changes_none (slot_at slots) Done v refl,
      c.requires.serves,
    )

pub give_back-requires-clause-there : goal.give_back-requires-clause-there
give_back-requires-clause-there g c =
    let i : ℕ = c.loop-left.left - 1 in
    let d : Entry = record { digest = []; offset = 0; length = 0; level = 0 } in
    let within : i < length c.args.entries.now = omega (arith, c.loop-left.invariant.1, c.requires.many.0, c.loop-left-test.true) in
    let more : c.loop-left.left ≡ i + 1 = omega (arith, c.loop-left-test.true) in
    if_some (get_or c.args.before.now i None) _
    (there_back c.args.kind c.args.entries.now c.args.before.now c.args.count c.loop-left.left i d None within more c.key_in.result c.key_in.ensures.key
    (g.X.Index.places c.args.index.now (g.D.Disk.view c.args.disk.now).content) (g.X.Index.places c.loop-left.index (g.D.Disk.view c.loop-left.disk).content)
    c.loop-left.invariant.0)

pub loop-left-preserved : goal.loop-left-preserved
loop-left-preserved g c =
    let view = g.D.Disk.view in
    let old = view c.args.disk.now in
    let mid = view c.loop-left.disk in
    let new = view c.give_back.new.disk in
    let places = g.X.Index.places in
    let i : ℕ = c.loop-left.left - 1 in
    let d : Entry = record { digest = []; offset = 0; length = 0; level = 0 } in
    let within : i < length c.args.entries.now = omega (arith, c.loop-left.invariant.1, c.requires.many.0, c.loop-left-test.true) in
    let more : c.loop-left.left ≡ i + 1 = omega (arith, c.loop-left-test.true) in (
      one_more_back c.args.kind c.args.entries.now c.args.before.now c.args.count c.loop-left.left i d None within more c.key_in.result c.key_in.ensures.key
          (places c.args.index.now old.content) (places c.loop-left.index mid.content) c.loop-left.invariant.0 (places c.give_back.new.index new.content)
          c.in_ok-give_back.ensures.ok c.in_ok-give_back.ensures.unknown,
      omega (arith, c.loop-left.invariant.1),
      c.in_ok-give_back.ensures.changes.later.size_is ∙ c.loop-left.invariant.2,
      λ slots size_is.
          let first = c.loop-left.invariant.3 slots size_is in
          let second = lifted (g.X.Index.owned_from c.loop-left.index) (g.X.Index.serves c.loop-left.index) (g.met.X.Index.owns_no_slot c.loop-left.index) Done
          mid new c.loop-left.invariant.4 c.in_ok-give_back.ensures.changes slots (size_on old mid slots first.later size_is) in
          changes_on (slot_at slots) Done old mid new Done first.faults_are first second,
      c.in_ok-give_back.ensures.served,
    )

pub returns-in_err-give_back-clause-changes : goal.returns-in_err-give_back-clause-changes
returns-in_err-give_back-clause-changes g c = λ slots size_is.
    let view = g.D.Disk.view in
    let old = view c.args.disk.now in
    let mid = view c.loop-left.disk in
    let new = view c.give_back.new.disk in
    let e = c.in_err-give_back.field-0.0 in
    let first = c.loop-left.invariant.3 slots size_is in
    let second = lifted (g.X.Index.owned_from c.loop-left.index) (g.X.Index.serves c.loop-left.index) (g.met.X.Index.owns_no_slot c.loop-left.index) (ending_of (blames e))
    mid new c.loop-left.invariant.4 c.in_err-give_back.ensures.changes slots (size_on old mid slots first.later size_is) in
    passed (λ x. Changes (slot_at slots) x old new) blames c.from_residual.result e c.from_residual.ensures.1
    (changes_on (slot_at slots) (ending_of (blames e)) old mid new Done first.faults_are first second)

pub returns-clause-ok : goal.returns-clause-ok
returns-clause-ok g c =
    all_back c.args.kind c.args.entries.now c.args.before.now c.args.count c.loop-left.left (g.X.Index.places c.args.index.now (g.D.Disk.view c.args.disk.now).content)
    (g.X.Index.places c.loop-left.index (g.D.Disk.view c.loop-left.disk).content) (omega (arith, c.loop-left-test.false)) c.loop-left.invariant.0
