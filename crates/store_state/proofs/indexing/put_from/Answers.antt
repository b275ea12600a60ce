use Rattle.std.proofs.Common.{ℕ, [], Err, ap, subst, sym}
use Rattle.std.specs.Prelude.{IfSome}
use Rattle.std.specs.List.{AllByRecursion}
use Rattle.base_model.proofs.Outcome.{passed_on}
use Rattle.container_meta.specs.declared.entry.Entry.{Entry}
use Rattle.dd_disk.specs.Ending.{Done, ending_of}
use Rattle.dd_disk.proofs.Moves.{passed}
use Rattle.disk_format.specs.Layout.{slot_at}
use Rattle.refusals.specs.declared.refusal.Refusal.TheVariants.{Memory}
use Rattle.segment_index.specs.Changes.{Changes}
use Rattle.segment_index.specs.Places.{IsPlace}
use Rattle.store_model.specs.Slots.{place_of}
use Rattle.store_state.specs.Indexing.{IsChangeRefusal}
use Rattle.store_state.specs.Refused.{blames}
use Rattle.store_state.proofs.Changed.{changes_on, size_on}
use Rattle.store_state.proofs.Indexed.{err_is, none_before, refusal_on}
use Rattle.store_state.proofs.PutBack.{as_before, in_more, over_in, size_in}
use Rattle.store_state.proofs.indexing.put_from.Goals as goal

pub put_next-requires-clause-places : goal.put_next-requires-clause-places
put_next-requires-clause-places g c =
    let view = g.D.Disk.view in
    subst (λ (n : ℕ). AllByRecursion (λ e. IsPlace n (place_of c.args.slot e)) c.args.entries.now)
    (sym (size_in (view c.args.disk.now) (view c.loop-at.disk) c.requires.slots c.loop-at.invariant.2)) c.requires.part.places

pub put_next-requires-clause-lie : goal.put_next-requires-clause-lie
put_next-requires-clause-lie g c =
    let view = g.D.Disk.view in
    subst (λ (n : ℕ). AllByRecursion (λ had. IfSome had (IsPlace n)) c.args.before.now)
    (sym (size_in (view c.args.disk.now) (view c.loop-at.disk) c.requires.slots c.loop-at.invariant.2)) c.requires.had.lie

pub put_next-requires-clause-put : goal.put_next-requires-clause-put
put_next-requires-clause-put g c =
    let view = g.D.Disk.view in
    over_in (view c.args.disk.now).size c.args.kind c.args.slot c.args.entries.now c.args.before.now c.loop-at.at
    (g.X.Index.places c.args.index.now (view c.args.disk.now).content) (g.X.Index.places c.loop-at.index (view c.loop-at.disk).content)
    c.requires.part c.requires.had c.loop-at.invariant.0 c.loop-at.invariant.1

pub returns-in_err-put_next-clause-memory : goal.returns-in_err-put_next-clause-memory
returns-in_err-put_next-clause-memory g c = λ ran_out.
    let view = g.D.Disk.view in
    let places = g.X.Index.places in
    let e = c.in_err-put_next.field-0.0 in
    let back = c.in_err-put_next.ensures.memory (ap Err (err_is c.from_residual.result e Memory c.from_residual.ensures.1 ran_out)) in
    as_before (view c.args.disk.now).size c.args.kind c.args.slot c.args.entries.now c.args.before.now c.loop-at.at (places c.args.index.now (view c.args.disk.now).content)
    (places c.loop-at.index (view c.loop-at.disk).content)
    c.requires.part c.requires.had c.loop-at.invariant.0 c.loop-at.invariant.1 (places c.put_next.new.index (view c.put_next.new.disk).content) back.0 back.1

pub returns-in_err-put_next-clause-refused : goal.returns-in_err-put_next-clause-refused
returns-in_err-put_next-clause-refused g c =
    let view = g.D.Disk.view in
    let places = g.X.Index.places in
    let old = places c.args.index.now (view c.args.disk.now).content in
    let mid = places c.loop-at.index (view c.loop-at.disk).content in
    let e = c.in_err-put_next.field-0.0 in
    passed_on c.from_residual.result (IsChangeRefusal old) e c.from_residual.ensures.1
    (refusal_on old mid (none_before old mid _ c.loop-at.invariant.0) e c.in_err-put_next.ensures.refused)

pub returns-in_err-put_next-clause-changes : goal.returns-in_err-put_next-clause-changes
returns-in_err-put_next-clause-changes g c = λ slots size_is.
    let view = g.D.Disk.view in
    let old = view c.args.disk.now in
    let mid = view c.loop-at.disk in
    let new = view c.put_next.new.disk in
    let e = c.in_err-put_next.field-0.0 in
    let first = c.loop-at.invariant.2 slots size_is in
    passed (λ x. Changes (slot_at slots) x old new) blames c.from_residual.result e c.from_residual.ensures.1
    (changes_on (slot_at slots) (ending_of (blames e)) old mid new Done first.faults_are first
    (c.in_err-put_next.ensures.changes slots (size_on old mid slots first.later size_is)))

pub loop-at-preserved : goal.loop-at-preserved
loop-at-preserved g c =
    let view = g.D.Disk.view in
    let old = view c.args.disk.now in
    let mid = view c.loop-at.disk in
    let new = view c.put_next.new.disk in
    let places = g.X.Index.places in
    let d : Entry = record { digest = []; offset = 0; length = 0; level = 0 } in (
      in_more c.args.kind c.args.slot c.args.entries.now c.loop-at.at d c.loop-at-test.true (places c.args.index.now old.content) (places c.loop-at.index mid.content)
          (places c.put_next.new.index new.content)
          c.loop-at.invariant.0 c.in_ok-put_next.ensures.ok,
      λ none. c.in_ok-put_next.ensures.unknown (c.loop-at.invariant.1 none),
      λ slots size_is.
          let first = c.loop-at.invariant.2 slots size_is in
          let all = changes_on (slot_at slots) Done old mid new Done first.faults_are first (c.in_ok-put_next.ensures.changes slots (size_on old mid slots first.later size_is)) in
          record { later = all.later; content_is = all.content_is; leaves = all.leaves; faults_are = all.faults_are },
      c.in_ok-put_next.ensures.served,
    )
