use Rattle.std.proofs.Common.{[], Err, ap}
use Rattle.base_model.proofs.Outcome.{passed_on}
use Rattle.dd_disk.specs.Ending.{Done, ending_of}
use Rattle.dd_disk.proofs.Moves.{passed}
use Rattle.disk_format.specs.Layout.{slot_at}
use Rattle.segment_index.specs.Changes.{Changes}
use Rattle.store_state.specs.Refused.{blames}
use Rattle.store_state.proofs.Changed.{changes_on, lifted, size_on}
use Rattle.store_state.proofs.Indexed.{none_before}
use Rattle.copy_forward.specs.Entries.{IsRemoveRefusal}
use Rattle.copy_forward.proofs.Removed.{one_out, remove_on, removing}
use Rattle.copy_forward.proofs.entries.remove_keys.Goals as goal

pub returns-in_err-remove_key-clause-refused : goal.returns-in_err-remove_key-clause-refused
returns-in_err-remove_key-clause-refused g c =
    let view = g.D.Disk.view in
    let places = g.X.Index.places in
    let old = places c.args.index.now (view c.args.disk.now).content in
    let mid = places c.loop-key.index (view c.loop-key.disk).content in
    let e = c.in_err-remove_key.field-0.0 in
    passed_on c.from_residual.result (IsRemoveRefusal old) e c.from_residual.ensures.1
    (remove_on old mid (none_before old mid _ c.loop-key.invariant.0) e
    (removing mid e (λ none. c.in_err-remove_key.ensures.no_memory (ap Err none)) c.in_err-remove_key.ensures.refused))

pub returns-in_err-remove_key-clause-changes : goal.returns-in_err-remove_key-clause-changes
returns-in_err-remove_key-clause-changes g c = λ slots size_is.
    let view = g.D.Disk.view in
    let old = view c.args.disk.now in
    let mid = view c.loop-key.disk in
    let new = view c.remove_key.new.disk in
    let e = c.in_err-remove_key.field-0.0 in
    let first = c.loop-key.invariant.2 slots size_is in
    let second = lifted (g.X.Index.owned_from c.loop-key.index) (g.X.Index.serves c.loop-key.index) (g.met.X.Index.owns_no_slot c.loop-key.index) (ending_of (blames e))
    mid new c.loop-key.invariant.3 c.in_err-remove_key.ensures.changes slots (size_on old mid slots first.later size_is) in
    passed (λ x. Changes (slot_at slots) x old new) blames c.from_residual.result e c.from_residual.ensures.1
    (changes_on (slot_at slots) (ending_of (blames e)) old mid new Done first.faults_are first second)

pub loop-key-preserved : goal.loop-key-preserved
loop-key-preserved g c =
    let view = g.D.Disk.view in
    let old = view c.args.disk.now in
    let mid = view c.loop-key.disk in
    let new = view c.remove_key.new.disk in
    let places = g.X.Index.places in (
      one_out c.args.keys.now c.loop-key.key-index [] (places c.args.index.now old.content) (places c.loop-key.index mid.content)
          (places c.remove_key.new.index new.content) c.loop-key-test.true
          c.loop-key.invariant.0 c.in_ok-remove_key.ensures.ok,
      λ none. c.in_ok-remove_key.ensures.unknown (c.loop-key.invariant.1 none),
      λ slots size_is.
          let first = c.loop-key.invariant.2 slots size_is in
          let second = lifted (g.X.Index.owned_from c.loop-key.index) (g.X.Index.serves c.loop-key.index) (g.met.X.Index.owns_no_slot c.loop-key.index) Done
          mid new c.loop-key.invariant.3 c.in_ok-remove_key.ensures.changes slots (size_on old mid slots first.later size_is) in
          changes_on (slot_at slots) Done old mid new Done first.faults_are first second,
      c.in_ok-remove_key.ensures.served,
    )
