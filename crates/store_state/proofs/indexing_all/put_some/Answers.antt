use Rattle.std.proofs.Common.{◌∙◌, ℕ, List, [], Some, Err, get_or, ap, subst, sym}
use Rattle.std.specs.FinMap as finite
use Rattle.base_model.proofs.Outcome.{passed_on}
use Rattle.container_meta.specs.declared.entry.Entry.{Entry}
use Rattle.container_meta.specs.declared.place.Place.{Place}
use Rattle.dd_disk.specs.Ending.{Done, ending_of}
use Rattle.dd_disk.proofs.Moves.{passed}
use Rattle.disk_format.specs.Layout.{slot_at}
use Rattle.refusals.specs.declared.refusal.Refusal.TheVariants.{Memory}
use Rattle.segment_index.specs.Changes.{Changes}
use Rattle.segment_index.specs.Places.{IsPlace}
use Rattle.store_model.specs.Indexing.{entry_key}
use Rattle.store_model.specs.Slots.{place_of}
use Rattle.store_state.specs.Indexing.{IsChangeRefusal}
use Rattle.store_state.specs.Refused.{blames}
use Rattle.store_state.proofs.Changed.{changes_on, lifted, size_on}
use Rattle.store_state.proofs.Indexed.{err_is, none_before, refusal_on}
use Rattle.store_state.proofs.PutAll.{put_first}
use Rattle.store_state.proofs.PutBack.{all_got, in_more, size_in, with_one}
use Rattle.store_state.proofs.indexing_all.put_some.Goals as goal

pub put-requires-clause-place : goal.put-requires-clause-place
put-requires-clause-place g c =
    let view = g.D.Disk.view in
    let d : Entry = record { digest = []; offset = 0; length = 0; level = 0 } in
    subst (λ (n : ℕ). IsPlace n c.place_in.result) (sym (size_in (view c.args.disk.now) (view c.loop-at.disk) c.requires.slots c.loop-at.invariant.2))
    (subst (IsPlace (view c.args.disk.now).size) (sym c.place_in.ensures)
    (all_got (λ (e : Entry). IsPlace (view c.args.disk.now).size (place_of c.args.slot e)) d c.args.entries.now c.loop-at.at c.loop-at-test.true c.requires.places))

pub returns-in_err-put-clause-memory : goal.returns-in_err-put-clause-memory
returns-in_err-put-clause-memory g c = λ ran_out.
    let view = g.D.Disk.view in
    let places = g.X.Index.places in
    let e = c.in_err-put.field-0.0 in
    let same = c.in_err-put.ensures.memory (ap Err (err_is c.from_residual.result e Memory c.from_residual.ensures.1 ran_out)) in (
      put_first c.args.kind c.args.slot c.args.entries.now c.loop-at.at (places c.args.index.now (view c.args.disk.now).content)
          (places c.loop-at.index (view c.loop-at.disk).content) (places c.put.new.index (view c.put.new.disk).content) c.loop-at.invariant.0 same,
      λ none. same ∙ c.loop-at.invariant.1 none,
    )

pub returns-in_err-put-clause-refused : goal.returns-in_err-put-clause-refused
returns-in_err-put-clause-refused g c =
    let view = g.D.Disk.view in
    let places = g.X.Index.places in
    let old = places c.args.index.now (view c.args.disk.now).content in
    let mid = places c.loop-at.index (view c.loop-at.disk).content in
    let e = c.in_err-put.field-0.0 in
    passed_on c.from_residual.result (IsChangeRefusal old) e c.from_residual.ensures.1
    (refusal_on old mid (none_before old mid _ c.loop-at.invariant.0) e c.in_err-put.ensures.refused)

pub returns-in_err-put-clause-changes : goal.returns-in_err-put-clause-changes
returns-in_err-put-clause-changes g c = λ slots size_is.
    let view = g.D.Disk.view in
    let old = view c.args.disk.now in
    let mid = view c.loop-at.disk in
    let new = view c.put.new.disk in
    let e = c.in_err-put.field-0.0 in
    let first = c.loop-at.invariant.2 slots size_is in
    let second = lifted (g.X.Index.owned_from c.loop-at.index) (g.X.Index.serves c.loop-at.index) (g.met.X.Index.owns_no_slot c.loop-at.index) (ending_of (blames e))
    mid new c.loop-at.invariant.3 c.in_err-put.ensures.changes slots (size_on old mid slots first.later size_is) in
    passed (λ x. Changes (slot_at slots) x old new) blames c.from_residual.result e c.from_residual.ensures.1
    (changes_on (slot_at slots) (ending_of (blames e)) old mid new Done first.faults_are first second)

pub loop-at-preserved : goal.loop-at-preserved
loop-at-preserved g c =
    let view = g.D.Disk.view in
    let old = view c.args.disk.now in
    let mid = view c.loop-at.disk in
    let new = view c.put.new.disk in
    let places = g.X.Index.places in
    let at : ℕ = c.loop-at.at in
    let es = c.args.entries.now in
    let d : Entry = record { digest = []; offset = 0; length = 0; level = 0 } in
    let x : Entry = get_or es at d in (
      in_more c.args.kind c.args.slot es at d c.loop-at-test.true (places c.args.index.now old.content) (places c.loop-at.index mid.content)
          (places c.put.new.index new.content) c.loop-at.invariant.0
          (λ m is. c.in_ok-put.ensures.ok m is ∙ ap (λ (k : List ℕ). Some (finite.insert m k c.place_in.result)) c.key_in.ensures.key
          ∙ ap (λ (p : Place). Some (finite.insert m (entry_key c.args.kind x) p)) c.place_in.ensures
          ∙ ap Some (sym (with_one c.args.kind c.args.slot es at d c.loop-at-test.true m))),
      λ none. c.in_ok-put.ensures.unknown (c.loop-at.invariant.1 none),
      λ slots size_is.
          let first = c.loop-at.invariant.2 slots size_is in
          let second = lifted (g.X.Index.owned_from c.loop-at.index) (g.X.Index.serves c.loop-at.index) (g.met.X.Index.owns_no_slot c.loop-at.index) Done
          mid new c.loop-at.invariant.3 c.in_ok-put.ensures.changes slots (size_on old mid slots first.later size_is) in
          changes_on (slot_at slots) Done old mid new Done first.faults_are first second,
      c.in_ok-put.ensures.served,
    )
