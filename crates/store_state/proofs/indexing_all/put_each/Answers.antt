use Rattle.std.proofs.Common.{◌+◌, ◌<◌, ◌∙◌, ℕ, Some, Err, get_or, length, take, ap, sym, arith}
use Rattle.std.proofs.lemmas.Option.{slice_get-get_or}
use Rattle.base_model.proofs.Outcome.{passed_on}
use Rattle.dd_disk.specs.Ending.{Done, ending_of}
use Rattle.dd_disk.proofs.Moves.{passed}
use Rattle.disk_format.specs.Layout.{slot_at}
use Rattle.refusals.specs.declared.refusal.Refusal.TheVariants.{Memory}
use Rattle.segment_index.specs.Changes.{Changes}
use Rattle.store_state.specs.Indexing.{IsChangeRefusal}
use Rattle.store_state.specs.IndexingAll.{with_contents}
use Rattle.store_state.specs.Refused.{blames}
use Rattle.store_state.proofs.Changed.{changes_on, size_on}
use Rattle.store_state.proofs.Indexed.{err_is, none_before, refusal_on}
use Rattle.store_state.proofs.PutAll.{as_at_first, listed_had, listed_on, one_there, over_then, with_next_contents}
use Rattle.store_state.proofs.indexing_all.put_each.Goals as goal

pub put_at-requires-clause-slot : goal.put_at-requires-clause-slot
put_at-requires-clause-slot g c =
    let slots = c.args.slots.now in
    let i : ℕ = c.loop-i.i in
    let within : i < length slots = omega (arith, c.loop-i-test.true) in
    omega (arith, c.requires.lie i (get_or slots i 0) (slice_get-get_or slots i 0 within), c.loop-i.invariant.2)

pub put_at-requires-clause-lie : goal.put_at-requires-clause-lie
put_at-requires-clause-lie g c =
    let view = g.D.Disk.view in
    let places = g.X.Index.places in
    let old = view c.args.disk.now in
    let mid = view c.loop-i.disk in
    let slots = c.args.slots.now in
    let filled = c.args.filled.now in
    let befores = c.args.befores.now in
    let i : ℕ = c.loop-i.i in
    let known = places c.args.index.now old.content in
    let mid_known = places c.loop-i.index mid.content in
    let inv = c.loop-i.invariant in
    listed_on old.size mid.size filled befores inv.2 (listed_had old.size known filled befores c.requires.had)

pub put_at-requires-clause-over : goal.put_at-requires-clause-over
put_at-requires-clause-over g c =
    let view = g.D.Disk.view in
    let places = g.X.Index.places in
    let old = view c.args.disk.now in
    let mid = view c.loop-i.disk in
    let slots = c.args.slots.now in
    let filled = c.args.filled.now in
    let befores = c.args.befores.now in
    let i : ℕ = c.loop-i.i in
    let known = places c.args.index.now old.content in
    let mid_known = places c.loop-i.index mid.content in
    let inv = c.loop-i.invariant in
    over_then filled befores known mid_known inv.1 old.size slots i c.requires.had inv.0

pub returns-in_err-put_at-clause-memory : goal.returns-in_err-put_at-clause-memory
returns-in_err-put_at-clause-memory g c = λ ran_out.
    let view = g.D.Disk.view in
    let places = g.X.Index.places in
    let old = view c.args.disk.now in
    let mid = view c.loop-i.disk in
    let slots = c.args.slots.now in
    let filled = c.args.filled.now in
    let befores = c.args.befores.now in
    let i : ℕ = c.loop-i.i in
    let known = places c.args.index.now old.content in
    let mid_known = places c.loop-i.index mid.content in
    let inv = c.loop-i.invariant in
    let e = c.in_err-put_at.field-0.0 in
    let back = c.in_err-put_at.ensures.memory (ap Err (err_is c.from_residual.result e Memory c.from_residual.ensures.1 ran_out)) in
    as_at_first filled befores known mid_known inv.1 old.size slots i c.requires.had inv.0 (places c.put_at.new.index (view c.put_at.new.disk).content) back.0 back.1

pub returns-in_err-put_at-clause-refused : goal.returns-in_err-put_at-clause-refused
returns-in_err-put_at-clause-refused g c =
    let view = g.D.Disk.view in
    let places = g.X.Index.places in
    let old = view c.args.disk.now in
    let mid = view c.loop-i.disk in
    let slots = c.args.slots.now in
    let filled = c.args.filled.now in
    let befores = c.args.befores.now in
    let i : ℕ = c.loop-i.i in
    let known = places c.args.index.now old.content in
    let mid_known = places c.loop-i.index mid.content in
    let inv = c.loop-i.invariant in
    let e = c.in_err-put_at.field-0.0 in
    passed_on c.from_residual.result (IsChangeRefusal known) e c.from_residual.ensures.1
    (refusal_on known mid_known (none_before known mid_known (with_contents (take i slots) (take i filled)) inv.0) e c.in_err-put_at.ensures.refused)

pub returns-in_err-put_at-clause-changes : goal.returns-in_err-put_at-clause-changes
returns-in_err-put_at-clause-changes g c = λ slots size_is.
    let view = g.D.Disk.view in
    let old = view c.args.disk.now in
    let mid = view c.loop-i.disk in
    let new = view c.put_at.new.disk in
    let e = c.in_err-put_at.field-0.0 in
    let first = c.loop-i.invariant.3 slots size_is in
    passed (λ z. Changes (slot_at slots) z old new) blames c.from_residual.result e c.from_residual.ensures.1
    (changes_on (slot_at slots) (ending_of (blames e)) old mid new Done first.faults_are first
    (c.in_err-put_at.ensures.changes slots (size_on old mid slots first.later size_is)))

pub loop-i-preserved : goal.loop-i-preserved
loop-i-preserved g c =
    let view = g.D.Disk.view in
    let places = g.X.Index.places in
    let old = view c.args.disk.now in
    let mid = view c.loop-i.disk in
    let slots = c.args.slots.now in
    let filled = c.args.filled.now in
    let befores = c.args.befores.now in
    let i : ℕ = c.loop-i.i in
    let known = places c.args.index.now old.content in
    let mid_known = places c.loop-i.index mid.content in
    let inv = c.loop-i.invariant in
    let new = view c.put_at.new.disk in
    let within : i < length slots = omega (arith, c.loop-i-test.true) in
    let one = one_there filled i (omega (arith, within, c.requires.many.0)) in
    let on_mid = c.in_ok-put_at.ensures.changes c.requires.slots.slots (inv.2 ∙ c.requires.slots.size_is) in (
      λ m is. c.in_ok-put_at.ensures.ok one.0 one.1 (with_contents (take i slots) (take i filled) m) (inv.0 m is)
          ∙ ap Some (sym (with_next_contents slots filled i (i + 1) (get_or slots i 0) one.0 m (slice_get-get_or slots i 0 within) one.1 (omega arith))),
      λ none. c.in_ok-put_at.ensures.unknown (inv.1 none),
      on_mid.later.size_is ∙ inv.2,
      λ at size_is.
          let first = inv.3 at size_is in
          changes_on (slot_at at) Done old mid new Done first.faults_are first (c.in_ok-put_at.ensures.changes at (size_on old mid at first.later size_is)),
      c.in_ok-put_at.ensures.served,
    )
