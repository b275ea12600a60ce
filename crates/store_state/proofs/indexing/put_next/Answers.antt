use Rattle.std.proofs.Common.{None, Some, refl, subst, sym}
use Rattle.dd_disk.specs.Ending.{Done, Refused, ending, ending_of}
use Rattle.dd_disk.proofs.Moves.{passed}
use Rattle.disk_format.specs.Layout.{slot_at}
use Rattle.segment_index.specs.Changes.{Changes}
use Rattle.store_state.specs.Refused.{blames}
use Rattle.store_state.proofs.Changed.{changes_on, lifted, on, size_on}
use Rattle.store_state.proofs.indexing.put_next.Goals as goal

pub returns-in_err-take_back-clause-changes : goal.returns-in_err-take_back-clause-changes
returns-in_err-take_back-clause-changes g c = λ slots size_is.
    let view = g.D.Disk.view in
    let old = view c.args.disk.now in
    let mid = view c.put-ended.new.disk in
    let new = view c.take_back.new.disk in
    let e = c.in_err-take_back.field-0.0 in
    let put = subst (λ r. Changes (g.X.Index.owned_from c.args.index.now old.size) (ending blames r) old mid) (c.if-ran_out.ensures.yes refl) c.put-ended.ensures.changes in
    let first = lifted (g.X.Index.owned_from c.args.index.now) (g.X.Index.serves c.args.index.now) (g.met.X.Index.owns_no_slot c.args.index.now) Refused
    old mid c.requires.serves put slots size_is in
    passed (λ x. Changes (slot_at slots) x old new) blames c.from_residual.result e c.from_residual.ensures.1
    (changes_on (slot_at slots) (ending_of (blames e)) old mid new Refused first.faults_are first
    (c.in_err-take_back.ensures.changes slots (size_on old mid slots first.later size_is)))

pub returns-in_ok-take_back-clause-memory : goal.returns-in_ok-take_back-clause-memory
returns-in_ok-take_back-clause-memory g c = λ ran_out.
    let same = c.put-ended.ensures.memory ran_out in
    (λ before after put is. c.in_ok-take_back.ensures.ok before after put (on _ _ (Some after) same is), λ none. c.in_ok-take_back.ensures.unknown (on _ _ None same none))

pub returns-in_ok-take_back-clause-changes : goal.returns-in_ok-take_back-clause-changes
returns-in_ok-take_back-clause-changes g c = λ slots size_is.
    let view = g.D.Disk.view in
    let old = view c.args.disk.now in
    let mid = view c.put-ended.new.disk in
    let new = view c.take_back.new.disk in
    let ended = c.if-ran_out.ensures.yes refl in
    let put = subst (λ r. Changes (g.X.Index.owned_from c.args.index.now old.size) (ending blames r) old mid) ended c.put-ended.ensures.changes in
    let first = lifted (g.X.Index.owned_from c.args.index.now) (g.X.Index.serves c.args.index.now) (g.met.X.Index.owns_no_slot c.args.index.now) Refused
    old mid c.requires.serves put slots size_is in
    let all = changes_on (slot_at slots) Done old mid new Refused first.faults_are first (c.in_ok-take_back.ensures.changes slots (size_on old mid slots first.later size_is)) in
    subst (λ r. Changes (slot_at slots) (ending blames r) old new) (sym ended)
    (record { later = all.later; content_is = all.content_is; leaves = all.leaves; faults_are = all.faults_are })

pub returns-else-ran_out-clause-changes : goal.returns-else-ran_out-clause-changes
returns-else-ran_out-clause-changes g c = λ slots size_is.
    let view = g.D.Disk.view in
    lifted (g.X.Index.owned_from c.args.index.now) (g.X.Index.serves c.args.index.now) (g.met.X.Index.owns_no_slot c.args.index.now) (ending blames c.put-ended.result)
    (view c.args.disk.now) (view c.put-ended.new.disk) c.requires.serves c.put-ended.ensures.changes slots size_is
