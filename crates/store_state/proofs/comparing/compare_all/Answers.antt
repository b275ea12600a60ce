use Rattle.std.proofs.Common.{◌≡◌, ℕ, ◌+◌, ◌<◌, List, [], ◌∷◌, ◌++◌, length, take, Some, None, refl, ap, sym, subst, ◌∙◌, add-one, arith}
use Rattle.std.specs.Prelude.{IfSome}
use Rattle.std.proofs.Math.Seq.{take-suc}
use Rattle.std.proofs.lemmas.List.{take_all}
use Rattle.base_model.proofs.Outcome.{passed_on}
use Rattle.container_meta.specs.Segments.{Segment, segment_at}
use Rattle.dd_disk.specs.Ending.{Done}
use Rattle.dd_disk.specs.Shows.{Shows}
use Rattle.dd_disk.proofs.Ended.{reads_none, reads_on}
use Rattle.segment_index.specs.Places.{IsPlace}
use Rattle.store_state.specs.Comparing.{FitSoFar, IsFirstUnlike, IsAllRefusal}
use Rattle.store_state.proofs.Changed.{on}
use Rattle.store_state.proofs.Compared.{found_by_key, fits_bytes, none_yet, more, of_all, held_all}
use Rattle.store_state.proofs.comparing.compare_all.Goals as goal

pub loop-i-init : goal.loop-i-init
loop-i-init g c =
    let v = g.D.Disk.view c.args.disk.now in (
      reads_none v,
      refl {a = g.X.Index.places c.args.index.now v.content},
      c.requires.serves,
      refl {a = length c.args.buf.now},
      c.kind-kind.ensures,
      none_yet v.size
          (g.X.Index.places c.args.index.now v.content) v c.args.filled.now.kind c.new-before.result.items c.new-before.ensures.items,
    )

pub returns-in_err-had-clause-refused : goal.returns-in_err-had-clause-refused
returns-in_err-had-clause-refused g c =
    let view = g.D.Disk.view in
    let old = view c.args.disk.now in
    let mid = view c.loop-i.disk in
    let new = view c.compare_one.new.disk in
    let known = g.X.Index.places c.args.index.now old.content in
    let mid_known = g.X.Index.places c.loop-i.index mid.content in
    let filled = c.args.filled.now in
    let inv = c.loop-i.invariant in
    let e = c.in_err-had.field-0.0 in
    passed_on c.from_residual.result (IsAllRefusal known (IsFirstUnlike old.size known (Shows old new) filled.kind filled.segments)) e c.from_residual.ensures.1
    (of_all (λ at why. (mid_known ≡ None) × Shows mid new (g.X.Index.breaks c.loop-i.index at why)) old.size mid.size known mid_known old mid new inv.0.only.later.size_is inv.1
    inv.0.only c.in_err-had.ensures.reads.only.later
    filled.kind c.kind-kind.result filled.segments c.loop-i.i (omega (arith, c.loop-i-test.true, c.len-i-end.ensures)) c.loop-i.before.items inv.5 inv.4
    c.digest_at-digest.result c.bytes_of.result.now c.digest_at-digest.ensures c.bytes_of.ensures (λ at why damage. on known mid_known None (sym inv.1) damage.0) e
    c.in_err-had.ensures.refused)

pub loop-i-preserved : goal.loop-i-preserved
loop-i-preserved g c =
    let view = g.D.Disk.view in
    let old = view c.args.disk.now in
    let mid = view c.loop-i.disk in
    let new = view c.compare_one.new.disk in
    let known = g.X.Index.places c.args.index.now old.content in
    let mid_known = g.X.Index.places c.loop-i.index mid.content in
    let filled = c.args.filled.now in
    let inv = c.loop-i.invariant in
    let one = c.in_ok-had.ensures in
    let i = c.loop-i.i in
    let s : Segment = segment_at filled.segments i in
    let d : Segment = record { level = 0; bytes = [] } in
    let within : i < length filled.segments = omega (arith, c.loop-i-test.true, c.len-i-end.ensures) in
    let is : take (i + 1) filled.segments ≡ take i filled.segments ++ s ∷ [] = ap (λ (n : ℕ). take n filled.segments) (add-one i) ∙ take-suc filled.segments i d within in
    let fits = fits_bytes mid new c.in_ok-had.had c.kind-kind.result filled.kind c.bytes_of.result.now s.bytes inv.4 c.bytes_of.ensures one.fit in
    let next = more old.size known old mid new filled.kind (take i filled.segments) (take (i + 1) filled.segments) s c.loop-i.before.items c.push.new.self.items c.in_ok-had.had is
    c.in_ok-push.ensures.items inv.0.only one.reads.only.later inv.5
    (subst (λ (n : ℕ). IfSome c.in_ok-had.had (IsPlace n)) inv.0.only.later.size_is one.had.0)
    (λ m known_is. found_by_key m c.in_ok-had.had c.kind-kind.result filled.kind c.digest_at-digest.result s inv.4 c.digest_at-digest.ensures
    (one.had.1 m (on mid_known known (Some m) inv.1 known_is)))
    fits in (
      reads_on Done old mid new inv.0 one.reads,
      on (g.X.Index.places c.compare_one.new.index new.content) mid_known known one.map inv.1,
      one.served,
      on (length c.compare_one.new.buf) (length c.loop-i.buf) (length c.args.buf.now) one.size inv.3,
      inv.4,
      next,
    )

pub returns-clause-held : goal.returns-clause-held
returns-clause-held g c =
    let view = g.D.Disk.view in
    let old = view c.args.disk.now in
    let now = view c.loop-i.disk in
    let known = g.X.Index.places c.args.index.now old.content in
    let filled = c.args.filled.now in
    let hads = c.loop-i.before.items in
    let whole = take_all c.loop-i.i filled.segments (omega (arith, c.loop-i-test.false, c.len-i-end.ensures)) in
    held_all old.size known old now filled.kind filled.segments hads
    (subst (λ (l : List Segment). FitSoFar old.size known (Shows old now) filled.kind l hads) whole c.loop-i.invariant.5)
