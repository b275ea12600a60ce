use Rattle.std.proofs.Common.{◌≡◌, ◌≤◌, ◌-◌, true, false, ◌++◌, length, take, refl, sym, ap, ◌∙◌, subst, arith}
use Rattle.std.specs.Prelude.{vec_capacity}
use Rattle.std.proofs.lemmas.Bool.{both_ways}
use Rattle.std.proofs.lemmas.List.{length-take-le}
use Rattle.disk_format.specs.declared.numbers.TheConstants.{MOST_SEGMENT}
use Rattle.segmenter.specs.Cutting.{Hand, IsHeld, IsCut, IsFirstSegment, IsOne}
use Rattle.segmenter.proofs.CutLemmas.{uncut_after, rolled_after, held_from_cut, first_from_cut, ends_from_cut, piece_at_most, taken_bytes, taken_at_most, taken_all, taken_some}
use Rattle.segmenter.proofs.SegmentLemmas.{segments_of-rest}
use Rattle.segmenter.proofs.RunLemmas.{HasCut-push}
use Rattle.segmenter.proofs.cutting.Cutter.push.Goals as goal
use Rattle.segmenter.proofs.cutting.Cutter.push.Goals.{After-deref, After-truncate}

-- what was held before, of a segment that isn't whole
held : (c : After-deref) → IsHeld c.self.inside.held.items (vec_capacity c.self.inside.held) c.self.inside.value false
held c = subst (λ whole. IsHeld c.self.inside.held.items (vec_capacity c.self.inside.held) c.self.inside.value whole) c.if-self.false c.self.invariant

seen_is : (c : After-deref) → c.len-seen.result ≡ length c.self.inside.held.items
seen_is c = c.len-seen.ensures ∙ c.self.inside.held.ok.0

-- what is held now: this, and as much of the piece as there is room for
filled : (c : After-deref) → c.deref.result.now ≡ c.self.inside.held.items ++ take (MOST_SEGMENT - length c.self.inside.held.items) c.args.bytes.now
filled c =
    c.deref.ensures.value ∙ c.fill.ensures.bytes
    ∙ ap (λ n. c.self.inside.held.items ++ take (MOST_SEGMENT - n) c.args.bytes.now) c.self.inside.held.ok.0

pub first_cut-cut-requires-clause-uncut : goal.first_cut-cut-requires-clause-uncut
first_cut-cut-requires-clause-uncut c =
    rw (seen_is c) (uncut_after c.self.inside.held.items _ c.deref.result.now (vec_capacity c.self.inside.held) c.self.inside.value (held c) (filled c))

pub first_cut-cut-requires-clause-rolled : goal.first_cut-cut-requires-clause-rolled
first_cut-cut-requires-clause-rolled c =
    rw (seen_is c) (rolled_after c.self.inside.held.items _ c.deref.result.now (vec_capacity c.self.inside.held) c.self.inside.value (held c) (filled c))

-- the cut of what is held now
cut : (c : After-truncate) → IsCut c.deref.result.now (length c.self.inside.held.items) c.first_cut-cut.result.end c.first_cut-cut.result.value c.first_cut-cut.result.whole
cut c = subst (λ n. IsCut c.deref.result.now n c.first_cut-cut.result.end c.first_cut-cut.result.value c.first_cut-cut.result.whole)
    (c.len-seen.ensures ∙ c.self.inside.held.ok.0) c.first_cut-cut.ensures

kept : (c : After-truncate) → c.truncate.new.self.items ≡ take c.first_cut-cut.result.end c.deref.result.now
kept c = c.truncate.ensures.items ∙ ap (take c.first_cut-cut.result.end) (sym c.deref.ensures.value)

ends : (c : After-truncate) → c.first_cut-cut.result.whole ≡ true → IsFirstSegment c.truncate.new.self.items
ends c whole = rw (kept c) (first_from_cut c.deref.result.now _ c.first_cut-cut.result.end c.first_cut-cut.result.value c.first_cut-cut.result.whole (cut c) whole)

joined : (c : After-truncate) → IsHeld c.self.inside.held.items (vec_capacity c.self.inside.held) c.self.inside.value false →
    c.deref.result.now ≡ c.self.inside.held.items ++ take (MOST_SEGMENT - length c.self.inside.held.items) c.args.bytes.now →
    c.truncate.new.self.items ≡ c.args.self.now.bytes ++ take (c.first_cut-cut.result.end - c.len-seen.result) c.args.bytes.now
joined c h f =
    kept c
    ∙ taken_bytes c.self.inside.held.items c.args.bytes.now c.deref.result.now (vec_capacity c.self.inside.held) c.self.inside.value
    c.first_cut-cut.result.end c.first_cut-cut.result.value c.first_cut-cut.result.whole h f (cut c)
    ∙ ap (λ n. c.self.inside.held.items ++ take (c.first_cut-cut.result.end - n) c.args.bytes.now) (sym (c.len-seen.ensures ∙ c.self.inside.held.ok.0))
    ∙ ap (λ (hand : Hand). hand.bytes ++ take (c.first_cut-cut.result.end - c.len-seen.result) c.args.bytes.now) c.self.view_is

still_held : (c : After-truncate) → IsHeld c.self.inside.held.items (vec_capacity c.self.inside.held) c.self.inside.value false →
    c.deref.result.now ≡ c.self.inside.held.items ++ take (MOST_SEGMENT - length c.self.inside.held.items) c.args.bytes.now →
    IsHeld c.truncate.new.self.items (vec_capacity c.truncate.new.self) c.first_cut-cut.result.value c.first_cut-cut.result.whole
still_held c h f =
    let at_most : length c.deref.result.now ≤ MOST_SEGMENT =
    piece_at_most c.self.inside.held.items c.args.bytes.now c.deref.result.now (vec_capacity c.self.inside.held) c.self.inside.value
    c.first_cut-cut.result.end c.first_cut-cut.result.value c.first_cut-cut.result.whole h f (cut c) in
    let room : MOST_SEGMENT ≤ vec_capacity c.truncate.new.self = omega (arith, c.truncate.ensures.capacity, c.fill.ensures.capacity) in
    subst (λ bytes. IsHeld bytes (vec_capacity c.truncate.new.self) c.first_cut-cut.result.value c.first_cut-cut.result.whole)
    (sym (kept c))
    (held_from_cut c.deref.result.now _ c.first_cut-cut.result.end c.first_cut-cut.result.value c.first_cut-cut.result.whole (cut c)
    (vec_capacity c.truncate.new.self) room at_most)

pub invariant_of-self : goal.invariant_of-self
invariant_of-self c =
    let d = (goal.at.invariant_of-self c).After-deref in
    still_held (goal.at.invariant_of-self c).After-truncate (held d) (filled d)

-- what was whole before stays
pub returns-then-self-clause-one : goal.returns-then-self-clause-one
returns-then-self-clause-one c =
    subst (λ (hand : Hand). IsOne hand.bytes) c.self.view_is (record {
      one = λ there. segments_of-rest c.self.inside.held.items there c.self.invariant.uncut;
      at_most = c.self.invariant.at_most;
    })

pub returns-clause-one : goal.returns-clause-one
returns-clause-one c =
    let d = (goal.at.returns-clause-one c).After-deref in
    let now = still_held (goal.at.returns-clause-one c).After-truncate (held d) (filled d) in
    record { one = λ there. segments_of-rest c.truncate.new.self.items there now.uncut; at_most = now.at_most }

pub returns-clause-takes : goal.returns-clause-takes
returns-clause-takes c =
    let d = (goal.at.returns-clause-takes c).After-deref in
    let e = (goal.at.returns-clause-takes c).After-truncate in
    let going : c.args.self.now.whole ≡ false = ap (λ (hand : Hand). hand.whole) (sym c.self.view_is) ∙ c.if-self.false in
    record {
      within = rw (seen_is d)
          (taken_at_most c.self.inside.held.items c.args.bytes.now c.deref.result.now (vec_capacity c.self.inside.held) c.self.inside.value
          c.first_cut-cut.result.end c.first_cut-cut.result.value c.first_cut-cut.result.whole (held d) (filled d) (cut e));
      bytes = joined e (held d) (filled d);
      whole = refl;
      all = λ goes_on. rw (seen_is d)
          (taken_all c.self.inside.held.items c.args.bytes.now c.deref.result.now (vec_capacity c.self.inside.held) c.self.inside.value
          c.first_cut-cut.result.end c.first_cut-cut.result.value c.first_cut-cut.result.whole (held d) (filled d) (cut e) goes_on);
      some = λ _ more. rw (seen_is d)
          (taken_some c.self.inside.held.items c.args.bytes.now c.deref.result.now (vec_capacity c.self.inside.held) c.self.inside.value
          c.first_cut-cut.result.end c.first_cut-cut.result.value c.first_cut-cut.result.whole (held d) (filled d) (cut e)
          (uncut_after c.self.inside.held.items _ c.deref.result.now (vec_capacity c.self.inside.held) c.self.inside.value (held d) (filled d)) more);
      unchanged = λ whole. absurd (both_ways c.args.self.now.whole going whole);
    }

pub returns-clause-ends : goal.returns-clause-ends
returns-clause-ends c = λ _.
    let e = (goal.at.returns-clause-ends c).After-truncate in
    record {
      ends = rw (kept e) (ends_from_cut c.deref.result.now _ c.first_cut-cut.result.end c.first_cut-cut.result.value c.first_cut-cut.result.whole (cut e));
      first = ends e;
      at_least = λ whole.
          omega (arith, ap length (kept e), length-take-le c.first_cut-cut.result.end c.deref.result.now (cut e).within, ((cut e).ended whole).0);
    }

pub returns-clause-so_far : goal.returns-clause-so_far
returns-clause-so_far c = λ taken shown before.
    let d = (goal.at.returns-clause-so_far c).After-deref in
    let e = (goal.at.returns-clause-so_far c).After-truncate in
    HasCut-push taken _ shown c.args.self.now (record { bytes = c.truncate.new.self.items; whole = c.first_cut-cut.result.whole }) before
    (joined e (held d) (filled d)) (ends e)
