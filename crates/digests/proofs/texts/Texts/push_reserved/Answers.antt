use Rattle.std.proofs.Common.{◌≤◌, ◌+◌, ◌≡◌, ap, sym, ◌∙◌, ◌++◌, ◌∷◌, [], length, subst, sum_by, arith, map, vec_capacity}
use Rattle.digests.specs.declared.texts.Span.{Span}
use Rattle.digests.specs.Texts.{Texts, text_in}
use Rattle.digests.proofs.Adding.{spans_added, texts_added, texts_long}
use Rattle.digests.proofs.texts.Texts.push_reserved.Goals as goal
use Rattle.digests.proofs.texts.Texts.push_reserved.Goals.{After-push_reserved}

pub unwrap-requires : goal.unwrap-requires
unwrap-requires c =
    let own = c.self.inside in
    let room : sum_by length (map (text_in own.bytes.items) own.spans.items) + length c.args.text.now ≤ vec_capacity own.bytes =
    subst (λ (t : Texts). sum_by length t.all + length c.args.text.now ≤ t.room) (sym c.self.view_is) c.requires.room in
    let long = texts_long own.bytes.items own.spans.items c.self.invariant.within in
    c.extend_from_slice.ensures.succeeds (omega (arith, room, long, c.self.invariant.long, own.bytes.ok.0))

abbrev new_span : (c : After-push_reserved) → Span
new_span c = record { from = c.len-from.result; count = length c.args.text.now }

is_new : (c : After-push_reserved) → new_span c ≡ record { from = length c.self.inside.bytes.items; count = length c.args.text.now }
is_new c = ap (λ n. record { from = n; count = length c.args.text.now }) (c.len-from.ensures ∙ c.self.inside.bytes.ok.0)

pub invariant_of-self : goal.invariant_of-self
invariant_of-self c =
    let own = c.self.inside in
    let added = spans_added own.bytes.items c.args.text.now own.spans.items (new_span c) c.self.invariant (is_new c) in
    rw (c.extend_from_slice.ensures.items, c.push_reserved.ensures.items, c.unwrap.ensures) added

pub returns-clause-all : goal.returns-clause-all
returns-clause-all c =
    let own = c.self.inside in
    let added = texts_added own.bytes.items c.args.text.now own.spans.items (new_span c) c.self.invariant (is_new c) in
    rw (c.extend_from_slice.ensures.items, c.push_reserved.ensures.items, c.unwrap.ensures) (added ∙ ap (λ (t : Texts). t.all ++ c.args.text.now ∷ []) c.self.view_is)
