use Rattle.ingest_session.proofs.Prelude.{ℕ, ◌-◌, ◌*◌, ◌⊎◌, false, inl, inr, true, ◌+◌, ◌≡◌, ◌<◌, ◌≤◌, ◌∙◌, [], ap, arith, length, refl, subst, sym}
use Rattle.std.proofs.Common.{get_or, ◌%◌, ◌/◌}
use Rattle.std.proofs.lemmas.Bool.{both_ways, cases_lt}
use Rattle.std.proofs.lemmas.List.{get_or-drop}
use Rattle.digests.specs.Texts.{Texts}
use Rattle.ingest_session.specs.declared.chunks.Chunks.TheInside.{Inside}
use Rattle.ingest_session.specs.declared.chunks.TheConstants.{CHUNK}
use Rattle.ingest_session.specs.Buffers.{Waiting, all_in}
use Rattle.ingest_session.proofs.Buffered.{Stand, waiting, all_long, nth_full, nth_last, waiting_long}
use Rattle.ingest_session.proofs.chunks.Chunks.get.Goals as goal
use Rattle.ingest_session.proofs.chunks.Chunks.get.Goals.{After-len}

is_there : (i : Inside) (now : Waiting) (n : ℕ) → Stand i → waiting i ≡ now → n < length now.segments → n < i.count
is_there i now n are is within =
    let long = waiting_long i.gone i.count (all_in i.full.items i.last) are.count_is in
    let here = subst (λ (w : Waiting). n < length w.segments) (sym is) within in
    omega (arith, long, here)

-- the one that waits so far behind the first is so far behind those that are gone
behind_gone : (i : Inside) (now : Waiting) (n : ℕ) → waiting i ≡ now → get_or (all_in i.full.items i.last) (i.gone + n) [] ≡ get_or now.segments n []
behind_gone i now n is =
    sym (get_or-drop i.gone (all_in i.full.items i.last) n []) ∙ ap (λ (w : Waiting). get_or w.segments n []) is

outside : (a b : ℕ) → (a < b → false ≡ true) → b ≤ a
outside a b none = by_case (cases_lt a b)
  where
    by_case : (a < b) ⊎ (b ≤ a) → b ≤ a
    by_case (inl within) = absurd (both_ways true (sym (none within)) refl)
    by_case (inr past) = past

past : (c : After-len) → length c.self.inside.full.items ≤ (c.self.inside.gone + c.args.n) / CHUNK
past c = outside ((c.self.inside.gone + c.args.n) / CHUNK) (length c.self.inside.full.items) (λ within. c.in-None.ensures.variant.1 (omega (arith, within, c.self.inside.full.ok)))

pub overflow_add-at : goal.overflow_add-at
overflow_add-at c =
    let inv = c.self.invariant in
    omega (arith, is_there c.self.inside c.args.self.now c.args.n inv c.self.view_is c.requires, inv.begun, inv.at_most, inv.limit)

pub overflow_mul-len : goal.overflow_mul-len
overflow_mul-len c =
    let inv = c.self.invariant in
    omega (arith, c.len.ensures, c.self.inside.full.ok, inv.all, inv.limit)

pub get-requires-in-None : goal.get-requires-in-None
get-requires-in-None c =
    let i = c.self.inside in
    let there = is_there i c.args.self.now c.args.n c.self.invariant c.self.view_is c.requires in
    omega (
      arith,
      there,
      all_long i.full.items i.last c.self.invariant.each,
      c.self.invariant.count_is,
      c.len.ensures,
      c.self.inside.full.ok,
      past c,
    )

pub returns-in-Some-clause-value : goal.returns-in-Some-clause-value
returns-in-Some-clause-value c =
    let i = c.self.inside in
    c.get-in-Some.ensures ∙ ap (λ (t : Texts). get_or t.all ((i.gone + c.args.n) % CHUNK) []) c.in-Some.ensures.lookup
    ∙ sym (nth_full i.full.items i.last (i.gone + c.args.n) c.in-Some.chunk.now c.self.invariant.each (omega (arith, c.in-Some.ensures.variant.0 refl, i.full.ok)))
    ∙ behind_gone i c.args.self.now c.args.n c.self.view_is

pub returns-in-None-clause-value : goal.returns-in-None-clause-value
returns-in-None-clause-value c =
    let i = c.self.inside in
    let here = past (goal.at.returns-in-None-clause-value c).After-len in
    let count : c.len.result ≡ length i.full.items = omega (arith, c.len.ensures, i.full.ok) in
    c.get-in-None.ensures ∙ ap (λ k. get_or i.last.all (i.gone + c.args.n - CHUNK * k) []) count
    ∙ sym (nth_last i.full.items i.last (i.gone + c.args.n) c.self.invariant.each (omega (arith, here)))
    ∙ behind_gone i c.args.self.now c.args.n c.self.view_is
