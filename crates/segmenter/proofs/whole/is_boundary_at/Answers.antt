use Rattle.std.proofs.Common.{◌≡◌, true, false, nat_eq, sym, ap, ◌∙◌, refl, arith}
use Rattle.std.proofs.lemmas.Bool.{eq-eqb, ne_eqb}
use Rattle.disk_format.specs.declared.numbers.TheConstants.{MOST_SEGMENT}
use Rattle.segmenter.specs.Segments.{is_boundary, window_value, window_at}
use Rattle.segmenter.proofs.CutLemmas.{window_at-range}
use Rattle.segmenter.proofs.whole.is_boundary_at.Goals as goal

-- the greatest length
pub returns-then-n : goal.returns-then-n
unfolding is_boundary
returns-then-n c =
    let full : nat_eq c.args.n MOST_SEGMENT ≡ true = eq-eqb c.args.n MOST_SEGMENT c.if-n.true in rw full refl

-- another length: it is up to the window
pub returns-else-n : goal.returns-else-n
unfolding is_boundary
returns-else-n c =
    let other : nat_eq c.args.n MOST_SEGMENT ≡ false = ne_eqb c.args.n MOST_SEGMENT c.if-n.false in
    rw other
    (c.hits.ensures (window_at c.args.bytes.now c.args.n)
    (c.value_of.ensures ∙ ap window_value (sym (window_at-range c.args.bytes.now c.args.n (omega arith)))))
