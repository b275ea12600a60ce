use Rattle.std.proofs.Common.{◌≡◌, ◌<◌, ◌≤◌, inl, inr, sym, ap, ◌∙◌, arith}
use Rattle.std.proofs.lemmas.Bool.{cases_lt}
use Rattle.segmenter.specs.Segments.{window_value, window_at, is_hit}
use Rattle.segmenter.proofs.Windows.{kept_at, length-kept_at, window_at-first, window_at-next}
use Rattle.segmenter.proofs.rolling.first_hit.Goals as goal

-- The window that ends here misses, and the next is this one without its first byte and with one more at its end.
pub loop-end-preserved : goal.loop-end-preserved
loop-end-preserved c =
    let inside : c.loop-end.end < _ = c.loop-end-test.true in
    let long : 48 ≤ c.loop-end.end = omega (arith, c.requires.long) in
    record {
      value =
          c.rolled-value.ensures (kept_at c.args.bytes.now c.loop-end.end)
          (length-kept_at c.args.bytes.now c.loop-end.end long (omega arith))
          (c.loop-end.invariant.value ∙ ap window_value (window_at-first c.args.bytes.now c.loop-end.end long (omega arith)))
          ∙ ap window_value (sym (window_at-next c.args.bytes.now c.loop-end.end long inside));
      misses = λ k low high. elim (cases_lt k c.loop-end.end) [
        | inl before ↦ c.loop-end.invariant.misses k low before
        | inr after ↦
            let here : k ≡ c.loop-end.end = omega arith in
            ap (λ n. is_hit (window_at c.args.bytes.now n)) here
            ∙ sym (c.hits.ensures (window_at c.args.bytes.now c.loop-end.end) c.loop-end.invariant.value)
            ∙ c.if-hits.false
      ];
    }
