use Rattle.std.proofs.Common.{◌≡◌, ℕ, ◌<◌, ◌≤◌, false}
use Rattle.segmenter.specs.Segments.{window_value, window_at, is_hit}
use Rattle.segmenter.proofs.rolling.first_hit.Given as goal

abbrev pub invariant-loop-end : goal.invariant-loop-end
invariant-loop-end l = record {
  value : l.value ≡ window_value (window_at l.bytes l.end);
  misses : (k : ℕ) → l.from ≤ k → k < l.end → is_hit (window_at l.bytes k) ≡ false;
}
