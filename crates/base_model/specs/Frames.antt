-- What stays of a list of bytes where a part of it is written.
use Rattle.std.specs.Prelude.{◌≡◌, ℕ, ◌+◌, ◌≤◌, List, length}
use Rattle.base_model.specs.Bytes.{range}

-- two images of one length that are the same outside a range
pub record SameOutside (at count : ℕ) (old new : List ℕ) : Type 0 where
  pub size : length new ≡ length old
  pub before : (p n : ℕ) → p + n ≤ at → range p n new ≡ range p n old
  pub after : (p n : ℕ) → at + count ≤ p → range p n new ≡ range p n old
