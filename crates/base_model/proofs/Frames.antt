-- What a write changes nothing of.
use Rattle.std.proofs.Common.{◌≡◌, ℕ, ◌+◌, ◌<◌, ◌≤◌, List, length, arith}
use Rattle.base_model.specs.Bytes.{written, byte_at}
use Rattle.base_model.specs.Frames.{SameOutside}
use Rattle.base_model.proofs.Ranges.{length-written, range-written-before, range-written-after}
use Rattle.base_model.proofs.ByteAt.{byte_of_range}

-- a write changes nothing outside its range
pub same_written : (at count : ℕ) (bytes old : List ℕ) → length bytes ≡ count → at + count ≤ length old → SameOutside at count old (written at bytes old)
same_written at count bytes old long fits = record {
  size = length-written at bytes old (omega (arith, long, fits));
  before = λ p n within. range-written-before p n at bytes old within (omega (arith, fits));
  after = λ p n within. range-written-after p n at bytes old (omega (arith, long, within)) (omega (arith, long, fits));
}

-- a byte before the range
pub byte_before : (p at count : ℕ) (old new : List ℕ) → p < at → SameOutside at count old new → byte_at p new ≡ byte_at p old
byte_before p at count old new below same = byte_of_range p old new (same.before p 1 (omega arith))

-- a byte after the range
pub byte_after : (p at count : ℕ) (old new : List ℕ) → at + count ≤ p → SameOutside at count old new → byte_at p new ≡ byte_at p old
byte_after p at count old new above same = byte_of_range p old new (same.after p 1 above)
