-- What is written into a buffer that was lent.
use Rattle.std.specs.Prelude.{ℕ, List, ◌++◌, length, take, drop}
use Rattle.std.specs.Borrow.{Lends, MutBor, Fml, Array, u8}
use Rattle.actor_parts.specs.contracts.seg_buf.SegBuf.{the_row}

-- Bytes with others in their place from the first on. Where these are as many, they are what is left.
abbrev pub refilled : List ℕ → List ℕ → List ℕ
refilled old bytes = take (length old) (bytes ++ drop (length bytes) old)

-- what is last written through the slice is what the buffer has afterwards
abbrev pub LendsBytes : MutBor (List ℕ) → MutBor (List ℕ) → Fml
LendsBytes buffer bytes = Lends the_row (Array u8 0) buffer bytes (refilled buffer.now)
