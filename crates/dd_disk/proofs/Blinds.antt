-- One more call of a disk that tells nothing, and never fails.
use Rattle.std.proofs.Common.{◌≡◌, ℕ, ◌+◌, ◌≤◌, List, length, ◌∙◌, arith}
use Rattle.dd_disk.specs.Writes.{Torn}
use Rattle.dd_disk.proofs.Images.{torn_length}

pub any_torn : (at n size : ℕ) (d c : List ℕ) → at + n ≤ size → length d ≡ size → Torn at n d c → length c ≡ size
any_torn at n size d c fits same torn = torn_length at n d c (omega (arith, fits, same)) torn ∙ same
