-- Byte strings whose digests are taken before they are asked for.
use Rattle.std.specs.Prelude.{◌≡◌, ℕ, ◌≤◌, List, length, map, take}
use Rattle.sha2.specs.Sha256.{sha256}

-- these digests are those of the first of these byte strings
pub record AreTaken (texts digests : List (List ℕ)) : Type 0 where
  pub some : length digests ≤ length texts
  pub right : digests ≡ map sha256 (take (length digests) texts)
