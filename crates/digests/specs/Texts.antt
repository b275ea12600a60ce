-- Byte strings that lie in one buffer.
use Rattle.std.specs.Prelude.{◌≡◌, ◌≤◌, ◌+◌, ℕ, List, length, take, drop, min, sum_by}
use Rattle.std.specs.List.{AllByRecursion}
use Rattle.digests.specs.declared.texts.Span.{Span}

-- what contracts see of them, and for how many there is room, and of how many bytes together
pub record Texts : Type 0 where
  pub all : List (List ℕ)
  pub places : ℕ
  pub room : ℕ

-- There is no less room than before.
pub record KeepsRoom (old new : Texts) : Type 0 where
  pub places : old.places ≤ new.places
  pub room : old.room ≤ new.room

-- the bytes from a place of a buffer on, as far as it has them
abbrev pub rest_from : ℕ → List ℕ → List ℕ
rest_from from bytes = drop (min from (length bytes)) bytes

-- the bytes of a span
abbrev pub text_in : List ℕ → Span → List ℕ
text_in bytes span = take (min span.count (length (rest_from span.from bytes))) (rest_from span.from bytes)

-- The buffer has all bytes of each span, and no others than those.
pub record AreSpans (bytes : List ℕ) (spans : List Span) : Type 0 where
  pub within : AllByRecursion (λ s. s.from + s.count ≤ length bytes) spans
  pub long : sum_by (λ s. s.count) spans ≡ length bytes
