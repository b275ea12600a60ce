-- The bytes of a file in a session.
use Rattle.std.specs.Prelude.{◌≡◌, ℕ, Bool, true, false, List}
use Rattle.segmenter.specs.Segments.{segments_of}
use Rattle.segmenter.specs.Cutting.{Hand, HasCut, IsOne, empty_hand, ends_segment}

-- The bytes are cut into these segments and what is in hand; after the end, into these segments alone.
abbrev pub IsCutInto : Bool → List ℕ → List (List ℕ) → Hand → Type 0
IsCutInto false bytes segments hand = HasCut bytes segments hand
IsCutInto true bytes segments hand = (segments_of bytes ≡ segments) × (hand ≡ empty_hand)

-- What is in hand is one segment that goes on: no segment ends in it, nor with it.
abbrev pub IsUncut : Hand → Type 0
IsUncut hand = IsOne hand.bytes × (ends_segment hand.bytes ≡ false)
