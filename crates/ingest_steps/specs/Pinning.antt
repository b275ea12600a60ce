-- What an actor keeps of a container that it seals (docs/MODEL.md, 'Steps').
use Rattle.std.specs.Prelude.{◌≡◌, ℕ, ◌<◌, List, [], ◌∷◌, length, take, get_or, Option, Some, None}
use Rattle.std.specs.FinMap as finite
use Rattle.container_meta.specs.declared.kind.Kind.{Kind}
use Rattle.container_meta.specs.Segments.{Segment, segment_at, segment_key}
use Rattle.actor_parts.specs.declared.pins.Pin.{Pin}
use Rattle.actor_parts.specs.PinMap.{PinMap}
use Rattle.actor_parts.specs.Segments.{children_by, first_not_in, pin_by}

-- ---- what has to be kept already

abbrev pub or_else : Option (List ℕ) → Option (List ℕ) → Option (List ℕ)
or_else (Some key) next = Some key
or_else None next = next

-- the key of the first child, of the first segment that has one, that isn't among the pins with its level and length
abbrev pub first_unpinned_of : Kind → List Segment → PinMap → Option (List ℕ)
first_unpinned_of kind [] pins = None
first_unpinned_of kind (s ∷ ss) pins = or_else (first_not_in pins (children_by kind s)) (first_unpinned_of kind ss pins)

-- ---- what is kept then

-- the pins with those of segments, the first of them first
abbrev pub with_pins : Kind → List Segment → PinMap → PinMap
with_pins kind [] pins = pins
with_pins kind (s ∷ ss) pins = with_pins kind ss (finite.insert pins (segment_key kind s) (pin_by kind s))

-- what was said of the key of each of the first segments before it was pinned, in order
abbrev pub WereHad : Kind → List Segment → PinMap → List (Option Pin) → Type 0
WereHad kind segments pins hads =
    (i : ℕ) → i < length hads
    → get_or hads i None ≡ finite.get (with_pins kind (take i segments) pins) (segment_key kind (segment_at segments i))

-- the pins with what was said of a key before
abbrev pub had_again : Option Pin → List ℕ → PinMap → PinMap
had_again (Some pin) key pins = finite.insert pins key pin
had_again None key pins = finite.remove pins key
