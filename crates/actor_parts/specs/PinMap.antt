-- The segments that are kept for an actor, by their keys.
use Rattle.std.specs.Prelude.{◌≡◌, ◌≤◌, ℕ, List, Bool, true, false, ◌&&◌, ◌==◌, Option, Some, None, refl}
use Rattle.std.specs.Ordering.{nat_cmp}
use Rattle.std.specs.Cmp.Lexicographic.{slice_cmp}
use Rattle.std.specs.Coded.{Coded, code_by, coded×, coded_list, coded_ℕ}
use Rattle.std.specs.FinMap as finite
use Rattle.disk_format.specs.Cells.{is_root_length, is_root_level}
use Rattle.actor_parts.specs.declared.pins.Pin.{Pin}

-- What may be said of a segment: of data, which has level 0, as many bytes as a segment has, from one on; of a node as many
-- as a file has.
pub record IsPin (pin : Pin) : Type 0 where
  pub some : 1 ≤ pin.length
  pub length_is : is_root_length pin.level pin.length ≡ true
  pub level_is : is_root_level pin.level ≡ true

-- from keys, in the order of their bytes, to what is said of their segments
abbrev pub PinMap : Type 0
PinMap = finite.FinMap (slice_cmp nat_cmp) Pin

abbrev pub coded_pin : Coded Pin
coded_pin =
    code_by (ℕ × ℕ) (coded× coded_ℕ coded_ℕ) (λ p. (p.level, p.length)) (λ q. record { level = q.0; length = q.1 }) (λ _. refl)

abbrev pub coded_pins : Coded PinMap
coded_pins = finite.code (coded_list coded_ℕ) coded_pin

-- what holds of the pins of an actor at every moment
abbrev pub ArePins : PinMap → Type 0
ArePins pins = (key : List ℕ) (pin : Pin) → finite.get pins key ≡ Some pin → IsPin pin

-- one says what the other says
abbrev pub is_pin : Pin → Option Pin → Bool
is_pin pin None = false
is_pin pin (Some found) = (found.level == pin.level) && (found.length == pin.length)

-- the segment of a key is among them, with that level and length
abbrev pub has_pin : PinMap → List ℕ → Pin → Bool
has_pin pins key pin = is_pin pin (finite.get pins key)
