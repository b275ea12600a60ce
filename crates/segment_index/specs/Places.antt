-- Keys and places of segments, and maps from one to the other (docs/MODEL.md, 'The index').
use Rattle.std.specs.Prelude.{◌≡◌, ℕ, ◌+◌, ◌≤◌, List, Option, Some, refl}
use Rattle.std.specs.Coded.{Coded, code_by, coded×, coded_list, coded_ℕ}
use Rattle.std.specs.FinMap as finite
use Rattle.base_model.specs.Bytes.{byte_at}
use Rattle.disk_format.specs.declared.numbers.TheConstants.{MOST_SEGMENT, DATA_BYTES, MOST_LEVEL}
use Rattle.disk_format.specs.Layout.{size_of}
use Rattle.container_meta.specs.declared.place.Place.{Place}
use Rattle.container_meta.specs.Places.{PlaceMap}

abbrev pub coded_place : Coded Place
coded_place =
    code_by (ℕ × (ℕ × (ℕ × ℕ))) (coded× coded_ℕ (coded× coded_ℕ (coded× coded_ℕ coded_ℕ)))
    (λ p. (p.slot, (p.offset, (p.length, p.level))))
    (λ q. record { slot = q.0; offset = q.1.0; length = q.1.1.0; level = q.1.1.1 })
    (λ _. refl)

abbrev pub coded_places : Coded PlaceMap
coded_places = finite.code (coded_list coded_ℕ) coded_place

-- P holds of the map, where it is known
abbrev pub KnownMap : Option PlaceMap → (PlaceMap → Type 0) → Type 0
KnownMap known P = (places : PlaceMap) → known ≡ Some places → P places

-- a key is that of data or of a tree
abbrev pub HasKind : List ℕ → Type 0
HasKind key = byte_at 0 key ≤ 1

-- A segment may lie there: it has a byte or more and as many as a segment may have, and lies in the data section of a
-- slot that a disk of this size has.
pub record IsPlace (size : ℕ) (place : Place) : Type 0 where
  pub not_empty : 1 ≤ place.length
  pub length_is : place.length ≤ MOST_SEGMENT
  pub within : place.offset + place.length ≤ DATA_BYTES
  pub level_is : place.level ≤ MOST_LEVEL
  pub slot_is : size_of (place.slot + 1) ≤ size

-- a segment may lie at each place of the map
abbrev pub HasPlaces : ℕ → PlaceMap → Type 0
HasPlaces size places = (key : List ℕ) (place : Place) → finite.get places key ≡ Some place → IsPlace size place
