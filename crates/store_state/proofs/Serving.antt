-- The index of a store serves the store's disk.
use Rattle.std.proofs.Common.{ℕ, subst, arith}
use Rattle.container_meta.specs.Places.{PlaceMap}
use Rattle.segment_index.specs.Places.{IsPlace, HasPlaces}
use Rattle.store_model.specs.Image.{Store, IsValidFor}
use Rattle.store_model.specs.Slots.{Copy, IsPartialIndexOf}
use Rattle.store_model.proofs.Copies.{IsWithin, newest_within}
use Rattle.store_model.proofs.Lookups.{finds}

-- a place in a slot of the store is one on its disk
place_within : (size : ℕ) (store : Store) (copy : Copy) → IsValidFor size store → IsWithin store.slots copy → IsPlace size copy.place
place_within size store copy valid within =
    record {
      not_empty = within.some;
      length_is = within.few;
      within = within.ends;
      level_is = within.level;
      slot_is = omega (arith, within.slot, valid.size_is);
    }

-- each key of the index has such a place
pub index_serves : (size : ℕ) (store : Store) (places : PlaceMap) → IsValidFor size store → IsPartialIndexOf store.held places → HasPlaces size places
index_serves size store places valid index = λ key place found.
    let at = finds store places key place index found in
    let within = subst (λ (slots : ℕ). IsWithin slots at.0) valid.many (newest_within store.held key at.0 valid.headers at.1) in
    subst (IsPlace size) at.2 (place_within size store at.0 valid within)
