-- How many keys an index has, and how much a store holds.
use Rattle.store_model.proofs.Prelude.{ℕ, ◌≤◌, List, length, arith, nat_le, leb-true, Kind, PlaceMap, Segment, entries_from, HeaderValue, IsHeader, header_of, with_entries, IsIndexOf, IsPartialIndexOf, free_slots, first_free, Store, CanHold, with_sealed}
use Rattle.disk_format.specs.declared.numbers.TheConstants.{MOST_ENTRIES}
use Rattle.store_model.proofs.Indexing.{index_with, partial_with}
use Rattle.base_model.proofs.Checks.{both}

-- ---- how many entries there may be

-- a container has so many
pub entries_within : (h : HeaderValue) → IsHeader h → length h.entries ≤ MOST_ENTRIES
entries_within h right = leb-true (length h.entries) MOST_ENTRIES (both (nat_le 1 (length h.entries)) (nat_le (length h.entries) MOST_ENTRIES) right.count).1

-- ---- once segments were sealed

module _ {spare : ℕ} (id : ℕ) (kind : Kind) (segments : List Segment) (store : Store) (can : CanHold spare id kind segments store) where
  abbrev new_header : HeaderValue
  new_header = header_of id kind segments

  some : 1 ≤ free_slots store.held
  some = omega (arith, can.slot)

  -- the index with the places of the new entries is that of the new store
  pub index_sealed : (places : PlaceMap) → IsIndexOf store.held places → IsHeader new_header
      → IsIndexOf (with_sealed id kind segments store).held (with_entries kind (first_free store.held) (entries_from 0 segments) places)
  index_sealed places index right = index_with new_header store.held places index right can.new_id some

  -- and so it is of one that lacks keys
  pub partial_sealed : (places : PlaceMap) → IsPartialIndexOf store.held places → IsHeader new_header
      → IsPartialIndexOf (with_sealed id kind segments store).held (with_entries kind (first_free store.held) (entries_from 0 segments) places)
  partial_sealed places index right = partial_with new_header store.held places index right can.new_id some
