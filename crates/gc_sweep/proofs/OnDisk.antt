-- The slots of a running store, by its tables, and its disk.
use Rattle.gc_sweep.proofs.Prelude.{◌≡◌, ℕ, ◌+◌, ◌<◌, ◌≤◌, length, Option, ap, ◌∙◌, arith, length-map, PlaceMap, MOST_SLOTS, slot_at, as_many, Runs, count_of, Tables}
use Rattle.disk_format.specs.declared.numbers.TheConstants.{SLOT_BYTES}

module _ (size : ℕ) (known : Option PlaceMap) (t : Tables) (runs : Runs size known t) where
  -- each slot has an id
  pub slots_there : length t.held.ids.items ≡ runs.store.slots
  slots_there = ap length runs.represents.slots_hold.ids_are ∙ as_many runs.store.held ∙ runs.valid.many

  pub few_slots : length t.held.ids.items ≤ MOST_SLOTS
  few_slots = omega (arith, slots_there, runs.valid.count.1)

  -- both columns of the table are as long
  pub columns : length t.held.counts.items ≡ length t.held.ids.items
  columns =
      let held = runs.store.held in
      omega (arith, ap length runs.represents.slots_hold.counts_are, length-map held count_of, ap length runs.represents.slots_hold.ids_are, as_many held)

-- a slot lies on the disk
pub slot_fits : (size : ℕ) (known : Option PlaceMap) (t : Tables) (slot : ℕ) → Runs size known t → slot < length t.held.ids.items → slot_at slot + SLOT_BYTES ≤ size
slot_fits size known t slot runs within = omega (arith, slots_there size known t runs, runs.valid.size_is, within)
