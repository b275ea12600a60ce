-- What a running store counts of itself (docs/MODEL.md, 'Reading').
use Rattle.std.specs.Prelude.{ℕ, ◌-◌, length, Option}
use Rattle.std.specs.FinMap as finite
use Rattle.container_meta.specs.Places.{PlaceMap}
use Rattle.store_model.specs.Image.{Store, names_of}
use Rattle.store_model.specs.Indexing.{entries_in, bytes_in_slots}
use Rattle.store_model.specs.Slots.{free_slots}
use Rattle.store_state.specs.Tables.{Runs}
use Rattle.store_state.specs.declared.tables.Tables.{Tables}
use Rattle.actor_parts.specs.declared.step.Answer.{Answer}
use Rattle.actor_parts.specs.declared.step.Answer.TheVariants.{Stat}

-- the tables of a running store, on a disk of some size
abbrev pub IsRunning : Tables → Type 0
IsRunning t = (size : ℕ) × ((known : Option PlaceMap) × Runs size known t)

-- what a store has: names, entries of valid containers and bytes of these, slots that are used and free
abbrev pub counts_of : Store → Answer
counts_of store =
    Stat (finite.len (names_of store)) (entries_in store.held) (bytes_in_slots store.held) (length store.held - free_slots store.held)
    (free_slots store.held)
