-- The store and its actors at a moment, between which a step is stated.
use Rattle.std.specs.Prelude.{List, Option}
use Rattle.dd_disk.specs.View.{DiskView}
use Rattle.container_meta.specs.Places.{PlaceMap}
use Rattle.actor_parts.specs.declared.part.Part.{Part}
use Rattle.store_state.specs.declared.tables.Tables.{Tables}

-- the disk, the map of the index, the tables and what each actor does, at a moment
pub record StoreMoment : Type 1 where
  pub disk : DiskView
  pub known : Option PlaceMap
  pub tables : Tables
  pub parts : List Part

abbrev pub store_moment : DiskView → Option PlaceMap → Tables → List Part → StoreMoment
store_moment disk known tables parts = record { disk = disk; known = known; tables = tables; parts = parts }
