-- The core of a running store, as its contracts see it (docs/MODEL.md, 'The core').
use Rattle.std.specs.Prelude.{◌≡◌, ℕ, ◌+◌, ◌-◌, ◌^◌, min, List, length, Option, Some, None, Result}
use Rattle.disk_format.specs.declared.why.Why.{Why}
use Rattle.dd_disk.specs.View.{DiskView}
use Rattle.dd_disk.specs.Ending.{Refused, Reads}
use Rattle.container_meta.specs.Places.{PlaceMap}
use Rattle.actor_parts.specs.declared.actor.TheConstants.{ACTORS}
use Rattle.actor_parts.specs.declared.part.Part.{Part}
use Rattle.actor_parts.specs.declared.step.Answer.{Answer}
use Rattle.actor_parts.specs.StepValue.{StepValue}
use Rattle.refusals.specs.declared.refusal.Refusal.{Refusal}
use Rattle.refusals.specs.declared.refusal.Refusal.TheVariants.{Stopped}
use Rattle.store_state.specs.declared.slot_table.SlotTable.{SlotTable}
use Rattle.store_state.specs.declared.tables.Tables.{Tables}
use Rattle.store_state.specs.Tables.{Runs}
use Rattle.gc_steps.specs.declared.collection.Collection.{Collection}
use Rattle.gc_steps.specs.UnderWay.{HasRoom, IsUnderWay}
use Rattle.store_core.specs.declared.stop.Stop.{Stop}

pub record CoreState : Type 1 where
  pub disk : DiskView
  pub tables : Tables
  -- the map of the index, where it is known
  pub known : Option PlaceMap
  -- the index can be kept on the disk
  pub served : Type 0
  -- bytes of a disk break the form of the index, at this byte and for this reason
  pub breaks : ℕ → Why → List ℕ → Type 0
  pub parts : List Part
  -- the collection that runs, if one does
  pub collection : Option Collection
  -- what stopped it
  pub stop : Option Stop
  -- how many puts and deletes were acknowledged since the opening
  pub acknowledged : ℕ

-- a collection, if one runs, is under way; else the slots of the reserve are closed
abbrev pub IsUnderWayIn : SlotTable → Option Collection → Type 0
IsUnderWayIn t None = HasRoom t
IsUnderWayIn t (Some c) = IsUnderWay t c

-- The tables are those of a store that the disk may hold, with a slot free; the index serves it; each actor has a
-- part; a collection is under way. What the index has is not told: a disk that lies may have shown another header where a
-- container was given back.
pub record IsUp (c : CoreState) : Type 0 where
  pub runs : Runs c.disk.size None c.tables
  pub many : length c.parts ≡ ACTORS
  pub served : c.served
  pub under_way : IsUnderWayIn c.tables.held c.collection

-- where it isn't stopped
abbrev pub UnlessStopped : Option Stop → Type 0 → Type 0
UnlessStopped None P = P
UnlessStopped (Some stop) P = Unit {0}

abbrev pub IsRunning : CoreState → Type 0
IsRunning c = UnlessStopped c.stop (IsUp c)

-- it is stopped, and this is how it refuses each step
abbrev pub IsStopped : Option Stop → Refusal → Type 0
IsStopped stopped refusal = (stop : Stop) × (stopped ≡ Some stop) × (refusal ≡ Stopped stop.at)

-- nothing of the core is another, and of the disk nothing but the time
pub record IsSame (old new : CoreState) : Type 0 where
  pub disk : Reads Refused old.disk new.disk
  pub tables_are : new.tables ≡ old.tables
  pub index_is : new.known ≡ old.known
  pub parts_are : new.parts ≡ old.parts
  pub collection_is : new.collection ≡ old.collection
  pub stop_is : new.stop ≡ old.stop
  pub counted : new.acknowledged ≡ old.acknowledged

-- A step that was made: by whom, what was asked, what was answered, and what the buffer then held.
pub record Event : Type 0 where
  pub actor : ℕ
  pub step : StepValue
  pub answer : Result Answer Refusal
  pub buf : List ℕ

-- one more, but for the last number
abbrev pub one_more : ℕ → ℕ
one_more n = min (n + 1) (2 ^ 64 - 1)
