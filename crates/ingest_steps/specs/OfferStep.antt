-- When containers that are offered together are sealed for an actor, and what that makes of the store and of the actor (docs/MODEL.md,
-- 'Claims and seals').
use Rattle.std.specs.Prelude.{◌≡◌, ℕ, ◌+◌, List, length, take, Option, Some}
use Rattle.dd_disk.specs.Shows.{Shows}
use Rattle.container_meta.specs.Places.{PlaceMap}
use Rattle.container_meta.specs.Segments.{Contents}
use Rattle.container_log.specs.Many.{placed}
use Rattle.actor_parts.specs.declared.part.Part.TheVariants.{Writing}
use Rattle.actor_parts.specs.Parts.{part_of, with_part}
use Rattle.store_model.specs.Collisions.{HasNoCollisions, ByteSet, IsIn, Stands}
use Rattle.store_model.specs.Files.{Files}
use Rattle.store_model.specs.Image.{Store}
use Rattle.store_model.specs.Slots.{HasKey}
use Rattle.store_model.specs.Together.{with_all}
use Rattle.store_state.specs.Invariant.{HoldsPart}
use Rattle.store_state.specs.Tables.{Represents}
use Rattle.ingest_steps.specs.declared.offering.SealedTogether.{SealedTogether}
use Rattle.ingest_steps.specs.Offering.{HasSlots, MayKeepAll, WereCompared, offer_in, with_pins_of}
use Rattle.ingest_steps.specs.SealingAll.{HasPlacesOfAll, HaveSealed, MayAllSeal}
use Rattle.ingest_steps.specs.SealStep.{StoreMoment}

-- Of the containers that were offered the first, as many as there is room for, are sealed, and their count and the greatest of their ids
-- are answered. They were compared with what is held. They stand in the closed slots of least number, their places are in the map, and the
-- actor keeps their segments, too.
pub record AreSealedFor (old new : StoreMoment) (actor : ℕ) (filled : List Contents) (before after : Option (List ℕ) → Option PlaceMap)
    (answer : SealedTogether) : Type 0 where
  pub may : MayKeepAll (part_of old.parts actor) filled
  pub slots : List ℕ
  pub has : HasSlots old.tables (length filled) slots
  pub count_is : answer.count ≡ length slots
  pub id_is : answer.id ≡ old.tables.held.last_id + answer.count
  pub compared : WereCompared old.disk.size old.known (Shows old.disk new.disk) (take answer.count filled)
  pub sealed : HaveSealed old.tables old.disk.size old.known (take answer.count filled) new.tables
  pub map : HasPlacesOfAll (placed slots (old.tables.held.last_id + 1) (take answer.count filled)) before after
      old.disk.content new.disk.content
  pub parts_are : new.parts ≡ with_part old.parts actor (Writing (with_pins_of (take answer.count filled) may.pins))

-- What the actor keeps is right still, and closed, where a content stood for files and the map was that of its store; no data of S
-- differs under one digest.
abbrev pub KeepsOffered : StoreMoment → StoreMoment → ℕ → List Contents → Type 0
KeepsOffered old new actor filled =
    (among : ByteSet) (store : Store) (files : Files) (map more : PlaceMap) (given held : List ℕ)
    → old.known ≡ Some map → new.known ≡ Some more → Represents store old.known old.tables
    → old.disk.content ≡ Some given → new.disk.content ≡ Some held → Stands (IsIn among) store files given → HasNoCollisions (IsIn among)
    → MayAllSeal (IsIn among) (offer_in old.tables filled store) → HoldsPart (HasKey map) store.held given (part_of old.parts actor)
    → HoldsPart (HasKey more) (with_all (offer_in old.tables filled store) store).held held (part_of new.parts actor)
