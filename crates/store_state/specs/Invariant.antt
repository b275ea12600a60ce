-- What holds of a running store at every moment, in terms of what its disk holds (docs/MODEL.md, 'The running store').
use Rattle.std.specs.Prelude.{◌≡◌, ℕ, List, Option, Some, true}
use Rattle.std.specs.FinMap as finite
use Rattle.std.specs.List.{AllByRecursion}
use Rattle.container_meta.specs.Places.{PlaceMap}
use Rattle.container_meta.specs.Segments.{KindSegment, segment_key}
use Rattle.container_meta.specs.Spelling.{HeaderValue}
use Rattle.merkle_file.specs.Tree.{Tree, of_segment, root_of}
use Rattle.merkle_file.specs.Walk.{Ahead, IsTree, trees_in}
use Rattle.actor_parts.specs.declared.part.Part.{Part}
use Rattle.actor_parts.specs.declared.part.Part.TheVariants.{Idle, Writing, Reading}
use Rattle.actor_parts.specs.declared.part.Reader.{Reader}
use Rattle.actor_parts.specs.declared.pins.Pin.{Pin}
use Rattle.actor_parts.specs.PinMap.{PinMap, has_pin}
use Rattle.actor_parts.specs.Segments.{IsStepSegment, pin_of, children_of}
use Rattle.store_model.specs.Image.{Store}
use Rattle.store_model.specs.Collisions.{IsIn}
use Rattle.store_model.specs.Files.{Files}
use Rattle.store_model.specs.Reserve.{HasReserve, HoldsCounted, IsReachable, key_set, tree_keys}
use Rattle.store_model.specs.Slots.{HasFree, HasKey, IsPartialIndexOf}
use Rattle.store_model.specs.Trees.{HasNewest}

-- A pin is right: the newest copy of its key, of which P holds, is a segment of that level and length, and its children are pinned, too.
pub record HoldsPin (P : List ℕ → Type 0) (held : List (Option HeaderValue)) (image : List ℕ) (pins : PinMap) (key : List ℕ) (pin : Pin)
    : Type 0 where
  pub segment : KindSegment
  pub key_is : segment_key segment.kind segment.segment ≡ key
  pub pin_is : pin_of segment ≡ pin
  pub right : IsStepSegment segment
  pub newest : HasNewest held key segment.segment.level segment.segment.bytes image
  pub children : AllByRecursion (λ c. has_pin pins c.key c.pin ≡ true) (children_of segment)
  pub counts : P key

abbrev pub ArePinsOf : (List ℕ → Type 0) → List (Option HeaderValue) → List ℕ → PinMap → Type 0
ArePinsOf P held image pins = (key : List ℕ) (pin : Pin) → finite.get pins key ≡ Some pin → HoldsPin P held image pins key pin

-- A file that is given back is held whole, as it was when it was opened, and what is to come is of it.
pub record HoldsRest (P : List ℕ → Type 0) (held : List (Option HeaderValue)) (image : List ℕ) (reader : Reader) : Type 0 where
  pub whole : Tree (List ℕ)
  pub right : AllByRecursion IsTree (trees_in whole)
  pub top_is : record { length = reader.root.length; level = reader.root.level; digest = reader.root.digest } ≡ root_of of_segment whole
  pub is_held : HoldsCounted P held image whole
  pub trees : List (Tree (List ℕ))
  pub ahead : Ahead reader.cursor trees
  pub are_held : AllByRecursion (HoldsCounted (IsIn (key_set (tree_keys whole))) held image) trees

-- What an actor is at is held, and P holds of the keys.
abbrev pub HoldsPart : (List ℕ → Type 0) → List (Option HeaderValue) → List ℕ → Part → Type 0
HoldsPart P held image Idle = Unit {0}
HoldsPart P held image (Writing pins) = ArePinsOf P held image pins
HoldsPart P held image (Reading reader) = HoldsRest P held image reader

-- the index has each key of the files' trees
abbrev pub IndexesFiles : PlaceMap → Files → Type 0
IndexesFiles index files = (key : List ℕ) → IsReachable files key → HasKey index key

-- Each place that the index has is that of its key's newest copy, and it has each key that is needed: by the files, and by what actors
-- are at. Pins are right and closed, and what is to be read is held. One slot is free, and a second one, too, or it has a container to
-- which the index points no more: so the image can always be opened, and two slots are free again once such containers are given back.
pub record CoreInvariant (index : PlaceMap) (store : Store) (files : Files) (parts : List Part) (image : List ℕ) : Type 0 where
  pub index_is_newest : IsPartialIndexOf store.held index
  pub files_are_indexed : IndexesFiles index files
  pub pins_are_closed : AllByRecursion (HoldsPart (HasKey index) store.held image) parts
  pub reserve_holds : HasReserve (HasKey index) store.held
  pub has_free : HasFree store.held
