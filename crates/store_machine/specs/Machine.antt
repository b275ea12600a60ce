-- The machine: what a store is to those who make steps of it. V is what a name has, R what is to come of it (Values.antt).
use Rattle.std.specs.Prelude.{ℕ, ◌+◌, ◌-◌, ◌^◌, Bool, List, ◌++◌, min, replicate, slice_index_or, slice_set, Option, Some, None, Result}
use Rattle.std.specs.FinMap as finite
use Rattle.std.specs.Ordering.{nat_cmp}
use Rattle.std.specs.Cmp.Lexicographic.{slice_cmp}
use Rattle.actor_parts.specs.declared.actor.TheConstants.{ACTORS}
use Rattle.actor_parts.specs.PinMap.{PinMap}
use Rattle.gc_select.specs.declared.liveness.ContainerLiveness.{ContainerLiveness}
use Rattle.refusals.specs.declared.refusal.PartKind.{PartKind}
use Rattle.refusals.specs.declared.refusal.PartKind.TheVariants as kinds
use Rattle.refusals.specs.declared.refusal.Phase.{Phase}
use Rattle.refusals.specs.declared.refusal.Refusal.{Refusal}
use Rattle.store_model.specs.Image.{Store}
use Rattle.store_model.specs.Steps.{StoreChange}
use Rattle.store_machine.specs.Asked.{Asked}
use Rattle.store_machine.specs.Done.{Done}

abbrev pub Names : Type 0 → Type 0
Names V = finite.FinMap (slice_cmp nat_cmp) V

-- ---- a step

-- a step that was made: by whom, what was asked, and what was answered
pub record Stepped (V : Type 0) : Type 0 where
  pub actor : ℕ
  pub asked : Asked V
  pub answer : Result Done Refusal

-- ---- what an actor is at

pub data Part (V R : Type 0) : Type 0 where
  Idle : Part V R
  -- it stores a value, and keeps these segments for it
  Writing : (pins : PinMap) → Part V R
  -- it reads this value, of which this is to come
  Reading : (value : V) (rest : R) → Part V R

abbrev pub kind_of : {V R : Type 0} → Part V R → PartKind
kind_of Idle = kinds.Idle
kind_of (Writing pins) = kinds.Writing
kind_of (Reading value rest) = kinds.Reading

-- ---- a collection

-- How far a sweep has come: so many sources were copied to their end, and the next one goes on at this entry; copies of these keys are to
-- be written; and of the sources that came to their end and are not given back, those that wait for that, and those that are ready, by
-- their ids.
pub record Sweep : Type 0 where
  pub source : ℕ
  pub entry : ℕ
  pub filled : List (List ℕ)
  pub waiting : List ℕ
  pub ready : List ℕ

-- How far a collection has come: a container is scanned for nodes, and so many times more after that; containers are recorded, and then the
-- sources are chosen; or they are swept, by a step of this kind.
pub data Stage : Type 0 where
  Marking : (left : ℕ) → Stage
  Recording : Stage
  Sweeping : (next : Phase) (sweep : Sweep) → Stage

pub record Collection (V : Type 0) : Type 0 where
  pub percent : ℕ
  -- only containers of ids below it are given back
  pub snapshot : ℕ
  pub stage : Stage
  -- what it recorded of each container
  pub recorded : List ContainerLiveness
  -- what it has written and given back
  pub changes : List StoreChange
  -- What was needed as it began, or since: these values, which names had and actors read; and these keys, which actors kept.
  pub values : List V
  pub keys : List (List ℕ)

-- ---- the machine

-- names with what they have, and the last sequence number that was given out
pub record Found (V : Type 0) : Type 0 where
  pub names : Names V
  pub last : ℕ

-- It runs; or a write or a sync failed, and it is to be opened again. What is found then is what it has or, after a commit or a delete,
-- perhaps this; and the store that stands is the one that it has, or one of these.
pub data RunState (V : Type 0) : Type 0 where
  Running : RunState V
  Stopped : (other : Option (Found V)) (stores : List Store) → RunState V

pub record Machine (V R : Type 0) : Type 0 where
  pub now : Found V
  -- what each actor is at
  pub parts : List (Part V R)
  -- the store, and the greatest id that a container has or had since the opening
  pub store : Store
  pub last_id : ℕ
  -- the keys that the index lacks though containers had them when they left it: collections found nothing that needs them
  pub forgotten : List (List ℕ)
  -- a collection has copied since the opening: on a disk that tells nothing the index may be another than that of the containers from then
  -- on
  pub swept : Bool
  pub collection : Option (Collection V)
  -- how many commands were acknowledged since the opening
  pub acknowledged : ℕ
  pub state : RunState V

module _ {V R : Type 0} where
  abbrev pub part_in : Machine V R → ℕ → Part V R
  part_in m actor = slice_index_or m.parts actor Idle

  -- the same, but that an actor is at this
  abbrev pub put_at : Machine V R → ℕ → Part V R → Machine V R
  put_at m actor part = record m { parts = slice_set m.parts actor part }

  abbrev pub all_idle : List (Part V R)
  all_idle = replicate ACTORS Idle

  -- it stops, and may be found to be this, by one of these stores
  abbrev pub stopped : Option (Found V) → List Store → Machine V R → Machine V R
  stopped other stores m = record m { state = Stopped other stores }

-- one more, but for the last number
abbrev pub one_more : ℕ → ℕ
one_more n = min (n + 1) (2 ^ 64 - 1)

-- keys that a step kept are needed by the collection that runs
abbrev pub keeping : {V : Type 0} → List (List ℕ) → Option (Collection V) → Option (Collection V)
keeping keys None = None
keeping keys (Some c) = Some (record c { keys = c.keys ++ keys })
