-- What a step may answer, and what it leaves: one relation, for any values (docs/MODEL.md, 'The machine').
use Rattle.std.specs.Prelude.{◌≡◌, ◌≢◌, ◌⊎◌, ℕ, suc, ◌+◌, ◌-◌, ◌^◌, ◌<◌, ◌≤◌, true, false, List, [], ◌∷◌, length, map, is_some, slice_get, take, Contains, Option, Some, None, Result, Ok, Err}
use Rattle.std.specs.FinMap as finite
use Rattle.std.specs.List.{AllByRecursion}
use Rattle.actor_parts.specs.Offers.{IsOffer, sealed_of}
use Rattle.actor_parts.specs.PinMap.{PinMap}
use Rattle.actor_parts.specs.Segments.{first_unpinned, pin_of}
use Rattle.container_meta.specs.Segments.{Contents, KindSegment, segment_key}
use Rattle.disk_format.specs.Cells.{Change, IsName}
use Rattle.disk_format.specs.Cells.Change.{Put, Delete as Gone}
use Rattle.disk_format.specs.Layout.{half_cells}
use Rattle.disk_format.specs.declared.numbers.TheConstants.{LAST_ID, MOST_NAMES, RESERVE}
use Rattle.namespace.specs.Listing.{NamedRoot}
use Rattle.refusals.specs.declared.refusal.Difference.{Difference}
use Rattle.refusals.specs.declared.refusal.PartKind.{PartKind}
use Rattle.refusals.specs.declared.refusal.PartKind.TheVariants as kinds
use Rattle.refusals.specs.declared.refusal.Phase.{Phase}
use Rattle.refusals.specs.declared.refusal.Phase.TheVariants as phases
use Rattle.refusals.specs.declared.refusal.Refusal.{Refusal}
use Rattle.refusals.specs.declared.refusal.Refusal.TheVariants.{Memory, NoFile, BadName, TooMany, Full, Clash, WrongPart, Collecting, NotCollecting, DiskRead, DiskWrite, Stopped as IsStopped, Corrupt, Missing, Numbers, Damaged, Unpinned}
use Rattle.store_model.specs.Image.{Store}
use Rattle.store_model.specs.Indexing.{bytes_in_slots, entries_in}
use Rattle.store_model.specs.Refusals.{root_key}
use Rattle.store_model.specs.Slots.{free_slots}
use Rattle.store_model.specs.Steps.{CanRise, with_change, with_checkpoint, with_other}
use Rattle.store_machine.specs.Collecting.{Begins, Ends, GoesOn, IsCollecting, MayBreak}
use Rattle.store_machine.specs.Asked.{Asked}
use Rattle.store_machine.specs.Asked as asked
use Rattle.store_machine.specs.Done.{Done}
use Rattle.store_machine.specs.Done as done
use Rattle.store_machine.specs.Machine.{Collection, Found, Machine, Idle, Writing, Reading, RunState, Running, Stopped, Stepped, keeping, kind_of, one_more, part_in, put_at, stopped}
use Rattle.store_machine.specs.Needs.{Fits, HasCopy, HasLength, HoldsKey, IsClash, IsKept, IsLacked}
use Rattle.store_machine.specs.Offers.{AddsContainers, AllSegments, first_unkept_in, sealed_in, stores_with_some}
use Rattle.store_machine.specs.Opening.{Reopens}
use Rattle.store_machine.specs.Values.{Values}

-- ---- what an actor has to be at, where the step looks at it

abbrev pub taken_by : {V : Type 0} → Asked V → Option PartKind
taken_by asked.Begin = Some kinds.Idle
taken_by (asked.Claim seg) = Some kinds.Writing
taken_by (asked.Seal offered) = Some kinds.Writing
taken_by (asked.Commit name value) = Some kinds.Writing
taken_by asked.Abort = Some kinds.Writing
taken_by (asked.OpenRead name) = Some kinds.Idle
taken_by asked.ReadNext = Some kinds.Reading
taken_by asked.EndRead = Some kinds.Reading
taken_by step = None

-- ---- names and numbers

-- counts of the store
abbrev pub counted : ℕ → Store → Done
counted files store =
    done.Counted files (entries_in store.held) (bytes_in_slots store.held) (length store.held - free_slots store.held)
    (free_slots store.held)

module _ {V R : Type 0} (v : Values V R) where
  abbrev pub HasName : List ℕ → Machine V R → Type 0
  HasName name m = is_some (finite.get m.now.names name) ≡ true

  abbrev pub HasRoom : List ℕ → Machine V R → Type 0
  HasRoom name m = HasName name m ⊎ (finite.len m.now.names < MOST_NAMES)

  -- a record has its numbers, or one of them can't rise
  abbrev pub HasNumbers : Machine V R → Type 0
  HasNumbers m = (m.now.last < 2 ^ 64 - 1) × CanRise m.store

  abbrev pub LacksNumbers : Machine V R → Type 0
  LacksNumbers m = (m.now.last ≡ 2 ^ 64 - 1) ⊎ ((half_cells ≤ length m.store.records) × (m.store.selector.generation ≡ 2 ^ 64 - 1))

  abbrev pub with_name : List ℕ → V → Found V → Found V
  with_name name value now = record { names = finite.insert now.names name value; last = suc now.last }

  abbrev pub without_name : List ℕ → Found V → Found V
  without_name name now = record { names = finite.remove now.names name; last = suc now.last }

  -- the index is that of the containers, but for what was forgotten
  abbrev pub IsIndexed : Machine V R → Type 0
  IsIndexed m = v.Known ⊎ (m.swept ≡ false)

  -- what each name lists
  abbrev pub listing : Found V → List NamedRoot
  listing now = map (λ (e : List ℕ × V). record { name = e.0; root = v.root e.1 }) (finite.entries now.names)

  -- ---- a step that is done

  -- the actor writes, and keeps each child of what it asks for
  pub record Keeps (actor : ℕ) (unkept : PinMap → Option (List ℕ)) (m : Machine V R) : Type 0 where
    pub pins : PinMap
    pub writing : part_in m actor ≡ Writing pins
    pub children : unkept pins ≡ None

  pub record Claims (actor : ℕ) (seg : KindSegment) (m n : Machine V R) : Type 0 where
    pub may : Keeps actor (first_unpinned seg) m
    pub held : IsIndexed m → HasLength m.store seg × ¬ (Contains m.forgotten (segment_key seg.kind seg.segment))
    pub same : v.Known → HasCopy m.store seg
    pub others : n ≡ record (put_at m actor (Writing (finite.insert may.pins (segment_key seg.kind seg.segment) (pin_of seg)))) {
      collection = keeping (segment_key seg.kind seg.segment ∷ []) m.collection;
    }

  -- each segment of these containers fits what was held before any of them was put
  abbrev pub AllFit : List Contents → Machine V R → Type 0
  AllFit cs m = AllSegments (Fits m.store m.forgotten) cs

  pub record Seals (actor : ℕ) (offered : List Contents) (id count : ℕ) (m n : Machine V R) : Type 0 where
    pub offer : IsOffer offered
    pub may : Keeps actor (first_unkept_in offered) m
    pub count_is : count ≡ sealed_of (length offered) (free_slots m.store.held) m.last_id
    pub some : 1 ≤ count
    pub fits : v.Known → AllFit (take count offered) m
    pub id_is : id ≡ m.last_id + count
    pub adds : AddsContainers actor (take count offered) m n

  -- A name may have the value that an actor wrote.
  pub record MayCommit (actor : ℕ) (name : List ℕ) (value : V) (m : Machine V R) : Type 0 where
    pub pins : PinMap
    pub writing : part_in m actor ≡ Writing pins
    pub named : IsName name
    pub room : HasRoom name m
    pub kept : IsKept pins (v.root value)

  -- the index has each of its keys
  abbrev pub HoldsValue : V → Machine V R → Type 0
  HoldsValue value m = (key : List ℕ) → v.Needs value key → HoldsKey m.store key × ¬ (Contains m.forgotten key)

  pub record Commits (actor : ℕ) (name : List ℕ) (value : V) (sequence : ℕ) (m n : Machine V R) : Type 0 where
    pub may : MayCommit actor name value m
    pub right : v.IsValue value
    pub whole : HoldsValue value m
    pub numbers : HasNumbers m
    pub sequence_is : sequence ≡ suc m.now.last
    pub others : n ≡ record (put_at m actor Idle) {
      now = with_name name value m.now;
      store = with_change name (Put (v.root value)) m.store;
      acknowledged = one_more m.acknowledged;
    }

  pub record Deletes (name : List ℕ) (sequence : ℕ) (m n : Machine V R) : Type 0 where
    pub named : IsName name
    pub there : HasName name m
    pub numbers : HasNumbers m
    pub sequence_is : sequence ≡ suc m.now.last
    pub others : n ≡ record m {
      now = without_name name m.now;
      store = with_change name Gone m.store;
      acknowledged = one_more m.acknowledged;
    }

  abbrev pub OpensValue : ℕ → List ℕ → ℕ → Machine V R → Machine V R → Type 0
  OpensValue actor name count m n = IsName name × (part_in m actor ≡ Idle) × ((value : V) × (rest : R)
      × (finite.get m.now.names name ≡ Some value) × v.Starts value rest × (count ≡ (v.root value).length)
      × (n ≡ put_at m actor (Reading value rest)))

  abbrev pub GivesBytes : ℕ → List ℕ → Machine V R → Machine V R → Type 0
  GivesBytes actor bytes m n = (value : V) × (rest after : R) × (part_in m actor ≡ Reading value rest) × v.Gives rest bytes after
      × (n ≡ put_at m actor (Reading value after))

  abbrev pub IsAtEnd : ℕ → Machine V R → Machine V R → Type 0
  IsAtEnd actor m n = (value : V) × (rest : R) × (part_in m actor ≡ Reading value rest) × v.Ends rest × (n ≡ m)

  -- the actor was at something of this kind, and is at nothing
  abbrev pub GivesUp : ℕ → PartKind → Machine V R → Machine V R → Type 0
  GivesUp actor kind m n = (kind_of (part_in m actor) ≡ kind) × (n ≡ put_at m actor Idle)

  abbrev pub Does : ℕ → Asked V → Done → Machine V R → Machine V R → Type 0
  Does a asked.Begin done.Begun m n = (part_in m a ≡ Idle) × (n ≡ put_at m a (Writing finite.empty))
  Does a (asked.Claim seg) done.Held m n = Claims a seg m n
  Does a (asked.Claim seg) done.Absent m n =
      Keeps a (first_unpinned seg) m × (IsIndexed m → IsLacked m.store m.forgotten (segment_key seg.kind seg.segment)) × (n ≡ m)
  Does a (asked.Seal offered) (done.Sealed id count) m n = Seals a offered id count m n
  Does a (asked.Commit name value) (done.Committed sequence) m n = Commits a name value sequence m n
  Does a asked.Abort done.Aborted m n = GivesUp a kinds.Writing m n
  Does a (asked.OpenRead name) (done.Opened count) m n = OpensValue a name count m n
  Does a asked.ReadNext (done.Bytes bytes) m n = GivesBytes a bytes m n
  Does a asked.ReadNext done.End m n = IsAtEnd a m n
  Does a asked.EndRead done.Dropped m n = GivesUp a kinds.Reading m n
  Does a (asked.Delete name) (done.Deleted sequence) m n = Deletes name sequence m n
  Does a asked.ListNames (done.Listed files) m n = (files ≡ listing m.now) × (n ≡ m)
  Does a (asked.GcStart percent) (done.Started snapshot) m n = Begins v percent snapshot m n
  Does a asked.GcStep (done.Did phase) m n = GoesOn v phase m n
  Does a asked.GcStep (done.Collected freed copied) m n = Ends v freed copied m n
  Does a asked.Stat (done.Counted files segments bytes used free) m n =
      (done.Counted files segments bytes used free ≡ counted (finite.len m.now.names) m.store) × (n ≡ m)
  Does a asked.Unique (done.Unique segments bytes) m n = v.AreUnique (finite.values m.now.names) segments bytes × (n ≡ m)
  Does a step answer m n = ⊥

  -- ---- a step that is refused

  -- it stops, and may be found as it is or so, by the store that it has or one of these
  abbrev pub Stops : Option (Found V) → List Store → Machine V R → Machine V R → Type 0
  Stops other stores m n = n ≡ stopped other stores m

  -- a record broke off: before it a checkpoint may have come, in which the other selector is closed first
  abbrev pub broken_by : List ℕ → Change → Store → List Store
  broken_by name change store = with_change name change store ∷ with_other false store ∷ with_checkpoint store ∷ []

  -- what is said of it only where the disk tells its content; and what never comes there
  abbrev pub OnlyUnknown : Machine V R → Machine V R → Type 0
  OnlyUnknown m n = ¬ v.Known × (n ≡ m)

  abbrev pub IsUnkept : ℕ → (PinMap → Option (List ℕ)) → List ℕ → Machine V R → Type 0
  IsUnkept actor unkept key m = (pins : PinMap) × (part_in m actor ≡ Writing pins) × (unkept pins ≡ Some key)

  abbrev pub KeepsChildren : ℕ → KindSegment → Machine V R → Type 0
  KeepsChildren a seg m = Keeps a (first_unpinned seg) m

  abbrev pub RefusesClaim : ℕ → KindSegment → Refusal → Machine V R → Machine V R → Type 0
  RefusesClaim a seg (Unpinned key) m n = IsUnkept a (first_unpinned seg) key m × (n ≡ m)
  RefusesClaim a seg Memory m n = n ≡ m
  RefusesClaim a seg DiskRead m n = KeepsChildren a seg m × (n ≡ m)
  RefusesClaim a seg (Clash key at) m n = KeepsChildren a seg m × (v.Known → IsClash m.store m.forgotten seg key at) × (n ≡ m)
  RefusesClaim a seg (Corrupt slot offset count want got) m n = KeepsChildren a seg m × OnlyUnknown m n
  RefusesClaim a seg refusal m n = ⊥

  abbrev pub HasSlot : ℕ → List Contents → Machine V R → Type 0
  HasSlot a offered m = Keeps a (first_unkept_in offered) m × (RESERVE < free_slots m.store.held)

  abbrev pub HasSlotAndId : ℕ → List Contents → Machine V R → Type 0
  HasSlotAndId a offered m = HasSlot a offered m × (m.last_id < LAST_ID)

  -- the first of the segments that does not fit what is held is another node of its digest
  abbrev pub IsClashIn : Contents → List ℕ → Difference → Machine V R → Type 0
  IsClashIn filled key at m = (i : ℕ) × (x : _) × (slice_get filled.segments i ≡ Some x)
      × AllByRecursion (Fits m.store m.forgotten filled.kind) (take i filled.segments)
      × IsClash m.store m.forgotten (record { kind = filled.kind; segment = x }) key at

  -- container by container
  abbrev pub IsFirstClash : List Contents → List ℕ → Difference → Machine V R → Type 0
  IsFirstClash [] key at m = ⊥
  IsFirstClash (c ∷ cs) key at m = IsClashIn c key at m
      ⊎ (AllByRecursion (Fits m.store m.forgotten c.kind) c.segments × IsFirstClash cs key at m)

  abbrev pub RefusesSeal : ℕ → List Contents → Refusal → Machine V R → Machine V R → Type 0
  RefusesSeal a offered Memory m n = n ≡ m
  RefusesSeal a offered (Unpinned key) m n = IsUnkept a (first_unkept_in offered) key m × (n ≡ m)
  RefusesSeal a offered (Full free) m n =
      Keeps a (first_unkept_in offered) m × (free ≡ free_slots m.store.held) × (free ≤ RESERVE) × (n ≡ m)
  RefusesSeal a offered Numbers m n = HasSlot a offered m × (LAST_ID ≤ m.last_id) × (n ≡ m)
  RefusesSeal a offered DiskRead m n = HasSlotAndId a offered m × (n ≡ m)
  RefusesSeal a offered (Clash key at) m n =
      HasSlotAndId a offered m × (v.Known → IsFirstClash (sealed_in offered m) key at m) × (n ≡ m)
  RefusesSeal a offered (Corrupt slot offset count want got) m n = HasSlotAndId a offered m × OnlyUnknown m n
  RefusesSeal a offered DiskWrite m n = HasSlotAndId a offered m × (v.Known → AllFit (sealed_in offered m) m)
      × Stops None (stores_with_some m.last_id (sealed_in offered m) m.store) m n
  RefusesSeal a offered refusal m n = ⊥

  abbrev pub RefusesCommit : ℕ → List ℕ → V → Refusal → Machine V R → Machine V R → Type 0
  RefusesCommit a name value Memory m n = n ≡ m
  RefusesCommit a name value BadName m n = ¬ (IsName name) × (n ≡ m)
  RefusesCommit a name value TooMany m n =
      IsName name × (finite.get m.now.names name ≡ None) × (MOST_NAMES ≤ finite.len m.now.names) × (n ≡ m)
  RefusesCommit a name value (Unpinned key) m n = IsName name × HasRoom name m × (key ≡ root_key (v.root value))
      × ((pins : PinMap) × (part_in m a ≡ Writing pins) × ¬ (IsKept pins (v.root value))) × (n ≡ m)
  RefusesCommit a name value Numbers m n = MayCommit a name value m × LacksNumbers m × (n ≡ m)
  RefusesCommit a name value DiskWrite m n = MayCommit a name value m × HasNumbers m × v.IsValue value × HoldsValue value m
      × Stops (Some (with_name name value m.now)) (broken_by name (Put (v.root value)) m.store) m n
  RefusesCommit a name value refusal m n = ⊥

  abbrev pub RefusesDelete : List ℕ → Refusal → Machine V R → Machine V R → Type 0
  RefusesDelete name Memory m n = n ≡ m
  RefusesDelete name BadName m n = ¬ (IsName name) × (n ≡ m)
  RefusesDelete name NoFile m n = IsName name × (finite.get m.now.names name ≡ None) × (n ≡ m)
  RefusesDelete name Numbers m n = IsName name × HasName name m × LacksNumbers m × (n ≡ m)
  RefusesDelete name DiskWrite m n = IsName name × HasName name m × HasNumbers m
      × Stops (Some (without_name name m.now)) (broken_by name Gone m.store) m n
  RefusesDelete name refusal m n = ⊥

  abbrev pub RefusesRead : ℕ → Refusal → Machine V R → Machine V R → Type 0
  RefusesRead a refusal m n = (value : V) × (rest after : R) × (part_in m a ≡ Reading value rest) × v.Stays rest refusal after
      × (n ≡ put_at m a (Reading value after))

  -- containers are given back without any memory
  abbrev pub MayLack : Store → Option (Collection V) → Type 0
  MayLack store collection = (phase : Phase) × IsCollecting phase store collection × (phase ≢ phases.Release)

  abbrev pub RefusesGcStep : Refusal → Machine V R → Machine V R → Type 0
  RefusesGcStep NotCollecting m n = (m.collection ≡ None) × (n ≡ m)
  RefusesGcStep Memory m n = MayLack m.store m.collection × (n ≡ m)
  RefusesGcStep Numbers m n = IsCollecting phases.Flush m.store m.collection × (LAST_ID ≤ m.last_id) × (n ≡ m)
  RefusesGcStep DiskRead m n = (IsCollecting phases.Mark m.store m.collection ⊎ IsCollecting phases.Filter m.store m.collection
      ⊎ IsCollecting phases.Copy m.store m.collection ⊎ (IsCollecting phases.Flush m.store m.collection × (m.last_id < LAST_ID))) × (n ≡ m)
  RefusesGcStep DiskWrite m n = (stores : List Store) × MayBreak v m stores × Stops None stores m n
  RefusesGcStep (Corrupt slot offset count want got) m n =
      (IsCollecting phases.Mark m.store m.collection ⊎ IsCollecting phases.Copy m.store m.collection) × OnlyUnknown m n
  RefusesGcStep (Missing key) m n = IsCollecting phases.Mark m.store m.collection × OnlyUnknown m n
  RefusesGcStep (Damaged at why) m n = (IsCollecting phases.Mark m.store m.collection ⊎ IsCollecting phases.Filter m.store m.collection
      ⊎ IsCollecting phases.Copy m.store m.collection) × OnlyUnknown m n
  RefusesGcStep refusal m n = ⊥

  -- the nodes of the trees of all names are read, and memory is taken for each key
  abbrev pub RefusesUnique : Refusal → Machine V R → Machine V R → Type 0
  RefusesUnique Memory m n = n ≡ m
  RefusesUnique DiskRead m n = n ≡ m
  RefusesUnique (Corrupt slot offset count want got) m n = OnlyUnknown m n
  RefusesUnique (Missing key) m n = OnlyUnknown m n
  RefusesUnique (Damaged at why) m n = OnlyUnknown m n
  RefusesUnique refusal m n = ⊥

  -- Memory is free, where the step takes any, and comes whatever the actor is at. A call of the disk that failed is told by its count of
  -- faults.
  abbrev pub RefusesOn : ℕ → Asked V → Refusal → Machine V R → Machine V R → Type 0
  RefusesOn a (asked.Claim seg) refusal m n = RefusesClaim a seg refusal m n
  RefusesOn a (asked.Seal offered) refusal m n = RefusesSeal a offered refusal m n
  RefusesOn a (asked.Commit name value) refusal m n = RefusesCommit a name value refusal m n
  RefusesOn a (asked.OpenRead name) Memory m n = n ≡ m
  RefusesOn a (asked.OpenRead name) BadName m n = ¬ (IsName name) × (n ≡ m)
  RefusesOn a (asked.OpenRead name) NoFile m n = IsName name × (finite.get m.now.names name ≡ None) × (n ≡ m)
  RefusesOn a asked.ReadNext refusal m n = RefusesRead a refusal m n
  RefusesOn a (asked.Delete name) refusal m n = RefusesDelete name refusal m n
  RefusesOn a asked.ListNames Memory m n = n ≡ m
  RefusesOn a (asked.GcStart percent) Memory m n = (m.collection ≡ None) × (n ≡ m)
  RefusesOn a (asked.GcStart percent) (Missing key) m n = (m.collection ≡ None) × OnlyUnknown m n
  RefusesOn a (asked.GcStart percent) (Damaged at why) m n = (m.collection ≡ None) × OnlyUnknown m n
  RefusesOn a (asked.GcStart percent) (Collecting phase) m n = IsCollecting phase m.store m.collection × (n ≡ m)
  RefusesOn a asked.GcStep refusal m n = RefusesGcStep refusal m n
  RefusesOn a asked.Unique refusal m n = RefusesUnique refusal m n
  RefusesOn a step refusal m n = ⊥

  -- the actor is at another thing than the step takes
  abbrev pub IsAtWrongPart : ℕ → Asked V → PartKind → Machine V R → Type 0
  IsAtWrongPart a step kind m = (kind ≡ kind_of (part_in m a)) × ((taken : PartKind) × (taken_by step ≡ Some taken) × (kind ≢ taken))

  abbrev pub IsAtRightPart : ℕ → Asked V → Machine V R → Type 0
  IsAtRightPart a step m = (taken : PartKind) → taken_by step ≡ Some taken → kind_of (part_in m a) ≡ taken

  abbrev pub Refuses : ℕ → Asked V → Refusal → Machine V R → Machine V R → Type 0
  Refuses a step (WrongPart kind) m n = IsAtWrongPart a step kind m × (n ≡ m)
  Refuses a step Memory m n = RefusesOn a step Memory m n
  Refuses a step refusal m n = IsAtRightPart a step m × RefusesOn a step refusal m n

  -- ---- a step

  abbrev pub Answers : ℕ → Asked V → Result Done Refusal → Machine V R → Machine V R → Type 0
  Answers a step (Ok answer) m n = Does a step answer m n
  Answers a step (Err refusal) m n = Refuses a step refusal m n

  abbrev pub ByState : RunState V → ℕ → Asked V → Result Done Refusal → Machine V R → Machine V R → Type 0
  ByState Running a step answer m n = Answers a step answer m n
  ByState (Stopped other stores) a step answer m n = (answer ≡ Err (IsStopped m.acknowledged)) × (n ≡ m)

  abbrev pub LegalBy : Asked V → ℕ → Result Done Refusal → Machine V R → Machine V R → Type 0
  LegalBy asked.Reopen a answer m n = Reopens v answer m n
  LegalBy step a answer m n = ByState m.state a step answer m n

  abbrev pub Legal : Stepped V → Machine V R → Machine V R → Type 0
  Legal s m n = LegalBy s.asked s.actor s.answer m n
