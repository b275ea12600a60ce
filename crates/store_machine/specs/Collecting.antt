-- The steps of a collection (docs/MODEL.md, 'Collection'). By `v.Known` what they say of containers is said only where the disk tells its
-- content.
use Rattle.std.specs.Prelude.{◌≡◌, ◌≢◌, ◌⊎◌, ℕ, suc, zero, ◌+◌, ◌*◌, ◌==◌, ◌<◌, ◌≤◌, Bool, true, false, List, [], ◌∷◌, ◌++◌, get_or, length, map, nat_lt, if◌then◌else◌, slice_get, drop, take, Contains, Option, Some, None}
use Rattle.std.specs.FinMap as finite
use Rattle.std.specs.List.{AllByRecursion}
use Rattle.base_model.specs.Bytes.{byte_at}
use Rattle.container_meta.specs.declared.entry.Entry.{Entry}
use Rattle.container_meta.specs.declared.kind.Kind.{Kind}
use Rattle.container_meta.specs.declared.kind.Kind.TheVariants.{Leaf, Tree}
use Rattle.container_meta.specs.Format.{kind_byte}
use Rattle.container_meta.specs.Segments.{Segment, segment_key}
use Rattle.container_meta.specs.Spelling.{HeaderValue, bytes_of}
use Rattle.disk_format.specs.declared.numbers.TheConstants.{DATA_BYTES, LAST_ID, MOST_ENTRIES, MOST_LEVEL}
use Rattle.gc_select.specs.declared.liveness.ContainerLiveness.{ContainerLiveness}
use Rattle.gc_select.specs.Selecting.{ids_of, selected, sources_of}
use Rattle.refusals.specs.declared.refusal.Phase.{Phase}
use Rattle.refusals.specs.declared.refusal.Phase.TheVariants.{Copy, End, Filter, Flush, Mark, Release, Select}
use Rattle.store_model.specs.Freeing.{without_some}
use Rattle.store_model.specs.Image.{Store}
use Rattle.store_model.specs.Indexing.{entry_key}
use Rattle.store_model.specs.Needed.{Needs}
use Rattle.store_model.specs.Reserve.{IsSpare}
use Rattle.store_model.specs.Slots.{Copy as KeyCopy, newest, place_of}
use Rattle.store_model.specs.Steps.{CanChange, FlushContainer, FreeContainer, StoreChange, changed, with_sealed}
use Rattle.store_machine.specs.Machine.{Collection, Machine, Stage, Marking, Recording, Sweeping, Sweep}
use Rattle.store_machine.specs.Needs.{HasCopy, IndexHas, IsNeeded, NeededSince, forgotten_beside, keys_kept, keys_of, values_read}
use Rattle.store_machine.specs.Offers.{some_marks}
use Rattle.store_machine.specs.Values.{Values}

-- ---- counts

-- how many containers of nodes there are
abbrev pub one_tree : Kind → ℕ
one_tree Leaf = 0
one_tree Tree = 1

abbrev pub trees_in : List (Option HeaderValue) → ℕ
trees_in [] = 0
trees_in (None ∷ cs) = trees_in cs
trees_in (Some h ∷ cs) = one_tree h.kind + trees_in cs

-- each of these is scanned once for each level
abbrev pub marks_of : List (Option HeaderValue) → ℕ
marks_of held = MOST_LEVEL * trees_in held

-- the ids below the snapshot of the containers in the slots, in their order
abbrev pub ids_before : ℕ → List (Option HeaderValue) → List ℕ
ids_before snapshot [] = []
ids_before snapshot (None ∷ cs) = ids_before snapshot cs
ids_before snapshot (Some h ∷ cs) = if nat_lt h.id snapshot then h.id ∷ ids_before snapshot cs else ids_before snapshot cs

-- how many containers changes gave back, and which keys they wrote
abbrev pub freed_in : List StoreChange → ℕ
freed_in [] = 0
freed_in (FreeContainer slot ∷ more) = suc (freed_in more)
freed_in (change ∷ more) = freed_in more

abbrev pub keys_written : List StoreChange → List (List ℕ)
keys_written [] = []
keys_written (FlushContainer id kind segments ∷ more) = keys_of kind segments ++ keys_written more
keys_written (change ∷ more) = keys_written more

-- its sources, by what it recorded
abbrev pub sources_in : {V : Type 0} → Collection V → List ℕ
sources_in c = sources_of (selected c.snapshot c.percent c.recorded)

-- ---- which step comes next

-- so many scans are to come
abbrev pub marking : ℕ → Stage
marking zero = Recording
marking (suc left) = Marking left

-- the kind of the container of an id
abbrev pub kind_of_id : List (Option HeaderValue) → ℕ → Option Kind
kind_of_id [] id = None
kind_of_id (None ∷ cs) id = kind_of_id cs id
kind_of_id (Some h ∷ cs) id = if h.id == id then Some h.kind else kind_of_id cs id

-- what is to be written and the next source have segments of one kind
abbrev pub is_of_kind : List ℕ → Option Kind → Bool
is_of_kind key None = false
is_of_kind key (Some kind) = byte_at 0 key == kind_byte kind

-- What comes next in a sweep of these sources: those that are ready are given back. Where none is, the next source is copied, if nothing is
-- to be written, or segments of its kind; else that is written.
abbrev pub next_by : List (Option HeaderValue) → List ℕ → (source : ℕ) → (ready : List ℕ) (filled : List (List ℕ)) → Phase
next_by held sources source (id ∷ ids) filled = Release
next_by held sources source [] [] = if nat_lt source (length sources) then Copy else End
next_by held sources source [] (key ∷ keys) =
    if nat_lt source (length sources)
    then (if is_of_kind key (kind_of_id held (get_or sources source 0)) then Copy else Flush)
    else Flush

abbrev pub next_of : List (Option HeaderValue) → List ℕ → Sweep → Phase
next_of held sources s = next_by held sources s.source s.ready s.filled

-- the next step of a collection
abbrev pub phase_by : List (Option HeaderValue) → {V : Type 0} → Collection V → Stage → Phase
phase_by held c (Marking left) = Mark
phase_by held c Recording = if nat_lt (length c.recorded) (length (ids_before c.snapshot held)) then Filter else Select
phase_by held c (Sweeping next s) = next

abbrev pub phase_in : {V : Type 0} → Store → Collection V → Phase
phase_in store c = phase_by store.held c c.stage

abbrev pub IsCollecting : {V : Type 0} → Phase → Store → Option (Collection V) → Type 0
IsCollecting phase store None = ⊥
IsCollecting phase store (Some c) = phase ≡ phase_in store c

-- a sweep that begins
abbrev pub no_sweep : Sweep
no_sweep = record { source = 0; entry = 0; filled = []; waiting = []; ready = [] }

-- ---- what a step makes of the store

-- a change is made where it can be
abbrev pub Makes : List StoreChange → Store → Store → Type 0
Makes [] s t = t ≡ s
Makes (change ∷ more) s t = CanChange change s × Makes more (changed change s) t

-- from the first copying step on
abbrev pub swept_by : Phase → Bool → Bool
swept_by Copy swept = true
swept_by phase swept = swept

abbrev pub last_by : List StoreChange → ℕ → ℕ
last_by (FlushContainer id kind segments ∷ more) last = id
last_by changes last = last

-- how many bytes the copies of these keys have
abbrev pub length_of : Option KeyCopy → ℕ
length_of None = 0
length_of (Some copy) = copy.place.length

abbrev pub bytes_filled : List (Option HeaderValue) → List (List ℕ) → ℕ
bytes_filled held [] = 0
bytes_filled held (key ∷ keys) = length_of (newest 0 held key) + bytes_filled held keys

-- a container that is filled with copies of these keys has no room for one more of so many bytes
abbrev pub HasNoRoom : List (Option HeaderValue) → List (List ℕ) → ℕ → Type 0
HasNoRoom held keys count = (MOST_ENTRIES ≤ length keys) ⊎ (DATA_BYTES < bytes_filled held keys + count)

-- a copy may be written: no copy of its key was before, and the segment is what the newest copy has
abbrev pub IsCopyOf : {V : Type 0} → Collection V → Store → Kind → Segment → Type 0
IsCopyOf c store kind x =
    ¬ (Contains (keys_written c.changes) (segment_key kind x)) × HasCopy store (record { kind = kind; segment = x })

-- ---- the sources that are given back

-- the containers of these ids are in these slots, one by one
abbrev pub StandIn : List (Option HeaderValue) → List ℕ → List ℕ → Type 0
StandIn held [] [] = Unit {0}
StandIn held (id ∷ ids) (slot ∷ slots) =
    ((header : HeaderValue) × (slice_get held slot ≡ Some (Some header)) × (header.id ≡ id)) × StandIn held ids slots
StandIn held ids slots = ⊥

-- the stores without some of the containers in these slots, whichever, but one at least
abbrev pub stores_without_some : List ℕ → Store → List Store
stores_without_some slots store = map (λ marks. without_some marks slots store) (some_marks (length slots))

-- ---- what a copying step goes over

-- what is to be written, and the keys that the index lacks
pub record Gathered : Type 0 where
  pub filled : List (List ℕ)
  pub forgotten : List (List ℕ)

-- what a step of a collection leaves of it, of the store and of what the index lacks
pub record Went : Type 0 where
  pub stage : Stage
  pub recorded : List ContainerLiveness
  pub changes : List StoreChange
  pub forgotten : List (List ℕ)

module _ {V R : Type 0} (v : Values V R) where
  -- The entry of a source is passed over, since the index has not it as the copy of its key, or a copy of that is to be written already;
  -- its key is forgotten, since nothing needs it; or a copy of it is to be written.
  abbrev pub TakesOne : Collection V → Store → (slot : ℕ) (kind : Kind) → Entry → Gathered → Gathered → Type 0
  TakesOne c store slot kind e g after =
      (¬ (IndexHas store g.forgotten (entry_key kind e) (place_of slot e)) × (after ≡ g))
      ⊎ (IndexHas store g.forgotten (entry_key kind e) (place_of slot e) × ((¬ (NeededSince v c (entry_key kind e))
      × (after ≡ record g { forgotten = g.forgotten ++ entry_key kind e ∷ [] }))
      ⊎ (NeededSince v c (entry_key kind e) × (((Contains g.filled (entry_key kind e)) × (after ≡ g))
      ⊎ (¬ (Contains g.filled (entry_key kind e)) × ¬ (HasNoRoom store.held g.filled e.length)
      × (after ≡ record g { filled = g.filled ++ entry_key kind e ∷ [] }))))))

  abbrev pub TakesAll : Collection V → Store → (slot : ℕ) (kind : Kind) → List Entry → Gathered → Gathered → Type 0
  TakesAll c store slot kind [] g after = after ≡ g
  TakesAll c store slot kind (e ∷ es) g after =
      (mid : Gathered) × TakesOne c store slot kind e g mid × TakesAll c store slot kind es mid after

  -- the entry does not fit: the copy of a key that was needed, for which there is no room
  pub record DoesNotFit (c : Collection V) (store : Store) (slot : ℕ) (kind : Kind) (e : Entry) (g : Gathered) : Type 0 where
    pub copy : IndexHas store g.forgotten (entry_key kind e) (place_of slot e)
    pub needed : NeededSince v c (entry_key kind e)
    pub new : ¬ (Contains g.filled (entry_key kind e))
    pub full : HasNoRoom store.held g.filled e.length

  -- Of a source a copying step goes over the entries from one on, in their order: to its end, or up to the first that does not fit.
  pub record GoesOver (c : Collection V) (store : Store) (s t : Sweep) (forgotten forgotten_now : List (List ℕ)) : Type 0 where
    pub slot : ℕ
    pub header : HeaderValue
    pub there : slice_get store.held slot ≡ Some (Some header)
    pub id_is : header.id ≡ get_or (sources_in c) s.source 0
    pub stop : ℕ
    pub from : s.entry ≤ stop
    pub takes : TakesAll c store slot header.kind (drop s.entry (take stop header.entries))
        (record { filled = s.filled; forgotten = forgotten }) (record { filled = t.filled; forgotten = forgotten_now })
    pub stops : ((stop ≡ length header.entries) × (t.source ≡ suc s.source))
        ⊎ ((t.source ≡ s.source) × (t.entry ≡ stop) × ((e : Entry) × (slice_get header.entries stop ≡ Some e)
        × DoesNotFit c store slot header.kind e (record { filled = t.filled; forgotten = forgotten_now })))

  -- ---- what each kind of step does

  -- What is recorded of a container of before the snapshot: how many bytes its entries have, and how many of these count as live: those of
  -- newest copies of keys that were needed as the collection began, or since.
  pub record IsRecordOf (c : Collection V) (store : Store) (r : ContainerLiveness) : Type 0 where
    pub slot : ℕ
    pub header : HeaderValue
    pub there : slice_get store.held slot ≡ Some (Some header)
    pub before : header.id < c.snapshot
    pub id_is : r.id ≡ header.id
    pub kind_is : r.kind ≡ header.kind
    pub all_is : r.all ≡ bytes_of header.entries
    pub live_is : v.Known → Needs (NeededSince v c) store.held slot header r.live

  -- nothing is recorded, changed or forgotten
  abbrev pub JustGoes : Collection V → Machine V R → Went → Type 0
  JustGoes c m w = (w.recorded ≡ c.recorded) × (w.changes ≡ []) × (w.forgotten ≡ m.forgotten)

  -- A container is scanned.
  abbrev pub Marks : Collection V → Machine V R → Went → Type 0
  Marks c m w = (left : ℕ) × (c.stage ≡ Marking left) × (w.stage ≡ marking left) × JustGoes c m w

  -- The next container is recorded, in the order of slots.
  abbrev pub Records : Collection V → Machine V R → Went → Type 0
  Records c m w = (r : ContainerLiveness) × (c.stage ≡ Recording) × (w.stage ≡ Recording) × (w.recorded ≡ c.recorded ++ r ∷ [])
      × (w.changes ≡ []) × (w.forgotten ≡ m.forgotten)
      × ((rest : List ℕ) × (ids_before c.snapshot m.store.held ≡ ids_of w.recorded ++ rest)) × IsRecordOf c m.store r

  -- All were recorded, and the sources are chosen.
  abbrev pub Chooses : Collection V → Machine V R → Went → Type 0
  Chooses c m w = (c.stage ≡ Recording) × (ids_of c.recorded ≡ ids_before c.snapshot m.store.held)
      × (w.stage ≡ Sweeping (next_of m.store.held (sources_in c) no_sweep) no_sweep) × JustGoes c m w

  -- A source was copied: to its end, so that it waits, if copies of it are to be written, and else is ready; or in part, where something
  -- was to be written before, and then that comes next. On a disk that tells nothing it may be left alone: where what it gives is no
  -- container of before.
  abbrev pub Copies : Collection V → Machine V R → Went → Type 0
  Copies c m w = (s t : Sweep) × (next : Phase) × (c.stage ≡ Sweeping Copy s) × (w.stage ≡ Sweeping next t)
      × (w.recorded ≡ c.recorded) × (w.changes ≡ []) × (s.source < length (sources_in c)) × (s.ready ≡ [])
      × ((more gone : List (List ℕ)) × (t.filled ≡ s.filled ++ more) × (w.forgotten ≡ m.forgotten ++ gone))
      × (v.Known → GoesOver c m.store s t m.forgotten w.forgotten)
      × (((t.source ≡ suc s.source) × (t.entry ≡ 0) × (next ≡ next_of m.store.held (sources_in c) t)
      × (((length s.filled < length t.filled) × (t.waiting ≡ s.waiting ++ get_or (sources_in c) s.source 0 ∷ []) × (t.ready ≡ []))
      ⊎ ((t.filled ≡ s.filled) × (t.waiting ≡ s.waiting) × (t.ready ≡ get_or (sources_in c) s.source 0 ∷ []))
      ⊎ (¬ v.Known × (t.filled ≡ s.filled) × (t.waiting ≡ s.waiting) × (t.ready ≡ []))))
      ⊎ ((t.source ≡ s.source) × (s.entry ≤ t.entry) × (next ≡ Flush) × (s.filled ≢ []) × (t.filled ≢ []) × (t.waiting ≡ s.waiting)
      × (t.ready ≡ [])))

  -- What is to be written is, in a container of the next id: just these keys, in their order, of which none was written before. The index
  -- has them then, and the sources that waited are ready.
  abbrev pub Flushes : Collection V → Machine V R → Went → Type 0
  Flushes c m w = (s t : Sweep) × (kind : Kind) × (segments : List Segment) × (c.stage ≡ Sweeping Flush s)
      × (w.changes ≡ FlushContainer (suc m.last_id) kind segments ∷ []) × (keys_of kind segments ≡ s.filled)
      × (t ≡ record s { filled = []; waiting = []; ready = s.waiting })
      × (w.stage ≡ Sweeping (next_of m.store.held (sources_in c) t) t) × (w.recorded ≡ c.recorded)
      × (w.forgotten ≡ forgotten_beside s.filled m.forgotten)
      × (v.Known → AllByRecursion (IsCopyOf c m.store kind) segments)

  -- All sources that are ready are given back: each holds the newest copy of no key that is needed, or was since the collection began.
  abbrev pub Releases : Collection V → Machine V R → Went → Type 0
  Releases c m w = (s t : Sweep) × (slots : List ℕ) × (c.stage ≡ Sweeping Release s) × (s.ready ≢ [])
      × StandIn m.store.held s.ready slots × (w.changes ≡ map FreeContainer slots)
      × (t ≡ record s { ready = [] }) × (w.stage ≡ Sweeping (next_of m.store.held (sources_in c) t) t)
      × (w.recorded ≡ c.recorded) × (w.forgotten ≡ m.forgotten)
      × (v.Known → AllByRecursion (IsSpare (IsNeeded v m) m.store.held) slots)

  abbrev pub Goes : Phase → Collection V → Machine V R → Went → Type 0
  Goes Mark c m w = Marks c m w
  Goes Filter c m w = Records c m w
  Goes Select c m w = Chooses c m w
  Goes Copy c m w = Copies c m w
  Goes Flush c m w = Flushes c m w
  Goes Release c m w = Releases c m w
  Goes phase c m w = ⊥

  -- ---- a step that broke off, as it wrote: which stores may stand then beside that of before

  -- What was to be written may be, in a container of the next id.
  pub record BreaksFlush (m : Machine V R) (stores : List Store) : Type 0 where
    pub c : Collection V
    pub ran : m.collection ≡ Some c
    pub s : Sweep
    pub stage_is : c.stage ≡ Sweeping Flush s
    pub left : m.last_id < LAST_ID
    pub kind : Kind
    pub segments : List Segment
    pub keys_are : keys_of kind segments ≡ s.filled
    pub copies : v.Known → AllByRecursion (IsCopyOf c m.store kind) segments
    pub stores_are : stores ≡ with_sealed (suc m.last_id) kind segments m.store ∷ []

  -- Some of the sources that are ready may be given back, whichever, but one at least.
  pub record BreaksRelease (m : Machine V R) (stores : List Store) : Type 0 where
    pub c : Collection V
    pub ran : m.collection ≡ Some c
    pub s : Sweep
    pub stage_is : c.stage ≡ Sweeping Release s
    pub some : s.ready ≢ []
    pub slots : List ℕ
    pub stand : StandIn m.store.held s.ready slots
    pub spare : v.Known → AllByRecursion (IsSpare (IsNeeded v m) m.store.held) slots
    pub stores_are : stores ≡ stores_without_some slots m.store

  -- A copying step breaks off by its change of an index that lies on the disk.
  abbrev pub MayBreak : Machine V R → List Store → Type 0
  MayBreak m stores =
      (IsCollecting Copy m.store m.collection × (stores ≡ [])) ⊎ BreaksFlush m stores ⊎ BreaksRelease m stores

  -- ---- the steps

  -- None ran, and one runs, of the next id as its snapshot.
  abbrev pub Begins : (percent snapshot : ℕ) → Machine V R → Machine V R → Type 0
  Begins percent snapshot m n = (m.collection ≡ None) × (snapshot ≡ suc m.last_id) × (n ≡ record m {
    collection = Some (record {
      percent = percent;
      snapshot = snapshot;
      stage = marking (marks_of m.store.held);
      recorded = [];
      changes = [];
      values = finite.values m.now.names ++ values_read m.parts;
      keys = keys_kept m.parts;
    });
  })

  -- It went on by a step of the kind that came next.
  pub record GoesOn (phase : Phase) (m n : Machine V R) : Type 0 where
    pub c : Collection V
    pub ran : m.collection ≡ Some c
    pub phase_is : phase ≡ phase_in m.store c
    pub went : Went
    pub goes : Goes phase c m went
    pub makes : Makes went.changes m.store n.store
    pub others : n ≡ record m {
      store = n.store;
      last_id = last_by went.changes m.last_id;
      forgotten = went.forgotten;
      swept = swept_by phase m.swept;
      collection = Some (record c { stage = went.stage; recorded = went.recorded; changes = c.changes ++ went.changes });
    }

  -- It came to its end, and tells how many containers it gave back, and how many segments it wrote.
  pub record Ends (freed copied : ℕ) (m n : Machine V R) : Type 0 where
    pub c : Collection V
    pub ran : m.collection ≡ Some c
    pub s : Sweep
    pub at_end : c.stage ≡ Sweeping End s
    pub freed_is : freed ≡ freed_in c.changes
    pub copied_is : copied ≡ length (keys_written c.changes)
    pub others : n ≡ record m { collection = None }
