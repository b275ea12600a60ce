-- A core that was opened runs, and runs can begin at it; one that was not opened again runs on.
use Rattle.store_core.proofs.Prelude.{◌≡◌, ℕ, zero, suc, Bool, true, false, List, [], length, Option, None, Some, Ok, Err, refl, sym, ◌∙◌, ap, subst, inl, inr, arith, AllByRecursion, Done, Reads, Shows, DiskView, IsDurable, reads_here, shown_content, slot_at, SameBefore, PlaceMap, ACTORS, Idle, Part, Refusal, Memory, Stands, Stored, Store, Encodes, IsValidFor, HasKey, last_id, free_reserve, store_once, Tables, HoldsPart, IndexesFiles, IsSettled, Represents, Runs, Stop, IndexesAll, LeavesUnread, IsSafeIn, CoreState, IsUnderWayIn, IsUp, UnlessStopped, IsRunning}
use Rattle.std.proofs.Common.{replicate}
use Rattle.std.proofs.lemmas.List.{length-replicate}
use Rattle.disk_format.specs.declared.why.Why.{Why}
use Rattle.recovery.specs.Opening.{IsOpened}
use Rattle.recovery.specs.Room.{FromRoom, LeavesOf, Opening, ReadsStore, RoomMade}
use Rattle.store_model.specs.Collisions.{IsOf}
use Rattle.store_model.proofs.Lookups.{indexed_by}
use Rattle.store_model.proofs.Reached.{reached_held}
use Rattle.store_state.specs.declared.open_store.OpenStore.{OpenStore}
use Rattle.store_state.specs.State as opened
use Rattle.store_core.specs.Opening.{IsNew, IsKept, BeginsAt, IsNotRead, IsReadFrom, OpensCore, OpensNone, StaysOrStops, WritesUnread}
use Rattle.store_core.proofs.Rooms.{has_room}
use Rattle.store_core.proofs.SafeSteps.{alone}

pub new_core : (shown : (List ℕ → Type 0) → Type 0) (size : ℕ) (o : OpenStore) (c : CoreState) → IsOpened shown size o → c.disk.size ≡ size
    → ((store : Store) → opened.Represents store o → Represents store c.known c.tables) → ((store : Store) → opened.Represents store o → IsValidFor size store → c.served)
    → ((store : Store) → opened.Represents store o → IndexesAll store c.known) → c.tables.held.last_id ≡ o.containers.last_id → ((places : PlaceMap) × (c.known ≡ Some places))
    → c.parts ≡ replicate ACTORS Idle → c.collection ≡ None → c.stop ≡ None → c.acknowledged ≡ 0 → IsNew shown size c
new_core shown size o c is same represents serves whole last told parts none stop count = record {
  store = is.found.store;
  right = is.found.right;
  represents = represents is.found.store is.found.represents;
  last_id_is = last ∙ is.found.represents.containers.last;
  valid = is.found.valid;
  reserve = is.reserve;
  parts_are = parts;
  collection_is = none;
  stop_is = stop;
  counted = count;
  served = serves is.found.store is.found.represents is.found.valid;
  told = told;
  whole = whole is.found.store is.found.represents;
}

pub new_runs : (shown : (List ℕ → Type 0) → Type 0) (size : ℕ) (c : CoreState) → c.disk.size ≡ size → IsNew shown size c → IsRunning c
new_runs shown size c same is = subst (λ (stop : Option Stop). UnlessStopped stop (IsUp c)) (sym is.stop_is) (record {
  runs = record {
    store = is.store;
    represents = alone is.store c.known c.tables is.represents;
    valid = subst (λ (n : ℕ). IsValidFor n is.store)
        (sym same) is.valid;
    has_free = omega (arith, is.reserve);
  };
  many = ap length is.parts_are ∙ length-replicate ACTORS Idle;
  served = is.served;
  under_way = subst (IsUnderWayIn c.tables.held) (sym is.collection_is) (has_room is.store.held c.tables.held is.represents.slots_hold is.valid.headers is.reserve);
})

-- ---- one over a store that was opened, with room that may have been made

module _ (D : Type 0) (view : D → DiskView) (old new : D) where
  read_core : (found : OpenStore) (tables : Tables) (known : Option PlaceMap) (served : Type 0) (breaks : ℕ → Why → List ℕ → Type 0) (parts : List Part)
      → ((store : Store) → opened.Represents store found → Represents store known tables)
      → ((store : Store) → opened.Represents store found → IsValidFor (view new).size store → served)
      → ((store : Store) → opened.Represents store found → IndexesAll store known)
      → tables.held.last_id ≡ found.containers.last_id → ((places : PlaceMap) × (known ≡ Some places)) → parts ≡ replicate ACTORS Idle
      → (mid : D) → ReadsStore (Ok found) (view mid) (view new)
      → IsReadFrom (view mid)
      (record { disk = view new; tables = tables; known = known; served = served; breaks = breaks; parts = parts; collection = None; stop = None; acknowledged = 0 })
  read_core found tables known served breaks parts represents serves whole last told are mid reads =
      let same : (view new).size ≡ (view mid).size = reads.reads.only.later.size_is in
      record {
        opened = new_core (Shows (view mid) (view new)) (view mid).size found
            (record { disk = view new; tables = tables; known = known; served = served; breaks = breaks; parts = parts; collection = None; stop = None; acknowledged = 0 })
            reads.opened same represents (λ store is valid. serves store is (subst (λ (n : ℕ). IsValidFor n store) (sym same) valid)) whole last told are refl refl refl;
        durable = reads.durable;
        reads = reads.reads;
      }

  pub core_read : (found : OpenStore) (tables : Tables) (known : Option PlaceMap) (served : Type 0) (breaks : ℕ → Why → List ℕ → Type 0) (parts : List Part)
      → Opening D view (Ok found) old new
      → ((store : Store) → opened.Represents store found → Represents store known tables)
      → ((store : Store) → opened.Represents store found → IsValidFor (view new).size store → served)
      → ((store : Store) → opened.Represents store found → IndexesAll store known)
      → tables.held.last_id ≡ found.containers.last_id → ((places : PlaceMap) × (known ≡ Some places)) → parts ≡ replicate ACTORS Idle
      → OpensCore D view (view old)
      (record { disk = view new; tables = tables; known = known; served = served; breaks = breaks; parts = parts; collection = None; stop = None; acknowledged = 0 })
  core_read found tables known served breaks parts (inl is) represents serves whole last told are =
      inl (read_core found tables known served breaks parts represents serves whole last told are old is.0)
  core_read found tables known served breaks parts (inr (inl is)) represents serves whole last told are =
      inr (is.0, (is.1.0, read_core found tables known served breaks parts represents serves whole last told are is.0 is.1.1))
  core_read found tables known served breaks parts (inr (inr is)) represents serves whole last told are = absurd is

  refused_reading : (refusal : Refusal) (before : DiskView) → ReadsStore (Err refusal) before (view new) → IsNotRead refusal before (view new)
  refused_reading refusal before reads = record { cause = reads.refused; given_up = reads.only; reads = reads.reads }

  pub not_read : (refusal : Refusal) → Opening D view (Err refusal) old new → OpensNone D view refusal (view old) (view new)
  not_read refusal (inl is) = inl (refused_reading refusal (view old) is.0, is.1)
  not_read refusal (inr (inl is)) = inr (inl (is.0, (is.1.0, refused_reading refusal (view is.0) is.1.1)))
  not_read refusal (inr (inr is)) = inr (inr is)

  pub leaves_unread : (wrote : Bool) (refusal : Refusal) → LeavesOf D view wrote refusal old new → LeavesUnread D view wrote refusal (view old) (view new)
  leaves_unread false refusal leaves = leaves
  leaves_unread true refusal (inl made) = inl (made.0, (made.1.0, refused_reading refusal (view made.0) made.1.1))
  leaves_unread true refusal (inr unmade) = inr unmade

-- there was no memory for the parts, and nothing was done
pub not_begun : (D : Type 0) (view : D → DiskView) (v : DiskView) → OpensNone D view Memory v v
not_begun D view v = inl (
  record {
    cause = tt;
    given_up = record { parts = []; returned = tt; known = λ image told. tt; shows = λ image sized has store right. refl };
    reads = record { only = reads_here v; faults_are = refl };
  },
  tt,
)

-- ---- the same of all that has such a disk

module _ (D C : Type 0) (view : D → DiskView) (disk_of : C → DiskView) (put : D → C) (same : (d : D) → disk_of (put d) ≡ view d) where
  from_room : (P : DiskView → Type 0) (old : DiskView) → FromRoom D view P old → FromRoom C disk_of P old
  from_room P old (inl is) = inl is
  from_room P old (inr is) = inr (put is.0, subst (λ (v : DiskView). RoomMade old v × P v) (sym (same is.0)) is.1)

  pub core_over : (old : DiskView) (c : CoreState) → OpensCore D view old c → OpensCore C disk_of old c
  core_over old c is = from_room (λ before. IsReadFrom before c) old is

  pub none_over : (refusal : Refusal) (old new : DiskView) → OpensNone D view refusal old new → OpensNone C disk_of refusal old new
  none_over refusal old new (inl is) = inl is
  none_over refusal old new (inr (inl is)) = inr (inl (put is.0, subst (λ (v : DiskView). RoomMade old v × IsNotRead refusal v new) (sym (same is.0)) is.1))
  none_over refusal old new (inr (inr is)) = inr (inr is)

  pub writes_over : (refusal : Refusal) (old new : DiskView) → WritesUnread D view refusal old new → WritesUnread C disk_of refusal old new
  writes_over refusal old new (inl is) = inl (put is.0, subst (λ (v : DiskView). RoomMade old v × IsNotRead refusal v new) (sym (same is.0)) is.1)
  writes_over refusal old new (inr is) = inr is

read_runs : (before : DiskView) (c : CoreState) → IsReadFrom before c → IsRunning c
read_runs before c is = new_runs (Shows before c.disk) before.size c is.reads.only.later.size_is is.opened

pub opened_runs : (D : Type 0) (view : D → DiskView) (old : DiskView) (c : CoreState) → OpensCore D view old c → IsRunning c
opened_runs D view old c (inl is) = read_runs old c is
opened_runs D view old c (inr is) = read_runs (view is.0) c is.1.1

-- ---- one that was not opened again

module _ (old new : CoreState) (same_size : new.disk.size ≡ old.disk.size) (kept : IsKept old new) where
  kept_up : IsUp old → IsUp new
  kept_up up = record {
    runs = subst (λ (size : ℕ). Runs size None new.tables) (sym same_size) (subst (λ (tables : Tables). Runs old.disk.size None tables) (sym kept.tables_are) up.runs);
    many = ap length kept.parts_are ∙ up.many;
    served = kept.served up.served;
    under_way = subst (IsUnderWayIn new.tables.held) (sym kept.collection_is) (subst (λ (t : Tables). IsUnderWayIn t.held old.collection) (sym kept.tables_are) up.under_way);
  }

  unless_stopped : (stop : Option Stop) → UnlessStopped stop (IsUp old) → UnlessStopped stop (IsUp new)
  unless_stopped None up = kept_up up
  unless_stopped (Some stop) up = tt

  pub kept_runs : IsRunning old → IsRunning new
  kept_runs running = subst (λ (stop : Option Stop). UnlessStopped stop (IsUp new)) (sym kept.stop_is) (unless_stopped old.stop running)

-- as it was over a disk that was only read, or stopped
pub stays_runs : (D : Type 0) (view : D → DiskView) (refusal : Refusal) (old new : CoreState) → StaysOrStops D view refusal old new → IsRunning old → IsRunning new
stays_runs D view refusal old new (inl is) running = kept_runs old new is.1.only.later.size_is is.0 running
stays_runs D view refusal old new (inr stops) running = subst (λ (stop : Option Stop). UnlessStopped stop (IsUp new)) (sym stops.stop_is) tt

-- ---- what runs begin at

-- of a disk that tells its content each image is it
pub durable_settled : (slots : ℕ) (v : DiskView) → IsDurable v → IsSettled slots v
durable_settled slots v durable bytes is c image = subst (SameBefore (slot_at slots) bytes) (sym (durable bytes is c image)) (record { size = refl; before = λ p n within. refl })

-- an idle actor needs nothing of the disk
idle_parts : (P : List ℕ → Type 0) (store : Store) (image : List ℕ) (n : ℕ) → AllByRecursion (HoldsPart P store.held image) (replicate n Idle)
idle_parts P store image zero = tt
idle_parts P store image (suc n) = (tt, idle_parts P store image n)

-- Over a content that is of these files it is at them, by the store that the content is.
pub begins_at : (S : List ℕ → Type 0) (stored : Stored) (image : List ℕ) (v : DiskView) (c : CoreState) → IsNew (Shows v c.disk) v.size c → IsDurable c.disk → Reads Done v c.disk
    → v.content ≡ Some image → IsOf S stored image → BeginsAt S stored c
begins_at S stored image v c new durable reads told is =
    let stands : Stands S is.store stored.files image = is.stands in
    let same : new.store ≡ is.store = store_once image new.store is.store (shown_content v c.disk (λ bytes. Encodes bytes new.store) image new.right told) stands.holds.right in
    let represents : Represents is.store c.known c.tables = subst (λ (store : Store). Represents store c.known c.tables) same new.represents in
    let here : c.disk.content ≡ Some image = reads.only.content_is ∙ told in
    let whole : IndexesAll is.store c.known = subst (λ (store : Store). IndexesAll store c.known) same new.whole in
    let files_indexed : IndexesFiles new.told.0 stored.files =
    reached_held (HasKey new.told.0) is.store stored.files image stands.holds.files_are (indexed_by is.store.held new.told.0 (whole new.told.0 new.told.1)) in
    record {
      store = is.store;
      is_at = record {
        represents = represents;
        index = new.told.0;
        index_known = new.told.1;
        valid = subst (λ (size : ℕ). IsValidFor size is.store) (sym reads.only.later.size_is) (subst (λ (store : Store). IsValidFor v.size store) same new.valid);
        stands = record {
          known = (image, here);
          each = λ left leaves. subst (λ (bytes : List ℕ). Stands S is.store stored.files bytes) (sym (durable image here left leaves)) stands;
        };
        last_is = represents.names_are.last_is ∙ is.last_is;
        invariant = λ bytes told_here. record {
          index_is_newest = represents.index_is_newest new.told.0 new.told.1;
          files_are_indexed = files_indexed;
          pins_are_closed = subst (AllByRecursion (HoldsPart (HasKey new.told.0) is.store.held bytes)) (sym new.parts_are) (idle_parts (HasKey new.told.0) is.store bytes ACTORS);
          reserve_holds = free_reserve (HasKey new.told.0) is.store.held is.reserve;
          has_free = omega (arith, is.reserve);
        };
        many = ap length new.parts_are ∙ length-replicate ACTORS Idle;
        under_way = subst (IsUnderWayIn c.tables.held) (sym new.collection_is) (has_room new.store.held c.tables.held new.represents.slots_hold new.valid.headers new.reserve);
        safe = λ bytes told_here. subst (IsSafeIn new.told.0 is.store c.parts bytes) (sym new.collection_is) tt;
      };
      reserve = is.reserve;
      whole = whole;
      none_runs = new.collection_is;
      last_id_is = new.last_id_is ∙ ap (λ (store : Store). last_id store.held) same;
      settled = durable_settled c.tables.slots c.disk durable;
    }
