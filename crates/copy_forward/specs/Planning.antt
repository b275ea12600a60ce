-- What a collection does with the copies of a container that it can't give back as it is (docs/MODEL.md, 'Copying').
use Rattle.std.specs.Prelude.{◌≡◌, ◌⊎◌, ◌==◌, ℕ, suc, ◌+◌, ◌≤◌, Bool, true, false, List, [], ◌∷◌, ◌++◌, length, drop, Option, None}
use Rattle.sha2.specs.Sha256.{sha256}
use Rattle.container_meta.specs.declared.entry.Entry.{Entry}
use Rattle.container_meta.specs.declared.kind.Kind.{Kind}
use Rattle.container_meta.specs.Format.{is_length, is_level}
use Rattle.container_meta.specs.Places.{PlaceMap}
use Rattle.container_meta.specs.Segments.{Contents, has_key, has_room}
use Rattle.gc_enumerate.specs.Live.{LiveKeys, IsLiveAt}
use Rattle.refusals.specs.declared.refusal.Refusal.{Refusal}
use Rattle.refusals.specs.declared.refusal.Refusal.TheVariants.{Memory, DiskRead, Damaged}
use Rattle.segment_index.specs.Places.{KnownMap}
use Rattle.store_model.specs.Indexing.{entry_key}
use Rattle.store_model.specs.Slots.{place_of}
use Rattle.store_model.specs.Trees.{bytes_at}
use Rattle.store_state.specs.Comparing.{IsCopyRefusal}
use Rattle.copy_forward.specs.declared.plan.Plan.{Plan}
use Rattle.copy_forward.specs.Entries.{is_copy}

-- ---- what is planned

-- the container that is looked at: its slot and its kind, beside the index's map, where it is known, and the live keys
pub record Source : Type 0 where
  pub known : Option PlaceMap
  pub live : LiveKeys
  pub slot : ℕ
  pub kind : Kind

abbrev pub source_of : Option PlaceMap → LiveKeys → ℕ → Kind → Source
source_of known live slot kind = record { known = known; live = live; slot = slot; kind = kind }

-- the container that is filled, and the keys that are to leave the index, in the order of their entries
pub record Planned : Type 0 where
  pub buffer : Contents
  pub dead : List (List ℕ)

abbrev pub planned : Contents → List (List ℕ) → Planned
planned buffer dead = record { buffer = buffer; dead = dead }

-- a kind has segments of an entry's length and level
pub record IsAllowed (kind : Kind) (e : Entry) : Type 0 where
  pub length_is : is_length kind e.length ≡ true
  pub level_is : is_level kind e.level ≡ true

-- ---- an entry; where the index's map isn't known, nothing is said of what it has

abbrev pub IsCopyIn : Source → Entry → Bool → Type 0
IsCopyIn s e copy = KnownMap s.known (λ m. is_copy m s.kind s.slot e ≡ copy)

abbrev pub HasLiveKey : Source → Entry → Type 0
HasLiveKey s e = IsLiveAt s.live (entry_key s.kind e) (place_of s.slot e)

-- the index's copy of a live key, and of a dead one
abbrev pub IsLiveIn : Source → Entry → Type 0
IsLiveIn s e = IsCopyIn s e true × HasLiveKey s e

abbrev pub IsDeadIn : Source → Entry → Type 0
IsDeadIn s e = IsCopyIn s e true × (HasLiveKey s e → ⊥)

-- a container lacks the entry's key, and has room for its segment, or has none
abbrev pub Lacks : Kind → Entry → Contents → Bool → Type 0
Lacks kind e buffer room = (has_key buffer (entry_key kind e) ≡ false) × (has_room buffer e.length ≡ room)

-- One segment is added, as the last, with the entry's level: reads showed its bytes at the entry's place, and they have its digest.
pub record Adds (slot : ℕ) (shown : (List ℕ → Type 0) → Type 0) (e : Entry) (before after : Contents) : Type 0 where
  pub bytes : List ℕ
  pub long : length bytes ≡ e.length
  pub there : shown (λ image. bytes_at (place_of slot e) image ≡ bytes)
  pub digest_is : sha256 bytes ≡ e.digest
  pub after_is : after ≡ record before { segments = before.segments ++ record { level = e.level; bytes = bytes } ∷ [] }

-- what a live copy adds to a container: nothing, where that has its key; else its segment
abbrev pub AddsLive : Kind → ℕ → ((List ℕ → Type 0) → Type 0) → Entry → Contents → Contents → Type 0
AddsLive kind slot shown e before after =
    ((has_key before (entry_key kind e) ≡ true) × (after ≡ before))
    ⊎ (Lacks kind e before true × Adds slot shown e before after)

-- what is planned of an entry: nothing; that its key leaves the index; or what a live copy adds
abbrev pub TakesOne : Source → ((List ℕ → Type 0) → Type 0) → Entry → Planned → Planned → Type 0
TakesOne s shown e before after =
    (IsCopyIn s e false × (after ≡ before))
    ⊎ (IsDeadIn s e × (after ≡ record before { dead = before.dead ++ entry_key s.kind e ∷ [] }))
    ⊎ (IsLiveIn s e × AddsLive s.kind s.slot shown e before.buffer after.buffer × (after.dead ≡ before.dead))

-- it is a live copy that doesn't fit
abbrev pub IsFull : Source → Entry → Contents → Type 0
IsFull s e buffer = IsLiveIn s e × Lacks s.kind e buffer false

-- ---- entries

-- One entry after the other is planned, so many of them: all, or those before the first live copy that doesn't fit.
abbrev pub Takes : Source → ((List ℕ → Type 0) → Type 0) → List Entry → Planned → Planned → ℕ → Type 0
Takes s shown [] before after count = (after ≡ before) × (count ≡ 0)
Takes s shown (e ∷ es) before after count =
    (IsFull s e before.buffer × (after ≡ before) × (count ≡ 0))
    ⊎ ((mid : Planned) × ((rest : ℕ) × ((count ≡ suc rest) × TakesOne s shown e before mid × Takes s shown es mid after rest)))

-- What is planned of a container from the entry of a number on. The container that is filled keeps what it had; where it had nothing,
-- all entries are planned, since it has room for what a container has.
pub record IsPlan (s : Source) (shown : (List ℕ → Type 0) → Type 0) (entries : List Entry) (from : ℕ) (buffer : Contents) (plan : Plan)
    : Type 0 where
  pub passed : ℕ
  pub takes : Takes s shown (drop from entries) (planned buffer []) (planned plan.buffer plan.dead.items) passed
  pub next_is : plan.next ≡ from + passed
  pub within : plan.next ≤ length entries
  pub whole : buffer.segments ≡ [] → plan.next ≡ length entries
  pub ended_is : plan.ended ≡ (plan.next == length entries)
  pub kind_is : plan.buffer.kind ≡ buffer.kind
  pub copied_is : length plan.buffer.segments ≡ length buffer.segments + plan.copied

-- ---- why nothing is planned

-- why an entry's segment is not added: no memory, or its copy is not given
abbrev pub IsAddRefusal : ((List ℕ → Type 0) → Type 0) → ℕ → Entry → Refusal → Type 0
IsAddRefusal shown slot e Memory = Unit {0}
IsAddRefusal shown slot e refusal = IsCopyRefusal shown (place_of slot e) e.digest refusal

-- why a live copy adds nothing
abbrev pub IsLiveRefusal : Kind → ℕ → ((List ℕ → Type 0) → Type 0) → Entry → Contents → Refusal → Type 0
IsLiveRefusal kind slot shown e buffer Memory = Unit {0}
IsLiveRefusal kind slot shown e buffer refusal =
    Lacks kind e buffer true × IsCopyRefusal shown (place_of slot e) e.digest refusal

-- why an entry is not planned: a read of the index or of the segment failed, damage of the index, or bytes of another digest
abbrev pub IsOneRefusal : Source → ((List ℕ → Type 0) → Type 0) → Entry → Contents → Refusal → Type 0
IsOneRefusal s shown e buffer Memory = Unit {0}
IsOneRefusal s shown e buffer DiskRead = Unit {0}
IsOneRefusal s shown e buffer (Damaged at why) = s.known ≡ None
IsOneRefusal s shown e buffer refusal = IsLiveIn s e × IsLiveRefusal s.kind s.slot shown e buffer refusal

-- an entry is not planned, and those before it were
abbrev pub IsStuck : Source → ((List ℕ → Type 0) → Type 0) → List Entry → Planned → Refusal → Type 0
IsStuck s shown [] before refusal = ⊥
IsStuck s shown (e ∷ es) before refusal =
    IsOneRefusal s shown e before.buffer refusal
    ⊎ ((mid : Planned) × (TakesOne s shown e before mid × IsStuck s shown es mid refusal))

-- Why no container is planned. Want of memory is free; a failed read is told by the disk's count of faults.
abbrev pub IsPlanRefusal : Source → ((List ℕ → Type 0) → Type 0) → List Entry → Planned → Refusal → Type 0
IsPlanRefusal s shown entries before Memory = Unit {0}
IsPlanRefusal s shown entries before refusal = IsStuck s shown entries before refusal
