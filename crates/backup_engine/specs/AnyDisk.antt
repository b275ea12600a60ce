-- What the top call promises over any disk, also one that tells nothing, or lies (docs/MODEL.md, 'The promise').
use Rattle.std.specs.Prelude.{◌≡◌, ◌≢◌, ◌⊎◌, ℕ, ◌+◌, ◌<◌, ◌≤◌, List, [], length, Contains, sum_by, is_some, slice_get, Option, None, Some, Err}
use Rattle.std.specs.FinMap as finite
use Rattle.std.specs.List.{AllByRecursion, concat}
use Rattle.base_model.specs.Bytes.{byte_at, range}
use Rattle.base_model.specs.Fault.{Rose}
use Rattle.base_model.specs.Known.{Known, KnownWith, Appended}
use Rattle.base_model.specs.Checks.{passes}
use Rattle.container_log.specs.Faults.{IsDamage}
use Rattle.disk_format.specs.declared.numbers.TheConstants.{FORMAT_GATE, LAST_ID, RESERVE}
use Rattle.disk_format.specs.Layout.{IsSlotCount, size_of, slot_at}
use Rattle.namespace.specs.Listing.{listing_of}
use Rattle.disk_format.specs.Cells.{Root}
use Rattle.disk_format.specs.Cells.Change.{Put, Delete as Gone}
use Rattle.dd_disk.specs.View.{DiskView, IsDurable}
use Rattle.dd_disk.specs.Moves.{StandsFor}
use Rattle.dd_disk.specs.Ending.{NoCall, Done, CountsFault, ending_of}
use Rattle.dd_disk.specs.Ending as device
use Rattle.dd_disk.specs.Shows.{Part, HasPart, Shows}
use Rattle.dd_io.specs.Flow.{SourceView, SinkView, AppendedPart}
use Rattle.container_meta.specs.Places.{PlaceMap}
use Rattle.container_meta.specs.Spelling.{HeaderValue, IsHeader}
use Rattle.container_meta.specs.declared.kind.Kind.TheVariants.{Tree}
use Rattle.container_meta.specs.declared.entry.Entry.{Entry}
use Rattle.container_meta.specs.declared.place.Place.{Place}
use Rattle.copy_forward.specs.Headers.{header_checks}
use Rattle.disk_format.specs.declared.why.Why.{Why}
use Rattle.gc_enumerate.specs.Live.{LiveKeys}
use Rattle.gc_enumerate.specs.Scanning.{IsScanFault}
use Rattle.gc_enumerate.specs.declared.fault.ScanFault.{ScanFault}
use Rattle.gc_steps.specs.Marking.{scan_for}
use Rattle.gc_steps.specs.Finding.{FindsAll, HeadersAreApart}
use Rattle.gc_steps.specs.Roots.{keys_of_names}
use Rattle.gc_steps.specs.Scanning.{step_refusal}
use Rattle.gc_steps.specs.Starting.{StopsAt}
use Rattle.merkle_file.specs.declared.top.Top.{Top}
use Rattle.merkle_file.specs.Node.{Contents, node_digest, spelling}
use Rattle.merkle_file.specs.Walk.{start_of}
use Rattle.refusals.specs.declared.refusal.Refusal.{Refusal}
use Rattle.refusals.specs.declared.refusal.Refusal.TheVariants.{Memory, DiskRead, DiskWrite, Numbers, Damaged}
use Rattle.reply_text.specs.declared.ending.Ending.{Ending}
use Rattle.reply_text.specs.declared.ending.Ending.TheVariants.{Source, Sink, Refused}
use Rattle.reply_text.specs.Text.{formatted_line, stored_line, deleted_line, listing_text}
use Rattle.store_model.specs.Image.{Store, Encodes, names_of, last_sequence}
use Rattle.store_model.specs.Pieces.{Node, IsPieceOf}
use Rattle.store_model.specs.Slots.{Copy, HoldsSlot, IsIndexOf, free_slots, last_id, newest, place_of}
use Rattle.store_model.specs.Standing.{HasJournal, IsFormatted}
use Rattle.store_model.specs.Steps.{StoreChange, with_change}
use Rattle.store_model.specs.Trees.{bytes_at, node_key, root_of}
use Rattle.store_state.specs.Comparing.{IsCopyRefusal, IsNodeRefusal}
use Rattle.store_state.specs.Refused.{blames}
use Rattle.store_state.specs.Settled.{IsSettled}
use Rattle.store_state.specs.Tables.{count_of}
use Rattle.recovery.specs.Opening.{IsOpenRefusal}
use Rattle.recovery.specs.Formatting.{IsFormatRefusal}
use Rattle.read_steps.specs.Opening.{HasRoot, top_of}
use Rattle.read_steps.specs.Walking.{GivesAll, IsNextRefusal}
use Rattle.store_core.specs.Releases.{copied_in, freed_in}
use Rattle.store_core.specs.Core.{ChangesTo}
use Rattle.store_machine.specs.CollectsByNeed.{FreesUpTo, written_in}
use Rattle.store_machine.specs.Storing.{AddsOnce}
use Rattle.backup_engine.specs.Collected.{IsOfCollection, collected_line}
use Rattle.backup_engine.specs.Line.{CommandLine, Format, Ingest, Restore, Delete, Collect, name_of}
use Rattle.backup_engine.specs.Line as table
use Rattle.backup_engine.specs.Causes.{HasNumbers, Room, room, RefusesIngest, RefusesRestore, RefusesDelete, MayDelete, HasAll}
use Rattle.backup_engine.specs.Promise.{ByDone, WroteReply}
use Rattle.backup_engine.specs.Seen.{Devices}

-- ---- what reads showed

-- what refusals go by, of a store alone, whatever its names stand for
abbrev pub room_in : CommandLine → Store → Room
room_in command store =
    room (is_some (finite.get (names_of store) (name_of command))) (finite.len (names_of store)) (last_sequence store) store

-- the disk holds a store, with two free slots or more
pub record Holds (disk disk_now : DiskView) : Type 0 where
  pub store : Store
  pub right : Shows disk disk_now (λ image. Encodes image store)
  pub reserve : RESERVE ≤ free_slots store.held

-- and, by the tables of the core, containers were added
pub record HasAdded (given : List ℕ) (disk disk_now : DiskView) : Type 0 where
  pub holds : Holds disk disk_now
  pub changes : List StoreChange
  pub after : Store
  pub chain : ChangesTo changes holds.store after
  pub adds : AddsOnce given changes holds.store

-- Reads since a moment returned parts by which each image of the disk's size that has them has P; where the disk tells its content
-- now, the content has them. So it is of what was read last, also after writes (`Shows` speaks of the content at the beginning).
pub record ReadsSince (disk disk_now : DiskView) (P : List ℕ → Type 0) : Type 0 where
  pub parts : List Part
  pub returned : AllByRecursion (λ part. disk_now.read_returned disk.clock part.at part.bytes) parts
  pub known : Known disk_now.content (λ image. AllByRecursion (HasPart image) parts)
  pub shows : (image : List ℕ) → length image ≡ disk.size → AllByRecursion (HasPart image) parts → P image

-- A node of the file has a copy that is held, as long as it is; as it was read it has another digest, or this one and another byte.
pub record IsUnlikeNode (given : List ℕ) (store : Store) (shown : (List ℕ → Type 0) → Type 0) (refusal : Refusal) : Type 0 where
  pub node : Contents
  pub piece : IsPieceOf given (Node node)
  pub copy : Copy
  pub copy_is : newest 0 store.held (node_key node) ≡ Some copy
  pub long : copy.place.length ≡ length (spelling node)
  pub refused : IsNodeRefusal shown Tree (node_digest node) (spelling node) copy.place refusal

-- the disk had the size of so many slots and no store, and, where it tells its content, is an empty store now
pub record Formats (slots : ℕ) (disk disk_now : DiskView) : Type 0 where
  pub count : IsSlotCount slots
  pub size_is : disk.size ≡ size_of slots
  pub closed : Shows disk disk_now (λ image. byte_at 0 image ≢ FORMAT_GATE)
  pub stands : Known disk.content (λ old. KnownWith disk_now.content (IsFormatted slots))

-- ---- a file that is given back

-- what was written of it: all, or what was given so far, of which the sink may have taken a first part
abbrev pub WroteSegments : List Top → List (List ℕ) → Option Ending → SinkView → SinkView → Type 0
WroteSegments ahead segments None sink sink_now = (ahead ≡ []) × Appended sink.written sink_now.written (concat segments)
WroteSegments ahead segments (Some Sink) sink sink_now = AppendedPart sink.written sink_now.written (concat segments)
WroteSegments ahead segments (Some ending) sink sink_now = Appended sink.written sink_now.written (concat segments)

-- The name has a root in the store that the disk holds. What was given are the segments that its tree names, one after the
-- other: each has the digest and the length that it is named by; and this is to come.
pub record GivesBack (name : List ℕ) (ending : Option Ending) (disk disk_now : DiskView) (sink sink_now : SinkView) : Type 0 where
  pub holds : Holds disk disk_now
  pub root : Root
  pub has_root : HasRoot (names_of holds.store) name root
  pub segments : List (List ℕ)
  pub ahead : List Top
  pub given : GivesAll (start_of (top_of root)) segments ahead
  pub whole : ahead ≡ [] → sum_by length segments ≡ root.length
  pub wrote : WroteSegments ahead segments ending sink sink_now

-- what comes first of the rest is not given: the index of the store has no place for it, or reads showed what is wrong
abbrev pub IsStuck : {name : List ℕ} {ending : Option Ending} {disk disk_now : DiskView} {sink sink_now : SinkView}
    → GivesBack name ending disk disk_now sink sink_now → Refusal → Type 0
IsStuck {name} {ending} {disk} {disk_now} given refusal =
    (index : PlaceMap) × IsIndexOf given.holds.store.held index
    × IsNextRefusal (Some index) (λ at why image. ⊥) disk disk_now given.ahead refusal

-- ---- a collection

-- By the tables of the core a collection changed the store so, each change where it could be made: it wrote containers of copies, and gave
-- containers back, each of which stood there in its turn.
pub record SweepsTo (store : Store) (changes : List StoreChange) : Type 0 where
  pub each : AllByRecursion IsOfCollection changes
  pub after : Store
  pub chain : ChangesTo changes store after

-- Each key of the trees of all names was found in the index of the store, where no header but the store's was shown in a slot with its
-- digest.
pub record FindsNames (store : Store) (disk disk_now : DiskView) : Type 0 where
  pub index : PlaceMap
  pub index_is : IsIndexOf store.held index
  pub found : HeadersAreApart store.held disk disk_now → FindsAll index (keys_of_names (names_of store))

-- nothing was written: reads give what they gave, and a crash leaves, also at each moment between, what it might have left before
pub record IsUnchanged (disk disk_now : DiskView) : Type 0 where
  pub content : disk_now.content ≡ disk.content
  pub images : (c : List ℕ) → disk_now.images c → disk.images c
  pub between : (t : ℕ) (c : List ℕ) → t ≤ disk.clock → disk_now.images_since t c → disk.images_since t c ⊎ disk.images c

-- However a `collect` ends, refused or done: it wrote nothing, or it had found all these keys before.
abbrev pub FindsBeforeWriting : CommandLine → DiskView → DiskView → Type 0
FindsBeforeWriting (Collect percent) disk disk_now =
    IsUnchanged disk disk_now ⊎ ((holds : Holds disk disk_now) × FindsNames holds.store disk disk_now)
FindsBeforeWriting command disk disk_now = Unit {0}

-- So many containers were given back, and so many segments copied, once all these keys were found.
pub record HasSwept (freed copied : ℕ) (disk disk_now : DiskView) : Type 0 where
  pub holds : Holds disk disk_now
  pub changes : List StoreChange
  pub sweeps : SweepsTo holds.store changes
  pub freed_are : freed ≡ freed_in changes
  pub copied_are : copied ≡ copied_in changes
  pub names : FindsNames holds.store disk disk_now

-- Reads since a moment returned parts by which each image of the disk's size that has them has P; where the disk tells its content
-- now, the content has P.
pub record ShownSince (disk disk_now : DiskView) (P : List ℕ → Type 0) : Type 0 where
  pub parts : List Part
  pub returned : AllByRecursion (λ part. disk_now.read_returned disk.clock part.at part.bytes) parts
  pub known : Known disk_now.content P
  pub shows : (image : List ℕ) → length image ≡ disk.size → AllByRecursion (HasPart image) parts → P image

abbrev pub ShownThere : DiskView → DiskView → Place → List ℕ → Type 0
ShownThere disk disk_now place bytes = ShownSince disk disk_now (λ image. bytes_at place image ≡ bytes)

-- In the place of the header of a container, which the store has there as the collection left it, is another one: this is the first of its
-- id, its kind, the count of its entries and the length of its data that differs, or else its digest.
pub record HasOtherHeader (store : Store) (disk disk_now : DiskView) (slot : ℕ) (why : Why) : Type 0 where
  pub changes : List StoreChange
  pub sweeps : SweepsTo store changes
  pub wanted : HeaderValue
  pub stands : slice_get sweeps.after.held slot ≡ Some (Some wanted)
  pub header : HeaderValue
  pub right : IsHeader header
  pub shown : ShownSince disk disk_now (λ image. HoldsSlot image slot (Some header))
  pub first : passes (header_checks wanted.id (count_of (Some wanted)) header) ≡ Err why

-- in the place of a container's header is what breaks its form, or another header
abbrev pub HasBadHeader : Store → DiskView → DiskView → Refusal → Type 0
HasBadHeader store disk disk_now (Damaged at why) =
    (slot : ℕ) × ((at ≡ slot_at slot)
    × (IsDamage (λ bytes. ShownSince disk disk_now (λ image. range (slot_at slot) (length bytes) image ≡ bytes)) why
    ⊎ HasOtherHeader store disk disk_now slot why))
HasBadHeader store disk disk_now refusal = ⊥

-- Marking stopped in a container, by one of its entries: what is there is not the node of its digest, or no node, or the index has no
-- place for a child of it.
pub record IsUnmarked (index : PlaceMap) (disk disk_now : DiskView) (refusal : Refusal) : Type 0 where
  pub slot : ℕ
  pub level : ℕ
  pub header : HeaderValue
  pub right : IsHeader header
  pub shown : ShownSince disk disk_now (λ image. HoldsSlot image slot (Some header))
  pub live : LiveKeys
  pub fault : ScanFault
  pub refusal_is : refusal ≡ step_refusal fault
  pub cause : IsScanFault (scan_for (Some index) live slot level header) (ShownThere disk disk_now) (λ at why. ⊥) header.entries fault

-- Copying stopped in a container, by one of its entries: the bytes that are there have another digest.
pub record IsUncopied (disk disk_now : DiskView) (refusal : Refusal) : Type 0 where
  pub slot : ℕ
  pub header : HeaderValue
  pub shown : ShownSince disk disk_now (λ image. HoldsSlot image slot (Some header))
  pub entry : Entry
  pub one_of : Contains header.entries entry
  pub cause : IsCopyRefusal (ShownSince disk disk_now) (place_of slot entry) entry.digest refusal

-- Copies were not written, as no id is left for their container: the last id of the store, and one for each container of copies that was
-- written, come to the last that there is. Only containers that were there before were given back, and fewer written than there are slots.
pub record IsUnwritten (store : Store) : Type 0 where
  pub changes : List StoreChange
  pub sweeps : SweepsTo store changes
  pub ids : LAST_ID ≤ last_id store.held + written_in changes
  pub earlier : FreesUpTo (last_id store.held) changes store
  pub few : written_in changes < length store.held

-- None began: the root of a name is the first, by the names' bytes, that the index of the store lacks, or has at another level.
pub record IsUnrooted (store : Store) (refusal : Refusal) : Type 0 where
  pub index : PlaceMap
  pub index_is : IsIndexOf store.held index
  pub stops : StopsAt (Some index) (Some index) (keys_of_names (names_of store)) refusal

-- Why a collection of the store that the disk holds went no further. The index, while it marks, is that of the store. One that came to
-- copying, or to writing copies, had found the keys of all names.
abbrev pub IsUncollected : {disk disk_now : DiskView} → Holds disk disk_now → Refusal → Type 0
IsUncollected {disk} {disk_now} holds refusal =
    HasBadHeader holds.store disk disk_now refusal
    ⊎ ((index : PlaceMap) × (IsIndexOf holds.store.held index × IsUnmarked index disk disk_now refusal))
    ⊎ (IsUncopied disk disk_now refusal × FindsNames holds.store disk disk_now)
    ⊎ ((refusal ≡ Numbers) × IsUnwritten holds.store × FindsNames holds.store disk disk_now)
    ⊎ IsUnrooted holds.store refusal

-- ---- causes

-- Why a command is refused. A call of the disk that failed is told by its count of faults.
abbrev pub IsRefused : CommandLine → List ℕ → Devices → Refusal → Type 0
IsRefused (Format slots) given saw refusal = IsFormatRefusal (Shows saw.disk saw.disk_now) saw.disk.size slots refusal
IsRefused command given saw DiskRead = Unit {0}
IsRefused command given saw DiskWrite = Unit {0}
IsRefused (Ingest name) given saw refusal =
    (IsOpenRefusal (Shows saw.disk saw.disk_now) saw.disk.size refusal × (saw.source_now.left ≡ saw.source.left))
    ⊎ ((added : HasAdded given saw.disk saw.disk_now)
    × (RefusesIngest name given (room_in (Ingest name) added.after) refusal
    ⊎ IsUnlikeNode given added.after (ReadsSince saw.disk saw.disk_now) refusal))
IsRefused (Restore name) given saw refusal =
    IsOpenRefusal (Shows saw.disk saw.disk_now) saw.disk.size refusal
    ⊎ ((holds : Holds saw.disk saw.disk_now) × RefusesRestore name (room_in (Restore name) holds.store) refusal)
    ⊎ ((given : GivesBack name (Some (Refused refusal)) saw.disk saw.disk_now saw.sink saw.sink_now) × IsStuck given refusal)
IsRefused (Delete name) given saw refusal =
    IsOpenRefusal (Shows saw.disk saw.disk_now) saw.disk.size refusal
    ⊎ ((holds : Holds saw.disk saw.disk_now) × RefusesDelete name (room_in (Delete name) holds.store) refusal)
IsRefused table.List given saw refusal = IsOpenRefusal (Shows saw.disk saw.disk_now) saw.disk.size refusal
IsRefused (Collect percent) given saw refusal =
    IsOpenRefusal (Shows saw.disk saw.disk_now) saw.disk.size refusal
    ⊎ ((holds : Holds saw.disk saw.disk_now) × IsUncollected holds refusal)

-- An `ingest` that was done: each piece of the file is held, the name has room, and its record had its numbers. The journal of a disk
-- that tells its content is now that with the name, whatever its containers hold.
pub record IsStored (name given : List ℕ) (disk disk_now : DiskView) : Type 0 where
  pub added : HasAdded given disk disk_now
  pub all : HasAll name given (room_in (Ingest name) added.after)
  pub numbers : HasNumbers (room_in (Ingest name) added.after)
  pub names : Known disk.content (λ _. StandsFor (HasJournal (with_change name (Put (root_of given)) added.after)) disk_now)

-- A `delete` that was done: the store that the disk held has the name, and its record had its numbers. The journal of a disk that
-- tells its content is now that without the name, whatever its containers hold.
pub record IsDeleted (name : List ℕ) (disk disk_now : DiskView) : Type 0 where
  pub holds : Holds disk disk_now
  pub may : MayDelete name (room_in (Delete name) holds.store)
  pub numbers : HasNumbers (room_in (Delete name) holds.store)
  pub names : Known disk.content (λ _. StandsFor (HasJournal (with_change name Gone holds.store)) disk_now)

-- what is so of a command that was done, but perhaps for its reply
abbrev pub IsDone : CommandLine → List ℕ → DiskView → DiskView → Type 0
IsDone (Format slots) given disk disk_now = Formats slots disk disk_now
IsDone (Ingest name) given disk disk_now = IsStored name given disk disk_now
IsDone (Delete name) given disk disk_now = IsDeleted name disk disk_now
IsDone command given disk disk_now = Unit {0}

abbrev pub IsCaused : CommandLine → List ℕ → Devices → Option Ending → Type 0
IsCaused command given saw None = IsDone command given saw.disk saw.disk_now
IsCaused command given saw (Some Source) =
    ((name : List ℕ) × (command ≡ Ingest name)) × HasAdded given saw.disk saw.disk_now × Rose saw.source.faults saw.source_now.faults
IsCaused command given saw (Some Sink) = IsDone command given saw.disk saw.disk_now × Rose saw.sink.faults saw.sink_now.faults
IsCaused command given saw (Some (Refused Memory)) = Unit {0}
IsCaused command given saw (Some (Refused refusal)) = IsRefused command given saw refusal
IsCaused command given saw (Some ending) = ⊥

-- ---- what was written, and taken

-- The names of the store that the disk holds were listed, each with its root.
abbrev pub ListsNames : Option Ending → DiskView → DiskView → SinkView → SinkView → Type 0
ListsNames ending disk disk_now sink sink_now =
    (holds : Holds disk disk_now) × WroteReply (listing_text (listing_of (names_of holds.store))) ending sink sink_now

-- It was said how many containers were given back, and how many segments copied.
abbrev pub SaysSwept : Option Ending → DiskView → DiskView → SinkView → SinkView → Type 0
SaysSwept ending disk disk_now sink sink_now =
    (freed copied : ℕ) × (HasSwept freed copied disk disk_now × WroteReply (collected_line freed copied) ending sink sink_now)

abbrev pub WroteOnAny : CommandLine → List ℕ → Option Ending → DiskView → DiskView → SinkView → SinkView → Type 0
WroteOnAny (Format slots) given ending disk disk_now sink sink_now = WroteReply (formatted_line slots) ending sink sink_now
WroteOnAny (Ingest name) given ending disk disk_now sink sink_now = WroteReply (stored_line name (root_of given)) ending sink sink_now
WroteOnAny (Restore name) given ending disk disk_now sink sink_now =
    ByDone ending (GivesBack name ending disk disk_now sink sink_now)
    ((sink_now.written ≡ sink.written) ⊎ GivesBack name ending disk disk_now sink sink_now)
WroteOnAny (Delete name) given ending disk disk_now sink sink_now = WroteReply (deleted_line name) ending sink sink_now
WroteOnAny table.List given ending disk disk_now sink sink_now =
    ByDone ending (ListsNames ending disk disk_now sink sink_now) (sink_now.written ≡ sink.written)
WroteOnAny (Collect percent) given ending disk disk_now sink sink_now =
    ByDone ending (SaysSwept ending disk disk_now sink sink_now) (sink_now.written ≡ sink.written)

-- What the source gave: for `ingest` all that it had left, where it tells, to its end where it was done. No other command reads it.
abbrev pub Took : CommandLine → List ℕ → Option Ending → SourceView → SourceView → Type 0
Took (Ingest name) given ending source source_now =
    Known source.left (λ all. (given ≡ all) × ByDone ending (source_now.left ≡ Some []) (Unit {0}))
Took command given ending source source_now = (given ≡ []) × (source_now.left ≡ source.left)

-- ---- all of it

-- what an ending blames of the disk
abbrev pub disk_ending : Option Ending → device.Ending
disk_ending None = Done
disk_ending (Some (Refused refusal)) = ending_of (blames refusal)
disk_ending (Some Sink) = Done
disk_ending (Some ending) = ending_of NoCall

-- all before the end of the slots is on the disk
abbrev pub IsSettledDisk : DiskView → Type 0
IsSettledDisk disk_now = (slots : ℕ) → disk_now.size ≡ size_of slots → IsSettled slots disk_now

-- A command that writes, and was done, ends with all of it on the disk. A collection may leave what lies after the slots.
abbrev pub EndsDurable : CommandLine → Option Ending → DiskView → Type 0
EndsDurable (Restore name) ending disk_now = Unit {0}
EndsDurable table.List ending disk_now = Unit {0}
EndsDurable (Collect percent) ending disk_now = ByDone ending (IsSettledDisk disk_now) (Unit {0})
EndsDurable command ending disk_now = ByDone ending (IsDurable disk_now) (Unit {0})

-- Each ending has its cause; the disk's count of faults rose where a call of it is blamed, and else is as it was.
pub record OnAnyDisk (command : CommandLine) (given : List ℕ) (ending : Option Ending) (saw : Devices) : Type 0 where
  pub took : Took command given ending saw.source saw.source_now
  pub caused : IsCaused command given saw ending
  pub wrote : WroteOnAny command given ending saw.disk saw.disk_now saw.sink saw.sink_now
  pub faults_are : CountsFault (disk_ending ending) saw.disk.faults saw.disk_now.faults
  pub durable : EndsDurable command ending saw.disk_now
  -- no fault of a source or a sink is passed over
  pub source_faults : ¬ (ending ≡ Some Source) → saw.source_now.faults ≡ saw.source.faults
  pub sink_faults : ¬ (ending ≡ Some Sink) → saw.sink_now.faults ≡ saw.sink.faults
