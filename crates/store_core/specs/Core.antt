-- What each step makes of the core of a store, what it answers, and why it is refused (docs/MODEL.md, 'The core').
use Rattle.std.specs.Prelude.{◌≡◌, ◌≢◌, ℕ, suc, ◌+◌, ◌≤◌, List, [], ◌∷◌, length, take, Option, Some, None, Result, Ok, Err, IfErr, IfOk, IsTrue, OnOk, OnErr}
use Rattle.std.specs.FinMap as finite
use Rattle.std.specs.List.{AllByRecursion}
use Rattle.base_model.specs.Known.{Known, KnownWith}
use Rattle.disk_format.specs.Cells.{Change, Root}
use Rattle.disk_format.specs.Cells.Change.{Delete, Put}
use Rattle.dd_disk.specs.Ending.{Reads, ending}
use Rattle.dd_disk.specs.Moves.{Acts}
use Rattle.dd_disk.specs.View.{IsDurable}
use Rattle.dd_disk.specs.Shows.{Shows}
use Rattle.disk_format.specs.declared.why.Why.{Why}
use Rattle.container_meta.specs.Places.{PlaceMap}
use Rattle.container_meta.specs.Spelling.{HeaderValue}
use Rattle.container_meta.specs.Segments.{KindSegment, Contents, segment_key}
use Rattle.merkle_file.specs.declared.top.Top.{Top}
use Rattle.actor_parts.specs.declared.part.Part.{Part}
use Rattle.actor_parts.specs.declared.part.Part.TheVariants.{Idle, Writing}
use Rattle.actor_parts.specs.declared.step.Answer.{Answer}
use Rattle.actor_parts.specs.declared.step.Answer.TheVariants as answers
use Rattle.actor_parts.specs.Asking.{IsAnswerTo}
use Rattle.actor_parts.specs.Kinds.{kind_of}
use Rattle.actor_parts.specs.Offers.{IsOffer}
use Rattle.actor_parts.specs.Parts.{part_of, with_part}
use Rattle.actor_parts.specs.StepValue as asked
use Rattle.actor_parts.specs.StepValue.{StepValue}
use Rattle.refusals.specs.declared.refusal.PartKind.{PartKind}
use Rattle.refusals.specs.declared.refusal.PartKind.TheVariants as kinds
use Rattle.refusals.specs.declared.refusal.Refusal.{Refusal}
use Rattle.refusals.specs.declared.refusal.Refusal.TheVariants as refusals
use Rattle.segment_index.specs.Places.{KnownMap}
use Rattle.store_model.specs.Files.{Files}
use Rattle.store_model.specs.Image.{Store, Encodes, IsValidFor, names_of}
use Rattle.store_model.specs.Standing.{IsStoreOf}
use Rattle.namespace.specs.Listing.{listing_of}
use Rattle.store_model.specs.Collisions.{ByteSet}
use Rattle.store_model.specs.Slots.{HasKey, IsIndexOf}
use Rattle.store_model.specs.Steps.{AnyKey, StoreChange, SealContainer, ChangeName, FlushContainer, FreeContainer, CanChange, KeepsCopies, changed}
use Rattle.store_state.specs.Refused.{blames, fails}
use Rattle.store_state.specs.Settled as settled
use Rattle.store_state.specs.declared.tables.Tables.{Tables}
use Rattle.store_state.specs.Tables.{Represents, Runs, OfEach}
use Rattle.ingest_steps.specs.Naming.{ChangesName, ChangesJournalAlone, IsDeleteRefusal, MayDelete}
use Rattle.ingest_steps.specs.declared.claiming.Claimed.{Claimed}
use Rattle.ingest_steps.specs.declared.claiming.Claimed.TheVariants.{Held, Absent}
use Rattle.ingest_steps.specs.Claiming.{IsClaimed, IsClaimRefusal, DiffersFrom, KeepsPart}
use Rattle.ingest_steps.specs.Offering.{AreCompared, IsOfferRefusal, IsRoomFor, MayKeepAll, WereCompared, with_pins_of}
use Rattle.ingest_steps.specs.OfferStep.{KeepsOffered}
use Rattle.ingest_steps.specs.SealingAll.{SealsOffer}
use Rattle.ingest_steps.specs.SealStep.{store_moment}
use Rattle.ingest_steps.specs.Writers.{MayCommit, IsWrongPart, IsCommitRefusal}
use Rattle.read_steps.specs.Counting.{counts_of}
use Rattle.read_steps.specs.Readers as readers
use Rattle.read_steps.specs.Trees.{AllHeld, IsTreesRefusal, WhereHeld}
use Rattle.read_steps.specs.Unique.{CountsTrees}
use Rattle.read_steps.specs.Walking.{IsIndexed, SegmentsAhead}
use Rattle.store_core.specs.declared.stop.Stop.{Stop}
use Rattle.store_core.specs.Collecting.{Collects, GcEffect, GcRow, StartRow}
use Rattle.store_core.specs.State.{CoreState, IsSame, Event, one_more}

-- ---- what becomes of the actor's part

-- the actor is at this, and no part of another is changed
abbrev pub Gets : Part → ℕ → CoreState → CoreState → Type 0
Gets part actor old new = new.parts ≡ with_part old.parts actor part

-- the actor was at something of this kind, and is at this
abbrev pub Turns : PartKind → Part → ℕ → CoreState → CoreState → Type 0
Turns kind part actor old new = (kind_of (part_of old.parts actor) ≡ kind) × Gets part actor old new

-- it was at something else than the step takes, and all are at what they were
abbrev pub IsAtOther : PartKind → ℕ → Refusal → CoreState → CoreState → Type 0
IsAtOther taken actor refusal old new = IsWrongPart taken (part_of old.parts actor) refusal × (new.parts ≡ old.parts)

-- ---- a segment that is claimed

-- it is held or not, and what the actor keeps is right
pub record Claims (claim : Claimed) (seg : KindSegment) (actor : ℕ) (old new : CoreState) : Type 0 where
  pub claimed : IsClaimed old.disk.size old.known old.parts actor seg (Shows old.disk new.disk) new.parts claim
  pub kept : KeepsPart old.disk.content old.known old.parts actor seg new.parts

-- an index whose map isn't known has bytes that break its form so
abbrev pub IsDamage : CoreState → CoreState → ℕ → Why → Type 0
IsDamage old new at why = (old.known ≡ None) × Shows old.disk new.disk (old.breaks at why)

abbrev pub IsUnclaimed : KindSegment → ℕ → Refusal → CoreState → CoreState → Type 0
IsUnclaimed seg actor refusal old new =
    IsClaimRefusal (part_of old.parts actor) seg (IsDamage old new)
    (DiffersFrom old.disk.size old.known seg (Shows old.disk new.disk)) refusal

-- ---- containers that are stored

abbrev pub next_id : CoreState → ℕ
next_id c = c.tables.held.last_id + 1

-- Of those that were offered the first, as many as there is room for, were compared with what is held, and stand, under the next ids;
-- their segments are pinned from now on.
pub record AreSealed (offered : List Contents) (id count actor : ℕ) (old new : CoreState) : Type 0 where
  pub offer : IsOffer offered
  pub may : MayKeepAll (part_of old.parts actor) offered
  pub room : IsRoomFor old.tables (length offered) count
  pub some : 1 ≤ count
  pub few : count ≤ length offered
  pub compared : WereCompared old.disk.size old.known (Shows old.disk new.disk) (take count offered)
  -- the greatest id that was given out
  pub id_is : id ≡ old.tables.held.last_id + count
  pub last_is : new.tables.held.last_id ≡ id
  pub parts_are : Gets (Writing (with_pins_of (take count offered) may.pins)) actor old new
  pub kept : KeepsOffered (store_moment old.disk old.known old.tables old.parts)
      (store_moment new.disk new.known new.tables new.parts) actor offered

abbrev pub AreUnsealed : List Contents → ℕ → Refusal → CoreState → CoreState → Type 0
AreUnsealed offered actor refusal old new =
    IsOfferRefusal (part_of old.parts actor) old.tables old.disk.size old.known offered
    (AreCompared old.disk.size old.known (Shows old.disk new.disk)) refusal

-- ---- a file that is given back

-- The actor is given the file of a name; where a store stands for files, all of that file is to come.
pub record IsOpened (name : List ℕ) (count actor : ℕ) (old new : CoreState) : Type 0 where
  pub opens : readers.Opens old.tables.names name actor old.parts new.parts count
  pub file : (store : Store) (files : Files) (image : List ℕ) → old.tables.names ≡ names_of store → IsStoreOf store files image
      → readers.OpensFile store files image name actor old.parts new.parts

-- what is answered where segments of held trees are to come
abbrev pub GivesHeld : Result (Option ℕ) Refusal → List ℕ → ℕ → CoreState → CoreState → Type 0
GivesHeld answer buf actor old new =
    (root : Root) (ahead : List Top) (counts : ByteSet) (held : List (Option HeaderValue)) (image : List ℕ) (segments : List (List ℕ))
    → part_of old.parts actor ≡ readers.reading root ahead → IsIndexed counts held old.known old.disk.content image
    → SegmentsAhead counts held image ahead segments
    → readers.GivesHeld counts held image (readers.GoesOn actor old.parts new.parts ahead) segments buf answer

-- The next segment of the file, or its end: on any disk as reads showed, and of a tree that is held.
pub record IsGiven (answer : Option ℕ) (buf : List ℕ) (actor : ℕ) (old new : CoreState) : Type 0 where
  pub next : readers.GivesNext old.known old.disk new.disk actor old.parts new.parts buf answer
  pub held : GivesHeld (Ok answer) buf actor old new

-- The file goes on where it was.
pub record IsNotGiven (refusal : Refusal) (buf : List ℕ) (actor : ℕ) (old new : CoreState) : Type 0 where
  pub cause : readers.IsReadRefusal old.known old.breaks old.disk new.disk actor old.parts new.parts refusal
  pub held : GivesHeld (Err refusal) buf actor old new

-- ---- what is counted

-- what each store has that the tables represent, whatever the index has
abbrev pub IsCount : Answer → CoreState → Type 0
IsCount answer c = OfEach c.disk.size None c.tables (λ store. answer ≡ counts_of store)

-- ---- what is answered, step by step; no step answers anything else

abbrev pub BeginRow : ℕ → Result Answer Refusal → CoreState → CoreState → Type 0
BeginRow actor (Ok answers.Begun) old new = Turns kinds.Idle (Writing finite.empty) actor old new
BeginRow actor (Err refusal) old new = IsAtOther kinds.Idle actor refusal old new
BeginRow actor answer old new = ⊥

abbrev pub ClaimRow : KindSegment → ℕ → Result Answer Refusal → CoreState → CoreState → Type 0
ClaimRow seg actor (Ok answers.Held) old new = Claims Held seg actor old new
ClaimRow seg actor (Ok answers.Absent) old new = Claims Absent seg actor old new
ClaimRow seg actor (Err refusal) old new = IsUnclaimed seg actor refusal old new × (new.parts ≡ old.parts)
ClaimRow seg actor answer old new = ⊥

abbrev pub SealRow : List Contents → ℕ → Result Answer Refusal → CoreState → CoreState → Type 0
SealRow offered actor (Ok (answers.Sealed id count)) old new = AreSealed offered id count actor old new
SealRow offered actor (Err refusal) old new = AreUnsealed offered actor refusal old new × (new.parts ≡ old.parts)
SealRow offered actor answer old new = ⊥

abbrev pub CommitRow : List ℕ → Root → ℕ → Result Answer Refusal → CoreState → CoreState → Type 0
CommitRow name root actor (Ok (answers.Committed sequence)) old new =
    MayCommit (part_of old.parts actor) old.tables name root × (sequence ≡ suc old.tables.journal.last) × Gets Idle actor old new
    × (new.tables.held ≡ old.tables.held)
CommitRow name root actor (Err refusal) old new =
    IsCommitRefusal (part_of old.parts actor) old.tables name root refusal × (new.parts ≡ old.parts)
CommitRow name root actor answer old new = ⊥

abbrev pub AbortRow : ℕ → Result Answer Refusal → CoreState → CoreState → Type 0
AbortRow actor (Ok answers.Aborted) old new = Turns kinds.Writing Idle actor old new
AbortRow actor (Err refusal) old new = IsAtOther kinds.Writing actor refusal old new
AbortRow actor answer old new = ⊥

abbrev pub OpenRow : List ℕ → ℕ → Result Answer Refusal → CoreState → CoreState → Type 0
OpenRow name actor (Ok (answers.Opened count)) old new = IsOpened name count actor old new
OpenRow name actor (Err refusal) old new =
    readers.IsOpenRefusal old.tables.names name (part_of old.parts actor) refusal × (new.parts ≡ old.parts)
OpenRow name actor answer old new = ⊥

abbrev pub ReadRow : ℕ → Result Answer Refusal → List ℕ → CoreState → CoreState → Type 0
ReadRow actor (Ok (answers.Bytes count)) buf old new = IsGiven (Some count) buf actor old new
ReadRow actor (Ok answers.End) buf old new = IsGiven None buf actor old new
ReadRow actor (Err refusal) buf old new = IsNotGiven refusal buf actor old new
ReadRow actor answer buf old new = ⊥

abbrev pub EndRow : ℕ → Result Answer Refusal → CoreState → CoreState → Type 0
EndRow actor (Ok answers.Dropped) old new = readers.GivesUp actor old.parts new.parts
EndRow actor (Err refusal) old new = readers.IsEndRefusal actor old.parts new.parts refusal
EndRow actor answer old new = ⊥

abbrev pub StatRow : Result Answer Refusal → CoreState → CoreState → Type 0
StatRow (Ok answer) old new = IsCount answer old × (new.parts ≡ old.parts)
StatRow (Err refusal) old new = ⊥

-- The keys of the trees of all names were counted, each once, with the lengths that the index has; nothing is said of an index whose map
-- isn't known.
pub record IsCounted (segments bytes : ℕ) (old new : CoreState) : Type 0 where
  pub counts : KnownMap old.known (λ index. CountsTrees index old.disk new.disk (listing_of old.tables.names) segments bytes)
  pub parts_are : new.parts ≡ old.parts

-- The walk of the trees can't go on; where they are held a read failed, or there was no memory.
pub record IsUncounted (refusal : Refusal) (old new : CoreState) : Type 0 where
  pub cause : KnownMap old.known (λ index. IsTreesRefusal index old.disk new.disk (listing_of old.tables.names) refusal)
  pub held : KnownMap old.known (λ index. WhereHeld index old.disk.content
      (λ counts held image. AllHeld counts held image (listing_of old.tables.names)) (λ _ _ _. IsTrue (fails refusal)))
  pub parts_are : new.parts ≡ old.parts

abbrev pub UniqueRow : Result Answer Refusal → CoreState → CoreState → Type 0
UniqueRow (Ok (answers.Unique segments bytes)) old new = IsCounted segments bytes old new
UniqueRow (Err refusal) old new = IsUncounted refusal old new
UniqueRow answer old new = ⊥

-- ---- names

-- The name is gone.
abbrev pub DeleteRow : List ℕ → Result Answer Refusal → CoreState → CoreState → Type 0
DeleteRow name (Ok (answers.Deleted sequence)) old new =
    MayDelete old.tables name × (sequence ≡ suc old.tables.journal.last) × (new.parts ≡ old.parts)
    × (new.tables.held ≡ old.tables.held)
DeleteRow name (Err refusal) old new = IsDeleteRefusal old.tables name refusal × (new.parts ≡ old.parts)
DeleteRow name answer old new = ⊥

-- each name with its root
abbrev pub ListRow : Result Answer Refusal → CoreState → CoreState → Type 0
ListRow (Ok (answers.Listed files)) old new = (files ≡ listing_of old.tables.names) × (new.parts ≡ old.parts)
ListRow (Err refusals.Memory) old new = new.parts ≡ old.parts
ListRow answer old new = ⊥

abbrev pub Row : StepValue → ℕ → Result Answer Refusal → List ℕ → CoreState → CoreState → Type 0
Row asked.Begin actor answer buf old new = BeginRow actor answer old new
Row (asked.Claim seg) actor answer buf old new = ClaimRow seg actor answer old new
Row (asked.Seal offered) actor answer buf old new = SealRow offered actor answer old new
Row (asked.Commit name root) actor answer buf old new = CommitRow name root actor answer old new
Row asked.Abort actor answer buf old new = AbortRow actor answer old new
Row (asked.OpenRead name) actor answer buf old new = OpenRow name actor answer old new
Row asked.ReadNext actor answer buf old new = ReadRow actor answer buf old new
Row asked.EndRead actor answer buf old new = EndRow actor answer old new
Row (asked.Delete name) actor answer buf old new = DeleteRow name answer old new
Row asked.ListNames actor answer buf old new = ListRow answer old new
Row (asked.GcStart percent) actor answer buf old new = StartRow percent answer old new
Row asked.GcStep actor answer buf old new = GcRow answer old new
Row asked.Stat actor answer buf old new = StatRow answer old new
Row asked.Unique actor answer buf old new = UniqueRow answer old new

-- ---- what becomes of tables, index and disk

-- tables and index are as they were
pub record KeepsTables (old new : CoreState) : Type 0 where
  pub tables_are : new.tables ≡ old.tables
  pub index_is : new.known ≡ old.known

-- but the index where a change of it broke off
abbrev pub KeepsUnlessBroken : Refusal → CoreState → CoreState → Type 0
KeepsUnlessBroken refusals.DiskWrite old new = new.tables ≡ old.tables
KeepsUnlessBroken (refusals.Damaged at why) old new = new.tables ≡ old.tables
KeepsUnlessBroken refusal old new = KeepsTables old new

-- the index, where its map is known, gives each key that the store holds its newest copy, and no other key one
abbrev pub IndexesAll : Store → Option PlaceMap → Type 0
IndexesAll store known = KnownMap known (IsIndexOf store.held)

-- P holds of each store that they represent, where the index has each key that it holds
abbrev pub OfEachIndexed : ℕ → Option PlaceMap → Tables → (Store → Type 0) → Type 0
OfEachIndexed size known t P = OfEach size known t (λ store. IndexesAll store known → P store)

-- ---- changes, one after the other

-- each where it can be made
abbrev pub ChangesTo : List StoreChange → Store → Store → Type 0
ChangesTo [] s t = t ≡ s
ChangesTo (change ∷ rest) s t = CanChange change s × ChangesTo rest (changed change s) t

-- the store after them
abbrev pub changed_by : List StoreChange → Store → Store
changed_by [] store = store
changed_by (change ∷ rest) store = changed_by rest (changed change store)

-- containers are sealed, under ids from one on
abbrev pub seals_from : ℕ → List Contents → List StoreChange
seals_from id [] = []
seals_from id (c ∷ cs) = SealContainer id c.kind c.segments ∷ seals_from (suc id) cs

-- the index has the keys of what a change adds
abbrev pub IndexesAdded : PlaceMap → StoreChange → Type 0
IndexesAdded index (SealContainer id kind segments) = AllByRecursion (λ s. HasKey index (segment_key kind s)) segments
IndexesAdded index (ChangeName name change) = Unit {0}
IndexesAdded index (FlushContainer id kind segments) = AllByRecursion (λ s. HasKey index (segment_key kind s)) segments
IndexesAdded index (FreeContainer slot) = Unit {0}

-- a change adds no copy of this key
abbrev pub AddsNone : List ℕ → StoreChange → Type 0
AddsNone key (SealContainer id kind segments) = AllByRecursion (λ s. segment_key kind s ≢ key) segments
AddsNone key (ChangeName name change) = Unit {0}
AddsNone key (FlushContainer id kind segments) = AllByRecursion (λ s. segment_key kind s ≢ key) segments
AddsNone key (FreeContainer slot) = Unit {0}

-- They can be made to this store, and the tables, whatever the index has, are those of the changed one.
pub record MakesAlone (changes : List StoreChange) (store : Store) (size : ℕ) (t : Tables) : Type 0 where
  pub can : ChangesTo changes store (changed_by changes store)
  pub represents : Represents (changed_by changes store) None t
  pub valid : IsValidFor size (changed_by changes store)

-- Changes are made: for each store that the tables stood for, tables and index are those of the changed one.
pub record Makes (changes : List StoreChange) (old new : CoreState) : Type 0 where
  pub can : OfEach old.disk.size old.known old.tables (λ store. ChangesTo changes store (changed_by changes store))
  pub represents : OfEach old.disk.size old.known old.tables (λ store. Represents (changed_by changes store) new.known new.tables)
  pub valid : OfEach old.disk.size old.known old.tables (λ store. IsValidFor new.disk.size (changed_by changes store))
  pub tells : KnownMap old.known (λ _. (places : PlaceMap) × (new.known ≡ Some places))
  -- no key leaves the index
  pub keeps_keys : KnownMap old.known (λ before. KnownMap new.known (λ after. (key : List ℕ) → HasKey before key → HasKey after key))
  pub adds_keys : KnownMap old.known (λ _. KnownMap new.known (λ after. AllByRecursion (IndexesAdded after) changes))
  -- and no key that none of them adds has another place
  pub keeps_others : KnownMap old.known (λ before. KnownMap new.known (λ after. (key : List ℕ) → AllByRecursion (AddsNone key) changes
      → finite.get after key ≡ finite.get before key))
  -- where it had all that was held, it has all that is
  pub whole : OfEachIndexed old.disk.size old.known old.tables (λ store. IndexesAll (changed_by changes store) new.known)
  -- of the tables alone, whatever the index has
  pub alone : OfEach old.disk.size None old.tables (λ store. MakesAlone changes store new.disk.size new.tables)
  pub runs : Runs old.disk.size None old.tables → Runs new.disk.size None new.tables
  -- and with the index
  pub runs_indexed : Runs old.disk.size old.known old.tables → Runs new.disk.size new.known new.tables

-- nothing changes
pub record Rests (answer : Result Answer Refusal) (old new : CoreState) : Type 0 where
  pub disk : Reads (ending blames answer) old.disk new.disk
  pub tables : KeepsTables old new

-- those that were sealed, under ids from one on
abbrev pub sealed_by : List Contents → Result Answer Refusal → ℕ → List StoreChange
sealed_by offered (Ok (answers.Sealed id count)) first = seals_from first (take count offered)
sealed_by offered answer first = []

-- Containers are stored, or none is; nothing changes but their slots and what lies after all slots (`moves.frame`). After a write
-- that failed only the disk's images are told.
pub record SealsSome (offered : List Contents) (answer : Result Answer Refusal) (old new : CoreState) : Type 0 where
  pub disk : settled.Steps old.tables.slots (ending blames answer) old.disk new.disk
  pub moves : SealsOffer old.tables old.known offered (ending blames answer) old.disk new.disk
  pub made : OnOk answer (Makes (sealed_by offered answer (next_id old)) old new)
  pub kept : IfErr answer (λ refusal. KeepsUnlessBroken refusal old new)

-- A name is given a root or taken away, or isn't.
pub record NamesOne (name : List ℕ) (change : Change) (answer : Result Answer Refusal) (old new : CoreState) : Type 0 where
  pub disk : Acts (ending blames answer) old.disk new.disk
  pub moves : ChangesName old.tables name change (ending blames answer) old.disk new.disk
  pub frame : ChangesJournalAlone old.tables name change old.disk new.disk
  pub durable : OnOk answer (IsDurable new.disk)
  pub made : OnOk answer (Makes (ChangeName name change ∷ []) old new)
  pub index : OnOk answer (new.known ≡ old.known)
  pub copies : OnOk answer ((store : Store) → Represents store old.known old.tables
      → Known old.disk.content (λ before. Encodes before store
      → KnownWith new.disk.content (KeepsCopies AnyKey store before (changed (ChangeName name change) store))))
  pub kept : OnErr answer (KeepsTables old new)

abbrev pub Effect : StepValue → Result Answer Refusal → CoreState → CoreState → Type 0
Effect (asked.Seal offered) answer old new = SealsSome offered answer old new
Effect (asked.Commit name root) answer old new = NamesOne name (Put root) answer old new
Effect (asked.Delete name) answer old new = NamesOne name Delete answer old new
Effect asked.GcStep answer old new = GcEffect answer old new
Effect step answer old new = Rests answer old new

-- ---- what stops the core

-- a write or a sync that failed, or damage that an index change met; then the refusal, and how many commands were acknowledged
abbrev pub StopsAfter : StepValue → Result Answer Refusal → ℕ → Option Stop → Type 0
StopsAfter step (Err refusals.DiskWrite) count stop = stop ≡ Some (record { refusal = refusals.DiskWrite; at = count })
StopsAfter (asked.Seal offered) (Err (refusals.Damaged at why)) count stop =
    stop ≡ Some (record { refusal = refusals.Damaged at why; at = count })
StopsAfter step answer count stop = stop ≡ None

-- a put or a delete that was acknowledged is counted
abbrev pub counted : Result Answer Refusal → ℕ → ℕ
counted (Ok (answers.Committed sequence)) count = one_more count
counted (Ok (answers.Deleted sequence)) count = one_more count
counted answer count = count

-- ---- a step

-- a step made, as the core is then
pub record Made (step : StepValue) (actor : ℕ) (answer : Result Answer Refusal) (buf : List ℕ) (old new : CoreState) : Type 0 where
  pub row : Row step actor answer buf old new
  pub effect : Effect step answer old new
  pub served : old.served → new.served

-- a step made, before the stop and the count are set
abbrev pub MadeBefore : StepValue → ℕ → Result Answer Refusal → List ℕ → CoreState → CoreState → Type 0
MadeBefore step actor answer buf old new =
    (stop : Option Stop) (count : ℕ) → Made step actor answer buf old (record new { stop = stop; acknowledged = count })

-- of a core that runs
pub record Steps (e : Event) (old new : CoreState) : Type 0 where
  pub made : Made e.step e.actor e.answer e.buf old new
  pub collects : Collects e.step e.answer old new
  pub stops : StopsAfter e.step e.answer old.acknowledged new.stop
  pub counted_is : new.acknowledged ≡ counted e.answer old.acknowledged

-- and of one that is stopped
pub record AnswersStopped (at : ℕ) (e : Event) (old new : CoreState) : Type 0 where
  pub answer_is : e.answer ≡ Err (refusals.Stopped at)
  pub same : IsSame old new

abbrev pub StepsOr : Option Stop → Event → CoreState → CoreState → Type 0
StepsOr None e old new = Steps e old new
StepsOr (Some stop) e old new = AnswersStopped stop.at e old new

abbrev pub CoreStep : CoreState → Event → CoreState → Type 0
CoreStep old e new = StepsOr old.stop e old new

-- what is answered is of the step that was asked for
abbrev pub AnswersFit : (C : Type 0) → (C → CoreState) → Type 0
AnswersFit C state = (e : Event) (old new : C) → CoreStep (state old) e (state new) → IfOk e.answer (IsAnswerTo e.step)
