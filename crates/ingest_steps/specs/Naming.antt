-- When a name is given a root or taken away, and what that makes of the tables and of the disk (docs/MODEL.md, 'Steps').
use Rattle.std.specs.Prelude.{◌≡◌, ◌⊎◌, ℕ, suc, ◌-◌, ◌^◌, ◌<◌, false, List, Option, None, IsSome}
use Rattle.std.specs.FinMap as finite
use Rattle.disk_format.specs.Cells.{Change, RecordValue, IsName, IsChange}
use Rattle.disk_format.specs.Cells.Change.{Delete}
use Rattle.base_model.specs.Known.{Known, KnownWith}
use Rattle.dd_disk.specs.View.{DiskView, IsDurable, CrashLeaves, SteppedFrom}
use Rattle.dd_disk.specs.Ending.{Ending}
use Rattle.dd_disk.specs.Moves.{Way, step, Moves}
use Rattle.container_meta.specs.Places.{PlaceMap}
use Rattle.namespace.specs.Names.{HasPlace, HasRoom, IsFull, names_with}
use Rattle.journal_cells.specs.Journal.{with_record}
use Rattle.refusals.specs.declared.refusal.Refusal.{Refusal}
use Rattle.refusals.specs.declared.refusal.Refusal.TheVariants.{Memory, NoFile, BadName, TooMany, Numbers, DiskWrite}
use Rattle.store_model.specs.Files.{Command, Files, files_after}
use Rattle.store_model.specs.Image.{Store}
use Rattle.store_model.specs.Journal.{Follow}
use Rattle.store_model.specs.Collisions.{ByteSet, IsIn, Stands}
use Rattle.store_model.specs.Standing.{HasJournal}
use Rattle.store_model.specs.Steps.{CanChangeName, HoldsFor, change_of, name_of, with_cell, with_change, with_other}
use Rattle.store_state.specs.declared.tables.Tables.{Tables}
use Rattle.store_state.specs.Tables.{Represents, RepresentsNames, Runs}
use Rattle.ingest_steps.specs.Recording.{IsHalfFull, SameButRecord, journal_with_cell}

-- ---- when

-- The name is good, and it has room for a root, or is there to be taken away.
pub record MayChange (t : Tables) (name : List ℕ) (change : Change) : Type 0 where
  pub named : IsName name
  pub place : HasPlace t.names name change

-- The same of a put.
pub record MayName (t : Tables) (name : List ℕ) : Type 0 where
  pub named : IsName name
  pub room : HasRoom t.names name

-- why it isn't so
abbrev pub IsNameRefusal : Tables → List ℕ → Refusal → Type 0
IsNameRefusal t name BadName = ¬ (IsName name)
IsNameRefusal t name TooMany = IsName name × IsFull t.names name
IsNameRefusal t name refusal = ⊥

-- The same of a delete.
pub record MayDelete (t : Tables) (name : List ℕ) : Type 0 where
  pub named : IsName name
  pub there : IsSome (finite.get t.names name)

-- why it isn't so: the name is none, or isn't there
abbrev pub MayNotDelete : Tables → List ℕ → Refusal → Type 0
MayNotDelete t name BadName = ¬ (IsName name)
MayNotDelete t name NoFile = IsName name × (finite.get t.names name ≡ None)
MayNotDelete t name refusal = ⊥

-- A record has its numbers: a sequence number, and where the half is full the generation of a checkpoint.
pub record HasNumbers (t : Tables) : Type 0 where
  pub sequence : t.journal.last < 2 ^ 64 - 1
  pub generation : IsHalfFull t.journal → t.journal.generation < 2 ^ 64 - 1

-- one of them can't rise
abbrev pub LacksNumbers : Tables → Type 0
LacksNumbers t = (t.journal.last ≡ 2 ^ 64 - 1) ⊎ (IsHalfFull t.journal × (t.journal.generation ≡ 2 ^ 64 - 1))

-- Why no cell was prepared: for want of memory, which is free, or where a checkpoint's generation can't rise.
abbrev pub IsUnprepared : Tables → Refusal → Type 0
IsUnprepared t Memory = Unit {0}
IsUnprepared t Numbers = IsHalfFull t.journal × (t.journal.generation ≡ 2 ^ 64 - 1)
IsUnprepared t refusal = ⊥

-- Why a record wasn't written: so, or a write or a sync failed, as the disk counts.
abbrev pub IsWriteRefusal : Tables → Refusal → Type 0
IsWriteRefusal t DiskWrite = IsHalfFull t.journal → t.journal.generation < 2 ^ 64 - 1
IsWriteRefusal t refusal = IsUnprepared t refusal

-- Why no record follows those of the journal: no memory, which is free; no number; or a write or a sync failed, as the disk
-- counts.
abbrev pub IsAppendRefusal : Tables → Refusal → Type 0
IsAppendRefusal t Memory = Unit {0}
IsAppendRefusal t Numbers = LacksNumbers t
IsAppendRefusal t DiskWrite = HasNumbers t
IsAppendRefusal t refusal = ⊥

-- Why a name isn't deleted.
abbrev pub IsDeleteRefusal : Tables → List ℕ → Refusal → Type 0
IsDeleteRefusal t name Memory = Unit {0}
IsDeleteRefusal t name Numbers = MayDelete t name × LacksNumbers t
IsDeleteRefusal t name DiskWrite = MayDelete t name × HasNumbers t
IsDeleteRefusal t name refusal = MayNotDelete t name refusal

-- ---- what becomes of the tables

-- the record of a change, under the number after the last one
abbrev pub record_after_last : Tables → List ℕ → Change → RecordValue
record_after_last t name change = record { sequence = suc t.journal.last; name = name; change = change }

-- the tables after a record
abbrev pub tables_with : RecordValue → Tables → Tables
tables_with r t = record t { journal = with_record r (journal_with_cell t.names t.journal); names = names_with r t.names }

-- The tables are those of before, with a change of a name: of each store that they were those of, the name could be changed,
-- and they are those of the store with it. With `right` that is a step of the store.
pub record IsChanged (old : Tables) (name : List ℕ) (change : Change) (new : Tables) (sequence : ℕ) : Type 0 where
  pub number : sequence ≡ suc old.journal.last
  pub numbers : HasNumbers old
  pub tables_are : new ≡ tables_with (record_after_last old name change) old
  pub right : IsChange change
  pub can : (store : Store) → RepresentsNames store old → CanChangeName name change store
  pub represents : (store : Store) (known : Option PlaceMap) → Follow 0 finite.empty store.records → Represents store known old
      → Represents (with_change name change store) known new
  pub runs : (size : ℕ) (known : Option PlaceMap) → Runs size known old → Runs size known new

-- The name is gone.
pub record IsDeleted (old : Tables) (name : List ℕ) (new : Tables) (sequence : ℕ) : Type 0 where
  pub may : MayDelete old name
  pub changed : IsChanged old name Delete new sequence

-- ---- what the disk stands for, on the way

-- What images have of a store stands still: of it as it is, or with the gate of its other selector closed; or of the store with a free
-- cell, after a checkpoint where it had none.
abbrev pub StandsStill : (Store → List ℕ → Type 0) → Store → List ℕ → Type 0
StandsStill Base store c = Base store c ⊎ Base (with_other false store) c ⊎ Base (with_cell store) c

-- the names, the last sequence number and the files
abbrev pub FilesStandStill : (List ℕ → Type 0) → Store → Files → List ℕ → Type 0
FilesStandStill S store files = StandsStill (λ s. Stands S s files) store

-- the journal of the store, or that with a change, whatever else the image has and whatever root is given
abbrev pub changing_journal : List ℕ → Change → Store → Way
changing_journal name change store = step
    (HasJournal store)
    (λ c. StandsStill HasJournal store c ⊎ HasJournal (with_change name change store) c)
    (HasJournal (with_change name change store))

-- the store of these files, where a file that the command puts is held; or that after the command
abbrev pub commanding : (List ℕ → Type 0) → Command → Store → Files → Way
commanding S command store files = step
    (λ c. Stands S store files c × HoldsFor command store.held c)
    (λ c. FilesStandStill S store files c
    ⊎ Stands S (with_change (name_of command) (change_of command) store) (files_after command files) c)
    (Stands S (with_change (name_of command) (change_of command) store) (files_after command files))

-- A name is changed: of each store that the tables represent, and of any files.
pub record ChangesName (t : Tables) (name : List ℕ) (change : Change) (ending : Ending) (old new : DiskView) : Type 0 where
  -- where that is a command on files, of which each image holds one that is put
  pub moves : (among : ByteSet) (store : Store) (files : Files) (command : Command) → RepresentsNames store t
      → name ≡ name_of command → change ≡ change_of command
      → Moves (commanding (IsIn among) command store files) ending old new
  -- and of every change of an image that has the journal of such a store, whatever its containers hold
  pub journal : (store : Store) → RepresentsNames store t → Moves (changing_journal name change store) ending old new

-- What it leaves of an image, at any moment: all is as it was but for the bytes of a record; and where the content and this image had
-- the journal of such a store, it stands still, or is that with the change.
pub record ChangesBytes (t : Tables) (name : List ℕ) (change : Change) (given old new : List ℕ) : Type 0 where
  pub same : SameButRecord t.journal old new
  pub journal : (store : Store) → RepresentsNames store t → HasJournal store given → HasJournal store old
      → StandsStill HasJournal store new ⊎ HasJournal (with_change name change store) new

-- Nothing else changes, whatever the disk holds.
pub record ChangesJournalAlone (t : Tables) (name : List ℕ) (change : Change) (old new : DiskView) : Type 0 where
  -- At any moment a crash leaves an image from before, or one that was changed so.
  pub leaves : Known old.content (λ given. CrashLeaves (SteppedFrom (ChangesBytes t name change given) old) old new)
  -- Of a disk that was synced reads give, and a crash leaves, what they gave, but so changed.
  pub synced : IsDurable old → Known old.content (λ given.
      KnownWith new.content (ChangesBytes t name change given given) × CrashLeaves (ChangesBytes t name change given given) old new)
