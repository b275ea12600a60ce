-- An opening, at first or again, of a disk that stands for files, as one of the machine of files.
use Rattle.std.specs.Prelude.{◌⊎◌, ℕ, List, Result, Ok, Err}
use Rattle.std.specs.FinMap as finite
use Rattle.base_model.specs.Known.{KnownWith}
use Rattle.dd_disk.specs.View.{CrashLeaves, DiskView}
use Rattle.refusals.specs.declared.refusal.Refusal.{Refusal}
use Rattle.store_model.specs.Collisions.{ByteSet, HasNoCollisions, IsIn}
use Rattle.store_core.specs.Opening.{OpensCore, OpensNone, StaysOrStops}
use Rattle.store_core.specs.State.{CoreState, IsRunning}
use Rattle.store_machine.specs.Asked as asked
use Rattle.store_machine.specs.ByMap.{FileMachine}
use Rattle.store_machine.specs.Done.{Done}
use Rattle.store_machine.specs.Done as done
use Rattle.store_machine.specs.Legal.{Legal}
use Rattle.store_machine.specs.Machine.{Stepped}
use Rattle.store_machine.specs.Values.{of_files}
use Rattle.core_machine.specs.Bytes.{ChangesBytes}
use Rattle.core_machine.specs.Files.{IsFileMachine, IsOfFound, MayStand, StandsFor}

-- an opening that was answered so
abbrev pub opening : ℕ → Result Done Refusal → Stepped (List ℕ)
opening actor answer = record { actor = actor; asked = asked.Reopen; answer = answer }

-- the machine may open its store so
abbrev pub Reopens : ℕ → Result Done Refusal → FileMachine → FileMachine → Type 0
Reopens actor answer m n = Legal of_files (opening actor answer) m n

-- The disk of a core stands for the files of its machine, also where it is stopped.
abbrev pub DisksStand : (C : Type 0) → (C → CoreState) → Type 0
DisksStand C state = (among : ByteSet) (c : C) (m : FileMachine) → IsFileMachine (IsIn among) m (state c)
    → StandsFor (IsIn among) m (state c).disk

-- At each moment of an opening a crash leaves an image that can be opened as files that might be found before it, or one that it might have
-- left before: also where containers are given back, an opening changes no file.
abbrev pub LeavesFound : (List ℕ → Type 0) → FileMachine → DiskView → DiskView → Type 0
LeavesFound S m old new = CrashLeaves (λ image. old.images image ⊎ IsOfFound S m image) old new

-- What has been opened, over anything that has a disk whose content may stand, is a machine to which that may come by an opening; of a
-- crash meanwhile `LeavesFound` holds.
abbrev pub FilesOpened : (D : Type 0) → (D → DiskView) → (C : Type 0) → (C → CoreState) → Type 0
FilesOpened D view C state = (among : ByteSet) (actor : ℕ) (before : D) (new : C) (m : FileMachine) → HasNoCollisions (IsIn among)
    → KnownWith (view before).content (MayStand (IsIn among) m) → OpensCore D view (view before) (state new) → IsRunning (state new)
    → (n : FileMachine) × (Reopens actor (Ok (done.Reopened (finite.len (state new).tables.names))) m n
    × IsFileMachine (IsIn among) n (state new) × LeavesFound (IsIn among) m (view before) (state new).disk
    × ChangesBytes (opening actor (Ok (done.Reopened (finite.len (state new).tables.names)))) m n
    (view before).content (state new).disk.content)

-- The content may stand, and so may each image that a crash could not have left before.
pub record LeavesFor (S : List ℕ → Type 0) (m : FileMachine) (old new : DiskView) : Type 0 where
  pub content : KnownWith new.content (MayStand S m)
  pub images : (image : List ℕ) → new.images image → old.images image ⊎ MayStand S m image

-- What could not be opened is the machine that it was, or containers were given back, as the machine may; its content may stand still; and
-- of a crash meanwhile `LeavesFound` holds.
abbrev pub FilesUnopened : (D : Type 0) → (D → DiskView) → Type 0
FilesUnopened D view = (among : ByteSet) (actor : ℕ) (refusal : Refusal) (before new : D) (m : FileMachine) → HasNoCollisions (IsIn among)
    → KnownWith (view before).content (MayStand (IsIn among) m) → OpensNone D view refusal (view before) (view new)
    → (n : FileMachine) × (Reopens actor (Err refusal) m n × LeavesFor (IsIn among) n (view before) (view new)
    × LeavesFound (IsIn among) m (view before) (view new)
    × ChangesBytes (opening actor (Err refusal)) m n (view before).content (view new).content)

-- So it is of a core that could not be opened again, which is that machine then; and as each image of before can be opened as files that
-- might be found before it, a crash meanwhile leaves only such.
abbrev pub FilesReopenedNot : (C : Type 0) → (C → CoreState) → Type 0
FilesReopenedNot C state = (among : ByteSet) (actor : ℕ) (refusal : Refusal) (old new : C) (m : FileMachine) → HasNoCollisions (IsIn among)
    → IsFileMachine (IsIn among) m (state old)
    → OpensNone C (λ c. (state c).disk) refusal (state old).disk (state new).disk
    → StaysOrStops C (λ c. (state c).disk) refusal (state old) (state new)
    → (n : FileMachine) × (Reopens actor (Err refusal) m n × IsFileMachine (IsIn among) n (state new)
    × CrashLeaves (IsOfFound (IsIn among) m) (state old).disk (state new).disk
    × ChangesBytes (opening actor (Err refusal)) m n (state old).disk.content (state new).disk.content)
