-- What a crash leaves at any moment of an opening, where containers may be given back: files that may be found, or what it might have left
-- before.
use Rattle.core_machine.proofs.Prelude.{◌≡◌, ◌⊎◌, inl, inr, ℕ, List, Some, CrashLeaves, DiskView, OnlyReads, leaves_on, leaves_weaker, reads_leave, RoomMade, Refusal, ByteSet, IsIn, OpensAs, IsPartlyFreed, Store, OpensCore, OpensNone, CoreState, FileMachine, IsOfFound, MayStand, StandsFor, stored_in}
use Rattle.core_machine.specs.FileOpenings.{LeavesFound}
use Rattle.core_machine.proofs.FileCrashes.{stands_found}
use Rattle.core_machine.proofs.FileStands.{stands_opens}

module _ (among : ByteSet) (m : FileMachine) (old : DiskView) (image : List ℕ) (told : old.content ≡ Some image) (stand : MayStand (IsIn among) m image) where
  abbrev S : List ℕ → Type 0
  S = IsIn among

  abbrev of_found : OpensAs S (stored_in stand.found) image
  of_found = stands_opens S m image stand

  -- what was or may be found
  abbrev Left : List ℕ → Type 0
  Left left = old.images left ⊎ IsOfFound S m left

  only_read : (new : DiskView) → OnlyReads old new → LeavesFound S m old new
  only_read new reads = reads_leave Left old new (λ left there. inl there) reads

  -- containers were given back, on whose way the files stay
  given_back : (store : Store) (freed : List ℕ) (new : DiskView) → ((left : List ℕ) → IsPartlyFreed store freed image left → OpensAs S (stored_in stand.found) left)
      → CrashLeaves (λ left. old.images left ⊎ IsPartlyFreed store freed image left) old new → LeavesFound S m old new
  given_back store freed new stays leaves =
      leaves_weaker (λ left. old.images left ⊎ IsPartlyFreed store freed image left) Left old new
      (λ left here. elim here [ inl there ↦ inl there | inr part ↦ inr (stand.found, stand.may, stays left part) ]) leaves

  room_leaves : (mid : DiskView) → RoomMade old mid → LeavesFound S m old mid
  room_leaves mid made =
      given_back made.short.store made.freed mid (λ left part. (made.content image told).2.2.on_the_way among (stored_in stand.found) left of_found part) (made.crash image told)

  -- room was made, and then it was only read
  room_read : (mid new : DiskView) → RoomMade old mid → OnlyReads mid new → LeavesFound S m old new
  room_read mid new made reads =
      leaves_on Left Left Left old mid new made.later.clock_is (room_leaves mid made) (reads_leave Left mid new (room_leaves mid made).now reads) (λ left here. here)
      (λ left here. here)

  module _ (D : Type 0) (view : D → DiskView) where
    pub opened_leaves : (c : CoreState) → OpensCore D view old c → LeavesFound S m old c.disk
    opened_leaves c (inl read) = only_read c.disk read.reads.only
    opened_leaves c (inr (mid, (made, read))) = room_read (view mid) c.disk made read.reads.only

    pub unopened_leaves : (refusal : Refusal) (new : DiskView) → OpensNone D view refusal old new → LeavesFound S m old new
    unopened_leaves refusal new (inl (not, full)) = only_read new not.reads.only
    unopened_leaves refusal new (inr (inl (mid, (made, not)))) = room_read (view mid) new made not.reads.only
    unopened_leaves refusal new (inr (inr un)) =
        given_back un.short.store un.freed new (un.files image told among (stored_in stand.found) of_found).1 (un.crash image told)

-- where each image of before is of the machine, so is each that is left
pub all_found : (S : List ℕ → Type 0) (m : FileMachine) (old new : DiskView) → StandsFor S m old → LeavesFound S m old new → CrashLeaves (IsOfFound S m) old new
all_found S m old new stands leaves =
    leaves_weaker (λ left. old.images left ⊎ IsOfFound S m left) (IsOfFound S m) old new
    (λ left here. elim here [ inl there ↦ stands_found S m left (stands.images left there) | inr found ↦ found ]) leaves
