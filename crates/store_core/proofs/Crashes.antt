-- What a crash leaves at any moment of a step.
use Rattle.store_core.proofs.Prelude.{stored_with, ◌≡◌, ◌⊎◌, inl, inr, ℕ, false, List, ◌+◌, ◌≤◌, Option, Some, None, Result, Ok, Err, refl, sym, ◌∙◌, subst, arith, ap, suc, OnlyReads, CrashLeaves, SteppedFrom, reads_leave, leaves_weaker, Change, Root, Delete, Put, Answer, StepValue, IsStep, Refusal, HasNoCollisions, ByteSet, IsIn, Stands, Store, last_sequence, with_sealed, with_change, Files, Stored, with_stored, without_stored, last_changed, Stop, Effect, SealsSome, NamesOne, StepsOr, next_id, FileEvent, FileStep, IsAt, IsGivenRight, IsSafeIn, CoreState, IsUnderWayIn, Mark, Filter, Select, SweepStage, CopyNext, Flush, Release, End, Changes, SameBefore, Collection, HoldsAt, HasStage, IsUnderWay, HoldsSweep, IsSweeping, IsSafeAt, PlaceMap, Represents, Stage, Touches, TouchesBy, blames, ending, Ending, slot_at, RESERVE, HasKey, free_slots, free_reserve, reserve_by, headers_of_right, reached_less, reached_put, HasReserve, IsReachable, CanBeOpened, CoreInvariant, IndexesFiles}
use Rattle.container_meta.specs.Segments.{Contents}
use Rattle.actor_parts.specs.StepValue as asked
use Rattle.refusals.specs.declared.refusal.Refusal.TheVariants as refusals
use Rattle.store_model.specs.Collisions.{OpensAs}
use Rattle.store_model.specs.Steps.{with_cell, with_other}
use Rattle.store_model.proofs.Cells.{last_with_cell}
use Rattle.ingest_steps.specs.Naming.{FilesStandStill}
use Rattle.store_model.specs.Files.{with_file, without_file}
use Rattle.store_model.specs.Files as files
use Rattle.store_core.specs.Runs.{IsRootOf}
use Rattle.gc_sweep.specs.declared.sweep.Next.{Next}
use Rattle.std.proofs.lemmas.List.{length-take}
use Rattle.std.specs.Prelude.{Bool, zero, ◌-◌, length, take}
use Rattle.actor_parts.specs.Offers.{sealed_of}
use Rattle.store_model.specs.Together.{Placed, StandsSome, with_some}
use Rattle.store_model.proofs.Together.{free_left}
use Rattle.store_state.specs.Tables.{closed_from}
use Rattle.ingest_steps.specs.Offering.{in_free, offer_in}
use Rattle.store_core.proofs.KeepingFiles.{may_offer, may_seal_each}
use Rattle.store_core.proofs.ManySealed.{few_placed, last_some, none_placed, some_of_none}
use Rattle.gc_sweep.specs.Releasing.{GivesBack, HasNoEntryIn, HasNoEntryInAny, StandsWithout}
use Rattle.gc_sweep.proofs.Holds.{in_turn}
use Rattle.gc_sweep.proofs.HoldsRoom.{are_newest, may_flush}
use Rattle.store_core.proofs.Flushed.{opens_flushed}
use Rattle.store_model.proofs.FramedTrees.{stands_framed}
use Rattle.ingest_steps.specs.Sealing.{SealsIndexed}
use Rattle.gc_sweep.proofs.Released.{none_held_any}
use Rattle.store_model.specs.Freeing.{without_some}
use Rattle.store_model.proofs.FreedAll.{each_marked, last_all, marked, reserve_all, some_are_all}

-- the last number of the store
pub last_at : (S : List ℕ → Type 0) (s : Store) (stored : Stored) (c : CoreState) → IsAt S s stored c → last_sequence s ≡ stored.last
last_at S s stored c at = sym at.represents.names_are.last_is ∙ at.last_is

-- a store can be opened as files whose keys the index has, where it has its reserve by the index
pub opens_by : (index : PlaceMap) (store : Store) (files : Files) → IndexesFiles index files → HasReserve (HasKey index) store.held → CanBeOpened store files
opens_by index store files indexed reserve = reserve_by (HasKey index) (IsReachable files) store.held indexed reserve

pub opens_at : (S : List ℕ → Type 0) (s : Store) (stored : Stored) (c : CoreState) → IsAt S s stored c → CanBeOpened s stored.files
opens_at S s stored c at =
    let core : CoreInvariant at.index s stored.files c.parts at.stands.known.0 = at.invariant at.stands.known.0 at.stands.known.1 in
    opens_by at.index s stored.files core.files_are_indexed core.reserve_holds

-- each image of a core that is at a store can be opened as its files
pub image_at : (S : List ℕ → Type 0) (s : Store) (stored : Stored) (c : CoreState) → IsAt S s stored c → (image : List ℕ) → c.disk.images image → OpensAs S stored image
image_at S s stored c at image left = record { store = s; stands = at.stands.each image left; opens = opens_at S s stored c at; last_is = last_at S s stored c at }

-- ---- one step

-- the files after a step, where a write that failed stands
abbrev pub stored_tried : StepValue → Result Answer Refusal → List ℕ → Stored → Stored
stored_tried (asked.Commit name root) (Err refusals.DiskWrite) bytes stored = with_stored stored name bytes
stored_tried (asked.Delete name) (Err refusals.DiskWrite) bytes stored = without_stored stored name
stored_tried step answer bytes stored = stored_with step answer bytes stored

-- an image that can be opened as the files before, or as those after, where a write that failed may stand
abbrev pub Either : (List ℕ → Type 0) → StepValue → Result Answer Refusal → List ℕ → Stored → List ℕ → Type 0
Either S step answer bytes stored image = OpensAs S stored image ⊎ OpensAs S (stored_tried step answer bytes stored) image

module _ (among : ByteSet) (s : Store) (stored : Stored) (old new : CoreState) (bytes : List ℕ) (distinct : HasNoCollisions (IsIn among))
    (at : IsAt (IsIn among) s stored old) where
  abbrev S : List ℕ → Type 0
  S = IsIn among

  abbrev last_here : last_sequence s ≡ stored.last
  last_here = last_at (IsIn among) s stored old at

  pub last_more : (name : List ℕ) (change : Change) → last_sequence (with_change name change s) ≡ suc stored.last
  last_more name change = last_changed name change s at.valid.follow ∙ ap suc last_here

  abbrev core : CoreInvariant at.index s stored.files old.parts at.stands.known.0
  core = at.invariant at.stands.known.0 at.stands.known.1

  opens : CanBeOpened s stored.files
  opens = opens_at S s stored old at

  -- an image that can be opened as these files
  image_of : (t : Store) (c : List ℕ) → CanBeOpened t stored.files → last_sequence t ≡ stored.last → Stands S t stored.files c → OpensAs S stored c
  image_of t c can last stands = record { store = t; stands = stands; opens = can; last_is = last }

  of_old : (c : List ℕ) → old.disk.images c → OpensAs S stored c
  of_old = image_at S s stored old at

  -- of names that stand still
  of_still : (c : List ℕ) → FilesStandStill S s stored.files c → OpensAs S stored c
  of_still c (inl is) = image_of s c opens last_here is
  of_still c (inr (inl is)) = image_of (with_other false s) c opens last_here is
  of_still c (inr (inr is)) = image_of (with_cell s) c opens (last_with_cell s at.valid.follow ∙ last_here) is

  -- where nothing was written
  by_reads : (step : StepValue) (answer : Result Answer Refusal) → OnlyReads old.disk new.disk → CrashLeaves (Either S step answer bytes stored) old.disk new.disk
  by_reads step answer reads = reads_leave (Either S step answer bytes stored) old.disk new.disk (λ c is. inl (of_old c is)) reads

  -- whichever of the containers stand, two slots are left, where there was room for one
  pub opens_some : (offered : List Contents) (marks : List Bool) → CanBeOpened (with_some marks (offer_in old.tables offered s) s) stored.files
  opens_some offered marks = by_room (sealed_of (length offered) (free_slots s.held) old.tables.held.last_id) (omega arith)
    where
      by_room : (n : ℕ) → n ≤ free_slots s.held - RESERVE → CanBeOpened (with_some marks (in_free (next_id old) (take n offered) s) s) stored.files
      by_room zero few = subst (λ (ps : List Placed). CanBeOpened (with_some marks ps s) stored.files) (sym (none_placed (closed_from 0 s.held) (next_id old)))
          (subst (λ (t : Store). CanBeOpened t stored.files) (sym (some_of_none marks s)) opens)
      by_room (suc n) few =
          let ps : List Placed = in_free (next_id old) (take (suc n) offered) s in
          free_reserve (IsReachable stored.files) (with_some marks ps s).held
          (free_left RESERVE marks ps s
          (omega (arith, few, few_placed (closed_from 0 s.held) (next_id old) (take (suc n) offered), length-take (suc n) offered)))

  pub seal_leaves : (offered : List Contents) (answer : Result Answer Refusal) → SealsSome offered answer old new → IsStep (asked.Seal offered) →
      IsGivenRight S (asked.Seal offered) answer bytes old
      → CrashLeaves (StandsSome S (offer_in old.tables offered s) s stored.files) old.disk new.disk
  seal_leaves offered answer effect right given =
      (effect.moves.moves among s stored.files at.index at.index_known at.represents core.files_are_indexed distinct
      (may_offer S old.tables offered s (may_seal_each S offered right.1 given)) at.stands).leaves

  by_seal : (offered : List Contents) (answer : Result Answer Refusal) → SealsSome offered answer old new → IsStep (asked.Seal offered)
      → IsGivenRight S (asked.Seal offered) answer bytes old
      → CrashLeaves (Either S (asked.Seal offered) answer bytes stored) old.disk new.disk
  by_seal offered answer effect right given =
      let ps : List Placed = offer_in old.tables offered s in
      leaves_weaker (StandsSome S ps s stored.files) (Either S (asked.Seal offered) answer bytes stored) old.disk new.disk
      (λ c stands. inl (image_of (with_some stands.0 ps s) c (opens_some offered stands.0) (last_some stands.0 ps s ∙ last_here) stands.1))
      (seal_leaves offered answer effect right given)

  -- of a commit that came to its first write
  pub put_leaves : (name : List ℕ) (root : Root) (answer : Result Answer Refusal) → NamesOne name (Put root) answer old new → IsRootOf root bytes old
      → CrashLeaves (λ c. FilesStandStill S s stored.files c ⊎ Stands S (with_change name (Put root) s) (with_file stored.files name bytes) c) old.disk new.disk
  put_leaves name root answer effect given =
      let tree = given.tree s at.represents in
      subst (λ (r : Root). CrashLeaves (λ c. FilesStandStill S s stored.files c ⊎ Stands S (with_change name (Put r) s) (with_file stored.files name bytes) c) old.disk new.disk)
      (sym given.root_is)
      (effect.moves.moves among s stored.files (files.Put name bytes) at.represents.names_are refl (ap Put given.root_is)
      (record { known = at.stands.known; each = λ c is. (at.stands.each c is, tree.each c is) })).leaves

  -- images of the store, or of that with a change, are of the files before or after
  either_way : (name : List ℕ) (change : Change) (after : Stored) (step : StepValue) (answer : Result Answer Refusal) → stored_tried step answer bytes stored ≡ after
      → after.last ≡ suc stored.last → IndexesFiles at.index after.files
      → CrashLeaves (λ c. FilesStandStill S s stored.files c ⊎ Stands S (with_change name change s) after.files c) old.disk new.disk
      → CrashLeaves (Either S step answer bytes stored) old.disk new.disk
  either_way name change after step answer tried last indexed leaves =
      leaves_weaker (λ c. FilesStandStill S s stored.files c ⊎ Stands S (with_change name change s) after.files c) (Either S step answer bytes stored) old.disk new.disk
      (λ c stands. elim stands [
        | inl is ↦ inl (of_still c is)
        | inr is ↦ inr
            (subst (λ (m : Stored). OpensAs S m c) (sym tried)
            (record {
              store = with_change name change s;
              stands = is;
              opens = opens_by at.index s after.files indexed core.reserve_holds;
              last_is = last_more name change
                  ∙ sym last;
            }))
      ]) leaves

  -- the index has the keys of what is put, and those of what is left once a name is deleted
  pub put_indexed : (name : List ℕ) (root : Root) → IsRootOf root bytes old → IndexesFiles at.index (with_file stored.files name bytes)
  put_indexed name root given = reached_put (HasKey at.index) stored.files core.files_are_indexed name bytes (given.indexed at.index at.index_known)

  pub less_indexed : (name : List ℕ) → IndexesFiles at.index (without_file stored.files name)
  less_indexed name = reached_less (HasKey at.index) stored.files core.files_are_indexed name

  by_commit : (name : List ℕ) (root : Root) (answer : Result Answer Refusal) → NamesOne name (Put root) answer old new → IsGivenRight S (asked.Commit name root) answer bytes old
      → CrashLeaves (Either S (asked.Commit name root) answer bytes stored) old.disk new.disk
  by_commit name root (Ok answer) effect given =
      either_way name (Put root) (with_stored stored name bytes) (asked.Commit name root) (Ok answer) refl refl (put_indexed name root given)
      (put_leaves name root (Ok answer) effect given)
  by_commit name root (Err refusals.DiskWrite) effect given =
      either_way name (Put root) (with_stored stored name bytes) (asked.Commit name root) (Err refusals.DiskWrite) refl refl (put_indexed name root given)
      (put_leaves name root (Err refusals.DiskWrite) effect given)
  by_commit name root (Err refusals.DiskRead) effect given = by_reads (asked.Commit name root) (Err refusals.DiskRead) effect.disk.ends
  by_commit name root (Err refusal) effect given = by_reads (asked.Commit name root) (Err refusal) effect.disk.ends

  -- of a delete
  pub delete_leaves : (name : List ℕ) (answer : Result Answer Refusal) → NamesOne name Delete answer old new
      → CrashLeaves (λ c. FilesStandStill S s stored.files c ⊎ Stands S (with_change name Delete s) (without_file stored.files name) c) old.disk new.disk
  delete_leaves name answer effect =
      (effect.moves.moves among s stored.files (files.Delete name) at.represents.names_are refl refl
      (record { known = at.stands.known; each = λ c is. (at.stands.each c is, tt) })).leaves

  by_delete : (name : List ℕ) (answer : Result Answer Refusal) → NamesOne name Delete answer old new
      → CrashLeaves (Either S (asked.Delete name) answer bytes stored) old.disk new.disk
  by_delete name (Ok answer) effect =
      either_way name Delete (without_stored stored name) (asked.Delete name) (Ok answer) refl refl (less_indexed name) (delete_leaves name (Ok answer) effect)
  by_delete name (Err refusals.DiskWrite) effect =
      either_way name Delete (without_stored stored name) (asked.Delete name) (Err refusals.DiskWrite) refl refl (less_indexed name)
      (delete_leaves name (Err refusals.DiskWrite) effect)
  by_delete name (Err refusals.DiskRead) effect = by_reads (asked.Delete name) (Err refusals.DiskRead) effect.disk.ends
  by_delete name (Err refusal) effect = by_reads (asked.Delete name) (Err refusal) effect.disk.ends

  -- a step of a collection: each image is of the same files
  of_same : (t : Store) (c : List ℕ) → CanBeOpened t stored.files → last_sequence t ≡ last_sequence s → Stands S t stored.files c → OpensAs S stored c
  of_same t c can same is = image_of t c can (same ∙ last_here) is

  -- containers that the index has nothing in may be given back, whichever of them
  pub opens_freed : (marks : List Bool) (slots : List ℕ) → HasNoEntryInAny at.index slots → CanBeOpened (without_some marks slots s) stored.files
  opens_freed marks slots none =
      let some : List ℕ = marked marks slots in
      opens_by at.index (without_some marks slots s) stored.files core.files_are_indexed
      (subst (λ (t : Store). HasReserve (HasKey at.index) t.held) (sym (some_are_all marks slots s))
      (reserve_all (HasKey at.index) some s
      (none_held_any s at.index some core.index_is_newest (each_marked (HasNoEntryIn at.index) marks slots none)) core.reserve_holds))

  -- nor do they change the last number
  last_freed : (marks : List Bool) (slots : List ℕ) → last_sequence (without_some marks slots s) ≡ last_sequence s
  last_freed marks slots = ap last_sequence (some_are_all marks slots s) ∙ last_all (marked marks slots) s

  -- an index that was changed leaves it the same store
  pub change_leaves : (e : Ending) → Changes (slot_at s.slots) e old.disk new.disk → CrashLeaves (Stands S s stored.files) old.disk new.disk
  change_leaves e changes =
      leaves_weaker (SteppedFrom (SameBefore (slot_at s.slots)) old.disk) (Stands S s stored.files) old.disk new.disk
      (λ c from. elim from [
        | inl was ↦ at.stands.each c was
        | inr stepped ↦ stands_framed S s stored.files stepped.0 c (at.stands.each stepped.0 stepped.1) stepped.2.before stepped.2.size
      ]) changes.leaves

  by_changes : (answer : Result Answer Refusal) (e : Ending) → Changes (slot_at s.slots) e old.disk new.disk
      → CrashLeaves (Either S asked.GcStep answer bytes stored) old.disk new.disk
  by_changes answer e changes =
      leaves_weaker (Stands S s stored.files) (Either S asked.GcStep answer bytes stored) old.disk new.disk (λ c is. inl (of_same s c opens refl is)) (change_leaves e changes)

  pub release_leaves : (e : Ending) (slots : List ℕ) → HasNoEntryInAny at.index slots → GivesBack old.tables slots e old.disk new.disk
      → CrashLeaves (StandsWithout S slots s stored.files) old.disk new.disk
  release_leaves e slots none gives =
      (gives.moves among s at.index stored.files
      (subst (λ (known : Option PlaceMap). Represents s known old.tables) at.index_known at.represents) core.files_are_indexed none at.stands).leaves

  by_release : (answer : Result Answer Refusal) (e : Ending) (slots : List ℕ) → HasNoEntryInAny at.index slots → GivesBack old.tables slots e old.disk new.disk
      → CrashLeaves (Either S asked.GcStep answer bytes stored) old.disk new.disk
  by_release answer e slots none gives =
      leaves_weaker (StandsWithout S slots s stored.files) (Either S asked.GcStep answer bytes stored) old.disk new.disk
      (λ c stands. inl (of_same (without_some stands.0 slots s) c (opens_freed stands.0 slots none) (last_freed stands.0 slots) stands.1))
      (release_leaves e slots none gives)

  -- a collection that sweeps
  module _ (c : Collection) (source entry : ℕ) (under : IsSweeping old.tables.held c.snapshot c.sweep)
      (new_id : c.snapshot ≤ old.tables.held.last_id + 1)
      (holds : HoldsSweep at.index s.held at.stands.known.0 c.live c.snapshot c.sweep) where
    abbrev id : ℕ
    id = old.tables.held.last_id + 1

    abbrev copied : Contents
    copied = c.sweep.buffer

    represents : Represents s (Some at.index) old.tables
    represents = subst (λ (known : Option PlaceMap). Represents s known old.tables) at.index_known at.represents

    pub flush_leaves : (e : Ending) → SealsIndexed old.tables id copied e old.disk new.disk
        → CrashLeaves (λ image. Stands S s stored.files image ⊎ Stands S (with_sealed id copied.kind copied.segments s) stored.files image) old.disk new.disk
    flush_leaves e seals =
        let here = at.stands.each at.stands.known.0 (old.disk.as_read at.stands.known.0 at.stands.known.1) in
        let may = may_flush at.index s.held at.stands.known.0 c.live c.snapshot c.sweep holds S here.holds.nodes here.among in
        (seals.moves among s (Some at.index) at.index stored.files at.stands.known.0 represents at.stands.known.1 may core.files_are_indexed
        (inr (inr (are_newest at.index s.held at.stands.known.0 c.live c.snapshot c.sweep holds))) at.stands).leaves

    pub opens_copied : c.sweep.next ≡ Flush source entry → (image : List ℕ) → Stands S (with_sealed id copied.kind copied.segments s) stored.files image
        → CanBeOpened (with_sealed id copied.kind copied.segments s) stored.files
    opens_copied stage image is =
        opens_flushed old.tables.held at.index s stored.files at.stands.known.0 image c.live c.snapshot source entry id c.sweep at.represents.slots_hold at.valid.headers under
        stage holds core.index_is_newest
        (omega (arith, at.represents.slots_hold.last_id_is)) new_id core.files_are_indexed
        (headers_of_right image (with_sealed id copied.kind copied.segments s) is.holds.right)

    -- what was copied is written: each image is of the same files, with its container, too
    by_flush : (answer : Result Answer Refusal) → c.sweep.next ≡ Flush source entry → (e : Ending) → SealsIndexed old.tables id copied e old.disk new.disk
        → CrashLeaves (Either S asked.GcStep answer bytes stored) old.disk new.disk
    by_flush answer stage e seals =
        leaves_weaker (λ image. Stands S s stored.files image ⊎ Stands S (with_sealed id copied.kind copied.segments s) stored.files image)
        (Either S asked.GcStep answer bytes stored) old.disk new.disk
        (λ image stands. elim stands [
          | inl is ↦ inl (of_same s image opens refl is)
          | inr is ↦ inl (of_same (with_sealed id copied.kind copied.segments s) image (opens_copied stage image is) refl is)
        ])
        (flush_leaves e seals)

    pub none_in_turn : c.sweep.next ≡ Release source entry → HasNoEntryInAny at.index c.sweep.ready.items
    none_in_turn stage =
        (in_turn old.tables.held at.index s.held at.stands.known.0 c.live c.snapshot source entry c.sweep at.represents.slots_hold under stage holds).none

    -- the sources that are ready are given back
    by_turn : (answer : Result Answer Refusal) → c.sweep.next ≡ Release source entry → (e : Ending) → GivesBack old.tables c.sweep.ready.items e old.disk new.disk
        → CrashLeaves (Either S asked.GcStep answer bytes stored) old.disk new.disk
    by_turn answer stage e gives = by_release answer e c.sweep.ready.items (none_in_turn stage) gives

  by_stage : (answer : Result Answer Refusal) (c : Collection) (stage : Stage) (next : Next) (e : Ending) → IsUnderWay old.tables.held c
      → IsSafeAt stage at.index s old.parts at.stands.known.0 c → c.stage ≡ stage → c.sweep.next ≡ next
      → Touches stage next c.sweep old.tables e old.disk new.disk → CrashLeaves (Either S asked.GcStep answer bytes stored) old.disk new.disk
  by_stage answer c (Mark level slot) next e under safe is at_next touches = by_reads asked.GcStep answer touches.only
  by_stage answer c (Filter slot) next e under safe is at_next touches = by_reads asked.GcStep answer touches.only
  by_stage answer c Select next e under safe is at_next touches = by_reads asked.GcStep answer touches.only
  by_stage answer c SweepStage (CopyNext source entry) e under safe is at_next touches = by_changes answer e (touches s.slots at.valid.size_is)
  by_stage answer c SweepStage (Flush source entry) e under safe is at_next touches =
      by_flush c source entry (subst (HasStage old.tables.held c) is under.stage_is) under.began
      (subst (λ (stage : Stage). HoldsAt stage at.index s.held at.stands.known.0 c) is safe.sweep_holds).1 answer at_next e touches.1
  by_stage answer c SweepStage (Release source entry) e under safe is at_next touches =
      by_turn c source entry (subst (HasStage old.tables.held c) is under.stage_is) under.began
      (subst (λ (stage : Stage). HoldsAt stage at.index s.held at.stands.known.0 c) is safe.sweep_holds).1 answer at_next e touches.1
  by_stage answer c SweepStage End e under safe is at_next touches = by_reads asked.GcStep answer touches.only

  by_gc : (answer : Result Answer Refusal) (running : Option Collection) → IsUnderWayIn old.tables.held running → IsSafeIn at.index s old.parts at.stands.known.0 running
      → TouchesBy running answer old new.disk
      → CrashLeaves (Either S asked.GcStep answer bytes stored) old.disk new.disk
  by_gc answer None under safe touches = by_reads asked.GcStep answer touches.only
  by_gc answer (Some c) under safe touches = by_stage answer c c.stage c.sweep.next (ending blames answer) under safe refl refl touches

  by_effect : (step : StepValue) (answer : Result Answer Refusal) → Effect step answer old new → IsStep step → IsGivenRight S step answer bytes old
      → CrashLeaves (Either S step answer bytes stored) old.disk new.disk
  by_effect asked.Begin answer effect right given = by_reads asked.Begin answer effect.disk.only
  by_effect (asked.Claim seg) answer effect right given = by_reads (asked.Claim seg) answer effect.disk.only
  by_effect (asked.Seal offered) answer effect right given = by_seal offered answer effect right given
  by_effect (asked.Commit name root) answer effect right given = by_commit name root answer effect given
  by_effect asked.Abort answer effect right given = by_reads asked.Abort answer effect.disk.only
  by_effect (asked.OpenRead name) answer effect right given = by_reads (asked.OpenRead name) answer effect.disk.only
  by_effect asked.ReadNext answer effect right given = by_reads asked.ReadNext answer effect.disk.only
  by_effect asked.EndRead answer effect right given = by_reads asked.EndRead answer effect.disk.only
  by_effect (asked.Delete name) answer effect right given = by_delete name answer effect
  by_effect asked.ListNames answer effect right given = by_reads asked.ListNames answer effect.disk.only
  by_effect (asked.GcStart percent) answer effect right given = by_reads (asked.GcStart percent) answer effect.disk.only
  by_effect asked.GcStep answer effect right given = by_gc answer old.collection at.under_way (at.safe at.stands.known.0 at.stands.known.1) effect.touches
  by_effect asked.Stat answer effect right given = by_reads asked.Stat answer effect.disk.only
  by_effect asked.Unique answer effect right given = by_reads asked.Unique answer effect.disk.only

  by_stop : (stop : Option Stop) (f : FileEvent) → f.bytes ≡ bytes → StepsOr stop f.event old new → IsStep f.event.step → IsGivenRight S f.event.step f.event.answer bytes old
      → CrashLeaves (Either S f.event.step f.event.answer bytes stored) old.disk new.disk
  by_stop None f same steps right given = by_effect f.event.step f.event.answer steps.made.effect right given
  by_stop (Some stop) f same steps right given = by_reads f.event.step f.event.answer steps.same.disk.only

-- At each moment of a step, and after it, a crash leaves an image that can be opened as the files before it or after it, where a write that
-- failed may stand; or one that it might have left before.
pub step_leaves : (among : ByteSet) (f : FileEvent) (s : Store) (stored : Stored) (old new : CoreState) → HasNoCollisions (IsIn among) → IsAt (IsIn among) s stored old
    → FileStep (IsIn among) f old new → CrashLeaves (Either (IsIn among) f.event.step f.event.answer f.bytes stored) old.disk new.disk
step_leaves among f s stored old new distinct at step = by_stop among s stored old new f.bytes distinct at old.stop f refl step.made step.asked step.given
