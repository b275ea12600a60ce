-- A step that stopped a core at the files of a machine: its disk stands for the files of the machine that is stopped then.
use Rattle.core_machine.proofs.Prelude.{◌≡◌, ◌⊎◌, inl, inr, ◌+◌, ◌≤◌, ℕ, suc, Bool, true, false, List, [], ◌∷◌, Option, Some, None, Result, Err, refl, sym, ◌∙◌, ap, subst, arith, Broken, IsLater, OnlyReads, PlaceMap, Change, Root, Gone, Put, Answer, StepValue, IsStep, Mark, Filter, Select, IsSafeAt, Touches, phase_at, HoldsAt, HasStage, IsUnderWay, Next, Flush, Release, End, HoldsSweep, IsSweeping, Refusal, ByteSet, HasNoCollisions, IsIn, Files, without_some, Store, last_sequence, with_change, with_sealed, CoreInvariant, Stop, TouchesBy, Effect, NamesOne, SealsSome, Steps, StopsAfter, FileEvent, IsGivenRight, IsSafeIn, IsHarmless, MayClash, CoreState, IsUnderWayIn, running_step, last_at, opens_at, never_damaged, step_later, FileMachine, SameState, ByState, LegalBy, Refuses, broken_by, with_name, without_name, Found, RunState, Running, Stopped, stopped, RootMachine, StaysAt, of_files, IsAtFiles, MayStand, StandsFor, stored_in, answered_by, asked_as, NamesStep, stores_without_some, stores_of}
use Rattle.std.proofs.Common.{if◌then◌else◌, Contains}
use Rattle.std.specs.Prelude.{IfErr}
use Rattle.container_meta.specs.Segments.{Contents}
use Rattle.actor_parts.specs.StepValue as steps
use Rattle.gc_steps.specs.declared.collection.Collection.{Collection}
use Rattle.gc_steps.specs.declared.collection.Stage.{Stage}
use Rattle.gc_steps.specs.declared.collection.Stage.TheVariants.{Sweep}
use Rattle.gc_sweep.specs.declared.sweep.Next.TheVariants.{Copy}
use Rattle.gc_sweep.specs.Releasing.{GivesBack}
use Rattle.ingest_steps.specs.Naming.{FilesStandStill}
use Rattle.ingest_steps.specs.Sealing.{SealsIndexed}
use Rattle.refusals.specs.declared.refusal.Refusal.TheVariants as refusals
use Rattle.store_model.specs.Collisions.{Stands as IsStoreOf}
use Rattle.store_model.specs.Files.{with_file, without_file}
use Rattle.store_model.specs.Standing.{CanBeOpened}
use Rattle.store_model.specs.Steps.{has_cell, with_cell, with_checkpoint, with_other}
use Rattle.store_model.specs.Trees.{root_of}
use Rattle.store_model.proofs.Cells.{last_with_cell}
use Rattle.store_core.specs.Runs.{IsRootOf}
use Rattle.store_core.proofs.Crashes.{change_leaves, delete_leaves, flush_leaves, last_more, less_indexed, none_in_turn, opens_by, opens_copied, opens_freed, opens_some, put_indexed, put_leaves, release_leaves, seal_leaves}
use Rattle.store_machine.specs.Forgetting.{Forgets}
use Rattle.std.specs.Prelude.{length, take}
use Rattle.std.proofs.lemmas.List.{length-take}
use Rattle.actor_parts.specs.Offers.{sealed_of}
use Rattle.store_model.specs.Slots.{free_slots}
use Rattle.store_model.specs.Together.{Placed, with_some}
use Rattle.ingest_steps.specs.Offering.{in_free, offer_in}
use Rattle.store_core.proofs.ManySealed.{last_some}
use Rattle.store_machine.specs.Offers.{sealed_in, stores_with_some}
use Rattle.store_machine.proofs.Released.{fewer_stands}
use Rattle.store_model.proofs.FreedAll.{last_all, marked, some_are_all}
use Rattle.core_machine.proofs.PlacedSame.{some_stands}
use Rattle.core_machine.proofs.FileSteps.{StepsAt, StepsTo}

-- what stops a core that finds no damage
why_stopped : (step : StepValue) (answer : Result Answer Refusal) (count : ℕ) (stopped : Option Stop) (stop : Stop) → stopped ≡ Some stop → StopsAfter step answer count stopped
    → IfErr answer (λ refusal. IsHarmless (MayClash step) refusal) → answer ≡ Err refusals.DiskWrite
why_stopped step (Err refusals.DiskWrite) count stopped stop is stops harmless = refl
why_stopped (steps.Seal offered) (Err (refusals.Damaged at why)) count stopped stop is stops harmless = absurd harmless
why_stopped step answer count stopped stop is stops harmless = absurd (let both = sym is ∙ stops in cc)

-- ---- which stores may stand

-- a store with a free cell is it, or it after a checkpoint
cell_by : (s : Store) → (with_cell s ≡ s) ⊎ (with_cell s ≡ with_checkpoint s)
cell_by s = by (has_cell s)
  where
    by : (free : Bool) → (record s {
      selector = if free then s.selector else (with_checkpoint s).selector;
      other_open = if free then s.other_open else (with_checkpoint s).other_open;
      records = if free then s.records else (with_checkpoint s).records;
    } ≡ s) ⊎ (record s {
      selector = if free then s.selector else (with_checkpoint s).selector;
      other_open = if free then s.other_open else (with_checkpoint s).other_open;
      records = if free then s.records else (with_checkpoint s).records;
    } ≡ with_checkpoint s)
    by true = inl refl
    by false = inr refl

module _ (among : ByteSet) (m : FileMachine) (old new : CoreState) (at : IsAtFiles (IsIn among) m old) where
  abbrev S : List ℕ → Type 0
  S = IsIn among

  abbrev files : Files
  files = m.now.names

  abbrev given : List ℕ
  given = at.is_at.stands.known.0

  abbrev told : old.disk.content ≡ Some given
  told = at.is_at.stands.known.1

  opens : CanBeOpened m.store files
  opens = opens_at S m.store (stored_in m.now) old at.is_at

  last_here : last_sequence m.store ≡ m.now.last
  last_here = last_at S m.store (stored_in m.now) old at.is_at

  -- the disk tells what it holds, and that is one of its images
  stands_by : (n : FileMachine) → IsLater old.disk new.disk → ((image : List ℕ) → new.disk.images image → MayStand S n image) → StandsFor S n new.disk
  stands_by n later each =
      let (image, is, _) = later.tells given told in record { content = (image, is, each image (new.disk.as_read image is)); images = each }

  -- of the files that it has
  may_be : (other : Option (Found (List ℕ))) (stores : List Store) (t : Store) (image : List ℕ) → Contains (m.store ∷ stores) t → CanBeOpened t files → last_sequence t ≡ m.now.last
      → IsStoreOf S t files image → MayStand S (stopped other stores m) image
  may_be None stores t image there can last is = record { found = m.now; may = refl; store = t; stands = there; is = is; opens = can; last_is = last }
  may_be (Some other) stores t image there can last is = record { found = m.now; may = inl refl; store = t; stands = there; is = is; opens = can; last_is = last }

  -- it is the store that it was
  may_still : (other : Option (Found (List ℕ))) (stores : List Store) (image : List ℕ) → IsStoreOf S m.store files image → MayStand S (stopped other stores m) image
  may_still other stores image is = may_be other stores m.store image (0, omega arith, refl) opens last_here is

  read_still : (other : Option (Found (List ℕ))) (stores : List Store) → OnlyReads old.disk new.disk → (image : List ℕ) → new.disk.images image
      → MayStand S (stopped other stores m) image
  read_still other stores reads image left = may_still other stores image (at.is_at.stands.each image (reads.images_are image left))

  -- or that with one change
  may_one : (t : Store) (image : List ℕ) → CanBeOpened t files → last_sequence t ≡ last_sequence m.store → IsStoreOf S t files image → MayStand S (stopped None (t ∷ []) m) image
  may_one t image can same is = may_be None (t ∷ []) t image (1, omega arith, refl) can (same ∙ last_here) is

  -- ---- a name

  module _ (name : List ℕ) (change : Change) (other : Found (List ℕ)) where
    abbrev halted : FileMachine
    halted = stopped (Some other) (broken_by of_files name change m.store) m

    still_named : (image : List ℕ) → FilesStandStill S m.store files image → MayStand S halted image
    still_named image (inl is) = may_still (Some other) (broken_by of_files name change m.store) image is
    still_named image (inr (inl is)) =
        may_be (Some other) (broken_by of_files name change m.store) (with_other false m.store) image (2, omega arith, refl) opens last_here is
    still_named image (inr (inr is)) = elim (cell_by m.store) [
      | inl same ↦ may_still (Some other) (broken_by of_files name change m.store) image (subst (λ (t : Store). IsStoreOf S t files image) same is)
      | inr made ↦ may_be (Some other) (broken_by of_files name change m.store) (with_checkpoint m.store) image (3, omega arith, refl) opens
          (ap last_sequence (sym made) ∙ last_with_cell m.store at.is_at.valid.follow ∙ last_here) (subst (λ (t : Store). IsStoreOf S t files image) made is)
    ]

    named : (image : List ℕ) → CanBeOpened (with_change name change m.store) other.names → last_sequence (with_change name change m.store) ≡ other.last
        → FilesStandStill S m.store files image ⊎ IsStoreOf S (with_change name change m.store) other.names image → MayStand S halted image
    named image can last (inl still) = still_named image still
    named image can last (inr is) =
        record { found = other; may = inr refl; store = with_change name change m.store; stands = (1, omega arith, refl); is = is; opens = can; last_is = last }

  -- ---- the steps

  module _ (bytes : List ℕ) (apart : HasNoCollisions (IsIn among)) where
    abbrev core : CoreInvariant at.is_at.index m.store m.now.names old.parts given
    core = at.is_at.invariant given told

    abbrev index : PlaceMap
    index = at.is_at.index

    seal_stands : (offered : List Contents) → m.last_id ≡ old.tables.held.last_id → SealsSome offered (Err refusals.DiskWrite) old new → IsStep (steps.Seal offered)
        → IsGivenRight S (steps.Seal offered) (Err refusals.DiskWrite) bytes old → (image : List ℕ) → new.disk.images image
        → MayStand S (stopped None (stores_with_some m.last_id (sealed_in offered m) m.store) m) image
    seal_stands offered last_is effect right is_given image left =
        let cs : List Contents = sealed_in offered m in
        let n : ℕ = sealed_of (length offered) (free_slots m.store.held) m.last_id in
        let ps : List Placed = offer_in old.tables offered m.store in
        let offer_is : in_free (suc m.last_id) cs m.store ≡ ps =
        (let next : suc m.last_id ≡ m.last_id + 1 = omega arith in ap (λ (k : ℕ). in_free k cs m.store) next)
        ∙ ap (λ (last : ℕ). in_free (last + 1) (take (sealed_of (length offered) (free_slots m.store.held) last) offered) m.store) last_is in
        let stands = (seal_leaves among m.store (stored_in m.now) old new bytes apart at.is_at offered (Err refusals.DiskWrite) effect right is_given).now image left in
        may_be None (stores_with_some m.last_id cs m.store) (with_some stands.0 ps m.store) image
        (subst (λ (qs : List Placed). Contains (m.store ∷ stores_with_some m.last_id cs m.store) (with_some stands.0 qs m.store)) offer_is
        (some_stands m.last_id cs m.store stands.0 (omega (arith, length-take n offered))))
        (opens_some among m.store (stored_in m.now) old new bytes apart at.is_at offered stands.0) (last_some stands.0 ps m.store ∙ last_here) stands.1

    put_stands : (name : List ℕ) (root : Root) → NamesOne name (Put root) (Err refusals.DiskWrite) old new → IsRootOf root bytes old → (image : List ℕ) → new.disk.images image
        → MayStand S (stopped (Some (with_name of_files name bytes m.now)) (broken_by of_files name (Put (root_of bytes)) m.store) m) image
    put_stands name root effect is_root image left =
        subst (λ (r : Root). MayStand S (stopped (Some (with_name of_files name bytes m.now)) (broken_by of_files name (Put r) m.store) m) image) is_root.root_is
        (named name (Put root) (with_name of_files name bytes m.now) image
        (opens_by index m.store (with_file files name bytes) (put_indexed among m.store (stored_in m.now) old new bytes apart at.is_at name root is_root) core.reserve_holds)
        (last_more among m.store (stored_in m.now) old new bytes apart at.is_at name (Put root))
        ((put_leaves among m.store (stored_in m.now) old new bytes apart at.is_at name root (Err refusals.DiskWrite) effect is_root).now image left))

    delete_stands : (name : List ℕ) → NamesOne name Gone (Err refusals.DiskWrite) old new → (image : List ℕ) → new.disk.images image
        → MayStand S (stopped (Some (without_name of_files name m.now)) (broken_by of_files name Gone m.store) m) image
    delete_stands name effect image left =
        named name Gone (without_name of_files name m.now) image
        (opens_by index m.store (without_file files name) (less_indexed among m.store (stored_in m.now) old new bytes apart at.is_at name) core.reserve_holds)
        (last_more among m.store (stored_in m.now) old new bytes apart at.is_at name Gone)
        ((delete_leaves among m.store (stored_in m.now) old new bytes apart at.is_at name (Err refusals.DiskWrite) effect).now image left)

    -- ---- a step of a collection

    -- the stores that may stand where its write failed
    abbrev stores_by : Stage → Next → Collection → List Store
    stores_by stage next c = stores_of (phase_at stage next) old.tables.held.last_id c.sweep m.store

    module _ (c : Collection) (source entry : ℕ) (sweeping : IsSweeping old.tables.held c.snapshot c.sweep) (began : c.snapshot ≤ old.tables.held.last_id + 1)
        (holds : HoldsSweep index m.store.held given c.live c.snapshot c.sweep) where
      -- the store with a container of what was copied
      abbrev with_copies : ℕ → Store
      with_copies id = with_sealed id c.sweep.buffer.kind c.sweep.buffer.segments m.store

      flush_stands : c.sweep.next ≡ Flush source entry → SealsIndexed old.tables (old.tables.held.last_id + 1) c.sweep.buffer Broken old.disk new.disk → (image : List ℕ)
          → new.disk.images image → MayStand S (stopped None (with_copies (suc old.tables.held.last_id) ∷ []) m) image
      flush_stands stage seals image left =
          let next : old.tables.held.last_id + 1 ≡ suc old.tables.held.last_id = omega arith in
          elim ((flush_leaves among m.store (stored_in m.now) old new bytes apart at.is_at c source entry sweeping began holds Broken seals).now image left) [
            | inl was ↦ may_still None (with_copies (suc old.tables.held.last_id) ∷ []) image was
            | inr is ↦ subst (λ (k : ℕ). MayStand S (stopped None (with_copies k ∷ []) m) image) next
                (may_one (with_copies (old.tables.held.last_id + 1)) image
                (opens_copied among m.store (stored_in m.now) old new bytes apart at.is_at c source entry sweeping began holds stage image is) refl is)
          ]

      -- some of the sources that are ready were given back, whichever
      free_stands : c.sweep.next ≡ Release source entry → GivesBack old.tables c.sweep.ready.items Broken old.disk new.disk → (image : List ℕ) → new.disk.images image
          → MayStand S (stopped None (stores_without_some c.sweep.ready.items m.store) m) image
      free_stands stage gives image left =
          let slots : List ℕ = c.sweep.ready.items in
          let none = none_in_turn among m.store (stored_in m.now) old new bytes apart at.is_at c source entry sweeping began holds stage in
          let stands = (release_leaves among m.store (stored_in m.now) old new bytes apart at.is_at Broken slots none gives).now image left in
          may_be None (stores_without_some slots m.store) (without_some stands.0 slots m.store) image (fewer_stands slots m.store stands.0)
          (opens_freed among m.store (stored_in m.now) old new bytes apart at.is_at stands.0 slots none)
          (ap last_sequence (some_are_all stands.0 slots m.store) ∙ last_all (marked stands.0 slots) m.store ∙ last_here) stands.1

    module _ (c : Collection) (under : IsUnderWay old.tables.held c) where
      gc_stands : (stage : Stage) (next : Next) → IsSafeAt stage index m.store old.parts given c → c.stage ≡ stage → c.sweep.next ≡ next
          → Touches stage next c.sweep old.tables Broken old.disk new.disk → (image : List ℕ) → new.disk.images image → MayStand S (stopped None (stores_by stage next c) m) image
      gc_stands (Mark level slot) next safe is next_is touches image left = read_still None [] touches.only image left
      gc_stands (Filter slot) next safe is next_is touches image left = read_still None [] touches.only image left
      gc_stands Select next safe is next_is touches image left = read_still None [] touches.only image left
      gc_stands Sweep (Copy source entry) safe is next_is touches image left =
          may_still None [] image
          ((change_leaves among m.store (stored_in m.now) old new bytes apart at.is_at Broken (touches m.store.slots at.is_at.valid.size_is)).now image left)
      gc_stands Sweep (Flush source entry) safe is next_is touches image left =
          flush_stands c source entry (subst (HasStage old.tables.held c) is under.stage_is) under.began
          (subst (λ (stage : Stage). HoldsAt stage index m.store.held given c) is safe.sweep_holds).1 next_is touches.1 image left
      gc_stands Sweep (Release source entry) safe is next_is touches image left =
          free_stands c source entry (subst (HasStage old.tables.held c) is under.stage_is) under.began
          (subst (λ (stage : Stage). HoldsAt stage index m.store.held given c) is safe.sweep_holds).1 next_is touches.1 image left
      gc_stands Sweep End safe is next_is touches image left = read_still None [] touches.only image left

    collect_stands : (k : Collection) (running : Option Collection) → running ≡ Some k → IsUnderWayIn old.tables.held running → IsSafeIn index m.store old.parts given running
        → TouchesBy running (Err refusals.DiskWrite) old new.disk → (image : List ℕ) → new.disk.images image → MayStand S (stopped None (stores_by k.stage k.sweep.next k) m) image
    collect_stands k None is under safe touches image left = absurd (let wrong : None ≡ Some k = is in cc)
    collect_stands k (Some c) is under safe touches image left =
        let same : c ≡ k = cc in
        subst (λ (x : Collection). MayStand S (stopped None (stores_by x.stage x.sweep.next x) m) image) same
        (gc_stands c under c.stage c.sweep.next safe refl refl touches image left)

-- ---- a step that stopped it

-- a step that writes
abbrev Writes : StepValue → Type 0
Writes (steps.Seal offered) = Unit {0}
Writes (steps.Commit name root) = Unit {0}
Writes (steps.Delete name) = Unit {0}
Writes steps.GcStep = Unit {0}
Writes step = ⊥

no_read : (rest after : List (List ℕ)) → StaysAt rest refusals.DiskWrite after → ⊥
no_read [] after stays = stays
no_read (bytes ∷ rest) after stays = stays

module _ (bytes : List ℕ) (m n : FileMachine) (runs : m.state ≡ Running) (actor : ℕ) where
  -- what the machine makes of a step that was refused so
  refused : (step : StepValue) → LegalBy of_files (asked_as (λ root. bytes) step) actor (Err refusals.DiskWrite) m n
      → Refuses of_files actor (asked_as (λ root. bytes) step) refusals.DiskWrite m n
  refused step legal = subst (λ (s : RunState (List ℕ)). ByState of_files s actor (asked_as (λ root. bytes) step) (Err refusals.DiskWrite) m n) runs (by_state step legal)
    where
      by_state : (step : StepValue) → LegalBy of_files (asked_as (λ root. bytes) step) actor (Err refusals.DiskWrite) m n
          → ByState of_files m.state actor (asked_as (λ root. bytes) step) (Err refusals.DiskWrite) m n
      by_state steps.Begin legal = legal
      by_state other legal = legal

  -- none but those that write are
  it_writes : (step : StepValue) → Refuses of_files actor (asked_as (λ root. bytes) step) refusals.DiskWrite m n → Writes step
  it_writes (steps.Seal offered) refuses = tt
  it_writes (steps.Commit name root) refuses = tt
  it_writes (steps.Delete name) refuses = tt
  it_writes steps.GcStep refuses = tt
  it_writes steps.ReadNext (right, (file, rest, after, is, stays, others)) = no_read rest after stays
  it_writes step refuses = refuses.1

-- the stores that may stand where a collection's write failed are those that the core names
pub stores_are : (m n : FileMachine) (r t : RootMachine) → Forgets m r → Forgets n t → (last : ℕ) → r.last_id ≡ last → (k : Collection) (stores others : List Store)
    → n.state ≡ Stopped None stores → t.state ≡ Stopped None others
    → others ≡ stores_of (phase_at k.stage k.sweep.next) r.last_id k.sweep r.store
    → stores ≡ stores_of (phase_at k.stage k.sweep.next) last k.sweep m.store
stores_are m n r t was is last last_is k stores others n_is t_is so =
    let same : others ≡ stores = subst (SameState (Stopped None stores)) t_is (subst (λ (s : RunState (List ℕ)). SameState s t.state) n_is is.state) in
    sym same ∙ so
    ∙ ap (stores_of (phase_at k.stage k.sweep.next) r.last_id k.sweep) was.store
    ∙ ap (λ (id : ℕ). stores_of (phase_at k.stage k.sweep.next) id k.sweep m.store) last_is

module _ {C : Type 0} {state : C → CoreState} {among : ByteSet} {f : FileEvent} {old new : C} {m n : FileMachine} {r t : RootMachine}
    (to : StepsTo C state among f old new m n r t) (stop : Stop) (stops : (state new).stop ≡ Some stop) where
  abbrev before : StepsAt C state among f old new m r t
  before = to.steps

  abbrev here : IsAtFiles (IsIn among) m (state old)
  here = before.at

  made : Steps f.event (state old) (state new)
  made = running_step (state old) (state new) f.event before.goes before.step.made

  later : IsLater (state old).disk (state new).disk
  later = step_later (state old) (state new) f.event (state old).stop before.step.made

  why : f.event.answer ≡ Err refusals.DiskWrite
  why = why_stopped f.event.step f.event.answer (state old).acknowledged (state new).stop stop stops made.stops
      (never_damaged among f m.store (stored_in m.now) (state old) (state new) before.apart here.is_at before.step)

  -- each image is one of the machine that it makes
  stands_as : (other : Option (Found (List ℕ))) (stores : List Store) → n ≡ stopped other stores m
      → ((image : List ℕ) → (state new).disk.images image → MayStand (IsIn among) (stopped other stores m) image) → StandsFor (IsIn among) n (state new).disk
  stands_as other stores is each =
      stands_by among m (state old) (state new) here n later (λ image left. subst (λ (x : FileMachine). MayStand (IsIn among) x image) (sym is) (each image left))

  by_step : (step : StepValue) → Writes step → Effect step (Err refusals.DiskWrite) (state old) (state new) → IsStep step
      → IsGivenRight (IsIn among) step (Err refusals.DiskWrite) f.bytes (state old) → Refuses of_files f.event.actor (asked_as (λ root. f.bytes) step) refusals.DiskWrite m n
      → NamesStep step (Err refusals.DiskWrite) (state old) (state new) r t → StandsFor (IsIn among) n (state new).disk
  by_step (steps.Seal offered) writes effect right given (may, (slot, fits, is)) named =
      stands_as None (stores_with_some m.last_id (sealed_in offered m) m.store) is
      (seal_stands among m (state old) (state new) here f.bytes before.apart offered (sym before.forgets.last_id ∙ before.machine.last_id) effect right given)
  by_step (steps.Commit name root) writes effect right given (may, (can, numbers, value, whole, is)) named =
      stands_as (Some (with_name of_files name f.bytes m.now)) (broken_by of_files name (Put (root_of f.bytes)) m.store) is
      (put_stands among m (state old) (state new) here f.bytes before.apart name root effect given)
  by_step (steps.Delete name) writes effect right given (may, (named, there, numbers, is)) names =
      stands_as (Some (without_name of_files name m.now)) (broken_by of_files name Gone m.store) is
      (delete_stands among m (state old) (state new) here f.bytes before.apart name effect)
  by_step steps.GcStep writes effect right given (may, (stores, breaks, is)) (k, runs, t_is) =
      let same = stores_are m n r t before.forgets to.forgets (state old).tables.held.last_id before.machine.last_id k stores _ (ap (λ (x : FileMachine). x.state) is) t_is refl in
      stands_as None (stores_by among m (state old) (state new) here f.bytes before.apart k.stage k.sweep.next k) (is ∙ ap (λ (ss : List Store). stopped None ss m) same)
      (collect_stands among m (state old) (state new) here f.bytes before.apart k (state old).collection runs here.is_at.under_way
      (here.is_at.safe here.is_at.stands.known.0 here.is_at.stands.known.1) effect.touches)
  by_step step writes effect right given refuses named = absurd writes

  pub broken : StandsFor (IsIn among) n (state new).disk
  broken =
      let legal = subst (λ (a : Result Answer Refusal). LegalBy of_files (asked_as (λ root. f.bytes) f.event.step) f.event.actor (answered_by a f.event.buf) m n) why to.legal in
      let refuses = refused f.bytes m n before.runs f.event.actor f.event.step legal in
      by_step f.event.step (it_writes f.bytes m n before.runs f.event.actor f.event.step refuses)
      (subst (λ (a : Result Answer Refusal). Effect f.event.step a (state old) (state new)) why made.made.effect) before.step.asked
      (subst (λ (a : Result Answer Refusal). IsGivenRight (IsIn among) f.event.step a f.bytes (state old)) why before.step.given) refuses
      (subst (λ (a : Result Answer Refusal). NamesStep f.event.step a (state old) (state new) r t) why before.named)
