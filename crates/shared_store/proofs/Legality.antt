-- A history of turns is a run of the machine.
use Rattle.std.proofs.Common.{◌≡◌, ℕ, List, [], ◌∷◌, ◌++◌, map, Option, refl, sym, subst, false}
use Rattle.std.specs.List.{AllByRecursion}
use Rattle.base_model.specs.Known.{KnownWith}
use Rattle.dd_disk.specs.Ending.{Done, Reads}
use Rattle.dd_disk.specs.View.{DiskView}
use Rattle.store_model.specs.Collisions.{IsIn}
use Rattle.turn_lock.specs.declared.history.Turn.{Turn}
use Rattle.turn_lock.specs.History.{IsHistory, last_of}
use Rattle.store_core.specs.Runs.{FileRun, RunsOn}
use Rattle.store_core.specs.State.{CoreState, IsRunning}
use Rattle.store_machine.specs.ByMap.{FileMachine}
use Rattle.core_machine.specs.FileOpenings.{DisksStand}
use Rattle.core_machine.specs.Files.{FileRunsRefine, IsFileMachine, IsOfFile, MayStand, StandsFor}
use Rattle.core_machine.specs.Refines.{CoreRefines, IsMachine}
use Rattle.core_machine.specs.Runs.{RunsRefine}
use Rattle.shared_store.specs.Histories.{AreFileCalls, AreFileRuns, AreRootCalls, AreRootRuns, AreSteps, EndsStand, IsRight, events_in, file_actor, files_in, makers}
use Rattle.shared_store.specs.Made.{MadeBy}

-- a disk that is only read stands for what it stood for
read_stands : (S : List ℕ → Type 0) (m : FileMachine) (old new : DiskView) → Reads Done old new → StandsFor S m old → StandsFor S m new
read_stands S m old new reads stands = record {
  content = subst (λ (told : Option (List ℕ)). KnownWith told (MayStand S m)) (sym reads.only.content_is) stands.content;
  images = λ image is. stands.images image (reads.only.images_are image is);
}

module _ {C : Type 0} (state : C → CoreState) where
  pub are_steps : AreSteps state
  are_steps o [] history = (refl, tt, refl)
  are_steps o (t ∷ log) ((e, by, (asked, made)), history) =
      let rest = are_steps t.value log history in ((λ i. by i ∷ rest.0 i), (asked, rest.1), (t.value, (made, rest.2)))

  -- right steps
  right_steps : (S : List ℕ → Type 0) (o : C) (log : List (Turn C)) (history : IsRight state S o log)
      → (map (file_actor state) (files_in state S o log history) ≡ makers log)
      × AllByRecursion (λ f. IsOfFile f.event.step f.bytes) (files_in state S o log history)
      × FileRun C state S (files_in state S o log history) o (last_of o log)
  right_steps S o [] history = (refl, tt, refl)
  right_steps S o (t ∷ log) ((f, by, (of_file, made)), history) =
      let rest = right_steps S t.value log history in ((λ i. by i ∷ rest.0 i), (of_file, rest.1), (t.value, (made, rest.2)))

  -- ---- by the laws of cores

  module _ (runs : RunsOn C state) where
    runs_then : (o : C) (log : List (Turn C)) → IsHistory (MadeBy state) o log → IsRunning (state o) → IsRunning (state (last_of o log))
    runs_then o log history up = runs (events_in state o log history) o (last_of o log) (are_steps o log history).2 up

    pub are_root_runs : RunsRefine C state → AreRootRuns state
    are_root_runs refine o log m up is history =
        let one = refine false (events_in state o log history) o (last_of o log) m up is (λ told. absurd (cc)) (are_steps o log history).2 in
        record { left = one.0; run = one.1.0; is_left = one.1.1 }

    pub are_root_calls : RunsRefine C state → CoreRefines C state → AreRootCalls state
    are_root_calls refine steps_refine o m v w e up is opened called =
        let legal = called.legal o opened in
        let log : List (Turn C) = v.seen ++ called.between in
        let before = are_root_runs refine o log m up is legal.0 in
        let one = steps_refine false e called.found called.after before.left
        (subst (λ (c : C). IsRunning (state c)) (sym legal.1) (runs_then o log legal.0 up))
        (subst (λ (c : C). IsMachine false before.left (state c)) (sym legal.1) before.is_left) (λ told. absurd (cc)) called.made in
        record { before = before; after = one.0; legal = one.1.0; is_after = one.1.1 }

    module _ (refine : FileRunsRefine C state) where
      pub are_file_runs : AreFileRuns state
      are_file_runs among o log m distinct up is history =
          let made = right_steps (IsIn among) o log history in
          let one = refine among (files_in state (IsIn among) o log history) o (last_of o log) m distinct up is made.1 made.2 in
          record { left = one.0; run = one.1; of_turns = made.0; is_left = one.2; moments = one.3 }

      pub are_file_calls : AreFileCalls state
      are_file_calls among o m v w f distinct up is opened called history of_file right =
          let legal = called.legal o opened in
          let log : List (Turn C) = v.seen ++ called.between in
          let before = are_file_runs among o log m distinct up is history in
          let one = refine among (f ∷ []) called.found called.after before.left distinct
          (subst (λ (c : C). IsRunning (state c)) (sym legal.1) (runs_then o log legal.0 up))
          (subst (λ (c : C). IsFileMachine (IsIn among) before.left (state c)) (sym legal.1) before.is_left) (of_file, tt)
          (called.after, (record { asked = called.asked; given = right; made = called.made }, refl)) in
          record { before = before; after = one.0; run = one.1; is_after = one.2; moments = one.3 }

      pub ends_stand : DisksStand C state → (D : Type 0) (view : D → DiskView) → EndsStand state D view
      ends_stand disks D view among o m v core disk distinct up is opened ends reads history =
          let ran = are_file_runs among o ends.seen m distinct up is history in
          let core_is = (ends.legal o opened).1 in record {
            ran = ran;
            core_is = core_is;
            stands =
                read_stands (IsIn among) ran.left (state core).disk (view disk) reads
                (disks among core ran.left (subst (λ (c : C). IsFileMachine (IsIn among) ran.left (state c)) (sym core_is) ran.is_left));
          }
