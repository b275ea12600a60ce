-- A step of a core that is at the files of a machine: what is known of it before its parts are proved.
use Rattle.core_machine.proofs.Prelude.{◌≡◌, true, None, ByteSet, HasNoCollisions, IsIn, FileEvent, FileStep, CoreState, IsUp, FileMachine, forget_step, Legal, Running, RootMachine, of_files, of_roots, IsAtFiles, IsOfFile, IsMachine, NamesStep}
use Rattle.store_machine.specs.Forgetting.{Forgets}
use Rattle.core_machine.specs.Files.{file_step}

-- The core runs, and is at the files of m, which forgets all but the roots as r does; it makes the step f, which r makes, too, and is t then.
pub record StepsAt (C : Type 0) (state : C → CoreState) (among : ByteSet) (f : FileEvent) (old new : C) (m : FileMachine) (r t : RootMachine) : Type 0 where
  pub apart : HasNoCollisions (IsIn among)
  pub runs : m.state ≡ Running
  pub goes : (state old).stop ≡ None
  pub up : IsUp (state old)
  pub forgets : Forgets m r
  pub machine : IsMachine true r (state old)
  pub at : IsAtFiles (IsIn among) m (state old)
  pub of_file : IsOfFile f.event.step f.bytes
  pub step : FileStep (IsIn among) f (state old) (state new)
  pub legal : Legal of_roots (forget_step (file_step f)) r t
  pub then : IsMachine true t (state new)
  pub named : NamesStep f.event.step f.event.answer (state old) (state new) r t

-- And n is what it makes of m.
pub record StepsTo (C : Type 0) (state : C → CoreState) (among : ByteSet) (f : FileEvent) (old new : C) (m n : FileMachine) (r t : RootMachine) : Type 0 where
  pub steps : StepsAt C state among f old new m r t
  pub legal : Legal of_files (file_step f) m n
  pub forgets : Forgets n t
