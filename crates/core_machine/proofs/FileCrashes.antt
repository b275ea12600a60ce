-- What a crash leaves at any moment of a step, and of steps, of a core that stands for files: files that the run of the machine comes by.
use Rattle.core_machine.proofs.Prelude.{◌≡◌, ◌⊎◌, inl, inr, ◌≤◌, ℕ, List, [], ◌∷◌, Some, None, Result, Ok, Err, refl, sym, ◌∙◌, ap, subst, arith, CrashLeaves, DiskView, OnlyReads, leaves_weaker, reads_leave, Answer, StepValue, Refusal, ByteSet, IsIn, OpensAs, Stored, FileEvent, IsNoGcStep, stored_by, stored_with, Steps, StopsAfter, CoreState, running_step, FileMachine, Answers, Legal, RefusesGcStep, with_name, without_name, Found, RunState, Running, Stopped, MayBeFound, RootMachine, Run, of_files, IsOfFound, IsOfPassed, MayStand, StandsFor, stored_in, answered_by, asked_as}
use Rattle.actor_parts.specs.declared.step.Answer.TheVariants as answers
use Rattle.actor_parts.specs.StepValue as steps
use Rattle.refusals.specs.declared.refusal.Refusal.TheVariants as refusals
use Rattle.store_core.proofs.AnySteps.{gc_or_not}
use Rattle.store_core.proofs.Crashes.{Either, step_leaves as core_leaves, stored_tried}
use Rattle.store_machine.specs.Asked as asked
use Rattle.store_machine.specs.Machine.{Stepped}
use Rattle.store_machine.specs.Runs.{IsPassedFrom}
use Rattle.core_machine.proofs.FileKept.{answers_by, comes, refused_now}
use Rattle.core_machine.proofs.FileStands.{stands_opens}
use Rattle.core_machine.proofs.FileSteps.{StepsTo}

found_itself : (state : RunState (List ℕ)) (now : Found (List ℕ)) → MayBeFound of_files state now now
found_itself Running now = refl
found_itself (Stopped None stores) now = refl
found_itself (Stopped (Some other) stores) now = inl refl

-- ---- what the step made of the files

now_of : (m n k : FileMachine) → n ≡ k → k.now ≡ m.now → stored_in m.now ≡ stored_in n.now
now_of m n k is now = ap stored_in (sym (ap (λ (x : FileMachine). x.now) is ∙ now))

gc_refused_now : (m n : FileMachine) (refusal : Refusal) → RefusesGcStep of_files refusal m n → stored_in m.now ≡ stored_in n.now
gc_refused_now m n refusals.NotCollecting is = now_of m n m is.1 refl
gc_refused_now m n refusals.Memory is = now_of m n m is.1 refl
gc_refused_now m n refusals.Numbers is = now_of m n m is.2 refl
gc_refused_now m n refusals.DiskRead is = now_of m n m is.1 refl
gc_refused_now m n refusals.DiskWrite is = now_of m n _ is.2 refl
gc_refused_now m n (refusals.Corrupt slot offset count want got) is = now_of m n m is.1.1 refl
gc_refused_now m n (refusals.Missing key) is = now_of m n m is.1.1 refl
gc_refused_now m n (refusals.Damaged at why) is = now_of m n m is.1.1 refl
gc_refused_now m n refusal is = absurd is

gc_now : (m n : FileMachine) (a : ℕ) (buf : List ℕ) (answer : Result Answer Refusal) → Answers of_files a asked.GcStep (answered_by answer buf) m n
    → stored_in m.now ≡ stored_in n.now
gc_now m n a buf (Ok (answers.Did phase)) is = now_of m n _ is.others refl
gc_now m n a buf (Ok (answers.Done freed copied)) is = now_of m n _ is.others refl
gc_now m n a buf (Ok answer) is = absurd is
gc_now m n a buf (Err (refusals.WrongPart kind)) is = now_of m n m is.1 refl
gc_now m n a buf (Err refusals.Memory) is = gc_refused_now m n refusals.Memory is
gc_now m n a buf (Err refusal) is = gc_refused_now m n refusal is.1

-- ---- a step

module _ {C : Type 0} {state : C → CoreState} {among : ByteSet} {f : FileEvent} {old new : C} {m n : FileMachine} {r t : RootMachine}
    (to : StepsTo C state among f old new m n r t) where
  abbrev S : List ℕ → Type 0
  S = IsIn among

  abbrev a : ℕ
  a = f.event.actor

  abbrev AnswersOf : StepValue → Result Answer Refusal → Type 0
  AnswersOf step answer = Answers of_files a (asked_as (λ root. f.bytes) step) (answered_by answer f.event.buf) m n

  answered : AnswersOf f.event.step f.event.answer
  answered = answers_by m n a f.bytes f.event.buf m.store to.steps.runs f.event.step (answered_by f.event.answer f.event.buf) to.legal

  made : Steps f.event (state old) (state new)
  made = running_step (state old) (state new) f.event to.steps.goes to.steps.step.made

  -- the machine has the files that the step makes of those of before
  other_now : IsNoGcStep f.event.step → (answer : Result Answer Refusal) → f.event.answer ≡ answer → AnswersOf f.event.step answer
      → StopsAfter f.event.step answer (state old).acknowledged (state new).stop → stored_with f.event.step answer f.bytes (stored_in m.now) ≡ stored_in n.now
  other_now other (Ok answer) is legal stops =
      subst (λ (x : Result Answer Refusal). stored_with f.event.step x f.bytes (stored_in m.now) ≡ stored_in n.now) is (comes to other stops).now
  other_now other (Err refusal) is legal stops = refused_now m n a f.bytes f.event.buf m.store f.event.step refusal other legal

  step_now : (step : StepValue) → f.event.step ≡ step → (step ≡ steps.GcStep) ⊎ IsNoGcStep step → stored_by f (stored_in m.now) ≡ stored_in n.now
  step_now step is (inr other) = other_now (subst IsNoGcStep (sym is) other) f.event.answer refl answered made.stops
  step_now step is (inl gc) =
      let gc_is : f.event.step ≡ steps.GcStep = is ∙ gc in
      ap (λ (s : StepValue). stored_with s f.event.answer f.bytes (stored_in m.now)) gc_is
      ∙ gc_now m n a f.event.buf f.event.answer (subst (λ (s : StepValue). AnswersOf s f.event.answer) gc_is answered)

  now_so : stored_by f (stored_in m.now) ≡ stored_in n.now
  now_so = step_now f.event.step refl (gc_or_not f.event.step)

  -- what was tried may be found
  abbrev Tried : StepValue → Result Answer Refusal → Type 0
  Tried step answer = (found : Found (List ℕ)) × (MayBeFound of_files n.state n.now found) × (stored_tried step answer f.bytes (stored_in m.now) ≡ stored_in found)

  itself : (step : StepValue) (answer : Result Answer Refusal) → stored_tried step answer f.bytes (stored_in m.now) ≡ stored_in n.now → Tried step answer
  itself step answer same = (n.now, found_itself n.state n.now, same)

  stopped_found : (found : Found (List ℕ)) (stores : _) → n.state ≡ Stopped (Some found) stores → MayBeFound of_files n.state n.now found
  stopped_found found stores is = subst (λ (s : RunState (List ℕ)). MayBeFound of_files s n.now found) (sym is) (inr refl)

  tried : (step : StepValue) (answer : Result Answer Refusal) → AnswersOf step answer → stored_with step answer f.bytes (stored_in m.now) ≡ stored_in n.now → Tried step answer
  tried (steps.Commit name root) (Err refusals.DiskWrite) legal same =
      (with_name of_files name f.bytes m.now, stopped_found _ _ (ap (λ (x : FileMachine). x.state) legal.1.4), refl)
  tried (steps.Commit name root) (Err refusal) legal same = itself (steps.Commit name root) (Err refusal) same
  tried (steps.Commit name root) (Ok answer) legal same = itself (steps.Commit name root) (Ok answer) same
  tried (steps.Delete name) (Err refusals.DiskWrite) legal same =
      (without_name of_files name m.now, stopped_found _ _ (ap (λ (x : FileMachine). x.state) legal.1.3), refl)
  tried (steps.Delete name) (Err refusal) legal same = itself (steps.Delete name) (Err refusal) same
  tried (steps.Delete name) (Ok answer) legal same = itself (steps.Delete name) (Ok answer) same
  tried step answer legal same = itself step answer same

  abbrev Tries : List ℕ → Type 0
  Tries image = Either S f.event.step f.event.answer f.bytes (stored_in m.now) image

  on_way : (image : List ℕ) → Tries image → IsOfFound S m image ⊎ IsOfFound S n image
  on_way image (inl before) = inl (m.now, found_itself m.state m.now, before)
  on_way image (inr try) =
      let found = tried f.event.step f.event.answer answered now_so in
      inr (found.0, found.1, subst (λ (s : Stored). OpensAs S s image) found.2 try)

  pub step_leaves : CrashLeaves (λ image. IsOfFound S m image ⊎ IsOfFound S n image) (state old).disk (state new).disk
  step_leaves = leaves_weaker Tries (λ image. IsOfFound S m image ⊎ IsOfFound S n image) (state old).disk (state new).disk on_way
      (core_leaves among f m.store (stored_in m.now) (state old) (state new) to.steps.apart to.steps.at.is_at to.steps.step)

  -- the last number falls at no step
  stored_rises : (step : StepValue) (answer : Result Answer Refusal) (bytes : List ℕ) (stored : Stored) → stored.last ≤ (stored_with step answer bytes stored).last
  stored_rises (steps.Commit name root) (Ok answer) bytes stored = omega arith
  stored_rises (steps.Delete name) (Ok answer) bytes stored = omega arith
  stored_rises (steps.Commit name root) (Err refusal) bytes stored = omega arith
  stored_rises (steps.Delete name) (Err refusal) bytes stored = omega arith
  stored_rises step answer bytes stored = omega arith

  pub step_rises : m.now.last ≤ n.now.last
  step_rises = subst (λ (s : Stored). m.now.last ≤ s.last) now_so (stored_rises f.event.step f.event.answer f.bytes (stored_in m.now))

-- ---- a core that was only read

pub stands_found : (S : List ℕ → Type 0) (m : FileMachine) (image : List ℕ) → MayStand S m image → IsOfFound S m image
stands_found S m image stand = (stand.found, stand.may, stands_opens S m image stand)

pub read_leaves : (S : List ℕ → Type 0) (m n : FileMachine) (old new : DiskView) → StandsFor S m old → OnlyReads old new
    → CrashLeaves (λ image. IsOfFound S m image ⊎ IsOfFound S n image) old new
read_leaves S m n old new stands reads =
    reads_leave (λ image. IsOfFound S m image ⊎ IsOfFound S n image) old new (λ image there. inl (stands_found S m image (stands.images image there))) reads

-- ---- steps, one after the other

-- what may be found from a number on may be found from one before it
passed_from : (first later : ℕ) (ss : List (Stepped (List ℕ))) (m n : FileMachine) (run : Run of_files ss m n) (x : Found (List ℕ)) → first ≤ later
    → IsPassedFrom of_files later ss m n run x
    → IsPassedFrom of_files first ss m n run x
passed_from first later [] m n run x low (high, may) = (omega (arith, low, high), may)
passed_from first later (s ∷ ss) m n run x low (inl (high, may)) = inl (omega (arith, low, high), may)
passed_from first later (s ∷ ss) m n run x low (inr after) = inr (passed_from first later ss run.0 n run.1.1 x low after)

-- what may be found at the beginning of a run is passed by it
passed_first : (ss : List (Stepped (List ℕ))) (m n : FileMachine) (run : Run of_files ss m n) (x : Found (List ℕ)) → MayBeFound of_files m.state m.now x
    → IsPassedFrom of_files m.now.last ss m n run x
passed_first [] m n run x may = (omega arith, may)
passed_first (s ∷ ss) m n run x may = inl (omega arith, may)

module _ (S : List ℕ → Type 0) where
  pub found_first : (ss : List (Stepped (List ℕ))) (m n : FileMachine) (run : Run of_files ss m n) (image : List ℕ) → IsOfFound S m image → IsOfPassed S ss m n run image
  found_first ss m n run image found = (found.0, passed_first ss m n run found.0 found.1, found.2)

  pub found_later : (s : Stepped (List ℕ)) (ss : List (Stepped (List ℕ))) (m k n : FileMachine) (legal : Legal of_files s m k) (run : Run of_files ss k n)
      → m.now.last ≤ k.now.last → (image : List ℕ) → IsOfPassed S ss k n run image → IsOfPassed S (s ∷ ss) m n (k, (legal, run)) image
  found_later s ss m k n legal run low image passed = (passed.0, inr (passed_from m.now.last k.now.last ss k n run passed.0 low passed.1), passed.2)
