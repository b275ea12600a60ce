-- What is so of each step of a run of a core at files: of a machine that runs it follows from what holds as the step comes; and one that is
-- stopped says so.
use Rattle.std.proofs.Common.{◌≡◌, ℕ, List, [], ◌∷◌, ◌++◌, Option, Result, Ok, Err, refl, sym, ap, ◌∙◌, subst, append_assoc}
use Rattle.std.specs.List.{AllByRecursion}
use Rattle.actor_parts.specs.declared.step.Answer.{Answer}
use Rattle.load_stream.specs.Load.{LoadState}
use Rattle.refusals.specs.declared.refusal.Refusal.{Refusal}
use Rattle.refusals.specs.declared.refusal.Refusal.TheVariants as refusals
use Rattle.store_model.specs.Collisions.{ByteSet, HasNoCollisions, IsIn}
use Rattle.store_model.specs.Image.{Store}
use Rattle.store_core.specs.Runs.{CoreRun, FileEvent, FileRun, FileStep, RunsOn, events_of}
use Rattle.store_core.specs.State.{CoreState, Event, IsRunning}
use Rattle.store_machine.specs.ByMap.{FileMachine}
use Rattle.store_machine.specs.Legal.{Answers, ByState}
use Rattle.store_machine.specs.Machine.{Found, RunState, Running, Stopped}
use Rattle.store_machine.specs.Values.{of_files}
use Rattle.core_machine.specs.Bytes.{ChangesBytes}
use Rattle.core_machine.specs.Files.{FilesRefine, IsFileMachine, file_step}
use Rattle.core_machine.specs.Refines.{answered_by}
use Rattle.core_machine.proofs.FileKept.{answers_by, by_step}
use Rattle.ingest_workers.specs.Named.{AreOfStreams}
use Rattle.ingest_workers.specs.Owing.{IsOfStream}
use Rattle.shared_work.proofs.CompleteLeaves.{ask}
use Rattle.shared_work.proofs.CompleteSteps.{of_file}

-- it was answered that the store is stopped
abbrev pub IsToldStopped : Event → Type 0
IsToldStopped e = (at : ℕ) × (e.answer ≡ Err (refusals.Stopped at))

abbrev pub StoppedOr : (Event → Type 0) → Type 0
StoppedOr P = (e : Event) → ((answer : Answer) → e.answer ≡ Ok answer → P e) × (IsToldStopped e → P e)

-- steps that are given bytes are steps
pub steps_run : {C : Type 0} (state : C → CoreState) (S : List ℕ → Type 0) (fs : List FileEvent) (c new : C) → FileRun C state S fs c new
    → CoreRun C state (events_of fs) c new
steps_run state S [] c new run = run
steps_run state S (f ∷ fs) c new (mid, (made, rest)) = (mid, (made.made, steps_run state S fs mid new rest))

module _ {C : Type 0} (state : C → CoreState) (own : ℕ → List LoadState) (S : List ℕ → Type 0) (es : List Event) (new : C) where
  -- One of the steps, after some and before others: a machine that runs answers it, and both are what the core is, before it and after it.
  pub record Moment (before : List Event) (f : FileEvent) (fs : List FileEvent) (m n : FileMachine) (c d : C) : Type 0 where
    pub es_are : es ≡ before ++ events_of (f ∷ fs)
    pub going : m.state ≡ Running
    pub machine : IsFileMachine S m (state c)
    pub after : IsFileMachine S n (state d)
    pub answers : Answers of_files f.event.actor (ask f.bytes f.event.step) (answered_by f.event.answer f.event.buf) m n
    pub changes : ChangesBytes (file_step f) m n (state c).disk.content (state d).disk.content
    pub up : IsRunning (state c)
    pub made : FileStep S f (state c) (state d)
    pub stream : IsOfStream (own f.event.actor) f.event.step f.bytes
    pub rest : FileRun C state S fs d new

  -- What holds as a step comes, by those before and those to come, gives what is so of it, and holds after it.
  abbrev pub Goes : (Event → Type 0) → (List Event → List Event → FileMachine → C → Type 0) → Type 0
  Goes P I = (before : List Event) (f : FileEvent) (fs : List FileEvent) (m n : FileMachine) (c d : C) → Moment before f fs m n c d → I before (events_of (f ∷ fs)) m c
      → P f.event × I (before ++ f.event ∷ []) (events_of fs) n d

module _ {C : Type 0} (state : C → CoreState) (refine : FilesRefine C state) (runs_on : RunsOn C state) (among : ByteSet) (distinct : HasNoCollisions (IsIn among))
    (own : ℕ → List LoadState) (es : List Event) (new : C) (P : Event → Type 0) (stopped_or : StoppedOr P) (I : List Event → List Event → FileMachine → C → Type 0)
    (goes : Goes state own (IsIn among) es new P I) where
  abbrev S : List ℕ → Type 0
  S = IsIn among

  abbrev All : List FileEvent → Type 0
  All fs = AllByRecursion P (events_of fs)

  told_stopped : (e : Event) (answer : Result Answer Refusal) → e.answer ≡ answer → (at : ℕ) → answered_by answer e.buf ≡ Err (refusals.Stopped at) → P e
  told_stopped e (Ok answer) is at told = (stopped_or e).0 answer is
  told_stopped e (Err refusal) is at told = (stopped_or e).1 (at, is ∙ ap Err same)
    where
      same : refusal ≡ refusals.Stopped at
      same = cc

  all_stopped : (fs : List FileEvent) (m : FileMachine) (c : C) (other : Option (Found (List ℕ))) (stores : List Store) → m.state ≡ Stopped other stores
      → IsRunning (state c) → IsFileMachine S m (state c) → AreOfStreams own fs → FileRun C state S fs c new → All fs
  all_stopped [] m c other stores stopped up machine streams run = tt
  all_stopped (f ∷ fs) m c other stores stopped up machine streams (mid, (made, rest)) =
      let one = refine among f c mid m distinct up machine (of_file (own f.event.actor) f.event.step f.bytes streams.0) made in
      let told : Says m.state one.0 = by_step m one.0 f.event.actor f.bytes f.event.buf m.store f.event.step (answered_by f.event.answer f.event.buf) one.1.0 in
      let says : Says (Stopped other stores) one.0 = subst (λ (s : RunState (List ℕ)). Says s one.0) stopped told in (
        told_stopped f.event f.event.answer refl m.acknowledged says.0,
        all_stopped fs one.0 mid other stores (ap (λ (x : FileMachine). x.state) says.1 ∙ stopped)
            (runs_on (f.event ∷ []) c mid (mid, (made.made, refl)) up) one.1.1 streams.1 rest,
      )
    where
      Says : RunState (List ℕ) → FileMachine → Type 0
      Says s n = ByState of_files s f.event.actor (ask f.bytes f.event.step) (answered_by f.event.answer f.event.buf) m n

  pub each_step : (before : List Event) (fs : List FileEvent) (m : FileMachine) (c : C) → es ≡ before ++ events_of fs → IsRunning (state c) → IsFileMachine S m (state c)
      → m.state ≡ Running → AreOfStreams own fs → FileRun C state S fs c new → I before (events_of fs) m c → All fs
  each_step before [] m c es_are up machine going streams run holds = tt
  each_step before (f ∷ fs) m c es_are up machine going streams (mid, (made, rest)) holds =
      let e : Event = f.event in
      let one = refine among f c mid m distinct up machine (of_file (own e.actor) e.step f.bytes streams.0) made in
      let n : FileMachine = one.0 in
      let here = goes before f fs m n c mid (record {
        es_are = es_are;
        going = going;
        machine = machine;
        after = one.1.1;
        answers = answers_by m n e.actor f.bytes e.buf m.store going e.step (answered_by e.answer e.buf) one.1.0;
        changes = one.1.2;
        up = up;
        made = made;
        stream = streams.0;
        rest = rest;
      }) holds in
      let next_es : es ≡ (before ++ e ∷ []) ++ events_of fs = es_are ∙ sym (append_assoc before (e ∷ []) (events_of fs)) in
      let up_next : IsRunning (state mid) = runs_on (e ∷ []) c mid (mid, (made.made, refl)) up in (
        here.0,
        by n n.state refl up_next one.1.1 (λ is. each_step (before ++ e ∷ []) fs n mid next_es up_next one.1.1 is streams.1 rest here.1),
      )
    where
      by : (n : FileMachine) (s : RunState (List ℕ)) → n.state ≡ s → IsRunning (state mid) → IsFileMachine S n (state mid) → (n.state ≡ Running → All fs) → All fs
      by n Running is up_next at more = more is
      by n (Stopped other stores) is up_next at more = all_stopped fs n mid other stores is up_next at streams.1 rest
