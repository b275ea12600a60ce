-- Each step of a core that stands for files is one of the machine of files.
use Rattle.core_machine.proofs.Prelude.{◌≡◌, ◌⊎◌, inl, inr, ℕ, List, [], ◌∷◌, true, Option, Some, None, Result, Ok, Err, refl, sym, ◌∙◌, ap, subst, ◌≤◌, arith, KnownWith, Root, Answer, IsStep, StepValue, Phase, Refusal, ByteSet, HasNoCollisions, IsIn, Store, IsSettled, Stop, CrashLeaves, leaves_on, reads_leave, AnswersStopped, Row, Steps, StepsOr, FileEvent, FileStep, IsAt, IsGivenRight, IsHarmless, MayClash, CoreState, Event, IsRunning, IsUp, UnlessStopped, running_step, never_damaged, step_runs, step_later, some_same, Asked, FileMachine, SameState, asked_of, forget_step, ByState, Legal, Found, RunState, Running, Stopped, Adds, AddsBy, RootMachine, Run, of_files, of_roots, BytesOf, ChangesBytes, FitsBy, IsOfFound, IsOfPassed, IsAtFiles, IsFileMachine, IsOfFile, stored_in, Follows, FollowsPhase, HasIndex, IsMachine, SameStop, TellsForgotten, answered_by, asked_as, asked_by, NamesStep}
use Rattle.std.proofs.Common.{IfErr, map}
use Rattle.actor_parts.specs.declared.step.Answer.TheVariants as answers
use Rattle.actor_parts.specs.StepValue as steps
use Rattle.refusals.specs.declared.refusal.Phase.TheVariants as phases
use Rattle.refusals.specs.declared.refusal.Refusal.TheVariants as refusals
use Rattle.dd_disk.proofs.Later.{reads_here}
use Rattle.store_core.proofs.AnySteps.{gc_or_not}
use Rattle.store_core.proofs.KeepingSegments.{stays_settled}
use Rattle.store_core.specs.Core.{CoreStep}
use Rattle.store_machine.specs.Done.{Done}
use Rattle.store_machine.specs.Forgetting.{Forgets}
use Rattle.store_machine.proofs.Remembered.{steps_are_remembered}
use Rattle.core_machine.specs.Files.{FileRunsRefine, FilesRefine, file_step}
use Rattle.core_machine.proofs.FileBroken.{broken}
use Rattle.core_machine.proofs.FileCrashes.{found_first, found_later, read_leaves, stands_found, step_leaves, step_rises}
use Rattle.core_machine.proofs.Bytes.{known_of}
use Rattle.core_machine.proofs.BytesStepped.{bytes_stepped, stopped_bytes}
use Rattle.core_machine.proofs.FileStands.{disk_stands}
use Rattle.core_machine.proofs.FileGc.{gc_adds}
use Rattle.core_machine.proofs.FileIngests.{claim_adds, commit_adds, seal_adds}
use Rattle.core_machine.proofs.FileKept.{at_store, by_step}
use Rattle.core_machine.proofs.FileLives.{lives_then}
use Rattle.core_machine.proofs.FileReads.{reads_add}
use Rattle.core_machine.proofs.FileReadsOn.{reads_on}
use Rattle.core_machine.proofs.FileStays.{stands_read}
use Rattle.core_machine.proofs.FileUnique.{unique_adds}
use Rattle.core_machine.proofs.FileSteps.{StepsAt, StepsTo}
use Rattle.core_machine.proofs.FileSwept.{swept_at}
use Rattle.core_machine.proofs.FileWrote.{wrote_on}
use Rattle.core_machine.proofs.Refined.{core_refines}
use Rattle.core_machine.proofs.Sealed.{sealed_taken}

-- ---- one step is asked of both machines

same_asked : (step : StepValue) (bytes : List ℕ) → IsOfFile step bytes → asked_by step ≡ asked_of (asked_as (λ root. bytes) step)
same_asked (steps.Commit name root) bytes of = ap (λ (r : Root). let x : Asked Root = asked_by (steps.Commit name r) in x) of.0
same_asked other bytes of = refl

-- the index is followed through each step, where the content is told
follows_phase : (phase : Phase) (content : Option (List ℕ)) → KnownWith content (λ _. Unit {0}) → FollowsPhase phase content
follows_phase phases.Flush content told = told
follows_phase phases.Release content told = told
follows_phase phase content told = tt

follows : (answer : Result Answer Refusal) (c : CoreState) → KnownWith c.disk.content (λ _. Unit {0}) → Follows answer c
follows (Ok (answers.Did phase)) c told = follows_phase phase c.disk.content told
follows answer c told = tt

-- nothing is added to a step that says as much of roots as of files
abbrev AddsNothing : StepValue → Type 0
AddsNothing steps.Begin = Unit {0}
AddsNothing steps.Abort = Unit {0}
AddsNothing (steps.OpenRead name) = Unit {0}
AddsNothing steps.EndRead = Unit {0}
AddsNothing (steps.Delete name) = Unit {0}
AddsNothing steps.ListNames = Unit {0}
AddsNothing steps.Stat = Unit {0}
AddsNothing step = ⊥

none_added : (step : StepValue) (bytes : List ℕ) (a : ℕ) (told : Result Done Refusal) (m : FileMachine) (r t : RootMachine) → AddsNothing step
    → AddsBy (asked_as (λ root. bytes) step) a told m r t
none_added steps.Begin bytes a (Ok answer) m r t none = tt
none_added steps.Begin bytes a (Err refusal) m r t none = tt
none_added steps.Abort bytes a (Ok answer) m r t none = tt
none_added steps.Abort bytes a (Err refusal) m r t none = tt
none_added (steps.OpenRead name) bytes a (Ok answer) m r t none = tt
none_added (steps.OpenRead name) bytes a (Err refusal) m r t none = tt
none_added steps.EndRead bytes a (Ok answer) m r t none = tt
none_added steps.EndRead bytes a (Err refusal) m r t none = tt
none_added (steps.Delete name) bytes a (Ok answer) m r t none = tt
none_added (steps.Delete name) bytes a (Err refusal) m r t none = tt
none_added steps.ListNames bytes a (Ok answer) m r t none = tt
none_added steps.ListNames bytes a (Err refusal) m r t none = tt
none_added steps.Stat bytes a (Ok answer) m r t none = tt
none_added steps.Stat bytes a (Err refusal) m r t none = tt
none_added step bytes a told m r t none = absurd none

-- what a stopped core answers adds nothing to any
stopped_added : (step : StepValue) (bytes : List ℕ) (a at : ℕ) (m : FileMachine) (r t : RootMachine) → AddsBy (asked_as (λ root. bytes) step) a (Err (refusals.Stopped at)) m r t
stopped_added steps.Begin bytes a at m r t = tt
stopped_added other bytes a at m r t = tt

-- ---- one that runs

module _ {C : Type 0} {state : C → CoreState} {among : ByteSet} {f : FileEvent} {old new : C} {m : FileMachine} {r t : RootMachine}
    (s : StepsAt C state among f old new m r t) where
  abbrev event : Event
  event = f.event

  made : Steps f.event (state old) (state new)
  made = running_step (state old) (state new) f.event s.goes s.step.made

  same_state : (a : RunState (List ℕ)) (b : RunState Root) → SameState a b → a ≡ Running → b ≡ Running
  same_state Running Running same is = refl
  same_state Running (Stopped other stores) same is = absurd same
  same_state (Stopped other stores) b same is = absurd (let wrong : Stopped other stores ≡ Running = is in cc)

  own : HasIndex true r.swept r.forgotten r.store.held (state old).known
  own = s.machine.index (same_state m.state r.state s.forgets.state s.runs)

  -- the map of the index tells what the machine of files has forgotten
  tells : TellsForgotten m.forgotten m.store.held s.at.is_at.index
  tells =
      subst (λ (keys : List (List ℕ)). TellsForgotten keys m.store.held s.at.is_at.index) s.forgets.forgotten
      (subst (λ (store : Store). TellsForgotten r.forgotten store.held s.at.is_at.index) s.forgets.store
      (subst (TellsForgotten r.forgotten r.store.held) (some_same own.places s.at.is_at.index (sym own.known_is ∙ s.at.is_at.index_known)) (own.told refl)))

  harmless : IfErr f.event.answer (λ refusal. IsHarmless (MayClash f.event.step) refusal)
  harmless = never_damaged among f m.store (stored_in m.now) (state old) (state new) s.apart s.at.is_at s.step

  abbrev AddsAs : StepValue → Type 0
  AddsAs step = AddsBy (asked_as (λ root. f.bytes) step) f.event.actor (answered_by f.event.answer f.event.buf) m r t

  adds_by : (step : StepValue) → f.event.step ≡ step → IsStep step → IsGivenRight (IsIn among) step f.event.answer f.bytes (state old) → IsOfFile step f.bytes
      → Row step f.event.actor f.event.answer f.event.buf (state old) (state new) → IfErr f.event.answer (λ refusal. IsHarmless (MayClash step) refusal) → AddsAs step
  adds_by (steps.Claim seg) is asked given of row harmless =
      claim_adds (IsIn among) m t (state old) (state new) s.at.is_at tells f.event.actor f.event.buf seg f.event.answer asked row harmless
  adds_by (steps.Seal offered) is asked given of row harmless =
      seal_adds (IsIn among) m t (state old) (state new) s.at.is_at tells f.event.actor f.event.buf offered asked.0
      (sealed_taken m r (state old) s.forgets s.machine offered) f.event.answer asked.1 row harmless
  adds_by (steps.Commit name root) is asked given of row harmless =
      commit_adds (IsIn among) m t (state old) (state new) s.at.is_at tells f.event.actor f.event.buf name f.bytes root f.event.answer of.1 given row
  adds_by steps.ReadNext is asked given of row harmless = subst AddsAs is (reads_add s is)
  adds_by (steps.GcStart percent) is asked given of row harmless =
      subst AddsAs is (gc_adds C state among f old new m r t s s.at.wrote (inr (percent, is)))
  adds_by steps.GcStep is asked given of row harmless = subst AddsAs is (gc_adds C state among f old new m r t s s.at.wrote (inl is))
  adds_by steps.Unique is asked given of row harmless = unique_adds (IsIn among) m t (state old) (state new) s.at.is_at f.event.actor f.event.buf f.event.answer row harmless
  adds_by step is asked given of row harmless = none_added step f.bytes f.event.actor (answered_by f.event.answer f.event.buf) m r t tt

  pub adds : Adds (file_step f) m r t
  adds = adds_by f.event.step refl s.step.asked s.step.given s.of_file made.made.row harmless

-- and goes on
module _ {C : Type 0} {state : C → CoreState} {among : ByteSet} {f : FileEvent} {old new : C} {m n : FileMachine} {r t : RootMachine}
    (to : StepsTo C state among f old new m n r t)
    (stays : (state new).stop ≡ None) where
  is_at : IsAt (IsIn among) n.store (stored_in n.now) (state new)
  is_at = elim (gc_or_not f.event.step) [
    | inl is ↦ swept_at C state among f old new m n r t to is stays
    | inr other ↦ at_store to other stays
  ]

  settled_then : IsSettled (state new).tables.slots (state new).disk
  settled_then = stays_settled among f m.store (stored_in m.now) (state old) (state new) to.steps.apart to.steps.at.is_at to.steps.at.settled to.steps.step stays

  pub at_files : IsAtFiles (IsIn among) n (state new)
  at_files = record {
    is_at = is_at;
    settled = settled_then;
    reads = reads_on to stays;
    lives = lives_then to is_at stays;
    wrote = wrote_on C state among f old new m n r t to stays to.steps.at.wrote;
  }

-- ---- a step

module _ (C : Type 0) (state : C → CoreState) (among : ByteSet) (f : FileEvent) (old new : C) (m : FileMachine) (apart : HasNoCollisions (IsIn among))
    (up : IsRunning (state old)) (is : IsFileMachine (IsIn among) m (state old))
    (of : IsOfFile f.event.step f.bytes) (step : FileStep (IsIn among) f (state old) (state new)) where
  -- what a crash leaves of it, and its last number
  abbrev Leaves : FileMachine → Type 0
  Leaves n = CrashLeaves (λ image. IsOfFound (IsIn among) m image ⊎ IsOfFound (IsIn among) n image) (state old).disk (state new).disk
      × (m.now.last ≤ n.now.last)

  -- and what it does to the bytes of the disk
  abbrev Changes : FileMachine → Type 0
  Changes n = ChangesBytes (file_step f) m n (state old).disk.content (state new).disk.content

  abbrev End : Type 0
  End = (n : FileMachine) × (Legal of_files (file_step f) m n × IsFileMachine (IsIn among) n (state new) × Changes n) × Leaves n

  -- what the machine of roots makes
  abbrev RootEnd : Type 0
  RootEnd = (t : RootMachine) × (Legal of_roots (record { actor = f.event.actor; asked = asked_by f.event.step; answer = answered_by f.event.answer f.event.buf }) is.roots t
      × IsMachine true t (state new) × NamesStep f.event.step f.event.answer (state old) (state new) is.roots t)

  root_end : (followed : Follows f.event.answer (state old)) → RootEnd
  root_end followed = core_refines C state true f.event old new is.roots up is.machine (λ told. followed) step.made

  legal_of : (t : RootMachine) → Legal of_roots (record { actor = f.event.actor; asked = asked_by f.event.step; answer = answered_by f.event.answer f.event.buf }) is.roots t
      → Legal of_roots (forget_step (file_step f)) is.roots t
  legal_of t legal = subst (λ (x : Asked Root). Legal of_roots (record { actor = f.event.actor; asked = x; answer = answered_by f.event.answer f.event.buf }) is.roots t)
      (same_asked f.event.step f.bytes of) legal

  module _ (runs : m.state ≡ Running) (goes : (state old).stop ≡ None) where
    at : IsAtFiles (IsIn among) m (state old)
    at = subst (λ (x : RunState (List ℕ)). FitsBy x (IsIn among) m (state old)) runs is.fits

    root : RootEnd
    root = root_end (follows f.event.answer (state old) (at.is_at.stands.known.0, at.is_at.stands.known.1, tt))

    steps_at : StepsAt C state among f old new m is.roots root.0
    unfolding root
    steps_at = record {
      apart = apart;
      runs = runs;
      goes = goes;
      up = subst (λ (stop : Option Stop). UnlessStopped stop (IsUp (state old))) goes up;
      forgets = is.forgets;
      machine = is.machine;
      at = at;
      of_file = of;
      step = step;
      legal = legal_of root.0 root.1.0;
      then = root.1.1;
      named = root.1.2;
    }

    left : (n : FileMachine) × (Legal of_files (file_step f) m n × Forgets n root.0)
    left = steps_are_remembered (file_step f) m is.roots root.0 is.forgets steps_at.legal (adds steps_at)

    to : StepsTo C state among f old new m left.0 is.roots root.0
    to = record { steps = steps_at; legal = left.1.0; forgets = left.1.1 }

    -- by what the core came to
    fits : (stop : Option Stop) → (state new).stop ≡ stop → (a : RunState (List ℕ)) (b : RunState Root) → left.0.state ≡ a → SameState a b → SameStop root.0.acknowledged b stop
        → FitsBy a (IsIn among) left.0 (state new)
    fits None none Running b state_is same fit = at_files to none
    fits None none (Stopped None stores) Running state_is same fit = absurd same
    fits None none (Stopped (Some found) stores) Running state_is same fit = absurd same
    fits None none (Stopped other stores) (Stopped found others) state_is same fit = absurd fit
    fits (Some stop) stopped Running Running state_is same fit = absurd fit
    fits (Some stop) stopped Running (Stopped found others) state_is same fit = absurd same
    fits (Some stop) stopped (Stopped other stores) b state_is same fit = broken to stop stopped

    running : End
    running = (
      left.0,
      (
        left.1.0,
        record {
          roots = root.0;
          forgets = left.1.1;
          machine = root.1.1;
          fits = fits (state new).stop refl left.0.state root.0.state refl left.1.1.state root.1.1.state;
        },
        bytes_stepped to,
      ),
      (step_leaves to, step_rises to),
    )

  module _ (other : Option (Found (List ℕ))) (stores : List Store) (state_is : m.state ≡ Stopped other stores) (stop : Stop) (stopped : (state old).stop ≡ Some stop) where
    said : AnswersStopped stop.at f.event (state old) (state new)
    said = subst (λ (s : Option Stop). StepsOr s f.event (state old) (state new)) stopped step.made

    stopped_root : RootEnd
    stopped_root = root_end (subst (λ (a : Result Answer Refusal). Follows a (state old)) (sym said.answer_is) tt)

    stopped_left : (n : FileMachine) × (Legal of_files (file_step f) m n × Forgets n stopped_root.0)
    stopped_left =
        steps_are_remembered (file_step f) m is.roots stopped_root.0 is.forgets (legal_of stopped_root.0 stopped_root.1.0)
        (subst (λ (a : Result Answer Refusal). AddsBy (asked_as (λ root. f.bytes) f.event.step) f.event.actor (answered_by a f.event.buf) m is.roots stopped_root.0)
        (sym said.answer_is)
        (stopped_added f.event.step f.bytes f.event.actor stop.at m is.roots stopped_root.0))

    same : stopped_left.0 ≡ m
    same = (subst (λ (s : RunState (List ℕ)). ByState of_files s f.event.actor (asked_as (λ root. f.bytes) f.event.step)
        (answered_by f.event.answer f.event.buf) m stopped_left.0) state_is
        (by_step m stopped_left.0 f.event.actor f.bytes f.event.buf m.store f.event.step (answered_by f.event.answer f.event.buf) stopped_left.1.0)).1

    unchanged : Changes stopped_left.0
    unchanged =
        let (image, told, stand) = (disk_stands (IsIn among) m (state old) is).content in
        known_of (state old).disk.content image
        (λ given. KnownWith (state new).disk.content (BytesOf (file_step f).asked (file_step f).answer m stopped_left.0 given)) told (
          image,
          said.same.disk.only.content_is ∙ told,
          subst (λ (a : Result Answer Refusal). BytesOf (asked_as (λ root. f.bytes) f.event.step) (answered_by a f.event.buf) m stopped_left.0 image image)
              (sym said.answer_is)
              (stopped_bytes m stopped_left.0 image f.bytes stop.at f.event.step),
        )

    still : End
    still = (
      stopped_left.0,
      (
        stopped_left.1.0,
        record {
          roots = stopped_root.0;
          forgets = stopped_left.1.1;
          machine = stopped_root.1.1;
          fits = subst (λ (n : FileMachine). FitsBy n.state (IsIn among) n (state new)) (sym same)
              (subst (λ (s : RunState (List ℕ)). FitsBy s (IsIn among) m (state new)) (sym state_is)
              (stands_read (IsIn among) m (state old).disk (state new).disk said.same.disk.only
              (subst (λ (s : RunState (List ℕ)). FitsBy s (IsIn among) m (state old)) state_is is.fits)));
        },
        unchanged,
      ),
      subst Leaves (sym same) (
        read_leaves (IsIn among) m m (state old).disk (state new).disk
            (subst (λ (s : RunState (List ℕ)). FitsBy s (IsIn among) m (state old)) state_is is.fits) said.same.disk.only,
        omega arith,
      ),
    )

  by : (a : RunState (List ℕ)) (b : RunState Root) (stop : Option Stop) → m.state ≡ a → SameState a b → SameStop is.roots.acknowledged b stop → (state old).stop ≡ stop → End
  by Running Running None runs same fit goes = running runs goes
  by Running Running (Some stop) runs same fit goes = absurd fit
  by Running (Stopped found others) stop runs same fit goes = absurd same
  by (Stopped other stores) b (Some stop) state_is same fit stopped = still other stores state_is stop stopped
  by (Stopped None stores) Running None state_is same fit goes = absurd same
  by (Stopped (Some found) stores) Running None state_is same fit goes = absurd same
  by (Stopped other stores) (Stopped found others) None state_is same fit goes = absurd fit

  pub refined : End
  refined = by m.state is.roots.state (state old).stop refl is.forgets.state is.machine.state refl

pub files_refine : (C : Type 0) (state : C → CoreState) → FilesRefine C state
files_refine C state among f old new m apart up is of step =
    let end = refined C state among f old new m apart up is of step in (end.0, end.1)

-- ---- steps, one after the other

clock_on : (old new : CoreState) (e : Event) → CoreStep old e new → old.disk.clock ≤ new.disk.clock
clock_on old new e made = (step_later old new e old.stop made).clock_is

pub file_runs_refine : (C : Type 0) (state : C → CoreState) → FileRunsRefine C state
file_runs_refine C state among [] old new m apart up is of run = (
  m,
  refl,
  subst (λ (x : C). IsFileMachine (IsIn among) m (state x)) (sym run) is,
  subst (λ (x : C). CrashLeaves (IsOfPassed (IsIn among) [] m m refl) (state old).disk (state x).disk) (sym run)
      (reads_leave (IsOfPassed (IsIn among) [] m m refl) (state old).disk (state old).disk
      (λ image there. found_first (IsIn among) [] m m refl image
      (stands_found (IsIn among) m image ((disk_stands (IsIn among) m (state old) is).images image there))) (reads_here (state old).disk)),
)
file_runs_refine C state among (f ∷ fs) old new m apart up is of run =
    let first = refined C state among f old run.0 m apart up is of.0 run.1.0 in
    let rest = file_runs_refine C state among fs run.0 new first.0 apart
    (step_runs (state old) (state run.0) f.event run.1.0.made up) first.1.1 of.1 run.1.1 in
    let whole : Run of_files (map file_step (f ∷ fs)) m rest.0 = (first.0, (first.1.0, rest.1)) in
    let later : (image : List ℕ) → IsOfPassed (IsIn among) (map file_step fs) first.0 rest.0 rest.1 image
    → IsOfPassed (IsIn among) (map file_step (f ∷ fs)) m rest.0 whole image =
    found_later (IsIn among) (file_step f) (map file_step fs) m first.0 rest.0 first.1.0 rest.1 first.2.1 in (
      rest.0,
      whole,
      rest.2,
      leaves_on (λ image. IsOfFound (IsIn among) m image ⊎ IsOfFound (IsIn among) first.0 image)
          (IsOfPassed (IsIn among) (map file_step fs) first.0 rest.0 rest.1) (IsOfPassed (IsIn among) (map file_step (f ∷ fs)) m rest.0 whole)
          (state old).disk (state run.0).disk (state new).disk
          (clock_on (state old) (state run.0) f.event run.1.0.made) first.2.0 rest.3
          (λ image one. elim one [
            | inl before ↦ found_first (IsIn among) (map file_step (f ∷ fs)) m rest.0 whole image before
            | inr after ↦ later image (found_first (IsIn among) (map file_step fs) first.0 rest.0 rest.1 image after)
          ]) later,
    )
