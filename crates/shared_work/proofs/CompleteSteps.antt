-- What one step of a worker, or beside it, makes of what each is at and of the names that are there.
use Rattle.std.proofs.Common.{◌≡◌, ◌≢◌, if◌then◌else◌, ℕ, zero, suc, Bool, true, false, not, ◌&&◌, ◌||◌, List, [], ◌∷◌, is_some, slice_index_or, Option, Some, None, Result, Ok, Err, refl, ap, ◌∙◌, subst, eq-eqb, ne_eqb}
use Rattle.std.specs.FinMap as finite
use Rattle.std.specs.Str.{bytes_eq}
use Rattle.std.proofs.lemmas.Slice.Eq.{bytes_eq-Decides}
use Rattle.disk_format.specs.Cells.{Root}
use Rattle.merkle_file.specs.declared.top.Top.{Top}
use Rattle.actor_parts.specs.declared.part.Part.TheVariants as core
use Rattle.actor_parts.specs.declared.part.Part.{Part as CorePart}
use Rattle.actor_parts.specs.declared.step.Answer.{Answer}
use Rattle.actor_parts.specs.Kinds.{kind_of as core_kind}
use Rattle.actor_parts.specs.Parts.{part_of}
use Rattle.actor_parts.specs.StepValue as steps
use Rattle.actor_parts.specs.StepValue.{StepValue}
use Rattle.load_stream.specs.Load.{LoadState}
use Rattle.refusals.specs.declared.refusal.PartKind.{PartKind}
use Rattle.refusals.specs.declared.refusal.PartKind.TheVariants as kinds
use Rattle.refusals.specs.declared.refusal.Refusal.{Refusal}
use Rattle.refusals.specs.declared.refusal.Refusal.TheVariants as refusals
use Rattle.store_model.specs.Files.{Stored}
use Rattle.store_core.specs.Runs.{stored_with}
use Rattle.store_core.specs.State.{CoreState, Event}
use Rattle.session_turns.specs.Kinds.{given_up_by}
use Rattle.store_machine.specs.ByMap.{FileMachine}
use Rattle.store_machine.specs.Legal.{Answers, Refuses, taken_by}
use Rattle.store_machine.specs.Machine.{Part, Idle, Writing, Reading, kind_of, part_in}
use Rattle.store_machine.specs.Values.{of_files}
use Rattle.store_machine.proofs.Parts.{kind_same, part_at}
use Rattle.core_machine.specs.Files.{IsFileMachine, IsOfFile}
use Rattle.core_machine.specs.Refines.{SamePart, SameParts, answered_by, asked_by}
use Rattle.ingest_workers.specs.Ingesting.{ask_of, asks_of}
use Rattle.ingest_workers.specs.Owing.{IsOfStream}
use Rattle.ingest_workers.proofs.Names.{other_names}
use Rattle.shared_work.specs.Complete.{MayAsk, runs_after}
use Rattle.shared_work.proofs.CompleteLeaves.{ask}
use Rattle.shared_work.proofs.CompleteNames.{left_there, put_there}
use Rattle.shared_work.proofs.CompleteRows.{IsSure, Suits, no_other}
use Rattle.shared_work.proofs.CompleteWalks.{IsMine, NeedsName, There, there_after}

-- ---- what an actor is at, in the machine and in the core

core_same : (p : Part Root (List Top)) (q : CorePart) → SamePart p q → core_kind q ≡ kind_of p
core_same Idle core.Idle same = refl
core_same (Writing pins) (core.Writing others) same = refl
core_same (Reading root rest) (core.Reading reader) same = refl
core_same other it same = absurd same

pub core_at : (ps : List (Part Root (List Top))) (qs : List CorePart) (i : ℕ) → SameParts ps qs → SamePart (slice_index_or ps i Idle) (part_of qs i)
unfolding part_of
core_at [] [] i same = tt
core_at [] (q ∷ qs) i same = absurd same
core_at (p ∷ ps) [] i same = absurd same
core_at (p ∷ ps) (q ∷ qs) zero same = same.0
core_at (p ∷ ps) (q ∷ qs) (suc i) same = core_at ps qs i same.1

pub same_kind : (S : List ℕ → Type 0) (m : FileMachine) (c : CoreState) (a : ℕ) → IsFileMachine S m c → core_kind (part_of c.parts a) ≡ kind_of (part_in m a)
same_kind S m c a is =
    core_same (part_in is.roots a) (part_of c.parts a) (core_at is.roots.parts c.parts a is.machine.parts)
    ∙ kind_same (part_in m a) (part_in is.roots a) (part_at m.parts is.roots.parts a is.forgets.parts)

-- ---- what was asked for first

module _ (e : Event) (es : List Event) where
  pub first_asked : (actor : ℕ) → e.actor ≡ actor → asks_of actor (e ∷ es) ≡ ask_of e ∷ asks_of actor es
  first_asked actor is = ap (λ (b : Bool). if b then ask_of e ∷ asks_of actor es else asks_of actor es) (eq-eqb e.actor actor is)

  pub not_asked : (actor : ℕ) → e.actor ≢ actor → asks_of actor (e ∷ es) ≡ asks_of actor es
  not_asked actor is = ap (λ (b : Bool). if b then ask_of e ∷ asks_of actor es else asks_of actor es) (ne_eqb e.actor actor is)

-- a step takes the same whatever the root of a commit is taken for
pub same_taken : (bytes : List ℕ) (step : StepValue) → taken_by (asked_by step) ≡ taken_by (ask bytes step)
same_taken bytes steps.Begin = refl
same_taken bytes other = refl

-- what is asked for beside workers takes nothing
pub beside_suits : (bytes : List ℕ) (runs : Bool) (step : StepValue) (kind : PartKind) → MayAsk runs step → Suits (taken_by (ask bytes step)) kind
beside_suits bytes runs (steps.GcStart percent) kind may = tt
beside_suits bytes runs steps.GcStep kind may = tt
beside_suits bytes runs steps.Stat kind may = tt
beside_suits bytes runs steps.ListNames kind may = tt
beside_suits bytes runs steps.Unique kind may = tt
beside_suits bytes runs step kind may = absurd may

pub beside_sure : (m : FileMachine) (bytes : List ℕ) (step : StepValue) → MayAsk (is_some m.collection) step → IsSure m (ask bytes step)
beside_sure m bytes (steps.GcStart percent) may = may
beside_sure m bytes steps.GcStep may = may
beside_sure m bytes steps.Stat may = tt
beside_sure m bytes steps.ListNames may = tt
beside_sure m bytes steps.Unique may = tt
beside_sure m bytes step may = absurd may

-- no worker begins a collection, or goes on with one
pub no_collection : (own : List LoadState) (there : There) (step : StepValue) (answer : Result Answer Refusal) (runs : Bool) → NeedsName own there step
    → runs_after step answer runs ≡ runs
no_collection own there (steps.GcStart percent) answer runs needs = absurd needs
no_collection own there steps.GcStep answer runs needs = absurd needs
no_collection own there other answer runs needs = refl

-- ---- what is given up is let go

none_given : (kind : PartKind) → ◌≡◌ {A = Option PartKind} None (Some kind) → ⊥
none_given kind is = cc

let_go_by : (a : ℕ) (bytes : List ℕ) (m n : FileMachine) (step : StepValue) (refusal : Refusal) (kind : PartKind) → given_up_by step ≡ Some kind
    → Suits (taken_by (ask bytes step)) (kind_of (part_in m a)) → Refuses of_files a (ask bytes step) refusal m n → ⊥
let_go_by a bytes m n steps.Abort (refusals.WrongPart k) kind gives suits ((is, (t, takes, differ)), others) =
    no_other (Some kinds.Writing) (kind_of (part_in m a)) suits t takes (λ same. differ (is ∙ same))
let_go_by a bytes m n steps.Abort refusals.Memory kind gives suits is = is
let_go_by a bytes m n steps.Abort refusal kind gives suits is = is.1
let_go_by a bytes m n steps.EndRead (refusals.WrongPart k) kind gives suits ((is, (t, takes, differ)), others) =
    no_other (Some kinds.Reading) (kind_of (part_in m a)) suits t takes (λ same. differ (is ∙ same))
let_go_by a bytes m n steps.EndRead refusals.Memory kind gives suits is = is
let_go_by a bytes m n steps.EndRead refusal kind gives suits is = is.1
let_go_by a bytes m n step refusal kind gives suits is = absurd (none_given kind gives)

pub let_go : (a : ℕ) (bytes buf : List ℕ) (m n : FileMachine) (step : StepValue) (answer : Result Answer Refusal) (kind : PartKind)
    → Suits (taken_by (ask bytes step)) (kind_of (part_in m a)) → Answers of_files a (ask bytes step) (answered_by answer buf) m n
    → given_up_by step ≡ Some kind → (done : Answer) × (answer ≡ Ok done)
let_go a bytes buf m n step (Ok done) kind suits is gives = (done, refl)
let_go a bytes buf m n step (Err refusal) kind suits is gives = absurd (let_go_by a bytes m n step refusal kind gives suits is)

-- ---- names after a step

-- one's own stays there, and is there once it is committed
pub own_there : (own : List LoadState) (there : There) (stored : Stored) (bytes : List ℕ) (step : StepValue) (answer : Result Answer Refusal) (name : List ℕ)
    → ((n : List ℕ) → there n ≡ true → IsMine own n × (is_some (finite.get stored.files n) ≡ true)) → NeedsName own there step
    → there_after step answer there name ≡ true
    → IsMine own name × (is_some (finite.get (stored_with step answer bytes stored).files name) ≡ true)
own_there own there stored bytes (steps.Commit nm root) (Ok answer) name has needs is = by (bytes_eq nm name) refl is
  where
    by : (b : Bool) → bytes_eq nm name ≡ b → (b || there name) ≡ true
        → IsMine own name × (is_some (finite.get (stored_with (steps.Commit nm root) (Ok answer) bytes stored).files name) ≡ true)
    by true same is = (
      subst (IsMine own) ((bytes_eq-Decides nm name).0 same) needs,
      put_there stored.files nm bytes name true same refl,
    )
    by false same is = ((has name is).0, put_there stored.files nm bytes name false same (has name is).1)
own_there own there stored bytes (steps.Delete nm) (Ok answer) name has needs is = by (bytes_eq nm name) refl is
  where
    by : (b : Bool) → bytes_eq nm name ≡ b → (not b && there name) ≡ true
        → IsMine own name × (is_some (finite.get (stored_with (steps.Delete nm) (Ok answer) bytes stored).files name) ≡ true)
    by true same is = absurd (let wrong : false ≡ true = is in cc)
    by false same is = ((has name is).0, left_there stored.files nm name same (has name is).1)
own_there own there stored bytes (steps.Commit nm root) (Err refusal) name has needs is = has name is
own_there own there stored bytes (steps.Delete nm) (Err refusal) name has needs is = has name is
own_there own there stored bytes other answer name has needs is = has name is

-- another's step takes it from nobody
pub others_there : (stored : Stored) (bytes : List ℕ) (step : StepValue) (answer : Result Answer Refusal) (name : List ℕ)
    → ((nm : List ℕ) → step ≡ steps.Delete nm → nm ≢ name) → is_some (finite.get stored.files name) ≡ true
    → is_some (finite.get (stored_with step answer bytes stored).files name) ≡ true
others_there stored bytes (steps.Commit nm root) (Ok answer) name apart there = by (bytes_eq nm name) refl
  where
    by : (b : Bool) → bytes_eq nm name ≡ b → is_some (finite.get (stored_with (steps.Commit nm root) (Ok answer) bytes stored).files name) ≡ true
    by true same = put_there stored.files nm bytes name true same refl
    by false same = put_there stored.files nm bytes name false same there
others_there stored bytes (steps.Delete nm) (Ok answer) name apart there = left_there stored.files nm name (other_names nm name (apart nm refl)) there
others_there stored bytes (steps.Commit nm root) (Err refusal) name apart there = there
others_there stored bytes (steps.Delete nm) (Err refusal) name apart there = there
others_there stored bytes other answer name apart there = there

-- a commit is of a file
pub of_file : (own : List LoadState) (step : StepValue) (bytes : List ℕ) → IsOfStream own step bytes → IsOfFile step bytes
of_file own (steps.Commit name root) bytes is = (is.3, is.4)
of_file own other bytes is = tt
