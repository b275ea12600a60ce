-- At each moment of a run each worker is at what its next step takes, and has the name that this is of; so no step is refused but by what
-- may refuse it.
use Rattle.std.proofs.Common.{◌≡◌, ◌≢◌, ◌⊎◌, inl, inr, ◌≤◌, ◌<◌, ◌^◌, ℕ, zero, suc, Bool, true, List, [], ◌∷◌, ◌++◌, length, is_some, Option, Some, None, Result, Ok, Err, IfErr, refl, sym, ap, ◌∙◌, subst, arith}
use Rattle.std.proofs.lemmas.Bool.{cases_lt}
use mathlib.Core.Logic.{dite}
use native.Mathlib.Decide.{ℕ_discrete}
use Rattle.std.specs.FinMap as finite
use Rattle.std.specs.List.{AllByRecursion, Contains}
use Rattle.disk_format.specs.declared.numbers.TheConstants.{MOST_NAMES}
use Rattle.actor_parts.specs.declared.actor.TheConstants.{ACTORS}
use Rattle.actor_parts.specs.declared.step.Answer.{Answer}
use Rattle.actor_parts.specs.Asking.{Ask}
use Rattle.actor_parts.specs.Kinds.{kind_of as core_kind}
use Rattle.actor_parts.specs.StepValue as steps
use Rattle.actor_parts.specs.StepValue.{StepValue}
use Rattle.load_stream.specs.Load.{LoadState}
use Rattle.refusals.specs.declared.refusal.PartKind.{PartKind}
use Rattle.refusals.specs.declared.refusal.PartKind.TheVariants as kinds
use Rattle.refusals.specs.declared.refusal.Refusal.{Refusal}
use Rattle.store_model.specs.Files.{Files, Stored}
use Rattle.store_core.specs.Core.{CoreStep}
use Rattle.store_core.specs.Runs.{events_of, stored_with}
use Rattle.store_core.specs.State.{CoreState, Event}
use Rattle.session_turns.specs.Kinds.{KindsFollow, OthersStay, kind_after, kind_at}
use Rattle.store_machine.specs.ByMap.{FileMachine}
use Rattle.store_machine.specs.Legal.{Answers, taken_by}
use Rattle.store_machine.specs.Machine.{RunState, Running, kind_of, part_in}
use Rattle.store_machine.specs.Values.{of_files}
use Rattle.core_machine.specs.Files.{FitsBy, IsFileMachine, stored_in}
use Rattle.core_machine.specs.Refines.{answered_by}
use Rattle.ingest_workers.specs.declared.job.Job.{Job}
use Rattle.ingest_workers.specs.Ingesting.{ask_of, asks_of}
use Rattle.ingest_workers.specs.Jobs.{temp_name, work_name}
use Rattle.ingest_workers.specs.Named.{HasStreams, StreamsStay, own_by}
use Rattle.ingest_workers.specs.Owing.{IsOfStream, own_files}
use Rattle.shared_work.specs.Complete.{AskedBeside, MayAsk, MayRefuse, runs_after}
use Rattle.shared_work.proofs.CompleteLeaves.{Leaves, ask, step_leaves}
use Rattle.shared_work.proofs.CompleteNames.{IsIn, fewer, mine_in, mine_named, names_many, names_of, not_anothers}
use Rattle.shared_work.proofs.CompleteRows.{IsSure, Suits, refused_may}
use Rattle.shared_work.proofs.CompleteSteps.{beside_suits, beside_sure, first_asked, let_go, no_collection, not_asked, others_there, own_there, same_kind, same_taken}
use Rattle.shared_work.proofs.EachStep.{Goes}
use Rattle.shared_work.proofs.CompleteWalks.{IsLetGo, IsMine, Needs, NeedsName, Seat, There, Walks, seat_after}

pub no_first : {A : Type 0} (x : A) (xs : List A) → x ∷ xs ≡ [] → ⊥
no_first x xs is = cc

pub one_at : {X : Type 0} (P : X → Type 0) (xs : List X) (x : X) (ys : List X) → AllByRecursion P (xs ++ x ∷ ys) → P x
one_at P [] x ys all = all.0
one_at P (z ∷ xs) x ys all = one_at P xs x ys all.1

-- at the end of its jobs a worker is at nothing
abbrev pub IsFree : Seat → Type 0
IsFree s = s.kind ≡ kinds.Idle

module _ {C : Type 0} (state : C → CoreState) (count : ℕ) (jobs : List Job) where
  abbrev pub own : ℕ → List LoadState
  own = own_by count jobs

  abbrev pub mine : ℕ → List LoadState
  mine worker = own_files count worker jobs

  -- a worker is at this, which its next step takes, and the names that it has are there
  pub record Seated (worker : ℕ) (m : FileMachine) (c : C) (asks : List Ask) : Type 0 where
    pub s : Seat
    pub kind_is : s.kind ≡ kind_at C state c (suc worker)
    pub has : (name : List ℕ) → s.there name ≡ true → IsMine (mine worker) name × (is_some (finite.get m.now.names name) ≡ true)
    pub walk : Walks (mine worker) s asks IsFree

  -- so is each, as these steps come
  pub record Before (m : FileMachine) (c : C) (es : List Event) : Type 0 where
    pub workers : (worker : ℕ) → worker < count → Seated worker m c (asks_of (suc worker) es)
    pub collector : AskedBeside (is_some m.collection) (asks_of 0 es)
    pub others : (actor : ℕ) → count < actor → asks_of actor es ≡ []
    pub streams : HasStreams own m.now.names

  module _ (few_jobs : length jobs ≤ 256) (small : AllByRecursion (λ j. j.number < 2 ^ 64) jobs) where
    -- ---- one step

    module _ (e : Event) (bytes : List ℕ) (es : List Event) (m n : FileMachine) (c d : C) (S : List ℕ → Type 0) (machine : IsFileMachine S m (state c))
        (before : Before m c (e ∷ es)) where
      abbrev runs : Bool
      runs = is_some m.collection

      -- what is asked for beside the workers
      beside : e.actor ≡ 0 → MayAsk runs e.step × AskedBeside (runs_after e.step e.answer runs) (asks_of 0 es)
      beside is = subst (AskedBeside runs) (first_asked e es 0 is) before.collector

      -- what a worker asks for
      abbrev Seat_at : (worker : ℕ) → worker < count → Seat
      Seat_at worker below = (before.workers worker below).s

      worker_walk : (worker : ℕ) (below : worker < count) → e.actor ≡ suc worker → Walks (mine worker) (Seat_at worker below) (ask_of e ∷ asks_of (suc worker) es) IsFree
      worker_walk worker below is =
          subst (λ (l : List Ask). Walks (mine worker) (Seat_at worker below) l IsFree) (first_asked e es (suc worker) is) (before.workers worker below).walk

      -- nobody else asks
      a_worker : (worker : ℕ) → e.actor ≡ suc worker → worker < count
      a_worker worker is = elim (cases_lt worker count) [
        | inl below ↦ below
        | inr past ↦ absurd (no_first (ask_of e) (asks_of (suc worker) es) (sym (first_asked e es (suc worker) is) ∙ before.others (suc worker) (omega (arith, past))))
      ]

      -- each name that has a file is one of the jobs'
      named_in : (name file : List ℕ) → finite.get m.now.names name ≡ Some file → IsIn (names_of jobs) name
      named_in name file got = let one = before.streams name file got in by one.0 one.1 one.2 one.4
        where
          by : (actor : ℕ) (f : LoadState) → Contains (own actor) f → (name ≡ temp_name f.file) ⊎ (name ≡ work_name f.file) → IsIn (names_of jobs) name
          by zero f (i, within, is) named = absurd (omega (arith, within))
          by (suc worker) f there named = mine_in count worker jobs name (f, (there, named))

      room : (worker : ℕ) (name : List ℕ) → IsMine (mine worker) name → finite.get m.now.names name ≡ None → finite.len m.now.names < MOST_NAMES
      room worker name is none =
          let less = fewer (names_of jobs) m.now.names name named_in (mine_in count worker jobs name is) none in
          let many = names_many jobs in
          omega (arith, less, many, few_jobs)

      worker_sure : (worker : ℕ) (there : There) (step : StepValue)
          → ((name : List ℕ) → there name ≡ true → IsMine (mine worker) name × (is_some (finite.get m.now.names name) ≡ true))
          → NeedsName (mine worker) there step → IsSure m (ask bytes step)
      worker_sure worker there (steps.Commit name root) has needs = (mine_named count worker jobs name small needs, room worker name needs)
      worker_sure worker there (steps.OpenRead name) has needs = (mine_named count worker jobs name small needs.0, (has name needs.1).1)
      worker_sure worker there (steps.Delete name) has needs = (mine_named count worker jobs name small needs.0, (has name needs.1).1)
      worker_sure worker there (steps.GcStart percent) has needs = absurd needs
      worker_sure worker there steps.GcStep has needs = absurd needs
      worker_sure worker there other has needs = tt

      abbrev IsRight : Type 0
      IsRight = Suits (taken_by (ask bytes e.step)) (kind_of (part_in m e.actor)) × IsSure m (ask bytes e.step)

      right_by : (actor : ℕ) → e.actor ≡ actor → IsRight
      right_by zero is = (beside_suits bytes runs e.step (kind_of (part_in m e.actor)) (beside is).0, beside_sure m bytes e.step (beside is).0)
      right_by (suc worker) is =
          let below = a_worker worker is in
          let seated = before.workers worker below in
          let needs : Needs (mine worker) seated.s e.step = (worker_walk worker below is).0 in
          let kind : seated.s.kind ≡ kind_of (part_in m e.actor) =
          seated.kind_is ∙ same_kind S m (state c) (suc worker) machine ∙ ap (λ (a : ℕ). kind_of (part_in m a)) (sym is) in (
            subst (λ (k : PartKind). Suits (taken_by (ask bytes e.step)) k) kind
                (subst (λ (o : Option PartKind). Suits o seated.s.kind) (same_taken bytes e.step) needs.0),
            worker_sure worker seated.s.there e.step seated.has needs.1,
          )

      pub is_right : IsRight
      is_right = right_by e.actor refl

      -- ---- what comes after it

      module _ (follow : KindsFollow C state) (others_stay : OthersStay C state) (stay : StreamsStay) (streams : IsOfStream (own e.actor) e.step bytes)
          (made : CoreStep (state c) e (state d)) (many : e.actor < length (state c).parts)
          (answers : Answers of_files e.actor (ask bytes e.step) (answered_by e.answer e.buf) m n) where
        leaves : Leaves e.step e.answer bytes m n
        leaves = step_leaves e.actor m n bytes e.buf e.step e.answer answers

        names_are : n.now.names ≡ (stored_with e.step e.answer bytes (stored_in m.now)).files
        names_are = ap (λ (s : Stored). s.files) leaves.files

        named : (name : List ℕ) → is_some (finite.get (stored_with e.step e.answer bytes (stored_in m.now)).files name) ≡ true → is_some (finite.get n.now.names name) ≡ true
        named name is = subst (λ (files : Files). is_some (finite.get files name) ≡ true) (sym names_are) is

        -- what it deletes is no name of another worker
        abbrev DeletesOf : ℕ → List ℕ → Type 0
        DeletesOf actor nm = (file : LoadState) × (Contains (own actor) file × (nm ≡ temp_name file.file))

        apart_by : (worker : ℕ) (name nm : List ℕ) → IsMine (mine worker) name → (actor : ℕ) → actor ≢ suc worker → DeletesOf actor nm → nm ≢ name
        apart_by worker name nm is zero other (file, ((i, within, at), nm_is)) = absurd (omega (arith, within))
        apart_by worker name nm is (suc w) other (file, (there, nm_is)) =
            λ same. not_anothers count worker w jobs file name small there is (λ w_is. other (ap suc w_is)) (sym nm_is ∙ same)

        apart : (worker : ℕ) (name : List ℕ) → IsMine (mine worker) name → e.actor ≢ suc worker → (nm : List ℕ) → e.step ≡ steps.Delete nm → nm ≢ name
        apart worker name is other nm step =
            apart_by worker name nm is e.actor other (subst (λ (s : StepValue). IsOfStream (own e.actor) s bytes) step streams)

        own_next : (worker : ℕ) → worker < count → e.actor ≡ suc worker → Seated worker n d (asks_of (suc worker) es)
        own_next worker below is =
            let seated = before.workers worker below in
            let walk = worker_walk worker below is in
            let goes : IsLetGo seated.s.kind (ask_of e) = λ gives. let_go e.actor bytes e.buf m n e.step e.answer seated.s.kind is_right.0 answers gives in record {
              s = seat_after (ask_of e) seated.s;
              kind_is = ap (kind_after e.step e.answer) (seated.kind_is ∙ ap (λ (a : ℕ). kind_at C state c a) (sym is)) ∙ sym (follow e c d made many)
                  ∙ ap (λ (a : ℕ). kind_at C state d a) is;
              has = λ name there. let o = own_there (mine worker) seated.s.there (stored_in m.now) bytes e.step e.answer name seated.has walk.0.1 there in (o.0, named name o.1);
              walk = walk.1 goes;
            }

        other_next : (worker : ℕ) → worker < count → e.actor ≢ suc worker → Seated worker n d (asks_of (suc worker) es)
        other_next worker below other =
            let seated = before.workers worker below in record {
              s = seated.s;
              kind_is = seated.kind_is ∙ sym (ap core_kind (others_stay e c d (suc worker) made (λ same. other (sym same))));
              has = λ name there. let h = seated.has name there in
                  (h.0, named name (others_there (stored_in m.now) bytes e.step e.answer name (apart worker name h.0 other) h.1));
              walk = subst (λ (l : List Ask). Walks (mine worker) seated.s l IsFree) (not_asked e es (suc worker) other) seated.walk;
            }

        collector_by : (actor : ℕ) → e.actor ≡ actor → AskedBeside (is_some n.collection) (asks_of 0 es)
        collector_by zero is = subst (λ (b : Bool). AskedBeside b (asks_of 0 es)) (sym leaves.runs) (beside is).1
        collector_by (suc worker) is =
            let below = a_worker worker is in
            let same : is_some n.collection ≡ runs =
            leaves.runs ∙ no_collection (mine worker) (Seat_at worker below).there e.step e.answer runs (worker_walk worker below is).0.1 in
            subst (λ (b : Bool). AskedBeside b (asks_of 0 es)) (sym same)
            (subst (AskedBeside runs) (not_asked e es 0 (λ none. absurd (let wrong : suc worker ≡ 0 = sym is ∙ none in omega (arith, wrong)))) before.collector)

        pub next : Before n d es
        next = record {
          workers = λ worker below. dite (ℕ_discrete e.actor (suc worker)) (own_next worker below) (other_next worker below);
          collector = collector_by e.actor refl;
          others = λ actor past. dite (ℕ_discrete e.actor actor)
              (λ is. absurd (no_first (ask_of e) (asks_of actor es) (sym (first_asked e es actor is) ∙ before.others actor past)))
              (λ other. sym (not_asked e es actor other) ∙ before.others actor past);
          streams = subst (HasStreams own) (sym names_are)
              (stay own (record { event = e; bytes = bytes } ∷ []) (stored_in m.now) (streams, tt) before.streams);
        }

    -- ---- all steps

    module _ (follow : KindsFollow C state) (others_stay : OthersStay C state) (stay : StreamsStay) (S : List ℕ → Type 0) (es : List Event) (new : C)
        (each : AllByRecursion (λ e. e.actor < ACTORS) es) where
      may_here : (a : ℕ) (bytes buf : List ℕ) (m n : FileMachine) (step : StepValue) (answer : Result Answer Refusal) → Suits (taken_by (ask bytes step)) (kind_of (part_in m a))
          → IsSure m (ask bytes step) → Answers of_files a (ask bytes step) (answered_by answer buf) m n → IfErr answer MayRefuse
      may_here a bytes buf m n step (Ok answer) suits sure is = tt
      may_here a bytes buf m n step (Err refusal) suits sure is = refused_may a m n (ask bytes step) refusal suits sure is

      many_at : (m : FileMachine) (c : CoreState) → m.state ≡ Running → IsFileMachine S m c → length c.parts ≡ ACTORS
      many_at m c going machine = at.is_at.many
        where
          at : FitsBy Running S m c
          at = subst (λ (s : RunState (List ℕ)). FitsBy s S m c) going machine.fits

      abbrev pub Holds : List Event → List Event → FileMachine → C → Type 0
      Holds before rest m c = Before m c rest

      pub goes : Goes state own S es new (λ e. IfErr e.answer MayRefuse) Holds
      goes before f fs m n c d moment holds =
          let e : Event = f.event in
          let right = is_right e f.bytes (events_of fs) m n c d S moment.machine holds in
          let within : e.actor < ACTORS = one_at (λ x. x.actor < ACTORS) before e (events_of fs) (subst (AllByRecursion (λ x. x.actor < ACTORS)) moment.es_are each) in
          let below : e.actor < length (state c).parts = subst (λ (k : ℕ). e.actor < k) (sym (many_at m (state c) moment.going moment.machine)) within in (
            may_here e.actor f.bytes e.buf m n e.step e.answer right.0 right.1 moment.answers,
            next e f.bytes (events_of fs) m n c d S moment.machine holds follow others_stay stay moment.stream moment.made.made below moment.answers,
          )
