-- What workers and a collection beside them leave.
use Rattle.std.proofs.Common.{◌≡◌, ℕ, zero, suc, ◌+◌, ◌<◌, ◌≤◌, ◌==◌, if◌then◌else◌, Bool, true, false, List, [], ◌∷◌, map, length, get_or, Option, Some, None, Result, Ok, refl, sym, ap, ◌∙◌, subst, arith, eq-eqb, zero-add}
use Rattle.std.specs.List.{AllByRecursion}
use Rattle.std.proofs.lemmas.List.{get_or_default}
use mathlib.Core.Logic.{dite}
use native.Mathlib.Decide.{dec_le, dec_lt}
use Rattle.atomic_table.specs.Seated.{TableId}
use Rattle.actor_parts.specs.declared.actor.TheConstants.{ACTORS}
use Rattle.actor_parts.specs.declared.answered.Answered.{Answered}
use Rattle.actor_parts.specs.Asking.{Ask, AsksAll}
use Rattle.actor_parts.specs.StepValue.{IsStep}
use Rattle.refusals.specs.declared.refusal.Refusal.{Refusal}
use Rattle.turn_lock.specs.declared.history.Turn.{Turn}
use Rattle.turn_lock.specs.History.{IsHistory, last_of, times}
use Rattle.turn_lock.specs.Lock.{Ends}
use Rattle.store_core.specs.Runs.{CoreRun}
use Rattle.store_core.specs.State.{CoreState, Event}
use Rattle.shared_store.specs.Histories.{AreSteps, makers}
use Rattle.shared_store.specs.Made.{MadeBy, MakesStep, actor_in, steps_in}
use Rattle.shared_store.specs.Passes.{IsBusy, PassValue}
use Rattle.shared_store.specs.Telling as shared
use Rattle.shared_store.specs.Events.{event_of}
use Rattle.shared_store.specs.Telling.{AreTold, AsksAreTold, Tells, TellsNone, TellsOn, steps_by}
use Rattle.ingest_workers.specs.declared.job.Job.{Job}
use Rattle.ingest_workers.specs.declared.job.JobEnd.{JobEnd}
use Rattle.ingest_workers.specs.Ingesting.{ask_of, asks_of}
use Rattle.ingest_workers.specs.Jobs.{OwnJobs}
use Rattle.shared_work.specs.Freed.{IsOpening, StoresStay, WorkersComeFree}
use Rattle.shared_work.specs.Working.{AreWorked, AskedAs, AskedByWorker, CollectsBeside, Ended, HasTaken, HasWorked, IsNew, JoinsAll, WorksBeside}
use Rattle.shared_work.proofs.Freed.{ask_back, asks_by_steps}
use Rattle.shared_work.proofs.Taking.{Asked, Knows, in_up_to, knows, past_up_to, taken_all}

-- the first is of 0, and the others of what follows
abbrev with_first : {X : Type 0} → X → (ℕ → X) → ℕ → X
with_first x f zero = x
with_first x f (suc n) = f n

module _ {C : Type 0} (state : C → CoreState) where
  abbrev Caller : Type 0
  Caller = PassValue C × Answered

  -- ---- the callers, after work

  module _ (o : C) (store : TableId) (count : ℕ) (jobs : List Job) where
    -- what the worker has asked for, and that it is what it had to
    pub record Did (ended : Option (List JobEnd)) (worker : ℕ) (caller : Caller) : Type 0 where
      pub all : List Ask
      pub asked : Asked state o store (suc worker) all caller
      pub own : AskedByWorker count worker jobs ended all

    pub all_did : (ended : Option (List JobEnd)) (old new : List Caller) → length old ≡ count
        → ((worker : ℕ) (d : Caller) → worker < count → IsNew state o store (suc worker) (get_or old worker d).0) → AreWorked (shared.asks_of state) jobs ended old new
        → (length new ≡ count) × ((worker : ℕ) (d : Caller) → worker < count → Did ended worker (get_or new worker d))
    all_did None old new many began same = (
      ap length same ∙ many,
      λ worker d below. record {
        all = [];
        asked = record { start = get_or old worker d; began = began worker d below; asked = ap (λ (l : List Caller). get_or l worker d) same };
        own = refl;
      },
    )
    all_did (Some ended) old new many began did = (
      did.many ∙ many,
      λ worker d below.
          let own = did.own worker d (subst (λ (n : ℕ). worker < n) (sym many) below) in record {
            all = own.0;
            asked = record { start = get_or old worker d; began = began worker d below; asked = own.1 };
            own = subst (λ (n : ℕ). OwnJobs n worker jobs ended own.0) many own.2;
          },
    )

    pub did_stay : StoresStay state → (ended : Option (List JobEnd)) (worker : ℕ) (caller : Caller) → Did ended worker caller → caller.0.store ≡ store
    did_stay stays ended worker caller did = stays did.all did.asked.start caller did.asked.asked ∙ did.asked.began.store_is

    pub did_free : IsOpening state o → WorkersComeFree state → (ended : Option (List JobEnd)) (worker : ℕ) (caller : Caller) → Did ended worker caller → IsBusy caller.0 → ⊥
    did_free opening free None worker caller did busy =
        let at : caller ≡ did.asked.start = subst (λ (all : List Ask). AsksAll (shared.asks_of state) did.asked.start all caller) did.own did.asked.asked in
        busy.0 (ap (λ (c : Caller). c.0.kind) at ∙ did.asked.began.fresh.idle)
    did_free opening free (Some ended) worker caller did busy =
        free o count worker jobs ended did.all did.asked.start caller opening did.asked.began.fresh did.asked.asked did.own busy

  -- ---- the pass that has taken in all others

  module _ (o : C) (store : TableId) (asked : AsksAreTold state) (none : TellsNone actor_in (MakesStep state)) (on : TellsOn actor_in (MakesStep state)) where
    pub has_worked : (count percent : ℕ) (jobs : List Job) (ended : Option (List JobEnd)) (collected : Result (Unit {0}) Refusal) (collector : Caller) (callers : List Caller)
        (pass : PassValue C) (all : List Ask) → Asked state o store 0 all collector → CollectsBeside percent collected all → length callers ≡ count
        → ((worker : ℕ) (d : Caller) → worker < count → Did o store count jobs ended worker (get_or callers worker d)) → JoinsAll state collector.0 (map (λ c. c.0) callers) pass
        → HasWorked state o count percent jobs ended collected pass
    has_worked count percent jobs ended collected collector callers pass all began collects many did joins = record {
      asks = asks;
      taken = subst (λ (n : ℕ). HasTaken state o asks n pass) (zero-add (length callers) ∙ many)
          (taken_all state o on asks callers 0 collector.0 pass at_first each_knows joins);
      each = each_asked;
    }
      where
        -- what a worker has asked for, or nothing where there is no such worker
        own : (worker : ℕ) → (mine : List Ask) × (worker < count → Knows state o (suc worker) mine (get_or callers worker collector).0 × AskedByWorker count worker jobs ended mine)
        own worker = dite (dec_lt worker count)
            (λ below. let d = did worker collector below in
            (d.all, λ h. (knows state o asked none store (suc worker) d.all (get_or callers worker collector) d.asked, d.own)))
            (λ no. ([], λ below. absurd (no below)))

        asks : ℕ → List Ask
        asks = with_first all (λ worker. (own worker).0)

        at_first : HasTaken state o asks 0 collector.0
        at_first = let k = knows state o asked none store 0 all collector began in record {
          opened = k.opened;
          numbers_are = k.numbers_are;
          told = λ x low. let is : 0 ≡ x = omega arith in
              subst (λ (n : ℕ). Tells actor_in (MakesStep state) n o collector.0.view.seen (map (event_of n) (asks n))) is k.told;
        }

        each_knows : (k : ℕ) (d : Caller) → k < length callers → Knows state o (suc (0 + k)) (asks (suc (0 + k))) (get_or callers k d).0
        each_knows k d below =
            let mine = (own k).1 (subst (λ (n : ℕ). k < n) many below) in
            subst (λ (n : ℕ). Knows state o (suc n) (asks (suc n)) (get_or callers k d).0) (sym (zero-add k))
            (subst (λ (c : Caller). Knows state o (suc k) (asks (suc k)) c.0) (get_or_default callers k collector d below) mine.0)

        each_asked : (x : ℕ) → x ≤ count → AskedAs count percent jobs ended collected x (asks x)
        each_asked zero low = collects
        each_asked (suc worker) low = ((own worker).1 (omega arith)).1

  -- where nothing was done
  pub nothing_done : (count percent : ℕ) (jobs : List Job) (ended : Option (List JobEnd)) (collected : Result (Unit {0}) Refusal) (old new : C) → new ≡ old → ended ≡ None
      → collected ≡ Ok tt → WorksBeside state count percent jobs ended collected old new
  nothing_done count percent jobs ended collected old new same none all_right = record {
    steps = [];
    run = same;
    each = tt;
    workers = λ worker below. subst (λ (e : Option (List JobEnd)). AskedByWorker count worker jobs e []) (sym none) refl;
    collector = Ended 1024 all_right;
    others = λ actor high. refl;
  }

  -- ---- the whole history

  -- steps of actors of which none is above count
  all_below : (count : ℕ) (es : List Event) → count < ACTORS → ((x : ℕ) → count < x → steps_by actor_in (MakesStep state) x es ≡ [])
      → AllByRecursion (λ e. IsStep e.step) es → AllByRecursion (λ e. IsStep e.step × (e.actor < ACTORS)) es
  all_below count [] few none each = tt
  all_below count (e ∷ es) few none (is, each) = ((is, low), all_below count es few rest each)
    where
      mine : ℕ → List Event
      mine x = steps_by actor_in (MakesStep state) x es

      dropped : (b : Bool) (l : List Event) → (if b then e ∷ l else l) ≡ [] → l ≡ []
      dropped true l h = absurd (cc)
      dropped false l h = h

      rest : (x : ℕ) → count < x → mine x ≡ []
      rest x high = dropped (e.actor == x) (mine x) (none x high)

      low : e.actor < ACTORS
      low = dite (dec_le e.actor count) (λ below. omega arith) (λ above.
          let there : (if true then e ∷ mine e.actor else mine e.actor) ≡ [] =
          subst (λ (b : Bool). (if b then e ∷ mine e.actor else mine e.actor) ≡ []) (eq-eqb e.actor e.actor refl) (none e.actor (omega arith)) in absurd (cc))

  module _ (none : TellsNone actor_in (MakesStep state)) (on : TellsOn actor_in (MakesStep state)) (told : AreTold actor_in (MakesStep state)) (are_steps : AreSteps state) where
    pub worked_beside : (o : C) (count percent : ℕ) (jobs : List Job) (ended : Option (List JobEnd)) (collected : Result (Unit {0}) Refusal) (pass : PassValue C) (core : C)
        → count < ACTORS → HasWorked state o count percent jobs ended collected pass → Ends (MadeBy state) pass.view core
        → WorksBeside state count percent jobs ended collected o core
    worked_beside o count percent jobs ended collected pass core few worked ends = record {
      steps = es;
      run = subst (CoreRun C state es o) (sym h.1) steps.2;
      each = all_below count es few (λ x high. r.1 x ∙ (of x).2.1 high) steps.1;
      workers = λ worker below. let low : suc worker ≤ count = omega arith in
          subst (AskedByWorker count worker jobs ended) (sym (own (suc worker) low)) (worked.each (suc worker) low);
      collector = let low : 0 ≤ count = omega arith in subst (CollectsBeside percent collected) (sym (own 0 low)) (worked.each 0 low);
      others = λ x high. asks_are x ∙ ap (λ (l : List Event). map ask_of l) ((of x).2.1 high);
    }
      where
        log : List (Turn C)
        log = ends.seen

        h : IsHistory (MadeBy state) o log × (core ≡ last_of o log)
        h = ends.legal o worked.taken.opened

        of : (x : ℕ) → (mine : List Event) × (Tells actor_in (MakesStep state) x o log mine)
            × ((x ≤ count → mine ≡ map (event_of x) (worked.asks x)) × (count < x → mine ≡ []))
        of x = dite (dec_le x count)
            (λ low. (
              map (event_of x) (worked.asks x),
              on x o pass.view.numbers pass.view.seen log (map (event_of x) (worked.asks x)) ends.follows
                  (subst (λ (l : List ℕ). 1 ≤ times x l) (sym worked.taken.numbers_are) (in_up_to count x low)) (worked.taken.told x low),
              (λ l. refl, λ high. absurd (omega arith)),
            ))
            (λ no. (
              [],
              none x o log (ends.whole x (ap (times x) worked.taken.numbers_are ∙ past_up_to count x (omega arith))),
              (λ low. absurd (no low), λ high. refl),
            ))

        r : (history : IsHistory (MadeBy state) o log)
            × ((x : ℕ) → steps_by actor_in (MakesStep state) x (steps_in actor_in (MakesStep state) o log history) ≡ (of x).0)
        r = told o log (λ x. (of x).0) (λ x. (of x).1)

        es : List Event
        es = steps_in actor_in (MakesStep state) o log r.0

        steps : (map actor_in es ≡ makers log) × AllByRecursion (λ e. IsStep e.step) es × CoreRun C state es o (last_of o log)
        steps = are_steps o log r.0

        asks_are : (x : ℕ) → asks_of x es ≡ map ask_of ((of x).0)
        asks_are x = asks_by_steps state x es ∙ ap (λ (l : List Event). map ask_of l) (r.1 x)

        own : (x : ℕ) → x ≤ count → asks_of x es ≡ worked.asks x
        own x low = asks_are x ∙ ap (λ (l : List Event). map ask_of l) ((of x).2.0 low) ∙ ask_back x (worked.asks x)
