-- What is so of each refusal of a step is so of each of a job, and of collections, if it is so of want of memory. May says what is so; and of files that
-- fit it is so, too, that they are too long, where they are.
use Rattle.std.proofs.Common.{◌≡◌, inl, inr, ◌≤◌, ◌<◌, ◌%◌, ◌==◌, if◌then◌else◌, ℕ, suc, map, length, ap, Bool, true, false, List, [], ◌∷◌, ◌++◌, Option, Some, None, Result, Ok, Err, IfErr, refl, sym, subst, ◌∙◌, eq-eqb, MatchBool}
use Rattle.std.specs.List.{AllByRecursion}
use Rattle.std.proofs.lemmas.Nat.{mod_below}
use Rattle.disk_format.specs.declared.numbers.TheConstants.{MOST_FILE}
use Rattle.refusals.specs.declared.refusal.Refusal.{Refusal}
use Rattle.refusals.specs.declared.refusal.Refusal.TheVariants.{Memory, NotEmpty, TooLong}
use Rattle.actor_parts.specs.declared.step.Answer.{Answer}
use Rattle.actor_parts.specs.declared.step.Answer.TheVariants as answers
use Rattle.namespace.specs.Listing.{NamedRoot}
use Rattle.actor_parts.specs.Asking.{Ask}
use Rattle.load_stream.specs.Load.{LoadState}
use Rattle.store_core.specs.State.{Event}
use Rattle.shared_store.specs.Events.{event_of}
use Rattle.ingest_workers.specs.declared.job.Job.{Job}
use Rattle.ingest_workers.specs.declared.job.JobEnd.{JobEnd}
use Rattle.ingest_workers.specs.declared.job.JobEnd.TheVariants as ends
use Rattle.ingest_workers.specs.Giving.{ByCommit, BySession, ByTurn, GivenUp, IsRefused, Stops, TakesAll, Unbegun, Unclosed, Unended, Unopened, Unread, Unstored, Untaken}
use Rattle.ingest_workers.specs.Ingesting.{ask_of, asks_of}
use Rattle.ingest_workers.specs.Jobs.{IsJob, NoTemp, NoWork, NotDeleted, NotRead, OwnJobs, file_of, temp_name, work_name}
use Rattle.shared_work.specs.Complete.{MayEnd}
use Rattle.shared_work.specs.Whole.{BeginsBy, Concludes, Concluded, EndsBy, GoesBy, IsOneAsk, Outcome, Plan, Uncollected, Uncounted, Unlisted, WorkSteps, WorksOnEmpty, first_refused, refused_in, refused_of}
use Rattle.shared_work.specs.Working.{Again, AskedByWorker, Broke, CollectsBeside, CollectsOften, CollectsOnce, Ended, Swept, Unbegun as CollectsNone}

module _ (May : Refusal → Type 0) (memory : May Memory) (Fits : ℕ → Type 0) (long : (n : ℕ) → Fits n → MOST_FILE < n → May TooLong) where
  -- a step was done, or refused so
  abbrev Answered : Result Answer Refusal → Type 0
  Answered answer = IfErr answer May

  abbrev HasEnded : JobEnd → Type 0
  HasEnded end = MayEnd May end

  -- ---- what was asked for

  abbrev pub AllMay : List Ask → Type 0
  AllMay all = AllByRecursion (λ a. Answered a.answer) all

  may_first : (mine : Bool) (a : Ask) (rest : List Ask) → Answered a.answer → AllMay rest → AllMay (if mine then a ∷ rest else rest)
  may_first true a rest may each = (may, each)
  may_first false a rest may each = each

  pub asks_may : (actor : ℕ) (es : List Event) → AllByRecursion (λ e. Answered e.answer) es → AllMay (asks_of actor es)
  asks_may actor [] each = tt
  asks_may actor (e ∷ es) each = may_first (e.actor == actor) (ask_of e) (asks_of actor es) each.0 (asks_may actor es each.1)

  left : (xs ys : List Ask) → AllMay (xs ++ ys) → AllMay xs
  left [] ys each = tt
  left (x ∷ xs) ys each = (each.0, left xs ys each.1)

  right : (xs ys : List Ask) → AllMay (xs ++ ys) → AllMay ys
  right [] ys each = each
  right (x ∷ xs) ys each = right xs ys each.1

  refused : (a : Ask) (refusal : Refusal) → IsRefused refusal a → Answered a.answer → May refusal
  refused a refusal is may = subst Answered is may

  -- ---- a file

  stops_may : (file : LoadState) (name : List ℕ) (refusal : Refusal) (all : List Ask) → Fits file.length → Stops file name refusal all → AllMay all → May refusal
  stops_may file name refusal all fits (BySession rest s h gives of why) each = elim why [
    | inl none ↦ subst May (sym none) memory
    | inr above ↦ subst May (sym above.0) (long file.length fits above.1)
  ]
  stops_may file name refusal all fits (ByTurn rest a x h gives of settled due is) each = refused a refusal is (right rest (a ∷ []) each).0
  stops_may file name refusal all fits (ByCommit rest a s h root gives of ready step is) each = refused a refusal is (right rest (a ∷ []) each).0

  unstored_may : (file : LoadState) (name : List ℕ) (refusal : Refusal) (all : List Ask) → Fits file.length → Unstored file name refusal all → AllMay all → May refusal
  unstored_may file name refusal all fits (Untaken none) each = subst May (sym none) memory
  unstored_may file name refusal all fits (Unbegun a step is) each = refused a refusal is each.0
  unstored_may file name refusal all fits (GivenUp rest a stops step) each = stops_may file name refusal rest fits stops (left rest (a ∷ []) each)

  takes_may : (refusal : Refusal) (all : List Ask) → TakesAll (Err refusal) all → AllMay all → May refusal
  takes_may refusal all takes each = refused takes.last refusal takes.is_last (right takes.taken (takes.last ∷ []) (subst AllMay takes.all_is each)).0

  unread_may : (name : List ℕ) (refusal : Refusal) (all : List Ask) → Unread name refusal all → AllMay all → May refusal
  unread_may name refusal all (Unopened a step is) each = refused a refusal is each.0
  unread_may name refusal all (Unended opening taken closing opens done takes closes) each = takes_may refusal taken takes (left taken (closing ∷ []) each.1)
  unread_may name refusal all (Unclosed opening taken closing opens done takes closes is) each = refused closing refusal is (right taken (closing ∷ []) each.1).0

  -- ---- jobs

  job_may : (job : Job) (end : JobEnd) (all : List Ask) → Fits job.length → IsJob job end all → AllMay all → HasEnded end
  job_may job (ends.Stored root) all fits does each = tt
  job_may job (ends.Refused refusal) all fits (NoTemp temp un) each = unstored_may (file_of job) (temp_name job.number) refusal temp fits un each
  job_may job (ends.Refused refusal) all fits (NoWork temp work first does un) each =
      unstored_may (file_of job) (work_name job.number) refusal work fits un (right temp work each)
  job_may job (ends.Refused refusal) all fits (NotDeleted temp work first root delete does later step is) each =
      refused delete refusal is (right work (delete ∷ []) (right temp (work ++ (delete ∷ [])) each)).0
  job_may job (ends.Refused refusal) all fits (NotRead temp work first root delete read does later step done un) each =
      unread_may (work_name job.number) refusal read un (right work (delete ∷ read) (right temp (work ++ (delete ∷ read)) each)).1

  -- a worker did its own of these, by steps that are all so
  abbrev pub Did : (count worker : ℕ) → List Job → List JobEnd → Type 0
  Did count worker jobs ended = (all : List Ask) × (OwnJobs count worker jobs ended all × AllMay all)

  abbrev Chosen : Bool → (count worker : ℕ) → Job → JobEnd → List Job → List JobEnd → List Ask → Type 0
  Chosen mine count worker job end jobs ended all = MatchBool mine
      ((own : List Ask) × (rest : List Ask) × (all ≡ own ++ rest) × IsJob job end own × OwnJobs count worker jobs ended rest) (OwnJobs count worker jobs ended all)

  did_rest : (mine : Bool) (count worker : ℕ) (job : Job) (end : JobEnd) (jobs : List Job) (ended : List JobEnd) (all : List Ask) → Chosen mine count worker job end jobs ended all
      → AllMay all → Did count worker jobs ended
  did_rest true count worker job end jobs ended all does each = (does.1, (does.4, right does.0 does.1 (subst AllMay does.2 each)))
  did_rest false count worker job end jobs ended all does each = (all, (does, each))

  did_first : (mine : Bool) (count worker : ℕ) (job : Job) (end : JobEnd) (jobs : List Job) (ended : List JobEnd) (all : List Ask) → mine ≡ true → Fits job.length
      → Chosen mine count worker job end jobs ended all → AllMay all → HasEnded end
  did_first true count worker job end jobs ended all mine fits does each = job_may job end does.0 fits does.3 (left does.0 does.1 (subst AllMay does.2 each))
  did_first false count worker job end jobs ended all mine fits does each = absurd (cc)

  pub jobs_may : (count : ℕ) (jobs : List Job) (ended : List JobEnd) → 1 ≤ count → AllByRecursion (λ j. Fits j.length) jobs
      → ((worker : ℕ) → worker < count → Did count worker jobs ended) → AllByRecursion HasEnded ended
  jobs_may count jobs [] some fits each = tt
  jobs_may count [] (end ∷ ended) some fits each = absurd ((each 0 some).1.0)
  jobs_may count (job ∷ jobs) (end ∷ ended) some fits each =
      let worker : ℕ = job.number % count in
      let own = each worker (mod_below job.number count some) in (
        did_first (worker == worker) count worker job end jobs ended own.0 (eq-eqb worker worker refl) fits.0 own.1.0 own.1.1,
        jobs_may count jobs ended some fits.1
            (λ other below. let one = each other below in did_rest (worker == other) count other job end jobs ended one.0 one.1.0 one.1.1),
      )

  -- the first job that was refused
  pub first_may : (ended : List JobEnd) (refusal : Refusal) → AllByRecursion HasEnded ended → first_refused ended ≡ Some refusal → May refusal
  first_may [] refusal each is = absurd (cc)
  first_may (ends.Stored root ∷ ended) refusal each is = first_may ended refusal each.1 is
  first_may (ends.Refused r ∷ ended) refusal each is = subst May (let same : r ≡ refusal = cc in same) each.0

  -- ---- collections, and what is asked for last

  once_may : (percent : ℕ) (refusal : Refusal) (all : List Ask) → CollectsOnce percent (Err refusal) all → AllMay all → May refusal
  once_may percent refusal all (Swept a steps step done sweeps) each =
      refused sweeps.last refusal sweeps.ends (right sweeps.steps (sweeps.last ∷ []) (subst AllMay sweeps.all_is each.1)).0
  once_may percent refusal all (CollectsNone a r is step none) each = subst May (let same : r ≡ refusal = cc in same) (refused a r none each.0)

  pub often_may : (percent : ℕ) (result : Result (Unit {0}) Refusal) (refusal : Refusal) (most : ℕ) (all : List Ask) → result ≡ Err refusal
      → CollectsOften percent result most all
      → AllMay all → May refusal
  often_may percent result refusal most all is (Ended _ ok) each = absurd (let both = sym is ∙ ok in cc)
  often_may percent result refusal most all is (Broke _ r rest broke once) each =
      subst May (let both = sym broke ∙ is in let same : r ≡ refusal = cc in same) (once_may percent r rest once each)
  often_may percent result refusal most all is (Again less first more once often) each = often_may percent result refusal less more is often (right first more each)

  one_may : (step : _) (answer : Result Answer Refusal) (refusal : Refusal) (all : List Ask) → answer ≡ Err refusal → IsOneAsk step answer all → AllMay all → May refusal
  one_may step answer refusal all is (a, (all_is, step_is, answer_is)) each = refused a refusal (answer_is ∙ is) (subst AllMay all_is each).0

  pub concludes_may : (percent : ℕ) (came : Result _ Refusal) (refusal : Refusal) (all : List Ask) → came ≡ Err refusal → Concludes percent came all → AllMay all
      → May refusal
  concludes_may percent came refusal all is (Uncollected r collected broke once) each =
      subst May (let both = sym broke ∙ is in let same : r ≡ refusal = cc in same) (once_may percent r collected once each)
  concludes_may percent came refusal all is (Unlisted r collected list broke once lists) each =
      subst May (let both = sym broke ∙ is in let same : r ≡ refusal = cc in same) (one_may _ (Err r) r list refl lists (right collected list each))
  concludes_may percent came refusal all is (Uncounted r collected list count files broke once lists counts) each =
      subst May (let both = sym broke ∙ is in let same : r ≡ refusal = cc in same)
      (one_may _ (Err r) r count refl counts (right list count (right collected (list ++ count) each)))
  concludes_may percent came refusal all is (Concluded summary collected list count done once lists counts) each = absurd (let both = sym is ∙ done in cc)

  -- ---- the whole of a load

  stepped_may : (es : List Event) (last : List Ask) → AllByRecursion (λ e. Answered e.answer) (es ++ map (event_of 0) last)
      → AllByRecursion (λ e. Answered e.answer) es × AllMay last
  stepped_may [] [] each = (tt, tt)
  stepped_may [] (a ∷ last) each = (tt, (each.0, (stepped_may [] last each.1).1))
  stepped_may (e ∷ es) last each = let rest = stepped_may es last each.1 in ((each.0, rest.0), rest.1)

  refused_may : (ended : List JobEnd) (collected : Result (Unit {0}) Refusal) (refusal : Refusal) (asked : List Ask) (percent : ℕ) → AllByRecursion HasEnded ended
      → CollectsBeside percent collected asked → AllMay asked → refused_of (first_refused ended) collected ≡ Some refusal → May refusal
  refused_may ended collected refusal asked percent ends often each is = by (first_refused ended) refl is
    where
      by : (first : Option Refusal) → first_refused ended ≡ first → refused_of first collected ≡ Some refusal → May refusal
      by (Some r) first_is told = subst May (let same : r ≡ refusal = cc in same) (first_may ended r ends first_is)
      by None first_is told = by_collected collected often told
        where
          by_collected : (result : Result (Unit {0}) Refusal) → CollectsBeside percent result asked → refused_of None result ≡ Some refusal → May refusal
          by_collected (Ok u) often told = absurd (cc)
          by_collected (Err r) often told = often_may percent (Err r) refusal 1024 asked (let same : r ≡ refusal = cc in ap Err same) often each

  on_empty_may : (plan : Plan) (came : Outcome) (rest : List Event) (refusal : Refusal) → 1 ≤ plan.workers → AllByRecursion (λ j. Fits j.length) plan.jobs
      → WorksOnEmpty plan came rest → AllByRecursion (λ e. Answered e.answer) rest → came ≡ Err refusal → May refusal
  on_empty_may plan came rest refusal some fits w each is = by w.ended w.workers w.ends
    where
      parts : AllByRecursion (λ e. Answered e.answer) w.beside × AllMay w.last
      parts = stepped_may w.beside w.last (subst (AllByRecursion (λ e. Answered e.answer)) w.steps_are each)

      asked_may : AllMay (asks_of 0 w.beside)
      asked_may = asks_may 0 w.beside parts.0

      same_refusal : (r : Refusal) → came ≡ Err r → r ≡ refusal
      same_refusal r told = let both : ◌≡◌ {A = Outcome} (Err r) (Err refusal) = sym told ∙ is in cc

      ending_may : (first : Option Refusal) → ((r : Refusal) → first ≡ Some r → May r) → EndsBy plan.percent first came w.last → May refusal
      ending_may (Some r) may ends = subst May (same_refusal r ends.1) (may r refl)
      ending_may None may ends = concludes_may plan.percent came refusal w.last is ends parts.1

      by : (ended : Option (List JobEnd))
          → ((worker : ℕ) → worker < plan.workers → AskedByWorker plan.workers worker plan.jobs ended (asks_of (suc worker) w.beside))
          → EndsBy plan.percent (refused_in ended w.collected) came w.last → May refusal
      by None workers ends = subst May (same_refusal Memory ends.1) memory
      by (Some ended) workers ends =
          ending_may (refused_of (first_refused ended) w.collected)
          (λ r told. refused_may ended w.collected r (asks_of 0 w.beside) plan.percent
          (jobs_may plan.workers plan.jobs ended some fits
          (λ worker below. (asks_of (suc worker) w.beside, (workers worker below, asks_may (suc worker) w.beside parts.0)))) w.collector asked_may told) ends

  -- What it came to is refused by what a step was, or for want of memory, or since there are names.
  pub work_may : (plan : Plan) (came : Outcome) (steps : List Event) (refusal : Refusal) → 1 ≤ plan.workers → AllByRecursion (λ j. Fits j.length) plan.jobs
      → (w : WorkSteps plan came steps) → ((file : NamedRoot) (more : List NamedRoot) → w.first.answer ≡ Ok (answers.Listed (file ∷ more)) → May (NotEmpty (suc (length more))))
      → AllByRecursion (λ e. Answered e.answer) steps → came ≡ Err refusal → May refusal
  work_may plan came steps refusal some fits w names each is = by w.first.answer refl first_may_be w.goes
    where
      all : AllByRecursion (λ e. Answered e.answer) (w.first ∷ w.rest)
      all = subst (AllByRecursion (λ e. Answered e.answer)) w.steps_are each

      first_may_be : Answered w.first.answer
      first_may_be = all.0

      same_refusal : (r : Refusal) → came ≡ Err r → r ≡ refusal
      same_refusal r told = let both : ◌≡◌ {A = Outcome} (Err r) (Err refusal) = sym told ∙ is in cc

      by_names : (files : List NamedRoot) → w.first.answer ≡ Ok (answers.Listed files) → GoesBy plan files came w.rest → May refusal
      by_names [] told goes = on_empty_may plan came w.rest refusal some fits goes all.1 is
      by_names (file ∷ more) told goes = subst May (same_refusal (NotEmpty (suc (length more))) goes.1) (names file more told)

      by : (answer : Result Answer Refusal) → w.first.answer ≡ answer → Answered answer → BeginsBy plan answer came w.rest → May refusal
      by (Ok (answers.Listed files)) told may goes = by_names files told goes
      by (Err r) told may goes = subst May (same_refusal r goes.1) may
      by answer told may goes = absurd goes
