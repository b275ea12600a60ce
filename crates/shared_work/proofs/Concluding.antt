-- What a whole load is known by, where a summary is told: all jobs are stored, and its last two steps have listed the names and counted.
use Rattle.std.proofs.Common.{◌≡◌, ℕ, List, [], ◌∷◌, ◌++◌, map, append_assoc, Option, Some, None, Result, Ok, Err, refl, sym, ap, ◌∙◌, subst}
use Rattle.std.specs.FinMap as finite
use Rattle.std.proofs.lemmas.List.{map-append}
use Rattle.namespace.specs.Listing.{NamedRoot}
use Rattle.actor_parts.specs.declared.step.Answer.{Answer}
use Rattle.actor_parts.specs.declared.step.Answer.TheVariants as answers
use Rattle.actor_parts.specs.Asking.{Ask}
use Rattle.actor_parts.specs.StepValue as steps
use Rattle.refusals.specs.declared.refusal.Refusal.{Refusal}
use Rattle.store_core.specs.Runs.{FileEvent, events_of}
use Rattle.store_core.specs.State.{Event}
use Rattle.store_machine.specs.Asked as asked
use Rattle.store_machine.specs.ByMap.{FileMachine}
use Rattle.store_machine.specs.Done.{Done}
use Rattle.store_machine.specs.Done as done
use Rattle.store_machine.specs.Legal.{ByState, Legal, listing}
use Rattle.store_machine.specs.Machine.{Machine, RunState, Running, Stepped, Stopped}
use Rattle.store_machine.specs.Runs.{Run}
use Rattle.store_machine.specs.Values.{Values, of_files}
use Rattle.core_machine.specs.Files.{file_step}
use Rattle.core_machine.specs.Refines.{answered_by, asked_as}
use Rattle.shared_store.specs.Events.{event_of}
use Rattle.ingest_workers.specs.declared.job.JobEnd.{JobEnd}
use Rattle.ingest_workers.specs.declared.job.JobEnd.TheVariants as ends
use Rattle.ingest_workers.specs.Named.{AreStored}
use Rattle.shared_work.specs.declared.whole.Summary.{Summary}
use Rattle.shared_work.specs.Whole.{Concluded, Concludes, EndsBy, Outcome, Uncollected, Uncounted, Unlisted, first_refused, refused_in, refused_of}

-- ---- nothing was refused

stored_by : (ended : List JobEnd) → first_refused ended ≡ None → AreStored ended
stored_by [] is = tt
stored_by (ends.Stored root ∷ ended) is = stored_by ended is
stored_by (ends.Refused refusal ∷ ended) is = absurd (cc)

no_first : (first : Option Refusal) (collected : Result (Unit {0}) Refusal) → refused_of first collected ≡ None → first ≡ None
no_first (Some refusal) collected is = is
no_first None collected is = refl

-- then all jobs have ended, and are stored
pub record AllStored (ended : Option (List JobEnd)) : Type 0 where
  pub all : List JobEnd
  pub ended_is : ended ≡ Some all
  pub stored : AreStored all

pub all_stored : (ended : Option (List JobEnd)) (collected : Result (Unit {0}) Refusal) → refused_in ended collected ≡ None → AllStored ended
all_stored None collected is = absurd (let wrong : ◌≡◌ {A = Option Refusal} (Some _) None = is in cc)
all_stored (Some ended) collected is = record { all = ended; ended_is = refl; stored = stored_by ended (no_first (first_refused ended) collected is) }

-- ---- what was asked for last

-- the last two steps list the names, and count what their trees have
pub record EndsTold (summary : Summary) (all : List Event) : Type 0 where
  pub before : List Event
  pub list : Ask
  pub count : Ask
  pub all_is : all ≡ before ++ event_of 0 list ∷ event_of 0 count ∷ []
  pub list_is : list.step ≡ steps.ListNames
  pub listed : list.answer ≡ Ok (answers.Listed summary.files)
  pub count_is : count.step ≡ steps.Unique
  pub counted : count.answer ≡ Ok (answers.Unique summary.segments summary.bytes)

-- whatever came before them
pub told_behind : (summary : Summary) (first more all : List Event) → all ≡ first ++ more → EndsTold summary more → EndsTold summary all
told_behind summary first more all is t = record {
  before = first ++ t.before;
  list = t.list;
  count = t.count;
  all_is = is ∙ ap (λ (l : List Event). first ++ l) t.all_is ∙ sym (append_assoc first t.before (event_of 0 t.list ∷ event_of 0 t.count ∷ []));
  list_is = t.list_is;
  listed = t.listed;
  count_is = t.count_is;
  counted = t.counted;
}

module _ (summary : Summary) (came : Outcome) (came_is : came ≡ Ok summary) where
  pub not_refused : (refusal : Refusal) → came ≡ Err refusal → ⊥
  not_refused refusal is = let wrong : ◌≡◌ {A = Outcome} (Ok summary) (Err refusal) = sym came_is ∙ is in cc

  pub ends_told : (percent : ℕ) (last : List Ask) → Concludes percent came last → EndsTold summary (map (event_of 0) last)
  ends_told percent last (Uncollected refusal _ is once) = absurd (not_refused refusal is)
  ends_told percent _ (Unlisted refusal all list is once lists) = absurd (not_refused refusal is)
  ends_told percent _ (Uncounted refusal all list count files is once lists counts) = absurd (not_refused refusal is)
  ends_told percent _ (Concluded other all list count is once lists counts) =
      let same : other ≡ summary = (let e : ◌≡◌ {A = Outcome} (Ok other) (Ok summary) = sym is ∙ came_is in cc) in
      record {
        before = map (event_of 0) all;
        list = lists.0;
        count = counts.0;
        all_is =
            map-append (event_of 0) all (list ++ count)
            ∙ ap (λ (l : List Event). map (event_of 0) all ++ l)
            (ap (λ (l : List Ask). map (event_of 0) (l ++ count)) lists.1.0 ∙ ap (λ (l : List Ask). event_of 0 lists.0 ∷ map (event_of 0) l) counts.1.0);
        list_is = lists.1.1;
        listed = lists.1.2 ∙ ap (λ (s : Summary). Ok (answers.Listed s.files)) same;
        count_is = counts.1.1;
        counted = counts.1.2 ∙ ap (λ (s : Summary). Ok (answers.Unique s.segments s.bytes)) same;
      }

  -- where a summary is told nothing was refused
  pub record Finishes (ended : Option (List JobEnd)) (last : List Ask) : Type 0 where
    pub all : AllStored ended
    pub told : EndsTold summary (map (event_of 0) last)

  finishes_by : (percent : ℕ) (ended : Option (List JobEnd)) (collected : Result (Unit {0}) Refusal) (last : List Ask) (refused : Option Refusal)
      → refused_in ended collected ≡ refused → EndsBy percent refused came last → Finishes ended last
  finishes_by percent ended collected last (Some refusal) is by = absurd (not_refused refusal by.1)
  finishes_by percent ended collected last None is by = record { all = all_stored ended collected is; told = ends_told percent last by }

  pub finishes : (percent : ℕ) (ended : Option (List JobEnd)) (collected : Result (Unit {0}) Refusal) (last : List Ask)
      → EndsBy percent (refused_in ended collected) came last → Finishes ended last
  finishes percent ended collected last by = finishes_by percent ended collected last (refused_in ended collected) refl by

-- ---- the end of a run

-- the run goes on from some machine by just these steps
pub record RunsOut (es : List Event) (left : FileMachine) : Type 0 where
  pub files : List FileEvent
  pub events_are : events_of files ≡ es
  pub from : FileMachine
  pub run : Run of_files (map file_step files) from left

pub runs_out : (before es : List Event) (fs : List FileEvent) (m left : FileMachine) → events_of fs ≡ before ++ es → Run of_files (map file_step fs) m left
    → RunsOut es left
runs_out [] es fs m left is run = record { files = fs; events_are = is; from = m; run = run }
runs_out (e ∷ before) es [] m left is run = absurd (let wrong : ◌≡◌ {A = List Event} [] (e ∷ (before ++ es)) = is in cc)
runs_out (e ∷ before) es (f ∷ fs) m left is run =
    runs_out before es fs run.0 left (let both : ◌≡◌ {A = List Event} (f.event ∷ events_of fs) (e ∷ (before ++ es)) = is in cc) run.1.1

-- ---- what they tell of the machine

module _ {V R : Type 0} (v : Values V R) where
  -- it runs, and its names and their trees are as it was summed up
  pub record IsTold (summary : Summary) (left : Machine V R) : Type 0 where
    pub runs : left.state ≡ Running
    pub listed : summary.files ≡ listing v left.now
    pub counted : v.AreUnique (finite.values left.now.names) summary.segments summary.bytes

  listed_at : (state : RunState V) (actor : ℕ) (files : List NamedRoot) (m n : Machine V R) → ByState v state actor asked.ListNames (Ok (done.Listed files)) m n
      → m.state ≡ state → (files ≡ listing v m.now) × (n ≡ m) × (m.state ≡ Running)
  listed_at Running actor files m n is state_is = (is.0, is.1, state_is)
  listed_at (Stopped other stores) actor files m n is state_is = absurd (let answer = is.0 in cc)

  counted_at : (state : RunState V) (actor segments bytes : ℕ) (m n : Machine V R) → ByState v state actor asked.Unique (Ok (done.Unique segments bytes)) m n
      → v.AreUnique (finite.values m.now.names) segments bytes × (n ≡ m)
  counted_at Running actor segments bytes m n is = (is.0, is.1)
  counted_at (Stopped other stores) actor segments bytes m n is = absurd (let answer = is.0 in cc)

  pub split : (xs ys : List (Stepped V)) (m n : Machine V R) → Run v (xs ++ ys) m n → (mid : Machine V R) × (Run v xs m mid × Run v ys mid n)
  split [] ys m n run = (m, (refl, run))
  split (x ∷ xs) ys m n (next, (legal, run)) = let rest = split xs ys next n run in (rest.0, ((next, (legal, rest.1.0)), rest.1.1))

  -- the last two steps, as the machine's
  pub told_last : (summary : Summary) (xs : List (Stepped V)) (list count : Stepped V) (m n : Machine V R) → list.asked ≡ asked.ListNames
      → list.answer ≡ Ok (done.Listed summary.files) → count.asked ≡ asked.Unique → count.answer ≡ Ok (done.Unique summary.segments summary.bytes)
      → Run v (xs ++ list ∷ count ∷ []) m n → IsTold summary n
  told_last summary xs list count m n list_is listed count_is counted run =
      let parts = split xs (list ∷ count ∷ []) m n run in
      let mid : Machine V R = parts.0 in
      let after : Machine V R = parts.1.1.0 in
      let one : Legal v (record { actor = list.actor; asked = asked.ListNames; answer = Ok (done.Listed summary.files) }) mid after =
      subst (λ (a : Result Done Refusal). Legal v (record { actor = list.actor; asked = asked.ListNames; answer = a }) mid after) listed
      (subst (λ (q : _). Legal v (record { actor = list.actor; asked = q; answer = list.answer }) mid after) list_is parts.1.1.1.0) in
      let two : Legal v (record { actor = count.actor; asked = asked.Unique; answer = Ok (done.Unique summary.segments summary.bytes) }) after parts.1.1.1.1.0 =
      subst (λ (a : Result Done Refusal). Legal v (record { actor = count.actor; asked = asked.Unique; answer = a }) after parts.1.1.1.1.0) counted
      (subst (λ (q : _). Legal v (record { actor = count.actor; asked = q; answer = count.answer }) after parts.1.1.1.1.0) count_is parts.1.1.1.1.1.0) in
      let list_told = listed_at mid.state list.actor summary.files mid after one refl in
      let count_told = counted_at after.state count.actor summary.segments summary.bytes after parts.1.1.1.1.0 two in
      let same : n ≡ after = parts.1.1.1.1.1.1 ∙ count_told.1 in
      let back : n ≡ mid = same ∙ list_told.1 in
      record {
        runs = ap (λ (k : Machine V R). k.state) back ∙ list_told.2;
        listed = list_told.0 ∙ ap (λ (k : Machine V R). listing v k.now) (sym back);
        counted = subst (λ (k : Machine V R). v.AreUnique (finite.values k.now.names) summary.segments summary.bytes) (sym same) count_told.0;
      }

-- it is so of a machine of files that goes on by them
pub is_told : (summary : Summary) (before more : List Event) (fs : List FileEvent) (m left : FileMachine) → EndsTold summary more
    → events_of fs ≡ before ++ more → Run of_files (map file_step fs) m left → IsTold of_files summary left
is_told summary before more fs m left told is run =
    let all = told_behind summary before more (before ++ more) refl told in
    let out = runs_out all.before (event_of 0 all.list ∷ event_of 0 all.count ∷ []) fs m left (is ∙ all.all_is) run in by all out.files out.from out.events_are out.run
  where
    by : (t : EndsTold summary (before ++ more)) (es : List FileEvent) (from : FileMachine) → events_of es ≡ event_of 0 t.list ∷ event_of 0 t.count ∷ []
        → Run of_files (map file_step es) from left → IsTold of_files summary left
    by t [] from are ran = absurd (let wrong : ◌≡◌ {A = List Event} [] (event_of 0 t.list ∷ event_of 0 t.count ∷ []) = are in cc)
    by t (f ∷ []) from are ran = absurd (let wrong : ◌≡◌ {A = List Event} (f.event ∷ []) (event_of 0 t.list ∷ event_of 0 t.count ∷ []) = are in cc)
    by t (f ∷ g ∷ h ∷ es) from are ran =
        absurd (let wrong : ◌≡◌ {A = List Event} (f.event ∷ g.event ∷ h.event ∷ events_of es) (event_of 0 t.list ∷ event_of 0 t.count ∷ []) = are in cc)
    by t (f ∷ g ∷ []) from are ran =
        let f_is : f.event ≡ event_of 0 t.list = (let both : ◌≡◌ {A = List Event} (f.event ∷ g.event ∷ []) (event_of 0 t.list ∷ event_of 0 t.count ∷ []) = are in cc) in
        let g_is : g.event ≡ event_of 0 t.count = (let both : ◌≡◌ {A = List Event} (f.event ∷ g.event ∷ []) (event_of 0 t.list ∷ event_of 0 t.count ∷ []) = are in cc) in
        told_last of_files summary [] (file_step f) (file_step g) from left
        (ap (λ (x : steps.StepValue). asked_as {V = List ℕ} (λ root. f.bytes) x) (ap (λ (e : Event). e.step) f_is ∙ t.list_is))
        (ap (λ (e : Event). answered_by e.answer e.buf) f_is ∙ ap (λ (x : Result Answer Refusal). answered_by x t.list.buf) t.listed)
        (ap (λ (x : steps.StepValue). asked_as {V = List ℕ} (λ root. g.bytes) x) (ap (λ (e : Event). e.step) g_is ∙ t.count_is))
        (ap (λ (e : Event). answered_by e.answer e.buf) g_is ∙ ap (λ (x : Result Answer Refusal). answered_by x t.count.buf) t.counted) ran
