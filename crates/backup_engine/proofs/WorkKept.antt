-- Workers over a core whose disk was lent: what the top call says of them.
use Rattle.backup_engine.proofs.Prelude.{◌≡◌, ◌⊎◌, inl, inr, ◌≤◌, ℕ, List, [], ◌∷◌, Option, Some, None, Ok, Err, refl, sym, ◌∙◌, ap, subst, MutBor, Reads, Shows, DiskView, IsLater, later_on, SinkView, SourceView, Refusal, Memory, Refused, OpensCore, OpensNone, CoreState, IsRunning, IsReadFrom, IsNotRead, of_files, IsIn, CallsRunByFiles, FailsAlone, RunsEachByFiles, until}
use Rattle.std.specs.Prelude.{false, option_map, replicate, Result, IfErr}
use Rattle.std.specs.List.{AllByRecursion}
use Rattle.std.specs.Cmp.Lexicographic.{slice_cmp}
use Rattle.std.specs.Ordering.{nat_cmp}
use Rattle.std.specs.FinMap as finite
use Rattle.dd_disk.proofs.Later.{leaves_weaker}
use Rattle.dd_disk.specs.Ending.{Done}
use Rattle.actor_parts.specs.declared.actor.TheConstants.{ACTORS}
use Rattle.actor_parts.specs.declared.part.Part.TheVariants.{Idle}
use Rattle.disk_format.specs.Cells.{Root}
use Rattle.merkle_file.specs.declared.top.Top.{Top}
use Rattle.refusals.specs.declared.refusal.Refusal.TheVariants.{Stopped}
use Rattle.refusals.specs.declared.refusal.Refusal.TheVariants as refusals
use Rattle.reply_text.specs.declared.ending.Ending.{Ending}
use Rattle.store_model.specs.Collisions.{ByteSet, HasNoCollisions}
use Rattle.store_model.specs.Image.{Encodes, Store}
use Rattle.store_core.specs.declared.stop.Stop.{Stop}
use Rattle.store_core.specs.State.{Event}
use Rattle.store_machine.specs.ByMap.{FileMachine}
use Rattle.store_machine.specs.Machine.{Machine, Running, all_idle}
use Rattle.store_machine.specs.Opening.{MayBeFound, Opens}
use Rattle.store_machine.specs.Values.{of_roots}
use Rattle.core_machine.proofs.FileStays.{stands_read}
use Rattle.core_machine.specs.Bytes.{OfStore}
use Rattle.core_machine.specs.FileOpenings.{FilesOpened}
use Rattle.core_machine.specs.Files.{IsFileMachine, IsOfFound}
use Rattle.core_machine.specs.Openings.{OpenedRefines}
use Rattle.script_runner.proofs.RootsFound.{roots_named}
use Rattle.ingest_workers.specs.declared.job.Job.{Job}
use Rattle.ingest_workers.specs.Named.{HaveNumbers}
use Rattle.shared_work.specs.Clashing.{IsHeldNode}
use Rattle.shared_work.specs.Complete.{IsEmptyAt}
use Rattle.shared_work.specs.Completing.{IsAtLast, IsCause, IsFull, IsSmall, IsWorkNode, ShownSince, WorksAreComplete}
use Rattle.shared_work.specs.Freed.{IsOpening}
use Rattle.shared_work.specs.Left as work
use Rattle.shared_work.specs.Left.{WorksAreRuns, WorksLeaveFiles}
use Rattle.shared_work.specs.Whole.{CountSteps, IsToldOf, Outcome, Plan, ToldAs, WorksThrough}
use Rattle.backup_engine.specs.Seen.{devices}
use Rattle.backup_engine.specs.TopCall.{RunsWork}
use Rattle.backup_engine.specs.Working.{IsOfWork, KeepsWork, Prints, Ran, WorksByRoots, WorksEachByFiles, WorksUnopened, told_by}
use Rattle.backup_engine.proofs.ByFiles.{call_leaves, memory_by_files, opened_clock}
use Rattle.backup_engine.proofs.Commanded.{full_not}
use Rattle.backup_engine.proofs.FailsAlone.{fails_memory}
use Rattle.backup_engine.proofs.Lending.{lent_end, lent_view, made_there}
use Rattle.backup_engine.proofs.Opens.{made_later, read_holds, unbegun}
use Rattle.backup_engine.proofs.PutCauses.{run_later}
use Rattle.backup_engine.proofs.Unlent.{shows}

-- ---- what is told

told_itself : (steps : List Event) (refusal : Refusal) → ((at : ℕ) → refusal ≡ Stopped at → ⊥) → IsToldOf steps refusal refusal
told_itself steps (Stopped at) not = absurd (not at refl)
told_itself steps refusal not = refl

-- where the store is stopped, by what stopped it
module _ (steps : List Event) (stop : Option Stop) where
  abbrev TellsStop : Outcome → Type 0
  TellsStop came = (at : ℕ) → came ≡ Err (Stopped at) → (s : Stop) × ((stop ≡ Some s) × IsToldOf steps (Stopped at) s.refusal)

  pub told_as : (came : Outcome) → TellsStop came → ToldAs steps came (told_by came (option_map (λ s. s.refusal) stop))
  told_as (Ok summary) tells = refl
  told_as (Err (Stopped at)) tells =
      let s = tells at refl in
      (s.0.refusal, (s.1.1, ap (λ (o : Option Stop). told_by (Err (Stopped at)) (option_map (λ s. s.refusal) o)) s.1.0))
  told_as (Err refusal) tells = (refusal, (told_itself steps refusal (λ at is. absurd (cc)), refl))

-- ---- a disk that was lent

module _ (loans loans_now : List ℕ) (v w : DiskView) where
  abbrev lent : DiskView
  lent = record v { loans = loans }

  abbrev lent_now : DiskView
  lent_now = record w { loans = loans_now }

  roots_back : (plan : Plan) (ran : Ran) → WorksByRoots plan ran lent lent_now → WorksByRoots plan ran v w
  roots_back plan ran is = record {
    opened = is.opened;
    opens = is.opens;
    named = is.named;
    shown = shows loans loans_now v w _ is.shown;
    steps_are = is.steps_are;
    left = is.left;
    run = is.run;
    listed = is.listed;
    disk_faults = is.disk_faults;
  }

  files_back : (plan : Plan) (ran : Ran) → WorksEachByFiles plan ran lent lent_now → WorksEachByFiles plan ran v w
  files_back plan ran each among m distinct segments known =
      let is = each among m distinct segments known in
      record {
        files = is.files;
        opened = is.opened;
        opens = is.opens;
        events = is.events;
        events_are = is.events_are;
        left = is.left;
        run = is.run;
        stands = record { content = is.stands.content; images = is.stands.images };
        streams = is.streams;
        crash = record { now = is.crash.now; since = is.crash.since };
        done = is.done;
        complete = is.complete;
      }

-- ---- causes

-- what was shown between two moments was shown between one before them and one after
module _ (plan : Plan) (first opened last now : DiskView) (earlier : first.clock ≤ opened.clock) (between : IsLater opened last) (after : IsLater last now) where
  shown_between : (P : List ℕ → Type 0) → ShownSince opened last P → ShownSince first now P
  shown_between P (image, (since, is)) =
      (image, (now.earlier first.clock opened.clock image earlier (after.images_were opened.clock image between.clock_is since), is))

  node_between : (bytes : List ℕ) → IsWorkNode plan opened last bytes → IsWorkNode plan first now bytes
  node_between bytes (inl node) = inl node
  node_between bytes (inr held) = inr (shown_between (IsHeldNode bytes) held)

  apart_between : HasNoCollisions (IsWorkNode plan first now) → HasNoCollisions (IsWorkNode plan opened last)
  apart_between apart a b a_is b_is = apart a b (node_between a a_is) (node_between b b_is)

  cause_between : (refusal : Refusal) → IsCause plan opened last refusal → IsCause plan first now refusal
  cause_between Memory is = tt
  cause_between (refusals.Full free) is = shown_between (IsFull free) is
  cause_between refusals.Numbers is = shown_between (λ image. OfStore image IsAtLast) is
  cause_between refusals.DiskRead is = tt
  cause_between refusals.DiskWrite is = tt
  cause_between (Stopped at) is = tt
  cause_between (refusals.Clash key at) is = λ apart. is (apart_between apart)
  cause_between (refusals.Unpinned key) is = is
  cause_between refusal is = absurd is

  or_cause_between : {X : Type 0} (r : Result X Refusal) → IfErr r (IsCause plan opened last) → IfErr r (IsCause plan first now)
  or_cause_between (Ok x) is = tt
  or_cause_between (Err refusal) is = cause_between refusal is

  each_between : (es : List Event) → AllByRecursion (λ e. IfErr e.answer (IsCause plan opened last)) es
      → AllByRecursion (λ e. IfErr e.answer (IsCause plan first now)) es
  each_between [] each = tt
  each_between (e ∷ es) each = (or_cause_between e.answer each.0, each_between es each.1)

-- ---- no core was opened

module _ (D : Type 0) (view : D → DiskView) (plan : Plan) (refusal : Refusal) (v w : DiskView) (source : SourceView) (sink : SinkView) where
  unopened : (before : DiskView) → IsNotRead refusal before w → WorksUnopened (Some (Refused refusal)) (devices before w source source sink sink)
  unopened before is = record {
    refusal = refusal;
    ending_is = refl;
    cause = is.cause;
    disk_faults = is.reads.faults_are;
    prints = refl;
  }

  pub work_none : RunsEachByFiles (Some (Refused refusal)) [] v w → FailsAlone (Some (Refused refusal)) [] v → OpensNone D view refusal v w
      → RunsWork D view plan None (Some (Refused refusal)) (devices v w source source sink sink)
  work_none by_files alone (inl is) = record {
    by_files = by_files;
    fails_alone = λ none. alone;
    way = inl (inl (unopened v is.0, λ free same. absurd (full_not refusal free same is.1)));
    source_is = refl;
  }
  work_none by_files alone (inr (inl is)) = record {
    by_files = by_files;
    fails_alone = λ none. alone;
    way = inl (inr (is.0, (is.1.0, is.1.1.reads.only.later, unopened (view is.0) is.1.1)));
    source_is = refl;
  }
  work_none by_files alone (inr (inr is)) = record {
    by_files = by_files;
    fails_alone = λ none. alone;
    way = inr (refl, record { refusal = refusal; ending_is = refl; unmade = is; none = refl; source_is = refl; sink_is = refl });
    source_is = refl;
  }

-- there was no memory, before the disk was called
pub work_without_memory : (D : Type 0) (view : D → DiskView) (plan : Plan) (v : DiskView) (source : SourceView) (sink : SinkView)
    → RunsWork D view plan None (Some (Refused Memory)) (devices v v source source sink sink)
work_without_memory D view plan v source sink = record {
  by_files = memory_by_files v;
  fails_alone = λ none. fails_memory v;
  way = inl (inl (unopened D view plan Memory v v source sink v (unbegun v), λ free same. absurd (full_not Memory free same tt)));
  source_is = refl;
}

-- ---- one was

opens_idle : (D : Type 0) (view : D → DiskView) (v : DiskView) (c : CoreState) → OpensCore D view v c → c.parts ≡ replicate ACTORS Idle
opens_idle D view v c (inl read) = read.opened.parts_are
opens_idle D view v c (inr (mid, (made, read))) = read.opened.parts_are

-- Workers may begin with it.
pub is_opening : (D : Type 0) (view : D → DiskView) (C : Type 0) (state : C → CoreState) (before : D) (core : C) → OpenedRefines D view C state
    → IsRunning (state core) → OpensCore D view (view before) (state core) → IsOpening state core
is_opening D view C state before core refines running opens =
    let one = refines 0 before core opens running in
    record { running = running; machine = one.0; fits = one.1.0 false; all_idle = opens_idle D view (view before) (state core) opens }

-- what was done with jobs that are those of the load
pub works_for : (C : Type 0) (state : C → CoreState) (workers percent : ℕ) (jobs given : List Job) (came : Outcome) (old new : C) → given ≡ jobs
    → WorksThrough state (record { workers = workers; percent = percent; jobs = given }) came old new
    → WorksThrough state (record { workers = workers; percent = percent; jobs = jobs }) came old new
works_for C state workers percent jobs given came old new same works =
    subst (λ (js : List Job). WorksThrough state (record { workers = workers; percent = percent; jobs = js }) came old new) same works

module _ (D : Type 0) (view : D → DiskView) (C : Type 0) (state : C → CoreState) (first : MutBor D) (n : ℕ) (w : DiskView) (old new : C) where
  abbrev given : MutBor D → DiskView
  given = lent_view D view

  abbrev end : DiskView
  end = lent_end D view first n w

  module _ (opens : CallsRunByFiles (MutBor D) given C state) (running : IsRunning (state old)) (last : Reads Done (state new).disk end)
      (clock : end.clock ≡ (state new).disk.clock)
      (plan : Plan) (came : Outcome) (some : 1 ≤ plan.workers) (numbers : HaveNumbers plan.jobs) (works : WorksThrough state plan came old new) where
    abbrev pub ran : Ran
    ran = record { came = came; steps = works.steps }

    pub work_between : IsLater (state old).disk (state new).disk
    work_between = run_later C state works.steps old new works.run

    module _ (roots_opened : OpenedRefines (MutBor D) given C state) (are_runs : WorksAreRuns state) where
      faults_are : (before : DiskView) (faults : CountSteps works.steps (state old).disk.faults (state new).disk.faults) → (state old).disk.faults ≡ before.faults
          → CountSteps works.steps before.faults end.faults
      faults_are before faults same =
          subst (λ (k : ℕ). CountSteps works.steps before.faults k) (sym last.faults_are)
          (subst (λ (k : ℕ). CountSteps works.steps k (state new).disk.faults) same faults)

      -- from the disk on that was read
      by_roots : (before : MutBor D) → IsReadFrom (given before) (state old) → WorksByRoots plan ran (given before) end
      by_roots before read =
          let one = roots_opened 0 before old (inl read) running in
          let m = one.0 in
          let is = one.1.0 _ in
          let went = are_runs plan came m old new some running read.opened.stop_is is works in
          record {
            opened = m;
            opens = λ k.
                let opened : Opens of_roots (finite.len (state old).tables.names) k m = one.1.2 k in
                subst (λ (files : ℕ). Opens of_roots files k m) (opened.files_are ∙ ap (λ (x : Machine Root (List Top)). finite.len x.now.names) (sym opened.others)) opened;
            named = roots_named m (state old) is;
            shown = until (given before) (state old).disk end
                (subst (λ (store : Store). Shows (given before) (state old).disk (λ image. Encodes image store)) (sym one.1.1) read.opened.right) read.reads.only.later.clock_is
                (later_on (state old).disk (state new).disk end work_between last.only.later);
            steps_are = works.steps_are;
            left = went.left;
            run = went.run;
            listed = went.listed;
            disk_faults = faults_are (given before) went.faults read.reads.faults_are;
          }

      stopped_by : (before : MutBor D) → IsReadFrom (given before) (state old)
          → (at : ℕ) → came ≡ Err (Stopped at) → (s : Stop) × (((state new).stop ≡ Some s) × IsToldOf works.steps (Stopped at) s.refusal)
      stopped_by before read =
          let one = roots_opened 0 before old (inl read) running in
          (are_runs plan came one.0 old new some running read.opened.stop_is (one.1.0 _) works).stopped

      pub works_opened : (ending : Option Ending) (source : SourceView) (sink sink_now : SinkView)
          → Prints (told_by came (option_map (λ s. s.refusal) (state new).stop)) ending sink sink_now → (before : MutBor D) → IsReadFrom (given before) (state old)
          → KeepsWork plan (Some ran) ending (devices (view before.now) w source source sink sink_now)
      works_opened ending source sink sink_now prints before read = record {
        by_roots = roots_back _ _ (view before.now) w plan ran (by_roots before read);
        told = told_by came (option_map (λ s. s.refusal) (state new).stop);
        told_as = told_as works.steps (state new).stop came (stopped_by before read);
        prints = prints;
      }

    module _ (files_opened : FilesOpened (MutBor D) given C state) (leave_files : WorksLeaveFiles state) (complete : WorksAreComplete C state)
        (small : IsSmall plan) where
      by_files : OpensCore (MutBor D) given (given first) (state old) → WorksEachByFiles plan ran (given first) end
      by_files opened among m distinct segments known =
          let one = files_opened among 0 first old m distinct known opened running in
          let k : FileMachine = one.0 in
          let reopened : Opens of_files (finite.len (state old).tables.names) m k = one.1.0 in
          let runs : k.state ≡ Running = ap (λ (x : FileMachine). x.state) reopened.others in
          let here = leave_files among plan came k old new distinct segments numbers some running one.1.1 runs works in
          let stands = opens.stands among new here.left here.is_left in
          let shut = stands_read _ here.left (state new).disk end last.only stands in
          record {
            files = _;
            opened = k;
            opens = one.1.0;
            events = here.events;
            events_are = here.events_are;
            left = here.left;
            run = here.run;
            stands = record { content = shut.content; images = shut.images };
            streams = here.streams;
            crash = leaves_weaker _ (IsOfWork (IsIn among) plan m k) (given first) end
                (λ image is. found_before among m k reopened runs image is)
                (call_leaves (IsOfFound (IsIn among) m) (λ image. IsOfFound (IsIn among) k image ⊎ work.IsOfWork state (IsIn among) plan k image) (given first)
                (state old).disk (state new).disk end (opened_clock (MutBor D) given (given first) (state old) opened) work_between one.1.2 here.crash last);
            done = here.done;
            complete = λ none.
                let causes = complete among plan came k old new distinct segments small
                (empty_at among k old running one.1.1 runs (ap (λ (x : FileMachine). x.parts) reopened.others) (ap (λ (x : FileMachine). x.collection) reopened.others) none)
                (ap (λ (x : FileMachine). x.last_id) reopened.others) works in
                let earlier = opened_clock (MutBor D) given (given first) (state old) opened in (
                  each_between plan (given first) (state old).disk (state new).disk end earlier work_between last.only.later works.steps causes.0,
                  or_cause_between plan (given first) (state old).disk (state new).disk end earlier work_between last.only.later came causes.1,
                );
          }
        where
          empty_at : (among : ByteSet) (k : FileMachine) (core : C) → IsRunning (state core) → IsFileMachine (IsIn among) k (state core) → k.state ≡ Running → k.parts ≡ all_idle
              → k.collection ≡ None → k.now.names ≡ finite.empty → IsEmptyAt (IsIn among) k (state core)
          empty_at among k core running machine runs idle no_collection none = record {
            running = running;
            machine = machine;
            runs = runs;
            no_names = λ name. ap (λ (names : _). finite.get names name) none ∙ finite.get-empty {X = List ℕ} (slice_cmp nat_cmp) name;
            idle = idle;
            no_collection = no_collection;
          }

          found_before : (among : _) (m k : FileMachine) → Opens of_files (finite.len (state old).tables.names) m k → k.state ≡ Running → (image : List ℕ)
              → IsOfFound (IsIn among) m image ⊎ (IsOfFound (IsIn among) k image ⊎ work.IsOfWork state (IsIn among) plan k image) → IsOfWork (IsIn among) plan m k image
          found_before among m k reopened runs image (inl before) = inl before
          found_before among m k reopened runs image (inr (inr is)) = inr is
          found_before among m k reopened runs image (inr (inl (found, may, stood))) =
              let now : found ≡ k.now = subst (λ (s : _). MayBeFound of_files s k.now found) runs may in
              let named : k.now ≡ reopened.found = ap (λ (x : FileMachine). x.now) reopened.others in
              inl (found, subst (MayBeFound of_files m.state m.now) (sym named ∙ sym now) (reopened.may tt), stood)

      pub works_back : OpensCore (MutBor D) given (given first) (state old) → WorksEachByFiles plan ran (view first.now) w
      works_back opened = files_back _ _ (view first.now) w plan ran (by_files opened)

    pub work_opened : OpensCore (MutBor D) given (given first) (state old) → (ending : Option Ending) (source : SourceView) (sink sink_now : SinkView)
        → WorksEachByFiles plan ran (view first.now) w
        → ((before : MutBor D) → IsReadFrom (given before) (state old) → KeepsWork plan (Some ran) ending (devices (view before.now) w source source sink sink_now))
        → RunsWork D view plan (Some ran) ending (devices (view first.now) w source source sink sink_now)
    work_opened (inl read) ending source sink sink_now each keeps = record {
      by_files = each;
      fails_alone = λ none. absurd (cc);
      way = inl (inl (keeps first read, λ free is. read_holds D view C state first n w old new opens running last clock work_between first read));
      source_is = refl;
    }
    work_opened (inr is) ending source sink sink_now each keeps = record {
      by_files = each;
      fails_alone = λ none. absurd (cc);
      way = inl (inr (
        is.0.now,
        (
          made_there D view first is.0 is.1.0,
          made_later D view C state first n w old new opens running last clock work_between is.0 is.1.1,
          keeps is.0 is.1.1,
        ),
      ));
      source_is = refl;
    }
