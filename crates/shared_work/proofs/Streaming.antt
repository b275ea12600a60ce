-- What workers leave of files: each name that may be found is of a file of theirs.
use Rattle.std.proofs.Common.{◌≡◌, inl, inr, ℕ, List, [], ◌∷◌, ◌++◌, map, Some, None, Result, Ok, Err, refl, sym, ap, ◌∙◌, subst}
use Rattle.std.specs.List.{AllByRecursion}
use Rattle.dd_disk.proofs.Later.{leaves_weaker}
use Rattle.actor_parts.specs.declared.step.Answer.{Answer}
use Rattle.actor_parts.specs.declared.step.Answer.TheVariants as answers
use Rattle.actor_parts.specs.StepValue as steps
use Rattle.actor_parts.specs.StepValue.{StepValue}
use Rattle.load_stream.specs.Load.{LoadState}
use Rattle.refusals.specs.declared.refusal.Refusal.{Refusal}
use Rattle.store_model.specs.Collisions.{IsIn}
use Rattle.store_model.specs.Files.{Stored}
use Rattle.store_core.specs.Runs.{FileEvent, stored_after, stored_by, stored_with}
use Rattle.store_core.specs.State.{CoreState}
use Rattle.store_machine.specs.Asked.{Asked}
use Rattle.store_machine.specs.Asked as asked
use Rattle.store_machine.specs.ByMap.{FileMachine}
use Rattle.store_machine.specs.Done.{Done}
use Rattle.store_machine.specs.Legal.{ByState, Does, Legal}
use Rattle.store_machine.specs.Machine.{Found, RunState, Running, Stopped}
use Rattle.store_machine.specs.Opening.{MayBeFound}
use Rattle.store_machine.specs.Runs.{IsPassedFrom, Run}
use Rattle.store_machine.specs.Values.{of_files}
use Rattle.core_machine.specs.Files.{FileRunsRefine, FitsBy, IsAtFiles, IsOfFile, IsOfPassed, file_step, stored_in}
use Rattle.core_machine.specs.Refines.{answered_by, asked_as}
use Rattle.shared_store.specs.Book.{BooksReplay, IsNoOpening, line_by, replay}
use Rattle.ingest_workers.specs.Named.{AreOfStreams, HasStreams, StreamsStay}
use Rattle.ingest_workers.specs.Owing.{IsOfStream, OwedRunsAreRight}
use Rattle.shared_work.specs.Streams.{IsOfStreams, WorkLeavesStreams}
use Rattle.shared_work.proofs.StreamingSteps.{Doubts, Tried, by_state, doubts}
use Rattle.shared_work.proofs.CompleteSteps.{of_file}

-- ---- what a step asks for

of_files_all : (own : ℕ → List LoadState) (fs : List FileEvent) → AreOfStreams own fs → AllByRecursion (λ f. IsOfFile f.event.step f.bytes) fs
of_files_all own [] each = tt
of_files_all own (f ∷ fs) each = (of_file (own f.event.actor) f.event.step f.bytes each.0, of_files_all own fs each.1)

no_opening : (bytes : List ℕ) (step : StepValue) → IsNoOpening (asked_as (λ root. bytes) step)
no_opening bytes steps.Begin = tt
no_opening bytes step = tt

-- ---- what it makes of the names

pub itself : (state : RunState (List ℕ)) (now : Found (List ℕ)) → MayBeFound of_files state now now
itself Running now = refl
itself (Stopped None stores) now = refl
itself (Stopped (Some other) stores) now = inl refl

done_by : (state : RunState (List ℕ)) (a : ℕ) (step : Asked (List ℕ)) (answer : Done) (m n : FileMachine) → ByState of_files state a step (Ok answer) m n
    → Does of_files a step answer m n
done_by Running a step answer m n is = is
done_by (Stopped other stores) a step answer m n is = absurd (let wrong : ◌≡◌ {A = Result Done Refusal} (Ok answer) (Err _) = is.0 in cc)

-- a commit or a delete that was tried would make these of the files
tried_stored : (step : StepValue) (bytes : List ℕ) (now found : Found (List ℕ)) → Tried (asked_as (λ root. bytes) step) now found
    → stored_in found ≡ stored_with step (Ok answers.Begun) bytes (stored_in now)
tried_stored (steps.Commit name root) bytes now found is = ap stored_in is
tried_stored (steps.Delete name) bytes now found is = ap stored_in is
tried_stored step bytes now found is = absurd is

module _ (books : BooksReplay of_files) (a : ℕ) (bytes buf : List ℕ) (m n : FileMachine) where
  abbrev LegalOf : StepValue → Result Answer Refusal → Type 0
  LegalOf step answer = Legal of_files (record { actor = a; asked = asked_as (λ root. bytes) step; answer = answered_by answer buf }) m n

  abbrev Told : StepValue → Result Answer Refusal → Found (List ℕ)
  Told step answer = replay of_files (line_by a (asked_as (λ root. bytes) step) (answered_by answer buf) ++ []) m.now

  replayed : (step : StepValue) (answer : Result Answer Refusal) → LegalOf step answer → stored_in n.now ≡ stored_in (Told step answer)
  replayed step answer legal = ap stored_in (books (record { actor = a; asked = asked_as (λ root. bytes) step; answer = answered_by answer buf } ∷ []) m n
      (no_opening bytes step, tt) (n, (legal, refl))).0

  stored_then : (step : StepValue) (answer : Result Answer Refusal) → LegalOf step answer → stored_in n.now ≡ stored_with step answer bytes (stored_in m.now)
  stored_then (steps.Commit name root) (Ok (answers.Committed sequence)) legal = replayed (steps.Commit name root) (Ok (answers.Committed sequence)) legal
  stored_then (steps.Commit name root) (Ok answer) legal = absurd (done_by m.state a (asked.Commit name bytes) _ m n legal)
  stored_then (steps.Commit name root) (Err refusal) legal = replayed (steps.Commit name root) (Err refusal) legal
  stored_then (steps.Delete name) (Ok (answers.Deleted sequence)) legal = replayed (steps.Delete name) (Ok (answers.Deleted sequence)) legal
  stored_then (steps.Delete name) (Ok answer) legal = absurd (done_by m.state a (asked.Delete name) _ m n legal)
  stored_then (steps.Delete name) (Err refusal) legal = replayed (steps.Delete name) (Err refusal) legal
  stored_then step answer legal = replayed step answer legal

-- ---- what may be found

module _ (own : ℕ → List LoadState) (books : BooksReplay of_files) (stay : StreamsStay) where
  abbrev IsGood : FileMachine → Type 0
  IsGood m = (found : Found (List ℕ)) → MayBeFound of_files m.state m.now found → HasStreams own found.names

  module _ (f : FileEvent) (m n : FileMachine) (of_stream : IsOfStream (own f.event.actor) f.event.step f.bytes) (legal : Legal of_files (file_step f) m n) where
    stored_now : stored_in n.now ≡ stored_by f (stored_in m.now)
    stored_now = stored_then books f.event.actor f.bytes f.event.buf m n f.event.step f.event.answer legal

    has_then : HasStreams own m.now.names → (answer : Result Answer Refusal) (found : Found (List ℕ))
        → stored_in found ≡ stored_with f.event.step answer f.bytes (stored_in m.now) → HasStreams own found.names
    has_then has answer found same = subst (λ (s : Stored). HasStreams own s.files) (sym same)
        (stay own (record { event = record f.event { answer = answer }; bytes = f.bytes } ∷ []) (stored_in m.now) (of_stream, tt) has)

    has_now : HasStreams own m.now.names → (found : Found (List ℕ)) → found ≡ n.now → HasStreams own found.names
    has_now has found is = has_then has f.event.answer found (ap stored_in is ∙ stored_now)

    found_then : HasStreams own m.now.names → (state : RunState (List ℕ)) → Doubts (asked_as (λ root. f.bytes) f.event.step) m.now state → (found : Found (List ℕ))
        → MayBeFound of_files state n.now found → HasStreams own found.names
    found_then has Running doubt found is = has_now has found is
    found_then has (Stopped None stores) doubt found is = has_now has found is
    found_then has (Stopped (Some other) stores) doubt found (inl is) = has_now has found is
    found_then has (Stopped (Some other) stores) doubt found (inr is) =
        has_then has (Ok answers.Begun) found (ap stored_in is ∙ tried_stored f.event.step f.bytes m.now other doubt)

    good_then : IsGood m → IsGood n
    good_then good =
        let a : ℕ = f.event.actor in
        let step : Asked (List ℕ) = asked_as (λ root. f.bytes) f.event.step in
        let answer : Result Done Refusal = answered_by f.event.answer f.event.buf in
        elim (doubts m.state a step answer m n refl (by_state a step answer m n (no_opening f.bytes f.event.step) legal)) [
          | inl stays ↦ subst IsGood (sym stays) good
          | inr doubt ↦ found_then (good m.now (itself m.state m.now)) n.state doubt
        ]

  -- after steps, and at each machine that they come by
  record Leads (fs : List FileEvent) (m n : FileMachine) (run : Run of_files (map file_step fs) m n) : Type 0 where
    good : IsGood n
    stored : stored_in n.now ≡ stored_after fs (stored_in m.now)
    passed : (first : ℕ) (found : Found (List ℕ)) → IsPassedFrom of_files first (map file_step fs) m n run found → HasStreams own found.names

  leads : (fs : List FileEvent) (m n : FileMachine) (run : Run of_files (map file_step fs) m n) → AreOfStreams own fs → IsGood m → Leads fs m n run
  leads [] m n is each good = record {
    good = subst IsGood (sym is) good;
    stored = ap (λ (x : FileMachine). stored_in x.now) is;
    passed = λ first found passed. good found passed.1;
  }
  leads (f ∷ fs) m n (mid, (legal, run)) (one, each) good =
      let rest = leads fs mid n run each (good_then f m mid one legal good) in record {
        good = rest.good;
        stored = rest.stored ∙ ap (stored_after fs) (stored_now f m mid one legal);
        passed = λ first found passed. elim passed [ inl here ↦ good found here.1 | inr later ↦ rest.passed first found later ];
      }

-- ---- by the laws

module _ {C : Type 0} (state : C → CoreState) (rightly : OwedRunsAreRight C state) (refine : FileRunsRefine C state) (books : BooksReplay of_files) (stay : StreamsStay) where
  pub work_leaves_streams : WorkLeavesStreams C state
  work_leaves_streams among own es m old new apart segments up is runs has each ran owed =
      let fits : IsAtFiles (IsIn among) m (state old) = subst (λ (s : RunState (List ℕ)). FitsBy s (IsIn among) m (state old)) runs is.fits in
      let right = rightly among own es m.store (stored_in m.now) old new apart segments fits.is_at fits.settled each ran owed in
      let went = refine among right.files old new m apart up is (of_files_all own right.files right.of_streams) right.run in
      let good : IsGood own books stay m = λ found may.
      subst (λ (x : Found (List ℕ)). HasStreams own x.names) (sym (subst (λ (s : RunState (List ℕ)). MayBeFound of_files s m.now found) runs may)) has in
      let ends = leads own books stay right.files m went.0 went.1 right.of_streams good in record {
        files = right.files;
        events_are = right.events_are;
        of_streams = right.of_streams;
        left = went.0;
        run = went.1;
        is_left = went.2;
        names_are = ap (λ (s : Stored). s.files) ends.stored;
        streams = ends.good;
        crash =
            leaves_weaker (IsOfPassed (IsIn among) (map file_step right.files) m went.0 went.1) (IsOfStreams (IsIn among) own) (state old).disk (state new).disk
            (λ image passed. (passed.0, ends.passed m.now.last passed.0 passed.1, passed.2)) went.3;
      }
