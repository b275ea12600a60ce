-- Ways of storing a file: they begin, go on by steps that were done, and end.
use Rattle.backup_engine.proofs.Prelude.{both_so, ◌≡◌, ℕ, List, [], ◌∷◌, ◌++◌, Some, None, Result, Ok, Err, refl, sym, ◌∙◌, subst, IsLater, later_here, later_on, Kind, PlaceMap, KindSegment, Segment, Writing, Answer, PinMap, StepValue, IsStep, Refusal, Memory, Store, IsValidFor, HasFree, last_id, StoreChange, Represents, Runs, OfEach, IndexesAll, CoreStep, kept_by, kept_of, ChangesTo, CoreRun, FileEvent, events_of, CoreState, Event, IsUp, IsRunning, step_later, AddsOnce, Way, AreKept, AreNew, IsFresh, IsPutStep, IsAskedFor, IsDoneBefore, IsWholeAt, EndsPut, PutRun, seal_by, seals_of}
use Rattle.std.specs.FinMap as finite
use Rattle.actor_parts.specs.Parts.{part_of}
use Rattle.actor_parts.specs.StepValue as asked
use Rattle.store_core.specs.Core.{OfEachIndexed}
use Rattle.backup_engine.specs.Putting.{SealsSo}
use Rattle.backup_engine.proofs.FirstActor.{Rested, by_first, steps_of, represents_still, kept_ids, kept_indexed, first_part, up_of, begun, begin_rests, begin_runs}
use Rattle.store_core.proofs.KeepingFiles.{chain_on}
use Rattle.backup_engine.proofs.WayLists.{kept_on, seals_on, seals_then, adds_on, whole_on, whole_all, ends_on, ends_here, files_on}

-- a step by which a file is stored
abbrev pub file_event : StepValue → Result Answer Refusal → List ℕ → List ℕ → FileEvent
file_event step answer buf bytes = record { event = by_first step answer buf; bytes = bytes }

pub put_step : (name bytes : List ℕ) (step : StepValue) (answer : Result Answer Refusal) (buf put : List ℕ) → IsStep step → IsAskedFor name bytes step put →
    IsPutStep name bytes (file_event step answer buf put)
put_step name bytes step answer buf put right asked_for = record { by_first = refl; is_step = right; asked_for = asked_for }

-- ---- what a step makes of the store and of the core

-- the core is on the store to which these changes lead, each of pieces of the file that were not held
pub record AddsBy (file : List ℕ) (changes : List StoreChange) (s : Store) (c : CoreState) : Type 0 where
  pub after : Store
  pub chain : ChangesTo changes s after
  pub once : AddsOnce file changes s
  pub represents : Represents after c.known c.tables
  pub valid : IsValidFor c.disk.size after
  pub has_free : HasFree after.held
  pub whole : IndexesAll after c.known

-- so it is from each store that the tables represented, each of whose keys the index had
abbrev pub AddsFromEach : List ℕ → List StoreChange → CoreState → CoreState → Type 0
AddsFromEach file changes old new = OfEachIndexed old.disk.size old.known old.tables (λ s. AddsBy file changes s new)

-- what is so of the core where these segments are kept
pub record Stays (all : List KindSegment) (opens : Kind → List Segment) (c : CoreState) : Type 0 where
  pub up : IsUp c
  pub runs : c.stop ≡ None
  pub pins : PinMap
  pub writing : part_of c.parts 0 ≡ Writing pins
  pub places : PlaceMap
  pub known : c.known ≡ Some places
  pub indexed : Runs c.disk.size c.known c.tables
  pub ids : OfEach c.disk.size c.known c.tables (λ store. c.tables.held.last_id ≡ last_id store.held)
  pub kept : AreKept all pins places
  pub fresh : (kind : Kind) → AreNew places kind (opens kind)

-- where nothing changes nothing is added
pub rests : (file : List ℕ) (old new : CoreState) → Rested old new → AddsFromEach file [] old new
rests file old new rested = record {
  store_has = λ s represents valid free whole. record {
    after = s;
    chain = refl;
    once = tt;
    represents = represents_still old new rested.kept s represents;
    valid = subst (λ (n : ℕ). IsValidFor n s) (sym rested.size_is) valid;
    has_free = free;
    whole = subst (IndexesAll s) (sym rested.kept.index_is) whole;
  };
}

seals_more : (file : List ℕ) (steps : List FileEvent) (f : FileEvent) (s : Store) (old new : CoreState) → SealsSo file steps s old →
    AddsFromEach file (seal_by f.event.step f.event.answer) old new
    → SealsSo file (steps ++ f ∷ []) s new
seals_more file steps f s old new before adds =
    let more : List StoreChange = seal_by f.event.step f.event.answer in
    let next = adds.store_has before.after before.represents before.valid before.has_free before.whole in
    record {
      after = next.after;
      chain = subst (λ (l : List StoreChange). ChangesTo l s next.after) (sym (seals_on steps f))
          (chain_on (seals_of steps) more s before.after next.after before.chain next.chain);
      once = subst (λ (l : List StoreChange). AddsOnce file l s) (sym (seals_on steps f)) (adds_on file (seals_of steps) more s before.after before.chain before.once next.once);
      represents = next.represents;
      valid = next.valid;
      has_free = next.has_free;
      whole = next.whole;
    }

module _ (C : Type 0) (state : C → CoreState) (files : List ℕ → Type 0) where
  -- ---- the beginning

  pub way_begun : (old new : C) (answer : Answer) (buf : List ℕ) → IsFresh (state old) → CoreStep (state old) (by_first asked.Begin (Ok answer) buf) (state new) →
      IsRunning (state new)
      → (w : Way C state files (λ kind. []) old new) × (kept_of w.steps ≡ [])
  way_begun old new answer buf fresh step running =
      let f : FileEvent = file_event asked.Begin (Ok answer) buf [] in
      let steps = steps_of (state old) (state new) f.event fresh.runs step in
      let rested = begin_rests (state old) (state new) buf fresh answer step in
      let runs = begin_runs (state old) (state new) buf fresh answer step in
      let way : Way C state files (λ kind. []) old new = record {
        steps = f ∷ [];
        ran = (new, (step, refl));
        each = λ name file is. (put_step name file asked.Begin (Ok answer) buf [] tt tt, tt);
        done = ((tt, tt), tt);
        seals = λ file is. record {
          store_has = λ s represents valid free whole.
              seals_more file [] f s (state old) (state new)
              (record { after = s; chain = refl; once = tt; represents = represents; valid = valid; has_free = free; whole = whole })
              (rests file (state old) (state new) rested);
        };
        up = up_of (state new) runs running;
        runs = runs;
        pins = finite.empty;
        writing = first_part (state old) (state new) (Writing finite.empty) fresh.up (begun (state old) (state new) buf fresh answer steps.made.row);
        places = fresh.told.0;
        known = rested.kept.index_is ∙ fresh.told.1;
        indexed = kept_indexed (state old) (state new) rested fresh.indexed;
        ids = kept_ids (state old) (state new) rested fresh.ids;
        kept = record { long = tt; pinned = tt };
        fresh = λ kind. tt;
      } in
      (way, refl)

  -- ---- a step more

  module _ (opens : Kind → List Segment) (start old : C) (w : Way C state files opens start old) where
    pub record IsStepOn (more : Kind → List Segment) (f : FileEvent) (new : C) : Type 0 where
      pub made : CoreStep (state old) f.event (state new)
      pub put : (name file : List ℕ) → files file → IsPutStep name file f
      pub done : IsDoneBefore f.event
      pub adds : (file : List ℕ) → files file → AddsFromEach file (seal_by f.event.step f.event.answer) (state old) (state new)
      pub stays : Stays (kept_of w.steps ++ kept_by f.event.step f.event.answer) more (state new)

    pub way_on : (more : Kind → List Segment) (f : FileEvent) (new : C) (on : IsStepOn more f new)
        → (v : Way C state files more start new) × (kept_of v.steps ≡ kept_of w.steps ++ kept_by f.event.step f.event.answer) × (v.places ≡ on.stays.places)
    way_on more f new on =
        let stays = on.stays in
        let way : Way C state files more start new = record {
          steps = w.steps ++ f ∷ [];
          ran = files_on C state w.steps (f ∷ []) start old new w.ran (new, (on.made, refl));
          each = λ name file is. both_so (IsPutStep name file) w.steps (f ∷ []) (w.each name file is) (on.put name file is, tt);
          done = both_so (λ (g : FileEvent). IsDoneBefore g.event) w.steps (f ∷ []) w.done (on.done, tt);
          seals = λ file is. record {
            store_has = λ s represents valid free whole.
                seals_more file w.steps f s (state old) (state new) ((w.seals file is).store_has s represents valid free whole) (on.adds file is);
          };
          up = stays.up;
          runs = stays.runs;
          pins = stays.pins;
          writing = stays.writing;
          places = stays.places;
          known = stays.known;
          indexed = stays.indexed;
          ids = stays.ids;
          kept = subst (λ (l : List KindSegment). AreKept l stays.pins stays.places) (sym (kept_on w.steps f)) stays.kept;
          fresh = stays.fresh;
        } in
        (way, kept_on w.steps f, refl)

    -- ---- another file, and other segments that are still to be sealed

    pub way_as : (other : List ℕ → Type 0) (less : Kind → List Segment) → ((file : List ℕ) → other file → files file)
        → ((kind : Kind) (places : PlaceMap) → AreNew places kind (opens kind) → AreNew places kind (less kind)) → (v : Way C state other less start old) × (v.steps ≡ w.steps)
    way_as other less narrows fewer =
        let way : Way C state other less start old = record {
          steps = w.steps;
          ran = w.ran;
          each = λ name file is. w.each name file (narrows file is);
          done = w.done;
          seals = λ file is. w.seals file (narrows file is);
          up = w.up;
          runs = w.runs;
          pins = w.pins;
          writing = w.writing;
          places = w.places;
          known = w.known;
          indexed = w.indexed;
          ids = w.ids;
          kept = w.kept;
          fresh = λ kind. fewer kind w.places (w.fresh kind);
        } in
        (way, refl)

    -- ---- the end

    adds_all : (file : List ℕ) → files file → OfEachIndexed (state start).disk.size (state start).known (state start).tables (λ s. AddsOnce file (seals_of w.steps) s)
    adds_all file is = record { store_has = λ s represents valid free whole. ((w.seals file is).store_has s represents valid free whole).once }

    pub way_stops : (name file : List ℕ) → files file → PutRun C state name file (Err Memory) start old
    way_stops name file is = record {
      steps = w.steps;
      ran = w.ran;
      each = w.each name file is;
      ends = ends_here w.steps w.done;
      whole = whole_all file [] w.steps w.done;
      adds = adds_all file is;
    }

    -- a last step follows, which seals nothing
    pub with_last : (name file : List ℕ) (result : Result Unit Refusal) (f : FileEvent) (new : C) → files file → CoreStep (state old) f.event (state new) → IsPutStep name file f →
        seal_by f.event.step f.event.answer ≡ []
        → EndsPut (f ∷ []) result → IsWholeAt file (kept_of w.steps) f.event.step → PutRun C state name file result start new
    with_last name file result f new is step put none ends whole = record {
      steps = w.steps ++ f ∷ [];
      ran = files_on C state w.steps (f ∷ []) start old new w.ran (new, (step, refl));
      each = both_so (IsPutStep name file) w.steps (f ∷ []) (w.each name file is) (put, tt);
      ends = ends_on w.steps (f ∷ []) result w.done ends;
      whole = whole_on file [] w.steps (f ∷ []) w.done (whole, tt);
      adds = subst (λ (l : List StoreChange). OfEachIndexed (state start).disk.size (state start).known (state start).tables (λ s. AddsOnce file l s))
          (sym (seals_then w.steps f none)) (adds_all file is);
    }

    -- ---- the disk

    run_later : (events : List Event) (from to : C) → CoreRun C state events from to → IsLater (state from).disk (state to).disk
    run_later [] from to run = subst (λ (c : C). IsLater (state from).disk (state c).disk) (sym run) (later_here (state from).disk)
    run_later (e ∷ es) from to run =
        later_on (state from).disk (state run.0).disk (state to).disk (step_later (state from) (state run.0) e (state from).stop run.1.0) (run_later es run.0 to run.1.1)

    -- it is the same, later
    pub way_later : IsLater (state start).disk (state old).disk
    way_later = run_later (events_of w.steps) start old w.ran
