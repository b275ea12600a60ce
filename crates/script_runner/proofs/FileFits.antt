-- The machine of files fits a core whose disk tells its content; and so lines over such a core are lines of it.
use Rattle.script_runner.proofs.Prelude.{HasHistory, ◌≡◌, ◌⊎◌, ◌∙◌, ◌<◌, ◌≤◌, inl, inr, ℕ, zero, suc, Bool, List, [], ◌∷◌, length, replicate, Option, Some, None, Ok, Err, refl, sym, ap, subst, length-replicate, DiskView, OnlyReads, leaves_weaker, Root, MOST_FILE, Top, KnownWith, ACTORS, Answer, StepValue, Refusal, due_in, kept, History, answered, no_history, SessionState, bytes_are_counted, ByteSet, HasNoCollisions, Stop, CoreStep, StaysOrStops, FileEvent, FileStep, IsRootOf, CoreState, Event, Replied, Asked, step_of, FileMachine, RunState, Running, Stopped, of_files, Store, ChangesBytes, IsAtFiles, IsReady, FileDesk, HoldsKept, Kept, SameSessions}
use Rattle.std.proofs.Common.{slice_index_or}
use Rattle.actor_parts.specs.declared.part.Part as core_part
use Rattle.actor_parts.specs.Parts.{part_of}
use Rattle.actor_parts.specs.StepValue as steps
use Rattle.actor_parts.specs.StepValue.{IsStep}
use Rattle.refusals.specs.declared.refusal.Refusal.TheVariants as refusals
use Rattle.store_model.specs.Collisions.{IsIn}
use Rattle.store_core.specs.Runs.{AreAmong, IsGivenRight}
use Rattle.store_core.proofs.CoreRuns.{was_running}
use Rattle.store_core.proofs.Opened.{opened_runs}
use Rattle.session_turns.specs.Owning.{IsAskedFor, IsBeside, IsCutOf, StepsAt}
use Rattle.session_turns.proofs.TurnSteps.{claim_among, seal_among}
use Rattle.session_turns.proofs.HeldOn.{holds_begun, holds_beside, holds_turned}
use Rattle.session_turns.proofs.RightRoot.{commit_right, ready_root_is_right}
use Rattle.store_machine.specs.Asked as asked_of
use Rattle.store_machine.specs.Forgetting.{SameParts, SameState}
use Rattle.store_machine.specs.Machine.{Found, Idle, Part, Reading, Writing, kind_of}
use Rattle.core_machine.specs.Files.{FitsBy, IsFileMachine, IsOfFile, IsOfFound, MayStand, stored_in}
use Rattle.core_machine.proofs.FileCrashes.{stands_found}
use Rattle.core_machine.proofs.FileOpened.{files_opened, files_reopened_not}
use Rattle.core_machine.proofs.FileStands.{disk_stands}
use Rattle.core_machine.proofs.FilesRefined.{refined}
use Rattle.script_runner.specs.LinesAreFileRuns.{BeginsAtFileDesk, IsCutBy, LinesAreFileRuns, OpenedIsAtDesk, OwnsKept, ScriptsAreFileRuns, beside_files}
use Rattle.script_runner.proofs.DeskLines.{AllowedBy, line_runs, part_kinds, runs_by, script_runs, stops_by}
use Rattle.script_runner.proofs.DeskReopens.{idle_give, opened_parts}
use Rattle.script_runner.proofs.DeskSessions.{none_same}
use Rattle.script_runner.proofs.Fitting.{Fitted, Fitting, HasTaken, IsOfGiven, IsUnmade, Keeps}
use Rattle.script_runner.proofs.StillHeld.{still_held}

-- ---- what is so of the machine of roots

files_run : (a : RunState (List ℕ)) (b : RunState Root) → SameState a b → b ≡ Running → a ≡ Running
files_run Running b same is = refl
files_run (Stopped None stores) Running same is = absurd same
files_run (Stopped (Some found) stores) Running same is = absurd same
files_run (Stopped other stores) (Stopped found others) same is = absurd (let wrong : Stopped found others ≡ Running = is in cc)

files_stop : (a : RunState (List ℕ)) (b : RunState Root) (other : Option (Found Root)) (stores : List Store) → SameState a b → b ≡ Stopped other stores
    → (found : _) × (others : _) × (a ≡ Stopped found others)
files_stop (Stopped found others) b other stores same is = (found, others, refl)
files_stop Running Running other stores same is = absurd (let wrong : Running ≡ Stopped other stores = is in cc)
files_stop Running (Stopped found others) other stores same is = absurd same

abbrev FilePart : Type 0
FilePart = Part (List ℕ) (List (List ℕ))

abbrev RootPart : Type 0
RootPart = Part Root (List Top)

file_part : (p : FilePart) (q : RootPart) → SameParts (p ∷ []) (q ∷ []) → kind_of p ≡ kind_of q
file_part Idle Idle same = refl
file_part (Writing pins) (Writing others) same = refl
file_part (Reading file rest) (Reading root tops) same = refl
file_part p q same = absurd same.0

file_parts : (ps : List FilePart) (qs : List RootPart) → SameParts ps qs → (a : ℕ) → kind_of (slice_index_or ps a Idle) ≡ kind_of (slice_index_or qs a Idle)
file_parts [] [] same a = refl
file_parts [] (q ∷ qs) same a = absurd same
file_parts (p ∷ ps) [] same a = absurd same
file_parts (p ∷ ps) (q ∷ qs) same zero = file_part p q (same.0, tt)
file_parts (p ∷ ps) (q ∷ qs) same (suc a) = file_parts ps qs same.1 a

-- ---- what is given of a step

module _ (C : Type 0) (state : C → CoreState) (among : ByteSet) (distinct : HasNoCollisions (IsIn among)) where
  abbrev S : List ℕ → Type 0
  S = IsIn among

  abbrev Allowed : List ℕ → Bool → Type 0
  Allowed given ended = (bytes : List ℕ) → IsCutOf given ended bytes → S bytes

  -- ---- a machine that fits

  module _ (m : FileMachine) (c : CoreState) (fits : IsFileMachine S m c) where
    runs_so : c.stop ≡ None → m.state ≡ Running
    runs_so none = files_run m.state fits.roots.state fits.forgets.state (runs_by fits.roots.acknowledged fits.roots.state c.stop fits.machine.state none)

    at_files : c.stop ≡ None → IsAtFiles S m c
    at_files none = subst (λ (s : RunState (List ℕ)). FitsBy s S m c) (runs_so none) fits.fits

    stops_so : (stop : Stop) → c.stop ≡ Some stop → ((other : _) × (stores : _) × (m.state ≡ Stopped other stores)) × (stop.at ≡ m.acknowledged)
    stops_so stop is =
        let so = stops_by fits.roots.acknowledged fits.roots.state c.stop stop fits.machine.state is in
        (files_stop m.state fits.roots.state so.0.0 so.0.1 fits.forgets.state so.0.2, so.1 ∙ fits.forgets.acknowledged)

  -- ---- a step

  module _ (e : Event) (given : List ℕ) (old new : C) (m : FileMachine) (fits : IsFileMachine S m (state old)) where
    abbrev f : FileEvent
    f = record { event = e; bytes = given }

    abbrev Took : SessionState → Type 0
    Took x = HasTaken Allowed (λ k. OwnsKept e.actor k m (state old)) given x

    cut_of : (x : SessionState) (taken : Took x) → Allowed taken.history.given x.ended
    cut_of x taken = subst (λ (l : List ℕ). Allowed l x.ended) (sym taken.given_is) taken.allowed

    -- the root of a file of which all is kept is right
    root_right : (x : SessionState) (root : Root) → Took x → IsReady root x → (state old).stop ≡ None → IsRootOf root given (state old)
    root_right x root taken ready none =
        subst (λ (l : List ℕ). IsRootOf root l (state old)) taken.given_is
        (ready_root_is_right C state among m.store (stored_in m.now) e.actor x taken.history root old (at_files m (state old) fits none).is_at taken.has ready.ready
        (taken.owns.1 none))

    given_by : (step : StepValue) → IsOfGiven Allowed (λ k. OwnsKept e.actor k m (state old)) step given → CoreStep (state old) e (state new)
        → IsStep step × IsGivenRight S step e.answer given (state old) × IsOfFile step given
    given_by (steps.Claim seg) right step = (right.2.right, claim_among S right.0 right.1.history right.1.has (cut_of right.0 right.1) seg right.2, tt)
    given_by (steps.Seal offered) right step =
        (right.3, subst (AreAmong S) (sym right.4) (seal_among S right.0 right.2.history right.2.has (cut_of right.0 right.2) right.1), tt)
    given_by (steps.Commit name root) right step = (
      tt,
      commit_right (state old).stop e root given (state old) (state new) refl (root_right right.0 root right.1 right.2) step,
      (right.3, subst (λ (l : List ℕ). length l ≤ MOST_FILE) right.1.given_is (bytes_are_counted right.0 right.1.history right.1.has).1),
    )
    given_by steps.Begin right step = (tt, tt, tt)
    given_by other right step = (tt, tt, tt)

    module _ (n : FileMachine) (made : FileStep S f (state old) (state new)) where
      ran : (state new).stop ≡ None → (state old).stop ≡ None
      ran stays = was_running (state old).stop e (state old) (state new) refl made.made stays

      steps_at : (state new).stop ≡ None → StepsAt S f m.store (stored_in m.now) (state old) (state new)
      steps_at stays = let at = at_files m (state old) fits (ran stays) in record { is_at = at.is_at; settled = at.settled; step = made; runs_on = stays }

      -- an actor owns still what it owned, after a step beside its file
      owns_on : (b : ℕ) (k : Kept) → IsBeside b e → OwnsKept b k m (state old) → OwnsKept b k n (state new)
      owns_on b k beside own =
          (own.0, λ stays. holds_beside C state among f m.store (stored_in m.now) b k old new distinct (steps_at stays) own.0 beside (own.1 (ran stays)))

      begun : (answer : Answer) → e.actor < ACTORS → e.step ≡ steps.Begin → e.answer ≡ Ok answer → OwnsKept e.actor (kept no_history) n (state new)
      begun answer below step_is answer_is = (
        below,
        λ stays. holds_begun C state among f m.store (stored_in m.now) e.actor old new (steps_at stays) below
            (record { actor_is = refl; step_is = step_is; answer = answer; answer_is = answer_is }),
      )

      turned : (x : SessionState) (h : History) (answer : Answer) → HasHistory x h → IsAskedFor (due_in x) x e.step → e.answer ≡ Ok answer → OwnsKept e.actor (kept h) m (state old)
          → OwnsKept e.actor (kept (answered answer x h)) n (state new)
      turned x h answer has asked answer_is own = (
        own.0,
        λ stays. holds_turned C state among f m.store (stored_in m.now) e.actor x h answer old new distinct (steps_at stays) own.0 has
            (record { actor_is = refl; is_due = asked; answer_is = answer_is }) (own.1 (ran stays)),
      )

      keeps : Keeps OwnsKept e m n (state old) (state new)
      keeps = record {
        others = λ b k differs own. owns_on b k (inl differs) own;
        quiet = λ k quiet own. owns_on e.actor k (inr (inr quiet)) own;
        refused = λ k refusal is own. owns_on e.actor k (inr (inl (refusal, is))) own;
        begun = begun;
        turned = λ x h answer has asked is told own. turned x h answer has asked is own;
      }

  -- ---- a core that was not opened again

  rests_held : (old new : CoreState) → OnlyReads old.disk new.disk → new.tables ≡ old.tables → new.known ≡ old.known → new.collection ≡ old.collection → new.parts ≡ old.parts
      → (b : ℕ) (k : Kept) → HoldsKept b k old → HoldsKept b k new
  rests_held old new reads tables known collection parts b k own = record {
    pins = own.pins;
    writing = ap (λ (ps : List core_part.Part). part_of ps b) parts ∙ own.writing;
    held = λ kind x there. still_held old new reads tables known (record { kind = kind; segment = x }) (own.held kind x there);
    pinned = own.pinned;
  }

  owns_still : (refusal : Refusal) (old new : CoreState) (m n : FileMachine) (b : ℕ) (k : Kept) → StaysOrStops C (λ c. (state c).disk) refusal old new
      → OwnsKept b k m old → OwnsKept b k n new
  owns_still refusal old new m n b k (inl rest) own = (
    own.0,
    λ stays. rests_held old new rest.1.only rest.0.tables_are rest.0.index_is rest.0.collection_is rest.0.parts_are b k (own.1 (sym rest.0.stop_is ∙ stays)),
  )
  owns_still refusal old new m n b k (inr stops) own = (own.0, λ stays. absurd (let both = sym stays ∙ stops.stop_is in cc))

  -- ---- the machine of files fits

  abbrev view : C → DiskView
  view c = (state c).disk

  -- what a crash leaves of a disk can be opened as files that may be found
  here_found : (m : FileMachine) (c : CoreState) → IsFileMachine S m c → (image : List ℕ) → c.disk.images image → IsOfFound S m image
  here_found m c fits image there = stands_found S m image ((disk_stands S m c fits).images image there)

  -- the content stands for the machine's files
  content_stands : (m : FileMachine) (c : CoreState) → IsFileMachine S m c → KnownWith c.disk.content (MayStand S m)
  content_stands m c fits = (disk_stands S m c fits).content

  -- want of memory before a step is made changes nothing
  unmade_still : (a : ℕ) (step : Asked (List ℕ)) (m : FileMachine) (told : Option (List ℕ)) → IsUnmade step →
      ChangesBytes (step_of of_files a step (Err refusals.Memory)) m m told told
  unmade_still a (asked_of.Delete name) m told is = λ old known. (old, known, refl)
  unmade_still a asked_of.Reopen m told is = λ old known. (old, known, inl (refl, refl))
  unmade_still a step m told is = absurd is

  files_fit : Fitting of_files C state (beside_files S) Allowed
  files_fit = record {
    step = λ e given old new m runs fits right step.
        let so = given_by e given old new m fits e.step right step in
        let made : FileStep S (record { event = e; bytes = given }) (state old) (state new) = record { asked = so.0; given = so.1; made = step } in
        let one = refined C state among (record { event = e; bytes = given }) old new m distinct runs fits so.2 made in
        (one.0, (one.1.0, one.1.1, keeps e given old new m fits one.0 made, one.2.0, (one.1.2, content_stands one.0 (state new) one.1.1)));
    here = here_found;
    runs = λ m c fits none. runs_so m c fits none;
    stops = λ m c stop fits is. stops_so m c fits stop is;
    kinds = λ m c fits a. file_parts m.parts fits.roots.parts fits.forgets.parts a ∙ part_kinds fits.roots.parts c.parts fits.machine.parts a;
    opened = λ a old new m fits opens runs.
        let one = files_opened C view C state among a old new m distinct (disk_stands S m (state old) fits).content opens runs in (
          one.0,
          (
            one.1.0,
            one.1.1,
            leaves_weaker (λ image. (state old).disk.images image ⊎ IsOfFound S m image) (λ image. IsOfFound S m image ⊎ IsOfFound S one.0 image)
                (state old).disk (state new).disk (λ image left. elim left [ inl there ↦ inl (here_found m (state old) fits image there) | inr found ↦ inl found ]) one.1.2,
            (one.1.3, content_stands one.0 (state new) one.1.1),
            tt,
          ),
        );
    longer = λ m first old new last before between after is. tt;
    unopened = λ a refusal old new m fits none leaves.
        let one = files_reopened_not C state among a refusal old new m distinct fits none leaves in (
          one.0,
          (
            one.1.0,
            one.1.1,
            λ b k own. owns_still refusal (state old) (state new) m one.0 b k leaves own,
            leaves_weaker (IsOfFound S m) (λ image. IsOfFound S m image ⊎ IsOfFound S one.0 image) (state old).disk (state new).disk (λ image found. inl found) one.1.2,
            (one.1.3, content_stands one.0 (state new) one.1.1),
          ),
        );
    unmade = λ a step m c fits is. (unmade_still a step m c.disk.content is, content_stands m c fits);
  }

  abbrev files_fitted : Fitted
  files_fitted = record {
    V = List ℕ;
    R = List (List ℕ);
    v = of_files;
    C = C;
    state = state;
    beside = beside_files S;
    Allowed = Allowed;
    fitting = files_fit;
  }

-- ---- lines

module _ (C : Type 0) (state : C → CoreState) where
  pub lines_are_file_runs : LinesAreFileRuns C state
  lines_are_file_runs among one r s d distinct actor cut at runs =
      line_runs (files_fitted C state among distinct) r s d at (λ a t there bytes is. cut bytes (a, (t, (there, is)))) one.line one.reply actor runs

  -- what is cut on the way is as it is to be
  cut_allowed : (among : ByteSet) (distinct : HasNoCollisions (IsIn among)) (rs : List Replied) (d : FileDesk) → ((bytes : List ℕ) → IsCutBy rs d bytes → IsIn among bytes)
      → AllowedBy (files_fitted C state among distinct) rs d
  cut_allowed among distinct [] d cut = tt
  cut_allowed among distinct (one ∷ more) d cut = (
    λ a t there bytes is. cut bytes (inl (a, (t, (there, is)))),
    λ steps mid line. cut_allowed among distinct more mid (λ bytes is. cut bytes (inr (steps, (mid, (line, is))))),
  )

  pub scripts_are_file_runs : ScriptsAreFileRuns C state
  scripts_are_file_runs among rs r s d distinct actors cut at run =
      script_runs (files_fitted C state among distinct) rs r s d actors (cut_allowed among distinct rs d cut) at run

  pub begins_at_file_desk : BeginsAtFileDesk C state
  begins_at_file_desk among m r runs fits parts sessions = record {
    runs = runs;
    fits = fits;
    same = subst (SameSessions (λ b k. OwnsKept b k m (state r.core)) (replicate ACTORS None)) (sym sessions) (none_same (λ b k. OwnsKept b k m (state r.core)) ACTORS);
    many = ap length sessions ∙ length-replicate {A = Option SessionState} ACTORS None;
    give = idle_give r.sessions (state r.core).parts parts;
  }

pub opened_is_at_desk : (D : Type 0) (view : D → DiskView) (C : Type 0) (state : C → CoreState) → OpenedIsAtDesk D view C state
opened_is_at_desk D view C state among actor before m r distinct stands opens sessions =
    let runs = opened_runs D view (view before) (state r.core) opens in
    let one = files_opened D view C state among actor before r.core m distinct stands opens runs in (
      one.0,
      (
        one.1.0,
        begins_at_file_desk C state among one.0 r runs one.1.1 (opened_parts D view (view before) (state r.core) opens) sessions,
        one.1.2,
        (one.1.3, (disk_stands (IsIn among) one.0 (state r.core) one.1.1).content),
      ),
    )
