-- That no slot is free for a step, or no number, an image shows that a crash might have left: of the disk as the step came or, of the greatest
-- id, as a container got it.
use Rattle.std.proofs.Common.{◌≡◌, inl, inr, ◌≤◌, ◌<◌, ℕ, List, [], ◌∷◌, Result, Ok, Err, IfErr, refl, sym, ap, ◌∙◌, subst, arith}
use Rattle.std.specs.List.{AllByRecursion}
use Rattle.dd_disk.specs.View.{DiskView, IsLater}
use Rattle.dd_disk.proofs.Later.{later_on}
use Rattle.disk_format.specs.declared.numbers.TheConstants.{LAST_ID}
use Rattle.actor_parts.specs.declared.actor.TheConstants.{ACTORS}
use Rattle.actor_parts.specs.declared.step.Answer.{Answer}
use Rattle.actor_parts.specs.StepValue.{IsStep}
use Rattle.load_stream.specs.Load.{LoadState}
use Rattle.refusals.specs.declared.refusal.Refusal.{Refusal}
use Rattle.refusals.specs.declared.refusal.Refusal.TheVariants as refusals
use Rattle.store_model.specs.Collisions.{ByteSet, HasNoCollisions, IsIn}
use Rattle.store_model.specs.Image.{Store, last_sequence}
use Rattle.store_model.specs.Slots.{last_id}
use Rattle.store_core.specs.Runs.{CoreRun, RunsOn, events_of}
use Rattle.store_core.specs.State.{CoreState, Event, IsRunning}
use Rattle.store_core.proofs.CoreRuns.{run_later}
use Rattle.store_machine.specs.Asked.{Asked}
use Rattle.store_machine.specs.Asked as asked
use Rattle.store_machine.specs.ByMap.{FileMachine}
use Rattle.store_machine.specs.Legal.{Answers, LacksNumbers, Refuses, RefusesOn}
use Rattle.store_machine.specs.Machine.{RunState, Running}
use Rattle.store_machine.specs.Values.{StaysAt, of_files}
use Rattle.core_machine.specs.Bytes.{OfStore}
use Rattle.core_machine.specs.Files.{FilesRefine, FitsBy, IsAtFiles, IsFileMachine, stored_in}
use Rattle.core_machine.specs.Refines.{answered_by}
use Rattle.ingest_workers.specs.Owing.{AreAllOwed, OwedRunsAreRight}
use Rattle.shared_work.specs.Completing.{IsAtLast, IsFull, ShownSince}
use Rattle.shared_work.specs.Streams.{HasAllSegments}
use Rattle.shared_work.proofs.CompleteLeaves.{LeavesLast, ask, step_leaves}
use Rattle.shared_work.proofs.EachStep.{Goes, each_step, steps_run}

-- ---- what refusals show

-- of the two that an image shows, the image
abbrev pub IsShown : DiskView → DiskView → Refusal → Type 0
IsShown first last (refusals.Full free) = ShownSince first last (IsFull free)
IsShown first last refusals.Numbers = ShownSince first last (λ image. OfStore image IsAtLast)
IsShown first last refusal = Unit {0}

-- what was shown is shown later
shown_later : (first mid last : DiskView) (P : List ℕ → Type 0) → first.clock ≤ mid.clock → IsLater mid last → ShownSince first mid P → ShownSince first last P
shown_later first mid last P le later (image, (since, is)) = (image, (later.images_were first.clock image le since, is))

refusal_later : (first mid last : DiskView) (refusal : Refusal) → first.clock ≤ mid.clock → IsLater mid last → IsShown first mid refusal → IsShown first last refusal
refusal_later first mid last (refusals.Full free) le later is = shown_later first mid last (IsFull free) le later is
refusal_later first mid last refusals.Numbers le later is = shown_later first mid last (λ image. OfStore image IsAtLast) le later is
refusal_later first mid last refusal le later is = tt

-- ---- a store that the disk tells

module _ (first : DiskView) (S : List ℕ → Type 0) (m : FileMachine) (c : CoreState) (le : first.clock ≤ c.disk.clock) (machine : IsFileMachine S m c)
    (at : IsAtFiles S m c) where
  abbrev disk : DiskView
  disk = c.disk

  -- it is the machine's
  shows_store : (P : Store → Type 0) → P m.store → ShownSince first disk (λ image. OfStore image P)
  shows_store P is =
      let content : List ℕ = at.is_at.stands.known.0 in
      let image_is = disk.as_read content at.is_at.stands.known.1 in
      (content, (disk.counts_now first.clock content le image_is, (m.store, ((at.is_at.stands.each content image_is).holds.right, is))))

  sequence_is : m.now.last ≡ last_sequence m.store
  sequence_is = sym machine.forgets.now.last_is ∙ machine.machine.last ∙ ap last_sequence machine.forgets.store

  -- the greatest id is that of a container of an image that was there
  abbrev pub LastShown : Type 0
  LastShown = ShownSince first disk (λ image. OfStore image (λ store. last_id store.held ≡ m.last_id))

  module _ (last : LastShown) (a : ℕ) (n : FileMachine) where
    id_shown : LAST_ID ≤ m.last_id → ShownSince first disk (λ image. OfStore image IsAtLast)
    id_shown high = (last.0, (last.1.0, (last.1.1.0, (last.1.1.1.0, inl (omega (arith, high, last.1.1.1.1))))))

    lacks_shown : LacksNumbers of_files m → ShownSince first disk (λ image. OfStore image IsAtLast)
    lacks_shown (inl sequence) = shows_store IsAtLast (inr (inl (sym sequence_is ∙ sequence)))
    lacks_shown (inr generation) = shows_store IsAtLast (inr (inr generation))

    read_full : (rest after : List (List ℕ)) (free : ℕ) → StaysAt rest (refusals.Full free) after → ⊥
    read_full [] after free is = is
    read_full (bytes ∷ rest) after free is = is

    read_numbers : (rest after : List (List ℕ)) → StaysAt rest refusals.Numbers after → ⊥
    read_numbers [] after is = is
    read_numbers (bytes ∷ rest) after is = is

    full_shown : (step : Asked (List ℕ)) (free : ℕ) → RefusesOn of_files a step (refusals.Full free) m n → ShownSince first disk (IsFull free)
    full_shown (asked.Seal offered) free (keeps, is, few, others) = shows_store _ (is, few)
    full_shown asked.ReadNext free (value, rest, after, was, stays, others) = absurd (read_full rest after free stays)
    full_shown step free is = absurd is

    numbers_shown : (step : Asked (List ℕ)) → RefusesOn of_files a step refusals.Numbers m n → ShownSince first disk (λ image. OfStore image IsAtLast)
    numbers_shown (asked.Seal offered) (slot, high, others) = id_shown high
    numbers_shown (asked.Commit name value) (may, none, others) = lacks_shown none
    numbers_shown (asked.Delete name) (named, there, none, others) = lacks_shown none
    numbers_shown asked.GcStep (is, high, others) = id_shown high
    numbers_shown asked.ReadNext (value, rest, after, was, stays, others) = absurd (read_numbers rest after stays)
    numbers_shown step is = absurd is

    refused_shown : (step : Asked (List ℕ)) (refusal : Refusal) → Refuses of_files a step refusal m n → IsShown first disk refusal
    refused_shown step (refusals.Full free) (right, is) = full_shown step free is
    refused_shown step refusals.Numbers (right, is) = numbers_shown step is
    refused_shown step refusal is = tt

-- ---- all steps

module _ {C : Type 0} (state : C → CoreState) (refine : FilesRefine C state) (runs_on : RunsOn C state) where
  at_files : (S : List ℕ → Type 0) (m : FileMachine) (c : C) → IsFileMachine S m (state c) → m.state ≡ Running → IsAtFiles S m (state c)
  at_files S m c machine going = subst (λ (s : RunState (List ℕ)). FitsBy s S m (state c)) going machine.fits

  module _ (among : ByteSet) (own : ℕ → List LoadState) (es : List Event) (old new : C) where
    abbrev S : List ℕ → Type 0
    S = IsIn among

    abbrev first : DiskView
    first = (state old).disk

    -- the disk is that of before, or later; and an image since then has the greatest id
    abbrev Holds : List Event → List Event → FileMachine → C → Type 0
    Holds before rest m c = (first.clock ≤ (state c).disk.clock)
        × ShownSince first (state c).disk (λ image. OfStore image (λ store. last_id store.held ≡ m.last_id))

    goes : Goes state own S es new (λ e. IfErr e.answer (IsShown first (state new).disk)) Holds
    goes before f fs m n c d moment (le, last) =
        let one : IsLater (state c).disk (state d).disk = run_later C state (f.event ∷ []) c d (d, (moment.made.made, refl)) in
        let more : IsLater (state d).disk (state new).disk = run_later C state (events_of fs) d new (steps_run state S fs d new moment.rest) in
        let le_next : first.clock ≤ (state d).disk.clock = omega (arith, le, one.clock_is) in (
          here f.event.answer moment.answers (later_on (state c).disk (state d).disk (state new).disk one more),
          (le_next, kept one le_next (step_leaves f.event.actor m n f.bytes f.event.buf f.event.step f.event.answer moment.answers).last),
        )
      where
        at : IsAtFiles S m (state c)
        at = at_files S m c moment.machine moment.going

        here : (answer : Result Answer Refusal) → Answers of_files f.event.actor (ask f.bytes f.event.step) (answered_by answer f.event.buf) m n
            → IsLater (state c).disk (state new).disk → IfErr answer (IsShown first (state new).disk)
        here (Ok answer) is later = tt
        here (Err refusal) is later = refusal_later first (state c).disk (state new).disk refusal le later
            (refused_shown first S m (state c) le moment.machine at last f.event.actor n (ask f.bytes f.event.step) refusal is)

        LastIs : DiskView → ℕ → Type 0
        LastIs disk id = ShownSince first disk (λ image. OfStore image (λ store. last_id store.held ≡ id))

        kept : IsLater (state c).disk (state d).disk → first.clock ≤ (state d).disk.clock → LeavesLast m n → LastIs (state d).disk n.last_id
        kept one le_next (inl same) = subst (LastIs (state d).disk) (sym same) (shown_later first (state c).disk (state d).disk _ le one last)
        kept one le_next (inr (runs, is)) = shows_store first S n (state d) le_next moment.after (at_files S n d moment.after (runs ∙ moment.going))
            (λ store. last_id store.held ≡ n.last_id) (sym is)

  -- A step is refused by one of the two only where an image shows it.
  pub each_shown : OwedRunsAreRight C state → (among : ByteSet) (own : ℕ → List LoadState) (es : List Event) (m : FileMachine) (old new : C) → HasNoCollisions (IsIn among)
      → HasAllSegments own (IsIn among) → IsRunning (state old) → IsFileMachine (IsIn among) m (state old) → m.state ≡ Running
      → AllByRecursion (λ e. IsStep e.step × (e.actor < ACTORS)) es → CoreRun C state es old new → AreAllOwed own es → m.last_id ≡ last_id m.store.held
      → AllByRecursion (λ e. IfErr e.answer (IsShown (state old).disk (state new).disk)) es
  each_shown rightly among own es m old new distinct segments up machine going each run owed last =
      let at = at_files (IsIn among) m old machine going in
      let right = rightly among own es m.store (stored_in m.now) old new distinct segments at.is_at at.settled each run owed in
      subst (AllByRecursion Told) right.events_are
      (each_step state refine runs_on among distinct own es new Told
      (λ e. (
        λ answer told. subst (λ (r : Result Answer Refusal). IfErr r (IsShown (state old).disk (state new).disk)) (sym told) tt,
        λ stopped. subst (λ (r : Result Answer Refusal). IfErr r (IsShown (state old).disk (state new).disk)) (sym stopped.1) tt,
      ))
      (Holds among own es old new) (goes among own es old new) [] right.files m old (sym right.events_are) up machine going right.of_streams right.run
      (omega arith, shows_store (state old).disk (IsIn among) m (state old) (omega arith) machine at (λ store. last_id store.held ≡ m.last_id) (sym last)))
    where
      Told : Event → Type 0
      Told e = IfErr e.answer (IsShown (state old).disk (state new).disk)
