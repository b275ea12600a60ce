-- What reads of files add to the steps of the machine of roots, and that each actor that reads a file reads it still after a step.
use Rattle.core_machine.proofs.Prelude.{◌≡◌, ◌<◌, ℕ, zero, suc, List, [], ◌∷◌, length, Option, Some, Result, Ok, Err, refl, sym, ◌∙◌, ap, subst, Reader, Answer, StepValue, apart, Root, Top, Refusal, SegmentsAhead, ByteSet, IsIn, ReadRow, Row, Steps, FileEvent, IsAt, IsHarmless, MayClash, CoreState, running_step, never_damaged, FileMachine, Reading, part_in, Adds, AddsToAnswer, RootMachine, FilePart, ReadsFiles, stored_in, answered_by}
use Rattle.std.proofs.Common.{slice_index_or}
use Rattle.std.specs.Prelude.{IfErr}
use Rattle.actor_parts.specs.declared.part.Part as core_part
use Rattle.actor_parts.specs.declared.part.Part.TheVariants as core
use Rattle.actor_parts.specs.declared.step.Answer.TheVariants as answers
use Rattle.actor_parts.specs.Parts.{part_of}
use Rattle.actor_parts.specs.StepValue as steps
use Rattle.refusals.specs.declared.refusal.Refusal.TheVariants as refusals
use Rattle.read_steps.specs.Readers as readers
use Rattle.store_core.specs.Core.{GivesHeld}
use Rattle.store_core.proofs.RootsKept.{within_parts}
use Rattle.store_machine.specs.Asked as asked
use Rattle.store_machine.specs.Forgetting as forgetting
use Rattle.store_machine.specs.Machine.{Idle, Writing}
use Rattle.store_machine.proofs.Parts.{RootPart}
use Rattle.core_machine.specs.Files.{Takes, file_step}
use Rattle.core_machine.specs.Refines as refines
use Rattle.core_machine.proofs.Coming.{ahead_at, indexed_at, takes_at, whole_at}
use Rattle.core_machine.proofs.FileNeeds.{AllFit, PartsFit, all_fit}
use Rattle.core_machine.proofs.FileParts.{fit_at}
use Rattle.core_machine.proofs.FileSteps.{StepsAt}

-- ---- an actor that reads

-- Its part in a machine of roots is that of the core.
root_part : (q : RootPart) (p : core_part.Part) (root : Root) (ahead : List Top) → refines.SamePart q p → p ≡ readers.reading root ahead → q ≡ Reading root ahead
root_part Idle core.Idle root ahead same is = absurd cc
root_part Idle (core.Writing pins) root ahead same is = absurd same
root_part Idle (core.Reading reader) root ahead same is = absurd same
root_part (Writing pins) core.Idle root ahead same is = absurd same
root_part (Writing pins) (core.Writing others) root ahead same is = absurd cc
root_part (Writing pins) (core.Reading reader) root ahead same is = absurd same
root_part (Reading own tops) core.Idle root ahead same is = absurd same
root_part (Reading own tops) (core.Writing pins) root ahead same is = absurd same
root_part (Reading own tops) (core.Reading reader) root ahead same is =
    let one : own ≡ root = sym same.0 ∙ (let inner : reader.root ≡ root = ap root_in is in inner) in
    let other : tops ≡ ahead = sym same.1 ∙ ap ahead_in is in
    ap (λ (x : Root). Reading x tops) one ∙ ap (Reading root) other
  where
    root_in : core_part.Part → Root
    root_in (core.Reading r) = r.root
    root_in part = reader.root

    ahead_in : core_part.Part → List Top
    ahead_in (core.Reading r) = r.cursor
    ahead_in part = reader.cursor

roots_at : (qs : List RootPart) (ps : List core_part.Part) (i : ℕ) → refines.SameParts qs ps → refines.SamePart (slice_index_or qs i Idle) (part_of ps i)
unfolding part_of
roots_at [] [] i same = tt
roots_at [] (p ∷ ps) i same = absurd same
roots_at (q ∷ qs) [] i same = absurd same
roots_at (q ∷ qs) (p ∷ ps) zero same = same.0
roots_at (q ∷ qs) (p ∷ ps) (suc i) same = roots_at qs ps i same.1

-- in the core it reads, so it does in the machine of files
file_part : (p : FilePart) (q : core_part.Part) (reader : Reader) → PartsFit p q → q ≡ core.Reading reader → (file : List ℕ) × ((rest : List (List ℕ)) × (p ≡ Reading file rest))
file_part Idle core.Idle reader fit is = absurd cc
file_part (Writing pins) (core.Writing others) reader fit is = absurd cc
file_part (Reading file rest) q reader fit is = (file, (rest, refl))
file_part other it reader fit is = absurd fit

-- What a core has of an actor that reads a file.
pub record ReadsAt (m : FileMachine) (c : CoreState) (actor : ℕ) (root : Root) (cursor : List Top) : Type 0 where
  pub file : List ℕ
  pub rest : List (List ℕ)
  pub reading : part_in m actor ≡ Reading file rest
  pub takes : Takes file rest (record { root = root; cursor = cursor }) c

pub reads_at : (m : FileMachine) (c : CoreState) → AllFit m.parts c.parts → ReadsFiles m c → (actor : ℕ) (root : Root) (cursor : List Top)
    → part_of c.parts actor ≡ readers.reading root cursor
    → ReadsAt m c actor root cursor
reads_at m c fit reads actor root cursor is =
    let reader : Reader = record { root = root; cursor = cursor } in
    let file = file_part (part_in m actor) (part_of c.parts actor) reader (fit_at m.parts c.parts actor fit) is in
    record { file = file.0; rest = file.1.0; reading = file.1.1; takes = reads actor file.0 file.1.0 reader file.1.1 is }

-- ---- what is answered of it

module _ (S : List ℕ → Type 0) (m : FileMachine) (old new : CoreState) (at : IsAt S m.store (stored_in m.now) old) (fit : AllFit m.parts old.parts) (reads : ReadsFiles m old) where
  abbrev image : List ℕ
  image = at.stands.known.0

  abbrev here : old.disk.content ≡ Some image
  here = at.stands.known.1

  -- it reads a file, of which this is given or is to come still
  pub record Answered (answer : Result (Option ℕ) Refusal) (buf : List ℕ) (actor : ℕ) : Type 0 where
    pub root : Root
    pub cursor : List Top
    pub was : part_of old.parts actor ≡ readers.reading root cursor
    pub own : ReadsAt m old actor root cursor
    pub held : readers.GivesHeld own.takes.counts m.store.held image (readers.GoesOn actor old.parts new.parts cursor) own.rest buf answer

  pub answered : (answer : Result (Option ℕ) Refusal) (buf : List ℕ) (actor : ℕ) (root : Root) (cursor : List Top) → part_of old.parts actor ≡ readers.reading root cursor
      → GivesHeld answer buf actor old new
      → Answered answer buf actor
  answered answer buf actor root cursor is gives =
      let one = reads_at m old fit reads actor root cursor is in
      let reader : Reader = record { root = root; cursor = cursor } in
      record {
        root = root;
        cursor = cursor;
        was = is;
        own = one;
        held = gives root cursor one.takes.counts m.store.held image one.rest is
            (indexed_at S m.store (stored_in m.now) old at image here one.takes.counts (one.takes.indexed at.index at.index_known))
            (ahead_at S m.store (stored_in m.now) old at image here one.file one.rest reader one.takes);
      }

  -- it goes on in the core with what is to come of the file
  pub moved : (answer : Result (Option ℕ) Refusal) (buf : List ℕ) (actor : ℕ) (is : Answered answer buf actor) (rest : List (List ℕ))
      → SegmentsAhead is.own.takes.counts m.store.held image is.held.rest rest → Takes is.own.file rest (record { root = is.root; cursor = is.held.rest }) old
  moved answer buf actor is rest ahead =
      let reader : Reader = record { root = is.root; cursor = is.cursor } in
      takes_at S m.store (stored_in m.now) old at image here is.own.takes.counts (is.own.takes.indexed at.index at.index_known) is.own.file rest
      (record { root = is.root; cursor = is.held.rest })
      is.own.takes.fits is.own.takes.root_is (whole_at S m.store (stored_in m.now) old at image here is.own.file is.own.rest reader is.own.takes) ahead

  -- so the core has it at this
  pub now_at : (answer : Result (Option ℕ) Refusal) (buf : List ℕ) (actor : ℕ) (is : Answered answer buf actor) → part_of new.parts actor ≡ readers.reading is.root is.held.rest
  now_at answer buf actor is =
      let within : actor < length old.parts = within_parts old.parts actor (λ idle. let wrong : core.Idle ≡ readers.reading is.root is.cursor = sym idle ∙ is.was in cc) in
      let root : is.held.goes_on.root ≡ is.root = ap (λ (r : Reader). r.root) (same_reader _ _ (sym is.held.goes_on.part_is ∙ is.was)) in
      ap (λ (parts : List core_part.Part). part_of parts actor) is.held.goes_on.parts_are ∙ apart.same old.parts actor (readers.reading is.held.goes_on.root is.held.rest) within
      ∙ ap (λ (r : Root). readers.reading r is.held.rest) root
    where
      same_reader : (x y : Reader) → core.Reading x ≡ core.Reading y → x ≡ y
      same_reader x y same = cc

-- ---- what it adds

module _ {C : Type 0} {state : C → CoreState} {among : ByteSet} {f : FileEvent} {old new : C} {m : FileMachine} {r t : RootMachine} (at : StepsAt C state among f old new m r t)
  where
    abbrev a : ℕ
    a = f.event.actor

    abbrev buf : List ℕ
    buf = f.event.buf

    abbrev begins : IsAt (IsIn among) m.store (stored_in m.now) (state old)
    begins = at.at.is_at

    pub fit : AllFit m.parts (state old).parts
    fit = all_fit m.parts r.parts (state old).parts at.forgets.parts at.machine.parts

    abbrev Said : Result (Option ℕ) Refusal → Type 0
    Said answer = Answered (IsIn among) m (state old) (state new) begins fit at.at.reads answer buf a

    pub said : (answer : Result (Option ℕ) Refusal) (root : Root) (cursor : List Top) → part_of (state old).parts a ≡ readers.reading root cursor
        → GivesHeld answer buf a (state old) (state new) → Said answer
    said answer root cursor is gives = answered (IsIn among) m (state old) (state new) begins fit at.at.reads answer buf a root cursor is gives

    -- in the machine of roots the same trees are to come
    same_part : (answer : Result (Option ℕ) Refusal) (is : Said answer) (rest : List (List ℕ))
        → SegmentsAhead is.own.takes.counts m.store.held begins.stands.known.0 is.held.rest rest
        → forgetting.SamePart (Reading is.own.file rest) (part_in t a)
    same_part answer is rest ahead =
        let now = root_part (part_in t a) (part_of (state new).parts a) is.root is.held.rest (roots_at t.parts (state new).parts a at.then.parts)
        (now_at (IsIn among) m (state old) (state new) begins fit at.at.reads answer buf a is) in
        subst (forgetting.SamePart (Reading is.own.file rest)) (sym now)
        (is.own.takes.root_is, record { trees = ahead.trees; ahead = ahead.held_ahead.trees; segments = ahead.segments_are })

    harmless : (refusal : Refusal) → f.event.answer ≡ Err refusal → IsHarmless (MayClash f.event.step) refusal
    harmless refusal is =
        subst (λ (answer : Result Answer Refusal). IfErr answer (λ x. IsHarmless (MayClash f.event.step) x)) is
        (never_damaged among f m.store (stored_in m.now) (state old) (state new) at.apart begins at.step)

    abbrev Added : Result Answer Refusal → Type 0
    Added answer = AddsToAnswer a asked.ReadNext (answered_by answer buf) m t

    by_answer : (answer : Result Answer Refusal) → f.event.answer ≡ answer → ReadRow a answer buf (state old) (state new) → Added answer
    by_answer (Ok (answers.Bytes count)) is row =
        let one = said (Ok (Some count)) row.next.goes_on.root row.next.was row.next.goes_on.part_is row.held in
        let others = one.held.given.others in
        (one.own.file, others, one.own.reading ∙ ap (Reading one.own.file) one.held.given.segments_are, same_part (Ok (Some count)) one others one.held.given.ahead)
    by_answer (Ok answers.End) is row = tt
    by_answer (Ok answer) is row = absurd row
    by_answer (Err refusals.DiskRead) is row =
        let one = said (Err refusals.DiskRead) row.cause.goes_on.root row.cause.was row.cause.goes_on.part_is row.held in
        subst (λ (p : FilePart). forgetting.SamePart p (part_in t a)) (sym one.own.reading) (same_part (Err refusals.DiskRead) one one.own.rest one.held.given)
    by_answer (Err (refusals.Corrupt slot offset count want got)) is row = harmless (refusals.Corrupt slot offset count want got) is
    by_answer (Err (refusals.Missing key)) is row = harmless (refusals.Missing key) is
    by_answer (Err (refusals.Damaged place why)) is row = harmless (refusals.Damaged place why) is
    by_answer (Err refusal) is row = tt

    made : Steps f.event (state old) (state new)
    made = running_step (state old) (state new) f.event at.goes at.step.made

    -- A read adds that the bytes come next of the file, that what is to come stays where the disk failed, and that no damage is met.
    pub reads_add : f.event.step ≡ steps.ReadNext → Adds (file_step f) m r t
    reads_add step =
        subst (λ (s : StepValue). Adds (record { actor = a; asked = refines.asked_as (λ root. f.bytes) s; answer = answered_by f.event.answer buf }) m r t) (sym step)
        (by_answer f.event.answer refl (subst (λ (s : StepValue). Row s a f.event.answer buf (state old) (state new)) step made.made.row))
