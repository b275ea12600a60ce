-- Each actor that reads a file reads it still after a step that didn't stop the core: its tree is held, and what is to come of it.
use Rattle.core_machine.proofs.Prelude.{◌≡◌, ◌≢◌, inl, inr, ◌<◌, ℕ, zero, suc, List, [], ◌∷◌, length, slice_set, take, Option, Some, None, Result, Ok, Err, refl, sym, ◌∙◌, ap, subst, arith, Reader, Answer, StepValue, apart, Refusal, ByteSet, IsIn, key_set, tree_keys, file_tree, contained, in_set, FitsFile, files_fit, OpenRow, ReadRow, Row, Steps, FileEvent, IsAt, IsNoGcStep, changes_by, stored_by, CoreState, running_step, Leads, FileMachine, Answers, Reading, part_in, RootMachine, StaysAt, of_files, FilePart, ReadsFiles, stored_in, answered_by, asked_as}
use Rattle.std.proofs.Common.{slice_index_or}
use Rattle.std.proofs.lemmas.Bool.{cases_eq}
use Rattle.actor_parts.specs.declared.part.Part as core_part
use Rattle.actor_parts.specs.declared.part.Part.TheVariants as core
use Rattle.actor_parts.specs.declared.step.Answer.TheVariants as answers
use Rattle.actor_parts.specs.Parts.{part_of, with_part}
use Rattle.actor_parts.specs.StepValue as steps
use Rattle.refusals.specs.declared.refusal.Refusal.TheVariants as refusals
use Rattle.read_steps.specs.Readers as readers
use Rattle.segmenter.specs.Segments.{segments_of}
use Rattle.store_model.specs.Standing.{IsStoreOf}
use Rattle.store_core.proofs.AnySteps.{any_step}
use Rattle.store_core.proofs.KeepingFiles.{file_step as next_on}
use Rattle.store_core.proofs.Leading.{IsSpared}
use Rattle.store_core.proofs.RootsKept.{within_parts}
use Rattle.store_machine.specs.Machine.{Idle}
use Rattle.store_machine.proofs.Parts.{put_told}
use Rattle.core_machine.specs.Files.{Takes}
use Rattle.core_machine.proofs.CollectTakes.{takes_still}
use Rattle.core_machine.proofs.Coming.{takes_at, takes_on}
use Rattle.core_machine.proofs.CollectNeeds.{needs_here}
use Rattle.core_machine.proofs.FileKept.{answers_by}
use Rattle.core_machine.proofs.FileParts.{many_same}
use Rattle.core_machine.proofs.FileReads.{Answered, fit, moved, now_at, said}
use Rattle.core_machine.proofs.FileSteps.{StepsAt, StepsTo}
use Rattle.core_machine.proofs.ReadersKept.{IsElse, core_kept, file_kept, parts_as}
use Rattle.core_machine.proofs.RefusedSteps.{refused_left}

-- ---- parts of the machine

set_here : (ps : List FilePart) (a : ℕ) (p : FilePart) → a < length ps → slice_index_or (slice_set ps a p) a Idle ≡ p
set_here [] a p within = absurd (omega (arith, within))
set_here (q ∷ ps) zero p within = refl
set_here (q ∷ ps) (suc a) p within = set_here ps a p (omega (arith, within))

set_other : (ps : List FilePart) (a x : ℕ) (p : FilePart) → x ≢ a → slice_index_or (slice_set ps a p) x Idle ≡ slice_index_or ps x Idle
set_other [] a x p differ = refl
set_other (q ∷ ps) zero zero p differ = absurd (differ refl)
set_other (q ∷ ps) zero (suc x) p differ = refl
set_other (q ∷ ps) (suc a) zero p differ = refl
set_other (q ∷ ps) (suc a) (suc x) p differ = set_other ps a x p (λ same. differ (ap suc same))

-- what is read is one thing
one_file : (f g : List ℕ) (xs ys : List (List ℕ)) (p : FilePart) → p ≡ Reading f xs → p ≡ Reading g ys → (f ≡ g) × (xs ≡ ys)
one_file f g xs ys p one other = let both : Reading f xs ≡ Reading g ys = sym one ∙ other in (cc, cc)

one_reader : (x y : Reader) (q : core_part.Part) → q ≡ core.Reading x → q ≡ core.Reading y → x ≡ y
one_reader x y q one other = let both : core.Reading x ≡ core.Reading y = sym one ∙ other in cc

rest_same : (a b : List ℕ) (xs ys : List (List ℕ)) → a ∷ xs ≡ b ∷ ys → xs ≡ ys
rest_same a b xs ys same = cc

-- what stays to come where a read was refused is all of it, and the disk failed
stays_all : (rest : List (List ℕ)) (after : List (List ℕ)) → StaysAt rest refusals.DiskRead after → after ≡ rest
stays_all [] after is = absurd is
stays_all (bytes ∷ rest) after is = is

stays_none : (rest : List (List ℕ)) (refusal : Refusal) (after : List (List ℕ)) → (refusal ≡ refusals.DiskRead → ⊥) → StaysAt rest refusal after → ⊥
stays_none [] refusal after other is = is
stays_none (bytes ∷ rest) refusals.DiskRead after other is = other refl
stays_none (bytes ∷ rest) refusal after other is = is

-- ---- a step

module _ {C : Type 0} {state : C → CoreState} {among : ByteSet} {f : FileEvent} {old new : C} {m n : FileMachine} {r t : RootMachine}
    (to : StepsTo C state among f old new m n r t) (stays : (state new).stop ≡ None) where
  abbrev at : StepsAt C state among f old new m r t
  at = to.steps

  abbrev begins : IsAt (IsIn among) m.store (stored_in m.now) (state old)
  begins = at.at.is_at

  abbrev image : List ℕ
  image = begins.stands.known.0

  abbrev here : (state old).disk.content ≡ Some image
  here = begins.stands.known.1

  abbrev a : ℕ
  a = f.event.actor

  abbrev buf : List ℕ
  buf = f.event.buf

  abbrev AnswersOf : StepValue → Result Answer Refusal → Type 0
  AnswersOf step answer = Answers of_files a (asked_as (λ root. f.bytes) step) (answered_by answer buf) m n

  made : Steps f.event (state old) (state new)
  made = running_step (state old) (state new) f.event at.goes at.step.made

  answered_so : AnswersOf f.event.step f.event.answer
  answered_so = answers_by m n a f.bytes buf m.store at.runs f.event.step (answered_by f.event.answer buf) to.legal

  -- what was read before goes on
  taken_on : IsNoGcStep f.event.step → (file : List ℕ) (rest : List (List ℕ)) (reader : Reader) → Takes file rest reader (state old) → Takes file rest reader (state new)
  taken_on other =
      takes_on (IsIn among) m.store (changes_by f.event.step f.event.answer) (stored_in m.now) (stored_by f (stored_in m.now)) (state old) (state new) begins
      (next_on among at.apart f m.store (stored_in m.now) (state old) (state new) other at.step begins stays)

  module _ (x : ℕ) (file : List ℕ) (rest : List (List ℕ)) (reader : Reader) (reads : part_in n x ≡ Reading file rest)
      (core_reads : part_of (state new).parts x ≡ core.Reading reader) where
    abbrev Taken : Type 0
    Taken = Takes file rest reader (state old)

    -- both have it as it was
    same_parts : n.parts ≡ m.parts → (state new).parts ≡ (state old).parts → Taken
    same_parts machine cores =
        at.at.reads x file rest reader (subst (λ (ps : List FilePart). slice_index_or ps x Idle ≡ Reading file rest) machine reads)
        (subst (λ (ps : List core_part.Part). part_of ps x ≡ core.Reading reader) cores core_reads)

    -- so they have the parts of others than the one that is put at something
    other_parts : (p : FilePart) (q : core_part.Part) → x ≢ a → n.parts ≡ slice_set m.parts a p → (state new).parts ≡ with_part (state old).parts a q → Taken
    other_parts p q differ machine cores =
        at.at.reads x file rest reader (sym (set_other m.parts a x p differ) ∙ subst (λ (ps : List FilePart). slice_index_or ps x Idle ≡ Reading file rest) machine reads)
        (sym (apart.others (state old).parts a x q differ) ∙ subst (λ (ps : List core_part.Part). part_of ps x ≡ core.Reading reader) cores core_reads)

    as_taken : (g : List ℕ) (ys : List (List ℕ)) (other : Reader) → g ≡ file → ys ≡ rest → other ≡ reader → Takes g ys other (state old) → Taken
    as_taken g ys other one two three takes =
        subst (λ (h : List ℕ). Takes h rest reader (state old)) one (subst (λ (zs : List (List ℕ)). Takes g zs reader (state old)) two
        (subst (λ (z : Reader). Takes g ys z (state old)) three takes))

    -- neither opened nor read on
    else_taken : IsElse f.event.step → Taken
    else_taken other =
        at.at.reads x file rest reader (file_kept m n a f.bytes buf x file rest reads f.event.step f.event.answer other answered_so)
        (core_kept (state old) (state new) a buf x reader core_reads f.event.step f.event.answer other made.made.row)

    -- ---- read on

    -- it is the one that reads on, and this is to come then
    own_read : (answer : Result (Option ℕ) Refusal) (one : Answered (IsIn among) m (state old) (state new) begins (fit at) at.at.reads answer buf a) (value : List ℕ)
        (left after : List (List ℕ)) → x ≡ a
        → part_in m a ≡ Reading value left → n.parts ≡ slice_set m.parts a (Reading value after)
        → Takes one.own.file after (record { root = one.root; cursor = one.held.rest }) (state old) → Taken
    own_read answer one value left after same was machine takes =
        let now = subst (λ (i : ℕ). part_in n i ≡ Reading file rest) same reads in
        let mine : part_in n a ≡ Reading value after =
        ap (λ (ps : List FilePart). slice_index_or ps a Idle) machine ∙ put_told m.parts a value left (Reading value after) was in
        let is = one_file value file after rest (part_in n a) mine now in
        let before = one_file one.own.file value one.own.rest left (part_in m a) one.own.reading was in
        as_taken one.own.file after (record { root = one.root; cursor = one.held.rest }) (before.0 ∙ is.0) is.1
        (one_reader (record { root = one.root; cursor = one.held.rest }) reader (part_of (state new).parts a)
        (now_at (IsIn among) m (state old) (state new) begins (fit at) at.at.reads answer buf a one)
        (subst (λ (i : ℕ). part_of (state new).parts i ≡ core.Reading reader) same core_reads)) takes

    read_taken : (answer : Result Answer Refusal) → AnswersOf steps.ReadNext answer → ReadRow a answer buf (state old) (state new) → Taken
    read_taken (Ok (answers.Bytes count)) (value, left, after, was, gives, others) row = elim (cases_eq x a) [
      | inl same ↦ (
          let one = said at (Ok (Some count)) row.next.goes_on.root row.next.was row.next.goes_on.part_is row.held in
          let given = one.held.given in
          let to_come : given.others ≡ after =
          rest_same (take count buf) (take count buf) given.others after (sym given.segments_are
          ∙ (one_file one.own.file value one.own.rest left (part_in m a) one.own.reading was).1 ∙ gives) in
          own_read (Ok (Some count)) one value left after same was (parts_as others)
          (subst (λ (ys : List (List ℕ)). Takes one.own.file ys (record { root = one.root; cursor = one.held.rest }) (state old)) to_come
          (moved (IsIn among) m (state old) (state new) begins (fit at) at.at.reads (Ok (Some count)) buf a one given.others given.ahead))
          )
      | inr differ ↦ other_parts (Reading value after) (readers.reading row.next.goes_on.root row.next.rest) differ (parts_as others)
          row.next.goes_on.parts_are
    ]
    read_taken (Ok answers.End) is row =
        let going = row.next.goes_on in
        let stayed : readers.reading going.root row.next.rest ≡ part_of (state old).parts a =
        ap (readers.reading going.root) (row.next.given.1 ∙ sym row.next.given.0) ∙ sym going.part_is in
        same_parts (parts_as is.4)
        (going.parts_are ∙ ap (with_part (state old).parts a) stayed ∙ apart.unchanged (state old).parts a)
    read_taken (Err refusals.DiskRead) (right, (value, left, after, was, stays_so, others)) row = elim (cases_eq x a) [
      | inl same ↦ (
          let one = said at (Err refusals.DiskRead) row.cause.goes_on.root row.cause.was row.cause.goes_on.part_is row.held in
          let to_come : one.own.rest ≡ after = (one_file one.own.file value one.own.rest left (part_in m a) one.own.reading was).1 ∙ sym (stays_all left after stays_so) in
          own_read (Err refusals.DiskRead) one value left after same was (parts_as others)
          (subst (λ (ys : List (List ℕ)). Takes one.own.file ys (record { root = one.root; cursor = one.held.rest }) (state old)) to_come
          (moved (IsIn among) m (state old) (state new) begins (fit at) at.at.reads (Err refusals.DiskRead) buf a one one.own.rest one.held.given))
          )
      | inr differ ↦ other_parts (Reading value after) (readers.reading row.cause.goes_on.root row.cause.rest) differ (parts_as others)
          row.cause.goes_on.parts_are
    ]
    read_taken (Err (refusals.WrongPart kind)) is row = same_parts (parts_as is.1) row.cause.same
    read_taken (Err refusals.Memory) is row = absurd (stays_none is.1 refusals.Memory is.2 (λ same. absurd cc) is.4)
    read_taken (Err refusal) is row = absurd (stays_none is.1.1 refusal is.1.2 (λ same. absurd cc) is.1.4)
    read_taken (Ok answer) is row = absurd row

    -- ---- a file that is opened

    open_taken : (name : List ℕ) (answer : Result Answer Refusal) → AnswersOf (steps.OpenRead name) answer → OpenRow name a answer (state old) (state new) → Taken
    open_taken name (Ok (answers.Opened count)) (named, idle, (value, left, found, starts, count_is, others)) row = elim (cases_eq x a) [
      | inl same ↦ own same
      | inr differ ↦ other_parts (Reading value left) (readers.reading row.opens.root row.opens.ahead) differ (parts_as others) row.opens.parts_are
    ]
      where
        holds : IsStoreOf m.store m.now.names image
        holds = needs_here (IsIn among) m.store (stored_in m.now) (state old) begins image here

        own : x ≡ a → Taken
        own same =
            let opens = row.file m.store m.now.names image begins.represents.names_are.names_are holds in
            let bytes : List ℕ = opens.file.bytes in
            let keys : List (List ℕ) = tree_keys (file_tree bytes) in
            let made_reader : Reader = record { root = opens.root; cursor = opens.ahead } in
            let value_is : bytes ≡ value = let both : Some bytes ≡ Some value = sym opens.file.filed ∙ found in cc in
            let core_now = subst (λ (i : ℕ). part_of (state new).parts i ≡ core.Reading reader) same core_reads in
            let there : a < length (state new).parts = within_parts (state new).parts a (λ none. let wrong : core.Idle ≡ core.Reading reader = sym none ∙ core_now in cc) in
            let within : a < length (state old).parts =
            subst (λ (k : ℕ). a < k) (ap length opens.parts_are ∙ apart.as_many (state old).parts a (readers.reading opens.root opens.ahead)) there in
            let mine : part_in n a ≡ Reading value left =
            ap (λ (k : FileMachine). slice_index_or k.parts a Idle) others ∙ set_here m.parts a (Reading value left)
            (subst (λ (k : ℕ). a < k) (sym (many_same m.parts (state old).parts (fit at))) within) in
            let is = one_file value file left rest (part_in n a) mine (subst (λ (i : ℕ). part_in n i ≡ Reading file rest) same reads) in
            as_taken bytes (segments_of bytes) made_reader (value_is ∙ is.0) (ap segments_of value_is ∙ sym starts ∙ is.1)
            (one_reader made_reader reader (part_of (state new).parts a)
            (ap (λ (ps : List core_part.Part). part_of ps a) opens.parts_are ∙ apart.same (state old).parts a (core.Reading made_reader) within) core_now)
            (takes_at (IsIn among) m.store (stored_in m.now) (state old) begins image here (key_set keys)
            (λ key in_keys. (begins.invariant image here).files_are_indexed key (name, (bytes, (opens.file.filed, contained key keys in_keys)))) bytes (segments_of bytes)
            made_reader
            (subst FitsFile opens.file.filed (files_fit m.store m.now.names image holds name)) opens.file.root_is
            (record { tree_is_held = opens.file.tree_is_held; count = λ key in_keys. in_set key keys in_keys }) opens.file.segments_ahead)
    open_taken name (Ok answer) is row = absurd row
    open_taken name (Err refusal) is row = elim (refused_left of_files m n a (asked_as (λ root. f.bytes) (steps.OpenRead name)) refusal tt is) [
      | inl same ↦ same_parts (parts_as same) row.1
      | inr stopped ↦ same_parts (parts_as stopped.2) row.1
    ]

    -- ---- a step of a collection

    gc_taken : f.event.step ≡ steps.GcStep → Takes file rest reader (state new)
    gc_taken is =
        let leads : Leads (IsIn among) m.store f (stored_by f (stored_in m.now)) (state old) (state new) = any_step among at.apart f m.store (stored_in m.now) (state old)
        (state new) at.step begins stays in
        let then = leads.next.is_at in
        let other : IsElse f.event.step = subst IsElse (sym is) tt in
        let was = core_kept (state old) (state new) a buf x reader core_reads f.event.step f.event.answer other made.made.row in
        let within : x < length (state old).parts = within_parts (state old).parts x (λ none. let wrong : core.Idle ≡ core.Reading reader = sym none ∙ was in cc) in
        takes_still (IsIn among) m.store leads.next.store (stored_in m.now) (stored_by f (stored_in m.now)) (state old) (state new) begins then (record {
          keys = λ key needed has.
              leads.keys key image here (subst (λ (s : StepValue). IsSpared s m.store (state old).parts image key) (sym is) needed) begins.index then.index begins.index_known
              then.index_known has;
          copies = λ key needed has level bytes newest.
              leads.copies key image then.stands.known.0 here then.stands.known.1 (subst (λ (s : StepValue). IsSpared s m.store (state old).parts image key) (sym is) needed)
              begins.index begins.index_known has level bytes newest;
        }) x (omega (arith, within, begins.many)) reader was file rest (else_taken other)

    -- ---- whichever it is

    by_step : (step : StepValue) → f.event.step ≡ step → Takes file rest reader (state new)
    by_step (steps.OpenRead name) is =
        taken_on (subst IsNoGcStep (sym is) tt) file rest reader
        (open_taken name f.event.answer (subst (λ (s : StepValue). AnswersOf s f.event.answer) is answered_so)
        (subst (λ (s : StepValue). Row s a f.event.answer buf (state old) (state new)) is made.made.row))
    by_step steps.ReadNext is =
        taken_on (subst IsNoGcStep (sym is) tt) file rest reader
        (read_taken f.event.answer (subst (λ (s : StepValue). AnswersOf s f.event.answer) is answered_so)
        (subst (λ (s : StepValue). Row s a f.event.answer buf (state old) (state new)) is made.made.row))
    by_step steps.GcStep is = gc_taken is
    by_step step is = taken_on (subst IsNoGcStep (sym is) tt) file rest reader (else_taken (subst IsElse (sym is) tt))

  -- Each reader takes its file still.
  pub reads_on : ReadsFiles n (state new)
  reads_on x file rest reader reads core_reads = by_step x file rest reader reads core_reads f.event.step refl
