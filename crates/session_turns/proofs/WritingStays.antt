-- What a step leaves of who stores a file.
use Rattle.session_turns.proofs.Prelude.{◌≡◌, ◌≢◌, ◌∙◌, ◌==◌, inl, inr, ℕ, Bool, true, false, List, Option, Some, None, Result, Ok, Err, refl, sym, ap, subst, arith, length, cases_lt, eqb-false, eqb-true, get_or-set_same, get_or_past, length-set, slice_set, Root, Top, Answer, StepValue, apart, Refusal, Stop, CoreStep, DeleteRow, EndRow, ReadRow, Row, StepsOr, GcRow, StartRow, CoreState, Event, row_one, IsBeside, IsQuiet}
use Rattle.actor_parts.specs.declared.part.Part as core_part
use Rattle.actor_parts.specs.declared.part.Part.TheVariants as core_parts
use Rattle.actor_parts.specs.declared.step.Answer.TheVariants as answers
use Rattle.actor_parts.specs.Kinds.{kind_of}
use Rattle.actor_parts.specs.Parts.{part_of, with_part}
use Rattle.actor_parts.specs.StepValue as steps
use Rattle.refusals.specs.declared.refusal.PartKind.TheVariants as kinds
use Rattle.refusals.specs.declared.refusal.Refusal.TheVariants as refusals
use Rattle.read_steps.specs.Readers as readers
use Rattle.read_steps.specs.Readers.{IsReadRefusal}
use Rattle.store_core.specs.Core.{ListRow, OpenRow, StatRow, UniqueRow}

-- ---- the parts of the others

module _ (e : Event) (old new : CoreState) where
  others_by : (stop : Option Stop) → StepsOr stop e old new → (b : ℕ) → b ≢ e.actor → part_of new.parts b ≡ part_of old.parts b
  others_by (Some stop) step b differs = ap (λ (parts : List core_part.Part). part_of parts b) step.same.parts_are
  others_by None step b differs =
      let one = row_one e.actor e.buf old new e.step e.answer step.made.row in
      ap (λ (parts : List core_part.Part). part_of parts b) one.parts_are ∙ apart.others old.parts e.actor b one.part differs

  pub others_stay : CoreStep old e new → (b : ℕ) → b ≢ e.actor → part_of new.parts b ≡ part_of old.parts b
  others_stay step b differs = others_by old.stop step b differs

-- an actor that is given another part than one that writes doesn't write
pub put_quiet : (parts : List core_part.Part) (a : ℕ) (p : core_part.Part) → kind_of p ≢ kinds.Writing
    → kind_of (part_of (with_part parts a p) a) ≢ kinds.Writing
unfolding part_of with_part
put_quiet parts a p quiet writes = elim (cases_lt a (length parts)) [
  | inl below ↦ quiet (ap kind_of (sym (get_or-set_same parts a p core_parts.Idle below)) ∙ writes)
  | inr past ↦ idle_not (ap kind_of (sym (get_or_past (slice_set parts a p) a core_parts.Idle (omega (arith, past, length-set parts a p)))) ∙ writes)
]
  where
    idle_not : kinds.Idle ≡ kinds.Writing → ⊥
    idle_not is = absurd cc

-- ---- steps after which no actor writes that didn't

-- an actor that stores a file is at what it was at
abbrev pub KeepsWriting : ℕ → List core_part.Part → List core_part.Part → Type 0
KeepsWriting a old new = kind_of (part_of old a) ≡ kinds.Writing → part_of new a ≡ part_of old a

-- an actor that writes did so before
abbrev pub WroteBefore : ℕ → List core_part.Part → List core_part.Part → Type 0
WroteBefore a old new = kind_of (part_of new a) ≡ kinds.Writing → kind_of (part_of old a) ≡ kinds.Writing

pub same_wrote : (a : ℕ) (old new : List core_part.Part) → new ≡ old → WroteBefore a old new
same_wrote a old new same writes = subst (λ (parts : List core_part.Part). kind_of (part_of parts a) ≡ kinds.Writing) same writes

-- it is as it was, if it stores a file, and stores none if it did not
abbrev pub Rests : ℕ → List core_part.Part → List core_part.Part → Type 0
Rests a old new = WroteBefore a old new × KeepsWriting a old new

same_rests : (a : ℕ) (old new : List core_part.Part) → new ≡ old → Rests a old new
same_rests a old new same = (same_wrote a old new same, λ writes. ap (λ (parts : List core_part.Part). part_of parts a) same)

put_rests : (a : ℕ) (old new : List core_part.Part) (p : core_part.Part) → kind_of p ≢ kinds.Writing → kind_of (part_of old a) ≢ kinds.Writing
    → new ≡ with_part old a p → Rests a old new
put_rests a old new p quiet none is = (
  λ writes. absurd (put_quiet old a p quiet (subst (λ (parts : List core_part.Part). kind_of (part_of parts a) ≡ kinds.Writing) is writes)),
  λ writes. absurd (none writes),
)

-- so it is of one that read
reads_none : (p : core_part.Part) → readers.IsReading p → kind_of p ≢ kinds.Writing
reads_none (core_parts.Reading reader) is = λ same. cc
reads_none p is = absurd is

reader_none : (p : core_part.Part) (root : Root) (ahead : List Top) → p ≡ readers.reading root ahead → kind_of p ≢ kinds.Writing
reader_none p root ahead is = reads_none p (subst readers.IsReading (sym is) tt)

idle_none : (p : core_part.Part) → p ≡ core_parts.Idle → kind_of p ≢ kinds.Writing
idle_none p is writes = let wrong = sym (ap kind_of is) ∙ writes in absurd cc

module _ (a : ℕ) (buf : List ℕ) (old new : CoreState) where
  abbrev Rested : Type 0
  Rested = Rests a old.parts new.parts

  open_rests : (name : List ℕ) (answer : Result Answer Refusal) → OpenRow name a answer old new → Rested
  open_rests name (Ok (answers.Opened count)) row = put_rests a old.parts new.parts _ (λ is. cc) (idle_none (part_of old.parts a) row.opens.idle) row.opens.parts_are
  open_rests name (Err refusal) row = same_rests a old.parts new.parts row.1
  open_rests name answer row = absurd row

  goes_rests : (before after : List Top) → readers.GoesOn a old.parts new.parts before after → Rested
  goes_rests before after goes = put_rests a old.parts new.parts _ (λ is. cc) (reader_none (part_of old.parts a) goes.root before goes.part_is) goes.parts_are

  stuck_rests : (refusal : Refusal) → IsReadRefusal old.known old.breaks old.disk new.disk a old.parts new.parts refusal → Rested
  stuck_rests (refusals.WrongPart kind) cause = same_rests a old.parts new.parts cause.same
  stuck_rests refusal cause = goes_rests cause.was cause.rest cause.goes_on

  read_rests : (answer : Result Answer Refusal) → ReadRow a answer buf old new → Rested
  read_rests (Ok (answers.Bytes count)) row = goes_rests row.next.was row.next.rest row.next.goes_on
  read_rests (Ok answers.End) row = goes_rests row.next.was row.next.rest row.next.goes_on
  read_rests (Err refusal) row = stuck_rests refusal row.cause
  read_rests answer row = absurd row

  end_rests : (answer : Result Answer Refusal) → EndRow a answer old new → Rested
  end_rests (Ok answers.Dropped) row = put_rests a old.parts new.parts _ (λ is. cc) (reads_none (part_of old.parts a) row.was_reading) row.parts_are
  end_rests (Err (refusals.WrongPart kind)) row = same_rests a old.parts new.parts row.same
  end_rests answer row = absurd row

  stat_rests : (answer : Result Answer Refusal) → StatRow answer old new → Rested
  stat_rests (Ok answer) row = same_rests a old.parts new.parts row.1
  stat_rests (Err refusal) row = absurd row

  unique_rests : (answer : Result Answer Refusal) → UniqueRow answer old new → Rested
  unique_rests (Ok (answers.Unique segments bytes)) row = same_rests a old.parts new.parts row.parts_are
  unique_rests (Err refusal) row = same_rests a old.parts new.parts row.parts_are
  unique_rests answer row = absurd row

  delete_rests : (name : List ℕ) (answer : Result Answer Refusal) → DeleteRow name answer old new → Rested
  delete_rests name (Ok (answers.Deleted sequence)) row = same_rests a old.parts new.parts row.2
  delete_rests name (Err refusal) row = same_rests a old.parts new.parts row.1
  delete_rests name answer row = absurd row

  list_rests : (answer : Result Answer Refusal) → ListRow answer old new → Rested
  list_rests (Ok (answers.Listed files)) row = same_rests a old.parts new.parts row.1
  list_rests (Err refusals.Memory) row = same_rests a old.parts new.parts row
  list_rests answer row = absurd row

  start_rests : (percent : ℕ) (answer : Result Answer Refusal) → StartRow percent answer old new → Rested
  start_rests percent (Ok (answers.Started snapshot)) row = same_rests a old.parts new.parts row.1
  start_rests percent (Err (refusals.Collecting phase)) row = same_rests a old.parts new.parts row.2
  start_rests percent (Err refusal) row = same_rests a old.parts new.parts row.parts_are
  start_rests percent answer row = absurd row

  gc_rests : (answer : Result Answer Refusal) → GcRow answer old new → Rested
  gc_rests (Ok (answers.Did phase)) row = same_rests a old.parts new.parts row.1
  gc_rests (Ok (answers.Done freed copied)) row = same_rests a old.parts new.parts row.1
  gc_rests (Err refusals.NotCollecting) row = same_rests a old.parts new.parts row.1
  gc_rests (Err refusal) row = same_rests a old.parts new.parts row.1
  gc_rests answer row = absurd row

  row_rests : (step : StepValue) (answer : Result Answer Refusal) → IsQuiet step → Row step a answer buf old new → Rested
  row_rests (steps.OpenRead name) answer quiet row = open_rests name answer row
  row_rests steps.ReadNext answer quiet row = read_rests answer row
  row_rests steps.EndRead answer quiet row = end_rests answer row
  row_rests (steps.Delete name) answer quiet row = delete_rests name answer row
  row_rests steps.ListNames answer quiet row = list_rests answer row
  row_rests (steps.GcStart percent) answer quiet row = start_rests percent answer row
  row_rests steps.GcStep answer quiet row = gc_rests answer row
  row_rests steps.Stat answer quiet row = stat_rests answer row
  row_rests steps.Unique answer quiet row = unique_rests answer row
  row_rests step answer quiet row = absurd quiet

  -- so it is after each step that was refused
  refused_rests : (step : StepValue) (refusal : Refusal) → Row step a (Err refusal) buf old new → Rested
  refused_rests (steps.OpenRead name) refusal row = row_rests (steps.OpenRead name) (Err refusal) tt row
  refused_rests steps.ReadNext refusal row = row_rests steps.ReadNext (Err refusal) tt row
  refused_rests steps.EndRead refusal row = row_rests steps.EndRead (Err refusal) tt row
  refused_rests (steps.Delete name) refusal row = row_rests (steps.Delete name) (Err refusal) tt row
  refused_rests steps.ListNames refusal row = row_rests steps.ListNames (Err refusal) tt row
  refused_rests (steps.GcStart percent) refusal row = row_rests (steps.GcStart percent) (Err refusal) tt row
  refused_rests steps.GcStep refusal row = row_rests steps.GcStep (Err refusal) tt row
  refused_rests steps.Stat refusal row = row_rests steps.Stat (Err refusal) tt row
  refused_rests steps.Unique refusal row = row_rests steps.Unique (Err refusal) tt row
  refused_rests other refusal row = same_rests a old.parts new.parts row.1

module _ (e : Event) (old new : CoreState) where
  quiet_by : (stop : Option Stop) → IsQuiet e.step → StepsOr stop e old new → Rests e.actor old.parts new.parts
  quiet_by (Some stop) quiet step = same_rests e.actor old.parts new.parts step.same.parts_are
  quiet_by None quiet step = row_rests e.actor e.buf old new e.step e.answer quiet step.made.row

  pub quiet_stays : IsQuiet e.step → CoreStep old e new → Rests e.actor old.parts new.parts
  quiet_stays quiet step = quiet_by old.stop quiet step

  refused_by : (stop : Option Stop) (refusal : Refusal) → e.answer ≡ Err refusal → StepsOr stop e old new → Rests e.actor old.parts new.parts
  refused_by (Some stop) refusal is step = same_rests e.actor old.parts new.parts step.same.parts_are
  refused_by None refusal is step =
      refused_rests e.actor e.buf old new e.step refusal (subst (λ (answer : Result Answer Refusal). Row e.step e.actor answer e.buf old new) is step.made.row)

  -- one that stores a file is at what it was at after each step beside it
  own_beside : IsBeside e.actor e → CoreStep old e new → KeepsWriting e.actor old.parts new.parts
  own_beside beside step = elim beside [
    | inl differs ↦ absurd (differs refl)
    | inr own ↦ elim own [
      | inl refused ↦ (refused_by old.stop refused.0 refused.1 step).1
      | inr quiet ↦ (quiet_stays quiet step).1
    ]
  ]

  pub beside_stays : (a : ℕ) → IsBeside a e → CoreStep old e new → KeepsWriting a old.parts new.parts
  beside_stays a beside step = by (a == e.actor) refl
    where
      by : (same : Bool) → (a == e.actor) ≡ same → KeepsWriting a old.parts new.parts
      by true is =
          let own = eqb-true a e.actor is in
          subst (λ (b : ℕ). KeepsWriting b old.parts new.parts) (sym own) (own_beside (subst (λ (b : ℕ). IsBeside b e) own beside) step)
      by false is = λ writes. others_stay e old new step a (eqb-false a e.actor is)
