-- What an actor is at, by its own steps.
use Rattle.session_turns.proofs.Prelude.{◌≡◌, ◌∙◌, ℕ, List, Option, Some, None, Result, Ok, Err, refl, sym, ap, subst, length, apart, Answer, StepValue, Refusal, Stop, CoreState, Event, StepsOr}
use Rattle.std.proofs.Common.{◌<◌}
use Rattle.container_meta.specs.Segments.{Contents, KindSegment}
use Rattle.disk_format.specs.Cells.{Root}
use Rattle.merkle_file.specs.declared.top.Top.{Top}
use Rattle.actor_parts.specs.declared.part.Part.{Part}
use Rattle.actor_parts.specs.declared.part.Part.TheVariants as parts
use Rattle.actor_parts.specs.declared.step.Answer.TheVariants as answers
use Rattle.actor_parts.specs.Kinds.{kind_of}
use Rattle.actor_parts.specs.Parts.{part_of, with_part}
use Rattle.actor_parts.specs.StepValue as steps
use Rattle.refusals.specs.declared.refusal.PartKind.{PartKind}
use Rattle.refusals.specs.declared.refusal.PartKind.TheVariants as kinds
use Rattle.refusals.specs.declared.refusal.Refusal.TheVariants as refusals
use Rattle.read_steps.specs.Readers as readers
use Rattle.read_steps.specs.Readers.{IsReadRefusal, IsReading}
use Rattle.store_core.specs.Collecting.{GcRow, StartRow}
use Rattle.store_core.specs.Core.{AbortRow, BeginRow, ClaimRow, CommitRow, DeleteRow, EndRow, ListRow, OpenRow, ReadRow, Row, SealRow, StatRow, UniqueRow}
use Rattle.session_turns.specs.Kinds.{GivingUpIsDone, KindsFollow, OthersStay, given_up_by, kind_after}
use Rattle.session_turns.proofs.WritingStays.{others_stay}

module _ (a : ℕ) (buf : List ℕ) (old new : CoreState) (below : a < length old.parts) where
  abbrev own : PartKind
  own = kind_of (part_of old.parts a)

  abbrev Is : PartKind → Type 0
  Is kind = kind_of (part_of new.parts a) ≡ kind

  same : new.parts ≡ old.parts → Is own
  same is = ap (λ (ps : List Part). kind_of (part_of ps a)) is

  put : (p : Part) → new.parts ≡ with_part old.parts a p → Is (kind_of p)
  put p is = ap (λ (ps : List Part). kind_of (part_of ps a)) is ∙ ap kind_of (apart.same old.parts a p below)

  -- it stays at what it was at
  kept : (p was : Part) → new.parts ≡ with_part old.parts a p → part_of old.parts a ≡ was → kind_of was ≡ kind_of p → Is own
  kept p was is before kind = put p is ∙ sym kind ∙ sym (ap kind_of before)

  begins : (answer : Result Answer Refusal) → BeginRow a answer old new → Is (kind_after steps.Begin answer own)
  begins (Ok answers.Begun) row = put _ row.1
  begins (Err refusal) row = same row.1
  begins answer row = absurd row

  claims : (seg : KindSegment) (answer : Result Answer Refusal) → ClaimRow seg a answer old new → Is own
  claims seg (Ok answers.Held) row = kept _ _ row.claimed.parts_are row.claimed.may.writing refl
  claims seg (Ok answers.Absent) row = same row.claimed.parts_are
  claims seg (Err refusal) row = same row.1
  claims seg answer row = absurd row

  seals : (offered : List Contents) (answer : Result Answer Refusal) → SealRow offered a answer old new → Is own
  seals offered (Ok (answers.Sealed id count)) row = kept _ _ row.parts_are row.may.writing refl
  seals offered (Err refusal) row = same row.1
  seals offered answer row = absurd row

  commits : (name : List ℕ) (root : Root) (answer : Result Answer Refusal) → CommitRow name root a answer old new → Is (kind_after (steps.Commit name root) answer own)
  commits name root (Ok (answers.Committed sequence)) row = put _ row.2
  commits name root (Err refusal) row = same row.1
  commits name root answer row = absurd row

  aborts : (answer : Result Answer Refusal) → AbortRow a answer old new → Is (kind_after steps.Abort answer own)
  aborts (Ok answers.Aborted) row = put _ row.1
  aborts (Err refusal) row = same row.1
  aborts answer row = absurd row

  opens : (name : List ℕ) (answer : Result Answer Refusal) → OpenRow name a answer old new → Is (kind_after (steps.OpenRead name) answer own)
  opens name (Ok (answers.Opened count)) row = put _ row.opens.parts_are
  opens name (Err refusal) row = same row.1
  opens name answer row = absurd row

  goes : (before after : List Top) → readers.GoesOn a old.parts new.parts before after → Is own
  goes before after on = kept _ _ on.parts_are on.part_is refl

  stuck : (refusal : Refusal) → IsReadRefusal old.known old.breaks old.disk new.disk a old.parts new.parts refusal → Is own
  stuck (refusals.WrongPart kind) cause = same cause.same
  stuck refusal cause = goes cause.was cause.rest cause.goes_on

  reads : (answer : Result Answer Refusal) → ReadRow a answer buf old new → Is own
  reads (Ok (answers.Bytes count)) row = goes row.next.was row.next.rest row.next.goes_on
  reads (Ok answers.End) row = goes row.next.was row.next.rest row.next.goes_on
  reads (Err refusal) row = stuck refusal row.cause
  reads answer row = absurd row

  ends : (answer : Result Answer Refusal) → EndRow a answer old new → Is (kind_after steps.EndRead answer own)
  ends (Ok answers.Dropped) row = put _ row.parts_are
  ends (Err (refusals.WrongPart kind)) row = same row.same
  ends answer row = absurd row

  stats : (answer : Result Answer Refusal) → StatRow answer old new → Is own
  stats (Ok answer) row = same row.1
  stats (Err refusal) row = absurd row

  counts : (answer : Result Answer Refusal) → UniqueRow answer old new → Is own
  counts (Ok (answers.Unique segments bytes)) row = same row.parts_are
  counts (Err refusal) row = same row.parts_are
  counts answer row = absurd row

  deletes : (name : List ℕ) (answer : Result Answer Refusal) → DeleteRow name answer old new → Is own
  deletes name (Ok (answers.Deleted sequence)) row = same row.2
  deletes name (Err refusal) row = same row.1
  deletes name answer row = absurd row

  lists : (answer : Result Answer Refusal) → ListRow answer old new → Is own
  lists (Ok (answers.Listed files)) row = same row.1
  lists (Err refusals.Memory) row = same row
  lists answer row = absurd row

  starts : (percent : ℕ) (answer : Result Answer Refusal) → StartRow percent answer old new → Is own
  starts percent (Ok (answers.Started snapshot)) row = same row.1
  starts percent (Err (refusals.Collecting phase)) row = same row.2
  starts percent (Err refusal) row = same row.parts_are
  starts percent answer row = absurd row

  collects : (answer : Result Answer Refusal) → GcRow answer old new → Is own
  collects (Ok (answers.Did phase)) row = same row.1
  collects (Ok (answers.Done freed copied)) row = same row.1
  collects (Err refusals.NotCollecting) row = same row.1
  collects (Err refusal) row = same row.1
  collects answer row = absurd row

  by_row : (step : StepValue) (answer : Result Answer Refusal) → Row step a answer buf old new → Is (kind_after step answer own)
  by_row steps.Begin answer row = begins answer row
  by_row (steps.Claim seg) answer row = claims seg answer row
  by_row (steps.Seal offered) answer row = seals offered answer row
  by_row (steps.Commit name root) answer row = commits name root answer row
  by_row steps.Abort answer row = aborts answer row
  by_row (steps.OpenRead name) answer row = opens name answer row
  by_row steps.ReadNext answer row = reads answer row
  by_row steps.EndRead answer row = ends answer row
  by_row (steps.Delete name) answer row = deletes name answer row
  by_row steps.ListNames answer row = lists answer row
  by_row (steps.GcStart percent) answer row = starts percent answer row
  by_row steps.GcStep answer row = collects answer row
  by_row steps.Stat answer row = stats answer row
  by_row steps.Unique answer row = counts answer row

refused_kind : (step : StepValue) (refusal : Refusal) (kind : PartKind) → kind_after step (Err refusal) kind ≡ kind
refused_kind steps.Begin refusal kind = refl
refused_kind other refusal kind = refl

-- ---- what is given up

same_refusal : (x y : Refusal) → ◌≡◌ {A = Result Answer Refusal} (Err x) (Err y) → x ≡ y
same_refusal x y is = cc

reading_is : (p : Part) → kind_of p ≡ kinds.Reading → IsReading p
reading_is (parts.Reading reader) is = tt
reading_is parts.Idle is = absurd cc
reading_is (parts.Writing pins) is = absurd cc

some_kind : (x y : PartKind) → ◌≡◌ {A = Option PartKind} (Some x) (Some y) → x ≡ y
some_kind x y is = cc

module _ (a : ℕ) (buf : List ℕ) (old new : CoreState) where
  never_aborted : (refusal : Refusal) → AbortRow a (Err refusal) old new → kind_of (part_of old.parts a) ≡ kinds.Writing → ⊥
  never_aborted (refusals.WrongPart kind) row is = row.0.1 (row.0.0 ∙ is)
  never_aborted refusal row is = row.0

  never_ended : (refusal : Refusal) → EndRow a (Err refusal) old new → kind_of (part_of old.parts a) ≡ kinds.Reading → ⊥
  never_ended (refusals.WrongPart kind) row is = row.differs (reading_is (part_of old.parts a) is)
  never_ended refusal row is = row

  never_refused : (step : StepValue) (refusal : Refusal) → Row step a (Err refusal) buf old new → given_up_by step ≡ Some (kind_of (part_of old.parts a)) → ⊥
  never_refused steps.Abort refusal row is = never_aborted refusal row (sym (some_kind _ _ is))
  never_refused steps.EndRead refusal row is = never_ended refusal row (sym (some_kind _ _ is))
  never_refused step refusal row is = absurd (let wrong : ◌≡◌ {A = Option PartKind} None (Some (kind_of (part_of old.parts a))) = is in cc)

-- ---- the laws

module _ (C : Type 0) (state : C → CoreState) where
  pub all_others_stay : OthersStay C state
  all_others_stay e old new other step differs = others_stay e (state old) (state new) step other differs

  follows_by : (stop : Option Stop) (e : Event) (old new : CoreState) → StepsOr stop e old new → e.actor < length old.parts
      → kind_of (part_of new.parts e.actor) ≡ kind_after e.step e.answer (kind_of (part_of old.parts e.actor))
  follows_by None e old new step below = by_row e.actor e.buf old new below e.step e.answer step.made.row
  follows_by (Some stop) e old new step below =
      ap (λ (ps : List Part). kind_of (part_of ps e.actor)) step.same.parts_are
      ∙ sym (ap (λ (answer : Result Answer Refusal). kind_after e.step answer (kind_of (part_of old.parts e.actor))) step.answer_is
      ∙ refused_kind e.step (refusals.Stopped stop.at) (kind_of (part_of old.parts e.actor)))

  pub kinds_follow : KindsFollow C state
  kinds_follow e old new step below = follows_by (state old).stop e (state old) (state new) step below

  done_by : (stop : Option Stop) (e : Event) (old new : CoreState) (refusal : Refusal) → StepsOr stop e old new → given_up_by e.step ≡ Some (kind_of (part_of old.parts e.actor))
      → e.answer ≡ Err refusal → (at : ℕ) × (refusal ≡ refusals.Stopped at)
  done_by None e old new refusal step is refused =
      absurd (never_refused e.actor e.buf old new e.step refusal
      (subst (λ (answer : Result Answer Refusal). Row e.step e.actor answer e.buf old new) refused step.made.row) is)
  done_by (Some stop) e old new refusal step is refused = (stop.at, same_refusal refusal (refusals.Stopped stop.at) (sym refused ∙ step.answer_is))

  pub giving_up_is_done : GivingUpIsDone C state
  giving_up_is_done e old new refusal step is refused = done_by (state old).stop e (state old) (state new) refusal step is refused
