-- What each step does, whichever it is.
use Rattle.store_core.proofs.Prelude.{◌≡◌, ℕ, List, Option, Some, None, Result, Ok, Err, sym, ◌∙◌, Root, KindSegment, IsLater, Part, Answer, StepValue, apart, Refusal, Row, BeginRow, ClaimRow, SealRow, CommitRow, AbortRow, OpenRow, ReadRow, EndRow, StatRow, UniqueRow, DeleteRow, ListRow, Effect, StepsOr, Stop, CoreState, Event, GcRow, StartRow, ◌≢◌, length, ap}
use Rattle.container_meta.specs.Segments.{Contents}
use Rattle.actor_parts.specs.declared.step.Answer.TheVariants as answers
use Rattle.actor_parts.specs.Parts.{part_of, with_part}
use Rattle.actor_parts.specs.StepValue as asked
use Rattle.refusals.specs.declared.refusal.Refusal.TheVariants as refusals
use Rattle.read_steps.specs.Readers as readers

-- ---- parts

-- at most one actor's part is another
pub record ChangesOne (actor : ℕ) (old new : List Part) : Type 0 where
  pub part : Part
  pub parts_are : new ≡ with_part old actor part

-- another actor's step leaves its part
pub other_part : (actor own : ℕ) (old new : List Part) → ChangesOne own old new → actor ≢ own → part_of new actor ≡ part_of old actor
other_part actor own old new one differs = ap (λ (parts : List Part). part_of parts actor) one.parts_are ∙ apart.others old own actor one.part differs

pub length_on : (own : ℕ) (old new : List Part) → ChangesOne own old new → length new ≡ length old
length_on own old new one = ap length one.parts_are ∙ apart.as_many old own one.part

same_one : (actor : ℕ) (old new : List Part) → new ≡ old → ChangesOne actor old new
same_one actor old new same = record { part = part_of old actor; parts_are = same ∙ sym (apart.unchanged old actor) }

one : (actor : ℕ) (old new : List Part) (part : Part) → new ≡ with_part old actor part → ChangesOne actor old new
one actor old new part is = record { part = part; parts_are = is }

module _ (actor : ℕ) (buf : List ℕ) (old new : CoreState) where
  begin_one : (answer : Result Answer Refusal) → BeginRow actor answer old new → ChangesOne actor old.parts new.parts
  begin_one (Ok answers.Begun) row = one actor old.parts new.parts _ row.1
  begin_one (Err refusal) row = same_one actor old.parts new.parts row.1
  begin_one answer row = absurd row

  claim_one : (seg : KindSegment) (answer : Result Answer Refusal) → ClaimRow seg actor answer old new → ChangesOne actor old.parts new.parts
  claim_one seg (Ok answers.Held) row = one actor old.parts new.parts _ row.claimed.parts_are
  claim_one seg (Ok answers.Absent) row = same_one actor old.parts new.parts row.claimed.parts_are
  claim_one seg (Err refusal) row = same_one actor old.parts new.parts row.1
  claim_one seg answer row = absurd row

  seal_one : (offered : List Contents) (answer : Result Answer Refusal) → SealRow offered actor answer old new → ChangesOne actor old.parts new.parts
  seal_one offered (Ok (answers.Sealed id count)) row = one actor old.parts new.parts _ row.parts_are
  seal_one offered (Err refusal) row = same_one actor old.parts new.parts row.1
  seal_one offered answer row = absurd row

  commit_one : (name : List ℕ) (root : Root) (answer : Result Answer Refusal) → CommitRow name root actor answer old new → ChangesOne actor old.parts new.parts
  commit_one name root (Ok (answers.Committed sequence)) row = one actor old.parts new.parts _ row.2
  commit_one name root (Err refusal) row = same_one actor old.parts new.parts row.1
  commit_one name root answer row = absurd row

  abort_one : (answer : Result Answer Refusal) → AbortRow actor answer old new → ChangesOne actor old.parts new.parts
  abort_one (Ok answers.Aborted) row = one actor old.parts new.parts _ row.1
  abort_one (Err refusal) row = same_one actor old.parts new.parts row.1
  abort_one answer row = absurd row

  open_one : (name : List ℕ) (answer : Result Answer Refusal) → OpenRow name actor answer old new → ChangesOne actor old.parts new.parts
  open_one name (Ok (answers.Opened count)) row = one actor old.parts new.parts _ row.opens.parts_are
  open_one name (Err refusal) row = same_one actor old.parts new.parts row.1
  open_one name answer row = absurd row

  stuck_one : (refusal : Refusal) → readers.IsReadRefusal old.known old.breaks old.disk new.disk actor old.parts new.parts refusal → ChangesOne actor old.parts new.parts
  stuck_one (refusals.WrongPart kind) cause = same_one actor old.parts new.parts cause.same
  stuck_one refusal cause = one actor old.parts new.parts _ cause.goes_on.parts_are

  read_one : (answer : Result Answer Refusal) → ReadRow actor answer buf old new → ChangesOne actor old.parts new.parts
  read_one (Ok (answers.Bytes count)) row = one actor old.parts new.parts _ row.next.goes_on.parts_are
  read_one (Ok answers.End) row = one actor old.parts new.parts _ row.next.goes_on.parts_are
  read_one (Err refusal) row = stuck_one refusal row.cause
  read_one answer row = absurd row

  end_one : (answer : Result Answer Refusal) → EndRow actor answer old new → ChangesOne actor old.parts new.parts
  end_one (Ok answers.Dropped) row = one actor old.parts new.parts _ row.parts_are
  end_one (Err (refusals.WrongPart kind)) row = same_one actor old.parts new.parts row.same
  end_one answer row = absurd row

  stat_one : (answer : Result Answer Refusal) → StatRow answer old new → ChangesOne actor old.parts new.parts
  stat_one (Ok answer) row = same_one actor old.parts new.parts row.1
  stat_one (Err refusal) row = absurd row

  unique_one : (answer : Result Answer Refusal) → UniqueRow answer old new → ChangesOne actor old.parts new.parts
  unique_one (Ok (answers.Unique segments bytes)) row = same_one actor old.parts new.parts row.parts_are
  unique_one (Err refusal) row = same_one actor old.parts new.parts row.parts_are
  unique_one answer row = absurd row

  delete_one : (name : List ℕ) (answer : Result Answer Refusal) → DeleteRow name answer old new → ChangesOne actor old.parts new.parts
  delete_one name (Ok (answers.Deleted sequence)) row = same_one actor old.parts new.parts row.2
  delete_one name (Err refusal) row = same_one actor old.parts new.parts row.1
  delete_one name answer row = absurd row

  list_one : (answer : Result Answer Refusal) → ListRow answer old new → ChangesOne actor old.parts new.parts
  list_one (Ok (answers.Listed files)) row = same_one actor old.parts new.parts row.1
  list_one (Err refusals.Memory) row = same_one actor old.parts new.parts row
  list_one answer row = absurd row

  start_one : (percent : ℕ) (answer : Result Answer Refusal) → StartRow percent answer old new → ChangesOne actor old.parts new.parts
  start_one percent (Ok (answers.Started snapshot)) row = same_one actor old.parts new.parts row.1
  start_one percent (Err (refusals.Collecting phase)) row = same_one actor old.parts new.parts row.2
  start_one percent (Err refusal) row = same_one actor old.parts new.parts row.parts_are
  start_one percent answer row = absurd row

  gc_one : (answer : Result Answer Refusal) → GcRow answer old new → ChangesOne actor old.parts new.parts
  gc_one (Ok (answers.Did phase)) row = same_one actor old.parts new.parts row.1
  gc_one (Ok (answers.Done freed copied)) row = same_one actor old.parts new.parts row.1
  gc_one (Err refusals.NotCollecting) row = same_one actor old.parts new.parts row.1
  gc_one (Err refusal) row = same_one actor old.parts new.parts row.1
  gc_one answer row = absurd row

  pub row_one : (step : StepValue) (answer : Result Answer Refusal) → Row step actor answer buf old new → ChangesOne actor old.parts new.parts
  row_one asked.Begin answer row = begin_one answer row
  row_one (asked.Claim seg) answer row = claim_one seg answer row
  row_one (asked.Seal offered) answer row = seal_one offered answer row
  row_one (asked.Commit name root) answer row = commit_one name root answer row
  row_one asked.Abort answer row = abort_one answer row
  row_one (asked.OpenRead name) answer row = open_one name answer row
  row_one asked.ReadNext answer row = read_one answer row
  row_one asked.EndRead answer row = end_one answer row
  row_one (asked.Delete name) answer row = delete_one name answer row
  row_one asked.ListNames answer row = list_one answer row
  row_one (asked.GcStart percent) answer row = start_one percent answer row
  row_one asked.GcStep answer row = gc_one answer row
  row_one asked.Stat answer row = stat_one answer row
  row_one asked.Unique answer row = unique_one answer row

-- ---- the disk

module _ (old new : CoreState) where
  -- it is the same disk, later
  pub effect_later : (step : StepValue) (answer : Result Answer Refusal) → Effect step answer old new → IsLater old.disk new.disk
  effect_later (asked.Seal offered) answer effect = effect.disk.later
  effect_later (asked.Commit name root) answer effect = effect.disk.later
  effect_later (asked.Delete name) answer effect = effect.disk.later
  effect_later asked.GcStep answer effect = effect.later
  effect_later other answer effect = effect.disk.only.later

module _ (old new : CoreState) (e : Event) where
  pub step_later : (stop : Option Stop) → StepsOr stop e old new → IsLater old.disk new.disk
  step_later None steps = effect_later old new e.step e.answer steps.made.effect
  step_later (Some stop) steps = steps.same.disk.only.later
