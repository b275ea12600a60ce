-- Steps as contracts see them: what is lent, by its value.
use Rattle.std.specs.Prelude.{ℕ, List}
use Rattle.disk_format.specs.Cells.{Root}
use Rattle.container_meta.specs.Segments.{KindSegment, Contents}
use Rattle.actor_parts.specs.declared.step.Step as steps
use Rattle.actor_parts.specs.declared.step.Step.TheVariants as asked
use Rattle.actor_parts.specs.Offers.{AreStepContents, IsOffer}
use Rattle.actor_parts.specs.Segments.{IsStepSegment}

pub data StepValue : Type 0 where
  Begin : StepValue
  Claim : (seg : KindSegment) → StepValue
  Seal : (offered : List Contents) → StepValue
  Commit : (name : List ℕ) (root : Root) → StepValue
  Abort : StepValue
  OpenRead : (name : List ℕ) → StepValue
  ReadNext : StepValue
  EndRead : StepValue
  Delete : (name : List ℕ) → StepValue
  ListNames : StepValue
  GcStart : (percent : ℕ) → StepValue
  GcStep : StepValue
  Stat : StepValue
  Unique : StepValue

abbrev pub step_value : steps.Step → StepValue
step_value asked.Begin = Begin
step_value (asked.Claim seg) = Claim seg.now
step_value (asked.Seal filled) = Seal filled.now
step_value (asked.Commit name root) = Commit name.now root.now
step_value asked.Abort = Abort
step_value (asked.OpenRead name) = OpenRead name.now
step_value asked.ReadNext = ReadNext
step_value asked.EndRead = EndRead
step_value (asked.Delete name) = Delete name.now
step_value asked.List = ListNames
step_value (asked.GcStart percent) = GcStart percent.now
step_value asked.GcStep = GcStep
step_value asked.Stat = Stat
step_value asked.Unique = Unique

-- What may be asked: a segment of a tree is a node of its level, and containers may be offered together.
abbrev pub IsStep : StepValue → Type 0
IsStep (Claim seg) = IsStepSegment seg
IsStep (Seal offered) = IsOffer offered × AreStepContents offered
IsStep step = Unit {0}
