-- Containers that are offered together, to be sealed by one step.
use Rattle.std.specs.Prelude.{◌≡◌, ◌≤◌, ◌-◌, ℕ, List, length, min}
use Rattle.std.specs.List.{AllByRecursion}
use Rattle.disk_format.specs.declared.numbers.TheConstants.{LAST_ID, RESERVE}
use Rattle.container_meta.specs.declared.kind.Kind.TheVariants.{Leaf}
use Rattle.container_meta.specs.Segments.{Contents}
use Rattle.actor_parts.specs.declared.step.TheConstants.{MOST_TOGETHER}
use Rattle.actor_parts.specs.Segments.{AreStepSegments}

-- one container, or some of data, each with a segment
pub record IsOffer (offered : List Contents) : Type 0 where
  pub some : 1 ≤ length offered
  pub few : length offered ≤ MOST_TOGETHER
  pub leaves : 2 ≤ length offered → AllByRecursion (λ c. c.kind ≡ Leaf) offered
  pub segments : AllByRecursion (λ c. 1 ≤ length c.segments) offered

-- the segments of each are such as a step takes
abbrev pub AreStepContents : List Contents → Type 0
AreStepContents offered = AllByRecursion (λ c. AreStepSegments c.kind c.segments) offered

-- as many of so many are sealed as there are slots beside the reserve, and ids left
abbrev pub sealed_of : ℕ → (free last : ℕ) → ℕ
sealed_of offered free last = min offered (min (free - RESERVE) (LAST_ID - last))
