-- Lists with an item for each actor: one is set, and then looked up.
use Rattle.script_runner.proofs.Prelude.{◌≡◌, ◌<◌, ℕ, List, length, slice_set, replicate, get_or-set_same, get_or-replicate, ACTORS}
use Rattle.std.proofs.Common.{slice_index_or}
use Rattle.actor_parts.specs.declared.part.Part.TheVariants as core_parts
use Rattle.actor_parts.specs.Parts.{part_of}

-- what was set is found
pub set_here : {T : Type 0} (place : ℕ) (none x : T) (xs : List T) → place < length xs → slice_index_or (slice_set xs place x) place none ≡ x
set_here place none x xs below = get_or-set_same xs place x none below

-- ---- idle actors

pub idle_part : (actor : ℕ) → actor < ACTORS → part_of (replicate ACTORS core_parts.Idle) actor ≡ core_parts.Idle
unfolding part_of
idle_part actor below = get_or-replicate ACTORS actor core_parts.Idle core_parts.Idle below
