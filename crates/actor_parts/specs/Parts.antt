-- What all actors are at: a list with a part for each, by their numbers.
use Rattle.std.specs.Prelude.{◌≡◌, ◌≢◌, ◌<◌, ℕ, List, length, slice_index_or, slice_set}
use Rattle.actor_parts.specs.declared.part.Part.{Part}
use Rattle.actor_parts.specs.declared.part.Part.TheVariants.{Idle}

unfoldable pub part_of : List Part → ℕ → Part
part_of parts actor = slice_index_or parts actor Idle

-- the same, but for this actor
unfoldable pub with_part : List Part → ℕ → Part → List Part
with_part parts actor part = slice_set parts actor part

-- An actor is at what it was last given, and a part that another is given doesn't change that.
pub record PartsAreApart : Type 0 where
  pub same : (parts : List Part) (actor : ℕ) (part : Part) → actor < length parts → part_of (with_part parts actor part) actor ≡ part
  pub others : (parts : List Part) (actor other : ℕ) (part : Part) → other ≢ actor
      → part_of (with_part parts actor part) other ≡ part_of parts other
  pub as_many : (parts : List Part) (actor : ℕ) (part : Part) → length (with_part parts actor part) ≡ length parts
  pub replaced : (parts : List Part) (actor : ℕ) (first second : Part)
      → with_part (with_part parts actor first) actor second ≡ with_part parts actor second
  pub unchanged : (parts : List Part) (actor : ℕ) → with_part parts actor (part_of parts actor) ≡ parts
