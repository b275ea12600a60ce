-- The parts of actors are apart.
use Rattle.std.proofs.Common.{◌≡◌, ◌<◌, ℕ, List, length, slice_index_or, slice_set, refl, arith}
use Rattle.std.proofs.lemmas.List.{get_or-set_same, get_or-set_other, get_or_read, length-set, set-set, set-get_or}
use Rattle.actor_parts.specs.declared.actor.TheConstants.{ACTORS}
use Rattle.actor_parts.specs.declared.part.Part.{Part}
use Rattle.actor_parts.specs.declared.part.Part.TheVariants.{Idle}
use Rattle.actor_parts.specs.Parts.{part_of, with_part, PartsAreApart}

pub apart : PartsAreApart
unfolding part_of with_part
apart = record {
  same = λ parts actor part below. get_or-set_same parts actor part Idle below;
  others = λ parts actor other part other_is. get_or-set_other parts actor other part Idle other_is;
  as_many = λ parts actor part. length-set parts actor part;
  replaced = λ parts actor first second. set-set parts actor first second;
  unchanged = λ parts actor. set-get_or parts actor Idle;
}

-- the items of a list in memory, by the number of an actor
module _ (items parts : List Part) (number actor : ℕ) (same : items ≡ parts) (number_is : number ≡ actor) where
  pub part_read : (part : Part) → length items ≡ ACTORS → number < ACTORS → part ≡ slice_index_or items number part → part ≡ part_of parts actor
  unfolding part_of
  part_read part many limit read = rw (← same, ← number_is) (get_or_read items number part (omega (arith, many, limit)) read Idle)

  pub part_set : (part : Part) → slice_set items number part ≡ with_part parts actor part
  unfolding with_part
  part_set part = rw (same, number_is) refl

  pub there : length items ≡ ACTORS → number < ACTORS → actor < length parts
  there many limit = rw (← same, ← number_is) (omega (arith, many, limit))
