-- An index without keys has no place that could lie outside a disk.
use Rattle.std.specs.FinMap as finite
use Rattle.std.specs.Cmp.Lexicographic.{slice_cmp}
use Rattle.std.specs.Ordering.{nat_cmp}
use Rattle.container_meta.specs.declared.place.Place.{Place}
use Rattle.adapters.proofs.index.no_keys.Goals as goal

pub returns : goal.returns
returns c size key place found = let none = finite.get-empty {X = Place} (slice_cmp nat_cmp) key in let new = c.new.ensures in cc
