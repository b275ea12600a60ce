-- Maps from keys to places.
use Rattle.std.specs.Ordering.{nat_cmp}
use Rattle.std.specs.Cmp.Lexicographic.{slice_cmp}
use Rattle.std.specs.FinMap as finite
use Rattle.container_meta.specs.declared.place.Place.{Place}

-- from keys, in the order of their bytes, to places
abbrev pub PlaceMap : Type 0
PlaceMap = finite.FinMap (slice_cmp nat_cmp) Place
