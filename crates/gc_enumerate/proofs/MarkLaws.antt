-- What holds of keys that share one mark, however marks are kept.
use Rattle.std.proofs.Common.{ℕ, List, refl}
use Rattle.container_meta.specs.declared.place.Place.{Place}
use Rattle.gc_enumerate.specs.Live.{SharesMark}

-- a key has its own mark
pub own_mark : (key : List ℕ) (place : Place) → SharesMark key place key place
unfolding SharesMark
own_mark key place = refl
