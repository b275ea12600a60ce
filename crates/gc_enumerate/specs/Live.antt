-- Which keys are live (docs/MODEL.md, 'Marking'). They are kept as a set, so no place says anything.
use Rattle.std.specs.Prelude.{◌≡◌, ℕ, List, IsSome}
use Rattle.std.specs.Coded.{Coded, coded_list, coded_ℕ}
use Rattle.std.specs.FinMap as finite
use Rattle.std.specs.Ordering.{nat_cmp}
use Rattle.std.specs.Cmp.Lexicographic.{slice_cmp}
use base.Stored.{coded_unit}
use Rattle.container_meta.specs.declared.place.Place.{Place}

-- the keys that are live
abbrev pub LiveKeys : Type 0
LiveKeys = finite.FinMap (slice_cmp nat_cmp) (Unit {0})

abbrev pub coded_live : Coded LiveKeys
coded_live = finite.code (coded_list coded_ℕ) coded_unit

-- a key is live, at any place
unfoldable pub IsLiveAt : LiveKeys → List ℕ → Place → Type 0
IsLiveAt live key place = IsSome (finite.get live key)

-- Two keys share one mark, at any places: they are one key.
unfoldable pub SharesMark : List ℕ → Place → List ℕ → Place → Type 0
SharesMark key place other other_place = key ≡ other
