-- Which keys a collection may keep (docs/MODEL.md, 'Collection').
use Rattle.std.specs.Prelude.{ℕ, List}
use Rattle.container_meta.specs.declared.place.Place.{Place}
use Rattle.gc_enumerate.specs.Live.{LiveKeys, IsLiveAt}

-- only keys of which P holds are live
abbrev pub IsWithin : (List ℕ → Type 0) → LiveKeys → Type 0
IsWithin P live = (key : List ℕ) (place : Place) → IsLiveAt live key place → P key
