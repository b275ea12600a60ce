-- Keys that become live while a collection runs, and those that go on (docs/MODEL.md, 'Collection').
use Rattle.std.specs.Prelude.{◌⊎◌, ◌↔◌, ℕ, List}
use Rattle.std.specs.List.{Contains}
use Rattle.container_meta.specs.declared.place.Place.{Place}
use Rattle.gc_enumerate.specs.Live.{LiveKeys, IsLiveAt}

-- each key is as live as it was
abbrev pub IsAsLive : LiveKeys → LiveKeys → Type 0
IsAsLive old new = (key : List ℕ) (place : Place) → IsLiveAt new key place ↔ IsLiveAt old key place

-- just these keys are live no more
abbrev pub Unmarks : List (List ℕ) → LiveKeys → LiveKeys → Type 0
Unmarks keys old new = (key : List ℕ) (place : Place) → IsLiveAt new key place ↔ (IsLiveAt old key place × (Contains keys key → ⊥))

-- these are, of some keys, those that were not live
abbrev pub AreFresh : List (List ℕ) → LiveKeys → List (List ℕ) → Type 0
AreFresh keys live fresh = (key : List ℕ) (place : Place) → Contains fresh key ↔ (Contains keys key × (IsLiveAt live key place → ⊥))

-- Each key that is live was live, or is one of these; and none of these was.
pub record HasMarked (fresh : List (List ℕ)) (old new : LiveKeys) : Type 0 where
  pub stays : (key : List ℕ) (place : Place) → IsLiveAt old key place → IsLiveAt new key place
  pub just : (key : List ℕ) (place : Place) → IsLiveAt new key place → IsLiveAt old key place ⊎ Contains fresh key
  pub apart : (key : List ℕ) (place : Place) → Contains fresh key → IsLiveAt old key place → ⊥
