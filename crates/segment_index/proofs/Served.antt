-- Places of a map that has one key more, or one fewer.
use Rattle.std.proofs.Common.{◌≡◌, ℕ, Bool, true, false, cond, List, Some, None, sym, ◌∙◌, subst}
use Rattle.std.specs.Ordering.{nat_cmp, eq_by_cmp}
use Rattle.std.specs.Cmp.Lexicographic.{slice_cmp, nat_list_cmp_total}
use Rattle.std.specs.FinMap as finite
use Rattle.container_meta.specs.declared.place.Place.{Place}
use Rattle.container_meta.specs.Places.{PlaceMap}
use Rattle.segment_index.specs.Places.{IsPlace, HasPlaces}

same_place : (a b : Place) → Some a ≡ Some b → a ≡ b
same_place a b same = cc

module _ (size : ℕ) (places : PlaceMap) (key : List ℕ) (served : HasPlaces size places) where
  -- one more, where a segment may lie
  pub served_with : (place : Place) → IsPlace size place → HasPlaces size (finite.insert places key place)
  served_with place right q found is = by_test (eq_by_cmp (slice_cmp nat_cmp) q key) (sym (finite.get-insert nat_list_cmp_total places key place q) ∙ is)
    where
      by_test : (same : Bool) → cond same (Some place) (finite.get places q) ≡ Some found → IsPlace size found
      by_test true is = subst (IsPlace size) (same_place place found is) right
      by_test false is = served q found is

  -- one fewer
  pub served_without : HasPlaces size (finite.remove places key)
  served_without q found is = by_test (eq_by_cmp (slice_cmp nat_cmp) q key) (sym (finite.get-remove nat_list_cmp_total places key q) ∙ is)
    where
      by_test : (same : Bool) → cond same None (finite.get places q) ≡ Some found → IsPlace size found
      by_test true is = absurd cc
      by_test false is = served q found is
