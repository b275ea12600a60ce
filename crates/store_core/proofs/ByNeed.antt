-- How much of a container is needed, by what is live.
use Rattle.store_core.proofs.Prelude.{◌≡◌, inl, inr, ℕ, List, [], ◌∷◌, Option, Some, sym, ◌∙◌, ap, Entry, Kind, Place, PlaceMap, HeaderValue, SumsLive, LiveKeys, IsLiveAt, IsWithin, at_copy, copy_at, HasKey, IsPartialIndexOf, place_of, some_same}
use Rattle.copy_forward.specs.Entries.{IsLiveCopy}
use Rattle.store_model.specs.Indexing.{entry_key}
use Rattle.store_model.specs.Needed.{IsNeededCopy, SumsNeeded}

-- Where just the keys of which P holds are live, and the index has the newest copy of each, what is live is needed.
module _ (P : List ℕ → Type 0) (index : PlaceMap) (held : List (Option HeaderValue)) (live : LiveKeys) (partial : IsPartialIndexOf held index) (within : IsWithin P live)
    (indexed : (key : List ℕ) → P key → HasKey index key) (marked : (key : List ℕ) (place : Place) → P key → IsLiveAt live key place) where
  needed_of : (kind : Kind) (slot : ℕ) (e : Entry) → IsLiveCopy index live kind slot e → IsNeededCopy P held kind slot e
  needed_of kind slot e is = (within (entry_key kind e) (place_of slot e) is.1, partial (entry_key kind e) (place_of slot e) (copy_at index kind slot e is.0))

  live_of : (kind : Kind) (slot : ℕ) (e : Entry) → IsNeededCopy P held kind slot e → IsLiveCopy index live kind slot e
  live_of kind slot e is =
      let has = indexed (entry_key kind e) is.0 in
      let same : has.0 ≡ place_of slot e = some_same has.0 (place_of slot e) (sym (partial (entry_key kind e) has.0 has.1) ∙ is.1) in
      (at_copy index kind slot e (has.1 ∙ ap Some same), marked (entry_key kind e) (place_of slot e) is.0)

  pub sums_needed : (kind : Kind) (slot : ℕ) (es : List Entry) (sum : ℕ) → SumsLive index live kind slot es sum → SumsNeeded P held kind slot es sum
  sums_needed kind slot [] sum sums = sums
  sums_needed kind slot (e ∷ es) sum (inl here) = inl (needed_of kind slot e here.0, (here.1.0, here.1.1, sums_needed kind slot es here.1.0 here.1.2))
  sums_needed kind slot (e ∷ es) sum (inr dead) = inr ((λ needed. dead.0 (live_of kind slot e needed)), sums_needed kind slot es sum dead.1)
