-- What an index of a store answers.
use Rattle.store_model.proofs.Prelude.{◌≡◌, ℕ, List, Option, Some, None, option_map, refl, sym, ◌∙◌, ap, Place, PlaceMap, HeaderValue, Copy, HasKey, newest, IsIndexOf, IsPartialIndexOf, Store}
use Rattle.std.specs.FinMap as finite

none_of : (copy : Option Copy) → option_map (λ (c : Copy). c.place) copy ≡ None → copy ≡ None
none_of None none = refl
none_of (Some copy) none = absurd cc

some_of : (copy : Option Copy) (place : Place) → option_map (λ (c : Copy). c.place) copy ≡ Some place → (c : Copy) × (copy ≡ Some c) × (c.place ≡ place)
some_of None place some = absurd cc
some_of (Some copy) place some = (copy, refl, cc)

-- a key that the index lacks has no copy
pub lacks : (store : Store) (places : PlaceMap) (key : List ℕ) → IsIndexOf store.held places → finite.get places key ≡ None → newest 0 store.held key ≡ None
lacks store places key index found = none_of (newest 0 store.held key) (sym (index key) ∙ found)

-- the place of one that it has is that of its newest copy
pub finds : (store : Store) (places : PlaceMap) (key : List ℕ) (place : Place) → IsPartialIndexOf store.held places → finite.get places key ≡ Some place
    → (copy : Copy) × (newest 0 store.held key ≡ Some copy) × (copy.place ≡ place)
finds store places key place index found = some_of (newest 0 store.held key) place (index key place found)

-- an index of all keys has each that is held
pub indexed_by : (held : List (Option HeaderValue)) (places : PlaceMap) → IsIndexOf held places → (key : List ℕ) (copy : Copy) → newest 0 held key ≡ Some copy → HasKey places key
indexed_by held places index key copy is = (copy.place, index key ∙ ap (option_map (λ (c : Copy). c.place)) is)

-- an index of all keys is one of some
pub partial_of : (held : List (Option HeaderValue)) (places : PlaceMap) → IsIndexOf held places → IsPartialIndexOf held places
partial_of held places index key place found = sym (index key) ∙ found
