-- Tables run on beside an index that has fewer keys, or the same.
use Rattle.gc_steps.proofs.Prelude.{◌≡◌, ℕ, List, Option, Some, None, refl, sym, ◌∙◌, subst, PlaceMap, KnownMap, IsPartialIndexOf, some_same, Runs, Tables}
use Rattle.copy_forward.specs.Entries.{without_keys}
use Rattle.store_state.specs.Indexing.{Stays}
use Rattle.gc_sweep.proofs.KeyLists.{had_before}

-- with an index that has fewer keys
pub runs_emptied : (size new_size : ℕ) (known after_known : Option PlaceMap) (t : Tables) (keys : List (List ℕ)) → new_size ≡ size
    → KnownMap known (λ m. after_known ≡ Some (without_keys keys m))
    → Stays known after_known → Runs size known t → Runs new_size after_known t
runs_emptied size new_size known after_known t keys same removed stays runs = subst (λ (n : ℕ). Runs n after_known t) (sym same) (record {
  store = runs.store;
  represents = record {
    slots_are = runs.represents.slots_are;
    names_are = runs.represents.names_are;
    slots_hold = runs.represents.slots_hold;
    index_is_newest = by_known known runs.represents.index_is_newest removed stays;
  };
  valid = runs.valid;
  has_free = runs.has_free;
})
  where
    by_known : (k : Option PlaceMap) → KnownMap k (IsPartialIndexOf runs.store.held) → KnownMap k (λ m. after_known ≡ Some (without_keys keys m)) → Stays k after_known
        → KnownMap after_known (IsPartialIndexOf runs.store.held)
    by_known None partial removed stays m is = absurd (let wrong : None ≡ Some m = sym (stays refl) ∙ is in cc)
    by_known (Some before) partial removed stays m is =
        subst (IsPartialIndexOf runs.store.held) (some_same (without_keys keys before) m (sym (removed before refl) ∙ is))
        (λ key place has. partial before refl key place (had_before keys before key place has))

-- with the same map
pub runs_same : (size new_size : ℕ) (known after_known : Option PlaceMap) (t : Tables) → new_size ≡ size → after_known ≡ known → Runs size known t → Runs new_size after_known t
runs_same size new_size known after_known t same_size same runs =
    subst (λ (n : ℕ). Runs n after_known t) (sym same_size) (subst (λ (k : Option PlaceMap). Runs size k t) (sym same) runs)
