-- Marks of keys that the index lacks say nothing.
use Rattle.gc_steps.proofs.Prelude.{◌≡◌, inl, ℕ, List, Some, refl, Part, Place, PlaceMap, LiveKeys, Store, Collection, IsLive}
use Rattle.std.proofs.Common.{◌↔◌}
use Rattle.std.specs.FinMap as finite
use Rattle.gc_enumerate.specs.Live.{IsLiveAt}
use Rattle.gc_steps.proofs.Carried.{KeepsBoth, carried, moves_none}

-- Where keys are marked, or no longer, and the index has none of them, both invariants stay.
pub marked_unseen : (index : PlaceMap) (store : Store) (image : List ℕ) (parts : List Part) (c : Collection) (marked : LiveKeys)
    → ((key : List ℕ) (place : Place) → finite.get index key ≡ Some place → IsLiveAt marked key place ↔ IsLiveAt c.live key place)
    → KeepsBoth index index store store parts parts image image c (record c { live = marked })
marked_unseen index store image parts c marked same =
    carried index index c marked store store image image parts parts
    (λ live. record {
      roots = λ key root. on key (live key root);
      keeps = λ key level bytes counts has. has;
      has_still = λ key has. has;
      live_still = on;
      each = λ key is. inl (back key is, refl);
      slots = λ slot h there. inl there;
    })
    (moves_none index store store c.snapshot refl)
  where
    on : (key : List ℕ) → IsLive index c.live key → IsLive index marked key
    on key (place, (found, is)) = (place, (found, (same key place found).1 is))

    back : (key : List ℕ) → IsLive index marked key → IsLive index c.live key
    back key (place, (found, is)) = (place, (found, (same key place found).0 is))
