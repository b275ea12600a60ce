-- Keys that leave the index.
use Rattle.std.proofs.Common.{◌≡◌, ◌∙◌, ℕ, ◌+◌, ◌<◌, List, [], ◌∷◌, ◌++◌, length, take, get_or, Option, Some, None, refl, sym, ap}
use Rattle.std.specs.FinMap as finite
use Rattle.std.proofs.lemmas.List.{take_more}
use Rattle.container_meta.specs.Places.{PlaceMap}
use Rattle.segment_index.specs.Places.{KnownMap}
use Rattle.refusals.specs.declared.refusal.Refusal.{Refusal}
use Rattle.refusals.specs.declared.refusal.Refusal.TheVariants.{Memory, DiskWrite, Damaged}
use Rattle.store_state.specs.Indexing.{IsChangeRefusal}
use Rattle.copy_forward.specs.Entries.{IsRemoveRefusal, without_keys}

-- a refusal of a map that isn't known, where it wasn't before either
pub remove_on : (old next : Option PlaceMap) → (next ≡ None → old ≡ None) → (refusal : Refusal) → IsRemoveRefusal next refusal → IsRemoveRefusal old refusal
remove_on old next back DiskWrite cause = tt
remove_on old next back (Damaged at why) cause = back cause
remove_on old next back _ cause = absurd cause

-- one of a change that takes no memory
pub removing : (known : Option PlaceMap) (refusal : Refusal) → (refusal ≡ Memory → ⊥) → IsChangeRefusal known refusal → IsRemoveRefusal known refusal
removing known Memory none cause = none refl
removing known DiskWrite none cause = tt
removing known (Damaged at why) none cause = cause
removing known _ none cause = absurd cause

-- ---- one key after the other

-- These keys are out.
abbrev pub AreOut : List (List ℕ) → Option PlaceMap → Option PlaceMap → Type 0
AreOut keys had has = KnownMap had (λ m. has ≡ Some (without_keys keys m))

without_push : (keys : List (List ℕ)) (key : List ℕ) (m : PlaceMap) → without_keys (keys ++ key ∷ []) m ≡ finite.remove (without_keys keys m) key
without_push [] key m = refl
without_push (k ∷ ks) key m = without_push ks key (finite.remove m k)

pub one_out : (keys : List (List ℕ)) (i : ℕ) (d : List ℕ) (had mid has : Option PlaceMap) → i < length keys → AreOut (take i keys) had mid
    → KnownMap mid (λ m. has ≡ Some (finite.remove m (get_or keys i d)))
    → AreOut (take (i + 1) keys) had has
one_out keys i d had mid has within so_far one m known =
    one (without_keys (take i keys) m) (so_far m known)
    ∙ ap Some (sym (without_push (take i keys) (get_or keys i d) m) ∙ ap (λ (ks : List (List ℕ)). without_keys ks m) (sym (take_more keys i d within)))
