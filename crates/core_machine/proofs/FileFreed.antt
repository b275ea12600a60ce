-- A machine of files that is stopped as containers were given back: which stores may stand then.
use Rattle.core_machine.proofs.Prelude.{◌≢◌, ◌≡◌, ◌⊎◌, inl, inr, ◌<◌, ℕ, zero, suc, List, [], ◌∷◌, take, Some, None, refl, sym, arith, AllByRecursion, Contains-append_left, Contains-append_right, RESERVE, FreesSome, FreesTo, with_all_freed, with_freed, Store, IsReachable, free_slots, FileMachine, Found, RunState, Running, Stopped, NamesNeed, IsGivenBack, IsNamedBy, MayBeFound, freeing, of_files, stores_freed}
use Rattle.std.proofs.Common.{Contains}
use Rattle.store_model.specs.Freeing.{IsLeastSpare}
use Rattle.store_model.proofs.FreedFiles.{frees_first}
use Rattle.store_machine.specs.Opening.{Stands}
use Rattle.store_machine.proofs.Reached.{needs_reach, reach_needs}

-- ---- what may stand

module _ (stores : List Store) where
  pub found_still : (state : RunState (List ℕ)) (now found : Found (List ℕ)) → MayBeFound of_files state now found → MayBeFound of_files (freeing of_files stores state) now found
  found_still Running now found is = is
  found_still (Stopped None before) now found is = is
  found_still (Stopped (Some other) before) now found is = is

  pub stands_still : (state : RunState (List ℕ)) (store before : Store) → Stands of_files state store before → Stands of_files (freeing of_files stores state) store before
  stands_still Running store before is = (0, omega arith, sym is)
  stands_still (Stopped other old) store before is = Contains-append_left (store ∷ old) stores before is

  pub stands_too : (state : RunState (List ℕ)) (store one : Store) → Contains stores one → Stands of_files (freeing of_files stores state) store one
  stands_too Running store one is = Contains-append_right (store ∷ []) stores one is
  stands_too (Stopped other old) store one is = Contains-append_right (store ∷ old) stores one is

-- ---- the stores on the way

-- once some slots are closed, it is the store that was or one on the way
pub on_the_way : (count : ℕ) (freed : List ℕ) (s : Store) → (with_all_freed (take count freed) s ≡ s) ⊎ Contains (stores_freed freed s) (with_all_freed (take count freed) s)
on_the_way zero freed s = inl refl
on_the_way (suc count) [] s = inl refl
on_the_way (suc count) (slot ∷ rest) s = elim (on_the_way count rest (with_freed slot s)) [
  | inl is ↦ inr (0, omega arith, sym is)
  | inr later ↦ inr (Contains-append_right (with_freed slot s ∷ []) (stores_freed rest (with_freed slot s)) (with_all_freed (take count rest) (with_freed slot s)) later)
]

each_on_way : (P : Store → Type 0) (freed : List ℕ) (s : Store) → ((count : ℕ) → take count freed ≢ [] → P (with_all_freed (take count freed) s)) →
    AllByRecursion P (stores_freed freed s)
each_on_way P [] s each = tt
each_on_way P (slot ∷ rest) s each = (each 1 (λ none. cc), each_on_way P rest (with_freed slot s) (λ count some. each (suc count) (λ none. cc)))

module _ (m : FileMachine) (found : Found (List ℕ)) (may : MayBeFound of_files m.state m.now found) (before : Store) (stands : Stands of_files m.state m.store before)
    (named : IsNamedBy of_files found before) (few : free_slots before.held < RESERVE) where
  pub given_back : (freed : List ℕ) → freed ≢ [] → FreesSome (NamesNeed of_files found) freed before → IsGivenBack of_files m (with_all_freed freed before)
  given_back freed some frees = record {
    found = found;
    may = may;
    before = before;
    stands = stands;
    named = named;
    few = few;
    freed = freed;
    some = some;
    frees = frees;
    left =
        refl;
  }

  pub each_given : (freed : List ℕ) → FreesSome (NamesNeed of_files found) freed before → AllByRecursion (IsGivenBack of_files m) (stores_freed freed before)
  each_given freed frees =
      each_on_way (IsGivenBack of_files m) freed before (λ count some. given_back (take count freed) some (frees_first (NamesNeed of_files found) count freed before frees))

-- ---- what is given back, as the names' files can be reached and as the machine needs them

module _ (found : Found (List ℕ)) where
  least_needed : (s : Store) (slot : ℕ) → IsLeastSpare (IsReachable found.names) s slot → IsLeastSpare (NamesNeed of_files found) s slot
  least_needed s slot spare = record {
    header = spare.header;
    holds = spare.holds;
    none = λ key copy needs. spare.none key copy (needs_reach found key needs);
    least = λ other h there none. spare.least other h there (λ key copy is. none key copy (reach_needs found key is));
  }

  pub some_needed : (freed : List ℕ) (s : Store) → FreesSome (IsReachable found.names) freed s → FreesSome (NamesNeed of_files found) freed s
  some_needed [] s frees = tt
  some_needed (slot ∷ rest) s (few, least, more) = (few, least_needed s slot least, some_needed rest (with_freed slot s) more)

  pub all_needed : (freed : List ℕ) (s t : Store) → FreesTo (IsReachable found.names) freed s t → FreesTo (NamesNeed of_files found) freed s t
  all_needed [] s t (is, inl enough) = (is, inl enough)
  all_needed [] s t (is, inr none) =
      (is, inr (λ slot spare. none slot (record { header = spare.header; holds = spare.holds; none = λ key copy is. spare.none key copy (reach_needs found key is) })))
  all_needed (slot ∷ rest) s t (few, least, more) = (few, least_needed s slot least, all_needed rest (with_freed slot s) t more)
