-- Changes that give back only containers of before, one after the other.
use Rattle.backup_engine.proofs.Prelude.{◌≤◌, ℕ, List, [], ◌∷◌, ◌++◌, subst, ChangesTo, with_freed, Store, StoreChange, SealContainer, ChangeName, FlushContainer, FreeContainer, with_change, with_sealed, FreesUpTo, each_so, ◌≡◌, ◌∙◌, AllByRecursion, HeaderValue, Some, map, refl, slice_get, there_before, with_all_freed}
use Rattle.backup_engine.proofs.NewContainers.{new_in, new_without}

-- what a slot has is of before
abbrev pub IsEarlier : ℕ → Store → ℕ → Type 0
IsEarlier last s slot = (h : HeaderValue) → slice_get s.held slot ≡ Some (Some h) → h.id ≤ last

-- also once another is closed
earlier_still : (last slot : ℕ) (others : List ℕ) (s : Store) → AllByRecursion (IsEarlier last s) others → AllByRecursion (IsEarlier last (with_freed slot s)) others
earlier_still last slot others s =
    each_so (IsEarlier last s) (IsEarlier last (with_freed slot s)) others (λ other is h there. is h (there_before slot other h s.held there).1)

-- such are given back, one after the other
pub frees_earlier : (last : ℕ) (slots : List ℕ) (s : Store) → AllByRecursion (IsEarlier last s) slots → FreesUpTo last (map FreeContainer slots) s
frees_earlier last [] s all = tt
frees_earlier last (slot ∷ slots) s all = (all.0, frees_earlier last slots (with_freed slot s) (earlier_still last slot slots s all.1))

-- which leaves as many of those that came later
pub new_earlier : (last : ℕ) (slots : List ℕ) (s : Store) → AllByRecursion (IsEarlier last s) slots → new_in last (with_all_freed slots s).held ≡ new_in last s.held
new_earlier last [] s all = refl
new_earlier last (slot ∷ slots) s all =
    new_earlier last slots (with_freed slot s) (earlier_still last slot slots s all.1) ∙ new_without last slot s.held all.0

-- and others after them
pub frees_on : (last : ℕ) (changes more : List StoreChange) (s t : Store) → ChangesTo changes s t → FreesUpTo last changes s → FreesUpTo last more t →
    FreesUpTo last (changes ++ more) s
frees_on last [] more s t chain first then = subst (λ (x : Store). FreesUpTo last more x) chain then
frees_on last (SealContainer id kind segments ∷ rest) more s t chain first then = frees_on last rest more (with_sealed id kind segments s) t chain.1 first then
frees_on last (ChangeName name change ∷ rest) more s t chain first then = frees_on last rest more (with_change name change s) t chain.1 first then
frees_on last (FlushContainer id kind segments ∷ rest) more s t chain first then = frees_on last rest more (with_sealed id kind segments s) t chain.1 first then
frees_on last (FreeContainer slot ∷ rest) more s t chain first then = (first.0, frees_on last rest more (with_freed slot s) t chain.1 first.1 then)
