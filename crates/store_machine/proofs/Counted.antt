-- The ids of the containers that a collection writes and gives back, and how many it writes.
use Rattle.store_machine.proofs.Prelude.{◌≡◌, ◌+◌, ◌<◌, ◌≤◌, ℕ, zero, suc, Bool, true, false, nat_lt, ListOf, [], ◌∷◌, ◌++◌, length, map, Option, Some, None, refl, sym, ◌∙◌, ap, subst, arith, AllByRecursion, HeaderValue, header_of, there_before, with_freed, Store, first_free, free_slots, with_slot, ChangeName, FlushContainer, FreeContainer, SealContainer, StoreChange, with_sealed, Makes}
use Rattle.std.proofs.Common.{if◌then◌else◌, slice_get}
use Rattle.std.proofs.lemmas.Bool.{lt-ltb, ltb-true}
use Rattle.store_model.specs.Slots.{without_slot}
use Rattle.store_model.specs.Steps.{changed}
use Rattle.store_model.proofs.Filled.{free_less, length-with_slot}
use Rattle.store_model.proofs.Freed.{free_freed, length-without_slot}
use Rattle.store_machine.specs.Collecting.{StandIn}
use Rattle.store_machine.specs.CollectsAlone.{IsOfSweep}
use Rattle.store_machine.specs.CollectsByNeed.{FreesUpTo, TakesIds, written_in}

-- ---- changes, one after the other

pub written_then : (xs ys : ListOf StoreChange) → written_in (xs ++ ys) ≡ written_in xs + written_in ys
written_then [] ys = omega arith
written_then (SealContainer id kind segments ∷ xs) ys = written_then xs ys
written_then (ChangeName name change ∷ xs) ys = written_then xs ys
written_then (FlushContainer id kind segments ∷ xs) ys = omega (arith, written_then xs ys)
written_then (FreeContainer slot ∷ xs) ys = written_then xs ys

pub takes_then : (last : ℕ) (xs ys : ListOf StoreChange) → TakesIds last xs → TakesIds (last + written_in xs) ys → TakesIds last (xs ++ ys)
takes_then last [] ys first next = subst (λ (n : ℕ). TakesIds n ys) (let is : last + 0 ≡ last = omega arith in is) next
takes_then last (SealContainer id kind segments ∷ xs) ys first next = takes_then last xs ys first next
takes_then last (ChangeName name change ∷ xs) ys first next = takes_then last xs ys first next
takes_then last (FlushContainer id kind segments ∷ xs) ys first next = (
  first.0,
  takes_then (suc last) xs ys first.1
      (subst (λ (n : ℕ). TakesIds n ys) (let is : last + (1 + written_in xs) ≡ suc last + written_in xs = omega arith in is) next),
)
takes_then last (FreeContainer slot ∷ xs) ys first next = takes_then last xs ys first next

pub frees_then : (last : ℕ) (xs ys : ListOf StoreChange) (s t : Store) → Makes xs s t → FreesUpTo last xs s → FreesUpTo last ys t → FreesUpTo last (xs ++ ys) s
frees_then last [] ys s t makes first next = subst (FreesUpTo last ys) makes next
frees_then last (SealContainer id kind segments ∷ xs) ys s t (can, makes) first next = frees_then last xs ys (changed (SealContainer id kind segments) s) t makes first next
frees_then last (ChangeName name change ∷ xs) ys s t (can, makes) first next = frees_then last xs ys (changed (ChangeName name change) s) t makes first next
frees_then last (FlushContainer id kind segments ∷ xs) ys s t (can, makes) first next = frees_then last xs ys (changed (FlushContainer id kind segments) s) t makes first next
frees_then last (FreeContainer slot ∷ xs) ys s t (can, makes) first next = (first.0, frees_then last xs ys (changed (FreeContainer slot) s) t makes first.1 next)

-- of slots that are closed: they write nothing, and none had a later id
pub none_by_freed : (slots : ListOf ℕ) → written_in (map FreeContainer slots) ≡ 0
none_by_freed [] = refl
none_by_freed (slot ∷ slots) = none_by_freed slots

pub takes_freed : (last : ℕ) (slots : ListOf ℕ) → TakesIds last (map FreeContainer slots)
takes_freed last [] = tt
takes_freed last (slot ∷ slots) = takes_freed last slots

abbrev HasLow : ℕ → Store → ℕ → Type 0
HasLow last s slot = (h : HeaderValue) → slice_get s.held slot ≡ Some (Some h) → h.id ≤ last

low_then : (last slot : ℕ) (slots : ListOf ℕ) (s : Store) → AllByRecursion (HasLow last s) slots → AllByRecursion (HasLow last (with_freed slot s)) slots
low_then last slot [] s low = tt
low_then last slot (other ∷ slots) s low = ((λ h there. low.0 h (there_before slot other h s.held there).1), low_then last slot slots s low.1)

frees_low : (last : ℕ) (slots : ListOf ℕ) (s : Store) → AllByRecursion (HasLow last s) slots → FreesUpTo last (map FreeContainer slots) s
frees_low last [] s low = tt
frees_low last (slot ∷ slots) s low = (low.0, frees_low last slots (with_freed slot s) (low_then last slot slots s low.1))

pub frees_freed : (last : ℕ) (ids slots : ListOf ℕ) (s : Store) → StandIn s.held ids slots → AllByRecursion (λ id. id ≤ last) ids → FreesUpTo last (map FreeContainer slots) s
frees_freed last ids slots s stand low = frees_low last slots s (low_in ids slots stand low)
  where
    low_in : (ids slots : ListOf ℕ) → StandIn s.held ids slots → AllByRecursion (λ id. id ≤ last) ids → AllByRecursion (HasLow last s) slots
    low_in [] [] stand low = tt
    low_in [] (slot ∷ slots) stand low = absurd stand
    low_in (id ∷ ids) [] stand low = absurd stand
    low_in (id ∷ ids) (slot ∷ slots) ((g, there, is), stand) low = (
      (λ h has.
          let same : g ≡ h = (let two : Some (Some g) ≡ Some (Some h) = sym there ∙ has in cc) in
          omega (arith, low.0, is, ap (λ (x : HeaderValue). x.id) same)),
      low_in ids slots stand low.1,
    )

-- ---- how many slots have a container of an id above one

abbrev above_in : ℕ → ListOf (Option HeaderValue) → ℕ
above_in last [] = 0
above_in last (None ∷ cs) = above_in last cs
above_in last (Some h ∷ cs) = if nat_lt last h.id then suc (above_in last cs) else above_in last cs

above_first : (n free many : ℕ) (test : Bool) → n + free ≤ many → (if test then suc n else n) + free ≤ suc many
above_first n free many true is = omega (arith, is)
above_first n free many false is = omega (arith, is)

above_free : (last : ℕ) (held : ListOf (Option HeaderValue)) → above_in last held + free_slots held ≤ length held
above_free last [] = omega arith
above_free last (None ∷ cs) = omega (arith, above_free last cs)
above_free last (Some h ∷ cs) = above_first (above_in last cs) (free_slots cs) (length cs) (nat_lt last h.id) (above_free last cs)

pub free_within : (held : ListOf (Option HeaderValue)) → free_slots held ≤ length held
free_within held = omega (arith, above_free 0 held)

above_one : (last n : ℕ) (h : HeaderValue) → last < h.id → (if nat_lt last h.id then suc n else n) ≡ suc n
above_one last n h above = ap (λ (b : Bool). if b then suc n else n) (lt-ltb last h.id above)

below_one : (last n : ℕ) (h : HeaderValue) → h.id ≤ last → (if nat_lt last h.id then suc n else n) ≡ n
below_one last n h below = by (nat_lt last h.id) refl
  where
    by : (b : Bool) → nat_lt last h.id ≡ b → (if b then suc n else n) ≡ n
    by true is = absurd (omega (arith, below, ltb-true last h.id is))
    by false is = refl

above_more : (n m : ℕ) (test : Bool) → n ≡ suc m → (if test then suc n else n) ≡ suc (if test then suc m else m)
above_more n m true is = ap suc is
above_more n m false is = is

above_with : (last : ℕ) (h : HeaderValue) (held : ListOf (Option HeaderValue)) → 1 ≤ free_slots held → last < h.id
    → above_in last (with_slot (first_free held) h held) ≡ suc (above_in last held)
above_with last h [] some above = absurd (omega (arith, some))
above_with last h (None ∷ cs) some above = above_one last (above_in last cs) h above
above_with last h (Some g ∷ cs) some above = above_more (above_in last (with_slot (first_free cs) h cs)) (above_in last cs) (nat_lt last g.id) (above_with last h cs some above)

above_without : (last slot : ℕ) (held : ListOf (Option HeaderValue)) → ((h : HeaderValue) → slice_get held slot ≡ Some (Some h) → h.id ≤ last)
    → above_in last (without_slot slot held) ≡ above_in last held
above_without last slot [] low = refl
above_without last zero (None ∷ cs) low = refl
above_without last zero (Some g ∷ cs) low = sym (below_one last (above_in last cs) g (low g refl))
above_without last (suc slot) (None ∷ cs) low = above_without last slot cs low
above_without last (suc slot) (Some g ∷ cs) low = ap (λ (n : ℕ). if nat_lt last g.id then suc n else n) (above_without last slot cs low)

-- each container that changes wrote is there, and a slot is closed
few_from : (changes : ListOf StoreChange) (last from : ℕ) (s t : Store) → AllByRecursion IsOfSweep changes → Makes changes s t → TakesIds from changes → last ≤ from
    → FreesUpTo last changes s → 1 ≤ free_slots s.held → written_in changes + above_in last s.held < length s.held
few_from [] last from s t each makes ids low frees some = omega (arith, above_free last s.held, some)
few_from (SealContainer id kind segments ∷ more) last from s t each makes ids low frees some = absurd each.0
few_from (ChangeName name change ∷ more) last from s t each makes ids low frees some = absurd each.0
few_from (FlushContainer id kind segments ∷ more) last from s t each (can, makes) ids low frees some =
    let h : HeaderValue = header_of id kind segments in
    let after : Store = with_sealed id kind segments s in
    let less : suc (free_slots after.held) ≡ free_slots s.held = free_less h s.held some in
    let rest = few_from more last (suc from) after t each.1 makes ids.1 (omega (arith, low)) frees (omega (arith, less, can.slot)) in
    let new : above_in last after.held ≡ suc (above_in last s.held) = above_with last h s.held some (omega (arith, ids.0, low)) in
    omega (arith, rest, new, length-with_slot (first_free s.held) h s.held)
few_from (FreeContainer slot ∷ more) last from s t each ((h, there), makes) ids low frees some =
    let after : Store = with_freed slot s in
    let rest = few_from more last from after t each.1 makes ids low frees.1 (omega (arith, free_freed slot h s.held there, some)) in
    omega (arith, rest, above_without last slot s.held frees.0, length-without_slot slot s.held)

pub few_written : (changes : ListOf StoreChange) (last : ℕ) (s t : Store) → AllByRecursion IsOfSweep changes → Makes changes s t → TakesIds last changes
    → FreesUpTo last changes s → 1 ≤ free_slots s.held → written_in changes < length s.held
few_written changes last s t each makes ids frees some = omega (arith, few_from changes last last s t each makes ids (omega arith) frees some)
