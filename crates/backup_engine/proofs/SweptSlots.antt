-- What the changes of a collection make of the slots of a store, whatever the disk holds: which were closed, and which filled.
use Rattle.backup_engine.proofs.Prelude.{each_so, ◌≡◌, ◌⊎◌, inl, inr, ◌+◌, ◌<◌, ◌≤◌, ℕ, zero, suc, List, [], ◌∷◌, ◌++◌, Option, Some, None, refl, sym, ap, subst, arith, Contains, slice_get, AllByRecursion, Contains-append_right, Contains-get_or, HeaderValue, HadContainer, copied_in, freed_in, with_freed, Store, first_free, free_slots, last_id, with_slot, without_slot, StoreChange, SealContainer, ChangeName, FlushContainer, FreeContainer, some_same, first_closed, some_free, there_before, written_in, MayFill, with_all_freed, ◌≢◌, length, map, Contains-append_left, both_so}
use Rattle.store_machine.proofs.Released.{there_all}
use Rattle.backup_engine.specs.Collected.{IsOfCollection}

-- ---- changes, one after the other

pub freed-append : (first more : List StoreChange) → freed_in (first ++ more) ≡ freed_in first + freed_in more
freed-append [] more = omega arith
freed-append (SealContainer id kind segments ∷ changes) more = freed-append changes more
freed-append (ChangeName name change ∷ changes) more = freed-append changes more
freed-append (FlushContainer id kind segments ∷ changes) more = freed-append changes more
freed-append (FreeContainer slot ∷ changes) more = omega (arith, freed-append changes more)

pub copied-append : (first more : List StoreChange) → copied_in (first ++ more) ≡ copied_in first + copied_in more
copied-append [] more = omega arith
copied-append (SealContainer id kind segments ∷ changes) more = copied-append changes more
copied-append (ChangeName name change ∷ changes) more = copied-append changes more
copied-append (FlushContainer id kind segments ∷ changes) more = omega (arith, copied-append changes more)
copied-append (FreeContainer slot ∷ changes) more = copied-append changes more

pub written-append : (first more : List StoreChange) → written_in (first ++ more) ≡ written_in first + written_in more
written-append [] more = omega arith
written-append (SealContainer id kind segments ∷ changes) more = written-append changes more
written-append (ChangeName name change ∷ changes) more = written-append changes more
written-append (FlushContainer id kind segments ∷ changes) more = omega (arith, written-append changes more)
written-append (FreeContainer slot ∷ changes) more = written-append changes more

-- changes that give containers back
pub record GivesThese (slots : List ℕ) : Type 0 where
  pub each : AllByRecursion IsOfCollection (map FreeContainer slots)
  pub freed : freed_in (map FreeContainer slots) ≡ length slots
  pub copied : copied_in (map FreeContainer slots) ≡ 0
  pub written : written_in (map FreeContainer slots) ≡ 0

pub gives_these : (slots : List ℕ) → GivesThese slots
gives_these [] = record { each = tt; freed = refl; copied = refl; written = refl }
gives_these (slot ∷ slots) =
    let rest = gives_these slots in
    record { each = (tt, rest.each); freed = omega (arith, rest.freed); copied = rest.copied; written = rest.written }

-- ---- one slot

-- what a slot has once a container is in one of them, or one of them is closed
with_there : (place slot : ℕ) (h g : HeaderValue) (held : List (Option HeaderValue)) → slice_get (with_slot place h held) slot ≡ Some (Some g) →
    (g ≡ h) ⊎ (slice_get held slot ≡ Some (Some g))
with_there place slot h g [] there = inr there
with_there zero zero h g (c ∷ cs) there = inl (sym (some_same h g (some_same (Some h) (Some g) there)))
with_there zero (suc slot) h g (c ∷ cs) there = inr there
with_there (suc place) zero h g (c ∷ cs) there = inr there
with_there (suc place) (suc slot) h g (c ∷ cs) there = with_there place slot h g cs there

with_closed : (place slot : ℕ) (h : HeaderValue) (held : List (Option HeaderValue)) → slice_get (with_slot place h held) slot ≡ Some None → slice_get held slot ≡ Some None
with_closed place slot h [] closed = closed
with_closed zero zero h (c ∷ cs) closed = absurd (let wrong : Some h ≡ None = some_same (Some h) None closed in cc)
with_closed zero (suc slot) h (c ∷ cs) closed = closed
with_closed (suc place) zero h (c ∷ cs) closed = closed
with_closed (suc place) (suc slot) h (c ∷ cs) closed = with_closed place slot h cs closed

without_closed : (place slot : ℕ) (held : List (Option HeaderValue)) → slice_get (without_slot place held) slot ≡ Some None → (place ≡ slot) ⊎ (slice_get held slot ≡ Some None)
without_closed place slot [] closed = inr closed
without_closed zero zero (c ∷ cs) closed = inl refl
without_closed zero (suc slot) (c ∷ cs) closed = inr closed
without_closed (suc place) zero (c ∷ cs) closed = inr closed
without_closed (suc place) (suc slot) (c ∷ cs) closed = elim (without_closed place slot cs closed) [ inl same ↦ inl (ap suc same) | inr was ↦ inr was ]

-- ---- several that were closed

-- what stands in a slot then is in none of them
pub none_of_gone : (gone : List ℕ) (slot : ℕ) (h : HeaderValue) (s : Store) → slice_get (with_all_freed gone s).held slot ≡ Some (Some h) → AllByRecursion (λ one. one ≢ slot) gone
none_of_gone [] slot h s there = tt
none_of_gone (one ∷ gone) slot h s there =
    ((there_before one slot h s.held (there_all gone (with_freed one s) slot h there)).0, none_of_gone gone slot h (with_freed one s) there)

-- one that is closed then was so, or is one of them
all_closed : (gone : List ℕ) (slot : ℕ) (s : Store) → slice_get (with_all_freed gone s).held slot ≡ Some None → Contains gone slot ⊎ (slice_get s.held slot ≡ Some None)
all_closed [] slot s closed = inr closed
all_closed (one ∷ gone) slot s closed = elim (all_closed gone slot (with_freed one s) closed) [
  | inl later ↦ inl (Contains-append_right (one ∷ []) gone slot later)
  | inr was ↦ elim (without_closed one slot s.held was) [
    | inl same ↦ inl (subst (Contains (one ∷ gone)) same (Contains-get_or (one ∷ gone) 0 0 (omega arith)))
    | inr before ↦ inr before
  ]
]

-- ---- all of them

-- A store came from another by changes of a collection. Each slot that was closed by them had a container of the first store, and each that was
-- filled was closed in it, or by them.
pub record SweptSlots (s after : Store) (freed filled : List ℕ) : Type 0 where
  pub had : AllByRecursion (HadContainer s) freed
  pub may : AllByRecursion (MayFill s freed) filled
  pub there : (slot : ℕ) (h : HeaderValue) → slice_get after.held slot ≡ Some (Some h) → (slice_get s.held slot ≡ Some (Some h)) ⊎ (last_id s.held < h.id)
  pub closed : (slot : ℕ) → slice_get after.held slot ≡ Some None → MayFill s freed slot

pub no_slots : (s : Store) → SweptSlots s s [] []
no_slots s = record { had = tt; may = tt; there = λ slot h there. inl there; closed = λ slot closed. inl closed }

-- where more slots were closed
pub may_more : (s : Store) (gone freed : List ℕ) (other : ℕ) → MayFill s freed other → MayFill s (gone ++ freed) other
may_more s gone freed other (inl closed) = inl closed
may_more s gone freed other (inr one) = inr (Contains-append_right gone freed other one)

module _ (s after : Store) (freed filled : List ℕ) (slots : SweptSlots s after freed filled) where
  -- containers are given back that were there at first
  pub slots_freed : (gone : List ℕ) → AllByRecursion (HadContainer s) gone → SweptSlots s (with_all_freed gone after) (gone ++ freed) filled
  slots_freed gone had = record {
    had = both_so (HadContainer s) gone freed had slots.had;
    may = each_so (MayFill s freed) (MayFill s (gone ++ freed)) filled (may_more s gone freed) slots.may;
    there = λ other h there. slots.there other h (there_all gone after other h there);
    closed = λ other closed. elim (all_closed gone other after closed) [
      | inl one ↦ inr (Contains-append_left gone freed other one)
      | inr was ↦ may_more s gone freed other (slots.closed other was)
    ];
  }

  -- or one is written, under an id above all of before
  module _ (h : HeaderValue) (some : 1 ≤ free_slots after.held) (above : last_id s.held < h.id) where
    abbrev place : ℕ
    place = first_free after.held

    abbrev pub filled_store : Store
    filled_store = record after { held = with_slot place h after.held }

    new_there : (slot : ℕ) (g : HeaderValue) → slice_get (with_slot place h after.held) slot ≡ Some (Some g) → (slice_get s.held slot ≡ Some (Some g)) ⊎ (last_id s.held < g.id)
    new_there slot g there = elim (with_there place slot h g after.held there) [
      | inl same ↦ inr (omega (arith, above, ap (λ (x : HeaderValue). x.id) same))
      | inr was ↦ slots.there slot g was
    ]

    pub was_closed : MayFill s freed place
    was_closed = slots.closed place (first_closed after.held (some_free after.held some))

    pub slots_filled : SweptSlots s filled_store freed (place ∷ filled)
    slots_filled = record {
      had = slots.had;
      may = (was_closed, slots.may);
      there = new_there;
      closed = λ slot closed. slots.closed slot (with_closed place slot h after.held closed);
    }
