-- Containers in the closed slots of least number, one after the other.
use Rattle.ingest_steps.proofs.Prelude.{◌≡◌, ℕ, suc, ◌+◌, ◌<◌, ◌≤◌, List, [], ◌∷◌, length, take, Option, Some, None, refl, sym, ◌∙◌, ap, subst, arith, AllByRecursion, Leaf, Contents, HeaderValue, header_of, Store, free_slots, first_free}
use Rattle.std.proofs.Common.{zero, slice_get}
use Rattle.container_meta.specs.Spelling.{IsHeader}
use Rattle.disk_format.specs.Layout.{size_of}
use Rattle.container_log.specs.Many.{AreSlots, placed}
use Rattle.store_model.specs.Slots.{with_slot}
use Rattle.store_model.specs.Steps.{with_sealed}
use Rattle.store_model.specs.Together.{Placed, AreFirstFree, CanPlace, IdsRise, MayPlace}
use Rattle.store_model.proofs.Filled.{free_less}
use Rattle.store_model.proofs.Together.{can_place}
use Rattle.store_state.specs.Tables.{closed_from}
use Rattle.ingest_steps.specs.Offering.{in_free}
use Rattle.ingest_steps.specs.SealingAll.{AreRight, MayAllSeal}

same_slot : (a b : ℕ) → Some a ≡ Some b → a ≡ b
same_slot a b is = cc

-- the first of them is the closed slot of least number, and the others are those that it leaves
closed_step : (at : ℕ) (held : List (Option HeaderValue)) (h : HeaderValue) → 1 ≤ free_slots held
    → closed_from at held ≡ (at + first_free held) ∷ closed_from at (with_slot (first_free held) h held)
closed_step at [] h some = absurd (omega (arith, some))
closed_step at (None ∷ cs) h some = let is : at ≡ at + 0 = omega arith in ap (λ (n : ℕ). n ∷ closed_from (suc at) cs) is
closed_step at (Some g ∷ cs) h some =
    let is : suc at + first_free cs ≡ at + suc (first_free cs) = omega arith in
    closed_step (suc at) cs h some ∙ ap (λ (n : ℕ). n ∷ closed_from (suc at) (with_slot (first_free cs) h cs)) is

abbrev pub first_in : ℕ → Contents → Store → Placed
first_in id c store = record { slot = first_free store.held; id = id; kind = c.kind; segments = c.segments }

pub in_free_step : (id : ℕ) (c : Contents) (cs : List Contents) (store : Store) → 1 ≤ free_slots store.held
    → in_free id (c ∷ cs) store ≡ first_in id c store ∷ in_free (suc id) cs (with_sealed id c.kind c.segments store)
in_free_step id c cs store some =
    let h : HeaderValue = header_of id c.kind c.segments in
    let is : 0 + first_free store.held ≡ first_free store.held = omega arith in
    ap (λ (l : List ℕ). placed l id (c ∷ cs))
    (closed_step 0 store.held h some ∙ ap (λ (n : ℕ). n ∷ closed_from 0 (with_slot (first_free store.held) h store.held)) is)

-- one slot fewer is left
pub fewer_left : (id : ℕ) (c : Contents) (count : ℕ) (store : Store) → suc count ≤ free_slots store.held
    → count ≤ free_slots (with_sealed id c.kind c.segments store).held
fewer_left id c count store room = omega (arith, room, free_less (header_of id c.kind c.segments) store.held (omega (arith, room)))

pub free_first : (id : ℕ) (filled : List Contents) (store : Store) → length filled ≤ free_slots store.held → AreFirstFree (in_free id filled store) store
free_first id [] store room = none (closed_from 0 store.held)
  where
    none : (l : List ℕ) → AreFirstFree (placed l id []) store
    none [] = tt
    none (s ∷ ss) = tt
free_first id (c ∷ cs) store room =
    subst (λ (ps : List Placed). AreFirstFree ps store) (sym (in_free_step id c cs store (omega (arith, room))))
    (refl, free_first (suc id) cs (with_sealed id c.kind c.segments store) (fewer_left id c (length cs) store room))

pub right_after : (id : ℕ) (c : Contents) (cs : List Contents) → AreRight id (c ∷ cs) → AreRight (suc id) cs
right_after id c cs right i x here = subst (λ (n : ℕ). IsHeader (header_of n x.kind x.segments)) (omega arith) (right (suc i) x here)

pub right_first : (id : ℕ) (c : Contents) (cs : List Contents) → AreRight id (c ∷ cs) → IsHeader (header_of id c.kind c.segments)
right_first id c cs right = subst (λ (n : ℕ). IsHeader (header_of n c.kind c.segments)) (omega arith) (right 0 c refl)

pub right_rest : (id : ℕ) (c : Contents) (cs : List Contents) → AreRight id (c ∷ cs) → AreRight (suc id) cs
right_rest = right_after

ids_rise : (last id : ℕ) (slots : List ℕ) (filled : List Contents) → last < id → AreRight id filled → IdsRise last (placed slots id filled)
ids_rise last id [] filled above right = tt
ids_rise last id (s ∷ ss) [] above right = tt
ids_rise last id (s ∷ ss) (c ∷ cs) above right =
    (above, right_first id c cs right, ids_rise id (suc id) ss cs (omega arith) (right_after id c cs right))

few_placed : (slots : List ℕ) (id : ℕ) (filled : List Contents) → length (placed slots id filled) ≤ length filled
few_placed [] id filled = omega arith
few_placed (s ∷ ss) id [] = omega arith
few_placed (s ∷ ss) id (c ∷ cs) = omega (arith, few_placed ss (suc id) cs)

-- they rise, and there are no more than there is room for
pub in_free_rise : (last id : ℕ) (filled : List Contents) (store : Store) → last < id → AreRight id filled → IdsRise last (in_free id filled store)
in_free_rise last id filled store above right = ids_rise last id (closed_from 0 store.held) filled above right

pub in_free_few : (id : ℕ) (filled : List Contents) (store : Store) → length filled ≤ free_slots store.held → length (in_free id filled store) ≤ free_slots store.held
in_free_few id filled store room = omega (arith, few_placed (closed_from 0 store.held) id filled, room)

pub can_in_free : (last id : ℕ) (filled : List Contents) (store : Store) → last < id → AreRight id filled → length filled ≤ free_slots store.held
    → CanPlace last (in_free id filled store) store
can_in_free last id filled store above right room =
    can_place last (in_free id filled store) store (free_first id filled store room) (in_free_rise last id filled store above right) (in_free_few id filled store room)

-- more slots than containers make no difference
placed_taken : (n : ℕ) (slots : List ℕ) (id : ℕ) (filled : List Contents) → length filled ≤ n → placed (take n slots) id filled ≡ placed slots id filled
placed_taken n [] id filled few = ap (λ (l : List ℕ). placed l id filled) (none n)
  where
    none : (k : ℕ) → ◌≡◌ {A = List ℕ} (take k []) []
    none zero = refl
    none (suc k) = refl
placed_taken zero (s ∷ ss) id [] few = refl
placed_taken zero (s ∷ ss) id (c ∷ cs) few = absurd (omega (arith, few))
placed_taken (suc n) (s ∷ ss) id [] few = refl
placed_taken (suc n) (s ∷ ss) id (c ∷ cs) few =
    ap (λ (ps : List Placed). record { slot = s; id = id; kind = c.kind; segments = c.segments } ∷ ps) (placed_taken n ss (suc id) cs (omega (arith, few)))

pub placed_in_free : (slots : List ℕ) (id : ℕ) (filled : List Contents) (store : Store) → slots ≡ take (length slots) (closed_from 0 store.held) → length filled ≡ length slots
    → placed slots id filled ≡ in_free id filled store
placed_in_free slots id filled store is many =
    ap (λ (l : List ℕ). placed l id filled) is ∙ placed_taken (length slots) (closed_from 0 store.held) id filled (omega (arith, many))

-- data that may be sealed
pub may_place : (S : List ℕ → Type 0) (slots : List ℕ) (id : ℕ) (filled : List Contents) → AllByRecursion (λ c. c.kind ≡ Leaf) filled
    → MayAllSeal S (placed slots id filled) → MayPlace S (placed slots id filled)
may_place S [] id filled leaves may = tt
may_place S (s ∷ ss) id [] leaves may = tt
may_place S (s ∷ ss) id (c ∷ cs) leaves may = ((leaves.0, may.0), may_place S ss (suc id) cs leaves.1 may.1)

-- ---- where they lie

closed_within : (at : ℕ) (held : List (Option HeaderValue)) (i slot : ℕ) → slice_get (closed_from at held) i ≡ Some slot → (at ≤ slot) × (slot < at + length held)
closed_within at [] i slot here = absurd cc
closed_within at (None ∷ cs) zero slot here = let is : at ≡ slot = same_slot at slot here in (omega (arith, is), omega (arith, is))
closed_within at (None ∷ cs) (suc i) slot here = let rest = closed_within (suc at) cs i slot here in (omega (arith, rest.0), omega (arith, rest.1))
closed_within at (Some h ∷ cs) i slot here = let rest = closed_within (suc at) cs i slot here in (omega (arith, rest.0), omega (arith, rest.1))

closed_rise : (at : ℕ) (held : List (Option HeaderValue)) (i j low high : ℕ) → i < j → slice_get (closed_from at held) i ≡ Some low
    → slice_get (closed_from at held) j ≡ Some high → low < high
closed_rise at [] i j low high before here there = absurd cc
closed_rise at (None ∷ cs) i zero low high before here there = absurd (omega (arith, before))
closed_rise at (None ∷ cs) zero (suc j) low high before here there =
    let is : at ≡ low = same_slot at low here in omega (arith, is, (closed_within (suc at) cs j high there).0)
closed_rise at (None ∷ cs) (suc i) (suc j) low high before here there = closed_rise (suc at) cs i j low high (omega (arith, before)) here there
closed_rise at (Some h ∷ cs) i j low high before here there = closed_rise (suc at) cs i j low high before here there

got_taken : (n : ℕ) (xs : List ℕ) (i x : ℕ) → slice_get (take n xs) i ≡ Some x → slice_get xs i ≡ Some x
got_taken zero xs i x here = absurd cc
got_taken (suc n) [] i x here = absurd cc
got_taken (suc n) (y ∷ ys) zero x here = here
got_taken (suc n) (y ∷ ys) (suc i) x here = got_taken n ys i x here

pub slots_on_disk_are : (size : ℕ) (slots : List ℕ) (store : Store) → slots ≡ take (length slots) (closed_from 0 store.held) → size_of (length store.held) ≤ size
    → AreSlots size slots
slots_on_disk_are size slots store is long = record {
  within = λ i slot here. let lies = closed_within 0 store.held i slot (from i slot here) in omega (arith, lies.1, long);
  rise = λ i j low high before here there. closed_rise 0 store.held i j low high before (from i low here) (from j high there);
}
  where
    from : (i slot : ℕ) → slice_get slots i ≡ Some slot → slice_get (closed_from 0 store.held) i ≡ Some slot
    from i slot here = got_taken (length slots) (closed_from 0 store.held) i slot (ap (λ (l : List ℕ). slice_get l i) (sym is) ∙ here)

pub slot_below : (slots : List ℕ) (store : Store) → slots ≡ take (length slots) (closed_from 0 store.held) → (i slot : ℕ) → slice_get slots i ≡ Some slot → slot < length store.held
slot_below slots store is i slot here =
    let lies = closed_within 0 store.held i slot
    (got_taken (length slots) (closed_from 0 store.held) i slot (ap (λ (l : List ℕ). slice_get l i) (sym is) ∙ here)) in
    omega (arith, lies.1)

-- ---- one of them

pub in_free_one : (id : ℕ) (c : Contents) (store : Store) → 1 ≤ free_slots store.held → in_free id (c ∷ []) store ≡ first_in id c store ∷ []
in_free_one id c store some =
    in_free_step id c [] store some ∙ ap (λ (ps : List Placed). first_in id c store ∷ ps) (none (closed_from 0 (with_sealed id c.kind c.segments store).held))
  where
    none : (l : List ℕ) → placed l (suc id) [] ≡ []
    none [] = refl
    none (s ∷ ss) = refl

pub one_slot : (slots : List ℕ) (store : Store) → slots ≡ take (length slots) (closed_from 0 store.held) → (slot : ℕ) → slice_get slots 0 ≡ Some slot → 1 ≤ free_slots store.held
    → slot ≡ first_free store.held
one_slot slots store is slot here some =
    let h : HeaderValue = header_of 0 Leaf [] in
    let at : 0 + first_free store.held ≡ first_free store.held = omega arith in
    let first = got_taken (length slots) (closed_from 0 store.held) 0 slot (ap (λ (l : List ℕ). slice_get l 0) (sym is) ∙ here) in
    sym (same_slot (0 + first_free store.held) slot (sym (ap (λ (l : List ℕ). slice_get l 0) (closed_step 0 store.held h some)) ∙ first)) ∙ at
