-- Containers that an actor offers, to be sealed by one step, and what those that are sealed make of the machine (docs/MODEL.md, 'The
-- machine').
use Rattle.std.specs.Prelude.{◌≡◌, ◌⊎◌, ℕ, zero, suc, Bool, true, false, List, [], ◌∷◌, ◌++◌, length, map, take, Option, None}
use Rattle.std.specs.List.{AllByRecursion}
use Rattle.actor_parts.specs.Offers.{sealed_of}
use Rattle.actor_parts.specs.PinMap.{PinMap}
use Rattle.container_meta.specs.declared.kind.Kind.{Kind}
use Rattle.container_meta.specs.Segments.{Contents, Segment}
use Rattle.container_meta.specs.Spelling.{HeaderValue, header_of}
use Rattle.store_model.specs.Image.{Store}
use Rattle.store_model.specs.Slots.{first_free, free_slots}
use Rattle.store_model.specs.Steps.{CanSeal, with_sealed}
use Rattle.store_model.specs.Together.{Placed, with_placed, with_some}
use Rattle.store_machine.specs.Machine.{Machine, Writing, keeping, part_in, put_at}
use Rattle.store_machine.specs.Needs.{first_unkept, forgotten_beside, keys_of, or_else, with_pins}

-- P holds of one of them
abbrev pub AnyByRecursion : {X : Type 0} → (X → Type 0) → List X → Type 0
AnyByRecursion P [] = ⊥
AnyByRecursion P (x ∷ xs) = P x ⊎ AnyByRecursion P xs

-- P holds of each segment of each of them
abbrev pub AllSegments : (Kind → Segment → Type 0) → List Contents → Type 0
AllSegments P cs = AllByRecursion (λ c. AllByRecursion (P c.kind) c.segments) cs

-- ---- what is offered

-- the key of the first child of their segments that isn't kept
abbrev pub first_unkept_in : List Contents → PinMap → Option (List ℕ)
first_unkept_in [] pins = None
first_unkept_in (c ∷ cs) pins = or_else (first_unkept c.kind c.segments pins) (first_unkept_in cs pins)

-- ---- the slots that they are for, and what a write that failed may have left of them

-- each is for the closed slot of least number that those before it leave, under the next id
abbrev pub placed : ℕ → List Contents → Store → List Placed
placed last [] store = []
placed last (c ∷ cs) store =
    let p : Placed = record { slot = first_free store.held; id = suc last; kind = c.kind; segments = c.segments } in
    p ∷ placed (suc last) cs (with_placed p store)

-- the marks of some of so many, whichever, but one at least
abbrev pub some_marks : ℕ → List (List Bool)
some_marks zero = []
some_marks (suc n) = (true ∷ []) ∷ map (λ marks. true ∷ marks) (some_marks n) ++ map (λ marks. false ∷ marks) (some_marks n)

-- the stores with some of them
abbrev pub stores_with_some : ℕ → List Contents → Store → List Store
stores_with_some last cs store = map (λ marks. with_some marks (placed last cs store) store) (some_marks (length cs))

-- a header of one of them
abbrev pub IsHeaderOfOne : ℕ → List Contents → HeaderValue → Type 0
IsHeaderOfOne last [] h = ⊥
IsHeaderOfOne last (c ∷ cs) h = (h ≡ header_of (suc last) c.kind c.segments) ⊎ IsHeaderOfOne (suc last) cs h

module _ {V R : Type 0} where
  -- those of the offered that are sealed, the first ones
  abbrev pub sealed_in : List Contents → Machine V R → List Contents
  sealed_in offered m = take (sealed_of (length offered) (free_slots m.store.held) m.last_id) offered

  -- ---- what they make of the machine

  -- A container more, of the next id, in the closed slot of least number. Its segments are kept, beside these pins, needed by the
  -- collection that runs, and forgotten no more.
  abbrev pub with_container : ℕ → Contents → PinMap → Machine V R → Machine V R
  with_container actor c pins m = record (put_at m actor (Writing (with_pins c.kind c.segments pins))) {
    store = with_sealed (suc m.last_id) c.kind c.segments m.store;
    last_id = suc m.last_id;
    forgotten = forgotten_beside (keys_of c.kind c.segments) m.forgotten;
    collection = keeping (keys_of c.kind c.segments) m.collection;
  }

  pub record AddsContainer (actor : ℕ) (filled : Contents) (m n : Machine V R) : Type 0 where
    pub pins : PinMap
    pub writing : part_in m actor ≡ Writing pins
    pub can : CanSeal (suc m.last_id) filled.kind filled.segments m.store
    pub others : n ≡ with_container actor filled pins m

  -- one after the other
  abbrev pub AddsContainers : (actor : ℕ) → List Contents → Machine V R → Machine V R → Type 0
  AddsContainers actor [] m n = n ≡ m
  AddsContainers actor (c ∷ cs) m n = (mid : Machine V R) × AddsContainer actor c m mid × AddsContainers actor cs mid n
