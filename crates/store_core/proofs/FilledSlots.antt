-- The slots of a store in which containers were sealed: which of them were closed, and what they have.
use Rattle.store_core.proofs.Prelude.{some_same, ◌≡◌, ◌≢◌, ℕ, zero, suc, ◌+◌, ◌≤◌, List, [], ◌∷◌, length, Option, Some, None, refl, sym, ◌∙◌, ap, subst, arith, HeaderValue, header_of, Store, ChangesTo, first_free, free_slots, with_slot, with_sealed, RESERVE}
use Rattle.std.specs.Prelude.{slice_get}
use Rattle.container_log.specs.Many.{placed}
use Rattle.container_meta.specs.Segments.{Contents}
use Rattle.store_model.specs.Together.{Placed, with_all, with_placed}
use Rattle.store_model.proofs.Filled.{length-with_slot}
use Rattle.store_state.specs.Tables.{closed_from}
use Rattle.ingest_steps.specs.Offering.{in_free}
use Rattle.ingest_steps.specs.SealingAll.{slots_of}
use Rattle.ingest_steps.proofs.PlacedFree.{first_in}
use Rattle.gc_steps.proofs.SealedPins.{there_now}
use Rattle.store_core.specs.Core.{seals_from}
use Rattle.store_core.proofs.ManySealed.{comes_all, none_placed, step_of}

-- ---- the slots of a store with one container more

pub some_not_none : (h : HeaderValue) → Some (Some h) ≡ Some None → ⊥
some_not_none h same = cc

pub other_with : (slot : ℕ) (h : HeaderValue) (held : List (Option HeaderValue)) → slot ≢ first_free held
    → slice_get (with_slot (first_free held) h held) slot ≡ slice_get held slot
other_with slot h [] differ = refl
other_with zero h (None ∷ cs) differ = absurd (differ refl)
other_with (suc slot) h (None ∷ cs) differ = refl
other_with zero h (Some x ∷ cs) differ = refl
other_with (suc slot) h (Some x ∷ cs) differ = other_with slot h cs (λ is. differ (ap suc is))

-- ---- the slots of several

-- the slot is none of these
abbrev pub IsOutOf : List ℕ → ℕ → Type 0
IsOutOf taken slot = (i other : ℕ) → slice_get taken i ≡ Some other → slot ≢ other

-- so it is where these are all closed, and it is not
pub out_of_closed : (held : List (Option HeaderValue)) (taken : List ℕ) → ((i slot : ℕ) → slice_get taken i ≡ Some slot → slice_get held slot ≡ Some None) → (slot : ℕ)
    → (slice_get held slot ≡ Some None → ⊥) → IsOutOf taken slot
out_of_closed held taken closed slot not_closed i other here same = not_closed (ap (slice_get held) same ∙ closed i other here)

-- a slot of containers that are placed in some is one of those
got_placed : (slots : List ℕ) (id : ℕ) (cs : List Contents) (i slot : ℕ) → slice_get (slots_of (placed slots id cs)) i ≡ Some slot → slice_get slots i ≡ Some slot
got_placed [] id cs i slot here = absurd cc
got_placed (s ∷ ss) id [] i slot here = absurd cc
got_placed (s ∷ ss) id (c ∷ cs) zero slot here = here
got_placed (s ∷ ss) id (c ∷ cs) (suc i) slot here = got_placed ss (suc id) cs i slot here

-- a closed slot, from a number on
record IsClosedFrom (at : ℕ) (held : List (Option HeaderValue)) (slot : ℕ) : Type 0 where
  pub number : ℕ
  pub slot_is : slot ≡ at + number
  pub closed : slice_get held number ≡ Some None

got_closed : (at : ℕ) (held : List (Option HeaderValue)) (i slot : ℕ) → slice_get (closed_from at held) i ≡ Some slot → IsClosedFrom at held slot
got_closed at [] i slot here = absurd cc
got_closed at (None ∷ cs) zero slot here = record { number = 0; slot_is = omega (arith, some_same at slot here); closed = refl }
got_closed at (None ∷ cs) (suc i) slot here =
    let rest = got_closed (suc at) cs i slot here in record { number = suc rest.number; slot_is = omega (arith, rest.slot_is); closed = rest.closed }
got_closed at (Some h ∷ cs) i slot here =
    let rest = got_closed (suc at) cs i slot here in record { number = suc rest.number; slot_is = omega (arith, rest.slot_is); closed = rest.closed }

-- they were closed
pub slots_closed : (id : ℕ) (cs : List Contents) (s : Store) (i slot : ℕ) → slice_get (slots_of (in_free id cs s)) i ≡ Some slot → slice_get s.held slot ≡ Some None
slots_closed id cs s i slot here =
    let found = got_closed 0 s.held i slot (got_placed (closed_from 0 s.held) id cs i slot here) in
    ap (slice_get s.held) (omega (arith, found.slot_is)) ∙ found.closed

abbrev Slots : List Placed → ℕ → ℕ → Type 0
Slots ps i slot = slice_get (slots_of ps) i ≡ Some slot

-- and have a container then
pub slots_filled : (id : ℕ) (cs : List Contents) (s t : Store) → ChangesTo (seals_from id cs) s t → (i slot : ℕ) → slice_get (slots_of (in_free id cs s)) i ≡ Some slot
    → (h : HeaderValue) × (slice_get t.held slot ≡ Some (Some h))
slots_filled id [] s t chain i slot here =
    let none : None ≡ Some slot = sym (ap (λ (ps : List Placed). slice_get (slots_of ps) i) (none_placed (closed_from 0 s.held) id)) ∙ here in absurd cc
slots_filled id (c ∷ cs) s t chain i slot here =
    by_place i (subst (λ (ps : List Placed). Slots ps i slot) (step_of id c cs s chain.0) here) (λ j later. slots_filled (suc id) cs mid t chain.1 j slot later)
  where
    mid : Store
    mid = with_sealed id c.kind c.segments s

    by_place : (j : ℕ) → Slots (first_in id c s ∷ in_free (suc id) cs mid) j slot
        → ((k : ℕ) → Slots (in_free (suc id) cs mid) k slot → (h : HeaderValue) × (slice_get t.held slot ≡ Some (Some h)))
        → (h : HeaderValue) × (slice_get t.held slot ≡ Some (Some h))
    by_place zero first later =
        let h : HeaderValue = header_of id c.kind c.segments in
        let there : slice_get mid.held slot ≡ Some (Some h) = ap (slice_get mid.held) (sym (some_same (first_free s.held) slot first))
        ∙ there_now h s.held (omega (arith, chain.0.slot)) in
        (h, (comes_all (suc id) cs mid t chain.1).stand slot h there)
    by_place (suc j) there later = later j there

-- the others are as they were
pub slots_other : (id : ℕ) (cs : List Contents) (s t : Store) → ChangesTo (seals_from id cs) s t → (slot : ℕ) → IsOutOf (slots_of (in_free id cs s)) slot
    → slice_get t.held slot ≡ slice_get s.held slot
slots_other id [] s t chain slot out = ap (λ (u : Store). slice_get u.held slot) chain
slots_other id (c ∷ cs) s t chain slot out =
    let mid : Store = with_sealed id c.kind c.segments s in
    let step = step_of id c cs s chain.0 in
    slots_other (suc id) cs mid t chain.1 slot (λ i other here. out (suc i) other (subst (λ (ps : List Placed). Slots ps (suc i) other) (sym step) here))
    ∙ other_with slot (header_of id c.kind c.segments) s.held
    (out 0 (first_free s.held) (subst (λ (ps : List Placed). Slots ps 0 (first_free s.held)) (sym step) refl))

-- ---- with all of some that are placed, whether or not they can be sealed

-- a slot that is closed then was closed, and is none of theirs
closed_with : (slot other : ℕ) (h : HeaderValue) (held : List (Option HeaderValue)) → slice_get (with_slot slot h held) other ≡ Some None
    → (other ≢ slot) × (slice_get held other ≡ Some None)
closed_with slot other h [] is = absurd cc
closed_with zero zero h (c ∷ cs) is = absurd (some_not_none h is)
closed_with zero (suc other) h (c ∷ cs) is = ((λ e. absurd (omega (arith, e))), is)
closed_with (suc slot) zero h (c ∷ cs) is = ((λ e. absurd (omega (arith, e))), is)
closed_with (suc slot) (suc other) h (c ∷ cs) is = let rest = closed_with slot other h cs is in ((λ e. rest.0 (omega (arith, e))), rest.1)

pub closed_with_all : (ps : List Placed) (t : Store) (slot : ℕ) → slice_get (with_all ps t).held slot ≡ Some None → IsOutOf (slots_of ps) slot × (slice_get t.held slot ≡ Some None)
closed_with_all [] t slot is = ((λ i other here. absurd cc), is)
closed_with_all (p ∷ ps) t slot is =
    let rest = closed_with_all ps (with_placed p t) slot is in
    let one = closed_with p.slot slot (header_of p.id p.kind p.segments) t.held rest.1 in
    (by_place one.0 rest.0, one.1)
  where
    by_place : slot ≢ p.slot → IsOutOf (slots_of ps) slot → IsOutOf (slots_of (p ∷ ps)) slot
    by_place here others zero other is same = here (same ∙ sym (some_same p.slot other is))
    by_place here others (suc i) other is same = others i other is same

pub many_with_all : (ps : List Placed) (t : Store) → length (with_all ps t).held ≡ length t.held
many_with_all [] t = refl
many_with_all (p ∷ ps) t = many_with_all ps (with_placed p t) ∙ length-with_slot p.slot (header_of p.id p.kind p.segments) t.held

-- so many leave the reserve
one_fewer : (slot : ℕ) (h : HeaderValue) (held : List (Option HeaderValue)) → free_slots held ≤ suc (free_slots (with_slot slot h held))
one_fewer slot h [] = omega arith
one_fewer zero h (None ∷ cs) = omega arith
one_fewer zero h (Some g ∷ cs) = omega arith
one_fewer (suc slot) h (None ∷ cs) = omega (arith, one_fewer slot h cs)
one_fewer (suc slot) h (Some g ∷ cs) = one_fewer slot h cs

pub room_with_all : (ps : List Placed) (t : Store) → RESERVE + length ps ≤ free_slots t.held → RESERVE ≤ free_slots (with_all ps t).held
room_with_all [] t room = omega (arith, room)
room_with_all (p ∷ ps) t room = room_with_all ps (with_placed p t) (omega (arith, room, one_fewer p.slot (header_of p.id p.kind p.segments) t.held))
