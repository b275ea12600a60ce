-- A collection that is under way stays so while containers are sealed, one after the other, and as many of its steps are to come.
use Rattle.store_core.proofs.Prelude.{◌≡◌, ℕ, suc, ◌+◌, ◌≤◌, List, [], ◌∷◌, length, map, Option, Some, None, refl, sym, ◌∙◌, ap, subst, arith, HeaderValue, header_of, Store, ChangesTo, first_free, free_slots, with_sealed, ids_held, last_id, CanSeal, IsValidFor, IsUnderWayIn, free_sealed, Collection, IsUnderWay, steps_to_come, IsFirstFree, RepresentsSlots, SlotTable}
use Rattle.std.proofs.lemmas.List.{length-map}
use Rattle.container_meta.specs.Segments.{Contents}
use Rattle.store_model.proofs.Valid.{valid_sealed}
use Rattle.store_model.proofs.Filled.{length-with_slot}
use Rattle.store_model.proofs.Free.{as_many as as_many_ids, first_closed, some_free}
use Rattle.store_state.specs.Tables.{count_of}
use Rattle.gc_steps.proofs.NoNearer.{as_many}
use Rattle.gc_steps.proofs.Sealed.{sealed}
use Rattle.store_core.specs.Core.{seals_from}
use Rattle.store_core.proofs.Rooms.{free_held, has_room}

-- the closed slot of least number is one
pub first_of : (s : Store) → 1 ≤ free_slots s.held → IsFirstFree (first_free s.held) s.held
first_of s some = let within = some_free s.held some in record { first = refl; within = within; closed = first_closed s.held within }

-- it is under way by the one table as by the other, and its steps are as many
pub record StaysUnder (c : Collection) (old new : SlotTable) : Type 0 where
  pub under : IsUnderWay new c
  pub steps : (chosen : ℕ) → steps_to_come chosen new c ≡ steps_to_come chosen old c

-- one of them
module _ (c : Collection) (k : Contents) (s : Store) (size : ℕ) (old new : SlotTable) (id : ℕ) (can : CanSeal id k.kind k.segments s) (valid : IsValidFor size s)
    (was : RepresentsSlots s.held old)
    (is : RepresentsSlots (with_sealed id k.kind k.segments s).held new) (next : id ≡ old.last_id + 1) (last : new.last_id ≡ id) (under : IsUnderWay old c) where
  first : IsFirstFree (first_free s.held) s.held
  first = first_of s (omega (arith, can.slot))

  pub one_under : StaysUnder c old new
  one_under = record {
    under = sealed s.held old new c (first_free s.held) (header_of id k.kind k.segments) first valid.headers can.right was is (omega (arith, next, last)) (omega (arith, next))
        (omega (arith, can.slot, free_held s.held old was valid.headers)) under;
    steps = λ chosen. as_many s.held old new c (first_free s.held) (header_of id k.kind k.segments) chosen first was is (omega (arith, next)) under;
  }

-- so it is where none runs: the slots of the reserve are closed
pub under_one : (k : Option Collection) (c : Contents) (s : Store) (size : ℕ) (old new : SlotTable) (id : ℕ) → CanSeal id c.kind c.segments s → IsValidFor size s
    → RepresentsSlots s.held old → RepresentsSlots (with_sealed id c.kind c.segments s).held new → id ≡ old.last_id + 1 → new.last_id ≡ id → IsUnderWayIn old k → IsUnderWayIn new k
under_one None c s size old new id can valid was is next last under =
    has_room (with_sealed id c.kind c.segments s).held new is (valid_sealed id c.kind c.segments s can size valid).headers
    (omega (arith, can.slot, free_sealed id c.kind c.segments s can))
under_one (Some k) c s size old new id can valid was is next last under = (one_under k c s size old new id can valid was is next last under).under

-- a table of as many other slots
pub table_for : (t : SlotTable) (held now : List (Option HeaderValue)) (last : ℕ) → RepresentsSlots held t → length now ≡ length held → last_id now ≤ last
    → (mid : SlotTable) × (RepresentsSlots now mid × (mid.last_id ≡ last))
table_for t held now last was many above =
    let ids : length (ids_held now) ≡ length t.ids.items = as_many_ids now ∙ many ∙ sym (as_many_ids held) ∙ ap length (sym was.ids_are) in
    let counts : length (map count_of now) ≡ length t.counts.items =
    length-map now count_of ∙ many ∙ sym (length-map held count_of) ∙ ap length (sym was.counts_are) in (
      record {
        ids = record t.ids { items = ids_held now; ok = (t.ids.ok.0 ∙ sym ids, t.ids.ok.1) };
        counts = record t.counts { items = map count_of now; ok = (t.counts.ok.0 ∙ sym counts, t.counts.ok.1) };
        last_id = last;
      },
      (record { ids_are = refl; counts_are = refl; last_id_is = above }, refl),
    )

-- that of a store with a container more
pub table_with : (t : SlotTable) (s : Store) (id : ℕ) (k : Contents) → RepresentsSlots s.held t → last_id (with_sealed id k.kind k.segments s).held ≤ id
    → (mid : SlotTable) × (RepresentsSlots (with_sealed id k.kind k.segments s).held mid × (mid.last_id ≡ id))
table_with t s id k was above =
    table_for t s.held (with_sealed id k.kind k.segments s).held id was (length-with_slot (first_free s.held) (header_of id k.kind k.segments) s.held) above

pub all_under : (c : Collection) (ks : List Contents) (s t : Store) (size id : ℕ) (old new : SlotTable) → 1 ≤ length ks → ChangesTo (seals_from id ks) s t
    → IsValidFor size s → RepresentsSlots s.held old → RepresentsSlots t.held new → id ≡ old.last_id + 1 → new.last_id ≡ old.last_id + length ks
    → IsUnderWay old c → StaysUnder c old new
all_under c [] s t size id old new some chain valid was is next last under = absurd (omega (arith, some))
all_under c (k ∷ []) s t size id old new some chain valid was is next last under =
    one_under c k s size old new id chain.0 valid was (subst (λ (u : Store). RepresentsSlots u.held new) chain.1 is) next (omega (arith, next, last)) under
all_under c (k ∷ m ∷ ms) s t size id old new some chain valid was is next last under =
    let u : Store = with_sealed id k.kind k.segments s in
    let mid = table_with old s id k was (omega (arith, chain.1.0.new_id)) in
    let first = one_under c k s size old mid.0 id chain.0 valid was mid.1.0 next mid.1.1 under in
    let rest = all_under c (m ∷ ms) u t size (suc id) mid.0 new (omega arith) chain.1 (valid_sealed id k.kind k.segments s chain.0 size valid) mid.1.0 is
    (omega (arith, mid.1.1)) (omega (arith, next, last, mid.1.1)) first.under in
    record { under = rest.under; steps = λ chosen. rest.steps chosen ∙ first.steps chosen }
