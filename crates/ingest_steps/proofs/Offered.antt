-- The slots of containers that are offered together, and those for which there are some.
use Rattle.ingest_steps.proofs.Prelude.{◌≡◌, ℕ, suc, ◌-◌, ◌<◌, ◌≤◌, List, [], ◌∷◌, length, take, Option, Some, None, refl, sym, ◌∙◌, ap, subst, arith, AllByRecursion, Contents, HeaderValue, Store, free_slots, Refusal, Memory, Runs, Tables}
use Rattle.std.proofs.Common.{length-take-le, zero}
use Rattle.container_log.specs.Many.{HaveSegments}
use Rattle.std.specs.Prelude.{min}
use Rattle.disk_format.specs.declared.numbers.TheConstants.{RESERVE, LAST_ID}
use Rattle.store_state.specs.Tables.{closed_from}
use Rattle.actor_parts.specs.Offers.{sealed_of}
use Rattle.ingest_steps.specs.Offering.{AreSlotsOf, HasSlots, IsSlotsRefusal}
use Rattle.ingest_steps.specs.Sealing.{IsSlotRefusal}

pub slots_refused : (t : Tables) (size : ℕ) (refusal : Refusal) → IsSlotRefusal t size refusal → IsSlotsRefusal t size refusal
slots_refused t size Memory has = tt
slots_refused t size refusal has = has

pub length-closed : (at : ℕ) (held : List (Option HeaderValue)) → length (closed_from at held) ≡ free_slots held
length-closed at [] = refl
length-closed at (None ∷ cs) = ap suc (length-closed (suc at) cs)
length-closed at (Some h ∷ cs) = length-closed (suc at) cs

-- no more than leave the reserve, and than there are ids
pub sealed_few : (offered free last : ℕ) → min offered (min (free - RESERVE) (LAST_ID - last)) ≤ free - RESERVE
sealed_few offered free last = omega arith

pub slots_are : (t : Tables) (offered count : ℕ) (slots : List ℕ) (store : Store) → count ≡ sealed_of offered (free_slots store.held) t.held.last_id
    → slots ≡ take count (closed_from 0 store.held)
    → 1 ≤ offered → RESERVE < free_slots store.held → t.held.last_id < LAST_ID → AreSlotsOf t offered slots store
slots_are t offered count slots store count_is is some room ids = record {
  many = many ∙ count_is;
  some = omega (arith, many, count_is, some, room, ids);
  first = is ∙ ap (λ (n : ℕ). take n (closed_from 0 store.held)) (sym many);
}
  where
    many : length slots ≡ count
    many = ap length is ∙ length-take-le count (closed_from 0 store.held)
        (omega (arith, count_is, length-closed 0 store.held))

-- what holds of each holds of each of the first
pub all_first : {X : Type 0} (P : X → Type 0) (n : ℕ) (xs : List X) → AllByRecursion P xs → AllByRecursion P (take n xs)
all_first P zero xs all = tt
all_first P (suc n) [] all = tt
all_first P (suc n) (x ∷ xs) all = (all.0, all_first P n xs all.1)

have_segments : (filled : List Contents) → AllByRecursion (λ c. 1 ≤ length c.segments) filled → HaveSegments filled
have_segments [] all i c here = absurd cc
have_segments (x ∷ xs) all zero c here = subst (λ (y : Contents). 1 ≤ length y.segments) (same x c here) all.0
  where
    same : (a b : Contents) → Some a ≡ Some b → a ≡ b
    same a b is = cc
have_segments (x ∷ xs) all (suc i) c here = have_segments xs all.1 i c here

-- each of the first has a segment
pub have_first : (n : ℕ) (filled : List Contents) → AllByRecursion (λ c. 1 ≤ length c.segments) filled → HaveSegments (take n filled)
have_first n filled all = have_segments (take n filled) (all_first (λ c. 1 ≤ length c.segments) n filled all)

module _ (size : ℕ) (t : Tables) (runs : Runs size None t) (filled : List Contents) (slots : List ℕ) (has : HasSlots t (length filled) slots) where
  -- no more slots than containers
  pub few_slots_for : length slots ≤ length filled
  few_slots_for = omega (arith, ((has size None).store_has runs.store runs.represents runs.valid runs.has_free).many)

  pub first_many : length (take (length slots) filled) ≡ length slots
  first_many = length-take-le (length slots) filled few_slots_for
