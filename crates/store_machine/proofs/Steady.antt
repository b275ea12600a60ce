-- What a step of a collection leaves in a slot: the container that it had, or one that came with the step, under a greater id than all before.
use Rattle.store_machine.proofs.Prelude.{◌≡◌, ◌⊎◌, ◌<◌, ◌≤◌, inl, inr, ℕ, suc, ListOf, [], ◌∷◌, map, ap, subst, arith, Kind, Segment, HeaderValue, header_of, Phase, with_sealed, Store, FlushContainer, FreeContainer, StoreChange, HasContainer, GoesOn, Makes, last_by, Collection, Machine, Values}
use Rattle.refusals.specs.declared.refusal.Phase.TheVariants as phases
use Rattle.store_machine.specs.Collecting.{Goes, Went}
use Rattle.store_machine.proofs.Moved.{filled_there}
use Rattle.store_machine.proofs.Released.{freed_makes, last_by_freeing, there_all}

module _ {V R : Type 0} (v : Values V R) where
  -- it changes nothing, or writes a container under the next id, or gives some back
  abbrev ChangesOne : Machine V R → ListOf StoreChange → Type 0
  ChangesOne m changes = (changes ≡ []) ⊎ ((kind : Kind) × (segments : ListOf Segment) × (changes ≡ FlushContainer (suc m.last_id) kind segments ∷ []))
      ⊎ ((slots : ListOf ℕ) × (changes ≡ map FreeContainer slots))

  changes_one : (c : Collection V) (m : Machine V R) (phase : Phase) (w : Went) → Goes v phase c m w → ChangesOne m w.changes
  changes_one c m phases.Mark w (left, was, is, (recorded, none, forgotten)) = inl none
  changes_one c m phases.Filter w goes = inl goes.4
  changes_one c m phases.Select w (was, all, is, (recorded, none, forgotten)) = inl none
  changes_one c m phases.Copy w goes = inl goes.6
  changes_one c m phases.Flush w goes = inr (inl (goes.2, goes.3, goes.5))
  changes_one c m phases.Release w goes = inr (inr (goes.2, goes.6))
  changes_one c m phase w goes = absurd goes

  module _ (phase : Phase) (m n : Machine V R) (goes : GoesOn v phase m n) where
    one : ChangesOne m goes.went.changes
    one = changes_one goes.c m phase goes.went goes.goes

    made : (changes : ListOf StoreChange) → goes.went.changes ≡ changes → Makes changes m.store n.store
    made changes is = subst (λ (xs : ListOf StoreChange). Makes xs m.store n.store) is goes.makes

    pub goes_since : (slot : ℕ) (h : HeaderValue) → HasContainer n.store slot h → HasContainer m.store slot h ⊎ (m.last_id < h.id)
    goes_since slot h has = by one
      where
        by : ChangesOne m goes.went.changes → HasContainer m.store slot h ⊎ (m.last_id < h.id)
        by (inl none) = inl (subst (λ (s : Store). HasContainer s slot h) (made [] none) has)
        by (inr (inl (kind, segments, is))) =
            let makes = made (FlushContainer (suc m.last_id) kind segments ∷ []) is in
            let there : HasContainer (with_sealed (suc m.last_id) kind segments m.store) slot h = subst (λ (s : Store). HasContainer s slot h) makes.1 has in
            elim (filled_there (header_of (suc m.last_id) kind segments) h m.store.held slot (omega (arith, makes.0.slot)) there) [
              | inl here ↦ inr (omega (arith, ap (λ (x : HeaderValue). x.id) here.1))
              | inr before ↦ inl before
            ]
        by (inr (inr (freed, is))) =
            inl (there_all freed m.store slot h (subst (λ (s : Store). HasContainer s slot h) (freed_makes freed m.store n.store (made (map FreeContainer freed) is)) has))

    pub goes_last : m.last_id ≤ n.last_id
    goes_last = by one
      where
        last_is : n.last_id ≡ last_by goes.went.changes m.last_id
        last_is = ap (λ (x : Machine V R). x.last_id) goes.others

        by : ChangesOne m goes.went.changes → m.last_id ≤ n.last_id
        by (inl none) = omega (arith, last_is, ap (λ (xs : ListOf StoreChange). last_by xs m.last_id) none)
        by (inr (inl (kind, segments, is))) = omega (arith, last_is, ap (λ (xs : ListOf StoreChange). last_by xs m.last_id) is)
        by (inr (inr (freed, is))) = omega (arith, last_is, ap (λ (xs : ListOf StoreChange). last_by xs m.last_id) is, last_by_freeing freed m.last_id)
