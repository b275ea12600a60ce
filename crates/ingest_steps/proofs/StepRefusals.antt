-- Why containers that are offered are not sealed for an actor.
use Rattle.ingest_steps.proofs.Prelude.{◌≡◌, ℕ, List, length, take, Option, Result, Ok, Err, OnErr, refl, sym, subst, slot_at, DiskView, Blame, NoCall, Refused, ending_of, PlaceMap, Contents, Part, Refusal, Memory, WrongPart, Unpinned, Numbers, Steps, Tables, IsSealRefusal}
use Rattle.refusals.specs.declared.refusal.Refusal.TheVariants.{Full}
use Rattle.store_state.specs.Refused.{blames}
use Rattle.store_state.proofs.Changed.{changes_none}
use Rattle.ingest_steps.specs.Offering.{AreCompared, HasSlots, IsOfferRefusal, IsSlotsRefusal, IsUnkeptIn, MayKeepAll}
use Rattle.ingest_steps.proofs.SealedTables.{steps_refused}

pub map_on_err : {T E : Type 0} (result : Result T E) (P Q : Type 0) → (P → Q) → OnErr result P → OnErr result Q
map_on_err (Ok x) P Q each has = tt
map_on_err (Err e) P Q each has = each has

module _ (part : Part) (t : Tables) (size : ℕ) (known : Option PlaceMap) (filled : List Contents) (compared : List Contents → Refusal → Type 0) where
  pub of_unkept : (refusal : Refusal) → IsUnkeptIn part filled refusal → IsOfferRefusal part t size known filled compared refusal
  of_unkept (WrongPart kind) has = has
  of_unkept (Unpinned key) has = has
  of_unkept refusal has = absurd has

  pub of_slots : MayKeepAll part filled → (refusal : Refusal) → IsSlotsRefusal t size refusal → IsOfferRefusal part t size known filled compared refusal
  of_slots may Memory has = tt
  of_slots may (Full free) has = (may, has)
  of_slots may Numbers has = (may, has)
  of_slots may refusal has = absurd has

module _ (part : Part) (t : Tables) (size : ℕ) (known : Option PlaceMap) (filled : List Contents) (shown : (List ℕ → Type 0) → Type 0) (may : MayKeepAll part filled)
    (slots : List ℕ) (has_slots : HasSlots t (length filled) slots) where
  pub of_together : (refusal : Refusal) → IsSealRefusal known (AreCompared size known shown (take (length slots) filled)) refusal
      → IsOfferRefusal part t size known filled (AreCompared size known shown) refusal
  of_together Memory has = tt
  of_together (WrongPart kind) has = absurd has.unlike.unlike.refused.2
  of_together (Unpinned key) has = absurd has.unlike.unlike.refused.2
  of_together (Full free) has = absurd has.unlike.unlike.refused.2
  of_together Numbers has = absurd has.unlike.unlike.refused.2
  of_together refusal has = (may, (slots, has_slots, has))

pub slots_blame : (t : Tables) (size : ℕ) (refusal : Refusal) → IsSlotsRefusal t size refusal → blames refusal ≡ NoCall
slots_blame t size Memory has = refl
slots_blame t size (Full free) has = refl
slots_blame t size Numbers has = refl
slots_blame t size refusal has = absurd has

-- nothing was called
pub steps_here : (slots : ℕ) (b : Blame) (v : DiskView) → b ≡ NoCall → Steps slots (ending_of b) v v
steps_here slots b v is = subst (λ (a : Blame). Steps slots (ending_of a) v v) (sym is) (steps_refused slots NoCall v v (changes_none (slot_at slots) Refused v refl))
