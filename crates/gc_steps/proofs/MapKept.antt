-- The map of the index stays where gates of slots are written.
use Rattle.gc_steps.proofs.Prelude.{◌≡◌, inr, ℕ, ◌<◌, ◌≤◌, List, [], ◌∷◌, length, AllByRecursion, Option, Some, sym, ◌∙◌, ap, subst, arith, PlaceMap, DiskView, size_of, slot_at, Runs, Tables}
use Rattle.base_model.specs.Known.{KnownWith}
use Rattle.store_model.specs.Freeing.{HasNoGate, SameButGates}
use Rattle.segment_index.specs.Changes.{SameFrom}
use Rattle.gc_sweep.proofs.OnDisk.{slots_there}

-- bytes after the slots have none of their gates
no_gates : (slots p n : ℕ) (gone : List ℕ) → slot_at slots ≤ p → AllByRecursion (λ slot. slot < slots) gone → HasNoGate gone p n
no_gates slots p n [] past within = tt
no_gates slots p n (slot ∷ gone) past within = (inr (omega (arith, past, within.0)), no_gates slots p n gone past within.1)

pub map_kept : (places : Option (List ℕ) → Option PlaceMap) (owned_from : ℕ → ℕ)
    → ((a b : List ℕ) → SameFrom (owned_from (length a)) a b → places (Some b) ≡ places (Some a))
    → (serves : ℕ → Type 0) → ((slots : ℕ) → serves (size_of slots) → slot_at slots ≤ owned_from (size_of slots))
    → (known : Option PlaceMap) (t : Tables) (gone : List ℕ) (old new : DiskView) → Runs old.size known t → AllByRecursion (λ slot. slot < length t.held.ids.items) gone
    → serves old.size
    → (given : List ℕ) → old.content ≡ Some given → KnownWith new.content (SameButGates gone given) → places new.content ≡ places old.content
map_kept places owned_from stay serves owns known t gone old new runs within served given content after =
    let slots = runs.store.slots in
    let long : length given ≡ size_of slots = old.sized given content ∙ runs.valid.size_is in
    let owned : slot_at slots ≤ owned_from (length given) = subst (λ n. slot_at slots ≤ owned_from n) (sym long) (owns slots (subst serves runs.valid.size_is served)) in
    let many : length t.held.ids.items ≡ slots = slots_there old.size known t runs in
    ap places after.1 ∙ stay given after.0 (record {
      size = after.2.size;
      after = λ p n above. after.2.same p n
          (no_gates slots p n gone (omega (arith, above, owned)) (subst (λ m. AllByRecursion (λ slot. slot < m) gone) many within));
    })
    ∙ ap places (sym content)
