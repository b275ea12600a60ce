-- The counts of a store's tables are those of the store.
use Rattle.std.proofs.Common.{◌≡◌, ℕ, ◌-◌, ◌≤◌, List, [], ◌∷◌, length, map, Option, Some, None, refl, sym, ◌∙◌, ap, arith}
use Rattle.std.specs.Prelude.{sum_by}
use Rattle.std.specs.FinMap as finite
use Rattle.std.proofs.lemmas.List.Sums.{sum_by-cons}
use Rattle.disk_format.specs.declared.numbers.TheConstants.{MOST_SLOTS}
use Rattle.container_meta.specs.Places.{PlaceMap}
use Rattle.container_meta.specs.Spelling.{HeaderValue}
use Rattle.store_model.specs.Image.{Store, IsValidFor}
use Rattle.store_model.specs.Indexing.{entries_in, bytes_in_slots}
use Rattle.store_model.specs.Slots.{AreHeaders, free_slots, ids_of}
use Rattle.store_model.proofs.Free.{as_many}
use Rattle.store_state.specs.Tables.{Represents, count_of}
use Rattle.store_state.specs.declared.slot_table.SlotCount.{SlotCount}
use Rattle.store_state.specs.declared.tables.Tables.{Tables}
use Rattle.actor_parts.specs.declared.step.Answer.TheVariants.{Stat}
use Rattle.read_steps.specs.Counting.{IsRunning, counts_of}

entries_summed : (held : List (Option HeaderValue)) → sum_by (λ (c : SlotCount). c.entries) (map count_of held) ≡ entries_in held
entries_summed [] = refl
entries_summed (None ∷ cs) = omega (arith, sum_by-cons (λ (c : SlotCount). c.entries) (count_of None) (map count_of cs), entries_summed cs)
entries_summed (Some h ∷ cs) = omega (arith, sum_by-cons (λ (c : SlotCount). c.entries) (count_of (Some h)) (map count_of cs), entries_summed cs)

bytes_summed : (held : List (Option HeaderValue)) → sum_by (λ (c : SlotCount). c.bytes) (map count_of held) ≡ bytes_in_slots held
bytes_summed [] = refl
bytes_summed (None ∷ cs) = omega (arith, sum_by-cons (λ (c : SlotCount). c.bytes) (count_of None) (map count_of cs), bytes_summed cs)
bytes_summed (Some h ∷ cs) = omega (arith, sum_by-cons (λ (c : SlotCount). c.bytes) (count_of (Some h)) (map count_of cs), bytes_summed cs)

free_within : (held : List (Option HeaderValue)) → free_slots held ≤ length held
free_within [] = omega arith
free_within (None ∷ cs) = omega (arith, free_within cs)
free_within (Some h ∷ cs) = omega (arith, free_within cs)

module _ (t : Tables) (running : IsRunning t) where
  pub few_ids : length t.held.ids.items ≤ MOST_SLOTS
  few_ids =
      let runs = running.1.1 in
      omega (arith, ap length runs.represents.slots_hold.ids_are, as_many runs.store.held, runs.valid.many, runs.valid.count.1)

  pub free_few : (free : ℕ) → ((held : List (Option HeaderValue)) → t.held.ids.items ≡ ids_of held → AreHeaders held → free ≡ free_slots held) → free ≤ t.slots
  free_few free is =
      let runs = running.1.1 in
      omega (arith, is runs.store.held runs.represents.slots_hold.ids_are runs.valid.headers, free_within runs.store.held, runs.valid.many, runs.represents.slots_are)

pub summed_on : (f : SlotCount → ℕ) (sum : ℕ) (lent counts : List SlotCount) → sum ≡ sum_by f lent → lent ≡ counts → sum ≡ sum_by f counts
summed_on f sum lent counts is same = is ∙ ap (sum_by f) same

same_stat : (a b c d e k l m n o : ℕ) → a ≡ k → b ≡ l → c ≡ m → d ≡ n → e ≡ o → Stat a b c d e ≡ Stat k l m n o
same_stat a b c d e k l m n o p q r s u = cc

pub counted : (t : Tables) (size : ℕ) (known : Option PlaceMap) (store : Store) → Represents store known t → IsValidFor size store → (files segments bytes used free slots_free : ℕ)
    → files ≡ finite.len t.names → segments ≡ sum_by (λ (c : SlotCount). c.entries) t.held.counts.items → bytes ≡ sum_by (λ (c : SlotCount). c.bytes) t.held.counts.items
    → ((held : List (Option HeaderValue)) → t.held.ids.items ≡ ids_of held → AreHeaders held → slots_free ≡ free_slots held) → used ≡ t.slots - slots_free → free ≡ slots_free
    → Stat files segments bytes used free ≡ counts_of store
counted t size known store represents valid files segments bytes used free slots_free files_are segments_are bytes_are free_is used_is same =
    let frees = free_is store.held represents.slots_hold.ids_are valid.headers in
    let slots : t.slots ≡ length store.held = represents.slots_are ∙ sym valid.many in
    same_stat files segments bytes used free _ _ _ _ _
    (files_are ∙ ap finite.len represents.names_are.names_are)
    (segments_are ∙ ap (sum_by (λ (c : SlotCount). c.entries)) represents.slots_hold.counts_are ∙ entries_summed store.held)
    (bytes_are ∙ ap (sum_by (λ (c : SlotCount). c.bytes)) represents.slots_hold.counts_are ∙ bytes_summed store.held)
    (omega (arith, used_is, slots, frees))
    (same ∙ frees)
