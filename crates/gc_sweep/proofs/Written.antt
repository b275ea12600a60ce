-- What was copied is written: the slot, and the sweep then.
use Rattle.gc_sweep.proofs.Prelude.{◌≡◌, ◌≢◌, ℕ, ◌+◌, ◌*◌, ◌<◌, ◌≤◌, List, [], ◌++◌, length, get_or, set, append-nil, count_by, Option, None, Some, refl, ap, sym, subst, ◌∙◌, arith, ◌==◌, if◌then◌else◌, nat_eq, nat_lt, AllByRecursion, PlaceMap, Contents, HeaderValue, header_of, LAST_ID, MOST_ENTRIES, RESERVE, Store, AreHeaders, first_free, free_slots, ids_of, with_slot, with_sealed, first_closed, some_free, zeros_free, Tables, IsFirstFree, Represents, RepresentsSlots, Runs, count_of, Next, Flush, Sweep, HasFlushed, WritesCopies, spared, AreLeft, HasNext, IsSweeping, IsTaken, entry_in, free_in, sources_before, taken_from}
use Rattle.std.specs.List.{IsDistinct}
use Rattle.ingest_steps.specs.Sealing.{HasSlotBeside, HasWritten}
use Rattle.store_model.specs.Steps.{CanHold}
use Rattle.gc_sweep.proofs.Arrives.{GoesTo, arrives, by_parts}
use Rattle.gc_sweep.proofs.Taken.{counts_set, free_less, ids_set, left_same, slot_closed, taken_same}

-- as many slots are closed as the table has ids that are 0
free_held : (t : Tables) (store : Store) → t.held.ids.items ≡ ids_of store.held → AreHeaders store.held → free_in t.held ≡ free_slots store.held
free_held t store is headers = ap (λ (ids : List ℕ). count_by (λ id. id == 0) ids) is ∙ zeros_free store.held headers

-- where the reserve is there, a container may be written, and a slot stays
pub has_slot : (t : Tables) (slot : ℕ) → RESERVE ≤ free_in t.held → t.held.last_id < LAST_ID
    → ((held : List (Option HeaderValue)) → t.held.ids.items ≡ ids_of held → AreHeaders held → IsFirstFree slot held) → HasSlotBeside spared t slot
has_slot t slot room below first = record {
  slot_is = λ size known. record {
    store_has = λ store rep valid free.
        let at = first store.held rep.slots_hold.ids_are valid.headers in record {
          spare = omega (arith, room, free_held t store rep.slots_hold.ids_are valid.headers);
          first = at.first;
          within = omega (arith, at.within, valid.many);
        };
  };
  below = below;
}

pub writes_copies : (t : Tables) (size : ℕ) (known : Option PlaceMap) (slot : ℕ) (filled : Contents) (now : Tables) (id : ℕ) → HasSlotBeside spared t slot
    → HasWritten spared t size known slot filled now id
    → WritesCopies t size known slot filled now
writes_copies t size known slot filled now id has written = record { has_slot = has; written = subst (HasWritten spared t size known slot filled now) written.number written }

module _ (size source entry snapshot : ℕ) (known : Option PlaceMap) (t now : Tables) (slot : ℕ) (s s' : Sweep) (runs : Runs size None t) (stage : s.next ≡ Flush source entry)
    (writes : WritesCopies t size known slot s.buffer now)
    (flushed : HasFlushed source entry s s') (under : IsSweeping t.held snapshot s) where
  abbrev store : Store
  store = runs.store

  abbrev h : HeaderValue
  h = header_of (t.held.last_id + 1) s.buffer.kind s.buffer.segments

  abbrev place : ℕ
  place = first_free store.held

  free : IsFirstFree place store.held
  free =
      let within = some_free store.held runs.has_free in
      record { first = refl; within = within; closed = first_closed store.held within }

  at : HasNext t.held s (Flush source entry)
  at = subst (HasNext t.held s) stage under.next_is

  before_is : sources_before s s.next ≡ source
  before_is = ap (sources_before s) stage

  wrote : CanHold spared (t.held.last_id + 1) s.buffer.kind s.buffer.segments store × Represents (with_sealed (t.held.last_id + 1) s.buffer.kind s.buffer.segments store) None now
  wrote = writes.written.alone.store_has store runs.represents runs.valid runs.has_free

  was : RepresentsSlots store.held t.held
  was = runs.represents.slots_hold

  is : RepresentsSlots (with_slot place h store.held) now.held
  is = wrote.1.slots_hold

  closed : get_or t.held.ids.items place 0 ≡ 0
  closed = slot_closed store.held t.held now.held place h free was is

  ids_now : now.held.ids.items ≡ set t.held.ids.items place h.id
  ids_now = ids_set store.held t.held now.held place h free was is

  counts_now : now.held.counts.items ≡ set t.held.counts.items place (count_of (Some h))
  counts_now = counts_set store.held t.held now.held place h free was is

  left : AreLeft now.held snapshot s.sources.items source
  left = left_same t.held now.held snapshot place h.id (count_of (Some h)) closed ids_now counts_now s.sources.items source
      (subst (AreLeft t.held snapshot s.sources.items) before_is under.left)

  all_taken : (slots : List ℕ) → AllByRecursion (IsTaken t.held s.sources.items (sources_before s s.next)) slots → AllByRecursion (IsTaken now.held s.sources.items source) slots
  all_taken slots all =
      taken_same t.held now.held snapshot place h.id (count_of (Some h)) closed ids_now counts_now s.sources.items under.left.old source
      (omega (arith, under.before, before_is)) slots
      (subst (λ (n : ℕ). AllByRecursion (IsTaken t.held s.sources.items n) slots) before_is all)

  waiting_alone : s.waiting.items ++ s.ready.items ≡ s.waiting.items
  waiting_alone = ap (λ (r : List ℕ). s.waiting.items ++ r) at.0 ∙ append-nil s.waiting.items

  goes : GoesTo now.held snapshot source s.sources.items [] s.waiting.items s'.buffer s.freed
  goes = record {
    once = under.once;
    few = under.few;
    within = omega (arith, under.before, before_is);
    left = left;
    taken = all_taken s.waiting.items (subst (λ (xs : List ℕ). AllByRecursion (IsTaken t.held s.sources.items (sources_before s s.next)) xs) waiting_alone under.taken);
    apart = subst (IsDistinct nat_eq) waiting_alone under.apart;
    counted = omega (arith, under.counted, before_is);
    waits = λ none. refl;
    fills = λ none. flushed.emptied;
  }

  some_wait : s.waiting.items ≢ []
  some_wait none = at.1 (under.fills none)

  room : RESERVE ≤ free_in now.held + 1
  room =
      let closed_before : RESERVE ≤ free_in t.held + 0 = subst (λ (n : Next). RESERVE ≤ free_in t.held + taken_from n) stage under.room in
      omega (arith, closed_before, free_less store.held t.held now.held place h free was is runs.valid.headers wrote.0.right)

  sources_are : s'.sources.items ≡ s.sources.items
  sources_are = ap (λ (v : _). v.items) flushed.sources_are

  few_copied : s'.copied ≤ MOST_ENTRIES * (2 * source + (if nat_lt 0 (entry_in s'.next) then 1 else 0))
  few_copied =
      let few = subst (λ (n : Next). s.copied ≤ MOST_ENTRIES * (2 * sources_before s n + (if nat_lt 0 (entry_in n) then 1 else 0))) stage under.few_copied in
      subst (λ (n : Next). s'.copied ≤ MOST_ENTRIES * (2 * source + (if nat_lt 0 (entry_in n) then 1 else 0))) (sym flushed.next_is)
      (subst (λ (n : ℕ). n ≤ MOST_ENTRIES * (2 * source + (if nat_lt 0 entry then 1 else 0))) (sym flushed.copied_is) few)

  pub flushed_on : IsSweeping now.held snapshot s'
  flushed_on =
      arrives now.held snapshot source s'
      (by_parts now.held snapshot source s.sources.items s' [] s.waiting.items s'.buffer s.freed goes sources_are flushed.none_waits flushed.ready_is refl flushed.freed_is)
      (ap (sources_before s') flushed.next_is) few_copied
      (subst (HasNext now.held s') (sym flushed.next_is)
      ((λ none. some_wait (sym flushed.ready_is ∙ none)), λ some. (omega (arith, at.2 some, ap length sources_are), flushed.emptied)))
      (subst (λ (n : Next). RESERVE ≤ free_in now.held + taken_from n) (sym flushed.next_is) room)
