-- Sources that are given back leave a sweep under way.
use Rattle.gc_sweep.proofs.Prelude.{◌≡◌, ◌≢◌, ◌⊎◌, ℕ, zero, suc, ◌+◌, ◌*◌, ◌<◌, ◌≤◌, true, false, List, [], ◌∷◌, ◌++◌, length, get_or, count_by, Option, Some, None, refl, ap, sym, subst, ◌∙◌, arith, ◌==◌, if◌then◌else◌, nat_eq, nat_lt, AllByRecursion, length-map, append-nil, apart_from_distinct, PlaceMap, Contents, HeaderValue, MOST_ENTRIES, MOST_SLOTS, RESERVE, as_many, get_or_default_zero, zeros_free, free_freed, free_slots, ids_of, with_all_freed, with_freed, Store, Tables, Represents, RepresentsSlots, Runs, count_of, Next, Flush, Release, End, Sweep, HasReleased, IsNext, HasFreed, AreLeft, HasNext, IsSweeping, IsTaken, entry_in, free_in, sources_before, taken_from}
use Rattle.std.specs.Prelude.{Contains, slice_get}
use Rattle.std.specs.List.{IsDistinct}
use Rattle.store_model.specs.Image.{IsValidFor}
use Rattle.store_model.proofs.FreedAll.{free_all, others_all, valid_all}
use Rattle.store_model.proofs.FreedFiles.{same_but_held}
use Rattle.gc_sweep.specs.declared.sweep.Next.TheVariants.{Copy}
use Rattle.gc_sweep.specs.Next.{IsOfKind}
use Rattle.gc_sweep.proofs.Arrives.{GoesTo, arrives, by_parts}
use Rattle.gc_sweep.proofs.InSlots.{header_at, id_at}
use Rattle.gc_sweep.proofs.OnDisk.{few_slots}
use Rattle.gc_sweep.proofs.Released.{differs, open_slot}
use Rattle.gc_sweep.proofs.Taken.{old_not_zero}

-- ---- lists of slots

second_all : (P : ℕ → Type 0) (xs ys : List ℕ) → AllByRecursion P (xs ++ ys) → AllByRecursion P ys
second_all P [] ys all = all
second_all P (x ∷ xs) ys all = second_all P xs ys all.1

first_all : (P : ℕ → Type 0) (xs ys : List ℕ) → AllByRecursion P (xs ++ ys) → AllByRecursion P xs
first_all P [] ys all = tt
first_all P (x ∷ xs) ys all = (all.0, first_all P xs ys all.1)

pub second_apart : (xs ys : List ℕ) → IsDistinct nat_eq (xs ++ ys) → IsDistinct nat_eq ys
unfolding IsDistinct
second_apart [] ys apart = apart
second_apart (x ∷ xs) ys apart = second_apart xs ys apart.1

first_apart : (xs ys : List ℕ) → IsDistinct nat_eq (xs ++ ys) → IsDistinct nat_eq xs
unfolding IsDistinct
first_apart [] ys apart = tt
first_apart (x ∷ xs) ys apart = (first_all (λ w. nat_eq x w ≡ false) xs ys apart.0, first_apart xs ys apart.1)

-- one of the first is none of the others
none_of_others : (x : ℕ) (ys : List ℕ) → AllByRecursion (λ w. nat_eq x w ≡ false) ys → AllByRecursion (λ y. y ≢ x) ys
none_of_others x [] all = tt
none_of_others x (y ∷ ys) all = ((λ same. differs x y all.0 (sym same)), none_of_others x ys all.1)

-- ---- the sources that are ready

module _ (source entry snapshot : ℕ) (t : Tables) (s : Sweep) (stage : s.next ≡ Release source entry) (under : IsSweeping t.held snapshot s) where
  pub at : HasNext t.held s (Release source entry)
  at = subst (HasNext t.held s) stage under.next_is

  before_is : sources_before s s.next ≡ source
  before_is = ap (sources_before s) stage

  all_taken : AllByRecursion (IsTaken t.held s.sources.items source) (s.waiting.items ++ s.ready.items)
  all_taken = subst (λ (n : ℕ). AllByRecursion (IsTaken t.held s.sources.items n) (s.waiting.items ++ s.ready.items)) before_is under.taken

  ready_taken : AllByRecursion (IsTaken t.held s.sources.items source) s.ready.items
  ready_taken = second_all (IsTaken t.held s.sources.items source) s.waiting.items s.ready.items all_taken

  few : source ≤ length s.sources.items
  few = omega (arith, under.before, before_is)

  not_zero : (slot : ℕ) → IsTaken t.held s.sources.items source slot → get_or t.held.ids.items slot 0 ≢ 0
  not_zero slot taken none =
      old_not_zero snapshot (get_or s.sources.items taken.number 0) (under.left.old taken.number (omega (arith, taken.taken, few))) (sym taken.id_is ∙ none)

  each_of : (P : ℕ → Type 0) → ((slot : ℕ) → IsTaken t.held s.sources.items source slot → P slot) → (xs : List ℕ)
      → AllByRecursion (IsTaken t.held s.sources.items source) xs → AllByRecursion P xs
  each_of P each [] all = tt
  each_of P each (x ∷ xs) all = (each x all.0, each_of P each xs all.1)

  pub are_there : AllByRecursion (λ slot. get_or t.held.ids.items slot 0 ≢ 0) s.ready.items
  are_there = each_of (λ slot. get_or t.held.ids.items slot 0 ≢ 0) not_zero s.ready.items ready_taken

  pub are_within : AllByRecursion (λ slot. slot < length t.held.ids.items) s.ready.items
  are_within = each_of (λ slot. slot < length t.held.ids.items) (λ slot taken. taken.within) s.ready.items ready_taken

  pub are_once : IsDistinct nat_eq s.ready.items
  are_once = second_apart s.waiting.items s.ready.items under.apart

  pub few_freed : s.freed + length s.ready.items ≤ MOST_SLOTS
  few_freed = omega (arith, under.counted, under.before, under.few)

module _ (size source entry snapshot : ℕ) (known : Option PlaceMap) (t now : Tables) (s : Sweep) (runs : Runs size known t) (stage : s.next ≡ Release source entry)
    (freed : HasFreed t s.ready.items now)
    (under : IsSweeping t.held snapshot s) where
  at_release : HasNext t.held s (Release source entry)
  at_release = at source entry snapshot t s stage under

  few_sources : source ≤ length s.sources.items
  few_sources = few source entry snapshot t s stage under

  taken_was : AllByRecursion (IsTaken t.held s.sources.items source) (s.waiting.items ++ s.ready.items)
  taken_was = all_taken source entry snapshot t s stage under

  were_ready : AllByRecursion (IsTaken t.held s.sources.items source) s.ready.items
  were_ready = ready_taken source entry snapshot t s stage under

  -- ---- the table

  abbrev before : Store
  before = runs.store

  abbrev after : Store
  after = with_all_freed s.ready.items before

  represented : Represents before None t
  represented = record {
    slots_are = runs.represents.slots_are;
    names_are = runs.represents.names_are;
    slots_hold = runs.represents.slots_hold;
    index_is_newest = λ index is. absurd cc;
  }

  slots_were : RepresentsSlots before.held t.held
  slots_were = runs.represents.slots_hold

  slots_now : RepresentsSlots after.held now.held
  slots_now = (freed.represents before None (λ index is. absurd cc) represented).slots_hold

  valid_now : IsValidFor size after
  valid_now = valid_all size s.ready.items before runs.valid

  many : length now.held.ids.items ≡ length t.held.ids.items
  many =
      ap length slots_now.ids_are ∙ as_many after.held ∙ valid_now.many ∙ same_slots
      ∙ sym (ap length slots_were.ids_are ∙ as_many before.held ∙ runs.valid.many)
    where
      same_slots : after.slots ≡ before.slots
      same_slots = ap (λ (x : Store). x.slots) (same_but_held s.ready.items before)

  pub many_now : length now.held.ids.items ≤ MOST_SLOTS
  many_now = omega (arith, many, few_slots size known t runs)

  pub counts_now : length now.held.counts.items ≡ length now.held.ids.items
  counts_now = ap length slots_now.counts_are ∙ length-map after.held count_of ∙ sym (as_many after.held) ∙ sym (ap length slots_now.ids_are)

  -- an id in a slot that was not closed is there still
  id_still : (w : ℕ) → get_or t.held.ids.items w 0 ≢ 0 → AllByRecursion (λ slot. slot ≢ w) s.ready.items → get_or now.held.ids.items w 0 ≡ get_or t.held.ids.items w 0
  id_still w there others =
      let was = open_slot before.held w (subst (λ (ids : List ℕ). get_or ids w 0 ≢ 0) slots_were.ids_are there) in
      ap (λ (ids : List ℕ). get_or ids w 0) slots_now.ids_are
      ∙ id_at after.held w was.0 (others_all s.ready.items w before others ∙ was.1)
      ∙ sym (id_at before.held w was.0 was.1)
      ∙ ap (λ (ids : List ℕ). get_or ids w 0) (sym slots_were.ids_are)

  free_more : suc (free_in t.held) ≤ free_in now.held
  free_more = by_ready s.ready.items refl
    where
      by_ready : (xs : List ℕ) → s.ready.items ≡ xs → suc (free_in t.held) ≤ free_in now.held
      by_ready [] none = absurd (at_release.0 none)
      by_ready (x ∷ xs) is =
          let there = open_slot before.held x (subst (λ (ids : List ℕ). get_or ids x 0 ≢ 0) slots_were.ids_are
          (subst (AllByRecursion (λ slot. get_or t.held.ids.items slot 0 ≢ 0)) is (are_there source entry snapshot t s stage under)).0) in
          let was : free_in t.held ≡ free_slots before.held =
          ap (λ (ids : List ℕ). count_by (λ id. id == 0) ids) slots_were.ids_are ∙ zeros_free before.held runs.valid.headers in
          let now_is : free_in now.held ≡ free_slots after.held =
          ap (λ (ids : List ℕ). count_by (λ id. id == 0) ids) slots_now.ids_are ∙ zeros_free after.held valid_now.headers in
          let more : free_slots (with_freed x before).held ≤ free_slots after.held =
          subst (λ (ys : List ℕ). free_slots (with_freed x before).held ≤ free_slots (with_all_freed ys before).held) (sym is) (free_all xs (with_freed x before)) in
          omega (arith, was, now_is, more, free_freed x there.0 before.held there.1)

  -- ---- the sources

  -- a source that is still to be copied stands in none of these slots
  later_apart : (i w : ℕ) → source ≤ i → i < length s.sources.items → get_or t.held.ids.items w 0 ≡ get_or s.sources.items i 0 → (xs : List ℕ)
      → AllByRecursion (IsTaken t.held s.sources.items source) xs → AllByRecursion (λ slot. slot ≢ w) xs
  later_apart i w more below is [] all = tt
  later_apart i w more below is (x ∷ xs) all = (
    (λ same.
        let apart = apart_from_distinct nat_eq s.sources.items all.0.number i 0 under.once (omega (arith, all.0.taken, more)) below in
        differs (get_or s.sources.items all.0.number 0) (get_or s.sources.items i 0) apart
        (sym all.0.id_is ∙ ap (λ (n : ℕ). get_or t.held.ids.items n 0) same ∙ is)),
    later_apart i w more below is xs all.1,
  )

  pub left : AreLeft now.held snapshot s.sources.items source
  left = record {
    old = under.left.old;
    there = λ i more below.
        let was = under.left.there i (omega (arith, ap (sources_before s) stage, more)) below in
        let some : get_or s.sources.items i 0 ≢ 0 = old_not_zero snapshot (get_or s.sources.items i 0) (under.left.old i below) in
        let id_is : get_or t.held.ids.items was.0 0 ≡ get_or s.sources.items i 0 = sym (get_or_default_zero t.held.ids.items was.0 (get_or s.sources.items i 0) was.1) ∙ was.2 in
        let still = id_still was.0 (λ none. some (sym id_is ∙ none)) (later_apart i was.0 more below id_is s.ready.items were_ready) in (
          was.0,
          omega (arith, many, was.1),
          get_or_default_zero now.held.ids.items was.0 (get_or s.sources.items i 0) (omega (arith, many, was.1)) ∙ still ∙ id_is,
        );
  }

  still_taken : (xs : List ℕ) → AllByRecursion (IsTaken t.held s.sources.items source) (xs ++ s.ready.items) → IsDistinct nat_eq (xs ++ s.ready.items)
      → AllByRecursion (IsTaken now.held s.sources.items source) xs
  unfolding IsDistinct
  still_taken [] all apart = tt
  still_taken (w ∷ ws) all apart = (
    record {
      within = omega (arith, many, all.0.within);
      number = all.0.number;
      taken = all.0.taken;
      id_is = id_still w (not_zero source entry snapshot t s stage under w all.0)
          (none_of_others w s.ready.items (second_all (λ y. nat_eq w y ≡ false) ws s.ready.items apart.0)) ∙ all.0.id_is;
    },
    still_taken ws all.1 apart.1,
  )

  goes : GoesTo now.held snapshot source s.sources.items s.waiting.items [] s.buffer (s.freed + length s.ready.items)
  goes = record {
    once = under.once;
    few = under.few;
    within = few_sources;
    left = left;
    taken = subst (AllByRecursion (IsTaken now.held s.sources.items source)) (sym (append-nil s.waiting.items))
        (still_taken s.waiting.items taken_was under.apart);
    apart = subst (IsDistinct nat_eq) (sym (append-nil s.waiting.items)) (first_apart s.waiting.items s.ready.items under.apart);
    counted = omega (arith, under.counted, ap (sources_before s) stage);
    waits = under.waits;
    fills = under.fills;
  }

  module _ (s' : Sweep) (released : HasReleased now.held source entry s s') where
    sources_are : s'.sources.items ≡ s.sources.items
    sources_are = ap (λ (v : _). v.items) released.sources_are

    now_goes : GoesTo now.held snapshot source s'.sources.items s'.waiting.items s'.ready.items s'.buffer s'.freed
    now_goes = by_parts now.held snapshot source s.sources.items s' s.waiting.items [] s.buffer (s.freed + length s.ready.items) goes sources_are
        (ap (λ (v : _). v.items) released.waiting_is) released.ready_is released.buffer_is released.freed_is

    copied_before : s'.copied ≤ MOST_ENTRIES * (2 * source + (if nat_lt 0 entry then 1 else 0))
    copied_before =
        subst (λ (n : ℕ). n ≤ MOST_ENTRIES * (2 * source + (if nat_lt 0 entry then 1 else 0))) (sym released.copied_is)
        (subst (λ (n : Next). s.copied ≤ MOST_ENTRIES * (2 * sources_before s n + (if nat_lt 0 (entry_in n) then 1 else 0))) stage under.few_copied)

    room : (n : Next) → RESERVE ≤ free_in now.held + taken_from n
    room n =
        let before : RESERVE ≤ free_in t.held + 1 = subst (λ (n : Next). RESERVE ≤ free_in t.held + taken_from n) stage under.room in
        omega (arith, before, free_more)

    last_entry : length s.sources.items ≤ source → entry ≡ 0
    last_entry end = by_entry entry refl
      where
        by_entry : (e : ℕ) → entry ≡ e → e ≡ 0
        by_entry zero is = refl
        by_entry (suc e) is = absurd (omega (arith, end, (at_release.1 (omega (arith, is))).0))

    -- what was to go on does
    goes_to : (n : Next) → s'.next ≡ n → IsNext now.held s.sources.items s.buffer source entry n → IsSweeping now.held snapshot s'
    goes_to (Copy k e) is next =
        arrives now.held snapshot source s' now_goes (ap (sources_before s') is ∙ next.0)
        (subst (λ (n : Next). s'.copied ≤ MOST_ENTRIES * (2 * source + (if nat_lt 0 (entry_in n) then 1 else 0))) (sym is)
        (subst (λ (n : ℕ). s'.copied ≤ MOST_ENTRIES * (2 * source + (if nat_lt 0 n then 1 else 0))) (sym next.1) copied_before))
        (subst (HasNext now.held s') (sym is)
        (subst (λ (xs : List ℕ). (k < length xs) × (s'.ready.items ≡ []) × (0 < e → s'.buffer.segments ≡ [])
        × ((s'.buffer.segments ≡ []) ⊎ IsOfKind now.held (get_or xs k 0) s'.buffer.kind)) (sym sources_are)
        (subst (λ (b : Contents). (k < length s.sources.items) × (s'.ready.items ≡ []) × (0 < e → b.segments ≡ [])
        × ((b.segments ≡ []) ⊎ IsOfKind now.held (get_or s.sources.items k 0) b.kind)) (sym released.buffer_is) (
          omega (arith, next.0, next.2),
          released.ready_is,
          (λ some. (at_release.1 (omega (arith, some, next.1))).1),
          subst (λ (i : ℕ). (s.buffer.segments ≡ []) ⊎ IsOfKind now.held (get_or s.sources.items i 0) s.buffer.kind) (sym next.0) next.3,
        ))))
        (room s'.next)
    goes_to (Flush k e) is next =
        arrives now.held snapshot source s' now_goes (ap (sources_before s') is ∙ next.0)
        (subst (λ (n : Next). s'.copied ≤ MOST_ENTRIES * (2 * source + (if nat_lt 0 (entry_in n) then 1 else 0))) (sym is)
        (subst (λ (n : ℕ). s'.copied ≤ MOST_ENTRIES * (2 * source + (if nat_lt 0 n then 1 else 0))) (sym next.1) copied_before))
        (subst (HasNext now.held s') (sym is) (
          released.ready_is,
          subst (λ (b : Contents). b.segments ≢ []) (sym released.buffer_is) next.2,
          λ some. omega
              (arith, next.0, (at_release.1 (omega (arith, some, next.1))).0, ap length sources_are),
        ))
        (room s'.next)
    goes_to (Release k e) is next = absurd next
    goes_to End is next =
        arrives now.held snapshot source s' now_goes (ap (sources_before s') is ∙ omega (arith, few_sources, next.1, ap length sources_are))
        (subst (λ (n : Next). s'.copied ≤ MOST_ENTRIES * (2 * source + (if nat_lt 0 (entry_in n) then 1 else 0))) (sym is)
        (subst (λ (n : ℕ). s'.copied ≤ MOST_ENTRIES * (2 * source + (if nat_lt 0 n then 1 else 0))) (last_entry next.1) copied_before))
        (subst (HasNext now.held s') (sym is) (released.ready_is, subst (λ (b : Contents). b.segments ≡ []) (sym released.buffer_is) next.0))
        (room s'.next)

    pub freed_on : IsSweeping now.held snapshot s'
    freed_on = goes_to s'.next refl released.next_is
