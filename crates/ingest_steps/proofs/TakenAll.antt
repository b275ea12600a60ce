-- What several containers make of the tables.
use Rattle.ingest_steps.proofs.Prelude.{◌≡◌, ℕ, suc, ◌+◌, ◌<◌, ◌≤◌, List, [], ◌∷◌, length, take, Option, Some, None, refl, sym, ◌∙◌, ap, subst, arith, Contents, entries_from, HeaderValue, header_of, KnownMap, PlaceMap, Store, IsValidFor, HasFree, IsPartialIndexOf, free_slots, first_free, with_entries, with_sealed, CanHold, some_same, Tables, Represents, Runs, as_many}
use Rattle.std.proofs.Common.{◌++◌, zero, slice_get, get_or, true, inl, inr}
use Rattle.std.proofs.lemmas.List.{length-map}
use Rattle.container_meta.specs.Format.{is_id}
use Rattle.container_meta.specs.Segments.{bytes_in}
use Rattle.container_meta.specs.Spelling.{IsHeader}
use Rattle.store_state.specs.declared.slot_table.SlotTable.{SlotTable}
use Rattle.ingest_steps.proofs.PinList.{pushed}
use Rattle.std.specs.Prelude.{option_map}
use Rattle.disk_format.specs.declared.numbers.TheConstants.{RESERVE}
use Rattle.container_log.specs.Many.{placed}
use Rattle.journal_cells.specs.Journal.{IsTold}
use Rattle.store_model.specs.Slots.{last_id}
use Rattle.store_model.specs.Together.{Placed, with_all, with_placed}
use Rattle.store_model.proofs.Filled.{last_new, length-with_slot}
use Rattle.store_model.proofs.IndexSize.{partial_sealed}
use Rattle.store_model.proofs.Valid.{valid_sealed}
use Rattle.store_state.specs.Tables.{RepresentsSlots, closed_from, count_of}
use Rattle.ingest_steps.specs.Offering.{HasSlots, in_free}
use Rattle.ingest_steps.specs.SealingAll.{AreRight, CanSealAll, HaveSealed, places_with_all}
use Rattle.ingest_steps.proofs.PlacedFree.{first_in, fewer_left, in_free_step, placed_in_free, right_first, right_rest}

-- ---- what is counted of each

pub got_within : {X : Type 0} (xs : List X) (i : ℕ) (x : X) → slice_get xs i ≡ Some x → i < length xs
got_within [] i x here = absurd cc
got_within (y ∷ ys) zero x here = omega arith
got_within (y ∷ ys) (suc i) x here = let rest = got_within ys i x here in omega (arith, rest)

-- the first so many have these sizes, and right headers
abbrev pub AreSized : ℕ → List Contents → List ℕ → Type 0
AreSized count filled sizes =
    (j : ℕ) (c : Contents) → j < count → slice_get filled j ≡ Some c
    → (get_or sizes j 0 ≡ bytes_in c.segments) × ((id : ℕ) → is_id id ≡ true → IsHeader (header_of id c.kind c.segments))

pub sized_more : (filled : List Contents) (sizes : List ℕ) (i size : ℕ) (x : Contents) → length sizes ≡ i → AreSized i filled sizes → slice_get filled i ≡ Some x
    → size ≡ bytes_in x.segments → ((id : ℕ) → is_id id ≡ true → IsHeader (header_of id x.kind x.segments)) → AreSized (i + 1) filled (sizes ++ size ∷ [])
sized_more filled sizes i size x many so_far there is right = λ j c below here. elim (pushed 0 sizes size j (omega (arith, below, many))) [
  | inl old ↦ let had = so_far j c (omega (arith, old.0, many)) here in (old.1 ∙ had.0, had.1)
  | inr new ↦
      let same : x ≡ c = one x c (sym there ∙ sym (ap (slice_get filled) (new.0 ∙ many)) ∙ here) in
      (new.1 ∙ is ∙ ap (λ (y : Contents). bytes_in y.segments) same, λ id id_is. subst (λ (y : Contents). IsHeader (header_of id y.kind y.segments)) same (right id id_is))
]
  where
    one : (a b : Contents) → Some a ≡ Some b → a ≡ b
    one a b e = cc

-- a table has as many counts as ids
pub table_many : (held : List (Option HeaderValue)) (table : SlotTable) → RepresentsSlots held table
    → (length table.ids.items ≡ length held) × (length table.counts.items ≡ length table.ids.items)
table_many held table is = (
  omega (arith, ap length is.ids_are, as_many held),
  omega (arith, ap length is.counts_are, length-map held count_of, ap length is.ids_are, as_many held),
)

-- ---- one container more

pub one_more : (slots : List ℕ) (id : ℕ) (filled : List Contents) (store : Store) (i n : ℕ) (slot : ℕ) (c : Contents) → slice_get slots i ≡ Some slot → slice_get filled i ≡ Some c
    → n ≡ suc i → with_all (placed (take n slots) id filled) store
    ≡ with_placed (record { slot = slot; id = id + i; kind = c.kind; segments = c.segments }) (with_all (placed (take i slots) id filled) store)
one_more slots id filled store i n slot c here there is =
    ap (λ (k : ℕ). with_all (placed (take k slots) id filled) store) is ∙ next slots id filled store i here there
  where
    same_slot : (a b : ℕ) → Some a ≡ Some b → a ≡ b
    same_slot a b e = cc

    same : (a b : Contents) → Some a ≡ Some b → a ≡ b
    same a b e = cc

    next : (ss : List ℕ) (m : ℕ) (cs : List Contents) (t : Store) (j : ℕ) → slice_get ss j ≡ Some slot → slice_get cs j ≡ Some c
        → with_all (placed (take (suc j) ss) m cs) t
        ≡ with_placed (record { slot = slot; id = m + j; kind = c.kind; segments = c.segments }) (with_all (placed (take j ss) m cs) t)
    next [] m cs t j here there = absurd cc
    next (s ∷ ss) m [] t j here there = absurd cc
    next (s ∷ ss) m (x ∷ xs) t zero here there =
        let at : m ≡ m + 0 = omega arith in
        ap (λ (k : ℕ). with_placed (record { slot = k; id = m; kind = x.kind; segments = x.segments }) t) (same_slot s slot here)
        ∙ ap (λ (y : Contents). with_placed (record { slot = slot; id = m; kind = y.kind; segments = y.segments }) t) (same x c there)
        ∙ ap (λ (k : ℕ). with_placed (record { slot = slot; id = k; kind = c.kind; segments = c.segments }) t) at
    next (s ∷ ss) m (x ∷ xs) t (suc j) here there =
        let at : suc m + j ≡ m + suc j = omega arith in
        next ss (suc m) xs (with_placed (record { slot = s; id = m; kind = x.kind; segments = x.segments }) t) j here there
        ∙ ap (λ (k : ℕ). with_placed (record { slot = slot; id = k; kind = c.kind; segments = c.segments })
        (with_all (placed (take j ss) (suc m) xs) (with_placed (record { slot = s; id = m; kind = x.kind; segments = x.segments }) t))) at

-- all else of the store stays
pub all_but_held : (ps : List Placed) (store : Store) → with_all ps store ≡ record store { held = (with_all ps store).held }
all_but_held [] store = refl
all_but_held (p ∷ ps) store = all_but_held ps (with_placed p store)

pub length-with_all : (ps : List Placed) (store : Store) → length (with_all ps store).held ≡ length store.held
length-with_all [] store = refl
length-with_all (p ∷ ps) store = length-with_all ps (with_placed p store) ∙ length-with_slot p.slot (header_of p.id p.kind p.segments) store.held

-- ---- all of them

in_free_none : (id : ℕ) (store : Store) → in_free id [] store ≡ []
in_free_none id store = none (closed_from 0 store.held)
  where
    none : (l : List ℕ) → placed l id [] ≡ []
    none [] = refl
    none (s ∷ ss) = refl

-- containers that are sealed one after the other
module _ (size : ℕ) where
  record Sealable (id : ℕ) (filled : List Contents) (store : Store) : Type 0 where
    above : last_id store.held < id
    right : AreRight id filled
    room : RESERVE + length filled ≤ free_slots store.held

  first_can : (id : ℕ) (c : Contents) (cs : List Contents) (store : Store) → Sealable id (c ∷ cs) store → CanHold RESERVE id c.kind c.segments store
  first_can id c cs store are = record { slot = omega (arith, are.room); new_id = are.above; right = right_first id c cs are.right }

  rest_are : (id : ℕ) (c : Contents) (cs : List Contents) (store : Store) → Sealable id (c ∷ cs) store → Sealable (suc id) cs (with_sealed id c.kind c.segments store)
  rest_are id c cs store are = record {
    above = omega (arith, last_new (header_of id c.kind c.segments) store.held (omega (arith, are.room)) are.above);
    right = right_rest id c cs are.right;
    room = fewer_left id c (RESERVE + length cs) store (omega (arith, are.room));
  }

  step_is : (id : ℕ) (c : Contents) (cs : List Contents) (store : Store) → Sealable id (c ∷ cs) store
      → in_free id (c ∷ cs) store ≡ first_in id c store ∷ in_free (suc id) cs (with_sealed id c.kind c.segments store)
  step_is id c cs store are = in_free_step id c cs store (omega (arith, are.room))

  can_all : (id : ℕ) (filled : List Contents) (store : Store) → Sealable id filled store → CanSealAll id filled store
  can_all id [] store are = tt
  can_all id (c ∷ cs) store are = (first_can id c cs store are, can_all (suc id) cs (with_sealed id c.kind c.segments store) (rest_are id c cs store are))

  -- the index is right still
  index_all : (id : ℕ) (filled : List Contents) (store : Store) (known : Option PlaceMap) → Sealable id filled store → KnownMap known (IsPartialIndexOf store.held)
      → KnownMap (places_with_all (in_free id filled store) known) (IsPartialIndexOf (with_all (in_free id filled store) store).held)
  index_all id [] store known are newest_is =
      subst (λ (ps : List Placed). KnownMap (places_with_all ps known) (IsPartialIndexOf (with_all ps store).held)) (sym (in_free_none id store)) newest_is
  index_all id (c ∷ cs) store known are newest_is =
      subst (λ (ps : List Placed). KnownMap (places_with_all ps known) (IsPartialIndexOf (with_all ps store).held)) (sym (step_is id c cs store are))
      (index_all (suc id) cs (with_sealed id c.kind c.segments store) (option_map (with_entries c.kind (first_free store.held) (entries_from 0 c.segments)) known)
      (rest_are id c cs store are) (by_known known newest_is))
    where
      by_known : (k : Option PlaceMap) → KnownMap k (IsPartialIndexOf store.held)
          → KnownMap (option_map (with_entries c.kind (first_free store.held) (entries_from 0 c.segments)) k) (IsPartialIndexOf (with_sealed id c.kind c.segments store).held)
      by_known None newest_is m e = absurd cc
      by_known (Some places) newest_is m e =
          subst (IsPartialIndexOf (with_sealed id c.kind c.segments store).held)
          (some_same (with_entries c.kind (first_free store.held) (entries_from 0 c.segments) places) m e)
          (partial_sealed id c.kind c.segments store (first_can id c cs store are) places (newest_is places refl) (right_first id c cs are.right))

  -- and the store
  valid_all : (id : ℕ) (filled : List Contents) (store : Store) → Sealable id filled store → IsValidFor size store
      → IsValidFor size (with_all (in_free id filled store) store) × (RESERVE ≤ free_slots (with_all (in_free id filled store) store).held)
  valid_all id [] store are valid =
      subst (λ (ps : List Placed). IsValidFor size (with_all ps store) × (RESERVE ≤ free_slots (with_all ps store).held)) (sym (in_free_none id store))
      (valid, omega (arith, are.room))
  valid_all id (c ∷ cs) store are valid =
      subst (λ (ps : List Placed). IsValidFor size (with_all ps store) × (RESERVE ≤ free_slots (with_all ps store).held)) (sym (step_is id c cs store are))
      (valid_all (suc id) cs (with_sealed id c.kind c.segments store) (rest_are id c cs store are)
      (valid_sealed id c.kind c.segments store (first_can id c cs store are) size valid))

-- ---- the tables

module _ (t new : Tables) (offered : ℕ) (slots : List ℕ) (id : ℕ) (filled : List Contents) (has : HasSlots t offered slots) (next : id ≡ t.held.last_id + 1)
    (many : length filled ≡ length slots) (right : AreRight id filled) (last : new.held.last_id ≡ t.held.last_id + length filled)
    (others : new ≡ record t { held = new.held })
    (holds : (store : Store) → RepresentsSlots store.held t.held → RepresentsSlots (with_all (placed slots id filled) store).held new.held) where
  module _ (size : ℕ) (store : Store) (known : Option PlaceMap) (is : Represents store known t) (valid : IsValidFor size store) (free : HasFree store.held) where
    are : Sealable size id filled store
    are =
        let at = (has size known).store_has store is valid free in
        record { above = omega (arith, next, is.slots_hold.last_id_is); right = right; room = omega (arith, many, at.many, at.some) }

    ps_are : placed slots id filled ≡ in_free id filled store
    ps_are = placed_in_free slots id filled store ((has size known).store_has store is valid free).first many

    represents : (map : Option PlaceMap) → KnownMap map (IsPartialIndexOf (with_all (in_free id filled store) store).held)
        → Represents (with_all (in_free id filled store) store) map new
    represents map newest_is =
        let ps = in_free id filled store in
        subst (λ (s : Store). Represents s map new) (sym (all_but_held ps store)) (record {
          slots_are = ap (λ (x : Tables). x.slots) others ∙ is.slots_are;
          names_are = subst (λ (x : Tables). IsTold store.other_open store.selector store.records x.journal x.names x.journal.last) (sym others) is.names_are;
          slots_hold = subst (λ (l : List Placed). RepresentsSlots (with_all l store).held new.held) ps_are (holds store is.slots_hold);
          index_is_newest = newest_is;
        })

    abbrev whole : Represents (with_all (in_free id filled store) store) (places_with_all (in_free id filled store) known) new
    whole = represents (places_with_all (in_free id filled store) known) (index_all size id filled store known are is.index_is_newest)

  have_at : (size : ℕ) (known : Option PlaceMap) → (n : ℕ) → id ≡ n → n ≡ t.held.last_id + 1 → HaveSealed t size known filled new
  have_at size known n is also = record {
    last_is = last;
    others_stay = others;
    can = record { store_has = λ store keeps valid free. on (λ (k : ℕ). CanSealAll k filled store) (can_all size id filled store (are size store known keeps valid free)) };
    represents = record {
      store_has = λ store keeps valid free.
          on (λ (k : ℕ). Represents (with_all (in_free k filled store) store) (places_with_all (in_free k filled store) known) new) (whole size store known keeps valid free);
    };
    alone = record {
      store_has = λ store keeps valid free. (
        on (λ (k : ℕ). CanSealAll k filled store) (can_all size id filled store (are size store None keeps valid free)),
        on (λ (k : ℕ). Represents (with_all (in_free k filled store) store) None new) (represents size store None keeps valid free None (λ m e. absurd cc)),
      );
    };
    runs = λ map runs.
        on (λ (k : ℕ). Runs size (places_with_all (in_free k filled runs.store) map) new) (
        let after = valid_all size id filled runs.store (are size runs.store map runs.represents runs.valid runs.has_free) runs.valid in
        record {
          store = with_all (in_free id filled runs.store) runs.store;
          represents = whole size runs.store map runs.represents runs.valid runs.has_free;
          valid = after.0;
          has_free = omega (arith, after.1);
        });
  }
    where
      on : (P : ℕ → Type 0) → P id → P (t.held.last_id + 1)
      on P has = subst P next has

  pub have_sealed : (size : ℕ) (known : Option PlaceMap) → HaveSealed t size known filled new
  have_sealed size known = have_at size known id refl next
