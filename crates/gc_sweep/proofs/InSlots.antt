-- Containers in slots by their ids, and where an index has the copy of a key.
use Rattle.gc_sweep.proofs.Prelude.{◌≡◌, ◌≢◌, ℕ, zero, suc, ◌+◌, ◌<◌, true, false, List, [], ◌∷◌, ◌++◌, length, get_or, map, Option, Some, None, find, option_map, refl, sym, ◌∙◌, ap, arith, ◌==◌, nat_lt, AllByRecursion, bytes_eq, eq-eqb, slice_get-get_or, bytes_eq-Decides, both, Entry, Kind, Place, PlaceMap, HeaderValue, LiveKeys, entry_key, DifferentIds, IsPartialIndexOf, ids_of, place_of, some_same, found_so, RepresentsSlots, count_of, SlotCount, SlotTable, is_copy, Next, CopyNext, Flush, Release, End, Sweep, IsLive, SourcesStand, kind_in, HasNext, IsSweeping, IsTaken, entry_in, is_old, sources_before}
use Rattle.std.specs.Prelude.{not, slice_get}
use Rattle.std.specs.FinMap as finite
use Rattle.std.specs.List.{Contains}
use Rattle.std.proofs.lemmas.Bool.{ltb-true}
use Rattle.std.proofs.lemmas.List.Elements.{All-contains, All-from_recursion}
use Rattle.gc_enumerate.specs.Live.{IsLiveAt}
use Rattle.store_model.specs.Slots.{Copy, IsUnusedId, newest}
use Rattle.store_model.proofs.Copies.{lies}
use Rattle.copy_forward.specs.Entries.{is_place_found}
use Rattle.copy_forward.proofs.OnePlace.{place_same, same_place}
use Rattle.gc_sweep.proofs.Released.{open_slot}

-- ---- lists

pub of_each : {X : Type 0} (P : X → Type 0) (xs : List X) (x : X) → AllByRecursion P xs → Contains xs x → P x
of_each P xs x all there = All-contains P xs x (All-from_recursion P xs all) there

pub none_in : {X : Type 0} (xs : List X) (x : X) → xs ≡ [] → Contains xs x → ⊥
none_in xs x none there = omega (arith, there.1, ap length none)

-- ---- ids

pub id_at : (held : List (Option HeaderValue)) (slot : ℕ) (h : HeaderValue) → slice_get held slot ≡ Some (Some h) → get_or (ids_of held) slot 0 ≡ h.id
id_at [] slot h there = absurd cc
id_at (None ∷ cs) zero h there = absurd (let wrong : None ≡ Some h = some_same None (Some h) there in cc)
id_at (Some g ∷ cs) zero h there = ap (λ (x : HeaderValue). x.id) (some_same g h (some_same (Some g) (Some h) there))
id_at (None ∷ cs) (suc slot) h there = id_at cs slot h there
id_at (Some g ∷ cs) (suc slot) h there = id_at cs slot h there

count_at : (held : List (Option HeaderValue)) (slot : ℕ) (c : Option HeaderValue) → slice_get held slot ≡ Some c → slice_get (map count_of held) slot ≡ Some (count_of c)
count_at [] slot c there = absurd cc
count_at (d ∷ cs) zero c there = ap (λ (x : Option HeaderValue). Some (count_of x)) (some_same d c there)
count_at (d ∷ cs) (suc slot) c there = count_at cs slot c there

unused_at : (id : ℕ) (held : List (Option HeaderValue)) (slot : ℕ) (h : HeaderValue) → IsUnusedId id held → slice_get held slot ≡ Some (Some h) → h.id ≢ id
unused_at id [] slot h unused there = absurd cc
unused_at id (None ∷ cs) zero h unused there = absurd (let wrong : None ≡ Some h = some_same None (Some h) there in cc)
unused_at id (Some g ∷ cs) zero h unused there = λ same. unused.0 (ap (λ (x : HeaderValue). x.id) (some_same g h (some_same (Some g) (Some h) there)) ∙ same)
unused_at id (None ∷ cs) (suc slot) h unused there = unused_at id cs slot h unused there
unused_at id (Some g ∷ cs) (suc slot) h unused there = unused_at id cs slot h unused.1 there

-- one id is in one slot
pub one_slot : (held : List (Option HeaderValue)) (a b : ℕ) (g h : HeaderValue) → DifferentIds held → slice_get held a ≡ Some (Some g) → slice_get held b ≡ Some (Some h)
    → g.id ≡ h.id → a ≡ b
one_slot [] a b g h differ here there same = absurd cc
one_slot (c ∷ cs) zero zero g h differ here there same = refl
one_slot (None ∷ cs) zero (suc b) g h differ here there same = absurd (let wrong : None ≡ Some g = some_same None (Some g) here in cc)
one_slot (Some x ∷ cs) zero (suc b) g h differ here there same =
    absurd (unused_at x.id cs b h differ.0 there (sym same ∙ ap (λ (y : HeaderValue). y.id) (some_same g x (sym (some_same (Some x) (Some g) here)))))
one_slot (None ∷ cs) (suc a) zero g h differ here there same = absurd (let wrong : None ≡ Some h = some_same None (Some h) there in cc)
one_slot (Some x ∷ cs) (suc a) zero g h differ here there same =
    absurd (unused_at x.id cs a g differ.0 here (same ∙ ap (λ (y : HeaderValue). y.id) (some_same h x (sym (some_same (Some x) (Some h) there)))))
one_slot (None ∷ cs) (suc a) (suc b) g h differ here there same = ap suc (one_slot cs a b g h differ here there same)
one_slot (Some x ∷ cs) (suc a) (suc b) g h differ here there same = ap suc (one_slot cs a b g h differ.1 here there same)

-- in one slot is one header
pub one_header : (held : List (Option HeaderValue)) (a b : ℕ) (g h : HeaderValue) → a ≡ b → slice_get held a ≡ Some (Some g) → slice_get held b ≡ Some (Some h) → g ≡ h
one_header held a b g h same here there = some_same g h (some_same (Some g) (Some h) (sym here ∙ ap (slice_get held) same ∙ there))

pub old_id : (snapshot id : ℕ) → is_old snapshot id ≡ true → (id ≢ 0) × (id < snapshot)
old_id snapshot id old =
    let parts = both (not (id == 0)) (nat_lt id snapshot) old in
    (λ none. absurd (let wrong : false ≡ true = sym (ap not (eq-eqb id 0 none)) ∙ parts.0 in cc), ltb-true id snapshot parts.1)

module _ (held : List (Option HeaderValue)) (t : SlotTable) (slots : RepresentsSlots held t) where
  -- the container of an id that isn't 0
  pub header_at : (slot id : ℕ) → get_or t.ids.items slot 0 ≡ id → id ≢ 0 → (h : HeaderValue) × ((slice_get held slot ≡ Some (Some h)) × (h.id ≡ id))
  header_at slot id id_is some =
      let in_held : get_or (ids_of held) slot 0 ≡ id = ap (λ (ids : List ℕ). get_or ids slot 0) (sym slots.ids_are) ∙ id_is in
      let there = open_slot held slot (λ none. some (sym in_held ∙ none)) in
      (there.0, (there.1, sym (id_at held slot there.0 there.1) ∙ in_held))

  pub kind_at : (slot : ℕ) (h : HeaderValue) → slice_get held slot ≡ Some (Some h) → kind_in t slot ≡ Some h.kind
  kind_at slot h there =
      ap (λ (counts : List SlotCount). option_map (λ (c : SlotCount). c.kind) (slice_get counts slot)) slots.counts_are
      ∙ ap (option_map (λ (c : SlotCount). c.kind)) (count_at held slot (Some h) there)

-- ---- what came to its end stands in its slot

-- A source of a number below another one stands in a slot.
pub record IsSourceIn (held : List (Option HeaderValue)) (snapshot : ℕ) (sources : List ℕ) (before slot : ℕ) : Type 0 where
  pub header : HeaderValue
  pub there : slice_get held slot ≡ Some (Some header)
  pub number : ℕ
  pub below : number < before
  pub id_is : header.id ≡ get_or sources number 0
  pub old : header.id < snapshot

module _ (held : List (Option HeaderValue)) (t : SlotTable) (snapshot : ℕ) (s : Sweep) (under : IsSweeping t snapshot s) where
  -- each source is of before
  pub source_old : (number : ℕ) → number < length s.sources.items → (get_or s.sources.items number 0 ≢ 0) × (get_or s.sources.items number 0 < snapshot)
  source_old number within = old_id snapshot (get_or s.sources.items number 0) (under.left.old number within)

  -- where one goes on from an entry, it is one
  pub half_within : 0 < entry_in s.next → sources_before s s.next < length s.sources.items
  half_within some = by_next s.next under.next_is some
    where
      by_next : (n : Next) → HasNext t s n → 0 < entry_in n → sources_before s n < length s.sources.items
      by_next (CopyNext source entry) has more = has.0
      by_next (Flush source entry) has more = has.2 more
      by_next (Release source entry) has more = (has.1 more).0
      by_next End has more = absurd (omega (arith, more))

  module _ (slots : RepresentsSlots held t) where
    taken_in : (slot : ℕ) → IsTaken t s.sources.items (sources_before s s.next) slot → IsSourceIn held snapshot s.sources.items (sources_before s s.next) slot
    taken_in slot taken =
        let within : taken.number < length s.sources.items = omega (arith, taken.taken, under.before) in
        let old = source_old taken.number within in
        let at = header_at held t slots slot (get_or s.sources.items taken.number 0) taken.id_is old.0 in
        record { header = at.0; there = at.1.0; number = taken.number; below = taken.taken; id_is = at.1.1; old = omega (arith, at.1.1, old.1) }

    pub stands_in : (slot : ℕ) → Contains (s.waiting.items ++ s.ready.items) slot → IsSourceIn held snapshot s.sources.items (sources_before s s.next) slot
    stands_in slot there = taken_in slot (of_each (IsTaken t s.sources.items (sources_before s s.next)) (s.waiting.items ++ s.ready.items) slot under.taken there)

    pub sources_stand : SourcesStand held snapshot s
    sources_stand = record {
      old = λ number within. (source_old number within).1;
      before = under.before;
      within = half_within;
      stand = λ slot there. let is = stands_in slot there in (is.header, (is.there, is.old));
    }

-- ---- the index

-- where the newest copy of a key lies, there is an entry of it
pub record LiesAt (held : List (Option HeaderValue)) (key : List ℕ) (place : Place) : Type 0 where
  pub header : HeaderValue
  pub there : slice_get held place.slot ≡ Some (Some header)
  pub entry : Entry
  pub found : find (λ e. bytes_eq (entry_key header.kind e) key) header.entries ≡ Some entry
  pub key_is : entry_key header.kind entry ≡ key
  pub place_is : place ≡ place_of place.slot entry

some_copy : (copy : Option Copy) (place : Place) → option_map (λ (c : Copy). c.place) copy ≡ Some place → (c : Copy) × ((copy ≡ Some c) × (c.place ≡ place))
some_copy None place some = absurd cc
some_copy (Some copy) place some = (copy, (refl, cc))

all_so : (es : List Entry) → AllByRecursion (λ (e : Entry). Unit {0}) es
all_so [] = tt
all_so (e ∷ es) = (tt, all_so es)

module _ (held : List (Option HeaderValue)) (index : PlaceMap) (partial : IsPartialIndexOf held index) (key : List ℕ) (place : Place)
    (has : finite.get index key ≡ Some place) where
  pub copy_of : (c : Copy) × ((newest 0 held key ≡ Some c) × (c.place ≡ place))
  copy_of = some_copy (newest 0 held key) place (partial key place has)

  pub lies_at : LiesAt held key place
  lies_at =
      let found = copy_of in
      let at = lies 0 held key found.0 found.1.0 in
      let place_is : place ≡ place_of (0 + at.index) at.entry = sym found.1.1 ∙ ap (λ (c : Copy). c.place) at.copy_is in
      let slot_is : at.index ≡ place.slot = let is : 0 + at.index ≡ place.slot = sym (ap (λ (p : Place). p.slot) place_is) in omega (arith, is) in
      let so = found_so (λ (e : Entry). Unit {0}) (λ e. bytes_eq (entry_key at.header.kind e) key) at.header.entries at.entry (all_so at.header.entries) at.found in
      record {
        header = at.header;
        there = ap (slice_get held) (sym slot_is) ∙ slice_get-get_or held at.index None at.within ∙ ap Some at.there;
        entry = at.entry;
        found = at.found;
        key_is = (bytes_eq-Decides (entry_key at.header.kind at.entry) key).0 so.1;
        place_is = place_is ∙ ap (λ (n : ℕ). place_of n at.entry) (sym (ap (λ (p : Place). p.slot) place_is));
      }

module _ (index : PlaceMap) (kind : Kind) (slot : ℕ) (e : Entry) where
  -- the index's copy is at the entry's place
  pub copy_at : is_copy index kind slot e ≡ true → finite.get index (entry_key kind e) ≡ Some (place_of slot e)
  copy_at is = by_found (finite.get index (entry_key kind e)) is
    where
      by_found : (found : Option Place) → is_place_found found (place_of slot e) ≡ true → found ≡ Some (place_of slot e)
      by_found None none = absurd cc
      by_found (Some place) same = ap Some (same_place place (place_of slot e) same)

  pub at_copy : finite.get index (entry_key kind e) ≡ Some (place_of slot e) → is_copy index kind slot e ≡ true
  at_copy is = ap (λ (found : Option Place). is_place_found found (place_of slot e)) is ∙ place_same (place_of slot e)

-- ---- live keys

-- a key is live at any place
pub live_anywhere : (live : LiveKeys) (key : List ℕ) (a b : Place) → IsLiveAt live key a → IsLiveAt live key b
unfolding IsLiveAt
live_anywhere live key a b is = is

-- one that keeps its place stays live
pub live_on : (index later : PlaceMap) (live : LiveKeys) (key : List ℕ)
    → ((place : Place) → finite.get index key ≡ Some place → (other : Place) × (finite.get later key ≡ Some other)) → IsLive index live key
    → IsLive later live key
live_on index later live key has is =
    let there = has is.0 is.1.0 in
    (there.0, (there.1, live_anywhere live key is.0 there.0 is.1.1))
