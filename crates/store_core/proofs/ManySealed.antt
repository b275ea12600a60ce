-- Containers that are sealed one after the other, each in the closed slot of least number: what the store, the index and the pins have of
-- them.
use Rattle.store_core.proofs.Prelude.{some_same, ◌≡◌, ◌≢◌, ◌↔◌, ◌⊎◌, inl, inr, ℕ, zero, suc, ◌+◌, ◌≤◌, Bool, true, false, List, [], ◌∷◌, length, map, take, Some, None, refl, sym, ◌∙◌, ap, subst, arith, AllByRecursion, key_of, kind_byte, sha256, Entry, PinMap, IsPartKey, Writing, with_pins, PlaceMap, Kind, Segment, entries_from, segment_key, header_of, Store, HasKey, free_slots, first_free, with_slot, with_sealed, with_entries, free_sealed, put_none, CanSeal, IsValidFor, last_sequence, RESERVE, ChangesTo, StoreChange, changed, Contains-append_cases, Contains-append_left, Contains-append_right, contains_none}
use Rattle.std.specs.FinMap as finite
use Rattle.std.specs.List.{Contains}
use Rattle.std.proofs.lemmas.List.Elements.{All-contains, All-from_recursion, All-map}
use Rattle.actor_parts.specs.Segments.{pin_by}
use Rattle.gc_steps.proofs.ClaimedPin.{one_more}
use Rattle.gc_steps.proofs.Marked.{contains_first, contains_head, contains_next}
use Rattle.container_meta.specs.Segments.{Contents, keys_of}
use Rattle.container_log.specs.Many.{placed}
use Rattle.store_model.specs.Slots.{IsIndexOf}
use Rattle.store_model.specs.Steps.{MaySeal}
use Rattle.store_model.specs.Together.{Placed, with_all, with_some}
use Rattle.store_model.proofs.Indexing.{has_segments, still_has}
use Rattle.store_model.proofs.IndexSize.{index_sealed}
use Rattle.store_model.proofs.NewestSealed.{none_found}
use Rattle.store_model.proofs.Valid.{valid_sealed}
use Rattle.store_state.specs.Tables.{closed_from}
use Rattle.ingest_steps.specs.Offering.{in_free, with_pins_of}
use Rattle.ingest_steps.specs.SealingAll.{CanSealAll, MayAllSeal, places_with_all}
use Rattle.ingest_steps.proofs.PlacedFree.{first_in, in_free_step}
use Rattle.gc_sweep.proofs.KeyLists.{each_so}
use Rattle.gc_steps.proofs.SealedPins.{Comes, comes_as, comes_none, comes_one, comes_then}
use Rattle.store_core.specs.Collecting.{keys_in}
use Rattle.store_core.specs.Core.{AddsNone, IndexesAdded, changed_by, seals_from}

-- P holds of the first of those of which it holds
pub all_taken : {X : Type 0} (P : X → Type 0) (n : ℕ) (xs : List X) → AllByRecursion P xs → AllByRecursion P (take n xs)
all_taken P zero xs all = tt
all_taken P (suc n) [] all = tt
all_taken P (suc n) (x ∷ xs) all = (all.0, all_taken P n xs all.1)

-- ---- the store

pub chain_of : (id : ℕ) (cs : List Contents) (s : Store) → CanSealAll id cs s → ChangesTo (seals_from id cs) s (changed_by (seals_from id cs) s)
chain_of id [] s can = refl
chain_of id (c ∷ cs) s can = (can.0, chain_of (suc id) cs (with_sealed id c.kind c.segments s) can.1)

pub none_placed : (slots : List ℕ) (id : ℕ) → placed slots id [] ≡ []
none_placed [] id = refl
none_placed (s ∷ ss) id = refl

-- the first of them, and those that come after it
pub step_of : (id : ℕ) (c : Contents) (cs : List Contents) (s : Store) → CanSeal id c.kind c.segments s
    → in_free id (c ∷ cs) s ≡ first_in id c s ∷ in_free (suc id) cs (with_sealed id c.kind c.segments s)
step_of id c cs s can = in_free_step id c cs s (omega (arith, can.slot))

-- the store with all of them is the one to which sealing them leads
pub all_sealed : (id : ℕ) (cs : List Contents) (s t : Store) → ChangesTo (seals_from id cs) s t → with_all (in_free id cs s) s ≡ t
all_sealed id [] s t chain = ap (λ (ps : List Placed). with_all ps s) (none_placed (closed_from 0 s.held) id) ∙ sym chain
all_sealed id (c ∷ cs) s t chain =
    ap (λ (ps : List Placed). with_all ps s) (step_of id c cs s chain.0) ∙ all_sealed (suc id) cs (with_sealed id c.kind c.segments s) t chain.1

-- they lead to one store
pub leads_once : (changes : List StoreChange) (s t u : Store) → ChangesTo changes s t → ChangesTo changes s u → t ≡ u
leads_once [] s t u one two = one ∙ sym two
leads_once (change ∷ rest) s t u one two = leads_once rest (changed change s) t u one.1 two.1

pub valid_on : (id : ℕ) (cs : List Contents) (s t : Store) (size : ℕ) → ChangesTo (seals_from id cs) s t → IsValidFor size s → IsValidFor size t
valid_on id [] s t size chain valid = subst (IsValidFor size) (sym chain) valid
valid_on id (c ∷ cs) s t size chain valid =
    valid_on (suc id) cs (with_sealed id c.kind c.segments s) t size chain.1 (valid_sealed id c.kind c.segments s chain.0 size valid)

-- the slots of the reserve are left
pub room_left : (id : ℕ) (cs : List Contents) (s t : Store) → 1 ≤ length cs → ChangesTo (seals_from id cs) s t → RESERVE ≤ free_slots t.held
room_left id [] s t some chain = absurd (omega (arith, some))
room_left id (c ∷ []) s t some chain =
    subst (λ (u : Store). RESERVE ≤ free_slots u.held) (sym chain.1) (omega (arith, chain.0.slot, free_sealed id c.kind c.segments s chain.0))
room_left id (c ∷ d ∷ ds) s t some chain = room_left (suc id) (d ∷ ds) (with_sealed id c.kind c.segments s) t (omega arith) chain.1

-- nothing but the slots changes
pub rest_on : (id : ℕ) (cs : List Contents) (s t : Store) → ChangesTo (seals_from id cs) s t → t ≡ record s { held = t.held }
rest_on id [] s t chain = subst (λ (u : Store). u ≡ record s { held = u.held }) (sym chain) refl
rest_on id (c ∷ cs) s t chain = rest_on (suc id) cs (with_sealed id c.kind c.segments s) t chain.1

pub last_some : (marks : List Bool) (ps : List Placed) (s : Store) → last_sequence (with_some marks ps s) ≡ last_sequence s
last_some [] ps s = refl
last_some (mark ∷ marks) [] s = refl
last_some (true ∷ marks) (p ∷ ps) s = last_some marks ps (record s { held = with_slot p.slot (header_of p.id p.kind p.segments) s.held })
last_some (false ∷ marks) (p ∷ ps) s = last_some marks ps s

pub some_of_none : (marks : List Bool) (s : Store) → with_some marks [] s ≡ s
some_of_none [] s = refl
some_of_none (mark ∷ marks) s = refl

-- ---- each of them

pub may_placed : (S : List ℕ → Type 0) (slots : List ℕ) (id : ℕ) (cs : List Contents) → AllByRecursion (λ c. AllByRecursion (MaySeal S c.kind) c.segments) cs
    → MayAllSeal S (placed slots id cs)
may_placed S [] id cs may = tt
may_placed S (s ∷ ss) id [] may = tt
may_placed S (s ∷ ss) id (c ∷ cs) may = (may.0, may_placed S ss (suc id) cs may.1)

pub all_free : (P : Kind → List Segment → Type 0) (id : ℕ) (cs : List Contents) (s t : Store) → ChangesTo (seals_from id cs) s t
    → AllByRecursion (λ (p : Placed). P p.kind p.segments) (in_free id cs s) → AllByRecursion (λ (c : Contents). P c.kind c.segments) cs
all_free P id [] s t chain all = tt
all_free P id (c ∷ cs) s t chain all =
    let both = subst (AllByRecursion (λ (p : Placed). P p.kind p.segments)) (step_of id c cs s chain.0) all in
    (both.0, all_free P (suc id) cs (with_sealed id c.kind c.segments s) t chain.1 both.1)

pub few_placed : (slots : List ℕ) (id : ℕ) (cs : List Contents) → length (placed slots id cs) ≤ length cs
few_placed [] id cs = omega arith
few_placed (s ∷ ss) id [] = omega arith
few_placed (s ∷ ss) id (c ∷ cs) = omega (arith, few_placed ss (suc id) cs)

-- ---- the index

-- the map with the places of the first
abbrev one_on : Placed → PlaceMap → PlaceMap
one_on p m = with_entries p.kind p.slot (entries_from 0 p.segments) m

pub places_on : (ps : List Placed) (m : PlaceMap) → (after : PlaceMap) × (places_with_all ps (Some m) ≡ Some after)
places_on [] m = (m, refl)
places_on (p ∷ ps) m = places_on ps (one_on p m)

pub none_known : (ps : List Placed) → places_with_all ps None ≡ None
none_known [] = refl
none_known (p ∷ ps) = none_known ps

pub places_keep : (ps : List Placed) (m after : PlaceMap) → places_with_all ps (Some m) ≡ Some after → (key : List ℕ) → HasKey m key → HasKey after key
places_keep [] m after is key has = subst (λ (x : PlaceMap). HasKey x key) (some_same m after is) has
places_keep (p ∷ ps) m after is key has = places_keep ps (one_on p m) after is key (still_has p.kind p.slot (entries_from 0 p.segments) m key has)

pub places_add : (slots : List ℕ) (id : ℕ) (cs : List Contents) (m after : PlaceMap) → length cs ≤ length slots → places_with_all (placed slots id cs) (Some m) ≡ Some after
    → AllByRecursion (IndexesAdded after) (seals_from id cs)
places_add slots id [] m after many is = tt
places_add [] id (c ∷ cs) m after many is = absurd (omega (arith, many))
places_add (s ∷ ss) id (c ∷ cs) m after many is =
    let more : PlaceMap = with_entries c.kind s (entries_from 0 c.segments) m in (
      each_so (λ x. HasKey more (segment_key c.kind x)) (λ x. HasKey after (segment_key c.kind x)) c.segments
          (λ x has. places_keep (placed ss (suc id) cs) more after is (segment_key c.kind x) has) (has_segments c.kind s 0 c.segments m),
      places_add ss (suc id) cs more after (omega (arith, many)) is,
    )

-- what is so of the digests of segments is so of their entries
pub to_entries : (P : List ℕ → Type 0) (offset : ℕ) (ss : List Segment) → AllByRecursion (λ (s : Segment). P (sha256 s.bytes)) ss
    → AllByRecursion (λ (e : Entry). P e.digest) (entries_from offset ss)
to_entries P offset [] all = tt
to_entries P offset (s ∷ ss) all = (all.0, to_entries P (offset + length s.bytes) ss all.1)

pub none_of : (kind : Kind) (slot : ℕ) (segments : List Segment) (m : PlaceMap) (key : List ℕ) → AllByRecursion (λ x. segment_key kind x ≢ key) segments
    → finite.get (with_entries kind slot (entries_from 0 segments) m) key ≡ finite.get m key
none_of kind slot segments m key none =
    put_none kind slot (entries_from 0 segments) m key
    (none_found kind key (entries_from 0 segments) (to_entries (λ digest. key_of (kind_byte kind) digest ≢ key) 0 segments none))

pub places_others : (slots : List ℕ) (id : ℕ) (cs : List Contents) (m after : PlaceMap) (key : List ℕ) → AllByRecursion (AddsNone key) (seals_from id cs)
    → places_with_all (placed slots id cs) (Some m) ≡ Some after → finite.get after key ≡ finite.get m key
places_others [] id cs m after key none is = ap (λ (x : PlaceMap). finite.get x key) (sym (some_same m after is))
places_others (s ∷ ss) id [] m after key none is = ap (λ (x : PlaceMap). finite.get x key) (sym (some_same m after is))
places_others (s ∷ ss) id (c ∷ cs) m after key none is =
    places_others ss (suc id) cs (with_entries c.kind s (entries_from 0 c.segments) m) after key none.1 is ∙ none_of c.kind s c.segments m key none.0

pub index_on : (id : ℕ) (cs : List Contents) (s t : Store) (m after : PlaceMap) → ChangesTo (seals_from id cs) s t → places_with_all (in_free id cs s) (Some m) ≡ Some after
    → IsIndexOf s.held m → IsIndexOf t.held after
index_on id [] s t m after chain is whole =
    let same : m ≡ after = some_same m after (sym (ap (λ (ps : List Placed). places_with_all ps (Some m)) (none_placed (closed_from 0 s.held) id)) ∙ is) in
    subst (λ (x : PlaceMap). IsIndexOf t.held x) same (subst (λ (u : Store). IsIndexOf u.held m) (sym chain) whole)
index_on id (c ∷ cs) s t m after chain is whole =
    index_on (suc id) cs (with_sealed id c.kind c.segments s) t (with_entries c.kind (first_free s.held) (entries_from 0 c.segments) m) after chain.1
    (sym (ap (λ (ps : List Placed). places_with_all ps (Some m)) (step_of id c cs s chain.0)) ∙ is)
    (index_sealed id c.kind c.segments s chain.0 m whole chain.0.right)

-- ---- keys, and pins

-- the pins after a container is sealed are those before, and its keys
pins_more : (kind : Kind) (segments : List Segment) (pins : PinMap) (key : List ℕ)
    → IsPartKey (Writing (with_pins kind segments pins)) key ↔ (IsPartKey (Writing pins) key ⊎ Contains (map (segment_key kind) segments) key)
pins_more kind [] pins key = (λ is. inl is, λ is. elim is [ inl was ↦ was | inr none ↦ absurd (contains_none key none) ])
pins_more kind (x ∷ xs) pins key =
    let rest = pins_more kind xs (finite.insert pins (segment_key kind x) (pin_by kind x)) key in
    let one = one_more pins (segment_key kind x) (pin_by kind x) key in (
      λ is. elim (rest.0 is) [
        | inl was ↦ elim (one.0 was) [
          | inl before ↦ inl before
          | inr same ↦ inr
              (subst (λ (k : List ℕ). Contains (segment_key kind x ∷ map (segment_key kind) xs) k) (sym same) (contains_head (segment_key kind x) (map (segment_key kind) xs)))
        ]
        | inr later ↦ inr (contains_next (segment_key kind x) key (map (segment_key kind) xs) later)
      ],
      λ is. elim is [
        | inl was ↦ rest.1 (inl (one.1 (inl was)))
        | inr has ↦ elim (contains_first (segment_key kind x) key (map (segment_key kind) xs) has) [
          | inl same ↦ rest.1 (inl (one.1 (inr same)))
          | inr later ↦ rest.1 (inr later)
        ]
      ],
    )

-- a key that no segment has is none that is added
none_added : (kind : Kind) (key : List ℕ) (segments : List Segment) → (Contains (map (segment_key kind) segments) key → ⊥)
    → AllByRecursion (λ s. segment_key kind s ≢ key) segments
none_added kind key [] none = tt
none_added kind key (x ∷ xs) none = (
  λ same. none (subst (λ (k : List ℕ). Contains (segment_key kind x ∷ map (segment_key kind) xs) k) same (contains_head (segment_key kind x) (map (segment_key kind) xs))),
  none_added kind key xs (λ later. none (contains_next (segment_key kind x) key (map (segment_key kind) xs) later)),
)

-- a key of the first ones, or of others
keys_split : (c : Contents) (cs : List Contents) (key : List ℕ) → (Contains (keys_of c) key ⊎ Contains (keys_in cs) key) ↔ Contains (keys_in (c ∷ cs)) key
keys_split c cs key = (
  λ either. elim either [
    | inl here ↦ Contains-append_left (keys_of c) (keys_in cs) key here
    | inr later ↦ Contains-append_right (keys_of c) (keys_in cs) key later
  ],
  λ among. Contains-append_cases (keys_of c) (keys_in cs) key among,
)

-- what they make of the store, for a collection
pub comes_all : (id : ℕ) (cs : List Contents) (s t : Store) → ChangesTo (seals_from id cs) s t → Comes (Contains (keys_in cs)) id s t
comes_all id [] s t chain =
    subst (Comes (Contains []) id s) (sym chain)
    (comes_as (λ key. ⊥) (Contains []) id s s (λ key. (λ none. absurd none, λ among. contains_none key among)) (comes_none id s))
comes_all id (c ∷ cs) s t chain =
    let mid : Store = with_sealed id c.kind c.segments s in
    comes_as (λ key. Contains (keys_of c) key ⊎ Contains (keys_in cs) key) (Contains (keys_in (c ∷ cs))) id s t (keys_split c cs)
    (comes_then (Contains (keys_of c)) (Contains (keys_in cs)) id (suc id) s mid t (omega arith) (comes_one s id c chain.0) (comes_all (suc id) cs mid t chain.1))

-- the pins after they are sealed are those before, and their keys
pub pins_all : (cs : List Contents) (pins : PinMap) (key : List ℕ)
    → IsPartKey (Writing (with_pins_of cs pins)) key ↔ (IsPartKey (Writing pins) key ⊎ Contains (keys_in cs) key)
pins_all [] pins key = (λ is. inl is, λ is. elim is [ inl was ↦ was | inr none ↦ absurd (contains_none key none) ])
pins_all (c ∷ cs) pins key =
    let rest = pins_all cs (with_pins c.kind c.segments pins) key in
    let one = pins_more c.kind c.segments pins key in
    let split = keys_split c cs key in (
      λ is. elim (rest.0 is) [
        | inl was ↦ elim (one.0 was) [ inl before ↦ inl before | inr here ↦ inr (split.0 (inl here)) ]
        | inr later ↦ inr (split.0 (inr later))
      ],
      λ is. elim is [
        | inl was ↦ rest.1 (inl (one.1 (inl was)))
        | inr among ↦ elim (split.1 among) [ inl here ↦ rest.1 (inl (one.1 (inr here))) | inr later ↦ rest.1 (inr later) ]
      ],
    )

-- a key that none of them has is none that is added
pub none_sealed : (id : ℕ) (cs : List Contents) (key : List ℕ) → (Contains (keys_in cs) key → ⊥) → AllByRecursion (AddsNone key) (seals_from id cs)
none_sealed id [] key none = tt
none_sealed id (c ∷ cs) key none = (
  none_added c.kind key c.segments (λ here. none ((keys_split c cs key).0 (inl here))),
  none_sealed (suc id) cs key (λ later. none ((keys_split c cs key).0 (inr later))),
)

-- each that is sealed has its place then
pub keys_added : (id : ℕ) (cs : List Contents) (m : PlaceMap) → AllByRecursion (IndexesAdded m) (seals_from id cs)
    → AllByRecursion (λ c. AllByRecursion (λ x. HasKey m (segment_key c.kind x)) c.segments) cs
keys_added id [] m all = tt
keys_added id (c ∷ cs) m all = (all.0, keys_added (suc id) cs m all.1)

-- the index has each of their keys
pub has_keys : (m : PlaceMap) (id : ℕ) (cs : List Contents) → AllByRecursion (IndexesAdded m) (seals_from id cs) → (key : List ℕ) → Contains (keys_in cs) key → HasKey m key
has_keys m id [] all key among = absurd (contains_none key among)
has_keys m id (c ∷ cs) all key among = elim ((keys_split c cs key).1 among) [
  | inl here ↦ All-contains (HasKey m) (keys_of c) key
      (All-map (HasKey m) (segment_key c.kind) c.segments (All-from_recursion (λ (x : Segment). HasKey m (segment_key c.kind x)) c.segments all.0)) here
  | inr later ↦ has_keys m (suc id) cs all.1 key later
]
