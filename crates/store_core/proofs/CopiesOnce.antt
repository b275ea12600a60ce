-- A key that a collection copied is not copied again: its newest copy lies in a container that came after the collection began.
use Rattle.store_core.proofs.Prelude.{◌≡◌, ℕ, zero, suc, ◌+◌, ◌≤◌, Bool, true, false, cond, List, [], ◌∷◌, length, map, Option, Some, None, refl, sym, ◌∙◌, ap, subst, arith, ◌||◌, if◌then◌else◌, nat_lt, bytes_eq, ltb-true, ltb-false, bytes_eq-Decides, sha256, key_of, Entry, Kind, kind_byte, PlaceMap, Segment, entries_from, segment_key, HeaderValue, copy_of, listed, IsPartialIndexOf, newest, place_of, some_same, ◌⊎◌, inl, inr}
use Rattle.std.proofs.Common.{find, option_map}
use Rattle.std.specs.Prelude.{Contains, slice_get}
use Rattle.std.proofs.lemmas.Option.{slice_get-get_or}
use Rattle.gc_steps.proofs.CopiedOn.{LiesOld}
use Rattle.gc_sweep.proofs.KeyLists.{listed_left, listed_one, listed_right}
use Rattle.store_model.specs.Slots.{Copy, copy_in, newer}
use Rattle.store_model.proofs.Copies.{lies}

-- ---- lists of keys

-- a key that a list contains is found in it
pub listed_of : (keys : List (List ℕ)) (key : List ℕ) → Contains keys key → listed keys key ≡ true
listed_of [] key (k, below, is) = absurd (omega (arith, below))
listed_of (x ∷ xs) key (zero, below, is) = listed_left (x ∷ []) xs key (subst (λ (y : List ℕ). listed (y ∷ []) key ≡ true) (sym is) (listed_one key))
listed_of (x ∷ xs) key (suc k, below, is) = listed_right (x ∷ []) xs key (listed_of xs key (k, omega (arith, below), is))

or_cases : (a b : Bool) → (a || b) ≡ true → (a ≡ true) ⊎ (b ≡ true)
or_cases true b is = inl refl
or_cases false b is = inr is

pub of_listed : (keys : List (List ℕ)) (key : List ℕ) → listed keys key ≡ true → Contains keys key
of_listed [] key has = absurd cc
of_listed (x ∷ xs) key has = elim (or_cases (bytes_eq x key) (listed xs key) has) [
  | inl same ↦ (0, omega arith, (bytes_eq-Decides x key).0 same)
  | inr later ↦ let there = of_listed xs key later in (suc there.0, omega (arith, there.1), there.2)
]

-- ---- the newest copy

-- the first entry of a key
abbrev pub entry_in : HeaderValue → List ℕ → Option Entry
entry_in h key = find (λ e. bytes_eq (key_of (kind_byte h.kind) e.digest) key) h.entries

-- a container that holds the key stands, under an id from the snapshot on
pub record HoldsNewer (held : List (Option HeaderValue)) (snapshot : ℕ) (key : List ℕ) : Type 0 where
  pub slot : ℕ
  pub header : HeaderValue
  pub there : slice_get held slot ≡ Some (Some header)
  pub new : snapshot ≤ header.id
  pub entry : Entry
  pub found : entry_in header key ≡ Some entry

-- the container of segments has an entry of each of their keys
pub listed_found : (kind : Kind) (offset : ℕ) (ss : List Segment) (key : List ℕ) → listed (map (segment_key kind) ss) key ≡ true
    → (e : Entry) × (find (λ x. bytes_eq (key_of (kind_byte kind) x.digest) key) (entries_from offset ss) ≡ Some e)
listed_found kind offset [] key has = absurd cc
listed_found kind offset (x ∷ xs) key has = by_test (bytes_eq (segment_key kind x) key) has (listed_found kind (offset + length x.bytes) xs key)
  where
    here : Entry
    here = record { digest = sha256 x.bytes; offset = offset; length = length x.bytes; level = x.level }

    rest : Option Entry
    rest = find (λ e. bytes_eq (key_of (kind_byte kind) e.digest) key) (entries_from (offset + length x.bytes) xs)

    by_test : (b : Bool) → b || listed (map (segment_key kind) xs) key ≡ true
        → (listed (map (segment_key kind) xs) key ≡ true → (e : Entry)
        × (find (λ y. bytes_eq (key_of (kind_byte kind) y.digest) key) (entries_from (offset + length x.bytes) xs) ≡ Some e))
        → (e : Entry) × (cond b (Some here) (find (λ y. bytes_eq (key_of (kind_byte kind) y.digest) key) (entries_from (offset + length x.bytes) xs)) ≡ Some e)
    by_test true has later = (here, refl)
    by_test false has later = later has

first_above : (a : Copy) (x : Option Copy) → (c : Copy) × ((newer (Some a) x ≡ Some c) × (a.id ≤ c.id))
first_above a None = (a, (refl, omega arith))
first_above a (Some b) = by_test (nat_lt a.id b.id) refl
  where
    by_test : (t : Bool) → nat_lt a.id b.id ≡ t → (c : Copy) × (((if t then Some b else Some a) ≡ Some c) × (a.id ≤ c.id))
    by_test true less = (b, (refl, omega (arith, ltb-true a.id b.id less)))
    by_test false more = (a, (refl, omega arith))

second_above : (x : Option Copy) (b : Copy) → (c : Copy) × ((newer x (Some b) ≡ Some c) × (b.id ≤ c.id))
second_above None b = (b, (refl, omega arith))
second_above (Some a) b = by_test (nat_lt a.id b.id) refl
  where
    by_test : (t : Bool) → nat_lt a.id b.id ≡ t → (c : Copy) × (((if t then Some b else Some a) ≡ Some c) × (b.id ≤ c.id))
    by_test true less = (b, (refl, omega arith))
    by_test false more = (a, (refl, omega (arith, ltb-false a.id b.id more)))

-- a key that a container holds has a newest copy, in a container of no lower id
newest_above : (from : ℕ) (held : List (Option HeaderValue)) (key : List ℕ) (slot : ℕ) (h : HeaderValue) (e : Entry) → slice_get held slot ≡ Some (Some h) → entry_in h key ≡ Some e
    → (c : Copy) × ((newest from held key ≡ Some c) × (h.id ≤ c.id))
newest_above from [] key slot h e there found = absurd cc
newest_above from (c ∷ cs) key zero h e there found =
    let here : Copy = record { id = h.id; place = place_of from e } in
    let is : copy_in from c key ≡ Some here =
    ap (λ (x : Option HeaderValue). copy_in from x key) (some_same c (Some h) there)
    ∙ ap (λ (x : Option Entry). option_map (λ y. (let copy : Copy = record { id = h.id; place = place_of from y } in copy)) x) found in
    let above = first_above here (newest (from + 1) cs key) in
    (above.0, (ap (λ (x : Option Copy). newer x (newest (from + 1) cs key)) is ∙ above.1.0, above.1.1))
newest_above from (c ∷ cs) key (suc slot) h e there found =
    let rest = newest_above (from + 1) cs key slot h e there found in
    let above = second_above (copy_in from c key) rest.0 in
    (above.0, (ap (newer (copy_in from c key)) rest.1.0 ∙ above.1.0, omega (arith, rest.1.1, above.1.1)))

-- so its copy that the index has does not lie in an older one
pub not_old : (held : List (Option HeaderValue)) (index : PlaceMap) (key : List ℕ) (snapshot : ℕ) → IsPartialIndexOf held index → HoldsNewer held snapshot key
    → LiesOld index held snapshot key → ⊥
not_old held index key snapshot partial newer_one (place, (has, (g, (there, below)))) =
    let c = copy_of held index partial key place has in
    let above = newest_above 0 held key newer_one.slot newer_one.header newer_one.entry newer_one.there newer_one.found in
    let same : c.0 ≡ above.0 = some_same c.0 above.0 (sym c.1.0 ∙ above.1.0) in
    let at = lies 0 held key c.0 c.1.0 in
    let slot_is : place.slot ≡ 0 + at.index = ap (λ (p : _). p.slot) (sym c.1.1) ∙ ap (λ (x : Copy). x.place.slot) at.copy_is in
    let here : slice_get held at.index ≡ Some (Some at.header) = slice_get-get_or held at.index None at.within ∙ ap Some at.there in
    let in_slot : place.slot ≡ at.index = omega (arith, slot_is) in
    let header_is : g ≡ at.header = some_same g at.header (some_same (Some g) (Some at.header) (sym there ∙ ap (slice_get held) in_slot ∙ here)) in
    omega (arith, below, ap (λ (x : HeaderValue). x.id) header_is, ap (λ (x : Copy). x.id) at.copy_is, ap (λ (x : Copy). x.id) same, above.1.1, newer_one.new)
