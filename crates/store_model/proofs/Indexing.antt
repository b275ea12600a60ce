-- An index, once a container is in the first slot that is closed, and each of its entries was put into the index.
use Rattle.store_model.proofs.Prelude.{◌≡◌, ℕ, ◌+◌, ◌<◌, ◌≤◌, Bool, true, false, cond, List, [], ◌∷◌, ◌++◌, length, Option, Some, None, find, option_map, refl, sym, ◌∙◌, ap, arith, nat_lt, ◌||◌, bytes_eq, slice_cmp, nat_list_cmp_total, AllByRecursion, nat_cmp, eq_by_cmp, ltb-true, ltb-false, list_any-append, bytes_eq-Decides, sha256, Place, Entry, Kind, PlaceMap, Segment, entries_from, segment_key, HeaderValue, IsHeader, has_digest, entry_key, with_entries, Copy, IsIndexOf, IsPartialIndexOf, HasKey, place_of, copy_in, newer, newest, last_id, free_slots, first_free, with_slot}
use Rattle.std.specs.Prelude.{if◌then◌else◌}
use Rattle.std.specs.Cmp.{eq_by_cmp_equiv}
use Rattle.std.specs.FinMap as finite
use Rattle.std.proofs.Math.Bool.{or-true}
use Rattle.std.proofs.lemmas.Map.Text.{is_eq-slice_cmp}
use Rattle.container_meta.specs.Spelling.{Follow}
use Rattle.store_model.proofs.Copies.{some_same, tail_same}
use Rattle.store_model.proofs.CopyIds.{newest_id}

-- the map tells keys apart as their bytes do
pub tied : (q key : List ℕ) → eq_by_cmp (slice_cmp nat_cmp) q key ≡ bytes_eq key q
tied q key = (eq_by_cmp_equiv nat_list_cmp_total).symm q key ∙ is_eq-slice_cmp key q

same_bytes : (a b : List ℕ) → bytes_eq a b ≡ true → a ≡ b
same_bytes a b = (bytes_eq-Decides a b).0

-- the first entry of a key
abbrev pub entry_of : Kind → List Entry → List ℕ → Option Entry
entry_of kind entries key = find (λ e. bytes_eq (entry_key kind e) key) entries

-- ---- entries put into a map

digest_same : (kind : Kind) (a b : Entry) → bytes_eq (entry_key kind a) (entry_key kind b) ≡ true → a.digest ≡ b.digest
digest_same kind a b same = tail_same _ _ a.digest b.digest (same_bytes (entry_key kind a) (entry_key kind b) same)

-- none of the entries after others has the digest of one of those
differs_later : (kind : Kind) (before es : List Entry) (one : Entry) → Follow kind before es → has_digest before one.digest ≡ true → entry_of kind es (entry_key kind one) ≡ None
differs_later kind before [] one follow has = refl
differs_later kind before (e ∷ es) one follow has =
    let other : bytes_eq (entry_key kind e) (entry_key kind one) ≡ false = by_test (bytes_eq (entry_key kind e) (entry_key kind one)) refl in
    ap (λ (b : Bool). cond b (Some e) (entry_of kind es (entry_key kind one))) other
    ∙ differs_later kind (before ++ e ∷ []) es one follow.1
    (list_any-append (λ x. bytes_eq x.digest one.digest) before (e ∷ []) ∙ ap (λ (b : Bool). b || has_digest (e ∷ []) one.digest) has)
  where
    by_test : (b : Bool) → bytes_eq (entry_key kind e) (entry_key kind one) ≡ b → bytes_eq (entry_key kind e) (entry_key kind one) ≡ false
    by_test false other = other
    by_test true same =
        let both : has_digest before one.digest ≡ false = ap (has_digest before) (sym (digest_same kind e one same)) ∙ follow.0.new in
        absurd cc

module _ (kind : Kind) (slot : ℕ) where
  -- what one entry more gives a key
  put_one : (e : Entry) (places : PlaceMap) (key : List ℕ) → finite.get (finite.insert places (entry_key kind e) (place_of slot e)) key ≡
      (if bytes_eq (entry_key kind e) key then Some (place_of slot e) else finite.get places key)
  put_one e places key =
      finite.get-insert nat_list_cmp_total places (entry_key kind e) (place_of slot e) key
      ∙ ap (λ (b : Bool). cond b (Some (place_of slot e)) (finite.get places key)) (tied key (entry_key kind e))

  -- what entries give a key that none of them has
  pub put_none : (es : List Entry) (places : PlaceMap) (key : List ℕ) → entry_of kind es key ≡ None → finite.get (with_entries kind slot es places) key ≡ finite.get places key
  put_none [] places key none = refl
  put_none (e ∷ es) places key none =
      let others = by_test (bytes_eq (entry_key kind e) key) refl none in
      put_none es (finite.insert places (entry_key kind e) (place_of slot e)) key others.1
      ∙ put_one e places key
      ∙ ap (λ (b : Bool). if b then Some (place_of slot e) else finite.get places key) others.0
    where
      by_test : (b : Bool) → bytes_eq (entry_key kind e) key ≡ b → cond b (Some e) (entry_of kind es key) ≡ None → (bytes_eq (entry_key kind e) key ≡ false)
          × (entry_of kind es key ≡ None)
      by_test true is none = absurd cc
      by_test false is none = (is, none)

  -- what they give a key that one of them has
  pub put_some : (before es : List Entry) (places : PlaceMap) (key : List ℕ) (found : Entry) → Follow kind before es → entry_of kind es key ≡ Some found
      → finite.get (with_entries kind slot es places) key ≡ Some (place_of slot found)
  put_some before [] places key found follow is = absurd cc
  put_some before (e ∷ es) places key found follow is =
      by_test (bytes_eq (entry_key kind e) key) refl is (λ later. put_some (before ++ e ∷ []) es (finite.insert places (entry_key kind e) (place_of slot e)) key found follow.1
      later)
    where
      after : PlaceMap
      after = finite.insert places (entry_key kind e) (place_of slot e)

      has_last : has_digest (before ++ e ∷ []) e.digest ≡ true
      has_last =
          list_any-append (λ x. bytes_eq x.digest e.digest) before (e ∷ [])
          ∙ ap (λ (b : Bool). has_digest before e.digest || (b || false)) ((bytes_eq-Decides e.digest e.digest).1 refl)
          ∙ or-true (has_digest before e.digest)

      by_test : (b : Bool) → bytes_eq (entry_key kind e) key ≡ b → cond b (Some e) (entry_of kind es key) ≡ Some found
          → (entry_of kind es key ≡ Some found → finite.get (with_entries kind slot es after) key ≡ Some (place_of slot found)) →
          finite.get (with_entries kind slot es after) key ≡ Some (place_of slot found)
      by_test false other is later = later is
      by_test true same is later =
          let here : e ≡ found = some_same e found is in
          let none : entry_of kind es key ≡ None =
          ap (entry_of kind es) (sym (same_bytes (entry_key kind e) key same)) ∙ differs_later kind (before ++ e ∷ []) es e follow.1 has_last in
          put_none es after key none
          ∙ put_one e places key
          ∙ ap (λ (b : Bool). if b then Some (place_of slot e) else finite.get places key) same
          ∙ ap (λ (x : Entry). Some (place_of slot x)) here

-- ---- the newest copy, once a container is in the first slot that is closed

-- the one of the greater id is the newer, whichever stands first
pub newer_first : (b : Copy) (a : Option Copy) → ((c : Copy) → a ≡ Some c → c.id < b.id) → newer (Some b) a ≡ Some b
newer_first b None below = refl
newer_first b (Some c) below = by_test (nat_lt b.id c.id) refl
  where
    by_test : (less : Bool) → nat_lt b.id c.id ≡ less → (if nat_lt b.id c.id then Some c else Some b) ≡ Some b
    by_test false is = ap (λ (less : Bool). if less then Some c else Some b) is
    by_test true is = absurd (omega (arith, below c refl, ltb-true b.id c.id is))

pub newer_last : (a : Option Copy) (b : Copy) → ((c : Copy) → a ≡ Some c → c.id < b.id) → newer a (Some b) ≡ Some b
newer_last None b below = refl
newer_last (Some c) b below = by_test (nat_lt c.id b.id) refl
  where
    by_test : (less : Bool) → nat_lt c.id b.id ≡ less → (if nat_lt c.id b.id then Some b else Some c) ≡ Some b
    by_test true is = ap (λ (less : Bool). if less then Some b else Some c) is
    by_test false is = absurd (omega (arith, below c refl, ltb-false c.id b.id is))

newer_alone : (a : Option Copy) (c : Copy) → a ≡ Some c → newer a None ≡ Some c
newer_alone None c is = absurd cc
newer_alone (Some a) c is = is

module _ (h : HeaderValue) (key : List ℕ) where
  copy_found : (slot : ℕ) (found : Entry) → entry_of h.kind h.entries key ≡ Some found → copy_in slot (Some h) key ≡ Some (record { id = h.id; place = place_of slot found })
  copy_found slot found is = ap (option_map (λ e. (let c : Copy = record { id = h.id; place = place_of slot e } in c))) is

  copy_none : (slot : ℕ) → entry_of h.kind h.entries key ≡ None → copy_in slot (Some h) key ≡ None
  copy_none slot is = ap (option_map (λ e. (let c : Copy = record { id = h.id; place = place_of slot e } in c))) is

  -- where it has no copy of a key, the one from before
  pub newest_before : (from : ℕ) (held : List (Option HeaderValue)) → entry_of h.kind h.entries key ≡ None → 1 ≤ free_slots held
      → newest from (with_slot (first_free held) h held) key ≡ newest from held key
  newest_before from [] none some = absurd (omega (arith, some))
  newest_before from (None ∷ cs) none some = ap (λ (o : Option Copy). newer o (newest (from + 1) cs key)) (copy_none from none)
  newest_before from (Some g ∷ cs) none some = ap (newer (copy_in from (Some g) key)) (newest_before (from + 1) cs none some)

  -- else, under an id above all, its own
  pub newest_found : (from slot : ℕ) (held : List (Option HeaderValue)) (found : Entry) → slot ≡ from + first_free held → entry_of h.kind h.entries key ≡ Some found →
      1 ≤ free_slots held
      → last_id held < h.id → newest from (with_slot (first_free held) h held) key ≡ Some (record { id = h.id; place = place_of slot found })
  newest_found from slot [] found place is some above = absurd (omega (arith, some))
  newest_found from slot (None ∷ cs) found place is some above =
      let mine : Copy = record { id = h.id; place = place_of from found } in
      ap (λ (o : Option Copy). newer o (newest (from + 1) cs key)) (copy_found from found is)
      ∙ newer_first mine (newest (from + 1) cs key) (λ c has. omega (arith, newest_id (from + 1) cs key c has, above))
      ∙ ap (λ (s : ℕ). Some (let c : Copy = record { id = h.id; place = place_of s found } in c)) (omega (arith, place))
  newest_found from slot (Some g ∷ cs) found place is some above =
      let mine : Copy = record { id = h.id; place = place_of slot found } in
      ap (newer (copy_in from (Some g) key)) (newest_found (from + 1) slot cs found (omega (arith, place)) is some (omega (arith, above)))
      ∙ newer_last (copy_in from (Some g) key) mine (λ c has. omega (arith, newest_id from (Some g ∷ []) key c (newer_alone (copy_in from (Some g) key) c has), above))

-- ---- the index

-- each key has its newest copy still
pub index_with : (h : HeaderValue) (held : List (Option HeaderValue)) (places : PlaceMap) → IsIndexOf held places → IsHeader h → last_id held < h.id → 1 ≤ free_slots held
    → IsIndexOf (with_slot (first_free held) h held) (with_entries h.kind (first_free held) h.entries places)
index_with h held places index right above some key = by_entry (entry_of h.kind h.entries key) refl
  where
    by_entry : (o : Option Entry) → entry_of h.kind h.entries key ≡ o
        → finite.get (with_entries h.kind (first_free held) h.entries places) key ≡ option_map (λ c. c.place) (newest 0 (with_slot (first_free held) h held) key)
    by_entry None is = put_none h.kind (first_free held) h.entries places key is ∙ index key ∙ ap (option_map (λ (c : Copy). c.place)) (sym (newest_before h key 0 held is some))
    by_entry (Some found) is =
        put_some h.kind (first_free held) [] h.entries places key found right.entries is
        ∙ ap (option_map (λ (c : Copy). c.place)) (sym (newest_found h key 0 (first_free held) held found (omega arith) is some above))

-- and so has each that a partial index has
pub partial_with : (h : HeaderValue) (held : List (Option HeaderValue)) (places : PlaceMap) → IsPartialIndexOf held places → IsHeader h → last_id held < h.id → 1 ≤ free_slots held
    → IsPartialIndexOf (with_slot (first_free held) h held) (with_entries h.kind (first_free held) h.entries places)
partial_with h held places index right above some key place there = by_entry (entry_of h.kind h.entries key) refl
  where
    by_entry : (o : Option Entry) → entry_of h.kind h.entries key ≡ o → option_map (λ c. c.place) (newest 0 (with_slot (first_free held) h held) key) ≡ Some place
    by_entry None is =
        ap (option_map (λ (c : Copy). c.place)) (newest_before h key 0 held is some)
        ∙ index key place (sym (put_none h.kind (first_free held) h.entries places key is) ∙ there)
    by_entry (Some found) is =
        ap (option_map (λ (c : Copy). c.place)) (newest_found h key 0 (first_free held) held found (omega arith) is some above)
        ∙ sym (put_some h.kind (first_free held) [] h.entries places key found right.entries is) ∙ there

-- no key that the index had is gone
has_one : (places : PlaceMap) (one : List ℕ) (at : Place) (key : List ℕ) → HasKey places key → HasKey (finite.insert places one at) key
has_one places one at key has = by_test (eq_by_cmp (slice_cmp nat_cmp) key one) (finite.get-insert nat_list_cmp_total places one at key)
  where
    by_test : (b : Bool) → finite.get (finite.insert places one at) key ≡ cond b (Some at) (finite.get places key) → HasKey (finite.insert places one at) key
    by_test true is = (at, is)
    by_test false is = (has.0, is ∙ has.1)

has_this : (places : PlaceMap) (one : List ℕ) (at : Place) → HasKey (finite.insert places one at) one
has_this places one at =
    (at, finite.get-insert nat_list_cmp_total places one at one ∙ ap (λ (b : Bool). cond b (Some at) (finite.get places one)) (tied one one ∙ (bytes_eq-Decides one one).1 refl))

pub still_has : (kind : Kind) (slot : ℕ) (es : List Entry) (places : PlaceMap) (key : List ℕ) → HasKey places key → HasKey (with_entries kind slot es places) key
still_has kind slot [] places key has = has
still_has kind slot (e ∷ es) places key has =
    still_has kind slot es (finite.insert places (entry_key kind e) (place_of slot e)) key (has_one places (entry_key kind e) (place_of slot e) key has)

-- and it has those of the segments
pub has_segments : (kind : Kind) (slot offset : ℕ) (ss : List Segment) (places : PlaceMap)
    → AllByRecursion (λ s. HasKey (with_entries kind slot (entries_from offset ss) places) (segment_key kind s)) ss
has_segments kind slot offset [] places = tt
has_segments kind slot offset (s ∷ ss) places =
    let first : Entry = record { digest = sha256 s.bytes; offset = offset; length = length s.bytes; level = s.level } in
    let one : PlaceMap = finite.insert places (segment_key kind s) (place_of slot first) in (
      still_has kind slot (entries_from (offset + length s.bytes) ss) one (segment_key kind s) (has_this places (segment_key kind s) (place_of slot first)),
      has_segments kind slot (offset + length s.bytes) ss one,
    )
