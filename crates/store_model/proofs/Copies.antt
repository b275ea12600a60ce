-- Where the newest copy of a key lies.
use Rattle.store_model.proofs.Prelude.{◌≡◌, ◌⊎◌, inl, inr, ℕ, zero, suc, ◌+◌, ◌<◌, ◌≤◌, Bool, true, false, cond, List, [], ◌∷◌, ◌++◌, length, get_or, Option, Some, None, find, option_map, refl, sym, ◌∙◌, ap, subst, arith, nat_lt, nat_le, ◌==◌, AllByRecursion, bytes_eq, leb-true, eqb-true, sum_by-append, sum_by-cons, bytes_eq-Decides, sha256, range, key_of, data_at, Entry, Kind, kind_byte, is_level, HeaderValue, IsHeader, bytes_of, HoldSlots, AreHeaders, Copy, place_of, copy_in, newer, newest, Store, Encodes, AreCopies, bytes_at}
use Rattle.std.specs.Prelude.{◌*◌, if◌then◌else◌}
use Rattle.disk_format.specs.declared.numbers.TheConstants.{MOST_CHILDREN, MOST_LEVEL}
use Rattle.container_meta.specs.declared.kind.Kind.TheVariants.{Leaf, Tree}
use Rattle.container_meta.specs.Format.{is_length, is_within, child_count}
use Rattle.container_meta.specs.Spelling.{Follow}
use Rattle.base_model.proofs.Checks.{both}

-- two that are there and the same
pub some_same : {A : Type 0} (a b : A) → Some a ≡ Some b → a ≡ b
some_same a b same = cc

-- a copy of a key in slots from one on: an entry of a container there
pub record LiesIn (from : ℕ) (held : List (Option HeaderValue)) (key : List ℕ) (copy : Copy) : Type 0 where
  pub index : ℕ
  pub header : HeaderValue
  pub entry : Entry
  pub within : index < length held
  pub there : get_or held index None ≡ Some header
  pub found : find (λ e. bytes_eq (key_of (kind_byte header.kind) e.digest) key) header.entries ≡ Some entry
  pub copy_is : copy ≡ record { id = header.id; place = place_of (from + index) entry }

lies_first : (from : ℕ) (c : Option HeaderValue) (cs : List (Option HeaderValue)) (key : List ℕ) (copy : Copy) → copy_in from c key ≡ Some copy → LiesIn from (c ∷ cs) key copy
lies_first from None cs key copy e = absurd cc
lies_first from (Some h) cs key copy e = by_entry (find (λ x. bytes_eq (key_of (kind_byte h.kind) x.digest) key) h.entries) refl e
  where
    by_entry : (found : Option Entry) → find (λ x. bytes_eq (key_of (kind_byte h.kind) x.digest) key) h.entries ≡ found
        → option_map (λ x. record { id = h.id; place = place_of from x }) found ≡ Some copy → LiesIn from (Some h ∷ cs) key copy
    by_entry None is e = absurd cc
    by_entry (Some x) is e = record {
      index = 0;
      header = h;
      entry = x;
      within = omega arith;
      there = refl;
      found = is;
      copy_is = sym (some_same _ copy e) ∙ ap (λ (slot : ℕ). (let c : Copy = record { id = h.id; place = place_of slot x } in c)) (omega arith);
    }

lies_later : (from : ℕ) (c : Option HeaderValue) (cs : List (Option HeaderValue)) (key : List ℕ) (copy : Copy) → LiesIn (from + 1) cs key copy → LiesIn from (c ∷ cs) key copy
lies_later from c cs key copy lies = record {
  index = suc lies.index;
  header = lies.header;
  entry = lies.entry;
  within = omega (arith, lies.within);
  there = lies.there;
  found = lies.found;
  copy_is = lies.copy_is ∙ ap (λ (slot : ℕ). (let c : Copy = record { id = lies.header.id; place = place_of slot lies.entry } in c)) (omega arith);
}

-- the newer of two is one of them
pub one_of : (x y : Option Copy) (a : Copy) → newer x y ≡ Some a → (x ≡ Some a) ⊎ (y ≡ Some a)
one_of None y a e = inr e
one_of (Some x) None a e = inl e
one_of (Some x) (Some y) a e = by_test (nat_lt x.id y.id) e
  where
    by_test : (less : Bool) → (if less then Some y else Some x) ≡ Some a → (Some x ≡ Some a) ⊎ (Some y ≡ Some a)
    by_test true e = inr e
    by_test false e = inl e

-- the newest copy of a key is an entry of a container
pub lies : (from : ℕ) (held : List (Option HeaderValue)) (key : List ℕ) (copy : Copy) → newest from held key ≡ Some copy → LiesIn from held key copy
lies from [] key copy e = absurd cc
lies from (c ∷ cs) key copy e = elim (one_of (copy_in from c key) (newest (from + 1) cs key) copy e) [
  | inl first ↦ lies_first from c cs key copy first
  | inr rest ↦ lies_later from c cs key copy (lies (from + 1) cs key copy rest)
]

-- ---- the bounds of an entry

-- an entry that is found after others ends where they do or before
ends_within : (kind : Kind) (test : Entry → Bool) (before entries : List Entry) (entry : Entry) → Follow kind before entries → find test entries ≡ Some entry
    → (entry.offset + entry.length ≤ bytes_of before + bytes_of entries) × (is_length kind entry.length ≡ true) × (is_level kind entry.level ≡ true)
ends_within kind test before [] entry follow e = absurd cc
ends_within kind test before (x ∷ xs) entry follow e =
    elim (test x)
    as (λ b. cond b (Some x) (find test xs) ≡ Some entry → (entry.offset + entry.length ≤ bytes_of before + bytes_of (x ∷ xs)) × (is_length kind entry.length ≡ true)
    × (is_level kind entry.level ≡ true)) [
      | true ↦ λ is.
          let same = some_same x entry is in
          subst (λ (y : Entry). (y.offset + y.length ≤ bytes_of before + bytes_of (x ∷ xs)) × (is_length kind y.length ≡ true) × (is_level kind y.level ≡ true)) same
          (omega (arith, follow.0.offset, sum_by-cons (λ (y : Entry). y.length) x xs), follow.0.length, follow.0.level)
      | false ↦ λ is.
          let rest = ends_within kind test (before ++ x ∷ []) xs entry follow.1 is in (
            omega (arith, rest.0, sum_by-cons (λ (y : Entry). y.length) x xs, sum_by-append (λ (y : Entry). y.length) before (x ∷ []), sum_by-cons (λ (y : Entry). y.length) x []),
            rest.1,
            rest.2,
          )
    ] e

-- the lengths of segments
pub length_within : (kind : Kind) (n : ℕ) → is_length kind n ≡ true → (1 ≤ n) × (n ≤ 16384)
length_within Leaf n e =
    let parts = both (nat_le 1 n) (nat_le n 16384) e in
    (leb-true 1 n parts.0, leb-true n 16384 parts.1)
length_within Tree n e =
    let node = both (is_within 1 MOST_CHILDREN (child_count n)) (n == 4 + 40 * child_count n) e in
    let children = both (nat_le 1 (child_count n)) (nat_le (child_count n) MOST_CHILDREN) node.0 in
    let is : n ≡ 4 + 40 * child_count n = eqb-true n (4 + 40 * child_count n) node.1 in
    let few : child_count n ≤ 64 = leb-true (child_count n) MOST_CHILDREN children.1 in
    (omega (arith, is), omega (arith, is, few))

-- and their levels
level_within : (kind : Kind) (level : ℕ) → is_level kind level ≡ true → level ≤ MOST_LEVEL
level_within Leaf level e = let zero_level : level ≡ 0 = eqb-true level 0 e in omega (arith, zero_level)
level_within Tree level e = leb-true level MOST_LEVEL (both (nat_le 1 level) (nat_le level MOST_LEVEL) e).1

-- data is at most as long as its section
pub data_within : (h : HeaderValue) → IsHeader h → bytes_of h.entries ≤ 212480
data_within h right =
    let parts = both (nat_le 1 h.data_length) (nat_le h.data_length 212480) right.data_length in
    omega (arith, right.whole, leb-true h.data_length 212480 parts.1)

-- the header in a slot is one
header_there : (held : List (Option HeaderValue)) (index : ℕ) (h : HeaderValue) → AreHeaders held → get_or held index None ≡ Some h → IsHeader h
header_there [] index h headers e = absurd cc
header_there (None ∷ cs) zero h headers e = absurd cc
header_there (None ∷ cs) (suc index) h headers e = header_there cs index h headers e
header_there (Some g ∷ cs) zero h headers e = subst IsHeader (some_same g h e) headers.0
header_there (Some g ∷ cs) (suc index) h headers e = header_there cs index h headers.1 e

-- where a copy may lie
pub record IsWithin (slots : ℕ) (copy : Copy) : Type 0 where
  pub slot : copy.place.slot < slots
  pub ends : copy.place.offset + copy.place.length ≤ 212480
  pub some : 1 ≤ copy.place.length
  pub few : copy.place.length ≤ 16384
  pub level : copy.place.level ≤ MOST_LEVEL

-- a copy in slots lies within them
pub newest_within : (held : List (Option HeaderValue)) (key : List ℕ) (copy : Copy) → AreHeaders held → newest 0 held key ≡ Some copy → IsWithin (length held) copy
newest_within held key copy headers e =
    let l = lies 0 held key copy e in
    let right = header_there held l.index l.header headers l.there in
    let bounds = ends_within l.header.kind _ [] l.header.entries l.entry right.entries l.found in
    let sizes = length_within l.header.kind l.entry.length bounds.1 in
    subst (IsWithin (length held)) (sym l.copy_is) (record {
      slot = omega (arith, l.within);
      ends = omega (arith, bounds.0, data_within l.header right);
      some = sizes.0;
      few = sizes.1;
      level = level_within l.header.kind l.entry.level bounds.2;
    })

-- slots that hold headers have such
pub headers_of_slots : (from : ℕ) (held : List (Option HeaderValue)) (image : List ℕ) → HoldSlots from held image → AreHeaders held
headers_of_slots from [] image holds = tt
headers_of_slots from (None ∷ cs) image holds = headers_of_slots (from + 1) cs image holds.1
headers_of_slots from (Some h ∷ cs) image holds = (holds.0.0, headers_of_slots (from + 1) cs image holds.1)

-- the headers of an image that is right are such
pub headers_of_right : (image : List ℕ) (store : Store) → Encodes image store → AreHeaders store.held
headers_of_right image store right = headers_of_slots 0 store.held image right.slots_are

-- a copy of a store lies within its slots
pub copy_within : (store : Store) (key : List ℕ) (copy : Copy) → AreHeaders store.held → newest 0 store.held key ≡ Some copy
    → (copy.place.slot < length store.held) × (copy.place.offset + copy.place.length ≤ 212480) × (1 ≤ copy.place.length) × (copy.place.length ≤ 16384)
copy_within store key copy headers e =
    let within = newest_within store.held key copy headers e in
    (within.slot, within.ends, within.some, within.few)

-- ---- the digest of a copy

-- each is so, and one of them is found
pub found_so : (P : Entry → Type 0) (test : Entry → Bool) (entries : List Entry) (entry : Entry) → AllByRecursion P entries → find test entries ≡ Some entry →
    P entry × (test entry ≡ true)
found_so P test [] entry all e = absurd cc
found_so P test (x ∷ xs) entry all e =
    elim (test x) as (λ b. test x ≡ b → cond b (Some x) (find test xs) ≡ Some entry → P entry × (test entry ≡ true)) [
      | true ↦ λ so is. subst (λ (y : Entry). P y × (test y ≡ true)) (some_same x entry is) (all.0, so)
      | false ↦ λ so is. found_so P test xs entry all.1 is
    ] refl e

next_slot : (from index : ℕ) (h : HeaderValue) (image : List ℕ) → AllByRecursion (λ e. sha256 (range (data_at ((from + 1) + index) + e.offset) e.length image) ≡ e.digest) h.entries
    → AllByRecursion (λ e. sha256 (range (data_at (from + suc index) + e.offset) e.length image) ≡ e.digest) h.entries
next_slot from index h image all = subst (λ slot. AllByRecursion (λ y. sha256 (range (data_at slot + y.offset) y.length image) ≡ y.digest) h.entries) (omega arith) all

-- the entries of the container in a slot have the digests of their bytes
copies_there : (from : ℕ) (held : List (Option HeaderValue)) (index : ℕ) (h : HeaderValue) (image : List ℕ) → AreCopies from held image → get_or held index None ≡ Some h
    → AllByRecursion (λ e. sha256 (range (data_at (from + index) + e.offset) e.length image) ≡ e.digest) h.entries
copies_there from [] index h image copies e = absurd cc
copies_there from (None ∷ cs) zero h image copies e = absurd cc
copies_there from (None ∷ cs) (suc index) h image copies e = next_slot from index h image (copies_there (from + 1) cs index h image copies e)
copies_there from (Some g ∷ cs) zero h image copies e =
    let here = subst (λ (x : HeaderValue). AllByRecursion (λ y. sha256 (range (data_at from + y.offset) y.length image) ≡ y.digest) x.entries) (some_same g h e) copies.0 in
    subst (λ slot. AllByRecursion (λ y. sha256 (range (data_at slot + y.offset) y.length image) ≡ y.digest) h.entries) (omega arith) here
copies_there from (Some g ∷ cs) (suc index) h image copies e = next_slot from index h image (copies_there (from + 1) cs index h image copies.1 e)

pub tail_same : (a b : ℕ) (first second : List ℕ) → a ∷ first ≡ b ∷ second → first ≡ second
tail_same a b first second e = cc

-- the bytes of a copy have the digest that its key says
pub copy_digest : (held : List (Option HeaderValue)) (kind : ℕ) (digest image : List ℕ) (copy : Copy) → AreCopies 0 held image → newest 0 held (key_of kind digest) ≡ Some copy →
    sha256 (bytes_at copy.place image) ≡ digest
copy_digest held kind digest image copy copies e =
    let l = lies 0 held (key_of kind digest) copy e in
    let so = found_so (λ x. sha256 (range (data_at (0 + l.index) + x.offset) x.length image) ≡ x.digest) _ l.header.entries l.entry
    (copies_there 0 held l.index l.header image copies l.there) l.found in
    let key : key_of (kind_byte l.header.kind) l.entry.digest ≡ key_of kind digest = (bytes_eq-Decides _ _).0 so.1 in
    ap (λ (c : Copy). sha256 (bytes_at c.place image)) l.copy_is ∙ so.0 ∙ tail_same (kind_byte l.header.kind) kind l.entry.digest digest key
