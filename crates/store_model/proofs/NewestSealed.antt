-- The newest copy of each key, once a container is in a slot that was closed.
use Rattle.store_model.proofs.Prelude.{◌≡◌, ◌≢◌, ℕ, zero, suc, ◌+◌, ◌<◌, ◌≤◌, Bool, true, false, cond, List, [], ◌∷◌, ◌++◌, Option, Some, None, find, option_map, refl, sym, ◌∙◌, ap, subst, append_assoc, arith, AllByRecursion, bytes_eq, bytes_eq-Decides, key_of, Entry, Kind, kind_byte, HeaderValue, IsHeader, has_digest, get_or, slice_get, Copy, place_of, copy_in, newer, newest, last_id, free_slots, first_free, with_slot}
use Rattle.std.proofs.lemmas.Bool.{or_parts}
use Rattle.container_meta.specs.Spelling.{Follow}
use Rattle.store_model.proofs.Copies.{some_same, tail_same}
use Rattle.store_model.proofs.CopyIds.{newest_id}
use Rattle.store_model.proofs.Filled.{first_empty}
use Rattle.store_model.proofs.Free.{first_closed, some_free}
use Rattle.store_model.proofs.Indexing.{newer_first, newer_last}

-- the copy that an entry of a container is
abbrev pub entry_copy : ℕ → ℕ → Entry → Copy
entry_copy slot id e = record { id = id; place = place_of slot e }

-- an entry has this key
abbrev pub entry_has : Kind → List ℕ → Entry → Bool
entry_has kind key e = bytes_eq (key_of (kind_byte kind) e.digest) key

-- ---- ids of copies

copy_id : (slot : ℕ) (h : HeaderValue) (key : List ℕ) (copy : Copy) → copy_in slot (Some h) key ≡ Some copy → h.id ≡ copy.id
copy_id slot h key copy e = by_entry (find (entry_has h.kind key) h.entries) e
  where
    by_entry : (found : Option Entry) → option_map (entry_copy slot h.id) found ≡ Some copy → h.id ≡ copy.id
    by_entry None e = absurd cc
    by_entry (Some x) e = ap (λ (c : Copy). c.id) (some_same _ copy e)

-- ---- one container more

-- under an id above all, the newest copy of a key that an entry of it has is that entry
pub newest_at : (from slot index : ℕ) (h : HeaderValue) (held : List (Option HeaderValue)) (key : List ℕ) (e : Entry) → slot ≡ from + index → slice_get held index ≡ Some None →
    last_id held < h.id
    → find (entry_has h.kind key) h.entries ≡ Some e → newest from (with_slot index h held) key ≡ Some (entry_copy slot h.id e)
newest_at from slot index h [] key e place closed above found = absurd cc
newest_at from slot zero h (Some g ∷ cs) key e place closed above found = absurd cc
newest_at from slot zero h (None ∷ cs) key e place closed above found =
    ap (λ (o : Option Entry). newer (option_map (entry_copy from h.id) o) (newest (from + 1) cs key)) found
    ∙ newer_first (entry_copy from h.id e) (newest (from + 1) cs key) (λ c is. omega (arith, newest_id (from + 1) cs key c is, above))
    ∙ ap (λ (s : ℕ). Some (entry_copy s h.id e)) (omega (arith, place))
newest_at from slot (suc index) h (None ∷ cs) key e place closed above found =
    newest_at (from + 1) slot index h cs key e (omega (arith, place)) closed above found
newest_at from slot (suc index) h (Some g ∷ cs) key e place closed above found =
    ap (newer (copy_in from (Some g) key)) (newest_at (from + 1) slot index h cs key e (omega (arith, place)) closed (omega (arith, above)) found)
    ∙ newer_last (copy_in from (Some g) key) (entry_copy slot h.id e) (λ c is. omega (arith, copy_id from g key c is, above))

-- that of another key is the one from before
pub newest_past : (from index : ℕ) (h : HeaderValue) (held : List (Option HeaderValue)) (key : List ℕ) → get_or held index None ≡ None →
    find (entry_has h.kind key) h.entries ≡ None
    → newest from (with_slot index h held) key ≡ newest from held key
newest_past from index h [] key empty none = refl
newest_past from zero h (Some g ∷ cs) key empty none = absurd cc
newest_past from zero h (None ∷ cs) key empty none = ap (λ (o : Option Entry). newer (option_map (entry_copy from h.id) o) (newest (from + 1) cs key)) none
newest_past from (suc index) h (c ∷ cs) key empty none = ap (newer (copy_in from c key)) (newest_past (from + 1) index h cs key empty none)

-- in the first closed slot
pub newest_with : (from slot : ℕ) (h : HeaderValue) (held : List (Option HeaderValue)) (key : List ℕ) (e : Entry) → slot ≡ from + first_free held → 1 ≤ free_slots held →
    last_id held < h.id
    → find (entry_has h.kind key) h.entries ≡ Some e → newest from (with_slot (first_free held) h held) key ≡ Some (entry_copy slot h.id e)
newest_with from slot h held key e place some above found = newest_at from slot (first_free held) h held key e place (first_closed held (some_free held some)) above found

pub newest_without : (from : ℕ) (h : HeaderValue) (held : List (Option HeaderValue)) (key : List ℕ) → 1 ≤ free_slots held → find (entry_has h.kind key) h.entries ≡ None
    → newest from (with_slot (first_free held) h held) key ≡ newest from held key
newest_without from h held key some none = newest_past from (first_free held) h held key (first_empty held) none

-- ---- the entry of a key

-- a key whose digest no entry has
past : (kind : Kind) (digest : List ℕ) (before rest : List Entry) → has_digest before digest ≡ false
    → find (entry_has kind (key_of (kind_byte kind) digest)) (before ++ rest) ≡ find (entry_has kind (key_of (kind_byte kind) digest)) rest
past kind digest [] rest none = refl
past kind digest (x ∷ xs) rest none =
    let parts = or_parts (bytes_eq x.digest digest) (has_digest xs digest) none in
    ap (λ (b : Bool). cond b (Some x) (find (entry_has kind (key_of (kind_byte kind) digest)) (xs ++ rest)))
    (by_test (entry_has kind (key_of (kind_byte kind) digest) x) refl parts.0)
    ∙ past kind digest xs rest parts.1
  where
    by_test : (same : Bool) → entry_has kind (key_of (kind_byte kind) digest) x ≡ same → bytes_eq x.digest digest ≡ false →
        entry_has kind (key_of (kind_byte kind) digest) x ≡ false
    by_test false is other = is
    by_test true is other =
        let equal = tail_same (kind_byte kind) (kind_byte kind) x.digest digest ((bytes_eq-Decides _ _).0 is) in
        let both = sym other ∙ (bytes_eq-Decides x.digest digest).1 equal in
        absurd cc

-- each entry is the one of its key
each_found : (kind : Kind) (before entries : List Entry) → Follow kind before entries
    → AllByRecursion (λ e. find (entry_has kind (key_of (kind_byte kind) e.digest)) (before ++ entries) ≡ Some e) entries
each_found kind before [] follow = tt
each_found kind before (e ∷ es) follow =
    let key : List ℕ = key_of (kind_byte kind) e.digest in
    let here : entry_has kind key e ≡ true = (bytes_eq-Decides key key).1 refl in (
      past kind e.digest before (e ∷ es) follow.0.new ∙ ap (λ (b : Bool). cond b (Some e) (find (entry_has kind key) es)) here,
      subst (λ (all : List Entry). AllByRecursion (λ y. find (entry_has kind (key_of (kind_byte kind) y.digest)) all ≡ Some y) es) (append_assoc before (e ∷ []) es)
          (each_found kind (before ++ e ∷ []) es follow.1),
    )

pub entries_found : (h : HeaderValue) → IsHeader h → AllByRecursion (λ e. find (entry_has h.kind (key_of (kind_byte h.kind) e.digest)) h.entries ≡ Some e) h.entries
entries_found h right = each_found h.kind [] h.entries right.entries

-- no entry has the key
pub none_found : (kind : Kind) (key : List ℕ) (entries : List Entry) → AllByRecursion (λ e. key_of (kind_byte kind) e.digest ≢ key) entries →
    find (entry_has kind key) entries ≡ None
none_found kind key [] others = refl
none_found kind key (x ∷ xs) others =
    ap (λ (b : Bool). cond b (Some x) (find (entry_has kind key) xs)) (by_test (entry_has kind key x) refl) ∙ none_found kind key xs others.1
  where
    by_test : (same : Bool) → entry_has kind key x ≡ same → entry_has kind key x ≡ false
    by_test false is = is
    by_test true is = absurd (others.0 ((bytes_eq-Decides _ _).0 is))

-- ---- lookups after a container more

all_so : (P Q : Entry → Type 0) (entries : List Entry) → ((e : Entry) → P e → Q e) → AllByRecursion P entries → AllByRecursion Q entries
all_so P Q [] each all = tt
all_so P Q (e ∷ es) each all = (each e all.0, all_so P Q es each all.1)

-- the newest copy of the key of each of its entries is that entry
pub newest_of_entries : (h : HeaderValue) (held : List (Option HeaderValue)) → IsHeader h → 1 ≤ free_slots held → last_id held < h.id
    → AllByRecursion (λ e. newest 0 (with_slot (first_free held) h held) (key_of (kind_byte h.kind) e.digest) ≡ Some (entry_copy (first_free held) h.id e)) h.entries
newest_of_entries h held right some above =
    all_so _ _ h.entries (λ e found. newest_with 0 (first_free held) h held (key_of (kind_byte h.kind) e.digest) e (omega arith) some above found) (entries_found h right)

-- and that of a key that none of them has is the one from before
pub newest_of_others : (h : HeaderValue) (held : List (Option HeaderValue)) (key : List ℕ) → 1 ≤ free_slots held →
    AllByRecursion (λ e. key_of (kind_byte h.kind) e.digest ≢ key) h.entries
    → newest 0 (with_slot (first_free held) h held) key ≡ newest 0 held key
newest_of_others h held key some others = newest_without 0 h held key some (none_found h.kind key h.entries others)
