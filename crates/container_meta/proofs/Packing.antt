-- Segments that are kept as entries and one list of bytes.
use Rattle.container_meta.proofs.Prelude.{inl, inr, ◌≡◌, ℕ, suc, ◌+◌, ◌-◌, ◌≤◌, ◌<◌, true, false, List, [], ◌∷◌, ◌++◌, length, take, drop, get_or, map, refl, sym, ap, subst, ◌∙◌, arith, append_assoc, length-append, eq-eqb, ◌==◌, ◌||◌, nat_le, list_any, bytes_eq, cases_lt, le-leb, leb-true, append-nil, length-take, take_all, nil_from_length, sum_by-append, flat_map-cons, sha256, length-sha256, DATA_BYTES, MOST_ENTRIES, Kind, Entry, kind_byte, is_length, is_level, Segment, Contents, bytes_in, data_of, entries_from, segments_in, CanAdd, bytes_of, has_digest, IsNext, Follow, both}
use Rattle.std.proofs.Common.{Bool, length-drop, drop-cons}
use Rattle.std.specs.Prelude.{◌&&◌, nat_lt}
use Rattle.std.proofs.lemmas.Bool.{lt-leb, le-ltb, lt-ltb, ltb-true}
use Rattle.std.proofs.lemmas.List.{take-append-le, drop-append-le, take-append-drop}
use Rattle.container_meta.specs.Segments.{KindSegment, segment_key, has_key, has_room}
use Rattle.container_meta.proofs.Spelled.{bytes_of-push}

pub length-segments_in : (es : List Entry) (bytes : List ℕ) → length (segments_in es bytes) ≡ length es
length-segments_in [] bytes = refl
length-segments_in (e ∷ es) bytes = ap suc (length-segments_in es (drop e.length bytes))

pub bytes_of-cons : (e : Entry) (es : List Entry) → bytes_of (e ∷ es) ≡ e.length + bytes_of es
bytes_of-cons e es = omega (arith, sum_by-append (λ (x : Entry). x.length) (e ∷ []) es)

pub bytes_in-cons : (s : Segment) (ss : List Segment) → bytes_in (s ∷ ss) ≡ length s.bytes + bytes_in ss
bytes_in-cons s ss = omega (arith, sum_by-append (λ (x : Segment). length x.bytes) (s ∷ []) ss)

-- the entries cut the bytes into pieces that they name wholly
pub data-segments_in : (es : List Entry) (bytes : List ℕ) → bytes_of es ≡ length bytes → data_of (segments_in es bytes) ≡ bytes
data-segments_in [] bytes whole = sym (nil_from_length bytes (sym whole))
data-segments_in (e ∷ es) bytes whole =
    let left : bytes_of es ≡ length (drop e.length bytes) = omega (arith, bytes_of-cons e es, length-drop e.length bytes) in
    flat_map-cons (λ (s : Segment). s.bytes) (record { level = e.level; bytes = take e.length bytes }) (segments_in es (drop e.length bytes))
    ∙ ap (λ (l : List ℕ). take e.length bytes ++ l) (data-segments_in es (drop e.length bytes) left)
    ∙ take-append-drop e.length bytes

pub bytes_in-segments_in : (es : List Entry) (bytes : List ℕ) → bytes_of es ≡ length bytes → bytes_in (segments_in es bytes) ≡ length bytes
bytes_in-segments_in [] bytes whole = whole
bytes_in-segments_in (e ∷ es) bytes whole =
    let left : bytes_of es ≡ length (drop e.length bytes) = omega (arith, bytes_of-cons e es, length-drop e.length bytes) in
    let first : Segment = record { level = e.level; bytes = take e.length bytes } in
    omega (
      arith,
      bytes_in-cons first (segments_in es (drop e.length bytes)),
      bytes_in-segments_in es (drop e.length bytes) left,
      bytes_of-cons e es,
      length-drop e.length bytes,
      length-take e.length bytes,
    )

pub segments_in-push : (es : List Entry) (bytes : List ℕ) (e : Entry) (new : List ℕ) → bytes_of es ≡ length bytes → e.length ≡ length new →
    segments_in (es ++ e ∷ []) (bytes ++ new) ≡ segments_in es bytes ++ record { level = e.level; bytes = new } ∷ []
segments_in-push [] bytes e new whole long =
    let none : bytes ≡ [] = nil_from_length bytes (sym whole) in
    let all : take e.length (bytes ++ new) ≡ new = ap (λ (l : List ℕ). take e.length (l ++ new)) none ∙ take_all e.length new (omega (arith, long)) in
    ap (λ (l : List ℕ). (let s : Segment = record { level = e.level; bytes = l } in s) ∷ []) all
segments_in-push (x ∷ xs) bytes e new whole long =
    let left : bytes_of xs ≡ length (drop x.length bytes) = omega (arith, bytes_of-cons x xs, length-drop x.length bytes) in
    let within : x.length ≤ length bytes = omega (arith, bytes_of-cons x xs) in
    let front : take x.length (bytes ++ new) ≡ take x.length bytes = take-append-le x.length bytes new within in
    let back : drop x.length (bytes ++ new) ≡ drop x.length bytes ++ new = drop-append-le x.length bytes new within in
    ap (λ (l : List ℕ). (let s : Segment = record { level = x.level; bytes = l } in s) ∷ segments_in (xs ++ e ∷ []) (drop x.length (bytes ++ new))) front
    ∙ ap (λ (l : List ℕ). (let s : Segment = record { level = x.level; bytes = take x.length bytes } in s) ∷ segments_in (xs ++ e ∷ []) l) back
    ∙ ap (λ (l : List Segment). (let s : Segment = record { level = x.level; bytes = take x.length bytes } in s) ∷ l) (segments_in-push xs (drop x.length bytes) e new left long)

abbrev pub entry_for : ℕ → Segment → Entry
entry_for offset s = record { digest = sha256 s.bytes; offset = offset; length = length s.bytes; level = s.level }

pub entries_from-push : (offset : ℕ) (ss : List Segment) (s : Segment) → entries_from offset (ss ++ s ∷ []) ≡ entries_from offset ss ++ entry_for (offset + bytes_in ss) s ∷ []
entries_from-push offset [] s = ap (λ (o : ℕ). entry_for o s ∷ []) (omega arith)
entries_from-push offset (x ∷ xs) s =
    ap (λ (l : List Entry). entry_for offset x ∷ l) (entries_from-push (offset + length x.bytes) xs s)
    ∙ ap (λ (o : ℕ). entry_for offset x ∷ (entries_from (offset + length x.bytes) xs ++ entry_for o s ∷ [])) (omega (arith, bytes_in-cons x xs))

pub Follow-push : (kind : Kind) (before es : List Entry) (e : Entry) → Follow kind before es → IsNext kind (before ++ es) e → Follow kind before (es ++ e ∷ [])
Follow-push kind before [] e allowed next = (subst (λ (l : List Entry). IsNext kind l e) (append-nil before) next, tt)
Follow-push kind before (x ∷ xs) e allowed next =
    (allowed.0, Follow-push kind (before ++ x ∷ []) xs e allowed.1 (subst (λ (l : List Entry). IsNext kind l e) (sym (append_assoc before (x ∷ []) xs)) next))

-- ---- keys

spread : (a b c : Bool) → (a && b) || (a && c) ≡ a && (b || c)
spread true b c = refl
spread false b c = refl

never : (a : Bool) → false ≡ a && false
never true = refl
never false = refl

key_found : (kind : Kind) (x : ℕ) (digest : List ℕ) (offset : ℕ) (ss : List Segment) → list_any (λ k. bytes_eq k (x ∷ digest)) (map (segment_key kind) ss) ≡ (kind_byte kind == x)
    && has_digest (entries_from offset ss) digest
key_found kind x digest offset [] = never (kind_byte kind == x)
key_found kind x digest offset (s ∷ ss) =
    ap (λ b. (kind_byte kind == x && bytes_eq (sha256 s.bytes) digest) || b) (key_found kind x digest (offset + length s.bytes) ss)
    ∙ spread (kind_byte kind == x) (bytes_eq (sha256 s.bytes) digest) (has_digest (entries_from (offset + length s.bytes) ss) digest)

-- what the entries know of a key
pub has_key-packed : (kind : Kind) (es : List Entry) (bytes : List ℕ) (x : ℕ) (digest : List ℕ) → es ≡ entries_from 0 (segments_in es bytes) →
    has_key (record { kind = kind; segments = segments_in es bytes }) (x ∷ digest) ≡ (kind_byte kind == x) && has_digest es digest
has_key-packed kind es bytes x digest exact =
    key_found kind x digest 0 (segments_in es bytes) ∙ ap (λ (l : List Entry). (kind_byte kind == x) && has_digest l digest) (sym exact)

-- ---- room

same_test : (a b c d : ℕ) → (a ≤ b → c ≤ d) → (b < a → d < c) → nat_le a b ≡ nat_le c d
same_test a b c d within past =
    elim (cases_lt b a) [
      | inl gt ↦ lt-leb a b gt ∙ sym (lt-leb c d (past gt))
      | inr le ↦ le-leb a b le ∙ sym (le-leb c d (within le))
    ]

pub chosen_by : (a b : Bool) → a ≡ true → b ≡ a && b
chosen_by true b e = refl
chosen_by false b e = absurd cc

pub refused_by : (a b : Bool) → a ≡ false → a ≡ a && b
refused_by true b e = absurd cc
refused_by false b e = refl

-- what the two lengths tell of room
pub room_tested : (contents : Contents) (count held bytes : ℕ) → length contents.segments ≡ count → bytes_in contents.segments ≡ held → held ≤ DATA_BYTES → count < MOST_ENTRIES →
    nat_le bytes (DATA_BYTES - held) ≡ has_room contents bytes
room_tested contents count held bytes many whole fits few =
    let test : nat_le bytes (DATA_BYTES - held) ≡ nat_le (bytes_in contents.segments + bytes) DATA_BYTES = same_test bytes (DATA_BYTES - held) (bytes_in contents.segments + bytes)
    DATA_BYTES (λ h. omega (arith, whole)) (λ h. omega (arith, whole)) in
    test ∙ chosen_by (nat_lt (length contents.segments) MOST_ENTRIES) (nat_le (bytes_in contents.segments + bytes) DATA_BYTES)
    (lt-ltb (length contents.segments) MOST_ENTRIES (omega (arith, many)))

pub no_room_tested : (contents : Contents) (count bytes : ℕ) → length contents.segments ≡ count → MOST_ENTRIES ≤ count → nat_lt count MOST_ENTRIES ≡ has_room contents bytes
no_room_tested contents count bytes many full =
    ap (λ (n : ℕ). nat_lt n MOST_ENTRIES) (sym many) ∙ refused_by (nat_lt (length contents.segments) MOST_ENTRIES) (nat_le (bytes_in contents.segments + bytes) DATA_BYTES)
    (le-ltb (length contents.segments) MOST_ENTRIES (omega (arith, many)))

pub room_holds : (contents : Contents) (bytes : ℕ) → has_room contents bytes ≡ true → (length contents.segments < MOST_ENTRIES) × (bytes_in contents.segments + bytes ≤ DATA_BYTES)
room_holds contents bytes h =
    let p = both (nat_lt (length contents.segments) MOST_ENTRIES) (nat_le (bytes_in contents.segments + bytes) DATA_BYTES) h in
    (ltb-true (length contents.segments) MOST_ENTRIES p.0, leb-true (bytes_in contents.segments + bytes) DATA_BYTES p.1)

-- ---- one more segment

and_false : (a b : Bool) → a ≡ true → a && b ≡ false → b ≡ false
and_false true b h e = e
and_false false b h e = absurd cc

-- the entry of a segment that may be added may stand after the others
pub next_allowed : (kind : Kind) (es : List Entry) (bytes : List ℕ) (s : KindSegment) → es ≡ entries_from 0 (segments_in es bytes) → bytes_of es ≡ length bytes →
    CanAdd (record { kind = kind; segments = segments_in es bytes }) s → IsNext kind es (entry_for (length bytes) s.segment)
next_allowed kind es bytes s exact whole can =
    let digest : List ℕ = sha256 s.segment.bytes in
    let asked : has_key (record { kind = kind; segments = segments_in es bytes }) (segment_key kind s.segment) ≡ false =
    ap (λ (k : Kind). has_key (record { kind = kind; segments = segments_in es bytes }) (segment_key k s.segment)) (sym can.kind) ∙ can.new in
    record {
      digest = length-sha256 s.segment.bytes;
      new = and_false (kind_byte kind == kind_byte kind) (has_digest es digest) (eq-eqb (kind_byte kind) (kind_byte kind) refl)
          (sym (has_key-packed kind es bytes (kind_byte kind) digest exact) ∙ asked);
      offset = sym whole;
      length = ap (λ (k : Kind). is_length k (length s.segment.bytes)) (sym can.kind) ∙ can.length;
      level = ap (λ (k : Kind). is_level k s.segment.level) (sym can.kind) ∙ can.level;
    }

pub exact-push : (es : List Entry) (bytes : List ℕ) (s : Segment) → es ≡ entries_from 0 (segments_in es bytes) → bytes_of es ≡ length bytes →
    es ++ entry_for (length bytes) s ∷ [] ≡ entries_from 0 (segments_in (es ++ entry_for (length bytes) s ∷ []) (bytes ++ s.bytes))
exact-push es bytes s exact whole =
    let e : Entry = entry_for (length bytes) s in
    let held : bytes_in (segments_in es bytes) ≡ length bytes = bytes_in-segments_in es bytes whole in
    ap (λ (l : List Entry). l ++ e ∷ []) exact
    ∙ ap (λ (o : ℕ). entries_from 0 (segments_in es bytes) ++ entry_for o s ∷ []) (omega (arith, held))
    ∙ sym (entries_from-push 0 (segments_in es bytes) s)
    ∙ ap (entries_from 0) (sym (segments_in-push es bytes e s.bytes whole refl))

pub whole-push : (es : List Entry) (bytes : List ℕ) (s : Segment) → bytes_of es ≡ length bytes → bytes_of (es ++ entry_for (length bytes) s ∷ []) ≡ length (bytes ++ s.bytes)
whole-push es bytes s whole = omega (arith, bytes_of-push es (entry_for (length bytes) s), length-append bytes s.bytes, whole)

-- what is known of a key, by its first byte and the rest
pub has_key-is : (contents : Contents) (kind : Kind) (es : List Entry) (bytes key : List ℕ) (number : ℕ) →
    (let v : Contents = record { kind = kind; segments = segments_in es bytes } in v) ≡ contents → es ≡ entries_from 0 (segments_in es bytes) → 0 < length key →
    number ≡ kind_byte kind → has_key contents key ≡ (number == get_or key 0 0) && has_digest es (drop 1 key)
has_key-is contents kind es bytes key number is exact some e =
    ap (λ (v : Contents). has_key v key) (sym is)
    ∙ ap (has_key (record { kind = kind; segments = segments_in es bytes })) (drop-cons key 0 0 some)
    ∙ has_key-packed kind es bytes (get_or key 0 0) (drop 1 key) exact
    ∙ ap (λ (n : ℕ). (n == get_or key 0 0) && has_digest es (drop 1 key)) (sym e)
