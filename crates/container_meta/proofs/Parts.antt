-- A header has its spelling where its parts stand in their places.
use Rattle.container_meta.proofs.Prelude.{◌≡◌, ℕ, suc, ◌+◌, ◌*◌, ◌≤◌, List, [], ◌∷◌, ◌++◌, length, get_or, refl, sym, ap, ◌∙◌, arith, length-append, w16, w32, w64, to_be_bytes, take_all, sha256, length-sha256, byte_at, range-range, range-join, range-first, range-second, range-one, range-whole, length-zeros, CONTAINER_GATE, Kind, Entry, magic, kind_byte, HeaderValue, header_size, header_spelling, Follow, IsHeader}
use Rattle.base_model.specs.Bytes.{range, zeros}
use Rattle.base_model.proofs.Ranges.{byte-range}
use Rattle.container_meta.specs.Spelling.{entry_spelling, entries_spelling, fields_spelling, front_spelling}
use Rattle.container_meta.proofs.Spelled.{entries_spelling-nil, entries_spelling-cons, length-fields_spelling}
use Rattle.container_meta.proofs.Numbers.{length-entry_spelling}

pub length-entries_spelling : (kind : Kind) (before es : List Entry) → Follow kind before es → length (entries_spelling es) ≡ 48 * length es
length-entries_spelling kind before [] h = ap length entries_spelling-nil
length-entries_spelling kind before (e ∷ es) h =
    let rest = length-entries_spelling kind (before ++ e ∷ []) es h.1 in
    let all : length (entries_spelling (e ∷ es)) ≡ 48 + 48 * length es = ap length (entries_spelling-cons e es)
    ∙ omega (arith, length-append (entry_spelling e) (entries_spelling es), length-entry_spelling e h.0.digest, rest) in
    omega (arith, all)

length-front_spelling : (fields entries : List ℕ) → length fields ≡ 23 → length (front_spelling fields entries) ≡ 512
unfolding front_spelling
length-front_spelling fields entries long =
    omega (
      arith,
      length-append ((CONTAINER_GATE ∷ fields) ++ sha256 (fields ++ entries)) (zeros 456),
      length-append (CONTAINER_GATE ∷ fields) (sha256 (fields ++ entries)),
      length-sha256 (fields ++ entries),
      length-zeros 456,
    )

pub length-header_spelling : (h : HeaderValue) → IsHeader h → length (header_spelling h) ≡ header_size h
length-header_spelling h allowed =
    let fields : List ℕ = fields_spelling h.id h.kind (length h.entries) h.data_length in
    let entries : List ℕ = entries_spelling h.entries in
    let front : length (front_spelling fields entries) ≡ 512 = length-front_spelling fields entries (length-fields_spelling h.id h.kind (length h.entries) h.data_length) in
    let many : length entries ≡ 48 * length h.entries = length-entries_spelling h.kind [] h.entries allowed.entries in
    length-append (front_spelling fields entries) entries ∙ omega (arith, front, many)

-- ---- the fields before the digest

pub record FieldParts (id : ℕ) (kind : Kind) (count data_length : ℕ) (bytes : List ℕ) : Type 0 where
  pub name : range 1 7 bytes ≡ magic
  pub id_is : range 8 8 bytes ≡ to_be_bytes w64 id
  pub kind_is : byte_at 16 bytes ≡ kind_byte kind
  pub zero_is : byte_at 17 bytes ≡ 0
  pub count_is : range 18 2 bytes ≡ to_be_bytes w16 count
  pub length_is : range 20 4 bytes ≡ to_be_bytes w32 data_length

pub field_parts : (id : ℕ) (kind : Kind) (count data_length : ℕ) (bytes : List ℕ) → range 1 23 bytes ≡ fields_spelling id kind count data_length →
    FieldParts id kind count data_length bytes
unfolding fields_spelling range
field_parts id kind count data_length bytes h =
    let inside = λ (p n : ℕ) (within : p + n ≤ 23). sym (range-range p n 1 23 bytes within) ∙ ap (range p n) h in
    record {
      name = inside 0 7 (omega arith);
      id_is = inside 7 8 (omega arith);
      kind_is = sym (byte-range 15 1 23 bytes (omega arith)) ∙ ap (λ (l : List ℕ). get_or l 15 0) h;
      zero_is = sym (byte-range 16 1 23 bytes (omega arith)) ∙ ap (λ (l : List ℕ). get_or l 16 0) h;
      count_is = inside 17 2 (omega arith);
      length_is = inside 19 4 (omega arith);
    }

pub fields_from_parts : (id : ℕ) (kind : Kind) (count data_length : ℕ) (bytes : List ℕ) → 24 ≤ length bytes → FieldParts id kind count data_length bytes →
    range 1 23 bytes ≡ fields_spelling id kind count data_length
unfolding fields_spelling
fields_from_parts id kind count data_length bytes fits p =
    let k : range 16 1 bytes ≡ kind_byte kind ∷ [] = range-one 16 bytes (omega arith) ∙ ap (λ (n : ℕ). n ∷ []) p.kind_is in
    let z : range 17 1 bytes ≡ 0 ∷ [] = range-one 17 bytes (omega arith) ∙ ap (λ (n : ℕ). n ∷ []) p.zero_is in
    let a : range 1 15 bytes ≡ magic ++ to_be_bytes w64 id = sym (range-join 1 7 8 8 bytes refl) ∙ ap (λ (l : List ℕ). l ++ range 8 8 bytes) p.name
    ∙ ap (λ (l : List ℕ). magic ++ l) p.id_is in
    let b : range 17 3 bytes ≡ 0 ∷ to_be_bytes w16 count = sym (range-join 17 1 2 18 bytes refl) ∙ ap (λ (l : List ℕ). l ++ range 18 2 bytes) z
    ∙ ap (λ (l : List ℕ). 0 ∷ l) p.count_is in
    let d : range 16 4 bytes ≡ kind_byte kind ∷ 0 ∷ to_be_bytes w16 count = sym (range-join 16 1 3 17 bytes refl) ∙ ap (λ (l : List ℕ). l ++ range 17 3 bytes) k
    ∙ ap (λ (l : List ℕ). kind_byte kind ∷ l) b in
    let e : range 1 19 bytes ≡ magic ++ to_be_bytes w64 id ++ kind_byte kind ∷ 0 ∷ to_be_bytes w16 count = sym (range-join 1 15 4 16 bytes refl)
    ∙ ap (λ (l : List ℕ). l ++ range 16 4 bytes) a ∙ ap (λ (l : List ℕ). (magic ++ to_be_bytes w64 id) ++ l) d in
    sym (range-join 1 19 4 20 bytes refl) ∙ ap (λ (l : List ℕ). l ++ range 20 4 bytes) e
    ∙ ap (λ (l : List ℕ). (magic ++ to_be_bytes w64 id ++ kind_byte kind ∷ 0 ∷ to_be_bytes w16 count) ++ l) p.length_is

-- ---- the whole

pub record Parts (h : HeaderValue) (bytes : List ℕ) : Type 0 where
  pub gate : byte_at 0 bytes ≡ CONTAINER_GATE
  pub fields : range 1 23 bytes ≡ fields_spelling h.id h.kind (length h.entries) h.data_length
  pub digest : range 24 32 bytes ≡ sha256 (fields_spelling h.id h.kind (length h.entries) h.data_length ++ entries_spelling h.entries)
  pub padding : range 56 456 bytes ≡ zeros 456
  pub entries : range 512 (48 * length h.entries) bytes ≡ entries_spelling h.entries

pub spelling_from_parts : (h : HeaderValue) (bytes : List ℕ) → 512 ≤ length bytes → Parts h bytes → range 0 (header_size h) bytes ≡ header_spelling h
unfolding front_spelling
spelling_from_parts h bytes long p =
    let n : ℕ = 48 * length h.entries in
    let fields : List ℕ = fields_spelling h.id h.kind (length h.entries) h.data_length in
    let entries : List ℕ = entries_spelling h.entries in
    let digest : List ℕ = sha256 (fields ++ entries) in
    let a : range 0 24 bytes ≡ CONTAINER_GATE ∷ fields = sym (range-join 0 1 23 1 bytes refl) ∙ ap (λ (l : List ℕ). l ++ range 1 23 bytes)
    (range-one 0 bytes (omega arith) ∙ ap (λ (b : ℕ). b ∷ []) p.gate) ∙ ap (λ (l : List ℕ). CONTAINER_GATE ∷ l) p.fields in
    let b : range 0 56 bytes ≡ CONTAINER_GATE ∷ fields ++ digest = sym (range-join 0 24 32 24 bytes refl) ∙ ap (λ (l : List ℕ). l ++ range 24 32 bytes) a
    ∙ ap (λ (l : List ℕ). (CONTAINER_GATE ∷ fields) ++ l) p.digest in
    let d : range 0 512 bytes ≡ CONTAINER_GATE ∷ fields ++ digest ++ zeros 456 = sym (range-join 0 56 456 56 bytes refl) ∙ ap (λ (l : List ℕ). l ++ range 56 456 bytes) b
    ∙ ap (λ (l : List ℕ). ((CONTAINER_GATE ∷ fields) ++ digest) ++ l) p.padding in
    sym (range-join 0 512 n 512 bytes refl)
    ∙ ap (λ (l : List ℕ). l ++ range 512 n bytes) d ∙ ap (λ (l : List ℕ). (((CONTAINER_GATE ∷ fields) ++ digest) ++ zeros 456) ++ l) p.entries

-- the parts of four lists, one after the other
record Four (x : ℕ) (a b c d : List ℕ) (n : ℕ) (all : List ℕ) : Type 0 where
  first : range 1 23 all ≡ a
  second : range 24 32 all ≡ b
  third : range 56 456 all ≡ c
  fourth : range 512 n all ≡ d

tail_is : (x : ℕ) (a : List ℕ) → length a ≡ 23 → range 1 23 (x ∷ a) ≡ a
unfolding range
tail_is x a long = take_all 23 a (omega (arith, long))

four : (x : ℕ) (a b c d : List ℕ) (n : ℕ) → length a ≡ 23 → length b ≡ 32 → length c ≡ 456 → length d ≡ n →
    Four x a b c d n ((((x ∷ a) ++ b) ++ c) ++ d)
four x a b c d n la lb lc ld =
    let f1 : List ℕ = x ∷ a in
    let f2 : List ℕ = f1 ++ b in
    let f3 : List ℕ = f2 ++ c in
    let l1 : length f1 ≡ 24 = ap suc la in
    let l2 : length f2 ≡ 56 = omega (arith, length-append f1 b) in
    let l3 : length f3 ≡ 512 = omega (arith, length-append f2 c) in
    record {
      first = range-first 1 23 f3 d (omega arith) ∙ range-first 1 23 f2 c (omega arith) ∙ range-first 1 23 f1 b (omega arith) ∙ tail_is x a la;
      second = range-first 24 32 f3 d (omega arith) ∙ range-first 24 32 f2 c (omega arith) ∙ range-second 0 32 24 24 f1 b l1 refl ∙ range-whole 32 b lb;
      third = range-first 56 456 f3 d (omega arith) ∙ range-second 0 456 56 56 f2 c l2 refl ∙ range-whole 456 c lc;
      fourth = range-second 0 n 512 512 f3 d l3 refl ∙ range-whole n d ld;
    }

-- a part of the header is the same part of the bytes that it begins
part_of : (h : HeaderValue) (bytes : List ℕ) (at count : ℕ) → at + count ≤ header_size h → range 0 (header_size h) bytes ≡ header_spelling h →
    range at count bytes ≡ range at count (header_spelling h)
part_of h bytes at count within is = ap (λ (k : ℕ). range k count bytes) (omega arith) ∙ sym (range-range at count 0 (header_size h) bytes within) ∙ ap (range at count) is

pub parts_of_spelling : (h : HeaderValue) (bytes : List ℕ) → Follow h.kind [] h.entries → range 0 (header_size h) bytes ≡ header_spelling h → Parts h bytes
unfolding front_spelling
parts_of_spelling h bytes allowed is =
    let n : ℕ = 48 * length h.entries in
    let fields : List ℕ = fields_spelling h.id h.kind (length h.entries) h.data_length in
    let entries : List ℕ = entries_spelling h.entries in
    let digest : List ℕ = sha256 (fields ++ entries) in
    let parts = four CONTAINER_GATE fields digest (zeros 456) entries n (length-fields_spelling h.id h.kind (length h.entries) h.data_length)
    (length-sha256 (fields ++ entries)) (length-zeros 456) (length-entries_spelling h.kind [] h.entries allowed) in
    record {
      gate = sym (byte-range 0 0 (header_size h) bytes (omega arith)) ∙ ap (byte_at 0) is;
      fields = part_of h bytes 1 23 (omega arith) is ∙ parts.first;
      digest = part_of h bytes 24 32 (omega arith) is ∙ parts.second;
      padding = part_of h bytes 56 456 (omega arith) is ∙ parts.third;
      entries = part_of h bytes 512 n (omega arith) is ∙ parts.fourth;
    }
