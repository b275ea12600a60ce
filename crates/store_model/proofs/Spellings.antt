-- No two values have one spelling.
use Rattle.store_model.proofs.Prelude.{◌≡◌, ℕ, ◌+◌, ◌-◌, ◌^◌, ◌<◌, ◌≤◌, true, List, [], ◌∷◌, ◌++◌, length, take, get_or, Some, refl, sym, ◌∙◌, ap, subst, arith, append_assoc, length-append, nat_le, leb-true, sha256, byte_at, SELECTOR_GATE, RECORD_GATE, CONTAINER_GATE, MOST_FILE, selector_cell, Root, Change, RecordValue, IsRecord, IsChange, SelectorValue, Entry, Kind, kind_byte, HeaderValue, IsHeader}
use Rattle.std.proofs.Common.{drop}
use Rattle.std.specs.Int.{w16, w32, w64, to_be_bytes, from_be_bytes}
use Rattle.std.proofs.lemmas.Nat.{from_be_bytes-to_be_bytes_2, from_be_bytes-to_be_bytes_4, from_be_bytes-to_be_bytes_8}
use Rattle.sha2.proofs.Facts256.{length-sha256}
use Rattle.base_model.specs.Bytes.{range, zeros}
use Rattle.base_model.proofs.Checks.{both}
use Rattle.base_model.proofs.Ranges.{length-zeros, range-range}
use Rattle.disk_format.specs.declared.numbers.TheConstants.{FORMAT_GATE}
use Rattle.disk_format.specs.Cells.{sealed, format_fields, format_cell, selector_fields, operation_of, root_in, record_front, record_fields, record_cell, IsSelector}
use Rattle.disk_format.specs.Cells.Change.{Put, Delete}
use Rattle.disk_format.proofs.CellParts.{length-format_fields, length-selector_fields}
use Rattle.container_meta.specs.Format.{entry_place, is_id, is_count, is_data_length, kind_of}
use Rattle.container_meta.specs.Spelling.{Follow, IsNext, entry_spelling, entries_spelling, fields_spelling, front_spelling, header_size, header_spelling}
use Rattle.container_meta.proofs.Numbers.{length-entry_spelling}
use Rattle.container_meta.proofs.Spelled.{entries_spelling-cons}
use Rattle.store_model.proofs.Copies.{length_within}

-- ---- lists and numbers

-- two lists that are the same have the same parts, where the first parts have one length
pub same_parts : (a c b d : List ℕ) → length a ≡ length c → a ++ b ≡ c ++ d → (a ≡ c) × (b ≡ d)
same_parts [] [] b d long same = (refl, same)
same_parts [] (y ∷ c) b d long same = absurd (omega (arith, long))
same_parts (x ∷ a) [] b d long same = absurd (omega (arith, long))
same_parts (x ∷ a) (y ∷ c) b d long same =
    let heads : x ≡ y = cc in
    let tails : a ++ b ≡ c ++ d = cc in
    let rest = same_parts a c b d (omega (arith, long)) tails in
    (ap (λ (h : ℕ). h ∷ a) heads ∙ ap (λ (t : List ℕ). y ∷ t) rest.0, rest.1)

same_2 : (a b : ℕ) → a < 2 ^ 16 → b < 2 ^ 16 → to_be_bytes w16 a ≡ to_be_bytes w16 b → a ≡ b
same_2 a b small little same = sym (from_be_bytes-to_be_bytes_2 a small) ∙ ap (from_be_bytes w16) same ∙ from_be_bytes-to_be_bytes_2 b little

same_4 : (a b : ℕ) → a < 2 ^ 32 → b < 2 ^ 32 → to_be_bytes w32 a ≡ to_be_bytes w32 b → a ≡ b
same_4 a b small little same = sym (from_be_bytes-to_be_bytes_4 a small) ∙ ap (from_be_bytes w32) same ∙ from_be_bytes-to_be_bytes_4 b little

same_8 : (a b : ℕ) → a < 2 ^ 64 → b < 2 ^ 64 → to_be_bytes w64 a ≡ to_be_bytes w64 b → a ≡ b
same_8 a b small little same = sym (from_be_bytes-to_be_bytes_8 a small) ∙ ap (from_be_bytes w64) same ∙ from_be_bytes-to_be_bytes_8 b little

-- ---- cells

same_fields : (gate : ℕ) (a b : List ℕ) → length a ≡ length b → sealed gate a ≡ sealed gate b → a ≡ b
unfolding sealed
same_fields gate a b long same =
    let front : gate ∷ a ≡ gate ∷ b = (same_parts (gate ∷ a) (gate ∷ b) (sha256 a) (sha256 b) (omega (arith, long)) same).0 in
    cc

-- the format cell
slots_spelled : (slots : ℕ) → take 4 (drop 11 (format_fields slots)) ≡ to_be_bytes w32 slots
unfolding format_fields
slots_spelled slots = refl

pub same_format : (a b : ℕ) → a < 2 ^ 32 → b < 2 ^ 32 → format_cell a ≡ format_cell b → a ≡ b
same_format a b small little same =
    let fields = same_fields FORMAT_GATE (format_fields a) (format_fields b) (length-format_fields a ∙ sym (length-format_fields b)) same in
    same_4 a b small little (sym (slots_spelled a) ∙ ap (λ (l : List ℕ). take 4 (drop 11 l)) fields ∙ slots_spelled b)

-- a selector
generation_spelled : (s : SelectorValue) → take 8 (drop 7 (selector_fields s)) ≡ to_be_bytes w64 s.generation
unfolding selector_fields
generation_spelled s = refl

last_spelled : (s : SelectorValue) → take 8 (drop 20 (selector_fields s)) ≡ to_be_bytes w64 s.last
unfolding selector_fields
last_spelled s = refl

-- of one half
pub same_selector : (s t : SelectorValue) → IsSelector s → IsSelector t → s.half ≡ t.half → selector_cell s ≡ selector_cell t → s ≡ t
same_selector s t right also half same =
    let fields = same_fields SELECTOR_GATE (selector_fields s) (selector_fields t) (length-selector_fields s ∙ sym (length-selector_fields t)) same in
    let generation : s.generation ≡ t.generation =
    same_8 s.generation t.generation right.generation also.generation
    (sym (generation_spelled s) ∙ ap (λ (l : List ℕ). take 8 (drop 7 l)) fields ∙ generation_spelled t) in
    let last : s.last ≡ t.last =
    same_8 s.last t.last right.last also.last (sym (last_spelled s) ∙ ap (λ (l : List ℕ). take 8 (drop 20 l)) fields ∙ last_spelled t) in
    by_fields s.generation t.generation s.form t.form s.half t.half s.last t.last generation (right.form ∙ sym also.form) half last
  where
    by_fields : (a b v w c d e f : ℕ) → a ≡ b → v ≡ w → c ≡ d → e ≡ f
        → (let x : SelectorValue = record { generation = a; form = v; half = c; last = e } in x) ≡ record { generation = b; form = w; half = d; last = f }
    by_fields a b v w c d e f p o q r = cc

-- an open selector's gate
pub gate_of_selector : (s : SelectorValue) → byte_at 0 (selector_cell s) ≡ SELECTOR_GATE
unfolding sealed
gate_of_selector s = refl

-- ---- records

module _ (r : RecordValue) where
  operation_spelled : get_or (record_fields r) 0 0 ≡ operation_of r.change
  unfolding record_fields record_front
  operation_spelled = refl

  size_spelled : get_or (record_fields r) 1 0 ≡ length r.name
  unfolding record_fields record_front
  size_spelled = refl

  sequence_spelled : take 8 (drop 2 (record_fields r)) ≡ to_be_bytes w64 r.sequence
  unfolding record_fields record_front
  sequence_spelled = refl

  count_spelled : take 8 (drop 10 (record_fields r)) ≡ to_be_bytes w64 (root_in r.change).length
  unfolding record_fields record_front
  count_spelled = refl

  level_spelled : get_or (record_fields r) 18 0 ≡ (root_in r.change).level
  unfolding record_fields record_front
  level_spelled = refl

  rest_spelled : drop 19 (record_fields r) ≡ (root_in r.change).digest ++ (r.name ++ zeros (428 - length r.name))
  unfolding record_fields record_front
  rest_spelled = append_assoc (root_in r.change).digest r.name (zeros (428 - length r.name))

digest_long : (change : Change) → IsChange change → length (root_in change).digest ≡ 32
digest_long (Put root) right = right.digest
digest_long Delete right = length-zeros 32

count_small : (change : Change) → IsChange change → (root_in change).length < 2 ^ 64
count_small (Put root) right =
    let few : root.length ≤ MOST_FILE = leb-true root.length MOST_FILE (both (nat_le root.length MOST_FILE) _ right.bytes).0 in
    omega (arith, few)
count_small Delete right = omega arith

length_record : (r : RecordValue) → IsRecord r → length (record_fields r) ≡ 479
unfolding record_fields record_front
length_record r right = omega (
  arith,
  length-append ((root_in r.change).digest ++ r.name) (zeros (428 - length r.name)),
  length-append (root_in r.change).digest r.name,
  length-zeros (428 - length r.name),
  digest_long r.change right.change,
  right.name.not_long,
)

same_change : (a b : Change) → operation_of a ≡ operation_of b → (root_in a).length ≡ (root_in b).length → (root_in a).level ≡ (root_in b).level →
    (root_in a).digest ≡ (root_in b).digest → a ≡ b
same_change (Put a) (Put b) operation count level digest = ap Put (by_fields a.length b.length a.level b.level a.digest b.digest count level digest)
  where
    by_fields : (k l m n : ℕ) (d e : List ℕ) → k ≡ l → m ≡ n → d ≡ e → (let x : Root = record { length = k; level = m; digest = d } in x) ≡ record
        { length = l; level = n; digest = e }
    by_fields k l m n d e p q r = cc
same_change (Put a) Delete operation count level digest = absurd (omega (arith, operation))
same_change Delete (Put b) operation count level digest = absurd (omega (arith, operation))
same_change Delete Delete operation count level digest = refl

pub same_record : (a b : RecordValue) → IsRecord a → IsRecord b → record_cell a ≡ record_cell b → a ≡ b
same_record a b right also same =
    let fields : record_fields a ≡ record_fields b = same_fields RECORD_GATE (record_fields a) (record_fields b) (length_record a right ∙ sym (length_record b also)) same in
    let operation = sym (operation_spelled a) ∙ ap (λ (l : List ℕ). get_or l 0 0) fields ∙ operation_spelled b in
    let size = sym (size_spelled a) ∙ ap (λ (l : List ℕ). get_or l 1 0) fields ∙ size_spelled b in
    let sequence = same_8 a.sequence b.sequence right.sequence also.sequence (sym (sequence_spelled a) ∙ ap (λ (l : List ℕ). take 8 (drop 2 l)) fields ∙ sequence_spelled b) in
    let count = same_8 (root_in a.change).length (root_in b.change).length (count_small a.change right.change) (count_small b.change also.change)
    (sym (count_spelled a) ∙ ap (λ (l : List ℕ). take 8 (drop 10 l)) fields ∙ count_spelled b) in
    let level = sym (level_spelled a) ∙ ap (λ (l : List ℕ). get_or l 18 0) fields ∙ level_spelled b in
    let rest = sym (rest_spelled a) ∙ ap (drop 19) fields ∙ rest_spelled b in
    let digest = same_parts (root_in a.change).digest (root_in b.change).digest (a.name ++ zeros (428 - length a.name)) (b.name ++ zeros (428 - length b.name))
    (digest_long a.change right.change ∙ sym (digest_long b.change also.change)) rest in
    let name = same_parts a.name b.name (zeros (428 - length a.name)) (zeros (428 - length b.name)) size digest.1 in
    by_fields a.sequence b.sequence a.name b.name a.change b.change sequence name.0 (same_change a.change b.change operation count level digest.0)
  where
    by_fields : (k l : ℕ) (m n : List ℕ) (c d : Change) → k ≡ l → m ≡ n → c ≡ d → (let x : RecordValue = record { sequence = k; name = m; change = c } in x) ≡ record
        { sequence = l; name = n; change = d }
    by_fields k l m n c d p q r = cc

-- an open record's gate
pub gate_of_record : (r : RecordValue) → byte_at 0 (record_cell r) ≡ RECORD_GATE
unfolding sealed
gate_of_record r = refl

-- ---- headers

entry_parts : (e : Entry) → entry_spelling e ≡ e.digest ++ (to_be_bytes w32 e.offset ++ (to_be_bytes w32 e.length ++ (e.level ∷ zeros 7)))
unfolding entry_spelling
entry_parts e = simp append_assoc

same_entry : (kind : Kind) (before : List Entry) (a b : Entry) → IsNext kind before a → IsNext kind before b → entry_spelling a ≡ entry_spelling b → a ≡ b
same_entry kind before a b next also same =
    let parts = same_parts a.digest b.digest (to_be_bytes w32 a.offset ++ (to_be_bytes w32 a.length ++ (a.level ∷ zeros 7)))
    (to_be_bytes w32 b.offset ++ (to_be_bytes w32 b.length ++ (b.level ∷ zeros 7)))
    (next.digest ∙ sym also.digest) (sym (entry_parts a) ∙ same ∙ entry_parts b) in
    let count = same_4 a.length b.length (omega (arith, (length_within kind a.length next.length).1)) (omega (arith, (length_within kind b.length also.length).1))
    (ap (λ (l : List ℕ). take 4 (drop 4 l)) parts.1) in
    by_fields a.digest b.digest a.offset b.offset a.length b.length a.level b.level parts.0 (next.offset ∙ sym also.offset) count (ap (λ (l : List ℕ). get_or l 8 0) parts.1)
  where
    by_fields : (d e : List ℕ) (k l m n i j : ℕ) → d ≡ e → k ≡ l → m ≡ n → i ≡ j
        → (let x : Entry = record { digest = d; offset = k; length = m; level = i } in x) ≡ record { digest = e; offset = l; length = n; level = j }
    by_fields d e k l m n i j p q r s = cc

same_entries : (kind : Kind) (before es fs : List Entry) → length es ≡ length fs → Follow kind before es → Follow kind before fs →
    entries_spelling es ≡ entries_spelling fs → es ≡ fs
same_entries kind before [] [] many follow also same = refl
same_entries kind before [] (b ∷ fs) many follow also same = absurd (omega (arith, many))
same_entries kind before (a ∷ es) [] many follow also same = absurd (omega (arith, many))
same_entries kind before (a ∷ es) (b ∷ fs) many follow also same =
    let parts = same_parts (entry_spelling a) (entry_spelling b) (entries_spelling es) (entries_spelling fs)
    (length-entry_spelling a follow.0.digest ∙ sym (length-entry_spelling b also.0.digest)) (sym (entries_spelling-cons a es) ∙ same ∙ entries_spelling-cons b fs) in
    let first : a ≡ b = same_entry kind before a b follow.0 also.0 parts.0 in
    let theirs : Follow kind (before ++ a ∷ []) fs = subst (λ (x : Entry). Follow kind (before ++ x ∷ []) fs) (sym first) also.1 in
    ap (λ (x : Entry). x ∷ es) first ∙ ap (λ (xs : List Entry). b ∷ xs) (same_entries kind (before ++ a ∷ []) es fs (omega (arith, many)) follow.1 theirs parts.1)

id_small : (id : ℕ) → is_id id ≡ true → id < 2 ^ 64
id_small id is = let most = leb-true id (2 ^ 64 - 2) (both (nat_le 1 id) (nat_le id (2 ^ 64 - 2)) is).1 in omega (arith, most)

count_few : (count : ℕ) → is_count count ≡ true → count < 2 ^ 16
count_few count is = let most = leb-true count 1024 (both (nat_le 1 count) (nat_le count 1024) is).1 in omega (arith, most)

data_few : (count : ℕ) → is_data_length count ≡ true → count < 2 ^ 32
data_few count is = let most = leb-true count 212480 (both (nat_le 1 count) (nat_le count 212480) is).1 in omega (arith, most)

same_kind : (a b : Kind) → kind_of (kind_byte a) ≡ Some a → kind_of (kind_byte b) ≡ Some b → kind_byte a ≡ kind_byte b → a ≡ b
same_kind a b is also same = (let both : Some a ≡ Some b = sym is ∙ ap kind_of same ∙ also in cc)

module _ (h : HeaderValue) where
  abbrev front : List ℕ
  front = front_spelling (fields_spelling h.id h.kind (length h.entries) h.data_length) (entries_spelling h.entries)

  id_spelled : take 8 (drop 8 (header_spelling h)) ≡ to_be_bytes w64 h.id
  unfolding front_spelling fields_spelling
  id_spelled = refl

  kind_spelled : get_or (header_spelling h) 16 0 ≡ kind_byte h.kind
  unfolding front_spelling fields_spelling
  kind_spelled = refl

  entries_spelled : take 2 (drop 18 (header_spelling h)) ≡ to_be_bytes w16 (length h.entries)
  unfolding front_spelling fields_spelling
  entries_spelled = refl

  data_spelled : take 4 (drop 20 (header_spelling h)) ≡ to_be_bytes w32 h.data_length
  unfolding front_spelling fields_spelling
  data_spelled = refl

  length_front : length front ≡ 512
  unfolding front_spelling fields_spelling
  length_front =
      let all : List ℕ = fields_spelling h.id h.kind (length h.entries) h.data_length ++ entries_spelling h.entries in
      omega (arith, length-append (sha256 all) (zeros 456), length-sha256 all, length-zeros 456)

  -- a container's gate
  pub gate_of_header : byte_at 0 (header_spelling h) ≡ CONTAINER_GATE
  unfolding front_spelling
  gate_of_header = refl

pub same_header : (a b : HeaderValue) → IsHeader a → IsHeader b → header_spelling a ≡ header_spelling b → a ≡ b
same_header a b right also same =
    let id = same_8 a.id b.id (id_small a.id right.id) (id_small b.id also.id) (sym (id_spelled a) ∙ ap (λ (l : List ℕ). take 8 (drop 8 l)) same ∙ id_spelled b) in
    let kind = same_kind a.kind b.kind right.kind also.kind (sym (kind_spelled a) ∙ ap (λ (l : List ℕ). get_or l 16 0) same ∙ kind_spelled b) in
    let many = same_2 (length a.entries) (length b.entries) (count_few (length a.entries) right.count) (count_few (length b.entries) also.count)
    (sym (entries_spelled a) ∙ ap (λ (l : List ℕ). take 2 (drop 18 l)) same ∙ entries_spelled b) in
    let size = same_4 a.data_length b.data_length (data_few a.data_length right.data_length) (data_few b.data_length also.data_length)
    (sym (data_spelled a) ∙ ap (λ (l : List ℕ). take 4 (drop 20 l)) same ∙ data_spelled b) in
    let parts = same_parts (front a) (front b) (entries_spelling a.entries) (entries_spelling b.entries) (length_front a ∙ sym (length_front b)) same in
    let theirs : Follow a.kind [] b.entries = subst (λ (k : Kind). Follow k [] b.entries) (sym kind) also.entries in
    let entries = same_entries a.kind [] a.entries b.entries many right.entries theirs parts.1 in
    by_fields a.id b.id a.kind b.kind a.data_length b.data_length a.entries b.entries id kind size entries
  where
    by_fields : (k l : ℕ) (c d : Kind) (m n : ℕ) (e f : List Entry) → k ≡ l → c ≡ d → m ≡ n → e ≡ f
        → (let x : HeaderValue = record { id = k; kind = c; data_length = m; entries = e } in x) ≡ record { id = l; kind = d; data_length = n; entries = f }
    by_fields k l c d m n e f p q r s = cc

entries_counted : (h : HeaderValue) → range 18 2 (header_spelling h) ≡ to_be_bytes w16 (length h.entries)
unfolding range
entries_counted h = entries_spelled h

count_at_slot : (h : HeaderValue) (at : ℕ) (image : List ℕ) → range at (header_size h) image ≡ header_spelling h → range (at + 18) 2 image ≡ to_be_bytes w16 (length h.entries)
count_at_slot h at image is = sym (range-range 18 2 at (header_size h) image (omega arith)) ∙ ap (range 18 2) is ∙ entries_counted h

-- a place has one header: where it ends goes by the count that it says
pub same_header_at : (a b : HeaderValue) (at : ℕ) (image : List ℕ) → IsHeader a → IsHeader b → range at (header_size a) image ≡ header_spelling a →
    range at (header_size b) image ≡ header_spelling b → a ≡ b
same_header_at a b at image right also is other =
    let many = same_2 (length a.entries) (length b.entries) (count_few (length a.entries) right.count) (count_few (length b.entries) also.count)
    (sym (count_at_slot a at image is) ∙ count_at_slot b at image other) in
    same_header a b right also (sym is ∙ ap (λ (n : ℕ). range at (entry_place n) image) many ∙ other)
