-- What is spelled is read again.
use Rattle.container_meta.proofs.Prelude.{◌≡◌, ℕ, zero, suc, ◌+◌, ◌-◌, ◌*◌, ◌^◌, ◌≤◌, true, false, List, [], ◌∷◌, ◌++◌, length, Some, Ok, refl, sym, ap, ◌∙◌, arith, append_assoc, length-append, eq-eqb, ◌==◌, nat_le, is_some, unwrap_or, w32, w64, le-leb, leb-true, append-nil, sum_by-append, bytes_eq, bytes_eq-Decides, sha256, byte_at, checked, passes, AllHold, both, both_true, range-range, range-first, range-second, range-whole, CONTAINER_GATE, DATA_BYTES, HEADER_BYTES, MOST_ENTRIES, Kind, Leaf, Entry, magic, kind_of, is_id, is_count, is_length, is_level, entry_place, HeaderValue, IsNext, Err, Follow, IsHeader, IsSpelled, MetaFault, Result, bytes_of, has_digest, header_size, header_spelling, subst, w16, next_read, opening_checks, digest_checks, field_checks, entry_checks, count_at, count_in, ReachEnd, kind_at, digest_at, entry_at, is_end, zeros_in_front}
use Rattle.std.proofs.Common.{Bool, Option}
use Rattle.std.specs.Prelude.{IfOk, if◌then◌else◌}
use Rattle.std.specs.Int.{from_be_bytes}
use Rattle.base_model.proofs.Ranges.{byte-range}
use Rattle.std.proofs.Math.Dec.{eqb-suc-zero}
use Rattle.base_model.specs.Bytes.{range, zeros}
use Rattle.base_model.specs.Numbers.{number_at, seven_at}
use Rattle.base_model.proofs.Checks.{checked_all, checked_ok, then_step, not_false}
use Rattle.base_model.proofs.Numbers.{number_2, number_4, number_8}
use Rattle.container_meta.specs.Format.{is_data_length}
use Rattle.container_meta.specs.Spelling.{entry_spelling, entries_spelling, fields_spelling}
use Rattle.container_meta.specs.Reading.{field, zeros_end, entries_at, header_at}
use Rattle.container_meta.specs.declared.fault.MetaFault.TheVariants.{Gate, Magic}
use Rattle.container_meta.proofs.Lists.{zeros_in_front-zeros}
use Rattle.container_meta.proofs.Spelled.{entries_spelling-cons, bytes_of-push}
use Rattle.container_meta.proofs.Numbers.{length-entry_spelling, entry_again}
use Rattle.container_meta.proofs.Parts.{field_parts, Parts, parts_of_spelling, length-entries_spelling, length-header_spelling}

-- ---- the entries

other_way : (b x y : Bool) → b ≡ false → (if b then x else y) ≡ y
other_way true x y e = absurd cc
other_way false x y e = refl

end_right : (after data_length end : ℕ) → end ≤ data_length → (after ≡ 0 → end ≡ data_length) → is_end after data_length end ≡ true
end_right zero data_length end within last = eq-eqb end data_length (last refl)
end_right (suc after) data_length end within last = other_way (suc after == 0) (end == data_length) (nat_le end data_length) (eqb-suc-zero after) ∙ le-leb end data_length within

-- the parts of a list whose front has 48 bytes
first_part : (at n : ℕ) (bytes a b : List ℕ) → length a ≡ 48 → range at (48 + n) bytes ≡ a ++ b → range at 48 bytes ≡ a
first_part at n bytes a b long h =
    ap (λ (k : ℕ). range k 48 bytes) (omega arith) ∙ sym (range-range 0 48 at (48 + n) bytes (omega arith)) ∙ ap (range 0 48) h ∙ range-first 0 48 a b (omega arith)
    ∙ range-whole 48 a long

second_part : (at n : ℕ) (bytes a b : List ℕ) → length a ≡ 48 → length b ≡ n → range at (48 + n) bytes ≡ a ++ b → range (at + 48) n bytes ≡ b
second_part at n bytes a b long other h =
    sym (range-range 48 n at (48 + n) bytes (omega arith)) ∙ ap (range 48 n) h ∙ range-second 0 n 48 48 a b long refl ∙ range-whole n b other

-- the checks of an entry that stands in its place
entry_passes : (kind : Kind) (data_length after : ℕ) (before : List Entry) (at : ℕ) (bytes : List ℕ) (e : Entry) → entry_at at bytes ≡ e → seven_at (at + 41) bytes ≡ 0 →
    IsNext kind before e → bytes_of before + e.length ≤ data_length → (after ≡ 0 → bytes_of before + e.length ≡ data_length) →
    AllHold (entry_checks kind data_length after before at bytes)
entry_passes kind data_length after before at bytes e is none next within last =
    let new : has_digest before (range at 32 bytes) ≡ false = ap (λ (y : Entry). has_digest before y.digest) is ∙ next.new in
    let sized : is_length kind (number_at w32 (at + 36) bytes) ≡ true = ap (λ (y : Entry). is_length kind y.length) is ∙ next.length in
    let ends : is_end after data_length (bytes_of before + number_at w32 (at + 36) bytes) ≡ true = ap (λ (y : Entry). is_end after data_length (bytes_of before + y.length)) is
    ∙ end_right after data_length (bytes_of before + e.length) within last in (
      not_false (has_digest before (range at 32 bytes)) new,
      (
        eq-eqb (number_at w32 (at + 32) bytes) (bytes_of before) (ap (λ (y : Entry). y.offset) is ∙ next.offset),
        (
          both_true (is_length kind (number_at w32 (at + 36) bytes)) (is_end after data_length (bytes_of before + number_at w32 (at + 36) bytes)) sized ends,
          (
            ap (λ (y : Entry). is_level kind y.level) is ∙ next.level,
            (eq-eqb (seven_at (at + 41) bytes) 0 none, tt),
          ),
        ),
      ),
    )

no_more : (es : List Entry) → length es ≡ 0 → bytes_of es ≡ 0
no_more [] h = refl
no_more (e ∷ es) h = absurd (omega arith)

pub entries_again : (kind : Kind) (data_length : ℕ) (before rest : List Entry) (bytes : List ℕ) → entry_place (length before + length rest) ≤ length bytes →
    Follow kind before rest → range (entry_place (length before)) (48 * length rest) bytes ≡ entries_spelling rest → bytes_of (before ++ rest) ≡ data_length →
    data_length ≤ DATA_BYTES → entries_at kind data_length (length rest) before bytes ≡ Ok (before ++ rest)
unfolding entries_at
entries_again kind data_length before [] bytes fits allowed here whole small = ap (λ (l : List Entry). Ok l) (sym (append-nil before))
entries_again kind data_length before (e ∷ es) bytes fits allowed here whole small =
    let at : ℕ = entry_place (length before) in
    let n : ℕ = length es in
    let next : IsNext kind before e = allowed.0 in
    let long : length (entry_spelling e) ≡ 48 = length-entry_spelling e next.digest in
    let rest_long : length (entries_spelling es) ≡ 48 * n = length-entries_spelling kind (before ++ e ∷ []) es allowed.1 in
    let both_parts : range at (48 + 48 * n) bytes ≡ entry_spelling e ++ entries_spelling es = ap (λ (k : ℕ). range at k bytes) (omega arith) ∙ here ∙ entries_spelling-cons e es in
    let total : (bytes_of before + e.length) + bytes_of es ≡ data_length =
    ap (λ (k : ℕ). k + bytes_of es) (sym (bytes_of-push before e)) ∙ sym (sum_by-append (λ (y : Entry). y.length) (before ++ e ∷ []) es)
    ∙ ap bytes_of (append_assoc before (e ∷ []) es) ∙ whole in
    let read = entry_again at bytes e (omega arith) next.digest (omega (arith, next.offset)) (omega arith)
    (first_part at (48 * n) bytes (entry_spelling e) (entries_spelling es) long both_parts) in
    let one_more : length (before ++ e ∷ []) ≡ length before + 1 = length-append before (e ∷ []) in
    let there : range (entry_place (length (before ++ e ∷ []))) (48 * n) bytes ≡ entries_spelling es = ap (λ (k : ℕ). range k (48 * n) bytes) (omega (arith, one_more))
    ∙ second_part at (48 * n) bytes (entry_spelling e) (entries_spelling es) long rest_long both_parts in
    let others = entries_again kind data_length (before ++ e ∷ []) es bytes (omega (arith, one_more)) allowed.1 there (ap bytes_of (append_assoc before (e ∷ []) es) ∙ whole) small
    in
    let passed : next_read kind data_length n before bytes ≡ Ok (entry_at at bytes) = checked_all (entry_checks kind data_length n before at bytes) (entry_at at bytes)
    (entry_passes kind data_length n before at bytes e read.0 read.1 next (omega arith) (λ none. omega (arith, no_more es none))) in
    then_step (next_read kind data_length n before bytes) (λ (y : Entry). entries_at kind data_length n (before ++ y ∷ []) bytes) (entry_at at bytes) (Ok (before ++ e ∷ es)) passed
    (ap (λ (y : Entry). entries_at kind data_length n (before ++ y ∷ []) bytes) read.0 ∙ others ∙ ap (λ (l : List Entry). Ok l) (append_assoc before (e ∷ []) es))

-- ---- the header

zeros_end_of : (from count place : ℕ) (bytes : List ℕ) → place ≡ from + count → range from count bytes ≡ zeros count → (zeros_end from count bytes == place) ≡ true
unfolding zeros_end
zeros_end_of from count place bytes e h =
    eq-eqb (from + zeros_in_front (range from count bytes)) place (ap (λ (l : List ℕ). from + zeros_in_front l) h ∙ ap (λ (k : ℕ). from + k) (zeros_in_front-zeros count) ∙ sym e)

pub small_count : (n : ℕ) → is_count n ≡ true → n ≤ MOST_ENTRIES
small_count n h = leb-true n MOST_ENTRIES (both (nat_le 1 n) (nat_le n MOST_ENTRIES) h).1

-- a header ends before its data
pub header_fits : (h : HeaderValue) → IsHeader h → header_size h ≤ HEADER_BYTES
header_fits h allowed = omega (arith, small_count (length h.entries) allowed.count)

small_id : (n : ℕ) → is_id n ≡ true → n ≤ 2 ^ 64 - 2
small_id n h = leb-true n (2 ^ 64 - 2) (both (nat_le 1 n) (nat_le n (2 ^ 64 - 2)) h).1

small_length : (n : ℕ) → is_data_length n ≡ true → n ≤ DATA_BYTES
small_length n h = leb-true n DATA_BYTES (both (nat_le 1 n) (nat_le n DATA_BYTES) h).1

same_header : (i i' : ℕ) (k k' : Kind) (d d' : ℕ) (es : List Entry) → i ≡ i' → k ≡ k' → d ≡ d' →
    (let v : HeaderValue = record { id = i; kind = k; data_length = d; entries = es } in v) ≡ record { id = i'; kind = k'; data_length = d'; entries = es }
same_header i i' k k' d d' es hi hk hd = cc

-- what the fields before the entries read as
record FieldsRead (h : HeaderValue) (bytes : List ℕ) : Type 0 where
  name : range 1 7 bytes ≡ magic
  id_is : number_at w64 8 bytes ≡ h.id
  kind_byte_is : kind_of (byte_at 16 bytes) ≡ Some h.kind
  zero_is : byte_at 17 bytes ≡ 0
  count_is : count_at bytes ≡ length h.entries
  length_is : number_at w32 20 bytes ≡ h.data_length

fields_read : (h : HeaderValue) (bytes : List ℕ) → IsHeader h → Parts h bytes → FieldsRead h bytes
fields_read h bytes allowed p =
    let f = field_parts h.id h.kind (length h.entries) h.data_length bytes p.fields in
    record {
      name = f.name;
      id_is = number_8 8 h.id bytes (omega (arith, small_id h.id allowed.id)) f.id_is;
      kind_byte_is = ap kind_of f.kind_is ∙ allowed.kind;
      zero_is = f.zero_is;
      count_is = number_2 18 (length h.entries) bytes (omega (arith, small_count (length h.entries) allowed.count)) f.count_is;
      length_is = number_4 20 h.data_length bytes (omega (arith, small_length h.data_length allowed.data_length)) f.length_is;
    }

digest_read : (h : HeaderValue) (bytes : List ℕ) → Parts h bytes → count_at bytes ≡ length h.entries → range 24 32 bytes ≡ digest_at bytes
digest_read h bytes p count =
    let fields : List ℕ = fields_spelling h.id h.kind (length h.entries) h.data_length in
    let entries : range 512 (48 * count_at bytes) bytes ≡ entries_spelling h.entries = ap (λ (n : ℕ). range 512 (48 * n) bytes) count ∙ p.entries in
    p.digest ∙ sym (ap (λ (l : List ℕ). sha256 (l ++ range 512 (48 * count_at bytes) bytes)) p.fields ∙ ap (λ (l : List ℕ). sha256 (fields ++ l)) entries)

same_count : (a b : List ℕ) → range 18 2 a ≡ range 18 2 b → count_at a ≡ count_at b
unfolding number_at range
same_count a b same = ap (from_be_bytes w16) same

part_of_both : (at n : ℕ) (a b : List ℕ) → at + n ≤ 24 → range 0 24 a ≡ range 0 24 b → range at n a ≡ range at n b
part_of_both at n a b within same =
    let from : 0 + at ≡ at = omega arith in
    ap (λ (k : ℕ). range k n a) (sym from) ∙ sym (range-range at n 0 24 a within) ∙ ap (range at n) same ∙ range-range at n 0 24 b within ∙ ap (λ (k : ℕ). range k n b) from

-- the count of entries goes by the gate, the magic and the count
abbrev counted_by : ℕ → List ℕ → ℕ → Result ℕ MetaFault
counted_by gate name count =
    checked (
    record { holds = gate == CONTAINER_GATE; fault = Gate gate } ∷ record { holds = bytes_eq name magic; fault = Magic }
    ∷ field 18 count (is_count count) ∷ []
    )
    count

pub same_count_in : (a b : List ℕ) → range 0 24 a ≡ range 0 24 b → count_in a ≡ count_in b
same_count_in a b same =
    let gate : byte_at 0 a ≡ byte_at 0 b = sym (byte-range 0 0 24 a (omega arith)) ∙ ap (byte_at 0) same ∙ byte-range 0 0 24 b (omega arith) in
    ap (λ (g : ℕ). counted_by g (range 1 7 a) (count_at a)) gate
    ∙ ap (λ (n : List ℕ). counted_by (byte_at 0 b) n (count_at a)) (part_of_both 1 7 a b (omega arith) same)
    ∙ ap (counted_by (byte_at 0 b) (range 1 7 b)) (same_count a b (part_of_both 18 2 a b (omega arith) same))

-- bytes that begin as a header does have its count of entries
pub counted : (h : HeaderValue) (bytes : List ℕ) → IsHeader h → range 0 24 bytes ≡ range 0 24 (header_spelling h) → count_in bytes ≡ Ok (length h.entries)
counted h bytes allowed begun =
    let spelling : List ℕ = header_spelling h in
    let p = parts_of_spelling h spelling allowed.entries (range-whole (header_size h) spelling (length-header_spelling h allowed)) in
    let f = fields_read h spelling allowed p in
    let opening : AllHold (opening_checks spelling) =
    (eq-eqb (byte_at 0 spelling) CONTAINER_GATE p.gate, ((bytes_eq-Decides (range 1 7 spelling) magic).1 f.name, (ap is_count f.count_is ∙ allowed.count, tt))) in
    same_count_in bytes spelling begun ∙ checked_all (opening_checks spelling) (count_at spelling) opening
    ∙ ap (λ (n : ℕ). (let r : Result ℕ MetaFault = Ok n in r)) f.count_is

-- all bytes before the data reach to the end of any header
pub reach_all : (bytes : List ℕ) → HEADER_BYTES ≤ length bytes → ReachEnd bytes
reach_all bytes long = (omega (arith, long), reach (count_in bytes) refl)
  where
    reach : (r : Result ℕ MetaFault) → count_in bytes ≡ r → IfOk r (λ n. entry_place n ≤ length bytes)
    reach (Ok n) is =
        let held = checked_ok (opening_checks bytes) (count_at bytes) n is in
        omega (arith, long, small_count (count_at bytes) held.0.1.1.0, held.1)
    reach (Err e) is = tt

-- a header that stands at a place is read from bytes that stand there, if they reach to its end
pub spelled_in : (h : HeaderValue) (bytes image : List ℕ) (at : ℕ) → ReachEnd bytes → range at (length bytes) image ≡ bytes → IsHeader h →
    range at (header_size h) image ≡ header_spelling h → IsSpelled h bytes
spelled_in h bytes image at reach stand allowed is =
    let begun : range 0 24 bytes ≡ range 0 24 (header_spelling h) =
    ap (range 0 24) (sym stand) ∙ range-range 0 24 at (length bytes) image (omega (arith, reach.0)) ∙ sym (range-range 0 24 at (header_size h) image (omega arith))
    ∙ ap (range 0 24) is
    in
    let long : header_size h ≤ length bytes =
    subst (λ (r : Result ℕ MetaFault). IfOk r (λ n. entry_place n ≤ length bytes)) (counted h bytes allowed begun) reach.1 in (
      allowed,
      ap (range 0 (header_size h)) (sym stand) ∙ range-range 0 (header_size h) at (length bytes) image (omega (arith, long))
          ∙ ap (λ (k : ℕ). range k (header_size h) image) (omega arith) ∙ is,
    )

pub header_again : (bytes : List ℕ) (h : HeaderValue) → ReachEnd bytes → IsSpelled h bytes → header_at bytes ≡ Ok h
unfolding header_at
header_again bytes h reach spelled =
    let allowed : IsHeader h = spelled.0 in
    let p = parts_of_spelling h bytes allowed.entries spelled.1 in
    let f = fields_read h bytes allowed p in
    let count : ℕ = count_at bytes in
    let data_length : ℕ = number_at w32 20 bytes in
    let kind : kind_at bytes ≡ h.kind = ap (λ (o : Option Kind). unwrap_or o Leaf) f.kind_byte_is in
    let opened : count_in bytes ≡ Ok count = counted h bytes allowed (sym (range-range 0 24 0 (header_size h) bytes (omega arith)) ∙ ap (range 0 24) spelled.1)
    ∙ ap (λ (n : ℕ). (let r : Result ℕ MetaFault = Ok n in r)) (sym f.count_is) in
    let long : entry_place count ≤ length bytes = subst (λ (r : Result ℕ MetaFault). IfOk r (λ n. entry_place n ≤ length bytes)) opened reach.1 in
    let digest : AllHold (digest_checks bytes) = ((bytes_eq-Decides (range 24 32 bytes) (digest_at bytes)).1 (digest_read h bytes p f.count_is), tt) in
    let fields : AllHold (field_checks bytes) = (
      ap is_id f.id_is ∙ allowed.id,
      (
        ap is_some f.kind_byte_is,
        (
          eq-eqb (byte_at 17 bytes) 0 f.zero_is,
          (ap is_data_length f.length_is ∙ allowed.data_length, (zeros_end_of 56 456 512 bytes refl p.padding, tt)),
        ),
      ),
    ) in
    let entries : entries_at (kind_at bytes) data_length count [] bytes ≡ Ok h.entries =
    ap (λ (k : Kind). entries_at k data_length count [] bytes) kind
    ∙ ap (λ (d : ℕ). entries_at h.kind d count [] bytes) f.length_is
    ∙ ap (λ (n : ℕ). entries_at h.kind h.data_length n [] bytes) f.count_is
    ∙ entries_again h.kind h.data_length [] h.entries bytes (omega (arith, long, f.count_is)) allowed.entries p.entries allowed.whole
    (small_length h.data_length allowed.data_length) in
    then_step (count_in bytes) _ count (Ok h) opened
    (then_step (passes (digest_checks bytes)) _ tt (Ok h) (checked_all (digest_checks bytes) tt digest)
    (then_step (checked (field_checks bytes) (kind_at bytes)) _ (kind_at bytes) (Ok h) (checked_all (field_checks bytes) (kind_at bytes) fields)
    (then_step (entries_at (kind_at bytes) data_length count [] bytes) _ h.entries (Ok h) entries
    (ap (λ (v : HeaderValue). Ok v) (same_header _ _ _ _ _ _ h.entries f.id_is kind f.length_is)))))
