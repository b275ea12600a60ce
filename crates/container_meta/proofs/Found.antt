-- What is read has the bytes as its spelling.
use Rattle.container_meta.proofs.Prelude.{◌≡◌, ℕ, zero, suc, ◌+◌, ◌*◌, ◌≤◌, ◌<◌, true, List, [], ◌∷◌, ◌++◌, length, Some, Result, Ok, Err, refl, sym, ap, subst, ◌∙◌, arith, append_assoc, length-append, inl, inr, ◌==◌, nat_le, is_some, unwrap_or, bytes_eq, w16, w32, w64, to_be_bytes, cases_lt, eqb-true, leb-true, append-nil, nil_from_length, bytes_eq-Decides, sha256, byte_at, checked, passes, ◌>>=◌, AllHold, both, IsBytes, spelled_4, length-range, range-join, CONTAINER_GATE, MOST_ENTRIES, Kind, Leaf, Entry, Header, MetaFault, magic, kind_byte, kind_of, is_count, is_length, entry_place, HeaderValue, with_entries, IsNext, Follow, IsHeader, bytes_of, has_digest, IsSpelled, next_read, opening_checks, digest_checks, field_checks, entry_checks, count_at, count_in, ReachEnd, kind_at, digest_at, entry_at, is_end, zeros_in_front}
use Rattle.std.specs.Prelude.{IfOk}
use Rattle.base_model.specs.Bytes.{range, zeros}
use Rattle.base_model.specs.Checks.{Check}
use Rattle.base_model.specs.Numbers.{number_at, seven_at}
use Rattle.base_model.proofs.Checks.{bind_ok, checked_all, checked_ok, ok_is, not_true}
use Rattle.base_model.proofs.Numbers.{spelled_2, spelled_8}
use Rattle.container_meta.specs.Spelling.{entry_spelling, entries_spelling, fields_spelling}
use Rattle.container_meta.specs.Reading.{decoded, zeros_end, entries_at, header_at}
use Rattle.container_meta.proofs.Lists.{all_zeros}
use Rattle.container_meta.proofs.Spelled.{entries_spelling-nil, entries_spelling-cons, bytes_of-push}
use Rattle.container_meta.proofs.Numbers.{entry_spelled}
use Rattle.container_meta.proofs.Parts.{FieldParts, fields_from_parts, Parts, spelling_from_parts}

-- ---- the entries

-- what was read after others
pub record Read (kind : Kind) (data_length n : ℕ) (before : List Entry) (bytes : List ℕ) (all : List Entry) : Type 0 where
  pub rest : List Entry
  pub parts : all ≡ before ++ rest
  pub many : length rest ≡ n
  pub allowed : Follow kind before rest
  pub spelled : range (entry_place (length before)) (48 * n) bytes ≡ entries_spelling rest
  pub whole : 0 < n → bytes_of all ≡ data_length

nothing : (at : ℕ) (bytes : List ℕ) → range at 0 bytes ≡ []
unfolding range
nothing at bytes = refl

last_end : (after data_length end : ℕ) → after ≡ 0 → is_end after data_length end ≡ true → end ≡ data_length
last_end zero data_length end none h = eqb-true end data_length h
last_end (suc after) data_length end none h = absurd (omega arith)

pub entries_found : (kind : Kind) (data_length n : ℕ) (before : List Entry) (bytes : List ℕ) (all : List Entry) → IsBytes bytes → entry_place (length before + n) ≤ length bytes →
    entries_at kind data_length n before bytes ≡ Ok all → Read kind data_length n before bytes all
unfolding entries_at
entries_found kind data_length zero before bytes all fits long e =
    record {
      rest = [];
      parts = sym (ok_is before all e) ∙ sym (append-nil before);
      many = refl;
      allowed = tt;
      spelled = nothing (entry_place (length before)) bytes ∙ sym entries_spelling-nil;
      whole = λ none. absurd (omega arith);
    }
entries_found kind data_length (suc n) before bytes all fits long e =
    let at : ℕ = entry_place (length before) in
    let x : Entry = entry_at at bytes in
    let a = bind_ok (next_read kind data_length n before bytes) (λ (y : Entry). entries_at kind data_length n (before ++ y ∷ []) bytes) all e in
    let b = checked_ok (entry_checks kind data_length n before at bytes) x a.0 a.1 in
    let next : entries_at kind data_length n (before ++ x ∷ []) bytes ≡ Ok all = ap (λ (y : Entry). entries_at kind data_length n (before ++ y ∷ []) bytes) b.1 ∙ a.2 in
    let one_more : length (before ++ x ∷ []) ≡ length before + 1 = length-append before (x ∷ []) in
    let r = entries_found kind data_length n (before ++ x ∷ []) bytes all fits (omega (arith, one_more)) next in
    let sized = both (is_length kind x.length) (is_end n data_length (bytes_of before + x.length)) b.0.1.1.0 in
    let allowed : IsNext kind before x = record {
      digest = length-range at 32 bytes (omega arith);
      new = not_true (has_digest before x.digest) b.0.0;
      offset = eqb-true x.offset (bytes_of before) b.0.1.0;
      length = sized.0;
      level = b.0.1.1.1.0;
    } in
    let here : range at 48 bytes ≡ entry_spelling x = sym (entry_spelled at bytes (omega arith) fits (eqb-true (seven_at (at + 41) bytes) 0 b.0.1.1.1.1.0)) in
    let there : range (entry_place (length (before ++ x ∷ []))) (48 * n) bytes ≡ range (at + 48) (48 * n) bytes = ap (λ (k : ℕ). range k (48 * n) bytes) (omega (arith, one_more))
    in
    record {
      rest = x ∷ r.rest;
      parts = r.parts ∙ append_assoc before (x ∷ []) r.rest;
      many = ap suc r.many;
      allowed = (allowed, r.allowed);
      spelled =
          ap (λ (k : ℕ). range at k bytes) (omega arith)
          ∙ sym (range-join at 48 (48 * n) (at + 48) bytes refl)
          ∙ ap (λ (l : List ℕ). l ++ range (at + 48) (48 * n) bytes) here
          ∙ ap (λ (l : List ℕ). entry_spelling x ++ l) (sym there ∙ r.spelled)
          ∙ sym (entries_spelling-cons x r.rest);
      whole = λ some. elim (cases_lt 0 n) [
        | inl lt ↦ r.whole lt
        | inr le ↦
            ap bytes_of (r.parts ∙ ap (λ (l : List Entry). (before ++ x ∷ []) ++ l) (nil_from_length r.rest (omega (arith, r.many))) ∙ append-nil (before ++ x ∷ []))
            ∙ bytes_of-push before x
            ∙ last_end n data_length (bytes_of before + x.length) (omega arith) sized.1
      ];
    }

-- ---- the header

kind_found : (b : ℕ) → is_some (kind_of b) ≡ true → (b ≡ kind_byte (unwrap_or (kind_of b) Leaf))
    × (kind_of (kind_byte (unwrap_or (kind_of b) Leaf)) ≡ Some (unwrap_or (kind_of b) Leaf))
kind_found zero h = (refl, refl)
kind_found (suc zero) h = (refl, refl)
kind_found (suc (suc b)) h = absurd cc

zeros_found : (from count place : ℕ) (bytes : List ℕ) → from + count ≤ length bytes → place ≡ from + count → (zeros_end from count bytes == place) ≡ true →
    range from count bytes ≡ zeros count
unfolding zeros_end
zeros_found from count place bytes fits e h =
    let long : length (range from count bytes) ≡ count = length-range from count bytes fits in
    let all : zeros_in_front (range from count bytes) ≡ length (range from count bytes) = omega (arith, long, e, eqb-true (from + zeros_in_front (range from count bytes)) place h)
    in
    all_zeros (range from count bytes) all ∙ ap zeros long

digest_found : (fields entries bytes : List ℕ) → bytes_eq (range 24 32 bytes) (digest_at bytes) ≡ true → range 1 23 bytes ≡ fields →
    range 512 (48 * count_at bytes) bytes ≡ entries → range 24 32 bytes ≡ sha256 (fields ++ entries)
digest_found fields entries bytes same fields_are entries_are =
    (bytes_eq-Decides (range 24 32 bytes) (digest_at bytes)).0 same
    ∙ ap (λ (l : List ℕ). sha256 (l ++ range 512 (48 * count_at bytes) bytes)) fields_are
    ∙ ap (λ (l : List ℕ). sha256 (fields ++ l)) entries_are

count_some : (n : ℕ) → is_count n ≡ true → 0 < n
count_some n h = omega (arith, leb-true 1 n (both (nat_le 1 n) (nat_le n MOST_ENTRIES) h).0)

-- the header that the fields before the entries spell, with entries
abbrev value : List ℕ → Kind → List Entry → HeaderValue
value bytes kind entries = record { id = number_at w64 8 bytes; kind = kind; data_length = number_at w32 20 bytes; entries = entries }

-- the steps of the reader from its last on
abbrev at_end : List ℕ → Kind → List Entry → Result HeaderValue MetaFault
at_end bytes kind entries = Ok (value bytes kind entries)

abbrev at_entries : List ℕ → ℕ → Kind → Result HeaderValue MetaFault
at_entries bytes count kind = entries_at kind (number_at w32 20 bytes) count [] bytes >>= at_end bytes kind

abbrev at_fields : List ℕ → ℕ → Unit {0} → Result HeaderValue MetaFault
at_fields bytes count digest = checked (field_checks bytes) (kind_at bytes) >>= at_entries bytes count

abbrev at_digest : List ℕ → ℕ → Result HeaderValue MetaFault
at_digest bytes count = passes (digest_checks bytes) >>= at_fields bytes count

after_checks : {A B F : Type 0} (checks : List (Check F)) (x : A) (f : A → Result B F) (y : B) → (checked checks x >>= f) ≡ Ok y → AllHold checks × (f x ≡ Ok y)
after_checks checks x f y e =
    let step = bind_ok (checked checks x) f y e in
    let held = checked_ok checks x step.0 step.1 in
    (held.0, ap f held.1 ∙ step.2)

-- where a header was read, each check held
record Steps (bytes : List ℕ) (h : HeaderValue) : Type 0 where
  opened : AllHold (opening_checks bytes)
  digested : AllHold (digest_checks bytes)
  fielded : AllHold (field_checks bytes)
  entries : entries_at (kind_at bytes) (number_at w32 20 bytes) (count_at bytes) [] bytes ≡ Ok h.entries
  is : value bytes (kind_at bytes) h.entries ≡ h

steps : (bytes : List ℕ) (h : HeaderValue) → header_at bytes ≡ Ok h → Steps bytes h
unfolding header_at
steps bytes h e =
    let count : ℕ = count_at bytes in
    let kind : Kind = kind_at bytes in
    let a = after_checks (opening_checks bytes) count (at_digest bytes) h e in
    let b = after_checks (digest_checks bytes) tt (at_fields bytes count) h a.1 in
    let d = after_checks (field_checks bytes) kind (at_entries bytes count) h b.1 in
    let f = bind_ok (entries_at kind (number_at w32 20 bytes) count [] bytes) (at_end bytes kind) h d.1 in
    let is : value bytes kind f.0 ≡ h = ok_is (value bytes kind f.0) h f.2 in
    let same : f.0 ≡ h.entries = ap (λ (v : HeaderValue). v.entries) is in
    record {
      opened = a.0;
      digested = b.0;
      fielded = d.0;
      entries = f.1 ∙ ap (λ (l : List Entry). (let r : Result (List Entry) MetaFault = Ok l in r)) same;
      is = ap (value bytes kind) (sym same) ∙ is;
    }

fields_found : (bytes : List ℕ) (h : HeaderValue) (entries : List Entry) → IsBytes bytes → entry_place 0 ≤ length bytes → Steps bytes h → length entries ≡ count_at bytes →
    FieldParts (number_at w64 8 bytes) (kind_at bytes) (length entries) (number_at w32 20 bytes) bytes
fields_found bytes h entries fits long s many = record {
  name = (bytes_eq-Decides (range 1 7 bytes) magic).0 s.opened.1.0;
  id_is = sym (spelled_8 8 bytes (omega arith) fits);
  kind_is = (kind_found (byte_at 16 bytes) s.fielded.1.0).0;
  zero_is = eqb-true (byte_at 17 bytes) 0 s.fielded.1.1.0;
  count_is = sym (spelled_2 18 bytes (omega arith) fits) ∙ ap (to_be_bytes w16) (sym many);
  length_is = sym (spelled_4 20 bytes (omega arith) fits);
}

parts_found : (bytes : List ℕ) (h : HeaderValue) (entries : List Entry) → IsBytes bytes → entry_place 0 ≤ length bytes → Steps bytes h → length entries ≡ count_at bytes →
    range 512 (48 * count_at bytes) bytes ≡ entries_spelling entries → Parts (value bytes (kind_at bytes) entries) bytes
parts_found bytes h entries fits long s many spelled =
    let fields = fields_from_parts (number_at w64 8 bytes) (kind_at bytes) (length entries) (number_at w32 20 bytes) bytes (omega arith)
    (fields_found bytes h entries fits long s many) in
    record {
      gate = eqb-true (byte_at 0 bytes) CONTAINER_GATE s.opened.0;
      fields = fields;
      digest = digest_found (fields_spelling (number_at w64 8 bytes) (kind_at bytes) (length entries) (number_at w32 20 bytes)) (entries_spelling entries) bytes s.digested.0
          fields spelled;
      padding = zeros_found 56 456 512 bytes (omega arith) refl s.fielded.1.1.1.1.0;
      entries = ap (λ (n : ℕ). range 512 (48 * n) bytes) many ∙ spelled;
    }

pub header_found : (bytes : List ℕ) (h : HeaderValue) → IsBytes bytes → ReachEnd bytes → header_at bytes ≡ Ok h → IsSpelled h bytes
header_found bytes h fits reach e =
    let s = steps bytes h e in
    let count : ℕ = count_at bytes in
    let counted : count_in bytes ≡ Ok count = checked_all (opening_checks bytes) count s.opened in
    let long : entry_place count ≤ length bytes = subst (λ (r : Result ℕ MetaFault). IfOk r (λ n. entry_place n ≤ length bytes)) counted reach.1 in
    let r = entries_found (kind_at bytes) (number_at w32 20 bytes) count [] bytes h.entries fits (omega (arith, long)) s.entries in
    let many : length h.entries ≡ count = ap length r.parts ∙ r.many in
    let spelled : range 512 (48 * count) bytes ≡ entries_spelling h.entries = r.spelled ∙ ap entries_spelling (sym r.parts) in
    let made : HeaderValue = value bytes (kind_at bytes) h.entries in
    let header : IsHeader made = record {
      id = s.fielded.0;
      kind = (kind_found (byte_at 16 bytes) s.fielded.1.0).1;
      count = ap is_count many ∙ s.opened.1.1.0;
      data_length = s.fielded.1.1.1.0;
      entries = subst (λ (l : List Entry). Follow (kind_at bytes) [] l) (sym r.parts) r.allowed;
      whole = r.whole (count_some count s.opened.1.1.0);
    } in
    subst (λ (v : HeaderValue). IsSpelled v bytes) s.is
    (header, spelling_from_parts made bytes reach.0 (parts_found bytes h h.entries fits reach.0 s many spelled))

pub is_found : (bytes : List ℕ) (r : Result Header MetaFault) (entries : List Entry) → IsBytes bytes → ReachEnd bytes → decoded r entries ≡ header_at bytes →
    IfOk r (λ h. IsSpelled (with_entries h entries) bytes)
is_found bytes (Ok h) entries fits reach given = header_found bytes (with_entries h entries) fits reach (sym given)
is_found bytes (Err e) entries fits reach given = tt
