-- A container as it is written.
use Rattle.container_meta.proofs.Prelude.{◌≡◌, ℕ, ◌+◌, ◌-◌, ◌*◌, ◌≤◌, true, List, [], ◌∷◌, ◌++◌, length, take, Some, refl, sym, ap, subst, ◌∙◌, arith, append_assoc, nat_le, ◌==◌, le-leb, leb-true, eqb-true, take_at, sha256, DATA_BYTES, MOST_ENTRIES, Kind, Leaf, Entry, kind_byte, kind_of, is_id, is_length, Segment, bytes_in, entries_from, segments_in, bytes_of, Follow, IsHeader, header_of, container_spelling, both, both_true}
use Rattle.base_model.specs.Bytes.{zeros}
use Rattle.disk_format.specs.declared.numbers.TheConstants.{MOST_SEGMENT, MOST_CHILDREN}
use Rattle.container_meta.specs.declared.kind.Kind.TheVariants.{Tree}
use Rattle.container_meta.specs.Format.{is_within, child_count}
use Rattle.container_meta.specs.Spelling.{entries_spelling, fields_spelling, front_spelling, header_digest}
use Rattle.container_meta.proofs.Parts.{length-entries_spelling}
use Rattle.container_meta.proofs.Packing.{bytes_of-cons, data-segments_in, bytes_in-segments_in}

-- a container of these entries and this data
abbrev spelled_with : ℕ → Kind → List Entry → ℕ → List ℕ → List ℕ
spelled_with id kind es count bytes =
    front_spelling (fields_spelling id kind (length es) count) (entries_spelling es) ++ entries_spelling es ++ zeros (49152 - 48 * length es) ++ bytes ++ zeros (DATA_BYTES - count)

joined : (a b c d e : List ℕ) → a ++ ((b ++ c) ++ (d ++ e)) ≡ (((a ++ b) ++ c) ++ d) ++ e
joined a b c d e = simp append_assoc

pub container_written : (id : ℕ) (kind : Kind) (es : List Entry) (bytes front entries rest part : List ℕ)
    → es ≡ entries_from 0 (segments_in es bytes) → bytes_of es ≡ length bytes → Follow kind [] es
    → entries ≡ entries_spelling es ++ zeros (49152 - 48 * length es) → part ≡ take (48 * length es) entries
    → front ≡ front_spelling (fields_spelling id kind (length es) (length bytes)) part → rest ≡ bytes ++ zeros (DATA_BYTES - length bytes)
    → front ++ (entries ++ rest) ≡ container_spelling id kind (segments_in es bytes)
container_written id kind es bytes front entries rest part exact whole allowed wrote_entries cut wrote_front wrote_rest =
    let ss : List Segment = segments_in es bytes in
    let fields : List ℕ = fields_spelling id kind (length es) (length bytes) in
    let spelled : List ℕ = entries_spelling es in
    let k : ℕ = 49152 - 48 * length es in
    let long : length spelled ≡ 48 * length es = length-entries_spelling kind [] es allowed in
    let part_is : part ≡ spelled = cut ∙ ap (take (48 * length es)) wrote_entries ∙ take_at spelled (zeros k) (48 * length es) long in
    let front_is : front ≡ front_spelling fields spelled = wrote_front ∙ ap (front_spelling fields) part_is in
    ap (λ (l : List ℕ). l ++ (entries ++ rest)) front_is
    ∙ ap (λ (l : List ℕ). front_spelling fields spelled ++ (l ++ rest)) wrote_entries
    ∙ ap (λ (l : List ℕ). front_spelling fields spelled ++ ((spelled ++ zeros k) ++ l)) wrote_rest
    ∙ joined (front_spelling fields spelled) spelled (zeros k) bytes (zeros (DATA_BYTES - length bytes))
    ∙ ap (λ (l : List Entry). spelled_with id kind l (length bytes) bytes) exact
    ∙ ap (λ (n : ℕ). spelled_with id kind (entries_from 0 ss) n bytes) (sym (bytes_in-segments_in es bytes whole))
    ∙ ap (λ (l : List ℕ). spelled_with id kind (entries_from 0 ss) (bytes_in ss) l) (sym (data-segments_in es bytes whole))

-- the digest of its header is that of the same fields and entries
pub digest_written : (id : ℕ) (kind : Kind) (es : List Entry) (bytes digest entries : List ℕ)
    → es ≡ entries_from 0 (segments_in es bytes) → bytes_of es ≡ length bytes → Follow kind [] es
    → entries ≡ entries_spelling es ++ zeros (49152 - 48 * length es)
    → digest ≡ sha256 (fields_spelling id kind (length es) (length bytes) ++ take (48 * length es) entries)
    → digest ≡ header_digest (header_of id kind (segments_in es bytes))
unfolding header_digest
digest_written id kind es bytes digest entries exact whole allowed wrote is =
    let k : ℕ = 49152 - 48 * length es in
    let ss : List Segment = segments_in es bytes in
    let long : length (entries_spelling es) ≡ 48 * length es = length-entries_spelling kind [] es allowed in
    let part_is : take (48 * length es) entries ≡ entries_spelling es = ap (take (48 * length es)) wrote ∙ take_at (entries_spelling es) (zeros k) (48 * length es) long in
    let hashed = λ (l : List Entry) (n : ℕ). sha256 (fields_spelling id kind (length l) n ++ entries_spelling l) in
    is ∙ ap (λ (l : List ℕ). sha256 (fields_spelling id kind (length es) (length bytes) ++ l)) part_is
    ∙ ap (λ (l : List Entry). hashed l (length bytes)) exact
    ∙ ap (λ (n : ℕ). hashed (entries_from 0 ss) n) (sym (bytes_in-segments_in es bytes whole))

-- ---- its header

kind_taken : (kind : Kind) (n : ℕ) → is_length kind n ≡ true → kind_of (kind_byte kind) ≡ Some kind
kind_taken Leaf n h = refl
kind_taken Tree n h = refl

some_length : (kind : Kind) (n : ℕ) → is_length kind n ≡ true → 1 ≤ n
some_length Leaf n h = leb-true 1 n (both (nat_le 1 n) (nat_le n MOST_SEGMENT) h).0
some_length Tree n h = omega (arith, eqb-true n (4 + 40 * child_count n) (both (is_within 1 MOST_CHILDREN (child_count n)) (n == 4 + 40 * child_count n) h).1)

within : (high n : ℕ) → 1 ≤ n → n ≤ high → is_within 1 high n ≡ true
within high n low up = both_true (nat_le 1 n) (nat_le n high) (le-leb 1 n low) (le-leb n high up)

record First (kind : Kind) (es : List Entry) : Type 0 where
  taken : kind_of (kind_byte kind) ≡ Some kind
  some : 1 ≤ bytes_of es

first_tells : (kind : Kind) (es : List Entry) → Follow kind [] es → 1 ≤ length es → First kind es
first_tells kind [] allowed there = absurd (omega arith)
first_tells kind (e ∷ es) allowed there = record {
  taken = kind_taken kind e.length allowed.0.length;
  some = omega (arith, bytes_of-cons e es, some_length kind e.length allowed.0.length);
}

pub header_allowed : (id : ℕ) (kind : Kind) (es : List Entry) (bytes : List ℕ) → is_id id ≡ true → es ≡ entries_from 0 (segments_in es bytes) → bytes_of es ≡ length bytes →
    Follow kind [] es → 1 ≤ length es → length es ≤ MOST_ENTRIES → length bytes ≤ DATA_BYTES → IsHeader (header_of id kind (segments_in es bytes))
header_allowed id kind es bytes right exact whole allowed there few fits =
    let ss : List Segment = segments_in es bytes in
    let first = first_tells kind es allowed there in
    let held : bytes_in ss ≡ length bytes = bytes_in-segments_in es bytes whole in
    record {
      id = right;
      kind = first.taken;
      count = ap (λ (l : List Entry). is_within 1 MOST_ENTRIES (length l)) (sym exact) ∙ within MOST_ENTRIES (length es) there few;
      data_length = within DATA_BYTES (bytes_in ss) (omega (arith, held, first.some)) (omega (arith, held));
      entries = subst (λ (l : List Entry). Follow kind [] l) exact allowed;
      whole = ap bytes_of (sym exact) ∙ whole ∙ sym held;
    }
