-- The segments of a container can be added once more, each after those before it.
use Rattle.std.proofs.Common.{◌≡◌, ℕ, zero, suc, ◌+◌, ◌≤◌, ◌<◌, Bool, true, false, List, [], ◌∷◌, ◌++◌, length, take, get_or, refl, sym, ap, subst, ◌∙◌, arith, append_assoc}
use Rattle.std.specs.Prelude.{◌||◌, nat_le, nat_lt}
use Rattle.std.proofs.lemmas.Bool.{le-leb, leb-true, lt-ltb}
use Rattle.std.proofs.lemmas.List.{append-nil, length-take-le}
use Rattle.sha2.specs.Sha256.{sha256}
use Rattle.base_model.proofs.Checks.{both, both_true}
use Rattle.base_model.specs.Bytes.{key_of}
use Rattle.disk_format.specs.declared.numbers.TheConstants.{DATA_BYTES, MOST_ENTRIES}
use Rattle.container_meta.specs.declared.entry.Entry.{Entry}
use Rattle.container_meta.specs.declared.kind.Kind.{Kind}
use Rattle.container_meta.specs.declared.kind.Kind.TheVariants.{Leaf, Tree}
use Rattle.container_meta.specs.Format.{kind_byte, is_length, is_level}
use Rattle.container_meta.specs.Segments.{CanAdd, Contents, KindSegment, Segment, bytes_in, entries_from, has_key, has_room, segment_at}
use Rattle.container_meta.specs.Spelling.{Follow, IsHeader, has_digest, header_of}
use Rattle.container_meta.proofs.Cut.{cut}
use Rattle.std.proofs.Math.Seq.{take-suc}
use Rattle.container_meta.proofs.Packing.{bytes_in-cons, entry_for}
use Rattle.store_state.proofs.Indexed.{length-entries_from}

-- a segment that may come after entries
record IsAfter (kind : Kind) (before : List Entry) (s : Segment) : Type 0 where
  new : has_digest before (sha256 s.bytes) ≡ false
  length_is : is_length kind (length s.bytes) ≡ true
  level_is : is_level kind s.level ≡ true

after_more : (kind : Kind) (before more : List Entry) (e : Entry) (s : Segment) → IsAfter kind ((before ++ e ∷ []) ++ more) s → IsAfter kind (before ++ e ∷ more) s
after_more kind before more e s is = record {
  new = ap (λ (es : List Entry). has_digest es (sha256 s.bytes)) (sym (append_assoc before (e ∷ []) more)) ∙ is.new;
  length_is = is.length_is;
  level_is = is.level_is;
}

-- each of them comes after those before it
after_those : (kind : Kind) (before : List Entry) (offset : ℕ) (ss : List Segment) (i : ℕ) → i < length ss → Follow kind before (entries_from offset ss)
    → IsAfter kind (before ++ entries_from offset (take i ss)) (segment_at ss i)
after_those kind before offset [] i within follow = absurd (omega (arith, within))
after_those kind before offset (s ∷ ss) zero within follow = record {
  new = ap (λ (es : List Entry). has_digest es (sha256 s.bytes)) (append-nil before) ∙ follow.0.new;
  length_is = follow.0.length;
  level_is = follow.0.level;
}
after_those kind before offset (s ∷ ss) (suc i) within follow =
    after_more kind before (entries_from (offset + length s.bytes) (take i ss)) (entry_for offset s) (segment_at ss i)
    (after_those kind (before ++ entry_for offset s ∷ []) (offset + length s.bytes) ss i (omega (arith, within)) follow.1)

-- neither of two is so
neither : (a b c d : Bool) → (a ≡ false → c ≡ false) → (b ≡ false → d ≡ false) → a || b ≡ false → c || d ≡ false
neither true b c d first second is = absurd cc
neither false b c d first second is = ap (λ (x : Bool). x || d) (first refl) ∙ second is

-- no segment has a digest, so none has its key
lacks_key : (kind : Kind) (offset : ℕ) (ss : List Segment) (digest : List ℕ) → has_digest (entries_from offset ss) digest ≡ false
    → has_key (record { kind = kind; segments = ss }) (key_of (kind_byte kind) digest) ≡ false
lacks_key kind offset [] digest none = refl
lacks_key Leaf offset (s ∷ ss) digest none = neither _ _ _ _ (λ is. is) (lacks_key Leaf (offset + length s.bytes) ss digest) none
lacks_key Tree offset (s ∷ ss) digest none = neither _ _ _ _ (λ is. is) (lacks_key Tree (offset + length s.bytes) ss digest) none

-- the bytes of those before one, and its own
bytes_before : (ss : List Segment) (i : ℕ) → i < length ss → bytes_in (take i ss) + length (segment_at ss i).bytes ≤ bytes_in ss
bytes_before [] i within = absurd (omega (arith, within))
bytes_before (s ∷ ss) zero within = omega (arith, bytes_in-cons s ss)
bytes_before (s ∷ ss) (suc i) within = omega (arith, bytes_in-cons s ss, bytes_in-cons s (take i ss), bytes_before ss i (omega (arith, within)))

module _ (kind : Kind) (ss : List Segment) (i : ℕ) (within : i < length ss) (right : IsHeader (header_of 1 kind ss)) where
  pub can_add : CanAdd (record { kind = kind; segments = take i ss }) (record { kind = kind; segment = segment_at ss i })
  can_add =
      let after = after_those kind [] 0 ss i within right.entries in
      record {
        kind = refl;
        new = lacks_key kind 0 (take i ss) (sha256 (segment_at ss i).bytes) after.new;
        length = after.length_is;
        level = after.level_is;
      }

  pub level_fits : is_level kind (segment_at ss i).level ≡ true
  level_fits = (after_those kind [] 0 ss i within right.entries).level_is

  pub fits : has_room (record { kind = kind; segments = take i ss }) (length (segment_at ss i).bytes) ≡ true
  fits =
      let most = leb-true (length (entries_from 0 ss)) MOST_ENTRIES
      (both (nat_le 1 (length (entries_from 0 ss))) (nat_le (length (entries_from 0 ss)) MOST_ENTRIES) right.count).1 in
      let bytes = leb-true (bytes_in ss) DATA_BYTES (both (nat_le 1 (bytes_in ss)) (nat_le (bytes_in ss) DATA_BYTES) right.data_length).1 in
      both_true (nat_lt (length (take i ss)) MOST_ENTRIES) (nat_le (bytes_in (take i ss) + length (segment_at ss i).bytes) DATA_BYTES)
      (lt-ltb (length (take i ss)) MOST_ENTRIES (omega (arith, most, length-entries_from 0 ss, length-take-le i ss (omega (arith, within)))))
      (le-leb (bytes_in (take i ss) + length (segment_at ss i).bytes) DATA_BYTES (omega (arith, bytes, bytes_before ss i within)))

  module _ (copy : Contents) (s : KindSegment) (copy_is : copy ≡ record { kind = kind; segments = take i ss }) (s_is : s ≡ record { kind = kind; segment = segment_at ss i }) where
    pub can_add_it : CanAdd copy s
    can_add_it = subst (λ (c : Contents). CanAdd c s) (sym copy_is) (subst (λ (t : KindSegment). CanAdd (record { kind = kind; segments = take i ss }) t) (sym s_is) can_add)

    pub fits_it : has_room copy (length s.segment.bytes) ≡ true
    fits_it = ap (λ (c : Contents). has_room c (length s.segment.bytes)) copy_is
        ∙ ap (λ (t : KindSegment). has_room (record { kind = kind; segments = take i ss }) (length t.segment.bytes)) s_is ∙ fits

    pub one_more : (new : Contents) → new ≡ record copy { segments = copy.segments ++ s.segment ∷ [] } → new ≡ record { kind = kind; segments = take (i + 1) ss }
    one_more new is =
        let next : i + 1 ≡ suc i = omega arith in
        is ∙ ap (λ (c : Contents). (let v : Contents = record { kind = c.kind; segments = c.segments ++ s.segment ∷ [] } in v)) copy_is
        ∙ ap (λ (t : KindSegment). (let v : Contents = record { kind = kind; segments = take i ss ++ t.segment ∷ [] } in v)) s_is
        ∙ ap (λ (l : List Segment). (let v : Contents = record { kind = kind; segments = l } in v))
        (sym (take-suc ss i (record { level = 0; bytes = [] }) within) ∙ ap (λ (n : ℕ). take n ss) (sym next))

-- the segment that was made is that of the number
pub level_of : (es : List Entry) (ss : List Segment) (i : ℕ) (d : Entry) → i < length ss → es ≡ entries_from 0 ss → (get_or es i d).level ≡ (segment_at ss i).level
level_of es ss i d within is = ap (λ (l : List Entry). (get_or l i d).level) is ∙ (cut d 0 ss i within).level_is

pub segment_made : (s : KindSegment) (kind other : Kind) (level : ℕ) (bytes : List ℕ) (t : Segment)
    → s ≡ record { kind = other; segment = record { level = level; bytes = bytes } } → other ≡ kind → level ≡ t.level
    → bytes ≡ t.bytes → s ≡ record { kind = kind; segment = t }
segment_made s kind other level bytes t is kind_is level_is bytes_is =
    is ∙ ap (λ (k : Kind). (let v : KindSegment = record { kind = k; segment = record { level = level; bytes = bytes } } in v)) kind_is
    ∙ ap (λ (n : ℕ). (let v : KindSegment = record { kind = kind; segment = record { level = n; bytes = bytes } } in v)) level_is
    ∙ ap (λ (b : List ℕ). (let v : KindSegment = record { kind = kind; segment = record { level = t.level; bytes = b } } in v)) bytes_is
