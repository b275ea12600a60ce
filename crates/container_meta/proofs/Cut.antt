-- A segment of an open container, by its number.
use Rattle.container_meta.proofs.Prelude.{◌≡◌, ℕ, zero, suc, ◌+◌, ◌<◌, ◌≤◌, List, [], ◌∷◌, ◌++◌, length, take, drop, get_or, refl, sym, ap, subst, ◌∙◌, arith, length-append, take_at, flat_map-cons, sha256, Entry, Segment, data_of, entries_from, segment_at, segments_in, bytes_of}
use Rattle.std.proofs.Math.Seq.{drop-append-add}
use Rattle.container_meta.proofs.Packing.{data-segments_in}

-- an entry is that of a segment, whose bytes it cuts from data that begins at an offset
pub record IsCut (offset : ℕ) (all : List ℕ) (s : Segment) (e : Entry) : Type 0 where
  pub from : ℕ
  pub offset_is : e.offset ≡ offset + from
  pub bytes_are : take e.length (drop from all) ≡ s.bytes
  pub within : from + e.length ≤ length all
  pub digest_is : e.digest ≡ sha256 s.bytes
  pub length_is : e.length ≡ length s.bytes
  pub level_is : e.level ≡ s.level

further : (offset : ℕ) (x s : Segment) (xs : List Segment) (e : Entry) → IsCut (offset + length x.bytes) (data_of xs) s e → IsCut offset (data_of (x ∷ xs)) s e
further offset x s xs e cut =
    let all : data_of (x ∷ xs) ≡ x.bytes ++ data_of xs = flat_map-cons (λ (y : Segment). y.bytes) x xs in
    let long : length (data_of (x ∷ xs)) ≡ length x.bytes + length (data_of xs) = ap length all ∙ length-append x.bytes (data_of xs) in
    let past : drop (length x.bytes + cut.from) (data_of (x ∷ xs)) ≡ drop cut.from (data_of xs) = ap (drop (length x.bytes + cut.from)) all ∙ drop-append-add x.bytes (data_of xs)
    cut.from in
    record {
      from = length x.bytes + cut.from;
      offset_is = omega (arith, cut.offset_is);
      bytes_are = ap (take e.length) past ∙ cut.bytes_are;
      within = omega (arith, long, cut.within);
      digest_is = cut.digest_is;
      length_is = cut.length_is;
      level_is = cut.level_is;
    }

pub cut : (d : Entry) (offset : ℕ) (ss : List Segment) (i : ℕ) → i < length ss → IsCut offset (data_of ss) (segment_at ss i) (get_or (entries_from offset ss) i d)
cut d offset [] i within = absurd (omega (arith, within))
cut d offset (s ∷ ss) zero within =
    let all : data_of (s ∷ ss) ≡ s.bytes ++ data_of ss = flat_map-cons (λ (y : Segment). y.bytes) s ss in
    record {
      from = 0;
      offset_is = omega arith;
      bytes_are = ap (take (length s.bytes)) all ∙ take_at s.bytes (data_of ss) (length s.bytes) refl;
      within = omega (arith, ap length all, length-append s.bytes (data_of ss));
      digest_is = refl;
      length_is = refl;
      level_is = refl;
    }
cut d offset (s ∷ ss) (suc i) within = further offset s (segment_at ss i) ss (get_or (entries_from (offset + length s.bytes) ss) i d)
    (cut d (offset + length s.bytes) ss i (omega (arith, within)))

-- the same of a container that is kept as entries and bytes
pub cut_packed : (d : Entry) (es : List Entry) (bytes : List ℕ) (ss : List Segment) (i : ℕ) → ss ≡ segments_in es bytes → es ≡ entries_from 0 (segments_in es bytes) →
    bytes_of es ≡ length bytes → i < length ss
    → IsCut 0 bytes (segment_at ss i) (get_or es i d)
cut_packed d es bytes ss i is exact whole within =
    subst (λ (l : List Segment). IsCut 0 bytes (segment_at l i) (get_or es i d)) (sym is)
    (subst (λ (l : List Entry). IsCut 0 bytes (segment_at (segments_in es bytes) i) (get_or l i d)) (sym exact)
    (subst (λ (l : List ℕ). IsCut 0 l (segment_at (segments_in es bytes) i) (get_or (entries_from 0 (segments_in es bytes)) i d)) (data-segments_in es bytes whole)
    (cut d 0 (segments_in es bytes) i (omega (arith, within, ap length is)))))
