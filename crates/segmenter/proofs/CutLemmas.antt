-- What the end of the first segment, found by a scan, tells of the bytes up to it.
use Rattle.std.proofs.Common.{◌≡◌, ◌≢◌, ℕ, ◌+◌, ◌-◌, ◌<◌, ◌≤◌, Bool, true, false, inl, inr, List, ◌++◌, length, take, drop, min, refl, sym, ap, ◌∙◌, arith, length-append}
use Rattle.std.specs.Prelude.{◌==◌, nat_le}
use Rattle.std.specs.List.{slice_range}
use Rattle.std.proofs.lemmas.List.{length-take-le, length-take, take-append-le, take-append-drop, take-take, drop-take}
use Rattle.std.proofs.lemmas.Bool.{le-leb, lt-leb, eq-eqb, ne_eqb, both_ways, cases_lt, cases_eq, cases_Bool}
use Rattle.std.proofs.Math.Bool.{or-true}
use Rattle.std.proofs.Math.Seq.{take-append-add}
use Rattle.disk_format.specs.declared.numbers.TheConstants.{LEAST_SEGMENT, MOST_SEGMENT}
use Rattle.segmenter.specs.Segments.{is_hit, window_value, window_at, is_boundary}
use Rattle.segmenter.specs.Cutting.{NoBoundary, ends_segment, IsFirstSegment, IsHeld, IsFirstHit, IsCut}
use Rattle.segmenter.proofs.SegmentLemmas.{is_boundary-append, is_boundary-greatest, first_segment}

-- ---- boundaries and windows

pub is_boundary-hit : (bytes : List ℕ) (n : ℕ) → is_hit (window_at bytes n) ≡ true → is_boundary bytes n ≡ true
unfolding is_boundary
is_boundary-hit bytes n h = rw h (or-true (n == MOST_SEGMENT))

pub is_boundary-miss : (bytes : List ℕ) (n : ℕ) → n ≢ MOST_SEGMENT → is_hit (window_at bytes n) ≡ false → is_boundary bytes n ≡ false
unfolding is_boundary
is_boundary-miss bytes n other h = let different : (n == MOST_SEGMENT) ≡ false = ne_eqb n MOST_SEGMENT other in rw (different, h) refl

-- the boundaries within the first bytes of a list are those of the list
is_boundary-take : (bytes : List ℕ) (end n : ℕ) → n ≤ end → end ≤ length bytes → is_boundary (take end bytes) n ≡ is_boundary bytes n
is_boundary-take bytes end n h inside =
    sym (is_boundary-append (take end bytes) (drop end bytes) n (omega (arith, length-take-le end bytes inside)))
    ∙ ap (λ all. is_boundary all n) (take-append-drop end bytes)

window_at-take : (bytes : List ℕ) (end : ℕ) → end ≤ length bytes → window_at (take end bytes) end ≡ window_at bytes end
unfolding window_at
window_at-take bytes end inside = ap (drop (end - 48)) (take-take end end bytes (omega arith))

pub window_at-append : (bytes more : List ℕ) (n : ℕ) → n ≤ length bytes → window_at (bytes ++ more) n ≡ window_at bytes n
unfolding window_at
window_at-append bytes more n h = ap (drop (n - 48)) (take-append-le n bytes more h)

-- a window as it is read
pub window_at-range : (bytes : List ℕ) (n : ℕ) → 48 ≤ n → window_at bytes n ≡ slice_range bytes (n - 48) n
unfolding window_at
window_at-range bytes n long =
    let whole : n ≡ n - 48 + 48 = omega arith in
    let wide : n - (n - 48) ≡ 48 = omega arith in
    rw wide (ap (λ m. drop (n - 48) (take m bytes)) whole ∙ drop-take (n - 48) 48 bytes)

-- ---- from a scan to a cut

module _ (bytes : List ℕ) (start end value : ℕ) (hit whole : Bool) (least : LEAST_SEGMENT ≤ start)
    (at_most : length bytes ≤ MOST_SEGMENT) (uncut : NoBoundary bytes start) (scan : IsFirstHit bytes start end value hit) where
  before_end : NoBoundary bytes end
  before_end k low high = elim (cases_lt k start) [
    | inl before ↦ uncut k low before
    | inr later ↦
        let inside : end ≤ length bytes = scan.within in
        is_boundary-miss bytes k (omega arith) (scan.misses k later high)
  ]

  pub cut_at_hit : hit ≡ true → whole ≡ true → IsCut bytes start end value whole
  cut_at_hit found is_whole = record {
    after = scan.after;
    within = scan.within;
    uncut = before_end;
    ended = λ _. (omega (arith, scan.after), is_boundary-hit bytes end (sym scan.tested ∙ found));
    ongoing = λ h. absurd (both_ways whole h is_whole);
    rolled = λ _ _. scan.rolled;
  }

  not_yet : hit ≡ false → end ≢ MOST_SEGMENT → NoBoundary bytes (length bytes + 1)
  not_yet missed short k low high = elim (cases_lt k end) [
    | inl before ↦ before_end k low before
    | inr later ↦
        let last : end ≡ length bytes = scan.all missed in
        let here : k ≡ end = omega arith in
        ap (is_boundary bytes) here ∙ is_boundary-miss bytes end short (sym scan.tested ∙ missed)
  ]

  pub cut_at_end : hit ≡ false → whole ≡ (end == MOST_SEGMENT) → IsCut bytes start end value whole
  cut_at_end missed is_whole = elim (cases_eq end MOST_SEGMENT) [
    | inl full ↦
        let yes : whole ≡ true = is_whole ∙ eq-eqb end MOST_SEGMENT full in
        record {
          after = scan.after;
          within = scan.within;
          uncut = before_end;
          ended = λ _. (omega arith, ap (is_boundary bytes) full ∙ is_boundary-greatest bytes);
          ongoing = λ h. absurd (both_ways whole h yes);
          rolled = λ _ _. scan.rolled;
        }
    | inr short ↦
        let no : whole ≡ false = is_whole ∙ ne_eqb end MOST_SEGMENT short in
        record {
          after = scan.after;
          within = scan.within;
          uncut = before_end;
          ended = λ h. absurd (both_ways whole no h);
          ongoing = λ _. (scan.all missed, not_yet missed short);
          rolled = λ _ _. scan.rolled;
        }
  ]

-- ---- from a cut to what is held

module _ (bytes : List ℕ) (seen end value : ℕ) (whole : Bool) (cut : IsCut bytes seen end value whole) where
  size : length (take end bytes) ≡ end
  size = length-take-le end bytes cut.within

  still_uncut : NoBoundary (take end bytes) (length (take end bytes))
  still_uncut k low high = is_boundary-take bytes end k (omega (arith, size)) cut.within ∙ cut.uncut k low (omega (arith, size))

  pub held_from_cut : (capacity : ℕ) → MOST_SEGMENT ≤ capacity → length bytes ≤ MOST_SEGMENT → IsHeld (take end bytes) capacity value whole
  held_from_cut capacity room at_most = record {
    room = room;
    at_most = omega (arith, size, cut.within);
    uncut = still_uncut;
    not_empty = λ h. omega (arith, size, (cut.ended h).0);
    ongoing = λ h k low high.
        is_boundary-take bytes end k (omega (arith, size)) cut.within
        ∙ (cut.ongoing h).1 k low (omega (arith, size, cut.within));
    rolled = λ h long.
        cut.rolled h (omega (arith, size)) ∙ ap window_value (sym (ap (window_at (take end bytes)) size ∙ window_at-take bytes end cut.within));
  }

  boundary_at_end : is_boundary (take end bytes) (length (take end bytes)) ≡ is_boundary bytes end
  boundary_at_end = ap (is_boundary (take end bytes)) size ∙ is_boundary-take bytes end end (omega arith) cut.within

  pub first_from_cut : whole ≡ true → IsFirstSegment (take end bytes)
  first_from_cut h =
      first_segment (take end bytes) still_uncut (omega (arith, size, (cut.ended h).0)) (boundary_at_end ∙ (cut.ended h).1)

  ends_at_cut : whole ≡ true → ends_segment (take end bytes) ≡ true
  unfolding ends_segment
  ends_at_cut h =
      let enough : nat_le LEAST_SEGMENT (length (take end bytes)) ≡ true = le-leb LEAST_SEGMENT (length (take end bytes)) (omega (arith, size, (cut.ended h).0)) in
      let boundary : is_boundary (take end bytes) (length (take end bytes)) ≡ true = boundary_at_end ∙ (cut.ended h).1 in
      rw (enough, boundary) refl

  goes_on_at_cut : whole ≡ false → ends_segment (take end bytes) ≡ false
  unfolding ends_segment
  goes_on_at_cut h = elim (cases_lt (length (take end bytes)) LEAST_SEGMENT) [
    | inl short ↦ let few : nat_le LEAST_SEGMENT (length (take end bytes)) ≡ false = lt-leb LEAST_SEGMENT (length (take end bytes)) short in rw few refl
    | inr long ↦
        let none : is_boundary (take end bytes) (length (take end bytes)) ≡ false =
        boundary_at_end ∙ (cut.ongoing h).1 end (omega (arith, size)) (omega (arith, cut.within)) in
        let enough : nat_le LEAST_SEGMENT (length (take end bytes)) ≡ true = le-leb LEAST_SEGMENT (length (take end bytes)) long in
        rw (enough, none) refl
  ]

  pub ends_from_cut : whole ≡ ends_segment (take end bytes)
  ends_from_cut =
      elim (cases_Bool whole) [ inl ended ↦ ended ∙ sym (ends_at_cut ended) | inr goes_on ↦ goes_on ∙ sym (goes_on_at_cut goes_on) ]

-- ---- from the bytes held and a piece to the cut

-- `old` are the bytes held, and `all` are these and as many of the piece as there is room for
module _ (old piece all : List ℕ) (capacity value₀ end value : ℕ) (whole : Bool)
    (held : IsHeld old capacity value₀ false) (filled : all ≡ old ++ take (MOST_SEGMENT - length old) piece)
    (cut : IsCut all (length old) end value whole) where
  size_of_all : length all ≡ length old + min (MOST_SEGMENT - length old) (length piece)
  size_of_all =
      ap length filled ∙ length-append old (take (MOST_SEGMENT - length old) piece)
      ∙ ap (λ n. length old + n) (length-take (MOST_SEGMENT - length old) piece)

  pub piece_at_most : length all ≤ MOST_SEGMENT
  piece_at_most = omega (arith, size_of_all, held.at_most)

  pub taken_at_most : end - length old ≤ length piece
  taken_at_most = omega (arith, size_of_all, cut.within)

  pub taken_bytes : take end all ≡ old ++ take (end - length old) piece
  taken_bytes =
      let after : end ≡ length old + (end - length old) = omega (arith, cut.after) in
      let inside : end - length old ≤ MOST_SEGMENT - length old = omega (arith, size_of_all, cut.within) in
      ap (take end) filled
      ∙ ap (λ n. take n (old ++ take (MOST_SEGMENT - length old) piece)) after
      ∙ take-append-add old (take (MOST_SEGMENT - length old) piece) (end - length old)
      ∙ ap (λ bytes. old ++ bytes) (take-take (end - length old) (MOST_SEGMENT - length old) piece inside)

  -- while the segment goes on, it isn't of the greatest length
  not_full : whole ≡ false → length all < MOST_SEGMENT
  not_full h = elim (cases_lt (length all) MOST_SEGMENT) [
    | inl less ↦ less
    | inr full ↦ absurd (both_ways (is_boundary all MOST_SEGMENT) ((cut.ongoing h).1 MOST_SEGMENT (omega arith) (omega arith)) (is_boundary-greatest all))
  ]

  pub taken_all : whole ≡ false → end - length old ≡ length piece
  taken_all h = omega (arith, size_of_all, not_full h, (cut.ongoing h).0)

  -- the bytes held were no whole segment, so something more was taken
  taken_to_end : NoBoundary all (length old + 1) → whole ≡ true → length old < end
  taken_to_end uncut h = elim (cases_lt (length old) end) [
    | inl more ↦ more
    | inr same ↦ absurd (both_ways (is_boundary all end) (uncut end (cut.ended h).0 (omega arith)) (cut.ended h).1)
  ]

  pub taken_some : NoBoundary all (length old + 1) → 0 < length piece → 0 < end - length old
  taken_some uncut h = elim (cases_Bool whole) [
    | inl ended ↦ omega (arith, taken_to_end uncut ended)
    | inr goes_on ↦ omega (arith, taken_all goes_on)
  ]

-- what was held is uncut with more bytes after it, and its last window is the same
module _ (old more all : List ℕ) (capacity value : ℕ) (held : IsHeld old capacity value false) (filled : all ≡ old ++ more) where
  pub uncut_after : NoBoundary all (length old + 1)
  uncut_after k low high =
      ap (λ bytes. is_boundary bytes k) filled
      ∙ is_boundary-append old more k (omega arith) ∙ held.ongoing refl k low high

  pub rolled_after : LEAST_SEGMENT ≤ length old → value ≡ window_value (window_at all (length old))
  rolled_after long =
      held.rolled refl long
      ∙ ap window_value (sym (ap (λ bytes. window_at bytes (length old)) filled ∙ window_at-append old more (length old) (omega arith)))
