-- What is known of a header by its first bytes, and by these and those after them.
use Rattle.std.proofs.Common.{◌≡◌, ℕ, ◌+◌, ◌-◌, ◌≤◌, List, ◌++◌, length, take, drop, Result, Ok, Err, IfOk, refl, sym, ap, subst, ◌∙◌, arith}
use Rattle.std.proofs.lemmas.List.{length-append, length-drop, length-take, take_at}
use Rattle.disk_format.specs.declared.numbers.TheConstants.{HEADER_BYTES}
use Rattle.base_model.specs.Bytes.{range}
use Rattle.base_model.proofs.Ranges.{length-range, range-join, range-range}
use Rattle.container_meta.specs.declared.fault.MetaFault.{MetaFault}
use Rattle.container_meta.specs.Format.{entry_place}
use Rattle.container_meta.specs.Reading.{count_in, end_of, ReachEnd}
use Rattle.container_meta.proofs.Again.{same_count_in}

pub long : (count : ℕ) (bytes : List ℕ) → count ≤ length bytes → length (take count bytes) ≡ count
long count bytes fits = omega (arith, length-take count bytes, fits)

begun : (count : ℕ) (bytes : List ℕ) → 24 ≤ count → range 0 24 (take count bytes) ≡ range 0 24 bytes
unfolding range
begun count bytes some = range-range 0 24 0 count bytes some

-- bytes that begin alike have the same count
pub same_count : (n : ℕ) (a b : List ℕ) → 24 ≤ n → take n a ≡ take n b → count_in a ≡ count_in b
same_count n a b some same = same_count_in a b (sym (begun n a some) ∙ ap (range 0 24) same ∙ begun n b some)

reached : (count : ℕ) (r : Result ℕ MetaFault) → end_of r ≤ count → IfOk r (λ n. entry_place n ≤ count)
reached count (Ok n) fits = fits
reached count (Err e) fits = tt

-- so many bytes reach to the end of the header that they begin
pub reach : (count : ℕ) (bytes : List ℕ) → 512 ≤ count → count ≤ length bytes → end_of (count_in bytes) ≤ count → ReachEnd (take count bytes)
reach count bytes some fits end =
    let same : count_in (take count bytes) ≡ count_in bytes = same_count_in (take count bytes) bytes (begun count bytes (omega (arith, some))) in (
      omega (arith, long count bytes fits, some),
      subst (λ (k : ℕ). IfOk (count_in (take count bytes)) (λ n. entry_place n ≤ k)) (sym (long count bytes fits))
          (subst (λ (r : Result ℕ MetaFault). IfOk r (λ n. entry_place n ≤ count)) (sym same) (reached count (count_in bytes) end)),
    )

-- the first bytes and those after them are all
pub stand : (first end at : ℕ) (bytes image : List ℕ) → first ≤ end → end ≤ length bytes → range at (length (take first bytes)) image ≡ take first bytes →
    range (at + first) (length (range first (end - first) bytes)) image ≡ range first (end - first) bytes → range at (length (take end bytes)) image ≡ take end bytes
unfolding range
stand first end at bytes image before fits one other =
    let rest : ℕ = end - first in
    let whole : end ≡ first + rest = omega (arith, before) in
    let a : range at first image ≡ take first bytes = ap (λ (n : ℕ). range at n image) (sym (long first bytes (omega (arith, before, fits)))) ∙ one in
    let count : length (range first rest bytes) ≡ rest = length-range first rest bytes (omega (arith, fits, whole)) in
    let b : range (at + first) rest image ≡ range first rest bytes = ap (λ (n : ℕ). range (at + first) n image) (sym count) ∙ other in
    ap (λ (n : ℕ). range at n image) (long end bytes fits ∙ whole)
    ∙ sym (range-join at first rest (at + first) image refl)
    ∙ ap (λ (l : List ℕ). l ++ range (at + first) rest image) a
    ∙ ap (λ (l : List ℕ). take first bytes ++ l) b
    ∙ range-join 0 first rest first bytes (omega arith)
    ∙ ap (λ (n : ℕ). take n bytes) (sym whole)

-- a buffer whose first bytes were read
pub whole : (into raw : List ℕ) → length raw ≡ HEADER_BYTES → length into ≡ length (take 4096 raw) → length (into ++ drop 4096 raw) ≡ HEADER_BYTES
whole into raw size count = length-append into (drop 4096 raw) ∙ omega (arith, size, count, long 4096 raw (omega (arith, size)), length-drop 4096 raw)

pub first_read : (P : ℕ → List ℕ → Type 0) (place at : ℕ) (into raw : List ℕ) → length raw ≡ HEADER_BYTES → length into ≡ length (take 4096 raw) → place ≡ at → P place into →
    P at (take 4096 (into ++ drop 4096 raw))
first_read P place at into raw size count there read =
    subst (P at) (sym (take_at into (drop 4096 raw) 4096 (omega (arith, size, count, long 4096 raw (omega (arith, size))))))
    (subst (λ (p : ℕ). P p into) there read)
