-- A byte string that is added to a buffer of them, behind all others.
use Rattle.std.proofs.Common.{◌≡◌, ◌≤◌, ◌+◌, ℕ, List, [], ◌∷◌, ◌++◌, length, map, take, drop, min, sum_by, refl, sym, ◌∙◌, ap, arith}
use Rattle.std.proofs.Math.Seq.{drop-append_seam, take-length}
use Rattle.std.proofs.lemmas.List.Sums.{sum_by-append, sum_by-cons}
use Rattle.std.proofs.lemmas.List.{drop-append-le, length-append, length-drop, length-take-le, map-append, take-append-le}
use Rattle.std.proofs.Math.Nat.{min-eq_left}
use Rattle.std.specs.List.{AllByRecursion}
use Rattle.digests.specs.declared.texts.Span.{Span}
use Rattle.digests.specs.Texts.{AreSpans, rest_from, text_in}

-- the bytes of a span that the buffer has are no fewer
text_is : (bytes : List ℕ) (s : Span) → s.from + s.count ≤ length bytes → text_in bytes s ≡ take s.count (drop s.from bytes)
text_is bytes s within =
    let rest : rest_from s.from bytes ≡ drop s.from bytes =
    ap (λ n. drop n bytes) (min-eq_left {n = s.from} {m = length bytes} (omega (arith, within))) in
    let count : min s.count (length (rest_from s.from bytes)) ≡ s.count =
    min-eq_left {n = s.count} {m = length (rest_from s.from bytes)} (omega (arith, within, ap length rest, length-drop s.from bytes)) in
    ap (λ n. take n (rest_from s.from bytes)) count ∙ ap (take s.count) rest

-- they stay as bytes are added
text_stays : (bytes more : List ℕ) (s : Span) → s.from + s.count ≤ length bytes → text_in (bytes ++ more) s ≡ text_in bytes s
text_stays bytes more s within =
    text_is (bytes ++ more) s (omega (arith, within, length-append bytes more))
    ∙ ap (take s.count) (drop-append-le s.from bytes more (omega (arith, within)))
    ∙ take-append-le s.count (drop s.from bytes) more (omega (arith, within, length-drop s.from bytes))
    ∙ sym (text_is bytes s within)

all_stay : (bytes more : List ℕ) (spans : List Span) → AllByRecursion (λ s. s.from + s.count ≤ length bytes) spans
    → map (text_in (bytes ++ more)) spans ≡ map (text_in bytes) spans
all_stay bytes more [] all = refl
all_stay bytes more (s ∷ spans) all =
    ap (λ t. t ∷ map (text_in (bytes ++ more)) spans) (text_stays bytes more s all.0)
    ∙ ap (λ ts. text_in bytes s ∷ ts) (all_stay bytes more spans all.1)

-- the one that was added
text_added : (bytes text : List ℕ) → text_in (bytes ++ text) (record { from = length bytes; count = length text }) ≡ text
text_added bytes text =
    text_is (bytes ++ text) (record { from = length bytes; count = length text }) (omega (arith, length-append bytes text))
    ∙ ap (take (length text)) (drop-append_seam bytes text) ∙ take-length text

-- these are the byte strings then, one more
pub texts_added : (bytes text : List ℕ) (spans : List Span) (s : Span) → AreSpans bytes spans
    → s ≡ record { from = length bytes; count = length text }
    → map (text_in (bytes ++ text)) (spans ++ s ∷ []) ≡ map (text_in bytes) spans ++ text ∷ []
texts_added bytes text spans s are is =
    map-append (text_in (bytes ++ text)) spans (s ∷ [])
    ∙ ap (λ ts. ts ++ text_in (bytes ++ text) s ∷ []) (all_stay bytes text spans are.within)
    ∙ ap (λ t. map (text_in bytes) spans ++ t ∷ []) (ap (text_in (bytes ++ text)) is ∙ text_added bytes text)

all_within : (bytes more : List ℕ) (spans : List Span) (s : Span) → AllByRecursion (λ t. t.from + t.count ≤ length bytes) spans
    → s.from + s.count ≤ length (bytes ++ more) → AllByRecursion (λ t. t.from + t.count ≤ length (bytes ++ more)) (spans ++ s ∷ [])
all_within bytes more [] s all one = (one, tt)
all_within bytes more (t ∷ spans) s all one = (omega (arith, all.0, length-append bytes more), all_within bytes more spans s all.1 one)

pub spans_added : (bytes text : List ℕ) (spans : List Span) (s : Span) → AreSpans bytes spans
    → s ≡ record { from = length bytes; count = length text } → AreSpans (bytes ++ text) (spans ++ s ∷ [])
spans_added bytes text spans s are is =
    let from : s.from ≡ length bytes = ap (λ (t : Span). t.from) is in
    let count : s.count ≡ length text = ap (λ (t : Span). t.count) is in
    record {
      within = all_within bytes text spans s are.within (omega (arith, from, count, length-append bytes text));
      long = sum_by-append (λ (t : Span). t.count) spans (s ∷ []) ∙ omega (arith, are.long, count, length-append bytes text);
    }

-- together they are as long as the buffer
pub texts_long : (bytes : List ℕ) (spans : List Span) → AllByRecursion (λ s. s.from + s.count ≤ length bytes) spans
    → sum_by length (map (text_in bytes) spans) ≡ sum_by (λ (s : Span). s.count) spans
texts_long bytes [] all = refl
texts_long bytes (s ∷ spans) all =
    let one : length (text_in bytes s) ≡ s.count =
    ap length (text_is bytes s all.0)
    ∙ length-take-le s.count (drop s.from bytes) (omega (arith, all.0, length-drop s.from bytes)) in
    omega (
      arith,
      one,
      texts_long bytes spans all.1,
      sum_by-cons length (text_in bytes s) (map (text_in bytes) spans),
      sum_by-cons (λ (t : Span). t.count) s spans,
    )
