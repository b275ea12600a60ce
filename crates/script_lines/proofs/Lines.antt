-- The lines of a script are the parts between its LFs.
use Rattle.std.proofs.Common.{◌≡◌, ℕ, zero, suc, ◌-◌, ◌<◌, ◌⊎◌, inl, inr, false, not, List, [], ◌∷◌, ◌++◌, length, take, drop, get_or, refl, sym, ◌∙◌, ap, subst, arith}
use Rattle.std.specs.List.{list_any, flat_map, slice_split, count_by, suffix_len, AllByRecursion}
use Rattle.std.proofs.lemmas.Bool.{cases_Bool, or_parts, or_from, eqb-true}
use Rattle.std.proofs.lemmas.List.{append_assoc, append-nil, append_cancel_left, length_push, take_at, drop_at, get_or_at, get_or-append_right, length-append}
use Rattle.std.proofs.lemmas.List.Sums.{suffix_len_is}
use Rattle.std.proofs.lemmas.List.Splits.{length-slice_split}
use Rattle.script_lines.specs.Script.{is_line_end, HasNoLineEnd, ended, lines_in, rest_in, ScriptsAreClear}

-- ---- bytes, cut at each LF

pub record Cut (bytes : List ℕ) (lines : List (List ℕ)) (rest : List ℕ) : Type 0 where
  pub spelled : bytes ≡ flat_map ended lines ++ rest
  pub each : AllByRecursion HasNoLineEnd lines
  pub last : HasNoLineEnd rest

parts-line : (line rest : List ℕ) → HasNoLineEnd line → slice_split is_line_end (line ++ (10 ∷ rest)) ≡ line ∷ slice_split is_line_end rest
parts-line [] rest none = refl
parts-line (byte ∷ line) rest none =
    let tests = or_parts (is_line_end byte) (list_any is_line_end line) none in
    rw (tests.0, parts-line line rest tests.1) refl

parts-rest : (rest : List ℕ) → HasNoLineEnd rest → slice_split is_line_end rest ≡ rest ∷ []
parts-rest [] none = refl
parts-rest (byte ∷ rest) none =
    let tests = or_parts (is_line_end byte) (list_any is_line_end rest) none in
    rw (tests.0, parts-rest rest tests.1) refl

pub first_line : (line lines rest : List ℕ) → ((line ++ (10 ∷ [])) ++ lines) ++ rest ≡ line ++ (10 ∷ (lines ++ rest))
first_line line lines rest = simp append_assoc

parts-lines : (lines : List (List ℕ)) (rest : List ℕ) → AllByRecursion HasNoLineEnd lines → HasNoLineEnd rest →
    slice_split is_line_end (flat_map ended lines ++ rest) ≡ lines ++ (rest ∷ [])
parts-lines [] rest each last = parts-rest rest last
parts-lines (line ∷ lines) rest each last =
    ap (slice_split is_line_end) (first_line line (flat_map ended lines) rest) ∙ parts-line line (flat_map ended lines ++ rest) each.0
    ∙ ap (λ (t : List (List ℕ)). line ∷ t) (parts-lines lines rest each.1 last)

parts-cut : (bytes : List ℕ) (lines : List (List ℕ)) (rest : List ℕ) → Cut bytes lines rest → slice_split is_line_end bytes ≡ lines ++ (rest ∷ [])
parts-cut bytes lines rest cut = ap (slice_split is_line_end) cut.spelled ∙ parts-lines lines rest cut.each cut.last

-- ---- they are the lines

pub lines_are : (bytes : List ℕ) (lines : List (List ℕ)) (rest : List ℕ) → Cut bytes lines rest → lines_in bytes ≡ lines
lines_are bytes lines rest cut =
    let parts = parts-cut bytes lines rest cut in
    let count : count_by is_line_end bytes ≡ length lines = omega (arith, length-slice_split is_line_end bytes, ap length parts, length_push lines rest) in
    ap (λ (n : ℕ). take n (slice_split is_line_end bytes)) count ∙ ap (take (length lines)) parts ∙ take_at lines (rest ∷ []) (length lines) refl

-- ---- and the rest

-- ended lines are none, or end with LF
last_end : (lines : List (List ℕ)) → (flat_map ended lines ≡ []) ⊎ ((front : List ℕ) × (flat_map ended lines ≡ front ++ (10 ∷ [])))
last_end [] = inl refl
last_end (line ∷ lines) = elim (last_end lines) [
  | inl none ↦ inr (line, ap (λ (b : List ℕ). (line ++ (10 ∷ [])) ++ b) none ∙ append-nil (line ++ (10 ∷ [])))
  | inr more ↦ inr ((line ++ (10 ∷ [])) ++ more.0, ap (λ (b : List ℕ). (line ++ (10 ∷ [])) ++ b) more.1 ∙ sym (append_assoc (line ++ (10 ∷ [])) more.0 (10 ∷ [])))
]

-- no byte is LF, so none at a place is
pub none_at : (bytes : List ℕ) (i : ℕ) → HasNoLineEnd bytes → i < length bytes → is_line_end (get_or bytes i 0) ≡ false
none_at [] i none within = absurd (omega arith)
none_at (byte ∷ bytes) zero none within = (or_parts (is_line_end byte) (list_any is_line_end bytes) none).0
none_at (byte ∷ bytes) (suc i) none within = none_at bytes i ((or_parts (is_line_end byte) (list_any is_line_end bytes) none).1) (omega arith)

last_is : (front rest : List ℕ) → ((front ≡ []) ⊎ ((start : List ℕ) × (front ≡ start ++ (10 ∷ [])))) → 0 < length front →
    not (is_line_end (get_or (front ++ rest) (length front - 1) 0)) ≡ false
last_is front rest (inl none) some = absurd (omega (arith, ap length none))
last_is front rest (inr (start, is)) some =
    let index : length front - 1 ≡ length start = omega (arith, ap length is, length_push start 10) in
    let end : get_or (front ++ rest) (length front - 1) 0 ≡ 10 =
    ap (λ (i : ℕ). get_or (front ++ rest) i 0) index ∙ ap (λ (b : List ℕ). get_or (b ++ rest) (length start) 0) is
    ∙ ap (λ (b : List ℕ). get_or b (length start) 0) (append_assoc start (10 ∷ []) rest) ∙ get_or_at start 10 rest 0 (length start) refl in
    ap (λ (b : ℕ). not (is_line_end b)) end

rest_after : (front rest : List ℕ) → ((front ≡ []) ⊎ ((start : List ℕ) × (front ≡ start ++ (10 ∷ [])))) → HasNoLineEnd rest → rest_in (front ++ rest) ≡ rest
rest_after front rest ends none =
    let long = length-append front rest in
    let same : suffix_len (λ b. not (is_line_end b)) (front ++ rest) ≡ length (front ++ rest) - length front =
    suffix_len_is (λ b. not (is_line_end b)) (front ++ rest) (length front) 0 (omega (arith, long))
    (λ k low high. ap not (ap is_line_end (get_or-append_right front rest (length front) k 0 refl low) ∙ none_at rest (k - length front) none (omega (arith, long))))
    (λ some. last_is front rest ends some) in
    let place : length (front ++ rest) - suffix_len (λ b. not (is_line_end b)) (front ++ rest) ≡ length front = omega (arith, long, same) in
    ap (λ (n : ℕ). drop n (front ++ rest)) place ∙ drop_at front rest (length front) refl

pub rest_is : (bytes : List ℕ) (lines : List (List ℕ)) (rest : List ℕ) → Cut bytes lines rest → rest_in bytes ≡ rest
rest_is bytes lines rest cut = ap rest_in cut.spelled ∙ rest_after (flat_map ended lines) rest (last_end lines) cut.last

-- ---- bytes can be cut

abbrev IsCut : List ℕ → Type 0
IsCut bytes = (lines : List (List ℕ)) × ((rest : List ℕ) × Cut bytes lines rest)

-- a byte that is no LF comes before the first line, or before the rest
cut_onto : (byte : ℕ) (bytes : List ℕ) (lines : List (List ℕ)) (rest : List ℕ) → Cut bytes lines rest → is_line_end byte ≡ false → IsCut (byte ∷ bytes)
cut_onto byte bytes [] rest cut none =
    ([], (byte ∷ rest, record { spelled = ap (λ (b : List ℕ). byte ∷ b) cut.spelled; each = tt; last = or_from _ _ none cut.last }))
cut_onto byte bytes (line ∷ lines) rest cut none =
    ((byte ∷ line) ∷ lines, (rest, record { spelled = ap (λ (b : List ℕ). byte ∷ b) cut.spelled; each = (or_from _ _ none cut.each.0, cut.each.1); last = cut.last }))

cut_more : (byte : ℕ) (bytes : List ℕ) (lines : List (List ℕ)) (rest : List ℕ) → Cut bytes lines rest → IsCut (byte ∷ bytes)
cut_more byte bytes lines rest cut = elim (cases_Bool (is_line_end byte)) [
  | inl end ↦ (
    [] ∷ lines,
    (
      rest,
      record {
        spelled = ap (λ (b : ℕ). b ∷ bytes) (eqb-true byte 10 end) ∙ ap (λ (b : List ℕ). 10 ∷ b) cut.spelled;
        each = (refl, cut.each);
        last =
            cut.last;
      },
    ),
  )
  | inr none ↦ cut_onto byte bytes lines rest cut none
]

some_cut : (bytes : List ℕ) → IsCut bytes
some_cut [] = ([], ([], record { spelled = refl; each = tt; last = refl }))
some_cut (byte ∷ bytes) = let before = some_cut bytes in cut_more byte bytes before.0 before.1.0 before.1.1

pub cut_of : (bytes : List ℕ) → Cut bytes (lines_in bytes) (rest_in bytes)
cut_of bytes =
    let some = some_cut bytes in
    subst (λ (ls : List (List ℕ)). Cut bytes ls (rest_in bytes)) (sym (lines_are bytes some.0 some.1.0 some.1.1))
    (subst (λ (r : List ℕ). Cut bytes some.0 r) (sym (rest_is bytes some.0 some.1.0 some.1.1)) some.1.1)

pub clear : ScriptsAreClear
clear = record {
  spelled = λ bytes. (cut_of bytes).spelled;
  each = λ bytes. (cut_of bytes).each;
  last = λ bytes. (cut_of bytes).last;
  one = λ bytes lines rest spelled each last.
      let cut : Cut bytes lines rest = record { spelled = spelled; each = each; last = last } in
      (sym (lines_are bytes lines rest cut), sym (rest_is bytes lines rest cut));
}

-- ---- the first line

-- a line that is ended comes before those of what follows
pub cut_first : (line rest : List ℕ) → HasNoLineEnd line → Cut (ended line ++ rest) (line ∷ lines_in rest) (rest_in rest)
cut_first line rest none =
    let cut = cut_of rest in
    record {
      spelled = ap (λ (b : List ℕ). ended line ++ b) cut.spelled ∙ sym (append_assoc (ended line) (flat_map ended (lines_in rest)) (rest_in rest));
      each = (none, cut.each);
      last = cut.last;
    }

pub lines_first : (line rest : List ℕ) → HasNoLineEnd line → lines_in (ended line ++ rest) ≡ line ∷ lines_in rest
lines_first line rest none = lines_are (ended line ++ rest) (line ∷ lines_in rest) (rest_in rest) (cut_first line rest none)

-- a first line that is ended is told in one way, and so is what follows
pub same_first : (line other rest more : List ℕ) → HasNoLineEnd line → HasNoLineEnd other → line ++ (10 ∷ rest) ≡ other ++ (10 ∷ more) → (line ≡ other) × (rest ≡ more)
same_first line other rest more none no_other same =
    let parts : line ∷ slice_split is_line_end rest ≡ other ∷ slice_split is_line_end more =
    sym (parts-line line rest none) ∙ ap (slice_split is_line_end) same ∙ parts-line other more no_other in
    let first : line ≡ other = cc in
    let after : 10 ∷ rest ≡ 10 ∷ more = append_cancel_left line (10 ∷ rest) (10 ∷ more) (same ∙ ap (λ (l : List ℕ). l ++ (10 ∷ more)) (sym first)) in
    let left : rest ≡ more = cc in
    (first, left)
