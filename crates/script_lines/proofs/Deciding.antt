-- Whether bytes are a right line can be told, and no byte of a right line is LF.
use Rattle.std.proofs.Common.{◌≡◌, ℕ, ◌≤◌, ◌%◌, ◌⊎◌, inl, inr, Bool, true, false, not, List, [], ◌∷◌, ◌++◌, length, codes, decimal, Option, Some, None, refl, sym, ◌∙◌, ap, subst, arith}
use Rattle.std.specs.Char.{is_ascii_hexdigit}
use Rattle.std.specs.List.{list_all, AllByRecursion, AllZip}
use Rattle.std.proofs.lemmas.Bool.{cases_Bool, cases_eq, cases_lt, both_ways, false≢true, and_parts, or_from, not-true, ne_eqb}
use Rattle.std.proofs.lemmas.List.Folds.{list_any-append}
use Rattle.std.proofs.lemmas.Slice.Eq.{bytes_eq-Decides}
use Rattle.std.specs.Str.{bytes_eq}
use Rattle.script_lines.specs.declared.script.TheConstants.{MOST_LINE}
use Rattle.script_lines.specs.Grammar.{LineValue, Begin, Push, Finish, Turn, Commit, Abort, Read, Next, Drop, Delete, ListNames, Gc, GcStep, Sweep, Stat, Unique, Reopen, IsLine, IsActor, IsPercent, IsHex, IsWord, is_word_byte}
use Rattle.script_lines.specs.Script.{is_line_end, HasNoLineEnd, IsRightLine}
use Rattle.script_lines.proofs.Numbers.{number_has_no_line_end, percent_has_no_line_end}
use Rattle.script_lines.proofs.Reading.{line_of, same_line, no_line, no_other_line}

-- ---- no byte of a line is LF

pub none_append : (front rest : List ℕ) → HasNoLineEnd front → HasNoLineEnd rest → HasNoLineEnd (front ++ rest)
none_append front rest first second = list_any-append is_line_end front rest ∙ or_from _ _ first second

digit_is_no_end : (byte : ℕ) → is_ascii_hexdigit byte ≡ true → is_line_end byte ≡ false
digit_is_no_end byte digit = ne_eqb byte 10 (λ is. false≢true (ap is_ascii_hexdigit (sym is) ∙ digit))

digits_have_none : (digits : List ℕ) → list_all is_ascii_hexdigit digits ≡ true → HasNoLineEnd digits
digits_have_none [] each = refl
digits_have_none (digit ∷ digits) each =
    let parts = and_parts (is_ascii_hexdigit digit) (list_all is_ascii_hexdigit digits) each in
    or_from _ _ (digit_is_no_end digit parts.0) (digits_have_none digits parts.1)

name_has_none : (name : List ℕ) → list_all is_word_byte name ≡ true → HasNoLineEnd name
name_has_none [] each = refl
name_has_none (byte ∷ name) each =
    let parts = and_parts (is_word_byte byte) (list_all is_word_byte name) each in
    or_from _ _ (not-true (is_line_end byte) ((and_parts _ (not (is_line_end byte)) parts.0).1)) (name_has_none name parts.1)

two_have_none : (word line : List ℕ) (actor : ℕ) → HasNoLineEnd word → IsActor actor → line ≡ word ++ decimal actor → HasNoLineEnd line
two_have_none word line actor none small is = subst HasNoLineEnd (sym is) (none_append word (decimal actor) none (number_has_no_line_end actor (omega (arith, small))))

three_have_none : (word line argument : List ℕ) (actor : ℕ) → HasNoLineEnd word → IsActor actor → HasNoLineEnd argument → line ≡ word ++ decimal actor ++ codes " " ++ argument →
    HasNoLineEnd line
three_have_none word line argument actor none small last is =
    subst HasNoLineEnd (sym is) (none_append (word ++ decimal actor ++ codes " ") argument
    (none_append (word ++ decimal actor) (codes " ") (none_append word (decimal actor) none (number_has_no_line_end actor (omega (arith, small)))) refl) last)

line_has_none : (value : LineValue) (line : List ℕ) → IsLine value line → HasNoLineEnd line
line_has_none (Begin a) line is = two_have_none (codes "begin ") line a refl is.0 is.1
line_has_none (Push a digits) line is = three_have_none (codes "push ") line digits a refl is.0 (digits_have_none digits is.1.each) is.2
line_has_none (Finish a) line is = two_have_none (codes "finish ") line a refl is.0 is.1
line_has_none (Turn a) line is = two_have_none (codes "turn ") line a refl is.0 is.1
line_has_none (Commit a name) line is = three_have_none (codes "commit ") line name a refl is.0 (name_has_none name is.1.each) is.2
line_has_none (Abort a) line is = two_have_none (codes "abort ") line a refl is.0 is.1
line_has_none (Read a name) line is = three_have_none (codes "read ") line name a refl is.0 (name_has_none name is.1.each) is.2
line_has_none (Next a) line is = two_have_none (codes "next ") line a refl is.0 is.1
line_has_none (Drop a) line is = two_have_none (codes "drop ") line a refl is.0 is.1
line_has_none (Delete name) line is = subst HasNoLineEnd (sym is.1) (none_append (codes "delete ") name refl (name_has_none name is.0.each))
line_has_none ListNames line is = subst HasNoLineEnd (sym is) refl
line_has_none (Gc percent) line is = subst HasNoLineEnd (sym is.1) (none_append (codes "gc ") (decimal percent) refl (percent_has_no_line_end percent is.0))
line_has_none GcStep line is = subst HasNoLineEnd (sym is) refl
line_has_none Sweep line is = subst HasNoLineEnd (sym is) refl
line_has_none Stat line is = subst HasNoLineEnd (sym is) refl
line_has_none Unique line is = subst HasNoLineEnd (sym is) refl
line_has_none Reopen line is = subst HasNoLineEnd (sym is) refl

pub right_has_none : (value : LineValue) (line : List ℕ) → IsRightLine value line → HasNoLineEnd line
right_has_none value line right = line_has_none value line right.is_line

pub rights_have_none : (values : List LineValue) (lines : List (List ℕ)) → AllZip IsRightLine values lines → AllByRecursion HasNoLineEnd lines
rights_have_none [] [] right = tt
rights_have_none [] (line ∷ lines) right = absurd right
rights_have_none (value ∷ values) [] right = absurd right
rights_have_none (value ∷ values) (line ∷ lines) right = (right_has_none value line right.0, rights_have_none values lines right.1)

pub same_right : (value other : LineValue) (line : List ℕ) → IsRightLine value line → IsRightLine other line → value ≡ other
same_right value other line first second = same_line line value other first.is_line second.is_line

-- a value has one line
one_line : (value : LineValue) (line other : List ℕ) → IsLine value line → IsLine value other → line ≡ other
one_line (Begin a) line other is too = is.1 ∙ sym too.1
one_line (Push a digits) line other is too = is.2 ∙ sym too.2
one_line (Finish a) line other is too = is.1 ∙ sym too.1
one_line (Turn a) line other is too = is.1 ∙ sym too.1
one_line (Commit a name) line other is too = is.2 ∙ sym too.2
one_line (Abort a) line other is too = is.1 ∙ sym too.1
one_line (Read a name) line other is too = is.2 ∙ sym too.2
one_line (Next a) line other is too = is.1 ∙ sym too.1
one_line (Drop a) line other is too = is.1 ∙ sym too.1
one_line (Delete name) line other is too = is.1 ∙ sym too.1
one_line ListNames line other is too = is ∙ sym too
one_line (Gc percent) line other is too = is.1 ∙ sym too.1
one_line GcStep line other is too = is ∙ sym too
one_line Sweep line other is too = is ∙ sym too
one_line Stat line other is too = is ∙ sym too
one_line Unique line other is too = is ∙ sym too
one_line Reopen line other is too = is ∙ sym too

pub one_list : (values : List LineValue) (lines others : List (List ℕ)) → AllZip IsRightLine values lines → AllZip IsRightLine values others → lines ≡ others
one_list [] [] [] is too = refl
one_list [] [] (other ∷ others) is too = absurd too
one_list [] (line ∷ lines) others is too = absurd is
one_list (value ∷ values) [] others is too = absurd is
one_list (value ∷ values) (line ∷ lines) [] is too = absurd too
one_list (value ∷ values) (line ∷ lines) (other ∷ others) is too =
    let first = one_line value line other is.0.is_line too.0.is_line in
    let after = one_list values lines others is.1 too.1 in
    cc

-- ---- it can be told

abbrev IsOrNot : Type 0 → Type 0
IsOrNot P = P ⊎ (P → ⊥)

both : {P Q : Type 0} → IsOrNot P → IsOrNot Q → IsOrNot (P × Q)
both (inl p) (inl q) = inl (p, q)
both (inl p) (inr not_q) = inr (λ is. not_q is.1)
both (inr not_p) q = inr (λ is. not_p is.0)

all_three : {P Q R : Type 0} → IsOrNot P → IsOrNot Q → IsOrNot R → IsOrNot (P × Q × R)
all_three (inl p) (inl q) (inl r) = inl (p, q, r)
all_three (inl p) (inl q) (inr not_r) = inr (λ is. not_r is.2)
all_three (inl p) (inr not_q) r = inr (λ is. not_q is.1)
all_three (inr not_p) q r = inr (λ is. not_p is.0)

passes : (test : Bool) → IsOrNot (test ≡ true)
passes test = elim (cases_Bool test) [ inl is ↦ inl is | inr fails ↦ inr (λ is. both_ways test fails is) ]

at_most : (m n : ℕ) → IsOrNot (m ≤ n)
at_most m n = elim (cases_lt n m) [ inl less ↦ inr (λ is. omega arith) | inr is ↦ inl is ]

same_bytes : (bytes other : List ℕ) → IsOrNot (bytes ≡ other)
same_bytes bytes other =
    let test = bytes_eq-Decides bytes other in
    elim (cases_Bool (bytes_eq bytes other)) [ inl is ↦ inl (test.0 is) | inr fails ↦ inr (λ is. both_ways _ fails (test.1 is)) ]

actor : (number : ℕ) → IsOrNot (IsActor number)
actor number = elim (cases_lt number 64) [ inl is ↦ inl is | inr more ↦ inr (λ is. omega arith) ]

percent : (number : ℕ) → IsOrNot (IsPercent number)
percent number = at_most number 100

hex : (digits : List ℕ) → IsOrNot (IsHex digits)
hex digits = elim (all_three (at_most 2 (length digits)) (cases_eq (length digits % 2) 0) (passes (list_all is_ascii_hexdigit digits))) [
  | inl is ↦ inl (record { some = is.0; even = is.1; each = is.2 })
  | inr never ↦ inr (λ is. never (is.some, is.even, is.each))
]

word : (name : List ℕ) → IsOrNot (IsWord name)
word name = elim (both (at_most 1 (length name)) (passes (list_all is_word_byte name))) [
  | inl is ↦ inl (record { some = is.0; each = is.1 })
  | inr never ↦ inr (λ is. never (is.some, is.each))
]

line_or_not : (value : LineValue) (line : List ℕ) → IsOrNot (IsLine value line)
line_or_not (Begin a) line = both (actor a) (same_bytes line _)
line_or_not (Push a digits) line = all_three (actor a) (hex digits) (same_bytes line _)
line_or_not (Finish a) line = both (actor a) (same_bytes line _)
line_or_not (Turn a) line = both (actor a) (same_bytes line _)
line_or_not (Commit a name) line = all_three (actor a) (word name) (same_bytes line _)
line_or_not (Abort a) line = both (actor a) (same_bytes line _)
line_or_not (Read a name) line = all_three (actor a) (word name) (same_bytes line _)
line_or_not (Next a) line = both (actor a) (same_bytes line _)
line_or_not (Drop a) line = both (actor a) (same_bytes line _)
line_or_not (Delete name) line = both (word name) (same_bytes line _)
line_or_not ListNames line = same_bytes line _
line_or_not (Gc p) line = both (percent p) (same_bytes line _)
line_or_not GcStep line = same_bytes line _
line_or_not Sweep line = same_bytes line _
line_or_not Stat line = same_bytes line _
line_or_not Unique line = same_bytes line _
line_or_not Reopen line = same_bytes line _

found_or_not : (line : List ℕ) (found : Option LineValue) → line_of line ≡ found → ((value : LineValue) × IsLine value line) ⊎ ((value : LineValue) → IsLine value line → ⊥)
found_or_not line None is = inr (no_line line is)
found_or_not line (Some value) is = elim (line_or_not value line) [ inl line_is ↦ inl (value, line_is) | inr never ↦ inr (no_other_line line value is never) ]

pub right_or_not : (line : List ℕ) → ((value : LineValue) × IsRightLine value line) ⊎ ((value : LineValue) → ¬ (IsRightLine value line))
right_or_not line = elim (at_most (length line) MOST_LINE) [
  | inl short ↦ elim (found_or_not line (line_of line) refl) [
    | inl is ↦ inl (is.0, record { short = short; is_line = is.1 })
    | inr never ↦ inr (λ value is. never value is.is_line)
  ]
  | inr long ↦ inr (λ value is. long is.short)
]
