-- Numbers below 100, in decimal: those of actors, and with 100 the percentages.
use Rattle.std.proofs.Common.{◌≡◌, ℕ, ◌<◌, ◌≤◌, ◌+◌, ◌*◌, ◌/◌, ◌%◌, ◌-◌, ◌≢◌, Bool, true, false, cond, ◌&&◌, ltb, eqb, List, [], ◌∷◌, ◌++◌, codes, decimal, length, IfSome, IfNone, Option, Some, None, ◌⊎◌, inl, inr, refl, sym, ◌∙◌, ap, subst, arith}
use Rattle.std.specs.Char.{is_ascii_digit}
use Rattle.std.specs.Str.{bytes_eq}
use Rattle.std.specs.Str.Parse.{digits_value}
use Rattle.std.proofs.lemmas.Bool.{ne_eqb, or_from, cases_lt, ltb-true, lt-ltb, and_parts, false≢true}
use Rattle.std.proofs.lemmas.Bool.Decides.{nat_tests}
use Rattle.std.proofs.lemmas.Fmt.{decimal_digit, decimal_step, decimal_is_IsNumeral}
use Rattle.std.proofs.lemmas.Slice.Eq.{bytes_eq-Decides}
use Rattle.script_lines.specs.Grammar.{IsActor, IsPercent, HasNoSpace}
use Rattle.script_lines.specs.Script.{HasNoLineEnd}

-- a digit, as its range
digit_range : (byte : ℕ) → is_ascii_digit byte ≡ true → (48 ≤ byte) × (byte ≤ 57)
digit_range byte digit = grind (arith, nat_tests)

range_digit : (byte : ℕ) → 48 ≤ byte → byte ≤ 57 → is_ascii_digit byte ≡ true
range_digit byte low high = grind (arith, nat_tests)

-- one digit, or two of which the first is no zero
pub one_digit : (n : ℕ) → n < 10 → decimal n ≡ (48 + n) ∷ []
one_digit n small = decimal_digit n small

pub two_digits : (n : ℕ) → 10 ≤ n → n < 100 → decimal n ≡ (48 + n / 10) ∷ (48 + n % 10) ∷ []
two_digits n low high =
    decimal_step n low (omega arith) ∙ ap (λ (t : List ℕ). t ++ ((48 + n % 10) ∷ [])) (decimal_digit (n / 10) (omega arith))

no_space : (byte : ℕ) → 48 ≤ byte → eqb byte 32 ≡ false
no_space byte digit = ne_eqb byte 32 (λ is. omega arith)

pub number_has_no_space : (n : ℕ) → n < 100 → HasNoSpace (decimal n)
number_has_no_space n small =
    elim (cases_lt n 10) [
      | inr low ↦ rw (two_digits n low (omega arith)) (or_from _ _ (no_space (48 + n / 10) (omega arith)) (or_from _ _ (no_space (48 + n % 10) (omega arith)) refl))
      | inl one ↦ rw (one_digit n (omega arith)) (or_from _ _ (no_space (48 + n) (omega arith)) refl)
    ]

no_line_end : (byte : ℕ) → 48 ≤ byte → eqb byte 10 ≡ false
no_line_end byte digit = ne_eqb byte 10 (λ is. omega arith)

pub number_has_no_line_end : (n : ℕ) → n < 100 → HasNoLineEnd (decimal n)
number_has_no_line_end n small =
    elim (cases_lt n 10) [
      | inr low ↦ rw (two_digits n low (omega arith)) (or_from _ _ (no_line_end (48 + n / 10) (omega arith)) (or_from _ _ (no_line_end (48 + n % 10) (omega arith)) refl))
      | inl one ↦ rw (one_digit n (omega arith)) (or_from _ _ (no_line_end (48 + n) (omega arith)) refl)
    ]

-- the number of a word, where it is below the limit
abbrev number_in : ℕ → List ℕ → Option ℕ
number_in limit word = cond (ltb (digits_value 10 word) limit && bytes_eq word (decimal (digits_value 10 word))) (Some (digits_value 10 word)) None

chosen_none : (test : Bool) (n : ℕ) → (test ≡ true → ⊥) → cond test (Some n) None ≡ None
chosen_none true n never = absurd (never refl)
chosen_none false n never = refl

number_is : (limit n : ℕ) → limit ≤ 101 → n < limit → number_in limit (decimal n) ≡ Some n
number_is limit n most small =
    let value = (decimal_is_IsNumeral n (omega arith)).1 in
    rw (value, lt-ltb n limit small, (bytes_eq-Decides (decimal n) (decimal n)).1 refl) refl

number_none : (limit : ℕ) (word : List ℕ) → ((n : ℕ) → n < limit → word ≡ decimal n → ⊥) → number_in limit word ≡ None
number_none limit word none =
    chosen_none _ (digits_value 10 word) (λ passed.
    let parts = and_parts _ _ passed in
    none (digits_value 10 word) (ltb-true _ _ parts.0) ((bytes_eq-Decides word (decimal (digits_value 10 word))).0 parts.1))

-- the actor of a word, where it is one's number
abbrev pub actor_in : List ℕ → Option ℕ
actor_in = number_in 64

pub actor_is : (n : ℕ) → IsActor n → actor_in (decimal n) ≡ Some n
actor_is n actor = number_is 64 n (omega arith) actor

pub actor_none : (word : List ℕ) → ((n : ℕ) → IsActor n → word ≡ decimal n → ⊥) → actor_in word ≡ None
actor_none word none = number_none 64 word none

-- the percentage of a word, where it is one's number
abbrev pub percent_in : List ℕ → Option ℕ
percent_in = number_in 101

pub percent_is : (n : ℕ) → IsPercent n → percent_in (decimal n) ≡ Some n
percent_is n is = number_is 101 n (omega arith) (omega (arith, is))

pub percent_none : (word : List ℕ) → ((n : ℕ) → IsPercent n → word ≡ decimal n → ⊥) → percent_in word ≡ None
percent_none word none = number_none 101 word (λ n below. none n (omega (arith, below)))

-- the number of one digit
pub spelled_one : (ones : ℕ) → is_ascii_digit ones ≡ true → ones ∷ [] ≡ decimal (ones - 48)
spelled_one ones digit =
    let range = digit_range ones digit in
    sym (one_digit (ones - 48) (omega arith) ∙ ap (λ (b : ℕ). b ∷ []) (omega arith))

pub one_below : (ones : ℕ) → is_ascii_digit ones ≡ true → ones - 48 < 100
one_below ones digit = let range = digit_range ones digit in omega (arith, range.1)

-- that of two
pub spelled_two : (tens ones : ℕ) → is_ascii_digit tens ≡ true → tens ≢ 48 → is_ascii_digit ones ≡ true → tens ∷ ones ∷ [] ≡ decimal (10 * (tens - 48) + (ones - 48))
spelled_two tens ones first some second =
    let upper = digit_range tens first in
    let lower = digit_range ones second in
    let n = 10 * (tens - 48) + (ones - 48) in
    let front : 48 + n / 10 ≡ tens = omega arith in
    let last : 48 + n % 10 ≡ ones = omega arith in
    sym (two_digits n (omega arith) (omega arith) ∙ ap (λ (b : ℕ). b ∷ (48 + n % 10) ∷ []) front ∙ ap (λ (b : ℕ). tens ∷ b ∷ []) last)

pub two_below : (tens ones : ℕ) → is_ascii_digit tens ≡ true → is_ascii_digit ones ≡ true → 10 * (tens - 48) + (ones - 48) < 100
two_below tens ones first second =
    let upper = digit_range tens first in
    let lower = digit_range ones second in
    omega (arith, upper.1, lower.1)

-- a number of one digit
pub one_is : (n ones : ℕ) → n < 100 → ones ∷ [] ≡ decimal n → is_ascii_digit ones ≡ true
one_is n ones small spelled =
    elim (cases_lt n 10) [
      | inr low ↦ let is = spelled ∙ two_digits n low (omega arith) in cc
      | inl one ↦ let is = spelled ∙ one_digit n one in let same : ones ≡ 48 + n = cc in range_digit ones (omega arith) (omega arith)
    ]

-- a number of two
pub two_is : (n tens ones : ℕ) → n < 100 → tens ∷ ones ∷ [] ≡ decimal n
    → (is_ascii_digit tens ≡ true) × (tens ≢ 48) × (is_ascii_digit ones ≡ true) × (n ≡ 10 * (tens - 48) + (ones - 48))
two_is n tens ones small spelled =
    elim (cases_lt n 10) [
      | inr low ↦
          let is = spelled ∙ two_digits n low (omega arith) in
          let front : tens ≡ 48 + n / 10 = cc in
          let last : ones ≡ 48 + n % 10 = cc in
          (range_digit tens (omega arith) (omega arith), (λ zero. omega arith), range_digit ones (omega arith) (omega arith), omega arith)
      | inl one ↦ let is = spelled ∙ one_digit n one in cc
    ]

-- a number has one digit or two
pub length_number : (n : ℕ) → n < 100 → (length (decimal n) ≡ 1) ⊎ (length (decimal n) ≡ 2)
length_number n small =
    elim (cases_lt n 10) [
      | inr low ↦ inr (ap length (two_digits n low (omega arith)))
      | inl one ↦ inl (ap length (one_digit n one))
    ]

pub length_is : (n : ℕ) (word : List ℕ) → n < 100 → word ≡ decimal n → (1 ≤ length word) × (length word ≤ 2)
length_is n word small is =
    let same = ap length is in
    elim (length_number n small) [ inl one ↦ (omega arith, omega arith) | inr two ↦ (omega arith, omega arith) ]

-- what is made of a number below a limit
pub made_is : (test : Bool) (made : Option ℕ) (P : ℕ → Type 0) (n : ℕ) (text : List ℕ) → made ≡ cond test (Some n) None → (test ≡ true → P n) → text ≡ decimal n
    → IfSome made (λ m. P m × (text ≡ decimal m))
made_is true made P n text is small spelled = rw is (small refl, spelled)
made_is false made P n text is small spelled = rw is tt

pub made_not : (test : Bool) (made : Option ℕ) (P : ℕ → Type 0) (n : ℕ) (text : List ℕ) → made ≡ cond test (Some n) None → (P n → test ≡ true) →
    ((m : ℕ) → P m → text ≡ decimal m → m ≡ n)
    → IfNone made ((m : ℕ) → P m → text ≡ decimal m → ⊥)
made_not true made P n text is small same = rw is tt
made_not false made P n text is small same =
    rw is (λ m below spelled. absurd (false≢true (small (subst P (same m below spelled) below))))

-- a text is that of one number
pub one_number : (m n : ℕ) → decimal m ≡ decimal n → m < 101 → n < 101 → m ≡ n
one_number m n same small too =
    let first = (decimal_is_IsNumeral m (omega arith)).1 in
    let second = (decimal_is_IsNumeral n (omega arith)).1 in
    sym first ∙ ap (digits_value 10) same ∙ second

-- ---- percentages

hundred : codes "100" ≡ decimal 100
hundred = sym (decimal_step 100 (omega arith) (omega arith) ∙ ap (λ (t : List ℕ). t ++ (48 ∷ [])) (two_digits 10 (omega arith) (omega arith)))

-- what is made of its text, and of a text that is none of a number below it
pub hundred_made : (made : Option ℕ) (word : List ℕ) → made ≡ Some 100 → true ≡ bytes_eq word (codes "100") → IfSome made (λ p. IsPercent p × (word ≡ decimal p))
hundred_made made word is same = rw is (omega arith, (bytes_eq-Decides word (codes "100")).0 (sym same) ∙ hundred)

pub no_percent : (word : List ℕ) → false ≡ bytes_eq word (codes "100") → ((n : ℕ) → n < 100 → word ≡ decimal n → ⊥) → (n : ℕ) → IsPercent n → word ≡ decimal n → ⊥
no_percent word other below n is spelled =
    elim (cases_lt n 100) [
      | inl small ↦ below n small spelled
      | inr most ↦
          let same : n ≡ 100 = omega (arith, is) in
          false≢true (other ∙ (bytes_eq-Decides word (codes "100")).1 (spelled ∙ ap decimal same ∙ sym hundred))
    ]

pub percent_has_no_line_end : (n : ℕ) → IsPercent n → HasNoLineEnd (decimal n)
percent_has_no_line_end n is =
    elim (cases_lt n 100) [
      | inl small ↦ number_has_no_line_end n small
      | inr most ↦ let same : n ≡ 100 = omega (arith, is) in subst (λ (m : ℕ). HasNoLineEnd (decimal m)) (sym same) (subst HasNoLineEnd hundred refl)
    ]
