-- Words that are numbers.
use Rattle.backup_engine.proofs.Prelude.{◌≡◌, ℕ, ◌<◌, ◌^◌, Bool, true, false, List, [], ◌∷◌, length, None, Some, Result, Err, cond, refl, sym, arith, rules, is_number}
use Rattle.std.proofs.Common.{◌&&◌, nat_le}
use Rattle.std.specs.Str.Parse.{digits_value, IsNumeral, without_leading_plus}
use Rattle.std.proofs.lemmas.Bool.{false_from_ne_true, leb-true}
use Rattle.std.proofs.lemmas.Str.Parse.{IsNumeralModel, numerals_by_value, parse_digits}
use Rattle.disk_format.specs.declared.numbers.TheConstants.{LEAST_SLOTS, MOST_SLOTS}
use Rattle.backup_engine.specs.Line.{all_digits, begins_as_number, number_within, percent_of, slots_of}

pub digits_model : IsNumeralModel (λ ds. all_digits ds ≡ true) (digits_value 10)
digits_model = numerals_by_value (λ ds. all_digits ds ≡ true) (search rules)

pub and_left : (a b : Bool) → (a && b) ≡ true → a ≡ true
and_left true b e = refl
and_left false b e = cc

pub and_right : (a b : Bool) → (a && b) ≡ true → b ≡ true
and_right true b e = e
and_right false b e = cc

pub digits_of_number : (word : List ℕ) → is_number word ≡ true → all_digits word ≡ true
digits_of_number word number = and_left (all_digits word) (begins_as_number word) number

not_empty : (word : List ℕ) → begins_as_number word ≡ true → 0 < length word
not_empty [] begins = cc
not_empty (x ∷ xs) begins = omega arith

pub number_not_empty : (word : List ℕ) → is_number word ≡ true → 0 < length word
number_not_empty word number = not_empty word (and_right (all_digits word) (begins_as_number word) number)

-- the value of a word is not below so many bits
abbrev IsAbove : ℕ → List ℕ → Type 0
IsAbove bits word = (0 < length word) × (digits_value 10 word < 2 ^ bits) → ⊥

-- what a number that so many bits don't hold fails: to be at most some number that they hold
above : (bits : ℕ) (word : List ℕ) (most : ℕ) → most < 2 ^ bits → is_number word ≡ true → IsAbove bits word → nat_le (digits_value 10 word) most ≡ false
above bits word most fits number large =
    false_from_ne_true (nat_le (digits_value 10 word) most) (λ small. large (number_not_empty word number, omega (arith, fits, leb-true (digits_value 10 word) most small)))

last_false : {A : Type 0} (a b : Bool) (x : A) → cond (a && b && false) (Some x) None ≡ None
last_false true true x = refl
last_false true false x = refl
last_false false b x = refl

-- so it is none within limits
no_number : (bits least most : ℕ) (word : List ℕ) → most < 2 ^ bits → is_number word ≡ true → IsAbove bits word → None ≡ number_within least most word
no_number bits least most word fits number large =
    rw (above bits word most fits number large) (sym (last_false (is_number word) (nat_le least (digits_value 10 word)) (digits_value 10 word)))

-- and no percentage
no_percent : (word : List ℕ) → is_number word ≡ true → IsAbove 32 word → None ≡ percent_of word
no_percent word number large = rw (number, above 32 word 100 (omega arith) number large) refl

-- what `parse` says, of the word itself
module _ (bits : ℕ) (word : List ℕ) (number : is_number word ≡ true)
    (failed : IsNumeral 10 (without_leading_plus word) × (digits_value 10 (without_leading_plus word) < 2 ^ bits) → ⊥) where
  too_large : IsAbove bits word
  too_large = let failing : Result ℕ ℕ = Err 0 in parse_digits digits_model bits word failing failed (digits_of_number word number)

  pub no_number_parsed : (least most : ℕ) → most < 2 ^ bits → None ≡ number_within least most word
  no_number_parsed least most fits = no_number bits least most word fits number too_large

module _ (word : List ℕ) (number : is_number word ≡ true) (failed : IsNumeral 10 (without_leading_plus word) × (digits_value 10 (without_leading_plus word) < 2 ^ 32) → ⊥) where
  pub no_slots_parsed : None ≡ slots_of word
  no_slots_parsed = no_number_parsed 32 word number failed LEAST_SLOTS MOST_SLOTS (omega arith)

  pub no_percent_parsed : None ≡ percent_of word
  no_percent_parsed = no_percent word number (too_large 32 word number failed)
