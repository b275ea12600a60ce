-- The digits of a push can be decoded.
use Rattle.std.proofs.Common.{◌≡◌, ℕ, ◌*◌, Bool, true, false, cond, ◌||◌, List, [], ◌∷◌, length, Some, None, is_some, IsOk, refl, ◌∙◌}
use Rattle.std.specs.List.{list_all}
use Rattle.std.specs.Char.{is_ascii_hexdigit}
use Rattle.std.specs.Int.{is_in_range}
use Rattle.std.proofs.lemmas.List.Sums.{AllPass-from_list_all}
use Rattle.hex.specs.Hex.{is_hex_digit, decode_sized}
use Rattle.hex.proofs.HexLemmas.{IsOk-decode_sized}
use Rattle.script_lines.specs.Grammar.{IsHex}

same_tests : (upper lower digit : Bool) (x y z : ℕ) → is_some (cond upper (Some x) (cond lower (Some y) (cond digit (Some z) None))) ≡ ((digit || upper) || lower)
same_tests true true true x y z = refl
same_tests true true false x y z = refl
same_tests true false true x y z = refl
same_tests true false false x y z = refl
same_tests false true true x y z = refl
same_tests false true false x y z = refl
same_tests false false true x y z = refl
same_tests false false false x y z = refl

same_digit : (c : ℕ) → is_hex_digit c ≡ is_ascii_hexdigit c
same_digit c = same_tests (is_in_range 65 70 c) (is_in_range 97 102 c) (is_in_range 48 57 c) _ _ _

same_digits : (digits : List ℕ) → list_all is_hex_digit digits ≡ list_all is_ascii_hexdigit digits
same_digits [] = refl
same_digits (digit ∷ digits) = rw (same_digit digit, same_digits digits) refl

-- into room for half as many bytes as there are digits
pub decodes : (digits : List ℕ) (count : ℕ) → IsHex digits → length digits ≡ 2 * count → IsOk (decode_sized digits count)
decodes digits count hex room = (IsOk-decode_sized digits count).1 (room, AllPass-from_list_all is_hex_digit digits (same_digits digits ∙ hex.each))
