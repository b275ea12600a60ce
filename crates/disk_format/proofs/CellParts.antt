-- The parts of a cell.
use Rattle.std.proofs.Common.{◌≡◌, ℕ, ◌-◌, List, [], ◌∷◌, ◌++◌, length, refl, sym, ◌∙◌, ap, arith, length-append}
use Rattle.std.proofs.lemmas.List.{take_all}
use Rattle.std.specs.Int.{w64, to_be_bytes}
use Rattle.sha2.specs.Sha256.{sha256}
use Rattle.sha2.proofs.Facts256.{length-sha256}
use Rattle.base_model.specs.Bytes.{range, byte_at}
use Rattle.base_model.proofs.Ranges.{length-zeros, range-join, range-one, range-whole, range-first, range-second}
use Rattle.disk_format.specs.Cells.{sealed, format_fields, SelectorValue, selector_fields, Root}

pub gate-sealed : (gate : ℕ) (fields : List ℕ) → byte_at 0 (sealed gate fields) ≡ gate
unfolding sealed
gate-sealed gate fields = refl

pub length-sealed : (gate : ℕ) (fields : List ℕ) → length fields ≡ 479 → length (sealed gate fields) ≡ 512
unfolding sealed
length-sealed gate fields long = omega (arith, length-append fields (sha256 fields), length-sha256 fields)

pub length-format_fields : (slots : ℕ) → length (format_fields slots) ≡ 479
unfolding format_fields
length-format_fields slots = omega (arith, length-zeros 464)

pub length-selector_fields : (s : SelectorValue) → length (selector_fields s) ≡ 479
unfolding selector_fields
length-selector_fields s = omega (arith, length-zeros 451)

module _ (name : List ℕ) (root : Root) where
  -- what stands before the digest, without the gate
  front : List ℕ
  front = (1 ∷ length name ∷ []) ++ to_be_bytes w64 1 ++ to_be_bytes w64 root.length ++ (root.level ∷ [])

-- ---- a cell by its parts

pub record Sealed (gate : ℕ) (fields cell : List ℕ) : Type 0 where
  pub gate_is : byte_at 0 cell ≡ gate
  pub fields_are : range 1 479 cell ≡ fields
  pub digest_is : range 480 32 cell ≡ sha256 fields

pub sealed_from_parts : (gate : ℕ) (fields cell : List ℕ) → length cell ≡ 512 → Sealed gate fields cell → cell ≡ sealed gate fields
unfolding sealed
sealed_from_parts gate fields cell long p =
    let a : range 0 480 cell ≡ gate ∷ fields =
    sym (range-join 0 1 479 1 cell refl) ∙ ap (λ (l : List ℕ). l ++ range 1 479 cell) (range-one 0 cell (omega arith) ∙ ap (λ (b : ℕ). b ∷ []) p.gate_is)
    ∙ ap (λ (l : List ℕ). gate ∷ l) p.fields_are in
    sym (range-whole 512 cell long) ∙ sym (range-join 0 480 32 480 cell refl) ∙ ap (λ (l : List ℕ). l ++ range 480 32 cell) a ∙ ap (λ (l : List ℕ). (gate ∷ fields) ++ l)
    p.digest_is

after_gate : (gate : ℕ) (fields : List ℕ) → length fields ≡ 479 → range 1 479 (gate ∷ fields) ≡ fields
unfolding range
after_gate gate fields long = take_all 479 fields (omega (arith, long))

pub parts_of_sealed : (gate : ℕ) (fields cell : List ℕ) → length fields ≡ 479 → cell ≡ sealed gate fields → Sealed gate fields cell
unfolding sealed
parts_of_sealed gate fields cell long is =
    let front : length (gate ∷ fields) ≡ 480 = omega (arith, long) in
    record {
      gate_is = ap (byte_at 0) is;
      fields_are = ap (range 1 479) is ∙ range-first 1 479 (gate ∷ fields) (sha256 fields) (omega (arith, front)) ∙ after_gate gate fields long;
      digest_is = ap (range 480 32) is ∙ range-second 0 32 480 480 (gate ∷ fields) (sha256 fields) front refl ∙ range-whole 32 (sha256 fields) (length-sha256 fields);
    }
