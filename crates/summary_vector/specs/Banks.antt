-- The bits of a summary of keys (docs/MODEL.md, 'The summary').
use Rattle.std.specs.Prelude.{ℕ, ◌+◌, ◌-◌, ◌%◌, ◌^◌, min, Bool, true, false, List, [], ◌∷◌, if◌then◌else◌, ◌==◌, ◌||◌}
use Rattle.std.specs.Int.{w32}
use Rattle.std.specs.List.{list_any}
use Rattle.base_model.specs.Bytes.{byte_at}
use Rattle.base_model.specs.Numbers.{number_at}

-- Two banks of so many bits, and the generation: bank 0 stands where it is even, bank 1 where it is odd.
pub record Banks : Type 0 where
  pub bits : ℕ
  pub generation : ℕ
  pub is_set : ℕ → ℕ → Bool

abbrev pub no_banks : Banks
no_banks = record { bits = 0; generation = 0; is_set = λ bank bit. false }

-- the numbers of the bits of a key: of the first four 32-bit numbers of its digest each, and the kind, modulo the bank's size
abbrev pub bloom_bits : ℕ → List ℕ → List ℕ
bloom_bits bits key =
    (number_at w32 1 key + byte_at 0 key) % bits
    ∷ (number_at w32 5 key + byte_at 0 key) % bits
    ∷ (number_at w32 9 key + byte_at 0 key) % bits
    ∷ (number_at w32 13 key + byte_at 0 key) % bits
    ∷ []

abbrev pub spare_bank : Banks → ℕ
spare_bank b = 1 - b.generation % 2

abbrev pub added : List ℕ → Banks → Banks
added key b = record b { is_set = λ bank bit. b.is_set bank bit || list_any (λ own. own == bit) (bloom_bits b.bits key) }

abbrev pub cleared : Banks → Banks
cleared b = record b { is_set = λ bank bit. if bank == spare_bank b then false else b.is_set bank bit }

abbrev pub flipped : Banks → Banks
flipped b = record b { generation = min (b.generation + 1) (2 ^ 64 - 1) }

-- where there is a summary
abbrev pub IfThere : Bool → Type 0 → Type 0
IfThere true P = P
IfThere false P = Unit {0}
