-- The bytes of generated files (docs/FORMAT.md, 'Generated files').
use Rattle.std.specs.Prelude.{ℕ, ◌+◌, ◌*◌, ◌/◌, ◌%◌, ◌^◌, ◌==◌, if◌then◌else◌, List, get_or, bit_xor}
use Rattle.std.specs.Int.{w64, to_be_bytes}
use Rattle.rand_xoshiro.specs.SplitMix64.{mix_u64}
use Rattle.load_stream.specs.declared.stream.TheConstants.{BLOCK_WORDS}

-- where the words of a block come from: those of even blocks from one source for all files, the others from the file's own
abbrev pub source_of : (file block : ℕ) → ℕ
source_of file block = if block % 2 == 0 then 0 else (file + 1) % 2 ^ 64

-- the state of the generator (SplitMix64) before a word
abbrev pub state_of : (seed file word : ℕ) → ℕ
state_of seed file word = (bit_xor seed (source_of file (word / BLOCK_WORDS) * 2 ^ 48 % 2 ^ 64) + word * 0x9E3779B97F4A7C15) % 2 ^ 64

abbrev pub word_of : (seed file word : ℕ) → ℕ
word_of seed file word = (mix_u64 (state_of seed file word)).0

-- its bytes in a file
unfoldable pub word_bytes : (seed file word : ℕ) → List ℕ
word_bytes seed file word = to_be_bytes w64 (word_of seed file word)

-- a byte of a file: its words stand one after the other
abbrev pub byte_of : (seed file at : ℕ) → ℕ
byte_of seed file at = get_or (word_bytes seed file (at / 8)) (at % 8) 0

-- a file that is given in pieces, and how much of it was
pub record LoadState : Type 0 where
  pub seed : ℕ
  pub file : ℕ
  pub length : ℕ
  pub given : ℕ
