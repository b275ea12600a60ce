use Rattle.std.proofs.Common.{◌≡◌, ℕ, ◌-◌, ◌+◌, ◌<◌, ◌≤◌, ◌/◌, length, get_or}
use Rattle.load_stream.specs.Load.{byte_of, word_bytes}
use Rattle.load_stream.proofs.stream.LoadStream.next_bytes.Given as goal

-- the first bytes are written, and the word at hand is that of the last of them
abbrev pub invariant-loop-i : goal.invariant-loop-i
invariant-loop-i l =
    ((j : ℕ) → j < l.i → get_or l.into j 0 ≡ byte_of l.fn.self.seed l.fn.self.file (l.fn.self.given + j))
    × ((j : ℕ) → l.i ≤ j → get_or l.into j 0 ≡ get_or l.initial.into j 0)
    × (length l.into ≡ length l.initial.into)
    × (1 ≤ l.i → l.word ≡ word_bytes l.fn.self.seed l.fn.self.file ((l.fn.self.given + l.i - 1) / 8))
