use Rattle.std.proofs.Common.{take}
use Rattle.script_lines.specs.Grammar.{HasNoSpace}
use Rattle.script_lines.proofs.words.split_word.Given as goal

-- no space stands before the index
abbrev pub invariant-loop-index : goal.invariant-loop-index
invariant-loop-index l = HasNoSpace (take l.index l.bytes)
