-- What the lines of a call say, and what their replies print.
use Rattle.std.specs.Prelude.{ℕ, List, [], ◌∷◌, ◌++◌}
use Rattle.script_lines.specs.Grammar.{LineValue}
use Rattle.script_lines.specs.ReplyText.{reply_line}
use Rattle.store_machine.specs.Commands.{Replied}

-- what was said, line by line
abbrev pub lines_of : List Replied → List LineValue
lines_of [] = []
lines_of (one ∷ more) = one.line ∷ lines_of more

-- the replies, printed one after the other
abbrev pub printed : List Replied → List ℕ
printed [] = []
printed (one ∷ more) = reply_line one.reply ++ printed more
