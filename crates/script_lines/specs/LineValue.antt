-- What a line that was read says.
use Rattle.script_lines.specs.declared.line.Line.{Line}
use Rattle.script_lines.specs.declared.line.Line.TheVariants.{Begin, Push, Finish, Turn, Commit, Abort, Read, Next, Drop, Delete, List, Gc, Step, Sweep, Stat, Unique, Reopen}
use Rattle.script_lines.specs.Grammar as grammar

abbrev pub line_value : Line → grammar.LineValue
line_value (Begin actor) = grammar.Begin actor
line_value (Push actor digits) = grammar.Push actor digits.now
line_value (Finish actor) = grammar.Finish actor
line_value (Turn actor) = grammar.Turn actor
line_value (Commit actor name) = grammar.Commit actor name.now
line_value (Abort actor) = grammar.Abort actor
line_value (Read actor name) = grammar.Read actor name.now
line_value (Next actor) = grammar.Next actor
line_value (Drop actor) = grammar.Drop actor
line_value (Delete name) = grammar.Delete name.now
line_value List = grammar.ListNames
line_value (Gc percent) = grammar.Gc percent
line_value Step = grammar.GcStep
line_value Sweep = grammar.Sweep
line_value Stat = grammar.Stat
line_value Unique = grammar.Unique
line_value Reopen = grammar.Reopen
