use Rattle.std.proofs.Common.{◌≡◌, ◌++◌, map, take}
use Rattle.std.specs.List.{flat_map}
use Rattle.namespace.specs.Listing.{listed_value}
use Rattle.reply_text.specs.Text.{file_line}
use Rattle.reply_text.proofs.text.add_file_lines.Given as goal

-- the lines of the names before the index were added
abbrev pub invariant-loop-named : goal.invariant-loop-named
invariant-loop-named l = l.text.items ≡ l.fn.text.items ++ flat_map file_line (map listed_value (take l.named-index l.names))
