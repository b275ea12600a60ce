use Rattle.std.proofs.Common.{sym, ◌∙◌}
use Rattle.gc_enumerate.proofs.Children.{of_level}
use Rattle.gc_enumerate.proofs.nodes.decode_node.Goals as goal

pub returns-clause-node : goal.returns-clause-node
returns-clause-node c =
    of_level c.decode.result c.args.bytes.now c.args.level (sym c.first_byte-first.ensures ∙ c.if-first-level.false) c.decode.ensures.found
