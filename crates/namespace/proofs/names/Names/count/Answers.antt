use Rattle.std.proofs.Common.{ap, sym, ◌∙◌, arith}
use Rattle.std.specs.FinMap as finite
use Rattle.namespace.proofs.Entries.{len_seen}
use Rattle.namespace.proofs.names.Names.count.Goals as goal

pub returns : goal.returns
returns c =
    let n = ap finite.len (sym c.self.view_is) ∙ len_seen c.self.inside.entries.entries c.len.ensures.ordered in
    omega (arith, n, c.len.ensures.len)
