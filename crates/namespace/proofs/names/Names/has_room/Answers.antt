use Rattle.std.proofs.Common.{◌<◌, ◌≤◌, ap, sym, ◌∙◌, arith, rules, inr, IsTrue, not}
use Rattle.std.specs.FinMap as finite
use Rattle.disk_format.specs.declared.numbers.TheConstants.{MOST_NAMES}
use Rattle.namespace.proofs.Entries.{len_seen}
use Rattle.namespace.proofs.names.Names.has_room.Goals as goal

pub returns-else-has-clause-room : goal.returns-else-has-clause-room
returns-else-has-clause-room c =
    let n = ap finite.len (sym c.self.view_is) ∙ len_seen c.self.inside.entries.entries c.len.ensures.ordered in
    let l = c.len.ensures.len in
    λ h.
    let few : c.len.result < MOST_NAMES = search rules in
    inr (omega (arith, n, l, few))

pub returns-else-has-clause-full : goal.returns-else-has-clause-full
returns-else-has-clause-full c =
    let n = ap finite.len (sym c.self.view_is) ∙ len_seen c.self.inside.entries.entries c.len.ensures.ordered in
    let absent : IsTrue (not c.has.result) = search rules in
    let l = c.len.ensures.len in
    λ h.
    let many : MOST_NAMES ≤ c.len.result = search rules in
    (c.has.ensures.absent absent, omega (arith, n, l, many))
