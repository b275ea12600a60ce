use Rattle.std.proofs.Common.{take}
use Rattle.inspection.specs.Handing.{Reports}
use Rattle.container_log.specs.Inspecting.{copies_found}
use Rattle.container_log.proofs.inspecting.inspect_copies.Given as goal

-- the copies of the entries before this one were reported
abbrev pub invariant-loop-entry : goal.invariant-loop-entry
invariant-loop-entry g l = Reports g.S.SpellsDamage.line (copies_found l.slot (take l.entry-index l.entries) l.bytes) (g.K.Sink.view l.fn.sink)
    (g.K.Sink.view l.sink) l.fn.tally l.tally
