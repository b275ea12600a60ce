use Rattle.dd_disk.proofs.Shows.{weaker}
use Rattle.disk_format.specs.Layout.{slot_at}
use Rattle.container_log.proofs.Slots.{byte_read}
use Rattle.container_log.proofs.slot.read_gate.Goals as goal

pub returns-in-Ok-clause-shown : goal.returns-in-Ok-clause-shown
returns-in-Ok-clause-shown g c =
    weaker _ _ (λ image sized read. byte_read (slot_at c.args.slot) _ image _ c.slot_at.ensures read) c.in-Ok.ensures.shown
