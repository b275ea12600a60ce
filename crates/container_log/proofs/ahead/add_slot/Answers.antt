use Rattle.std.proofs.Common.{sym, subst}
use Rattle.container_meta.specs.Spelling.{with_entries}
use Rattle.container_log.specs.Inspecting.{AreInSlot}
use Rattle.container_log.proofs.Inspected.{are_in_slot}
use Rattle.container_log.proofs.ahead.add_slot.Goals as goal

pub add_copies-requires-clause-within : goal.add_copies-requires-clause-within
add_copies-requires-clause-within c =
    subst AreInSlot (sym c.deref.ensures.value) (are_in_slot (with_entries c.in-Ok.field-0 c.decode_into.new.entries.items) c.in-Ok.ensures.found.0)
