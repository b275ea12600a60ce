use Rattle.std.proofs.Common.{sym, subst}
use Rattle.base_model.proofs.Outcome.{passed_on}
use Rattle.container_meta.specs.Spelling.{with_entries}
use Rattle.container_log.specs.Inspecting.{AreInSlot}
use Rattle.container_log.proofs.Inspected.{are_in_slot, reports_right, stops_right}
use Rattle.container_log.proofs.inspecting.inspect_bytes.Goals as goal

pub inspect_copies-requires-clause-within : goal.inspect_copies-requires-clause-within
inspect_copies-requires-clause-within g c =
    subst AreInSlot (sym c.deref.ensures.value) (are_in_slot (with_entries c.in-Ok.right c.decode_into.new.entries.items) c.in-Ok.ensures.found.0)

pub returns-in_err-inspect_copies-in-Ok-clause-halt : goal.returns-in_err-inspect_copies-in-Ok-clause-halt
returns-in_err-inspect_copies-in-Ok-clause-halt g c =
    passed_on c.from_residual-in_err-inspect_copies-in-Ok.result _ c.in_err-inspect_copies-in-Ok.field-0.0 c.from_residual-in_err-inspect_copies-in-Ok.ensures.1 (
      c.in_err-inspect_copies-in-Ok.ensures.halt.0,
      stops_right c.args.slot c.args.ids.now c.args.bytes.now (with_entries c.in-Ok.right c.decode_into.new.entries.items)
          (sym c.in-Ok.ensures.value) g.S.SpellsDamage.line c.id_damage.result c.id_damage.ensures
          c.deref.result.now c.deref.ensures.value _ _ _ _ _ c.in_ok-add_cell-in-Ok.ensures.done c.in_err-inspect_copies-in-Ok.field-0.0
          c.in_err-inspect_copies-in-Ok.ensures.halt.1,
    )

pub returns-in_ok-inspect_copies-in-Ok-clause-done : goal.returns-in_ok-inspect_copies-in-Ok-clause-done
returns-in_ok-inspect_copies-in-Ok-clause-done g c =
    reports_right c.args.slot c.args.ids.now c.args.bytes.now (with_entries c.in-Ok.right c.decode_into.new.entries.items)
    (sym c.in-Ok.ensures.value) g.S.SpellsDamage.line c.id_damage.result c.id_damage.ensures
    c.deref.result.now c.deref.ensures.value _ _ _ _ _ c.in_ok-add_cell-in-Ok.ensures.done _ c.in_ok-inspect_copies-in-Ok.ensures.done
