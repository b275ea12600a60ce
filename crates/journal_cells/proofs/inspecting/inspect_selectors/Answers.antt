use Rattle.journal_cells.proofs.Prelude.{passed_on, map_err}
use Rattle.journal_cells.proofs.Inspected.{ok_map, stops_one_selector, stops_other, reports_both, stops_last}
use Rattle.journal_cells.proofs.inspecting.inspect_selectors.Goals as goal

pub returns-in_err-one-clause-halt : goal.returns-in_err-one-clause-halt
returns-in_err-one-clause-halt g c =
    passed_on c.from_residual.result _ c.in_err-one.field-0.0 c.from_residual.ensures.1
    (c.in_err-one.ensures.halt.0, stops_one_selector g.S.SpellsDamage.line c.args.first.now c.args.second.now _ _ _ c.in_err-one.ensures.halt.1)

pub returns-in_err-inspect_selector-clause-halt : goal.returns-in_err-inspect_selector-clause-halt
returns-in_err-inspect_selector-clause-halt g c =
    passed_on c.from_residual-in_err-inspect_selector.result _ c.in_err-inspect_selector.field-0.0 c.from_residual-in_err-inspect_selector.ensures.1 (
      c.in_err-inspect_selector.ensures.halt.0,
      stops_other g.S.SpellsDamage.line c.args.first.now c.args.second.now c.in_ok-one.one c.in_ok-one.ensures.right _ _ _ _
          c.in_ok-one.ensures.done _ _ c.in_err-inspect_selector.ensures.halt.1,
    )

pub returns-clause-done : goal.returns-clause-done
returns-clause-done g c =
    ok_map c.hand_on.result (reports_both g.S.SpellsDamage.line c.args.first.now c.args.second.now c.in_ok-one.one c.in_ok-one.ensures.right _ _ _ _ c.in_ok-one.ensures.done _ _
    c.in_ok-inspect_selector.ensures.done c.none_open.result c.none_open.ensures _ _)
    c.hand_on.ensures.done

pub returns-clause-halt : goal.returns-clause-halt
returns-clause-halt g c =
    map_err c.hand_on.result _ _ (λ halt is. (
      is.0,
      stops_last g.S.SpellsDamage.line c.args.first.now c.args.second.now c.in_ok-one.one c.in_ok-one.ensures.right _ _ _ _
          c.in_ok-one.ensures.done _ _ c.in_ok-inspect_selector.ensures.done c.none_open.result c.none_open.ensures _ halt is.1,
    ))
    c.hand_on.ensures.halt
