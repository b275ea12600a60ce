use Rattle.journal_cells.proofs.Prelude.{◌≤◌, ◌*◌, length, map, ap, refl, sym, subst, ◌∙◌, arith, record_value, MOST_NAME, last_of, cells_of}
use Rattle.std.specs.List.{All}
use Rattle.journal_cells.proofs.Prepared.{short, few, half_of}
use Rattle.journal_cells.proofs.checkpoint.fresh_half.Goals as goal

pub overflow_cast-result : goal.overflow_cast-result
overflow_cast-result c =
    let most = few c.args.names.now c.in_ok-puts.puts.items c.puts_in_order.ensures.names c.in_ok-puts.ensures.puts in
    omega (arith, most, c.len.ensures)

pub cells_of-requires : goal.cells_of-requires
cells_of-requires c =
    subst (All (λ r. length r.name.items ≤ MOST_NAME)) (sym c.deref-2.ensures.value)
    (short c.args.names.now c.in_ok-puts.puts.items c.puts_in_order.ensures.names c.in_ok-puts.ensures.puts)

pub returns : goal.returns
returns c =
    half_of c.args.names.now c.in_ok-puts.puts.items c.puts_in_order.ensures.names c.in_ok-puts.ensures.puts c.args.selector.now _
    (omega (arith, c.len.ensures)) (c.last_number.ensures ∙ ap (λ rs. last_of 0 (map record_value rs)) c.deref.ensures.value) c.in_ok-zeros.ensures
    (c.in_ok-cells_of.ensures.cells ∙ ap (λ rs. cells_of (map record_value rs)) c.deref-2.ensures.value)
    (c.in_ok-cells_of.ensures.length ∙ ap (λ rs. 512 * length rs) c.deref-2.ensures.value)
    c.in_ok-encode_selector.ensures.cell c.in_ok-encode_selector.ensures.length refl c.requires
