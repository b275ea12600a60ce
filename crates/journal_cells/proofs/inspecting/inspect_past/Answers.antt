use Rattle.journal_cells.proofs.Prelude.{nothing, cell_with, finds_shown, reports_nothing, stops_shown, stops_unread, sym, subst, Option, ◌≡◌, map_err, Shows, and_then, Damage}
use Rattle.journal_cells.specs.Inspecting.{past_found}
use Rattle.journal_cells.proofs.Inspected.{ok_map, past_uncounted, past_closed, past_open, reads_past, reads_taken}
use Rattle.journal_cells.proofs.inspecting.inspect_past.Goals as goal

pub returns-then-not-counts-clause-found : goal.returns-then-not-counts-clause-found
returns-then-not-counts-clause-found g c =
    finds_shown g.S.SpellsDamage.line nothing _ (λ image. nothing) _ _ _ _ _ _ (past_uncounted c.args.half c.args.counts c.args.from _ _ c.if-not-counts.true)
    (reports_nothing g.S.SpellsDamage.line _ _)

pub returns-in-Ok-clause-found : goal.returns-in-Ok-clause-found
returns-in-Ok-clause-found g c =
    finds_shown g.S.SpellsDamage.line nothing _ (λ image. nothing) _ _ _ _ _ _
    (past_closed c.args.half c.args.counts c.args.from _ _ c.if-not-counts.false c.requires.within c.in-Ok.ensures.closed) (reports_nothing g.S.SpellsDamage.line _ _)

pub returns-in-DiskRead-clause-stopped : goal.returns-in-DiskRead-clause-stopped
returns-in-DiskRead-clause-stopped g c = stops_unread g.S.SpellsDamage.line _ _ _ _

pub returns-in_default : goal.returns-in_default
returns-in_default g c =
    let view = g.D.Disk.view in
    let old = view c.args.disk.now in
    let new = view c.check_closed.new.disk in
    let shown = past_open c.args.half c.args.counts c.args.from old new c.in-Err.fault c.in_default.not-DiskRead c.if-not-counts.false c.requires.within c.in-Err.ensures.cause in
    let seen = subst (λ (d : Option Damage). Shows old new (λ image. past_found c.args.half c.args.counts c.args.from image ≡ and_then (cell_with d) nothing))
    (sym c.damage_of.ensures) shown in
    record {
      found = ok_map c.add_cell.result (finds_shown g.S.SpellsDamage.line (cell_with c.damage_of.result) (past_found c.args.half c.args.counts c.args.from) (λ image. nothing) old
          new _ _ _ _ seen) c.add_cell.ensures.done;
      stopped = map_err c.add_cell.result _ _ (λ halt is. stops_shown g.S.SpellsDamage.line (cell_with c.damage_of.result) (past_found c.args.half c.args.counts c.args.from)
          (λ image. nothing) old new _ _ halt seen is.1) c.add_cell.ensures.halt;
      reads = reads_taken c.add_cell.result _ old new c.add_cell.ensures.halt
          (reads_past c.args.half c.args.counts c.args.from old new c.in-Err.fault c.in_default.not-DiskRead c.in-Err.ensures.cause c.in-Err.ensures.reads);
    }
