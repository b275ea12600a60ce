use Rattle.journal_cells.proofs.Prelude.{Bool, subst, passed_on, map_err, nothing, StopsAmong, finds_on, stops_on}
use Rattle.inspection.specs.Handing.{Finds}
use Rattle.inspection.proofs.Steps.{finds_first, stops_first}
use Rattle.journal_cells.specs.Heads.{selectors_in}
use Rattle.journal_cells.specs.Inspecting.{half_found, says_half}
use Rattle.journal_cells.proofs.Inspected.{ok_map}
use Rattle.journal_cells.proofs.inspecting.inspect_halves.Goals as goal

pub returns-in_err-inspect_half-clause-stopped : goal.returns-in_err-inspect_half-clause-stopped
returns-in_err-inspect_half-clause-stopped g c =
    let line = g.S.SpellsDamage.line in
    let view = g.D.Disk.view in
    let take = g.K.Sink.view in
    let said = selectors_in c.args.first.now c.args.second.now in
    passed_on c.from_residual.result _ c.in_err-inspect_half.field-0.0 c.from_residual.ensures.1
    (stops_first line (half_found 0 c.args.first.now (says_half 0 said)) (half_found 1 c.args.second.now (says_half 1 said)) _ _ _ _ c.in_err-inspect_half.field-0.0
    (subst (λ (b : Bool). StopsAmong line (half_found 0 c.args.first.now b) (view c.args.disk.now) (view c.inspect_half.new.disk) (take c.args.sink.now)
    (take c.inspect_half.new.sink) c.in_err-inspect_half.field-0.0) c.says_half.ensures
    c.in_err-inspect_half.ensures.stopped))

pub returns-clause-found : goal.returns-clause-found
returns-clause-found g c =
    let line = g.S.SpellsDamage.line in
    let view = g.D.Disk.view in
    let take = g.K.Sink.view in
    let said = selectors_in c.args.first.now c.args.second.now in
    let first = finds_first line (half_found 0 c.args.first.now (says_half 0 said)) (half_found 1 c.args.second.now (says_half 1 said)) _ _ _ _ _ _
    (subst (λ (b : Bool). Finds line (half_found 0 c.args.first.now b) (λ image. nothing) (view c.args.disk.now) (view c.inspect_half.new.disk)
    (take c.args.sink.now, c.args.tally.now) (take c.inspect_half.new.sink, c.inspect_half.new.tally)) c.says_half.ensures
    c.in_ok-inspect_half.ensures.found) in
    ok_map c.inspect_half-2.result (λ (second : Finds line (half_found 1 c.args.second.now c.says_half-2.result) (λ image. nothing) (view c.inspect_half.new.disk)
    (view c.inspect_half-2.new.disk) (take c.inspect_half.new.sink, c.inspect_half.new.tally) (take c.inspect_half-2.new.sink, c.inspect_half-2.new.tally)).
    finds_on line _ _ _ _ _ _ _ _ _ _ first c.in_ok-inspect_half.ensures.reads.only c.inspect_half-2.ensures.reads.only.later (λ image. nothing) _
    (subst (λ (b : Bool). Finds line (half_found 1 c.args.second.now b) (λ image. nothing) (view c.inspect_half.new.disk) (view c.inspect_half-2.new.disk)
    (take c.inspect_half.new.sink, c.inspect_half.new.tally) (take c.inspect_half-2.new.sink, c.inspect_half-2.new.tally)) c.says_half-2.ensures
    second)) c.inspect_half-2.ensures.found

pub returns-clause-stopped : goal.returns-clause-stopped
returns-clause-stopped g c =
    let line = g.S.SpellsDamage.line in
    let view = g.D.Disk.view in
    let take = g.K.Sink.view in
    let said = selectors_in c.args.first.now c.args.second.now in
    let first = finds_first line (half_found 0 c.args.first.now (says_half 0 said)) (half_found 1 c.args.second.now (says_half 1 said)) _ _ _ _ _ _
    (subst (λ (b : Bool). Finds line (half_found 0 c.args.first.now b) (λ image. nothing) (view c.args.disk.now) (view c.inspect_half.new.disk)
    (take c.args.sink.now, c.args.tally.now) (take c.inspect_half.new.sink, c.inspect_half.new.tally)) c.says_half.ensures
    c.in_ok-inspect_half.ensures.found) in
    map_err c.inspect_half-2.result _ _ (λ halt is.
    stops_on line _ _ _ _ _ _ _ _ _ _ first c.in_ok-inspect_half.ensures.reads.only c.inspect_half-2.ensures.reads.only.later halt
    (subst (λ (b : Bool). StopsAmong line (half_found 1 c.args.second.now b) (view c.inspect_half.new.disk) (view c.inspect_half-2.new.disk) (take c.inspect_half.new.sink)
    (take c.inspect_half-2.new.sink) halt) c.says_half-2.ensures
    is)) c.inspect_half-2.ensures.stopped
