use Rattle.backup_engine.proofs.Prelude.{[], ap, Some, Single, Check, alone_line, command_value, ending_in}
use Rattle.backup_engine.specs.Line.{Run}
use Rattle.backup_engine.specs.LineValue.{line_value}
use Rattle.backup_engine.specs.declared.words.Line.{Line}
use Rattle.backup_engine.proofs.TopCall.{keeps_line, promise_as, words_promise}
use Rattle.backup_engine.proofs.top_call.run_alone.Goals as goal

pub returns-in-Single-clause-promise : goal.returns-in-Single-clause-promise
returns-in-Single-clause-promise g c =
    let line_is = ap (λ (l : Line). alone_line (Some (line_value l))) c.in-Single.is in
    promise_as _ g.D.Disk.view _ (Some (Single (command_value c.in-Single.command))) c.conclude.result _ line_is
    (keeps_line _ g.D.Disk.view (Single (command_value c.in-Single.command)) c.conclude.result (ending_in c.run_command.result) _ _ _ _ _ _ _ _
    c.conclude.ensures.status c.conclude.ensures.noted c.run_command.ensures.does)

pub returns-in-Run-clause-promise : goal.returns-in-Run-clause-promise
returns-in-Run-clause-promise g c =
    let line_is = ap (λ (l : Line). alone_line (Some (line_value l))) c.in-Run.is in
    promise_as _ g.D.Disk.view _ (Some Run) c.conclude-in-Run.result _ line_is
    (keeps_line _ g.D.Disk.view Run c.conclude-in-Run.result (ending_in c.run.result) _ _ _ _ _ _ _ _
    c.conclude-in-Run.ensures.status c.conclude-in-Run.ensures.noted ([], c.run.ensures.runs))

-- the disk is inspected
pub returns-in-Check-clause-promise : goal.returns-in-Check-clause-promise
returns-in-Check-clause-promise g c =
    let line_is = ap (λ (l : Line). alone_line (Some (line_value l))) c.in-Check.is in
    promise_as _ g.D.Disk.view _ (Some Check) c.check_disk.result _ line_is (c.check_disk.ensures.checks (g.S.Source.view c.args.source.now))

-- it would start workers
pub returns-in-Work-clause-promise : goal.returns-in-Work-clause-promise
returns-in-Work-clause-promise g c =
    let none = ap (λ (l : Line). alone_line (Some (line_value l))) c.in-Work.is in
    words_promise _ g.D.Disk.view _ c.give_up.result (g.D.Disk.view c.args.disk.now) (g.S.Source.view c.args.source.now) (g.K.Sink.view c.args.sink.now)
    (g.Q.Sink.view c.args.notes.now) (g.Q.Sink.view c.give_up.new.notes) none c.give_up.ensures.status c.give_up.ensures.noted
