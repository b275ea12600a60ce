use Rattle.backup_engine.proofs.Prelude.{sym, ◌∙◌, ap, [], Some, option_map, refl, ending_in}
use Rattle.backup_engine.specs.Line.{Work}
use Rattle.backup_engine.specs.LineValue.{line_value, load_value}
use Rattle.backup_engine.proofs.TopCall.{alone_as, keeps_line, line_as, memory_promise, promise_as, words_promise}
use Rattle.backup_engine.proofs.top_call.backup.Goals as goal

pub returns-in-Ok-None-clause-promise : goal.returns-in-Ok-None-clause-promise
returns-in-Ok-None-clause-promise g c =
    words_promise _ g.D.Disk.view _ c.give_up.result (g.D.Disk.view c.args.disk.now) (g.S.Source.view c.args.source.now) (g.K.Sink.view c.args.sink.now)
    (g.Q.Sink.view c.args.notes.now) (g.Q.Sink.view c.give_up.new.notes)
    (sym c.in-Ok-None.ensures.line ∙ ap (option_map line_value) c.in-Ok-None.field-0-is) c.give_up.ensures.status c.give_up.ensures.noted

-- there was no memory to read the words
pub returns-in-Err-clause-promise : goal.returns-in-Err-clause-promise
returns-in-Err-clause-promise g c =
    memory_promise _ g.D.Disk.view c.give_up-in-Err.result (g.D.Disk.view c.args.disk.now) (g.S.Source.view c.args.source.now) (g.K.Sink.view c.args.sink.now)
    (g.Q.Sink.view c.args.notes.now) (g.Q.Sink.view c.give_up-in-Err.new.notes) c.reads_tell_scripts.ensures c.give_up-in-Err.ensures.status c.give_up-in-Err.ensures.noted _

-- a line that starts no workers
pub returns-in_default-clause-promise : goal.returns-in_default-clause-promise
returns-in_default-clause-promise g c =
    let line_is = sym c.in-Ok-Some.ensures.line ∙ ap (option_map line_value) c.in-Ok-Some.field-0-is in
    promise_as _ g.D.Disk.view _ _ c.run_alone.result _ (line_is ∙ sym (alone_as _ c.in_default.not-Work)) c.run_alone.ensures.promise

-- workers are run
pub returns-in-Work-clause-promise : goal.returns-in-Work-clause-promise
returns-in-Work-clause-promise g c =
    let line_is = line_as c.in-Ok-Some.ensures.line c.in-Ok-Some.field-0-is c.in-Work.is in
    let done = c.work.ensures.does (g.S.Source.view c.args.source.now) in
    promise_as _ g.D.Disk.view _ (Some (Work (load_value c.in-Work.load))) c.conclude.result _ line_is
    (keeps_line _ g.D.Disk.view (Work (load_value c.in-Work.load)) c.conclude.result (ending_in c.work.result) _ _ _ _ _ _ _ _
    c.conclude.ensures.status c.conclude.ensures.noted ([], ([], (done.0, (done.1, refl)))))
