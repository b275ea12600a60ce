use Rattle.backup_engine.proofs.Prelude.{sym, ◌∙◌, ap, option_map, alone_line}
use Rattle.backup_engine.specs.LineValue.{line_value}
use Rattle.backup_engine.proofs.TopCall.{memory_promise, promise_as, words_promise}
use Rattle.backup_engine.proofs.top_call.backup_alone.Goals as goal

pub returns-in-Ok-None-clause-promise : goal.returns-in-Ok-None-clause-promise
returns-in-Ok-None-clause-promise g c =
    words_promise _ g.D.Disk.view _ c.give_up.result (g.D.Disk.view c.args.disk.now) (g.S.Source.view c.args.source.now) (g.K.Sink.view c.args.sink.now)
    (g.Q.Sink.view c.args.notes.now) (g.Q.Sink.view c.give_up.new.notes)
    (ap alone_line (sym c.in-Ok-None.ensures.line ∙ ap (option_map line_value) c.in-Ok-None.field-0-is)) c.give_up.ensures.status c.give_up.ensures.noted

-- there was no memory to read the words
pub returns-in-Err-clause-promise : goal.returns-in-Err-clause-promise
returns-in-Err-clause-promise g c =
    memory_promise _ g.D.Disk.view c.give_up-in-Err.result (g.D.Disk.view c.args.disk.now) (g.S.Source.view c.args.source.now) (g.K.Sink.view c.args.sink.now)
    (g.Q.Sink.view c.args.notes.now) (g.Q.Sink.view c.give_up-in-Err.new.notes) c.reads_tell_scripts.ensures c.give_up-in-Err.ensures.status c.give_up-in-Err.ensures.noted _

-- a line was read
pub returns-clause-promise : goal.returns-clause-promise
returns-clause-promise g c =
    let line_is = ap alone_line (sym c.in-Ok-Some.ensures.line ∙ ap (option_map line_value) c.in-Ok-Some.field-0-is) in
    promise_as _ g.D.Disk.view _ _ c.run_alone.result _ line_is c.run_alone.ensures.promise
