use Rattle.script_runner.proofs.SessionLists.{replaced}
use Rattle.script_runner.proofs.giving.commit.Goals as goal

pub returns-in-Err-clause-refused : goal.returns-in-Err-clause-refused
returns-in-Err-clause-refused g c =
    let actor = c.args.actor in
    let s = c.in-Some.session in
    let t = c.put.new.session in
    (s, t, replaced actor s t c.args.sessions.now c.take.new.self c.set.new.self c.in-Some.ensures.taken c.take.ensures.left c.set.ensures.sessions, c.in-Err.ensures.refused)
