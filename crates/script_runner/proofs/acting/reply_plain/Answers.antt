use Rattle.script_runner.proofs.Prelude.{line_value, runner_of}
use Rattle.script_runner.specs.Runner.{answer_of}
use Rattle.script_runner.proofs.Replied.{plain_reply, printed}
use Rattle.script_runner.proofs.acting.reply_plain.Goals as goal

pub returns-clause-made : goal.returns-clause-made
returns-clause-made g c =
    let reply = answer_of c.act-answer.result in
    let acts = c.act-answer.ensures.acts in (
      reply,
      (
        acts,
        printed (λ text. text.items) c.print.result reply
            (plain_reply _ g.C.HasState.state (line_value c.args.line.now) reply (runner_of c.args.core.now c.args.sessions.now)
            (runner_of c.act-answer.new.core c.act-answer.new.sessions) c.requires.plain acts)
            c.print.ensures,
      ),
    )
