use Rattle.script_lines.specs.ReplyValue as replies
use Rattle.script_runner.proofs.Replied.{printed}
use Rattle.script_runner.proofs.acting.reply_commit.Goals as goal

pub returns-in-Err-clause-made : goal.returns-in-Err-clause-made
returns-in-Err-clause-made g c =
    let reply = replies.Refused c.in-Err.refusal in
    (reply, (c.in-Err.ensures.refused, printed (λ text. text.items) c.print_reply.result reply (λ x. x) c.print_reply.ensures))
