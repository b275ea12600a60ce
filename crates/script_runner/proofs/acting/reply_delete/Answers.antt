use Rattle.script_runner.proofs.Prelude.{refl}
use Rattle.script_lines.specs.ReplyValue as replies
use Rattle.script_runner.proofs.Replied.{printed}
use Rattle.script_runner.proofs.acting.reply_delete.Goals as goal

pub returns-in-Ok-clause-made : goal.returns-in-Ok-clause-made
returns-in-Ok-clause-made g c = λ sessions.
    let text = c.in-Ok.ensures.deletes in
    (replies.Deleted text.0, ((text.1.1, refl), text.1.0))

pub returns-in-Err-clause-made : goal.returns-in-Err-clause-made
returns-in-Err-clause-made g c = λ sessions.
    let reply = replies.Refused c.in-Err.refusal in
    (reply, ((c.in-Err.ensures.refused, refl), printed (λ text. text.items) c.print_reply.result reply (λ x. x) c.print_reply.ensures))
