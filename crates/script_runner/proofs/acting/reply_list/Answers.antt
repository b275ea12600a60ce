use Rattle.script_runner.proofs.Prelude.{refl}
use Rattle.script_lines.specs.ReplyValue as replies
use Rattle.script_runner.proofs.Replied.{printed}
use Rattle.script_runner.proofs.acting.reply_list.Goals as goal

pub returns-in-Ok-clause-made : goal.returns-in-Ok-clause-made
returns-in-Ok-clause-made g c = λ sessions.
    let reply = replies.Listed c.in-Ok.files in
    (reply, ((c.in-Ok.ensures.lists, refl), printed (λ text. text.items) c.print_reply.result reply (λ x. x) c.print_reply.ensures))

pub returns-in-Err-clause-made : goal.returns-in-Err-clause-made
returns-in-Err-clause-made g c = λ sessions.
    let reply = replies.Refused c.in-Err.refusal in
    (reply, ((c.in-Err.ensures.lists, refl), printed (λ text. text.items) c.print_reply-in-Err.result reply (λ x. x) c.print_reply-in-Err.ensures))
