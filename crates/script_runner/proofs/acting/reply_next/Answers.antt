use Rattle.script_runner.proofs.Prelude.{◌≡◌, ℕ, List, take, Option, Ok, IfOk, refl, subst, reply_line}
use Rattle.script_lines.specs.ReplyValue as replies
use Rattle.script_runner.specs.Acts.{GivesNext}
use Rattle.script_runner.proofs.Replied.{printed}
use Rattle.script_runner.proofs.acting.reply_next.Goals as goal

pub returns-in-Ok-Some-clause-made : goal.returns-in-Ok-Some-clause-made
returns-in-Ok-Some-clause-made g c = λ sessions.
    let buf = c.read_next.new.buf in
    let count = c.in-Ok-Some.count in
    let reply = replies.Bytes c.args.actor (take count buf) in (
      reply,
      (
        (
          refl,
          (
            count,
            (
              buf,
              (
                refl,
                (
                  subst (λ (x : Option ℕ). GivesNext _ g.C.HasState.state c.args.actor (Ok x) buf c.args.core.now c.read_next.new.core) c.in-Ok-Some.field-0-is
                      c.in-Ok-Some.ensures.gives,
                  refl,
                ),
              ),
            ),
          ),
        ),
        printed (λ text. text.items) c.print_reply.result reply (λ x. x)
            (subst (λ (l : List ℕ). IfOk c.print_reply.result (λ text. text.items ≡ reply_line (replies.Bytes c.args.actor (take count l)))) c.bytes.ensures.value
            c.print_reply.ensures),
      ),
    )

pub returns-in-Ok-None-clause-made : goal.returns-in-Ok-None-clause-made
returns-in-Ok-None-clause-made g c = λ sessions.
    let reply = replies.End c.args.actor in (
      reply,
      (
        (
          refl,
          (
            c.read_next.new.buf,
            (
              subst (λ (x : Option ℕ). GivesNext _ g.C.HasState.state c.args.actor (Ok x) c.read_next.new.buf c.args.core.now c.read_next.new.core)
                  c.in-Ok-None.field-0-is c.in-Ok-None.ensures.gives,
              refl,
            ),
          ),
        ),
        printed (λ text. text.items) c.print_reply-in-Ok-None.result reply (λ x. x) c.print_reply-in-Ok-None.ensures,
      ),
    )

pub returns-in-Err-clause-made : goal.returns-in-Err-clause-made
returns-in-Err-clause-made g c = λ sessions.
    let reply = replies.Refused c.in-Err.refusal in
    (reply, ((c.read_next.new.buf, (c.in-Err.ensures.gives, refl)), printed (λ text. text.items) c.print_reply-in-Err.result reply (λ x. x) c.print_reply-in-Err.ensures))
