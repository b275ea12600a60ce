use Rattle.script_runner.proofs.Prelude.{sym, subst, line_value, ReplyValue, ActsWith, Prints, runner_of}
use Rattle.script_lines.specs.declared.line.Line.{Line}
use Rattle.script_lines.specs.ReplyValue as replies
use Rattle.script_runner.proofs.Replied.{barred, printed, taken}
use Rattle.script_runner.proofs.acting.reply_to.Goals as goal

pub returns-in-Err-clause-made : goal.returns-in-Err-clause-made
returns-in-Err-clause-made g c =
    barred _ g.C.HasState.state (line_value c.args.line.now) (λ (reply : ReplyValue). Prints (λ text. text.items) c.print_reply.result reply)
    (runner_of c.args.core.now c.args.sessions.now)
    c.requires.other c.in-Err.refusal c.in-Err.ensures.err
    (printed (λ text. text.items) c.print_reply.result (replies.Refused c.in-Err.refusal) (λ x. x) c.print_reply.ensures)

pub returns-in-Next-clause-made : goal.returns-in-Next-clause-made
returns-in-Next-clause-made g c =
    let state = g.C.HasState.state in
    let r = runner_of c.args.core.now c.args.sessions.now in
    let s = runner_of c.reply_next.new.core c.args.sessions.now in
    taken _ state (line_value c.args.line.now) (λ (reply : ReplyValue). Prints (λ text. text.items) c.reply_next.result reply) r s c.requires.other c.in_default.ensures.ok
    (subst (λ (l : Line). ActsWith _ state (line_value l) (λ (reply : ReplyValue). Prints (λ text. text.items) c.reply_next.result reply) r s) (sym c.in-Next.is)
    (c.reply_next.ensures.made c.args.sessions.now))

pub returns-in-Delete-clause-made : goal.returns-in-Delete-clause-made
returns-in-Delete-clause-made g c =
    let state = g.C.HasState.state in
    let r = runner_of c.args.core.now c.args.sessions.now in
    let s = runner_of c.reply_delete.new.core c.args.sessions.now in
    taken _ state (line_value c.args.line.now) (λ (reply : ReplyValue). Prints (λ text. text.items) c.reply_delete.result reply) r s c.requires.other c.in_default.ensures.ok
    (subst (λ (l : Line). ActsWith _ state (line_value l) (λ (reply : ReplyValue). Prints (λ text. text.items) c.reply_delete.result reply) r s) (sym c.in-Delete.is)
    (c.reply_delete.ensures.made c.args.sessions.now))

pub returns-in-List-clause-made : goal.returns-in-List-clause-made
returns-in-List-clause-made g c =
    let state = g.C.HasState.state in
    let r = runner_of c.args.core.now c.args.sessions.now in
    let s = runner_of c.reply_list.new.core c.args.sessions.now in
    taken _ state (line_value c.args.line.now) (λ (reply : ReplyValue). Prints (λ text. text.items) c.reply_list.result reply) r s c.requires.other c.in_default.ensures.ok
    (subst (λ (l : Line). ActsWith _ state (line_value l) (λ (reply : ReplyValue). Prints (λ text. text.items) c.reply_list.result reply) r s) (sym c.in-List.is)
    (c.reply_list.ensures.made c.args.sessions.now))

pub returns-in_default-line : goal.returns-in_default-line
returns-in_default-line g c =
    let r = runner_of c.args.core.now c.args.sessions.now in
    let s = runner_of c.reply_plain.new.core c.reply_plain.new.sessions in
    record {
      made = taken _ g.C.HasState.state (line_value c.args.line.now) (λ (reply : ReplyValue). Prints (λ text. text.items) c.reply_plain.result reply) r s c.requires.other
          c.in_default.ensures.ok
          (c.reply_plain.ensures.made);
      running = c.reply_plain.ensures.running;
    }
