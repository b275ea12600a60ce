use Rattle.backup_engine.proofs.Prelude.{◌∙◌, subst, List, ℕ, formatted_line, Sent, ending_in}
use Rattle.backup_engine.proofs.Formatting.{refused_keeps, done_keeps}
use Rattle.backup_engine.proofs.Replied.{replied_sent, wrote_sent}
use Rattle.backup_engine.proofs.format.format.Goals as goal

pub returns-clause-keeps : goal.returns-clause-keeps
returns-clause-keeps g c = λ source.
    let old = g.D.Disk.view c.args.disk.now in
    let new = g.D.Disk.view c.format.new.disk in
    let sink = g.K.Sink.view c.args.sink.now in
    let is = c.in-Err.ensures in
    refused_keeps c.args.slots old new is.left is.crash is.store source _ sink is.refused is.disk

pub returns-in-Ok-clause-keeps : goal.returns-in-Ok-clause-keeps
returns-in-Ok-clause-keeps g c = λ source.
    let old = g.D.Disk.view c.args.disk.now in
    let new = g.D.Disk.view c.format.new.disk in
    let sink = g.K.Sink.view c.args.sink.now in
    let sink_now = g.K.Sink.view c.send.new.sink in
    let is = c.in-Ok.ensures in
    let sent : Sent (formatted_line c.args.slots) c.send.result sink sink_now =
    subst (λ (reply : List ℕ). Sent reply c.send.result sink sink_now) (c.deref.ensures.value ∙ c.in_ok-reply.ensures) c.send.ensures in
    done_keeps c.args.slots old new is.left is.crash is.store source (ending_in c.send.result) sink sink_now (replied_sent _ c.send.result sink sink_now sent)
    (record { count = c.requires; size_is = is.done.0; closed = is.done.1; stands = is.stands }) is.durable is.disk
    (wrote_sent (formatted_line c.args.slots) c.send.result sink sink_now sent)
