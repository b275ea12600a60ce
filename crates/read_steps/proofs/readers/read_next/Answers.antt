use Rattle.std.proofs.Common.{◌∙◌, ap, length}
use Rattle.actor_parts.proofs.Refilled.{refilled_whole}
use Rattle.read_steps.proofs.Reading.{goes_on, next_given, next_refused, held_given, idle_refused, writing_refused}
use Rattle.read_steps.proofs.readers.read_next.Goals as goal

pub returns-in-Reading-clause-next : goal.returns-in-Reading-clause-next
returns-in-Reading-clause-next g c =
    let old = g.D.Disk.view c.args.disk.now in
    let new = g.D.Disk.view c.next_segment-answer.new.disk in
    next_given (g.X.Index.places c.args.index.now old.content) old new c.args.actor c.args.parts.now c.set.new.self c.in-Reading.reader.cursor c.next_segment-answer.new.cursor
    c.next_segment-answer.new.buf _ c.next_segment-answer.result
    (goes_on c.args.actor c.args.parts.now c.take.new.self c.set.new.self c.in-Reading.reader.root c.in-Reading.reader.cursor c.next_segment-answer.new.cursor c.take.result
    c.take.ensures.taken c.in-Reading.is
    c.take.ensures.left c.set.ensures.parts)
    (refilled_whole c.args.buf.now c.next_segment-answer.new.buf (c.next_segment-answer.auto.buf ∙ ap length c.bytes_mut.ensures.value))
    c.next_segment-answer.ensures.bytes

pub returns-in-Reading-clause-held : goal.returns-in-Reading-clause-held
returns-in-Reading-clause-held g c = λ root ahead counts held image segments is indexed segs.
    held_given counts held image c.args.actor c.args.parts.now c.set.new.self c.in-Reading.reader.cursor c.next_segment-answer.new.cursor
    c.next_segment-answer.new.buf _ segments c.next_segment-answer.result
    (goes_on c.args.actor c.args.parts.now c.take.new.self c.set.new.self c.in-Reading.reader.root c.in-Reading.reader.cursor c.next_segment-answer.new.cursor c.take.result
    c.take.ensures.taken c.in-Reading.is
    c.take.ensures.left c.set.ensures.parts)
    (refilled_whole c.args.buf.now c.next_segment-answer.new.buf (c.next_segment-answer.auto.buf ∙ ap length c.bytes_mut.ensures.value))
    (λ sooner. c.next_segment-answer.ensures.held counts held image segments indexed sooner) root ahead is segs

pub returns-in-Reading-clause-refused : goal.returns-in-Reading-clause-refused
returns-in-Reading-clause-refused g c =
    let old = g.D.Disk.view c.args.disk.now in
    let new = g.D.Disk.view c.next_segment-answer.new.disk in
    next_refused (g.X.Index.places c.args.index.now old.content) (g.X.Index.breaks c.args.index.now) old new c.args.actor c.args.parts.now c.set.new.self
    c.in-Reading.reader.cursor c.next_segment-answer.new.cursor
    c.next_segment-answer.result
    (goes_on c.args.actor c.args.parts.now c.take.new.self c.set.new.self c.in-Reading.reader.root c.in-Reading.reader.cursor c.next_segment-answer.new.cursor c.take.result
    c.take.ensures.taken c.in-Reading.is
    c.take.ensures.left c.set.ensures.parts)
    c.next_segment-answer.ensures.refused

pub returns-in-Writing-clause-refused : goal.returns-in-Writing-clause-refused
returns-in-Writing-clause-refused g c =
    writing_refused c.args.actor c.args.parts.now c.take.new.self c.set-in-Writing.new.self c.take.result c.in-Writing.pins c.take.ensures.taken c.in-Writing.is
    c.take.ensures.left c.set-in-Writing.ensures.parts

pub returns-in-Idle-clause-refused : goal.returns-in-Idle-clause-refused
returns-in-Idle-clause-refused g c = idle_refused c.args.actor c.args.parts.now c.take.new.self c.take.result c.take.ensures.taken c.in-Idle.is c.take.ensures.left
