use Rattle.ingest_steps.proofs.Prelude.{◌∙◌, ap, subst, RecordValue, record_value, Done, ending_of, Writes, passed, Records, IsRecorded, ChangesName, HasNumbers, tables_with}
use Rattle.namespace.specs.Names.{change_value}
use Rattle.store_state.specs.Refused.{blames}
use Rattle.ingest_steps.proofs.Named.{record_is, is_changed, changes_name, unwritten_name}
use Rattle.ingest_steps.proofs.RecordFrames.{changes_journal, journal_here, unwritten_journal, same_but_record}
use Rattle.ingest_steps.proofs.naming.change_name.Goals as goal

pub returns-in_err-number-clause-frame : goal.returns-in_err-number-clause-frame
returns-in_err-number-clause-frame g c = journal_here c.args.tables.now c.args.name.now (change_value c.args.change) (g.D.Disk.view c.args.disk.now)

pub returns-in_err-made-clause-frame : goal.returns-in_err-made-clause-frame
returns-in_err-made-clause-frame g c = journal_here c.args.tables.now c.args.name.now (change_value c.args.change) (g.D.Disk.view c.args.disk.now)

pub returns-in_err-write_record-clause-moves : goal.returns-in_err-write_record-clause-moves
returns-in_err-write_record-clause-moves g c =
    let t = c.args.tables.now in
    let r = record_value c.in_ok-made.made in
    let is = record_is t c.args.name.now (change_value c.args.change) r c.in_ok-number.number c.in_ok-made.ensures c.in_ok-number.ensures.next in
    passed (λ e. ChangesName t c.args.name.now (change_value c.args.change) e (g.D.Disk.view c.args.disk.now) (g.D.Disk.view c.write_record.new.disk)) blames
    c.from_residual-in_err-write_record.result c.in_err-write_record.field-0.0 c.from_residual-in_err-write_record.ensures.1
    (unwritten_name t _ _ c.args.name.now (change_value c.args.change) r c.in_err-write_record.field-0.0 is c.requires.may c.in_ok-number.ensures.below
    c.in_err-write_record.ensures.refused c.in_err-write_record.ensures.writes)

pub returns-in_err-write_record-clause-frame : goal.returns-in_err-write_record-clause-frame
returns-in_err-write_record-clause-frame g c =
    let t = c.args.tables.now in
    let name = c.args.name.now in
    let change = change_value c.args.change in
    let is = record_is t name change (record_value c.in_ok-made.made) c.in_ok-number.number c.in_ok-made.ensures c.in_ok-number.ensures.next in
    unwritten_journal t _ _ name change c.in_err-write_record.field-0.0 c.requires.may c.in_ok-number.ensures.below c.in_err-write_record.ensures.refused
    (subst (λ (v : RecordValue). Writes (Records t.names t.journal v) (IsRecorded t.names t.journal v) (ending_of (blames c.in_err-write_record.field-0.0))
    (g.D.Disk.view c.args.disk.now) (g.D.Disk.view c.write_record.new.disk))
    is c.in_err-write_record.ensures.writes)

pub returns-clause-ok : goal.returns-clause-ok
returns-clause-ok g c =
    let t = c.args.tables.now in
    let is = record_is t c.args.name.now (change_value c.args.change) (record_value c.in_ok-made.made) c.in_ok-number.number c.in_ok-made.ensures c.in_ok-number.ensures.next in
    let numbers : HasNumbers t = record { sequence = c.in_ok-number.ensures.below; generation = c.in_ok-write_record.ensures.below } in
    is_changed c.args.name.now (change_value c.args.change) t c.requires.may numbers c.write_record.new.tables c.in_ok-number.number c.requires.right c.in_ok-number.ensures.next
    (c.in_ok-write_record.ensures.tables ∙ ap (λ (r : RecordValue). tables_with r t) is)

pub returns-clause-moves : goal.returns-clause-moves
returns-clause-moves g c =
    let t = c.args.tables.now in
    let r = record_value c.in_ok-made.made in
    let is = record_is t c.args.name.now (change_value c.args.change) r c.in_ok-number.number c.in_ok-made.ensures c.in_ok-number.ensures.next in
    let numbers : HasNumbers t = record { sequence = c.in_ok-number.ensures.below; generation = c.in_ok-write_record.ensures.below } in
    changes_name t _ _ _ c.args.name.now (change_value c.args.change) r is c.requires.may numbers c.in_ok-write_record.ensures.writes

pub returns-clause-frame : goal.returns-clause-frame
returns-clause-frame g c =
    let t = c.args.tables.now in
    let name = c.args.name.now in
    let change = change_value c.args.change in
    let is = record_is t name change (record_value c.in_ok-made.made) c.in_ok-number.number c.in_ok-made.ensures c.in_ok-number.ensures.next in
    let numbers : HasNumbers t = record { sequence = c.in_ok-number.ensures.below; generation = c.in_ok-write_record.ensures.below } in
    changes_journal t name change c.requires.may numbers _ _ _
    (subst (λ (v : RecordValue). Writes (Records t.names t.journal v) (IsRecorded t.names t.journal v) Done (g.D.Disk.view c.args.disk.now)
    (g.D.Disk.view c.write_record.new.disk)) is c.in_ok-write_record.ensures.writes)

pub returns-clause-same : goal.returns-clause-same
returns-clause-same g c = same_but_record c.args.tables.now.names c.args.tables.now.journal (record_value c.in_ok-made.made) _ _ c.in_ok-write_record.ensures.writes
