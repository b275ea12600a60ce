use Rattle.ingest_steps.proofs.Prelude.{subst, passed_on, Put, Part, part_of, IsCommitRefusal}
use Rattle.ingest_steps.proofs.Committed.{uncommitted_refused}
use Rattle.ingest_steps.proofs.RecordFrames.{journal_here}
use Rattle.ingest_steps.proofs.writers.commit.Goals as goal

pub returns-in_err-may_commit-clause-refused : goal.returns-in_err-may_commit-clause-refused
returns-in_err-may_commit-clause-refused g c =
    let e = c.in_err-may_commit.field-0.0 in
    let refused = uncommitted_refused c.part.result.now c.args.tables.now c.args.name.now c.args.root.now e c.in_err-may_commit.ensures.refused in
    passed_on c.from_residual.result (IsCommitRefusal (part_of c.args.parts.now c.args.actor) c.args.tables.now c.args.name.now c.args.root.now) e c.from_residual.ensures.1
    (subst (λ (part : Part). IsCommitRefusal part c.args.tables.now c.args.name.now c.args.root.now e) c.part.ensures.part refused)

pub returns-in_err-may_commit-clause-frame : goal.returns-in_err-may_commit-clause-frame
returns-in_err-may_commit-clause-frame g c = journal_here c.args.tables.now c.args.name.now (Put c.args.root.now) (g.D.Disk.view c.args.disk.now)
