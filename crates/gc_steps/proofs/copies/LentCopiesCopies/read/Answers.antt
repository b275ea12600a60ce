use Rattle.gc_steps.proofs.Faulted.{read_fault, read_counts}
use Rattle.gc_steps.proofs.copies.LentCopiesCopies.read.Goals as goal

pub returns-in-Err-clause-refused : goal.returns-in-Err-clause-refused
returns-in-Err-clause-refused g c = rw c.fault_of.ensures (read_fault _ _ c.args.place.now c.args.digest.now c.in-Err.refusal c.in-Err.ensures.refused)

pub returns-in-Err-clause-counts : goal.returns-in-Err-clause-counts
returns-in-Err-clause-counts g c = rw c.fault_of.ensures
    (read_counts (Unit {0}) _ _ c.args.place.now c.args.digest.now _ _ c.in-Err.refusal c.in-Err.ensures.refused c.in-Err.ensures.reads.faults_are)
