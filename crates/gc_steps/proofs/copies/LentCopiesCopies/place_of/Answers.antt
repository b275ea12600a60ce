use Rattle.gc_steps.proofs.Prelude.{Option, Place}
use Rattle.gc_steps.proofs.Faulted.{lookup_fault, lookup_counts}
use Rattle.gc_steps.proofs.copies.LentCopiesCopies.place_of.Goals as goal

pub returns-in-Err-clause-refused : goal.returns-in-Err-clause-refused
returns-in-Err-clause-refused g c = rw c.fault_of.ensures (lookup_fault _ _ (λ at why cause. cause.0) c.in-Err.refusal c.in-Err.ensures.refused)

pub returns-in-Err-clause-counts : goal.returns-in-Err-clause-counts
returns-in-Err-clause-counts g c = rw c.fault_of.ensures (lookup_counts (Option Place) _ _ _ c.in-Err.refusal c.in-Err.ensures.refused c.in-Err.ensures.reads.faults_are)
