use Rattle.std.proofs.Common.{inr, refl}
use Rattle.shared_store.proofs.store.SharedStore+Core+D+NoSummary.open.Goals as goal

-- there was no memory for the lock
pub returns-in-Err-new-clause-refused : goal.returns-in-Err-new-clause-refused
returns-in-Err-new-clause-refused g c =
    inr (refl, (c.in-Err-new.core, (rw c.in-Err-new.ensures.refused c.in-Ok.ensures.opened, c.close.ensures.disk)))
