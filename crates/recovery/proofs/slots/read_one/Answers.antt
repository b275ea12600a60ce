use Rattle.recovery.proofs.Prelude.{refl, always}
use Rattle.recovery.proofs.slots.read_one.Goals as goal

pub returns-in-Err-DiskRead-clause-only : goal.returns-in-Err-DiskRead-clause-only
returns-in-Err-DiskRead-clause-only g c = always _ _ _ (λ image sized held holds. refl)
