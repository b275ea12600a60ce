use Rattle.backup_engine.proofs.Prelude.{Ok, Err, inl, refl}
use Rattle.backup_engine.proofs.top_call.check_disk.Goals as goal

pub returns-in-Ok-clause-checks : goal.returns-in-Ok-clause-checks
returns-in-Ok-clause-checks g c = λ source.
    let done = c.in-Ok.ensures in
    record { ended = Ok c.in-Ok.status; status_is = refl; noted = refl; checks = inl done.checks; reads = done.reads; source_is = refl }

pub returns-in-Err-clause-checks : goal.returns-in-Err-clause-checks
returns-in-Err-clause-checks g c = λ source.
    let ended = c.in-Err.ensures in
    record {
      ended = Err c.in-Err.ending;
      status_is = c.give_up.ensures.status;
      noted = c.give_up.ensures.noted;
      checks = inl ended.checks;
      reads = ended.reads;
      source_is = refl;
    }
