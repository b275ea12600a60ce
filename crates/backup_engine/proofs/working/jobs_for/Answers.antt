use Rattle.std.proofs.Common.{rules}
use Rattle.backup_engine.proofs.WorkJobs.{jobs_more}
use Rattle.backup_engine.proofs.working.jobs_for.Goals as goal

pub loop-number-preserved : goal.loop-number-preserved
loop-number-preserved c =
    let i = c.loop-number.invariant in record {
      items = search (rules, jobs_more);
      many = search rules;
      room = search rules;
    }
