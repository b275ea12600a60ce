use Rattle.std.proofs.Common.{length, rules}
use Rattle.base_model.proofs.Outcome.{both_ok}
use Rattle.dd_disk.proofs.Shows.{shows_read}
use Rattle.dd_disk.proofs.calls.read_at.Goals as goal

pub returns-clause-shown : goal.returns-clause-shown
returns-clause-shown g c =
    both_ok c.read.result (shows_read (g.D.Disk.view c.args.disk.now) (g.D.Disk.view c.read.new.self) c.args.at (length c.args.into.now) c.read.new.into (search rules))
    c.read.ensures.returned c.read.ensures.bytes
