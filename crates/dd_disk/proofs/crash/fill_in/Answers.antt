use Rattle.dd_disk.proofs.Stops.{fill_old}
use Rattle.dd_disk.proofs.crash.fill_in.Goals as goal

pub returns-in-Old : goal.returns-in-Old
returns-in-Old c = fill_old c.args.fill c.args.at c.args.bytes.now c.args.image.now.items c.requires c.in-Old.is
