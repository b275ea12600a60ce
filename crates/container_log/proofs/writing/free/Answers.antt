use Rattle.container_log.proofs.FreedInTurn.{one_apart}
use Rattle.container_log.proofs.One.{freed_whole, writes_freed}
use Rattle.container_log.proofs.writing.free.Goals as goal

pub returns-clause-whole : goal.returns-clause-whole
returns-clause-whole g c = freed_whole c.args.slot (g.D.Disk.view c.args.disk.now) (g.D.Disk.view c.free_all.new.disk) c.free_all.result c.requires c.free_all.ensures.writes

pub returns-clause-writes : goal.returns-clause-writes
returns-clause-writes g c = writes_freed c.args.slot (g.D.Disk.view c.args.disk.now) (g.D.Disk.view c.free_all.new.disk) _ c.free_all.ensures.writes

pub free_all-requires : goal.free_all-requires
free_all-requires g c = one_apart _ c.args.slot c.requires
