-- The index has no keys at first.
use Rattle.adapters.proofs.index.put_two.Goals as goal

pub put-requires-clause-serves : goal.put-requires-clause-serves
put-requires-clause-serves g c = c.no_keys-index.ensures (g.D.Disk.view c.args.disk.now).size
