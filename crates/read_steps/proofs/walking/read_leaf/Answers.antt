use Rattle.read_steps.proofs.Walks.{misnamed_leaf}
use Rattle.read_steps.proofs.walking.read_leaf.Goals as goal

pub returns-then-got-named-clause-refused : goal.returns-then-got-named-clause-refused
returns-then-got-named-clause-refused g c =
    misnamed_leaf (g.X.Index.places c.args.index.now (g.D.Disk.view c.args.disk.now).content) (g.X.Index.breaks c.args.index.now) (g.D.Disk.view c.args.disk.now)
    (g.D.Disk.view c.read_newest.new.disk)
    c.args.named c.args.digest.now c.in_ok-place.place _ c.from-got.result c.in_ok-place.ensures.copy c.in_ok-place.ensures.digest c.from-got.ensures c.if-got-named.true
    c.damaged.result c.damaged.ensures
