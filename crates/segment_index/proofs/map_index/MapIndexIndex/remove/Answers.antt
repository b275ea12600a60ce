use Rattle.std.proofs.Common.{sym, subst}
use Rattle.segment_index.specs.Places.{HasPlaces}
use Rattle.segment_index.proofs.Served.{served_without}
use Rattle.segment_index.proofs.map_index.MapIndexIndex.remove.Goals as goal

pub returns-clause-served : goal.returns-clause-served
returns-clause-served g c =
    let size = (g.D.Disk.view c.args._disk.now).size in
    subst (HasPlaces size) (sym c.forget.ensures) (served_without size c.args.self.now c.args.key.now c.requires.serves)
