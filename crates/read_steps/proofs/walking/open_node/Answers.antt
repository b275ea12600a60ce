use Rattle.std.proofs.Common.{refl}
use Rattle.read_steps.specs.Walking.{WasRead}
use Rattle.read_steps.proofs.Visits.{node_visited}
use Rattle.read_steps.proofs.Walks.{walked_one, falls_one, misnamed_node}
use Rattle.read_steps.proofs.walking.open_node.Goals as goal

pub returns-in-Ok-clause-visits : goal.returns-in-Ok-clause-visits
returns-in-Ok-clause-visits g c =
    node_visited (g.X.Index.places c.args.index.now (g.D.Disk.view c.args.disk.now).content) (g.D.Disk.view c.args.disk.now) (g.D.Disk.view c.read_newest.new.disk)
    c.args.cursor.now c.feed.new.self c.args.digest.now c.in_ok-place.place _ c.requires.node c.in_ok-place.ensures.copy c.in_ok-place.ensures.digest c.in-Ok.ensures.found
    c.in-Ok.ensures.ok

pub returns-in-Ok-clause-walked : goal.returns-in-Ok-clause-walked
returns-in-Ok-clause-walked g c =
    walked_one (WasRead (g.X.Index.places c.args.index.now (g.D.Disk.view c.args.disk.now).content) (g.D.Disk.view c.args.disk.now) (g.D.Disk.view c.read_newest.new.disk))
    c.args.cursor.now c.feed.new.self c.args.digest.now _ c.requires.node (record { place = c.in_ok-place.place; copy = c.in_ok-place.ensures.copy }) c.in_ok-place.ensures.digest
    c.in-Ok.ensures.found c.in-Ok.ensures.ok

pub returns-in-Ok-clause-falls : goal.returns-in-Ok-clause-falls
returns-in-Ok-clause-falls g c = falls_one c.args.cursor.now c.feed.new.self c.args.digest.now _ c.requires.node c.in-Ok.ensures.found c.in-Ok.ensures.ok

pub returns-in-Err-clause-cause : goal.returns-in-Err-clause-cause
returns-in-Err-clause-cause g c =
    (misnamed_node (g.X.Index.places c.args.index.now (g.D.Disk.view c.args.disk.now).content) (g.X.Index.breaks c.args.index.now) (g.D.Disk.view c.args.disk.now)
    (g.D.Disk.view c.read_newest.new.disk)
    c.args.cursor.now c.args.cursor.now c.args.digest.now c.in_ok-place.place _ c.in-Err.fault.offset c.in-Err.fault.got c.requires.node c.in_ok-place.ensures.copy
    c.in_ok-place.ensures.digest
    c.in-Err.ensures.fault refl c.damaged.result c.damaged.ensures).cause

pub returns-in-Err-clause-refused : goal.returns-in-Err-clause-refused
returns-in-Err-clause-refused g c =
    misnamed_node (g.X.Index.places c.args.index.now (g.D.Disk.view c.args.disk.now).content) (g.X.Index.breaks c.args.index.now) (g.D.Disk.view c.args.disk.now)
    (g.D.Disk.view c.read_newest.new.disk)
    c.args.cursor.now c.feed.new.self c.args.digest.now c.in_ok-place.place _ c.in-Err.fault.offset c.in-Err.fault.got c.requires.node c.in_ok-place.ensures.copy
    c.in_ok-place.ensures.digest
    c.in-Err.ensures.fault c.in-Err.ensures.err c.damaged.result c.damaged.ensures
