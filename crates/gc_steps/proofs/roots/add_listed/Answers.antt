use Rattle.gc_steps.proofs.RootKeys.{listed_turn}
use Rattle.gc_steps.proofs.roots.add_listed.Goals as goal

pub loop-file-preserved : goal.loop-file-preserved
loop-file-preserved c =
    listed_turn c.args.files.now c.loop-file.file-index c.file-item.result c.args.roots.now.items c.loop-file.roots.items c.add_root.new.roots.items c.loop-file-test.true
    c.file-item.is
    c.loop-file.invariant c.in_ok-add_root.ensures
