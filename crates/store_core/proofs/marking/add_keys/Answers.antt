use Rattle.store_core.proofs.Marks.{keys_whole}
use Rattle.store_core.proofs.marking.add_keys.Goals as goal

pub returns : goal.returns
returns c =
    keys_whole c.args.filled.now c.entries-entry-items.result.now c.loop-entry.entry-index c.args.keys.now.items c.loop-entry.keys.items c.loop-entry-test.false
    c.loop-entry.invariant c.entries-entry-items.ensures.entries
