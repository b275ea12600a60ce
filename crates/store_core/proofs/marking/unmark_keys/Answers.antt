use Rattle.store_core.proofs.Marks.{unmarks_some}
use Rattle.store_core.proofs.marking.unmark_keys.Goals as goal

pub returns-in-Some : goal.returns-in-Some
returns-in-Some c = λ before restores. unmarks_some before c.args.collection.now c.args.keys.now c.in-Some.running c.unmark.new.collection c.in-Some.is c.unmark.ensures.others
    c.unmark.ensures.unmarks restores
