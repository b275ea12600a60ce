use Rattle.std.proofs.Common.{◌∙◌}
use Rattle.read_steps.proofs.Openings.{file_ahead}
use Rattle.read_steps.proofs.opening.begin_walk.Goals as goal

pub returns-clause-file : goal.returns-clause-file
returns-clause-file c = λ store files image same holds.
    file_ahead store files image c.args.name.now c.args.names.now c.in_ok-root.root c.in_ok-cursor.cursor c.in_ok-root.ensures.root same holds
    (λ t right top. c.in_ok-cursor.ensures.tree t right (c.top_of.ensures ∙ top))
