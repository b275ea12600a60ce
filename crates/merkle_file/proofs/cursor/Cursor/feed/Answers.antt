use Rattle.merkle_file.proofs.Prelude.{◌∷◌, List, reverse, sym, subst, Top, Ahead}
use Rattle.merkle_file.specs.Tree as tree
use Rattle.merkle_file.proofs.Unfolding.{walk_law}
use Rattle.merkle_file.proofs.cursor.Cursor.feed.Goals as goal

pub returns-clause-tree : goal.returns-clause-tree
returns-clause-tree c = λ level ts others ahead is.
    walk_law (reverse c.self.inside.stack.items) (reverse c.open_next.new.stack.items) c.args.bytes.now level ts others c.open_next.result c.open_next.ensures.only
    c.open_next.ensures.ok
    (subst (λ (tops : List Top). Ahead tops (tree.Node level ts ∷ others)) (sym c.self.view_is) ahead) is
