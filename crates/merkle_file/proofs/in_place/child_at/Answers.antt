use Rattle.merkle_file.proofs.Prelude.{sym, ap, ◌+◌, ◌∷◌, ◌∙◌, List, ℕ, drop, arith, Child, child_in, contents_in}
use Rattle.merkle_file.proofs.InPlace.{entry_within, child_found}
use Rattle.merkle_file.proofs.in_place.child_at.Goals as goal

pub split_at-requires : goal.split_at-requires
split_at-requires c = omega (arith, entry_within c.args.bytes.now c.args.index c.requires.node c.requires.number)

pub read_child-requires : goal.read_child-requires
read_child-requires c = omega (arith, entry_within c.args.bytes.now c.args.index c.requires.node c.requires.number, c.split_at.ensures.back_len)

pub returns : goal.returns
returns c =
    child_found c.args.bytes.now c.args.index c.requires.node c.requires.number
    ∙ ap (λ (child : Child). child ∷ drop (c.args.index + 1) (contents_in c.args.bytes.now).children)
    (sym (c.read_child.ensures ∙ ap (λ (rest : List ℕ). child_in rest) c.split_at.ensures.back))
