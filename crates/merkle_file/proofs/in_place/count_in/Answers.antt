use Rattle.merkle_file.proofs.Prelude.{sym, ◌∙◌, arith}
use Rattle.merkle_file.proofs.InPlace.{node_is_long}
use Rattle.merkle_file.proofs.in_place.count_in.Goals as goal

pub count_of-requires : goal.count_of-requires
count_of-requires c = omega (arith, (node_is_long c.args.bytes.now c.requires).long)

pub returns : goal.returns
returns c = c.count_of.ensures ∙ sym (node_is_long c.args.bytes.now c.requires).count
