use Rattle.merkle_file.proofs.InPlace.{read_again}
use Rattle.merkle_file.proofs.in_place.nodes_are_read_again.Goals as goal

pub returns : goal.returns
returns c = read_again
