use Rattle.merkle_file.proofs.RootLaws.{spellings_tell_nodes}
use Rattle.merkle_file.proofs.laws.spellings_of_nodes.Goals as goal

pub returns : goal.returns
returns c = spellings_tell_nodes
