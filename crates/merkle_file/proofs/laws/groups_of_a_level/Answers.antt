use Rattle.merkle_file.proofs.Groups.{groups_are_taken}
use Rattle.merkle_file.proofs.laws.groups_of_a_level.Goals as goal

pub returns : goal.returns
returns c = groups_are_taken
