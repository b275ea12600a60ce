use Rattle.merkle_file.proofs.Walking.{reverse_last}
use Rattle.merkle_file.proofs.stack.next_of.Goals as goal

pub returns : goal.returns
returns c = reverse_last c.args.stack.now _ c.requires
