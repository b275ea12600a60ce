use Rattle.container_meta.proofs.Lists.{zeros_written}
use Rattle.container_meta.proofs.writing.put_zeros.Goals as goal

pub returns : goal.returns
returns c = zeros_written c.args.at c.args.count c.args.out.now c.fill.new.self c.requires (c.fill.ensures.after (λ y e. e))
