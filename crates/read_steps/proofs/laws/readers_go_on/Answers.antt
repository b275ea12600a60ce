use Rattle.read_steps.proofs.Walks.{reads_are_whole}
use Rattle.read_steps.proofs.Openings.{segments_on}
use Rattle.read_steps.proofs.laws.readers_go_on.Goals as goal

pub returns-clause-whole : goal.returns-clause-whole
returns-clause-whole c = reads_are_whole

pub returns-clause-stays : goal.returns-clause-stays
returns-clause-stays c = λ counts s t old new ahead segments keeps. segments_on counts s t old new keeps ahead segments
