use Rattle.actor_parts.proofs.Apart.{apart}
use Rattle.actor_parts.proofs.parts.parts_are_apart.Goals as goal

pub returns : goal.returns
returns c = apart
