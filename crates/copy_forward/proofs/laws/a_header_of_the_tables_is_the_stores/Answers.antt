use Rattle.copy_forward.proofs.SameHeaders.{stores_or_shared}
use Rattle.copy_forward.proofs.laws.a_header_of_the_tables_is_the_stores.Goals as goal

pub returns : goal.returns
returns c = stores_or_shared
