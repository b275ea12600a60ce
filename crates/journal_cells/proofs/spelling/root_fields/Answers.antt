use Rattle.journal_cells.proofs.Prelude.{sym, ap, root_in}
use Rattle.base_model.specs.Bytes.{zeros}
use Rattle.namespace.specs.Names.{change_value}
use Rattle.journal_cells.proofs.spelling.root_fields.Goals as goal

pub returns-in-Delete : goal.returns-in-Delete
unfolding zeros
returns-in-Delete c = ap (λ change. root_in (change_value change)) (sym c.in-Delete.is)
