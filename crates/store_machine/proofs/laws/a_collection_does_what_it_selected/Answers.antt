use Rattle.store_machine.proofs.Prelude.{of_files}
use Rattle.store_machine.proofs.Ended.{collects_what_it_selected}
use Rattle.store_machine.proofs.laws.a_collection_does_what_it_selected.Goals as goal

pub returns : goal.returns
returns c = collects_what_it_selected of_files
