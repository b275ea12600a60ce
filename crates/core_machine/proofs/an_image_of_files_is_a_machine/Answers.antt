use Rattle.core_machine.proofs.Unopened.{files_begin, formatted_begins}
use Rattle.core_machine.proofs.an_image_of_files_is_a_machine.Goals as goal

pub returns-clause-begins : goal.returns-clause-begins
returns-clause-begins c = files_begin

pub returns-clause-formatted : goal.returns-clause-formatted
returns-clause-formatted c = formatted_begins
