use Rattle.store_machine.specs.Values.{of_files, of_roots}
use Rattle.shared_store.proofs.Booking.{books_replay}
use Rattle.shared_store.proofs.laws.the_names_are_the_book.Goals as goal

pub returns-clause-files : goal.returns-clause-files
returns-clause-files g = books_replay of_files

pub returns-clause-roots : goal.returns-clause-roots
returns-clause-roots g = books_replay of_roots
