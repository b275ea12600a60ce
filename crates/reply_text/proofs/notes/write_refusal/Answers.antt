use Rattle.reply_text.specs.Text.{fault_line, ending_text, refusal_text}
use Rattle.reply_text.proofs.notes.write_refusal.Goals as goal

pub returns-in-DiskWrite : goal.returns-in-DiskWrite
unfolding fault_line ending_text refusal_text
returns-in-DiskWrite g c = rw c.in-DiskWrite.is c.write_pieces-in-DiskWrite.ensures

pub returns-in-AlreadyStore : goal.returns-in-AlreadyStore
unfolding fault_line ending_text refusal_text
returns-in-AlreadyStore g c = rw c.in-AlreadyStore.is c.write_pieces-in-AlreadyStore.ensures

pub returns-in-Corrupt : goal.returns-in-Corrupt
returns-in-Corrupt g c = rw c.in-Corrupt.is c.write_corrupt.ensures
