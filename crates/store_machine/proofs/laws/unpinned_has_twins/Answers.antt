use Rattle.store_machine.proofs.Prelude.{refl, of_files, of_roots}
use Rattle.store_machine.proofs.TwinLines.{file_reads, root_reads, unpinned_has_twins}
use Rattle.store_machine.proofs.laws.unpinned_has_twins.Goals as goal

pub returns : goal.returns
returns c = record {
  files = unpinned_has_twins of_files (λ file. refl) file_reads;
  roots = unpinned_has_twins of_roots (λ file. refl) root_reads;
}
