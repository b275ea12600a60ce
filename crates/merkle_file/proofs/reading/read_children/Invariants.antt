use Rattle.merkle_file.proofs.Prelude.{◌≡◌, ◌++◌, ◌-◌, ◌*◌, ◌≤◌, length}
use Rattle.merkle_file.specs.Reading.{children_in}
use Rattle.merkle_file.proofs.reading.read_children.Given as goal

abbrev pub invariant-loop : goal.invariant-loop
invariant-loop l = record {
  all : l.children.items ++ children_in (l.count - l.counter) l.rest ≡ children_in l.count l.bytes;
  room : 40 * (l.count - l.counter) ≤ length l.rest;
}
