use Rattle.merkle_file.proofs.Prelude.{◌≡◌, ◌+◌, ◌-◌, ◌*◌, ◌≤◌, length, MOST_FILE}
use Rattle.merkle_file.specs.Reading.{entries_fault}
use Rattle.merkle_file.proofs.reading.check_entries.Given as goal

abbrev pub invariant-loop-index : goal.invariant-loop-index
invariant-loop-index l = record {
  same : entries_fault l.asked l.level (l.count - l.index) l.at l.before l.rest ≡ entries_fault l.asked l.level l.count 4 0 l.bytes;
  long : length l.rest ≡ 40 * (l.count - l.index);
  place : l.at ≡ 4 + 40 * l.index;
  below : l.before ≤ MOST_FILE;
}
