use Rattle.container_meta.proofs.Prelude.{◌≡◌, ◌-◌, ◌≤◌, [], length, bytes_of}
use Rattle.std.proofs.Common.{vec_capacity}
use Rattle.container_meta.specs.Reading.{entries_at}
use Rattle.container_meta.proofs.reading.read_entries.Given as goal

abbrev pub invariant-loop-i : goal.invariant-loop-i
invariant-loop-i l = record {
  many : length l.entries.items ≡ l.i;
  sum : l.end ≡ bytes_of l.entries.items;
  small : l.end ≤ l.data_length;
  room : vec_capacity l.fn.entries ≤ vec_capacity l.entries;
  so_far : entries_at l.kind l.data_length (l.count - l.i) l.entries.items l.bytes ≡ entries_at l.kind l.data_length l.count [] l.bytes;
}
