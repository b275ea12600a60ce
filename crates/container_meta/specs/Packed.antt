-- How an open container keeps its segments.
use Rattle.std.specs.Prelude.{◌≡◌, ℕ, ◌≤◌, [], length, vec_len, vec_capacity}
use Rattle.std.specs.Global.{Vec}
use Rattle.disk_format.specs.declared.numbers.TheConstants.{DATA_BYTES, MOST_ENTRIES}
use Rattle.container_meta.specs.declared.kind.Kind.{Kind}
use Rattle.container_meta.specs.declared.entry.Entry.{Entry}
use Rattle.container_meta.specs.Segments.{segments_in, entries_from}
use Rattle.container_meta.specs.Spelling.{bytes_of, Follow}

-- The entries are those of the segments that they cut the bytes into, and there is memory for a full container.
pub record IsPacked (kind : Kind) (entries : Vec Entry) (bytes : Vec ℕ) : Type 0 where
  pub exact : entries.items ≡ entries_from 0 (segments_in entries.items bytes.items)
  pub whole : bytes_of entries.items ≡ length bytes.items
  pub allowed : Follow kind [] entries.items
  pub few : vec_len entries ≤ MOST_ENTRIES
  pub fits : vec_len bytes ≤ DATA_BYTES
  pub room_for_entries : MOST_ENTRIES ≤ vec_capacity entries
  pub room_for_bytes : DATA_BYTES ≤ vec_capacity bytes
