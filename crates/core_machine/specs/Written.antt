-- What the collection that runs has written: no copy of it is to be written again.
use Rattle.std.specs.Prelude.{◌≡◌, ◌≤◌, ℕ, true, List, Contains, Option, Some, find, slice_get}
use Rattle.std.specs.Str.{bytes_eq}
use Rattle.base_model.specs.Bytes.{key_of}
use Rattle.container_meta.specs.declared.entry.Entry.{Entry}
use Rattle.container_meta.specs.Format.{kind_byte}
use Rattle.container_meta.specs.Segments.{Contents, has_key}
use Rattle.container_meta.specs.Spelling.{HeaderValue}
use Rattle.gc_steps.specs.declared.collection.Collection.{Collection}
use Rattle.store_core.specs.State.{CoreState}
use Rattle.store_machine.specs.ByMap.{FileMachine}
use Rattle.store_machine.specs.Collecting.{keys_written}
use Rattle.store_machine.specs.Machine.{Collection as MachineCollection}

-- A key that was written: a container of an id from the snapshot on has it, and what is to be written doesn't.
pub record IsWritten (held : List (Option HeaderValue)) (snapshot : ℕ) (buffer : Contents) (key : List ℕ) : Type 0 where
  pub slot : ℕ
  pub header : HeaderValue
  pub there : slice_get held slot ≡ Some (Some header)
  pub new : snapshot ≤ header.id
  pub entry : Entry
  pub found : find (λ e. bytes_eq (key_of (kind_byte header.kind) e.digest) key) header.entries ≡ Some entry
  pub unfilled : ¬ (has_key buffer key ≡ true)

-- so is each key that it wrote
abbrev pub WroteOnce : FileMachine → CoreState → Type 0
WroteOnce m c = (ran : MachineCollection (List ℕ)) (collection : Collection) → m.collection ≡ Some ran → c.collection ≡ Some collection
    → (key : List ℕ) → Contains (keys_written ran.changes) key
    → IsWritten m.store.held collection.snapshot collection.sweep.buffer key
