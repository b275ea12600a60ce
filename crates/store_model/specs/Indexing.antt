-- An index over a container more, and how much a store holds (docs/MODEL.md, 'Containers').
use Rattle.std.specs.Prelude.{ℕ, ◌+◌, List, [], ◌∷◌, length, Option, Some, None}
use Rattle.std.specs.FinMap as finite
use Rattle.base_model.specs.Bytes.{key_of}
use Rattle.container_meta.specs.declared.entry.Entry.{Entry}
use Rattle.container_meta.specs.declared.kind.Kind.{Kind}
use Rattle.container_meta.specs.Format.{kind_byte}
use Rattle.container_meta.specs.Places.{PlaceMap}
use Rattle.container_meta.specs.Spelling.{HeaderValue}
use Rattle.store_model.specs.Slots.{place_of}

-- the key of an entry of a container of some kind
abbrev pub entry_key : Kind → Entry → List ℕ
entry_key kind e = key_of (kind_byte kind) e.digest

-- the index with the place of each of these entries, in this slot, put under its key, the first of them first
abbrev pub with_entries : Kind → ℕ → List Entry → PlaceMap → PlaceMap
with_entries kind slot [] places = places
with_entries kind slot (e ∷ es) places = with_entries kind slot es (finite.insert places (entry_key kind e) (place_of slot e))

-- how many there are
abbrev pub entries_in : List (Option HeaderValue) → ℕ
entries_in [] = 0
entries_in (None ∷ cs) = entries_in cs
entries_in (Some h ∷ cs) = length h.entries + entries_in cs

-- how many bytes of data the containers hold
abbrev pub bytes_in_slots : List (Option HeaderValue) → ℕ
bytes_in_slots [] = 0
bytes_in_slots (None ∷ cs) = bytes_in_slots cs
bytes_in_slots (Some h ∷ cs) = h.data_length + bytes_in_slots cs
