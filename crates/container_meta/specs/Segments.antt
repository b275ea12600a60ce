-- What an open container holds, and which header it has.
use Rattle.std.specs.Prelude.{◌≡◌, ℕ, ◌+◌, List, [], ◌∷◌, length, take, drop, get_or, map, sum_by, Bool, true, false, nat_lt, nat_le, ◌&&◌, ◌==◌}
use Rattle.std.specs.List.{flat_map, list_any}
use Rattle.std.specs.Str.{bytes_eq}
use Rattle.sha2.specs.Sha256.{sha256}
use Rattle.base_model.specs.Bytes.{range, key_of}
use Rattle.disk_format.specs.declared.numbers.TheConstants.{DATA_BYTES, HEADER_BYTES, MOST_ENTRIES}
use Rattle.container_meta.specs.declared.kind.Kind.{Kind}
use Rattle.container_meta.specs.declared.entry.Entry.{Entry}
use Rattle.container_meta.specs.Format.{kind_byte, is_length, is_level}

-- what a container holds of a segment
pub record Segment : Type 0 where
  pub level : ℕ
  pub bytes : List ℕ

-- a segment with its kind
pub record KindSegment : Type 0 where
  pub kind : Kind
  pub segment : Segment

-- an open container: its kind, and the segments in the order in which they were added
pub record Contents : Type 0 where
  pub kind : Kind
  pub segments : List Segment

abbrev pub segment_key : Kind → Segment → List ℕ
segment_key kind segment = key_of (kind_byte kind) (sha256 segment.bytes)

-- the keys of what a container holds
abbrev pub keys_of : Contents → List (List ℕ)
keys_of contents = map (segment_key contents.kind) contents.segments

abbrev pub has_key : Contents → List ℕ → Bool
has_key contents key = list_any (λ k. bytes_eq k key) (keys_of contents)

-- a segment of this level, with these bytes
abbrev pub is_segment : Segment → Segment → Bool
is_segment segment s = (s.level == segment.level) && bytes_eq s.bytes segment.bytes

-- such a segment is in it
abbrev pub has_segment : Contents → Segment → Bool
has_segment contents segment = list_any (is_segment segment) contents.segments

-- how many bytes of data segments have together
abbrev pub bytes_in : List Segment → ℕ
bytes_in segments = sum_by (λ s. length s.bytes) segments

-- the bytes of segments, one after the other
abbrev pub data_of : List Segment → List ℕ
data_of segments = flat_map (λ s. s.bytes) segments

-- the entries of segments whose bytes begin at an offset
abbrev pub entries_from : ℕ → List Segment → List Entry
entries_from offset [] = []
entries_from offset (s ∷ ss) =
    record { digest = sha256 s.bytes; offset = offset; length = length s.bytes; level = s.level }
    ∷ entries_from (offset + length s.bytes) ss

-- the segment of a number; past the last, one with no bytes
abbrev pub segment_at : List Segment → ℕ → Segment
segment_at segments i = get_or segments i (record { level = 0; bytes = [] })

-- segments stand in a slot one after the other, from an offset of its data on
abbrev pub StandFrom : ℕ → List Segment → List ℕ → Type 0
StandFrom offset [] slot = Unit {0}
StandFrom offset (s ∷ ss) slot =
    (range (HEADER_BYTES + offset) (length s.bytes) slot ≡ s.bytes) × StandFrom (offset + length s.bytes) ss slot

-- the segments that entries cut bytes into
abbrev pub segments_in : List Entry → List ℕ → List Segment
segments_in [] bytes = []
segments_in (e ∷ es) bytes = record { level = e.level; bytes = take e.length bytes } ∷ segments_in es (drop e.length bytes)

-- a segment that a container takes, if there is room
pub record CanAdd (contents : Contents) (s : KindSegment) : Type 0 where
  pub kind : s.kind ≡ contents.kind
  pub new : has_key contents (segment_key s.kind s.segment) ≡ false
  pub length : is_length s.kind (length s.segment.bytes) ≡ true
  pub level : is_level s.kind s.segment.level ≡ true

-- there is room for one more segment of so many bytes
abbrev pub has_room : Contents → ℕ → Bool
has_room contents bytes = nat_lt (length contents.segments) MOST_ENTRIES && nat_le (bytes_in contents.segments + bytes) DATA_BYTES
