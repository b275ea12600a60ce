-- The one spelling of each header and of each container.
use Rattle.std.specs.Prelude.{◌≡◌, ℕ, ◌*◌, ◌-◌, List, [], ◌∷◌, ◌++◌, length, sum_by, Bool, true, false, Option, Some, option_map}
use Rattle.base_model.specs.Bytes.{range, zeros}
use Rattle.std.specs.List.{flat_map, list_any}
use Rattle.std.specs.Str.{bytes_eq}
use Rattle.std.specs.Int.{w16, w32, w64, to_be_bytes}
use Rattle.sha2.specs.Sha256.{sha256}
use Rattle.disk_format.specs.declared.numbers.TheConstants.{CONTAINER_GATE, DATA_BYTES}
use Rattle.container_meta.specs.declared.kind.Kind.{Kind}
use Rattle.container_meta.specs.declared.entry.Entry.{Entry}
use Rattle.container_meta.specs.declared.entry.Header.{Header}
use Rattle.container_meta.specs.declared.entry.Meta.{Meta}
use Rattle.container_meta.specs.Format.{magic, is_id, is_count, is_data_length, kind_byte, kind_of, is_length, is_level, entry_place}
use Rattle.container_meta.specs.Segments.{Segment, bytes_in, data_of, entries_from}

-- a header and its entries, without where they lie in memory
pub record HeaderValue : Type 0 where
  pub id : ℕ
  pub kind : Kind
  pub data_length : ℕ
  pub entries : List Entry

-- a header without entries, with these
abbrev pub with_entries : Header → List Entry → HeaderValue
with_entries h entries = record { id = h.id; kind = h.kind; data_length = h.data_length; entries = entries }

-- what a slot holds, if it is open: a header without entries, with these
abbrev pub held_with : Option Header → List Entry → Option HeaderValue
held_with held entries = option_map (λ h. with_entries h entries) held

abbrev pub view : Meta → HeaderValue
view m = record { id = m.id; kind = m.kind; data_length = m.data_length; entries = m.entries.items }

-- 48 bytes
unfoldable pub entry_spelling : Entry → List ℕ
entry_spelling e = e.digest ++ to_be_bytes w32 e.offset ++ to_be_bytes w32 e.length ++ e.level ∷ zeros 7

unfoldable pub entries_spelling : List Entry → List ℕ
entries_spelling entries = flat_map entry_spelling entries

-- bytes 1 to 23
unfoldable pub fields_spelling : ℕ → Kind → ℕ → ℕ → List ℕ
fields_spelling id kind count data_length =
    magic ++ to_be_bytes w64 id ++ kind_byte kind ∷ 0 ∷ to_be_bytes w16 count ++ to_be_bytes w32 data_length

-- the 512 bytes before the entries: the gate, the fields, the digest of fields and entries, zeros
unfoldable pub front_spelling : List ℕ → List ℕ → List ℕ
front_spelling fields entries = CONTAINER_GATE ∷ fields ++ sha256 (fields ++ entries) ++ zeros 456

-- how many bytes a header takes, with its entries
abbrev pub header_size : HeaderValue → ℕ
header_size h = entry_place (length h.entries)

-- these bytes
abbrev pub header_spelling : HeaderValue → List ℕ
header_spelling h =
    let fields = fields_spelling h.id h.kind (length h.entries) h.data_length in
    let entries = entries_spelling h.entries in
    front_spelling fields entries ++ entries

-- the digest that a header has: of its bytes 1 to 23 followed by those of the entries
unfoldable pub header_digest : HeaderValue → List ℕ
header_digest h =
    sha256 (fields_spelling h.id h.kind (length h.entries) h.data_length ++ entries_spelling h.entries)

-- how many bytes of data entries speak of
abbrev pub bytes_of : List Entry → ℕ
bytes_of entries = sum_by (λ e. e.length) entries

abbrev pub has_digest : List Entry → List ℕ → Bool
has_digest entries digest = list_any (λ e. bytes_eq e.digest digest) entries

-- an entry that may stand after others
pub record IsNext (kind : Kind) (before : List Entry) (e : Entry) : Type 0 where
  pub digest : length e.digest ≡ 32
  pub new : has_digest before e.digest ≡ false
  pub offset : e.offset ≡ bytes_of before
  pub length : is_length kind e.length ≡ true
  pub level : is_level kind e.level ≡ true

-- each entry may stand after those before it
abbrev pub Follow : Kind → List Entry → List Entry → Type 0
Follow kind before [] = Unit {0}
Follow kind before (e ∷ es) = IsNext kind before e × Follow kind (before ++ e ∷ []) es

-- what has a spelling
pub record IsHeader (h : HeaderValue) : Type 0 where
  pub id : is_id h.id ≡ true
  pub kind : kind_of (kind_byte h.kind) ≡ Some h.kind
  pub count : is_count (length h.entries) ≡ true
  pub data_length : is_data_length h.data_length ≡ true
  pub entries : Follow h.kind [] h.entries
  pub whole : bytes_of h.entries ≡ h.data_length

-- bytes that begin with the spelling of a header; what comes after it is free
abbrev pub IsSpelled : HeaderValue → List ℕ → Type 0
IsSpelled h bytes = IsHeader h × (range 0 (header_size h) bytes ≡ header_spelling h)

-- the header of a container that holds these segments
abbrev pub header_of : ℕ → Kind → List Segment → HeaderValue
header_of id kind segments = record { id = id; kind = kind; data_length = bytes_in segments; entries = entries_from 0 segments }

-- the 262,144 bytes of a container as it is written: its header, zeros up to its data, the bytes of the segments, zeros
abbrev pub container_spelling : ℕ → Kind → List Segment → List ℕ
container_spelling id kind segments =
    let h = header_of id kind segments in
    header_spelling h ++ zeros (49152 - 48 * length h.entries) ++ data_of segments ++ zeros (DATA_BYTES - bytes_in segments)
