-- What a reader finds in the bytes of a header, or the first fault. Bytes after the last entry are not looked at.
use Rattle.std.specs.Prelude.{◌≡◌, ◌≤◌, ℕ, zero, suc, ◌+◌, ◌*◌, List, [], ◌∷◌, ◌++◌, length, Bool, not, ◌&&◌, ◌==◌, nat_le, if◌then◌else◌, is_some, unwrap_or, Result, Ok, Err, IfOk}
use Rattle.std.specs.Str.{bytes_eq}
use Rattle.std.specs.Int.{w16, w32, w64}
use Rattle.sha2.specs.Sha256.{sha256}
use Rattle.base_model.specs.Bytes.{range, byte_at}
use Rattle.base_model.specs.Checks.{Check, checked, passes, ◌>>=◌}
use Rattle.base_model.specs.Numbers.{number_at, seven_at}
use Rattle.disk_format.specs.declared.numbers.TheConstants.{CONTAINER_GATE}
use Rattle.container_meta.specs.declared.kind.Kind.{Kind}
use Rattle.container_meta.specs.declared.kind.Kind.TheVariants.{Leaf}
use Rattle.container_meta.specs.declared.entry.Entry.{Entry}
use Rattle.container_meta.specs.declared.entry.Header.{Header}
use Rattle.container_meta.specs.declared.fault.MetaFault.{MetaFault}
use Rattle.container_meta.specs.declared.fault.MetaFault.TheVariants.{Gate, Magic, Field, Digest, Memory}
use Rattle.container_meta.specs.Format.{magic, is_id, is_count, is_data_length, kind_of, is_length, is_level, entry_place}
use Rattle.container_meta.specs.Spelling.{HeaderValue, with_entries, bytes_of, has_digest}

-- What a function returned, seen by view, is what reading gives, unless memory ran out.
abbrev pub Fails : {Y : Type 0} → MetaFault → Result Y MetaFault → Type 0
Fails Memory read = Unit {0}
Fails (Gate byte) read = read ≡ Err (Gate byte)
Fails Magic read = read ≡ Err Magic
Fails (Field offset got) read = read ≡ Err (Field offset got)
Fails (Digest want got) read = read ≡ Err (Digest want got)

abbrev pub Gives : {X Y : Type 0} → (X → Y) → Result X MetaFault → Result Y MetaFault → Type 0
Gives view (Ok x) read = read ≡ Ok (view x)
Gives view (Err e) read = Fails e read

-- a number in a field, which breaks its rule or keeps it
abbrev pub field : ℕ → ℕ → Bool → Check MetaFault
field offset got holds = record { holds = holds; fault = Field offset got }

-- how many zeros a list begins with
abbrev pub zeros_in_front : List ℕ → ℕ
zeros_in_front [] = 0
zeros_in_front (b ∷ bs) = if b == 0 then suc (zeros_in_front bs) else 0

-- the place of the first byte from a place on that isn't zero, or the end of the bytes that have to be
unfoldable pub zeros_end : ℕ → ℕ → List ℕ → ℕ
zeros_end from count bytes = from + zeros_in_front (range from count bytes)

abbrev pub count_at : List ℕ → ℕ
count_at bytes = number_at w16 18 bytes

-- what has to hold before the digest can be taken
abbrev pub opening_checks : List ℕ → List (Check MetaFault)
opening_checks bytes =
    record { holds = byte_at 0 bytes == CONTAINER_GATE; fault = Gate (byte_at 0 bytes) }
    ∷ record { holds = bytes_eq (range 1 7 bytes) magic; fault = Magic }
    ∷ field 18 (count_at bytes) (is_count (count_at bytes))
    ∷ []

-- the count of entries, or why it is not read
abbrev pub count_in : List ℕ → Result ℕ MetaFault
count_in bytes = checked (opening_checks bytes) (count_at bytes)

-- The bytes reach to the end of the header that they begin: they are 512 at least, and 48 for each entry where the count is read.
abbrev pub ReachEnd : List ℕ → Type 0
ReachEnd bytes = (entry_place 0 ≤ length bytes) × IfOk (count_in bytes) (λ count. entry_place count ≤ length bytes)

-- how many bytes that takes
abbrev pub end_of : Result ℕ MetaFault → ℕ
end_of (Ok count) = entry_place count
end_of (Err fault) = entry_place 0

-- the digest of bytes 1 to 23 and of the entries
abbrev pub digest_at : List ℕ → List ℕ
digest_at bytes = sha256 (range 1 23 bytes ++ range 512 (48 * count_at bytes) bytes)

abbrev pub digest_checks : List ℕ → List (Check MetaFault)
digest_checks bytes =
    record { holds = bytes_eq (range 24 32 bytes) (digest_at bytes); fault = Digest (range 24 32 bytes) (digest_at bytes) }
    ∷ []

-- the fields before the entries, by their offsets
abbrev pub field_checks : List ℕ → List (Check MetaFault)
field_checks bytes =
    field 8 (number_at w64 8 bytes) (is_id (number_at w64 8 bytes))
    ∷ field 16 (byte_at 16 bytes) (is_some (kind_of (byte_at 16 bytes)))
    ∷ field 17 (byte_at 17 bytes) (byte_at 17 bytes == 0)
    ∷ field 20 (number_at w32 20 bytes) (is_data_length (number_at w32 20 bytes))
    ∷ field 56 (byte_at (zeros_end 56 456 bytes) bytes) (zeros_end 56 456 bytes == 512)
    ∷ []

abbrev pub entry_at : ℕ → List ℕ → Entry
entry_at at bytes = record {
  digest = range at 32 bytes;
  offset = number_at w32 (at + 32) bytes;
  length = number_at w32 (at + 36) bytes;
  level = byte_at (at + 40) bytes;
}

-- the data of an entry ends where the next one's begins, and that of the last at the data's end
abbrev pub is_end : ℕ → ℕ → ℕ → Bool
is_end after data_length end = if after == 0 then end == data_length else nat_le end data_length

-- an entry that stands at a place after others, and before so many
abbrev pub entry_checks : Kind → ℕ → ℕ → List Entry → ℕ → List ℕ → List (Check MetaFault)
entry_checks kind data_length after before at bytes =
    let e = entry_at at bytes in
    field at (byte_at at bytes) (not (has_digest before e.digest))
    ∷ field (at + 32) e.offset (e.offset == bytes_of before)
    ∷ field (at + 36) e.length (is_length kind e.length && is_end after data_length (bytes_of before + e.length))
    ∷ field (at + 40) e.level (is_level kind e.level)
    ∷ field (at + 41) (seven_at (at + 41) bytes) (seven_at (at + 41) bytes == 0)
    ∷ []

-- the entry that comes after others, or its first fault
abbrev pub next_read : Kind → ℕ → ℕ → List Entry → List ℕ → Result Entry MetaFault
next_read kind data_length after before bytes =
    let at = entry_place (length before) in
    checked (entry_checks kind data_length after before at bytes) (entry_at at bytes)

-- so many entries, after those that were read before
unfoldable pub entries_at : Kind → ℕ → ℕ → List Entry → List ℕ → Result (List Entry) MetaFault
entries_at kind data_length zero before bytes = Ok before
entries_at kind data_length (suc after) before bytes = do
  e ← next_read kind data_length after before bytes
  entries_at kind data_length after (before ++ e ∷ []) bytes

-- the entries, where they were read
abbrev pub filled : Result (Unit {0}) MetaFault → List Entry → Result (List Entry) MetaFault
filled (Ok done) entries = Ok entries
filled (Err fault) entries = Err fault

-- the header with its entries, where they were read
abbrev pub decoded : Result Header MetaFault → List Entry → Result HeaderValue MetaFault
decoded (Ok header) entries = Ok (with_entries header entries)
decoded (Err fault) entries = Err fault

abbrev pub kind_at : List ℕ → Kind
kind_at bytes = unwrap_or (kind_of (byte_at 16 bytes)) Leaf

-- the header that the bytes spell, or the first fault
unfoldable pub header_at : List ℕ → Result HeaderValue MetaFault
header_at bytes = do
  count ← count_in bytes
  digest ← passes (digest_checks bytes)
  kind ← checked (field_checks bytes) (kind_at bytes)
  entries ← entries_at kind (number_at w32 20 bytes) count [] bytes
  Ok (record { id = number_at w64 8 bytes; kind = kind; data_length = number_at w32 20 bytes; entries = entries })
