-- Two headers of one digest (docs/MODEL.md, 'Collection').
use Rattle.std.specs.Prelude.{◌≡◌, ◌≢◌, ℕ, List, ◌++◌, length}
use Rattle.sha2.specs.Sha256.{sha256}
use Rattle.container_meta.specs.Spelling.{HeaderValue, entries_spelling, fields_spelling}

-- the bytes of which a header's digest is the SHA-256: its fields, and its entries
abbrev pub hashed_bytes : HeaderValue → List ℕ
hashed_bytes h = fields_spelling h.id h.kind (length h.entries) h.data_length ++ entries_spelling h.entries

-- the bytes of two headers differ, and have one SHA-256
pub record ShareDigest (g h : HeaderValue) : Type 0 where
  pub differ : hashed_bytes g ≢ hashed_bytes h
  pub same : sha256 (hashed_bytes g) ≡ sha256 (hashed_bytes h)
