-- A header that was read says its digest.
use Rattle.container_meta.proofs.Prelude.{◌≡◌, ℕ, List, Result, Ok, Err, ◌∙◌, Entry, Header, MetaFault, HeaderValue, with_entries}
use Rattle.std.proofs.Common.{IfOk}
use Rattle.base_model.specs.Bytes.{range}
use Rattle.container_meta.specs.Spelling.{IsSpelled, header_digest}
use Rattle.container_meta.proofs.Parts.{parts_of_spelling}

digest_said : (h : HeaderValue) (bytes : List ℕ) → IsSpelled h bytes → range 24 32 bytes ≡ header_digest h
unfolding header_digest
digest_said h bytes spelled = (parts_of_spelling h bytes spelled.0.entries spelled.1).digest

pub digest_read : (bytes : List ℕ) (entries : List Entry) (read : Result Header MetaFault) → IfOk read (λ h. IsSpelled (with_entries h entries) bytes)
    → IfOk read (λ h. h.digest ≡ range 24 32 bytes) → IfOk read (λ h. h.digest ≡ header_digest (with_entries h entries))
digest_read bytes entries (Ok h) spelled stored = stored ∙ digest_said (with_entries h entries) bytes spelled
digest_read bytes entries (Err e) spelled stored = spelled
