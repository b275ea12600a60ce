-- What refusals of several steps have in common (docs/MODEL.md, 'Refusals').
use Rattle.std.specs.Prelude.{◌≡◌, ℕ, ◌==◌, if◌then◌else◌, List, length}
use Rattle.sha2.specs.Sha256.{sha256}
use Rattle.base_model.specs.Bytes.{range, key_of}
use Rattle.disk_format.specs.Cells.{Root}

-- the key of a root's segment
abbrev pub root_key : Root → List ℕ
root_key root = key_of (if root.level == 0 then 0 else 1) root.digest

-- so many bytes, of this digest, were found at a byte of the image
pub record WereFound (shown : (List ℕ → Type 0) → Type 0) (at count : ℕ) (digest : List ℕ) : Type 0 where
  pub bytes : List ℕ
  pub long : length bytes ≡ count
  pub digest_is : sha256 bytes ≡ digest
  pub there : shown (λ image. range at count image ≡ bytes)
