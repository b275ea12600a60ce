-- What reads show of a disk, also of one that tells no content.
use Rattle.std.specs.Prelude.{◌≡◌, ℕ, List, length}
use Rattle.std.specs.List.{AllByRecursion}
use Rattle.base_model.specs.Bytes.{range}
use Rattle.base_model.specs.Known.{Known}
use Rattle.dd_disk.specs.View.{DiskView}

-- bytes at a place
pub record Part : Type 0 where
  pub at : ℕ
  pub bytes : List ℕ

abbrev pub HasPart : List ℕ → Part → Type 0
HasPart image part = range part.at (length part.bytes) image ≡ part.bytes

-- Reads between two moments of a disk returned parts by which each image that has them has P. Where the disk told its
-- content at the first moment, the content has them.
pub record Shows (old new : DiskView) (P : List ℕ → Type 0) : Type 0 where
  pub parts : List Part
  pub returned : AllByRecursion (λ part. new.read_returned old.clock part.at part.bytes) parts
  pub known : Known old.content (λ image. AllByRecursion (HasPart image) parts)
  pub shows : (image : List ℕ) → length image ≡ old.size → AllByRecursion (HasPart image) parts → P image
