-- What reads showed of a disk that may tell nothing, or lie (docs/MODEL.md, 'Scripts').
use Rattle.std.specs.Prelude.{◌≡◌, ℕ, List, length}
use Rattle.std.specs.List.{AllByRecursion}
use Rattle.dd_disk.specs.Shows.{HasPart, Part, Shows}
use Rattle.dd_disk.specs.View.{DiskView}
use Rattle.store_model.specs.Image.{Encodes, Store}

-- of the opening: what was read is of the content, where the disk told one
abbrev pub WasOpened : DiskView → DiskView → Store → Type 0
WasOpened disk disk_now store = Shows disk disk_now (λ image. Encodes image store)

-- Reads since a moment returned parts of the disk by which each image that has them is the store's.
pub record WasShown (disk disk_now : DiskView) (store : Store) : Type 0 where
  pub parts : List Part
  pub returned : AllByRecursion (λ part. disk_now.read_returned disk.clock part.at part.bytes) parts
  pub shows : (image : List ℕ) → length image ≡ disk.size → AllByRecursion (HasPart image) parts → Encodes image store
