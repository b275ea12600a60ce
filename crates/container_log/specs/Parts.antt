-- The parts of a disk image that are read here (docs/FORMAT.md, 'Container slot').
use Rattle.std.specs.Prelude.{◌≡◌, ℕ, ◌+◌, List, length}
use Rattle.base_model.specs.Bytes.{range}
use Rattle.disk_format.specs.Layout.{data_at}
use Rattle.dd_disk.specs.View.{DiskView}
use Rattle.dd_disk.specs.Shows.{Shows}
use Rattle.container_log.specs.declared.reading.Spot.{Spot}

-- the bytes of a segment
abbrev pub segment_bytes : Spot → List ℕ → List ℕ
segment_bytes place image = range (data_at place.slot + place.offset) place.length image

-- reads between two moments of a disk showed that a part of it has these bytes
abbrev pub ReadAs : DiskView → DiskView → (List ℕ → List ℕ) → List ℕ → Type 0
ReadAs old new part bytes = Shows old new (λ image. part image ≡ bytes)

-- or that these bytes stand at a byte of it
abbrev pub ReadAt : DiskView → DiskView → ℕ → List ℕ → Type 0
ReadAt old new at bytes = ReadAs old new (range at (length bytes)) bytes
