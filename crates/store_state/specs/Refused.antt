-- What a refusal says of the disk that was called.
use Rattle.std.specs.Prelude.{Bool, true, false}
use Rattle.dd_disk.specs.Ending.{Blame, NoCall, ReadCall, WriteCall}
use Rattle.refusals.specs.declared.refusal.Refusal.{Refusal}
use Rattle.refusals.specs.declared.refusal.Refusal.TheVariants.{Memory, DiskRead, DiskWrite}

-- the call of the disk that failed, if it was one
abbrev pub blames : Refusal → Blame
blames DiskRead = ReadCall
blames DiskWrite = WriteCall
blames refusal = NoCall

-- memory ran out, or a call of the disk failed: the refusal says nothing of what the disk holds
abbrev pub fails : Refusal → Bool
fails Memory = true
fails DiskRead = true
fails DiskWrite = true
fails refusal = false
