-- Why an index doesn't answer, or isn't changed (docs/MODEL.md, 'The index').
use Rattle.std.specs.Prelude.{ℕ}
use Rattle.disk_format.specs.declared.why.Why.{Why}
use Rattle.dd_disk.specs.Ending.{Blame, NoCall, ReadCall, WriteCall}
use Rattle.segment_index.specs.declared.fault.IndexFault.{IndexFault}
use Rattle.segment_index.specs.declared.fault.IndexFault.TheVariants.{Memory, DiskRead, DiskWrite, Damaged}

-- which call of the disk failed
abbrev pub blames : IndexFault → Blame
blames Memory = NoCall
blames DiskRead = ReadCall
blames DiskWrite = WriteCall
blames (Damaged at why) = NoCall

-- why a look-up isn't answered: a read that failed, or damage
abbrev pub IsGetFault : (ℕ → Why → Type 0) → IndexFault → Type 0
IsGetFault damaged DiskRead = Unit {0}
IsGetFault damaged (Damaged at why) = damaged at why
IsGetFault damaged fault = ⊥

-- why a key isn't put: want of memory, a call of the disk that failed, or damage
abbrev pub IsPutFault : (ℕ → Why → Type 0) → IndexFault → Type 0
IsPutFault damaged Memory = Unit {0}
IsPutFault damaged DiskWrite = Unit {0}
IsPutFault damaged (Damaged at why) = damaged at why
IsPutFault damaged fault = ⊥

-- why a key isn't removed: a call of the disk that failed, or damage
abbrev pub IsRemoveFault : (ℕ → Why → Type 0) → IndexFault → Type 0
IsRemoveFault damaged DiskWrite = Unit {0}
IsRemoveFault damaged (Damaged at why) = damaged at why
IsRemoveFault damaged fault = ⊥
