-- When a call answers a fault.
use Rattle.std.specs.Prelude.{◌≡◌, ◌≢◌, ◌⊎◌, ℕ, ◌<◌, ◌≤◌, Bool, true, false, codes, Result, Ok, Err}
use Rattle.disk_format.specs.declared.numbers.TheConstants.{FORMAT_GATE, VERSION}
use Rattle.disk_format.specs.declared.why.Why.{Why}
use Rattle.disk_format.specs.declared.why.Why.TheVariants.{Digest, Field}
use Rattle.disk_format.specs.Layout.{selector_at, cell_at, half_cells}
use Rattle.dd_disk.specs.Ending.{Blame, NoCall, ReadCall, WriteCall}
use Rattle.journal_cells.specs.declared.fault.CellFault.{CellFault}
use Rattle.journal_cells.specs.declared.fault.CellFault.TheVariants.{Memory, DiskRead, DiskWrite, Damaged, NotAStore, Version}

-- which call of the disk a fault blames
abbrev pub blames : CellFault → Blame
blames DiskRead = ReadCall
blames DiskWrite = WriteCall
blames _ = NoCall

-- memory or the disk failed
abbrev pub fails : CellFault → Bool
fails Memory = true
fails DiskRead = true
fails DiskWrite = true
fails _ = false

-- ---- what is so of a fault whatever the disk

-- two digests that differ
abbrev pub Differs : Why → Type 0
Differs (Digest want got) = want ≢ got
Differs (Field offset got) = Unit {0}

-- where a selector begins
abbrev pub IsSelectorPlace : ℕ → Type 0
IsSelectorPlace at = (at ≡ selector_at 0) ⊎ (at ≡ selector_at 1)

-- where a record of a half begins
abbrev pub IsRecordPlace : ℕ → ℕ → Type 0
IsRecordPlace half at = (cell : ℕ) × (cell < half_cells) × (at ≡ cell_at half cell)

-- of a format cell
abbrev pub IsFormatBreak : CellFault → Type 0
IsFormatBreak (Damaged at why) = (at ≡ 0) × Differs why
IsFormatBreak (NotAStore gate magic) = gate ≡ FORMAT_GATE → magic ≢ codes "DDFSIMG"
IsFormatBreak (Version n) = n ≢ VERSION
IsFormatBreak _ = ⊥

-- of a selector
abbrev pub IsSelectorBreak : CellFault → Type 0
IsSelectorBreak (Damaged at why) = IsSelectorPlace at × Differs why
IsSelectorBreak (Version n) = n ≢ VERSION
IsSelectorBreak _ = ⊥

-- of a record of a half
abbrev pub IsRecordBreak : ℕ → CellFault → Type 0
IsRecordBreak half (Damaged at why) = IsRecordPlace half at × Differs why
IsRecordBreak half _ = ⊥

-- of the journal
abbrev pub IsJournalBreak : CellFault → Type 0
IsJournalBreak (Damaged at why) = (IsSelectorPlace at ⊎ ((half : ℕ) × (half ≤ 1) × IsRecordPlace half at)) × Differs why
IsJournalBreak (Version n) = n ≢ VERSION
IsJournalBreak _ = ⊥

-- ---- why a call gives up

-- A read failed, or a fault of this kind was found.
abbrev pub IsReadFault : (CellFault → Type 0) → (CellFault → Type 0) → CellFault → Type 0
IsReadFault kind found DiskRead = Unit {0}
IsReadFault kind found (Damaged at why) = kind (Damaged at why) × found (Damaged at why)
IsReadFault kind found (NotAStore gate magic) = kind (NotAStore gate magic) × found (NotAStore gate magic)
IsReadFault kind found (Version n) = kind (Version n) × found (Version n)
IsReadFault kind found _ = ⊥

-- The same of a reader that takes memory, want of which is free.
abbrev pub IsCellFault : (CellFault → Type 0) → (CellFault → Type 0) → CellFault → Type 0
IsCellFault kind found Memory = Unit {0}
IsCellFault kind found fault = IsReadFault kind found fault

-- ---- readers of bytes

-- the fault that was answered is what a reader finds in bytes; want of memory is free, and no disk is asked
abbrev pub IsFoundFault : {B : Type 0} → Result B CellFault → CellFault → Type 0
IsFoundFault found Memory = Unit {0}
IsFoundFault found (Damaged at why) = found ≡ Err (Damaged at why)
IsFoundFault found _ = ⊥

-- what was answered, seen by a view, is what a reader finds in bytes
abbrev pub Finds : {A B : Type 0} → (A → B) → Result A CellFault → Result B CellFault → Type 0
Finds view (Ok x) found = found ≡ Ok (view x)
Finds view (Err fault) found = IsFoundFault found fault
