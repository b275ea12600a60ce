-- The numbers of the refusals (docs/FORMAT.md, 'Refusals').
use Rattle.std.specs.Prelude.{ℕ}
use Rattle.refusals.specs.declared.refusal.Refusal.{Refusal}
use Rattle.refusals.specs.declared.refusal.Refusal.TheVariants.{Memory, NoFile, BadName, TooMany, TooLong, Full, Clash, WrongPart, Collecting, NotCollecting, DiskRead, DiskWrite, Stopped, Corrupt, Missing, Numbers, NotAStore, Version, Damaged, Unpinned, AlreadyStore, WrongSize, NoActor, NotEmpty}

abbrev pub number_of : Refusal → ℕ
number_of Memory = 1
number_of NoFile = 2
number_of BadName = 3
number_of TooMany = 4
number_of TooLong = 5
number_of (Full free) = 6
number_of (Clash key at) = 7
number_of (WrongPart part) = 8
number_of (Collecting phase) = 9
number_of NotCollecting = 9
number_of DiskRead = 10
number_of DiskWrite = 11
number_of (Stopped at) = 12
number_of (Corrupt slot offset length want got) = 13
number_of (Missing key) = 14
number_of Numbers = 15
number_of (NotAStore gate magic) = 16
number_of (Version n) = 17
number_of (Damaged at why) = 18
number_of (Unpinned key) = 19
number_of AlreadyStore = 20
number_of (WrongSize want got) = 21
number_of NoActor = 22
number_of (NotEmpty files) = 23
