-- The exit statuses (docs/FORMAT.md, 'Commands' and 'Refusals').
use Rattle.std.specs.Prelude.{ℕ}
use Rattle.refusals.specs.declared.refusal.Refusal.{Refusal}
use Rattle.refusals.specs.declared.refusal.Refusal.TheVariants.{Memory, NoFile, BadName, TooMany, TooLong, Full, Clash, WrongPart, Collecting, NotCollecting, DiskRead, DiskWrite, Stopped, Corrupt, Missing, Numbers, NotAStore, Version, Damaged, Unpinned, AlreadyStore, WrongSize, NoActor, NotEmpty}
use Rattle.reply_text.specs.declared.ending.Ending.{Ending}
use Rattle.reply_text.specs.declared.ending.Ending.TheVariants.{Words, Source, Sink, Line, Script, Refused}

-- the exit status of a command that was refused
abbrev pub status_of_refusal : Refusal → ℕ
status_of_refusal Memory = 1
status_of_refusal NoFile = 3
status_of_refusal BadName = 3
status_of_refusal TooMany = 3
status_of_refusal TooLong = 3
status_of_refusal (Full free) = 3
status_of_refusal (Clash key at) = 3
status_of_refusal (WrongPart part) = 3
status_of_refusal (Collecting phase) = 3
status_of_refusal NotCollecting = 3
status_of_refusal DiskRead = 4
status_of_refusal DiskWrite = 4
status_of_refusal (Stopped at) = 4
status_of_refusal (Corrupt slot offset length want got) = 7
status_of_refusal (Missing key) = 7
status_of_refusal Numbers = 3
status_of_refusal (NotAStore gate magic) = 8
status_of_refusal (Version n) = 8
status_of_refusal (Damaged at why) = 7
status_of_refusal (Unpinned key) = 3
status_of_refusal AlreadyStore = 3
status_of_refusal (WrongSize want got) = 3
status_of_refusal NoActor = 3
status_of_refusal (NotEmpty files) = 3

-- the exit status of a command that was not done
abbrev pub status_of : Ending → ℕ
status_of Words = 2
status_of Source = 5
status_of Sink = 6
status_of (Line number) = 2
status_of Script = 2
status_of (Refused refusal) = status_of_refusal refusal
