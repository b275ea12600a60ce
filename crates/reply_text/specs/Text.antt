-- What the program writes (docs/FORMAT.md, 'Texts' and 'Refusals').
use Rattle.std.specs.Prelude.{ℕ, List, [], ◌∷◌, ◌++◌, length, codes, decimal}
use Rattle.std.specs.List.{flat_map}
use Rattle.hex.specs.Hex.{encode_lower}
use Rattle.disk_format.specs.Cells.{Root}
use Rattle.namespace.specs.Listing.{NamedRoot}
use Rattle.refusals.specs.declared.refusal.Difference.{Difference}
use Rattle.refusals.specs.declared.refusal.Difference.TheVariants.{Length, Byte}
use Rattle.refusals.specs.declared.refusal.PartKind.{PartKind}
use Rattle.refusals.specs.declared.refusal.PartKind.TheVariants.{Idle, Writing, Finished, Reading}
use Rattle.refusals.specs.declared.refusal.Phase.{Phase}
use Rattle.refusals.specs.declared.refusal.Phase.TheVariants.{Mark, Filter, Select, Copy, Flush, Release, End}
use Rattle.disk_format.specs.declared.why.Why.{Why}
use Rattle.disk_format.specs.declared.why.Why.TheVariants.{Digest, Field}
use Rattle.refusals.specs.declared.refusal.Refusal.{Refusal}
use Rattle.refusals.specs.declared.refusal.Refusal.TheVariants.{Memory, NoFile, BadName, TooMany, TooLong, Full, Clash, WrongPart, Collecting, NotCollecting, DiskRead, DiskWrite, Stopped, Corrupt, Missing, Numbers, NotAStore, Version, Damaged, Unpinned, AlreadyStore, WrongSize, NoActor, NotEmpty}
use Rattle.inspection.specs.declared.damage.Damage.{Damage}
use Rattle.inspection.specs.declared.damage.Damage.TheVariants as found
use Rattle.reply_text.specs.declared.ending.Ending.{Ending}
use Rattle.reply_text.specs.declared.ending.Ending.TheVariants.{Words, Source, Sink, Line, Script, Refused}

-- `formatted N`
unfoldable pub formatted_line : ℕ → List ℕ
formatted_line slots = codes "formatted " ++ decimal slots ++ codes "\n"

-- a word, a name, and the length, the level and the digest of the root that it has
abbrev pub named_line : List ℕ → List ℕ → Root → List ℕ
named_line word name root =
    word ++ name ++ codes " " ++ decimal root.length ++ codes " " ++ decimal root.level ++ codes " " ++ encode_lower root.digest
    ++ codes "\n"

-- `stored NAME LENGTH LEVEL DIGEST`
unfoldable pub stored_line : List ℕ → Root → List ℕ
stored_line name root = named_line (codes "stored ") name root

-- `deleted NAME`
unfoldable pub deleted_line : List ℕ → List ℕ
deleted_line name = codes "deleted " ++ name ++ codes "\n"

-- `file NAME LENGTH LEVEL DIGEST`
unfoldable pub file_line : NamedRoot → List ℕ
file_line file = named_line (codes "file ") file.name file.root

-- `listed COUNT`
unfoldable pub listed_line : ℕ → List ℕ
listed_line count = codes "listed " ++ decimal count ++ codes "\n"

-- a line for each name, in their order, and then how many they are
unfoldable pub listing_text : List NamedRoot → List ℕ
listing_text files = flat_map file_line files ++ listed_line (length files)

-- `unique segments SEGMENTS bytes BYTES`
unfoldable pub unique_line : ℕ → ℕ → List ℕ
unique_line segments bytes = codes "unique segments " ++ decimal segments ++ codes " bytes " ++ decimal bytes ++ codes "\n"

-- a line for each name, in their order, and then what their trees have
unfoldable pub summary_text : List NamedRoot → (segments bytes : ℕ) → List ℕ
summary_text files segments bytes = flat_map file_line files ++ unique_line segments bytes

-- how two segments of one key differ
abbrev pub difference_text : Difference → List ℕ
difference_text (Length offered held) = codes "length " ++ decimal offered ++ codes " " ++ decimal held
difference_text (Byte place offered held) =
    codes "byte " ++ decimal place ++ codes " " ++ encode_lower (offered ∷ []) ++ codes " " ++ encode_lower (held ∷ [])

-- what an actor is at
unfoldable pub part_text : PartKind → List ℕ
part_text Idle = codes "idle"
part_text Writing = codes "writing"
part_text Finished = codes "finished"
part_text Reading = codes "reading"

-- what the next step of a collection does
unfoldable pub phase_text : Phase → List ℕ
phase_text Mark = codes "mark"
phase_text Filter = codes "filter"
phase_text Select = codes "select"
phase_text Copy = codes "copy"
phase_text Flush = codes "flush"
phase_text Release = codes "release"
phase_text End = codes "end"

-- how a cell or a header breaks the format
abbrev pub why_text : Why → List ℕ
why_text (Digest want got) = codes "digest " ++ encode_lower want ++ codes " " ++ encode_lower got
why_text (Field offset got) = codes "field " ++ decimal offset ++ codes " " ++ decimal got

-- a refusal's number, its word, and what it carries
unfoldable pub refusal_text : Refusal → List ℕ
refusal_text Memory = codes "1 memory"
refusal_text NoFile = codes "2 nofile"
refusal_text BadName = codes "3 badname"
refusal_text TooMany = codes "4 toomany"
refusal_text TooLong = codes "5 toolong"
refusal_text (Full free) = codes "6 full " ++ decimal free
refusal_text (Clash key at) = codes "7 clash " ++ encode_lower key ++ codes " " ++ difference_text at
refusal_text (WrongPart part) = codes "8 wrongpart " ++ part_text part
refusal_text (Collecting phase) = codes "9 collecting " ++ phase_text phase
refusal_text NotCollecting = codes "9 notcollecting"
refusal_text DiskRead = codes "10 diskread"
refusal_text DiskWrite = codes "11 diskwrite"
refusal_text (Stopped at) = codes "12 stopped " ++ decimal at
refusal_text (Corrupt slot offset length want got) =
    codes "13 corrupt " ++ decimal slot ++ codes " " ++ decimal offset ++ codes " " ++ decimal length ++ codes " " ++ encode_lower want
    ++ codes " " ++ encode_lower got
refusal_text (Missing key) = codes "14 missing " ++ encode_lower key
refusal_text Numbers = codes "15 numbers"
refusal_text (NotAStore gate magic) = codes "16 notastore " ++ encode_lower (gate ∷ []) ++ codes " " ++ encode_lower magic
refusal_text (Version n) = codes "17 version " ++ decimal n
refusal_text (Damaged at why) = codes "18 damaged " ++ decimal at ++ codes " " ++ why_text why
refusal_text (Unpinned key) = codes "19 unpinned " ++ encode_lower key
refusal_text AlreadyStore = codes "20 alreadystore"
refusal_text (WrongSize want got) = codes "21 wrongsize " ++ decimal want ++ codes " " ++ decimal got
refusal_text NoActor = codes "22 noactor"
refusal_text (NotEmpty files) = codes "23 notempty " ++ decimal files

-- how a command that was not done ended
unfoldable pub ending_text : Ending → List ℕ
ending_text Words = codes "words"
ending_text Source = codes "source"
ending_text Sink = codes "sink"
ending_text (Line number) = codes "line " ++ decimal number
ending_text Script = codes "script"
ending_text (Refused refusal) = refusal_text refusal

-- the line in the notes of a command that was not done
unfoldable pub fault_line : Ending → List ℕ
fault_line ending = codes "fault " ++ ending_text ending ++ codes "\n"

-- the reply to a line of a script that was refused; in the notes the first word is `fault`
unfoldable pub refused_line : Refusal → List ℕ
refused_line refusal = codes "refused " ++ refusal_text refusal ++ codes "\n"

-- `cell AT digest WANT GOT`, `cell AT field OFFSET GOT` or `copy SLOT OFFSET LENGTH WANT GOT`
unfoldable pub damage_line : Damage → List ℕ
damage_line (found.Cell at why) = codes "cell " ++ decimal at ++ codes " " ++ why_text why ++ codes "\n"
damage_line (found.Copy slot offset length want got) =
    codes "copy " ++ decimal slot ++ codes " " ++ decimal offset ++ codes " " ++ decimal length ++ codes " " ++ encode_lower want
    ++ codes " " ++ encode_lower got ++ codes "\n"

-- `checked cells C copies S bad B`
unfoldable pub checked_line : ℕ → ℕ → ℕ → List ℕ
checked_line cells copies bad =
    codes "checked cells " ++ decimal cells ++ codes " copies " ++ decimal copies ++ codes " bad " ++ decimal bad ++ codes "\n"
