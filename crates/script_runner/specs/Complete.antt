-- What can be done is done: which refusals are left where no call of the disk fails and no two different segments or nodes have one digest
-- (docs/MODEL.md, 'The machine').
use Rattle.std.specs.Prelude.{◌≡◌, ◌⊎◌, ◌≤◌, ℕ, true, List, [], ◌∷◌, ◌++◌, Option, Some}
use Rattle.std.specs.List.{AllByRecursion}
use Rattle.base_model.specs.Bytes.{key_of}
use Rattle.base_model.specs.Known.{KnownWith}
use Rattle.disk_format.specs.declared.numbers.TheConstants.{RESERVE}
use Rattle.merkle_file.specs.Node.{Contents, spelling}
use Rattle.refusals.specs.declared.refusal.Refusal.{Refusal}
use Rattle.refusals.specs.declared.refusal.Refusal.TheVariants.{Memory, NoFile, BadName, TooMany, TooLong, Full, WrongPart, Collecting, NotCollecting, Numbers, DiskRead, DiskWrite}
use Rattle.script_lines.specs.Grammar.{LineValue}
use Rattle.script_lines.specs.Grammar as lines
use Rattle.script_lines.specs.ReplyValue.{ReplyValue}
use Rattle.script_lines.specs.ReplyValue as replies
use Rattle.store_model.specs.Collisions.{HasNoCollisions}
use Rattle.store_model.specs.Pieces.{Piece, Data, Node}
use Rattle.store_model.specs.Slots.{Copy, newest}
use Rattle.store_model.specs.Trees.{bytes_at}
use Rattle.store_machine.specs.ByMap.{FileMachine}
use Rattle.store_machine.specs.Commands.{Lines, Replied, desk, ends, run_of}
use Rattle.store_machine.specs.Machine.{Running, Stepped, all_idle}
use Rattle.store_machine.specs.Runs.{Run}
use Rattle.store_machine.specs.Twins.{IsGivenIn}
use Rattle.store_machine.specs.Values.{of_files}
use Rattle.core_machine.specs.Bytes.{ChangesBytes, OfStore}
use Rattle.script_runner.specs.LinesAreFileRuns.{FileDesk}
use Rattle.script_runner.specs.LinesAreRuns.{Traced}

-- ---- nodes

-- the bytes are the newest copy of a node's key
abbrev pub IsHeldNode : List ℕ → List ℕ → Type 0
IsHeldNode bytes content = OfStore content (λ store.
    (digest : List ℕ) × ((copy : Copy) × ((newest 0 store.held (key_of 1 digest) ≡ Some copy) × (bytes ≡ bytes_at copy.place content))))

-- as some step of a run is made, of what the disk tells then
abbrev pub IsHeldIn : (ss : List (Stepped (List ℕ))) (m n : FileMachine) (run : Run of_files ss m n) (was now : Option (List ℕ))
    → Traced of_files ChangesBytes ss m n run was now → List ℕ → Type 0
IsHeldIn [] m n run was now traced bytes = ⊥
IsHeldIn (s ∷ ss) m n run was now traced bytes =
    KnownWith was (IsHeldNode bytes) ⊎ IsHeldIn ss run.0 n run.1.1 traced.0 now traced.1.1 bytes

-- So it is on the way of lines (Held); or as one of them begins some actor gives the node, in the tree of what it has given so far (Given).
abbrev pub IsNodeIn : (Piece → Type 0) → (List ℕ → Type 0) → List ℕ → Type 0
IsNodeIn Given Held bytes = ((n : Contents) × (Given (Node n) × (bytes ≡ spelling n))) ⊎ Held bytes

-- ---- lines

-- no call of the disk is blamed
abbrev pub IsUnblamed : ReplyValue → Type 0
IsUnblamed (replies.Refused DiskRead) = ⊥
IsUnblamed (replies.Refused DiskWrite) = ⊥
IsUnblamed reply = Unit {0}

-- after a `reopen` that was refused comes no line
abbrev pub EndByReopen : List Replied → Type 0
EndByReopen [] = Unit {0}
EndByReopen (one ∷ more) = (ends one.line one.reply ≡ true → more ≡ []) × EndByReopen more

-- ---- what is left

-- the refusals that are left; their conditions are those of the machine, `Refuses` and `Bars`
abbrev pub IsLeft : Refusal → Type 0
IsLeft Memory = Unit {0}
IsLeft NoFile = Unit {0}
IsLeft BadName = Unit {0}
IsLeft TooMany = Unit {0}
IsLeft TooLong = Unit {0}
IsLeft (Full free) = free ≤ RESERVE
IsLeft (WrongPart part) = Unit {0}
IsLeft (Collecting phase) = Unit {0}
IsLeft NotCollecting = Unit {0}
IsLeft Numbers = Unit {0}
IsLeft refusal = ⊥

-- a line is done, or refused so; `reopen` is refused for want of memory alone
abbrev pub MayReply : LineValue → ReplyValue → Type 0
MayReply lines.Reopen (replies.Refused refusal) = refusal ≡ Memory
MayReply line (replies.Refused refusal) = IsLeft refusal
MayReply line reply = Unit {0}

-- the last line is a `reopen` that was refused for want of memory
abbrev pub EndsUnopened : List Replied → Type 0
EndsUnopened rs = (before : List Replied) × (rs ≡ before ++ record { line = lines.Reopen; reply = replies.Refused Memory } ∷ [])

-- In lines of a machine that runs, where no actor is at anything, and of a disk that tells its content: where no reply blames a call of the
-- disk, and no two different segments, nor two different nodes, on the way have one digest, each line is done or refused so, and the
-- machine still runs, unless there was no memory to open it again.
abbrev pub WhatCanBeDoneIsDone : Type 0
WhatCanBeDoneIsDone = (rs : List Replied) (ss : List (Stepped (List ℕ))) (m : FileMachine) (e : FileDesk)
    (ran : Lines of_files rs ss (desk m) e) (content : List ℕ) (now : Option (List ℕ))
    (traced : Traced of_files ChangesBytes ss m e.machine (run_of of_files rs ss (desk m) e ran) (Some content) now)
    → m.state ≡ Running → m.parts ≡ all_idle → AllByRecursion (λ one. IsUnblamed one.reply) rs → EndByReopen rs
    → HasNoCollisions (λ bytes. IsGivenIn of_files rs ss (desk m) e ran (Data bytes))
    → HasNoCollisions (IsNodeIn (IsGivenIn of_files rs ss (desk m) e ran)
    (IsHeldIn ss m e.machine (run_of of_files rs ss (desk m) e ran) (Some content) now traced))
    → AllByRecursion (λ one. MayReply one.line one.reply) rs × ((e.machine.state ≡ Running) ⊎ EndsUnopened rs)
