-- What lines leave of the bytes of the disk, whatever its containers hold (docs/MODEL.md, 'Scripts').
use Rattle.std.specs.Prelude.{◌≡◌, ◌≢◌, ◌≤◌, ℕ, ◌+◌, List, [], ◌∷◌, Some}
use Rattle.std.specs.List.{AllByRecursion}
use Rattle.base_model.specs.Known.{KnownWith}
use Rattle.dd_disk.specs.Ending.{Done, Reads}
use Rattle.dd_disk.specs.Shows.{Shows}
use Rattle.dd_disk.specs.View.{CrashLeaves, DiskView, IsDurable}
use Rattle.disk_format.specs.Layout.{half_cells}
use Rattle.script_lines.specs.Grammar as lines
use Rattle.script_lines.specs.Grammar.{LineValue}
use Rattle.disk_format.specs.declared.numbers.TheConstants.{RESERVE}
use Rattle.store_model.specs.Image.{Store, Encodes}
use Rattle.store_model.specs.Slots.{free_slots}
use Rattle.store_model.specs.Steps.{HasCellsFor}
use Rattle.store_core.specs.Frame.{HadContainer, IsOn, KeepsBytes}
use Rattle.store_core.specs.Opening.{IsNew}
use Rattle.store_core.specs.State.{CoreState}
use Rattle.store_machine.specs.Commands.{Replied}
use Rattle.script_runner.specs.Acts.{RunnerState}
use Rattle.script_runner.specs.Scripts.{RunsLines}

-- how many cells of the half a line may need: one, where it gives a name a root or takes it away
abbrev pub commands_of_line : LineValue → ℕ
commands_of_line (lines.Commit a name) = 1
commands_of_line (lines.Delete name) = 1
commands_of_line line = 0

abbrev pub commands_among : List Replied → ℕ
commands_among [] = 0
commands_among (one ∷ more) = commands_of_line one.line + commands_among more

-- none of the lines opens the store again
abbrev pub NeverReopens : List Replied → Type 0
NeverReopens = AllByRecursion (λ one. one.line ≢ lines.Reopen)

-- none of them makes steps of a collection
abbrev pub IsNoSweep : LineValue → Type 0
IsNoSweep lines.GcStep = ⊥
IsNoSweep lines.Sweep = ⊥
IsNoSweep line = Unit {0}

abbrev pub NeverSweeps : List Replied → Type 0
NeverSweeps = AllByRecursion (λ one. IsNoSweep one.line)

-- The half that counts has a cell for each of the lines that may need one, and the store is not opened again between them: so they need
-- no checkpoint.
abbrev pub NeedNoCheckpoint : List Replied → Store → Type 0
NeedNoCheckpoint rs s = NeverReopens rs × HasCellsFor s (commands_among rs)

-- What stays over lines: the format cell and each container; and where they need no checkpoint the journal, but for the cells after the
-- records.
abbrev pub KeepsOver : List Replied → Store → List ℕ → List ℕ → Type 0
KeepsOver rs s = KeepsBytes s half_cells (NeedNoCheckpoint rs s) (HadContainer s)

-- In what reads give, and in what a crash leaves at any moment of lines that are run, what was written before them stays, where none of
-- them makes steps of a collection, and two slots were closed. So it is also where the store is opened again between them, and where
-- writes fail: two slots stay closed over such lines, and so no `reopen` among them gives a container back.
abbrev pub LinesKeepWritten : (C : Type 0) → (C → CoreState) → Type 0
LinesKeepWritten C state = (rs : List Replied) (s : Store) (base : List ℕ) (r t : RunnerState C)
    → NeverSweeps rs → IsOn s (state r.core) → (state r.core).disk.content ≡ Some base → Encodes base s → RESERVE ≤ free_slots s.held
    → RunsLines C state rs r t
    → KnownWith (state t.core).disk.content (KeepsOver rs s base)
    × CrashLeaves (KeepsOver rs s base) (state r.core).disk (state t.core).disk

-- The core is on the store of a content, which its disk has, and two slots or more are closed.
pub record IsOnContent (content : List ℕ) (c : CoreState) : Type 0 where
  pub store : Store
  pub encodes : Encodes content store
  pub on : IsOn store c
  pub reserve : RESERVE ≤ free_slots store.held
  pub told : c.disk.content ≡ Some content

-- So is a core that was opened, whatever the containers hold. It was opened over anything that has a disk, as that was before.
abbrev pub OpenedIsOn : (D : Type 0) → (D → DiskView) → (C : Type 0) → (C → CoreState) → Type 0
OpenedIsOn D view C state = (content : List ℕ) (before : D) (c : C)
    → IsNew (Shows (view before) (state c).disk) (view before).size (state c) → IsDurable (state c).disk
    → Reads Done (view before) (state c).disk → (view before).content ≡ Some content → IsOnContent content (state c)
