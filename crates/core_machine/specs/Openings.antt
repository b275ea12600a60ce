-- A core that is opened, at first or again, on any disk, as the machine of roots.
use Rattle.std.specs.Prelude.{◌≡◌, ℕ, Bool, List, [], ◌∷◌, Result, Ok, Err}
use Rattle.std.proofs.Common.{inl, inr}
use Rattle.std.specs.FinMap as finite
use Rattle.disk_format.specs.Cells.{Root}
use Rattle.dd_disk.specs.View.{DiskView}
use Rattle.merkle_file.specs.declared.top.Top.{Top}
use Rattle.refusals.specs.declared.refusal.Refusal.{Refusal}
use Rattle.store_model.specs.Freeing.{with_freed}
use Rattle.store_model.specs.Image.{Store}
use Rattle.store_core.specs.Opening.{OpensCore, OpensNone, StaysOrStops, WritesUnread}
use Rattle.store_core.specs.State.{CoreState, IsRunning}
use Rattle.store_machine.specs.Asked as asked
use Rattle.store_machine.specs.Done.{Done}
use Rattle.store_machine.specs.Done as done
use Rattle.store_machine.specs.Legal.{Legal}
use Rattle.store_machine.specs.Machine.{Machine}
use Rattle.store_machine.specs.Opening.{freeing}
use Rattle.store_machine.specs.Values.{of_roots}
use Rattle.core_machine.specs.Refines.{IsMachine}

-- the machine may open the store so
abbrev pub Reopens : ℕ → Result Done Refusal → Machine Root (List Top) → Machine Root (List Top) → Type 0
Reopens actor answer m n = Legal of_roots (record { actor = actor; asked = asked.Reopen; answer = answer }) m n

-- the store that reads showed of what was opened: at once, or once room was made
abbrev pub store_read : (D : Type 0) (view : D → DiskView) (old : DiskView) (c : CoreState) → OpensCore D view old c → Store
store_read D view old c (inl read) = read.opened.store
store_read D view old c (inr (mid, (made, read))) = read.opened.store

-- What has been opened, over anything that has a disk, is a machine of the store that was read, which each machine may come to by an
-- opening; it has so many names.
abbrev pub OpenedRefines : (D : Type 0) → (D → DiskView) → (C : Type 0) → (C → CoreState) → Type 0
OpenedRefines D view C state = (actor : ℕ) (before : D) (new : C) → (opens : OpensCore D view (view before) (state new))
    → IsRunning (state new)
    → (n : Machine Root (List Top)) × (((followed : Bool) → IsMachine followed n (state new))
    × (n.store ≡ store_read D view (view before) (state new) opens)
    × ((m : Machine Root (List Top)) → Reopens actor (Ok (done.Reopened (finite.len (state new).tables.names))) m n))

-- the stores that there are on the way, as these slots are closed one after the other
abbrev pub stores_freed : List ℕ → Store → List Store
stores_freed [] store = []
stores_freed (slot ∷ rest) store = with_freed slot store ∷ stores_freed rest (with_freed slot store)

-- which stores may stand once an opening that was refused gave containers back, of the store that reads had showed: the one that is left
-- where room was made, and else those on the way
abbrev pub stores_left : (D : Type 0) (view : D → DiskView) (refusal : Refusal) (old new : DiskView)
    → WritesUnread D view refusal old new → List Store
stores_left D view refusal old new (inl (mid, (made, read))) = made.after ∷ []
stores_left D view refusal old new (inr (failed, unmade)) = stores_freed unmade.freed unmade.short.store

-- where the core is as it was the machine is, too; and else it is stopped, and one of those stores may stand
abbrev pub LeavesMachine : (D : Type 0) (view : D → DiskView) (refusal : Refusal) (old new : CoreState)
    → StaysOrStops D view refusal old new → Machine Root (List Top) → Machine Root (List Top) → Type 0
LeavesMachine D view refusal old new (inl kept) m n = n ≡ m
LeavesMachine D view refusal old new (inr stops) m n =
    n ≡ record m { state = freeing of_roots (stores_left D view refusal old.disk new.disk stops.wrote) m.state }

-- And what could not be opened again is the machine that it was, or is stopped: containers may have been given back.
abbrev pub UnopenedRefines : (D : Type 0) → (D → DiskView) → (C : Type 0) → (C → CoreState) → Type 0
UnopenedRefines D view C state = (followed : Bool) (actor : ℕ) (refusal : Refusal) (old new : C) (m : Machine Root (List Top))
    → IsMachine followed m (state old)
    → OpensNone D view refusal (state old).disk (state new).disk
    → (leaves : StaysOrStops D view refusal (state old) (state new))
    → (n : Machine Root (List Top)) × (Reopens actor (Err refusal) m n × IsMachine followed n (state new)
    × LeavesMachine D view refusal (state old) (state new) leaves m n)
