-- Steps of a core, one after the other, on any disk, as a run of the machine of roots.
use Rattle.std.specs.Prelude.{◌≡◌, Bool, true, List, map}
use Rattle.base_model.specs.Known.{KnownWith}
use Rattle.disk_format.specs.Cells.{Root}
use Rattle.merkle_file.specs.declared.top.Top.{Top}
use Rattle.store_core.specs.Runs.{CoreRun}
use Rattle.store_core.specs.State.{CoreState, Event, IsRunning}
use Rattle.store_machine.specs.Machine.{Machine, Stepped}
use Rattle.store_machine.specs.Runs.{Run}
use Rattle.store_machine.specs.Values.{of_roots}
use Rattle.core_machine.specs.Refines.{IsMachine, answered_by, asked_by}

-- the machine's step
abbrev pub stepped : Event → Stepped Root
stepped e = record { actor = e.actor; asked = asked_by e.step; answer = answered_by e.answer e.buf }

-- With no premise on the disk, what a core does by steps of any actors is a run of the machine; and the map of the index is followed on if
-- the disk tells its content.
abbrev pub RunsRefine : (C : Type 0) → (C → CoreState) → Type 0
RunsRefine C state = (followed : Bool) (events : List Event) (old new : C) (m : Machine Root (List Top)) → IsRunning (state old)
    → IsMachine followed m (state old) → (followed ≡ true → KnownWith (state old).disk.content (λ _. Unit {0}))
    → CoreRun C state events old new
    → (n : Machine Root (List Top)) × (Run of_roots (map stepped events) m n × IsMachine followed n (state new))
