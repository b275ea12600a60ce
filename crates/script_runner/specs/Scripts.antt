-- Lines that are run one after the other (docs/MODEL.md, 'Scripts').
use Rattle.std.specs.Prelude.{◌≡◌, true, List, [], ◌∷◌}
use Rattle.store_core.specs.State.{CoreState}
use Rattle.store_machine.specs.Commands.{Replied, ends}
use Rattle.script_runner.specs.Acts.{IsOfActor, RunnerState, RunsLine}

-- Each line was run, and replied to, in its turn; a `reopen` that was refused is the last.
abbrev pub RunsLines : (C : Type 0) → (C → CoreState) → List Replied → RunnerState C → RunnerState C → Type 0
RunsLines C state [] r s = s ≡ r
RunsLines C state (one ∷ more) r s =
    (ends one.line one.reply ≡ true → more ≡ [])
    × ((mid : RunnerState C) × (RunsLine C state one.line one.reply r mid × RunsLines C state more mid s))

-- the actor of each line is one that there is
abbrev pub AreOfActors : List Replied → Type 0
AreOfActors [] = Unit {0}
AreOfActors (one ∷ more) = IsOfActor one.line × AreOfActors more
