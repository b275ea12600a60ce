-- What a step leaves of who gives a file.
use Rattle.script_runner.proofs.Prelude.{CoreStep, CoreState, Event, WritersGive, Sessions, refl}
use Rattle.session_turns.specs.Owning.{IsQuiet}
use Rattle.session_turns.proofs.WritingStays.{others_stay, quiet_stays}
use Rattle.script_runner.proofs.DeskSessions.{gives_on}

-- a step of one who gives no file leaves it so that who stores a file gives it
pub quiet_gives : (e : Event) (old new : CoreState) (xs : Sessions) → IsQuiet e.step → CoreStep old e new → WritersGive xs old.parts → WritersGive xs new.parts
quiet_gives e old new xs quiet step gives =
    gives_on e.actor xs xs old.parts new.parts gives (λ b differs. refl) (others_stay e old new step)
    (λ none writes. gives e.actor none ((quiet_stays e old new quiet step).0 writes))
