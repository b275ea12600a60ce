-- What `delete` and `list` have a core do, on the way (docs/MODEL.md, 'Commands').
use Rattle.std.specs.Prelude.{◌≡◌, ◌⊎◌, ℕ, List, Result, Ok, Err}
use Rattle.actor_parts.specs.declared.step.Answer.{Answer}
use Rattle.actor_parts.specs.StepValue as asked
use Rattle.dd_io.specs.Flow.{SinkView}
use Rattle.namespace.specs.Listing.{NamedRoot}
use Rattle.refusals.specs.declared.refusal.Refusal.{Refusal}
use Rattle.refusals.specs.declared.refusal.Refusal.TheVariants.{Memory}
use Rattle.reply_text.specs.declared.ending.Ending.{Ending}
use Rattle.reply_text.specs.declared.ending.Ending.TheVariants.{Refused}
use Rattle.reply_text.specs.Text.{listing_text}
use Rattle.script_runner.specs.Acts.{DoesStep, Lists, RefusesStep}
use Rattle.script_runner.specs.Runner.{Sent}
use Rattle.store_core.specs.State.{CoreState}

-- the name was asked to be deleted
abbrev pub AsksDelete : (C : Type 0) → (C → CoreState) → List ℕ → Result Unit Refusal → C → C → Type 0
AsksDelete C state name (Ok u) old new = (answer : Answer) × DoesStep 0 (asked.Delete name) answer (state old) (state new)
AsksDelete C state name (Err refusal) old new = RefusesStep 0 (asked.Delete name) refusal (state old) (state new)

-- The name was deleted, or not, and it was replied to that so.
abbrev pub DeleteRun : (C : Type 0) → (C → CoreState) → List ℕ → (Result Unit Refusal → Type 0) → C → C → Type 0
DeleteRun C state name Replied old new = (deleted : Result Unit Refusal) × (AsksDelete C state name deleted old new × Replied deleted)

-- what was listed is written, or there was no memory for it; or nothing was listed
abbrev pub WritesNames : Result (List NamedRoot) Refusal → Result Unit Ending → SinkView → SinkView → Type 0
WritesNames (Ok files) result sink sink_now =
    Sent (listing_text files) result sink sink_now ⊎ ((result ≡ Err (Refused Memory)) × (sink_now ≡ sink))
WritesNames (Err refusal) result sink sink_now = (result ≡ Err (Refused refusal)) × (sink_now ≡ sink)

-- The names were listed, and written; or not.
abbrev pub ListRun : (C : Type 0) → (C → CoreState) → Result Unit Ending → C → C → SinkView → SinkView → Type 0
ListRun C state result old new sink sink_now =
    (listed : Result (List NamedRoot) Refusal) × (Lists C state listed old new × WritesNames listed result sink sink_now)
