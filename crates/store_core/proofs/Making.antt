-- A step of a core that runs, from what one of its functions did.
use Rattle.store_core.proofs.Prelude.{some_same, ◌≡◌, ℕ, List, Option, Some, None, Result, Ok, Err, refl, sym, ◌∙◌, subst, reads_here, ending, Reads, PlaceMap, Answer, StepValue, UniqueRow, Refusal, blames, Stop, Made, StopsAfter, StepsOr, CoreStep, counted, CoreState, Event, IsUp, UnlessStopped, IsRunning, Collection, Collects, IsKeptKey, MarksIn}
use Rattle.std.specs.Prelude.{IfErr, IfOk, IsTrue}
use Rattle.actor_parts.specs.declared.step.Answer.TheVariants as answers
use Rattle.actor_parts.specs.StepValue as asked
use Rattle.namespace.specs.Listing.{NamedRoot, listing_of}
use Rattle.read_steps.specs.Trees.{AllHeld, IsTreesRefusal, WhereHeld}
use Rattle.read_steps.specs.Unique.{CountsTrees, IsUniqueAnswer}
use Rattle.segment_index.specs.Places.{KnownMap}
use Rattle.store_state.specs.Refused.{fails}
use Rattle.store_core.specs.Core.{IsCount}
use Rattle.store_core.proofs.RunningOn.{step_runs}

-- the same step, by another name
pub made_of : (value other : StepValue) → value ≡ other → (actor : ℕ) (answer : Result Answer Refusal) (buf : List ℕ) (old new : CoreState) → Made other actor answer buf old new
    → Made value actor answer buf old new
made_of value other same actor answer buf old new made = subst (λ (s : StepValue). Made s actor answer buf old new) (sym same) made

pub made_stat : (value : StepValue) → value ≡ asked.Stat → (actor : ℕ) (answer : Answer) (buf : List ℕ) (old : CoreState) (stop : Option Stop) (count : ℕ) → IsCount answer old
    → Made value actor (Ok answer) buf old (record old { stop = stop; acknowledged = count })
made_stat value same actor answer buf old stop count is = made_of value asked.Stat same actor (Ok answer) buf old (record old { stop = stop; acknowledged = count }) (record {
  row = (is, refl);
  effect = record { disk = record { only = reads_here old.disk; faults_are = refl }; tables = record { tables_are = refl; index_is = refl } };
  served = λ served. served;
})

-- what the trees of all names have is counted, or isn't, by the map of the index
module _ (index : PlaceMap) (old new : CoreState) (known : old.known ≡ Some index) (parts : new.parts ≡ old.parts) where
  abbrev roots : List NamedRoot
  roots = listing_of old.tables.names

  by_map : (P : PlaceMap → Type 0) → P index → KnownMap old.known P
  by_map P is places told = subst P (some_same index places (sym known ∙ told)) is

  unique_counted : (answer : Answer) → IsUniqueAnswer index old.disk new.disk roots answer → UniqueRow (Ok answer) old new
  unique_counted (answers.Unique segments bytes) counts =
      record { counts = by_map (λ m. CountsTrees m old.disk new.disk roots segments bytes) counts; parts_are = parts }
  unique_counted answer counts = absurd counts

  unique_row : (answer : Result Answer Refusal) → IfOk answer (IsUniqueAnswer index old.disk new.disk roots)
      → IfErr answer (IsTreesRefusal index old.disk new.disk roots)
      → IfErr answer (λ refusal. WhereHeld index old.disk.content (λ counts held image. AllHeld counts held image roots) (λ _ _ _. IsTrue (fails refusal)))
      → UniqueRow answer old new
  unique_row (Ok answer) counts refused failed = unique_counted answer counts
  unique_row (Err refusal) counts refused failed = record {
    cause = by_map (λ m. IsTreesRefusal m old.disk new.disk roots refusal) refused;
    held = by_map (λ m. WhereHeld m old.disk.content (λ counts held image. AllHeld counts held image roots) (λ _ _ _. IsTrue (fails refusal))) failed;
    parts_are = parts;
  }

  pub made_unique : (actor : ℕ) (answer : Result Answer Refusal) (buf : List ℕ) → IfOk answer (IsUniqueAnswer index old.disk new.disk roots)
      → IfErr answer (IsTreesRefusal index old.disk new.disk roots)
      → IfErr answer (λ refusal. WhereHeld index old.disk.content (λ counts held image. AllHeld counts held image roots) (λ _ _ _. IsTrue (fails refusal)))
      → Reads (ending blames answer) old.disk new.disk → new.tables ≡ old.tables → new.known ≡ old.known → (old.served → new.served)
      → Made asked.Unique actor answer buf old new
  made_unique actor answer buf counts refused failed reads tables map served = record {
    row = unique_row answer counts refused failed;
    effect = record { disk = reads; tables = record { tables_are = tables; index_is = map } };
    served = served;
  }

-- what it does to the collection tells of the collection alone
pub collects_same : (step : StepValue) (answer : Result Answer Refusal) (old new other : CoreState) → other.collection ≡ new.collection → Collects step answer old new
    → Collects step answer old other
collects_same (asked.Claim seg) answer old new other same collects = subst (λ (c : Option Collection). MarksIn (IsKeptKey (asked.Claim seg) answer) old.collection c)
    (sym same) collects
collects_same (asked.Seal offered) answer old new other same collects = subst (λ (c : Option Collection). MarksIn (IsKeptKey (asked.Seal offered) answer) old.collection c)
    (sym same) collects
collects_same (asked.GcStart percent) answer old new other same collects = tt
collects_same asked.GcStep answer old new other same collects = tt
collects_same step answer old new other same collects = same ∙ collects

-- it is up, where it isn't stopped
pub up_of : (old : CoreState) → old.stop ≡ None → IsRunning old → IsUp old
up_of old runs running = subst (λ (o : Option Stop). UnlessStopped o (IsUp old)) runs running

pub core_step : (step : StepValue) (actor : ℕ) (answer : Result Answer Refusal) (buf : List ℕ) (old new : CoreState) → old.stop ≡ None → Made step actor answer buf old new
    → Collects step answer old new
    → StopsAfter step answer old.acknowledged new.stop → new.acknowledged ≡ counted answer old.acknowledged
    → CoreStep old (record { actor = actor; step = step; answer = answer; buf = buf }) new
core_step step actor answer buf old new runs made collects stops is =
    let e : Event = record { actor = actor; step = step; answer = answer; buf = buf } in
    subst (λ (o : Option Stop). StepsOr o e old new) (sym runs) (record { made = made; collects = collects; stops = stops; counted_is = is })

-- and it runs on
pub core_runs : (step : StepValue) (actor : ℕ) (answer : Result Answer Refusal) (buf : List ℕ) (old new : CoreState) → old.stop ≡ None → Made step actor answer buf old new
    → Collects step answer old new
    → StopsAfter step answer old.acknowledged new.stop → new.acknowledged ≡ counted answer old.acknowledged → IsRunning old → IsRunning new
core_runs step actor answer buf old new runs made collects stops is running =
    step_runs old new (record { actor = actor; step = step; answer = answer; buf = buf }) (core_step step actor answer buf old new runs made collects stops is) running
