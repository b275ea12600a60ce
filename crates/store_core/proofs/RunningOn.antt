-- A core that runs runs on, or is stopped.
use Rattle.actor_parts.specs.declared.step.Answer.TheVariants as answers
use Rattle.store_core.proofs.Prelude.{◌≡◌, ℕ, List, [], ◌∷◌, length, Option, Some, None, Result, Ok, Err, refl, sym, ◌∙◌, ap, subst, arith, ◌≤◌, IsLater, ACTORS, Part, Answer, StepValue, apart, Refusal, KindSegment, Tables, Runs, Stop, Effect, KeepsTables, KeepsUnlessBroken, StopsAfter, Steps, StepsOr, CoreStep, CommitRow, DeleteRow, NamesOne, Rests, Row, SealRow, SealsSome, next_id, CoreState, Event, IsUp, UnlessStopped, IsRunning, IsUnderWay, IsUnderWayIn, Collection, Collects, GcRow, IsKeptKey, MarksIn, StartRow, at_moment, Delete, Put, Filter, Mark, Select, SweepStage, CopyNext, Flush, Release, End, Root, Store, SlotTable, Stage, TablesAfter}
use Rattle.std.proofs.lemmas.List.{length-take-le}
use Rattle.std.specs.Prelude.{◌-◌, ◌+◌, take}
use Rattle.actor_parts.specs.StepValue as asked
use Rattle.refusals.specs.declared.refusal.Refusal.TheVariants as refusals
use Rattle.container_meta.specs.Segments.{Contents}
use Rattle.store_core.specs.Core.{AreSealed, Makes, MakesAlone, changed_by, seals_from}
use Rattle.store_core.specs.Runs.{RunsOn}
use Rattle.store_core.proofs.ManySealed.{room_left}
use Rattle.store_core.proofs.Rooms.{has_room}
use Rattle.store_core.proofs.UnderWayOn.{StaysUnder, all_under}
use Rattle.store_core.proofs.Stepping.{ChangesOne, row_one}
use Rattle.gc_sweep.specs.declared.sweep.Next.{Next}
use Rattle.gc_steps.proofs.UnderWay.{live_on}

many_on : (actor : ℕ) (old new : List Part) → ChangesOne actor old new → length old ≡ ACTORS → length new ≡ ACTORS
many_on actor old new changes many = ap length changes.parts_are ∙ apart.as_many old actor changes.part ∙ many

module _ (old new : CoreState) where
  same_runs : IsLater old.disk new.disk → new.tables ≡ old.tables → Runs old.disk.size None old.tables → Runs new.disk.size None new.tables
  same_runs later same runs =
      subst (λ (size : ℕ). Runs size None new.tables) (sym later.size_is) (subst (λ (tables : Tables). Runs old.disk.size None tables) (sym same) runs)

  -- the tables are as they were, also where a change of the index broke off
  pub tables_kept : (refusal : Refusal) → KeepsUnlessBroken refusal old new → new.tables ≡ old.tables
  tables_kept refusals.DiskWrite kept = kept
  tables_kept (refusals.Damaged at_byte why) kept = kept
  tables_kept refusal kept = kept.tables_are

  -- a step of a collection, by its stage
  stage_runs : (stage : Stage) (next : Next) (c d : Collection) → IsLater old.disk new.disk → TablesAfter stage next (at_moment old c) (at_moment new d)
      → Runs old.disk.size None old.tables → Runs new.disk.size None new.tables
  stage_runs (Mark level slot) next c d later after runs = same_runs later after runs
  stage_runs (Filter slot) next c d later after runs = same_runs later after runs
  stage_runs Select next c d later after runs = same_runs later after runs
  stage_runs SweepStage (CopyNext source entry) c d later after runs = same_runs later after runs
  stage_runs SweepStage (Flush source entry) c d later after runs =
      subst (λ (size : ℕ). Runs size None new.tables) (sym later.size_is) (after.1.written.runs None (omega arith) runs)
  stage_runs SweepStage (Release source entry) c d later after runs =
      subst (λ (size : ℕ). Runs size None new.tables) (sym later.size_is) (after.runs old.disk.size None (λ index is. absurd cc) runs)
  stage_runs SweepStage End c d later after runs = same_runs later after runs

  gc_runs : (answer : Result Answer Refusal) → IsLater old.disk new.disk → GcRow answer old new → Runs old.disk.size None old.tables → Runs new.disk.size None new.tables
  gc_runs (Ok (answers.Did phase)) later row = stage_runs row.0.before.stage row.0.before.sweep.next row.0.before row.0.after later row.0.tables
  gc_runs (Ok (answers.Done freed copied)) later row = same_runs later row.0.tables_are
  gc_runs (Err refusals.NotCollecting) later row = same_runs later row.0.tables_are
  gc_runs (Err refusal) later row = same_runs later row.0.tables_are
  gc_runs answer later row = absurd row

  module _ (actor : ℕ) (buf : List ℕ) where
    pub effect_runs : (step : StepValue) (answer : Result Answer Refusal) → Row step actor answer buf old new → Effect step answer old new → Runs old.disk.size None old.tables
        → Runs new.disk.size None new.tables
    effect_runs (asked.Seal offered) (Ok answer) row effect = effect.made.runs
    effect_runs (asked.Seal offered) (Err refusal) row effect = same_runs effect.disk.later (tables_kept refusal effect.kept)
    effect_runs (asked.Commit name root) (Ok answer) row effect = effect.made.runs
    effect_runs (asked.Commit name root) (Err refusal) row effect = same_runs effect.disk.later effect.kept.tables_are
    effect_runs (asked.Delete name) (Ok answer) row effect = effect.made.runs
    effect_runs (asked.Delete name) (Err refusal) row effect = same_runs effect.disk.later effect.kept.tables_are
    effect_runs asked.GcStep answer row effect = gc_runs answer effect.later row
    effect_runs other answer row effect = same_runs effect.disk.only.later effect.tables.tables_are

module _ (old new : CoreState) (stays : new.stop ≡ None) where
  pub seal_kept : (offered : List Contents) (refusal : Refusal) (count : ℕ) → StopsAfter (asked.Seal offered) (Err refusal) count new.stop → KeepsUnlessBroken refusal old new
      → KeepsTables old new
  seal_kept offered refusals.DiskWrite count stops kept = absurd (let both = sym stays ∙ stops in cc)
  seal_kept offered (refusals.Damaged at_byte why) count stops kept = absurd (let both = sym stays ∙ stops in cc)
  seal_kept offered refusal count stops kept = kept

-- ---- the collection that runs

-- whichever keys became live
marked_on : (P : List ℕ → Type 0) (t : SlotTable) (was now : Option Collection) → MarksIn P was now → IsUnderWayIn t was → IsUnderWayIn t now
marked_on P t None now marks under_way = subst (IsUnderWayIn t) (sym marks) under_way
marked_on P t (Some c) now marks under_way = subst (IsUnderWayIn t) (sym marks.1.0) (live_on t c marks.0 under_way)

-- containers that are sealed, of any store that the tables alone are of
module _ (cs : List Contents) (old new : CoreState) (runs : Runs old.disk.size None old.tables) (made : Makes (seals_from (next_id old) cs) old new)
    (some : 1 ≤ length cs) (last : new.tables.held.last_id ≡ old.tables.held.last_id + length cs) where
  abbrev s : Store
  s = runs.store

  now : MakesAlone (seals_from (next_id old) cs) s new.disk.size new.tables
  now = made.alone.store_has s runs.represents runs.valid runs.has_free

  pub sealed_under : (c : Collection) → IsUnderWay old.tables.held c → StaysUnder c old.tables.held new.tables.held
  sealed_under c under = all_under c cs s (changed_by (seals_from (next_id old) cs) s) old.disk.size (next_id old) old.tables.held new.tables.held some now.can runs.valid
      runs.represents.slots_hold now.represents.slots_hold refl last under

  sealed_on : (collection : Option Collection) → IsUnderWayIn old.tables.held collection → IsUnderWayIn new.tables.held collection
  sealed_on None under_way =
      has_room (changed_by (seals_from (next_id old) cs) s).held new.tables.held now.represents.slots_hold now.valid.headers
      (room_left (next_id old) cs s (changed_by (seals_from (next_id old) cs) s) some now.can)
  sealed_on (Some c) under_way = (sealed_under c under_way).under

-- how many were sealed, and up to which id
module _ (offered : List Contents) (id count actor : ℕ) (old new : CoreState) (row : AreSealed offered id count actor old new) where
  pub sealed_count : length (take count offered) ≡ count
  sealed_count = length-take-le count offered row.few

  pub sealed_some : 1 ≤ length (take count offered)
  sealed_some = omega (arith, row.some, sealed_count)

  pub sealed_last : new.tables.held.last_id ≡ old.tables.held.last_id + length (take count offered)
  sealed_last = row.last_is ∙ row.id_is ∙ ap (λ (n : ℕ). old.tables.held.last_id + n) (sym sealed_count)

  pub sealed_first : id + 1 - count ≡ next_id old
  sealed_first = omega (arith, row.id_is)

module _ (old new : CoreState) where
  -- nothing of it changes
  unchanged_on : new.tables.held ≡ old.tables.held → new.collection ≡ old.collection → IsUnderWayIn old.tables.held old.collection → IsUnderWayIn new.tables.held new.collection
  unchanged_on held same under_way =
      subst (λ (t : SlotTable). IsUnderWayIn t new.collection) (sym held) (subst (IsUnderWayIn old.tables.held) (sym same) under_way)

  kept_on : KeepsTables old new → new.collection ≡ old.collection → IsUnderWayIn old.tables.held old.collection → IsUnderWayIn new.tables.held new.collection
  kept_on kept = unchanged_on (ap (λ (t : Tables). t.held) kept.tables_are)

  claimed_on : (seg : KindSegment) (answer : Result Answer Refusal) → Rests answer old new → Collects (asked.Claim seg) answer old new
      → IsUnderWayIn old.tables.held old.collection → IsUnderWayIn new.tables.held new.collection
  claimed_on seg answer effect collects under_way =
      subst (λ (t : Tables). IsUnderWayIn t.held new.collection) (sym effect.tables.tables_are)
      (marked_on (IsKeptKey (asked.Claim seg) answer) old.tables.held old.collection new.collection collects under_way)

  sealed_answer : (offered : List Contents) (actor : ℕ) (answer : Result Answer Refusal) → Runs old.disk.size None old.tables → SealRow offered actor answer old new
      → SealsSome offered answer old new → Collects (asked.Seal offered) answer old new
      → IsUnderWayIn old.tables.held old.collection → IsUnderWayIn new.tables.held new.collection
  sealed_answer offered actor (Ok (answers.Sealed id count)) runs row effect collects under_way =
      marked_on (IsKeptKey (asked.Seal offered) (Ok (answers.Sealed id count))) new.tables.held old.collection new.collection collects
      (sealed_on (take count offered) old new runs effect.made (sealed_some offered id count actor old new row) (sealed_last offered id count actor old new row) old.collection
      under_way)
  sealed_answer offered actor (Err refusal) runs row effect collects under_way =
      subst (λ (t : Tables). IsUnderWayIn t.held new.collection) (sym (tables_kept old new refusal effect.kept))
      (marked_on (IsKeptKey (asked.Seal offered) (Err refusal)) old.tables.held old.collection new.collection collects under_way)
  sealed_answer offered actor answer runs row effect collects under_way = absurd row

  begun_on : (percent : ℕ) (answer : Result Answer Refusal) → StartRow percent answer old new → KeepsTables old new → IsUnderWayIn old.tables.held old.collection
      → IsUnderWayIn new.tables.held new.collection
  begun_on percent (Ok (answers.Started snapshot)) row kept under_way =
      subst (λ (t : Tables). IsUnderWayIn t.held new.collection) (sym kept.tables_are) (subst (IsUnderWayIn old.tables.held) (sym row.0.runs) row.0.under_way)
  begun_on percent (Err (refusals.Collecting phase)) row kept under_way = kept_on kept row.1 under_way
  begun_on percent (Err refusal) row kept under_way = kept_on kept row.none_runs under_way
  begun_on percent answer row kept under_way = absurd row

  pub commit_held : (name : List ℕ) (root : Root) (actor : ℕ) (answer : Result Answer Refusal) → CommitRow name root actor answer old new → NamesOne name (Put root) answer old new
      → new.tables.held ≡ old.tables.held
  commit_held name root actor (Ok (answers.Committed sequence)) row effect = row.3
  commit_held name root actor (Err refusal) row effect = ap (λ (t : Tables). t.held) effect.kept.tables_are
  commit_held name root actor answer row effect = absurd row

  pub delete_held : (name : List ℕ) (answer : Result Answer Refusal) → DeleteRow name answer old new → NamesOne name Delete answer old new → new.tables.held ≡ old.tables.held
  delete_held name (Ok (answers.Deleted sequence)) row effect = row.3
  delete_held name (Err refusal) row effect = ap (λ (t : Tables). t.held) effect.kept.tables_are
  delete_held name answer row effect = absurd row

  -- it stays under way
  pub under_way_on : (step : StepValue) (actor : ℕ) (answer : Result Answer Refusal) (buf : List ℕ) → Row step actor answer buf old new → Effect step answer old new
      → Collects step answer old new
      → Runs old.disk.size None old.tables → IsUnderWayIn old.tables.held old.collection → IsUnderWayIn new.tables.held new.collection
  under_way_on (asked.Claim seg) actor answer buf row effect collects runs = claimed_on seg answer effect collects
  under_way_on (asked.Seal offered) actor answer buf row effect collects runs = sealed_answer offered actor answer runs row effect collects
  under_way_on (asked.Commit name root) actor answer buf row effect collects runs = unchanged_on (commit_held name root actor answer row effect) collects
  under_way_on (asked.Delete name) actor answer buf row effect collects runs = unchanged_on (delete_held name answer row effect) collects
  under_way_on (asked.GcStart percent) actor answer buf row effect collects runs = begun_on percent answer row effect.tables
  under_way_on asked.GcStep actor answer buf row effect collects runs = effect.under_way
  under_way_on other actor answer buf row effect collects runs = kept_on effect.tables collects

-- ---- a step

module _ (old new : CoreState) (e : Event) where
  steps_up : new.stop ≡ None → Steps e old new → IsUp old → IsUp new
  steps_up stays steps up = record {
    runs = effect_runs old new e.actor e.buf e.step e.answer steps.made.row steps.made.effect up.runs;
    many = many_on e.actor old.parts new.parts (row_one e.actor e.buf old new e.step e.answer steps.made.row) up.many;
    served = steps.made.served up.served;
    under_way = under_way_on old new e.step e.actor e.answer e.buf steps.made.row steps.made.effect steps.collects up.runs up.under_way;
  }

  by_stop : (stop : Option Stop) → new.stop ≡ stop → Steps e old new → IsUp old → UnlessStopped stop (IsUp new)
  by_stop None is steps up = steps_up is steps up
  by_stop (Some stop) is steps up = tt

  by_old : (stop : Option Stop) → old.stop ≡ stop → StepsOr stop e old new → UnlessStopped stop (IsUp old) → IsRunning new
  by_old None is steps up = by_stop new.stop refl steps up
  by_old (Some stop) is steps up = subst (λ (s : Option Stop). UnlessStopped s (IsUp new)) (sym (steps.same.stop_is ∙ is)) tt

  pub step_runs : CoreStep old e new → IsRunning old → IsRunning new
  step_runs steps up = by_old old.stop refl steps up

module _ (C : Type 0) (state : C → CoreState) where
  pub runs_on : RunsOn C state
  runs_on [] old new run up = subst (λ (c : C). IsRunning (state c)) (sym run) up
  runs_on (e ∷ es) old new run up = runs_on es run.0 new run.1.1 (step_runs (state old) (state run.0) e run.1.0 up)
