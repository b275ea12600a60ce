-- How many steps a collection takes.
use Rattle.store_core.proofs.Prelude.{inl, inr, ◌≡◌, ◌≤◌, ℕ, ◌+◌, ◌*◌, List, [], ◌∷◌, length, Option, Some, None, Result, Ok, Err, Vec, Global, refl, sym, ◌∙◌, ap, subst, arith, Answer, StepValue, LiveKeys, Collection, Stage, Filter, Mark, Select, Flush, Release, End, Did, IsToChoose, Keeps, StepsTo, Nears, steps_to_come, IsUnderWay, Refusal, SlotTable, Tables, Stop, IsNoEnd, NoneEnds, starts, Collects, GcRow, GoesOn, IsKeptKey, MarksIn, StartRow, at_moment, Effect, KeepsTables, Row, Steps, StepsOr, CoreRun, CoreState, Event, IsRunning, IsUnderWayIn, IsUp, UnlessStopped}
use Rattle.actor_parts.specs.declared.step.Answer.TheVariants as answers
use Rattle.actor_parts.specs.StepValue as asked
use Rattle.container_meta.specs.Segments.{Contents}
use Rattle.gc_steps.specs.declared.collection.Stage.TheVariants.{Sweep}
use Rattle.gc_sweep.specs.declared.sweep.Next.{Next}
use Rattle.gc_sweep.specs.declared.sweep.Next.TheVariants.{Copy}
use Rattle.gc_steps.specs.StepsToCome.{old_from, trees_from}
use Rattle.refusals.specs.declared.refusal.Refusal.TheVariants as refusals
use Rattle.store_core.specs.Bounds.{BoundsSteps, made_by, made_in}
use Rattle.store_core.specs.Collecting.{Begins}
use Rattle.std.specs.Prelude.{take}
use Rattle.store_core.proofs.AtStore.{same_some}
use Rattle.store_core.proofs.CoreRuns.{running_step}
use Rattle.store_core.proofs.RunningOn.{commit_held, delete_held, sealed_last, sealed_some, sealed_under, step_runs, tables_kept}

-- no step that was refused was made
refused_none : (step : StepValue) (refusal : Refusal) → made_by step (Err refusal) ≡ 0
refused_none asked.GcStep refusal = refl
refused_none other refusal = refl

-- a refusal leaves a collection, but for its live keys
refused_live : (old new : CoreState) (b : Collection) (stage : Stage) (next : Next) (refusal : Refusal) (a : Collection)
    → Keeps stage next (at_moment old b) (at_moment new a) refusal
    → (live : LiveKeys) × (a ≡ record b { live = live })
refused_live old new b (Mark level slot) next refusals.Memory a (inl same, known) = (b.live, same)
refused_live old new b (Mark level slot) next refusals.Memory a (inr only, known) = (a.live, only.collection_is)
refused_live old new b Sweep (Copy source entry) refusal a keeps = (b.live, keeps.0)
refused_live old new b Sweep (Flush source entry) refusal a keeps = (b.live, keeps.0)
refused_live old new b Sweep (Release source entry) refusal a keeps = (b.live, keeps)
refused_live old new b Sweep End refusal a keeps = (b.live, keeps.0)
refused_live old new b other next refusal a keeps = (b.live, keeps.0)

-- What a step leaves of a collection that runs: it chose no fewer sources, and chose them once; and that step and those that then come are no
-- more than those that came before it.
record Leaves (step : StepValue) (answer : Result Answer Refusal) (b : Collection) (old new : CoreState) : Type 0 where
  a : Collection
  runs : new.collection ≡ Some a
  more : length b.sweep.sources.items ≤ length a.sweep.sources.items
  unchosen : IsToChoose a.stage → a.sweep.sources.items ≡ []
  nears : (chosen : ℕ) → length a.sweep.sources.items ≤ chosen
      → made_by step answer + steps_to_come chosen new.tables.held a ≤ steps_to_come chosen old.tables.held b

module _ (old new : CoreState) (b : Collection) (ran : old.collection ≡ Some b) (unchosen : IsToChoose b.stage → b.sweep.sources.items ≡ []) where
  -- but for its live keys it is as it was, and as many steps come
  unchanged : (step : StepValue) (answer : Result Answer Refusal) → made_by step answer ≡ 0 → (live : LiveKeys) → new.collection ≡ Some (record b { live = live })
      → ((chosen : ℕ) → steps_to_come chosen new.tables.held b ≡ steps_to_come chosen old.tables.held b) → Leaves step answer b old new
  unchanged step answer none live runs still = record {
    a = record b { live = live };
    runs = runs;
    more = omega arith;
    unchosen = unchosen;
    nears = λ chosen few. omega (arith, none, still chosen);
  }

  same_steps : new.tables.held ≡ old.tables.held → (chosen : ℕ) → steps_to_come chosen new.tables.held b ≡ steps_to_come chosen old.tables.held b
  same_steps same chosen = ap (λ (t : SlotTable). steps_to_come chosen t b) same

  -- ---- a step of another kind

  kept : (step : StepValue) (answer : Result Answer Refusal) → made_by step answer ≡ 0 → new.tables.held ≡ old.tables.held → new.collection ≡ old.collection
      → Leaves step answer b old new
  kept step answer none held same = unchanged step answer none b.live (same ∙ ran) (same_steps held)

  marked : (step : StepValue) (answer : Result Answer Refusal) (P : List ℕ → Type 0) → made_by step answer ≡ 0 → MarksIn P old.collection new.collection
      → ((chosen : ℕ) → steps_to_come chosen new.tables.held b ≡ steps_to_come chosen old.tables.held b) → Leaves step answer b old new
  marked step answer P none marks still =
      let so = subst (λ (o : Option Collection). MarksIn P o new.collection) ran marks in
      unchanged step answer none so.0 so.1.0 still

  module _ (up : IsUp old) where
    under : IsUnderWay old.tables.held b
    under = subst (IsUnderWayIn old.tables.held) ran up.under_way

    seal_leaves : (offered : List Contents) (answer : Result Answer Refusal) (actor : ℕ) (buf : List ℕ) → Row (asked.Seal offered) actor answer buf old new
        → Effect (asked.Seal offered) answer old new
        → Collects (asked.Seal offered) answer old new → Leaves (asked.Seal offered) answer b old new
    seal_leaves offered (Ok (answers.Sealed id count)) actor buf row effect collects =
        marked (asked.Seal offered) (Ok (answers.Sealed id count)) (IsKeptKey (asked.Seal offered) (Ok (answers.Sealed id count))) refl collects
        (sealed_under (take count offered) old new up.runs effect.made (sealed_some offered id count actor old new row)
        (sealed_last offered id count actor old new row) b under).steps
    seal_leaves offered (Err refusal) actor buf row effect collects =
        marked (asked.Seal offered) (Err refusal) (IsKeptKey (asked.Seal offered) (Err refusal)) refl collects
        (same_steps (ap (λ (t : Tables). t.held) (tables_kept old new refusal effect.kept)))
    seal_leaves offered answer actor buf row effect collects = absurd row

  start_leaves : (percent : ℕ) (answer : Result Answer Refusal) → StartRow percent answer old new → KeepsTables old new → Leaves (asked.GcStart percent) answer b old new
  start_leaves percent (Ok (answers.Started snapshot)) row tables = absurd (let wrong : None ≡ Some b = sym row.0.none_ran ∙ ran in cc)
  start_leaves percent (Err (refusals.Collecting phase)) row tables = kept (asked.GcStart percent) (Err (refusals.Collecting phase)) refl
      (ap (λ (t : Tables). t.held) tables.tables_are) row.1
  start_leaves percent (Err refusal) row tables = absurd (let wrong : None ≡ Some b = sym row.none_ran ∙ ran in cc)
  start_leaves percent answer row tables = absurd row

  -- ---- its own

  abbrev Goes : Collection → Stage → Next → Type 0
  Goes a stage next = StepsTo stage next (at_moment old b) (at_moment new a)

  -- no fewer sources; and none before they are chosen
  record Chosen (a : Collection) : Type 0 where
    more : length b.sweep.sources.items ≤ length a.sweep.sources.items
    none : IsToChoose a.stage → a.sweep.sources.items ≡ []

  same_sources : (a : Collection) → a.sweep.sources.items ≡ b.sweep.sources.items → (IsToChoose a.stage → b.sweep.sources.items ≡ []) → Chosen a
  same_sources a same none = record { more = omega (arith, ap length same); none = λ early. same ∙ none early }

  -- it sweeps
  swept : (a : Collection) → b.stage ≡ Sweep → a ≡ record b { sweep = a.sweep } → a.sweep.sources ≡ b.sweep.sources → Chosen a
  swept a stage is sources =
      same_sources a (ap (λ (v : Vec ℕ Global). v.items) sources) (λ early. absurd (let none : ⊥ = subst IsToChoose (ap (λ (x : Collection). x.stage) is ∙ stage) early in none))

  chosen_by : (a : Collection) (stage : Stage) (next : Next) → b.stage ≡ stage → Goes a stage next → Chosen a
  chosen_by a (Mark level slot) next is goes =
      same_sources a (ap (λ (x : Collection). x.sweep.sources.items) goes.0.collection_is) (λ early. unchosen (subst IsToChoose (sym is) tt))
  chosen_by a (Filter slot) next is goes =
      same_sources a (ap (λ (x : Collection). x.sweep.sources.items) goes.0.collection_is) (λ early. unchosen (subst IsToChoose (sym is) tt))
  chosen_by a Select next is goes = record {
    more = let none : length b.sweep.sources.items ≡ 0 = ap length (unchosen (subst IsToChoose (sym is) tt)) in omega (arith, none);
    none = λ early. absurd (let none : ⊥ = subst IsToChoose (ap (λ (x : Collection). x.stage) goes.0.collection_is) early in none);
  }
  chosen_by a Sweep (Copy source entry) is goes = swept a is goes.1 goes.0.others.sources_are
  chosen_by a Sweep (Flush source entry) is goes = swept a is goes.sweeps goes.flushed.sources_are
  chosen_by a Sweep (Release source entry) is goes = swept a is goes.1 goes.0.sources_are
  chosen_by a Sweep End is goes = same_sources a (ap (λ (x : Collection). x.sweep.sources.items) goes.0)
      (λ early. absurd (let none : ⊥ = subst IsToChoose (ap (λ (x : Collection). x.stage) goes.0 ∙ is) early in none))

  did_leaves : (phase : _) → GoesOn phase old new → Leaves asked.GcStep (Ok (answers.Did phase)) b old new
  did_leaves phase goes = by_before goes.before (same_some goes.before b old.collection goes.ran ran) goes.steps goes.nearer
    where
      by_before : (before : Collection) → before ≡ b → StepsTo before.stage before.sweep.next (at_moment old before) (at_moment new goes.after)
          → ((chosen : ℕ) → length goes.after.sweep.sources.items ≤ chosen
          → Nears (Did phase) (steps_to_come chosen old.tables.held before) (steps_to_come chosen new.tables.held goes.after))
          → Leaves asked.GcStep (Ok (answers.Did phase)) b old new
      by_before before same steps nearer =
          let so : Goes goes.after b.stage b.sweep.next = subst (λ (x : Collection). StepsTo x.stage x.sweep.next (at_moment old x) (at_moment new goes.after)) same steps in
          let near = subst
          (λ (x : Collection). (chosen : ℕ) → length goes.after.sweep.sources.items ≤ chosen
          → Nears (Did phase) (steps_to_come chosen old.tables.held x) (steps_to_come chosen new.tables.held goes.after)) same nearer in
          let chosen = chosen_by goes.after b.stage b.sweep.next refl so in
          record {
            a = goes.after;
            runs = goes.runs;
            more = chosen.more;
            unchosen = chosen.none;
            nears = λ many few. let fewer = near many few in omega (arith, fewer);
          }

  gc_leaves : (answer : Result Answer Refusal) → IsNoEnd answer → GcRow answer old new → Leaves asked.GcStep answer b old new
  gc_leaves (Ok (answers.Did phase)) goes_on row = did_leaves phase row.0
  gc_leaves (Ok (answers.Done freed copied)) goes_on row = absurd goes_on
  gc_leaves (Err refusals.NotCollecting) goes_on row = absurd (let wrong : None ≡ Some b = sym row.0.none_ran ∙ ran in cc)
  gc_leaves (Err refusal) goes_on row =
      let same = same_some row.0.before b old.collection row.0.ran ran in
      let live = refused_live old new b b.stage b.sweep.next refusal row.0.after
      (subst (λ (x : Collection). Keeps x.stage x.sweep.next (at_moment old x) (at_moment new row.0.after) refusal) same row.0.kept) in
      unchanged asked.GcStep (Err refusal) refl live.0 (row.0.runs ∙ ap Some live.1) (same_steps (ap (λ (t : Tables). t.held) row.0.tables_are))
  gc_leaves answer goes_on row = absurd row

  -- ---- any step

  step_leaves : (actor : ℕ) (buf : List ℕ) (step : StepValue) (answer : Result Answer Refusal) → IsUp old → IsNoEnd answer → Row step actor answer buf old new
      → Effect step answer old new → Collects step answer old new
      → Leaves step answer b old new
  step_leaves actor buf asked.Begin answer up goes_on row effect collects = kept asked.Begin answer refl (ap (λ (t : Tables). t.held) effect.tables.tables_are) collects
  step_leaves actor buf (asked.Claim seg) answer up goes_on row effect collects =
      marked (asked.Claim seg) answer (IsKeptKey (asked.Claim seg) answer) refl collects (same_steps (ap (λ (t : Tables). t.held) effect.tables.tables_are))
  step_leaves actor buf (asked.Seal offered) answer up goes_on row effect collects = seal_leaves up offered answer actor buf row effect collects
  step_leaves actor buf (asked.Commit name root) answer up goes_on row effect collects = kept (asked.Commit name root) answer refl
      (commit_held old new name root actor answer row effect) collects
  step_leaves actor buf asked.Abort answer up goes_on row effect collects = kept asked.Abort answer refl (ap (λ (t : Tables). t.held) effect.tables.tables_are) collects
  step_leaves actor buf (asked.OpenRead name) answer up goes_on row effect collects = kept (asked.OpenRead name) answer refl
      (ap (λ (t : Tables). t.held) effect.tables.tables_are) collects
  step_leaves actor buf asked.ReadNext answer up goes_on row effect collects = kept asked.ReadNext answer refl (ap (λ (t : Tables). t.held) effect.tables.tables_are) collects
  step_leaves actor buf asked.EndRead answer up goes_on row effect collects = kept asked.EndRead answer refl (ap (λ (t : Tables). t.held) effect.tables.tables_are) collects
  step_leaves actor buf (asked.Delete name) answer up goes_on row effect collects = kept (asked.Delete name) answer refl (delete_held old new name answer row effect) collects
  step_leaves actor buf asked.ListNames answer up goes_on row effect collects = kept asked.ListNames answer refl (ap (λ (t : Tables). t.held) effect.tables.tables_are) collects
  step_leaves actor buf (asked.GcStart percent) answer up goes_on row effect collects = start_leaves percent answer row effect.tables
  step_leaves actor buf asked.GcStep answer up goes_on row effect collects = gc_leaves answer goes_on row
  step_leaves actor buf asked.Stat answer up goes_on row effect collects = kept asked.Stat answer refl (ap (λ (t : Tables). t.held) effect.tables.tables_are) collects
  step_leaves actor buf asked.Unique answer up goes_on row effect collects = kept asked.Unique answer refl (ap (λ (t : Tables). t.held) effect.tables.tables_are) collects

  event_leaves : (e : Event) (stop : Option Stop) → StepsOr stop e old new → UnlessStopped stop (IsUp old) → IsNoEnd e.answer → Leaves e.step e.answer b old new
  event_leaves e None steps up goes_on = step_leaves e.actor e.buf e.step e.answer up goes_on steps.made.row steps.made.effect steps.collects
  event_leaves e (Some stop) steps up goes_on =
      kept e.step e.answer (ap (made_by e.step) steps.answer_is ∙ refused_none e.step (refusals.Stopped stop.at))
      (ap (λ (t : Tables). t.held) steps.same.tables_are) steps.same.collection_is

-- ---- steps, one after the other

module _ (C : Type 0) (state : C → CoreState) where
  record Bounded (events : List Event) (b c : Collection) (mid new : C) : Type 0 where
    more : length b.sweep.sources.items ≤ length c.sweep.sources.items
    few : made_in events + steps_to_come (length c.sweep.sources.items) (state new).tables.held c ≤ steps_to_come (length c.sweep.sources.items) (state mid).tables.held b

  bounded : (events : List Event) (mid new : C) (b c : Collection) → IsRunning (state mid) → CoreRun C state events mid new → NoneEnds events → (state mid).collection ≡ Some b
      → (state new).collection ≡ Some c
      → (IsToChoose b.stage → b.sweep.sources.items ≡ []) → Bounded events b c mid new
  bounded [] mid new b c up run ends ran runs unchosen =
      let same : b ≡ c = same_some b c (state mid).collection ran (sym (ap (λ (x : C). (state x).collection) run) ∙ runs) in
      record {
        more = omega (arith, ap (λ (x : Collection). length x.sweep.sources.items) same);
        few =
            let tables : (state new).tables.held ≡ (state mid).tables.held = ap (λ (x : C). (state x).tables.held) run in
            let steps : steps_to_come (length c.sweep.sources.items) (state new).tables.held c ≡ steps_to_come (length c.sweep.sources.items) (state mid).tables.held b =
            ap (λ (t : SlotTable). steps_to_come (length c.sweep.sources.items) t c) tables
            ∙ ap (steps_to_come (length c.sweep.sources.items) (state mid).tables.held) (sym same) in
            omega (arith, steps);
      }
  bounded (e ∷ es) mid new b c up run ends ran runs unchosen =
      let next : C = run.0 in
      let one = event_leaves (state mid) (state next) b ran unchosen e (state mid).stop run.1.0 up ends.0 in
      let rest = bounded es next new one.a c (step_runs (state mid) (state next) e run.1.0 up) run.1.1 ends.1 one.runs runs one.unchosen in
      record {
        more = omega (arith, one.more, rest.more);
        few = let fewer = one.nears (length c.sweep.sources.items) rest.more in omega (arith, fewer, rest.few);
      }

  pub bounds_steps : BoundsSteps C state
  bounds_steps actor percent snapshot buf events old mid new c up runs began run ends is =
      let steps : Steps (starts actor percent snapshot buf) (state old) (state mid) = running_step (state old) (state mid) (starts actor percent snapshot buf) runs began in
      let begins : Begins percent snapshot (state old) (state mid) = steps.made.row.0 in
      let held : (state mid).tables.held ≡ (state old).tables.held = ap (λ (t : Tables). t.held) steps.made.effect.tables.tables_are in
      let all = bounded events mid new begins.collection c (step_runs (state old) (state mid) (starts actor percent snapshot buf) began up) run ends begins.runs is
      (λ early. begins.nothing_yet.1.sources_are) in
      let first = begins.steps (length c.sweep.sources.items) in
      let at : steps_to_come (length c.sweep.sources.items) (state mid).tables.held begins.collection ≡ steps_to_come (length c.sweep.sources.items)
      (state old).tables.held begins.collection =
      ap (λ (t : SlotTable). steps_to_come (length c.sweep.sources.items) t begins.collection) held in
      let t : SlotTable = (state old).tables.held in
      let counted : 6 * trees_from snapshot t 0 + old_from snapshot t 0 ≡ 6 * trees_from begins.collection.snapshot t 0 + old_from begins.collection.snapshot t 0 =
      ap (λ (n : ℕ). 6 * trees_from n t 0 + old_from n t 0) begins.snapshot_is in
      omega (arith, all.few, first, at, counted)
