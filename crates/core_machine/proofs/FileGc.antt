-- Steps of a collection, made by a core that is at the files of a machine: what the content of the disk adds to them.
use Rattle.core_machine.proofs.Prelude.{◌≡◌, inl, inr, ◌⊎◌, ℕ, suc, ◌<◌, Bool, true, List, [], ◌∷◌, ◌++◌, Option, Some, None, option_map, Result, Ok, Err, refl, sym, ◌∙◌, ap, subst, arith, AllByRecursion, Answer, StepValue, Kind, PlaceMap, Segment, Root, LAST_ID, ContainerLiveness, Next, CopiesSource, CoreCollection, CoreStage, recorded, TablesAfter, moment, phase_at, at_stage, Phase, Refusal, ByteSet, IsIn, Store, IsSpare, FlushContainer, FreeContainer, SlotTable, Tables, GcRow, StartRow, at_moment, Row, Steps, FileEvent, IsAt, IsHarmless, MayClash, CoreState, IsUnderWayIn, running_step, phase_of, some_same, same_some, FileMachine, GoesOver, IsCollecting, IsCopyOf, IsRecordOf, MayBreak, phase_by, sources_in, SameState, asked_of, forget_collection, Answers, ByState, LegalBy, RunState, Running, Stopped, Sweeping, Adds, AddsBy, AddsToAnswer, IsReady, RootMachine, of_files, of_roots, SameCollection, SameRun, SameStage, SameSweep, stored_in, HasIndex, TellsForgotten, answered_by, asked_as, ForgetsBy, MovesAs, NamesGc, NamesStep, changes_of, dead_in, stores_of, WroteOnce}
use Rattle.std.proofs.Common.{map, IfErr}
use Rattle.actor_parts.specs.declared.step.Answer.TheVariants as answers
use Rattle.actor_parts.specs.StepValue as steps
use Rattle.gc_sweep.specs.declared.sweep.Next.TheVariants as nexts
use Rattle.gc_steps.specs.declared.collection.Stage.TheVariants as core
use Rattle.gc_steps.specs.Filtering.{Records}
use Rattle.gc_steps.specs.Stepping.{StepsTo}
use Rattle.gc_steps.proofs.RecordOf.{record_of}
use Rattle.refusals.specs.declared.refusal.Phase.TheVariants as phases
use Rattle.refusals.specs.declared.refusal.Refusal.TheVariants as refusals
use Rattle.store_core.specs.Collecting.{GoesOn}
use Rattle.store_core.proofs.AtStore.{at_store}
use Rattle.store_core.proofs.Damage.{answer_harmless}
use Rattle.store_machine.specs.Asked as asked
use Rattle.store_machine.specs.Machine.{Collection, Stage, Sweep}
use Rattle.store_machine.specs.Needs.{IsNeeded}
use Rattle.store_machine.specs.Remembering.{AddsToRefused, AddsToStep}
use Rattle.core_machine.specs.Files.{file_step}
use Rattle.core_machine.specs.Sweeping.{StopsAs}
use Rattle.core_machine.proofs.FileCollecting.{RunsIn, SweepsBy, at_copy, at_filter, at_flush, at_release, copies_in, record_in, spare_in, under_in}
use Rattle.core_machine.proofs.FileCopied.{over_so, ready_so}
use Rattle.core_machine.proofs.FileNeeds.{all_fit}
use Rattle.core_machine.proofs.FileSteps.{StepsAt}
use Rattle.core_machine.proofs.FreedSources.{in_turn}
use Rattle.core_machine.proofs.Phases.{Runs, one_runs, phase_so}
use Rattle.core_machine.proofs.SweptOn.{AtSweep, at_sweep}
use Rattle.gc_sweep.specs.Copying.{copy_step}

-- ---- lists

last_same : {X : Type 0} (xs : List X) (a b : X) → xs ++ a ∷ [] ≡ xs ++ b ∷ [] → a ≡ b
last_same [] a b same = cc
last_same (x ∷ xs) a b same = last_same xs a b (let is : xs ++ a ∷ [] ≡ xs ++ b ∷ [] = cc in is)

pub rest_same : {X : Type 0} (xs ys zs : List X) → xs ++ ys ≡ xs ++ zs → ys ≡ zs
rest_same [] ys zs same = same
rest_same (x ∷ xs) ys zs same = rest_same xs ys zs (let is : xs ++ ys ≡ xs ++ zs = cc in is)

-- slots that are given back, by the changes
slots_same : (slots others : List ℕ) → map FreeContainer slots ≡ map FreeContainer others → slots ≡ others
slots_same [] [] same = refl
slots_same [] (other ∷ others) same = absurd (let wrong : [] ≡ FreeContainer other ∷ map FreeContainer others = same in cc)
slots_same (slot ∷ slots) [] same = absurd (let wrong : FreeContainer slot ∷ map FreeContainer slots ≡ [] = same in cc)
slots_same (slot ∷ slots) (other ∷ others) same =
    let both : FreeContainer slot ∷ map FreeContainer slots ≡ FreeContainer other ∷ map FreeContainer others = same in
    let one : slot ≡ other = cc in
    let rest : map FreeContainer slots ≡ map FreeContainer others = cc in
    ap (λ (s : ℕ). s ∷ slots) one ∙ ap (λ (ss : List ℕ). other ∷ ss) (slots_same slots others rest)

-- ---- the collection of the machine of roots

pub same_run : (t : SlotTable) (swept : Bool) (a : Option (Collection Root)) (b : Option CoreCollection) (c : Collection Root) (k : CoreCollection)
    → SameCollection t swept a b → a ≡ Some c → b ≡ Some k → SameRun t swept c k
same_run t swept a b c k same is there = subst (SameCollection t swept (Some c)) there (subst (λ (o : Option (Collection Root)). SameCollection t swept o b) is same)

-- its sweep, where that of the core is known
same_sweep : (t : SlotTable) (swept : Bool) (c : Collection Root) (k : CoreCollection) → SameRun t swept c k → k.stage ≡ core.Sweep → (next : Phase) (s : Sweep)
    → c.stage ≡ Sweeping next s → SameSweep t swept (sources_in c) c.changes next s k.sweep
same_sweep t swept c k run stage next s is =
    subst (λ (st : Stage). SameStage t swept (sources_in c) c.changes k.snapshot k.sweep st core.Sweep) is
    (subst (SameStage t swept (sources_in c) c.changes k.snapshot k.sweep c.stage) stage run.stage_is)

module _ (C : Type 0) (state : C → CoreState) (among : ByteSet) (f : FileEvent) (old new : C) (m : FileMachine) (r t : RootMachine) (s : StepsAt C state among f old new m r t)
    (wrote : WroteOnce m (state old)) where
  abbrev c : CoreState
  c = state old

  abbrev d : CoreState
  d = state new

  abbrev is_at : IsAt (IsIn among) m.store (stored_in m.now) c
  is_at = s.at.is_at

  made : Steps f.event c d
  made = running_step c d f.event s.goes s.step.made

  same_state : (a : RunState (List ℕ)) (b : RunState Root) → SameState a b → a ≡ Running → b ≡ Running
  same_state Running Running same is = refl
  same_state Running (Stopped other stores) same is = absurd same
  same_state (Stopped other stores) b same is = absurd (let wrong : Stopped other stores ≡ Running = is in cc)

  roots_run : r.state ≡ Running
  roots_run = same_state m.state r.state s.forgets.state s.runs

  own : HasIndex true r.swept r.forgotten r.store.held c.known
  own = s.machine.index roots_run

  told : TellsForgotten m.forgotten m.store.held is_at.index
  told =
      subst (TellsForgotten m.forgotten m.store.held) (some_same own.places is_at.index (sym own.known_is ∙ is_at.index_known))
      (subst (λ (x : Store). TellsForgotten m.forgotten x.held own.places) s.forgets.store
      (subst (λ (keys : List (List ℕ)). TellsForgotten keys r.store.held own.places) s.forgets.forgotten (own.told refl)))

  roots_ran : (x : Collection (List ℕ)) → m.collection ≡ Some x → r.collection ≡ Some (forget_collection x)
  roots_ran x ran = s.forgets.collection ∙ ap (option_map forget_collection) ran

  -- the machine's collection, as it runs in the core
  runs_in : (x : Collection (List ℕ)) (k : CoreCollection) → m.collection ≡ Some x → c.collection ≡ Some k → RunsIn (IsIn among) m c x k
  runs_in x k ran core_ran = record {
    at = s.at;
    ran = ran;
    core_ran = core_ran;
    same = subst (λ (b : Bool). SameRun c.tables.held b (forget_collection x) k) s.forgets.swept
        (same_run c.tables.held r.swept r.collection c.collection (forget_collection x) k s.machine.collection (roots_ran x ran) core_ran);
    fit = all_fit m.parts r.parts c.parts s.forgets.parts s.machine.parts;
    told = told;
  }

  -- no damage is found
  harmless : (a : Result Answer Refusal) → f.event.answer ≡ a → IfErr a (λ refusal. IsHarmless (MayClash f.event.step) refusal)
  harmless a told_is =
      subst (λ (x : Result Answer Refusal). IfErr x (λ refusal. IsHarmless (MayClash f.event.step) refusal)) told_is
      (answer_harmless among m.store (stored_in m.now) c d s.apart is_at f.event.actor f.event.buf f.bytes f.event.step f.event.answer s.step.given made.made.row)

  -- ---- a step that was made

  module _ (phase : Phase) (goes : GoesOn phase c d) (moves : MovesAs phase c d r t) (x : Collection (List ℕ)) (y : Collection Root) (ran : m.collection ≡ Some x)
      (ran_then : t.collection ≡ Some y) where
    abbrev k : CoreCollection
    k = goes.before

    abbrev k' : CoreCollection
    k' = goes.after

    runs : RunsIn (IsIn among) m c x k
    runs = runs_in x k ran goes.ran

    then : SameRun d.tables.held t.swept y k'
    then = same_run d.tables.held t.swept t.collection d.collection y k' s.then.collection ran_then goes.runs

    phase_is : phase_at k.stage k.sweep.next ≡ phase
    phase_is = phase_of k phase goes.phase_is

    stepped : StepsTo k.stage k.sweep.next (moment c.tables (Some is_at.index) c.disk k) (at_moment d k')
    stepped = subst (λ (known : Option PlaceMap). StepsTo k.stage k.sweep.next (moment c.tables known c.disk k) (at_moment d k')) is_at.index_known goes.steps

    -- it is the same collection
    same_before : moves.before ≡ k
    same_before = same_some moves.before k c.collection moves.core_ran goes.ran

    changes_are : y.changes ≡ x.changes ++ changes_of phase m.last_id k.sweep
    changes_are =
        let one : moves.c ≡ forget_collection x = let both : Some moves.c ≡ Some (forget_collection x) = sym moves.ran ∙ roots_ran x ran in cc in
        let two : moves.d ≡ y = let both : Some moves.d ≡ Some y = sym moves.runs ∙ ran_then in cc in
        ap (λ (z : Collection Root). z.changes) (sym two) ∙ moves.changes_are
        ∙ ap (λ (z : Collection Root). z.changes ++ changes_of phase r.last_id moves.before.sweep) one
        ∙ ap (λ (n : ℕ). x.changes ++ changes_of phase n moves.before.sweep) s.forgets.last_id
        ∙ ap (λ (z : CoreCollection). x.changes ++ changes_of phase m.last_id z.sweep) same_before

    -- a container was recorded
    filters : phase ≡ phases.Filter → (one : ContainerLiveness) → y.recorded ≡ x.recorded ++ one ∷ [] → IsRecordOf of_files x m.store one
    unfolding runs runs_in
    filters is one more =
        let at = at_filter k.stage k.sweep.next (phase_is ∙ is) in
        let records : Records c.tables.held (Some is_at.index) c.disk d.disk at.0 k k' =
        (subst (λ (st : CoreStage). StepsTo st k.sweep.next (moment c.tables (Some is_at.index) c.disk k) (at_moment d k')) at.1 stepped).0 in
        let here = at_store (IsIn among) m.store (stored_in m.now) c is_at in
        let of = record_of is_at.index m.store m.now.names is_at.stands.known.0 c.tables c.disk d.disk k k' here.stands here.shows is_at.stands.known.1 at.0
        (at_stage c.tables.held k (core.Filter at.0) (under_in (IsIn among) m c x k runs) at.1).0.0 records in
        let same : recorded c.tables.held at.0 records.live ≡ one =
        last_same k.liveness (recorded c.tables.held at.0 records.live) one
        (ap (λ (z : CoreCollection). z.liveness) (sym records.collection_is) ∙ sym then.recorded_is ∙ more
        ∙ ap (λ (rs : List ContainerLiveness). rs ++ one ∷ []) runs.same.recorded_is) in
        subst (IsRecordOf of_files x m.store) same (record_in (IsIn among) m c x k runs at.0 at.1 (recorded c.tables.held at.0 records.live) of)

    -- copies were written
    flushes : phase ≡ phases.Flush → (id : ℕ) (kind : Kind) (segments : List Segment) → y.changes ≡ x.changes ++ FlushContainer id kind segments ∷ []
        → AllByRecursion (IsCopyOf x m.store kind) segments
    flushes is id kind segments more =
        let at = at_flush k.stage k.sweep.next (phase_is ∙ is) in
        let same : FlushContainer (suc m.last_id) k.sweep.buffer.kind k.sweep.buffer.segments ≡ FlushContainer id kind segments =
        last_same x.changes (FlushContainer (suc m.last_id) k.sweep.buffer.kind k.sweep.buffer.segments) (FlushContainer id kind segments)
        (ap (λ (p : Phase). x.changes ++ changes_of p m.last_id k.sweep) (sym is) ∙ sym changes_are ∙ more) in
        let kinds : k.sweep.buffer.kind ≡ kind = cc in
        let all : k.sweep.buffer.segments ≡ segments = cc in
        subst (λ (xs : List Segment). AllByRecursion (IsCopyOf x m.store kind) xs) all
        (subst (λ (kd : Kind). AllByRecursion (IsCopyOf x m.store kd) k.sweep.buffer.segments) kinds
        (copies_in (IsIn among) m c x k runs at.2 (λ key was. (wrote x k ran goes.ran key was).unfilled)))

    -- containers were given back
    releases : phase ≡ phases.Release → (slots : List ℕ) → y.changes ≡ x.changes ++ map FreeContainer slots
        → AllByRecursion (IsSpare (IsNeeded of_files m) m.store.held) slots
    releases is slots more =
        let at = at_release k.stage k.sweep.next (phase_is ∙ is) in
        let same : map FreeContainer k.sweep.ready.items ≡ map FreeContainer slots =
        rest_same x.changes (map FreeContainer k.sweep.ready.items) (map FreeContainer slots)
        (ap (λ (p : Phase). x.changes ++ changes_of p m.last_id k.sweep) (sym is) ∙ sym changes_are ∙ more) in
        subst (AllByRecursion (IsSpare (IsNeeded of_files m) m.store.held)) (slots_same k.sweep.ready.items slots same)
        (spare_in (IsIn among) m c x k runs at.2 at.0 at.1 at.3)

    -- a source was copied
    module _ (is : phase ≡ phases.Copy) (before after : Sweep) (next : Phase) (was : x.stage ≡ Sweeping phases.Copy before) (then_is : y.stage ≡ Sweeping next after) where
      abbrev b : CoreCollection
      b = moves.before

      abbrev b' : CoreCollection
      b' = moves.after

      forgot : ForgetsBy phases.Copy (at_moment c b) (at_moment d b') r.forgotten t.forgotten
      forgot = subst (λ (p : Phase). ForgetsBy p (at_moment c b) (at_moment d b') r.forgotten t.forgotten) is moves.forgets

      abbrev source : ℕ
      source = forgot.0

      abbrev entry : ℕ
      entry = forgot.1

      abbrev next_was : b.sweep.next ≡ nexts.Copy source entry
      next_was = forgot.2

      abbrev copies : CopiesSource (copy_step c.tables.held b.live c.known source entry b.sweep) d.known c.disk d.disk b'.sweep
      copies = forgot.3

      now_is : t.forgotten ≡ m.forgotten ++ dead_in copies.found
      now_is = forgot.4 ∙ ap (λ (ks : List (List ℕ)). ks ++ dead_in copies.found) s.forgets.forgotten

      at : SweepsBy nexts.Copy k.stage k.sweep.next
      at = at_copy k.stage k.sweep.next (phase_is ∙ is)

      sweeps : b.stage ≡ core.Sweep
      sweeps = ap (λ (z : CoreCollection). z.stage) same_before ∙ at.2

      here : RunsIn (IsIn among) m c x b
      here = runs_in x b ran moves.core_ran

      same_then : k' ≡ b'
      same_then = same_some k' b' d.collection goes.runs moves.core_runs

      abbrev By : CoreStage → Next → Type 0
      By st n = StepsTo st n (at_moment c k) (at_moment d k') × TablesAfter st n (at_moment c k) (at_moment d k')

      by : By core.Sweep (nexts.Copy at.0 at.1)
      by = subst (By core.Sweep) at.3 (subst (λ (st : CoreStage). By st k.sweep.next) at.2 (goes.steps, goes.tables))

      table : d.tables.held ≡ c.tables.held
      table = ap (λ (z : Tables). z.held) by.1

      sweeps_then : b'.stage ≡ core.Sweep
      sweeps_then = ap (λ (z : CoreCollection). z.stage) (sym same_then) ∙ ap (λ (z : CoreCollection). z.stage) by.0.1 ∙ at.2

      before_same : SameSweep c.tables.held m.swept (sources_in x) x.changes phases.Copy before b.sweep
      before_same = same_sweep c.tables.held m.swept (forget_collection x) b here.same sweeps phases.Copy before was

      after_same : SameSweep d.tables.held t.swept (sources_in y) y.changes next after b'.sweep
      after_same =
          same_sweep d.tables.held t.swept y b' (same_run d.tables.held t.swept t.collection d.collection y b' s.then.collection ran_then moves.core_runs) sweeps_then next
          after then_is

      pub copied : GoesOver of_files x m.store before after m.forgotten t.forgotten × IsReady x before after
      copied = (
        over_so (IsIn among) m c x b here sweeps source entry next_was b'.sweep d.known d.disk copies before after next m.swept t.swept x.changes y.changes
            (sources_in y) d.tables.held before_same after_same table t.forgotten now_is,
        ready_so (IsIn among) m c x b here sweeps source entry next_was b'.sweep d.known d.disk copies before after next m.swept t.swept x.changes y.changes
            (sources_in y) d.tables.held before_same after_same table t.forgotten now_is,
      )

  did : (phase : Phase) → GoesOn phase c d → MovesAs phase c d r t → AddsToStep phase m t
  did phases.Filter goes moves x y ran then_ran = filters phases.Filter goes moves x y ran then_ran refl
  did phases.Copy goes moves x y ran then_ran = copied phases.Copy goes moves x y ran then_ran refl
  did phases.Flush goes moves x y ran then_ran = flushes phases.Flush goes moves x y ran then_ran refl
  did phases.Release goes moves x y ran then_ran = releases phases.Release goes moves x y ran then_ran refl
  did phase goes moves x y ran then_ran = tt

  -- ---- its write failed

  swept_in : (x : Collection (List ℕ)) (k : CoreCollection) → m.collection ≡ Some x → c.collection ≡ Some k → k.stage ≡ core.Sweep
      → AtSweep c.tables.held m.swept (forget_collection x) k.sweep
  swept_in x k ran core_ran stage = at_sweep c.tables.held m.swept (forget_collection x) k (runs_in x k ran core_ran).same stage

  -- a step that writes, or that changes an index which lies on the disk
  abbrev IsWriting : Phase → Type 0
  IsWriting phases.Copy = Unit {0}
  IsWriting phases.Flush = m.last_id < LAST_ID
  IsWriting phases.Release = Unit {0}
  IsWriting phase = ⊥

  broke_by : (x : Collection (List ℕ)) (k : CoreCollection) → m.collection ≡ Some x → c.collection ≡ Some k → (phase : Phase) → phase_at k.stage k.sweep.next ≡ phase
      → IsWriting phase → (stores : List Store) → stores ≡ stores_of phase m.last_id k.sweep m.store → MayBreak of_files m stores
  broke_by x k ran core_ran phases.Copy is writes stores are =
      let at = at_copy k.stage k.sweep.next is in
      let swept = swept_in x k ran core_ran at.2 in
      let stage : x.stage ≡ Sweeping phases.Copy swept.s = swept.stage_is ∙ ap (λ (p : Phase). Sweeping p swept.s) (swept.same.next_is ∙ ap (phase_at core.Sweep) at.3) in
      inl (subst (IsCollecting phases.Copy m.store) (sym ran) (subst (λ (st : Stage). phases.Copy ≡ phase_by m.store.held x st) (sym stage) refl), are)
  broke_by x k ran core_ran phases.Flush is left stores are =
      let at = at_flush k.stage k.sweep.next is in
      let swept = swept_in x k ran core_ran at.2 in
      inr (inl (record {
        c = x;
        ran = ran;
        s = swept.s;
        stage_is = swept.stage_is ∙ ap (λ (p : Phase). Sweeping p swept.s) (swept.same.next_is ∙ ap (phase_at core.Sweep) at.3);
        left = left;
        kind = k.sweep.buffer.kind;
        segments = k.sweep.buffer.segments;
        keys_are = sym swept.same.filled_is;
        copies = λ known. copies_in (IsIn among) m c x k (runs_in x k ran core_ran) at.2 (λ key was. (wrote x k ran core_ran key was).unfilled);
        stores_are = are;
      }))
  broke_by x k ran core_ran phases.Release is writes stores are =
      let at = at_release k.stage k.sweep.next is in
      let runs = runs_in x k ran core_ran in
      let turn = in_turn m.store.held c.tables.held m.swept (forget_collection x) k is_at.represents.slots_hold (under_in (IsIn among) m c x k runs)
      runs.same at.2 at.0 at.1 at.3 in
      inr (inr (record {
        c = x;
        ran = ran;
        s = turn.at.s;
        stage_is = turn.at.stage_is ∙ ap (λ (p : Phase). Sweeping p turn.at.s) turn.phase_was;
        some = turn.some;
        slots = k.sweep.ready.items;
        stand = turn.stand;
        spare = λ known. spare_in (IsIn among) m c x k runs at.2 at.0 at.1 at.3;
        stores_are = are;
      }))
  broke_by x k ran core_ran phase is writes stores are = absurd writes

  -- so the machine of roots has it
  writing : (k : CoreCollection) → c.collection ≡ Some k → (y : Runs c.tables.held r.swept r.collection k) (stores : List Store) → MayBreak of_roots r stores
      → IsWriting (phase_at k.stage k.sweep.next)
  writing k core_ran y stores may = by may
    where
      phase_now : phase_by r.store.held y.c y.c.stage ≡ phase_at k.stage k.sweep.next
      phase_now = phase_so r.store.held c.tables.held r.swept y.c k s.machine.valid.headers s.machine.represents.slots_hold y.same
          (subst (IsUnderWayIn c.tables.held) core_ran is_at.under_way)

      swept_so : (y' : Collection Root) (p : Phase) (sw : Sweep) → r.collection ≡ Some y' → y'.stage ≡ Sweeping p sw → p ≡ phase_at k.stage k.sweep.next
      swept_so y' p sw ran is =
          let same : y.c ≡ y' = let both : Some y.c ≡ Some y' = sym y.ran ∙ ran in cc in
          sym (ap (phase_by r.store.held y.c) (ap (λ (z : Collection Root). z.stage) same ∙ is)) ∙ phase_now

      by : MayBreak of_roots r stores → IsWriting (phase_at k.stage k.sweep.next)
      by (inl (copies, none)) = subst IsWriting (subst (IsCollecting phases.Copy r.store) y.ran copies ∙ phase_now) tt
      by (inr (inl b)) = subst IsWriting (swept_so b.c phases.Flush b.s b.ran b.stage_is) (omega (arith, b.left, s.forgets.last_id))
      by (inr (inr b)) = subst IsWriting (swept_so b.c phases.Release b.s b.ran b.stage_is) tt

  some_of : (o : Option (Collection (List ℕ))) (y : Collection Root) → option_map forget_collection o ≡ Some y → (x : Collection (List ℕ)) × (o ≡ Some x)
  some_of None y is = absurd cc
  some_of (Some x) y is = (x, refl)

  -- a step that was asked and answered so
  module _ (is : f.event.step ≡ steps.GcStep) where
    legal_as : (a : Result Answer Refusal) → f.event.answer ≡ a → Answers of_roots f.event.actor asked.GcStep (answered_by a f.event.buf) r t
    legal_as a told_is =
        subst (λ (st : RunState Root). ByState of_roots st f.event.actor asked.GcStep (answered_by a f.event.buf) r t) roots_run
        (subst (λ (x : Result Answer Refusal). LegalBy of_roots asked.GcStep f.event.actor (answered_by x f.event.buf) r t) told_is
        (subst (λ (st : StepValue). LegalBy of_roots (asked_of (asked_as (λ root. f.bytes) st)) f.event.actor (answered_by f.event.answer f.event.buf) r t) is s.legal))

    broke : f.event.answer ≡ Err refusals.DiskWrite → StopsAs c r t → (stores : List Store) → t.state ≡ Stopped None stores → MayBreak of_files m stores
    broke told_is (k, core_ran, state_is) stores stopped =
        let y = one_runs c.tables.held r.swept r.collection c.collection k s.machine.collection core_ran in
        let x = some_of m.collection y.c (sym s.forgets.collection ∙ y.ran) in
        let phase = phase_at k.stage k.sweep.next in
        let legal = legal_as (Err refusals.DiskWrite) told_is in
        let are : stores ≡ stores_of phase r.last_id k.sweep r.store = let both = sym stopped ∙ state_is in cc in
        broke_by x.0 k x.1 core_ran phase refl (writing k core_ran y legal.1.0 legal.1.1) stores
        (are ∙ ap (stores_of phase r.last_id k.sweep) s.forgets.store ∙ ap (λ (n : ℕ). stores_of phase n k.sweep m.store) s.forgets.last_id)

    -- ---- whatever was answered

    refused : (refusal : Refusal) → f.event.answer ≡ Err refusal → NamesGc (Err refusal) c d r t → AddsToRefused f.event.actor asked.GcStep refusal m t
    refused refusals.DiskWrite told_is names = broke told_is names
    refused (refusals.Corrupt slot offset count want got) told_is names = harmless (Err (refusals.Corrupt slot offset count want got)) told_is
    refused (refusals.Missing key) told_is names = harmless (Err (refusals.Missing key)) told_is
    refused (refusals.Damaged byte why) told_is names = harmless (Err (refusals.Damaged byte why)) told_is
    refused refusal told_is names = tt

    by_answer : (a : Result Answer Refusal) → f.event.answer ≡ a → GcRow a c d → NamesGc a c d r t → AddsToAnswer f.event.actor asked.GcStep (answered_by a f.event.buf) m t
    by_answer (Ok (answers.Did phase)) told_is row names = did phase row.0 names
    by_answer (Ok (answers.Done freed many)) told_is row names = tt
    by_answer (Err refusal) told_is row names = refused refusal told_is names
    by_answer a told_is row names = absurd row

    step_adds : Adds (file_step f) m r t
    step_adds =
        subst (λ (st : StepValue). AddsBy (asked_as (λ root. f.bytes) st) f.event.actor (answered_by f.event.answer f.event.buf) m r t) (sym is)
        (by_answer f.event.answer refl (subst (λ (st : StepValue). Row st f.event.actor f.event.answer f.event.buf c d) is made.made.row)
        (subst (λ (st : StepValue). NamesStep st f.event.answer c d r t) is s.named))

  -- ---- a start

  module _ (percent : ℕ) (is : f.event.step ≡ steps.GcStart percent) where
    start_refused : (refusal : Refusal) → f.event.answer ≡ Err refusal → AddsToRefused f.event.actor (asked.GcStart percent) refusal m t
    start_refused (refusals.Missing key) told_is = harmless (Err (refusals.Missing key)) told_is
    start_refused (refusals.Damaged byte why) told_is = harmless (Err (refusals.Damaged byte why)) told_is
    start_refused refusal told_is = tt

    start_answer : (a : Result Answer Refusal) → f.event.answer ≡ a → StartRow percent a c d → AddsToAnswer f.event.actor (asked.GcStart percent) (answered_by a f.event.buf) m t
    start_answer (Ok (answers.Started snapshot)) told_is row = tt
    start_answer (Err refusal) told_is row = start_refused refusal told_is
    start_answer a told_is row = absurd row

    start_adds : Adds (file_step f) m r t
    start_adds =
        subst (λ (st : StepValue). AddsBy (asked_as (λ root. f.bytes) st) f.event.actor (answered_by f.event.answer f.event.buf) m r t) (sym is)
        (start_answer f.event.answer refl (subst (λ (st : StepValue). Row st f.event.actor f.event.answer f.event.buf c d) is made.made.row))

  -- Where nothing was written twice, what the content adds to a step of a collection, or to its start, is so.
  pub gc_adds : (f.event.step ≡ steps.GcStep) ⊎ ((percent : ℕ) × (f.event.step ≡ steps.GcStart percent)) → Adds (file_step f) m r t
  gc_adds (inl is) = step_adds is
  gc_adds (inr (percent, is)) = start_adds percent is
