-- After a step of a collection that did not stop it a core is at the files of its machine, in the machine's store, on a settled disk.
use Rattle.core_machine.proofs.Prelude.{slice_get, ◌≡◌, inl, inr, ℕ, suc, ◌≤◌, List, [], ◌++◌, Option, Some, None, option_map, Result, Ok, Err, refl, sym, ◌∙◌, ap, subst, arith, Answer, StepValue, PlaceMap, HeaderValue, header_of, Next, id_at, CoreCollection, CoreStage, CoreStepsTo, moment, phase_at, KeepsMarks, DiskView, HoldsAt, GoesWell, held_at, IsStoreAfter, Phase, Refusal, ByteSet, IsIn, Store, first_free, free_slots, ids_of, StoreChange, with_sealed, GcEffect, GcRow, CoreGoesOn, IsNotMade, at_moment, Effect, Row, Steps, ChangesTo, FileEvent, IsAt, IsSafeIn, stored_by, CoreState, IsUnderWayIn, AtStore, running_step, there_now, phase_of, Leads, led_to, same_some, FileMachine, Makes, keys_written, written_more, forget_collection, Answers, ByState, LegalBy, Refuses, Found, RunState, RootMachine, of_files, Root, stored_in, answered_by, asked_as, MovesAs, NamesGc, NamesStep, changes_of, SameRun, IsWritten, WroteOnce}
use Rattle.std.proofs.Common.{Contains, get_or}
use Rattle.actor_parts.specs.declared.step.Answer.TheVariants as answers
use Rattle.actor_parts.specs.StepValue as steps
use Rattle.gc_sweep.specs.declared.sweep.Next.TheVariants as nexts
use Rattle.gc_steps.specs.declared.collection.Stage.TheVariants as core
use Rattle.gc_steps.specs.Stepping.{Keeps}
use Rattle.gc_steps.proofs.CopiedOn.{goes_well}
use Rattle.refusals.specs.declared.refusal.Refusal.TheVariants as refusals
use Rattle.store_core.proofs.Leading.{AreChangesBy}
use Rattle.store_core.proofs.AtStore.{at_store}
use Rattle.store_core.proofs.AnySteps.{after, leads}
use Rattle.store_machine.proofs.Released.{freed_makes}
use Rattle.store_machine.specs.Asked as asked
use Rattle.store_machine.specs.Collecting.{GoesOn}
use Rattle.store_machine.specs.Forgetting.{Forgets}
use Rattle.store_machine.specs.Machine.{Collection}
use Rattle.core_machine.proofs.FileGc.{rest_same, same_run}
use Rattle.core_machine.proofs.FileSteps.{StepsTo}
use Rattle.core_machine.proofs.FileWritten.{SweepKept, same_sweep_kept, same_written, wrote_still, written_then}

-- store, names and collection are what they were
abbrev StaysSo : FileMachine → FileMachine → Type 0
StaysSo m n = (n.store ≡ m.store) × (n.now ≡ m.now) × (n.collection ≡ m.collection)

stays_same : (m n : FileMachine) → n ≡ m → StaysSo m n
stays_same m n same = (ap (λ (z : FileMachine). z.store) same, ap (λ (z : FileMachine). z.now) same, ap (λ (z : FileMachine). z.collection) same)

refused_same : (a : ℕ) (m n : FileMachine) (refusal : Refusal) → Refuses of_files a asked.GcStep refusal m n → StaysSo m n
refused_same a m n (refusals.WrongPart kind) is = stays_same m n is.1
refused_same a m n refusals.NotCollecting is = stays_same m n is.1.1
refused_same a m n refusals.Memory is = stays_same m n is.1
refused_same a m n refusals.Numbers is = stays_same m n is.1.2
refused_same a m n refusals.DiskRead is = stays_same m n is.1.1
refused_same a m n refusals.DiskWrite is = (ap (λ (z : FileMachine). z.store) is.1.2, ap (λ (z : FileMachine). z.now) is.1.2, ap (λ (z : FileMachine). z.collection) is.1.2)
refused_same a m n (refusals.Corrupt slot offset count want got) is = stays_same m n is.1.1.1
refused_same a m n (refusals.Missing key) is = stays_same m n is.1.1.1
refused_same a m n (refusals.Damaged byte why) is = stays_same m n is.1.1.1
refused_same a m n refusal is = absurd is.1

-- ---- a refusal

marks_rest : (known : Option PlaceMap) (old new : DiskView) (level slot : ℕ) (refusal : Refusal) (b a : CoreCollection) → KeepsMarks known old new level slot b a refusal
    → SweepKept b a
marks_rest known old new level slot refusals.Memory b a (inl same) = same_sweep_kept b a same
marks_rest known old new level slot refusals.Memory b a (inr only) =
    (ap (λ (z : CoreCollection). z.snapshot) only.collection_is, ap (λ (z : CoreCollection). z.sweep) only.collection_is)
marks_rest known old new level slot refusal b a same = same_sweep_kept b a same

-- ---- what a step made of the store

module _ (m n : FileMachine) (r t : RootMachine) (was : Forgets m r) (is : Forgets n t) (c d : CoreState) (phase : Phase) (goes : CoreGoesOn phase c d)
    (moves : MovesAs phase c d r t) (by : GoesOn of_files phase m n) where
  abbrev core_run : CoreCollection
  core_run = goes.before

  -- what the machine changed is what the core did
  changes_are : by.went.changes ≡ changes_of phase m.last_id core_run.sweep
  changes_are =
      let runs : r.collection ≡ Some (forget_collection by.c) = was.collection ∙ ap (option_map forget_collection) by.ran in
      let one : moves.c ≡ forget_collection by.c = let both : Some moves.c ≡ Some (forget_collection by.c) = sym moves.ran ∙ runs in cc in
      let then : t.collection ≡ Some (forget_collection (record by.c { stage = by.went.stage; recorded = by.went.recorded; changes = by.c.changes ++ by.went.changes })) =
      is.collection ∙ ap (λ (z : FileMachine). option_map forget_collection z.collection) by.others in
      let two : moves.d.changes ≡ by.c.changes ++ by.went.changes = let both = sym moves.runs ∙ then in cc in
      rest_same by.c.changes by.went.changes (changes_of phase m.last_id core_run.sweep)
      (sym two ∙ moves.changes_are
      ∙ ap (λ (z : Collection Root). z.changes ++ changes_of phase r.last_id moves.before.sweep) one
      ∙ ap (λ (i : ℕ). by.c.changes ++ changes_of phase i moves.before.sweep) was.last_id
      ∙ ap (λ (z : CoreCollection). by.c.changes ++ changes_of phase m.last_id z.sweep) (same_some moves.before core_run c.collection moves.core_ran goes.ran))

  pub makes_so : Makes (changes_of (phase_at core_run.stage core_run.sweep.next) m.last_id core_run.sweep) m.store n.store
  makes_so =
      subst (λ (p : Phase). Makes (changes_of p m.last_id core_run.sweep) m.store n.store) (sym (phase_of core_run phase goes.phase_is))
      (subst (λ (changes : List StoreChange). Makes changes m.store n.store) changes_are by.makes)

module _ (C : Type 0) (state : C → CoreState) (among : ByteSet) (f : FileEvent) (old new : C) (m n : FileMachine) (r t : RootMachine) (to : StepsTo C state among f old new m n r t)
    (is : f.event.step ≡ steps.GcStep) (stays : (state new).stop ≡ None) where
  abbrev c : CoreState
  c = state old

  abbrev d : CoreState
  d = state new

  abbrev is_at : IsAt (IsIn among) m.store (stored_in m.now) c
  is_at = to.steps.at.is_at

  led : Leads (IsIn among) m.store f (stored_by f (stored_in m.now)) c d
  led = leads among to.steps.apart f m.store (stored_in m.now) c d is to.steps.step is_at stays

  abbrev store_then : Store
  store_then = led.next.store

  then_at : IsAt (IsIn among) store_then (stored_in m.now) d
  unfolding led
  then_at = after among to.steps.apart f m.store (stored_in m.now) c d is to.steps.step is_at stays

  made : Steps f.event c d
  made = running_step c d f.event to.steps.goes to.steps.step.made

  row : GcRow f.event.answer c d
  row = subst (λ (st : StepValue). Row st f.event.actor f.event.answer f.event.buf c d) is made.made.row

  effect : GcEffect f.event.answer c d
  effect = subst (λ (st : StepValue). Effect st f.event.answer c d) is made.made.effect

  changes_told : AreChangesBy steps.GcStep f.event.answer led.changes
  changes_told = subst (λ (st : StepValue). AreChangesBy st f.event.answer led.changes) is led.changes_are

  named : NamesGc f.event.answer c d r t
  named = subst (λ (st : StepValue). NamesStep st f.event.answer c d r t) is to.steps.named

  legal : Answers of_files f.event.actor asked.GcStep (answered_by f.event.answer f.event.buf) m n
  legal =
      subst (λ (st : RunState (List ℕ)). ByState of_files st f.event.actor asked.GcStep (answered_by f.event.answer f.event.buf) m n) to.steps.runs
      (subst (λ (st : StepValue). LegalBy of_files (asked_as (λ root. f.bytes) st) f.event.actor (answered_by f.event.answer f.event.buf) m n) is to.legal)

  -- ---- a step that was made

  -- the same slots have the same ids, by the tables
  same_ids : ids_of n.store.held ≡ ids_of store_then.held
  same_ids =
      ap (λ (s : Store). ids_of s.held) (sym to.forgets.store) ∙ sym to.steps.then.represents.slots_hold.ids_are ∙ then_at.represents.slots_hold.ids_are

  module _ (phase : Phase) (goes : CoreGoesOn phase c d) (moves : MovesAs phase c d r t) (by : GoesOn of_files phase m n) (told : GcEffect (Ok (answers.Did phase)) c d) where
    abbrev k : CoreCollection
    k = goes.before

    -- the id under which copies were written
    same_id : (i j : ℕ) → n.store ≡ with_sealed i k.sweep.buffer.kind k.sweep.buffer.segments m.store
        → store_then ≡ with_sealed j k.sweep.buffer.kind k.sweep.buffer.segments m.store
        → 1 ≤ free_slots m.store.held → i ≡ j
    same_id i j mine theirs free =
        let slot = first_free m.store.held in
        let h : HeaderValue = header_of i k.sweep.buffer.kind k.sweep.buffer.segments in
        let g : HeaderValue = header_of j k.sweep.buffer.kind k.sweep.buffer.segments in
        sym (id_at (with_sealed i k.sweep.buffer.kind k.sweep.buffer.segments m.store).held slot h (there_now h m.store.held free))
        ∙ ap (λ (s : Store). get_or (ids_of s.held) slot 0) (sym mine)
        ∙ ap (λ (ids : List ℕ). get_or ids slot 0) same_ids ∙ ap (λ (s : Store). get_or (ids_of s.held) slot 0) theirs
        ∙ id_at (with_sealed j k.sweep.buffer.kind k.sweep.buffer.segments m.store).held slot g (there_now g m.store.held free)

    by_stage : (stage : CoreStage) (next : Next) → IsStoreAfter stage next k.snapshot k.sweep is_at.index m.store store_then is_at.stands.known.0
        → Makes (changes_of (phase_at stage next) m.last_id k.sweep) m.store n.store → n.store ≡ store_then
    by_stage (core.Mark level slot) next same makes = makes ∙ sym same
    by_stage (core.Filter slot) next same makes = makes ∙ sym same
    by_stage core.Select next same makes = makes ∙ sym same
    by_stage core.Sweep (nexts.Copy source entry) same makes = makes ∙ sym same
    by_stage core.Sweep (nexts.Flush source entry) flushes (can, mine) =
        mine ∙ ap (λ (i : ℕ). with_sealed i k.sweep.buffer.kind k.sweep.buffer.segments m.store)
        (same_id (suc m.last_id) flushes.id mine flushes.now_is (omega (arith, can.slot))) ∙ sym flushes.now_is
    by_stage core.Sweep (nexts.Release source entry) frees makes = freed_makes k.sweep.ready.items m.store n.store makes ∙ sym frees.now_is
    by_stage core.Sweep nexts.End same makes = makes ∙ sym same

    did_same : (n.store ≡ store_then) × (n.now ≡ m.now)
    did_same = (
      by_stage k.stage k.sweep.next
          (led_to among m.store (stored_in m.now) c d is_at store_then then_at phase goes told.touches told.later)
          (makes_so m n r t to.steps.forgets to.forgets c d phase goes moves by),
      ap (λ (z : FileMachine). z.now) by.others,
    )

  -- ---- whatever was answered

  unchanged : led.changes ≡ [] → store_then ≡ m.store
  unchanged none = subst (λ (changes : List StoreChange). ChangesTo changes m.store store_then) none led.next.chain

  same_by : (a : Result Answer Refusal) → GcRow a c d → GcEffect a c d → AreChangesBy steps.GcStep a led.changes → NamesGc a c d r t
      → Answers of_files f.event.actor asked.GcStep (answered_by a f.event.buf) m n → (n.store ≡ store_then) × (n.now ≡ m.now)
  same_by (Ok (answers.Did phase)) made_so told are names may = did_same phase made_so.0 names may told
  same_by (Ok (answers.Done freed many)) made_so told are names may =
      (ap (λ (z : FileMachine). z.store) may.others ∙ sym (unchanged are), ap (λ (z : FileMachine). z.now) may.others)
  same_by (Err refusal) made_so told are names may = let so = refused_same f.event.actor m n refusal may in (so.0 ∙ sym (unchanged are), so.1)
  same_by a made_so told are names may = absurd made_so

  same : (n.store ≡ store_then) × (n.now ≡ m.now)
  same = same_by f.event.answer row effect changes_told named legal

  pub swept_at : IsAt (IsIn among) n.store (stored_in n.now) d
  swept_at =
      subst (λ (s : Store). IsAt (IsIn among) s (stored_in n.now) d) (sym same.0)
      (subst (λ (now : Found (List ℕ)). IsAt (IsIn among) store_then (stored_in now) d) (sym same.1) then_at)

  -- ---- what it wrote it does not write again

  module _ (wrote : WroteOnce m c) where
    abbrev index : PlaceMap
    index = is_at.index

    abbrev image : List ℕ
    image = is_at.stands.known.0

    run_then : (y : Collection (List ℕ)) (k : CoreCollection) → n.collection ≡ Some y → d.collection ≡ Some k → SameRun d.tables.held t.swept (forget_collection y) k
    run_then y k ran core_ran =
        same_run d.tables.held t.swept t.collection d.collection (forget_collection y) k to.steps.then.collection
        (to.forgets.collection ∙ ap (option_map forget_collection) ran) core_ran

    run_before : (x : Collection (List ℕ)) (k : CoreCollection) → m.collection ≡ Some x → c.collection ≡ Some k → SameRun c.tables.held r.swept (forget_collection x) k
    run_before x k ran core_ran =
        same_run c.tables.held r.swept r.collection c.collection (forget_collection x) k to.steps.machine.collection
        (to.steps.forgets.collection ∙ ap (option_map forget_collection) ran) core_ran

    module _ (phase : Phase) (goes : CoreGoesOn phase c d) (moves : MovesAs phase c d r t) (by : GoesOn of_files phase m n) (told : GcEffect (Ok (answers.Did phase)) c d) where
      abbrev b : CoreCollection
      b = goes.before

      here : AtStore (IsIn among) m.store (stored_in m.now) c is_at
      here = at_store (IsIn among) m.store (stored_in m.now) c is_at

      holds : HoldsAt b.stage index m.store.held image b
      holds = held_at index m.store c.parts image b (subst (IsSafeIn index m.store c.parts image) goes.ran (is_at.safe image is_at.stands.known.1))

      abbrev gone_on : Collection (List ℕ)
      gone_on = record by.c { stage = by.went.stage; recorded = by.went.recorded; changes = by.c.changes ++ by.went.changes }

      runs_on : n.collection ≡ Some gone_on
      runs_on = ap (λ (z : FileMachine). z.collection) by.others

      snapshot_is : goes.after.snapshot ≡ b.snapshot
      snapshot_is = sym (run_then gone_on goes.after runs_on goes.runs).snapshot_is ∙ (run_before by.c b by.ran goes.ran).snapshot_is

      keys_are : (y : Collection (List ℕ)) → n.collection ≡ Some y
          → keys_written y.changes ≡ keys_written by.c.changes ++ keys_written (changes_of (phase_at b.stage b.sweep.next) m.last_id b.sweep)
      keys_are y ran =
          let one : y ≡ gone_on = let both : Some y ≡ Some gone_on = sym ran ∙ runs_on in cc in
          ap (λ (z : Collection (List ℕ)). keys_written z.changes) one ∙ written_more by.c.changes by.went.changes
          ∙ ap (λ (xs : List StoreChange). keys_written by.c.changes ++ keys_written xs) (changes_are m n r t to.steps.forgets to.forgets c d phase goes moves by)
          ∙ ap (λ (p : Phase). keys_written by.c.changes ++ keys_written (changes_of p m.last_id b.sweep)) (sym (phase_of b phase goes.phase_is))

      well : GoesWell index m.store.held b goes.after
      well =
          goes_well c.tables d.tables index m.store.held image d.known c.disk d.disk b goes.after is_at.represents.slots_hold is_at.valid.different
          here.stands.right.slots_are here.partial is_at.stands.known.1 (subst (IsUnderWayIn c.tables.held) goes.ran is_at.under_way) holds
          (subst (λ (known : Option PlaceMap). CoreStepsTo b.stage b.sweep.next (moment c.tables known c.disk b) (at_moment d goes.after)) is_at.index_known goes.steps)

      did_wrote : WroteOnce n d
      did_wrote y a ran core_ran key there =
          subst (λ (s : Store). IsWritten s.held a.snapshot a.sweep.buffer key) (sym same.0)
          (subst (λ (z : CoreCollection). IsWritten store_then.held z.snapshot z.sweep.buffer key) (same_some goes.after a d.collection goes.runs core_ran)
          (written_then index m.store store_then image here.partial b goes.after snapshot_is well holds
          (led_to among m.store (stored_in m.now) c d is_at store_then then_at phase goes told.touches told.later)
          (at_moment c b) (at_moment d goes.after) refl refl goes.steps m.last_id (keys_written by.c.changes) (wrote by.c b by.ran goes.ran) key
          (subst (λ (keys : List (List ℕ)). Contains keys key) (keys_are y ran) there)))

    -- a refusal leaves the core's snapshot and sweep
    rests : (stage : CoreStage) (next : Next) (refusal : Refusal) (b a : CoreCollection) → Keeps stage next (at_moment c b) (at_moment d a) refusal
        → SweepKept b a
    rests (core.Mark level slot) next refusal b a kept = marks_rest c.known c.disk d.disk level slot refusal b a kept.0
    rests core.Sweep (nexts.Release source entry) refusal b a kept = same_sweep_kept b a kept
    rests other it refusal b a kept = same_sweep_kept b a kept.0

    refused_wrote : (refusal : Refusal) → IsNotMade refusal c d → Refuses of_files f.event.actor asked.GcStep refusal m n → WroteOnce n d
    refused_wrote refusal made_so may =
        let so = refused_same f.event.actor m n refusal may in
        let rest = rests made_so.before.stage made_so.before.sweep.next refusal made_so.before made_so.after made_so.kept in
        wrote_still m n c d (λ slot h there. subst (λ (s : Store). slice_get s.held slot ≡ Some (Some h)) (sym so.0) there) (same_written m n so.2)
        (λ x ran a runs. let now : a ≡ made_so.after = same_some a made_so.after d.collection runs made_so.runs in
        (made_so.before, made_so.ran, subst (SweepKept made_so.before) (sym now) rest)) wrote

    ended_wrote : n.collection ≡ None → WroteOnce n d
    ended_wrote none y a ran runs key there = absurd (let wrong : None ≡ Some y = sym none ∙ ran in cc)

    none_wrote : d.collection ≡ None → WroteOnce n d
    none_wrote none y a ran runs key there = absurd (let wrong : None ≡ Some a = sym none ∙ runs in cc)

    wrote_by : (a : Result Answer Refusal) → GcRow a c d → GcEffect a c d → NamesGc a c d r t
        → Answers of_files f.event.actor asked.GcStep (answered_by a f.event.buf) m n → WroteOnce n d
    wrote_by (Ok (answers.Did phase)) made_so told names may = did_wrote phase made_so.0 names may told
    wrote_by (Ok (answers.Done freed many)) made_so told names may = ended_wrote (ap (λ (z : FileMachine). z.collection) may.others)
    wrote_by (Err refusals.NotCollecting) made_so told names may = none_wrote made_so.0.none_runs
    wrote_by (Err refusal) made_so told names may = refused_wrote refusal made_so.0 may
    wrote_by a made_so told names may = absurd made_so

    pub swept_wrote : WroteOnce n d
    swept_wrote = wrote_by f.event.answer row effect named legal
