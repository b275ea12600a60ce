-- A step of a collection that is refused, as the machine of roots has it.
use Rattle.core_machine.proofs.Prelude.{◌≡◌, ◌≢◌, ◌⊎◌, inl, inr, ℕ, suc, ◌<◌, List, [], ◌∷◌, Option, Some, None, Err, refl, sym, ◌∙◌, ap, subst, arith, Bool, Entry, PlaceMap, Planned, Source, DiskView, LAST_ID, LiveKeys, Next, CoreSweep, CoreCollection, CoreStage, KeepsMarks, IsStepRefusal, phase_at, IsUnderWay, Phase, Refusal, Store, with_sealed, SlotTable, at_moment, StopsAfter, CoreState, IsCollecting, MayBreak, IsAtRightPart, Refuses, Running, Stopped, Sweeping, of_roots, SameCollection, SameRun, NamesGc, stores_of, stores_without_some, HasIndex, IsMachine}
use Rattle.container_meta.specs.Segments.{Contents}
use Rattle.copy_forward.specs.Copying.{IsCopyRefusal, copy_task}
use Rattle.copy_forward.specs.Entries.{IsRemoveRefusal, MapStays}
use Rattle.copy_forward.specs.Headers.{IsHeaderRefusal}
use Rattle.copy_forward.specs.Planning.{IsPlanRefusal, IsStuck}
use Rattle.gc_enumerate.specs.declared.fault.ScanFault.{ScanFault}
use Rattle.gc_sweep.specs.declared.sweep.Next.TheVariants as nexts
use Rattle.gc_sweep.specs.Copying.{IsCopyStepRefusal, copy_step}
use Rattle.gc_sweep.specs.Flushing.{IsFlushStepRefusal}
use Rattle.ingest_steps.specs.Sealing.{KeepsMap}
use Rattle.gc_steps.specs.declared.collection.Stage.TheVariants as core
use Rattle.gc_steps.specs.Filtering.{IsRecordRefusal}
use Rattle.gc_steps.specs.Marking.{IsMarkRefusal}
use Rattle.gc_steps.specs.Scanning.{step_refusal}
use Rattle.gc_steps.specs.Stepping.{Keeps}
use Rattle.refusals.specs.declared.refusal.Phase.TheVariants as phases
use Rattle.refusals.specs.declared.refusal.Refusal.TheVariants as refusals
use Rattle.actor_parts.specs.StepValue as steps
use Rattle.store_machine.specs.Asked as asked
use Rattle.core_machine.proofs.FreedSources.{in_turn}
use Rattle.core_machine.proofs.Phases.{Runs, is_collecting}
use Rattle.core_machine.proofs.Rows.{M, as_it_was, same_at, stopped_at}
use Rattle.core_machine.proofs.SweptOn.{at_sweep}
use Rattle.gc_enumerate.specs.declared.fault.ScanFault.TheVariants as faults

-- ---- what a step may be refused by, if no write failed

-- steps that read, that compare digests, and that scan for nodes
abbrev IsRead : Phase → Type 0
IsRead phases.Mark = Unit {0}
IsRead phases.Filter = Unit {0}
IsRead phases.Copy = Unit {0}
IsRead phase = ⊥

abbrev IsCompared : Phase → Type 0
IsCompared phases.Mark = Unit {0}
IsCompared phases.Copy = Unit {0}
IsCompared phase = ⊥

abbrev IsScanned : Phase → Type 0
IsScanned phases.Mark = Unit {0}
IsScanned phase = ⊥

-- all but those that give containers back take memory
abbrev IsTaking : Phase → Type 0
IsTaking phases.Release = ⊥
IsTaking phase = Unit {0}

takes_on : (phase : Phase) → IsTaking phase → phase ≢ phases.Release
takes_on phase takes is = subst IsTaking is takes

read_takes : (phase : Phase) → IsRead phase → IsTaking phase
read_takes phases.Mark may = tt
read_takes phases.Filter may = tt
read_takes phases.Copy may = tt
read_takes phase may = absurd may

abbrev Unmade : Phase → Refusal → Type 0
Unmade phase refusals.Memory = IsTaking phase
Unmade phase refusals.DiskRead = IsRead phase
Unmade phase (refusals.Corrupt slot offset count want got) = IsCompared phase
Unmade phase (refusals.Missing key) = IsScanned phase
Unmade phase (refusals.Damaged at why) = IsRead phase
Unmade phase refusal = ⊥

-- ---- a header is not given

header_unmade : (phase : Phase) → IsRead phase → (t : SlotTable) (old new : DiskView) (slot : ℕ) (refusal : Refusal) → IsHeaderRefusal t old new slot refusal
    → Unmade phase refusal
header_unmade phase may t old new slot refusals.Memory is = read_takes phase may
header_unmade phase may t old new slot refusals.DiskRead is = may
header_unmade phase may t old new slot (refusals.Damaged at why) is = may
header_unmade phase may t old new slot refusal is = absurd is

-- ---- a container is not scanned

fault_unmade : (fault : ScanFault) → Unmade phases.Mark (step_refusal fault)
fault_unmade faults.DiskRead = tt
fault_unmade other = tt

mark_unmade : (t : SlotTable) (known : Option PlaceMap) (old new : DiskView) (level slot : ℕ) (live : LiveKeys) (refusal : Refusal)
    → IsMarkRefusal t known old new level slot live refusal → Unmade phases.Mark refusal
mark_unmade t known old new level slot live refusal (inl header) = header_unmade phases.Mark tt t old new slot refusal header
mark_unmade t known old new level slot live refusal (inr stops) = subst (Unmade phases.Mark) (sym stops.refusal_is) (fault_unmade stops.fault)

-- ---- nor recorded

record_unmade : (t : SlotTable) (known : Option PlaceMap) (old new : DiskView) (slot : ℕ) (refusal : Refusal) → IsRecordRefusal t known old new slot refusal
    → Unmade phases.Filter refusal
record_unmade t known old new slot refusals.Memory is = tt
record_unmade t known old new slot refusals.DiskRead is = tt
record_unmade t known old new slot (refusals.Damaged at why) is = tt
record_unmade t known old new slot refusal is = absurd is

-- ---- a source is not copied; or its dead copies' keys don't leave the index, as a write failed

stuck_unmade : (s : Source) (shown : (List ℕ → Type 0) → Type 0) (es : List Entry) (before : Planned) (refusal : Refusal) → IsStuck s shown es before refusal
    → Unmade phases.Copy refusal
stuck_unmade s shown [] before refusal is = absurd is
stuck_unmade s shown (e ∷ es) before refusals.Memory (inl is) = tt
stuck_unmade s shown (e ∷ es) before refusals.DiskRead (inl is) = tt
stuck_unmade s shown (e ∷ es) before (refusals.Damaged at why) (inl is) = tt
stuck_unmade s shown (e ∷ es) before (refusals.Corrupt slot offset count want got) (inl is) = tt
stuck_unmade s shown (e ∷ es) before refusal (inl is) = absurd is.1.1
stuck_unmade s shown (e ∷ es) before refusal (inr (mid, (takes, stuck))) = stuck_unmade s shown es mid refusal stuck

plan_unmade : (s : Source) (shown : (List ℕ → Type 0) → Type 0) (es : List Entry) (before : Planned) (refusal : Refusal) → IsPlanRefusal s shown es before refusal
    → Unmade phases.Copy refusal
plan_unmade s shown es before refusals.Memory is = tt
plan_unmade s shown es before refusal is = stuck_unmade s shown es before refusal is

-- what a write that failed leaves is told apart
abbrev Broken : Refusal → Type 0
Broken refusals.DiskWrite = Unit {0}
Broken refusal = ⊥

removed_unmade : (known : Option PlaceMap) (refusal : Refusal) → IsRemoveRefusal known refusal → Unmade phases.Copy refusal ⊎ Broken refusal
removed_unmade known refusals.DiskWrite is = inr tt
removed_unmade known (refusals.Damaged at why) is = inl tt
removed_unmade known refusal is = absurd is

copy_by : (t : SlotTable) (known : Option PlaceMap) (live : LiveKeys) (slot from : ℕ) (filling : Contents) (old new : DiskView) (refusal : Refusal)
    → IsCopyRefusal (copy_task t known live slot from filling) old new refusal → Unmade phases.Copy refusal ⊎ Broken refusal
copy_by t known live slot from filling old new refusal (inl (inl header)) = inl (header_unmade phases.Copy tt t old new slot refusal header)
copy_by t known live slot from filling old new refusal (inl (inr (h, tabled, shown, kind, within, plan))) = inl (plan_unmade _ _ _ _ refusal plan)
copy_by t known live slot from filling old new refusal (inr removed) = removed_unmade known refusal removed

copy_unmade : (t : SlotTable) (live : LiveKeys) (known : Option PlaceMap) (old new : DiskView) (source entry : ℕ) (s : CoreSweep) (refusal : Refusal)
    → IsCopyStepRefusal (copy_step t live known source entry s) old new refusal → Unmade phases.Copy refusal ⊎ Broken refusal
copy_unmade t live known old new source entry s refusals.Memory is = inl tt
copy_unmade t live known old new source entry s refusal is = copy_by t known live is.slot entry is.filling old new refusal is.cause

-- ---- the steps

module _ {followed : Bool} (c : CoreState) (m : M) (at : IsMachine followed m c) (runs : m.state ≡ Running) (d : CoreState) (a : ℕ)
    (size : d.disk.size ≡ c.disk.size) (parts : d.parts ≡ c.parts) (tables : d.tables ≡ c.tables)
    (count : d.acknowledged ≡ c.acknowledged) (k after : CoreCollection) (ran : c.collection ≡ Some k)
    (r : Runs c.tables.held m.swept m.collection k) (under : IsUnderWay c.tables.held k) (is_after : d.collection ≡ Some after) where
  abbrev t : SlotTable
  t = c.tables.held

  own : HasIndex followed m.swept m.forgotten m.store.held c.known
  own = at.index runs

  abbrev Left : Refusal → Type 0
  Left refusal = (n : M) × Refuses of_roots a asked.GcStep refusal m n × IsMachine followed n d × NamesGc (Err refusal) c d m n

  no_part : IsAtRightPart of_roots a asked.GcStep m
  no_part taken is = absurd (let wrong : None ≡ Some taken = is in cc)

  -- nothing but what is live is another
  rested : SameRun t m.swept r.c after → d.known ≡ c.known → d.stop ≡ None → IsMachine followed m d
  rested same index stop =
      let collects : SameCollection t m.swept m.collection d.collection =
      subst (SameCollection t m.swept m.collection) (sym is_after) (subst (λ p. SameCollection t m.swept p (Some after)) (sym r.ran) same) in
      as_it_was c m at runs d (record { tables = tables; size = size; count = count; index = index; collects = collects; stop = stop }) parts

  collecting : (stage : CoreStage) (next : Next) → k.stage ≡ stage → k.sweep.next ≡ next → IsCollecting (phase_at stage next) m.store m.collection
  collecting stage next is next_is =
      is_collecting m.store t m.swept m.collection k (phase_at stage next) at.valid.headers at.represents.slots_hold under r
      (ap (λ (s : CoreStage). phase_at s next) (sym is) ∙ ap (phase_at k.stage) (sym next_is))

  reads_at : (X : Type 0) (phase : Phase) → IsRead phase → IsCollecting phase m.store m.collection
      → IsCollecting phases.Mark m.store m.collection ⊎ IsCollecting phases.Filter m.store m.collection ⊎ IsCollecting phases.Copy m.store m.collection ⊎ X
  reads_at X phases.Mark may is = inl is
  reads_at X phases.Filter may is = inr (inl is)
  reads_at X phases.Copy may is = inr (inr (inl is))
  reads_at X phase may is = absurd may

  finds_at : (phase : Phase) → IsRead phase → IsCollecting phase m.store m.collection
      → IsCollecting phases.Mark m.store m.collection ⊎ IsCollecting phases.Filter m.store m.collection ⊎ IsCollecting phases.Copy m.store m.collection
  finds_at phases.Mark may is = inl is
  finds_at phases.Filter may is = inr (inl is)
  finds_at phases.Copy may is = inr (inr is)
  finds_at phase may is = absurd may

  compares_at : (phase : Phase) → IsCompared phase → IsCollecting phase m.store m.collection
      → IsCollecting phases.Mark m.store m.collection ⊎ IsCollecting phases.Copy m.store m.collection
  compares_at phases.Mark may is = inl is
  compares_at phases.Copy may is = inr is
  compares_at phase may is = absurd may

  scans_at : (phase : Phase) → IsScanned phase → IsCollecting phase m.store m.collection → IsCollecting phases.Mark m.store m.collection
  scans_at phases.Mark may is = is
  scans_at phase may is = absurd may

  refused : (phase : Phase) (refusal : Refusal) → Unmade phase refusal → IsCollecting phase m.store m.collection → Refuses of_roots a asked.GcStep refusal m m
  refused phase refusals.Memory may is = ((phase, is, takes_on phase may), refl)
  refused phase refusals.DiskRead may is = (no_part, (reads_at _ phase may is, refl))
  refused phase (refusals.Corrupt slot offset bytes want got) may is = (no_part, (compares_at phase may is, ((λ known. known), refl)))
  refused phase (refusals.Missing key) may is = (no_part, (scans_at phase may is, ((λ known. known), refl)))
  refused phase (refusals.Damaged byte why) may is = (no_part, (finds_at phase may is, ((λ known. known), refl)))
  refused phase refusal may is = absurd may

  runs_still : (phase : Phase) (refusal : Refusal) → Unmade phase refusal → StopsAfter steps.GcStep (Err refusal) c.acknowledged d.stop → d.stop ≡ None
  runs_still phase refusals.DiskWrite may stops = absurd may
  runs_still phase refusal may stops = stops

  not_broken : (phase : Phase) (refusal : Refusal) → Unmade phase refusal → NamesGc (Err refusal) c d m m
  not_broken phase refusals.DiskWrite may = absurd may
  not_broken phase refusal may = tt

  -- a write failed, and it is stopped
  stops_by : (phase : Phase) → phase_at k.stage k.sweep.next ≡ phase → (stores : List Store) → stores ≡ stores_of phase m.last_id k.sweep m.store
      → MayBreak of_roots m stores → d.collection ≡ c.collection → StopsAfter steps.GcStep (Err refusals.DiskWrite) c.acknowledged d.stop
      → Left refusals.DiskWrite
  stops_by phase phase_is stores stores_are may collects stop = (
    record m { state = Stopped None stores },
    (no_part, (stores, may, refl)),
    stopped_at c m at runs d None stores tables size parts count (same_at c m at runs d collects) refusals.DiskWrite stop,
    (
      k,
      ran,
      ap (Stopped None) (stores_are ∙ ap (λ (p : Phase). stores_of p m.last_id k.sweep m.store) (sym phase_is)),
    ),
  )

  -- ---- before a sweep

  kept_run : after ≡ k → SameRun t m.swept r.c after
  kept_run same = subst (SameRun t m.swept r.c) (sym same) r.same

  marks_run : (level slot : ℕ) (refusal : Refusal) → KeepsMarks c.known c.disk d.disk level slot k after refusal → SameRun t m.swept r.c after
  marks_run level slot refusals.Memory (inl same) = kept_run same
  marks_run level slot refusals.Memory (inr marks) = subst (SameRun t m.swept r.c) (sym marks.collection_is)
      (record { percent_is = r.same.percent_is; snapshot_is = r.same.snapshot_is; recorded_is = r.same.recorded_is; stage_is = r.same.stage_is })
  marks_run level slot refusal same = kept_run same

  left_by : (phase : Phase) (refusal : Refusal) → IsCollecting phase m.store m.collection → Unmade phase refusal → SameRun t m.swept r.c after → d.known ≡ c.known
      → StopsAfter steps.GcStep (Err refusal) c.acknowledged d.stop → Left refusal
  left_by phase refusal is may same index stops = (m, refused phase refusal may is, rested same index (runs_still phase refusal may stops), not_broken phase refusal may)

  -- ---- a sweep

  map_same : (refusal : Refusal) → Unmade phases.Copy refusal → MapStays c.known d.known refusal → d.known ≡ c.known
  map_same refusals.DiskWrite may stays = absurd may
  map_same (refusals.Damaged byte why) may stays = stays own.places own.known_is ∙ sym own.known_is
  map_same refusal may stays = stays

  still : after ≡ k → d.collection ≡ c.collection
  still same = is_after ∙ ap Some same ∙ sym ran

  phase_now : (stage : CoreStage) (next : Next) → k.stage ≡ stage → k.sweep.next ≡ next → phase_at k.stage k.sweep.next ≡ phase_at stage next
  phase_now stage next is next_is = ap (phase_at k.stage) next_is ∙ ap (λ (s : CoreStage). phase_at s next) is

  not_copied : (refusal : Refusal) → phase_at k.stage k.sweep.next ≡ phases.Copy → IsCollecting phases.Copy m.store m.collection → Unmade phases.Copy refusal ⊎ Broken refusal
      → after ≡ k → MapStays c.known d.known refusal
      → StopsAfter steps.GcStep (Err refusal) c.acknowledged d.stop → Left refusal
  not_copied refusal now is (inl may) same stays stops = left_by phases.Copy refusal is may (kept_run same) (map_same refusal may stays) stops
  not_copied refusals.DiskWrite now is (inr broke) same stays stops = stops_by phases.Copy now [] refl (inl (is, refl)) (still same) stops
  not_copied refusal now is (inr broke) same stays stops = absurd broke

  -- what was to be written, as the core has it
  abbrev written : List Store
  written = with_sealed (suc m.last_id) k.sweep.buffer.kind k.sweep.buffer.segments m.store ∷ []

  broken_flush : k.stage ≡ core.Sweep → (source entry : ℕ) → k.sweep.next ≡ nexts.Flush source entry → m.last_id < LAST_ID → MayBreak of_roots m written
  broken_flush is source entry next_is left =
      let at_flush = at_sweep t m.swept r.c k r.same is in
      inr (inl (record {
        c = r.c;
        ran = r.ran;
        s = at_flush.s;
        stage_is = at_flush.stage_is ∙ ap (λ (p : Phase). Sweeping p at_flush.s) (at_flush.same.next_is ∙ ap (phase_at core.Sweep) next_is);
        left = left;
        kind = k.sweep.buffer.kind;
        segments = k.sweep.buffer.segments;
        keys_are = sym at_flush.same.filled_is;
        copies = λ known. absurd known;
        stores_are = refl;
      }))

  broken_release : k.stage ≡ core.Sweep → (source entry : ℕ) → k.sweep.next ≡ nexts.Release source entry
      → MayBreak of_roots m (stores_without_some k.sweep.ready.items m.store)
  broken_release is source entry next_is =
      let turn = in_turn m.store.held t m.swept r.c k at.represents.slots_hold under r.same is source entry next_is in
      inr (inr (record {
        c = r.c;
        ran = r.ran;
        s = turn.at.s;
        stage_is = turn.at.stage_is ∙ ap (λ (p : Phase). Sweeping p turn.at.s) turn.phase_was;
        some = turn.some;
        slots = k.sweep.ready.items;
        stand = turn.stand;
        spare = λ known. absurd known;
        stores_are = refl;
      }))

  not_flushed : (refusal : Refusal) → phase_at k.stage k.sweep.next ≡ phases.Flush → IsCollecting phases.Flush m.store m.collection
      → (m.last_id < LAST_ID → MayBreak of_roots m written)
      → IsFlushStepRefusal c.tables c.known refusal → after ≡ k → KeepsMap c.known d.known refusal → StopsAfter steps.GcStep (Err refusal) c.acknowledged d.stop → Left refusal
  not_flushed refusals.Memory now is broke cause same stays stops = (m, ((phases.Flush, is, takes_on phases.Flush tt), refl), rested (kept_run same) stays stops, tt)
  not_flushed refusals.Numbers now is broke cause same stays stops = (m, (no_part, (is, omega (arith, cause, at.last_id), refl)), rested (kept_run same) stays stops, tt)
  not_flushed refusals.DiskRead now is broke cause same stays stops =
      (m, (no_part, (inr (inr (inr (is, omega (arith, cause.0, at.last_id)))), refl)), rested (kept_run same) stays stops, tt)
  not_flushed refusals.DiskWrite now is broke cause same stays stops =
      stops_by phases.Flush now written refl (broke (omega (arith, cause.0, at.last_id))) (still same) stops
  not_flushed (refusals.Damaged byte why) now is broke cause same stays stops = absurd (let wrong : Some own.places ≡ None = sym own.known_is ∙ cause.1 in cc)
  not_flushed refusal now is broke cause same stays stops = absurd cause.1

  -- ---- by its stage

  pub not_made : (stage : CoreStage) (next : Next) → k.stage ≡ stage → k.sweep.next ≡ next → (refusal : Refusal) → IsStepRefusal stage next (at_moment c k) d.disk refusal
      → Keeps stage next (at_moment c k) (at_moment d after) refusal → StopsAfter steps.GcStep (Err refusal) c.acknowledged d.stop → Left refusal
  not_made (core.Mark level slot) next is next_is refusal cause kept stops =
      left_by phases.Mark refusal (collecting (core.Mark level slot) next is next_is) (mark_unmade t c.known c.disk d.disk level slot k.live refusal cause)
      (marks_run level slot refusal kept.0) kept.1 stops
  not_made (core.Filter slot) next is next_is refusal cause kept stops =
      left_by phases.Filter refusal (collecting (core.Filter slot) next is next_is) (record_unmade t c.known c.disk d.disk slot refusal cause) (kept_run kept.0) kept.1 stops
  not_made core.Select next is next_is refusal cause kept stops =
      left_by phases.Select refusal (collecting core.Select next is next_is) (subst (Unmade phases.Select) (sym cause) tt) (kept_run kept.0) kept.1 stops
  not_made core.Sweep (nexts.Copy source entry) is next_is refusal cause kept stops =
      not_copied refusal (phase_now core.Sweep (nexts.Copy source entry) is next_is) (collecting core.Sweep (nexts.Copy source entry) is next_is)
      (copy_unmade t k.live c.known c.disk d.disk source entry k.sweep refusal cause)
      kept.0 kept.1 stops
  not_made core.Sweep (nexts.Flush source entry) is next_is refusal cause kept stops =
      not_flushed refusal (phase_now core.Sweep (nexts.Flush source entry) is next_is) (collecting core.Sweep (nexts.Flush source entry) is next_is)
      (broken_flush is source entry next_is) cause kept.0 kept.1 stops
  not_made core.Sweep (nexts.Release source entry) is next_is refusal cause kept stops =
      subst Left (sym cause)
      (stops_by phases.Release (phase_now core.Sweep (nexts.Release source entry) is next_is) (stores_without_some k.sweep.ready.items m.store) refl
      (broken_release is source entry next_is)
      (still kept) (subst (λ (x : Refusal). StopsAfter steps.GcStep (Err x) c.acknowledged d.stop) cause stops))
  not_made core.Sweep nexts.End is next_is refusal cause kept stops = absurd cause

  pub row_refused : (refusal : Refusal) → IsStepRefusal k.stage k.sweep.next (at_moment c k) d.disk refusal → Keeps k.stage k.sweep.next (at_moment c k) (at_moment d after) refusal
      → StopsAfter steps.GcStep (Err refusal) c.acknowledged d.stop → Left refusal
  row_refused refusal cause kept stops = not_made k.stage k.sweep.next refl refl refusal cause kept stops
