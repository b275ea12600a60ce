-- A copying step of a core that is at the files of a machine: it took what is needed of its source, and where nothing of it is to be written that is ready.
use Rattle.core_machine.proofs.Prelude.{◌≡◌, inl, inr, ◌⊎◌, ◌<◌, ◌≤◌, ℕ, zero, suc, ◌+◌, Bool, true, false, List, [], ◌∷◌, ◌++◌, drop, length, take, Option, Some, None, refl, sym, ◌∙◌, ap, subst, arith, slice_get, eqb-false, eqb-true, length-map, Entry, PlaceMap, segment_key, Follow, HeaderValue, Plan, IsPlan, Source, planned, source_of, Shows, DiskView, shown_content, CoreSweep, CopiesSource, EndsBy, TakesBy, HoldsSweep, HasNext, entry_in, sources_before, CoreCollection, Phase, StoreChange, SlotTable, CoreState, FileMachine, DoesNotFit, Gathered, GoesOver, sources_in, IsReady, of_files, SameSweep, ids_at, dead_in}
use Rattle.std.proofs.Common.{append-nil, get_or, length-drop}
use Rattle.container_meta.specs.Segments.{Contents, keys_of}
use Rattle.copy_forward.specs.Copying.{PlansBy}
use Rattle.gc_sweep.specs.declared.sweep.Next.{Next}
use Rattle.gc_sweep.specs.declared.sweep.Next.TheVariants as nexts
use Rattle.gc_sweep.specs.Next.{IsNext}
use Rattle.gc_sweep.proofs.KeyLists.{each_so}
use Rattle.gc_sweep.proofs.SourceRead.{IsReadOf, not_other, read_of}
use Rattle.gc_steps.specs.declared.collection.Stage.TheVariants as core
use Rattle.refusals.specs.declared.refusal.Phase.TheVariants as phases
use Rattle.store_model.specs.Slots.{HoldsSlot}
use Rattle.store_machine.specs.Collecting as machine
use Rattle.store_machine.specs.Machine.{Collection, Sweep}
use Rattle.core_machine.proofs.CopiedSources.{filling_keys}
use Rattle.core_machine.proofs.FileCollecting.{RunsIn, content_in, copy_in, holds_in, image_in, index_in, lives_in, live_in, stands_in, sweeping_in}
use Rattle.core_machine.proofs.FileCopying.{IsPlanned, TakesSo, counted_filling, first_of_rest, follow_from, takes_so}
use Rattle.gc_sweep.specs.Copying.{copy_step}

at_drop : (n : ℕ) (es : List Entry) (i : ℕ) → slice_get (drop n es) i ≡ slice_get es (n + i)
at_drop zero es i = ap (slice_get es) (let is : i ≡ zero + i = omega arith in is)
at_drop (suc n) [] i = refl
at_drop (suc n) (e ∷ es) i = at_drop n es i ∙ ap (slice_get (e ∷ es)) (let is : suc (n + i) ≡ suc n + i = omega arith in is)

-- what comes next tells how many sources were copied to their end, and the entry where the next goes on
next_place : (t : SlotTable) (sources : List ℕ) (buffer : Contents) (source entry : ℕ) (s : CoreSweep) → length s.sources.items ≡ length sources → source ≤ length sources
    → (0 < entry → source < length sources) → (next : Next)
    → IsNext t sources buffer source entry next → (sources_before s next ≡ source) × (entry_in next ≡ entry)
next_place t sources buffer source entry s many below some (nexts.Copy x e) is = (is.0, is.1)
next_place t sources buffer source entry s many below some (nexts.Flush x e) is = (is.0, is.1)
next_place t sources buffer source entry s many below some (nexts.Release x e) is = absurd is
next_place t sources buffer source entry s many below some nexts.End is = (omega (arith, many, below, is.1), no_entry entry some is.1)
  where
    no_entry : (n : ℕ) → (0 < n → source < length sources) → length sources ≤ source → 0 ≡ n
    no_entry zero none past = refl
    no_entry (suc n) none past = absurd (omega (arith, none (omega arith), past))

module _ (S : List ℕ → Type 0) (m : FileMachine) (c : CoreState) (x : Collection (List ℕ)) (k : CoreCollection) (r : RunsIn S m c x k) (stage : k.stage ≡ core.Sweep)
    (source entry : ℕ)
    (next_was : k.sweep.next ≡ nexts.Copy source entry) (k' : CoreSweep) (after_known : Option PlaceMap) (new : DiskView)
    (copies : CopiesSource (copy_step c.tables.held k.live c.known source entry k.sweep) after_known c.disk new k') where
  abbrev index : PlaceMap
  index = index_in S m c x k r

  abbrev image : List ℕ
  image = image_in S m c x k r

  abbrev t : SlotTable
  t = c.tables.held

  abbrev h : HeaderValue
  h = copies.plans.header

  abbrev src : Source
  src = source_of c.known k.live copies.slot h.kind

  holds : HoldsSweep index m.store.held image k.live k.snapshot k.sweep
  holds = (holds_in S m c x k r stage).1

  shown : HoldsSlot image copies.slot (Some h)
  shown = shown_content c.disk new (λ (i : List ℕ). HoldsSlot i copies.slot (Some h)) image copies.plans.shown (content_in S m c x k r)

  read : IsReadOf index m.store.held k.snapshot source entry k.sweep copies.slot copies.kind copies.filling h
  read =
      read_of t index m.store.held image k.live k.snapshot source entry k.sweep r.at.is_at.represents.slots_hold (stands_in S m c x k r).stands.right.different
      (stands_in S m c x k r).stands.right.slots_are (sweeping_in S m c x k r stage) next_was holds copies.slot copies.kind copies.filling copies.is_source h shown

  -- a plan was found
  record HasPlan : Type 0 where
    plan : Plan
    is : IsPlan src (Shows c.disk new) h.entries entry copies.filling plan
    buffer_is : k'.buffer ≡ plan.buffer
    dead_are : dead_in copies.found ≡ plan.dead.items
    many : k'.copied ≡ k.sweep.copied + plan.copied
    ends : EndsBy plan.ended t copies.slot source plan k.sweep k'

  has_plan : HasPlan
  has_plan = by_found copies.found refl copies.plans.plans copies.takes
    where
      by_found : (o : Option Plan) → copies.found ≡ o → PlansBy src (Shows c.disk new) h entry copies.filling o → TakesBy t copies.slot source o k.sweep k' → HasPlan
      by_found None found other takes =
          absurd (not_other t index m.store.held image k.live k.snapshot source entry k.sweep r.at.is_at.represents.slots_hold (stands_in S m c x k r).stands.right.different
          (stands_in S m c x k r).stands.right.slots_are (sweeping_in S m c x k r stage) next_was holds copies.slot copies.kind copies.filling copies.is_source h shown other)
      by_found (Some plan) found (kind_is, is) (buffer_is, many, ends) =
          record { plan = plan; is = is; buffer_is = buffer_is; dead_are = ap dead_in found; many = many; ends = ends }

  abbrev plan : Plan
  plan = has_plan.plan

  abbrev is : IsPlan src (Shows c.disk new) h.entries entry copies.filling plan
  is = has_plan.is

  -- ---- the entries

  follows : (others : List Entry) × Follow h.kind others (drop entry h.entries)
  follows = follow_from h.kind entry [] h.entries copies.plans.right.entries

  begins : IsPlanned x m.store index c.known r.at.is_at.index_known k.live copies.slot h.kind (Shows c.disk new) (stands_in S m c x k r).partial m.forgotten r.told
      (lives_in S m c x k r).within (live_in S m c x k r core.Sweep stage) follows.0 (planned copies.filling [])
  begins = record {
    kind_is = read.kind_is;
    counted = counted_filling m.store k.sweep.buffer copies.filling copies.kind copies.is_source.filling_is
        (each_so _ _ k.sweep.buffer.segments (λ s one. copy_in S m c x k r k.sweep.buffer.kind s one) holds.copied);
    came = λ key none. absurd (omega (arith, none.1));
  }

  takes : TakesSo x m.store index c.known r.at.is_at.index_known k.live copies.slot h.kind (Shows c.disk new) (stands_in S m c x k r).partial m.forgotten r.told
      (lives_in S m c x k r).within (live_in S m c x k r core.Sweep stage) (drop entry h.entries) (planned copies.filling []) (planned plan.buffer plan.dead.items) is.passed
  takes =
      takes_so x m.store index c.known r.at.is_at.index_known k.live copies.slot h.kind (Shows c.disk new) (stands_in S m c x k r).partial m.forgotten r.told
      (lives_in S m c x k r).within (live_in S m c x k r core.Sweep stage) (drop entry h.entries) follows.0 (planned copies.filling [])
      (planned plan.buffer plan.dead.items) is.passed follows.1 begins is.takes

  -- ---- as the machine's sweeps have it

  module _ (s s' : Sweep) (next' : Phase) (swept swept' : Bool) (changes changes' : List StoreChange) (sources' : List ℕ) (t' : SlotTable)
      (before : SameSweep t swept (sources_in x) changes phases.Copy s k.sweep) (after : SameSweep t' swept' sources' changes' next' s' k') (table : t' ≡ t)
      (now : List (List ℕ)) (now_is : now ≡ m.forgotten ++ dead_in copies.found) where
    source_is : s.source ≡ source
    source_is = before.source_is ∙ ap (sources_before k.sweep) next_was

    entry_is : s.entry ≡ entry
    entry_is = before.entry_is ∙ ap entry_in next_was

    abbrev id : ℕ
    id = get_or (sources_in x) s.source 0

    id_is : get_or k.sweep.sources.items source 0 ≡ id
    id_is = ap (λ (xs : List ℕ). get_or xs source 0) before.sources_are ∙ ap (λ (n : ℕ). get_or (sources_in x) n 0) (sym source_is)

    filled_was : keys_of copies.filling ≡ s.filled
    filled_was = (filling_keys k.sweep.buffer copies.filling copies.kind copies.is_source.filling_is).0 ∙ sym before.filled_is

    filled_now : keys_of plan.buffer ≡ s'.filled
    filled_now = ap keys_of (sym has_plan.buffer_is) ∙ sym after.filled_is

    abbrev lists : List (List ℕ) → List (List ℕ) → Gathered
    lists filled gone = record { filled = filled; forgotten = gone }

    begun : lists (keys_of copies.filling) (m.forgotten ++ []) ≡ lists s.filled m.forgotten
    begun = ap (λ (ks : List (List ℕ)). lists ks (m.forgotten ++ [])) filled_was ∙ ap (lists s.filled) (append-nil m.forgotten)

    ended : lists (keys_of plan.buffer) (m.forgotten ++ plan.dead.items) ≡ lists s'.filled now
    ended =
        ap (λ (ks : List (List ℕ)). lists ks (m.forgotten ++ plan.dead.items)) filled_now
        ∙ ap (λ (ks : List (List ℕ)). lists s'.filled (m.forgotten ++ ks)) (sym has_plan.dead_are) ∙ ap (lists s'.filled) (sym now_is)

    entries_are : take is.passed (drop entry h.entries) ≡ drop s.entry (take plan.next h.entries)
    entries_are =
        sym (first_of_rest entry is.passed h.entries) ∙ ap (λ (n : ℕ). drop entry (take n h.entries)) (sym is.next_is)
        ∙ ap (λ (n : ℕ). drop n (take plan.next h.entries)) (sym entry_is)

    abbrev Over : List Entry → Gathered → Gathered → Type 0
    Over es g g' = machine.TakesAll of_files x m.store copies.slot h.kind es g g'

    taken : Over (drop s.entry (take plan.next h.entries)) (lists s.filled m.forgotten) (lists s'.filled now)
    taken =
        subst (λ (es : List Entry). Over es (lists s.filled m.forgotten) (lists s'.filled now)) entries_are
        (subst (λ (g : Gathered). Over (take is.passed (drop entry h.entries)) g (lists s'.filled now)) begun
        (subst (Over (take is.passed (drop entry h.entries)) (lists (keys_of copies.filling) (m.forgotten ++ []))) ended takes.0))

    -- ---- where it stopped

    -- to the end: the next source comes
    next_source : IsNext t k.sweep.sources.items plan.buffer (source + 1) 0 k'.next → s'.source ≡ suc s.source
    next_source next =
        let has : HasNext t k.sweep (nexts.Copy source entry) = subst (HasNext t k.sweep) next_was (sweeping_in S m c x k r stage).next_is in
        let place = next_place t k.sweep.sources.items plan.buffer (source + 1) 0 k' (ap (λ (v : _). length v.items) copies.others.sources_are) (omega (arith, has.0))
        (λ none. absurd (omega (arith, none))) k'.next next in
        omega (arith, after.source_is, place.0, source_is)

    to_its_end : plan.ended ≡ true → plan.next ≡ length h.entries
    to_its_end ended = eqb-true plan.next (length h.entries) (sym is.ended_is ∙ ended)

    -- or before an entry
    stopped : plan.ended ≡ false → (e : Entry) × (slice_get h.entries plan.next ≡ Some e) × DoesNotFit of_files x m.store copies.slot h.kind e (lists s'.filled now)
    stopped going =
        let other = eqb-false plan.next (length h.entries) (sym is.ended_is ∙ going) in
        let one = takes.1 (omega (arith, other, is.within, is.next_is, length-drop entry h.entries)) in (
          one.0,
          ap (slice_get h.entries) is.next_is ∙ sym (at_drop entry h.entries is.passed) ∙ one.1,
          subst (DoesNotFit of_files x m.store copies.slot h.kind one.0) ended one.2,
        )

    stops : (b : Bool) → plan.ended ≡ b → EndsBy b t copies.slot source plan k.sweep k'
        → ((plan.next ≡ length h.entries) × (s'.source ≡ suc s.source))
        ⊎ ((s'.source ≡ s.source) × (s'.entry ≡ plan.next) × ((e : Entry) × (slice_get h.entries plan.next ≡ Some e)
        × DoesNotFit of_files x m.store copies.slot h.kind e (lists s'.filled now)))
    stops true went (inl (some, waits, ready, next)) = inl (to_its_end went, next_source next)
    stops true went (inr (none, waits, ready, next)) = inl (to_its_end went, omega (arith, after.source_is, ap (sources_before k') next, source_is))
    stops false went (waits, ready, next) = inr (after.source_is ∙ ap (sources_before k') next ∙ sym source_is, after.entry_is ∙ ap entry_in next, stopped went)

    pub over_so : GoesOver of_files x m.store s s' m.forgotten now
    over_so = record {
      slot = copies.slot;
      header = h;
      there = read.there;
      id_is = read.id_is ∙ id_is;
      stop = plan.next;
      from = omega (arith, entry_is, is.next_is);
      takes = taken;
      stops = stops plan.ended refl has_plan.ends;
    }

    -- ---- where nothing of it is to be written

    -- what is added is to be written
    many_now : length s'.filled ≡ length s.filled + plan.copied
    many_now = omega (
      arith,
      ap length (sym filled_now),
      length-map plan.buffer.segments (segment_key plan.buffer.kind),
      is.copied_is,
      ap length (sym filled_was),
      length-map copies.filling.segments (segment_key copies.filling.kind),
    )

    ready_by : (b : Bool) → EndsBy b t copies.slot source plan k.sweep k' → s'.source ≡ suc s.source → s'.filled ≡ s.filled → s'.ready ≡ id ∷ []
    ready_by true (inl (some, waits, ready, next)) on none = absurd (omega (arith, some, many_now, ap length none))
    ready_by true (inr (none, waits, ready, next)) on same =
        after.ready_is ∙ ap (λ (b : SlotTable). ids_at b k'.ready.items) table ∙ ap (ids_at t) ready ∙ ap (λ (n : ℕ). n ∷ []) (copies.is_source.id_is ∙ id_is)
    ready_by false (waits, ready, next) on same = absurd (omega (arith, on, after.source_is, ap (sources_before k') next, source_is))

    pub ready_so : IsReady x s s'
    ready_so = ready_by plan.ended has_plan.ends
