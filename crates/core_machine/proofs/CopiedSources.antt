-- A copying step of a core's sweep, as one of the machine's, on any disk.
use Rattle.core_machine.proofs.Prelude.{◌≡◌, ◌≢◌, inl, inr, ℕ, suc, ◌+◌, ◌<◌, Bool, true, false, List, [], ◌∷◌, ◌++◌, append_assoc, drop, length, Option, Some, None, refl, sym, ◌∙◌, ap, subst, arith, eqb-false, length-map, Entry, Kind, Segment, segment_key, HeaderValue, without_keys, Plan, IsPlan, Planned, Source, TakesOne, planned, source_of, Shows, Root, Phase, IsValidFor, HasFree, StoreChange, SlotTable, Tables, Represents, CoreSweep, CopiesSource, EndsBy, IsFilling, TakesBy, HasNext, IsSweeping, entry_in, sources_before, keys_append, Moment, SweepsOn, phase_at, IsUnderWay, some_same, Went, freed_in, keys_written, next_by, sources_in, Sweeping, of_roots, SameRun, SameSweep, ids_at, TellsForgotten, dead_in}
use Rattle.std.proofs.Common.{append-nil, get_or, map, length-append}
use Rattle.std.proofs.lemmas.List.{map-append}
use Rattle.container_meta.specs.Segments.{Contents, keys_of}
use Rattle.copy_forward.specs.Copying.{Forgets, PlansSource, copy_task}
use Rattle.copy_forward.specs.Planning.{Takes}
use Rattle.refusals.specs.declared.refusal.Phase.TheVariants as phases
use Rattle.gc_sweep.specs.declared.sweep.Next.TheVariants as nexts
use Rattle.gc_sweep.specs.Next.{IsNext}
use Rattle.gc_sweep.proofs.Arrives.{no_items}
use Rattle.gc_steps.specs.declared.collection.Stage.TheVariants as stages
use Rattle.store_machine.specs.Collecting.{Copies}
use Rattle.store_machine.specs.Machine.{Collection, Sweep}
use Rattle.core_machine.proofs.KeysForgotten.{copied_told}
use Rattle.core_machine.proofs.NextSteps.{has_each, next_so}
use Rattle.core_machine.proofs.SweptOn.{AtSweep, MapMoves, Swept, at_sweep, copied_so, entry_next, is_sweeping, no_keys, run_on, source_next}
use Rattle.core_machine.proofs.Rows.{M}
use Rattle.gc_sweep.specs.Copying.{copy_step}

-- ---- what is filled

-- it keeps what it had
none_more : (before after : Contents) → after ≡ before → (more : List Segment) × (after ≡ record before { segments = before.segments ++ more })
none_more before after is = ([], is ∙ ap (λ (xs : List Segment). record before { segments = xs }) (sym (append-nil before.segments)))

module _ (s : Source) (S : (List ℕ → Type 0) → Type 0) where
  one_grows : (e : Entry) (before after : Planned) → TakesOne s S e before after
      → (more : List Segment) × (after.buffer ≡ record before.buffer { segments = before.buffer.segments ++ more })
  one_grows e before after (inl (passed, is)) = none_more before.buffer after.buffer (ap (λ (p : Planned). p.buffer) is)
  one_grows e before after (inr (inl (dead, is))) = none_more before.buffer after.buffer (ap (λ (p : Planned). p.buffer) is)
  one_grows e before after (inr (inr (live, inl (had, is), dead))) = none_more before.buffer after.buffer is
  one_grows e before after (inr (inr (live, inr (lacks, adds), dead))) = (record { level = e.level; bytes = adds.bytes } ∷ [], adds.after_is)

  grows : (es : List Entry) (before after : Planned) (count : ℕ) → Takes s S es before after count
      → (more : List Segment) × (after.buffer ≡ record before.buffer { segments = before.buffer.segments ++ more })
  grows [] before after count none = none_more before.buffer after.buffer (ap (λ (p : Planned). p.buffer) none.0)
  grows (e ∷ es) before after count (inl full) = none_more before.buffer after.buffer (ap (λ (p : Planned). p.buffer) full.1)
  grows (e ∷ es) before after count (inr (mid, (rest, (more, one, others)))) =
      let first = one_grows e before mid one in
      let last_grow = grows es mid after rest others in (
        first.0 ++ last_grow.0,
        last_grow.1
            ∙ ap (λ (c : Contents). record c { segments = c.segments ++ last_grow.0 }) first.1
            ∙ ap (λ (xs : List Segment). record before.buffer { segments = xs }) (append_assoc before.buffer.segments first.0 last_grow.0),
      )

pub filling_keys : (buffer filling : Contents) (kind : Kind) → IsFilling buffer kind filling →
    (keys_of filling ≡ keys_of buffer) × (length filling.segments ≡ length buffer.segments)
filling_keys buffer filling kind (inl (none, is)) =
    (ap keys_of is ∙ sym (no_keys buffer none), ap (λ (c : Contents). length c.segments) is ∙ sym (ap length none))
filling_keys buffer filling kind (inr (some, is)) = (ap keys_of is, ap (λ (c : Contents). length c.segments) is)

-- and so its keys are those of before, with some more
keys_more : (buffer filling after : Contents) (kind : Kind) (more : List Segment) → IsFilling buffer kind filling → after ≡ record filling { segments = filling.segments ++ more }
    → keys_of after ≡ keys_of buffer ++ map (segment_key filling.kind) more
keys_more buffer filling after kind more fills is =
    ap keys_of is ∙ keys_append filling.kind filling.segments more
    ∙ ap (λ (ks : List (List ℕ)). ks ++ map (segment_key filling.kind) more) (filling_keys buffer filling kind fills).0

-- ---- the step

module _ (m : M) (c : Collection Root) (source entry : ℕ) (old new : Moment) (represents : Represents m.store None old.tables) (valid : IsValidFor old.disk.size m.store)
    (free : HasFree m.store.held) (last : m.last_id ≡ old.tables.held.last_id) (under : IsUnderWay old.tables.held old.collection)
    (run : SameRun old.tables.held m.swept c old.collection) (stage : old.collection.stage ≡ stages.Sweep) (next_was : old.collection.sweep.next ≡ nexts.Copy source entry)
    (copies : CopiesSource (copy_step old.tables.held old.collection.live old.known source entry old.collection.sweep) new.known old.disk new.disk new.collection.sweep)
    (sweeps : SweepsOn old new) (tables : new.tables ≡ old.tables) {followed : Bool} (moves : MapMoves followed m.forgotten m.store.held old.known new.known) where
  abbrev t : SlotTable
  t = old.tables.held

  abbrev k : CoreSweep
  k = old.collection.sweep

  abbrev k' : CoreSweep
  k' = new.collection.sweep

  at : AtSweep t m.swept c k
  at = at_sweep t m.swept c old.collection run stage

  abbrev s : Sweep
  s = at.s

  abbrev sources : List ℕ
  sources = sources_in c

  sweeping : IsSweeping t old.collection.snapshot k
  sweeping = is_sweeping t old.collection under stage

  has : HasNext t k (nexts.Copy source entry)
  has = subst (HasNext t k) next_was sweeping.next_is

  -- the machine's source
  abbrev id : ℕ
  id = get_or sources s.source 0

  source_is : s.source ≡ source
  source_is = at.same.source_is ∙ ap (sources_before k) next_was

  entry_is : s.entry ≡ entry
  entry_is = at.same.entry_is ∙ ap entry_in next_was

  within : s.source < length sources
  within = omega (arith, has.0, source_is, ap length at.same.sources_are)

  none_ready : s.ready ≡ []
  none_ready = at.same.ready_is ∙ ap (ids_at t) has.1

  stage_was : c.stage ≡ Sweeping phases.Copy s
  stage_was = at.stage_is ∙ ap (λ (p : Phase). Sweeping p s) (at.same.next_is ∙ ap (phase_at stages.Sweep) next_was)

  abbrev slot : ℕ
  slot = copies.slot

  slot_id : get_or t.ids.items slot 0 ≡ id
  slot_id = copies.is_source.id_is ∙ ap (λ (xs : List ℕ). get_or xs source 0) at.same.sources_are ∙ ap (λ (n : ℕ). get_or sources n 0) (sym source_is)

  same_sources : k'.sources.items ≡ k.sources.items
  same_sources = ap (λ (v : _). v.items) copies.others.sources_are

  -- ---- what it leaves

  abbrev went : Phase → Sweep → List (List ℕ) → Went
  went next after gone = record { stage = Sweeping next after; recorded = c.recorded; changes = []; forgotten = m.forgotten ++ gone }

  -- the index lacks what is forgotten then
  abbrev Tells : List (List ℕ) → Type 0
  Tells gone = followed ≡ true → TellsForgotten (m.forgotten ++ gone) m.store.held moves.after

  swept : (next : Phase) (after : Sweep) (gone : List (List ℕ)) → gone ≡ dead_in copies.found → Tells gone → Copies of_roots c m (went next after gone)
      → SameSweep t true sources (c.changes ++ []) next after k' → Swept followed moves.after old new phases.Copy m c new.tables new.collection
  swept next after gone gone_is tells goes same = record {
    went = went next after gone;
    store = m.store;
    goes = goes;
    makes = refl;
    represents = subst (Represents m.store None) (sym tables) represents;
    valid = λ size is. is;
    free = free;
    names = refl;
    last = refl;
    last_id = last ∙ ap (λ (x : Tables). x.held.last_id) (sym tables);
    last_within = λ few. few;
    told = tells;
    changes_are = refl;
    forgets = (source, entry, next_was, copies, ap (λ (keys : List (List ℕ)). m.forgotten ++ keys) gone_is);
    run = run_on t new.tables.held m.swept true c old.collection new.collection next after [] run stage sweeps
        (subst (λ (x : Tables). SameSweep x.held true sources (c.changes ++ []) next after k') (sym tables) same);
  }

  same_so : (next : Phase) (after : Sweep) → next ≡ phase_at stages.Sweep k'.next → after.source ≡ sources_before k' k'.next → after.entry ≡ entry_in k'.next
      → after.filled ≡ keys_of k'.buffer → after.waiting ≡ ids_at t k'.waiting.items → after.ready ≡ ids_at t k'.ready.items
      → k'.copied + length s.filled ≡ k.copied + length after.filled → SameSweep t true sources (c.changes ++ []) next after k'
  same_so next after next_is source_now entry_now filled_is waiting_is ready_is copied = record {
    next_is = next_is;
    sources_are = same_sources ∙ at.same.sources_are;
    source_is = source_now;
    entry_is = entry_now;
    filled_is = filled_is;
    waiting_is = waiting_is;
    ready_is = ready_is;
    freed_is = copies.others.freed_is ∙ at.same.freed_is ∙ ap freed_in (sym (append-nil c.changes));
    copied_is = omega (arith, copied, at.same.copied_is, ap (λ (ch : List StoreChange). length (keys_written ch)) (append-nil c.changes));
    swept_is = copied_so next;
  }

  -- ---- the next source comes

  module _ (buffer : Contents) (is : IsNext t k.sources.items buffer (source + 1) 0 k'.next) where
    next_source : suc s.source ≡ sources_before k' k'.next
    next_source = omega (arith, source_is, source_next t k.sources.items buffer (source + 1) 0 k' same_sources (omega (arith, has.0)) (λ end. refl) k'.next is)

    next_entry : 0 ≡ entry_in k'.next
    next_entry = sym (entry_next t k.sources.items buffer (source + 1) 0 k' same_sources (omega (arith, has.0)) (λ end. refl) k'.next is)

    next_phase : (filled : List (List ℕ)) → keys_of buffer ≡ filled → phase_at stages.Sweep k'.next ≡ next_by m.store.held sources (suc s.source) [] filled
    next_phase filled same =
        let one : source + 1 ≡ suc s.source = omega (arith, source_is) in
        let each = has_each m.store.held t represents.slots_hold in
        next_so m.store.held t old.collection.snapshot k.sources.items valid.different each sweeping.left.old (source + 1) buffer 0 k'.next is
        ∙ ap (λ (xs : List ℕ). next_by m.store.held xs (source + 1) [] (keys_of buffer)) at.same.sources_are
        ∙ ap (λ (n : ℕ). next_by m.store.held sources n [] (keys_of buffer)) one
        ∙ ap (next_by m.store.held sources (suc s.source) []) same

  -- ---- it was left alone

  abbrev after_none : Sweep
  after_none = record { source = suc s.source; entry = 0; filled = s.filled; waiting = s.waiting; ready = [] }

  left_alone : copies.found ≡ None → new.known ≡ old.known → TakesBy t slot source None k k' → Swept followed moves.after old new phases.Copy m c new.tables new.collection
  left_alone found_is index (buffer_is, waiting_is, ready_is, copied_is, next) =
      swept (phase_at stages.Sweep k'.next) after_none [] (sym (ap dead_in found_is)) tells (
        s,
        after_none,
        phase_at stages.Sweep k'.next,
        stage_was,
        refl,
        refl,
        refl,
        within,
        none_ready,
        ([], [], sym (append-nil s.filled), refl),
        λ known. absurd known,
        inl (refl, refl, next_phase k.buffer next s.filled (sym at.same.filled_is), inr (inr (λ known. known, refl, refl, refl))),
      )
      (same_so (phase_at stages.Sweep k'.next) after_none refl (next_source k.buffer next) (next_entry k.buffer next) (at.same.filled_is ∙ ap keys_of (sym buffer_is))
      (at.same.waiting_is ∙ ap (ids_at t) (sym waiting_is)) (ap (ids_at t) (sym ready_is)) (omega (arith, copied_is)))
    where
      tells : Tells []
      tells told = subst (λ (fs : List (List ℕ)). TellsForgotten fs m.store.held moves.after) (sym (append-nil m.forgotten))
          (subst (TellsForgotten m.forgotten m.store.held) (some_same moves.before moves.after (sym moves.was ∙ sym index ∙ moves.is)) (moves.told told))

  -- ---- it was planned

  module _ (h : HeaderValue) (plan : Plan) (is : IsPlan (source_of old.known old.collection.live slot h.kind) (Shows old.disk new.disk) h.entries entry copies.filling plan)
      (buffer_is : k'.buffer ≡ plan.buffer) (copied_is : k'.copied ≡ k.copied + plan.copied) (index : new.known ≡ Some (without_keys plan.dead.items moves.before))
      (found_is : copies.found ≡ Some plan) where
    dead_is : plan.dead.items ≡ dead_in copies.found
    dead_is = sym (ap dead_in found_is)

    -- the keys of dead copies left the index
    tells : Tells plan.dead.items
    tells told = subst (TellsForgotten (m.forgotten ++ plan.dead.items) m.store.held)
        (some_same (without_keys plan.dead.items moves.before) moves.after (sym index ∙ moves.is))
        (copied_told m.forgotten plan.dead.items m.store.held moves.before (moves.told told))

    abbrev filling : Contents
    filling = copies.filling

    fills : IsFilling k.buffer copies.kind copies.filling
    fills = copies.is_source.filling_is

    grown : (more : List Segment) × (plan.buffer ≡ record filling { segments = filling.segments ++ more })
    grown =
        grows (source_of old.known old.collection.live slot h.kind) (Shows old.disk new.disk) (drop entry h.entries) (planned filling [])
        (planned plan.buffer plan.dead.items) is.passed is.takes

    abbrev more : List (List ℕ)
    more = map (segment_key filling.kind) grown.0

    keys_now : keys_of k'.buffer ≡ s.filled ++ more
    keys_now =
        ap keys_of buffer_is ∙ keys_more k.buffer filling plan.buffer copies.kind grown.0 fills grown.1 ∙ ap (λ (ks : List (List ℕ)). ks ++ more) (sym at.same.filled_is)

    many_before : length s.filled ≡ length filling.segments
    many_before =
        ap length at.same.filled_is ∙ length-map k.buffer.segments (segment_key k.buffer.kind) ∙ sym (filling_keys k.buffer filling copies.kind fills).1

    many_now : length (keys_of k'.buffer) ≡ length s.filled + plan.copied
    many_now = omega (
      arith,
      length-map k'.buffer.segments (segment_key k'.buffer.kind),
      ap (λ (b : Contents). length b.segments) buffer_is,
      is.copied_is,
      many_before,
    )

    copied_now : k'.copied + length s.filled ≡ k.copied + length (keys_of k'.buffer)
    copied_now = omega (arith, copied_is, many_now)

    -- segments of it were added, and it waits
    abbrev after_waits : Sweep
    after_waits = record { source = suc s.source; entry = 0; filled = keys_of k'.buffer; waiting = s.waiting ++ id ∷ []; ready = [] }

    waits : 0 < plan.copied → k'.waiting.items ≡ k.waiting.items ++ slot ∷ [] → k'.ready.items ≡ [] → IsNext t k.sources.items plan.buffer (source + 1) 0 k'.next
        → Swept followed moves.after old new phases.Copy m c new.tables new.collection
    waits some waiting_is ready_is next =
        swept (phase_at stages.Sweep k'.next) after_waits plan.dead.items dead_is tells (
          s,
          after_waits,
          phase_at stages.Sweep k'.next,
          stage_was,
          refl,
          refl,
          refl,
          within,
          none_ready,
          (more, plan.dead.items, keys_now, refl),
          λ known. absurd known,
          inl (refl, refl, next_phase plan.buffer next (keys_of k'.buffer) (ap keys_of (sym buffer_is)), inl (omega (arith, many_now, some), refl, refl)),
        )
        (same_so (phase_at stages.Sweep k'.next) after_waits refl (next_source plan.buffer next) (next_entry plan.buffer next) refl waiting_now
        (ap (ids_at t) (sym ready_is)) copied_now)
      where
        waiting_now : s.waiting ++ id ∷ [] ≡ ids_at t k'.waiting.items
        waiting_now = sym (
            ap (ids_at t) waiting_is
            ∙ map-append (λ w. get_or t.ids.items w 0) k.waiting.items (slot ∷ [])
            ∙ ap (λ (ids : List ℕ). ids ++ get_or t.ids.items slot 0 ∷ []) (sym at.same.waiting_is)
            ∙ ap (λ (n : ℕ). s.waiting ++ n ∷ []) slot_id
            )

    -- none of it was, and it is ready
    abbrev after_ready : Sweep
    after_ready = record { source = suc s.source; entry = 0; filled = s.filled; waiting = s.waiting; ready = id ∷ [] }

    is_ready : plan.copied ≡ 0 → k'.waiting.items ≡ k.waiting.items → k'.ready.items ≡ slot ∷ [] → k'.next ≡ nexts.Release (source + 1) 0
        → Swept followed moves.after old new phases.Copy m c new.tables new.collection
    is_ready none waiting_is ready_is next =
        swept phases.Release after_ready plan.dead.items dead_is tells (
          s,
          after_ready,
          phases.Release,
          stage_was,
          refl,
          refl,
          refl,
          within,
          none_ready,
          ([], plan.dead.items, sym (append-nil s.filled), refl),
          λ known. absurd known,
          inl (refl, refl, refl, inr (inl (refl, refl, refl))),
        )
        (same_so phases.Release after_ready (ap (phase_at stages.Sweep) (sym next)) (omega (arith, source_is, ap (sources_before k') next)) (sym (ap entry_in next)) filled_now
        (at.same.waiting_is ∙ ap (ids_at t) (sym waiting_is)) (ap (λ (n : ℕ). n ∷ []) (sym slot_id) ∙ ap (ids_at t) (sym ready_is)) (omega (arith, copied_is, none)))
      where
        none_added : more ≡ []
        none_added = no_items more (omega (arith, none, many_now, ap length keys_now, length-append s.filled more))

        filled_now : s.filled ≡ keys_of k'.buffer
        filled_now = sym (keys_now ∙ ap (λ (ks : List (List ℕ)). s.filled ++ ks) none_added ∙ append-nil s.filled)

    -- its next entry does not fit; and so something was filled before
    abbrev after_stops : Sweep
    after_stops = record { source = s.source; entry = plan.next; filled = keys_of k'.buffer; waiting = s.waiting; ready = [] }

    stops : plan.ended ≡ false → k'.waiting.items ≡ k.waiting.items → k'.ready.items ≡ [] → k'.next ≡ nexts.Flush source plan.next
        → Swept followed moves.after old new phases.Copy m c new.tables new.collection
    stops not_ended waiting_is ready_is next =
        swept phases.Flush after_stops plan.dead.items dead_is tells (
          s,
          after_stops,
          phases.Flush,
          stage_was,
          refl,
          refl,
          refl,
          within,
          none_ready,
          (more, plan.dead.items, keys_now, refl),
          λ known. absurd known,
          inr (
            refl,
            omega (arith, entry_is, is.next_is),
            refl,
            some_filled,
            λ none. absurd (some_filled (no_items s.filled (omega (arith, many_now, ap length none)))),
            refl,
            refl,
          ),
        )
        (same_so phases.Flush after_stops (ap (phase_at stages.Sweep) (sym next)) (source_is ∙ sym (ap (sources_before k') next)) (sym (ap entry_in next)) refl
        (at.same.waiting_is ∙ ap (ids_at t) (sym waiting_is)) (ap (ids_at t) (sym ready_is)) copied_now)
      where
        some_filled : s.filled ≢ []
        some_filled none =
            eqb-false plan.next (length h.entries) (sym is.ended_is ∙ not_ended) (is.whole (no_items filling.segments (omega (arith, many_before, ap length none))))

    by_end : (ended : Bool) → plan.ended ≡ ended → EndsBy ended t slot source plan k k' → Swept followed moves.after old new phases.Copy m c new.tables new.collection
    by_end true is_so (inl (some, waiting_is, ready_is, next)) = waits some waiting_is ready_is next
    by_end true is_so (inr (none, waiting_is, ready_is, next)) = is_ready none waiting_is ready_is next
    by_end false is_so (waiting_is, ready_is, next) = stops is_so waiting_is ready_is next

  by_found : (found : Option Plan) → copies.found ≡ found → PlansSource (copy_task t old.known old.collection.live slot entry copies.filling) old.disk new.disk found
      → Forgets old.known new.known found → TakesBy t slot source found k k' → Swept followed moves.after old new phases.Copy m c new.tables new.collection
  by_found None is plans forgets takes = left_alone is forgets takes
  by_found (Some plan) is plans forgets (buffer_is, copied_is, ends) =
      by_end plans.header plan plans.plans.1 buffer_is copied_is (forgets.0 moves.before moves.was) is plan.ended refl ends

  -- A copying step is the machine's, also where the index is another than that of the containers.
  pub copies_so : Swept followed moves.after old new phases.Copy m c new.tables new.collection
  copies_so = by_found copies.found refl copies.plans copies.forgets copies.takes
