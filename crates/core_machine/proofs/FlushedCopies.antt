-- A step of a core's sweep that writes what was copied, as one of the machine's, on any disk.
use Rattle.core_machine.proofs.Prelude.{◌≡◌, ◌≢◌, ℕ, suc, ◌+◌, Bool, true, List, [], ◌∷◌, ◌++◌, length, None, refl, sym, ◌∙◌, ap, subst, arith, Kind, Segment, HeaderValue, header_of, Root, Phase, IsValidFor, Store, HasFree, first_free, FlushContainer, StoreChange, with_sealed, first_closed, some_free, all_first, free_sealed, SlotTable, IsFirstFree, Represents, CoreSweep, HasNext, IsSweeping, IsTaken, entry_in, sources_before, Moment, phase_at, IsUnderWay, some_same, keys_written, next_of, sources_in, Sweeping, forgotten_beside, freed_more, written_more, HasCopied, SameRun, SameSweep, ids_at, FollowsPhase, TellsForgotten}
use Rattle.std.proofs.Common.{length-append}
use Rattle.container_meta.specs.Segments.{keys_of}
use Rattle.refusals.specs.declared.refusal.Phase.TheVariants as phases
use Rattle.store_model.specs.Steps.{CanFlush}
use Rattle.store_model.proofs.Valid.{valid_sealed}
use Rattle.gc_sweep.specs.declared.sweep.Next.TheVariants as nexts
use Rattle.gc_steps.specs.declared.collection.Stage.TheVariants as stages
use Rattle.gc_steps.specs.Stepping.{Flushes as CoreFlushes}
use Rattle.store_machine.specs.Machine.{Collection, Sweep}
use Rattle.core_machine.proofs.Beside.{ids_same}
use Rattle.core_machine.proofs.KeysForgotten.{put_told}
use Rattle.core_machine.proofs.SweptOn.{AtSweep, MapMoves, Swept, at_sweep, is_sweeping, next_ready, no_keys, no_slots, run_on}
use Rattle.core_machine.proofs.Rows.{M}

module _ (m : M) (c : Collection Root) (source entry : ℕ) (old new : Moment) (represents : Represents m.store None old.tables) (valid : IsValidFor old.disk.size m.store)
    (free : HasFree m.store.held) (last : m.last_id ≡ old.tables.held.last_id) (under : IsUnderWay old.tables.held old.collection)
    (run : SameRun old.tables.held m.swept c old.collection) (stage : old.collection.stage ≡ stages.Sweep) (next_was : old.collection.sweep.next ≡ nexts.Flush source entry)
    (flushes : CoreFlushes source entry old new) {followed : Bool} (moves : MapMoves followed m.forgotten m.store.held old.known new.known)
    (content : followed ≡ true → FollowsPhase phases.Flush old.disk.content) where
  abbrev t : SlotTable
  t = old.tables.held

  abbrev now : SlotTable
  now = new.tables.held

  abbrev k : CoreSweep
  k = old.collection.sweep

  abbrev k' : CoreSweep
  k' = new.collection.sweep

  at : AtSweep t m.swept c k
  at = at_sweep t m.swept c old.collection run stage

  abbrev s : Sweep
  s = at.s

  abbrev sources : List ℕ
  sources = sources_in c

  sweeping : IsSweeping t old.collection.snapshot k
  sweeping = is_sweeping t old.collection under stage

  has : HasNext t k (nexts.Flush source entry)
  has = subst (HasNext t k) next_was sweeping.next_is

  phase_was : at.next ≡ phases.Flush
  phase_was = at.same.next_is ∙ ap (phase_at stages.Sweep) next_was

  -- ---- the container

  abbrev kind : Kind
  kind = k.buffer.kind

  abbrev segments : List Segment
  segments = k.buffer.segments

  -- under the next id
  one : old.tables.held.last_id + 1 ≡ suc m.last_id
  one = omega (arith, last)

  wrote : CanFlush (suc m.last_id) kind segments m.store × Represents (with_sealed (suc m.last_id) kind segments m.store) None new.tables
  wrote =
      subst (λ (id : ℕ). CanFlush id kind segments m.store × Represents (with_sealed id kind segments m.store) None new.tables) one
      (flushes.writes.written.alone.store_has m.store represents valid free)

  abbrev h : HeaderValue
  h = header_of (suc m.last_id) kind segments

  abbrev after : Store
  after = with_sealed (suc m.last_id) kind segments m.store

  free_first : IsFirstFree (first_free m.store.held) m.store.held
  free_first =
      let within = some_free m.store.held free in
      record { first = refl; within = within; closed = first_closed m.store.held within }

  -- the sources that wait keep their ids
  waiting_stay : ids_at t k.waiting.items ≡ ids_at now k.waiting.items
  waiting_stay = sym (
      ids_same m.store.held t now (first_free m.store.held) h free_first represents.slots_hold wrote.1.slots_hold old.collection.snapshot k sweeping k.waiting.items
      (all_first (IsTaken t k.sources.items (sources_before k k.next)) k.waiting.items k.ready.items sweeping.taken)
      )

  -- ---- the sweep

  abbrev swept_on : Sweep
  swept_on = record s { filled = []; waiting = []; ready = s.waiting }

  some_wait : s.waiting ≢ []
  some_wait none = has.1 (sweeping.fills (no_slots t k.waiting.items (sym at.same.waiting_is ∙ none)))

  is_ready : next_of m.store.held sources swept_on ≡ phases.Release
  is_ready = next_ready m.store.held sources s.source s.waiting [] some_wait

  abbrev changes : List StoreChange
  changes = c.changes ++ FlushContainer (suc m.last_id) kind segments ∷ []

  keys_filled : keys_of k.buffer ≡ s.filled
  keys_filled = sym at.same.filled_is

  -- what was to be written is
  many_written : length (keys_written changes) ≡ length (keys_written c.changes) + length s.filled
  many_written = omega (
    arith,
    ap length (written_more c.changes (FlushContainer (suc m.last_id) kind segments ∷ [])),
    length-append (keys_written c.changes) (keys_of k.buffer ++ []),
    length-append (keys_of k.buffer) [],
    ap length keys_filled,
  )

  same_now : SameSweep now m.swept sources changes (next_of m.store.held sources swept_on) swept_on k'
  same_now = record {
    next_is = is_ready ∙ ap (phase_at stages.Sweep) (sym flushes.flushed.next_is);
    sources_are = ap (λ (v : _). v.items) flushes.flushed.sources_are ∙ at.same.sources_are;
    source_is = at.same.source_is ∙ ap (sources_before k) next_was ∙ sym (ap (sources_before k') flushes.flushed.next_is);
    entry_is = at.same.entry_is ∙ ap entry_in next_was ∙ sym (ap entry_in flushes.flushed.next_is);
    filled_is = sym (no_keys k'.buffer flushes.flushed.emptied);
    waiting_is = ap (ids_at now) (sym flushes.flushed.none_waits);
    ready_is = at.same.waiting_is ∙ waiting_stay ∙ ap (ids_at now) (sym flushes.flushed.ready_is);
    freed_is = omega (arith, flushes.flushed.freed_is, at.same.freed_is, freed_more c.changes (FlushContainer (suc m.last_id) kind segments ∷ []));
    copied_is = omega (arith, flushes.flushed.copied_is, at.same.copied_is, many_written);
    swept_is = subst (λ (p : Phase). HasCopied p m.swept) (sym is_ready) (subst (λ (p : Phase). HasCopied p m.swept) phase_was at.same.swept_is);
  }

  -- the index has its keys, if the disk tells its content
  tells : followed ≡ true → TellsForgotten (forgotten_beside s.filled m.forgotten) after.held moves.after
  tells told =
      let image = content told in
      let index = flushes.places image.0 image.1 moves.before moves.was in
      subst (λ (keys : List (List ℕ)). TellsForgotten (forgotten_beside keys m.forgotten) after.held moves.after) keys_filled
      (subst (TellsForgotten (forgotten_beside (keys_of k.buffer) m.forgotten) after.held) (some_same _ moves.after (sym index ∙ moves.is))
      (put_told m.forgotten (suc m.last_id) flushes.slot kind segments m.store moves.before free (moves.told told)))

  -- What was copied is written, whatever the index has.
  pub flushes_so : Swept followed moves.after old new phases.Flush m c new.tables new.collection
  flushes_so = record {
    went = record {
      stage = Sweeping (next_of m.store.held sources swept_on) swept_on;
      recorded = c.recorded;
      changes = FlushContainer (suc m.last_id) kind segments ∷ [];
      forgotten = forgotten_beside s.filled m.forgotten;
    };
    store = after;
    goes = (
      s,
      swept_on,
      kind,
      segments,
      at.stage_is ∙ ap (λ (p : Phase). Sweeping p s) phase_was,
      refl,
      keys_filled,
      refl,
      refl,
      refl,
      refl,
      λ known. absurd known,
    );
    makes = (wrote.0, refl);
    represents = wrote.1;
    valid = λ size is. valid_sealed (suc m.last_id) kind segments m.store wrote.0 size is;
    free = omega (arith, wrote.0.slot, free_sealed (suc m.last_id) kind segments m.store wrote.0);
    names = refl;
    last = refl;
    told = tells;
    changes_are = refl;
    forgets = tt;
    last_id = sym one ∙ sym flushes.writes.written.last_is;
    last_within = λ few. omega (arith, flushes.writes.has_slot.below, last);
    run = run_on t now m.swept m.swept c old.collection new.collection (next_of m.store.held sources swept_on) swept_on
        (FlushContainer (suc m.last_id) kind segments ∷ []) run stage flushes.sweeps same_now;
  }
