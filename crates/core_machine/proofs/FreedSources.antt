-- A step of a core's sweep that gives sources back, as one of the machine's, on any disk.
use Rattle.core_machine.proofs.Prelude.{◌≡◌, ◌≢◌, ℕ, zero, suc, ◌+◌, ◌≤◌, Bool, true, false, List, [], ◌∷◌, ◌++◌, length, Option, None, refl, sym, ◌∙◌, ap, subst, arith, AllByRecursion, eq-eqb, Contains-append_left, Contains-append_right, Known, HeaderValue, Root, Phase, with_all_freed, IsValidFor, Store, names_of, HasFree, FreeContainer, StoreChange, SlotTable, Represents, RepresentsSlots, CoreSweep, HasNext, IsSweeping, entry_in, sources_before, id_at, CoreCollection, Moment, SweepsOn, phase_at, IsUnderWay, some_same, all_second, StandIn, keys_written, next_by, next_of, sources_in, Sweeping, freed_more, written_more, HasCopied, SameRun, SameSweep, ids_at, FollowsPhase, TellsForgotten}
use Rattle.std.proofs.Common.{Contains, get_or, map, append-nil}
use Rattle.std.specs.Prelude.{nat_eq}
use Rattle.std.specs.List.{IsDistinct}
use Rattle.container_meta.specs.Segments.{keys_of}
use Rattle.refusals.specs.declared.refusal.Phase.TheVariants as phases
use Rattle.store_model.proofs.FreedAll.{free_all, last_all, others_all, valid_all}
use Rattle.store_model.proofs.FreedFiles.{same_but_held}
use Rattle.gc_sweep.specs.declared.sweep.Next.TheVariants as nexts
use Rattle.gc_sweep.specs.Ready.{HasReleased}
use Rattle.gc_sweep.specs.Releasing.{HasFreed}
use Rattle.gc_sweep.proofs.Freed.{second_apart}
use Rattle.gc_sweep.proofs.InSlots.{IsSourceIn, stands_in}
use Rattle.gc_steps.specs.declared.collection.Stage.TheVariants as stages
use Rattle.store_machine.specs.Machine.{Collection, Sweep}
use Rattle.store_machine.proofs.Released.{all_freed_in, all_in, all_stand, last_by_freeing, makes_freed, no_keys_written}
use Rattle.core_machine.proofs.KeysForgotten.{all_freed_told}
use Rattle.core_machine.proofs.NextSteps.{has_before, next_so}
use Rattle.core_machine.proofs.SweptOn.{AtSweep, MapMoves, Swept, at_sweep, entry_next, ids_kept, is_sweeping, no_slots, run_on, source_next}
use Rattle.core_machine.proofs.Rows.{M}

-- ---- slots that differ

apart_each : (x : ℕ) (ws : List ℕ) → AllByRecursion (λ w. nat_eq x w ≡ false) ws → AllByRecursion (λ w. w ≢ x) ws
apart_each x [] all = tt
apart_each x (w ∷ ws) all = ((λ same. let wrong : true ≡ false = sym (eq-eqb x w (sym same)) ∙ all.0 in absurd cc), apart_each x ws all.1)

-- of slots that differ, those that come after some are others than these
apart_from : (xs ys : List ℕ) → IsDistinct nat_eq (xs ++ ys) → AllByRecursion (λ x. AllByRecursion (λ y. y ≢ x) ys) xs
unfolding IsDistinct
apart_from [] ys apart = tt
apart_from (x ∷ xs) ys apart = (apart_each x ys (all_second (λ w. nat_eq x w ≡ false) xs ys apart.0), apart_from xs ys apart.1)

-- ---- the sources that are ready, in the core and in the machine

pub record InTurn (held : List (Option HeaderValue)) (t : SlotTable) (swept : Bool) (c : Collection Root) (snapshot : ℕ) (k : CoreSweep) : Type 0 where
  pub at : AtSweep t swept c k
  pub phase_was : at.next ≡ phases.Release
  pub some : at.s.ready ≢ []
  pub stand : StandIn held at.s.ready k.ready.items

pub in_turn : (held : List (Option HeaderValue)) (t : SlotTable) (swept : Bool) (c : Collection Root) (k : CoreCollection) → RepresentsSlots held t → IsUnderWay t k
    → SameRun t swept c k → k.stage ≡ stages.Sweep → (source entry : ℕ) → k.sweep.next ≡ nexts.Release source entry → InTurn held t swept c k.snapshot k.sweep
in_turn held t swept c k slots under run stage source entry next_was =
    let IsSource : ℕ → Type 0 = IsSourceIn held k.snapshot k.sweep.sources.items (sources_before k.sweep k.sweep.next) in
    let at = at_sweep t swept c k run stage in
    let sweeping = is_sweeping t k under stage in
    let has : HasNext t k.sweep (nexts.Release source entry) = subst (HasNext t k.sweep) next_was sweeping.next_is in
    record {
      at = at;
      phase_was = at.same.next_is ∙ ap (phase_at stages.Sweep) next_was;
      some = λ none. has.0 (no_slots t k.sweep.ready.items (sym at.same.ready_is ∙ none));
      stand = subst (λ (ids : List ℕ). StandIn held ids k.sweep.ready.items) (sym at.same.ready_is)
          (each k.sweep.ready.items (all_in IsSource k.sweep.ready.items (λ slot there.
          stands_in held t k.snapshot k.sweep sweeping slots slot (Contains-append_right k.sweep.waiting.items k.sweep.ready.items slot there))));
    }
  where
    each : (ready : List ℕ) → AllByRecursion (IsSourceIn held k.snapshot k.sweep.sources.items (sources_before k.sweep k.sweep.next)) ready
        → StandIn held (ids_at t ready) ready
    each [] all = tt
    each (slot ∷ ready) all = (
      (all.0.header, all.0.there, sym (id_at held slot all.0.header all.0.there) ∙ ap (λ (ids : List ℕ). get_or ids slot 0) (sym slots.ids_are)),
      each ready all.1,
    )

module _ (m : M) (c : Collection Root) (source entry : ℕ) (old new : Moment) (represents : Represents m.store None old.tables) (valid : IsValidFor old.disk.size m.store)
    (free : HasFree m.store.held) (last : m.last_id ≡ old.tables.held.last_id) (under : IsUnderWay old.tables.held old.collection)
    (run : SameRun old.tables.held m.swept c old.collection) (stage : old.collection.stage ≡ stages.Sweep) (next_was : old.collection.sweep.next ≡ nexts.Release source entry)
    (released : HasReleased new.tables.held source entry old.collection.sweep new.collection.sweep) (sweeps : SweepsOn old new)
    (freed : HasFreed old.tables old.collection.sweep.ready.items new.tables) {followed : Bool} (moves : MapMoves followed m.forgotten m.store.held old.known new.known)
    (index : Known old.disk.content (λ _. new.known ≡ old.known)) (content : followed ≡ true → FollowsPhase phases.Release old.disk.content) where
  abbrev t : SlotTable
  t = old.tables.held

  abbrev now : SlotTable
  now = new.tables.held

  abbrev k : CoreSweep
  k = old.collection.sweep

  abbrev k' : CoreSweep
  k' = new.collection.sweep

  turn : InTurn m.store.held t m.swept c old.collection.snapshot k
  turn = in_turn m.store.held t m.swept c old.collection represents.slots_hold under run stage source entry next_was

  abbrev at : AtSweep t m.swept c k
  at = turn.at

  abbrev s : Sweep
  s = at.s

  abbrev sources : List ℕ
  sources = sources_in c

  sweeping : IsSweeping t old.collection.snapshot k
  sweeping = is_sweeping t old.collection under stage

  has : HasNext t k (nexts.Release source entry)
  has = subst (HasNext t k) next_was sweeping.next_is

  source_is : s.source ≡ source
  source_is = at.same.source_is ∙ ap (sources_before k) next_was

  entry_is : s.entry ≡ entry
  entry_is = at.same.entry_is ∙ ap entry_in next_was

  -- ---- the containers

  abbrev ready : List ℕ
  ready = k.ready.items

  abbrev after : Store
  after = with_all_freed ready m.store

  represents_now : Represents after None new.tables
  represents_now = freed.represents m.store None (λ index is. absurd cc) represents

  -- ---- the table

  -- those that wait keep their ids
  stay : ids_at t k.waiting.items ≡ ids_at now k.waiting.items
  stay =
      ids_kept t now k.waiting.items
      (each k.waiting.items (apart_from k.waiting.items ready sweeping.apart) (all_in (Contains k.waiting.items) k.waiting.items (λ w there. there)))
    where
      one : (w : ℕ) → AllByRecursion (λ slot. slot ≢ w) ready → Contains k.waiting.items w → get_or now.ids.items w 0 ≡ get_or t.ids.items w 0
      one w others there =
          let is = stands_in m.store.held t old.collection.snapshot k sweeping represents.slots_hold w (Contains-append_left k.waiting.items ready w there) in
          ap (λ (ids : List ℕ). get_or ids w 0) represents_now.slots_hold.ids_are ∙ id_at after.held w is.header (others_all ready w m.store others ∙ is.there)
          ∙ sym (id_at m.store.held w is.header is.there) ∙ ap (λ (ids : List ℕ). get_or ids w 0) (sym represents.slots_hold.ids_are)

      each : (ws : List ℕ) → AllByRecursion (λ w. AllByRecursion (λ slot. slot ≢ w) ready) ws → AllByRecursion (Contains k.waiting.items) ws
          → AllByRecursion (λ w. get_or now.ids.items w 0 ≡ get_or t.ids.items w 0) ws
      each [] all there = tt
      each (w ∷ ws) all there = (one w all.0 there.0, each ws all.1 there.1)

  -- ---- the sweep

  abbrev swept_on : Sweep
  swept_on = record s { ready = [] }

  same_sources : k'.sources.items ≡ k.sources.items
  same_sources = ap (λ (v : _). v.items) released.sources_are

  same_waiting : k'.waiting.items ≡ k.waiting.items
  same_waiting = ap (λ (v : _). v.items) released.waiting_is

  few : source ≤ length k.sources.items
  few = omega (arith, sweeping.before, ap (sources_before k) next_was)

  none_left : length k.sources.items ≤ source → entry ≡ 0
  none_left end = by entry refl
    where
      by : (e : ℕ) → entry ≡ e → entry ≡ 0
      by zero is = is
      by (suc e) is = absurd (omega (arith, end, (has.1 (omega (arith, is))).0))

  abbrev freeing : List StoreChange
  freeing = map FreeContainer ready

  abbrev changes : List StoreChange
  changes = c.changes ++ freeing

  -- what comes next, by the containers of before
  next_now : next_of m.store.held sources swept_on ≡ phase_at stages.Sweep k'.next
  next_now =
      sym (
      next_so m.store.held now old.collection.snapshot k.sources.items valid.different (has_before m.store ready now represents_now.slots_hold) sweeping.left.old source k.buffer
      entry k'.next released.next_is
      ∙ ap (λ (xs : List ℕ). next_by m.store.held xs source [] (keys_of k.buffer)) at.same.sources_are
      ∙ ap (λ (n : ℕ). next_by m.store.held sources n [] (keys_of k.buffer)) (sym source_is)
      ∙ ap (next_by m.store.held sources s.source []) (sym at.same.filled_is)
      )

  swept_so : (p : Phase) → HasCopied phases.Release m.swept → HasCopied p m.swept
  swept_so phases.Flush was = was
  swept_so phases.Release was = was
  swept_so p was = tt

  same_now : SameSweep now m.swept sources changes (next_of m.store.held sources swept_on) swept_on k'
  same_now = record {
    next_is = next_now;
    sources_are = same_sources ∙ at.same.sources_are;
    source_is = source_is ∙ sym (source_next now k.sources.items k.buffer source entry k' same_sources few none_left k'.next released.next_is);
    entry_is = entry_is ∙ sym (entry_next now k.sources.items k.buffer source entry k' same_sources few none_left k'.next released.next_is);
    filled_is = at.same.filled_is ∙ ap keys_of (sym released.buffer_is);
    waiting_is = at.same.waiting_is ∙ stay ∙ ap (ids_at now) (sym same_waiting);
    ready_is = ap (ids_at now) (sym released.ready_is);
    freed_is = omega (arith, released.freed_is, at.same.freed_is, freed_more c.changes freeing, all_freed_in ready);
    copied_is =
        released.copied_is ∙ at.same.copied_is
        ∙ ap (λ (ks : List (List ℕ)). length ks + length s.filled) (
        sym (written_more c.changes freeing ∙ ap (λ (ks : List (List ℕ)). keys_written c.changes ++ ks) (no_keys_written ready) ∙ append-nil (keys_written c.changes))
        );
    swept_is = swept_so (next_of m.store.held sources swept_on) (subst (λ (p : Phase). HasCopied p m.swept) turn.phase_was at.same.swept_is);
  }

  -- the index is the same, if the disk tells its content
  tells : followed ≡ true → TellsForgotten m.forgotten after.held moves.after
  tells told =
      let image = content told in
      subst (TellsForgotten m.forgotten after.held) (some_same moves.before moves.after (sym moves.was ∙ sym (index image.0 image.1) ∙ moves.is))
      (all_freed_told m.forgotten ready m.store moves.before (moves.told told))

  -- All sources that are ready are given back, whatever the index has.
  pub releases_so : Swept followed moves.after old new phases.Release m c new.tables new.collection
  releases_so = record {
    went = record {
      stage = Sweeping (next_of m.store.held sources swept_on) swept_on;
      recorded = c.recorded;
      changes = freeing;
      forgotten = m.forgotten;
    };
    store = after;
    goes = (
      s,
      swept_on,
      ready,
      at.stage_is ∙ ap (λ (p : Phase). Sweeping p s) turn.phase_was,
      turn.some,
      turn.stand,
      refl,
      refl,
      refl,
      refl,
      refl,
      λ known. absurd known,
    );
    makes = makes_freed ready m.store (all_stand m.store.held s.ready ready turn.stand) (second_apart k.waiting.items ready sweeping.apart);
    represents = represents_now;
    valid = λ size is. valid_all size ready m.store is;
    free = omega (arith, free, free_all ready m.store);
    names = ap names_of (same_but_held ready m.store);
    last = last_all ready m.store;
    told = tells;
    changes_are = refl;
    forgets = tt;
    last_id = last_by_freeing ready m.last_id ∙ last ∙ sym freed.last_stays;
    last_within = λ few_ids. omega (arith, few_ids, last_by_freeing ready m.last_id);
    run = run_on t now m.swept m.swept c old.collection new.collection (next_of m.store.held sources swept_on) swept_on freeing run stage sweeps same_now;
  }
