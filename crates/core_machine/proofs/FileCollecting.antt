-- A collection that runs in a core which is at the files of a machine: what it records, writes and gives back, by what the files need.
use Rattle.core_machine.proofs.Prelude.{◌≡◌, ℕ, ◌<◌, true, List, [], ◌∷◌, length, Some, refl, sym, ◌∙◌, ap, subst, arith, AllByRecursion, pin_by, Kind, PlaceMap, Segment, has_key, segment_key, ContainerLiveness, Next, HoldsSweep, SourcesStand, IsSweeping, id_at, sources_before, live_anywhere, old_id, CoreCollection, IsSafe, phase_at, HoldsAt, IsUnderWay, held_at, at_stage, IsSpare, HasKey, length_of_copy, CoreInvariant, IsAt, IsSafeIn, CoreState, IsUnderWayIn, AtStore, data_level, FileMachine, IsCopyOf, IsRecordOf, keys_written, forget_collection, CollectionNeeds, HasCopy, NeededSince, of_files, SameRun, IsAtFiles, stored_in, IsLiveAtStage, LivesJust, TellsForgotten}
use Rattle.std.proofs.Common.{get_or, map, Contains}
use Rattle.container_meta.specs.declared.kind.Kind.TheVariants as kinds
use Rattle.gc_sweep.specs.declared.sweep.Next.TheVariants as nexts
use Rattle.gc_sweep.specs.Holding.{IsCopied}
use Rattle.gc_sweep.specs.Releasing.{HasNoEntryInAny}
use Rattle.gc_sweep.proofs.Holds.{AreInTurn, in_turn}
use Rattle.gc_sweep.proofs.InSlots.{IsSourceIn}
use Rattle.gc_sweep.proofs.KeyLists.{listed, listed_left, listed_one, listed_right}
use Rattle.gc_steps.specs.declared.collection.Stage.{Stage}
use Rattle.gc_steps.specs.declared.collection.Stage.TheVariants as core
use Rattle.gc_steps.proofs.RecordOf.{IsOfSlot}
use Rattle.gc_steps.proofs.Sparing.{ready_is_spare}
use Rattle.refusals.specs.declared.refusal.Phase.TheVariants as phases
use Rattle.store_core.proofs.AtStore.{at_store}
use Rattle.store_core.proofs.ByNeed.{sums_needed}
use Rattle.store_machine.specs.Machine.{Collection}
use Rattle.store_machine.specs.Needs.{IsNeeded}
use Rattle.core_machine.proofs.FileNeeds.{AllFit, needed_has}

-- ---- by what is called so

pub at_filter : (stage : Stage) (next : Next) → phase_at stage next ≡ phases.Filter → (slot : ℕ) × (stage ≡ core.Filter slot)
at_filter (core.Mark level slot) next is = absurd (let wrong : phases.Mark ≡ phases.Filter = is in cc)
at_filter (core.Filter slot) next is = (slot, refl)
at_filter core.Select next is = absurd (let wrong : phases.Select ≡ phases.Filter = is in cc)
at_filter core.Sweep (nexts.Copy source entry) is = absurd (let wrong : phases.Copy ≡ phases.Filter = is in cc)
at_filter core.Sweep (nexts.Flush source entry) is = absurd (let wrong : phases.Flush ≡ phases.Filter = is in cc)
at_filter core.Sweep (nexts.Release source entry) is = absurd (let wrong : phases.Release ≡ phases.Filter = is in cc)
at_filter core.Sweep nexts.End is = absurd (let wrong : phases.End ≡ phases.Filter = is in cc)

-- it sweeps, and comes next to a step of this kind
abbrev pub SweepsBy : (ℕ → ℕ → Next) → Stage → Next → Type 0
SweepsBy made stage next = (source : ℕ) × (entry : ℕ) × (stage ≡ core.Sweep) × (next ≡ made source entry)

pub at_copy : (stage : Stage) (next : Next) → phase_at stage next ≡ phases.Copy → SweepsBy nexts.Copy stage next
at_copy (core.Mark level slot) next is = absurd (let wrong : phases.Mark ≡ phases.Copy = is in cc)
at_copy (core.Filter slot) next is = absurd (let wrong : phases.Filter ≡ phases.Copy = is in cc)
at_copy core.Select next is = absurd (let wrong : phases.Select ≡ phases.Copy = is in cc)
at_copy core.Sweep (nexts.Copy source entry) is = (source, entry, refl, refl)
at_copy core.Sweep (nexts.Flush source entry) is = absurd (let wrong : phases.Flush ≡ phases.Copy = is in cc)
at_copy core.Sweep (nexts.Release source entry) is = absurd (let wrong : phases.Release ≡ phases.Copy = is in cc)
at_copy core.Sweep nexts.End is = absurd (let wrong : phases.End ≡ phases.Copy = is in cc)

pub at_flush : (stage : Stage) (next : Next) → phase_at stage next ≡ phases.Flush → SweepsBy nexts.Flush stage next
at_flush (core.Mark level slot) next is = absurd (let wrong : phases.Mark ≡ phases.Flush = is in cc)
at_flush (core.Filter slot) next is = absurd (let wrong : phases.Filter ≡ phases.Flush = is in cc)
at_flush core.Select next is = absurd (let wrong : phases.Select ≡ phases.Flush = is in cc)
at_flush core.Sweep (nexts.Copy source entry) is = absurd (let wrong : phases.Copy ≡ phases.Flush = is in cc)
at_flush core.Sweep (nexts.Flush source entry) is = (source, entry, refl, refl)
at_flush core.Sweep (nexts.Release source entry) is = absurd (let wrong : phases.Release ≡ phases.Flush = is in cc)
at_flush core.Sweep nexts.End is = absurd (let wrong : phases.End ≡ phases.Flush = is in cc)

pub at_release : (stage : Stage) (next : Next) → phase_at stage next ≡ phases.Release → SweepsBy nexts.Release stage next
at_release (core.Mark level slot) next is = absurd (let wrong : phases.Mark ≡ phases.Release = is in cc)
at_release (core.Filter slot) next is = absurd (let wrong : phases.Filter ≡ phases.Release = is in cc)
at_release core.Select next is = absurd (let wrong : phases.Select ≡ phases.Release = is in cc)
at_release core.Sweep (nexts.Copy source entry) is = absurd (let wrong : phases.Copy ≡ phases.Release = is in cc)
at_release core.Sweep (nexts.Flush source entry) is = absurd (let wrong : phases.Flush ≡ phases.Release = is in cc)
at_release core.Sweep (nexts.Release source entry) is = (source, entry, refl, refl)
at_release core.Sweep nexts.End is = absurd (let wrong : phases.End ≡ phases.Release = is in cc)

-- ---- what is known of it

-- The collection of a machine of files runs in the core.
pub record RunsIn (S : List ℕ → Type 0) (m : FileMachine) (c : CoreState) (x : Collection (List ℕ)) (k : CoreCollection) : Type 0 where
  pub at : IsAtFiles S m c
  pub ran : m.collection ≡ Some x
  pub core_ran : c.collection ≡ Some k
  pub same : SameRun c.tables.held m.swept (forget_collection x) k
  pub fit : AllFit m.parts c.parts
  pub told : TellsForgotten m.forgotten m.store.held at.is_at.index

module _ (S : List ℕ → Type 0) (m : FileMachine) (c : CoreState) (x : Collection (List ℕ)) (k : CoreCollection) (r : RunsIn S m c x k) where
  abbrev is_at : IsAt S m.store (stored_in m.now) c
  is_at = r.at.is_at

  abbrev pub index_in : PlaceMap
  index_in = is_at.index

  abbrev pub image_in : List ℕ
  image_in = is_at.stands.known.0

  abbrev pub content_in : c.disk.content ≡ Some image_in
  content_in = is_at.stands.known.1

  pub stands_in : AtStore S m.store (stored_in m.now) c is_at
  stands_in = at_store S m.store (stored_in m.now) c is_at

  invariant : CoreInvariant index_in m.store m.now.names c.parts image_in
  invariant = is_at.invariant image_in content_in

  pub under_in : IsUnderWay c.tables.held k
  under_in = subst (IsUnderWayIn c.tables.held) r.core_ran is_at.under_way

  pub lives_in : LivesJust (NeededSince of_files x) m.store c k
  lives_in = r.at.lives x k r.ran r.core_ran

  safe : IsSafe index_in m.store c.parts image_in k
  safe = subst (IsSafeIn index_in m.store c.parts image_in) r.core_ran (is_at.safe image_in content_in)

  -- each key that was needed is live, once it has marked
  pub live_in : (stage : Stage) → k.stage ≡ stage → (key : List ℕ) → NeededSince of_files x key → IsLiveAtStage stage index_in m.store.held image_in k.live key
  live_in stage is key needed =
      subst (λ (st : Stage). IsLiveAtStage st index_in m.store.held image_in k.live key) is (lives_in.all index_in image_in is_at.index_known content_in key needed)

  pub sweeping_in : k.stage ≡ core.Sweep → IsSweeping c.tables.held k.snapshot k.sweep
  sweeping_in is = at_stage c.tables.held k core.Sweep under_in is

  pub holds_in : k.stage ≡ core.Sweep → SourcesStand m.store.held k.snapshot k.sweep × HoldsSweep index_in m.store.held image_in k.live k.snapshot k.sweep
  holds_in is = subst (λ (st : Stage). HoldsAt st index_in m.store.held image_in k) is (held_at index_in m.store c.parts image_in k safe)

  -- ---- a container is recorded

  pub record_in : (slot : ℕ) → k.stage ≡ core.Filter slot → (one : ContainerLiveness) → IsOfSlot index_in k.live m.store.held slot one → IsRecordOf of_files x m.store one
  record_in slot stage one of = record {
    slot = slot;
    header = of.header;
    there = of.there;
    before = before;
    id_is = of.id_is;
    kind_is = of.kind_is;
    all_is = of.all_is;
    live_is = λ known.
        sums_needed (NeededSince of_files x) index_in m.store.held k.live stands_in.partial lives_in.within
        (λ key needed. let live = live_in (core.Filter slot) stage key needed in (live.0, live.1.0))
        (λ key place needed. let live = live_in (core.Filter slot) stage key needed in live_anywhere k.live key live.0 place live.1.1)
        of.header.kind slot of.header.entries one.live of.sums;
  }
    where
      id_here : get_or c.tables.held.ids.items slot 0 ≡ of.header.id
      id_here = ap (λ (ids : List ℕ). get_or ids slot 0) is_at.represents.slots_hold.ids_are ∙ id_at m.store.held slot of.header of.there

      before : of.header.id < x.snapshot
      before =
          let below = (old_id k.snapshot (get_or c.tables.held.ids.items slot 0) (at_stage c.tables.held k (core.Filter slot) under_in stage).0.1).1 in
          omega (arith, below, id_here, r.same.snapshot_is)

  -- ---- copies are written

  level_in : (kind : Kind) (s : Segment) → (copied : IsCopied index_in k.live m.store.held image_in kind s) → copied.newest.copy.place.level ≡ (pin_by kind s).level
  level_in kinds.Leaf s copied =
      data_level S m.store m.now.names image_in (is_at.stands.each image_in (c.disk.as_read image_in content_in)) s copied.newest.copy copied.newest.copy_is
  level_in kinds.Tree s copied = copied.newest.level_is

  pub copy_in : (kind : Kind) (s : Segment) → IsCopied index_in k.live m.store.held image_in kind s → HasCopy m.store (record { kind = kind; segment = s })
  copy_in kind s is = record {
    copy = is.newest.copy;
    copy_is = is.newest.copy_is;
    level_is = level_in kind s is;
    length_is = sym (length_of_copy m.store image_in (segment_key kind s) is.newest.copy stands_in.stands.right is.newest.copy_is) ∙ ap length is.newest.bytes_are;
  }

  -- what is to be written are copies, of which none was written before
  pub copies_in : k.stage ≡ core.Sweep → ((key : List ℕ) → Contains (keys_written x.changes) key → ¬ (has_key k.sweep.buffer key ≡ true))
      → AllByRecursion (IsCopyOf x m.store k.sweep.buffer.kind) k.sweep.buffer.segments
  copies_in stage once = by k.sweep.buffer.segments (λ key has. has) (holds_in stage).1.copied
    where
      by : (xs : List Segment) → ((key : List ℕ) → listed (map (segment_key k.sweep.buffer.kind) xs) key ≡ true → has_key k.sweep.buffer key ≡ true)
          → AllByRecursion (IsCopied index_in k.live m.store.held image_in k.sweep.buffer.kind) xs → AllByRecursion (IsCopyOf x m.store k.sweep.buffer.kind) xs
      by [] among all = tt
      by (s ∷ ss) among all = (
        (
          (λ was. let key = segment_key k.sweep.buffer.kind s in
              once key was (among key (listed_left (key ∷ []) (map (segment_key k.sweep.buffer.kind) ss) key (listed_one key)))),
          copy_in k.sweep.buffer.kind s all.0,
        ),
        by ss (λ key has. among key (listed_right (segment_key k.sweep.buffer.kind s ∷ []) (map (segment_key k.sweep.buffer.kind) ss) key has)) all.1,
      )

  -- ---- containers are given back

  needed_indexed : k.stage ≡ core.Sweep → (key : List ℕ) → IsNeeded of_files m key → HasKey index_in key
  needed_indexed stage =
      needed_has index_in m.store.held image_in m c.parts invariant.files_are_indexed r.fit invariant.pins_are_closed
      (λ actor file rest reader is of key there. let takes = r.at.reads actor file rest reader is of in
      takes.indexed index_in is_at.index_known key ((takes.whole m.store image_in is_at.represents content_in).count key there))
      (λ key needed. let live = live_in core.Sweep stage key (subst (λ o. CollectionNeeds of_files o key) r.ran needed) in (live.0, live.1.0))

  pub spare_in : k.stage ≡ core.Sweep → (source entry : ℕ) → k.sweep.next ≡ nexts.Release source entry
      → AllByRecursion (IsSpare (IsNeeded of_files m) m.store.held) k.sweep.ready.items
  spare_in stage source entry next = each k.sweep.ready.items turn.stand turn.none
    where
      turn : AreInTurn index_in m.store.held k.snapshot k.sweep
      turn =
          in_turn c.tables.held index_in m.store.held image_in k.live k.snapshot source entry k.sweep is_at.represents.slots_hold (sweeping_in stage) next
          (holds_in stage).1

      each : (slots : List ℕ) → AllByRecursion (IsSourceIn m.store.held k.snapshot k.sweep.sources.items (sources_before k.sweep k.sweep.next)) slots
          → HasNoEntryInAny index_in slots → AllByRecursion (IsSpare (IsNeeded of_files m) m.store.held) slots
      each [] stand none = tt
      each (slot ∷ slots) stand none = (
        ready_is_spare (IsNeeded of_files m) index_in m.store slot stand.0.header stand.0.there stands_in.partial (needed_indexed stage) none.0,
        each slots stand.1 none.1,
      )
