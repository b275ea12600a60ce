-- What the next step of a collection leaves, when it is done: it is safe, and no key that is needed is lost.
use Rattle.gc_steps.proofs.Prelude.{◌≡◌, ◌⊎◌, inl, inr, ℕ, ◌+◌, ◌<◌, ◌≤◌, List, length, Option, Some, None, refl, sym, ◌∙◌, ap, subst, arith, slice_get, All, AllByRecursion, ACTORS, Part, Entry, PlaceMap, entries_from, segment_key, HeaderValue, header_of, Ending, Done, StandsFor, DiskView, OnlyReads, slot_at, LiveKeys, child_keys, SealsIndexed, NameMap, Changes, ByteSet, IsIn, Stands, Files, IsValidFor, Store, names_of, entry_key, with_entries, AreHeaders, HasFree, HasKey, IsPartialIndexOf, first_free, IsStoreOf, with_sealed, HasNewest, bytes_at, node_key, some_same, entry_of, put_none, CoreInvariant, Represents, RepresentsSlots, Tables, Next, CopyNext, Flush, Release, End, SweepValue, CopiesSource, HoldsSweep, IsLive, SourcesStand, HasReleased, HasFreed, IsSweeping, holds_copied, are_newest, may_flush, Collection, Stage, Mark, Filter, Select, Chooses, Records, HoldsNode, IsWhole, Scans, MarksAreClosed, NewAreLive, IsRoot, IsNeeded, IsSafe, IsSafeAt, filter_at, first_slot, is_old_slot, mark_from, Flushes, StepsTo, TablesAfter, Touches, moment, HoldsAt, SweepIsSafe, IsUnderWay}
use Rattle.std.proofs.Common.{get_or, [], ◌∷◌}
use Rattle.std.specs.Prelude.{nat_eq}
use Rattle.std.specs.List.{IsDistinct}
use Rattle.container_meta.specs.Segments.{Contents}
use Rattle.dd_disk.specs.View.{IsLater}
use Rattle.dd_disk.specs.Writes.{Both}
use Rattle.merkle_file.specs.Node as node
use Rattle.segment_index.specs.Changes.{SameBefore}
use Rattle.store_model.specs.Freeing.{with_all_freed}
use Rattle.store_model.specs.Reserve.{HasReserve}
use Rattle.store_model.specs.Slots.{Copy}
use Rattle.store_model.specs.Steps.{CanFlush}
use Rattle.store_model.proofs.FramedTrees.{newest_framed, stands_framed}
use Rattle.store_model.proofs.FreedFiles.{not_freed, same_but_held}
use Rattle.store_model.proofs.Valid.{valid_sealed}
use Rattle.store_state.proofs.Parts.{parts_kept}
use Rattle.gc_sweep.specs.Releasing.{GivesBack, HasNoEntryInAny}
use Rattle.gc_sweep.specs.UnderWay.{sources_before}
use Rattle.gc_sweep.proofs.Holds.{begun_holds, in_turn}
use Rattle.gc_sweep.proofs.HoldsCopied.{leaves_on_disk}
use Rattle.gc_sweep.proofs.HoldsFlushed.{holds_flushed}
use Rattle.gc_sweep.proofs.HoldsReleased.{holds_released}
use Rattle.gc_sweep.proofs.HoldsRoom.{has_reserve, one_free}
use Rattle.gc_sweep.proofs.InSlots.{IsSourceIn, copy_of, sources_stand}
use Rattle.gc_sweep.proofs.Leaves.{LeavesStore, copy_leaves, flush_leaves, live_keys, release_leaves}
use Rattle.gc_steps.specs.declared.collection.Stage.TheVariants.{Sweep}
use Rattle.gc_steps.proofs.ChildTrees.{children_whole}
use Rattle.gc_steps.proofs.NeededKeys.{needed_has, parts_have, reachable_has}
use Rattle.gc_steps.proofs.RootTrees.{whole_indexed}
use Rattle.gc_steps.proofs.Safe.{early_from, marks_safe, restaged, sweep_safe}
use Rattle.gc_steps.proofs.ScanKeeps.{scan_keeps}
use Rattle.gc_steps.proofs.SealedPins.{entries_sealed, key_found, with_there}
use Rattle.gc_steps.proofs.Started.{root_whole}
use Rattle.gc_steps.proofs.UnderWay.{at_stage}
use Rattle.gc_sweep.specs.Copying.{copy_step}

-- A source stands in a slot.
pub record IsSourceAt (held : List (Option HeaderValue)) (sources : List ℕ) (slot : ℕ) : Type 0 where
  pub header : HeaderValue
  pub there : slice_get held slot ≡ Some (Some header)
  pub number : ℕ
  pub within : number < length sources
  pub id_is : header.id ≡ get_or sources number 0

-- Containers of a store are given back: sources, in whose slots the index has no entry.
pub record IsFreeing (index : PlaceMap) (s : SweepValue) (slots : List ℕ) (store store_now : Store) : Type 0 where
  pub stand : AllByRecursion (IsSourceAt store.held s.sources.items) slots
  pub apart : IsDistinct nat_eq slots
  pub none : HasNoEntryInAny index slots
  pub now_is : store_now ≡ with_all_freed slots store

-- A container of copies is written, each of which is the newest copy of its key, under an id from the snapshot on.
pub record IsFlushing (snapshot : ℕ) (filled : Contents) (store store_now : Store) (image : List ℕ) : Type 0 where
  pub id : ℕ
  pub new : snapshot ≤ id
  pub can : CanFlush id filled.kind filled.segments store
  pub newest : AllByRecursion (λ x. HasNewest store.held (segment_key filled.kind x) x.level x.bytes image) filled.segments
  pub now_is : store_now ≡ with_sealed id filled.kind filled.segments store

-- The store stays; but where copies are written it has their container, and where the sources that are ready are given back it is that with
-- their slots closed.
abbrev pub IsStoreAfter : Stage → Next → ℕ → SweepValue → PlaceMap → Store → Store → List ℕ → Type 0
IsStoreAfter Sweep (Flush source entry) snapshot s index store store_now image = IsFlushing snapshot s.buffer store store_now image
IsStoreAfter Sweep (Release source entry) snapshot s index store store_now image = IsFreeing index s s.ready.items store store_now
IsStoreAfter stage next snapshot s index store store_now image = store_now ≡ store

-- the keys that were needed are in the index, and their newest copies are what they were
abbrev pub Spares : PlaceMap → Store → Store → List Part → List ℕ → List ℕ → Type 0
Spares later store store_now parts image now =
    (key : List ℕ) → IsNeeded store parts image key
    → HasKey later key × ((level : ℕ) (bytes : List ℕ) → HasNewest store.held key level bytes image → HasNewest store_now.held key level bytes now)

-- What a step leaves: the invariants of the running store, and of the collection, of the store and the map of the index that there are then; and
-- all that is needed.
pub record LeavesSafe (c : Collection) (index : PlaceMap) (store : Store) (files : Files) (parts : List Part) (image now : List ℕ) (among : ByteSet) (u : Tables)
    (known : Option PlaceMap) (new : DiskView)
    (d : Collection) : Type 0 where
  pub later : PlaceMap
  pub known_is : known ≡ Some later
  pub store_now : Store
  pub store_is : IsStoreAfter c.stage c.sweep.next c.snapshot c.sweep index store store_now image
  pub represents : Represents store_now (Some later) u
  pub valid : IsValidFor new.size store_now
  pub stands : StandsFor (Stands (IsIn among) store_now files) new
  pub core : CoreInvariant later store_now files parts now
  pub safe : IsSafe later store_now parts now d
  pub spares : Spares later store store_now parts image now
  -- what was live is so still
  pub lives : (key : List ℕ) → IsLive index c.live key → IsLive later d.live key

-- ---- lists

filter_holds : (index : PlaceMap) (held : List (Option HeaderValue)) (image : List ℕ) (c : Collection) (found : Option ℕ) → HoldsAt (filter_at found) index held image c
filter_holds index held image c None = tt
filter_holds index held image c (Some slot) = tt

filter_no_mark : (found : Option ℕ) (level slot : ℕ) → filter_at found ≡ Mark level slot → ⊥
filter_no_mark None level slot is = cc
filter_no_mark (Some other) level slot is = cc

both_known : (R : List ℕ → List ℕ → Type 0) (a b : Option (List ℕ)) (old new : List ℕ) → Both R a b → a ≡ Some old → b ≡ Some new → R old new
both_known R None b old new has is also = absurd cc
both_known R (Some a) None old new has is also = absurd cc
both_known R (Some a) (Some b) old new has is also = subst (R old) (some_same b new also) (subst (λ (x : List ℕ). R x b) (some_same a old is) has)

-- ---- the disk, where what counts of it stays

module _ (store : Store) (files : Files) (image now : List ℕ) (old new : DiskView) (among : ByteSet) (content : old.content ≡ Some image) (content_now : new.content ≡ Some now)
    (stands : StandsFor (Stands (IsIn among) store files) old) where
  -- of which copies the content has the newest
  abbrev pub KeepsNewest : Type 0
  KeepsNewest = (key : List ℕ) (level : ℕ) (bytes : List ℕ) → HasNewest store.held key level bytes image → HasNewest store.held key level bytes now

  pub store_of : IsStoreOf store files image
  store_of = (stands.each image (old.as_read image content)).holds

  read_same : OnlyReads old new → now ≡ image
  read_same only = some_same now image (sym content_now ∙ only.content_is ∙ content)

  pub read_keeps : OnlyReads old new → KeepsNewest
  read_keeps only key level bytes has = subst (λ (i : List ℕ). HasNewest store.held key level bytes i) (sym (read_same only)) has

  pub read_stands : OnlyReads old new → StandsFor (Stands (IsIn among) store files) new
  read_stands only = record { known = (now, content_now); each = λ c left. stands.each c (only.images_are c left) }

  -- An index changed its own bytes.
  module _ (e : Ending) (changes : Changes (slot_at store.slots) e old new) where
    pub changed_keeps : KeepsNewest
    changed_keeps =
        let same = both_known (SameBefore (slot_at store.slots)) old.content new.content image now changes.content_is content content_now in
        newest_framed store image now store_of.right same.before

    pub changed_stands : StandsFor (Stands (IsIn among) store files) new
    changed_stands = record {
      known = (now, content_now);
      each = λ c left. elim (changes.leaves.now c left) [
        | inl was ↦ stands.each c was
        | inr stepped ↦ stands_framed (IsIn among) store files stepped.0 c (stands.each stepped.0 stepped.1) stepped.2.before stepped.2.size
      ];
    }

-- Where the content has the same newest copies, the invariant goes on.
pub core_kept : (index : PlaceMap) (store : Store) (files : Files) (parts : List Part) (image now : List ℕ) → CoreInvariant index store files parts image
    → ((key : List ℕ) (level : ℕ) (bytes : List ℕ) → HasNewest store.held key level bytes image → HasNewest store.held key level bytes now)
    → CoreInvariant index store files parts now
core_kept index store files parts image now core keeps = record {
  index_is_newest = core.index_is_newest;
  files_are_indexed = core.files_are_indexed;
  pins_are_closed = parts_kept (HasKey index) (HasKey index) store store image now (λ key level bytes need has. keeps key level bytes has)
      (λ key has. has) parts core.pins_are_closed;
  reserve_holds = core.reserve_holds;
  has_free = core.has_free;
}

-- ---- each stage

module _ (index : PlaceMap) (store : Store) (files : Files) (parts : List Part) (image now : List ℕ) (among : ByteSet) (t u : Tables) (known : Option PlaceMap)
    (old new : DiskView) (c d : Collection)
    (core : CoreInvariant index store files parts image) (few : length parts ≤ ACTORS) (represents : Represents store (Some index) t) (valid : IsValidFor old.size store)
    (content : old.content ≡ Some image) (content_now : new.content ≡ Some now) (stands : StandsFor (Stands (IsIn among) store files) old) (under : IsUnderWay t.held c)
    (under_now : IsUnderWay u.held d) where
  abbrev Leaves : Stage → Next → Type 0
  Leaves stage next = c.stage ≡ stage → c.sweep.next ≡ next → LeavesSafe c index store files parts image now among u known new d

  abbrev Newest : Type 0
  Newest = KeepsNewest store files image now old new among content content_now stands

  abbrev Left : PlaceMap → Store → Type 0
  Left later store_now = LeavesStore index later store store_now files parts image now among u new c.live

  here : Stands (IsIn among) store files image
  here = stands.each image (old.as_read image content)

  holds : IsStoreOf store files image
  holds = here.holds

  partial : IsPartialIndexOf store.held index
  partial = core.index_is_newest

  -- what is so of the store then, where this comes next
  at_stage_next : (P : Stage → Next → Type 0) (stage : Stage) (next : Next) → c.stage ≡ stage → c.sweep.next ≡ next → P stage next → P c.stage c.sweep.next
  at_stage_next P stage next stage_is next_is is = subst (λ (n : Next). P c.stage n) (sym next_is) (subst (λ (s : Stage). P s next) (sym stage_is) is)

  -- each key that is needed is in the index
  needed_indexed : (key : List ℕ) → IsNeeded store parts image key → HasKey index key
  needed_indexed key needed =
      whole_indexed index store.held image key
      (needed_has index store files parts image holds (IsWhole index store.held image) (root_whole index store files parts image core holds)
      (λ n copy node whole k other within. (children_whole index store.held image n copy node whole k other within).is_whole) key needed)

  -- Where store, tables and index stay.
  all_kept : IsStoreAfter c.stage c.sweep.next c.snapshot c.sweep index store store image → known ≡ Some index → u ≡ t → new.size ≡ old.size
      → StandsFor (Stands (IsIn among) store files) new → Newest
      → IsSafe index store parts now d → ((key : List ℕ) → IsLive index c.live key → IsLive index d.live key) → LeavesSafe c index store files parts image now among u known new d
  all_kept store_is known_is same size after keeps safe lives = record {
    later = index;
    known_is = known_is;
    store_now = store;
    store_is = store_is;
    represents = subst (λ (x : Tables). Represents store (Some index) x) (sym same) represents;
    valid = subst (λ (n : ℕ). IsValidFor n store) (sym size) valid;
    stands = after;
    core = core_kept index store files parts image now core keeps;
    safe = safe;
    spares = λ key needed. (needed_indexed key needed, λ level bytes has. keeps key level bytes has);
    lives = lives;
  }

  all_read : IsStoreAfter c.stage c.sweep.next c.snapshot c.sweep index store store image → known ≡ Some index → u ≡ t → OnlyReads old new → IsSafe index store parts image d
      → ((key : List ℕ) → IsLive index c.live key → IsLive index d.live key) → LeavesSafe c index store files parts image now among u known new d
  all_read store_is known_is same only safe lives =
      all_kept store_is known_is same only.later.size_is (read_stands store files image now old new among content content_now stands only)
      (read_keeps store files image now old new among content content_now stands only)
      (subst (λ (i : List ℕ). IsSafe index store parts i d) (sym (read_same store files image now old new among content content_now stands only)) safe) lives

  -- the same keys are live
  same_lives : d.live ≡ c.live → (key : List ℕ) → IsLive index c.live key → IsLive index d.live key
  same_lives same key is = subst (λ (l : LiveKeys). IsLive index l key) (sym same) is

  -- keys more are
  more_live : (level slot : ℕ) → Scans t.held (Some index) old new level slot c d → (key : List ℕ) → IsLive index c.live key → IsLive index d.live key
  more_live level slot scans key is = (is.0, (is.1.0, (scans.scanned.marks.marks key is.0).1 (inl is.1.1)))

  abbrev After : Stage → Next → Type 0
  After stage next = IsStoreAfter stage next c.snapshot c.sweep index store store image

  mark_leaves : (level slot : ℕ) (next : Next) → MarksAreClosed index store parts image c → Scans t.held (Some index) old new level slot c d → known ≡ Some index → u ≡ t
      → OnlyReads old new
      → Leaves (Mark level slot) next
  mark_leaves level slot next marks scans known_is same only stage_is next_is =
      all_read (at_stage_next After (Mark level slot) next stage_is next_is refl) known_is same only
      (marks_safe index store parts image d
      (scan_keeps index store files parts image t old new level slot c d holds represents content stage_is marks (at_stage t.held c (Mark level slot) under stage_is).2.0 scans)
      (mark_from c.snapshot t.held level (slot + 1)) (ap (λ (x : Collection). x.stage) scans.collection_is) (early_from c.snapshot t.held level (slot + 1)))
      (more_live level slot scans)

  filter_leaves : (slot : ℕ) (next : Next) → SweepIsSafe index store parts image c → Records t.held (Some index) old new slot c d → known ≡ Some index → u ≡ t → OnlyReads old new
      → Leaves (Filter slot) next
  filter_leaves slot next safe records known_is same only stage_is next_is =
      let found : Option ℕ = first_slot t.held (is_old_slot c.snapshot t.held) (slot + 1) in
      let stage : d.stage ≡ filter_at found = ap (λ (x : Collection). x.stage) records.collection_is in
      all_read (at_stage_next After (Filter slot) next stage_is next_is refl) known_is same only
      (sweep_safe index store parts image d (λ level other is. filter_no_mark found level other (sym stage ∙ is))
      (restaged index store parts image c d (ap (λ (x : Collection). x.live) records.collection_is) (ap (λ (x : Collection). x.snapshot) records.collection_is)
      (subst (λ (s : Stage). HoldsAt s index store.held image d) (sym stage) (filter_holds index store.held image d found)) safe))
      (same_lives (ap (λ (x : Collection). x.live) records.collection_is))

  -- the sweep that there is then holds
  swept : (later : PlaceMap) (store_now : Store) (i : List ℕ) → RepresentsSlots store_now.held u.held → d.stage ≡ Sweep
      → HoldsSweep later store_now.held i d.live d.snapshot d.sweep
      → HoldsAt d.stage later store_now.held i d
  swept later store_now i slots stage holds_now =
      subst (λ (s : Stage). HoldsAt s later store_now.held i d) (sym stage)
      (sources_stand store_now.held u.held d.snapshot d.sweep (at_stage u.held d Sweep under_now stage) slots, holds_now)

  select_leaves : (next : Next) → SweepIsSafe index store parts image c → Chooses t.held c d → known ≡ Some index → u ≡ t → OnlyReads old new → Leaves Select next
  select_leaves next safe chooses known_is same only stage_is next_is =
      let stage : d.stage ≡ Sweep = ap (λ (x : Collection). x.stage) chooses.collection_is in
      all_read (at_stage_next After Select next stage_is next_is refl) known_is same only
      (sweep_safe index store parts image d (λ level other is. let wrong = sym stage ∙ is in cc)
      (restaged index store parts image c d (ap (λ (x : Collection). x.live) chooses.collection_is) (ap (λ (x : Collection). x.snapshot) chooses.collection_is)
      (swept index store image (subst (λ (x : Tables). RepresentsSlots store.held x.held) (sym same) represents.slots_hold) stage
      (begun_holds t.held d.sweep.sources.items d.sweep index store.held image d.live d.snapshot chooses.begins)) safe))
      (same_lives (ap (λ (x : Collection). x.live) chooses.collection_is))

  end_leaves : IsSafe index store parts image c → d ≡ c → known ≡ Some index → u ≡ t → OnlyReads old new → Leaves Sweep End
  end_leaves safe is known_is same only stage_is next_is =
      all_read (at_stage_next After Sweep End stage_is next_is refl) known_is same only (subst (λ (x : Collection). IsSafe index store parts image x) (sym is) safe)
      (same_lives (ap (λ (x : Collection). x.live) is))

  -- ---- the sweep

  module _ (safe : SweepIsSafe index store parts image c) (stage_is : c.stage ≡ Sweep) where
    sweeping : IsSweeping t.held c.snapshot c.sweep
    sweeping = at_stage t.held c Sweep under stage_is

    was_held : SourcesStand store.held c.snapshot c.sweep × HoldsSweep index store.held image c.live c.snapshot c.sweep
    was_held = subst (λ (s : Stage). HoldsAt s index store.held image c) stage_is safe.sweep_holds

    -- Where a step leaves the store, and just the live keys live, the sweep is safe, and nothing is lost that is needed.
    module _ (later : PlaceMap) (store_now : Store) (left : Left later store_now) (on : d ≡ record c { sweep = d.sweep }) (names : names_of store_now ≡ names_of store) where
      all_still : (keys : List (List ℕ)) → All (IsLive index c.live) keys → All (IsLive later d.live) keys
      all_still keys all k other within = subst (λ (l : LiveKeys). IsLive later l (get_or keys k other)) (sym (ap (λ (x : Collection). x.live) on))
          (left.stays (get_or keys k other) (all k other within))

      live_before : (key : List ℕ) → IsLive later d.live key → IsLive index c.live key
      live_before key is = left.was key (subst (λ (l : LiveKeys). IsLive later l key) (ap (λ (x : Collection). x.live) on) is)

      closed : (n : node.Contents) (copy : Copy) → HoldsNode store_now.held now n copy → IsLive later d.live (node_key n) → All (IsLive later d.live) (child_keys n)
      closed n copy there live =
          let was = live_before (node_key n) live in
          let found = copy_of store.held index partial (node_key n) was.0 was.1.0 in
          let has : HasNewest store.held (node_key n) found.0.place.level
          (bytes_at found.0.place image) image = record { copy = found.0; copy_is = found.1.0; level_is = refl; bytes_are = refl } in
          let then = left.copies (node_key n) found.0.place.level (bytes_at found.0.place image) was has in
          let one : then.copy ≡ copy = some_same then.copy copy (sym then.copy_is ∙ there.copy_is) in
          all_still (child_keys n)
          (safe.live_is_closed n found.0 (record {
            right = there.right;
            copy_is = found.1.0;
            bytes_are = sym then.bytes_are ∙ ap (λ (x : Copy). bytes_at x.place now) one ∙ there.bytes_are;
          }) was)

      pub safe_on : HoldsSweep later store_now.held now c.live c.snapshot d.sweep → NewAreLive later c.live c.snapshot store_now.held → IsSafe later store_now parts now d
      safe_on holds_now new_live =
          let live : d.live ≡ c.live = ap (λ (x : Collection). x.live) on in
          let snapshot : d.snapshot ≡ c.snapshot = ap (λ (x : Collection). x.snapshot) on in
          let stage : d.stage ≡ Sweep = ap (λ (x : Collection). x.stage) on ∙ stage_is in
          sweep_safe later store_now parts now d (λ level other is. let wrong = sym stage ∙ is in cc) (record {
            roots_are_live = λ key root. subst (λ (l : LiveKeys). IsLive later l key) (sym live)
                (left.stays key (safe.roots_are_live key (subst (λ (n : NameMap). IsRoot n parts key) names root)));
            live_is_closed = closed;
            sweep_holds = swept later store_now now left.represents.slots_hold stage
                (subst (λ (l : LiveKeys). HoldsSweep later store_now.held now l d.snapshot d.sweep) (sym live)
                (subst (λ (n : ℕ). HoldsSweep later store_now.held now c.live n d.sweep) (sym snapshot) holds_now));
            new_are_live = subst (λ (l : LiveKeys). NewAreLive later l d.snapshot store_now.held) (sym live)
                (subst (λ (n : ℕ). NewAreLive later c.live n store_now.held) (sym snapshot) new_live);
          })

      needed_live : (key : List ℕ) → IsNeeded store parts image key → IsLive index c.live key
      needed_live key needed = needed_has index store files parts image holds (IsLive index c.live) safe.roots_are_live safe.live_is_closed key needed

      pub left_safe : known ≡ Some later → IsStoreAfter c.stage c.sweep.next c.snapshot c.sweep index store store_now image → IsSafe later store_now parts now d
          → LeavesSafe c index store files parts image now among u known new d
      left_safe known_is store_is safe_now = record {
        later = later;
        known_is = known_is;
        store_now = store_now;
        store_is = store_is;
        represents = left.represents;
        valid = left.valid;
        stands = left.stands;
        core = left.core;
        safe = safe_now;
        spares = λ key needed.
            let live = needed_live key needed in
            let then = left.stays key live in ((then.0, then.1.0), λ level bytes has. left.copies key level bytes live has);
        lives = λ key is. subst (λ (l : LiveKeys). IsLive later l key) (sym (ap (λ (x : Collection). x.live) on)) (left.stays key is);
      }

    -- live entries stay so
    new_still : (later : PlaceMap) → ((key : List ℕ) → IsLive index c.live key → IsLive later c.live key) → NewAreLive later c.live c.snapshot store.held
    new_still later stays slot h there above k other within = stays (entry_key h.kind (get_or h.entries k other)) (safe.new_are_live slot h there above k other within)

    -- A source is copied.
    copy_leaves_safe : (source entry : ℕ) → c.sweep.next ≡ CopyNext source entry → CopiesSource (copy_step t.held c.live (Some index) source entry c.sweep) known old new d.sweep
        → d ≡ record c { sweep = d.sweep } → u ≡ t
        → Changes (slot_at store.slots) Done old new → LeavesSafe c index store files parts image now among u known new d
    copy_leaves_safe source entry next_is copies on same changes =
        let keeps : Newest = changed_keeps store files image now old new among content content_now stands Done changes in
        let held = leaves_on_disk index store.held image now c.live c.snapshot known d.sweep keeps
        (holds_copied t.held index store.held image c.live c.snapshot source entry c.sweep d.sweep known old new represents.slots_hold valid.different holds.right.slots_are
        partial content sweeping next_is was_held.1 copies) in
        let left : Left held.later store =
        copy_leaves index store files parts image now among t u old new c.live core represents valid content content_now stands held.later same changes.later.size_is
        (changed_stands store files image now old new among content content_now stands Done changes) keeps held.stay held.were
        (λ key needed. reachable_has index store files parts image holds (IsLive index c.live) safe.roots_are_live safe.live_is_closed key needed)
        (parts_have index store files parts image holds (IsLive index c.live) safe.roots_are_live safe.live_is_closed few core.pins_are_closed) in
        left_safe held.later store left on refl held.known_is (at_stage_next After Sweep (CopyNext source entry) stage_is next_is refl)
        (safe_on held.later store left on refl held.sweep_holds (new_still held.later left.stays))

    -- What was copied is written.
    module _ (source entry : ℕ) (next_is : c.sweep.next ≡ Flush source entry) (flushes : Flushes source entry (moment t (Some index) old c) (moment u known new d))
        (goes : IsLater old new)
        (moves : SealsIndexed t (t.held.last_id + 1) c.sweep.buffer Done old new) where
      abbrev filled : Contents
      filled = c.sweep.buffer

      abbrev id : ℕ
      id = t.held.last_id + 1

      abbrev slot : ℕ
      slot = flushes.slot

      abbrev written : Store
      written = with_sealed id filled.kind filled.segments store

      abbrev more : PlaceMap
      more = with_entries filled.kind slot (entries_from 0 filled.segments) index

      can : CanFlush id filled.kind filled.segments store
      can = flushes.writes.written.can.store_has store represents valid core.has_free

      first : slot ≡ first_free store.held
      first = ((flushes.writes.has_slot.slot_is old.size (Some index)).store_has store represents valid core.has_free).first

      known_is : known ≡ Some more
      known_is = flushes.places image content index refl

      holds_now : HoldsSweep more written.held now c.live c.snapshot d.sweep
      holds_now =
          subst (λ (n : ℕ). HoldsSweep (with_entries filled.kind n (entries_from 0 filled.segments) index) written.held now c.live c.snapshot d.sweep) (sym first)
          (holds_flushed t.held index store.held image now c.live c.snapshot source entry id c.sweep d.sweep represents.slots_hold sweeping next_is flushes.flushed can.right
          under.began core.has_free was_held.1)

      after : Represents written (Some more) u
      after = flushes.writes.written.represents.store_has store represents valid core.has_free

      sweeping_now : IsSweeping u.held c.snapshot d.sweep
      sweeping_now =
          subst (λ (n : ℕ). IsSweeping u.held n d.sweep) (ap (λ (x : Collection). x.snapshot) flushes.sweeps)
          (at_stage u.held d Sweep under_now (ap (λ (x : Collection). x.stage) flushes.sweeps ∙ stage_is))

      in_index : (key : List ℕ) → HasKey more key → HasKey index key
      in_index key has = by_found (entry_of filled.kind (entries_from 0 filled.segments) key) refl
        where
          by_found : (found : Option Entry) → entry_of filled.kind (entries_from 0 filled.segments) key ≡ found → HasKey index key
          by_found None none = (has.0, sym (put_none filled.kind slot (entries_from 0 filled.segments) index key none) ∙ has.1)
          by_found (Some e) found =
              let live = live_keys index c.live store.held image filled.kind filled.segments was_held.1.copied key (key_found filled.kind 0 filled.segments key e found) in
              (live.0, live.1.0)

      headers : AreHeaders written.held
      headers = (valid_sealed id filled.kind filled.segments store can old.size valid).headers

      reserve : HasReserve (HasKey more) written.held
      reserve =
          has_reserve u.held more written.held now c.live c.snapshot d.sweep after.slots_hold headers sweeping_now (after.index_is_newest more refl) holds_now

      free : HasFree written.held
      free = one_free u.held more written.held now c.live c.snapshot d.sweep after.slots_hold headers sweeping_now

      left : Left more written
      left =
          flush_leaves index store files parts image now among t u old new c.live core represents valid content content_now stands slot filled flushes.writes goes moves
          (may_flush index store.held image c.live c.snapshot c.sweep was_held.1 (IsIn among) holds.nodes here.among)
          (inr (inr (are_newest index store.held image c.live c.snapshot c.sweep was_held.1))) in_index reserve free

      new_live : NewAreLive more c.live c.snapshot written.held
      new_live other h there above = by_slot (with_there (first_free store.held) (header_of id filled.kind filled.segments) store.held other h there)
        where
          each : All (λ e. IsLive more c.live (entry_key filled.kind e)) (entries_from 0 filled.segments)
          each k d within =
              left.stays (entry_key filled.kind (get_or (entries_from 0 filled.segments) k d))
              (live_keys index c.live store.held image filled.kind filled.segments was_held.1.copied (entry_key filled.kind (get_or (entries_from 0 filled.segments) k d))
              (entries_sealed filled.kind 0 filled.segments k d within))

          by_slot : (slice_get store.held other ≡ Some (Some h)) ⊎ (header_of id filled.kind filled.segments ≡ h) → All (λ e. IsLive more c.live (entry_key h.kind e)) h.entries
          by_slot (inl was) = new_still more left.stays other h was above
          by_slot (inr same) = subst (λ (g : HeaderValue). All (λ e. IsLive more c.live (entry_key g.kind e)) g.entries) same each

      flush_leaves_safe : LeavesSafe c index store files parts image now among u known new d
      flush_leaves_safe =
          left_safe more written left flushes.sweeps refl known_is
          (at_stage_next (λ s n. IsStoreAfter s n c.snapshot c.sweep index store written image) Sweep (Flush source entry) stage_is next_is
          (record { id = id; new = omega (arith, under.began); can = can; newest = are_newest index store.held image c.live c.snapshot c.sweep was_held.1; now_is = refl }))
          (safe_on more written left flushes.sweeps refl holds_now new_live)

    -- The sources that are ready are given back.
    sources_at : (before : ℕ) → before ≤ length c.sweep.sources.items → (slots : List ℕ)
        → AllByRecursion (IsSourceIn store.held c.snapshot c.sweep.sources.items before) slots → AllByRecursion (IsSourceAt store.held c.sweep.sources.items) slots
    sources_at before few [] all = tt
    sources_at before few (slot ∷ slots) all = (
      record { header = all.0.header; there = all.0.there; number = all.0.number; within = omega (arith, all.0.below, few); id_is = all.0.id_is },
      sources_at before few slots all.1,
    )

    release_leaves_safe : (source entry : ℕ) → c.sweep.next ≡ Release source entry → HasFreed t c.sweep.ready.items u → HasReleased u.held source entry c.sweep d.sweep
        → d ≡ record c { sweep = d.sweep }
        → known ≡ Some index → IsLater old new → GivesBack t c.sweep.ready.items Done old new → LeavesSafe c index store files parts image now among u known new d
    release_leaves_safe source entry next_is freed released on known_is goes gives =
        let slots : List ℕ = c.sweep.ready.items in
        let turn = in_turn t.held index store.held image c.live c.snapshot source entry c.sweep represents.slots_hold sweeping next_is was_held.1 in
        let fewer : Store = with_all_freed slots store in
        let left : Left index fewer =
        release_leaves index store files parts image now among t u old new c.live core represents valid content content_now stands slots turn.none freed goes gives in
        left_safe index fewer left on (ap names_of (same_but_held slots store)) known_is
        (at_stage_next (λ s n. IsStoreAfter s n c.snapshot c.sweep index store fewer image) Sweep (Release source entry) stage_is next_is
        (record {
          stand = sources_at (sources_before c.sweep c.sweep.next) sweeping.before slots turn.stand;
          apart = turn.apart;
          none = turn.none;
          now_is = refl;
        }))
        (safe_on index fewer left on (ap names_of (same_but_held slots store))
        (holds_released t.held u.held index store image now c.live c.snapshot source entry c.sweep d.sweep represents.slots_hold sweeping next_is released was_held.1
        (λ key level bytes has. gives.holds among store index files image now represents core.files_are_indexed turn.none content content_now here key level bytes has))
        (λ other h there above. safe.new_are_live other h (not_freed slots store other h there).1 above))

  -- ---- whatever the stage

  by_stage : (stage : Stage) (next : Next) → IsSafeAt stage index store parts image c → StepsTo stage next (moment t (Some index) old c) (moment u known new d)
      → TablesAfter stage next (moment t (Some index) old c) (moment u known new d) → Touches stage next c.sweep t Done old new → IsLater old new → Leaves stage next
  by_stage (Mark level slot) next safe steps same touches goes is next_is = mark_leaves level slot next safe steps.0 steps.1 same touches.only is next_is
  by_stage (Filter slot) next safe steps same touches goes is next_is = filter_leaves slot next safe steps.0 steps.1 same touches.only is next_is
  by_stage Select next safe steps same touches goes is next_is = select_leaves next safe steps.0 steps.1 same touches.only is next_is
  by_stage Sweep (CopyNext source entry) safe steps same touches goes is next_is = copy_leaves_safe safe is source entry next_is steps.0 steps.1 same
      (touches store.slots valid.size_is)
  by_stage Sweep (Flush source entry) safe steps tables touches goes is next_is = flush_leaves_safe safe is source entry next_is steps goes touches.1
  by_stage Sweep (Release source entry) safe steps freed touches goes is next_is = release_leaves_safe safe is source entry next_is freed steps.0 steps.1
      (steps.3 image content) goes touches.1
  by_stage Sweep End safe steps same touches goes is next_is =
      end_leaves (subst (λ (s : Stage). IsSafeAt s index store parts image c) (sym is) safe) steps.0 steps.1 same touches.only is next_is

  pub step_safe : IsSafe index store parts image c → StepsTo c.stage c.sweep.next (moment t (Some index) old c) (moment u known new d)
      → TablesAfter c.stage c.sweep.next (moment t (Some index) old c) (moment u known new d) → Touches c.stage c.sweep.next c.sweep t Done old new → IsLater old new
      → LeavesSafe c index store files parts image now among u known new d
  step_safe safe steps tables touches goes = by_stage c.stage c.sweep.next safe steps tables touches goes refl refl
