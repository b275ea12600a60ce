-- Which keys a collection has found until it sweeps, whatever steps others made meanwhile.
use Rattle.store_core.proofs.Prelude.{◌≡◌, ◌⊎◌, inl, inr, ℕ, suc, ◌<◌, ◌≤◌, Bool, true, false, List, [], ◌∷◌, ◌++◌, length, map, Option, Some, None, Result, Ok, Err, refl, sym, ◌∙◌, ap, subst, arith, nat_le, nat_lt, ltb-true, ACTORS, Part, Writing, Answer, PinMap, AreStepSegments, IsStepSegment, pin_of, IsStep, StepValue, Kind, PlaceMap, KindSegment, Segment, segment_key, HeaderValue, IsHeader, IsLater, Change, Root, Delete, Put, LiveKeys, NameMap, Refusal, IsValidFor, Store, last_sequence, names_of, AreHeaders, DifferentIds, HasFree, HasKey, IsPartialIndexOf, with_change, last_within, Represents, SlotTable, Tables, Collection, Stage, Filter, Mark, Select, HasMarkedAll, HeadersAreApart, Keeps, StepsTo, KeepsMarks, Scans, IsPartKey, IsRoot, Marks, RootKeys, roots_of, AreFound, HasRoom, HasStage, IsUnderWay, is_old_slot, one_more, id_there, contains_first, contains_none, marks_none, Stop, starts, Collects, GcEffect, GcRow, IsKeptKey, MarksIn, StartRow, at_moment, ClaimRow, CommitRow, DeleteRow, Effect, KeepsTables, NamesOne, Rests, Row, SealRow, SealsSome, Steps, StopsAfter, next_id, IsNoSweep, CoreRun, CoreState, Event, IsRunning, IsUnderWayIn, IsUp, UnlessStopped}
use Rattle.std.proofs.Common.{◌&&◌, not}
use Rattle.std.specs.Prelude.{◌==◌, get_or, slice_get}
use Rattle.std.specs.FinMap as finite
use Rattle.std.specs.List.{Contains}
use Rattle.std.proofs.lemmas.Bool.{leb-true}
use Rattle.std.proofs.lemmas.List.Elements.{Contains-append_cases}
use Rattle.actor_parts.specs.declared.step.Answer.TheVariants as answers
use Rattle.actor_parts.specs.Parts.{part_of}
use Rattle.actor_parts.specs.Segments.{children_by, children_of, first_not_in}
use Rattle.actor_parts.specs.StepValue as asked
use Rattle.std.specs.List.{All}
use Rattle.std.specs.Prelude.{take, zero}
use Rattle.actor_parts.specs.Offers.{AreStepContents}
use Rattle.container_meta.specs.Segments.{Contents, keys_of}
use Rattle.store_core.specs.Collecting.{keys_in}
use Rattle.ingest_steps.specs.Claiming.{MayClaim}
use Rattle.ingest_steps.specs.Offering.{MayKeepAll, first_unpinned_in, with_pins_of}
use Rattle.ingest_steps.specs.Pinning.{first_unpinned_of, or_else}
use Rattle.ingest_steps.proofs.Pinned.{all_pinned}
use Rattle.namespace.specs.Names.{names_changed}
use Rattle.refusals.specs.declared.refusal.Refusal.TheVariants as refusals
use Rattle.store_model.specs.Indexing.{entry_key}
use Rattle.store_model.specs.Slots.{IsUnusedId, ids_of}
use Rattle.store_model.proofs.Free.{as_many}
use Rattle.store_model.proofs.NameChanges.{names_after_change}
use Rattle.gc_steps.specs.declared.collection.Stage.TheVariants.{Sweep}
use Rattle.gc_steps.specs.Finding.{FindsTrees, HasChildren, IsDataKey}
use Rattle.gc_steps.specs.Stages.{is_tree, is_tree_slot}
use Rattle.gc_steps.proofs.ClaimedPin.{one_or_other}
use Rattle.gc_steps.proofs.FoundMeanwhile.{FindsSoFar, Gains, begins, found_trees, gain_finds, marked_on, pinned_node, refusal_finds, scan_finds}
use Rattle.gc_steps.proofs.RootsAfter.{committed_root, deleted_root, part_root}
use Rattle.gc_steps.proofs.SealedPins.{Comes}
use Rattle.store_core.specs.Collecting.{Begins}
use Rattle.store_core.specs.Core.{ChangesTo, Makes, changed_by, seals_from}
use Rattle.store_core.specs.Finding.{FindsKeysMeanwhile, RunBeforeSweep}
use Rattle.store_core.proofs.CoreRuns.{running_step, runs_before, was_running}
use Rattle.store_core.proofs.BeforeSweep.{HasGoneOn, HasNotGoneOn, gc_goes, has_not_scanned, has_scanned}
use Rattle.store_core.proofs.Rooms.{free_held}
use Rattle.store_core.proofs.RootsKept.{abort_none, begin_none, end_none, list_none, none_same, open_none, read_none, stat_none, unique_none, within_parts}
use Rattle.store_core.proofs.RunningOn.{seal_kept, step_runs}
use Rattle.store_core.proofs.SafeSteps.{stored_pin}
use Rattle.store_core.proofs.ManySealed.{all_taken, comes_all, has_keys, none_sealed, pins_all}
use Rattle.store_core.proofs.AtStore.{same_some}

first_true : (a b : Bool) → a && b ≡ true → a ≡ true
first_true true b e = refl
first_true false b e = absurd cc

second_true : (a b : Bool) → a && b ≡ true → b ≡ true
second_true true b e = e
second_true false b e = absurd cc

head_is : (a b : ℕ) (xs ys : List ℕ) → a ∷ xs ≡ b ∷ ys → a ≡ b
head_is a b xs ys same = cc

tail_is : (a b : ℕ) (xs ys : List ℕ) → a ∷ xs ≡ b ∷ ys → xs ≡ ys
tail_is a b xs ys same = cc

-- ---- a segment that is sealed, by its key

both_none : (a b : Option (List ℕ)) → or_else a b ≡ None → (a ≡ None) × (b ≡ None)
both_none None b is = (refl, is)
both_none (Some k) b is = absurd cc

-- its children are pinned, so it is one of data, or a node whose children have Q
sealed_node : (Q : List ℕ → Type 0) (pins : PinMap) → ((key : List ℕ) → IsPartKey (Writing pins) key → Q key) → (kind : Kind) (segments : List Segment)
    → AreStepSegments kind segments
    → first_unpinned_of kind segments pins ≡ None → (key : List ℕ) → Contains (map (segment_key kind) segments) key → IsDataKey key ⊎ HasChildren Q key
sealed_node Q pins has kind [] right none key among = absurd (contains_none key among)
sealed_node Q pins has kind (x ∷ xs) right none key among =
    by_place (both_none (first_not_in pins (children_by kind x)) (first_unpinned_of kind xs pins) none) (contains_first (segment_key kind x) key (map (segment_key kind) xs) among)
    (λ rest later. sealed_node Q pins has kind xs right.1 rest key later)
  where
    by_place : (first_not_in pins (children_by kind x) ≡ None) × (first_unpinned_of kind xs pins ≡ None) → (key ≡ segment_key kind x) ⊎ Contains (map (segment_key kind) xs) key
        → (first_unpinned_of kind xs pins ≡ None → Contains (map (segment_key kind) xs) key → IsDataKey key ⊎ HasChildren Q key) → IsDataKey key ⊎ HasChildren Q key
    by_place nones (inl same) others =
        subst (λ (k : List ℕ). IsDataKey k ⊎ HasChildren Q k) (sym same) (pinned_node Q pins has kind x right.0 (all_pinned pins (children_by kind x) nones.0))
    by_place nones (inr later) others = others nones.1 later

-- so are those of each of some containers
sealed_nodes : (Q : List ℕ → Type 0) (pins : PinMap) → ((key : List ℕ) → IsPartKey (Writing pins) key → Q key) → (cs : List Contents) → AreStepContents cs
    → first_unpinned_in cs pins ≡ None → (key : List ℕ) → Contains (keys_in cs) key → IsDataKey key ⊎ HasChildren Q key
sealed_nodes Q pins has [] right none key among = absurd (contains_none key among)
sealed_nodes Q pins has (c ∷ cs) right none key among =
    let nones = both_none (first_unpinned_of c.kind c.segments pins) (first_unpinned_in cs pins) none in
    elim (Contains-append_cases (keys_of c) (keys_in cs) key among) [
      | inl here ↦ sealed_node Q pins has c.kind c.segments right.0 nones.0 key here
      | inr later ↦ sealed_nodes Q pins has cs right.1 nones.1 key later
    ]

-- of the first ones, too
unpinned_taken : (n : ℕ) (cs : List Contents) (pins : PinMap) → first_unpinned_in cs pins ≡ None → first_unpinned_in (take n cs) pins ≡ None
unpinned_taken zero cs pins none = refl
unpinned_taken (suc n) [] pins none = refl
unpinned_taken (suc n) (c ∷ cs) pins none =
    let nones = both_none (first_unpinned_of c.kind c.segments pins) (first_unpinned_in cs pins) none in
    ap (λ (o : Option (List ℕ)). or_else o (first_unpinned_in (take n cs) pins)) nones.0 ∙ unpinned_taken n cs pins nones.1

-- ---- what is so until it sweeps

-- two slots are free until then
room_before : (t : SlotTable) (c : Collection) (stage : Stage) → IsNoSweep stage → HasStage t c stage → HasRoom t
room_before t c (Mark level slot) early has = has.4
room_before t c (Filter slot) early has = has.2
room_before t c Select early has = has.1
room_before t c Sweep early has = absurd early

module _ (first : List (Option HeaderValue)) (roots : RootKeys) where
  record IsFinding (now : CoreState) : Type 0 where
    c : Collection
    runs : now.collection ≡ Some c
    store : Store
    index : PlaceMap
    known_is : now.known ≡ Some index
    represents : Represents store now.known now.tables
    valid : IsValidFor now.disk.size store
    finds : FindsSoFar first store.held index c now.tables.names now.parts roots

  module _ (old new : CoreState) (m : IsFinding old) (early : IsNoSweep m.c.stage) (up : IsUp old) where
    partial : IsPartialIndexOf m.store.held m.index
    partial = m.represents.index_is_newest m.index m.known_is

    under_way : IsUnderWay old.tables.held m.c
    under_way = subst (IsUnderWayIn old.tables.held) m.runs up.under_way

    names_are : old.tables.names ≡ names_of m.store
    names_are = m.represents.names_are.names_are

    -- what holds then, by the store as it is
    abbrev Gaining : (List ℕ → Type 0) → Store → PlaceMap → LiveKeys → Type 1
    Gaining P store later live = Gains m.index m.store m.valid.headers partial P store.held later m.c live old.tables.names new.tables.names old.parts new.parts

    goes_on : (P : List ℕ → Type 0) (store : Store) (later : PlaceMap) (live : LiveKeys) → new.collection ≡ Some (record m.c { live = live }) → new.known ≡ Some later
        → Represents store new.known new.tables
        → IsValidFor new.disk.size store → Gaining P store later live → IsFinding new
    goes_on P store later live runs known represents valid gains = record {
      c = record m.c { live = live };
      runs = runs;
      store = store;
      index = later;
      known_is = known;
      represents = represents;
      valid = valid;
      finds = gain_finds m.index m.store m.valid.headers partial P first store.held later m.c live old.tables.names new.tables.names old.parts new.parts roots gains m.finds;
    }

    -- ---- a step that leaves tables and index as they were

    rests_on : (P : List ℕ → Type 0) (live : LiveKeys) → new.collection ≡ Some (record m.c { live = live }) → IsLater old.disk new.disk → KeepsTables old new
        → Gaining P m.store m.index live → IsFinding new
    rests_on P live runs later keeps gains =
        goes_on P m.store m.index live runs (keeps.index_is ∙ m.known_is)
        (subst (λ (known : Option PlaceMap). Represents m.store known new.tables) (sym keeps.index_is) (subst (Represents m.store old.known) (sym keeps.tables_are) m.represents))
        (subst (λ (size : ℕ). IsValidFor size m.store) (sym later.size_is) m.valid) gains

    none_gained : (store : Store) (live : LiveKeys) → store.held ≡ m.store.held → Marks (λ key. ⊥) m.c.live live
        → ((key : List ℕ) → IsRoot new.tables.names new.parts key → IsRoot old.tables.names old.parts key)
        → Gaining (λ key. ⊥) store m.index live
    none_gained store live held marks fewer = record {
      marks = marks;
      decided = λ key. inr (λ none. none);
      has_still = λ key has. has;
      others_stay = λ key other. refl;
      has = λ key none. absurd none;
      stands = λ at h there. ap (λ (l : List (Option HeaderValue)). slice_get l at) held ∙ there;
      came = λ at h there. inl (ap (λ (l : List (Option HeaderValue)). slice_get l at) (sym held) ∙ there);
      roots_are = λ key root. inl (fewer key root);
      nodes = λ Q roots_have key none. absurd none;
    }

    unmarked : Marks (λ key. ⊥) m.c.live m.c.live
    unmarked = marks_none (λ key. ⊥) m.c.live (λ key none. none)

    -- it brings no root
    still : KeepsTables old new → ((key : List ℕ) → IsRoot old.tables.names new.parts key → IsRoot old.tables.names old.parts key) → (key : List ℕ)
        → IsRoot new.tables.names new.parts key → IsRoot old.tables.names old.parts key
    still keeps fewer key root = fewer key (subst (λ (t : Tables). IsRoot t.names new.parts key) keeps.tables_are root)

    none_brought : new.collection ≡ old.collection → IsLater old.disk new.disk → KeepsTables old new
        → ((key : List ℕ) → IsRoot old.tables.names new.parts key → IsRoot old.tables.names old.parts key) → IsFinding new
    none_brought collects later keeps fewer = rests_on (λ key. ⊥) m.c.live (collects ∙ m.runs) later keeps (none_gained m.store m.c.live refl unmarked (still keeps fewer))

    part_rests : (answer : Result Answer Refusal) → new.collection ≡ old.collection → Rests answer old new
        → ((key : List ℕ) → IsRoot old.tables.names new.parts key → IsRoot old.tables.names old.parts key) → IsFinding new
    part_rests answer collects effect fewer = none_brought collects effect.disk.only.later effect.tables fewer

    -- which keys became live, where a collection runs
    marked_in : (P : List ℕ → Type 0) → MarksIn P old.collection new.collection → (live : LiveKeys) × ((new.collection ≡ Some (record m.c { live = live })) × Marks P m.c.live live)
    marked_in P marks = subst (λ (o : Option Collection). MarksIn P o new.collection) m.runs marks

    module _ (actor : ℕ) (buf : List ℕ) where
      same_parts : new.parts ≡ old.parts → (key : List ℕ) → IsRoot old.tables.names new.parts key → IsRoot old.tables.names old.parts key
      same_parts = none_same old.tables.names old new actor buf refl up.many

      -- ---- a claim

      below : (pins : PinMap) → part_of old.parts actor ≡ Writing pins → actor < ACTORS
      below pins writing =
          let within = within_parts old.parts actor (λ idle. (let wrong = sym writing ∙ idle in cc)) in
          omega (arith, within, up.many)

      -- a pin is a root
      pin_root : (pins : PinMap) → part_of old.parts actor ≡ Writing pins → (key : List ℕ) → IsPartKey (Writing pins) key → IsRoot old.tables.names old.parts key
      pin_root pins writing key pinned = inr (actor, (below pins writing, subst (λ (p : Part). IsPartKey p key) (sym writing) pinned))

      none_claimed : (seg : KindSegment) (answer : Result Answer Refusal) → new.parts ≡ old.parts → Rests answer old new → MarksIn (λ key. ⊥) old.collection new.collection
          → IsFinding new
      none_claimed seg answer parts effect marks =
          let is = marked_in (λ key. ⊥) marks in
          rests_on (λ key. ⊥) is.0 is.1.0 effect.disk.only.later effect.tables (none_gained m.store is.0 refl is.1.1 (still effect.tables (same_parts parts)))

      claimed : (seg : KindSegment) (answer : Result Answer Refusal) → IsStepSegment seg → ClaimRow seg actor answer old new → Rests answer old new
          → Collects (asked.Claim seg) answer old new → IsFinding new
      claimed seg (Ok answers.Held) right row effect collects = rests_on P marks.0 marks.1.0 effect.disk.only.later effect.tables (record {
        marks = marks.1.1;
        decided = one_or_other segment;
        has_still = λ key has. has;
        others_stay = λ key other. refl;
        has = λ key same. subst (HasKey m.index) (sym same) (row.claimed.looked_up.place, row.claimed.looked_up.found m.index m.known_is);
        stands = λ at h there. there;
        came = λ at h there. inl there;
        roots_are = λ key root. by_root key (part_root old.tables.names old.parts actor (Writing more) key
            (subst (λ (p : List Part). IsRoot old.tables.names p key) row.claimed.parts_are (subst (λ (t : Tables). IsRoot t.names new.parts key) effect.tables.tables_are root)));
        nodes = λ Q have key same. subst (λ (k : List ℕ). IsDataKey k ⊎ HasChildren Q k) (sym same)
            (pinned_node Q may.pins (λ k pinned. have k (pin_root may.pins may.writing k pinned)) seg.kind seg.segment right (all_pinned may.pins (children_of seg) may.pinned));
      })
        where
          may : MayClaim (part_of old.parts actor) seg
          may = row.claimed.may

          segment : List ℕ
          segment = segment_key seg.kind seg.segment

          P : List ℕ → Type 0
          P = IsKeptKey (asked.Claim seg) (Ok answers.Held)

          more : PinMap
          more = finite.insert may.pins segment (pin_of seg)

          marks : (live : LiveKeys) × ((new.collection ≡ Some (record m.c { live = live })) × Marks P m.c.live live)
          marks = marked_in P collects

          by_root : (key : List ℕ) → IsRoot old.tables.names old.parts key ⊎ IsPartKey (Writing more) key → IsRoot old.tables.names old.parts key ⊎ (key ≡ segment)
          by_root key (inl before) = inl before
          by_root key (inr pinned) = elim
              ((one_more may.pins segment (pin_of seg) key).0 pinned) [ inl before ↦ inl (pin_root may.pins may.writing key before) | inr same ↦ inr same ]
      claimed seg (Ok answers.Absent) right row effect collects = none_claimed seg (Ok answers.Absent) row.claimed.parts_are effect collects
      claimed seg (Err refusal) right row effect collects = none_claimed seg (Err refusal) row.1 effect collects
      claimed seg answer right row effect collects = absurd row

      -- ---- a seal

      free : HasFree m.store.held
      free = omega (arith, room_before old.tables.held m.c m.c.stage early under_way.stage_is, free_held m.store.held old.tables.held m.represents.slots_hold m.valid.headers)

      sealed : (offered : List Contents) (id count : ℕ) → AreStepContents offered → SealRow offered actor (Ok (answers.Sealed id count)) old new
          → SealsSome offered (Ok (answers.Sealed id count)) old new
          → Collects (asked.Seal offered) (Ok (answers.Sealed id count)) old new → IsFinding new
      sealed offered id count right row effect collects =
          goes_on P t later.0 marks.0 marks.1.0 later.1 represents (made.valid.store_has m.store m.represents m.valid free) (record {
            marks = marks.1.1;
            decided = comes.decided;
            has_still = made.keeps_keys m.index m.known_is later.0 later.1;
            others_stay = λ key none. made.keeps_others m.index m.known_is later.0 later.1 key (none_sealed (next_id old) cs key none);
            has = has_keys later.0 (next_id old) cs (made.adds_keys m.index m.known_is later.0 later.1);
            stands = comes.stand;
            came = λ at h there. by_slot at h (comes.came at h there);
            roots_are = λ key root. by_root key (part_root old.tables.names old.parts actor (Writing more) key
                (subst (λ (p : List Part). IsRoot old.tables.names p key) row.parts_are
                (subst (λ (n : NameMap). IsRoot n new.parts key) (represents.names_are.names_are ∙ names_same ∙ sym names_are) root)));
            nodes = λ Q have. sealed_nodes Q may.pins (λ k pinned. have k (pin_root may.pins may.writing k pinned)) cs
                (all_taken (λ c. AreStepSegments c.kind c.segments) count offered right) (unpinned_taken count offered may.pins may.pinned);
          })
        where
          cs : List Contents
          cs = take count offered

          made : Makes (seals_from (next_id old) cs) old new
          made = effect.made

          may : MayKeepAll (part_of old.parts actor) offered
          may = row.may

          t : Store
          t = changed_by (seals_from (next_id old) cs) m.store

          lead : ChangesTo (seals_from (next_id old) cs) m.store t
          lead = made.can.store_has m.store m.represents m.valid free

          P : List ℕ → Type 0
          P = Contains (keys_in cs)

          comes : Comes P (next_id old) m.store t
          comes = comes_all (next_id old) cs m.store t lead

          represents : Represents t new.known new.tables
          represents = made.represents.store_has m.store m.represents m.valid free

          names_same : names_of t ≡ names_of m.store
          names_same = comes.names_stay

          later : (places : PlaceMap) × (new.known ≡ Some places)
          later = made.tells m.index m.known_is

          more : PinMap
          more = with_pins_of cs may.pins

          marks : (live : LiveKeys) × ((new.collection ≡ Some (record m.c { live = live })) × Marks P m.c.live live)
          marks = marked_in P collects

          by_slot : (at : ℕ) (h : HeaderValue) → (slice_get m.store.held at ≡ Some (Some h)) ⊎ ((next_id old ≤ h.id) × All (λ e. P (entry_key h.kind e)) h.entries)
              → (slice_get m.store.held at ≡ Some (Some h)) ⊎ (m.c.snapshot ≤ h.id)
          by_slot at h (inl there) = inl there
          by_slot at h (inr is) = inr (omega (arith, under_way.began, is.0))

          by_root : (key : List ℕ) → IsRoot old.tables.names old.parts key ⊎ IsPartKey (Writing more) key → IsRoot old.tables.names old.parts key ⊎ P key
          by_root key (inl before) = inl before
          by_root key (inr pinned) = elim
              ((pins_all cs may.pins key).0 pinned) [ inl before ↦ inl (pin_root may.pins may.writing key before) | inr among ↦ inr among ]

      -- one that is refused stops the core, or leaves tables and index as they were
      unsealed : (offered : List Contents) (refusal : Refusal) → SealRow offered actor (Err refusal) old new → SealsSome offered (Err refusal) old new
          → Collects (asked.Seal offered) (Err refusal) old new
          → StopsAfter (asked.Seal offered) (Err refusal) old.acknowledged new.stop → new.stop ≡ None → IsFinding new
      unsealed offered refusal row effect collects stops stays =
          let keeps = seal_kept old new stays offered refusal old.acknowledged stops effect.kept in
          let is = marked_in (λ key. ⊥) collects in
          rests_on (λ key. ⊥) is.0 is.1.0 effect.disk.later keeps (none_gained m.store is.0 refl is.1.1 (still keeps (same_parts row.1)))

      -- ---- a name

      named : (name : List ℕ) (change : Change) (answer : Answer) → NamesOne name change (Ok answer) old new → new.collection ≡ old.collection
          → ((key : List ℕ) → IsRoot (names_changed (suc (last_sequence m.store)) name change old.tables.names) new.parts key → IsRoot old.tables.names old.parts key)
          → IsFinding new
      named name change answer effect collects fewer =
          let t : Store = with_change name change m.store in
          let represents = effect.made.represents.store_has m.store m.represents m.valid free in
          let names : new.tables.names ≡ names_changed (suc (last_sequence m.store)) name change old.tables.names =
          represents.names_are.names_are ∙ names_after_change name change m.store m.valid.follow ∙ ap (names_changed (suc (last_sequence m.store)) name change) (sym names_are) in
          goes_on (λ key. ⊥) t m.index m.c.live (collects ∙ m.runs) (effect.index ∙ m.known_is) represents (effect.made.valid.store_has m.store m.represents m.valid free)
          (none_gained t m.c.live refl unmarked (λ key root. fewer key (subst (λ (n : NameMap). IsRoot n new.parts key) names root)))

      committed : (name : List ℕ) (root : Root) (answer : Result Answer Refusal) → CommitRow name root actor answer old new → NamesOne name (Put root) answer old new
          → new.collection ≡ old.collection → IsFinding new
      committed name root (Ok (answers.Committed sequence)) row effect collects =
          let may = row.0 in
          named name (Put root) (answers.Committed sequence) effect collects (λ key is.
          committed_root (suc (last_sequence m.store)) name root old.tables.names old.parts actor may.pins (below may.pins may.writing) may.writing
          (stored_pin may.pins root may.stored) key
          (subst (λ (p : List Part). IsRoot (names_changed (suc (last_sequence m.store)) name (Put root) old.tables.names) p key) row.2 is))
      committed name root (Err refusal) row effect collects = none_brought collects effect.disk.later effect.kept (same_parts row.1)
      committed name root answer row effect collects = absurd row

      deleted : (name : List ℕ) (answer : Result Answer Refusal) → DeleteRow name answer old new → NamesOne name Delete answer old new → new.collection ≡ old.collection
          → IsFinding new
      deleted name (Ok (answers.Deleted sequence)) row effect collects =
          named name Delete (answers.Deleted sequence) effect collects (λ key is.
          deleted_root (suc (last_sequence m.store)) name old.tables.names old.parts key
          (subst (λ (p : List Part). IsRoot (names_changed (suc (last_sequence m.store)) name Delete old.tables.names) p key) row.2 is))
      deleted name (Err refusal) row effect collects = none_brought collects effect.disk.later effect.kept (same_parts row.1)
      deleted name answer row effect collects = absurd row

      -- ---- another collection does not begin

      not_begun : (percent : ℕ) (answer : Result Answer Refusal) → StartRow percent answer old new → Rests answer old new → IsFinding new
      not_begun percent (Ok (answers.Started snapshot)) row effect = absurd (let wrong : None ≡ Some m.c = sym row.0.none_ran ∙ m.runs in cc)
      not_begun percent (Err (refusals.Collecting phase)) row effect = part_rests (Err (refusals.Collecting phase)) row.1 effect (same_parts row.2)
      not_begun percent (Err refusal) row effect = absurd (let wrong : None ≡ Some m.c = sym row.none_ran ∙ m.runs in cc)
      not_begun percent answer row effect = absurd row

      -- ---- its own step

      goes_so : (after : Collection) → new.collection ≡ Some after → KeepsTables old new → new.parts ≡ old.parts → IsLater old.disk new.disk
          → FindsSoFar first m.store.held m.index after old.tables.names old.parts roots → IsFinding new
      goes_so after runs keeps parts later finds = record {
        c = after;
        runs = runs;
        store = m.store;
        index = m.index;
        known_is = keeps.index_is ∙ m.known_is;
        represents = subst (λ (known : Option PlaceMap). Represents m.store known new.tables) (sym keeps.index_is)
            (subst (Represents m.store old.known) (sym keeps.tables_are) m.represents);
        valid = subst (λ (size : ℕ). IsValidFor size m.store) (sym later.size_is) m.valid;
        finds = subst (λ (t : Tables). FindsSoFar first m.store.held m.index after t.names new.parts roots) (sym keeps.tables_are)
            (subst (λ (p : List Part). FindsSoFar first m.store.held m.index after old.tables.names p roots) (sym parts) finds);
      }

      abbrev FindsAfter : Collection → Type 0
      FindsAfter after = FindsSoFar first m.store.held m.index after old.tables.names old.parts roots

      -- while it marks a container is scanned
      module _ (level slot : ℕ) (was : m.c.stage ≡ Mark level slot) (apart : HeadersAreApart first old.disk new.disk) where
        has : HasStage old.tables.held m.c (Mark level slot)
        has = subst (HasStage old.tables.held m.c) was under_way.stage_is

        -- which came before it
        came_before : (h : HeaderValue) → slice_get m.store.held slot ≡ Some (Some h) → h.id < m.c.snapshot
        came_before h there =
            let tree : is_tree_slot m.c.snapshot old.tables.held slot ≡ true = has.2.1 in
            let id : ℕ = get_or old.tables.held.ids.items slot 0 in
            let old_slot = first_true (is_old_slot m.c.snapshot old.tables.held slot) (is_tree (slice_get old.tables.held.counts.items slot)) tree in
            let low : id < m.c.snapshot = ltb-true id m.c.snapshot (second_true (not (id == 0)) (nat_lt id m.c.snapshot) old_slot) in
            omega (arith, low, ap (λ (ids : List ℕ). get_or ids slot 0) m.represents.slots_hold.ids_are, id_there m.store.held slot h there)

        scanned : (gone : HasGoneOn old new m.c m.runs early) → FindsAfter gone.after
        scanned gone =
            scan_finds m.index m.store m.valid.headers partial old.tables.held m.represents.slots_hold first old.tables.names old.parts roots old.disk new.disk level slot has.0
            m.c gone.after was m.finds apart came_before
            (subst (λ (k : Option PlaceMap). Scans old.tables.held k old.disk new.disk level slot m.c gone.after) m.known_is
            (has_scanned old new m.c m.runs early level slot was gone))

        not_scanned : (refusal : Refusal) (refused : HasNotGoneOn old new m.c m.runs early refusal) → FindsAfter refused.after
        not_scanned refusal refused =
            refusal_finds m.index m.store m.valid.headers partial old.tables.held m.represents.slots_hold first old.tables.names old.parts roots old.disk new.disk level slot has.0
            m.c refused.after was m.finds refusal
            (subst (λ (k : Option PlaceMap). KeepsMarks k old.disk new.disk level slot m.c refused.after refusal) m.known_is
            (has_not_scanned old new m.c m.runs early level slot was refusal refused))

      -- and from then on its live keys stay
      stays_so : HasMarkedAll m.c.stage → (after : Collection) → after.live ≡ m.c.live → after.snapshot ≡ m.c.snapshot → FindsAfter after
      stays_so marked after live snapshot = marked_on first m.store.held m.index m.c after old.tables.names old.parts roots marked live snapshot m.finds

      gone_on : HeadersAreApart first old.disk new.disk → (stage : Stage) → m.c.stage ≡ stage → (gone : HasGoneOn old new m.c m.runs early) → FindsAfter gone.after
      gone_on apart (Mark level slot) was gone = scanned level slot was apart gone
      gone_on apart (Filter slot) was gone =
          let steps = subst (λ (stage : Stage). StepsTo stage m.c.sweep.next (at_moment old m.c) (at_moment new gone.after)) was gone.steps in
          stays_so (subst HasMarkedAll (sym was) tt) gone.after (ap (λ (c : Collection). c.live) steps.0.collection_is) (ap (λ (c : Collection). c.snapshot) steps.0.collection_is)
      gone_on apart Select was gone =
          let steps = subst (λ (stage : Stage). StepsTo stage m.c.sweep.next (at_moment old m.c) (at_moment new gone.after)) was gone.steps in
          stays_so (subst HasMarkedAll (sym was) tt) gone.after (ap (λ (c : Collection). c.live) steps.0.collection_is) (ap (λ (c : Collection). c.snapshot) steps.0.collection_is)
      gone_on apart Sweep was gone = absurd (subst IsNoSweep was early)

      not_gone_on : HeadersAreApart first old.disk new.disk → (refusal : Refusal) (stage : Stage) → m.c.stage ≡ stage → (refused : HasNotGoneOn old new m.c m.runs early refusal)
          → FindsAfter refused.after
      not_gone_on apart refusal (Mark level slot) was refused = not_scanned level slot was apart refusal refused
      not_gone_on apart refusal (Filter slot) was refused =
          let kept = subst (λ (stage : Stage). Keeps stage m.c.sweep.next (at_moment old m.c) (at_moment new refused.after) refusal) was refused.kept in
          subst FindsAfter (sym kept.0) m.finds
      not_gone_on apart refusal Select was refused =
          let kept = subst (λ (stage : Stage). Keeps stage m.c.sweep.next (at_moment old m.c) (at_moment new refused.after) refusal) was refused.kept in
          subst FindsAfter (sym kept.0) m.finds
      not_gone_on apart refusal Sweep was refused = absurd (subst IsNoSweep was early)

      own_step : HeadersAreApart first old.disk new.disk → (answer : Result Answer Refusal) → GcRow answer old new → GcEffect answer old new → IsFinding new
      own_step apart answer row effect = elim (gc_goes old new m.c m.runs early answer row) [
        | inl gone ↦ goes_so gone.after gone.now_runs gone.keeps gone.parts_are effect.later (gone_on apart m.c.stage refl gone)
        | inr (refusal, refused) ↦ goes_so refused.after refused.now_runs refused.keeps refused.parts_are effect.later (not_gone_on apart refusal m.c.stage refl refused)
      ]

      -- ---- a step, whichever it is

      module _ (stays : new.stop ≡ None) where
        seal_goes : (offered : List Contents) (answer : Result Answer Refusal) → AreStepContents offered → SealRow offered actor answer old new
            → SealsSome offered answer old new → Collects (asked.Seal offered) answer old new
            → StopsAfter (asked.Seal offered) answer old.acknowledged new.stop → IsFinding new
        seal_goes offered (Ok (answers.Sealed id count)) right row effect collects stops = sealed offered id count right row effect collects
        seal_goes offered (Err refusal) right row effect collects stops = unsealed offered refusal row effect collects stops stays
        seal_goes offered answer right row effect collects stops = absurd row

        step_goes : (step : StepValue) (answer : Result Answer Refusal) → IsStep step → (step ≡ asked.GcStep → HeadersAreApart first old.disk new.disk)
            → Row step actor answer buf old new → Effect step answer old new
            → Collects step answer old new → StopsAfter step answer old.acknowledged new.stop → IsFinding new
        step_goes asked.Begin answer right apart row effect collects stops = part_rests answer collects effect
            (begin_none old.tables.names old new actor buf refl up.many answer row)
        step_goes (asked.Claim seg) answer right apart row effect collects stops = claimed seg answer right row effect collects
        step_goes (asked.Seal offered) answer right apart row effect collects stops = seal_goes offered answer right.1 row effect collects stops
        step_goes (asked.Commit name root) answer right apart row effect collects stops = committed name root answer row effect collects
        step_goes asked.Abort answer right apart row effect collects stops = part_rests answer collects effect
            (abort_none old.tables.names old new actor buf refl up.many answer row)
        step_goes (asked.OpenRead name) answer right apart row effect collects stops = part_rests answer collects effect
            (open_none old.tables.names old new actor buf refl up.many name answer row)
        step_goes asked.ReadNext answer right apart row effect collects stops = part_rests answer collects effect
            (read_none old.tables.names old new actor buf refl up.many answer row)
        step_goes asked.EndRead answer right apart row effect collects stops = part_rests answer collects effect
            (end_none old.tables.names old new actor buf refl up.many answer row)
        step_goes (asked.Delete name) answer right apart row effect collects stops = deleted name answer row effect collects
        step_goes asked.ListNames answer right apart row effect collects stops = part_rests answer collects effect
            (list_none old.tables.names old new actor buf refl up.many answer row)
        step_goes (asked.GcStart percent) answer right apart row effect collects stops = not_begun percent answer row effect
        step_goes asked.GcStep answer right apart row effect collects stops = own_step (apart refl) answer row effect
        step_goes asked.Stat answer right apart row effect collects stops = part_rests answer collects effect (stat_none old.tables.names old new actor buf refl up.many answer row)
        step_goes asked.Unique answer right apart row effect collects stops = part_rests answer collects effect
            (unique_none old.tables.names old new actor buf refl up.many answer row)

  -- ---- steps, one after the other

  module _ (C : Type 0) (state : C → CoreState) where
    plain_run : (events : List Event) (mid new : C) → RunBeforeSweep C state first events mid new → CoreRun C state events mid new
    plain_run [] mid new run = run
    plain_run (e ∷ es) mid new run = (run.0, (run.1.0.made, plain_run es run.0 new run.1.1))

    finds_on : (events : List Event) (mid new : C) → RunBeforeSweep C state first events mid new → IsRunning (state mid) → (state new).stop ≡ None → IsFinding (state mid)
        → IsFinding (state new)
    finds_on [] mid new run running stays m = subst (λ (c : C). IsFinding (state c)) (sym run) m
    finds_on (e ∷ es) mid new run running stays m =
        finds_on es run.0 new run.1.1 (step_runs (state mid) (state run.0) e run.1.0.made running) stays
        (step_goes (state mid)
        (state run.0) m early up e.actor e.buf next_stays e.step e.answer run.1.0.is_step run.1.0.apart steps.made.row steps.made.effect steps.collects steps.stops)
      where
        next_stays : (state run.0).stop ≡ None
        next_stays = runs_before C state es run.0 new (plain_run es run.0 new run.1.1) stays

        stop_is : (state mid).stop ≡ None
        stop_is = was_running (state mid).stop e (state mid) (state run.0) refl run.1.0.made next_stays

        steps : Steps e (state mid) (state run.0)
        steps = running_step (state mid) (state run.0) e stop_is run.1.0.made

        up : IsUp (state mid)
        up = subst (λ (stop : Option Stop). UnlessStopped stop (IsUp (state mid))) stop_is running

        early : IsNoSweep m.c.stage
        early = subst (λ (x : Collection). IsNoSweep x.stage)
            (same_some run.1.0.not_swept.collection m.c (state mid).collection run.1.0.not_swept.runs m.runs) run.1.0.not_swept.early

-- ---- slots of the same ids

-- where those of one list of slots differ, so do those of the other
no_id : (h : HeaderValue) → IsHeader h → 1 ≤ h.id
no_id h right = leb-true 1 h.id (first_true (nat_le 1 h.id) _ right.id)

unused_by_ids : (id : ℕ) (a b : List (Option HeaderValue)) → AreHeaders a → AreHeaders b → ids_of a ≡ ids_of b → IsUnusedId id b → IsUnusedId id a
unused_by_ids id [] b right also same unused = tt
unused_by_ids id (None ∷ cs) [] right also same unused = absurd cc
unused_by_ids id (Some h ∷ cs) [] right also same unused = absurd cc
unused_by_ids id (None ∷ cs) (None ∷ ds) right also same unused = unused_by_ids id cs ds right also (tail_is 0 0 (ids_of cs) (ids_of ds) same) unused
unused_by_ids id (None ∷ cs) (Some g ∷ ds) right also same unused = absurd (omega (arith, head_is 0 g.id (ids_of cs) (ids_of ds) same, no_id g also.0))
unused_by_ids id (Some h ∷ cs) (None ∷ ds) right also same unused = absurd (omega (arith, head_is h.id 0 (ids_of cs) (ids_of ds) same, no_id h right.0))
unused_by_ids id (Some h ∷ cs) (Some g ∷ ds) right also same unused =
    (λ is. unused.0 (sym (head_is h.id g.id (ids_of cs) (ids_of ds) same) ∙ is), unused_by_ids id cs ds right.1 also.1 (tail_is h.id g.id (ids_of cs) (ids_of ds) same) unused.1)

different_by_ids : (a b : List (Option HeaderValue)) → AreHeaders a → AreHeaders b → ids_of a ≡ ids_of b → DifferentIds b → DifferentIds a
different_by_ids [] b right also same different = tt
different_by_ids (None ∷ cs) [] right also same different = absurd cc
different_by_ids (Some h ∷ cs) [] right also same different = absurd cc
different_by_ids (None ∷ cs) (None ∷ ds) right also same different = different_by_ids cs ds right also (tail_is 0 0 (ids_of cs) (ids_of ds) same) different
different_by_ids (None ∷ cs) (Some g ∷ ds) right also same different = absurd (omega (arith, head_is 0 g.id (ids_of cs) (ids_of ds) same, no_id g also.0))
different_by_ids (Some h ∷ cs) (None ∷ ds) right also same different = absurd (omega (arith, head_is h.id 0 (ids_of cs) (ids_of ds) same, no_id h right.0))
different_by_ids (Some h ∷ cs) (Some g ∷ ds) right also same different = (
  unused_by_ids h.id cs ds right.1 also.1 (tail_is h.id g.id (ids_of cs) (ids_of ds) same)
      (subst (λ (id : ℕ). IsUnusedId id ds) (sym (head_is h.id g.id (ids_of cs) (ids_of ds) same)) different.0),
  different_by_ids cs ds right.1 also.1 (tail_is h.id g.id (ids_of cs) (ids_of ds) same) different.1,
)

-- The law.
module _ (C : Type 0) (state : C → CoreState) where
  pub finds_keys_meanwhile : FindsKeysMeanwhile C state
  finds_keys_meanwhile actor percent snapshot buf events s index old begun new c up runs indexed began run stays is marked =
      let m = finds_on s.held roots C state events begun new run (step_runs (state old) (state begun) (starts actor percent snapshot buf) began up) stays so in
      let one : m.c ≡ c = same_some m.c c (state new).collection m.runs is in
      record {
        index = m.index;
        known_is = m.known_is;
        found = subst
            (λ (x : Collection). FindsTrees m.index x.live (roots_of (state old).tables.names (state old).parts ++ roots_of (state new).tables.names (state new).parts)) one
            (found_trees s.held m.store.held m.index m.c (state new).tables.names (state new).parts roots m.finds
            (subst (λ (x : Collection). HasMarkedAll x.stage) (sym one) marked));
      }
    where
      roots : RootKeys
      roots = roots_of (state old).tables.names (state old).parts

      steps : Steps (starts actor percent snapshot buf) (state old) (state begun)
      steps = running_step (state old) (state begun) (starts actor percent snapshot buf) runs began

      begins_so : Begins percent snapshot (state old) (state begun)
      begins_so = steps.made.row.0

      was_up : IsUp (state old)
      was_up = subst (λ (stop : Option Stop). UnlessStopped stop (IsUp (state old))) runs up

      -- a store with these slots that the disk may hold
      store : Store
      store = record was_up.runs.store { held = s.held }

      same_ids : ids_of s.held ≡ ids_of was_up.runs.store.held
      same_ids = sym indexed.represents.slots_hold.ids_are ∙ was_up.runs.represents.slots_hold.ids_are

      valid : IsValidFor (state old).disk.size store
      valid = record {
        count = was_up.runs.valid.count;
        size_is = was_up.runs.valid.size_is;
        selector_right = was_up.runs.valid.selector_right;
        few = was_up.runs.valid.few;
        follow = was_up.runs.valid.follow;
        many = omega (arith, as_many s.held, as_many was_up.runs.store.held, ap length same_ids, was_up.runs.valid.many);
        headers = indexed.headers;
        different = different_by_ids s.held was_up.runs.store.held indexed.headers was_up.runs.valid.headers same_ids was_up.runs.valid.different;
      }

      represents : Represents store (state old).known (state old).tables
      represents = record {
        slots_are = was_up.runs.represents.slots_are;
        names_are = was_up.runs.represents.names_are;
        slots_hold = indexed.represents.slots_hold;
        index_is_newest = indexed.represents.index_is_newest;
      }

      keeps : KeepsTables (state old) (state begun)
      keeps = steps.made.effect.tables

      so : IsFinding s.held roots (state begun)
      so = record {
        c = begins_so.collection;
        runs = begins_so.runs;
        store = store;
        index = index;
        known_is = keeps.index_is ∙ indexed.known_is;
        represents = subst (λ (known : Option PlaceMap). Represents store known (state begun).tables) (sym keeps.index_is)
            (subst (Represents store (state old).known) (sym keeps.tables_are) represents);
        valid = subst (λ (size : ℕ). IsValidFor size store) (sym steps.made.effect.disk.only.later.size_is) valid;
        finds = subst (λ (t : Tables). FindsSoFar s.held s.held index begins_so.collection t.names (state begun).parts roots) (sym keeps.tables_are)
            (subst (λ (p : List Part). FindsSoFar s.held s.held index begins_so.collection (state old).tables.names p roots) (sym steps.made.row.1)
            (begins index store indexed.headers (indexed.represents.index_is_newest index indexed.known_is) (state old).tables.held begins_so.collection (state old).tables.names
            (state old).parts indexed.represents.slots_hold
            (omega (arith, begins_so.next_is, indexed.represents.slots_hold.last_id_is, last_within s.held indexed.headers)) begins_so.stage_is
            (subst (λ (k : Option PlaceMap). AreFound k roots) indexed.known_is begins_so.found) begins_so.live));
      }
