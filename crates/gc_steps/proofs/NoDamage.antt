-- The next step of a collection finds no damage and misses nothing, where the content of the disk stands for files.
use Rattle.gc_steps.proofs.Prelude.{slot_at, length, ◌≡◌, ◌≢◌, ◌≤◌, inl, inr, ℕ, zero, suc, Bool, true, List, [], ◌∷◌, Option, Some, None, refl, sym, ◌∙◌, ap, subst, arith, if◌then◌else◌, slice_get, eq-eqb, All-contains, All-from_recursion, sha256, Part, byte_at, key_of, Entry, Kind, Place, is_level, kind_byte, PlaceMap, HeaderValue, IsHeader, Shows, DiskView, shown_content, Why, IsToScan, Scan, ScanFault, IsNode, Refusal, Corrupt, Damaged, Missing, Numbers, Files, Store, entry_key, HoldsSlot, IsPartialIndexOf, newest, place_of, IsStoreOf, bytes_at, slot_held, IsNodeEntry, have_levels, newest_so, nodes_so, finds, Represents, RepresentsSlots, SlotTable, Tables, Collection, Stage, Next, IsFlushStepRefusal, IsEntriesFault, IsMarkRefusal, scan_for, MarksAreClosed, ShowsAt, step_refusal, is_old, is_old_slot, IsStepRefusal, moment, HasStage, IsUnderWay}
use Rattle.std.proofs.Common.{get_or}
use Rattle.std.specs.List.{Contains}
use Rattle.base_model.specs.Bytes.{range}
use Rattle.container_log.specs.Faults.{IsDamage}
use Rattle.container_log.specs.Parts.{ReadAt}
use Rattle.container_meta.specs.declared.kind.Kind.TheVariants.{Tree}
use Rattle.container_meta.proofs.Again.{header_again, spelled_in}
use Rattle.disk_format.specs.declared.why.Why.TheVariants.{Digest, Field}
use Rattle.gc_enumerate.specs.Faults.{IsCorrupt}
use Rattle.gc_enumerate.specs.Scanning.{IsEntryFault, IsNoNode, IsNodeFault, node_fault}
use Rattle.gc_enumerate.specs.declared.fault.ScanFault.TheVariants as faults
use Rattle.merkle_file.specs.Node.{Contents, spelling}
use Rattle.merkle_file.specs.Reading.{any_node, first_fault, wrong}
use Rattle.merkle_file.proofs.Nodes.{node_again}
use Rattle.refusals.specs.declared.refusal.Refusal.TheVariants.{Clash}
use Rattle.store_model.specs.Slots.{ids_of}
use Rattle.store_model.specs.Trees.{IsNodeOf}
use Rattle.store_model.proofs.Copies.{copy_digest}
use Rattle.gc_steps.specs.declared.collection.Stage.TheVariants as stages
use Rattle.copy_forward.specs.Headers.{IsHeaderDamage, IsHeaderRefusal, IsTabled}
use Rattle.copy_forward.proofs.Tabled.{never_other}
use Rattle.gc_sweep.specs.declared.sweep.Next.TheVariants as nexts
use Rattle.gc_sweep.proofs.CopyFailures.{IsFailure, copying_fails, flushing_fails}
use Rattle.gc_sweep.proofs.InSlots.{old_id}
use Rattle.gc_steps.specs.Filtering.{IsRecordRefusal}
use Rattle.gc_steps.proofs.NoneMissing.{between, never_missing, not_misplaced}
use Rattle.gc_steps.proofs.FirstStage.{first_true}
use Rattle.gc_steps.proofs.FoundNodes.{tree_kind}

-- a refusal tells of no damage, and of nothing that is missing
abbrev pub IsClean : Refusal → Type 0
IsClean (Corrupt slot offset count want got) = ⊥
IsClean (Missing key) = ⊥
IsClean (Damaged at why) = ⊥
IsClean (Clash key at) = ⊥
IsClean refusal = Unit {0}

-- where a collection marks, its marks are closed
abbrev pub IsMarked : PlaceMap → Store → List Part → List ℕ → Collection → Stage → Type 0
IsMarked index store parts image c (stages.Mark level slot) = MarksAreClosed index store parts image c
IsMarked index store parts image c stage = Unit {0}

-- where memory or the disk failed it tells of none
failure_clean : (refusal : Refusal) → IsFailure refusal → IsClean refusal
failure_clean (Corrupt slot offset count want got) is = is
failure_clean (Missing key) is = is
failure_clean (Damaged at why) is = is
failure_clean (Clash key at) is = is
failure_clean refusal is = tt

-- nor where what was copied is not written
flush_clean : (index : PlaceMap) (t : Tables) (refusal : Refusal) → IsFlushStepRefusal t (Some index) refusal → IsClean refusal
flush_clean index t Numbers is = tt
flush_clean index t (Corrupt slot offset count want got) is = flushing_fails index t (Corrupt slot offset count want got) (λ same. cc) is
flush_clean index t (Missing key) is = flushing_fails index t (Missing key) (λ same. cc) is
flush_clean index t (Damaged at why) is = flushing_fails index t (Damaged at why) (λ same. cc) is
flush_clean index t (Clash key at) is = flushing_fails index t (Clash key at) (λ same. cc) is
flush_clean index t refusal is = tt

-- ---- a slot has a container where it has an id

pub record HasHeader (held : List (Option HeaderValue)) (slot : ℕ) : Type 0 where
  pub header : HeaderValue
  pub there : slice_get held slot ≡ Some (Some header)

header_there : (held : List (Option HeaderValue)) (slot : ℕ) → get_or (ids_of held) slot 0 ≢ 0 → HasHeader held slot
header_there [] zero some = absurd (some refl)
header_there [] (suc slot) some = absurd (some refl)
header_there (None ∷ cs) zero some = absurd (some refl)
header_there (Some h ∷ cs) zero some = record { header = h; there = refl }
header_there (None ∷ cs) (suc slot) some = let rest = header_there cs slot some in record { header = rest.header; there = rest.there }
header_there (Some h ∷ cs) (suc slot) some = let rest = header_there cs slot some in record { header = rest.header; there = rest.there }

-- ---- bytes that spell a node have no wrong field

first_byte : (n : Contents) → byte_at 0 (spelling n) ≡ n.level
unfolding spelling
first_byte n = refl

no_fault : (n : Contents) → IsNode n → node_fault n.level (spelling n) ≡ None
no_fault n right =
    ap (λ (b : Bool). if b then first_fault any_node (spelling n) else wrong 0 (byte_at 0 (spelling n))) (eq-eqb (byte_at 0 (spelling n)) n.level (first_byte n))
    ∙ (node_again any_node n (record { lowest = omega arith; greatest = omega arith; most = omega arith }) right
    (record { lowest = right.above; greatest = right.level; least = omega arith; most = right.total })).0

faultless : (level : ℕ) (bytes : List ℕ) (why : Why) → IsNodeOf level bytes → IsNodeFault level bytes why → ⊥
faultless level bytes (Digest want got) node wrong_is = wrong_is
faultless level bytes (Field offset got) node wrong_is =
    let none : node_fault level bytes ≡ None =
    ap (node_fault level) node.spelled ∙ subst (λ (l : ℕ). node_fault l (spelling node.node) ≡ None) node.level_is (no_fault node.node node.right) in
    absurd (let both = sym none ∙ wrong_is in cc)

module _ (index : PlaceMap) (store : Store) (files : Files) (image : List ℕ) (holds : IsStoreOf store files image) (partial : IsPartialIndexOf store.held index)
    (old new : DiskView)
    (content : old.content ≡ Some image) where
  map_known : {A : Type 0} → Some index ≡ None → A
  map_known none = absurd cc

  -- ---- a header

  -- the header of a slot that has a container keeps the format
  header_right : (slot : ℕ) (why : Why) → HasHeader store.held slot → IsDamage (ReadAt old new (slot_at slot)) why → ⊥
  header_right slot why has damage =
      let is = slot_held slot store.held (Some has.header) image holds.right.slots_are has.there in
      let read : range (slot_at slot) (length damage.bytes) image ≡ damage.bytes =
      shown_content old new (λ (i : List ℕ). range (slot_at slot) (length damage.bytes) i ≡ damage.bytes) image damage.are_found content in
      let good = header_again damage.bytes has.header damage.first.long (spelled_in has.header damage.bytes image (slot_at slot) damage.first.long read is.0 is.1) in
      let bad = damage.first.first in
      absurd (let both = sym good ∙ bad in cc)

  -- and is the one of the tables
  header_same : (t : SlotTable) (slot : ℕ) (why : Why) → RepresentsSlots store.held t → HasHeader store.held slot → IsHeaderDamage t old new slot why → ⊥
  header_same t slot why slots has (inl damage) = header_right slot why has damage
  header_same t slot why slots has (inr other) =
      never_other store.held t slot has.header image old new why slots has.there (slot_held slot store.held (Some has.header) image holds.right.slots_are has.there) content other

  header_clean : (t : SlotTable) (slot : ℕ) (refusal : Refusal) → RepresentsSlots store.held t → HasHeader store.held slot → IsHeaderRefusal t old new slot refusal
      → IsClean refusal
  header_clean t slot (Corrupt at offset count want got) slots has is = is
  header_clean t slot (Missing key) slots has is = is
  header_clean t slot (Damaged at why) slots has is = header_same t slot why slots has is.1
  header_clean t slot (Clash key at) slots has is = is
  header_clean t slot refusal slots has is = tt

  -- so a container is recorded
  record_clean : (t : SlotTable) (slot : ℕ) (refusal : Refusal) → RepresentsSlots store.held t → HasHeader store.held slot → IsRecordRefusal t (Some index) old new slot refusal
      → IsClean refusal
  record_clean t slot (Corrupt at offset count want got) slots has is = is
  record_clean t slot (Missing key) slots has is = is
  record_clean t slot (Damaged at why) slots has (inl header) = header_same t slot why slots has header.1
  record_clean t slot (Damaged at why) slots has (inr unknown) = map_known unknown
  record_clean t slot (Clash key at) slots has is = is
  record_clean t slot refusal slots has is = tt

  -- ---- an entry that is to be scanned

  module _ (level slot : ℕ) (h : HeaderValue) (before : Collection) where
    abbrev scan : Scan
    scan = scan_for (Some index) before.live slot level h

    -- its bytes have its digest
    entry_right : (e : Entry) (at offset count : ℕ) (want got : List ℕ) → IsToScan scan e → IsCorrupt (ShowsAt old new) (place_of slot e) e.digest at offset count want got → ⊥
    entry_right e at offset count want got to_scan c =
        let found = finds store index (entry_key h.kind e) (place_of slot e) partial (to_scan.copy index refl) in
        let digest : sha256 (bytes_at (place_of slot e) image) ≡ e.digest =
        subst (λ (p : Place). sha256 (bytes_at p image) ≡ e.digest) found.2 (copy_digest store.held (kind_byte h.kind) e.digest image found.0 holds.copies found.1) in
        let read : bytes_at (place_of slot e) image ≡ c.bytes = shown_content old new (λ (i : List ℕ). bytes_at (place_of slot e) i ≡ c.bytes) image c.shown content in
        c.differ (c.want_is ∙ sym digest ∙ ap sha256 read ∙ c.digest_is)

    -- and are a node of its level
    entry_node : (e : Entry) (at : ℕ) (why : Why) → 1 ≤ level → is_level h.kind e.level ≡ true → IsToScan scan e → IsNoNode scan.layer (ShowsAt old new) e at why → ⊥
    entry_node e at why some rule to_scan bad =
        let kind : h.kind ≡ Tree = tree_kind h.kind e.level (omega (arith, to_scan.level_is, some)) rule in
        let found = finds store index (entry_key h.kind e) (place_of slot e) partial (to_scan.copy index refl) in
        let copy : newest 0 store.held (key_of (kind_byte Tree) e.digest) ≡ Some found.0 =
        subst (λ (k : Kind). newest 0 store.held (key_of (kind_byte k) e.digest) ≡ Some found.0) kind found.1 in
        let so = newest_so IsNodeEntry store.held Tree e.digest image found.0 (nodes_so 0 store.held image holds.nodes) copy in
        let level_is : so.entry.level ≡ level = sym so.level_is ∙ ap (λ (p : Place). p.level) found.2 ∙ to_scan.level_is in
        let read : bytes_at found.0.place image ≡ bad.bytes =
        ap (λ (p : Place). bytes_at p image) found.2 ∙ shown_content old new (λ (i : List ℕ). bytes_at (place_of slot e) i ≡ bad.bytes) image bad.shown content in
        faultless level bad.bytes why (subst (IsNodeOf level) read (subst (λ (l : ℕ). IsNodeOf l (bytes_at found.0.place image)) level_is so.so)) bad.wrong_is

  module _ (parts : List Part) (t : Tables) (level slot : ℕ) (before : Collection) (represents : Represents store (Some index) t)
      (closed : MarksAreClosed index store parts image before) (some : 1 ≤ level) where
    fault_clean : (h : HeaderValue) (fault : ScanFault) → IsHeader h → IsTabled t.held slot h → Shows old new (λ i. HoldsSlot i slot (Some h))
        → IsEntriesFault (Some index) old new slot level h before.live fault
        → IsClean (step_refusal fault)
    fault_clean h faults.Memory right tabled shown cause = tt
    fault_clean h faults.DiskRead right tabled shown cause = tt
    fault_clean h (faults.Missing key) right tabled shown cause =
        absurd (never_missing index store files parts image t old new level slot before key holds represents content closed
        (inr (record { header = h; right = right; tabled = tabled; shown = shown; fault = faults.Missing key; refusal_is = refl; cause = cause })))
    fault_clean h (faults.Corrupt at offset count want got) right tabled shown stuck = entry_right level slot h before stuck.at at offset count want got stuck.cause.0 stuck.cause.1
    fault_clean h (faults.Damaged at why) right tabled shown stuck = by_cause stuck.cause
      where
        within : Contains h.entries stuck.at
        within = subst (λ (es : List Entry). Contains es stuck.at) (sym stuck.entries_are) (between stuck.before stuck.at stuck.after)

        rule : is_level h.kind stuck.at.level ≡ true
        rule =
            let rules = All-from_recursion (λ (e : Entry). is_level h.kind e.level ≡ true) h.entries (have_levels h.kind h.kind [] h.entries refl right.entries) in
            All-contains (λ (e : Entry). is_level h.kind e.level ≡ true) h.entries stuck.at rules within

        by_cause : IsEntryFault (scan_for (Some index) before.live slot level h) (ShowsAt old new) (λ at why. Some index ≡ None) stuck.at (faults.Damaged at why) → ⊥
        by_cause (inl index_damage) = map_known index_damage.1
        by_cause (inr (inl node)) = entry_node level slot h before stuck.at at why some rule node.0 node.1
        by_cause (inr (inr child)) =
            not_misplaced index store files parts image holds partial old new content level slot before closed h stuck.at child.0 at why right within child.1.0 child.1.1 child.1.2

    mark_clean : (refusal : Refusal) → HasHeader store.held slot → IsMarkRefusal t.held (Some index) old new level slot before.live refusal → IsClean refusal
    mark_clean refusal has (inl header) = header_clean t.held slot refusal represents.slots_hold has header
    mark_clean refusal has (inr stops) = subst IsClean (sym stops.refusal_is) (fault_clean stops.header stops.fault stops.right stops.tabled stops.shown stops.cause)

  -- ---- each stage

  module _ (parts : List Part) (t : Tables) (c : Collection) (represents : Represents store (Some index) t) where
    old_has : (slot id : ℕ) → get_or t.held.ids.items slot 0 ≡ id → is_old c.snapshot id ≡ true → HasHeader store.held slot
    old_has slot id is was =
        header_there store.held slot
        (λ none. (old_id c.snapshot id was).0 (sym is ∙ ap (λ (ids : List ℕ). get_or ids slot 0) represents.slots_hold.ids_are ∙ none))

    by_stage : (stage : Stage) (next : Next) (refusal : Refusal) → c.sweep.next ≡ next → HasStage t.held c stage → IsMarked index store parts image c stage
        → IsStepRefusal stage next (moment t (Some index) old c) new refusal → IsClean refusal
    by_stage (stages.Mark level slot) next refusal at has closed is =
        let was = first_true (is_old_slot c.snapshot t.held slot) _ has.2.1 in
        mark_clean parts t level slot c represents closed has.0 refusal (old_has slot _ refl was) is
    by_stage (stages.Filter slot) next refusal at has closed is = record_clean t.held slot refusal represents.slots_hold (old_has slot _ refl has.0.1) is
    by_stage stages.Select next refusal at has closed is = subst IsClean (sym is) tt
    by_stage stages.Sweep (nexts.Copy source entry) refusal at has closed is =
        failure_clean refusal
        (copying_fails index store.held image holds.right.slots_are holds.copies partial t.held represents.slots_hold old new content c.live c.snapshot source entry c.sweep has at
        refusal is)
    by_stage stages.Sweep (nexts.Flush source entry) refusal at has closed is = flush_clean index t refusal is
    by_stage stages.Sweep (nexts.Release source entry) refusal at has closed is = subst IsClean (sym is) tt
    by_stage stages.Sweep nexts.End refusal at has closed is = absurd is

-- The next step of a collection that is under way finds no damage, neither of a header, nor of a node, nor of a copy, nor of the index, and misses
-- no key.
pub no_damage : (index : PlaceMap) (store : Store) (files : Files) (parts : List Part) (image : List ℕ) (t : Tables) (old new : DiskView) (c : Collection) (refusal : Refusal)
    → IsStoreOf store files image
    → Represents store (Some index) t → old.content ≡ Some image → IsUnderWay t.held c → IsMarked index store parts image c c.stage
    → IsStepRefusal c.stage c.sweep.next (moment t (Some index) old c) new refusal → IsClean refusal
no_damage index store files parts image t old new c refusal holds represents content under closed is =
    by_stage index store files image holds (represents.index_is_newest index refl) old new content parts t c represents c.stage c.sweep.next refusal refl under.stage_is closed is
