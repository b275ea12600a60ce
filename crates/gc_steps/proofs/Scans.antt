-- What a scan makes of the live keys, at a moment that is named otherwise, and after calls that only read.
use Rattle.gc_steps.proofs.Prelude.{◌≡◌, inl, inr, ℕ, List, [], ◌∷◌, take, Option, Some, None, Result, Ok, Err, OnOk, refl, sym, ap, subst, Entry, Place, PlaceMap, HeaderValue, IsHeader, Shows, DiskView, OnlyReads, Why, LiveKeys, Scan, HaveNodes, ScanFault, Refusal, HoldsSlot, Collection, ScansEntries, ScansSome, IsEntriesFault, KeepsMarks, scan_for, ShowsAt, step_refusal}
use Rattle.std.proofs.Common.{get_or}
use Rattle.std.specs.Prelude.{IfErr}
use Rattle.dd_disk.proofs.Shows.{since}
use Rattle.gc_enumerate.specs.Marking.{LeavesMarks, MarksChildren, MarksSome, ChildrenAreLive}
use Rattle.gc_enumerate.specs.Scanning.{IsScanFault, IsStuck}
use Rattle.gc_enumerate.specs.declared.fault.ScanFault.TheVariants as faults
use Rattle.gc_enumerate.proofs.Scans.{node_wider, finds_wider, entry_fault_wider}
use Rattle.merkle_file.specs.Node.{Contents}

module _ (D : Type 0) (view : D → DiskView) (known : Option PlaceMap) (old : DiskView) (slot level : ℕ) (h : HeaderValue) (before after : LiveKeys) (mid new : D)
    (same : mid ≡ new) where
  pub kept_at : {T : Type 0} (result : Result T ScanFault) → IfErr result (LeavesMarks (scan_for known before slot level h) (ShowsAt old (view mid)) h.entries after)
      → IfErr result (LeavesMarks (scan_for known before slot level h) (ShowsAt old (view new)) h.entries after)
  kept_at result kept = subst (λ (d : D). IfErr result (LeavesMarks (scan_for known before slot level h) (ShowsAt old (view d)) h.entries after)) same kept

  pub marks_at : {T E : Type 0} (result : Result T E) → OnOk result (MarksChildren (scan_for known before slot level h) (ShowsAt old (view mid)) h.entries after)
      → OnOk result (ChildrenAreLive (scan_for known before slot level h) (ShowsAt old (view mid)) h.entries after)
      → OnOk result (ScansEntries known old (view new) slot level h before after)
  marks_at (Ok x) marks children = subst (λ (d : D). ScansEntries known old (view d) slot level h before after) same (record { marks = marks; children = children })
  marks_at (Err e) marks children = tt

-- ---- a scan after calls that only read

module _ (s : Scan) (showed showed' : Place → List ℕ → Type 0) (wider : (place : Place) (bytes : List ℕ) → showed place bytes → showed' place bytes) where
  nodes_on : (es : List Entry) (ns : List Contents) → HaveNodes s showed es ns → HaveNodes s showed' es ns
  nodes_on [] ns have = have
  nodes_on (e ∷ es) ns (inl over) = inl (over.0, nodes_on es ns over.1)
  nodes_on (e ∷ es) ns (inr has) =
      inr (has.0, (has.1.0, (has.1.1.0, has.1.1.1, node_wider s showed showed' wider e has.0 has.1.1.2, nodes_on es has.1.0 has.1.1.3)))

  marks_on : (es : List Entry) (new : LiveKeys) → MarksChildren s showed es new → MarksChildren s showed' es new
  marks_on es new marks = record {
    found = marks.found;
    finds = record {
      nodes = marks.finds.nodes;
      nodes_are = nodes_on es marks.finds.nodes marks.finds.nodes_are;
      keys_are = marks.finds.keys_are;
      placed = marks.finds.placed;
    };
    marks = marks.marks;
    exact = marks.exact;
  }

  children_on : (es : List Entry) (new : LiveKeys) → ChildrenAreLive s showed es new → ChildrenAreLive s showed' es new
  children_on es new children = λ m known k d within to_scan.
      let has = children m known k d within to_scan in
      (has.0, (node_wider s showed showed' wider (get_or es k d) has.0 has.1.0, has.1.1))

  some_on : (es : List Entry) (new : LiveKeys) → MarksSome s showed es new → MarksSome s showed' es new
  some_on es new some = record {
    count = some.count;
    found = some.found;
    finds = finds_wider s showed showed' wider (take some.count es) some.found some.finds;
    marks = some.marks;
  }

  stuck_on : (damaged : ℕ → Why → Type 0) (es : List Entry) (fault : ScanFault) → IsStuck s showed damaged es fault → IsStuck s showed' damaged es fault
  stuck_on damaged es fault stuck = record {
    before = stuck.before;
    at = stuck.at;
    after = stuck.after;
    entries_are = stuck.entries_are;
    found = stuck.found;
    passed = finds_wider s showed showed' wider stuck.before stuck.found stuck.passed;
    cause = entry_fault_wider s showed showed' wider damaged damaged (λ at why is. is) stuck.at fault stuck.cause;
  }

  fault_on : (damaged : ℕ → Why → Type 0) (es : List Entry) (fault : ScanFault) → IsScanFault s showed damaged es fault → IsScanFault s showed' damaged es fault
  fault_on damaged es faults.Memory cause = tt
  fault_on damaged es faults.DiskRead cause = stuck_on damaged es faults.DiskRead cause
  fault_on damaged es (faults.Corrupt at offset count want got) cause = stuck_on damaged es (faults.Corrupt at offset count want got) cause
  fault_on damaged es (faults.Missing key) cause = stuck_on damaged es (faults.Missing key) cause
  fault_on damaged es (faults.Damaged at why) cause = stuck_on damaged es (faults.Damaged at why) cause

module _ (known mid_known : Option PlaceMap) (old mid new : DiskView) (reads : OnlyReads old mid) (same : mid_known ≡ known) (slot level : ℕ) (h : HeaderValue)
    (before : LiveKeys) where
  wider : (place : Place) (bytes : List ℕ) → ShowsAt mid new place bytes → ShowsAt old new place bytes
  wider place bytes shown = since old mid new reads shown

  pub entries_since : (after : LiveKeys) → ScansEntries mid_known mid new slot level h before after → ScansEntries known old new slot level h before after
  entries_since after scanned =
      let is : ScansEntries known mid new slot level h before after = subst (λ (k : Option PlaceMap). ScansEntries k mid new slot level h before after) same scanned in
      record {
        marks = marks_on (scan_for known before slot level h) (ShowsAt mid new) (ShowsAt old new) wider h.entries after is.marks;
        children = children_on (scan_for known before slot level h) (ShowsAt mid new) (ShowsAt old new) wider h.entries after is.children;
      }

  some_since : (after : LiveKeys) → ScansSome mid_known mid new slot level h before after → ScansSome known old new slot level h before after
  some_since after scanned =
      some_on (scan_for known before slot level h) (ShowsAt mid new) (ShowsAt old new) wider h.entries after
      (subst (λ (k : Option PlaceMap). ScansSome k mid new slot level h before after) same scanned)

  pub kept_since : (after : LiveKeys) (fault : ScanFault) → LeavesMarks (scan_for mid_known before slot level h) (ShowsAt mid new) h.entries after fault
      → LeavesMarks (scan_for known before slot level h) (ShowsAt old new) h.entries after fault
  kept_since after faults.Memory kept = some_since after kept
  kept_since after other kept = kept

  pub fault_since : (fault : ScanFault) → IsEntriesFault mid_known mid new slot level h before fault → IsEntriesFault known old new slot level h before fault
  fault_since fault cause =
      fault_on (scan_for known before slot level h) (ShowsAt mid new) (ShowsAt old new) wider (λ at why. known ≡ None) h.entries fault
      (subst (λ (k : Option PlaceMap). IsEntriesFault k mid new slot level h before fault) same cause)

-- a refusal by a scan keeps all but some marks
pub keeps_marks : (known : Option PlaceMap) (old new : DiskView) (level slot : ℕ) (c : Collection) (live : LiveKeys) (fault : ScanFault) (refusal : Refusal) (h : HeaderValue)
    → IsHeader h
    → Shows old new (λ image. HoldsSlot image slot (Some h)) → refusal ≡ step_refusal fault
    → LeavesMarks (scan_for known c.live slot level h) (ShowsAt old new) h.entries live fault → KeepsMarks known old new level slot c (record c { live = live }) refusal
keeps_marks known old new level slot c live fault refusal h right shown is kept =
    subst (KeepsMarks known old new level slot c (record c { live = live })) (sym is) (by_fault fault kept)
  where
    stays : live ≡ c.live → (let now : Collection = record c { live = live } in now) ≡ c
    stays e = ap (λ (l : LiveKeys). (let now : Collection = record c { live = l } in now)) e

    by_fault : (f : ScanFault) → LeavesMarks (scan_for known c.live slot level h) (ShowsAt old new) h.entries live f
        → KeepsMarks known old new level slot c (record c { live = live }) (step_refusal f)
    by_fault faults.Memory kept = inr (record { header = h; right = right; shown = shown; scanned = kept; collection_is = refl })
    by_fault other kept = stays kept
