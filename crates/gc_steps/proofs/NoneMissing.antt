-- A scan meets no child that the index lacks, or has at another level.
use Rattle.gc_steps.proofs.Prelude.{◌≡◌, inl, inr, ℕ, List, [], ◌∷◌, ◌++◌, Some, None, true, refl, sym, ◌∙◌, subst, arith, All, All-contains, All-from_recursion, Contains-append_right, Part, Entry, is_level, PlaceMap, HeaderValue, IsHeader, DiskView, Why, IsToScan, child_keys, ScanFault, Missing, Files, Store, IsPartialIndexOf, IsStoreOf, node_key, have_levels, Represents, SlotTable, Tables, Collection, IsMarkRefusal, IsEntriesFault, scan_for, MarksAreClosed, ShowsAt, step_refusal}
use Rattle.std.specs.List.{Contains}
use Rattle.gc_enumerate.specs.Scanning.{ComesTo, IsNodeOf, LacksChild, MisplacesChild, keys_of}
use Rattle.gc_enumerate.specs.declared.fault.ScanFault.TheVariants as faults
use Rattle.merkle_file.specs.Node.{Contents}
use Rattle.gc_steps.proofs.ChildTrees.{IsWholeBelow, children_whole}
use Rattle.gc_steps.proofs.FoundNodes.{scanned_node}
use Rattle.gc_steps.proofs.Levels.{child_placed}
use Rattle.gc_steps.proofs.RootTrees.{whole_indexed}

-- a list has what stands between two parts of it
pub between : {X : Type 0} (xs : List X) (x : X) (ys : List X) → Contains (xs ++ x ∷ ys) x
between xs x ys = Contains-append_right xs (x ∷ ys) x (0, omega arith, refl)

module _ (index : PlaceMap) (store : Store) (files : Files) (parts : List Part) (image : List ℕ) (holds : IsStoreOf store files image) (partial : IsPartialIndexOf store.held index)
    (old new : DiskView) (content : old.content ≡ Some image) (level slot : ℕ) (before : Collection) (closed : MarksAreClosed index store parts image before) where
  -- the tree of each child of a node whose tree is held whole is held whole
  child_whole : (n : Contents) (key : List ℕ) → All (IsWholeBelow index store.held image n.level) (child_keys n) → ComesTo (Some index) n key
      → IsWholeBelow index store.held image n.level key
  child_whole n key all comes =
      All-contains (IsWholeBelow index store.held image n.level) (child_keys n) key all
      (subst (λ (keys : List (List ℕ)). Contains keys key) (sym comes.keys_are) (between (keys_of comes.before) key comes.after))

  -- so the index has it, at its level
  none_lacked : (n : Contents) (key : List ℕ) → All (IsWholeBelow index store.held image n.level) (child_keys n) → LacksChild (Some index) n key → ⊥
  none_lacked n key all lacks =
      let has = whole_indexed index store.held image key (child_whole n key all lacks.comes).is_whole in
      absurd (let wrong : None ≡ Some has.0 = sym (lacks.missing index refl) ∙ has.1 in cc)

  none_misplaced : (n : Contents) (at : ℕ) (why : Why) → All (IsWholeBelow index store.held image n.level) (child_keys n) → MisplacesChild (Some index) n at why → ⊥
  none_misplaced n at why all wrong = child_placed index store image partial n wrong.key at why (child_whole n wrong.key all wrong.comes) wrong.misplaced

  -- the trees of the children of an entry that was scanned are held whole
  scanned_whole : (h : HeaderValue) (e : Entry) (n : Contents) → IsHeader h → Contains h.entries e → IsToScan (scan_for (Some index) before.live slot level h) e
      → IsNodeOf (record { slot = slot; kind = h.kind; level = level }) (ShowsAt old new) e n → All (IsWholeBelow index store.held image n.level) (child_keys n)
  scanned_whole h e n right within to_scan node =
      let rules = All-from_recursion (λ (e : Entry). is_level h.kind e.level ≡ true) h.entries (have_levels h.kind h.kind [] h.entries refl right.entries) in
      let rule = All-contains (λ (e : Entry). is_level h.kind e.level ≡ true) h.entries e rules within in
      let was = scanned_node index store files image holds partial old new content level slot h before.live e n rule to_scan node in
      children_whole index store.held image n was.copy was.node (closed.live_is_whole (node_key n) was.is_live)

  not_stuck : (h : HeaderValue) (key : List ℕ) → IsHeader h → IsEntriesFault (Some index) old new slot level h before.live (faults.Missing key) → ⊥
  not_stuck h key right stuck =
      let within : Contains h.entries stuck.at = subst (λ (es : List Entry). Contains es stuck.at) (sym stuck.entries_are) (between stuck.before stuck.at stuck.after) in
      none_lacked stuck.cause.0 key (scanned_whole h stuck.at stuck.cause.0 right within stuck.cause.1.0 stuck.cause.1.1) stuck.cause.1.2

  -- no scan is refused by a child that the index has at another level
  pub not_misplaced : (h : HeaderValue) (e : Entry) (n : Contents) (at : ℕ) (why : Why) → IsHeader h → Contains h.entries e
      → IsToScan (scan_for (Some index) before.live slot level h) e
      → IsNodeOf (record { slot = slot; kind = h.kind; level = level }) (ShowsAt old new) e n → MisplacesChild (Some index) n at why → ⊥
  not_misplaced h e n at why right within to_scan node wrong = none_misplaced n at why (scanned_whole h e n right within to_scan node) wrong

  not_stopped : (key : List ℕ) (h : HeaderValue) (fault : ScanFault) → Missing key ≡ step_refusal fault → IsHeader h
      → IsEntriesFault (Some index) old new slot level h before.live fault → ⊥
  not_stopped key h (faults.Missing k) is right cause = not_stuck h k right cause
  not_stopped key h other is right cause = absurd cc

  -- no scan is refused by a child that the index lacks
  none_missing : (t : SlotTable) (key : List ℕ) → IsMarkRefusal t (Some index) old new level slot before.live (Missing key) → ⊥
  none_missing t key (inl header) = absurd header
  none_missing t key (inr stops) = not_stopped key stops.header stops.fault stops.refusal_is stops.right stops.cause

-- No scan is refused by `Missing`, by what `mark_container` says, on a disk whose content stands for the files by the store.
pub never_missing : (index : PlaceMap) (store : Store) (files : Files) (parts : List Part) (image : List ℕ) (t : Tables) (old new : DiskView) (level slot : ℕ)
    (before : Collection) (key : List ℕ)
    → IsStoreOf store files image → Represents store (Some index) t → old.content ≡ Some image → MarksAreClosed index store parts image before
    → IsMarkRefusal t.held (Some index) old new level slot before.live (Missing key) → ⊥
never_missing index store files parts image t old new level slot before key holds represents content closed =
    none_missing index store files parts image holds (represents.index_is_newest index refl) old new content level slot before closed t.held key
