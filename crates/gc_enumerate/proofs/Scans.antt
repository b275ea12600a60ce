-- Entries that are scanned, one after the other.
use Rattle.std.proofs.Common.{◌≡◌, inl, inr, ℕ, ◌+◌, ◌-◌, ◌<◌, Bool, true, List, [], ◌∷◌, ◌++◌, length, take, drop, get_or, Option, Result, Ok, Err, IfOk, Vec, refl, sym, ◌∙◌, ap, subst}
use Rattle.std.specs.List.{flat_map}
use Rattle.std.proofs.lemmas.Grind.{flat_map-append}
use Rattle.std.proofs.lemmas.List.{append-nil, drop_more, map-append, take-append-drop, take_more}
use Rattle.std.proofs.lemmas.List.Elements.{All-append, All-nil}
use Rattle.std.specs.declared.alloc.Global.{Global}
use Rattle.disk_format.specs.declared.why.Why.{Why}
use Rattle.container_meta.specs.declared.entry.Entry.{Entry}
use Rattle.container_meta.specs.declared.place.Place.{Place}
use Rattle.container_meta.specs.Places.{PlaceMap}
use Rattle.merkle_file.specs.Node.{Contents}
use Rattle.gc_enumerate.specs.declared.fault.ScanFault.{ScanFault}
use Rattle.gc_enumerate.specs.declared.fault.ScanFault.TheVariants.{DiskRead, Corrupt, Missing, Damaged, Memory}
use Rattle.gc_enumerate.specs.declared.layer.KeyPlace.{KeyPlace}
use Rattle.gc_enumerate.specs.Faults.{IsCorrupt}
use Rattle.gc_enumerate.specs.Scanning.{ArePlaced, FindsChildren, HaveNodes, IsAsked, IsChildFault, IsDecided, IsEntryFault, IsNoNode, IsNodeOf, IsPlacedAt, IsScanFault, IsStuck, IsToScan, LacksChild, MisplacesChild, Scan, child_keys, keys_of, place_in}

-- ---- one entry

pub decided_true : (s : Scan) (e : Entry) (wanted : Bool) → wanted ≡ true → IsDecided s e wanted → IsToScan s e
decided_true s e wanted is decided = subst (IsDecided s e) is decided

pub was_asked : (s : Scan) (e : Entry) → IsToScan s e → IsAsked s e
was_asked s e to_scan = record { level_is = to_scan.level_is; live = to_scan.live }

pub finds_none : (s : Scan) (showed : Place → List ℕ → Type 0) → FindsChildren s showed [] []
finds_none s showed = record { nodes = []; nodes_are = refl; keys_are = refl; placed = All-nil _ }

pub finds_one : (s : Scan) (showed : Place → List ℕ → Type 0) (known : Option PlaceMap) (e : Entry) (n : Contents) (found : List KeyPlace) → known ≡ s.known → IsToScan s e
    → IsNodeOf s.layer showed e n → keys_of found ≡ child_keys n → ArePlaced known (n.level - 1) found → FindsChildren s showed (e ∷ []) found
finds_one s showed known e n found same to_scan node keys placed = record {
  nodes = n ∷ [];
  nodes_are = inr (n, ([], (refl, to_scan, node, refl)));
  keys_are = keys ∙ sym (append-nil (child_keys n));
  placed = subst (λ (level : ℕ). ArePlaced s.known (level - 1) found) node.level_is (subst (λ (k : Option PlaceMap). ArePlaced k (n.level - 1) found) same placed);
}

pub if_found : {E : Type 0} (result : Result (Vec KeyPlace Global) E) (s : Scan) (showed : Place → List ℕ → Type 0) (known : Option PlaceMap) (e : Entry) (n : Contents) →
    known ≡ s.known → IsToScan s e
    → IsNodeOf s.layer showed e n → IfOk result (λ found. keys_of found.items ≡ child_keys n) → IfOk result (λ found. ArePlaced known (n.level - 1) found.items)
    → IfOk result (λ found. FindsChildren s showed (e ∷ []) found.items)
if_found (Ok found) s showed known e n same to_scan node keys placed = finds_one s showed known e n found.items same to_scan node keys placed
if_found (Err fault) s showed known e n same to_scan node keys placed = tt

-- ---- between an earlier and a later moment

module _ (s : Scan) (showed showed' : Place → List ℕ → Type 0) (wider : (place : Place) (bytes : List ℕ) → showed place bytes → showed' place bytes) where
  pub node_wider : (e : Entry) (n : Contents) → IsNodeOf s.layer showed e n → IsNodeOf s.layer showed' e n
  node_wider e n node = record { right = node.right; level_is = node.level_is; digest_is = node.digest_is; long = node.long; shown = wider _ _ node.shown }

  nodes_wider : (es : List Entry) (ns : List Contents) → HaveNodes s showed es ns → HaveNodes s showed' es ns
  nodes_wider [] ns have = have
  nodes_wider (e ∷ es) ns (inl over) = inl (over.0, nodes_wider es ns over.1)
  nodes_wider (e ∷ es) ns (inr has) = inr (has.0, (has.1.0, (has.1.1.0, has.1.1.1, node_wider e has.0 has.1.1.2, nodes_wider es has.1.0 has.1.1.3)))

  pub finds_wider : (es : List Entry) (found : List KeyPlace) → FindsChildren s showed es found → FindsChildren s showed' es found
  finds_wider es found finds = record { nodes = finds.nodes; nodes_are = nodes_wider es finds.nodes finds.nodes_are; keys_are = finds.keys_are; placed = finds.placed }

  corrupt_wider : (e : Entry) (slot offset count : ℕ) (want got : List ℕ) → IsCorrupt showed (place_in s.layer e) e.digest slot offset count want got
      → IsCorrupt showed' (place_in s.layer e) e.digest slot offset count want got
  corrupt_wider e slot offset count want got cause = record {
    slot_is = cause.slot_is;
    offset_is = cause.offset_is;
    count_is = cause.count_is;
    want_is = cause.want_is;
    differ = cause.differ;
    bytes = cause.bytes;
    long = cause.long;
    shown = wider _ _ cause.shown;
    digest_is = cause.digest_is;
  }

  no_node_wider : (e : Entry) (at : ℕ) (why : Why) → IsNoNode s.layer showed e at why → IsNoNode s.layer showed' e at why
  no_node_wider e at why cause = record {
    bytes = cause.bytes;
    long = cause.long;
    shown = wider _ _ cause.shown;
    digest_is = cause.digest_is;
    at_is = cause.at_is;
    wrong_is = cause.wrong_is;
  }

  module _ (damaged damaged' : ℕ → Why → Type 0) (wider_still : (at : ℕ) (why : Why) → damaged at why → damaged' at why) where
    pub entry_fault_wider : (e : Entry) (fault : ScanFault) → IsEntryFault s showed damaged e fault → IsEntryFault s showed' damaged' e fault
    entry_fault_wider e Memory cause = tt
    entry_fault_wider e DiskRead cause = cause
    entry_fault_wider e (Corrupt slot offset count want got) cause = (cause.0, corrupt_wider e slot offset count want got cause.1)
    entry_fault_wider e (Missing key) cause = (cause.0, (cause.1.0, node_wider e cause.0 cause.1.1, cause.1.2))
    entry_fault_wider e (Damaged at why) (inl by_index) = inl (by_index.0, wider_still at why by_index.1)
    entry_fault_wider e (Damaged at why) (inr (inl no_node)) = inr (inl (no_node.0, no_node_wider e at why no_node.1))
    entry_fault_wider e (Damaged at why) (inr (inr wrong)) = inr (inr (wrong.0, (wrong.1.0, node_wider e wrong.0 wrong.1.1, wrong.1.2)))

-- why a child's place is not given is why the entry is not scanned
pub child_lacks : (s : Scan) (showed : Place → List ℕ → Type 0) (known : Option PlaceMap) (damaged damaged' : ℕ → Why → Type 0) (e : Entry) (n : Contents) (fault : ScanFault) →
    known ≡ s.known
    → ((at : ℕ) (why : Why) → damaged at why → damaged' at why) → IsToScan s e → IsNodeOf s.layer showed e n → IsChildFault known damaged n fault →
    IsEntryFault s showed damaged' e fault
child_lacks s showed known damaged damaged' e n Memory same wider to_scan node cause = tt
child_lacks s showed known damaged damaged' e n DiskRead same wider to_scan node cause = was_asked s e to_scan
child_lacks s showed known damaged damaged' e n (Corrupt slot offset count want got) same wider to_scan node cause = absurd cause
child_lacks s showed known damaged damaged' e n (Missing key) same wider to_scan node cause = (n, (to_scan, node, subst (λ (k : Option PlaceMap). LacksChild k n key) same cause))
child_lacks s showed known damaged damaged' e n (Damaged at why) same wider to_scan node (inl by_index) = inl (was_asked s e to_scan, wider at why by_index)
child_lacks s showed known damaged damaged' e n (Damaged at why) same wider to_scan node (inr wrong) =
    inr (inr (n, (to_scan, node, subst (λ (k : Option PlaceMap). MisplacesChild k n at why) same wrong)))

-- ---- entry after entry

module _ (s : Scan) (showed : Place → List ℕ → Type 0) where
  nodes_append : (es fs : List Entry) (ns ms : List Contents) → HaveNodes s showed es ns → HaveNodes s showed fs ms → HaveNodes s showed (es ++ fs) (ns ++ ms)
  nodes_append [] fs ns ms have more = subst (λ (all : List Contents). HaveNodes s showed fs (all ++ ms)) (sym have) more
  nodes_append (e ∷ es) fs ns ms (inl over) more = inl (over.0, nodes_append es fs ns ms over.1 more)
  nodes_append (e ∷ es) fs ns ms (inr has) more =
      inr (has.0, (has.1.0 ++ ms, (ap (λ (all : List Contents). all ++ ms) has.1.1.0, has.1.1.1, has.1.1.2, nodes_append es fs has.1.0 ms has.1.1.3 more)))

  finds_append : (es fs : List Entry) (found more : List KeyPlace) → FindsChildren s showed es found → FindsChildren s showed fs more →
      FindsChildren s showed (es ++ fs) (found ++ more)
  finds_append es fs found more first then = record {
    nodes = first.nodes ++ then.nodes;
    nodes_are = nodes_append es fs first.nodes then.nodes first.nodes_are then.nodes_are;
    keys_are = map-append (λ (x : KeyPlace). x.key) found more ∙ ap (λ (keys : List (List ℕ)). keys ++ keys_of more) first.keys_are
        ∙ ap (λ (keys : List (List ℕ)). flat_map child_keys first.nodes ++ keys) then.keys_are ∙ sym (flat_map-append child_keys first.nodes then.nodes);
    placed = All-append (IsPlacedAt s.known (s.layer.level - 1)) found more first.placed then.placed;
  }

  pub finds_more : (entries : List Entry) (i : ℕ) (d : Entry) (found more taken after : List KeyPlace) → i < length entries → FindsChildren s showed (take i entries) found
      → FindsChildren s showed (get_or entries i d ∷ []) more → taken ≡ more → after ≡ found ++ taken → FindsChildren s showed (take (i + 1) entries) after
  finds_more entries i d found more taken after within first then same is =
      let all : after ≡ found ++ more = is ∙ ap (λ (fs : List KeyPlace). found ++ fs) same in
      subst (λ (es : List Entry). FindsChildren s showed es after) (sym (take_more entries i d within))
      (subst (FindsChildren s showed (take i entries ++ get_or entries i d ∷ [])) (sym all) (finds_append (take i entries) (get_or entries i d ∷ []) found more first then))

  module _ (damaged : ℕ → Why → Type 0) where
    stuck_is : (entries : List Entry) (fault : ScanFault) → IsStuck s showed damaged entries fault → IsScanFault s showed damaged entries fault
    stuck_is entries Memory stuck = tt
    stuck_is entries DiskRead stuck = stuck
    stuck_is entries (Corrupt slot offset count want got) stuck = stuck
    stuck_is entries (Missing key) stuck = stuck
    stuck_is entries (Damaged at why) stuck = stuck

    pub stuck_at : (entries : List Entry) (i : ℕ) (d : Entry) (found : List KeyPlace) (fault : ScanFault) → i < length entries → FindsChildren s showed (take i entries) found
        → IsEntryFault s showed damaged (get_or entries i d) fault → IsScanFault s showed damaged entries fault
    stuck_at entries i d found fault within finds cause = stuck_is entries fault (record {
      before = take i entries;
      at = get_or entries i d;
      after = drop (i + 1) entries;
      entries_are = sym (take-append-drop i entries) ∙ ap (λ (es : List Entry). take i entries ++ es) (drop_more entries i d within);
      found = found;
      passed = finds;
      cause = cause;
    })
