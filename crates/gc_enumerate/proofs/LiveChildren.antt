-- What is live once the children of a container's nodes are marked.
use Rattle.std.proofs.Common.{◌≡◌, inl, inr, ℕ, ◌-◌, List, [], ◌∷◌, ◌++◌, length, refl, sym, subst, arith}
use Rattle.std.specs.Prelude.{Option, Some, Result, Ok, Err, IfErr, IsErrAnd}
use Rattle.std.proofs.lemmas.Result.{err_from_is_err_and}
use Rattle.std.specs.List.{All, AllByRecursion, Contains, flat_map}
use Rattle.std.proofs.lemmas.List.{take_all}
use Rattle.std.proofs.lemmas.List.Elements.{All-from_recursion, recursion_from_All, All-nil, All-cons, All-contains, Contains-append_cases, Contains-append_right}
use Rattle.container_meta.specs.declared.entry.Entry.{Entry}
use Rattle.container_meta.specs.declared.place.Place.{Place}
use Rattle.container_meta.specs.Places.{PlaceMap}
use Rattle.merkle_file.specs.Node.{Contents}
use Rattle.gc_enumerate.specs.declared.fault.ScanFault.{ScanFault}
use Rattle.gc_enumerate.specs.declared.fault.ScanFault.TheVariants.{Memory, DiskRead, Corrupt, Missing, Damaged}
use Rattle.gc_enumerate.specs.declared.layer.KeyPlace.{KeyPlace}
use Rattle.gc_enumerate.specs.Live.{IsLiveAt, LiveKeys, SharesMark}
use Rattle.gc_enumerate.specs.Marking.{AddsMarks, AddsSome, ChildrenAreLive, HasLiveChildren, IsAmong, IsLiveOf, LeavesMarks, MarksChildren}
use Rattle.gc_enumerate.specs.Scanning.{FindsChildren, HaveNodes, IsPlacedAt, Scan, child_keys, keys_of}
use Rattle.gc_enumerate.proofs.MarkLaws.{own_mark}
use Rattle.gc_enumerate.proofs.Marks.{marks_none}
use Rattle.gc_enumerate.proofs.Scans.{finds_none}

-- each key that was marked is live
module _ (known : Option PlaceMap) (old new : LiveKeys) where
  all_live : (level : ℕ) (found : List KeyPlace) → AllByRecursion (IsPlacedAt known level) found → ((f : KeyPlace) → IsAmong f.key f.place found → IsLiveAt new f.key f.place)
      → AllByRecursion (IsLiveOf known new level) (keys_of found)
  all_live level [] placed live = tt
  all_live level (f ∷ fs) placed live =
      ((f.place, (placed.0.0, live f (inl (own_mark f.key f.place)), placed.0.1)), all_live level fs placed.1 (λ g among. live g (inr among)))

first_part : {X : Type 0} (P : X → Type 0) (xs ys : List X) → AllByRecursion P (xs ++ ys) → AllByRecursion P xs
first_part P [] ys all = tt
first_part P (x ∷ xs) ys all = (all.0, first_part P xs ys all.1)

last_part : {X : Type 0} (P : X → Type 0) (xs ys : List X) → AllByRecursion P (xs ++ ys) → AllByRecursion P ys
last_part P [] ys all = all
last_part P (x ∷ xs) ys all = last_part P xs ys all.1

module _ (s : Scan) (showed : Place → List ℕ → Type 0) (new : LiveKeys) (m : PlaceMap) (is_known : s.known ≡ Some m) where
  abbrev LiveBelow : ℕ → List ℕ → Type 0
  LiveBelow level = IsLiveOf s.known new (level - 1)

  each_has : (es : List Entry) (nodes : List Contents) → HaveNodes s showed es nodes → AllByRecursion (LiveBelow s.layer.level) (flat_map child_keys nodes)
      → All (HasLiveChildren s showed new) es
  each_has [] nodes have live = All-nil _
  each_has (e ∷ es) nodes (inl over) live = All-cons (HasLiveChildren s showed new) e es (λ to_scan. absurd (over.0 m is_known to_scan)) (each_has es nodes over.1 live)
  each_has (e ∷ es) nodes (inr has) live =
      let split : AllByRecursion (LiveBelow s.layer.level) (child_keys has.0 ++ flat_map child_keys has.1.0) =
      subst (λ (ns : List Contents). AllByRecursion (LiveBelow s.layer.level) (flat_map child_keys ns)) has.1.1.0 live in
      let own : All (LiveBelow s.layer.level) (child_keys has.0) =
      All-from_recursion (LiveBelow s.layer.level) (child_keys has.0) (first_part (LiveBelow s.layer.level) (child_keys has.0) (flat_map child_keys has.1.0) split) in
      All-cons (HasLiveChildren s showed new) e es
      (λ to_scan. (has.0, (has.1.1.2, subst (λ (level : ℕ). All (LiveBelow level) (child_keys has.0)) (sym has.1.1.2.level_is) own)))
      (each_has es has.1.0 has.1.1.3 (last_part (LiveBelow s.layer.level) (child_keys has.0) (flat_map child_keys has.1.0) split))

pub children_live : (s : Scan) (showed : Place → List ℕ → Type 0) (entries : List Entry) (found : List KeyPlace) (new : LiveKeys) → FindsChildren s showed entries found →
    AddsMarks found s.live new
    → ChildrenAreLive s showed entries new
children_live s showed entries found new finds marks m is_known =
    each_has s showed new m is_known entries finds.nodes finds.nodes_are
    (subst (AllByRecursion (IsLiveOf s.known new (s.layer.level - 1))) finds.keys_are
    (all_live s.known s.live new (s.layer.level - 1) found (recursion_from_All (IsPlacedAt s.known (s.layer.level - 1)) found finds.placed)
    (λ f among. (marks f.key f.place).1 (inr among))))

-- a refusal that comes before any is marked, and one for want of memory once all were found
pub leaves_none : {T : Type 0} (s : Scan) (showed : Place → List ℕ → Type 0) (entries : List Entry) (result : Result T ScanFault)
    → IfErr result (LeavesMarks s showed entries s.live)
leaves_none s showed entries (Ok x) = tt
leaves_none s showed entries (Err Memory) = record { count = 0; found = []; finds = finds_none s showed; marks = ([], ([], (refl, marks_none s.live))) }
leaves_none s showed entries (Err DiskRead) = refl
leaves_none s showed entries (Err (Corrupt slot offset count want got)) = refl
leaves_none s showed entries (Err (Missing key)) = refl
leaves_none s showed entries (Err (Damaged at why)) = refl

pub leaves_some : {T : Type 0} (s : Scan) (showed : Place → List ℕ → Type 0) (entries : List Entry) (found : List KeyPlace) (new : LiveKeys)
    → FindsChildren s showed entries found → AddsSome found s.live new → (result : Result T ScanFault) → IsErrAnd result (λ e. e ≡ Memory)
    → IfErr result (LeavesMarks s showed entries new)
leaves_some s showed entries found new finds marks result memory =
    let p = err_from_is_err_and result memory in
    rw (p.1, p.2) (record {
      count = length entries;
      found = found;
      finds = subst (λ (es : List Entry). FindsChildren s showed es found) (sym (take_all (length entries) entries (omega arith))) finds;
      marks = marks;
    })

-- ---- just the children

only_one : (a b : List ℕ) → Contains (a ∷ []) b → a ≡ b
only_one a b there = All-contains (λ x. a ≡ x) (a ∷ []) b (All-cons (λ x. a ≡ x) a [] refl (All-nil _)) there

module _ (key : List ℕ) (place : Place) where
  pub among_keys : (found : List KeyPlace) → IsAmong key place found → Contains (keys_of found) key
  unfolding SharesMark
  among_keys [] among = absurd among
  among_keys (f ∷ fs) (inl here) = (0, omega arith, sym here)
  among_keys (f ∷ fs) (inr later) = Contains-append_right (f.key ∷ []) (keys_of fs) key (among_keys fs later)

  keys_among : (found : List KeyPlace) → Contains (keys_of found) key → IsAmong key place found
  unfolding SharesMark
  keys_among [] there = absurd (omega (arith, there.1))
  keys_among (f ∷ fs) there = elim (Contains-append_cases (f.key ∷ []) (keys_of fs) key there) [
    | inl here ↦ inl (sym (only_one f.key key here))
    | inr later ↦ inr (keys_among fs later)
  ]

pub marks_children : (s : Scan) (showed : Place → List ℕ → Type 0) (entries : List Entry) (found : List KeyPlace) (new : LiveKeys) → FindsChildren s showed entries found →
    AddsMarks found s.live new
    → MarksChildren s showed entries new
marks_children s showed entries found new finds marks = record {
  found = found;
  finds = finds;
  marks = marks;
  exact = λ m is_known apart key place has. (
    λ live. elim ((marks key place).0 live) [
      | inl was ↦ inl was
      | inr among ↦ inr (subst (λ (keys : List (List ℕ)). Contains keys key) finds.keys_are (among_keys key place found among))
    ],
    λ is. elim is [
      | inl was ↦ (marks key place).1 (inl was)
      | inr child ↦ (marks key place).1 (inr (keys_among key place found (subst (λ (keys : List (List ℕ)). Contains keys key) (sym finds.keys_are) child)))
    ],
  );
}
