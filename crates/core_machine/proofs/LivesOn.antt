-- Just the keys of which a predicate holds are live, also after a step that is none of the collection, of which another holds then: of what the
-- step keeps too. That is pinned, as are the children of a node that it keeps, so that all these are live; and what was live and held whole
-- stays so.
use Rattle.core_machine.proofs.Prelude.{AllByRecursion, Answer, AreHeaders, Bool, ChangesTo, Collects, Contains-append_cases, Contains-append_left, Contains-append_right, CoreState, Event, Filter, HasKey, HeaderValue, HoldsNode, HoldsPart, IsAt, IsClosedAt, IsKeptKey, IsLive, IsLiveAt, IsLiveAtStage, IsPartKey, IsRoot, IsSafeAt, IsSafeIn, IsWithin, Kind, List, LiveKeys, LivesJust, Mark, MarksIn, NextOn, None, Ok, Option, PinMap, Place, PlaceMap, Refusal, Result, Row, SLOT_BYTES, Segment, Some, StepValue, Steps, Store, Stored, SweepIsSafe, [], all_part, ap, apart, arith, bytes_at, changes_by, child_keys, children_by, contained, contains_first, contains_none, contains_one, contents_in, false, in_set, inl, inr, key_set, length, names_of, newest, node_key, pin_of, refl, segment_key, slice_get, slot_at, some_same, subst, sym, true, ℕ, ◌++◌, ◌+◌, ◌-◌, ◌<◌, ◌↔◌, ◌∙◌, ◌∷◌, ◌≡◌, ◌⊎◌}
use Rattle.std.proofs.Common.{map}
use Rattle.std.specs.Prelude.{Contains}
use Rattle.std.specs.FinMap as finite
use Rattle.std.proofs.lemmas.Option.{slice_get-get_or}
use Rattle.base_model.specs.Bytes.{range}
use Rattle.base_model.proofs.Ranges.{range-range}
use Rattle.container_meta.specs.declared.kind.Kind.TheVariants.{Leaf, Tree}
use Rattle.merkle_file.specs.declared.node.Child.{Child}
use Rattle.merkle_file.specs.Node.{Contents, IsNode, spelling}
use Rattle.actor_parts.specs.declared.part.Part.{Part}
use Rattle.actor_parts.specs.declared.part.Part.TheVariants.{Idle, Writing}
use Rattle.actor_parts.specs.declared.step.Answer.TheVariants as answers
use Rattle.actor_parts.specs.Parts.{part_of, with_part}
use Rattle.actor_parts.specs.PinMap.{has_pin}
use Rattle.actor_parts.specs.Segments.{IsOfKind, child_pin}
use Rattle.actor_parts.specs.StepValue as asked
use Rattle.gc_enumerate.specs.Scanning.{child_key}
use Rattle.store_model.specs.Slots.{Copy}
use Rattle.store_model.proofs.Copies.{lies}
use Rattle.store_model.proofs.Frames.{SameSlot, copy_kept}
use Rattle.store_model.proofs.OneNode.{one_spelling}
use Rattle.store_state.specs.Invariant.{ArePinsOf}
use Rattle.ingest_steps.specs.Claiming.{key_of_seg}
use Rattle.gc_steps.specs.declared.collection.Collection.{Collection}
use Rattle.gc_steps.specs.declared.collection.Stage.{Stage}
use Rattle.gc_steps.specs.Roots.{Marks}
use Rattle.gc_steps.proofs.ChildTrees.{leaf_apart}
use Rattle.gc_steps.proofs.ClaimedPin.{one_more}
use Rattle.gc_steps.proofs.Marked.{marks_none}
use Rattle.gc_steps.proofs.PinnedTrees.{pin_found}
use Rattle.std.specs.Prelude.{take, ◌+◌, ◌-◌}
use Rattle.ingest_steps.specs.Offering.{with_pins_of}
use Rattle.store_core.specs.Collecting.{keys_in}
use Rattle.store_core.specs.Frame.{HadContainer}
use Rattle.store_core.proofs.ManySealed.{comes_all, pins_all}
use Rattle.store_core.proofs.RootsKept.{within_parts}
use Rattle.core_machine.proofs.LiveTrees.{below_on, live_below, live_on}
use Rattle.core_machine.proofs.PlainSteps.{IsPlainStep}

-- ---- what is needed

-- What was needed is needed still, and so is what a step kept; and nothing else is.
pub record NeedsMore (K before after : List ℕ → Type 0) : Type 0 where
  pub still : (key : List ℕ) → before key → after key
  pub gained : (key : List ℕ) → K key → after key
  pub told : (key : List ℕ) → after key → before key ⊎ K key

-- where keys are listed that are needed, and these come to them
pub needs_more : (K F : List ℕ → Type 0) (keys more : List (List ℕ)) → ((key : List ℕ) → Contains more key ↔ K key)
    → NeedsMore K (λ key. F key ⊎ Contains keys key) (λ key. F key ⊎ Contains (keys ++ more) key)
needs_more K F keys more same = record {
  still = λ key is. elim is [ inl other ↦ inl other | inr kept ↦ inr (Contains-append_left keys more key kept) ];
  gained = λ key is. inr (Contains-append_right keys more key ((same key).1 is));
  told = λ key is. elim is [
    | inl other ↦ inl (inl other)
    | inr kept ↦ elim (Contains-append_cases keys more key kept) [ inl was ↦ inl (inr was) | inr now ↦ inr ((same key).0 now) ]
  ];
}

-- where it keeps none
pub needs_same : (K P : List ℕ → Type 0) → ((key : List ℕ) → K key → ⊥) → NeedsMore K P P
needs_same K P none = record { still = λ key is. is; gained = λ key is. absurd (none key is); told = λ key is. inl is }

-- ---- keys that a step keeps

contains_tells : (keys : List (List ℕ)) (key : List ℕ) → Contains keys key ⊎ (Contains keys key → ⊥)
contains_tells keys key = by_test (key_set keys key) refl
  where
    by_test : (b : Bool) → key_set keys key ≡ b → Contains keys key ⊎ (Contains keys key → ⊥)
    by_test true has = inl (contained key keys has)
    by_test false lacks = inr (λ there. let wrong : true ≡ false = sym (in_set key keys there) ∙ lacks in cc)

kept_tells : (step : StepValue) (answer : Result Answer Refusal) (key : List ℕ) → IsKeptKey step answer key ⊎ (IsKeptKey step answer key → ⊥)
kept_tells (asked.Claim seg) (Ok answers.Held) key = elim (contains_tells (segment_key seg.kind seg.segment ∷ []) key) [
  | inl there ↦ inl ((contains_one (segment_key seg.kind seg.segment) key).0 there)
  | inr other ↦ inr (λ same. other ((contains_one (segment_key seg.kind seg.segment) key).1 same))
]
kept_tells (asked.Seal offered) (Ok (answers.Sealed id count)) key = contains_tells (keys_in (take count offered)) key
kept_tells step answer key = inr (λ none. none)

-- ---- copies

-- the newest copy of a key that a step doesn't keep is the same
newest_kept : (s t : Store) (step : StepValue) (answer : Result Answer Refusal) → ChangesTo (changes_by step answer) s t → (key : List ℕ) → (IsKeptKey step answer key → ⊥)
    → newest 0 t.held key ≡ newest 0 s.held key
newest_kept s t (asked.Seal offered) (Ok (answers.Sealed id count)) chain key other = (comes_all (id + 1 - count) (take count offered) s t chain).same key other
newest_kept s t (asked.Commit name root) (Ok answer) chain key other = ap (λ (u : Store). newest 0 u.held key) chain.1
newest_kept s t (asked.Delete name) (Ok answer) chain key other = ap (λ (u : Store). newest 0 u.held key) chain.1
newest_kept s t step answer chain key other = ap (λ (u : Store). newest 0 u.held key) chain

-- each container stands
abbrev pub StandOn : Store → Store → Type 0
StandOn store after = (slot : ℕ) (h : HeaderValue) → slice_get store.held slot ≡ Some (Some h) → slice_get after.held slot ≡ Some (Some h)

pub stands_by : (store after : Store) (step : StepValue) (answer : Result Answer Refusal) → ChangesTo (changes_by step answer) store after → StandOn store after
stands_by store after (asked.Seal offered) (Ok (answers.Sealed id count)) chain slot h there =
    (comes_all (id + 1 - count) (take count offered) store after chain).stand slot h there
stands_by store after (asked.Commit name root) (Ok answer) chain slot h there = subst (λ (s : Store). slice_get s.held slot ≡ Some (Some h)) (sym chain.1) there
stands_by store after (asked.Delete name) (Ok answer) chain slot h there = subst (λ (s : Store). slice_get s.held slot ≡ Some (Some h)) (sym chain.1) there
stands_by store after step answer chain slot h there = subst (λ (s : Store). slice_get s.held slot ≡ Some (Some h)) (sym chain) there

same_slot : (slot : ℕ) (old new : List ℕ) → range (slot_at slot) SLOT_BYTES new ≡ range (slot_at slot) SLOT_BYTES old → SameSlot slot old new
same_slot slot old new same p n above within =
    let place : p ≡ slot_at slot + (p - slot_at slot) = omega (arith, above) in
    ap (λ (q : ℕ). range q n new) place
    ∙ sym (range-range (p - slot_at slot) n (slot_at slot) SLOT_BYTES new (omega (arith, above, within)))
    ∙ ap (range (p - slot_at slot) n) same
    ∙ range-range (p - slot_at slot) n (slot_at slot) SLOT_BYTES old (omega (arith, above, within))
    ∙ ap (λ (q : ℕ). range q n old) (sym place)

-- the slots that have a container keep their bytes
abbrev pub KeepsSlots : Store → List ℕ → List ℕ → Type 0
KeepsSlots s base image = (slot : ℕ) → slot < s.slots → HadContainer s slot → range (slot_at slot) SLOT_BYTES image ≡ range (slot_at slot) SLOT_BYTES base

-- and so does each copy
copy_stays : (s : Store) (base image : List ℕ) → KeepsSlots s base image → length s.held ≡ s.slots → AreHeaders s.held → (key : List ℕ) (copy : Copy)
    → newest 0 s.held key ≡ Some copy → bytes_at copy.place image ≡ bytes_at copy.place base
copy_stays s base image keeps many headers key copy is =
    let l = lies 0 s.held key copy is in
    let slot : l.index ≡ copy.place.slot = omega (arith, ap (λ (c : Copy). c.place.slot) l.copy_is) in
    let there : slice_get s.held copy.place.slot ≡ Some (Some l.header) = ap (slice_get s.held) (sym slot) ∙ slice_get-get_or s.held l.index None l.within ∙ ap Some l.there in
    copy_kept base image s.held key copy headers is (same_slot copy.place.slot base image (keeps copy.place.slot (omega (arith, l.within, slot, many)) (l.header, there)))

-- ---- pins

writes_within : (parts : List Part) (actor : ℕ) (pins : PinMap) → part_of parts actor ≡ Writing pins → actor < length parts
writes_within parts actor pins writing = within_parts parts actor (λ idle. let wrong : Idle ≡ Writing pins = sym idle ∙ writing in cc)

-- An actor has the key pinned.
record IsPinnedBy (parts : List Part) (actor : ℕ) (key : List ℕ) : Type 0 where
  pins : PinMap
  writing : part_of parts actor ≡ Writing pins
  pinned : IsPartKey (Writing pins) key

-- so it has each that its step keeps
kept_pinned : (step : StepValue) (actor : ℕ) (answer : Result Answer Refusal) (buf : List ℕ) (old new : CoreState) → Row step actor answer buf old new → (key : List ℕ)
    → IsKeptKey step answer key
    → IsPinnedBy new.parts actor key
kept_pinned step actor answer buf old new row key kept = by_step step answer row kept
  where
    pins_now : (pins more : PinMap) → part_of old.parts actor ≡ Writing pins → new.parts ≡ with_part old.parts actor (Writing more) → part_of new.parts actor ≡ Writing more
    pins_now pins more writing is =
        ap (λ (parts : List Part). part_of parts actor) is ∙ apart.same old.parts actor (Writing more) (writes_within old.parts actor pins writing)

    by_step : (step : StepValue) (answer : Result Answer Refusal) → Row step actor answer buf old new → IsKeptKey step answer key → IsPinnedBy new.parts actor key
    by_step (asked.Claim seg) (Ok answers.Held) row same =
        let may = row.claimed.may in
        record {
          pins = finite.insert may.pins (key_of_seg seg) (pin_of seg);
          writing = pins_now may.pins (finite.insert may.pins (key_of_seg seg) (pin_of seg)) may.writing row.claimed.parts_are;
          pinned = (one_more may.pins (key_of_seg seg) (pin_of seg) key).1 (inr same);
        }
    by_step (asked.Seal offered) (Ok (answers.Sealed id count)) row there =
        let may = row.may in
        record {
          pins = with_pins_of (take count offered) may.pins;
          writing = pins_now may.pins (with_pins_of (take count offered) may.pins) may.writing row.parts_are;
          pinned = (pins_all (take count offered) may.pins key).1 (inr there);
        }
    by_step step answer row none = absurd none

module _ (P : List ℕ → Type 0) (held : List (Option HeaderValue)) (image : List ℕ) (pins : PinMap) (all : ArePinsOf P held image pins) where
  abbrev ArePinned : ℕ → List Child → Type 0
  ArePinned level cs = AllByRecursion (λ c. has_pin pins c.key c.pin ≡ true) (map (child_pin level) cs)

  each_pinned : (level : ℕ) (cs : List Child) → ArePinned level cs → (key : List ℕ) → Contains (map (child_key level) cs) key → IsPartKey (Writing pins) key
  each_pinned level [] are key there = absurd (contains_none key there)
  each_pinned level (c ∷ cs) are key there = elim (contains_first (child_key level c) key (map (child_key level) cs) there) [
    | inl same ↦ ((child_pin level c).pin, ap (finite.get pins) same ∙ pin_found (child_pin level c).pin (finite.get pins (child_key level c)) are.0)
    | inr later ↦ each_pinned level cs are.1 key later
  ]

  -- a segment that has the bytes of a node is that node
  segment_pinned : (n : Contents) → IsNode n → (kind : Kind) (x : Segment) → segment_key kind x ≡ node_key n → IsOfKind kind x → x.bytes ≡ spelling n
      → AllByRecursion (λ c. has_pin pins c.key c.pin ≡ true) (children_by kind x) → (key : List ℕ) → Contains (child_keys n) key → IsPartKey (Writing pins) key
  segment_pinned n right Leaf x key_is of spelled are = absurd (leaf_apart x.bytes n key_is)
  segment_pinned n right Tree x key_is of spelled are =
      let same : contents_in x.bytes ≡ n = one_spelling (contents_in x.bytes) n of.bytes.node right (sym of.bytes.spelled ∙ spelled) in
      each_pinned n.level n.children (subst (λ (m : Contents). ArePinned m.level m.children) same
      (subst (λ (level : ℕ). ArePinned level (contents_in x.bytes).children) of.level are))

  -- The children of a node whose key is pinned are pinned, too.
  pub children_pinned : (n : Contents) (copy : Copy) → HoldsNode held image n copy → IsPartKey (Writing pins) (node_key n) → (key : List ℕ) → Contains (child_keys n) key
      → IsPartKey (Writing pins) key
  children_pinned n copy node pinned =
      let is = all (node_key n) pinned.0 pinned.1 in
      let same : is.newest.copy ≡ copy = some_same is.newest.copy copy (sym is.newest.copy_is ∙ node.copy_is) in
      segment_pinned n node.right is.segment.kind is.segment.segment is.key_is is.right
      (sym is.newest.bytes_are ∙ ap (λ (c : Copy). bytes_at c.place image) same ∙ node.bytes_are) is.children

-- ---- the collection

unmarked : (P : List ℕ → Type 0) (was now : Option Collection) → ((key : List ℕ) → P key → ⊥) → now ≡ was → MarksIn P was now
unmarked P None now none same = same
unmarked P (Some c) now none same = (c.live, (same, marks_none P c.live none))

-- just what a step keeps became live
marks_kept : (step : StepValue) (answer : Result Answer Refusal) (old new : CoreState) → IsPlainStep step → Collects step answer old new
    → MarksIn (IsKeptKey step answer) old.collection new.collection
marks_kept (asked.Claim seg) answer old new plain collects = collects
marks_kept (asked.Seal offered) answer old new plain collects = collects
marks_kept (asked.GcStart percent) answer old new plain collects = absurd plain
marks_kept asked.GcStep answer old new plain collects = absurd plain
marks_kept step answer old new plain collects = unmarked (IsKeptKey step answer) old.collection new.collection (λ key none. none) collects

module _ (S : List ℕ → Type 0) (s : Store) (stored later : Stored) (old new : CoreState) (e : Event) (at : IsAt S s stored old)
    (next : NextOn S s (changes_by e.step e.answer) later old new) (plain : IsPlainStep e.step) (steps : Steps e old new)
    (base image : List ℕ) (was : old.disk.content ≡ Some base) (now : new.disk.content ≡ Some image) (keeps : KeepsSlots s base image) where
  abbrev K : List ℕ → Type 0
  K = IsKeptKey e.step e.answer

  -- what the step leads to
  abbrev t : Store
  t = next.next.store

  abbrev then : IsAt S t later new
  then = next.next.is_at

  abbrev chain : ChangesTo (changes_by e.step e.answer) s t
  chain = next.next.chain

  -- the index keeps its keys
  abbrev keys_on : (key : List ℕ) → HasKey at.index key → HasKey then.index key
  keys_on = next.keys at.index then.index at.index_known then.index_known

  -- a node that the step doesn't keep was held
  node_before : (n : Contents) (copy : Copy) → HoldsNode t.held image n copy → (K (node_key n) → ⊥) → HoldsNode s.held base n copy
  node_before n copy node other =
      let is : newest 0 s.held (node_key n) ≡ Some copy = sym (newest_kept s t e.step e.answer chain (node_key n) other) ∙ node.copy_is in
      record {
        right = node.right;
        copy_is = is;
        bytes_are = sym (copy_stays s base image keeps at.valid.many at.valid.headers (node_key n) copy is) ∙ node.bytes_are;
      }

  -- what its actor pins is a root from then on
  pinned_root : (pins : PinMap) → part_of new.parts e.actor ≡ Writing pins → (key : List ℕ) → IsPartKey (Writing pins) key → IsRoot (names_of t) new.parts key
  pinned_root pins writing key pinned =
      inr (e.actor, (omega (arith, writes_within new.parts e.actor pins writing, then.many), subst (λ (p : Part). IsPartKey p key) (sym writing) pinned))

  -- and so is what the step keeps
  kept_root : (key : List ℕ) → K key → IsRoot (names_of t) new.parts key
  kept_root key kept =
      let is = kept_pinned e.step e.actor e.answer e.buf old new steps.made.row key kept in
      pinned_root is.pins is.writing key is.pinned

  -- while it marks, the children of one that the step keeps are live
  children_live : (level slot : ℕ) (c : Collection) → IsSafeAt (Mark level slot) then.index t new.parts image c → (n : Contents) (copy : Copy) → HoldsNode t.held image n copy
      → K (node_key n)
      → (key : List ℕ) → Contains (child_keys n) key → (place : Place) × IsLiveAt c.live key place
  children_live level slot c safe n copy node kept key child =
      let is = kept_pinned e.step e.actor e.answer e.buf old new steps.made.row (node_key n) kept in
      let all : ArePinsOf (HasKey then.index) t.held image is.pins =
      subst (HoldsPart (HasKey then.index) t.held image) is.writing (all_part (HoldsPart (HasKey then.index) t.held image) new.parts e.actor tt
      (then.invariant image now).pins_are_closed) in
      let pinned : IsPartKey (Writing is.pins) key = children_pinned (HasKey then.index) t.held image is.pins all n copy node is.pinned key child in
      let live = safe.roots_are_live key (pinned_root is.pins is.writing key pinned) in
      (live.0, live.1.1)

  module _ (before after : List ℕ → Type 0) (more : NeedsMore K before after) where
    within_on : (old_live live : LiveKeys) → Marks K old_live live → IsWithin before old_live → IsWithin after live
    within_on old_live live marks within key place is = elim ((marks key place).0 is) [
      | inl lived ↦ more.still key (within key place lived)
      | inr kept ↦ more.gained key kept
    ]

    needed_before : (key : List ℕ) → (K key → ⊥) → after key → before key
    needed_before key other needed = elim (more.told key needed) [
      | inl is ↦ is
      | inr kept ↦ absurd (other kept)
    ]

    closed_on : (stage : Stage) (c : Collection) → IsWithin after c.live → IsSafeAt stage then.index t new.parts image c → IsClosedAt stage before s.held base
        → IsClosedAt stage after t.held image
    closed_on (Mark level slot) c within safe closed = λ n copy node needed key child. elim (kept_tells e.step e.answer (node_key n)) [
      | inl kept ↦ let live = children_live level slot c safe n copy node kept key child in within key live.0 live.1
      | inr other ↦ more.still key (closed n copy (node_before n copy node other) (needed_before (node_key n) other needed) key child)
    ]
    closed_on (Filter slot) c within safe closed = tt
    closed_on other c within safe closed = tt

    -- once it has marked, each key that was needed is live
    live_after : (old_live : LiveKeys) (c : Collection) → Marks K old_live c.live → SweepIsSafe then.index t new.parts image c
        → ((key : List ℕ) → before key → IsLive at.index old_live key) → (key : List ℕ) → after key
        → IsLive then.index c.live key
    live_after old_live c marks safe all key needed = elim (more.told key needed) [
      | inl is ↦ live_on at.index then.index keys_on old_live c.live (λ k place lived. (marks k place).1 (inl lived)) key (all key is)
      | inr kept ↦ safe.roots_are_live key (kept_root key kept)
    ]

    -- by the stage: while it marks, each is below a live key
    all_on : (stage : Stage) (old_live : LiveKeys) (c : Collection) → Marks K old_live c.live → IsSafeAt stage then.index t new.parts image c
        → ((key : List ℕ) → before key → IsLiveAtStage stage at.index s.held base old_live key) → (key : List ℕ) → after key
        → IsLiveAtStage stage then.index t.held image c.live key
    all_on (Mark level slot) old_live c marks safe all key needed = elim (more.told key needed) [
      | inl is ↦ below_on at.index then.index keys_on s t base image (next.copies at.index base image at.index_known was now) old_live c.live
          (λ k place lived. (marks k place).1 (inl lived)) key (all key is)
      | inr kept ↦ let live = safe.roots_are_live key (kept_root key kept) in live_below then.index t.held image c.live key live (safe.live_is_whole key live)
    ]
    all_on (Filter slot) old_live c marks safe all key needed = live_after old_live c marks safe all key needed
    all_on other old_live c marks safe all key needed = live_after old_live c marks safe all key needed

    -- just what was needed is live then, where it was so before
    by_collection : (o : Option Collection) → ((c : Collection) → o ≡ Some c → LivesJust before s old c) → MarksIn K o new.collection → (c : Collection)
        → new.collection ≡ Some c → LivesJust after t new c
    by_collection None lives marks c runs = absurd (let wrong : None ≡ Some c = sym marks ∙ runs in cc)
    by_collection (Some b) lives marks c runs =
        let a : Collection = record b { live = marks.0 } in
        let lived = lives b refl in
        let within : IsWithin after a.live = within_on b.live marks.0 marks.1.1 lived.within in
        let safe : IsSafeAt b.stage then.index t new.parts image a = subst (IsSafeIn then.index t new.parts image) marks.1.0 (then.safe image now) in
        let closed : IsClosedAt b.stage after t.held image = closed_on b.stage a within safe (lived.closed base was) in
        let all : (key : List ℕ) → after key → IsLiveAtStage b.stage then.index t.held image a.live key = all_on b.stage b.live a marks.1.1 safe
        (lived.all at.index base at.index_known was) in
        subst (LivesJust after t new) (some_same a c (sym marks.1.0 ∙ runs)) (record {
          within = within;
          closed = λ shown is. subst (IsClosedAt b.stage after t.held) (some_same image shown (sym now ∙ is)) closed;
          all = λ index shown known is key needed.
              subst (λ (m : PlaceMap). IsLiveAtStage b.stage m t.held shown a.live key) (some_same then.index index (sym then.index_known ∙ known))
              (subst (λ (bytes : List ℕ). IsLiveAtStage b.stage then.index t.held bytes a.live key) (some_same image shown (sym now ∙ is)) (all key needed));
        })

    -- Just what was needed by then is live after the step, too.
    pub lives_on : ((c : Collection) → old.collection ≡ Some c → LivesJust before s old c) → (c : Collection) → new.collection ≡ Some c → LivesJust after t new c
    lives_on lives = by_collection old.collection lives (marks_kept e.step e.answer old new plain steps.collects)
