-- Pins are right and closed still where one more is added, of a segment that is held.
use Rattle.ingest_steps.proofs.Prelude.{◌≡◌, ℕ, ◌≤◌, Bool, true, false, cond, List, [], ◌∷◌, length, Option, Some, None, refl, sym, ◌∙◌, ap, subst, arith, nat_le, slice_cmp, nat_list_cmp_total, AllByRecursion, nat_cmp, eq_by_cmp, eqb-true, sum_by-cons, bytes_eq-Decides, sha256, Kind, Leaf, Tree, Segment, KindSegment, HeaderValue, contents_in, Pin, PinMap, IsPin, has_pin, KeyPin, IsStepSegment, IsOfKind, pin_by, pin_of, children_of, first_not_in, Copy, HasNewest, bytes_at, some_same, tied, ArePinsOf, key_of_seg}
use Rattle.std.proofs.Common.{◌==◌}
use Rattle.std.specs.Prelude.{if◌then◌else◌}
use Rattle.std.specs.FinMap as finite
use Rattle.std.proofs.lemmas.Bool.{le-leb}
use Rattle.disk_format.specs.declared.numbers.TheConstants.{MOST_FILE, MOST_SEGMENT, MOST_LEVEL}
use Rattle.merkle_file.specs.declared.node.Child.{Child}
use Rattle.merkle_file.specs.Node.{IsChild, total}
use Rattle.actor_parts.specs.PinMap.{is_pin}
use Rattle.store_model.proofs.HeldSlots.{same_kind}
use Rattle.store_state.specs.Invariant.{HoldsPin}
use Rattle.base_model.proofs.Checks.{both_true}

-- ---- what may be said of a segment

some_total : (level : ℕ) (cs : List Child) → 1 ≤ length cs → AllByRecursion (IsChild level) cs → 1 ≤ total cs
some_total level [] some each = absurd (omega (arith, some))
some_total level (c ∷ cs) some each = omega (arith, each.0.some, sum_by-cons (λ (d : Child). d.length) c cs)

above_data : (b : Bool) (level count : ℕ) → (level == 0) ≡ b → 1 ≤ level → 1 ≤ count → (if b then nat_le count MOST_SEGMENT else nat_le 1 count) ≡ true
above_data true level count is above some = absurd (omega (arith, above, eqb-true level 0 is))
above_data false level count is above some = le-leb 1 count some

pub pin_right : (kind : Kind) (s : Segment) → IsOfKind kind s → 1 ≤ length s.bytes → length s.bytes ≤ MOST_SEGMENT → IsPin (pin_by kind s)
pin_right Leaf s right some few = record {
  some = some;
  length_is = both_true (nat_le (length s.bytes) MOST_FILE) (nat_le (length s.bytes) MOST_SEGMENT) (le-leb (length s.bytes) MOST_FILE (omega (arith, few)))
      (le-leb (length s.bytes) MOST_SEGMENT few);
  level_is = le-leb 0 MOST_LEVEL (omega arith);
}
pin_right Tree s right some few =
    let node = right.bytes.node in
    let count : ℕ = total (contents_in s.bytes).children in
    let more : 1 ≤ count = some_total (contents_in s.bytes).level (contents_in s.bytes).children node.some node.each in
    record {
      some = more;
      length_is = both_true (nat_le count MOST_FILE) (if s.level == 0 then nat_le count MOST_SEGMENT else nat_le 1 count) (le-leb count MOST_FILE node.total)
          (above_data (s.level == 0) s.level count refl (omega (arith, right.level, node.above)) more);
      level_is = le-leb s.level MOST_LEVEL (omega (arith, right.level, node.level));
    }

-- ---- pins, by their keys

key_tied : (q key : List ℕ) → eq_by_cmp (slice_cmp nat_cmp) q key ≡ true → q ≡ key
key_tied q key tie = sym ((bytes_eq-Decides key q).0 (sym (tied q key) ∙ tie))

module _ (pins : PinMap) (key : List ℕ) (pin : Pin) (same : (had : Pin) → finite.get pins key ≡ Some had → had ≡ pin) where
  had_there : (p : Pin) (o : Option Pin) → finite.get pins key ≡ o → is_pin p o ≡ true → is_pin p (Some pin) ≡ true
  had_there p None is has = absurd cc
  had_there p (Some had) is has = subst (λ (x : Pin). is_pin p (Some x) ≡ true) (same had is) has

  -- one that is there is there still
  pub still_has : (q : List ℕ) (p : Pin) → has_pin pins q p ≡ true → has_pin (finite.insert pins key pin) q p ≡ true
  still_has q p has = ap (is_pin p) (finite.get-insert nat_list_cmp_total pins key pin q) ∙ by_tie (eq_by_cmp (slice_cmp nat_cmp) q key) refl
    where
      by_tie : (b : Bool) → eq_by_cmp (slice_cmp nat_cmp) q key ≡ b → is_pin p (cond b (Some pin) (finite.get pins q)) ≡ true
      by_tie true tie =
          had_there p (finite.get pins key) refl (subst (λ (k : List ℕ). is_pin p (finite.get pins k) ≡ true) (key_tied q key tie) has)
      by_tie false tie = has

  pub all_still : (cs : List KeyPin) → AllByRecursion (λ c. has_pin pins c.key c.pin ≡ true) cs → AllByRecursion (λ c. has_pin (finite.insert pins key pin) c.key c.pin ≡ true) cs
  all_still [] all = tt
  all_still (c ∷ cs) all = (still_has c.key c.pin all.0, all_still cs all.1)

-- where none is the first that isn't there, all are
pub all_pinned : (pins : PinMap) (cs : List KeyPin) → first_not_in pins cs ≡ None → AllByRecursion (λ c. has_pin pins c.key c.pin ≡ true) cs
all_pinned pins [] none = tt
all_pinned pins (c ∷ cs) none =
    elim (has_pin pins c.key c.pin) as (λ b. has_pin pins c.key c.pin ≡ b → (if b then first_not_in pins cs else Some c.key) ≡ None
    → (has_pin pins c.key c.pin ≡ true) × AllByRecursion (λ x. has_pin pins x.key x.pin ≡ true) cs) [
      | true ↦ λ is rest. (is, all_pinned pins cs rest)
      | false ↦ λ is rest. absurd cc
    ] refl none

-- ---- pins of segments that are held

module _ (P : List ℕ → Type 0) (held : List (Option HeaderValue)) (image : List ℕ) where
  -- segments of one key, each of which is the newest copy, have one pin
  same_pin : (key : List ℕ) (a b : KindSegment) → key_of_seg a ≡ key → key_of_seg b ≡ key → HasNewest held key a.segment.level a.segment.bytes image
      → HasNewest held key b.segment.level b.segment.bytes image → pin_of a ≡ pin_of b
  same_pin key a b first second one two =
      let kind : a.kind ≡ b.kind = same_kind a.kind b.kind (sha256 a.segment.bytes) (sha256 b.segment.bytes) (first ∙ sym second) in
      let copies : one.copy ≡ two.copy = some_same one.copy two.copy (sym one.copy_is ∙ two.copy_is) in
      let level : a.segment.level ≡ b.segment.level = sym one.level_is ∙ ap (λ (c : Copy). c.place.level) copies ∙ two.level_is in
      let bytes : a.segment.bytes ≡ b.segment.bytes = sym one.bytes_are ∙ ap (λ (c : Copy). bytes_at c.place image) copies ∙ two.bytes_are in
      ap (λ (k : Kind). pin_by k a.segment) kind
      ∙ ap (λ (l : ℕ). pin_by b.kind (record { level = l; bytes = a.segment.bytes })) level
      ∙ ap (λ (x : List ℕ). pin_by b.kind (record { level = b.segment.level; bytes = x })) bytes

  module _ (pins : PinMap) (seg : KindSegment) (are : ArePinsOf P held image pins) (right : IsStepSegment seg)
      (newest_is : HasNewest held (key_of_seg seg) seg.segment.level seg.segment.bytes image) (counts : P (key_of_seg seg)) where
    same_had : (had : Pin) → finite.get pins (key_of_seg seg) ≡ Some had → had ≡ pin_of seg
    same_had had there =
        let is = are (key_of_seg seg) had there in
        sym is.pin_is ∙ same_pin (key_of_seg seg) is.segment seg is.key_is refl is.newest newest_is

    pub pinned_still : (cs : List KeyPin) → AllByRecursion (λ c. has_pin pins c.key c.pin ≡ true) cs
        → AllByRecursion (λ c. has_pin (finite.insert pins (key_of_seg seg) (pin_of seg)) c.key c.pin ≡ true) cs
    pinned_still = all_still pins (key_of_seg seg) (pin_of seg) same_had

    -- one more, whose children are there
    pub pins_with : AllByRecursion (λ c. has_pin pins c.key c.pin ≡ true) (children_of seg) → ArePinsOf P held image (finite.insert pins (key_of_seg seg) (pin_of seg))
    pins_with children key pin found =
        by_tie (eq_by_cmp (slice_cmp nat_cmp) key (key_of_seg seg)) refl (sym (finite.get-insert nat_list_cmp_total pins (key_of_seg seg) (pin_of seg) key) ∙ found)
      where
        by_tie : (b : Bool) → eq_by_cmp (slice_cmp nat_cmp) key (key_of_seg seg) ≡ b → cond b (Some (pin_of seg)) (finite.get pins key) ≡ Some pin
            → HoldsPin P held image (finite.insert pins (key_of_seg seg) (pin_of seg)) key pin
        by_tie true tie is =
            let key_is : key_of_seg seg ≡ key = sym (key_tied key (key_of_seg seg) tie) in
            record {
              segment = seg;
              key_is = key_is;
              pin_is = some_same (pin_of seg) pin is;
              right = right;
              newest = subst (λ (k : List ℕ). HasNewest held k seg.segment.level seg.segment.bytes image) key_is newest_is;
              children = pinned_still (children_of seg) children;
              counts = subst P key_is counts;
            }
        by_tie false tie is =
            let had = are key pin is in
            record {
              segment = had.segment;
              key_is = had.key_is;
              pin_is = had.pin_is;
              right = had.right;
              newest = had.newest;
              children = pinned_still (children_of had.segment) had.children;
              counts = had.counts;
            }
