-- What holds of pins is kept where one is added or taken away.
use Rattle.std.proofs.Common.{◌≡◌, ◌≤◌, ◌&&◌, Bool, true, false, cond, List, [], ◌∷◌, length, ℕ, ◌+◌, ◌==◌, nat_le, arith, refl, Option, None, Some, Result, Ok, Err, OnOk, OnErr, rules, sym, ap, subst, ◌∙◌}
use Rattle.std.specs.Ordering.{nat_cmp, eq_by_cmp}
use Rattle.std.specs.Cmp.Lexicographic.{slice_cmp, nat_list_cmp_total}
use Rattle.std.specs.FinMap as finite
use Rattle.std.specs.List.{AllByRecursion}
use Rattle.std.proofs.lemmas.Bool.{eqb-true, le-leb}
use Rattle.std.proofs.lemmas.List.Sums.{sum_by-cons}
use Rattle.disk_format.specs.declared.numbers.TheConstants.{MOST_FILE, MOST_LEVEL, MOST_SEGMENT}
use Rattle.disk_format.specs.Cells.{is_root_length}
use Rattle.container_meta.specs.declared.kind.Kind.TheVariants.{Tree}
use Rattle.container_meta.specs.Segments.{Segment}
use Rattle.merkle_file.specs.declared.node.Child.{Child}
use Rattle.merkle_file.specs.Node.{IsChild, total}
use Rattle.merkle_file.specs.Reading.{contents_in}
use Rattle.actor_parts.specs.Segments.{IsNodeSegment, pin_by}
use Rattle.actor_parts.specs.declared.pins.Pin.{Pin}
use Rattle.actor_parts.specs.PinMap.{PinMap, IsPin, ArePins}

none_some : (a : Pin) → None ≡ Some a → ⊥
none_some a is = cc

some_is : (a b : Pin) → Some a ≡ Some b → a ≡ b
some_is a b is = search rules

given : (same : Bool) (now : Option Pin) (had : Option Pin) → ((p : Pin) → now ≡ Some p → IsPin p) → ((p : Pin) → had ≡ Some p → IsPin p)
    → (p : Pin) → cond same now had ≡ Some p → IsPin p
given true now had right were p is = right p is
given false now had right were p is = were p is

pub none_right : (pins : PinMap) → pins ≡ finite.empty → ArePins pins
none_right pins is key pin found = absurd (none_some pin (sym (ap (λ (m : PinMap). finite.get m key) is ∙ finite.get-empty (slice_cmp nat_cmp) key) ∙ found))

pub added_right : (pins : PinMap) (key : List ℕ) (pin : Pin) → ArePins pins → IsPin pin → ArePins (finite.insert pins key pin)
added_right pins key pin are right q p found =
    given (eq_by_cmp (slice_cmp nat_cmp) q key) (Some pin) (finite.get pins q) (λ x is. subst IsPin (some_is pin x is) right) (are q) p
    (sym (finite.get-insert nat_list_cmp_total pins key pin q) ∙ found)

-- or where it could not be added
pub tried_right : {T E : Type 0} (result : Result T E) (old new : PinMap) (key : List ℕ) (pin : Pin) → ArePins old → IsPin pin → OnOk result (new ≡ finite.insert old key pin)
    → OnErr result (new ≡ old) → ArePins new
tried_right (Ok x) old new key pin are right ok err = subst ArePins (sym ok) (added_right old key pin are right)
tried_right (Err e) old new key pin are right ok err = subst ArePins (sym err) are

pub removed_right : (pins : PinMap) (key : List ℕ) → ArePins pins → ArePins (finite.remove pins key)
removed_right pins key are q p found =
    given (eq_by_cmp (slice_cmp nat_cmp) q key) None (finite.get pins q) (λ x is. absurd (none_some x is)) (are q) p
    (sym (finite.get-remove nat_list_cmp_total pins key q) ∙ found)

-- ---- what a segment says of itself

and_true : (a b : Bool) → a ≡ true → b ≡ true → (a && b) ≡ true
and_true true b p q = q
and_true false b p q = p

by_level : (lowest : Bool) (level n : ℕ) → (level == 0) ≡ lowest → 1 ≤ level → 1 ≤ n → cond lowest (nat_le n MOST_SEGMENT) (nat_le 1 n) ≡ true
by_level true level n is above some = absurd (omega (arith, eqb-true level 0 is, above))
by_level false level n is above some = le-leb 1 n some

tree_length : (level n : ℕ) → 1 ≤ level → 1 ≤ n → n ≤ MOST_FILE → is_root_length level n ≡ true
tree_length level n above some most =
    and_true (nat_le n MOST_FILE) (cond (level == 0) (nat_le n MOST_SEGMENT) (nat_le 1 n)) (le-leb n MOST_FILE most) (by_level (level == 0) level n refl above some)

some_below : (level : ℕ) (cs : List Child) → 1 ≤ length cs → AllByRecursion (IsChild level) cs → 1 ≤ total cs
some_below level [] some each = absurd (omega (arith, some))
some_below level (c ∷ cs) some each =
    let sum : total (c ∷ cs) ≡ c.length + total cs = sum_by-cons (λ (d : Child). d.length) c cs in
    omega (arith, sum, each.0.some)

pub node_right : (s : Segment) → IsNodeSegment s → IsPin (pin_by Tree s)
node_right s is =
    let node = is.bytes.node in
    let some = some_below (contents_in s.bytes).level (contents_in s.bytes).children node.some node.each in
    record {
      some = some;
      length_is = tree_length s.level (total (contents_in s.bytes).children) (omega (arith, is.level, node.above)) some node.total;
      level_is = le-leb s.level MOST_LEVEL (omega (arith, is.level, node.level));
    }
