-- The puts of names by their numbers.
use Rattle.std.proofs.Common.{◌≡◌, ◌⊎◌, inl, inr, ℕ, ◌<◌, ◌≤◌, List, [], ◌∷◌, map, length, refl, sym, ap, subst, ◌∙◌, arith}
use Rattle.std.specs.Ordering.{nat_cmp}
use Rattle.std.specs.List.{All}
use Rattle.std.specs.List.Sorted.{IsPermutation, IsNonDecreasingBy, IsStableByKey}
use Rattle.std.specs.FinMap as finite
use Rattle.std.proofs.lemmas.List.{length-map}
use Rattle.std.proofs.lemmas.List.Elements.{All-nil, All-cons, All-head, All-tail, All-weaker}
use Rattle.std.proofs.lemmas.List.Sorted.{IsPermutation-sym, IsPermutation-trans, All-permutation, length_permutation}
use Rattle.disk_format.specs.Cells.{RecordValue, IsName}
use Rattle.namespace.specs.declared.record.Record.{Record}
use Rattle.namespace.specs.Names.{NameMap, AreNames, record_value, put_of}
use Rattle.namespace.specs.Numbers.{Rise, AreNumbered, AreInOrder}
use Rattle.namespace.specs.Puts.{sorted_by, puts_of}
use Rattle.namespace.proofs.Again.{named_puts}
use Rattle.namespace.proofs.InOrder.{in_order}
use Rattle.namespace.proofs.Sorted.{sort_is, seen_sorted, sorted_climbs, moved_sorted, order_of}

-- each name has its put
pub puts_moved : (names : NameMap) → IsPermutation (map put_of (finite.entries names)) (puts_of names)
unfolding puts_of
puts_moved names = moved_sorted (λ r. r.sequence) (map put_of (finite.entries names))

puts_climb : (names : NameMap) → IsNonDecreasingBy (λ r. r.sequence) (puts_of names)
unfolding puts_of
puts_climb names = order_of (λ r. r.sequence) 0 (sorted_by (λ r. r.sequence) (map put_of (finite.entries names)))
    (sorted_climbs (λ r. r.sequence) (map put_of (finite.entries names)))

-- where each has a number of its own, the numbers rise
pub puts_in_order : (names : NameMap) (last : ℕ) → AreNames names → AreNumbered names last → AreInOrder (puts_of names) names last
puts_in_order names last good numbered = in_order names (puts_of names) last good numbered (puts_moved names) (puts_climb names)

pub puts_named : (names : NameMap) → AreNames names → All (λ r. IsName r.name) (puts_of names)
puts_named names good = named_puts names (puts_of names) good (puts_moved names)

pub length-puts : (names : NameMap) → length (puts_of names) ≡ finite.len names
length-puts names =
    length_permutation (map put_of (finite.entries names)) (puts_of names) (puts_moved names) ∙ length-map (finite.entries names) put_of ∙ sym (finite.len-entries names)

-- what a stable sort makes of a list of the puts
pub puts_sorted : (names : NameMap) (listed sorted : List Record) → map record_value listed ≡ map put_of (finite.entries names) → IsNonDecreasingBy (λ r. r.sequence) sorted →
    IsStableByKey (λ r. r.sequence) nat_cmp listed sorted
    → map record_value sorted ≡ puts_of names
unfolding puts_of
puts_sorted names listed sorted is order stable =
    ap (map record_value) (sort_is (λ r. r.sequence) listed sorted order stable)
    ∙ seen_sorted record_value (λ r. r.sequence) listed
    ∙ ap (sorted_by (λ r. r.sequence)) is

-- ---- no other list has them by rising numbers

abbrev IsIn : RecordValue → List RecordValue → Type 0
IsIn r [] = ⊥
IsIn r (s ∷ ss) = (r ≡ s) ⊎ IsIn r ss

each_in : (rs : List RecordValue) → All (λ r. IsIn r rs) rs
each_in [] = All-nil _
each_in (r ∷ rs) = All-cons (λ s. IsIn s (r ∷ rs)) r rs (inl refl) (All-weaker (λ s. IsIn s rs) (λ s. IsIn s (r ∷ rs)) (λ s in_rest. inr in_rest) rs (each_in rs))

-- what is in a list whose numbers rise is above
above : (n : ℕ) (r : RecordValue) (rs : List RecordValue) → Rise n rs → IsIn r rs → n < r.sequence
above n r [] rise is = absurd is
above n r (s ∷ ss) rise (inl same) = omega (arith, rise.0, ap (λ x. x.sequence) same)
above n r (s ∷ ss) rise (inr there) = omega (arith, rise.0, above s.sequence r ss rise.1 there)

-- in the one but not its first
not_first : (r s : RecordValue) (ss : List RecordValue) → s.sequence < r.sequence → IsIn r (s ∷ ss) → IsIn r ss
not_first r s ss less (inl same) = absurd (omega (arith, less, ap (λ x. x.sequence) same))
not_first r s ss less (inr there) = there

same_first : (n : ℕ) (r s : RecordValue) (rs ss : List RecordValue) → Rise n (r ∷ rs) → Rise n (s ∷ ss) → IsIn r (s ∷ ss) → IsIn s (r ∷ rs) → r ≡ s
same_first n r s rs ss one other (inl same) mine = same
same_first n r s rs ss one other (inr there) (inl same) = sym same
same_first n r s rs ss one other (inr there) (inr also) = absurd (omega (arith, above s.sequence r ss other.1 there, above r.sequence s rs one.1 also))

rise_once : (n : ℕ) (rs ss : List RecordValue) → Rise n rs → Rise n ss → All (λ r. IsIn r ss) rs → All (λ s. IsIn s rs) ss → rs ≡ ss
rise_once n [] [] one other mine theirs = refl
rise_once n [] (s ∷ ss) one other mine theirs = absurd (All-head (λ x. IsIn x []) s ss theirs)
rise_once n (r ∷ rs) [] one other mine theirs = absurd (All-head (λ x. IsIn x []) r rs mine)
rise_once n (r ∷ rs) (s ∷ ss) one other mine theirs =
    let first : r ≡ s = same_first n r s rs ss one other (All-head (λ x. IsIn x (s ∷ ss)) r rs mine) (All-head (λ x. IsIn x (r ∷ rs)) s ss theirs) in
    let level : r.sequence ≡ s.sequence = ap (λ x. x.sequence) first in
    let rest : rs ≡ ss =
    rise_once r.sequence rs ss one.1 (subst (λ k. Rise k ss) (sym level) other.1)
    (left r s rs ss (omega (arith, level)) one.1 (All-tail (λ x. IsIn x (s ∷ ss)) r rs mine))
    (left s r ss rs (omega (arith, level)) other.1 (All-tail (λ x. IsIn x (r ∷ rs)) s ss theirs)) in
    ap (λ x. x ∷ rs) first ∙ ap (λ l. s ∷ l) rest
  where
    left : (r s : RecordValue) (rs ss : List RecordValue) → s.sequence ≤ r.sequence → Rise r.sequence rs → All (λ x. IsIn x (s ∷ ss)) rs → All (λ x. IsIn x ss) rs
    left r s [] ss level rise each = All-nil _
    left r s (x ∷ xs) ss level rise each =
        All-cons (λ y. IsIn y ss) x xs (not_first x s ss (omega (arith, level, rise.0)) (All-head (λ y. IsIn y (s ∷ ss)) x xs each))
        (left x s xs ss (omega (arith, level, rise.0)) rise.1 (All-tail (λ y. IsIn y (s ∷ ss)) x xs each))

pub puts_once : (names : NameMap) (last : ℕ) (puts : List RecordValue) → AreNames names → AreNumbered names last → IsPermutation (map put_of (finite.entries names)) puts →
    Rise 0 puts → puts ≡ puts_of names
puts_once names last puts good numbered same rise =
    let moved = IsPermutation-trans puts (map put_of (finite.entries names)) (puts_of names) (IsPermutation-sym (map put_of (finite.entries names)) puts same) (puts_moved names) in
    rise_once 0 puts (puts_of names) rise (puts_in_order names last good numbered).rise
    (All-permutation (λ r. IsIn r (puts_of names)) (puts_of names) puts (IsPermutation-sym puts (puts_of names) moved) (each_in (puts_of names)))
    (All-permutation (λ r. IsIn r puts) puts (puts_of names) moved (each_in puts))
