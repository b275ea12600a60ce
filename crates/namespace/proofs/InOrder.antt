-- The puts of names, sorted by their numbers.
use Rattle.std.proofs.Common.{◌≡◌, ℕ, suc, ◌<◌, ◌≤◌, false, List, [], ◌∷◌, map, nat_eq, subst, arith, get_or}
use Rattle.std.specs.Prelude.{T, Some}
use Rattle.std.specs.List.{All, AllByRecursion, IsDistinct}
use Rattle.std.specs.List.Sorted.{IsPermutation, IsNonDecreasingBy}
use Rattle.std.specs.Ordering.{nat_cmp}
use Rattle.std.specs.Cmp.{tied_itself}
use Rattle.std.specs.declared.cmp.Ordering.TheVariants.{Less, Equal}
use Rattle.std.specs.Cmp.Lexicographic.{slice_cmp, nat_list_cmp_total}
use Rattle.std.specs.FinMap as finite
use Rattle.std.specs.FinMap.Entries.{below_all}
use Rattle.std.proofs.lemmas.Bool.{ne_eqb, eqb-false}
use Rattle.std.proofs.lemmas.List.Elements.{All-nil, All-cons, All-head, All-tail}
use Rattle.std.proofs.lemmas.List.Sorted.{IsPermutation-map, IsNonDecreasingBy-drop}
use Rattle.std.proofs.lemmas.Map.Keys.{IsDistinct-IsPermutation}
use Rattle.disk_format.specs.Cells.{RecordValue, Change}
use Rattle.disk_format.specs.Cells.Change.{Put, Delete}
use Rattle.namespace.specs.declared.record.Named.{Named}
use Rattle.namespace.specs.Names.{NameMap, AreNames, put_of}
use Rattle.namespace.specs.Numbers.{Rise, last_of, AreNumbered, AreInOrder}
use Rattle.namespace.proofs.Again.{first, second, is_less, IsOf, IsPutOf, entries_found, each_put, replays, taken}

-- no later entry has this one's number
others : (names : NameMap) (last : ℕ) → AreNumbered names last → (e : List ℕ × Named) (es : List (List ℕ × Named)) → T (below_all (slice_cmp nat_cmp) e.0 es) →
    finite.get names e.0 ≡ Some e.1 → All (λ x. finite.get names x.0 ≡ Some x.1) es
    → AllByRecursion (λ n. nat_eq e.1.sequence n ≡ false) (map (λ r. r.sequence) (map put_of es))
others names last h e [] below found also = tt
others names last h e (x ∷ xs) below found also =
    let less : slice_cmp nat_cmp e.0 x.0 ≡ Less = is_less (slice_cmp nat_cmp e.0 x.0) (first _ _ below) in
    let tied : slice_cmp nat_cmp e.0 e.0 ≡ Equal = tied_itself nat_list_cmp_total e.0 in
    let apart : e.1.sequence ≡ x.1.sequence → ⊥ = λ same. (let one : slice_cmp nat_cmp e.0 x.0 ≡ Equal =
    subst (λ k. slice_cmp nat_cmp e.0 k ≡ Equal) (h.apart e.0 x.0 e.1 x.1 found (All-head (λ y. finite.get names y.0 ≡ Some y.1) x xs also) same) tied in cc) in
    (ne_eqb e.1.sequence x.1.sequence apart, others names last h e xs (second _ _ below) found (All-tail (λ y. finite.get names y.0 ≡ Some y.1) x xs also))

apart_each : (names : NameMap) (last : ℕ) → AreNumbered names last → (es : List (List ℕ × Named)) → T (finite.is_sorted (slice_cmp nat_cmp) es) →
    All (λ x. finite.get names x.0 ≡ Some x.1) es → IsDistinct nat_eq (map (λ r. r.sequence) (map put_of es))
unfolding IsDistinct
apart_each names last h [] sorted found = tt
apart_each names last h (e ∷ es) sorted found =
    let rest = All-tail (λ y. finite.get names y.0 ≡ Some y.1) e es found in
    (others names last h e es (first _ _ sorted) (All-head (λ y. finite.get names y.0 ≡ Some y.1) e es found) rest, apart_each names last h es (second _ _ sorted) rest)

flips : (a b : ℕ) → nat_eq a b ≡ nat_eq b a
flips a b = grind arith

higher : (n : ℕ) (rs : List RecordValue) → All (λ r. n ≤ r.sequence) rs → AllByRecursion (λ m. nat_eq n m ≡ false) (map (λ r. r.sequence) rs) → All (λ r. n < r.sequence) rs
higher n [] least apart = All-nil _
higher n (r ∷ rs) least apart =
    let one : n ≤ r.sequence = All-head (λ x. n ≤ x.sequence) r rs least in
    let other : n ≡ r.sequence → ⊥ = eqb-false n r.sequence apart.0 in
    All-cons (λ x. n < x.sequence) r rs (omega (arith, one, other)) (higher n rs (All-tail (λ x. n ≤ x.sequence) r rs least) apart.1)

rises : (n : ℕ) (rs : List RecordValue) → All (λ r. n < r.sequence) rs → IsNonDecreasingBy (λ r. r.sequence) rs → IsDistinct nat_eq (map (λ r. r.sequence) rs) → Rise n rs
unfolding IsDistinct
rises n [] above order apart = tt
rises n (r ∷ rs) above order apart =
    let least : All (λ x. r.sequence ≤ x.sequence) rs = λ k d lt. order 0 (suc k) d (omega arith) (omega arith) in
    (All-head (λ x. n < x.sequence) r rs above, rises r.sequence rs (higher r.sequence rs least apart.0) (IsNonDecreasingBy-drop (λ x. x.sequence) 1 (r ∷ rs) order) apart.1)

last_within : (n last : ℕ) (rs : List RecordValue) → n ≤ last → All (λ r. r.sequence ≤ last) rs → last_of n rs ≤ last
last_within n last [] h most = h
last_within n last (r ∷ rs) h most = last_within r.sequence last rs (All-head (λ x. x.sequence ≤ last) r rs most) (All-tail (λ x. x.sequence ≤ last) r rs most)

of_one : (names : NameMap) (last : ℕ) → AreNumbered names last → (sequence : ℕ) (name : List ℕ) (change : Change) → IsOf names sequence name change →
    (1 ≤ sequence) × (sequence ≤ last)
of_one names last h sequence name (Put root) of = (h.from_one name _ of, h.most name _ of)
of_one names last h sequence name Delete of = absurd of

-- names whose numbers differ, listed by number: a replay of the puts in that order gives the names
pub in_order : (names : NameMap) (puts : List RecordValue) (last : ℕ) → AreNames names → AreNumbered names last → IsPermutation (map put_of (finite.entries names)) puts →
    IsNonDecreasingBy (λ r. r.sequence) puts → AreInOrder puts names last
in_order names puts last good h same order =
    let listed = map put_of (finite.entries names) in
    let of = each_put names puts same in
    let within : (r : RecordValue) → IsPutOf names r → (1 ≤ r.sequence) × (r.sequence ≤ last) = λ r o. of_one names last h r.sequence r.name r.change o in
    let apart = apart_each names last h (finite.entries names) (finite.entries_sorted names) (entries_found names) in
    record {
      rise = rises 0 puts (λ k d lt. omega (arith, (within (get_or puts k d) (of k d lt)).0)) order
          (IsDistinct-IsPermutation nat_eq flips (map (λ r. r.sequence) listed) (map (λ r. r.sequence) puts) (IsPermutation-map (λ r. r.sequence) listed puts same) apart);
      most = last_within 0 last puts (omega arith) (λ k d lt. (within (get_or puts k d) (of k d lt)).1);
      taken = taken names puts good same;
      replay = replays names puts same;
    }
