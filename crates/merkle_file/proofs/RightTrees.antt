-- The tree over right segments has right nodes.
use Rattle.merkle_file.proofs.Prelude.{◌≡◌, ℕ, zero, suc, ◌+◌, ◌<◌, ◌≤◌, List, [], ◌∷◌, ◌++◌, length, map, refl, ap, arith, inl, inr, sum_by, AllByRecursion, cases_Bool, ne_eqb, eqb-false, length-append, sum_by-append, sum_by-cons, Child, MOST_CHILDREN, MOST_FILE, MOST_LEVEL, Form, ByCount, is_whole, IsChild, total, Tree, Empty, Leaf, Node, trees, joined, child_of, children_of, level_of, of_segment, grouped, last_group, AreBelow, IsTree, contents_of, trees_in}
use Rattle.disk_format.specs.declared.numbers.TheConstants.{MOST_SEGMENT}
use Rattle.merkle_file.specs.Node.{spelling}
use Rattle.merkle_file.specs.Tree.{grouped_from, tree_over}
use Rattle.merkle_file.specs.Walk.{TreesAreRight}
use Rattle.merkle_file.proofs.Placing.{all_push, length-sha256}

abbrev pub Segments : Type 0
Segments = Tree (List ℕ)

abbrev pub size : Segments → ℕ
size t = (child_of of_segment t).length

-- a right tree of a level, which a node may name
pub record IsRightAt (level : ℕ) (t : Segments) : Type 0 where
  pub tree : IsTree t
  pub level_is : level_of t ≡ level
  pub child : IsChild (level + 1) (child_of of_segment t)

-- a group that a node may have
pub record IsGroup (level : ℕ) (g : List Segments) : Type 0 where
  pub each : AllByRecursion (IsRightAt level) g
  pub some : 1 ≤ length g
  pub few : length g ≤ MOST_CHILDREN

push_group : (level : ℕ) (begun : List Segments) (t : Segments) → length begun < MOST_CHILDREN → AllByRecursion (IsRightAt level) begun → IsRightAt level t →
    IsGroup level (begun ++ t ∷ [])
push_group level begun t lt all right = record {
  each = all_push (IsRightAt level) begun t all right;
  some = omega (arith, length-append begun (t ∷ []));
  few =
      omega (arith, length-append begun (t ∷ []));
}

last_right : (level : ℕ) (ts : List Segments) → AllByRecursion (IsRightAt level) ts → length ts < MOST_CHILDREN → AllByRecursion (IsGroup level) (last_group ts)
last_right level [] all lt = tt
last_right level (t ∷ ts) all lt = (record { each = all; some = omega arith; few = omega arith }, tt)

-- the groups of right trees, where right ones are begun
pub grouped_right : (level : ℕ) (begun ts : List Segments) → length begun < MOST_CHILDREN → AllByRecursion (IsRightAt level) begun → AllByRecursion (IsRightAt level) ts
    → AllByRecursion (IsGroup level) (grouped_from ByCount (child_of of_segment) begun ts)
unfolding grouped_from
grouped_right level begun [] lt all right = last_right level begun all lt
grouped_right level begun (t ∷ ts) lt all right =
    let group = push_group level begun t lt all right.0 in
    elim (cases_Bool (is_whole ByCount (child_of of_segment) (begun ++ t ∷ []))) [
      | inl full ↦ rw full (group, grouped_right level [] ts (omega arith) tt right.1)
      | inr few ↦
          (let isnt : length (begun ++ t ∷ []) ≡ MOST_CHILDREN → ⊥ = eqb-false _ _ few in
          rw few (grouped_right level (begun ++ t ∷ []) ts (omega (arith, isnt, group.few)) group.each right.1))
    ]

-- ---- sizes

abbrev pub sizes : List Segments → ℕ
sizes ts = sum_by size ts

last_size : (ts : List Segments) → sum_by sizes (last_group ts) ≡ sizes ts
last_size [] = refl
last_size (t ∷ ts) = omega (arith, sum_by-cons sizes (t ∷ ts) [])

pub grouped_sizes : (form : Form) (says : Segments → Child) (begun ts : List Segments) → sum_by sizes (grouped_from form says begun ts) ≡ sizes begun + sizes ts
unfolding grouped_from
grouped_sizes form says begun [] = omega (arith, last_size begun)
grouped_sizes form says begun (t ∷ ts) =
    let one : sizes (begun ++ t ∷ []) ≡ sizes begun + size t = omega (arith, sum_by-append size begun (t ∷ [])) in
    let more : sizes (t ∷ ts) ≡ size t + sizes ts = sum_by-cons size t ts in
    elim (cases_Bool (is_whole form says (begun ++ t ∷ []))) [
      | inl full ↦ rw full (omega (arith, sum_by-cons sizes (begun ++ t ∷ []) (grouped_from form says [] ts), grouped_sizes form says [] ts, one, more))
      | inr few ↦ rw few (omega (arith, grouped_sizes form says (begun ++ t ∷ []) ts, one, more))
    ]

-- ---- a node over a group

group_length : (g : List Segments) → length (children_of of_segment (trees g)) ≡ length g
group_length [] = refl
group_length (t ∷ ts) = ap suc (group_length ts)

group_total : (g : List Segments) → total (children_of of_segment (trees g)) ≡ sizes g
group_total [] = refl
group_total (t ∷ ts) = omega (arith, sum_by-cons (λ (c : Child). c.length) (child_of of_segment t) (children_of of_segment (trees ts)), sum_by-cons size t ts, group_total ts)

group_each : (level : ℕ) (g : List Segments) → AllByRecursion (IsRightAt level) g → AllByRecursion (IsChild (level + 1)) (children_of of_segment (trees g))
    × AreBelow (level + 1) (trees g)
group_each level [] all = (tt, tt)
group_each level (t ∷ ts) all =
    let others = group_each level ts all.1 in
    ((all.0.child, others.0), (omega (arith, all.0.level_is), all.0.tree, others.1))

pub some_size : (level : ℕ) (g : List Segments) → 1 ≤ length g → AllByRecursion (IsRightAt level) g → 1 ≤ sizes g
some_size level [] some all = absurd (omega arith)
some_size level (t ∷ ts) some all = omega (arith, all.0.child.some, sum_by-cons size t ts)

joined_right : (level : ℕ) (g : List Segments) → level < MOST_LEVEL → IsGroup level g → sizes g ≤ MOST_FILE → IsRightAt (level + 1) (joined (level + 1) g)
joined_right level g low group few =
    let each = group_each level g group.each in
    let sum = group_total g in
    record {
      tree = (
        record {
          above = omega arith;
          level = omega arith;
          some = omega (arith, group_length g, group.some);
          most = omega (arith, group_length g, group.few);
          each = each.0;
          total = omega (arith, sum);
        },
        each.1,
      );
      level_is = refl;
      child = record {
        digest = length-sha256 (spelling (contents_of (level + 1) (trees g)));
        some = omega (arith, sum, some_size level g group.some group.each);
        most = rw (ne_eqb (level + 1 + 1) 1 (λ e. omega (arith, e))) (omega (arith, sum));
      };
    }

pub row_right : (level : ℕ) (gs : List (List Segments)) → level < MOST_LEVEL → AllByRecursion (IsGroup level) gs → sum_by sizes gs ≤ MOST_FILE
    → AllByRecursion (IsRightAt (level + 1)) (map (joined (level + 1)) gs) × (sizes (map (joined (level + 1)) gs) ≡ sum_by sizes gs)
row_right level [] low all few = (tt, refl)
row_right level (g ∷ gs) low all few =
    let sum = sum_by-cons sizes g gs in
    let others = row_right level gs low all.1 (omega (arith, sum)) in (
      (joined_right level g low all.0 (omega (arith, sum)), others.0),
      omega (arith, sum, sum_by-cons size (joined (level + 1) g) (map (joined (level + 1)) gs), group_total g, others.1),
    )

-- ---- the tree

one_tree : (level : ℕ) (t : Segments) → IsRightAt level t → AllByRecursion IsTree (trees_in t)
one_tree level Empty right = tt
one_tree level (Leaf segment) right = (right.tree, tt)
one_tree level (Node l ts) right = (right.tree, tt)

tree_right : (levels level : ℕ) (ts : List Segments) → level + levels ≡ MOST_LEVEL → AllByRecursion (IsRightAt level) ts → sizes ts ≤ MOST_FILE →
    AllByRecursion IsTree (trees_in (tree_over ByCount of_segment levels level ts))
unfolding tree_over
tree_right zero level [] e all few = tt
tree_right (suc levels) level [] e all few = tt
tree_right zero level (t ∷ []) e all few = one_tree level t all.0
tree_right (suc levels) level (t ∷ []) e all few = one_tree level t all.0
tree_right zero level (t ∷ u ∷ ts) e all few = tt
tree_right (suc levels) level (t ∷ u ∷ ts) e all few =
    let gs : List (List Segments) = grouped ByCount (child_of of_segment) (t ∷ u ∷ ts) in
    let sum : sum_by sizes gs ≤ MOST_FILE = omega (arith, grouped_sizes ByCount (child_of of_segment) [] (t ∷ u ∷ ts), few) in
    let row = row_right level gs (omega (arith, e)) (grouped_right level [] (t ∷ u ∷ ts) (omega arith) tt all) sum in
    tree_right levels (level + 1) (map (joined (level + 1)) gs) (omega (arith, e)) row.0 (omega (arith, row.1, sum))

pub leaves_right : (segments : List (List ℕ)) → AllByRecursion (λ segment. (1 ≤ length segment) × (length segment ≤ MOST_SEGMENT)) segments
    → AllByRecursion (IsRightAt 0) (map Leaf segments) × (sizes (map Leaf segments) ≡ sum_by length segments)
leaves_right [] all = (tt, refl)
leaves_right (s ∷ ss) all =
    let others = leaves_right ss all.1 in (
      (record { tree = all.0.0; level_is = refl; child = record { digest = length-sha256 s; some = all.0.0; most = all.0.1 } }, others.0),
      omega (arith, sum_by-cons size (Leaf s) (map Leaf ss), sum_by-cons length s ss, others.1),
    )

pub trees_are_right : TreesAreRight
trees_are_right ByCount segments all few =
    let right = leaves_right segments all in
    tree_right MOST_LEVEL 0 (map Leaf segments) refl right.0 (omega (arith, right.1, few))
