-- Closing what is kept of a list of trees gives the tree over them.
use Rattle.merkle_file.proofs.Prelude.{◌≡◌, ℕ, zero, suc, ◌+◌, ◌*◌, ◌^◌, ◌<◌, ◌≤◌, Bool, true, false, eqb, List, [], ◌∷◌, ◌++◌, length, map, refl, sym, ap, subst, ◌∙◌, append_assoc, arith, inl, inr, ◌&&◌, ◌⊎◌, pow-suc, nat_le, flat_map, AllByRecursion, cases_Bool, and_parts, leb-true, leb-false, eqb-true, length-append, append-nil, map-append, flat_map-append, flat_map-cons, Child, MOST_CHILDREN, Form, ByCount, is_whole, Contents, Tree, joined, child_of, nodes_of, level_of, root_of, parent, grouped, last_group, nodes_in_rows, whole, rest, are_empty, top_of, Closed}
use Rattle.std.proofs.lemmas.List.{nil_from_length}
use Rattle.merkle_file.specs.Tree.{tree_over}
use Rattle.merkle_file.specs.Building.{open_trees, whole_from, rest_from}
use Rattle.merkle_file.specs.Steps.{close}
use Rattle.merkle_file.proofs.Closing.{node_of, close_last, close_none, close_some}
use Rattle.merkle_file.proofs.Pushing.{whole_push, rest_push, counted, child_of-joined, nodes_of-joined, said, child_rows, length-children, length-joined}
use Rattle.merkle_file.proofs.Groups.{grouped_is}

-- ---- what is left after whole groups

-- where there is no whole group, all is left
left_all : {X : Type 0} (form : Form) (says : X → Child) (begun xs : List X) → whole_from form says begun xs ≡ [] → rest_from form says begun xs ≡ begun ++ xs
unfolding whole_from rest_from
left_all form says begun [] e = sym (append-nil begun)
left_all form says begun (x ∷ xs) e =
    elim (cases_Bool (is_whole form says (begun ++ x ∷ []))) [
      | inl full ↦ absurd (not_nil (rw full at e))
      | inr few ↦ rw few (left_all form says (begun ++ x ∷ []) xs (rw few at e) ∙ append_assoc begun (x ∷ []) xs)
    ]
  where
    not_nil : {Y : Type 0} {y : Y} {ys : List Y} → y ∷ ys ≡ [] → ⊥
    not_nil e = cc

-- the groups of a list with one more, or none
grouped_with : {X : Type 0} (form : Form) (says : X → Child) (xs carried : List X) → length carried ≤ 1 →
    grouped form says (xs ++ carried) ≡ whole form says xs ++ last_group (rest form says xs ++ carried)
grouped_with form says xs [] le =
    ap (grouped form says) (append-nil xs) ∙ grouped_is form says xs ∙ ap (λ left. whole form says xs ++ last_group left) (sym (append-nil (rest form says xs)))
grouped_with form says xs (x ∷ []) le =
    grouped_is form says (xs ++ x ∷ [])
    ∙ elim (cases_Bool (is_whole form says (rest form says xs ++ x ∷ []))) [
      | inl full ↦ (let g = whole_push form says [] xs x full in rw (g.0, g.1)
          (append-nil (whole form says xs ++ (rest form says xs ++ x ∷ []) ∷ []) ∙ ap (λ gs. whole form says xs ++ gs) (sym (last_some (rest form says xs) x))))
      | inr few ↦ (let g = rest_push form says [] xs x few in rw (g.0, g.1) refl)
    ]
  where
    last_some : {Y : Type 0} (ys : List Y) (y : Y) → last_group (ys ++ y ∷ []) ≡ (ys ++ y ∷ []) ∷ []
    last_some [] y = refl
    last_some (z ∷ zs) y = refl
grouped_with form says xs (x ∷ y ∷ ys) le = absurd (omega arith)

-- ---- empty rows

-- Where all rows are empty, there is no tree.
none_where_empty : {A : Type 0} (leaf : A → Child) (levels level : ℕ) (ts : List (Tree A)) → length ts < MOST_CHILDREN ^ levels →
    are_empty (child_rows leaf (open_trees ByCount leaf levels level ts)) ≡ true → ts ≡ []
unfolding open_trees
none_where_empty leaf zero level ts room e = nil_from_length ts (omega arith)
none_where_empty leaf (suc levels) level ts room e =
    let both = and_parts (eqb (length (map (child_of leaf) (rest ByCount (child_of leaf) ts))) 0)
    (are_empty (child_rows leaf (open_trees ByCount leaf levels (level + 1) (map (joined (level + 1)) (whole ByCount (child_of leaf) ts))))) e in
    let count = counted (child_of leaf) [] ts (omega arith) in
    let none : length (map (child_of leaf) (rest ByCount (child_of leaf) ts)) ≡ 0 = eqb-true _ _ both.0 in
    let row : length (rest ByCount (child_of leaf) ts) ≡ 0 = omega (arith, length-children leaf (rest ByCount (child_of leaf) ts), none) in
    let above = none_where_empty leaf levels (level + 1) (map (joined (level + 1)) (whole ByCount (child_of leaf) ts))
    (omega (arith, room, count.sum, pow-suc MOST_CHILDREN levels, length-joined (level + 1) (whole ByCount (child_of leaf) ts))) both.1 in
    nil_from_length ts (omega (arith, count.sum, row, length-joined (level + 1) (whole ByCount (child_of leaf) ts), ap length above))

-- where there is no tree, all rows are empty, and no node is in them
pub empty_where_none : {A : Type 0} (leaf : A → Child) (levels level : ℕ) → (are_empty (child_rows leaf (open_trees {A = A} ByCount leaf levels level [])) ≡ true)
    × (nodes_in_rows leaf (open_trees {A = A} ByCount leaf levels level []) ≡ [])
unfolding open_trees whole_from rest_from
empty_where_none leaf zero level = (refl, refl)
empty_where_none leaf (suc levels) level =
    let above = empty_where_none leaf levels (level + 1) in
    (above.0, rw above.1 refl)

-- ---- one row after the other

-- trees of a level
abbrev pub AtLevel : {A : Type 0} → ℕ → List (Tree A) → Type 0
AtLevel level ts = AllByRecursion (λ t. level_of t ≡ level) ts

all_both : {A : Type 0} (level : ℕ) (xs ys : List (Tree A)) → AtLevel level xs → AtLevel level ys → AtLevel level (xs ++ ys)
all_both level [] ys a b = b
all_both level (x ∷ xs) ys a b = (a.0, all_both level xs ys a.1 b)

at_joined : {A : Type 0} (level : ℕ) (groups : List (List (Tree A))) → AtLevel level (map (joined level) groups)
at_joined level [] = tt
at_joined level (g ∷ gs) = (refl, at_joined level gs)

-- closing rows of trees, with what was carried to the first of them, gives this tree
pub record IsFinished {A : Type 0} (leaf : A → Child) (level : ℕ) (rows : List (List (Tree A))) (carried : List (Tree A)) (tree : Tree A) : Type 0 where
  pub top : (close level (map (child_of leaf) carried) (child_rows leaf rows)).top ≡ root_of leaf tree
  pub nodes : nodes_in_rows leaf rows ++ (flat_map (nodes_of leaf) carried ++ (close level (map (child_of leaf) carried) (child_rows leaf rows)).nodes) ≡ nodes_of leaf tree

root_is : {A : Type 0} (leaf : A → Child) (level : ℕ) (t : Tree A) → level_of t ≡ level → top_of level (child_of leaf t ∷ []) ≡ root_of leaf t
root_is leaf level t at = rw (← at) refl

-- at most one tree is left
only_tree : {A : Type 0} (leaf : A → Child) (levels level : ℕ) (ts : List (Tree A)) → length ts ≤ 1 → AtLevel level ts
    → (top_of level (map (child_of leaf) ts) ≡ root_of leaf (tree_over ByCount leaf levels level ts))
    × (flat_map (nodes_of leaf) ts ≡ nodes_of leaf (tree_over ByCount leaf levels level ts))
unfolding tree_over
only_tree leaf zero level [] le at = (refl, refl)
only_tree leaf (suc levels) level [] le at = (refl, refl)
only_tree leaf zero level (t ∷ []) le at = (root_is leaf level t at.0, flat_map-cons (nodes_of leaf) t [] ∙ append-nil (nodes_of leaf t))
only_tree leaf (suc levels) level (t ∷ []) le at = (root_is leaf level t at.0, flat_map-cons (nodes_of leaf) t [] ∙ append-nil (nodes_of leaf t))
only_tree leaf levels level (t ∷ u ∷ ts) le at = absurd (omega arith)

finish_last : {A : Type 0} (leaf : A → Child) (levels level : ℕ) (r : List (Tree A)) (rows : List (List (Tree A))) (carried : List (Tree A))
    → are_empty (child_rows leaf rows) ≡ true → nodes_in_rows leaf rows ≡ [] → length (r ++ carried) ≤ 1 → AtLevel level (r ++ carried)
    → IsFinished leaf level (r ∷ rows) carried (tree_over ByCount leaf levels level (r ++ carried))
finish_last leaf levels level r rows carried empty none le at =
    let same : map (child_of leaf) (r ++ carried) ≡ map (child_of leaf) r ++ map (child_of leaf) carried = map-append (child_of leaf) r carried in
    let few : length (map (child_of leaf) r ++ map (child_of leaf) carried) ≤ 1 = rw (← same) (omega (arith, length-children leaf (r ++ carried))) in
    let closed = close_last level (map (child_of leaf) carried) (map (child_of leaf) r) (child_rows leaf rows) empty few in
    let only = only_tree leaf levels level (r ++ carried) le at in
    record {
      top = ap (λ (c : Closed). c.top) closed ∙ ap (top_of level) (sym same) ∙ only.0;
      nodes = ap (λ (c : Closed). nodes_in_rows leaf (r ∷ rows) ++ (flat_map (nodes_of leaf) carried ++ c.nodes)) closed
          ∙ rw (none, append-nil, ← flat_map-append) only.1;
    }

finish_skip : {A : Type 0} (leaf : A → Child) (level : ℕ) (r : List (Tree A)) (rows : List (List (Tree A))) (carried : List (Tree A)) (tree : Tree A)
    → (are_empty (child_rows leaf rows) && nat_le (length (map (child_of leaf) r ++ map (child_of leaf) carried)) 1) ≡ false → r ++ carried ≡ []
    → IsFinished leaf (level + 1) rows [] tree → IsFinished leaf level (r ∷ rows) carried tree
finish_skip leaf level [] rows [] tree test none above =
    let closed = close_none level [] [] (child_rows leaf rows) test refl in
    record {
      top = ap (λ (c : Closed). c.top) closed ∙ above.top;
      nodes = ap (λ (c : Closed). (nodes_in_rows leaf rows ++ []) ++ c.nodes) closed ∙ rw append-nil above.nodes;
    }
finish_skip leaf level [] rows (t ∷ ts) tree test none above = absurd cc
finish_skip leaf level (t ∷ ts) rows carried tree test none above = absurd cc

regroup_up : (n f g x : List Contents) (a : Contents) → (n ++ f) ++ (g ++ (a ∷ x)) ≡ n ++ ((((f ++ g) ++ a ∷ []) ++ []) ++ x)
regroup_up n f g x a = simp (append_assoc, append-nil)

finish_up : {A : Type 0} (leaf : A → Child) (level : ℕ) (r : List (Tree A)) (rows : List (List (Tree A))) (carried : List (Tree A)) (tree : Tree A)
    → (are_empty (child_rows leaf rows) && nat_le (length (map (child_of leaf) r ++ map (child_of leaf) carried)) 1) ≡ false → 1 ≤ length (r ++ carried)
    → IsFinished leaf (level + 1) rows (joined (level + 1) (r ++ carried) ∷ []) tree → IsFinished leaf level (r ∷ rows) carried tree
finish_up leaf level r rows carried tree test some above =
    let same : map (child_of leaf) (r ++ carried) ≡ map (child_of leaf) r ++ map (child_of leaf) carried = map-append (child_of leaf) r carried in
    let group : List (Tree _) = r ++ carried in
    let children : List Child = map (child_of leaf) r ++ map (child_of leaf) carried in
    let closed = close_some level (map (child_of leaf) carried) (map (child_of leaf) r) (child_rows leaf rows) test (rw (← same) (omega (arith, length-children leaf group))) in
    let node : said leaf (level + 1) group ≡ node_of level children = ap (node_of level) same in
    let child : child_of leaf (joined (level + 1) group) ≡ parent (node_of level children) = child_of-joined leaf (level + 1) group ∙ ap parent node in
    let later : Closed = close (level + 1) (parent (node_of level children) ∷ []) (child_rows leaf rows) in
    let top_up : later.top ≡ root_of leaf tree = rw (← child) above.top in
    let flat : flat_map (nodes_of leaf) (joined (level + 1) group ∷ []) ≡ ((flat_map (nodes_of leaf) r ++ flat_map (nodes_of leaf) carried) ++ node_of level children ∷ []) ++ [] =
    flat_map-cons (nodes_of leaf) (joined (level + 1) group) [] ∙ ap (λ (ns : List Contents). ns ++ []) (nodes_of-joined leaf (level + 1) group ∙ rw (node, flat_map-append) refl)
    in
    let nodes_up : nodes_in_rows leaf rows ++ ((((flat_map (nodes_of leaf) r ++ flat_map (nodes_of leaf) carried) ++ node_of level children ∷ []) ++ []) ++ later.nodes) ≡ nodes_of
    leaf tree =
    rw (← child, ← flat) above.nodes in
    record {
      top = ap (λ (c : Closed). c.top) closed ∙ top_up;
      nodes = ap (λ (c : Closed). nodes_in_rows leaf (r ∷ rows) ++ (flat_map (nodes_of leaf) carried ++ c.nodes)) closed
          ∙ regroup_up (nodes_in_rows leaf rows) (flat_map (nodes_of leaf) r) (flat_map (nodes_of leaf) carried) later.nodes (node_of level children)
          ∙ nodes_up;
    }

-- ---- all rows

-- the first group of a list that isn't one tree
pub more_levels : {A : Type 0} (form : Form) (leaf : A → Child) (levels level : ℕ) (ts : List (Tree A)) → 2 ≤ length ts
    → tree_over form leaf (suc levels) level ts ≡ tree_over form leaf levels (level + 1) (map (joined (level + 1)) (grouped form (child_of leaf) ts))
unfolding tree_over
more_levels form leaf levels level [] le = absurd (omega arith)
more_levels form leaf levels level (t ∷ []) le = absurd (omega arith)
more_levels form leaf levels level (t ∷ u ∷ ts) le = refl

room_some : (levels groups left carried : ℕ) → 0 < levels → MOST_CHILDREN * ((MOST_CHILDREN * groups + left) + carried) ≤ MOST_CHILDREN ^ suc levels → 1 ≤ left + carried
    → MOST_CHILDREN * (groups + 1) ≤ MOST_CHILDREN ^ levels
room_some zero groups left carried lt room some = absurd (omega arith)
room_some (suc m) groups left carried lt room some = omega (arith, room, pow-suc MOST_CHILDREN (suc m), pow-suc MOST_CHILDREN m)

pow_positive : (k : ℕ) → 0 < MOST_CHILDREN ^ k
pow_positive zero = omega arith
pow_positive (suc k) = omega (arith, pow-suc MOST_CHILDREN k, pow_positive k)

last_cases : {X : Type 0} (xs : List X) → (xs ≡ []) ⊎ ((1 ≤ length xs) × (last_group xs ≡ xs ∷ []))
last_cases [] = inl refl
last_cases (x ∷ xs) = inr (omega arith, refl)

-- the test for the root, over trees
abbrev is_only : {A : Type 0} → (A → Child) → ℕ → ℕ → List (Tree A) → List (Tree A) → Bool
is_only leaf levels level ts carried =
    are_empty (child_rows leaf (open_trees ByCount leaf levels (level + 1) (map (joined (level + 1)) (whole ByCount (child_of leaf) ts)))) && nat_le
    (length (map (child_of leaf) (rest ByCount (child_of leaf) ts) ++ map (child_of leaf) carried)) 1

length-both : {A : Type 0} (leaf : A → Child) (xs ys : List (Tree A)) → length (map (child_of leaf) xs ++ map (child_of leaf) ys) ≡ length xs + length ys
length-both leaf xs ys = omega (arith, length-append (map (child_of leaf) xs) (map (child_of leaf) ys), length-children leaf xs, length-children leaf ys)

-- with no whole group, the test is on the length
only_by_length : {A : Type 0} (leaf : A → Child) (levels level : ℕ) (ts carried : List (Tree A)) → whole ByCount (child_of leaf) ts ≡ [] →
    is_only leaf levels level ts carried ≡ false → 2 ≤ length (rest ByCount (child_of leaf) ts) + length carried
only_by_length leaf levels level ts carried none test =
    let both = length-both leaf (rest ByCount (child_of leaf) ts) carried in
    let more : 1 < length (map (child_of leaf) (rest ByCount (child_of leaf) ts) ++ map (child_of leaf) carried) =
    leb-false _ 1 (rw (none, (empty_where_none leaf levels (level + 1)).0) at test) in
    omega (arith, both, more)

two_trees : {A : Type 0} (leaf : A → Child) (levels level : ℕ) (ts carried : List (Tree A)) → is_only leaf levels level ts carried ≡ false → 2 ≤ length ts + length carried
two_trees leaf levels level ts carried test =
    let count = counted (child_of leaf) [] ts (omega arith) in
    elim (last_cases (whole ByCount (child_of leaf) ts)) [
      | inl none ↦ omega (arith, only_by_length leaf levels level ts carried none test, count.sum, count.few)
      | inr some ↦ omega (arith, some.0, count.sum)
    ]

level_above : {A : Type 0} (leaf : A → Child) (levels level : ℕ) (ts carried : List (Tree A)) → is_only leaf levels level ts carried ≡ false
    → MOST_CHILDREN * (length ts + length carried) ≤ MOST_CHILDREN ^ suc levels → 0 < levels
level_above leaf zero level ts carried test room = absurd (omega (arith, two_trees leaf zero level ts carried test, room))
level_above leaf (suc levels) level ts carried test room = omega arith

-- the last row
finish_here : {A : Type 0} (leaf : A → Child) (levels level : ℕ) (ts carried : List (Tree A)) → AtLevel level ts → AtLevel level carried
    → MOST_CHILDREN * (length ts + length carried) ≤ MOST_CHILDREN ^ suc levels → is_only leaf levels level ts carried ≡ true
    → IsFinished leaf level (rest ByCount (child_of leaf) ts ∷ open_trees ByCount leaf levels (level + 1) (map (joined (level + 1)) (whole ByCount (child_of leaf) ts))) carried
    (tree_over ByCount leaf (suc levels) level (ts ++ carried))
finish_here leaf levels level ts carried at ct room test =
    let r : List (Tree _) = rest ByCount (child_of leaf) ts in
    let ups : List (Tree _) = map (joined (level + 1)) (whole ByCount (child_of leaf) ts) in
    let rows : List (List (Tree _)) = open_trees ByCount leaf levels (level + 1) ups in
    let count = counted (child_of leaf) [] ts (omega arith) in
    let both = and_parts (are_empty (child_rows leaf rows)) (nat_le (length (map (child_of leaf) r ++ map (child_of leaf) carried)) 1) test in
    let few : length (map (child_of leaf) r ++ map (child_of leaf) carried) ≤ 1 = leb-true _ 1 both.1 in
    let none : ups ≡ [] = none_where_empty leaf levels (level + 1) ups
    (omega (arith, room, count.sum, pow-suc MOST_CHILDREN levels, pow_positive levels, length-joined (level + 1) (whole ByCount (child_of leaf) ts))) both.0 in
    let no_group : whole ByCount (child_of leaf) ts ≡ [] =
    nil_from_length (whole ByCount (child_of leaf) ts) (omega (arith, length-joined (level + 1) (whole ByCount (child_of leaf) ts), ap length none)) in
    let all : r ≡ ts = left_all ByCount (child_of leaf) [] ts no_group in
    let no_node : nodes_in_rows leaf rows ≡ [] = ap (λ (us : List (Tree _)). nodes_in_rows leaf (open_trees ByCount leaf levels (level + 1) us)) none
    ∙ (empty_where_none leaf levels (level + 1)).1 in
    subst (λ (xs : List (Tree _)). IsFinished leaf level (r ∷ rows) carried (tree_over ByCount leaf (suc levels) level (xs ++ carried))) all
    (finish_last leaf (suc levels) level r rows carried both.0 no_node (omega (arith, few, length-both leaf r carried, length-append r carried))
    (subst (λ (xs : List (Tree _)). AtLevel level (xs ++ carried)) (sym all) (all_both level ts carried at ct)))

pub finish_law : {A : Type 0} (leaf : A → Child) (levels level : ℕ) (ts carried : List (Tree A)) → length carried ≤ 1 → 0 < levels → AtLevel level ts → AtLevel level carried
    → MOST_CHILDREN * (length ts + length carried) ≤ MOST_CHILDREN ^ levels
    → IsFinished leaf level (open_trees ByCount leaf levels level ts) carried (tree_over ByCount leaf levels level (ts ++ carried))
unfolding open_trees
finish_law leaf zero level ts carried le lt at ct room = absurd (omega arith)
finish_law leaf (suc levels) level ts carried le lt at ct room =
    let r : List (Tree _) = rest ByCount (child_of leaf) ts in
    let ups : List (Tree _) = map (joined (level + 1)) (whole ByCount (child_of leaf) ts) in
    let rows : List (List (Tree _)) = open_trees ByCount leaf levels (level + 1) ups in
    let count = counted (child_of leaf) [] ts (omega arith) in
    let counted_ups = length-joined (level + 1) (whole ByCount (child_of leaf) ts) in
    elim (cases_Bool (is_only leaf levels level ts carried)) [
      | inl only ↦ finish_here leaf levels level ts carried at ct room only
      | inr more ↦
          (let above = level_above leaf levels level ts carried more room in
          let two : 2 ≤ length (ts ++ carried) = omega (arith, two_trees leaf levels level ts carried more, length-append ts carried) in
          let tree : tree_over ByCount leaf (suc levels) level (ts ++ carried) ≡ tree_over ByCount leaf levels (level + 1)
          (ups ++ map (joined (level + 1)) (last_group (r ++ carried))) =
          more_levels ByCount leaf levels level (ts ++ carried) two ∙ ap (tree_over ByCount leaf levels (level + 1))
          (ap (map (joined (level + 1))) (grouped_with ByCount (child_of leaf) ts carried le) ∙ map-append (joined (level + 1)) (whole ByCount (child_of leaf) ts)
          (last_group (r ++ carried))) in
          elim (last_cases (r ++ carried)) [
            | inl none ↦
                (let ih = finish_law leaf levels (level + 1) ups [] (omega arith) above (at_joined (level + 1) (whole ByCount (child_of leaf) ts)) tt
                (omega (arith, room, count.sum, pow-suc MOST_CHILDREN levels, counted_ups)) in
                let same : tree_over ByCount leaf (suc levels) level (ts ++ carried) ≡ tree_over ByCount leaf levels (level + 1) (ups ++ []) = tree ∙ rw none refl in
                rw same (finish_skip leaf level r rows carried _ more none ih))
            | inr some ↦
                (let up : Tree _ = joined (level + 1) (r ++ carried) in
                let ih = finish_law leaf levels (level + 1) ups (up ∷ []) (omega arith) above (at_joined (level + 1) (whole ByCount (child_of leaf) ts)) (refl, tt)
                (omega (
                  arith,
                  room_some levels (length (whole ByCount (child_of leaf) ts)) (length r) (length carried) above (omega (arith, room, count.sum))
                      (omega (arith, some.0, length-append r carried)),
                  counted_ups,
                )) in
                let same : tree_over ByCount leaf (suc levels) level (ts ++ carried) ≡ tree_over ByCount leaf levels (level + 1) (ups ++ up ∷ []) = tree ∙ rw some.1 refl in
                rw same (finish_up leaf level r rows carried _ more some.0 ih))
          ])
    ]
