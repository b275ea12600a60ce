-- Of the nodes of a tree each comes after its children.
use Rattle.merkle_file.proofs.Prelude.{◌≡◌, ℕ, zero, suc, ◌+◌, ◌≤◌, ◌⊎◌, List, [], ◌∷◌, ◌++◌, length, map, refl, sym, ap, subst, ◌∙◌, append_assoc, arith, inl, inr, AllByRecursion, append-nil, cases_Bool, Child, Form, is_whole, most_level, Contents, Tree, Trees, Empty, Leaf, Node, NoTree, Then, trees, joined, level_of, child_of, children_of, nodes_of, nodes_below, itself, grouped, last_group}
use Rattle.std.proofs.Common.{Some}
use Rattle.std.specs.List.{slice_get}
use Rattle.merkle_file.specs.Tree.{grouped_from, tree_over}
use Rattle.merkle_file.specs.Order.{HasCome, ChildrenComeFirst}
use Rattle.merkle_file.proofs.Placing.{all_push}

-- ---- lists

-- an element of two lists, one after the other, is in the one or the other
parted : {X : Type 0} (xs ys before after : List X) (x : X) → xs ++ ys ≡ before ++ x ∷ after
    → ((more : List X) × (xs ≡ before ++ x ∷ more)) ⊎ ((front : List X) × (before ≡ xs ++ front) × (ys ≡ front ++ x ∷ after))
parted [] ys before after x e = inr (before, refl, e)
parted (a ∷ xs) ys [] after x e = inl (xs, cc)
parted (a ∷ xs) ys (b ∷ before) after x e =
    let rest : xs ++ ys ≡ before ++ x ∷ after = cc in
    let first : a ≡ b = cc in
    elim (parted xs ys before after x rest) [
      | inl p ↦ inl (p.0, cc (p.1))
      | inr p ↦ inr (p.0, cc (p.1), p.2)
    ]

only_one : {X : Type 0} (before after : List X) (x y : X) → y ∷ [] ≡ before ++ x ∷ after → (before ≡ []) × (y ≡ x)
only_one [] after x y e = (refl, cc)
only_one (a ∷ []) after x y e = absurd cc
only_one (a ∷ b ∷ before) after x y e = absurd cc

get_before : {X : Type 0} (xs ys : List X) (i : ℕ) (x : X) → slice_get xs i ≡ Some x → slice_get (xs ++ ys) i ≡ Some x
get_before [] ys i x e = absurd cc
get_before (a ∷ xs) ys zero x e = e
get_before (a ∷ xs) ys (suc i) x e = get_before xs ys i x e

get_after : {X : Type 0} (xs ys : List X) (i : ℕ) → slice_get (xs ++ ys) (length xs + i) ≡ slice_get ys i
get_after [] ys i =
    let same : 0 + i ≡ i = omega arith in
    ap (slice_get ys) same
get_after (a ∷ xs) ys i =
    let same : suc (length xs) + i ≡ suc (length xs + i) = omega arith in
    ap (slice_get (a ∷ (xs ++ ys))) same ∙ get_after xs ys i

get_at : {X : Type 0} (front back : List X) (x : X) → slice_get (front ++ x ∷ back) (length front) ≡ Some x
get_at front back x =
    let same : length front ≡ length front + 0 = omega arith in
    ap (slice_get (front ++ x ∷ back)) same ∙ get_after front (x ∷ back) 0

module _ (xs : List Child) where
  -- ---- trees over these leaves

  -- a tree whose leaves are among these, and whose nodes stand one level above the trees below them
  abbrev mutual
    IsEven : Tree Child → Type 0
    IsEven Empty = ⊥
    IsEven (Leaf c) = (index : ℕ) × (slice_get xs index ≡ Some c)
    IsEven (Node level ts) = (1 ≤ level) × AreEven level ts

    AreEven : ℕ → Trees Child → Type 0
    AreEven level NoTree = Unit {0}
    AreEven level (Then t ts) = (level_of t + 1 ≡ level) × IsEven t × AreEven level ts

  -- what has come has come among more
  come_after : (front before : List Contents) (level : ℕ) (c : Child) → HasCome xs before level c → HasCome xs (front ++ before) level c
  come_after front before level c (inl leaf) = inl leaf
  come_after front before level c (inr node) = inr (node.0, length front + node.1, get_after front before node.1 ∙ node.2, node.3, node.4, node.5)

  come_before : (before others : List Contents) (level : ℕ) (c : Child) → HasCome xs before level c → HasCome xs (before ++ others) level c
  come_before before others level c (inl leaf) = inl leaf
  come_before before others level c (inr node) = inr (node.0, node.1, get_before before others node.1 node.0 node.2, node.3, node.4, node.5)

  all_after : (front before : List Contents) (level : ℕ) (cs : List Child) → AllByRecursion (HasCome xs before level) cs → AllByRecursion (HasCome xs (front ++ before) level) cs
  all_after front before level [] all = tt
  all_after front before level (c ∷ cs) all = (come_after front before level c all.0, all_after front before level cs all.1)

  -- a tree has come with its nodes
  tree_comes : (level : ℕ) (t : Tree Child) → level_of t + 1 ≡ level → IsEven t → HasCome xs (nodes_of itself t) level (child_of itself t)
  tree_comes level Empty above even = absurd even
  tree_comes level (Leaf c) above even = inl (omega (arith, above), even)
  tree_comes level (Node l ts) above even =
      inr (record { level = l; children = children_of itself ts }, length (nodes_below itself ts), get_at (nodes_below itself ts) [] _, even.0, omega (arith, above), refl)

  trees_come : (level : ℕ) (ts : Trees Child) → AreEven level ts → AllByRecursion (HasCome xs (nodes_below itself ts) level) (children_of itself ts)
  trees_come level NoTree even = tt
  trees_come level (Then t ts) even = (
    come_before (nodes_of itself t) (nodes_below itself ts) level (child_of itself t) (tree_comes level t even.0 even.1),
    all_after (nodes_of itself t) (nodes_below itself ts) level (children_of itself ts) (trees_come level ts even.2),
  )

  -- each of these nodes comes after its children
  abbrev InOrder : List Contents → Type 0
  InOrder nodes = (before after : List Contents) (n : Contents) → nodes ≡ before ++ n ∷ after → AllByRecursion (HasCome xs before n.level) n.children

  no_node : InOrder []
  no_node [] after n e = absurd cc
  no_node (m ∷ before) after n e = absurd cc

  both_in_order : (front back : List Contents) → InOrder front → InOrder back → InOrder (front ++ back)
  both_in_order front back first second before after n e =
      elim (parted front back before after n e) [
        | inl p ↦ first before p.0 n p.1
        | inr p ↦ rw (p.1) (all_after front p.0 n.level n.children (second p.0 after n p.2))
      ]

  -- and so does one more
  one_in_order : (front : List Contents) (m : Contents) → InOrder front → AllByRecursion (HasCome xs front m.level) m.children → InOrder (front ++ m ∷ [])
  one_in_order front m first last before after n e =
      elim (parted front (m ∷ []) before after n e) [
        | inl p ↦ first before p.0 n p.1
        | inr p ↦
            (let only = only_one p.0 after n m p.2 in
            let same : before ≡ front = p.1 ∙ ap (λ (ns : List Contents). front ++ ns) only.0 ∙ append-nil front in
            subst (λ (k : Contents). AllByRecursion (HasCome xs before k.level) k.children) only.1
            (subst (λ (ns : List Contents). AllByRecursion (HasCome xs ns m.level) m.children) (sym same) last))
      ]

  mutual
    tree_in_order : (t : Tree Child) → IsEven t → InOrder (nodes_of itself t)
    tree_in_order Empty even = no_node
    tree_in_order (Leaf c) even = no_node
    tree_in_order (Node level ts) even =
        one_in_order (nodes_below itself ts) (record { level = level; children = children_of itself ts }) (trees_in_order level ts even.1) (trees_come level ts even.1)

    trees_in_order : (level : ℕ) (ts : Trees Child) → AreEven level ts → InOrder (nodes_below itself ts)
    trees_in_order level NoTree even = no_node
    trees_in_order level (Then t ts) even = both_in_order (nodes_of itself t) (nodes_below itself ts) (tree_in_order t even.1) (trees_in_order level ts even.2)

  -- ---- the tree over them

  abbrev IsEvenAt : ℕ → Tree Child → Type 0
  IsEvenAt level t = (level_of t ≡ level) × IsEven t

  abbrev AreEvenAt : ℕ → List (Tree Child) → Type 0
  AreEvenAt level ts = AllByRecursion (IsEvenAt level) ts

  even_below : (level : ℕ) (ts : List (Tree Child)) → AreEvenAt level ts → AreEven (level + 1) (trees ts)
  even_below level [] all = tt
  even_below level (t ∷ ts) all = (omega (arith, all.0.0), all.0.1, even_below level ts all.1)

  last_even : (level : ℕ) (ts : List (Tree Child)) → AreEvenAt level ts → AreEvenAt (level + 1) (map (joined (level + 1)) (last_group ts))
  last_even level [] all = tt
  last_even level (t ∷ ts) all = ((refl, (omega arith, even_below level (t ∷ ts) all)), tt)

  groups_even : (form : Form) (level : ℕ) (begun ts : List (Tree Child)) → AreEvenAt level begun → AreEvenAt level ts
      → AreEvenAt (level + 1) (map (joined (level + 1)) (grouped_from form (child_of itself) begun ts))
  unfolding grouped_from
  groups_even form level begun [] some all = last_even level begun some
  groups_even form level begun (t ∷ ts) some all =
      let more = all_push (IsEvenAt level) begun t some all.0 in
      elim (cases_Bool (is_whole form (child_of itself) (begun ++ t ∷ []))) [
        | inl full ↦ rw full ((refl, (omega arith, even_below level (begun ++ t ∷ []) more)), groups_even form level [] ts tt all.1)
        | inr few ↦ rw few (groups_even form level (begun ++ t ∷ []) ts more all.1)
      ]

  over_in_order : (form : Form) (levels level : ℕ) (ts : List (Tree Child)) → AreEvenAt level ts → InOrder (nodes_of itself (tree_over form itself levels level ts))
  unfolding tree_over
  over_in_order form zero level [] all = no_node
  over_in_order form (suc levels) level [] all = no_node
  over_in_order form zero level (t ∷ []) all = tree_in_order t all.0.1
  over_in_order form (suc levels) level (t ∷ []) all = tree_in_order t all.0.1
  over_in_order form zero level (t ∷ u ∷ ts) all = no_node
  over_in_order form (suc levels) level (t ∷ u ∷ ts) all =
      over_in_order form levels (level + 1) (map (joined (level + 1)) (grouped form (child_of itself) (t ∷ u ∷ ts))) (groups_even form level [] (t ∷ u ∷ ts) tt all)

  leaves_even : (front cs : List Child) → xs ≡ front ++ cs → AreEvenAt 0 (map Leaf cs)
  leaves_even front [] is = tt
  leaves_even front (c ∷ cs) is = (
    (refl, (length front, ap (λ (l : List Child). slice_get l (length front)) is ∙ get_at front cs c)),
    leaves_even (front ++ c ∷ []) cs (is ∙ sym (append_assoc front (c ∷ []) cs)),
  )

pub children_come_first : ChildrenComeFirst
children_come_first form xs before after n is = over_in_order xs form (most_level form) 0 (map Leaf xs) (leaves_even xs [] xs refl) before after n is
