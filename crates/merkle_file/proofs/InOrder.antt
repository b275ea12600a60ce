-- The nodes that are finished while a tree is built are the first nodes of the tree.
use Rattle.merkle_file.proofs.Prelude.{◌≡◌, ℕ, zero, suc, ◌+◌, ◌^◌, ◌<◌, ◌≤◌, List, [], ◌∷◌, ◌++◌, length, map, refl, sym, ap, ◌∙◌, append_assoc, arith, inl, inr, flat_map, cases_Bool, cases_lt, append-nil, map-append, flat_map-append, flat_map-cons, Child, MOST_CHILDREN, MOST_LEVEL, Form, ByCount, is_whole, Contents, Tree, Leaf, child_of, joined, nodes_of, itself, grouped, last_group, open_over, nodes_in_rows, whole, rest}
use Rattle.merkle_file.specs.Tree.{tree_over}
use Rattle.merkle_file.specs.Building.{open_trees, whole_from, rest_from}
use Rattle.merkle_file.specs.Order.{NodesComeInOrder}
use Rattle.merkle_file.proofs.Pushing.{nodes_of-joined, said}
use Rattle.merkle_file.proofs.Groups.{groups_after, grouped_is}
use Rattle.merkle_file.proofs.Finishing.{empty_where_none, more_levels}
use Rattle.merkle_file.proofs.TreeLaws.{groups_few, length_map}

-- ---- first nodes

-- nodes are the first of others
abbrev pub Begins : List Contents → List Contents → Type 0
Begins first all = (others : List Contents) × (all ≡ first ++ others)

begins_all : (ns : List Contents) → Begins ns ns
begins_all ns = ([], sym (append-nil ns))

begins_more : (first ns all : List Contents) → Begins (first ++ ns) all → Begins first all
begins_more first ns all h = (ns ++ h.0, h.1 ∙ append_assoc first ns h.0)

begins_after : (front first all : List Contents) → Begins first all → Begins (front ++ first) (front ++ all)
begins_after front first all h = (h.0, ap (λ (ns : List Contents). front ++ ns) h.1 ∙ sym (append_assoc front first h.0))

begins_both : (a b all : List Contents) → Begins a b → Begins b all → Begins a all
begins_both a b all h k = (h.0 ++ k.0, k.1 ∙ ap (λ (ns : List Contents). ns ++ k.0) h.1 ∙ append_assoc a h.0 k.0)

-- ---- groups

abbrev flat : {A : Type 0} → (A → Child) → List (Tree A) → List Contents
flat leaf ts = flat_map (nodes_of leaf) ts

-- the nodes of the first tree
abbrev of_first : {A : Type 0} → (A → Child) → List (Tree A) → List Contents
of_first leaf [] = []
of_first leaf (t ∷ ts) = nodes_of leaf t

-- the nodes in the first group
abbrev in_first : {A : Type 0} → (A → Child) → List (List (Tree A)) → List Contents
in_first leaf [] = []
in_first leaf (g ∷ gs) = flat leaf g

flat_one : {A : Type 0} (leaf : A → Child) (begun : List (Tree A)) (t : Tree A) → flat leaf (begun ++ t ∷ []) ≡ flat leaf begun ++ nodes_of leaf t
flat_one leaf begun t =
    flat_map-append (nodes_of leaf) begun (t ∷ [])
    ∙ ap (λ (ns : List Contents). flat leaf begun ++ ns) (flat_map-cons (nodes_of leaf) t [] ∙ append-nil (nodes_of leaf t))

-- The first of them has what was begun, and the next tree.
first_group : {A : Type 0} (form : Form) (leaf : A → Child) (begun us : List (Tree A)) →
    Begins (flat leaf begun ++ of_first leaf us) (in_first leaf (groups_after form (child_of leaf) begun us))
unfolding whole_from rest_from
first_group form leaf [] [] = begins_all []
first_group form leaf (b ∷ bs) [] = rw (append-nil (flat leaf (b ∷ bs))) (begins_all (flat leaf (b ∷ bs)))
first_group form leaf begun (u ∷ us) =
    elim (cases_Bool (is_whole form (child_of leaf) (begun ++ u ∷ []))) [
      | inl full ↦ rw (full, ← flat_one leaf begun u) (begins_all (flat leaf (begun ++ u ∷ [])))
      | inr few ↦ rw (few, ← flat_one leaf begun u) (begins_more (flat leaf (begun ++ u ∷ [])) (of_first leaf us) _ (first_group form leaf (begun ++ u ∷ []) us))
    ]

-- a node over a group comes after those in it
first_joined : {A : Type 0} (leaf : A → Child) (level : ℕ) (gs : List (List (Tree A))) → Begins (in_first leaf gs) (of_first leaf (map (joined level) gs))
first_joined leaf level [] = begins_all []
first_joined leaf level (g ∷ gs) = (said leaf level g ∷ [], nodes_of-joined leaf level g)

whole_more : {X : Type 0} (form : Form) (says : X → Child) (begun xs ys : List X) → whole_from form says begun (xs ++ ys) ≡ whole_from form says begun xs ++ whole_from form says
    (rest_from form says begun xs) ys
unfolding whole_from rest_from
whole_more form says begun [] ys = refl
whole_more form says begun (x ∷ xs) ys =
    elim (cases_Bool (is_whole form says (begun ++ x ∷ []))) [
      | inl full ↦ rw full (ap (λ gs. (begun ++ x ∷ []) ∷ gs) (whole_more form says [] xs ys))
      | inr few ↦ rw few (whole_more form says (begun ++ x ∷ []) xs ys)
    ]

rest_more : {X : Type 0} (form : Form) (says : X → Child) (begun xs ys : List X) → rest_from form says begun (xs ++ ys) ≡ rest_from form says (rest_from form says begun xs) ys
unfolding rest_from
rest_more form says begun [] ys = refl
rest_more form says begun (x ∷ xs) ys =
    elim (cases_Bool (is_whole form says (begun ++ x ∷ []))) [
      | inl full ↦ rw full (rest_more form says [] xs ys)
      | inr few ↦ rw few (rest_more form says (begun ++ x ∷ []) xs ys)
    ]

-- the groups of a list and more
grouped_more : {X : Type 0} (form : Form) (says : X → Child) (ts us : List X) → grouped form says (ts ++ us) ≡ whole form says ts ++ groups_after form says (rest form says ts) us
grouped_more form says ts us =
    grouped_is form says (ts ++ us)
    ∙ ap (λ gs. gs ++ last_group (rest form says (ts ++ us))) (whole_more form says [] ts us)
    ∙ ap (λ left. (whole form says ts ++ whole_from form says (rest form says ts) us) ++ last_group left) (rest_more form says [] ts us)
    ∙ append_assoc (whole form says ts) (whole_from form says (rest form says ts) us) (last_group (rest_from form says (rest form says ts) us))

-- ---- all levels

-- where there is one tree at most
few_in_order : {A : Type 0} (leaf : A → Child) (levels level : ℕ) (ts us : List (Tree A)) → length (ts ++ us) < 2
    → Begins (nodes_in_rows leaf (open_trees ByCount leaf levels level ts) ++ of_first leaf us) (nodes_of leaf (tree_over ByCount leaf levels level (ts ++ us)))
unfolding open_trees tree_over whole_from rest_from
few_in_order leaf levels level [] [] few = rw (empty_where_none leaf levels level).1 (_, refl)
few_in_order leaf zero level [] (u ∷ []) few = begins_all (nodes_of leaf u)
few_in_order leaf (suc levels) level [] (u ∷ []) few = rw (empty_where_none leaf (suc levels) level).1 (begins_all (nodes_of leaf u))
few_in_order leaf levels level [] (u ∷ v ∷ us) few = absurd (omega arith)
few_in_order leaf zero level (t ∷ []) [] few = (nodes_of leaf t, refl)
few_in_order leaf (suc levels) level (t ∷ []) [] few =
    let none = (empty_where_none leaf levels (level + 1)).1 in
    ([], rw none (sym (append-nil _ ∙ append-nil _ ∙ flat_map-cons (nodes_of leaf) t [] ∙ append-nil (nodes_of leaf t))))
few_in_order leaf levels level (t ∷ []) (u ∷ us) few = absurd (omega arith)
few_in_order leaf levels level (t ∷ s ∷ ts) us few = absurd (omega arith)

-- The nodes of trees that have no parent yet, and then those of the next tree, are the first nodes of the tree over all.
in_order : {A : Type 0} (leaf : A → Child) (levels level : ℕ) (ts us : List (Tree A)) → length (ts ++ us) ≤ MOST_CHILDREN ^ levels
    → Begins (nodes_in_rows leaf (open_trees ByCount leaf levels level ts) ++ of_first leaf us) (nodes_of leaf (tree_over ByCount leaf levels level (ts ++ us)))
unfolding open_trees
in_order leaf zero level ts us room = few_in_order leaf zero level ts us (omega (arith, room))
in_order leaf (suc levels) level ts us room =
    elim (cases_lt (length (ts ++ us)) 2) [
      | inl few ↦ few_in_order leaf (suc levels) level ts us few
      | inr many ↦
          (let gs : List (List (Tree _)) = groups_after ByCount (child_of leaf) (rest ByCount (child_of leaf) ts) us in
          let ups : List (Tree _) = map (joined (level + 1)) (whole ByCount (child_of leaf) ts) in
          let rows : List Contents = nodes_in_rows leaf (open_trees ByCount leaf levels (level + 1) ups) in
          let all : map (joined (level + 1)) (grouped ByCount (child_of leaf) (ts ++ us)) ≡ ups ++ map (joined (level + 1)) gs =
          ap (map (joined (level + 1))) (grouped_more ByCount (child_of leaf) ts us) ∙ map-append (joined (level + 1)) (whole ByCount (child_of leaf) ts) gs in
          let ih = in_order leaf levels (level + 1) ups (map (joined (level + 1)) gs) (omega (arith, ap length all, groups_few leaf levels (level + 1) (ts ++ us) room)) in
          let tree : tree_over ByCount leaf levels (level + 1) (ups ++ map (joined (level + 1)) gs) ≡ tree_over ByCount leaf (suc levels) level (ts ++ us) =
          ap (tree_over ByCount leaf levels (level + 1)) (sym all) ∙ sym (more_levels ByCount leaf levels level (ts ++ us) many) in
          let next = begins_both (flat leaf (rest ByCount (child_of leaf) ts) ++ of_first leaf us) (in_first leaf gs) _
          (first_group ByCount leaf (rest ByCount (child_of leaf) ts) us) (first_joined leaf (level + 1) gs) in
          rw (← tree, append_assoc rows (flat leaf (rest ByCount (child_of leaf) ts)) (of_first leaf us))
          (begins_both (rows ++ (flat leaf (rest ByCount (child_of leaf) ts) ++ of_first leaf us)) (rows ++ of_first leaf (map (joined (level + 1)) gs)) _
          (begins_after rows _ _ next) ih))
    ]

pub nodes_come_in_order : NodesComeInOrder
nodes_come_in_order b pushed more taken holds room =
    let leaves : map Leaf (pushed ++ more) ≡ map Leaf pushed ++ map Leaf more = map-append Leaf pushed more in
    let count = length_map {Y = Tree Child} Leaf (pushed ++ more) in
    let order = in_order itself MOST_LEVEL 0 (map Leaf pushed) (map Leaf more) (omega (arith, ap (λ (ts : List (Tree Child)). length ts) leaves, count, room)) in
    let first = begins_more (nodes_in_rows itself (open_over ByCount pushed)) (of_first itself (map Leaf more)) _ order in
    rw (holds.nodes, leaves) first
