-- The laws of trees.
use Rattle.merkle_file.proofs.Prelude.{◌≡◌, ℕ, zero, suc, ◌+◌, ◌^◌, ◌≤◌, eqb, List, [], ◌∷◌, ◌++◌, length, map, refl, sym, ap, ◌∙◌, append_assoc, arith, inl, inr, pow-suc, flat_map, cases_Bool, length-append, append-nil, map-append, flat_map-append, flat_map-cons, Child, Top, MOST_CHILDREN, MOST_LEVEL, Form, ByCount, is_whole, most_level, Contents, Tree, Trees, Empty, Leaf, Node, NoTree, Then, trees, joined, leaves, leaves_below, child_of, children_of, nodes_of, nodes_below, level_of, root_of, of_segment, itself, parent, grouped, last_group, tree_of, whole, rest}
use Rattle.merkle_file.specs.Tree.{grouped_from, tree_over, SegmentsAlike, LeavesAreSegments}
use Rattle.merkle_file.proofs.Pushing.{counted}
use Rattle.merkle_file.proofs.Groups.{grouped_is}

-- ---- a tree with other leaves

abbrev mutual
  with_leaves : {A B : Type 0} → (A → B) → Tree A → Tree B
  with_leaves f Empty = Empty
  with_leaves f (Leaf a) = Leaf (f a)
  with_leaves f (Node level ts) = Node level (with_leaves_below f ts)

  with_leaves_below : {A B : Type 0} → (A → B) → Trees A → Trees B
  with_leaves_below f NoTree = NoTree
  with_leaves_below f (Then t ts) = Then (with_leaves f t) (with_leaves_below f ts)

mutual
  same_child : {A : Type 0} (leaf : A → Child) (t : Tree A) → child_of itself (with_leaves leaf t) ≡ child_of leaf t
  same_child leaf Empty = refl
  same_child leaf (Leaf a) = refl
  same_child leaf (Node level ts) = ap (λ (cs : List Child). parent (record { level = level; children = cs })) (same_children leaf ts)

  same_children : {A : Type 0} (leaf : A → Child) (ts : Trees A) → children_of itself (with_leaves_below leaf ts) ≡ children_of leaf ts
  same_children leaf NoTree = refl
  same_children leaf (Then t ts) = ap (λ (c : Child). c ∷ children_of itself (with_leaves_below leaf ts)) (same_child leaf t) ∙ ap (λ (cs : List Child). child_of leaf t ∷ cs)
      (same_children leaf ts)

mutual
  same_nodes : {A : Type 0} (leaf : A → Child) (t : Tree A) → nodes_of itself (with_leaves leaf t) ≡ nodes_of leaf t
  same_nodes leaf Empty = refl
  same_nodes leaf (Leaf a) = refl
  same_nodes leaf (Node level ts) =
      ap (λ (ns : List Contents). ns ++ record { level = level; children = children_of itself (with_leaves_below leaf ts) } ∷ []) (same_nodes_below leaf ts)
      ∙ ap (λ (cs : List Child). nodes_below leaf ts ++ record { level = level; children = cs } ∷ []) (same_children leaf ts)

  same_nodes_below : {A : Type 0} (leaf : A → Child) (ts : Trees A) → nodes_below itself (with_leaves_below leaf ts) ≡ nodes_below leaf ts
  same_nodes_below leaf NoTree = refl
  same_nodes_below leaf (Then t ts) = ap (λ (ns : List Contents). ns ++ nodes_below itself (with_leaves_below leaf ts)) (same_nodes leaf t)
      ∙ ap (λ (ns : List Contents). nodes_of leaf t ++ ns) (same_nodes_below leaf ts)

same_level : {A : Type 0} (leaf : A → Child) (t : Tree A) → level_of (with_leaves leaf t) ≡ level_of t
same_level leaf Empty = refl
same_level leaf (Leaf a) = refl
same_level leaf (Node level ts) = refl

same_root : {A : Type 0} (leaf : A → Child) (t : Tree A) → root_of itself (with_leaves leaf t) ≡ root_of leaf t
same_root leaf t =
    ap (λ (c : Child). let made : Top = record { length = c.length; level = level_of (with_leaves leaf t); digest = c.digest } in made) (same_child leaf t)
    ∙ ap (λ (l : ℕ). let made : Top = record { length = (child_of leaf t).length; level = l; digest = (child_of leaf t).digest } in made) (same_level leaf t)

-- ---- groups of other elements

pub length_map : {X Y : Type 0} (h : X → Y) (xs : List X) → length (map h xs) ≡ length xs
length_map h [] = refl
length_map h (x ∷ xs) = ap suc (length_map h xs)

-- A function tells of other elements what is said of these.
abbrev pub SaysSame : {X Y : Type 0} → (X → Y) → (X → Child) → (Y → Child) → Type 0
SaysSame {X} h says tells = (x : X) → tells (h x) ≡ says x

same_whole : {X Y : Type 0} (form : Form) (h : X → Y) (says : X → Child) (tells : Y → Child) → SaysSame h says tells → (group : List X) →
    is_whole form tells (map h group) ≡ is_whole form says group
same_whole ByCount h says tells same group = ap (λ (n : ℕ). eqb n MOST_CHILDREN) (length_map h group)

-- one element more
whole_one : {X Y : Type 0} (form : Form) (h : X → Y) (says : X → Child) (tells : Y → Child) → SaysSame h says tells → (begun : List X) (x : X)
    → is_whole form tells (map h begun ++ h x ∷ []) ≡ is_whole form says (begun ++ x ∷ [])
whole_one form h says tells same begun x = ap (λ group. is_whole form tells group) (sym (map-append h begun (x ∷ []))) ∙ same_whole form h says tells same (begun ++ x ∷ [])

last_group-map : {X Y : Type 0} (h : X → Y) (xs : List X) → last_group (map h xs) ≡ map (map h) (last_group xs)
last_group-map h [] = refl
last_group-map h (x ∷ xs) = refl

grouped-map : {X Y : Type 0} (form : Form) (h : X → Y) (says : X → Child) (tells : Y → Child) → SaysSame h says tells → (begun xs : List X)
    → grouped_from form tells (map h begun) (map h xs) ≡ map (map h) (grouped_from form says begun xs)
unfolding grouped_from
grouped-map form h says tells same begun [] = last_group-map h begun
grouped-map form h says tells same begun (x ∷ xs) =
    let more : map h (begun ++ x ∷ []) ≡ map h begun ++ h x ∷ [] = map-append h begun (x ∷ []) in
    elim (cases_Bool (is_whole form says (begun ++ x ∷ []))) [
      | inl full ↦ rw (whole_one form h says tells same begun x, full, ← more) (ap (λ gs. map h (begun ++ x ∷ []) ∷ gs) (grouped-map form h says tells same [] xs))
      | inr few ↦ rw (whole_one form h says tells same begun x, few, ← more) (grouped-map form h says tells same (begun ++ x ∷ []) xs)
    ]

-- ---- the tree over other leaves

trees-map : {A B : Type 0} (f : A → B) (ts : List (Tree A)) → trees (map (with_leaves f) ts) ≡ with_leaves_below f (trees ts)
trees-map f [] = refl
trees-map f (t ∷ ts) = ap (λ (us : Trees _). Then (with_leaves f t) us) (trees-map f ts)

joined-map : {A B : Type 0} (f : A → B) (level : ℕ) (groups : List (List (Tree A))) → map (joined level) (map (map (with_leaves f)) groups) ≡ map (with_leaves f)
    (map (joined level) groups)
joined-map f level [] = refl
joined-map f level (g ∷ gs) = ap (λ (ts : Trees _). Node level ts ∷ map (joined level) (map (map (with_leaves f)) gs)) (trees-map f g)
    ∙ ap (λ (us : List (Tree _)). Node level (with_leaves_below f (trees g)) ∷ us) (joined-map f level gs)

tree_over-map : {A : Type 0} (form : Form) (leaf : A → Child) (levels level : ℕ) (ts : List (Tree A)) →
    tree_over form itself levels level (map (with_leaves leaf) ts) ≡ with_leaves leaf (tree_over form leaf levels level ts)
unfolding tree_over
tree_over-map form leaf zero level [] = refl
tree_over-map form leaf (suc levels) level [] = refl
tree_over-map form leaf zero level (t ∷ []) = refl
tree_over-map form leaf (suc levels) level (t ∷ []) = refl
tree_over-map form leaf zero level (t ∷ u ∷ ts) = refl
tree_over-map form leaf (suc levels) level (t ∷ u ∷ ts) =
    let groups : List (List (Tree _)) = grouped form (child_of leaf) (t ∷ u ∷ ts) in
    ap (λ (gs : List (List (Tree Child))). tree_over form itself levels (level + 1) (map (joined (level + 1)) gs))
    (grouped-map form (with_leaves leaf) (child_of leaf) (child_of itself) (same_child leaf) [] (t ∷ u ∷ ts))
    ∙ ap (tree_over form itself levels (level + 1)) (joined-map leaf (level + 1) groups)
    ∙ tree_over-map form leaf levels (level + 1) (map (joined (level + 1)) groups)

leaves-map : {A B : Type 0} (f : A → B) (xs : List A) → map Leaf (map f xs) ≡ map (with_leaves f) (map Leaf xs)
leaves-map f [] = refl
leaves-map f (x ∷ xs) = ap (λ (ts : List (Tree _)). Leaf (f x) ∷ ts) (leaves-map f xs)

pub segments_alike : SegmentsAlike
segments_alike form segments =
    let same : tree_of form itself (map of_segment segments) ≡ with_leaves of_segment (tree_of form of_segment segments) =
    ap (tree_over form itself (most_level form) 0) (leaves-map of_segment segments) ∙ tree_over-map form of_segment (most_level form) 0 (map Leaf segments) in
    (ap (root_of itself) same ∙ same_root of_segment (tree_of form of_segment segments), ap (nodes_of itself) same ∙ same_nodes of_segment (tree_of form of_segment segments))

-- ---- the leaves of a tree

abbrev flat : {A : Type 0} → List (Tree A) → List A
flat ts = flat_map leaves ts

flat_one : {A : Type 0} (begun : List (Tree A)) (x : Tree A) → flat (begun ++ x ∷ []) ≡ flat begun ++ leaves x
flat_one begun x = flat_map-append leaves begun (x ∷ []) ∙ ap (λ (out : List _). flat begun ++ out) (flat_map-cons leaves x [] ∙ append-nil (leaves x))

last_join : {A : Type 0} (ts : List (Tree A)) → flat_map flat (last_group ts) ≡ flat ts
last_join [] = refl
last_join (t ∷ ts) = flat_map-cons flat (t ∷ ts) [] ∙ append-nil (flat (t ∷ ts))

-- groups, one after the other, are the list
grouped_join : {A : Type 0} (form : Form) (says : Tree A → Child) (begun xs : List (Tree A)) → flat_map flat (grouped_from form says begun xs) ≡ flat begun ++ flat xs
unfolding grouped_from
grouped_join form says begun [] = last_join begun ∙ sym (append-nil (flat begun))
grouped_join form says begun (x ∷ xs) =
    let apart : flat (begun ++ x ∷ []) ++ flat xs ≡ flat begun ++ flat (x ∷ xs) =
    ap (λ (out : List _). out ++ flat xs) (flat_one begun x) ∙ append_assoc (flat begun) (leaves x) (flat xs) ∙ ap (λ (out : List _). flat begun ++ out)
    (sym (flat_map-cons leaves x xs)) in
    elim (cases_Bool (is_whole form says (begun ++ x ∷ []))) [
      | inl full ↦
          rw full (flat_map-cons flat (begun ++ x ∷ []) (grouped_from form says [] xs)
          ∙ ap (λ (out : List _). flat (begun ++ x ∷ []) ++ out) (grouped_join form says [] xs) ∙ apart)
      | inr few ↦ rw few (grouped_join form says (begun ++ x ∷ []) xs ∙ apart)
    ]

leaves-trees : {A : Type 0} (ts : List (Tree A)) → leaves_below (trees ts) ≡ flat ts
leaves-trees [] = refl
leaves-trees (t ∷ ts) = ap (λ (out : List _). leaves t ++ out) (leaves-trees ts) ∙ sym (flat_map-cons leaves t ts)

flat-joined : {A : Type 0} (level : ℕ) (gs : List (List (Tree A))) → flat (map (joined level) gs) ≡ flat_map flat gs
flat-joined level [] = refl
flat-joined level (g ∷ gs) =
    flat_map-cons leaves (joined level g) (map (joined level) gs)
    ∙ ap (λ (out : List _). out ++ flat (map (joined level) gs)) (leaves-trees g)
    ∙ ap (λ (out : List _). flat g ++ out) (flat-joined level gs)
    ∙ sym (flat_map-cons flat g gs)

length-last : {X : Type 0} (xs : List X) → length (last_group xs) ≤ length xs
length-last [] = omega arith
length-last (x ∷ xs) = omega arith

last_few : {X : Type 0} (xs : List X) → length (last_group xs) ≤ 1
last_few [] = omega arith
last_few (x ∷ xs) = omega arith

-- there are few enough groups for one level less
pub groups_few : {A : Type 0} (leaf : A → Child) (levels level : ℕ) (ts : List (Tree A)) → length ts ≤ MOST_CHILDREN ^ suc levels
    → length (map (joined level) (grouped ByCount (child_of leaf) ts)) ≤ MOST_CHILDREN ^ levels
groups_few leaf levels level ts few =
    let says : Tree _ → Child = child_of leaf in
    let count = counted says [] ts (omega arith) in
    let left = rest ByCount says ts in
    omega (
      arith,
      few,
      count.sum,
      pow-suc MOST_CHILDREN levels,
      length_map (joined level) (grouped ByCount says ts),
      ap length (grouped_is ByCount says ts),
      length-append (whole ByCount says ts) (last_group left),
      length-last left,
      last_few left,
    )

leaves_over : {A : Type 0} (leaf : A → Child) (levels level : ℕ) (ts : List (Tree A)) → length ts ≤ MOST_CHILDREN ^ levels →
    leaves (tree_over ByCount leaf levels level ts) ≡ flat ts
unfolding tree_over
leaves_over leaf zero level [] few = refl
leaves_over leaf (suc levels) level [] few = refl
leaves_over leaf zero level (t ∷ []) few = sym (flat_map-cons leaves t [] ∙ append-nil (leaves t))
leaves_over leaf (suc levels) level (t ∷ []) few = sym (flat_map-cons leaves t [] ∙ append-nil (leaves t))
leaves_over leaf zero level (t ∷ u ∷ ts) few = absurd (omega arith)
leaves_over leaf (suc levels) level (t ∷ u ∷ ts) few =
    let groups : List (List (Tree _)) = grouped ByCount (child_of leaf) (t ∷ u ∷ ts) in
    leaves_over leaf levels (level + 1) (map (joined (level + 1)) groups) (groups_few leaf levels (level + 1) (t ∷ u ∷ ts) few)
    ∙ flat-joined (level + 1) groups ∙ grouped_join ByCount (child_of leaf) [] (t ∷ u ∷ ts)

flat-leaves : {A : Type 0} (xs : List A) → flat (map Leaf xs) ≡ xs
flat-leaves [] = refl
flat-leaves (x ∷ xs) = flat_map-cons leaves (Leaf x) (map Leaf xs) ∙ ap (λ (out : List _). x ∷ out) (flat-leaves xs)

pub leaves_are_segments : LeavesAreSegments
leaves_are_segments ByCount segments few =
    leaves_over of_segment MOST_LEVEL 0 (map Leaf segments) (omega (arith, few, length_map {Y = Tree (List ℕ)} Leaf segments)) ∙ flat-leaves segments
