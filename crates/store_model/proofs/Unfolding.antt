-- An image stands for one map of files at most: a tree is told by its level, its digest, and what is held of it.
use Rattle.store_model.proofs.Prelude.{◌≡◌, ℕ, ◌≤◌, List, [], ◌∷◌, length, Option, refl, sym, ◌∙◌, ap, subst, arith, AllByRecursion, sum_by-cons, sum_by-append, key_of, MOST_FILE, Root, HeaderValue, ByCount, Contents, IsNode, spelling, Trees, Empty, Node, NoTree, Then, leaves, leaves_below, of_segment, contents_of, Copy, newest, root_of, bytes_at, HasNewest, HoldsTree, HoldsTrees}
use Rattle.std.specs.Prelude.{sum_by}
use Rattle.std.specs.List.{concat}
use Rattle.merkle_file.specs.declared.node.Child.{Child}
use Rattle.merkle_file.specs.declared.top.Top.{Top}
use Rattle.merkle_file.specs.Node.{node_digest, total}
use Rattle.merkle_file.specs.Tree as tree
use Rattle.merkle_file.specs.Tree.{Tree, Leaf, child_of, children_of, level_of}
use Rattle.merkle_file.specs.Walk.{IsTree, AreBelow, trees_in}
use Rattle.merkle_file.proofs.TreeLaws.{leaves_are_segments}
use Rattle.merkle_file.proofs.RightTrees.{trees_are_right}
use Rattle.segmenter.specs.Segments.{segments_of}
use Rattle.segmenter.proofs.SegmentLemmas.{segments_of-laws}
use Rattle.store_model.specs.Trees.{file_tree}
use Rattle.store_model.proofs.Copies.{some_same}
use Rattle.merkle_file.proofs.RootLaws.{spellings_tell_nodes}
use Rattle.segmenter.proofs.LengthLemmas.{have_right_lengths, lengths_add_up, are_few}

-- ---- trees

-- the newest copy of a key is one
pub newest_once : (held : List (Option HeaderValue)) (image key other : List ℕ) (level high : ℕ) (a b : List ℕ) → key ≡ other
    → HasNewest held key level a image → HasNewest held other high b image → a ≡ b
newest_once held image key other level high a b same one also =
    let copies : one.copy ≡ also.copy = some_same one.copy also.copy (sym one.copy_is ∙ ap (newest 0 held) same ∙ also.copy_is) in
    sym one.bytes_are ∙ ap (λ (c : Copy). bytes_at c.place image) copies ∙ also.bytes_are

first_same : (a b : Child) (cs ds : List Child) → a ∷ cs ≡ b ∷ ds → a ≡ b
first_same a b cs ds same = cc

rest_same : (a b : Child) (cs ds : List Child) → a ∷ cs ≡ b ∷ ds → cs ≡ ds
rest_same a b cs ds same = cc

-- what two nodes say, where they are held under one digest
nodes_once : (held : List (Option HeaderValue)) (image : List ℕ) (n m : Contents) → IsNode n → IsNode m → node_digest n ≡ node_digest m
    → HasNewest held (key_of 1 (node_digest n)) n.level (spelling n) image → HasNewest held (key_of 1 (node_digest m)) m.level (spelling m) image → n ≡ m
nodes_once held image n m right also digest one other =
    spellings_tell_nodes n m right also (newest_once held image _ _ n.level m.level (spelling n) (spelling m) (ap (key_of 1) digest) one other)

mutual
  same_tree : (held : List (Option HeaderValue)) (image : List ℕ) (t u : Tree (List ℕ)) → IsTree t → IsTree u → HoldsTree held image t → HoldsTree held image u
      → level_of t ≡ level_of u → (child_of of_segment t).digest ≡ (child_of of_segment u).digest → t ≡ u
  same_tree held image Empty u right also one other level digest = absurd right
  same_tree held image (Leaf a) Empty right also one other level digest = absurd also
  same_tree held image (Leaf a) (Leaf b) right also one other level digest =
      ap Leaf (newest_once held image _ _ 0 0 a b (ap (key_of 0) digest) one other)
  same_tree held image (Leaf a) (Node l us) right also one other level digest = absurd (omega (arith, also.0.above, level))
  same_tree held image (Node k ts) Empty right also one other level digest = absurd also
  same_tree held image (Node k ts) (Leaf b) right also one other level digest = absurd (omega (arith, right.0.above, level))
  same_tree held image (Node k ts) (Node l us) right also one other level digest =
      let n : contents_of k ts ≡ contents_of l us = nodes_once held image (contents_of k ts) (contents_of l us) right.0 also.0 digest one.0 other.0 in
      let below : AreBelow k us = subst (λ (m : ℕ). AreBelow m us) (sym level) also.1 in
      let same : ts ≡ us = same_trees held image k ts us right.1 below one.1 other.1 (ap (λ (c : Contents). c.children) n) in
      ap (λ (m : ℕ). Node m ts) level ∙ ap (Node l) same

  same_trees : (held : List (Option HeaderValue)) (image : List ℕ) (level : ℕ) (ts us : Trees (List ℕ)) → AreBelow level ts → AreBelow level us
      → HoldsTrees held image ts → HoldsTrees held image us → children_of of_segment ts ≡ children_of of_segment us → ts ≡ us
  same_trees held image level NoTree NoTree right also one other same = refl
  same_trees held image level NoTree (Then u us) right also one other same = absurd cc
  same_trees held image level (Then t ts) NoTree right also one other same = absurd cc
  same_trees held image level (Then t ts) (Then u us) right also one other same =
      let first : child_of of_segment t ≡ child_of of_segment u = first_same _ _ _ _ same in
      let rest : children_of of_segment ts ≡ children_of of_segment us = rest_same _ _ _ _ same in
      let levels : level_of t ≡ level_of u = omega (arith, right.0, also.0) in
      ap (λ (x : Tree (List ℕ)). Then x ts) (same_tree held image t u right.1 also.1 one.0 other.0 levels (ap (λ (c : Child). c.digest) first))
      ∙ ap (Then u) (same_trees held image level ts us right.2 also.2 one.1 other.1 rest)

-- a tree that a file may have: a right one, or the empty one
abbrev pub IsRightTree : Tree (List ℕ) → Type 0
IsRightTree t = AllByRecursion IsTree (trees_in t)

-- Two right trees that are held and have one root are one tree.
pub trees_agree : (held : List (Option HeaderValue)) (image : List ℕ) (t u : Tree (List ℕ)) → IsRightTree t → IsRightTree u → HoldsTree held image t → HoldsTree held image u
    → tree.root_of of_segment t ≡ tree.root_of of_segment u → t ≡ u
trees_agree held image t u right also one other root =
    by_tree t u right also one other (ap (λ (r : Top). r.length) root) (ap (λ (r : Top). r.level) root) (ap (λ (r : Top). r.digest) root)
  where
    by_tree : (t u : Tree (List ℕ)) → IsRightTree t → IsRightTree u → HoldsTree held image t → HoldsTree held image u
        → (child_of of_segment t).length ≡ (child_of of_segment u).length → level_of t ≡ level_of u → (child_of of_segment t).digest ≡ (child_of of_segment u).digest → t ≡ u
    by_tree Empty Empty right also one other count level digest = refl
    by_tree Empty (Leaf b) right also one other count level digest = absurd (omega (arith, count, also.0))
    by_tree Empty (Node l us) right also one other count level digest = absurd (omega (arith, also.0.0.above, level))
    by_tree (Leaf a) Empty right also one other count level digest = absurd (omega (arith, count, right.0))
    by_tree (Leaf a) (Leaf b) right also one other count level digest = same_tree held image (Leaf a) (Leaf b) right.0 also.0 one other level digest
    by_tree (Leaf a) (Node l us) right also one other count level digest = same_tree held image (Leaf a) (Node l us) right.0 also.0 one other level digest
    by_tree (Node k ts) Empty right also one other count level digest = absurd (omega (arith, right.0.0.above, level))
    by_tree (Node k ts) (Leaf b) right also one other count level digest = same_tree held image (Node k ts) (Leaf b) right.0 also.0 one other level digest
    by_tree (Node k ts) (Node l us) right also one other count level digest = same_tree held image (Node k ts) (Node l us) right.0 also.0 one other level digest

-- ---- what a tree says of its leaves

mutual
  told_length : (t : Tree (List ℕ)) → (child_of of_segment t).length ≡ sum_by length (leaves t)
  told_length Empty = refl
  told_length (Leaf a) = omega (arith, sum_by-cons length a [])
  told_length (Node level ts) = told_total ts

  told_total : (ts : Trees (List ℕ)) → total (children_of of_segment ts) ≡ sum_by length (leaves_below ts)
  told_total NoTree = refl
  told_total (Then t ts) =
      omega (
        arith,
        sum_by-cons (λ (c : Child). c.length) (child_of of_segment t) (children_of of_segment ts),
        told_length t,
        told_total ts,
        sum_by-append length (leaves t)
            (leaves_below ts),
      )

-- ---- files

-- the leaves of the tree of a file are its segments
pub leaves_of_file : (bytes : List ℕ) → length bytes ≤ MOST_FILE → leaves (file_tree bytes) ≡ segments_of bytes
unfolding file_tree
leaves_of_file bytes few = leaves_are_segments ByCount (segments_of bytes) (are_few bytes few)

pub right_file : (bytes : List ℕ) → length bytes ≤ MOST_FILE → IsRightTree (file_tree bytes)
unfolding file_tree
right_file bytes few = trees_are_right ByCount (segments_of bytes) (have_right_lengths bytes) (omega (arith, lengths_add_up bytes, few))

-- the tree of a file says how many bytes it has
pub length_of_file : (bytes : List ℕ) → length bytes ≤ MOST_FILE → (child_of of_segment (file_tree bytes)).length ≡ length bytes
length_of_file bytes few = told_length (file_tree bytes) ∙ ap (sum_by length) (leaves_of_file bytes few) ∙ lengths_add_up bytes

same_top : (k l : ℕ) (m n : ℕ) (d e : List ℕ) → k ≡ l → m ≡ n → d ≡ e
    → (let t : Top = record { length = k; level = m; digest = d } in t) ≡ record { length = l; level = n; digest = e }
same_top k l m n d e p q r = cc

-- the root of a file is that of its tree
pub root_of_tree : (bytes : List ℕ) → length bytes ≤ MOST_FILE
    → root_of bytes ≡ (let top = tree.root_of of_segment (file_tree bytes) in record { length = top.length; level = top.level; digest = top.digest })
root_of_tree bytes few =
    let top = tree.root_of of_segment (file_tree bytes) in
    ap (λ (k : ℕ). let r : Root = record { length = k; level = top.level; digest = top.digest } in r) (sym (length_of_file bytes few))

-- two files of one root have one root of their trees
tops_agree : (a b : List ℕ) → length a ≤ MOST_FILE → length b ≤ MOST_FILE → root_of a ≡ root_of b → tree.root_of of_segment (file_tree a) ≡ tree.root_of of_segment (file_tree b)
tops_agree a b few less root =
    let sizes : length a ≡ length b = ap (λ (r : Root). r.length) root in
    same_top _ _ _ _ _ _ (length_of_file a few ∙ sizes ∙ sym (length_of_file b less)) (ap (λ (r : Root). r.level) root) (ap (λ (r : Root). r.digest) root)

-- two files that are held and have one root are one
pub bytes_agree : (held : List (Option HeaderValue)) (image a b : List ℕ) → length a ≤ MOST_FILE → length b ≤ MOST_FILE → root_of a ≡ root_of b
    → HoldsTree held image (file_tree a) → HoldsTree held image (file_tree b) → a ≡ b
bytes_agree held image a b few less root one other =
    let same : file_tree a ≡ file_tree b =
    trees_agree held image (file_tree a) (file_tree b) (right_file a few) (right_file b less) one other (tops_agree a b few less root) in
    let segments : segments_of a ≡ segments_of b = sym (leaves_of_file a few) ∙ ap leaves same ∙ leaves_of_file b less in
    sym (segments_of-laws a).together ∙ ap concat segments ∙ (segments_of-laws b).together
