-- What an actor needs that takes a file: the tree of the root that it has.
use Rattle.gc_steps.proofs.Prelude.{◌≡◌, ℕ, Bool, false, List, [], length, Option, refl, ◌∙◌, ap, arith, if◌then◌else◌, AllByRecursion, Reader, key_of, HeaderValue, Root, Top, node_digest, children_of, of_segment, IsTree, contents_of, trees_in, root_key, tree_keys, HoldsTree, HoldsRest, IsRootOf, HasRootKey}
use Rattle.std.specs.Prelude.{◌==◌}
use Rattle.std.specs.List.{Contains}
use Rattle.std.proofs.lemmas.Bool.{ne_eqb}
use Rattle.merkle_file.specs.Tree as tree
use Rattle.merkle_file.specs.Tree.{Tree}
use Rattle.gc_steps.proofs.Marked.{contains_none}
use Rattle.gc_steps.proofs.NeededKeys.{some_total}

-- the key that a root has
abbrev top_key : Top → List ℕ
top_key top = key_of (if top.level == 0 then 0 else 1) top.digest

-- a tree that has a key isn't empty, and is that of its root's key
pub tree_root : (t : Tree (List ℕ)) (root : Root) (key : List ℕ) → AllByRecursion IsTree (trees_in t)
    → record { length = root.length; level = root.level; digest = root.digest } ≡ tree.root_of of_segment t → Contains (tree_keys t) key
    → HasRootKey root (root_key root) × IsRootOf (root_key root) t × IsTree t
tree_root tree.Empty root key right top there = absurd (contains_none key there)
tree_root (tree.Leaf segment) root key right top there = ((λ none. omega (arith, right.0, ap (λ (x : Top). x.length) top, none), refl), ap top_key top, right.0)
tree_root (tree.Node level ts) root key right top there =
    let some = some_total level (children_of of_segment ts) right.0.0.some right.0.0.each in
    let above : (level == 0) ≡ false = ne_eqb level 0 (λ none. omega (arith, right.0.0.above, none)) in (
      (λ none. omega (arith, some, ap (λ (x : Top). x.length) top, none), refl),
      ap top_key top ∙ ap (λ (b : Bool). key_of (if b then 0 else 1) (node_digest (contents_of level ts))) above,
      right.0,
    )

-- Where the file that an actor takes has a key, it has a root, and its tree is that of the root's key, keeps the rules, and is held.
pub reader_needs : (P : List ℕ → Type 0) (held : List (Option HeaderValue)) (image : List ℕ) (reader : Reader) (rest : HoldsRest P held image reader) (key : List ℕ)
    → Contains (tree_keys rest.whole) key
    → HasRootKey reader.root (root_key reader.root) × IsRootOf (root_key reader.root) rest.whole × IsTree rest.whole × HoldsTree held image rest.whole
reader_needs P held image reader rest key there =
    let root = tree_root rest.whole reader.root key rest.right rest.top_is there in
    (root.0, root.1, root.2, rest.is_held.tree_is_held)
