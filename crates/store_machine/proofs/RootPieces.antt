-- The root of a file is that of the empty one, or says what is said of a piece of the file.
use Rattle.store_machine.proofs.Prelude.{◌≡◌, ◌⊎◌, inl, inr, ◌≤◌, ◌==◌, ℕ, Bool, false, [], ◌∷◌, length, refl, sym, ◌∙◌, ap, subst, arith, take_all, MOST_FILE, Root, ByCount, room_of, IsNode, MayBeFile, Trees, Empty, leaves, nodes_of, of_segment, tree_of, nodes_are_right, segments_of, are_few, have_right_lengths, lengths_add_up, Pin, pin_of, Piece, IsPieceOf, piece_key, piece_segment, root_key, IsIn}
use Rattle.std.proofs.Common.{List}
use Rattle.std.specs.Prelude.{if◌then◌else◌, slice_get}
use Rattle.base_model.specs.Bytes.{key_of}
use Rattle.merkle_file.specs.Node.{Contents, node_digest, total}
use Rattle.merkle_file.specs.Tree.{Tree, Leaf, Node, child_of, children_of, level_of, nodes_below}
use Rattle.merkle_file.proofs.InPlace.{read_again}
use Rattle.merkle_file.proofs.RootLaws.{roots_are_right}
use Rattle.merkle_file.proofs.TreeLaws.{leaves_are_segments}
use Rattle.store_model.specs.Pieces as pieces
use Rattle.store_model.specs.Trees.{file_tree, root_of}
use Rattle.store_machine.specs.Needs.{empty_root}
use Rattle.ingest_session.proofs.Members.{in_right, one_of}

-- what is said of the segment of a root
abbrev pub pin_of_root : Root → Pin
pin_of_root root = record { level = root.level; length = root.length }

-- the root is that of a piece
pub record HasRootPiece (file : List ℕ) : Type 0 where
  pub piece : Piece
  pub is_of : IsPieceOf file piece
  pub key_is : root_key (root_of file) ≡ piece_key piece
  pub pin_is : pin_of (piece_segment piece) ≡ pin_of_root (root_of file)

abbrev root_by : ℕ → Tree (List ℕ) → Root
root_by size t = record { length = size; level = level_of t; digest = (child_of of_segment t).digest }

abbrev node : ℕ → Trees (List ℕ) → Contents
node level ts = record { level = level; children = children_of of_segment ts }

not_zero : (level : ℕ) → 1 ≤ level → (level == 0) ≡ false
not_zero level some = grind (arith, some)

module _ (file : List ℕ) (few : length file ≤ MOST_FILE) where
  abbrev segments : List (List ℕ)
  segments = segments_of file

  may : MayBeFile ByCount segments
  may = record { each = have_right_lengths file; most = omega (arith, few, lengths_add_up file); few = are_few file few }

  module _ (t : Tree (List ℕ)) (is : tree_of ByCount of_segment segments ≡ t) where
    root_is : root_of file ≡ root_by (length file) t
    unfolding file_tree
    root_is = ap (root_by (length file)) is

    long_is : (child_of of_segment t).length ≡ length file
    long_is = ap (λ (u : Tree (List ℕ)). (child_of of_segment u).length) (sym is) ∙ (roots_are_right ByCount segments may).size ∙ lengths_add_up file

  is_empty : tree_of ByCount of_segment segments ≡ Empty → root_of file ≡ empty_root
  is_empty is = root_is Empty is ∙ ap (λ (n : ℕ). root_by n Empty) (sym (long_is Empty is))

  -- a file of one segment
  is_leaf : (segment : List ℕ) → tree_of ByCount of_segment segments ≡ Leaf segment → HasRootPiece file
  is_leaf segment is = record {
    piece = pieces.Data segment;
    is_of = (0, ap (λ (l : List (List ℕ)). slice_get l 0) (sym (leaves_are_segments ByCount segments may.few) ∙ ap leaves is));
    key_is = ap root_key (root_is (Leaf segment) is);
    pin_is = ap (λ (n : ℕ). pin_of_root (root_by n (Leaf segment))) (long_is (Leaf segment) is) ∙ ap pin_of_root (sym (root_is (Leaf segment) is));
  }

  -- of more: its last node
  module _ (level : ℕ) (ts : Trees (List ℕ)) (is : tree_of ByCount of_segment segments ≡ Node level ts) where
    last : IsIn (node level ts) (nodes_of of_segment (tree_of ByCount of_segment segments))
    last = subst (λ (t : Tree (List ℕ)). IsIn (node level ts) (nodes_of of_segment t)) (sym is)
        (in_right (nodes_below of_segment ts) (node level ts ∷ []) (node level ts) (0, refl))

    right : IsNode (node level ts)
    right = one_of IsNode (nodes_of of_segment (tree_of ByCount of_segment segments)) (node level ts) (nodes_are_right ByCount segments may) last

    is_node : HasRootPiece file
    is_node = record {
      piece = pieces.Node (node level ts);
      is_of = subst (λ (l : List (List ℕ)). IsIn (node level ts) (nodes_of of_segment (tree_of ByCount of_segment l))) (sym (take_all (room_of ByCount) segments may.few)) last;
      key_is = ap root_key (root_is (Node level ts) is) ∙ ap (λ (b : Bool). key_of (if b then 0 else 1) (node_digest (node level ts))) (not_zero level right.above);
      pin_is = ap (λ (c : Contents). let pin : Pin = record { level = level; length = total c.children } in pin) (read_again (node level ts) right).1
          ∙ ap (λ (n : ℕ). pin_of_root (root_by n (Node level ts))) (long_is (Node level ts) is) ∙ ap pin_of_root (sym (root_is (Node level ts) is));
    }

  by_tree : (t : Tree (List ℕ)) → tree_of ByCount of_segment segments ≡ t → (root_of file ≡ empty_root) ⊎ HasRootPiece file
  by_tree Empty is = inl (is_empty is)
  by_tree (Leaf segment) is = inr (is_leaf segment is)
  by_tree (Node level ts) is = inr (is_node level ts is)

  pub root_piece : (root_of file ≡ empty_root) ⊎ HasRootPiece file
  root_piece = by_tree (tree_of ByCount of_segment segments) refl
