-- The root of a file of which each piece is held is right, and so is that of a session which is ready.
use Rattle.session_turns.proofs.Prelude.{◌≡◌, ◌≤◌, ◌∙◌, ℕ, Bool, true, List, length, Option, Some, None, Result, Ok, Err, refl, sym, ap, subst, some_same, AllByRecursion, MOST_FILE, Root, Top, PlaceMap, Answer, Refusal, Due, Nothing, due_in, Store, Piece, Data, Node, IsPieceOf, piece_segment, HasKey, root_of, leaf_key, node_key, Represents, Stop, StepsOr, IsRootOf, CoreState, Event, all_of}
use Rattle.std.proofs.lemmas.List.{take_all}
use Rattle.merkle_file.specs.Form.{ByCount, room_of}
use Rattle.merkle_file.specs.Tree.{leaves, nodes_of, of_segment, tree_of}
use Rattle.merkle_file.proofs.TreeLaws.{leaves_are_segments}
use Rattle.segmenter.specs.Segments.{segments_of}
use Rattle.segmenter.proofs.LengthLemmas.{are_few}
use Rattle.store_model.specs.Pieces.{nodes_of_file}
use Rattle.store_model.specs.Reserve.{AllKeys}
use Rattle.store_model.specs.Trees.{file_tree, HoldsTree}
use Rattle.store_model.proofs.TreeKeys.{keys_of_tree}
use Rattle.store_model.proofs.HeldTrees.{HasLeaf, HasNode, tree_held}
use Rattle.refusals.specs.declared.refusal.Refusal.TheVariants as refusals
use Rattle.ingest_session.specs.Calls.{ready_by}
use Rattle.ingest_session.proofs.Ends.{all_is_kept, bytes_are_counted}
use Rattle.store_core.specs.Keeping.{IsHeldIn}
use Rattle.store_core.specs.Runs.{IsRightCommit}
use Rattle.session_turns.specs.Owning.{ReadyRootIsRight}

module _ (file : List ℕ) (few : length file ≤ MOST_FILE) (c : CoreState) (held : (p : Piece) → IsPieceOf file p → IsHeldIn (piece_segment p) c) where
  leaves_are : leaves (file_tree file) ≡ segments_of file
  unfolding file_tree
  leaves_are = leaves_are_segments ByCount (segments_of file) (are_few file few)

  nodes_are : nodes_of of_segment (file_tree file) ≡ nodes_of_file file
  unfolding file_tree
  nodes_are = ap (λ (segments : List (List ℕ)). nodes_of of_segment (tree_of ByCount of_segment segments)) (sym (take_all (room_of ByCount) (segments_of file) (are_few file few)))

  tree_here : (store : Store) → Represents store c.known c.tables → (image : List ℕ) → c.disk.images image → HoldsTree store.held image (file_tree file)
  tree_here store represents image left =
      tree_held store.held image (file_tree file)
      (subst (AllByRecursion (HasLeaf store.held image)) (sym leaves_are)
      (all_of (HasLeaf store.held image) (segments_of file) (λ segment is. ((held (Data segment) is).newest store represents).each image left)))
      (subst (AllByRecursion (HasNode store.held image)) (sym nodes_are)
      (all_of (HasNode store.held image) (nodes_of_file file) (λ n is. ((held (Node n) is).newest store represents).each image left)))

  keys_here : (index : PlaceMap) → c.known ≡ Some index → AllKeys (HasKey index) (file_tree file)
  keys_here index is =
      keys_of_tree (HasKey index) (file_tree file)
      (subst (AllByRecursion (λ s. HasKey index (leaf_key s))) (sym leaves_are)
      (all_of (λ s. HasKey index (leaf_key s)) (segments_of file) (λ segment piece. (held (Data segment) piece).indexed index is)))
      (subst (AllByRecursion (λ n. HasKey index (node_key n))) (sym nodes_are)
      (all_of (λ n. HasKey index (node_key n)) (nodes_of_file file) (λ n piece. (held (Node n) piece).indexed index is)))

  -- its root is right, where the disk tells its content
  pub right_root : (image : List ℕ) → c.disk.content ≡ Some image → IsRootOf (root_of file) file c
  right_root image told = record {
    root_is = refl;
    indexed = keys_here;
    tree = λ store represents. record { known = (image, told); each = λ left is. tree_here store represents left is };
  }

-- ---- the root of a session that is ready

ready_done : (ended : Bool) (due : Due) (count : ℕ) (top : Option Top) (root : Root) → ready_by ended due count top ≡ Some root → (ended ≡ true) × (due ≡ Nothing)
ready_done true Nothing count top root is = (refl, refl)
ready_done ended due count top root is = absurd (let wrong : ◌≡◌ {A = Option Root} None (Some root) = is in cc)

pub ready_root_is_right : (C : Type 0) (state : C → CoreState) → ReadyRootIsRight C state
ready_root_is_right C state among s stored actor x h root c at has ready own =
    let done = ready_done x.ended (due_in x) x.count x.top root ready in
    let ends = all_is_kept x h has done.0 done.1 in
    let known = at.stands.known in
    subst (λ (r : Root). IsRootOf r h.given (state c)) (some_same (root_of h.given) root (sym ends.root ∙ ready))
    (right_root h.given (bytes_are_counted x h has).1 (state c)
    (λ p is. own.held (piece_segment p).kind (piece_segment p).segment (ends.kept p is)) known.0 known.1)

-- ---- a commit of it

right_commit : (answer : Result Answer Refusal) (root : Root) (given : List ℕ) (c : CoreState) → IsRootOf root given c → IsRightCommit answer root given c
right_commit (Ok answer) root given c right = right
right_commit (Err refusals.DiskWrite) root given c right = right
right_commit (Err refusal) root given c right = tt

pub commit_right : (stop : Option Stop) (e : Event) (root : Root) (given : List ℕ) (old new : CoreState) → old.stop ≡ stop → (old.stop ≡ None → IsRootOf root given old)
    → StepsOr stop e old new → IsRightCommit e.answer root given old
commit_right None e root given old new none right step = right_commit e.answer root given old (right none)
commit_right (Some stop) e root given old new stopped right step =
    subst (λ (answer : Result Answer Refusal). IsRightCommit answer root given old) (sym step.answer_is) tt
