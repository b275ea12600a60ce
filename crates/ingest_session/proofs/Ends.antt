-- When a file has ended and nothing is due, all of it is kept.
use Rattle.ingest_session.proofs.Prelude.{◌≡◌, ◌≤◌, ◌∙◌, ℕ, Bool, true, false, inl, inr, List, [], ◌∷◌, ◌++◌, Some, IsSome, length, take, refl, sym, ap, subst, append-nil, take_all, arith, ne_eqb, or_left, or_right, ◌==◌, MOST_FILE, Kind, Leaf, Tree, KindSegment, Segment, has_key, Hand, segments_of, Top, ByCount, room_of, Progress, nodes_of, of_segment, tree_of, segments_alike, child_kind, Piece, Data, Node, IsPieceOf, nodes_of_file, piece_segment, leaf_key, node_key, Due, Claim, Seal, Nothing, due_in, due_node, end_due, is_node_due, item_due, item_kind, gathered, node_due, queue_due, turn_for, IsKept, data_in, nodes_in, History, HasHistory, SessionState, IsAhead, is_last, node_in_turn, rest_of, turn_node, IsCutInto}
use Rattle.std.proofs.Common.{if◌then◌else◌, Option, None}
use Rattle.std.specs.Prelude.{not}
use Rattle.disk_format.specs.Cells.{Root}
use Rattle.merkle_file.specs.Node as node
use Rattle.merkle_file.specs.Tree as tree
use Rattle.store_model.specs.Trees.{file_tree, root_of}
use Rattle.ingest_session.specs.Calls.{ready_by, root_by}
use Rattle.ingest_session.specs.Due.{child_is_open}
use Rattle.ingest_session.specs.Facts.{AllIsKept, BytesAreCounted}
use Rattle.ingest_session.proofs.Answering.{known}
use Rattle.ingest_session.proofs.Following.{IsBuilt, begun, pushed_and_rest, pushed_of, taken_of}
use Rattle.ingest_session.proofs.Growing.{all_are_pushed, few_pushed}
use Rattle.ingest_session.proofs.Members.{IsIn, data_is_placed, in_none, node_is_placed}
use Rattle.ingest_session.proofs.Waiting.{on_and_off, session_of}

-- ---- bytes

pub bytes_are_counted : BytesAreCounted
bytes_are_counted s h has =
    let counted = (known s h has).follows.counted in
    (counted, subst (λ (n : ℕ). n ≤ MOST_FILE) counted (session_of s h has).few)

-- ---- the tree of an ended file

cut_after : (ended : Bool) (given : List ℕ) (segments : List (List ℕ)) (hand : Hand) → ended ≡ true → IsCutInto ended given segments hand →
    segments_of given ≡ segments
cut_after true given segments hand on cut = cut.0
cut_after false given segments hand on cut = absurd (cc)

top_over : (b : Progress) (o : Option Top) (top : Top) (segments : List (List ℕ)) (taken : List node.Contents) → o ≡ Some top →
    IsBuilt b o segments taken → IsBuilt b (Some top) segments taken
top_over b o top segments taken is built = subst (λ (p : Option Top). IsBuilt b p segments taken) is built

module _ (s : SessionState) (top : Top) (h : History) (has : HasHistory s h) (ended : s.ended ≡ true) (whole : s.top ≡ Some top) where
  -- the builder was pushed all segments
  all_pushed : segments_of h.given ≡ pushed_of s h.placed
  all_pushed =
      let is = session_of s h has in
      let follows = (known s h has).follows in
      let all = all_are_pushed s.top s.ended (rest_of s) is.whole (subst (λ (o : Option Top). IsSome o) (sym whole) refl) in
      cut_after s.ended h.given (data_in h.placed ++ s.queue) s.hand ended follows.cut
      ∙ sym (pushed_and_rest s h.placed)
      ∙ ap (λ (rest : List (List ℕ)). pushed_of s h.placed ++ rest) all.1
      ∙ append-nil (pushed_of s h.placed)

  built_over : IsBuilt s.built (Some top) (pushed_of s h.placed) (taken_of s h.placed)
  built_over = top_over s.built s.top top (pushed_of s h.placed) (taken_of s h.placed) whole (known s h has).follows.built

  -- The root is that of all bytes that were taken.
  pub ready_root : ◌≡◌ {A = Root} (record { length = s.count; level = top.level; digest = top.digest }) (root_of h.given)
  unfolding file_tree
  ready_root =
      let same : top ≡ tree.root_of of_segment (tree_of ByCount of_segment (segments_of h.given)) =
      built_over.0
      ∙ (segments_alike ByCount (pushed_of s h.placed)).0
      ∙ ap (λ (ss : List (List ℕ)). tree.root_of of_segment (tree_of ByCount of_segment ss)) (sym all_pushed) in
      ap (λ (n : ℕ). record { length = n; level = top.level; digest = top.digest }) (known s h has).follows.counted
      ∙ ap (λ (t : Top). record { length = length h.given; level = t.level; digest = t.digest }) same

  nodes_are_taken : nodes_of_file h.given ≡ taken_of s h.placed ++ s.built.finished
  nodes_are_taken =
      let few = few_pushed s h.given h.placed (session_of s h has) (known s h has).follows in
      ap (λ (ss : List (List ℕ)). nodes_of of_segment (tree_of ByCount of_segment (take (room_of ByCount) ss))) all_pushed
      ∙ ap (λ (ss : List (List ℕ)). nodes_of of_segment (tree_of ByCount of_segment ss)) (take_all (room_of ByCount) (pushed_of s h.placed) few)
      ∙ sym (segments_alike ByCount (pushed_of s h.placed)).1
      ∙ sym built_over.1

-- ---- nothing is due

-- nothing is to be done
record IsDone (s : SessionState) : Type 0 where
  waits : s.waits ≡ false
  line : s.line ≡ []
  queue : s.queue ≡ []
  leaves : (gathered s Leaf).segments ≡ []
  nodes : s.nodes.segments ≡ []

no_seal : (b : Bool) (k : Kind) (due : Due) → (if b then Seal k else due) ≡ Nothing → (b ≡ false) × (due ≡ Nothing)
no_seal true k due is = absurd (cc)
no_seal false k due is = (refl, is)

node_is_due : (s : SessionState) (n : node.Contents) → node_due s n ≡ Nothing → ⊥
node_is_due s n due =
    let other = (no_seal (child_is_open s n) (child_kind n.level) _ due).1 in
    let claim = (no_seal (has_key s.nodes (node_key n)) Tree Claim other).1 in cc

queue_done : (s : SessionState) (queue : List (List ℕ)) → queue_due s queue ≡ Nothing → (queue ≡ []) × (end_due s ≡ Nothing)
queue_done s [] due = (refl, due)
queue_done s (x ∷ xs) due = absurd (let claim = (no_seal (has_key (gathered s Leaf) (leaf_key x)) Leaf Claim due).1 in cc)

item_done : (s : SessionState) (n : Option node.Contents) → item_due s n ≡ Nothing → (n ≡ None) × (s.queue ≡ []) × (end_due s ≡ Nothing)
item_done s (Some n) due = absurd (node_is_due s n due)
item_done s None due = let done = queue_done s s.queue due in (refl, done.0, done.1)

none_in : (segments : List Segment) → not (length segments == 0) ≡ false → segments ≡ []
none_in [] none = refl
none_in (x ∷ xs) none = on_and_off _ (ap not (ne_eqb (length (x ∷ xs)) 0 (λ is. omega (arith, is)))) none

end_done : (s : SessionState) → s.ended ≡ true → end_due s ≡ Nothing → ((gathered s Leaf).segments ≡ []) × (s.nodes.segments ≡ [])
end_done s ended due =
    let open_due : (if not (length (gathered s Leaf).segments == 0) then Seal Leaf else (if not (length s.nodes.segments == 0) then Seal Tree else Nothing)) ≡ Nothing =
    rw ended at due in
    let leaves = no_seal (not (length (gathered s Leaf).segments == 0)) Leaf _ open_due in
    let nodes = no_seal (not (length s.nodes.segments == 0)) Tree Nothing leaves.1 in
    (none_in (gathered s Leaf).segments leaves.0, none_in s.nodes.segments nodes.0)

-- a node that stands in line at the end is due
pub due_at_end : (s : SessionState) (n : node.Contents) → is_last s.ended s.queue ≡ true → is_node_due s n ≡ true
due_at_end s n last = or_left _ _ (or_right _ _ last)

line_done : (s : SessionState) (line : List node.Contents) → is_last s.ended s.queue ≡ true → node_in_turn (turn_for s line) line ≡ None → line ≡ []
line_done s [] last none = refl
line_done s (n ∷ ns) last none =
    absurd (let some : Some n ≡ None = ap (λ (b : Bool). node_in_turn (if b then Tree else Leaf) (n ∷ ns)) (sym (due_at_end s n last)) ∙ none in cc)

done_in : (s : SessionState) → s.ended ≡ true → due_in s ≡ Nothing → IsDone s
done_in s ended due =
    let waits = no_seal s.waits (item_kind (turn_node s)) _ due in
    let item = item_done s (due_node s) waits.1 in
    let open_ones = end_done s ended item.2 in
    let last : is_last s.ended s.queue ≡ true = rw (ended, item.1) refl in
    record { waits = waits.0; line = line_done s s.line last item.0; queue = item.1; leaves = open_ones.0; nodes = open_ones.1 }

pub none_begun : (ahead : Option KindSegment) (queue : List (List ℕ)) → IsAhead ahead queue → queue ≡ [] → (ahead ≡ None) × (begun ahead queue ≡ [])
none_begun None queue is none = (refl, refl)
none_begun (Some seg) [] is none = absurd is
none_begun (Some seg) (x ∷ xs) is none = absurd (cc)

some_top : (o : Option Top) → IsSome o → (top : Top) × (o ≡ Some top)
some_top None some = absurd (cc)
some_top (Some top) some = (top, refl)

-- no item is left
module _ (s : SessionState) (h : History) (has : HasHistory s h) (ended : s.ended ≡ true) (line : s.line ≡ []) (queue : s.queue ≡ []) where
  the_top : (top : Top) × (s.top ≡ Some top)
  the_top =
      let last : is_last s.ended s.queue ≡ true = rw (ended, queue) refl in
      some_top s.top ((session_of s h has).closed last)

  -- the segments and the nodes in their place are those of the file
  pub segments_at_end : segments_of h.given ≡ data_in h.placed
  segments_at_end =
      all_pushed s the_top.0 h has ended the_top.1
      ∙ ap (λ (ss : List (List ℕ)). data_in h.placed ++ ss) (none_begun s.ahead s.queue (session_of s h has).ahead queue).1
      ∙ append-nil (data_in h.placed)

  pub nodes_at_end : nodes_of_file h.given ≡ nodes_in h.placed
  nodes_at_end =
      let is = session_of s h has in
      let finished = is.next (none_begun s.ahead s.queue is.ahead queue).0 in
      nodes_are_taken s the_top.0 h has ended the_top.1
      ∙ ap (λ (ns : List node.Contents). taken_of s h.placed ++ ns) finished
      ∙ append-nil (taken_of s h.placed)
      ∙ ap (λ (ns : List node.Contents). nodes_in h.placed ++ ns) line
      ∙ append-nil (nodes_in h.placed)

module _ (s : SessionState) (h : History) (has : HasHistory s h) (ended : s.ended ≡ true) (due : due_in s ≡ Nothing) where
  all_segments : segments_of h.given ≡ data_in h.placed
  all_segments = segments_at_end s h has ended (done_in s ended due).line (done_in s ended due).queue

  all_nodes : nodes_of_file h.given ≡ nodes_in h.placed
  all_nodes = nodes_at_end s h has ended (done_in s ended due).line (done_in s ended due).queue

  none_open : (kind : Kind) (x : Segment) → IsIn x (gathered s kind).segments → ⊥
  none_open Leaf x there = in_none x (subst (IsIn x) (done_in s ended due).leaves there)
  none_open Tree x there = in_none x (subst (IsIn x) (done_in s ended due).nodes there)

  placed_is_kept : (p : Piece) → IsIn p h.placed → IsKept h (piece_segment p).kind (piece_segment p).segment
  placed_is_kept p there =
      elim ((known s h has).stored p there) [
        | inl kept ↦ kept
        | inr held ↦ absurd (none_open (piece_segment p).kind (piece_segment p).segment held)
      ]

  piece_is_kept : (p : Piece) → IsPieceOf h.given p → IsKept h (piece_segment p).kind (piece_segment p).segment
  piece_is_kept (Data bytes) there = placed_is_kept (Data bytes) (data_is_placed h.placed bytes (subst (IsIn bytes) all_segments there))
  piece_is_kept (Node n) there = placed_is_kept (Node n) (node_is_placed h.placed n (subst (IsIn n) all_nodes there))

pub all_is_kept : AllIsKept
all_is_kept s h has ended due =
    let done = done_in s ended due in
    let top = the_top s h has ended done.line done.queue in
    record {
      kept = piece_is_kept s h has ended due;
      segments = all_segments s h has ended due;
      nodes = all_nodes s h has ended due;
      root =
          ap (λ (b : Bool). ready_by b (due_in s) s.count s.top) ended
          ∙ ap (λ (d : Due). ready_by true d s.count s.top) due
          ∙ ap (root_by s.count) top.1
          ∙ ap Some (ready_root s top.0 h has ended top.1);
    }
