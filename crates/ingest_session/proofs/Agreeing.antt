-- A session in which an item has its turn is like one that goes on.
use Rattle.ingest_session.proofs.Prelude.{◌≡◌, ◌⊎◌, inl, inr, ◌∙◌, ℕ, Bool, true, false, ◌&&◌, List, [], ◌∷◌, ◌++◌, Some, length, refl, sym, ap, subst, append-nil, ◌==◌, Kind, Leaf, Tree, Contents, has_key, child_kind, node_segment, leaf_key, node_key, Due, Claim, Seal, Nothing, has_child_of, due_in, due_node, end_due, is_node_due, item_due, item_is_there, item_kind, gathered, node_due, queue_due, queue_is_there, turn_for, turn_in, first_of, turn, turn_of, item_of, SessionState, is_last, leaf_segment, node_in_turn, turn_node}
use Rattle.std.proofs.Common.{not, ◌||◌, if◌then◌else◌, Option, None}
use Rattle.std.specs.Prelude.{nat_le}
use Rattle.std.proofs.lemmas.Bool.{cases_Bool}
use Rattle.container_meta.specs.Segments.{has_segment}
use Rattle.merkle_file.specs.Node as node
use Rattle.ingest_session.specs.declared.line.TheConstants.{LONG_LINE}
use Rattle.ingest_session.specs.Due.{node_is_there}
use Rattle.ingest_session.specs.Items.{front_segment}
use Rattle.ingest_session.proofs.Ends.{due_at_end}
use Rattle.ingest_session.proofs.Gathered.{gathered_same}
use Rattle.ingest_session.proofs.InLine.{first_stays, turn_is_first}
use Rattle.ingest_session.proofs.Replaying.{IsLike, core_of, waiting_turn}
use Rattle.ingest_session.proofs.Waiting.{on_and_off}

-- Both have the same containers and the same item that waits. The other may have more segments in its queue, and, at the end,
-- more nodes in line.
pub record Agrees (s t : SessionState) : Type 0 where
  pub leaves : t.leaves ≡ s.leaves
  pub nodes : t.nodes ≡ s.nodes
  pub aside : t.aside ≡ s.aside
  pub waits : t.waits ≡ s.waits
  pub more : List node.Contents
  pub line : t.line ≡ s.line ++ more
  pub same : is_last t.ended t.queue ≡ is_last s.ended s.queue → more ≡ []
  pub extra : List (List ℕ)
  pub queue : t.queue ≡ s.queue ++ extra
  pub ended : s.ended ≡ true → (t.ended ≡ true) × (t.queue ≡ s.queue)
  pub waiting : s.waits ≡ true → t.turn ≡ s.turn
  pub found : s.waits ≡ false → t.turn ≡ turn_in t

-- ---- the node whose turn it is

node_turn : (kind : Kind) (line : List node.Contents) (m : node.Contents) → node_in_turn kind line ≡ Some m → kind ≡ Tree
node_turn Leaf line m is = absurd (cc)
node_turn Tree line m is = refl

none_or_some : {X : Type 0} (o : Option X) → (o ≡ None) ⊎ ((x : X) × (o ≡ Some x))
none_or_some None = inl refl
none_or_some (Some x) = inr (x, refl)

first_due : (s : SessionState) (line : List node.Contents) (m : node.Contents) → first_of line ≡ Some m → is_node_due s m ≡ true → turn_for s line ≡ Tree
first_due s [] m is due = absurd (cc)
first_due s (n ∷ ns) m is due =
    let same : n ≡ m = cc in
    ap (λ (b : Bool). if b then Tree else Leaf) (subst (λ (k : node.Contents). is_node_due s k ≡ true) (sym same) due)

none_queued : (queue more : List (List ℕ)) → queue ++ more ≡ [] → queue ≡ []
none_queued [] more none = refl
none_queued (x ∷ xs) more none = absurd (cc)

last_is_empty : (ended : Bool) (queue : List (List ℕ)) → is_last ended queue ≡ true → (ended ≡ true) × (queue ≡ [])
last_is_empty true [] last = (refl, refl)
last_is_empty true (x ∷ xs) last = absurd (cc)
last_is_empty false queue last = absurd (cc)

-- the steps at the end
abbrev end_by : Bool → Contents → Contents → Due
end_by ended leaves nodes =
    if not ended then Nothing
    else if not (length leaves.segments == 0) then Seal Leaf
    else if not (length nodes.segments == 0) then Seal Tree
    else Nothing

module _ (s t : SessionState) (agrees : Agrees s t) (right : s.waits ≡ false → s.turn ≡ turn_in s)
    (at_end : turn s ≡ [] → (t.ended ≡ s.ended) × (t.queue ≡ s.queue)) where
  gathered_is : (kind : Kind) → gathered t kind ≡ gathered s kind
  gathered_is kind = gathered_same s t agrees.leaves agrees.nodes agrees.aside kind

  module _ (last : is_last t.ended t.queue ≡ is_last s.ended s.queue) where
    line_is : t.line ≡ s.line
    line_is = agrees.line ∙ ap (λ (ns : List node.Contents). s.line ++ ns) (agrees.same last) ∙ append-nil s.line

    due_is : (n : node.Contents) → is_node_due t n ≡ is_node_due s n
    due_is n =
        ap (λ (ns : List node.Contents). nat_le LONG_LINE (length ns) || is_last t.ended t.queue || not (has_child_of (gathered t (child_kind n.level)) n)) line_is
        ∙ ap (λ (b : Bool). nat_le LONG_LINE (length s.line) || b || not (has_child_of (gathered t (child_kind n.level)) n)) last
        ∙ ap (λ (c : Contents). nat_le LONG_LINE (length s.line) || is_last s.ended s.queue || not (has_child_of c n)) (gathered_is (child_kind n.level))

    turn_is_by : (line : List node.Contents) → turn_for t line ≡ turn_for s line
    turn_is_by [] = refl
    turn_is_by (n ∷ ns) = ap (λ (b : Bool). if b then Tree else Leaf) (due_is n)

    turn_is : turn_in t ≡ turn_in s
    turn_is = ap (turn_for t) line_is ∙ turn_is_by s.line

    turned_here : t.turn ≡ s.turn
    turned_here = elim (cases_Bool s.waits) [
      | inl on ↦ agrees.waiting on
      | inr off ↦ agrees.found off ∙ turn_is ∙ sym (right off)
    ]

    which_here : turn_node t ≡ turn_node s
    which_here = ap (λ (k : Kind). node_in_turn k t.line) turned_here ∙ ap (node_in_turn s.turn) line_is

  -- where the other alone is at its end, a node has its turn
  module _ (last : is_last t.ended t.queue ≡ true) (other : is_last s.ended s.queue ≡ false) where
    a_node : (n : node.Contents) × (turn_node s ≡ Some n)
    a_node = elim (none_or_some (turn_node s)) [
      | inr some ↦ some
      | inl none ↦
          let empty = none_queued s.queue agrees.extra (sym agrees.queue ∙ (last_is_empty t.ended t.queue last).1) in
          let nothing : turn s ≡ [] = ap (λ (o : Option node.Contents). turn_of o s.queue) none ∙ ap (turn_of None) empty in
          let same = at_end nothing in
          on_and_off _ last (ap (λ (e : Bool). is_last e t.queue) same.0 ∙ ap (is_last s.ended) same.1 ∙ other)
    ]

    first_is : first_of t.line ≡ Some a_node.0
    first_is =
        ap first_of agrees.line ∙ first_stays s.line agrees.more a_node.0 (turn_is_first s.turn s.line a_node.0 a_node.1)

    turned_there : t.turn ≡ s.turn
    turned_there = elim (cases_Bool s.waits) [
      | inl on ↦ agrees.waiting on
      | inr off ↦
          agrees.found off
          ∙ first_due t t.line a_node.0 first_is (due_at_end t a_node.0 last)
          ∙ sym (node_turn s.turn s.line a_node.0 a_node.1)
    ]

    which_there : turn_node t ≡ turn_node s
    which_there =
        ap (λ (k : Kind). node_in_turn k t.line) (turned_there ∙ node_turn s.turn s.line a_node.0 a_node.1) ∙ first_is ∙ sym a_node.1

  both : (t.turn ≡ s.turn) × (turn_node t ≡ turn_node s)
  both = elim (cases_Bool (is_last t.ended t.queue)) [
    | inr off ↦
        elim (cases_Bool (is_last s.ended s.queue)) [
          | inr also ↦ (turned_here (off ∙ sym also), which_here (off ∙ sym also))
          | inl last ↦
              let end = last_is_empty s.ended s.queue last in
              let same = agrees.ended end.0 in
              on_and_off _ (ap (is_last t.ended) same.1 ∙ ap (λ (e : Bool). is_last e s.queue) (same.0 ∙ sym end.0) ∙ last) off
        ]
    | inl on ↦
        elim (cases_Bool (is_last s.ended s.queue)) [
          | inl also ↦ (turned_here (on ∙ sym also), which_here (on ∙ sym also))
          | inr off ↦ (turned_there on off, which_there on off)
        ]
  ]

  -- ---- the item whose turn it is

  nothing_by : (n : Option node.Contents) (queue : List (List ℕ)) → turn_node s ≡ n → s.queue ≡ queue → n ≡ None → queue ≡ [] → turn s ≡ []
  nothing_by n queue which queue_is none empty =
      ap (λ (o : Option node.Contents). turn_of o s.queue) (which ∙ none) ∙ ap (turn_of None) (queue_is ∙ empty)

  front_is : (queue : List (List ℕ)) → s.queue ≡ queue → turn_node s ≡ None → front_segment t.queue ≡ front_segment queue
  front_is [] queue none = ap front_segment ((at_end (nothing_by None [] none queue refl refl)).1 ∙ queue)
  front_is (x ∷ xs) queue none = ap front_segment (agrees.queue ∙ ap (λ (ss : List (List ℕ)). ss ++ agrees.extra) queue)

  piece_is : (queue : List (List ℕ)) → s.queue ≡ queue → turn_node s ≡ None → turn_of None t.queue ≡ turn_of None queue
  piece_is [] queue none = ap (turn_of None) ((at_end (nothing_by None [] none queue refl refl)).1 ∙ queue)
  piece_is (x ∷ xs) queue none = ap (turn_of None) (agrees.queue ∙ ap (λ (ss : List (List ℕ)). ss ++ agrees.extra) queue)

  there_is : (queue : List (List ℕ)) → s.queue ≡ queue → turn_node s ≡ None → queue_is_there t t.queue ≡ queue_is_there s queue
  there_is [] queue none = ap (queue_is_there t) ((at_end (nothing_by None [] none queue refl refl)).1 ∙ queue)
  there_is (x ∷ xs) queue none =
      ap (queue_is_there t) (agrees.queue ∙ ap (λ (ss : List (List ℕ)). ss ++ agrees.extra) queue)
      ∙ ap (λ (c : Contents). has_segment c (leaf_segment x).segment) (gathered_is Leaf)

  end_is : t.ended ≡ s.ended → end_due t ≡ end_due s
  end_is ended =
      ap (λ (e : Bool). end_by e (gathered t Leaf) t.nodes) ended
      ∙ ap (λ (c : Contents). end_by s.ended c t.nodes) (gathered_is Leaf)
      ∙ ap (end_by s.ended (gathered s Leaf)) agrees.nodes

  queue_step_is : (queue : List (List ℕ)) → s.queue ≡ queue → turn_node s ≡ None → queue_due t t.queue ≡ queue_due s queue
  queue_step_is [] queue none =
      let same = at_end (nothing_by None [] none queue refl refl) in ap (queue_due t) (same.1 ∙ queue) ∙ end_is same.0
  queue_step_is (x ∷ xs) queue none =
      ap (queue_due t) (agrees.queue ∙ ap (λ (ss : List (List ℕ)). ss ++ agrees.extra) queue)
      ∙ ap (λ (c : Contents). if has_key c (leaf_key x) then Seal Leaf else Claim) (gathered_is Leaf)

  node_step_is : (n : node.Contents) → node_due t n ≡ node_due s n
  node_step_is n =
      ap (λ (c : Contents). if has_child_of c n then Seal (child_kind n.level) else if has_key t.nodes (node_key n) then Seal Tree else Claim)
      (gathered_is (child_kind n.level))
      ∙ ap (λ (c : Contents). if has_child_of (gathered s (child_kind n.level)) n then Seal (child_kind n.level) else if has_key c (node_key n) then Seal Tree else Claim)
      agrees.nodes

  node_there_is : (n : node.Contents) → node_is_there t n ≡ node_is_there s n
  node_there_is n =
      ap (λ (c : Contents). not (has_child_of c n) && has_segment t.nodes (node_segment n).segment) (gathered_is (child_kind n.level))
      ∙ ap (λ (c : Contents). not (has_child_of (gathered s (child_kind n.level)) n) && has_segment c (node_segment n).segment) agrees.nodes

  item_by : (n : Option node.Contents) → turn_node s ≡ n → item_of n t.queue ≡ item_of n s.queue
  item_by (Some n) which = refl
  item_by None which = front_is s.queue refl which

  pieces_by : (n : Option node.Contents) → turn_node s ≡ n → turn_of n t.queue ≡ turn_of n s.queue
  pieces_by (Some n) which = refl
  pieces_by None which = piece_is s.queue refl which

  step_by : (n : Option node.Contents) → turn_node s ≡ n → item_due t n ≡ item_due s n
  step_by (Some n) which = node_step_is n
  step_by None which = queue_step_is s.queue refl which

  there_by : (n : Option node.Contents) → turn_node s ≡ n → item_is_there t n ≡ item_is_there s n
  there_by (Some n) which = node_there_is n
  there_by None which = there_is s.queue refl which

  step_is : due_in t ≡ due_in s
  step_is = elim (cases_Bool s.waits) [
    | inl on ↦
        ap (λ (w : Bool). if w then Seal (item_kind (turn_node t)) else item_due t (due_node t)) (agrees.waits ∙ on)
        ∙ ap (λ (n : Option node.Contents). Seal (item_kind n)) both.1
        ∙ sym (ap (λ (w : Bool). if w then Seal (item_kind (turn_node s)) else item_due s (due_node s)) on)
    | inr off ↦
        let here : due_node s ≡ turn_node s = ap (λ (k : Kind). node_in_turn k s.line) (sym (right off)) in
        let there : due_node t ≡ turn_node s = ap (λ (k : Kind). node_in_turn k t.line) (sym (agrees.found off)) ∙ both.1 in
        ap (λ (w : Bool). if w then Seal (item_kind (turn_node t)) else item_due t (due_node t)) (agrees.waits ∙ off)
        ∙ ap (item_due t) there
        ∙ step_by (turn_node s) refl
        ∙ sym (ap (item_due s) here)
        ∙ sym (ap (λ (w : Bool). if w then Seal (item_kind (turn_node s)) else item_due s (due_node s)) off)
  ]

  core_is : core_of t ≡ core_of s
  core_is =
      ap (λ (c : Contents). record { leaves = c; nodes = t.nodes; aside = t.aside; waits = waiting_turn t.waits t.turn }) agrees.leaves
      ∙ ap (λ (c : Contents). record { leaves = s.leaves; nodes = c; aside = t.aside; waits = waiting_turn t.waits t.turn }) agrees.nodes
      ∙ ap (λ (cs : List Contents). record { leaves = s.leaves; nodes = s.nodes; aside = cs; waits = waiting_turn t.waits t.turn }) agrees.aside
      ∙ ap (λ (w : Bool). record { leaves = s.leaves; nodes = s.nodes; aside = s.aside; waits = waiting_turn w t.turn }) agrees.waits
      ∙ ap (λ (k : Kind). record { leaves = s.leaves; nodes = s.nodes; aside = s.aside; waits = waiting_turn s.waits k }) both.0

  pub like : IsLike s t
  like = record {
    turned = both.0;
    which = both.1;
    item = ap (λ (n : Option node.Contents). item_of n t.queue) both.1 ∙ item_by (turn_node s) refl;
    core = core_is;
    waits = agrees.waits;
    pieces = ap (λ (n : Option node.Contents). turn_of n t.queue) both.1 ∙ pieces_by (turn_node s) refl;
    due = step_is;
    there =
        ap (λ (w : Bool). not w && item_is_there t (turn_node t)) agrees.waits
        ∙ ap (λ (n : Option node.Contents). not s.waits && item_is_there t n) both.1
        ∙ ap (λ (b : Bool). not s.waits && b) (there_by (turn_node s) refl);
  }
