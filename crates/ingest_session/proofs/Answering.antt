-- What is known of a session stays known in each call.
use Rattle.ingest_session.proofs.Prelude.{◌≡◌, ◌⊎◌, ◌∙◌, ◌+◌, ℕ, Bool, true, false, List, [], ◌∷◌, ◌++◌, Some, IsSome, length, sum_by, inl, inr, refl, sym, ap, subst, arith, append-nil, and_parts, AllByRecursion, Kind, Leaf, Tree, Contents, KindSegment, Segment, total_of, Answer, Held, Absent, Sealed, children_by, node_segment, Piece, Data, Node, piece_segment, Due, Seal, HasTurn, due_in, item_is_there, item_kind, needs_no_step, drop, gathered, offered_in, queue_is_there, segments_of_all, ◌≤◌, take, IsKept, IsKeptChild, History, HasHistory, IsBegun, Pushed, Ended, Moved, Asked, Told, answered, item_if, moved, placed_after_seal, placed_if, placed_resumed, same_kind, sealed_for, turn, turn_of, fits, item_of, SettleStep, Turned, Spelled, Advanced, Closed, PlacedNode, PlacedFront, SetAside, IsSession, SessionState, HasItem, IsAhead, IsClosed, IsSized, IsWhole, is_last, rest_of, turn_node, IsAnswerFor, IsSettled, absent_item, added_item, emptied, placed_front, placed_item, placed_node, put_aside, resumed, set_aside, told_by}
use Rattle.std.proofs.Common.{not, if◌then◌else◌, Option, None}
use Rattle.std.proofs.lemmas.List.Sums.{sum_by-cons}
use Rattle.merkle_file.specs.Node as node
use Rattle.actor_parts.specs.Segments.{KeyPin}
use Rattle.ingest_session.specs.History.{Begun, no_history}
use Rattle.ingest_session.specs.Told as told
use Rattle.ingest_session.proofs.Counts.{placed_unwaited}
use Rattle.ingest_session.proofs.Following.{Follows, added_follows, advanced_follows, asked_follows, begun_follows, closing_follows, ending_follows, held_follows, not_whole, placed_follows, placed_front_follows, placed_node_follows, rest_ahead, spelled_follows, taking_follows, turned_follows}
use Rattle.ingest_session.proofs.Gathered.{gathered_placed, gathered_put, gathered_same, gathered_waits, left_parted, one_taken}
use Rattle.ingest_session.proofs.InLine.{turn_is_first}
use Rattle.ingest_session.proofs.Knowing.{HasChildren, IsOfPiece, IsStored, Knows, children_are_kept}
use Rattle.ingest_session.proofs.Members.{IsIn, all_then, found_in, in_either, in_left, in_none, in_one, in_right, turn_is}
use Rattle.ingest_session.proofs.Sealing.{claims_off, no_step_off, waits_placed, waits_with, with_item}
use Rattle.ingest_session.proofs.Waiting.{claimed_children, claimed_turn, has_turn, on_and_off, others_same, session_of}

-- ---- what is kept

-- what a history keeps, another keeps too
abbrev pub Grows : History → History → Type 0
Grows h g = (kind : Kind) (x : Segment) → IsKept h kind x → IsKept g kind x

child_grows : (h g : History) → Grows h g → (c : KeyPin) → IsKeptChild h c → IsKeptChild g c
child_grows h g grows c is = (is.0, is.1, grows is.0 is.1 is.2, is.3, is.4)

children_grow : (h g : History) → Grows h g → (x : Segment) → HasChildren h x → HasChildren g x
children_grow h g grows x has = all_then (IsKeptChild h) (IsKeptChild g) (children_by Tree x) (child_grows h g grows) has

both_grow : (held sealed more others : List Segment) (x : Segment) → IsIn x (held ++ sealed) → IsIn x ((held ++ more) ++ (sealed ++ others))
both_grow held sealed more others x is =
    elim (in_either held sealed x is) [
      | inl there ↦ in_left (held ++ more) (sealed ++ others) x (in_left held more x there)
      | inr there ↦ in_right (held ++ more) (sealed ++ others) x (in_left sealed others x there)
    ]

-- ---- a call that leaves as it is what is still to be sealed

stored_same : (s t : SessionState) (h g : History) → Grows h g → ((kind : Kind) → gathered t kind ≡ gathered s kind) → (seg : KindSegment) →
    IsStored s h seg → IsStored t g seg
stored_same s t h g grows same seg (inl kept) = inl (grows seg.kind seg.segment kept)
stored_same s t h g grows same seg (inr there) = inr (subst (λ (c : Contents). IsIn seg.segment c.segments) (sym (same seg.kind)) there)

of_piece_on : (placed more : List Piece) (seg : KindSegment) → IsOfPiece placed seg → IsOfPiece (placed ++ more) seg
of_piece_on placed more seg is = (is.0, in_left placed more is.0 is.1, is.2)

-- Pieces went to their place, and no item waits.
knows_placed : (s t : SessionState) (h g : History) (more : List Piece) → Knows s h → Grows h g → g.placed ≡ h.placed ++ more →
    Follows t g.given g.placed → ((kind : Kind) → gathered t kind ≡ gathered s kind) → ((p : Piece) → IsIn p more → IsStored t g (piece_segment p)) →
    t.waits ≡ false → Knows t g
knows_placed s t h g more knows grows placed follows same new off = record {
  follows = follows;
  stored = λ p there.
      elim (in_either h.placed more p (subst (IsIn p) placed there)) [
        | inl old ↦ stored_same s t h g grows same (piece_segment p) (knows.stored p old)
        | inr added ↦ new p added
      ];
  opens = λ kind x there.
      subst (λ (ps : List Piece). IsOfPiece ps (record { kind = kind; segment = x })) (sym placed)
      (of_piece_on h.placed more (record { kind = kind; segment = x })
      (knows.opens kind x (subst (λ (c : Contents). IsIn x c.segments) (same kind) there)));
  children = λ x there. children_grow h g grows x (knows.children x (subst (λ (c : Contents). IsIn x c.segments) (same Tree) there));
  waiting = λ n on turn. on_and_off t.waits on off;
}

-- Nothing went to its place, and an item that waits is the same.
knows_same : (s t : SessionState) (h : History) (given : List ℕ) → Knows s h → Follows t given h.placed →
    ((kind : Kind) → gathered t kind ≡ gathered s kind) → t.waits ≡ s.waits → (s.waits ≡ true → (turn_node t) ≡ (turn_node s)) →
    Knows t (record h { given = given })
knows_same s t h given knows follows same waits turn =
    record {
      follows = follows;
      stored = λ p there. stored_same s t h h (λ kind x is. is) same (piece_segment p) (knows.stored p there);
      opens = λ kind x there. knows.opens kind x (subst (λ (c : Contents). IsIn x c.segments) (same kind) there);
      children = λ x there. knows.children x (subst (λ (c : Contents). IsIn x c.segments) (same Tree) there);
      waiting = λ n on is. let was = sym waits ∙ on in knows.waiting n was (sym (turn was) ∙ is);
    }

-- more is kept
grown_knows : (s : SessionState) (h g : History) → Knows s h → Grows h g → g.given ≡ h.given → g.placed ≡ h.placed → Knows s g
grown_knows s h g knows grows given placed = record {
  follows =
      subst (λ (bytes : List ℕ). Follows s bytes g.placed) (sym given) (subst (Follows s h.given) (sym placed) knows.follows);
  stored = λ p there. stored_same s s h g grows (λ kind. refl) (piece_segment p) (knows.stored p (subst (IsIn p) placed there));
  opens = λ kind x there. subst (λ (ps : List Piece). IsOfPiece ps (record { kind = kind; segment = x })) (sym placed) (knows.opens kind x there);
  children = λ x there. children_grow h g grows x (knows.children x there);
  waiting = λ n on turn. children_grow h g grows (node_segment n).segment (knows.waiting n on turn);
}

nothing_placed : (t : SessionState) (h : History) → Knows t h → Knows t (record h { placed = h.placed ++ [] })
nothing_placed t h knows = subst (λ (ps : List Piece). Knows t (record h { placed = ps })) (sym (append-nil h.placed)) knows

-- ---- an item that needs no step

item_there : (s : SessionState) (n : Option node.Contents) (queue : List (List ℕ)) → s.queue ≡ queue → item_is_there s n ≡ true →
    IsIn (item_of n queue) (gathered s (item_kind n)).segments
item_there s (Some n) queue is there = found_in s.nodes.segments (node_segment n).segment (and_parts _ _ there).1
item_there s None [] is there = absurd (let no : false ≡ true = rw is at there in cc)
item_there s None (x ∷ xs) is there = found_in (gathered s Leaf).segments (record { level = 0; bytes = x }) (rw is at there)

turn_stored : (s t : SessionState) (g : History) → IsStored t g (record { kind = item_kind (turn_node s); segment = item_of (turn_node s) s.queue }) →
    (p : Piece) → IsIn p (turn s) → IsStored t g (piece_segment p)
turn_stored s t g stored p there = subst (IsStored t g) (sym (turn_is (turn_node s) s.queue p there)) stored

-- such an item is in the queue, and the builder has it
no_ahead : (s : SessionState) (x : List ℕ) (xs : List (List ℕ)) → s.queue ≡ x ∷ xs → s.ahead ≡ None → IsSession s → IsSession (placed_front 1 s) → ⊥
no_ahead s x xs queue ahead is after =
    let top : s.top ≡ None = not_whole s.top s.ended x xs (rw (ahead, queue) at is.whole) in
    let one : total_of s.built.rows + sum_by length (x ∷ xs) + length s.hand.bytes ≡ s.count = rw (ahead, queue) at (is.building.bytes top) in
    let two : total_of s.built.rows + sum_by length xs + length s.hand.bytes ≡ s.count = rw queue at (after.building.bytes top) in
    let sum = sum_by-cons length x xs in
    let sized : AllByRecursion IsSized (x ∷ xs) = rw queue at is.sized in
    let some = sized.0.0 in omega (arith, one, two, sum, some)

front_is_ahead : (s : SessionState) (queue : List (List ℕ)) (ahead : Option KindSegment) → s.queue ≡ queue → s.ahead ≡ ahead → turn_node s ≡ None →
    item_is_there s (turn_node s) ≡ true → IsSession s → IsSession (placed_front 1 s) → IsSome ahead
front_is_ahead s queue (Some seg) queue_is ahead_is none there is after = refl
front_is_ahead s [] None queue_is ahead_is none there is after =
    absurd (let no : false ≡ true = sym (ap (queue_is_there s) queue_is) ∙ sym (ap (item_is_there s) none) ∙ there in cc)
front_is_ahead s (x ∷ xs) None queue_is ahead_is none there is after = absurd (no_ahead s x xs queue_is ahead_is is after)

-- the tree is whole where its last segment goes to its place
closed_after : (s : SessionState) (more : ℕ) → IsSome s.ahead → IsSession (placed_front more s) → is_last s.ended (rest_of s) ≡ true → IsSome s.top
closed_after s more some after last = after.closed (ap (is_last s.ended) (sym (rest_ahead s.ahead s.queue some)) ∙ last)

some_node : (o : Option node.Contents) → IsSome o → (n : node.Contents) × (o ≡ Some n)
some_node None some = absurd (cc)
some_node (Some n) some = (n, refl)

item_in_place : (s : SessionState) → needs_no_step s ≡ true → item_is_there s (turn_node s) ≡ true
item_in_place s none = (and_parts (not s.waits) (item_is_there s (turn_node s)) none).1

-- ---- an item that was answered Held

same_kind_self : (kind : Kind) → same_kind kind kind ≡ true
same_kind_self Leaf = refl
same_kind_self Tree = refl

answer_grows : (answer : Answer) (s : SessionState) (h : History) → Grows h (answered answer s h)
answer_grows answer s h kind x is = both_grow (h.held kind) (h.sealed kind) _ _ x is

held_knows : (s : SessionState) (h : History) → Knows s h → IsSession s → HasItem (turn_node s) s.spelled s.ahead → IsClosed s → s.waits ≡ false →
    Knows (placed_item 0 (turn_node s) s) (answered Held s h)
held_knows s h knows is has closed off =
    let kind = item_kind (turn_node s) in
    let item = item_of (turn_node s) s.queue in
    let g = answered Held s h in
    let held : IsIn item (item_if kind s) =
    subst (λ (b : Bool). IsIn item (if b then item ∷ [] else [])) (sym (same_kind_self kind)) (0, refl) in
    let kept : IsKept g kind item = in_left (g.held kind) (g.sealed kind) item (in_right (h.held kind) (item_if kind s) item held) in
    knows_placed s (placed_item 0 (turn_node s) s) h g (turn s) knows (answer_grows Held s h) refl
    (placed_follows 0 s h.given h.placed has is.ahead is.whole closed knows.follows) (gathered_placed 0 (turn_node s) s)
    (turn_stored s (placed_item 0 (turn_node s) s) g (inl kept)) (waits_placed 0 (turn_node s) s ∙ off)

-- ---- an item that was answered Absent

only_that : (kind mine : Kind) (item x : Segment) → IsIn x (if same_kind kind mine then item ∷ [] else []) →
    ◌≡◌ {A = KindSegment} (record { kind = kind; segment = x }) (record { kind = mine; segment = item })
only_that Leaf Leaf item x is = ap (λ (y : Segment). record { kind = Leaf; segment = y }) (in_one item x is)
only_that Leaf Tree item x is = absurd (in_none x is)
only_that Tree Leaf item x is = absurd (in_none x is)
only_that Tree Tree item x is = ap (λ (y : Segment). record { kind = Tree; segment = y }) (in_one item x is)

turn_piece : (n : Option node.Contents) (queue : List (List ℕ)) → HasTurn n queue → (p : Piece) × IsIn p (turn_of n queue)
turn_piece (Some n) queue has = (Node n, (0, refl))
turn_piece None [] has = absurd has
turn_piece None (x ∷ xs) has = (Data x, (0, refl))

added_children : (g : History) (n : Option node.Contents) (queue : List (List ℕ)) (x : Segment) →
    ((m : node.Contents) → n ≡ Some m → HasChildren g (node_segment m).segment) →
    IsIn x (if same_kind Tree (item_kind n) then item_of n queue ∷ [] else []) → HasChildren g x
added_children g None queue x kept is = absurd (in_none x is)
added_children g (Some n) queue x kept is = subst (HasChildren g) (sym (in_one (node_segment n).segment x is)) (kept n refl)

module _ (more : ℕ) (s : SessionState) (h g : History) (knows : Knows s h) (has : HasItem (turn_node s) s.spelled s.ahead) (ahead : IsAhead s.ahead s.queue)
    (whole : IsWhole s.top (is_last s.ended (rest_of s))) (closed : IsClosed s) (off : s.waits ≡ false) (grows : Grows h g) (given : g.given ≡ h.given)
    (kept : (n : node.Contents) → (turn_node s) ≡ Some n → HasChildren g (node_segment n).segment) where
  added_knows : g.placed ≡ h.placed ++ turn s → Knows (placed_item more (turn_node s) (added_item s)) g
  added_knows placed =
      let t : SessionState = placed_item more (turn_node s) (added_item s) in
      let mine = item_kind (turn_node s) in
      let item = item_of (turn_node s) s.queue in
      let opens : (kind : Kind) → (gathered t kind).segments ≡ (gathered s kind).segments ++ (if same_kind kind mine then item ∷ [] else []) = λ kind.
      ap (λ (c : Contents). c.segments) (gathered_placed more (turn_node s) (added_item s) kind) ∙ with_item s kind mine item in
      let stored_on : (seg : KindSegment) → IsStored s h seg → IsStored t g seg = λ seg stored.
      elim stored [
        | inl old ↦ inl (grows seg.kind seg.segment old)
        | inr there ↦ inr (subst (IsIn seg.segment) (sym (opens seg.kind)) (in_left (gathered s seg.kind).segments _ seg.segment there))
      ] in
      let new : IsIn item (gathered t mine).segments =
      subst (IsIn item) (sym (opens mine)) (in_right (gathered s mine).segments _ item
      (subst (λ (b : Bool). IsIn item (if b then item ∷ [] else [])) (sym (same_kind_self mine)) (0, refl))) in
      let piece = turn_piece (turn_node s) s.queue (has_turn (turn_node s) s.spelled s.ahead s.queue has ahead) in
      let is_piece = turn_is (turn_node s) s.queue piece.0 piece.1 in
      record {
        follows =
            subst (λ (bytes : List ℕ). Follows t bytes g.placed) (sym given)
            (subst (Follows t h.given) (sym placed) (added_follows more s mine _ h.given h.placed has ahead whole closed knows.follows));
        stored = λ p there.
            elim (in_either h.placed (turn s) p (subst (IsIn p) placed there)) [
              | inl old ↦ stored_on (piece_segment p) (knows.stored p old)
              | inr added ↦ turn_stored s t g (inr new) p added
            ];
        opens = λ kind x there.
            subst (λ (ps : List Piece). IsOfPiece ps (record { kind = kind; segment = x })) (sym placed)
            (elim (in_either (gathered s kind).segments _ x (subst (IsIn x) (opens kind) there)) [
              | inl old ↦ of_piece_on h.placed (turn s) (record { kind = kind; segment = x }) (knows.opens kind x old)
              | inr added ↦ (piece.0, in_right h.placed (turn s) piece.0 piece.1, only_that kind mine item x added ∙ sym is_piece)
            ]);
        children = λ x there.
            elim (in_either s.nodes.segments _ x (subst (IsIn x) (opens Tree) there)) [
              | inl old ↦ children_grow h g grows x (knows.children x old)
              | inr added ↦ added_children g (turn_node s) s.queue x kept added
            ];
        waiting = λ n on turn. on_and_off _ on (waits_placed more (turn_node s) (added_item s) ∙ waits_with s mine _ ∙ off);
      }

  waiting_knows : g.placed ≡ h.placed ++ [] → Knows (record s { waits = true }) g
  waiting_knows placed =
      let t : SessionState = record s { waits = true } in
      let same = placed ∙ append-nil h.placed in
      record {
        follows =
            subst (λ (bytes : List ℕ). Follows t bytes g.placed) (sym given)
            (subst (Follows t h.given) (sym same) (held_follows s s.leaves s.nodes s.aside true h.given h.placed knows.follows));
        stored = λ p there.
            stored_same s t h g grows (gathered_waits s true) (piece_segment p) (knows.stored p (subst (IsIn p) same there));
        opens = λ kind x there.
            subst (λ (ps : List Piece). IsOfPiece ps (record { kind = kind; segment = x })) (sym same)
            (knows.opens kind x (subst (λ (c : Contents). IsIn x c.segments) (gathered_waits s true kind) there));
        children = λ x there. children_grow h g grows x (knows.children x there);
        waiting = λ n on turn. kept n turn;
      }

  absent_knows : (fit : Bool) → g.placed ≡ h.placed ++ placed_if fit s →
      Knows (if fit then placed_item more (turn_node s) (added_item s) else record s { waits = true }) g
  absent_knows true placed = added_knows placed
  absent_knows false placed = waiting_knows placed

-- ---- an item that waited

unwaited_knows : (s : SessionState) (h : History) → Knows s h → Knows (record s { waits = false }) h
unwaited_knows s h knows =
    let t : SessionState = record s { waits = false } in
    record {
      follows = held_follows s s.leaves s.nodes s.aside false h.given h.placed knows.follows;
      stored = λ p there. stored_same s t h h (λ kind x is. is) (gathered_waits s false) (piece_segment p) (knows.stored p there);
      opens = λ kind x there. knows.opens kind x (subst (λ (c : Contents). IsIn x c.segments) (gathered_waits s false kind) there);
      children = knows.children;
      waiting = λ n on turn. absurd (cc);
    }

module _ (more : ℕ) (s : SessionState) (h g : History) (knows : Knows s h) (has : s.waits ≡ true → HasItem (turn_node s) s.spelled s.ahead × IsClosed s)
    (ahead : IsAhead s.ahead s.queue) (whole : IsWhole s.top (is_last s.ended (rest_of s))) (grows : Grows h g) (given : g.given ≡ h.given) where
  resumed_by : (waits : Bool) → s.waits ≡ waits → g.placed ≡ h.placed ++ (if waits then placed_if (fits (record s { waits = false })) s else []) →
      Knows (if waits then absent_item more (record s { waits = false }) else s) g
  resumed_by true on placed =
      let t : SessionState = record s { waits = false } in
      absent_knows more t h g (unwaited_knows s h knows) (has on).0 ahead whole (has on).1 refl grows given
      (λ n turn. children_grow h g grows (node_segment n).segment (knows.waiting n on turn))
      (fits t) (placed ∙ ap (λ (ps : List Piece). h.placed ++ ps) (sym (placed_unwaited s (fits t))))
  resumed_by false off placed =
      knows_placed s s h g [] knows grows placed
      (subst (λ (bytes : List ℕ). Follows s bytes g.placed) (sym given)
      (subst (Follows s h.given) (sym (placed ∙ append-nil h.placed)) knows.follows)) (λ kind. refl) (λ p there. absurd (in_none p there)) off

  resumed_knows : g.placed ≡ h.placed ++ placed_resumed s → Knows (resumed more s) g
  resumed_knows placed = resumed_by s.waits refl placed

-- ---- a container that is set aside

put_knows : (s : SessionState) (h : History) → Knows s h → Knows (put_aside s) h
put_knows s h knows =
    knows_same s (put_aside s) h h.given knows (held_follows s (put_aside s).leaves s.nodes (put_aside s).aside s.waits h.given h.placed knows.follows)
    (gathered_put s) refl (λ on. refl)

aside_knows : (s : SessionState) (h : History) → Knows s h → IsSession s → Knows (set_aside s) (record h { placed = h.placed ++ placed_resumed (put_aside s) })
aside_knows s h knows is =
    resumed_knows 1 (put_aside s) h (record h { placed = h.placed ++ placed_resumed (put_aside s) }) (put_knows s h knows) is.waits is.ahead is.whole
    (λ kind x kept. kept) refl refl

-- ---- all that is done before a step

moved_knows : (s t : SessionState) (h : History) → Knows s h → IsSession s → IsSession t → (step : SettleStep s t) →
    Knows t (record h { placed = h.placed ++ moved step })
moved_knows s t h knows before after (Turned _ _ off is) =
    nothing_placed t h
    (knows_same s t h h.given knows (subst (λ (u : SessionState). Follows u h.given h.placed) (sym is) (turned_follows s _ h.given h.placed knows.follows))
    (others_same s t _ is refl refl refl) (ap (λ (u : SessionState). u.waits) is)
    (λ on. on_and_off _ on off))
moved_knows s t h knows before after (Spelled _ _ is) =
    nothing_placed t h
    (knows_same s t h h.given knows (subst (λ (u : SessionState). Follows u h.given h.placed) (sym is) (spelled_follows s _ h.given h.placed knows.follows))
    (others_same s t _ is refl refl refl) (ap (λ (u : SessionState). u.waits) is)
    (λ on. ap (λ (u : SessionState). (turn_node u)) is))
moved_knows s t h knows before after (Advanced _ _ is) =
    nothing_placed t h
    (knows_same s t h h.given knows (advanced_follows s t h.given h.placed before.whole is knows.follows)
    (others_same s t _ is.others refl refl refl) (ap (λ (u : SessionState). u.waits) is.others)
    (λ on. ap (λ (u : SessionState). (turn_node u)) is.others))
moved_knows s t h knows before after (Closed _ _ is) =
    nothing_placed t h
    (knows_same s t h h.given knows (closing_follows s t h.given h.placed is knows.follows)
    (others_same s t _ is.others refl refl refl) (ap (λ (u : SessionState). u.waits) is.others)
    (λ on. ap (λ (u : SessionState). (turn_node u)) is.others))
moved_knows s t h knows before after (PlacedNode _ _ none right some is) =
    let n = some_node (turn_node s) some in
    let g : History = record h { placed = h.placed ++ turn s } in
    let there : IsStored s g (record { kind = item_kind (turn_node s); segment = item_of (turn_node s) s.queue }) =
    inr (item_there s (turn_node s) s.queue refl (item_in_place s none)) in
    let follows : Follows (placed_node s) h.given (h.placed ++ turn s) =
    subst (λ (o : Option node.Contents). Follows (placed_node s) h.given (h.placed ++ turn_of o s.queue)) (sym n.1)
    (placed_node_follows s n.0 h.given h.placed n.1 knows.follows) in
    subst (λ (u : SessionState). Knows u g) (sym is)
    (knows_placed s (placed_node s) h g (turn s) knows (λ kind x kept. kept) refl follows (gathered_same s (placed_node s) refl refl refl)
    (turn_stored s (placed_node s) g there) (no_step_off s.waits (item_is_there s (turn_node s)) none))
moved_knows s t h knows before after (PlacedFront _ _ none right empty is) =
    let g : History = record h { placed = h.placed ++ turn s } in
    let there : IsStored s g (record { kind = item_kind (turn_node s); segment = item_of (turn_node s) s.queue }) =
    inr (item_there s (turn_node s) s.queue refl (item_in_place s none)) in
    let some = front_is_ahead s s.queue s.ahead refl refl empty (item_in_place s none) before (subst IsSession is after) in
    let follows : Follows (placed_front 1 s) h.given (h.placed ++ turn s) =
    subst (λ (o : Option node.Contents). Follows (placed_front 1 s) h.given (h.placed ++ turn_of o s.queue)) (sym empty)
    (placed_front_follows s 1 h.given h.placed some before.ahead before.whole (closed_after s 1 some (subst IsSession is after)) knows.follows) in
    subst (λ (u : SessionState). Knows u g) (sym is)
    (knows_placed s (placed_front 1 s) h g (turn s) knows (λ kind x kept. kept) refl follows (gathered_same s (placed_front 1 s) refl refl refl)
    (turn_stored s (placed_front 1 s) g there) (no_step_off s.waits (item_is_there s (turn_node s)) none))
moved_knows s t h knows before after (SetAside _ _ sound some right puts is) =
    subst (λ (u : SessionState). Knows u (record h { placed = h.placed ++ placed_resumed (put_aside s) })) (sym is) (aside_knows s h knows before)

-- ---- containers that were sealed

-- the history with their segments
sealed_history : Kind → ℕ → SessionState → History → History
sealed_history mine count s h =
    record h { sealed = λ kind. h.sealed kind ++ (if same_kind kind mine then segments_of_all (take count (offered_in s kind)) else []) }

history_grows : (s : SessionState) (h : History) (mine : Kind) (count : ℕ) → Grows h (sealed_history mine count s h)
unfolding sealed_history
history_grows s h mine count kind x is =
    elim (in_either (h.held kind) (h.sealed kind) x is) [
      | inl there ↦ in_left (h.held kind) _ x there
      | inr there ↦ in_right (h.held kind) _ x (in_left (h.sealed kind) _ x there)
    ]

-- What is not sealed now was not before, and what was not sealed before is sealed or is not sealed now.
record Leaves (mine : Kind) (count : ℕ) (s t : SessionState) (h : History) : Type 0 where
  less : (kind : Kind) (x : Segment) → IsIn x (gathered t kind).segments → IsIn x (gathered s kind).segments
  stored : (kind : Kind) (x : Segment) → IsIn x (gathered s kind).segments → IsKept (sealed_history mine count s h) kind x ⊎ IsIn x (gathered t kind).segments
  follows : Follows t h.given h.placed
  waits : t.waits ≡ s.waits
  turn : turn_node t ≡ turn_node s

left_knows : (mine : Kind) (count : ℕ) (s t : SessionState) (h : History) → Leaves mine count s t h → Knows s h → Knows t (sealed_history mine count s h)
unfolding sealed_history
left_knows mine count s t h left knows =
    let g : History = sealed_history mine count s h in
    let grows = history_grows s h mine count in
    let stored_on : (seg : KindSegment) → IsStored s h seg → IsStored t g seg = λ seg stored.
    elim stored [
      | inl old ↦ inl (grows seg.kind seg.segment old)
      | inr there ↦ left.stored seg.kind seg.segment there
    ] in
    record {
      follows = left.follows;
      stored = λ p there. stored_on (piece_segment p) (knows.stored p there);
      opens = λ kind x there. knows.opens kind x (left.less kind x there);
      children = λ x there. children_grow h g grows x (knows.children x (left.less Tree x there));
      waiting = λ n on turn.
          children_grow h g grows (node_segment n).segment (knows.waiting n (sym left.waits ∙ on) (sym left.turn ∙ turn));
    }

-- of data: those that were offered first are sealed
data_less : (s : SessionState) (count : ℕ) (kind : Kind) (x : Segment) → IsIn x (gathered (record s { aside = drop count s.aside }) kind).segments
    → IsIn x (gathered s kind).segments
data_less s count Leaf x there = subst (IsIn x) (left_parted count s) (in_right (segments_of_all (take count s.aside)) _ x there)
data_less s count Tree x there = there

data_stored : (s : SessionState) (count : ℕ) (h : History) (kind : Kind) (x : Segment) → IsIn x (gathered s kind).segments
    → IsKept (sealed_history Leaf count s h) kind x ⊎ IsIn x (gathered (record s { aside = drop count s.aside }) kind).segments
unfolding sealed_history
data_stored s count h Leaf x there =
    let first = segments_of_all (take count s.aside) in
    elim (in_either first _ x (subst (IsIn x) (sym (left_parted count s)) there)) [
      | inl now ↦ inl (in_right (h.held Leaf) _ x (in_right (h.sealed Leaf) first x now))
      | inr later ↦ inr later
    ]
data_stored s count h Tree x there = inr there

data_left : (s : SessionState) (count : ℕ) (h : History) → Knows s h → Leaves Leaf count s (record s { aside = drop count s.aside }) h
data_left s count h knows = record {
  less = data_less s count;
  stored = data_stored s count h;
  follows = held_follows s s.leaves s.nodes (drop count s.aside) s.waits h.given h.placed knows.follows;
  waits = refl;
  turn = refl;
}

-- of nodes: the open container is empty
nodes_less : (s : SessionState) (kind : Kind) (x : Segment) → IsIn x (gathered (emptied s) kind).segments → IsIn x (gathered s kind).segments
nodes_less s Leaf x there = there
nodes_less s Tree x there = absurd (in_none x there)

nodes_stored : (s : SessionState) (count : ℕ) (h : History) → 1 ≤ count → (kind : Kind) (x : Segment) → IsIn x (gathered s kind).segments
    → IsKept (sealed_history Tree count s h) kind x ⊎ IsIn x (gathered (emptied s) kind).segments
unfolding sealed_history
nodes_stored s count h some Leaf x there = inr there
nodes_stored s count h some Tree x there =
    inl (in_right (h.held Tree) _ x (in_right (h.sealed Tree) _ x (subst (IsIn x) (sym (one_taken count s.nodes some)) there)))

nodes_left : (s : SessionState) (count : ℕ) (h : History) → 1 ≤ count → Knows s h → Leaves Tree count s (emptied s) h
nodes_left s count h some knows = record {
  less = nodes_less s;
  stored = nodes_stored s count h some;
  follows = held_follows s s.leaves (emptied s).nodes s.aside s.waits h.given h.placed knows.follows;
  waits = refl;
  turn = refl;
}

module _ (s : SessionState) (h : History) (id count : ℕ) (some : 1 ≤ count) (knows : Knows s h) (is : IsSession s) where
  sealed_grows : (mine : Kind) → due_in s ≡ Seal mine → Grows (sealed_history mine count s h) (answered (Sealed id count) s h)
  unfolding sealed_history
  sealed_grows mine due kind x kept =
      let same : (sealed_history mine count s h).sealed kind ≡ h.sealed kind ++ sealed_for kind count (due_in s) s =
      ap (λ (d : Due). h.sealed kind ++ sealed_for kind count d s) (sym due) in
      elim (in_either (h.held kind) ((sealed_history mine count s h).sealed kind) x kept) [
        | inl there ↦ in_left (h.held kind ++ []) _ x (in_left (h.held kind) [] x there)
        | inr there ↦ in_right (h.held kind ++ []) _ x (subst (IsIn x) same there)
      ]

  sealed_knows : (mine : Kind) → due_in s ≡ Seal mine → Knows (told.sealed_by count (Seal mine) s) (answered (Sealed id count) s h)
  unfolding sealed_history
  sealed_knows Leaf due =
      let t : SessionState = record s { aside = drop count s.aside } in
      let g = answered (Sealed id count) s h in
      let left = left_knows Leaf count s t h (data_left s count h knows) knows in
      let placed : g.placed ≡ h.placed = ap (λ (d : Due). h.placed ++ placed_after_seal d s) due ∙ append-nil h.placed in
      grown_knows t (sealed_history Leaf count s h) g left (sealed_grows Leaf due) refl placed
  sealed_knows Tree due =
      let g = answered (Sealed id count) s h in
      let left = left_knows Tree count s (emptied s) h (nodes_left s count h some knows) knows in
      resumed_knows 0 (emptied s) (sealed_history Tree count s h) g left is.waits is.ahead is.whole (sealed_grows Tree due) refl
      (ap (λ (d : Due). h.placed ++ placed_after_seal d s) due)

told_knows : (s : SessionState) (answer : Answer) (h : History) → Knows s h → IsSession s → IsSettled s → IsAnswerFor answer s →
    Knows (told_by answer s) (answered answer s h)
told_knows s Held h knows is settled due = held_knows s h knows is (settled.placed.claim due) settled.placed.closed (claims_off s due)
told_knows s Absent h knows is settled due =
    absent_knows 0 s h (answered Absent s h) knows (settled.placed.claim due) is.ahead is.whole settled.placed.closed (claims_off s due) (answer_grows Absent s h) refl
    (λ n turn. children_grow h (answered Absent s h) (answer_grows Absent s h) (node_segment n).segment
    (children_are_kept s h knows is n (turn_is_first s.turn s.line n turn) (claimed_children s n (sym (claimed_turn s settled due) ∙ turn) due)))
    (fits s) refl
told_knows s (Sealed id count) h knows is settled due =
    subst (λ (d : Due). Knows (told.sealed_by count d s) (answered (Sealed id count) s h)) (sym due.1) (sealed_knows s h id count due.2 knows is due.0 due.1)
told_knows s other h knows is settled due = absurd due

-- ---- all calls

begun_knows : (s : SessionState) → IsSession s → IsBegun s → Knows s no_history
begun_knows s session is = record {
  follows = begun_follows s session is;
  stored = λ p there. absurd (in_none p there);
  opens = λ kind x there. absurd (none_open kind x there);
  children = λ x there. absurd (none_open Tree x there);
  waiting = λ n on turn. on_and_off s.waits on is.waits;
}
  where
    none_gathered : (gathered s Leaf).segments ≡ []
    none_gathered = ap (λ (cs : List Contents). segments_of_all cs ++ s.leaves.segments) is.aside ∙ is.leaves

    none_open : (kind : Kind) (x : Segment) → IsIn x (gathered s kind).segments → ⊥
    none_open Leaf x there = in_none x (subst (IsIn x) none_gathered there)
    none_open Tree x there = in_none x (subst (IsIn x) is.nodes there)

pub known : (s : SessionState) (h : History) → HasHistory s h → Knows s h
known s _ (Begun _ session is) = begun_knows s session is
known t _ (Pushed s _ h bytes has _ is) =
    let before = known s h has in
    knows_same s t h (h.given ++ bytes) before (taking_follows s t h.given bytes h.placed (session_of s h has).ahead is before.follows)
    (others_same s t _ is.others refl refl refl) (ap (λ (u : SessionState). u.waits) is.others)
    (λ on. (is.item on).0)
known t h (Ended s _ _ has after is) =
    let before = known s h has in
    knows_same s t h h.given before (ending_follows s t h.given h.placed (session_of s h has) after is before.follows)
    (others_same s t _ is.others refl refl refl) (ap (λ (u : SessionState). u.waits) is.others)
    (λ on. (is.item on).0)
known t _ (Moved s _ h has is step) = moved_knows s t h (known s h has) (session_of s h has) is step
known t h (Asked s _ _ has _ is) =
    let before = known s h has in
    knows_same s t h h.given before (subst (λ (u : SessionState). Follows u h.given h.placed) (sym is) (asked_follows s 0 h.given h.placed before.follows))
    (others_same s t _ is refl refl refl) (ap (λ (u : SessionState). u.waits) is)
    (λ on. ap (λ (u : SessionState). (turn_node u)) is)
known _ _ (Told s answer h has _ settled _ due _) = told_knows s answer h (known s h has) (session_of s h has) settled due
