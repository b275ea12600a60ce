-- A session follows a file: the pieces in their place are the first of it, and the builder has their segments.
use Rattle.ingest_session.proofs.Prelude.{◌≡◌, ◌∙◌, ◌+◌, ℕ, Bool, true, false, List, [], ◌∷◌, ◌++◌, Some, IsSome, length, map, take, drop, inl, inr, ◌⊎◌, refl, sym, ap, subst, append_assoc, append-nil, length-append, map-append, Kind, Leaf, Tree, Contents, KindSegment, Child, Top, ByCount, itself, nodes_of, of_segment, tree_of, Progress, Holds, Piece, Data, Node, data_in, nodes_in, IsEnding, IsTaking, without_nodes, IsBegun, turn, turn_of, Finishes, BuildsFront, IsAdvanced, IsClosing, front_of, IsSession, SessionState, HasItem, IsAhead, IsClosed, IsWhole, is_last, rest_after, rest_of, turn_node, IsCutInto, placed_front, placed_item, placed_node, with_open}
use Rattle.std.proofs.Common.{Option, None}
use Rattle.merkle_file.specs.Node as node
use Rattle.merkle_file.specs.Tree.{root_of}
use Rattle.ingest_session.specs.Calls.{GoesOn, EndsTree, LinesUp}
use Rattle.ingest_session.proofs.InLine.{first_and_rest, turn_is_first}
use Rattle.ingest_session.proofs.Members.{data_append, nodes_append}
use Rattle.ingest_session.proofs.Rests.{ongoing_last}

-- the segment that is ahead, if there is one
abbrev pub begun : Option KindSegment → List (List ℕ) → List (List ℕ)
begun None queue = []
begun (Some seg) queue = take 1 queue

-- The builder was pushed these segments; where the tree is whole, it is theirs.
abbrev pub IsBuilt : Progress → Option Top → List (List ℕ) → List node.Contents → Type 0
IsBuilt b None segments taken = Holds b (map of_segment segments) taken
IsBuilt b (Some top) segments taken =
    (top ≡ root_of itself (tree_of ByCount itself (map of_segment segments)))
    × (taken ++ b.finished ≡ nodes_of itself (tree_of ByCount itself (map of_segment segments)))

-- the segments that the builder has, and the nodes that were taken from it: those in their place and those in line
abbrev pub pushed_of : SessionState → List Piece → List (List ℕ)
pushed_of s placed = data_in placed ++ begun s.ahead s.queue

abbrev pub taken_of : SessionState → List Piece → List node.Contents
taken_of s placed = nodes_in placed ++ s.line

-- Some nodes are those that a builder finished, where it was pushed these segments; all those of the tree over them at the end.
pub record AreFinished (last : Bool) (segments : List (List ℕ)) (nodes : List node.Contents) : Type 0 where
  pub built : Progress
  pub top : Option Top
  pub is : IsBuilt built top segments nodes
  pub none : built.finished ≡ []
  pub whole : IsWhole top last
  pub closed : last ≡ true → IsSome top

-- The bytes are cut into the segments in their place, those that wait and what is in hand, and the tree is built over them.
-- The nodes in their place and those in line are finished by the segments in their place.
pub record Follows (s : SessionState) (given : List ℕ) (placed : List Piece) : Type 0 where
  pub cut : IsCutInto s.ended given (data_in placed ++ s.queue) s.hand
  pub built : IsBuilt s.built s.top (pushed_of s placed) (taken_of s placed)
  pub lined : AreFinished (is_last s.ended s.queue) (data_in placed) (taken_of s placed)
  pub counted : s.count ≡ length given

-- ---- the segment that is ahead

all_queued : (segments : List (List ℕ)) (ahead : Option KindSegment) (queue : List (List ℕ)) →
    (segments ++ begun ahead queue) ++ rest_after ahead queue ≡ segments ++ queue
all_queued segments None queue = ap (λ (ss : List (List ℕ)). ss ++ queue) (append-nil segments)
all_queued segments (Some seg) [] = append-nil (segments ++ [])
all_queued segments (Some seg) (x ∷ xs) = append_assoc segments (x ∷ []) xs

begun_stays : (ahead : Option KindSegment) (queue more : List (List ℕ)) → IsAhead ahead queue → begun ahead (queue ++ more) ≡ begun ahead queue
begun_stays None queue more is = refl
begun_stays (Some seg) [] more is = absurd is
begun_stays (Some seg) (x ∷ xs) more is = refl

pub pushed_and_rest : (s : SessionState) (placed : List Piece) → pushed_of s placed ++ rest_of s ≡ data_in placed ++ s.queue
pushed_and_rest s placed = all_queued (data_in placed) s.ahead s.queue

-- ---- the builder

built_same : (s t : SessionState) (placed : List Piece) → t.built ≡ s.built → t.top ≡ s.top → begun t.ahead t.queue ≡ begun s.ahead s.queue →
    t.line ≡ s.line → IsBuilt s.built s.top (pushed_of s placed) (taken_of s placed) → IsBuilt t.built t.top (pushed_of t placed) (taken_of t placed)
built_same s t placed built top ahead turn is = rw (built, top, ahead, turn) is

-- the finished nodes are taken
built_on : (b : Progress) (top : Option Top) (segments : List (List ℕ)) (taken : List node.Contents) → IsBuilt b top segments taken →
    IsBuilt (without_nodes b) top segments (taken ++ b.finished)
built_on b None segments taken is = record { rows = is.rows; nodes = append-nil (taken ++ b.finished) ∙ is.nodes; count = is.count; length = is.length }
built_on b (Some top) segments taken is = (is.0, append-nil (taken ++ b.finished) ∙ is.1)

-- where the builder has no more segments than those in their place
lined_by : (s : SessionState) (placed : List Piece) → IsBuilt s.built s.top (pushed_of s placed) (taken_of s placed) → IsSession s → s.ahead ≡ None →
    AreFinished (is_last s.ended s.queue) (data_in placed) (taken_of s placed)
lined_by s placed built is none =
    let rest : rest_of s ≡ s.queue = ap (λ (a : Option KindSegment). rest_after a s.queue) none in
    let pushed : pushed_of s placed ≡ data_in placed = ap (λ (a : Option KindSegment). data_in placed ++ begun a s.queue) none ∙ append-nil (data_in placed) in
    record {
      built = s.built;
      top = s.top;
      is = subst (λ (ss : List (List ℕ)). IsBuilt s.built s.top ss (taken_of s placed)) pushed built;
      none = is.next none;
      whole = subst (λ (ss : List (List ℕ)). IsWhole s.top (is_last s.ended ss)) rest is.whole;
      closed = is.closed;
    }

lined_same : (s t : SessionState) (placed : List Piece) → t.line ≡ s.line → is_last t.ended t.queue ≡ is_last s.ended s.queue →
    AreFinished (is_last s.ended s.queue) (data_in placed) (taken_of s placed) → AreFinished (is_last t.ended t.queue) (data_in placed) (taken_of t placed)
lined_same s t placed line last is = rw (line, last) is

-- the tree is made whole
built_whole : (b c : Progress) (old : Option Top) (top : Top) (segments : List (List ℕ)) (taken : List node.Contents) → old ≡ None → Finishes top b c →
    IsBuilt b old segments taken → IsBuilt c (Some top) segments taken
built_whole b c None top segments taken none ends is = ends.all (map of_segment segments) taken is
built_whole b c (Some other) top segments taken none ends is = absurd (cc)

-- ---- a new session

pub begun_follows : (s : SessionState) → IsSession s → IsBegun s → Follows s [] []
begun_follows s session is =
    let built : IsBuilt s.built s.top (pushed_of s []) (taken_of s []) = rw (is.top, is.ahead, is.line) is.built in record {
      cut = rw (is.ongoing, is.queue) is.cut;
      built = built;
      lined = lined_by s [] built session is.ahead;
      counted = is.count;
    }

-- ---- bytes are taken, and the file ends

pub taking_follows : (s t : SessionState) (given bytes : List ℕ) (placed : List Piece) → IsAhead s.ahead s.queue → IsTaking bytes s t →
    Follows s given placed → Follows t (given ++ bytes) placed
taking_follows s t given bytes placed ahead is follows =
    let same : begun t.ahead t.queue ≡ begun s.ahead s.queue =
    ap (λ (u : SessionState). begun u.ahead t.queue) is.others ∙ ap (begun s.ahead) is.queue ∙ begun_stays s.ahead s.queue is.more ahead in
    let pushed = ap (λ (ss : List (List ℕ)). data_in placed ++ ss) same in
    record {
      cut = subst (λ (ss : List (List ℕ)). IsCutInto t.ended (given ++ bytes) ss t.hand)
          (ap (λ (ss : List (List ℕ)). ss ++ rest_of t) (sym pushed) ∙ pushed_and_rest t placed)
          (is.cut given (pushed_of s placed)
          (subst (λ (ss : List (List ℕ)). IsCutInto s.ended given ss s.hand) (sym (pushed_and_rest s placed)) follows.cut));
      built = built_same s t placed (ap (λ (u : SessionState). u.built) is.others) (ap (λ (u : SessionState). u.top) is.others) same
          (ap (λ (u : SessionState). u.line) is.others) follows.built;
      lined = lined_same s t placed (ap (λ (u : SessionState). u.line) is.others)
          (ongoing_last t.ended t.queue (ap (λ (u : SessionState). u.ended) is.others ∙ is.ongoing) ∙ sym (ongoing_last s.ended s.queue is.ongoing)) follows.lined;
      counted = is.count ∙ ap (λ (n : ℕ). n + length bytes) follows.counted ∙ sym (length-append given bytes);
    }

lined_taken : (ahead : Option KindSegment) (line : List node.Contents) (b : Progress) (top : Option Top) (t : SessionState) (segments : List (List ℕ))
    (nodes : List node.Contents) → LinesUp ahead line b t → IsBuilt b top segments (nodes ++ line) → IsBuilt t.built top segments (nodes ++ t.line)
lined_taken None line b top t segments nodes lines is =
    rw (lines.0, lines.1)
    (subst (λ (ns : List node.Contents). IsBuilt (without_nodes b) top segments ns) (append_assoc nodes line b.finished)
    (built_on b top segments (nodes ++ line) is))
lined_taken (Some seg) line b top t segments nodes lines is = rw (lines.0, lines.1) is

ending_built : (s t : SessionState) (placed : List Piece) → GoesOn s t ⊎ EndsTree s t → begun t.ahead t.queue ≡ begun s.ahead s.queue →
    IsBuilt s.built s.top (pushed_of s placed) (taken_of s placed) → IsBuilt t.built t.top (pushed_of t placed) (taken_of t placed)
ending_built s t placed (inl on) same is = built_same s t placed on.built on.top same on.line is
ending_built s t placed (inr ends) same is =
    rw (same, ends.top)
    (lined_taken s.ahead s.line ends.built (Some ends.root) t (pushed_of s placed) (nodes_in placed) ends.lined
    (built_whole s.built ends.built s.top ends.root (pushed_of s placed) (taken_of s placed) ends.none ends.finishes is))

-- a segment is ahead: then the line stays
ahead_line : (s t : SessionState) (seg : KindSegment) → s.ahead ≡ Some seg → GoesOn s t ⊎ EndsTree s t → t.line ≡ s.line
ahead_line s t seg ahead (inl on) = on.line
ahead_line s t seg ahead (inr ends) =
    let lined : LinesUp (Some seg) s.line ends.built t = subst (λ (a : Option KindSegment). LinesUp a s.line ends.built t) ahead ends.lined in lined.0

ahead_last : (ended : Bool) (ahead : Option KindSegment) (seg : KindSegment) (queue : List (List ℕ)) → ahead ≡ Some seg → IsAhead ahead queue →
    is_last ended queue ≡ false
ahead_last ended None seg queue ahead is = absurd (cc)
ahead_last ended (Some other) seg [] ahead is = absurd is
ahead_last true (Some other) seg (x ∷ xs) ahead is = refl
ahead_last false (Some other) seg (x ∷ xs) ahead is = refl

ending_lined : (s t : SessionState) (placed : List Piece) (ahead : Option KindSegment) → s.ahead ≡ ahead → t.ahead ≡ s.ahead → IsSession s → IsSession t →
    GoesOn s t ⊎ EndsTree s t → IsBuilt t.built t.top (pushed_of t placed) (taken_of t placed) →
    AreFinished (is_last s.ended s.queue) (data_in placed) (taken_of s placed) → AreFinished (is_last t.ended t.queue) (data_in placed) (taken_of t placed)
ending_lined s t placed None ahead same before after tree built lined = lined_by t placed built after (same ∙ ahead)
ending_lined s t placed (Some seg) ahead same before after tree built lined =
    lined_same s t placed (ahead_line s t seg ahead tree)
    (ahead_last t.ended t.ahead seg t.queue (same ∙ ahead) after.ahead ∙ sym (ahead_last s.ended s.ahead seg s.queue ahead before.ahead)) lined

pub ending_follows : (s t : SessionState) (given : List ℕ) (placed : List Piece) → IsSession s → IsSession t → IsEnding s t →
    Follows s given placed → Follows t given placed
ending_follows s t given placed before after is follows =
    let same : begun t.ahead t.queue ≡ begun s.ahead s.queue =
    ap (λ (u : SessionState). begun u.ahead t.queue) is.others ∙ ap (begun s.ahead) is.queue ∙ begun_stays s.ahead s.queue _ before.ahead in
    let pushed = ap (λ (ss : List (List ℕ)). data_in placed ++ ss) same in
    let built = ending_built s t placed is.tree same follows.built in
    record {
      cut = subst (λ (ss : List (List ℕ)). IsCutInto t.ended given ss t.hand)
          (ap (λ (ss : List (List ℕ)). ss ++ rest_of t) (sym pushed) ∙ pushed_and_rest t placed)
          (is.cut given (pushed_of s placed)
          (subst (λ (ss : List (List ℕ)). IsCutInto s.ended given ss s.hand) (sym (pushed_and_rest s placed)) follows.cut));
      built = built;
      lined = ending_lined s t placed s.ahead refl (ap (λ (u : SessionState). u.ahead) is.others) before after is.tree built follows.lined;
      counted = ap (λ (u : SessionState). u.count) is.others ∙ follows.counted;
    }

-- ---- the first segment of the queue gets its turn

pub not_whole : (top : Option Top) (ended : Bool) (x : List ℕ) (xs : List (List ℕ)) → IsWhole top (is_last ended (x ∷ xs)) → top ≡ None
not_whole None ended x xs whole = refl
not_whole (Some top) true x xs whole = absurd (cc)
not_whole (Some top) false x xs whole = absurd (cc)

advanced_built : (b c : Progress) (ended : Bool) (top : Option Top) (segments queue : List (List ℕ)) (taken : List node.Contents) →
    IsWhole top (is_last ended queue) → BuildsFront queue b c → IsBuilt b top (segments ++ []) taken →
    IsBuilt c top (segments ++ begun (front_of queue) queue) taken
advanced_built b c ended top segments [] taken whole builds is = absurd builds
advanced_built b c ended None segments (x ∷ xs) taken whole builds is =
    subst (λ (cs : List Child). Holds c cs taken)
    (ap (λ (ss : List (List ℕ)). map of_segment ss ++ of_segment x ∷ []) (append-nil segments) ∙ sym (map-append of_segment segments (x ∷ [])))
    (builds.pushed (map of_segment (segments ++ [])) taken is)
advanced_built b c ended (Some top) segments (x ∷ xs) taken whole builds is =
    absurd (let none = not_whole (Some top) ended x xs whole in cc)

none_is_ahead : (ahead : Option KindSegment) (queue : List (List ℕ)) → ahead ≡ None → rest_after ahead queue ≡ queue
none_is_ahead None queue is = refl
none_is_ahead (Some seg) queue is = absurd (cc)

pub advanced_follows : (s t : SessionState) (given : List ℕ) (placed : List Piece) → IsWhole s.top (is_last s.ended (rest_of s)) → IsAdvanced s t →
    Follows s given placed → Follows t given placed
advanced_follows s t given placed whole is follows =
    let ended = ap (λ (u : SessionState). u.ended) is.others in
    let queue = ap (λ (u : SessionState). u.queue) is.others in
    let hand = ap (λ (u : SessionState). u.hand) is.others in
    let top = ap (λ (u : SessionState). u.top) is.others in
    let line = ap (λ (u : SessionState). u.line) is.others in
    let count = ap (λ (u : SessionState). u.count) is.others in
    let before : IsBuilt s.built s.top (data_in placed ++ []) (taken_of s placed) = rw is.none at follows.built in
    record {
      cut = rw (ended, queue, hand) follows.cut;
      built = rw (top, is.ahead, queue, line)
          (advanced_built s.built t.built s.ended s.top (data_in placed) s.queue (taken_of s placed)
          (subst (λ (ss : List (List ℕ)). IsWhole s.top (is_last s.ended ss)) (none_is_ahead s.ahead s.queue is.none) whole) is.builds before);
      lined = rw (ended, queue, line) follows.lined;
      counted = count ∙ follows.counted;
    }

pub closing_follows : (s t : SessionState) (given : List ℕ) (placed : List Piece) → IsClosing s t → Follows s given placed → Follows t given placed
closing_follows s t given placed is follows =
    let ended = ap (λ (u : SessionState). u.ended) is.others in
    let queue = ap (λ (u : SessionState). u.queue) is.others in
    let hand = ap (λ (u : SessionState). u.hand) is.others in
    let ahead = ap (λ (u : SessionState). u.ahead) is.others in
    let line = ap (λ (u : SessionState). u.line) is.others in
    let count = ap (λ (u : SessionState). u.count) is.others in
    record {
      cut = rw (ended, queue, hand) follows.cut;
      built = rw (is.top, ahead, queue, line)
          (built_whole s.built t.built s.top is.root (pushed_of s placed) (taken_of s placed) is.none is.finishes follows.built);
      lined = rw (ended, queue, line) follows.lined;
      counted = count ∙ follows.counted;
    }

-- ---- an item goes to its place

node_segments : (placed : List Piece) (n : node.Contents) → data_in (placed ++ Node n ∷ []) ≡ data_in placed
node_segments placed n = data_append placed (Node n ∷ []) ∙ append-nil (data_in placed)

nodes_and_one : (placed : List Piece) (n : node.Contents) (ns line : List node.Contents) → line ≡ n ∷ ns →
    nodes_in (placed ++ Node n ∷ []) ++ drop 1 line ≡ nodes_in placed ++ line
nodes_and_one placed n ns line is =
    ap (λ (ms : List node.Contents). nodes_in (placed ++ Node n ∷ []) ++ drop 1 ms) is
    ∙ ap (λ (ms : List node.Contents). ms ++ ns) (nodes_append placed (Node n ∷ []))
    ∙ append_assoc (nodes_in placed) (n ∷ []) ns
    ∙ ap (λ (ms : List node.Contents). nodes_in placed ++ ms) (sym is)

pub placed_node_follows : (s : SessionState) (n : node.Contents) (given : List ℕ) (placed : List Piece) → turn_node s ≡ Some n →
    Follows s given placed → Follows (placed_node s) given (placed ++ Node n ∷ [])
placed_node_follows s n given placed is follows =
    let rest = first_and_rest s.line n (turn_is_first s.turn s.line n is) in
    let taken : nodes_in (placed ++ Node n ∷ []) ++ drop 1 s.line ≡ taken_of s placed = nodes_and_one placed n rest.0 s.line rest.1 in
    record {
      cut = rw (node_segments placed n) follows.cut;
      built = rw (node_segments placed n, taken) follows.built;
      lined = rw (node_segments placed n, taken) follows.lined;
      counted = follows.counted;
    }

front_is_first : (placed : List Piece) (queue : List (List ℕ)) → data_in (placed ++ turn_of None queue) ++ drop 1 queue ≡ data_in placed ++ queue
front_is_first placed [] = append-nil (data_in (placed ++ [])) ∙ data_append placed []
front_is_first placed (x ∷ xs) =
    ap (λ (ss : List (List ℕ)). ss ++ xs) (data_append placed (Data x ∷ [])) ∙ append_assoc (data_in placed) (x ∷ []) xs

front_was_ahead : (placed : List Piece) (ahead : Option KindSegment) (queue : List (List ℕ)) → IsSome ahead → IsAhead ahead queue →
    data_in (placed ++ turn_of None queue) ++ [] ≡ data_in placed ++ begun ahead queue
front_was_ahead placed None queue some is = absurd (cc)
front_was_ahead placed (Some seg) [] some is = absurd is
front_was_ahead placed (Some seg) (x ∷ xs) some is = append-nil _ ∙ data_append placed (Data x ∷ [])

front_nodes : (placed : List Piece) (queue : List (List ℕ)) → nodes_in (placed ++ turn_of None queue) ≡ nodes_in placed
front_nodes placed [] = nodes_append placed [] ∙ append-nil (nodes_in placed)
front_nodes placed (x ∷ xs) = nodes_append placed (Data x ∷ []) ∙ append-nil (nodes_in placed)

pub rest_ahead : (ahead : Option KindSegment) (queue : List (List ℕ)) → IsSome ahead → rest_after ahead queue ≡ drop 1 queue
rest_ahead None queue some = absurd (cc)
rest_ahead (Some seg) queue some = refl

pub placed_front_follows : (s : SessionState) (more : ℕ) (given : List ℕ) (placed : List Piece) → IsSome s.ahead → IsAhead s.ahead s.queue →
    IsWhole s.top (is_last s.ended (rest_of s)) → (is_last s.ended (rest_of s) ≡ true → IsSome s.top) →
    Follows s given placed → Follows (placed_front more s) given (placed ++ turn_of None s.queue)
placed_front_follows s more given placed some ahead whole closed follows =
    let taken : nodes_in (placed ++ turn_of None s.queue) ++ (s.line ++ s.built.finished) ≡ taken_of s placed ++ s.built.finished =
    ap (λ (ns : List node.Contents). ns ++ (s.line ++ s.built.finished)) (front_nodes placed s.queue)
    ∙ sym (append_assoc (nodes_in placed) s.line s.built.finished) in
    let pushed = front_was_ahead placed s.ahead s.queue some ahead in
    let built = built_on s.built s.top (pushed_of s placed) (taken_of s placed) follows.built in
    let rest = rest_ahead s.ahead s.queue some in
    record {
      cut = rw (front_is_first placed s.queue) follows.cut;
      built = rw (pushed, taken) built;
      lined = record {
        built = without_nodes s.built;
        top = s.top;
        is = rw (sym (append-nil (data_in (placed ++ turn_of None s.queue))) ∙ pushed, taken) built;
        none = refl;
        whole = subst (λ (ss : List (List ℕ)). IsWhole s.top (is_last s.ended ss)) rest whole;
        closed = λ last. closed (ap (is_last s.ended) rest ∙ last);
      };
      counted = follows.counted;
    }

item_ahead : (n : Option node.Contents) (spelled ahead : Option KindSegment) → n ≡ None → HasItem n spelled ahead → IsSome ahead
item_ahead None spelled None none has = absurd has
item_ahead None spelled (Some seg) none has = refl
item_ahead (Some n) spelled ahead none has = absurd (cc)

item_follows : (more : ℕ) (s : SessionState) (n : Option node.Contents) (given : List ℕ) (placed : List Piece) → turn_node s ≡ n →
    HasItem (turn_node s) s.spelled s.ahead → IsAhead s.ahead s.queue → IsWhole s.top (is_last s.ended (rest_of s)) → IsClosed s →
    Follows s given placed → Follows (placed_item more n s) given (placed ++ turn_of n s.queue)
item_follows more s (Some n) given placed is has ahead whole closed follows = placed_node_follows s n given placed is follows
item_follows more s None given placed is has ahead whole closed follows =
    placed_front_follows s more given placed (item_ahead (turn_node s) s.spelled s.ahead is has) ahead whole (closed is) follows

pub placed_follows : (more : ℕ) (s : SessionState) (given : List ℕ) (placed : List Piece) → HasItem (turn_node s) s.spelled s.ahead → IsAhead s.ahead s.queue →
    IsWhole s.top (is_last s.ended (rest_of s)) → IsClosed s →
    Follows s given placed → Follows (placed_item more (turn_node s) s) given (placed ++ turn s)
placed_follows more s given placed has ahead whole closed follows = item_follows more s (turn_node s) given placed refl has ahead whole closed follows

-- ---- what containers hold is another matter, and whether an item waits

pub held_follows : (s : SessionState) (leaves nodes : Contents) (aside : List Contents) (waits : Bool) (given : List ℕ) (placed : List Piece) →
    Follows s given placed → Follows (record s { leaves = leaves; nodes = nodes; aside = aside; waits = waits }) given placed
held_follows s leaves nodes aside waits given placed follows =
    record { cut = follows.cut; built = follows.built; lined = follows.lined; counted = follows.counted }

pub spelled_follows : (s : SessionState) (spelled : Option KindSegment) (given : List ℕ) (placed : List Piece) →
    Follows s given placed → Follows (record s { spelled = spelled }) given placed
spelled_follows s spelled given placed follows = record { cut = follows.cut; built = follows.built; lined = follows.lined; counted = follows.counted }

pub asked_follows : (s : SessionState) (unseen : ℕ) (given : List ℕ) (placed : List Piece) →
    Follows s given placed → Follows (record s { unseen = unseen }) given placed
asked_follows s unseen given placed follows = record { cut = follows.cut; built = follows.built; lined = follows.lined; counted = follows.counted }

pub turned_follows : (s : SessionState) (turn : Kind) (given : List ℕ) (placed : List Piece) →
    Follows s given placed → Follows (record s { turn = turn }) given placed
turned_follows s turn given placed follows = record { cut = follows.cut; built = follows.built; lined = follows.lined; counted = follows.counted }

pub added_follows : (more : ℕ) (s : SessionState) (kind : Kind) (filled : Contents) (given : List ℕ) (placed : List Piece) → HasItem (turn_node s) s.spelled s.ahead →
    IsAhead s.ahead s.queue → IsWhole s.top (is_last s.ended (rest_of s)) → IsClosed s →
    Follows s given placed → Follows (placed_item more (turn_node s) (with_open kind filled s)) given (placed ++ turn s)
added_follows more s Leaf filled given placed has ahead whole closed follows =
    item_follows more (record s { leaves = filled }) (turn_node s) given placed refl has ahead whole closed
    (record { cut = follows.cut; built = follows.built; lined = follows.lined; counted = follows.counted })
added_follows more s Tree filled given placed has ahead whole closed follows =
    item_follows more (record s { nodes = filled }) (turn_node s) given placed refl has ahead whole closed
    (record { cut = follows.cut; built = follows.built; lined = follows.lined; counted = follows.counted })
