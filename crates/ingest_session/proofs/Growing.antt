-- However a file goes on, the pieces in their place are the first of it.
use Rattle.ingest_session.proofs.Prelude.{◌≡◌, ◌≤◌, ◌∙◌, ℕ, zero, suc, Bool, true, false, List, [], ◌∷◌, ◌++◌, Some, IsSome, length, map, take, refl, sym, ap, subst, arith, append_assoc, append-nil, length-append, take_all, AllByRecursion, option_to_list, length-map, map-append, MOST_FILE, Kind, Leaf, Tree, Hand, segments_of, Child, Top, ByCount, room_of, Progress, IsNode, HasCome, itself, nodes_of, of_segment, tree_of, nodes_come_in_order, segments_alike, Piece, Data, Node, IsPieceOf, nodes_of_file, MayFollow, data_in, nodes_in, first_of, turn, turn_of, IsSession, SessionState, IsWhole, is_last, node_in_turn, rest_of, turn_node, IsCutInto}
use Rattle.std.proofs.Common.{Option, None, length-take}
use Rattle.segmenter.proofs.LengthLemmas.{are_few, have_right_lengths, lengths_add_up}
use Rattle.merkle_file.specs.Node as node
use Rattle.merkle_file.proofs.ChildrenFirst as first
use Rattle.merkle_file.proofs.RootLaws.{nodes_are_right}
use Rattle.ingest_session.proofs.Following.{Follows, IsBuilt, begun, pushed_and_rest, pushed_of, taken_of}
use Rattle.ingest_session.proofs.InLine.{first_and_rest}
use Rattle.ingest_session.proofs.Members.{IsAmong, IsIn, all_among, in_first, in_left, in_none, in_one, in_right, one_of}

-- ---- the segments

cut_goes_on : (ended : Bool) (given more : List ℕ) (segments : List (List ℕ)) (hand : Hand) → (ended ≡ true → more ≡ []) →
    IsCutInto ended given segments hand →
    (rest : List (List ℕ)) × (segments_of (given ++ more) ≡ segments ++ rest) × (ended ≡ true → rest ≡ [])
cut_goes_on false given more segments hand follow cut = (segments_of (hand.bytes ++ more), cut.first more, λ on. absurd (cc))
cut_goes_on true given more segments hand follow cut =
    ([], ap segments_of (ap (λ (bytes : List ℕ). given ++ bytes) (follow refl) ∙ append-nil given) ∙ cut.0 ∙ sym (append-nil segments), λ on. refl)

-- ---- the first of a list

take_none : {X : Type 0} (n : ℕ) → take {A = X} n [] ≡ []
take_none zero = refl
take_none (suc n) = refl

take_over : {X : Type 0} (front back : List X) (n : ℕ) → length front ≤ n →
    (later : List X) × (take n (front ++ back) ≡ front ++ later) × (back ≡ [] → later ≡ [])
take_over {X = X} [] back n few = (take n back, refl, λ none. ap (take n) none ∙ take_none n)
take_over {X = X} (x ∷ xs) back zero few = absurd (omega (arith, few))
take_over {X = X} (x ∷ xs) back (suc n) few =
    let on = take_over xs back n (omega (arith, few)) in (on.0, ap (λ (ys : List X). x ∷ ys) on.1, on.2)

few_taken : {X : Type 0} (n : ℕ) (xs : List X) → length (take n xs) ≤ n
few_taken n xs = let long = length-take n xs in omega (arith, long)

-- ---- the nodes

turn_in_line : (kind : Kind) (line : List node.Contents) (n : node.Contents) → IsIn n (option_to_list (node_in_turn kind line)) → IsIn n line
turn_in_line Leaf line n there = absurd (in_none n there)
turn_in_line Tree [] n there = absurd (in_none n there)
turn_in_line Tree (m ∷ ms) n there = subst (λ (k : node.Contents). IsIn k (m ∷ ms)) (sym (in_one m n there)) (in_first m ms)

tree_goes_on : (b : Progress) (top : Option Top) (pushed later : List (List ℕ)) (taken : List node.Contents) → IsBuilt b top pushed taken →
    (IsSome top → later ≡ []) → length (pushed ++ later) ≤ room_of ByCount →
    (rest : List node.Contents) × (nodes_of of_segment (tree_of ByCount of_segment (pushed ++ later)) ≡ (taken ++ b.finished) ++ rest)
tree_goes_on b None pushed later taken is none few =
    let parts = map-append of_segment pushed later in
    let long = length-map (pushed ++ later) of_segment in
    let same = ap length parts in
    let on = nodes_come_in_order b (map of_segment pushed) (map of_segment later) taken is (omega (arith, few, long, same)) in
    (on.0, sym (segments_alike ByCount (pushed ++ later)).1 ∙ ap (λ (cs : List Child). nodes_of itself (tree_of ByCount itself cs)) parts ∙ on.1)
tree_goes_on b (Some top) pushed later taken is none few = (
  [],
  ap (λ (ss : List (List ℕ)). nodes_of of_segment (tree_of ByCount of_segment ss)) (ap (λ (ss : List (List ℕ)). pushed ++ ss) (none refl) ∙ append-nil pushed)
      ∙ sym (segments_alike ByCount pushed).1 ∙ sym is.1 ∙ sym (append-nil _),
)

pub all_are_pushed : (top : Option Top) (ended : Bool) (rest : List (List ℕ)) → IsWhole top (is_last ended rest) → IsSome top →
    (ended ≡ true) × (rest ≡ [])
all_are_pushed None ended rest whole some = absurd (cc)
all_are_pushed (Some top) true [] whole some = (refl, refl)
all_are_pushed (Some top) true (x ∷ xs) whole some = absurd (cc)
all_are_pushed (Some top) false rest whole some = absurd (cc)

module _ (s : SessionState) (given : List ℕ) (placed : List Piece) (is : IsSession s) (follows : Follows s given placed) where
  pub segments_go_on : (more : List ℕ) → MayFollow more s →
      (rest : List (List ℕ)) × (segments_of (given ++ more) ≡ (data_in placed ++ s.queue) ++ rest) × (s.ended ≡ true → rest ≡ [])
  segments_go_on more follow = cut_goes_on s.ended given more (data_in placed ++ s.queue) s.hand follow follows.cut

  few_bytes : length (given ++ []) ≤ MOST_FILE
  few_bytes = let long = ap length (append-nil given) in let count = follows.counted in let few = is.few in omega (arith, long, count, few)

  pub few_pushed : length (pushed_of s placed) ≤ room_of ByCount
  few_pushed =
      let on = segments_go_on [] (λ ended. refl) in
      let few = are_few (given ++ []) few_bytes in
      let long = ap length on.1 ∙ length-append (data_in placed ++ s.queue) on.0 in
      let parts = ap length (pushed_and_rest s placed) in
      let two = length-append (pushed_of s placed) (rest_of s) in omega (arith, few, long, parts, two)

  pub nodes_go_on : (more : List ℕ) → MayFollow more s →
      (rest : List node.Contents) × (nodes_of_file (given ++ more) ≡ (taken_of s placed ++ s.built.finished) ++ rest)
  nodes_go_on more follow =
      let on = segments_go_on more follow in
      let pushed = pushed_of s placed in
      let back : List (List ℕ) = rest_of s ++ on.0 in
      let parts : segments_of (given ++ more) ≡ pushed ++ back =
      on.1 ∙ ap (λ (ss : List (List ℕ)). ss ++ on.0) (sym (pushed_and_rest s placed)) ∙ append_assoc pushed (rest_of s) on.0 in
      let over = take_over pushed back (room_of ByCount) few_pushed in
      let whole : IsSome s.top → over.0 ≡ [] = λ some.
      (let all = all_are_pushed s.top s.ended (rest_of s) is.whole some in
      over.2 (ap (λ (ss : List (List ℕ)). ss ++ on.0) all.1 ∙ on.2 all.0)) in
      let few = few_taken (room_of ByCount) (pushed ++ back) in
      let tree = tree_goes_on s.built s.top pushed over.0 (taken_of s placed) follows.built whole
      (subst (λ (ss : List (List ℕ)). length ss ≤ room_of ByCount) over.1 few) in (
        tree.0,
        ap (λ (ss : List (List ℕ)). nodes_of of_segment (tree_of ByCount of_segment (take (room_of ByCount) ss))) parts
            ∙ ap (λ (ss : List (List ℕ)). nodes_of of_segment (tree_of ByCount of_segment ss)) over.1 ∙ tree.1,
      )

  -- ---- pieces

  segment_of_file : (more : List ℕ) → MayFollow more s → (bytes : List ℕ) → IsIn bytes (data_in placed ++ s.queue) → IsPieceOf (given ++ more) (Data bytes)
  segment_of_file more follow bytes there =
      let on = segments_go_on more follow in
      subst (IsIn bytes) (sym on.1) (in_left (data_in placed ++ s.queue) on.0 bytes there)

  node_of_file : (more : List ℕ) → MayFollow more s → (n : node.Contents) → IsIn n (taken_of s placed) → IsPieceOf (given ++ more) (Node n)
  node_of_file more follow n there =
      let on = nodes_go_on more follow in
      subst (IsIn n) (sym on.1) (in_left (taken_of s placed ++ s.built.finished) on.0 n (in_left (taken_of s placed) s.built.finished n there))

  pub placed_are_pieces : (more : List ℕ) → MayFollow more s → (p : Piece) → IsIn p placed → IsPieceOf (given ++ more) p
  placed_are_pieces more follow p there = among_is p (all_among placed there.0 p there.1)
    where
      among_is : (q : Piece) → IsAmong (data_in placed) (nodes_in placed) q → IsPieceOf (given ++ more) q
      among_is (Data bytes) there = segment_of_file more follow bytes (in_left (data_in placed) s.queue bytes there)
      among_is (Node n) there = node_of_file more follow n (in_left (nodes_in placed) s.line n there)

  pub turns_are_pieces : (more : List ℕ) → MayFollow more s → AllByRecursion (IsPieceOf (given ++ more)) (turn s)
  turns_are_pieces more follow =
      turn_of_file (turn_node s) s.queue
      (λ bytes there. segment_of_file more follow bytes (in_right (data_in placed) s.queue bytes there))
      (λ n there. node_of_file more follow n (in_right (nodes_in placed) s.line n (turn_in_line s.turn s.line n there)))
    where
      turn_of_file : (o : Option node.Contents) (queue : List (List ℕ)) →
          ((bytes : List ℕ) → IsIn bytes queue → IsPieceOf (given ++ more) (Data bytes)) →
          ((n : node.Contents) → IsIn n (option_to_list o) → IsPieceOf (given ++ more) (Node n)) →
          AllByRecursion (IsPieceOf (given ++ more)) (turn_of o queue)
      turn_of_file (Some n) queue segments nodes = (nodes n (0, refl), tt)
      turn_of_file None [] segments nodes = tt
      turn_of_file None (x ∷ xs) segments nodes = (segments x (0, refl), tt)

  -- ---- nodes

  -- those that were finished keep the rules of nodes
  pub nodes_right : (n : node.Contents) → IsIn n (taken_of s placed ++ s.built.finished) → IsNode n
  nodes_right n there =
      let on = nodes_go_on [] (λ ended. refl) in
      let file = segments_of (given ++ []) in
      let few = are_few (given ++ []) few_bytes in
      let sum = lengths_add_up (given ++ []) in
      let bytes = few_bytes in
      let right = nodes_are_right ByCount file (record { each = have_right_lengths (given ++ []); most = omega (arith, sum, bytes); few = few }) in
      let same : nodes_of_file (given ++ []) ≡ nodes_of of_segment (tree_of ByCount of_segment file) =
      ap (λ (ss : List (List ℕ)). nodes_of of_segment (tree_of ByCount of_segment ss)) (take_all (room_of ByCount) file few) in
      one_of IsNode (nodes_of of_segment (tree_of ByCount of_segment file)) n right
      (subst (IsIn n) (sym on.1 ∙ same) (in_left (taken_of s placed ++ s.built.finished) on.0 n there))

  -- Of the first node in line each child is in its place.
  pub children_are_placed : (n : node.Contents) → first_of s.line ≡ Some n →
      AllByRecursion (HasCome (map of_segment (data_in placed)) (nodes_in placed) n.level) n.children
  children_are_placed n first_is =
      let lined = follows.lined in
      let rest = first_and_rest s.line n first_is in
      let long = length-append (data_in placed) (begun s.ahead s.queue) in
      let whole = length-append (data_in placed) [] in
      let few = few_pushed in
      let tree = tree_goes_on lined.built lined.top (data_in placed) [] (taken_of s placed) lined.is (λ some. refl) (omega (arith, long, whole, few)) in
      let nodes : nodes_of itself (tree_of ByCount itself (map of_segment (data_in placed))) ≡ nodes_in placed ++ n ∷ (rest.0 ++ tree.0) =
      (segments_alike ByCount (data_in placed)).1
      ∙ ap (λ (ss : List (List ℕ)). nodes_of of_segment (tree_of ByCount of_segment ss)) (sym (append-nil (data_in placed)))
      ∙ tree.1
      ∙ ap (λ (ns : List node.Contents). (taken_of s placed ++ ns) ++ tree.0) lined.none
      ∙ ap (λ (ns : List node.Contents). ns ++ tree.0) (append-nil (taken_of s placed))
      ∙ append_assoc (nodes_in placed) s.line tree.0
      ∙ ap (λ (ns : List node.Contents). nodes_in placed ++ (ns ++ tree.0)) rest.1 in
      first.children_come_first ByCount (map of_segment (data_in placed)) (nodes_in placed) (rest.0 ++ tree.0) n nodes
