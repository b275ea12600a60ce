-- Each answer leaves a session less to do, and nothing that it does before a step leaves it more.
use Rattle.ingest_session.proofs.Prelude.{◌≡◌, ◌≤◌, ◌<◌, ◌+◌, ◌*◌, ℕ, Bool, true, false, List, [], ◌∷◌, drop, length, Some, IsSome, refl, ap, arith, rules, length-append, option_to_list, MOST_LEVEL, Kind, Leaf, Tree, Contents, KindSegment, Segment, Top, Progress, levels_left, item_kind, offered_in, open_of, puts_aside, with_segment, without_nodes, fits, item_of, BuildsFront, front_of, Settles, SettleStep, Then, Turned, Spelled, Advanced, Closed, PlacedNode, PlacedFront, SetAside, Seal, SealsSome, IsSession, SessionState, HasItem, node_in_turn, rest_after, turn_node, absent_item, added_item, emptied, placed_front, placed_item, placed_node, put_aside, resumed, sealed_by, set_aside, with_open, to_do}
use Rattle.std.proofs.Common.{if◌then◌else◌, length-drop, IfOk, Option, None, Result, Ok, Err}
use Rattle.merkle_file.specs.Node as node
use Rattle.ingest_session.specs.Settling.{Stays}
use Rattle.ingest_session.specs.State.{ends_left}
use Rattle.ingest_session.specs.Work.{seals_left, waits_left}
use Rattle.ingest_session.proofs.Puts.{puts_some}

-- ---- parts

-- a node that has its turn is the first in line
in_line : (kind : Kind) (line : List node.Contents) → IsSome (node_in_turn kind line) → length line ≡ length (drop 1 line) + 1
in_line Leaf line some = absurd (cc)
in_line Tree [] some = absurd (cc)
in_line Tree (n ∷ ns) some = omega arith

ends_alike : (top : Option Top) (b : Progress) → ends_left top (without_nodes b) ≡ ends_left top b
ends_alike None b = refl
ends_alike (Some top) b = refl

some_is_one : {X : Type 0} (o : Option X) → IsSome o → length (option_to_list o) ≡ 1
some_is_one None some = absurd (cc)
some_is_one (Some x) some = refl

others_are_rest : (ahead : Option KindSegment) (queue : List (List ℕ)) → length (drop 1 queue) ≤ length (rest_after ahead queue)
others_are_rest None [] = search rules
others_are_rest None (x ∷ xs) = search rules
others_are_rest (Some seg) queue = search rules

seals_are_few : (segments : List Segment) → seals_left segments ≤ 1
seals_are_few [] = search rules
seals_are_few (s ∷ ss) = search rules

one_seal : (segments : List Segment) → 1 ≤ length segments → seals_left segments ≡ 1
one_seal [] some = absurd (omega arith)
one_seal (s ∷ ss) some = refl

-- ---- a node, or the first of the queue, is in its place

node_is_less : (s : SessionState) → IsSome (turn_node s) → to_do (placed_node s) + 4 ≤ to_do s
node_is_less s some = let one = in_line s.turn s.line some in omega (arith, one)

front_is_no_more : (s : SessionState) (more : ℕ) → to_do (placed_front more s) ≤ to_do s
front_is_no_more s more =
    let rest = others_are_rest s.ahead s.queue in
    let ends = ends_alike s.top s.built in
    let all = length-append s.line s.built.finished in omega (arith, rest, ends, all)

pub front_is_less : (s : SessionState) (more : ℕ) → IsSome s.ahead → to_do (placed_front more s) + 4 ≤ to_do s
front_is_less s more some =
    let one = some_is_one s.ahead some in
    let rest = others_are_rest s.ahead s.queue in
    let ends = ends_alike s.top s.built in
    let all = length-append s.line s.built.finished in omega (arith, one, rest, ends, all)

-- ---- before a step

-- an end right after a push finishes one node of each level, with those that the push finishes
advanced_ends : (top : Option Top) (old next : Progress) → length next.finished + levels_left next.rows ≤ length old.finished + MOST_LEVEL →
    length next.finished + ends_left top next ≤ length old.finished + ends_left top old + MOST_LEVEL
advanced_ends None old next few = omega (arith, few)
advanced_ends (Some top) old next few = omega (arith, few)

advanced_front : (ahead new : Option KindSegment) (queue : List (List ℕ)) (top : Option Top) (old next : Progress) → ahead ≡ None → new ≡ front_of queue →
    BuildsFront queue old next →
    64 * length (rest_after new queue) + 4 * (length (option_to_list new) + length next.finished + ends_left top next)
    ≤ 64 * length (rest_after ahead queue) + 4 * (length (option_to_list ahead) + length old.finished + ends_left top old)
advanced_front (Some seg) new queue top old next none is builds = absurd (cc)
advanced_front None new [] top old next none is builds = absurd builds
advanced_front None new (x ∷ xs) top old next none is builds = let few = advanced_ends top old next builds.few in rw is (omega (arith, few))

advanced_is_less : (s : SessionState) (new : Option KindSegment) (b : Progress) → s.ahead ≡ None → new ≡ front_of s.queue →
    BuildsFront s.queue s.built b → to_do (record s { ahead = new; built = b }) ≤ to_do s
advanced_is_less s new b none is builds =
    let front = advanced_front s.ahead new s.queue s.top s.built b none is builds in omega (arith, front)

closed_is_less : (s : SessionState) (top : Top) (b : Progress) → s.top ≡ None → length b.finished ≤ length s.built.finished + levels_left s.built.rows →
    to_do (record s { built = b; top = Some top }) ≤ to_do s
closed_is_less s top b none few = let ending = ap (λ (o : Option Top). ends_left o s.built) none in omega (arith, ending, few)

-- ---- an answer to a claim

item_is_ahead : (spelled ahead : Option KindSegment) → HasItem None spelled ahead → IsSome ahead
item_is_ahead spelled None has = absurd has
item_is_ahead spelled (Some seg) has = refl

some_node : (o : Option node.Contents) (n : node.Contents) → o ≡ Some n → IsSome o
some_node None n is = absurd (cc)
some_node (Some m) n is = refl

pub placed_is_less : (more : ℕ) (s : SessionState) (n : Option node.Contents) → turn_node s ≡ n → HasItem n s.spelled s.ahead →
    to_do (placed_item more n s) + 4 ≤ to_do s
placed_is_less more s (Some n) same has = node_is_less s (some_node (turn_node s) n same)
placed_is_less more s None same has = front_is_less s more (item_is_ahead s.spelled s.ahead has)

-- a segment more in a container may need a seal more, and that it is set aside before
filled_is_little : (s : SessionState) (kind : Kind) (filled : Contents) → to_do (with_open kind filled s) ≤ to_do s + 2
filled_is_little s Leaf filled = let one = seals_are_few filled.segments in omega (arith, one)
filled_is_little s Tree filled = let one = seals_are_few filled.segments in omega (arith, one)

-- the item is the same
filled_has_item : (s : SessionState) (kind : Kind) (filled : Contents) → HasItem (turn_node s) s.spelled s.ahead →
    (turn_node (with_open kind filled s) ≡ turn_node s) × HasItem (turn_node s) (with_open kind filled s).spelled (with_open kind filled s).ahead
filled_has_item s Leaf filled has = (refl, has)
filled_has_item s Tree filled has = (refl, has)

absent_by_room : (more : ℕ) (s : SessionState) (room : Bool) → s.waits ≡ false → HasItem (turn_node s) s.spelled s.ahead →
    to_do (if room then placed_item more (turn_node s) (added_item s) else record s { waits = true }) < to_do s
absent_by_room more s true ongoing has =
    let kind = item_kind (turn_node s) in
    let filled = with_segment (open_of s kind) (item_of (turn_node s) s.queue) in
    let here = filled_has_item s kind filled has in
    let placed = placed_is_less more (added_item s) (turn_node s) here.0 here.1 in
    let little = filled_is_little s kind filled in omega (arith, placed, little)
absent_by_room more s false ongoing has = let waits = ap waits_left ongoing in omega (arith, waits)

pub absent_is_less : (more : ℕ) (s : SessionState) → s.waits ≡ false → HasItem (turn_node s) s.spelled s.ahead → to_do (absent_item more s) < to_do s
absent_is_less more s ongoing has = absent_by_room more s (fits s) ongoing has

-- ---- an item that waited

resumed_by : (more : ℕ) (s : SessionState) (waits : Bool) → s.waits ≡ waits → (s.waits ≡ true → HasItem (turn_node s) s.spelled s.ahead) →
    to_do (if waits then absent_item more (record s { waits = false }) else s) ≤ to_do s
resumed_by more s true on has =
    let waited = ap waits_left on in
    let added = absent_is_less more (record s { waits = false }) refl (has on) in omega (arith, waited, added)
resumed_by more s false off has = omega arith

resumed_is_no_more : (more : ℕ) (s : SessionState) → (s.waits ≡ true → HasItem (turn_node s) s.spelled s.ahead) → to_do (resumed more s) ≤ to_do s
resumed_is_no_more more s has = resumed_by more s s.waits refl has

-- ---- a container that is set aside

put_is_less : (s : SessionState) → 1 ≤ length s.leaves.segments → to_do (put_aside s) < to_do s
put_is_less s some =
    let one = one_seal s.leaves.segments some in
    let all = length-append s.aside (s.leaves ∷ []) in omega (arith, one, all)

pub aside_is_less : (s : SessionState) → IsSession s → puts_aside s ≡ true → to_do (set_aside s) < to_do s
aside_is_less s sound puts =
    let less = put_is_less s (puts_some s puts) in
    let on = resumed_is_no_more 1 (put_aside s) (λ waits. (sound.waits waits).0) in omega (arith, less, on)

-- ---- an answer to a seal

left_is_less : (s : SessionState) (count : ℕ) → 1 ≤ count → count ≤ length s.aside → to_do (record s { aside = drop count s.aside }) < to_do s
left_is_less s count some few = let left = length-drop count s.aside in omega (arith, left)

emptied_is_less : (s : SessionState) → 1 ≤ length s.nodes.segments → to_do (emptied s) < to_do s
emptied_is_less s some = let one = one_seal s.nodes.segments some in omega (arith, one)

pub sealed_is_less : (s : SessionState) (kind : Kind) (count : ℕ) → (s.waits ≡ true → HasItem (turn_node s) s.spelled s.ahead) →
    1 ≤ count → count ≤ length (offered_in s kind) → SealsSome (Seal kind) s → to_do (sealed_by count (Seal kind) s) < to_do s
sealed_is_less s Leaf count has some few all = left_is_less s count some few
sealed_is_less s Tree count has some few all =
    let less = emptied_is_less s all.0 in
    let on = resumed_is_no_more 0 (emptied s) has in omega (arith, less, on)

-- ---- all that is done before a step

step_is_no_more : (s t : SessionState) → SettleStep s t → to_do t ≤ to_do s
step_is_no_more s t (Turned old new off is) = rw is (omega arith)
step_is_no_more s t (Spelled old new is) = rw is (omega arith)
step_is_no_more s t (Advanced old new is) =
    rw is.others (advanced_is_less old new.ahead new.built is.none is.ahead is.builds)
step_is_no_more s t (Closed old new is) =
    rw (is.others, is.top) (closed_is_less old is.root new.built is.none is.finishes.few)
step_is_no_more s t (PlacedNode old new none right some is) = rw is (let less = node_is_less old some in omega (arith, less))
step_is_no_more s t (PlacedFront old new none right empty is) = rw is (front_is_no_more old 1)
step_is_no_more s t (SetAside old new sound some right puts is) =
    rw is (let less = aside_is_less old sound puts in omega (arith, less))

pub settling_is_no_more : (s t : SessionState) → Settles s t → to_do t ≤ to_do s
settling_is_no_more s t (Stays r) = omega arith
settling_is_no_more s t (Then first second third settles is step) =
    let before = settling_is_no_more first second settles in
    let now = step_is_no_more second third step in omega (arith, before, now)

-- and where less is left to do after it, less is left than before
pub less_after : {E : Type 0} (result : Result Bool E) (s t u : SessionState) → Settles s t → IfOk result (λ passed. passed ≡ true → to_do u < to_do t) →
    IfOk result (λ passed. passed ≡ true → to_do u < to_do s)
less_after (Ok passed) s t u settles less = λ so. (let before = settling_is_no_more s t settles in let now = less so in omega (arith, before, now))
less_after (Err e) s t u settles less = tt
