-- There are at most two steps for each item.
use Rattle.ingest_session.proofs.Prelude.{◌≡◌, ◌≤◌, ℕ, ◌+◌, ◌*◌, Bool, true, false, List, [], ◌∷◌, Some, length, refl, ap, subst, arith, rules, length-append, Kind, Leaf, Tree, Contents, Segment, Answer, Held, Absent, Sealed, Due, Seal, HasTurn, drop, due_in, item_kind, offered_in, open_of, puts_aside, IsSession, with_segment, fits, item_of, SettleStep, Turned, Spelled, Advanced, Closed, PlacedNode, PlacedFront, SetAside, SessionState, turn_node, IsAnswerFor, IsSettled, absent_item, added_item, emptied, placed_item, put_aside, sealed_by, set_aside, told_by, with_open, History, HasHistory, Pushed, Ended, Moved, Asked, Told, SealsSome, moved, placed_after_seal, placed_by, placed_if, placed_resumed, turn_of}
use Rattle.std.proofs.Common.{if◌then◌else◌, length-drop, Option, None}
use Rattle.merkle_file.specs.Node as node
use Rattle.ingest_session.specs.Facts.{StepsAreFew, one_if}
use Rattle.ingest_session.specs.History.{Begun}
use Rattle.ingest_session.proofs.Puts.{puts_some}
use Rattle.ingest_session.proofs.Sealing.{claims_off}
use Rattle.ingest_session.proofs.Waiting.{claimed_has_turn, session_of, waiting_has_turn}

-- one, where a container isn't empty
some_in : List Segment → ℕ
some_in [] = 0
some_in (s ∷ ss) = 1

filled_in : SessionState → ℕ
filled_in s = some_in s.leaves.segments + length s.aside + some_in s.nodes.segments

at_most_one : (ss : List Segment) → some_in ss ≤ 1
unfolding some_in
at_most_one [] = search rules
at_most_one (s ∷ ss) = search rules

one_there : (ss : List Segment) → 1 ≤ length ss → some_in ss ≡ 1
unfolding some_in
one_there [] some = absurd (omega (arith, some))
one_there (s ∷ ss) some = refl

-- an item is put in its place: the open containers and what waits stay
filled_placed : (more : ℕ) (n : Option node.Contents) (s : SessionState) → filled_in (placed_item more n s) ≡ filled_in s
unfolding filled_in
filled_placed more None s = refl
filled_placed more (Some n) s = refl

filled_with : (s : SessionState) (kind : Kind) (c : Contents) → filled_in (with_open kind c s) ≤ filled_in s + 1
unfolding filled_in
filled_with s Leaf c = let most = at_most_one c.segments in omega (arith, most)
filled_with s Tree c = let most = at_most_one c.segments in omega (arith, most)

filled_emptied : (s : SessionState) → 1 ≤ length s.nodes.segments → filled_in (emptied s) + 1 ≡ filled_in s
unfolding filled_in some_in
filled_emptied s some = let one = one_there s.nodes.segments some in omega (arith, one)

filled_put : (s : SessionState) → 1 ≤ length s.leaves.segments → filled_in (put_aside s) ≡ filled_in s
unfolding filled_in some_in
filled_put s some =
    let one = one_there s.leaves.segments some in
    let all = length-append s.aside (s.leaves ∷ []) in omega (arith, one, all)

filled_left : (s : SessionState) (count : ℕ) → 1 ≤ count → count ≤ length s.aside → filled_in (record s { aside = drop count s.aside }) + 1 ≤ filled_in s
unfolding filled_in
filled_left s count some few = let left = length-drop count s.aside in omega (arith, left)

filled_waiting : (s : SessionState) → filled_in (record s { waits = true }) ≡ filled_in s
unfolding filled_in
filled_waiting s = refl

after_absent : ℕ → SessionState → Bool → SessionState
after_absent more s fit = if fit then placed_item more (turn_node s) (added_item s) else record s { waits = true }

-- an item whose turn it is, is one piece
turn_is_one : (n : Option node.Contents) (queue : List (List ℕ)) → HasTurn n queue → length (turn_of n queue) ≡ 1
turn_is_one (Some n) queue has = refl
turn_is_one None [] has = absurd has
turn_is_one None (x ∷ xs) has = refl

absent_few : (more : ℕ) (s : SessionState) (fit : Bool) → HasTurn (turn_node s) s.queue → s.waits ≡ false →
    filled_in (after_absent more s fit) + 1 ≤ filled_in s + 2 * length (placed_if fit s) + one_if (after_absent more s fit).waits
unfolding after_absent
absent_few more s true has off =
    let one = turn_is_one (turn_node s) s.queue has in
    let same = filled_placed more (turn_node s) (added_item s) in
    let one_more = filled_with s (item_kind (turn_node s)) (with_segment (open_of s (item_kind (turn_node s))) (item_of (turn_node s) s.queue)) in
    omega (arith, one, same, one_more)
absent_few more s false has off = let same = filled_waiting s in omega (arith, same)

pub placed_unwaited : (s : SessionState) (fit : Bool) → placed_if fit (record s { waits = false }) ≡ placed_if fit s
placed_unwaited s true = refl
placed_unwaited s false = refl

filled_unwaited : (s : SessionState) → filled_in (record s { waits = false }) ≡ filled_in s
unfolding filled_in
filled_unwaited s = refl

resumed_few : (more : ℕ) (s : SessionState) (waits : Bool) → s.waits ≡ waits → (s.waits ≡ true → HasTurn (turn_node s) s.queue) →
    let t : SessionState = if waits then absent_item more (record s { waits = false }) else s in
    filled_in t + one_if waits ≤ filled_in s + 2 * length (if waits then placed_if (fits (record s { waits = false })) s else []) + one_if t.waits
unfolding after_absent
resumed_few more s true on has =
    let few = absent_few more (record s { waits = false }) (fits (record s { waits = false })) (has on) refl in
    let same = ap length (placed_unwaited s (fits (record s { waits = false }))) in
    let filled = filled_unwaited s in
    omega (arith, few, same, filled)
resumed_few more s false off has = omega arith

sealed_few : (s : SessionState) (kind : Kind) (count : ℕ) → (s.waits ≡ true → HasTurn (turn_node s) s.queue) → 1 ≤ count → count ≤ length (offered_in s kind) →
    SealsSome (Seal kind) s →
    filled_in (sealed_by count (Seal kind) s) + 1 + one_if s.waits
    ≤ filled_in s + 2 * length (placed_after_seal (Seal kind) s) + one_if (sealed_by count (Seal kind) s).waits
sealed_few s Leaf count has some few all = let left = filled_left s count some few in omega (arith, left)
sealed_few s Tree count has some few all =
    let gone = filled_emptied s all.0 in
    let on = resumed_few 0 (emptied s) s.waits refl has in omega (arith, gone, on)

told_few : (answer : Answer) (s : SessionState) → IsSession s → IsSettled s → IsAnswerFor answer s → SealsSome (due_in s) s →
    filled_in (told_by answer s) + 1 + one_if s.waits ≤ filled_in s + 2 * length (placed_by answer s) + one_if (told_by answer s).waits
unfolding after_absent
told_few Held s session settled is some =
    let one = turn_is_one (turn_node s) s.queue (claimed_has_turn s settled is) in
    let same = filled_placed 0 (turn_node s) s in
    let off = ap one_if (claims_off s is) in omega (arith, one, same, off)
told_few Absent s session settled is some =
    let few = absent_few 0 s (fits s) (claimed_has_turn s settled is) (claims_off s is) in
    let off = ap one_if (claims_off s is) in omega (arith, few, off)
told_few (Sealed id count) s session settled is some =
    rw is.1 (sealed_few s is.0 count (λ on. waiting_has_turn s session on) is.2 is.3 (subst (λ (due : Due). SealsSome due s) is.1 some))
told_few other s session settled is some = absurd is

aside_few : (s : SessionState) → IsSession s → puts_aside s ≡ true →
    filled_in (set_aside s) + one_if s.waits ≤ filled_in s + 2 * length (placed_resumed (put_aside s)) + one_if (set_aside s).waits
aside_few s sound puts =
    let same = filled_put s (puts_some s puts) in
    let on = resumed_few 1 (put_aside s) s.waits refl (λ waits. waiting_has_turn s sound waits) in omega (arith, same, on)

moved_few : (s t : SessionState) (step : SettleStep s t) → filled_in t + one_if s.waits ≤ filled_in s + 2 * length (moved step) + one_if t.waits
unfolding filled_in
moved_few s t (Turned _ _ off is) = rw is (search rules)
moved_few s t (Spelled _ _ is) = rw is (search rules)
moved_few s t (Advanced _ _ is) = rw is.others (search rules)
moved_few s t (Closed _ _ is) = rw is.others (search rules)
moved_few s t (PlacedNode _ _ none right some is) = rw is (search rules)
moved_few s t (PlacedFront _ _ none right empty is) = rw is (search rules)
moved_few s t (SetAside _ _ sound some right puts is) = rw is (aside_few s sound puts)

all_few : (s : SessionState) (h : History) → HasHistory s h → length h.answers + filled_in s ≤ 2 * length h.placed + one_if s.waits
unfolding filled_in some_in
all_few s _ (Begun _ _ is) = rw (is.leaves, is.nodes, is.aside, is.waits) (search rules)
all_few t _ (Pushed s _ h bytes has _ is) = rw is.others (all_few s h has)
all_few t h (Ended s _ _ has _ is) = rw is.others (all_few s h has)
all_few t h (Asked s _ _ has _ is) = rw is (all_few s h has)
all_few t _ (Moved s _ h has _ step) =
    let before = all_few s h has in
    let more = length-append h.placed (moved step) in
    let step_is = moved_few s t step in omega (arith, before, more, step_is)
all_few _ _ (Told s answer h has _ settled _ is some) =
    let before = all_few s h has in
    let more = length-append h.placed (placed_by answer s) in
    let one = length-append h.answers (answer ∷ []) in
    let few = told_few answer s (session_of s h has) settled is some in omega (arith, before, more, one, few)

pub steps_are_few : StepsAreFew
steps_are_few s h has = let few = all_few s h has in omega (arith, few)
