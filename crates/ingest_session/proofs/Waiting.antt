-- Nothing of its kind that is not sealed has the key of an item that waits.
use Rattle.ingest_session.proofs.Prelude.{◌≡◌, ◌∙◌, Bool, true, false, List, [], ◌∷◌, ◌++◌, Some, ℕ, drop, refl, sym, ap, subst, Kind, Leaf, Tree, Contents, KindSegment, has_key, Answer, Held, Absent, Sealed, child_kind, leaf_key, node_key, Due, Claim, Seal, Nothing, HasTurn, due_in, due_node, end_due, gathered, item_due, item_is_there, item_kind, queue_due, History, HasHistory, Pushed, Ended, Moved, Asked, Told, fits, SettleStep, Turned, Spelled, Advanced, Closed, PlacedNode, PlacedFront, SetAside, IsSession, SessionState, HasItem, IsAhead, node_in_turn, turn_node, IsAnswerFor, IsSettled, absent_item, added_item, emptied, placed_item, put_aside, set_aside, told_by}
use Rattle.std.proofs.Common.{if◌then◌else◌, Option, None}
use Rattle.merkle_file.specs.Node as node
use Rattle.ingest_session.specs.Due.{child_is_open, item_is_held, queue_has_key}
use Rattle.ingest_session.specs.Facts.{WaitsForAnother}
use Rattle.ingest_session.specs.History.{Begun}
use Rattle.ingest_session.specs.Told.{sealed_by}
use Rattle.ingest_session.proofs.Gathered.{gathered_put, gathered_same, gathered_waits, key_left}
use Rattle.ingest_session.proofs.Sealing.{claims_off, no_step_off, waits_placed, waits_with}

pub session_of : (s : SessionState) (h : History) → HasHistory s h → IsSession s
session_of s _ (Begun _ is _) = is
session_of t _ (Pushed _ _ _ _ _ is _) = is
session_of t h (Ended _ _ _ _ is _) = is
session_of t _ (Moved _ _ _ _ is _) = is
session_of t h (Asked _ _ _ _ is _) = is
session_of _ _ (Told _ _ _ _ is _ _ _ _) = is

pub on_and_off : {A : Type 0} (b : Bool) → b ≡ true → b ≡ false → A
on_and_off true on off = absurd (cc)
on_and_off false on off = absurd (cc)

-- ---- an item that is claimed

first_unless : (b : Bool) (x y : Due) → ¬ (x ≡ Claim) → ¬ (y ≡ Claim) → ¬ ((if b then x else y) ≡ Claim)
first_unless true x y first second = first
first_unless false x y first second = second

seal_no_claim : (k : Kind) → ¬ (Seal k ≡ Claim)
seal_no_claim k is = cc

no_claim : ¬ (Nothing ≡ Claim)
no_claim is = cc

end_claims_none : (s : SessionState) → ¬ (end_due s ≡ Claim)
end_claims_none s =
    first_unless _ _ _ no_claim (first_unless _ _ _ (seal_no_claim Leaf) (first_unless _ _ _ (seal_no_claim Tree) no_claim))

claims_then : (b : Bool) (k : Kind) (due : Due) → (if b then Seal k else due) ≡ Claim → (b ≡ false) × (due ≡ Claim)
claims_then true k due is = absurd (cc)
claims_then false k due is = (refl, is)

pub item_claimed : (s : SessionState) → due_in s ≡ Claim → item_due s (due_node s) ≡ Claim
item_claimed s due = (claims_then s.waits (item_kind (turn_node s)) (item_due s (due_node s)) due).1

-- the item that is claimed has its turn
pub claimed_turn : (s : SessionState) → IsSettled s → due_in s ≡ Claim → turn_node s ≡ due_node s
claimed_turn s settled due = ap (λ (k : Kind). node_in_turn k s.line) (settled.placed.turn (claims_off s due))

-- no child of it is still to be sealed
pub claimed_children : (s : SessionState) (n : node.Contents) → due_node s ≡ Some n → due_in s ≡ Claim → child_is_open s n ≡ false
claimed_children s n turn due =
    (claims_then (child_is_open s n) (child_kind n.level) _ (ap (item_due s) (sym turn) ∙ item_claimed s due)).0

queue_unheld : (s : SessionState) (queue : List (List ℕ)) → queue_due s queue ≡ Claim → queue_has_key s queue ≡ false
queue_unheld s [] due = refl
queue_unheld s (x ∷ xs) due = (claims_then (has_key (gathered s Leaf) (leaf_key x)) Leaf Claim due).0

item_unheld : (s : SessionState) (n : Option node.Contents) → item_due s n ≡ Claim → item_is_held s n ≡ false
item_unheld s (Some n) due =
    let other = (claims_then (child_is_open s n) (child_kind n.level) _ due).1 in
    (claims_then (has_key s.nodes (node_key n)) Tree Claim other).0
item_unheld s None due = queue_unheld s s.queue due

queue_has_turn : (s : SessionState) (queue : List (List ℕ)) → queue_due s queue ≡ Claim → HasTurn None queue
queue_has_turn s [] due = end_claims_none s due
queue_has_turn s (x ∷ xs) due = tt

item_has_turn : (s : SessionState) (n : Option node.Contents) → item_due s n ≡ Claim → HasTurn n s.queue
item_has_turn s (Some n) due = tt
item_has_turn s None due = queue_has_turn s s.queue due

pub claimed_has_turn : (s : SessionState) → IsSettled s → due_in s ≡ Claim → HasTurn (turn_node s) s.queue
claimed_has_turn s settled due =
    subst (λ (n : Option node.Contents). HasTurn n s.queue) (sym (claimed_turn s settled due)) (item_has_turn s (due_node s) (item_claimed s due))

pub claimed_unheld : (s : SessionState) → IsSettled s → due_in s ≡ Claim → item_is_held s (turn_node s) ≡ false
claimed_unheld s settled due = ap (item_is_held s) (claimed_turn s settled due) ∙ item_unheld s (due_node s) (item_claimed s due)

pub has_turn : (n : Option node.Contents) (spelled ahead : Option KindSegment) (queue : List (List ℕ)) → HasItem n spelled ahead → IsAhead ahead queue →
    HasTurn n queue
has_turn (Some n) spelled ahead queue has is = tt
has_turn None spelled None queue has is = absurd has
has_turn None spelled (Some seg) [] has is = absurd is
has_turn None spelled (Some seg) (x ∷ xs) has is = tt

pub waiting_has_turn : (s : SessionState) → IsSession s → s.waits ≡ true → HasTurn (turn_node s) s.queue
waiting_has_turn s is on = has_turn (turn_node s) s.spelled s.ahead s.queue (is.waits on).0 is.ahead

-- ---- the key of an item

queue_key_same : (s t : SessionState) (queue : List (List ℕ)) → gathered t Leaf ≡ gathered s Leaf → queue_has_key t queue ≡ queue_has_key s queue
queue_key_same s t [] same = refl
queue_key_same s t (x ∷ xs) same = ap (λ (c : Contents). has_key c (leaf_key x)) same

held_same : (s t : SessionState) (n : Option node.Contents) → t.queue ≡ s.queue → ((kind : Kind) → gathered t kind ≡ gathered s kind) →
    item_is_held t n ≡ item_is_held s n
held_same s t (Some n) queue same = ap (λ (c : Contents). has_key c (node_key n)) (same Tree)
held_same s t None queue same = ap (queue_has_key t) queue ∙ queue_key_same s t s.queue (same Leaf)

-- ---- what leaves an item as it is

held_stays : (s t : SessionState) (n : Option node.Contents) (spelled ahead : Option KindSegment) (queue more : List (List ℕ)) →
    HasItem n spelled ahead → IsAhead ahead queue → ((kind : Kind) → gathered t kind ≡ gathered s kind) → s.queue ≡ queue → t.queue ≡ queue ++ more →
    item_is_held t n ≡ item_is_held s n
held_stays s t (Some n) spelled ahead queue more has is same old new = ap (λ (c : Contents). has_key c (node_key n)) (same Tree)
held_stays s t None spelled None queue more has is same old new = absurd has
held_stays s t None spelled (Some seg) [] more has is same old new = absurd is
held_stays s t None spelled (Some seg) (x ∷ xs) more has is same old new =
    ap (queue_has_key t) new ∙ ap (λ (c : Contents). has_key c (leaf_key x)) (same Leaf) ∙ sym (ap (queue_has_key s) old)

stays_unheld : (s t : SessionState) (more : List (List ℕ)) → IsSession s → ((kind : Kind) → gathered t kind ≡ gathered s kind) → t.waits ≡ s.waits →
    t.queue ≡ s.queue ++ more → (s.waits ≡ true → (turn_node t) ≡ (turn_node s)) → (s.waits ≡ true → item_is_held s (turn_node s) ≡ false) →
    t.waits ≡ true → item_is_held t (turn_node t) ≡ false
stays_unheld s t more is same waits queue turn before on =
    let was = sym waits ∙ on in
    ap (item_is_held t) (turn was)
    ∙ held_stays s t (turn_node s) s.spelled s.ahead s.queue more (is.waits was).0 is.ahead same refl queue
    ∙ before was

-- ---- an item that is added, or waits on

added_unheld : (more : ℕ) (s : SessionState) (fit : Bool) → s.waits ≡ false → item_is_held (record s { waits = true }) (turn_node s) ≡ false →
    let t : SessionState = if fit then placed_item more (turn_node s) (added_item s) else record s { waits = true } in
    t.waits ≡ true → item_is_held t (turn_node t) ≡ false
added_unheld more s true off before on = on_and_off _ on (waits_placed more (turn_node s) (added_item s) ∙ waits_with s (item_kind (turn_node s)) _ ∙ off)
added_unheld more s false off before on = before

resumed_unheld : (more : ℕ) (s : SessionState) (waits : Bool) → s.waits ≡ waits →
    (s.waits ≡ true → item_is_held (record s { waits = true }) (turn_node s) ≡ false) →
    let t : SessionState = if waits then absent_item more (record s { waits = false }) else s in
    t.waits ≡ true → item_is_held t (turn_node t) ≡ false
resumed_unheld more s true on before now =
    added_unheld more (record s { waits = false }) (fits (record s { waits = false })) refl (before on) now
resumed_unheld more s false off before now = on_and_off _ now off

-- a container is set aside
aside_unheld : (s : SessionState) → (s.waits ≡ true → item_is_held s (turn_node s) ≡ false) →
    (set_aside s).waits ≡ true → item_is_held (set_aside s) (turn_node (set_aside s)) ≡ false
aside_unheld s before now =
    resumed_unheld 1 (put_aside s) s.waits refl
    (λ on. held_same s (record (put_aside s) { waits = true }) (turn_node s) refl
    (λ kind. gathered_waits (put_aside s) true kind ∙ gathered_put s kind) ∙ before on) now

-- containers were sealed
queue_emptied : (s : SessionState) (queue : List (List ℕ)) → queue_has_key s queue ≡ false → queue_has_key (record (emptied s) { waits = true }) queue ≡ false
queue_emptied s [] before = refl
queue_emptied s (x ∷ xs) before = before

emptied_unheld : (s : SessionState) (n : Option node.Contents) → item_is_held s n ≡ false → item_is_held (record (emptied s) { waits = true }) n ≡ false
emptied_unheld s (Some n) before = refl
emptied_unheld s None before = queue_emptied s s.queue before

queue_left : (count : ℕ) (s : SessionState) (queue : List (List ℕ)) → queue_has_key s queue ≡ false →
    queue_has_key (record s { aside = drop count s.aside }) queue ≡ false
queue_left count s [] before = refl
queue_left count s (x ∷ xs) before = key_left count s (leaf_key x) before

left_unheld : (count : ℕ) (s : SessionState) (n : Option node.Contents) → item_is_held s n ≡ false →
    item_is_held (record s { aside = drop count s.aside }) n ≡ false
left_unheld count s (Some n) before = before
left_unheld count s None before = queue_left count s s.queue before

sealed_unheld : (s : SessionState) (count : ℕ) (kind : Kind) → (s.waits ≡ true → item_is_held s (turn_node s) ≡ false) →
    (sealed_by count (Seal kind) s).waits ≡ true → item_is_held (sealed_by count (Seal kind) s) (turn_node (sealed_by count (Seal kind) s)) ≡ false
sealed_unheld s count Leaf before on = left_unheld count s (turn_node s) (before on)
sealed_unheld s count Tree before now = resumed_unheld 0 (emptied s) s.waits refl (λ on. emptied_unheld s (turn_node s) (before on)) now

told_unheld : (s : SessionState) (answer : Answer) → IsSettled s → IsAnswerFor answer s → (s.waits ≡ true → item_is_held s (turn_node s) ≡ false) →
    (told_by answer s).waits ≡ true → item_is_held (told_by answer s) (turn_node (told_by answer s)) ≡ false
told_unheld s Held settled is before on = on_and_off _ on (waits_placed 0 (turn_node s) s ∙ claims_off s is)
told_unheld s Absent settled is before on = added_unheld 0 s (fits s) (claims_off s is) (claimed_unheld s settled is) on
told_unheld s (Sealed id count) settled is before on =
    (subst (λ (due : Due). (sealed_by count due s).waits ≡ true → item_is_held (sealed_by count due s) (turn_node (sealed_by count due s)) ≡ false)
    (sym is.1) (sealed_unheld s count is.0 before)) on
told_unheld s other settled is before on = absurd is

step_unheld : (s t : SessionState) → SettleStep s t → (s.waits ≡ true → item_is_held s (turn_node s) ≡ false) → t.waits ≡ true →
    item_is_held t (turn_node t) ≡ false
step_unheld s t (Turned _ _ off is) before = λ on. on_and_off _ on (ap (λ (u : SessionState). u.waits) is ∙ off)
step_unheld s t (Spelled _ _ is) before = subst (λ (u : SessionState). u.waits ≡ true → item_is_held u (turn_node u) ≡ false) (sym is) before
step_unheld s t (Advanced _ _ is) before = subst (λ (u : SessionState). u.waits ≡ true → item_is_held u (turn_node u) ≡ false) (sym is.others) before
step_unheld s t (Closed _ _ is) before = subst (λ (u : SessionState). u.waits ≡ true → item_is_held u (turn_node u) ≡ false) (sym is.others) before
step_unheld s t (PlacedNode _ _ none right some is) before = λ on.
    on_and_off _ on (ap (λ (u : SessionState). u.waits) is ∙ no_step_off s.waits (item_is_there s (turn_node s)) none)
step_unheld s t (PlacedFront _ _ none right empty is) before = λ on.
    on_and_off _ on (ap (λ (u : SessionState). u.waits) is ∙ no_step_off s.waits (item_is_there s (turn_node s)) none)
step_unheld s t (SetAside _ _ sound some right puts is) before =
    subst (λ (u : SessionState). u.waits ≡ true → item_is_held u (turn_node u) ≡ false) (sym is) (aside_unheld s before)

-- the containers are the same
pub others_same : (s t u : SessionState) → t ≡ u → u.leaves ≡ s.leaves → u.nodes ≡ s.nodes → u.aside ≡ s.aside → (kind : Kind) →
    gathered t kind ≡ gathered s kind
others_same s t u is leaves nodes aside kind = ap (λ (v : SessionState). gathered v kind) is ∙ gathered_same s u leaves nodes aside kind

pub waits_for_another : WaitsForAnother
waits_for_another s _ (Begun _ _ is) on = on_and_off _ on is.waits
waits_for_another t _ (Pushed s _ h bytes has _ is) on =
    stays_unheld s t is.more (session_of s h has) (others_same s t _ is.others refl refl refl)
    (ap (λ (u : SessionState). u.waits) is.others) is.queue (λ was. (is.item was).0) (waits_for_another s h has) on
waits_for_another t h (Ended s _ _ has _ is) on =
    stays_unheld s t _ (session_of s h has) (others_same s t _ is.others refl refl refl)
    (ap (λ (u : SessionState). u.waits) is.others) is.queue (λ was. (is.item was).0) (waits_for_another s h has) on
waits_for_another t _ (Moved s _ h has _ step) on = step_unheld s t step (waits_for_another s h has) on
waits_for_another t h (Asked s _ _ has _ is) on =
    (subst (λ (u : SessionState). u.waits ≡ true → item_is_held u (turn_node u) ≡ false) (sym is) (waits_for_another s h has)) on
waits_for_another _ _ (Told s answer h has _ settled _ is _) on = told_unheld s answer settled is (waits_for_another s h has) on
