-- What was sealed was answered Absent.
use Rattle.ingest_session.proofs.Prelude.{◌≡◌, ◌∙◌, ◌≤◌, ℕ, Bool, true, false, ◌&&◌, List, [], ◌∷◌, ◌++◌, Some, take, drop, refl, sym, ap, append_assoc, append-nil, Kind, Leaf, Tree, Contents, Segment, Answer, Held, Absent, Sealed, Due, Claim, Seal, IsEnding, IsTaking, KeepsItem, due_in, due_node, gathered, item_due, item_is_there, item_kind, offered_in, open_of, segments_of_all, turn_in, with_segment, fits, item_of, SettleStep, Turned, Spelled, Advanced, Closed, PlacedNode, PlacedFront, SetAside, SessionState, turn_node, IsAnswerFor, absent_item, added_item, emptied, placed_front, placed_item, placed_node, put_aside, resumed, set_aside, told_by, with_open, History, HasHistory, IsBegun, Pushed, Ended, Moved, Asked, Told, item_if, same_kind, unsealed, waiting}
use Rattle.std.proofs.Common.{not, if◌then◌else◌, Option, None}
use Rattle.merkle_file.specs.Node as node
use Rattle.ingest_session.specs.Facts.{SealsWereAbsent}
use Rattle.ingest_session.specs.History.{Begun, absent_by, sealed_by}
use Rattle.ingest_session.specs.Told as told
use Rattle.ingest_session.proofs.Gathered.{gathered_placed, gathered_put, gathered_same, gathered_waits, left_parted, one_taken}

waits_not : (kind : Kind) (s : SessionState) → s.waits ≡ false → waiting kind s ≡ []
waits_not kind s off = ap (λ (b : Bool). if b then item_if kind s else []) off

-- what is not sealed, where no item waits
pub unsealed_off : (kind : Kind) (s : SessionState) → s.waits ≡ false → unsealed kind s ≡ (gathered s kind).segments
unsealed_off kind s off = ap (λ (w : List Segment). (gathered s kind).segments ++ w) (waits_not kind s off) ∙ append-nil (gathered s kind).segments

-- ---- an item in its place

pub waits_placed : (more : ℕ) (n : Option node.Contents) (s : SessionState) → (placed_item more n s).waits ≡ s.waits
waits_placed more None s = refl
waits_placed more (Some n) s = refl

unsealed_placed : (kind : Kind) (more : ℕ) (n : Option node.Contents) (s : SessionState) → s.waits ≡ false →
    unsealed kind (placed_item more n s) ≡ (gathered s kind).segments
unsealed_placed kind more n s off =
    unsealed_off kind (placed_item more n s) (waits_placed more n s ∙ off) ∙ ap (λ (c : Contents). c.segments) (gathered_placed more n s kind)

-- ---- an item that was answered Absent

pub with_item : (s : SessionState) (kind mine : Kind) (item : Segment) →
    (gathered (with_open mine (with_segment (open_of s mine) item) s) kind).segments
    ≡ (gathered s kind).segments ++ (if same_kind kind mine then item ∷ [] else [])
with_item s Leaf Leaf item = sym (append_assoc (segments_of_all s.aside) s.leaves.segments (item ∷ []))
with_item s Leaf Tree item = sym (append-nil (gathered s Leaf).segments)
with_item s Tree Leaf item = sym (append-nil s.nodes.segments)
with_item s Tree Tree item = refl

pub waits_with : (s : SessionState) (kind : Kind) (c : Contents) → (with_open kind c s).waits ≡ s.waits
waits_with s Leaf c = refl
waits_with s Tree c = refl

absent_unsealed : (kind : Kind) (more : ℕ) (s : SessionState) (fit : Bool) → s.waits ≡ false →
    unsealed kind (if fit then placed_item more (turn_node s) (added_item s) else record s { waits = true }) ≡ (gathered s kind).segments ++ item_if kind s
absent_unsealed Leaf more s false off = refl
absent_unsealed Tree more s false off = refl
absent_unsealed kind more s true off =
    unsealed_placed kind more (turn_node s) (added_item s) (waits_with s (item_kind (turn_node s)) _ ∙ off)
    ∙ with_item s kind (item_kind (turn_node s)) (item_of (turn_node s) s.queue)

-- an item that waited goes on, or waits on
resumed_by : (kind : Kind) (more : ℕ) (s : SessionState) (waits : Bool) → s.waits ≡ waits →
    unsealed kind (if waits then absent_item more (record s { waits = false }) else s) ≡ unsealed kind s
resumed_by kind more s true on =
    let t : SessionState = record s { waits = false } in
    absent_unsealed kind more t (fits t) refl
    ∙ ap (λ (c : Contents). c.segments ++ item_if kind s) (gathered_waits s false kind)
    ∙ ap (λ (b : Bool). (gathered s kind).segments ++ (if b then item_if kind s else [])) (sym on)
resumed_by kind more s false off = refl

resumed_unsealed : (kind : Kind) (more : ℕ) (s : SessionState) → unsealed kind (resumed more s) ≡ unsealed kind s
resumed_unsealed kind more s = resumed_by kind more s s.waits refl

-- ---- a container that is set aside, and containers that were sealed

aside_unsealed : (kind : Kind) (s : SessionState) → unsealed kind (set_aside s) ≡ unsealed kind s
aside_unsealed kind s =
    resumed_unsealed kind 1 (put_aside s) ∙ ap (λ (c : Contents). c.segments ++ waiting kind s) (gathered_put s kind)

sealed_unsealed : (kind mine : Kind) (count : ℕ) (s : SessionState) → 1 ≤ count →
    (if same_kind kind mine then segments_of_all (take count (offered_in s kind)) else []) ++ unsealed kind (told.sealed_by count (Seal mine) s)
    ≡ unsealed kind s
sealed_unsealed Leaf Leaf count s some =
    let first = segments_of_all (take count s.aside) in
    let rest = segments_of_all (drop count s.aside) in
    sym (append_assoc first (rest ++ s.leaves.segments) (waiting Leaf s))
    ∙ ap (λ (x : List Segment). x ++ waiting Leaf s) (left_parted count s)
sealed_unsealed Tree Leaf count s some = refl
sealed_unsealed Leaf Tree count s some = resumed_unsealed Leaf 0 (emptied s)
sealed_unsealed Tree Tree count s some =
    ap (λ (x : List Segment). segments_of_all (take count (s.nodes ∷ [])) ++ x) (resumed_unsealed Tree 0 (emptied s))
    ∙ ap (λ (x : List Segment). x ++ waiting Tree s) (one_taken count s.nodes some)

-- ---- one answer

claim_off : (waits : Bool) (k : Kind) (due : Due) → (if waits then Seal k else due) ≡ Claim → waits ≡ false
claim_off false k due is = refl
claim_off true k due is = absurd (cc)

pub claims_off : (s : SessionState) → due_in s ≡ Claim → s.waits ≡ false
claims_off s is = claim_off s.waits (item_kind (turn_node s)) (item_due s (due_node s)) is

pub told_unsealed : (kind : Kind) (answer : Answer) (s : SessionState) → IsAnswerFor answer s →
    sealed_by kind answer s ++ unsealed kind (told_by answer s) ≡ unsealed kind s ++ absent_by kind answer s
told_unsealed kind Held s is =
    let off = claims_off s is in
    unsealed_placed kind 0 (turn_node s) s off ∙ sym (append-nil (unsealed kind s) ∙ unsealed_off kind s off)
told_unsealed kind Absent s is =
    let off = claims_off s is in
    absent_unsealed kind 0 s (fits s) off ∙ ap (λ (x : List Segment). x ++ item_if kind s) (sym (unsealed_off kind s off))
told_unsealed kind (Sealed id count) s is =
    rw is.1 (sealed_unsealed kind is.0 count s is.2 ∙ sym (append-nil (unsealed kind s)))
told_unsealed kind other s is = absurd is

-- ---- other calls

item_same : (kind : Kind) (s t : SessionState) → (turn_node t) ≡ (turn_node s) → item_of (turn_node t) t.queue ≡ item_of (turn_node s) s.queue →
    item_if kind t ≡ item_if kind s
item_same kind s t turn item =
    ap (λ (n : Option node.Contents). if same_kind kind (item_kind n) then item_of (turn_node t) t.queue ∷ [] else []) turn
    ∙ ap (λ (i : Segment). if same_kind kind (item_kind (turn_node s)) then i ∷ [] else []) item

waiting_keeps : (kind : Kind) (s t : SessionState) (waits : Bool) → s.waits ≡ waits → t.waits ≡ s.waits → KeepsItem s t → waiting kind t ≡ waiting kind s
waiting_keeps kind s t true on same item =
    ap (λ (b : Bool). if b then item_if kind t else []) (same ∙ on)
    ∙ item_same kind s t (item on).0 (item on).1
    ∙ sym (ap (λ (b : Bool). if b then item_if kind s else []) on)
waiting_keeps kind s t false off same item = waits_not kind t (same ∙ off) ∙ sym (waits_not kind s off)

-- what is not sealed is the same where the containers and what waits are
unsealed_same : (kind : Kind) (s t : SessionState) → t.leaves ≡ s.leaves → t.nodes ≡ s.nodes → t.aside ≡ s.aside → waiting kind t ≡ waiting kind s →
    unsealed kind t ≡ unsealed kind s
unsealed_same kind s t leaves nodes aside waits =
    ap (λ (c : Contents). c.segments ++ waiting kind t) (gathered_same s t leaves nodes aside kind)
    ∙ ap (λ (w : List Segment). (gathered s kind).segments ++ w) waits

pub unsealed_alike : (kind : Kind) (s t u : SessionState) → t ≡ u → u.leaves ≡ s.leaves → u.nodes ≡ s.nodes → u.aside ≡ s.aside →
    waiting kind u ≡ waiting kind s → unsealed kind t ≡ unsealed kind s
unsealed_alike kind s t u is leaves nodes aside waits = ap (unsealed kind) is ∙ unsealed_same kind s u leaves nodes aside waits

both_off : (kind : Kind) (s t : SessionState) → s.waits ≡ false → t.waits ≡ s.waits → waiting kind t ≡ waiting kind s
both_off kind s t off same = waits_not kind t (same ∙ off) ∙ sym (waits_not kind s off)

pub no_step_off : (waits there : Bool) → (not waits && there) ≡ true → waits ≡ false
no_step_off false there is = refl
no_step_off true there is = absurd (cc)

pub step_unsealed : (kind : Kind) (s t : SessionState) → SettleStep s t → unsealed kind t ≡ unsealed kind s
step_unsealed kind s t (Turned _ _ off is) =
    ap (unsealed kind) is ∙ unsealed_same kind s (record s { turn = turn_in s }) refl refl refl (both_off kind s (record s { turn = turn_in s }) off refl)
step_unsealed kind s t (Spelled _ _ is) = unsealed_alike kind s t _ is refl refl refl refl
step_unsealed kind s t (Advanced _ _ is) = unsealed_alike kind s t _ is.others refl refl refl refl
step_unsealed kind s t (Closed _ _ is) = unsealed_alike kind s t _ is.others refl refl refl refl
step_unsealed kind s t (PlacedNode _ _ none right some is) =
    ap (unsealed kind) is ∙ unsealed_same kind s (placed_node s) refl refl refl
    (both_off kind s (placed_node s) (no_step_off s.waits (item_is_there s (turn_node s)) none) refl)
step_unsealed kind s t (PlacedFront _ _ none right empty is) =
    ap (unsealed kind) is ∙ unsealed_same kind s (placed_front 1 s) refl refl refl
    (both_off kind s (placed_front 1 s) (no_step_off s.waits (item_is_there s (turn_node s)) none) refl)
step_unsealed kind s t (SetAside _ _ sound some right puts is) = ap (unsealed kind) is ∙ aside_unsealed kind s

pub taking_unsealed : (kind : Kind) (bytes : List ℕ) (s t : SessionState) → IsTaking bytes s t → unsealed kind t ≡ unsealed kind s
taking_unsealed kind bytes s t is =
    unsealed_same kind s t (ap (λ (x : SessionState). x.leaves) is.others) (ap (λ (x : SessionState). x.nodes) is.others)
    (ap (λ (x : SessionState). x.aside) is.others) (waiting_keeps kind s t s.waits refl (ap (λ (x : SessionState). x.waits) is.others) is.item)

pub ending_unsealed : (kind : Kind) (s t : SessionState) → IsEnding s t → unsealed kind t ≡ unsealed kind s
ending_unsealed kind s t is =
    unsealed_same kind s t (ap (λ (x : SessionState). x.leaves) is.others) (ap (λ (x : SessionState). x.nodes) is.others)
    (ap (λ (x : SessionState). x.aside) is.others) (waiting_keeps kind s t s.waits refl (ap (λ (x : SessionState). x.waits) is.others) is.item)

-- ---- all calls

pub new_unsealed : (kind : Kind) (s : SessionState) → IsBegun s → unsealed kind s ≡ []
new_unsealed Leaf s is =
    unsealed_off Leaf s is.waits
    ∙ ap (λ (cs : List Contents). segments_of_all cs ++ s.leaves.segments) is.aside
    ∙ is.leaves
new_unsealed Tree s is = unsealed_off Tree s is.waits ∙ is.nodes

run_unsealed : (s : SessionState) (h : History) (kind : Kind) → HasHistory s h → h.sealed kind ++ unsealed kind s ≡ h.absent kind
run_unsealed s h kind (Begun _ _ is) = new_unsealed kind s is
run_unsealed t _ kind (Pushed s _ h bytes has _ is) =
    ap (λ (x : List Segment). h.sealed kind ++ x) (taking_unsealed kind bytes s t is) ∙ run_unsealed s h kind has
run_unsealed t h kind (Ended s _ _ has _ is) =
    ap (λ (x : List Segment). h.sealed kind ++ x) (ending_unsealed kind s t is) ∙ run_unsealed s h kind has
run_unsealed t _ kind (Moved s _ h has _ step) =
    ap (λ (x : List Segment). h.sealed kind ++ x) (step_unsealed kind s t step) ∙ run_unsealed s h kind has
run_unsealed t h kind (Asked s _ _ has _ is) =
    ap (λ (x : List Segment). h.sealed kind ++ x) (unsealed_alike kind s t _ is refl refl refl refl) ∙ run_unsealed s h kind has
run_unsealed _ _ kind (Told s answer h has _ _ _ is _) =
    append_assoc (h.sealed kind) (sealed_by kind answer s) (unsealed kind (told_by answer s))
    ∙ ap (λ (x : List Segment). h.sealed kind ++ x) (told_unsealed kind answer s is)
    ∙ sym (append_assoc (h.sealed kind) (unsealed kind s) (absent_by kind answer s))
    ∙ ap (λ (x : List Segment). x ++ absent_by kind answer s) (run_unsealed s h kind has)

pub seals_were_absent : SealsWereAbsent
seals_were_absent s h kind has =
    append_assoc (h.sealed kind) (gathered s kind).segments (waiting kind s) ∙ run_unsealed s h kind has
