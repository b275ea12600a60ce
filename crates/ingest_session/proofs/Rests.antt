-- What the builder of a tree is still to be given.
use Rattle.ingest_session.proofs.Prelude.{◌≡◌, ◌≤◌, ℕ, Bool, true, false, List, [], ◌∷◌, ◌++◌, Some, length, refl, ap, ◌∙◌, LEAST_SEGMENT, KindSegment, Segment, has_room, item_kind, open_of, fits, item_of, SessionState, HasItem, rest_after, IsAhead, IsWhole, AreLong, Top, is_last, turn_node}
use Rattle.std.proofs.Common.{Option, None}
use Rattle.merkle_file.specs.Node as node

pub rest_grows : (ahead : Option KindSegment) (queue : List (List ℕ)) (x : List ℕ) → IsAhead ahead queue →
    rest_after ahead (queue ++ x ∷ []) ≡ rest_after ahead queue ++ x ∷ []
rest_grows None queue x is = refl
rest_grows (Some seg) [] x is = absurd is
rest_grows (Some seg) (y ∷ ys) x is = search

pub ahead_stays : (ahead : Option KindSegment) (queue : List (List ℕ)) (x : List ℕ) → IsAhead ahead queue → IsAhead ahead (queue ++ x ∷ [])
ahead_stays None queue x is = tt
ahead_stays (Some seg) [] x is = absurd is
ahead_stays (Some seg) (y ∷ ys) x is = is

pub long_and_one : (rest : List (List ℕ)) (x : List ℕ) → AreLong false rest → LEAST_SEGMENT ≤ length x → AreLong false (rest ++ x ∷ [])
long_and_one [] x long one = (λ _. one, tt)
long_and_one (y ∷ ys) x long one = (λ _. long.0 refl, long_and_one ys x long.1 one)

-- ---- while the file goes on

pub ongoing_last : (ended : Bool) (rest : List (List ℕ)) → ended ≡ false → is_last ended rest ≡ false
ongoing_last false rest on = refl
ongoing_last true rest on = absurd (cc)

pub not_last_and_one : (ended : Bool) (queue : List (List ℕ)) (x : List ℕ) → is_last ended (queue ++ x ∷ []) ≡ true → ⊥
not_last_and_one false queue x last = cc
not_last_and_one true [] x last = cc
not_last_and_one true (y ∷ ys) x last = cc

pub never_whole : (top : Option Top) (last other : Bool) → IsWhole top last → last ≡ false → IsWhole top other
never_whole None last other whole lasts = tt
never_whole (Some top) last other whole lasts = absurd (cc)

-- an item that waits stays the same
pub item_stays : (n : Option node.Contents) (spelled ahead : Option KindSegment) (queue : List (List ℕ)) (x : List ℕ) → HasItem n spelled ahead →
    IsAhead ahead queue → item_of n (queue ++ x ∷ []) ≡ item_of n queue
item_stays (Some n) spelled ahead queue x has is = refl
item_stays None spelled None queue x has is = absurd has
item_stays None spelled (Some seg) [] x has is = absurd is
item_stays None spelled (Some seg) (y ∷ ys) x has is = refl

pub full_stays : (s : SessionState) (x : List ℕ) → HasItem (turn_node s) s.spelled s.ahead → IsAhead s.ahead s.queue → fits s ≡ false →
    fits (record s { queue = s.queue ++ x ∷ [] }) ≡ false
full_stays s x has is full =
    ap (λ (i : Segment). has_room (open_of s (item_kind (turn_node s))) (length i.bytes)) (item_stays (turn_node s) s.spelled s.ahead s.queue x has is) ∙ full
