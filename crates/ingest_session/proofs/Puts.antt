-- Where the open container of data is to be set aside.
use Rattle.ingest_session.proofs.Prelude.{◌≡◌, ◌≤◌, ◌<◌, ◌+◌, ℕ, Bool, true, false, List, [], ◌∷◌, ◌++◌, Some, length, length-append, drop, refl, ap, sym, ◌∙◌, and_parts, arith, Kind, Leaf, Tree, Contents, KindSegment, Segment, Due, Claim, Seal, Nothing, due_in, due_node, item_due, item_is_there, item_kind, puts_aside, seals_data, HasItem, IsAhead, IsPlaced, IsSession, SessionState, absent_item, added_item, fits, placed_item, put_aside, set_aside, turn_node, with_open}
use Rattle.std.proofs.Common.{◌==◌, if◌then◌else◌, not, Option, None}
use Rattle.std.proofs.lemmas.Bool.Decides.{nat_tests}
use Rattle.std.specs.Prelude.{◌&&◌, nat_lt}
use Rattle.actor_parts.specs.declared.step.TheConstants.{MOST_TOGETHER}
use Rattle.merkle_file.specs.Node as node
use Rattle.ingest_session.specs.Settling.{seen}
use Rattle.ingest_session.specs.Sound.{IsAside}
use Rattle.ingest_session.proofs.Lists.{all_and_one}
use Rattle.ingest_session.proofs.Waiting.{on_and_off}

is_seal : (due : Due) → seals_data due ≡ true → due ≡ Seal Leaf
is_seal (Seal Leaf) is = refl
is_seal (Seal Tree) is = absurd (cc)
is_seal Claim is = absurd (cc)
is_seal Nothing is = absurd (cc)

holds : (segments : List Segment) → not (length segments == 0) ≡ true → 1 ≤ length segments
holds [] some = absurd (cc)
holds (x ∷ xs) some = omega arith

has_place : (n : _) → nat_lt n MOST_TOGETHER ≡ true → n < MOST_TOGETHER
has_place n is = grind (arith, nat_tests)

pub puts_seal : (s : SessionState) → puts_aside s ≡ true → due_in s ≡ Seal Leaf
puts_seal s puts = is_seal (due_in s) (and_parts _ _ puts).0

pub puts_some : (s : SessionState) → puts_aside s ≡ true → 1 ≤ length s.leaves.segments
puts_some s puts = holds s.leaves.segments (and_parts _ _ (and_parts _ _ puts).1).0

pub puts_few : (s : SessionState) → puts_aside s ≡ true → length s.aside < MOST_TOGETHER
puts_few s puts = has_place (length s.aside) (and_parts _ _ (and_parts _ _ puts).1).1

-- an item that waits for a seal of data is the first of the queue, and one that waits for a seal of nodes is a node
waits_leaf : (n : Option node.Contents) → Seal (item_kind n) ≡ Seal Leaf → n ≡ None
waits_leaf None is = refl
waits_leaf (Some n) is = absurd (cc)

pub waits_front : (s : SessionState) (waits : Bool) → s.waits ≡ waits → waits ≡ true → due_in s ≡ Seal Leaf → turn_node s ≡ None
waits_front s true on so due =
    waits_leaf (turn_node s) (sym (ap (λ (w : Bool). if w then Seal (item_kind (turn_node s)) else item_due s (due_node s)) on) ∙ due)
waits_front s false off so due = absurd (cc)

pub puts_front : (s : SessionState) → puts_aside s ≡ true → s.waits ≡ true → turn_node s ≡ None
puts_front s puts on = waits_front s s.waits refl on (puts_seal s puts)

-- ---- an item that waits needs a step

pub waiting_is_placed : (s : SessionState) → IsSession s → s.waits ≡ true → IsPlaced s
waiting_is_placed s is on = record {
  turn = λ off. on_and_off s.waits on off;
  none = ap (λ (w : Bool). not w && item_is_there s (turn_node s)) on;
  item = λ turn. (is.waits on).0;
  claim = λ due. (is.waits on).0;
  closed = (is.waits on).1;
}

-- ---- what is done then

pub put_is_session : (s : SessionState) (empty : Contents) (aside : List Contents) → IsSession s → empty ≡ record { kind = Leaf; segments = [] } →
    aside ≡ s.aside ++ s.leaves ∷ [] → puts_aside s ≡ true → IsSession (record s { leaves = empty; aside = aside; waits = false })
put_is_session s empty aside is empty_is aside_is puts =
    let more : length (s.aside ++ s.leaves ∷ []) ≡ length s.aside + 1 = length-append s.aside (s.leaves ∷ []) in
    let few = puts_few s puts in
    rw (empty_is, aside_is)
    (record {
      data_kind = refl;
      tree_kind = is.tree_kind;
      few = is.few;
      hand = is.hand;
      uncut = is.uncut;
      room = is.room;
      least = is.least;
      limit = is.limit;
      at_end = is.at_end;
      sized = is.sized;
      ahead = is.ahead;
      spelled = is.spelled;
      building = record { bytes = is.building.bytes; long = is.building.long; counted = is.building.counted };
      whole = is.whole;
      closed = is.closed;
      next = is.next;
      line = is.line;
      nodes_right = is.nodes_right;
      aside = all_and_one IsAside s.aside s.leaves is.aside (is.data_kind, puts_some s puts);
      together = omega (arith, more, few);
      waits = λ on. absurd (cc);
      full = λ on. absurd (cc);
    })

-- ---- how many segments are seen to wait

front_seen : (s : SessionState) (n : Option node.Contents) (spelled ahead : Option KindSegment) (queue : List (List ℕ)) → n ≡ None → HasItem n spelled ahead →
    IsAhead ahead queue → length (drop 1 queue) + 1 ≡ length queue
front_seen s (Some n) spelled ahead queue none has is = absurd (cc)
front_seen s None spelled None queue none has is = absurd has
front_seen s None spelled (Some seg) [] none has is = absurd is
front_seen s None spelled (Some seg) (x ∷ xs) none has is = omega arith

placed_seen : (s : SessionState) (n : Option node.Contents) → n ≡ None → length (drop 1 s.queue) + 1 ≡ length s.queue → seen (placed_item 1 n s) ≡ seen s
placed_seen s None none one = omega (arith, one)
placed_seen s (Some n) none one = absurd (cc)

added_seen : (s : SessionState) (kind : Kind) (c : Contents) → (seen (with_open kind c s) ≡ seen s) × ((with_open kind c s).queue ≡ s.queue)
added_seen s Leaf c = (refl, refl)
added_seen s Tree c = (refl, refl)

absent_seen : (s : SessionState) (fit : Bool) → turn_node s ≡ None → length (drop 1 s.queue) + 1 ≡ length s.queue →
    seen (if fit then placed_item 1 (turn_node s) (added_item s) else record s { waits = true }) ≡ seen s
absent_seen s true none one =
    let same = added_seen s (item_kind (turn_node s)) _ in
    placed_seen (added_item s) (turn_node s) none (ap (λ (q : List (List ℕ)). length (drop 1 q) + 1) same.1 ∙ one ∙ sym (ap length same.1)) ∙ same.0
absent_seen s false none one = refl

resumed_seen : (s : SessionState) (waits : Bool) → (waits ≡ true → turn_node s ≡ None) → (waits ≡ true → length (drop 1 s.queue) + 1 ≡ length s.queue) →
    seen (if waits then absent_item 1 (record s { waits = false }) else s) ≡ seen s
resumed_seen s true none one = absent_seen (record s { waits = false }) (fits (record s { waits = false })) (none refl) (one refl)
resumed_seen s false none one = refl

pub aside_seen : (s : SessionState) → IsSession s → puts_aside s ≡ true → seen (set_aside s) ≡ seen s
aside_seen s is puts =
    resumed_seen (put_aside s) s.waits (puts_front s puts)
    (λ on. front_seen s (turn_node s) s.spelled s.ahead s.queue (puts_front s puts on) (is.waits on).0 is.ahead)
