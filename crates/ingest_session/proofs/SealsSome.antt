-- A container that is to be sealed holds a segment at least.
use Rattle.ingest_session.proofs.Prelude.{◌≡◌, ◌≤◌, ◌⊎◌, inl, inr, ◌++◌, ◌∙◌, ℕ, Bool, true, false, List, [], ◌∷◌, Some, length, refl, ap, sym, subst, arith, rules, AllByRecursion, list_any, key_of, Kind, Leaf, Tree, kind_byte, Contents, KindSegment, Segment, has_key, has_room, Child, spelling, contents_in, length_spelling, IsStepSegment, child_kind, node_segment, leaf_key, node_key, Claim, Due, Seal, has_child_of, due_in, due_node, end_due, gathered, item_due, item_kind, offered_in, open_of, seals_data, segments_of_all, queue_due, item_of, IsSession, SessionState, HasItem, IsSettled, IsSized, IsSpelled, SealsSome, length-append, turn_node}
use Rattle.std.proofs.Common.{if◌then◌else◌, Option, None}
use Rattle.disk_format.specs.declared.numbers.TheConstants.{DATA_BYTES}
use Rattle.merkle_file.specs.Node as node
use Rattle.actor_parts.specs.Segments.{AreStepSegments}
use Rattle.std.proofs.lemmas.Bool.{ne_eqb}
use Rattle.std.proofs.lemmas.Bool.Decides.{nat_tests}
use Rattle.std.specs.Prelude.{◌&&◌, ◌==◌, nat_lt, not}
use Rattle.actor_parts.specs.Offers.{AreStepContents, IsOffer}
use Rattle.actor_parts.specs.declared.step.TheConstants.{MOST_TOGETHER}
use Rattle.ingest_session.specs.Sound.{IsAside}
use Rattle.ingest_session.proofs.InLine.{turn_spelled}
use Rattle.ingest_session.proofs.Members.{all_then}
use Rattle.ingest_session.proofs.Waiting.{on_and_off}

-- data may always stand in a step
pub leaves_are_right : (segments : List Segment) → AreStepSegments Leaf segments
leaves_are_right [] = tt
leaves_are_right (s ∷ ss) = (tt, leaves_are_right ss)

-- ---- a container that an item doesn't fit into

empty_has_room : (filled : Contents) (n : ℕ) → n ≤ DATA_BYTES → has_room filled n ≡ false → filled.segments ≡ [] → ⊥
empty_has_room filled n few full none =
    let all : has_room (record filled { segments = [] }) n ≡ true = search rules in
    let same = ap (λ (ss : List Segment). has_room (record filled { segments = ss }) n) none in search rules

some_or_none : (segments : List Segment) → (segments ≡ [] → ⊥) → 1 ≤ length segments
some_or_none [] none = absurd (none refl)
some_or_none (s ∷ ss) none = search rules

item_is_small : (n : Option node.Contents) (spelled ahead : Option KindSegment) (queue : List (List ℕ)) → HasItem n spelled ahead →
    ((m : node.Contents) → n ≡ Some m → IsSpelled spelled (Some m)) → AllByRecursion IsSized queue → length (item_of n queue).bytes ≤ DATA_BYTES
item_is_small None spelled ahead [] has is sized = search rules
item_is_small None spelled ahead (x ∷ xs) has is sized = let few = sized.0.1 in omega (arith, few)
item_is_small (Some n) None ahead queue has is sized = absurd has
item_is_small (Some n) (Some seg) ahead queue has is sized =
    let this = is n refl in
    let here : IsStepSegment (node_segment n) = subst IsStepSegment this.0 this.1 in
    let long = ap length here.bytes.spelled ∙ length_spelling (contents_in (spelling n)) here.bytes.node in
    let few = here.bytes.node.most in omega (arith, long, few)

-- ---- a container that has a child

no_key : (filled : Contents) (key : List ℕ) → filled.segments ≡ [] → has_key filled key ≡ false
no_key filled key none = rw none refl

no_child : (filled : Contents) (kind : Kind) (cs : List Child) → filled.segments ≡ [] →
    list_any (λ (c : Child). has_key filled (key_of (kind_byte kind) c.digest)) cs ≡ false
no_child filled kind [] none = refl
no_child filled kind (c ∷ cs) none =
    let this = no_key filled (key_of (kind_byte kind) c.digest) none in
    let others = no_child filled kind cs none in search rules

seal_is : (k l : Kind) → Seal k ≡ Seal l → k ≡ l
seal_is k l is = cc

-- one that has another segment of the digest
key_some : (s : SessionState) (k kind : Kind) (key : List ℕ) (b : Bool) → has_key (gathered s k) key ≡ b →
    (if b then Seal k else Claim) ≡ Seal kind → 1 ≤ length (gathered s kind).segments
key_some s k kind key true is due =
    subst (λ (l : Kind). 1 ≤ length (gathered s l).segments) (seal_is _ _ due)
    (some_or_none _ (λ none. let no_one = no_key (gathered s k) key none in search rules))
key_some s k kind key false is due = absurd (cc)

node_some : (s : SessionState) (n : node.Contents) (b : Bool) (kind : Kind) → has_child_of (gathered s (child_kind n.level)) n ≡ b →
    (if b then Seal (child_kind n.level) else if has_key s.nodes (node_key n) then Seal Tree else Claim) ≡ Seal kind →
    1 ≤ length (gathered s kind).segments
node_some s n true kind is due =
    subst (λ (k : Kind). 1 ≤ length (gathered s k).segments) (seal_is _ _ due)
    (some_or_none _ (λ none. let no_one = no_child (gathered s (child_kind n.level)) (child_kind n.level) n.children none in search rules))
node_some s n false kind is due = key_some s Tree kind (node_key n) _ refl due

end_some : (s : SessionState) (kind : Kind) → end_due s ≡ Seal kind → 1 ≤ length (gathered s kind).segments
end_some s Leaf due = search rules
end_some s Tree due = search rules

queue_some : (s : SessionState) (queue : List (List ℕ)) (kind : Kind) → queue_due s queue ≡ Seal kind → 1 ≤ length (gathered s kind).segments
queue_some s [] kind due = end_some s kind due
queue_some s (x ∷ xs) kind due = key_some s Leaf kind (leaf_key x) _ refl due

item_some : (s : SessionState) (n : Option node.Contents) (kind : Kind) → item_due s n ≡ Seal kind → 1 ≤ length (gathered s kind).segments
item_some s (Some n) kind due = node_some s n _ kind refl due
item_some s None kind due = queue_some s s.queue kind due

-- the container that an item waits for holds a segment
pub full_some : (s : SessionState) → IsSession s → s.waits ≡ true → 1 ≤ length (open_of s (item_kind (turn_node s))).segments
full_some s is on =
    (some_or_none _ (empty_has_room (open_of s (item_kind (turn_node s))) (length (item_of (turn_node s) s.queue).bytes)
    (item_is_small (turn_node s) s.spelled s.ahead s.queue (is.waits on).0 (λ m this. turn_spelled s.turn s.spelled s.line is.spelled m this) is.sized) (is.full on)))

open_is_gathered : (s : SessionState) (kind : Kind) → 1 ≤ length (open_of s kind).segments → 1 ≤ length (gathered s kind).segments
open_is_gathered s Leaf some = let both = length-append (segments_of_all s.aside) s.leaves.segments in omega (arith, some, both)
open_is_gathered s Tree some = some

waiting_some : (s : SessionState) (kind : Kind) → IsSession s → s.waits ≡ true → item_kind (turn_node s) ≡ kind → 1 ≤ length (gathered s kind).segments
waiting_some s kind is on same =
    subst (λ (k : Kind). 1 ≤ length (gathered s k).segments) same (open_is_gathered s (item_kind (turn_node s)) (full_some s is on))

due_some : (s : SessionState) (waits : Bool) (kind : Kind) → IsSession s → s.waits ≡ waits →
    (if waits then Seal (item_kind (turn_node s)) else item_due s (due_node s)) ≡ Seal kind → 1 ≤ length (gathered s kind).segments
due_some s true kind is on due = waiting_some s kind is on (seal_is _ _ due)
due_some s false kind is on due = item_some s (due_node s) kind due

pub seal_holds_some : (s : SessionState) (kind : Kind) → IsSession s → due_in s ≡ Seal kind → 1 ≤ length (gathered s kind).segments
seal_holds_some s kind is due = due_some s s.waits kind is refl due

-- ---- what a seal offers

all_hold : (cs : List Contents) → AllByRecursion IsAside cs → AllByRecursion (λ c. 1 ≤ length c.segments) cs
all_hold cs all = all_then IsAside (λ c. 1 ≤ length c.segments) cs (λ c is. is.1) all

pub seals_some : (s : SessionState) (kind : Kind) → IsSession s → due_in s ≡ Seal kind → SealsSome (Seal kind) s
seals_some s Leaf is due = all_hold s.aside is.aside
seals_some s Tree is due = (seal_holds_some s Tree is due, tt)

-- a seal of data that is due, and no container that is to be set aside before: some are aside
is_none : (cs : List Contents) (segments : List Segment) → 1 ≤ length (segments_of_all cs ++ segments) → not (length segments == 0) ≡ false → 1 ≤ length cs
is_none [] [] some none = some
is_none [] (x ∷ xs) some none = absurd (on_and_off _ (ap not (ne_eqb (length (x ∷ xs)) 0 (λ is. omega (arith, is)))) none)
is_none (c ∷ cs) segments some none = omega arith

aside_some : (s : SessionState) (holds room : Bool) → not (length s.leaves.segments == 0) ≡ holds → nat_lt (length s.aside) MOST_TOGETHER ≡ room →
    1 ≤ length (gathered s Leaf).segments → (holds && room) ≡ false → 1 ≤ length s.aside
aside_some s true false holds room some off = search (rules, nat_tests)
aside_some s true true holds room some off = absurd (cc)
aside_some s false room holds room_is some off = is_none s.aside s.leaves.segments some holds

-- the seal of data at the end
some_among : (cs : List Contents) → AllByRecursion IsAside cs → 1 ≤ length cs → 1 ≤ length (segments_of_all cs)
some_among [] all some = absurd (omega (arith, some))
some_among (c ∷ cs) all some =
    let first = all.0.1 in
    let both = length-append c.segments (segments_of_all cs) in omega (arith, first, both)

some_there : (segments : List Segment) → 1 ≤ length segments → not (length segments == 0) ≡ true
some_there [] some = absurd (omega (arith, some))
some_there (x ∷ xs) some = ap not (ne_eqb (length (x ∷ xs)) 0 (λ is. omega (arith, is)))

pub end_seals : (s : SessionState) → IsSession s → s.ended ≡ true → 1 ≤ length s.aside ⊎ 1 ≤ length s.leaves.segments → Seal Leaf ≡ end_due s
end_seals s is ended some =
    let both = length-append (segments_of_all s.aside) s.leaves.segments in
    let there : 1 ≤ length (gathered s Leaf).segments = elim some [
      | inl aside ↦ (let among = some_among s.aside is.aside aside in omega (arith, among, both))
      | inr leaves ↦ omega (arith, leaves, both)
    ] in
    let some_is = some_there (gathered s Leaf).segments there in
    rw (ended, some_is) refl

pub offers_some : (s : SessionState) → IsSession s → IsSettled s → due_in s ≡ Seal Leaf → 1 ≤ length s.aside
offers_some s is settled due =
    aside_some s _ _ refl refl (seal_holds_some s Leaf is due)
    (ap (λ (d : Due). seals_data d && (not (length s.leaves.segments == 0) && nat_lt (length s.aside) MOST_TOGETHER)) (sym due) ∙ settled.aside)

pub is_offer : (s : SessionState) (kind : Kind) → IsSession s → IsSettled s → due_in s ≡ Seal kind → IsOffer (offered_in s kind)
is_offer s Leaf is settled due = record {
  some = offers_some s is settled due;
  few = is.together;
  leaves = λ two. all_then IsAside (λ c. c.kind ≡ Leaf) s.aside (λ c this. this.0) is.aside;
  segments = all_hold s.aside is.aside;
}
is_offer s Tree is settled due = record {
  some = omega arith;
  few = omega arith;
  leaves = λ two. absurd (omega (arith, two));
  segments = (seal_holds_some s Tree is due, tt);
}

pub offer_kinds : (s : SessionState) (kind : Kind) → IsSession s → AllByRecursion (λ c. c.kind ≡ kind) (offered_in s kind)
offer_kinds s Leaf is = all_then IsAside (λ c. c.kind ≡ Leaf) s.aside (λ c this. this.0) is.aside
offer_kinds s Tree is = (is.tree_kind, tt)

aside_right : (c : Contents) → IsAside c → AreStepSegments c.kind c.segments
aside_right c is = subst (λ (k : Kind). AreStepSegments k c.segments) (sym is.0) (leaves_are_right c.segments)

pub offer_right : (s : SessionState) (kind : Kind) → IsSession s → AreStepContents (offered_in s kind)
offer_right s Leaf is = all_then IsAside (λ c. AreStepSegments c.kind c.segments) s.aside aside_right is.aside
offer_right s Tree is = (subst (λ (k : Kind). AreStepSegments k s.nodes.segments) (sym is.tree_kind) is.nodes_right, tt)
