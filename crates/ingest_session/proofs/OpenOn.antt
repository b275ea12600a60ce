-- What is still to be sealed of a file that goes on from what was given, after some answers: however the bytes came between these, it is
-- one. And what a seal leaves has no key of what was sealed.
use Rattle.ingest_session.proofs.Prelude.{◌≡◌, ◌∙◌, ◌≤◌, ℕ, Bool, true, false, List, [], ◌∷◌, ◌++◌, Some, length, take, refl, sym, ap, subst, append-nil, append_assoc, reverse, AllByRecursion, list_any, Kind, Leaf, Tree, Contents, Segment, has_key, segment_key, Answer, Absent, Held, Sealed, Due, Claim, Seal, HasTurn, due_in, gathered, item_kind, offered_in, segments_of_all, MayFollow, History, HasHistory, Pushed, Ended, Moved, Asked, Told, answered, item_if, same_kind, unsealed, waiting, item_of, IsSession, SessionState, turn_node, IsAnswerFor, IsSettled, told_by, leaf_key, node_key}
use Rattle.std.proofs.Common.{if◌then◌else◌, ◌≢◌, Option, None, map}
use Rattle.std.proofs.lemmas.Bool.{or_parts}
use Rattle.std.proofs.lemmas.Slice.Eq.{bytes_eq-Decides}
use Rattle.std.specs.Str.{bytes_eq}
use Rattle.merkle_file.specs.Node as node
use Rattle.ingest_session.specs.Due.{item_is_held, queue_has_key}
use Rattle.ingest_session.specs.History.{Begun, absent_by, sealed_by, sealed_for}
use Rattle.ingest_session.proofs.KeptOn.{after, all, here}
use Rattle.ingest_session.proofs.Lists.{all_and_one}
use Rattle.ingest_session.proofs.Members.{IsIn, all_before, all_of, in_none, in_right, one_of}
use Rattle.ingest_session.proofs.Replayed.{Reaches}
use Rattle.ingest_session.proofs.Runs.{Came, IsSame, Point, one_point}
use Rattle.ingest_session.proofs.Sealing.{claims_off, ending_unsealed, new_unsealed, seals_were_absent, step_unsealed, taking_unsealed, told_unsealed, unsealed_alike, unsealed_off}
use Rattle.ingest_session.proofs.Waiting.{claimed_has_turn, claimed_unheld, on_and_off, session_of}

same_back : {A : Type 0} (xs ys zs : List A) → xs ++ ys ≡ xs ++ zs → ys ≡ zs
same_back [] ys zs is = is
same_back (x ∷ xs) ys zs is = same_back xs ys zs cc

-- of the segments of a whole file the answers come to a point at which this one is to be sealed: it is among those that were answered
-- Absent and are not sealed
pub record OpenBy (segments : List (List ℕ)) (answers : List Answer) (kind : Kind) (x : Segment) : Type 0 where
  pub from : Point
  pub came : Came true segments (reverse answers) from
  pub left : List Segment
  pub is : from.sealed kind ++ left ≡ from.absent kind
  pub there : IsIn x left

pub none_open : (segments : List (List ℕ)) (kind : Kind) (x : Segment) → OpenBy segments [] kind x → ⊥
none_open segments kind x is =
    let none : is.left ≡ [] =
    sym (ap (λ (xs : List Segment). xs ++ is.left) (is.came.sealed kind)) ∙ is.is ∙ is.came.absent kind in
    in_none x (subst (IsIn x) none is.there)

module _ (s : SessionState) (h : History) (more : List ℕ) (has : HasHistory s h) (follow : MayFollow more s) where
  abbrev file : List (List ℕ)
  file = all s h more has follow

  -- at a point that a session came to, what is to be sealed is what its containers hold, and what waits
  module _ (t : SessionState) (g : History) (comes : Reaches true file t g) (kind : Kind) (own : g.sealed kind ++ unsealed kind t ≡ g.absent kind) (x : Segment) where
    open_then : IsIn x (unsealed kind t) → OpenBy file g.answers kind x
    open_then there = record {
      from = comes.from;
      came = comes.came;
      left = unsealed kind t;
      is = ap (λ (xs : List Segment). xs ++ unsealed kind t) (sym (comes.sealed kind)) ∙ own ∙ comes.absent kind;
      there = there;
    }

    then_open : OpenBy file g.answers kind x → IsIn x (unsealed kind t)
    then_open is =
        let same : IsSame is.from comes.from = one_point true file (reverse g.answers) is.from comes.from is.came comes.came in
        subst (IsIn x)
        (same_back (g.sealed kind) is.left (unsealed kind t)
        (ap (λ (xs : List Segment). xs ++ is.left) (comes.sealed kind ∙ sym (same.sealed kind)) ∙ is.is ∙ same.absent kind ∙ sym (comes.absent kind) ∙ sym own))
        is.there

  -- the history of a session says so
  own_now : (kind : Kind) → h.sealed kind ++ unsealed kind s ≡ h.absent kind
  own_now kind = sym (append_assoc (h.sealed kind) (gathered s kind).segments (waiting kind s)) ∙ seals_were_absent s h kind has

  pub open_here : (kind : Kind) (x : Segment) → IsIn x (unsealed kind s) → OpenBy file h.answers kind x
  open_here kind x there = open_then s h (here s h more has follow) kind (own_now kind) x there

  pub here_open : (kind : Kind) (x : Segment) → OpenBy file h.answers kind x → IsIn x (unsealed kind s)
  here_open kind x is = then_open s h (here s h more has follow) kind (own_now kind) x is

  -- so it is after an answer more
  pub after_open : (answer : Answer) (settled : IsSettled s) (right : IsAnswerFor answer s) (kind : Kind) (x : Segment)
      → OpenBy file (h.answers ++ answer ∷ []) kind x → IsIn x (unsealed kind (told_by answer s))
  after_open answer settled right kind x is =
      then_open (told_by answer s) (answered answer s h) (after s h more has follow answer settled right) kind
      (append_assoc (h.sealed kind) (sealed_by kind answer s) (unsealed kind (told_by answer s))
      ∙ ap (λ (xs : List Segment). h.sealed kind ++ xs) (told_unsealed kind answer s right)
      ∙ sym (append_assoc (h.sealed kind) (unsealed kind s) (absent_by kind answer s))
      ∙ ap (λ (xs : List Segment). xs ++ absent_by kind answer s) (own_now kind)) x is

-- ---- by the answer

pub opens_held : (s : SessionState) (kind : Kind) → due_in s ≡ Claim → unsealed kind (told_by Held s) ≡ unsealed kind s
opens_held s kind due = told_unsealed kind Held s due ∙ append-nil (unsealed kind s)

pub opens_absent : (s : SessionState) (kind : Kind) → due_in s ≡ Claim → unsealed kind (told_by Absent s) ≡ unsealed kind s ++ item_if kind s
opens_absent s kind due = told_unsealed kind Absent s due

-- ---- keys

none_of_keys : (kind : Kind) (key : List ℕ) (ys : List Segment) → list_any (λ k. bytes_eq k key) (map (segment_key kind) ys) ≡ false →
    AllByRecursion (λ y. key ≢ segment_key kind y) ys
none_of_keys kind key [] none = tt
none_of_keys kind key (y ∷ ys) none =
    let parts = or_parts (bytes_eq (segment_key kind y) key) (list_any (λ k. bytes_eq k key) (map (segment_key kind) ys)) none in
    (λ same. on_and_off (bytes_eq (segment_key kind y) key) ((bytes_eq-Decides (segment_key kind y) key).1 (sym same)) parts.0, none_of_keys kind key ys parts.1)

lacks_key : (c : Contents) (kind : Kind) (key : List ℕ) → c.kind ≡ kind → has_key c key ≡ false → AllByRecursion (λ y. key ≢ segment_key kind y) c.segments
lacks_key c kind key is none =
    none_of_keys kind key c.segments (subst (λ (k : Kind). list_any (λ b. bytes_eq b key) (map (segment_key k) c.segments) ≡ false) is none)

-- keys of two kinds differ
kinds_differ : (kind other : Kind) (x y : Segment) → same_kind kind other ≡ false → segment_key kind x ≢ segment_key other y
kinds_differ Leaf Leaf x y apart same = absurd cc
kinds_differ Tree Tree x y apart same = absurd cc
kinds_differ Leaf Tree x y apart same = cc
kinds_differ Tree Leaf x y apart same = cc

all_differ : (kind other : Kind) (x : Segment) (ys : List Segment) → same_kind kind other ≡ false → AllByRecursion (λ y. segment_key kind x ≢ segment_key other y) ys
all_differ kind other x [] apart = tt
all_differ kind other x (y ∷ ys) apart = (kinds_differ kind other x y apart, all_differ kind other x ys apart)

-- segments of a kind, no two of which have one key
abbrev pub AreApart : Kind → List Segment → Type 0
AreApart kind [] = Unit {0}
AreApart kind (x ∷ xs) = AllByRecursion (λ y. segment_key kind x ≢ segment_key kind y) xs × AreApart kind xs

apart_and_one : (kind : Kind) (xs : List Segment) (x : Segment) → AreApart kind xs → AllByRecursion (λ y. segment_key kind x ≢ segment_key kind y) xs →
    AreApart kind (xs ++ x ∷ [])
apart_and_one kind [] x apart others = (tt, tt)
apart_and_one kind (y ∷ ys) x apart others =
    (all_and_one (λ z. segment_key kind y ≢ segment_key kind z) ys x apart.0 (λ same. others.0 (sym same)), apart_and_one kind ys x apart.1 others.1)

pub apart_back : (kind : Kind) (xs ys : List Segment) → AreApart kind (xs ++ ys) → AreApart kind ys
apart_back kind [] ys apart = apart
apart_back kind (x ∷ xs) ys apart = apart_back kind xs ys apart.1

pub apart_before : (kind : Kind) (xs ys : List Segment) → AreApart kind (xs ++ ys) → AreApart kind xs
apart_before kind [] ys apart = tt
apart_before kind (x ∷ xs) ys apart = (all_before (λ y. segment_key kind x ≢ segment_key kind y) xs ys apart.0, apart_before kind xs ys apart.1)

pub apart_from : (kind : Kind) (xs ys : List Segment) (y : Segment) → AreApart kind (xs ++ ys) → IsIn y ys →
    AllByRecursion (λ x. segment_key kind y ≢ segment_key kind x) xs
apart_from kind [] ys y apart there = tt
apart_from kind (x ∷ xs) ys y apart there = (
  λ same. one_of (λ z. segment_key kind x ≢ segment_key kind z) (xs ++ ys) y apart.0 (in_right xs ys y there) (sym same),
  apart_from kind xs ys y apart.1 there,
)

-- nothing that is still to be sealed has the key of an item that is answered Absent
item_lacks : (s : SessionState) (n : Option node.Contents) (queue : List (List ℕ)) → IsSession s → HasTurn n queue → s.queue ≡ queue → item_is_held s n ≡ false
    → AllByRecursion (λ y. segment_key (item_kind n) (item_of n queue) ≢ segment_key (item_kind n) y) (gathered s (item_kind n)).segments
item_lacks s (Some n) queue is turn same none = lacks_key s.nodes Tree (node_key n) is.tree_kind none
item_lacks s None [] is turn same none = absurd turn
item_lacks s None (x ∷ xs) is turn same none =
    lacks_key (gathered s Leaf) Leaf (leaf_key x) is.data_kind (sym (ap (queue_has_key s) same) ∙ none)

one_more : (kind mine : Kind) (s : SessionState) (item : Segment) → AllByRecursion (λ y. segment_key mine item ≢ segment_key mine y) (unsealed mine s) →
    AreApart kind (unsealed kind s) → AreApart kind (unsealed kind s ++ (if same_kind kind mine then item ∷ [] else []))
one_more Leaf Leaf s item lacks apart = apart_and_one Leaf (unsealed Leaf s) item apart lacks
one_more Tree Tree s item lacks apart = apart_and_one Tree (unsealed Tree s) item apart lacks
one_more Leaf Tree s item lacks apart = subst (AreApart Leaf) (sym (append-nil (unsealed Leaf s))) apart
one_more Tree Leaf s item lacks apart = subst (AreApart Tree) (sym (append-nil (unsealed Tree s))) apart

absent_apart : (kind : Kind) (s : SessionState) → IsSession s → IsSettled s → due_in s ≡ Claim → AreApart kind (unsealed kind s) →
    AreApart kind (unsealed kind s ++ item_if kind s)
absent_apart kind s is settled due apart =
    let mine = item_kind (turn_node s) in
    let item = item_of (turn_node s) s.queue in
    one_more kind mine s item
    (subst (AllByRecursion (λ y. segment_key mine item ≢ segment_key mine y)) (sym (unsealed_off mine s (claims_off s due)))
    (item_lacks s (turn_node s) s.queue is (claimed_has_turn s settled due) refl (claimed_unheld s settled due))) apart

told_apart : (kind : Kind) (s : SessionState) (answer : Answer) → IsSession s → IsSettled s → IsAnswerFor answer s → AreApart kind (unsealed kind s) →
    AreApart kind (unsealed kind s ++ absent_by kind answer s)
told_apart kind s Held is settled right apart = subst (AreApart kind) (sym (append-nil (unsealed kind s))) apart
told_apart kind s Absent is settled right apart = absent_apart kind s is settled right apart
told_apart kind s (Sealed id count) is settled right apart = subst (AreApart kind) (sym (append-nil (unsealed kind s))) apart
told_apart kind s other is settled right apart = absurd right

-- What is still to be sealed has each key once.
pub unsealed_apart : (s : SessionState) (h : History) (kind : Kind) → HasHistory s h → AreApart kind (unsealed kind s)
unsealed_apart s _ kind (Begun _ _ is) = subst (AreApart kind) (sym (new_unsealed kind s is)) tt
unsealed_apart t _ kind (Pushed s _ h bytes has _ is) = subst (AreApart kind) (sym (taking_unsealed kind bytes s t is)) (unsealed_apart s h kind has)
unsealed_apart t h kind (Ended s _ _ has _ is) = subst (AreApart kind) (sym (ending_unsealed kind s t is)) (unsealed_apart s h kind has)
unsealed_apart t _ kind (Moved s _ h has _ step) = subst (AreApart kind) (sym (step_unsealed kind s t step)) (unsealed_apart s h kind has)
unsealed_apart t h kind (Asked s _ _ has _ is) =
    subst (AreApart kind) (sym (unsealed_alike kind s t _ is refl refl refl refl)) (unsealed_apart s h kind has)
unsealed_apart _ _ kind (Told s answer h has _ settled _ right _) =
    apart_back kind (sealed_by kind answer s) (unsealed kind (told_by answer s))
    (subst (AreApart kind) (sym (told_unsealed kind answer s right))
    (told_apart kind s answer (session_of s h has) settled right (unsealed_apart s h kind has)))

-- ---- containers that are sealed

module _ (s : SessionState) (h : History) (has : HasHistory s h) (id count : ℕ) (mine : Kind) (due : due_in s ≡ Seal mine) (some : 1 ≤ count)
    (few : count ≤ length (offered_in s mine)) where
  abbrev left : Kind → List Segment
  left kind = unsealed kind (told_by (Sealed id count) s)

  abbrev gone : Kind → List Segment
  gone kind = if same_kind kind mine then segments_of_all (take count (offered_in s kind)) else []

  opens_left : (kind : Kind) → gone kind ++ left kind ≡ unsealed kind s
  opens_left kind =
      ap (λ (d : Due). sealed_for kind count d s ++ left kind) (sym due)
      ∙ told_unsealed kind (Sealed id count) s (mine, due, some, few)
      ∙ append-nil (unsealed kind s)

  by_kind : (kind other : Kind) (same : Bool) → other ≡ mine → same_kind kind other ≡ same → (x : Segment) → IsIn x (left kind)
      → AllByRecursion (λ y. segment_key kind x ≢ segment_key other y) (segments_of_all (take count (offered_in s other)))
  by_kind kind other false is apart x one = all_differ kind other x (segments_of_all (take count (offered_in s other))) apart
  by_kind Leaf Leaf true is same x one =
      apart_from Leaf (segments_of_all (take count (offered_in s Leaf))) (left Leaf) x
      (subst (AreApart Leaf) (sym (opens_left Leaf) ∙ ap (λ (k : Kind). (if same_kind Leaf k then segments_of_all (take count (offered_in s Leaf)) else []) ++ left Leaf)
      (sym is)) (unsealed_apart s h Leaf has)) one
  by_kind Tree Tree true is same x one =
      apart_from Tree (segments_of_all (take count (offered_in s Tree))) (left Tree) x
      (subst (AreApart Tree) (sym (opens_left Tree) ∙ ap (λ (k : Kind). (if same_kind Tree k then segments_of_all (take count (offered_in s Tree)) else []) ++ left Tree)
      (sym is)) (unsealed_apart s h Tree has)) one
  by_kind Leaf Tree true is same x one = absurd (cc)
  by_kind Tree Leaf true is same x one = absurd (cc)

  -- What is left after a seal was there before, and has no key of what was sealed.
  pub left_differs : (kind : Kind) → AllByRecursion
      (λ x. IsIn x (unsealed kind s) × AllByRecursion (λ y. segment_key kind x ≢ segment_key mine y) (segments_of_all (take count (offered_in s mine)))) (left kind)
  left_differs kind =
      all_of (λ x. IsIn x (unsealed kind s) × AllByRecursion (λ y. segment_key kind x ≢ segment_key mine y) (segments_of_all (take count (offered_in s mine)))) (left kind)
      (λ x one. (subst (IsIn x) (opens_left kind) (in_right (gone kind) (left kind) x one), by_kind kind mine (same_kind kind mine) refl refl x one))
