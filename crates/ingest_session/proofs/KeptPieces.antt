-- What a history has as kept: what an answer adds to it, and that all of it are pieces of the file.
use Rattle.ingest_session.proofs.Prelude.{◌≡◌, ◌⊎◌, inl, inr, ◌∙◌, ℕ, List, [], ◌∷◌, ◌++◌, Some, refl, sym, ap, subst, append-nil, append_assoc, AllByRecursion, Kind, Leaf, Tree, KindSegment, Segment, Answer, node_segment, Data, Node, HasPieceOf, IsPieceOf, Due, Seal, HasTurn, arith, due_in, gathered, item_kind, offered_in, segments_of_all, suc, take, zero, IsKept, MayFollow, History, HasHistory, Pushed, Ended, Moved, Asked, Told, answered, held_by, item_if, same_kind, sealed_for, turn_of, item_of, SessionState, turn_node, IsAnswerFor, IsSettled}
use Rattle.std.proofs.Common.{if◌then◌else◌, Option, None}
use Rattle.merkle_file.specs.Node as node
use Rattle.actor_parts.specs.declared.step.Answer.TheVariants as answers
use Rattle.store_model.specs.Standing.{IsSegmentOf}
use Rattle.ingest_session.specs.History.{Begun, sealed_by}
use Rattle.ingest_session.specs.Moving.{IsItem}
use Rattle.ingest_session.proofs.Facts.{opens_are_pieces, turns_are_pieces}
use Rattle.ingest_session.proofs.Gathered.{left_parted, one_taken}
use Rattle.ingest_session.proofs.Members.{IsIn, in_either, in_left, in_none, in_one, in_right, one_of}
use Rattle.ingest_session.proofs.Settled.{settles_by, settling_keeps}
use Rattle.ingest_session.proofs.Staying as staying
use Rattle.ingest_session.proofs.Waiting.{claimed_has_turn}

-- ---- the item whose turn it is

-- as a container has it
pub item_is : (n : Option node.Contents) (queue : List (List ℕ)) (seg : KindSegment) → IsItem n queue seg → seg ≡ record { kind = item_kind n; segment = item_of n queue }
item_is (Some n) queue seg is = is
item_is None [] seg is = absurd is
item_is None (x ∷ xs) seg is = is

-- so it is where an item of a kind has its turn
pub one_item : (s : SessionState) (kind : Kind) (x : Segment) → IsIn x (item_if kind s) → (kind ≡ item_kind (turn_node s)) × (x ≡ item_of (turn_node s) s.queue)
one_item s kind x one = by_kind kind (item_kind (turn_node s)) one
  where
    by_kind : (k mine : Kind) → IsIn x (if same_kind k mine then item_of (turn_node s) s.queue ∷ [] else []) → (k ≡ mine) × (x ≡ item_of (turn_node s) s.queue)
    by_kind Leaf Leaf one = (refl, in_one (item_of (turn_node s) s.queue) x one)
    by_kind Tree Tree one = (refl, in_one (item_of (turn_node s) s.queue) x one)
    by_kind Leaf Tree one = absurd (in_none x one)
    by_kind Tree Leaf one = absurd (in_none x one)

-- and the other way round
pub item_in : (s : SessionState) → IsIn (item_of (turn_node s) s.queue) (item_if (item_kind (turn_node s)) s)
item_in s = by_kind (item_kind (turn_node s))
  where
    by_kind : (k : Kind) → IsIn (item_of (turn_node s) s.queue) (if same_kind k k then item_of (turn_node s) s.queue ∷ [] else [])
    by_kind Leaf = (0, refl)
    by_kind Tree = (0, refl)

-- ---- what an answer adds

module _ (s : SessionState) (h : History) (kind : Kind) (x : Segment) where
  pub kept_still : (answer : Answer) → IsKept h kind x → IsKept (answered answer s h) kind x
  kept_still answer is = elim (in_either (h.held kind) (h.sealed kind) x is) [
    | inl held ↦ in_left (h.held kind ++ held_by kind answer s) (h.sealed kind ++ sealed_by kind answer s) x (in_left (h.held kind) (held_by kind answer s) x held)
    | inr sealed ↦ in_right (h.held kind ++ held_by kind answer s) (h.sealed kind ++ sealed_by kind answer s) x (in_left (h.sealed kind) (sealed_by kind answer s) x sealed)
  ]

  -- the item that is held
  pub kept_held : IsKept (answered answers.Held s h) kind x → IsKept h kind x ⊎ IsIn x (item_if kind s)
  kept_held one = elim (in_either (h.held kind ++ item_if kind s) (h.sealed kind ++ []) x one) [
    | inl first ↦ elim (in_either (h.held kind) (item_if kind s) x first) [
      | inl before ↦ inl (in_left (h.held kind) (h.sealed kind) x before)
      | inr item ↦ inr item
    ]
    | inr second ↦ inl (in_right (h.held kind) (h.sealed kind) x (subst (IsIn x) (append-nil (h.sealed kind)) second))
  ]

  pub held_kept : IsIn x (item_if kind s) → IsKept (answered answers.Held s h) kind x
  held_kept is = in_left (h.held kind ++ item_if kind s) (h.sealed kind ++ []) x (in_right (h.held kind) (item_if kind s) x is)

  pub kept_absent : IsKept (answered answers.Absent s h) kind x → IsKept h kind x
  kept_absent one = subst (IsIn x) (same_lists (h.held kind) (h.sealed kind)) one
    where
      same_lists : (a b : List Segment) → (a ++ []) ++ (b ++ []) ≡ a ++ b
      same_lists a b = ap (λ (l : List Segment). l ++ (b ++ [])) (append-nil a) ∙ ap (λ (l : List Segment). a ++ l) (append-nil b)

  -- those of the containers that were sealed
  pub kept_sealed : (id count : ℕ) (mine : Kind) → due_in s ≡ Seal mine → IsKept (answered (answers.Sealed id count) s h) kind x →
      IsKept h kind x ⊎ ((kind ≡ mine) × IsIn x (segments_of_all (take count (offered_in s mine))))
  kept_sealed id count mine due one = elim (in_either (h.held kind ++ []) (h.sealed kind ++ sealed_for kind count (due_in s) s) x one) [
    | inl first ↦ inl (in_left (h.held kind) (h.sealed kind) x (subst (IsIn x) (append-nil (h.held kind)) first))
    | inr second ↦ elim (in_either (h.sealed kind) (sealed_for kind count (due_in s) s) x second) [
      | inl before ↦ inl (in_right (h.held kind) (h.sealed kind) x before)
      | inr sealed ↦ inr (of_kind kind mine (subst (λ (d : Due). IsIn x (sealed_for kind count d s)) due sealed))
    ]
  ]
    where
      of_kind : (k mine : Kind) → IsIn x (if same_kind k mine then segments_of_all (take count (offered_in s k)) else [])
          → (k ≡ mine) × IsIn x (segments_of_all (take count (offered_in s mine)))
      of_kind Leaf Leaf is = (refl, is)
      of_kind Tree Tree is = (refl, is)
      of_kind Leaf Tree is = absurd (in_none x is)
      of_kind Tree Leaf is = absurd (in_none x is)

  pub sealed_kept : (id count : ℕ) → due_in s ≡ Seal kind → IsIn x (segments_of_all (take count (offered_in s kind)))
      → IsKept (answered (answers.Sealed id count) s h) kind x
  sealed_kept id count due is =
      in_right (h.held kind ++ []) (h.sealed kind ++ sealed_for kind count (due_in s) s) x
      (in_right (h.sealed kind) (sealed_for kind count (due_in s) s) x (subst (λ (d : Due). IsIn x (sealed_for kind count d s)) (sym due) (of_kind kind is)))
    where
      of_kind : (k : Kind) → IsIn x (segments_of_all (take count (offered_in s k))) → IsIn x (if same_kind k k then segments_of_all (take count (offered_in s k)) else [])
      of_kind Leaf is = is
      of_kind Tree is = is

-- what a seal sealed was still to be sealed
pub sealed_in : (s : SessionState) (count : ℕ) (mine : Kind) (x : Segment) → IsIn x (segments_of_all (take count (offered_in s mine))) → IsIn x (gathered s mine).segments
sealed_in s count Leaf x there = subst (IsIn x) (left_parted count s) (in_left (segments_of_all (take count s.aside)) _ x there)
sealed_in s zero Tree x there = absurd (in_none x there)
sealed_in s (suc n) Tree x there = subst (IsIn x) (one_taken (suc n) s.nodes (omega arith)) there

-- ---- pieces

-- a segment of a kind
abbrev pub of_kind : Kind → Segment → KindSegment
of_kind kind x = record { kind = kind; segment = x }

pub item_piece : (file : List ℕ) (n : Option node.Contents) (queue : List (List ℕ)) → HasTurn n queue → AllByRecursion (IsPieceOf file) (turn_of n queue) →
    HasPieceOf file (of_kind (item_kind n) (item_of n queue))
item_piece file (Some n) queue turn all = (Node n, all.0, refl)
item_piece file None [] turn all = absurd turn
item_piece file None (x ∷ xs) turn all = (Data x, all.0, refl)

-- However the file goes on, what a history has as kept are pieces of it.
module _ (kind : Kind) (x : Segment) where
  by_answer : (s : SessionState) (answer : Answer) (h : History) (more : List ℕ) → HasHistory s h → MayFollow more s → IsSettled s → IsAnswerFor answer s →
      (IsKept h kind x → HasPieceOf (h.given ++ more) (of_kind kind x))
      → IsKept (answered answer s h) kind x → HasPieceOf (h.given ++ more) (of_kind kind x)
  by_answer s answers.Held h more has may settled due before is = elim (kept_held s h kind x is) [
    | inl was ↦ before was
    | inr now ↦
        let item = one_item s kind x now in
        subst (λ (k : Kind). HasPieceOf (h.given ++ more) (of_kind k x)) (sym item.0)
        (subst (λ (y : Segment). HasPieceOf (h.given ++ more) (of_kind (item_kind (turn_node s)) y)) (sym item.1)
        (item_piece (h.given ++ more) (turn_node s) s.queue (claimed_has_turn s settled due) (turns_are_pieces s h more has may)))
  ]
  by_answer s answers.Absent h more has may settled due before is = before (kept_absent s h kind x is)
  by_answer s (answers.Sealed id count) h more has may settled due before is = elim (kept_sealed s h kind x id count due.0 due.1 is) [
    | inl was ↦ before was
    | inr now ↦
        subst (λ (k : Kind). HasPieceOf (h.given ++ more) (of_kind k x)) (sym now.0)
        (one_of (λ y. HasPieceOf (h.given ++ more) (of_kind due.0 y)) (gathered s due.0).segments x (opens_are_pieces s h more has may due.0)
        (sealed_in s count due.0 x now.1))
  ]
  by_answer s answer h more has may settled due before is = absurd due

  pub kept_pieces : (s : SessionState) (h : History) (more : List ℕ) → HasHistory s h → MayFollow more s → IsKept h kind x → HasPieceOf (h.given ++ more) (of_kind kind x)
  kept_pieces s _ more (Begun _ _ begun) may is = absurd (in_none x is)
  kept_pieces t _ more (Pushed s _ h bytes has _ taking) may is =
      subst (λ (file : List ℕ). HasPieceOf file (of_kind kind x)) (sym (append_assoc h.given bytes more))
      (kept_pieces s h (bytes ++ more) has (λ on. absurd (let both = sym taking.ongoing ∙ on in cc)) is)
  kept_pieces t h more (Ended s _ _ has _ ending) may is = kept_pieces s h more has (λ on. absurd (let both = sym ending.ongoing ∙ on in cc)) is
  kept_pieces t _ more (Moved s _ h has sound step) may is = kept_pieces s h more has (λ on. may ((settling_keeps s t (settles_by sound step)).ended ∙ on)) is
  kept_pieces t h more (Asked s _ _ has _ same) may is = kept_pieces s h more has (λ on. may (ap (λ (u : SessionState). u.ended) same ∙ on)) is
  kept_pieces _ _ more (Told s answer h has _ settled _ fits some) may is =
      let before : MayFollow more s = λ on. may ((staying.told answer s).ended ∙ on) in
      by_answer s answer h more has before settled fits (λ was. kept_pieces s h more has before was) is

-- ---- what pieces are

-- a piece in a data container is a segment of the file, and has level 0
pub data_piece : (file : List ℕ) (x : Segment) → HasPieceOf file (of_kind Leaf x) → IsSegmentOf file x.bytes × (x.level ≡ 0)
data_piece file x (Data bytes, piece, is) =
    let same : x ≡ record { level = 0; bytes = bytes } = ap (λ (y : KindSegment). y.segment) is in
    (subst (IsSegmentOf file) (sym (ap (λ (y : Segment). y.bytes) same)) piece, ap (λ (y : Segment). y.level) same)
data_piece file x (Node n, piece, is) = absurd (let kinds = ap (λ (y : KindSegment). y.kind) is in cc)

-- one in a tree container is a node
pub node_piece : (file : List ℕ) (x : Segment) → HasPieceOf file (of_kind Tree x) → (n : node.Contents) × IsPieceOf file (Node n) × (x ≡ (node_segment n).segment)
node_piece file x (Data bytes, piece, is) = absurd (let kinds = ap (λ (y : KindSegment). y.kind) is in cc)
node_piece file x (Node n, piece, is) = (n, piece, ap (λ (y : KindSegment). y.segment) is)
