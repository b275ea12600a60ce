-- A step that is due is made, and the session is told what it answered.
use Rattle.backup_engine.proofs.Prelude.{both_so, ◌≡◌, ◌≢◌, inl, inr, ◌∙◌, ℕ, List, [], ◌∷◌, ◌++◌, Option, Some, None, Ok, Err, refl, sym, ap, subst, AllByRecursion, Kind, Leaf, Tree, PlaceMap, KindSegment, Segment, segment_key, Answer, KeyPin, children_by, children_of, IsStep, Refusal, Data, Node, HasPieceOf, IsPieceOf, key_of_seg, CoreStep, kept_of, CoreState, IsRunning, Due, Claim, Seal, due_in, item_kind, HasHistory, answered, item_if, item_of, IsItem, SessionState, turn_node, told_by, Asks, all_of, all_then, one_of, IsFed, MayBe, Stops, opens_of, AreNew, IsOneOf, item_is, one_item}
use Rattle.std.proofs.Common.{append-nil, take}
use Rattle.container_meta.specs.Segments.{Contents}
use Rattle.std.specs.FinMap as finite
use Rattle.merkle_file.specs.Node as node
use Rattle.actor_parts.specs.declared.step.Answer.TheVariants as answers
use Rattle.actor_parts.specs.Segments.{node_segment}
use Rattle.actor_parts.specs.StepValue as asked
use Rattle.ingest_session.specs.declared.due.Due.TheVariants.{Nothing}
use Rattle.ingest_session.specs.Due.{offered_in, segments_of_all}
use Rattle.ingest_session.specs.Facts.{ChildrenComeFirst, IsKeptChild, MayFollow, OpenNodesHaveChildren, TurnsArePieces}
use Rattle.ingest_session.specs.History.{turn_of}
use Rattle.ingest_session.specs.Moving.{IsOffered}
use Rattle.ingest_session.specs.Told.{IsSettled}
use Rattle.ingest_session.proofs.Waiting.{claimed_turn}
use Rattle.ingest_session.proofs.Offered.{offered_apart, offered_are_pieces, offered_unsealed}
use Rattle.ingest_session.proofs.SealsSome.{offer_kinds}
use Rattle.ingest_session.proofs.Waiting.{session_of}
use Rattle.ingest_session.proofs.OpenOn.{left_differs, opens_absent}
use Rattle.backup_engine.proofs.Feds.{fed_absent, fed_held, fed_sealed}
use Rattle.backup_engine.proofs.KeptPieces as pieces
use Rattle.backup_engine.proofs.WayClaims.{held_or_absent, way_absent, way_held}
use Rattle.backup_engine.proofs.WayRefusals.{way_unclaimed, way_unsealed}
use Rattle.store_machine.proofs.OfOneKind.{AreOf, all_taken, apart_of, apart_taken, each_of}
use Rattle.store_machine.proofs.Sealings.{AreApart}
use Rattle.backup_engine.proofs.WaySeals.{AreAllNew, ArePieces, only_sealed, sealed_row, way_sealed}

module _ (C : Type 0) (state : C → CoreState) (given : List ℕ) (s : SessionState) (start old new : C) (fed : IsFed C state given s start old) where
  abbrev files : List ℕ → Type 0
  files = MayBe given s

  -- what a law says of a file that goes on so
  by_more : (P : List ℕ → Type 0) → ((more : List ℕ) → MayFollow more s → P (fed.history.given ++ more)) → (file : List ℕ) → files file → P file
  by_more P each file is = subst P (ap (λ (l : List ℕ). l ++ is.0) fed.given_is ∙ sym is.2) (each is.0 is.1)

  -- ---- children

  child_kept : (c : KeyPin) → IsKeptChild fed.history c → pieces.IsKeptChild (kept_of fed.way.steps) c
  child_kept c is = (record { kind = is.0; segment = is.1 }, fed.told is.0 is.1 is.2, is.3, is.4)

  children_kept : (cs : List KeyPin) → AllByRecursion (IsKeptChild fed.history) cs → AllByRecursion (pieces.IsKeptChild (kept_of fed.way.steps)) cs
  children_kept [] all = tt
  children_kept (c ∷ cs) all = (child_kept c all.0, children_kept cs all.1)

  all_children_kept : (kind : Kind) (xs : List Segment) → AllByRecursion (λ x. AllByRecursion (IsKeptChild fed.history) (children_by kind x)) xs
      → AllByRecursion (λ x. AllByRecursion (pieces.IsKeptChild (kept_of fed.way.steps)) (children_by kind x)) xs
  all_children_kept kind [] all = tt
  all_children_kept kind (x ∷ xs) all = (children_kept (children_by kind x) all.0, all_children_kept kind xs all.1)

  -- ---- a claim

  -- the item is a piece
  item_piece : (file : List ℕ) (n : Option node.Contents) (queue : List (List ℕ)) (seg : KindSegment) → IsItem n queue seg → AllByRecursion (IsPieceOf file) (turn_of n queue) →
      HasPieceOf file seg
  item_piece file (Some n) queue seg is all = (Node n, all.0, is)
  item_piece file None [] seg is all = absurd is
  item_piece file None (x ∷ xs) seg is all = (Data x, all.0, is)

  -- data has no children, and those of a node are kept
  item_children : (n : Option node.Contents) (queue : List (List ℕ)) (seg : KindSegment) → IsItem n queue seg →
      ((m : node.Contents) → n ≡ Some m → AllByRecursion (IsKeptChild fed.history) (children_of (node_segment m)))
      → AllByRecursion (pieces.IsKeptChild (kept_of fed.way.steps)) (children_of seg)
  item_children (Some n) queue seg is each =
      subst (λ (x : KindSegment). AllByRecursion (pieces.IsKeptChild (kept_of fed.way.steps)) (children_of x)) (sym is) (children_kept (children_of (node_segment n)) (each n refl))
  item_children None [] seg is each = absurd is
  item_children None (x ∷ xs) seg is each = subst (λ (y : KindSegment). AllByRecursion (pieces.IsKeptChild (kept_of fed.way.steps)) (children_of y)) (sym is) tt

  module _ (turns : TurnsArePieces) (due : due_in s ≡ Claim) (seg : KindSegment) (offered : IsOffered s seg) (buf : List ℕ) where
    seg_piece : (file : List ℕ) → files file → HasPieceOf file seg
    seg_piece = by_more (λ file. HasPieceOf file seg)
        (λ more may. item_piece (fed.history.given ++ more) (turn_node s) s.queue seg offered.is (turns s fed.history more fed.has may))

    seg_is : seg ≡ record { kind = item_kind (turn_node s); segment = item_of (turn_node s) s.queue }
    seg_is = item_is (turn_node s) s.queue seg offered.is

    pub claim_held : CoreStep (state old) (record { actor = 0; step = asked.Claim seg; answer = Ok answers.Held; buf = buf }) (state new) → IsRunning (state new)
        → HasHistory (told_by answers.Held s) (answered answers.Held s fed.history) → IsFed C state given (told_by answers.Held s) start new
    claim_held step running has =
        let way = way_held C state files (opens_of s) start old new fed.way seg buf offered.right seg_piece step running in
        fed_held C state given s start old new fed seg due offered.is (way.0, way.1) has

    -- it is new, as what was to be sealed is
    new_item : (kind : Kind) (places : PlaceMap) → finite.get places (key_of_seg seg) ≡ None → AreNew places kind (item_if kind s)
    new_item kind places none =
        all_of (λ x. finite.get places (segment_key kind x) ≡ None) (item_if kind s) (λ x one.
        let same = one_item s kind x one in
        ap (finite.get places)
        (ap (λ (k : Kind). segment_key k x) same.0 ∙ ap (segment_key (item_kind (turn_node s))) same.1 ∙ sym (ap key_of_seg seg_is))
        ∙ none)

    pub claim_absent : CoreStep (state old) (record { actor = 0; step = asked.Claim seg; answer = Ok answers.Absent; buf = buf }) (state new) → IsRunning (state new)
        → HasHistory (told_by answers.Absent s) (answered answers.Absent s fed.history) → IsFed C state given (told_by answers.Absent s) start new
    claim_absent step running has =
        let way = way_absent C state files (opens_of s) start old new fed.way seg buf offered.right seg_piece (opens_of (told_by answers.Absent s))
        (λ kind places fresh none. subst (AreNew places kind) (sym (opens_absent s kind due))
        (both_so (λ x. finite.get places (segment_key kind x) ≡ None) (opens_of s kind) (item_if kind s) fresh (new_item kind places none)))
        step running in
        fed_absent C state given s start old new fed (way.0, way.1 ∙ sym (append-nil (kept_of fed.way.steps))) has

    pub claim_refused : ChildrenComeFirst → IsSettled s → (name file : List ℕ) → files file → (refusal : Refusal)
        → CoreStep (state old) (record { actor = 0; step = asked.Claim seg; answer = Err refusal; buf = buf }) (state new) → Stops C state name file refusal start new
    claim_refused children settled name file is refusal step =
        inl (way_unclaimed C state files (opens_of s) start old new fed.way buf name file is seg offered.right seg_piece
        (item_children (turn_node s) s.queue seg offered.is (λ m node_is. children s fed.history m fed.has (sym (claimed_turn s settled due) ∙ node_is) due)) refusal step)

  -- ---- a seal

  module _ (mine : Kind) (due : due_in s ≡ Seal mine) (right : IsStep (asked.Seal (offered_in s mine))) (buf : List ℕ) where
    abbrev offered : List Contents
    offered = offered_in s mine

    kinds : AreOf mine offered
    kinds = offer_kinds s mine (session_of s fed.history fed.has)

    are_pieces : (file : List ℕ) → files file → ArePieces file offered
    are_pieces = by_more (λ file. ArePieces file offered)
        (λ more may. each_of (λ k x. HasPieceOf (fed.history.given ++ more) (pieces.of_kind k x)) mine offered kinds
        (offered_are_pieces s fed.history more fed.has may mine))

    are_new : AreAllNew fed.way.places offered
    are_new =
        each_of (λ k x. finite.get fed.way.places (segment_key k x) ≡ None) mine offered kinds
        (all_of (λ x. finite.get fed.way.places (segment_key mine x) ≡ None) (segments_of_all offered)
        (λ x is. one_of (λ y. finite.get fed.way.places (segment_key mine y) ≡ None) (opens_of s mine) x (fed.way.fresh mine) (offered_unsealed s mine x is)))

    apart : AreApart offered
    apart = apart_of mine offered kinds (offered_apart s fed.history fed.has mine)

    pub seal_made : (id count : ℕ) (step : CoreStep (state old) (record { actor = 0; step = asked.Seal offered; answer = Ok (answers.Sealed id count); buf = buf }) (state new))
        → IsRunning (state new)
        → HasHistory (told_by (answers.Sealed id count) s) (answered (answers.Sealed id count) s fed.history)
        → IsFed C state given (told_by (answers.Sealed id count) s) start new
    seal_made id count step running has =
        let row = sealed_row C state files (opens_of s) start old new fed.way offered buf right are_pieces id count step in
        let sealed : List Contents = take count offered in
        let way = way_sealed C state files (opens_of s) start old new fed.way offered buf right are_pieces id count step
        (all_taken (λ c. AreNew fed.way.places c.kind c.segments) count offered are_new) (apart_taken count offered apart) (opens_of (told_by (answers.Sealed id count) s))
        (λ kind. all_then
        (λ x. IsOneOf x (opens_of s kind) × AllByRecursion (λ y. segment_key kind x ≢ segment_key mine y) (segments_of_all sealed))
        (λ x. IsOneOf x (opens_of s kind) × AllByRecursion (λ c. AllByRecursion (λ y. segment_key c.kind y ≢ segment_key kind x) c.segments) sealed)
        (opens_of (told_by (answers.Sealed id count) s) kind)
        (λ x both. (
          both.0,
          each_of (λ k y. segment_key k y ≢ segment_key kind x) mine sealed (all_taken (λ c. c.kind ≡ mine) count offered kinds)
              (all_then (λ y. segment_key kind x ≢ segment_key mine y) (λ y. segment_key mine y ≢ segment_key kind x) (segments_of_all sealed)
              (λ y differ same. differ (sym same)) both.1),
        ))
        (left_differs s fed.history fed.has id count mine due row.some row.few kind))
        running in
        fed_sealed C state given s start old new fed id count mine due way has

    -- data has no children, and those of nodes are kept
    offered_children : OpenNodesHaveChildren → (k : Kind)
        → AllByRecursion (λ x. AllByRecursion (pieces.IsKeptChild (kept_of fed.way.steps)) (children_by k x)) (segments_of_all (offered_in s k))
    offered_children nodes Leaf = none (segments_of_all (offered_in s Leaf))
      where
        none : (xs : List Segment) → AllByRecursion (λ x. AllByRecursion (pieces.IsKeptChild (kept_of fed.way.steps)) (children_by Leaf x)) xs
        none [] = tt
        none (x ∷ xs) = (tt, none xs)
    offered_children nodes Tree =
        subst (AllByRecursion (λ x. AllByRecursion (pieces.IsKeptChild (kept_of fed.way.steps)) (children_by Tree x))) (sym (append-nil s.nodes.segments))
        (all_children_kept Tree s.nodes.segments (nodes s fed.history fed.has))

    pub seal_refused : OpenNodesHaveChildren → (name file : List ℕ) → files file → (refusal : Refusal)
        → CoreStep (state old) (record { actor = 0; step = asked.Seal offered; answer = Err refusal; buf = buf }) (state new) → Stops C state name file refusal start new
    seal_refused nodes name file is refusal step =
        inl (way_unsealed C state files (opens_of s) start old new fed.way buf name file is offered right are_pieces are_new
        (each_of (λ k x. AllByRecursion (pieces.IsKeptChild (kept_of fed.way.steps)) (children_by k x)) mine offered kinds (offered_children nodes mine)) refusal
        step)

-- ---- either

module _ (C : Type 0) (state : C → CoreState) (given : List ℕ) (s : SessionState) (start old new : C) (fed : IsFed C state given s start old) (turns : TurnsArePieces)
  where
    -- the step was made, and the session was told
    pub asked_on : (due : Due) (answer : Answer) → due_in s ≡ due → Asks 0 due s (Ok answer) (state old) (state new) → IsRunning (state new)
        → HasHistory (told_by answer s) (answered answer s fed.history) → IsFed C state given (told_by answer s) start new
    asked_on Claim answers.Held is asks running has = claim_held C state given s start old new fed turns is asks.0 asks.2 asks.1 asks.3 running has
    asked_on Claim answers.Absent is asks running has = claim_absent C state given s start old new fed turns is asks.0 asks.2 asks.1 asks.3 running has
    asked_on Claim answer is asks running has =
        absurd (elim (held_or_absent C state (MayBe given s) (opens_of s) start old new fed.way asks.0 asks.1 answer asks.3) [ inl held ↦ cc | inr absent ↦ cc ])
    asked_on (Seal kind) (answers.Sealed id count) is asks running has =
        seal_made C state given s start old new fed kind is asks.1 asks.0 id count asks.3 running has
    asked_on (Seal kind) answer is asks running has =
        absurd (let sealed = only_sealed C state (MayBe given s) (opens_of s) start old new fed.way (offered_in s kind) asks.0 answer asks.3 in cc)
    asked_on Nothing answer is asks running has = absurd asks

    -- it was refused
    pub asked_refused : ChildrenComeFirst → OpenNodesHaveChildren → IsSettled s → (due : Due) (refusal : Refusal) → due_in s ≡ due →
        Asks 0 due s (Err refusal) (state old) (state new) → (name file : List ℕ) → MayBe given s file
        → Stops C state name file refusal start new
    asked_refused children nodes settled Claim refusal is asks name file may = claim_refused C state given s start old new fed turns is asks.0 asks.2 asks.1 children settled name
        file may refusal asks.3
    asked_refused children nodes settled (Seal kind) refusal is asks name file may =
        seal_refused C state given s start old new fed kind is asks.1 asks.0 nodes name file may refusal asks.3
    asked_refused children nodes settled Nothing refusal is asks name file may = absurd asks
