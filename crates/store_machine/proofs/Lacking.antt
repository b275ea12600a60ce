-- Where what is kept of a file is pinned, a child that lacks its pin has a twin; and so has a root.
use Rattle.store_machine.proofs.Prelude.{◌≡◌, ◌≢◌, inl, inr, ◌∙◌, ◌≤◌, ℕ, ◌==◌, Bool, true, false, [], ◌∷◌, ◌++◌, length, Option, Some, None, refl, sym, ap, subst, arith, AllByRecursion, MOST_FILE, Kind, KindSegment, Segment, segment_key, ByCount, room_of, MayBeFile, nodes_of, of_segment, tree_of, nodes_are_right, segments_of, are_few, have_right_lengths, lengths_add_up, take_all, Pin, PinMap, pin_by, pin_of, Piece, IsPieceOf, piece_key, piece_segment, root_key, Claim, Nothing, due_in, History, HasHistory, SessionState, turn_node, IsSettled, of_kind, first_unkept, or_else, HasTwins}
use Rattle.std.proofs.Common.{if◌then◌else◌, List, append-nil}
use Rattle.std.proofs.lemmas.Option.{same_Some}
use Rattle.container_meta.specs.Segments.{Contents}
use Rattle.container_meta.specs.declared.kind.Kind.TheVariants.{Leaf, Tree}
use Rattle.merkle_file.specs.Node as node
use Rattle.merkle_file.proofs.RootLaws.{spellings_tell_nodes}
use Rattle.sha2.specs.Sha256.{sha256}
use Rattle.std.proofs.Common.{slice_get}
use Rattle.ingest_session.proofs.Members.{one_of}
use Rattle.actor_parts.specs.PinMap.{is_pin, has_pin}
use Rattle.actor_parts.specs.Segments.{KeyPin, children_by, children_of, first_not_in, node_segment}
use Rattle.store_model.specs.Pieces.{Data, HasPieceOf, Node, nodes_of_file, piece_bytes}
use Rattle.store_model.specs.Trees.{root_of}
use Rattle.ingest_session.specs.Due.{offered_in, segments_of_all}
use Rattle.ingest_session.specs.Facts.{IsKept, IsKeptChild}
use Rattle.ingest_session.specs.Moving.{IsItem}
use Rattle.ingest_session.proofs.Ends.{all_is_kept, bytes_are_counted}
use Rattle.ingest_session.proofs.Facts.{children_come_first, open_nodes_have_children}
use Rattle.ingest_session.proofs.KeptPieces.{data_piece, kept_pieces, node_piece}
use Rattle.ingest_session.proofs.SealsSome.{offer_kinds}
use Rattle.ingest_session.proofs.Waiting.{claimed_turn, on_and_off, session_of}
use Rattle.store_machine.specs.Needs as needs
use Rattle.store_machine.specs.Offers.{AllSegments, first_unkept_in}
use Rattle.store_machine.specs.Twins.{IsOfGiven}
use Rattle.store_machine.proofs.OfOneKind.{each_of}
use Rattle.store_machine.proofs.Pins.{HasPinOf}
use Rattle.store_machine.proofs.RootPieces.{HasRootPiece, root_piece}

same_number : (n : ℕ) → (n == n) ≡ true
same_number n = grind arith

is_itself : (pin : Pin) → is_pin pin (Some pin) ≡ true
is_itself pin = rw (same_number pin.level, same_number pin.length) refl

-- ---- two pieces of one key

pub key_is : (p : Piece) → segment_key (piece_segment p).kind (piece_segment p).segment ≡ piece_key p
key_is (Data bytes) = refl
key_is (Node n) = refl

bytes_of : (p : Piece) → (piece_segment p).segment.bytes ≡ piece_bytes p
bytes_of (Data bytes) = refl
bytes_of (Node n) = refl

-- pieces of one segment have the same bytes
same_long : (p x : Piece) → piece_segment p ≡ piece_segment x → piece_bytes x ≡ piece_bytes p
same_long p x is = sym (bytes_of x) ∙ ap (λ (s : KindSegment). s.segment.bytes) (sym is) ∙ bytes_of p

-- a segment is a piece of what is given
abbrev pub IsPieceFor : List ℕ → Bool → KindSegment → Type 0
IsPieceFor given ended seg = (p : Piece) × IsOfGiven given ended p × (seg ≡ piece_segment p)

node_right : (file : List ℕ) (n : node.Contents) → length file ≤ MOST_FILE → IsPieceOf file (Node n) → node.IsNode n
node_right file n few piece =
    let segments = segments_of file in
    let are = are_few file few in
    let sum = lengths_add_up file in
    let may : MayBeFile ByCount segments = record { each = have_right_lengths file; most = omega (arith, few, sum); few = are } in
    let same : nodes_of_file file ≡ nodes_of of_segment (tree_of ByCount of_segment segments) =
    ap (λ (ss : List (List ℕ)). nodes_of of_segment (tree_of ByCount of_segment ss)) (take_all (room_of ByCount) segments are) in
    one_of node.IsNode (nodes_of of_segment (tree_of ByCount of_segment segments)) n (nodes_are_right ByCount segments may)
    (piece.0, ap (λ (ns : List node.Contents). slice_get ns piece.0) (sym same) ∙ piece.1)

module _ (given : List ℕ) (ended : Bool) (few : length given ≤ MOST_FILE) where
  key_kind : (a b : ℕ) (xs ys : List ℕ) → a ∷ xs ≡ b ∷ ys → a ≡ b
  key_kind a b xs ys is = cc

  -- pieces of one key and the same bytes are the same
  same_piece : (p q : Piece) → IsOfGiven given ended p → IsOfGiven given ended q → piece_key p ≡ piece_key q → piece_bytes p ≡ piece_bytes q → p ≡ q
  same_piece (Data a) (Data b) one other key same = ap Data same
  same_piece (Node n) (Node m) one other key same = ap Node (spellings_tell_nodes n m (node_right given n few one) (node_right given m few other) same)
  same_piece (Data a) (Node m) one other key same = absurd (omega (arith, key_kind 0 1 (sha256 a) (sha256 (node.spelling m)) key))
  same_piece (Node n) (Data b) one other key same = absurd (omega (arith, key_kind 1 0 (sha256 (node.spelling n)) (sha256 b) key))

  two_pieces : (one other : KindSegment) → IsPieceFor given ended one → IsPieceFor given ended other
      → ((more : List ℕ) → (ended ≡ true → more ≡ []) → HasPieceOf (given ++ more) one × HasPieceOf (given ++ more) other)
      → segment_key one.kind one.segment ≡ segment_key other.kind other.segment → pin_of one ≢ pin_of other → HasTwins given ended (segment_key one.kind one.segment)
  two_pieces one other (p, p_of, p_is) (q, q_of, q_is) both same differ =
      let one_key : segment_key one.kind one.segment ≡ piece_key p = ap (λ (s : KindSegment). segment_key s.kind s.segment) p_is ∙ key_is p in
      let other_key : segment_key one.kind one.segment ≡ piece_key q = same ∙ ap (λ (s : KindSegment). segment_key s.kind s.segment) q_is ∙ key_is q in
      let bytes_differ : piece_bytes p ≢ piece_bytes q =
      λ bytes. differ (ap pin_of (p_is ∙ ap piece_segment (same_piece p q p_of q_of (sym one_key ∙ other_key) bytes) ∙ sym q_is)) in
      record {
        one = p;
        other = q;
        one_of = p_of;
        other_of = q_of;
        differ = bytes_differ;
        one_key = one_key;
        other_key = other_key;
        whole = λ more follow.
            let x = (both more follow).0 in
            let y = (both more follow).1 in
            record {
              one = x.0;
              other = y.0;
              one_of = x.1;
              other_of = y.1;
              differ = λ bytes. bytes_differ (sym (same_long p x.0 (sym p_is ∙ x.2)) ∙ bytes ∙ same_long q y.0 (sym q_is ∙ y.2));
              one_key = ap (λ (s : KindSegment). segment_key s.kind s.segment) x.2 ∙ key_is x.0;
              other_key = same ∙ ap (λ (s : KindSegment). segment_key s.kind s.segment) y.2 ∙ key_is y.0;
            };
      }

-- ---- what is kept of a session

module _ (s : SessionState) (h : History) (has : HasHistory s h) where
  abbrev Twins : List ℕ → Type 0
  Twins key = HasTwins h.given s.ended key

  pub kept_piece : (kind : Kind) (x : Segment) → IsKept h kind x → IsPieceFor h.given s.ended (of_kind kind x)
  kept_piece Leaf x is =
      let first = data_piece (h.given ++ []) x (kept_pieces Leaf x s h [] has (λ ended. refl) is) in (
        Data x.bytes,
        λ more follow. (data_piece (h.given ++ more) x (kept_pieces Leaf x s h more has follow is)).0,
        ap (λ (level : ℕ). of_kind Leaf (let y : Segment = record { level = level; bytes = x.bytes } in y)) first.1,
      )
  kept_piece Tree x is =
      let n = node_piece (h.given ++ []) x (kept_pieces Tree x s h [] has (λ ended. refl) is) in
      (Node n.0, subst (λ (file : List ℕ). IsPieceOf file (Node n.0)) (append-nil h.given) n.1, ap (of_kind Tree) n.2)

  module _ (pins : PinMap) (pinned : (kind : Kind) (x : Segment) → IsKept h kind x → HasPinOf (IsKept h) pins (segment_key kind x)) where
    -- one whose key has another pin has a twin
    twins : (kind : Kind) (x : Segment) → IsKept h kind x → has_pin pins (segment_key kind x) (pin_by kind x) ≡ false → Twins (segment_key kind x)
    twins kind x kept unpinned =
        let z = pinned kind x kept in
        two_pieces h.given s.ended ((bytes_are_counted s h has).1) (of_kind kind x) (of_kind z.0 z.1) (kept_piece kind x kept) (kept_piece z.0 z.1 z.2)
        (λ more follow. (kept_pieces kind x s h more has follow kept, kept_pieces z.0 z.1 s h more has follow z.2)) (sym z.3)
        (λ same. on_and_off (has_pin pins (segment_key kind x) (pin_by kind x))
        (ap (is_pin (pin_by kind x)) (z.4 ∙ ap (λ (pin : Pin). Some pin) (sym same)) ∙ is_itself (pin_by kind x)) unpinned)

    child_twins : (c : KeyPin) → IsKeptChild h c → has_pin pins c.key c.pin ≡ false → Twins c.key
    child_twins c has unpinned =
        subst Twins has.3
        (twins has.0 has.1 has.2
        (ap (λ (pin : Pin). has_pin pins (segment_key has.0 has.1) pin) has.4 ∙ ap (λ (key : List ℕ). has_pin pins key c.pin) has.3 ∙ unpinned))

    -- so a segment whose children are kept, and are not pinned all, has a child with a twin
    unpinned_twins : (cs : List KeyPin) (key : List ℕ) → AllByRecursion (IsKeptChild h) cs → first_not_in pins cs ≡ Some key → Twins key
    unpinned_twins [] key all is = absurd cc
    unpinned_twins (c ∷ cs) key all is = by_test (has_pin pins c.key c.pin) refl (λ more. unpinned_twins cs key all.1 more)
      where
        by_test : (b : Bool) → has_pin pins c.key c.pin ≡ b → (first_not_in pins cs ≡ Some key → Twins key) → Twins key
        by_test true same further = further (sym (ap (λ (b : Bool). if b then first_not_in pins cs else Some c.key) same) ∙ is)
        by_test false other further =
            subst Twins (same_Some c.key key (sym (ap (λ (b : Bool). if b then first_not_in pins cs else Some c.key) other) ∙ is)) (child_twins c all.0 other)

    all_unpinned_twins : (kind : Kind) (xs : List Segment) (key : List ℕ) → AllByRecursion (λ x. AllByRecursion (IsKeptChild h) (children_by kind x)) xs
        → first_unkept kind xs pins ≡ Some key → Twins key
    all_unpinned_twins kind [] key all is = absurd cc
    all_unpinned_twins kind (x ∷ xs) key all is = by_child (first_not_in pins (children_by kind x)) refl (λ more. all_unpinned_twins kind xs key all.1 more)
      where
        by_child : (o : Option (List ℕ)) → first_not_in pins (children_by kind x) ≡ o → (first_unkept kind xs pins ≡ Some key → Twins key) → Twins key
        by_child None none further = further (sym (ap (λ (o : Option (List ℕ)). or_else o (first_unkept kind xs pins)) none) ∙ is)
        by_child (Some k) found further =
            unpinned_twins (children_by kind x) key all.0
            (found ∙ sym (ap (λ (o : Option (List ℕ)). or_else o (first_unkept kind xs pins)) found) ∙ is)

    -- ---- what a session asks for

    item_children : (n : Option node.Contents) (queue : List (List ℕ)) (seg : KindSegment) → IsItem n queue seg
        → ((c : node.Contents) → n ≡ Some c → AllByRecursion (IsKeptChild h) (children_of (node_segment c))) → AllByRecursion (IsKeptChild h) (children_of seg)
    item_children (Some n) queue seg is each = subst (λ (y : KindSegment). AllByRecursion (IsKeptChild h) (children_of y)) (sym is) (each n refl)
    item_children None [] seg is each = absurd is
    item_children None (x ∷ xs) seg is each = subst (λ (y : KindSegment). AllByRecursion (IsKeptChild h) (children_of y)) (sym is) tt

    pub claim_twins : IsSettled s → due_in s ≡ Claim → (seg : KindSegment) → IsItem (turn_node s) s.queue seg → (key : List ℕ)
        → first_not_in pins (children_of seg) ≡ Some key → Twins key
    claim_twins settled due seg is key unpinned =
        unpinned_twins (children_of seg) key
        (item_children (turn_node s) s.queue seg is (λ n node_is. children_come_first s h n has (sym (claimed_turn s settled due) ∙ node_is) due)) unpinned

    -- so it is with what is offered to be sealed
    pub all_lack : (cs : List Contents) (key : List ℕ) → AllSegments (λ kind x. AllByRecursion (IsKeptChild h) (children_by kind x)) cs
        → first_unkept_in cs pins ≡ Some key → Twins key
    all_lack [] key all is = absurd cc
    all_lack (c ∷ cs) key (one, more) is = by_first (first_unkept c.kind c.segments pins) refl (all_lack cs key more)
      where
        by_first : (o : Option (List ℕ)) → first_unkept c.kind c.segments pins ≡ o → (first_unkept_in cs pins ≡ Some key → Twins key) → Twins key
        by_first None none further = further (sym (ap (λ (o : Option (List ℕ)). or_else o (first_unkept_in cs pins)) none) ∙ is)
        by_first (Some k) found further =
            all_unpinned_twins c.kind c.segments key one (found ∙ sym (ap (λ (o : Option (List ℕ)). or_else o (first_unkept_in cs pins)) found) ∙ is)

    none_below : (xs : List Segment) → AllByRecursion (λ x. AllByRecursion (IsKeptChild h) (children_by Leaf x)) xs
    none_below [] = tt
    none_below (x ∷ xs) = (tt, none_below xs)

    offered_children : (kind : Kind) → AllByRecursion (λ x. AllByRecursion (IsKeptChild h) (children_by kind x)) (segments_of_all (offered_in s kind))
    offered_children Leaf = none_below (segments_of_all (offered_in s Leaf))
    offered_children Tree =
        subst (AllByRecursion (λ x. AllByRecursion (IsKeptChild h) (children_by Tree x))) (sym (append-nil s.nodes.segments)) (open_nodes_have_children s h has)

    pub seal_twins : (kind : Kind) (key : List ℕ) → first_unkept_in (offered_in s kind) pins ≡ Some key → Twins key
    seal_twins kind key unpinned =
        all_lack (offered_in s kind) key
        (each_of (λ k x. AllByRecursion (IsKeptChild h) (children_by k x)) kind (offered_in s kind) (offer_kinds s kind (session_of s h has)) (offered_children kind)) unpinned

    -- ---- the root that a name is to have

    pub root_twins : s.ended ≡ true → due_in s ≡ Nothing → ¬ (needs.IsKept pins (root_of h.given)) → Twins (root_key (root_of h.given))
    root_twins ended due unkept =
        let few = (bytes_are_counted s h has).1 in
        elim (root_piece h.given few) [
          | inl empty ↦ absurd (unkept (inl empty))
          | inr root ↦ by_piece root
        ]
      where
        by_test : (seg : KindSegment) → IsKept h seg.kind seg.segment → segment_key seg.kind seg.segment ≡ root_key (root_of h.given)
            → pin_of seg ≡ record { level = (root_of h.given).level; length = (root_of h.given).length } → (b : Bool)
            → has_pin pins (segment_key seg.kind seg.segment) (pin_by seg.kind seg.segment) ≡ b → Twins (root_key (root_of h.given))
        by_test seg kept key pin true there =
            absurd (unkept (inr (ap (has_pin pins (root_key (root_of h.given))) (sym pin)
            ∙ ap (λ (k : List ℕ). has_pin pins k (pin_of seg)) (sym key) ∙ there)))
        by_test seg kept key pin false not = subst Twins key (twins seg.kind seg.segment kept not)

        by_piece : HasRootPiece h.given → Twins (root_key (root_of h.given))
        by_piece root =
            let seg : KindSegment = piece_segment root.piece in
            let kept : IsKept h seg.kind seg.segment = (all_is_kept s h has ended due).kept root.piece root.is_of in
            let pin : Pin = pin_by seg.kind seg.segment in
            let key : segment_key seg.kind seg.segment ≡ root_key (root_of h.given) = key_is root.piece ∙ sym root.key_is in
            by_test seg kept key root.pin_is (has_pin pins (segment_key seg.kind seg.segment) pin) refl
