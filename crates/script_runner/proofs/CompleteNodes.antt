-- Where no two different nodes on the way have one digest, nothing that is given has twins, and no copy that is held clashes with it.
use Rattle.script_runner.proofs.Prelude.{◌≡◌, inl, inr, ◌∙◌, ℕ, Bool, List, [], ◌∷◌, ◌++◌, Option, Some, None, refl, sym, ap, subst, arith, length, AllByRecursion, byte_at, Kind, Tree, Contents, KindSegment, segment_key, Difference, HasNoCollisions, Piece, Data, Node, HasPieceOf, IsPieceOf, offered_in, History, HasHistory, turn_of, IsItem, IsOffered, SessionState, turn_node, turns_are_pieces, one_of, Asked, HasSegment, IsDueStep, Session, of_files, ClashesWith, IsHeldNode}
use Rattle.ingest_session.proofs.Members.{all_then}
use Rattle.std.proofs.Common.{append-nil}
use Rattle.sha2.specs.Sha256.{sha256}
use Rattle.base_model.specs.Bytes.{key_of}
use Rattle.merkle_file.specs.Node as node
use Rattle.merkle_file.specs.Node.{spelling}
use Rattle.refusals.specs.declared.refusal.Difference.TheVariants.{Length, Byte}
use Rattle.store_model.specs.Pieces.{piece_bytes, piece_key}
use Rattle.store_model.specs.Slots.{newest}
use Rattle.store_model.specs.Trees.{bytes_at}
use Rattle.ingest_session.specs.declared.due.Due.TheVariants as dues
use Rattle.ingest_session.specs.Due.{segments_of_all}
use Rattle.ingest_session.proofs.Offered.{offered_are_pieces}
use Rattle.ingest_session.proofs.SealsSome.{offer_kinds}
use Rattle.ingest_session.proofs.Waiting.{session_of}
use Rattle.store_machine.specs.Asked as asked
use Rattle.store_machine.specs.Needs.{DifferBy}
use Rattle.store_machine.specs.Offers.{AllSegments}
use Rattle.store_machine.specs.Twins.{HasTwins, IsOfGiven}
use Rattle.store_machine.proofs.OfOneKind.{each_of}

-- ---- a node that a step has

-- the bytes are a node of the tree of what was given
abbrev pub IsNodeOfFile : List ℕ → List ℕ → Type 0
IsNodeOfFile file bytes = (n : node.Contents) × IsPieceOf file (Node n) × (bytes ≡ spelling n)

item_node : (o : Option node.Contents) (queue : List (List ℕ)) (seg : KindSegment) (file : List ℕ) → AllByRecursion (IsPieceOf file) (turn_of o queue)
    → IsItem o queue seg → seg.kind ≡ Tree → IsNodeOfFile file seg.segment.bytes
item_node (Some n) queue seg file pieces is tree = (n, pieces.0, ap (λ (x : KindSegment). x.segment.bytes) is)
item_node None [] seg file pieces is tree = absurd is
item_node None (x ∷ xs) seg file pieces is tree = absurd (let kinds = ap (λ (y : KindSegment). y.kind) is in cc)

piece_node : (file : List ℕ) (seg : KindSegment) → HasPieceOf file seg → seg.kind ≡ Tree → IsNodeOfFile file seg.segment.bytes
piece_node file seg (Data bytes, piece, is) tree = absurd (let kinds = ap (λ (y : KindSegment). y.kind) is in cc)
piece_node file seg (Node n, piece, is) tree = (n, piece, ap (λ (x : KindSegment). x.segment.bytes) is)

module _ (s : SessionState) (h : History) (has : HasHistory s h) (given : List ℕ) (given_is : h.given ≡ given) where
  whole : h.given ++ [] ≡ given
  whole = append-nil h.given ∙ given_is

  offered_node : (seg : KindSegment) → IsOffered s seg → seg.kind ≡ Tree → IsNodeOfFile given seg.segment.bytes
  offered_node seg offered tree =
      subst (λ (file : List ℕ). IsNodeOfFile file seg.segment.bytes) whole
      (item_node (turn_node s) s.queue seg (h.given ++ []) (turns_are_pieces s h [] has (λ ended. refl)) offered.is tree)

  -- each segment of what is offered is a piece
  sealed_nodes : (kind : Kind) → AllSegments (λ k x. k ≡ Tree → IsNodeOfFile given x.bytes) (offered_in s kind)
  sealed_nodes kind = each_of (λ k x. k ≡ Tree → IsNodeOfFile given x.bytes) kind (offered_in s kind) (offer_kinds s kind (session_of s h has))
      (all_then (λ x. HasPieceOf (h.given ++ []) (record { kind = kind; segment = x })) (λ x. kind ≡ Tree → IsNodeOfFile given x.bytes)
      (segments_of_all (offered_in s kind))
      (λ x piece tree. subst (λ (file : List ℕ). IsNodeOfFile file x.bytes) whole (piece_node (h.given ++ []) (record { kind = kind; segment = x }) piece tree))
      (offered_are_pieces s h [] has (λ ended. refl) kind))

-- each node that a step has, which is due, is one of what was given
pub due_node : (s : Session) (step : Asked (List ℕ)) (seg : KindSegment) → IsDueStep of_files s step → HasSegment step seg → seg.kind ≡ Tree
    → IsNodeOfFile s.given seg.segment.bytes
due_node s (asked.Claim offered) seg (dues.Claim, is, asks) one tree =
    subst (λ (x : KindSegment). IsNodeOfFile s.given x.segment.bytes) (sym one)
    (offered_node is.session is.history is.has s.given is.given_is offered asks (ap (λ (x : KindSegment). x.kind) (sym one) ∙ tree))
due_node s (asked.Seal offered) seg (dues.Seal kind, is, asks) one tree =
    by offered one (subst (AllSegments (λ k x. k ≡ Tree → IsNodeOfFile s.given x.bytes)) (sym asks)
    (sealed_nodes is.session is.history is.has s.given is.given_is kind))
  where
    by : (cs : List Contents) → HasSegment (asked.Seal cs) seg → AllSegments (λ k x. k ≡ Tree → IsNodeOfFile s.given x.bytes) cs → IsNodeOfFile s.given seg.segment.bytes
    by [] none each = absurd none
    by (c ∷ cs) (inl (kind_is, there)) each =
        one_of (λ x. c.kind ≡ Tree → IsNodeOfFile s.given x.bytes) c.segments seg.segment each.0 there (sym kind_is ∙ tree)
    by (c ∷ cs) (inr later) each = by cs later each.1
due_node s (asked.Claim offered) seg (dues.Seal kind, is, asks) one tree = absurd asks
due_node s (asked.Claim offered) seg (dues.Nothing, is, asks) one tree = absurd asks
due_node s (asked.Seal offered) seg (dues.Claim, is, asks) one tree = absurd asks
due_node s (asked.Seal offered) seg (dues.Nothing, is, asks) one tree = absurd asks
due_node s step seg due one tree = absurd one

-- ---- nodes of one digest

same_digest : (a b : ℕ) (xs ys : List ℕ) → a ∷ xs ≡ b ∷ ys → xs ≡ ys
same_digest a b xs ys is = cc

first_same : (a b : ℕ) (xs ys : List ℕ) → a ∷ xs ≡ b ∷ ys → a ≡ b
first_same a b xs ys is = cc

same_are_same : (at : Difference) (offered held : List ℕ) → offered ≡ held → DifferBy at offered held → ⊥
same_are_same (Length mine other) offered held same is = is.2 (is.0 ∙ ap length same ∙ sym is.1)
same_are_same (Byte place mine other) offered held same is = is.5 (sym is.3 ∙ ap (byte_at place) same ∙ is.4)

-- a segment is among D, and a node among S
abbrev pub PieceAmong : (D S : List ℕ → Type 0) → Piece → Type 0
PieceAmong D S (Data bytes) = D bytes
PieceAmong D S (Node n) = S (spelling n)

module _ (D S : List ℕ → Type 0) (no_data : HasNoCollisions D) (no_nodes : HasNoCollisions S) where
  same_bytes : (p q : Piece) (key : List ℕ) → PieceAmong D S p → PieceAmong D S q → key ≡ piece_key p → key ≡ piece_key q → piece_bytes p ≡ piece_bytes q
  same_bytes (Data a) (Data b) key one two one_key two_key = no_data a b one two (same_digest 0 0 (sha256 a) (sha256 b) (sym one_key ∙ two_key))
  same_bytes (Node n) (Node m) key one two one_key two_key =
      no_nodes (spelling n) (spelling m) one two (same_digest 1 1 (sha256 (spelling n)) (sha256 (spelling m)) (sym one_key ∙ two_key))
  same_bytes (Data a) (Node m) key one two one_key two_key = absurd (omega (arith, first_same 0 1 (sha256 a) (sha256 (spelling m)) (sym one_key ∙ two_key)))
  same_bytes (Node n) (Data b) key one two one_key two_key = absurd (omega (arith, first_same 1 0 (sha256 (spelling n)) (sha256 b) (sym one_key ∙ two_key)))

  pub no_twins : (given : List ℕ) (ended : Bool) (key : List ℕ) → ((p : Piece) → IsOfGiven given ended p → PieceAmong D S p) → HasTwins given ended key → ⊥
  no_twins given ended key among twins =
      twins.differ (same_bytes twins.one twins.other key (among twins.one twins.one_of) (among twins.other twins.other_of) twins.one_key twins.other_key)

  pub no_clash : (content : List ℕ) (seg : KindSegment) (key : List ℕ) (at : Difference) → (seg.kind ≡ Tree → S seg.segment.bytes)
      → ((bytes : List ℕ) → IsHeldNode bytes content → S bytes) → ClashesWith seg content key at → ⊥
  no_clash content seg key at own held clash =
      let digest : List ℕ = sha256 seg.segment.bytes in
      let key_is : key ≡ key_of 1 digest = clash.key_is ∙ ap (λ (kind : Kind). segment_key kind seg.segment) clash.kind in
      let found : List ℕ = bytes_at clash.copy.place content in
      let is_held : S found =
      held found (clash.store, (clash.right, (digest, (clash.copy, (ap (newest 0 clash.store.held) (sym key_is) ∙ clash.copy_is, refl))))) in
      same_are_same at seg.segment.bytes found (sym (no_nodes found seg.segment.bytes is_held (own clash.kind) clash.digest)) clash.differ
