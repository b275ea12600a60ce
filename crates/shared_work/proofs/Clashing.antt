-- Where no two different nodes have one digest, none clashes.
use Rattle.std.proofs.Common.{◌≡◌, inl, inr, ◌+◌, ℕ, zero, suc, true, List, [], ◌∷◌, ◌++◌, length, take, Option, Some, None, refl, sym, ap, ◌∙◌, subst}
use Rattle.std.specs.List.{AllByRecursion, Contains}
use Rattle.base_model.specs.Bytes.{byte_at, key_of}
use Rattle.sha2.specs.Sha256.{sha256}
use Rattle.container_meta.specs.declared.kind.Kind.{Kind}
use Rattle.container_meta.specs.declared.kind.Kind.TheVariants.{Tree}
use Rattle.container_meta.specs.Segments.{Contents, KindSegment, segment_key}
use Rattle.merkle_file.specs.Node as node
use Rattle.merkle_file.specs.Node.{spelling}
use Rattle.actor_parts.specs.Asking.{Ask}
use Rattle.actor_parts.specs.StepValue as steps
use Rattle.load_stream.specs.Load.{LoadState}
use Rattle.refusals.specs.declared.refusal.Difference.{Difference}
use Rattle.refusals.specs.declared.refusal.Difference.TheVariants.{Length, Byte}
use Rattle.ingest_session.specs.declared.due.Due.{Due}
use Rattle.ingest_session.specs.declared.due.Due.TheVariants as dues
use Rattle.ingest_session.specs.Due.{due_in, offered_in, segments_of_all}
use Rattle.ingest_session.specs.History.{History, turn_of}
use Rattle.ingest_session.specs.Moving.{IsItem, IsOffered}
use Rattle.ingest_session.specs.State.{SessionState, turn_node}
use Rattle.ingest_session.proofs.Facts.{turns_are_pieces}
use Rattle.ingest_session.proofs.Members.{all_then, one_of}
use Rattle.ingest_session.proofs.Offered.{offered_are_pieces}
use Rattle.ingest_session.proofs.SealsSome.{offer_kinds}
use Rattle.ingest_session.proofs.Waiting.{session_of}
use Rattle.store_model.specs.Collisions.{HasNoCollisions}
use Rattle.store_model.specs.Pieces.{Data, HasPieceOf, IsPieceOf, Node}
use Rattle.store_model.specs.Slots.{newest}
use Rattle.store_model.specs.Trees.{bytes_at}
use Rattle.store_machine.specs.Needs.{DifferBy}
use Rattle.store_machine.specs.Offers.{AllSegments, AnyByRecursion}
use Rattle.store_machine.proofs.OfOneKind.{each_of}
use Rattle.core_machine.specs.Bytes.{ClashesWith, OneClashes}
use Rattle.session_turns.specs.Owning.{IsAskedFor}
use Rattle.ingest_workers.specs.Giving.{SessionOf}
use Rattle.ingest_workers.specs.Owing.{IsDueOf, stream_of}
use Rattle.ingest_workers.proofs.Rightly.{begun, none_left, rest_of}
use Rattle.shared_work.specs.Clashing.{IsHeldNode, IsNodeOf}

-- ---- a node that a step has is one of its file's tree

-- the bytes are a node of the tree of a file
abbrev pub IsNodeOfFile : List ℕ → List ℕ → Type 0
IsNodeOfFile file bytes = (n : node.Contents) × (IsPieceOf file (Node n) × (bytes ≡ spelling n))

item_node : (o : Option node.Contents) (queue : List (List ℕ)) (seg : KindSegment) (file : List ℕ) → AllByRecursion (IsPieceOf file) (turn_of o queue)
    → IsItem o queue seg → seg.kind ≡ Tree → IsNodeOfFile file seg.segment.bytes
item_node (Some n) queue seg file pieces is tree = (n, (pieces.0, ap (λ (x : KindSegment). x.segment.bytes) is))
item_node None [] seg file pieces is tree = absurd is
item_node None (x ∷ xs) seg file pieces is tree = absurd (let kinds = ap (λ (y : KindSegment). y.kind) is in cc)

piece_node : (file : List ℕ) (seg : KindSegment) → HasPieceOf file seg → seg.kind ≡ Tree → IsNodeOfFile file seg.segment.bytes
piece_node file seg (Data bytes, piece, is) tree = absurd (let kinds = ap (λ (y : KindSegment). y.kind) is in cc)
piece_node file seg (Node n, piece, is) tree = (n, (piece, ap (λ (x : KindSegment). x.segment.bytes) is))

module _ (file : LoadState) (s : SessionState) (h : History) (of : SessionOf file s h) where
  abbrev pub more : List ℕ
  more = rest_of file h.given

  pub whole : h.given ++ more ≡ stream_of file
  whole = begun file h.given of.begins

  pub follow : s.ended ≡ true → more ≡ []
  follow ended = none_left file h.given (of.whole ended)

  offered_node : (seg : KindSegment) → IsOffered s seg → seg.kind ≡ Tree → IsNodeOfFile (stream_of file) seg.segment.bytes
  offered_node seg offered tree =
      subst (λ (l : List ℕ). IsNodeOfFile l seg.segment.bytes) whole
      (item_node (turn_node s) s.queue seg (h.given ++ more) (turns_are_pieces s h more of.has follow) offered.is tree)

  sealed_nodes : (kind : Kind) → AllSegments (λ k x. k ≡ Tree → IsNodeOfFile (stream_of file) x.bytes) (offered_in s kind)
  sealed_nodes kind = each_of (λ k x. k ≡ Tree → IsNodeOfFile (stream_of file) x.bytes) kind (offered_in s kind) (offer_kinds s kind (session_of s h of.has))
      (all_then (λ x. HasPieceOf (h.given ++ more) (record { kind = kind; segment = x })) (λ x. kind ≡ Tree → IsNodeOfFile (stream_of file) x.bytes)
      (segments_of_all (offered_in s kind))
      (λ x piece tree. subst (λ (l : List ℕ). IsNodeOfFile l x.bytes) whole (piece_node (h.given ++ more) (record { kind = kind; segment = x }) piece tree))
      (offered_are_pieces s h more of.has follow kind))

-- ---- nodes of one digest

same_are_same : (at : Difference) (offered held : List ℕ) → offered ≡ held → DifferBy at offered held → ⊥
same_are_same (Length mine other) offered held same is = is.2 (is.0 ∙ ap length same ∙ sym is.1)
same_are_same (Byte place mine other) offered held same is = is.5 (sym is.3 ∙ ap (byte_at place) same ∙ is.4)

module _ (S : List ℕ → Type 0) (no_nodes : HasNoCollisions S) (content : List ℕ) (held : (bytes : List ℕ) → IsHeldNode bytes content → S bytes) where
  no_clash : (seg : KindSegment) (key : List ℕ) (at : Difference) → (seg.kind ≡ Tree → S seg.segment.bytes) → ClashesWith seg content key at → ⊥
  no_clash seg key at own clash =
      let digest : List ℕ = sha256 seg.segment.bytes in
      let key_is : key ≡ key_of 1 digest = clash.key_is ∙ ap (λ (kind : Kind). segment_key kind seg.segment) clash.kind in
      let found : List ℕ = bytes_at clash.copy.place content in
      let is_held : S found =
      held found (clash.store, (clash.right, (digest, (clash.copy, (ap (newest 0 clash.store.held) (sym key_is) ∙ clash.copy_is, refl))))) in
      same_are_same at seg.segment.bytes found (sym (no_nodes found seg.segment.bytes is_held (own clash.kind) clash.digest)) clash.differ

  -- so none of the containers that are sealed has one
  none_clash : (key : List ℕ) (at : Difference) (cs : List Contents) (k : ℕ) → AllSegments (λ kind x. kind ≡ Tree → S x.bytes) cs
      → AnyByRecursion (λ c. OneClashes c content key at) (take k cs) → ⊥
  none_clash key at cs zero each none = none
  none_clash key at [] (suc k) each none = none
  none_clash key at (c ∷ cs) (suc k) each (inl one) =
      no_clash (record { kind = c.kind; segment = one.1.0 }) key at (one_of (λ x. c.kind ≡ Tree → S x.bytes) c.segments one.1.0 each.0 (one.0, one.1.1.0)) one.1.1.1
  none_clash key at (c ∷ cs) (suc k) each (inr later) = none_clash key at cs k each.1 later

  -- ---- a step that is due

  module _ (own : ℕ → List LoadState) (actor : ℕ) (nodes : (bytes : List ℕ) → IsNodeOf own bytes → S bytes) (before : List Ask) where
    node_of : (file : LoadState) → Contains (own actor) file → (bytes : List ℕ) → IsNodeOfFile (stream_of file) bytes → S bytes
    node_of file there bytes is = nodes bytes (actor, file, there, is)

    all_nodes : (file : LoadState) → Contains (own actor) file → (cs : List Contents) → AllSegments (λ k x. k ≡ Tree → IsNodeOfFile (stream_of file) x.bytes) cs
        → AllSegments (λ k x. k ≡ Tree → S x.bytes) cs
    all_nodes file there [] each = tt
    all_nodes file there (c ∷ cs) each = (
      all_then (λ x. c.kind ≡ Tree → IsNodeOfFile (stream_of file) x.bytes) (λ x. c.kind ≡ Tree → S x.bytes) c.segments
          (λ x is tree. node_of file there x.bytes (is tree)) each.0,
      all_nodes file there cs each.1,
    )

    pub claim_clear : (seg : KindSegment) (key : List ℕ) (at : Difference) → IsDueOf (own actor) before (steps.Claim seg) → ClashesWith seg content key at → ⊥
    claim_clear seg key at due clash =
        no_clash seg key at (λ tree. node_of due.file due.is_file seg.segment.bytes
        (offered_node due.file due.session due.history due.giving.of_file seg (by (due_in due.session) due.due) tree)) clash
      where
        by : (d : Due) → IsAskedFor d due.session (steps.Claim seg) → IsOffered due.session seg
        by dues.Claim asks = asks
        by d asks = absurd asks

    pub seal_clear : (offered : List Contents) (key : List ℕ) (at : Difference) (k : ℕ) → IsDueOf (own actor) before (steps.Seal offered)
        → AnyByRecursion (λ c. OneClashes c content key at) (take k offered) → ⊥
    seal_clear offered key at k due clash = none_clash key at offered k (by (due_in due.session) due.due) clash
      where
        by : (d : Due) → IsAskedFor d due.session (steps.Seal offered) → AllSegments (λ kind x. kind ≡ Tree → S x.bytes) offered
        by (dues.Seal kind) asks =
            subst (AllSegments (λ k x. k ≡ Tree → S x.bytes)) (sym asks)
            (all_nodes due.file due.is_file (offered_in due.session kind) (sealed_nodes due.file due.session due.history due.giving.of_file kind))
        by d asks = absurd asks
