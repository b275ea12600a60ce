-- A piece of a file that is refused for the copy of its key that is held: why, by what reads since a moment returned.
use Rattle.backup_engine.proofs.Prelude.{◌≡◌, inl, inr, ℕ, List, length, Some, option_map, sym, ◌∙◌, ap, subst, sha256, Shows, DiskView, IsLater, Kind, Tree, Place, PlaceMap, KindSegment, node_digest, spelling, Byte, Length, Refusal, Store, Piece, Data, Node, HasPieceOf, IsPieceOf, piece_segment, newest, IsPartialIndexOf, IsNodeRefusal, IsUnlike, Represents, key_of_seg, CoreState, all_then, IsUnlikeNode, ReadsSince, room_in, Ingest, IsPiece, IsPutRefusal}
use Rattle.merkle_file.specs.Node.{Contents}
use Rattle.refusals.specs.declared.refusal.Refusal.TheVariants as refusals
use Rattle.store_model.specs.Slots.{Copy}
use Rattle.store_model.proofs.Lookups.{finds}
use Rattle.backup_engine.proofs.KeptPieces.{is_piece}

-- ---- what reads showed

-- later reads showed it since an earlier moment
pub shown_since : (first old new : DiskView) → IsLater first old → new.content ≡ old.content → (P : List ℕ → Type 0) → Shows old new P → ReadsSince first new P
shown_since first old new later same P shown = record {
  parts = shown.parts;
  returned = all_then (λ part. new.read_returned old.clock part.at part.bytes) (λ part. new.read_returned first.clock part.at part.bytes) shown.parts
      (λ part was. new.returned_earlier first.clock old.clock part.at part.bytes later.clock_is was) shown.returned;
  known = λ image is. shown.known image (sym same ∙ is);
  shows = λ image long has. shown.shows image (long ∙ sym later.size_is) has;
}

-- why a copy isn't given follows from what follows from what is shown
node_refusal_so : (shown more : (List ℕ → Type 0) → Type 0) → ((P : List ℕ → Type 0) → shown P → more P) →
    (kind : Kind) (digest offered : List ℕ) (place : Place) (refusal : Refusal) → IsNodeRefusal shown kind digest offered place refusal
    → IsNodeRefusal more kind digest offered place refusal
node_refusal_so shown more each kind digest offered place (refusals.Clash key (Byte at mine other)) is = (is.0, each _ is.1)
node_refusal_so shown more each kind digest offered place (refusals.Clash key (Length mine other)) is = absurd is
node_refusal_so shown more each kind digest offered place refusals.DiskRead is = tt
node_refusal_so shown more each kind digest offered place (refusals.Corrupt slot offset count want got) is =
    (is.0, is.1, is.2, is.3, is.4, record { bytes = is.5.bytes; long = is.5.long; digest_is = is.5.digest_is; there = each _ is.5.there })
node_refusal_so shown more each kind digest offered place refusal is = absurd is

-- ---- a node

-- a piece of a tree container is a node
node_piece : (file : List ℕ) (seg : KindSegment) (p : Piece) → IsPieceOf file p → seg ≡ piece_segment p → seg.kind ≡ Tree → (n : Contents) × IsPieceOf file (Node n)
    × (seg ≡ piece_segment (Node n))
node_piece file seg (Data bytes) piece is tree = absurd (let both = sym (ap (λ (x : KindSegment). x.kind) is) ∙ tree in cc)
node_piece file seg (Node n) piece is tree = (n, piece, is)

module _ (name file : List ℕ) (first : DiskView) (old new : CoreState) (later : IsLater first old.disk) (same : new.disk.content ≡ old.disk.content) (places : PlaceMap)
    (was : old.known ≡ Some places) (told : new.known ≡ Some places) (seg : KindSegment) (piece : HasPieceOf file seg) where
  abbrev IsOther : Refusal → Type 0
  IsOther refusal = IsUnlike old.disk.size old.known (Shows old.disk new.disk) seg.kind (sha256 seg.segment.bytes) seg.segment.bytes refusal

  module _ (store : Store) (represents : Represents store new.known new.tables) where
    abbrev index : IsPartialIndexOf store.held places
    index = represents.index_is_newest places told

    -- the copy of its key has another length
    clash_by_length : (key : List ℕ) (offered held : ℕ) → IsOther (refusals.Clash key (Length offered held)) →
        (IsPiece file key offered) × ((room_in (Ingest name) store).held key ≡ Some held)
    clash_by_length key offered held unlike =
        let copy = finds store places (key_of_seg seg) unlike.place index (unlike.there places was) in
        let clash = unlike.refused in (
          subst (λ (k : List ℕ). IsPiece file k offered) (sym clash.0) (subst (λ (n : ℕ). IsPiece file (key_of_seg seg) n) (sym clash.1) (is_piece file seg piece)),
          ap (room_in (Ingest name) store).held clash.0 ∙ ap (option_map (λ (c : Copy). c.place.length)) copy.1 ∙ ap (λ (p : Place). Some p.length) copy.2
              ∙ ap (λ (n : ℕ). Some n) (sym clash.2),
        )

    -- that of a node, of its length, isn't the same
    unlike_node : (refusal : Refusal) (unlike : IsOther refusal) → seg.kind ≡ Tree → unlike.place.length ≡ length seg.segment.bytes
        → IsNodeRefusal (Shows old.disk new.disk) seg.kind (sha256 seg.segment.bytes) seg.segment.bytes unlike.place refusal →
        IsUnlikeNode file store (ReadsSince first new.disk) refusal
    unlike_node refusal unlike tree long refused =
        let node = node_piece file seg piece.0 piece.1 piece.2 tree in
        let copy = finds store places (key_of_seg seg) unlike.place index (unlike.there places was) in
        let since = node_refusal_so (Shows old.disk new.disk) (ReadsSince first new.disk) (shown_since first old.disk new.disk later same) seg.kind (sha256 seg.segment.bytes)
        seg.segment.bytes unlike.place refusal refused in
        let here = subst (λ (x : KindSegment). IsNodeRefusal (ReadsSince first new.disk) x.kind (sha256 x.segment.bytes) x.segment.bytes unlike.place refusal) node.2 since in
        record {
          node = node.0;
          piece = node.1;
          copy = copy.0;
          copy_is = ap (λ (x : KindSegment). newest 0 store.held (key_of_seg x)) (sym node.2) ∙ copy.1;
          long = ap (λ (p : Place). p.length) copy.2 ∙ long ∙ ap (λ (x : KindSegment). length x.segment.bytes) node.2;
          refused = subst (λ (p : Place). IsNodeRefusal (ReadsSince first new.disk) Tree (node_digest node.0) (spelling node.0) p refusal) (sym copy.2) here;
        }

  pub unlike_refused : (refusal : Refusal) → IsOther refusal → IsPutRefusal name file first new refusal
  unlike_refused refusals.DiskRead unlike = tt
  unlike_refused refusals.DiskWrite unlike = tt
  unlike_refused refusals.Memory unlike = tt
  unlike_refused (refusals.Clash key (Length offered held)) unlike = record {
    store_has = λ store represents valid free whole. let is = clash_by_length store represents key offered held unlike in inl (is.0, is.1, unlike.refused.3);
  }
  unlike_refused (refusals.Clash key (Byte at mine other)) unlike = record {
    store_has = λ store represents valid free whole.
        inr (unlike_node store represents (refusals.Clash key (Byte at mine other)) unlike unlike.refused.0 unlike.refused.1 unlike.refused.2);
  }
  unlike_refused (refusals.Corrupt slot offset count want got) unlike = record {
    store_has = λ store represents valid free whole.
        inr (unlike_node store represents (refusals.Corrupt slot offset count want got) unlike unlike.refused.0 unlike.refused.1 unlike.refused.2);
  }
  unlike_refused refusal unlike = absurd unlike.refused.2
