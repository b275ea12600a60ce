-- A node that was read otherwise than it was offered, by what other reads show of it.
use Rattle.backup_engine.proofs.Prelude.{◌≡◌, ◌≤◌, ℕ, List, [], ◌∷◌, sym, ◌∙◌, AllByRecursion, DiskView, IsLater, Kind, Tree, Place, node_digest, spelling, Length, Byte, Refusal, Clash, Corrupt, DiskRead, Store, WereFound, IsNodeRefusal, IsUnlikeNode, ReadsSince}
use Rattle.dd_disk.specs.Shows.{Part}
use Rattle.store_state.specs.Comparing.{IsCopyRefusal}

-- ---- what one thing shows another shows

module _ (shown other : (List ℕ → Type 0) → Type 0) (each : (P : List ℕ → Type 0) → shown P → other P) where
  pub found : (at count : ℕ) (digest : List ℕ) → WereFound shown at count digest → WereFound other at count digest
  found at count digest is = record { bytes = is.bytes; long = is.long; digest_is = is.digest_is; there = each _ is.there }

  pub copy_refusal : (place : Place) (digest : List ℕ) (refusal : Refusal) → IsCopyRefusal shown place digest refusal → IsCopyRefusal other place digest refusal
  copy_refusal place digest DiskRead is = is
  copy_refusal place digest (Corrupt slot offset count want got) is = (is.0, is.1, is.2, is.3, is.4, found _ count got is.5)
  copy_refusal place digest refusal is = absurd is

  node_refusal : (kind : Kind) (digest offered : List ℕ) (place : Place) (refusal : Refusal) → IsNodeRefusal shown kind digest offered place refusal →
      IsNodeRefusal other kind digest offered place refusal
  node_refusal kind digest offered place (Clash key (Byte at mine theirs)) is = (is.0, each _ is.1)
  node_refusal kind digest offered place (Clash key (Length mine theirs)) is = absurd is
  node_refusal kind digest offered place refusal is = copy_refusal place digest refusal is

  pub unlike_so : (given : List ℕ) (store : Store) (refusal : Refusal) → IsUnlikeNode given store shown refusal → IsUnlikeNode given store other refusal
  unlike_so given store refusal is = record {
    node = is.node;
    piece = is.piece;
    copy = is.copy;
    copy_is = is.copy_is;
    long = is.long;
    refused = node_refusal Tree (node_digest is.node) (spelling is.node) is.copy.place refusal is.refused;
  }

-- ---- reads since an earlier moment

returned_all : (first second third last : DiskView) (parts : List Part) → first.clock ≤ second.clock → second.clock ≤ third.clock → IsLater third last →
    AllByRecursion (λ part. third.read_returned second.clock part.at part.bytes) parts
    → AllByRecursion (λ part. last.read_returned first.clock part.at part.bytes) parts
returned_all first second third last [] before within later all = tt
returned_all first second third last (part ∷ parts) before within later all = (
  last.returned_earlier first.clock second.clock part.at part.bytes before (later.returned second.clock part.at part.bytes within all.0),
  returned_all first second third last parts before within later all.1,
)

pub reads_wider : (first second third last : DiskView) → IsLater first second → IsLater second third → IsLater third last → last.content ≡ third.content → (P : List ℕ → Type 0) →
    ReadsSince second third P → ReadsSince first last P
reads_wider first second third last before within later same P reads = record {
  parts = reads.parts;
  returned = returned_all first second third last reads.parts before.clock_is within.clock_is later reads.returned;
  known = λ image is. reads.known image (sym same ∙ is);
  shows = λ image long all. reads.shows image (long ∙ sym before.size_is) all;
}
