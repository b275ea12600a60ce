-- Over a disk that tells its content, a source is not copied, and what was copied is not written, for want of memory or of an id alone, or as the disk failed.
use Rattle.gc_sweep.proofs.Prelude.{length, slot_at, ◌≡◌, ◌≢◌, inl, inr, ℕ, ◌+◌, List, [], ◌∷◌, drop, get_or, Option, Some, None, refl, sym, ◌∙◌, ap, subst, sha256, Entry, Kind, Place, kind_byte, PlaceMap, Contents, HeaderValue, IsCopyRefusal, Planned, Source, planned, source_of, Shows, DiskView, shown_content, LiveKeys, Refusal, Memory, entry_key, HoldSlots, IsPartialIndexOf, place_of, bytes_at, slot_held, RepresentsSlots, SlotTable, Tables, CopyNext, Sweep, IsCopyStepRefusal, HasNext, IsSweeping}
use Rattle.std.specs.Prelude.{slice_get}
use Rattle.base_model.specs.Bytes.{range}
use Rattle.container_log.specs.Faults.{IsDamage}
use Rattle.container_log.specs.Parts.{ReadAt}
use Rattle.container_meta.proofs.Again.{header_again, spelled_in}
use Rattle.copy_forward.specs.Copying.{IsSourceRefusal, copy_task}
use Rattle.copy_forward.specs.Entries.{IsRemoveRefusal}
use Rattle.copy_forward.specs.Headers.{IsHeaderRefusal}
use Rattle.copy_forward.specs.Flushing.{IsFlushRefusal}
use Rattle.copy_forward.specs.Planning.{IsOneRefusal, IsPlanRefusal, IsStuck}
use Rattle.copy_forward.proofs.Tabled.{never_other}
use Rattle.disk_format.specs.Layout.{data_at}
use Rattle.disk_format.specs.declared.why.Why.{Why}
use Rattle.refusals.specs.declared.refusal.Refusal.TheVariants.{Corrupt, Damaged, DiskRead, DiskWrite, Numbers}
use Rattle.store_model.specs.Image.{AreCopies}
use Rattle.store_model.proofs.Copies.{copy_digest}
use Rattle.gc_sweep.specs.Copying.{CopiesNothing, copy_step}
use Rattle.gc_sweep.specs.Flushing.{IsFlushStepRefusal}
use Rattle.gc_sweep.proofs.InSlots.{copy_at, copy_of, header_at, source_old}

-- no memory, or a call of the disk that failed
abbrev pub IsFailure : Refusal → Type 0
IsFailure Memory = Unit {0}
IsFailure DiskRead = Unit {0}
IsFailure DiskWrite = Unit {0}
IsFailure refusal = ⊥

module _ (index : PlaceMap) (held : List (Option HeaderValue)) (image : List ℕ) (stand : HoldSlots 0 held image) (copies : AreCopies 0 held image)
    (partial : IsPartialIndexOf held index) (t : SlotTable)
    (slots : RepresentsSlots held t) (old new : DiskView) (content : old.content ≡ Some image) where
  -- the header of a slot that has a container keeps the format
  header_right : (slot : ℕ) (h : HeaderValue) (why : Why) → slice_get held slot ≡ Some (Some h) → IsDamage (ReadAt old new (slot_at slot)) why → ⊥
  header_right slot h why there damage =
      let is = slot_held slot held (Some h) image stand there in
      let read : range (slot_at slot) (length damage.bytes) image ≡ damage.bytes =
      shown_content old new (λ (i : List ℕ). range (slot_at slot) (length damage.bytes) i ≡ damage.bytes) image damage.are_found content in
      let good = header_again damage.bytes h damage.first.long (spelled_in h damage.bytes image (slot_at slot) damage.first.long read is.0 is.1) in
      let bad = damage.first.first in
      absurd (let both = sym good ∙ bad in cc)

  header_fails : (slot : ℕ) (h : HeaderValue) → slice_get held slot ≡ Some (Some h) → (refusal : Refusal) → IsHeaderRefusal t old new slot refusal → IsFailure refusal
  header_fails slot h there Memory is = tt
  header_fails slot h there DiskRead is = tt
  header_fails slot h there (Damaged at why) (at_is, inl damage) = header_right slot h why there damage
  header_fails slot h there (Damaged at why) (at_is, inr other) =
      never_other held t slot h image old new why slots there (slot_held slot held (Some h) image stand there) content other
  header_fails slot h there _ is = absurd is

  module _ (live : LiveKeys) (slot : ℕ) (kind : Kind) where
    abbrev src : Source
    src = source_of (Some index) live slot kind

    one_fails : (e : Entry) (buffer : Contents) (refusal : Refusal) → IsOneRefusal src (Shows old new) e buffer refusal → IsFailure refusal
    one_fails e buffer Memory cause = tt
    one_fails e buffer DiskRead cause = tt
    one_fails e buffer (Damaged at why) cause = absurd (let wrong : Some index ≡ None = cause in cc)
    one_fails e buffer (Corrupt at offset count want got) ((copy, live_key), (lacks, (slot_is, offset_is, count_is, want_is, differ, found))) =
        let here = copy_at index kind slot e (copy index refl) in
        let newest = copy_of held index partial (entry_key kind e) (place_of slot e) here in
        let digest : sha256 (bytes_at (place_of slot e) image) ≡ e.digest =
        subst (λ (p : Place). sha256 (bytes_at p image) ≡ e.digest) newest.1.1 (copy_digest held (kind_byte kind) e.digest image newest.0 copies newest.1.0) in
        let read : range (data_at at + offset) count image ≡ found.bytes = shown_content old new
        (λ (i : List ℕ). range (data_at at + offset) count i ≡ found.bytes) image found.there content in
        let bytes : bytes_at (place_of slot e) image ≡ found.bytes =
        ap (λ (n : ℕ). range (data_at n + e.offset) e.length image) (sym slot_is) ∙ ap (λ (n : ℕ). range (data_at at + n) e.length image) (sym offset_is)
        ∙ ap (λ (n : ℕ). range (data_at at + offset) n image) (sym count_is)
        ∙ read in
        absurd (differ (want_is ∙ sym digest ∙ ap sha256 bytes ∙ found.digest_is))
    one_fails e buffer _ cause = absurd cause.1.1

    stuck_fails : (es : List Entry) (before : Planned) (refusal : Refusal) → IsStuck src (Shows old new) es before refusal → IsFailure refusal
    stuck_fails [] before refusal cause = absurd cause
    stuck_fails (e ∷ es) before refusal (inl cause) = one_fails e before.buffer refusal cause
    stuck_fails (e ∷ es) before refusal (inr (mid, (one, cause))) = stuck_fails es mid refusal cause

    plan_fails : (es : List Entry) (before : Planned) (refusal : Refusal) → IsPlanRefusal src (Shows old new) es before refusal → IsFailure refusal
    plan_fails es before Memory cause = tt
    plan_fails es before refusal cause = stuck_fails es before refusal cause

  remove_fails : (refusal : Refusal) → IsRemoveRefusal (Some index) refusal → IsFailure refusal
  remove_fails DiskWrite cause = tt
  remove_fails (Damaged at why) cause = absurd (let wrong : Some index ≡ None = cause in cc)
  remove_fails _ cause = absurd cause

  -- a container that stands is looked at
  source_fails : (live : LiveKeys) (slot from : ℕ) (h : HeaderValue) (buffer : Contents) (refusal : Refusal) → slice_get held slot ≡ Some (Some h)
      → IsSourceRefusal (copy_task t (Some index) live slot from buffer) old new refusal
      → IsFailure refusal
  source_fails live slot from h buffer refusal there (inl header) = header_fails slot h there refusal header
  source_fails live slot from h buffer refusal there (inr (g, tabled, shown, kind, few, plan)) = plan_fails live slot g.kind (drop from g.entries) (planned buffer []) refusal plan

  copy_fails : (live : LiveKeys) (slot from : ℕ) (h : HeaderValue) (buffer : Contents) (refusal : Refusal) → slice_get held slot ≡ Some (Some h)
      → IsCopyRefusal (copy_task t (Some index) live slot from buffer) old new refusal
      → IsFailure refusal
  copy_fails live slot from h buffer refusal there (inl cause) = source_fails live slot from h buffer refusal there cause
  copy_fails live slot from h buffer refusal there (inr cause) = remove_fails refusal cause

  -- and so is a source
  pub copying_fails : (live : LiveKeys) (snapshot source entry : ℕ) (s : Sweep) → IsSweeping t snapshot s → s.next ≡ CopyNext source entry → (refusal : Refusal)
      → IsCopyStepRefusal (copy_step t live (Some index) source entry s) old new refusal → IsFailure refusal
  copying_fails live snapshot source entry s under stage refusal cause = by_refusal refusal cause
    where
      nothing : (r : Refusal) → CopiesNothing (copy_step t live (Some index) source entry s) old new r → IsFailure r
      nothing r none =
          let has : HasNext t s (CopyNext source entry) = subst (HasNext t s) stage under.next_is in
          let at = header_at held t slots none.slot (get_or s.sources.items source 0) none.is_source.id_is (source_old held t snapshot s under source has.0).0 in
          copy_fails live none.slot entry at.0 none.filling r at.1.0 none.cause

      by_refusal : (r : Refusal) → IsCopyStepRefusal (copy_step t live (Some index) source entry s) old new r → IsFailure r
      by_refusal Memory cause = tt
      by_refusal r cause = nothing r cause

-- what was copied is not written, where an id is left
flush_fails : (index : PlaceMap) (refusal : Refusal) → IsFlushRefusal (Some index) refusal → IsFailure refusal
flush_fails index Memory cause = tt
flush_fails index DiskRead cause = tt
flush_fails index DiskWrite cause = tt
flush_fails index (Damaged at why) cause = absurd (let wrong : Some index ≡ None = cause in cc)
flush_fails index _ cause = absurd cause

pub flushing_fails : (index : PlaceMap) (t : Tables) (refusal : Refusal) → refusal ≢ Numbers → IsFlushStepRefusal t (Some index) refusal → IsFailure refusal
flushing_fails index t Memory other cause = tt
flushing_fails index t Numbers other cause = absurd (other refl)
flushing_fails index t refusal other cause = flush_fails index refusal cause.1
