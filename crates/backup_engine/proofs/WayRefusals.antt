-- A claim, or a seal, on a way that was refused: why.
use Rattle.backup_engine.proofs.Prelude.{one_of, ◌≡◌, inl, ◌≤◌, ℕ, List, [], ◌∷◌, length, Some, None, option_map, Err, refl, sym, ◌∙◌, ap, subst, arith, AllByRecursion, Shows, Kind, PlaceMap, KindSegment, Segment, segment_key, Writing, PinMap, IsStepSegment, children_by, children_of, IsStep, Refusal, Store, IsValidFor, HasPieceOf, IsIndexOf, lacks, CoreStep, IndexesAll, KeepsTables, kept_of, CoreState, alone, room_in, Ingest, HasTwins, Way, AreNew, IsPutRefusal, PutRun}
use Rattle.std.proofs.Common.{take}
use Rattle.std.specs.FinMap as finite
use Rattle.container_meta.specs.Segments.{Contents}
use Rattle.actor_parts.specs.Kinds.{kind_of}
use Rattle.actor_parts.specs.Parts.{part_of}
use Rattle.actor_parts.specs.Segments.{first_unpinned}
use Rattle.actor_parts.specs.StepValue as asked
use Rattle.refusals.specs.declared.refusal.PartKind.TheVariants as kinds
use Rattle.refusals.specs.declared.refusal.Refusal.TheVariants as refusals
use Rattle.store_model.specs.Slots.{Copy}
use Rattle.store_model.proofs.Sound.{last_within}
use Rattle.ingest_steps.specs.Claiming.{DiffersFrom, IsClaimRefusal}
use Rattle.ingest_steps.specs.Offering.{AreCompared, IsFirstUnlikeIn, IsOfferRefusal, first_unpinned_in}
use Rattle.ingest_steps.proofs.PinList.{all_at}
use Rattle.store_core.proofs.ManySealed.{all_taken}
use Rattle.store_core.specs.Core.{IsDamage, KeepsUnlessBroken}
use Rattle.backup_engine.specs.Causes.{LacksPiece}
use Rattle.backup_engine.proofs.FirstActor.{by_first, kept_represents, no_other}
use Rattle.backup_engine.proofs.KeptPieces.{IsKeptChild, in_unpinned_twins, is_piece, kept_pieces, of_kind, unpinned_twins}
use Rattle.backup_engine.proofs.UnlikeCopies.{unlike_refused}
use Rattle.backup_engine.proofs.WayClaims.{claim, claim_made, claim_put, same_pins}
use Rattle.backup_engine.proofs.WaySeals.{AreAllNew, ArePieces, seal, seal_made, seal_put}
use Rattle.backup_engine.proofs.Ways.{way_later, with_last}

-- the first of these pieces, none of which the index has, is lacked
lacks_first : (name file : List ℕ) (kind : Kind) (ss : List Segment) (store : Store) (places : PlaceMap) → 1 ≤ length ss →
    AllByRecursion (λ s. HasPieceOf file (of_kind kind s)) ss → AreNew places kind ss → IsIndexOf store.held places
    → LacksPiece file (room_in (Ingest name) store)
lacks_first name file kind [] store places some pieces fresh index = absurd (omega (arith, some))
lacks_first name file kind (s ∷ ss) store places some pieces fresh index = (
  segment_key kind s,
  (length s.bytes, is_piece file (of_kind kind s) pieces.0, ap (option_map (λ (c : Copy). c.place.length)) (lacks store places (segment_key kind s) index fresh.0)),
)

module _ (C : Type 0) (state : C → CoreState) (files : List ℕ → Type 0) (opens : Kind → List Segment) (start old new : C) (w : Way C state files opens start old)
    (buf name file : List ℕ) (is : files file) where
  pieces_kept : AllByRecursion (HasPieceOf file) (kept_of w.steps)
  pieces_kept = kept_pieces name file w.steps (w.each name file is)

  -- ---- a claim

  module _ (seg : KindSegment) (right : IsStepSegment seg) (piece : (file : List ℕ) → files file → HasPieceOf file seg)
      (children : AllByRecursion (IsKeptChild (kept_of w.steps)) (children_of seg)) where
    child_unpinned : (key : List ℕ) (pins : PinMap) → part_of (state old).parts 0 ≡ Writing pins → first_unpinned seg pins ≡ Some key → HasTwins file key
    child_unpinned key pins writing unpinned =
        unpinned_twins file (kept_of w.steps) w.pins w.places w.kept pieces_kept (children_of seg) key children
        (subst (λ (p : PinMap). first_unpinned seg p ≡ Some key) (same_pins pins w.pins (sym writing ∙ w.writing)) unpinned)

    claim_cause : (refusal : Refusal) → (state new).disk.content ≡ (state old).disk.content → KeepsTables (state old) (state new)
        → IsClaimRefusal (part_of (state old).parts 0) seg (IsDamage (state old) (state new))
        (DiffersFrom (state old).disk.size (state old).known seg (Shows (state old).disk (state new).disk)) refusal
        → IsPutRefusal name file (state start).disk (state new) refusal
    claim_cause refusals.Memory same kept cause = tt
    claim_cause refusals.DiskRead same kept cause = tt
    claim_cause refusals.DiskWrite same kept cause = tt
    claim_cause (refusals.WrongPart kind) same kept cause = absurd (no_other kinds.Writing (part_of (state old).parts 0) (refusals.WrongPart kind) (ap kind_of w.writing) cause)
    claim_cause (refusals.Unpinned key) same kept cause = record { store_has = λ store represents valid free whole. inl (child_unpinned key cause.0 cause.1 cause.2) }
    claim_cause (refusals.Damaged at why) same kept cause = absurd (let other = sym w.known ∙ cause.1.0 in cc)
    claim_cause refusal same kept cause =
        unlike_refused name file (state start).disk (state old) (state new) (way_later C state files opens start old w) same w.places w.known (kept.index_is ∙ w.known) seg
        (piece file is) refusal cause.1

    pub way_unclaimed : (refusal : Refusal) → CoreStep (state old) (by_first (asked.Claim seg) (Err refusal) buf) (state new)
        → PutRun C state name file (Err refusal) start new × IsPutRefusal name file (state start).disk (state new) refusal
    way_unclaimed refusal step =
        let steps = claim_made C state files opens start old new w seg buf (Err refusal) step in (
          with_last C state files opens start old w name file (Err refusal) (claim C state files opens start old new w seg buf (Err refusal)) new is step
              (claim_put C state files opens start old new w seg buf right piece (Err refusal) name file is) refl (inl refl) tt,
          claim_cause refusal steps.made.effect.disk.only.content_is steps.made.effect.tables steps.made.row.0,
        )

  -- ---- a seal

  module _ (offered : List Contents) (right : IsStep (asked.Seal offered)) (pieces : (file : List ℕ) → files file → ArePieces file offered) (fresh : AreAllNew w.places offered)
      (children : AllByRecursion (λ c. AllByRecursion (λ x. AllByRecursion (IsKeptChild (kept_of w.steps)) (children_by c.kind x)) c.segments) offered) where
    one_unpinned : (key : List ℕ) (pins : PinMap) → part_of (state old).parts 0 ≡ Writing pins → first_unpinned_in offered pins ≡ Some key → HasTwins file key
    one_unpinned key pins writing unpinned =
        in_unpinned_twins file (kept_of w.steps) w.pins w.places w.kept pieces_kept offered key children
        (subst (λ (p : PinMap). first_unpinned_in offered p ≡ Some key) (same_pins pins w.pins (sym writing ∙ w.writing)) unpinned)

    -- no other copy is held of any
    none_unlike : (count : ℕ) (refusal : Refusal)
        → IsFirstUnlikeIn (state old).disk.size (state old).known (Shows (state old).disk (state new).disk) (take count offered) refusal → ⊥
    none_unlike count refusal unlike =
        let new_ones = one_of (λ c. AreNew w.places c.kind c.segments) (take count offered) unlike.contents
        (all_taken (λ c. AreNew w.places c.kind c.segments) count offered fresh) (unlike.number, unlike.contents_are) in
        let one = unlike.unlike in
        absurd (let both =
        sym (all_at (λ s. finite.get w.places (segment_key unlike.contents.kind s) ≡ None) unlike.contents.segments one.number one.within new_ones)
        ∙ one.unlike.there w.places w.known in cc)

    lacks_one : (store : Store) → IndexesAll store (state old).known → LacksPiece file (room_in (Ingest name) store)
    lacks_one store whole = by_first offered right.0.some right.0.segments (pieces file is) fresh
      where
        by_first : (cs : List Contents) → 1 ≤ length cs → AllByRecursion (λ c. 1 ≤ length c.segments) cs → ArePieces file cs → AreAllNew w.places cs
            → LacksPiece file (room_in (Ingest name) store)
        by_first [] some each are new_ones = absurd (omega (arith, some))
        by_first (c ∷ cs) some each are new_ones = lacks_first name file c.kind c.segments store w.places each.0 are.0 new_ones.0 (whole w.places w.known)

    module _ (size_is : (state new).disk.size ≡ (state old).disk.size) where
      seal_cause : (refusal : Refusal) → KeepsUnlessBroken refusal (state old) (state new)
          → IsOfferRefusal (part_of (state old).parts 0) (state old).tables (state old).disk.size (state old).known offered
          (AreCompared (state old).disk.size (state old).known (Shows (state old).disk (state new).disk)) refusal
          → IsPutRefusal name file (state start).disk (state new) refusal
      seal_cause refusals.Memory kept cause = tt
      seal_cause refusals.DiskRead kept cause = tt
      seal_cause refusals.DiskWrite kept cause = tt
      seal_cause (refusals.WrongPart kind) kept cause = absurd (no_other kinds.Writing (part_of (state old).parts 0) (refusals.WrongPart kind) (ap kind_of w.writing) cause)
      seal_cause (refusals.Unpinned key) kept cause = record { store_has = λ store represents valid free whole. inl (one_unpinned key cause.0 cause.1 cause.2) }
      seal_cause (refusals.Damaged at why) kept cause = absurd (let other = sym w.known ∙ cause.1.2 in cc)
      seal_cause (refusals.Full free) kept cause = record {
        store_has = λ store represents valid free whole.
            let before = kept_represents (state old) (state new) kept store represents in
            let so = cause.1.store_has store (alone store (state old).known (state old).tables before) (subst (λ (n : ℕ). IsValidFor n store) size_is valid) free in
            inl (lacks_one store (subst (IndexesAll store) kept.index_is whole), so.0, so.1);
      }
      seal_cause refusals.Numbers kept cause = record {
        store_has = λ store represents valid free whole.
            let before = kept_represents (state old) (state new) kept store represents in
            let sized = subst (λ (n : ℕ). IsValidFor n store) size_is valid in
            let so = cause.1.0.store_has store (alone store (state old).known (state old).tables before) sized free in
            inl (inl (
              lacks_one store (subst (IndexesAll store) kept.index_is whole),
              so,
              omega
                  (arith, last_within store.held valid.headers, w.ids.store_has store before sized free, cause.1.1),
            ));
      }
      seal_cause refusal kept cause = absurd (none_unlike (length cause.1.0) refusal cause.1.2)

    pub way_unsealed : (refusal : Refusal) → CoreStep (state old) (by_first (asked.Seal offered) (Err refusal) buf) (state new)
        → PutRun C state name file (Err refusal) start new × IsPutRefusal name file (state start).disk (state new) refusal
    way_unsealed refusal step =
        let steps = seal_made C state files opens start old new w offered buf (Err refusal) step in (
          with_last C state files opens start old w name file (Err refusal) (seal C state files opens start old new w offered buf (Err refusal)) new is step
              (seal_put C state files opens start old new w offered buf right pieces (Err refusal) name file is) refl (inl refl) tt,
          seal_cause steps.made.effect.disk.later.size_is refusal steps.made.effect.kept steps.made.row.0,
        )
