-- What the content of a disk adds to claims, seals and commits, so that they are steps of the machine of files.
use Rattle.core_machine.proofs.Prelude.{◌≡◌, inl, inr, ◌<◌, ◌≤◌, ℕ, zero, suc, List, [], ◌∷◌, length, take, Option, Some, None, Result, Ok, Err, refl, sym, ◌∙◌, ap, subst, arith, slice_get, AllByRecursion, Shows, shown_content, Root, MOST_FILE, Kind, Place, kind_byte, KindSegment, Segment, segment_at, segment_key, Answer, Refusal, Stored, Store, HasKey, IsPartialIndexOf, newest, bytes_at, store_once, length_of_copy, ClaimRow, CommitRow, SealRow, IsAt, IsHarmless, CoreState, data_level, FileMachine, IsLacked, HasCopy, AddsToAnswer, RootMachine, of_files, stored_in, TellsForgotten, answered_by, some_same}
use Rattle.std.proofs.Common.{IfErr}
use Rattle.std.specs.FinMap as finite
use Rattle.std.specs.List.{Contains}
use Rattle.sha2.specs.Sha256.{sha256}
use Rattle.base_model.specs.Bytes.{range}
use Rattle.container_meta.specs.declared.kind.Kind.TheVariants as kinds
use Rattle.container_meta.specs.Segments.{Contents}
use Rattle.actor_parts.specs.declared.step.Answer.TheVariants as answers
use Rattle.actor_parts.specs.Segments.{IsOfKind}
use Rattle.refusals.specs.declared.refusal.Difference.{Difference}
use Rattle.refusals.specs.declared.refusal.Difference.TheVariants.{Length, Byte}
use Rattle.refusals.specs.declared.refusal.Refusal.TheVariants as refusals
use Rattle.store_model.specs.Collisions.{Stands}
use Rattle.store_model.specs.Slots.{Copy}
use Rattle.store_model.specs.Steps.{FitsCopy, FitsHeld}
use Rattle.store_model.proofs.Copies.{copy_digest}
use Rattle.store_model.proofs.Lookups.{finds}
use Rattle.store_state.specs.Comparing.{FirstDifference, FitSoFar, FitsBytes, IsUnlike, IsFirstUnlike}
use Rattle.store_state.proofs.Compared.{held_all}
use Rattle.store_core.specs.Runs.{IsRightCommit, IsRootOf}
use Rattle.actor_parts.specs.Offers.{IsOffer}
use Rattle.ingest_steps.specs.Offering.{HasSlots, WereCompared}
use Rattle.store_core.proofs.Damage.{IsTwin, OneHoldsTwin, got_taken, twin_is_tree}
use Rattle.store_core.proofs.KeepingSegments.{node_level}
use Rattle.store_core.proofs.ManySealed.{all_taken}
use Rattle.store_machine.specs.Asked as asked
use Rattle.store_machine.specs.Legal.{AllFit, IsFirstClash, IsClashIn}
use Rattle.store_machine.specs.Needs.{Fits}
use Rattle.store_machine.specs.Offers.{sealed_in}
use Rattle.store_machine.specs.Needs.{DifferBy, IsClash}
use Rattle.store_machine.specs.Remembering.{IsWhole}
use Rattle.core_machine.specs.Bytes.{ClashesWith}

-- the first difference, of bytes of one length
first_differ : (place mine other : ℕ) (offered held : List ℕ) → length offered ≡ length held → FirstDifference offered held place mine other
    → DifferBy (Byte place mine other) offered held
unfolding range
first_differ place mine other offered held long first = (long, first.within, first.same, sym first.offered_is, sym first.held_is, first.differ)

pub segment_there : (xs : List Segment) (i : ℕ) → i < length xs → slice_get xs i ≡ Some (segment_at xs i)
segment_there [] i within = absurd (omega (arith, within))
segment_there (x ∷ xs) zero within = refl
segment_there (x ∷ xs) (suc i) within = segment_there xs i (omega (arith, within))

-- ---- what the index has of a store

module _ (S : List ℕ → Type 0) (store : Store) (stored : Stored) (old new : CoreState) (at : IsAt S store stored old) (image : List ℕ)
    (content_is : old.disk.content ≡ Some image) where
  stands : Stands S store stored.files image
  stands = at.stands.each image (old.disk.as_read image content_is)

  partial : IsPartialIndexOf store.held at.index
  partial = at.represents.index_is_newest at.index at.index_known

  copy_of : (key : List ℕ) (place : Place) → finite.get at.index key ≡ Some place → (copy : Copy) × (newest 0 store.held key ≡ Some copy) × (copy.place ≡ place)
  copy_of key place is = finds store at.index key place partial is

  -- a copy that fits a segment has its length and its level
  has_copy : (kind : Kind) (x : Segment) (copy : Copy) → IsOfKind kind x → newest 0 store.held (segment_key kind x) ≡ Some copy → FitsCopy kind x copy.place image
      → HasCopy store (record { kind = kind; segment = x })
  has_copy kinds.Leaf x copy right is fits = record { copy = copy; copy_is = is; level_is = data_level S store stored.files image stands x copy is; length_is = fits }
  has_copy kinds.Tree x copy right is fits = record {
    copy = copy;
    copy_is = is;
    level_is = node_level S store stored.files image stands x copy right is fits;
    length_is = sym (length_of_copy store image (segment_key kinds.Tree x) copy stands.holds.right is) ∙ ap length fits;
  }

  -- ---- a clash

  module _ (kind : Kind) (x : Segment) (tree : kind ≡ kinds.Tree) (key : List ℕ) where
    abbrev Unlike : Difference → Type 0
    Unlike difference = IsUnlike old.disk.size old.known (Shows old.disk new.disk) kind (sha256 x.bytes) x.bytes (refusals.Clash key difference)

    abbrev Clashes : Difference → Type 0
    Clashes difference = ClashesWith (record { kind = kind; segment = x }) image key difference

    module _ (difference : Difference) (unlike : Unlike difference) where
      place_is : finite.get at.index (segment_key kind x) ≡ Some unlike.place
      place_is = unlike.there at.index at.index_known

      the_copy : (copy : Copy) × (newest 0 store.held (segment_key kind x) ≡ Some copy) × (copy.place ≡ unlike.place)
      the_copy = copy_of (segment_key kind x) unlike.place place_is

      abbrev held : List ℕ
      held = bytes_at the_copy.0.place image

      long_is : length held ≡ the_copy.0.place.length
      long_is = length_of_copy store image (segment_key kind x) the_copy.0 stands.holds.right the_copy.1

      clash_so : key ≡ segment_key kind x → DifferBy difference x.bytes held → Clashes difference
      clash_so key_is differ = record {
        kind = tree;
        key_is = key_is;
        store = store;
        right = stands.holds.right;
        copy = the_copy.0;
        copy_is = ap (newest 0 store.held) key_is ∙ the_copy.1;
        digest = copy_digest store.held (kind_byte kind) (sha256 x.bytes) image the_copy.0 stands.holds.copies the_copy.1;
        differ = differ;
      }

    pub clashes_with : (difference : Difference) → Unlike difference → Clashes difference
    clashes_with (Length mine other) unlike =
        clash_so (Length mine other) unlike unlike.refused.0
        (unlike.refused.1, unlike.refused.2 ∙ sym (long_is (Length mine other) unlike ∙ ap (λ (p : Place). p.length) (the_copy (Length mine other) unlike).2), unlike.refused.3)
    clashes_with (Byte place mine other) unlike =
        let first = (shown_content old.disk new.disk _ image unlike.refused.2.1 content_is).1 in
        let copy = the_copy (Byte place mine other) unlike in
        clash_so (Byte place mine other) unlike unlike.refused.2.0
        (first_differ place mine other x.bytes (held (Byte place mine other) unlike)
        (sym (long_is (Byte place mine other) unlike ∙ ap (λ (p : Place). p.length) copy.2 ∙ unlike.refused.1))
        (subst (λ (p : Place). FirstDifference x.bytes (bytes_at p image) place mine other) (sym copy.2) first))

  -- ---- and lacks

  module _ (forgotten : List (List ℕ)) (tells : TellsForgotten forgotten store.held at.index) where
    lacked : (key : List ℕ) → finite.get at.index key ≡ None → IsLacked store forgotten key
    lacked key none = by (newest 0 store.held key) refl
      where
        by : (o : Option Copy) → newest 0 store.held key ≡ o → IsLacked store forgotten key
        by None is = inl is
        by (Some copy) is = inr (tells.lacked key copy is none)

    -- what it has is not forgotten
    remembered : (key : List ℕ) (place : Place) → finite.get at.index key ≡ Some place → Contains forgotten key → ⊥
    remembered key place is there = let both : None ≡ Some place = sym (tells.gone key there) ∙ is in cc

    -- one that is compared with the index's copy fits what the machine has
    fits_one : (kind : Kind) (x : Segment) → IsOfKind kind x → FitsHeld (HasKey at.index) kind store image x → Fits store forgotten kind x
    fits_one kind x right fits = by (finite.get at.index (segment_key kind x)) refl
      where
        by : (o : Option Place) → finite.get at.index (segment_key kind x) ≡ o → Fits store forgotten kind x
        by None is = inl (lacked (segment_key kind x) is)
        by (Some place) is =
            let copy = copy_of (segment_key kind x) place is in
            inr (has_copy kind x copy.0 right copy.1 (fits copy.0 (place, is) copy.1))

    all_fit : (kind : Kind) (xs : List Segment) → AllByRecursion (IsOfKind kind) xs → AllByRecursion (FitsHeld (HasKey at.index) kind store image) xs
        → AllByRecursion (Fits store forgotten kind) xs
    all_fit kind [] right fits = tt
    all_fit kind (x ∷ xs) right fits = (fits_one kind x right.0 fits.0, all_fit kind xs right.1 fits.1)

    compared_fit : (kind : Kind) (xs : List Segment) (hads : List (Option Place)) → AllByRecursion (IsOfKind kind) xs
        → FitSoFar old.disk.size old.known (Shows old.disk new.disk) kind xs hads → AllByRecursion (Fits store forgotten kind) xs
    compared_fit kind xs hads right so_far =
        all_fit kind xs right
        (shown_content old.disk new.disk _ image (held_all old.disk.size old.known old.disk new.disk kind xs hads so_far) content_is store at.index at.index_known partial)

    -- the index has the copy that clashes
    clashes : (kind : Kind) (x : Segment) → kind ≡ kinds.Tree → (key : List ℕ) (difference : Difference)
        → IsUnlike old.disk.size old.known (Shows old.disk new.disk) kind (sha256 x.bytes) x.bytes (refusals.Clash key difference)
        → IsClash store forgotten (record { kind = kind; segment = x }) key difference
    clashes kind x tree key difference unlike =
        let twin : ClashesWith (record { kind = kind; segment = x }) image key difference = clashes_with kind x tree key difference unlike in
        let same : twin.store ≡ store = store_once image twin.store store twin.right stands.holds.right in
        let copy_is : newest 0 store.held key ≡ Some twin.copy = subst (λ (s : Store). newest 0 s.held key ≡ Some twin.copy) same twin.copy_is in
        record {
          kind = twin.kind;
          key_is = twin.key_is;
          copy = twin.copy;
          copy_is = copy_is;
          there = λ there. remembered (segment_key kind x) unlike.place (unlike.there at.index at.index_known) (subst (Contains forgotten) twin.key_is there);
          held = bytes_at twin.copy.place image;
          long = length_of_copy store image key twin.copy stands.holds.right copy_is;
          digest = twin.digest;
          differ = twin.differ;
        }

-- ---- the steps

module _ (S : List ℕ → Type 0) (m : FileMachine) (t : RootMachine) (old new : CoreState) (at : IsAt S m.store (stored_in m.now) old)
    (tells : TellsForgotten m.forgotten m.store.held at.index)
    (a : ℕ) (buf : List ℕ) where
  abbrev image : List ℕ
  image = at.stands.known.0

  content_is : old.disk.content ≡ Some image
  content_is = at.stands.known.1

  pub claim_adds : (seg : KindSegment) (answer : Result Answer Refusal) → IsOfKind seg.kind seg.segment → ClaimRow seg a answer old new
      → IfErr answer (λ refusal. IsHarmless (IsTwin seg.kind seg.segment.bytes) refusal) → AddsToAnswer a (asked.Claim seg) (answered_by answer buf) m t
  claim_adds seg (Ok answers.Held) right row harmless =
      let held = row.claimed.looked_up in
      let is : finite.get at.index (segment_key seg.kind seg.segment) ≡ Some held.place = held.found at.index at.index_known in
      let copy = copy_of S m.store (stored_in m.now) old new at image content_is (segment_key seg.kind seg.segment) held.place is in (
        has_copy S m.store (stored_in m.now) old new at image content_is seg.kind seg.segment copy.0 right copy.1
            (subst (λ (p : Place). FitsCopy seg.kind seg.segment p image) (sym copy.2)
            (fits_so seg.kind held.place held.length_is (shown_content old.disk new.disk _ image held.same content_is))),
        remembered S m.store (stored_in m.now) old new at image content_is m.forgotten tells (segment_key seg.kind seg.segment) held.place is,
      )
    where
      fits_so : (kind : Kind) (place : Place) → place.length ≡ length seg.segment.bytes → FitsBytes kind seg.segment.bytes place image → FitsCopy kind seg.segment place image
      fits_so kinds.Leaf place long fits = long
      fits_so kinds.Tree place long fits = fits
  claim_adds seg (Ok answers.Absent) right row harmless =
      lacked S m.store (stored_in m.now) old new at image content_is m.forgotten tells (segment_key seg.kind seg.segment) (row.claimed.looked_up at.index at.index_known)
  claim_adds seg (Ok answer) right row harmless = absurd row
  claim_adds seg (Err (refusals.Clash key difference)) right row harmless =
      clashes S m.store (stored_in m.now) old new at image content_is m.forgotten tells seg.kind seg.segment harmless.0 key difference row.0.1
  claim_adds seg (Err (refusals.Corrupt slot offset count want got)) right row harmless = harmless
  claim_adds seg (Err refusal) right row harmless = tt

  -- containers that were compared with what is held fit it
  all_compared : (cs : List Contents) → AllByRecursion (λ c. AllByRecursion (IsOfKind c.kind) c.segments) cs
      → WereCompared old.disk.size old.known (Shows old.disk new.disk) cs → AllFit of_files cs m
  all_compared [] right compared = tt
  all_compared (c ∷ cs) right compared = (
    compared_fit S m.store (stored_in m.now) old new at image content_is m.forgotten tells c.kind c.segments compared.0.hads right.0 compared.0.fit,
    all_compared cs right.1 compared.1,
  )

  -- the first of their segments that is another copy's clashes
  clash_in : (c : Contents) → c.kind ≡ kinds.Tree → AllByRecursion (IsOfKind c.kind) c.segments → (key : List ℕ) (difference : Difference)
      → IsFirstUnlike old.disk.size old.known (Shows old.disk new.disk) c.kind c.segments (refusals.Clash key difference) → IsClashIn of_files c key difference m
  clash_in c tree right key difference first =
      let x : Segment = segment_at c.segments first.number in (
        first.number,
        x,
        segment_there c.segments first.number first.within,
        compared_fit S m.store (stored_in m.now) old new at image content_is m.forgotten tells c.kind (take first.number c.segments) first.hads
            (all_taken (IsOfKind c.kind) first.number c.segments right) first.before,
        clashes S m.store (stored_in m.now) old new at image content_is m.forgotten tells c.kind x tree key difference first.unlike,
      )

  first_clash : (cs : List Contents) → AllByRecursion (λ c. AllByRecursion (IsOfKind c.kind) c.segments) cs → (number : ℕ) (c : Contents) → slice_get cs number ≡ Some c
      → c.kind ≡ kinds.Tree → WereCompared old.disk.size old.known (Shows old.disk new.disk) (take number cs) → (key : List ℕ) (difference : Difference)
      → IsFirstUnlike old.disk.size old.known (Shows old.disk new.disk) c.kind c.segments (refusals.Clash key difference) → IsFirstClash of_files cs key difference m
  first_clash [] right number c here tree before key difference first = absurd cc
  first_clash (x ∷ xs) right zero c here tree before key difference first =
      let same : c ≡ x = sym (some_same x c here) in
      inl (subst (λ (y : Contents). IsClashIn of_files y key difference m) same
      (clash_in c tree (subst (λ (y : Contents). AllByRecursion (IsOfKind y.kind) y.segments) (sym same) right.0) key difference first))
  first_clash (x ∷ xs) right (suc number) c here tree before key difference first = inr (
    compared_fit S m.store (stored_in m.now) old new at image content_is m.forgotten tells x.kind x.segments before.0.hads right.0 before.0.fit,
    first_clash xs right.1 number c here tree before.1 key difference first,
  )

  pub seal_adds : (offered : List Contents) → IsOffer offered
      → ((slots : List ℕ) → HasSlots old.tables (length offered) slots → sealed_in offered m ≡ take (length slots) offered) → (answer : Result Answer Refusal)
      → AllByRecursion (λ c. AllByRecursion (IsOfKind c.kind) c.segments) offered → SealRow offered a answer old new
      → IfErr answer (λ refusal. IsHarmless (OneHoldsTwin offered) refusal)
      → AddsToAnswer a (asked.Seal offered) (answered_by answer buf) m t
  seal_adds offered offer taken (Ok (answers.Sealed id count)) right row harmless =
      all_compared (take count offered) (all_taken (λ c. AllByRecursion (IsOfKind c.kind) c.segments) count offered right) row.compared
  seal_adds offered offer taken (Ok answer) right row harmless = absurd row
  seal_adds offered offer taken (Err (refusals.Clash key difference)) right row harmless =
      let slots : List ℕ = row.0.1.0 in
      let first = row.0.1.2 in
      subst (λ (cs : List Contents). IsFirstClash of_files cs key difference m) (sym (taken slots row.0.1.1))
      (first_clash (take (length slots) offered) (all_taken (λ c. AllByRecursion (IsOfKind c.kind) c.segments) (length slots) offered right) first.number first.contents
      first.contents_are
      (twin_is_tree offered offer harmless first.number first.contents (got_taken (length slots) offered first.number first.contents first.contents_are))
      first.before key difference first.unlike)
  seal_adds offered offer taken (Err (refusals.Corrupt slot offset count want got)) right row harmless = harmless
  seal_adds offered offer taken (Err refusals.DiskWrite) right row harmless =
      let slots : List ℕ = row.0.1.0 in
      subst (λ (cs : List Contents). AllFit of_files cs m) (sym (taken slots row.0.1.1))
      (all_compared (take (length slots) offered) (all_taken (λ c. AllByRecursion (IsOfKind c.kind) c.segments) (length slots) offered right) row.0.1.2)
  seal_adds offered offer taken (Err refusal) right row harmless = tt

  -- a file whose tree the index has may be put under a name
  whole : (root : Root) (file : List ℕ) → length file ≤ MOST_FILE → IsRootOf root file old → IsWhole file m
  whole root file few is = (
    few,
    λ key there.
        let place = is.indexed at.index at.index_known key there in
        let copy = copy_of S m.store (stored_in m.now) old new at image content_is key place.0 place.1 in
        ((copy.0, copy.1), remembered S m.store (stored_in m.now) old new at image content_is m.forgotten tells key place.0 place.1),
  )

  pub commit_adds : (name file : List ℕ) (root : Root) (answer : Result Answer Refusal) → length file ≤ MOST_FILE → IsRightCommit answer root file old
      → CommitRow name root a answer old new
      → AddsToAnswer a (asked.Commit name file) (answered_by answer buf) m t
  commit_adds name file root (Ok (answers.Committed sequence)) few right row = whole root file few right
  commit_adds name file root (Ok answer) few right row = absurd row
  commit_adds name file root (Err refusals.DiskWrite) few right row = whole root file few right
  commit_adds name file root (Err refusal) few right row = tt
