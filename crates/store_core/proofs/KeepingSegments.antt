-- The segments that the steps of a run kept are held at its end.
use Rattle.store_core.proofs.Prelude.{some_same, ◌≡◌, inl, inr, ℕ, List, [], ◌∷◌, ◌++◌, map, Some, None, Result, Ok, Err, refl, sym, ◌∙◌, ap, subst, Option, eqb-true, AllByRecursion, sha256, slot_at, size_of, ending_of, Done, Ending, OnlyReads, IsDurable, shown_content, Kind, Place, PlaceMap, Segment, KindSegment, segment_key, SameBefore, Changes, Answer, pin_of, StepValue, IsStep, Refusal, HasNoCollisions, ByteSet, IsIn, IsAmong, Stands, Files, Stored, Store, HasKey, newest, StoreChange, SealContainer, ChangeName, FlushContainer, FreeContainer, with_sealed, with_change, HasNewest, bytes_at, copy_digest, headers_of_right, IsAmongThese, IsNodeEntry, among_so, newest_so, nodes_so, blames, IsSettled, Left, Row, ClaimRow, SealRow, Effect, StopsAfter, next_id, Steps, FileEvent, FileStep, FileRun, IsAt, IsGivenRight, ChangesTo, changes_by, stored_by, stored_after, AreNoGcSteps, IsNoGcStep, events_of, CoreState, Mark, Filter, Select, SweepStage, CopyNext, Flush, Release, End, Collection, GcEffect, GcRow, TouchesBy, at_moment, Stage, StepsTo, Touches, IsStepRefusal, with_freed}
use Rattle.std.proofs.lemmas.List.{append-nil, append_assoc}
use Rattle.container_meta.specs.declared.kind.Kind.TheVariants.{Leaf, Tree}
use Rattle.container_meta.specs.Segments.{Contents}
use Rattle.actor_parts.specs.declared.step.Answer.TheVariants as answers
use Rattle.actor_parts.specs.Segments.{IsOfKind}
use Rattle.actor_parts.specs.StepValue as asked
use Rattle.refusals.specs.declared.refusal.Refusal.TheVariants as refusals
use Rattle.store_model.specs.Slots.{Copy}
use Rattle.store_model.proofs.FramedTrees.{newest_framed}
use Rattle.store_model.proofs.HeldSlots.{HasLevel, levels_so}
use Rattle.store_model.proofs.Lookups.{finds}
use Rattle.store_model.proofs.OneNode.{one_level}
use Rattle.store_model.proofs.SameIndex.{same_copies}
use Rattle.store_state.specs.Comparing.{FitsBytes}
use Rattle.store_state.specs.Settled.{KeepsWhatCounts}
use Rattle.ingest_steps.proofs.HeldPins.{node_of}
use Rattle.std.specs.Prelude.{take}
use Rattle.store_model.specs.Together.{Placed}
use Rattle.ingest_steps.specs.Offering.{offer_in}
use Rattle.store_core.specs.Core.{changed_by, seals_from}
use Rattle.store_core.specs.Keeping.{segments_in, kept_by, kept_of, IsHeldIn, KeepsSegments, StaysHeld}
use Rattle.store_core.proofs.CoreRuns.{running_step, was_running}
use Rattle.gc_sweep.specs.declared.sweep.Next.{Next}
use Rattle.store_core.proofs.AnySteps.{any_step, gc_or_not, other_leads, with_step}
use Rattle.store_core.proofs.GcSteps.{end_reads}
use Rattle.store_core.proofs.Leading.{Leads}
use Rattle.store_core.proofs.KeepingFiles.{file_step, run_running, only_reads, seal_holds, those_lead, those_offered, those_with_all, NextOn}
use Rattle.store_core.proofs.ManySealed.{all_free, keys_added, leads_once}
use Rattle.store_core.proofs.RunningOn.{sealed_first}
use Rattle.gc_sweep.proofs.KeyLists.{both_so, each_so}

-- ---- lists

all_map : {A B : Type 0} (P : A → Type 0) (Q : B → Type 0) (f : A → B) (xs : List A) → ((x : A) → P x → Q (f x)) → AllByRecursion P xs → AllByRecursion Q (map f xs)
all_map P Q f [] each all = tt
all_map P Q f (x ∷ xs) each all = (each x all.0, all_map P Q f xs each all.1)

pub all_two : {A : Type 0} (P Q : A → Type 0) (xs : List A) → AllByRecursion P xs → AllByRecursion Q xs → AllByRecursion (λ x. P x × Q x) xs
all_two P Q [] first second = tt
all_two P Q (x ∷ xs) first second = ((first.0, second.0), all_two P Q xs first.1 second.1)

-- ---- a segment, beside what an image holds

-- the newest copy of its key is the segment
abbrev IsNewestIn : Store → List ℕ → KindSegment → Type 0
IsNewestIn store image seg = HasNewest store.held (segment_key seg.kind seg.segment) (pin_of seg).level seg.segment.bytes image

-- and the index has the key
abbrev HoldsSegment : PlaceMap → Store → List ℕ → KindSegment → Type 0
HoldsSegment index store image seg = HasKey index (segment_key seg.kind seg.segment) × IsNewestIn store image seg

module _ (S : List ℕ → Type 0) (store : Store) (files : Files) (image : List ℕ) (stands : Stands S store files image) where
  -- data has level 0
  pub data_level : (x : Segment) (copy : Copy) → newest 0 store.held (segment_key Leaf x) ≡ Some copy → copy.place.level ≡ 0
  data_level x copy is =
      let so = newest_so HasLevel store.held Leaf (sha256 x.bytes) image copy (levels_so 0 store.held image (headers_of_right image store stands.holds.right)) is in
      so.level_is ∙ eqb-true so.entry.level 0 so.so

  -- data of its digest is the segment
  data_bytes : HasNoCollisions S → (x : Segment) (copy : Copy) → S x.bytes → newest 0 store.held (segment_key Leaf x) ≡ Some copy → bytes_at copy.place image ≡ x.bytes
  data_bytes distinct x copy mine is =
      let so = newest_so (IsAmongThese S) store.held Leaf (sha256 x.bytes) image copy (among_so S 0 store.held image stands.among) is in
      distinct (bytes_at copy.place image) x.bytes so.so mine (copy_digest store.held 0 (sha256 x.bytes) image copy stands.holds.copies is)

  -- of a node the copy's bytes are read, and they have one level
  pub node_level : (x : Segment) (copy : Copy) → IsOfKind Tree x → newest 0 store.held (segment_key Tree x) ≡ Some copy → bytes_at copy.place image ≡ x.bytes
      → copy.place.level ≡ x.level
  node_level x copy right is same =
      let so = newest_so IsNodeEntry store.held Tree (sha256 x.bytes) image copy (nodes_so 0 store.held image stands.holds.nodes) is in
      so.level_is ∙ one_level so.entry.level x.level (bytes_at copy.place image) x.bytes so.so (node_of x right) same

  -- a copy that fits a segment is the segment
  fits_held : HasNoCollisions S → (kind : Kind) (x : Segment) (copy : Copy) → IsOfKind kind x → IsAmong S kind x.bytes → newest 0 store.held (segment_key kind x) ≡ Some copy
      → FitsBytes kind x.bytes copy.place image
      → IsNewestIn store image (record { kind = kind; segment = x })
  fits_held distinct Leaf x copy right mine is fits = record { copy = copy; copy_is = is; level_is = data_level x copy is; bytes_are = data_bytes distinct x copy mine is }
  fits_held distinct Tree x copy right mine is fits = record { copy = copy; copy_is = is; level_is = node_level x copy right is fits; bytes_are = fits }

  -- one that has the level of a container's segment has that of the pin
  sealed_held : (kind : Kind) (x : Segment) → HasNewest store.held (segment_key kind x) x.level x.bytes image → IsNewestIn store image (record { kind = kind; segment = x })
  sealed_held Leaf x has = record { copy = has.copy; copy_is = has.copy_is; level_is = data_level x has.copy has.copy_is; bytes_are = has.bytes_are }
  sealed_held Tree x has = has

-- ---- a disk that is settled

module _ (old new : CoreState) (stays : new.stop ≡ None) (given : List ℕ) (here : old.disk.content ≡ Some given) (settled : IsSettled old.tables.slots old.disk) where
  abbrev Settled : Type 0
  Settled = IsSettled old.tables.slots new.disk

  reads_settled : OnlyReads old.disk new.disk → Settled
  reads_settled reads bytes is c image = settled bytes (sym reads.content_is ∙ is) c (reads.images_are c image)

  durable_settled : IsDurable new.disk → Settled
  durable_settled durable bytes is c image = subst (SameBefore (slot_at old.tables.slots) bytes) (sym (durable bytes is c image))
      (record { size = refl; before = λ p n within. refl })

  -- each image is, in what counts, as the content was
  counts_given : KeepsWhatCounts old.tables.slots old.disk new.disk → (c : List ℕ) → new.disk.images c → SameBefore (slot_at old.tables.slots) given c
  counts_given keeps c image = elim (keeps.leaves.now c image) [
    | inl before ↦ settled given here c before
    | inr step ↦ let first = settled given here step.0 step.1 in
        record { size = step.2.size ∙ first.size; before = λ p n within. step.2.before p n within ∙ first.before p n within }
  ]

  counts_settled : KeepsWhatCounts old.tables.slots old.disk new.disk → Settled
  counts_settled keeps bytes is c image =
      let mine = counts_given keeps bytes (new.disk.as_read bytes is) in
      let other = counts_given keeps c image in
      record { size = other.size ∙ sym mine.size; before = λ p n within. other.before p n within ∙ sym (mine.before p n within) }

  seal_settled : (offered : List Contents) (refusal : Refusal) → StopsAfter (asked.Seal offered) (Err refusal) old.acknowledged new.stop
      → Left old.tables.slots (ending_of (blames refusal)) old.disk new.disk → Settled
  seal_settled offered refusals.DiskWrite stops left = absurd (let both = sym stays ∙ stops in cc)
  seal_settled offered refusals.DiskRead stops left = counts_settled left
  seal_settled offered refusal stops left = counts_settled left

  pub effect_settled : (step : StepValue) (answer : Result Answer Refusal) → IsNoGcStep step → StopsAfter step answer old.acknowledged new.stop → Effect step answer old new
      → Settled
  effect_settled (asked.Seal offered) (Ok answer) other stops effect = effect.disk.left settled
  effect_settled (asked.Seal offered) (Err refusal) other stops effect = seal_settled offered refusal stops effect.disk.left
  effect_settled (asked.Commit name root) (Ok answer) other stops effect = durable_settled effect.durable
  effect_settled (asked.Commit name root) (Err refusal) other stops effect = reads_settled (only_reads old new stays (asked.Commit name root) refusal stops effect.disk.ends)
  effect_settled (asked.Delete name) (Ok answer) other stops effect = durable_settled effect.durable
  effect_settled (asked.Delete name) (Err refusal) other stops effect = reads_settled (only_reads old new stays (asked.Delete name) refusal stops effect.disk.ends)
  effect_settled asked.GcStep answer other stops effect = absurd other
  effect_settled it answer other stops effect = reads_settled effect.disk.only

  -- ---- a step of a collection

  changes_settled : (e : Ending) → old.disk.size ≡ size_of old.tables.slots → ((slots : ℕ) → old.disk.size ≡ size_of slots → Changes (slot_at slots) e old.disk new.disk) → Settled
  changes_settled e sized changes = let changed = changes old.tables.slots sized in counts_settled (record { content_is = changed.content_is; leaves = changed.leaves })

  did_settled : (before after : Collection) (stage : Stage) (next : Next) → old.disk.size ≡ size_of old.tables.slots
      → StepsTo stage next (at_moment old before) (at_moment new after)
      → Touches stage next before.sweep old.tables Done old.disk new.disk → Settled
  did_settled before after SweepStage (CopyNext source entry) sized steps touches = changes_settled Done sized touches
  did_settled before after SweepStage (Flush source entry) sized steps touches = touches.0.left settled
  did_settled before after SweepStage (Release source entry) sized steps touches = durable_settled steps.2
  did_settled before after SweepStage End sized steps touches = reads_settled touches.only
  did_settled before after other next sized steps touches = reads_settled touches.only

  broken : StopsAfter asked.GcStep (Err refusals.DiskWrite) old.acknowledged new.stop → ⊥
  broken is = let both = sym stays ∙ is in cc

  flush_settled : (refusal : Refusal) → StopsAfter asked.GcStep (Err refusal) old.acknowledged new.stop → Left old.tables.slots (ending_of (blames refusal)) old.disk new.disk
      → Settled
  flush_settled refusals.DiskWrite stops left = absurd (broken stops)
  flush_settled refusals.DiskRead stops left = counts_settled left
  flush_settled refusal stops left = counts_settled left

  refused_settled : (before : Collection) (stage : Stage) (next : Next) (refusal : Refusal) → StopsAfter asked.GcStep (Err refusal) old.acknowledged new.stop
      → old.disk.size ≡ size_of old.tables.slots
      → IsStepRefusal stage next (at_moment old before) new.disk refusal → Touches stage next before.sweep old.tables (ending_of (blames refusal)) old.disk new.disk → Settled
  refused_settled before (Mark level slot) next refusal stops sized cause touches = reads_settled touches.only
  refused_settled before (Filter slot) next refusal stops sized cause touches = reads_settled touches.only
  refused_settled before Select next refusal stops sized cause touches = reads_settled touches.only
  refused_settled before SweepStage (CopyNext source entry) refusal stops sized cause touches = changes_settled (ending_of (blames refusal)) sized touches
  refused_settled before SweepStage (Flush source entry) refusal stops sized cause touches = flush_settled refusal stops touches.0.left
  refused_settled before SweepStage (Release source entry) refusal stops sized cause touches = absurd
      (broken (subst (λ (x : Refusal). StopsAfter asked.GcStep (Err x) old.acknowledged new.stop) cause stops))
  refused_settled before SweepStage End refusal stops sized cause touches = absurd cause

  pub gc_settled : (answer : Result Answer Refusal) → old.disk.size ≡ size_of old.tables.slots → StopsAfter asked.GcStep answer old.acknowledged new.stop → GcRow answer old new
      → GcEffect answer old new → Settled
  gc_settled (Ok (answers.Did phase)) sized stops row effect =
      did_settled row.0.before row.0.after row.0.before.stage row.0.before.sweep.next sized row.0.steps
      (subst (λ (o : Option Collection). TouchesBy o (Ok (answers.Did phase)) old new.disk) row.0.ran effect.touches)
  gc_settled (Ok (answers.Done freed copied)) sized stops row effect =
      let touched = subst (λ (o : Option Collection). TouchesBy o (Ok (answers.Done freed copied)) old new.disk) row.0.ran effect.touches in
      reads_settled (end_reads row.0.before old.tables Done old.disk new.disk row.0.at_end.0 row.0.at_end.1 touched).only
  gc_settled (Err refusals.NotCollecting) sized stops row effect = reads_settled
      (subst (λ (o : Option Collection). TouchesBy o (Err refusals.NotCollecting) old new.disk) row.0.none_ran effect.touches).only
  gc_settled (Err refusal) sized stops row effect =
      refused_settled row.0.before row.0.before.stage row.0.before.sweep.next refusal stops sized row.0.cause
      (subst (λ (o : Option Collection). TouchesBy o (Err refusal) old new.disk) row.0.ran effect.touches)
  gc_settled answer sized stops row effect = absurd row

-- changes leave the number of slots
same_slots : (changes : List StoreChange) (s t : Store) → ChangesTo changes s t → t.slots ≡ s.slots
same_slots [] s t chain = ap (λ (store : Store). store.slots) chain
same_slots (SealContainer id kind segments ∷ rest) s t chain = same_slots rest (with_sealed id kind segments s) t chain.1
same_slots (ChangeName name change ∷ rest) s t chain = same_slots rest (with_change name change s) t chain.1
same_slots (FlushContainer id kind segments ∷ rest) s t chain = same_slots rest (with_sealed id kind segments s) t chain.1
same_slots (FreeContainer slot ∷ rest) s t chain = same_slots rest (with_freed slot s) t chain.1

-- ---- along a run

-- A core is at a store, of which the content holds these segments, and its disk is settled.
record Keeps (S : List ℕ → Type 0) (s : Store) (stored : Stored) (segs : List KindSegment) (c : CoreState) : Type 0 where
  pub is_at : IsAt S s stored c
  pub settled : IsSettled c.tables.slots c.disk
  pub held : (index : PlaceMap) → c.known ≡ Some index → (image : List ℕ) → c.disk.content ≡ Some image → AllByRecursion (HoldsSegment index s image) segs

module _ (among : ByteSet) (s : Store) (stored later : Stored) (old new : CoreState) (actor : ℕ) (buf bytes : List ℕ) (distinct : HasNoCollisions (IsIn among))
    (at : IsAt (IsIn among) s stored old) (stays : new.stop ≡ None) where
  abbrev image : List ℕ
  image = at.stands.known.0

  abbrev here : old.disk.content ≡ Some image
  here = at.stands.known.1

  abbrev stands_here : Stands (IsIn among) s stored.files image
  stands_here = at.stands.each image (old.disk.as_read image here)

  -- what a step kept, by the store that it leads to
  abbrev Kept : StepValue → Result Answer Refusal → Type 0
  Kept step answer = (next : NextOn (IsIn among) s (changes_by step answer) later old new) → (then : PlaceMap) → new.known ≡ Some then → (after : List ℕ)
      → new.disk.content ≡ Some after → Effect step answer old new
      → IsStep step → IsGivenRight (IsIn among) step answer bytes old → AllByRecursion (HoldsSegment then next.next.store after) (kept_by step answer)

  claim_kept : (seg : KindSegment) (answer : Result Answer Refusal) → ClaimRow seg actor answer old new → Kept (asked.Claim seg) answer
  claim_kept seg (Ok answers.Held) row next then then_is after is effect right given =
      let was = row.claimed.looked_up in
      let key : List ℕ = segment_key seg.kind seg.segment in
      let has_key : HasKey at.index key = (was.place, was.found at.index at.index_known) in
      let found = finds s at.index key was.place (at.represents.index_is_newest at.index at.index_known) (was.found at.index at.index_known) in
      let fits = shown_content old.disk new.disk (FitsBytes seg.kind seg.segment.bytes was.place) image was.same here in
      let has = fits_held (IsIn among) s stored.files image stands_here distinct seg.kind seg.segment found.0 right given found.1
      (subst (λ (place : Place). FitsBytes seg.kind seg.segment.bytes place image) (sym found.2) fits) in (
        (
          next.keys at.index then at.index_known then_is key has_key,
          next.copies at.index image after at.index_known here is key
              (pin_of seg).level seg.segment.bytes has_key has,
        ),
        tt,
      )
  claim_kept seg (Ok answers.Absent) row next then then_is after is effect right given = tt
  claim_kept seg (Err refusal) row next then then_is after is effect right given = tt
  claim_kept seg answer row next then then_is after is effect right given = absurd row

  -- each segment of a container that is sealed
  seals_kept : (then : PlaceMap) (t : Store) (files : Files) (after : List ℕ) → Stands (IsIn among) t files after → (cs : List Contents)
      → AllByRecursion (λ c. AllByRecursion (λ x. HasKey then (segment_key c.kind x)) c.segments) cs
      → AllByRecursion (λ c. AllByRecursion (λ x. HasNewest t.held (segment_key c.kind x) x.level x.bytes after) c.segments) cs
      → AllByRecursion (HoldsSegment then t after) (segments_in cs)
  seals_kept then t files after stands [] keys has = tt
  seals_kept then t files after stands (c ∷ cs) keys has =
      both_so (HoldsSegment then t after) (map (λ x. record { kind = c.kind; segment = x }) c.segments) (segments_in cs)
      (all_map (λ x. HasKey then (segment_key c.kind x) × HasNewest t.held (segment_key c.kind x) x.level x.bytes after)
      (HoldsSegment then t after) (λ x. record { kind = c.kind; segment = x }) c.segments
      (λ x both. (both.0, sealed_held (IsIn among) t files after stands c.kind x both.1))
      (all_two (λ x. HasKey then (segment_key c.kind x)) (λ x. HasNewest t.held (segment_key c.kind x) x.level x.bytes after) c.segments keys.0 has.0))
      (seals_kept then t files after stands cs keys.1 has.1)

  seal_kept : (offered : List Contents) (answer : Result Answer Refusal) → SealRow offered actor answer old new → Kept (asked.Seal offered) answer
  seal_kept offered (Ok (answers.Sealed id count)) row next then then_is after is effect right given =
      let first : ℕ = next_id old in
      let cs : List Contents = take count offered in
      let all = (seal_holds among s stored old new actor buf bytes distinct at stays offered right given (Ok (answers.Sealed id count)) after is effect).1 in
      let lead = those_lead among s stored old new actor buf bytes distinct at stays offered id count row effect in
      let offer_is = those_offered among s stored old new actor buf bytes distinct at stays offered id count row effect in
      let with_those = those_with_all among s stored old new actor buf bytes distinct at stays offered id count row effect in
      let store : changed_by (seals_from first cs) s ≡ next.next.store = leads_once (seals_from first cs) s (changed_by (seals_from first cs) s) next.next.store lead
      (subst (λ (n : ℕ). ChangesTo (seals_from n cs) s next.next.store) (sealed_first offered id count actor old new row) next.next.chain) in
      let P : Store → Kind → List Segment → Type 0 = λ t kind segments. AllByRecursion (λ x. HasNewest t.held (segment_key kind x) x.level x.bytes after) segments in
      let there = subst (λ (t : Store). AllByRecursion (λ (p : Placed). P t p.kind p.segments) (offer_in old.tables offered s)) (with_those ∙ store) all in
      let has = all_free (P next.next.store) first cs s (changed_by (seals_from first cs) s) lead
      (subst (AllByRecursion (λ (p : Placed). P next.next.store p.kind p.segments)) offer_is there) in
      seals_kept then next.next.store later.files after (next.next.is_at.stands.each after (new.disk.as_read after is)) cs
      (keys_added first cs then (effect.made.adds_keys at.index at.index_known then then_is)) has
  seal_kept offered (Err refusal) row next then then_is after is effect right given = tt
  seal_kept offered answer row next then then_is after is effect right given = absurd row

  step_kept : (step : StepValue) (answer : Result Answer Refusal) → Row step actor answer buf old new → Kept step answer
  step_kept (asked.Claim seg) answer row = claim_kept seg answer row
  step_kept (asked.Seal offered) answer row = seal_kept offered answer row
  step_kept step answer row = λ next then then_is after is effect right given. tt

-- a disk that was settled is settled, whatever the step
settled_step : (among : ByteSet) (distinct : HasNoCollisions (IsIn among)) (f : FileEvent) (s : Store) (stored : Stored) (old new : CoreState) → IsAt (IsIn among) s stored old
    → IsSettled old.tables.slots old.disk
    → FileStep (IsIn among) f old new → (leads : Leads (IsIn among) s f (stored_by f stored) old new) → old.stop ≡ None → new.stop ≡ None → IsSettled new.tables.slots new.disk
settled_step among distinct f s stored old new at settled step leads runs stays =
    let steps = running_step old new f.event runs step.made in
    let slots : old.tables.slots ≡ new.tables.slots = at.represents.slots_are ∙ sym (same_slots leads.changes s leads.next.store leads.next.chain)
    ∙ sym leads.next.is_at.represents.slots_are in
    let sized : old.disk.size ≡ size_of old.tables.slots = at.valid.size_is ∙ ap size_of (sym at.represents.slots_are) in
    subst (λ (n : ℕ). IsSettled n new.disk) slots
    (elim (gc_or_not f.event.step) [
      | inl gc ↦ subst (λ (st : StepValue). Steps (with_step f st).event old new → IsSettled old.tables.slots new.disk) (sym gc)
          (λ made. gc_settled old new stays at.stands.known.0 at.stands.known.1 settled f.event.answer sized made.stops made.made.row made.made.effect) steps
      | inr other ↦ effect_settled old new stays at.stands.known.0 at.stands.known.1 settled f.event.step f.event.answer other steps.stops steps.made.effect
    ])

pub stays_settled : (among : ByteSet) (f : FileEvent) (s : Store) (stored : Stored) (old new : CoreState) → HasNoCollisions (IsIn among) → IsAt (IsIn among) s stored old
    → IsSettled old.tables.slots old.disk → FileStep (IsIn among) f old new → new.stop ≡ None → IsSettled new.tables.slots new.disk
stays_settled among f s stored old new distinct at settled step stays =
    settled_step among distinct f s stored old new at settled step (any_step among distinct f s stored old new step at stays)
    (was_running old.stop f.event old new refl step.made stays) stays

module _ (among : ByteSet) (distinct : HasNoCollisions (IsIn among)) where
  -- a step more, of no collection
  keeps_step : (f : FileEvent) (s : Store) (stored : Stored) (segs : List KindSegment) (old new : CoreState) → IsNoGcStep f.event.step → Keeps (IsIn among) s stored segs old
      → FileStep (IsIn among) f old new → old.stop ≡ None → new.stop ≡ None
      → (t : Store) × Keeps (IsIn among) t (stored_by f stored) (segs ++ kept_by f.event.step f.event.answer) new
  keeps_step f s stored segs old new other keeps step runs stays =
      let at = keeps.is_at in
      let steps = running_step old new f.event runs step.made in
      let next = file_step among distinct f s stored old new other step at stays in (
        next.next.store,
        record {
          is_at = next.next.is_at;
          settled = settled_step among distinct f s stored old new at keeps.settled step (other_leads among distinct f s stored old new other next) runs stays;
          held = λ then then_is after is. both_so (HoldsSegment then next.next.store after) segs (kept_by f.event.step f.event.answer)
              (each_so (HoldsSegment at.index s at.stands.known.0) (HoldsSegment then next.next.store after) segs
              (λ seg has. (
                next.keys at.index then at.index_known then_is (segment_key seg.kind seg.segment) has.0,
                next.copies at.index at.stands.known.0 after at.index_known at.stands.known.1 is (segment_key seg.kind seg.segment)
                    (pin_of seg).level seg.segment.bytes has.0 has.1,
              ))
              (keeps.held at.index at.index_known at.stands.known.0 at.stands.known.1))
              (step_kept among s stored (stored_by f stored) old new f.event.actor f.event.buf f.bytes distinct at stays f.event.step f.event.answer steps.made.row next then
              then_is after is steps.made.effect step.asked step.given);
        },
      )

-- ---- at the end

module _ (S : List ℕ → Type 0) (s : Store) (stored : Stored) (c : CoreState) (at : IsAt S s stored c) (settled : IsSettled c.tables.slots c.disk) where
  -- what the content holds each image holds
  held_in : (seg : KindSegment) → HoldsSegment at.index s at.stands.known.0 seg → IsHeldIn seg c
  held_in seg has =
      let image : List ℕ = at.stands.known.0 in
      let here = at.stands.known.1 in
      let right = (at.stands.each image (c.disk.as_read image here)).holds.right in
      let key : List ℕ = segment_key seg.kind seg.segment in
      record {
        indexed = λ index is. subst (λ (m : PlaceMap). HasKey m key) (some_same at.index index (sym at.index_known ∙ is)) has.0;
        newest = λ t represents. record {
          known = at.stands.known;
          each = λ left leaves.
              let same = subst (λ (n : ℕ). SameBefore (slot_at n) image left) at.represents.slots_are (settled image here left leaves) in
              same_copies s t at.index left (at.represents.index_is_newest at.index at.index_known) (represents.index_is_newest at.index at.index_known) key
              (pin_of seg).level seg.segment.bytes has.0
              (newest_framed s image left right same.before key (pin_of seg).level seg.segment.bytes has.1);
        };
      }

  all_held : (segs : List KindSegment) → AllByRecursion (HoldsSegment at.index s at.stands.known.0) segs → AllByRecursion (λ seg. IsHeldIn seg c) segs
  all_held segs all = each_so (HoldsSegment at.index s at.stands.known.0) (λ seg. IsHeldIn seg c) segs held_in all

-- ---- a run

-- what comes of a run, and it is so of a core that had kept these segments before it
record KeepsAll (S : List ℕ → Type 0) (stored : Stored) (segs : List KindSegment) (c : CoreState) : Type 0 where
  pub store : Store
  pub keeps : Keeps S store stored segs c

held_after : (S : List ℕ → Type 0) (stored : Stored) (segs : List KindSegment) (c : CoreState) → KeepsAll S stored segs c → AllByRecursion (λ seg. IsHeldIn seg c) segs
held_after S stored segs c kept =
    let at = kept.keeps.is_at in
    all_held S kept.store stored c at kept.keeps.settled segs (kept.keeps.held at.index at.index_known at.stands.known.0 at.stands.known.1)

module _ (C : Type 0) (state : C → CoreState) (among : ByteSet) (distinct : HasNoCollisions (IsIn among)) where
  keeps_on : (steps : List FileEvent) (s : Store) (stored : Stored) (segs : List KindSegment) (old new : C) → Keeps (IsIn among) s stored segs (state old)
      → FileRun C state (IsIn among) steps old new → AreNoGcSteps (events_of steps)
      → (state new).stop ≡ None → KeepsAll (IsIn among) (stored_after steps stored) (segs ++ kept_of steps) (state new)
  keeps_on [] s stored segs old new keeps run others stays =
      subst (λ (all : List KindSegment). KeepsAll (IsIn among) stored all (state new)) (sym (append-nil segs))
      (subst (λ (c : C). KeepsAll (IsIn among) stored segs (state c)) (sym run) (record { store = s; keeps = keeps }))
  keeps_on (f ∷ fs) s stored segs old new keeps run others stays =
      let mid = run.0 in
      let going = run_running C state among fs mid new run.1.1 stays in
      let runs = run_running C state among (f ∷ fs) old new run stays in
      let next = keeps_step among distinct f s stored segs (state old) (state mid) others.0 keeps run.1.0 runs going in
      let more = kept_by f.event.step f.event.answer in
      subst (λ (all : List KindSegment). KeepsAll (IsIn among) (stored_after (f ∷ fs) stored) all (state new)) (append_assoc segs more (kept_of fs))
      (keeps_on fs next.0 (stored_by f stored) (segs ++ more) mid new next.1 run.1.1 others.1 stays)

module _ (C : Type 0) (state : C → CoreState) where
  pub keeps_segments : KeepsSegments C state
  keeps_segments among steps s stored old new distinct at settled run others stays =
      held_after (IsIn among) (stored_after steps stored) (kept_of steps) (state new)
      (keeps_on C state among distinct steps s stored [] old new (record { is_at = at; settled = settled; held = λ index known image is. tt }) run others stays)

  pub stays_held : StaysHeld C state
  stays_held among steps s stored seg old new distinct at settled run others stays held =
      let here : (index : PlaceMap) → (state old).known ≡ Some index → (image : List ℕ) → (state old).disk.content ≡ Some image
      → AllByRecursion (HoldsSegment index s image) (seg ∷ []) =
      λ index known image is. ((held.indexed index known, (held.newest s at.represents).each image ((state old).disk.as_read image is)), tt) in
      (held_after (IsIn among) (stored_after steps stored) (seg ∷ kept_of steps) (state new)
      (keeps_on C state among distinct steps s stored (seg ∷ []) old new (record { is_at = at; settled = settled; held = here }) run others stays)).0
