-- What each step of a core that stands for files leaves of the bytes of its disk, as the machine of files has it.
use Rattle.std.specs.Prelude.{IfErr}
use Rattle.core_machine.proofs.Prelude.{◌≡◌, ℕ, List, [], ◌∷◌, Option, Some, None, Result, Ok, Err, refl, sym, ◌∙◌, ap, subst, AllByRecursion, KnownWith, ending_of, OnlyReads, Change, Root, Gone, Put, Answer, IsStep, StepValue, pin_of, HasNewest, KindSegment, segment_at, segment_key, Refusal, ByteSet, IsIn, Store, blames, IsSettled, Represents, Tables, PlaceMap, GcEffect, GcRow, IsNotMade, TouchesBy, ClaimRow, CommitRow, DeleteRow, Effect, NamesOne, Rests, Row, SealRow, SealsSome, Steps, StopsAfter, next_id, FileEvent, IsAt, IsGivenRight, IsNoGcStep, IsHarmless, MayClash, CoreState, running_step, never_damaged, FileMachine, Answers, ByState, LegalBy, RunState, Stopped, RootMachine, of_files, AllHeld, BytesOf, ChangesBytes, Holds, SameButRecord, SameStore, stored_in, answered_by, asked_as, NamesGc, NamesStep, length, arith, Kind, Segment}
use Rattle.std.proofs.lemmas.List.{append-nil}
use Rattle.dd_disk.specs.Ending.{Done}
use Rattle.actor_parts.specs.declared.step.Answer.TheVariants as answers
use Rattle.actor_parts.specs.StepValue as steps
use Rattle.container_meta.specs.Segments.{Contents}
use Rattle.gc_steps.specs.declared.collection.Collection.{Collection}
use Rattle.refusals.specs.declared.refusal.Refusal.TheVariants as refusals
use Rattle.store_core.specs.Keeping.{IsHeldIn, kept_by}
use Rattle.store_core.proofs.GcSteps.{end_reads}
use Rattle.store_core.proofs.Damage.{got_taken, twin_is_tree}
use Rattle.core_machine.proofs.PlacedSame.{any_got}
use Rattle.store_core.proofs.KeepingFiles.{may_offer, may_seal_each}
use Rattle.store_core.proofs.ManySealed.{all_free}
use Rattle.gc_sweep.proofs.KeyLists.{each_so}
use Rattle.store_core.proofs.KeepingSegments.{keeps_segments}
use Rattle.store_machine.specs.Asked as asked
use Rattle.std.proofs.lemmas.List.{length-take}
use Rattle.std.specs.Prelude.{take}
use Rattle.actor_parts.specs.Offers.{sealed_of}
use Rattle.store_model.specs.Slots.{free_slots}
use Rattle.store_model.specs.Together.{Placed, with_all}
use Rattle.ingest_steps.specs.Offering.{in_free, offer_in}
use Rattle.ingest_steps.specs.SealingAll.{ChangesSlotsAlone, slots_of}
use Rattle.store_core.specs.Core.{AreSealed}
use Rattle.store_machine.specs.Offers.{AnyByRecursion, sealed_in}
use Rattle.core_machine.specs.Bytes.{OneClashes, SameButSlots}
use Rattle.core_machine.specs.Files.{file_step}
use Rattle.core_machine.proofs.Bytes.{known_of, known_weaker}
use Rattle.core_machine.proofs.BytesAt.{IsRest, all_held, reads_told, record_told, rest_told, right_here, slots_told, stands_here, store_told}
use Rattle.core_machine.proofs.BytesSwept.{broke, refused, swept}
use Rattle.core_machine.proofs.FileBroken.{stores_are}
use Rattle.core_machine.proofs.FileIngests.{clashes_with, segment_there}
use Rattle.core_machine.proofs.FileSteps.{StepsTo}
use Rattle.core_machine.proofs.Sealed.{sealed_taken}
use Rattle.core_machine.proofs.FileSwept.{makes_so}

module _ {C : Type 0} {state : C → CoreState} {among : ByteSet} {f : FileEvent} {old new : C} {m n : FileMachine} {r t : RootMachine}
    (to : StepsTo C state among f old new m n r t) where
  abbrev c : CoreState
  c = state old

  abbrev d : CoreState
  d = state new

  abbrev S : List ℕ → Type 0
  S = IsIn among

  abbrev at : IsAt S m.store (stored_in m.now) c
  at = to.steps.at.is_at

  abbrev calm : IsSettled c.tables.slots c.disk
  calm = to.steps.at.settled

  abbrev image : List ℕ
  image = at.stands.known.0

  abbrev here : c.disk.content ≡ Some image
  here = at.stands.known.1

  abbrev Told : StepValue → Result Answer Refusal → Type 0
  Told step answer = KnownWith d.disk.content (BytesOf (asked_as (λ root. f.bytes) step) (answered_by answer f.event.buf) m n image)

  made : Steps f.event c d
  made = running_step c d f.event to.steps.goes to.steps.step.made

  same_told : OnlyReads c.disk d.disk → KnownWith d.disk.content (λ now. now ≡ image)
  same_told reads = reads_told S m.store (stored_in m.now) c d at reads

  abbrev NewestIn : KindSegment → List ℕ → Type 0
  NewestIn seg bytes = HasNewest m.store.held (segment_key seg.kind seg.segment) (pin_of seg).level seg.segment.bytes bytes

  -- ---- claims

  -- what it kept, where it did not stop
  abbrev Kept : StepValue → Result Answer Refusal → Type 0
  Kept step answer = IsNoGcStep step → d.stop ≡ None → AllByRecursion (λ seg. IsHeldIn seg d) (kept_by step answer)

  kept : Kept f.event.step f.event.answer
  kept other stays =
      subst (AllByRecursion (λ seg. IsHeldIn seg d)) (append-nil (kept_by f.event.step f.event.answer))
      (keeps_segments C state among (f ∷ []) m.store (stored_in m.now) old new to.steps.apart at calm (new, (to.steps.step, refl)) (other, tt) stays)

  still_represents : (answer : Result Answer Refusal) → Rests answer c d → Represents m.store d.known d.tables
  still_represents answer rests =
      subst (λ (known : Option PlaceMap). Represents m.store known d.tables) (sym rests.tables.index_is)
      (subst (λ (tables : Tables). Represents m.store c.known tables) (sym rests.tables.tables_are) at.represents)

  claim_bytes : (seg : KindSegment) (answer : Result Answer Refusal) → ClaimRow seg f.event.actor answer c d → Rests answer c d
      → StopsAfter (steps.Claim seg) answer c.acknowledged d.stop → Kept (steps.Claim seg) answer
      → IfErr answer (λ refusal. IsHarmless (MayClash (steps.Claim seg)) refusal) → Told (steps.Claim seg) answer
  claim_bytes seg (Ok answers.Held) row effect stops keeps harmless =
      let (now, told, same) = same_told effect.disk.only in
      let held = ((keeps tt stops).0.newest m.store (still_represents (Ok answers.Held) effect)).each now (d.disk.as_read now told) in
      let holds : Holds image seg = (m.store, (right_here S m.store (stored_in m.now) c d at, subst (λ (bytes : List ℕ). NewestIn seg bytes) same held)) in
      (now, told, (same, holds))
  claim_bytes seg (Ok answers.Absent) row effect stops keeps harmless = same_told effect.disk.only
  claim_bytes seg (Ok answer) row effect stops keeps harmless = absurd row
  claim_bytes seg (Err (refusals.Clash key at_byte)) row effect stops keeps harmless =
      known_weaker d.disk.content (λ now. now ≡ image) (BytesOf (asked.Claim seg) (Err (refusals.Clash key at_byte)) m n image)
      (λ now same. (same, clashes_with S m.store (stored_in m.now) c d at image here seg.kind seg.segment harmless.0 key at_byte row.0.1)) (same_told effect.disk.only)
  claim_bytes seg (Err refusal) row effect stops keeps harmless = same_told effect.disk.only

  -- ---- seals

  seal_rests : (offered : List Contents) (refusal : Refusal) → IsRest (ending_of (blames refusal)) → SealsSome offered (Err refusal) c d
      → KnownWith d.disk.content (SameStore image)
  seal_rests offered refusal rests effect =
      store_told S m.store (stored_in m.now) c d at (rest_told S m.store (stored_in m.now) c d at (ending_of (blames refusal)) rests effect.disk.left)

  -- those that are sealed, by the tables and by the machine
  abbrev room : List Contents → ℕ
  room offered = sealed_of (length offered) (free_slots m.store.held) c.tables.held.last_id

  last_here : m.last_id ≡ c.tables.held.last_id
  last_here = sym to.steps.forgets.last_id ∙ to.steps.machine.last_id

  room_is : (offered : List Contents) → take (room offered) offered ≡ sealed_in offered m
  room_is offered = ap (λ (last : ℕ). take (sealed_of (length offered) (free_slots m.store.held) last) offered) (sym last_here)

  seal_slots : (offered : List Contents) (answer : Result Answer Refusal) → SealsSome offered answer c d
      → KnownWith d.disk.content (SameButSlots m.last_id (take (room offered) offered) image)
  seal_slots offered answer effect =
      slots_told S m.store (stored_in m.now) c d at calm m.last_id (take (room offered) offered) (omega (arith, length-take (room offered) offered))
      (subst (λ (id : ℕ). ChangesSlotsAlone c.tables.slots (slots_of (in_free id (take (room offered) offered) m.store)) c.disk d.disk) (omega (arith, last_here))
      (effect.moves.frame.store_has m.store at.represents at.valid (at.invariant image here).has_free))

  sealed_held : (offered : List Contents) (id count : ℕ) → AreSealed offered id count f.event.actor c d → SealsSome offered (Ok (answers.Sealed id count)) c d
      → IsStep (steps.Seal offered) → IsGivenRight S (steps.Seal offered) (Ok (answers.Sealed id count)) f.bytes c → (now : List ℕ) → d.disk.content ≡ Some now
      → AllByRecursion (AllHeld now) (take count offered)
  sealed_held offered id count row effect right given now told =
      let free = (at.invariant image here).has_free in
      let ps : List Placed = offer_in c.tables offered m.store in
      let may = may_offer S c.tables offered m.store (may_seal_each S offered right.1 given) in
      let moved = effect.moves.moves among m.store m.now.names at.index at.index_known at.represents (at.invariant image here).files_are_indexed to.steps.apart may at.stands in
      let stands = stands_here S m.store (stored_in m.now) c d at in
      let holds = effect.moves.holds among m.store m.now.names at.index image now at.index_known at.represents here told stands to.steps.apart may in
      let P : Kind → List Segment → Type 0 = λ kind segments. AllByRecursion (λ x. HasNewest (with_all ps m.store).held (segment_key kind x) x.level x.bytes now) segments in
      let offer_is : ps ≡ in_free (next_id c) (take count offered) m.store = ap (λ (n : ℕ). in_free (next_id c) (take n offered) m.store)
      (sym ((row.room c.disk.size c.known).store_has m.store at.represents at.valid free)) in
      each_so (λ x. P x.kind x.segments) (AllHeld now) (take count offered)
      (λ x has. all_held S (with_all ps m.store) m.now.names now (moved.arrives.each now (d.disk.as_read now told)) x has)
      (all_free P (next_id c) (take count offered) m.store _ (effect.made.can.store_has m.store at.represents at.valid free)
      (subst (AllByRecursion (λ (p : Placed). P p.kind p.segments)) offer_is holds.1))

  seal_bytes : (offered : List Contents) (answer : Result Answer Refusal) → SealRow offered f.event.actor answer c d → SealsSome offered answer c d → IsStep (steps.Seal offered)
      → IsGivenRight S (steps.Seal offered) answer f.bytes c → IfErr answer (λ refusal. IsHarmless (MayClash (steps.Seal offered)) refusal) → Told (steps.Seal offered) answer
  seal_bytes offered (Ok (answers.Sealed id count)) row effect right given harmless =
      let (now, told, same) = seal_slots offered (Ok (answers.Sealed id count)) effect in
      let many : room offered ≡ count = sym ((row.room c.disk.size c.known).store_has m.store at.represents at.valid (at.invariant image here).has_free) in
      (now, told, (subst (λ (n : ℕ). SameButSlots m.last_id (take n offered) image now) many same, sealed_held offered id count row effect right given now told))
  seal_bytes offered (Ok answer) row effect right given harmless = absurd row
  seal_bytes offered (Err (refusals.Clash key at_byte)) row effect right given harmless =
      let slots : List ℕ = row.0.1.0 in
      let first = row.0.1.2 in
      let here_in = got_taken (length slots) offered first.number first.contents first.contents_are in
      let clash : OneClashes first.contents image key at_byte = (
        first.unlike.number,
        (
          segment_at first.contents.segments first.unlike.number,
          (
            segment_there first.contents.segments first.unlike.number first.unlike.within,
            clashes_with S m.store (stored_in m.now) c d at image here first.contents.kind (segment_at first.contents.segments first.unlike.number)
                (twin_is_tree offered right.0 harmless first.number first.contents here_in) key at_byte first.unlike.unlike,
          ),
        ),
      ) in
      let (now, told, same) = seal_rests offered (refusals.Clash key at_byte) tt effect in (
        now,
        told,
        (
          same,
          subst (AnyByRecursion (λ one. OneClashes one image key at_byte)) (sym (sealed_taken m r c to.steps.forgets to.steps.machine offered slots row.0.1.1))
              (any_got (λ one. OneClashes one image key at_byte) (take (length slots) offered) first.number first.contents first.contents_are clash),
        ),
      )
  seal_bytes offered (Err refusals.DiskWrite) row effect right given harmless =
      known_weaker d.disk.content (SameButSlots m.last_id (take (room offered) offered) image) (SameButSlots m.last_id (sealed_in offered m) image)
      (λ now same. subst (λ (cs : List Contents). SameButSlots m.last_id cs image now) (room_is offered) same) (seal_slots offered (Err refusals.DiskWrite) effect)
  seal_bytes offered (Err (refusals.Stopped count)) row effect right given harmless = absurd row.0.1.2.unlike.unlike.refused.2
  seal_bytes offered (Err refusals.DiskRead) row effect right given harmless = seal_rests offered refusals.DiskRead tt effect
  seal_bytes offered (Err refusal) row effect right given harmless = seal_rests offered refusal tt effect

  -- ---- names

  name_bytes : (name : List ℕ) (change : Change) (answer : Result Answer Refusal) → NamesOne name change answer c d → KnownWith d.disk.content (SameButRecord image)
  name_bytes name change answer effect = record_told S m.store (stored_in m.now) c d at calm name change effect.disk.later effect.frame

  commit_bytes : (name : List ℕ) (root : Root) (answer : Result Answer Refusal) → CommitRow name root f.event.actor answer c d → NamesOne name (Put root) answer c d
      → Told (steps.Commit name root) answer
  commit_bytes name root (Ok (answers.Committed sequence)) row effect = name_bytes name (Put root) (Ok (answers.Committed sequence)) effect
  commit_bytes name root (Ok answer) row effect = absurd row
  commit_bytes name root (Err refusals.DiskWrite) row effect = name_bytes name (Put root) (Err refusals.DiskWrite) effect
  commit_bytes name root (Err refusals.DiskRead) row effect = same_told effect.disk.ends
  commit_bytes name root (Err refusal) row effect = same_told effect.disk.ends

  delete_bytes : (name : List ℕ) (answer : Result Answer Refusal) → DeleteRow name answer c d → NamesOne name Gone answer c d → Told (steps.Delete name) answer
  delete_bytes name (Ok (answers.Deleted sequence)) row effect = name_bytes name Gone (Ok (answers.Deleted sequence)) effect
  delete_bytes name (Ok answer) row effect = absurd row
  delete_bytes name (Err refusals.DiskWrite) row effect = name_bytes name Gone (Err refusals.DiskWrite) effect
  delete_bytes name (Err refusals.DiskRead) row effect = same_told effect.disk.ends
  delete_bytes name (Err refusal) row effect = same_told effect.disk.ends

  -- ---- steps of a collection

  gc_refused : (refusal : Refusal) → IsRest (ending_of (blames refusal)) → IsNotMade refusal c d → GcEffect (Err refusal) c d → KnownWith d.disk.content (SameStore image)
  gc_refused refusal rests row effect =
      refused among m c d at calm row.before row.ran row.before.stage row.before.sweep.next refusal rests row.cause
      (subst (λ (o : Option Collection). TouchesBy o (Err refusal) c d.disk) row.ran effect.touches)

  gc_bytes : (answer : Result Answer Refusal) → GcRow answer c d → GcEffect answer c d → NamesGc answer c d r t
      → Answers of_files f.event.actor asked.GcStep (answered_by answer f.event.buf) m n → Told steps.GcStep answer
  gc_bytes (Ok (answers.Did phase)) (goes, parts) effect moves by =
      swept among m c d at calm goes.before goes.ran n goes.before.stage goes.before.sweep.next m.last_id refl refl
      (subst (λ (o : Option Collection). TouchesBy o (Ok (answers.Did phase)) c d.disk) goes.ran effect.touches)
      (makes_so m n r t to.steps.forgets to.forgets c d phase goes moves by)
  gc_bytes (Ok (answers.Done freed copied)) (ended, parts) effect moves by =
      let touched = subst (λ (o : Option Collection). TouchesBy o (Ok (answers.Done freed copied)) c d.disk) ended.ran effect.touches in
      same_told (end_reads ended.before c.tables Done c.disk d.disk ended.at_end.0 ended.at_end.1 touched).only
  gc_bytes (Ok answer) row effect moves by = absurd row
  gc_bytes (Err refusals.NotCollecting) (none, parts) effect moves by =
      same_told (subst (λ (o : Option Collection). TouchesBy o (Err refusals.NotCollecting) c d.disk) none.none_ran effect.touches).only
  gc_bytes (Err (refusals.Stopped count)) row effect moves by = absurd by.1
  gc_bytes (Err refusals.DiskWrite) row effect (k, runs, t_is) (may, (stores, breaks, is)) =
      let n_is = ap (λ (x : FileMachine). x.state) is in
      let same = stores_are m n r t to.steps.forgets to.forgets c.tables.held.last_id to.steps.machine.last_id k stores _ n_is t_is refl in
      broke among m c d at calm k runs n k.stage k.sweep.next c.tables.held.last_id refl refl
      (subst (λ (o : Option Collection). TouchesBy o (Err refusals.DiskWrite) c d.disk) runs effect.touches)
      (n_is ∙ ap (λ (ss : List Store). let x : RunState (List ℕ) = Stopped None ss in x) same)
  gc_bytes (Err refusals.DiskRead) (not, parts) effect moves by = gc_refused refusals.DiskRead tt not effect
  gc_bytes (Err refusal) (not, parts) effect moves by = gc_refused refusal tt not effect

  -- ---- each step

  bytes_by : (step : StepValue) (answer : Result Answer Refusal) → IsStep step → IsGivenRight S step answer f.bytes c → Row step f.event.actor answer f.event.buf c d
      → Effect step answer c d → StopsAfter step answer c.acknowledged d.stop → Kept step answer → IfErr answer (λ refusal. IsHarmless (MayClash step) refusal)
      → NamesStep step answer c d r t → LegalBy of_files (asked_as (λ root. f.bytes) step) f.event.actor (answered_by answer f.event.buf) m n → Told step answer
  bytes_by (steps.Claim seg) answer right given row effect stops keeps harmless named legal = claim_bytes seg answer row effect stops keeps harmless
  bytes_by (steps.Seal offered) answer right given row effect stops keeps harmless named legal = seal_bytes offered answer row effect right given harmless
  bytes_by (steps.Commit name root) answer right given row effect stops keeps harmless named legal = commit_bytes name root answer row effect
  bytes_by (steps.Delete name) answer right given row effect stops keeps harmless named legal = delete_bytes name answer row effect
  bytes_by steps.GcStep answer right given row effect stops keeps harmless named legal =
      gc_bytes answer row effect named
      (subst (λ (s : RunState (List ℕ)). ByState of_files s f.event.actor asked.GcStep (answered_by answer f.event.buf) m n) to.steps.runs legal)
  bytes_by step answer right given row effect stops keeps harmless named legal = same_told effect.disk.only

  pub bytes_stepped : ChangesBytes (file_step f) m n c.disk.content d.disk.content
  bytes_stepped =
      known_of c.disk.content image (λ given. KnownWith d.disk.content (BytesOf (file_step f).asked (file_step f).answer m n given)) here
      (bytes_by f.event.step f.event.answer to.steps.step.asked to.steps.step.given made.made.row made.made.effect made.stops kept
      (never_damaged among f m.store (stored_in m.now) c d to.steps.apart at to.steps.step) to.steps.named to.legal)

-- ---- a core that is stopped

-- what it answers is said of no byte
pub stopped_bytes : (m n : FileMachine) (content bytes : List ℕ) (count : ℕ) (step : StepValue)
    → BytesOf (asked_as (λ root. bytes) step) (Err (refusals.Stopped count)) m n content content
stopped_bytes m n content bytes count (steps.Seal offered) = refl
stopped_bytes m n content bytes count steps.GcStep = refl
stopped_bytes m n content bytes count step = refl
