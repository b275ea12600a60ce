-- What a refusal of a step of a collection leaves, that is no failed write: it is safe, as are the store and its index.
use Rattle.gc_steps.proofs.Prelude.{◌≡◌, ◌⊎◌, ◌+◌, inl, inr, ℕ, List, Option, Some, refl, sym, ◌∙◌, ap, subst, Part, PlaceMap, Ending, ending_of, StandsFor, DiskView, OnlyReads, slot_at, Refusal, Memory, DiskRead, Damaged, Numbers, Changes, ByteSet, IsIn, Stands, Files, IsValidFor, Store, IsStoreOf, HasNewest, CoreInvariant, Represents, Tables, Collection, Stage, Mark, Filter, Select, MapStays, SealsIndexed, AllByRecursion, blames, Next, CopyNext, Flush, Release, End, IsFlushStepRefusal, HoldsSweep, SourcesStand, are_newest, may_flush, HoldsAt, SweepIsSafe, KeepsMarks, MarksOnly, MarksAreClosed, IsSafe, IsSafeAt, IsStepRefusal, Keeps, Touches, moment}
use Rattle.dd_disk.specs.Ending.{Refused, Unread}
use Rattle.refusals.specs.declared.refusal.Refusal.TheVariants.{DiskWrite}
use Rattle.gc_steps.specs.declared.collection.Stage.TheVariants.{Sweep}
use Rattle.ingest_steps.specs.Sealing.{FitBeside, KeepsMap}
use Rattle.store_model.specs.Steps.{MaySeal}
use Rattle.gc_steps.proofs.OtherSteps.{kept}
use Rattle.gc_steps.proofs.Safe.{marks_safe, others_safe}
use Rattle.gc_steps.proofs.ScanKeeps.{refusal_keeps}
use Rattle.gc_steps.proofs.StepSafe.{changed_keeps, changed_stands, core_kept, read_keeps, read_stands, store_of}

-- The map of the index stays, and the store; and what the content has the newest copies of.
pub record StaysSafe (index : PlaceMap) (store : Store) (files : Files) (parts : List Part) (image now : List ℕ) (among : ByteSet) (known : Option PlaceMap) (new : DiskView)
    (d : Collection) : Type 0 where
  pub known_is : known ≡ Some index
  pub stands : StandsFor (Stands (IsIn among) store files) new
  pub core : CoreInvariant index store files parts now
  pub safe : IsSafe index store parts now d
  pub keeps : (key : List ℕ) (level : ℕ) (bytes : List ℕ) → HasNewest store.held key level bytes image → HasNewest store.held key level bytes now

-- a refusal but for a write that failed leaves a known map
map_stays : (index : PlaceMap) (known : Option PlaceMap) (refusal : Refusal) → (refusal ≡ DiskWrite → ⊥) → MapStays (Some index) known refusal → known ≡ Some index
map_stays index known DiskWrite other stays = absurd (other refl)
map_stays index known (Damaged at why) other stays = stays index refl
map_stays index known _ other stays = stays

module _ (index : PlaceMap) (store : Store) (files : Files) (parts : List Part) (image now : List ℕ) (among : ByteSet) (t : Tables) (known : Option PlaceMap) (old new : DiskView)
    (c d : Collection)
    (core : CoreInvariant index store files parts image) (represents : Represents store (Some index) t) (valid : IsValidFor old.size store) (content : old.content ≡ Some image)
    (content_now : new.content ≡ Some now) (stands : StandsFor (Stands (IsIn among) store files) old) where
  abbrev Stays : Type 0
  Stays = StaysSafe index store files parts image now among known new d

  abbrev Newest : Type 0
  Newest = (key : List ℕ) (level : ℕ) (bytes : List ℕ) → HasNewest store.held key level bytes image → HasNewest store.held key level bytes now

  holds : IsStoreOf store files image
  holds = store_of store files image now old new among content content_now stands

  -- The collection is safe over the old image, so over the new one.
  stays : known ≡ Some index → StandsFor (Stands (IsIn among) store files) new → Newest → IsSafe index store parts image d → Stays
  stays known_is after keeps safe = record {
    known_is = known_is;
    stands = after;
    core = core_kept index store files parts image now core keeps;
    safe = others_safe index index store store parts parts image now d d (kept index store image now parts d (λ key level bytes need has. keeps key level bytes has)) refl safe;
    keeps = keeps;
  }

  stays_read : known ≡ Some index → OnlyReads old new → IsSafe index store parts image d → Stays
  stays_read known_is only safe =
      stays known_is (read_stands store files image now old new among content content_now stands only)
      (read_keeps store files image now old new among content content_now stands only) safe

  same_safe : IsSafe index store parts image c → d ≡ c → IsSafe index store parts image d
  same_safe safe is = subst (λ (x : Collection). IsSafe index store parts image x) (sym is) safe

  mark_stage : (level slot : ℕ) (refusal : Refusal) → KeepsMarks (Some index) old new level slot c d refusal → d.stage ≡ c.stage
  mark_stage level slot = by_refusal
    where
      by_memory : (d ≡ c) ⊎ MarksOnly (Some index) old new level slot c d → d.stage ≡ c.stage
      by_memory (inl is) = ap (λ (x : Collection). x.stage) is
      by_memory (inr only) = ap (λ (x : Collection). x.stage) only.collection_is

      by_refusal : (refusal : Refusal) → KeepsMarks (Some index) old new level slot c d refusal → d.stage ≡ c.stage
      by_refusal Memory is = by_memory is
      by_refusal _ is = ap (λ (x : Collection). x.stage) is

  mark_safe : (level slot : ℕ) (refusal : Refusal) → c.stage ≡ Mark level slot → MarksAreClosed index store parts image c → KeepsMarks (Some index) old new level slot c d refusal
      → IsSafe index store parts image d
  mark_safe level slot refusal is marks keeps =
      marks_safe index store parts image d (refusal_keeps index store files parts image t old new level slot c d holds represents content is marks refusal keeps) (Mark level slot)
      (mark_stage level slot refusal keeps ∙ is) tt

  -- copies were not written
  module _ (stage_is : c.stage ≡ Sweep) (safe : SweepIsSafe index store parts image c) where
    was_held : HoldsSweep index store.held image c.live c.snapshot c.sweep
    was_held =
        let both : SourcesStand store.held c.snapshot c.sweep
        × HoldsSweep index store.held image c.live c.snapshot c.sweep = subst (λ (s : Stage). HoldsAt s index store.held image c) stage_is safe.sweep_holds in both.1

    abbrev Writes : Ending → Type 0
    Writes e = SealsIndexed t (t.held.last_id + 1) c.sweep.buffer e old new

    abbrev Rests : Type 0
    Rests = StandsFor (Stands (IsIn among) store files) new × Newest

    here : Stands (IsIn among) store files image
    here = stands.each image (old.as_read image content)

    may : AllByRecursion (MaySeal (IsIn among) c.sweep.buffer.kind) c.sweep.buffer.segments
    may = may_flush index store.held image c.live c.snapshot c.sweep was_held (IsIn among) here.holds.nodes here.among

    fit : FitBeside (IsIn among) index c.sweep.buffer.kind c.sweep.buffer.segments store image
    fit = inr (inr (are_newest index store.held image c.live c.snapshot c.sweep was_held))

    still : OnlyReads old new ⊎ StandsFor (Stands (IsIn among) store files) new → StandsFor (Stands (IsIn among) store files) new
    still (inl reads) = read_stands store files image now old new among content content_now stands reads
    still (inr stands_now) = stands_now

    rest_refused : Writes Refused → Rests
    rest_refused moves = (
      still (moves.moves among store (Some index) index files image represents content may core.files_are_indexed fit stands).arrives,
      λ key level bytes has. moves.holds among store (Some index) index files image now represents content content_now here may fit key level bytes tt has,
    )

    rest_unread : Writes Unread → Rests
    rest_unread moves = (
      still (moves.moves among store (Some index) index files image represents content may core.files_are_indexed fit stands).arrives,
      λ key level bytes has. moves.holds among store (Some index) index files image now represents content content_now here may fit key level bytes tt has,
    )

    rests : (refusal : Refusal) → (refusal ≡ DiskWrite → ⊥) → IsFlushStepRefusal t (Some index) refusal → KeepsMap (Some index) known refusal → Writes (ending_of (blames refusal))
        → (known ≡ Some index) × Rests
    rests Memory other cause map moves = (map, rest_refused moves)
    rests Numbers other cause map moves = (map, rest_refused moves)
    rests DiskRead other cause map moves = (map, rest_unread moves)
    rests DiskWrite other cause map moves = absurd (other refl)
    rests (Damaged at why) other cause map moves = absurd (let wrong = cause.1 in cc)
    rests _ other cause map moves = absurd cause.1

  by_stage : (stage : Stage) (next : Next) → c.stage ≡ stage → (refusal : Refusal) → (refusal ≡ DiskWrite → ⊥) → IsSafe index store parts image c
      → IsSafeAt stage index store parts image c
      → IsStepRefusal stage next (moment t (Some index) old c) new refusal → Keeps stage next (moment t (Some index) old c) (moment t known new d) refusal
      → Touches stage next c.sweep t (ending_of (blames refusal)) old new → Stays
  by_stage (Mark level slot) next is refusal other safe marks cause keeps touches = stays_read keeps.1 touches.only (mark_safe level slot refusal is marks keeps.0)
  by_stage (Filter slot) next is refusal other safe sweep cause keeps touches = stays_read keeps.1 touches.only (same_safe safe keeps.0)
  by_stage Select next is refusal other safe sweep cause keeps touches = stays_read keeps.1 touches.only (same_safe safe keeps.0)
  by_stage Sweep (CopyNext source entry) is refusal other safe sweep cause keeps touches =
      let e : Ending = ending_of (blames refusal) in
      let changes : Changes (slot_at store.slots) e old new = touches store.slots valid.size_is in
      stays (map_stays index known refusal other keeps.1) (changed_stands store files image now old new among content content_now stands e changes)
      (changed_keeps store files image now old new among content content_now stands e changes) (same_safe safe keeps.0)
  by_stage Sweep (Flush source entry) is refusal other safe sweep cause keeps touches =
      let so = rests is sweep refusal other cause keeps.1 touches.1 in stays so.0 so.1.0 so.1.1 (same_safe safe keeps.0)
  by_stage Sweep (Release source entry) is refusal other safe sweep cause keeps touches = absurd (other cause)
  by_stage Sweep End is refusal other safe sweep cause keeps touches = absurd cause

  pub refused_safe : (refusal : Refusal) → (refusal ≡ DiskWrite → ⊥) → IsSafe index store parts image c
      → IsStepRefusal c.stage c.sweep.next (moment t (Some index) old c) new refusal
      → Keeps c.stage c.sweep.next (moment t (Some index) old c) (moment t known new d) refusal → Touches c.stage c.sweep.next c.sweep t (ending_of (blames refusal)) old new
      → StaysSafe index store files parts image now among known new d
  refused_safe refusal other safe cause keeps touches = by_stage c.stage c.sweep.next refl refusal other safe safe cause keeps touches
