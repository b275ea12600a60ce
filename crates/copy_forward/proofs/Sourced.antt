-- A container whose header was read, and then planned.
use Rattle.std.proofs.Common.{◌≡◌, inl, inr, ℕ, ◌≤◌, [], drop, length, List, Option, None, Some, refl, subst, sym}
use Rattle.container_meta.specs.Places.{PlaceMap}
use Rattle.container_meta.specs.Segments.{Contents}
use Rattle.container_meta.specs.Spelling.{HeaderValue, IsHeader}
use Rattle.dd_disk.specs.Ending.{Ending, Done, Reads}
use Rattle.dd_disk.specs.Shows.{Shows}
use Rattle.dd_disk.specs.View.{DiskView, IsLater, OnlyReads, SteppedFrom}
use Rattle.dd_disk.specs.Writes.{Both}
use Rattle.dd_disk.proofs.Later.{reads_leave}
use Rattle.dd_disk.proofs.Shows.{since, until}
use Rattle.disk_format.specs.Layout.{size_of, slot_at}
use Rattle.gc_enumerate.specs.Live.{LiveKeys}
use Rattle.refusals.specs.declared.refusal.Refusal.{Refusal}
use Rattle.segment_index.specs.Changes.{Changes, SameBefore}
use Rattle.store_model.specs.Slots.{HoldsSlot}
use Rattle.store_state.proofs.Changed.{changes_on, size_on}
use Rattle.store_state.specs.declared.slot_table.SlotTable.{SlotTable}
use Rattle.copy_forward.specs.declared.plan.Plan.{Plan}
use Rattle.copy_forward.specs.Copying.{IsSourceRefusal, PlansBy, PlansSource, copy_task}
use Rattle.copy_forward.specs.Headers.{IsTabled}
use Rattle.copy_forward.specs.Planning.{IsPlan, IsPlanRefusal, Source, planned, source_of}
use Rattle.copy_forward.proofs.Planned.{plan_refused_wider, plan_wider}

module _ (t : SlotTable) (known mid_known : Option PlaceMap) (live : LiveKeys) (slot from : ℕ) (h : HeaderValue) (buffer : Contents) (old mid new : DiskView)
    (same : mid_known ≡ known) (shown : Shows old mid (λ image. HoldsSlot image slot (Some h))) (reads : OnlyReads old mid) (later : IsLater mid new) where
  abbrev source : Source
  source = source_of known live slot h.kind

  header_shown : Shows old new (λ image. HoldsSlot image slot (Some h))
  header_shown = until old mid new shown reads.later.clock_is later

  pub plans_after : (plan : Plan) → IsHeader h → IsTabled t slot h → h.kind ≡ buffer.kind → IsPlan (source_of mid_known live slot h.kind) (Shows mid new) h.entries from buffer plan
      → PlansSource (copy_task t known live slot from buffer) old new (Some plan)
  plans_after plan right tabled kind is = record {
    header = h;
    right = right;
    tabled = tabled;
    shown = header_shown;
    plans = (
      kind,
      plan_wider (Shows mid new) (Shows old new) (λ P. since old mid new reads) source h.entries from buffer plan
          (subst (λ (k : Option PlaceMap). IsPlan (source_of k live slot h.kind) (Shows mid new) h.entries from buffer plan) same is),
    );
  }

  pub unplanned_after : (refusal : Refusal) → IsTabled t slot h → h.kind ≡ buffer.kind → from ≤ length h.entries
      → IsPlanRefusal (source_of mid_known live slot h.kind) (Shows mid new) (drop from h.entries) (planned buffer []) refusal
      → IsSourceRefusal (copy_task t known live slot from buffer) old new refusal
  unplanned_after refusal tabled kind few is = inr (
    h,
    tabled,
    header_shown,
    kind,
    few,
    plan_refused_wider (Shows mid new) (Shows old new) (λ P. since old mid new reads) source (drop from h.entries) (planned buffer []) refusal
        (subst (λ (k : Option PlaceMap). IsPlanRefusal (source_of k live slot h.kind) (Shows mid new) (drop from h.entries) (planned buffer []) refusal) same is),
  )

-- what was planned is so by what more reads show
pub plans_until : (t : SlotTable) (known : Option PlaceMap) (live : LiveKeys) (slot from : ℕ) (buffer : Contents) (old mid new : DiskView) (found : Option Plan)
    → OnlyReads old mid → IsLater mid new
    → PlansSource (copy_task t known live slot from buffer) old mid found → PlansSource (copy_task t known live slot from buffer) old new found
plans_until t known live slot from buffer old mid new found reads later is = record {
  header = is.header;
  right = is.right;
  tabled = is.tabled;
  shown = until old mid new is.shown reads.later.clock_is later;
  plans = by_found found is.plans;
}
  where
    by_found : (f : Option Plan) → PlansBy (source_of known live slot is.header.kind) (Shows old mid) is.header from buffer f
        → PlansBy (source_of known live slot is.header.kind) (Shows old new) is.header from buffer f
    by_found None other = other
    by_found (Some plan) (kind, plans) = (
      kind,
      plan_wider (Shows old mid) (Shows old new) (λ P so. until old mid new so reads.later.clock_is later)
          (source_of known live slot is.header.kind) is.header.entries from buffer plan plans,
    )

-- ---- calls that only read change nothing of an index

both_same : (place : ℕ) (a b : Option (List ℕ)) → b ≡ a → Both (SameBefore place) a b
both_same place a b same = subst (Both (SameBefore place) a) (sym same) (here a)
  where
    here : (x : Option (List ℕ)) → Both (SameBefore place) x x
    here None = tt
    here (Some bytes) = record { size = refl; before = λ p n within. refl }

pub changes_read : (place : ℕ) (e : Ending) (old new : DiskView) → Reads e old new → Changes place e old new
changes_read place e old new reads = record {
  later = reads.only.later;
  content_is = both_same place old.content new.content reads.only.content_is;
  leaves = reads_leave (SteppedFrom (SameBefore place) old) old new (λ c image. inl image) reads.only;
  faults_are = reads.faults_are;
}

-- reads, and then a change
pub changes_after : (e : Ending) (old mid new : DiskView) (slots : ℕ) → old.size ≡ size_of slots → Reads Done old mid
    → ((n : ℕ) → mid.size ≡ size_of n → Changes (slot_at n) e mid new)
    → Changes (slot_at slots) e old new
changes_after e old mid new slots size_is reads changes =
    changes_on (slot_at slots) e old mid new Done reads.faults_are (changes_read (slot_at slots) Done old mid reads)
    (changes slots (size_on old mid slots reads.only.later size_is))
