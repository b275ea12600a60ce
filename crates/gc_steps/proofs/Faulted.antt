-- Refusals of look-ups and reads, as a scan says them.
use Rattle.gc_steps.proofs.Prelude.{◌≡◌, ℕ, ◌+◌, List, Err, sym, ◌∙◌, ap, Place, ending_of, Shows, DiskView, Why, Refusal, DiskRead, Damaged, Corrupt, bytes_at, blames, ShowsAt}
use Rattle.base_model.specs.Bytes.{range}
use Rattle.dd_disk.specs.Ending.{CountsFault}
use Rattle.dd_disk.proofs.Shows.{weaker}
use Rattle.disk_format.specs.Layout.{data_at}
use Rattle.gc_enumerate.specs.Copies.{CountsReads}
use Rattle.gc_enumerate.specs.Faults.{IsLookupFault, IsReadFault}
use Rattle.store_state.specs.Comparing.{IsCopyRefusal}
use Rattle.store_state.specs.Indexing.{IsFindRefusal}
use Rattle.gc_steps.specs.Scanning.{scan_fault}

pub lookup_fault : (P Q : ℕ → Why → Type 0) → ((at : ℕ) (why : Why) → P at why → Q at why) → (refusal : Refusal) → IsFindRefusal P refusal → IsLookupFault Q (scan_fault refusal)
lookup_fault P Q each DiskRead cause = tt
lookup_fault P Q each (Damaged at why) cause = each at why cause
lookup_fault P Q each _ cause = absurd cause

pub lookup_counts : (T : Type 0) (P : ℕ → Why → Type 0) (before now : ℕ) (refusal : Refusal) → IsFindRefusal P refusal → CountsFault (ending_of (blames refusal)) before now
    → CountsReads {T = T} (Err (scan_fault refusal)) before now
lookup_counts T P before now DiskRead cause counts = counts
lookup_counts T P before now (Damaged at why) cause counts = counts
lookup_counts T P before now _ cause counts = absurd cause

same_bytes : (place : Place) (slot offset count : ℕ) (image : List ℕ) → slot ≡ place.slot → offset ≡ place.offset → count ≡ place.length
    → bytes_at place image ≡ range (data_at slot + offset) count image
same_bytes place slot offset count image s o n =
    ap (λ (x : ℕ). range (data_at x + place.offset) place.length image) (sym s) ∙ ap (λ (x : ℕ). range (data_at slot + x) place.length image) (sym o)
    ∙ ap (λ (x : ℕ). range (data_at slot + offset) x image) (sym n)

pub read_fault : (old new : DiskView) (place : Place) (digest : List ℕ) (refusal : Refusal) → IsCopyRefusal (Shows old new) place digest refusal
    → IsReadFault (ShowsAt old new) place digest (scan_fault refusal)
read_fault old new place digest DiskRead cause = tt
read_fault old new place digest (Corrupt slot offset count want got) cause = record {
  slot_is = cause.0;
  offset_is = cause.1;
  count_is = cause.2;
  want_is = cause.3;
  differ = cause.4;
  bytes = cause.5.bytes;
  long = cause.5.long ∙ cause.2;
  shown = weaker old new (λ image sized is. same_bytes place slot offset count image cause.0 cause.1 cause.2 ∙ is) cause.5.there;
  digest_is = cause.5.digest_is;
}
read_fault old new place digest _ cause = absurd cause

pub read_counts : (T : Type 0) (old new : DiskView) (place : Place) (digest : List ℕ) (before now : ℕ) (refusal : Refusal) → IsCopyRefusal (Shows old new) place digest refusal
    → CountsFault (ending_of (blames refusal)) before now → CountsReads {T = T} (Err (scan_fault refusal)) before now
read_counts T old new place digest before now DiskRead cause counts = counts
read_counts T old new place digest before now (Corrupt slot offset count want got) cause counts = counts
read_counts T old new place digest before now _ cause counts = absurd cause
