-- Why a collection goes no further, where what one thing shows another shows.
use Rattle.backup_engine.proofs.Prelude.{◌≡◌, inl, inr, ℕ, List, Entry, Place, PlaceMap, DiskView, Why, IsScanFault, Refusal, Damaged, Store, place_of, bytes_at, IsUnmarked, ShownSince, ShownThere}
use Rattle.gc_enumerate.specs.Scanning.{IsStuck, Scan}
use Rattle.gc_enumerate.specs.declared.fault.ScanFault.{ScanFault}
use Rattle.gc_enumerate.specs.declared.fault.ScanFault.TheVariants as faults
use Rattle.gc_enumerate.proofs.Scans.{entry_fault_wider, finds_wider}
use Rattle.backup_engine.specs.AnyDisk.{HasBadHeader, IsUncopied}
use Rattle.backup_engine.proofs.UnlikeNodes.{copy_refusal}

module _ (s : Scan) (showed showed' : Place → List ℕ → Type 0) (wider : (place : Place) (bytes : List ℕ) → showed place bytes → showed' place bytes)
    (damaged damaged' : ℕ → Why → Type 0) (still : (at : ℕ) (why : Why) → damaged at why → damaged' at why) where
  stuck_wider : (entries : List Entry) (fault : ScanFault) → IsStuck s showed damaged entries fault → IsStuck s showed' damaged' entries fault
  stuck_wider entries fault stuck = record {
    before = stuck.before;
    at = stuck.at;
    after = stuck.after;
    entries_are = stuck.entries_are;
    found = stuck.found;
    passed = finds_wider s showed showed' wider stuck.before stuck.found stuck.passed;
    cause = entry_fault_wider s showed showed' wider damaged damaged' still stuck.at fault stuck.cause;
  }

  pub fault_wider : (entries : List Entry) (fault : ScanFault) → IsScanFault s showed damaged entries fault → IsScanFault s showed' damaged' entries fault
  fault_wider entries faults.Memory cause = tt
  fault_wider entries faults.DiskRead cause = stuck_wider entries faults.DiskRead cause
  fault_wider entries (faults.Corrupt slot offset count want got) cause = stuck_wider entries (faults.Corrupt slot offset count want got) cause
  fault_wider entries (faults.Missing key) cause = stuck_wider entries (faults.Missing key) cause
  fault_wider entries (faults.Damaged at why) cause = stuck_wider entries (faults.Damaged at why) cause

module _ (old old_now new new_now : DiskView) (each : (P : List ℕ → Type 0) → ShownSince old old_now P → ShownSince new new_now P) where
  pub bad_header_so : (store : Store) (refusal : Refusal) → HasBadHeader store old old_now refusal → HasBadHeader store new new_now refusal
  bad_header_so store (Damaged at why) (slot, (at_is, inl damage)) =
      (slot, (at_is, inl (record { bytes = damage.bytes; first = damage.first; are_found = each _ damage.are_found })))
  bad_header_so store (Damaged at why) (slot, (at_is, inr other)) = (
    slot,
    (
      at_is,
      inr (record {
        changes = other.changes;
        sweeps = other.sweeps;
        wanted = other.wanted;
        stands = other.stands;
        header = other.header;
        right = other.right;
        shown = each _ other.shown;
        first = other.first;
      }),
    ),
  )
  bad_header_so store refusal is = absurd is

  pub unmarked_so : (index : PlaceMap) (refusal : Refusal) → IsUnmarked index old old_now refusal → IsUnmarked index new new_now refusal
  unmarked_so index refusal is = record {
    slot = is.slot;
    level = is.level;
    header = is.header;
    right = is.right;
    shown = each _ is.shown;
    live = is.live;
    fault = is.fault;
    refusal_is = is.refusal_is;
    cause = fault_wider _ (ShownThere old old_now) (ShownThere new new_now) (λ place bytes. each (λ image. bytes_at place image ≡ bytes)) (λ at why. ⊥) (λ at why. ⊥)
        (λ at why none. none) is.header.entries is.fault is.cause;
  }

  pub uncopied_so : (refusal : Refusal) → IsUncopied old old_now refusal → IsUncopied new new_now refusal
  uncopied_so refusal is = record {
    slot = is.slot;
    header = is.header;
    shown = each _ is.shown;
    entry = is.entry;
    one_of = is.one_of;
    cause = copy_refusal (ShownSince old old_now) (ShownSince new new_now) each (place_of is.slot is.entry) is.entry.digest refusal is.cause;
  }
