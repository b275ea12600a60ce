-- Why a call of the index or of the disk is not answered (docs/MODEL.md, 'Marking').
use Rattle.std.specs.Prelude.{◌≡◌, ◌≢◌, ℕ, List, length}
use Rattle.sha2.specs.Sha256.{sha256}
use Rattle.disk_format.specs.declared.why.Why.{Why}
use Rattle.container_meta.specs.declared.place.Place.{Place}
use Rattle.gc_enumerate.specs.declared.fault.ScanFault.{ScanFault}
use Rattle.gc_enumerate.specs.declared.fault.ScanFault.TheVariants.{DiskRead, Corrupt, Damaged}

-- why the place of a key is not told: a read that failed, or damage of the index
abbrev pub IsLookupFault : (ℕ → Why → Type 0) → ScanFault → Type 0
IsLookupFault damaged DiskRead = Unit {0}
IsLookupFault damaged (Damaged at why) = damaged at why
IsLookupFault damaged fault = ⊥

-- reads showed bytes at a place that have another digest than the one wanted
pub record IsCorrupt (showed : Place → List ℕ → Type 0) (place : Place) (digest : List ℕ) (slot offset count : ℕ) (want got : List ℕ)
    : Type 0 where
  pub slot_is : slot ≡ place.slot
  pub offset_is : offset ≡ place.offset
  pub count_is : count ≡ place.length
  pub want_is : want ≡ digest
  pub differ : want ≢ got
  pub bytes : List ℕ
  pub long : length bytes ≡ place.length
  pub shown : showed place bytes
  pub digest_is : sha256 bytes ≡ got

-- why the bytes at a place are not given: a read that failed, or bytes of another digest
abbrev pub IsReadFault : (Place → List ℕ → Type 0) → Place → List ℕ → ScanFault → Type 0
IsReadFault showed place digest DiskRead = Unit {0}
IsReadFault showed place digest (Corrupt slot offset count want got) = IsCorrupt showed place digest slot offset count want got
IsReadFault showed place digest fault = ⊥
