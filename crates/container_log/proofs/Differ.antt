-- What is so of the first fault of a header: it is not want of memory, and where its digest is at fault, it has another
-- digest than it says.
use Rattle.std.proofs.Common.{◌≡◌, ◌≢◌, ℕ, zero, suc, List, [], ◌∷◌, ◌++◌, length, Some, None, Err}
use Rattle.base_model.specs.Bytes.{range}
use Rattle.base_model.specs.Checks.{checked}
use Rattle.base_model.proofs.Checks.{checked_err, step_err, unequal}
use Rattle.container_meta.specs.declared.kind.Kind.{Kind}
use Rattle.container_meta.specs.declared.entry.Entry.{Entry}
use Rattle.container_meta.specs.declared.fault.MetaFault.{MetaFault}
use Rattle.container_meta.specs.declared.fault.MetaFault.TheVariants as meta
use Rattle.container_meta.specs.Format.{entry_place}
use Rattle.container_meta.specs.Reading.{digest_at, opening_checks, digest_checks, field_checks, entry_checks, entry_at, entries_at, header_at}
use Rattle.disk_format.specs.declared.why.Why.{Why}
use Rattle.disk_format.specs.declared.why.Why.TheVariants.{Digest, Field}
use Rattle.container_log.specs.Faults.{why_of, Differs}

abbrev FaultDiffers : MetaFault → Type 0
FaultDiffers (meta.Gate byte) = Unit {0}
FaultDiffers meta.Magic = Unit {0}
FaultDiffers (meta.Field offset got) = Unit {0}
FaultDiffers (meta.Digest want got) = want ≢ got
FaultDiffers meta.Memory = ⊥

entries_differ : (kind : Kind) (data_length after : ℕ) (before : List Entry) (bytes : List ℕ) (fault : MetaFault) → entries_at kind data_length after before bytes ≡ Err fault →
    FaultDiffers fault
unfolding entries_at
entries_differ kind data_length zero before bytes fault e = absurd cc
entries_differ kind data_length (suc after) before bytes fault e =
    let checks = entry_checks kind data_length after before (entry_place (length before)) bytes in
    let entry = entry_at (entry_place (length before)) bytes in
    step_err FaultDiffers (checked checks entry) (λ x. entries_at kind data_length after (before ++ x ∷ []) bytes) fault
    (checked_err FaultDiffers checks entry fault (λ h. tt, (λ h. tt, (λ h. tt, (λ h. tt, (λ h. tt, tt))))))
    (λ x is. entries_differ kind data_length after (before ++ x ∷ []) bytes fault) e

header_differs : (bytes : List ℕ) (fault : MetaFault) → header_at bytes ≡ Err fault → FaultDiffers fault
unfolding header_at
header_differs bytes fault =
    step_err FaultDiffers _ _ fault (checked_err FaultDiffers (opening_checks bytes) _ fault (λ h. tt, (λ h. tt, (λ h. tt, tt)))) (λ count c.
    step_err FaultDiffers _ _ fault (checked_err FaultDiffers (digest_checks bytes) _ fault (unequal (range 24 32 bytes) (digest_at bytes), tt)) (λ digest d.
    step_err FaultDiffers _ _ fault (checked_err FaultDiffers (field_checks bytes) _ fault (λ h. tt, (λ h. tt, (λ h. tt, (λ h. tt, (λ h. tt, tt)))))) (λ kind k.
    step_err FaultDiffers _ _ fault (entries_differ kind _ count [] bytes fault) (λ entries es e. absurd cc))))

pub fault_differs : (bytes : List ℕ) (fault : MetaFault) (why : Why) → header_at bytes ≡ Err fault → why_of bytes fault ≡ Some why → Differs why
fault_differs bytes fault (Field offset got) first named = tt
fault_differs bytes (meta.Digest want got) (Digest w g) first named = let read : want ≢ got = header_differs bytes (meta.Digest want got) first in λ same. read cc
fault_differs bytes (meta.Gate byte) (Digest w g) first named = cc
fault_differs bytes meta.Magic (Digest w g) first named = cc
fault_differs bytes (meta.Field offset got) (Digest w g) first named = cc
fault_differs bytes meta.Memory (Digest w g) first named = cc

pub fault_is_named : (bytes : List ℕ) (fault : MetaFault) → header_at bytes ≡ Err fault → why_of bytes fault ≡ None → ⊥
fault_is_named bytes (meta.Gate byte) first none = cc
fault_is_named bytes meta.Magic first none = cc
fault_is_named bytes (meta.Field offset got) first none = cc
fault_is_named bytes (meta.Digest want got) first none = cc
fault_is_named bytes meta.Memory first none = header_differs bytes meta.Memory first
