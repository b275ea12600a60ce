-- How calls ended, one after the other.
use Rattle.std.proofs.Common.{◌≡◌, ℕ, refl, subst, arith}
use Rattle.dd_disk.specs.View.{DiskView}
use Rattle.dd_disk.specs.Ending.{Ending, Blame, Done, Refused, Unread, Broken, ending_of, CountsFault, Reads}
use Rattle.dd_disk.proofs.Later.{reads_here, reads_on as only_reads_on}

-- calls after calls that were done
pub counts_on : (e : Ending) (before mid now : ℕ) → mid ≡ before → CountsFault e mid now → CountsFault e before now
counts_on Done before mid now stays counts = omega (arith, stays, counts)
counts_on Refused before mid now stays counts = omega (arith, stays, counts)
counts_on Unread before mid now stays counts = omega (arith, stays, counts)
counts_on Broken before mid now stays counts = omega (arith, stays, counts)

-- nothing was called
pub reads_none : (v : DiskView) → Reads Done v v
reads_none v = record { only = reads_here v; faults_are = refl }

pub reads_refused : (v : DiskView) → Reads Refused v v
reads_refused v = record { only = reads_here v; faults_are = refl }

-- reads after reads
pub reads_on : (e : Ending) (old mid new : DiskView) → Reads Done old mid → Reads e mid new → Reads e old new
reads_on e old mid new first second = record {
  only = only_reads_on old mid new first.only second.only;
  faults_are = counts_on e old.faults mid.faults new.faults first.faults_are second.faults_are;
}

-- what was read, and what is refused after it
pub reads_then : (old new : DiskView) → Reads Done old new → Reads Refused old new
reads_then old new reads = record { only = reads.only; faults_are = reads.faults_are }

-- an error that is handed on as another that blames the same
pub reads_blamed : (one other : Blame) (old new : DiskView) → one ≡ other → Reads (ending_of one) old new → Reads (ending_of other) old new
reads_blamed one other old new same reads = subst (λ (b : Blame). Reads (ending_of b) old new) same reads
