-- What reads leave as it was, from call to call.
use Rattle.std.proofs.Common.{inl, inr, ℕ, ◌≤◌, List, refl, sym, ◌∙◌, arith}
use Rattle.dd_disk.specs.View.{DiskView, IsLater, OnlyReads, IsDurable, CrashLeaves}

pub later_here : (v : DiskView) → IsLater v v
later_here v = record {
  size_is = refl;
  loans_are = refl;
  clock_is = omega arith;
  faults_are = omega arith;
  tells = λ bytes known. (bytes, known, tt);
  returned = λ t at bytes before read. read;
  images_were = λ t c before image. image;
}

pub later_on : (old mid new : DiskView) → IsLater old mid → IsLater mid new → IsLater old new
later_on old mid new first second = record {
  size_is = second.size_is ∙ first.size_is;
  loans_are = second.loans_are ∙ first.loans_are;
  clock_is = omega (arith, first.clock_is, second.clock_is);
  faults_are = omega (arith, first.faults_are, second.faults_are);
  tells = λ bytes known. let then = first.tells bytes known in second.tells then.0 then.1;
  returned = λ t at bytes before read. second.returned t at bytes (omega (arith, before, first.clock_is)) (first.returned t at bytes before read);
  images_were = λ t c before image. second.images_were t c (omega (arith, before, first.clock_is)) (first.images_were t c before image);
}

pub reads_here : (v : DiskView) → OnlyReads v v
reads_here v = record { later = later_here v; content_is = refl; images_are = λ c image. image; since_are = λ t c before image. inl image }

-- Calls that leave only P, and then calls that leave only Q.
pub leaves_on : (P Q R : List ℕ → Type 0) (old mid new : DiskView) → old.clock ≤ mid.clock → CrashLeaves P old mid → CrashLeaves Q mid new
    → ((c : List ℕ) → P c → R c) → ((c : List ℕ) → Q c → R c) → CrashLeaves R old new
leaves_on P Q R old mid new later first second one two = record {
  now = λ c image. two c (second.now c image);
  since = λ t c before image. elim (second.since t c (omega (arith, before, later)) image) [
    | inr there ↦ inr (two c there)
    | inl earlier ↦ elim (first.since t c before earlier) [ inl past ↦ inl past | inr there ↦ inr (one c there) ]
  ];
}

pub leaves_weaker : (P Q : List ℕ → Type 0) (old new : DiskView) → ((c : List ℕ) → P c → Q c) → CrashLeaves P old new → CrashLeaves Q old new
leaves_weaker P Q old new each leaves = record {
  now = λ c image. each c (leaves.now c image);
  since = λ t c before image. elim (leaves.since t c before image) [ inl earlier ↦ inl earlier | inr here ↦ inr (each c here) ];
}

-- calls that only read leave images from before
pub reads_leave : (P : List ℕ → Type 0) (old new : DiskView) → ((c : List ℕ) → old.images c → P c) → OnlyReads old new → CrashLeaves P old new
reads_leave P old new each reads = record {
  now = λ c image. each c (reads.images_are c image);
  since = λ t c before image. elim (reads.since_are t c before image) [ inl earlier ↦ inl earlier | inr here ↦ inr (each c here) ];
}

pub reads_on : (old mid new : DiskView) → OnlyReads old mid → OnlyReads mid new → OnlyReads old new
reads_on old mid new first second =
    let leaves = leaves_on old.images old.images old.images old mid new first.later.clock_is (reads_leave old.images old mid (λ c image. image) first)
    (reads_leave old.images mid new first.images_are second) (λ c image. image) (λ c image. image) in
    record { later = later_on old mid new first.later second.later; content_is = second.content_is ∙ first.content_is; images_are = leaves.now; since_are = leaves.since }

-- what stands after a crash stands there until a write
pub durable_reads : (old new : DiskView) → IsDurable old → OnlyReads old new → IsDurable new
durable_reads old new synced reads bytes known c image = synced bytes (sym reads.content_is ∙ known) c (reads.images_are c image)
