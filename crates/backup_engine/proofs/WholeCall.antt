-- What is so of the steps of a core that was opened and is closed then, of all of the call.
use Rattle.backup_engine.proofs.Prelude.{inl, inr, ℕ, List, sym, subst, arith, CountsFault, CrashLeaves, DiskView, IsLater, OnlyReads, later_on, CoreState, LeavesMeanwhile}
use Rattle.dd_disk.specs.Ending as device
use Rattle.dd_disk.proofs.Later.{reads_on}
use Rattle.backup_engine.proofs.Called.{Called}

module _ (C : Type 0) (state : C → CoreState) (v w : DiskView) (old new : C) (called : Called C state v w old new) where
  pub all_counted : (e : device.Ending) → CountsFault e (state old).disk.faults (state new).disk.faults → CountsFault e v.faults w.faults
  all_counted e counts =
      subst (λ (n : ℕ). CountsFault e n w.faults) called.first.faults_are (subst (λ (n : ℕ). CountsFault e (state old).disk.faults n) (sym called.last.faults_are) counts)

  pub all_reads : OnlyReads (state old).disk (state new).disk → OnlyReads v w
  all_reads reads = reads_on v (state old).disk w called.first.only (reads_on (state old).disk (state new).disk w reads called.last.only)

  pub to_end : IsLater (state old).disk (state new).disk → IsLater (state old).disk w
  to_end later = later_on (state old).disk (state new).disk w later called.last.only.later

  -- what a crash leaves at all moments of the call, by what one since the store was opened does
  pub leaves_of : (P : List ℕ → Type 0) → IsLater (state old).disk (state new).disk → CrashLeaves P (state old).disk (state new).disk → LeavesMeanwhile P v w
  leaves_of P later leaves = record {
    now = λ c image. inr (leaves.now c (called.last.only.images_are c image));
    since = λ t c within below image.
        elim (called.last.only.since_are t c (omega (arith, within, called.first.only.later.clock_is, later.clock_is)) image) [
          | inl was ↦ elim (leaves.since t c (omega (arith, within, called.first.only.later.clock_is)) was) [
            | inl before ↦ elim (called.first.only.since_are t c within before) [ inl earlier ↦ inl earlier | inr there ↦ inl (v.counts_now t c within there) ]
            | inr kept ↦ inr kept
          ]
          | inr there ↦ inr (leaves.now c there)
        ];
  }

pub leaves_more : (P Q : List ℕ → Type 0) (v w : DiskView) → ((c : List ℕ) → P c → Q c) → LeavesMeanwhile P v w → LeavesMeanwhile Q v w
leaves_more P Q v w more leaves = record {
  now = λ c image. elim (leaves.now c image) [ inl was ↦ inl was | inr there ↦ inr (more c there) ];
  since = λ t c within below image. elim (leaves.since t c within below image) [ inl was ↦ inl was | inr there ↦ inr (more c there) ];
}
