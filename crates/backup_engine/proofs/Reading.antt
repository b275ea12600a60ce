-- What a command leaves that did no more than read.
use Rattle.backup_engine.proofs.Prelude.{◌⊎◌, inl, inr, ℕ, List, Option, refl, ◌∙◌, arith, DiskView, OnlyReads, CommandLine, Format, Ingest, Restore, Collect, LeavesMeanwhile, SinceStart, KeepsRest, KeepsOthers, IsSameDisk}
use Rattle.reply_text.specs.declared.ending.Ending.{Ending}
use Rattle.backup_engine.specs.AnyDisk.{IsUnchanged}
use Rattle.backup_engine.specs.Line.{Delete}
use Rattle.backup_engine.specs.Line as table

-- ---- what stays

kept : (command : CommandLine) (ending : Option Ending) (old : List ℕ) → KeepsRest command ending old old
kept (Format slots) ending old = λ gate. refl
kept (Ingest name) ending old = inl refl
kept (Restore name) ending old = refl
kept (Delete name) ending old = inl refl
kept table.List ending old = refl
kept (Collect percent) ending old = inl refl

-- of a disk of which all is as it was there was no more than reads
pub same_reads : (v w : DiskView) → IsSameDisk v w → OnlyReads v w
same_reads v w same = record {
  later = record {
    size_is = same.size_is;
    loans_are = same.loans_are;
    clock_is = omega (arith, same.clock_is);
    faults_are = omega (arith, same.faults_are);
    tells = λ old told. (old, same.content_is ∙ told, tt);
    returned = λ t at bytes within was. (same.returned_are t at bytes).1 was;
    images_were = λ t c within was. (same.since_are t c).1 was;
  };
  content_is = same.content_is;
  images_are = λ c image. (same.images_are c).0 image;
  since_are = λ t c within image. inl ((same.since_are t c).0 image);
}

-- a crash since the start leaves what one might have left before
pub since_start : (v w : DiskView) → OnlyReads v w → (c : List ℕ) → SinceStart v w c → v.images c
since_start v w reads c (inl now) = reads.images_are c now
since_start v w reads c (inr before) =
    elim (reads.since_are v.clock c (omega arith) before.1) [ inl past ↦ v.only_now c before.0 past | inr here ↦ here ]

pub reads_leave : (v w : DiskView) → OnlyReads v w → (P : List ℕ → Type 0) → LeavesMeanwhile P v w
reads_leave v w reads P = record {
  now = λ c image. inl (reads.images_are c image);
  since = λ t c within below image. elim (reads.since_are t c within image) [ inl past ↦ inl past | inr here ↦ inl (v.counts_now t c within here) ];
}

-- what it leaves since it began
pub since_began : (P : List ℕ → Type 0) (v w : DiskView) → LeavesMeanwhile P v w → (c : List ℕ) → SinceStart v w c → v.images c ⊎ P c
since_began P v w leaves c (inl now) = leaves.now c now
since_began P v w leaves c (inr since) =
    elim (leaves.since v.clock c (omega arith) since.0 since.1) [ inl was ↦ inl (v.only_now c since.0 was) | inr there ↦ inr there ]

pub unchanged : (v w : DiskView) → OnlyReads v w → IsUnchanged v w
unchanged v w reads = record { content = reads.content_is; images = reads.images_are; between = reads.since_are }

pub reads_frame : (command : CommandLine) (ending : Option Ending) (v w : DiskView) → OnlyReads v w → KeepsOthers command ending v w
reads_frame command ending v w reads = record {
  content = λ old known. (old, reads.content_is ∙ known, kept command ending old);
  crash = λ old known. reads_leave v w reads _;
}
