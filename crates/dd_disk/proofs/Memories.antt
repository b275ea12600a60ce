-- What a call of a disk makes of it, put together.
use Rattle.std.proofs.Common.{◌≡◌, ◌⊎◌, inl, inr, ℕ, ◌≤◌, List, ◌∙◌, arith}
use Rattle.base_model.specs.Known.{Known, KnownWith}
use Rattle.dd_disk.specs.View.{DiskView, IsLater, OnlyReads, CrashLeaves, SteppedFrom}

-- each image that a crash may leave now is one from before, but for a step
abbrev pub CrashSteps : (List ℕ → List ℕ → Type 0) → (List ℕ → Type 0) → (List ℕ → Type 0) → Type 0
CrashSteps step old new = (c : List ℕ) → new c → (d : List ℕ) × old d × step d c

-- what happens inside a call has the time of its start
pub record TimeAdvances (before now : ℕ) (past since : ℕ → List ℕ → Type 0) (images : List ℕ → Type 0) : Type 0 where
  pub later : before ≤ now
  pub nothing_else : (t : ℕ) (c : List ℕ) → t ≤ before → since t c → past t c ⊎ images c
  pub keeps : (t : ℕ) (c : List ℕ) → t ≤ before → past t c → since t c

-- so it is of a disk
abbrev pub Goes : DiskView → DiskView → Type 0
Goes old new = TimeAdvances old.clock new.clock old.images_since new.images_since new.images

module _ (old new : DiskView) (size : new.size ≡ old.size) (loans : new.loans ≡ old.loans) (faults : old.faults ≤ new.faults)
    (returned : (t at : ℕ) (bytes : List ℕ) → t ≤ old.clock → old.read_returned t at bytes → new.read_returned t at bytes) where
  pub view_later : Known old.content (λ _. KnownWith new.content (λ _. Unit {0})) → Goes old new → IsLater old new
  view_later tells time = record { size_is = size; loans_are = loans; clock_is = time.later; faults_are = faults; tells = tells; returned = returned; images_were = time.keeps }

  pub view_reads : new.content ≡ old.content → ((c : List ℕ) → new.images c → old.images c) → Goes old new → OnlyReads old new
  view_reads same images time = record {
    later = view_later (λ bytes known. (bytes, same ∙ known, tt)) time;
    content_is = same;
    images_are = images;
    since_are = λ t c before was. elim (time.nothing_else t c before was) [ inl earlier ↦ inl earlier | inr here ↦ inr (images c here) ];
  }

pub view_leaves : (step : List ℕ → List ℕ → Type 0) (old new : DiskView) → CrashSteps step old.images new.images → Goes old new → CrashLeaves (SteppedFrom step old) old new
view_leaves step old new follows time = record {
  now = λ c image. inr (follows c image);
  since = λ t c before was. elim (time.nothing_else t c before was) [ inl earlier ↦ inl earlier | inr here ↦ inr (inr (follows c here)) ];
}

pub no_fewer : (before now : ℕ) → now ≡ before → before ≤ now
no_fewer before now same = omega (arith, same)
