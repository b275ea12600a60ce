-- Writes, one after the other.
use Rattle.std.proofs.Common.{◌≡◌, inl, inr, ℕ, List, Some, Result, Ok, Err, subst}
use Rattle.dd_disk.specs.View.{DiskView, SteppedFrom}
use Rattle.dd_disk.specs.Ending.{Ending, WriteCall, ending, Done, Refused, Unread, Broken}
use Rattle.dd_disk.proofs.Ended.{counts_on}
use Rattle.dd_disk.specs.Writes.{Writes, Written}
use Rattle.dd_disk.proofs.Later.{later_on, leaves_on, leaves_weaker}

-- the call was done, or broke
abbrev pub IsUnrefused : Ending → Type 0
IsUnrefused Refused = ⊥
IsUnrefused Unread = ⊥
IsUnrefused _ = Unit {0}

pub never_refused : {T E : Type 0} (result : Result T E) → IsUnrefused (ending (λ _. WriteCall) result)
never_refused (Ok x) = tt
never_refused (Err e) = tt

module _ (one next step : List ℕ → List ℕ → List ℕ → Type 0) (part rest whole : List ℕ → List ℕ → Type 0) (old mid new : DiskView)
    (first : Writes one part Done old mid) (wholes : (given m c : List ℕ) → old.content ≡ Some given → part given m → rest m c → whole given c) where
  written_on : (e : Ending) → IsUnrefused e → Written rest e mid new → Written whole e old new
  written_on Done un written = (
    λ given known.
        let m = first.written.0 given known in
        let c = written.0 m.0 m.1 in
        (c.0, c.1, wholes given m.0 c.0 known m.2 c.2),
    written.1,
  )
  written_on Refused un written = absurd un
  written_on Unread un written = absurd un
  written_on Broken un written = tt

  -- a write that was synced, and a write on top of it
  pub writes_on : (e : Ending) → IsUnrefused e → Writes next rest e mid new
      → ((given d c : List ℕ) → old.content ≡ Some given → one given d c → step given d c)
      → ((given m c : List ℕ) → old.content ≡ Some given → part given m → next m m c → step given given c)
      → Writes step whole e old new
  writes_on e un second weaker joined = record {
    later = later_on old mid new first.later second.later;
    steps = λ given known.
        let m = first.written.0 given known in
        let before : (c : List ℕ) → SteppedFrom (one given) old c → SteppedFrom (step given) old c =
        λ c from. elim from [ inl same ↦ inl same | inr stepped ↦ inr (stepped.0, stepped.1, weaker given stepped.0 c known stepped.2) ] in
        leaves_on (SteppedFrom (one given) old) (SteppedFrom (next m.0) mid) (SteppedFrom (step given) old) old mid new first.later.clock_is (first.steps given known)
        (second.steps m.0 m.1)
        before
        (λ c from. elim from [
          | inl same ↦ before c ((first.steps given known).now c same)
          | inr stepped ↦ inr (
            given,
            old.as_read given known,
            joined given m.0 c known m.2
                (subst (λ (d : List ℕ). next m.0 d c) (first.written.1 m.0 m.1 stepped.0 stepped.1) stepped.2),
          )
        ]);
    written = written_on e un second.written;
    faults_are = counts_on e old.faults mid.faults new.faults first.faults_are second.faults_are;
  }

-- what is less said of it
module _ (step wider : List ℕ → List ℕ → List ℕ → Type 0) (whole more : List ℕ → List ℕ → Type 0) (old new : DiskView) (wholes : (given c : List ℕ) → old.content ≡ Some given →
    whole given c → more given c) where
  written_weaker : (e : Ending) → Written whole e old new → Written more e old new
  written_weaker Done written = (λ given known. let c = written.0 given known in (c.0, c.1, wholes given c.0 known c.2), written.1)
  written_weaker Refused written = written
  written_weaker Unread written = written
  written_weaker Broken written = tt

  pub writes_weaker : (e : Ending) → ((given d c : List ℕ) → old.content ≡ Some given → old.images d → step given d c → wider given d c) → Writes step whole e old new →
      Writes wider more e old new
  writes_weaker e each writes = record {
    later = writes.later;
    steps = λ given known. leaves_weaker (SteppedFrom (step given) old) (SteppedFrom (wider given) old) old new (λ c from. elim from [
      | inl same ↦ inl same
      | inr stepped ↦ inr (stepped.0, stepped.1, each given stepped.0 c known stepped.1 stepped.2)
    ]) (writes.steps given known);
    written = written_weaker e writes.written;
    faults_are = writes.faults_are;
  }

-- of writes that broke it is said what a crash leaves of them, and no more
pub writes_stopped : (step wider : List ℕ → List ℕ → List ℕ → Type 0) (whole more : List ℕ → List ℕ → Type 0) (old new : DiskView)
    → ((given d c : List ℕ) → old.content ≡ Some given → old.images d → step given d c → wider given d c) → Writes step whole Broken old new → Writes wider more Broken old new
writes_stopped step wider whole more old new each writes = record {
  later = writes.later;
  steps = (writes_weaker step wider whole whole old new (λ given c known part. part) Broken each writes).steps;
  written = tt;
  faults_are = writes.faults_are;
}
