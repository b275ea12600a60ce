-- Changes of an index, one after the other.
use Rattle.std.proofs.Common.{◌≡◌, ℕ, ◌≤◌, List, Option, Some, None, inl, inr, refl, sym, ◌∙◌, subst, arith}
use Rattle.disk_format.specs.Layout.{size_of, slot_at}
use Rattle.dd_disk.specs.View.{DiskView, IsLater, SteppedFrom}
use Rattle.dd_disk.specs.Ending.{Ending, CountsFault}
use Rattle.dd_disk.specs.Writes.{Both}
use Rattle.dd_disk.proofs.Ended.{counts_on}
use Rattle.dd_disk.proofs.Later.{later_here, later_on, leaves_on, leaves_weaker, reads_here, reads_leave}
use Rattle.segment_index.specs.Changes.{SameBefore, Changes}
use Rattle.store_state.specs.Settled.{KeepsWhatCounts}

-- one equation after another, of values that are named
pub on : {X : Type 0} (a b c : X) → a ≡ b → b ≡ c → a ≡ c
on a b c first second = first ∙ second

same_here : (place : ℕ) (a : List ℕ) → SameBefore place a a
same_here place a = record { size = refl; before = λ p n within. refl }

same_on : (place : ℕ) (a b c : List ℕ) → SameBefore place a b → SameBefore place b c → SameBefore place a c
same_on place a b c one two = record { size = two.size ∙ one.size; before = λ p n within. two.before p n within ∙ one.before p n within }

sooner : (place owned : ℕ) (a b : List ℕ) → place ≤ owned → SameBefore owned a b → SameBefore place a b
sooner place owned a b before same = record { size = same.size; before = λ p n within. same.before p n (omega (arith, before, within)) }

both_here : (place : ℕ) (a : Option (List ℕ)) → Both (SameBefore place) a a
both_here place None = tt
both_here place (Some a) = same_here place a

both_on : (place : ℕ) (a b c : Option (List ℕ)) → Both (SameBefore place) a b → Both (SameBefore place) b c → Both (SameBefore place) a c
both_on place None None None one two = tt
both_on place None None (Some c) one two = two
both_on place None (Some b) c one two = absurd one
both_on place (Some a) None c one two = absurd one
both_on place (Some a) (Some b) None one two = two
both_on place (Some a) (Some b) (Some c) one two = same_on place a b c one two

both_sooner : (place owned : ℕ) (a b : Option (List ℕ)) → place ≤ owned → Both (SameBefore owned) a b → Both (SameBefore place) a b
both_sooner place owned None None before same = tt
both_sooner place owned None (Some b) before same = same
both_sooner place owned (Some a) None before same = same
both_sooner place owned (Some a) (Some b) before same = sooner place owned a b before same

-- nothing was changed
pub changes_none : (place : ℕ) (e : Ending) (v : DiskView) → CountsFault e v.faults v.faults → Changes place e v v
changes_none place e v counts = record {
  later = later_here v;
  content_is = both_here place v.content;
  leaves = reads_leave (SteppedFrom (SameBefore place) v) v v (λ c image. inl image) (reads_here v);
  faults_are = counts;
}

-- a change after one at which no call failed
pub changes_on : (place : ℕ) (e : Ending) (old mid new : DiskView) → (one : Ending) → mid.faults ≡ old.faults → Changes place one old mid → Changes place e mid new →
    Changes place e old new
changes_on place e old mid new one still first second = record {
  later = later_on old mid new first.later second.later;
  content_is = both_on place old.content mid.content new.content first.content_is second.content_is;
  leaves = leaves_on (SteppedFrom (SameBefore place) old) (SteppedFrom (SameBefore place) mid) (SteppedFrom (SameBefore place) old) old mid new first.later.clock_is first.leaves
      second.leaves
      (λ c from. from)
      (λ c from. elim from [
        | inl image ↦ first.leaves.now c image
        | inr stepped ↦ further c stepped.0 stepped.2 (first.leaves.now stepped.0 stepped.1)
      ]);
  faults_are = counts_on e old.faults mid.faults new.faults still second.faults_are;
}
  where
    further : (c d : List ℕ) → SameBefore place d c → SteppedFrom (SameBefore place) old d → SteppedFrom (SameBefore place) old c
    further c d step (inl image) = inr (d, image, step)
    further c d step (inr (b, image, before)) = inr (b, image, same_on place b d c before step)

-- what an index changes of its own bytes is after the container slots
pub lifted : (owned : ℕ → ℕ) (serves : ℕ → Type 0) → ((slots : ℕ) → serves (size_of slots) → slot_at slots ≤ owned (size_of slots))
    → (e : Ending) (old new : DiskView) → serves old.size → Changes (owned old.size) e old new → (slots : ℕ) → old.size ≡ size_of slots → Changes (slot_at slots) e old new
lifted owned serves law e old new served changes slots size_is =
    let before : slot_at slots ≤ owned old.size = subst (λ (n : ℕ). slot_at slots ≤ owned n) (sym size_is) (law slots (subst serves size_is served)) in
    record {
      later = changes.later;
      content_is = both_sooner (slot_at slots) (owned old.size) old.content new.content before changes.content_is;
      leaves = leaves_weaker (SteppedFrom (SameBefore (owned old.size)) old) (SteppedFrom (SameBefore (slot_at slots)) old) old new
          (λ c from. elim from [
            | inl image ↦ inl image
            | inr stepped ↦ inr (stepped.0, stepped.1, sooner (slot_at slots) (owned old.size) stepped.0 c before stepped.2)
          ]) changes.leaves;
      faults_are = changes.faults_are;
    }

-- so what counts is as it was
pub keeps : (slots : ℕ) (e : Ending) (old new : DiskView) → Changes (slot_at slots) e old new → KeepsWhatCounts slots old new
keeps slots e old new changes = record { content_is = changes.content_is; leaves = changes.leaves }

-- the disk has its size still
pub size_on : (old new : DiskView) (slots : ℕ) → IsLater old new → old.size ≡ size_of slots → new.size ≡ size_of slots
size_on old new slots later is = later.size_is ∙ is
