-- Ways, one after the other.
use Rattle.std.proofs.Common.{◌≡◌, inl, inr, ℕ, List, Some, Result, Ok, Err, sym, ◌∙◌, subst}
use Rattle.std.specs.Result.{IsErrAnd}
use Rattle.dd_disk.specs.View.{DiskView, IsLater, OnlyReads, IsDurable, CrashLeaves, SteppedFrom}
use Rattle.dd_disk.specs.Ending.{Ending, Blame, ending, ending_of, Done, Refused, Unread, Broken}
use Rattle.dd_disk.specs.Writes.{Writes, Written}
use Rattle.dd_disk.specs.Moves.{StandsFor, Way, step, Arrives, Moves}
use Rattle.dd_disk.proofs.Later.{leaves_weaker}

pub stands_weaker : (P Q : List ℕ → Type 0) (v : DiskView) → ((c : List ℕ) → P c → Q c) → StandsFor P v → StandsFor Q v
stands_weaker P Q v each stands = record { known = stands.known; each = λ c image. each c (stands.each c image) }

-- what reads leave
pub stands_reads : (P : List ℕ → Type 0) (old new : DiskView) → StandsFor P old → OnlyReads old new → StandsFor P new
stands_reads P old new stands reads = record { known = (stands.known.0, reads.content_is ∙ stands.known.1); each = λ c image. stands.each c (reads.images_are c image) }

-- of a disk that was synced it is enough that the content has P
pub stands_durable : (P : List ℕ → Type 0) (v : DiskView) (bytes : List ℕ) → IsDurable v → v.content ≡ Some bytes → P bytes → StandsFor P v
stands_durable P v bytes synced known has = record { known = (bytes, known); each = λ c image. subst P (sym (synced bytes known c image)) has }

-- the content is one of the images
pub stands_content : (P : List ℕ → Type 0) (v : DiskView) → StandsFor P v → (bytes : List ℕ) → v.content ≡ Some bytes → P bytes
stands_content P v stands bytes known = stands.each bytes (v.as_read bytes known)

-- where the writes leave only P
pub stands_left : (P B : List ℕ → Type 0) (old new : DiskView) → StandsFor B old → IsLater old new → CrashLeaves P old new → StandsFor P new
stands_left P B old new stands later leaves =
    let now = later.tells stands.known.0 stands.known.1 in
    record { known = (now.0, now.1); each = leaves.now }

-- What bytes that are written make of what the disk stands for.
module _ (P B Q : List ℕ → Type 0) (steps : List ℕ → List ℕ → List ℕ → Type 0) (whole : List ℕ → List ℕ → Type 0) (old new : DiskView)
    (all : (given c : List ℕ) → P given → whole given c → Q c) where
  arrives_written : (e : Ending) → StandsFor P old → IsLater old new → CrashLeaves B old new → Written whole e old new → Arrives (step P B Q) e old new
  arrives_written Done stands later leaves written =
      let given = stands.known.0 in
      let c = written.0 given stands.known.1 in
      stands_durable Q new c.0 written.1 c.1 (all given c.0 (stands_content P old stands given stands.known.1) c.2)
  arrives_written Refused stands later leaves written = inl written
  arrives_written Unread stands later leaves written = inl written
  arrives_written Broken stands later leaves written = stands_left B P old new stands later leaves

  pub moves_written : (e : Ending) → ((c : List ℕ) → P c → B c) → ((given d c : List ℕ) → P given → P d → steps given d c → B c) → Writes steps whole e old new →
      Moves (step P B Q) e old new
  moves_written e starts each writes stands =
      let given = stands.known.0 in
      let known = stands.known.1 in
      let leaves = leaves_weaker (SteppedFrom (steps given) old) B old new (λ c from. elim from [
        | inl same ↦ starts c (stands.each c same)
        | inr stepped ↦ each given stepped.0 c (stands_content P old stands given known) (stands.each stepped.0 stepped.1) stepped.2
      ]) (writes.steps given known) in
      record { leaves = leaves; arrives = arrives_written e stands writes.later leaves writes.written }

-- a way begins with another one
pub record Begins (first way : Way) : Type 0 where
  pub before : (c : List ℕ) → way.before c → first.before c
  pub between : (c : List ℕ) → first.between c → way.between c
  pub rest : (c : List ℕ) → first.rest c → way.rest c

-- what is said of a way is said of a wider one
module _ (first way : Way) (old new : DiskView) (begins : Begins first way) (after : (c : List ℕ) → first.after c → way.after c) where
  arrives_wider : (e : Ending) → Arrives first e old new → Arrives way e old new
  arrives_wider Done arrives = stands_weaker first.after way.after new after arrives
  arrives_wider Refused (inl reads) = inl reads
  arrives_wider Refused (inr rests) = inr (stands_weaker first.rest way.rest new begins.rest rests)
  arrives_wider Unread (inl reads) = inl reads
  arrives_wider Unread (inr rests) = inr (stands_weaker first.rest way.rest new begins.rest rests)
  arrives_wider Broken arrives = stands_weaker first.between way.between new begins.between arrives

  pub moves_wider : (e : Ending) → Moves first e old new → Moves way e old new
  moves_wider e moves stands =
      let moved = moves (stands_weaker way.before first.before old begins.before stands) in
      record { leaves = leaves_weaker first.between way.between old new begins.between moved.leaves; arrives = arrives_wider e moved.arrives }

-- ---- whatever the disk stands for

-- a `?` passes an error on
pub passed : {T E : Type 0} (X : Ending → Type 0) (blames : E → Blame) (result : Result T E) (error : E) → IsErrAnd result (λ y. y ≡ error) → X (ending_of (blames error)) →
    X (ending blames result)
passed X blames (Ok x) error is has = absurd is
passed X blames (Err y) error is has = subst (λ (z : _). X (ending_of (blames z))) (sym is) has
