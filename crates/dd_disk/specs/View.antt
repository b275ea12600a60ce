-- A disk at a moment, and what calls make of it (docs/MODEL.md, 'The disk').
use Rattle.std.specs.Prelude.{◌≡◌, ◌⊎◌, ℕ, ◌-◌, ◌^◌, ◌<◌, ◌≤◌, List, length, Option, Some}
use Rattle.base_model.specs.Known.{Known, KnownWith}

-- what is known of a disk at a moment, and the laws of it
pub record DiskView : Type 1 where
  -- the number of bytes
  pub size : ℕ
  -- what reads give, where the disk tells it
  pub content : Option (List ℕ)
  -- what a crash at this moment may leave
  pub images : List ℕ → Type 0
  -- the moment, as a number that never falls, and rises with each call that reads, writes or syncs
  pub clock : ℕ
  -- what a crash at some moment from that one on might have left
  pub images_since : ℕ → List ℕ → Type 0
  -- a read at some moment from that one on returned these bytes at that place
  pub read_returned : ℕ → ℕ → List ℕ → Type 0
  -- how many calls failed; it stays at 2^64 - 1 once there
  pub faults : ℕ
  -- the loans by which the disk is held, the last one first
  pub loans : List ℕ
  -- the content has the disk's size
  pub sized : (bytes : List ℕ) → content ≡ Some bytes → length bytes ≡ size
  -- and so has each image
  pub image_sized : (c : List ℕ) → images c → length c ≡ size
  -- the disk as it reads is one of its images
  pub as_read : (bytes : List ℕ) → content ≡ Some bytes → images bytes
  -- an image now is one of those since an earlier moment
  pub counts_now : (t : ℕ) (c : List ℕ) → t ≤ clock → images c → images_since t c
  -- since this moment there is no other
  pub only_now : (c : List ℕ) → clock < 2 ^ 64 - 1 → images_since clock c → images c
  -- since an earlier moment there are as many or more
  pub earlier : (t u : ℕ) (c : List ℕ) → t ≤ u → images_since u c → images_since t c
  pub returned_earlier : (t u at : ℕ) (bytes : List ℕ) → t ≤ u → read_returned u at bytes → read_returned t at bytes

-- The same disk, later. What it told it tells, and what was is not undone.
pub record IsLater (old new : DiskView) : Type 0 where
  pub size_is : new.size ≡ old.size
  pub loans_are : new.loans ≡ old.loans
  pub clock_is : old.clock ≤ new.clock
  pub faults_are : old.faults ≤ new.faults
  pub tells : Known old.content (λ _. KnownWith new.content (λ _. Unit {0}))
  pub returned : (t at : ℕ) (bytes : List ℕ) → t ≤ old.clock → old.read_returned t at bytes → new.read_returned t at bytes
  pub images_were : (t : ℕ) (c : List ℕ) → t ≤ old.clock → old.images_since t c → new.images_since t c

-- Calls that only read, or sync: content and images stay, at each moment between too.
pub record OnlyReads (old new : DiskView) : Type 0 where
  pub later : IsLater old new
  pub content_is : new.content ≡ old.content
  pub images_are : (c : List ℕ) → new.images c → old.images c
  pub since_are : (t : ℕ) (c : List ℕ) → t ≤ old.clock → new.images_since t c → old.images_since t c ⊎ old.images c

-- where the content is told, a crash leaves it and nothing else
abbrev pub IsDurable : DiskView → Type 0
IsDurable v = Known v.content (λ bytes. (c : List ℕ) → v.images c → c ≡ bytes)

-- Calls at whose end, and at each moment between, a crash leaves an image that has P, or what it might have left before.
pub record CrashLeaves (P : List ℕ → Type 0) (old new : DiskView) : Type 0 where
  pub now : (c : List ℕ) → new.images c → P c
  pub since : (t : ℕ) (c : List ℕ) → t ≤ old.clock → new.images_since t c → old.images_since t c ⊎ P c

-- an image from before, or a step from one
abbrev pub SteppedFrom : (List ℕ → List ℕ → Type 0) → DiskView → List ℕ → Type 0
SteppedFrom step old c = old.images c ⊎ ((d : List ℕ) × old.images d × step d c)
