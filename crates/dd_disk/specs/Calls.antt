-- What the calls of a disk in memory made of it.
use Rattle.std.specs.Prelude.{◌≡◌, ◌⊎◌, ℕ, ◌+◌, ◌-◌, ◌^◌, ◌<◌, ◌≤◌, ◌==◌, min, Option, Some, None, Vec, Bool, true, false, List, [], ◌∷◌, ◌++◌, length, replicate, nat_lt, nat_le, if◌then◌else◌, refl, ⊤}
use Rattle.std.specs.Global.{Global}
use Rattle.std.specs.List.{list_any}
use Rattle.std.proofs.Common.{inl, inr, arith, subst, sym, ap, ◌∙◌}
use Rattle.base_model.proofs.Ranges.{length-written}
use Rattle.std.specs.Coded.{×_prop, Unit-prop, le_prop}
use Rattle.base_model.specs.Bytes.{range, written}
use Rattle.base_model.specs.Fault.{Rose}
use Rattle.dd_disk.specs.Writes.{Torn}
use Rattle.dd_disk.specs.declared.call.Call.{Call}
use Rattle.dd_disk.specs.declared.call.Asked.{Asked}
use Rattle.dd_disk.specs.declared.call.Asked.TheVariants.{Read, Write, Sync}
use Rattle.dd_disk.specs.declared.call.Fill.{Fill}
use Rattle.dd_disk.specs.declared.call.Fill.TheVariants.{Old, New, Byte}
use Rattle.dd_disk.specs.declared.call.Noted.{Noted}
use Rattle.dd_disk.specs.declared.call.Noted.TheVariants.{Done, Failed, Missed}

-- What the disk held at first. It is kept from the first write on; until then it is what reads give.
abbrev pub first_of : Option (Vec ℕ Global) → List ℕ → List ℕ
first_of None bytes = bytes
first_of (Some first) bytes = first.items

-- where the range of a write ends
abbrev pub end_of : Asked → ℕ
end_of (Read at count) = 0
end_of (Write at bytes) = at + length bytes.items
end_of Sync = 0

-- What reads give after a call. A write that failed has written too.
abbrev pub shown_by : Asked → List ℕ → List ℕ
shown_by (Read at count) shown = shown
shown_by (Write at bytes) shown = written at bytes.items shown
shown_by Sync shown = shown

-- What a crash may leave after a call, done or not.
abbrev pub images_by : Asked → Bool → List ℕ → (List ℕ → Type 0) → List ℕ → Type 0
images_by (Read at count) done shown images c = images c
images_by (Write at bytes) done shown images c = (d : List ℕ) × images d × Torn at (length bytes.items) d c
images_by Sync true shown images c = c ≡ shown
images_by Sync false shown images c = images c

-- What reads give after these calls, the first of them first.
abbrev pub shown_after : List ℕ → List Call → List ℕ
shown_after shown [] = shown
shown_after shown (call ∷ calls) = shown_after (shown_by call.asked shown) calls

-- what a crash may leave after them
abbrev pub images_after : List ℕ → (List ℕ → Type 0) → List Call → List ℕ → Type 0
images_after shown images [] c = images c
images_after shown images (call ∷ calls) c = images_after (shown_by call.asked shown) (images_by call.asked call.done shown images) calls c

-- what a crash might have left before one of them, at the moment t or later
abbrev pub images_before : List ℕ → (List ℕ → Type 0) → List Call → ℕ → List ℕ → Type 0
images_before shown images [] t c = ⊥
images_before shown images (call ∷ calls) t c =
    ((t < call.number) × images c) ⊎ images_before (shown_by call.asked shown) (images_by call.asked call.done shown images) calls t c

-- the same of a disk that held these bytes at first, all of them synced
abbrev pub images_of : List ℕ → List Call → List ℕ → Type 0
images_of first calls c = images_after first (λ d. d ≡ first) calls c

abbrev pub images_past : List ℕ → List Call → ℕ → List ℕ → Type 0
images_past first calls t c = images_of first calls c ⊎ images_before first (λ d. d ≡ first) calls t c

-- each call lies in the past, and its range on the disk
abbrev pub IsPast : ℕ → ℕ → List Call → Type 0
IsPast size count [] = ⊤
IsPast size count (call ∷ calls) = (call.number ≤ count) × ((end_of call.asked ≤ size) × IsPast size count calls)

pub IsPast-prop : (size count : ℕ) (calls : List Call) → IsProp (IsPast size count calls)
IsPast-prop size count [] = Unit-prop
IsPast-prop size count (call ∷ calls) = ×_prop le_prop (×_prop le_prop (IsPast-prop size count calls))

-- a call was noted, done or not
pub record Made (asked : Asked) (done : Bool) (before now : ℕ) (old new : List Call) : Type 0 where
  pub time : now ≡ before + 1
  pub noted : new ≡ old ++ record { number = now; done = done; asked = asked } ∷ []

-- a call went by that couldn't be noted
pub record Skipped (before now : ℕ) : Type 0 where
  pub later : before ≤ now
  pub time : now ≡ min (before + 1) (2 ^ 64 - 1)

-- what became of a call: it was noted, as done or as failed, or it was skipped
abbrev pub Notes : Noted → Asked → ℕ → ℕ → List Call → List Call → Type 0
Notes Done asked before now old new = Made asked true before now old new
Notes Failed asked before now old new = Made asked false before now old new
Notes Missed asked before now old new = Skipped before now × (new ≡ old)

-- a call that isn't done is a fault, and no other is
abbrev pub Counts : Noted → ℕ → ℕ → Type 0
Counts Done before now = now ≡ before
Counts Failed before now = (before ≤ now) × Rose before now
Counts Missed before now = (before ≤ now) × Rose before now

-- the call of this number is to fail
abbrev pub is_to_fail : List ℕ → ℕ → Bool
is_to_fail fails number = list_any (λ fail. fail == number) fails

-- A call was done only where it isn't to fail, and failed only where it is; it was missed only for want of room.
abbrev pub AsScripted : Noted → List ℕ → ℕ → ℕ → ℕ → Type 0
AsScripted Done fails number missed_before missed_now = (is_to_fail fails number ≡ false) × (missed_now ≡ missed_before)
AsScripted Failed fails number missed_before missed_now = (is_to_fail fails number ≡ true) × (missed_now ≡ missed_before)
AsScripted Missed fails number missed_before missed_now = Rose missed_before missed_now

-- ---- what was asked

-- a read of so many bytes at this place
abbrev pub IsReadOf : ℕ → ℕ → Asked → Type 0
IsReadOf at count asked = asked ≡ Read at count

-- a write of these bytes at this place
abbrev pub IsWriteOf : ℕ → List ℕ → Asked → Type 0
IsWriteOf at bytes (Read place count) = ⊥
IsWriteOf at bytes (Write place copy) = (place ≡ at) × (copy.items ≡ bytes)
IsWriteOf at bytes Sync = ⊥

abbrev pub IsSync : Asked → Type 0
IsSync asked = asked ≡ Sync

-- ---- a stop inside a call

-- what stands in the range of a write that was not synced
abbrev pub filled : Fill → List ℕ → List ℕ → List ℕ
filled Old old new = old
filled New old new = new
filled (Byte byte) old new = replicate (length new) byte

-- The crash comes before this call, or inside of it with nothing written.
abbrev pub left_out : ℕ → ℕ → Asked → Bool
left_out stop number (Read at count) = nat_le stop number
left_out stop number (Write at bytes) = nat_lt stop number
left_out stop number Sync = nat_le stop number

abbrev pub is_left_out : ℕ → Call → Bool
is_left_out stop call = left_out stop call.number call.asked

-- one image after a call, of which a write is filled so
abbrev pub filled_by : Fill → Asked → Bool → List ℕ → List ℕ → List ℕ
filled_by fill (Read at count) done shown image = image
filled_by fill (Write at bytes) done shown image = written at (filled fill (range at (length bytes.items) image) bytes.items) image
filled_by fill Sync true shown image = shown
filled_by fill Sync false shown image = image

-- one image after these calls, the first of them first
abbrev pub filled_after : Fill → List Call → List ℕ → List ℕ → List ℕ
filled_after fill [] shown image = image
filled_after fill (call ∷ calls) shown image =
    filled_after fill calls (shown_by call.asked shown) (filled_by fill call.asked call.done shown image)

-- the calls that a stop inside the call of this number lets through
abbrev pub reached : ℕ → List Call → List Call
reached stop [] = []
reached stop (call ∷ calls) = if is_left_out stop call then [] else call ∷ reached stop calls

-- The image of a stop inside the call of this number: the calls are made again up to it, and what was not synced by then
-- is filled so.
abbrev pub stop_image : List ℕ → List Call → ℕ → Fill → List ℕ
stop_image first calls stop fill = filled_after fill (reached stop calls) first first

-- The laws of a disk, of one in memory.

-- what reads give may be left
reads_by : (asked : Asked) (done : Bool) (shown : List ℕ) (images : List ℕ → Type 0) → images shown
    → images_by asked done shown images (shown_by asked shown)
reads_by (Read at count) done shown images here = here
reads_by (Write at bytes) done shown images here = (shown, here, record { bytes = bytes.items; count = refl; holds = refl })
reads_by Sync true shown images here = refl
reads_by Sync false shown images here = here

pub as_read : (calls : List Call) (shown : List ℕ) (images : List ℕ → Type 0) → images shown
    → images_after shown images calls (shown_after shown calls)
as_read [] shown images here = here
as_read (call ∷ calls) shown images here = as_read calls _ _ (reads_by call.asked call.done shown images here)

-- no call lies in the future
none_later : (calls : List Call) (size count : ℕ) (shown : List ℕ) (images : List ℕ → Type 0) (c : List ℕ) → IsPast size count calls
    → images_before shown images calls count c → ⊥
none_later [] size count shown images c past left = left
none_later (call ∷ calls) size count shown images c past (inl here) = omega (arith, past.0, here.0)
none_later (call ∷ calls) size count shown images c past (inr there) = none_later calls size count _ _ c past.1.1 there

before_earlier : (calls : List Call) (shown : List ℕ) (images : List ℕ → Type 0) (t u : ℕ) (c : List ℕ) → t ≤ u
    → images_before shown images calls u c → images_before shown images calls t c
before_earlier [] shown images t u c le left = left
before_earlier (call ∷ calls) shown images t u c le (inl here) = inl (omega (arith, le, here.0), here.1)
before_earlier (call ∷ calls) shown images t u c le (inr there) = inr (before_earlier calls _ _ t u c le there)

pub only_past : (size count : ℕ) (first : List ℕ) (calls : List Call) (c : List ℕ) → IsPast size count calls
    → images_past first calls count c → images_of first calls c
only_past size count first calls c past (inl now) = now
only_past size count first calls c past (inr left) = absurd (none_later calls size count first _ c past left)

pub past_earlier : (first : List ℕ) (calls : List Call) (t u : ℕ) (c : List ℕ) → t ≤ u → images_past first calls u c
    → images_past first calls t c
past_earlier first calls t u c le (inl now) = inl now
past_earlier first calls t u c le (inr left) = inr (before_earlier calls first _ t u c le left)

pub known_length : (bytes known : List ℕ) → Some bytes ≡ Some known → length known ≡ length bytes
known_length bytes known is = cc

pub known_as_read : (first bytes known : List ℕ) (calls : List Call) → shown_after first calls ≡ bytes → Some bytes ≡ Some known
    → images_of first calls known
known_as_read first bytes known calls replayed is =
    let same : shown_after first calls ≡ known = cc in
    subst (images_of first calls) same (as_read calls first (λ d. d ≡ first) refl)

torn_size : (at n : ℕ) (old new : List ℕ) → at + n ≤ length old → Torn at n old new → length new ≡ length old
torn_size at n old new fits torn = ap length torn.holds ∙ length-written at torn.bytes old (omega (arith, fits, torn.count))

-- a call keeps the length
pub shown_length : (asked : Asked) (shown : List ℕ) → end_of asked ≤ length shown → length (shown_by asked shown) ≡ length shown
shown_length (Read at count) shown fits = refl
shown_length (Write at bytes) shown fits = length-written at bytes.items shown fits
shown_length Sync shown fits = refl

images_length : (asked : Asked) (done : Bool) (size : ℕ) (shown : List ℕ) (images : List ℕ → Type 0) → length shown ≡ size
    → end_of asked ≤ size → ((c : List ℕ) → images c → length c ≡ size)
    → (c : List ℕ) → images_by asked done shown images c → length c ≡ size
images_length (Read at count) done size shown images is fits each c left = each c left
images_length (Write at bytes) done size shown images is fits each c left =
    let was = each left.0 left.1 in
    torn_size at (length bytes.items) left.0 c (omega (arith, fits, was)) left.2 ∙ was
images_length Sync true size shown images is fits each c left = ap length left ∙ is
images_length Sync false size shown images is fits each c left = each c left

pub lengths : (calls : List Call) (size count : ℕ) (shown : List ℕ) (images : List ℕ → Type 0) → IsPast size count calls
    → length shown ≡ size → ((c : List ℕ) → images c → length c ≡ size)
    → (length (shown_after shown calls) ≡ size) × ((c : List ℕ) → images_after shown images calls c → length c ≡ size)
lengths [] size count shown images past is each = (is, each)
lengths (call ∷ calls) size count shown images past is each =
    lengths calls size count _ _ past.1.1 (shown_length call.asked shown (omega (arith, is, past.1.0)) ∙ is)
    (images_length call.asked call.done size shown images is past.1.0 each)

pub image_length : (first bytes : List ℕ) (calls : List Call) (count : ℕ) (c : List ℕ) → shown_after first calls ≡ bytes
    → IsPast (length first) count calls → images_of first calls c → length c ≡ length bytes
image_length first bytes calls count c replayed past left =
    let all = lengths calls (length first) count first (λ d. d ≡ first) past refl (λ d is. ap length is) in
    all.1 c left ∙ sym all.0 ∙ ap length replayed
