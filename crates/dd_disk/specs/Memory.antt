-- What a disk in memory is seen as, and how its calls fail.
use Rattle.std.specs.Prelude.{◌≡◌, ◌⊎◌, ℕ, ◌+◌, ◌-◌, ◌^◌, min, Bool, true, false, List, [], length, Some, Result, OnOk, OnErr}
use Rattle.std.proofs.Common.{inl}
use Rattle.base_model.specs.Fault.{Rose}
use Rattle.dd_disk.specs.Calls.{first_of, images_of, images_past, is_to_fail, shown_after, Made, known_length, known_as_read, only_past, past_earlier, image_length}
use Rattle.dd_disk.specs.View.{DiskView}
use Rattle.dd_disk.specs.declared.call.Asked.{Asked}
use Rattle.dd_disk.specs.declared.call.Call.{Call}
use Rattle.dd_disk.specs.declared.mem.MemDisk.{MemDisk}

-- what reads give
abbrev pub shown : MemDisk → List ℕ
shown d = d.bytes.items

-- what a crash now may leave
abbrev pub leaves : MemDisk → List ℕ → Type 0
leaves d = images_of (first_of d.first d.bytes.items) d.log.calls.items

-- what a crash at some moment from that one on might have left
abbrev pub leaves_since : MemDisk → ℕ → List ℕ → Type 0
leaves_since d = images_past (first_of d.first d.bytes.items) d.log.calls.items

-- how many calls the disk has had, and how many of them failed
abbrev pub call_count : MemDisk → ℕ
call_count d = d.log.count

abbrev pub fault_count : MemDisk → ℕ
fault_count d = d.log.faults

-- as each disk is seen
abbrev pub mem_view : MemDisk → DiskView
mem_view d = record {
  size = length (shown d);
  content = Some (shown d);
  images = leaves d;
  clock = call_count d;
  images_since = leaves_since d;
  read_returned = λ _ _ _. Unit {0};
  faults = fault_count d;
  loans = [];
  sized = λ bytes known. known_length d.bytes.items bytes known;
  image_sized = λ c left. image_length
      (first_of d.first d.bytes.items) d.bytes.items d.log.calls.items d.log.count c d.replayed d.past left;
  as_read = λ bytes known. known_as_read (first_of d.first d.bytes.items) d.bytes.items bytes d.log.calls.items d.replayed known;
  counts_now = λ t c le now. inl now;
  only_now = λ c before left. only_past (length (first_of d.first d.bytes.items)) d.log.count
      (first_of d.first d.bytes.items) d.log.calls.items c d.past left;
  earlier = λ t u c le left. past_earlier (first_of d.first d.bytes.items) d.log.calls.items t u c le left;
  returned_earlier = λ t u at bytes le returned. tt;
}

-- how many failed because there was no memory to note them
abbrev pub missed_count : MemDisk → ℕ
missed_count d = d.log.missed

-- the calls that were noted, the first of them first
abbrev pub calls_of : MemDisk → List Call
calls_of d = d.log.calls.items

-- the numbers of the calls that are to fail
abbrev pub failing : MemDisk → List ℕ
failing d = d.log.fails.items

-- what the disk held at first
abbrev pub first_held : MemDisk → List ℕ
first_held d = first_of d.first d.bytes.items

-- the call was noted as this, done or failed
abbrev pub IsNoted : (Asked → Type 0) → Bool → MemDisk → MemDisk → Type 0
IsNoted is done old new = (asked : Asked) × is asked × Made asked done (call_count old) (call_count new) (calls_of old) (calls_of new)

-- One call went by. It failed where it was to fail, and else only for want of memory. It adds its line to the calls, but
-- where there was no memory to note it.
pub record FollowsScript {T E : Type 0} (is : Asked → Type 0) (old new : MemDisk) (result : Result T E) : Type 0 where
  pub counted : call_count new ≡ min (call_count old + 1) (2 ^ 64 - 1)
  pub script : failing new ≡ failing old
  pub first : first_held new ≡ first_held old
  pub replayed : shown new ≡ shown_after (first_held new) (calls_of new)
  pub done : OnOk result ((is_to_fail (failing old) (call_count old + 1) ≡ false) × IsNoted is true old new
      × (missed_count new ≡ missed_count old))
  pub failed : OnErr result (((is_to_fail (failing old) (call_count old + 1) ≡ true) × IsNoted is false old new
      × (missed_count new ≡ missed_count old))
      ⊎ (Rose (missed_count old) (missed_count new) × (calls_of new ≡ calls_of old) × (shown new ≡ shown old)))
