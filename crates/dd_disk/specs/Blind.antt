-- What a disk that lies holds, its lies, and what is known of its reads.
use Rattle.std.specs.Prelude.{◌≡◌, ℕ, ◌-◌, ◌^◌, ◌<◌, ◌≤◌, None, List, [], length}
use Rattle.std.proofs.Common.{arith}
use Rattle.base_model.specs.Bytes.{range}
use Rattle.dd_disk.specs.Lies.{TellsLies}
use Rattle.dd_disk.specs.Untold.{no_content}
use Rattle.dd_disk.specs.View.{DiskView}
use Rattle.dd_disk.specs.declared.blind.BlindDisk.{BlindDisk}

abbrev pub held : BlindDisk → List ℕ
held d = d.bytes.items

abbrev pub lies_of : BlindDisk → List (ℕ × ℕ)
lies_of d = d.lies.items

-- how many calls it had, and how many when the last write came
abbrev pub moment_of : BlindDisk → ℕ
moment_of d = d.moment

abbrev pub last_write_of : BlindDisk → ℕ
last_write_of d = d.written

-- A read since the moment t returned these bytes: where nothing was written since then, its bytes with its lies.
abbrev pub Returned : BlindDisk → ℕ → ℕ → List ℕ → Type 0
Returned d t at bytes = last_write_of d ≤ t → moment_of d < 2 ^ 64 - 1 → TellsLies (lies_of d) at (range at (length bytes) (held d)) bytes

-- as each disk is seen
abbrev pub blind_view : BlindDisk → DiskView
blind_view d = record {
  size = length (held d);
  content = None;
  images = λ c. length c ≡ length (held d);
  clock = moment_of d;
  images_since = λ _ c. length c ≡ length (held d);
  read_returned = Returned d;
  faults = 0;
  loans = [];
  sized = λ bytes known. no_content bytes known;
  image_sized = λ c same. same;
  as_read = λ bytes known. no_content bytes known;
  counts_now = λ t c le now. now;
  only_now = λ c before left. left;
  earlier = λ t u c le left. left;
  returned_earlier = λ t u at bytes le returned wrote below. returned (omega (arith, wrote, le)) below;
}
