-- How a disk is seen that is another one from a call on: nothing is known of what it gives.
use Rattle.std.specs.Prelude.{◌≡◌, None, [], length}
use Rattle.dd_disk.specs.Untold.{no_content}
use Rattle.dd_disk.specs.View.{DiskView}
use Rattle.acceptance.specs.declared.turned.TurnedDisk.{TurnedDisk}

abbrev pub turned_view : TurnedDisk → DiskView
turned_view d = record {
  size = length d.bytes.items;
  content = None;
  images = λ c. length c ≡ length d.bytes.items;
  clock = d.moment;
  images_since = λ _ c. length c ≡ length d.bytes.items;
  read_returned = λ _ _ _. Unit {0};
  faults = 0;
  loans = [];
  sized = λ bytes known. no_content bytes known;
  image_sized = λ c same. same;
  as_read = λ bytes known. no_content bytes known;
  counts_now = λ t c le now. now;
  only_now = λ c before left. left;
  earlier = λ t u c le left. left;
  returned_earlier = λ t u at bytes le returned. returned;
}
