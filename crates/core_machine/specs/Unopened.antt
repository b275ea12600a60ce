-- A store that is not open yet, as a machine of files: it is stopped, as after a crash, and an opening comes next.
use Rattle.std.specs.Prelude.{ℕ, false, List, [], None}
use Rattle.store_model.specs.Collisions.{ByteSet, IsIn, OpensAs}
use Rattle.store_model.specs.Files.{Stored, no_files}
use Rattle.store_model.specs.Image.{Store, empty_store}
use Rattle.store_model.specs.Slots.{last_id}
use Rattle.store_model.specs.Standing.{IsFormatted}
use Rattle.store_machine.specs.ByMap.{FileMachine}
use Rattle.store_machine.specs.Machine.{Stopped, all_idle}
use Rattle.core_machine.specs.Files.{MayStand}

-- nothing but these files may be found, and no store but this may stand
abbrev pub unopened : Stored → Store → FileMachine
unopened stored store = record {
  now = record { names = stored.files; last = stored.last };
  parts = all_idle;
  store = store;
  last_id = last_id store.held;
  forgotten = [];
  swept = false;
  collection = None;
  acknowledged = 0;
  state = Stopped None [];
}

-- each image that can be opened as files may be that of a machine that has these
abbrev pub FilesBegin : Type 0
FilesBegin = (among : ByteSet) (stored : Stored) (image : List ℕ) (opens : OpensAs (IsIn among) stored image)
    → MayStand (IsIn among) (unopened stored opens.store) image

-- and one that was formatted is that of a machine without names, whose last number is 0
abbrev pub FormattedBegins : Type 0
FormattedBegins = (among : ByteSet) (slots : ℕ) (image : List ℕ) → IsFormatted slots image
    → MayStand (IsIn among) (unopened (record { files = no_files; last = 0 }) (empty_store slots)) image
