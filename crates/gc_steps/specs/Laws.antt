-- The laws of the disk and the index that a scan is lent.
use Rattle.std.specs.Prelude.{ℕ, List, Option}
use Rattle.std.proofs.Common.{refl, sym, ◌∙◌, subst}
use Rattle.container_meta.specs.declared.place.Place.{Place}
use Rattle.container_meta.specs.Places.{PlaceMap}
use Rattle.dd_disk.specs.View.{DiskView}
use Rattle.dd_disk.proofs.Later.{reads_here, reads_on}
use Rattle.dd_disk.proofs.Shows.{since, until}
use Rattle.segment_index.specs.Places.{IsPlace}
use Rattle.gc_steps.specs.Scanning.{ReadsOn, ShowsAt}

pub reads_on_here : (k : Option PlaceMap) (v : DiskView) → ReadsOn k k v v
reads_on_here k v = record { only = reads_here v; map_stays = refl }

pub reads_on_more : (k l m : Option PlaceMap) (old mid new : DiskView) → ReadsOn k l old mid → ReadsOn l m mid new → ReadsOn k m old new
reads_on_more k l m old mid new first second = record {
  only = reads_on old mid new first.only second.only;
  map_stays = second.map_stays
      ∙ first.map_stays;
}

pub place_stays : (k l : Option PlaceMap) (old new : DiskView) (place : Place) → ReadsOn k l old new → IsPlace old.size place
    → IsPlace new.size place
place_stays k l old new place reads lies = subst (λ (n : ℕ). IsPlace n place) (sym reads.only.later.size_is) lies

pub shows_more : (k l m n : Option PlaceMap) (first old new last : DiskView) (place : Place) (bytes : List ℕ) → ReadsOn k l first old
    → ReadsOn l m old new → ReadsOn m n new last
    → ShowsAt old new place bytes → ShowsAt first last place bytes
shows_more k l m n first old new last place bytes before on after shown =
    until first new last (since first old new before.only shown)
    (reads_on first old new before.only on.only).later.clock_is after.only.later
