-- A core that is at the files of a machine is at them still, where nothing of it is another and its disk was only read; and a disk that was
-- only read stands for what it did.
use Rattle.core_machine.proofs.Prelude.{◌≡◌, ℕ, List, length, Option, Some, sym, ◌∙◌, ap, subst, AllByRecursion, DiskView, OnlyReads, PlaceMap, Reader, Stored, IsValidFor, Store, HasKey, Tables, HoldsPart, IsSettled, Represents, IsAt, IsSafeIn, CoreState, IsUnderWayIn, FileMachine, IsAtFiles, StandsFor, stored_in, LivesJust}
use Rattle.actor_parts.specs.declared.part.Part.{Part}
use Rattle.actor_parts.specs.Parts.{part_of}
use Rattle.gc_steps.specs.declared.collection.Collection.{Collection}
use Rattle.core_machine.specs.Files.{Takes}

pub stands_read : (S : List ℕ → Type 0) (m : FileMachine) (old new : DiskView) → OnlyReads old new → StandsFor S m old → StandsFor S m new
stands_read S m old new reads stands =
    let (image, told, may) = stands.content in record { content = (image, reads.content_is ∙ told, may); images = λ left there. stands.images left (reads.images_are left there) }

module _ (old new : CoreState) (reads : OnlyReads old.disk new.disk) (tables_are : new.tables ≡ old.tables) (index_is : new.known ≡ old.known) (parts_are : new.parts ≡ old.parts)
    (collection_is : new.collection ≡ old.collection) where
  shows_before : (store : Store) → Represents store new.known new.tables → Represents store old.known old.tables
  shows_before store is = subst (λ (known : Option PlaceMap). Represents store known old.tables) index_is (subst (Represents store new.known) tables_are is)

  told_before : (image : List ℕ) → new.disk.content ≡ Some image → old.disk.content ≡ Some image
  told_before image told = sym reads.content_is ∙ told

  still_at : (S : List ℕ → Type 0) (store : Store) (stored : Stored) → IsAt S store stored old → IsAt S store stored new
  still_at S store stored at = record {
    represents = subst (λ (known : Option PlaceMap). Represents store known new.tables) (sym index_is) (subst (Represents store old.known) (sym tables_are) at.represents);
    index = at.index;
    index_known = index_is ∙ at.index_known;
    valid = subst (λ (size : ℕ). IsValidFor size store) (sym reads.later.size_is) at.valid;
    stands = record { known = (at.stands.known.0, reads.content_is ∙ at.stands.known.1); each = λ image there. at.stands.each image (reads.images_are image there) };
    last_is = ap (λ (tables : Tables). tables.journal.last) tables_are ∙ at.last_is;
    invariant = λ image told.
        let was = at.invariant image (told_before image told) in
        record {
          index_is_newest = was.index_is_newest;
          files_are_indexed = was.files_are_indexed;
          pins_are_closed = subst (AllByRecursion (HoldsPart (HasKey at.index) store.held image)) (sym parts_are) was.pins_are_closed;
          reserve_holds = was.reserve_holds;
          has_free = was.has_free;
        };
    many = ap length parts_are ∙ at.many;
    under_way = subst (λ (t : Tables). IsUnderWayIn t.held new.collection) (sym tables_are) (subst (IsUnderWayIn old.tables.held) (sym collection_is) at.under_way);
    safe = λ image told. subst (λ (parts : List Part). IsSafeIn at.index store parts image new.collection) (sym parts_are)
        (subst (IsSafeIn at.index store old.parts image) (sym collection_is) (at.safe image (told_before image told)));
  }

  still_takes : (file : List ℕ) (rest : List (List ℕ)) (reader : Reader) → Takes file rest reader old → Takes file rest reader new
  still_takes file rest reader takes = record {
    fits = takes.fits;
    root_is = takes.root_is;
    counts = takes.counts;
    indexed = λ index is. takes.indexed index (sym index_is ∙ is);
    whole = λ store image is told. takes.whole store image (shows_before store is) (told_before image told);
    segments = λ store image is told. takes.segments store image (shows_before store is) (told_before image told);
  }

  still_lives : (P : List ℕ → Type 0) (store : Store) (c : Collection) → LivesJust P store old c → LivesJust P store new c
  still_lives P store c lives = record {
    within = lives.within;
    closed = λ image told. lives.closed image (told_before image told);
    all = λ index image is told. lives.all index image (sym index_is ∙ is) (told_before image told);
  }

  pub still_at_files : (S : List ℕ → Type 0) (m : FileMachine) → IsAtFiles S m old → IsAtFiles S m new
  still_at_files S m at = record {
    is_at = still_at S m.store (stored_in m.now) at.is_at;
    settled = subst (λ (tables : Tables). IsSettled tables.slots new.disk) (sym tables_are)
        (λ image told left there. at.settled image (told_before image told) left (reads.images_are left there));
    reads = λ actor file rest reader is core_is.
        still_takes file rest reader (at.reads actor file rest reader is (ap (λ (parts : List Part). part_of parts actor) (sym parts_are) ∙ core_is));
    lives = λ ran c is core_is. still_lives _ m.store c (at.lives ran c is (sym collection_is ∙ core_is));
    wrote = λ ran c is core_is. at.wrote ran c is (sym collection_is ∙ core_is);
  }
