-- A segment that is held is so still, where the core only read.
use Rattle.script_runner.proofs.Prelude.{◌≡◌, Option, sym, ◌∙◌, subst, OnlyReads, PlaceMap, KindSegment, Store, Tables, Represents, CoreState}
use Rattle.store_core.specs.Keeping.{IsHeldIn}

module _ (old new : CoreState) (reads : OnlyReads old.disk new.disk) (tables_are : new.tables ≡ old.tables) (index_is : new.known ≡ old.known) where
  as_before : (store : Store) → Represents store new.known new.tables → Represents store old.known old.tables
  as_before store is = subst (λ (known : Option PlaceMap). Represents store known old.tables) index_is
      (subst (λ (tables : Tables). Represents store new.known tables) tables_are is)

  pub still_held : (seg : KindSegment) → IsHeldIn seg old → IsHeldIn seg new
  still_held seg held = record {
    indexed = λ index is. held.indexed index (sym index_is ∙ is);
    newest = λ store is.
        let was = held.newest store (as_before store is) in
        record { known = (was.known.0, reads.content_is ∙ was.known.1); each = λ image there. was.each image (reads.images_are image there) };
  }
