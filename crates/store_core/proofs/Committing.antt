-- What a commit or a delete makes of a core.
use Rattle.store_core.proofs.Prelude.{some_same, ◌≡◌, ◌≤◌, ℕ, List, [], ◌∷◌, Option, Some, Ok, refl, sym, ◌∙◌, subst, ap, arith, None, Known, KnownWith, Change, Root, Delete, Put, PlaceMap, IsLater, IsDurable, Done, Reads, Answer, Store, Encodes, IsValidFor, HasKey, AnyKey, ChangeName, KeepsCopies, with_change, Tables, Represents, Runs, record_alone, IndexesAll, Made, NamesOne, CoreState}
use Rattle.std.specs.FinMap as finite
use Rattle.dd_disk.specs.Moves.{Acts}
use Rattle.actor_parts.specs.declared.step.Answer.TheVariants as answers
use Rattle.actor_parts.specs.StepValue as asked
use Rattle.store_model.proofs.Journaled.{newest_on}
use Rattle.store_model.proofs.Valid.{valid_change}
use Rattle.ingest_steps.specs.Naming.{IsChanged, IsDeleted, ChangesName, ChangesJournalAlone}
use Rattle.ingest_steps.specs.Recording.{KeepsButRecord}
use Rattle.ingest_steps.specs.Writers.{IsCommitted}
use Rattle.read_steps.specs.Readers as readers
use Rattle.store_core.specs.Core.{Makes, GivesHeld}

module _ (old new : CoreState) (name : List ℕ) (change : Change) (sequence : ℕ) (named : IsChanged old.tables name change new.tables sequence) (later : IsLater old.disk new.disk)
    (index : new.known ≡ old.known) where
  pub makes_change : Makes (ChangeName name change ∷ []) old new
  makes_change = record {
    can = record { store_has = λ store represents valid free. ((named.can store represents.names_are, named.right), refl) };
    represents = record {
      store_has = λ store represents valid free. subst (λ (known : Option PlaceMap). Represents (with_change name change store) known new.tables) (sym index)
          (named.represents store old.known valid.follow represents);
    };
    valid = record {
      store_has = λ store represents valid free. subst (λ (size : ℕ). IsValidFor size (with_change name change store)) (sym later.size_is)
          (valid_change old.disk.size name change store valid (named.can store represents.names_are) named.right);
    };
    tells = λ places is. (places, index ∙ is);
    keeps_keys = λ before is after after_is key has. subst (λ (m : PlaceMap). HasKey m key) (some_same before after (sym is ∙ sym index ∙ after_is)) has;
    adds_keys = λ before is after after_is. (tt, tt);
    keeps_others = λ before is after after_is key none. ap (λ (m : PlaceMap). finite.get m key) (some_same after before (sym after_is ∙ index ∙ is));
    alone = record {
      store_has = λ store represents valid free. record {
        can = ((named.can store represents.names_are, named.right), refl);
        represents = named.represents store None valid.follow represents;
        valid = subst (λ (size : ℕ). IsValidFor size (with_change name change store)) (sym later.size_is)
            (valid_change old.disk.size name change store valid (named.can store represents.names_are) named.right);
      };
    };
    whole = record { store_has = λ store represents valid free whole. subst (IndexesAll (with_change name change store)) (sym index) whole };
    runs = λ runs. subst (λ (size : ℕ). Runs size None new.tables) (sym later.size_is) (named.runs old.disk.size None runs);
    runs_indexed = λ runs. subst (λ (size : ℕ). Runs size new.known new.tables) (sym later.size_is)
        (subst (λ (known : Option PlaceMap). Runs old.disk.size known new.tables) (sym index) (named.runs old.disk.size old.known runs));
  }

  -- what is held goes on
  pub change_copies : KeepsButRecord old.tables.journal old.disk new.disk → (store : Store) → Represents store old.known old.tables
      → Known old.disk.content (λ before. Encodes before store → KnownWith new.disk.content (KeepsCopies AnyKey store before (with_change name change store)))
  change_copies keeps store represents before told right =
      let kept = keeps before told in
      let low : old.tables.journal.half ≤ 1 = omega (arith, represents.names_are.half, right.journal.selector_is.0.half) in (
        kept.0,
        kept.1,
        λ key level bytes counts has. newest_on before kept.0 store right (record_alone old.tables.journal before kept.0 low kept.2) key level bytes has,
      )

-- of the disk and of the tables, by either
change_effect : (name : List ℕ) (change : Change) (sequence : ℕ) (answer : Answer) (old new : CoreState) → IsChanged old.tables name change new.tables sequence
    → Acts Done old.disk new.disk → ChangesName old.tables name change Done old.disk new.disk → KeepsButRecord old.tables.journal old.disk new.disk
    → ChangesJournalAlone old.tables name change old.disk new.disk → IsDurable new.disk → new.known ≡ old.known → NamesOne name change (Ok answer) old new
change_effect name change sequence answer old new changed acts moves keeps frame durable index = record {
  disk = acts;
  moves = moves;
  frame = frame;
  durable = durable;
  made = makes_change old new name change sequence changed acts.later index;
  index = index;
  copies = change_copies old new name change sequence changed acts.later index keeps;
  kept = tt;
}

pub made_put : (name : List ℕ) (root : Root) (actor sequence : ℕ) (buf : List ℕ) (old new : CoreState)
    → IsCommitted old.parts actor old.tables name root new.parts new.tables sequence → Acts Done old.disk new.disk
    → ChangesName old.tables name (Put root) Done old.disk new.disk → KeepsButRecord old.tables.journal old.disk new.disk
    → ChangesJournalAlone old.tables name (Put root) old.disk new.disk → IsDurable new.disk → new.known ≡ old.known → (old.served → new.served)
    → Made (asked.Commit name root) actor (Ok (answers.Committed sequence)) buf old new
made_put name root actor sequence buf old new committed acts moves keeps frame durable index served = record {
  row = (committed.may, committed.named.number, committed.parts_are, ap (λ (t : Tables). t.held) committed.named.tables_are);
  effect = change_effect name (Put root) sequence (answers.Committed sequence) old new committed.named acts moves keeps frame durable index;
  served = served;
}

pub made_delete : (name : List ℕ) (actor sequence : ℕ) (buf : List ℕ) (old new : CoreState) → IsDeleted old.tables name new.tables sequence → new.parts ≡ old.parts
    → Acts Done old.disk new.disk
    → ChangesName old.tables name Delete Done old.disk new.disk → KeepsButRecord old.tables.journal old.disk new.disk
    → ChangesJournalAlone old.tables name Delete old.disk new.disk → IsDurable new.disk → new.known ≡ old.known → (old.served → new.served)
    → Made (asked.Delete name) actor (Ok (answers.Deleted sequence)) buf old new
made_delete name actor sequence buf old new deleted parts acts moves keeps frame durable index served = record {
  row = (deleted.may, deleted.changed.number, parts, ap (λ (t : Tables). t.held) deleted.changed.tables_are);
  effect = change_effect name Delete sequence (answers.Deleted sequence) old new deleted.changed acts moves keeps frame durable index;
  served = served;
}

-- and a read that gave a segment
pub made_bytes : (actor count : ℕ) (buf : List ℕ) (old new : CoreState) (given : Option ℕ) → given ≡ Some count
    → readers.GivesNext old.known old.disk new.disk actor old.parts new.parts buf given
    → GivesHeld (Ok given) buf actor old new → Reads Done old.disk new.disk → new.tables ≡ old.tables → new.known ≡ old.known → (old.served → new.served)
    → Made asked.ReadNext actor (Ok (answers.Bytes count)) buf old new
made_bytes actor count buf old new given is next held reads tables index served = record {
  row = record {
    next = subst (λ (o : Option ℕ). readers.GivesNext old.known old.disk new.disk actor old.parts new.parts buf o) is next;
    held = subst (λ (o : Option ℕ). GivesHeld (Ok o) buf actor old new) is held;
  };
  effect = record { disk = reads; tables = record { tables_are = tables; index_is = index } };
  served = served;
}
