-- What is so of a disk that is lent is so of the lender's: the two are known by the same, but for who holds them.
use Rattle.backup_engine.proofs.Prelude.{inl, inr, List, [], ◌∷◌, ℕ, Option, Some, None, Why, DiskView, Shows, SourceView, SinkView, PlaceMap, Top, Refusal, Store, Memory, DiskRead, DiskWrite, Corrupt, Missing, Damaged, WrongSize, NotAStore, Version, Full, Sink, Refused, IsOpenRefusal, WasRead, IsNextRefusal, IsTopRefusal, top_key, FindsBeforeWriting, FindsNames, Holds, HasAdded, HasSwept, ReadsSince, GivesBack, IsDeleted, IsStored, IsCaused, ShownSince, WroteOnAny, EndsDurable, KeepsOthers, CommandLine, Ingest, Restore, Collect, Keeps}
use Rattle.reply_text.specs.declared.ending.Ending.{Ending}
use Rattle.reply_text.specs.declared.ending.Ending.TheVariants.{Source}
use Rattle.journal_cells.specs.declared.fault.CellFault.{CellFault}
use Rattle.recovery.specs.Opening.{IsSized, BreaksFormat, BreaksJournal, BreaksSlots, HasWrongSize}
use Rattle.recovery.specs.Slots.{IsDamagedSlot}
use Rattle.read_steps.specs.Walking.{IsCopyRefusal}
use Rattle.backup_engine.specs.AnyDisk.{IsStuck, IsRefused, IsUncollected, SaysSwept}
use Rattle.backup_engine.specs.Line.{Delete}
use Rattle.backup_engine.specs.Line as table
use Rattle.backup_engine.proofs.UnlikeNodes.{found, unlike_so}
use Rattle.backup_engine.proofs.CollectFaults.{bad_header_so, uncopied_so, unmarked_so}
use Rattle.backup_engine.specs.Seen.{devices}

module _ (loans loans_now : List ℕ) (v w : DiskView) where
  abbrev v' : DiskView
  v' = record v { loans = loans }

  abbrev w' : DiskView
  w' = record w { loans = loans_now }

  pub shows : (P : List ℕ → Type 0) → Shows v' w' P → Shows v w P
  shows P seen = record { parts = seen.parts; returned = seen.returned; known = seen.known; shows = seen.shows }

-- ---- why a store is not opened, where what one thing shows another shows

module _ (shown other : (List ℕ → Type 0) → Type 0) (each : (P : List ℕ → Type 0) → shown P → other P) (size : ℕ) where
  breaks_format : (fault : CellFault) → BreaksFormat shown size fault → BreaksFormat other size fault
  breaks_format fault is = record { least = is.least; kind = is.kind; shows = each _ is.shows }

  sized : (slots : ℕ) → IsSized shown size slots → IsSized other size slots
  sized slots is = record { count = is.count; size_is = is.size_is; format = each _ is.format }

  breaks_journal : (fault : CellFault) → BreaksJournal shown size fault → BreaksJournal other size fault
  breaks_journal fault is = record { slots = is.slots; sized = sized is.slots is.sized; kind = is.kind; shows = each _ is.shows }

  damaged_slot : (slots at : ℕ) (why : Why) → IsDamagedSlot shown slots at why → IsDamagedSlot other slots at why
  damaged_slot slots at why is = record {
    before = is.before;
    within = is.within;
    place = is.place;
    right = is.right;
    different = is.different;
    holds = each _ is.holds;
    damage = record { bytes = is.damage.bytes; gate = is.damage.gate; damage_is = is.damage.damage_is; read_as = each _ is.damage.read_as };
  }

  breaks_slots : (at : ℕ) (why : Why) → BreaksSlots shown size at why → BreaksSlots other size at why
  breaks_slots at why is = record {
    slots = is.slots;
    sized = sized is.slots is.sized;
    selector = is.selector;
    records = is.records;
    journal = each _ is.journal;
    damage = damaged_slot is.slots at why is.damage;
  }

  wrong_size : (want : ℕ) → HasWrongSize shown size want → HasWrongSize other size want
  wrong_size want (inl least) = inl least
  wrong_size want (inr is) = inr (is.0, is.1, is.2, is.3, is.4, each _ is.5)

  pub open_refusal : (refusal : Refusal) → IsOpenRefusal shown size refusal → IsOpenRefusal other size refusal
  open_refusal Memory is = is
  open_refusal DiskRead is = is
  open_refusal DiskWrite is = is
  open_refusal (WrongSize want got) is = (is.0, wrong_size want is.1)
  open_refusal (NotAStore gate magic) is = breaks_format _ is
  open_refusal (Version n) (inl is) = inl (breaks_format _ is)
  open_refusal (Version n) (inr is) = inr (breaks_journal _ is)
  open_refusal (Damaged at why) (inl is) = inl (breaks_format _ is)
  open_refusal (Damaged at why) (inr (inl is)) = inr (inl (breaks_journal _ is))
  open_refusal (Damaged at why) (inr (inr is)) = inr (inr (breaks_slots at why is))
  open_refusal (Full free) is = record { store = is.store; valid = is.valid; free_is = is.free_is; few = is.few; right = each _ is.right }
  open_refusal refusal is = absurd is

-- ---- what a command keeps

module _ (loans loans_now : List ℕ) (v w : DiskView) where
  abbrev pub lent : DiskView
  lent = record v { loans = loans }

  abbrev pub lent_now : DiskView
  lent_now = record w { loans = loans_now }

  pub on : (P : List ℕ → Type 0) → Shows lent lent_now P → Shows v w P
  on = shows loans loans_now v w

  pub reads : (P : List ℕ → Type 0) → ReadsSince lent lent_now P → ReadsSince v w P
  reads P since = record { parts = since.parts; returned = since.returned; known = since.known; shows = since.shows }

  abbrev pub holds : Holds lent lent_now → Holds v w
  holds is = record { store = is.store; right = on _ is.right; reserve = is.reserve }

  abbrev added : (given : List ℕ) → HasAdded given lent lent_now → HasAdded given v w
  added given is = record { holds = holds is.holds; changes = is.changes; after = is.after; chain = is.chain; adds = is.adds }

  -- ---- a walk that is stuck

  module _ (known : Option PlaceMap) where
    abbrev pub read : (key bytes : List ℕ) → WasRead known lent lent_now key bytes → WasRead known v w key bytes
    read key bytes is = record {
      place = is.place;
      copy = record { place_is = is.copy.place_is; right = is.copy.right; long = is.copy.long; there = on _ is.copy.there };
    }

    abbrev pub breaks : ℕ → Why → List ℕ → Type 0
    breaks at why image = ⊥

    copy_refusal : (key digest : List ℕ) (refusal : Refusal) → IsCopyRefusal known breaks lent lent_now key digest refusal → IsCopyRefusal known breaks v w key digest refusal
    copy_refusal key digest (Corrupt slot offset count want got) is =
        record { want_is = is.want_is; differ = is.differ; placed = is.placed; found = found (Shows lent lent_now) (Shows v w) on _ count got is.found }
    copy_refusal key digest DiskRead is = is
    copy_refusal key digest (Missing k) is = is
    copy_refusal key digest (Damaged at why) is = record { unknown = is.unknown; there = on _ is.there }
    copy_refusal key digest refusal is = absurd is

    top_refusal : (t : Top) (refusal : Refusal) → IsTopRefusal known breaks lent lent_now t refusal → IsTopRefusal known breaks v w t refusal
    top_refusal t (Damaged at why) (inl is) = inl (record { unknown = is.unknown; there = on _ is.there })
    top_refusal t (Damaged at why) (inr is) =
        inr (record { bytes = is.bytes; was_read = read _ is.bytes is.was_read; at_is = is.at_is; digest = is.digest; wrong = is.wrong })
    top_refusal t refusal is = copy_refusal (top_key t) t.digest refusal is

    pub next_refusal : (ahead : List Top) (refusal : Refusal) → IsNextRefusal known breaks lent lent_now ahead refusal → IsNextRefusal known breaks v w ahead refusal
    next_refusal [] refusal is = absurd is
    next_refusal (t ∷ ts) refusal is = top_refusal t refusal is

  module _ (sink sink_now : SinkView) (name : List ℕ) (ending : Option Ending) where
    abbrev given_back : GivesBack name ending lent lent_now sink sink_now → GivesBack name ending v w sink sink_now
    given_back is = record {
      holds = holds is.holds;
      root = is.root;
      has_root = is.has_root;
      segments = is.segments;
      ahead = is.ahead;
      given = is.given;
      whole = is.whole;
      wrote = is.wrote;
    }

    stuck : (is : GivesBack name ending lent lent_now sink sink_now) (refusal : Refusal) → IsStuck is refusal → IsStuck (given_back is) refusal
    stuck is refusal why = (why.0, why.1, next_refusal (Some why.0) is.ahead refusal why.2)

  -- ---- the records of the promise

  module _ (source source_now : SourceView) (sink sink_now : SinkView) (given name : List ℕ) where
    opens : (refusal : Refusal) → IsOpenRefusal (Shows lent lent_now) v.size refusal → IsOpenRefusal (Shows v w) v.size refusal
    opens = open_refusal (Shows lent lent_now) (Shows v w) on v.size

    ingest_refused : (refusal : Refusal) → IsRefused (Ingest name) given (devices lent lent_now source source_now sink sink_now) refusal →
        IsRefused (Ingest name) given (devices v w source source_now sink sink_now) refusal
    ingest_refused DiskRead is = is
    ingest_refused DiskWrite is = is
    ingest_refused refusal (inl is) = inl (opens refusal is.0, is.1)
    ingest_refused refusal (inr (added_there, inl is)) = inr (added given added_there, inl is)
    ingest_refused refusal (inr (added_there, inr is)) =
        inr (added given added_there, inr (unlike_so (ReadsSince lent lent_now) (ReadsSince v w) reads given added_there.after refusal is))

    ingest_done : IsStored name given lent lent_now → IsStored name given v w
    ingest_done is = record {
      added = added given is.added;
      all = is.all;
      numbers = is.numbers;
      names = λ old told. let stands = is.names old told in record { known = stands.known; each = stands.each };
    }

    ingest_caused : (ending : Option Ending) → IsCaused (Ingest name) given (devices lent lent_now source source_now sink sink_now) ending →
        IsCaused (Ingest name) given (devices v w source source_now sink sink_now) ending
    ingest_caused None is = ingest_done is
    ingest_caused (Some Source) is = (is.0, added given is.1, is.2)
    ingest_caused (Some Sink) is = (ingest_done is.0, is.1)
    ingest_caused (Some (Refused Memory)) is = is
    ingest_caused (Some (Refused refusal)) is = ingest_refused refusal is
    ingest_caused (Some ending) is = absurd is

    ingest_durable : (ending : Option Ending) → EndsDurable (Ingest name) ending lent_now → EndsDurable (Ingest name) ending w
    ingest_durable None is = is
    ingest_durable (Some Sink) is = is
    ingest_durable (Some ending) is = tt

    restore_refused : (refusal : Refusal) → IsRefused (Restore name) given (devices lent lent_now source source_now sink sink_now) refusal →
        IsRefused (Restore name) given (devices v w source source_now sink sink_now) refusal
    restore_refused DiskRead is = is
    restore_refused DiskWrite is = is
    restore_refused refusal (inl is) = inl (opens refusal is)
    restore_refused refusal (inr (inl is)) = inr (inl (holds is.0, is.1))
    restore_refused refusal (inr (inr is)) =
        inr (inr (given_back sink sink_now name (Some (Refused refusal)) is.0, stuck sink sink_now name (Some (Refused refusal)) is.0 refusal is.1))

    restore_caused : (ending : Option Ending) → IsCaused (Restore name) given (devices lent lent_now source source_now sink sink_now) ending →
        IsCaused (Restore name) given (devices v w source source_now sink sink_now) ending
    restore_caused None is = is
    restore_caused (Some Source) is = (is.0, added given is.1, is.2)
    restore_caused (Some Sink) is = is
    restore_caused (Some (Refused Memory)) is = is
    restore_caused (Some (Refused refusal)) is = restore_refused refusal is
    restore_caused (Some ending) is = absurd is

    restore_wrote : (ending : Option Ending) → WroteOnAny (Restore name) given ending lent lent_now sink sink_now → WroteOnAny (Restore name) given ending v w sink sink_now
    restore_wrote None is = given_back sink sink_now name None is
    restore_wrote (Some Sink) is = given_back sink sink_now name (Some Sink) is
    restore_wrote (Some ending) (inl is) = inl is
    restore_wrote (Some ending) (inr is) = inr (given_back sink sink_now name (Some ending) is)

    delete_refused : (refusal : Refusal) → IsRefused (Delete name) given (devices lent lent_now source source_now sink sink_now) refusal →
        IsRefused (Delete name) given (devices v w source source_now sink sink_now) refusal
    delete_refused DiskRead is = is
    delete_refused DiskWrite is = is
    delete_refused refusal (inl is) = inl (opens refusal is)
    delete_refused refusal (inr is) = inr (holds is.0, is.1)

    deleted : IsDeleted name lent lent_now → IsDeleted name v w
    deleted is = record {
      holds = holds is.holds;
      may = is.may;
      numbers = is.numbers;
      names = λ old told. let stands = is.names old told in record { known = stands.known; each = stands.each };
    }

    delete_caused : (ending : Option Ending) → IsCaused (Delete name) given (devices lent lent_now source source_now sink sink_now) ending →
        IsCaused (Delete name) given (devices v w source source_now sink sink_now) ending
    delete_caused None is = deleted is
    delete_caused (Some Source) is = (is.0, added given is.1, is.2)
    delete_caused (Some Sink) is = (deleted is.0, is.1)
    delete_caused (Some (Refused Memory)) is = is
    delete_caused (Some (Refused refusal)) is = delete_refused refusal is
    delete_caused (Some ending) is = absurd is

    delete_durable : (ending : Option Ending) → EndsDurable (Delete name) ending lent_now → EndsDurable (Delete name) ending w
    delete_durable None is = is
    delete_durable (Some Sink) is = is
    delete_durable (Some ending) is = tt

    list_refused : (refusal : Refusal) → IsRefused table.List given (devices lent lent_now source source_now sink sink_now) refusal →
        IsRefused table.List given (devices v w source source_now sink sink_now) refusal
    list_refused DiskRead is = is
    list_refused DiskWrite is = is
    list_refused refusal is = opens refusal is

    list_caused : (ending : Option Ending) → IsCaused table.List given (devices lent lent_now source source_now sink sink_now) ending →
        IsCaused table.List given (devices v w source source_now sink sink_now) ending
    list_caused None is = is
    list_caused (Some Source) is = (is.0, added given is.1, is.2)
    list_caused (Some Sink) is = is
    list_caused (Some (Refused Memory)) is = is
    list_caused (Some (Refused refusal)) is = list_refused refusal is
    list_caused (Some ending) is = absurd is

    list_wrote : (ending : Option Ending) → WroteOnAny table.List given ending lent lent_now sink sink_now → WroteOnAny table.List given ending v w sink sink_now
    list_wrote None is = (holds is.0, is.1)
    list_wrote (Some Sink) is = (holds is.0, is.1)
    list_wrote (Some ending) is = is

    names_so : (store : Store) → FindsNames store lent lent_now → FindsNames store v w
    names_so store is = record { index = is.index; index_is = is.index_is; found = λ apart. is.found (λ slot h g there shown digest. apart slot h g there (on _ shown) digest) }

    swept_so : (freed copied : ℕ) → HasSwept freed copied lent lent_now → HasSwept freed copied v w
    swept_so freed copied is = record {
      holds = holds is.holds;
      changes = is.changes;
      sweeps = is.sweeps;
      freed_are = is.freed_are;
      copied_are = is.copied_are;
      names = names_so is.holds.store is.names;
    }

    says_swept : (ending : Option Ending) → SaysSwept ending lent lent_now sink sink_now → SaysSwept ending v w sink sink_now
    says_swept ending is = (is.0, is.1, (swept_so is.0 is.1 is.2.0, is.2.1))

    shown_since : (P : List ℕ → Type 0) → ShownSince lent lent_now P → ShownSince v w P
    shown_since P is = record { parts = is.parts; returned = is.returned; known = is.known; shows = is.shows }

    uncollected : (is : Holds lent lent_now) (refusal : Refusal) → IsUncollected is refusal → IsUncollected (holds is) refusal
    uncollected is refusal (inl bad) = inl (bad_header_so lent lent_now v w shown_since is.store refusal bad)
    uncollected is refusal (inr (inl (index, (all, unmarked)))) = inr (inl (index, (all, unmarked_so lent lent_now v w shown_since index refusal unmarked)))
    uncollected is refusal (inr (inr (inl uncopied))) = inr (inr (inl (uncopied_so lent lent_now v w shown_since refusal uncopied.0, names_so is.store uncopied.1)))
    uncollected is refusal (inr (inr (inr (inl unwritten)))) = inr (inr (inr (inl (unwritten.0, unwritten.1, names_so is.store unwritten.2))))
    uncollected is refusal (inr (inr (inr (inr none)))) = inr (inr (inr (inr none)))

    collect_refused : (percent : ℕ) (refusal : Refusal) → IsRefused (Collect percent) given (devices lent lent_now source source_now sink sink_now) refusal →
        IsRefused (Collect percent) given (devices v w source source_now sink sink_now) refusal
    collect_refused percent DiskRead is = is
    collect_refused percent DiskWrite is = is
    collect_refused percent refusal (inl is) = inl (opens refusal is)
    collect_refused percent refusal (inr is) = inr (holds is.0, uncollected is.0 refusal is.1)

    collect_caused : (percent : ℕ) (ending : Option Ending) → IsCaused (Collect percent) given (devices lent lent_now source source_now sink sink_now) ending →
        IsCaused (Collect percent) given (devices v w source source_now sink sink_now) ending
    collect_caused percent None is = is
    collect_caused percent (Some Source) is = (is.0, added given is.1, is.2)
    collect_caused percent (Some Sink) is = is
    collect_caused percent (Some (Refused Memory)) is = is
    collect_caused percent (Some (Refused refusal)) is = collect_refused percent refusal is
    collect_caused percent (Some ending) is = absurd is

    collect_wrote : (percent : ℕ) (ending : Option Ending) → WroteOnAny (Collect percent) given ending lent lent_now sink sink_now →
        WroteOnAny (Collect percent) given ending v w sink sink_now
    collect_wrote percent None is = says_swept None is
    collect_wrote percent (Some Sink) is = says_swept (Some Sink) is
    collect_wrote percent (Some ending) is = is

    collect_durable : (percent : ℕ) (ending : Option Ending) → EndsDurable (Collect percent) ending lent_now → EndsDurable (Collect percent) ending w
    collect_durable percent None is = is
    collect_durable percent (Some Sink) is = is
    collect_durable percent (Some ending) is = tt

    found_so : (percent : ℕ) → FindsBeforeWriting (Collect percent) lent lent_now → FindsBeforeWriting (Collect percent) v w
    found_so percent (inl same) = inl (record { content = same.content; images = same.images; between = same.between })
    found_so percent (inr (is, names)) = inr (holds is, names_so is.store names)

    frame_kept : (command : CommandLine) (ending : Option Ending) → KeepsOthers command ending lent lent_now → KeepsOthers command ending v w
    frame_kept command ending is = record { content = is.content; crash = λ old told. let leaves = is.crash old told in record { now = leaves.now; since = leaves.since } }

    pub ingest_kept : (ending : Option Ending) → Keeps (Ingest name) given ending (devices lent lent_now source source_now sink sink_now) →
        Keeps (Ingest name) given ending (devices v w source source_now sink sink_now)
    ingest_kept ending is = record {
      any = record {
        took = is.any.took;
        caused = ingest_caused ending is.any.caused;
        wrote = is.any.wrote;
        faults_are = is.any.faults_are;
        durable = ingest_durable ending is.any.durable;
        source_faults = is.any.source_faults;
        sink_faults = is.any.sink_faults;
      };
      frame = frame_kept (Ingest name) ending is.frame;
      found = tt;
      blank = is.blank;
      untouched = is.untouched;
    }

    pub restore_kept : (ending : Option Ending) → Keeps (Restore name) given ending (devices lent lent_now source source_now sink sink_now) →
        Keeps (Restore name) given ending (devices v w source source_now sink sink_now)
    restore_kept ending is = record {
      any = record {
        took = is.any.took;
        caused = restore_caused ending is.any.caused;
        wrote = restore_wrote ending is.any.wrote;
        faults_are = is.any.faults_are;
        durable = is.any.durable;
        source_faults = is.any.source_faults;
        sink_faults = is.any.sink_faults;
      };
      frame = frame_kept (Restore name) ending is.frame;
      found = tt;
      blank = is.blank;
      untouched = is.untouched;
    }

    pub delete_kept : (ending : Option Ending) → Keeps (Delete name) given ending (devices lent lent_now source source_now sink sink_now) →
        Keeps (Delete name) given ending (devices v w source source_now sink sink_now)
    delete_kept ending is = record {
      any = record {
        took = is.any.took;
        caused = delete_caused ending is.any.caused;
        wrote = is.any.wrote;
        faults_are = is.any.faults_are;
        durable = delete_durable ending is.any.durable;
        source_faults = is.any.source_faults;
        sink_faults = is.any.sink_faults;
      };
      frame = frame_kept (Delete name) ending is.frame;
      found = tt;
      blank = is.blank;
      untouched = is.untouched;
    }

    pub list_kept : (ending : Option Ending) → Keeps table.List given ending (devices lent lent_now source source_now sink sink_now) →
        Keeps table.List given ending (devices v w source source_now sink sink_now)
    list_kept ending is = record {
      any = record {
        took = is.any.took;
        caused = list_caused ending is.any.caused;
        wrote = list_wrote ending is.any.wrote;
        faults_are = is.any.faults_are;
        durable = is.any.durable;
        source_faults = is.any.source_faults;
        sink_faults = is.any.sink_faults;
      };
      frame = frame_kept table.List ending is.frame;
      found = tt;
      blank = is.blank;
      untouched = is.untouched;
    }

    pub collect_kept : (percent : ℕ) (ending : Option Ending) → Keeps (Collect percent) given ending (devices lent lent_now source source_now sink sink_now) →
        Keeps (Collect percent) given ending (devices v w source source_now sink sink_now)
    collect_kept percent ending is = record {
      any = record {
        took = is.any.took;
        caused = collect_caused percent ending is.any.caused;
        wrote = collect_wrote percent ending is.any.wrote;
        faults_are = is.any.faults_are;
        durable = collect_durable percent ending is.any.durable;
        source_faults = is.any.source_faults;
        sink_faults = is.any.sink_faults;
      };
      frame = frame_kept (Collect percent) ending is.frame;
      found = found_so percent is.found;
      blank = is.blank;
      untouched = is.untouched;
    }
