-- What a change of a name makes of the tables, of the store that they represent, and of the disk.
use Rattle.ingest_steps.proofs.Prelude.{◌≡◌, ◌⊎◌, inl, inr, ℕ, suc, ◌-◌, ◌^◌, ◌<◌, Bool, true, false, List, cond, Option, Some, IsSome, refl, sym, ◌∙◌, ap, subst, arith, nat_list_cmp_total, Root, Change, RecordValue, SelectorValue, Put, half_cells, DiskView, OnlyReads, Ending, Broken, Refused, ending_of, Writes, Moves, reads_leave, moves_written, PlaceMap, NameMap, HasPlace, names_with, Appends, IsAppended, IsCheckpointed, checkpointed, JournalValue, Files, Store, names_of, IsIn, Stands, HasJournal, appended, record_of, with_cell, with_change, with_checkpoint, store_has_cell, cell_here, cell_anew, names_checkpoint, SameButJournal, IsAbove, Refusal, Memory, Numbers, DiskWrite, Tables, Represents, RepresentsNames, MayChange, HasNumbers, IsWriteRefusal, record_after_last, tables_with, ChangesName, RecordsBy, IsRecordedBy, Records, IsRecorded, has_cell}
use Rattle.std.proofs.Common.{rules}
use Rattle.std.specs.FinMap as finite
use Rattle.std.specs.Cmp.{tied_itself}
use Rattle.std.specs.Ordering.{is_eq}
use Rattle.disk_format.specs.Cells.{IsChange, IsRecord}
use Rattle.dd_disk.specs.Moves.{Way, step}
use Rattle.dd_disk.proofs.Moves.{moves_wider}
use Rattle.namespace.specs.declared.record.Named.{Named}
use Rattle.namespace.specs.Names.{names_changed}
use Rattle.store_model.specs.Files.{Command, files_after}
use Rattle.store_model.specs.Journal.{Follow}
use Rattle.store_model.specs.Steps.{CanChangeName, HoldsFor, change_of, name_of}
use Rattle.store_model.proofs.Journaled.{with_journal, journal_above, files_above, held_for, change_stands}
use Rattle.store_model.proofs.Valid.{valid_change}
use Rattle.store_state.specs.Refused.{blames}
use Rattle.ingest_steps.specs.Naming.{IsChanged, StandsStill, commanding, changing_journal}
use Rattle.ingest_steps.proofs.Recorded.{count_of_cell, same_cell, checkpoint_told, record_same, names_told}
use Rattle.ingest_steps.proofs.Renewed.{alone, append_after, append_between, half_of, checkpoint_after, checkpoint_between}

-- ---- the record

-- it has a spelling
pub spells : (t : Tables) (name : List ℕ) (change : Change) → MayChange t name change → IsChange change → t.journal.last < 2 ^ 64 - 1 → IsRecord (record_after_last t name change)
spells t name change may right below = record { from_one = omega arith; sequence = omega (arith, below); name = may.named; change = right }

-- the name is there then
pub there_after : (r : RecordValue) (names new : NameMap) (root : Root) → r.change ≡ Put root → new ≡ names_with r names → IsSome (finite.get new r.name)
there_after r names new root put is =
    let named : Named = record { sequence = r.sequence; root = root } in
    let found : finite.get new r.name ≡ Some named =
    ap (λ (m : NameMap). finite.get m r.name) (is ∙ ap (λ (change : Change). names_changed r.sequence r.name change names) put)
    ∙ finite.get-insert nat_list_cmp_total names r.name named r.name
    ∙ ap (λ o. cond (is_eq o) (Some named) (finite.get names r.name)) (tied_itself nat_list_cmp_total r.name) in
    subst IsSome (sym found) (search rules)

-- it is that of the change
pub record_is : (t : Tables) (name : List ℕ) (change : Change) (r : RecordValue) (number : ℕ) → r ≡ record { sequence = number; name = name; change = change }
    → number ≡ suc t.journal.last → r ≡ record_after_last t name change
record_is t name change r number is next = is ∙ ap (λ (n : ℕ). record { sequence = n; name = name; change = change }) next

-- ---- the tables

module _ (name : List ℕ) (change : Change) (t : Tables) (may : MayChange t name change) (numbers : HasNumbers t) where
  pub can_change : (store : Store) → RepresentsNames store t → CanChangeName name change store
  can_change store keeps = record {
    named = may.named;
    place = subst (λ (names : NameMap). HasPlace names name change) keeps.names_are may.place;
    rise = λ full. omega (arith, numbers.generation (omega (arith, full, keeps.count)), keeps.generation);
    number = omega (arith, keeps.last_is, numbers.sequence);
  }

  represents_with : (store : Store) (known : Option PlaceMap) → Follow 0 finite.empty store.records → Represents store known t
      → Represents (with_change name change store) known (tables_with (record_after_last t name change) t)
  represents_with store known follow is = record {
    slots_are = is.slots_are;
    names_are = names_told store t is.names_are follow name change;
    slots_hold = is.slots_hold;
    index_is_newest = is.index_is_newest;
  }

  pub is_changed : (new : Tables) (number : ℕ) → IsChange change → number ≡ suc t.journal.last → new ≡ tables_with (record_after_last t name change) t
      → IsChanged t name change new number
  is_changed new number right is tables = record {
    number = is;
    numbers = numbers;
    tables_are = tables;
    right = right;
    can = can_change;
    represents = λ store known follow keeps. subst (Represents (with_change name change store) known) (sym tables) (represents_with store known follow keeps);
    runs = λ size known runs. record {
      store = with_change name change runs.store;
      represents = subst (Represents (with_change name change runs.store) known) (sym tables) (represents_with runs.store known runs.valid.follow runs.represents);
      valid = valid_change size name change runs.store runs.valid (can_change runs.store runs.represents.names_are) right;
      has_free = runs.has_free;
    };
  }

-- ---- the image, by whether a cell is free

-- What a change of a name makes of what images have above a journal: where they have what it asks, and the record after records
-- that give the same names.
record Makes (Base : Store → List ℕ → Type 0) (name : List ℕ) (change : Change) (store : Store) (Asks : List ℕ → Type 0) (After : Store → List ℕ → Type 0) : Type 0 where
  pub above : IsAbove Base
  pub asks_still : (given c : List ℕ) → Base store given → SameButJournal given c → Asks given → Asks c
  pub made : (selector : SelectorValue) (is_open : Bool) (records : List RecordValue) (old new : List ℕ)
      → Base (with_journal selector is_open records store) old → Asks old → SameButJournal old new
      → HasJournal (appended name change (with_journal selector is_open records store)) new → After (with_journal selector is_open records store) new

module _ (name : List ℕ) (change : Change) (Base : Store → List ℕ → Type 0) (store : Store) (Asks : List ℕ → Type 0) (After : Store → List ℕ → Type 0)
    (makes : Makes Base name change store Asks After) (t : Tables) (keeps : RepresentsNames store t) (can : CanChangeName name change store) where
  abbrev r : RecordValue
  r = record_after_last t name change

  abbrev Before : List ℕ → Type 0
  Before c = Base store c × Asks c

  follow_of : (image : List ℕ) → Base store image → Follow 0 finite.empty store.records
  follow_of image was = (makes.above.journal store image was).holds.records_are.right

  module _ (free : store_has_cell store ≡ true) where
    room_here : t.journal.count < half_cells
    room_here = count_of_cell t.journal (same_cell store t keeps ∙ free)

    -- the record is that of the store as it is
    r_here : Follow 0 finite.empty store.records → r ≡ record_of name change store
    r_here follow = record_same store t keeps follow name change ∙ ap (record_of name change) (cell_here store free)

    made_here : (given c : List ℕ) → Before given → SameButJournal given c → HasJournal (appended name change store) c → After (with_cell store) c
    made_here given c before same has =
        subst (λ (s : Store). After s c) (sym (cell_here store free))
        (makes.made store.selector store.other_open store.records given c before.0 before.1 same has)

    after_here : (given c : List ℕ) → Before given → IsAppended t.journal r given c → After (with_cell store) c
    after_here given c before of =
        let has = makes.above.journal store given before.0 in
        let is = r_here (follow_of given before.0) in
        made_here given c before
        (alone name change Base makes.above store t.journal t.names keeps room_here r is can.named can.place given c has of.same)
        (append_after name change Base makes.above store t.journal t.names keeps room_here r is can.named can.place given c has of)

    between_here : (given d c : List ℕ) → Before given → Before d → Appends t.journal r given d c → Base store c ⊎ After (with_cell store) c
    between_here given d c before was of =
        elim (append_between name change Base makes.above store t.journal t.names keeps room_here r
        (r_here (follow_of given before.0)) can.named can.place given d c before.0 was.0 of) [
          | inl still ↦ inl still
          | inr with ↦ inr (made_here given c before with.0 with.1)
        ]

  module _ (full : store_has_cell store ≡ false) where
    abbrev anew : Store
    anew = with_checkpoint store

    abbrev journal_anew : JournalValue
    journal_anew = checkpointed t.names t.journal

    at_anew : (c : List ℕ) → Base anew c → Base (with_cell store) c
    at_anew c has = subst (λ (s : Store). Base s c) (sym (cell_anew store full)) has

    -- or after a checkpoint
    r_anew : Follow 0 finite.empty store.records → r ≡ record_of name change anew
    r_anew follow = record_same store t keeps follow name change ∙ ap (record_of name change) (cell_anew store full)

    place_anew : Follow 0 finite.empty store.records → HasPlace (names_of anew) name change
    place_anew follow = subst (λ (n : NameMap). HasPlace n name change) (sym (names_checkpoint store follow)) can.place

    made_anew : (mid c : List ℕ) → Base anew mid → Asks mid → SameButJournal mid c → HasJournal (appended name change anew) c → After (with_cell store) c
    made_anew mid c was asks same has =
        subst (λ (s : Store). After s c) (sym (cell_anew store full)) (makes.made anew.selector true anew.records mid c was asks same has)

    module _ (given mid : List ℕ) (before : Before given) (is : IsCheckpointed t.journal t.names given mid) where
      follow : Follow 0 finite.empty store.records
      follow = follow_of given before.0

      came : Base anew mid
      came = checkpoint_after Base makes.above store t.journal t.names keeps given mid before.0 is

      asks_mid : Asks mid
      asks_mid = makes.asks_still given mid before.0 (half_of Base makes.above store t.journal t.names keeps given mid is.same) before.1

      has_mid : HasJournal anew mid
      has_mid = makes.above.journal anew mid came

      module _ (room : journal_anew.count < half_cells) where
        after_mid : (c : List ℕ) → IsAppended journal_anew r mid c → After (with_cell store) c
        after_mid c of = made_anew mid c came asks_mid
            (alone name change Base makes.above anew journal_anew t.names (checkpoint_told store t keeps follow) room r (r_anew follow) can.named
            (place_anew follow) mid c has_mid of.same)
            (append_after name change Base makes.above anew journal_anew t.names (checkpoint_told store t keeps follow) room r (r_anew follow) can.named
            (place_anew follow) mid c has_mid of)

        between_mid : (c : List ℕ) → Appends journal_anew r mid mid c → Base anew c ⊎ After (with_cell store) c
        between_mid c of =
            elim (append_between name change Base makes.above anew journal_anew t.names (checkpoint_told store t keeps follow) room r (r_anew follow) can.named
            (place_anew follow) mid mid c came came of) [
              | inl still ↦ inl still
              | inr with ↦ inr (made_anew mid c came asks_mid with.0 with.1)
            ]

  recorded : (free : Bool) → store_has_cell store ≡ free → (given c : List ℕ) → Before given → IsRecordedBy free t.names t.journal r given c → After (with_cell store) c
  recorded true free given c before of = after_here free given c before of
  recorded false full given c before of = after_mid full given of.mid before of.is of.room c of.appended

  recording : (free : Bool) → store_has_cell store ≡ free → (given d c : List ℕ) → Before given → Before d → RecordsBy free t.names t.journal r given d c
      → StandsStill Base store c ⊎ After (with_cell store) c
  recording true free given d c before was of = elim (between_here free given d c before was of) [
    | inl still ↦ inl (inl still)
    | inr with ↦ inr with
  ]
  recording false full given d c before was (inl of) =
      elim (checkpoint_between Base makes.above store t.journal t.names keeps given d c before.0 was.0 of) [
        | inl still ↦ inl (elim still [ inl same ↦ inl same | inr shut ↦ inr (inl shut) ])
        | inr has ↦ inl (inr (inr (at_anew full c has)))
      ]
  recording false full given d c before was (inr of) = elim (between_mid full given of.mid before of.is of.room c of.appends) [
    | inl has ↦ inl (inr (inr (at_anew full c has)))
    | inr with ↦ inr with
  ]

  -- on a disk
  moves_recorded : (e : Ending) (old new : DiskView) → Writes (Records t.names t.journal r) (IsRecorded t.names t.journal r) e old new
      → Moves (step Before (λ c. StandsStill Base store c ⊎ After (with_cell store) c) (After (with_cell store))) e old new
  moves_recorded e old new writes =
      let same : store_has_cell store ≡ has_cell t.journal = sym (same_cell store t keeps) in
      moves_written Before (λ c. StandsStill Base store c ⊎ After (with_cell store) c) (After (with_cell store)) (Records t.names t.journal r)
      (IsRecorded t.names t.journal r) old new
      (recorded (has_cell t.journal) same) e (λ c before. inl (inl before.0)) (recording (has_cell t.journal) same) writes

-- ---- of a journal, and of files

-- of the journal alone nothing more is asked
makes_journal : (name : List ℕ) (change : Change) (store : Store) → Makes HasJournal name change store (λ c. Unit {0}) (λ base. HasJournal (appended name change base))
makes_journal name change store = record {
  above = journal_above;
  asks_still = λ given c was same asks. asks;
  made = λ selector is_open records old new was asks same has. has;
}

-- of files that each image holds one that a command puts
makes_files : (S : List ℕ → Type 0) (command : Command) (store : Store) (files : Files)
    → Makes (λ s. Stands S s files) (name_of command) (change_of command) store (HoldsFor command store.held)
    (λ base. Stands S (appended (name_of command) (change_of command) base) (files_after command files))
makes_files S command store files = record {
  above = files_above S files;
  asks_still = λ given c was same holds. held_for given c store was.holds.right same command holds;
  made = λ selector is_open records old new was holds same has.
      change_stands S old new (with_journal selector is_open records store) files was same selector is_open records refl command holds has;
}

-- an image on the way
pub journal_between : (name : List ℕ) (change : Change) (store : Store) (t : Tables) → RepresentsNames store t → CanChangeName name change store → (given d c : List ℕ)
    → HasJournal store given → HasJournal store d → Records t.names t.journal (record_after_last t name change) given d c
    → StandsStill HasJournal store c ⊎ HasJournal (with_change name change store) c
journal_between name change store t keeps can given d c has was of =
    recording name change HasJournal store (λ c. Unit {0}) (λ base. HasJournal (appended name change base)) (makes_journal name change store) t keeps can (has_cell t.journal)
    (sym (same_cell store t keeps))
    given d c (has, tt) (was, tt) of

module _ (t : Tables) (e : Ending) (old new : DiskView) where
  abbrev Written : List ℕ → Change → Type 0
  Written name change = Writes (Records t.names t.journal (record_after_last t name change)) (IsRecorded t.names t.journal (record_after_last t name change)) e old new

  moves_journal : (name : List ℕ) (change : Change) (store : Store) → RepresentsNames store t → CanChangeName name change store → Written name change
      → Moves (changing_journal name change store) e old new
  moves_journal name change store keeps can written =
      let Asks = λ (c : List ℕ). Unit {0} in
      let After = λ (base : Store). HasJournal (appended name change base) in
      let first = step (λ c. HasJournal store c × Unit {0}) (λ c. StandsStill HasJournal store c ⊎ HasJournal (with_change name change store) c)
      (HasJournal (with_change name change store)) in
      moves_wider first (changing_journal name change store) old new
      (record { before = λ c has. (has, tt); between = λ c has. has; rest = λ c has. has }) (λ c has. has) e
      (moves_recorded name change HasJournal store Asks After (makes_journal name change store) t keeps can e old new written)

  moves_command : (command : Command) (S : List ℕ → Type 0) (store : Store) (files : Files) → RepresentsNames store t → CanChangeName (name_of command) (change_of command) store
      → Written (name_of command) (change_of command) → Moves (commanding S command store files) e old new
  moves_command command S store files keeps can written =
      moves_recorded (name_of command) (change_of command) (λ s. Stands S s files) store (HoldsFor command store.held)
      (λ base. Stands S (appended (name_of command) (change_of command) base) (files_after command files)) (makes_files S command store files) t keeps can e old new written

  pub changes_name : (name : List ℕ) (change : Change) (r : RecordValue) → r ≡ record_after_last t name change → MayChange t name change → HasNumbers t
      → Writes (Records t.names t.journal r) (IsRecorded t.names t.journal r) e old new → ChangesName t name change e old new
  changes_name name change r is may numbers writes =
      let written : Written name change = subst (λ (v : RecordValue). Writes (Records t.names t.journal v) (IsRecorded t.names t.journal v) e old new) is writes in
      record {
        moves = λ among store files command keeps name_is change_is.
            let can = can_change name change t may numbers store keeps in
            let can_command = subst (λ (n : List ℕ). CanChangeName n (change_of command) store) name_is
            (subst (λ (x : Change). CanChangeName name x store) change_is can) in
            moves_command command (IsIn among) store files keeps can_command
            (subst (λ (n : List ℕ). Written n (change_of command)) name_is (subst (λ (x : Change). Written name x) change_is written));
        journal = λ store keeps. moves_journal name change store keeps (can_change name change t may numbers store keeps) written;
      }

-- a way of which nothing was written
moves_reads : (way : Way) (old new : DiskView) → ((c : List ℕ) → way.before c → way.between c) → OnlyReads old new → Moves way Refused old new
moves_reads way old new starts reads stands = record { leaves = reads_leave way.between old new (λ c image. starts c (stands.each c image)) reads; arrives = inl reads }

reads_name : (t : Tables) (name : List ℕ) (change : Change) (old new : DiskView) → OnlyReads old new → ChangesName t name change Refused old new
reads_name t name change old new reads = record {
  moves = λ among store files command keeps name_is change_is.
      moves_reads (commanding (IsIn among) command store files) old new (λ c before. inl (inl before.0)) reads;
  journal = λ store keeps. moves_reads (changing_journal name change store) old new (λ c has. inl (inl has)) reads;
}

-- it was refused: before the first write, or a write or a sync failed
pub unwritten_name : (t : Tables) (old new : DiskView) (name : List ℕ) (change : Change) (r : RecordValue) (refusal : Refusal) → r ≡ record_after_last t name change
    → MayChange t name change
    → t.journal.last < 2 ^ 64 - 1 → IsWriteRefusal t refusal → Writes (Records t.names t.journal r) (IsRecorded t.names t.journal r) (ending_of (blames refusal)) old new
    → ChangesName t name change (ending_of (blames refusal)) old new
unwritten_name t old new n x r Memory is may below refused writes = reads_name t n x old new writes.written
unwritten_name t old new n x r Numbers is may below refused writes = reads_name t n x old new writes.written
unwritten_name t old new n x r DiskWrite is may below refused writes =
    changes_name t Broken old new n x r is may (record { sequence = below; generation = refused }) writes
unwritten_name t old new n x r _ is may below refused writes = absurd refused
