-- What a run leaves of the bytes of the disk, whatever these are.
use Rattle.store_core.proofs.Prelude.{◌≡◌, ◌≢◌, inl, inr, ℕ, suc, ◌+◌, ◌<◌, ◌≤◌, Bool, true, false, List, [], ◌∷◌, length, Option, Some, None, Result, Ok, Err, refl, sym, ◌∙◌, ap, subst, arith, nat_lt, ltb-true, ltb-false, lt-ltb, range, SameOutside, KnownWith, SLOT_BYTES, Change, Delete, Put, half_cells, slot_at, ending_of, DiskView, IsLater, OnlyReads, CrashLeaves, SteppedFrom, StandsFor, Both, reads_here, reads_leave, leaves_on, leaves_weaker, PlaceMap, HeaderValue, SameBefore, Answer, StepValue, JournalValue, Refusal, Stored, Store, IsValidFor, free_slots, first_free, StoreChange, SealContainer, ChangeName, FlushContainer, FreeContainer, with_change, Tables, blames, IsSettled, Left, Represents, ChangesBytes, record_alone, Stop, CoreStep, Steps, StepsOr, StopsAfter, Row, Effect, Rests, SealsSome, NamesOne, KeepsTables, IsOn, KeepsBytes, ChangesTo, CoreRun, FileEvent, IsAt, changes_by, changes_of, events_of, AreNoGcSteps, IsNoGcStep, CoreState, Event}
use Rattle.std.proofs.Common.{length-append}
use Rattle.std.specs.Prelude.{◌-◌, ◌⊎◌, slice_get, take}
use Rattle.actor_parts.specs.Offers.{sealed_of}
use Rattle.ingest_steps.specs.Offering.{in_free, offer_in}
use Rattle.ingest_steps.specs.SealingAll.{ChangesSlotsAlone, SameButSlotsOf, slots_of}
use Rattle.store_core.specs.Core.{AreSealed, changed_by, next_id, seals_from}
use Rattle.disk_format.specs.declared.numbers.TheConstants.{CELL_BYTES, FIRST_HALF, FIRST_SLOT}
use Rattle.disk_format.specs.Cells.{SelectorValue}
use Rattle.disk_format.specs.Layout.{cell_at}
use Rattle.dd_disk.proofs.Moves.{stands_content, stands_weaker}
use Rattle.container_meta.specs.Segments.{Contents}
use Rattle.actor_parts.specs.declared.step.Answer.TheVariants as answers
use Rattle.actor_parts.specs.StepValue as asked
use Rattle.journal_cells.specs.Appending.{SameButNext}
use Rattle.refusals.specs.declared.refusal.Refusal.TheVariants as refusals
use Rattle.store_model.specs.Standing.{HasJournal}
use Rattle.store_model.specs.Steps.{HasCellsFor, appended, record_of}
use Rattle.store_model.specs.Steps.{has_cell as store_has_cell}
use Rattle.store_model.proofs.Cells.{cell_here, cell_anew, with_cell_is}
use Rattle.store_model.proofs.Frames.{SameTo}
use Rattle.store_model.proofs.Journaled.{SameButJournal, has_kept}
use Rattle.ingest_steps.specs.Recording.{SameButRecord, SameButRecordBy, has_cell}
use Rattle.ingest_steps.proofs.Recorded.{count_of_cell, same_cell}
use Rattle.store_core.specs.Frame.{HadContainer, KeepsJournal, AddsBytes, KeepsWritten, AddsAlone, WrittenStays, commands_in, commands_of}
use Rattle.store_core.proofs.CoreRuns.{was_running, running_step, runs_before, run_later, stopped_reads}
use Rattle.store_core.proofs.KeepingFiles.{only_reads, chain_on}
use Rattle.store_core.proofs.KeepingSegments.{effect_settled}
use Rattle.store_core.proofs.RunningOn.{seal_kept, sealed_first, sealed_some}
use Rattle.store_core.proofs.FilledSlots.{IsOutOf, out_of_closed, slots_closed, slots_filled, slots_other, some_not_none}
use Rattle.store_core.proofs.ManySealed.{comes_all, rest_on, room_left}
use Rattle.store_core.proofs.Stepping.{step_later}

-- ---- bytes

module _ (s : Store) (base : List ℕ) where
  pub keeps_here : (end : ℕ) (Also : Type 0) (Stays : ℕ → Type 0) → KeepsBytes s end Also Stays base base
  keeps_here end Also Stays = record {
    size_is = refl;
    format = refl;
    journal = λ also. record { head = refl; cells = λ half cell low within other. refl };
    slots = λ slot within stays. refl;
  }

  journal_fewer : (end later : ℕ) (given : List ℕ) → end ≤ later → KeepsJournal s end base given → KeepsJournal s later base given
  journal_fewer end later given more keeps = record {
    head = keeps.head;
    cells = λ half cell low within other. keeps.cells half cell low within (λ is. other (is.0, is.1, omega (arith, is.2, more)));
  }

  journal_before : (end : ℕ) (given new : List ℕ) → ((p n : ℕ) → p + n ≤ FIRST_SLOT → range p n new ≡ range p n given) → KeepsJournal s end base given → KeepsJournal s end base new
  journal_before end given new before keeps = record {
    head = before 0 FIRST_HALF (omega arith) ∙ keeps.head;
    cells = λ half cell low within other. before (cell_at half cell) CELL_BYTES (omega (arith, low, within)) ∙ keeps.cells half cell low within other;
  }

  -- where a cell changes that comes after the records, and before the end
  journal_put : (end place at : ℕ) (given new : List ℕ) → place ≡ s.selector.half → place ≤ 1 → length s.records ≤ at → at < end → at < half_cells
      → SameOutside (cell_at place at) CELL_BYTES given new
      → KeepsJournal s end base given → KeepsJournal s end base new
  journal_put end place at given new place_is few after before room same keeps = record {
    head = same.before 0 FIRST_HALF (omega arith) ∙ keeps.head;
    cells = λ half cell low within other.
        other_cell half cell (nat_lt (cell_at half cell) (cell_at place at)) refl
        (λ is. other
        (same_half half cell low within is ∙ place_is, omega (arith, same_cell half cell low within is, after), omega (arith, same_cell half cell low within is, before)))
        ∙ keeps.cells half cell low within other;
  }
    where
      -- each place has one half and one cell
      same_half : (half cell : ℕ) → half ≤ 1 → cell < half_cells → cell_at half cell ≡ cell_at place at → half ≡ place
      same_half half cell low within is = omega (arith, low, within, is, few, room)

      same_cell : (half cell : ℕ) → half ≤ 1 → cell < half_cells → cell_at half cell ≡ cell_at place at → cell ≡ at
      same_cell half cell low within is = omega (arith, low, within, is, few, room)

      other_cell : (half cell : ℕ) (below : Bool) → nat_lt (cell_at half cell) (cell_at place at) ≡ below → (cell_at half cell ≡ cell_at place at → ⊥)
          → range (cell_at half cell) CELL_BYTES new ≡ range (cell_at half cell) CELL_BYTES given
      other_cell half cell true is differ = same.before (cell_at half cell) CELL_BYTES (omega (arith, ltb-true (cell_at half cell) (cell_at place at) is))
      other_cell half cell false is differ = same.after (cell_at half cell) CELL_BYTES (omega (arith, ltb-false (cell_at half cell) (cell_at place at) is, differ))

  module _ (end : ℕ) (Also : Type 0) (Stays : ℕ → Type 0) (given : List ℕ) (keeps : KeepsBytes s end Also Stays base given) where
    keeps_fewer : (later : ℕ) (Then : Type 0) (Fewer : ℕ → Type 0) → (Then → Also × (end ≤ later)) → ((slot : ℕ) → Fewer slot → Stays slot)
        → KeepsBytes s later Then Fewer base given
    keeps_fewer later Then Fewer more each = record {
      size_is = keeps.size_is;
      format = keeps.format;
      journal = λ so. journal_fewer end later given (more so).1 (keeps.journal (more so).0);
      slots = λ slot within stays. keeps.slots slot within (each slot stays);
    }

    -- where nothing changes but what comes after all slots
    pub keeps_counted : (new : List ℕ) → SameBefore (slot_at s.slots) given new → KeepsBytes s end Also Stays base new
    keeps_counted new same = record {
      size_is = same.size ∙ keeps.size_is;
      format = same.before 0 CELL_BYTES (omega arith) ∙ keeps.format;
      journal = λ also. journal_before end given new (λ p n within. same.before p n (omega (arith, within))) (keeps.journal also);
      slots = λ slot within stays. same.before (slot_at slot) SLOT_BYTES (omega (arith, within)) ∙ keeps.slots slot within stays;
    }

    -- where slots change that are none of these
    pub keeps_sealed : (taken new : List ℕ) → ((slot : ℕ) → Stays slot → IsOutOf taken slot) → SameButSlotsOf s.slots taken given new → KeepsBytes s end Also Stays base new
    keeps_sealed taken new others same = record {
      size_is = same.size ∙ keeps.size_is;
      format = same.same 0 CELL_BYTES (λ i other here. inl (omega arith), omega arith) ∙ keeps.format;
      journal = λ also. journal_before end given new (λ p n within. same.same p n (λ i other here. inl (omega (arith, within)), omega (arith, within))) (keeps.journal also);
      slots = λ slot within stays.
          same.same (slot_at slot) SLOT_BYTES (λ i other here. by_side slot other (nat_lt slot other) refl (others slot stays i other here), omega (arith, within))
          ∙ keeps.slots slot within stays;
    }
      where
        by_side : (slot other : ℕ) (below : Bool) → nat_lt slot other ≡ below → slot ≢ other
            → (slot_at slot + SLOT_BYTES ≤ slot_at other) ⊎ (slot_at other + SLOT_BYTES ≤ slot_at slot)
        by_side slot other true is differ = inl (omega (arith, ltb-true slot other is))
        by_side slot other false is differ = inr (omega (arith, ltb-false slot other is, differ))

    -- where the journal alone changes
    pub keeps_record : (later : ℕ) (Then : Type 0) (new : List ℕ) → SameButJournal given new → (Then → KeepsJournal s later base new) → KeepsBytes s later Then Stays base new
    keeps_record later Then new same journal = record {
      size_is = same.size ∙ keeps.size_is;
      format = same.format ∙ keeps.format;
      journal = journal;
      slots = λ slot within stays. same.slots (slot_at slot) SLOT_BYTES (omega arith) ∙ keeps.slots slot within stays;
    }

-- ---- how many records fit

-- the changes of names among some changes
abbrev names_in : List StoreChange → ℕ
names_in [] = 0
names_in (SealContainer id kind segments ∷ rest) = names_in rest
names_in (ChangeName name change ∷ rest) = suc (names_in rest)
names_in (FlushContainer id kind segments ∷ rest) = names_in rest
names_in (FreeContainer slot ∷ rest) = names_in rest

none_named : (id : ℕ) (cs : List Contents) → names_in (seals_from id cs) ≡ 0
none_named id [] = refl
none_named id (c ∷ cs) = none_named (suc id) cs

few_names : (step : StepValue) (answer : Result Answer Refusal) → names_in (changes_by step answer) ≤ commands_of step
few_names (asked.Seal offered) (Ok (answers.Sealed id count)) = omega (arith, none_named (id + 1 - count) (take count offered))
few_names (asked.Commit name root) (Ok answer) = omega arith
few_names (asked.Delete name) (Ok answer) = omega arith
few_names step answer = omega arith

-- where the first store's half has cells for all of so many records, the second one's has them for the rest
abbrev Fits : Store → ℕ → Store → ℕ → Type 0
Fits s count t more = HasCellsFor s count → (t.selector ≡ s.selector) × (length t.records + more ≤ half_cells)

fits_fewer : (s : Store) (count : ℕ) (t : Store) (more less : ℕ) → less ≤ more → Fits s count t more → Fits s count t less
fits_fewer s count t more less fewer fits has = ((fits has).0, omega (arith, (fits has).1, fewer))

-- a record that needed no checkpoint
record Grows (name : List ℕ) (change : Change) (t : Store) : Type 0 where
  pub free : store_has_cell t ≡ true
  pub same : (with_change name change t).selector ≡ t.selector
  pub longer : length (with_change name change t).records ≡ length t.records + 1

module _ (name : List ℕ) (change : Change) (t : Store) where
  grows : store_has_cell t ≡ true → Grows name change t
  grows free = record {
    free = free;
    same = ap (λ (u : Store). u.selector) (cell_here t free);
    longer = subst (λ (u : Store). length (appended name change u).records ≡ length t.records + 1) (sym (cell_here t free))
        (length-append t.records (record_of name change t ∷ []));
  }

  rises_on : t.selector.generation ≤ (with_change name change t).selector.generation
  rises_on = with_cell_is t (λ u. t.selector.generation ≤ u.selector.generation) (λ free. omega arith) (λ full. omega arith)

  -- where the selector is that of before there was a cell
  had_cell : (s : Store) → s.selector.generation ≤ t.selector.generation → (with_change name change t).selector ≡ s.selector → store_has_cell t ≡ true
  had_cell s rises same = elim (store_has_cell t) as (λ b. store_has_cell t ≡ b → store_has_cell t ≡ true) [
    | true ↦ λ is. is
    | false ↦ λ is.
        let up : (with_change name change t).selector.generation ≡ t.selector.generation + 1 = ap (λ (u : Store). u.selector.generation) (cell_anew t is) in
        absurd (omega (arith, up, rises, ap (λ (x : SelectorValue). x.generation) same))
  ] refl

  fits_changed : (s : Store) (count more : ℕ) → Fits s count t (suc more) → Fits s count (with_change name change t) more
  fits_changed s count more fits has =
      let so = fits has in
      let grown = grows (le_cell t (omega (arith, so.1))) in
      (grown.same ∙ so.0, omega (arith, grown.longer, so.1))
    where
      le_cell : (u : Store) → length u.records < half_cells → store_has_cell u ≡ true
      le_cell u room = lt-ltb (length u.records) half_cells room

-- ---- one step

-- it is on the second store, which has come from the first
pub record IsFramed (s : Store) (base : List ℕ) (t : Store) (c : CoreState) : Type 0 where
  pub on : IsOn t c
  pub slots_are : t.slots ≡ s.slots
  pub rises : s.selector.generation ≤ t.selector.generation
  pub more : t.selector ≡ s.selector → length s.records ≤ length t.records
  pub held : (slot : ℕ) (h : HeaderValue) → slice_get s.held slot ≡ Some (Some h) → slice_get t.held slot ≡ Some (Some h)
  pub content : KnownWith c.disk.content (AddsBytes s t base)
  pub journal : HasJournal s base → StandsFor (HasJournal t) c.disk

-- each image of a settled disk has the journal of its content
has_settled : (t : Store) (v : DiskView) (slots : ℕ) (bytes : List ℕ) → v.content ≡ Some bytes → IsSettled slots v → HasJournal t bytes → StandsFor (HasJournal t) v
has_settled t v slots bytes told calm has = record {
  known = (bytes, told);
  each = λ c image. has_kept t bytes c (λ p n within. (calm bytes told c image).before p n (omega (arith, within))) has;
}

-- where a step leads
pub record Leads (s : Store) (base : List ℕ) (changes : List StoreChange) (t : Store) (c : CoreState) : Type 0 where
  pub after : Store
  pub chain : ChangesTo changes t after
  pub framed : IsFramed s base after c
  pub fits : (count more : ℕ) → Fits s count t (names_in changes + more) → Fits s count after more

module _ (s : Store) (base : List ℕ) (t : Store) (old new : CoreState) (framed : IsFramed s base t old) where
  abbrev given : List ℕ
  given = framed.content.0

  abbrev known : old.disk.content ≡ Some given
  known = framed.content.1

  abbrev Same : ℕ → Type 0
  Same slot = slice_get t.held slot ≡ slice_get s.held slot

  -- the same selector counts as first
  abbrev Still : Type 0
  Still = t.selector ≡ s.selector

  abbrev Was : ℕ → Type 0
  Was = HadContainer s

  abbrev place : ℕ
  place = first_free t.held

  some : 1 ≤ free_slots t.held
  some = framed.on.has_free

  tables_slots : old.tables.slots ≡ s.slots
  tables_slots = framed.on.represents.slots_are ∙ framed.slots_are

  settled : IsSettled s.slots old.disk
  settled = subst (λ (n : ℕ). IsSettled n old.disk) tables_slots framed.on.settled

  -- the journal of the content
  given_has : HasJournal s base → HasJournal t given
  given_has has = stands_content (HasJournal t) old.disk (framed.journal has) given known

  -- a content of the same cells before the slots, of a settled disk
  has_still : (bytes : List ℕ) → new.disk.content ≡ Some bytes → IsSettled old.tables.slots new.disk → SameTo FIRST_SLOT given bytes → HasJournal s base
      → StandsFor (HasJournal t) new.disk
  has_still bytes told calm same has = has_settled t new.disk old.tables.slots bytes told calm (has_kept t given bytes same (given_has has))

  -- each image is the content, in what counts
  image_adds : (c : List ℕ) → old.disk.images c → AddsBytes s t base c
  image_adds c image = keeps_counted s base (length t.records) Still Same given framed.content.2 c (settled given known c image)

  -- a slot that held a container is none of those that were closed
  not_taken : (id : ℕ) (cs : List Contents) (slot : ℕ) → Was slot → IsOutOf (slots_of (in_free id cs t)) slot
  not_taken id cs slot was =
      out_of_closed t.held (slots_of (in_free id cs t)) (slots_closed id cs t) slot (λ none. some_not_none was.0 (sym (framed.held slot was.0 was.1) ∙ none))

  frame_of : (taken : List ℕ) → ChangesSlotsAlone old.tables.slots taken old.disk new.disk → ChangesSlotsAlone s.slots taken old.disk new.disk
  frame_of taken frame = subst (λ (n : ℕ). ChangesSlotsAlone n taken old.disk new.disk) tables_slots frame

  abbrev journal : JournalValue
  journal = old.tables.journal

  low : journal.half ≤ 1
  low = subst (λ (n : ℕ). n ≤ 1) (sym framed.on.represents.names_are.half) framed.on.valid.selector_right.half

  cells_same : has_cell journal ≡ store_has_cell t
  cells_same = same_cell t old.tables framed.on.represents.names_are

  -- all but the bytes of a record
  abbrev SameButOne : List ℕ → List ℕ → Type 0
  SameButOne = SameButRecord journal

  -- of the journal, where a cell is free: that cell alone
  next_put : (end : ℕ) → Still → store_has_cell t ≡ true → length t.records < end → (d c : List ℕ) → KeepsJournal s end base d → SameButOne d c → KeepsJournal s end base c
  next_put end still free before d c keeps same =
      let next : SameButNext journal d c = subst (λ (b : Bool). SameButRecordBy b journal d c) (cells_same ∙ free) same in
      let count = framed.on.represents.names_are.count in
      journal_put s base end journal.half journal.count d c (framed.on.represents.names_are.half ∙ ap (λ (x : SelectorValue). x.half) still) low
      (omega (arith, count, framed.more still)) (omega (arith, count, before)) (count_of_cell journal (cells_same ∙ free)) next keeps

  -- ---- at any moment of a run of so many commands

  module _ (count left : ℕ) (fits : Fits s count t left) where
    abbrev Written : List ℕ → Type 0
    Written = KeepsWritten s count base

    adds_written : (c : List ℕ) → AddsBytes s t base c → Written c
    adds_written c adds =
        keeps_fewer s base (length t.records) Still Same c adds half_cells (HasCellsFor s count) Was (λ has. ((fits has).0, framed.on.valid.few))
        (λ slot was. framed.held slot was.0 was.1 ∙ sym was.1)

    image_written : (c : List ℕ) → old.disk.images c → Written c
    image_written c image = adds_written c (image_adds c image)

    by_reads : OnlyReads old.disk new.disk → CrashLeaves Written old.disk new.disk
    by_reads reads = reads_leave Written old.disk new.disk image_written reads

    by_seal : (offered : List Contents) (answer : Result Answer Refusal) → SealsSome offered answer old new → CrashLeaves Written old.disk new.disk
    by_seal offered answer effect =
        let n : ℕ = sealed_of (length offered) (free_slots t.held) old.tables.held.last_id in
        let taken : List ℕ = slots_of (offer_in old.tables offered t) in
        let frame = frame_of taken (effect.moves.frame.store_has t framed.on.represents framed.on.valid framed.on.has_free) in
        leaves_weaker (SameButSlotsOf s.slots taken given) Written old.disk new.disk
        (λ c same. keeps_sealed s base half_cells (HasCellsFor s count) Was given (adds_written given framed.content.2) taken c
        (not_taken (next_id old) (take n offered)) same)
        (frame.settled settled given known).1

    record_written : 1 ≤ left → (d c : List ℕ) → Written d → SameButOne d c → Written c
    record_written some_left d c keeps same =
        keeps_record s base half_cells (HasCellsFor s count) Was d keeps half_cells (HasCellsFor s count) c (record_alone journal d c low same)
        (λ has. let so = fits has in
        let room : length t.records < half_cells = omega (arith, so.1, some_left) in
        next_put half_cells so.0 (lt-ltb (length t.records) half_cells room) room d c (keeps.journal has) same)

    by_name : (name : List ℕ) (change : Change) (answer : Result Answer Refusal) → 1 ≤ left → NamesOne name change answer old new → CrashLeaves Written old.disk new.disk
    by_name name change answer some_left effect =
        leaves_weaker (SteppedFrom (ChangesBytes old.tables name change given) old.disk) Written old.disk new.disk
        (λ c from. elim from [
          | inl image ↦ image_written c image
          | inr step ↦ record_written some_left step.0 c (image_written step.0 step.1) step.2.same
        ]) (effect.frame.leaves given known)

    by_effect : (step : StepValue) (answer : Result Answer Refusal) → IsNoGcStep step → commands_of step ≤ left → Effect step answer old new → CrashLeaves Written old.disk new.disk
    by_effect (asked.Seal offered) answer other few effect = by_seal offered answer effect
    by_effect (asked.Commit name root) answer other few effect = by_name name (Put root) answer few effect
    by_effect (asked.Delete name) answer other few effect = by_name name Delete answer few effect
    by_effect asked.GcStep answer other few effect = absurd other
    by_effect it answer other few effect = by_reads effect.disk.only

    step_leaves : (e : Event) (stop : Option Stop) → IsNoGcStep e.step → commands_of e.step ≤ left → StepsOr stop e old new → CrashLeaves Written old.disk new.disk
    step_leaves e None other few steps = by_effect e.step e.answer other few steps.made.effect
    step_leaves e (Some stop) other few steps = by_reads steps.same.disk.only

  -- ---- at the end of a step that doesn't stop the core

  module _ (stays : new.stop ≡ None) where
    -- in what counts the disk has not changed
    abbrev Counts : Type 0
    Counts = KnownWith new.disk.content (SameBefore (slot_at s.slots) given)

    new_slots : Represents t new.known new.tables → old.tables.slots ≡ new.tables.slots
    new_slots represents = framed.on.represents.slots_are ∙ sym represents.slots_are

    still : KeepsTables old new → IsLater old.disk new.disk → Counts → IsSettled old.tables.slots new.disk → Leads s base [] t new
    still kept later counts calm =
        let represents : Represents t new.known new.tables =
        subst (λ (known : Option PlaceMap). Represents t known new.tables) (sym kept.index_is)
        (subst (λ (tables : Tables). Represents t old.known tables) (sym kept.tables_are) framed.on.represents) in
        record {
          after = t;
          chain = refl;
          framed = record {
            on = record {
              represents = represents;
              valid = subst (λ (size : ℕ). IsValidFor size t) (sym later.size_is) framed.on.valid;
              has_free = framed.on.has_free;
              settled = subst (λ (n : ℕ). IsSettled n new.disk) (new_slots represents) calm;
            };
            slots_are = framed.slots_are;
            rises = framed.rises;
            more = framed.more;
            held = framed.held;
            content = (counts.0, counts.1, keeps_counted s base (length t.records) Still Same given framed.content.2 counts.0 counts.2);
            journal = has_still counts.0 counts.1 calm (λ p n within. counts.2.before p n (omega (arith, within)));
          };
          fits = λ count more fits. fits_fewer s count t (names_in [] + more) more (omega arith) fits;
        }

    reads_count : OnlyReads old.disk new.disk → Counts
    reads_count reads = (given, reads.content_is ∙ known, record { size = refl; before = λ p n within. refl })

    both_count : IsLater old.disk new.disk → Both (SameBefore (slot_at old.tables.slots)) old.disk.content new.disk.content → Counts
    both_count later both =
        let now = later.tells given known in
        let from = subst (λ (o : Option (List ℕ)). Both (SameBefore (slot_at old.tables.slots)) o new.disk.content) known both in
        let same = subst (λ (o : Option (List ℕ)). Both (SameBefore (slot_at old.tables.slots)) (Some given) o) now.1 from in
        (now.0, now.1, subst (λ (n : ℕ). SameBefore (slot_at n) given now.0) tables_slots same)

    rests : (answer : Result Answer Refusal) → Rests answer old new → IsSettled old.tables.slots new.disk → Leads s base [] t new
    rests answer effect calm = still effect.tables effect.disk.only.later (reads_count effect.disk.only) calm

    unsealed_counts : (offered : List Contents) (refusal : Refusal) → StopsAfter (asked.Seal offered) (Err refusal) old.acknowledged new.stop → IsLater old.disk new.disk
        → Left old.tables.slots (ending_of (blames refusal)) old.disk new.disk → Counts
    unsealed_counts offered refusals.DiskWrite stops later left = absurd (let both = sym stays ∙ stops in cc)
    unsealed_counts offered refusals.DiskRead stops later left = both_count later left.content_is
    unsealed_counts offered refusal stops later left = both_count later left.content_is

    -- containers are added
    module _ (offered : List Contents) (id count actor : ℕ) (row : AreSealed offered id count actor old new) (effect : SealsSome offered (Ok (answers.Sealed id count)) old new)
        (calm : IsSettled old.tables.slots new.disk) where
      abbrev cs : List Contents
      cs = take count offered

      abbrev after : Store
      after = changed_by (seals_from (next_id old) cs) t

      lead : ChangesTo (seals_from (next_id old) cs) t after
      lead = effect.made.can.store_has t framed.on.represents framed.on.valid framed.on.has_free

      represents : Represents after new.known new.tables
      represents = effect.made.represents.store_has t framed.on.represents framed.on.valid framed.on.has_free

      abbrev taken : List ℕ
      taken = slots_of (in_free (next_id old) cs t)

      -- they are those for which there is room
      frame : ChangesSlotsAlone s.slots taken old.disk new.disk
      frame = subst (λ (n : ℕ). ChangesSlotsAlone s.slots (slots_of (in_free (next_id old) (take n offered) t)) old.disk new.disk)
          (sym ((row.room old.disk.size old.known).store_has t framed.on.represents framed.on.valid framed.on.has_free))
          (frame_of (slots_of (offer_in old.tables offered t)) (effect.moves.frame.store_has t framed.on.represents framed.on.valid framed.on.has_free))

      left : KnownWith new.disk.content (SameButSlotsOf s.slots taken given)
      left = (frame.settled settled given known).0

      -- the slot holds what it held first, once they are in
      abbrev Now : ℕ → Type 0
      Now slot = slice_get after.held slot ≡ slice_get s.held slot

      now_other : (slot : ℕ) → Now slot → IsOutOf taken slot
      now_other slot now i other here same =
          let filled = slots_filled (next_id old) cs t after lead i other here in
          let has : slice_get s.held slot ≡ Some (Some filled.0) = sym now ∙ ap (slice_get after.held) same ∙ filled.1 in
          some_not_none filled.0 (sym (framed.held slot filled.0 has) ∙ ap (slice_get t.held) same ∙ slots_closed (next_id old) cs t i other here)

      -- nothing else of the store is another
      rest : after ≡ record t { held = after.held }
      rest = rest_on (next_id old) cs t after lead

      along_selector : after.selector ≡ s.selector → t.selector ≡ s.selector
      along_selector so = sym (ap (λ (u : Store). u.selector) rest) ∙ so

      records_same : length after.records ≡ length t.records
      records_same = ap (λ (u : Store). length u.records) rest

      adds : AddsBytes s after base left.0
      adds = keeps_sealed s base (length after.records) (after.selector ≡ s.selector) Now given
          (keeps_fewer s base (length t.records) Still Same given framed.content.2 (length after.records) (after.selector ≡ s.selector) Now
          (λ so. (along_selector so, omega (arith, records_same)))
          (λ slot now. sym (slots_other (next_id old) cs t after lead slot (now_other slot now)) ∙ now)) taken left.0 now_other left.2

      on_after : IsOn after new
      on_after = record {
        represents = represents;
        valid = effect.made.valid.store_has t framed.on.represents framed.on.valid framed.on.has_free;
        has_free =
            let room = room_left (next_id old) cs t after (sealed_some offered id count actor old new row) lead in omega (arith, room);
        settled = subst (λ (n : ℕ). IsSettled n new.disk)
            (framed.on.represents.slots_are ∙ sym (ap (λ (u : Store). u.slots) rest) ∙ sym represents.slots_are) calm;
      }

      framed_after : IsFramed s base after new
      framed_after = record {
        on = on_after;
        slots_are = ap (λ (u : Store). u.slots) rest ∙ framed.slots_are;
        rises = omega (arith, framed.rises, ap (λ (u : Store). u.selector.generation) rest);
        more = λ so. let few = framed.more (along_selector so) in omega (arith, few, records_same);
        held = λ slot g is. (comes_all (next_id old) cs t after lead).stand slot g (framed.held slot g is);
        content = (left.0, left.1, adds);
        journal = λ has.
            stands_weaker (HasJournal t) (HasJournal after) new.disk
            (λ c so. subst (λ (u : Store). HasJournal u c) (sym rest) (record { holds = so.holds; other = so.other }))
            (has_still left.0 left.1 calm
            (λ p n within. left.2.same p n (λ i other here. inl (omega (arith, within)), omega (arith, within))) has);
      }

      seals : Leads s base (seals_from (id + 1 - count) cs) t new
      seals = subst (λ (n : ℕ). Leads s base (seals_from n cs) t new) (sym (sealed_first offered id count actor old new row)) (record {
        after = after;
        chain = lead;
        framed = framed_after;
        fits = λ many more fits. subst (λ (u : Store). Fits s many u more) (sym rest)
            (fits_fewer s many t (names_in (seals_from (next_id old) cs) + more) more (omega arith) fits);
      })

    -- a record is added
    module _ (name : List ℕ) (change : Change) where
      abbrev later_store : Store
      later_store = with_change name change t

      -- in a free cell, where the same selector counts
      along : later_store.selector ≡ s.selector → Grows name change t × (t.selector ≡ s.selector)
      along so = let grown = grows name change t (had_cell name change t s framed.rises so) in (grown, sym grown.same ∙ so)

      record_adds : (d c : List ℕ) → AddsBytes s t base d → SameButOne d c → AddsBytes s later_store base c
      record_adds d c adds same =
          keeps_record s base (length t.records) Still Same d adds (length later_store.records) (later_store.selector ≡ s.selector) c (record_alone journal d c low same)
          (λ so. let grown = along so in
          next_put (length later_store.records) grown.1 grown.0.free (omega (arith, grown.0.longer)) d c
          (journal_fewer s base (length t.records) (length later_store.records) d (omega (arith, grown.0.longer)) (adds.journal grown.1)) same)

      image_more : (c : List ℕ) → old.disk.images c → AddsBytes s later_store base c
      image_more c image =
          keeps_fewer s base (length t.records) Still Same c (image_adds c image) (length later_store.records) (later_store.selector ≡ s.selector) Same
          (λ so. let grown = along so in (grown.1, omega (arith, grown.0.longer))) (λ slot same. same)

      names : (answer : Answer) → NamesOne name change (Ok answer) old new → IsSettled old.tables.slots new.disk → Leads s base (ChangeName name change ∷ []) t new
      names answer effect calm =
          let made = effect.made in
          let represents = made.represents.store_has t framed.on.represents framed.on.valid framed.on.has_free in
          let now = effect.disk.later.tells given known in
          let at_end = λ (c : List ℕ) (from : SteppedFrom (ChangesBytes old.tables name change given) old.disk c). elim from as (λ _. AddsBytes s later_store base c) [
            | inl image ↦ image_more c image
            | inr step ↦ record_adds step.0 c (image_adds step.0 step.1) step.2.same
          ] in
          record {
            after = later_store;
            chain = made.can.store_has t framed.on.represents framed.on.valid framed.on.has_free;
            framed = record {
              on = record {
                represents = represents;
                valid = made.valid.store_has t framed.on.represents framed.on.valid framed.on.has_free;
                has_free = framed.on.has_free;
                settled = subst (λ (n : ℕ). IsSettled n new.disk) (framed.on.represents.slots_are ∙ sym represents.slots_are) calm;
              };
              slots_are = framed.slots_are;
              rises = omega (arith, framed.rises, rises_on name change t);
              more = λ so. let grown = along so in omega (arith, framed.more grown.1, grown.0.longer);
              held = framed.held;
              content = (now.0, now.1, at_end now.0 ((effect.frame.leaves given known).now now.0 (new.disk.as_read now.0 now.1)));
              journal = λ has. (effect.moves.journal t framed.on.represents.names_are (framed.journal has)).arrives;
            };
            fits = λ count more fits. fits_changed name change t s count more (fits_fewer s count t (names_in (ChangeName name change ∷ []) + more) (suc more) (omega arith) fits);
          }

    leads : (actor : ℕ) (buf : List ℕ) (step : StepValue) (answer : Result Answer Refusal) → IsNoGcStep step → Row step actor answer buf old new → Effect step answer old new
        → StopsAfter step answer old.acknowledged new.stop
        → IsSettled old.tables.slots new.disk → Leads s base (changes_by step answer) t new
    leads actor buf asked.Begin answer other row effect stops calm = rests answer effect calm
    leads actor buf (asked.Claim seg) answer other row effect stops calm = rests answer effect calm
    leads actor buf (asked.Seal offered) (Ok (answers.Sealed id count)) other row effect stops calm = seals offered id count actor row effect calm
    leads actor buf (asked.Seal offered) (Ok answer) other row effect stops calm = absurd row
    leads actor buf (asked.Seal offered) (Err refusal) other row effect stops calm =
        still (seal_kept old new stays offered refusal old.acknowledged stops effect.kept) effect.disk.later
        (unsealed_counts offered refusal stops effect.disk.later effect.disk.left) calm
    leads actor buf (asked.Commit name root) (Ok (answers.Committed sequence)) other row effect stops calm = names name (Put root) (answers.Committed sequence) effect calm
    leads actor buf (asked.Commit name root) (Ok answer) other row effect stops calm = absurd row
    leads actor buf (asked.Commit name root) (Err refusal) other row effect stops calm =
        still effect.kept effect.disk.later (reads_count (only_reads old new stays (asked.Commit name root) refusal stops effect.disk.ends)) calm
    leads actor buf asked.Abort answer other row effect stops calm = rests answer effect calm
    leads actor buf (asked.OpenRead name) answer other row effect stops calm = rests answer effect calm
    leads actor buf asked.ReadNext answer other row effect stops calm = rests answer effect calm
    leads actor buf asked.EndRead answer other row effect stops calm = rests answer effect calm
    leads actor buf (asked.Delete name) (Ok (answers.Deleted sequence)) other row effect stops calm = names name Delete (answers.Deleted sequence) effect calm
    leads actor buf (asked.Delete name) (Ok answer) other row effect stops calm = absurd row
    leads actor buf (asked.Delete name) (Err refusal) other row effect stops calm =
        still effect.kept effect.disk.later (reads_count (only_reads old new stays (asked.Delete name) refusal stops effect.disk.ends)) calm
    leads actor buf asked.GcStep answer other row effect stops calm = absurd other
    leads actor buf it answer other row effect stops calm = rests answer effect calm

    pub step_leads : (e : Event) → IsNoGcStep e.step → Steps e old new → Leads s base (changes_by e.step e.answer) t new
    step_leads e other steps =
        leads e.actor e.buf e.step e.answer other steps.made.row steps.made.effect steps.stops
        (effect_settled old new stays given known framed.on.settled e.step e.answer other steps.stops steps.made.effect)

-- ---- a run

-- where a run leads
record LeadsOn (s : Store) (base : List ℕ) (changes : List StoreChange) (t : Store) (c : CoreState) : Type 0 where
  pub after : Store
  pub chain : ChangesTo changes t after
  pub framed : IsFramed s base after c

module _ (C : Type 0) (state : C → CoreState) where
  module _ (s : Store) (base : List ℕ) where
    run_leads : (steps : List FileEvent) (t : Store) (old new : C) → IsFramed s base t (state old) → CoreRun C state (events_of steps) old new → AreNoGcSteps (events_of steps)
        → (state new).stop ≡ None → LeadsOn s base (changes_of steps) t (state new)
    run_leads [] t old new framed run others stays = record { after = t; chain = refl; framed = subst (λ (c : C). IsFramed s base t (state c)) (sym run) framed }
    run_leads (f ∷ fs) t old new framed run others stays =
        let e : Event = f.event in
        let mid = run.0 in
        let going = runs_before C state (events_of fs) mid new run.1.1 stays in
        let was = was_running (state old).stop e (state old) (state mid) refl run.1.0 going in
        let next = step_leads s base t (state old) (state mid) framed going e others.0 (running_step (state old) (state mid) e was run.1.0) in
        let rest = run_leads fs next.after mid new next.framed run.1.1 others.1 stays in
        record { after = rest.after; chain = chain_on (changes_by e.step e.answer) (changes_of fs) t next.after rest.after next.chain rest.chain; framed = rest.framed }

    module _ (count : ℕ) where
      abbrev LeavesWritten : C → C → Type 0
      LeavesWritten old new = CrashLeaves (KeepsWritten s count base) (state old).disk (state new).disk

      -- a step, and what follows where it didn't stop the core
      after_step : (e : Event) (es : List Event) (t : Store) (old mid new : C) → IsNoGcStep e.step → IsFramed s base t (state old)
          → Fits s count t (commands_of e.step + commands_in es) → CoreStep (state old) e (state mid) → CoreRun C state es mid new
          → ((u : Store) → IsFramed s base u (state mid) → Fits s count u (commands_in es) → LeavesWritten mid new) → (stop : Option Stop) → (state mid).stop ≡ stop
          → LeavesWritten old new
      after_step e es t old mid new other framed fits step run others None is =
          let was = was_running (state old).stop e (state old) (state mid) refl step is in
          let next = step_leads s base t (state old) (state mid) framed is e other (running_step (state old) (state mid) e was step) in
          let rest = next.fits count (commands_in es)
          (fits_fewer s count t (commands_of e.step + commands_in es) (names_in (changes_by e.step e.answer) + commands_in es)
          (omega (arith, few_names e.step e.answer)) fits) in
          leaves_on (KeepsWritten s count base) (KeepsWritten s count base) (KeepsWritten s count base) (state old).disk (state mid).disk (state new).disk
          (step_later (state old) (state mid) e (state old).stop step).clock_is
          (step_leaves s base t (state old) (state mid) framed count (commands_of e.step + commands_in es) fits e (state old).stop other (omega arith) step)
          (others next.after next.framed rest) (λ c keeps. keeps) (λ c keeps. keeps)
      after_step e es t old mid new other framed fits step run others (Some stop) is =
          let first = step_leaves s base t (state old) (state mid) framed count (commands_of e.step + commands_in es) fits e (state old).stop other (omega arith) step in
          leaves_on (KeepsWritten s count base) (KeepsWritten s count base) (KeepsWritten s count base) (state old).disk (state mid).disk (state new).disk
          (step_later (state old) (state mid) e (state old).stop step).clock_is
          first (reads_leave (KeepsWritten s count base) (state mid).disk (state new).disk first.now (stopped_reads C state stop es mid new is run)) (λ c keeps. keeps)
          (λ c keeps. keeps)

      run_leaves : (events : List Event) (t : Store) (old new : C) → AreNoGcSteps events → IsFramed s base t (state old) → Fits s count t (commands_in events)
          → CoreRun C state events old new → LeavesWritten old new
      run_leaves [] t old new others framed fits run =
          reads_leave (KeepsWritten s count base) (state old).disk (state new).disk (image_written s base t (state old) (state old) framed count 0 fits)
          (subst (λ (c : C). OnlyReads (state old).disk (state c).disk) (sym run) (reads_here (state old).disk))
      run_leaves (e ∷ es) t old new others framed fits run =
          after_step e es t old run.0 new others.0 framed fits run.1.0 run.1.1 (λ u there rest. run_leaves es u run.0 new others.1 there rest run.1.1) (state run.0).stop refl

-- where it begins
pub begins : (s : Store) (base : List ℕ) (c : CoreState) → IsOn s c → c.disk.content ≡ Some base → IsFramed s base s c
begins s base c on told = record {
  on = on;
  slots_are = refl;
  rises = omega arith;
  more = λ so. omega arith;
  held = λ slot h is. is;
  content = (base, told, keeps_here s base (length s.records) (s.selector ≡ s.selector) (λ slot. slice_get s.held slot ≡ slice_get s.held slot));
  journal = has_settled s c.disk c.tables.slots base told on.settled;
}

-- a core that is at a store is on it
pub at_on : (S : List ℕ → Type 0) (s : Store) (stored : Stored) (c : CoreState) → IsAt S s stored c → IsSettled c.tables.slots c.disk → IsOn s c
at_on S s stored c at calm = record {
  represents = at.represents;
  valid = at.valid;
  has_free = (at.invariant at.stands.known.0 at.stands.known.1).has_free;
  settled = calm;
}

module _ (C : Type 0) (state : C → CoreState) where
  pub adds_alone : AddsAlone C state
  adds_alone steps s base old new on told run others stays =
      let end = run_leads C state s base steps s old new (begins s base (state old) on told) run others stays in
      record { store = end.after; chain = end.chain; on = end.framed.on; held = end.framed.held; content = end.framed.content; journal = end.framed.journal }

  pub written_stays : WrittenStays C state
  written_stays events s base old new on told run others =
      let leaves = run_leaves C state s base (commands_in events) events s old new others (begins s base (state old) on told) (λ has. (refl, has)) run in
      let now = (run_later C state events old new run).tells base told in
      ((now.0, now.1, leaves.now now.0 ((state new).disk.as_read now.0 now.1)), leaves)
