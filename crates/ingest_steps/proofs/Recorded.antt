-- A record that is written with a checkpoint before it, and the tables that have it.
use Rattle.ingest_steps.proofs.Prelude.{◌≡◌, inl, inr, ℕ, suc, ◌+◌, ◌-◌, ◌<◌, Bool, true, false, List, [], ◌∷◌, length, refl, sym, ◌∙◌, ap, subst, arith, Change, RecordValue, half_cells, DiskView, SteppedFrom, Ending, Done, Broken, Writes, leaves_weaker, NameMap, names_with, puts_of, Appends, IsAppended, Checkpoints, IsCheckpointed, checkpointed, JournalValue, IsTold, Store, record_of, with_cell, with_checkpoint, with_change, store_has_cell, cell_here, cell_anew, Tables, RepresentsNames, record_after_last, tables_with, RecordsBy, IsRecordedBy, Records, IsRecorded, has_cell}
use Rattle.std.proofs.Common.{max, if◌then◌else◌, length-append}
use Rattle.std.specs.Prelude.{nat_lt}
use Rattle.std.proofs.lemmas.Bool.{ltb-true, lt-ltb}
use Rattle.std.specs.FinMap as finite
use Rattle.dd_disk.proofs.Writes.{IsUnrefused, writes_on}
use Rattle.store_model.specs.Journal.{Follow, last_of}
use Rattle.store_model.specs.Image.{last_sequence}
use Rattle.store_model.proofs.Cells.{last_with_cell}
use Rattle.store_model.proofs.NameChanges.{last_appended}
use Rattle.store_model.proofs.Puts.{puts_leave}
use Rattle.store_model.proofs.Records.{last_of_push, names_after_push}
use Rattle.ingest_steps.specs.Recording.{journal_with_cell}

-- ---- what is written

module _ (names : NameMap) (journal : JournalValue) (r : RecordValue) (e : Ending) (old new : DiskView) where
  -- both
  pub both_written : (mid : DiskView) → (checkpointed names journal).count < half_cells → Writes (Checkpoints journal names) (IsCheckpointed journal names) Done old mid
      → IsUnrefused e
      → Writes (Appends (checkpointed names journal) r) (IsAppended (checkpointed names journal) r) e mid new
      → Writes (RecordsBy false names journal r) (IsRecordedBy false names journal r) e old new
  both_written mid room first un second =
      writes_on (Checkpoints journal names) (Appends (checkpointed names journal) r) (RecordsBy false names journal r) (IsCheckpointed journal names)
      (IsAppended (checkpointed names journal) r) (IsRecordedBy false names journal r) old mid new first
      (λ given m c known is rest. record { mid = m; is = is; room = room; appended = rest }) e un second
      (λ given d c known is. inl is) (λ given m c known is after. inr (record { mid = m; is = is; room = room; appends = after }))

  -- the same by whether the half is full
  pub records_by : (free : Bool) → has_cell journal ≡ free → Writes (RecordsBy free names journal r) (IsRecordedBy free names journal r) e old new
      → Writes (Records names journal r) (IsRecorded names journal r) e old new
  records_by free is writes = subst (λ (b : Bool). Writes (RecordsBy b names journal r) (IsRecordedBy b names journal r) e old new) (sym is) writes

-- the checkpoint broke
pub checkpoint_broke : (names : NameMap) (journal : JournalValue) (r : RecordValue) (old new : DiskView)
    → Writes (Checkpoints journal names) (IsCheckpointed journal names) Broken old new
    → Writes (RecordsBy false names journal r) (IsRecordedBy false names journal r) Broken old new
checkpoint_broke names journal r old new writes = record {
  later = writes.later;
  steps = λ given known. leaves_weaker (SteppedFrom (Checkpoints journal names given) old) (SteppedFrom (RecordsBy false names journal r given) old) old new (λ c from. elim from [
    | inl same ↦ inl same
    | inr stepped ↦ inr (stepped.0, stepped.1, inl stepped.2)
  ]) (writes.steps given known);
  written = tt;
  faults_are = writes.faults_are;
}

-- ---- the journal with a free cell

pub count_of_cell : (journal : JournalValue) → has_cell journal ≡ true → journal.count < half_cells
count_of_cell journal free = ltb-true journal.count half_cells free

pub cell_of_count : (journal : JournalValue) → journal.count < half_cells → has_cell journal ≡ true
cell_of_count journal room = lt-ltb journal.count half_cells room

module _ (names : NameMap) (journal : JournalValue) where
  pub journal_here : has_cell journal ≡ true → journal_with_cell names journal ≡ journal
  journal_here is = ap (λ (b : Bool). if b then journal else checkpointed names journal) is

  pub journal_anew : has_cell journal ≡ false → journal_with_cell names journal ≡ checkpointed names journal
  journal_anew is = ap (λ (b : Bool). if b then journal else checkpointed names journal) is

-- ---- whose it is

module _ (store : Store) (t : Tables) (keeps : RepresentsNames store t) where
  -- the store has a free cell where its journal has
  pub same_cell : has_cell t.journal ≡ store_has_cell store
  same_cell = ap (λ (n : ℕ). nat_lt n half_cells) keeps.count

  module _ (follow : Follow 0 finite.empty store.records) where
    pub checkpoint_told : IsTold true (with_checkpoint store).selector (with_checkpoint store).records (checkpointed t.names t.journal) t.names
        (checkpointed t.names t.journal).last
    checkpoint_told = record {
      half = ap (λ (h : ℕ). 1 - h) keeps.half;
      generation = ap (λ (g : ℕ). g + 1) keeps.generation;
      other = refl;
      count = ap (λ (n : NameMap). length (puts_of n)) keeps.names_are;
      previous = ap (λ (n : NameMap). last_of 0 (puts_of n)) keeps.names_are;
      names_are = keeps.names_are ∙ sym (puts_leave store.records follow);
      journal_last = refl;
      last_is = ap (λ (l : ℕ). max l (last_of 0 (puts_of t.names))) keeps.last_is ∙ ap (λ (n : NameMap). max (last_sequence store) (last_of 0 (puts_of n))) keeps.names_are;
    }

    pub cell_told : IsTold (with_cell store).other_open (with_cell store).selector (with_cell store).records (journal_with_cell t.names t.journal) t.names
        (journal_with_cell t.names t.journal).last
    cell_told = elim (store_has_cell store) as (λ b. store_has_cell store ≡ b
        → IsTold (with_cell store).other_open (with_cell store).selector (with_cell store).records (journal_with_cell t.names t.journal) t.names
        (journal_with_cell t.names t.journal).last) [
          | true ↦ λ is.
              subst (λ (s : Store). IsTold s.other_open s.selector s.records (journal_with_cell t.names t.journal) t.names (journal_with_cell t.names t.journal).last)
              (sym (cell_here store is))
              (subst (λ (j : JournalValue). IsTold store.other_open store.selector store.records j t.names j.last) (sym (journal_here t.names t.journal (same_cell ∙ is))) keeps)
          | false ↦ λ is.
              subst (λ (s : Store). IsTold s.other_open s.selector s.records (journal_with_cell t.names t.journal) t.names (journal_with_cell t.names t.journal).last)
              (sym (cell_anew store is))
              (subst (λ (j : JournalValue). IsTold true (with_checkpoint store).selector (with_checkpoint store).records j t.names j.last)
              (sym (journal_anew t.names t.journal (same_cell ∙ is))) checkpoint_told)
        ] refl

    module _ (name : List ℕ) (change : Change) where
      -- the record is that of the store
      pub record_same : record_after_last t name change ≡ record_of name change (with_cell store)
      record_same = ap (λ (n : ℕ). record { sequence = suc n; name = name; change = change }) (keeps.last_is ∙ sym (last_with_cell store follow))

      pub names_told : RepresentsNames (with_change name change store) (tables_with (record_after_last t name change) t)
      names_told =
          let base : Store = with_cell store in record {
            half = cell_told.half;
            generation = cell_told.generation;
            other = cell_told.other;
            count = omega (arith, cell_told.count, length-append base.records (record_of name change base ∷ []));
            previous = ap (λ (r : RecordValue). r.sequence) record_same ∙ sym (last_of_push 0 base.records (record_of name change base));
            names_are = ap (λ (r : RecordValue). names_with r t.names) record_same ∙ ap (names_with (record_of name change base)) cell_told.names_are
                ∙ sym (names_after_push base.records (record_of name change base) finite.empty);
            journal_last = refl;
            last_is = ap (λ (r : RecordValue). r.sequence) record_same ∙ sym (last_appended name change base);
          }
