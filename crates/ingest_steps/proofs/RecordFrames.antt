-- What a record that is written makes of the bytes.
use Rattle.ingest_steps.proofs.Prelude.{◌≡◌, inl, inr, ℕ, ◌-◌, ◌^◌, ◌<◌, ◌≤◌, Bool, true, false, List, Some, refl, sym, ◌∙◌, subst, arith, Change, RecordValue, half_cells, DiskView, OnlyReads, IsDurable, CrashLeaves, SteppedFrom, Ending, Done, Broken, ending_of, Writes, leaves_weaker, reads_here, reads_leave, NameMap, SameButNext, Appends, SameButHalf, checkpointed, JournalValue, SameButJournal, MayChange, HasNumbers, IsWriteRefusal, record_after_last, RecordsBy, IsRecordedBy, Records, IsRecorded, has_cell, Refusal, Memory, Numbers, DiskWrite, Tables}
use Rattle.ingest_steps.proofs.Recorded.{count_of_cell}
use Rattle.ingest_steps.proofs.Renewed.{next_alone, half_alone}
use Rattle.ingest_steps.proofs.Named.{can_change, journal_between}
use Rattle.ingest_steps.specs.Naming.{ChangesBytes, ChangesJournalAlone}
use Rattle.ingest_steps.specs.Recording.{SameButRecordBy, SameButRecord, KeepsButRecord}
use Rattle.store_state.specs.Refused.{blames}

half_on : (half : ℕ) (old mid new : List ℕ) → SameButHalf half old mid → SameButHalf half mid new → SameButHalf half old new
half_on half old mid new first second = record {
  size = second.size ∙ first.size;
  same = λ p n outside apart. second.same p n outside apart ∙ first.same p n outside apart;
}

-- a cell of the new half
next_in : (names : NameMap) (journal : JournalValue) (old new : List ℕ) → (checkpointed names journal).count < half_cells → SameButNext (checkpointed names journal) old new
    → SameButHalf (1 - journal.half) old new
next_in names journal old new room same = record {
  size = same.size;
  same = λ p n outside apart. elim apart [ inl before ↦ same.before p n (omega (arith, before)) | inr after ↦ same.after p n (omega (arith, after, room)) ];
}

same_here : (free : Bool) (journal : JournalValue) (bytes : List ℕ) → SameButRecordBy free journal bytes bytes
same_here true journal bytes = record { size = refl; before = λ p n within. refl; after = λ p n above. refl }
same_here false journal bytes = record { size = refl; same = λ p n outside apart. refl }

bytes_here : (t : Tables) (name : List ℕ) (change : Change) (bytes : List ℕ) → ChangesBytes t name change bytes bytes bytes
bytes_here t name change bytes = record { same = same_here (has_cell t.journal) t.journal bytes; journal = λ store keeps has was. inl (inl was) }

but_appends : (journal : JournalValue) (r : RecordValue) (given old new : List ℕ) → Appends journal r given old new → (Q : Type 0)
    → (SameButNext journal old new → Q) → (SameButNext journal given new → Appends journal r given given new → Q) → Q
but_appends journal r given old new (inl still) Q from_old from_given = from_old still.same
but_appends journal r given old new (inr follows) Q from_old from_given = from_given follows.same (inr follows)

-- an image is but for these bytes one from before, or the content, of which it is then one on the way
but_record : (free : Bool) (names : NameMap) (journal : JournalValue) (r : RecordValue) (given old new : List ℕ) → RecordsBy free names journal r given old new
    → (Q : Type 0) → (SameButRecordBy free journal old new → Q) → (SameButRecordBy free journal given new → RecordsBy free names journal r given given new → Q) → Q
but_record true names journal r given old new is Q from_old from_given = but_appends journal r given old new is Q from_old from_given
but_record false names journal r given old new (inl (inl stays)) Q from_old from_given = from_old stays.same
but_record false names journal r given old new (inl (inr either)) Q from_old from_given = from_given either.same (inl (inr either))
but_record false names journal r given old new (inr after) Q from_old from_given =
    let on = λ (same : SameButNext (checkpointed names journal) after.mid new). from_given
    (half_on (1 - journal.half) given after.mid new after.is.same (next_in names journal after.mid new after.room same)) (inr after) in
    but_appends (checkpointed names journal) r after.mid after.mid new after.appends Q on (λ same appends. on same)

recorded_same : (free : Bool) (names : NameMap) (journal : JournalValue) (r : RecordValue) (given new : List ℕ) → IsRecordedBy free names journal r given new
    → SameButRecordBy free journal given new
recorded_same true names journal r given new is = is.same
recorded_same false names journal r given new is = half_on (1 - journal.half) given is.mid new is.is.same (next_in names journal is.mid new is.room is.appended.same)

module _ (t : Tables) (name : List ℕ) (change : Change) (may : MayChange t name change) (numbers : HasNumbers t) where
  abbrev r : RecordValue
  r = record_after_last t name change

  abbrev Changes : List ℕ → List ℕ → List ℕ → Type 0
  Changes = ChangesBytes t name change

  changes_bytes : (given d c : List ℕ) → SameButRecord t.journal d c → Records t.names t.journal r given d c → Changes given d c
  changes_bytes given d c same of = record {
    same = same;
    journal = λ store keeps has was. journal_between name change store t keeps (can_change name change t may numbers store keeps) given d c has was of;
  }

  module _ (e : Ending) (old new : DiskView) (writes : Writes (Records t.names t.journal r) (IsRecorded t.names t.journal r) e old new) where
    leaves_but : (given : List ℕ) → old.content ≡ Some given → CrashLeaves (SteppedFrom (Changes given) old) old new
    leaves_but given known =
        leaves_weaker (SteppedFrom (Records t.names t.journal r given) old) (SteppedFrom (Changes given) old) old new (λ c from. elim from [
          | inl same ↦ inl same
          | inr stepped ↦ but_record (has_cell t.journal) t.names t.journal r given stepped.0 c stepped.2 (SteppedFrom (Changes given) old c)
              (λ same. inr (stepped.0, stepped.1, changes_bytes given stepped.0 c same stepped.2))
              (λ same of. inr (given, old.as_read given known, changes_bytes given given c same of))
        ]) (writes.steps given known)

    -- of a disk that was synced each image from before is its content
    leaves_synced : IsDurable old → (given : List ℕ) → old.content ≡ Some given → CrashLeaves (Changes given given) old new
    leaves_synced synced given known =
        leaves_weaker (SteppedFrom (Changes given) old) (Changes given given) old new (λ c from. elim from [
          | inl same ↦ subst (Changes given given) (sym (synced given known c same)) (bytes_here t name change given)
          | inr stepped ↦ subst (λ (b : List ℕ). Changes given b c) (synced given known stepped.0 stepped.1) stepped.2
        ]) (leaves_but given known)

    pub changes_journal : ChangesJournalAlone t name change old new
    changes_journal = record {
      leaves = leaves_but;
      synced = λ synced given known.
          let leaves = leaves_synced synced given known in
          let now = writes.later.tells given known in
          ((now.0, now.1, leaves.now now.0 (new.as_read now.0 now.1)), leaves);
    }

-- nothing was written
reads_journal : (t : Tables) (name : List ℕ) (change : Change) (old new : DiskView) → OnlyReads old new → ChangesJournalAlone t name change old new
reads_journal t name change old new reads = record {
  leaves = λ given known. reads_leave (SteppedFrom (ChangesBytes t name change given) old) old new (λ c image. inl image) reads;
  synced = λ synced given known. (
    (given, reads.content_is ∙ known, bytes_here t name change given),
    reads_leave (ChangesBytes t name change given given) old new
        (λ c image. subst (ChangesBytes t name change given given) (sym (synced given known c image)) (bytes_here t name change given)) reads,
  );
}

pub journal_here : (t : Tables) (name : List ℕ) (change : Change) (v : DiskView) → ChangesJournalAlone t name change v v
journal_here t name change v = reads_journal t name change v v (reads_here v)

-- it was refused: before the first write, or a write or a sync failed
pub unwritten_journal : (t : Tables) (old new : DiskView) (name : List ℕ) (change : Change) (refusal : Refusal) → MayChange t name change → t.journal.last < 2 ^ 64 - 1
    → IsWriteRefusal t refusal
    → Writes (Records t.names t.journal (record_after_last t name change)) (IsRecorded t.names t.journal (record_after_last t name change)) (ending_of (blames refusal)) old new
    → ChangesJournalAlone t name change old new
unwritten_journal t old new n x Memory may below refused writes = reads_journal t n x old new writes.written
unwritten_journal t old new n x Numbers may below refused writes = reads_journal t n x old new writes.written
unwritten_journal t old new n x DiskWrite may below refused writes = changes_journal t n x may (record { sequence = below; generation = refused }) Broken old new writes
unwritten_journal t old new n x _ may below refused writes = absurd refused

pub same_but_record : (names : NameMap) (journal : JournalValue) (r : RecordValue) (old new : DiskView)
    → Writes (Records names journal r) (IsRecorded names journal r) Done old new → KeepsButRecord journal old new
same_but_record names journal r old new writes = λ given known.
    let written = writes.written.0 given known in
    (written.0, written.1, recorded_same (has_cell journal) names journal r given written.0 written.2)

-- the format cell and the slots are as they were
pub record_alone_by : (free : Bool) (journal : JournalValue) (old new : List ℕ) → has_cell journal ≡ free → journal.half ≤ 1 → SameButRecordBy free journal old new
    → SameButJournal old new
record_alone_by true journal old new is low same = next_alone journal old new low (count_of_cell journal is) same
record_alone_by false journal old new is low same = half_alone (1 - journal.half) old new (omega arith) same

pub record_alone : (journal : JournalValue) (old new : List ℕ) → journal.half ≤ 1 → SameButRecord journal old new → SameButJournal old new
record_alone journal old new low same = record_alone_by (has_cell journal) journal old new refl low same
