-- Commands that end before anything is asked of a core.
use Rattle.backup_engine.proofs.Prelude.{◌≡◌, inl, ℕ, List, [], Some, refl, ◌∙◌, Known, DiskView, IsLater, OnlyReads, Reads, NoFault, Shows, reads_refused, until, SourceView, SinkView, Refusal, Memory, DiskRead, DiskWrite, Refused, IsOpenRefusal, IsNotRead, CoreState, CommandLine, Format, Ingest, Restore, Collect, FindsBeforeWriting, Holds, IsCaused, Took, WroteOnAny, EndsDurable, Keeps, IsLeftBlank, IsUntouched}
use Rattle.backup_engine.specs.Line.{Delete}
use Rattle.backup_engine.specs.Line as table
use Rattle.backup_engine.proofs.Called.{Called}
use Rattle.backup_engine.proofs.Reading.{since_start, reads_frame, unchanged}
use Rattle.backup_engine.specs.Seen.{devices}

-- ---- a store that was not opened

-- the opening of a disk was refused
abbrev pub IsUnopened : DiskView → DiskView → Refusal → Type 0
IsUnopened v w refusal = IsNotRead refusal v w

ingest_caused : (v w : DiskView) (name given : List ℕ) (source : SourceView) (sink : SinkView) (refusal : Refusal) → IsOpenRefusal (Shows v w) v.size refusal
    → IsCaused (Ingest name) given (devices v w source source sink sink) (Some (Refused refusal))
ingest_caused v w name given source sink Memory cause = tt
ingest_caused v w name given source sink DiskRead cause = tt
ingest_caused v w name given source sink DiskWrite cause = tt
ingest_caused v w name given source sink refusal cause = inl (cause, refl)

restore_caused : (v w : DiskView) (name given : List ℕ) (source : SourceView) (sink : SinkView) (refusal : Refusal) → IsOpenRefusal (Shows v w) v.size refusal
    → IsCaused (Restore name) given (devices v w source source sink sink) (Some (Refused refusal))
restore_caused v w name given source sink Memory cause = tt
restore_caused v w name given source sink DiskRead cause = tt
restore_caused v w name given source sink DiskWrite cause = tt
restore_caused v w name given source sink refusal cause = inl cause

pub unopened_ingest : (v w : DiskView) (refusal : Refusal) → IsUnopened v w refusal → (name given : List ℕ) (source : SourceView) (sink : SinkView) →
    Known source.left (λ all. given ≡ all)
    → Keeps (Ingest name) given (Some (Refused refusal)) (devices v w source source sink sink)
unopened_ingest v w refusal is name given source sink took = record {
  any = record {
    took = λ all told. (took all told, tt);
    caused = ingest_caused v w name given source sink refusal is.cause;
    wrote = refl;
    faults_are = is.reads.faults_are;
    durable = tt;
    source_faults = λ other. refl;
    sink_faults = λ other. refl;
  };
  frame = reads_frame (Ingest name) (Some (Refused refusal)) v w is.reads.only;
  found = tt;
  blank = tt;
  untouched = tt;
}

pub unopened_restore : (v w : DiskView) (refusal : Refusal) → IsUnopened v w refusal → (name : List ℕ) (source : SourceView) (sink : SinkView)
    → Keeps (Restore name) [] (Some (Refused refusal)) (devices v w source source sink sink)
unopened_restore v w refusal is name source sink = record {
  any = record {
    took = (refl, refl);
    caused = restore_caused v w name [] source sink refusal is.cause;
    wrote = inl refl;
    faults_are = is.reads.faults_are;
    durable = tt;
    source_faults = λ other. refl;
    sink_faults = λ other. refl;
  };
  frame = reads_frame (Restore name) (Some (Refused refusal)) v w is.reads.only;
  found = tt;
  blank = tt;
  untouched = tt;
}

delete_caused : (v w : DiskView) (name : List ℕ) (source : SourceView) (sink : SinkView) (refusal : Refusal) → IsOpenRefusal (Shows v w) v.size refusal
    → IsCaused (Delete name) [] (devices v w source source sink sink) (Some (Refused refusal))
delete_caused v w name source sink Memory cause = tt
delete_caused v w name source sink DiskRead cause = tt
delete_caused v w name source sink DiskWrite cause = tt
delete_caused v w name source sink refusal cause = inl cause

list_caused : (v w : DiskView) (source : SourceView) (sink : SinkView) (refusal : Refusal) → IsOpenRefusal (Shows v w) v.size refusal
    → IsCaused table.List [] (devices v w source source sink sink) (Some (Refused refusal))
list_caused v w source sink Memory cause = tt
list_caused v w source sink DiskRead cause = tt
list_caused v w source sink DiskWrite cause = tt
list_caused v w source sink refusal cause = cause

collect_caused : (v w : DiskView) (percent : ℕ) (source : SourceView) (sink : SinkView) (refusal : Refusal) → IsOpenRefusal (Shows v w) v.size refusal
    → IsCaused (Collect percent) [] (devices v w source source sink sink) (Some (Refused refusal))
collect_caused v w percent source sink Memory cause = tt
collect_caused v w percent source sink DiskRead cause = tt
collect_caused v w percent source sink DiskWrite cause = tt
collect_caused v w percent source sink refusal cause = inl cause

pub unopened_delete : (v w : DiskView) (refusal : Refusal) → IsUnopened v w refusal → (name : List ℕ) (source : SourceView) (sink : SinkView)
    → Keeps (Delete name) [] (Some (Refused refusal)) (devices v w source source sink sink)
unopened_delete v w refusal is name source sink = record {
  any = record {
    took = (refl, refl);
    caused = delete_caused v w name source sink refusal is.cause;
    wrote = refl;
    faults_are = is.reads.faults_are;
    durable = tt;
    source_faults = λ other. refl;
    sink_faults = λ other. refl;
  };
  frame = reads_frame (Delete name) (Some (Refused refusal)) v w is.reads.only;
  found = tt;
  blank = tt;
  untouched = tt;
}

pub unopened_list : (v w : DiskView) (refusal : Refusal) → IsUnopened v w refusal → (source : SourceView) (sink : SinkView)
    → Keeps table.List [] (Some (Refused refusal)) (devices v w source source sink sink)
unopened_list v w refusal is source sink = record {
  any = record {
    took = (refl, refl);
    caused = list_caused v w source sink refusal is.cause;
    wrote = refl;
    faults_are = is.reads.faults_are;
    durable = tt;
    source_faults = λ other. refl;
    sink_faults = λ other. refl;
  };
  frame = reads_frame table.List (Some (Refused refusal)) v w is.reads.only;
  found = tt;
  blank = tt;
  untouched = tt;
}

pub unopened_collect : (v w : DiskView) (refusal : Refusal) → IsUnopened v w refusal → (percent : ℕ) (source : SourceView) (sink : SinkView)
    → Keeps (Collect percent) [] (Some (Refused refusal)) (devices v w source source sink sink)
unopened_collect v w refusal is percent source sink = record {
  any = record {
    took = (refl, refl);
    caused = collect_caused v w percent source sink refusal is.cause;
    wrote = refl;
    faults_are = is.reads.faults_are;
    durable = tt;
    source_faults = λ other. refl;
    sink_faults = λ other. refl;
  };
  frame = reads_frame (Collect percent) (Some (Refused refusal)) v w is.reads.only;
  found = inl (unchanged v w is.reads.only);
  blank = tt;
  untouched = tt;
}

-- ---- no memory before the disk was called

left_blank : (command : CommandLine) (v w : DiskView) → OnlyReads v w → IsLeftBlank command v w
left_blank (Format slots) v w reads = λ old known. ((old, reads.content_is ∙ known, inl refl), λ c since. inl (since_start v w reads c since))
left_blank (Ingest name) v w reads = tt
left_blank (Restore name) v w reads = tt
left_blank (Delete name) v w reads = tt
left_blank table.List v w reads = tt
left_blank (Collect percent) v w reads = tt

memory_found : (command : CommandLine) (v w : DiskView) → OnlyReads v w → FindsBeforeWriting command v w
memory_found (Format slots) v w reads = tt
memory_found (Ingest name) v w reads = tt
memory_found (Restore name) v w reads = tt
memory_found (Delete name) v w reads = tt
memory_found table.List v w reads = tt
memory_found (Collect percent) v w reads = inl (unchanged v w reads)

memory_untouched : (command : CommandLine) (v w : DiskView) → OnlyReads v w → IsUntouched command (Some (Refused Memory)) v w
memory_untouched (Format slots) v w reads = (reads.content_is, λ old known. reads.images_are)
memory_untouched (Ingest name) v w reads = tt
memory_untouched (Restore name) v w reads = tt
memory_untouched (Delete name) v w reads = tt
memory_untouched table.List v w reads = tt
memory_untouched (Collect percent) v w reads = tt

memory_wrote : (command : CommandLine) (given : List ℕ) (v w : DiskView) (sink : SinkView) → WroteOnAny command given (Some (Refused Memory)) v w sink sink
memory_wrote (Format slots) given v w sink = refl
memory_wrote (Ingest name) given v w sink = refl
memory_wrote (Restore name) given v w sink = inl refl
memory_wrote (Delete name) given v w sink = refl
memory_wrote table.List given v w sink = refl
memory_wrote (Collect percent) given v w sink = refl

memory_durable : (command : CommandLine) (w : DiskView) → EndsDurable command (Some (Refused Memory)) w
memory_durable (Format slots) w = tt
memory_durable (Ingest name) w = tt
memory_durable (Restore name) w = tt
memory_durable (Delete name) w = tt
memory_durable table.List w = tt
memory_durable (Collect percent) w = tt

-- There was no memory, and the disk was read at most.
pub without_memory : (command : CommandLine) (given : List ℕ) (v w : DiskView) (source source_now : SourceView) (sink : SinkView) → Reads NoFault v w →
    Took command given (Some (Refused Memory)) source source_now → source_now.faults ≡ source.faults
    → Keeps command given (Some (Refused Memory)) (devices v w source source_now sink sink)
without_memory command given v w source source_now sink reads took faults = record {
  any = record {
    took = took;
    caused = tt;
    wrote = memory_wrote command given v w sink;
    faults_are = reads.faults_are;
    durable = memory_durable command w;
    source_faults = λ other. faults;
    sink_faults = λ other. refl;
  };
  frame = reads_frame command (Some (Refused Memory)) v w reads.only;
  found = memory_found command v w reads.only;
  blank = left_blank command v w reads.only;
  untouched = memory_untouched command v w reads.only;
}

pub not_begun : (command : CommandLine) (given : List ℕ) (v : DiskView) (source : SourceView) (sink : SinkView) → Took command given (Some (Refused Memory)) source source →
    Keeps command given (Some (Refused Memory)) (devices v v source source sink sink)
not_begun command given v source sink took = without_memory command given v v source source sink (reads_refused v) took refl

-- ---- a store that was opened

module _ (C : Type 0) (state : C → CoreState) (v w : DiskView) (old new : C) (was : Called C state v w old new) where
  -- what the opening showed stays so
  abbrev pub holds : IsLater (state old).disk w → Holds v w
  holds later = record {
    store = was.opened.store;
    right = until v (state old).disk w was.opened.right was.first.only.later.clock_is later;
    reserve = was.opened.reserve;
  }
