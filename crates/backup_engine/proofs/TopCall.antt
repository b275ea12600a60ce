-- What the top call promises, from what a command keeps.
use Rattle.backup_engine.proofs.Prelude.{◌≡◌, inl, inr, refl, sym, ap, ◌∙◌, option_map, subst, ℕ, List, [], Option, Some, None, Err, DiskView, reads_here, SourceView, SinkView, Replied, Memory, Words, Refused, ReadsTellScripts, CommandLine, TableLine, Single, Check, alone_line, Work, Format, Ingest, Restore, Collect, status_by, IsCollect, IsDelete, IsIngest, IsListing, IsRestore, IsSameDisk, Does, Promise}
use Rattle.reply_text.specs.declared.ending.Ending.{Ending}
use Rattle.reply_text.specs.Table.{status_of}
use Rattle.backup_engine.specs.Line.{Run, Delete}
use Rattle.backup_engine.specs.Line as table
use Rattle.backup_engine.specs.LineValue.{line_value}
use Rattle.backup_engine.specs.declared.load_words.Load.{Load}
use Rattle.backup_engine.specs.declared.words.Line.{Line}
use Rattle.backup_engine.specs.declared.words.Line.TheVariants as words
use Rattle.backup_engine.specs.Noted.{IsNoted, AreNoted}
use Rattle.backup_engine.specs.Seen.{Seen, devices}
use Rattle.backup_engine.specs.TopCall.{KeepsLine}
use Rattle.backup_engine.proofs.NotDone.{not_begun}
use Rattle.backup_engine.proofs.Opens.{does_without_memory, runs_without_memory}
use Rattle.backup_engine.proofs.ScriptKept.{no_memory_kept}
use Rattle.backup_engine.proofs.SinglesRun.{unbegun_speaks}
use Rattle.backup_engine.proofs.SourceRuns.{given_of, given_told}
use Rattle.backup_engine.proofs.WorkKept.{work_without_memory}
use Rattle.backup_engine.specs.Working.{plan_of}

same_disk : (v : DiskView) → IsSameDisk v v
same_disk v = record {
  size_is = refl;
  content_is = refl;
  clock_is = refl;
  faults_are = refl;
  loans_are = refl;
  images_are = λ c. (λ image. image, λ image. image);
  since_are = λ t c. (λ image. image, λ image. image);
  returned_are = λ t at b. (λ returned. returned, λ returned. returned);
}

-- what a call saw of these devices
abbrev saw : (v w : DiskView) (source source_now : SourceView) (sink sink_now notes notes_now : SinkView) → Seen
saw v w source source_now sink sink_now notes notes_now = record {
  disk = v;
  disk_now = w;
  source = source;
  source_now = source_now;
  sink = sink;
  sink_now = sink_now;
  notes = notes;
  notes_now = notes_now;
}

-- words that are no line
pub words_promise : (D : Type 0) (view : D → DiskView) (line : Option TableLine) (status : ℕ) (v : DiskView) (source : SourceView) (sink notes notes_now : SinkView) →
    line ≡ None → status ≡ status_of Words → IsNoted notes notes_now Words
    → Promise D view line status (saw v v source source sink sink notes notes_now)
words_promise D view line status v source sink notes notes_now none is noted =
    subst (λ (l : Option TableLine). Promise D view l status (saw v v source source sink sink notes notes_now)) (sym none) (
      Some Words,
      (
        [],
        ([], record { status_is = is; noted = noted; does = record { why = inl refl; disk_is = same_disk v; source_is = refl; sink_is = refl } }),
      ),
    )

-- there was no memory to read the words, whatever command they are
memory_does : (D : Type 0) (view : D → DiskView) (command : CommandLine) (v : DiskView) (source : SourceView) (sink : SinkView)
    → (given : List ℕ) × ((rs : List Replied) × Does D view (Some (Single command)) given rs (Some (Refused Memory)) (devices v v source source sink sink))
memory_does D view (Format slots) v source sink = ([], ([], (not_begun (Format slots) [] v source sink (refl, refl), refl)))
memory_does D view (Ingest name) v source sink =
    let given = given_of source.left in (
      given,
      (
        [],
        does_without_memory D view v source sink (Ingest name) given (not_begun (Ingest name) given v source sink (λ all told. (given_told source.left all told, tt)))
            (unbegun_speaks (IsIngest name given (Some (Refused Memory)) source source) v sink (inl (refl, refl))),
      ),
    )
memory_does D view (Restore name) v source sink = (
  [],
  (
    [],
    does_without_memory D view v source sink (Restore name) [] (not_begun (Restore name) [] v source sink (refl, refl))
        (unbegun_speaks (IsRestore name (Some (Refused Memory)) sink sink) v sink (inl (refl, refl, refl))),
  ),
)
memory_does D view (Delete name) v source sink = (
  [],
  (
    [],
    does_without_memory D view v source sink (Delete name) [] (not_begun (Delete name) [] v source sink (refl, refl))
        (unbegun_speaks (IsDelete name (Some (Refused Memory)) sink sink) v sink (inl (refl, refl), refl)),
  ),
)
memory_does D view table.List v source sink = (
  [],
  (
    [],
    does_without_memory D view v source sink table.List [] (not_begun table.List [] v source sink (refl, refl))
        (unbegun_speaks (IsListing (Some (Refused Memory)) sink sink) v sink (inl (refl, inl refl), refl)),
  ),
)
memory_does D view (Collect percent) v source sink = (
  [],
  (
    [],
    does_without_memory D view v source sink (Collect percent) [] (not_begun (Collect percent) [] v source sink (refl, refl))
        (unbegun_speaks (IsCollect percent (Some (Refused Memory)) sink sink) v sink (inl (refl, inl refl), refl)),
  ),
)

module _ (D : Type 0) (view : D → DiskView) (status : ℕ) (v : DiskView) (source : SourceView) (sink notes notes_now : SinkView) (laws : ReadsTellScripts)
    (is : status ≡ status_of (Refused Memory)) (noted : IsNoted notes notes_now (Refused Memory)) where
  -- or whatever line
  pub memory_promise : (line : Option TableLine) → Promise D view line status (saw v v source source sink sink notes notes_now)
  memory_promise None = (
    Some (Refused Memory),
    ([], ([], record { status_is = is; noted = noted; does = record { why = inr refl; disk_is = same_disk v; source_is = refl; sink_is = refl } })),
  )
  memory_promise (Some (Single command)) =
      let does = memory_does D view command v source sink in
      (Some (Refused Memory), (does.0, (does.1.0, record { status_is = is; noted = noted; does = does.1.1 })))
  memory_promise (Some Run) = (
    Some (Refused Memory),
    ([], ([], record { status_is = is; noted = noted; does = runs_without_memory D view v source sink (no_memory_kept v source sink laws) })),
  )
  memory_promise (Some (Work load)) = (
    Some (Refused Memory),
    ([], ([], record { status_is = is; noted = noted; does = (None, (work_without_memory D view (plan_of load) v source sink, refl)) })),
  )
  memory_promise (Some Check) = record {
    ended = Err (Refused Memory);
    status_is = is;
    noted = noted;
    checks = inr (refl, refl);
    reads = record { only = reads_here v; faults_are = refl };
    source_is = refl;
  }

-- what is so of a line is so of what is that line
pub does_as : (D : Type 0) (view : D → DiskView) (line said : TableLine) → line ≡ said → (given : List ℕ) (rs : List Replied) (ending : Option Ending) (v w : DiskView)
    (source source_now : SourceView) (sink sink_now : SinkView)
    → Does D view (Some said) given rs ending (devices v w source source_now sink sink_now) →
    (given : List ℕ) × ((rs : List Replied) × Does D view (Some line) given rs ending (devices v w source source_now sink sink_now))
does_as D view line said is given rs ending v w source source_now sink sink_now does =
    (given, (rs, subst (λ (l : TableLine). Does D view (Some l) given rs ending (devices v w source source_now sink sink_now)) (sym is) does))

-- a line that is no `check`, as it ended
pub keeps_line : (D : Type 0) (view : D → DiskView) (said : TableLine) (status : ℕ) (ending : Option Ending) (v w : DiskView)
    (source source_now : SourceView) (sink sink_now notes notes_now : SinkView) → status ≡ status_by ending → AreNoted notes notes_now ending
    → ((given : List ℕ) × ((rs : List Replied) × Does D view (Some said) given rs ending (devices v w source source_now sink sink_now)))
    → (ending : Option Ending) × ((given : List ℕ) × ((rs : List Replied)
    × KeepsLine D view (Some said) ending given rs status (saw v w source source_now sink sink_now notes notes_now)))
keeps_line D view said status ending v w source source_now sink sink_now notes notes_now is noted does =
    (ending, (does.0, (does.1.0, record { status_is = is; noted = noted; does = does.1.1 })))

-- the words are that line
pub promise_as : (D : Type 0) (view : D → DiskView) (line said : Option TableLine) (status : ℕ) (seen : Seen) → line ≡ said → Promise D view said status seen →
    Promise D view line status seen
promise_as D view line said status seen is promise = subst (λ (l : Option TableLine). Promise D view l status seen) (sym is) promise

-- the line of the table, by the line that was read
pub line_as : {read : Option Line} {line said : Line} {of : Option TableLine} → option_map line_value read ≡ of → read ≡ Some line → line ≡ said
    → of ≡ Some (line_value said)
line_as is read_is said_is = sym is ∙ ap (option_map line_value) read_is ∙ ap (λ (l : Line). Some (line_value l)) said_is

-- a line that starts no workers, as one of the commands that start none
pub alone_as : (line : Line) → ((load : Load) → line ≡ words.Work load → ⊥) → alone_line (Some (line_value line)) ≡ Some (line_value line)
alone_as (words.Single command) none = refl
alone_as words.Run none = refl
alone_as words.Check none = refl
alone_as (words.Work load) none = absurd (none load refl)
