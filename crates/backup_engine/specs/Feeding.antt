-- A session that is fed a file, and the steps that it has a core make (docs/MODEL.md, 'Commands').
use Rattle.std.specs.Prelude.{◌≡◌, ◌⊎◌, ◌<◌, ◌≤◌, ℕ, true, List, [], ◌++◌, length, Some, Result, Ok, Err, OnOk, IfErr}
use Rattle.disk_format.specs.declared.numbers.TheConstants.{MOST_FILE}
use Rattle.disk_format.specs.Cells.{Root}
use Rattle.base_model.specs.Known.{Known}
use Rattle.dd_io.specs.Flow.{SourceView}
use Rattle.container_meta.specs.declared.kind.Kind.{Kind}
use Rattle.container_meta.specs.Segments.{Segment}
use Rattle.refusals.specs.declared.refusal.Refusal.{Refusal}
use Rattle.refusals.specs.declared.refusal.Refusal.TheVariants.{Memory, TooLong}
use Rattle.reply_text.specs.declared.ending.Ending.{Ending}
use Rattle.reply_text.specs.declared.ending.Ending.TheVariants.{Source, Refused}
use Rattle.store_model.specs.Trees.{root_of}
use Rattle.store_core.specs.Keeping.{kept_of}
use Rattle.store_core.specs.State.{CoreState}
use Rattle.ingest_session.specs.declared.due.Due.TheVariants.{Nothing}
use Rattle.ingest_session.specs.Due.{due_in}
use Rattle.ingest_session.specs.Facts.{BytesAreCounted, ChildrenComeFirst, IsKept, MayFollow, OpenNodesHaveChildren, TurnsArePieces}
use Rattle.ingest_session.specs.History.{History, HasHistory, unsealed}
use Rattle.ingest_session.specs.State.{SessionState}
use Rattle.backup_engine.specs.Putting.{Way}
use Rattle.backup_engine.specs.Running.{PutRun, HoldsPieces, IsOneOf, IsPutRefusal}
use Rattle.backup_engine.specs.Storing.{IsHeard, IsSourceFault}
use Rattle.session_turns.specs.Turns.{SessionMoment}

-- what is so of every session: what feeding one rests on
pub record SessionLaws : Type 0 where
  pub turns : TurnsArePieces
  pub claims : ChildrenComeFirst
  pub seals : OpenNodesHaveChildren
  pub counts : BytesAreCounted

-- ---- so far

-- a file that these bytes are the beginning of, or, once it has ended, are
abbrev pub MayBe : List ℕ → SessionState → List ℕ → Type 0
MayBe given s file = (more : List ℕ) × MayFollow more s × (file ≡ given ++ more)

-- what is still to be sealed of a kind
abbrev pub opens_of : SessionState → Kind → List Segment
opens_of s kind = unsealed kind s

-- A session was given these bytes, and the steps that it asked for were made: what it was told is kept is what they kept.
pub record IsFed (C : Type 0) (state : C → CoreState) (given : List ℕ) (s : SessionState) (old new : C) : Type 0 where
  pub history : History
  pub has : HasHistory s history
  pub given_is : history.given ≡ given
  pub way : Way C state (MayBe given s) (opens_of s) old new
  pub told : (kind : Kind) (x : Segment) → IsKept history kind x → IsOneOf (record { kind = kind; segment = x }) (kept_of way.steps)

-- ---- how it ends before the name is put

-- a step was refused, for its cause, or there was no memory; or the file was too long
abbrev pub Stops : (C : Type 0) → (C → CoreState) → List ℕ → List ℕ → Refusal → C → C → Type 0
Stops C state name file refusal start new =
    (PutRun C state name file (Err refusal) start new × IsPutRefusal name file (state start).disk (state new) refusal)
    ⊎ ((refusal ≡ TooLong) × (MOST_FILE < length file) × PutRun C state name file (Err Memory) start new)

-- ---- what calls do, whatever was done before

-- all of the file was taken, and nothing is due
pub record IsAllFed (C : Type 0) (state : C → CoreState) (given : List ℕ) (s : SessionState) (old new : C) : Type 0 where
  pub fed : IsFed C state given s old new
  pub ended : s.ended ≡ true
  pub done : due_in s ≡ Nothing

-- How reading a source to its end went: a session was fed what it gave; or no more was asked of the core.
abbrev pub FilledBy : (C : Type 0) → (C → CoreState) → Result Unit Ending → List ℕ → SessionMoment C → SessionMoment C → SourceView
    → SourceView → Type 0
FilledBy C state (Ok u) given old new source source_now =
    Known source.left (λ all. source_now.left ≡ Some [])
    × ((start : C) → IsFed C state [] old.session start old.core → IsFed C state given new.session start new.core)
FilledBy C state (Err Source) given old new source source_now =
    IsSourceFault source source_now Source
    × ((start : C) (name : List ℕ) → IsFed C state [] old.session start old.core → PutRun C state name given (Err Memory) start new.core)
FilledBy C state (Err (Refused refusal)) given old new source source_now =
    (start : C) (name : List ℕ) → IsFed C state [] old.session start old.core → Stops C state name given refusal start new.core
FilledBy C state (Err ending) given old new source source_now = ⊥

-- Spoken is what was so of it as lines of a script: of the ending, of what was given, of the source, and of the session and the core.
pub record Fills (C : Type 0) (state : C → CoreState)
    (Spoken : Result Unit Ending → List ℕ → SourceView → SourceView → SessionMoment C → SessionMoment C → Type 0)
    (result : Result Unit Ending) (old new : SessionMoment C) (source source_now : SourceView) : Type 0 where
  pub given : List ℕ
  pub took : Known source.left (λ all. given ≡ all)
  pub heard : IsHeard result source source_now
  pub filled : FilledBy C state result given old new source source_now
  pub spoken : (start : C) → IsFed C state [] old.session start old.core → Spoken result given source source_now old new

-- the name is given the root
pub record IsPut (C : Type 0) (state : C → CoreState) (name given : List ℕ) (result : Result Unit Refusal) (start new : C) : Type 0 where
  pub ran : PutRun C state name given result start new
  pub few : OnOk result (length given ≤ MOST_FILE)
  pub held : OnOk result (HoldsPieces name given (state new))
  pub refused : IfErr result (IsPutRefusal name given (state start).disk (state new))

abbrev pub Commits : (C : Type 0) → (C → CoreState) → List ℕ → Root → Result Unit Refusal → C → C → Type 0
Commits C state name root result old new =
    (start : C) (given : List ℕ) (s : SessionState) → IsAllFed C state given s start old → root ≡ root_of given
    → IsPut C state name given result start new
