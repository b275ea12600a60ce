-- The lines of a single command: of which actor they are, and which they are.
use Rattle.backup_engine.proofs.Prelude.{◌≡◌, ◌∙◌, inl, inr, ◌+◌, ℕ, List, [], ◌∷◌, length, Option, Some, None, refl, sym, subst, DiskView, SinkView, SourceView, Replied, Refusal, Memory, Sink, Refused, pushed_bytes, AreOfActors, Digits, IsIngest, Speaks, StoresFile, finish_lines, push_lines, pushed, refused, said}
use Rattle.reply_text.specs.declared.ending.Ending.{Ending}
use Rattle.reply_text.specs.declared.ending.Ending.TheVariants.{Source}
use Rattle.script_lines.specs.Grammar as lines
use Rattle.script_lines.specs.ReplyValue as replies
use Rattle.backup_engine.specs.Singles.{StopsAt, begun}
use Rattle.backup_engine.proofs.NotDone.{IsUnopened}
use Rattle.backup_engine.proofs.Saying.{all_of_actors, of_first}

-- ---- each line is of the first actor

push_actors : (count : ℕ) (pushes : List Digits) → AreOfActors (push_lines count pushes)
push_actors count [] = tt
push_actors count (d ∷ more) = (of_first (lines.Push 0 d.digits) refl, push_actors (count + length (pushed_bytes d.digits)) more)

finish_actors : (pushes : List Digits) → AreOfActors (finish_lines pushes)
finish_actors pushes = all_of_actors (push_lines 0 pushes) (said (lines.Finish 0) (replies.Finished 0 (length (pushed pushes))) ∷ []) (push_actors 0 pushes)
    (of_first (lines.Finish 0) refl, tt)

stop_actors : (name given : List ℕ) (source source_now : SourceView) (refusal : Refusal) (rs : List Replied) → StopsAt name given source source_now refusal rs → AreOfActors rs
stop_actors name given source source_now refusal rs (pushes, inl (d, (first, is))) =
    subst AreOfActors (sym is) (all_of_actors (push_lines 0 pushes) (refused (lines.Push 0 d.digits) refusal ∷ []) (push_actors 0 pushes)
    (of_first (lines.Push 0 d.digits) refl, tt))
stop_actors name given source source_now refusal rs (pushes, inr (inl (all, is))) =
    subst AreOfActors (sym is) (all_of_actors (push_lines 0 pushes) (refused (lines.Finish 0) refusal ∷ []) (push_actors 0 pushes) (of_first (lines.Finish 0) refl, tt))
stop_actors name given source source_now refusal rs (pushes, inr (inr (all, is))) =
    subst AreOfActors (sym is) (all_of_actors (finish_lines pushes) (refused (lines.Commit 0 name) refusal ∷ []) (finish_actors pushes) (of_first (lines.Commit 0 name) refl, tt))

store_actors : (name given : List ℕ) (rs : List Replied) → StoresFile name given rs → AreOfActors rs
store_actors name given rs (pushes, (sequence, (all, is))) =
    subst AreOfActors (sym is) (
      of_first (lines.Begin 0) refl,
      all_of_actors (finish_lines pushes) (said (lines.Commit 0 name) (replies.Committed 0 sequence) ∷ []) (finish_actors pushes) (of_first (lines.Commit 0 name) refl, tt),
    )

pub ingest_actors : (name given : List ℕ) (ending : Option Ending) (source source_now : SourceView) (rs : List Replied) → IsIngest name given ending source source_now rs →
    AreOfActors rs
ingest_actors name given None source source_now rs is = store_actors name given rs is
ingest_actors name given (Some Sink) source source_now rs is = store_actors name given rs is
ingest_actors name given (Some Source) source source_now rs (pushes, (first, is)) = subst AreOfActors (sym is) (of_first (lines.Begin 0) refl, push_actors 0 pushes)
ingest_actors name given (Some (Refused refusal)) source source_now rs (inl (memory, none)) = subst AreOfActors (sym none) tt
ingest_actors name given (Some (Refused refusal)) source source_now rs (inr (more, (are, stops))) =
    subst AreOfActors (sym are) (of_first (lines.Begin 0) refl, stop_actors name given source source_now refusal more stops)
ingest_actors name given (Some ending) source source_now rs is = absurd is

-- ---- where no line was run there was no memory

some_run : (one : Replied) (more rs : List Replied) → rs ≡ one ∷ more → rs ≡ [] → ⊥
some_run one more rs is none = let no : one ∷ more ≡ [] = sym is ∙ none in cc

pub ingest_memory : (name given : List ℕ) (ending : Option Ending) (source source_now : SourceView) (rs : List Replied) → IsIngest name given ending source source_now rs
    → rs ≡ [] → ending ≡ Some (Refused Memory)
ingest_memory name given None source source_now rs (pushes, (sequence, (all, is))) none = absurd (some_run begun _ rs is none)
ingest_memory name given (Some Sink) source source_now rs (pushes, (sequence, (all, is))) none = absurd (some_run begun _ rs is none)
ingest_memory name given (Some Source) source source_now rs (pushes, (gave, is)) none = absurd (some_run begun _ rs is none)
ingest_memory name given (Some (Refused refusal)) source source_now rs (inl (memory, empty)) none =
    subst (λ (r : Refusal). Some (Refused r) ≡ Some (Refused Memory)) (sym memory) refl
ingest_memory name given (Some (Refused refusal)) source source_now rs (inr (more, (is, stops))) none = absurd (some_run begun more rs is none)
ingest_memory name given (Some ending) source source_now rs are none = absurd are

-- ---- what is said

-- the store was not opened
pub unopened_speaks : (AreSo : List Replied → Type 0) (v w : DiskView) (refusal : Refusal) → IsUnopened v w refusal → (sink : SinkView) →
    Speaks AreSo (Some (Refused refusal)) [] v w sink sink
unopened_speaks AreSo v w refusal is sink = inr (record { refusal = refusal; ending_is = refl; none = refl; cause = is.cause; wrote = refl })

-- there was no memory before the store was opened
pub unbegun_speaks : (AreSo : List Replied → Type 0) (v : DiskView) (sink : SinkView) → AreSo [] → Speaks AreSo (Some (Refused Memory)) [] v v sink sink
unbegun_speaks AreSo v sink none = inl none
