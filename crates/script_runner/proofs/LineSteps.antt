-- A line but `reopen` makes steps of the core, or none.
use Rattle.script_runner.proofs.Prelude.{both_so, ◌≡◌, ◌≢◌, ◌⊎◌, inl, inr, ℕ, ◌+◌, ◌≤◌, List, [], ◌∷◌, ◌++◌, Option, Some, None, Result, Ok, Err, refl, ap, subst, arith, Answer, StepValue, Refusal, Memory, Due, Claim, Seal, Nothing, due_in, offered_in, SessionState, pushed_bytes, ReplyValue, CoreStep, commands_in, CoreRun, AreNoGcSteps, IsNoGcStep, CoreState, Event, Asks, Feeds, IsPaused, IsRefusedTurn, TakesTurn, TurnRun, TurnsStopped, IsNoSweep, commands_of_line, ActsOrNot, DoesStep, RefusesPut, RefusesStep, RunnerState, RunsLine}
use Rattle.actor_parts.specs.declared.step.Answer.TheVariants as answers
use Rattle.actor_parts.specs.StepValue as asked
use Rattle.script_lines.specs.Grammar as lines
use Rattle.script_lines.specs.ReplyValue as replies
use Rattle.store_core.specs.Frame.{commands_of}
use Rattle.script_runner.specs.Acts.{Acts, counted}
use Rattle.session_turns.specs.Turns.{session_at}

-- steps of a core, one after the other, none of a collection, of which so many at most give a name a root or take it away
abbrev pub MakesSteps : (C : Type 0) → (C → CoreState) → ℕ → C → C → Type 0
MakesSteps C state n old new = (events : List Event) × (CoreRun C state events old new × (commands_in events ≤ n) × AreNoGcSteps events)

pub commands-append : (first rest : List Event) → commands_in (first ++ rest) ≡ commands_in first + commands_in rest
commands-append [] rest = omega arith
commands-append (e ∷ es) rest = omega (arith, commands-append es rest)

module _ (C : Type 0) (state : C → CoreState) where
  abbrev Makes : ℕ → C → C → Type 0
  Makes n old new = MakesSteps C state n old new

  -- ---- steps

  pub run_on : (first rest : List Event) (old mid new : C) → CoreRun C state first old mid → CoreRun C state rest mid new → CoreRun C state (first ++ rest) old new
  run_on [] rest old mid new one other = subst (λ (c : C). CoreRun C state rest c new) one other
  run_on (e ∷ es) rest old mid new one other = (one.0, (one.1.0, run_on es rest one.0 mid new one.1.1 other))

  none : (n : ℕ) (old new : C) → new ≡ old → Makes n old new
  none n old new same = ([], (same, omega arith, tt))

  single : (n : ℕ) (old new : C) (e : Event) → IsNoGcStep e.step → commands_of e.step ≤ n → CoreStep (state old) e (state new) → Makes n old new
  single n old new e other few step = (e ∷ [], ((new, (step, refl)), omega (arith, few), (other, tt)))

  both : (n m most : ℕ) (old mid new : C) → n + m ≤ most → Makes n old mid → Makes m mid new → Makes most old new
  both n m most old mid new few one other = (
    one.0 ++ other.0,
    (
      run_on one.0 other.0 old mid new one.1.0 other.1.0,
      omega (arith, few, commands-append one.0 other.0, one.1.1, other.1.1),
      both_so
          (λ e. IsNoGcStep e.step) one.0 other.0 one.1.2 other.1.2,
    ),
  )

  pub does : (n actor : ℕ) (step : StepValue) (answer : Answer) (old new : C) → IsNoGcStep step → commands_of step ≤ n → DoesStep actor step answer (state old) (state new) →
      Makes n old new
  does n actor step answer old new other few is = single n old new (record { actor = actor; step = step; answer = Ok answer; buf = is.0 }) other few is.1

  refuses : (n actor : ℕ) (step : StepValue) (refusal : Refusal) (old new : C) → IsNoGcStep step → commands_of step ≤ n → RefusesStep actor step refusal (state old) (state new) →
      Makes n old new
  refuses n actor step refusal old new other few is = single n old new (record { actor = actor; step = step; answer = Err refusal; buf = is.0 }) other few is.1

  -- a step that was refused, or before it there was no memory
  refuses_or : (n actor : ℕ) (step : StepValue) (refusal : Refusal) (old new : C) → IsNoGcStep step → commands_of step ≤ n →
      ((refusal ≡ Memory) × (new ≡ old)) ⊎ RefusesStep actor step refusal (state old) (state new) → Makes n old new
  refuses_or n actor step refusal old new other few (inl memory) = none n old new memory.1
  refuses_or n actor step refusal old new other few (inr is) = refuses n actor step refusal old new other few is

  -- ---- turns

  asks : (actor : ℕ) (due : Due) (s : SessionState) (answer : Result Answer Refusal) (old new : C) → Asks actor due s answer (state old) (state new) → Makes 0 old new
  asks actor Claim s answer old new is = single 0 old new (record { actor = actor; step = asked.Claim is.0; answer = answer; buf = is.1 }) tt (omega arith) is.3
  asks actor (Seal kind) s answer old new is = single 0 old new (record { actor = actor; step = asked.Seal (offered_in s kind); answer = answer; buf = is.0 }) tt (omega arith) is.3
  asks actor Nothing s answer old new is = absurd is

  turns : (actor : ℕ) (given : List Answer) (s t : SessionState) (old new : C) → TurnRun C state actor given s t old new → Makes 0 old new
  turns actor [] s t old new run = none 0 old new run.1
  turns actor (answer ∷ more) s t old new run =
      both 0 0 0 old run.1 new (omega arith) (asks actor (due_in run.2.before) run.2.before (Ok answer) old run.1 run.2.asks) (turns actor more run.0 t run.1 new run.3)

  not_made : (actor : ℕ) (refusal : Refusal) (s t : SessionState) (old new : C) → ((refusal ≡ Memory) × IsPaused s t × (new ≡ old)) ⊎ IsRefusedTurn actor refusal s t (state old)
      (state new) → Makes 0 old new
  not_made actor refusal s t old new (inl memory) = none 0 old new memory.2
  not_made actor refusal s t old new (inr refused) = asks actor (due_in t) t (Err refusal) old new refused.2

  stopped : (actor : ℕ) (refusal : Refusal) (s t : SessionState) (old new : C) → TurnsStopped C state actor refusal s t old new → Makes 0 old new
  stopped actor refusal s t old new is = both 0 0 0 old is.2 new (omega arith) (turns actor is.0 s is.1 old is.2 is.3) (not_made actor refusal is.1 t is.2 new is.4)

  takes : (actor : ℕ) (result : Result (Option Answer) Refusal) (s t : SessionState) (old new : C) → TakesTurn C state actor result s t old new → Makes 0 old new
  takes actor (Ok None) s t old new is = none 0 old new is.3
  takes actor (Ok (Some answer)) s t old new is = asks actor (due_in is.before) is.before (Ok answer) old new is.asks
  takes actor (Err refusal) s t old new is = not_made actor refusal s t old new is

  -- ---- lines

  feeds : (actor : ℕ) (result : Result (Unit {0}) Refusal) (bytes : List ℕ) (s t : SessionState) (old new : C)
      → Feeds C state actor result bytes (session_at s old) (session_at t new) → Makes 0 old new
  feeds actor (Ok u) bytes s t old new is = turns actor is.0 s is.1 old new is.2
  feeds actor (Err refusal) bytes s t old new (inl stops) = stopped actor refusal s t old new stops.0
  feeds actor (Err refusal) bytes s t old new (inr refused) = turns actor refused.0 s t old new refused.1

  put_refused : (actor : ℕ) (name : List ℕ) (refusal : Refusal) (s t : SessionState) (old new : C) → RefusesPut C state actor name refusal (session_at s old) (session_at t new)
      → Makes 1 old new
  put_refused actor name refusal s t old new (inl stops) = let made = stopped actor refusal s t old new stops in (made.0, (made.1.0, omega (arith, made.1.1), made.1.2))
  put_refused actor name refusal s t old new (inr tried) =
      both 0 1 1 old tried.1 new (omega arith) (turns actor tried.0 s t old tried.1 tried.2)
      (refuses_or 1 actor (asked.Commit name tried.3.0) refusal tried.1 new tt (omega arith) tried.3.2)

  acts : (line : lines.LineValue) (reply : ReplyValue) (r s : RunnerState C) → IsNoSweep line → Acts C state line reply r s → Makes (commands_of_line line) r.core s.core
  acts (lines.Begin a) (replies.Begun b) r s unswept is = let begins = is.1 in does 0 a asked.Begin begins.0 r.core s.core tt (omega arith) begins.2
  acts (lines.Begin a) (replies.Refused refusal) r s unswept is = refuses_or 0 a asked.Begin refusal r.core s.core tt (omega arith) is.0
  acts (lines.Push a digits) (replies.Pushed b count) r s unswept is = let pushes = is.1 in feeds a (Ok tt) (pushed_bytes digits) pushes.0 pushes.1 r.core s.core pushes.3
  acts (lines.Push a digits) (replies.Refused refusal) r s unswept is = let pushes = is in feeds a (Err refusal) (pushed_bytes digits) pushes.0 pushes.1 r.core s.core pushes.3
  acts (lines.Finish a) (replies.Finished b count) r s unswept is = let ends = is.1 in none 0 r.core s.core ends.6
  acts (lines.Finish a) (replies.Refused refusal) r s unswept is = let ends = is in none 0 r.core s.core ends.2
  acts (lines.Turn a) (replies.Turn b told) r s unswept is = let made = is.1 in takes a (Ok made.3.0) made.0 made.1 r.core s.core made.3.2
  acts (lines.Turn a) (replies.Refused refusal) r s unswept is = let made = is in takes a (Err refusal) made.0 made.1 r.core s.core made.3
  acts (lines.Commit a name) (replies.Committed b sequence) r s unswept is =
      let commits = is.1 in
      let puts = commits.2 in
      both 0 1 1 r.core puts.mid s.core (omega arith) (turns a puts.answers_are commits.0 puts.ready r.core puts.mid puts.turns)
      (does 1 a (asked.Commit name puts.root) puts.answer puts.mid s.core tt (omega arith) puts.put)
  acts (lines.Commit a name) (replies.Refused refusal) r s unswept is = let refused = is in put_refused a name refusal refused.0 refused.1 r.core s.core refused.3
  acts (lines.Abort a) (replies.Aborted b) r s unswept is = let aborts = is.1 in does 0 a asked.Abort aborts.0.0 r.core s.core tt (omega arith) aborts.0.1
  acts (lines.Abort a) (replies.Refused refusal) r s unswept is = let aborts = is in refuses 0 a asked.Abort refusal r.core s.core tt (omega arith) aborts.0
  acts (lines.Read a name) (replies.Reading b count) r s unswept is = let opens = is.1 in does 0 a (asked.OpenRead name) (answers.Opened count) r.core s.core tt (omega arith)
      opens.0
  acts (lines.Read a name) (replies.Refused refusal) r s unswept is = refuses 0 a (asked.OpenRead name) refusal r.core s.core tt (omega arith) is.0
  acts (lines.Next a) (replies.Bytes b bytes) r s unswept is =
      let given = is.1.1.1.1 in
      single 0 r.core s.core (record { actor = a; step = asked.ReadNext; answer = Ok (answers.Bytes is.1.0); buf = is.1.1.0 }) tt (omega arith) given.0
  acts (lines.Next a) (replies.End b) r s unswept is =
      let ends = is.1.1 in single 0 r.core s.core (record { actor = a; step = asked.ReadNext; answer = Ok answers.End; buf = is.1.0 }) tt (omega arith) ends.0
  acts (lines.Next a) (replies.Refused refusal) r s unswept is =
      let refused = is.1 in single 0 r.core s.core (record { actor = a; step = asked.ReadNext; answer = Err refusal; buf = is.0 }) tt (omega arith) refused.0
  acts (lines.Drop a) (replies.Dropped b) r s unswept is = let drops = is.1.0 in does 0 a asked.EndRead drops.0 r.core s.core tt (omega arith) drops.1
  acts (lines.Drop a) (replies.Refused refusal) r s unswept is = refuses 0 a asked.EndRead refusal r.core s.core tt (omega arith) is.0
  acts (lines.Delete name) (replies.Deleted sequence) r s unswept is = does 1 0 (asked.Delete name) is.0.answer r.core s.core tt (omega arith) is.0.deleted
  acts (lines.Delete name) (replies.Refused refusal) r s unswept is = refuses_or 1 0 (asked.Delete name) refusal r.core s.core tt (omega arith) is.0
  acts lines.ListNames (replies.Listed files) r s unswept is = does 0 0 asked.ListNames (answers.Listed files) r.core s.core tt (omega arith) is.0
  acts lines.ListNames (replies.Refused refusal) r s unswept is = refuses 0 0 asked.ListNames refusal r.core s.core tt (omega arith) is.0
  acts (lines.Gc percent) (replies.Collecting snapshot) r s unswept is = does 0 0 (asked.GcStart percent) (answers.Started snapshot) r.core s.core tt (omega arith) is.0
  acts (lines.Gc percent) (replies.Refused refusal) r s unswept is = refuses 0 0 (asked.GcStart percent) refusal r.core s.core tt (omega arith) is.0
  acts lines.GcStep reply r s unswept is = absurd unswept
  acts lines.Sweep reply r s unswept is = absurd unswept
  acts lines.Stat (replies.Stat holdings) r s unswept is = does 0 0 asked.Stat (counted holdings) r.core s.core tt (omega arith) is.0
  acts lines.Unique (replies.Unique segments bytes) r s unswept is =
      single 0 r.core s.core (record { actor = 0; step = asked.Unique; answer = Ok (answers.Unique segments bytes); buf = is.0.0 }) tt (omega arith) is.0.1
  acts lines.Unique (replies.Refused refusal) r s unswept is =
      single 0 r.core s.core (record { actor = 0; step = asked.Unique; answer = Err refusal; buf = is.0.0 }) tt (omega arith) is.0.1
  acts line reply r s unswept is = absurd is

  or_not : (line : lines.LineValue) (reply : ReplyValue) (r s : RunnerState C) → IsNoSweep line → ActsOrNot C state line reply r s → Makes (commands_of_line line) r.core s.core
  or_not line reply r s unswept (inl taken) = acts line reply r s unswept taken.1
  or_not line reply r s unswept (inr barred) = none (commands_of_line line) r.core s.core (ap (λ (t : RunnerState C). t.core) barred.3)

  pub line_steps : (line : lines.LineValue) (reply : ReplyValue) (r s : RunnerState C) → line ≢ lines.Reopen → IsNoSweep line → RunsLine C state line reply r s →
      Makes (commands_of_line line) r.core s.core
  line_steps lines.Reopen reply r s differs unswept runs = absurd (differs refl)
  line_steps line reply r s differs unswept runs = or_not line reply r s unswept runs
