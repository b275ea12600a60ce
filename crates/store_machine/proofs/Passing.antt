-- What a crash may find at any moment of an `ingest`: the steps that its lines make are quiet, but for one commit at their end.
use Rattle.store_machine.proofs.Prelude.{◌≤◌, ◌≡◌, ◌⊎◌, inl, inr, ℕ, [], ◌∷◌, ◌++◌, Some, None, Result, Ok, Err, ◌∙◌, ap, subst, sym, Answer, Refusal, Asked, Done, IsStill, Answers, ByState, Does, Legal, AreTurns, Session, answer_of, Found, Idle, Reading, RunState, Running, Stopped, put_at, MayBeFound, Reopens, Run, of_files}
use Rattle.std.proofs.Common.{List}
use Rattle.store_machine.specs.Asked as asked
use Rattle.store_machine.specs.Done as done
use Rattle.store_machine.specs.ByMap.{IsFoundAt}
use Rattle.store_machine.specs.Runs.{IsPassedFrom}
use Rattle.store_machine.proofs.Quiet.{IsSure, running_sure, F, Goes, IsQuiet, Step, due_is_quiet, stays, step_done}

-- ---- lists of steps

-- a step that changes no name
abbrev pub IsFine : Asked (List ℕ) → Type 0
IsFine (asked.Commit name file) = ⊥
IsFine (asked.Delete name) = ⊥
IsFine step = Unit {0}

-- one that neither begins, claims or seals, nor opens the store again
abbrev pub IsRead : Asked (List ℕ) → Type 0
IsRead asked.Begin = ⊥
IsRead (asked.Claim seg) = ⊥
IsRead (asked.Seal offered) = ⊥
IsRead (asked.Commit name file) = ⊥
IsRead (asked.Delete name) = ⊥
IsRead asked.Reopen = ⊥
IsRead step = Unit {0}

abbrev pub IsTold : Result Done Refusal → Type 0
IsTold (Ok answer) = Unit {0}
IsTold (Err refusal) = ⊥

abbrev pub AllOk : List Step → Type 0
AllOk [] = Unit {0}
AllOk (x ∷ xs) = IsFine x.asked × IsTold x.answer × AllOk xs

-- all but the last are such, and were done
abbrev pub Good : List Step → Type 0
Good [] = Unit {0}
Good (x ∷ []) = Unit {0}
Good (x ∷ y ∷ more) = IsFine x.asked × IsTold x.answer × Good (y ∷ more)

pub ok_good : (xs ys : List Step) → AllOk xs → Good ys → Good (xs ++ ys)
ok_good [] ys ok good = good
ok_good (x ∷ []) [] ok good = tt
ok_good (x ∷ []) (y ∷ ys) ok good = (ok.0, ok.1, good)
ok_good (x ∷ z ∷ xs) ys ok good = (ok.0, ok.1, ok_good (z ∷ xs) ys ok.2 good)

pub fine_of : (step : Asked (List ℕ)) → IsQuiet step → IsFine step
fine_of asked.Begin quiet = tt
fine_of (asked.Claim seg) quiet = tt
fine_of (asked.Seal offered) quiet = tt
fine_of step quiet = absurd quiet

is_told : (told : Result Done Refusal) (answer : Answer) → answer_of told ≡ Some answer → IsTold told
is_told (Ok d) answer is = tt
is_told (Err refusal) answer is = absurd (let wrong : None ≡ Some answer = is in cc)

pub turns_ok : (a : ℕ) (xs : List Step) (s t : Session) → AreTurns of_files a xs s t → AllOk xs × (t.given ≡ s.given)
turns_ok a [] s t is = (tt, ap (λ (x : Session). x.given) is)
turns_ok a (x ∷ xs) s t (actor, due, (answer, told, more)) =
    let rest = turns_ok a xs (record s { answers = s.answers ++ answer ∷ [] }) t more in
    ((fine_of x.asked (due_is_quiet s x.asked due), is_told x.answer answer told, rest.0), rest.1)

-- ---- steps that store nothing

puts_part : (a : ℕ) (part : _) (m n : F) → m.state ≡ Running → n ≡ put_at m a part → Goes m n
puts_part a part m n runs is = record { now = ap (λ (x : F). x.now) is; state = ap (λ (x : F). x.state) is ∙ runs }

-- done
reads_go : (a : ℕ) (step : Asked (List ℕ)) (answer : Done) (m n : F) → IsRead step → m.state ≡ Running → Does of_files a step answer m n → Goes m n
reads_go a (asked.OpenRead name) (done.Opened count) m n read runs (named, idle, (value, rest, has, starts, count_is, others)) = puts_part a (Reading value rest) m n runs others
reads_go a asked.ReadNext (done.Bytes bytes) m n read runs (value, rest, after, was, gives, others) = puts_part a (Reading value after) m n runs others
reads_go a asked.ReadNext done.End m n read runs (value, rest, was, ends, others) = stays m n runs others
reads_go a asked.EndRead done.Dropped m n read runs (was, others) = puts_part a Idle m n runs others
reads_go a asked.Abort done.Aborted m n read runs (was, others) = puts_part a Idle m n runs others
reads_go a asked.ListNames (done.Listed files) m n read runs (is, others) = stays m n runs others
reads_go a asked.Stat (done.Counted files segments bytes used free) m n read runs (is, others) = stays m n runs others
reads_go a asked.Unique (done.Unique segments bytes) m n read runs (is, others) = stays m n runs others
reads_go a (asked.GcStart percent) (done.Started snapshot) m n read runs (none, is, others) =
    record { now = ap (λ (x : F). x.now) others; state = ap (λ (x : F). x.state) others ∙ runs }
reads_go a asked.GcStep (done.Did phase) m n read runs goes = record { now = ap (λ (x : F). x.now) goes.others; state = ap (λ (x : F). x.state) goes.others ∙ runs }
reads_go a asked.GcStep (done.Collected freed copied) m n read runs ends = record { now = ap (λ (x : F). x.now) ends.others; state = ap (λ (x : F). x.state) ends.others ∙ runs }
reads_go a (asked.OpenRead name) answer m n read runs does = absurd does
reads_go a asked.ReadNext answer m n read runs does = absurd does
reads_go a asked.EndRead answer m n read runs does = absurd does
reads_go a asked.Abort answer m n read runs does = absurd does
reads_go a asked.ListNames answer m n read runs does = absurd does
reads_go a asked.Stat answer m n read runs does = absurd does
reads_go a asked.Unique answer m n read runs does = absurd does
reads_go a (asked.GcStart percent) answer m n read runs does = absurd does
reads_go a asked.GcStep answer m n read runs does = absurd does
reads_go a step answer m n read runs does = absurd read

by_running : (a : ℕ) (step : Asked (List ℕ)) (told : Result Done Refusal) (m n : F) → m.state ≡ Running → ByState of_files m.state a step told m n
    → Answers of_files a step told m n
by_running a step told m n runs by = subst (λ (st : RunState (List ℕ)). ByState of_files st a step told m n) runs by

-- ---- fine steps

reopen_goes : (answer : Done) (m n : F) → m.state ≡ Running → Reopens of_files (Ok answer) m n → Goes m n
reopen_goes (done.Reopened files) m n runs o = record {
  now = ap (λ (x : F). x.now) o.others ∙ subst (λ (st : RunState (List ℕ)). MayBeFound of_files st m.now o.found) runs (o.may tt);
  state = ap (λ (x : F). x.state) o.others;
}
reopen_goes answer m n runs o = absurd o

fine_goes : (a : ℕ) (step : Asked (List ℕ)) (told : Result Done Refusal) (m n : F) → IsFine step → IsTold told → m.state ≡ Running
    → Legal of_files (record { actor = a; asked = step; answer = told }) m n → Goes m n
fine_goes a asked.Begin (Ok answer) m n fine ok runs legal = step_done a asked.Begin answer m n tt runs legal
fine_goes a (asked.Claim seg) (Ok answer) m n fine ok runs legal = step_done a (asked.Claim seg) answer m n tt runs legal
fine_goes a (asked.Seal offered) (Ok answer) m n fine ok runs legal = step_done a (asked.Seal offered) answer m n tt runs legal
fine_goes a asked.Reopen (Ok answer) m n fine ok runs legal = reopen_goes answer m n runs legal
fine_goes a (asked.OpenRead name) (Ok answer) m n fine ok runs legal = reads_go a (asked.OpenRead name) answer m n tt runs
    (by_running a (asked.OpenRead name) (Ok answer) m n runs legal)
fine_goes a asked.ReadNext (Ok answer) m n fine ok runs legal = reads_go a asked.ReadNext answer m n tt runs (by_running a asked.ReadNext (Ok answer) m n runs legal)
fine_goes a asked.ListNames (Ok answer) m n fine ok runs legal = reads_go a asked.ListNames answer m n tt runs (by_running a asked.ListNames (Ok answer) m n runs legal)
fine_goes a asked.EndRead (Ok answer) m n fine ok runs legal = reads_go a asked.EndRead answer m n tt runs (by_running a asked.EndRead (Ok answer) m n runs legal)
fine_goes a asked.Abort (Ok answer) m n fine ok runs legal = reads_go a asked.Abort answer m n tt runs (by_running a asked.Abort (Ok answer) m n runs legal)
fine_goes a asked.Stat (Ok answer) m n fine ok runs legal = reads_go a asked.Stat answer m n tt runs (by_running a asked.Stat (Ok answer) m n runs legal)
fine_goes a asked.Unique (Ok answer) m n fine ok runs legal = reads_go a asked.Unique answer m n tt runs (by_running a asked.Unique (Ok answer) m n runs legal)
fine_goes a (asked.GcStart percent) (Ok answer) m n fine ok runs legal = reads_go a (asked.GcStart percent) answer m n tt runs
    (by_running a (asked.GcStart percent) (Ok answer) m n runs legal)
fine_goes a asked.GcStep (Ok answer) m n fine ok runs legal = reads_go a asked.GcStep answer m n tt runs (by_running a asked.GcStep (Ok answer) m n runs legal)
fine_goes a step (Ok answer) m n fine ok runs legal = absurd fine
fine_goes a step (Err refusal) m n fine ok runs legal = absurd ok

-- ---- what may be found on the way

pub sure_found : (state : RunState (List ℕ)) (now x : Found (List ℕ)) → IsSure state → MayBeFound of_files state now x → x ≡ now
sure_found Running now x sure may = may
sure_found (Stopped None stores) now x sure may = may
sure_found (Stopped (Some other) stores) now x sure may = absurd sure

-- At each moment of a run of such steps what may be found is what was, or what may be found at its end.
pub passes : (now : Found (List ℕ)) (first : ℕ) (xs : List Step) (m n : F) (run : Run of_files xs m n) → Good xs → m.now ≡ now
    → m.state ≡ Running → (x : Found (List ℕ)) → IsPassedFrom of_files first xs m n run x → IsStill first now x ⊎ IsFoundAt first n x
passes now first xs m n run good same runs x passed = by xs m run good same runs passed
  where
    still : (m : F) → m.now ≡ now → m.state ≡ Running → IsFoundAt first m x → IsStill first now x
    still m same runs (later, may) =
        (sure_found m.state m.now x (running_sure m.state runs) may ∙ same, subst (λ (f : Found (List ℕ)). first ≤ f.last) same later)

    by : (xs : List Step) (m : F) (run : Run of_files xs m n) → Good xs → m.now ≡ now → m.state ≡ Running → IsPassedFrom of_files first xs m n run x
        → IsStill first now x ⊎ IsFoundAt first n x
    by [] m run good same runs here = inl (still m same runs here)
    by (s ∷ []) m run good same runs (inl here) = inl (still m same runs here)
    by (s ∷ []) m run good same runs (inr here) = inr (subst (λ (k : F). IsFoundAt first k x) (sym run.1.1) here)
    by (s ∷ t ∷ more) m run good same runs (inl here) = inl (still m same runs here)
    by (s ∷ t ∷ more) m run good same runs (inr passed) =
        let goes = fine_goes s.actor s.asked s.answer m run.0 good.0 good.1 runs run.1.0 in
        by (t ∷ more) run.0 run.1.1 good.2 (goes.now ∙ same) goes.state passed
