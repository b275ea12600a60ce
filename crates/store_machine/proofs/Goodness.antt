-- The steps that the lines of an `ingest` make are such, with the file that was given.
use Rattle.store_machine.proofs.Prelude.{◌≡◌, ◌⊎◌, inl, inr, ℕ, [], ◌∷◌, ◌++◌, Result, Ok, Err, refl, sym, ◌∙◌, subst, Refusal, LineValue, pushed_bytes, ReplyValue, Asked, AllFollow, AreLinesOf, Follows, Ingest, IsPush, Lines, Replied, given_after, given_by, run_of, Done, Line, Pushes, Session, TurnsStop, reply_of, step_of, Found, Running, desk, of_files}
use Rattle.std.proofs.Common.{List}
use Rattle.std.proofs.lemmas.List.{append-nil}
use Rattle.script_lines.specs.Grammar as lines
use Rattle.script_lines.specs.ReplyValue as replies
use Rattle.store_machine.specs.Asked as asked
use Rattle.store_machine.specs.Ingests.{IngestsThrough}
use Rattle.store_machine.specs.Lines.{Commits}
use Rattle.store_machine.proofs.Ingesting.{D, Stage, Went, begin_went, commit_put, opened_went, pushes, reply_by, run_one}
use Rattle.store_machine.proofs.Passing.{AllOk, Good, IsFine, ok_good, passes, turns_ok}
use Rattle.store_machine.proofs.Quiet.{F, Step}

-- all were done; or the line was refused, or put the name, and no line comes after it
abbrev pub Fit : List ℕ → ReplyValue → List Step → Type 0
Fit name reply ss = AllOk ss ⊎ (Good ss × ((line : LineValue) → Follows (Ingest name) reply line → ⊥))

none_after : (name : List ℕ) (reply : ReplyValue) (refusal : Refusal) → reply ≡ replies.Refused refusal → (line : LineValue) → Follows (Ingest name) reply line → ⊥
none_after name reply refusal is line follows = subst (λ (r : ReplyValue). Follows (Ingest name) r line) is follows

ok_all : (xs : List Step) → AllOk xs → Good xs
ok_all [] ok = tt
ok_all (x ∷ []) ok = tt
ok_all (x ∷ y ∷ xs) ok = (ok.0, ok.1, ok_all (y ∷ xs) ok.2)

no_steps : (name : List ℕ) (reply : ReplyValue) (ss : List Step) → ss ≡ [] → Fit name reply ss
no_steps name reply ss none = inl (subst AllOk (sym none) tt)

-- one step that puts no name
one_step : (name : List ℕ) (reply : ReplyValue) (a : ℕ) (step : Asked (List ℕ)) (told : Result Done Refusal) (ss : List Step) → IsFine step
    → ss ≡ step_of of_files a step told ∷ [] → reply ≡ reply_of a told → Fit name reply ss
one_step name reply a step (Ok answer) ss fine is by = inl (subst AllOk (sym is) (fine, tt, tt))
one_step name reply a step (Err refusal) ss fine is by = inr (subst Good (sym is) tt, none_after name reply refusal by)

stopped_fit : (name : List ℕ) (a : ℕ) (s t : Session) (reply : ReplyValue) (ss : List Step) → TurnsStop of_files a s reply ss t → Fit name reply ss
stopped_fit name a s t reply ss (made, turns, (refusal, reply_is, inl (memory, is))) =
    inr (subst Good (sym is) (ok_all made (turns_ok a made s t turns).0), none_after name reply refusal reply_is)
stopped_fit name a s t reply ss (made, turns, (refusal, reply_is, inr (step, due, (told, is, by)))) =
    inr (subst Good (sym is) (ok_good made (step_of of_files a step told ∷ []) (turns_ok a made s t turns).0 tt), none_after name reply refusal reply_is)

push_fit : (name bytes : List ℕ) (reply : ReplyValue) (ss : List Step) (d e : D) → Pushes of_files 0 bytes reply ss d e → Fit name reply ss
push_fit name bytes reply ss d e (s, t, moves, room, inl (turns, how)) = inl (turns_ok 0 ss s t turns).0
push_fit name bytes reply ss d e (s, t, moves, room, inr stop) = stopped_fit name 0 s t reply ss stop

commit_good : (name : List ℕ) (reply : ReplyValue) (ss : List Step) (d e : D) → Commits of_files 0 name reply ss d e → Good ss
commit_good name reply ss d e (s, t, moves, inr stop) = good_of (stopped_fit name 0 s t reply ss stop)
  where
    good_of : Fit name reply ss → Good ss
    good_of (inl ok) = ok_all ss ok
    good_of (inr fit) = fit.0
commit_good name reply ss d e (s, t, moves, inl (made, turns, nothing, (told, is, by))) =
    subst Good (sym is) (ok_good made (step_of of_files 0 (asked.Commit name t.given) told ∷ []) (turns_ok 0 made s t turns).0 tt)

-- ---- each line

begin_fit : (name : List ℕ) (reply : ReplyValue) (ss : List Step) (d e : D) → Line of_files (lines.Begin 0) reply ss d e → Fit name reply ss
begin_fit name reply ss d e (run, inl (admits, (sessions, inl (told, is, by)))) = one_step name reply 0 asked.Begin told ss tt is by
begin_fit name reply ss d e (run, inl (admits, (sessions, inr (memory, none)))) = no_steps name reply ss none
begin_fit name reply ss d e (run, inr (refusal, bars, is, none, sessions)) = no_steps name reply ss none

push_line_fit : (name digits : List ℕ) (reply : ReplyValue) (ss : List Step) (d e : D) → Line of_files (lines.Push 0 digits) reply ss d e → Fit name reply ss
push_line_fit name digits reply ss d e (run, inl (admits, acts)) = push_fit name (pushed_bytes digits) reply ss d e acts
push_line_fit name digits reply ss d e (run, inr (refusal, bars, is, none, sessions)) = no_steps name reply ss none

finish_fit : (name : List ℕ) (reply : ReplyValue) (ss : List Step) (d e : D) → Line of_files (lines.Finish 0) reply ss d e → Fit name reply ss
finish_fit name reply ss d e (run, inl (admits, (s, moves, none, how))) = no_steps name reply ss none
finish_fit name reply ss d e (run, inr (refusal, bars, is, none, sessions)) = no_steps name reply ss none

commit_line_good : (name : List ℕ) (reply : ReplyValue) (ss : List Step) (d e : D) → Line of_files (lines.Commit 0 name) reply ss d e → Good ss
commit_line_good name reply ss d e (run, inl (admits, acts)) = commit_good name reply ss d e acts
commit_line_good name reply ss d e (run, inr (refusal, bars, is, none, sessions)) = subst Good (sym none) tt

either_fit : (name : List ℕ) (line : LineValue) (reply : ReplyValue) (ss : List Step) (d e : D) → IsPush line ⊎ (line ≡ lines.Finish 0) → Line of_files line reply ss d e
    → Fit name reply ss
either_fit name (lines.Push a digits) reply ss d e (inl is) line =
    push_line_fit name digits reply ss d e (subst (λ (x : ℕ). Line of_files (lines.Push x digits) reply ss d e) is line)
either_fit name line reply ss d e (inr is) made = finish_fit name reply ss d e (subst (λ (l : LineValue). Line of_files l reply ss d e) is made)
either_fit name line reply ss d e (inl is) made = absurd is

module _ (name : List ℕ) (now : Found (List ℕ)) where
  -- of a line that puts no name, whatever file is given at last; of one that does, the file that is given
  abbrev Does : Replied → (given : List ℕ) → D → D → List Step → Type 0
  Does one given d mid ss = (Went now one.reply (given_after 0 one.line one.reply given) mid × Fit name one.reply ss)
      ⊎ (Good ss × ((line : LineValue) → Follows (Ingest name) one.reply line → ⊥))

  does : (reply : ReplyValue) (one : Replied) (given : List ℕ) (d mid : D) (ss : List Step) → Stage now reply given d → Follows (Ingest name) reply one.line
      → Line of_files one.line one.reply ss d mid → Does one given d mid ss
  does (replies.Opened files) one given d mid ss ready is line =
      let made : Line of_files (lines.Begin 0) one.reply ss d mid = subst (λ (l : LineValue). Line of_files l one.reply ss d mid) is line in
      inl (
        subst (λ (l : LineValue). Went now one.reply (given_after 0 l one.reply given) mid) (sym is)
            (begin_went now d mid ss one.reply given ready made),
        begin_fit name one.reply ss d mid made,
      )
  does (replies.Begun a) one given d mid ss stage follows line =
      inl (pushes now one.line one.reply ss d mid given stage.0 stage.1 follows line, either_fit name one.line one.reply ss d mid follows line)
  does (replies.Pushed a count) one given d mid ss stage follows line =
      inl (pushes now one.line one.reply ss d mid given stage.0 stage.1 follows line, either_fit name one.line one.reply ss d mid follows line)
  does (replies.Finished a count) one given d mid ss stage is line =
      let made : Line of_files (lines.Commit 0 name) one.reply ss d mid = subst (λ (l : LineValue). Line of_files l one.reply ss d mid) is line in
      let put = commit_put now d mid ss one.reply name given stage.0 stage.1 made in
      inr (commit_line_good name one.reply ss d mid made, put.last)
  does reply one given d mid ss stage follows line = absurd follows

  -- no line comes after one
  none_left : (given : List ℕ) (first later : List Step) (one : Replied) (more : List Replied) (mid e : D) → Good first
      → ((line : LineValue) → Follows (Ingest name) one.reply line → ⊥) → AllFollow (Ingest name) one more
      → Lines of_files more later mid e → Good (first ++ later)
  none_left given first later one [] mid e good none follow (is, same) =
      subst (λ (ys : List Step). Good (first ++ ys)) (sym is) (subst Good (sym (append-nil first)) good)
  none_left given first later one (x ∷ xs) mid e good none (ends, follows, rest) ran = absurd (none x.line follows)

  pub good_all : (rs : List Replied) (prev : Replied) (given : List ℕ) (d e : D) (ss : List Step) → Went now prev.reply given d → AllFollow (Ingest name) prev rs
      → Lines of_files rs ss d e → Good ss
  good_all [] prev given d e ss went follow (none, is) = subst Good (sym none) tt
  good_all (one ∷ more) prev given d e ss went (ends, follows, rest) (first, later, mid, is, line, ran) =
      subst Good (sym is) (by (does prev.reply one given d mid first went.stage follows line)
      (λ w. good_all more one (given_after 0 one.line one.reply given) mid e later w rest ran))
    where
      by : Does one given d mid first
          → (Went now one.reply (given_after 0 one.line one.reply given) mid → Good later)
          → Good (first ++ later)
      by (inl (w, inl ok)) on = ok_good first later ok (on w)
      by (inl (w, inr fit)) on = none_left (given_by 0 given (one ∷ more)) first later one more mid e fit.0 fit.1 rest ran
      by (inr (good, none)) on = none_left given first later one more mid e good none rest ran

-- all lines, the opening with them
pub all_good : (name : List ℕ) (rs : List Replied) (ss : List Step) (m : F) (e : D) → m.state ≡ Running → AreLinesOf (Ingest name) rs → Lines of_files rs ss (desk m) e
    → Good ss
all_good name [] ss m e runs lines_are (none, is) = subst Good (sym none) tt
all_good name (one ∷ more) ss m e runs (first, follow) (made, later, mid, is, line, ran) =
    let opened : Line of_files lines.Reopen one.reply made (desk m) mid = subst (λ (l : LineValue). Line of_files l one.reply made (desk m) mid) first line in
    let a = opened.1.0.0 in
    let told = opened.1.0.1.0 in
    let step_is : made ≡ step_of of_files a asked.Reopen told ∷ [] = opened.1.0.1.1 in
    let legal = run_one (step_of of_files a asked.Reopen told) made m mid.machine step_is opened.0 in
    let went : Went m.now one.reply [] mid = opened_went m mid made one.reply told runs (opened.1.0.1.2 ∙ reply_by a 0 told m mid.machine legal) legal opened.1.1 in
    let rest = good_all name m.now more one [] mid e later went follow ran in
    let fit : Fit name one.reply made = one_step name one.reply a asked.Reopen told made tt step_is opened.1.0.1.2 in
    subst Good (sym is) (by mid e made later ran follow rest fit)
  where
    by : (mid e : D) (made later : List Step) → Lines of_files more later mid e → AllFollow (Ingest name) one more → Good later
        → Fit name one.reply made → Good (made ++ later)
    by mid e made later ran follow rest (inl ok) = ok_good made later ok rest
    by mid e made later ran follow rest (inr fit) = none_left name m.now (given_by 0 [] more) made later one more mid e fit.0 fit.1 follow ran

pub ingests_through : IngestsThrough
ingests_through name first rs ss m e runs lines_are ran x passed =
    passes m.now first ss m e.machine (run_of of_files rs ss (desk m) e ran) (all_good name rs ss m e runs lines_are ran) refl runs x passed
