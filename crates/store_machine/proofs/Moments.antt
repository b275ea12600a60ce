-- What may be found at each moment of a `restore`, a `delete` or a `list`: each line is one step, and at most the last changes a name.
use Rattle.store_machine.proofs.Prelude.{◌≡◌, ◌⊎◌, inl, inr, ℕ, ListOf, [], ◌∷◌, ◌++◌, Result, Ok, Err, refl, sym, subst, Refusal, LineValue, ReplyValue, Asked, FileMachine, AllFollow, AreLinesOf, Collect, Command, Delete, Follows, Lines, Replied, Restore, desk, run_of, Done, ByState, Does, Legal, AreDid, Line, reply_of, step_of, RunState, Running, of_files}
use Rattle.std.proofs.lemmas.List.{append-nil}
use Rattle.script_lines.specs.Grammar as lines
use Rattle.script_lines.specs.ReplyValue as replies
use Rattle.store_machine.specs.Asked as asked
use Rattle.store_machine.specs.ByMap.{DeletesThrough, ListsThrough, RestoresThrough}
use Rattle.store_machine.specs.CollectsAlone.{CollectsThrough}
use Rattle.store_machine.specs.Commands.{List}
use Rattle.store_machine.specs.Done as done
use Rattle.store_machine.specs.Lines.{Ends}
use Rattle.store_machine.proofs.Ingesting.{run_one}
use Rattle.store_machine.proofs.Passing.{AllOk, Good, IsFine, IsTold, ok_good, passes}
use Rattle.store_machine.proofs.Quiet.{Step}
use Rattle.store_machine.proofs.Stepwise.{Desks}

-- ---- the steps that lines make

all_ok : (xs : ListOf Step) (x : Step) → AllOk xs → IsFine x.asked → IsTold x.answer → AllOk (xs ++ x ∷ [])
all_ok [] x ok fine told = (fine, told, tt)
all_ok (y ∷ ys) x (own, was, ok) fine told = (own, was, all_ok ys x ok fine told)

module _ (command : Command) where
  -- all were done, and may be followed; or no line comes after this one
  abbrev pub Fits : ReplyValue → ListOf Step → Type 0
  Fits reply ss = AllOk ss ⊎ (Good ss × ((line : LineValue) → Follows command reply line → ⊥))

  module _ (refused : (refusal : Refusal) (line : LineValue) → Follows command (replies.Refused refusal) line → ⊥) where
    -- a step that changes no name
    pub fine_fits : (a : ℕ) (step : Asked (ListOf ℕ)) (reply : ReplyValue) (ss : ListOf Step) → IsFine step → Ends of_files a [] step reply ss → Fits reply ss
    fine_fits a step reply ss fine (Ok answer, is, reply_is) = inl (subst AllOk (sym is) (fine, tt, tt))
    fine_fits a step reply ss fine (Err refusal, is, reply_is) =
        inr (subst Good (sym is) tt, λ line follows. refused refusal line (subst (λ (r : ReplyValue). Follows command r line) reply_is follows))

    module _
        (fits : (prev : ReplyValue) (one : Replied) (d mid : Desks) (ss : ListOf Step) → Follows command prev one.line → Line of_files one.line one.reply ss d mid
        → Fits one.reply ss) where
      good_after : (first later : ListOf Step) (one : Replied) (more : ListOf Replied) (mid e : Desks) → Fits one.reply first → AllFollow command one more
          → Lines of_files more later mid e
          → Good later → Good (first ++ later)
      good_after first later one more mid e (inl ok) follow ran good = ok_good first later ok good
      good_after first later one [] mid e (inr (own, none)) follow (is, same) good =
          subst (λ (ys : ListOf Step). Good (first ++ ys)) (sym is) (subst Good (sym (append-nil first)) own)
      good_after first later one (x ∷ xs) mid e (inr (own, none)) (ends, follows, rest) ran good = absurd (none x.line follows)

      good_lines : (rs : ListOf Replied) (prev : Replied) (d e : Desks) (ss : ListOf Step) → AllFollow command prev rs → Lines of_files rs ss d e → Good ss
      good_lines [] prev d e ss follow (none, is) = subst Good (sym none) tt
      good_lines (one ∷ more) prev d e ss (ends, follows, rest) (first, later, mid, is, line, ran) =
          subst Good (sym is) (good_after first later one more mid e (fits prev.reply one d mid first follows line) rest ran (good_lines more one mid e later rest ran))

      pub all_good : (rs : ListOf Replied) (ss : ListOf Step) (d e : Desks) → AreLinesOf command rs → Lines of_files rs ss d e → Good ss
      all_good [] ss d e lines_are (none, is) = subst Good (sym none) tt
      all_good (one ∷ more) ss d e (first, follow) (made, later, mid, is, line, ran) =
          let opening : Line of_files lines.Reopen one.reply made d mid = subst (λ (l : LineValue). Line of_files l one.reply made d mid) first line in
          subst Good (sym is)
          (good_after made later one more mid e (fine_fits opening.1.0.0 asked.Reopen one.reply made tt opening.1.0.1) follow ran (good_lines more one mid e later follow ran))

-- ---- restore and list

module _ (name : ListOf ℕ) where
  restore_ends : (refusal : Refusal) (line : LineValue) → Follows (Restore name) (replies.Refused refusal) line → ⊥
  restore_ends refusal line follows = follows

  restore_fits : (prev : ReplyValue) (one : Replied) (d mid : Desks) (ss : ListOf Step) → Follows (Restore name) prev one.line → Line of_files one.line one.reply ss d mid
      → Fits (Restore name) one.reply ss
  restore_fits prev one d mid ss follows line = by prev follows
    where
      reads : Line of_files (lines.Read 0 name) one.reply ss d mid → Fits (Restore name) one.reply ss
      reads (run, inl (admits, (a, step, (a_is, step_is), ends, sessions))) =
          fine_fits (Restore name) restore_ends a (asked.OpenRead name) one.reply ss tt (subst (λ (s : Asked (ListOf ℕ)). Ends of_files a [] s one.reply ss) step_is ends)
      reads (run, inr (refusal, bars, is, no_steps, sessions)) = inl (subst AllOk (sym no_steps) tt)

      nexts : Line of_files (lines.Next 0) one.reply ss d mid → Fits (Restore name) one.reply ss
      nexts (run, inl (admits, (a, step, (a_is, step_is), ends, sessions))) =
          fine_fits (Restore name) restore_ends a asked.ReadNext one.reply ss tt (subst (λ (s : Asked (ListOf ℕ)). Ends of_files a [] s one.reply ss) step_is ends)
      nexts (run, inr (refusal, bars, is, no_steps, sessions)) = inl (subst AllOk (sym no_steps) tt)

      next_so : one.line ≡ lines.Next 0 → Fits (Restore name) one.reply ss
      next_so is = nexts (subst (λ (l : LineValue). Line of_files l one.reply ss d mid) is line)

      by : (prev : ReplyValue) → Follows (Restore name) prev one.line → Fits (Restore name) one.reply ss
      by (replies.Opened files) is = reads (subst (λ (l : LineValue). Line of_files l one.reply ss d mid) is line)
      by (replies.Reading a count) is = next_so is
      by (replies.Bytes a bytes) is = next_so is
      by reply follows = absurd follows

pub restores_through : RestoresThrough
restores_through name first rs ss m e runs lines_are ran x passed =
    passes m.now first ss m e.machine (run_of of_files rs ss (desk m) e ran)
    (all_good (Restore name) (restore_ends name) (restore_fits name) rs ss (desk m) e lines_are ran) refl runs x passed

list_ends : (refusal : Refusal) (line : LineValue) → Follows List (replies.Refused refusal) line → ⊥
list_ends refusal line follows = follows

list_fits : (prev : ReplyValue) (one : Replied) (d mid : Desks) (ss : ListOf Step) → Follows List prev one.line → Line of_files one.line one.reply ss d mid
    → Fits List one.reply ss
list_fits prev one d mid ss follows line = by prev follows
  where
    lists : Line of_files lines.ListNames one.reply ss d mid → Fits List one.reply ss
    lists (run, inl (admits, (a, step, step_is, ends, sessions))) =
        fine_fits List list_ends a asked.ListNames one.reply ss tt (subst (λ (s : Asked (ListOf ℕ)). Ends of_files a [] s one.reply ss) step_is ends)
    lists (run, inr (refusal, bars, is, no_steps, sessions)) = inl (subst AllOk (sym no_steps) tt)

    by : (prev : ReplyValue) → Follows List prev one.line → Fits List one.reply ss
    by (replies.Opened files) is = lists (subst (λ (l : LineValue). Line of_files l one.reply ss d mid) is line)
    by reply follows = absurd follows

pub lists_through : ListsThrough
lists_through first rs ss m e runs lines_are ran x passed =
    passes m.now first ss m e.machine (run_of of_files rs ss (desk m) e ran)
    (all_good List list_ends list_fits rs ss (desk m) e lines_are ran) refl runs x passed

-- ---- delete

module _ (name : ListOf ℕ) where
  delete_ends : (refusal : Refusal) (line : LineValue) → Follows (Delete name) (replies.Refused refusal) line → ⊥
  delete_ends refusal line follows = follows

  -- nothing follows the one line
  only_one : (a : ℕ) (told : Result Done Refusal) (m n : FileMachine) → Legal of_files (step_of of_files a (asked.Delete name) told) m n → m.state ≡ Running → (line : LineValue)
      → Follows (Delete name) (reply_of a told) line → ⊥
  only_one a (Err refusal) m n legal runs line follows = follows
  only_one a (Ok answer) m n legal runs line follows =
      by answer (subst (λ (st : RunState (ListOf ℕ)). ByState of_files st a (asked.Delete name) (Ok answer) m n) runs legal) follows
    where
      by : (answer : Done) → Does of_files a (asked.Delete name) answer m n → Follows (Delete name) (reply_of a (Ok answer)) line → ⊥
      by (done.Deleted sequence) does follows = follows
      by answer does follows = absurd does

  delete_fits : (prev : ReplyValue) (one : Replied) (d mid : Desks) (ss : ListOf Step) → Follows (Delete name) prev one.line → Line of_files one.line one.reply ss d mid
      → Fits (Delete name) one.reply ss
  delete_fits prev one d mid ss follows line = by prev follows
    where
      deletes : Line of_files (lines.Delete name) one.reply ss d mid → Fits (Delete name) one.reply ss
      deletes (run, inl (admits, (a, step, step_is, ends, sessions))) =
          let own = subst (λ (s : Asked (ListOf ℕ)). Ends of_files a [] s one.reply ss) step_is ends in
          let legal = run_one (step_of of_files a (asked.Delete name) own.0) ss d.machine mid.machine own.1 run in
          inr (
            subst Good (sym own.1) tt,
            λ line follows. only_one a own.0 d.machine mid.machine legal admits.0 line (subst (λ (r : ReplyValue). Follows (Delete name) r line) own.2 follows),
          )
      deletes (run, inr (refusal, bars, is, no_steps, sessions)) = inl (subst AllOk (sym no_steps) tt)

      by : (prev : ReplyValue) → Follows (Delete name) prev one.line → Fits (Delete name) one.reply ss
      by (replies.Opened files) is = deletes (subst (λ (l : LineValue). Line of_files l one.reply ss d mid) is line)
      by reply follows = absurd follows

pub deletes_through : DeletesThrough
deletes_through name first rs ss m e runs lines_are ran x passed =
    passes m.now first ss m e.machine (run_of of_files rs ss (desk m) e ran)
    (all_good (Delete name) (delete_ends name) (delete_fits name) rs ss (desk m) e lines_are ran) refl runs x passed

-- ---- collect

module _ (percent : ℕ) where
  collect_ends : (refusal : Refusal) (line : LineValue) → Follows (Collect percent) (replies.Refused refusal) line → ⊥
  collect_ends refusal line follows = follows

  did_ok : (made : ListOf Step) → AreDid of_files made → AllOk made
  did_ok [] did = tt
  did_ok (x ∷ xs) (asked_is, (phase, answer_is), more) = (subst IsFine (sym asked_is) tt, subst IsTold (sym answer_is) tt, did_ok xs more)

  collect_fits : (prev : ReplyValue) (one : Replied) (d mid : Desks) (ss : ListOf Step) → Follows (Collect percent) prev one.line → Line of_files one.line one.reply ss d mid
      → Fits (Collect percent) one.reply ss
  collect_fits prev one d mid ss follows line = by prev follows
    where
      begins : Line of_files (lines.Gc percent) one.reply ss d mid → Fits (Collect percent) one.reply ss
      begins (run, inl (admits, (a, step, step_is, ends, sessions))) =
          fine_fits (Collect percent) collect_ends a (asked.GcStart percent) one.reply ss tt
          (subst (λ (s : Asked (ListOf ℕ)). Ends of_files a [] s one.reply ss) step_is ends)
      begins (run, inr (refusal, bars, is, no_steps, sessions)) = inl (subst AllOk (sym no_steps) tt)

      -- the last of them
      with_last : (made : ListOf Step) (a : ℕ) → AllOk made → Ends of_files a made asked.GcStep one.reply ss → Fits (Collect percent) one.reply ss
      with_last made a ok (Ok answer, is, reply_is) = inl (subst AllOk (sym is) (all_ok made (step_of of_files a asked.GcStep (Ok answer)) ok tt tt))
      with_last made a ok (Err refusal, is, reply_is) = inr (
        subst Good (sym is) (ok_good made (step_of of_files a asked.GcStep (Err refusal) ∷ []) ok tt),
        λ line follows. subst (λ (r : ReplyValue). Follows (Collect percent) r line) reply_is follows,
      )

      sweeps : Line of_files lines.Sweep one.reply ss d mid → Fits (Collect percent) one.reply ss
      sweeps (run, inl (admits, (made, a, did, ends, last, sessions))) = with_last made a (did_ok made did) ends
      sweeps (run, inr (refusal, bars, is, no_steps, sessions)) = inl (subst AllOk (sym no_steps) tt)

      by : (prev : ReplyValue) → Follows (Collect percent) prev one.line → Fits (Collect percent) one.reply ss
      by (replies.Opened files) is = begins (subst (λ (l : LineValue). Line of_files l one.reply ss d mid) is line)
      by (replies.Collecting snapshot) is = sweeps (subst (λ (l : LineValue). Line of_files l one.reply ss d mid) is line)
      by reply follows = absurd follows

pub collects_through : CollectsThrough
collects_through percent first rs ss m e runs lines_are ran x passed =
    passes m.now first ss m e.machine (run_of of_files rs ss (desk m) e ran)
    (all_good (Collect percent) (collect_ends percent) (collect_fits percent) rs ss (desk m) e lines_are ran) refl runs x passed
