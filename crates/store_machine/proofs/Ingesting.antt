-- The lines of an `ingest` put the file that was given under its name, and do nothing else of the names: what may be found at their end.
use Rattle.store_machine.proofs.Prelude.{◌≡◌, ◌⊎◌, inl, inr, ◌≤◌, ◌<◌, ◌-◌, ◌^◌, ℕ, Bool, true, false, [], ◌∷◌, ◌++◌, length, slice_index_or, slice_set, Option, Some, None, Result, Ok, Err, refl, sym, ◌∙◌, ap, subst, arith, MOST_FILE, Refusal, LineValue, pushed_bytes, ReplyValue, Store, AllFollow, AreLinesOf, EndsRefused, EndsWith, Follows, Ingest, IsDone, IsPush, Lines, Replied, given_after, given_by, Done, HasRoomFor, IsPut, Answers, ByState, Does, HasNumbers, Legal, MayCommit, Refuses, RefusesCommit, with_name, Acts, Desk, Finishes, Line, Pushes, Session, TurnsStop, all_none, new_session, reply_of, session_of, step_of, unless_refused, Found, RunState, Running, Stopped, MayBeFound, Reopens, freeing, desk, Run, of_files}
use Rattle.std.proofs.Common.{List}
use Rattle.std.proofs.lemmas.Option.{same_Some}
use Rattle.refusals.specs.declared.refusal.Refusal.TheVariants as refusals
use Rattle.script_lines.specs.Grammar as lines
use Rattle.script_lines.specs.ReplyValue as replies
use Rattle.store_machine.specs.Asked as asked
use Rattle.store_machine.specs.Done as done
use Rattle.store_machine.specs.Ingests.{EndsCommitting}
use Rattle.store_machine.specs.Lines.{Commits, with_session}
use Rattle.store_machine.proofs.Quiet.{IsSure, running_sure, F, Goes, Quiet, Step, due_is_quiet, quiet_of, step_quiet, turns_go}
use Rattle.store_machine.specs.Machine.{Machine, Stepped}
use Rattle.store_machine.specs.Values.{Values}

abbrev pub D : Type 0
D = Desk (List ℕ) (List (List ℕ))

-- ---- runs of few steps

pub run_one : (x : Step) (ss : List Step) (m n : F) → ss ≡ x ∷ [] → Run of_files ss m n → Legal of_files x m n
run_one x ss m n is run = let one = subst (λ (xs : List Step). Run of_files xs m n) is run in subst (Legal of_files x m) (sym one.1.1) one.1.0

pub run_parts : {V R : Type 0} (v : Values V R) (xs ys : List (Stepped V)) (m n : Machine V R) → Run v (xs ++ ys) m n
    → (mid : Machine V R) × Run v xs m mid × Run v ys mid n
run_parts v [] ys m n run = (m, refl, run)
run_parts v (x ∷ xs) ys m n (next, (legal, run)) = let rest = run_parts v xs ys next n run in (rest.0, (next, (legal, rest.1)), rest.2)

-- ---- what is so after a line

-- the names are as they were, it runs, and the first actor has a place for a session
pub record Ready (now : Found (List ℕ)) (d : D) : Type 0 where
  pub same : d.machine.now ≡ now
  pub runs : d.machine.state ≡ Running
  pub some : 0 < length d.sessions

-- and it gives these bytes
pub record Gives (given : List ℕ) (ended : Bool) (d : D) : Type 0 where
  pub session : Session
  pub is : session_of of_files d 0 ≡ Some session
  pub given_is : session.given ≡ given
  pub ended_is : session.ended ≡ ended

abbrev pub Stage : Found (List ℕ) → ReplyValue → List ℕ → D → Type 0
Stage now (replies.Opened files) given d = Ready now d
Stage now (replies.Begun a) given d = Ready now d × Gives given false d
Stage now (replies.Pushed a count) given d = Ready now d × Gives given false d
Stage now (replies.Finished a count) given d = Ready now d × Gives given true d
Stage now reply given d = Unit {0}

-- it was a quiet line, and the next stage was reached, unless it was refused
pub record Went (now : Found (List ℕ)) (reply : ReplyValue) (given : List ℕ) (e : D) : Type 0 where
  pub quiet : (e.machine.now ≡ now) × IsSure e.machine.state
  pub stage : Stage now reply given e
  pub undone : (name : List ℕ) → IsDone (Ingest name) reply → ⊥

refused_went : (now : Found (List ℕ)) (refusal : Refusal) (reply : ReplyValue) (given : List ℕ) (d e : D) → reply ≡ replies.Refused refusal → d.machine.now ≡ now
    → Quiet d.machine e.machine → Went now reply given e
refused_went now refusal reply given d e is same quiet =
    record {
      quiet = (quiet.now ∙ same, quiet.state);
      stage = subst (λ (r : ReplyValue). Stage now r given e) (sym is) tt;
      undone = λ name done. subst
          (IsDone (Ingest name)) is done;
    }

none_made : (d e : D) (ss : List Step) → d.machine.state ≡ Running → ss ≡ [] → Run of_files ss d.machine e.machine → Goes d.machine e.machine
none_made d e ss runs is run =
    let same = subst (λ (xs : List Step). Run of_files xs d.machine e.machine) is run in record { now = ap (λ (x : F). x.now) same; state = ap (λ (x : F). x.state) same ∙ runs }

-- ---- sessions

pub index_set : (sessions : List (Option Session)) (s : Option Session) → 0 < length sessions → slice_index_or (slice_set sessions 0 s) 0 None ≡ s
index_set [] s some = absurd (omega (arith, some))
index_set (x ∷ xs) s some = refl

pub length_set : (sessions : List (Option Session)) (s : Option Session) → 0 < length sessions → 0 < length (slice_set sessions 0 s)
length_set [] s some = absurd (omega (arith, some))
length_set (x ∷ xs) s some = omega arith

pub same_session : (s t : Session) → Some s ≡ Some t → s ≡ t
same_session s t is = cc

-- ---- a push

module _ (now : Found (List ℕ)) (d e : D) (ss : List Step) (run : Run of_files ss d.machine e.machine) (ready : Ready now d) where
  stopped_went : (a : ℕ) (s t : Session) (reply : ReplyValue) (given : List ℕ) → TurnsStop of_files a s reply ss t → Went now reply given e
  stopped_went a s t reply given (made, turns, (refusal, reply_is, inl (memory, is))) =
      let turned = turns_go a made s t d.machine e.machine ready.runs turns (subst (λ (xs : List Step). Run of_files xs d.machine e.machine) is run) in
      refused_went now refusal reply given d e reply_is ready.same (quiet_of d.machine e.machine turned.goes)
  stopped_went a s t reply given (made, turns, (refusal, reply_is, inr (step, due, (told, is, by)))) =
      let parts = run_parts of_files made (step_of of_files a step told ∷ []) d.machine e.machine (subst (λ (xs : List Step). Run of_files xs d.machine e.machine) is run) in
      let turned = turns_go a made s t d.machine parts.0 ready.runs turns parts.1 in
      let legal = run_one (step_of of_files a step told) (step_of of_files a step told ∷ []) parts.0 e.machine refl parts.2 in
      let last : Quiet parts.0 e.machine = step_quiet a step told parts.0 e.machine (due_is_quiet t step due) turned.goes.state legal in
      refused_went now refusal reply given d e reply_is ready.same (record { now = last.now ∙ turned.goes.now; state = last.state })

  pushed_went : (bytes given : List ℕ) (reply : ReplyValue) → Gives given false d → Pushes of_files 0 bytes reply ss d e
      → ((count : ℕ) × (reply ≡ replies.Pushed 0 count) × ((given_now : List ℕ) → given_now ≡ given ++ bytes → Went now reply given_now e))
      ⊎ ((given_now : List ℕ) → Went now reply given_now e)
  pushed_went bytes given reply gives (s, t, (was, sessions), room, inr stop) = inr (λ given_now. stopped_went 0 s t reply given_now stop)
  pushed_went bytes given reply gives (s, t, (was, sessions), room, inl (turns, inr (is, long))) =
      let turned = turns_go 0 ss s t d.machine e.machine ready.runs turns run in
      inr (λ given_now. refused_went now refusals.TooLong reply given_now d e is ready.same (quiet_of d.machine e.machine turned.goes))
  pushed_went bytes given reply gives (s, t, (was, sessions), room, inl (turns, inl (is, few))) =
      let reply_is : reply ≡ replies.Pushed 0 (length (t.given ++ bytes)) = is in
      inl (
        length (t.given ++ bytes),
        is,
        λ given_now given_is.
            let turned = turns_go 0 ss s t d.machine e.machine ready.runs turns run in
            let own : s ≡ gives.session = same_session s gives.session (sym was ∙ gives.is) in
            let after : Session = record t { given = t.given ++ bytes } in
            let sessions_are : e.sessions ≡ slice_set d.sessions 0 (Some after) =
            sessions ∙ ap (λ (r : ReplyValue). slice_set d.sessions 0 (Some (unless_refused r after t))) reply_is in
            record {
              quiet = (turned.goes.now ∙ ready.same, running_sure e.machine.state turned.goes.state);
              stage = subst (λ (r : ReplyValue). Stage now r given_now e) (sym reply_is) (
                record {
                  same = turned.goes.now
                      ∙ ready.same;
                  runs = turned.goes.state;
                  some = subst (λ (l : List (Option Session)). 0 < length l) (sym sessions_are)
                      (length_set d.sessions (Some after) ready.some);
                },
                record {
                  session = after;
                  is = ap (λ (l : List (Option Session)). slice_index_or l 0 None) sessions_are ∙ index_set d.sessions (Some after) ready.some;
                  given_is = ap (λ (g : List ℕ). g ++ bytes) (turned.given ∙ ap (λ (x : Session). x.given) own ∙ gives.given_is) ∙ sym given_is;
                  ended_is = turned.ended ∙ ap (λ (x : Session). x.ended) own ∙ gives.ended_is;
                },
              );
              undone = λ name done. subst (IsDone (Ingest name)) reply_is done;
            },
      )

  push_line : (digits given : List ℕ) (reply : ReplyValue) → Gives given false d → Pushes of_files 0 (pushed_bytes digits) reply ss d e
      → Went now reply (given_after 0 (lines.Push 0 digits) reply given) e
  push_line digits given reply gives pushes = by (pushed_went (pushed_bytes digits) given reply gives pushes)
    where
      by : ((count : ℕ) × (reply ≡ replies.Pushed 0 count) × ((given_now : List ℕ) → given_now ≡ given ++ pushed_bytes digits → Went now reply given_now e))
          ⊎ ((given_now : List ℕ) → Went now reply given_now e)
          → Went now reply (given_after 0 (lines.Push 0 digits) reply given) e
      by (inl (count, is, goes)) = goes (given_after 0 (lines.Push 0 digits) reply given) (ap (λ (r : ReplyValue). given_after 0 (lines.Push 0 digits) r given) is)
      by (inr goes) = goes (given_after 0 (lines.Push 0 digits) reply given)

  -- ---- the end of the file, and a beginning

  finish_line : (given : List ℕ) (reply : ReplyValue) → Gives given false d → Finishes of_files 0 reply ss d e → Went now reply given e
  finish_line given reply gives (s, (was, sessions), none, inr memory) =
      refused_went now refusals.Memory reply given d e memory ready.same (quiet_of d.machine e.machine (none_made d e ss ready.runs none run))
  finish_line given reply gives (s, (was, sessions), none, inl is) =
      let goes = none_made d e ss ready.runs none run in
      let own : s ≡ gives.session = same_session s gives.session (sym was ∙ gives.is) in
      let after : Session = record s { ended = true } in
      let sessions_are : e.sessions ≡ slice_set d.sessions 0 (Some after) = sessions ∙ ap (λ (r : ReplyValue). slice_set d.sessions 0 (Some (unless_refused r after s))) is in
      record {
        quiet = (goes.now ∙ ready.same, running_sure e.machine.state goes.state);
        stage = subst (λ (r : ReplyValue). Stage now r given e) (sym is) (
          record {
            same = goes.now
                ∙ ready.same;
            runs = goes.state;
            some = subst (λ (l : List (Option Session)). 0 < length l) (sym sessions_are) (length_set d.sessions (Some after) ready.some);
          },
          record {
            session = after;
            is = ap (λ (l : List (Option Session)). slice_index_or l 0 None) sessions_are ∙ index_set d.sessions (Some after) ready.some;
            given_is = ap (λ (x : Session). x.given) own ∙ gives.given_is;
            ended_is = refl;
          },
        );
        undone = λ name done. subst (IsDone (Ingest name)) is done;
      }

  begun_by : (told : Result Done Refusal) (reply : ReplyValue) → e.sessions ≡ with_session of_files 0 (unless_refused reply (Some new_session) (session_of of_files d 0)) d
      → ss ≡ step_of of_files 0 asked.Begin told ∷ [] → reply ≡ reply_of 0 told → (given : List ℕ) → Went now reply (given_after 0 (lines.Begin 0) reply given) e
  begun_by (Err refusal) reply sessions is reply_is given =
      let legal = run_one (step_of of_files 0 asked.Begin (Err refusal)) ss d.machine e.machine is run in
      refused_went now refusal reply (given_after 0 (lines.Begin 0) reply given) d e reply_is ready.same
      (step_quiet 0 asked.Begin (Err refusal) d.machine e.machine tt ready.runs legal)
  begun_by (Ok answer) reply sessions is reply_is given =
      begun_ok answer reply sessions reply_is given (subst (λ (st : RunState (List ℕ)). ByState of_files st 0 asked.Begin (Ok answer) d.machine e.machine) ready.runs
      (run_one (step_of of_files 0 asked.Begin (Ok answer)) ss d.machine e.machine is run))
    where
      begun_ok : (answer : Done) (reply : ReplyValue) → e.sessions ≡ with_session of_files 0 (unless_refused reply (Some new_session) (session_of of_files d 0)) d
          → reply ≡ reply_of 0 (Ok answer) → (given : List ℕ) → Does of_files 0 asked.Begin answer d.machine e.machine
          → Went now reply (given_after 0 (lines.Begin 0) reply given) e
      begun_ok done.Begun reply sessions reply_is given (idle, others) =
          let own : e.machine.now ≡ now = ap (λ (x : F). x.now) others ∙ ready.same in
          let runs : e.machine.state ≡ Running = ap (λ (x : F). x.state) others ∙ ready.runs in
          let sessions_are : e.sessions ≡ slice_set d.sessions 0 (Some new_session) =
          sessions ∙ ap (λ (r : ReplyValue). slice_set d.sessions 0 (unless_refused r (Some new_session) (session_of of_files d 0))) reply_is in
          record {
            quiet = (own, running_sure e.machine.state runs);
            stage = subst (λ (r : ReplyValue). Stage now r (given_after 0 (lines.Begin 0) r given) e) (sym reply_is) (
              record {
                same = own;
                runs = runs;
                some = subst (λ (l : List (Option Session)). 0 < length l) (sym sessions_are)
                    (length_set d.sessions (Some new_session) ready.some);
              },
              record {
                session = new_session;
                is = ap (λ (l : List (Option Session)). slice_index_or l 0 None) sessions_are
                    ∙ index_set d.sessions (Some new_session) ready.some;
                given_is = refl;
                ended_is = refl;
              },
            );
            undone = λ name done. subst (IsDone (Ingest name)) reply_is done;
          }
      begun_ok answer reply sessions reply_is given does = absurd does

  begin_line : (given : List ℕ) (reply : ReplyValue) → Acts of_files (lines.Begin 0) reply ss d e → Went now reply (given_after 0 (lines.Begin 0) reply given) e
  begin_line given reply (sessions, inl (told, is, reply_is)) = begun_by told reply sessions is reply_is given
  begin_line given reply (sessions, inr (memory, none)) =
      refused_went now refusals.Memory reply (given_after 0 (lines.Begin 0) reply given) d e memory ready.same (quiet_of d.machine e.machine (none_made d e ss ready.runs none run))

  -- ---- a commit

  pub record Put (name given : List ℕ) (reply : ReplyValue) : Type 0 where
    pub found : (x : Found (List ℕ)) → MayBeFound of_files e.machine.state e.machine.now x → (x ≡ now) ⊎ IsPut name given now x
    pub same : (IsDone (Ingest name) reply → ⊥) → e.machine.now ≡ now
    pub sure : (refusal : Refusal) → reply ≡ replies.Refused refusal → ((refusal ≡ refusals.DiskWrite) → ⊥) → IsSure e.machine.state
    pub last : (line : LineValue) → Follows (Ingest name) reply line → ⊥
    pub done : IsDone (Ingest name) reply → IsPut name given now e.machine.now × (e.machine.state ≡ Running)

  quiet_put : (name given : List ℕ) (reply : ReplyValue) (refusal : Refusal) → reply ≡ replies.Refused refusal → Quiet d.machine e.machine → Put name given reply
  quiet_put name given reply refusal is quiet = record {
    found = λ x may. inl (by e.machine.state quiet.state x may ∙ quiet.now ∙ ready.same);
    same = λ _. quiet.now ∙ ready.same;
    sure = λ _ _ _. quiet.state;
    last = λ line follows. subst (λ (r : ReplyValue). Follows (Ingest name) r line) is follows;
    done = λ done. absurd (subst (IsDone (Ingest name)) is done);
  }
    where
      by : (st : RunState (List ℕ)) → IsSure st → (x : Found (List ℕ)) → MayBeFound of_files st e.machine.now x → x ≡ e.machine.now
      by Running is x may = may
      by (Stopped None stores) is x may = may
      by (Stopped (Some other) stores) is x may = absurd is

  stopped_quiet : (a : ℕ) (s t : Session) (reply : ReplyValue) → TurnsStop of_files a s reply ss t
      → (refusal : Refusal) × (reply ≡ replies.Refused refusal) × Quiet d.machine e.machine
  stopped_quiet a s t reply (made, turns, (refusal, reply_is, inl (memory, is))) =
      let turned = turns_go a made s t d.machine e.machine ready.runs turns (subst (λ (xs : List Step). Run of_files xs d.machine e.machine) is run) in
      (refusal, reply_is, quiet_of d.machine e.machine turned.goes)
  stopped_quiet a s t reply (made, turns, (refusal, reply_is, inr (step, due, (told, is, by)))) =
      let parts = run_parts of_files made (step_of of_files a step told ∷ []) d.machine e.machine (subst (λ (xs : List Step). Run of_files xs d.machine e.machine) is run) in
      let turned = turns_go a made s t d.machine parts.0 ready.runs turns parts.1 in
      let legal = run_one (step_of of_files a step told) (step_of of_files a step told ∷ []) parts.0 e.machine refl parts.2 in
      let last : Quiet parts.0 e.machine = step_quiet a step told parts.0 e.machine (due_is_quiet t step due) turned.goes.state legal in
      (refusal, reply_is, record { now = last.now ∙ turned.goes.now; state = last.state })

  -- after turns the name is put, or isn't, from a machine whose names are as they were
  module _ (name given file : List ℕ) (file_is : file ≡ given) (mid : F) (goes : Goes d.machine mid) (reply : ReplyValue) where
    same_mid : mid.now ≡ now
    same_mid = goes.now ∙ ready.same

    named : with_name of_files name file mid.now ≡ with_name of_files name given now
    named = ap (λ (x : Found (List ℕ)). with_name of_files name file x) same_mid ∙ ap (λ (f : List ℕ). with_name of_files name f now) file_is

    put_refused : (refusal : Refusal) → reply ≡ replies.Refused refusal → Quiet mid e.machine → Put name given reply
    put_refused refusal is quiet = quiet_put name given reply refusal is (record { now = quiet.now ∙ goes.now; state = quiet.state })

    at_rest : (refusal : Refusal) → reply ≡ replies.Refused refusal → e.machine ≡ mid → Put name given reply
    at_rest refusal is others =
        put_refused refusal is (record { now = ap (λ (x : F). x.now) others; state = running_sure e.machine.state (ap (λ (x : F). x.state) others ∙ goes.state) })

    is_put : (x : Found (List ℕ)) → MayCommit of_files 0 name file mid → length file ≤ MOST_FILE → HasNumbers of_files mid → x ≡ with_name of_files name file mid.now
        → IsPut name given now x
    is_put x may few numbers is = (
      is ∙ named,
      may.named,
      subst (λ (f : List ℕ). length f ≤ MOST_FILE) file_is few,
      subst (HasRoomFor name) same_mid may.room,
      subst (λ (f : Found (List ℕ)). f.last < 2 ^ 64 - 1) same_mid numbers.0,
    )

    in_doubt : reply ≡ replies.Refused refusals.DiskWrite → MayCommit of_files 0 name file mid → length file ≤ MOST_FILE → HasNumbers of_files mid → (stores : List Store)
        → e.machine ≡ record mid { state = Stopped (Some (with_name of_files name file mid.now)) stores } → Put name given reply
    in_doubt is able few numbers stores others = record {
      found = λ x may. by x (subst (λ (m : F). MayBeFound of_files m.state m.now x) others may);
      same = λ _. ap (λ (x : F). x.now) others ∙ same_mid;
      sure = λ refusal is_other other.
          absurd (other (let both : replies.Refused refusal ≡ replies.Refused refusals.DiskWrite = sym is_other ∙ is in cc));
      last = λ line follows. subst (λ (r : ReplyValue). Follows (Ingest name) r line) is follows;
      done = λ done. absurd (subst (IsDone (Ingest name)) is done);
    }
      where
        by : (x : Found (List ℕ)) → (x ≡ mid.now) ⊎ (x ≡ with_name of_files name file mid.now) → (x ≡ now) ⊎ IsPut name given now x
        by x (inl is) = inl (is ∙ same_mid)
        by x (inr is) = inr (is_put x able few numbers is)

    commit_refused : (refusal : Refusal) → reply ≡ replies.Refused refusal → RefusesCommit of_files 0 name file refusal mid e.machine → Put name given reply
    commit_refused refusals.Memory is others = at_rest refusals.Memory is others
    commit_refused refusals.BadName is (bad, others) = at_rest refusals.BadName is others
    commit_refused refusals.TooMany is (good, none, many, others) = at_rest refusals.TooMany is others
    commit_refused (refusals.Unpinned key) is (good, room, key_is, pins, others) = at_rest (refusals.Unpinned key) is others
    commit_refused refusals.Numbers is (may, lacks, others) = at_rest refusals.Numbers is others
    commit_refused refusals.DiskWrite is (may, has, right, whole, others) = in_doubt is may right has _ others
    commit_refused refusal is refuses = absurd refuses

    refused_put : (refusal : Refusal) → reply ≡ replies.Refused refusal → Refuses of_files 0 (asked.Commit name file) refusal mid e.machine → Put name given reply
    refused_put (refusals.WrongPart kind) is (wrong, others) = at_rest (refusals.WrongPart kind) is others
    refused_put refusals.Memory is on = commit_refused refusals.Memory is on
    refused_put refusal is (right, on) = commit_refused refusal is on

    done_put : (answer : Done) → reply ≡ reply_of 0 (Ok answer) → Does of_files 0 (asked.Commit name file) answer mid e.machine → Put name given reply
    done_put (done.Committed sequence) is does =
        let now_is : IsPut name given now e.machine.now = is_put e.machine.now does.may does.right does.numbers (ap (λ (x : F). x.now) does.others) in
        let runs : e.machine.state ≡ Running = ap (λ (x : F). x.state) does.others ∙ goes.state in
        record {
          found = λ x may. inr
              (subst (IsPut name given now) (sym (subst (λ (st : RunState (List ℕ)). MayBeFound of_files st e.machine.now x) runs may)) now_is);
          same = λ not. absurd (not (subst (IsDone (Ingest name)) (sym is) tt));
          sure = λ refusal is_other. absurd (let no : replies.Committed 0 sequence ≡ replies.Refused refusal = sym is ∙ is_other in cc);
          last = λ line follows. subst (λ (r : ReplyValue). Follows (Ingest name) r line) is follows;
          done = λ _. (now_is, runs);
        }
    done_put answer is does = absurd does

    put_by : (told : Result Done Refusal) → reply ≡ reply_of 0 told → Answers of_files 0 (asked.Commit name file) told mid e.machine → Put name given reply
    put_by (Ok answer) is does = done_put answer is does
    put_by (Err refusal) is refuses = refused_put refusal is refuses

  commit_line : (name given : List ℕ) (reply : ReplyValue) → Gives given true d → Commits of_files 0 name reply ss d e → Put name given reply
  commit_line name given reply gives (s, t, moves, inr stop) = let quiet = stopped_quiet 0 s t reply stop in quiet_put name given reply quiet.0 quiet.1 quiet.2
  commit_line name given reply gives (s, t, (was, sessions), inl (made, turns, nothing, (told, is, by))) =
      let step = step_of of_files 0 (asked.Commit name t.given) told in
      let parts = run_parts of_files made (step ∷ []) d.machine e.machine (subst (λ (xs : List Step). Run of_files xs d.machine e.machine) is run) in
      let turned = turns_go 0 made s t d.machine parts.0 ready.runs turns parts.1 in
      let legal = run_one step (step ∷ []) parts.0 e.machine refl parts.2 in
      let own : s ≡ gives.session = same_session s gives.session (sym was ∙ gives.is) in
      let answered : Answers of_files 0 (asked.Commit name t.given) told parts.0 e.machine =
      subst (λ (st : RunState (List ℕ)). ByState of_files st 0 (asked.Commit name t.given) told parts.0 e.machine) turned.goes.state legal in
      put_by name given t.given (turned.given ∙ ap (λ (x : Session). x.given) own ∙ gives.given_is) parts.0 turned.goes reply told by answered

-- ---- line after line

-- a line that is no `reopen`: what is so of one that is admitted, and of one that is barred
plain : (line : LineValue) (reply : ReplyValue) (ss : List Step) (d e : D) → Line of_files line reply ss d e → ¬ (line ≡ lines.Reopen) → Run of_files ss d.machine e.machine
    × (Acts of_files line reply ss d e ⊎ ((refusal : Refusal) × (reply ≡ replies.Refused refusal) × (ss ≡ [])))
plain lines.Reopen reply ss d e is other = absurd (other refl)
plain line reply ss d e (run, inl (admits, acts)) other = (run, inl acts)
plain line reply ss d e (run, inr (refusal, bars, reply_is, none, sessions)) other = (run, inr (refusal, reply_is, none))

barred : (now : Found (List ℕ)) (d e : D) (ss : List Step) (reply : ReplyValue) (given : List ℕ) (refusal : Refusal) → Run of_files ss d.machine e.machine → Ready now d
    → reply ≡ replies.Refused refusal → ss ≡ [] → Went now reply given e
barred now d e ss reply given refusal run ready is none =
    refused_went now refusal reply given d e is ready.same (quiet_of d.machine e.machine (none_made d e ss ready.runs none run))

pub begin_went : (now : Found (List ℕ)) (d e : D) (ss : List Step) (reply : ReplyValue) (given : List ℕ) → Ready now d → Line of_files (lines.Begin 0) reply ss d e
    → Went now reply (given_after 0 (lines.Begin 0) reply given) e
begin_went now d e ss reply given ready (run, inl (admits, acts)) = begin_line now d e ss run ready given reply acts
begin_went now d e ss reply given ready (run, inr (refusal, bars, is, none, sessions)) =
    barred now d e ss reply (given_after 0 (lines.Begin 0) reply given) refusal run ready is none

push_went : (now : Found (List ℕ)) (d e : D) (ss : List Step) (reply : ReplyValue) (digits given : List ℕ) → Ready now d → Gives given false d
    → Line of_files (lines.Push 0 digits) reply ss d e → Went now reply (given_after 0 (lines.Push 0 digits) reply given) e
push_went now d e ss reply digits given ready gives (run, inl (admits, acts)) = push_line now d e ss run ready digits given reply gives acts
push_went now d e ss reply digits given ready gives (run, inr (refusal, bars, is, none, sessions)) =
    barred now d e ss reply (given_after 0 (lines.Push 0 digits) reply given) refusal run ready is none

finish_went : (now : Found (List ℕ)) (d e : D) (ss : List Step) (reply : ReplyValue) (given : List ℕ) → Ready now d → Gives given false d
    → Line of_files (lines.Finish 0) reply ss d e → Went now reply given e
finish_went now d e ss reply given ready gives (run, inl (admits, acts)) = finish_line now d e ss run ready given reply gives acts
finish_went now d e ss reply given ready gives (run, inr (refusal, bars, is, none, sessions)) = barred now d e ss reply given refusal run ready is none

pub commit_put : (now : Found (List ℕ)) (d e : D) (ss : List Step) (reply : ReplyValue) (name given : List ℕ) → (ready : Ready now d) → Gives given true d
    → (line : Line of_files (lines.Commit 0 name) reply ss d e) → Put now d e ss line.0 ready name given reply
commit_put now d e ss reply name given ready gives (run, inl (admits, acts)) = commit_line now d e ss run ready name given reply gives acts
commit_put now d e ss reply name given ready gives (run, inr (refusal, bars, is, none, sessions)) =
    quiet_put now d e ss run ready name given reply refusal is (quiet_of d.machine e.machine (none_made d e ss ready.runs none run))

-- a push, or the end
pub pushes : (now : Found (List ℕ)) (line : LineValue) (reply : ReplyValue) (ss : List Step) (d e : D) (given : List ℕ) → Ready now d → Gives given false d
    → IsPush line ⊎ (line ≡ lines.Finish 0) → Line of_files line reply ss d e → Went now reply (given_after 0 line reply given) e
pushes now (lines.Push a digits) reply ss d e given ready gives (inl is) line =
    subst (λ (l : LineValue). Went now reply (given_after 0 l reply given) e) (ap (λ (x : ℕ). lines.Push x digits) (sym is))
    (push_went now d e ss reply digits given ready gives (subst (λ (x : ℕ). Line of_files (lines.Push x digits) reply ss d e) is line))
pushes now line reply ss d e given ready gives (inr is) made =
    subst (λ (l : LineValue). Went now reply (given_after 0 l reply given) e) (sym is)
    (finish_went now d e ss reply given ready gives (subst (λ (l : LineValue). Line of_files l reply ss d e) is made))
pushes now line reply ss d e given ready gives (inl is) made = absurd is

-- what may be found at the end
pub record Kept (name given : List ℕ) (rs : List Replied) (now : Found (List ℕ)) (n : F) : Type 0 where
  pub found : (x : Found (List ℕ)) → MayBeFound of_files n.state n.now x → (x ≡ now) ⊎ (IsPut name given now x × EndsCommitting name rs)
  pub same : (EndsWith (λ one. IsDone (Ingest name) one.reply) rs → ⊥) → n.now ≡ now
  pub sure : (refusal : Refusal) → EndsRefused refusal rs → ((refusal ≡ refusals.DiskWrite) → ⊥) → IsSure n.state
  pub done : EndsWith (λ one. IsDone (Ingest name) one.reply) rs → IsPut name given now n.now × (n.state ≡ Running)

module _ (name : List ℕ) (now : Found (List ℕ)) where
  abbrev End : List ℕ → List Replied → F → Type 0
  End given rs n = Kept name given rs now n

  no_more : (given : List ℕ) (prev : Replied) (d e : D) (ss : List Step) → Went now prev.reply given d → Lines of_files [] ss d e → End given [] e.machine
  no_more given prev d e ss went (none, is) = record {
    found = λ x may. inl (by d.machine.state went.quiet.1 x (subst (λ (y : D). MayBeFound of_files y.machine.state y.machine.now x) is may) ∙ went.quiet.0);
    same = λ _. ap (λ (y : D). y.machine.now) is ∙ went.quiet.0;
    sure = λ _ _ _. subst (λ (y : D). IsSure y.machine.state) (sym is) went.quiet.1;
    done = λ end. absurd (let wrong : None ≡ Some end.0 = end.1 in cc);
  }
    where
      by : (st : RunState (List ℕ)) → IsSure st → (x : Found (List ℕ)) → MayBeFound of_files st d.machine.now x → x ≡ d.machine.now
      by Running is x may = may
      by (Stopped None stores) is x may = may
      by (Stopped (Some other) stores) is x may = absurd is

  -- what a line does, by the reply before it
  abbrev pub Next : Replied → List ℕ → D → D → List Step → Type 0
  Next one given d mid ss = Went now one.reply (given_after 0 one.line one.reply given) mid ⊎ ((given_after 0 one.line one.reply given ≡ given)
      × (one.line ≡ lines.Commit 0 name) × ((run : Run of_files ss d.machine mid.machine) × (ready : Ready now d) × Put now d mid ss run ready name given one.reply))

  pub next : (reply : ReplyValue) (one : Replied) (given : List ℕ) (d mid : D) (ss : List Step) → Stage now reply given d → Follows (Ingest name) reply one.line
      → Line of_files one.line one.reply ss d mid → Next one given d mid ss
  next (replies.Opened files) one given d mid ss ready is line =
      inl (subst (λ (l : LineValue). Went now one.reply (given_after 0 l one.reply given) mid) (sym is)
      (begin_went now d mid ss one.reply given ready (subst (λ (l : LineValue). Line of_files l one.reply ss d mid) is line)))
  next (replies.Begun a) one given d mid ss stage follows line = inl (pushes now one.line one.reply ss d mid given stage.0 stage.1 follows line)
  next (replies.Pushed a count) one given d mid ss stage follows line = inl (pushes now one.line one.reply ss d mid given stage.0 stage.1 follows line)
  next (replies.Finished a count) one given d mid ss stage is line =
      let made : Line of_files (lines.Commit 0 name) one.reply ss d mid = subst (λ (l : LineValue). Line of_files l one.reply ss d mid) is line in
      inr (ap (λ (l : LineValue). given_after 0 l one.reply given) is, is, (made.0, stage.0, commit_put now d mid ss one.reply name given stage.0 stage.1 made))
  next reply one given d mid ss stage follows line = absurd follows

  -- no line comes after one that put the name, or was refused
  last_one : (given : List ℕ) (one : Replied) (more : List Replied) (d mid e : D) (ss later : List Step) (run : Run of_files ss d.machine mid.machine) (ready : Ready now d)
      → Put now d mid ss run ready name given one.reply → one.line ≡ lines.Commit 0 name
      → AllFollow (Ingest name) one more → Lines of_files more later mid e → (more ≡ []) × End given (one ∷ []) e.machine
  last_one given one [] d mid e ss later run ready put commits follow (none, is) = (
    refl,
    record {
      found = λ x may. elim (put.found x (subst (λ (y : D). MayBeFound of_files y.machine.state y.machine.now x) is may)) [
        | inl still ↦ inl still
        | inr has ↦ inr (has, (one, refl, commits))
      ];
      same = λ not. ap (λ (y : D). y.machine.now) is ∙ put.same (λ d. not (one, refl, d));
      sure = λ refusal end other. subst (λ (y : D). IsSure y.machine.state) (sym is)
          (put.sure refusal (ap (λ (x : Replied). x.reply) (same_Some one end.0 end.1) ∙ end.2) other);
      done = λ end. subst (λ (y : D). IsPut name given now y.machine.now × (y.machine.state ≡ Running)) (sym is)
          (put.done (subst (λ (x : Replied). IsDone (Ingest name) x.reply) (sym (same_Some one end.0 end.1)) end.2));
    },
  )
  last_one given one (x ∷ xs) d mid e ss later run ready put commits (ends, follows, rest) ran = absurd (put.last x.line follows)

  -- what is so of the lines that are left is so of all, where the first was not done
  all_of : (given : List ℕ) (one : Replied) (more : List Replied) (n : F) → (IsDone (Ingest name) one.reply → ⊥) → (more ≡ [] → IsSure n.state) → End given more n
      → End given (one ∷ more) n
  all_of given one [] n undone sure end = record {
    found = λ x may. elim (end.found x may) [ inl still ↦ inl still | inr put ↦ absurd (let wrong : None ≡ Some put.1.0 = put.1.1 in cc) ];
    same = λ _. end.same (λ d. let wrong : None ≡ Some d.0 = d.1 in cc);
    sure = λ _ _ _. sure refl;
    done = λ d. absurd (undone (subst (λ (x : Replied). IsDone (Ingest name) x.reply) (sym (same_Some one d.0 d.1)) d.2));
  }
  all_of given one (x ∷ xs) n undone sure end = record { found = end.found; same = end.same; sure = end.sure; done = end.done }

  -- where no line is left the machine is the one of before
  none_left : (more : List Replied) (mid e : D) (later : List Step) → IsSure mid.machine.state → Lines of_files more later mid e → more ≡ [] → IsSure e.machine.state
  none_left [] mid e later sure (none, is) empty = subst (λ (y : D). IsSure y.machine.state) (sym is) sure
  none_left (x ∷ xs) mid e later sure ran empty = absurd (let wrong : x ∷ xs ≡ [] = empty in cc)

  all : (rs : List Replied) (prev : Replied) (given : List ℕ) (d e : D) (ss : List Step) → Went now prev.reply given d → AllFollow (Ingest name) prev rs
      → Lines of_files rs ss d e → End (given_by 0 given rs) rs e.machine
  all [] prev given d e ss went follow ran = no_more given prev d e ss went ran
  all (one ∷ more) prev given d e ss went (ends, follows, rest) (first, later, mid, is, line, ran) =
      by (next prev.reply one given d mid first went.stage follows line) (λ w. all more one (given_after 0 one.line one.reply given) mid e later w rest ran)
    where
      by : Next one given d mid first
          → (Went now one.reply (given_after 0 one.line one.reply given) mid → End (given_by 0 (given_after 0 one.line one.reply given) more) more e.machine)
          → End (given_by 0 given (one ∷ more)) (one ∷ more) e.machine
      by (inl w) on = all_of (given_by 0 given (one ∷ more)) one more e.machine (w.undone name) (none_left more mid e later w.quiet.1 ran) (on w)
      by (inr (same, commits, (run, ready, put))) on =
          let last = last_one given one more d mid e first later run ready put commits rest ran in
          subst (λ (xs : List Replied). End (given_by 0 given (one ∷ xs)) (one ∷ xs) e.machine) (sym last.0) (subst (λ (g : List ℕ). End g (one ∷ []) e.machine) (sym same) last.1)

-- ---- the opening

pub opened_went : (m : F) (mid : D) (ss : List Step) (reply : ReplyValue) (told : Result Done Refusal) → m.state ≡ Running → reply ≡ reply_of 0 told
    → Reopens of_files told m mid.machine
    → mid.sessions ≡ unless_refused reply (all_none (desk m).sessions) (desk m).sessions → Went m.now reply [] mid
opened_went m mid ss reply (Err refusal) runs is (may, inl others) sessions =
    refused_went m.now refusal reply [] (desk m) mid is refl
    (record { now = ap (λ (x : F). x.now) others; state = running_sure mid.machine.state (ap (λ (x : F). x.state) others ∙ runs) })
opened_went m mid ss reply (Err refusal) runs is (may, inr (stores, others, why, known)) sessions =
    refused_went m.now refusal reply [] (desk m) mid is refl
    (record { now = ap (λ (x : F). x.now) others; state = subst IsSure (sym (ap (λ (x : F). x.state) others ∙ ap (freeing of_files stores) runs)) tt })
opened_went m mid ss reply (Ok (done.Reopened files)) runs is opens sessions =
    let found : opens.found ≡ m.now = subst (λ (st : RunState (List ℕ)). MayBeFound of_files st m.now opens.found) runs (opens.may tt) in
    let now_is : mid.machine.now ≡ m.now = ap (λ (x : F). x.now) opens.others ∙ found in
    let state_is : mid.machine.state ≡ Running = ap (λ (x : F). x.state) opens.others in
    let sessions_are : mid.sessions ≡ all_none (desk m).sessions = sessions ∙ ap (λ (r : ReplyValue). unless_refused r (all_none (desk m).sessions) (desk m).sessions) is in
    record {
      quiet = (now_is, running_sure mid.machine.state state_is);
      stage =
          subst (λ (r : ReplyValue). Stage m.now r [] mid) (sym is)
          (record { same = now_is; runs = state_is; some = subst (λ (l : List (Option Session)). 0 < length l) (sym sessions_are) (omega arith) });
      undone = λ name done. subst (IsDone (Ingest name)) is done;
    }
opened_went m mid ss reply (Ok answer) runs is opens sessions = absurd opens

pub reply_by : (a b : ℕ) (told : Result Done Refusal) (m n : F) → Reopens of_files told m n → reply_of a told ≡ reply_of b told
reply_by a b (Ok (done.Reopened files)) m n opens = refl
reply_by a b (Ok answer) m n opens = absurd opens
reply_by a b (Err refusal) m n opens = refl

pub ingests_kept : (name : List ℕ) (rs : List Replied) (ss : List Step) (m : F) (e : D) → m.state ≡ Running → AreLinesOf (Ingest name) rs → Lines of_files rs ss (desk m) e
    → Kept name (given_by 0 [] rs) rs m.now e.machine
ingests_kept name [] ss m e runs lines_are (none, is) = record {
  found = λ x may. inl (subst (λ (st : RunState (List ℕ)). MayBeFound of_files st m.now x) runs (subst (λ (y : D). MayBeFound of_files y.machine.state y.machine.now x) is may));
  same = λ _. ap (λ (y : D). y.machine.now) is;
  sure = λ refusal end. absurd (let wrong : None ≡ Some end.0 = end.1 in cc);
  done = λ end. absurd (let wrong : None ≡ Some end.0 = end.1 in cc);
}
ingests_kept name (one ∷ more) ss m e runs (first, follow) (made, later, mid, is, line, ran) =
    let opened : Line of_files lines.Reopen one.reply made (desk m) mid = subst (λ (l : LineValue). Line of_files l one.reply made (desk m) mid) first line in
    let a = opened.1.0.0 in
    let told = opened.1.0.1.0 in
    let legal : Reopens of_files told m mid.machine = run_one (step_of of_files a asked.Reopen told) made m mid.machine opened.1.0.1.1 opened.0 in
    let went = opened_went m mid made one.reply told runs (opened.1.0.1.2 ∙ reply_by a 0 told m mid.machine legal) legal opened.1.1 in
    let given_is : given_after 0 one.line one.reply [] ≡ [] = ap (λ (l : LineValue). given_after 0 l one.reply []) first in
    let rest = all name m.now more one [] mid e later went follow ran in
    subst (λ (g : List ℕ). Kept name (given_by 0 g more) (one ∷ more) m.now e.machine) (sym given_is)
    (all_of name m.now (given_by 0 [] more) one more e.machine (went.undone name) (none_left name m.now more mid e later went.quiet.1 ran) rest)
