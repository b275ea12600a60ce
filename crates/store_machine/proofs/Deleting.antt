-- The lines of a `delete` take the name away, or nothing.
use Rattle.store_machine.proofs.Prelude.{◌≡◌, ◌⊎◌, inl, inr, ◌<◌, ◌-◌, ◌^◌, true, ℕ, ListOf, [], ◌∷◌, ◌++◌, Option, Some, None, is_some, Result, Ok, Err, refl, sym, ◌∙◌, ap, subst, IsName, Gone, Refusal, LineValue, ReplyValue, Store, CanRise, with_change, Asked, FileMachine, IsGone, RunsWith, Delete, EndsWith, Follows, IsDone, Replied, text_of, Done, Answers, Does, HasName, HasNumbers, Refuses, RefusesDelete, broken_by, without_name, Line, reply_of, Found, Idle, Running, Stopped, MayBeFound, of_files}
use Rattle.std.specs.FinMap as finite
use Rattle.refusals.specs.declared.refusal.Refusal.TheVariants as refusals
use Rattle.reply_text.specs.Text.{deleted_line}
use Rattle.script_lines.specs.Grammar as lines
use Rattle.script_lines.specs.ReplyValue as replies
use Rattle.store_machine.specs.Asked as asked
use Rattle.store_machine.specs.ByMap.{DeleteRefusal, DeletedName, DeletesByMap, DeletesIn}
use Rattle.store_machine.specs.Done as done
use Rattle.store_machine.specs.Lines.{Ends}
use Rattle.store_machine.proofs.Passing.{sure_found}
use Rattle.store_machine.proofs.Quiet.{running_sure}
use Rattle.store_machine.proofs.Stepwise.{At, Desks, IsFailure, NotOpened, Over, Step, WasOpened, ends_from, ends_over, ends_so, last_from, lines_after, no_actor, not_barred, one_step, opened_store, unopened_ends, unopened_found, unopened_printed, unopened_refusal, unopened_same, unopened_store, unopened_undone}

pub has_file : (o : Option (ListOf ℕ)) → is_some o ≡ true → (file : ListOf ℕ) × (o ≡ Some file)
has_file None is = absurd cc
has_file (Some file) is = (file, refl)

module _ (name : ListOf ℕ) (now : Found (ListOf ℕ)) (opened : Store) where
  abbrev gone : Found (ListOf ℕ)
  gone = without_name of_files name now

  abbrev Stage : ReplyValue → ListOf ℕ → Desks → Type 0
  Stage (replies.Opened files) text d = At now opened Idle d × (text ≡ [])
  Stage reply text d = Unit {0}

  -- what may be found
  abbrev Finds : Desks → (Found (ListOf ℕ) → Type 0) → Type 0
  Finds d P = (x : Found (ListOf ℕ)) → MayBeFound of_files d.machine.state d.machine.now x → P x

  -- its write failed, and the name may be gone
  abbrev Broke : FileMachine → Type 0
  Broke n = (n.state ≡ Stopped (Some gone) (broken_by of_files name Gone opened)) × CanRise opened

  pub record After (reply : ReplyValue) (text : ListOf ℕ) (d : Desks) : Type 0 where
    pub over : Over (Delete name) reply
    pub stage : Stage reply text d
    pub found : Finds d (λ x. (x ≡ now) ⊎ IsGone name now x)
    pub done : IsDone (Delete name) reply → IsGone name now d.machine.now × RunsWith d.machine (with_change name Gone opened) × CanRise opened × (text ≡ deleted_line name)
    pub undone : (IsDone (Delete name) reply → ⊥) → (d.machine.now ≡ now) × (d.machine.store ≡ opened) × (text ≡ [])
    pub runs : (reply ≡ replies.Refused refusals.DiskWrite → ⊥) → d.machine.state ≡ Running
    pub broke : reply ≡ replies.Refused refusals.DiskWrite → Broke d.machine
    pub refused : (refusal : Refusal) → reply ≡ replies.Refused refusal
        → DeleteRefusal name now d.machine refusal × (((refusal ≡ refusals.DiskWrite) → ⊥) → Finds d (λ x. x ≡ now))

  at_finds : (d : Desks) → At now opened Idle d → Finds d (λ x. x ≡ now)
  at_finds d at x may = sure_found d.machine.state d.machine.now x (running_sure d.machine.state at.runs) may ∙ at.same

  pub begun : (files : ℕ) (d : Desks) → At now opened Idle d → After (replies.Opened files) (text_of (Delete name) [] lines.Reopen (replies.Opened files)) d
  begun files d at = record {
    over = inr (lines.Delete name, refl);
    stage = (at, refl);
    found = λ x may. inl (at_finds d at x may);
    done = λ d. absurd d;
    undone = λ _. (at.same, at.store, refl);
    runs = λ _. at.runs;
    broke = λ wrong. absurd (let no : replies.Opened files ≡ replies.Refused refusals.DiskWrite = wrong in cc);
    refused = λ refusal wrong. absurd (let no : replies.Opened files ≡ replies.Refused refusal = wrong in cc);
  }

  module _ (text : ListOf ℕ) (none : text ≡ []) (d mid : Desks) (ss : ListOf Step) (at : At now opened Idle d) (reply : ReplyValue) where
    abbrev So : Type 0
    So = After reply (text ++ text_of (Delete name) [] (lines.Delete name) reply) mid

    by_reply : (answer : ReplyValue) → reply ≡ answer → After answer (text_of (Delete name) [] (lines.Delete name) answer) mid → So
    by_reply answer is so =
        subst (λ (r : ReplyValue). After r (text ++ text_of (Delete name) [] (lines.Delete name) r) mid) (sym is)
        (subst (λ (t : ListOf ℕ). After answer (t ++ text_of (Delete name) [] (lines.Delete name) answer) mid) (sym none) so)

    gone_is : without_name of_files name d.machine.now ≡ gone
    gone_is = ap (λ (f : Found (ListOf ℕ)). without_name of_files name f) at.same

    -- a name that is taken away
    is_gone : (x : Found (ListOf ℕ)) → x ≡ without_name of_files name d.machine.now → IsName name → HasName of_files name d.machine → HasNumbers of_files d.machine
        → IsGone name now x
    is_gone x is named there numbers = (
      is ∙ gone_is,
      named,
      subst (λ (f : Found (ListOf ℕ)). (file : ListOf ℕ) × (finite.get f.names name ≡ Some file)) at.same (has_file (finite.get d.machine.now.names name) there),
      subst (λ (f : Found (ListOf ℕ)). f.last < 2 ^ 64 - 1) at.same numbers.0,
    )

    rises : HasNumbers of_files d.machine → CanRise opened
    rises numbers = subst CanRise at.store numbers.1

    deletes : (a : ℕ) (answer : Done) → reply ≡ reply_of a (Ok answer) → Does of_files a (asked.Delete name) answer d.machine mid.machine → So
    deletes a (done.Deleted sequence) is does =
        let runs : mid.machine.state ≡ Running = ap (λ (x : FileMachine). x.state) does.others ∙ at.runs in
        let now_is : IsGone name now mid.machine.now = is_gone mid.machine.now (ap (λ (x : FileMachine). x.now) does.others) does.named does.there does.numbers in
        by_reply (replies.Deleted sequence) is (record {
          over = inl (inl tt);
          stage = tt;
          found = λ x may. inr
              (subst (IsGone name now) (sym (sure_found mid.machine.state mid.machine.now x (running_sure mid.machine.state runs) may)) now_is);
          done = λ _. (
            now_is,
            (
              runs,
              ap (λ (x : FileMachine). x.store) does.others ∙ ap (λ (s : Store). with_change name Gone s) at.store,
            ),
            rises does.numbers,
            refl,
          );
          undone = λ not. absurd (not tt);
          runs = λ _. runs;
          broke = λ wrong. absurd (let no : replies.Deleted sequence ≡ replies.Refused refusals.DiskWrite = wrong in cc);
          refused = λ refusal wrong. absurd (let no : replies.Deleted sequence ≡ replies.Refused refusal = wrong in cc);
        })
    deletes a answer is does = absurd does

    rests : (refusal : Refusal) → ((refusal ≡ refusals.DiskWrite) → ⊥) → reply ≡ replies.Refused refusal → DeleteRefusal name now d.machine refusal → mid.machine ≡ d.machine → So
    rests refusal other is cause same =
        let finds : Finds mid (λ x. x ≡ now) = subst (λ (x : FileMachine). (y : Found (ListOf ℕ)) → MayBeFound of_files x.state x.now y → y ≡ now) (sym same) (at_finds d at) in
        by_reply (replies.Refused refusal) is (record {
          over = inl (inr (refusal, refl));
          stage = tt;
          found = λ x may. inl (finds x may);
          done = λ d. absurd d;
          undone = λ _. (ap (λ (x : FileMachine). x.now) same ∙ at.same, ap (λ (x : FileMachine). x.store) same ∙ at.store, refl);
          runs = λ _. ap (λ (x : FileMachine). x.state) same ∙ at.runs;
          broke = λ wrong. absurd (other (let both : replies.Refused refusal ≡ replies.Refused refusals.DiskWrite = wrong in cc));
          refused = λ another is_other. (
            subst (DeleteRefusal name now mid.machine) (let both : replies.Refused refusal ≡ replies.Refused another = is_other in cc)
                (subst (λ (x : FileMachine). DeleteRefusal name now x refusal) (sym same) cause),
            λ _ x may. finds x may,
          );
        })

    -- a write failed, and the name may be gone
    in_doubt : reply ≡ replies.Refused refusals.DiskWrite → IsName name → HasName of_files name d.machine → HasNumbers of_files d.machine
        → mid.machine ≡ record d.machine { state = Stopped (Some (without_name of_files name d.machine.now)) (broken_by of_files name Gone d.machine.store) } → So
    in_doubt is named there numbers others =
        let broke : Broke mid.machine = (
          ap (λ (x : FileMachine). x.state) others
              ∙ (λ i. Stopped (Some (gone_is i)) (broken_by of_files name Gone (at.store i))),
          rises numbers,
        ) in
        by_reply (replies.Refused refusals.DiskWrite) is (record {
          over = inl (inr (refusals.DiskWrite, refl));
          stage = tt;
          found = λ x may. by x (subst (λ (m : FileMachine). MayBeFound of_files m.state m.now x) others may);
          done = λ d. absurd d;
          undone = λ _. (ap (λ (x : FileMachine). x.now) others ∙ at.same, ap (λ (x : FileMachine). x.store) others ∙ at.store, refl);
          runs = λ not. absurd (not refl);
          broke = λ _. broke;
          refused = λ another is_other.
              let same : refusals.DiskWrite ≡ another = (let both : replies.Refused refusals.DiskWrite ≡ replies.Refused another = is_other in cc) in
              (subst (DeleteRefusal name now mid.machine) same tt, λ differs. absurd (differs (sym same)));
        })
      where
        by : (x : Found (ListOf ℕ)) → (x ≡ d.machine.now) ⊎ (x ≡ without_name of_files name d.machine.now) → (x ≡ now) ⊎ IsGone name now x
        by x (inl is) = inl (is ∙ at.same)
        by x (inr is) = inr (is_gone x is named there numbers)

    refused_by : (refusal : Refusal) → reply ≡ replies.Refused refusal → RefusesDelete of_files name refusal d.machine mid.machine → So
    refused_by refusals.Memory is same = rests refusals.Memory (λ e. let wrong : refusals.Memory ≡ refusals.DiskWrite = e in cc) is tt same
    refused_by refusals.BadName is (bad, same) = rests refusals.BadName (λ e. let wrong : refusals.BadName ≡ refusals.DiskWrite = e in cc) is bad same
    refused_by refusals.NoFile is (named, none_there, same) =
        rests refusals.NoFile (λ e. let wrong : refusals.NoFile ≡ refusals.DiskWrite = e in cc) is
        (named, ap (λ (f : Found (ListOf ℕ)). finite.get f.names name) (sym at.same) ∙ none_there) same
    refused_by refusals.Numbers is (named, there, lacks, same) =
        rests refusals.Numbers (λ e. let wrong : refusals.Numbers ≡ refusals.DiskWrite = e in cc) is (named, there, lacks) same
    refused_by refusals.DiskWrite is (named, there, numbers, others) = in_doubt is named there numbers others
    refused_by refusal is refuses = absurd refuses

    deletes_not : (a : ℕ) (refusal : Refusal) → reply ≡ replies.Refused refusal → Refuses of_files a (asked.Delete name) refusal d.machine mid.machine → So
    deletes_not a (refusals.WrongPart kind) is ((kind_is, (taken, by, differ)), same) = absurd (let wrong : None ≡ Some taken = by in cc)
    deletes_not a refusals.Memory is refuses = refused_by refusals.Memory is refuses
    deletes_not a refusal is (right, refuses) = refused_by refusal is refuses

    deleted_so : (a : ℕ) (told : Result Done Refusal) → reply ≡ reply_of a told → Answers of_files a (asked.Delete name) told d.machine mid.machine → So
    deleted_so a (Ok answer) is does = deletes a answer is does
    deleted_so a (Err refusal) is refuses = deletes_not a refusal is refuses

    delete_line : Line of_files (lines.Delete name) reply ss d mid → So
    delete_line (run, inl (admits, (a, step, step_is, ends, sessions))) =
        let own = subst (λ (s : Asked (ListOf ℕ)). Ends of_files a [] s reply ss) step_is ends in
        let one = one_step now opened Idle d mid at a (asked.Delete name) reply ss run (λ told legal. legal) own in deleted_so a one.told one.reply_is one.answers
    delete_line (run, inr (refusal, bars, is, no_steps, sessions)) =
        absurd (not_barred now opened Idle d mid at (lines.Delete name) refusal (no_actor (lines.Delete name) Idle refl) bars)

  pub next : (prev : ReplyValue) (one : Replied) (text : ListOf ℕ) (d mid : Desks) (ss : ListOf Step) → After prev text d → Follows (Delete name) prev one.line
      → Line of_files one.line one.reply ss d mid → After one.reply (text ++ text_of (Delete name) [] one.line one.reply) mid
  next prev one text d mid ss after follows line = by prev after.stage follows
    where
      by : (prev : ReplyValue) → Stage prev text d → Follows (Delete name) prev one.line → After one.reply (text ++ text_of (Delete name) [] one.line one.reply) mid
      by (replies.Opened files) (at, none) is =
          subst (λ (l : LineValue). After one.reply (text ++ text_of (Delete name) [] l one.reply) mid) (sym is)
          (delete_line text none d mid ss at one.reply (subst (λ (l : LineValue). Line of_files l one.reply ss d mid) is line))
      by reply stage follows = absurd follows

failure : (name : ListOf ℕ) (now : Found (ListOf ℕ)) (n : FileMachine) (refusal : Refusal) → IsFailure refusal → DeleteRefusal name now n refusal
failure name now n refusals.Memory is = tt
failure name now n refusals.DiskRead is = tt
failure name now n refusals.DiskWrite is = tt
failure name now n refusal is = absurd is

pub deletes_by_map : DeletesByMap
deletes_by_map name [] ss m e runs lines_are (none, is) = record {
  ends = inr tt;
  found = λ x may. inl (sure_found m.state m.now x (running_sure m.state runs) (subst (λ (y : Desks). MayBeFound of_files y.machine.state y.machine.now x) is may));
  store = ap (λ (y : Desks). y.machine) is;
  done = λ end. absurd (let wrong : None ≡ Some end.0 = end.1 in cc);
  undone = λ _. (ap (λ (y : Desks). y.machine.now) is, refl);
  refused = λ refusal end. absurd (let wrong : None ≡ Some end.0 = end.1 in cc);
}
deletes_by_map name (one ∷ more) ss m e runs lines_are ran =
    by (lines_after (Delete name) m (After name m.now) (next name m.now) (λ files d at fresh. begun name m.now d.machine.store files d at) (λ refusal line follows. follows)
    one more ss e runs lines_are ran)
  where
    by : NotOpened m one more e.machine ⊎ WasOpened (Delete name) m (After name m.now) one more e → DeletedName name (one ∷ more) m e.machine
    by (inl un) = record {
      ends = inl (unopened_ends m one more e.machine runs un (Delete name));
      found = λ x may. inl (unopened_found m one more e.machine runs un x may);
      store = unopened_store m one more e.machine runs un (DeletesIn name (one ∷ more) m.now e.machine);
      done = λ end. absurd (unopened_undone m one more e.machine runs un (Delete name) (λ is. is) end);
      undone = λ _. (unopened_same m one more e.machine runs un, unopened_printed m one more e.machine runs un (Delete name) refl);
      refused = λ refusal end.
          (failure name m.now e.machine refusal (unopened_refusal m one more e.machine runs un refusal end), λ _ x may. unopened_found m one more e.machine runs un x may);
    }
    by (inr was) =
        let so = was.after in
        let is_done : EndsWith (λ one. IsDone (Delete name) one.reply) (one ∷ more) → IsDone (Delete name) (last_from one more).reply =
        ends_so (λ one. IsDone (Delete name) one.reply) one more in
        let not_done : (EndsWith (λ one. IsDone (Delete name) one.reply) (one ∷ more) → ⊥) → IsDone (Delete name) (last_from one more).reply → ⊥ =
        (λ not d. not (ends_from (λ one. IsDone (Delete name) one.reply) one more d)) in
        record {
          ends = ends_over (Delete name) one more so.over;
          found = so.found;
          store = opened_store (DeletesIn name (one ∷ more) m.now e.machine) one more m e.machine was.files was.reply_is was.opened was.room (record {
            done = λ end. let d = so.done (is_done end) in (d.1, d.2);
            undone = λ not. (so.undone (not_done not)).1;
            runs = λ not. so.runs (λ is. not (ends_from (λ one. one.reply ≡ replies.Refused refusals.DiskWrite) one more is));
            broke = λ end. so.broke (ends_so (λ one. one.reply ≡ replies.Refused refusals.DiskWrite) one more end);
          });
          done = λ end. let d = so.done (is_done end) in (d.0, d.1.0, d.3);
          undone = λ not. let u = so.undone (not_done not) in (u.0, u.2);
          refused = λ refusal end. so.refused refusal (ends_so (λ one. one.reply ≡ replies.Refused refusal) one more end);
        }
