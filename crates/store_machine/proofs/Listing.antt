-- The lines of a `list` print the names, and change nothing.
use Rattle.store_machine.proofs.Prelude.{◌≡◌, ◌⊎◌, inl, inr, ℕ, ListOf, [], ◌∷◌, ◌++◌, Some, None, Result, Ok, Err, refl, sym, ◌∙◌, ap, subst, Refusal, LineValue, ReplyValue, Store, Asked, FileMachine, RunsWith, Follows, IsDone, Replied, text_of, Done, Answers, Does, Refuses, listing, Line, reply_of, Found, Idle, MayBeFound, of_files}
use Rattle.refusals.specs.declared.refusal.Refusal.TheVariants as refusals
use Rattle.reply_text.specs.Text.{listing_text}
use Rattle.script_lines.specs.Grammar as lines
use Rattle.script_lines.specs.ReplyValue as replies
use Rattle.store_machine.specs.Asked as asked
use Rattle.store_machine.specs.ByMap.{ListRefusal, ListedNames, ListsByMap}
use Rattle.store_machine.specs.Commands.{List}
use Rattle.store_machine.specs.Done as done
use Rattle.store_machine.specs.Lines.{Ends}
use Rattle.store_machine.proofs.Passing.{sure_found}
use Rattle.store_machine.proofs.Quiet.{running_sure}
use Rattle.store_machine.proofs.Stepwise.{At, Desks, Fresh, IsFailure, NotOpened, Over, Step, WasOpened, ends_from, ends_over, ends_so, lines_after, no_actor, not_barred, one_step, opened_store, unopened_ends, unopened_found, unopened_printed, unopened_refusal, unopened_store, unopened_undone}

module _ (now : Found (ListOf ℕ)) (opened : Store) where
  abbrev Stage : ReplyValue → ListOf ℕ → Desks → Type 0
  Stage (replies.Opened files) text d = At now opened Idle d × (text ≡ [])
  Stage reply text d = Unit {0}

  pub record After (reply : ReplyValue) (text : ListOf ℕ) (d : Desks) : Type 0 where
    pub same : d.machine.now ≡ now
    pub runs : RunsWith d.machine opened
    pub over : Over List reply
    pub stage : Stage reply text d
    pub undone : (IsDone List reply → ⊥) → text ≡ []
    pub done : IsDone List reply → text ≡ listing_text (listing of_files now)
    pub refused : (refusal : Refusal) → reply ≡ replies.Refused refusal → ListRefusal refusal

  -- a line was refused, and nothing is another
  refused_after : (reply : ReplyValue) (d : Desks) (refusal : Refusal) → reply ≡ replies.Refused refusal → ListRefusal refusal → d.machine.now ≡ now → RunsWith d.machine opened
      → (text : ListOf ℕ) → text ≡ [] → After reply text d
  refused_after reply d refusal is cause same runs text none = record {
    same = same;
    runs = runs;
    over = inl (inr (refusal, is));
    stage = subst (λ (r : ReplyValue). Stage r text d) (sym is) tt;
    undone = λ _. none;
    done = λ d. absurd (subst (IsDone List) is d);
    refused = λ other is_other. subst ListRefusal (let same : replies.Refused refusal ≡ replies.Refused other = sym is ∙ is_other in cc) cause;
  }

  module _ (text : ListOf ℕ) (d mid : Desks) (ss : ListOf Step) (at : At now opened Idle d) (none : text ≡ []) (reply : ReplyValue) where
    abbrev So : Type 0
    So = After reply (text ++ text_of List [] lines.ListNames reply) mid

    by_reply : (answer : ReplyValue) → reply ≡ answer → After answer (text_of List [] lines.ListNames answer) mid → So
    by_reply answer is so =
        subst (λ (r : ReplyValue). After r (text ++ text_of List [] lines.ListNames r) mid) (sym is)
        (subst (λ (t : ListOf ℕ). After answer (t ++ text_of List [] lines.ListNames answer) mid) (sym none) so)

    lists : (a : ℕ) (answer : Done) → reply ≡ reply_of a (Ok answer) → Does of_files a asked.ListNames answer d.machine mid.machine → So
    lists a (done.Listed files) is (files_are, others) =
        let text_is : listing_text files ≡ listing_text (listing of_files now) = ap listing_text files_are
        ∙ ap (λ (f : Found (ListOf ℕ)). listing_text (listing of_files f)) at.same in
        by_reply (replies.Listed files) is (record {
          same = ap (λ (x : FileMachine). x.now) others ∙ at.same;
          runs = (ap (λ (x : FileMachine). x.state) others ∙ at.runs, ap (λ (x : FileMachine). x.store) others ∙ at.store);
          over = inl (inl tt);
          stage = tt;
          undone = λ not. absurd (not tt);
          done = λ _. text_is;
          refused = λ refusal wrong. absurd (let no : replies.Listed files ≡ replies.Refused refusal = wrong in cc);
        })
    lists a answer is does = absurd does

    rests : (refusal : Refusal) → reply ≡ replies.Refused refusal → ListRefusal refusal → mid.machine ≡ d.machine → So
    rests refusal is cause same =
        by_reply (replies.Refused refusal) is (refused_after (replies.Refused refusal) mid refusal refl cause (ap (λ (x : FileMachine). x.now) same ∙ at.same)
        (ap (λ (x : FileMachine). x.state) same ∙ at.runs, ap (λ (x : FileMachine). x.store) same ∙ at.store) [] refl)

    lists_not : (a : ℕ) (refusal : Refusal) → reply ≡ replies.Refused refusal → Refuses of_files a asked.ListNames refusal d.machine mid.machine → So
    lists_not a (refusals.WrongPart kind) is ((kind_is, (taken, by, differ)), same) = absurd (let wrong : None ≡ Some taken = by in cc)
    lists_not a refusals.Memory is same = rests refusals.Memory is tt same
    lists_not a refusal is (right, refuses) = absurd refuses

    listed_so : (a : ℕ) (told : Result Done Refusal) → reply ≡ reply_of a told → Answers of_files a asked.ListNames told d.machine mid.machine → So
    listed_so a (Ok answer) is does = lists a answer is does
    listed_so a (Err refusal) is refuses = lists_not a refusal is refuses

    list_line : Line of_files lines.ListNames reply ss d mid → So
    list_line (run, inl (admits, (a, step, step_is, ends, sessions))) =
        let own = subst (λ (s : Asked (ListOf ℕ)). Ends of_files a [] s reply ss) step_is ends in
        let one = one_step now opened Idle d mid at a asked.ListNames reply ss run (λ told legal. legal) own in listed_so a one.told one.reply_is one.answers
    list_line (run, inr (refusal, bars, is, no_steps, sessions)) = absurd (not_barred now opened Idle d mid at lines.ListNames refusal (no_actor lines.ListNames Idle refl) bars)

  next : (prev : ReplyValue) (one : Replied) (text : ListOf ℕ) (d mid : Desks) (ss : ListOf Step) → After prev text d → Follows List prev one.line
      → Line of_files one.line one.reply ss d mid → After one.reply (text ++ text_of List [] one.line one.reply) mid
  next prev one text d mid ss after follows line = by prev after.stage follows
    where
      by : (prev : ReplyValue) → Stage prev text d → Follows List prev one.line → After one.reply (text ++ text_of List [] one.line one.reply) mid
      by (replies.Opened files) (at, none) is =
          subst (λ (l : LineValue). After one.reply (text ++ text_of List [] l one.reply) mid) (sym is)
          (list_line text d mid ss at none one.reply (subst (λ (l : LineValue). Line of_files l one.reply ss d mid) is line))
      by reply stage follows = absurd follows

failure : (refusal : Refusal) → IsFailure refusal → ListRefusal refusal
failure refusals.Memory is = tt
failure refusals.DiskRead is = tt
failure refusals.DiskWrite is = tt
failure refusal is = absurd is

begun : (start : FileMachine) (files : ℕ) (d : Desks) → At start.now d.machine.store Idle d → Fresh start d
    → After start.now d.machine.store (replies.Opened files) (text_of List [] lines.Reopen (replies.Opened files)) d
begun start files d at fresh = record {
  same = at.same;
  runs = (at.runs, at.store);
  over = inr (lines.ListNames, refl);
  stage = (at, refl);
  undone = λ _. refl;
  done = λ d. absurd d;
  refused = λ refusal wrong. absurd (let no : replies.Opened files ≡ replies.Refused refusal = wrong in cc);
}

pub lists_by_map : ListsByMap
lists_by_map [] ss m e runs lines_are (none, is) = record {
  ends = inr tt;
  found = λ x may. sure_found m.state m.now x (running_sure m.state runs) (subst (λ (y : Desks). MayBeFound of_files y.machine.state y.machine.now x) is may);
  store = ap (λ (y : Desks). y.machine) is;
  undone = λ _. refl;
  done = λ end. absurd (let wrong : None ≡ Some end.0 = end.1 in cc);
  refused = λ refusal end. absurd (let wrong : None ≡ Some end.0 = end.1 in cc);
}
lists_by_map (one ∷ more) ss m e runs lines_are ran =
    by (lines_after List m (After m.now) (next m.now) (begun m) (λ refusal line follows. follows) one more ss e runs lines_are ran)
  where
    by : NotOpened m one more e.machine ⊎ WasOpened List m (After m.now) one more e → ListedNames (one ∷ more) m e.machine
    by (inl un) = record {
      ends = inl (unopened_ends m one more e.machine runs un List);
      found = unopened_found m one more e.machine runs un;
      store = unopened_store m one more e.machine runs un (RunsWith e.machine);
      undone = λ _. unopened_printed m one more e.machine runs un List refl;
      done = λ end. absurd (unopened_undone m one more e.machine runs un List (λ is. is) end);
      refused = λ refusal end. failure refusal (unopened_refusal m one more e.machine runs un refusal end);
    }
    by (inr was) = record {
      ends = ends_over List one more was.after.over;
      found = λ x may. sure_found e.machine.state e.machine.now x (running_sure e.machine.state was.after.runs.0) may ∙ was.after.same;
      store = opened_store (RunsWith e.machine) one more m e.machine was.files was.reply_is was.opened was.room was.after.runs;
      undone = λ not. was.after.undone (λ d. not (ends_from (λ one. IsDone List one.reply) one more d));
      done = λ end. was.after.done (ends_so (λ one. IsDone List one.reply) one more end);
      refused = λ refusal end. was.after.refused refusal (ends_so (λ one. one.reply ≡ replies.Refused refusal) one more end);
    }
