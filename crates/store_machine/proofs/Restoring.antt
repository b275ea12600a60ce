-- The lines of a `restore` print the file of the name, or a first part of it, and change nothing.
use Rattle.store_machine.proofs.Prelude.{◌≡◌, ◌⊎◌, inl, inr, ◌<◌, ℕ, ListOf, [], ◌∷◌, ◌++◌, length, slice_index_or, slice_set, Option, Some, None, Result, Ok, Err, refl, sym, ◌∙◌, ap, subst, arith, Refusal, LineValue, ReplyValue, Store, Asked, FileMachine, RunsWith, Follows, IsDone, Replied, Restore, text_of, Done, Answers, Does, Refuses, Line, Session, reply_of, Found, Part, Idle, Reading, kind_of, part_in, put_at, MayBeFound, StaysAt, of_files, Run}
use Rattle.std.specs.List.{concat}
use Rattle.std.specs.FinMap as finite
use Rattle.std.proofs.lemmas.List.{append-nil, append_assoc}
use Rattle.refusals.specs.declared.refusal.PartKind.TheVariants as kinds
use Rattle.refusals.specs.declared.refusal.Refusal.TheVariants as refusals
use Rattle.segmenter.proofs.SegmentLemmas.{segments_of-laws}
use Rattle.script_lines.specs.Grammar as lines
use Rattle.script_lines.specs.ReplyValue as replies
use Rattle.store_machine.specs.Asked as asked
use Rattle.store_machine.specs.ByMap.{IsPartOfFile, RestoreRefusal, RestoredFile, RestoresByMap}
use Rattle.store_machine.specs.Done as done
use Rattle.store_machine.specs.Lines.{Ends}
use Rattle.store_machine.proofs.Passing.{sure_found}
use Rattle.store_machine.proofs.Quiet.{running_sure}
use Rattle.store_machine.proofs.Stepwise.{At, Desks, Fresh, IsFailure, NotOpened, Over, Step, WasOpened, ends_over, ends_so, first_actor, lines_after, not_barred, one_step, opened_store, unopened_ends, unopened_found, unopened_printed, unopened_refusal, unopened_store, unopened_undone}

abbrev FilePart : Type 0
FilePart = Part (ListOf ℕ) (ListOf (ListOf ℕ))

pub index_set : (parts : ListOf FilePart) (p : FilePart) → 0 < length parts → slice_index_or (slice_set parts 0 p) 0 Idle ≡ p
index_set [] p some = absurd (omega (arith, some))
index_set (x ∷ xs) p some = refl

pub length_set : (parts : ListOf FilePart) (p : FilePart) → 0 < length parts → 0 < length (slice_set parts 0 p)
length_set [] p some = absurd (omega (arith, some))
length_set (x ∷ xs) p some = omega arith

same_reading : (file other : ListOf ℕ) (rest left : ListOf (ListOf ℕ)) → Reading file rest ≡ Reading other left → (file ≡ other) × (rest ≡ left)
same_reading file other rest left is = (cc, cc)

module _ (name : ListOf ℕ) (now : Found (ListOf ℕ)) (opened : Store) where
  -- the actor reads the name's file, of which this text was given
  pub record Reads (text : ListOf ℕ) (d : Desks) : Type 0 where
    pub file : ListOf ℕ
    pub rest : ListOf (ListOf ℕ)
    pub has : finite.get now.names name ≡ Some file
    pub at : At now opened (Reading file rest) d
    pub text_is : file ≡ text ++ concat rest

  abbrev Stage : ReplyValue → ListOf ℕ → Desks → Type 0
  Stage (replies.Opened files) text d = At now opened Idle d × (text ≡ [])
  Stage (replies.Reading a count) text d = Reads text d
  Stage (replies.Bytes a bytes) text d = Reads text d
  Stage reply text d = Unit {0}

  pub record After (reply : ReplyValue) (text : ListOf ℕ) (d : Desks) : Type 0 where
    pub same : d.machine.now ≡ now
    pub runs : RunsWith d.machine opened
    pub over : Over (Restore name) reply
    pub stage : Stage reply text d
    pub part : IsPartOfFile name now text
    pub done : IsDone (Restore name) reply → finite.get now.names name ≡ Some text
    pub refused : (refusal : Refusal) → reply ≡ replies.Refused refusal → RestoreRefusal name now refusal

  -- a line was refused, and the names stay
  refused_after : (reply : ReplyValue) (text : ListOf ℕ) (d : Desks) (refusal : Refusal) → reply ≡ replies.Refused refusal → RestoreRefusal name now refusal
      → d.machine.now ≡ now → RunsWith d.machine opened → IsPartOfFile name now text → After reply text d
  refused_after reply text d refusal is cause same runs part = record {
    same = same;
    runs = runs;
    over = inl (inr (refusal, is));
    stage = subst (λ (r : ReplyValue). Stage r text d) (sym is) tt;
    part = part;
    done = λ d. absurd (subst (IsDone (Restore name)) is d);
    refused = λ other is_other. subst (RestoreRefusal name now) (let same : replies.Refused refusal ≡ replies.Refused other = sym is ∙ is_other in cc) cause;
  }

  -- ---- lines

  -- the text as it was, where the line prints nothing
  as_before : (text : ListOf ℕ) → IsPartOfFile name now text → IsPartOfFile name now (text ++ [])
  as_before text part = subst (IsPartOfFile name now) (sym (append-nil text)) part

  module _ (text : ListOf ℕ) (d mid : Desks) (ss : ListOf Step) (run : Run of_files ss d.machine mid.machine) where
    -- the names are still these, and it runs, with another part
    goes_on : (old part : FilePart) → At now opened old d → mid.machine ≡ put_at d.machine 0 part → mid.sessions ≡ d.sessions → At now opened part mid
    goes_on old part at is sessions = record {
      same = ap (λ (x : FileMachine). x.now) is ∙ at.same;
      runs = ap (λ (x : FileMachine). x.state) is ∙ at.runs;
      store = ap (λ (x : FileMachine). x.store) is ∙ at.store;
      none = ap (λ (s : ListOf (Option Session)). slice_index_or s 0 None) sessions ∙ at.none;
      some = subst (λ (x : FileMachine). 0 < length x.parts) (sym is) (length_set d.machine.parts part at.some);
      part_is = ap (λ (x : FileMachine). part_in x 0) is ∙ index_set d.machine.parts part at.some;
    }

    rested : (old : FilePart) (reply : ReplyValue) (refusal : Refusal) → At now opened old d → IsPartOfFile name now text → reply ≡ replies.Refused refusal
        → RestoreRefusal name now refusal
        → mid.machine ≡ d.machine → (line : LineValue) → After reply (text ++ text_of (Restore name) [] line reply) mid
    rested old reply refusal at part is cause same line =
        subst (λ (r : ReplyValue). After reply (text ++ text_of (Restore name) [] line r) mid) (sym is)
        (refused_after reply (text ++ []) mid refusal is cause (ap (λ (x : FileMachine). x.now) same ∙ at.same)
        (ap (λ (x : FileMachine). x.state) same ∙ at.runs, ap (λ (x : FileMachine). x.store) same ∙ at.store) (as_before text part))

    -- ---- the file is opened

    module _ (at : At now opened Idle d) (none : text ≡ []) (reply : ReplyValue) where
      abbrev So : Type 0
      So = After reply (text ++ text_of (Restore name) [] (lines.Read 0 name) reply) mid

      none_given : IsPartOfFile name now text
      none_given = inl none

      opens : (answer : Done) → reply ≡ reply_of 0 (Ok answer) → mid.sessions ≡ d.sessions → Does of_files 0 (asked.OpenRead name) answer d.machine mid.machine → So
      opens (done.Opened count) is sessions (named, idle, (file, rest, has, starts, count_is, others)) =
          let has_now : finite.get now.names name ≡ Some file = ap (λ (f : Found (ListOf ℕ)). finite.get f.names name) (sym at.same) ∙ has in
          let whole : concat rest ≡ file = ap concat starts ∙ (segments_of-laws file).together in
          subst (λ (r : ReplyValue). After r (text ++ text_of (Restore name) [] (lines.Read 0 name) r) mid) (sym is) (record {
            same = ap (λ (x : FileMachine). x.now) others ∙ at.same;
            runs = (ap (λ (x : FileMachine). x.state) others ∙ at.runs, ap (λ (x : FileMachine). x.store) others ∙ at.store);
            over = inr (lines.Next 0, refl);
            stage = record {
              file = file;
              rest = rest;
              has = has_now;
              at = goes_on Idle (Reading file rest) at others sessions;
              text_is = sym whole ∙ ap (λ (t : ListOf ℕ). t ++ concat rest) (sym (append-nil text ∙ none));
            };
            part = as_before text none_given;
            done = λ d. absurd d;
            refused = λ refusal wrong. absurd (let no : replies.Reading 0 count ≡ replies.Refused refusal = wrong in cc);
          })
      opens answer is sessions does = absurd does

      opens_not : (refusal : Refusal) → reply ≡ replies.Refused refusal → Refuses of_files 0 (asked.OpenRead name) refusal d.machine mid.machine → So
      opens_not (refusals.WrongPart kind) is ((kind_is, (taken, by, differ)), same) =
          let taken_is : taken ≡ kinds.Idle = (let both : Some taken ≡ Some kinds.Idle = sym by in cc) in
          absurd (differ (kind_is ∙ ap kind_of at.part_is ∙ sym taken_is))
      opens_not refusals.Memory is same = rested Idle reply refusals.Memory at none_given is tt same (lines.Read 0 name)
      opens_not refusals.BadName is (right, (bad, same)) = rested Idle reply refusals.BadName at none_given is bad same (lines.Read 0 name)
      opens_not refusals.NoFile is (right, (named, none_there, same)) =
          rested Idle reply refusals.NoFile at none_given is (named, ap (λ (f : Found (ListOf ℕ)). finite.get f.names name) (sym at.same) ∙ none_there) same (lines.Read 0 name)
      opens_not refusal is (right, refuses) = absurd refuses

      opened_so : (told : Result Done Refusal) → reply ≡ reply_of 0 told → mid.sessions ≡ d.sessions → Answers of_files 0 (asked.OpenRead name) told d.machine mid.machine → So
      opened_so (Ok answer) is sessions does = opens answer is sessions does
      opened_so (Err refusal) is sessions refuses = opens_not refusal is refuses

      read_line : Line of_files (lines.Read 0 name) reply ss d mid → So
      read_line (ran, inl (admits, (a, step, (a_is, step_is), ends, sessions))) =
          let own = subst (λ (k : ℕ). Ends of_files k [] (asked.OpenRead name) reply ss) a_is (subst (λ (s : Asked (ListOf ℕ)). Ends of_files a [] s reply ss) step_is ends) in
          let one = one_step now opened Idle d mid at 0 (asked.OpenRead name) reply ss run (λ told legal. legal) own in
          opened_so one.told one.reply_is sessions one.answers
      read_line (ran, inr (refusal, bars, is, no_steps, sessions)) =
          absurd (not_barred now opened Idle d mid at (lines.Read 0 name) refusal (first_actor (lines.Read 0 name) Idle refl refl) bars)

    -- ---- a segment of it, or its end

    module _ (reads : Reads text d) (reply : ReplyValue) where
      abbrev Next : Type 0
      Next = After reply (text ++ text_of (Restore name) [] (lines.Next 0) reply) mid

      abbrev part : FilePart
      part = Reading reads.file reads.rest

      part_given : IsPartOfFile name now text
      part_given = inr (reads.file, reads.has, (concat reads.rest, reads.text_is))

      own : (value : ListOf ℕ) (rest : ListOf (ListOf ℕ)) → part_in d.machine 0 ≡ Reading value rest → (value ≡ reads.file) × (rest ≡ reads.rest)
      own value rest is = same_reading value reads.file rest reads.rest (sym is ∙ reads.at.part_is)

      gives : (answer : Done) → reply ≡ reply_of 0 (Ok answer) → mid.sessions ≡ d.sessions → Does of_files 0 asked.ReadNext answer d.machine mid.machine → Next
      gives (done.Bytes bytes) is sessions (value, rest, after, was, given, others) =
          let mine = own value rest was in
          let rest_is : reads.rest ≡ bytes ∷ after = sym mine.1 ∙ given in
          let text_is : reads.file ≡ (text ++ bytes) ++ concat after =
          reads.text_is ∙ ap (λ (r : ListOf (ListOf ℕ)). text ++ concat r) rest_is ∙ sym (append_assoc text bytes (concat after)) in
          subst (λ (r : ReplyValue). After r (text ++ text_of (Restore name) [] (lines.Next 0) r) mid) (sym is) (record {
            same = ap (λ (x : FileMachine). x.now) others ∙ reads.at.same;
            runs = (ap (λ (x : FileMachine). x.state) others ∙ reads.at.runs, ap (λ (x : FileMachine). x.store) others ∙ reads.at.store);
            over = inr (lines.Next 0, refl);
            stage = record {
              file = reads.file;
              rest = after;
              has = reads.has;
              at = goes_on part (Reading reads.file after) reads.at (subst (λ (v : ListOf ℕ). mid.machine ≡ put_at d.machine 0 (Reading v after)) mine.0 others) sessions;
              text_is = text_is;
            };
            part = inr (reads.file, reads.has, (concat after, text_is));
            done = λ d. absurd d;
            refused = λ refusal wrong. absurd (let no : replies.Bytes 0 bytes ≡ replies.Refused refusal = wrong in cc);
          })
      gives done.End is sessions (value, rest, was, ends, others) =
          let mine = own value rest was in
          let none : reads.rest ≡ [] = sym mine.1 ∙ ends in
          let whole : reads.file ≡ text ++ [] = reads.text_is ∙ ap (λ (r : ListOf (ListOf ℕ)). text ++ concat r) none in
          subst (λ (r : ReplyValue). After r (text ++ text_of (Restore name) [] (lines.Next 0) r) mid) (sym is) (record {
            same = ap (λ (x : FileMachine). x.now) others ∙ reads.at.same;
            runs = (ap (λ (x : FileMachine). x.state) others ∙ reads.at.runs, ap (λ (x : FileMachine). x.store) others ∙ reads.at.store);
            over = inl (inl tt);
            stage = tt;
            part = as_before text part_given;
            done = λ _. reads.has ∙ ap Some whole;
            refused = λ refusal wrong. absurd (let no : replies.End 0 ≡ replies.Refused refusal = wrong in cc);
          })
      gives answer is sessions does = absurd does

      stays : (rest : ListOf (ListOf ℕ)) (refusal : Refusal) (after : ListOf (ListOf ℕ)) → StaysAt rest refusal after → refusal ≡ refusals.DiskRead
      stays (bytes ∷ left) refusals.DiskRead after is = refl
      stays other refusal after is = absurd is

      read_refused : (refusal : Refusal) → reply ≡ replies.Refused refusal → (value : ListOf ℕ) (rest after : ListOf (ListOf ℕ)) → StaysAt rest refusal after
          → mid.machine ≡ put_at d.machine 0 (Reading value after) → Next
      read_refused refusal is value rest after stuck others =
          let so = stays rest refusal after stuck in
          subst (λ (r : ReplyValue). After reply (text ++ text_of (Restore name) [] (lines.Next 0) r) mid) (sym is)
          (refused_after reply (text ++ []) mid refusal is (subst (RestoreRefusal name now) (sym so) tt) (ap (λ (x : FileMachine). x.now) others ∙ reads.at.same)
          (ap (λ (x : FileMachine). x.state) others ∙ reads.at.runs, ap (λ (x : FileMachine). x.store) others ∙ reads.at.store) (as_before text part_given))

      gives_not : (refusal : Refusal) → reply ≡ replies.Refused refusal → Refuses of_files 0 asked.ReadNext refusal d.machine mid.machine → Next
      gives_not (refusals.WrongPart kind) is ((kind_is, (taken, by, differ)), same) =
          let taken_is : taken ≡ kinds.Reading = (let both : Some taken ≡ Some kinds.Reading = sym by in cc) in
          absurd (differ (kind_is ∙ ap kind_of reads.at.part_is ∙ sym taken_is))
      gives_not refusals.Memory is refuses = read_refused refusals.Memory is refuses.0 refuses.1 refuses.2 refuses.4 refuses.5
      gives_not refusal is (right, (value, rest, after, was, stuck, others)) = read_refused refusal is value rest after stuck others

      given_so : (told : Result Done Refusal) → reply ≡ reply_of 0 told → mid.sessions ≡ d.sessions → Answers of_files 0 asked.ReadNext told d.machine mid.machine → Next
      given_so (Ok answer) is sessions does = gives answer is sessions does
      given_so (Err refusal) is sessions refuses = gives_not refusal is refuses

      next_line : Line of_files (lines.Next 0) reply ss d mid → Next
      next_line (ran, inl (admits, (a, step, (a_is, step_is), ends, sessions))) =
          let own = subst (λ (k : ℕ). Ends of_files k [] asked.ReadNext reply ss) a_is (subst (λ (s : Asked (ListOf ℕ)). Ends of_files a [] s reply ss) step_is ends) in
          let one = one_step now opened part d mid reads.at 0 asked.ReadNext reply ss run (λ told legal. legal) own in
          given_so one.told one.reply_is sessions one.answers
      next_line (ran, inr (refusal, bars, is, no_steps, sessions)) =
          absurd (not_barred now opened part d mid reads.at (lines.Next 0) refusal (first_actor (lines.Next 0) part refl refl) bars)

  -- ---- line after line

  next : (prev : ReplyValue) (one : Replied) (text : ListOf ℕ) (d mid : Desks) (ss : ListOf Step) → After prev text d → Follows (Restore name) prev one.line
      → Line of_files one.line one.reply ss d mid → After one.reply (text ++ text_of (Restore name) [] one.line one.reply) mid
  next prev one text d mid ss after follows line = by prev after.stage follows
    where
      reads_on : Reads text d → one.line ≡ lines.Next 0 → After one.reply (text ++ text_of (Restore name) [] one.line one.reply) mid
      reads_on reads is =
          let own : Line of_files (lines.Next 0) one.reply ss d mid = subst (λ (l : LineValue). Line of_files l one.reply ss d mid) is line in
          subst (λ (l : LineValue). After one.reply (text ++ text_of (Restore name) [] l one.reply) mid) (sym is) (next_line text d mid ss own.0 reads one.reply own)

      by : (prev : ReplyValue) → Stage prev text d → Follows (Restore name) prev one.line → After one.reply (text ++ text_of (Restore name) [] one.line one.reply) mid
      by (replies.Opened files) (at, none) is =
          let own : Line of_files (lines.Read 0 name) one.reply ss d mid = subst (λ (l : LineValue). Line of_files l one.reply ss d mid) is line in
          subst (λ (l : LineValue). After one.reply (text ++ text_of (Restore name) [] l one.reply) mid) (sym is) (read_line text d mid ss own.0 at none one.reply own)
      by (replies.Reading a count) reads is = reads_on reads is
      by (replies.Bytes a bytes) reads is = reads_on reads is
      by reply stage follows = absurd follows

failure : (name : ListOf ℕ) (now : Found (ListOf ℕ)) (refusal : Refusal) → IsFailure refusal → RestoreRefusal name now refusal
failure name now refusals.Memory is = tt
failure name now refusals.DiskRead is = tt
failure name now refusals.DiskWrite is = tt
failure name now refusal is = absurd is

begun : (name : ListOf ℕ) (start : FileMachine) (files : ℕ) (d : Desks) → At start.now d.machine.store Idle d → Fresh start d
    → After name start.now d.machine.store (replies.Opened files) (text_of (Restore name) [] lines.Reopen (replies.Opened files)) d
begun name start files d at fresh = record {
  same = at.same;
  runs = (at.runs, at.store);
  over = inr (lines.Read 0 name, refl);
  stage = (at, refl);
  part = inl refl;
  done = λ d. absurd d;
  refused = λ refusal wrong. absurd (let no : replies.Opened files ≡ replies.Refused refusal = wrong in cc);
}

pub restores_by_map : RestoresByMap
restores_by_map name [] ss m e runs lines_are (none, is) = record {
  ends = inr tt;
  found = λ x may. sure_found m.state m.now x (running_sure m.state runs) (subst (λ (y : Desks). MayBeFound of_files y.machine.state y.machine.now x) is may);
  store = ap (λ (y : Desks). y.machine) is;
  part = inl refl;
  done = λ end. absurd (let wrong : None ≡ Some end.0 = end.1 in cc);
  refused = λ refusal end. absurd (let wrong : None ≡ Some end.0 = end.1 in cc);
}
restores_by_map name (one ∷ more) ss m e runs lines_are ran =
    by (lines_after (Restore name) m (After name m.now) (next name m.now) (begun name m) (λ refusal line follows. follows) one more ss e runs lines_are ran)
  where
    by : NotOpened m one more e.machine ⊎ WasOpened (Restore name) m (After name m.now) one more e → RestoredFile name (one ∷ more) m e.machine
    by (inl un) = record {
      ends = inl (unopened_ends m one more e.machine runs un (Restore name));
      found = unopened_found m one more e.machine runs un;
      store = unopened_store m one more e.machine runs un (RunsWith e.machine);
      part = inl (unopened_printed m one more e.machine runs un (Restore name) refl);
      done = λ end. absurd (unopened_undone m one more e.machine runs un (Restore name) (λ is. is) end);
      refused = λ refusal end. failure name m.now refusal (unopened_refusal m one more e.machine runs un refusal end);
    }
    by (inr was) = record {
      ends = ends_over (Restore name) one more was.after.over;
      found = λ x may. sure_found e.machine.state e.machine.now x (running_sure e.machine.state was.after.runs.0) may ∙ was.after.same;
      store = opened_store (RunsWith e.machine) one more m e.machine was.files was.reply_is was.opened was.room was.after.runs;
      part = was.after.part;
      done = λ end. was.after.done (ends_so (λ one. IsDone (Restore name) one.reply) one more end);
      refused = λ refusal end. was.after.refused refusal (ends_so (λ one. one.reply ≡ replies.Refused refusal) one more end);
    }
