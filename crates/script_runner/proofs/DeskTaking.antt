-- Lines that make one step and leave sessions as they are, and sweeps, as lines of a machine that fits the core.
use Rattle.script_runner.proofs.Prelude.{◌≡◌, inl, inr, ◌∙◌, ◌+◌, ◌-◌, ◌^◌, min, ℕ, List, [], ◌∷◌, ◌++◌, Result, Ok, Err, refl, sym, ap, subst, Answer, Phase, Refusal, ReplyValue, DeleteRow, EndRow, CoreState, Event, IsRunning, running_step, Answers, ByState, Legal, AreDid, Desk, reply_of, step_of, Machine, RunState, Stepped, answered_by, CollectionRun, DoesStep, RunnerState, Sweeps, Kept, WritersGive}
use Rattle.actor_parts.specs.declared.step.Answer.TheVariants as answers
use Rattle.actor_parts.specs.StepValue as steps
use Rattle.refusals.specs.declared.refusal.Refusal.TheVariants as refusals
use Rattle.script_lines.specs.Grammar as lines
use Rattle.script_lines.specs.ReplyValue as replies
use Rattle.store_machine.specs.Asked as asked
use Rattle.store_machine.specs.Done.{Done}
use Rattle.store_machine.specs.Lines.{IsLast}
use Rattle.script_runner.specs.Acts.{Acts, Admits}
use Rattle.script_runner.proofs.DeskParts.{quiet_gives}
use Rattle.script_runner.proofs.DeskRuns.{Ran, ran_none, ran_on, ran_still}
use Rattle.script_runner.proofs.DeskSteps.{Acted, all_keep, answers_so, desk_after, makes, number_so, step_line}
use Rattle.script_runner.proofs.Fitting.{AtDesk, Fitted}

drop_answer : (a : ℕ) (answer : Answer) (buf : List ℕ) (old new : CoreState) → EndRow a (Ok answer) old new → replies.Dropped a ≡ reply_of a (answered_by (Ok answer) buf)
drop_answer a answers.Dropped buf old new row = refl
drop_answer a answer buf old new row = absurd row

module _ (F : Fitted) (r : RunnerState F.C) (d : Desk F.V F.R) (at : AtDesk F d r) (s : RunnerState F.C) where
  open F use {V, R, v, C, state, Allowed, beside, fitting}
  open F.beside use {Fits, Owns}

  -- ---- files that are taken

  pub read_acts : (a : ℕ) (name : List ℕ) (reply : ReplyValue) → Acts C state (lines.Read a name) reply r s → Acted F r d at (lines.Read a name) reply s
  read_acts a name (replies.Reading b count) acts =
      let core = acts.1 in
      step_line F r d at s core.1 (lines.Read a name) (replies.Reading b count) (λ ss e x. x) a (steps.OpenRead name) (Ok (answers.Opened count)) core.0.0 tt tt core.0.1
      (refl, refl)
      (ap (λ (x : ℕ). replies.Reading x count) acts.0)
  read_acts a name (replies.Refused refusal) acts =
      step_line F r d at s acts.1 (lines.Read a name) (replies.Refused refusal) (λ ss e x. x) a (steps.OpenRead name) (Err refusal) acts.0.0 tt tt acts.0.1 (refl, refl) refl
  read_acts a name reply acts = absurd acts

  pub next_acts : (a : ℕ) (reply : ReplyValue) → Acts C state (lines.Next a) reply r s → Acted F r d at (lines.Next a) reply s
  next_acts a (replies.Bytes b bytes) acts =
      let count = acts.1.0 in
      let buf = acts.1.1.0 in
      let core = acts.1.1.1.1 in
      step_line F r d at s core.1 (lines.Next a) (replies.Bytes b bytes) (λ ss e x. x) a steps.ReadNext (Ok (answers.Bytes count)) buf tt tt core.0 (refl, refl)
      (ap (λ (x : ℕ). replies.Bytes x bytes) acts.0 ∙ ap (replies.Bytes a) acts.1.1.1.0)
  next_acts a (replies.End b) acts =
      let core = acts.1.1 in
      step_line F r d at s core.1 (lines.Next a) (replies.End b) (λ ss e x. x) a steps.ReadNext (Ok answers.End) acts.1.0 tt tt core.0 (refl, refl) (ap replies.End acts.0)
  next_acts a (replies.Refused refusal) acts =
      let core = acts.1 in
      step_line F r d at s core.1 (lines.Next a) (replies.Refused refusal) (λ ss e x. x) a steps.ReadNext (Err refusal) acts.0 tt tt core.0 (refl, refl) refl
  next_acts a reply acts = absurd acts

  pub drop_acts : (a : ℕ) (reply : ReplyValue) → Admits (lines.Drop a) r.sessions (state r.core) → Acts C state (lines.Drop a) reply r s → Acted F r d at (lines.Drop a) reply s
  drop_acts a (replies.Dropped b) admits acts =
      let core = acts.1 in
      let answer = core.0.0 in
      let does = core.0.1 in
      let e : Event = record { actor = a; step = steps.EndRead; answer = Ok answer; buf = does.0 } in
      let row = (running_step (state r.core) (state s.core) e admits.runs does.1).made.row in
      step_line F r d at s core.1 (lines.Drop a) (replies.Dropped b) (λ ss e x. x) a steps.EndRead (Ok answer) does.0 tt tt does.1 (refl, refl)
      (ap replies.Dropped acts.0 ∙ drop_answer a answer does.0 (state r.core) (state s.core) row)
  drop_acts a (replies.Refused refusal) admits acts =
      step_line F r d at s acts.1 (lines.Drop a) (replies.Refused refusal) (λ ss e x. x) a steps.EndRead (Err refusal) acts.0.0 tt tt acts.0.1 (refl, refl) refl
  drop_acts a reply admits acts = absurd acts

  -- ---- counts and lists

  pub list_acts : (reply : ReplyValue) → Acts C state lines.ListNames reply r s → Acted F r d at lines.ListNames reply s
  list_acts (replies.Listed files) acts =
      step_line F r d at s acts.1 lines.ListNames (replies.Listed files) (λ ss e x. x) 0 steps.ListNames (Ok (answers.Listed files)) acts.0.0 tt tt acts.0.1 refl refl
  list_acts (replies.Refused refusal) acts =
      step_line F r d at s acts.1 lines.ListNames (replies.Refused refusal) (λ ss e x. x) 0 steps.ListNames (Err refusal) acts.0.0 tt tt acts.0.1 refl refl
  list_acts reply acts = absurd acts

  pub stat_acts : (reply : ReplyValue) → Acts C state lines.Stat reply r s → Acted F r d at lines.Stat reply s
  stat_acts (replies.Stat h) acts =
      step_line F r d at s acts.1 lines.Stat (replies.Stat h) (λ ss e x. x) 0 steps.Stat
      (Ok (answers.Stat h.files h.segments h.bytes h.used h.free)) acts.0.0 tt tt acts.0.1 refl refl
  stat_acts reply acts = absurd acts

  pub unique_acts : (reply : ReplyValue) → Acts C state lines.Unique reply r s → Acted F r d at lines.Unique reply s
  unique_acts (replies.Unique segments bytes) acts =
      step_line F r d at s acts.1 lines.Unique (replies.Unique segments bytes) (λ ss e x. x) 0 steps.Unique
      (Ok (answers.Unique segments bytes)) acts.0.0 tt tt acts.0.1 refl refl
  unique_acts (replies.Refused refusal) acts =
      step_line F r d at s acts.1 lines.Unique (replies.Refused refusal) (λ ss e x. x) 0 steps.Unique (Err refusal) acts.0.0 tt tt acts.0.1 refl refl
  unique_acts reply acts = absurd acts

  -- ---- a name that is deleted

  module _ (name : List ℕ) (admits : Admits (lines.Delete name) r.sessions (state r.core)) where
    deleted_so : (sequence : ℕ) → sequence ≡ min ((state r.core).tables.journal.last + 1) (2 ^ 64 - 1)
        → (answer : Answer) (does : DoesStep 0 (steps.Delete name) answer (state r.core) (state s.core))
        → replies.Deleted sequence ≡ reply_of 0 (answered_by (Ok answer) does.0)
    deleted_so sequence is answer does =
        let e : Event = record { actor = 0; step = steps.Delete name; answer = Ok answer; buf = does.0 } in
        let row = (running_step (state r.core) (state s.core) e admits.runs does.1).made.row in
        let one = makes F e [] r.core s.core d.machine at.runs at.fits tt does.1 in
        let legal = answers_so v d.machine one.next 0 (asked.Delete name) (answered_by (Ok answer) does.0) (fitting.runs d.machine (state r.core) at.fits admits.runs) one.legal in
        by_answer answer row one.next legal
      where
        by_answer : (told : Answer) → DeleteRow name (Ok told) (state r.core) (state s.core) → (n : Machine V R)
            → Answers v 0 (asked.Delete name) (answered_by (Ok told) does.0) d.machine n
            → replies.Deleted sequence ≡ reply_of 0 (answered_by (Ok told) does.0)
        by_answer (answers.Deleted number) row n legal =
            ap replies.Deleted (is ∙ number_so (state r.core).tables.journal.last d.machine.now.last number row.1 legal.sequence_is legal.numbers.0)
        by_answer told row n legal = absurd row

    pub delete_acts : (reply : ReplyValue) → Acts C state (lines.Delete name) reply r s → Acted F r d at (lines.Delete name) reply s
    delete_acts (replies.Deleted sequence) acts =
        let deletes = acts.0 in
        step_line F r d at s acts.1 (lines.Delete name) (replies.Deleted sequence) (λ ss e x. x) 0 (steps.Delete name)
        (Ok deletes.answer) deletes.deleted.0 tt tt deletes.deleted.1 refl
        (deleted_so sequence deletes.sequence_is deletes.answer deletes.deleted)
    delete_acts (replies.Refused refusal) acts = elim acts.0 [
      | inl memory ↦ no_memory memory.0 memory.1
      | inr refuses ↦ step_line F r d at s acts.1 (lines.Delete name) (replies.Refused refusal) (λ ss e x. x) 0 (steps.Delete name)
          (Err refusal) refuses.0 tt tt refuses.1 refl refl
    ]
      where
        legal : Legal v (step_of v 0 (asked.Delete name) (Err refusals.Memory)) d.machine d.machine
        legal = subst (λ (by : RunState V). ByState v by 0 (asked.Delete name) (Err refusals.Memory) d.machine d.machine)
            (sym (fitting.runs d.machine (state r.core) at.fits admits.runs)) refl

        no_memory : refusal ≡ refusals.Memory → s.core ≡ r.core → Acted F r d at (lines.Delete name) (replies.Refused refusal) s
        no_memory is same = record {
          ss = step_of v 0 (asked.Delete name) (Err refusals.Memory) ∷ [];
          next = record { machine = d.machine; sessions = d.sessions };
          ran = ran_still F (step_of v 0 (asked.Delete name) (Err refusals.Memory)) d.machine r.core s.core legal at.fits
              (fitting.unmade 0 (asked.Delete name) d.machine (state r.core) at.fits tt) same;
          acts = (0, asked.Delete name, refl, (Err refusals.Memory, refl, ap replies.Refused is), refl);
          stays = desk_after F r d at s acts.1 d.machine (subst (λ (c : C). Fits d.machine (state c)) (sym same) at.fits)
              (subst (λ (c : C). IsRunning (state c)) (sym same) at.runs)
              (subst (λ (c : C). WritersGive r.sessions (state c).parts) (sym same) at.give) (λ b k owns. subst (λ (c : C). Owns b k d.machine (state c)) (sym same) owns);
        }
    delete_acts reply acts = absurd acts

  -- ---- collections

  pub gc_acts : (percent : ℕ) (reply : ReplyValue) → Acts C state (lines.Gc percent) reply r s → Acted F r d at (lines.Gc percent) reply s
  gc_acts percent (replies.Collecting snapshot) acts =
      step_line F r d at s acts.1 (lines.Gc percent) (replies.Collecting snapshot) (λ ss e x. x) 0 (steps.GcStart percent)
      (Ok (answers.Started snapshot)) acts.0.0 tt tt acts.0.1 refl refl
  gc_acts percent (replies.Refused refusal) acts =
      step_line F r d at s acts.1 (lines.Gc percent) (replies.Refused refusal) (λ ss e x. x) 0 (steps.GcStart percent) (Err refusal) acts.0.0 tt tt acts.0.1 refl refl
  gc_acts percent reply acts = absurd acts

  pub gc_step_acts : (reply : ReplyValue) → Acts C state lines.GcStep reply r s → Acted F r d at lines.GcStep reply s
  gc_step_acts (replies.Step phase) acts =
      step_line F r d at s acts.1 lines.GcStep (replies.Step phase) (λ ss e x. x) 0 steps.GcStep (Ok (answers.Did phase)) acts.0.0 tt tt acts.0.1 refl refl
  gc_step_acts (replies.Collected freed copied) acts =
      step_line F r d at s acts.1 lines.GcStep (replies.Collected freed copied) (λ ss e x. x) 0 steps.GcStep (Ok (answers.Done freed copied)) acts.0.0 tt tt acts.0.1 refl refl
  gc_step_acts (replies.Refused refusal) acts =
      step_line F r d at s acts.1 lines.GcStep (replies.Refused refusal) (λ ss e x. x) 0 steps.GcStep (Err refusal) acts.0.0 tt tt acts.0.1 refl refl
  gc_step_acts reply acts = absurd acts

  -- steps of a collection that go on
  pub record GoesOn (m : Machine V R) (old mid : C) : Type 0 where
    pub made : List (Stepped V)
    pub next : Machine V R
    pub ran : Ran F made m next old mid
    pub did : AreDid v made
    pub fits : Fits next (state mid)
    pub runs : IsRunning (state mid)
    pub give : WritersGive r.sessions (state mid).parts
    pub owns : (b : ℕ) (k : Kept) → Owns b k m (state old) → Owns b k next (state mid)

  goes_on : (phases : List Phase) (old mid : C) (m : Machine V R) → Fits m (state old) → IsRunning (state old) → WritersGive r.sessions (state old).parts
      → CollectionRun C state phases old mid → GoesOn m old mid
  goes_on [] old mid m fits runs give run = record {
    made = [];
    next = m;
    ran = ran_none F m old mid fits run;
    did = tt;
    fits = subst (λ (c : C). Fits m (state c)) (sym run) fits;
    runs = subst (λ (c : C). IsRunning (state c)) (sym run) runs;
    give = subst (λ (c : C). WritersGive r.sessions (state c).parts) (sym run) give;
    owns = λ b k owns. subst (λ (c : C). Owns b k m (state c)) (sym run) owns;
  }
  goes_on (phase ∷ phases) old mid m fits runs give run =
      let e : Event = record { actor = 0; step = steps.GcStep; answer = Ok (answers.Did phase); buf = run.1.0.0 } in
      let one = makes F e [] old run.0 m runs fits tt run.1.0.1 in
      let rest = goes_on phases run.0 mid one.next one.fits one.runs (quiet_gives e (state old) (state run.0) r.sessions tt run.1.0.1 give) run.1.1 in
      record {
        made = step_of v 0 asked.GcStep (answered_by (Ok (answers.Did phase)) run.1.0.0) ∷ rest.made;
        next = rest.next;
        ran = ran_on F (step_of v 0 asked.GcStep (answered_by (Ok (answers.Did phase)) run.1.0.0) ∷ []) rest.made m one.next rest.next old run.0 mid one.ran rest.ran;
        did = (refl, (phase, refl), rest.did);
        fits = rest.fits;
        runs = rest.runs;
        give = rest.give;
        owns = λ b k owns. rest.owns b k (all_keep F e m one.next (state old) (state run.0) one.keeps tt b k owns);
      }

  swept : (reply : ReplyValue) (answer : Result Answer Refusal) → s.sessions ≡ r.sessions → Sweeps C state answer r.core s.core
      → ((buf : List ℕ) → reply ≡ reply_of 0 (answered_by answer buf)) → IsLast v reply
      → Acted F r d at lines.Sweep reply s
  swept reply answer sessions sweeps replied last =
      let went = goes_on sweeps.0 r.core sweeps.1.0 d.machine at.fits at.runs at.give sweeps.1.1.0 in
      let end = sweeps.1.1.1 in
      let e : Event = record { actor = 0; step = steps.GcStep; answer = answer; buf = end.0 } in
      let one = makes F e [] sweeps.1.0 s.core went.next went.runs went.fits tt end.1 in
      let told : Result Done Refusal = answered_by answer end.0 in
      record {
        ss = went.made ++ step_of v 0 asked.GcStep told ∷ [];
        next = record { machine = one.next; sessions = d.sessions };
        ran = ran_on F went.made (step_of v 0 asked.GcStep told ∷ []) d.machine went.next one.next r.core sweeps.1.0 s.core went.ran one.ran;
        acts = (went.made, 0, went.did, (told, refl, replied end.0), last, refl);
        stays = desk_after F r d at s sessions one.next one.fits one.runs (quiet_gives e (state sweeps.1.0) (state s.core) r.sessions tt end.1 went.give)
            (λ b k owns. all_keep F e went.next one.next (state sweeps.1.0) (state s.core) one.keeps tt b k (went.owns b k owns));
      }

  pub sweep_acts : (reply : ReplyValue) → Acts C state lines.Sweep reply r s → Acted F r d at lines.Sweep reply s
  sweep_acts (replies.Collected freed copied) acts = swept (replies.Collected freed copied) (Ok (answers.Done freed copied)) acts.1 acts.0 (λ buf. refl) tt
  sweep_acts (replies.Refused refusal) acts = swept (replies.Refused refusal) (Err refusal) acts.1 acts.0 (λ buf. refl) tt
  sweep_acts reply acts = absurd acts
