-- The lines of a `collect` keep the names, choose by what they need, and give back only what they don't need.
use Rattle.store_machine.proofs.Prelude.{◌≡◌, ◌≢◌, ◌⊎◌, ◌<◌, ◌≤◌, inl, inr, ℕ, zero, suc, ListOf, [], ◌∷◌, ◌++◌, length, Contains, Some, None, Result, Ok, Err, refl, sym, ◌∙◌, ap, subst, LAST_ID, RESERVE, Phase, Refusal, LineValue, ReplyValue, Store, free_slots, last_id, StoreChange, Asked, FileMachine, AreBetween, EachOnce, HasContainer, HasIds, sources_in, IsCollecting, freed_in, keys_written, marking, marks_of, Sweeps, Collect, Follows, IsDone, Replied, text_of, Done, Answers, ByState, Does, Legal, RefusesGcStep, RefusesOn, AreDid, Line, reply_of, step_of, Found, Idle, RunState, Running, Sweeping, Stopped, keys_kept, values_read, MayBeFound, Run, of_files}
use Rattle.std.proofs.lemmas.Option.{same_Some}
use Rattle.std.specs.FinMap as finite
use Rattle.refusals.specs.declared.refusal.Phase.TheVariants as phases
use Rattle.refusals.specs.declared.refusal.Refusal.TheVariants as refusals
use Rattle.script_lines.specs.Grammar as lines
use Rattle.script_lines.specs.ReplyText.{reply_line}
use Rattle.script_lines.specs.ReplyValue as replies
use Rattle.store_machine.specs.Asked as asked
use Rattle.store_machine.specs.Collecting.{Ends as EndsCollection, phase_by}
use Rattle.store_machine.specs.Collected.{Collected as Did}
use Rattle.store_machine.specs.CollectsAlone.{CollectRefusal, CollectedAlone, CollectsByMap, CountsIds, HasBroken, HasRoomStill, HasSwept, SweptSoFar}
use Rattle.store_machine.specs.Done as done
use Rattle.store_machine.specs.Lines.{Ends, IsLast}
use Rattle.store_machine.proofs.Ended.{collects_what_it_selected}
use Rattle.store_machine.proofs.Ingesting.{run_one, run_parts}
use Rattle.store_machine.proofs.Passing.{sure_found}
use Rattle.store_machine.proofs.Quiet.{IsSure, running_sure}
use Rattle.store_machine.proofs.Stepwise.{At, Desks, Fresh, IsFailure, NotOpened, Over, Step, WasOpened, ends_from, ends_over, ends_so, lines_after, no_actor, not_barred, one_step, opened_store, unopened_ends, unopened_found, unopened_printed, unopened_refusal, unopened_store, unopened_undone}
use Rattle.store_machine.proofs.ByNeed.{gives_back}
use Rattle.store_model.specs.Reserve.{IsReachable}
use Rattle.store_machine.proofs.Reached.{needs_just}
use Rattle.store_machine.proofs.Sources.{IsSourced, SourcedAt, Under, all_went, counts_of, none_given, room_first, room_in, sourced_first}
use Rattle.store_machine.proofs.SweptAlone.{C, ByStage, has_chosen, opened_ids}
use Rattle.store_machine.proofs.Swept.{none_filled, none_in}
use Rattle.store_machine.proofs.Parts.{begun_by}

-- steps that went on are between the beginning of a collection and its end
did_between : (made : ListOf Step) → AreDid of_files made → AreBetween made
did_between [] did = tt
did_between (x ∷ xs) (asked_is, (phase, answer_is), more) = (
  (
    (λ other. let wrong : asked.GcStep ≡ asked.Reopen = sym asked_is ∙ other in cc),
    (λ freed copied other. let wrong : Ok (done.Did phase) ≡ Ok (done.Collected freed copied) = sym answer_is ∙ other in cc),
  ),
  did_between xs more,
)

no_more : (xs : ListOf (ListOf ℕ)) → xs ++ [] ≡ xs
no_more [] = refl
no_more (x ∷ xs) = ap (λ (l : ListOf (ListOf ℕ)). x ∷ l) (no_more xs)

-- nothing is changed before the first change
begins_at : (opened : Store) (c : C) (left : ℕ) → c.changes ≡ [] → ByStage opened c (marking left)
begins_at opened c zero none = none
begins_at opened c (suc left) none = none

-- ---- lines

module _ (percent : ℕ) (start : FileMachine) (opened : Store) where
  -- a collection runs since the store was opened
  pub record Runs (d : Desks) : Type 0 where
    pub a : ℕ
    pub snapshot : ℕ
    pub old : FileMachine
    pub legal : Legal of_files (step_of of_files a (asked.GcStart percent) (Ok (done.Started snapshot))) old d.machine
    pub ids : HasIds start.store start.last_id → HasIds old.store old.last_id
    pub opened_ids : HasIds start.store start.last_id → HasIds opened (last_id opened.held)
    pub store_is : d.machine.store ≡ opened
    pub under : Under percent start.now opened d.machine

  abbrev Stage : ReplyValue → ListOf ℕ → Desks → Type 0
  Stage (replies.Opened files) text d = At start.now opened Idle d × Fresh start d × (text ≡ [])
  Stage (replies.Collecting snapshot) text d = Runs d × (text ≡ [])
  Stage reply text d = Unit {0}

  abbrev IsOver : ListOf ℕ → Desks → Type 0
  IsOver text d = (freed copied : ℕ) × (text ≡ reply_line (replies.Collected freed copied)) × HasSwept percent freed copied start d.machine opened

  -- so far it came
  pub record SoFar (reply : ReplyValue) (n : FileMachine) : Type 0 where
    pub changes : ListOf StoreChange
    pub sweeps : Sweeps start.now changes opened n.store
    pub counts : CountsIds changes opened n.last_id
    pub room : (reply ≡ replies.Refused refusals.DiskWrite → ⊥) → HasRoomStill opened n.store
    pub runs : (reply ≡ replies.Refused refusals.DiskWrite → ⊥) → n.state ≡ Running
    pub broke : reply ≡ replies.Refused refusals.DiskWrite → HasBroken n

  pub record After (reply : ReplyValue) (text : ListOf ℕ) (d : Desks) : Type 0 where
    pub same : d.machine.now ≡ start.now
    pub sure : IsSure d.machine.state
    pub over : Over (Collect percent) reply
    pub stage : Stage reply text d
    pub done : IsDone (Collect percent) reply → IsOver text d
    pub undone : (IsDone (Collect percent) reply → ⊥) → (text ≡ []) × SoFar reply d.machine
    pub refused : (refusal : Refusal) → reply ≡ replies.Refused refusal → CollectRefusal d.machine refusal

  -- it runs, and these changes were made
  runs_so : (reply : ReplyValue) (n : FileMachine) (changes : ListOf StoreChange) → Sweeps start.now changes opened n.store → CountsIds changes opened n.last_id
      → HasRoomStill opened n.store → n.state ≡ Running → (reply ≡ replies.Refused refusals.DiskWrite → ⊥) → SoFar reply n
  runs_so reply n changes sweeps counts room runs other = record {
    changes = changes;
    sweeps = sweeps;
    counts = counts;
    room = λ _. room;
    runs = λ _. runs;
    broke = λ is. absurd (other is);
  }

  room_opened : (n : FileMachine) → n.store ≡ opened → HasRoomStill opened n.store
  room_opened n is room = subst (λ (s : Store). RESERVE ≤ free_slots s.held) (sym is) room

  -- no id is given yet
  none_counted : (n : FileMachine) (store : Store) → n.last_id ≡ last_id store.held → store ≡ opened → CountsIds [] opened n.last_id
  none_counted n store last is =
      none_given opened n.last_id (last ∙ ap (λ (s : Store). last_id s.held) is)

  none_swept : (n : FileMachine) → n.store ≡ opened → Sweeps start.now [] opened n.store
  none_swept n is = record { each = tt; makes = is; keeps = tt }

  pub begun : (files : ℕ) (d : Desks) → At start.now opened Idle d → Fresh start d
      → After (replies.Opened files) (text_of (Collect percent) [] lines.Reopen (replies.Opened files)) d
  begun files d at fresh = record {
    same = at.same;
    sure = running_sure d.machine.state at.runs;
    over = inr (lines.Gc percent, refl);
    stage = (at, fresh, refl);
    done = λ d. absurd d;
    undone = λ _. (
      refl,
      runs_so (replies.Opened files) d.machine [] (none_swept d.machine at.store) (none_counted d.machine d.machine.store fresh.last at.store)
          (room_opened d.machine at.store) at.runs
          (λ wrong. let no : replies.Opened files ≡ replies.Refused refusals.DiskWrite = wrong in cc),
    );
    refused = λ refusal wrong. absurd (let no : replies.Opened files ≡ replies.Refused refusal = wrong in cc);
  }

  -- a line that was refused prints nothing
  module _ (text : ListOf ℕ) (none : text ≡ []) (line : LineValue) (reply : ReplyValue) (mid : Desks) where
    abbrev So : Type 0
    So = After reply (text ++ text_of (Collect percent) [] line reply) mid

    by_reply : (answer : ReplyValue) → reply ≡ answer → After answer (text_of (Collect percent) [] line answer) mid → So
    by_reply answer is so =
        subst (λ (r : ReplyValue). After r (text ++ text_of (Collect percent) [] line r) mid) (sym is)
        (subst (λ (t : ListOf ℕ). After answer (t ++ text_of (Collect percent) [] line answer) mid) (sym none) so)

    stops : (refusal : Refusal) → reply ≡ replies.Refused refusal → CollectRefusal mid.machine refusal → mid.machine.now ≡ start.now → IsSure mid.machine.state
        → SoFar (replies.Refused refusal) mid.machine → So
    stops refusal is cause same sure far =
        by_reply (replies.Refused refusal) is (record {
          same = same;
          sure = sure;
          over = inl (inr (refusal, refl));
          stage = tt;
          done = λ d. absurd d;
          undone = λ _. (refl, far);
          refused = λ other is_other. subst (CollectRefusal mid.machine) (let same : replies.Refused refusal ≡ replies.Refused other = is_other in cc) cause;
        })

  -- ---- it begins

  module _ (text : ListOf ℕ) (none : text ≡ []) (d mid : Desks) (ss : ListOf Step) (at : At start.now opened Idle d) (fresh : Fresh start d) (reply : ReplyValue) where
    abbrev Next : Type 0
    Next = After reply (text ++ text_of (Collect percent) [] (lines.Gc percent) reply) mid

    begins : (a : ℕ) (answer : Done) → reply ≡ reply_of a (Ok answer) → Does of_files a (asked.GcStart percent) answer d.machine mid.machine → Next
    begins a (done.Started snapshot) is (none_ran, snapshot_is, others) =
        let runs : mid.machine.state ≡ Running = ap (λ (x : FileMachine). x.state) others ∙ at.runs in
        let store : mid.machine.store ≡ opened = ap (λ (x : FileMachine). x.store) others ∙ at.store in
        let counts : CountsIds [] opened mid.machine.last_id =
        subst (CountsIds [] opened) (sym (ap (λ (x : FileMachine). x.last_id) others)) (none_counted d.machine d.machine.store fresh.last at.store) in
        by_reply text none (lines.Gc percent) reply mid (replies.Collecting snapshot) is (record {
          same = ap (λ (x : FileMachine). x.now) others ∙ at.same;
          sure = running_sure mid.machine.state runs;
          over = inr (lines.Sweep, refl);
          stage = (
            record {
              a = a;
              snapshot = snapshot;
              old = d.machine;
              legal = subst (λ (st : RunState (ListOf ℕ)). ByState of_files st a (asked.GcStart percent) (Ok (done.Started snapshot)) d.machine mid.machine)
                  (sym at.runs) (none_ran, snapshot_is, others);
              ids = opened_ids start d.machine.store d.machine.last_id fresh.room fresh.last;
              opened_ids = λ ids. subst (λ (s : Store). HasIds s (last_id s.held)) at.store
                  (opened_ids start d.machine.store (last_id d.machine.store.held) fresh.room refl ids);
              store_is = store;
              under = record {
                same = ap (λ (x : FileMachine). x.now) others ∙ at.same;
                runs = runs;
                c = begun_by percent snapshot d.machine;
                ran = ap (λ (x : FileMachine). x.collection) others;
                tied = record {
                  sweeps = none_swept mid.machine store;
                  percent_is = refl;
                  snapshot_is = snapshot_is ∙ ap suc (fresh.last ∙ ap (λ (s : Store). last_id s.held) at.store);
                  values_are = values_so;
                  keys_are = ap keys_kept fresh.idle;
                  records = tt;
                  stage = begins_at opened (begun_by percent snapshot d.machine) (marks_of d.machine.store.held) refl;
                  filled = λ key has. absurd (none_in key (subst (λ (ks : ListOf (ListOf ℕ)). Contains ks key) (none_filled (marks_of d.machine.store.held)) has));
                };
                sourced = record {
                  ids = tt;
                  last_is = counts.last_is;
                  earlier = tt;
                  at = sourced_first opened (begun_by percent snapshot d.machine) (marks_of d.machine.store.held);
                  room = room_first opened mid.machine.store (marks_of d.machine.store.held) store;
                };
              };
            },
            refl,
          );
          done = λ d. absurd d;
          undone = λ _. (
            refl,
            runs_so (replies.Collecting snapshot) mid.machine [] (none_swept mid.machine store) counts (room_opened mid.machine store) runs
                (λ wrong. let no : replies.Collecting snapshot ≡ replies.Refused refusals.DiskWrite = wrong in cc),
          );
          refused = λ refusal wrong. absurd (let no : replies.Collecting snapshot ≡ replies.Refused refusal = wrong in cc);
        })
      where
        -- actors read nothing
        values_so : finite.values d.machine.now.names ++ values_read d.machine.parts ≡ finite.values start.now.names
        values_so =
            ap (λ (rest : ListOf (ListOf ℕ)). finite.values d.machine.now.names ++ rest) (ap values_read fresh.idle)
            ∙ (no_more (finite.values d.machine.now.names) ∙ ap (λ (f : Found (ListOf ℕ)). finite.values f.names) at.same)
    begins a answer is does = absurd does

    rests : (refusal : Refusal) → refusal ≢ refusals.DiskWrite → reply ≡ replies.Refused refusal → CollectRefusal d.machine refusal → mid.machine ≡ d.machine → Next
    rests refusal other is cause same =
        let runs : mid.machine.state ≡ Running = ap (λ (x : FileMachine). x.state) same ∙ at.runs in
        stops text none (lines.Gc percent) reply mid refusal is (subst (λ (x : FileMachine). CollectRefusal x refusal) (sym same) cause)
        (ap (λ (x : FileMachine). x.now) same ∙ at.same) (running_sure mid.machine.state runs)
        (runs_so (replies.Refused refusal) mid.machine [] (none_swept mid.machine (ap (λ (x : FileMachine). x.store) same ∙ at.store))
        (subst (CountsIds [] opened) (sym (ap (λ (x : FileMachine). x.last_id) same)) (none_counted d.machine d.machine.store fresh.last at.store))
        (room_opened mid.machine (ap (λ (x : FileMachine). x.store) same ∙ at.store)) runs
        (λ wrong. other (let both : replies.Refused refusal ≡ replies.Refused refusals.DiskWrite = wrong in cc)))

    begins_not : (a : ℕ) (refusal : Refusal) → reply ≡ replies.Refused refusal → RefusesOn of_files a (asked.GcStart percent) refusal d.machine mid.machine → Next
    begins_not a refusals.Memory is (none_ran, same) = rests refusals.Memory (λ e. let wrong : refusals.Memory ≡ refusals.DiskWrite = e in cc) is tt same
    begins_not a (refusals.Missing key) is (none_ran, (unknown, same)) = absurd (unknown tt)
    begins_not a (refusals.Damaged byte why) is (none_ran, (unknown, same)) = absurd (unknown tt)
    begins_not a (refusals.Collecting phase) is (running, same) = absurd (subst (IsCollecting phase d.machine.store) fresh.none_runs running)
    begins_not a refusal is refuses = absurd refuses

    begun_so : (a : ℕ) (told : Result Done Refusal) → reply ≡ reply_of a told → Answers of_files a (asked.GcStart percent) told d.machine mid.machine → Next
    begun_so a (Ok answer) is does = begins a answer is does
    begun_so a (Err (refusals.WrongPart kind)) is ((kind_is, (taken, by, differ)), same) = absurd (let wrong : None ≡ Some taken = by in cc)
    begun_so a (Err refusals.Memory) is refuses = begins_not a refusals.Memory is refuses
    begun_so a (Err refusal) is (right, refuses) = begins_not a refusal is refuses

    gc_line : Line of_files (lines.Gc percent) reply ss d mid → Next
    gc_line (run, inl (admits, (a, step, step_is, ends, sessions))) =
        let own = subst (λ (s : Asked (ListOf ℕ)). Ends of_files a [] s reply ss) step_is ends in
        let one = one_step start.now opened Idle d mid at a (asked.GcStart percent) reply ss run (λ told legal. legal) own in begun_so a one.told one.reply_is one.answers
    gc_line (run, inr (refusal, bars, is, no_steps, sessions)) =
        absurd (not_barred start.now opened Idle d mid at (lines.Gc percent) refusal (no_actor (lines.Gc percent) Idle refl) bars)

  -- ---- its steps, up to the last

  module _ (text : ListOf ℕ) (none : text ≡ []) (d mid : Desks) (ss : ListOf Step) (runs : Runs d) (reply : ReplyValue) where
    abbrev Last : Type 0
    Last = After reply (text ++ text_of (Collect percent) [] lines.Sweep reply) mid

    module _ (made : ListOf Step) (did : AreDid of_files made) (k : FileMachine) (run : Run of_files made d.machine k) (u : Under percent start.now opened k) where
      counted : CountsIds u.c.changes opened k.last_id
      counted = counts_of start.now opened k.store k.last_id u.c u.tied.sweeps u.sourced

      -- by what came next
      room_so : (phase : Phase) → IsCollecting phase k.store k.collection → phase ≢ phases.Release → HasRoomStill opened k.store
      room_so phase next other = room_in opened k.store u.c phase u.sourced.room (subst (IsCollecting phase k.store) u.ran next) other

      ended : (a freed copied : ℕ) → EndsCollection of_files freed copied k mid.machine → HasSwept percent freed copied start mid.machine opened
      ended a freed copied ends =
          let own : u.c ≡ ends.c = same_Some u.c ends.c (sym u.ran ∙ ends.ran) in
          let sweeps : Sweeps start.now u.c.changes opened mid.machine.store =
          subst (Sweeps start.now u.c.changes opened) (sym (ap (λ (x : FileMachine). x.store) ends.others)) u.tied.sweeps in
          let stage : u.c.stage ≡ Sweeping phases.End ends.s = ap (λ (x : C). x.stage) own ∙ ends.at_end in
          let chosen = has_chosen percent start.now opened k.store u.c phases.End ends.s u.tied stage in
          let sourced : IsSourced opened u.c ends.s = subst (SourcedAt opened u.c) stage u.sourced.at in
          let all_did : HasIds start.store start.last_id → Did of_files freed copied made d.machine k mid.machine run =
          λ ids. collects_what_it_selected of_files tt percent runs.snapshot freed copied
          (step_of of_files runs.a (asked.GcStart percent) (Ok (done.Started runs.snapshot)))
          (step_of of_files a asked.GcStep (Ok (done.Collected freed copied))) made d.machine k mid.machine runs.old (runs.ids ids) refl refl runs.legal run
          (did_between made did) refl refl
          (subst (λ (st : RunState (ListOf ℕ)). ByState of_files st a asked.GcStep (Ok (done.Collected freed copied)) k mid.machine) (sym u.runs) ends) in
          record {
            begun = d.machine;
            last = k;
            made = made;
            did = did;
            run = run;
            store_is = runs.store_is;
            c = u.c;
            ran = u.ran;
            chosen = chosen;
            sweeps = sweeps;
            counts = subst (CountsIds u.c.changes opened) (sym (ap (λ (x : FileMachine). x.last_id) ends.others)) counted;
            room = subst (λ (x : FileMachine). HasRoomStill opened x.store) (sym ends.others)
                (room_in opened k.store u.c phases.End u.sourced.room (let is : phases.End ≡ phase_by k.store.held u.c u.c.stage = sym (ap (phase_by k.store.held u.c) stage) in is)
                (λ e. let wrong : phases.End ≡ phases.Release = e in cc));
            collected = all_did;
            by_need = λ ids headers.
                let all = all_did ids in
                let same : all.c ≡ u.c = same_Some all.c u.c (sym all.ran ∙ u.ran) in
                gives_back (IsReachable start.now.names) percent start.now (needs_just start.now) opened mid.machine.store u.c (runs.opened_ids ids) headers chosen sweeps
                u.sourced.ids sourced.written
                (λ slot h has source. all.gone slot h has (subst (λ (x : C). Contains (sources_in x) h.id) (sym same) source))
                (λ slot h was not. all.stay slot h (subst (λ (x : Store). HasContainer x slot h) (sym runs.store_is) was)
                (λ source. not (subst (λ (x : C). Contains (sources_in x) h.id) same source)))
                (subst (λ (x : C). EachOnce (keys_written x.changes)) same all.once);
            freed_is = ends.freed_is ∙ ap (λ (x : C). freed_in x.changes) (sym own);
            copied_is = ends.copied_is ∙ ap (λ (x : C). length (keys_written x.changes)) (sym own);
            runs = ap (λ (x : FileMachine). x.state) ends.others ∙ u.runs;
            none_runs = ap (λ (x : FileMachine). x.collection) ends.others;
          }

      stays : (refusal : Refusal) → refusal ≢ refusals.DiskWrite → reply ≡ replies.Refused refusal → CollectRefusal k refusal
          → HasRoomStill opened k.store → mid.machine ≡ k → Last
      stays refusal other is cause room same =
          let up : mid.machine.state ≡ Running = ap (λ (x : FileMachine). x.state) same ∙ u.runs in
          stops text none lines.Sweep reply mid refusal is (subst (λ (x : FileMachine). CollectRefusal x refusal) (sym same) cause) (ap (λ (x : FileMachine). x.now) same ∙ u.same)
          (running_sure mid.machine.state up)
          (runs_so (replies.Refused refusal) mid.machine u.c.changes (subst (λ (x : FileMachine). Sweeps start.now u.c.changes opened x.store) (sym same) u.tied.sweeps)
          (subst (λ (x : FileMachine). CountsIds u.c.changes opened x.last_id) (sym same) counted)
          (subst (λ (x : FileMachine). HasRoomStill opened x.store) (sym same) room) up
          (λ wrong. other (let both : replies.Refused refusal ≡ replies.Refused refusals.DiskWrite = wrong in cc)))

      refused_by : (refusal : Refusal) → reply ≡ replies.Refused refusal → RefusesGcStep of_files refusal k mid.machine → Last
      refused_by refusals.NotCollecting is (none_runs, same) = absurd (let wrong : None ≡ Some u.c = sym none_runs ∙ u.ran in cc)
      refused_by refusals.Memory is (some, same) =
          stays refusals.Memory (λ e. let wrong : refusals.Memory ≡ refusals.DiskWrite = e in cc) is tt (room_so some.0 some.1 some.2) same
      refused_by refusals.Numbers is (flush, last, same) =
          stays refusals.Numbers (λ e. let wrong : refusals.Numbers ≡ refusals.DiskWrite = e in cc) is last
          (room_so phases.Flush flush (λ e. let wrong : phases.Flush ≡ phases.Release = e in cc)) same
      refused_by refusals.DiskRead is (some, same) =
          stays refusals.DiskRead (λ e. let wrong : refusals.DiskRead ≡ refusals.DiskWrite = e in cc) is tt (reads some) same
        where
          reads : IsCollecting phases.Mark k.store k.collection ⊎ IsCollecting phases.Filter k.store k.collection ⊎ IsCollecting phases.Copy k.store k.collection
              ⊎ (IsCollecting phases.Flush k.store k.collection × (k.last_id < LAST_ID)) → HasRoomStill opened k.store
          reads (inl at) = room_so phases.Mark at (λ e. let wrong : phases.Mark ≡ phases.Release = e in cc)
          reads (inr (inl at)) = room_so phases.Filter at (λ e. let wrong : phases.Filter ≡ phases.Release = e in cc)
          reads (inr (inr (inl at))) = room_so phases.Copy at (λ e. let wrong : phases.Copy ≡ phases.Release = e in cc)
          reads (inr (inr (inr at))) = room_so phases.Flush at.0 (λ e. let wrong : phases.Flush ≡ phases.Release = e in cc)
      refused_by refusals.DiskWrite is (stores, may, others) =
          stops text none lines.Sweep reply mid refusals.DiskWrite is tt (ap (λ (x : FileMachine). x.now) others ∙ u.same)
          (subst IsSure (sym (ap (λ (x : FileMachine). x.state) others)) tt) (record {
            changes = u.c.changes;
            sweeps = subst (λ (x : FileMachine). Sweeps start.now u.c.changes opened x.store) (sym others) u.tied.sweeps;
            counts = subst (λ (x : FileMachine). CountsIds u.c.changes opened x.last_id) (sym others) counted;
            room = λ whole. absurd (whole refl);
            runs = λ not. absurd (not refl);
            broke = λ _. (k, stores, others, may);
          })
      refused_by (refusals.Corrupt slot offset count want got) is (at, (unknown, same)) = absurd (unknown tt)
      refused_by (refusals.Missing key) is (at, (unknown, same)) = absurd (unknown tt)
      refused_by (refusals.Damaged byte why) is (at, (unknown, same)) = absurd (unknown tt)
      refused_by refusal is refuses = absurd refuses

      last_so : (a : ℕ) (told : Result Done Refusal) → reply ≡ reply_of a told → IsLast of_files reply → Answers of_files a asked.GcStep told k mid.machine → Last
      last_so a (Ok (done.Collected freed copied)) is last ends =
          by_reply text none lines.Sweep reply mid (replies.Collected freed copied) is (record {
            same = ap (λ (x : FileMachine). x.now) ends.others ∙ u.same;
            sure = running_sure mid.machine.state (ap (λ (x : FileMachine). x.state) ends.others ∙ u.runs);
            over = inl (inl tt);
            stage = tt;
            done = λ _. (freed, copied, refl, ended a freed copied ends);
            undone = λ not. absurd (not tt);
            refused = λ refusal wrong. absurd (let no : replies.Collected freed copied ≡ replies.Refused refusal = wrong in cc);
          })
      last_so a (Ok (done.Did phase)) is last goes = absurd (subst (IsLast of_files) is last)
      last_so a (Ok answer) is last does = absurd does
      last_so a (Err (refusals.WrongPart kind)) is last ((kind_is, (taken, by, differ)), same) = absurd (let wrong : None ≡ Some taken = by in cc)
      last_so a (Err refusals.Memory) is last refuses = refused_by refusals.Memory is refuses
      last_so a (Err refusal) is last (right, refuses) = refused_by refusal is refuses

    sweep_line : Line of_files lines.Sweep reply ss d mid → Last
    sweep_line (run, inl (admits, (made, a, did, (told, is, reply_is), last, sessions))) =
        let parts = run_parts of_files made (step_of of_files a asked.GcStep told ∷ []) d.machine mid.machine
        (subst (λ (xs : ListOf Step). Run of_files xs d.machine mid.machine) is run) in
        let u = all_went percent start.now opened made d.machine parts.0 runs.under did parts.1 in
        let legal = run_one (step_of of_files a asked.GcStep told) (step_of of_files a asked.GcStep told ∷ []) parts.0 mid.machine refl parts.2 in
        last_so made did parts.0 parts.1 u a told reply_is last (subst (λ (st : RunState (ListOf ℕ)). ByState of_files st a asked.GcStep told parts.0 mid.machine) u.runs legal)
    sweep_line (run, inr (refusals.Stopped count, ((other, stores, is), count_is), reply_is, no_steps, sessions)) =
        absurd (let wrong : Stopped other stores ≡ Running = sym is ∙ runs.under.runs in cc)
    sweep_line (run, inr (refusals.WrongPart kind, (up, (a, actor, kind_is, not)), reply_is, no_steps, sessions)) = absurd (let wrong : None ≡ Some a = actor in cc)
    sweep_line (run, inr (refusal, bars, reply_is, no_steps, sessions)) = absurd bars

  pub next : (prev : ReplyValue) (one : Replied) (text : ListOf ℕ) (d mid : Desks) (ss : ListOf Step) → After prev text d → Follows (Collect percent) prev one.line
      → Line of_files one.line one.reply ss d mid → After one.reply (text ++ text_of (Collect percent) [] one.line one.reply) mid
  next prev one text d mid ss after follows line = by prev after.stage follows
    where
      by : (prev : ReplyValue) → Stage prev text d → Follows (Collect percent) prev one.line → After one.reply (text ++ text_of (Collect percent) [] one.line one.reply) mid
      by (replies.Opened files) (at, fresh, none) is =
          subst (λ (l : LineValue). After one.reply (text ++ text_of (Collect percent) [] l one.reply) mid) (sym is)
          (gc_line text none d mid ss at fresh one.reply (subst (λ (l : LineValue). Line of_files l one.reply ss d mid) is line))
      by (replies.Collecting snapshot) (runs, none) is =
          subst (λ (l : LineValue). After one.reply (text ++ text_of (Collect percent) [] l one.reply) mid) (sym is)
          (sweep_line text none d mid ss runs one.reply (subst (λ (l : LineValue). Line of_files l one.reply ss d mid) is line))
      by reply stage follows = absurd follows

failure : (n : FileMachine) (refusal : Refusal) → IsFailure refusal → CollectRefusal n refusal
failure n refusals.Memory is = tt
failure n refusals.DiskRead is = tt
failure n refusals.DiskWrite is = tt
failure n refusal is = absurd is

pub collects_by_map : CollectsByMap
collects_by_map percent [] ss m e runs lines_are (none, is) = record {
  ends = inr tt;
  found = λ x may. sure_found m.state m.now x (running_sure m.state runs) (subst (λ (y : Desks). MayBeFound of_files y.machine.state y.machine.now x) is may);
  done = λ end. absurd (let wrong : None ≡ Some end.0 = end.1 in cc);
  undone = λ _. (refl, ap (λ (y : Desks). y.machine) is);
  refused = λ refusal end. absurd (let wrong : None ≡ Some end.0 = end.1 in cc);
}
collects_by_map percent (one ∷ more) ss m e runs lines_are ran =
    by (lines_after (Collect percent) m (After percent m) (next percent m) (λ files d at fresh. begun percent m d.machine.store files d at fresh) (λ refusal line follows. follows)
    one more ss e runs lines_are ran)
  where
    by : NotOpened m one more e.machine ⊎ WasOpened (Collect percent) m (After percent m) one more e → CollectedAlone percent (one ∷ more) m e.machine
    by (inl un) = record {
      ends = inl (unopened_ends m one more e.machine runs un (Collect percent));
      found = unopened_found m one more e.machine runs un;
      done = λ end. absurd (unopened_undone m one more e.machine runs un (Collect percent) (λ is. is) end);
      undone = λ _. (
        unopened_printed m one more e.machine runs un (Collect percent) refl,
        unopened_store m one more e.machine runs un (SweptSoFar (one ∷ more) m e.machine),
      );
      refused = λ refusal end. failure e.machine refusal (unopened_refusal m one more e.machine runs un refusal end);
    }
    by (inr was) =
        let so = was.after in
        record {
          ends = ends_over (Collect percent) one more so.over;
          found = λ x may. sure_found e.machine.state e.machine.now x so.sure may ∙ so.same;
          done = λ end.
              let over = so.done (ends_so (λ one. IsDone (Collect percent) one.reply) one more end) in (
                over.0,
                over.1,
                over.2,
                opened_store (HasSwept percent over.0 over.1 m e.machine) one more m e.machine was.files was.reply_is was.opened was.room over.3,
              );
          undone = λ not.
              let far = so.undone (λ d. not (ends_from (λ one. IsDone (Collect percent) one.reply) one more d)) in (
                far.0,
                opened_store (SweptSoFar (one ∷ more) m e.machine) one more m e.machine was.files was.reply_is was.opened was.room (record {
                  changes = far.1.changes;
                  sweeps = far.1.sweeps;
                  counts = far.1.counts;
                  room = λ whole. far.1.room (λ is. whole (ends_from (λ one. one.reply ≡ replies.Refused refusals.DiskWrite) one more is));
                  runs = λ not. far.1.runs (λ is. not (ends_from (λ one. one.reply ≡ replies.Refused refusals.DiskWrite) one more is));
                  broke = λ end. far.1.broke (ends_so (λ one. one.reply ≡ replies.Refused refusals.DiskWrite) one more end);
                }),
              );
          refused = λ refusal end. so.refused refusal (ends_so (λ one. one.reply ≡ replies.Refused refusal) one more end);
        }
