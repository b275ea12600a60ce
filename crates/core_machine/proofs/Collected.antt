-- A step of a collection, made or refused, or its end, as the machine of roots has it.
use Rattle.core_machine.proofs.Prelude.{◌≡◌, ◌++◌, ℕ, true, false, List, [], Some, None, option_map, Result, Ok, Err, refl, sym, ◌∙◌, ap, subst, Bool, Root, Answer, Next, CoreStage, Did, TablesAfter, answer_at, phase_at, IsUnderWay, Named, NameMap, Phase, Refusal, IsValidFor, StoreChange, SlotTable, GcEffect, GcRow, at_moment, StopsAfter, counted, CoreState, IsUnderWayIn, phase_in, swept_by, Answers, IsAtRightPart, RunState, Running, of_roots, HasCopied, SameCollection, ForgetsBy, MovesAs, NamesGc, changes_of, Follows, FollowsPhase, HasIndex, IsMachine, SameStop, answered_by}
use Rattle.std.specs.FinMap as finite
use Rattle.actor_parts.specs.declared.step.Answer.TheVariants as answers
use Rattle.actor_parts.specs.StepValue as steps
use Rattle.gc_sweep.specs.declared.sweep.Next.TheVariants as nexts
use Rattle.gc_steps.specs.declared.collection.Stage.TheVariants as core
use Rattle.gc_steps.specs.declared.phase.StepDone.TheVariants.{Done}
use Rattle.gc_steps.specs.Stepping.{StepsTo}
use Rattle.refusals.specs.declared.refusal.Phase.TheVariants as phases
use Rattle.refusals.specs.declared.refusal.Refusal.TheVariants as refusals
use Rattle.store_core.specs.Collecting as collecting
use Rattle.store_machine.specs.Asked as asked
use Rattle.store_machine.specs.Collecting.{GoesOn}
use Rattle.core_machine.specs.Refines.{SameParts}
use Rattle.core_machine.proofs.Phases.{Runs, none_runs, one_runs, phase_so}
use Rattle.core_machine.proofs.Rows.{M, as_it_was, goes_on}
use Rattle.core_machine.proofs.Stepped.{choose_step, mark_step, record_step}
use Rattle.core_machine.proofs.Sweeps.{did_same, ends_so, sweeps_so}
use Rattle.core_machine.proofs.SweptOn.{MapMoves, Swept, at_sweep, goes_on as swept_on, went_to}
use Rattle.core_machine.proofs.Unmade.{row_refused}

-- ---- a step before a sweep

record ChangesNone (phase : Phase) (m n : M) (goes : GoesOn of_roots phase m n) : Type 0 where
  pub changes : goes.went.changes ≡ []
  pub forgotten : n.forgotten ≡ m.forgotten

none_changed : (phase : Phase) (m n : M) (goes : GoesOn of_roots phase m n) → goes.went.changes ≡ [] → goes.went.forgotten ≡ m.forgotten → ChangesNone phase m n goes
none_changed phase m n goes none same = record { changes = none; forgotten = ap (λ (x : M). x.forgotten) goes.others ∙ same }

quiet_mark : (m n : M) (goes : GoesOn of_roots phases.Mark m n) → ChangesNone phases.Mark m n goes
quiet_mark m n goes = let just = goes.goes.3 in none_changed phases.Mark m n goes just.1 just.2

quiet_record : (m n : M) (goes : GoesOn of_roots phases.Filter m n) → ChangesNone phases.Filter m n goes
quiet_record m n goes = none_changed phases.Filter m n goes goes.goes.4 goes.goes.5

quiet_choose : (m n : M) (goes : GoesOn of_roots phases.Select m n) → ChangesNone phases.Select m n goes
quiet_choose m n goes = let just = goes.goes.3 in none_changed phases.Select m n goes just.1 just.2

module _ {followed : Bool} (c : CoreState) (m : M) (at : IsMachine followed m c) (runs : m.state ≡ Running) (d : CoreState) (a : ℕ) where
  abbrev t : SlotTable
  t = c.tables.held

  abbrev Left : Result Answer Refusal → List ℕ → Type 0
  Left answer buf = (n : M) × Answers of_roots a asked.GcStep (answered_by answer buf) m n × IsMachine followed n d × NamesGc answer c d m n

  no_part : IsAtRightPart of_roots a asked.GcStep m
  no_part taken is = absurd (let wrong : None ≡ Some taken = is in cc)

  -- ---- a step was made

  module _ (phase : Phase) (g : collecting.GoesOn phase c d) (size : d.disk.size ≡ c.disk.size) (parts : d.parts ≡ c.parts) (count : d.acknowledged ≡ c.acknowledged)
      (stop : d.stop ≡ None) (under : IsUnderWay t g.before) (r : Runs t m.swept m.collection g.before) where
    abbrev Goes : Phase → Type 0
    Goes p = (n : M) × GoesOn of_roots p m n × IsMachine followed n d × MovesAs p c d m n

    -- a step before a sweep changes and forgets nothing
    before_sweep : (p : Phase) → changes_of p m.last_id g.before.sweep ≡ [] → ForgetsBy p (at_moment c g.before) (at_moment d g.after) m.forgotten m.forgotten
        → ((n : M) (goes : GoesOn of_roots p m n) → ChangesNone p m n goes) → (n : M) × GoesOn of_roots p m n × IsMachine followed n d → Goes p
    before_sweep p none forgets quiet (n, goes, same) =
        let left = quiet n goes in (
          n,
          goes,
          same,
          record {
            before = g.before;
            core_ran = g.ran;
            after = g.after;
            core_runs = g.runs;
            c = goes.c;
            ran = goes.ran;
            d = record goes.c { stage = goes.went.stage; recorded = goes.went.recorded; changes = goes.c.changes ++ goes.went.changes };
            runs = ap (λ (x : M). x.collection) goes.others;
            changes_are = ap (λ (ch : List StoreChange). goes.c.changes ++ ch) (left.changes ∙ sym none);
            forgets = subst (ForgetsBy p (at_moment c g.before) (at_moment d g.after) m.forgotten) (sym left.forgotten) forgets;
          },
        )

    -- a sweep goes on only once something was copied, or it copies now
    swept_so : g.before.stage ≡ core.Sweep → (next : Next) → g.before.sweep.next ≡ next → answer_at core.Sweep next g.before.sweep.freed g.before.sweep.copied ≡ Did phase
        → swept_by phase m.swept ≡ true
    swept_so sweeps next is did = by next (has next is) did
      where
        has : (n : Next) → g.before.sweep.next ≡ n → HasCopied (phase_at core.Sweep n) m.swept
        has n is =
            let s = at_sweep t m.swept r.c g.before r.same sweeps in
            subst (λ (p : Phase). HasCopied p m.swept) (s.same.next_is ∙ ap (phase_at core.Sweep) is) s.same.swept_is

        by : (n : Next) → HasCopied (phase_at core.Sweep n) m.swept → answer_at core.Sweep n g.before.sweep.freed g.before.sweep.copied ≡ Did phase → swept_by phase m.swept ≡ true
        by (nexts.Copy source entry) copied did = subst (λ (p : Phase). swept_by p m.swept ≡ true) (did_same phases.Copy phase did) refl
        by (nexts.Flush source entry) copied did = subst (λ (p : Phase). swept_by p m.swept ≡ true) (did_same phases.Flush phase did) copied
        by (nexts.Release source entry) copied did = subst (λ (p : Phase). swept_by p m.swept ≡ true) (did_same phases.Release phase did) copied
        by nexts.End copied did = absurd (let wrong : Done g.before.sweep.freed g.before.sweep.copied ≡ Did phase = did in cc)

    module _ (tells : (places : _) × (d.known ≡ Some places)) (follows : followed ≡ true → FollowsPhase phase c.disk.content) where
      own : HasIndex followed m.swept m.forgotten m.store.held c.known
      own = at.index runs

      is_swept : swept_by phase m.swept ≡ true → (s : Swept followed tells.0 (at_moment c g.before) (at_moment d g.after) phase m r.c d.tables g.after)
          → IsMachine followed (went_to phase r.c s.went s.store m) d
      is_swept copied s = record {
        represents = s.represents;
        valid = subst (λ (n : ℕ). IsValidFor n s.store) (sym size) (s.valid c.disk.size at.valid);
        free = s.free;
        names = λ name. at.names name ∙ ap (λ (names : NameMap). option_map (λ (n : Named). n.root) (finite.get names name)) (sym s.names);
        last = at.last ∙ sym s.last;
        last_id = s.last_id;
        last_within = s.last_within at.last_within;
        parts = subst (SameParts m.parts) (sym parts) at.parts;
        acknowledged = at.acknowledged ∙ sym count;
        index = λ running. record { places = tells.0; known_is = tells.1; newest = λ none. absurd (let wrong : true ≡ false = sym copied ∙ none in cc); told = s.told };
        collection = subst
            (SameCollection d.tables.held (swept_by phase m.swept)
            (Some (record r.c { stage = s.went.stage; recorded = s.went.recorded; changes = r.c.changes ++ s.went.changes }))) (sym g.runs) s.run;
        state = subst (λ (s : RunState Root). SameStop m.acknowledged s d.stop) (sym runs) (subst (SameStop m.acknowledged Running) (sym stop) tt);
      }

      by_stage : (stage : CoreStage) → g.before.stage ≡ stage → answer_at stage g.before.sweep.next g.before.sweep.freed g.before.sweep.copied ≡ Did phase
          → StepsTo stage g.before.sweep.next (at_moment c g.before) (at_moment d g.after)
          → TablesAfter stage g.before.sweep.next (at_moment c g.before) (at_moment d g.after) → Goes phase
      by_stage (core.Mark level slot) is did made tables =
          subst Goes (did_same phases.Mark phase did) (before_sweep phases.Mark refl tt (quiet_mark m)
          (mark_step c m at runs d tables size parts count made.1 stop g.before g.after r under g.runs level slot is made.0))
      by_stage (core.Filter slot) is did made tables =
          subst Goes (did_same phases.Filter phase did) (before_sweep phases.Filter refl tt (quiet_record m)
          (record_step c m at runs d tables size parts count made.1 stop g.before g.after r under g.runs slot is made.0))
      by_stage core.Select is did made tables =
          subst Goes (did_same phases.Select phase did) (before_sweep phases.Select refl tt (quiet_choose m)
          (choose_step c m at runs d tables size parts count made.1 stop g.before g.after r under g.runs is made.0))
      by_stage core.Sweep is did made tables =
          let s = sweeps_so m r.c (at_moment c g.before) (at_moment d g.after) phase moves follows at.represents at.valid at.free at.last_id under r.same is
          g.phase_is g.steps g.tables in
          let phase_is : phase ≡ phase_in m.store r.c = sym (answer_phase g.before.sweep.next did) ∙ ap (λ (s : CoreStage). phase_at s g.before.sweep.next) (sym is)
          ∙ sym (phase_so m.store.held t m.swept r.c g.before at.valid.headers at.represents.slots_hold r.same under) in (
            went_to phase r.c s.went s.store m,
            swept_on phase m r.c d.tables g.after r.ran phase_is s,
            is_swept (swept_so is g.before.sweep.next refl did) s,
            record {
              before = g.before;
              core_ran = g.ran;
              after = g.after;
              core_runs = g.runs;
              c = r.c;
              ran = r.ran;
              d = record r.c { stage = s.went.stage; recorded = s.went.recorded; changes = r.c.changes ++ s.went.changes };
              runs = refl;
              changes_are = ap (λ (ch : List StoreChange). r.c.changes ++ ch) s.changes_are;
              forgets = s.forgets;
            },
          )
        where
          moves : MapMoves followed m.forgotten m.store.held c.known d.known
          moves = record { before = own.places; was = own.known_is; after = tells.0; is = tells.1; told = own.told }

          answer_phase : (n : Next) → answer_at core.Sweep n g.before.sweep.freed g.before.sweep.copied ≡ Did phase → phase_at core.Sweep n ≡ phase
          answer_phase (nexts.Copy source entry) did = did_same phases.Copy phase did
          answer_phase (nexts.Flush source entry) did = did_same phases.Flush phase did
          answer_phase (nexts.Release source entry) did = did_same phases.Release phase did
          answer_phase nexts.End did = absurd (let wrong : Done g.before.sweep.freed g.before.sweep.copied ≡ Did phase = did in cc)

      went_on : Goes phase
      went_on = by_stage g.before.stage refl g.phase_is g.steps g.tables

  -- ---- each answer

  pub gc_row : (answer : Result Answer Refusal) (buf : List ℕ) → GcRow answer c d → GcEffect answer c d → IsUnderWayIn t c.collection
      → StopsAfter steps.GcStep answer c.acknowledged d.stop
      → d.acknowledged ≡ counted answer c.acknowledged → (followed ≡ true → Follows answer c) → Left answer buf
  gc_row (Ok (answers.Did phase)) buf (g, parts) effect under stop count follows =
      let own : HasIndex followed m.swept m.forgotten m.store.held c.known = at.index runs in
      went_on phase g effect.later.size_is parts count stop (subst (IsUnderWayIn t) g.ran under) (one_runs t m.swept m.collection c.collection g.before at.collection g.ran)
      (effect.tells own.places own.known_is) follows
  gc_row (Ok (answers.Done freed copied)) buf (e, parts) effect under stop count follows =
      let r = one_runs t m.swept m.collection c.collection e.before at.collection e.ran in (
        record m { collection = None },
        ends_so m r.c t e.before freed copied r.ran r.same (subst (IsUnderWayIn t) e.ran under) e.at_end e.freed_is e.copied_is,
        goes_on c m at d m.parts None e.tables_are effect.later.size_is (subst (SameParts m.parts) (sym parts) at.parts) count e.index_is
            (subst (SameCollection t m.swept None) (sym e.ended) tt) runs stop,
        tt,
      )
  gc_row (Err refusals.NotCollecting) buf (none, parts) effect under stop count follows =
      let none_at = none_runs t m.swept m.collection c.collection at.collection none.none_ran in (
        m,
        (no_part, (none_at, refl)),
        as_it_was c m at runs d (record {
          tables = none.tables_are;
          size = effect.later.size_is;
          count = count;
          index = none.index_is;
          collects = subst (SameCollection t m.swept m.collection) (sym none.none_runs) (subst (λ p. SameCollection t m.swept p None) (sym none_at) tt);
          stop = stop;
        }) parts,
        tt,
      )
  gc_row (Err refusal) buf (un, parts) effect under stop count follows =
      row_refused c m at runs d a effect.later.size_is parts un.tables_are count un.before un.after un.ran
      (one_runs t m.swept m.collection c.collection un.before at.collection un.ran)
      (subst (IsUnderWayIn t) un.ran under) un.runs refusal un.cause un.kept stop
  gc_row (Ok answer) buf row effect under stop count follows = absurd row
