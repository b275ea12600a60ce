-- `reopen` as a line of a machine that fits the core.
use Rattle.script_runner.proofs.Prelude.{◌≡◌, ◌⊎◌, ◌≤◌, inl, inr, ◌∙◌, ℕ, zero, suc, List, [], ◌∷◌, length, replicate, Option, None, Result, Ok, Err, refl, sym, ap, subst, arith, length-replicate, ACTORS, DiskView, leaves_on, Refusal, SessionState, ReplyValue, IsReadFrom, OpensCore, StaysOrStops, CoreState, Event, IsRunning, new_runs, Answers, Legal, Desk, all_none, step_of, Machine, answered_by, ActsReopen, RefusesReopen, RunnerState, Kept, SameSessions, WritersGive, Sessions, running_step, OnlyReads, later_here}
use Rattle.std.proofs.Common.{slice_index_or}
use Rattle.std.specs.FinMap as finite
use Rattle.actor_parts.specs.declared.part.Part as core_part
use Rattle.actor_parts.specs.declared.part.Part.TheVariants as core_parts
use Rattle.actor_parts.specs.Kinds as core_kinds
use Rattle.actor_parts.specs.Parts.{part_of}
use Rattle.actor_parts.specs.StepValue as steps
use Rattle.script_lines.specs.Grammar as lines
use Rattle.script_lines.specs.ReplyValue as replies
use Rattle.store_core.proofs.Opened.{opened_runs, stays_runs}
use Rattle.store_machine.specs.Asked as asked
use Rattle.store_machine.specs.Done.{Done}
use Rattle.store_machine.specs.Done as done
use Rattle.store_machine.specs.Opening as opening
use Rattle.script_runner.specs.Acts.{Reopens, counted}
use Rattle.script_runner.proofs.DeskParts.{quiet_gives}
use Rattle.script_runner.proofs.DeskRuns.{Ran, ran_step, ran_still}
use Rattle.script_runner.proofs.DeskSessions.{same_none, same_on}
use Rattle.script_runner.proofs.DeskSteps.{answers_so, makes}
use Rattle.script_runner.proofs.FaultsCounted.{opened_went, unopened_went}
use Rattle.script_runner.proofs.Fitting.{AtDesk, Fitted, Leads, LeavesEither}

-- a core that was opened runs
pub read_runs : (before : DiskView) (c : CoreState) → IsReadFrom before c → IsRunning c
read_runs before c read = new_runs _ before.size c read.reads.only.later.size_is read.opened

pub opened_parts : (D : Type 0) (view : D → DiskView) (old : DiskView) (c : CoreState) → OpensCore D view old c → c.parts ≡ replicate ACTORS core_parts.Idle
opened_parts D view old c (inl read) = read.opened.parts_are
opened_parts D view old c (inr (mid, (made, read))) = read.opened.parts_are

opened_stop : (D : Type 0) (view : D → DiskView) (old : DiskView) (c : CoreState) → OpensCore D view old c → c.stop ≡ None
opened_stop D view old c (inl read) = read.opened.stop_is
opened_stop D view old c (inr (mid, (made, read))) = read.opened.stop_is

idle_at : (n a : ℕ) → slice_index_or (replicate n core_parts.Idle) a core_parts.Idle ≡ core_parts.Idle
idle_at zero a = refl
idle_at (suc n) zero = refl
idle_at (suc n) (suc a) = idle_at n a

-- no actor writes where all are idle
pub idle_give : (xs : Sessions) (parts : List core_part.Part) → parts ≡ replicate ACTORS core_parts.Idle → WritersGive xs parts
unfolding part_of
idle_give xs parts are a none writes =
    let idle : part_of parts a ≡ core_parts.Idle = ap (λ (ps : List core_part.Part). slice_index_or ps a core_parts.Idle) are ∙ idle_at ACTORS a in
    let wrong = sym (ap core_kinds.kind_of idle) ∙ writes in absurd cc

-- parts that stay
kept_parts : (C : Type 0) (view : C → DiskView) (refusal : Refusal) (old new : CoreState) → StaysOrStops C view refusal old new → new.parts ≡ old.parts
kept_parts C view refusal old new (inl kept) = kept.0.parts_are
kept_parts C view refusal old new (inr stops) = stops.parts_are

module _ (F : Fitted) (r : RunnerState F.C) (d : Desk F.V F.R) (at : AtDesk F d r) (s : RunnerState F.C) where
  open F use {V, R, v, C, state, Allowed, beside, fitting}
  open F.beside use {Fits, Owns, Left, Changes, Finds}

  abbrev view : C → DiskView
  view c = (state c).disk

  abbrev Reopened : ReplyValue → Type 0
  Reopened reply = Leads F lines.Reopen reply d r s

  -- ---- it is opened

  module _ (files : ℕ) (acts : Reopens C state files s.sessions r.core s.core) where
    mid : C
    mid = acts.mid

    mid_runs : IsRunning (state acts.mid)
    mid_runs = opened_runs C view (state r.core).disk (state acts.mid) acts.opened

    opens : (n : Machine V R) × (Legal v (step_of v 0 asked.Reopen (Ok (done.Reopened (finite.len (state acts.mid).tables.names)))) d.machine n × Fits n (state acts.mid)
        × LeavesEither Left d.machine n (state r.core).disk (state acts.mid).disk
        × Changes (step_of v 0 asked.Reopen (Ok (done.Reopened (finite.len (state acts.mid).tables.names)))) d.machine n (state r.core).disk.content (state acts.mid).disk.content
        × Finds n (state r.core).disk (state acts.mid).disk)
    opens = fitting.opened 0 r.core acts.mid d.machine at.fits acts.opened mid_runs

    abbrev n : Machine V R
    n = opens.0

    -- then it is counted, which changes nothing
    abbrev counting : Event
    counting = record { actor = 0; step = steps.Stat; answer = Ok (counted acts.holdings); buf = acts.counts.0 }

    abbrev told_opened : Result Done Refusal
    told_opened = Ok (done.Reopened (finite.len (state acts.mid).tables.names))

    counting_reads : OnlyReads (state acts.mid).disk (state s.core).disk
    counting_reads = (running_step (state acts.mid) (state s.core) counting (opened_stop C view (state r.core).disk (state acts.mid) acts.opened)
        acts.counts.1).made.effect.disk.only

    -- the number that is told is that of the names
    module _ (next : Machine V R)
        (legal : Answers v 0 asked.Stat (Ok (done.Counted acts.holdings.files acts.holdings.segments acts.holdings.bytes acts.holdings.used acts.holdings.free)) n next) where
      names_are : acts.holdings.files ≡ finite.len n.now.names
      names_are = ap files_of legal.0
        where
          files_of : Done → ℕ
          files_of (done.Counted files segments bytes used free) = files
          files_of answer = 0

    opened_line : Reopened (replies.Opened files)
    opened_line =
        let one = makes F counting [] acts.mid s.core n mid_runs opens.1.1 tt acts.counts.1 in
        let told : Result Done Refusal = told_opened in
        let legal = answers_so v n one.next 0 asked.Stat (answered_by (Ok (counted acts.holdings)) acts.counts.0)
        (fitting.runs n (state acts.mid) opens.1.1 (opened_stop C view (state r.core).disk (state acts.mid) acts.opened)) one.legal in
        let found = opens.1.0 in
        let clock : (state r.core).disk.clock ≤ (state acts.mid).disk.clock = (opened_went C state (state r.core).disk (state acts.mid) acts.opened).later.clock_is in
        let count : finite.len (state acts.mid).tables.names ≡ files =
        found.files_are ∙ ap (λ (m : Machine V R). finite.len m.now.names) (sym found.others) ∙ sym (names_are one.next legal) ∙ sym acts.files_are in
        let ran : Ran F (step_of v 0 asked.Reopen told ∷ []) d.machine n r.core s.core =
        ran_step F (step_of v 0 asked.Reopen told) d.machine n r.core s.core opens.1.0
        (leaves_on (λ image. Left d.machine image ⊎ Left n image) (λ image. Left n image ⊎ Left one.ran.run.0 image) (λ image. Left d.machine image ⊎ Left n image)
        (state r.core).disk (state acts.mid).disk (state s.core).disk clock opens.1.2 one.ran.did.leaves (λ image left. left)
        (λ image left. elim left [ inl before ↦ inr before | inr after ↦ inr (subst (λ (m : Machine V R). Left m image) (sym one.ran.run.1.1 ∙ legal.1) after) ]))
        (subst (λ (told : Option (List ℕ)). Changes (step_of v 0 asked.Reopen told_opened) d.machine n (state r.core).disk.content told) (sym counting_reads.content_is) opens.1.3)
        (omega (arith, clock, one.ran.later)) in
        record {
          steps = step_of v 0 asked.Reopen told ∷ [];
          next = record { machine = n; sessions = all_none d.sessions };
          line_is = (ran.run, ((0, (told, refl, ap replies.Opened (sym count))), refl));
          at = record {
            runs = one.runs;
            fits = subst (λ (m : Machine V R). Fits m (state s.core)) legal.1 one.fits;
            same = subst (SameSessions (λ b k. Owns b k n (state s.core)) (all_none d.sessions)) (sym acts.sessions_are)
                (same_none (λ b k. Owns b k d.machine (state r.core)) (λ b k. Owns b k n (state s.core)) ACTORS d.sessions r.sessions at.same at.many);
            many = ap length acts.sessions_are ∙ length-replicate {A = Option SessionState} ACTORS None;
            give = quiet_gives counting (state acts.mid) (state s.core) s.sessions tt acts.counts.1
                (idle_give s.sessions (state acts.mid).parts (opened_parts C view (state r.core).disk (state acts.mid) acts.opened));
          };
          did = ran.did;
          found = λ files is told. fitting.longer n (state r.core).disk (state r.core).disk (state acts.mid).disk (state s.core).disk (later_here (state r.core).disk)
              clock counting_reads.later opens.1.4;
        }

  -- ---- it isn't

  module _ (refusal : Refusal) (sessions : s.sessions ≡ r.sessions) where
    abbrev told : Result Done Refusal
    told = Err refusal

    unopened_at : (n : Machine V R) → Ran F (step_of v 0 asked.Reopen told ∷ []) d.machine n r.core s.core → Fits n (state s.core) → IsRunning (state s.core)
        → (state s.core).parts ≡ (state r.core).parts → ((b : ℕ) (k : Kept) → Owns b k d.machine (state r.core) → Owns b k n (state s.core))
        → Reopened (replies.Refused refusal)
    unopened_at n ran fits runs parts owns = record {
      steps = step_of v 0 asked.Reopen told ∷ [];
      next = record { machine = n; sessions = d.sessions };
      line_is = (ran.run, ((0, (told, refl, refl)), refl));
      at = record {
        runs = runs;
        fits = fits;
        same = subst (SameSessions (λ b k. Owns b k n (state s.core)) d.sessions) (sym sessions)
            (same_on (λ b k. Owns b k d.machine (state r.core)) (λ b k. Owns b k n (state s.core)) d.sessions r.sessions owns at.same);
        many = ap length sessions ∙ at.many;
        give = subst (λ (xs : Sessions). WritersGive xs (state s.core).parts) (sym sessions) (subst (WritersGive r.sessions) (sym parts) at.give);
      };
      did = ran.did;
      found = λ files is told. absurd cc;
    }

    unopened_line : RefusesReopen C state refusal r.core s.core → Reopened (replies.Refused refusal)
    unopened_line refuses = elim refuses.why [
      | inl memory ↦ unopened_at d.machine
          (ran_still F (step_of v 0 asked.Reopen told) d.machine r.core s.core (subst (λ (e : Refusal). opening.MayRefuseOpening v e) (sym memory.0) tt, inl refl) at.fits
          (subst (λ (e : Refusal). Changes (step_of v 0 asked.Reopen (Err e)) d.machine d.machine (state r.core).disk.content (state r.core).disk.content) (sym memory.0)
          (fitting.unmade 0 asked.Reopen d.machine (state r.core) at.fits tt)) memory.1)
          (subst (λ (c : C). Fits d.machine (state c)) (sym memory.1) at.fits)
          (subst (λ (c : C). IsRunning (state c)) (sym memory.1) at.runs) (ap (λ (c : C). (state c).parts) memory.1)
          (λ b k owns. subst (λ (c : C). Owns b k d.machine (state c)) (sym memory.1) owns)
      | inr none ↦ by (fitting.unopened 0 refusal r.core s.core d.machine at.fits none.0 none.1) none.1
          (unopened_went C state refusal (state r.core).disk (state s.core).disk none.0).later.clock_is
    ]
      where
        by : (n : Machine V R) × (Legal v (step_of v 0 asked.Reopen told) d.machine n × Fits n (state s.core) × ((b : ℕ) (k : Kept) → Owns b k d.machine (state r.core)
            → Owns b k n (state s.core)) × LeavesEither Left d.machine n (state r.core).disk (state s.core).disk
            × Changes (step_of v 0 asked.Reopen told) d.machine n (state r.core).disk.content (state s.core).disk.content) →
            StaysOrStops C view refusal (state r.core) (state s.core)
            → (state r.core).disk.clock ≤ (state s.core).disk.clock → Reopened (replies.Refused refusal)
        by went leaves later = unopened_at went.0
            (ran_step F (step_of v 0 asked.Reopen told) d.machine went.0 r.core s.core went.1.0 went.1.3 went.1.4 later) went.1.1
            (stays_runs C view refusal (state r.core) (state s.core) leaves at.runs)
            (kept_parts C view refusal (state r.core) (state s.core) leaves) went.1.2

  pub reopen_line : (reply : ReplyValue) → ActsReopen C state reply r s → Reopened reply
  reopen_line (replies.Opened files) acts = opened_line files acts
  reopen_line (replies.Refused refusal) acts = unopened_line refusal acts.1 acts.0
  reopen_line reply acts = absurd acts
