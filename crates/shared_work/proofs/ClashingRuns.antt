-- None of the steps of a run clashes, where no two different nodes have one digest.
use Rattle.std.proofs.Common.{◌≡◌, ◌⊎◌, inl, inr, ◌==◌, if◌then◌else◌, ℕ, List, [], ◌∷◌, ◌++◌, Some, Result, Ok, Err, refl, sym, ap, ◌∙◌, subst}
use Rattle.std.specs.List.{AllByRecursion}
use Rattle.actor_parts.specs.declared.step.Answer.{Answer}
use Rattle.actor_parts.specs.Asking.{Ask}
use Rattle.actor_parts.specs.StepValue as steps
use Rattle.actor_parts.specs.StepValue.{StepValue}
use Rattle.load_stream.specs.Load.{LoadState}
use Rattle.refusals.specs.declared.refusal.Refusal.{Refusal}
use Rattle.refusals.specs.declared.refusal.Refusal.TheVariants as refusals
use Rattle.refusals.specs.declared.refusal.Difference.{Difference}
use Rattle.store_model.specs.Collisions.{ByteSet, HasNoCollisions, IsIn}
use Rattle.store_core.specs.Core.{CoreStep}
use Rattle.store_core.specs.Runs.{CoreRun, RunsOn, events_of}
use Rattle.store_core.specs.State.{CoreState, Event}
use Rattle.store_machine.specs.ByMap.{FileMachine}
use Rattle.store_machine.specs.Legal.{Answers}
use Rattle.store_machine.specs.Machine.{RunState}
use Rattle.store_machine.specs.Values.{StaysAt, of_files}
use Rattle.core_machine.specs.Bytes.{BytesOf}
use Rattle.core_machine.specs.Files.{FilesRefine, FitsBy, IsAtFiles, stored_in}
use Rattle.core_machine.specs.Refines.{answered_by}
use Rattle.ingest_workers.specs.Ingesting.{ask_of, asks_of}
use Rattle.ingest_workers.specs.Owing.{AreAllOwed, AreOwed, IsOwed, OwedRunsAreRight}
use Rattle.ingest_workers.proofs.Rightly.{mine_of, owed_at, own_first}
use Rattle.shared_work.specs.Clashing.{IsHeldBetween, IsHeldNode, IsNoClash, IsNodeOf, NoneClashes}
use Rattle.shared_work.proofs.Clashing.{claim_clear, seal_clear}
use Rattle.shared_work.proofs.CompleteLeaves.{ask}
use Rattle.shared_work.proofs.EachStep.{Goes, each_step, steps_run}

-- ---- what an actor asked for

pub asks_append : (actor : ℕ) (xs ys : List Event) → asks_of actor (xs ++ ys) ≡ asks_of actor xs ++ asks_of actor ys
asks_append actor [] ys = refl
asks_append actor (x ∷ xs) ys =
    ap (λ (l : List Ask). if x.actor == actor then ask_of x ∷ l else l) (asks_append actor xs ys) ∙ mine_of (x.actor == actor) (ask_of x) (asks_of actor xs) (asks_of actor ys)

-- ---- a step

not_read : (rest after : List (List ℕ)) (key : List ℕ) (at : Difference) → StaysAt rest (refusals.Clash key at) after → ⊥
not_read [] after key at is = is
not_read (bytes ∷ rest) after key at is = is

module _ {C : Type 0} (state : C → CoreState) (refine : FilesRefine C state) (runs_on : RunsOn C state) where
  push_run : (es : List Event) (e : Event) (old c d : C) → CoreRun C state es old c → CoreStep (state c) e (state d) → CoreRun C state (es ++ e ∷ []) old d
  push_run [] e old c d run made = (d, (subst (λ (x : C). CoreStep (state x) e (state d)) run made, refl))
  push_run (x ∷ es) e old c d (mid, (first, rest)) made = (mid, (first, push_run es e mid c d rest made))

  module _ (among : ByteSet) (own : ℕ → List LoadState) (es : List Event) (old new : C) (owed : AreAllOwed own es)
      (no_nodes : HasNoCollisions (λ bytes. IsNodeOf own bytes ⊎ IsHeldBetween state es old new bytes)) where
    abbrev S : List ℕ → Type 0
    S = IsIn among

    abbrev Nodes : List ℕ → Type 0
    Nodes bytes = IsNodeOf own bytes ⊎ IsHeldBetween state es old new bytes

    -- ---- one step of a machine that runs

    module _ (a : ℕ) (bytes buf : List ℕ) (m n : FileMachine) (content now : List ℕ) (held : (b : List ℕ) → IsHeldNode b content → Nodes b) (before : List Ask) where
      abbrev nodes : (b : List ℕ) → IsNodeOf own b → Nodes b
      nodes b is = inl is

      clear_by : (step : StepValue) (key : List ℕ) (at : Difference) → IsOwed (own a) before step → Answers of_files a (ask bytes step) (Err (refusals.Clash key at)) m n
          → BytesOf (ask bytes step) (Err (refusals.Clash key at)) m n content now → ⊥
      clear_by (steps.Claim seg) key at owes is changed = claim_clear Nodes no_nodes content held own a nodes before seg key at owes changed.1
      clear_by (steps.Seal offered) key at owes is changed = seal_clear Nodes no_nodes content held own a nodes before offered key at _ owes changed.1
      clear_by steps.ReadNext key at owes (right, (value, rest, after, was, stays, others)) changed = not_read rest after key at stays
      clear_by other key at owes is changed = is.1

      clear_here : (step : StepValue) (answer : Result Answer Refusal) → IsOwed (own a) before step → Answers of_files a (ask bytes step) (answered_by answer buf) m n
          → BytesOf (ask bytes step) (answered_by answer buf) m n content now → IsNoClash answer
      clear_here step (Err (refusals.Clash key at)) owes is changed = clear_by step key at owes is changed
      clear_here step (Ok answer) owes is changed = tt
      clear_here step (Err refusal) owes is changed = tt

    -- ---- all steps

    -- a core that the steps before lead to, whose disk tells its content
    abbrev Holds : List Event → List Event → FileMachine → C → Type 0
    Holds before rest m c = CoreRun C state before old c × ((content : List ℕ) × ((state c).disk.content ≡ Some content))

    goes : Goes state own S es new (λ e. IsNoClash e.answer) Holds
    goes before f fs m n c d moment (first, (content, tells)) =
        let e : Event = f.event in
        let changed = moment.changes content tells in
        let asked : asks_of e.actor es ≡ asks_of e.actor before ++ ask_of e ∷ asks_of e.actor (events_of fs) =
        ap (asks_of e.actor) moment.es_are ∙ asks_append e.actor before (e ∷ events_of fs) ∙ ap (λ (l : List Ask). asks_of e.actor before ++ l) (own_first e (events_of fs)) in
        let owes : IsOwed (own e.actor) (asks_of e.actor before) e.step =
        owed_at (own e.actor) [] (asks_of e.actor before) (ask_of e) (asks_of e.actor (events_of fs)) (subst (AreOwed (own e.actor) []) asked (owed e.actor)) in
        let held : (b : List ℕ) → IsHeldNode b content → Nodes b = λ b is. inr (record {
          before = before;
          after = events_of (f ∷ fs);
          mid = c;
          steps_are = moment.es_are;
          first = first;
          then_run = (d, (moment.made.made, steps_run state S fs d new moment.rest));
          held = (content, tells, is);
        }) in (
          clear_here e.actor f.bytes e.buf m n content changed.0 held (asks_of e.actor before) e.step e.answer owes moment.answers changed.2,
          (push_run before e old c d first moment.made.made, (changed.0, changed.1)),
        )

  pub none_clashes : OwedRunsAreRight C state → NoneClashes C state
  none_clashes rightly among own es m content old new distinct segments up machine going each run owed tells no_nodes =
      let right = rightly among own es m.store (stored_in m.now) old new distinct segments at.is_at at.settled each run owed in
      subst (AllByRecursion (λ e. IsNoClash e.answer)) right.events_are
      (each_step state refine runs_on among distinct own es new (λ e. IsNoClash e.answer)
      (λ e. (λ answer told. subst IsNoClash (sym told) tt, λ stopped. subst IsNoClash (sym stopped.1) tt)) (Holds among own es old new owed no_nodes)
      (goes among own es old new owed no_nodes) [] right.files m old (sym right.events_are) up machine going right.of_streams right.run (refl, (content, tells)))
    where
      at : IsAtFiles (IsIn among) m (state old)
      at = subst (λ (s : RunState (List ℕ)). FitsBy s (IsIn among) m (state old)) going machine.fits
