-- What an actor holds of its file it holds after a step of a core that is at a store: one beside it, its beginning, or a turn.
use Rattle.session_turns.proofs.Prelude.{◌≡◌, inl, inr, ◌∙◌, ◌<◌, ℕ, List, [], ◌∷◌, Some, Result, Ok, refl, ap, subst, arith, AllByRecursion, ACTORS, Answer, StepValue, apart, Kind, KindSegment, Segment, segment_key, Refusal, Due, due_in, kept, in_none, History, HasHistory, answered, no_history, SessionState, ByteSet, HasNoCollisions, Store, Stored, BeginRow, CoreStep, Row, Steps, kept_by, FileEvent, FileStep, IsNoGcStep, CoreState, Event, HoldsKept, IsAskedFor, IsBeside, Kept}
use Rattle.std.proofs.lemmas.List.{append-nil}
use Rattle.std.specs.FinMap as finite
use Rattle.actor_parts.specs.declared.part.Part as core_part
use Rattle.actor_parts.specs.declared.part.Part.TheVariants as core_parts
use Rattle.actor_parts.specs.declared.step.Answer.TheVariants as answers
use Rattle.actor_parts.specs.Kinds.{kind_of}
use Rattle.actor_parts.specs.Parts.{part_of}
use Rattle.actor_parts.specs.StepValue as steps
use Rattle.ingest_session.specs.declared.due.Due.TheVariants as dues
use Rattle.store_model.specs.Collisions.{IsIn}
use Rattle.store_state.specs.Settled.{IsSettled}
use Rattle.store_core.specs.Keeping.{IsHeldIn}
use Rattle.store_core.proofs.AnySteps.{gc_or_not, leads}
use Rattle.store_core.proofs.CoreRuns.{running_step, was_running}
use Rattle.store_core.proofs.KeepingSegments.{keeps_segments, stays_held, stays_settled}
use Rattle.store_core.proofs.Leading.{Leads}
use Rattle.session_turns.specs.Owning.{Begins, HoldsBegun, HoldsBeside, HoldsTurned, MakesDue, StepsAt}
use Rattle.session_turns.proofs.CollectHolds.{gc_event, needed_held, pin_needed}
use Rattle.session_turns.proofs.TurnHolds.{turned_then}
use Rattle.session_turns.proofs.WritingStays.{beside_stays}

module _ (C : Type 0) (state : C → CoreState) (among : ByteSet) (f : FileEvent) (s : Store) (stored : Stored) (old new : C)
    (at : StepsAt (IsIn among) f s stored (state old) (state new)) where
  abbrev e : Event
  e = f.event

  made : Steps e (state old) (state new)
  made = running_step (state old) (state new) e (was_running (state old).stop e (state old) (state new) refl at.step.made at.runs_on) at.step.made

  row_of : (actor : ℕ) (step : StepValue) (answer : Result Answer Refusal) → e.actor ≡ actor → e.step ≡ step → e.answer ≡ answer
      → Row step actor answer e.buf (state old) (state new)
  row_of actor step answer actor_is step_is answer_is =
      subst (λ (a : ℕ). Row step a answer e.buf (state old) (state new)) actor_is
      (subst (λ (x : StepValue). Row x e.actor answer e.buf (state old) (state new)) step_is
      (subst (λ (x : Result Answer Refusal). Row e.step e.actor x e.buf (state old) (state new)) answer_is made.made.row))

  -- ---- the beginning of a file

  begun_row : (actor : ℕ) (answer : Answer) → BeginRow actor (Ok answer) (state old) (state new) → actor < ACTORS → HoldsKept actor (kept no_history) (state new)
  begun_row actor answers.Begun row below = record {
    pins = finite.empty;
    writing = ap (λ (parts : List core_part.Part). part_of parts actor) row.1
        ∙ apart.same (state old).parts actor (core_parts.Writing finite.empty) (omega (arith, below, at.is_at.many));
    held = λ kind y there. absurd (in_none y there);
    pinned = λ kind y there. absurd (in_none y there);
  }
  begun_row actor answer row below = absurd row

  pub begun : (actor : ℕ) → actor < ACTORS → Begins actor e → HoldsKept actor (kept no_history) (state new)
  begun actor below begins = begun_row actor begins.answer (row_of actor steps.Begin (Ok begins.answer) begins.actor_is begins.step_is begins.answer_is) below

  module _ (distinct : HasNoCollisions (IsIn among)) where
    abbrev Still : KindSegment → Type 0
    Still seg = IsHeldIn seg (state old) → IsHeldIn seg (state new)

    -- ---- a step that is none of a collection

    held_by : IsNoGcStep e.step → (seg : KindSegment) → Still seg
    held_by no_gc seg = stays_held C state among (f ∷ []) s stored seg old new distinct at.is_at at.settled (new, (at.step, refl)) (no_gc, tt) at.runs_on

    -- and what it keeps is held
    kept_then : IsNoGcStep e.step → AllByRecursion (λ seg. IsHeldIn seg (state new)) (kept_by e.step e.answer)
    kept_then no_gc = subst (AllByRecursion (λ seg. IsHeldIn seg (state new))) (append-nil (kept_by e.step e.answer))
        (keeps_segments C state among (f ∷ []) s stored old new distinct at.is_at at.settled (new, (at.step, refl)) (no_gc, tt) at.runs_on)

    no_gc : (x : SessionState) (due : Due) (step : StepValue) → IsAskedFor due x step → IsNoGcStep step
    no_gc x dues.Claim (steps.Claim seg) asked = tt
    no_gc x (dues.Seal kind) (steps.Seal filled) asked = tt
    no_gc x due step asked = absurd asked

    pub turned : (actor : ℕ) (x : SessionState) (h : History) (answer : Answer) → actor < ACTORS → HasHistory x h → MakesDue actor x answer e
        → HoldsKept actor (kept h) (state old) → HoldsKept actor (kept (answered answer x h)) (state new)
    turned actor x h answer below has due own =
        let other = no_gc x (due_in x) e.step due.is_due in
        turned_then (state old) (state new) actor below at.is_at.many x h own (held_by other) has e.step answer e.buf due.is_due
        (row_of actor e.step (Ok answer) due.actor_is refl due.answer_is)
        (subst (λ (told : Result Answer Refusal). AllByRecursion (λ seg. IsHeldIn seg (state new)) (kept_by e.step told)) due.answer_is (kept_then other))

    -- ---- one of a collection

    module _ (is : e.step ≡ steps.GcStep) where
      abbrev gc : FileEvent
      gc = gc_event e.actor e.answer e.buf

      gc_step : FileStep (IsIn among) gc (state old) (state new)
      gc_step = record {
        asked = tt;
        given = tt;
        made = subst (λ (asked : StepValue). CoreStep (state old) (record { actor = e.actor; step = asked; answer = e.answer; buf = e.buf }) (state new)) is at.step.made;
      }

      led : Leads (IsIn among) s gc stored (state old) (state new)
      led = leads among distinct gc s stored (state old) (state new) refl gc_step at.is_at at.runs_on

      settled : IsSettled (state new).tables.slots (state new).disk
      settled = stays_settled among f s stored (state old) (state new) distinct at.is_at at.settled at.step at.runs_on

      -- what an actor has pinned it spares
      spared : (b : ℕ) (k : Kept) → b < ACTORS → (own : HoldsKept b k (state old)) → (kind : Kind) (x : Segment) → (pin : _) × (finite.get own.pins (segment_key kind x) ≡ Some pin)
          → Still (record { kind = kind; segment = x })
      spared b k below own kind x pinned =
          needed_held (IsIn among) s stored (state old) (state new) e.actor e.answer e.buf at.is_at led settled (record { kind = kind; segment = x })
          (pin_needed (IsIn among) s stored (state old) (state new) e.actor e.answer e.buf at.is_at led settled b below own.pins
          (segment_key kind x) pinned.0 own.writing pinned.1)

    -- ---- any step beside it

    pub beside : (b : ℕ) (k : Kept) → b < ACTORS → IsBeside b e → HoldsKept b k (state old) → HoldsKept b k (state new)
    beside b k below is own = record {
      pins = own.pins;
      writing = beside_stays e (state old) (state new) b is at.step.made (ap kind_of own.writing) ∙ own.writing;
      held = λ kind x there. elim (gc_or_not e.step) [
        | inr no_gc ↦ held_by no_gc (record { kind = kind; segment = x }) (own.held kind x there)
        | inl is ↦ spared is b k below own kind x (own.pinned kind x there) (own.held kind x there)
      ];
      pinned = own.pinned;
    }

-- ---- the laws

module _ (C : Type 0) (state : C → CoreState) where
  pub holds_beside : HoldsBeside C state
  holds_beside among f s stored actor k old new distinct at below is own = beside C state among f s stored old new at distinct actor k below is own

  pub holds_begun : HoldsBegun C state
  holds_begun among f s stored actor old new at below begins = begun C state among f s stored old new at actor below begins

  pub holds_turned : HoldsTurned C state
  holds_turned among f s stored actor x h answer old new distinct at below has due own =
      turned C state among f s stored old new at distinct actor x h answer below has due own
