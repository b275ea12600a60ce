-- Where a step leads, one of a collection or another.
use Rattle.actor_parts.specs.StepValue as asked
use Rattle.store_core.proofs.Prelude.{Answer, FileEvent, FileStep, IsAt, IsNoGcStep, changes_by, stored_by, ByteSet, HasNoCollisions, IsIn, CoreState, Steps, None, Result, ap, refl, subst, sym, ◌≡◌, ◌⊎◌, inl, inr, Refusal, StepValue, Store, Stored, stored_with}
use Rattle.store_core.proofs.Leading.{AreChangesBy, Leads}
use Rattle.store_core.proofs.KeepingFiles.{file_step, NextOn}
use Rattle.store_core.proofs.GcSteps.{gc_led}
use Rattle.store_core.proofs.CoreRuns.{running_step, was_running}

-- each step is one of a collection, or it isn't
pub gc_or_not : (step : StepValue) → (step ≡ asked.GcStep) ⊎ IsNoGcStep step
gc_or_not asked.GcStep = inl refl
gc_or_not other = inr tt

-- the changes of a step that no collection makes
changes_same : (step : StepValue) (answer : Result Answer Refusal) → IsNoGcStep step → AreChangesBy step answer (changes_by step answer)
changes_same asked.GcStep answer other = absurd other
changes_same it answer other = refl

-- the same step by another name
abbrev pub with_step : FileEvent → StepValue → FileEvent
with_step f step = record { event = record { actor = f.event.actor; step = step; answer = f.event.answer; buf = f.event.buf }; bytes = f.bytes }

gc_leads : (among : ByteSet) (f : FileEvent) (s : Store) (stored : Stored) (old new : CoreState) → f.event.step ≡ asked.GcStep → FileStep (IsIn among) f old new
    → IsAt (IsIn among) s stored old → new.stop ≡ None
    → Leads (IsIn among) s f (stored_by f stored) old new
gc_leads among f s stored old new is step at stays =
    let runs : old.stop ≡ None = was_running old.stop f.event old new refl step.made stays in
    subst (λ (st : StepValue). Steps (with_step f st).event old new → Leads (IsIn among) s (with_step f st) (stored_by (with_step f st) stored) old new) (sym is)
    (λ steps. gc_led among s stored old new f.event.actor f.event.buf f.bytes at stays f.event.answer steps.made.row steps.made.effect steps.stops)
    (running_step old new f.event runs step.made)

module _ (among : ByteSet) (distinct : HasNoCollisions (IsIn among)) where
  pub other_leads : (f : FileEvent) (s : Store) (stored : Stored) (old new : CoreState) → IsNoGcStep f.event.step
      → NextOn (IsIn among) s (changes_by f.event.step f.event.answer) (stored_by f stored) old new
      → Leads (IsIn among) s f (stored_by f stored) old new
  other_leads f s stored old new other goes = record {
    changes = changes_by f.event.step f.event.answer;
    changes_are = changes_same f.event.step f.event.answer other;
    next = goes.next;
    keys = λ key before told spared first then is then_is has. goes.keys first then is then_is key has;
    copies = λ key before after told told_after spared first is has level bytes newest. goes.copies first before after is told told_after key level bytes has newest;
    whole = λ none. goes.whole;
  }

  -- a step, whichever it is
  pub any_step : (f : FileEvent) (s : Store) (stored : Stored) (old new : CoreState) → FileStep (IsIn among) f old new → IsAt (IsIn among) s stored old → new.stop ≡ None
      → Leads (IsIn among) s f (stored_by f stored) old new
  any_step f s stored old new step at stays = elim (gc_or_not f.event.step) [
    | inl gc ↦ gc_leads among f s stored old new gc step at stays
    | inr other ↦ other_leads f s stored old new other (file_step among distinct f s stored old new other step at stays)
  ]

-- ---- a step of a collection, which leaves the files

module _ (among : ByteSet) (distinct : HasNoCollisions (IsIn among)) (f : FileEvent) (s : Store) (stored : Stored) (old new : CoreState) (is : f.event.step ≡ asked.GcStep)
    (step : FileStep (IsIn among) f old new)
    (at : IsAt (IsIn among) s stored old) (stays : new.stop ≡ None) where
  pub leads : Leads (IsIn among) s f (stored_by f stored) old new
  leads = any_step among distinct f s stored old new step at stays

  abbrev t : Store
  t = leads.next.store

  pub after : IsAt (IsIn among) t stored new
  after = subst (λ (x : Stored). IsAt (IsIn among) t x new) (ap (λ (st : StepValue). stored_with st f.event.answer f.bytes stored) is) leads.next.is_at
