-- Steps by which a file is stored, one after the other: what they kept and sealed.
use Rattle.backup_engine.proofs.Prelude.{◌≡◌, inr, ℕ, List, [], ◌∷◌, ◌++◌, Result, Ok, Err, refl, sym, ◌∙◌, ap, subst, AllByRecursion, KindSegment, StepValue, Refusal, Memory, Store, StoreChange, SealContainer, ChangeName, FlushContainer, FreeContainer, kept_by, kept_of, ChangesTo, CoreRun, FileEvent, events_of, CoreState, Event, AddsOnce, IsWholeAt, AreWhole, IsNoCommit, IsDoneBefore, EndsPut, seal_by, seals_of}
use Rattle.std.proofs.lemmas.List.{append-nil, append_assoc}
use Rattle.actor_parts.specs.StepValue as asked
use Rattle.store_model.specs.Steps.{changed}

-- ---- what steps kept and sealed

pub kept_on : (fs : List FileEvent) (f : FileEvent) → kept_of (fs ++ f ∷ []) ≡ kept_of fs ++ kept_by f.event.step f.event.answer
kept_on [] f = append-nil (kept_by f.event.step f.event.answer)
kept_on (g ∷ gs) f =
    ap (λ (l : List KindSegment). kept_by g.event.step g.event.answer ++ l) (kept_on gs f)
    ∙ sym (append_assoc (kept_by g.event.step g.event.answer) (kept_of gs) (kept_by f.event.step f.event.answer))

pub seals_on : (fs : List FileEvent) (f : FileEvent) → seals_of (fs ++ f ∷ []) ≡ seals_of fs ++ seal_by f.event.step f.event.answer
seals_on [] f = append-nil (seal_by f.event.step f.event.answer)
seals_on (g ∷ gs) f =
    ap (λ (l : List StoreChange). seal_by g.event.step g.event.answer ++ l) (seals_on gs f)
    ∙ sym (append_assoc (seal_by g.event.step g.event.answer) (seals_of gs) (seal_by f.event.step f.event.answer))

-- a last step that seals nothing adds nothing
pub seals_then : (fs : List FileEvent) (f : FileEvent) → seal_by f.event.step f.event.answer ≡ [] → seals_of (fs ++ f ∷ []) ≡ seals_of fs
seals_then fs f none = seals_on fs f ∙ ap (λ (l : List StoreChange). seals_of fs ++ l) none ∙ append-nil (seals_of fs)

-- ---- changes

pub adds_on : (file : List ℕ) (first rest : List StoreChange) (s t : Store) → ChangesTo first s t → AddsOnce file first s → AddsOnce file rest t → AddsOnce file (first ++ rest) s
adds_on file [] rest s t chain one two = subst (AddsOnce file rest) chain two
adds_on file (SealContainer id kind segments ∷ changes) rest s t chain one two =
    (one.0, one.1, adds_on file changes rest (changed (SealContainer id kind segments) s) t chain.1 one.2 two)
adds_on file (ChangeName name change ∷ changes) rest s t chain one two = absurd one
adds_on file (FlushContainer id kind segments ∷ changes) rest s t chain one two = absurd one
adds_on file (FreeContainer slot ∷ changes) rest s t chain one two = absurd one

-- ---- how steps ended

-- a commit alone has to come when all is kept
no_commit_whole : (file : List ℕ) (kept : List KindSegment) (step : StepValue) → IsNoCommit step → IsWholeAt file kept step
no_commit_whole file kept (asked.Commit name root) other = absurd other
no_commit_whole file kept step other = tt

pub whole_all : (file : List ℕ) (kept : List KindSegment) (fs : List FileEvent) → AllByRecursion (λ f. IsDoneBefore f.event) fs → AreWhole file kept fs
whole_all file kept [] done = tt
whole_all file kept (f ∷ fs) done = (no_commit_whole file kept f.event.step done.0.0, whole_all file (kept ++ kept_by f.event.step f.event.answer) fs done.1)

pub whole_on : (file : List ℕ) (kept : List KindSegment) (fs gs : List FileEvent) → AllByRecursion (λ f. IsDoneBefore f.event) fs → AreWhole file (kept ++ kept_of fs) gs →
    AreWhole file kept (fs ++ gs)
whole_on file kept [] gs done rest = subst (λ (l : List KindSegment). AreWhole file l gs) (append-nil kept) rest
whole_on file kept (f ∷ fs) gs done rest =
    let here : List KindSegment = kept_by f.event.step f.event.answer in (
      no_commit_whole file kept f.event.step done.0.0,
      whole_on file (kept ++ here) fs gs done.1 (subst (λ (l : List KindSegment). AreWhole file l gs) (sym (append_assoc kept here (kept_of fs))) rest),
    )

-- what is so of steps that were done on the way is so of them and those that follow
pub ends_on : (first rest : List FileEvent) (result : Result Unit Refusal) → AllByRecursion (λ f. IsDoneBefore f.event) first → EndsPut rest result → EndsPut (first ++ rest) result
ends_on [] rest result way ends = ends
ends_on (f ∷ []) [] (Ok u) way ends = absurd ends
ends_on (f ∷ []) [] (Err refusal) way ends = inr (way.0, ends)
ends_on (f ∷ []) (g ∷ gs) result way ends = (way.0, ends)
ends_on (f ∷ g ∷ fs) rest result way ends = (way.0, ends_on (g ∷ fs) rest result way.1 ends)

-- and they may end for want of memory
pub ends_here : (fs : List FileEvent) → AllByRecursion (λ f. IsDoneBefore f.event) fs → EndsPut fs (Err Memory)
ends_here [] way = refl
ends_here (f ∷ []) way = inr (way.0, refl)
ends_here (f ∷ g ∷ fs) way = (way.0, ends_here (g ∷ fs) way.1)

-- ---- runs

pub events_on : (fs gs : List FileEvent) → events_of (fs ++ gs) ≡ events_of fs ++ events_of gs
events_on [] gs = refl
events_on (f ∷ fs) gs = ap (λ (es : List Event). f.event ∷ es) (events_on fs gs)

module _ (C : Type 0) (state : C → CoreState) where
  run_on : (es fs : List Event) (old mid new : C) → CoreRun C state es old mid → CoreRun C state fs mid new → CoreRun C state (es ++ fs) old new
  run_on [] fs old mid new first second = subst (λ (c : C). CoreRun C state fs c new) first second
  run_on (e ∷ es) fs old mid new first second = (first.0, (first.1.0, run_on es fs first.0 mid new first.1.1 second))

  pub files_on : (fs gs : List FileEvent) (old mid new : C) → CoreRun C state (events_of fs) old mid → CoreRun C state (events_of gs) mid new →
      CoreRun C state (events_of (fs ++ gs)) old new
  files_on fs gs old mid new first second =
      subst (λ (es : List Event). CoreRun C state es old new) (sym (events_on fs gs)) (run_on (events_of fs) (events_of gs) old mid new first second)
