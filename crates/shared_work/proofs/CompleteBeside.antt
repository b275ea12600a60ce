-- Collections one after the other are such as may be asked for beside workers.
use Rattle.std.proofs.Common.{◌≡◌, ℕ, true, false, Bool, List, [], ◌∷◌, ◌++◌, Result, Ok, Err, refl, sym, ap, ◌∙◌, subst, append_assoc}
use Rattle.std.specs.List.{AllByRecursion}
use Rattle.actor_parts.specs.declared.step.Answer.{Answer}
use Rattle.actor_parts.specs.declared.step.Answer.TheVariants as answers
use Rattle.actor_parts.specs.Asking.{Ask}
use Rattle.actor_parts.specs.StepValue as asked
use Rattle.actor_parts.specs.StepValue.{StepValue}
use Rattle.refusals.specs.declared.refusal.Refusal.{Refusal}
use Rattle.shared_work.specs.Complete.{AskedBeside, CollectionsAreBeside, MayAsk, runs_after}
use Rattle.shared_work.specs.Working.{Again, Broke, CollectsOften, CollectsOnce, Ended, EndsCollection, GoesOn, Sweeps, Swept, Unbegun}

-- one step, and what follows
pub next : (runs : Bool) (a : Ask) (rest : List Ask) (step : StepValue) (told : Result Answer Refusal) → a.step ≡ step → a.answer ≡ told → MayAsk runs step
    → AskedBeside (runs_after step told runs) rest → AskedBeside runs (a ∷ rest)
next runs a rest step told is answer may more = (
  subst (MayAsk runs) (sym is) may,
  subst (λ (b : Bool). AskedBeside b rest)
      (sym (ap (λ (s : StepValue). runs_after s a.answer runs) is ∙ ap (λ (r : Result Answer Refusal). runs_after step r runs) answer)) more,
)

goes_on : (steps rest : List Ask) → AllByRecursion GoesOn steps → AskedBeside true rest → AskedBeside true (steps ++ rest)
goes_on [] rest each more = more
goes_on (a ∷ steps) rest each more =
    next true a (steps ++ rest) asked.GcStep (Ok (answers.Did each.0.1.0)) each.0.0 each.0.1.1 refl (goes_on steps rest each.1 more)

module _ (more : List Ask) where
  -- what comes after them comes where none was refused
  abbrev pub Follows : Result (Unit {0}) Refusal → Type 0
  Follows result = (result ≡ Ok tt → AskedBeside false more) × ((refusal : Refusal) → result ≡ Err refusal → more ≡ [])

  last : (result : Result (Unit {0}) Refusal) (a : Ask) → a.step ≡ asked.GcStep → EndsCollection result a → Follows result → AskedBeside true (a ∷ more)
  last (Ok u) a step (freed, copied, answer) follows = next true a more asked.GcStep (Ok (answers.Done freed copied)) step answer refl (follows.0 refl)
  last (Err refusal) a step answer follows =
      next true a more asked.GcStep (Err refusal) step answer refl (subst (AskedBeside true) (sym (follows.1 refusal refl)) tt)

  swept : (result : Result (Unit {0}) Refusal) (all : List Ask) → Sweeps result all → Follows result → AskedBeside true (all ++ more)
  swept result all sweeps follows =
      subst (λ (l : List Ask). AskedBeside true (l ++ more)) (sym sweeps.all_is)
      (subst (AskedBeside true) (sym (append_assoc sweeps.steps (sweeps.last ∷ []) more))
      (goes_on sweeps.steps (sweeps.last ∷ more) sweeps.each (last result sweeps.last sweeps.last_is sweeps.ends follows)))

  pub once : (percent : ℕ) (result : Result (Unit {0}) Refusal) (all : List Ask) → CollectsOnce percent result all → Follows result → AskedBeside false (all ++ more)
  once percent result all (Swept a steps step done sweeps) follows =
      next false a (steps ++ more) (asked.GcStart percent) (Ok done.0) step done.1 refl (swept result steps sweeps follows)
  once percent result all (Unbegun a refusal is step refused) follows =
      next false a more (asked.GcStart percent) (Err refusal) step refused refl (subst (AskedBeside false) (sym (follows.1 refusal is)) tt)

often : (percent : ℕ) (result : Result (Unit {0}) Refusal) (most : ℕ) (all : List Ask) → CollectsOften percent result most all → (more : List Ask) → Follows more result
    → AskedBeside false (all ++ more)
often percent result most all (Ended _ is) more follows = follows.0 is
often percent result most all (Broke _ refusal steps is first) more follows = once more percent (Err refusal) steps first (
  λ done. follows.0 (is ∙ done),
  λ other same. follows.1 other (is ∙ same),
)
often percent result most all (Again less steps rest first later) more follows =
    subst (AskedBeside false) (sym (append_assoc steps rest more))
    (once (rest ++ more) percent (Ok tt) steps first (λ done. often percent result less rest later more follows, λ refusal wrong. absurd (cc)))

pub collections_are_beside : CollectionsAreBeside
collections_are_beside percent result all more collects follows nothing = often percent result 1024 all collects more (follows, nothing)
