-- What is asked for to collect, one collection after the other.
use Rattle.std.proofs.Common.{ℕ, zero, suc, ◌+◌, ◌≤◌, arith, List, [], ◌∷◌, ◌++◌, Result, Ok, subst, sym, append_assoc}
use Rattle.std.specs.List.{AllByRecursion}
use Rattle.actor_parts.specs.Asking.{Ask}
use Rattle.refusals.specs.declared.refusal.Refusal.{Refusal}
use Rattle.shared_work.specs.Working.{Again, Broke, CollectsOften, Ended, GoesOn}

pub goes_further : (steps : List Ask) (a : Ask) → AllByRecursion GoesOn steps → GoesOn a → AllByRecursion GoesOn (steps ++ a ∷ [])
goes_further [] a each one = (one, tt)
goes_further (b ∷ steps) a each one = (each.0, goes_further steps a each.1 one)

module _ (percent : ℕ) (result : Result (Unit {0}) Refusal) where
  pub often_wider : (n most : ℕ) (all : List Ask) → n ≤ most → CollectsOften percent result n all → CollectsOften percent result most all
  often_wider n most all few (Ended _ is) = Ended most is
  often_wider n zero all few (Broke less refusal _ is once) = absurd (omega (arith, few))
  often_wider n (suc most) all few (Broke less refusal _ is once) = Broke most refusal all is once
  often_wider n zero _ few (Again less first rest once often) = absurd (omega (arith, few))
  often_wider n (suc most) _ few (Again less first rest once often) = Again most first rest once (often_wider less most rest (omega (arith, few)) often)

  -- what goes on after collections that were done
  pub often_append : (m n most : ℕ) (all more : List Ask) → m + n ≤ most → CollectsOften percent (Ok tt) m all → CollectsOften percent result n more
      → CollectsOften percent result most (all ++ more)
  often_append m n most [] more few (Ended _ is) then_more = often_wider n most more (omega (arith, few)) then_more
  often_append m n most all more few (Broke _ refusal _ is once) then_more = absurd (cc)
  often_append m n zero _ more few (Again less first rest once often) then_more = absurd (omega (arith, few))
  often_append m n (suc most) _ more few (Again less first rest once often) then_more =
      subst (CollectsOften percent result (suc most)) (sym (append_assoc first rest more))
      (Again most first (rest ++ more) once (often_append less n most rest more (omega (arith, few)) often then_more))
