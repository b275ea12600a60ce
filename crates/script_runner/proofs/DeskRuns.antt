-- Runs of a machine that fits a core, one after the other, with what a crash leaves within them and what they do to the content.
use Rattle.script_runner.proofs.Prelude.{◌≡◌, ◌⊎◌, inl, inr, ◌≤◌, ℕ, List, [], ◌∷◌, ◌++◌, Option, refl, sym, subst, arith, CrashLeaves, DiskView, leaves_on, leaves_weaker, reads_here, reads_leave, Lines, Replied, run_of, Legal, Desk, Machine, Stepped, Run, Values, Beside, Traced}
use Rattle.store_machine.specs.Commands.{run_on}
use Rattle.store_machine.specs.Lines.{Line}
use Rattle.script_runner.specs.LinesAreRuns.{IsDone, Passes}
use Rattle.script_runner.proofs.Fitting.{Fitted, LeavesEither}

-- ---- machines that a run passes

module _ {V R : Type 0} (v : Values V R) (P : Machine V R → Type 0) where
  -- it passes that from which it goes
  pub passes_here : (ss : List (Stepped V)) (m n : Machine V R) (run : Run v ss m n) → P m → Passes v P ss m n run
  passes_here [] m n run here = here
  passes_here (s ∷ ss) m n run here = inl here

  -- two runs pass what either passes
  pub passes_first : (xs ys : List (Stepped V)) (m k n : Machine V R) (first : Run v xs m k) (next : Run v ys k n) → Passes v P xs m k first
      → Passes v P (xs ++ ys) m n (run_on v xs ys m k n first next)
  passes_first [] ys m k n first next here = passes_here ys m n (run_on v [] ys m k n first next) here
  passes_first (x ∷ xs) ys m k n first next (inl here) = inl here
  passes_first (x ∷ xs) ys m k n first next (inr after) = inr (passes_first xs ys first.0 k n first.1.1 next after)

  pub passes_later : (xs ys : List (Stepped V)) (m k n : Machine V R) (first : Run v xs m k) (next : Run v ys k n) → Passes v P ys k n next
      → Passes v P (xs ++ ys) m n (run_on v xs ys m k n first next)
  passes_later [] ys m k n first next passed = (subst (λ (x : Machine V R). (run : Run v ys x n) × Passes v P ys x n run) first (next, passed)).1
  passes_later (x ∷ xs) ys m k n first next passed = inr (passes_later xs ys first.0 k n first.1.1 next passed)

-- ---- what a crash leaves within runs

module _ {V R : Type 0} (v : Values V R) (Left : Machine V R → List ℕ → Type 0) where
  abbrev Passed : (ss : List (Stepped V)) (m n : Machine V R) → Run v ss m n → List ℕ → Type 0
  Passed ss m n run image = Passes v (λ k. Left k image) ss m n run

  pub runs_leave : (xs ys : List (Stepped V)) (m k n : Machine V R) (first : Run v xs m k) (next : Run v ys k n) (old mid new : DiskView) → old.clock ≤ mid.clock
      → CrashLeaves (Passed xs m k first) old mid → CrashLeaves (Passed ys k n next) mid new → CrashLeaves (Passed (xs ++ ys) m n (run_on v xs ys m k n first next)) old new
  runs_leave xs ys m k n first next old mid new later before after =
      leaves_on (Passed xs m k first) (Passed ys k n next) (Passed (xs ++ ys) m n (run_on v xs ys m k n first next)) old mid new later before after
      (λ image. passes_first v (λ x. Left x image) xs ys m k n first next) (λ image. passes_later v (λ x. Left x image) xs ys m k n first next)

-- ---- what steps of runs do to what is told

module _ {V R : Type 0} (v : Values V R) (P : Stepped V → Machine V R → Machine V R → Option (List ℕ) → Option (List ℕ) → Type 0) where
  pub traced_on : (xs ys : List (Stepped V)) (m k n : Machine V R) (first : Run v xs m k) (next : Run v ys k n) (was mid now : Option (List ℕ))
      → Traced v P xs m k first was mid → Traced v P ys k n next mid now → Traced v P (xs ++ ys) m n (run_on v xs ys m k n first next) was now
  traced_on [] ys m k n first next was mid now same after =
      subst (λ (c : Option (List ℕ)). Traced v P ys m n (run_on v [] ys m k n first next) c now) same
      (subst (λ (x : Machine V R). (run : Run v ys x n) × Traced v P ys x n run mid now) first (next, after)).1
  traced_on (x ∷ xs) ys m k n first next was mid now before after =
      (before.0, (before.1.0, traced_on xs ys first.0 k n first.1.1 next before.0 mid now before.1.1 after))

-- ---- both

module _ {V R : Type 0} (v : Values V R) (b : Beside V R) where
  pub done_on : (xs ys : List (Stepped V)) (m k n : Machine V R) (first : Run v xs m k) (next : Run v ys k n) (old mid new : DiskView) → old.clock ≤ mid.clock
      → IsDone v b xs m k first old mid → IsDone v b ys k n next mid new → IsDone v b (xs ++ ys) m n (run_on v xs ys m k n first next) old new
  done_on xs ys m k n first next old mid new later before after = record {
    leaves = runs_leave v b.Left xs ys m k n first next old mid new later before.leaves after.leaves;
    changes = traced_on v b.Changes xs ys m k n first next old.content mid.content new.content before.changes after.changes;
  }

  -- a line, and lines after it
  pub lines_done : (one : Replied) (more : List Replied) (xs ys : List (Stepped V)) (d mid e : Desk V R) (line : Line v one.line one.reply xs d mid)
      (lines : Lines v more ys mid e) (old then new : DiskView) → old.clock ≤ then.clock → IsDone v b xs d.machine mid.machine line.0 old then
      → IsDone v b ys mid.machine e.machine (run_of v more ys mid e lines) then new
      → IsDone v b (xs ++ ys) d.machine e.machine (run_of v (one ∷ more) (xs ++ ys) d e (xs, ys, mid, refl, line, lines)) old new
  lines_done one more xs ys d mid e line lines old then new later before after =
      let rest : Run v ys mid.machine e.machine = run_of v more ys mid e lines in
      let run : Run v (xs ++ ys) d.machine e.machine = run_on v xs ys d.machine mid.machine e.machine line.0 rest in
      let same : xs ++ ys ≡ xs ++ ys = refl in
      (subst (λ (zs : List (Stepped V)). (ran : Run v zs d.machine e.machine) × IsDone v b zs d.machine e.machine ran old new) (sym same)
      (run, done_on xs ys d.machine mid.machine e.machine line.0 rest old then new later before after)).1

-- ---- runs beside what a core did

module _ (F : Fitted) where
  open F use {V, R, v, C, state, beside, fitting}
  open F.beside use {Fits, Left, Changes}

  pub record Ran (ss : List (Stepped V)) (m n : Machine V R) (old new : C) : Type 0 where
    pub run : Run v ss m n
    pub did : IsDone v beside ss m n run (state old).disk (state new).disk
    pub later : (state old).disk.clock ≤ (state new).disk.clock

  -- nothing was done
  pub ran_none : (m : Machine V R) (old new : C) → Fits m (state old) → new ≡ old → Ran [] m m old new
  ran_none m old new fits same = subst (λ (c : C). Ran [] m m old c) (sym same) (record {
    run = refl;
    did = record { leaves = reads_leave (Left m) (state old).disk (state old).disk (fitting.here m (state old) fits) (reads_here (state old).disk); changes = refl };
    later = omega arith;
  })

  pub ran_step : (s : Stepped V) (m n : Machine V R) (old new : C) → Legal v s m n → LeavesEither Left m n (state old).disk (state new).disk
      → Changes s m n (state old).disk.content (state new).disk.content → (state old).disk.clock ≤ (state new).disk.clock → Ran (s ∷ []) m n old new
  ran_step s m n old new legal leaves changes later = record {
    run = (n, (legal, refl));
    did = record { leaves = leaves; changes = ((state new).disk.content, (changes, refl)) };
    later = later;
  }

  -- one that leaves the machine as it was, and nothing was done
  pub ran_still : (s : Stepped V) (m : Machine V R) (old new : C) → Legal v s m m → Fits m (state old) → Changes s m m (state old).disk.content (state old).disk.content →
      new ≡ old → Ran (s ∷ []) m m old new
  ran_still s m old new legal fits changes same =
      let none = ran_none m old new fits same in
      ran_step s m m old new legal (leaves_weaker (Left m) (λ image. Left m image ⊎ Left m image) (state old).disk (state new).disk (λ image left. inl left) none.did.leaves)
      (subst (λ (told : Option (List ℕ)). Changes s m m (state old).disk.content told) (sym none.did.changes) changes) none.later

  pub ran_on : (xs ys : List (Stepped V)) (m k n : Machine V R) (old mid new : C) → Ran xs m k old mid → Ran ys k n mid new → Ran (xs ++ ys) m n old new
  ran_on xs ys m k n old mid new first next = record {
    run = run_on v xs ys m k n first.run next.run;
    did = done_on v beside xs ys m k n first.run next.run (state old).disk (state mid).disk (state new).disk first.later first.did next.did;
    later = omega (arith, first.later, next.later);
  }
