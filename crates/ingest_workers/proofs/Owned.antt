-- The jobs of a worker, one more; and ends that are gathered.
use Rattle.std.proofs.Common.{◌≡◌, ◌<◌, ◌%◌, ◌==◌, ℕ, zero, suc, Bool, true, false, List, [], ◌∷◌, ◌++◌, length, refl, sym, ap, ◌∙◌, subst, arith, get_or, eqb-true, append_assoc, append-nil, MatchBool}
use Rattle.actor_parts.specs.Asking.{Ask}
use Rattle.ingest_workers.specs.declared.job.Job.{Job}
use Rattle.ingest_workers.specs.declared.job.JobEnd.{JobEnd}
use Rattle.ingest_workers.specs.Jobs.{IsJob, OwnJobs}
use Rattle.ingest_workers.specs.Working.{OwnJob}

module _ (count worker : ℕ) where
  abbrev First : Bool → Job → JobEnd → List Job → List JobEnd → List Ask → Type 0
  First mine job end jobs ended all = MatchBool mine
      ((own : List Ask) × (rest : List Ask) × (all ≡ own ++ rest) × IsJob job end own × OwnJobs count worker jobs ended rest) (OwnJobs count worker jobs ended all)

  -- none of the jobs is left
  last_by : (mine : Bool) (job : Job) (end : JobEnd) (all : List Ask) → OwnJob mine job end all → First mine job end [] [] all
  last_by true job end all is = (all, [], sym (append-nil all), is, refl)
  last_by false job end all is = is

  more_by : (mine : Bool) (job : Job) (end : JobEnd) (jobs : List Job) (ended : List JobEnd) (k : Job) (e : JobEnd) (all more : List Ask)
      → ((before : List Ask) → OwnJobs count worker jobs ended before → OwnJobs count worker (jobs ++ k ∷ []) (ended ++ e ∷ []) (before ++ more))
      → First mine job end jobs ended all → First mine job end (jobs ++ k ∷ []) (ended ++ e ∷ []) (all ++ more)
  more_by true job end jobs ended k e all more on is =
      (is.0, is.1 ++ more, ap (λ (l : List Ask). l ++ more) is.2 ∙ append_assoc is.0 is.1 more, is.3, on is.1 is.4)
  more_by false job end jobs ended k e all more on is = on all is

  pub one_more : (jobs : List Job) (ended : List JobEnd) (k : Job) (e : JobEnd) (all more : List Ask) → OwnJobs count worker jobs ended all
      → OwnJob (k.number % count == worker) k e more → OwnJobs count worker (jobs ++ k ∷ []) (ended ++ e ∷ []) (all ++ more)
  one_more [] [] k e all more none one =
      subst (λ (l : List Ask). OwnJobs count worker (k ∷ []) (e ∷ []) (l ++ more)) (sym none) (last_by (k.number % count == worker) k e more one)
  one_more (job ∷ jobs) (end ∷ ended) k e all more own one =
      more_by (job.number % count == worker) job end jobs ended k e all more (λ before is. one_more jobs ended k e before more is one) own
  one_more [] (end ∷ ended) k e all more own one = absurd own
  one_more (job ∷ jobs) [] k e all more own one = absurd own

  -- ---- what stands at the places of others doesn't matter

  same_by : (mine : Bool) (job : Job) (x y : JobEnd) (jobs : List Job) (xs ys : List JobEnd) (all : List Ask) → (mine ≡ true → x ≡ y)
      → ((rest : List Ask) → OwnJobs count worker jobs xs rest → OwnJobs count worker jobs ys rest) → First mine job x jobs xs all → First mine job y jobs ys all
  same_by true job x y jobs xs ys all same on is = (is.0, is.1, is.2, subst (λ (e : JobEnd). IsJob job e is.0) (same refl) is.3, on is.1 is.4)
  same_by false job x y jobs xs ys all same on is = on all is

  pub same_own : (jobs : List Job) (xs ys : List JobEnd) (all : List Ask) → length ys ≡ length jobs
      → ((i : ℕ) (j : Job) (e : JobEnd) → i < length jobs → (get_or jobs i j).number % count ≡ worker → get_or xs i e ≡ get_or ys i e)
      → OwnJobs count worker jobs xs all → OwnJobs count worker jobs ys all
  same_own [] [] [] all many same own = own
  same_own [] [] (y ∷ ys) all many same own = absurd (cc)
  same_own [] (x ∷ xs) ys all many same own = absurd own
  same_own (job ∷ jobs) [] ys all many same own = absurd own
  same_own (job ∷ jobs) (x ∷ xs) [] all many same own = absurd (cc)
  same_own (job ∷ jobs) (x ∷ xs) (y ∷ ys) all many same own =
      same_by (job.number % count == worker) job x y jobs xs ys all (λ mine. same zero job x (omega arith) (eqb-true (job.number % count) worker mine))
      (λ rest is. same_own jobs xs ys rest (omega (arith, many)) (λ i j e below mine. same (suc i) j e (omega (arith, below)) mine) is) own
