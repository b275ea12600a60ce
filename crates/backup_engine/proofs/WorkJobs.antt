-- The jobs of a generated load.
use Rattle.backup_engine.proofs.Prelude.{◌≡◌, ℕ, zero, suc, ◌+◌, List, [], ◌∷◌, ◌++◌, refl, sym, ◌∙◌, ap, subst, arith, AllByRecursion, length}
use Rattle.std.specs.Prelude.{◌≢◌, ◌≤◌, ◌<◌, ◌^◌}
use Rattle.disk_format.specs.declared.numbers.TheConstants.{MOST_FILE}
use Rattle.ingest_workers.specs.declared.job.Job.{Job}
use Rattle.ingest_workers.specs.Named.{HaveNumbers}
use Rattle.shared_work.specs.Completing.{IsSmall}
use Rattle.backup_engine.specs.Line.{Load}
use Rattle.backup_engine.specs.Working.{jobs_from, plan_of}

-- one more job
pub jobs_more : (load : Load) (first count : ℕ)
    → jobs_from load first (suc count) ≡ jobs_from load first count ++ record { number = first + count; seed = load.seed; length = load.bytes } ∷ []
jobs_more load first zero = ap (λ (n : ℕ). record { number = n; seed = load.seed; length = load.bytes } ∷ []) (let same : first ≡ first + 0 = omega arith in same)
jobs_more load first (suc count) =
    ap (λ (jobs : List Job). record { number = first; seed = load.seed; length = load.bytes } ∷ jobs)
    (jobs_more load (suc first) count
    ∙ ap (λ (n : ℕ). jobs_from load (suc first) count ++ record { number = n; seed = load.seed; length = load.bytes } ∷ [])
    (let same : suc first + count ≡ first + suc count = omega arith in same))

-- their numbers are greater ones
above : (load : Load) (least first count : ℕ) → least < first → AllByRecursion (λ j. j.number ≢ least) (jobs_from load first count)
above load least first zero below = tt
above load least first (suc count) below = (λ same. absurd (omega (arith, same, below)), above load least (suc first) count (omega (arith, below)))

numbered_from : (load : Load) (first count : ℕ) → first + count ≤ 2 ^ 64 → HaveNumbers (jobs_from load first count)
numbered_from load first zero few = tt
numbered_from load first (suc count) few = (omega (arith, few), above load first (suc first) count (omega arith), numbered_from load (suc first) count (omega (arith, few)))

-- no two have one number
pub numbered : (load : Load) → load.files ≤ 256 → HaveNumbers (plan_of load).jobs
numbered load few = numbered_from load 0 load.files (omega (arith, few))

-- so many they are
count : (load : Load) (first count : ℕ) → length (jobs_from load first count) ≡ count
count load first zero = refl
count load first (suc n) = ap suc (count load (suc first) n)

small_from : (load : Load) → load.bytes ≤ MOST_FILE → (first count : ℕ) → first + count ≤ 2 ^ 64
    → AllByRecursion (λ j. (j.number < 2 ^ 64) × (j.length ≤ MOST_FILE)) (jobs_from load first count)
small_from load fits first zero few = tt
small_from load fits first (suc count) few = ((omega (arith, few), fits), small_from load fits (suc first) count (omega (arith, few)))

-- few jobs, of small files
pub small : (load : Load) → 1 ≤ load.workers → load.files ≤ 256 → load.bytes ≤ 16777216 → IsSmall (plan_of load)
small load some few fits = record {
  some = some;
  few = subst (λ (n : ℕ). n ≤ 256) (sym (count load 0 load.files)) few;
  small = small_from load (let most : 16777216 ≤ MOST_FILE = omega arith in omega (arith, most, fits)) 0 load.files (omega (arith, few));
}
