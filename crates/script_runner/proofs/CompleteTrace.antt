-- What is told of the steps of a run is told of its parts.
use Rattle.script_runner.proofs.Prelude.{◌≡◌, inl, inr, ℕ, List, [], ◌∷◌, ◌++◌, Option, refl, sym, subst, KnownWith, FileMachine, Stepped, Run, of_files, ChangesBytes, IsHeldNode, Traced}
use Rattle.std.proofs.Math.Path.{subst⁻¹, subst⁻¹-subst}
use Rattle.store_machine.specs.Commands.{run_on}
use Rattle.script_runner.specs.Complete.{IsHeldIn}

abbrev pub Step : Type 0
Step = Stepped (List ℕ)

abbrev pub Content : Type 0
Content = Option (List ℕ)

-- each node that a content holds is among these
abbrev pub HoldsAmong : (List ℕ → Type 0) → Content → Type 0
HoldsAmong S was = (bytes : List ℕ) → KnownWith was (IsHeldNode bytes) → S bytes

-- what a step did to the bytes, and that the nodes that it found are among these
abbrev pub DoesAmong : (List ℕ → Type 0) → Step → FileMachine → FileMachine → Content → Content → Type 0
DoesAmong S s m n was now = ChangesBytes s m n was now × HoldsAmong S was

-- the nodes that were held on the way are those on the way
pub on_the_way : (S : List ℕ → Type 0) (ss : List Step) (m n : FileMachine) (run : Run of_files ss m n) (was now : Content)
    (traced : Traced of_files ChangesBytes ss m n run was now) → ((bytes : List ℕ) → IsHeldIn ss m n run was now traced bytes → S bytes)
    → Traced of_files (DoesAmong S) ss m n run was now
on_the_way S [] m n run was now traced each = traced
on_the_way S (s ∷ ss) m n run was now traced each = (
  traced.0,
  (
    (traced.1.0, λ bytes is. each bytes (inl is)),
    on_the_way S ss run.0 n run.1.1 traced.0 now traced.1.1 (λ bytes is. each bytes (inr is)),
  ),
)

-- ---- parts of a run

module _ (P : Step → FileMachine → FileMachine → Content → Content → Type 0) where
  -- the steps were made, and this is told of them
  abbrev pub Made : List Step → FileMachine → FileMachine → Content → Content → Type 0
  Made ss m n was now = (run : Run of_files ss m n) × Traced of_files P ss m n run was now

  -- so it is of other names for the same steps
  pub made_as : (ss xs : List Step) (m n : FileMachine) (was now : Content) → ss ≡ xs → Made ss m n was now → Made xs m n was now
  made_as ss xs m n was now is made = subst (λ (ys : List Step). Made ys m n was now) is made

  -- one after the other
  pub made_parts : (xs ys : List Step) (m n : FileMachine) (was now : Content) → Made (xs ++ ys) m n was now
      → (k : FileMachine) × (mid : Content) × Made xs m k was mid × Made ys k n mid now
  made_parts [] ys m n was now made = (m, was, (refl, refl), made)
  made_parts (x ∷ xs) ys m n was now (run, traced) =
      let rest = made_parts xs ys run.0 n traced.0 now (run.1.1, traced.1.1) in
      (rest.0, rest.1, ((run.0, (run.1.0, rest.2.0)), (traced.0, (traced.1.0, rest.2.1))), rest.3)

  -- of two runs that were put together
  pub traced_parts : (xs ys : List Step) (m k n : FileMachine) (first : Run of_files xs m k) (next : Run of_files ys k n) (was now : Content)
      → Traced of_files P (xs ++ ys) m n (run_on of_files xs ys m k n first next) was now
      → (mid : Content) × Traced of_files P xs m k first was mid × Traced of_files P ys k n next mid now
  traced_parts [] ys m k n first next was now traced =
      let back = subst⁻¹ (λ (x : FileMachine). Made ys x n was now) first
      (subst (λ (x : FileMachine). Run of_files ys x n) first next, traced) in (
        was,
        refl,
        subst (λ (run : Run of_files ys k n). Traced of_files P ys k n run was now)
            (subst⁻¹-subst (λ (x : FileMachine). Run of_files ys x n) first next) back.1,
      )
  traced_parts (x ∷ xs) ys m k n first next was now traced =
      let rest = traced_parts xs ys first.0 k n first.1.1 next traced.0 now traced.1.1 in
      (rest.0, (traced.0, (traced.1.0, rest.1)), rest.2)

  -- of a run by another name for its steps
  pub traced_as : (ss xs : List Step) (m n : FileMachine) (is : ss ≡ xs) (run : Run of_files xs m n) (was now : Content)
      → Traced of_files P ss m n (subst (λ (ys : List Step). Run of_files ys m n) (sym is) run) was now → Traced of_files P xs m n run was now
  traced_as ss xs m n is run was now traced =
      let back = subst⁻¹ (λ (ys : List Step). Made ys m n was now) (sym is) (subst (λ (ys : List Step). Run of_files ys m n) (sym is) run, traced) in
      subst (λ (r : Run of_files xs m n). Traced of_files P xs m n r was now)
      (subst⁻¹-subst (λ (ys : List Step). Run of_files ys m n) (sym is) run) back.1
