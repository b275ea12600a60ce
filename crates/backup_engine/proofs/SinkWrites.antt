-- A write to a sink that was done, or not.
use Rattle.backup_engine.proofs.Prelude.{◌≡◌, ℕ, true, false, List, Result, Ok, Err, subst, is_err, Rose, Appended, SinkView, AppendedPart, Sends}

module _ {T E : Type 0} (bytes piece : List ℕ) (same : bytes ≡ piece) (old new : SinkView) where
  pub part_sent : (result : Result T E) → true ≡ is_err result → Sends bytes result old new → AppendedPart old.written new.written piece
  part_sent (Ok x) failed sends = absurd cc
  part_sent (Err e) failed sends = subst (λ (b : List ℕ). AppendedPart old.written new.written b) same sends.err

  pub fault_counted : (result : Result T E) → true ≡ is_err result → Sends bytes result old new → Rose old.faults new.faults
  fault_counted (Ok x) failed sends = absurd cc
  fault_counted (Err e) failed sends = sends.cause.failed

  pub all_sent : (result : Result T E) → false ≡ is_err result → Sends bytes result old new → Appended old.written new.written piece
  all_sent (Ok x) done sends = subst (λ (b : List ℕ). Appended old.written new.written b) same sends.ok
  all_sent (Err e) done sends = absurd cc

  pub no_fault : (result : Result T E) → false ≡ is_err result → Sends bytes result old new → new.faults ≡ old.faults
  no_fault (Ok x) done sends = sends.cause.done
  no_fault (Err e) done sends = absurd cc
