-- Why a push of a file that goes on is refused.
use Rattle.script_runner.proofs.Prelude.{◌≡◌, ◌∙◌, ◌<◌, ◌+◌, ℕ, Bool, true, false, if◌then◌else◌, Some, None, Err, refl, sym, ap, nat_lt, MOST_FILE, Refusal, IsPushAnswer, SessionState}
use Rattle.std.proofs.lemmas.Bool.{ltb-true}
use Rattle.refusals.specs.declared.refusal.PartKind.TheVariants as kinds
use Rattle.refusals.specs.declared.refusal.Refusal.TheVariants as refusals

-- of a file that goes on a push is refused where it would be too long
pub why_long : (s : SessionState) (n : ℕ) (refusal : Refusal) (ended : Bool) → s.ended ≡ false → s.ended ≡ ended → IsPushAnswer s n (Err refusal) →
    (refusal ≡ refusals.TooLong) × (MOST_FILE < s.count + n)
why_long s n refusal true off is answer = absurd (let both = sym off ∙ is in cc)
why_long s n refusal false off is answer =
    by_length (nat_lt MOST_FILE (s.count + n)) refl
    (ap (λ (b : Bool). if b then Some (refusals.WrongPart kinds.Finished) else if nat_lt MOST_FILE (s.count + n) then Some refusals.TooLong else None) (sym is) ∙ answer)
  where
    other : (a b : Refusal) → Some a ≡ Some b → b ≡ a
    other a b is = cc

    by_length : (b : Bool) → nat_lt MOST_FILE (s.count + n) ≡ b → (if b then Some refusals.TooLong else None) ≡ Some refusal →
        (refusal ≡ refusals.TooLong) × (MOST_FILE < s.count + n)
    by_length true more some = (other refusals.TooLong refusal some, ltb-true MOST_FILE (s.count + n) more)
    by_length false more some = absurd cc
