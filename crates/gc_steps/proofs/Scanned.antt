-- The first slot from one on that passes a test.
use Rattle.gc_steps.proofs.Prelude.{◌≡◌, ℕ, zero, suc, ◌+◌, ◌-◌, ◌<◌, ◌≤◌, Bool, true, false, length, None, Some, refl, ◌∙◌, ap, arith, if◌then◌else◌, SlotTable, first_slot}
use Rattle.gc_steps.specs.Stages.{first_from}

-- one number more
first_step : (test : ℕ → Bool) (from count less : ℕ) → count ≡ suc less → first_from test from count ≡ (if test from then Some from else first_from test (from + 1) less)
unfolding first_from
first_step test from zero less same = absurd (omega (arith, same))
first_step test from (suc count) less same = ap (λ n. if test from then Some from else first_from test (from + 1) n)
    (let same_less : count ≡ less = omega (arith, same) in same_less)

no_more : (test : ℕ → Bool) (from count : ℕ) → count ≡ 0 → first_from test from count ≡ None
unfolding first_from
no_more test from zero none = refl
no_more test from (suc count) none = absurd (omega (arith, none))

module _ (t : SlotTable) (test : ℕ → Bool) (slot : ℕ) where
  one_more : slot < length t.ids.items → first_slot t test slot ≡ (if test slot then Some slot else first_slot t test (slot + 1))
  one_more within = first_step test slot (length t.ids.items - slot) (length t.ids.items - (slot + 1)) (omega (arith, within))

  pub first_hit : slot < length t.ids.items → test slot ≡ true → first_slot t test slot ≡ Some slot
  first_hit within passes = one_more within ∙ ap (λ b. if b then Some slot else first_slot t test (slot + 1)) passes

  pub first_miss : slot < length t.ids.items → test slot ≡ false → first_slot t test slot ≡ first_slot t test (slot + 1)
  first_miss within fails = one_more within ∙ ap (λ b. if b then Some slot else first_slot t test (slot + 1)) fails

  pub first_end : length t.ids.items ≤ slot → first_slot t test slot ≡ None
  first_end past = no_more test slot (length t.ids.items - slot) (omega (arith, past))
