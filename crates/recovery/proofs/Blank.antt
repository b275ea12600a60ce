-- Writes that open no store, one after another.
use Rattle.recovery.proofs.Prelude.{inl, inr, ℕ, ◌+◌, ◌≤◌, List, length, sym, ap, ◌∙◌, arith, byte_at, length-written, byte-written-before, size_of, DiskView, IsLater, CrashLeaves, SteppedFrom, later_here, later_on, leaves_on, leaves_weaker, reads_here, reads_leave, IsBlankOf, StaysBlank}
use Rattle.dd_disk.specs.Writes.{Torn}

-- a write after the first byte opens no store
pub blank_torn : (slots at n : ℕ) (old new : List ℕ) → 1 ≤ at → at + n ≤ size_of slots → IsBlankOf slots old → Torn at n old new → IsBlankOf slots new
blank_torn slots at n old new after fits blank torn = record {
  count = blank.count;
  size = ap length torn.holds ∙ length-written at torn.bytes old (omega (arith, fits, blank.size, torn.count)) ∙ blank.size;
  closed = λ opened. blank.closed (sym (ap (byte_at 0) torn.holds ∙ byte-written-before 0 at torn.bytes old (omega (arith, after)) (omega (arith, fits, blank.size))) ∙ opened);
}

module _ (slots : ℕ) where
  -- nothing was called yet
  pub stays_here : (v : DiskView) → StaysBlank slots v v
  stays_here v = record { later = later_here v; left = λ all. reads_leave (IsBlankOf slots) v v all (reads_here v) }

  -- one write, done or cut short
  pub stays_write : (at n : ℕ) (old new : DiskView) → 1 ≤ at → at + n ≤ size_of slots → IsLater old new → CrashLeaves (SteppedFrom (Torn at n) old) old new →
      StaysBlank slots old new
  stays_write at n old new after fits later leaves = record {
    later = later;
    left = λ all. leaves_weaker (SteppedFrom (Torn at n) old) (IsBlankOf slots) old new (λ c from. elim from [
      | inl same ↦ all c same
      | inr stepped ↦ blank_torn slots at n stepped.0 c after fits (all stepped.0 stepped.1) stepped.2
    ]) leaves;
  }

  -- calls after calls
  pub stays_on : (old mid new : DiskView) → StaysBlank slots old mid → StaysBlank slots mid new → StaysBlank slots old new
  stays_on old mid new first second = record {
    later = later_on old mid new first.later second.later;
    left = λ all.
        let before = first.left all in
        leaves_on (IsBlankOf slots) (IsBlankOf slots) (IsBlankOf slots) old mid new first.later.clock_is before (second.left before.now) (λ c blank. blank) (λ c blank. blank);
  }
