-- Gates that are written, one after the other.
use Rattle.std.proofs.Common.{◌≡◌, ◌≢◌, inl, inr, ℕ, ◌+◌, ◌<◌, ◌≤◌, List, [], ◌∷◌, length, slice_get, Some, refl, sym, ◌∙◌, ap, arith, subst}
use Rattle.std.proofs.lemmas.Bool.{cases_lt}
use Rattle.base_model.specs.Bytes.{byte_at, written}
use Rattle.base_model.proofs.ByteAt.{byte-written, byte-written-before, byte-written-after}
use Rattle.disk_format.specs.declared.numbers.TheConstants.{SLOT_BYTES}
use Rattle.disk_format.specs.Layout.{slot_at}
use Rattle.dd_disk.specs.Ending.{Ending, Done}
use Rattle.dd_disk.specs.View.{DiskView}
use Rattle.dd_disk.specs.Writes.{Puts, Torn}
use Rattle.dd_disk.specs.Wrote.{SameIn, Wrote}
use Rattle.dd_disk.proofs.Wrote.{same_in_on, same_in_torn, wrote_on}
use Rattle.container_log.specs.Many.{AreApart, NoGate, HaveGates}
use Rattle.container_log.proofs.Bodies.{some_same}

module _ (gate size : ℕ) (slots : List ℕ) (are : AreApart size slots) (index slot at : ℕ) (here : slice_get slots index ≡ Some slot) (place : at ≡ slot_at slot) where
  fits : slot_at slot + SLOT_BYTES ≤ size
  fits = are.within index slot here

  -- a gate of another slot stays
  other_gate : (s : ℕ) (m : List ℕ) → length m ≡ size → s ≢ slot → byte_at (slot_at s) (written at (gate ∷ []) m) ≡ byte_at (slot_at s) m
  other_gate s m sized other = elim (cases_lt s slot) [
    | inl below ↦ byte-written-before (slot_at s) at (gate ∷ []) m (omega (arith, below, place)) (omega (arith, fits, sized, place))
    | inr past ↦ byte-written-after (slot_at s) at (gate ∷ []) m (omega (arith, past, other, place)) (omega (arith, fits, sized, place))
  ]

  gate_torn : (d c : List ℕ) → length d ≡ size → Torn at 1 d c → SameIn (NoGate slots) d c
  gate_torn d c sized torn =
      same_in_torn (NoGate slots) at 1 d c (omega (arith, fits, sized, place))
      (λ p count out. elim (out index slot here) [ inl before ↦ inl (omega (arith, before, place)) | inr after ↦ inr (omega (arith, after, place)) ])
      torn

  gates_on : (given m c : List ℕ) → length given ≡ size → length m ≡ size → HaveGates gate index slots given m → Puts at (gate ∷ []) m c → HaveGates gate (index + 1) slots given c
  gates_on given m c given_sized sized part puts = record {
    rest = same_in_on (NoGate slots) given m c part.rest (gate_torn m c sized (record { bytes = gate ∷ []; count = refl; holds = puts }));
    each = λ i s less s_is. elim (cases_lt i index) [
      | inl before ↦
          ap (byte_at (slot_at s)) puts ∙ other_gate s m sized (are.apart i index s slot before s_is here) ∙ part.each i s before s_is
      | inr past ↦
          let same : i ≡ index = omega (arith, less, past) in
          let s_same : slot ≡ s = some_same slot s (sym here ∙ ap (slice_get slots) (sym same) ∙ s_is) in
          subst (λ (x : ℕ). byte_at (slot_at x) c ≡ gate) s_same
          (ap (byte_at (slot_at slot)) puts ∙ byte-written (slot_at slot) at 0 (gate ∷ []) m (omega (arith, place)) (omega arith) (omega (arith, fits, sized, place)))
    ];
  }

  -- one more gate
  pub wrote_gate : (e : Ending) (old mid new : DiskView) → old.size ≡ size → Wrote (SameIn (NoGate slots)) (HaveGates gate index slots) Done old mid
      → Wrote (Torn at 1) (Puts at (gate ∷ [])) e mid new → Wrote (SameIn (NoGate slots)) (HaveGates gate (index + 1) slots) e old new
  wrote_gate e old mid new size_is first second =
      wrote_on (SameIn (NoGate slots)) (Torn at 1) (HaveGates gate index slots) (Puts at (gate ∷ [])) (HaveGates gate (index + 1) slots)
      old mid new (same_in_on (NoGate slots)) first
      (λ d c sized torn. gate_torn d c (sized ∙ first.later.size_is ∙ size_is) torn)
      (λ given m c given_sized sized part puts. gates_on given m c (given_sized ∙ size_is) (sized ∙ size_is) part puts)
      e second
