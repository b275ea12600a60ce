-- Writes one after the other.
use Rattle.std.proofs.Common.{◌≡◌, ◌⊎◌, inl, inr, ℕ, ◌+◌, ◌-◌, ◌≤◌, List, ◌++◌, length, option_map, Result, Ok, Err, OnOk, refl, sym, ◌∙◌, ap, subst, arith}
use Rattle.base_model.specs.Bytes.{range, written}
use Rattle.base_model.specs.Frames.{SameOutside}
use Rattle.base_model.proofs.Frames.{same_written}
use Rattle.base_model.proofs.Ranges.{range-join, range-whole, range-written}
use Rattle.dd_disk.specs.View.{DiskView, SteppedFrom}
use Rattle.dd_disk.specs.Ending.{Ending, WriteCall, ending, Done, Refused, Unread, Broken}
use Rattle.dd_disk.specs.Writes.{Puts, Torn}
use Rattle.dd_disk.specs.Wrote.{SameIn, Gives, Wrote}
use Rattle.dd_disk.proofs.Ended.{counts_on}
use Rattle.dd_disk.proofs.Later.{later_on, leaves_on}

-- ---- bytes that stay

pub same_in_on : (outside : ℕ → ℕ → Type 0) (a b c : List ℕ) → SameIn outside a b → SameIn outside b c → SameIn outside a c
same_in_on outside a b c first second = record { size = second.size ∙ first.size; same = λ at count out. second.same at count out ∙ first.same at count out }

-- a write that lies where nothing is outside
pub same_in_torn : (outside : ℕ → ℕ → Type 0) (at n : ℕ) (old new : List ℕ) → at + n ≤ length old → ((p count : ℕ) → outside p count → (p + count ≤ at) ⊎ (at + n ≤ p))
    → Torn at n old new → SameIn outside old new
same_in_torn outside at n old new fits apart torn =
    let whole = same_written at n torn.bytes old torn.count fits in
    subst (SameIn outside old) (sym torn.holds) (record {
      size = whole.size;
      same = λ p count out. elim (apart p count out) [ inl before ↦ whole.before p count before | inr after ↦ whole.after p count after ];
    })

-- where all but one range is outside
pub same_but : (outside : ℕ → ℕ → Type 0) (at n : ℕ) (old new : List ℕ) → ((p count : ℕ) → (p + count ≤ at) ⊎ (at + n ≤ p) → outside p count) → SameIn outside old new
    → SameOutside at n old new
same_but outside at n old new apart same = record {
  size = same.size;
  before = λ p count within. same.same p count (apart p count (inl within));
  after = λ p count past. same.same p count (apart p count (inr past));
}

-- these bytes in the range, and nothing else, make one list
pub puts_same : (at n : ℕ) (bytes old new : List ℕ) → length bytes ≡ n → at + n ≤ length old → SameOutside at n old new → range at n new ≡ bytes → Puts at bytes old new
puts_same at n bytes old new long fits same there =
    let whole : SameOutside at n old (written at bytes old) = same_written at n bytes old long fits in
    let front : range 0 at new ≡ range 0 at (written at bytes old) = same.before 0 at (omega arith) ∙ sym (whole.before 0 at (omega arith)) in
    let middle : range at n new ≡ range at n (written at bytes old) = there ∙ sym (range-written at n bytes old fits long) in
    let rest : range (at + n) (length old - (at + n)) new ≡ range (at + n) (length old - (at + n)) (written at bytes old) =
    same.after (at + n) (length old - (at + n)) (omega arith) ∙ sym (whole.after (at + n) (length old - (at + n)) (omega arith)) in
    sym (parts new same.size)
    ∙ ap (λ (l : List ℕ). l ++ (range at n new ++ range (at + n) (length old - (at + n)) new)) front
    ∙ ap (λ (l : List ℕ). range 0 at (written at bytes old) ++ (l ++ range (at + n) (length old - (at + n)) new)) middle
    ∙ ap (λ (l : List ℕ). range 0 at (written at bytes old) ++ (range at n (written at bytes old) ++ l)) rest
    ∙ parts (written at bytes old) whole.size
  where
    parts : (c : List ℕ) → length c ≡ length old → range 0 at c ++ (range at n c ++ range (at + n) (length old - (at + n)) c) ≡ c
    parts c size =
        ap (λ (l : List ℕ). range 0 at c ++ l) (range-join at n (length old - (at + n)) (at + n) c refl)
        ∙ range-join 0 at (n + (length old - (at + n))) at c (omega arith)
        ∙ range-whole (at + (n + (length old - (at + n)))) c (omega (arith, size, fits))

-- ---- writes

-- a write alone
pub gives_put : {T E : Type 0} (at : ℕ) (bytes : List ℕ) (result : Result T E) (old new : DiskView) → OnOk result (new.content ≡ option_map (written at bytes) old.content)
    → Gives (Puts at bytes) (ending (λ _. WriteCall) result) old new
gives_put at bytes (Ok x) old new is = λ given known. (written at bytes given, is ∙ ap (option_map (written at bytes)) known, refl)
gives_put at bytes (Err e) old new is = tt

-- Steps, and one more of another form, which is one of the first form.
module _ (step next part rest whole : List ℕ → List ℕ → Type 0) (old mid new : DiskView)
    (joins : (a b c : List ℕ) → step a b → step b c → step a c)
    (first : Wrote step part Done old mid) (each : (d c : List ℕ) → length d ≡ mid.size → next d c → step d c)
    (wholes : (given m c : List ℕ) → length given ≡ old.size → length m ≡ old.size → part given m → rest m c → whole given c) where
  stepped_on : (c : List ℕ) → SteppedFrom next mid c → SteppedFrom step old c
  stepped_on c (inl same) = first.leaves.now c same
  stepped_on c (inr stepped) =
      let one = each stepped.0 c (mid.image_sized stepped.0 stepped.1) stepped.2 in
      elim (first.leaves.now stepped.0 stepped.1) [ inl was ↦ inr (stepped.0, was, one) | inr before ↦ inr (before.0, before.1, joins before.0 stepped.0 c before.2 one) ]

  gives_on : (e : Ending) → Gives rest e mid new → Gives whole e old new
  gives_on Done gives = λ given known.
      let m = first.gives given known in
      let c = gives m.0 m.1 in
      (c.0, c.1, wholes given m.0 c.0 (old.sized given known) (mid.sized m.0 m.1 ∙ first.later.size_is) m.2 c.2)
  gives_on Refused gives = tt
  gives_on Unread gives = tt
  gives_on Broken gives = tt

  pub wrote_on : (e : Ending) → Wrote next rest e mid new → Wrote step whole e old new
  wrote_on e second = record {
    later = later_on old mid new first.later second.later;
    leaves = leaves_on (SteppedFrom step old) (SteppedFrom next mid) (SteppedFrom step old) old mid new first.later.clock_is first.leaves second.leaves (λ c same. same) stepped_on;
    gives = gives_on e second.gives;
    faults_are = counts_on e old.faults mid.faults new.faults first.faults_are second.faults_are;
  }

-- of writes that broke nothing is said of what reads give
pub wrote_stopped : (step part whole : List ℕ → List ℕ → Type 0) (old new : DiskView) → Wrote step part Broken old new → Wrote step whole Broken old new
wrote_stopped step part whole old new wrote = record { later = wrote.later; leaves = wrote.leaves; gives = tt; faults_are = wrote.faults_are }
