-- Slots that are closed together, one after the other.
use Rattle.std.proofs.Common.{◌≡◌, ◌⊎◌, inl, inr, ℕ, suc, zero, ◌+◌, ◌<◌, ◌≤◌, List, [], ◌∷◌, length, Some, refl, sym, ◌∙◌, arith, subst}
use Rattle.std.proofs.lemmas.Bool.{cases_lt}
use Rattle.std.proofs.lemmas.Option.{slice_get_within}
use Rattle.base_model.specs.Bytes.{range, written, byte_at}
use Rattle.base_model.proofs.ByteAt.{byte_of_range}
use Rattle.base_model.proofs.Frames.{same_written, byte_before, byte_after}
use Rattle.base_model.proofs.Ranges.{length-range, range-whole, range-written}
use Rattle.disk_format.specs.declared.numbers.TheConstants.{SLOT_BYTES}
use Rattle.disk_format.specs.Layout.{slot_at}
use Rattle.dd_disk.specs.Wrote.{SameIn}
use Rattle.store_model.specs.Slots.{HoldsSlot}
use Rattle.container_log.specs.Many.{AreApart, AreSlots, NoGate, AreFreed, OneByOne}
use Rattle.container_log.specs.Writing.{Frees, IsFreed, SameButGate}
use Rattle.container_log.proofs.Bodies.{some_same}
use Rattle.container_log.proofs.Freeing.{header_still}
use Rattle.container_log.proofs.Left.{same_range}
use Rattle.container_log.proofs.One.{one_so}
use Rattle.container_log.proofs.Sealing.{by_gate}

-- ---- slots apart

pub apart_after : (size slot : ℕ) (slots : List ℕ) → AreApart size (slot ∷ slots) → AreApart size slots
apart_after size slot slots are = record {
  within = λ i s here. are.within (suc i) s here;
  apart = λ i j one other less here there. are.apart (suc i) (suc j) one other (omega (arith, less)) here there;
}

pub apart_of : (size : ℕ) (slots : List ℕ) → AreSlots size slots → AreApart size slots
apart_of size slots are = record {
  within = are.within;
  apart = λ i j one other less here there same. let below = are.rise i j one other less here there in omega (arith, below, same);
}

pub one_apart : (size slot : ℕ) → slot_at slot + SLOT_BYTES ≤ size → AreApart size (slot ∷ [])
one_apart size slot fits = record {
  within = one_so (λ i s. slot_at s + SLOT_BYTES ≤ size) slot fits;
  apart = λ i j one other less here there.
      let second : j < 1 = slice_get_within (slot ∷ []) j other there in absurd (omega (arith, less, second));
}

-- ---- one slot of an image, as it is in another

module _ (slot size : ℕ) (slots : List ℕ) (image new : List ℕ) (are : AreApart size (slot ∷ slots)) (long : length image ≡ size)
    (same : SameIn (NoGate (slot ∷ slots)) image new) where
  fits : slot_at slot + SLOT_BYTES ≤ length image
  fits = omega (arith, are.within 0 slot refl, long)

  -- with its gate
  abbrev mid : List ℕ
  mid = written (slot_at slot) (range (slot_at slot) 1 new) image

  gate_long : length (range (slot_at slot) 1 new) ≡ 1
  gate_long = length-range (slot_at slot) 1 new (omega (arith, fits, same.size))

  outside : SameButGate slot image mid
  outside = same_written (slot_at slot) 1 (range (slot_at slot) 1 new) image gate_long (omega (arith, fits))

  mid_long : length mid ≡ size
  mid_long = outside.size ∙ long

  gate_is : byte_at (slot_at slot) mid ≡ byte_at (slot_at slot) new
  gate_is = byte_of_range (slot_at slot) new mid (range-written (slot_at slot) 1 (range (slot_at slot) 1 new) image (omega (arith, fits)) gate_long)

  -- nothing but its gate was written
  only_gate : SameIn (NoGate (slot ∷ [])) image mid
  only_gate = record {
    size = outside.size;
    same = λ at count out. elim (out 0 slot refl) [ inl before ↦ outside.before at count before | inr after ↦ outside.after at count after ];
  }

  frees_one : Frees slot image mid
  frees_one = (outside, λ h held. by_gate (HoldsSlot mid slot (Some h)) slot mid (header_still (slot ∷ []) image mid slot h fits only_gate held))

  -- ---- the others

  out_of_all : (q : ℕ) → NoGate slots q 1 → (q + 1 ≤ slot_at slot) ⊎ (slot_at slot + 1 ≤ q) → NoGate (slot ∷ slots) q 1
  out_of_all q out apart zero s here = subst (λ (x : ℕ). (q + 1 ≤ slot_at x) ⊎ (slot_at x + 1 ≤ q)) (some_same slot s here) apart
  out_of_all q out apart (suc i) s here = out i s here

  by_byte : (q : ℕ) → NoGate slots q 1 → (q + 1 ≤ slot_at slot) ⊎ (slot_at slot + 1 ≤ q) → byte_at q new ≡ byte_at q mid
  by_byte q out apart =
      byte_of_range q image new (same.same q 1 (out_of_all q out apart))
      ∙ sym (elim apart [
        | inl before ↦ byte_before q (slot_at slot) 1 image mid (omega (arith, before)) outside
        | inr after ↦ byte_after q (slot_at slot) 1 image mid after outside
      ])

  by_place : (q : ℕ) → NoGate slots q 1 → byte_at q new ≡ byte_at q mid
  by_place q out = elim (cases_lt q (slot_at slot)) [
    | inl below ↦ by_byte q out (inl (omega (arith, below)))
    | inr from ↦ elim (cases_lt q (slot_at slot + 1)) [
      | inl within ↦ subst (λ (p : ℕ). byte_at p new ≡ byte_at p mid) (omega (arith, from, within)) (sym gate_is)
      | inr past ↦ by_byte q out (inr past)
    ]
  ]

  rest : SameIn (NoGate slots) mid new
  rest =
      let size_is : length new ≡ length mid = same.size ∙ sym outside.size in
      record {
        size = size_is;
        same = λ p n out. same_range p n mid new size_is (λ k less. by_place (p + k) (λ i s here. elim (out i s here) [
          | inl before ↦ inl (omega (arith, before, less))
          | inr after ↦ inr (omega (arith, after))
        ]));
      }

-- ---- all of them

nothing_else : (old new : List ℕ) → SameIn (NoGate []) old new → new ≡ old
nothing_else old new same =
    sym (range-whole (length old) new same.size) ∙ same.same 0 (length old) (λ i slot here. absurd cc) ∙ range-whole (length old) old refl

pub being_freed : (size : ℕ) (slots old new : List ℕ) → AreApart size slots → length old ≡ size → SameIn (NoGate slots) old new → OneByOne Frees slots old new
being_freed size [] old new are long same = nothing_else old new same
being_freed size (slot ∷ slots) old new are long same = (
  mid slot size slots old new are long same,
  frees_one slot size slots old new are long same,
  being_freed size slots (mid slot size slots old new are long same) new (apart_after size slot slots are) (mid_long slot size slots old new are long same)
      (rest slot size slots old new are long same),
)

pub all_freed : (size : ℕ) (slots given new : List ℕ) → AreApart size slots → length given ≡ size → AreFreed slots given new → OneByOne IsFreed slots given new
all_freed size [] given new are long freed = nothing_else given new freed.rest
all_freed size (slot ∷ slots) given new are long freed =
    let same = freed.rest in (
      mid slot size slots given new are long same,
      (
        outside slot size slots given new are long same,
        λ opened. absurd (omega (arith, freed.each 0 slot (omega arith) refl, gate_is slot size slots given new are long same, opened)),
      ),
      all_freed size slots (mid slot size slots given new are long same) new (apart_after size slot slots are) (mid_long slot size slots given new are long same) (record {
        rest = rest slot size slots given new are long same;
        each = λ i s less here. freed.each (suc i) s (omega (arith, less)) here;
      }),
    )
