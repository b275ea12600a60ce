-- What is left of containers that are sealed together, one slot after the other.
use Rattle.std.proofs.Common.{◌≡◌, ◌⊎◌, inl, inr, ℕ, suc, zero, ◌+◌, ◌-◌, ◌<◌, ◌≤◌, List, [], ◌∷◌, length, drop, min, length-drop, slice_get, Some, None, refl, sym, ◌∙◌, ap, arith, subst}
use Rattle.std.proofs.lemmas.Bool.{cases_lt}
use Rattle.std.proofs.lemmas.List.{ext_get_or, length-take}
use Rattle.base_model.specs.Bytes.{range, written, byte_at}
use Rattle.base_model.specs.Frames.{SameOutside}
use Rattle.base_model.proofs.ByteAt.{byte_of_range}
use Rattle.base_model.proofs.Frames.{same_written, byte_before, byte_after}
use Rattle.base_model.proofs.Ranges.{byte-range, length-range, range-range, range-written, range-whole}
use Rattle.disk_format.specs.declared.numbers.TheConstants.{SLOT_BYTES}
use Rattle.disk_format.specs.Layout.{slot_at, data_at}
use Rattle.dd_disk.specs.Wrote.{SameIn}
use Rattle.container_meta.specs.Segments.{Segment, Contents, bytes_in}
use Rattle.container_meta.specs.Spelling.{header_of}
use Rattle.store_model.specs.Slots.{HoldsSlot, HoldsContainer, StandAt}
use Rattle.store_model.specs.Together.{Placed, AreLeftSo, IsLeft, IsThere}
use Rattle.store_model.proofs.Frames.{SameSlot, slot_kept}
use Rattle.container_log.specs.Many.{AreSlots, NoSlot, placed}
use Rattle.container_log.proofs.Bodies.{some_same}
use Rattle.container_log.proofs.Sealing.{bytes_in-cons, few_bytes}

-- ranges of lists of one length that have the same byte at each place of it
same_length : (p n : ℕ) (a b : List ℕ) → length b ≡ length a → length (range p n b) ≡ length (range p n a)
unfolding range
same_length p n a b long =
    length-take n (drop p b) ∙ ap (min n) (length-drop p b ∙ ap (λ (l : ℕ). l - p) long ∙ sym (length-drop p a)) ∙ sym (length-take n (drop p a))

few_in : (p n : ℕ) (a : List ℕ) → length (range p n a) ≤ n
unfolding range
few_in p n a = omega (arith, length-take n (drop p a))

pub same_range : (p n : ℕ) (a b : List ℕ) → length b ≡ length a → ((k : ℕ) → k < n → byte_at (p + k) b ≡ byte_at (p + k) a) → range p n b ≡ range p n a
same_range p n a b long each =
    ext_get_or 0 (range p n b) (range p n a) (same_length p n a b long)
    (λ k less. let within : k < n = omega (arith, less, few_in p n b) in byte-range k p n b within ∙ each k within ∙ sym (byte-range k p n a within))

-- ---- one slot of an image, in another

module _ (slot size : ℕ) (image new : List ℕ) (fits : slot_at slot + SLOT_BYTES ≤ size) (long : length image ≡ size) (new_long : length new ≡ size) where
  abbrev mid : List ℕ
  mid = written (slot_at slot) (range (slot_at slot) SLOT_BYTES new) image

  part_long : length (range (slot_at slot) SLOT_BYTES new) ≡ SLOT_BYTES
  part_long = length-range (slot_at slot) SLOT_BYTES new (omega (arith, fits, new_long))

  outside : SameOutside (slot_at slot) SLOT_BYTES image mid
  outside = same_written (slot_at slot) SLOT_BYTES (range (slot_at slot) SLOT_BYTES new) image part_long (omega (arith, fits, long))

  there : range (slot_at slot) SLOT_BYTES mid ≡ range (slot_at slot) SLOT_BYTES new
  there = range-written (slot_at slot) SLOT_BYTES (range (slot_at slot) SLOT_BYTES new) image (omega (arith, fits, long)) part_long

  inside : SameSlot slot new mid
  inside p n above below =
      let k : ℕ = p - slot_at slot in
      let is : slot_at slot + k ≡ p = omega (arith, above) in
      subst (λ (q : ℕ). range q n mid ≡ range q n new) is
      (sym (range-range k n (slot_at slot) SLOT_BYTES mid (omega (arith, below, above))) ∙ ap (range k n) there
      ∙ range-range k n (slot_at slot) SLOT_BYTES new (omega (arith, below, above)))

  stand_inside : (at : ℕ) (segments : List Segment) → slot_at slot ≤ at → at + bytes_in segments ≤ slot_at slot + SLOT_BYTES → StandAt at segments new → StandAt at segments mid
  stand_inside at [] above few stand = tt
  stand_inside at (s ∷ ss) above few stand = (
    inside at (length s.bytes) above (omega (arith, few, bytes_in-cons s ss)) ∙ stand.0,
    stand_inside (at + length s.bytes) ss (omega (arith, above)) (omega (arith, few, bytes_in-cons s ss)) stand.1,
  )

  container_there : (p : Placed) → p.slot ≡ slot → IsThere p new → IsThere p mid
  container_there p is container =
      let held = subst (λ (s : ℕ). HoldsContainer new s p.id p.kind p.segments) is container in
      subst (λ (s : ℕ). HoldsContainer mid s p.id p.kind p.segments) (sym is) (record {
        header = slot_kept slot new mid inside (Some (header_of p.id p.kind p.segments)) held.header;
        bytes = stand_inside (data_at slot) p.segments (omega arith) (omega (arith, few_bytes p.id p.kind p.segments held.header.0)) held.bytes;
      })

  left_there : (p : Placed) → p.slot ≡ slot → IsLeft p new → IsLeft p mid
  left_there p is (inl closed) = inl (subst (λ (s : ℕ). HoldsSlot mid s None) (sym is) (slot_kept slot new mid inside None (subst (λ (s : ℕ). HoldsSlot new s None) is closed)))
  left_there p is (inr container) = inr (container_there p is container)

  -- the other slots
  module _ (slots : List ℕ) (same : SameIn (NoSlot (slot ∷ slots)) image new) where
    out_of_all : (q : ℕ) → NoSlot slots q 1 → (q + 1 ≤ slot_at slot) ⊎ (slot_at slot + SLOT_BYTES ≤ q) → NoSlot (slot ∷ slots) q 1
    out_of_all q out apart zero s here = subst (λ (x : ℕ). (q + 1 ≤ slot_at x) ⊎ (slot_at x + SLOT_BYTES ≤ q)) (some_same slot s here) apart
    out_of_all q out apart (suc i) s here = out i s here

    by_byte : (q : ℕ) → NoSlot slots q 1 → (q + 1 ≤ slot_at slot) ⊎ (slot_at slot + SLOT_BYTES ≤ q) → byte_at q new ≡ byte_at q mid
    by_byte q out apart =
        byte_of_range q image new (same.same q 1 (out_of_all q out apart))
        ∙ sym (elim apart [
          | inl before ↦ byte_before q (slot_at slot) SLOT_BYTES image mid (omega (arith, before)) outside
          | inr after ↦ byte_after q (slot_at slot) SLOT_BYTES image mid after outside
        ])

    by_place : (q : ℕ) → NoSlot slots q 1 → byte_at q new ≡ byte_at q mid
    by_place q out = elim (cases_lt q (slot_at slot)) [
      | inl below ↦ by_byte q out (inl (omega (arith, below)))
      | inr from ↦ elim (cases_lt q (slot_at slot + SLOT_BYTES)) [
        | inl within ↦ sym (byte_of_range q new mid (inside q 1 from (omega (arith, within))))
        | inr past ↦ by_byte q out (inr past)
      ]
    ]

    rest : SameIn (NoSlot slots) mid new
    rest =
        let size_is : length new ≡ length mid = new_long ∙ sym (outside.size ∙ long) in
        record {
          size = size_is;
          same = λ p n out. same_range p n mid new size_is (λ k less. by_place (p + k) (λ i s here. elim (out i s here) [
            | inl before ↦ inl (omega (arith, before, less))
            | inr after ↦ inr (omega (arith, after))
          ]));
        }

-- the slots after the first
slots_after : (size slot : ℕ) (slots : List ℕ) → AreSlots size (slot ∷ slots) → AreSlots size slots
slots_after size slot slots are = record {
  within = λ i s here. are.within (suc i) s here;
  rise = λ i j low high less one two. are.rise (suc i) (suc j) low high (omega (arith, less)) one two;
}

-- a slot and its container
abbrev pub placed_in : ℕ → ℕ → Contents → Placed
placed_in slot id c = record { slot = slot; id = id; kind = c.kind; segments = c.segments }

-- P holds of each slot, of which nothing but its bytes tells it, and all else is as it was: they were left so one after the other
module _ (P : Placed → List ℕ → Type 0)
    (goes : (slot size : ℕ) (image new : List ℕ) (fits : slot_at slot + SLOT_BYTES ≤ size) (long : length image ≡ size) (new_long : length new ≡ size) (p : Placed) → p.slot ≡ slot
    → P p new → P p (mid slot size image new fits long new_long)) where
  left_so : (size id : ℕ) (slots : List ℕ) (filled : List Contents) (image new : List ℕ) → AreSlots size slots → length filled ≡ length slots → length image ≡ size
      → SameIn (NoSlot slots) image new
      → ((i slot : ℕ) (contents : Contents) → slice_get slots i ≡ Some slot → slice_get filled i ≡ Some contents → P (placed_in slot (id + i) contents) new)
      → AreLeftSo P (placed slots id filled) image new
  left_so size id [] filled image new are many long same each =
      sym (range-whole (length image) new same.size) ∙ same.same 0 (length image) (λ i slot here. absurd cc) ∙ range-whole (length image) image refl
  left_so size id (slot ∷ slots) [] image new are many long same each = absurd (omega (arith, many))
  left_so size id (slot ∷ slots) (c ∷ cs) image new are many long same each =
      let fits : slot_at slot + SLOT_BYTES ≤ size = are.within 0 slot refl in
      let new_long : length new ≡ size = same.size ∙ long in (
        mid slot size image new fits long new_long,
        outside slot size image new fits long new_long,
        goes slot size image new fits long new_long (placed_in slot id c) refl (subst (λ (n : ℕ). P (placed_in slot n c) new) (omega arith) (each 0 slot c refl refl)),
        left_so size (suc id) slots cs (mid slot size image new fits long new_long) new (slots_after size slot slots are) (omega (arith, many))
            ((outside slot size image new fits long new_long).size ∙ long)
            (rest slot size image new fits long new_long slots same)
            (λ i s k here there. subst (λ (n : ℕ). P (placed_in s n k) new) (omega arith) (each (suc i) s k here there)),
      )

-- each is closed, or has its container
pub left : (size id : ℕ) (slots : List ℕ) (filled : List Contents) (image new : List ℕ) → AreSlots size slots → length filled ≡ length slots → length image ≡ size
    → SameIn (NoSlot slots) image new
    → ((i slot : ℕ) (contents : Contents) → slice_get slots i ≡ Some slot → slice_get filled i ≡ Some contents → IsLeft (placed_in slot (id + i) contents) new)
    → AreLeftSo IsLeft (placed slots id filled) image new
left = left_so IsLeft left_there

-- each has its container
pub done : (size id : ℕ) (slots : List ℕ) (filled : List Contents) (image new : List ℕ) → AreSlots size slots → length filled ≡ length slots → length image ≡ size
    → SameIn (NoSlot slots) image new
    → ((i slot : ℕ) (contents : Contents) → slice_get slots i ≡ Some slot → slice_get filled i ≡ Some contents → IsThere (placed_in slot (id + i) contents) new)
    → AreLeftSo IsThere (placed slots id filled) image new
done = left_so IsThere container_there
