-- What is left where bodies of containers are written and then their gates, by what the slots hold.
use Rattle.std.proofs.Common.{◌≡◌, ◌⊎◌, inl, inr, ℕ, ◌+◌, ◌≤◌, ◌==◌, List, [], ◌∷◌, ◌++◌, length, drop, slice_get, true, false, Some, None, refl, sym, ◌∙◌, ap, arith}
use Rattle.std.proofs.lemmas.Bool.{cases_lt, eqb-true, eqb-false, leb-true}
use Rattle.std.proofs.lemmas.List.Sums.{sum_by-append}
use Rattle.std.proofs.lemmas.Option.{slice_get_within}
use Rattle.base_model.specs.Bytes.{range, byte_at}
use Rattle.base_model.proofs.ByteAt.{byte_of_range}
use Rattle.base_model.proofs.Checks.{both}
use Rattle.base_model.proofs.Ranges.{byte-range, range-join, range-one, range-range}
use Rattle.disk_format.specs.declared.numbers.TheConstants.{CONTAINER_GATE, SLOT_BYTES, HEADER_BYTES}
use Rattle.disk_format.specs.Layout.{slot_at, data_at}
use Rattle.dd_disk.specs.Ending.{Ending, Done, Broken}
use Rattle.dd_disk.specs.View.{DiskView}
use Rattle.dd_disk.specs.Writes.{Writes}
use Rattle.dd_disk.specs.Wrote.{SameIn}
use Rattle.dd_disk.proofs.Writes.{IsUnrefused, writes_on, writes_stopped}
use Rattle.dd_disk.proofs.Wrote.{same_in_on}
use Rattle.container_meta.specs.declared.kind.Kind.{Kind}
use Rattle.container_meta.specs.Segments.{Contents, Segment, StandFrom, bytes_in}
use Rattle.container_meta.specs.Spelling.{IsHeader, header_of, header_size, front_spelling}
use Rattle.container_meta.proofs.Again.{header_fits}
use Rattle.store_model.specs.Slots.{HoldsSlot, HoldsContainer, StandAt}
use Rattle.container_log.specs.Many.{AreSlots, NoSlot, NoBody, NoGate, IsSlotOf, HasBody, HaveBodies, HaveGates, SealsAll, AreSealed, spelling_of}

-- ---- one slot, by its bytes

-- the bytes of the segments after the first
pub bytes_in-cons : (s : Segment) (ss : List Segment) → bytes_in (s ∷ ss) ≡ length s.bytes + bytes_in ss
bytes_in-cons s ss = omega (arith, sum_by-append (λ (x : Segment). length x.bytes) (s ∷ []) ss)

pub few_bytes : (id : ℕ) (kind : Kind) (segments : List Segment) → IsHeader (header_of id kind segments) → bytes_in segments ≤ 212480
few_bytes id kind segments right = leb-true (bytes_in segments) 212480 (both _ _ right.data_length).1

-- segments stand on the disk where they stand in the slot's bytes
stand_at : (offset at place : ℕ) (segments : List Segment) (cell image : List ℕ) → range at SLOT_BYTES image ≡ cell → place ≡ at + (HEADER_BYTES + offset) →
    HEADER_BYTES + offset + bytes_in segments ≤ SLOT_BYTES
    → StandFrom offset segments cell → StandAt place segments image
stand_at offset at place [] cell image stands there fits stored = tt
stand_at offset at place (s ∷ ss) cell image stands there fits stored = (
  ap (λ (p : ℕ). range p (length s.bytes) image) there
      ∙ sym (range-range (HEADER_BYTES + offset) (length s.bytes) at SLOT_BYTES image (omega (arith, fits, bytes_in-cons s ss)))
      ∙ ap (range (HEADER_BYTES + offset) (length s.bytes)) stands
      ∙ stored.0,
  stand_at (offset + length s.bytes) at (place + length s.bytes) ss cell image stands (omega (arith, there)) (omega (arith, fits, bytes_in-cons s ss)) stored.1,
)

-- a list begins with its first byte
first_of : (cell : List ℕ) → 1 ≤ length cell → byte_at 0 cell ∷ drop 1 cell ≡ cell
first_of [] some = absurd (omega (arith, some))
first_of (b ∷ cell) some = refl

module _ (slot id : ℕ) (kind : Kind) (segments : List Segment) (cell image : List ℕ) (is : IsSlotOf id kind segments cell) where
  gate : byte_at 0 cell ≡ CONTAINER_GATE
  unfolding front_spelling
  gate = sym (byte-range 0 0 (header_size (header_of id kind segments)) cell (omega arith)) ∙ ap (byte_at 0) is.header.1

  -- where the body and the gate of a container stand, all of it does
  stands_whole : slot_at slot + SLOT_BYTES ≤ length image → range (slot_at slot + 1) 262143 image ≡ drop 1 cell → byte_at (slot_at slot) image ≡ CONTAINER_GATE
      → range (slot_at slot) SLOT_BYTES image ≡ cell
  stands_whole fits body opened =
      let at : ℕ = slot_at slot in
      sym (range-join at 1 262143 (at + 1) image refl)
      ∙ ap (λ (l : List ℕ). l ++ range (at + 1) 262143 image) (range-one at image (omega (arith, fits)) ∙ ap (λ (b : ℕ). b ∷ []) (opened ∙ sym gate))
      ∙ ap (λ (l : List ℕ). byte_at 0 cell ∷ l) body
      ∙ first_of cell (omega (arith, is.size))

  -- where all of the bytes stand, the slot has the container
  holds : range (slot_at slot) SLOT_BYTES image ≡ cell → HoldsContainer image slot id kind segments
  holds stands =
      let size : ℕ = header_size (header_of id kind segments) in
      let at : slot_at slot + 0 ≡ slot_at slot = omega arith in
      record {
        header = (
          is.header.0,
          ap (λ (p : ℕ). range p size image) (sym at)
              ∙ sym (range-range 0 size (slot_at slot) SLOT_BYTES image (omega (arith, header_fits (header_of id kind segments) is.header.0)))
              ∙ ap (range 0 size) stands
              ∙ is.header.1,
        );
        bytes = stand_at 0 (slot_at slot) (data_at slot) segments cell image stands (omega arith) (omega (arith, few_bytes id kind segments is.header.0)) is.stored;
      }

-- ---- the slots

-- no slot is less than no body, and less than no gate
slot_body : (slots : List ℕ) (old new : List ℕ) → SameIn (NoBody slots) old new → SameIn (NoSlot slots) old new
slot_body slots old new same = record {
  size = same.size;
  same = λ at count out. same.same at count (λ i slot here. elim (out i slot here) [ inl before ↦ inl (omega (arith, before)) | inr after ↦ inr (omega (arith, after)) ]);
}

slot_gate : (slots : List ℕ) (old new : List ℕ) → SameIn (NoGate slots) old new → SameIn (NoSlot slots) old new
slot_gate slots old new same = record {
  size = same.size;
  same = λ at count out. same.same at count (λ i slot here. elim (out i slot here) [ inl before ↦ inl (omega (arith, before)) | inr after ↦ inr (omega (arith, after)) ]);
}

-- where bodies are being written gates stay
gate_still : (slots : List ℕ) (old new : List ℕ) → SameIn (NoBody slots) old new → (slot : ℕ) → byte_at (slot_at slot) new ≡ byte_at (slot_at slot) old
gate_still slots old new same slot =
    byte_of_range (slot_at slot) old new (same.same (slot_at slot) 1
    (λ i other here. elim (cases_lt other slot) [ inl before ↦ inr (omega (arith, before)) | inr past ↦ inl (omega (arith, past)) ]))

-- where gates are being written bodies stay
pub bytes_still : (slots : List ℕ) (old new : List ℕ) → SameIn (NoGate slots) old new → (slot count : ℕ) → count ≤ 262143 →
    range (slot_at slot + 1) count new ≡ range (slot_at slot + 1) count old
bytes_still slots old new same slot count few =
    same.same (slot_at slot + 1) count (λ i other here. elim (cases_lt slot other) [ inl before ↦ inl (omega (arith, before, few)) | inr past ↦ inr (omega (arith, past)) ])

-- a slot whose gate may be any byte
pub by_gate : (X : Type 0) (slot : ℕ) (image : List ℕ) → (byte_at (slot_at slot) image ≡ CONTAINER_GATE → X) → HoldsSlot image slot None ⊎ X
by_gate X slot image opened = elim (byte_at (slot_at slot) image == CONTAINER_GATE) as (λ b. (byte_at (slot_at slot) image == CONTAINER_GATE) ≡ b → HoldsSlot image slot None ⊎ X) [
  | true ↦ λ is. inr (opened (eqb-true (byte_at (slot_at slot) image) CONTAINER_GATE is))
  | false ↦ λ closed. inl (λ is. eqb-false (byte_at (slot_at slot) image) CONTAINER_GATE closed is)
] refl

module _ (size : ℕ) (slots : List ℕ) (id : ℕ) (filled : List Contents) (are : AreSlots size slots) where
  -- bodies are being written
  bodies_step : (given d c : List ℕ) → SameIn (NoBody slots) d c → SealsAll slots id filled given d c
  bodies_step given d c same = inl (slot_body slots d c same, λ i slot here closed opened. closed (sym (gate_still slots d c same slot) ∙ opened))

  module _ (given m c : List ℕ) (long : length given ≡ size) (part : HaveBodies (length slots) slots id filled given m) (same : SameIn (NoGate slots) m c) where
    all_same : SameIn (NoSlot slots) given c
    all_same = same_in_on (NoSlot slots) given m c (slot_body slots given m part.rest) (slot_gate slots m c same)

    -- a slot whose gate stands
    module _ (i slot : ℕ) (contents : Contents) (here : slice_get slots i ≡ Some slot) (there : slice_get filled i ≡ Some contents)
        (opened : byte_at (slot_at slot) c ≡ CONTAINER_GATE) where
      body : HasBody m slot (id + i) contents
      body = part.each i slot contents (slice_get_within slots i slot here) here there

      whole : range (slot_at slot) SLOT_BYTES c ≡ spelling_of (id + i) contents
      whole =
          stands_whole slot (id + i) contents.kind contents.segments (spelling_of (id + i) contents) c body.is (omega (arith, are.within i slot here, long, all_same.size))
          (bytes_still slots m c same slot 262143 (omega arith) ∙ body.stands) opened

      container : HoldsContainer c slot (id + i) contents.kind contents.segments
      container = holds slot (id + i) contents.kind contents.segments (spelling_of (id + i) contents) c body.is whole

    -- gates are being written
    gates_step : SealsAll slots id filled given given c
    gates_step =
        inr (all_same, λ i slot contents here there. by_gate (HoldsContainer c slot (id + i) contents.kind contents.segments) slot c (container i slot contents here there))

    -- all are written
    gates_whole : HaveGates CONTAINER_GATE (length slots) slots m c → AreSealed slots id filled given c
    gates_whole opened =
        let gates : (i slot : ℕ) → slice_get slots i ≡ Some slot → byte_at (slot_at slot) c ≡ CONTAINER_GATE =
        λ i slot here. opened.each i slot (slice_get_within slots i slot here) here in
        record {
          rest = all_same;
          each = λ i slot contents here there. container i slot contents here there (gates i slot here);
          whole = λ i slot contents here there. whole i slot contents here there (gates i slot here);
        }

  -- the bodies alone
  pub bodies_broken : (old new : DiskView) → Writes (λ _. SameIn (NoBody slots)) (HaveBodies (length slots) slots id filled) Broken old new
      → Writes (SealsAll slots id filled) (AreSealed slots id filled) Broken old new
  bodies_broken old new writes =
      writes_stopped (λ _. SameIn (NoBody slots)) (SealsAll slots id filled) (HaveBodies (length slots) slots id filled) (AreSealed slots id filled) old new
      (λ given d c known image same. bodies_step given d c same) writes

  -- the bodies, and then the gates
  pub writes_together : (e : Ending) (old mid new : DiskView) → old.size ≡ size → IsUnrefused e
      → Writes (λ _. SameIn (NoBody slots)) (HaveBodies (length slots) slots id filled) Done old mid
      → Writes (λ _. SameIn (NoGate slots)) (HaveGates CONTAINER_GATE (length slots) slots) e mid new
      → Writes (SealsAll slots id filled) (AreSealed slots id filled) e old new
  writes_together e old mid new size_is un first second =
      writes_on (λ _. SameIn (NoBody slots)) (λ _. SameIn (NoGate slots)) (SealsAll slots id filled)
      (HaveBodies (length slots) slots id filled) (HaveGates CONTAINER_GATE (length slots) slots) (AreSealed slots id filled) old mid new first
      (λ given m c known part gates. gates_whole given m c (old.sized given known ∙ size_is) part gates.rest gates)
      e un second
      (λ given d c known same. bodies_step given d c same)
      (λ given m c known part same. gates_step given m c (old.sized given known ∙ size_is) part same)
