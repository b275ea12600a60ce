-- What writes of gates leave, by what the slots hold.
use Rattle.std.proofs.Common.{◌≡◌, ℕ, ◌+◌, ◌*◌, ◌≤◌, List, [], ◌∷◌, ◌++◌, length, Some, refl, sym, ◌∙◌, ap, arith}
use Rattle.base_model.specs.Bytes.{range, byte_at}
use Rattle.base_model.proofs.Ranges.{byte-range, range-join, range-one}
use Rattle.disk_format.specs.declared.numbers.TheConstants.{CONTAINER_GATE, SLOT_BYTES}
use Rattle.disk_format.specs.Layout.{slot_at}
use Rattle.dd_disk.specs.Ending.{Ending}
use Rattle.dd_disk.specs.View.{DiskView}
use Rattle.dd_disk.specs.Writes.{Writes}
use Rattle.dd_disk.specs.Wrote.{SameIn}
use Rattle.dd_disk.proofs.Writes.{writes_weaker}
use Rattle.container_meta.specs.Spelling.{HeaderValue, header_size, front_spelling}
use Rattle.container_meta.proofs.Again.{header_fits}
use Rattle.store_model.specs.Slots.{HoldsSlot}
use Rattle.container_log.specs.Many.{AreApart, NoGate, HaveGates, FreesAll, AreFreed}
use Rattle.container_log.proofs.Sealing.{bytes_still, by_gate}

-- with its gate a header stands as it did
pub header_still : (slots : List ℕ) (old new : List ℕ) (slot : ℕ) (h : HeaderValue) → slot_at slot + SLOT_BYTES ≤ length old → SameIn (NoGate slots) old new →
    HoldsSlot old slot (Some h) → byte_at (slot_at slot) new ≡ CONTAINER_GATE → HoldsSlot new slot (Some h)
unfolding front_spelling
header_still slots old new slot h fits same held opened =
    let at = slot_at slot in
    let rest = 511 + 48 * length h.entries in
    let parts : header_size h ≡ 1 + rest = omega arith in
    let was : byte_at at old ≡ CONTAINER_GATE = ap (λ (p : ℕ). byte_at p old) (omega arith) ∙ sym (byte-range 0 at (header_size h) old (omega arith)) ∙ ap (byte_at 0) held.1 in
    let first : range at 1 new ≡ range at 1 old =
    range-one at new (omega (arith, fits, same.size)) ∙ ap (λ (b : ℕ). b ∷ []) (opened ∙ sym was) ∙ sym (range-one at old (omega (arith, fits))) in (
      held.0,
      ap (λ (n : ℕ). range at n new) parts
          ∙ sym (range-join at 1 rest (at + 1) new refl)
          ∙ ap (λ (l : List ℕ). l ++ range (at + 1) rest new) first
          ∙ ap (λ (l : List ℕ). range at 1 old ++ l) (bytes_still slots old new same slot rest (omega (arith, parts, header_fits h held.0)))
          ∙ range-join at 1 rest (at + 1) old refl
          ∙ ap (λ (n : ℕ). range at n old) (sym parts)
          ∙ held.1,
    )

pub writes_freed : (slots : List ℕ) (e : Ending) (old new : DiskView) → AreApart old.size slots → Writes (λ _. SameIn (NoGate slots)) (HaveGates 0 (length slots) slots) e old new
    → Writes (λ _. FreesAll slots) (AreFreed slots) e old new
writes_freed slots e old new are writes =
    writes_weaker (λ _. SameIn (NoGate slots)) (λ _. FreesAll slots) (HaveGates 0 (length slots) slots) (AreFreed slots) old new (λ given c known part. part) e
    (λ given d c known image same. (
      same,
      λ i slot h here held. by_gate (HoldsSlot c slot (Some h)) slot c (header_still slots d c slot h (omega (arith, are.within i slot here, old.image_sized d image)) same held),
    ))
    writes
