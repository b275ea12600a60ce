-- What an image is that `format` wrote to.
use Rattle.recovery.proofs.Prelude.{◌≢◌, inl, inr, ℕ, zero, suc, ◌+◌, ◌-◌, ◌<◌, ◌≤◌, List, [], ◌∷◌, length, drop, refl, sym, ◌∙◌, ap, arith, subst, Option, Some, None, eqb_tells, range, written, byte_at, length-written, length-zeros, byte-range, IsSlotCount, size_of, slot_at, cell_at, format_cell, CELL_BYTES, FIRST_SELECTOR, FORMAT_GATE, RECORD_GATE, CONTAINER_GATE, TornFrom, IsBlankOf, IsFormatted, byte-written, byte-written-before, IsBlankOrFormatted}
use Rattle.std.proofs.Common.{◌≡◌, add-one, option_map}
use Rattle.base_model.specs.Bytes.{zeros}
use Rattle.base_model.proofs.Ranges.{range-written, range-written-after}
use Rattle.disk_format.specs.Cells.{sealed, format_fields, selector_fields, selector_cell, first_selector}
use Rattle.disk_format.specs.declared.numbers.TheConstants.{FIRST_SLOT, SELECTOR_GATE}
use Rattle.disk_format.proofs.CellParts.{length-sealed, length-format_fields, length-selector_fields}
use Rattle.store_model.proofs.Empty.{formatted_holds}
use Rattle.base_model.proofs.ByteAt.{byte-zeros, byte-written-after}
use Rattle.recovery.specs.Formatting.{with_closed, laid_out}
use Rattle.recovery.proofs.Blank.{blank_torn}

-- the bytes of the selectors and of the journal
abbrev pub BLANKS : ℕ
BLANKS = FIRST_SLOT - FIRST_SELECTOR

pub length-format_cell : (slots : ℕ) → length (format_cell slots) ≡ CELL_BYTES
length-format_cell slots = length-sealed FORMAT_GATE (format_fields slots) (length-format_fields slots)

pub length-first_selector : length (selector_cell first_selector) ≡ CELL_BYTES
length-first_selector = length-sealed SELECTOR_GATE (selector_fields first_selector) (length-selector_fields first_selector)

-- the byte that a read of one byte gave
pub first_byte : (image gate : List ℕ) → range 0 1 image ≡ gate → byte_at 0 image ≡ byte_at 0 gate
first_byte image gate read = sym (byte-range 0 0 1 image (omega arith)) ∙ ap (byte_at 0) read

-- ---- what each write makes of the content

-- no slot is closed yet
pub none_closed : (content : Option (List ℕ)) → content ≡ option_map (with_closed zero) content
unfolding with_closed
none_closed None = refl
none_closed (Some old) = refl

-- one more is
pub more_closed : (slot : ℕ) (content mid : Option (List ℕ)) → mid ≡ option_map (with_closed slot) content →
    option_map (written (slot_at slot) (0 ∷ [])) mid ≡ option_map (with_closed (slot + 1)) content
unfolding with_closed
more_closed slot None mid is = ap (option_map (written (slot_at slot) (0 ∷ []))) is
more_closed slot (Some old) mid is = rw (add-one, is) refl

-- all but the format cell was written
pub laid_told : (slots : ℕ) (blanks selector : List ℕ) (content : Option (List ℕ)) → blanks ≡ zeros BLANKS → selector ≡ selector_cell first_selector
    → option_map (written FIRST_SELECTOR selector) (option_map (with_closed slots) (option_map (written FIRST_SELECTOR blanks) content)) ≡ option_map (laid_out slots) content
unfolding laid_out
laid_told slots blanks selector None blank is = refl
laid_told slots blanks selector (Some old) blank is = rw (blank, is) refl

-- ---- slots that are closed

-- closing slots keeps the size
pub length-closed : (slots : ℕ) (old : List ℕ) → size_of slots ≤ length old → length (with_closed slots old) ≡ length old
unfolding with_closed
length-closed zero old room = refl
length-closed (suc slot) old room =
    let before = length-closed slot old (omega (arith, room)) in
    length-written (slot_at slot) (0 ∷ []) (with_closed slot old) (omega (arith, before, room)) ∙ before

-- and each byte before them
pub byte-closed : (p slots : ℕ) (old : List ℕ) → size_of slots ≤ length old → p < FIRST_SLOT → byte_at p (with_closed slots old) ≡ byte_at p old
unfolding with_closed
byte-closed p zero old room before = refl
byte-closed p (suc slot) old room before =
    byte-written-before p (slot_at slot) (0 ∷ []) (with_closed slot old) (omega (arith, before)) (omega (arith, length-closed slot old (omega (arith, room)), room))
    ∙ byte-closed p slot old (omega (arith, room)) before

-- the first byte of each is 0
pub slot_closed : (slots slot : ℕ) (old : List ℕ) → size_of slots ≤ length old → slot < slots → byte_at (slot_at slot) (with_closed slots old) ≡ 0
unfolding with_closed
slot_closed zero slot old room within = absurd (omega arith)
slot_closed (suc last) slot old room within =
    let long : length (with_closed last old) ≡ length old = length-closed last old (omega (arith, room)) in
    let mid = with_closed last old in
    elim (eqb_tells slot last) [
      | inl same ↦ byte-written (slot_at slot) (slot_at last) 0 (0 ∷ []) mid (omega (arith, same.1)) (omega arith) (omega (arith, long, room))
      | inr other ↦ byte-written-before (slot_at slot) (slot_at last) (0 ∷ []) mid (omega (arith, other.1)) (omega (arith, long, room))
          ∙ slot_closed last slot old (omega (arith, room)) (omega (arith, other.1))
    ]

-- ---- the image

zero_closed : (byte gate : ℕ) → byte ≡ 0 → 0 < gate → byte ≢ gate
zero_closed byte gate is some opened = omega arith

gate_again : (gate : ℕ) (fields : List ℕ) → gate ∷ drop 1 (sealed gate fields) ≡ sealed gate fields
unfolding sealed
gate_again gate fields = refl

module _ (slots : ℕ) (old : List ℕ) (count : IsSlotCount slots) (sized : length old ≡ size_of slots) where
  abbrev blanked : List ℕ
  blanked = written FIRST_SELECTOR (zeros BLANKS) old

  abbrev closed : List ℕ
  closed = with_closed slots blanked

  room_of_zeros : 512 + length (zeros BLANKS) ≤ length old
  room_of_zeros = omega (arith, length-zeros BLANKS, sized, count.0)

  size_of_blanked : length blanked ≡ size_of slots
  size_of_blanked = length-written FIRST_SELECTOR (zeros BLANKS) old room_of_zeros ∙ sized

  size_of_closed : length closed ≡ size_of slots
  size_of_closed = length-closed slots blanked (omega (arith, size_of_blanked)) ∙ size_of_blanked

  room_of_selector : 512 + length (selector_cell first_selector) ≤ length closed
  room_of_selector = omega (arith, length-first_selector, size_of_closed)

  -- all but the format cell keeps the size
  pub size_of_laid : length (laid_out slots old) ≡ size_of slots
  unfolding laid_out
  size_of_laid = length-written FIRST_SELECTOR (selector_cell first_selector) closed room_of_selector ∙ size_of_closed

  abbrev formatted : List ℕ
  formatted = written 0 (format_cell slots) (laid_out slots old)

  room_of_cell : 0 + length (format_cell slots) ≤ length (laid_out slots old)
  room_of_cell = omega (arith, length-format_cell slots, size_of_laid)

  selector_there : range 512 512 formatted ≡ selector_cell first_selector
  unfolding laid_out
  selector_there =
      range-written-after 512 512 0 (format_cell slots) (laid_out slots old) (omega (arith, length-format_cell slots)) room_of_cell
      ∙ range-written FIRST_SELECTOR 512 (selector_cell first_selector) closed (omega (arith, size_of_closed)) length-first_selector

  -- after the first selector
  byte_after : (p : ℕ) → 1024 ≤ p → byte_at p formatted ≡ byte_at p closed
  unfolding laid_out
  byte_after p after =
      byte-written-after p 0 (format_cell slots) (laid_out slots old) (omega (arith, length-format_cell slots)) room_of_cell
      ∙ byte-written-after p 512 (selector_cell first_selector) closed (omega (arith, length-first_selector)) room_of_selector

  zero_there : (p : ℕ) → 1024 ≤ p → p < FIRST_SLOT → byte_at p formatted ≡ 0
  zero_there p after before =
      byte_after p after
      ∙ byte-closed p slots blanked (omega (arith, size_of_blanked)) before
      ∙ byte-written p 512 (p - 512) (zeros BLANKS) old (omega arith) (omega (arith, length-zeros BLANKS)) room_of_zeros
      ∙ byte-zeros (p - FIRST_SELECTOR) BLANKS (omega arith)

  slot_there : (slot : ℕ) → slot < slots → byte_at (slot_at slot) formatted ≡ 0
  slot_there slot within = byte_after (slot_at slot) (omega arith) ∙ slot_closed slots slot blanked (omega (arith, size_of_blanked)) within

  -- with the format cell it is an empty store
  pub is_formatted : IsFormatted slots (written 0 (format_cell slots) (laid_out slots old))
  is_formatted = formatted_holds slots formatted (record {
    count = count;
    size = length-written 0 (format_cell slots) (laid_out slots old) room_of_cell ∙ size_of_laid;
    format = range-written 0 512 (format_cell slots) (laid_out slots old) (omega (arith, size_of_laid)) (length-format_cell slots);
    selector = selector_there;
    other_selector = zero_closed (byte_at 1024 formatted) SELECTOR_GATE (zero_there 1024 (omega arith) (omega arith)) (omega arith);
    records = λ cell within. zero_closed (byte_at (cell_at 0 cell) formatted) RECORD_GATE (zero_there (cell_at 0 cell) (omega arith) (omega (arith, within))) (omega arith);
    containers = λ slot within. zero_closed (byte_at (slot_at slot) formatted) CONTAINER_GATE (slot_there slot within) (omega arith);
  })

  -- what the write of the format cell may leave of an image that is blank
  pub blank_or_formatted : (cell bytes before new : List ℕ) → cell ≡ format_cell slots → bytes ≡ laid_out slots old → IsBlankOf slots before → TornFrom 0 cell bytes before new →
      IsBlankOrFormatted slots new
  blank_or_formatted cell bytes before new spelled laid blank (inl torn) =
      inl (blank_torn slots 1 (length cell - 1) before new (omega arith) (omega (arith, ap length spelled, length-format_cell slots)) blank torn)
  blank_or_formatted cell bytes before new spelled laid blank (inr whole) =
      let stands : new ≡ written 0 (whole.0 ∷ drop 1 (format_cell slots)) (laid_out slots old) =
      whole.1 ∙ ap (λ (l : List ℕ). written 0 (whole.0 ∷ drop 1 l) bytes) spelled ∙ ap (written 0 (whole.0 ∷ drop 1 (format_cell slots))) laid in
      let long : length (whole.0 ∷ drop 1 (format_cell slots)) ≡ 512 = ap length (gate_again FORMAT_GATE (format_fields slots)) ∙ length-format_cell slots in
      elim (eqb_tells whole.0 FORMAT_GATE) [
        | inl same ↦ inr (subst (IsFormatted slots)
            (sym (stands ∙ ap (λ (gate : ℕ). written 0 (gate ∷ drop 1 (format_cell slots)) (laid_out slots old)) same.1 ∙ ap (λ (l : List ℕ). written 0 l (laid_out slots old))
            (gate_again FORMAT_GATE (format_fields slots)))) is_formatted)
        | inr other ↦ inl (record {
          count = count;
          size = ap length stands ∙ length-written 0 (whole.0 ∷ drop 1 (format_cell slots)) (laid_out slots old) (omega (arith, long, size_of_laid)) ∙ size_of_laid;
          closed = λ opened. other.1 (sym
              (ap (byte_at 0) stands ∙ byte-written 0 0 0 (whole.0 ∷ drop 1 (format_cell slots)) (laid_out slots old) (omega arith) (omega (arith, long))
              (omega (arith, long, size_of_laid))) ∙ opened);
        })
      ]
