-- What is found on an image is less than a count can hold.
use Rattle.recovery.proofs.Prelude.{ℕ, zero, suc, ◌+◌, ◌*◌, ◌-◌, ◌^◌, ◌≤◌, ◌<◌, Bool, true, false, cond, List, [], ◌∷◌, ◌++◌, length, Option, None, Some, Result, Ok, Err, refl, ap, arith, length-append, leb-true, range, byte_at, w64, HeaderValue, CONTAINER_GATE, RECORD_GATE, cell_at, slot_at, Found, nothing, and_then, cell_with, Damage, Counts, Tally, image_found, nothing_counted, AreCounted}
use Rattle.std.proofs.Common.{◌≡◌, ◌==◌, nat_le}
use Rattle.std.specs.Option.{option_to_list}
use Rattle.base_model.specs.Checks.{checked, passes, ◌>>=◌}
use Rattle.base_model.specs.Numbers.{number_at}
use Rattle.std.specs.Int.{w32}
use Rattle.base_model.proofs.Checks.{bind_ok, both, checked_ok, ok_is}
use Rattle.container_meta.specs.declared.entry.Entry.{Entry}
use Rattle.container_meta.specs.declared.fault.MetaFault.{MetaFault}
use Rattle.container_meta.specs.declared.kind.Kind.{Kind}
use Rattle.container_meta.specs.Reading.{count_at, digest_checks, entries_at, field_checks, header_at, kind_at, next_read, opening_checks}
use Rattle.container_log.specs.Inspecting.{copies_found, copy_found, header_damage, header_found, id_damage, ids_with, slot_bytes, slot_found, slots_found}
use Rattle.disk_format.specs.Cells.{SelectorValue}
use Rattle.disk_format.specs.Layout.{half_cells, selector_at}
use Rattle.inspection.specs.Found.{copy_with, only_damage}
use Rattle.journal_cells.specs.Inspecting.{after_cell, damage_in, damage_of, first_past, half_found, is_open, journal_found, none_open, past_found, records_found, right_one, says_half, selector_found, selectors_found}
use Rattle.journal_cells.specs.Records.{Replay, first_open, nothing_yet, open_cell, record_in}
use Rattle.journal_cells.specs.Heads.{selector_in, selectors_in}

-- all three counts together
abbrev weight : Found → ℕ
weight f = f.cells + f.copies + length f.damages

few_damages : (d : Option Damage) → length (option_to_list d) ≤ 1
few_damages None = omega arith
few_damages (Some d) = omega arith

one_cell : (d : Option Damage) → weight (cell_with d) ≤ 2
one_cell d = omega (arith, few_damages d)

one_copy : (d : Option Damage) → weight (copy_with d) ≤ 2
one_copy d = omega (arith, few_damages d)

one_damage : (d : Option Damage) → weight (only_damage d) ≤ 1
one_damage d = omega (arith, few_damages d)

together : (f g : Found) → weight (and_then f g) ≡ weight f + weight g
together f g = omega (arith, length-append f.damages g.damages)

either : (b : Bool) (f g : Found) (n : ℕ) → weight f ≤ n → weight g ≤ n → weight (cond b f g) ≤ n
either true f g n p q = p
either false f g n p q = q

-- ---- the journal

selector_small : (half : ℕ) (before : Option SelectorValue) (cell : List ℕ) → weight (selector_found half before cell) ≤ 2
unfolding selector_found
selector_small half before cell = either (is_open cell) (cell_with _) nothing 2 (one_cell _) (omega arith)

selectors_small : (first second : List ℕ) → weight (selectors_found first second) ≤ 5
unfolding selectors_found
selectors_small first second =
    let one = selector_small 0 None first in
    let other = selector_small 1 (right_one (selector_in 0 None first)) second in
    let last = one_damage (none_open first second) in
    omega (
      arith,
      one,
      other,
      last,
      together (selector_found 0 None first) (and_then (selector_found 1 (right_one (selector_in 0 None first)) second) (only_damage (none_open first second))),
      together (selector_found 1 (right_one (selector_in 0 None first)) second) (only_damage (none_open first second)),
    )

first_small : (half : ℕ) (found : Option ℕ) → weight (first_past half found) ≤ 2
first_small half None = omega arith
first_small half (Some cell) = one_cell (damage_of (cell_at half cell) (open_cell half cell))

past_small : (half : ℕ) (counts : Bool) (count : ℕ) (image : List ℕ) → weight (past_found half counts count image) ≤ 2
unfolding past_found
past_small half true count image = first_small half (first_open half (half_cells - count) count image)
past_small half false count image = omega arith

records_small : (half : ℕ) (counts : Bool) (left : ℕ) (replay : Replay) (image : List ℕ) → weight (records_found half counts left replay image) ≤ 2 * left + 2
unfolding records_found
records_small half counts zero replay image = past_small half counts replay.count image
records_small half counts (suc left) replay image =
    let at = cell_at half replay.count in
    let cell = range at 512 image in
    let damage = damage_in at (record_in at replay.previous replay.names cell) in
    let rest = records_small half counts left (after_cell at replay cell) image in
    either (byte_at at image == RECORD_GATE) (and_then (cell_with damage) (records_found half counts left (after_cell at replay cell) image))
    (past_found half counts replay.count image) (2 * suc left + 2)
    (omega (arith, rest, one_cell damage, together (cell_with damage) (records_found half counts left (after_cell at replay cell) image)))
    (omega (arith, past_small half counts replay.count image))

half_small : (half : ℕ) (selector : List ℕ) (counts : Bool) (image : List ℕ) → weight (half_found half selector counts image) ≤ 2050
unfolding half_found
half_small half selector counts image = either (is_open selector) (records_found half counts half_cells nothing_yet image) nothing 2050
    (records_small half counts half_cells nothing_yet image) (omega arith)

journal_small : (image : List ℕ) → weight (journal_found image) ≤ 4105
unfolding journal_found
journal_small image =
    let first = range (selector_at 0) 512 image in
    let second = range (selector_at 1) 512 image in
    let said = selectors_in first second in
    let one = half_found 0 first (says_half 0 said) image in
    let other = half_found 1 second (says_half 1 said) image in
    omega (
      arith,
      selectors_small first second,
      half_small 0 first (says_half 0 said) image,
      half_small 1 second (says_half 1 said) image,
      together (selectors_found first second)
          (and_then one other),
      together one other,
    )

-- ---- slots

entries_long : (kind : Kind) (data_length n : ℕ) (before all : List Entry) (bytes : List ℕ) → entries_at kind data_length n before bytes ≡ Ok all → length all ≡ length before + n
unfolding entries_at
entries_long kind data_length zero before all bytes e = omega (arith, ap length (ok_is {F = MetaFault} before all e))
entries_long kind data_length (suc n) before all bytes e =
    let step = bind_ok (next_read kind data_length n before bytes) (λ (x : Entry). entries_at kind data_length n (before ++ x ∷ []) bytes) all e in
    omega (arith, entries_long kind data_length n (before ++ step.0 ∷ []) all bytes step.2, length-append before (step.0 ∷ []))

value : List ℕ → Kind → List Entry → HeaderValue
value bytes kind entries = record { id = number_at w64 8 bytes; kind = kind; data_length = number_at w32 20 bytes; entries = entries }

at_end : List ℕ → Kind → List Entry → Result HeaderValue MetaFault
at_end bytes kind entries = Ok (value bytes kind entries)

at_entries : List ℕ → ℕ → Kind → Result HeaderValue MetaFault
at_entries bytes count kind = entries_at kind (number_at w32 20 bytes) count [] bytes >>= at_end bytes kind

at_fields : List ℕ → ℕ → Unit {0} → Result HeaderValue MetaFault
at_fields bytes count u = checked (field_checks bytes) (kind_at bytes) >>= at_entries bytes count

at_digest : List ℕ → ℕ → Result HeaderValue MetaFault
at_digest bytes count = passes (digest_checks bytes) >>= at_fields bytes count

header_few : (bytes : List ℕ) (h : HeaderValue) → header_at bytes ≡ Ok h → length h.entries ≤ 1024
unfolding header_at value at_end at_entries at_fields at_digest
header_few bytes h e =
    let a = bind_ok (checked (opening_checks bytes) (count_at bytes)) (at_digest bytes) h e in
    let b = bind_ok (passes (digest_checks bytes)) (at_fields bytes a.0) h a.2 in
    let d = bind_ok (checked (field_checks bytes) (kind_at bytes)) (at_entries bytes a.0) h b.2 in
    let f = bind_ok (entries_at d.0 (number_at w32 20 bytes) a.0 [] bytes) (at_end bytes d.0) h d.2 in
    let same : f.0 ≡ h.entries = ap (λ (v : HeaderValue). v.entries) (ok_is {F = MetaFault} (value bytes d.0 f.0) h f.2) in
    let opened = checked_ok (opening_checks bytes) (count_at bytes) a.0 a.1 in
    let few : count_at bytes ≤ 1024 = leb-true (count_at bytes) 1024 (both (nat_le 1 (count_at bytes)) (nat_le (count_at bytes) 1024) opened.0.1.1.0).1 in
    omega (arith, few, opened.1, entries_long d.0 (number_at w32 20 bytes) a.0 [] f.0 bytes f.1, ap length same)

copies_small : (slot : ℕ) (entries : List Entry) (bytes : List ℕ) → weight (copies_found slot entries bytes) ≤ 2 * length entries
unfolding copies_found
copies_small slot [] bytes = omega arith
copies_small slot (e ∷ es) bytes =
    let here : weight (copy_found slot e bytes) ≤ 2 = one_copy _ in
    omega (arith, here, copies_small slot es bytes, together (copy_found slot e bytes) (copies_found slot es bytes))

header_small : (slot : ℕ) (ids bytes : List ℕ) (r : Result HeaderValue MetaFault) → ((h : HeaderValue) → r ≡ Ok h → length h.entries ≤ 1024) →
    weight (header_found slot ids bytes r) ≤ 2050
header_small slot ids bytes (Ok h) few =
    omega (
      arith,
      few h refl,
      one_cell (id_damage slot ids h.id),
      copies_small slot h.entries bytes,
      together (cell_with (id_damage slot ids h.id))
          (copies_found slot h.entries bytes),
    )
header_small slot ids bytes (Err fault) few = omega (arith, one_cell (header_damage slot bytes fault))

slot_small : (slot : ℕ) (ids bytes : List ℕ) → weight (slot_found slot ids bytes) ≤ 2050
unfolding slot_found
slot_small slot ids bytes = header_small slot ids bytes (header_at bytes) (header_few bytes)

slots_small : (left slot : ℕ) (ids image : List ℕ) → weight (slots_found left slot ids image) ≤ 2050 * left
unfolding slots_found
slots_small zero slot ids image = omega arith
slots_small (suc left) slot ids image =
    let bytes = slot_bytes slot image in
    let rest = slots_small left (suc slot) (ids_with ids (header_at bytes)) image in
    either (byte_at (slot_at slot) image == CONTAINER_GATE) (and_then (slot_found slot ids bytes) (slots_found left (suc slot) (ids_with ids (header_at bytes)) image))
    (slots_found left (suc slot) ids image) (2050 * suc left)
    (omega (arith, rest, slot_small slot ids bytes, together (slot_found slot ids bytes) (slots_found left (suc slot) (ids_with ids (header_at bytes)) image)))
    (omega (arith, slots_small left (suc slot) ids image))

pub image_small : (slots : ℕ) (image : List ℕ) → slots ≤ 65536 → weight (image_found slots image) < 2 ^ 64 - 1
image_small slots image few =
    let journal = journal_found image in
    let rest = slots_found slots 0 [] image in
    omega (arith, few, one_cell None, journal_small image, slots_small slots 0 [] image, together (cell_with None) (and_then journal rest), together journal rest)

-- counts from nothing on are what was found
pub exact_counts : (found : Found) (tally : Tally) → weight found < 2 ^ 64 - 1 → Counts found nothing_counted tally → AreCounted found tally
exact_counts found tally small counts = record {
  cells = omega (arith, small, counts.cells (omega arith));
  copies = omega (arith, small, counts.copies (omega arith));
  bad = omega (arith, small, counts.bad (omega arith));
}
