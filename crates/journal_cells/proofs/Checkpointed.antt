-- What a checkpoint leaves: the journal that stood, or the new one.
use Rattle.journal_cells.proofs.Prelude.{◌≡◌, ◌≢◌, ◌⊎◌, inl, inr, ℕ, zero, suc, ◌+◌, ◌-◌, ◌*◌, ◌≤◌, ◌<◌, Bool, true, false, List, [], ◌∷◌, ◌++◌, length, refl, sym, ap, subst, ◌∙◌, arith, rules, length-append, append_assoc, eqb-true, eqb-false, byte_at, SameOutside, byte-written, same_written, byte_after, range-first, range-join, range-one, range-range, range-second, range-whole, range-written, CELL_BYTES, HALF_BYTES, SELECTOR_GATE, RecordValue, SelectorValue, IsRecord, IsSelector, record_cell, selector_cell, least_size, selector_at, cell_at, half_cells, CellTorn, DiskView, Ending, Torn, Writes, same_cell, writes_weaker, NameMap, names_with, names_after, puts_of, HoldsJournal, HoldsSelector, IsOlder, KnowsOther, Follow, StandFrom, ClosedFrom, last_of, FreshHalf, cells_of, IsFreshHalf, cells_filled, half_filled, gate_closed, replaced, Replaces, JournalValue, IsTold}
use Rattle.std.proofs.Common.{◌==◌}
use Rattle.std.specs.Prelude.{IsTrue}
use Rattle.std.specs.List.{AllByRecursion}
use Rattle.std.specs.FinMap as finite
use Rattle.base_model.specs.Bytes.{range, written}
use Rattle.base_model.proofs.ByteAt.{byte_of_range, byte-written-after, byte-zeros}
use Rattle.base_model.proofs.Ranges.{length-written}
use Rattle.dd_disk.proofs.Outside.{cell_cases}
use Rattle.store_model.proofs.Puts.{puts_follow, puts_leave, puts_last, puts_room, last_below}
use Rattle.store_model.proofs.Spellings.{gate_of_selector}
use Rattle.journal_cells.specs.Checkpoints.{checkpointed, next_selector, IsFoundIn, SameButHalf, HoldsStill, StaysFound, HasMoved, StaysOrMoves, Checkpoints, IsCheckpointed}
use Rattle.journal_cells.proofs.Appended.{length_record_cell}
use Rattle.journal_cells.proofs.Scanned.{gate_read}

not_false : IsTrue false → ⊥
not_false is = cc

-- ---- frames

pub which : (half : ℕ) → half ≤ 1 → (half ≡ 0) ⊎ (half ≡ 1)
which zero low = inl refl
which (suc zero) low = inr refl
which (suc (suc n)) low = absurd (omega (arith, low))

module _ (half : ℕ) where
  from_selector : (n : ℕ) (old new : List ℕ) → n ≤ CELL_BYTES → SameOutside (selector_at half) n old new → SameButHalf half old new
  from_selector n old new within same = record {
    size = same.size;
    same = λ p count outside apart. elim outside [ inl before ↦ same.before p count before | inr after ↦ same.after p count (omega (arith, after, within)) ];
  }

  from_half : (n : ℕ) (old new : List ℕ) → n ≤ HALF_BYTES → SameOutside (cell_at half 0) n old new → SameButHalf half old new
  from_half n old new within same = record {
    size = same.size;
    same = λ p count outside apart. elim apart [ inl before ↦ same.before p count before | inr after ↦ same.after p count (omega (arith, after, within)) ];
  }

  same_on : (old mid new : List ℕ) → SameButHalf half old mid → SameButHalf half mid new → SameButHalf half old new
  same_on old mid new first second = record {
    size = second.size ∙ first.size;
    same = λ p count outside apart. second.same p count outside apart ∙ first.same p count outside apart;
  }

  same_here : (old : List ℕ) → SameButHalf half old old
  same_here old = record { size = refl; same = λ p count outside apart. refl }

-- what stays of the half that counts, and of its selector
module _ (half : ℕ) (low : half ≤ 1) (old new : List ℕ) (same : SameButHalf (1 - half) old new) where
  own_selector : range (selector_at half) 512 new ≡ range (selector_at half) 512 old
  own_selector =
      same.same (selector_at half) 512 (elim (which half low) [ inl first ↦ inl (omega (arith, first)) | inr second ↦ inr (omega (arith, second)) ]) (inl (omega (arith, low)))

  own_cell : (cell n : ℕ) → cell < half_cells → n ≤ 512 → range (cell_at half cell) n new ≡ range (cell_at half cell) n old
  own_cell cell n within short =
      same.same (cell_at half cell) n (inr (omega (arith, low)))
      (elim (which half low) [ inl first ↦ inl (omega (arith, first, within, short)) | inr second ↦ inr (omega (arith, second)) ])

  own_gate : (cell : ℕ) → cell < half_cells → byte_at (cell_at half cell) new ≡ byte_at (cell_at half cell) old
  own_gate cell within = byte_of_range (cell_at half cell) old new (own_cell cell 1 within (omega arith))

  own_records : (cell : ℕ) (rs : List RecordValue) → cell + length rs ≤ half_cells → StandFrom half cell rs old → StandFrom half cell rs new
  own_records cell [] few stands = tt
  own_records cell (r ∷ rs) few stands = (own_cell cell 512 (omega (arith, few)) (omega arith) ∙ stands.0, own_records (cell + 1) rs (omega (arith, few)) stands.1)

-- the journal, where the other selector doesn't count
journal_kept : (selector : SelectorValue) (records : List RecordValue) (old new : List ℕ) → SameButHalf (1 - selector.half) old new → HoldsJournal old selector records →
    IsOlder new selector → HoldsJournal new selector records
journal_kept selector records old new same holds older =
    let low = holds.selector_is.0.half in
    let is = holds.records_are in
    record {
      selector_is = (holds.selector_is.0, own_selector selector.half low old new same ∙ holds.selector_is.1);
      older = older;
      records_are = record {
        few = is.few;
        right = is.right;
        stand = own_records selector.half low old new same 0 records (omega (arith, is.few)) is.stand;
        closed = λ cell from within opened. is.closed cell from within (sym (own_gate selector.half low old new same cell within) ∙ opened);
      };
    }

-- ---- the other selector's gate

-- torn where it was open
older_torn : (selector : SelectorValue) (old new : List ℕ) → least_size ≤ length old → selector.half ≤ 1 → SameOutside (selector_at (1 - selector.half)) 1 old new
    → byte_at (selector_at (1 - selector.half)) old ≡ SELECTOR_GATE → IsOlder old selector → IsOlder new selector
older_torn selector old new fits low same opened (inl closed) = absurd (closed opened)
older_torn selector old new fits low same opened (inr (t, half, holds, lower)) =
    let at : ℕ = selector_at (1 - selector.half) in
    elim (byte_at at new == SELECTOR_GATE) as (λ b. (byte_at at new == SELECTOR_GATE) ≡ b → IsOlder new selector) [
      | true ↦ λ still.
          let gate : range at 1 new ≡ range at 1 old =
          range-one at new (omega (arith, same.size, fits)) ∙ ap (λ (n : ℕ). n ∷ []) (eqb-true (byte_at at new) SELECTOR_GATE still ∙ sym opened)
          ∙ sym (range-one at old (omega (arith, fits))) in
          let whole : range at 512 new ≡ range at 512 old =
          sym (range-join at 1 511 (at + 1) new refl) ∙ ap (λ (l : List ℕ). l ++ range (at + 1) 511 new) gate
          ∙ ap (λ (l : List ℕ). range at 1 old ++ l) (same.after (at + 1) 511 (omega arith)) ∙ range-join at 1 511 (at + 1) old refl in
          let place = λ (image : List ℕ). ap (λ (h : ℕ). range (selector_at h) 512 image) half in
          inr (t, half, (holds.0, place new ∙ whole ∙ sym (place old) ∙ holds.1), lower)
      | false ↦ λ shut. inl (eqb-false (byte_at at new) SELECTOR_GATE shut)
    ] refl

module _ (journal : JournalValue) where
  abbrev other : ℕ
  other = 1 - journal.half

  -- the gate is closed wherever the journal is that of an image
  abbrev Shuts : List ℕ → List ℕ → Type 0
  Shuts old new = (names : NameMap) (selector : SelectorValue) (records : List RecordValue) → IsFoundIn journal names selector records old →
      byte_at (selector_at other) new ≢ SELECTOR_GATE

  -- an image whose other selector is closed
  stays_shut : (names : NameMap) (selector : SelectorValue) (records : List RecordValue) (old new : List ℕ) → SameButHalf other old new →
      byte_at (selector_at other) new ≢ SELECTOR_GATE
      → IsFoundIn journal names selector records old → HoldsStill journal selector records old new
  stays_shut names selector records old new same shut found = record {
    holds = journal_kept selector records old new (subst (λ (h : ℕ). SameButHalf (1 - h) old new) found.told.half same) found.holds
        (inl (subst (λ (h : ℕ). byte_at (selector_at (1 - h)) new ≢ SELECTOR_GATE) found.told.half shut));
    opens = λ opened. absurd (shut opened);
  }

  gate_after : (p count : ℕ) (old new : List ℕ) → selector_at other + 1 ≤ p → SameOutside p count old new → byte_at (selector_at other) old ≢ SELECTOR_GATE →
      byte_at (selector_at other) new ≢ SELECTOR_GATE
  gate_after p count old new above same shut opened = shut (sym (byte_of_range (selector_at other) old new (same.before (selector_at other) 1 above)) ∙ opened)

  torn_same : (at n : ℕ) (old new : List ℕ) → at + n ≤ length old → Torn at n old new → SameOutside at n old new
  torn_same at n old new fits torn = subst (SameOutside at n old) (sym torn.holds) (same_written at n torn.bytes old torn.count fits)

  -- the gate is torn, which was open
  gate_stays : (old new : List ℕ) → journal.half ≤ 1 → least_size ≤ length old → journal.other_open ≡ true → Torn (selector_at other) 1 old new → StaysFound journal old new
  gate_stays old new low fits is torn =
      let same = torn_same (selector_at other) 1 old new (omega (arith, fits)) torn in
      let but = from_selector other 1 old new (omega arith) same in
      record {
        same = but;
        stands = λ names selector records found.
            let half = found.told.half in
            let known : KnowsOther true journal.half old = subst (λ (b : Bool). KnowsOther b journal.half old) is found.other in
            record {
              holds = journal_kept selector records old new (subst (λ (h : ℕ). SameButHalf (1 - h) old new) half but) found.holds
                  (older_torn selector old new fits (omega (arith, half, low)) (subst (λ (h : ℕ). SameOutside (selector_at (1 - h)) 1 old new) half same)
                  (subst (λ (h : ℕ). byte_at (selector_at (1 - h)) old ≡ SELECTOR_GATE) half (known.0 (search rules))) found.holds.older);
              opens = λ opened. (subst IsTrue (sym is) (search rules), same.after (cell_at other 0) HALF_BYTES (omega (arith, low)));
            };
      }

  -- the half is torn, whose selector is closed
  half_stays : (names : NameMap) (selector : SelectorValue) (records : List RecordValue) (old shut new : List ℕ) → journal.half ≤ 1 → least_size ≤ length shut →
      SameButHalf other old shut
      → byte_at (selector_at other) shut ≢ SELECTOR_GATE → Torn (cell_at other 0) HALF_BYTES shut new → IsFoundIn journal names selector records old →
      HoldsStill journal selector records old new
  half_stays names selector records old shut new low fits same closed torn found =
      let half = torn_same (cell_at other 0) HALF_BYTES shut new (omega (arith, fits)) torn in
      stays_shut names selector records old new (same_on other old shut new same (from_half other HALF_BYTES shut new (omega arith) half))
      (gate_after (cell_at other 0) HALF_BYTES shut new (omega arith) half closed) found

-- ---- the records in the new half

-- records that stand one after the other in a part of an image
stand_cells : (half cell : ℕ) (front image : List ℕ) (rs : List RecordValue) → length front ≡ 512 * cell → AllByRecursion IsRecord rs →
    range (cell_at half 0) (length (front ++ cells_of rs)) image ≡ front ++ cells_of rs
    → StandFrom half cell rs image
stand_cells half cell front image [] long right is = tt
stand_cells half cell front image (r ∷ rs) long right is =
    let one : length (record_cell r) ≡ 512 = length_record_cell r right.0 in
    let parted : front ++ cells_of (r ∷ rs) ≡ (front ++ record_cell r) ++ cells_of rs = sym (append_assoc front (record_cell r) (cells_of rs)) in
    let begun : length (front ++ record_cell r) ≡ 512 * (cell + 1) = omega (arith, length-append front (record_cell r), long, one) in
    let whole : length (front ++ cells_of (r ∷ rs)) ≡ 512 * cell + (512 + length (cells_of rs)) =
    omega (arith, length-append front (cells_of (r ∷ rs)), length-append (record_cell r) (cells_of rs), long, one) in
    let place : cell_at half cell ≡ cell_at half 0 + 512 * cell = omega arith in (
      ap (λ (k : ℕ). range k 512 image) place
          ∙ sym (range-range (512 * cell) 512 (cell_at half 0) (length (front ++ cells_of (r ∷ rs))) image (omega (arith, whole)))
          ∙ ap (range (512 * cell) 512) is
          ∙ range-second 0 512 (512 * cell) (512 * cell) front (cells_of (r ∷ rs)) long (omega arith)
          ∙ range-first 0 512 (record_cell r) (cells_of rs) (omega (arith, one))
          ∙ range-whole 512 (record_cell r) one,
      stand_cells half (cell + 1) (front ++ record_cell r) image rs begun right.1 (subst (λ (l : List ℕ). range (cell_at half 0) (length l) image ≡ l) parted is),
    )

records_right : (previous : ℕ) (names : NameMap) (rs : List RecordValue) → Follow previous names rs → AllByRecursion IsRecord rs
records_right previous names [] follow = tt
records_right previous names (r ∷ rs) follow = (follow.0, records_right r.sequence (names_with r names) rs follow.3)

length-cells : (rs : List RecordValue) → AllByRecursion IsRecord rs → length (cells_of rs) ≡ 512 * length rs
length-cells [] right = refl
length-cells (r ∷ rs) right = omega (arith, length-append (record_cell r) (cells_of rs), length_record_cell r right.0, length-cells rs right.1)

-- through the write of a cell before
stand_after : (half cell at : ℕ) (rs : List RecordValue) (old new : List ℕ) → at + 512 ≤ cell_at half cell → SameOutside at 512 old new → StandFrom half cell rs old →
    StandFrom half cell rs new
stand_after half cell at [] old new after same stands = tt
stand_after half cell at (r ∷ rs) old new after same stands =
    (same.after (cell_at half cell) 512 after ∙ stands.0, stand_after half (cell + 1) at rs old new (omega (arith, after)) same stands.1)

-- ---- the new journal

module _ (journal : JournalValue) (names : NameMap) (new : FreshHalf) (is : IsFreshHalf (next_selector journal) names new) (low : journal.half ≤ 1) where
  abbrev puts : List RecordValue
  puts = puts_of names

  -- the image with its half, over one whose other selector is closed
  module _ (shut : List ℕ) (fits : least_size ≤ length shut) where
    abbrev blank : List ℕ
    blank = written (cell_at (other journal) 0) new.blanks.items shut

    abbrev filled : List ℕ
    filled = cells_filled (other journal) new shut

    blank_room : cell_at (other journal) 0 + length new.blanks.items ≤ length shut
    blank_room = omega (arith, is.fits.blanks, fits)

    blank_long : length blank ≡ length shut
    blank_long = length-written (cell_at (other journal) 0) new.blanks.items shut blank_room

    cells_room : cell_at (other journal) 0 + length new.cells.items ≤ length blank
    cells_room = omega (arith, is.fits.cells, blank_long, fits)

    filled_long : length filled ≡ length shut
    filled_long = length-written (cell_at (other journal) 0) new.cells.items blank cells_room ∙ blank_long

    filled_same : SameButHalf (other journal) shut filled
    filled_same =
        same_on (other journal) shut blank filled
        (from_half (other journal) (length new.blanks.items) shut blank (omega (arith, is.fits.blanks))
        (same_written (cell_at (other journal) 0) (length new.blanks.items) new.blanks.items shut refl blank_room))
        (from_half (other journal) (length new.cells.items) blank filled is.fits.cells
        (same_written (cell_at (other journal) 0) (length new.cells.items) new.cells.items blank refl cells_room))

    gate_filled : byte_at (selector_at (other journal)) shut ≢ SELECTOR_GATE → byte_at (selector_at (other journal)) filled ≢ SELECTOR_GATE
    gate_filled closed =
        gate_after journal (cell_at (other journal) 0) (length new.cells.items) blank filled (omega arith)
        (same_written (cell_at (other journal) 0) (length new.cells.items) new.cells.items blank refl cells_room)
        (gate_after journal (cell_at (other journal) 0) (length new.blanks.items) shut blank (omega arith)
        (same_written (cell_at (other journal) 0) (length new.blanks.items) new.blanks.items shut refl blank_room) closed)

    puts_stand : AllByRecursion IsRecord puts → StandFrom (other journal) 0 puts filled
    puts_stand right =
        stand_cells (other journal) 0 [] filled puts refl right
        (ap (λ (l : List ℕ). range (cell_at (other journal) 0) (length l) filled) (sym is.cells)
        ∙ range-written (cell_at (other journal) 0) (length new.cells.items) new.cells.items blank cells_room refl ∙ is.cells)

    -- the rest is zeros
    rest_closed : AllByRecursion IsRecord puts → ClosedFrom (other journal) (length puts) filled
    rest_closed right cell from within opened =
        let long : length new.cells.items ≡ 512 * length puts = ap length is.cells ∙ length-cells puts right in
        let zero : byte_at (512 * cell) new.blanks.items ≡ 0 = ap (byte_at (512 * cell)) is.blanks ∙ byte-zeros (512 * cell) HALF_BYTES (omega (arith, within)) in
        let gate : byte_at (cell_at (other journal) cell) filled ≡ 0 =
        byte-written-after (cell_at (other journal) cell) (cell_at (other journal) 0) new.cells.items blank (omega (arith, long, from)) cells_room
        ∙ byte-written (cell_at (other journal) cell) (cell_at (other journal) 0) (512 * cell) new.blanks.items shut (omega arith) (omega (arith, is.fits.blanks, within))
        blank_room ∙ zero in
        absurd (omega (arith, gate, opened))

    selector_room : selector_at (other journal) + length new.selector.items ≤ length filled
    selector_room = omega (arith, is.fits.selector, filled_long, fits)

    selector_same : SameOutside (selector_at (other journal)) 512 filled (written (selector_at (other journal)) new.selector.items filled)
    selector_same = same_written (selector_at (other journal)) 512 new.selector.items filled is.fits.selector (omega (arith, selector_room, is.fits.selector))

    replaced_same : (given c : List ℕ) → SameButHalf (other journal) given shut → c ≡ half_filled (other journal) new shut → SameButHalf (other journal) given c
    replaced_same given c same put =
        subst (SameButHalf (other journal) given) (sym put)
        (same_on (other journal) given filled (half_filled (other journal) new shut) (same_on (other journal) given shut filled same filled_same)
        (from_selector (other journal) 512 filled (half_filled (other journal) new shut) (omega arith) selector_same))

    -- an image with the half and its selector
    module _ (given c : List ℕ) (same : SameButHalf (other journal) given shut) (put : c ≡ half_filled (other journal) new shut) (selector : SelectorValue)
        (records : List RecordValue) (found : IsFoundIn journal names selector records given) where
      told : IsTold journal.other_open selector records journal names journal.last
      told = found.told

      follow : Follow 0 finite.empty records
      follow = found.holds.records_are.right

      follow_puts : Follow 0 finite.empty puts
      follow_puts = subst (λ (n : NameMap). Follow 0 finite.empty (puts_of n)) (sym told.names_are) (puts_follow records follow)

      last_puts : last_of 0 puts ≤ last_of 0 records
      last_puts = subst (λ (n : NameMap). last_of 0 (puts_of n) ≤ last_of 0 records) (sym told.names_are) (puts_last records follow)

      few_puts : length puts ≤ half_cells
      few_puts = subst (λ (n : NameMap). length (puts_of n) ≤ half_cells) (sym told.names_are) (omega (arith, puts_room records follow))

      leave_puts : names ≡ names_after puts finite.empty
      leave_puts = subst (λ (n : NameMap). n ≡ names_after (puts_of n) finite.empty) (sym told.names_are) (sym (puts_leave records follow))

      right_puts : AllByRecursion IsRecord puts
      right_puts = records_right 0 finite.empty puts follow_puts

      same_c : SameButHalf (other journal) given c
      same_c = replaced_same given c same put

      cell_c : SameOutside (selector_at (other journal)) 512 filled c
      cell_c = subst (SameOutside (selector_at (other journal)) 512 filled) (sym put) selector_same

      next_right : IsSelector (next_selector journal)
      next_right = record {
        from_one = omega arith;
        generation = omega (arith, is.below);
        form = refl;
        half = omega arith;
        last = omega (arith, told.last_is, found.holds.selector_is.0.last, last_below 0 finite.empty records (omega arith) follow);
      }

      holds_next : HoldsSelector c (next_selector journal)
      holds_next = (
        next_right,
        ap (range (selector_at (other journal)) 512) put
            ∙ range-written (selector_at (other journal)) 512 new.selector.items filled (omega (arith, selector_room, is.fits.selector)) is.fits.selector
            ∙ is.selector_is,
      )

      holds_old : HoldsSelector c selector
      holds_old = (
        found.holds.selector_is.0,
        own_selector selector.half found.holds.selector_is.0.half given c (subst (λ (h : ℕ). SameButHalf (1 - h) given c) told.half same_c) ∙ found.holds.selector_is.1,
      )

      back : 1 - other journal ≡ selector.half
      back = omega (arith, low, told.half)

      older : IsOlder c (next_selector journal)
      older = inr (selector, sym back, holds_old, omega (arith, told.generation))

      gate_open : byte_at (selector_at (1 - other journal)) c ≡ SELECTOR_GATE
      gate_open =
          ap (λ (h : ℕ). byte_at (selector_at h) c) back ∙ gate_read (selector_at selector.half) c (selector_cell selector) holds_old.1 ∙ gate_of_selector selector

      closed_c : ClosedFrom (other journal) (length puts) c
      closed_c cell from within opened =
          rest_closed right_puts cell from within (sym (byte_after (cell_at (other journal) cell) (selector_at (other journal)) 512 filled c (omega arith) cell_c) ∙ opened)

      last_stays : (checkpointed names journal).last ≡ journal.last
      last_stays = omega (arith, told.last_is, last_puts)

      moved : HasMoved journal names c
      moved = record {
        found = record {
          holds = record {
            selector_is = holds_next;
            older = older;
            records_are = record {
              few = few_puts;
              right = follow_puts;
              stand = stand_after (other journal) 0 (selector_at (other journal)) puts filled c (omega arith) cell_c (puts_stand right_puts);
              closed = closed_c;
            };
          };
          other = (λ opened. gate_open, λ opened. search rules);
          told = record {
            half = refl;
            generation = refl;
            other = refl;
            count = refl;
            previous = refl;
            names_are = leave_puts;
            journal_last = refl;
            last_is = refl;
          };
        };
        last_stays = last_stays;
      }

  -- ---- what the writes leave

  -- of the half
  half_moves : (given shut c : List ℕ) → least_size ≤ length shut → SameButHalf (other journal) given shut → Shuts journal given shut →
      Torn (cell_at (other journal) 0) HALF_BYTES shut c → StaysOrMoves journal names given c
  half_moves given shut c fits same closed torn = record {
    same = same_on (other journal) given shut c same
        (from_half (other journal) HALF_BYTES shut c (omega arith) (torn_same journal (cell_at (other journal) 0) HALF_BYTES shut c (omega (arith, fits)) torn));
    stands = λ selector records found. inl (half_stays journal names selector records given shut c low fits same (closed names selector records found) torn found);
  }

  -- and of its selector
  cell_moves : (given shut c : List ℕ) → least_size ≤ length shut → SameButHalf (other journal) given shut → Shuts journal given shut
      → CellTorn (selector_at (other journal)) new.selector.items (cells_filled (other journal) new shut) c → StaysOrMoves journal names given c
  cell_moves given shut c fits same closed torn =
      let at : ℕ = selector_at (other journal) in
      let cell : List ℕ = new.selector.items in
      let whole : List ℕ = cells_filled (other journal) new shut in
      let some : 1 ≤ length cell = omega (arith, is.fits.selector) in
      let torn_cell : SameOutside at 512 whole c = subst (λ (n : ℕ). SameOutside at n whole c) is.fits.selector (same_cell at cell whole c some (selector_room shut fits) torn) in
      let but : SameButHalf (other journal) given c =
      same_on (other journal) given whole c (same_on (other journal) given shut whole same (filled_same shut fits))
      (from_selector (other journal) 512 whole c (omega arith) torn_cell) in
      record {
        same = but;
        stands = λ selector records found.
            elim (cell_cases at SELECTOR_GATE cell whole c some (selector_room shut fits) (ap (byte_at 0) is.selector_is ∙ gate_of_selector (next_selector journal))
            (gate_filled shut fits (closed names selector records found)) torn) [
              | inl stays ↦ inl (stays_shut journal names selector records given c but stays found)
              | inr put ↦ inr (moved shut fits given c same put selector records found)
            ];
      }

  -- an open gate is closed
  shut_same : (given : List ℕ) → least_size ≤ length given → SameButHalf (other journal) given (gate_closed true (other journal) given)
  shut_same given fits =
      from_selector (other journal) 1 given (gate_closed true (other journal) given) (omega arith)
      (same_written (selector_at (other journal)) 1 (0 ∷ []) given refl (omega (arith, fits)))

  shut_closed : (given : List ℕ) → least_size ≤ length given → Shuts journal given (gate_closed true (other journal) given)
  shut_closed given fits some_names selector records found opened =
      let zero : byte_at (selector_at (other journal)) (gate_closed true (other journal) given) ≡ 0 =
      byte-written (selector_at (other journal)) (selector_at (other journal)) 0 (0 ∷ []) given (omega arith) (omega arith) (omega (arith, fits)) in
      absurd (omega (arith, zero, opened))

  -- or was closed
  was_closed : (given : List ℕ) → journal.other_open ≡ false → Shuts journal given given
  was_closed given is_shut some_names selector records found opened =
      let known : KnowsOther false journal.half given = subst (λ (b : Bool). KnowsOther b journal.half given) is_shut found.other in
      not_false (known.1 opened)

  shut_long : (given : List ℕ) → least_size ≤ length given → least_size ≤ length (gate_closed true (other journal) given)
  shut_long given fits = omega (arith, fits, (shut_same given fits).size)

  replaces : (open_gate : Bool) → journal.other_open ≡ open_gate → (given d c : List ℕ) → least_size ≤ length given → least_size ≤ length d →
      Replaces open_gate (other journal) new given d c → Checkpoints journal names given d c
  replaces true is_open given d c fits also (inl torn) = inl (gate_stays journal d c low also is_open torn)
  replaces true is_open given d c fits also (inr (inl torn)) =
      inr (half_moves given (gate_closed true (other journal) given) c (shut_long given fits) (shut_same given fits) (shut_closed given fits) torn)
  replaces true is_open given d c fits also (inr (inr torn)) =
      inr (cell_moves given (gate_closed true (other journal) given) c (shut_long given fits) (shut_same given fits) (shut_closed given fits) torn)
  replaces false is_shut given d c fits also (inl torn) = inl (record {
    same = from_half (other journal) HALF_BYTES d c (omega arith) (torn_same journal (cell_at (other journal) 0) HALF_BYTES d c (omega (arith, also)) torn);
    stands = λ some_names selector records found. half_stays journal some_names selector records d d c low also (same_here (other journal) d)
        (was_closed d is_shut some_names selector records found) torn found;
  })
  replaces false is_shut given d c fits also (inr torn) = inr (cell_moves given given c fits (same_here (other journal) given) (was_closed given is_shut) torn)

  replaced_moves : (given shut c : List ℕ) → least_size ≤ length shut → SameButHalf (other journal) given shut → c ≡ half_filled (other journal) new shut →
      IsCheckpointed journal names given c
  replaced_moves given shut c fits same put = record {
    same = replaced_same shut fits given c same put;
    stands = λ selector records found. moved shut fits given c same put selector records found;
  }

  all_replaced : (open_gate : Bool) (given c : List ℕ) → least_size ≤ length given → c ≡ replaced open_gate (other journal) new given → IsCheckpointed journal names given c
  all_replaced true given c fits put = replaced_moves given (gate_closed true (other journal) given) c (shut_long given fits) (shut_same given fits) put
  all_replaced false given c fits put = replaced_moves given given c fits (same_here (other journal) given) put

  -- on a disk
  pub writes_checkpoint : (open_gate : Bool) (half : ℕ) (old after : DiskView) (e : Ending) → open_gate ≡ journal.other_open → half ≡ other journal → least_size ≤ old.size
      → Writes (Replaces open_gate half new) (λ given c. c ≡ replaced open_gate half new given) e old after →
      Writes (Checkpoints journal names) (IsCheckpointed journal names) e old after
  writes_checkpoint open_gate half old after e is_open here size writes =
      writes_weaker (Replaces open_gate (other journal) new) (Checkpoints journal names) (λ given c. c ≡ replaced open_gate (other journal) new given)
      (IsCheckpointed journal names) old after
      (λ given c known put. all_replaced open_gate given c (omega (arith, size, old.sized given known)) put) e
      (λ given d c known image torn. replaces open_gate (sym is_open) given d c (omega (arith, size, old.sized given known)) (omega (arith, size, old.image_sized d image)) torn)
      (subst (λ (h : ℕ). Writes (Replaces open_gate h new) (λ given c. c ≡ replaced open_gate h new given) e old after) here writes)
