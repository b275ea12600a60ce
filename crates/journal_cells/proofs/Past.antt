-- Cells past the records of a half: whether one is open.
use Rattle.journal_cells.proofs.Prelude.{◌≡◌, ℕ, zero, suc, ◌+◌, ◌-◌, ◌*◌, ◌<◌, ◌≤◌, true, false, List, length, take, Option, Some, None, Result, Ok, Err, refl, sym, ap, subst, ◌∙◌, arith, eq-eqb, eqb-false, eqb-true, ltb-false, ltb-true, length-take-le, byte_at, ◌>>=◌, then_step, byte-range, Shows, DiskView, OnlyReads, always, weaker, RecordValue, CELL_BYTES, RECORD_GATE, cell_at, half_cells, ClosedFrom, HoldsRecords, CellFault, Memory, DiskRead, DiskWrite, Damaged, NotAStore, Version, Numbers, IsCellFault, IsReadFault, IsRecordBreak, Replay, nothing_yet, open_cell, AreClosed, AreShut, IsFirstAmong, IsOpenFault, IsRead, IsWhole}
use Rattle.std.specs.Prelude.{◌==◌, nat_lt}
use Rattle.base_model.specs.Bytes.{range}
use Rattle.dd_disk.proofs.Shows.{both}
use Rattle.journal_cells.specs.Records.{ended, first_open, half_in, replayed}
use Rattle.journal_cells.specs.Scanning.{IsFirstIn, IsFirstOpen}
use Rattle.journal_cells.proofs.Replays.{holds_again, if_false, if_true, other_gate, replay_count, replay_of}

-- ---- the first open cell

pub first_none : (half left cell : ℕ) (image : List ℕ) → AreClosed half cell (cell + left) image → first_open half left cell image ≡ None
unfolding first_open
first_none half zero cell image closed = refl
first_none half (suc left) cell image closed =
    if_false (byte_at (cell_at half cell) image == RECORD_GATE) (Some cell) (first_open half left (suc cell) image)
    (other_gate (byte_at (cell_at half cell) image) (closed cell (omega arith) (omega arith)))
    ∙ first_none half left (suc cell) image (λ c from within. closed c (omega (arith, from)) (omega (arith, within)))

pub first_some : (half left cell found : ℕ) (image : List ℕ) → found < cell + left → IsFirstOpen half cell found image → first_open half left cell image ≡ Some found
unfolding first_open
first_some half zero cell found image within first = absurd (omega (arith, within, first.from_there))
first_some half (suc left) cell found image within first =
    elim (cell == found) as (λ b. (cell == found) ≡ b → first_open half (suc left) cell image ≡ Some found) [
      | true ↦ λ here.
          let same : cell ≡ found = eqb-true cell found here in
          if_true (byte_at (cell_at half cell) image == RECORD_GATE) (Some cell) (first_open half left (suc cell) image)
          (eq-eqb (byte_at (cell_at half cell) image) RECORD_GATE (ap (λ (c : ℕ). byte_at (cell_at half c) image) same ∙ first.opened)) ∙ ap Some same
      | false ↦ λ other.
          let below : cell < found = omega (arith, first.from_there, eqb-false cell found other) in
          if_false (byte_at (cell_at half cell) image == RECORD_GATE) (Some cell) (first_open half left (suc cell) image)
          (other_gate (byte_at (cell_at half cell) image) (first.before cell (omega arith) below))
          ∙ first_some half left (suc cell) found image (omega (arith, within))
          (record { from_there = omega (arith, below); before = λ c from lower. first.before c (omega (arith, from)) lower; opened = first.opened })
    ] refl

-- ---- a half

module _ (half : ℕ) (image : List ℕ) where
  after : Replay → Result Replay CellFault
  after replay = ended half (first_open half (half_cells - replay.count) replay.count image) replay

  pub half_fault_of : (f : CellFault) → replayed half half_cells nothing_yet image ≡ Err f → half_in half image ≡ Err f
  unfolding half_in after
  half_fault_of f read = ap (λ (r : Result Replay CellFault). r >>= after) read

  half_then : (replay : Replay) (found : Option ℕ) → replayed half half_cells nothing_yet image ≡ Ok replay →
      first_open half (half_cells - replay.count) replay.count image ≡ found → half_in half image ≡ ended half found replay
  unfolding half_in after
  half_then replay found read is =
      then_step (replayed half half_cells nothing_yet image) after replay (ended half found replay) read (ap (λ (o : Option ℕ). ended half o replay) is)

  pub half_closed : (replay : Replay) → replay.count ≤ half_cells → replayed half half_cells nothing_yet image ≡ Ok replay → ClosedFrom half replay.count image →
      half_in half image ≡ Ok replay
  half_closed replay few read closed =
      half_then replay None read (first_none half (half_cells - replay.count) replay.count image (λ cell from within. closed cell from (omega (arith, few, within))))

  pub half_opened : (replay : Replay) (cell : ℕ) → cell < half_cells → replayed half half_cells nothing_yet image ≡ Ok replay → IsFirstOpen half replay.count cell image →
      half_in half image ≡ Err (open_cell half cell)
  half_opened replay cell within read first =
      half_then replay (Some cell) read (first_some half (half_cells - replay.count) replay.count cell image (omega (arith, within, first.from_there)) first)

-- records that stand are read again
pub half_again : (half : ℕ) (rs : List RecordValue) (image : List ℕ) → HoldsRecords half rs image → half_in half image ≡ Ok (replay_of nothing_yet rs)
half_again half rs image holds =
    let count : (replay_of nothing_yet rs).count ≡ length rs = omega (arith, replay_count nothing_yet rs) in
    half_closed half image (replay_of nothing_yet rs) (omega (arith, count, holds.few)) (holds_again half rs image holds)
    (subst (λ (n : ℕ). ClosedFrom half n image) (sym count) holds.closed)

-- ---- cells that were read

module _ (half from count : ℕ) (image cells : List ℕ) (read : range (cell_at half from) (CELL_BYTES * count) image ≡ cells) where
  gate_in : (k : ℕ) → k < count → byte_at (CELL_BYTES * k) cells ≡ byte_at (cell_at half (from + k)) image
  gate_in k within =
      ap (byte_at (CELL_BYTES * k)) (sym read) ∙ byte-range (CELL_BYTES * k) (cell_at half from) (CELL_BYTES * count) image (omega (arith, within))
      ∙ ap (λ (p : ℕ). byte_at p image) (omega arith)

  closed_in : (to : ℕ) → to ≤ count → AreShut to cells → AreClosed half from (from + to) image
  closed_in to few shut cell above below opened =
      let k : ℕ = cell - from in
      let is : from + k ≡ cell = omega (arith, above) in
      shut k (omega (arith, above, below)) (gate_in k (omega (arith, above, below, few)) ∙ ap (λ (c : ℕ). byte_at (cell_at half c) image) is ∙ opened)

  opened_in : (k : ℕ) → IsFirstIn cells count (Some k) → IsFirstOpen half from (from + k) image
  opened_in k is = record { from_there = omega arith; before = closed_in k (omega (arith, is.0)) is.1; opened = sym (gate_in k is.0) ∙ is.2 }

-- as the call says it
pub read_so : (half from count : ℕ) (old new : DiskView) (at : ℕ) (buf cells : List ℕ) → at ≡ cell_at half from → CELL_BYTES * count ≤ length buf
    → Shows old new (λ image. range at (length (take (CELL_BYTES * count) buf)) image ≡ cells) →
    Shows old new (λ image. range (cell_at half from) (CELL_BYTES * count) image ≡ cells)
read_so half from count old new at buf cells place room read =
    weaker old new (λ image sized same. ap (λ (p : ℕ). range p (CELL_BYTES * count) image) (sym place)
    ∙ ap (λ (n : ℕ). range at n image) (sym (length-take-le (CELL_BYTES * count) buf room)) ∙ same) read

module _ (half from count : ℕ) (old new : DiskView) (cells : List ℕ) (read : Shows old new (λ image. range (cell_at half from) (CELL_BYTES * count) image ≡ cells)) where
  pub none_among : IsFirstIn cells count None → IsFirstAmong (Shows old new) half from count None
  none_among shut = weaker old new (λ image sized is. closed_in half from count image cells is count (omega arith) shut) read

  pub one_among : (k : ℕ) → IsFirstIn cells count (Some k) → IsFirstAmong (Shows old new) half from count (Some (from + k))
  one_among k is = (omega (arith, is.0), weaker old new (λ image sized same. opened_in half from count image cells same k is) read)

-- ---- one look after the other

closed_on : (half from cell to : ℕ) (image : List ℕ) → AreClosed half from cell image → AreClosed half cell to image → AreClosed half from to image
closed_on half from cell to image lower_are higher_are c above below =
    elim (nat_lt c cell) as (λ b. nat_lt c cell ≡ b → byte_at (cell_at half c) image ≡ RECORD_GATE → ⊥) [
      | true ↦ λ lower. lower_are c above (ltb-true c cell lower)
      | false ↦ λ higher. higher_are c (ltb-false c cell higher) below
    ] refl

pub none_looked_at : (half from : ℕ) (v : DiskView) → Shows v v (AreClosed half from from)
none_looked_at half from v = always v v _ (λ image sized cell above below. absurd (omega (arith, above, below)))

module _ (half from cell : ℕ) (old mid new : DiskView) (above : from ≤ cell) (so_far : Shows old mid (AreClosed half from cell)) (before : OnlyReads old mid)
    (next : OnlyReads mid new) where
  pub more_closed : (count : ℕ) → IsFirstAmong (Shows mid new) half cell count None → Shows old new (AreClosed half from (cell + count))
  more_closed count here = weaker old new (λ image sized is. closed_on half from cell (cell + count) image is.0 is.1) (both old mid new so_far before here next.later)

  pub open_there : (count found : ℕ) (fault : CellFault) → cell + count ≤ half_cells → fault ≡ open_cell half found → IsFirstAmong (Shows mid new) half cell count (Some found)
      → IsReadFault (IsRecordBreak half) (IsOpenFault (Shows old new) half from) fault
  open_there count found fault few is here =
      let within : found < half_cells = omega (arith, here.0, few) in
      subst (IsReadFault (IsRecordBreak half) (IsOpenFault (Shows old new) half from)) (sym is) (
        ((found, within, refl), tt),
        record {
          cell = found;
          within = within;
          fault_is = refl;
          seen = weaker old new (λ image sized is. record {
            from_there = omega (arith, above, is.1.from_there);
            before = closed_on half from cell found image is.0 is.1.before;
            opened = is.1.opened;
          }) (both old mid new so_far before here.1 next.later);
        },
      )

-- ---- the records, and what is past them

module _ (half : ℕ) (old new : DiskView) where
  pub records_fault : (e : CellFault) → IsCellFault (IsRecordBreak half) (λ f. Shows old new (λ image. replayed half half_cells nothing_yet image ≡ Err f)) e
      → IsCellFault (IsRecordBreak half) (λ f. Shows old new (λ image. half_in half image ≡ Err f)) e
  records_fault Memory is = tt
  records_fault DiskRead is = tt
  records_fault DiskWrite is = absurd is
  records_fault (Damaged at why) is = (is.0, weaker old new (λ image sized read. half_fault_of half image (Damaged at why) read) is.1)
  records_fault (NotAStore g m) is = absurd is.0
  records_fault (Version n) is = absurd is.0
  records_fault Numbers is = absurd is

module _ (half : ℕ) (old mid new : DiskView) (replay : Replay) (read : IsRead (Shows old mid) half replay) (before : OnlyReads old mid) (after_it : OnlyReads mid new) where
  few : replay.count ≤ half_cells
  few = omega (arith, read.leave.count, read.few)

  pub whole_half : Shows mid new (ClosedFrom half replay.count) → IsWhole (Shows old new) half replay
  whole_half closed = record {
    records = read.records;
    few = read.few;
    leave = read.leave;
    seen = weaker old new (λ image sized is. record {
      holds = record {
        few = read.few;
        right = read.leave.right;
        stand = is.0.stand;
        closed = subst (λ (n : ℕ). ClosedFrom half n image) read.leave.count is.1;
      };
      read = half_closed half image replay few is.0.read is.1;
    }) (both old mid new read.seen before closed after_it.later);
  }

  past_seen : (f : CellFault) → IsOpenFault (Shows mid new) half replay.count f → Shows old new (λ image. half_in half image ≡ Err f)
  past_seen f is =
      weaker old new (λ image sized seen. half_opened half image replay is.cell is.within seen.0.read seen.1 ∙ ap Err (sym is.fault_is))
      (both old mid new read.seen before is.seen after_it.later)

  pub past_fault : (e : CellFault) → IsReadFault (IsRecordBreak half) (IsOpenFault (Shows mid new) half replay.count) e
      → IsCellFault (IsRecordBreak half) (λ f. Shows old new (λ image. half_in half image ≡ Err f)) e
  past_fault Memory is = tt
  past_fault DiskRead is = tt
  past_fault DiskWrite is = absurd is
  past_fault (Damaged at why) is = (is.0, past_seen (Damaged at why) is.1)
  past_fault (NotAStore g m) is = absurd is.0
  past_fault (Version n) is = absurd is.0
  past_fault Numbers is = absurd is
