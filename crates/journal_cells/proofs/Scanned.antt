-- What reads of the journal show, cell by cell.
use Rattle.journal_cells.proofs.Prelude.{◌≡◌, ◌≢◌, ℕ, suc, ◌+◌, ◌-◌, ◌<◌, List, [], ◌∷◌, ◌++◌, length, Some, None, Err, refl, sym, ap, ◌∙◌, subst, arith, length-append, byte_at, byte-range, RecordValue, IsRecord, RECORD_GATE, cell_at, half_cells, DiskView, OnlyReads, Shows, always, weaker, IsTaken, names_with, last_of_push, CellFault, Memory, DiskRead, DiskWrite, Damaged, NotAStore, Version, Numbers, IsFoundFault, IsRecordBreak, IsCellFault, Replay, nothing_yet, after_record, IsNext, IsPart, IsRead}
use Rattle.std.specs.FinMap as finite
use Rattle.base_model.specs.Bytes.{range}
use Rattle.dd_disk.proofs.Shows.{both}
use Rattle.store_model.proofs.Records.{names_after_push}
use Rattle.store_model.proofs.Valid.{follow_push}
use Rattle.journal_cells.specs.Records.{record_in, replayed}
use Rattle.journal_cells.specs.Scanning.{HasNext, HasNextFault, Leave, HasPart, HasRead}
use Rattle.journal_cells.proofs.Damage.{IsDamage, record_damage}
use Rattle.journal_cells.proofs.Replays.{stand_push, replayed_open, replayed_closed, replayed_fault, replayed_full, gate_stands}

pub gate_read : (at : ℕ) (image cell : List ℕ) → range at 512 image ≡ cell → byte_at at image ≡ byte_at 0 cell
gate_read at image cell read = ap (λ (p : ℕ). byte_at p image) (omega arith) ∙ sym (byte-range 0 at 512 image (omega arith)) ∙ ap (byte_at 0) read

-- a cell of a half that is damaged
damage_break : (half at : ℕ) (replay : Replay) (f : CellFault) → at ≡ cell_at half replay.count → replay.count < half_cells → IsDamage at f → IsRecordBreak half f
damage_break half at replay (Damaged there why) place room damage = ((replay.count, room, damage.0 ∙ place), damage.1)
damage_break half at replay Memory place room damage = absurd damage
damage_break half at replay DiskRead place room damage = absurd damage
damage_break half at replay DiskWrite place room damage = absurd damage
damage_break half at replay (NotAStore g m) place room damage = absurd damage
damage_break half at replay (Version n) place room damage = absurd damage
damage_break half at replay Numbers place room damage = absurd damage

module _ (old new : DiskView) (half at : ℕ) (replay : Replay) (cell : List ℕ) (place : at ≡ cell_at half replay.count) (room : replay.count < half_cells)
    (gate : byte_at 0 cell ≡ RECORD_GATE) (read : Shows old new (λ image. range at 512 image ≡ cell)) where
  fault_seen : (f : CellFault) → record_in at replay.previous replay.names cell ≡ Err f → IsRecordBreak half f × Shows old new (HasNextFault half replay f)
  fault_seen f is = (
    damage_break half at replay f place room (record_damage at replay.previous replay.names cell f is),
    weaker old new (λ image sized same. let there = ap (λ p. range p 512 image) (sym place) ∙ same in record {
      open_gate = gate_read (cell_at half replay.count) image cell there ∙ gate;
      read = ap (record_in (cell_at half replay.count) replay.previous replay.names) there ∙ ap (λ p. record_in p replay.previous replay.names cell) (sym place) ∙ is;
    }) read,
  )

  -- the fault that a record has
  pub next_fault : (e : CellFault) → IsFoundFault (record_in at replay.previous replay.names cell) e →
      IsCellFault (IsRecordBreak half) (λ f. Shows old new (HasNextFault half replay f)) e
  next_fault Memory found = tt
  next_fault DiskRead found = absurd found
  next_fault DiskWrite found = absurd found
  next_fault (Damaged there why) found = fault_seen (Damaged there why) found
  next_fault (NotAStore g m) found = absurd found
  next_fault (Version n) found = absurd found
  next_fault Numbers found = absurd found

-- ---- the way through a half

leave_none : Leave [] nothing_yet
leave_none = record { right = tt; count = refl; previous = refl; names = refl }

leave_more : (records : List RecordValue) (replay : Replay) (r : RecordValue) → Leave records replay → IsRecord r → replay.previous < r.sequence → IsTaken replay.names r →
    Leave (records ++ r ∷ []) (after_record replay r)
leave_more records replay r leave right rises taken =
    record {
      right = follow_push 0 finite.empty records r leave.right right (subst (λ p. p < r.sequence) leave.previous rises) (subst (λ n. IsTaken n r) leave.names taken);
      count = omega (arith, leave.count, length-append records (r ∷ []));
      previous = sym (last_of_push 0 records r);
      names = ap (names_with r) leave.names ∙ sym (names_after_push records r finite.empty);
    }

pub part_none : (half : ℕ) (v : DiskView) → IsPart (Shows v v) half nothing_yet
part_none half v = record { records = []; leave = leave_none; seen = always v v _ (λ image sized. record { stand = tt; goes_on = refl }) }

-- the cells that a reader has left, the next one first
pub left_after : (count : ℕ) → count < half_cells → half_cells - count ≡ suc (half_cells - suc count)
left_after count room = omega (arith, room)

more_stand : (half : ℕ) (records : List RecordValue) (replay : Replay) (r : RecordValue) (image : List ℕ) → replay.count < half_cells → Leave records replay →
    HasPart half records replay image → HasNext half replay r image
    → HasPart half (records ++ r ∷ []) (after_record replay r) image
more_stand half records replay r image room leave part next =
    let here : cell_at half replay.count ≡ cell_at half (0 + length records) = omega (arith, leave.count) in
    record {
      stand = stand_push half 0 records r image part.stand (ap (λ at. range at 512 image) (sym here) ∙ next.spelled);
      goes_on =
          part.goes_on
          ∙ ap (λ n. replayed half n replay image) (left_after replay.count room)
          ∙ replayed_open half (half_cells - suc replay.count) replay image r (gate_stands (cell_at half replay.count) r image next.spelled) next.read;
    }

none_more : (half : ℕ) (records : List RecordValue) (replay : Replay) (image : List ℕ) → replay.count < half_cells → Leave records replay → HasPart half records replay image →
    byte_at (cell_at half replay.count) image ≢ RECORD_GATE
    → HasRead half records replay image
none_more half records replay image room leave part closed = record {
  stand = part.stand;
  read = part.goes_on ∙ replayed_closed half (half_cells - replay.count) replay image closed;
}

all_stand : (half : ℕ) (records : List RecordValue) (replay : Replay) (image : List ℕ) → replay.count ≡ half_cells → HasPart half records replay image →
    HasRead half records replay image
all_stand half records replay image full part = record {
  stand = part.stand;
  read = part.goes_on ∙ ap (λ n. replayed half n replay image) (omega (arith, full)) ∙ replayed_full half replay image;
}

module _ (half : ℕ) (old mid new : DiskView) (replay : Replay) (room : replay.count < half_cells) (part : IsPart (Shows old mid) half replay) (before : OnlyReads old mid)
    (after : OnlyReads mid new) where
  pub part_more : (r : RecordValue) → IsNext (Shows mid new) half replay (Some r) → IsPart (Shows old new) half (after_record replay r)
  part_more r next =
      record {
        records = part.records ++ r ∷ [];
        leave = leave_more part.records replay r part.leave next.0 next.1 next.2;
        seen = weaker old new (λ image sized seen. more_stand half part.records replay r image room part.leave seen.0 seen.1)
            (both old mid new part.seen before next.3 after.later);
      }

  pub part_read : IsNext (Shows mid new) half replay None → IsRead (Shows old new) half replay
  part_read next =
      record {
        records = part.records;
        few = omega (arith, room, part.leave.count);
        leave = part.leave;
        seen = weaker old new (λ image sized seen. none_more half part.records replay image room part.leave seen.0 seen.1) (both old mid new part.seen before next after.later);
      }

  fault_on : (f : CellFault) → Shows mid new (HasNextFault half replay f) → Shows old new (λ image. replayed half half_cells nothing_yet image ≡ Err f)
  fault_on f next =
      weaker old new (λ image sized seen. seen.0.goes_on ∙ ap (λ n. replayed half n replay image) (left_after replay.count room)
      ∙ replayed_fault half (half_cells - suc replay.count) replay image f seen.1.open_gate seen.1.read)
      (both old mid new part.seen before next after.later)

  pub part_fault : (e : CellFault) → IsCellFault (IsRecordBreak half) (λ f. Shows mid new (HasNextFault half replay f)) e
      → IsCellFault (IsRecordBreak half) (λ f. Shows old new (λ image. replayed half half_cells nothing_yet image ≡ Err f)) e
  part_fault Memory is = tt
  part_fault DiskRead is = tt
  part_fault DiskWrite is = absurd is
  part_fault (Damaged at why) is = (is.0, fault_on (Damaged at why) is.1)
  part_fault (NotAStore g m) is = absurd is.0
  part_fault (Version n) is = absurd is.0
  part_fault Numbers is = absurd is

pub part_all : (half : ℕ) (old new : DiskView) (replay : Replay) → replay.count ≡ half_cells → IsPart (Shows old new) half replay → IsRead (Shows old new) half replay
part_all half old new replay full part =
    record {
      records = part.records;
      few = omega (arith, full, part.leave.count);
      leave = part.leave;
      seen = weaker old new (λ image sized seen. all_stand half part.records replay image full seen) part.seen;
    }
