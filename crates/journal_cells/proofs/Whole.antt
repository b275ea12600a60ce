-- The journal as a whole: the selector that counts and the records of its half.
use Rattle.journal_cells.proofs.Prelude.{◌≡◌, inl, inr, ℕ, ◌≤◌, Bool, List, max, Result, Ok, Err, refl, sym, ap, subst, ◌∙◌, arith, ◌>>=◌, then_step, RecordValue, SelectorValue, IsSelector, DiskView, OnlyReads, Shows, always, weaker, HoldsSelector, IsOlder, HoldsJournal, KnowsOther, last_of, CellFault, Memory, DiskRead, DiskWrite, Damaged, NotAStore, Version, Numbers, fails, IsSelectorBreak, IsRecordBreak, IsReadFault, IsCellFault, Selection, HoldsSelection, selection_of, Replay, nothing_yet, IsScanned, IsTold, IsWhole}
use Rattle.std.proofs.Common.{IsTrue}
use Rattle.dd_disk.proofs.Shows.{also, both, until}
use Rattle.store_model.proofs.Once.{other_once}
use Rattle.journal_cells.specs.Faults.{IsJournalBreak}
use Rattle.journal_cells.specs.Records.{half_in}
use Rattle.journal_cells.specs.Journal.{journal_in}
use Rattle.journal_cells.specs.Scanning.{opened}
use Rattle.journal_cells.proofs.Past.{half_again}
use Rattle.journal_cells.proofs.Replays.{replay_of, replay_count, replay_previous, replay_names}

no_selector : (image : List ℕ) (f : CellFault) → selection_of image ≡ Err f → journal_in image ≡ Err f
unfolding journal_in
no_selector image f e = ap (λ r. r >>= (λ (s : Selection). half_in s.selector.half image)) e

half_of : (image : List ℕ) (s : Selection) (read : Result Replay CellFault) → selection_of image ≡ Ok s → half_in s.selector.half image ≡ read → journal_in image ≡ read
unfolding journal_in
half_of image s read e h = then_step (selection_of image) (λ (t : Selection). half_in t.selector.half image) s read e h

ok_replay : (a b : Replay) → (let r : Result Replay CellFault = Ok a in r) ≡ Ok b → a ≡ b
ok_replay a b e = cc

not_both : (r : Replay) (f : CellFault) → (let read : Result Replay CellFault = Ok r in read) ≡ Err f → ⊥
not_both r f e = cc

-- what was read, of a journal that stands there
told_of : (s : Selection) (t : SelectorValue) (is_open : Bool) (records : List RecordValue) (replay : Replay) → s.selector ≡ t → s.other_open ≡ is_open →
    replay ≡ replay_of nothing_yet records
    → IsTold is_open t records (opened s replay) replay.names (opened s replay).last
told_of s t is_open records replay same other is =
    let previous : replay.previous ≡ last_of 0 records = ap (λ (r : Replay). r.previous) is ∙ replay_previous nothing_yet records in
    record {
      half = ap (λ (v : SelectorValue). v.half) same;
      generation = ap (λ (v : SelectorValue). v.generation) same;
      other = other;
      count = ap (λ (r : Replay). r.count) is ∙ omega (arith, replay_count nothing_yet records);
      previous = previous;
      names_are = ap (λ (r : Replay). r.names) is ∙ replay_names nothing_yet records;
      journal_last = refl;
      last_is = ap (λ (v : SelectorValue). max v.last replay.previous) same ∙ ap (max t.last) previous;
    }

-- what a reader finds in the half of the selector that stands there
found_there : (s t : SelectorValue) (records : List RecordValue) (image : List ℕ) → s ≡ t → HoldsJournal image t records → half_in s.half image ≡ Ok (replay_of nothing_yet records)
found_there s t records image same held = ap (λ (v : SelectorValue). half_in v.half image) same ∙ half_again t.half records image held.records_are

-- ---- faults

pub selector_fault : (old new : DiskView) (e : CellFault) → IsReadFault IsSelectorBreak (λ f. Shows old new (λ image. selection_of image ≡ Err f)) e
    → IsCellFault IsJournalBreak (λ f. Shows old new (λ image. journal_in image ≡ Err f)) e
selector_fault old new Memory is = tt
selector_fault old new DiskRead is = tt
selector_fault old new DiskWrite is = absurd is
selector_fault old new (Damaged at why) is = ((inl is.0.0, is.0.1), weaker old new (λ image sized none. no_selector image (Damaged at why) none) is.1)
selector_fault old new (NotAStore g m) is = absurd is.0
selector_fault old new (Version n) is = (is.0, weaker old new (λ image sized none. no_selector image (Version n) none) is.1)
selector_fault old new Numbers is = absurd is

module _ (s : Selection) (old mid new : DiskView) (before : OnlyReads old mid) (after : OnlyReads mid new) where
  pub half_fault : (e : CellFault) → s.selector.half ≤ 1 → Shows old mid (λ image. selection_of image ≡ Ok s) →
      IsCellFault (IsRecordBreak s.selector.half) (λ f. Shows mid new (λ image. half_in s.selector.half image ≡ Err f)) e
      → IsCellFault IsJournalBreak (λ f. Shows old new (λ image. journal_in image ≡ Err f)) e
  half_fault Memory small selector is = tt
  half_fault DiskRead small selector is = tt
  half_fault DiskWrite small selector is = absurd is
  half_fault (Damaged at why) small selector is = (
    (inr (s.selector.half, small, is.0.0), is.0.1),
    weaker old new (λ image sized read. half_of image s (Err (Damaged at why)) read.0 read.1) (both old mid new selector before is.1 after.later),
  )
  half_fault (NotAStore g m) small selector is = absurd is.0
  half_fault (Version n) small selector is = absurd is.0
  half_fault Numbers small selector is = absurd is

  -- ---- what was read

  module _ (replay : Replay) (whole : IsWhole (Shows mid new) s.selector.half replay) where
    pub scanned : IsSelector s.selector → Shows old mid (HoldsSelection s) → IsScanned (Shows old new) (opened s replay) replay.names (opened s replay).last
    scanned right selector =
        record {
          selector = s.selector;
          records = whole.records;
          holds = weaker old new (λ image sized seen. record { selector_is = seen.0.selector_is; older = seen.0.older; records_are = seen.1.holds })
              (both old mid new selector before whole.seen after.later);
          other = weaker old new (λ image sized seen. seen.other) (until old mid new selector before.later.clock_is after.later);
          selector_right = right;
          few = whole.few;
          right = whole.leave.right;
          told = record {
            half = refl;
            generation = refl;
            other = refl;
            count = whole.leave.count;
            previous = whole.leave.previous;
            names_are = whole.leave.names;
            journal_last = refl;
            last_is = ap (max s.selector.last) whole.leave.previous;
          };
        }

    -- the journal that stands there is the one that was read
    pub only_one : Shows old mid (HoldsSelection s) → Shows old mid (λ image. (t : SelectorValue) → HoldsSelector image t → IsOlder image t → s.selector ≡ t)
        → Shows old new (λ image. (t : SelectorValue) (records : List RecordValue) (is_open : Bool) → HoldsJournal image t records → KnowsOther is_open t.half image
        → IsTold is_open t records (opened s replay) replay.names (opened s replay).last)
    only_one held selector =
        weaker old new (λ image sized seen t records is_open there knows.
        let same : s.selector ≡ t = seen.0.1 t there.selector_is there.older in
        let other : s.other_open ≡ is_open =
        other_once s.other_open is_open t.half image (subst (λ (v : SelectorValue). KnowsOther s.other_open v.half image) same seen.0.0.other) knows in
        told_of s t is_open records replay same other (ok_replay replay (replay_of nothing_yet records) (sym seen.1.read ∙ found_there s.selector t records image same there)))
        (both old mid new (also old mid held selector) before whole.seen after.later)

  -- where a record has a fault, no journal stands there
  none_stands : (f : CellFault) → Shows old mid (λ image. (t : SelectorValue) → HoldsSelector image t → IsOlder image t → s.selector ≡ t) →
      Shows mid new (λ image. half_in s.selector.half image ≡ Err f)
      → Shows old new (λ image. (t : SelectorValue) (records : List RecordValue) (is_open : Bool) → HoldsJournal image t records → KnowsOther is_open t.half image →
      IsTrue (fails f))
  none_stands f selector fault =
      weaker old new (λ image sized seen t records is_open held knows. absurd
      (not_both (replay_of nothing_yet records) f (sym (found_there s.selector t records image (seen.0 t held.selector_is held.older) held) ∙ seen.1)))
      (both old mid new selector before fault after.later)

  -- where one stands, memory or the disk failed
  pub fails_alone : (e : CellFault) → Shows old mid (λ image. (t : SelectorValue) → HoldsSelector image t → IsOlder image t → s.selector ≡ t) →
      IsCellFault (IsRecordBreak s.selector.half) (λ f. Shows mid new (λ image. half_in s.selector.half image ≡ Err f)) e
      → Shows old new (λ image. (t : SelectorValue) (records : List RecordValue) (is_open : Bool) → HoldsJournal image t records → KnowsOther is_open t.half image →
      IsTrue (fails e))
  fails_alone Memory selector is = always old new _ (λ image sized t records is_open held knows. refl)
  fails_alone DiskRead selector is = always old new _ (λ image sized t records is_open held knows. refl)
  fails_alone DiskWrite selector is = absurd is
  fails_alone (Damaged at why) selector is = none_stands (Damaged at why) selector is.1
  fails_alone (NotAStore g m) selector is = absurd is.0
  fails_alone (Version n) selector is = absurd is.0
  fails_alone Numbers selector is = absurd is
