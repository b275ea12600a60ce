-- The steps of an opening, one after the other.
use Rattle.recovery.proofs.Prelude.{inl, inr, ℕ, ◌≤◌, List, Result, Ok, Err, refl, sym, ◌∙◌, subst, arith, range, CELL_BYTES, IsSlotCount, size_of, DiskView, OnlyReads, ending_of, Reads, Shows, weaker, until, since, CellFault, Refusal, Memory, DiskRead, DiskWrite, Damaged, Store, OpenStore, blames, fails, AreSlots, IsSlotsRefusal, IsFound, IsOpenRefusal, IsFormatRefusal, cell_refusal}
use Rattle.std.proofs.Common.{◌≡◌}
use Rattle.std.specs.Prelude.{IsTrue}
use Rattle.std.specs.Result.{IsErrAnd}
use Rattle.disk_format.specs.declared.numbers.TheConstants.{LEAST_SIZE}
use Rattle.disk_format.specs.declared.why.Why.{Why}
use Rattle.dd_disk.proofs.Shows.{also, both}
use Rattle.dd_disk.proofs.Ended.{reads_blamed}
use Rattle.namespace.specs.Names.{NameMap}
use Rattle.journal_cells.specs.declared.fault.CellFault.TheVariants as cell
use Rattle.journal_cells.specs.Faults as cells
use Rattle.journal_cells.specs.Faults.{IsFormatBreak, IsJournalBreak, IsReadFault, IsCellFault}
use Rattle.journal_cells.specs.Heads.{format_in}
use Rattle.journal_cells.specs.Journal.{JournalValue, IsScanned, journal_in}
use Rattle.refusals.specs.declared.refusal.Refusal.TheVariants as refusals
use Rattle.refusals.specs.declared.refusal.Refusal.TheVariants.{Full, WrongSize}
use Rattle.store_model.specs.Journal.{KnowsOther}
use Rattle.store_model.specs.Image.{HasFormat}
use Rattle.store_model.proofs.Spellings.{same_format}
use Rattle.recovery.specs.Slots.{IsDamagedSlot}
use Rattle.recovery.specs.Opening.{IsSized, Opens, IsBeginRefusal, BreaksFormat, BreaksJournal, BreaksSlots}

-- ---- a refusal that says nothing of the image

fails_alike : (f : CellFault) → IsTrue (cells.fails f) → IsTrue (fails (cell_refusal f))
fails_alike cell.Memory is = is
fails_alike cell.DiskRead is = is
fails_alike cell.DiskWrite is = is
fails_alike (cell.Damaged at why) is = is
fails_alike (cell.NotAStore gate magic) is = is
fails_alike (cell.Version n) is = is
fails_alike cell.Numbers is = is

blames_alike : (f : CellFault) → cells.blames f ≡ blames (cell_refusal f)
blames_alike cell.Memory = refl
blames_alike cell.DiskRead = refl
blames_alike cell.DiskWrite = refl
blames_alike (cell.Damaged at why) = refl
blames_alike (cell.NotAStore gate magic) = refl
blames_alike (cell.Version n) = refl
blames_alike cell.Numbers = refl

-- a cell that was not read
pub cell_fails : (f : CellFault) (r : Refusal) → r ≡ cell_refusal f → IsTrue (cells.fails f) → IsTrue (fails r)
cell_fails f r is failed = subst (λ (x : Refusal). IsTrue (fails x)) (sym is) (fails_alike f failed)

pub cell_reads : (f : CellFault) (r : Refusal) (old new : DiskView) → r ≡ cell_refusal f → Reads (ending_of (cells.blames f)) old new → Reads (ending_of (blames r)) old new
cell_reads f r old new is reads =
    subst (λ (x : Refusal). Reads (ending_of (blames x)) old new) (sym is) (reads_blamed (cells.blames f) (blames (cell_refusal f)) old new (blames_alike f) reads)

-- a disk that is large enough
pub begin_fails : (size : ℕ) (r : Refusal) → IsBeginRefusal size r → LEAST_SIZE ≤ size → IsTrue (fails r)
begin_fails size DiskWrite is large = refl
begin_fails size (WrongSize want got) is large = absurd (omega (arith, is.1, large))
begin_fails size _ is large = absurd is

pub is_large : (slots size : ℕ) → IsSlotCount slots → size ≡ size_of slots → LEAST_SIZE ≤ size
is_large slots size count is = omega (arith, count.0, is)

-- a format cell says one number of slots
pub format_slots : (n m : ℕ) (image : List ℕ) → IsSlotCount n → IsSlotCount m → HasFormat n image → HasFormat m image → n ≡ m
format_slots n m image count other here there = same_format n m (omega (arith, count.1)) (omega (arith, other.1)) (sym here ∙ there)

-- what is refused before the last check
pub opens_passed : (store : Store) (result : Result OpenStore Refusal) (r : Refusal) → IsErrAnd result (λ y. y ≡ r) → IsTrue (fails r) → Opens store result
opens_passed store (Ok o) r passed is = absurd passed
opens_passed store (Err f) r passed is = by_refusal f (subst (λ (x : Refusal). IsTrue (fails x)) (sym passed) is)
  where
    by_refusal : (f : Refusal) → IsTrue (fails f) → Opens store (Err f)
    by_refusal (Full free) is = absurd cc
    by_refusal _ is = is

-- ---- why a disk was not opened

-- the journal with its own last sequence number
pub own_last : (shown : (List ℕ → Type 0) → Type 0) (journal : JournalValue) (names : NameMap) (last : ℕ) → IsScanned shown journal names last →
    IsScanned shown journal names journal.last
own_last shown journal names last is = subst (IsScanned shown journal names) (sym is.told.journal_last) is

module _ (old mid new : DiskView) (before : OnlyReads old mid) where
  -- the format cell was not read
  pub format_alone : LEAST_SIZE ≤ old.size → (f : CellFault) → IsReadFault IsFormatBreak (λ f. Shows mid new (λ image. format_in (range 0 CELL_BYTES image) ≡ Err f)) f →
      IsFormatRefusal (Shows old new) old.size (cell_refusal f)
  format_alone least = by_fault
    where
      breaks : (f : CellFault) → IsFormatBreak f → Shows mid new (λ image. format_in (range 0 CELL_BYTES image) ≡ Err f) → BreaksFormat (Shows old new) old.size f
      breaks f kind seen = record { least = least; kind = kind; shows = since old mid new before seen }

      by_fault : (f : CellFault) → IsReadFault IsFormatBreak (λ f. Shows mid new (λ image. format_in (range 0 CELL_BYTES image) ≡ Err f)) f →
          IsFormatRefusal (Shows old new) old.size (cell_refusal f)
      by_fault cell.Memory is = absurd is
      by_fault cell.DiskRead is = tt
      by_fault cell.DiskWrite is = tt
      by_fault (cell.Damaged at why) is = breaks (cell.Damaged at why) is.0 is.1
      by_fault (cell.NotAStore gate magic) is = breaks (cell.NotAStore gate magic) is.0 is.1
      by_fault (cell.Version n) is = breaks (cell.Version n) is.0 is.1
      by_fault cell.Numbers is = absurd is

  -- what is known after later calls that read
  pub scanned_since : (journal : JournalValue) (names : NameMap) (last : ℕ) → IsScanned (Shows mid new) journal names last → IsScanned (Shows old new) journal names last
  scanned_since journal names last is = record {
    selector = is.selector;
    records = is.records;
    holds = since old mid new before is.holds;
    other = since old mid new before is.other;
    selector_right = is.selector_right;
    few = is.few;
    right = is.right;
    told = is.told;
  }

  module _ (after : OnlyReads mid new) where
    sized_until : (slots : ℕ) → IsSized (Shows old mid) old.size slots → IsSized (Shows old new) old.size slots
    sized_until slots sized = record { count = sized.count; size_is = sized.size_is; format = until old mid new sized.format before.later.clock_is after.later }

    -- the journal was not read
    pub journal_refusal : (slots : ℕ) → IsSized (Shows old mid) old.size slots → (f : CellFault) →
        IsCellFault IsJournalBreak (λ f. Shows mid new (λ image. journal_in image ≡ Err f)) f → IsOpenRefusal (Shows old new) old.size (cell_refusal f)
    journal_refusal slots sized = by_fault
      where
        breaks : (f : CellFault) → IsJournalBreak f → Shows mid new (λ image. journal_in image ≡ Err f) → BreaksJournal (Shows old new) old.size f
        breaks f kind seen = record { slots = slots; sized = sized_until slots sized; kind = kind; shows = since old mid new before seen }

        by_fault : (f : CellFault) → IsCellFault IsJournalBreak (λ f. Shows mid new (λ image. journal_in image ≡ Err f)) f → IsOpenRefusal (Shows old new) old.size (cell_refusal f)
        by_fault cell.Memory is = tt
        by_fault cell.DiskRead is = tt
        by_fault cell.DiskWrite is = tt
        by_fault (cell.Damaged at why) is = inr (inl (breaks (cell.Damaged at why) is.0 is.1))
        by_fault (cell.NotAStore gate magic) is = absurd is.0
        by_fault (cell.Version n) is = inr (breaks (cell.Version n) is.0 is.1)
        by_fault cell.Numbers is = absurd is

    -- the slots were not read
    pub slots_refusal : (slots : ℕ) (journal : JournalValue) (names : NameMap) (last : ℕ) → IsSized (Shows old mid) old.size slots → IsScanned (Shows old mid) journal names last
        → (r : Refusal) → IsSlotsRefusal (Shows mid new) slots r → IsOpenRefusal (Shows old new) old.size r
    slots_refusal slots journal names last sized scanned = by_refusal
      where
        breaks : (at : ℕ) (why : Why) → IsDamagedSlot (Shows mid new) slots at why → BreaksSlots (Shows old new) old.size at why
        breaks at why is = record {
          slots = slots;
          sized = sized_until slots sized;
          selector = scanned.selector;
          records = scanned.records;
          journal = until old mid new scanned.holds before.later.clock_is after.later;
          damage = record {
            before = is.before;
            within = is.within;
            place = is.place;
            right = is.right;
            different = is.different;
            holds = since old mid new before is.holds;
            damage = record { bytes = is.damage.bytes; gate = is.damage.gate; damage_is = is.damage.damage_is; read_as = since old mid new before is.damage.read_as };
          };
        }

        by_refusal : (r : Refusal) → IsSlotsRefusal (Shows mid new) slots r → IsOpenRefusal (Shows old new) old.size r
        by_refusal Memory is = tt
        by_refusal DiskRead is = tt
        by_refusal (Damaged at why) is = inr (inr (breaks at why is))
        by_refusal _ is = absurd is

    -- what was read, as one store
    pub found_all : (o : OpenStore) → IsSized (Shows old mid) old.size o.slots → IsScanned (Shows old mid) o.journal o.names o.journal.last →
        AreSlots (Shows mid new) o.slots o.containers → IsFound (Shows old new) old.size o
    found_all o sized scanned slots = record {
      store = record { slots = o.slots; selector = scanned.selector; other_open = o.journal.other_open; records = scanned.records; held = slots.held };
      represents = record { slots_are = refl; journal = scanned.told; containers = slots.represents };
      valid = record {
        count = sized.count;
        size_is = sized.size_is;
        selector_right = scanned.selector_right;
        few = scanned.few;
        follow = scanned.right;
        many = slots.many;
        headers = slots.right;
        different = slots.different;
      };
      right = weaker old new (λ image long seen. record {
        count = sized.count;
        size = long ∙ sized.size_is;
        format = seen.0.0.0;
        journal = seen.0.0.1;
        other = subst (λ (h : ℕ). KnowsOther o.journal.other_open h image) scanned.told.half seen.0.1;
        many = slots.many;
        slots_are = seen.1;
        different = slots.different;
      }) (both old mid new (also old mid (also old mid sized.format scanned.holds) scanned.other) before slots.holds after.later);
    }

-- each is why a disk was not opened
pub open_refusal : (shown : (List ℕ → Type 0) → Type 0) (size : ℕ) (refusal : Refusal) → IsFormatRefusal shown size refusal → IsOpenRefusal shown size refusal
open_refusal shown size refusals.DiskRead is = tt
open_refusal shown size refusals.DiskWrite is = tt
open_refusal shown size (refusals.WrongSize want got) is = is
open_refusal shown size (refusals.NotAStore gate magic) is = is
open_refusal shown size (refusals.Version n) is = inl is
open_refusal shown size (refusals.Damaged at why) is = inl is
open_refusal shown size refusal is = absurd is
