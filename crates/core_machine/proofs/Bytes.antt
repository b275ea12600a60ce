-- Lists of bytes of which some were written: what of a store is as it was.
use Rattle.core_machine.proofs.Prelude.{◌≡◌, ◌≢◌, inl, inr, ◌<◌, ◌≤◌, ◌+◌, ◌-◌, ℕ, Bool, List, length, Option, Some, None, refl, sym, ◌∙◌, subst, arith, AllByRecursion, lt-ltb, SameOutside, Known, KnownWith, Both, half_cells, slot_at, SLOT_BYTES, SameButSlotOf, SameBefore, SameButGates, Store, Tables, OnlyGates, ◌⊎◌}
use Rattle.std.specs.Prelude.{Contains}
use Rattle.std.proofs.lemmas.Bool.{cases_lt}
use Rattle.base_model.specs.Bytes.{range}
use Rattle.ingest_steps.specs.SealingAll.{SameButSlotsOf}
use Rattle.disk_format.specs.Layout.{cell_at}
use Rattle.disk_format.specs.declared.numbers.TheConstants.{CELL_BYTES, FIRST_HALF}
use Rattle.ingest_steps.specs.Recording.{SameButRecord as SameButRecordOf, SameButRecordBy}
use Rattle.ingest_steps.proofs.RecordFrames.{record_alone}
use Rattle.gc_sweep.proofs.InSlots.{of_each}
use Rattle.store_core.proofs.FilledSlots.{IsOutOf}
use Rattle.store_model.specs.Steps.{HasCellsFor}
use Rattle.store_model.proofs.Journaled.{SameButJournal}
use Rattle.store_machine.proofs.Released.{all_in}
use Rattle.core_machine.specs.Bytes.{SameBut, SameJournal}

pub before_same : (place : ℕ) (bytes : List ℕ) → SameBefore place bytes bytes
before_same place bytes = record { size = refl; before = λ p n within. refl }

-- ---- what is known of contents

-- two contents of which one is told
pub both_known : (R : List ℕ → List ℕ → Type 0) (was now : Option (List ℕ)) (old : List ℕ) → was ≡ Some old → Both R was now → KnownWith now (R old)
both_known R was now old is both = told now (subst (λ (o : Option (List ℕ)). Both R o now) is both)
  where
    told : (now : Option (List ℕ)) → Both R (Some old) now → KnownWith now (R old)
    told None both = absurd both
    told (Some new) both = (new, refl, both)

-- what is known of the content that is told is so of any that is
pub known_of : (was : Option (List ℕ)) (old : List ℕ) (P : List ℕ → Type 0) → was ≡ Some old → P old → Known was P
known_of was old P is so other there = subst P (let same : old ≡ other = let both : Some old ≡ Some other = sym is ∙ there in cc in same) so

pub known_weaker : (now : Option (List ℕ)) (P Q : List ℕ → Type 0) → ((new : List ℕ) → P new → Q new) → KnownWith now P → KnownWith now Q
known_weaker now P Q more (new, is, so) = (new, is, more new so)

-- ---- nothing before the end of the slots is another

module _ (slots : ℕ) (old new : List ℕ) (same : SameBefore (slot_at slots) old new) where
  pub but_none : (Any : Type 0) (P : ℕ → ℕ → Type 0) (Q : ℕ → Type 0) → SameBut Any P Q slots old new
  but_none Any P Q = record {
    size_is = same.size;
    format = same.before 0 CELL_BYTES (omega arith);
    journal = λ all. record {
      head = same.before 0 FIRST_HALF (omega arith);
      cells = λ half cell low within other. same.before (cell_at half cell) CELL_BYTES (omega (arith, low, within));
    };
    slots_are = λ slot within other. same.before (slot_at slot) SLOT_BYTES (omega (arith, within));
  }

  pub but_gates_none : (gone : List ℕ) → AllByRecursion (λ slot. slot < slots) gone → OnlyGates gone slots old new
  but_gates_none gone within = record {
    rest = but_none (Unit {0}) (λ half cell. ⊥) (λ other. Contains gone other);
    bodies = λ slot there.
        same.before (slot_at slot + 1) (SLOT_BYTES - 1)
        (let below : slot < slots = of_each (λ other. other < slots) gone slot within there in omega (arith, below));
  }

-- ---- and then the gates of some slots may be

module _ (slots : ℕ) (gone : List ℕ) (within : AllByRecursion (λ slot. slot < slots) gone) (old mid new : List ℕ) (first : SameBefore (slot_at slots) old mid)
    (gates : SameButGates gone mid new) where
  kept : (p n : ℕ) → p + n ≤ slot_at slots → ((slot : ℕ) → Contains gone slot → (p + n ≤ slot_at slot) ⊎ (slot_at slot < p)) → range p n new ≡ range p n old
  kept p n before none = gates.same p n (all_in (λ slot. (p + n ≤ slot_at slot) ⊎ (slot_at slot < p)) gone none) ∙ first.before p n before

  -- all before the slots
  front : (p n : ℕ) → p + n ≤ slot_at 0 → range p n new ≡ range p n old
  front p n before = kept p n (omega (arith, before)) (λ slot there. inl (omega (arith, before)))

  other_slot : (other : ℕ) → other < slots → ¬ (Contains gone other) → range (slot_at other) SLOT_BYTES new ≡ range (slot_at other) SLOT_BYTES old
  other_slot other below differs = kept (slot_at other) SLOT_BYTES (omega (arith, below)) outside
    where
      outside : (slot : ℕ) → Contains gone slot → (slot_at other + SLOT_BYTES ≤ slot_at slot) ⊎ (slot_at slot < slot_at other)
      outside slot there = elim (cases_lt other slot) [
        | inl less ↦ inl (omega (arith, less))
        | inr more ↦ inr (let apart : slot ≢ other = λ same. differs (subst (Contains gone) same there) in omega (arith, more, apart))
      ]

  body : (slot : ℕ) → slot < slots → range (slot_at slot + 1) (SLOT_BYTES - 1) new ≡ range (slot_at slot + 1) (SLOT_BYTES - 1) old
  body slot below = kept (slot_at slot + 1) (SLOT_BYTES - 1) (omega (arith, below)) outside
    where
      outside : (other : ℕ) → Contains gone other → (slot_at slot + 1 + (SLOT_BYTES - 1) ≤ slot_at other) ⊎ (slot_at other < slot_at slot + 1)
      outside other there = elim (cases_lt slot other) [ inl less ↦ inl (omega (arith, less)) | inr more ↦ inr (omega (arith, more)) ]

  pub but_gates : OnlyGates gone slots old new
  but_gates = record {
    rest = record {
      size_is = gates.size ∙ first.size;
      format = front 0 CELL_BYTES (omega arith);
      journal = λ all. record {
        head = front 0 FIRST_HALF (omega arith);
        cells = λ half cell low less other. front (cell_at half cell) CELL_BYTES (omega (arith, low, less));
      };
      slots_are = λ other below differs. other_slot other below differs;
    };
    bodies = λ slot there. body slot (of_each (λ other. other < slots) gone slot within there);
  }

-- ---- a slot may be

module _ (slots slot : ℕ) (old new : List ℕ) (same : SameButSlotOf slots slot old new) (within : slot < slots) where
  another_slot : (other : ℕ) → other < slots → other ≢ slot → range (slot_at other) SLOT_BYTES new ≡ range (slot_at other) SLOT_BYTES old
  another_slot other below differs = elim (cases_lt other slot) [
    | inl less ↦ same.before (slot_at other) SLOT_BYTES (omega (arith, less))
    | inr more ↦ same.after (slot_at other) SLOT_BYTES (omega (arith, more, differs)) (omega (arith, below))
  ]

  pub but_slot : SameBut (Unit {0}) (λ half cell. ⊥) (λ other. other ≡ slot) slots old new
  but_slot = record {
    size_is = same.size;
    format = same.before 0 CELL_BYTES (omega arith);
    journal = λ all. record {
      head = same.before 0 FIRST_HALF (omega arith);
      cells = λ half cell low less other. same.before (cell_at half cell) CELL_BYTES (omega (arith, low, less));
    };
    slots_are = λ other below differs. another_slot other below differs;
  }

-- ---- several slots may be

module _ (slots : ℕ) (taken old new : List ℕ) (same : SameButSlotsOf slots taken old new) where
  pub but_slots : (Q : ℕ → Type 0) → ((slot : ℕ) → ¬ (Q slot) → IsOutOf taken slot) → SameBut (Unit {0}) (λ half cell. ⊥) Q slots old new
  but_slots Q others = record {
    size_is = same.size;
    format = same.same 0 CELL_BYTES (λ i other here. inl (omega arith), omega arith);
    journal = λ all. record {
      head = same.same 0 FIRST_HALF (λ i other here. inl (omega arith), omega arith);
      cells = λ half cell low less other. same.same (cell_at half cell) CELL_BYTES (λ i slot here. inl (omega (arith, low, less)), omega (arith, low, less));
    };
    slots_are = λ slot below none.
        same.same (slot_at slot) SLOT_BYTES (λ i other here. by_side slot other (others slot none i other here), omega (arith, below));
  }
    where
      by_side : (slot other : ℕ) → slot ≢ other → (slot_at slot + SLOT_BYTES ≤ slot_at other) ⊎ (slot_at other + SLOT_BYTES ≤ slot_at slot)
      by_side slot other differs = elim (cases_lt slot other) [ inl less ↦ inl (omega (arith, less)) | inr more ↦ inr (omega (arith, more, differs)) ]

-- ---- the bytes of a record may be

module _ (store : Store) (t : Tables) (half_is : t.journal.half ≡ store.selector.half) (count_is : t.journal.count ≡ length store.records) (low : t.journal.half ≤ 1)
    (old mid new : List ℕ) (first : SameBefore (slot_at store.slots) old mid) (same : SameButRecordOf t.journal mid new) where
  alone : SameButJournal mid new
  alone = record_alone t.journal mid new low same

  -- where its half has a cell more that one alone is another
  module _ (has : HasCellsFor store 1) where
    room : t.journal.count < half_cells
    room = omega (arith, has, count_is)

    next : SameOutside (cell_at t.journal.half t.journal.count) CELL_BYTES mid new
    next = subst (λ (b : Bool). SameButRecordBy b t.journal mid new) (lt-ltb t.journal.count half_cells room) same

    cell_same : (half cell : ℕ) → half ≤ 1 → cell < half_cells → cell_at half cell ≢ cell_at t.journal.half t.journal.count
        → range (cell_at half cell) CELL_BYTES new ≡ range (cell_at half cell) CELL_BYTES mid
    cell_same half cell few within differs = elim (cases_lt (cell_at half cell) (cell_at t.journal.half t.journal.count)) [
      | inl less ↦ next.before (cell_at half cell) CELL_BYTES (omega (arith, less))
      | inr more ↦ next.after (cell_at half cell) CELL_BYTES (omega (arith, more, differs))
    ]

    -- each place has one half and one cell
    the_half : (half cell : ℕ) → half ≤ 1 → cell < half_cells → cell_at half cell ≡ cell_at t.journal.half t.journal.count → half ≡ t.journal.half
    the_half half cell few within is = omega (arith, few, within, is, low, room)

    the_cell : (half cell : ℕ) → half ≤ 1 → cell < half_cells → cell_at half cell ≡ cell_at t.journal.half t.journal.count → cell ≡ t.journal.count
    the_cell half cell few within is = omega (arith, few, within, is, low, room)

    one_cell : SameJournal (λ half cell. (half ≡ store.selector.half) × (cell ≡ length store.records)) old new
    one_cell = record {
      head = next.before 0 FIRST_HALF (omega arith) ∙ first.before 0 FIRST_HALF (omega arith);
      cells = λ half cell few within other.
          cell_same half cell few within (λ is. other (the_half half cell few within is ∙ half_is, the_cell half cell few within is ∙ count_is))
          ∙ first.before (cell_at half cell) CELL_BYTES (omega (arith, few, within));
    }

  pub but_record : SameBut (HasCellsFor store 1) (λ half cell. (half ≡ store.selector.half) × (cell ≡ length store.records)) (λ slot. ⊥) store.slots old new
  but_record = record {
    size_is = alone.size ∙ first.size;
    format = alone.format ∙ first.before 0 CELL_BYTES (omega arith);
    journal = λ has. one_cell has;
    slots_are = λ slot within other. alone.slots (slot_at slot) SLOT_BYTES (omega arith) ∙ first.before (slot_at slot) SLOT_BYTES (omega (arith, within));
  }
