-- An image with all of an empty store is one.
use Rattle.store_model.proofs.Prelude.{◌≡◌, ◌≢◌, inl, ℕ, zero, suc, ◌+◌, ◌<◌, IsTrue, false, List, length, Option, None, refl, sym, ap, arith, subst, nat_cmp, slice_cmp, range, byte_at, slot_at, cell_at, half_cells, selector_cell, CONTAINER_GATE, RECORD_GATE, SELECTOR_GATE, HeaderValue, Named, HoldSlots, DifferentIds, free_slots, HasFormat, AreCopies, AreNodes, IsFileOf, AreFilesOf}
use Rattle.std.proofs.Common.{replicate}
use Rattle.std.proofs.lemmas.List.{length-replicate}
use Rattle.std.specs.FinMap as finite
use Rattle.disk_format.specs.Layout.{IsSlotCount, size_of}
use Rattle.disk_format.specs.Cells.{first_selector}
use Rattle.store_model.specs.Files.{no_files}
use Rattle.store_model.specs.Standing.{IsFormatted}

-- so many closed slots
abbrev none_held : ℕ → List (Option HeaderValue)
none_held count = replicate count None

slots_closed : (slot count : ℕ) (image : List ℕ) → ((one : ℕ) → one < slot + count → byte_at (slot_at one) image ≢ CONTAINER_GATE) → HoldSlots slot (none_held count) image
slots_closed slot zero image closed = tt
slots_closed slot (suc count) image closed = (closed slot (omega arith), slots_closed (slot + 1) count image (λ one within. closed one (omega arith)))

ids_differ : (count : ℕ) → DifferentIds (none_held count)
ids_differ zero = tt
ids_differ (suc count) = ids_differ count

no_copies : (slot count : ℕ) (image : List ℕ) → AreCopies slot (none_held count) image
no_copies slot zero image = tt
no_copies slot (suc count) image = no_copies (slot + 1) count image

no_nodes : (slot count : ℕ) (image : List ℕ) → AreNodes slot (none_held count) image
no_nodes slot zero image = tt
no_nodes slot (suc count) image = no_nodes (slot + 1) count image

all_free : (count : ℕ) → free_slots (none_held count) ≡ count
all_free zero = refl
all_free (suc count) = ap suc (all_free count)

no_files_held : (held : List (Option HeaderValue)) (image : List ℕ) → AreFilesOf held finite.empty image no_files
no_files_held held image name =
    subst (λ (o : Option Named). IsFileOf held image o (finite.get no_files name)) (sym (finite.get-empty (slice_cmp nat_cmp) name))
    (subst (λ (o : Option (List ℕ)). IsFileOf held image None o) (sym (finite.get-empty (slice_cmp nat_cmp) name)) tt)

no_truth : IsTrue false → ⊥
no_truth is = cc

-- The cells of an empty store, and no other that is open.
pub record IsLaidOut (slots : ℕ) (image : List ℕ) : Type 0 where
  pub count : IsSlotCount slots
  pub size : length image ≡ size_of slots
  pub format : HasFormat slots image
  pub selector : range 512 512 image ≡ selector_cell first_selector
  pub other_selector : byte_at 1024 image ≢ SELECTOR_GATE
  pub records : (cell : ℕ) → cell < half_cells → byte_at (cell_at 0 cell) image ≢ RECORD_GATE
  pub containers : (slot : ℕ) → slot < slots → byte_at (slot_at slot) image ≢ CONTAINER_GATE

-- such an image is an empty store
pub formatted_holds : (slots : ℕ) (image : List ℕ) → IsLaidOut slots image → IsFormatted slots image
formatted_holds slots image laid = (
  record {
    right = record {
      count = laid.count;
      size = laid.size;
      format = laid.format;
      journal = record {
        selector_is = (record { from_one = omega arith; generation = omega arith; form = refl; half = omega arith; last = omega arith }, laid.selector);
        older = inl laid.other_selector;
        records_are = record { few = omega arith; right = tt; stand = tt; closed = λ cell first less. laid.records cell less };
      };
      other = (λ is. absurd (no_truth is), λ is. absurd (laid.other_selector is));
      many = length-replicate slots None;
      slots_are = slots_closed 0 slots image (λ one within. laid.containers one (omega arith));
      different = ids_differ slots;
    };
    copies = no_copies 0 slots image;
    nodes = no_nodes 0 slots image;
    files_are = no_files_held (none_held slots) image;
  },
  omega (arith, all_free slots, laid.count.0),
)
