-- Making an empty store (docs/MODEL.md, 'Formatting').
use Rattle.std.specs.Prelude.{◌≡◌, ◌≢◌, ◌⊎◌, ℕ, ◌-◌, zero, suc, List, [], ◌∷◌, length}
use Rattle.base_model.specs.Bytes.{written, byte_at, zeros}
use Rattle.disk_format.specs.declared.numbers.TheConstants.{FORMAT_GATE, FIRST_SELECTOR, FIRST_SLOT}
use Rattle.disk_format.specs.Layout.{size_of, slot_at}
use Rattle.disk_format.specs.Cells.{selector_cell, first_selector}
use Rattle.dd_disk.specs.View.{DiskView, IsLater, CrashLeaves}
use Rattle.refusals.specs.declared.refusal.Refusal.{Refusal}
use Rattle.refusals.specs.declared.refusal.Refusal.TheVariants.{Memory, DiskRead, DiskWrite, AlreadyStore, WrongSize}
use Rattle.store_model.specs.Image.{IsBlankOf}
use Rattle.store_model.specs.Standing.{IsFormatted}

-- no store, or an empty one
abbrev pub IsBlankOrFormatted : ℕ → List ℕ → Type 0
IsBlankOrFormatted slots image = IsBlankOf slots image ⊎ IsFormatted slots image

-- Nothing was written, or the disk had the size of so many slots and no store, and has none or an empty one.
abbrev pub IsLeftByFormat : ℕ → List ℕ → List ℕ → Type 0
IsLeftByFormat slots old new = (new ≡ old) ⊎ ((length old ≡ size_of slots) × (byte_at 0 old ≢ FORMAT_GATE) × IsBlankOrFormatted slots new)

-- Why a disk isn't formatted. Want of memory is free, and the count of faults says whether a call of the disk failed.
abbrev pub IsFormatRefusal : ((List ℕ → Type 0) → Type 0) → ℕ → ℕ → Refusal → Type 0
IsFormatRefusal shown size slots Memory = Unit {0}
IsFormatRefusal shown size slots DiskRead = Unit {0}
IsFormatRefusal shown size slots DiskWrite = (size ≡ size_of slots) × shown (λ image. byte_at 0 image ≢ FORMAT_GATE)
IsFormatRefusal shown size slots AlreadyStore = (size ≡ size_of slots) × shown (λ image. byte_at 0 image ≡ FORMAT_GATE)
IsFormatRefusal shown size slots (WrongSize want got) = (want ≡ size_of slots) × (got ≡ size) × (want ≢ got)
IsFormatRefusal shown size slots _ = ⊥

-- ---- what is written before the format cell

-- an image with the first so many slots closed
unfoldable pub with_closed : ℕ → List ℕ → List ℕ
with_closed zero old = old
with_closed (suc slot) old = written (slot_at slot) (0 ∷ []) (with_closed slot old)

-- an image with zeros in place of its selectors and journal, its slots closed, and then the first selector
unfoldable pub laid_out : ℕ → List ℕ → List ℕ
laid_out slots old =
    let blanked = written FIRST_SELECTOR (zeros (FIRST_SLOT - FIRST_SELECTOR)) old in
    written FIRST_SELECTOR (selector_cell first_selector) (with_closed slots blanked)

-- Calls that open no store: where no image that a crash may leave has one, none has one after them.
pub record StaysBlank (slots : ℕ) (old new : DiskView) : Type 0 where
  pub later : IsLater old new
  pub left : ((c : List ℕ) → old.images c → IsBlankOf slots c) → CrashLeaves (IsBlankOf slots) old new
