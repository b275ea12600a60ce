-- What a slot holds while a container is written into it or taken out, and after.
use Rattle.std.specs.Prelude.{◌⊎◌, ℕ, List, Some, None}
use Rattle.base_model.specs.Frames.{SameOutside}
use Rattle.disk_format.specs.declared.numbers.TheConstants.{SLOT_BYTES}
use Rattle.disk_format.specs.Layout.{slot_at}
use Rattle.container_meta.specs.declared.kind.Kind.{Kind}
use Rattle.container_meta.specs.Segments.{Segment}
use Rattle.container_meta.specs.Spelling.{HeaderValue}
use Rattle.store_model.specs.Slots.{HoldsSlot, HoldsContainer}

-- all bytes but the slot's are as they were
abbrev pub SameButSlot : ℕ → List ℕ → List ℕ → Type 0
SameButSlot slot old new = SameOutside (slot_at slot) SLOT_BYTES old new

-- A container is being written: from an image, a slot that was closed is closed still; or, from what the disk gave at the
-- start, the slot is closed or has the container. All else is as it was there.
abbrev pub Seals : ℕ → ℕ → Kind → List Segment → List ℕ → List ℕ → List ℕ → Type 0
Seals slot id kind segments given old new =
    (SameButSlot slot old new × (HoldsSlot old slot None → HoldsSlot new slot None))
    ⊎ (SameButSlot slot given new × (HoldsSlot new slot None ⊎ HoldsContainer new slot id kind segments))

-- the slot has the container, and all else is as it was
abbrev pub IsSealed : ℕ → ℕ → Kind → List Segment → List ℕ → List ℕ → Type 0
IsSealed slot id kind segments given new = SameButSlot slot given new × HoldsContainer new slot id kind segments

-- all bytes but the slot's gate are as they were
abbrev pub SameButGate : ℕ → List ℕ → List ℕ → Type 0
SameButGate slot old new = SameOutside (slot_at slot) 1 old new

-- A slot is being closed: one that had a container has it still, or is closed; all else is as it was.
abbrev pub Frees : ℕ → List ℕ → List ℕ → Type 0
Frees slot old new =
    SameButGate slot old new × ((h : HeaderValue) → HoldsSlot old slot (Some h) → HoldsSlot new slot None ⊎ HoldsSlot new slot (Some h))

-- the slot is closed, and all but its gate is as it was
abbrev pub IsFreed : ℕ → List ℕ → List ℕ → Type 0
IsFreed slot given new = SameButGate slot given new × HoldsSlot new slot None
