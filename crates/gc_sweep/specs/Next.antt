-- What comes next in a sweep (docs/MODEL.md, 'Sweeping').
use Rattle.std.specs.Prelude.{◌≡◌, ◌≢◌, ◌⊎◌, ◌<◌, ◌≤◌, ℕ, List, [], length, get_or, slice_get, Option, Some, option_map}
use Rattle.container_meta.specs.declared.kind.Kind.{Kind}
use Rattle.container_meta.specs.Segments.{Contents}
use Rattle.store_state.specs.declared.slot_table.SlotTable.{SlotTable}
use Rattle.gc_sweep.specs.declared.sweep.Next.{Next}
use Rattle.gc_sweep.specs.declared.sweep.Next.TheVariants.{Copy, Flush, Release, End}

-- the kind of the segments of a slot's container, by the table
abbrev pub kind_in : SlotTable → ℕ → Option Kind
kind_in t slot = option_map (λ c. c.kind) (slice_get t.counts.items slot)

-- The container of an id stands in a slot, and has segments of a kind; or of another one.
pub record IsOfKind (t : SlotTable) (id : ℕ) (kind : Kind) : Type 0 where
  pub slot : ℕ
  pub within : slot < length t.ids.items
  pub id_is : get_or t.ids.items slot 0 ≡ id
  pub kind_is : kind_in t slot ≡ Some kind

pub record IsOfOtherKind (t : SlotTable) (id : ℕ) (kind : Kind) : Type 0 where
  pub slot : ℕ
  pub within : slot < length t.ids.items
  pub id_is : get_or t.ids.items slot 0 ≡ id
  pub other : kind_in t slot ≢ Some kind

-- What comes where no source is ready, and the source of a number is to go on from the entry of a number: it is copied, if the container
-- that is filled has nothing yet, or segments of its kind; else that is written. Where no source is left, what there is is written, and
-- then it ends.
abbrev pub IsNext : SlotTable → List ℕ → Contents → ℕ → ℕ → Next → Type 0
IsNext t sources buffer source entry (Copy s e) =
    (s ≡ source) × (e ≡ entry) × (source < length sources)
    × ((buffer.segments ≡ []) ⊎ IsOfKind t (get_or sources source 0) buffer.kind)
IsNext t sources buffer source entry (Flush s e) =
    (s ≡ source) × (e ≡ entry) × (buffer.segments ≢ [])
    × ((length sources ≤ source) ⊎ IsOfOtherKind t (get_or sources source 0) buffer.kind)
IsNext t sources buffer source entry (Release s e) = ⊥
IsNext t sources buffer source entry End = (buffer.segments ≡ []) × (length sources ≤ source)
