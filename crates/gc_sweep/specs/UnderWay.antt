-- How far a sweep has come, by the table of slots (docs/MODEL.md, 'Sweeping').
use Rattle.std.specs.Prelude.{◌≡◌, ◌≢◌, ◌⊎◌, ℕ, ◌+◌, ◌*◌, ◌<◌, ◌≤◌, ◌==◌, ◌&&◌, not, nat_lt, nat_eq, if◌then◌else◌, Bool, true, List, [], ◌++◌, length, get_or, count_by, Contains}
use Rattle.std.specs.List.{AllByRecursion, IsDistinct}
use Rattle.disk_format.specs.declared.numbers.TheConstants.{MOST_ENTRIES, MOST_SLOTS, RESERVE}
use Rattle.store_state.specs.declared.slot_table.SlotTable.{SlotTable}
use Rattle.gc_sweep.specs.declared.sweep.Next.{Next}
use Rattle.gc_sweep.specs.declared.sweep.Next.TheVariants.{Copy, Flush, Release, End}
use Rattle.gc_sweep.specs.declared.sweep.Sweep.{Sweep}
use Rattle.gc_sweep.specs.Next.{IsOfKind}

-- how many slots are closed, by the table
abbrev pub free_in : SlotTable → ℕ
free_in t = count_by (λ id. id == 0) t.ids.items

-- a container of this id was there when the collection began
abbrev pub is_old : ℕ → ℕ → Bool
is_old snapshot id = not (id == 0) && nat_lt id snapshot

-- how many sources came to their end
abbrev pub sources_before : Sweep → Next → ℕ
sources_before s (Copy source entry) = source
sources_before s (Flush source entry) = source
sources_before s (Release source entry) = source
sources_before s End = length s.sources.items

-- the entry from which the source after these goes on
abbrev pub entry_in : Next → ℕ
entry_in (Copy source entry) = entry
entry_in (Flush source entry) = entry
entry_in (Release source entry) = entry
entry_in End = 0

-- The slot has a container still: that of a source which came to its end.
pub record IsTaken (t : SlotTable) (sources : List ℕ) (before slot : ℕ) : Type 0 where
  pub within : slot < length t.ids.items
  pub number : ℕ
  pub taken : number < before
  pub id_is : get_or t.ids.items slot 0 ≡ get_or sources number 0

-- Each source is a container that was there when the collection began, and from a number on each is there still.
pub record AreLeft (t : SlotTable) (snapshot : ℕ) (sources : List ℕ) (from : ℕ) : Type 0 where
  pub old : (i : ℕ) → i < length sources → is_old snapshot (get_or sources i 0) ≡ true
  pub there : (i : ℕ) → from ≤ i → i < length sources → Contains t.ids.items (get_or sources i 0)

-- what holds of a sweep by what comes next of it; a source goes on from an entry only after all that was copied is written
abbrev pub HasNext : SlotTable → Sweep → Next → Type 0
HasNext t s (Copy source entry) =
    (source < length s.sources.items) × (s.ready.items ≡ []) × (0 < entry → s.buffer.segments ≡ [])
    × ((s.buffer.segments ≡ []) ⊎ IsOfKind t (get_or s.sources.items source 0) s.buffer.kind)
HasNext t s (Flush source entry) =
    (s.ready.items ≡ []) × (s.buffer.segments ≢ []) × (0 < entry → source < length s.sources.items)
HasNext t s (Release source entry) =
    (s.ready.items ≢ []) × (0 < entry → (source < length s.sources.items) × (s.buffer.segments ≡ []))
HasNext t s End = (s.ready.items ≡ []) × (s.buffer.segments ≡ [])

-- how many slots of the reserve what was written may have taken: one, while a source is ready
abbrev pub taken_from : Next → ℕ
taken_from (Release source entry) = 1
taken_from next = 0

-- A sweep is under way. No source comes twice. Those that came to their end and were not given back are in slots of their own; some wait
-- just where there is something to be written. Two steps at most copy a source, and one has copied a source that goes on from an entry. The
-- slots of the reserve are closed; while a source is ready one may be missing.
pub record IsSweeping (t : SlotTable) (snapshot : ℕ) (s : Sweep) : Type 0 where
  pub once : IsDistinct nat_eq s.sources.items
  pub few : length s.sources.items ≤ MOST_SLOTS
  pub before : sources_before s s.next ≤ length s.sources.items
  pub left : AreLeft t snapshot s.sources.items (sources_before s s.next)
  pub taken : AllByRecursion (IsTaken t s.sources.items (sources_before s s.next)) (s.waiting.items ++ s.ready.items)
  pub apart : IsDistinct nat_eq (s.waiting.items ++ s.ready.items)
  pub counted : s.freed + length s.waiting.items + length s.ready.items ≤ sources_before s s.next
  pub waits : s.buffer.segments ≡ [] → s.waiting.items ≡ []
  pub fills : s.waiting.items ≡ [] → s.buffer.segments ≡ []
  pub few_copied : s.copied ≤ MOST_ENTRIES * (2 * sources_before s s.next + (if nat_lt 0 (entry_in s.next) then 1 else 0))
  pub next_is : HasNext t s s.next
  pub room : RESERVE ≤ free_in t + taken_from s.next
