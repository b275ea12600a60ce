-- What an image keeps of a store where parts of it are as they were.
use Rattle.store_model.proofs.Prelude.{◌≡◌, inl, inr, ℕ, ◌+◌, ◌-◌, ◌<◌, ◌≤◌, Bool, List, [], ◌∷◌, ◌++◌, length, Option, Some, None, sym, ◌∙◌, ap, arith, AllByRecursion, sum_by-append, sum_by-cons, sha256, range, byte_at, FIRST_SLOT, SLOT_BYTES, RecordValue, SelectorValue, slot_at, data_at, selector_at, cell_at, half_cells, Entry, Kind, HeaderValue, IsHeader, bytes_of, HoldsSelector, IsOlder, KnowsOther, StandFrom, HoldsSlot, HoldSlots, AreHeaders, Copy, newest, HasFormat, AreCopies, bytes_at}
use Rattle.container_meta.specs.Spelling.{header_size}
use Rattle.container_meta.proofs.Again.{header_fits}
use Rattle.base_model.proofs.ByteAt.{byte_of_range}
use Rattle.disk_format.specs.declared.numbers.TheConstants.{FIRST_HALF}
use Rattle.container_meta.specs.Spelling.{Follow}
use Rattle.store_model.specs.Journal.{HoldsJournal, ClosedFrom}
use Rattle.store_model.proofs.Copies.{data_within, newest_within}

-- the bytes before a place are as they were
abbrev pub SameTo : ℕ → List ℕ → List ℕ → Type 0
SameTo place old new = (p n : ℕ) → p + n ≤ place → range p n new ≡ range p n old

-- and those of a slot
abbrev pub SameSlot : ℕ → List ℕ → List ℕ → Type 0
SameSlot slot old new = (p n : ℕ) → slot_at slot ≤ p → p + n ≤ slot_at slot + SLOT_BYTES → range p n new ≡ range p n old

-- and those of so many slots, from one on
abbrev pub SameSlots : ℕ → ℕ → List ℕ → List ℕ → Type 0
SameSlots from count old new = (slot : ℕ) → from ≤ slot → slot < from + count → SameSlot slot old new

-- ---- the cells before the journal's halves

module _ (old new : List ℕ) (same : SameTo FIRST_HALF old new) where
  pub format_kept : (slots : ℕ) → HasFormat slots old → HasFormat slots new
  format_kept slots format = same 0 512 (omega arith) ∙ format

  pub selector_kept : (s : SelectorValue) → HoldsSelector old s → HoldsSelector new s
  selector_kept s holds = (holds.0, same (selector_at s.half) 512 (omega (arith, holds.0.half)) ∙ holds.1)

  pub older_kept : (s : SelectorValue) → IsOlder old s → IsOlder new s
  older_kept s (inl closed) =
      let here : range (selector_at (1 - s.half)) 1 new ≡ range (selector_at (1 - s.half)) 1 old = same (selector_at (1 - s.half)) 1 (omega arith) in
      inl (λ opened. closed (sym (byte_of_range (selector_at (1 - s.half)) old new here) ∙ opened))
  older_kept s (inr (t, half, holds, lower)) = inr (t, half, selector_kept t holds, lower)

  -- and its gate
  pub other_kept : (is_open : Bool) (half : ℕ) → KnowsOther is_open half old → KnowsOther is_open half new
  other_kept is_open half knows =
      let here : byte_at (selector_at (1 - half)) new ≡ byte_at (selector_at (1 - half)) old =
      byte_of_range (selector_at (1 - half)) old new (same (selector_at (1 - half)) 1 (omega arith)) in
      (λ is. here ∙ knows.0 is, λ is. knows.1 (sym here ∙ is))

-- ---- all before the slots

module _ (old new : List ℕ) (same : SameTo FIRST_SLOT old new) where
  to_halves : SameTo FIRST_HALF old new
  to_halves p n within = same p n (omega (arith, within))

  stand_kept : (half cell : ℕ) (records : List RecordValue) → half ≤ 1 → cell + length records ≤ half_cells → StandFrom half cell records old → StandFrom half cell records new
  stand_kept half cell [] low few stands = tt
  stand_kept half cell (r ∷ rs) low few stands = (same (cell_at half cell) 512 (omega arith) ∙ stands.0, stand_kept half (cell + 1) rs low (omega arith) stands.1)

  gate_kept : (half cell : ℕ) → half ≤ 1 → cell < half_cells → byte_at (cell_at half cell) new ≡ byte_at (cell_at half cell) old
  gate_kept half cell low within = byte_of_range (cell_at half cell) old new (same (cell_at half cell) 1 (omega arith))

  -- cells that aren't open
  closed_kept : (half from : ℕ) → half ≤ 1 → ClosedFrom half from old → ClosedFrom half from new
  closed_kept half from low closed cell first within opened = closed cell first within (sym (gate_kept half cell low within) ∙ opened)

  pub journal_kept : (selector : SelectorValue) (records : List RecordValue) → HoldsJournal old selector records → HoldsJournal new selector records
  journal_kept selector records journal =
      let low : selector.half ≤ 1 = journal.selector_is.0.half in
      record {
        selector_is = selector_kept old new to_halves selector journal.selector_is;
        older = older_kept old new to_halves selector journal.older;
        records_are = record {
          few = journal.records_are.few;
          right = journal.records_are.right;
          stand = stand_kept selector.half 0 records low (omega (arith, journal.records_are.few)) journal.records_are.stand;
          closed = closed_kept selector.half (length records) low journal.records_are.closed;
        };
      }

-- ---- a slot

-- the entries of a slot have the digests of their bytes
abbrev pub HaveDigests : ℕ → List Entry → List ℕ → Type 0
HaveDigests slot entries image = AllByRecursion (λ e. sha256 (range (data_at slot + e.offset) e.length image) ≡ e.digest) entries

module _ (slot : ℕ) (old new : List ℕ) (same : SameSlot slot old new) where
  -- what it holds
  pub slot_kept : (held : Option HeaderValue) → HoldsSlot old slot held → HoldsSlot new slot held
  slot_kept None closed = λ opened. closed (sym (byte_of_range (slot_at slot) old new (same (slot_at slot) 1 (omega arith) (omega arith))) ∙ opened)
  slot_kept (Some h) holds = (holds.0, same (slot_at slot) (header_size h) (omega arith) (omega (arith, header_fits h holds.0)) ∙ holds.1)

  -- the bytes of a segment
  pub place_kept : (offset n : ℕ) → offset + n ≤ 212480 → range (data_at slot + offset) n new ≡ range (data_at slot + offset) n old
  place_kept offset n within = same (data_at slot + offset) n (omega arith) (omega (arith, within))

  entries_kept : (kind : Kind) (before entries : List Entry) → Follow kind before entries → bytes_of before + bytes_of entries ≤ 212480 → HaveDigests slot entries old →
      HaveDigests slot entries new
  entries_kept kind before [] follow few all = tt
  entries_kept kind before (e ∷ es) follow few all =
      let here = place_kept e.offset e.length (omega (arith, follow.0.offset, few, sum_by-cons (λ (y : Entry). y.length) e es)) in
      let more : bytes_of (before ++ e ∷ []) + bytes_of es ≤ 212480 =
      omega (arith, few, sum_by-cons (λ (y : Entry). y.length) e es, sum_by-append (λ (y : Entry). y.length) before (e ∷ []), sum_by-cons (λ (y : Entry). y.length) e []) in
      (ap sha256 here ∙ all.0, entries_kept kind (before ++ e ∷ []) es follow.1 more all.1)

  -- its entries
  pub digests_kept : (h : HeaderValue) → IsHeader h → HaveDigests slot h.entries old → HaveDigests slot h.entries new
  digests_kept h right = entries_kept h.kind [] h.entries right.entries (omega (arith, data_within h right))

-- ---- slots in a row

module _ (old new : List ℕ) where
  -- what each holds
  pub slots_kept : (from : ℕ) (held : List (Option HeaderValue)) → SameSlots from (length held) old new → HoldSlots from held old → HoldSlots from held new
  slots_kept from [] same holds = tt
  slots_kept from (c ∷ cs) same holds = (
    slot_kept from old new (same from (omega arith) (omega arith)) c holds.0,
    slots_kept (from + 1) cs (λ slot above below. same slot (omega (arith, above)) (omega (arith, below))) holds.1,
  )

  -- and that the bytes of each entry have its digest
  pub copies_kept : (from : ℕ) (held : List (Option HeaderValue)) → SameSlots from (length held) old new → AreHeaders held → AreCopies from held old → AreCopies from held new
  copies_kept from [] same headers copies = tt
  copies_kept from (None ∷ cs) same headers copies = copies_kept (from + 1) cs (λ slot above below. same slot (omega (arith, above)) (omega (arith, below))) headers copies
  copies_kept from (Some h ∷ cs) same headers copies = (
    digests_kept from old new (same from (omega arith) (omega arith)) h headers.0 copies.0,
    copies_kept (from + 1) cs (λ slot above below. same slot (omega (arith, above)) (omega (arith, below))) headers.1 copies.1,
  )

  -- the bytes of a copy
  pub copy_kept : (held : List (Option HeaderValue)) (key : List ℕ) (copy : Copy) → AreHeaders held → newest 0 held key ≡ Some copy → SameSlot copy.place.slot old new
      → bytes_at copy.place new ≡ bytes_at copy.place old
  copy_kept held key copy headers e same = place_kept copy.place.slot old new same copy.place.offset copy.place.length (newest_within held key copy headers e).ends
