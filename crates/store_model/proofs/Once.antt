-- An image holds one store at most.
use Rattle.store_model.proofs.Prelude.{◌≡◌, ◌≢◌, inl, inr, ℕ, suc, ◌+◌, ◌-◌, ◌<◌, ◌≤◌, Bool, true, false, IsTrue, List, [], ◌∷◌, length, Option, Some, None, refl, sym, ◌∙◌, ap, subst, arith, eqb_tells, range, byte_at, byte-range, RECORD_GATE, SELECTOR_GATE, slot_at, selector_at, cell_at, half_cells, RecordValue, SelectorValue, HeaderValue, NameMap, names_with, HoldsSelector, IsOlder, KnowsOther, StandFrom, HoldsSlot, HoldSlots, Store, Encodes}
use Rattle.std.specs.FinMap as finite
use Rattle.store_model.specs.Journal.{Follow, HoldsRecords}
use Rattle.container_meta.specs.Spelling.{header_size}
use Rattle.store_model.proofs.Spellings.{same_format, same_selector, gate_of_selector, same_record, gate_of_record, same_header_at, gate_of_header}

no_truth : IsTrue false → ⊥
no_truth is = cc

-- the first byte of a part
first_byte : (at count : ℕ) (part image : List ℕ) → 1 ≤ count → range at count image ≡ part → byte_at at image ≡ byte_at 0 part
first_byte at count part image some is =
    ap (λ (k : ℕ). byte_at k image) (omega arith) ∙ sym (byte-range 0 at count image (omega (arith, some))) ∙ ap (byte_at 0) is

-- ---- slots

pub slot_once : (slot : ℕ) (a b : Option HeaderValue) (image : List ℕ) → HoldsSlot image slot a → HoldsSlot image slot b → a ≡ b
slot_once slot None None image one other = refl
slot_once slot None (Some h) image one other = absurd (one (first_byte (slot_at slot) (header_size h) _ image (omega arith) other.1 ∙ gate_of_header h))
slot_once slot (Some h) None image one other = absurd (other (first_byte (slot_at slot) (header_size h) _ image (omega arith) one.1 ∙ gate_of_header h))
slot_once slot (Some h) (Some g) image one other = ap Some (same_header_at h g (slot_at slot) image one.0 other.0 one.1 other.1)

pub slots_once : (slot : ℕ) (cs ds : List (Option HeaderValue)) (image : List ℕ) → length cs ≡ length ds → HoldSlots slot cs image → HoldSlots slot ds image → cs ≡ ds
slots_once slot [] [] image many one other = refl
slots_once slot [] (d ∷ ds) image many one other = absurd (omega (arith, many))
slots_once slot (c ∷ cs) [] image many one other = absurd (omega (arith, many))
slots_once slot (c ∷ cs) (d ∷ ds) image many one other =
    ap (λ (x : Option HeaderValue). x ∷ cs) (slot_once slot c d image one.0 other.0)
    ∙ ap (λ (xs : List (Option HeaderValue)). d ∷ xs) (slots_once (slot + 1) cs ds image (omega (arith, many)) one.1 other.1)

-- ---- the selector that counts

-- two in one cell
cell_once : (s t : SelectorValue) (image : List ℕ) → HoldsSelector image s → HoldsSelector image t → s.half ≡ t.half → s ≡ t
cell_once s t image one other half =
    same_selector s t one.0 other.0 half (sym one.1 ∙ ap (λ (h : ℕ). range (selector_at h) 512 image) half ∙ other.1)

-- of two in different cells the one that counts is of the greater generation
greater : (s t : SelectorValue) (image : List ℕ) → HoldsSelector image t → t.half ≡ 1 - s.half → IsOlder image s → t.generation < s.generation
greater s t image other half (inl closed) =
    absurd (closed (ap (λ (h : ℕ). byte_at (selector_at h) image) (sym half) ∙ first_byte (selector_at t.half) 512 _ image (omega arith) other.1 ∙ gate_of_selector t))
greater s t image other half (inr (u, place, holds, less)) =
    subst (λ (x : SelectorValue). x.generation < s.generation) (cell_once u t image holds other (place ∙ sym half)) less

selector_once : (s t : SelectorValue) (image : List ℕ) → HoldsSelector image s → HoldsSelector image t → IsOlder image s → IsOlder image t → s ≡ t
selector_once s t image one other older also =
    elim (eqb_tells s.half t.half) [
      | inl same ↦ cell_once s t image one other same.1
      | inr differ ↦
          let theirs : t.generation < s.generation = greater s t image other (omega (arith, one.0.half, other.0.half, differ.1)) older in
          let mine : s.generation < t.generation = greater t s image one (omega (arith, one.0.half, other.0.half, differ.1)) also in
          absurd (omega (arith, theirs, mine))
    ]

-- ---- records

opened : (half cell : ℕ) (r : RecordValue) (image : List ℕ) → StandFrom half cell (r ∷ []) image → byte_at (cell_at half (cell + 0)) image ≡ RECORD_GATE
opened half cell r image stands =
    ap (λ (k : ℕ). byte_at (cell_at half k) image) (omega arith) ∙ first_byte (cell_at half cell) 512 _ image (omega arith) stands.0 ∙ gate_of_record r

records_once : (half cell previous : ℕ) (names : NameMap) (rs ss : List RecordValue) (image : List ℕ) → Follow previous names rs → Follow previous names ss
    → StandFrom half cell rs image → StandFrom half cell ss image → cell + length rs ≤ half_cells → cell + length ss ≤ half_cells
    → (cell + length rs < half_cells → byte_at (cell_at half (cell + length rs)) image ≢ RECORD_GATE) →
    (cell + length ss < half_cells → byte_at (cell_at half (cell + length ss)) image ≢ RECORD_GATE)
    → rs ≡ ss
records_once half cell previous names [] [] image one other stand also few less ends closed = refl
records_once half cell previous names [] (s ∷ ss) image one other stand also few less ends closed = absurd (ends (omega (arith, less)) (opened half cell s image (also.0, tt)))
records_once half cell previous names (r ∷ rs) [] image one other stand also few less ends closed = absurd (closed (omega (arith, few)) (opened half cell r image (stand.0, tt)))
records_once half cell previous names (r ∷ rs) (s ∷ ss) image one other stand also few less ends closed =
    let same : r ≡ s = same_record r s one.0 other.0 (sym stand.0 ∙ also.0) in
    let next : Follow r.sequence (names_with r names) ss = subst (λ (x : RecordValue). Follow x.sequence (names_with x names) ss) (sym same) other.3 in
    let place : (n : ℕ) → cell + 1 + n ≡ cell + suc n = λ n. omega arith in
    ap (λ (x : RecordValue). x ∷ rs) same
    ∙ ap (λ (xs : List RecordValue). s ∷ xs) (records_once half (cell + 1) r.sequence (names_with r names) rs ss image one.3 next stand.1 also.1 (omega (arith, few))
    (omega (arith, less))
    (λ below shut. ends (omega (arith, below)) (ap (λ (k : ℕ). byte_at (cell_at half k) image) (sym (place (length rs))) ∙ shut))
    (λ below shut. closed (omega (arith, below)) (ap (λ (k : ℕ). byte_at (cell_at half k) image) (sym (place (length ss))) ∙ shut)))

-- ---- the store

same_store : (n m : ℕ) (a b : SelectorValue) (o p : Bool) (r u : List RecordValue) (h k : List (Option HeaderValue)) → n ≡ m → a ≡ b → o ≡ p → r ≡ u → h ≡ k
    → (let s : Store = record { slots = n; selector = a; other_open = o; records = r; held = h } in s) ≡ record { slots = m; selector = b; other_open = p; records = u; held = k }
same_store n m a b o p r u h k slots selector other records held = cc

-- ---- the other selector's gate

-- it is open or not
pub other_once : (a b : Bool) (half : ℕ) (image : List ℕ) → KnowsOther a half image → KnowsOther b half image → a ≡ b
other_once true true half image one other = refl
other_once false false half image one other = refl
other_once true false half image one other = absurd (no_truth (other.1 (one.0 refl)))
other_once false true half image one other = absurd (no_truth (one.1 (other.0 refl)))

-- and can be told
pub other_known : (half : ℕ) (image : List ℕ) → (b : Bool) × KnowsOther b half image
other_known half image =
    let gate : ℕ = byte_at (selector_at (1 - half)) image in
    elim (eqb_tells gate SELECTOR_GATE) [
      | inl same ↦ (true, (λ is. same.1, λ is. refl))
      | inr differ ↦ (false, (λ is. absurd (no_truth is), λ is. absurd (differ.1 is)))
    ]

pub store_once : (image : List ℕ) (s t : Store) → Encodes image s → Encodes image t → s ≡ t
store_once image s t one other =
    let slots : s.slots ≡ t.slots = same_format s.slots t.slots (omega (arith, one.count.1)) (omega (arith, other.count.1)) (sym one.format ∙ other.format) in
    let selector : s.selector ≡ t.selector =
    selector_once s.selector t.selector image one.journal.selector_is other.journal.selector_is one.journal.older other.journal.older in
    let theirs : HoldsRecords s.selector.half t.records image = subst (λ (x : SelectorValue). HoldsRecords x.half t.records image) (sym selector) other.journal.records_are in
    let mine = one.journal.records_are in
    let zero_before : (n : ℕ) → 0 + n ≡ n = λ n. omega arith in
    let records : s.records ≡ t.records =
    records_once s.selector.half 0 0 finite.empty s.records t.records image mine.right theirs.right mine.stand theirs.stand (omega (arith, mine.few)) (omega (arith, theirs.few))
    (λ below shut. mine.closed (length s.records) (omega arith) (omega (arith, below))
    (ap (λ (k : ℕ). byte_at (cell_at s.selector.half k) image) (sym (zero_before (length s.records))) ∙ shut))
    (λ below shut. theirs.closed (length t.records) (omega arith) (omega (arith, below))
    (ap (λ (k : ℕ). byte_at (cell_at s.selector.half k) image) (sym (zero_before (length t.records))) ∙ shut)) in
    let held : s.held ≡ t.held = slots_once 0 s.held t.held image (one.many ∙ slots ∙ sym other.many) one.slots_are other.slots_are in
    let gate : s.other_open ≡ t.other_open =
    other_once s.other_open t.other_open s.selector.half image one.other (subst (λ (x : SelectorValue). KnowsOther t.other_open x.half image) (sym selector) other.other) in
    same_store s.slots t.slots s.selector t.selector s.other_open t.other_open s.records t.records s.held t.held slots selector gate records held

-- ---- the files

-- ---- refusals, of the map
