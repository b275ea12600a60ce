-- What comes next in a sweep: by the table of a core, and by the containers of the machine.
use Rattle.core_machine.proofs.Prelude.{◌≡◌, ◌≢◌, inl, inr, ℕ, zero, suc, ◌<◌, Bool, true, false, List, [], ◌∷◌, length, Option, Some, None, refl, sym, ◌∙◌, ap, subst, arith, ◌==◌, slice_get, eq-eqb, le-ltb, lt-ltb, ltb-true, Kind, kind_byte, Segment, segment_key, HeaderValue, Phase, Store, with_all_freed, some_same, SlotTable, RepresentsSlots, Next, is_old, old_id, phase_at, next_by}
use Rattle.std.proofs.Common.{nat_lt, get_or, if◌then◌else◌}
use Rattle.std.proofs.lemmas.Bool.{ne_eqb}
use Rattle.container_meta.specs.declared.kind.Kind.TheVariants.{Leaf, Tree}
use Rattle.container_meta.specs.Segments.{Contents, keys_of}
use Rattle.refusals.specs.declared.refusal.Phase.TheVariants as phases
use Rattle.store_model.specs.Slots.{DifferentIds}
use Rattle.store_model.proofs.FreedFiles.{not_freed}
use Rattle.gc_sweep.specs.declared.sweep.Next.TheVariants as nexts
use Rattle.gc_sweep.specs.Next.{IsNext, IsOfKind, IsOfOtherKind, kind_in}
use Rattle.gc_sweep.proofs.InSlots.{header_at, kind_at, one_slot}
use Rattle.gc_steps.specs.declared.collection.Stage.TheVariants as stages
use Rattle.store_machine.specs.Collecting.{is_of_kind, kind_of_id}

-- ---- kinds

-- that of the container in a slot, by its id
pub kind_by_id : (held : List (Option HeaderValue)) (slot : ℕ) (h : HeaderValue) → DifferentIds held → slice_get held slot ≡ Some (Some h) → kind_of_id held h.id ≡ Some h.kind
kind_by_id [] slot h differ there = absurd cc
kind_by_id (None ∷ cs) zero h differ there = absurd (let wrong : None ≡ Some h = some_same None (Some h) there in cc)
kind_by_id (None ∷ cs) (suc slot) h differ there = kind_by_id cs slot h differ there
kind_by_id (Some g ∷ cs) zero h differ there =
    subst (λ (x : HeaderValue). (if g.id == x.id then Some g.kind else kind_of_id cs x.id) ≡ Some x.kind) (some_same g h (some_same (Some g) (Some h) there))
    (ap (λ (b : Bool). if b then Some g.kind else kind_of_id cs g.id) (eq-eqb g.id g.id refl))
kind_by_id (Some g ∷ cs) (suc slot) h differ there =
    let other : g.id ≢ h.id = λ same. absurd (let wrong : 0 ≡ suc slot = one_slot (Some g ∷ cs) 0 (suc slot) g h differ refl there same in omega (arith, wrong)) in
    ap (λ (b : Bool). if b then Some g.kind else kind_of_id cs h.id) (ne_eqb g.id h.id other) ∙ kind_by_id cs slot h differ.1 there

other_byte : (a b : Kind) → a ≢ b → (kind_byte a == kind_byte b) ≡ false
other_byte Leaf Leaf other = absurd (other refl)
other_byte Leaf Tree other = refl
other_byte Tree Leaf other = refl
other_byte Tree Tree other = absurd (other refl)

-- ---- a table and containers

-- the slot has a container of this id, whose kind the table has
pub record HasAt (held : List (Option HeaderValue)) (t : SlotTable) (slot id : ℕ) : Type 0 where
  pub header : HeaderValue
  pub there : slice_get held slot ≡ Some (Some header)
  pub id_is : header.id ≡ id
  pub kind_is : kind_in t slot ≡ Some header.kind

-- so it is of each slot that isn't closed by the table
abbrev pub HasEach : List (Option HeaderValue) → SlotTable → Type 0
HasEach held t = (slot id : ℕ) → get_or t.ids.items slot 0 ≡ id → id ≢ 0 → HasAt held t slot id

pub has_each : (held : List (Option HeaderValue)) (t : SlotTable) → RepresentsSlots held t → HasEach held t
has_each held t slots slot id is some =
    let at = header_at held t slots slot id is some in
    record { header = at.0; there = at.1.0; id_is = at.1.1; kind_is = kind_at held t slots slot at.0 at.1.0 }

-- also by the containers of before some of them were given back
pub has_before : (store : Store) (freed : List ℕ) (t : SlotTable) → RepresentsSlots (with_all_freed freed store).held t → HasEach store.held t
has_before store freed t slots slot id is some =
    let at = has_each (with_all_freed freed store).held t slots slot id is some in
    record { header = at.header; there = (not_freed freed store slot at.header at.there).1; id_is = at.id_is; kind_is = at.kind_is }

-- ---- what comes next

module _ (held : List (Option HeaderValue)) (t : SlotTable) (snapshot : ℕ) (sources : List ℕ) (differ : DifferentIds held) (each : HasEach held t)
    (old : (i : ℕ) → i < length sources → is_old snapshot (get_or sources i 0) ≡ true) (source : ℕ) where
  module _ (within : source < length sources) where
    some : get_or sources source 0 ≢ 0
    some = (old_id snapshot (get_or sources source 0) (old source within)).0

    kind_so : (kind : Kind) → IsOfKind t (get_or sources source 0) kind → kind_of_id held (get_or sources source 0) ≡ Some kind
    kind_so kind is =
        let at = each is.slot (get_or sources source 0) is.id_is some in
        subst (λ (n : ℕ). kind_of_id held n ≡ Some kind) at.id_is (kind_by_id held is.slot at.header differ at.there ∙ sym at.kind_is ∙ is.kind_is)

    other_so : (kind : Kind) (x : Segment) → IsOfOtherKind t (get_or sources source 0) kind → is_of_kind (segment_key kind x) (kind_of_id held (get_or sources source 0)) ≡ false
    other_so kind x is =
        let at = each is.slot (get_or sources source 0) is.id_is some in
        ap (is_of_kind (segment_key kind x)) (ap (kind_of_id held) (sym at.id_is) ∙ kind_by_id held is.slot at.header differ at.there)
        ∙ other_byte kind at.header.kind (λ same. is.other (at.kind_is ∙ ap (λ (k : Kind). Some k) (sym same)))

  -- by whether a source is left, and is of the kind
  abbrev next_there : Bool → Bool → Phase
  next_there left same = if left then (if same then phases.Copy else phases.Flush) else phases.Flush

  abbrev is_same : Kind → Segment → Bool
  is_same kind x = is_of_kind (segment_key kind x) (kind_of_id held (get_or sources source 0))

  by_segments : (kind : Kind) (segments : List Segment) (entry : ℕ) (next : Next) → IsNext t sources (record { kind = kind; segments = segments }) source entry next
      → phase_at stages.Sweep next ≡ next_by held sources source [] (keys_of (record { kind = kind; segments = segments }))
  by_segments kind [] entry (nexts.Copy s e) is = sym (ap (λ (b : Bool). if b then phases.Copy else phases.End) (lt-ltb source (length sources) is.2))
  by_segments kind [] entry (nexts.Flush s e) is = absurd (is.2 refl)
  by_segments kind [] entry (nexts.Release s e) is = absurd is
  by_segments kind [] entry nexts.End is = sym (ap (λ (b : Bool). if b then phases.Copy else phases.End) (le-ltb source (length sources) is.1))
  by_segments kind (x ∷ xs) entry (nexts.Copy s e) (s_is, e_is, within, inl none) = absurd (omega (arith, ap length none))
  by_segments kind (x ∷ xs) entry (nexts.Copy s e) (s_is, e_is, within, inr same) =
      sym (
      ap (λ (b : Bool). next_there b (is_same kind x)) (lt-ltb source (length sources) within)
      ∙ ap (next_there true) (ap (is_of_kind (segment_key kind x)) (kind_so within kind same) ∙ eq-eqb (kind_byte kind) (kind_byte kind) refl)
      )
  by_segments kind (x ∷ xs) entry (nexts.Flush s e) (s_is, e_is, some_there, inl end) =
      sym (ap (λ (b : Bool). next_there b (is_same kind x)) (le-ltb source (length sources) end))
  by_segments kind (x ∷ xs) entry (nexts.Flush s e) (s_is, e_is, some_there, inr other) = by (nat_lt source (length sources)) refl
    where
      by : (b : Bool) → nat_lt source (length sources) ≡ b → phases.Flush ≡ next_there b (is_same kind x)
      by true is = sym (ap (next_there true) (other_so (ltb-true source (length sources) is) kind x other))
      by false is = refl
  by_segments kind (x ∷ xs) entry (nexts.Release s e) is = absurd is
  by_segments kind (x ∷ xs) entry nexts.End is = absurd (omega (arith, ap length is.0))

  -- Where no source is ready, what comes next by the table comes next by the containers; each source is of before the snapshot.
  pub next_so : (buffer : Contents) (entry : ℕ) (next : Next) → IsNext t sources buffer source entry next
      → phase_at stages.Sweep next ≡ next_by held sources source [] (keys_of buffer)
  next_so buffer entry next is = by_segments buffer.kind buffer.segments entry next is
