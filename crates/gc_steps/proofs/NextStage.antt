-- What was passed once a container is scanned, and the next stage has come.
use Rattle.gc_steps.proofs.Prelude.{◌≡◌, ◌⊎◌, inl, inr, ℕ, zero, suc, ◌+◌, ◌-◌, ◌<◌, ◌≤◌, true, List, length, Option, Some, None, sym, ap, subst, arith, leb_tells, eqb_tells, HeaderValue, HoldSlots, RepresentsSlots, SlotTable, Collection, Stage, Mark, HoldsNode, IsPassed, WasScanned, first_slot, is_tree_slot, mark_at, mark_from, mark_level, mark_on}
use Rattle.merkle_file.specs.Node.{Contents}
use Rattle.store_model.specs.Slots.{Copy}
use Rattle.store_model.proofs.Free.{as_many}
use Rattle.gc_steps.proofs.FirstStage.{first_there, node_there, tree_there}

-- a node that was passed had been passed before, or is of the level in the slot
abbrev pub PassesOne : ℕ → ℕ → Collection → Contents → Copy → Type 0
PassesOne level slot before n copy = IsPassed before n.level copy ⊎ ((n.level ≡ level) × (copy.place.slot ≡ slot))

module _ (t : SlotTable) (snapshot level slot : ℕ) where
  -- where the slot of a tree container that came before the snapshot comes after, its level was scanned up to there at most
  module _ (l at : ℕ) (some : 1 ≤ l) (within : at < length t.ids.items) (is_tree : is_tree_slot snapshot t at ≡ true) where
    -- a slot later in the level
    not_later : l ≡ level → slot < at → WasScanned (mark_from snapshot t level (slot + 1)) l at → ⊥
    not_later same later scanned =
        let first = first_there (is_tree_slot snapshot t) (slot + 1) (length t.ids.items - (slot + 1)) at (omega (arith, later)) (omega (arith, later, within)) is_tree in
        let is : mark_from snapshot t level (slot + 1) ≡ Mark level first.slot = ap (mark_on snapshot t level) first.first in
        by_case first.slot first.no_later (subst (λ (s : Stage). WasScanned s l at) is scanned)
      where
        by_case : (next : ℕ) → next ≤ at → WasScanned (Mark level next) l at → ⊥
        by_case next no_later (inl above) = omega (arith, same, above)
        by_case next no_later (inr here) = omega (arith, no_later, here.1)

    -- a level below
    not_at : (below : ℕ) → l ≤ below → WasScanned (mark_level snapshot t below) l at → ⊥
    not_at zero low scanned = omega (arith, some, low)
    not_at (suc below) low scanned =
        let first = first_there (is_tree_slot snapshot t) 0 (length t.ids.items - 0) at (omega arith) (omega (arith, within)) is_tree in
        let is : mark_level snapshot t (suc below) ≡ Mark (suc below) first.slot = ap (mark_at snapshot t (suc below)) first.first in
        by_case first.slot first.no_later (subst (λ (s : Stage). WasScanned s l at) is scanned)
      where
        by_case : (next : ℕ) → next ≤ at → WasScanned (Mark (suc below) next) l at → ⊥
        by_case next no_later (inl above) = omega (arith, low, above)
        by_case next no_later (inr here) = omega (arith, no_later, here.1)

    not_below : l < level → WasScanned (mark_from snapshot t level (slot + 1)) l at → ⊥
    not_below low scanned = by_first (first_slot t (is_tree_slot snapshot t) (slot + 1)) scanned
      where
        by_first : (first : Option ℕ) → WasScanned (mark_on snapshot t level first) l at → ⊥
        by_first None scanned = not_at (level - 1) (omega (arith, low)) scanned
        by_first (Some next) (inl above) = omega (arith, low, above)
        by_first (Some next) (inr here) = omega (arith, low, here.0)

    pub scanned_to : WasScanned (mark_from snapshot t level (slot + 1)) l at → (level < l) ⊎ ((l ≡ level) × (at ≤ slot))
    scanned_to scanned = elim (leb_tells l level) [
      | inr above ↦ inl (omega (arith, above.1))
      | inl low ↦ elim (eqb_tells l level) [
        | inr differ ↦ absurd (not_below (omega (arith, low.1, differ.1)) scanned)
        | inl same ↦ elim (leb_tells at slot) [
          | inl early ↦ inr (same.1, early.1)
          | inr late ↦ absurd (not_later same.1 (omega (arith, late.1)) scanned)
        ]
      ]
    ]

-- Once the container of a slot was scanned for a level, a node that was passed had been passed before, or is of that level in that slot.
module _ (held : List (Option HeaderValue)) (image : List ℕ) (t : SlotTable) (holds : HoldSlots 0 held image) (slots : RepresentsSlots held t) (level slot : ℕ)
    (before after : Collection)
    (was : before.stage ≡ Mark level slot) (now : after.stage ≡ mark_from before.snapshot t level (slot + 1)) (same : after.snapshot ≡ before.snapshot) where
  up_to : (l at : ℕ) → (level < l) ⊎ ((l ≡ level) × (at ≤ slot)) → WasScanned (Mark level slot) l at ⊎ ((l ≡ level) × (at ≡ slot))
  up_to l at (inl above) = inl (inl above)
  up_to l at (inr here) = elim (eqb_tells at slot) [
    | inl is ↦ inr (here.0, is.1)
    | inr differ ↦ inl (inr (here.0, omega (arith, here.1, differ.1)))
  ]

  pub passes_one : (n : Contents) (copy : Copy) → HoldsNode held image n copy → IsPassed after n.level copy → PassesOne level slot before n copy
  passes_one n copy node (inr new) = inl (inr (omega (arith, new, same)))
  passes_one n copy node (inl scanned) = elim (leb_tells before.snapshot copy.id) [
    | inl new ↦ inl (inr new.1)
    | inr old ↦
        let tree = node_there held image n copy holds node.copy_is in
        let within : copy.place.slot < length t.ids.items = omega (arith, tree.within, ap length slots.ids_are, as_many held) in
        let is_tree = tree_there held image t before.snapshot holds slots copy.place.slot copy.id (omega (arith, old.1)) tree in
        by_place
        (up_to n.level copy.place.slot
        (scanned_to t before.snapshot level slot n.level copy.place.slot node.right.above within is_tree (subst (λ (s : Stage). WasScanned s n.level copy.place.slot) now scanned)))
  ]
    where
      by_place : WasScanned (Mark level slot) n.level copy.place.slot ⊎ ((n.level ≡ level) × (copy.place.slot ≡ slot)) → PassesOne level slot before n copy
      by_place (inl earlier) = inl (inl (subst (λ (s : Stage). WasScanned s n.level copy.place.slot) (sym was) earlier))
      by_place (inr here) = inr here
