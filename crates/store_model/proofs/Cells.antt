-- A store with a free cell: what is so of it still, after a checkpoint too.
use Rattle.store_model.proofs.Prelude.{◌≡◌, ℕ, ◌-◌, ◌^◌, ◌<◌, ◌≤◌, Bool, true, false, length, refl, sym, ◌∙◌, ap, subst, arith, ltb-true, ltb-false, half_cells, Store, IsValidFor, names_of, last_sequence, with_cell}
use Rattle.std.proofs.Common.{if◌then◌else◌}
use Rattle.std.specs.FinMap as finite
use Rattle.store_model.specs.Journal.{Follow}
use Rattle.store_model.specs.Steps.{CanRise, has_cell, with_checkpoint}
use Rattle.store_model.proofs.Puts.{puts_follow, puts_leave, puts_last, puts_room, last_below}

-- by whether a cell is free
abbrev chosen : Bool → Store → Store
chosen free store = record store {
  selector = if free then store.selector else (with_checkpoint store).selector;
  other_open = if free then store.other_open else (with_checkpoint store).other_open;
  records = if free then store.records else (with_checkpoint store).records;
}

here : (store : Store) → chosen true store ≡ store
here store = refl

anew : (store : Store) → chosen false store ≡ with_checkpoint store
anew store = refl

module _ (store : Store) where
  pub cell_here : has_cell store ≡ true → with_cell store ≡ store
  cell_here free = ap (λ (b : Bool). chosen b store) free ∙ here store

  pub cell_anew : has_cell store ≡ false → with_cell store ≡ with_checkpoint store
  cell_anew full = ap (λ (b : Bool). chosen b store) full ∙ anew store

  -- what is so of the store where a cell is free, and after a checkpoint where none is, is so of it
  pub with_cell_is : (P : Store → Type 0) → (length store.records < half_cells → P store) → (half_cells ≤ length store.records → P (with_checkpoint store)) → P (with_cell store)
  with_cell_is P free full = elim (has_cell store) as (λ b. has_cell store ≡ b → P (with_cell store)) [
    | true ↦ λ is. subst P (sym (cell_here is)) (free (ltb-true (length store.records) half_cells is))
    | false ↦ λ is. subst P (sym (cell_anew is)) (full (ltb-false (length store.records) half_cells is))
  ] refl

  module _ (follow : Follow 0 finite.empty store.records) where
    pub names_checkpoint : names_of (with_checkpoint store) ≡ names_of store
    names_checkpoint = puts_leave store.records follow

    pub last_checkpoint : last_sequence (with_checkpoint store) ≡ last_sequence store
    last_checkpoint = omega (arith, puts_last store.records follow)

    pub names_with_cell : names_of (with_cell store) ≡ names_of store
    names_with_cell = with_cell_is (λ s. names_of s ≡ names_of store) (λ free. refl) (λ full. names_checkpoint)

    pub last_with_cell : last_sequence (with_cell store) ≡ last_sequence store
    last_with_cell = with_cell_is (λ s. last_sequence s ≡ last_sequence store) (λ free. refl) (λ full. last_checkpoint)

    pub room_with_cell : length (with_cell store).records < half_cells
    room_with_cell = with_cell_is (λ s. length s.records < half_cells) (λ free. free) (λ full. puts_room store.records follow)

  module _ (size : ℕ) (valid : IsValidFor size store) where
    pub valid_checkpoint : store.selector.generation < 2 ^ 64 - 1 → IsValidFor size (with_checkpoint store)
    valid_checkpoint below = record {
      count = valid.count;
      size_is = valid.size_is;
      selector_right = record {
        from_one = omega arith;
        generation = omega (arith, below);
        form = refl;
        half = omega arith;
        last = omega (arith, valid.selector_right.last, last_below 0 finite.empty store.records (omega arith) valid.follow);
      };
      few = omega (arith, puts_room store.records valid.follow);
      follow = puts_follow store.records valid.follow;
      many = valid.many;
      headers = valid.headers;
      different = valid.different;
    }

    pub valid_with_cell : CanRise store → IsValidFor size (with_cell store)
    valid_with_cell rise = with_cell_is (IsValidFor size) (λ free. valid) (λ full. valid_checkpoint (rise full))
