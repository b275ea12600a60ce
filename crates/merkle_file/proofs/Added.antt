-- Placing a child, or closing, finishes at most one node in each row.
use Rattle.merkle_file.proofs.Prelude.{◌≡◌, ℕ, ◌+◌, ◌≤◌, ◌&&◌, List, [], ◌∷◌, ◌++◌, length, ap, arith, inl, inr, ◌==◌, nat_le, cases_Bool, length-append, Child, MOST_CHILDREN, MOST_LEVEL, levels_left, Contents, parent, are_empty}
use Rattle.merkle_file.specs.Steps.{place, close}
use Rattle.merkle_file.proofs.Placing.{node_over}
use Rattle.merkle_file.proofs.Closing.{node_of}

some_row : (row : List Child) (rows : List (List Child)) → levels_left (row ∷ rows) ≤ length rows + 1
some_row [] rows = omega (arith, few_levels rows)
  where
    few_levels : (rs : List (List Child)) → levels_left rs ≤ length rs
    few_levels [] = omega arith
    few_levels ([] ∷ rs) = omega (arith, few_levels rs)
    few_levels ((c ∷ cs) ∷ rs) = omega arith
some_row (c ∷ cs) rows = omega arith

-- the rows in which a node was finished are empty then
placed_few : (level : ℕ) (c : Child) (rows : List (List Child)) →
    length (place level c rows).nodes + levels_left (place level c rows).rows ≤ length rows
unfolding place
placed_few level c [] = omega arith
placed_few level c (row ∷ rows) =
    elim (cases_Bool (length row + 1 == MOST_CHILDREN)) [
      | inl full ↦ rw full (omega (arith, placed_few (level + 1) (parent (node_over level row c)) rows))
      | inr few ↦ rw few (omega (arith, some_row (row ++ c ∷ []) rows))
    ]

closed_few : (level : ℕ) (carried : List Child) (rows : List (List Child)) → length (close level carried rows).nodes ≤ length rows
unfolding close
closed_few level carried [] = omega arith
closed_few level carried (row ∷ rows) =
    elim (cases_Bool (are_empty rows && nat_le (length (row ++ carried)) 1)) [
      | inl last ↦ rw last (omega arith)
      | inr more ↦
          elim (cases_Bool (length (row ++ carried) == 0)) [
            | inl none ↦ rw (more, none) (omega (arith, closed_few (level + 1) [] rows))
            | inr some ↦ rw (more, some) (omega (arith, closed_few (level + 1) (parent (node_of level (row ++ carried)) ∷ []) rows))
          ]
    ]

-- the lowest rows are passed by where they are empty
closed_left : (level : ℕ) (rows : List (List Child)) → length (close level [] rows).nodes ≤ levels_left rows
unfolding close
closed_left level [] = omega arith
closed_left level ([] ∷ rows) =
    elim (cases_Bool (are_empty rows && nat_le (length {A = Child} ([] ++ [])) 1)) [
      | inl last ↦ rw last (omega arith)
      | inr more ↦ rw more (closed_left (level + 1) rows)
    ]
closed_left level ((c ∷ cs) ∷ rows) = omega (arith, closed_few level [] ((c ∷ cs) ∷ rows))

-- as many as levels are added to those that were finished
pub added_placed : (c : Child) (rows new : List (List Child)) (finished later : List Contents) → length rows ≡ MOST_LEVEL
    → new ≡ (place 0 c rows).rows → later ≡ finished ++ (place 0 c rows).nodes
    → length later + levels_left new ≤ length finished + MOST_LEVEL
added_placed c rows new finished later levels row_is is =
    omega (arith, ap (λ (ns : List Contents). length ns) is, ap levels_left row_is, length-append finished (place 0 c rows).nodes, placed_few 0 c rows)

pub added_closed : (rows : List (List Child)) (finished later : List Contents) → later ≡ finished ++ (close 0 [] rows).nodes
    → length later ≤ length finished + levels_left rows
added_closed rows finished later is = omega (arith, ap (λ (ns : List Contents). length ns) is, length-append finished (close 0 [] rows).nodes, closed_left 0 rows)
