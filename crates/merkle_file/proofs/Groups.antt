-- The groups of a list are its whole groups and what is left, and where nodes end by the number of their children, each
-- takes as many elements as a node has at most.
use Rattle.merkle_file.proofs.Prelude.{◌≡◌, ◌+◌, ◌<◌, ◌≤◌, List, [], ◌∷◌, ◌++◌, length, take, drop, refl, sym, ap, ◌∙◌, append_assoc, arith, inl, inr, cases_Bool, eqb-true, eqb-false, append-nil, drop_all, drop_at, length-append, take_at, MOST_CHILDREN, Child, Form, ByCount, is_whole, child_of, grouped, last_group, of_segment, whole, rest}
use Rattle.std.proofs.lemmas.List.{take_all}
use Rattle.merkle_file.specs.Tree.{GroupsAreTaken, grouped_from}
use Rattle.merkle_file.specs.Building.{whole_from, rest_from}

-- the whole groups, and one of what is left
abbrev pub groups_after : {X : Type 0} → Form → (X → Child) → List X → List X → List (List X)
groups_after form says begun xs = whole_from form says begun xs ++ last_group (rest_from form says begun xs)

grouped_after : {X : Type 0} (form : Form) (says : X → Child) (begun xs : List X) → grouped_from form says begun xs ≡ groups_after form says begun xs
unfolding grouped_from whole_from rest_from
grouped_after form says begun [] = refl
grouped_after form says begun (x ∷ xs) =
    elim (cases_Bool (is_whole form says (begun ++ x ∷ []))) [
      | inl full ↦ rw full (ap (λ (gs : List (List _)). (begun ++ x ∷ []) ∷ gs) (grouped_after form says [] xs))
      | inr few ↦ rw few (grouped_after form says (begun ++ x ∷ []) xs)
    ]

pub grouped_is : {X : Type 0} (form : Form) (says : X → Child) (xs : List X) → grouped form says xs ≡ whole form says xs ++ last_group (rest form says xs)
grouped_is form says xs = grouped_after form says [] xs

-- ---- a node ends by the number of its children

-- the first group, and those of the rest
abbrev taken : {X : Type 0} → (X → Child) → List X → List (List X)
taken says xs = take MOST_CHILDREN xs ∷ grouped ByCount says (drop MOST_CHILDREN xs)

-- all that there is
taken_all : {X : Type 0} (says : X → Child) (xs : List X) → length xs < MOST_CHILDREN → xs ∷ [] ≡ taken says xs
unfolding grouped_from
taken_all says xs few = rw (take_all MOST_CHILDREN xs (omega arith), drop_all MOST_CHILDREN xs (omega arith)) refl

some_left : {X : Type 0} (xs : List X) → 1 ≤ length xs → last_group xs ≡ xs ∷ []
some_left [] some = absurd (omega arith)
some_left (x ∷ xs) some = refl

groups_taken : {X : Type 0} (says : X → Child) (begun xs : List X) → length begun < MOST_CHILDREN → 1 ≤ length begun + length xs →
    grouped_from ByCount says begun xs ≡ taken says (begun ++ xs)
unfolding grouped_from
groups_taken says begun [] few some =
    some_left begun (omega (arith, some)) ∙ taken_all says begun few ∙ ap (taken says) (sym (append-nil begun))
groups_taken says begun (x ∷ xs) few some =
    let one : length (begun ++ x ∷ []) ≡ length begun + 1 = length-append begun (x ∷ []) in
    let apart : (begun ++ x ∷ []) ++ xs ≡ begun ++ x ∷ xs = append_assoc begun (x ∷ []) xs in
    elim (cases_Bool (is_whole ByCount says (begun ++ x ∷ []))) [
      | inl full ↦
          (let is : length (begun ++ x ∷ []) ≡ MOST_CHILDREN = eqb-true _ _ full in
          let first : taken says ((begun ++ x ∷ []) ++ xs) ≡ (begun ++ x ∷ []) ∷ grouped ByCount says xs =
          ap (λ (g : List _). g ∷ grouped ByCount says (drop MOST_CHILDREN ((begun ++ x ∷ []) ++ xs))) (take_at (begun ++ x ∷ []) xs MOST_CHILDREN is)
          ∙ ap (λ (after : List _). (begun ++ x ∷ []) ∷ grouped ByCount says after) (drop_at (begun ++ x ∷ []) xs MOST_CHILDREN is) in
          rw full (sym first ∙ ap (taken says) apart))
      | inr part ↦
          (let isnt : length (begun ++ x ∷ []) ≡ MOST_CHILDREN → ⊥ = eqb-false _ _ part in
          rw part (groups_taken says (begun ++ x ∷ []) xs (omega (arith, one, isnt, few)) (omega (arith, one)) ∙ ap (taken says) apart))
    ]

pub groups_are_taken : GroupsAreTaken
groups_are_taken ts some = groups_taken (child_of of_segment) [] ts (omega arith) (omega (arith, some))
