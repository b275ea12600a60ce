-- What is selected, and the order of it.
use Rattle.std.proofs.Common.{◌≡◌, ℕ, suc, Bool, true, false, cond, List, [], ◌∷◌, ◌++◌, not, refl, sym, ap, subst, ◌∙◌, arith}
use Rattle.std.specs.Prelude.{nat_eq, ◌==◌, ◌↔◌}
use Rattle.std.specs.List.{All, AllByRecursion, Any, Contains, IsDistinct}
use Rattle.std.specs.List.Sorted.{IsPermutation}
use Rattle.std.proofs.lemmas.List.{map-append}
use Rattle.std.proofs.lemmas.List.Elements.{All-nil, All-cons, All-weaker, All-contains, Contains-append_right}
use Rattle.std.proofs.lemmas.List.Sorted.{IsPermutation-sym, IsPermutation-trans, Contains-permutation, IsPermutation-append, IsPermutation-map, IsPermutation-filter_both}
use Rattle.std.proofs.lemmas.Map.Keys.{IsDistinct-head, IsDistinct-tail, IsDistinct-cons, IsDistinct-IsPermutation}
use Rattle.container_meta.specs.Format.{kind_byte}
use Rattle.container_meta.specs.declared.kind.Kind.{Kind}
use Rattle.container_meta.specs.declared.kind.Kind.TheVariants.{Leaf, Tree}
use Rattle.gc_select.specs.declared.liveness.ContainerLiveness.{ContainerLiveness}
use Rattle.gc_select.specs.Rising.{rising}
use Rattle.gc_select.specs.Selecting.{is_selected, selected, IsSelectedId, ids_of, of_kind, sources_of, AreSources}
use Rattle.gc_select.proofs.RisingOnce.{rising_once}

-- ---- the order

pub sources_once : (containers : List ContainerLiveness) (ids : List ℕ) → AreSources containers ids → ids ≡ sources_of containers
unfolding sources_of
sources_once containers ids are =
    let leaves = ids_of (of_kind Leaf containers) in
    let trees = ids_of (of_kind Tree containers) in
    are.data_first
    ∙ ap (λ ns. ns ++ are.tree_ids) (rising_once leaves are.data_ids are.all_data are.data_rising)
    ∙ ap (λ ns. rising leaves ++ ns) (rising_once trees are.tree_ids are.all_trees are.trees_rising)

-- of the one kind or of the other
other_kind : (kind : Kind) → (kind_byte kind == kind_byte Tree) ≡ not (kind_byte kind == kind_byte Leaf)
other_kind Leaf = refl
other_kind Tree = refl

pub sources_moved : (containers : List ContainerLiveness) (ids : List ℕ) → AreSources containers ids → IsPermutation (ids_of containers) ids
sources_moved containers ids are =
    let both : IsPermutation containers (of_kind Leaf containers ++ of_kind Tree containers) =
    IsPermutation-filter_both (λ c. kind_byte c.kind == kind_byte Leaf) (λ c. kind_byte c.kind == kind_byte Tree) (λ c. other_kind c.kind) containers in
    let split : IsPermutation (ids_of containers) (ids_of (of_kind Leaf containers) ++ ids_of (of_kind Tree containers)) =
    subst (IsPermutation (ids_of containers)) (map-append (λ c. c.id) (of_kind Leaf containers) (of_kind Tree containers))
    (IsPermutation-map (λ c. c.id) containers (of_kind Leaf containers ++ of_kind Tree containers) both) in
    let moved = IsPermutation-append (ids_of (of_kind Leaf containers)) are.data_ids (ids_of (of_kind Tree containers)) are.tree_ids are.all_data are.all_trees in
    subst (IsPermutation (ids_of containers)) (sym are.data_first)
    (IsPermutation-trans (ids_of containers) (ids_of (of_kind Leaf containers) ++ ids_of (of_kind Tree containers)) (are.data_ids ++ are.tree_ids) split moved)

-- ---- which ids

any_here : {X : Type 0} (P : X → Type 0) (x : X) (xs : List X) → P x → Any P (x ∷ xs)
any_here P x xs is = (0, x, omega arith, refl, is)

any_later : {X : Type 0} (P : X → Type 0) (x : X) (xs : List X) → Any P xs → Any P (x ∷ xs)
any_later P x xs any = (suc any.0, any.1, omega (arith, any.2), any.3, any.4)

both_ways : (b : Bool) → b ≡ true → b ≡ false → ⊥
both_ways b one other = cc

-- each id is that of a container that is selected
each_selected : (snapshot percent : ℕ) (cs : List ContainerLiveness) → All (IsSelectedId snapshot percent cs) (ids_of (selected snapshot percent cs))
each_selected snapshot percent [] = All-nil _
each_selected snapshot percent (c ∷ cs) =
    let among = selected snapshot percent cs in
    let rest : All (IsSelectedId snapshot percent (c ∷ cs)) (ids_of among) =
    All-weaker (IsSelectedId snapshot percent cs) (IsSelectedId snapshot percent (c ∷ cs)) (λ id any. any_later _ c cs any) (ids_of among) (each_selected snapshot percent cs) in
    elim (is_selected snapshot percent c) as (λ b. is_selected snapshot percent c ≡ b → All (IsSelectedId snapshot percent (c ∷ cs)) (ids_of (cond b (c ∷ among) among))) [
      | true ↦ λ is. All-cons (IsSelectedId snapshot percent (c ∷ cs)) c.id (ids_of among) (any_here _ c cs (refl, is)) rest
      | false ↦ λ is_not. rest
    ] refl

-- the id of each container that is selected is there
every_selected : (snapshot percent : ℕ) (cs : List ContainerLiveness) → All (λ c. is_selected snapshot percent c ≡ true → Contains (ids_of (selected snapshot percent cs)) c.id) cs
every_selected snapshot percent [] = All-nil _
every_selected snapshot percent (c ∷ cs) =
    let among = selected snapshot percent cs in
    elim (is_selected snapshot percent c) as
    (λ b. is_selected snapshot percent c ≡ b → All (λ x. is_selected snapshot percent x ≡ true → Contains (ids_of (cond b (c ∷ among) among)) x.id) (c ∷ cs)) [
      | true ↦ λ is.
          All-cons (λ x. is_selected snapshot percent x ≡ true → Contains (ids_of (c ∷ among)) x.id) c cs (λ same. (0, omega arith, refl))
          (All-weaker (λ x. is_selected snapshot percent x ≡ true → Contains (ids_of among) x.id) (λ x. is_selected snapshot percent x ≡ true → Contains (ids_of (c ∷ among)) x.id)
          (λ x there same. Contains-append_right (c.id ∷ []) (ids_of among) x.id (there same)) cs (every_selected snapshot percent cs))
      | false ↦ λ is_not.
          All-cons (λ x. is_selected snapshot percent x ≡ true → Contains (ids_of among) x.id) c cs (λ is. absurd (both_ways (is_selected snapshot percent c) is is_not))
          (every_selected snapshot percent cs)
    ] refl

pub which_ids : (snapshot percent : ℕ) (cs : List ContainerLiveness) (ids : List ℕ) → IsPermutation (ids_of (selected snapshot percent cs)) ids → (id : ℕ) →
    Contains ids id ↔ IsSelectedId snapshot percent cs id
which_ids snapshot percent cs ids moved id =
    let among = ids_of (selected snapshot percent cs) in (
      λ there. All-contains (IsSelectedId snapshot percent cs) among id (each_selected snapshot percent cs)
          (Contains-permutation ids among id (IsPermutation-sym among ids moved) there),
      λ any.
          Contains-permutation among ids id moved
          (subst (Contains among) any.4.0 (subst (λ x. is_selected snapshot percent x ≡ true → Contains among x.id) any.3 (every_selected snapshot percent cs any.0 any.1 any.2)
          any.4.1)),
    )

-- ---- each once

module _ (snapshot percent n : ℕ) where
  -- no id of a list is n, and so none of those that are selected
  none_of : (cs : List ContainerLiveness) → AllByRecursion (λ m. nat_eq n m ≡ false) (ids_of cs) → AllByRecursion (λ m. nat_eq n m ≡ false) (ids_of (selected snapshot percent cs))
  none_of [] none = tt
  none_of (c ∷ cs) none =
      elim (is_selected snapshot percent c) as (λ b. AllByRecursion (λ m. nat_eq n m ≡ false) (ids_of (cond b (c ∷ selected snapshot percent cs) (selected snapshot percent cs)))) [
        | true ↦ (none.0, none_of cs none.1)
        | false ↦ none_of cs none.1
      ]

apart_among : (snapshot percent : ℕ) (cs : List ContainerLiveness) → IsDistinct nat_eq (ids_of cs) → IsDistinct nat_eq (ids_of (selected snapshot percent cs))
apart_among snapshot percent [] apart = apart
apart_among snapshot percent (c ∷ cs) apart =
    let rest = apart_among snapshot percent cs (IsDistinct-tail nat_eq c.id (ids_of cs) apart) in
    elim (is_selected snapshot percent c) as (λ b. IsDistinct nat_eq (ids_of (cond b (c ∷ selected snapshot percent cs) (selected snapshot percent cs)))) [
      | true ↦ IsDistinct-cons nat_eq c.id (ids_of (selected snapshot percent cs)) (none_of snapshot percent c.id cs (IsDistinct-head nat_eq c.id (ids_of cs) apart)) rest
      | false ↦ rest
    ]

flips : (a b : ℕ) → nat_eq a b ≡ nat_eq b a
flips a b = grind arith

pub apart_ids : (snapshot percent : ℕ) (cs : List ContainerLiveness) (ids : List ℕ) → IsPermutation (ids_of (selected snapshot percent cs)) ids → IsDistinct nat_eq (ids_of cs) →
    IsDistinct nat_eq ids
apart_ids snapshot percent cs ids moved apart = IsDistinct-IsPermutation nat_eq flips (ids_of (selected snapshot percent cs)) ids moved (apart_among snapshot percent cs apart)
