-- The sources of the containers that are selected: which they are, and how many.
use Rattle.std.proofs.Common.{◌≡◌, ℕ, suc, List, [], ◌∷◌, length, refl, sym, ap, subst, arith}
use Rattle.std.specs.Prelude.{◌↔◌, Contains}
use Rattle.std.specs.List.Sorted.{IsPermutation}
use Rattle.std.proofs.lemmas.List.Sorted.{length_permutation}
use Rattle.container_meta.specs.declared.kind.Kind.TheVariants.{Leaf, Tree}
use Rattle.gc_select.specs.declared.liveness.ContainerLiveness.{ContainerLiveness}
use Rattle.gc_select.specs.Rising.{rising}
use Rattle.gc_select.specs.Selecting.{AreSources, IsSelectedId, ids_of, of_kind, selected, sources_of}
use Rattle.gc_select.proofs.RisingOnce.{rising_moves, rising_order}
use Rattle.gc_select.proofs.Selected.{sources_moved, which_ids}

pub ids_many : (xs : List ContainerLiveness) → length (ids_of xs) ≡ length xs
ids_many [] = refl
ids_many (x ∷ xs) = ap suc (ids_many xs)

-- the containers that are selected, in their order, are sources
are_sources : (containers : List ContainerLiveness) → AreSources containers (sources_of containers)
unfolding sources_of
are_sources containers = record {
  data_ids = rising (ids_of (of_kind Leaf containers));
  tree_ids = rising (ids_of (of_kind Tree containers));
  data_first = refl;
  all_data = rising_moves (ids_of (of_kind Leaf containers));
  all_trees = rising_moves (ids_of (of_kind Tree containers));
  data_rising = rising_order (ids_of (of_kind Leaf containers));
  trees_rising = rising_order (ids_of (of_kind Tree containers));
}

-- there are as many as containers
pub sources_many : (containers : List ContainerLiveness) → length (sources_of containers) ≡ length containers
sources_many containers =
    let moved : IsPermutation (ids_of containers) (sources_of containers) = sources_moved containers (sources_of containers) (are_sources containers) in
    omega (arith, length_permutation (ids_of containers) (sources_of containers) moved, ids_many containers)

-- an id is a source's just where that of a container that is selected is it
pub chosen_which : (snapshot percent : ℕ) (containers : List ContainerLiveness) (sources : List ℕ) → sources ≡ sources_of (selected snapshot percent containers)
    → (id : ℕ) → Contains sources id ↔ IsSelectedId snapshot percent containers id
chosen_which snapshot percent containers sources are =
    let chosen = selected snapshot percent containers in
    which_ids snapshot percent containers sources (subst (IsPermutation (ids_of chosen)) (sym are) (sources_moved chosen (sources_of chosen) (are_sources chosen)))
