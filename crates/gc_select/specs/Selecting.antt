-- Which containers a collection rewrites, and in which order (docs/MODEL.md, 'Selection').
use Rattle.std.specs.Prelude.{◌≡◌, ℕ, ◌*◌, Bool, true, ◌&&◌, ◌||◌, ◌==◌, nat_lt, List, ◌++◌, map, filter}
use Rattle.std.specs.List.{Any}
use Rattle.std.specs.List.Sorted.{IsPermutation, IsNonDecreasing}
use Rattle.container_meta.specs.declared.kind.Kind.{Kind}
use Rattle.container_meta.specs.declared.kind.Kind.TheVariants.{Leaf, Tree}
use Rattle.container_meta.specs.Format.{kind_byte}
use Rattle.gc_select.specs.declared.liveness.ContainerLiveness.{ContainerLiveness}
use Rattle.gc_select.specs.Rising.{rising}

-- whether a collection rewrites a container: its id is below the snapshot, and less of it than the percentage is live, or nothing is
abbrev pub is_selected : ℕ → ℕ → ContainerLiveness → Bool
is_selected snapshot percent c = nat_lt c.id snapshot && (nat_lt (c.live * 100) (percent * c.all) || c.live == 0)

-- the containers that a collection rewrites
abbrev pub selected : ℕ → ℕ → List ContainerLiveness → List ContainerLiveness
selected snapshot percent containers = filter (is_selected snapshot percent) containers

-- a container of this id is among those that a collection rewrites
abbrev pub IsSelectedId : ℕ → ℕ → List ContainerLiveness → ℕ → Type 0
IsSelectedId snapshot percent containers id = Any (λ c. (c.id ≡ id) × (is_selected snapshot percent c ≡ true)) containers

-- their ids, in the order of the list
abbrev pub ids_of : List ContainerLiveness → List ℕ
ids_of containers = map (λ c. c.id) containers

-- those that hold segments of a kind
abbrev pub of_kind : Kind → List ContainerLiveness → List ContainerLiveness
of_kind kind containers = filter (λ c. kind_byte c.kind == kind_byte kind) containers

-- the ids of containers in the order in which a collection takes them: data before trees, and by rising id
unfoldable pub sources_of : List ContainerLiveness → List ℕ
sources_of containers = rising (ids_of (of_kind Leaf containers)) ++ rising (ids_of (of_kind Tree containers))

-- the same without a way to sort: the ids of all data containers in an order in which they don't fall, then those of all tree
-- containers so. Each id is there as often as among the containers.
pub record AreSources (containers : List ContainerLiveness) (ids : List ℕ) : Type 0 where
  pub data_ids : List ℕ
  pub tree_ids : List ℕ
  pub data_first : ids ≡ data_ids ++ tree_ids
  pub all_data : IsPermutation (ids_of (of_kind Leaf containers)) data_ids
  pub all_trees : IsPermutation (ids_of (of_kind Tree containers)) tree_ids
  pub data_rising : IsNonDecreasing data_ids
  pub trees_rising : IsNonDecreasing tree_ids
