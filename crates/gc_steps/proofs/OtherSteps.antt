-- Steps of other actors that bring no root, and no container, leave both invariants of a collection.
use Rattle.gc_steps.proofs.Prelude.{◌≡◌, ◌⊎◌, ℕ, suc, ◌<◌, true, List, refl, subst, ACTORS, Part, Idle, Writing, PinMap, has_pin, PlaceMap, Root, Put, Delete, NameMap, Store, names_of, root_key, HasKey, KeepsCopies, Collection, IsRoot}
use Rattle.std.specs.FinMap as finite
use Rattle.actor_parts.specs.Parts.{part_of, with_part}
use Rattle.store_model.specs.Image.{last_sequence}
use Rattle.store_model.specs.Journal.{Follow}
use Rattle.store_model.specs.Steps.{with_change}
use Rattle.store_model.proofs.NameChanges.{names_after_change}
use Rattle.gc_steps.proofs.Carried.{KeepsBoth}
use Rattle.gc_steps.proofs.FewerRoots.{fewer_roots}
use Rattle.gc_steps.proofs.RootsAfter.{committed_root, deleted_root}

-- ---- names and parts stay

module _ (index : PlaceMap) (store : Store) (old new : List ℕ) (parts : List Part) (c : Collection) where
  -- The image alone changes: so it is after a seal that is refused.
  pub kept : KeepsCopies (HasKey index) store old store new → KeepsBoth index index store store parts parts old new c c
  kept keeps = fewer_roots index store store old new parts parts c refl keeps (λ key root. root)

-- ---- a name changes

module _ (index : PlaceMap) (store : Store) (old new : List ℕ) (parts : List Part) (c : Collection) (name : List ℕ) (follow : Follow 0 finite.empty store.records) where
  -- It is deleted.
  pub deleted : KeepsCopies (HasKey index) store old (with_change name Delete store) new → KeepsBoth index index store (with_change name Delete store) parts parts old new c c
  deleted keeps =
      fewer_roots index store (with_change name Delete store) old new parts parts c refl keeps
      (λ key root. deleted_root (suc (last_sequence store)) name (names_of store) parts key
      (subst (λ (names : NameMap). IsRoot names parts key) (names_after_change name Delete store follow) root))

  -- It is given the root of the file that an actor stored.
  pub committed : (root : Root) (actor : ℕ) (pins : PinMap) → actor < ACTORS → part_of parts actor ≡ Writing pins
      → (root.length ≡ 0) ⊎ (has_pin pins (root_key root) (record { level = root.level; length = root.length }) ≡ true)
      → KeepsCopies (HasKey index) store old (with_change name (Put root) store) new
      → KeepsBoth index index store (with_change name (Put root) store) parts (with_part parts actor Idle) old new c c
  committed root actor pins below writing stored keeps =
      fewer_roots index store (with_change name (Put root) store) old new parts (with_part parts actor Idle) c refl keeps
      (λ key is.
      committed_root (suc (last_sequence store)) name root (names_of store) parts actor pins below writing stored key
      (subst (λ (names : NameMap). IsRoot names (with_part parts actor Idle) key) (names_after_change name (Put root) store follow) is))
