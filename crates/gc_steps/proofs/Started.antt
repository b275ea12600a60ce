-- What holds as a collection begins.
use Rattle.gc_steps.proofs.Prelude.{◌≡◌, ◌≤◌, inl, inr, ◌<◌, ◌+◌, ◌-◌, ◌^◌, ℕ, zero, suc, min, List, [], ◌∷◌, Option, subst, refl, arith, AllByRecursion, MOST_LEVEL, Part, Idle, Reading, Writing, Place, PlaceMap, NameMap, Files, Store, names_of, HasKey, last_id, IsStoreOf, headers_of_right, CoreInvariant, HoldsPart, Represents, Tables, Collection, HoldsNode, IsWhole, IsPassed, MarksAreClosed, IsPartKey, IsRoot, mark_level}
use Rattle.std.proofs.Common.{◌↔◌}
use Rattle.actor_parts.specs.Parts.{part_of}
use Rattle.gc_enumerate.specs.Live.{IsLiveAt}
use Rattle.merkle_file.specs.Node.{Contents}
use Rattle.store_model.specs.Slots.{Copy}
use Rattle.store_model.proofs.Sound.{last_within}
use Rattle.gc_steps.proofs.FirstStage.{none_new, none_passed}
use Rattle.gc_steps.proofs.PinnedTrees.{pinned_whole}
use Rattle.gc_steps.proofs.RootTrees.{whole_indexed, whole_name, whole_reader}

pub part_holds : (P : Part → Type 0) (parts : List Part) (actor : ℕ) → P Idle → AllByRecursion P parts → P (part_of parts actor)
unfolding part_of
part_holds P [] actor idle all = idle
part_holds P (p ∷ ps) zero idle all = all.0
part_holds P (p ∷ ps) (suc actor) idle all = part_holds P ps actor idle all.1

module _ (index : PlaceMap) (store : Store) (files : Files) (parts : List Part) (image : List ℕ) (core : CoreInvariant index store files parts image)
    (holds : IsStoreOf store files image) where
  part_whole : (part : Part) (key : List ℕ) → HoldsPart (HasKey index) store.held image part → IsPartKey part key → IsWhole index store.held image key
  part_whole Idle key held is = absurd is
  part_whole (Writing pins) key held is = pinned_whole index store files image holds pins held key is.0 is.1
  part_whole (Reading reader) key held is = whole_reader index store.held image reader key held is

  -- The tree of each root is held whole.
  pub root_whole : (key : List ℕ) → IsRoot (names_of store) parts key → IsWhole index store.held image key
  root_whole key (inl name) = whole_name index store files image key holds core.files_are_indexed name
  root_whole key (inr actor) = part_whole (part_of parts actor.0) key (part_holds (HoldsPart (HasKey index) store.held image) parts actor.0 tt core.pins_are_closed) actor.1.1

  -- Where just the roots are live, no container came after the collection began, and no node that is held was passed, marks are closed.
  pub roots_only : (c : Collection) → ((key : List ℕ) (place : Place) → IsLiveAt c.live key place ↔ IsRoot (names_of store) parts key) → last_id store.held < c.snapshot
      → ((n : Contents) (copy : Copy) → HoldsNode store.held image n copy → IsPassed c n.level copy → ⊥) → MarksAreClosed index store parts image c
  roots_only c live above unpassed = record {
    roots_are_live = λ key root.
        let has = whole_indexed index store.held image key (root_whole key root) in
        (has.0, (has.1, (live key has.0).1 root));
    live_is_whole = λ key marked. root_whole key ((live key marked.0).0 marked.1.1);
    passed_is_closed = λ n copy node marked passed. absurd (unpassed n copy node passed);
    new_are_live = none_new index c.live c.snapshot store.held above;
  }

  -- So it is as a collection begins on these tables, by what `start` says.
  pub started : (known : Option PlaceMap) (t : Tables) (c : Collection) → Represents store known t → c.snapshot ≡ min (t.held.last_id + 1) (2 ^ 64 - 1)
      → c.stage ≡ mark_level c.snapshot t.held MOST_LEVEL
      → ((key : List ℕ) (place : Place) → IsLiveAt c.live key place ↔ IsRoot t.names parts key) → MarksAreClosed index store parts image c
  started known t c represents snapshot stage live =
      let last : last_id store.held ≤ 2 ^ 64 - 2 = last_within store.held (headers_of_right image store holds.right) in
      let above : last_id store.held < c.snapshot = omega (arith, snapshot, represents.slots_hold.last_id_is, last) in
      roots_only c (λ key place. subst (λ (names : NameMap). IsLiveAt c.live key place ↔ IsRoot names parts key) represents.names_are.names_are (live key place)) above
      (none_passed store.held image t.held c.snapshot holds.right.slots_are represents.slots_hold above c refl stage)
