-- What a machine of files needs as a collection begins, of a core that is at its files: the collection's roots, with a node its children, and
-- nothing that doesn't lie below a root.
use Rattle.core_machine.proofs.Prelude.{◌≡◌, ◌⊎◌, ◌<◌, inl, inr, ℕ, List, ◌++◌, length, Some, refl, sym, subst, arith, Contains-append_cases, Contains-append_left, Contains-append_right, ACTORS, Reader, PinMap, LiveKeys, IsLive, IsPartKey, IsRoot, Stored, names_of, IsReachable, tree_keys, HasKey, file_tree, node_key, HoldsPart, IsAt, CoreState, all_part, FileMachine, Reading, part_in, OneNeeds, keys_kept, values_read, of_files, FilePart, ReadsFiles, stored_in}
use Rattle.std.proofs.Common.{Contains}
use Rattle.std.specs.FinMap as finite
use Rattle.actor_parts.specs.declared.part.Part as core_part
use Rattle.actor_parts.specs.declared.part.Part.TheVariants as core
use Rattle.actor_parts.specs.Parts.{part_of}
use Rattle.gc_steps.proofs.FileKeys.{name_reachable}
use Rattle.store_machine.specs.Machine.{Idle, Writing}
use Rattle.core_machine.specs.Files.{Takes}
use Rattle.core_machine.proofs.BelowRoots.{Below, below_closed, files_below, root_below, root_taken, taken_below, taken_closed}
use Rattle.core_machine.proofs.CollectNeeds.{needs_closed, needs_here}
use Rattle.store_machine.proofs.Reached.{needs_reach, reach_needs}
use Rattle.core_machine.proofs.FileNeeds.{AllFit, PartsFit}
use Rattle.core_machine.proofs.FileParts.{IsKeptBy, fit_at, kept_by, kept_there, many_same, read_by, read_there, reading_fits, writing_fits}
use Rattle.core_machine.proofs.Lives.{IsClosed}
use Rattle.core_machine.proofs.LivesOn.{children_pinned}

module _ (S : List ℕ → Type 0) (m : FileMachine) (c : CoreState) (at : IsAt S m.store (stored_in m.now) c) (fit : AllFit m.parts c.parts) (reads : ReadsFiles m c)
    (image : List ℕ) (told : c.disk.content ≡ Some image) where
  abbrev stored : Stored
  stored = stored_in m.now

  -- what is needed then: by the values that names have or actors read, or as a key that an actor keeps
  abbrev pub NeededNow : List ℕ → Type 0
  NeededNow key = OneNeeds of_files (finite.values m.now.names ++ values_read m.parts) key ⊎ Contains (keys_kept m.parts) key

  of_name : (key : List ℕ) → IsReachable m.now.names key → NeededNow key
  of_name key file = let needs = reach_needs m.now key file in inl (needs.0, (Contains-append_left (finite.values m.now.names) (values_read m.parts) needs.0 needs.1.0, needs.1.1))

  of_reader : (file key : List ℕ) → Contains (values_read m.parts) file → Contains (tree_keys (file_tree file)) key → NeededNow key
  of_reader file key read there = inl (file, (Contains-append_right (finite.values m.now.names) (values_read m.parts) file read, there))

  -- a file that is read is taken by a reader of the core
  record IsTaken (file : List ℕ) : Type 0 where
    actor : ℕ
    below : actor < ACTORS
    rest : List (List ℕ)
    reader : Reader
    part_is : part_of c.parts actor ≡ core.Reading reader
    takes : Takes file rest reader c

  there_is : (actor : ℕ) → actor < length m.parts → actor < ACTORS
  there_is actor below = omega (arith, below, many_same m.parts c.parts fit, at.many)

  taken : (file : List ℕ) → Contains (values_read m.parts) file → IsTaken file
  taken file read =
      let by = read_by m.parts file read in
      let is = reading_fits (part_in m by.actor) (part_of c.parts by.actor) file by.rest (fit_at m.parts c.parts by.actor fit) by.reading in
      record {
        actor = by.actor;
        below = there_is by.actor by.below;
        rest = by.rest;
        reader = is.0;
        part_is = is.1;
        takes = reads by.actor file by.rest is.0 by.reading is.1;
      }

  -- each that a value has is of a name's file, or of one that is read
  by_value : {Q : Type 0} (key : List ℕ) → OneNeeds of_files (finite.values m.now.names ++ values_read m.parts) key → (IsReachable m.now.names key → Q)
      → ((file : List ℕ) → Contains (values_read m.parts) file → Contains (tree_keys (file_tree file)) key → Q) → Q
  by_value key needs name reader = elim (Contains-append_cases (finite.values m.now.names) (values_read m.parts) needs.0 needs.1.0) [
    | inl names ↦ name (needs_reach m.now key (needs.0, (names, needs.1.1)))
    | inr read ↦ reader needs.0 read needs.1.1
  ]

  -- a key that is kept is pinned in the core
  pinned : (key : List ℕ) (by : IsKeptBy m.parts key) → part_of c.parts by.actor ≡ core.Writing by.pins
  pinned key by = writing_fits (part_in m by.actor) (part_of c.parts by.actor) by.pins (fit_at m.parts c.parts by.actor fit) by.writing

  -- ---- the roots are needed

  by_part : (i : ℕ) (p : FilePart) (q : core_part.Part) (key : List ℕ) → part_in m i ≡ p → part_of c.parts i ≡ q → PartsFit p q → IsPartKey q key → NeededNow key
  by_part i Idle core.Idle key p_is q_is one is = absurd is
  by_part i Idle (core.Writing pins) key p_is q_is one is = absurd one
  by_part i Idle (core.Reading reader) key p_is q_is one is = absurd one
  by_part i (Writing pins) core.Idle key p_is q_is one is = absurd is
  by_part i (Writing pins) (core.Writing others) key p_is q_is one is = inr (kept_there m.parts i pins key p_is (subst (λ (x : PinMap). IsPartKey (core.Writing x) key) one is))
  by_part i (Writing pins) (core.Reading reader) key p_is q_is one is = absurd one
  by_part i (Reading file rest) core.Idle key p_is q_is one is = absurd is
  by_part i (Reading file rest) (core.Writing pins) key p_is q_is one is = absurd one
  by_part i (Reading file rest) (core.Reading reader) key p_is q_is one is =
      of_reader file key (read_there m.parts i file rest p_is) (root_taken c file rest reader (reads i file rest reader p_is q_is) key is)

  pub roots_needed : (key : List ℕ) → IsRoot (names_of m.store) c.parts key → NeededNow key
  roots_needed key (inl name) = of_name key (name_reachable m.store m.now.names image key (needs_here S m.store stored c at image told) name)
  roots_needed key (inr actor) = by_part actor.0 (part_in m actor.0) (part_of c.parts actor.0) key refl refl (fit_at m.parts c.parts actor.0 fit) actor.1.1

  -- ---- with a node its children are

  pub needed_closed : IsClosed NeededNow m.store image
  needed_closed n copy node_is (inl needs) key child =
      by_value (node_key n) needs (λ name. of_name key (needs_closed S m.store stored c at image told n copy node_is name key child))
      (λ file read there. let is = taken file read in of_reader file key read
      (taken_closed c file is.rest is.reader is.takes S m.store stored at image told n copy node_is there key child))
  needed_closed n copy node_is (inr kept) key child =
      let by = kept_by m.parts (node_key n) kept in
      let holds : HoldsPart (HasKey at.index) m.store.held image (core.Writing by.pins) =
      subst (HoldsPart (HasKey at.index) m.store.held image) (pinned (node_key n) by)
      (all_part (HoldsPart (HasKey at.index) m.store.held image) c.parts by.actor tt (at.invariant image told).pins_are_closed) in
      inr (kept_there m.parts by.actor by.pins key by.writing (children_pinned (HasKey at.index) m.store.held image by.pins holds n copy node_is by.pinned key child))

  -- ---- each lies below a root

  module _ (live : LiveKeys) (roots : (key : List ℕ) → IsRoot (names_of m.store) c.parts key → IsLive at.index live key) where
    abbrev Under : List ℕ → Type 0
    Under = Below S m.store stored c at image told live roots

    part_below : (actor : ℕ) (part : core_part.Part) (key : List ℕ) → actor < ACTORS → part_of c.parts actor ≡ part → IsPartKey part key → Under key
    part_below actor part key below part_is is =
        root_below S m.store stored c at image told live roots key (inr (actor, (below, subst (λ (p : core_part.Part). IsPartKey p key) (sym part_is) is)))

    pub needed_below : (key : List ℕ) → NeededNow key → Under key
    needed_below key (inl needs) =
        by_value key needs (files_below S m.store stored c at image told live roots key)
        (λ file read there. let is = taken file read in
        taken_below c file is.rest is.reader is.takes S m.store stored at image told Under (below_closed S m.store stored c at image told live roots)
        (λ k of. part_below is.actor (core.Reading is.reader) k is.below is.part_is of) key there)
    needed_below key (inr kept) =
        let by = kept_by m.parts key kept in part_below by.actor (core.Writing by.pins) key (there_is by.actor by.below) (pinned key by) by.pinned
