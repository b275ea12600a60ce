-- A file that is read goes on over a step of a collection, which spares what is needed: the trees of the files that actors read.
use Rattle.core_machine.proofs.Prelude.{◌≡◌, inr, ◌<◌, ℕ, List, [], ◌∷◌, Option, Some, refl, sym, ◌∙◌, ap, subst, AllByRecursion, HeaderValue, of_segment, IsTree, segments_in, ACTORS, Reader, SegmentsAhead, segments_on, IsPartKey, IsIn, Stored, Store, root_key, HoldsCounted, key_set, tree_keys, HasKey, KeepsCopies, HasNewest, file_tree, contained, in_set, tree_on, right_file, root_of_tree, HoldsPart, IsAt, CoreState, all_part}
use Rattle.std.proofs.Common.{map}
use Rattle.std.specs.List.{Contains}
use Rattle.merkle_file.specs.Tree.{Tree, Empty, Leaf, Node, root_of}
use Rattle.merkle_file.specs.Walk.{trees_in}
use Rattle.actor_parts.specs.declared.part.Part.TheVariants as core_parts
use Rattle.actor_parts.specs.declared.part.Part as core_part
use Rattle.actor_parts.specs.Parts.{part_of}
use Rattle.read_steps.specs.Opening.{top_of}
use Rattle.read_steps.proofs.Whole.{head_is, tail_is}
use Rattle.gc_steps.specs.Safety.{IsNeeded}
use Rattle.gc_steps.proofs.ReaderNeeds.{reader_needs}
use Rattle.store_model.proofs.Unfolding.{trees_agree}
use Rattle.store_state.specs.Invariant.{HoldsRest}
use Rattle.core_machine.specs.Files.{Takes}
use Rattle.core_machine.proofs.Coming.{takes_at}

-- ---- trees

-- trees of one root that are held are one
module _ (held : List (Option HeaderValue)) (image : List ℕ) (P Q : List ℕ → Type 0) where
  right_tree : (t : Tree (List ℕ)) → IsTree t → AllByRecursion IsTree (trees_in t)
  right_tree Empty right = absurd right
  right_tree (Leaf segment) right = (right, tt)
  right_tree (Node level ts) right = (right, tt)

  same_lists : (t u : Tree (List ℕ)) (ts us : List (Tree (List ℕ))) → t ≡ u → ts ≡ us → t ∷ ts ≡ u ∷ us
  same_lists t u ts us first rest = cc

  same_trees : (ts us : List (Tree (List ℕ))) → map (root_of of_segment) ts ≡ map (root_of of_segment) us → AllByRecursion IsTree ts → AllByRecursion IsTree us
      → AllByRecursion (HoldsCounted P held image) ts → AllByRecursion (HoldsCounted Q held image) us → ts ≡ us
  same_trees [] [] tops right also one other = refl
  same_trees [] (u ∷ us) tops right also one other = absurd (let wrong = tops in cc)
  same_trees (t ∷ ts) [] tops right also one other = absurd (let wrong = tops in cc)
  same_trees (t ∷ ts) (u ∷ us) tops right also one other =
      same_lists t u ts us
      (trees_agree held image t u (right_tree t right.0) (right_tree u also.0) one.0.tree_is_held other.0.tree_is_held (head_is _ _ _ _ tops))
      (same_trees ts us (tail_is _ _ _ _ tops) right.1 also.1 one.1 other.1)

-- ---- a file that is read, where what is needed is spared

module _ (S : List ℕ → Type 0) (s t : Store) (stored later : Stored) (old new : CoreState) (at : IsAt S s stored old) (then : IsAt S t later new) where
  abbrev pub image : List ℕ
  image = at.stands.known.0

  abbrev pub here : old.disk.content ≡ Some image
  here = at.stands.known.1

  abbrev pub after : List ℕ
  after = then.stands.known.0

  abbrev pub told : new.disk.content ≡ Some after
  told = then.stands.known.1

  -- the index keeps each key that is needed, and with it its newest copy
  pub record KeepsNeeded : Type 0 where
    pub keys : (key : List ℕ) → IsNeeded s old.parts image key → HasKey at.index key → HasKey then.index key
    pub copies : (key : List ℕ) → IsNeeded s old.parts image key → HasKey at.index key → (level : ℕ) (bytes : List ℕ) → HasNewest s.held key level bytes image
        → HasNewest t.held key level bytes after

  module _ (spares : KeepsNeeded) (actor : ℕ) (below : actor < ACTORS) where
    module _ (reader : Reader) (is : part_of old.parts actor ≡ core_parts.Reading reader) where
      rest_held : HoldsRest (HasKey at.index) s.held image reader
      rest_held =
          subst (HoldsPart (HasKey at.index) s.held image) is (all_part (HoldsPart (HasKey at.index) s.held image) old.parts actor tt (at.invariant image here).pins_are_closed)

      abbrev keys : List (List ℕ)
      keys = tree_keys rest_held.whole

      key_needed : (key : List ℕ) → Contains keys key → IsNeeded s old.parts image key
      key_needed key there =
          let needs = reader_needs (HasKey at.index) s.held image reader rest_held key there in
          record {
            root = root_key reader.root;
            is_root = inr (actor, (below, subst (λ (part : core_part.Part). IsPartKey part (root_key reader.root)) (sym is) needs.0));
            tree = rest_held.whole;
            right = needs.2;
            is_held = needs.3;
            root_is = needs.1;
            within = there;
          }

      key_has : (key : List ℕ) → Contains keys key → HasKey at.index key
      key_has key there = rest_held.is_held.count key there

      goes_on : KeepsCopies (IsIn (key_set keys)) s image t after
      goes_on key level text there newest =
          let has = contained key keys there in
          spares.copies key (key_needed key has) (key_has key has) level text newest

      -- the file's tree is the one that is held whole
      whole_same : (file : List ℕ) (rest : List (List ℕ)) → Takes file rest reader old → rest_held.whole ≡ file_tree file
      whole_same file rest takes =
          trees_agree s.held image rest_held.whole (file_tree file) rest_held.right (right_file file takes.fits) rest_held.is_held.tree_is_held
          (takes.whole s image at.represents here).tree_is_held
          (sym rest_held.top_is ∙ ap top_of (takes.root_is ∙ root_of_tree file takes.fits))

      pub takes_still : (file : List ℕ) (rest : List (List ℕ)) → Takes file rest reader old → Takes file rest reader new
      takes_still file rest takes =
          let ahead : SegmentsAhead takes.counts s.held image reader.cursor rest = takes.segments s image at.represents here in
          let same : ahead.trees ≡ rest_held.trees =
          same_trees s.held image (IsIn takes.counts) (IsIn (key_set keys)) ahead.trees rest_held.trees (sym ahead.held_ahead.trees.tops ∙ rest_held.ahead.tops)
          ahead.held_ahead.trees.each rest_held.ahead.each
          ahead.held_ahead.each rest_held.are_held in
          takes_at S t later new then after told (key_set keys)
          (λ key there. let has = contained key keys there in spares.keys key (key_needed key has) (key_has key has)) file rest reader takes.fits takes.root_is
          (subst (HoldsCounted (IsIn (key_set keys)) t.held after) (whole_same file rest takes)
          (tree_on (IsIn (key_set keys)) (IsIn (key_set keys)) s t image after goes_on (λ key there. there) rest_held.whole
          (record { tree_is_held = rest_held.is_held.tree_is_held; count = λ key there. in_set key keys there })))
          (segments_on (key_set keys) s t image after goes_on reader.cursor rest
          (record { trees = rest_held.trees; held_ahead = record { trees = rest_held.ahead; each = rest_held.are_held }; segments_are = ahead.segments_are ∙ ap segments_in same }))
