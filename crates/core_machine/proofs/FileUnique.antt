-- What the content of a disk adds to a count of the keys that the trees of all names have: they are those of the files of the names.
use Rattle.core_machine.proofs.Prelude.{◌≡◌, inl, inr, ℕ, List, [], Option, Some, None, Result, Ok, Err, sym, ◌∙◌, ap, subst, length, Contains-append_cases, HeaderValue, Place, PlaceMap, Answer, Named, NameMap, Refusal, Encodes, Store, names_of, HasNewest, IsPartialIndexOf, file_tree, length_of_copy, newest, node_key, some_same, tree_keys, IsAt, IsHarmless, UniqueRow, CoreInvariant, CoreState, FileMachine, AddsToAnswer, RootMachine, stored_in, answered_by}
use Rattle.std.proofs.Common.{Contains}
use Rattle.std.specs.FinMap as finite
use Rattle.std.specs.Prelude.{IfErr}
use Rattle.actor_parts.specs.declared.step.Answer.TheVariants as answers
use Rattle.merkle_file.specs.Tree as tree
use Rattle.merkle_file.specs.Tree.{Tree, Trees}
use Rattle.merkle_file.specs.Walk.{contents_of}
use Rattle.namespace.specs.Listing.{listing_of}
use Rattle.refusals.specs.declared.refusal.Refusal.TheVariants as refusals
use Rattle.read_steps.specs.Unique.{CountsTrees}
use Rattle.read_steps.specs.Visiting.{IsVisited}
use Rattle.read_steps.proofs.Visited.{reached_visited, visited_reached}
use Rattle.store_model.specs.Collisions.{Stands}
use Rattle.store_model.specs.Reserve.{IsReachable, keys_below}
use Rattle.store_model.specs.Slots.{Copy}
use Rattle.store_model.specs.Standing.{IsFileOf}
use Rattle.store_model.specs.Trees.{HoldsTree, HoldsTrees, leaf_key}
use Rattle.store_model.specs.Unique.{AreUnique, HasSized, HaveSized, OneHasSized}
use Rattle.store_model.proofs.Lookups.{finds}
use Rattle.store_core.specs.Core.{IsCounted}
use Rattle.store_machine.specs.Asked as asked
use Rattle.store_machine.proofs.Reached.{needs_reach, value_there}
use Rattle.store_machine.proofs.Swept.{in_cases, none_in}

-- ---- how many bytes a key of a tree has

module _ (store : Store) (image : List ℕ) (right : Encodes image store) (index : PlaceMap) (newest_is : IsPartialIndexOf store.held index) (key : List ℕ) (place : Place)
    (found : finite.get index key ≡ Some place) where
  -- as many as the index says
  long : (own : List ℕ) (level : ℕ) (bytes : List ℕ) → HasNewest store.held own level bytes image → own ≡ key → place.length ≡ length bytes
  long own level bytes has is =
      let copy = finds store index key place newest_is found in
      let same : copy.0 ≡ has.copy = some_same copy.0 has.copy (sym copy.1 ∙ ap (newest 0 store.held) (sym is) ∙ has.copy_is) in
      ap (λ (p : Place). p.length) (sym copy.2) ∙ ap (λ (c : Copy). c.place.length) same ∙ sym (length_of_copy store image own has.copy right has.copy_is)
      ∙ ap length has.bytes_are

  mutual
    sized : (t : Tree (List ℕ)) → HoldsTree store.held image t → Contains (tree_keys t) key → HasSized t key place.length
    sized tree.Empty holds there = absurd (none_in key there)
    sized (tree.Leaf segment) holds there = elim (in_cases (leaf_key segment) [] key there) [
      | inl same ↦ (sym same, long (leaf_key segment) 0 segment holds same)
      | inr none ↦ absurd (none_in key none)
    ]
    sized (tree.Node level ts) holds there = elim (in_cases (node_key (contents_of level ts)) (keys_below ts) key there) [
      | inl same ↦ inl (sym same, long (node_key (contents_of level ts)) level _ holds.0 same)
      | inr below ↦ inr (sized_below ts holds.1 below)
    ]

    sized_below : (ts : Trees (List ℕ)) → HoldsTrees store.held image ts → Contains (keys_below ts) key → HaveSized ts key place.length
    sized_below tree.NoTree holds there = absurd (none_in key there)
    sized_below (tree.Then t ts) holds there = elim (Contains-append_cases (tree_keys t) (keys_below ts) key there) [
      | inl first ↦ inl (sized t holds.0 first)
      | inr later ↦ inr (sized_below ts holds.1 later)
    ]

-- the tree of a name's file is held
held_tree : (held : List (Option HeaderValue)) (image : List ℕ) (named : Option Named) (file : Option (List ℕ)) (bytes : List ℕ) → file ≡ Some bytes →
    IsFileOf held image named file → HoldsTree held image (file_tree bytes)
held_tree held image (Some named) (Some own) bytes filed is = subst (λ (b : List ℕ). HoldsTree held image (file_tree b)) (some_same own bytes filed) is.1
held_tree held image (Some named) None bytes filed is = absurd is
held_tree held image None (Some own) bytes filed is = absurd is
held_tree held image None None bytes filed is = absurd (let wrong : None ≡ Some bytes = filed in cc)

-- ---- what is counted

module _ (S : List ℕ → Type 0) (m : FileMachine) (t : RootMachine) (old new : CoreState) (at : IsAt S m.store (stored_in m.now) old) (a : ℕ) (buf : List ℕ) where
  abbrev image : List ℕ
  image = at.stands.known.0

  abbrev here : old.disk.content ≡ Some image
  here = at.stands.known.1

  stands_here : Stands S m.store m.now.names image
  stands_here = at.stands.each image (old.disk.as_read image here)

  invariant : CoreInvariant at.index m.store m.now.names old.parts image
  invariant = at.invariant image here

  module _ (segments bytes : ℕ) (is : CountsTrees at.index old.disk new.disk (listing_of (names_of m.store)) segments bytes) where
    was_visited : (key : List ℕ) → IsReachable m.now.names key → IsVisited is.visited key
    was_visited key reach =
        visited_reached m.store m.now.names image stands_here.holds at.index old.disk new.disk
        is.visited here invariant.index_is_newest invariant.files_are_indexed is.visits key reach

    can_be_reached : (key : List ℕ) → IsVisited is.visited key → IsReachable m.now.names key
    can_be_reached key visited =
        reached_visited m.store m.now.names image stands_here.holds at.index old.disk new.disk
        is.visited here invariant.index_is_newest invariant.files_are_indexed is.visits key visited

    one_has : (key : List ℕ) (size : ℕ) → finite.get is.sizes key ≡ Some size → OneHasSized (finite.values m.now.names) key size
    one_has key size got =
        let visited = is.are.only key size got in
        let (place, (found, sized_so)) = is.are.all key visited in
        let (name, (file, (filed, there))) = can_be_reached key visited in
        let same : place.length ≡ size = some_same place.length size (sym sized_so ∙ got) in (
          file,
          (
            value_there (List ℕ) name file (finite.entries m.now.names) (sym (finite.get-entries m.now.names name) ∙ filed),
            subst (HasSized (file_tree file) key) same
                (sized m.store image stands_here.holds.right at.index invariant.index_is_newest key place found (file_tree file)
                (held_tree m.store.held image (finite.get (names_of m.store) name) (finite.get m.now.names name) file filed (stands_here.holds.files_are name)) there),
          ),
        )

    are_unique : AreUnique (finite.values m.now.names) segments bytes
    are_unique = record {
      sizes = is.sizes;
      all = λ file key named there.
          let (place, (found, sized_so)) = is.are.all key (was_visited key (needs_reach m.now key (file, (named, there)))) in (place.length, sized_so);
      only = one_has;
      segments_is = is.segments_is;
      bytes_is = is.bytes_is;
    }

  counted : (segments bytes : ℕ) → IsCounted segments bytes old new → AreUnique (finite.values m.now.names) segments bytes
  counted segments bytes is =
      are_unique segments bytes
      (subst (λ (names : NameMap). CountsTrees at.index old.disk new.disk (listing_of names) segments bytes) at.represents.names_are.names_are
      (is.counts at.index at.index_known))

  -- What is counted is of the files; and no damage is met.
  pub unique_adds : (answer : Result Answer Refusal) → UniqueRow answer old new → IfErr answer (λ refusal. IsHarmless ⊥ refusal)
      → AddsToAnswer a asked.Unique (answered_by answer buf) m t
  unique_adds (Ok (answers.Unique segments bytes)) row harmless = counted segments bytes row
  unique_adds (Ok answer) row harmless = absurd row
  unique_adds (Err (refusals.Corrupt slot offset count want got)) row harmless = harmless
  unique_adds (Err (refusals.Missing key)) row harmless = harmless
  unique_adds (Err (refusals.Damaged place why)) row harmless = harmless
  unique_adds (Err refusal) row harmless = tt
