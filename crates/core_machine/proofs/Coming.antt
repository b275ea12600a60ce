-- What is to come of a file, by any store that the tables of a core may be of.
use Rattle.core_machine.proofs.Prelude.{◌≡◌, ◌∙◌, ℕ, ◌≤◌, List, [], ◌∷◌, ◌++◌, length, Some, refl, sym, subst, arith, MOST_FILE, PlaceMap, of_segment, IsTree, Reader, Stored, Store, ByteSet, IsIn, HoldsCounted, HasKey, KeepsCopies, StoreChange, file_tree, tree_on, SegmentsAhead, segments_on, Represents, IsAt, CoreState, NextOn, some_same}
use Rattle.merkle_file.specs.Tree as tree
use Rattle.merkle_file.specs.Tree.{Tree, Trees, children_of, leaves, leaves_below}
use Rattle.merkle_file.specs.Walk.{AreBelow}
use Rattle.store_model.specs.Trees.{root_of}
use Rattle.store_model.proofs.SameIndex.{same_copies}
use Rattle.read_steps.specs.Walking.{IsIndexed}
use Rattle.core_machine.specs.Files.{Takes}

module _ (S : List ℕ → Type 0) (s : Store) (stored : Stored) (c : CoreState) (at : IsAt S s stored c) (image : List ℕ) (told : c.disk.content ≡ Some image) where
  -- the index has these keys
  abbrev pub AreIndexed : ByteSet → Type 0
  AreIndexed counts = (key : List ℕ) → IsIn counts key → HasKey at.index key

  pub indexed_at : (counts : ByteSet) → AreIndexed counts → IsIndexed counts s.held c.known c.disk.content image
  indexed_at counts has = record { told = told; index = at.index; index_known = at.index_known; index_is_newest = at.represents.index_is_newest at.index at.index_known; has = has }

  pub ahead_at : (file : List ℕ) (rest : List (List ℕ)) (reader : Reader) (takes : Takes file rest reader c) → SegmentsAhead takes.counts s.held image reader.cursor rest
  ahead_at file rest reader takes = takes.segments s image at.represents told

  pub whole_at : (file : List ℕ) (rest : List (List ℕ)) (reader : Reader) (takes : Takes file rest reader c) → HoldsCounted (IsIn takes.counts) s.held image (file_tree file)
  whole_at file rest reader takes = takes.whole s image at.represents told

  pub takes_at : (counts : ByteSet) → AreIndexed counts → (file : List ℕ) (rest : List (List ℕ)) (reader : Reader) → length file ≤ MOST_FILE → reader.root ≡ root_of file
      → HoldsCounted (IsIn counts) s.held image (file_tree file)
      → SegmentsAhead counts s.held image reader.cursor rest → Takes file rest reader c
  takes_at counts has file rest reader fits root whole is = record {
    fits = fits;
    root_is = root;
    counts = counts;
    indexed = λ index index_is key there. subst (λ (m : PlaceMap). HasKey m key) (some_same at.index index (sym at.index_known ∙ index_is)) (has key there);
    whole = λ store now represents told_now.
        subst (λ (bytes : List ℕ). HoldsCounted (IsIn counts) store.held bytes (file_tree file)) (same_image now told_now)
        (tree_on (IsIn counts) (IsIn counts) s store image image (goes_on store represents) (λ key there. there) (file_tree file) whole);
    segments = λ store now represents told_now.
        subst (λ (bytes : List ℕ). SegmentsAhead counts store.held bytes reader.cursor rest) (same_image now told_now)
        (segments_on counts s store image image (goes_on store represents) reader.cursor rest is);
  }
    where
      same_image : (now : List ℕ) → c.disk.content ≡ Some now → image ≡ now
      same_image now told_now = let both = sym told ∙ told_now in cc

      goes_on : (store : Store) → Represents store c.known c.tables → KeepsCopies (IsIn counts) s image store image
      goes_on store represents key level bytes there =
          same_copies s store at.index image (at.represents.index_is_newest at.index at.index_known) (represents.index_is_newest at.index at.index_known) key level bytes
          (has key there)

-- a file that is read, where the newest copies stay
pub takes_on : (S : List ℕ → Type 0) (s : Store) (changes : List StoreChange) (stored later : Stored) (old new : CoreState) → IsAt S s stored old → NextOn S s changes later old new
    → (file : List ℕ) (rest : List (List ℕ)) (reader : Reader) → Takes file rest reader old → Takes file rest reader new
takes_on S s changes stored later old new at next file rest reader takes = record {
  fits = takes.fits;
  root_is = takes.root_is;
  counts = takes.counts;
  indexed = λ index is key there. next.keys at.index index at.index_known is key (takes.indexed at.index at.index_known key there);
  whole = λ store image represents told.
      tree_on (IsIn takes.counts) (IsIn takes.counts) s store at.stands.known.0 image (goes_on store image represents told) (λ key there. there) (file_tree file)
      (takes.whole s at.stands.known.0 at.represents at.stands.known.1);
  segments = λ store image represents told.
      segments_on takes.counts s store at.stands.known.0 image (goes_on store image represents told) reader.cursor rest
      (takes.segments s at.stands.known.0 at.represents at.stands.known.1);
}
  where
    goes_on : (store : Store) (image : List ℕ) → Represents store new.known new.tables → new.disk.content ≡ Some image
        → KeepsCopies (IsIn takes.counts) s at.stands.known.0 store image
    goes_on store image represents told key level bytes there has =
        let before = at.stands.known in
        let then = next.next.is_at in
        let has_key : HasKey at.index key = takes.indexed at.index at.index_known key there in
        same_copies next.next.store store then.index image (then.represents.index_is_newest then.index then.index_known)
        (represents.index_is_newest then.index then.index_known) key level bytes
        (next.keys at.index then.index at.index_known then.index_known key has_key) (next.copies at.index before.0 image at.index_known before.1 told key level bytes has_key has)

-- ---- where a tree is to come, a segment is

none_before : (xs ys : List (List ℕ)) → xs ++ ys ≡ [] → xs ≡ []
none_before [] ys none = refl
none_before (x ∷ xs) ys none = absurd cc

mutual
  some_leaf : (t : Tree (List ℕ)) → IsTree t → leaves t ≡ [] → ⊥
  some_leaf tree.Empty right none = right
  some_leaf (tree.Leaf segment) right none = cc
  some_leaf (tree.Node level ts) right none = some_below level ts right.0.some right.1 none

  some_below : (level : ℕ) (ts : Trees (List ℕ)) → 1 ≤ length (children_of of_segment ts) → AreBelow level ts → leaves_below ts ≡ [] → ⊥
  some_below level tree.NoTree some below none = omega (arith, some)
  some_below level (tree.Then t ts) some below none = some_leaf t below.1 (none_before (leaves t) (leaves_below ts) none)
