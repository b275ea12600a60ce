-- The keys that files need, once a command changed them.
use Rattle.store_model.proofs.Prelude.{◌≡◌, Bool, true, false, cond, List, ℕ, Option, Some, None, sym, ◌∙◌, subst, slice_cmp, nat_list_cmp_total, Contains, nat_cmp, eq_by_cmp, Named, Files, Store, names_of, AllKeys, IsReachable, tree_keys, Copy, newest, AreFilesOf, IsFileOf}
use Rattle.std.specs.FinMap as finite
use Rattle.store_model.specs.Files.{with_file, without_file}
use Rattle.store_model.specs.Trees.{file_tree}
use Rattle.store_model.proofs.Counted.{held_keys}

one_of : (a b : List ℕ) → Some a ≡ Some b → a ≡ b
one_of a b is = cc

module _ (P : List ℕ → Type 0) (files : Files) (all : (key : List ℕ) → IsReachable files key → P key) (name : List ℕ) where
  -- a file is put, of whose keys P holds
  pub reached_put : (bytes : List ℕ) → AllKeys P (file_tree bytes) → (key : List ℕ) → IsReachable (with_file files name bytes) key → P key
  reached_put bytes mine key (other, (found, (filed, there))) =
      by_tie (eq_by_cmp (slice_cmp nat_cmp) other name) (sym (finite.get-insert nat_list_cmp_total files name bytes other) ∙ filed)
    where
      by_tie : (b : Bool) → cond b (Some bytes) (finite.get files other) ≡ Some found → P key
      by_tie true is = mine key (subst (λ (b : List ℕ). Contains (tree_keys (file_tree b)) key) (sym (one_of bytes found is)) there)
      by_tie false is = all key (other, (found, (is, there)))

  -- one is taken away
  pub reached_less : (key : List ℕ) → IsReachable (without_file files name) key → P key
  reached_less key (other, (found, (filed, there))) =
      by_tie (eq_by_cmp (slice_cmp nat_cmp) other name) (sym (finite.get-remove nat_list_cmp_total files name other) ∙ filed)
    where
      by_tie : (b : Bool) → cond b None (finite.get files other) ≡ Some found → P key
      by_tie true is = absurd cc
      by_tie false is = all key (other, (found, (is, there)))

-- P holds of the keys that files need, where it holds of each that is held
module _ (P : List ℕ → Type 0) (store : Store) (files : Files) (image : List ℕ) (are : AreFilesOf store.held (names_of store) image files)
    (each : (key : List ℕ) (copy : Copy) → newest 0 store.held key ≡ Some copy → P key) where
  pub reached_held : (key : List ℕ) → IsReachable files key → P key
  reached_held key (name, (bytes, (filed, there))) = by_file (finite.get (names_of store) name) (finite.get files name) filed (are name)
    where
      by_file : (named : Option Named) (file : Option (List ℕ)) → file ≡ Some bytes → IsFileOf store.held image named file → P key
      by_file None None is holds = absurd cc
      by_file None (Some other) is holds = absurd holds
      by_file (Some named) None is holds = absurd holds
      by_file (Some named) (Some other) is holds =
          held_keys P store.held image each (file_tree other) holds.1 key (subst (λ (b : List ℕ). Contains (tree_keys (file_tree b)) key) (sym (one_of other bytes is)) there)
