-- What the names of the machine of files need is just what can be reached of their files; and of an image that is a store of files the names
-- have the roots of these.
use Rattle.core_machine.proofs.Prelude.{◌≡◌, ℕ, List, Option, Some, None, option_map, refl, sym, ◌∙◌, ap, subst, HeaderValue, Root, Named, Store, last_sequence, names_of, FitsFile, files_fit, SameNow, Found, IsNamedBy, of_files}
use Rattle.std.specs.FinMap as finite
use Rattle.store_model.specs.Standing.{IsFileOf, IsStoreOf}
use Rattle.store_model.specs.Trees.{root_of}

-- ---- the roots of files

abbrev root_in : Named → Root
root_in n = n.root

root_told : (held : List (Option HeaderValue)) (image : List ℕ) (named : Option Named) (file : Option (List ℕ)) → IsFileOf held image named file
    → option_map root_in named ≡ option_map root_of file
root_told held image None None is = refl
root_told held image None (Some bytes) is = absurd is
root_told held image (Some named) None is = absurd is
root_told held image (Some named) (Some bytes) is = ap Some is.0

-- of an image that is a store of files its records name their roots
pub named_by : (store : Store) (image : List ℕ) (found : Found (List ℕ)) → IsStoreOf store found.names image → last_sequence store ≡ found.last → IsNamedBy of_files found store
named_by store image found holds last = record {
  names = λ name. sym (root_told store.held image (finite.get (names_of store) name) (finite.get found.names name) (holds.files_are name));
  last_is = last;
}

-- names that have the roots of the store's have those of its files
pub now_of_store : (store : Store) (image : List ℕ) (files : Found (List ℕ)) (roots : Found Root) → IsStoreOf store files.names image
    → ((name : List ℕ) → finite.get roots.names name ≡ option_map root_in (finite.get (names_of store) name)) → roots.last ≡ files.last → SameNow files roots
now_of_store store image files roots holds names last = record {
  get_is = λ name. names name ∙ root_told store.held image (finite.get (names_of store) name) (finite.get files.names name) (holds.files_are name);
  few = λ name file found. subst FitsFile found (files_fit store files.names image holds name);
  last_is = last;
}
