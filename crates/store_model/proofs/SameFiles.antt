-- An image is a store of one map of files at most, and the file of a name is that of its root.
use Rattle.store_model.proofs.Prelude.{◌≡◌, ℕ, ◌≤◌, List, length, Option, Some, None, refl, sym, ◌∙◌, ap, subst, nat_le, nat_list_cmp_total, leb-true, MOST_FILE, Root, IsRoot, HeaderValue, Named, Files, Store, Encodes, names_of, last_sequence, IsFileOf, IsStoreOf, StandsFor, root_of, HoldsTree}
use Rattle.std.specs.FinMap as finite
use Rattle.store_model.specs.Trees.{file_tree}
use Rattle.store_model.proofs.Once.{store_once}
use Rattle.store_model.proofs.Roots.{root_of_name}
use Rattle.store_model.proofs.Sound.{sound_of_right}
use Rattle.store_model.proofs.Unfolding.{bytes_agree}
use Rattle.base_model.proofs.Checks.{both}
use Rattle.store_model.proofs.Roots.{HasRoot}

-- ---- one map of files

-- a file that is there is no longer than the greatest
abbrev pub FitsFile : Option (List ℕ) → Type 0
FitsFile None = Unit {0}
FitsFile (Some bytes) = length bytes ≤ MOST_FILE

abbrev pub AllFit : Files → Type 0
AllFit files = (name : List ℕ) → FitsFile (finite.get files name)

-- what a name has tells its file
file_agrees : (held : List (Option HeaderValue)) (image : List ℕ) (named : Option Named) (a b : Option (List ℕ)) → FitsFile a → FitsFile b
    → IsFileOf held image named a → IsFileOf held image named b → a ≡ b
file_agrees held image None None None few less one other = refl
file_agrees held image None None (Some b) few less one other = absurd other
file_agrees held image None (Some a) b few less one other = absurd one
file_agrees held image (Some named) None b few less one other = absurd one
file_agrees held image (Some named) (Some a) None few less one other = absurd other
file_agrees held image (Some named) (Some a) (Some b) few less one other =
    ap Some (bytes_agree held image a b few less (sym one.0 ∙ other.0) one.1 other.1)

pub fitting_files_agree : (s t : Store) (m n : Files) (image : List ℕ) → AllFit m → AllFit n → IsStoreOf s m image → IsStoreOf t n image → m ≡ n
fitting_files_agree s t m n image few less one other =
    let same : s ≡ t = store_once image s t one.right other.right in
    let theirs : IsStoreOf s n image = subst (λ (x : Store). IsStoreOf x n image) (sym same) other in
    finite.same_map nat_list_cmp_total (finite.slice_cmp-IsAntisymmetric finite.nat_cmp-IsAntisymmetric) m n
    (λ q. file_agrees s.held image (finite.get (names_of s) q) (finite.get m q) (finite.get n q) (few q) (less q) (one.files_are q) (theirs.files_are q))

pub last_agrees : (m n : Files) (i j : ℕ) (image : List ℕ) → StandsFor m i image → StandsFor n j image → i ≡ j
last_agrees m n i j image one other =
    one.last_is ∙ ap last_sequence (store_once image one.store other.store one.holds.right other.holds.right) ∙ sym other.last_is

-- ---- every file fits

-- a file whose root is right is no longer than the greatest
pub right_fits : (bytes : List ℕ) → IsRoot (root_of bytes) → length bytes ≤ MOST_FILE
right_fits bytes right = leb-true (length bytes) MOST_FILE (both (nat_le (length bytes) MOST_FILE) _ right.bytes).0

file_fits : (held : List (Option HeaderValue)) (image : List ℕ) (named : Option Named) (file : Option (List ℕ)) → ((n : Named) → named ≡ Some n → IsRoot n.root)
    → IsFileOf held image named file → FitsFile file
file_fits held image None None right is = tt
file_fits held image None (Some bytes) right is = absurd is
file_fits held image (Some named) None right is = absurd is
file_fits held image (Some named) (Some bytes) right is = right_fits bytes (subst IsRoot is.0 (right named refl))

-- the root that a name of a store has is right
root_right : (store : Store) (image name : List ℕ) (named : Named) → Encodes image store → finite.get (names_of store) name ≡ Some named → IsRoot named.root
root_right store image name named right found =
    root_of_name (length image) store name named.root (sound_of_right (length image) image store refl right) (named.sequence, found)

pub files_fit : (store : Store) (files : Files) (image : List ℕ) → IsStoreOf store files image → AllFit files
files_fit store files image holds name =
    file_fits store.held image (finite.get (names_of store) name) (finite.get files name) (λ n found. root_right store image name n holds.right found) (holds.files_are name)

-- ---- the laws

-- An image is a store of one map of files at most.
pub files_agree : (s t : Store) (m n : Files) (image : List ℕ) → IsStoreOf s m image → IsStoreOf t n image → m ≡ n
files_agree s t m n image one other = fitting_files_agree s t m n image (files_fit s m image one) (files_fit t n image other) one other

-- It stands for one map of files and one last sequence number at most.
pub standing_agrees : (m n : Files) (i j : ℕ) (image : List ℕ) → StandsFor m i image → StandsFor n j image → (m ≡ n) × (i ≡ j)
standing_agrees m n i j image one other =
    (files_agree one.store other.store m n image one.holds other.holds, last_agrees m n i j image one other)

-- ---- the file of a name

-- the file of a name that has a root
pub record HasFile (name : List ℕ) (root : Root) (store : Store) (files : Files) (image : List ℕ) : Type 0 where
  pub bytes : List ℕ
  pub filed : finite.get files name ≡ Some bytes
  pub root_is : root ≡ root_of bytes
  pub held : HoldsTree store.held image (file_tree bytes)

some_file : (held : List (Option HeaderValue)) (image : List ℕ) (named : Named) (file : Option (List ℕ)) → IsFileOf held image (Some named) file
    → (bytes : List ℕ) × (file ≡ Some bytes) × (named.root ≡ root_of bytes) × HoldsTree held image (file_tree bytes)
some_file held image named None is = absurd is
some_file held image named (Some bytes) is = (bytes, refl, is.0, is.1)

-- in a store of some files a root is that of a file
pub file_of_root : (name : List ℕ) (root : Root) (store : Store) (files : Files) (image : List ℕ) → IsStoreOf store files image → HasRoot name root store →
    HasFile name root store files image
file_of_root name root store files image holds has =
    let named : Named = record { sequence = has.0; root = root } in
    let some = some_file store.held image named (finite.get files name)
    (subst (λ (o : Option Named). IsFileOf store.held image o (finite.get files name)) has.1 (holds.files_are name)) in
    record { bytes = some.0; filed = some.1; root_is = some.2; held = some.3 }
