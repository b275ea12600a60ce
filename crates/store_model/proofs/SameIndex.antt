-- Stores of one index have the same copies of the keys that it has.
use Rattle.store_model.proofs.Prelude.{◌≡◌, ℕ, List, Some, sym, ◌∙◌, ap, Place, PlaceMap, Store, Copy, HasKey, IsPartialIndexOf, KeepsCopies, bytes_at}
use Rattle.store_model.proofs.Lookups.{finds}

one_copy : (a b : Copy) → Some a ≡ Some b → a ≡ b
one_copy a b is = cc

pub same_copies : (s t : Store) (index : PlaceMap) (image : List ℕ) → IsPartialIndexOf s.held index → IsPartialIndexOf t.held index → KeepsCopies (HasKey index) s image t image
same_copies s t index image of_s of_t key level bytes there has =
    let here = finds s index key there.0 of_s there.1 in
    let found = finds t index key there.0 of_t there.1 in
    let place : found.0.place ≡ has.copy.place = found.2 ∙ sym here.2 ∙ ap (λ (x : Copy). x.place) (one_copy here.0 has.copy (sym here.1 ∙ has.copy_is)) in
    record {
      copy = found.0;
      copy_is = found.1;
      level_is = ap (λ (p : Place). p.level) place ∙ has.level_is;
      bytes_are = ap (λ (p : Place). bytes_at p image) place ∙ has.bytes_are;
    }
