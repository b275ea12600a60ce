-- What is listed, beside the entries that are left.
use Rattle.std.proofs.Common.{◌≡◌, ℕ, List, [], ◌∷◌, ◌++◌, map, Vec, sym, ap, ◌∙◌, append_assoc}
use Rattle.std.proofs.lemmas.List.{map_push}
use Rattle.namespace.specs.declared.record.Named.{Named}
use Rattle.namespace.specs.Keys.{by_bytes}

-- things that are listed, by their values, and the values of entries
module _ {R V : Type 0} (value : R → V) (of_entry : List ℕ × Named → V) where
  pub none_listed : {A : Type 0} (listed : List R) (left : List (Vec ℕ A × Named)) (all : List (List ℕ × Named)) → listed ≡ []
      → by_bytes left ≡ all → map value listed ++ map of_entry (by_bytes left) ≡ map of_entry all
  none_listed listed left all e h = ap (λ xs. map value xs ++ map of_entry (by_bytes left)) e ∙ ap (map of_entry) h

  pub one_listed : {A : Type 0} (listed after : List R) (one : R) (entry : Vec ℕ A × Named) (left rest : List (Vec ℕ A × Named)) (all : List V)
      → after ≡ listed ++ one ∷ [] → left ≡ entry ∷ rest → value one ≡ of_entry (entry.0.items, entry.1)
      → map value listed ++ map of_entry (by_bytes left) ≡ all → map value after ++ map of_entry (by_bytes rest) ≡ all
  one_listed listed after one entry left rest all pushed first same h =
      ap (λ xs. map value xs ++ map of_entry (by_bytes rest)) pushed
      ∙ ap (λ xs. xs ++ map of_entry (by_bytes rest)) (map_push value listed one)
      ∙ append_assoc (map value listed) (value one ∷ []) (map of_entry (by_bytes rest))
      ∙ ap (λ x. map value listed ++ x ∷ map of_entry (by_bytes rest)) same
      ∙ ap (λ xs. map value listed ++ map of_entry (by_bytes xs)) (sym first)
      ∙ h
