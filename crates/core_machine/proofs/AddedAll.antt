-- What containers that are added one after the other make of a machine of files.
use Rattle.core_machine.proofs.Prelude.{◌≡◌, ℕ, suc, List, [], ◌∷◌, ◌++◌, Option, Some, None, refl, sym, ◌∙◌, ap, subst, FileMachine, keeping}
use Rattle.std.proofs.lemmas.List.{append-nil, append_assoc}
use Rattle.container_meta.specs.Segments.{Contents, keys_of}
use Rattle.store_core.specs.Collecting.{keys_in}
use Rattle.store_core.specs.Core.{ChangesTo, seals_from}
use Rattle.store_machine.specs.Machine.{Collection}
use Rattle.store_machine.specs.Offers.{AddsContainers}

-- its store comes to that with them
pub added_chain : (a : ℕ) (cs : List Contents) (m n : FileMachine) → AddsContainers a cs m n → ChangesTo (seals_from (suc m.last_id) cs) m.store n.store
added_chain a [] m n is = ap (λ (x : FileMachine). x.store) is
added_chain a (c ∷ cs) m n (mid, one, rest) =
    (one.can, subst (λ (k : FileMachine). ChangesTo (seals_from (suc k.last_id) cs) k.store n.store) one.others (added_chain a cs mid n rest))

keeping_none : (c : Option (Collection (List ℕ))) → keeping [] c ≡ c
keeping_none None = refl
keeping_none (Some c) = ap (λ (keys : List (List ℕ)). Some (record c { keys = keys })) (append-nil c.keys)

keeping_both : (first next : List (List ℕ)) (c : Option (Collection (List ℕ))) → keeping next (keeping first c) ≡ keeping (first ++ next) c
keeping_both first next None = refl
keeping_both first next (Some c) = ap (λ (keys : List (List ℕ)). Some (record c { keys = keys })) (append_assoc c.keys first next)

-- the collection that runs needs their keys
pub added_keys : (a : ℕ) (cs : List Contents) (m n : FileMachine) → AddsContainers a cs m n → n.collection ≡ keeping (keys_in cs) m.collection
added_keys a [] m n is = ap (λ (x : FileMachine). x.collection) is ∙ sym (keeping_none m.collection)
added_keys a (c ∷ cs) m n (mid, one, rest) =
    added_keys a cs mid n rest ∙ ap (λ (x : FileMachine). keeping (keys_in cs) x.collection) one.others ∙ keeping_both (keys_of c) (keys_in cs) m.collection
