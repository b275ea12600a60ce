-- The record at which a replay stops.
use Rattle.std.proofs.Common.{◌≡◌, ℕ, suc, ◌<◌, ◌⊎◌, inl, inr, List, ◌∷◌, map, length, drop, get_or, drop-cons, sym, ap, subst, ◌∙◌}
use Rattle.namespace.specs.declared.fault.NameFault.{NameFault}
use Rattle.namespace.specs.declared.fault.NameFault.TheVariants.{Memory}
use Rattle.namespace.specs.declared.record.Record.{Record}
use Rattle.namespace.specs.Names.{NameMap, IsRefused, AreRefused, record_value}

pub stops : (first names : NameMap) (given : List Record) (i : ℕ) (one : Record) (fault : NameFault) → i < length given → one ≡ get_or given i one →
    ((f : NameFault) → AreRefused names (map record_value (drop i given)) f → AreRefused first (map record_value given) f) →
    (fault ≡ Memory) ⊎ IsRefused names (record_value one) fault → (fault ≡ Memory) ⊎ AreRefused first (map record_value given) fault
stops first names given i one fault below is refused (inl memory) = inl memory
stops first names given i one fault below is refused (inr cause) =
    inr (refused fault (subst (λ xs. AreRefused names (map record_value xs) fault) (sym (drop-cons given i one below ∙ ap (λ x. x ∷ drop (suc i) given) (sym is))) (inl cause)))
