-- A put of a name is taken back.
use Rattle.std.proofs.Common.{◌≡◌, Bool, true, false, cond, List, ℕ, Option, None, Some, IsSome, rules, refl, sym, ap, ◌∙◌}
use Rattle.std.specs.Ordering.{nat_cmp, eq_by_cmp}
use Rattle.std.specs.Cmp.Lexicographic.{slice_cmp, nat_list_cmp_total}
use Rattle.std.specs.FinMap as finite
use Rattle.std.proofs.lemmas.Map.Lookups.{exact_bytes}
use Rattle.namespace.specs.declared.record.Named.{Named}
use Rattle.namespace.specs.Names.{NameMap, names_given}
use Rattle.namespace.proofs.Entries.{is_equal}

pub some_none : {X : Type 0} (o : Option X) → IsSome o → o ≡ None → ⊥
some_none None there none = absurd (search rules)
some_none (Some x) there none = cc

abbrev same_name : List ℕ → List ℕ → Bool
same_name = eq_by_cmp (slice_cmp nat_cmp)

get_given : (name : List ℕ) (before : Option Named) (names : NameMap) (q : List ℕ)
    → finite.get (names_given name before names) q ≡ cond (same_name q name) before (finite.get names q)
get_given name None names q = finite.get-remove nat_list_cmp_total names name q
get_given name (Some named) names q = finite.get-insert nat_list_cmp_total names name named q

-- the names are those of before
pub given_back : (names : NameMap) (name : List ℕ) (named : Named) (before : Option Named) → finite.get names name ≡ before →
    names_given name before (finite.insert names name named) ≡ names
given_back names name named before had =
    finite.same_map nat_list_cmp_total exact_bytes (names_given name before (finite.insert names name named)) names (λ q.
    get_given name before (finite.insert names name named) q
    ∙ ap (cond (same_name q name) before) (finite.get-insert nat_list_cmp_total names name named q)
    ∙ elim (same_name q name) as (λ b. same_name q name ≡ b → cond b before (cond b (Some named) (finite.get names q)) ≡ finite.get names q) [
      | true ↦ λ same. sym had ∙ ap (finite.get names) (sym (exact_bytes q name (is_equal _ same)))
      | false ↦ λ apart. refl
    ] refl)
