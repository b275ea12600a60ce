-- Containers that one step seals, one after the other.
use Rattle.store_machine.proofs.Prelude.{◌≤◌, ℕ, [], ◌∷◌, length, sym, subst, arith, Seals, Machine, Values}
use Rattle.std.proofs.Common.{List}
use Rattle.container_meta.specs.Segments.{Contents}
use Rattle.store_machine.specs.Offers.{AddsContainer, AddsContainers}

module _ {V R : Type 0} where
  -- what stays as each of them is put stays as all are
  pub each_added : (a : ℕ) (P : Machine V R → Type 0) → ((c : Contents) (m n : Machine V R) → AddsContainer a c m n → P m → P n) → (cs : List Contents) (m n : Machine V R)
      → AddsContainers a cs m n → P m → P n
  each_added a P one [] m n is has = subst P (sym is) has
  each_added a P one (c ∷ cs) m n (mid, first, rest) has = each_added a P one cs mid n rest (one c m mid first has)

  -- no more are sealed than were offered
  pub seals_few : (v : Values V R) (a : ℕ) (offered : List Contents) (id count : ℕ) (m n : Machine V R) → Seals v a offered id count m n → count ≤ length offered
  seals_few v a offered id count m n does = let is = does.count_is in omega (arith, is)
