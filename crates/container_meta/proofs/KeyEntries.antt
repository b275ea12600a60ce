-- A `BTreeMap` whose keys are arrays of bytes, seen as a finite map.
use Rattle.container_meta.proofs.Prelude.{◌≡◌, ℕ, true, false, cond, List, [], ◌∷◌, Some, refl, sym, ap, subst, ◌∙◌}
use Rattle.std.proofs.Common.{Bool, ◌&&◌, None}
use Rattle.std.specs.Ordering.{nat_cmp, match_ordering, is_lt, is_eq, eq_by_cmp}
use Rattle.std.specs.Cmp.{eq_by_cmp_equiv}
use Rattle.std.specs.declared.cmp.Ordering.{Ordering}
use Rattle.std.specs.declared.cmp.Ordering.TheVariants.{Less, Equal, Greater}
use Rattle.std.specs.Cmp.Lexicographic.{slice_cmp, nat_list_cmp_total}
use Rattle.std.specs.List.{AllByRecursion}
use Rattle.std.specs.List.Sorted.{IsStrictlySortedBy}
use Rattle.std.specs.Map.{keys_of, lookup, KeepsOthers}
use Rattle.std.specs.BTreeMap.{is_at, insert_entry}
use Rattle.std.specs.FinMap as finite
use Rattle.std.specs.FinMap.Entries.{put, by_order, below_all}
use Rattle.std.proofs.lemmas.Map.Keys.{sorted_head, sorted_tail}
use Rattle.std.proofs.lemmas.Map.Lookups.{exact_bytes}
use Rattle.std.specs.Prelude.{T}

both : (a b : Bool) → T a → T b → T (a && b)
both true b p q = q
both false b p q = p

is_equal : (o : Ordering) → is_eq o ≡ true → o ≡ Equal
is_equal Less h = cc
is_equal Equal h = refl
is_equal Greater h = cc

abbrev pub order : List ℕ → List ℕ → Ordering
order = slice_cmp nat_cmp

module _ {X : Type 0} where
  abbrev pub seen : List (List ℕ × X) → finite.FinMap order X
  seen es = finite.from_entries es

  find_looked_up : (es : List (List ℕ × X)) (q : List ℕ) → finite.find order q es ≡ lookup (is_at (order q)) es
  find_looked_up [] q = refl
  find_looked_up (e ∷ es) q = ap (cond (is_at (order q) e.0) (Some e.1)) (find_looked_up es q)

  pub get_seen : (es : List (List ℕ × X)) (q : List ℕ) → finite.get (seen es) q ≡ lookup (is_at (order q)) es
  get_seen es q = finite.get-from_entries nat_list_cmp_total es q ∙ find_looked_up es q

  below_first : (k : List ℕ) (es : List (List ℕ × X)) → AllByRecursion (λ y. order k y ≡ Less) (keys_of es) → T (below_all order k es)
  below_first k [] h = tt
  below_first k (e ∷ es) h = both _ _ (subst (λ o. T (is_lt o)) (sym h.0) tt) (below_first k es h.1)

  sorted_entries : (es : List (List ℕ × X)) → IsStrictlySortedBy order (keys_of es) → T (finite.is_sorted order es)
  sorted_entries [] h = tt
  sorted_entries (e ∷ es) h = both _ _ (below_first e.0 es (sorted_head order e.0 (keys_of es) h)) (sorted_entries es (sorted_tail order e.0 (keys_of es) h))

  pub entries_seen : (es : List (List ℕ × X)) → IsStrictlySortedBy order (keys_of es) → finite.entries (seen es) ≡ es
  entries_seen es h =
      let sorted = sorted_entries es h in
      ap finite.entries (finite.same_map nat_list_cmp_total exact_bytes (seen es) (finite.from_sorted es)
      (λ q. finite.get-from_entries nat_list_cmp_total es q ∙ sym (finite.get-from_sorted order es q sorted)))
      ∙ finite.entries-from_sorted order es sorted

  put_entry : (es : List (List ℕ × X)) (k : List ℕ) (v : X) → insert_entry order es k v ≡ put order k v es
  put_entry [] k v = refl
  put_entry (e ∷ es) k v =
      elim (order k e.0) as (λ o. match_ordering o ((k, v) ∷ e ∷ es) ((e.0, v) ∷ es) (e ∷ insert_entry order es k v) ≡ by_order o ((k, v) ∷ e ∷ es) ((e.0, v) ∷ es)
      (e ∷ put order k v es)) [
        | Less ↦ refl
        | Equal ↦ refl
        | Greater ↦ ap (λ rest. e ∷ rest) (put_entry es k v)
      ]

  -- an insertion, where the keys ascend before it and after it
  pub inserted_seen : (es fs : List (List ℕ × X)) (k : List ℕ) (v : X) → IsStrictlySortedBy order (keys_of es) → IsStrictlySortedBy order (keys_of fs) →
      fs ≡ insert_entry order es k v → seen fs ≡ finite.insert (seen es) k v
  inserted_seen es fs k v h g e =
      finite.same_entries_map _ _
      (entries_seen fs g ∙ e ∙ put_entry es k v ∙ ap (put order k v) (sym (entries_seen es h)) ∙ sym (finite.entries-insert nat_list_cmp_total (seen es) k v))

  -- a removal, where another key finds the same before it and after it
  pub removed_seen : (es fs : List (List ℕ × X)) (k : List ℕ) → KeepsOthers (eq_by_cmp order) (is_at (order k)) es fs → lookup (is_at (order k)) fs ≡ None →
      seen fs ≡ finite.remove (seen es) k
  unfolding KeepsOthers
  removed_seen es fs k others gone =
      let laws = eq_by_cmp_equiv nat_list_cmp_total in
      finite.same_map nat_list_cmp_total exact_bytes (seen fs) (finite.remove (seen es) k) (λ q.
      get_seen fs q
      ∙ elim (eq_by_cmp order q k) as (λ b. eq_by_cmp order q k ≡ b → lookup (is_at (order q)) fs ≡ cond b None (finite.get (seen es) q)) [
        | true ↦ λ same. ap (λ n. lookup (is_at (order n)) fs) (exact_bytes q k (is_equal _ same)) ∙ gone
        | false ↦ λ apart. others (is_at (order q)) (λ x y h. laws.congr q x y h) (λ x h. laws.symm q x ∙ sym (laws.congr k x q h) ∙ laws.symm k q ∙ apart) ∙ sym (get_seen es q)
      ] refl
      ∙ sym (finite.get-remove nat_list_cmp_total (seen es) k q))
