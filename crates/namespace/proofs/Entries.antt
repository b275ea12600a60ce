-- A `BTreeMap` whose keys are byte vectors, seen as a finite map.
use Rattle.std.proofs.Common.{◌≡◌, ℕ, suc, Bool, true, false, cond, ◌&&◌, None, List, [], ◌∷◌, length, Vec, Option, Some, is_some, IsSome, rules, refl, sym, ap, subst, ◌∙◌}
use Rattle.std.specs.Ordering.{nat_cmp, match_ordering, is_lt, is_eq, eq_by_cmp}
use Rattle.std.specs.Cmp.{eq_by_cmp_equiv}
use Rattle.std.specs.declared.cmp.Ordering.{Ordering}
use Rattle.std.specs.declared.cmp.Ordering.TheVariants.{Less, Equal, Greater}
use Rattle.std.specs.Cmp.Lexicographic.{slice_cmp, nat_list_cmp_total}
use Rattle.std.specs.List.{AllByRecursion}
use Rattle.std.specs.List.Sorted.{IsStrictlySortedBy}
use Rattle.std.specs.Map.{keys_of, lookup, KeepsOthers}
use Rattle.std.specs.BTreeMap.{is_at, insert_entry}
use Rattle.std.specs.FinMap as finite
use Rattle.std.specs.FinMap.Entries.{put, by_order, below_all}
use Rattle.std.proofs.lemmas.Map.Keys.{sorted_head, sorted_tail}
use Rattle.std.proofs.lemmas.Map.Lookups.{exact_bytes}
use Rattle.std.specs.Prelude.{T}
use Rattle.namespace.specs.Keys.{by_bytes}

both : (a b : Bool) → T a → T b → T (a && b)
both true b p q = q
both false b p q = p

pub is_equal : (o : Ordering) → is_eq o ≡ true → o ≡ Equal
is_equal Less h = cc
is_equal Equal h = refl
is_equal Greater h = cc

pub some_of : {X : Type 0} (o : Option X) → is_some o ≡ true → IsSome o
some_of None e = cc
some_of (Some x) e = search rules

pub none_of : {X : Type 0} (o : Option X) → is_some o ≡ false → o ≡ None
none_of None e = search rules
none_of (Some x) e = cc

abbrev pub vec_cmp : {A : Type 0} → Vec ℕ A → Vec ℕ A → Ordering
vec_cmp x y = slice_cmp nat_cmp x.items y.items

module _ {X A : Type 0} where
  abbrev pub seen : List (Vec ℕ A × X) → finite.FinMap (slice_cmp nat_cmp) X
  seen es = finite.from_entries (by_bytes es)

  find_bytes : (es : List (Vec ℕ A × X)) (q : List ℕ) → finite.find (slice_cmp nat_cmp) q (by_bytes es) ≡ lookup (is_at (λ k. slice_cmp nat_cmp q k.items)) es
  find_bytes [] q = refl
  find_bytes (e ∷ es) q = ap (cond (is_at (slice_cmp nat_cmp q) e.0.items) (Some e.1)) (find_bytes es q)

  pub get_seen : (es : List (Vec ℕ A × X)) (q : List ℕ) → finite.get (seen es) q ≡ lookup (is_at (λ k. slice_cmp nat_cmp q k.items)) es
  get_seen es q = finite.get-from_entries nat_list_cmp_total (by_bytes es) q ∙ find_bytes es q

  below_bytes : (k : Vec ℕ A) (es : List (Vec ℕ A × X)) → AllByRecursion (λ y. vec_cmp k y ≡ Less) (keys_of es) → T (below_all (slice_cmp nat_cmp) k.items (by_bytes es))
  below_bytes k [] h = tt
  below_bytes k (e ∷ es) h = both _ _ (subst (λ o. T (is_lt o)) (sym h.0) tt) (below_bytes k es h.1)

  sorted_bytes : (es : List (Vec ℕ A × X)) → IsStrictlySortedBy vec_cmp (keys_of es) → T (finite.is_sorted (slice_cmp nat_cmp) (by_bytes es))
  sorted_bytes [] h = tt
  sorted_bytes (e ∷ es) h = both _ _ (below_bytes e.0 es (sorted_head vec_cmp e.0 (keys_of es) h)) (sorted_bytes es (sorted_tail vec_cmp e.0 (keys_of es) h))

  pub entries_seen : (es : List (Vec ℕ A × X)) → IsStrictlySortedBy vec_cmp (keys_of es) → finite.entries (seen es) ≡ by_bytes es
  entries_seen es h =
      let sorted = sorted_bytes es h in
      ap finite.entries (finite.same_map nat_list_cmp_total exact_bytes (seen es) (finite.from_sorted (by_bytes es))
      (λ q. finite.get-from_entries nat_list_cmp_total (by_bytes es) q ∙ sym (finite.get-from_sorted (slice_cmp nat_cmp) (by_bytes es) q sorted)))
      ∙ finite.entries-from_sorted (slice_cmp nat_cmp) (by_bytes es) sorted

  length_bytes : (es : List (Vec ℕ A × X)) → length (by_bytes es) ≡ length es
  length_bytes [] = refl
  length_bytes (e ∷ es) = ap suc (length_bytes es)

  pub len_seen : (es : List (Vec ℕ A × X)) → IsStrictlySortedBy vec_cmp (keys_of es) → finite.len (seen es) ≡ length es
  len_seen es h = finite.len-entries (seen es) ∙ ap length (entries_seen es h) ∙ length_bytes es

  put_bytes : (es : List (Vec ℕ A × X)) (k : Vec ℕ A) (v : X) → by_bytes (insert_entry vec_cmp es k v) ≡ put (slice_cmp nat_cmp) k.items v (by_bytes es)
  put_bytes [] k v = refl
  put_bytes (e ∷ es) k v =
      elim (slice_cmp nat_cmp k.items e.0.items) as
      (λ o. by_bytes (match_ordering o ((k, v) ∷ e ∷ es) ((e.0, v) ∷ es) (e ∷ insert_entry vec_cmp es k v)) ≡ by_order o ((k.items, v) ∷ by_bytes (e ∷ es))
      ((e.0.items, v) ∷ by_bytes es) ((e.0.items, e.1) ∷ put (slice_cmp nat_cmp) k.items v (by_bytes es))) [
        | Less ↦ refl
        | Equal ↦ refl
        | Greater ↦ ap (λ rest. (e.0.items, e.1) ∷ rest) (put_bytes es k v)
      ]

  -- an insertion, where the keys ascend before it and after it
  pub inserted_seen : (es fs : List (Vec ℕ A × X)) (k : Vec ℕ A) (v : X) → IsStrictlySortedBy vec_cmp (keys_of es) → IsStrictlySortedBy vec_cmp (keys_of fs) →
      fs ≡ insert_entry vec_cmp es k v → seen fs ≡ finite.insert (seen es) k.items v
  inserted_seen es fs k v h g e =
      finite.same_entries_map _ _
      (entries_seen fs g ∙ ap by_bytes e ∙ put_bytes es k v ∙ ap (put (slice_cmp nat_cmp) k.items v) (sym (entries_seen es h))
      ∙ sym (finite.entries-insert nat_list_cmp_total (seen es) k.items v))

  -- a removal, where another name finds the same before it and after it
  pub removed_seen : (es fs : List (Vec ℕ A × X)) (k : List ℕ) → KeepsOthers (eq_by_cmp vec_cmp) (is_at (λ y. slice_cmp nat_cmp k y.items)) es fs →
      lookup (is_at (λ y. slice_cmp nat_cmp k y.items)) fs ≡ None → seen fs ≡ finite.remove (seen es) k
  unfolding KeepsOthers
  removed_seen es fs k others gone =
      let laws = eq_by_cmp_equiv nat_list_cmp_total in
      finite.same_map nat_list_cmp_total exact_bytes (seen fs) (finite.remove (seen es) k) (λ q.
      get_seen fs q
      ∙ elim (eq_by_cmp (slice_cmp nat_cmp) q k) as
      (λ b. eq_by_cmp (slice_cmp nat_cmp) q k ≡ b → lookup (is_at (λ y. slice_cmp nat_cmp q y.items)) fs ≡ cond b None (finite.get (seen es) q)) [
        | true ↦ λ same. ap (λ n. lookup (is_at (λ y. slice_cmp nat_cmp n y.items)) fs) (exact_bytes q k (is_equal _ same)) ∙ gone
        | false ↦ λ apart. others (is_at (λ y. slice_cmp nat_cmp q y.items)) (λ x y h. laws.congr q x.items y.items h)
            (λ x h. laws.symm q x.items ∙ sym (laws.congr k x.items q h) ∙ laws.symm k q ∙ apart) ∙ sym (get_seen es q)
      ] refl
      ∙ sym (finite.get-remove nat_list_cmp_total (seen es) k q))
