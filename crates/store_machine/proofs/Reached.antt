-- What the names of the machine of files need is just what can be reached of their files.
use Rattle.store_machine.proofs.Prelude.{◌≡◌, ◌↔◌, ℕ, zero, suc, Bool, true, false, [], ◌∷◌, Some, None, refl, sym, ◌∙◌, ap, arith, nat_list_cmp_total, eq_by_cmp, Contains, map, Found, NamesNeed, of_files}
use Rattle.std.proofs.Common.{cond, List, Ordering, Less, Equal, T}
use Rattle.std.proofs.lemmas.List.Elements.{Contains-append_right}
use Rattle.std.specs.Cmp.{tied_itself}
use Rattle.std.specs.Ordering.{is_eq}
use Rattle.std.specs.FinMap as finite
use Rattle.std.specs.FinMap.Entries.{below_all, find, is_sorted}
use Rattle.namespace.proofs.Again.{first, second, is_less}
use Rattle.namespace.proofs.Entries.{is_equal}
use Rattle.store_model.specs.Reserve.{IsReachable}
use Rattle.store_machine.proofs.SameNames.{order}

-- ---- the values of a map

module _ (X : Type 0) where
  abbrev E : Type 0
  E = List ℕ × X

  abbrev values_in : List E → List X
  values_in es = map (λ (e : E). e.1) es

  pub value_there : (name : List ℕ) (v : X) (es : List E) → find order name es ≡ Some v → Contains (values_in es) v
  value_there name v [] found = absurd (let wrong : None ≡ Some v = found in cc)
  value_there name v (e ∷ es) found = by (value_there name v es) (eq_by_cmp order name e.0) found
    where
      by : (find order name es ≡ Some v → Contains (values_in es) v) → (b : Bool) → cond b (Some e.1) (find order name es) ≡ Some v → Contains (values_in (e ∷ es)) v
      by later true is = (0, omega arith, let same : e.1 ≡ v = cc in same)
      by later false is = Contains-append_right (e.1 ∷ []) (values_in es) v (later is)

  -- a name that ties with one below all others is none of them
  none_below : (q k : List ℕ) (es : List E) → order q k ≡ Equal → T (below_all order k es) → find order q es ≡ None
  none_below q k [] same below = refl
  none_below q k (e ∷ es) same below =
      let less : order q e.0 ≡ Less = nat_list_cmp_total.congr q k e.0 same ∙ is_less _ (first _ _ below) in
      ap (λ (o : Ordering). cond (is_eq o) (Some e.1) (find order q es)) less ∙ none_below q k es same (second _ _ below)

  found_later : (e : E) (es : List E) (name : List ℕ) (v : X) → T (below_all order e.0 es) → find order name es ≡ Some v → find order name (e ∷ es) ≡ Some v
  found_later e es name v below found = by (eq_by_cmp order name e.0) refl
    where
      by : (b : Bool) → eq_by_cmp order name e.0 ≡ b → cond b (Some e.1) (find order name es) ≡ Some v
      by true is =
          let none = none_below name e.0 es (is_equal _ is) below in
          absurd (let wrong : None ≡ Some v = sym none ∙ found in cc)
      by false is = found

  value_found : (v : X) (es : List E) → T (is_sorted order es) → Contains (values_in es) v → (name : List ℕ) × (find order name es ≡ Some v)
  value_found v [] sorted has = absurd (let less = has.1 in omega arith)
  value_found v (e ∷ es) sorted (zero, less, is) =
      (e.0, ap (λ (o : Ordering). cond (is_eq o) (Some e.1) (find order e.0 es)) (tied_itself nat_list_cmp_total e.0) ∙ ap Some is)
  value_found v (e ∷ es) sorted (suc k, less, is) =
      let (name, found) = value_found v es (second _ _ sorted) (k, omega (arith, less), is) in (name, found_later e es name v (first _ _ sorted) found)

-- ---- what is needed

module _ (now : Found (List ℕ)) (key : List ℕ) where
  pub needs_reach : NamesNeed of_files now key → IsReachable now.names key
  needs_reach (file, (has, needs)) =
      let (name, found) = value_found (List ℕ) file (finite.entries now.names) (finite.entries_sorted now.names) has in
      (name, (file, (finite.get-entries now.names name ∙ found, needs)))

  pub reach_needs : IsReachable now.names key → NamesNeed of_files now key
  reach_needs (name, (file, (found, needs))) =
      (file, (value_there (List ℕ) name file (finite.entries now.names) (sym (finite.get-entries now.names name) ∙ found), needs))

pub needs_just : (now : Found (List ℕ)) (key : List ℕ) → IsReachable now.names key ↔ NamesNeed of_files now key
needs_just now key = (reach_needs now key, needs_reach now key)
