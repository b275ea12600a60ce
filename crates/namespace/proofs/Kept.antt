-- What holds of the names of a store is kept by each record.
use Rattle.std.proofs.Common.{◌≡◌, ℕ, ◌+◌, ◌-◌, ◌<◌, ◌≤◌, ◌⊎◌, Bool, true, false, List, [], ◌∷◌, cond, Option, None, Some, is_some, IsSome, map, length, refl, sym, ap, subst, ◌∙◌, inl, inr, arith, rules}
use Rattle.std.specs.List.{All}
use Rattle.std.specs.Ordering.{nat_cmp, eq_by_cmp, is_eq}
use Rattle.std.specs.Cmp.{tied_itself}
use Rattle.std.specs.declared.cmp.Ordering.{Ordering}
use Rattle.std.specs.declared.cmp.Ordering.TheVariants.{Less, Equal, Greater}
use Rattle.std.specs.Cmp.Lexicographic.{slice_cmp, nat_list_cmp_total}
use Rattle.std.specs.FinMap as finite
use Rattle.std.specs.FinMap.Entries.{put, by_order}
use Rattle.std.proofs.lemmas.Map.Lookups.{exact_bytes}
use Rattle.std.proofs.lemmas.List.Elements.{All-nil, All-cons, All-head, All-tail}
use Rattle.disk_format.specs.declared.numbers.TheConstants.{MOST_NAMES}
use Rattle.disk_format.specs.Cells.{IsName}
use Rattle.namespace.specs.declared.record.Named.{Named}
use Rattle.namespace.proofs.Entries.{is_equal}
use Rattle.namespace.specs.Names.{NameMap, AreNames, HasRoom}

module _ {K X : Type 0} (R : K → K → Ordering) (P : K → Type 0) where
  keys_put : (k : K) (v : X) (es : List (K × X)) → P k → All P (map (λ e. e.0) es) → All P (map (λ e. e.0) (put R k v es))
  keys_put k v [] p h = All-cons P k [] p (All-nil P)
  keys_put k v (e ∷ es) p h =
      elim (R k e.0) as (λ o. All P (map (λ e. e.0) (by_order o ((k, v) ∷ e ∷ es) ((e.0, v) ∷ es) (e ∷ put R k v es)))) [
        | Less ↦ All-cons P k (map (λ x. x.0) (e ∷ es)) p h
        | Equal ↦ h
        | Greater ↦ All-cons P e.0 (map (λ x. x.0) (put R k v es)) (All-head P e.0 (map (λ x. x.0) es) h) (keys_put k v es p (All-tail P e.0 (map (λ x. x.0) es) h))
      ]

few_after : {X : Type 0} (o : Option X) (n m : ℕ) → m ≡ cond (is_some o) n (n + 1) → IsSome o ⊎ (n < MOST_NAMES) → n ≤ MOST_NAMES → m ≤ MOST_NAMES
few_after (Some x) n m e room h = omega (arith, e, h)
few_after None n m e (inl some) h = absurd (search rules)
few_after None n m e (inr room) h = omega (arith, e, room)

no_keys : (es : List (List ℕ × Named)) → length es ≡ 0 → All IsName (map (λ e. e.0) es)
no_keys [] e = All-nil IsName
no_keys (x ∷ es) e = absurd (omega arith)

pub no_names : (names : NameMap) → names ≡ finite.empty → AreNames names
no_names names e =
    let none : finite.len names ≡ 0 = ap finite.len e ∙ finite.len-empty (slice_cmp nat_cmp) Named in
    record { few = omega (arith, none); named = no_keys (finite.entries names) (sym (finite.len-entries names) ∙ none) }

-- the names after a put that has room
pub with_put : (names : NameMap) (name : List ℕ) (named : Named) → AreNames names → IsName name → HasRoom names name → AreNames (finite.insert names name named)
with_put names name named h good room =
    record {
      few = few_after (finite.get names name) (finite.len names) _ (finite.len-insert nat_list_cmp_total names name named) room h.few;
      named = subst (λ es. All IsName (map (λ e. e.0) es)) (sym (finite.entries-insert nat_list_cmp_total names name named))
          (keys_put (slice_cmp nat_cmp) IsName name named (finite.entries names) good h.named);
    }

no_more : (b : Bool) (n m : ℕ) → m ≡ cond b (n - 1) n → n ≤ MOST_NAMES → m ≤ MOST_NAMES
no_more true n m e h = omega (arith, e, h)
no_more false n m e h = omega (arith, e, h)

earlier : (b : Bool) (o : Option Named) → is_some (cond b None o) ≡ true → is_some o ≡ true
earlier true o h = cc
earlier false o h = h

later : (b : Bool) (x : Named) (o : Option Named) → is_some o ≡ true → is_some (cond b (Some x) o) ≡ true
later true x o h = refl
later false x o h = h

-- what holds of each key holds of what is found
pub found_name : (P : List ℕ → Type 0) (q : List ℕ) (es : List (List ℕ × Named)) → All P (map (λ e. e.0) es) → is_some (finite.find (slice_cmp nat_cmp) q es) ≡ true → P q
found_name P q [] h found = cc
found_name P q (e ∷ es) h found =
    elim (eq_by_cmp (slice_cmp nat_cmp) q e.0) as (λ b. eq_by_cmp (slice_cmp nat_cmp) q e.0 ≡ b → is_some (cond b (Some e.1) (finite.find (slice_cmp nat_cmp) q es)) ≡ true → P q) [
      | true ↦ λ same _. subst P (sym (exact_bytes q e.0 (is_equal _ same))) (All-head P e.0 (map (λ x. x.0) es) h)
      | false ↦ λ _ rest. found_name P q es (All-tail P e.0 (map (λ x. x.0) es) h) rest
    ] refl found

-- and each key is found
all_found : (es : List (List ℕ × Named)) → ((q : List ℕ) → is_some (finite.find (slice_cmp nat_cmp) q es) ≡ true → IsName q) → All IsName (map (λ e. e.0) es)
all_found [] each = All-nil IsName
all_found (e ∷ es) each =
    All-cons IsName e.0 (map (λ x. x.0) es)
    (each e.0 (ap (λ o. is_some (cond (is_eq o) (Some e.1) (finite.find (slice_cmp nat_cmp) e.0 es))) (tied_itself nat_list_cmp_total e.0)))
    (all_found es (λ q found. each q (later (eq_by_cmp (slice_cmp nat_cmp) q e.0) e.1 (finite.find (slice_cmp nat_cmp) q es) found)))

keys_without : (names : NameMap) (name : List ℕ) → All IsName (finite.keys names) → All IsName (finite.keys (finite.remove names name))
keys_without names name h =
    all_found (finite.entries (finite.remove names name)) (λ q found.
    found_name IsName q (finite.entries names) h
    (ap is_some (sym (finite.get-entries names q))
    ∙ earlier (eq_by_cmp (slice_cmp nat_cmp) q name) (finite.get names q)
    (ap is_some (sym (finite.get-remove nat_list_cmp_total names name q) ∙ finite.get-entries (finite.remove names name) q) ∙ found)))

-- the names without one of them
pub without : (names : NameMap) (name : List ℕ) → AreNames names → AreNames (finite.remove names name)
without names name h =
    record {
      few = no_more (is_some (finite.get names name)) (finite.len names) _ (finite.len-remove nat_list_cmp_total names name) h.few;
      named = keys_without names name h.named;
    }

there_is : {X : Type 0} (o : Option X) → IsSome o → is_some o ≡ true
there_is None there = absurd (search rules)
there_is (Some x) there = refl

-- the names after a put of a name that is there
pub with_again : (names : NameMap) (name : List ℕ) (named : Named) → AreNames names → IsSome (finite.get names name) → AreNames (finite.insert names name named)
with_again names name named h there =
    with_put names name named h
    (found_name IsName name (finite.entries names) h.named (ap is_some (sym (finite.get-entries names name)) ∙ there_is (finite.get names name) there))
    (inl there)
