-- Names with the roots of their files are as many, and are listed the same.
use Rattle.store_machine.proofs.Prelude.{◌≡◌, ◌≤◌, ℕ, suc, Bool, true, false, cond, [], ◌∷◌, length, map, Option, Some, None, option_map, is_some, refl, sym, ◌∙◌, ap, subst, nat_list_cmp_total, slice_cmp, nat_cmp, eq_by_cmp, Root, MOST_FILE, SameNow, listing, with_name, without_name, Found, of_files, of_roots}
use Rattle.std.proofs.Common.{Ordering, List, T}
use Rattle.std.proofs.lemmas.Option.{same_Some}
use Rattle.std.specs.Prelude.{◌&&◌}
use Rattle.std.specs.Ordering.{is_lt}
use Rattle.std.specs.FinMap as finite
use Rattle.std.specs.FinMap.Entries.{find, is_sorted, below_all}
use Rattle.namespace.specs.Listing.{NamedRoot}
use Rattle.store_model.specs.Trees.{root_of}

-- ---- maps whose values are changed

module _ (K X Y : Type 0) (R : K → K → Ordering) (f : X → Y) where
  abbrev pub changed : List (K × X) → List (K × Y)
  changed [] = []
  changed (e ∷ es) = (e.0, f e.1) ∷ changed es

  changed_below : (k : K) (es : List (K × X)) → below_all R k (changed es) ≡ below_all R k es
  changed_below k [] = refl
  changed_below k (e ∷ es) = ap (λ (b : Bool). is_lt (R k e.0) && b) (changed_below k es)

  changed_sorted : (es : List (K × X)) → is_sorted R (changed es) ≡ is_sorted R es
  changed_sorted [] = refl
  changed_sorted (e ∷ es) = ap (λ (b : Bool). b && is_sorted R (changed es)) (changed_below e.0 es) ∙ ap (λ (b : Bool). below_all R e.0 es && b) (changed_sorted es)

  changed_find : (q : K) (es : List (K × X)) → find R q (changed es) ≡ option_map f (find R q es)
  changed_find q [] = refl
  changed_find q (e ∷ es) =
      elim (eq_by_cmp R q e.0) as (λ b. cond b (Some (f e.1)) (find R q (changed es)) ≡ option_map f (cond b (Some e.1) (find R q es))) [ true ↦ refl | false ↦ changed_find q es ]

  changed_length : (es : List (K × X)) → length (changed es) ≡ length es
  changed_length [] = refl
  changed_length (e ∷ es) = ap suc (changed_length es)

  right : (m : finite.FinMap R X) → T (is_sorted R (changed (finite.entries m)))
  right m = subst T (sym (changed_sorted (finite.entries m))) (finite.entries_sorted m)

-- ---- names

abbrev pub order : List ℕ → List ℕ → Ordering
order = slice_cmp nat_cmp

-- the same names, with changed values
module _ (X Y : Type 0) (f : X → Y) (m : finite.FinMap order X) where
  pub mapped : finite.FinMap order Y
  mapped = finite.from_sorted (changed (List ℕ) X Y order f (finite.entries m))

  pub get_mapped : (q : List ℕ) → finite.get mapped q ≡ option_map f (finite.get m q)
  unfolding mapped
  get_mapped q =
      finite.get-from_sorted order (changed (List ℕ) X Y order f (finite.entries m)) q (right (List ℕ) X Y order f m)
      ∙ changed_find (List ℕ) X Y order f q (finite.entries m) ∙ ap (option_map f) (sym (finite.get-entries m q))

-- of maps by names
module _ (X Y : Type 0) (f : X → Y) (a : finite.FinMap order X) (b : finite.FinMap order Y) (same : (q : List ℕ) → finite.get b q ≡ option_map f (finite.get a q)) where
  pub entries_changed : finite.entries b ≡ changed (List ℕ) X Y order f (finite.entries a)
  entries_changed =
      let es = changed (List ℕ) X Y order f (finite.entries a) in
      let sorted = right (List ℕ) X Y order f a in
      let map_is : b ≡ finite.from_sorted {R = order} es =
      finite.same_map nat_list_cmp_total (finite.slice_cmp-IsAntisymmetric finite.nat_cmp-IsAntisymmetric) b (finite.from_sorted es)
      (λ q. same q ∙ ap (option_map f) (finite.get-entries a q) ∙ sym (changed_find (List ℕ) X Y order f q (finite.entries a)) ∙ sym (finite.get-from_sorted order es q sorted)) in
      ap finite.entries map_is ∙ finite.entries-from_sorted order es sorted

  pub len_changed : finite.len b ≡ finite.len a
  len_changed = finite.len-entries b ∙ ap length entries_changed ∙ changed_length (List ℕ) X Y order f (finite.entries a) ∙ sym (finite.len-entries a)

abbrev rooted : List (List ℕ × List ℕ) → List (List ℕ × Root)
rooted es = changed (List ℕ) (List ℕ) Root order root_of es

module _ (files : Found (List ℕ)) (roots : Found Root) (same : SameNow files roots) where
  entries_same : finite.entries roots.names ≡ rooted (finite.entries files.names)
  entries_same = entries_changed (List ℕ) Root root_of files.names roots.names same.get_is

  pub len_same : finite.len roots.names ≡ finite.len files.names
  len_same = len_changed (List ℕ) Root root_of files.names roots.names same.get_is

  list_map : (es : List (List ℕ × List ℕ))
      → map (λ (e : List ℕ × Root). let n : NamedRoot = record { name = e.0; root = e.1 } in n) (rooted es) ≡ map
      (λ (e : List ℕ × List ℕ). record { name = e.0; root = root_of e.1 }) es
  list_map [] = refl
  list_map (e ∷ es) = ap (λ (ns : List NamedRoot). record { name = e.0; root = root_of e.1 } ∷ ns) (list_map es)

  pub listing_same : listing of_roots roots ≡ listing of_files files
  listing_same = ap (map (λ (e : List ℕ × Root). record { name = e.0; root = e.1 })) entries_same ∙ list_map (finite.entries files.names)

  pub values_same : finite.values roots.names ≡ map root_of (finite.values files.names)
  values_same = ap (map (λ (e : List ℕ × Root). e.1)) entries_same ∙ values_map (finite.entries files.names)
    where
      values_map : (es : List (List ℕ × List ℕ)) → map (λ (e : List ℕ × Root). e.1) (rooted es) ≡ map root_of (map (λ (e : List ℕ × List ℕ). e.1) es)
      values_map [] = refl
      values_map (e ∷ es) = ap (λ (rs : List Root). root_of e.1 ∷ rs) (values_map es)

  some_map : (o : Option (List ℕ)) → is_some (option_map root_of o) ≡ is_some o
  some_map None = refl
  some_map (Some file) = refl

  pub knows_same : (name : List ℕ) → is_some (finite.get roots.names name) ≡ is_some (finite.get files.names name)
  knows_same name = ap is_some (same.get_is name) ∙ some_map (finite.get files.names name)

  pub none_same : (name : List ℕ) → finite.get files.names name ≡ None → finite.get roots.names name ≡ None
  none_same name none = same.get_is name ∙ ap (option_map root_of) none

  pub some_same : (name file : List ℕ) → finite.get files.names name ≡ Some file → finite.get roots.names name ≡ Some (root_of file)
  some_same name file is = same.get_is name ∙ ap (option_map root_of) is

  -- ---- from those of roots

  none_map : (o : Option (List ℕ)) → option_map root_of o ≡ None → o ≡ None
  none_map None is = refl
  none_map (Some file) is = absurd (let wrong : Some (root_of file) ≡ None = is in cc)

  pub none_back : (name : List ℕ) → finite.get roots.names name ≡ None → finite.get files.names name ≡ None
  none_back name none = none_map (finite.get files.names name) (sym (same.get_is name) ∙ none)

  file_map : (o : Option (List ℕ)) (root : Root) → option_map root_of o ≡ Some root → (file : List ℕ) × (o ≡ Some file) × (root ≡ root_of file)
  file_map None root is = absurd (let wrong : None ≡ Some root = is in cc)
  file_map (Some file) root is = (file, refl, let same : root_of file ≡ root = cc in sym same)

  pub file_back : (name : List ℕ) (root : Root) → finite.get roots.names name ≡ Some root
      → (file : List ℕ) × (finite.get files.names name ≡ Some file) × (root ≡ root_of file)
  file_back name root is = file_map (finite.get files.names name) root (sym (same.get_is name) ∙ is)

  -- ---- commands

  get_put : (b : Bool) (file : List ℕ) (o : Option (List ℕ)) → cond b (Some (root_of file)) (option_map root_of o) ≡ option_map root_of (cond b (Some file) o)
  get_put true file o = refl
  get_put false file o = refl

  few_put : (b : Bool) (file other : List ℕ) (o : Option (List ℕ)) → length file ≤ MOST_FILE → (o ≡ Some other → length other ≤ MOST_FILE) → cond b (Some file) o ≡ Some other
      → length other ≤ MOST_FILE
  few_put true file other o few rest is = subst (λ (bytes : List ℕ). length bytes ≤ MOST_FILE) (same_Some file other is) few
  few_put false file other o few rest is = rest is

  pub put_same : (name file : List ℕ) → length file ≤ MOST_FILE → SameNow (with_name of_files name file files) (with_name of_roots name (root_of file) roots)
  put_same name file few = record {
    get_is = λ q. finite.get-insert nat_list_cmp_total roots.names name (root_of file) q ∙ ap (cond (eq_by_cmp order q name) (Some (root_of file))) (same.get_is q)
        ∙ get_put (eq_by_cmp order q name) file (finite.get files.names q) ∙ ap (option_map root_of) (sym (finite.get-insert nat_list_cmp_total files.names name file q));
    few =
        λ q other is. few_put (eq_by_cmp order q name) file other (finite.get files.names q) few (same.few q other)
        (sym (finite.get-insert nat_list_cmp_total files.names name file q) ∙ is);
    last_is = ap suc same.last_is;
  }

  get_gone : (b : Bool) (o : Option (List ℕ)) → cond b None (option_map root_of o) ≡ option_map root_of (cond b None o)
  get_gone true o = refl
  get_gone false o = refl

  few_gone : (b : Bool) (other : List ℕ) (o : Option (List ℕ)) → (o ≡ Some other → length other ≤ MOST_FILE) → cond b None o ≡ Some other → length other ≤ MOST_FILE
  few_gone true other o rest is = absurd (let wrong : None ≡ Some other = is in cc)
  few_gone false other o rest is = rest is

  pub gone_same : (name : List ℕ) → SameNow (without_name of_files name files) (without_name of_roots name roots)
  gone_same name = record {
    get_is = λ q. finite.get-remove nat_list_cmp_total roots.names name q ∙ ap (cond (eq_by_cmp order q name) None) (same.get_is q)
        ∙ get_gone (eq_by_cmp order q name) (finite.get files.names q) ∙ ap (option_map root_of) (sym (finite.get-remove nat_list_cmp_total files.names name q));
    few =
        λ q other is. few_gone (eq_by_cmp order q name) other (finite.get files.names q) (same.few q other) (sym (finite.get-remove nat_list_cmp_total files.names name q) ∙ is);
    last_is = ap suc same.last_is;
  }
