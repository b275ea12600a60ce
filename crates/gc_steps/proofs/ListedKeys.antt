-- The key of the root of a name, and the name that it is of.
use Rattle.gc_steps.proofs.Prelude.{◌≡◌, ℕ, Bool, true, false, cond, List, [], ◌∷◌, map, Some, None, inl, inr, refl, sym, ◌∙◌, ap, nat_cmp, eq_by_cmp, slice_cmp, AllByRecursion, bytes_eq-Decides, Named, NamedRoot, listing_of, named_root, NameMap, tied, HasRootKey, IsListedKey, IsNameKey}
use Rattle.std.specs.Prelude.{T}
use Rattle.std.specs.Ordering.{is_lt, is_eq}
use Rattle.std.specs.FinMap as finite
use Rattle.std.specs.FinMap.Entries.{below_all}
use Rattle.std.proofs.Common.{Ordering, Less, Equal, Greater}
use Rattle.namespace.proofs.Again.{first, second}

-- a name with a root of that key
pub record HasName (names : NameMap) (key : List ℕ) : Type 0 where
  pub name : List ℕ
  pub named : Named
  pub found : finite.get names name ≡ Some named
  pub has : HasRootKey named.root key

-- ---- sorted entries

not_equal : (o : Ordering) → T (is_lt o) → is_eq o ≡ false
not_equal Less less = refl
not_equal Equal less = absurd less
not_equal Greater less = absurd less

-- a key below all others is none of them
none_below : (key : List ℕ) (es : List (List ℕ × Named)) → T (below_all (slice_cmp nat_cmp) key es) → finite.find (slice_cmp nat_cmp) key es ≡ None
none_below key [] below = refl
none_below key (e ∷ es) below =
    ap (λ (b : Bool). cond b (Some e.1) (finite.find (slice_cmp nat_cmp) key es)) (not_equal (slice_cmp nat_cmp key e.0) (first _ (below_all (slice_cmp nat_cmp) key es) below))
    ∙ none_below key es (second (is_lt (slice_cmp nat_cmp key e.0)) _ below)

-- the first is found by its name
first_found : (e : List ℕ × Named) (es : List (List ℕ × Named)) → finite.find (slice_cmp nat_cmp) e.0 (e ∷ es) ≡ Some e.1
first_found e es = ap (λ (b : Bool). cond b (Some e.1) (finite.find (slice_cmp nat_cmp) e.0 es)) (tied e.0 e.0 ∙ (bytes_eq-Decides e.0 e.0).1 refl)

-- and one of the rest too, since the first has another name
rest_found : (e : List ℕ × Named) (es : List (List ℕ × Named)) (name : List ℕ) (named : Named) → T (below_all (slice_cmp nat_cmp) e.0 es)
    → finite.find (slice_cmp nat_cmp) name es ≡ Some named
    → finite.find (slice_cmp nat_cmp) name (e ∷ es) ≡ Some named
rest_found e es name named below found = by_test (eq_by_cmp (slice_cmp nat_cmp) name e.0) refl
  where
    by_test : (b : Bool) → eq_by_cmp (slice_cmp nat_cmp) name e.0 ≡ b → cond b (Some e.1) (finite.find (slice_cmp nat_cmp) name es) ≡ Some named
    by_test false is = found
    by_test true is =
        let same : e.0 ≡ name = (bytes_eq-Decides e.0 name).0 (sym (tied name e.0) ∙ is) in
        let none : finite.find (slice_cmp nat_cmp) name es ≡ None = ap (λ (k : List ℕ). finite.find (slice_cmp nat_cmp) k es) (sym same) ∙ none_below e.0 es below in
        absurd (let wrong : Some named ≡ None = sym found ∙ none in cc)

-- one of these entries has a root of that key
record IsFound (es : List (List ℕ × Named)) (key : List ℕ) : Type 0 where
  name : List ℕ
  named : Named
  found : finite.find (slice_cmp nat_cmp) name es ≡ Some named
  has : HasRootKey named.root key

listed_by : (es : List (List ℕ × Named)) (key : List ℕ) → T (finite.is_sorted (slice_cmp nat_cmp) es) → IsListedKey (map named_root es) key → IsFound es key
listed_by [] key sorted is = absurd is
listed_by (e ∷ es) key sorted (inl has) = record { name = e.0; named = e.1; found = first_found e es; has = has }
listed_by (e ∷ es) key sorted (inr later) =
    let rest = listed_by es key (second (below_all (slice_cmp nat_cmp) e.0 es) _ sorted) later in
    record {
      name = rest.name;
      named = rest.named;
      found = rest_found e es rest.name rest.named (first _ (finite.is_sorted (slice_cmp nat_cmp) es) sorted) rest.found;
      has = rest.has;
    }

-- each is found by its name
pub each_listed : (P : NamedRoot → Type 0) (es : List (List ℕ × Named)) → T (finite.is_sorted (slice_cmp nat_cmp) es)
    → ((name : List ℕ) (named : Named) → finite.find (slice_cmp nat_cmp) name es ≡ Some named → P (named_root (name, named))) → AllByRecursion P (map named_root es)
each_listed P [] sorted all = tt
each_listed P (e ∷ es) sorted all = (
  all e.0 e.1 (first_found e es),
  each_listed P es (second (below_all (slice_cmp nat_cmp) e.0 es) _ sorted)
      (λ name named found. all name named (rest_found e es name named (first _ (finite.is_sorted (slice_cmp nat_cmp) es) sorted) found)),
)

-- ---- names

pub name_of_key : (names : NameMap) (key : List ℕ) → IsNameKey names key → HasName names key
name_of_key names key is =
    let one = listed_by (finite.entries names) key (finite.entries_sorted names) is in
    record { name = one.name; named = one.named; found = finite.get-entries names one.name ∙ one.found; has = one.has }

pub each_name : (P : NamedRoot → Type 0) (names : NameMap) → ((name : List ℕ) (named : Named) → finite.get names name ≡ Some named → P (named_root (name, named)))
    → AllByRecursion P (listing_of names)
each_name P names all = each_listed P (finite.entries names) (finite.entries_sorted names) (λ name named found. all name named (finite.get-entries names name ∙ found))
