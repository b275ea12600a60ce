-- Nodes that are decoded, and the places of their children.
use Rattle.std.proofs.Common.{◌≡◌, inl, inr, ℕ, ◌+◌, ◌-◌, ◌<◌, List, [], ◌∷◌, ◌++◌, length, map, take, drop, get_or, Result, Ok, Err, IfOk, refl, sym, ◌∙◌, ap, subst}
use Rattle.std.specs.FinMap as finite
use Rattle.std.proofs.lemmas.List.{take-append-drop, take_more, drop_more, map-append}
use Rattle.std.proofs.lemmas.List.Elements.{All-push}
use Rattle.base_model.specs.Bytes.{byte_at}
use Rattle.disk_format.specs.declared.why.Why.{Why}
use Rattle.container_meta.specs.Places.{PlaceMap}
use Rattle.merkle_file.specs.declared.node.Child.{Child}
use Rattle.merkle_file.specs.Node.{Contents, IsNode, spelling}
use Rattle.std.specs.Prelude.{Option}
use Rattle.gc_enumerate.specs.declared.fault.ScanFault.{ScanFault}
use Rattle.gc_enumerate.specs.declared.fault.ScanFault.TheVariants.{DiskRead, Corrupt, Missing, Damaged, Memory}
use Rattle.gc_enumerate.specs.declared.layer.KeyPlace.{KeyPlace}
use Rattle.gc_enumerate.specs.Copies.{IsPlaceOf}
use Rattle.gc_enumerate.specs.Scanning.{ArePlaced, ComesTo, IsChildFault, IsMisplaced, IsPlacedAt, IsUnplaced, MisplacesChild, child_key, keys_of}

-- ---- a node of a level

level_first : (n : Contents) → byte_at 0 (spelling n) ≡ n.level
unfolding spelling
level_first n = refl

pub of_level : {E : Type 0} (result : Result Contents E) (bytes : List ℕ) (level : ℕ) → byte_at 0 bytes ≡ level → IfOk result (λ n. IsNode n × (bytes ≡ spelling n))
    → IfOk result (λ n. IsNode n × (bytes ≡ spelling n) × (n.level ≡ level))
of_level (Ok n) bytes level first found = (found.0, found.1, sym (level_first n) ∙ ap (byte_at 0) (sym found.1) ∙ first)
of_level (Err e) bytes level first found = tt

-- ---- children

-- children that were looked up, one after the other
pub record LookedUp (known : Option PlaceMap) (level : ℕ) (children : List Child) (index : ℕ) (found : List KeyPlace) : Type 0 where
  pub keys_are : keys_of found ≡ map (child_key level) (take index children)
  pub placed : ArePlaced known (level - 1) found

keys_split : (level : ℕ) (children : List Child) (i : ℕ) (d : Child) → i < length children
    → map (child_key level) children ≡ map (child_key level) (take i children) ++ child_key level (get_or children i d) ∷ map (child_key level) (drop (i + 1) children)
keys_split level children i d within =
    ap (map (child_key level)) (sym (take-append-drop i children) ∙ ap (λ (cs : List Child). take i children ++ cs) (drop_more children i d within))
    ∙ map-append (child_key level) (take i children) (get_or children i d ∷ drop (i + 1) children)

keys_more : (level : ℕ) (children : List Child) (i : ℕ) (d : Child) → i < length children
    → map (child_key level) (take (i + 1) children) ≡ map (child_key level) (take i children) ++ child_key level (get_or children i d) ∷ []
keys_more level children i d within = ap (map (child_key level)) (take_more children i d within) ∙ map-append (child_key level) (take i children) (get_or children i d ∷ [])

-- one child is looked up, in a later state
module _ (known known' : Option PlaceMap) (same : known' ≡ known) (n : Contents) (i : ℕ) (d : Child) (within : i < length n.children) (key : List ℕ)
    (key_is : key ≡ child_key n.level (get_or n.children i d)) (found : List KeyPlace) (so_far : LookedUp known n.level n.children i found) where
  comes_to : (k : List ℕ) → k ≡ key → ComesTo known n k
  comes_to k is = record {
    before = found;
    after = map (child_key n.level) (drop (i + 1) n.children);
    keys_are = keys_split n.level n.children i d within
        ∙ ap (λ (keys : List (List ℕ)). keys ++ child_key n.level (get_or n.children i d) ∷ map (child_key n.level) (drop (i + 1) n.children)) (sym so_far.keys_are)
        ∙ ap (λ (x : List ℕ). keys_of found ++ x ∷ map (child_key n.level) (drop (i + 1) n.children)) (sym (is ∙ key_is));
    placed = so_far.placed;
  }

  misplaced_too : (at : ℕ) (why : Why) → IsMisplaced known' (n.level - 1) key at why → MisplacesChild known n at why
  misplaced_too at why wrong = record {
    key = key;
    comes = comes_to key refl;
    misplaced = subst (λ (k : Option PlaceMap). IsMisplaced k (n.level - 1) key at why) same wrong;
  }

  pub child_stuck : (damaged damaged' : ℕ → Why → Type 0) (fault : ScanFault) → ((at : ℕ) (why : Why) → damaged' at why → damaged at why) →
      IsUnplaced known' damaged' (n.level - 1) key fault
      → IsChildFault known damaged n fault
  child_stuck damaged damaged' DiskRead wider cause = tt
  child_stuck damaged damaged' Memory wider cause = tt
  child_stuck damaged damaged' (Corrupt slot offset count want got) wider cause = absurd cause
  child_stuck damaged damaged' (Damaged at why) wider (inl by_index) = inl (wider at why by_index)
  child_stuck damaged damaged' (Damaged at why) wider (inr wrong) = inr (misplaced_too at why wrong)
  child_stuck damaged damaged' (Missing k) wider cause = record {
    comes = comes_to k cause.0;
    missing = λ m is_known. ap (finite.get m) cause.0 ∙ cause.1 m (same ∙ is_known);
  }

  pub child_more : (f : KeyPlace) (after : List KeyPlace) → f.key ≡ key → IsPlaceOf known' key f.place → f.place.level ≡ n.level - 1 → after ≡ found ++ f ∷ []
      → LookedUp known n.level n.children (i + 1) after
  child_more f after f_is place_is level_is more = record {
    keys_are = ap keys_of more ∙ map-append (λ (x : KeyPlace). x.key) found (f ∷ []) ∙ ap (λ (keys : List (List ℕ)). keys ++ f.key ∷ []) so_far.keys_are
        ∙ ap (λ (k : List ℕ). map (child_key n.level) (take i n.children) ++ k ∷ []) (f_is ∙ key_is)
        ∙ sym (keys_more n.level n.children i d within);
    placed = subst (ArePlaced known (n.level - 1)) (sym more)
        (All-push (IsPlacedAt known (n.level - 1)) found f so_far.placed (λ m is_known. ap (finite.get m) f_is ∙ place_is m (same ∙ is_known), level_is));
  }
