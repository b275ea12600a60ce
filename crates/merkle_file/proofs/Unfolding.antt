-- A node of a tree, fed to a walk, puts the trees below it in its place.
use Rattle.merkle_file.proofs.Prelude.{◌≡◌, ℕ, ◌-◌, List, [], ◌∷◌, ◌++◌, map, drop, Result, Ok, Err, refl, sym, ap, subst, ◌∙◌, arith, OnOk, IsOk, AllByRecursion, map-append, flat_map-append, flat_map-cons, Top, FieldFault, Contents, IsNode, Tree, Trees, Node, NoTree, Then, leaves, leaves_below, child_of, children_of, level_of, root_of, of_segment, contents_in, Ahead, AreBelow, IsTree, below, contents_of, opened}
use Rattle.merkle_file.specs.Node.{spelling}
use Rattle.merkle_file.specs.Walk.{IsNextNamed, list_of, segments_in}

below_roots : (level : ℕ) (ts : Trees (List ℕ)) → AreBelow level ts → map (below level) (children_of of_segment ts) ≡ map (root_of of_segment) (list_of ts)
below_roots level NoTree h = refl
below_roots level (Then t ts) h =
    let one : level - 1 ≡ level_of t = omega (arith, h.0) in
    ap (λ (l : ℕ). let top : Top = record { length = (child_of of_segment t).length; level = l; digest = (child_of of_segment t).digest } in top ∷ map (below level)
    (children_of of_segment ts)) one
    ∙ ap (λ (tops : List Top). root_of of_segment t ∷ tops) (below_roots level ts h.2)

trees_below : (level : ℕ) (ts : Trees (List ℕ)) → AreBelow level ts → AllByRecursion IsTree (list_of ts)
trees_below level NoTree h = tt
trees_below level (Then t ts) h = (h.1, trees_below level ts h.2)

all_both : (xs ys : List (Tree (List ℕ))) → AllByRecursion IsTree xs → AllByRecursion IsTree ys → AllByRecursion IsTree (xs ++ ys)
all_both [] ys a b = b
all_both (x ∷ xs) ys a b = (a.0, all_both xs ys a.1 b)

leaves_in : (ts : Trees (List ℕ)) → segments_in (list_of ts) ≡ leaves_below ts
leaves_in NoTree = refl
leaves_in (Then t ts) = flat_map-cons leaves t (list_of ts) ∙ ap (λ (out : List (List ℕ)). leaves t ++ out) (leaves_in ts)

at_ok : (r : Result (Unit {0}) FieldFault) (P : Type 0) → IsOk r → OnOk r P → P
at_ok (Ok x) P ok h = h
at_ok (Err e) P ok h = absurd cc

pub walk_law : (old new : List Top) (bytes : List ℕ) (level : ℕ) (ts : Trees (List ℕ)) (others : List (Tree (List ℕ))) (r : Result (Unit {0}) FieldFault)
    → ((n : Contents) → IsNode n → IsNextNamed old n → bytes ≡ spelling n → IsOk r × (contents_in bytes ≡ n))
    → OnOk r (new ≡ opened (contents_in bytes) ++ drop 1 old)
    → Ahead old (Node level ts ∷ others) → bytes ≡ spelling (contents_of level ts)
    → IsOk r × Ahead new (list_of ts ++ others) × (segments_in (list_of ts ++ others) ≡ segments_in (Node level ts ∷ others))
walk_law old new bytes level ts others r only ok ahead is =
    let n : Contents = contents_of level ts in
    let named : IsNextNamed old n = subst (λ (c : List Top). IsNextNamed c n) (sym ahead.tops) (record { level = refl; length = refl }) in
    let taken = only n ahead.each.0.0 named is in
    let new_is : new ≡ map (root_of of_segment) (list_of ts ++ others) =
    at_ok r _ taken.0 ok ∙ ap (λ (m : Contents). opened m ++ drop 1 old) taken.1
    ∙ ap (λ (tops : List Top). opened n ++ drop 1 tops) ahead.tops
    ∙ ap (λ (tops : List Top). tops ++ map (root_of of_segment) others) (below_roots level ts ahead.each.0.1)
    ∙ sym (map-append (root_of of_segment) (list_of ts) others) in (
      taken.0,
      record { tops = new_is; each = all_both (list_of ts) others (trees_below level ts ahead.each.0.1) ahead.each.1 },
      flat_map-append leaves (list_of ts) others ∙ ap (λ (out : List (List ℕ)). out ++ segments_in others) (leaves_in ts) ∙ sym (flat_map-cons leaves (Node level ts) others),
    )
