-- A visit of what comes first on a walk.
use Rattle.std.proofs.Common.{◌≡◌, inl, inr, ℕ, ◌+◌, ◌-◌, ◌*◌, ◌<◌, ◌≤◌, List, [], ◌∷◌, ◌++◌, map, drop, Option, Result, Ok, Err, refl, sym, ◌∙◌, ap, subst, arith}
use Rattle.std.specs.List.{AllByRecursion, flat_map}
use Rattle.std.specs.Prelude.{Bool, true, false, ◌==◌, if◌then◌else◌}
use Rattle.std.specs.Result.{IsErrAnd}
use Rattle.std.proofs.lemmas.Bool.{eqb-false}
use Rattle.std.proofs.Math.Nat.{add-mul, mul-add}
use Rattle.std.proofs.lemmas.List.Concat.{flat_map-cons}
use Rattle.std.proofs.lemmas.List.Sums.{sum_by-cons}
use Rattle.sha2.specs.Sha256.{sha256}
use Rattle.disk_format.specs.declared.why.Why.{Why}
use Rattle.dd_disk.specs.View.{DiskView}
use Rattle.container_meta.specs.declared.place.Place.{Place}
use Rattle.container_meta.specs.Places.{PlaceMap}
use Rattle.container_meta.specs.Spelling.{HeaderValue}
use Rattle.merkle_file.specs.declared.node.Child.{Child}
use Rattle.merkle_file.specs.declared.top.Top.{Top}
use Rattle.merkle_file.specs.declared.want.Want.TheVariants as wants
use Rattle.merkle_file.specs.Node.{Contents, IsChild, IsNode, total}
use Rattle.merkle_file.specs.Reading.{contents_in}
use Rattle.merkle_file.specs.Tree as tree
use Rattle.merkle_file.specs.Tree.{Tree, of_segment, root_of}
use Rattle.merkle_file.specs.Walk.{IsNamed, SpellsNext, below, opened, wanted}
use Rattle.refusals.specs.declared.refusal.Refusal.{Refusal}
use Rattle.refusals.specs.declared.refusal.Refusal.TheVariants.{Corrupt}
use Rattle.segment_index.specs.Places.{IsPlace}
use Rattle.store_model.specs.Collisions.{ByteSet}
use Rattle.store_model.specs.Reserve.{tree_keys}
use Rattle.read_steps.specs.Visiting.{HasPlace, Visits, VisitsTop, VisitsPlaced, IsHeldVisit, IsVisitRefusal, steps_ahead}
use Rattle.read_steps.specs.Walking.{IsPlaceOf, IsCopyAt, WasRead, IsIndexed, HeldAhead, IsNodeNamed, IsLookupRefusal, IsCopyRefusal, IsNextRefusal, leaf_top, top_key}
use Rattle.read_steps.proofs.HeldWalks.{first_same, rest_same, open_held, next_failed}
use Rattle.read_steps.proofs.Walks.{key_of_node, leaf_wanted, copy_refused}

-- ---- what was found

pub node_visited : (known : Option PlaceMap) (old new : DiskView) (before after : List Top) (digest : List ℕ) (place : Place) (bytes : List ℕ) → IsNodeNamed before digest
    → IsCopyAt known old new (1 ∷ digest) place bytes → sha256 bytes ≡ digest → SpellsNext before bytes → after ≡ opened (contents_in bytes) ++ drop 1 before →
    VisitsPlaced known old new before after place
node_visited known old new [] after digest place bytes named copy is spells e = absurd named
node_visited known old new (t ∷ ts) after digest place bytes named copy is spells e =
    let here : IsCopyAt known old new (1 ∷ t.digest) place bytes = subst (λ (d : List ℕ). IsCopyAt known old new (1 ∷ d) place bytes) named.1 copy in (
      t,
      (
        (ts, (refl, inr (bytes, ((named.0, record { place = place; copy = here }, is ∙ named.1, spells), e)))),
        subst (λ (key : List ℕ). IsPlaceOf known key place) (sym (key_of_node t named.0)) here.place_is,
        here.right,
      ),
    )

pub leaf_visited : (known : Option PlaceMap) (old new : DiskView) (before after : List Top) (digest : List ℕ) (level count : ℕ) (place : Place) →
    wanted before ≡ wants.Leaf digest level count
    → after ≡ drop 1 before → IsPlaceOf known (0 ∷ digest) place → IsPlace old.size place → VisitsPlaced known old new before after place
leaf_visited known old new before after digest level count place wants passed is right =
    let first = leaf_wanted before digest level count wants in
    (leaf_top count digest, ((first.0, (first.1, inl (refl, (place, is), passed ∙ ap (drop 1) first.1))), is, right))

copy_not_found : (known : Option PlaceMap) (breaks : ℕ → Why → List ℕ → Type 0) (old new : DiskView) (key digest : List ℕ) (refusal : Refusal) →
    IsLookupRefusal known breaks old new key refusal
    → IsCopyRefusal known breaks old new key digest refusal
copy_not_found known breaks old new key digest (Corrupt slot offset count want got) cause = absurd cause
copy_not_found known breaks old new key digest refusal cause = cause

-- a segment that has no place
pub leaf_not_found : (known : Option PlaceMap) (breaks : ℕ → Why → List ℕ → Type 0) (old new : DiskView) (before : List Top) (digest : List ℕ) (level count : ℕ) →
    wanted before ≡ wants.Leaf digest level count
    → (refusal : Refusal) → IsLookupRefusal known breaks old new (0 ∷ digest) refusal → IsVisitRefusal known breaks old new before refusal
leaf_not_found known breaks old new before digest level count wants refusal cause =
    let first = leaf_wanted before digest level count wants in
    subst (λ (tops : List Top). IsVisitRefusal known breaks old new tops refusal) (sym first.1) (inl (refl, cause))

-- a node that isn't given
pub node_not_opened : (known : Option PlaceMap) (breaks : ℕ → Why → List ℕ → Type 0) (old new : DiskView) (before : List Top) (digest : List ℕ) (level count : ℕ) →
    wanted before ≡ wants.Node digest level count
    → (refusal : Refusal) → IsNextRefusal known breaks old new before refusal → IsVisitRefusal known breaks old new before refusal
node_not_opened known breaks old new [] digest level count named refusal cause = absurd cause
node_not_opened known breaks old new (t ∷ ts) digest level count named refusal cause = inr (by_level (t.level == 0) refl named, cause)
  where
    by_level : (flat : Bool) → (t.level == 0) ≡ flat → (if flat then wants.Leaf t.digest t.level t.length else wants.Node t.digest t.level t.length) ≡ wants.Node digest level
        count → 1 ≤ t.level
    by_level true is e = absurd cc
    by_level false is e = omega (arith, eqb-false t.level 0 is)

-- each is a refusal of what comes first
next_refused : (known : Option PlaceMap) (breaks : ℕ → Why → List ℕ → Type 0) (old new : DiskView) (ahead : List Top) (refusal : Refusal) →
    IsVisitRefusal known breaks old new ahead refusal
    → IsNextRefusal known breaks old new ahead refusal
next_refused known breaks old new [] refusal cause = absurd cause
next_refused known breaks old new (t ∷ ts) refusal (inl leaf) =
    copy_refused known breaks old new t refusal (copy_not_found known breaks old new (top_key t) t.digest refusal leaf.1)
next_refused known breaks old new (t ∷ ts) refusal (inr node) = node.1

-- ---- the measure falls

steps-cons : (t : Top) (ts : List Top) → steps_ahead (t ∷ ts) ≡ (t.length * (t.level + 1) + 1) + steps_ahead ts
steps-cons t ts = sum_by-cons (λ (u : Top). u.length * (u.level + 1) + 1) t ts

one_step : (a b s k l r : ℕ) → 1 ≤ a → l + 1 ≡ k → s ≤ b * (k + 1) + r → (a * (l + 1) + 1) + s ≤ (a + b) * (k + 1) + r
one_step a b s k l r some is most =
    let here : a * (l + 1) ≡ a * k = ap (λ (n : ℕ). a * n) is in
    omega (arith, here, mul-add a k 1, add-mul a b (k + 1))

steps_below : (level bound : ℕ) (children : List Child) (rest : List Top) → 1 ≤ level → AllByRecursion (IsChild bound) children
    → steps_ahead (map (below level) children ++ rest) ≤ total children * (level + 1) + steps_ahead rest
steps_below level bound [] rest above each = omega arith
steps_below level bound (c ∷ cs) rest above each =
    let first = steps-cons (below level c) (map (below level) cs ++ rest) in
    let so_many : total (c ∷ cs) ≡ c.length + total cs = sum_by-cons (λ (d : Child). d.length) c cs in
    let most = one_step c.length (total cs) (steps_ahead (map (below level) cs ++ rest)) level (level - 1) (steps_ahead rest) each.0.some (omega arith)
    (steps_below level bound cs rest above each.1) in
    subst (λ (n : ℕ). n ≤ total (c ∷ cs) * (level + 1) + steps_ahead rest) (sym first)
    (subst (λ (n : ℕ). (c.length * ((level - 1) + 1) + 1) + steps_ahead (map (below level) cs ++ rest) ≤ n * (level + 1) + steps_ahead rest) (sym so_many) most)

node_falls : (t : Top) (others : List Top) (n : Contents) → IsNode n → IsNamed t n → steps_ahead (opened n ++ others) < steps_ahead (t ∷ others)
node_falls t others n right named =
    let most : steps_ahead (opened n ++ others) ≤ total n.children * (n.level + 1) + steps_ahead others = steps_below n.level n.level n.children others right.above right.each in
    let same : total n.children * (n.level + 1) ≡ t.length * (t.level + 1) = ap (λ (k : ℕ). k * (n.level + 1)) named.length ∙ ap (λ (k : ℕ). t.length * (k + 1)) named.level in
    omega (arith, most, same, steps-cons t others)

top_falls : (P : List ℕ → List ℕ → Type 0) (Q : List ℕ → Type 0) (t : Top) (others after : List Top) → VisitsTop P Q t others after → steps_ahead after < steps_ahead (t ∷ others)
top_falls P Q t others after (inl leaf) = omega (arith, steps-cons t others, ap steps_ahead leaf.2)
top_falls P Q t others after (inr node) =
    subst (λ (tops : List Top). steps_ahead tops < steps_ahead (t ∷ others)) (sym node.1.1) (node_falls t others (contents_in node.0) node.1.0.3.1 node.1.0.3.2)

pub visit_falls : (P : List ℕ → List ℕ → Type 0) (Q : List ℕ → Type 0) (before after : List Top) (t : Top) → Visits P Q before t after → steps_ahead after < steps_ahead before
visit_falls P Q before after t visits =
    subst (λ (tops : List Top). steps_ahead after < steps_ahead tops) (sym visits.1.0) (top_falls P Q t visits.0 after visits.1.1)

-- ---- held trees

module _ (counts : ByteSet) (held : List (Option HeaderValue)) (known : Option PlaceMap) (old new : DiskView) (image : List ℕ)
    (indexed : IsIndexed counts held known old.content image) where
  leaf_passed : (t : Top) (others : List Top) (ts : List (Tree (List ℕ))) → t.level ≡ 0 → HeldAhead counts held image (t ∷ others) ts
      → (us : List (Tree (List ℕ))) × HeldAhead counts held image others us × (flat_map tree_keys ts ≡ top_key t ∷ flat_map tree_keys us)
  leaf_passed t others [] flat ahead = absurd (let wrong : t ∷ others ≡ [] = ahead.trees.tops in cc)
  leaf_passed t others (tree.Empty ∷ us) flat ahead = absurd ahead.trees.each.0
  leaf_passed t others (tree.Leaf segment ∷ us) flat ahead =
      let first : t ≡ root_of of_segment (tree.Leaf segment) = first_same counts held known old new image indexed t _ others _ ahead.trees.tops in
      let rest = rest_same counts held known old new image indexed t _ others _ ahead.trees.tops in (
        us,
        record { trees = record { tops = rest; each = ahead.trees.each.1 }; each = ahead.each.1 },
        flat_map-cons tree_keys (tree.Leaf segment) us ∙ ap (λ (key : List ℕ). key ∷ flat_map tree_keys us) (sym (ap top_key first)),
      )
  leaf_passed t others (tree.Node level ts ∷ us) flat ahead =
      absurd (omega (arith, flat, ap (λ (u : Top). u.level) (first_same counts held known old new image indexed t _ others _ ahead.trees.tops), ahead.trees.each.0.0.above))

  top_visited : (t : Top) (others after : List Top) (ts : List (Tree (List ℕ))) → VisitsTop (WasRead known old new) (HasPlace known) t others after →
      HeldAhead counts held image (t ∷ others) ts
      → (us : List (Tree (List ℕ))) × HeldAhead counts held image after us × (flat_map tree_keys ts ≡ top_key t ∷ flat_map tree_keys us)
  top_visited t others after ts (inl leaf) ahead =
      let passed = leaf_passed t others ts leaf.0 ahead in
      (passed.0, subst (λ (tops : List Top). HeldAhead counts held image tops passed.0) (sym leaf.2) passed.1, passed.2)
  top_visited t others after ts (inr node) ahead =
      let one = open_held counts held known old new image indexed t others node.0 ts node.1.0 ahead in
      (one.0, subst (λ (tops : List Top). HeldAhead counts held image tops one.0) (sym node.1.1) one.1, one.3)

  -- the trees that are to come after a visit, and their keys
  pub visit_held : (before after : List Top) (t : Top) (ts : List (Tree (List ℕ))) → Visits (WasRead known old new) (HasPlace known) before t after →
      HeldAhead counts held image before ts
      → (us : List (Tree (List ℕ))) × HeldAhead counts held image after us × (flat_map tree_keys ts ≡ top_key t ∷ flat_map tree_keys us)
  visit_held before after t ts visits ahead =
      top_visited t visits.0 after ts visits.1.1 (subst (λ (tops : List Top). HeldAhead counts held image tops ts) visits.1.0 ahead)

  pub held_after : (before after : List Top) (place : Place) (ts : List (Tree (List ℕ))) → VisitsPlaced known old new before after place → HeldAhead counts held image before ts
      → (us : List (Tree (List ℕ))) × HeldAhead counts held image after us
  held_after before after place ts visits ahead = let next = visit_held before after visits.0 ts visits.1.0 ahead in (next.0, next.1)

  pub held_unread : (breaks : ℕ → Why → List ℕ → Type 0) (before after : List Top) (ts : List (Tree (List ℕ))) (refusal : Refusal) (result : Result (Option Place) Refusal) →
      IsErrAnd result (λ e. e ≡ refusal)
      → IsVisitRefusal known breaks old new before refusal → HeldAhead counts held image before ts → IsHeldVisit counts held image after result
  held_unread breaks before after ts refusal (Ok got) passed cause ahead = absurd passed
  held_unread breaks before after ts refusal (Err e) passed cause ahead = passed ∙ next_failed counts held known old new image indexed breaks before ts refusal ahead
      (next_refused known breaks old new before refusal cause)
