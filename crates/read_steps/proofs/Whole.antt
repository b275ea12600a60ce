-- A walk that comes to a tree walks it whole before it goes on beside it.
use Rattle.std.proofs.Common.{◌≡◌, ◌⊎◌, inl, inr, ℕ, zero, suc, ◌-◌, ◌<◌, ◌≤◌, List, [], ◌∷◌, ◌++◌, map, refl, sym, ◌∙◌, ap, subst, append_assoc, arith}
use Rattle.std.specs.List.{AllByRecursion, Contains}
use Rattle.std.proofs.lemmas.List.{map-append}
use Rattle.std.proofs.lemmas.List.Elements.{Contains-append_cases, Contains-append_left, Contains-append_right}
use Rattle.merkle_file.specs.declared.node.Child.{Child}
use Rattle.merkle_file.specs.Reading.{contents_in}
use Rattle.merkle_file.specs.Walk.{below, opened}
use Rattle.merkle_file.specs.declared.top.Top.{Top}
use Rattle.read_steps.specs.Visiting.{IsVisited, Visits, VisitsTo, VisitsTop}
use Rattle.read_steps.specs.Walking.{IsNodeRead, top_key}

-- all of these are of a level below one
abbrev pub AreBelow : ℕ → List Top → Type 0
AreBelow level ts = AllByRecursion (λ t. t.level < level) ts

-- what comes first is not below one
abbrev pub NotBelow : ℕ → List Top → Type 0
NotBelow level [] = Unit {0}
NotBelow level (t ∷ ts) = level ≤ t.level

visited_or : (t : Top) (ts : List Top) (key : List ℕ) → IsVisited ts key → IsVisited (t ∷ ts) key
visited_or t ts key is = Contains-append_right (top_key t ∷ []) (map top_key ts) key is

pub visited_left : (xs ys : List Top) (key : List ℕ) → IsVisited xs key → IsVisited (xs ++ ys) key
visited_left xs ys key is = subst (λ (ks : List (List ℕ)). Contains ks key) (sym (map-append top_key xs ys)) (Contains-append_left (map top_key xs) (map top_key ys) key is)

pub visited_right : (xs ys : List Top) (key : List ℕ) → IsVisited ys key → IsVisited (xs ++ ys) key
visited_right xs ys key is = subst (λ (ks : List (List ℕ)). Contains ks key) (sym (map-append top_key xs ys)) (Contains-append_right (map top_key xs) (map top_key ys) key is)

pub visited_cases : (xs ys : List Top) (key : List ℕ) → IsVisited (xs ++ ys) key → IsVisited xs key ⊎ IsVisited ys key
visited_cases xs ys key is = Contains-append_cases (map top_key xs) (map top_key ys) key (subst (λ (ks : List (List ℕ)). Contains ks key) (map-append top_key xs ys) is)

append_below : (level : ℕ) (xs ys : List Top) → AreBelow level xs → AreBelow level ys → AreBelow level (xs ++ ys)
append_below level [] ys first second = second
append_below level (x ∷ xs) ys first second = (first.0, append_below level xs ys first.1 second)

children_below : (level own : ℕ) (children : List Child) → own - 1 < level → AreBelow level (map (below own) children)
children_below level own [] lower = tt
children_below level own (c ∷ cs) lower = (lower, children_below level own cs lower)

pub tail_is : (x t : Top) (xs ts : List Top) → x ∷ xs ≡ t ∷ ts → xs ≡ ts
tail_is x t xs ts e = cc

pub head_is : (x t : Top) (xs ts : List Top) → x ∷ xs ≡ t ∷ ts → x ≡ t
head_is x t xs ts e = cc

module _ (P : List ℕ → List ℕ → Type 0) (Q : List ℕ → Type 0) where
  abbrev To : List Top → List Top → List Top → Type 0
  To = VisitsTo P Q

  -- ---- beside other trees

  top_beside : (t : Top) (others ys after : List Top) → VisitsTop P Q t others after → VisitsTop P Q t (others ++ ys) (after ++ ys)
  top_beside t others ys after (inl leaf) = inl (leaf.0, leaf.1, ap (λ (l : List Top). l ++ ys) leaf.2)
  top_beside t others ys after (inr node) =
      inr (node.0, (node.1.0, ap (λ (l : List Top). l ++ ys) node.1.1 ∙ append_assoc (opened (contents_in node.0)) others ys))

  pub beside : (xs ys visited after : List Top) → To xs visited after → To (xs ++ ys) visited (after ++ ys)
  beside xs ys [] after way = ap (λ (l : List Top). l ++ ys) way
  beside xs ys (t ∷ ts) after way =
      let first : Visits P Q xs t way.0 = way.1.0 in (
        way.0 ++ ys,
        ((first.0 ++ ys, (ap (λ (l : List Top). l ++ ys) first.1.0, top_beside t first.0 ys way.0 first.1.1)), beside way.0 ys ts after way.1.1),
      )

  -- A walk of trees beside others is in them, or past them.
  record IsIn (xs ys visited after : List Top) : Type 0 where
    left : List Top
    way : To xs visited left
    after_is : after ≡ left ++ ys

  record IsPast (xs ys visited after : List Top) : Type 0 where
    first : List Top
    rest : List Top
    visited_are : visited ≡ first ++ rest
    way : To xs first []
    on : To ys rest after

  -- what a visit leaves of the trees that it is in
  record Leaves (t : Top) (xs ys mid : List Top) : Type 0 where
    inner : List Top
    mid_is : mid ≡ inner ++ ys
    step : VisitsTop P Q t xs inner

  leaves : (t : Top) (xs ys others mid : List Top) → others ≡ xs ++ ys → VisitsTop P Q t others mid → Leaves t xs ys mid
  leaves t xs ys others mid is (inl leaf) = record { inner = xs; mid_is = leaf.2 ∙ is; step = inl (leaf.0, leaf.1, refl) }
  leaves t xs ys others mid is (inr node) = record {
    inner = opened (contents_in node.0) ++ xs;
    mid_is =
        node.1.1 ∙ ap (λ (l : List Top). opened (contents_in node.0) ++ l) is ∙ sym (append_assoc (opened (contents_in node.0)) xs ys);
    step = inr (node.0, (node.1.0, refl));
  }

  split : (visited xs ys after : List Top) → To (xs ++ ys) visited after → IsIn xs ys visited after ⊎ IsPast xs ys visited after
  split [] xs ys after way = inl (record { left = xs; way = refl; after_is = way })
  split (t ∷ ts) [] ys after way = inr (record { first = []; rest = t ∷ ts; visited_are = refl; way = refl; on = way })
  split (t ∷ ts) (x ∷ xs) ys after way =
      let first : Visits P Q (x ∷ (xs ++ ys)) t way.0 = way.1.0 in
      let head : x ≡ t = head_is x t (xs ++ ys) first.0 first.1.0 in
      let step = leaves t xs ys first.0 way.0 (sym (tail_is x t (xs ++ ys) first.0 first.1.0)) first.1.1 in
      let one : Visits P Q (x ∷ xs) t step.inner = (xs, (ap (λ (y : Top). y ∷ xs) head, step.step)) in
      elim (split ts step.inner ys after (subst (λ (l : List Top). To l ts after) step.mid_is way.1.1)) [
        | inl inside ↦ inl (record { left = inside.left; way = (step.inner, (one, inside.way)); after_is = inside.after_is })
        | inr past ↦
            inr (record {
              first = t ∷ past.first;
              rest = past.rest;
              visited_are = ap (λ (l : List Top). t ∷ l) past.visited_are;
              way = (step.inner, (one, past.way));
              on =
                  past.on;
            })
      ]

  -- ---- levels fall

  top_below : (level : ℕ) (t : Top) (others after : List Top) → t.level - 1 < level → AreBelow level others → VisitsTop P Q t others after → AreBelow level after
  top_below level t others after lower those (inl leaf) = subst (AreBelow level) (sym leaf.2) those
  top_below level t others after lower those (inr node) =
      let read : IsNodeRead P (t ∷ others) node.0 = node.1.0 in
      subst (AreBelow level) (sym node.1.1)
      (append_below level (opened (contents_in node.0)) others
      (children_below level (contents_in node.0).level (contents_in node.0).children (omega (arith, lower, read.3.2.level))) those)

  below_on : (level : ℕ) (visited before after : List Top) → AreBelow level before → To before visited after → AreBelow level after
  below_on level [] before after those way = subst (AreBelow level) (sym way) those
  below_on level (t ∷ ts) before after those way =
      let first : Visits P Q before t way.0 = way.1.0 in
      let both : AreBelow level (t ∷ first.0) = subst (AreBelow level) first.1.0 those in
      below_on level ts way.0 after (top_below level t first.0 way.0 (omega (arith, both.0)) both.1 first.1.1) way.1.1

  -- what is left of a tree that was opened is below it
  left_below : (t : Top) (ts left : List Top) → 1 ≤ t.level → To (t ∷ []) (t ∷ ts) left → AreBelow t.level left
  left_below t ts left some way =
      let first : Visits P Q (t ∷ []) t way.0 = way.1.0 in
      let none : AreBelow t.level first.0 = subst (AreBelow t.level) (tail_is t t [] first.0 first.1.0) tt in
      below_on t.level ts way.0 left (top_below t.level t first.0 way.0 (omega (arith, some)) none first.1.1) way.1.1

  -- ---- a tree that a walk came to

  -- it was walked whole, on the way
  pub record IsComplete (visited : List Top) (u : Top) : Type 0 where
    pub inside : List Top
    pub way : To (u ∷ []) inside []
    pub among : (key : List ℕ) → IsVisited inside key → IsVisited visited key

  ended : (t : Top) (ts left others ahead : List Top) → 1 ≤ t.level → NotBelow t.level ahead → To (t ∷ []) (t ∷ ts) left → ahead ≡ left ++ others → IsComplete (t ∷ ts) t
  ended t ts [] others ahead some high way is = record { inside = t ∷ ts; way = way; among = λ key has. has }
  ended t ts (l ∷ ls) others ahead some high way is =
      let lower : AreBelow t.level (l ∷ ls) = left_below t ts (l ∷ ls) some way in
      let not_lower : t.level ≤ l.level = subst (NotBelow t.level) is high in
      absurd (omega (arith, lower.0, not_lower))

  first_complete : (t : Top) (ts others ahead : List Top) → 1 ≤ t.level → NotBelow t.level ahead → To (t ∷ others) (t ∷ ts) ahead → IsComplete (t ∷ ts) t
  first_complete t ts others ahead some high way = elim (split (t ∷ ts) (t ∷ []) others ahead way) [
    | inl inside ↦ ended t ts inside.left others ahead some high inside.way inside.after_is
    | inr past ↦ record {
      inside = past.first;
      way = past.way;
      among = λ key has. subst (λ (l : List Top). IsVisited l key) (sym past.visited_are) (visited_left past.first past.rest key has);
    }
  ]

  pub complete : (visited start ahead : List Top) (u : Top) → To start visited ahead → Contains visited u → 1 ≤ u.level → NotBelow u.level ahead → IsComplete visited u
  complete [] start ahead u way has some high = absurd (omega (arith, has.1))
  complete (t ∷ ts) start ahead u way (zero, within, is) some high =
      let first : Visits P Q start t way.0 = way.1.0 in
      let same : t ≡ u = is in
      let here : To (t ∷ first.0) (t ∷ ts) ahead = subst (λ (l : List Top). To l (t ∷ ts) ahead) first.1.0 way in
      subst (IsComplete (t ∷ ts)) same
      (first_complete t ts first.0 ahead (subst (λ (x : Top). 1 ≤ x.level) (sym same) some) (subst (λ (x : Top). NotBelow x.level ahead) (sym same) high) here)
  complete (t ∷ ts) start ahead u way (suc k, within, is) some high =
      let later = complete ts way.0 ahead u way.1.1 (k, omega (arith, within), is) some high in
      record { inside = later.inside; way = later.way; among = λ key has. visited_or t ts key (later.among key has) }
