-- What is kept of a list of trees, after one more.
use Rattle.merkle_file.proofs.Prelude.{◌≡◌, ℕ, zero, suc, ◌+◌, ◌*◌, ◌^◌, ◌<◌, true, false, List, [], ◌∷◌, ◌++◌, length, map, refl, sym, ap, subst, ◌∙◌, append_assoc, arith, inl, inr, pow-suc, flat_map, cases_Bool, eqb-true, eqb-false, length-append, append-nil, map-append, flat_map-append, flat_map-cons, Child, MOST_CHILDREN, Form, ByCount, is_whole, Contents, Tree, trees, joined, child_of, children_of, nodes_of, nodes_below, parent, nodes_in_rows, whole, rest, Placed}
use Rattle.merkle_file.specs.Building.{open_trees, whole_from, rest_from}
use Rattle.merkle_file.specs.Steps.{place}
use Rattle.merkle_file.proofs.Placing.{place_next, place_here, node_over}

-- ---- groups

-- one more element makes the group whole that was begun, or joins it
pub whole_push : {X : Type 0} (form : Form) (says : X → Child) (begun xs : List X) (x : X) → is_whole form says (rest_from form says begun xs ++ x ∷ []) ≡ true
    → (whole_from form says begun (xs ++ x ∷ []) ≡ whole_from form says begun xs ++ (rest_from form says begun xs ++ x ∷ []) ∷ []) × (rest_from form says begun (xs ++ x ∷ []) ≡ [])
unfolding whole_from rest_from
whole_push form says begun [] x e = (rw e refl, rw e refl)
whole_push form says begun (y ∷ ys) x e =
    elim (cases_Bool (is_whole form says (begun ++ y ∷ []))) [
      | inl full ↦ (let ih = whole_push form says [] ys x (rw full at e) in (rw full (ap (λ gs. (begun ++ y ∷ []) ∷ gs) ih.0), rw full ih.1))
      | inr few ↦ (let ih = whole_push form says (begun ++ y ∷ []) ys x (rw few at e) in (rw few ih.0, rw few ih.1))
    ]

pub rest_push : {X : Type 0} (form : Form) (says : X → Child) (begun xs : List X) (x : X) → is_whole form says (rest_from form says begun xs ++ x ∷ []) ≡ false
    → (whole_from form says begun (xs ++ x ∷ []) ≡ whole_from form says begun xs) × (rest_from form says begun (xs ++ x ∷ []) ≡ rest_from form says begun xs ++ x ∷ [])
unfolding whole_from rest_from
rest_push form says begun [] x e = (rw e refl, rw e refl)
rest_push form says begun (y ∷ ys) x e =
    elim (cases_Bool (is_whole form says (begun ++ y ∷ []))) [
      | inl full ↦ (let ih = rest_push form says [] ys x (rw full at e) in (rw full (ap (λ gs. (begun ++ y ∷ []) ∷ gs) ih.0), rw full ih.1))
      | inr few ↦ (let ih = rest_push form says (begun ++ y ∷ []) ys x (rw few at e) in (rw few ih.0, rw few ih.1))
    ]

-- how many groups, and how many elements are left
pub record IsCounted (begun all groups left : ℕ) : Type 0 where
  pub sum : begun + all ≡ MOST_CHILDREN * groups + left
  pub few : left < MOST_CHILDREN

pub counted : {X : Type 0} (says : X → Child) (begun xs : List X) → length begun < MOST_CHILDREN
    → IsCounted (length begun) (length xs) (length (whole_from ByCount says begun xs)) (length (rest_from ByCount says begun xs))
unfolding whole_from rest_from
counted says begun [] lt = record { sum = omega arith; few = lt }
counted says begun (y ∷ ys) lt =
    let one : length (begun ++ y ∷ []) ≡ length begun + 1 = length-append begun (y ∷ []) in
    elim (cases_Bool (is_whole ByCount says (begun ++ y ∷ []))) [
      | inl full ↦ (let ih = counted says [] ys (omega arith) in let is : length (begun ++ y ∷ []) ≡ MOST_CHILDREN = eqb-true _ _ full in
          rw full (record { sum = omega (arith, ih.sum, is, one); few = ih.few }))
      | inr few ↦ (let isnt : length (begun ++ y ∷ []) ≡ MOST_CHILDREN → ⊥ = eqb-false _ _ few in
          let ih = counted says (begun ++ y ∷ []) ys (omega (arith, one, isnt)) in
          rw few (record { sum = omega (arith, ih.sum, one); few = ih.few }))
    ]

-- ---- trees as nodes have them

pub children_of-trees : {A : Type 0} (leaf : A → Child) (ts : List (Tree A)) → children_of leaf (trees ts) ≡ map (child_of leaf) ts
children_of-trees leaf [] = refl
children_of-trees leaf (t ∷ ts) = ap (λ (cs : List Child). child_of leaf t ∷ cs) (children_of-trees leaf ts)

pub nodes_below-trees : {A : Type 0} (leaf : A → Child) (ts : List (Tree A)) → nodes_below leaf (trees ts) ≡ flat_map (nodes_of leaf) ts
nodes_below-trees leaf [] = refl
nodes_below-trees leaf (t ∷ ts) = ap (λ (ns : List Contents). nodes_of leaf t ++ ns) (nodes_below-trees leaf ts) ∙ sym (flat_map-cons (nodes_of leaf) t ts)

-- what a node over trees says
abbrev pub said : {A : Type 0} → (A → Child) → ℕ → List (Tree A) → Contents
said leaf level ts = record { level = level; children = map (child_of leaf) ts }

pub child_of-joined : {A : Type 0} (leaf : A → Child) (level : ℕ) (ts : List (Tree A)) → child_of leaf (joined level ts) ≡ parent (said leaf level ts)
child_of-joined leaf level ts = ap (λ (cs : List Child). parent (record { level = level; children = cs })) (children_of-trees leaf ts)

pub nodes_of-joined : {A : Type 0} (leaf : A → Child) (level : ℕ) (ts : List (Tree A)) → nodes_of leaf (joined level ts) ≡ flat_map (nodes_of leaf) ts ++ said leaf level ts ∷ []
nodes_of-joined leaf level ts =
    ap (λ (cs : List Child). nodes_below leaf (trees ts) ++ record { level = level; children = cs } ∷ []) (children_of-trees leaf ts)
    ∙ ap (λ (ns : List Contents). ns ++ said leaf level ts ∷ []) (nodes_below-trees leaf ts)

-- ---- one more tree

-- rows of trees, as their parents will have them
abbrev pub child_rows : {A : Type 0} → (A → Child) → List (List (Tree A)) → List (List Child)
child_rows leaf rows = map (map (child_of leaf)) rows

-- Rows of trees are others after one more was placed in the first of them.
pub record IsPushed {A : Type 0} (leaf : A → Child) (level : ℕ) (before after : List (List (Tree A))) (t : Tree A) : Type 0 where
  pub rows : (place level (child_of leaf t) (child_rows leaf before)).rows ≡ child_rows leaf after
  pub nodes : nodes_in_rows leaf before ++ (nodes_of leaf t ++ (place level (child_of leaf t) (child_rows leaf before)).nodes) ≡ nodes_in_rows leaf after

-- a group is whole
regroup_full : (n f t a : List Contents) (x : Contents) → (n ++ f) ++ (t ++ (x ∷ a)) ≡ (n ++ (((f ++ t) ++ x ∷ []) ++ a)) ++ []
regroup_full n f t a x = simp (append_assoc, append-nil)

flat_one : {A : Type 0} (leaf : A → Child) (ts : List (Tree A)) (t : Tree A) → flat_map (nodes_of leaf) (ts ++ t ∷ []) ≡ flat_map (nodes_of leaf) ts ++ nodes_of leaf t
flat_one leaf ts t = flat_map-append (nodes_of leaf) ts (t ∷ [])
    ∙ ap (λ (ns : List Contents). flat_map (nodes_of leaf) ts ++ ns) (flat_map-cons (nodes_of leaf) t [] ∙ append-nil (nodes_of leaf t))

pub length-children : {A : Type 0} (leaf : A → Child) (ts : List (Tree A)) → length (map (child_of leaf) ts) ≡ length ts
length-children leaf [] = refl
length-children leaf (t ∷ ts) = ap suc (length-children leaf ts)

pub length-joined : {A : Type 0} (level : ℕ) (groups : List (List (Tree A))) → length (map (joined level) groups) ≡ length groups
length-joined level [] = refl
length-joined level (g ∷ groups) = ap suc (length-joined level groups)

-- the first row has room
push_here : {A : Type 0} (leaf : A → Child) (level : ℕ) (r : List (Tree A)) (rows : List (List (Tree A))) (t : Tree A) → length r + 1 < MOST_CHILDREN
    → IsPushed leaf level (r ∷ rows) ((r ++ t ∷ []) ∷ rows) t
push_here leaf level r rows t few =
    let len = length-children leaf r in
    let placed = place_here level (child_of leaf t) (map (child_of leaf) r) (child_rows leaf rows) (omega (arith, len)) in
    record {
      rows = ap (λ (p : Placed). p.rows) placed ∙ ap (λ (row : List Child). row ∷ child_rows leaf rows) (sym (map-append (child_of leaf) r (t ∷ [])));
      nodes = ap (λ (p : Placed). nodes_in_rows leaf (r ∷ rows) ++ (nodes_of leaf t ++ p.nodes)) placed
          ∙ rw (flat_one leaf r t, append-nil) (append_assoc (nodes_in_rows leaf rows) (flat_map (nodes_of leaf) r) (nodes_of leaf t));
    }

-- the first row becomes a tree of the next
push_up : {A : Type 0} (leaf : A → Child) (level : ℕ) (r : List (Tree A)) (rows rows' : List (List (Tree A))) (t : Tree A) → length r + 1 ≡ MOST_CHILDREN
    → IsPushed leaf (level + 1) rows rows' (joined (level + 1) (r ++ t ∷ [])) → IsPushed leaf level (r ∷ rows) ([] ∷ rows') t
push_up leaf level r rows rows' t full up =
    let len = length-children leaf r in
    let group : List (Tree _) = r ++ t ∷ [] in
    let here = place_next level (child_of leaf t) (map (child_of leaf) r) (child_rows leaf rows) (omega (arith, len)) in
    let node : said leaf (level + 1) group ≡ node_over level (map (child_of leaf) r) (child_of leaf t) = ap (λ (cs : List Child). record { level = level + 1; children = cs })
    (map-append (child_of leaf) r (t ∷ [])) in
    let child : child_of leaf (joined (level + 1) group) ≡ parent (node_over level (map (child_of leaf) r) (child_of leaf t)) = child_of-joined leaf (level + 1) group
    ∙ ap parent node in
    let above = place (level + 1) (parent (node_over level (map (child_of leaf) r) (child_of leaf t))) (child_rows leaf rows) in
    let rows_up : above.rows ≡ child_rows leaf rows' = rw (← child) up.rows in
    let nodes_up : nodes_in_rows leaf rows ++ (((flat_map (nodes_of leaf) r ++ nodes_of leaf t) ++ node_over level (map (child_of leaf) r) (child_of leaf t) ∷ []) ++ above.nodes)
    ≡ nodes_in_rows leaf rows' =
    rw (← child, ← node, ← flat_one leaf r t, ← nodes_of-joined leaf (level + 1) group) up.nodes in
    record {
      rows = ap (λ (p : Placed). p.rows) here ∙ ap (λ (rs : List (List Child)). [] ∷ rs) rows_up;
      nodes = ap (λ (p : Placed). nodes_in_rows leaf (r ∷ rows) ++ (nodes_of leaf t ++ p.nodes)) here
          ∙ regroup_full (nodes_in_rows leaf rows) (flat_map (nodes_of leaf) r) (nodes_of leaf t) above.nodes (node_over level (map (child_of leaf) r) (child_of leaf t))
          ∙ ap (λ (ns : List Contents). ns ++ []) nodes_up;
    }

pub push_law : {A : Type 0} (leaf : A → Child) (levels level : ℕ) (ts : List (Tree A)) (t : Tree A) → length ts + 1 < MOST_CHILDREN ^ levels
    → IsPushed leaf level (open_trees ByCount leaf levels level ts) (open_trees ByCount leaf levels level (ts ++ t ∷ [])) t
unfolding open_trees
push_law leaf zero level ts t room = absurd (omega arith)
push_law leaf (suc levels) level ts t room =
    let r : List (Tree _) = rest ByCount (child_of leaf) ts in
    let above : List (Tree _) = map (joined (level + 1)) (whole ByCount (child_of leaf) ts) in
    let rows : List (List (Tree _)) = open_trees ByCount leaf levels (level + 1) above in
    let count = counted (child_of leaf) [] ts (omega arith) in
    elim (cases_Bool (is_whole ByCount (child_of leaf) (r ++ t ∷ []))) [
      | inl full ↦
          (let groups = whole_push ByCount (child_of leaf) [] ts t full in
          let is : length r + 1 ≡ MOST_CHILDREN = omega (arith, length-append r (t ∷ []), eqb-true _ _ full) in
          let up : Tree _ = joined (level + 1) (r ++ t ∷ []) in
          let ih = push_law leaf levels (level + 1) above up
          (omega (arith, room, count.sum, pow-suc MOST_CHILDREN levels, length-joined (level + 1) (whole ByCount (child_of leaf) ts), is)) in
          let later : [] ∷ open_trees ByCount leaf levels (level + 1) (above ++ up ∷ []) ≡ open_trees ByCount leaf (suc levels) level (ts ++ t ∷ []) =
          rw (groups.0, groups.1, map-append) refl in
          subst (λ (after : List (List (Tree _))). IsPushed leaf level (r ∷ rows) after t) later
          (push_up leaf level r rows (open_trees ByCount leaf levels (level + 1) (above ++ up ∷ [])) t is ih))
      | inr few ↦
          (let groups = rest_push ByCount (child_of leaf) [] ts t few in
          let isnt : length r + 1 ≡ MOST_CHILDREN → ⊥ = λ e. eqb-false _ _ few (length-append r (t ∷ []) ∙ e) in
          let later : (r ++ t ∷ []) ∷ rows ≡ open_trees ByCount leaf (suc levels) level (ts ++ t ∷ []) = rw (groups.0, groups.1) refl in
          subst (λ (after : List (List (Tree _))). IsPushed leaf level (r ∷ rows) after t) later (push_here leaf level r rows t (omega (arith, isnt, count.few))))
    ]
