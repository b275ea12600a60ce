-- Placing a child in rows: what is kept, and one row after the other.
use Rattle.merkle_file.proofs.Prelude.{◌≡◌, ℕ, zero, suc, ◌+◌, ◌*◌, ◌<◌, ◌≤◌, List, [], ◌∷◌, ◌++◌, length, get_or, take, drop, set, refl, sym, ap, subst, ◌∙◌, append_assoc, arith, pow-suc, Vec, AllByRecursion, to_be_bytes, eq-eqb, ne_eqb, length-append, append-nil, drop_more, replicate_more, take-append-drop, length-take-le, drop_at, drop-map, map-append, sum_by-append, Child, MOST_CHILDREN, MOST_FILE, Contents, total, IsChild, parent, Placed, CanPlace, items_of}
use Rattle.std.proofs.Common.{add-one}
use Rattle.std.specs.Prelude.{replicate}
use Rattle.std.specs.Int.{w32}
use Rattle.std.proofs.lemmas.List.{set_split, map-set, get_or-map}
use Rattle.sha2.specs.Sha256.{sha256, digest_bytes}
use Rattle.merkle_file.specs.Node.{spelling}
use Rattle.merkle_file.specs.Building.{count_of, total_of}
use Rattle.merkle_file.specs.Steps.{place}
use Rattle.merkle_file.specs.Rows.{CanTake, IsPlacement, IsSettled}

length-digest_bytes : (h : List ℕ) (n : ℕ) → length (digest_bytes h n) ≡ 4 * n
unfolding digest_bytes
length-digest_bytes h zero = refl
length-digest_bytes h (suc n) = omega (arith, length-append (digest_bytes h n) (to_be_bytes w32 (get_or h n 0)), length-digest_bytes h n)

pub length-sha256 : (m : List ℕ) → length (sha256 m) ≡ 32
unfolding sha256
length-sha256 m = length-digest_bytes _ 8

pub all_push : {X : Type 0} (P : X → Type 0) (xs : List X) (x : X) → AllByRecursion P xs → P x → AllByRecursion P (xs ++ x ∷ [])
all_push P [] x all p = (p, tt)
all_push P (y ∷ ys) x all p = (all.0, all_push P ys x all.1 p)

pub total_push : (row : List Child) (c : Child) → total (row ++ c ∷ []) ≡ total row + c.length
total_push row c = omega (arith, sum_by-append (λ (d : Child). d.length) row (c ∷ []))

pub can_take : (level : ℕ) (c : Child) (row : List Child) (rows : List (List Child)) → CanPlace level c (row ∷ rows) → CanTake level row c
unfolding total_of
can_take level c row rows h = record {
  low = omega (arith, h.levels);
  few = h.right.0;
  each = h.right.1;
  child = h.child;
  total = omega (arith, h.total);
}

-- the node that a row becomes
abbrev pub node_over : ℕ → List Child → Child → Contents
node_over level row c = record { level = level + 1; children = row ++ c ∷ [] }

pub parent_is_child : (level : ℕ) (row : List Child) (c : Child) → 1 ≤ c.length → total row + c.length ≤ MOST_FILE → IsChild (level + 1 + 1) (parent (node_over level row c))
parent_is_child level row c some most = record {
  digest = length-sha256 (spelling (node_over level row c));
  some = omega (arith, total_push row c, some);
  most = rw (ne_eqb (level + 1 + 1) 1 (λ e. omega (arith, e))) (omega (arith, total_push row c, most));
}

pub can_next : (level : ℕ) (c : Child) (row : List Child) (rows : List (List Child)) → length row + 1 ≡ MOST_CHILDREN → CanPlace level c (row ∷ rows) →
    CanPlace (level + 1) (parent (node_over level row c)) rows
unfolding total_of count_of
can_next level c row rows full h = record {
  levels = omega (arith, h.levels);
  right = h.right.2;
  child = parent_is_child level row c h.child.some (omega (arith, h.total));
  room = omega (arith, h.room, pow-suc MOST_CHILDREN (length rows), full);
  total = omega (arith, h.total, total_push row c);
}

pub can_not : (level : ℕ) (c : Child) → CanPlace level c [] → ⊥
unfolding count_of
can_not level c h = omega (arith, h.room)

pub place_next : (level : ℕ) (c : Child) (row : List Child) (rows : List (List Child)) → length row + 1 ≡ MOST_CHILDREN
    → place level c (row ∷ rows) ≡ record {
      rows = [] ∷ (place (level + 1) (parent (node_over level row c)) rows).rows;
      nodes =
          node_over level row c ∷ (place (level + 1) (parent (node_over level row c)) rows).nodes;
    }
unfolding place
place_next level c row rows full = rw (eq-eqb (length row + 1) MOST_CHILDREN full) refl

pub place_here : (level : ℕ) (c : Child) (row : List Child) (rows : List (List Child)) → length row + 1 < MOST_CHILDREN
    → place level c (row ∷ rows) ≡ record { rows = (row ++ c ∷ []) ∷ rows; nodes = [] }
unfolding place
place_here level c row rows few = rw (ne_eqb (length row + 1) MOST_CHILDREN (λ e. omega (arith, e))) refl

-- ---- one row after the other, in a loop

pub items-set : (rows : List (Vec Child)) (i : ℕ) (v : Vec Child) → items_of (set rows i v) ≡ set (items_of rows) i v.items
items-set rows i v = map-set (λ (row : Vec Child). row.items) rows i v

pub length-items : (rows : List (Vec Child)) → length (items_of rows) ≡ length rows
length-items [] = refl
length-items (row ∷ rows) = ap suc (length-items rows)

pub front_of : (rows : List (Vec Child)) (i : ℕ) (d : Vec Child) → i < length rows → drop i (items_of rows) ≡ (get_or rows i d).items ∷ drop (i + 1) (items_of rows)
front_of rows i d lt =
    drop_more (items_of rows) i d.items (omega (arith, length-items rows))
    ∙ ap (λ (row : List Child). row ∷ drop (i + 1) (items_of rows)) (get_or-map (λ (row : Vec Child). row.items) rows i d d.items lt)

-- what a loop keeps, which has come up to the row at i
pub record IsOnWay (i : ℕ) (c : Child) (rows : List (List Child)) (nodes : List Contents) (placed : Placed) : Type 0 where
  pub can : CanPlace i c (drop i rows)
  pub rows_too : replicate i [] ++ (place i c (drop i rows)).rows ≡ placed.rows
  pub nodes_too : nodes ++ (place i c (drop i rows)).nodes ≡ placed.nodes

pub way_begins : (c : Child) (rows : List (List Child)) → CanPlace 0 c rows → IsOnWay 0 c rows [] (place 0 c rows)
way_begins c rows can = record { can = can; rows_too = refl; nodes_too = refl }

first_is : {X : Type 0} {x y : X} {xs : List X} → x ∷ xs ≡ y ∷ xs → x ≡ y
first_is e = cc

-- the row at i has room
pub way_ends : (leaf : Child) (i : ℕ) (c : Child) (rows : List (List Child)) (nodes : List Contents) (row : List Child)
    → IsOnWay i c rows nodes (place 0 leaf rows) → i < length rows → drop i rows ≡ row ∷ drop (i + 1) rows → length row + 1 < MOST_CHILDREN
    → IsPlacement leaf rows i c nodes
way_ends leaf i c rows nodes row h lt front few =
    let placed : place i c (drop i rows) ≡ record { rows = (row ++ c ∷ []) ∷ drop (i + 1) rows; nodes = [] } = ap (place i c) front ∙ place_here i c row (drop (i + 1) rows) few in
    record {
      within = lt;
      rows_then = λ other front'.
          sym h.rows_too ∙ ap (λ (p : Placed). replicate i [] ++ p.rows) placed
          ∙ ap (λ (r : List Child). replicate i [] ++ (r ++ c ∷ []) ∷ drop (i + 1) rows) (first_is (sym front ∙ front'));
      nodes_then = sym (append-nil nodes) ∙ sym (ap (λ (p : Placed). nodes ++ p.nodes) placed) ∙ h.nodes_too;
    }

-- the row at i becomes a node
pub way_goes_on : (i : ℕ) (c : Child) (rows : List (List Child)) (nodes : List Contents) (all : Placed) (row : List Child)
    → IsOnWay i c rows nodes all → drop i rows ≡ row ∷ drop (i + 1) rows → length row + 1 ≡ MOST_CHILDREN
    → IsOnWay (i + 1) (parent (node_over i row c)) rows (nodes ++ node_over i row c ∷ []) all
way_goes_on i c rows nodes all row h front full =
    let node : Contents = node_over i row c in
    let placed = ap (place i c) front ∙ place_next i c row (drop (i + 1) rows) full in
    record {
      can = can_next i c row (drop (i + 1) rows) full (subst (λ (rs : List (List Child)). CanPlace i c rs) front h.can);
      rows_too = ap (λ (rs : List (List Child)). rs ++ (place (i + 1) (parent node) (drop (i + 1) rows)).rows) (sym (replicate_more i []))
          ∙ append_assoc (replicate i []) ([] ∷ []) (place (i + 1) (parent node) (drop (i + 1) rows)).rows
          ∙ sym (ap (λ (p : Placed). replicate i [] ++ p.rows) placed) ∙ h.rows_too;
      nodes_too = append_assoc nodes (node ∷ []) (place (i + 1) (parent node) (drop (i + 1) rows)).nodes
          ∙ sym (ap (λ (p : Placed). nodes ++ p.nodes) placed) ∙ h.nodes_too;
    }

-- ---- the row gets its child

-- a row that was not changed
pub set_same : (rows : List (Vec Child)) (i : ℕ) (v d : Vec Child) → i < length rows → v.items ≡ (get_or rows i d).items → items_of (set rows i v) ≡ items_of rows
set_same rows i v d lt same =
    items-set rows i v ∙ ap (set (items_of rows) i) same
    ∙ set_split (items_of rows) i (get_or rows i d).items (omega (arith, length-items rows))
    ∙ rw (← add-one) (ap (λ (rs : List (List Child)). take i (items_of rows) ++ rs) (sym (front_of rows i d lt)) ∙ take-append-drop i (items_of rows))

-- a child more in the row at i, and none in those below
pub settled : (rows : List (Vec Child)) (i : ℕ) (v d : Vec Child) (c : Child) (below : List (Vec Child)) → i < length rows → v.items ≡ (get_or rows i d).items ++ c ∷ []
    → items_of below ≡ replicate i [] → IsSettled i c (items_of rows) (items_of (below ++ drop i (set rows i v)))
settled rows i v d c below lt more empty row front =
    let before : List (List Child) = items_of rows in
    let inside : i < length before = omega (arith, length-items rows) in
    let next : suc i ≡ i + 1 = omega arith in
    let row_is : (get_or rows i d).items ≡ row = first_is (sym (front_of rows i d lt) ∙ front) in
    let same : v.items ≡ row ++ c ∷ [] = more ∙ ap (λ (r : List Child). r ++ c ∷ []) row_is in
    let from : drop i (items_of (set rows i v)) ≡ (row ++ c ∷ []) ∷ drop (i + 1) before =
    ap (drop i) (items-set rows i v ∙ set_split before i v.items inside)
    ∙ drop_at (take i before) (v.items ∷ drop (suc i) before) i (length-take-le i before (omega (arith, inside)))
    ∙ ap (λ (r : List Child). r ∷ drop (suc i) before) same
    ∙ ap (λ (k : ℕ). (row ++ c ∷ []) ∷ drop k before) next in
    map-append (λ (r : Vec Child). r.items) below (drop i (set rows i v))
    ∙ ap (λ (rs : List (List Child)). rs ++ items_of (drop i (set rows i v))) empty
    ∙ ap (λ (rs : List (List Child)). replicate i [] ++ rs) (sym (drop-map (λ (r : Vec Child). r.items) i (set rows i v)) ∙ from)

-- what was settled is one
pub one_settled : (level : ℕ) (c : Child) (rows new other : List (List Child)) → level < length rows → IsSettled level c rows new → IsSettled level c rows other → new ≡ other
one_settled level c rows new other lt a b =
    let front : drop level rows ≡ get_or rows level [] ∷ drop (level + 1) rows = drop_more rows level [] lt in
    a (get_or rows level []) front ∙ sym (b (get_or rows level []) front)

-- the row at i, as it is read
pub row_at : (rows : List (Vec Child)) (i : ℕ) (v : Vec Child) (row : List Child) → i < length rows → v ≡ get_or rows i v → row ≡ v.items
    → drop i (items_of rows) ≡ row ∷ drop (i + 1) (items_of rows)
row_at rows i v row lt is read =
    front_of rows i v lt
    ∙ ap (λ (r : List Child). r ∷ drop (i + 1) (items_of rows)) (ap (λ (w : Vec Child). w.items) (sym is) ∙ sym read)
