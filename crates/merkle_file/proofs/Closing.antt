-- Closing rows: what is kept, and one row after the other.
use Rattle.merkle_file.proofs.Prelude.{◌≡◌, ℕ, zero, suc, ◌+◌, ◌*◌, ◌^◌, ◌<◌, ◌≤◌, Bool, true, false, eqb, List, [], ◌∷◌, ◌++◌, length, get_or, take, drop, set, refl, sym, ap, subst, ◌∙◌, append_assoc, arith, ◌&&◌, pow-suc, nat_le, ◌==◌, option_to_list, Vec, AllByRecursion, eq-eqb, ne_eqb, and_parts, leb-true, leb-false, le-leb, length-append, append-nil, drop-map, replicate_more, sum_by-append, Child, Top, MOST_CHILDREN, Contents, total, IsChild, parent, are_empty, top_of, Closed, CanClose, AreNode, items_of}
use Rattle.std.specs.Prelude.{replicate, Option, Some, None, MatchOption}
use Rattle.std.specs.List.{list_all}
use Rattle.std.proofs.lemmas.List.{take_more_set}
use Rattle.merkle_file.specs.Node.{spelling}
use Rattle.merkle_file.specs.Building.{count_of, total_of}
use Rattle.merkle_file.specs.Steps.{close}
use Rattle.merkle_file.proofs.Placing.{length-sha256, items-set, length-items, front_of}

all_append : {X : Type 0} (P : X → Type 0) (xs ys : List X) → AllByRecursion P xs → AllByRecursion P ys → AllByRecursion P (xs ++ ys)
all_append P [] ys a b = b
all_append P (x ∷ xs) ys a b = (a.0, all_append P xs ys a.1 b)

total-append : (xs ys : List Child) → total (xs ++ ys) ≡ total xs + total ys
total-append xs ys = sum_by-append (λ (d : Child). d.length) xs ys

-- a list of children that isn't empty has bytes below it
some_total : (level : ℕ) (cs : List Child) → 1 ≤ length cs → AllByRecursion (IsChild level) cs → 1 ≤ total cs
some_total level [] some all = absurd (omega arith)
some_total level (c ∷ cs) some all = omega (arith, all.0.some, total-append (c ∷ []) cs)

abbrev pub node_of : ℕ → List Child → Contents
node_of level children = record { level = level + 1; children = children }

pub are_node : (level : ℕ) (carried : List Child) (row : List Child) (rows : List (List Child)) → CanClose level carried (row ∷ rows) → AreNode (level + 1) (row ++ carried)
unfolding total_of
are_node level carried row rows h = λ some. record {
  above = omega arith;
  level = omega (arith, h.levels);
  some = some;
  most = omega (arith, h.right.0, h.one, length-append row carried);
  each = all_append (IsChild (level + 1)) row carried h.right.1 h.each;
  total = omega (arith, h.total, total-append row carried);
}

-- whether there is a row above, where this one is not the last
some_above : (level : ℕ) (carried : List Child) (row : List Child) (rows : List (List Child)) → CanClose level carried (row ∷ rows)
    → (are_empty rows && nat_le (length (row ++ carried)) 1) ≡ false → 0 < length rows
unfolding count_of
some_above level carried row (above ∷ rows) h e = omega arith
some_above level carried row [] h e = absurd (omega (arith, leb-false (length (row ++ carried)) 1 e, h.room, length-append row carried))

pub close_last : (level : ℕ) (carried row : List Child) (rows : List (List Child)) → are_empty rows ≡ true → length (row ++ carried) ≤ 1
    → close level carried (row ∷ rows) ≡ record { top = top_of level (row ++ carried); nodes = [] }
unfolding close
close_last level carried row rows e le = rw (e, le-leb (length (row ++ carried)) 1 le) refl

pub close_none : (level : ℕ) (carried row : List Child) (rows : List (List Child)) → (are_empty rows && nat_le (length (row ++ carried)) 1) ≡ false → row ++ carried ≡ []
    → close level carried (row ∷ rows) ≡ close (level + 1) [] rows
unfolding close
close_none level carried row rows e none = rw (e, eq-eqb (length (row ++ carried)) 0 (ap length none)) refl

pub close_some : (level : ℕ) (carried row : List Child) (rows : List (List Child)) → (are_empty rows && nat_le (length (row ++ carried)) 1) ≡ false → 1 ≤ length (row ++ carried)
    → close level carried (row ∷ rows) ≡ record {
      top = (close (level + 1) (parent (node_of level (row ++ carried)) ∷ []) rows).top;
      nodes =
          node_of level (row ++ carried) ∷ (close (level + 1) (parent (node_of level (row ++ carried)) ∷ []) rows).nodes;
    }
unfolding close
close_some level carried row rows e some = rw (e, ne_eqb (length (row ++ carried)) 0 (λ z. omega (arith, z))) refl

-- divisible by the greatest number of children
room_above : (n row count carried : ℕ) → 0 < n → MOST_CHILDREN * (row + MOST_CHILDREN * count + carried) ≤ MOST_CHILDREN ^ suc n → 1 ≤ row + carried →
    MOST_CHILDREN * (count + 1) ≤ MOST_CHILDREN ^ n
room_above zero row count carried lt room some = absurd (omega arith)
room_above (suc m) row count carried lt room some = omega (arith, room, pow-suc MOST_CHILDREN (suc m), pow-suc MOST_CHILDREN m)

room_none : (n row count carried : ℕ) → MOST_CHILDREN * (row + MOST_CHILDREN * count + carried) ≤ MOST_CHILDREN ^ suc n → MOST_CHILDREN * count ≤ MOST_CHILDREN ^ n
room_none n row count carried room = omega (arith, room, pow-suc MOST_CHILDREN n)

pub can_close_some : (level : ℕ) (carried row : List Child) (rows : List (List Child)) → CanClose level carried (row ∷ rows) →
    (are_empty rows && nat_le (length (row ++ carried)) 1) ≡ false
    → 1 ≤ length (row ++ carried) → CanClose (level + 1) (parent (node_of level (row ++ carried)) ∷ []) rows
unfolding count_of total_of
can_close_some level carried row rows h e some =
    let above = some_above level carried row rows h e in
    let all = all_append (IsChild (level + 1)) row carried h.right.1 h.each in
    let sum = total-append row carried in
    let bytes = some_total (level + 1) (row ++ carried) some all in
    record {
      levels = omega (arith, h.levels);
      some = above;
      right = h.right.2;
      one = omega arith;
      each = (
        record {
          digest = length-sha256 (spelling (node_of level (row ++ carried)));
          some = bytes;
          most = rw (ne_eqb (level + 1 + 1) 1 (λ z. omega (arith, z))) (omega (arith, sum, h.total));
        },
        tt,
      );
      room = room_above (length rows) (length row) (count_of rows) (length carried) above h.room (omega (arith, some, length-append row carried));
      total = omega (arith, h.total, sum);
    }

pub can_close_none : (level : ℕ) (carried row : List Child) (rows : List (List Child)) → CanClose level carried (row ∷ rows) →
    (are_empty rows && nat_le (length (row ++ carried)) 1) ≡ false
    → row ++ carried ≡ [] → CanClose (level + 1) [] rows
unfolding count_of total_of
can_close_none level carried row rows h e none = record {
  levels = omega (arith, h.levels);
  some = some_above level carried row rows h e;
  right = h.right.2;
  one = omega arith;
  each = tt;
  room = omega (arith, room_none (length rows) (length row) (count_of rows) (length carried) h.room);
  total = omega (arith, h.total);
}

-- what a loop keeps, where it has closed the rows below i
pub record IsClosing (i : ℕ) (carried : List Child) (now : List (List Child)) (nodes : List Contents) (all_top : Top) (all_nodes : List Contents) : Type 0 where
  pub can : CanClose i carried (drop i now)
  pub top : (close i carried (drop i now)).top ≡ all_top
  pub nodes_too : nodes ++ (close i carried (drop i now)).nodes ≡ all_nodes

pub closing_begins : (rows : List (List Child)) → CanClose 0 [] rows → IsClosing 0 [] rows [] (close 0 [] rows).top (close 0 [] rows).nodes
closing_begins rows can = record { can = can; top = refl; nodes_too = refl }

-- the row at i, with what was carried to it, is the last
pub closing_ends : (i : ℕ) (carried : List Child) (now : List (List Child)) (nodes : List Contents) (all_top : Top) (all_nodes : List Contents) (row : List Child)
    → IsClosing i carried now nodes all_top all_nodes → drop i now ≡ row ∷ drop (i + 1) now → are_empty (drop (i + 1) now) ≡ true → length (row ++ carried) ≤ 1
    → (top_of i (row ++ carried) ≡ all_top) × (nodes ≡ all_nodes)
closing_ends i carried now nodes all_top all_nodes row h front last le =
    let closed = ap (close i carried) front ∙ close_last i carried row (drop (i + 1) now) last le in
    (sym (ap (λ (c : Closed). c.top) closed) ∙ h.top, sym (append-nil nodes) ∙ sym (ap (λ (c : Closed). nodes ++ c.nodes) closed) ∙ h.nodes_too)

-- the row at i is empty, and nothing was carried to it
pub closing_skips : (i : ℕ) (carried : List Child) (now : List (List Child)) (nodes : List Contents) (all_top : Top) (all_nodes : List Contents) (row : List Child)
    → IsClosing i carried now nodes all_top all_nodes → drop i now ≡ row ∷ drop (i + 1) now → (are_empty (drop (i + 1) now) && nat_le (length (row ++ carried)) 1) ≡ false →
    row ++ carried ≡ []
    → IsClosing (i + 1) [] now nodes all_top all_nodes
closing_skips i carried now nodes all_top all_nodes row h front last none =
    let closed = ap (close i carried) front ∙ close_none i carried row (drop (i + 1) now) last none in
    record {
      can = can_close_none i carried row (drop (i + 1) now) (subst (λ (rows : List (List Child)). CanClose i carried rows) front h.can) last none;
      top = sym (ap (λ (c : Closed). c.top) closed) ∙ h.top;
      nodes_too = sym (ap (λ (c : Closed). nodes ++ c.nodes) closed) ∙ h.nodes_too;
    }

-- the row at i becomes a node
pub closing_goes_on : (i : ℕ) (carried : List Child) (now : List (List Child)) (nodes : List Contents) (all_top : Top) (all_nodes : List Contents) (row : List Child)
    → IsClosing i carried now nodes all_top all_nodes → drop i now ≡ row ∷ drop (i + 1) now → (are_empty (drop (i + 1) now) && nat_le (length (row ++ carried)) 1) ≡ false →
    1 ≤ length (row ++ carried)
    → IsClosing (i + 1) (parent (node_of i (row ++ carried)) ∷ []) now (nodes ++ node_of i (row ++ carried) ∷ []) all_top all_nodes
closing_goes_on i carried now nodes all_top all_nodes row h front last some =
    let node : Contents = node_of i (row ++ carried) in
    let closed = ap (close i carried) front ∙ close_some i carried row (drop (i + 1) now) last some in
    record {
      can = can_close_some i carried row (drop (i + 1) now) (subst (λ (rows : List (List Child)). CanClose i carried rows) front h.can) last some;
      top = sym (ap (λ (c : Closed). c.top) closed) ∙ h.top;
      nodes_too = append_assoc nodes (node ∷ []) (close (i + 1) (parent node ∷ []) (drop (i + 1) now)).nodes ∙ sym (ap (λ (c : Closed). nodes ++ c.nodes) closed) ∙ h.nodes_too;
    }

-- ---- rows of vectors

pub empty_items : (rows : List (Vec Child)) → list_all (λ row. length row.items == 0) rows ≡ are_empty (items_of rows)
empty_items [] = refl
empty_items (row ∷ rows) = ap (λ (b : Bool). eqb (length row.items) 0 && b) (empty_items rows)

-- the children of the row at i, as they are read, with what was carried to it
pub children_at : (rows : List (Vec Child)) (i : ℕ) (v : Vec Child) (row carried children : List Child) → v ≡ get_or rows i v → row ≡ v.items → children ≡ row ++ carried
    → children ≡ (get_or rows i v).items ++ carried
children_at rows i v row carried children is read all = all ∙ ap (λ (r : List Child). r ++ carried) (read ∙ ap (λ (w : Vec Child). w.items) is)

-- the test for the root, as the loop makes it
abbrev pub test_of : List (Vec Child) → List Child → Bool
test_of above children = list_all (λ row. length row.items == 0) above && nat_le (length children) 1

root_test : (now : List (Vec Child)) (i : ℕ) (above : List (Vec Child)) (children : List Child) → above ≡ drop (i + 1) now
    → test_of above children ≡ (are_empty (drop (i + 1) (items_of now)) && nat_le (length children) 1)
root_test now i above children e =
    ap (λ (rows : List (Vec Child)). test_of rows children) e
    ∙ ap (λ (t : Bool). t && nat_le (length children) 1) (empty_items (drop (i + 1) now))
    ∙ ap (λ (rows : List (List Child)). are_empty rows && nat_le (length children) 1) (sym (drop-map (λ (row : Vec Child). row.items) (i + 1) now))

pub loop_ends : (i : ℕ) (carried : List Child) (now : List (Vec Child)) (d : Vec Child) (above : List (Vec Child)) (children : List Child) (nodes : List Contents) (all_top : Top)
    (all_nodes : List Contents)
    → IsClosing i carried (items_of now) nodes all_top all_nodes → i < length now → children ≡ (get_or now i d).items ++ carried → above ≡ drop (i + 1) now
    → test_of above children ≡ true → (top_of i children ≡ all_top) × (nodes ≡ all_nodes)
loop_ends i carried now d above children nodes all_top all_nodes h lt is above_is test =
    let both = and_parts _ _ (sym (root_test now i above children above_is) ∙ test) in
    let le : length children ≤ 1 = leb-true (length children) 1 both.1 in
    let ends = closing_ends i carried (items_of now) nodes all_top all_nodes (get_or now i d).items h (front_of now i d lt) both.0
    (subst (λ (cs : List Child). length cs ≤ 1) is le) in
    (ap (top_of i) is ∙ ends.0, ends.1)

-- what closing a row of these children gave
abbrev pub GivesCarried : ℕ → List Child → List Contents → List Contents → Option Child → Type 0
GivesCarried i children nodes nodes' next =
    MatchOption next ((children ≡ []) × (nodes' ≡ nodes)) (λ c. (1 ≤ length children) × (c ≡ parent (node_of i children)) × (nodes' ≡ nodes ++ node_of i children ∷ []))

pub loop_goes_on : (i : ℕ) (carried : List Child) (now : List (Vec Child)) (d : Vec Child) (above : List (Vec Child)) (children : List Child) (nodes nodes' : List Contents)
    (all_top : Top) (all_nodes : List Contents) (next : Option Child)
    → IsClosing i carried (items_of now) nodes all_top all_nodes → i < length now → children ≡ (get_or now i d).items ++ carried → above ≡ drop (i + 1) now
    → test_of above children ≡ false → GivesCarried i children nodes nodes' next → IsClosing (i + 1) (option_to_list next) (items_of now) nodes' all_top all_nodes
loop_goes_on i carried now d above children nodes nodes' all_top all_nodes None h lt is above_is test gave =
    let row : List Child = (get_or now i d).items in
    let last : (are_empty (drop (i + 1) (items_of now)) && nat_le (length (row ++ carried)) 1) ≡ false = rw (← is) (sym (root_test now i above children above_is) ∙ test) in
    rw gave.1 (closing_skips i carried (items_of now) nodes all_top all_nodes row h (front_of now i d lt) last (sym is ∙ gave.0))
loop_goes_on i carried now d above children nodes nodes' all_top all_nodes (Some c) h lt is above_is test gave =
    let row : List Child = (get_or now i d).items in
    let last : (are_empty (drop (i + 1) (items_of now)) && nat_le (length (row ++ carried)) 1) ≡ false = rw (← is) (sym (root_test now i above children above_is) ∙ test) in
    let some : 1 ≤ length (row ++ carried) = rw (← is) gave.0 in
    rw (gave.1, gave.2, is) (closing_goes_on i carried (items_of now) nodes all_top all_nodes row h (front_of now i d lt) last some)

pub clear_step : (rows : List (Vec Child)) (i : ℕ) (v : Vec Child) → i < length rows → v.items ≡ [] → take i (items_of rows) ≡ replicate i [] →
    take (i + 1) (items_of (set rows i v)) ≡ replicate (i + 1) []
clear_step rows i v lt none so_far =
    rw (items-set rows i v, none, take_more_set (items_of rows) i [] (omega (arith, length-items rows)), so_far) (replicate_more i [])
