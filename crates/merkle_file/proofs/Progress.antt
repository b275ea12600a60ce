-- What a builder keeps, from call to call.
use Rattle.merkle_file.proofs.Prelude.{◌≡◌, ℕ, zero, suc, ◌+◌, List, [], ◌∷◌, ◌++◌, length, map, take, drop, refl, sym, ap, ◌∙◌, append_assoc, arith, inl, inr, cases_lt, Vec, append-nil, map-append, take_at, Child, MOST_CHILDREN, MOST_LEVEL, ByCount, Contents, IsChild, Leaf, nodes_of, root_of, itself, tree_of, Progress, Holds, MayPush, open_over, nodes_in_rows, CanPlace, items_of}
use Rattle.std.proofs.Common.{replicate}
use Rattle.merkle_file.specs.Tree.{tree_over}
use Rattle.merkle_file.specs.Building.{IsProgress, open_trees, count_of, total_of, AreRows, whole_from, rest_from}
use Rattle.merkle_file.specs.Steps.{place, close}
use Rattle.merkle_file.proofs.Placing.{can_next, can_not, place_next, place_here, all_push, total_push}
use Rattle.merkle_file.proofs.Pushing.{child_rows, push_law}
use Rattle.merkle_file.proofs.Finishing.{AtLevel, empty_where_none, finish_law}

abbrev progress : List (List Child) → List Contents → ℕ → Progress
progress rows finished leaves = record { rows = rows; finished = finished; leaves = leaves }

-- ---- nothing

fresh_rows : (levels level : ℕ) → child_rows itself (open_trees ByCount itself levels level []) ≡ replicate levels []
unfolding open_trees whole_from rest_from
fresh_rows zero level = refl
fresh_rows (suc levels) level = ap (λ (rows : List (List Child)). [] ∷ rows) (fresh_rows levels (level + 1))

fresh_counts : (levels level : ℕ) → (count_of (replicate levels []) ≡ 0) × (total_of (replicate levels []) ≡ 0) × AreRows ByCount level (replicate levels [])
    × (length (replicate {A = List Child} levels []) ≡ levels)
unfolding count_of total_of
fresh_counts zero level = (refl, refl, tt, refl)
fresh_counts (suc levels) level =
    let h = fresh_counts levels (level + 1) in
    (omega (arith, h.0), omega (arith, h.1), (omega arith, tt, h.2), ap suc h.3)

pub fresh_progress : (rows : List (List Child)) (finished : List Contents) → rows ≡ replicate MOST_LEVEL [] → IsProgress (progress rows finished 0)
fresh_progress rows finished e =
    let h = fresh_counts MOST_LEVEL 0 in
    rw e (record { levels = h.3; rows = h.2; counted = h.0; count = omega arith; total = omega (arith, h.1) })

pub fresh_holds : (rows : List (List Child)) (finished : List Contents) → rows ≡ replicate MOST_LEVEL [] → finished ≡ [] → Holds (progress rows finished 0) [] []
fresh_holds rows finished e none =
    let h = fresh_counts MOST_LEVEL 0 in
    record {
      rows = e ∙ sym (fresh_rows MOST_LEVEL 0);
      nodes = none ∙ sym (empty_where_none itself MOST_LEVEL 0).1;
      count = refl;
      length = ap total_of e ∙ h.1;
    }

-- rows that were cleared, where they are part of a vector
pub cleared : (n : ℕ) (rows before : List (Vec Child)) (other : List (Vec Child)) → length rows ≡ n → items_of rows ≡ replicate (length before) [] → length before ≡ MOST_LEVEL
    → items_of (take n (rows ++ drop (length rows) other)) ≡ replicate MOST_LEVEL []
cleared n rows before other len empty six = ap items_of (take_at rows (drop (length rows) other) n len) ∙ empty ∙ ap (λ (k : ℕ). replicate k []) six

-- ---- one more

pub record IsPlaced (level : ℕ) (c : Child) (rows placed : List (List Child)) : Type 0 where
  pub right : AreRows ByCount level placed
  pub levels : length placed ≡ length rows
  pub count : count_of placed ≡ count_of rows + 1
  pub total_is : total_of placed ≡ total_of rows + c.length

pub placed_right : (level : ℕ) (c : Child) (rows : List (List Child)) → CanPlace level c rows → IsPlaced level c rows (place level c rows).rows
unfolding count_of total_of
placed_right level c [] h = absurd (can_not level c h)
placed_right level c (row ∷ rows) h =
    elim (cases_lt (length row + 1) MOST_CHILDREN) [
      | inl few ↦
          (let here = place_here level c row rows few in
          rw here (record {
            right = (omega (arith, length_one row c), all_push (IsChild (level + 1)) row c h.right.1 h.child, h.right.2);
            levels = refl;
            count = omega (arith, length_one row c);
            total_is = omega (arith, total_push row c);
          }))
      | inr many ↦
          (let full : length row + 1 ≡ MOST_CHILDREN = omega (arith, h.right.0) in
          let next = place_next level c row rows full in
          let above = placed_right (level + 1) _ rows (can_next level c row rows full h) in
          rw next (record {
            right = (omega arith, tt, above.right);
            levels = ap suc above.levels;
            count = omega (arith, above.count, full);
            total_is = omega (arith, above.total_is, total_push row c);
          }))
    ]
  where
    length_one : (xs : List Child) (x : Child) → length (xs ++ x ∷ []) ≡ length xs + 1
    length_one [] x = refl
    length_one (y ∷ ys) x = omega (arith, length_one ys x)

pub may_place : (rows : List (List Child)) (finished : List Contents) (leaves : ℕ) (c : Child) → IsProgress (progress rows finished leaves) →
    MayPush (progress rows finished leaves) c → length c.digest ≡ 32
    → CanPlace 0 c rows
may_place rows finished leaves c h may digest = record {
  levels = omega (arith, h.levels);
  right = h.rows;
  child = record { digest = digest; some = may.some; most = may.most };
  room = rw h.levels (omega (arith, h.counted, may.count));
  total = may.total;
}

pub pushed_progress : (rows rows' : List (List Child)) (finished finished' : List Contents) (leaves : ℕ) (c : Child) → IsProgress (progress rows finished leaves) →
    MayPush (progress rows finished leaves) c
    → length c.digest ≡ 32 → rows' ≡ (place 0 c rows).rows → IsProgress (progress rows' finished' (leaves + 1))
pushed_progress rows rows' finished finished' leaves c h may digest e =
    let placed = placed_right 0 c rows (may_place rows finished leaves c h may digest) in
    rw e (record {
      levels = placed.levels ∙ h.levels;
      rows = placed.right;
      counted = omega (arith, placed.count, h.counted);
      count = omega (arith, may.count);
      total = omega (arith, placed.total_is, may.total);
    })

pub pushed_total : (rows rows' : List (List Child)) (finished : List Contents) (leaves : ℕ) (c : Child) → IsProgress (progress rows finished leaves) →
    MayPush (progress rows finished leaves) c → length c.digest ≡ 32
    → rows' ≡ (place 0 c rows).rows → total_of rows' ≡ total_of rows + c.length
pushed_total rows rows' finished leaves c h may digest e = rw e (placed_right 0 c rows (may_place rows finished leaves c h may digest)).total_is

length-leaves : (pushed : List Child) → length (map Leaf pushed) ≡ length pushed
length-leaves [] = refl
length-leaves (c ∷ cs) = ap suc (length-leaves cs)

pub pushed_holds : (rows rows' : List (List Child)) (finished finished' : List Contents) (leaves : ℕ) (c : Child) (pushed : List Child) (taken : List Contents)
    → IsProgress (progress rows finished leaves) → MayPush (progress rows finished leaves) c → length c.digest ≡ 32
    → rows' ≡ (place 0 c rows).rows → finished' ≡ finished ++ (place 0 c rows).nodes
    → Holds (progress rows finished leaves) pushed taken → Holds (progress rows' finished' (leaves + 1)) (pushed ++ c ∷ []) taken
pushed_holds rows rows' finished finished' leaves c pushed taken h may digest e f holds =
    let placed = placed_right 0 c rows (may_place rows finished leaves c h may digest) in
    let law = push_law itself MOST_LEVEL 0 (map Leaf pushed) (Leaf c) (omega (arith, length-leaves pushed, holds.count, may.count)) in
    let later : open_trees ByCount itself MOST_LEVEL 0 (map Leaf pushed ++ Leaf c ∷ []) ≡ open_over ByCount (pushed ++ c ∷ []) =
    ap (open_trees ByCount itself MOST_LEVEL 0) (sym (map-append Leaf pushed (c ∷ []))) in
    record {
      rows = e ∙ ap (λ (rs : List (List Child)). (place 0 c rs).rows) holds.rows ∙ law.rows ∙ ap (child_rows itself) later;
      nodes = ap (λ (ns : List Contents). taken ++ ns) f ∙ sym (append_assoc taken finished (place 0 c rows).nodes)
          ∙ ap (λ (ns : List Contents). ns ++ (place 0 c rows).nodes) holds.nodes
          ∙ ap (λ (rs : List (List Child)). nodes_in_rows itself (open_over ByCount pushed) ++ (place 0 c rs).nodes) holds.rows
          ∙ law.nodes ∙ ap (nodes_in_rows itself) later;
      count = omega (arith, holds.count, length_more pushed);
      length = ap total_of e ∙ omega (arith, placed.total_is, holds.length, total_push pushed c);
    }
  where
    length_more : (xs : List Child) → length (xs ++ c ∷ []) ≡ length xs + 1
    length_more [] = refl
    length_more (y ∷ ys) = omega (arith, length_more ys)

-- ---- the end

at_leaves : (pushed : List Child) → AtLevel 0 (map Leaf pushed)
at_leaves [] = tt
at_leaves (c ∷ cs) = (refl, at_leaves cs)

pub finished_holds : (rows : List (List Child)) (finished : List Contents) (leaves : ℕ) (pushed : List Child) (taken : List Contents) → IsProgress (progress rows finished leaves)
    → Holds (progress rows finished leaves) pushed taken
    → ((close 0 [] rows).top ≡ root_of itself (tree_of ByCount itself pushed)) × (taken ++ (finished ++ (close 0 [] rows).nodes) ≡ nodes_of itself (tree_of ByCount itself pushed))
finished_holds rows finished leaves pushed taken h holds =
    let law = finish_law itself MOST_LEVEL 0 (map Leaf pushed) [] (omega arith) (omega arith) (at_leaves pushed) tt (omega (arith, length-leaves pushed, holds.count, h.count)) in
    let same : tree_over ByCount itself MOST_LEVEL 0 (map Leaf pushed ++ []) ≡ tree_of ByCount itself pushed =
    ap (tree_over ByCount itself MOST_LEVEL 0) (append-nil (map Leaf pushed)) in (
      ap (λ (rs : List (List Child)). (close 0 [] rs).top) holds.rows ∙ law.top ∙ ap (root_of itself) same,
      sym (append_assoc taken finished (close 0 [] rows).nodes)
          ∙ ap (λ (ns : List Contents). ns ++ (close 0 [] rows).nodes) holds.nodes
          ∙ ap (λ (rs : List (List Child)). nodes_in_rows itself (open_over ByCount pushed) ++ (close 0 [] rs).nodes) holds.rows
          ∙ law.nodes ∙ ap (nodes_of itself) same,
    )
