-- A file that is read by its segments is read by the tree of its root: what comes next of the one comes next of the other.
use Rattle.store_machine.proofs.Prelude.{◌≡◌, ℕ, ◌+◌, ◌≤◌, ◌==◌, Bool, true, false, [], ◌∷◌, ◌++◌, length, map, Ok, refl, sym, ◌∙◌, ap, subst, arith, AllByRecursion, MOST_FILE, Top, IsNode, Trees, Empty, leaves, of_segment, start_of, segments_of, Rests, top_of}
use Rattle.std.proofs.Common.{if◌then◌else◌, List, drop}
use Rattle.std.proofs.lemmas.List.{append-nil}
use Rattle.std.proofs.lemmas.Bool.{eqb-true}
use Rattle.std.proofs.lemmas.List.Concat.{flat_map-cons}
use Rattle.merkle_file.specs.Node.{Contents, spelling}
use Rattle.merkle_file.specs.Reading.{contents_in, any_node}
use Rattle.merkle_file.specs.Tree.{Tree, Leaf, Node, NoTree, Then, children_of, root_of}
use Rattle.merkle_file.specs.Walk.{Ahead, IsNamed, IsTree, SpellsNext, contents_of, list_of, opened, segments_in, trees_in}
use Rattle.merkle_file.proofs.Nodes.{node_again}
use Rattle.merkle_file.proofs.Unfolding.{walk_law}
use Rattle.store_model.specs.Trees.{file_tree}
use Rattle.store_model.specs.Trees as store
use Rattle.store_model.proofs.Unfolding.{right_file, leaves_of_file, root_of_tree}
use Rattle.store_machine.specs.Values.{GivesLeaf, IsNodeNext, Opens}

-- ---- what comes first of trees

record Leads (before : List Top) (ts : List (Tree (List ℕ))) : Type 0 where
  segment : List ℕ
  after : List Top
  us : List (Tree (List ℕ))
  gives : GivesLeaf before segment after
  ahead : Ahead after us
  same : segments_in ts ≡ segment ∷ segments_in us

right_any : (n : Contents) → IsNode n → contents_in (spelling n) ≡ n
right_any n right =
    (node_again any_node n (record { lowest = omega arith; greatest = omega arith; most = omega arith }) right
    (record { lowest = right.above; greatest = right.level; least = omega arith; most = right.total })).1

-- a node that comes first is next, by its spelling
node_next : (level : ℕ) (ts : Trees (List ℕ)) (tops : List Top) → IsNode (contents_of level ts)
    → IsNodeNext (root_of of_segment (Node level ts) ∷ tops) (spelling (contents_of level ts))
node_next level ts tops right =
    let n : Contents = contents_of level ts in
    let top : Top = root_of of_segment (Node level ts) in
    let spells : SpellsNext (top ∷ tops) (spelling n) =
    subst (λ (m : Contents). (spelling n ≡ spelling m) × IsNode m × IsNamed top m) (sym (right_any n right)) (refl, right, record { level = refl; length = refl }) in
    (right.above, refl, spells)

-- what comes first of what a node puts in its place comes first of it
through : (before : List Top) (level : ℕ) (ts : Trees (List ℕ)) (others : List (Tree (List ℕ))) → Ahead before (Node level ts ∷ others)
    → (new : List Top) → new ≡ opened (contents_in (spelling (contents_of level ts))) ++ drop 1 before
    → segments_in (list_of ts ++ others) ≡ segments_in (Node level ts ∷ others) → Leads new (list_of ts ++ others) → Leads before (Node level ts ∷ others)
through before level ts others ahead new is same leads = record {
  segment = leads.segment;
  after = leads.after;
  us = leads.us;
  gives = record {
    next = leads.gives.next;
    walked = (
      spelling (contents_of level ts) ∷ leads.gives.walked.0,
      (
        subst (λ (tops : List Top). IsNodeNext tops (spelling (contents_of level ts))) (sym ahead.tops) (node_next level ts (map (root_of of_segment) others) ahead.each.0.0),
        subst (λ (tops : List Top). Opens leads.gives.walked.0 tops (leads.gives.next ∷ leads.after)) is leads.gives.walked.1,
      ),
    );
    leaf = leads.gives.leaf;
    digest = leads.gives.digest;
    named = leads.gives.named;
    some = leads.gives.some;
  };
  ahead = leads.ahead;
  same = sym same ∙ leads.same;
}

mutual
  lead_tree : (t : Tree (List ℕ)) (others : List (Tree (List ℕ))) (before : List Top) → Ahead before (t ∷ others) → Leads before (t ∷ others)
  lead_tree Empty others before ahead = absurd ahead.each.0
  lead_tree (Leaf segment) others before ahead =
      subst (λ (tops : List Top). Leads tops (Leaf segment ∷ others)) (sym ahead.tops) (record {
        segment = segment;
        after = map (root_of of_segment) others;
        us = others;
        gives = record { next = root_of of_segment (Leaf segment); walked = ([], refl); leaf = refl; digest = refl; named = refl; some = ahead.each.0 };
        ahead = record { tops = refl; each = ahead.each.1 };
        same = flat_map-cons leaves (Leaf segment) others;
      })
  lead_tree (Node level ts) others before ahead =
      let bytes : List ℕ = spelling (contents_of level ts) in
      let new : List Top = opened (contents_in bytes) ++ drop 1 before in
      let law = walk_law before new bytes level ts others (Ok tt) (λ m right named e. (refl, ap contents_in e ∙ right_any m right)) refl ahead refl in
      through before level ts others ahead new refl law.2 (lead_below ts others new law.1 ahead.each.0.0.some)

  lead_below : (ts : Trees (List ℕ)) (others : List (Tree (List ℕ))) (before : List Top) → Ahead before (list_of ts ++ others) → 1 ≤ length (children_of of_segment ts)
      → Leads before (list_of ts ++ others)
  lead_below NoTree others before ahead some = absurd (omega (arith, some))
  lead_below (Then t ts) others before ahead some = lead_tree t (list_of ts ++ others) before ahead

-- ---- what is to come, both ways

rest_of : (a b : List ℕ) (xs ys : List (List ℕ)) → a ∷ xs ≡ b ∷ ys → (a ≡ b) × (xs ≡ ys)
rest_of a b xs ys same = (cc, cc)

-- what comes first
record Nexts (bytes : List ℕ) (rest : List (List ℕ)) (tops : List Top) : Type 0 where
  after : List Top
  gives : GivesLeaf tops bytes after
  rests : Rests rest after

lead_all : (ts : List (Tree (List ℕ))) (tops : List Top) → Ahead tops ts → (bytes : List ℕ) (rest : List (List ℕ)) → bytes ∷ rest ≡ segments_in ts → Nexts bytes rest tops
lead_all [] tops ahead bytes rest is = absurd (let wrong : bytes ∷ rest ≡ [] = is in cc)
lead_all (t ∷ others) tops ahead bytes rest is =
    let leads = lead_tree t others tops ahead in
    let same = rest_of bytes leads.segment rest (segments_in leads.us) (is ∙ leads.same) in
    record {
      after = leads.after;
      gives = subst (λ (b : List ℕ). GivesLeaf tops b leads.after) (sym same.0) leads.gives;
      rests = record { trees = leads.us; ahead = leads.ahead; segments = same.1 };
    }

pub next_leaf : (bytes : List ℕ) (rest : List (List ℕ)) (tops : List Top) → Rests (bytes ∷ rest) tops → (after : List Top) × GivesLeaf tops bytes after × Rests rest after
next_leaf bytes rest tops rests = let all = lead_all rests.trees tops rests.ahead bytes rest rests.segments in (all.after, all.gives, all.rests)

none_left : (ts : List (Tree (List ℕ))) (tops : List Top) → Ahead tops ts → [] ≡ segments_in ts → tops ≡ []
none_left [] tops ahead is = ahead.tops
none_left (t ∷ others) tops ahead is = absurd (let leads = lead_tree t others tops ahead in let wrong : [] ≡ leads.segment ∷ segments_in leads.us = is ∙ leads.same in cc)

pub ends_both : (tops : List Top) → Rests [] tops → tops ≡ []
ends_both tops rests = none_left rests.trees tops rests.ahead rests.segments

no_segments : (ts : List (Tree (List ℕ))) (tops : List Top) → Ahead tops ts → tops ≡ [] → segments_in ts ≡ []
no_segments [] tops ahead none = refl
no_segments (t ∷ others) tops ahead none =
    absurd (let wrong : root_of of_segment t ∷ map (root_of of_segment) others ≡ [] = sym ahead.tops ∙ none in cc)

pub ends_back : (rest : List (List ℕ)) (tops : List Top) → Rests rest tops → tops ≡ [] → rest ≡ []
ends_back rest tops rests none = rests.segments ∙ no_segments rests.trees tops rests.ahead none

some_left : (ts : List (Tree (List ℕ))) (tops : List Top) → Ahead tops ts → (bytes : List ℕ) (rest : List (List ℕ)) → bytes ∷ rest ≡ segments_in ts
    → (t : Top) × ((more : List Top) × (tops ≡ t ∷ more))
some_left [] tops ahead bytes rest is = absurd (let wrong : bytes ∷ rest ≡ [] = is in cc)
some_left (t ∷ others) tops ahead bytes rest is = (root_of of_segment t, (map (root_of of_segment) others, ahead.tops))

pub more_both : (bytes : List ℕ) (rest : List (List ℕ)) (tops : List Top) → Rests (bytes ∷ rest) tops → (t : Top) × ((more : List Top) × (tops ≡ t ∷ more))
more_both bytes rest tops rests = some_left rests.trees tops rests.ahead bytes rest rests.segments

-- ---- where a file begins

start_by : (t : Top) (no_bytes flat : Bool) → (t.length == 0) ≡ no_bytes → (t.level == 0) ≡ flat → 1 ≤ t.length + t.level
    → (if no_bytes then (if flat then [] else t ∷ []) else t ∷ []) ≡ t ∷ []
start_by t true true none low some = absurd (omega (arith, eqb-true t.length 0 none, eqb-true t.level 0 low, some))
start_by t true false none low some = refl
start_by t false flat none low some = refl

start_some : (t : Top) → 1 ≤ t.length + t.level → start_of t ≡ t ∷ []
start_some t some = start_by t (t.length == 0) (t.level == 0) refl refl some

start_of_tree : (t : Tree (List ℕ)) → AllByRecursion IsTree (trees_in t) → start_of (root_of of_segment t) ≡ map (root_of of_segment) (trees_in t)
start_of_tree Empty right = refl
start_of_tree (Leaf segment) right = start_some (root_of of_segment (Leaf segment)) (omega (arith, right.0))
start_of_tree (Node level ts) right = start_some (root_of of_segment (Node level ts)) (omega (arith, right.0.0.above))

segments_of_tree : (t : Tree (List ℕ)) → segments_in (trees_in t) ≡ leaves t
segments_of_tree Empty = refl
segments_of_tree (Leaf segment) = flat_map-cons leaves (Leaf segment) []
segments_of_tree (Node level ts) = flat_map-cons leaves (Node level ts) [] ∙ append-nil (leaves (Node level ts))

-- all of a file, and all of its root
pub start_both : (file : List ℕ) → length file ≤ MOST_FILE → Rests (segments_of file) (start_of (top_of (store.root_of file)))
start_both file few =
    let trees : AllByRecursion IsTree (trees_in (file_tree file)) = right_file file few in
    let top : top_of (store.root_of file) ≡ root_of of_segment (file_tree file) = ap top_of (root_of_tree file few) in
    record {
      trees = trees_in (file_tree file);
      ahead = record { tops = ap start_of top ∙ start_of_tree (file_tree file) trees; each = trees };
      segments = sym (segments_of_tree (file_tree file) ∙ leaves_of_file file few);
    }
