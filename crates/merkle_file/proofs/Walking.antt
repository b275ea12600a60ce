-- The trees to come on a walk, and the room that they take.
use Rattle.merkle_file.proofs.Prelude.{◌≡◌, ℕ, suc, ◌+◌, ◌-◌, ◌*◌, ◌<◌, ◌≤◌, List, [], ◌∷◌, ◌++◌, length, map, reverse, take, drop, get_or, refl, sym, ap, subst, ◌∙◌, append_assoc, arith, length-append, reverse-append, take-append-drop, drop_more, drop-length, Child, Top, MOST_CHILDREN, Contents, IsNode, IsAsked, IsWithin, HasRoom, below, opened}
use Rattle.merkle_file.specs.declared.stack.TheConstants.{STACK}
use Rattle.merkle_file.specs.Walk.{IsNamed, asked_for}

-- ---- the children that bytes spell, one by one

pub pushed_child : (before : List Top) (level : ℕ) (all : List Child) (i : ℕ) (c : Child) → drop i all ≡ c ∷ drop (i + 1) all
    → (before ++ reverse (map (below level) (drop (i + 1) all))) ++ below level c ∷ [] ≡ before ++ reverse (map (below level) (drop i all))
pushed_child before level all i c e =
    let others : List Top = map (below level) (drop (i + 1) all) in
    append_assoc before (reverse others) (below level c ∷ [])
    ∙ ap (λ (ts : List Top). before ++ ts) (sym (reverse-append (below level c ∷ []) others) ∙ ap (λ (cs : List Child). reverse (map (below level) cs)) (sym e))

-- ---- room

room_below : (level : ℕ) (cs : List Child) (ts : List Top) → 1 ≤ level → length cs ≤ MOST_CHILDREN → length ts + (MOST_CHILDREN - 1) * level < STACK → HasRoom ts →
    HasRoom (map (below level) cs ++ ts)
room_below level [] ts some few room rest = rest
room_below level (c ∷ cs) ts some few room rest =
    (λ _. omega (arith, length-append (map (below level) cs) ts, length_map cs, room, few, some), room_below level cs ts some (omega arith) room rest)
  where
    length_map : (ds : List Child) → length (map (below level) ds) ≡ length ds
    length_map [] = refl
    length_map (d ∷ ds) = ap suc (length_map ds)

-- a node in the place of the tree that it is
pub record IsOpened (n : Contents) (left : List Top) : Type 0 where
  pub few : length left + MOST_CHILDREN ≤ STACK
  pub room : HasRoom (opened n ++ left)

open_tree : (t : Top) (ts : List Top) (n : Contents) → HasRoom (t ∷ ts) → IsNode n → n.level ≡ t.level → IsOpened n ts
open_tree t ts n room right level =
    let here = room.0 (omega (arith, right.level, level)) in
    record {
      few = omega (arith, here, right.above, level);
      room = room_below n.level n.children ts right.above right.most (omega (arith, here, level)) room.1;
    }

-- the last element comes first in the reversed list
pub reverse_last : (items : List Top) (d : Top) → 0 < length items → reverse items ≡ get_or items (length items - 1) d ∷ reverse (take (length items - 1) items)
reverse_last items d some =
    let i : ℕ = length items - 1 in
    let lt : i < length items = omega arith in
    let past : drop (i + 1) items ≡ [] = ap (λ (k : ℕ). drop k items) (omega arith) ∙ drop-length items in
    let parts : items ≡ take i items ++ get_or items i d ∷ [] =
    sym (take-append-drop i items) ∙ ap (λ (ts : List Top). take i items ++ ts) (drop_more items i d lt ∙ ap (λ (ts : List Top). get_or items i d ∷ ts) past) in
    ap reverse parts ∙ reverse-append (take i items) (get_or items i d ∷ [])

-- the node that is next, as it was asked for
pub is_named : (t : Top) (n : Contents) → IsNode n → IsWithin (asked_for t) n → IsNamed t n
is_named t n right within = record { level = omega (arith, within.lowest, within.greatest); length = omega (arith, within.least, within.most) }

pub is_within : (t : Top) (n : Contents) → IsNode n → IsNamed t n → IsWithin (asked_for t) n
is_within t n right named = record {
  lowest = omega (arith, named.level);
  greatest = omega (arith, named.level, right.level);
  least = omega (arith, named.length);
  most = omega (arith, named.length, right.total);
}

pub opened_next : (items left : List Top) (t : Top) (n : Contents) → reverse items ≡ t ∷ reverse left → HasRoom (reverse items) → IsNode n → IsNamed t n → IsOpened n (reverse left)
opened_next items left t n e room right named = open_tree t (reverse left) n (subst HasRoom e room) right named.level

pub may_ask : (t : Top) → 1 ≤ t.level → IsAsked (asked_for t)
may_ask t some = record { lowest = some; greatest = omega arith; most = omega arith }
