use Rattle.merkle_file.proofs.Prelude.{◌≡◌, ℕ, ◌+◌, ◌-◌, ◌*◌, ◌++◌, ◌∷◌, [], List, drop, length, map, reverse, refl, sym, ap, subst, ◌∙◌, arith, drop-length, append-nil, Child, Top, child_in, below}
use Rattle.merkle_file.specs.Reading.{children_in}
use Rattle.merkle_file.proofs.Walking.{pushed_child}
use Rattle.merkle_file.proofs.stack.push_children.Goals as goal
use Rattle.merkle_file.proofs.InPlace.{child_read, count_read}

none_yet : (n level : ℕ) (all : List Child) (before : List Top) → length all ≡ n → before ≡ before ++ reverse (map (below level) (drop n all))
none_yet n level all before len =
    sym (append-nil before) ∙ ap (λ (cs : List Child). before ++ reverse (map (below level) cs)) (sym (drop-length all) ∙ ap (λ (k : ℕ). drop k all) len)

pub loop-index-init : goal.loop-index-init
loop-index-init c = record {
  items = none_yet c.args.count c.args.level (children_in c.args.count c.args.entries.now) c.args.stack.now.items (count_read c.args.count c.args.entries.now);
  room = c.requires.room;
  within = omega arith;
  capacity = refl;
}

pub loop-index-preserved : goal.loop-index-preserved
loop-index-preserved c =
    let i = c.loop-index.index - 1 in
    let next : i + 1 ≡ c.loop-index.index = omega (arith, c.loop-index-test.true) in
    let all = children_in c.args.count c.args.entries.now in
    let front = child_read c.args.count i c.args.entries.now (omega (arith, next, c.loop-index.invariant.within)) in
    let pushed = pushed_child c.args.stack.now.items c.args.level all i (child_in (drop (40 * i) c.args.entries.now)) front in
    record {
      items = rw (c.push_reserved.ensures.items, c.loop-index.invariant.items, c.tree_below.ensures, c.read_child.ensures, c.split_at.ensures.back)
          (subst (λ (k : ℕ). (c.args.stack.now.items ++ reverse (map (below c.args.level) (drop k all))) ++ below c.args.level (child_in (drop (40 * i) c.args.entries.now)) ∷ [] ≡
          c.args.stack.now.items ++ reverse (map (below c.args.level) (drop i all))) next pushed);
      room = omega (arith, c.push_reserved.ensures.len, c.push_reserved.ensures.capacity, c.loop-index.invariant.room, next);
      within = omega (arith, c.loop-index.invariant.within);
      capacity = c.push_reserved.ensures.capacity ∙ c.loop-index.invariant.capacity;
    }
