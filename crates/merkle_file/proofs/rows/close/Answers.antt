use Rattle.merkle_file.proofs.Prelude.{◌+◌, List, [], drop, get_or, sym, ◌∙◌, ap, subst, option_to_list, Child, top_of, AreNode, CanClose, items_of}
use Rattle.merkle_file.specs.Steps.{close}
use Rattle.merkle_file.proofs.Placing.{front_of}
use Rattle.merkle_file.proofs.Closing.{are_node, children_at, closing_begins, loop_ends, loop_goes_on}
use Rattle.merkle_file.proofs.rows.close.Goals as goal

pub loop-level-init : goal.loop-level-init
loop-level-init c = rw c.new-nodes.ensures.items (closing_begins (items_of c.args.rows.now) c.requires)

pub returns-then-is_root-clause-top : goal.returns-then-is_root-clause-top
returns-then-is_root-clause-top c =
    let carried = option_to_list c.loop-level.carried in
    let children = c.in_ok-children.children.items in
    let all = close 0 [] (items_of c.args.rows.now) in
    let is = children_at c.args.rows.now c.loop-level.level c.index-rows-level.result c.deref.result.now carried children c.index-rows-level.is c.deref.ensures.value
    c.in_ok-children.ensures in
    let ends = loop_ends c.loop-level.level carried c.args.rows.now c.index-rows-level.result c.split_at.result.1.now children c.loop-level.nodes.items all.top all.nodes
    c.loop-level.invariant c.loop-level-test.true is c.split_at.ensures.back (rw (← c.deref-in-loop-level.ensures.value) (sym c.is_root.ensures ∙ c.if-is_root.true)) in
    c.top_of-top.ensures ∙ ap (top_of c.loop-level.level) c.deref-then-is_root.ensures.value ∙ ends.0

pub returns-then-is_root-clause-nodes : goal.returns-then-is_root-clause-nodes
returns-then-is_root-clause-nodes c =
    let carried = option_to_list c.loop-level.carried in
    let children = c.in_ok-children.children.items in
    let all = close 0 [] (items_of c.args.rows.now) in
    let is = children_at c.args.rows.now c.loop-level.level c.index-rows-level.result c.deref.result.now carried children c.index-rows-level.is c.deref.ensures.value
    c.in_ok-children.ensures in
    (loop_ends c.loop-level.level carried c.args.rows.now c.index-rows-level.result c.split_at.result.1.now children c.loop-level.nodes.items all.top all.nodes
    c.loop-level.invariant c.loop-level-test.true is c.split_at.ensures.back (rw (← c.deref-in-loop-level.ensures.value) (sym c.is_root.ensures ∙ c.if-is_root.true))).1

pub close_row-requires : goal.close_row-requires
close_row-requires c =
    let i = c.loop-level.level in
    let carried = option_to_list c.loop-level.carried in
    let is = children_at c.args.rows.now i c.index-rows-level.result c.deref.result.now carried c.in_ok-children.children.items c.index-rows-level.is c.deref.ensures.value
    c.in_ok-children.ensures in
    let front = front_of c.args.rows.now i c.index-rows-level.result c.loop-level-test.true in
    subst (λ (cs : List Child). AreNode (i + 1) cs) (sym is)
    (are_node i carried (get_or c.args.rows.now i c.index-rows-level.result).items (drop (i + 1) (items_of c.args.rows.now))
    (subst (λ (rows : List (List Child)). CanClose i carried rows) front c.loop-level.invariant.can))

pub loop-level-preserved : goal.loop-level-preserved
loop-level-preserved c =
    let carried = option_to_list c.loop-level.carried in
    let children = c.in_ok-children.children.items in
    let all = close 0 [] (items_of c.args.rows.now) in
    let is = children_at c.args.rows.now c.loop-level.level c.index-rows-level.result c.deref.result.now carried children c.index-rows-level.is c.deref.ensures.value
    c.in_ok-children.ensures in
    loop_goes_on c.loop-level.level carried c.args.rows.now c.index-rows-level.result c.split_at.result.1.now children c.loop-level.nodes.items c.close_row.new.finished.items
    all.top all.nodes c.in_ok-carried.carried
    c.loop-level.invariant c.loop-level-test.true is c.split_at.ensures.back (rw (← c.deref-in-loop-level.ensures.value) (sym c.is_root.ensures ∙ c.if-is_root.false))
    c.in_ok-carried.ensures
