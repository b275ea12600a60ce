use Rattle.merkle_file.proofs.Prelude.{◌+◌, List, drop, subst, arith, drop_all, Child, CanPlace, items_of}
use Rattle.merkle_file.proofs.Placing.{can_not, can_take, length-items, row_at, way_begins, way_ends, way_goes_on}
use Rattle.merkle_file.proofs.rows.placement_of.Goals as goal

pub loop-level-init : goal.loop-level-init
loop-level-init c = rw c.new-nodes.ensures.items (way_begins c.args.leaf (items_of c.args.rows.now) c.requires)

pub returns-then-row-lt-MOST_CHILDREN : goal.returns-then-row-lt-MOST_CHILDREN
returns-then-row-lt-MOST_CHILDREN c =
    let row = c.as_slice-row.result.now in
    let front = row_at c.args.rows.now c.loop-level.level c.index-rows-level.result row c.loop-level-test.true c.index-rows-level.is c.as_slice-row.ensures.value in
    way_ends c.args.leaf c.loop-level.level c.loop-level.child (items_of c.args.rows.now) c.loop-level.nodes.items row
    c.loop-level.invariant (omega (arith, length-items c.args.rows.now, c.loop-level-test.true)) front (omega (arith, c.if-row-lt-MOST_CHILDREN.true))

pub node_over-requires : goal.node_over-requires
node_over-requires c =
    let row = c.as_slice-row.result.now in
    let front = row_at c.args.rows.now c.loop-level.level c.index-rows-level.result row c.loop-level-test.true c.index-rows-level.is c.as_slice-row.ensures.value in
    can_take c.loop-level.level c.loop-level.child row (drop (c.loop-level.level + 1) (items_of c.args.rows.now))
    (subst (λ (rows : List (List Child)). CanPlace c.loop-level.level c.loop-level.child rows) front c.loop-level.invariant.can)

pub loop-level-preserved : goal.loop-level-preserved
loop-level-preserved c =
    let row = c.as_slice-row.result.now in
    let front = row_at c.args.rows.now c.loop-level.level c.index-rows-level.result row c.loop-level-test.true c.index-rows-level.is c.as_slice-row.ensures.value in
    let can = subst (λ (rows : List (List Child)). CanPlace c.loop-level.level c.loop-level.child rows) front c.loop-level.invariant.can in
    let goes = way_goes_on c.loop-level.level c.loop-level.child (items_of c.args.rows.now) c.loop-level.nodes.items _ row c.loop-level.invariant front
    (omega (arith, can.right.0, c.if-row-lt-MOST_CHILDREN.false)) in
    rw (c.in_ok-child.ensures, c.in_ok-push_back.ensures.items, c.in_ok-node.ensures) goes

pub unreachable-requires : goal.unreachable-requires
unreachable-requires c =
    can_not c.loop-level.level c.loop-level.child
    (subst (λ (rows : List (List Child)). CanPlace c.loop-level.level c.loop-level.child rows)
    (drop_all c.loop-level.level (items_of c.args.rows.now) (omega (arith, length-items c.args.rows.now, c.loop-level-test.false))) c.loop-level.invariant.can)
